-- The records of the front of a text are those of the text, cut.
use Rattle.std.proofs.Common.{option_map, ◌≡◌, ◌⊎◌, ◌∙◌, ◌<◌, ◌≤◌, ◌+◌, ◌-◌, ◌==◌, ℕ, zero, suc, List, [], ◌∷◌, ◌++◌, length, take, Option, Some, None, Bool, true, false, if◌then◌else◌, nat_le, arith, refl, sym, ap, subst, inl, inr, eqb-true, le-leb, append_assoc, length-append}
use Rattle.std.proofs.lemmas.Bool.{cases_Bool, lt-leb}
use Rattle.std.proofs.Math.Seq.{take-append_seam}
use Rattle.csv.specs.Machine.{Read, next_record, step, is_end, ends_at_end, fields_after, field_after}
use Rattle.csv.specs.Reading.{records_from, default_config, strip_bom}
use Rattle.csv.specs.declared.parser.State.{State}
use Rattle.csv.specs.declared.parser.State.TheVariants as st
use Rattle.csv.specs.declared.parser.Action.{Action}
use Rattle.csv.specs.declared.parser.Action.TheVariants as act
use Rattle.kt_text.specs.declared.capped.Spot.{Spot}
use Rattle.kt_text.specs.declared.capped.Spot.TheVariants.{Start, AfterOne, AfterTwo, Open, Plain, Quoted}
use Rattle.kt_text.specs.Capped.{front, spot_after, room_after}
use Rattle.kt_text.specs.Records.{cut_at, text_records, records_left}
use Rattle.kt_text.proofs.CappedFacts.{front_ended}
use Rattle.kt_text.proofs.RecordFacts.{consumes, left-none, left-some}

-- the states of a reader for which nothing is escaped and nothing is a comment
abbrev IsUsual : State → Type 0
IsUsual st.InEscape = ⊥
IsUsual st.InComment = ⊥
IsUsual _ = Unit {0}

-- the states between records
abbrev IsBetween : State → Type 0
IsBetween st.StartRecord = Unit {0}
IsBetween st.AfterCr = Unit {0}
IsBetween _ = ⊥

-- where a text goes on in a state
abbrev spot_of : State → Spot
spot_of st.InField = Plain
spot_of st.InQuoted = Quoted
spot_of _ = Open

-- a byte adds to the record at hand, or stands between records
record Stays (width room : ℕ) (s : State) (c : ℕ) : Type 0 where
  next : State
  action : Action
  steps : step default_config s c ≡ (next, action)
  keeps : (fields : List (List ℕ)) (field : List ℕ) → fields_after action fields field ≡ fields
  going : is_end action ≡ false
  spot : spot_after (spot_of s) c ≡ spot_of next
  room_is : room_after width (spot_of s) room c ≡ room
  usual : IsUsual next
  between : IsBetween next → IsBetween s

-- a byte ends the record
record Ends (width room : ℕ) (s : State) (c : ℕ) : Type 0 where
  next : State
  steps : step default_config s c ≡ (next, act.EndRecord)
  spot : spot_after (spot_of s) c ≡ spot_of next
  room_is : room_after width (spot_of s) room c ≡ width
  between : IsBetween next

-- a comma ends the field
record Parts (width room : ℕ) (s : State) (c : ℕ) : Type 0 where
  steps : step default_config s c ≡ (st.StartField, act.EndField)
  spot : spot_after (spot_of s) c ≡ Open
  room_is : room_after width (spot_of s) room c ≡ room - 1

abbrev Moves : ℕ → ℕ → State → ℕ → Type 0
Moves width room s c = Stays width room s c ⊎ (Ends width room s c ⊎ Parts width room s c)

-- a byte that is no quote, no comma and no end of a line
record IsOther (c : ℕ) : Type 0 where
  quote : (c == 34) ≡ false
  comma : (c == 44) ≡ false
  return : (c == 13) ≡ false
  feed : (c == 10) ≡ false

stay : (width room : ℕ) (s : State) (c : ℕ) (next : State) → step default_config s c ≡ (next, act.Copy) → spot_after (spot_of s) c ≡ spot_of next → room_after width (spot_of s) room c ≡ room → IsUsual next
    → (IsBetween next → IsBetween s) → Moves width room s c
stay width room s c next e p r u b = inl (record { next = next; action = act.Copy; steps = e; keeps = λ fields field. refl; going = refl; spot = p; room_is = r; usual = u; between = b })

skip : (width room : ℕ) (s : State) (c : ℕ) (next : State) → step default_config s c ≡ (next, act.Skip) → spot_after (spot_of s) c ≡ spot_of next → room_after width (spot_of s) room c ≡ room → IsUsual next
    → (IsBetween next → IsBetween s) → Moves width room s c
skip width room s c next e p r u b = inl (record { next = next; action = act.Skip; steps = e; keeps = λ fields field. refl; going = refl; spot = p; room_is = r; usual = u; between = b })

end : (width room : ℕ) (s : State) (c : ℕ) (next : State) → step default_config s c ≡ (next, act.EndRecord) → spot_after (spot_of s) c ≡ spot_of next → room_after width (spot_of s) room c ≡ width → IsBetween next
    → Moves width room s c
end width room s c next e p r b = inr (inl (record { next = next; steps = e; spot = p; room_is = r; between = b }))

part : (width room : ℕ) (s : State) (c : ℕ) → step default_config s c ≡ (st.StartField, act.EndField) → spot_after (spot_of s) c ≡ Open → room_after width (spot_of s) room c ≡ room - 1 → Moves width room s c
part width room s c e p r = inr (inr (record { steps = e; spot = p; room_is = r }))

at_quote : (width room : ℕ) (s : State) → IsUsual s → Moves width room s 34
at_quote width room st.StartRecord u = skip width room _ _ st.InQuoted refl refl refl tt (λ b. tt)
at_quote width room st.StartField u = skip width room _ _ st.InQuoted refl refl refl tt (λ b. b)
at_quote width room st.InField u = stay width room _ _ st.InField refl refl refl tt (λ b. b)
at_quote width room st.InQuoted u = skip width room _ _ st.AfterQuote refl refl refl tt (λ b. b)
at_quote width room st.AfterQuote u = stay width room _ _ st.InQuoted refl refl refl tt (λ b. b)
at_quote width room st.InEscape u = absurd u
at_quote width room st.InComment u = absurd u
at_quote width room st.AfterCr u = skip width room _ _ st.InQuoted refl refl refl tt (λ b. absurd b)

at_comma : (width room : ℕ) (s : State) → IsUsual s → Moves width room s 44
at_comma width room st.StartRecord u = part width room _ _ refl refl refl
at_comma width room st.StartField u = part width room _ _ refl refl refl
at_comma width room st.InField u = part width room _ _ refl refl refl
at_comma width room st.InQuoted u = stay width room _ _ st.InQuoted refl refl refl tt (λ b. b)
at_comma width room st.AfterQuote u = part width room _ _ refl refl refl
at_comma width room st.InEscape u = absurd u
at_comma width room st.InComment u = absurd u
at_comma width room st.AfterCr u = part width room _ _ refl refl refl

at_return : (width room : ℕ) (s : State) → IsUsual s → (IsBetween s → room ≡ width) → Moves width room s 13
at_return width room st.StartRecord u w = skip width room _ _ st.StartRecord refl refl (sym (w tt)) tt (λ b. tt)
at_return width room st.StartField u w = end width room _ _ st.AfterCr refl refl refl tt
at_return width room st.InField u w = end width room _ _ st.AfterCr refl refl refl tt
at_return width room st.InQuoted u w = stay width room _ _ st.InQuoted refl refl refl tt (λ b. b)
at_return width room st.AfterQuote u w = end width room _ _ st.AfterCr refl refl refl tt
at_return width room st.InEscape u w = absurd u
at_return width room st.InComment u w = absurd u
at_return width room st.AfterCr u w = skip width room _ _ st.StartRecord refl refl (sym (w tt)) tt (λ b. tt)

at_feed : (width room : ℕ) (s : State) → IsUsual s → (IsBetween s → room ≡ width) → Moves width room s 10
at_feed width room st.StartRecord u w = skip width room _ _ st.StartRecord refl refl (sym (w tt)) tt (λ b. tt)
at_feed width room st.StartField u w = end width room _ _ st.StartRecord refl refl refl tt
at_feed width room st.InField u w = end width room _ _ st.StartRecord refl refl refl tt
at_feed width room st.InQuoted u w = stay width room _ _ st.InQuoted refl refl refl tt (λ b. b)
at_feed width room st.AfterQuote u w = end width room _ _ st.StartRecord refl refl refl tt
at_feed width room st.InEscape u w = absurd u
at_feed width room st.InComment u w = absurd u
at_feed width room st.AfterCr u w = skip width room _ _ st.StartRecord refl refl (sym (w tt)) tt (λ b. tt)

at_other : (width room : ℕ) (s : State) (c : ℕ) → IsUsual s → IsOther c → Moves width room s c
at_other width room st.StartRecord c u o =
    stay width room _ c st.InField (rw (o.quote, o.comma, o.return, o.feed) refl) (rw (o.quote, o.comma, o.return, o.feed) refl) (rw (o.comma, o.return, o.feed) refl) tt (λ b. absurd b)
at_other width room st.StartField c u o =
    stay width room _ c st.InField (rw (o.quote, o.comma, o.return, o.feed) refl) (rw (o.quote, o.comma, o.return, o.feed) refl) (rw (o.comma, o.return, o.feed) refl) tt (λ b. b)
at_other width room st.InField c u o = stay width room _ c st.InField (rw (o.comma, o.return, o.feed) refl) (rw (o.comma, o.return, o.feed) refl) (rw (o.comma, o.return, o.feed) refl) tt (λ b. b)
at_other width room st.InQuoted c u o = stay width room _ c st.InQuoted (rw o.quote refl) (rw o.quote refl) refl tt (λ b. b)
at_other width room st.AfterQuote c u o =
    stay width room _ c st.InField (rw (o.quote, o.comma, o.return, o.feed) refl) (rw (o.quote, o.comma, o.return, o.feed) refl) (rw (o.comma, o.return, o.feed) refl) tt (λ b. b)
at_other width room st.InEscape c u o = absurd u
at_other width room st.InComment c u o = absurd u
at_other width room st.AfterCr c u o =
    stay width room _ c st.InField (rw (o.quote, o.comma, o.return, o.feed) refl) (rw (o.quote, o.comma, o.return, o.feed) refl) (rw (o.comma, o.return, o.feed) refl) tt (λ b. absurd b)

-- what a byte does
moves : (width room : ℕ) (s : State) (c : ℕ) → IsUsual s → (IsBetween s → room ≡ width) → Moves width room s c
moves width room s c u w =
    elim (cases_Bool (c == 34)) [
      | inl quote ↦ subst (λ (b : ℕ). Moves width room s b) (sym (eqb-true c 34 quote)) (at_quote width room s u)
      | inr quote ↦ elim (cases_Bool (c == 44)) [
        | inl comma ↦ subst (λ (b : ℕ). Moves width room s b) (sym (eqb-true c 44 comma)) (at_comma width room s u)
        | inr comma ↦ elim (cases_Bool (c == 13)) [
          | inl return ↦ subst (λ (b : ℕ). Moves width room s b) (sym (eqb-true c 13 return)) (at_return width room s u w)
          | inr return ↦ elim (cases_Bool (c == 10)) [
            | inl feed ↦ subst (λ (b : ℕ). Moves width room s b) (sym (eqb-true c 10 feed)) (at_feed width room s u w)
            | inr feed ↦ at_other width room s c u (record { quote = quote; comma = comma; return = return; feed = feed })
          ]
        ]
      ]
    ]

-- one byte of a record
goes : (s next : State) (a : Action) (f : List (List ℕ)) (p : List ℕ) (c : ℕ) (rest : List ℕ) → step default_config s c ≡ (next, a) → is_end a ≡ false
    → next_record default_config s f p (c ∷ rest) ≡ next_record default_config next (fields_after a f p) (field_after a c p) rest
unfolding next_record
goes s next a f p c rest e n = rw (e, n) refl

finishes : (s next : State) (f : List (List ℕ)) (p : List ℕ) (c : ℕ) (rest : List ℕ) → step default_config s c ≡ (next, act.EndRecord) → next_record default_config s f p (c ∷ rest) ≡ Some (f ++ p ∷ [], next, rest)
unfolding next_record
finishes s next f p c rest e = rw e refl

keeps_on : (width r : ℕ) (spot next : Spot) (room c : ℕ) (rest : List ℕ) → spot_after spot c ≡ next → room_after width spot (suc r) c ≡ room → front width spot (suc r) (c ∷ rest) ≡ c ∷ front width next room rest
unfolding front
keeps_on width r spot next room c rest e n = rw (e, n) refl

-- a read, cut
abbrev cut_read : ℕ → Option Read → Option Read
cut_read width None = None
cut_read width (Some (fields, s, rest)) =
    if nat_le (length fields) width then Some (fields, s, front width (spot_of s) width rest) else Some (take width fields ++ [] ∷ [], st.StartRecord, [])

-- a read that takes no more fields than the width allows
cut_read-within : (width : ℕ) (fields : List (List ℕ)) (s : State) (rest : List ℕ) → length fields ≤ width → cut_read width (Some (fields, s, rest)) ≡ Some (fields, s, front width (spot_of s) width rest)
cut_read-within width fields s rest h = rw (le-leb (length fields) width h) refl

at_end : (width r : ℕ) (s : State) (f : List (List ℕ)) (p : List ℕ) → suc r + length f ≡ width → next_record default_config s f p [] ≡ cut_read width (next_record default_config s f p [])
unfolding next_record front
at_end width r s f p w = by_end (ends_at_end s) refl
  where
    few : length (f ++ p ∷ []) ≤ width
    few = omega (arith, w, length-append f (p ∷ []))

    some : 0 < width
    some = omega (arith, w)

    by_end : (b : Bool) → ends_at_end s ≡ b → next_record default_config s f p [] ≡ cut_read width (next_record default_config s f p [])
    by_end true e = rw (e, le-leb (length (f ++ p ∷ [])) width few, front_ended width Open width some) refl
    by_end false e = rw e refl

-- a read in a record takes more fields than it had
record HasMore (f : List (List ℕ)) (o : Option Read) : Type 0 where
  read : Read
  is : o ≡ Some read
  field : List ℕ
  fields : List (List ℕ)
  begins : read.0 ≡ f ++ field ∷ fields

in_record : (s : State) → IsUsual s → (IsBetween s → ⊥) → ends_at_end s ≡ true
in_record st.StartRecord u b = absurd (b tt)
in_record st.StartField u b = refl
in_record st.InField u b = refl
in_record st.InQuoted u b = refl
in_record st.AfterQuote u b = refl
in_record st.InEscape u b = refl
in_record st.InComment u b = refl
in_record st.AfterCr u b = absurd (b tt)

has_more : (s : State) (f : List (List ℕ)) (p xs : List ℕ) → IsUsual s → (IsBetween s → ⊥) → HasMore f (next_record default_config s f p xs)
unfolding next_record
has_more s f p [] u b = record { read = (f ++ p ∷ [], st.StartRecord, []); is = rw (in_record s u b) refl; field = p; fields = []; begins = refl }
has_more s f p (c ∷ rest) u b =
    elim (moves 1 1 s c u (λ x. refl)) [
      | inl m ↦ subst (HasMore f) (sym (goes s m.next m.action f p c rest m.steps m.going ∙ ap (λ (g : List (List ℕ)). next_record default_config m.next g (field_after m.action c p) rest) (m.keeps f p)))
          (has_more m.next f (field_after m.action c p) rest m.usual (λ x. b (m.between x)))
      | inr (inl m) ↦ subst (HasMore f) (sym (finishes s m.next f p c rest m.steps)) (record { read = (f ++ p ∷ [], m.next, rest); is = refl; field = p; fields = []; begins = refl })
      | inr (inr m) ↦ subst (HasMore f) (sym (goes s st.StartField act.EndField f p c rest m.steps refl)) (longer (next_record default_config st.StartField (f ++ p ∷ []) [] rest) (has_more st.StartField (f ++ p ∷ []) [] rest tt (λ x. x)))
    ]
  where
    longer : (o : Option Read) → HasMore (f ++ p ∷ []) o → HasMore f o
    longer o h = record { read = h.read; is = h.is; field = p; fields = h.field ∷ h.fields; begins = h.begins ∙ append_assoc f (p ∷ []) (h.field ∷ h.fields) }

-- it is cut
cut_more : (width : ℕ) (f : List (List ℕ)) (o : Option Read) → length f ≡ width → HasMore f o → cut_read width o ≡ Some (f ++ [] ∷ [], st.StartRecord, [])
cut_more width f o w h =
    let cut : take width h.read.0 ≡ f = ap (λ (n : ℕ). take n h.read.0) (sym w) ∙ ap (take (length f)) h.begins ∙ take-append_seam f (h.field ∷ h.fields) in
    let wide : width < length h.read.0 = rw h.begins (omega (arith, w, length-append f (h.field ∷ h.fields))) in
    rw (h.is, lt-leb (length h.read.0) width wide, cut) refl

-- what is read of a front is what is read of the text, cut
cut_next : (width r : ℕ) (s : State) (f : List (List ℕ)) (p xs : List ℕ) → IsUsual s → suc r + length f ≡ width → (IsBetween s → f ≡ [])
    → next_record default_config s f p (front width (spot_of s) (suc r) xs) ≡ cut_read width (next_record default_config s f p xs)
unfolding next_record front
cut_next width r s f p [] u w b = at_end width r s f p w
cut_next width r s f p (c ∷ rest) u w b =
    elim (moves width (suc r) s c u (λ x. full (b x))) [
      | inl m ↦
          let same = ap (λ (g : List (List ℕ)). next_record default_config m.next g (field_after m.action c p) rest) (m.keeps f p) in
          ap (next_record default_config s f p) (keeps_on width r (spot_of s) (spot_of m.next) (suc r) c rest m.spot m.room_is)
          ∙ goes s m.next m.action f p c (front width (spot_of m.next) (suc r) rest) m.steps m.going
          ∙ ap (λ (g : List (List ℕ)). next_record default_config m.next g (field_after m.action c p) (front width (spot_of m.next) (suc r) rest)) (m.keeps f p)
          ∙ cut_next width r m.next f (field_after m.action c p) rest m.usual w (λ x. b (m.between x))
          ∙ ap (cut_read width) (sym (goes s m.next m.action f p c rest m.steps m.going ∙ same))
      | inr (inl m) ↦
          ap (next_record default_config s f p) (keeps_on width r (spot_of s) (spot_of m.next) width c rest m.spot m.room_is)
          ∙ finishes s m.next f p c (front width (spot_of m.next) width rest) m.steps
          ∙ sym (cut_read-within width (f ++ p ∷ []) m.next rest (omega (arith, w, length-append f (p ∷ []))))
          ∙ ap (cut_read width) (sym (finishes s m.next f p c rest m.steps))
      | inr (inr m) ↦
          ap (next_record default_config s f p) (keeps_on width r (spot_of s) Open r c rest m.spot (m.room_is ∙ less))
          ∙ goes s st.StartField act.EndField f p c (front width Open r rest) m.steps refl
          ∙ parted r w (λ q v. cut_next width q st.StartField (f ++ p ∷ []) [] rest tt v (λ x. absurd x))
          ∙ ap (cut_read width) (sym (goes s st.StartField act.EndField f p c rest m.steps refl))
    ]
  where
    less : suc r - 1 ≡ r
    less = omega arith

    full : f ≡ [] → suc r ≡ width
    full none = omega (arith, w, ap length none)

    parted : (q : ℕ) → suc q + length f ≡ width
        → ((k : ℕ) → suc k + length (f ++ p ∷ []) ≡ width
        → next_record default_config st.StartField (f ++ p ∷ []) [] (front width Open (suc k) rest) ≡ cut_read width (next_record default_config st.StartField (f ++ p ∷ []) [] rest))
        → next_record default_config st.StartField (f ++ p ∷ []) [] (front width Open q rest) ≡ cut_read width (next_record default_config st.StartField (f ++ p ∷ []) [] rest)
    parted zero v again =
        sym (cut_more width (f ++ p ∷ []) (next_record default_config st.StartField (f ++ p ∷ []) [] rest) (omega (arith, v, length-append f (p ∷ []))) (has_more st.StartField (f ++ p ∷ []) [] rest tt (λ x. x)))
    parted (suc k) v again = again k (omega (arith, v, length-append f (p ∷ [])))

-- a read ends between records
lands : (s : State) (f : List (List ℕ)) (p xs : List ℕ) (q : Read) → IsUsual s → next_record default_config s f p xs ≡ Some q → IsBetween q.1
unfolding next_record
lands s f p [] q u e = by_end (ends_at_end s) refl e
  where
    by_end : (b : Bool) → ends_at_end s ≡ b → next_record default_config s f p [] ≡ Some q → IsBetween q.1
    by_end true is h = let read = rw is at h in let at : st.StartRecord ≡ q.1 = cc read in subst IsBetween at tt
    by_end false is h = let read = rw is at h in cc read
lands s f p (c ∷ rest) q u e =
    elim (moves 1 1 s c u (λ x. refl)) [
      | inl m ↦ lands m.next (fields_after m.action f p) (field_after m.action c p) rest q m.usual (sym (goes s m.next m.action f p c rest m.steps m.going) ∙ e)
      | inr (inl m) ↦
          let read : Some (f ++ p ∷ [], m.next, rest) ≡ Some q = sym (finishes s m.next f p c rest m.steps) ∙ e in
          let at : m.next ≡ q.1 = cc read in
          subst IsBetween at m.between
      | inr (inr m) ↦ lands st.StartField (f ++ p ∷ []) [] rest q tt (sym (goes s st.StartField act.EndField f p c rest m.steps refl) ∙ e)
    ]

usual_between : (s : State) → IsBetween s → IsUsual s
usual_between st.StartRecord b = tt
usual_between st.StartField b = tt
usual_between st.InField b = tt
usual_between st.InQuoted b = tt
usual_between st.AfterQuote b = tt
usual_between st.InEscape b = absurd b
usual_between st.InComment b = absurd b
usual_between st.AfterCr b = tt

none_left : (s : State) → s ≡ st.StartRecord → records_left default_config s [] ≡ []
unfolding records_from next_record
none_left s e = rw e refl

-- a text from a state between records on
abbrev FrontIsCut : ℕ → State → List ℕ → Type 0
FrontIsCut width s xs = records_left default_config s (front width (spot_of s) width xs) ≡ cut_at width (records_left default_config s xs)

front_cut : (r k : ℕ) (s : State) (xs : List ℕ) → length xs < k → IsBetween s → FrontIsCut (suc r) s xs
unfolding cut_at
front_cut r zero s xs less b = absurd (omega (arith, less))
front_cut r (suc k) s xs less b = by_next (next_record default_config s [] [] xs) refl (λ t ys. front_cut r k t ys)
  where
    cut : next_record default_config s [] [] (front (suc r) (spot_of s) (suc r) xs) ≡ cut_read (suc r) (next_record default_config s [] [] xs)
    cut = cut_next (suc r) r s [] [] xs (usual_between s b) (omega arith) (λ x. refl)

    later : (q : Read) → next_record default_config s [] [] xs ≡ Some q → ((t : State) (ys : List ℕ) → length ys < k → IsBetween t → FrontIsCut (suc r) t ys) → FrontIsCut (suc r) q.1 q.2
    later q e again =
        elim (consumes default_config s [] [] xs q e) [
          | inl fewer ↦ again q.1 q.2 (omega (arith, less, fewer)) (lands s [] [] xs q (usual_between s b) e)
          | inr ended ↦ rw (ended.1, front_ended (suc r) (spot_of q.1) (suc r) (omega arith), none_left q.1 ended.0) refl
        ]

    by_width : (q : Read) → next_record default_config s [] [] xs ≡ Some q → FrontIsCut (suc r) q.1 q.2 → (wide : Bool) → nat_le (length q.0) (suc r) ≡ wide → FrontIsCut (suc r) s xs
    by_width q e rest true n =
        left-some default_config s (front (suc r) (spot_of s) (suc r) xs) (q.0, q.1, front (suc r) (spot_of q.1) (suc r) q.2) (cut ∙ ap (cut_read (suc r)) e ∙ rw n refl)
        ∙ ap (λ (t : List (List (List ℕ))). q.0 ∷ t) rest ∙ sym (ap (cut_at (suc r)) (left-some default_config s xs q e) ∙ rw n refl)
    by_width q e rest false n =
        left-some default_config s (front (suc r) (spot_of s) (suc r) xs) (take (suc r) q.0 ++ [] ∷ [], st.StartRecord, []) (cut ∙ ap (cut_read (suc r)) e ∙ rw n refl)
        ∙ ap (λ (t : List (List (List ℕ))). (take (suc r) q.0 ++ [] ∷ []) ∷ t) (none_left st.StartRecord refl) ∙ sym (ap (cut_at (suc r)) (left-some default_config s xs q e) ∙ rw n refl)

    by_next : (o : Option Read) → next_record default_config s [] [] xs ≡ o → ((t : State) (ys : List ℕ) → length ys < k → IsBetween t → FrontIsCut (suc r) t ys) → FrontIsCut (suc r) s xs
    by_next None e again =
        left-none default_config s (front (suc r) (spot_of s) (suc r) xs) (cut ∙ ap (cut_read (suc r)) e) ∙ sym (ap (cut_at (suc r)) (left-none default_config s xs e))
    by_next (Some q) e again = by_width q e (later q e again) (nat_le (length q.0) (suc r)) refl

-- a text with no byte order mark goes on as one whose mark was read
unmarked : (a : ℕ) (rest : List ℕ) → (a == 0xEF) ≡ false → strip_bom (a ∷ rest) ≡ a ∷ rest
unfolding strip_bom
unmarked a [] e = refl
unmarked a (b ∷ []) e = refl
unmarked a (b ∷ c ∷ rest) e = rw e refl

unmarked_second : (b : ℕ) (rest : List ℕ) → (b == 0xBB) ≡ false → strip_bom (0xEF ∷ b ∷ rest) ≡ 0xEF ∷ b ∷ rest
unfolding strip_bom
unmarked_second b [] e = refl
unmarked_second b (c ∷ rest) e = rw e refl

unmarked_third : (c : ℕ) (rest : List ℕ) → (c == 0xBF) ≡ false → strip_bom (0xEF ∷ 0xBB ∷ c ∷ rest) ≡ 0xEF ∷ 0xBB ∷ c ∷ rest
unfolding strip_bom
unmarked_third c rest e = rw e refl

abbrev Strips : ℕ → List ℕ → Type 0
Strips r bytes = strip_bom (front (suc r) Start (suc r) bytes) ≡ front (suc r) Open (suc r) (strip_bom bytes)

mark_third : (r c : ℕ) (rest : List ℕ) (b : Bool) → (c == 0xBF) ≡ b → Strips r (0xEF ∷ 0xBB ∷ c ∷ rest)
unfolding front strip_bom
mark_third r c rest true e = subst (λ (b : ℕ). Strips r (0xEF ∷ 0xBB ∷ b ∷ rest)) (sym (eqb-true c 0xBF e)) refl
mark_third r c rest false e =
    ap strip_bom (ap (λ (t : List ℕ). 0xEF ∷ 0xBB ∷ t) (keeps_on (suc r) r AfterTwo (spot_after Plain c) (room_after (suc r) Plain (suc r) c) c rest (rw e refl) refl))
    ∙ unmarked_third c (front (suc r) (spot_after Plain c) (room_after (suc r) Plain (suc r) c) rest) e ∙ sym (ap (front (suc r) Open (suc r)) (unmarked_third c rest e))

mark_second : (r b : ℕ) (rest : List ℕ) (k : Bool) → (b == 0xBB) ≡ k → Strips r (0xEF ∷ b ∷ rest)
unfolding front strip_bom
mark_second r b [] true e = subst (λ (k : ℕ). Strips r (0xEF ∷ k ∷ [])) (sym (eqb-true b 0xBB e)) refl
mark_second r b (c ∷ rest) true e = subst (λ (k : ℕ). Strips r (0xEF ∷ k ∷ c ∷ rest)) (sym (eqb-true b 0xBB e)) (mark_third r c rest (c == 0xBF) refl)
mark_second r b rest false e =
    ap strip_bom (ap (λ (t : List ℕ). 0xEF ∷ t) (keeps_on (suc r) r AfterOne (spot_after Plain b) (room_after (suc r) Plain (suc r) b) b rest (rw e refl) refl))
    ∙ unmarked_second b (front (suc r) (spot_after Plain b) (room_after (suc r) Plain (suc r) b) rest) e ∙ sym (ap (front (suc r) Open (suc r)) (unmarked_second b rest e))

mark_first : (r a : ℕ) (rest : List ℕ) (k : Bool) → (a == 0xEF) ≡ k → Strips r (a ∷ rest)
unfolding front strip_bom
mark_first r a [] true e = subst (λ (k : ℕ). Strips r (k ∷ [])) (sym (eqb-true a 0xEF e)) refl
mark_first r a (b ∷ rest) true e = subst (λ (k : ℕ). Strips r (k ∷ b ∷ rest)) (sym (eqb-true a 0xEF e)) (mark_second r b rest (b == 0xBB) refl)
mark_first r a rest false e =
    ap strip_bom (keeps_on (suc r) r Start (spot_after Open a) (room_after (suc r) Open (suc r) a) a rest (rw e refl) refl)
    ∙ unmarked a (front (suc r) (spot_after Open a) (room_after (suc r) Open (suc r) a) rest) e ∙ sym (ap (front (suc r) Open (suc r)) (unmarked a rest e))

strips : (r : ℕ) (bytes : List ℕ) → Strips r bytes
unfolding front strip_bom
strips r [] = refl
strips r (a ∷ rest) = mark_first r a rest (a == 0xEF) refl

-- the records of the front of a text
pub front_records : (width : ℕ) (bytes : List ℕ) → 0 < width → records_left default_config st.StartRecord (strip_bom (front width Start width bytes)) ≡ text_records width bytes
front_records zero bytes some = absurd (omega (arith, some))
front_records (suc r) bytes some = rw (strips r bytes) (front_cut r (length (strip_bom bytes) + 1) st.StartRecord (strip_bom bytes) (omega arith) tt)

pub known_records : (width : ℕ) (known : Option (List ℕ)) → 0 < width
    → option_map (λ bytes. records_left default_config st.StartRecord bytes) (option_map strip_bom (option_map (λ bytes. front width Start width bytes) known)) ≡ option_map (text_records width) known
known_records width None some = refl
known_records width (Some bytes) some = ap (λ (t : List (List (List ℕ))). Some t) (front_records width bytes some)
