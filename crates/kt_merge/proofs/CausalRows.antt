-- Rows in order of which each name was given before it is used have a log.
use Rattle.std.proofs.Common.{◌≡◌, ◌≢◌, ◌∙◌, ◌<◌, ◌≤◌, ◌+◌, ◌==◌, ℕ, Bool, true, Option, Some, None, option_map, List, [], ◌∷◌, ◌++◌, length, get_or, if◌then◌else◌, refl, sym, ap, subst, arith, inl, inr, append_assoc, length-append}
use Rattle.std.specs.Prelude.{◌&&◌, AllPairs}
use Rattle.std.specs.List.{slice_get}
use Rattle.std.specs.Option.{option_and_then}
use Rattle.std.proofs.lemmas.Bool.{cases_eq, cases_lt}
use Rattle.std.proofs.lemmas.Option.{slice_get_within, get_or_from_slice_get}
use Rattle.kt_base.specs.declared.words.Cause.{Cause}
use Rattle.kt_base.specs.declared.words.Cause.TheVariants as cause
use Rattle.kt_spacetime.specs.declared.event.Event.{Event}
use Rattle.kt_spacetime.specs.declared.event.Event.TheVariants.{Sent, Received, Dropped, Began, Took, Ready, Unwilling, Decided, Closed, Failed, Refused}
use Rattle.kt_spacetime.specs.declared.names.InstName.{InstName}
use Rattle.kt_spacetime.specs.declared.named_rows.NamedCause.{NamedCause}
use Rattle.kt_spacetime.specs.declared.named_rows.NamedCause.TheVariants as own_cause
use Rattle.kt_spacetime.specs.declared.named_rows.NamedEvent.{NamedEvent}
use Rattle.kt_spacetime.specs.declared.named_rows.NamedEvent.TheVariants as own
use Rattle.kt_meaning.specs.Past.{at_one}
use Rattle.kt_meaning.specs.Names.{Given, nothing_given, given_after, message_number, instance_number, numbered_cause, numbered_event, numbered_from, numbered}
use Rattle.kt_meaning.proofs.PlaceFacts.{map_some, then_some, test_some, same_test, at_some}
use Rattle.kt_meaning.proofs.NumberedFacts.{numbered_more}
use Rattle.kt_meaning.proofs.Items.{get_left, get_push, get_seam, some_same}
use Rattle.kt_meaning.proofs.Shown.{at_same, at_other}
use Rattle.kt_spacetime.specs.declared.named_rows.ClockedRow.{ClockedRow}
use Rattle.kt_spacetime.specs.ClockedRows.{rows_of, without_clocks}
use Rattle.kt_merge.specs.declared.giver.Name.{Name}
use Rattle.kt_merge.specs.declared.giver.Name.TheVariants as name
use Rattle.kt_merge.specs.Heads.{IsNotLater}
use Rattle.kt_merge.specs.Causal.{messages_given, instances_given, GivesNext, GiveInOrder, name_given, EachNameOfCause, EachName, IsEarlier, IsGivenBefore, AreCausal}
use Rattle.kt_merge.proofs.OneMerge.{of_it, of_other}

-- a name is one of those that were given
abbrev IsCounted : Given → Name → Type 0
IsCounted g (name.Message from label) = (1 ≤ label) × (label ≤ length (g.sent from))
IsCounted g (name.Instance inst) = (1 ≤ inst.count) × (inst.count ≤ length (g.begun inst.initiator))

each_of_cause : (P Q : Name → Type 0) → ((n : Name) → P n → Q n) → (c : NamedCause) → EachNameOfCause P c → EachNameOfCause Q c
each_of_cause P Q f (own_cause.Busy inst) h = f (name.Instance inst) h
each_of_cause P Q f own_cause.Down h = tt
each_of_cause P Q f own_cause.NoSave h = tt

each_name : (P Q : Name → Type 0) → ((n : Name) → P n → Q n) → (event : NamedEvent) → EachName P event → EachName Q event
each_name P Q f (own.Sent to body label) h = tt
each_name P Q f (own.Received from label) h = f (name.Message from label) h
each_name P Q f (own.Dropped from label) h = f (name.Message from label) h
each_name P Q f (own.Began inst kind) h = tt
each_name P Q f (own.Took inst) h = f (name.Instance inst) h
each_name P Q f (own.Ready inst) h = f (name.Instance inst) h
each_name P Q f (own.Unwilling inst c) h = (f (name.Instance inst) h.0, each_of_cause P Q f c h.1)
each_name P Q f (own.Decided inst commit) h = f (name.Instance inst) h
each_name P Q f (own.Closed inst) h = f (name.Instance inst) h
each_name P Q f own.Failed h = tt
each_name P Q f (own.Refused verb c) h = each_of_cause P Q f c h

-- a name that was given has a number
message_at : (g : Given) (from label : ℕ) → IsCounted g (name.Message from label) → (k : ℕ) × (message_number g from label ≡ Some k)
message_at g from label h = at_some (g.sent from) label h.0 h.1

instance_at : (g : Given) (inst : InstName) → IsCounted g (name.Instance inst) → (k : ℕ) × (instance_number g inst ≡ Some k)
instance_at g inst h = at_some (g.begun inst.initiator) inst.count h.0 h.1

cause_at : (g : Given) (c : NamedCause) → EachNameOfCause (IsCounted g) c → (d : Cause) × (numbered_cause g c ≡ Some d)
cause_at g (own_cause.Busy inst) h = let k = instance_at g inst h in (cause.Busy k.0, ap (option_map cause.Busy) k.1)
cause_at g own_cause.Down h = (cause.Down, refl)
cause_at g own_cause.NoSave h = (cause.NoSave, refl)

-- so a row has numbers whose names were given, and which gives the next one
abbrev HasNumber : Given → ℕ → NamedEvent → Type 0
HasNumber g p event = (row : Event) × (numbered_event g p event ≡ Some row)

by_instance : (g : Given) (p : ℕ) (inst : InstName) (make : ℕ → Event) → IsCounted g (name.Instance inst) → (row : Event) × (option_map make (instance_number g inst) ≡ Some row)
by_instance g p inst make h = let k = instance_at g inst h in (make k.0, ap (option_map make) k.1)

has_number : (g : Given) (p : ℕ) (event : NamedEvent) → EachName (IsCounted g) event → GivesNext p (length (g.sent p)) (length (g.begun p)) event → HasNumber g p event
has_number g p (own.Sent to body label) h n =
    let yes = subst (λ (l : ℕ). (l == length (g.sent p) + 1) ≡ true) (sym n) (same_test (length (g.sent p) + 1)) in
    (Sent p to body, ap (λ (b : Bool). if b then Some (Sent p to body) else None) yes)
has_number g p (own.Received from label) h n = let k = message_at g from label h in (Received p from k.0, ap (option_map (Received p from)) k.1)
has_number g p (own.Dropped from label) h n = let k = message_at g from label h in (Dropped p from k.0, ap (option_map (Dropped p from)) k.1)
has_number g p (own.Began inst kind) h n =
    let yes : ((p == p) && (length (g.begun p) + 1 == length (g.begun p) + 1)) ≡ true
    = ap (λ (b : Bool). b && (length (g.begun p) + 1 == length (g.begun p) + 1)) (same_test p) ∙ same_test (length (g.begun p) + 1) in
    subst (λ (i : InstName). HasNumber g p (own.Began i kind)) (sym n)
    (Began p (length g.initiators + 1) kind, ap (λ (b : Bool). if b then Some (Began p (length g.initiators + 1) kind) else None) yes)
has_number g p (own.Took inst) h n = by_instance g p inst (Took p) h
has_number g p (own.Ready inst) h n = by_instance g p inst (Ready p) h
has_number g p (own.Unwilling inst c) h n =
    let k = instance_at g inst h.0 in
    let d = cause_at g c h.1 in
    (Unwilling p k.0 d.0, ap (option_and_then (λ i. option_map (Unwilling p i) (numbered_cause g c))) k.1 ∙ ap (option_map (Unwilling p k.0)) d.1)
has_number g p (own.Decided inst commit) h n = by_instance g p inst (λ k. Decided p k commit) h
has_number g p (own.Closed inst) h n = by_instance g p inst (Closed p) h
has_number g p own.Failed h n = (Failed p, refl)
has_number g p (own.Refused verb c) h n = let d = cause_at g c h in (Refused p verb d.0, ap (option_map (Refused p verb)) d.1)

-- one more row of a process gives as many names more as it says
pub record Counts (g next : Given) (p : ℕ) (event : NamedEvent) : Type 0 where
  pub sent : length (next.sent p) ≡ length (g.sent p) + messages_given event
  pub begun : length (next.begun p) ≡ length (g.begun p) + instances_given event
  pub others_sent : (q : ℕ) → q ≢ p → length (next.sent q) ≡ length (g.sent q)
  pub others_begun : (q : ℕ) → q ≢ p → length (next.begun q) ≡ length (g.begun q)

one_more : (p q : ℕ) (n : ℕ) (f : ℕ → List ℕ) → q ≡ p → length (at_one p (f p ++ n ∷ []) f q) ≡ length (f p) + 1
one_more p q n f e = subst (λ (r : ℕ). length (at_one p (f p ++ n ∷ []) f r) ≡ length (f p) + 1) (sym e) (omega (arith, ap length (at_same p (f p ++ n ∷ []) f), length-append (f p) (n ∷ [])))

as_before : (p q : ℕ) (n : ℕ) (f : ℕ → List ℕ) → q ≢ p → length (at_one p (f p ++ n ∷ []) f q) ≡ length (f q)
as_before p q n f other = ap length (at_other p q (f p ++ n ∷ []) f other)

counts_sent : (g : Given) (p to : ℕ) (body : _) (label : ℕ) → Counts g (given_after g (Sent p to body)) p (own.Sent to body label)
counts_sent g p to body label = record {
  sent = one_more p p (g.rows + 1) g.sent refl;
  begun = omega arith;
  others_sent = λ q other. as_before p q (g.rows + 1) g.sent other;
  others_begun = λ q other. refl;
}

counts_began : (g : Given) (p k : ℕ) (inst : InstName) (kind : _) → Counts g (given_after g (Began p k kind)) p (own.Began inst kind)
counts_began g p k inst kind = record {
  sent = omega arith;
  begun = one_more p p (length g.initiators + 1) g.begun refl;
  others_sent = λ q other. refl;
  others_begun = λ q other. as_before p q (length g.initiators + 1) g.begun other;
}

counts_none : (g : Given) (row : Event) (p : ℕ) (event : NamedEvent) → (given_after g row).sent ≡ g.sent → (given_after g row).begun ≡ g.begun → messages_given event ≡ 0 → instances_given event ≡ 0
    → Counts g (given_after g row) p event
counts_none g row p event sent begun m i = record {
  sent = omega (arith, ap (λ (f : ℕ → List ℕ). length (f p)) sent, m);
  begun = omega (arith, ap (λ (f : ℕ → List ℕ). length (f p)) begun, i);
  others_sent = λ q other. ap (λ (f : ℕ → List ℕ). length (f q)) sent;
  others_begun = λ q other. ap (λ (f : ℕ → List ℕ). length (f q)) begun;
}

counts_made : {X : Type 0} (g : Given) (p : ℕ) (event : NamedEvent) (make : X → Event) (o : Option X) (row : Event) → option_map make o ≡ Some row → ((x : X) → Counts g (given_after g (make x)) p event)
    → Counts g (given_after g row) p event
counts_made g p event make o row e made =
    let there = map_some make o row e in
    subst (λ (r : Event). Counts g (given_after g r) p event) there.2 (made there.0)

counts : (g : Given) (p : ℕ) (event : NamedEvent) (row : Event) → numbered_event g p event ≡ Some row → Counts g (given_after g row) p event
counts g p (own.Sent to body label) row e =
    let made = test_some (label == length (g.sent p) + 1) (Sent p to body) row e in
    subst (λ (r : Event). Counts g (given_after g r) p (own.Sent to body label)) made.1 (counts_sent g p to body label)
counts g p (own.Received from label) row e = counts_made g p (own.Received from label) (Received p from) (message_number g from label) row e (λ k. counts_none g (Received p from k) p (own.Received from label) refl refl refl refl)
counts g p (own.Dropped from label) row e = counts_made g p (own.Dropped from label) (Dropped p from) (message_number g from label) row e (λ k. counts_none g (Dropped p from k) p (own.Dropped from label) refl refl refl refl)
counts g p (own.Began inst kind) row e =
    let made = test_some ((inst.initiator == p) && (inst.count == length (g.begun p) + 1)) (Began p (length g.initiators + 1) kind) row e in
    subst (λ (r : Event). Counts g (given_after g r) p (own.Began inst kind)) made.1 (counts_began g p (length g.initiators + 1) inst kind)
counts g p (own.Took inst) row e = counts_made g p (own.Took inst) (Took p) (instance_number g inst) row e (λ k. counts_none g (Took p k) p (own.Took inst) refl refl refl refl)
counts g p (own.Ready inst) row e = counts_made g p (own.Ready inst) (Ready p) (instance_number g inst) row e (λ k. counts_none g (Ready p k) p (own.Ready inst) refl refl refl refl)
counts g p (own.Unwilling inst c) row e =
    let first = then_some (λ k. option_map (Unwilling p k) (numbered_cause g c)) (instance_number g inst) row e in
    counts_made g p (own.Unwilling inst c) (Unwilling p first.0) (numbered_cause g c) row first.2 (λ d. counts_none g (Unwilling p first.0 d) p (own.Unwilling inst c) refl refl refl refl)
counts g p (own.Decided inst commit) row e =
    counts_made g p (own.Decided inst commit) (λ k. Decided p k commit) (instance_number g inst) row e (λ k. counts_none g (Decided p k commit) p (own.Decided inst commit) refl refl refl refl)
counts g p (own.Closed inst) row e = counts_made g p (own.Closed inst) (Closed p) (instance_number g inst) row e (λ k. counts_none g (Closed p k) p (own.Closed inst) refl refl refl refl)
counts g p own.Failed row e =
    let same : Failed p ≡ row = cc in
    subst (λ (r : Event). Counts g (given_after g r) p own.Failed) same (counts_none g (Failed p) p own.Failed refl refl refl refl)
counts g p (own.Refused verb c) row e = counts_made g p (own.Refused verb c) (Refused p verb) (numbered_cause g c) row e (λ d. counts_none g (Refused p verb d) p (own.Refused verb c) refl refl refl refl)

-- names that were given stay given
stays : (g next : Given) (p : ℕ) (event : NamedEvent) → Counts g next p event → (n : Name) → IsCounted g n → IsCounted next n
stays g next p event c (name.Message from label) h = elim (cases_eq from p) [
  | inl same ↦ (h.0, subst (λ (q : ℕ). label ≤ length (g.sent q) → label ≤ length (next.sent q)) (sym same) (λ l. omega (arith, l, c.sent)) h.1)
  | inr other ↦ (h.0, omega (arith, h.1, c.others_sent from other))
]
stays g next p event c (name.Instance inst) h = elim (cases_eq inst.initiator p) [
  | inl same ↦ (h.0, subst (λ (q : ℕ). inst.count ≤ length (g.begun q) → inst.count ≤ length (next.begun q)) (sym same) (λ l. omega (arith, l, c.begun)) h.1)
  | inr other ↦ (h.0, omega (arith, h.1, c.others_begun inst.initiator other))
]

-- and that which a row gives is given then
newly : (g next : Given) (p : ℕ) (event : NamedEvent) → Counts g next p event → GivesNext p (length (g.sent p)) (length (g.begun p)) event → (n : Name) → name_given p event ≡ Some n → IsCounted next n
newly g next p (own.Sent to body label) c next_one n e =
    subst (IsCounted next) (some_same e) (omega (arith, next_one), omega (arith, next_one, c.sent))
newly g next p (own.Began inst kind) c next_one n e =
    let count : inst.count ≡ length (g.begun p) + 1 = ap (λ (i : InstName). i.count) next_one in
    let initiator : inst.initiator ≡ p = ap (λ (i : InstName). i.initiator) next_one in
    let within = subst (λ (q : ℕ). inst.count ≤ length (next.begun q)) (sym initiator) (omega (arith, count, c.begun)) in
    subst (IsCounted next) (some_same e) (omega (arith, count), within)
newly g next p (own.Received from label) c next_one n e = cc e
newly g next p (own.Dropped from label) c next_one n e = cc e
newly g next p (own.Took inst) c next_one n e = cc e
newly g next p (own.Ready inst) c next_one n e = cc e
newly g next p (own.Unwilling inst cause) c next_one n e = cc e
newly g next p (own.Decided inst commit) c next_one n e = cc e
newly g next p (own.Closed inst) c next_one n e = cc e
newly g next p own.Failed c next_one n e = cc e
newly g next p (own.Refused verb cause) c next_one n e = cc e

-- rows have numbers up to here, and these are left
pub record IsAt (rows before rest : List ClockedRow) (g : Given) : Type 0 where
  pub whole : rows ≡ before ++ rest
  pub given : (j : ℕ) (s : ClockedRow) (n : Name) → slice_get before j ≡ Some s → name_given s.row.p s.row.event ≡ Some n → IsCounted g n
  pub in_order : (p : ℕ) → GiveInOrder p (length (g.sent p)) (length (g.begun p)) (rows_of p rest)

module _ (rows before : List ClockedRow) (r : ClockedRow) (rest : List ClockedRow) (g : Given) (sorted : AllPairs IsNotLater rows) (causal : AreCausal rows) (at : IsAt rows before (r ∷ rest) g) where
  here : slice_get rows (length before) ≡ Some r
  here = ap (λ (l : List ClockedRow). slice_get l (length before)) at.whole ∙ get_seam before r rest

  not_strictly : (a b : ClockedRow) → IsNotLater a b → IsEarlier b a → ⊥
  not_strictly a b (inl x) (inl y) = omega (arith, x, y)
  not_strictly a b (inl x) (inr y) = omega (arith, x, y.0)
  not_strictly a b (inr x) (inl y) = omega (arith, x.0, y)
  not_strictly a b (inr x) (inr y) = omega (arith, x.1, y.1)

  -- what comes earlier stands before it
  stands_before : (j : ℕ) (s : ClockedRow) → slice_get rows j ≡ Some s → IsEarlier s r → j < length before
  stands_before j s there earlier = elim (cases_lt j (length before)) [
    | inl less ↦ less
    | inr more ↦ elim (cases_eq j (length before)) [
      | inl same ↦
          let one : r ≡ s = some_same (sym here ∙ (ap (slice_get rows) (sym same) ∙ there)) in
          absurd (not_strictly r r (inr (refl, omega arith)) (subst (λ (x : ClockedRow). IsEarlier x r) (sym one) earlier))
      | inr other ↦
          let within = slice_get_within rows j s there in
          let pair = sorted (length before) j r (omega (arith, more, other)) (omega (arith, within)) in
          let first = subst (λ (x : ClockedRow). IsNotLater x (get_or rows j r)) (get_or_from_slice_get rows (length before) r r here) pair in
          let later : IsNotLater r s = subst (λ (x : ClockedRow). IsNotLater r x) (get_or_from_slice_get rows j s r there) first in
          absurd (not_strictly r s later earlier)
    ]
  ]

  given_then : (n : Name) → IsGivenBefore rows (length before) r n → IsCounted g n
  given_then n h = at.given h.place h.row n (sym (get_left before (r ∷ rest) h.place low) ∙ (ap (λ (l : List ClockedRow). slice_get l h.place) (sym at.whole) ∙ h.stands)) h.gives
    where
      low : h.place < length before
      low = elim h.before [
        | inl earlier ↦ stands_before h.place h.row h.stands earlier
        | inr own ↦ own.1
      ]

  own_rows : GiveInOrder r.row.p (length (g.sent r.row.p)) (length (g.begun r.row.p)) (r ∷ rows_of r.row.p rest)
  own_rows = subst (GiveInOrder r.row.p (length (g.sent r.row.p)) (length (g.begun r.row.p))) (of_it r.row.p r rest refl) (at.in_order r.row.p)

  next_number : HasNumber g r.row.p r.row.event
  next_number =
      has_number g r.row.p r.row.event
      (each_name (IsGivenBefore rows (length before) r) (IsCounted g) given_then r.row.event (causal.given (length before) r here))
      own_rows.0

  module _ (event : Event) (numbered : numbered_event g r.row.p r.row.event ≡ Some event) where
    more : Counts g (given_after g event) r.row.p r.row.event
    more = counts g r.row.p r.row.event event numbered

    given_now : (j : ℕ) (s : ClockedRow) (n : Name) → slice_get (before ++ r ∷ []) j ≡ Some s → name_given s.row.p s.row.event ≡ Some n → IsCounted (given_after g event) n
    given_now j s n there gives = elim (get_push before r j s there) [
      | inl old ↦ stays g (given_after g event) r.row.p r.row.event more n (at.given j s n old gives)
      | inr new ↦ newly g (given_after g event) r.row.p r.row.event more own_rows.0 n (subst (λ (x : ClockedRow). name_given x.row.p x.row.event ≡ Some n) new.1 gives)
    ]

    order_now : (p : ℕ) → GiveInOrder p (length ((given_after g event).sent p)) (length ((given_after g event).begun p)) (rows_of p rest)
    order_now p = elim (cases_eq p r.row.p) [
      | inl same ↦
          subst (λ (q : ℕ). GiveInOrder q (length ((given_after g event).sent q)) (length ((given_after g event).begun q)) (rows_of q rest)) (sym same)
          (subst (λ (m : ℕ). GiveInOrder r.row.p m (length ((given_after g event).begun r.row.p)) (rows_of r.row.p rest)) (sym more.sent)
          (subst (λ (i : ℕ). GiveInOrder r.row.p (length (g.sent r.row.p) + messages_given r.row.event) i (rows_of r.row.p rest)) (sym more.begun) own_rows.1))
      | inr other ↦
          subst (λ (m : ℕ). GiveInOrder p m (length ((given_after g event).begun p)) (rows_of p rest)) (sym (more.others_sent p other))
          (subst (λ (i : ℕ). GiveInOrder p (length (g.sent p)) i (rows_of p rest)) (sym (more.others_begun p other))
          (subst (GiveInOrder p (length (g.sent p)) (length (g.begun p))) (of_other p r rest (λ e. other (sym e))) (at.in_order p)))
    ]

    next_at : IsAt rows (before ++ r ∷ []) rest (given_after g event)
    next_at = record { whole = at.whole ∙ sym (append_assoc before (r ∷ []) rest); given = given_now; in_order = order_now }

numbered_rest : (rows before rest : List ClockedRow) (g : Given) → AllPairs IsNotLater rows → AreCausal rows → IsAt rows before rest g → (log : List Event) × (numbered_from g (without_clocks rest) ≡ Some log)
numbered_rest rows before [] g sorted causal at = ([], refl)
numbered_rest rows before (r ∷ rest) g sorted causal at =
    let row = next_number rows before r rest g sorted causal at in
    let more = numbered_rest rows (before ++ r ∷ []) rest (given_after g row.0) sorted causal (next_at rows before r rest g sorted causal at row.0 row.1) in
    (row.0 ∷ more.0, numbered_more g r.row (without_clocks rest) row.0 more.0 row.1 more.1)

pub causal_log : (rows : List ClockedRow) → AllPairs IsNotLater rows → AreCausal rows → (log : List Event) × (numbered (without_clocks rows) ≡ Some log)
causal_log rows sorted causal = numbered_rest rows [] rows nothing_given sorted causal (record { whole = refl; given = λ j s n there gives. absurd (cc there); in_order = causal.in_order })
