-- The merge of parts whose rows have a log does not stop.
use Rattle.std.proofs.Common.{◌≡◌, ◌≢◌, ◌∙◌, ◌<◌, ◌≤◌, ◌⊎◌, ℕ, Option, Some, List, [], ◌∷◌, ◌++◌, length, map, refl, sym, ap, subst, arith, inl, inr, length-append}
use Rattle.std.specs.Prelude.{All, AllPairs, ◌==◌}
use Rattle.std.proofs.lemmas.Bool.{cases_eq, cases_lt}
use Rattle.std.proofs.lemmas.List.{append-nil, append_cancel_left, length-map, map-append}
use Rattle.std.proofs.lemmas.List.Elements.{All-head, All-tail, filter-append}
use Rattle.kt_spacetime.specs.declared.event.Event.{Event}
use Rattle.kt_spacetime.specs.declared.named_rows.NamedRow.{NamedRow}
use Rattle.kt_meaning.specs.Names.{Given, nothing_given, given_after, given_by, numbered_event, numbered_from, numbered}
use Rattle.kt_meaning.proofs.NumberedFacts.{numbers_first}
use Rattle.kt_merge.specs.declared.part_fault.PartFault.{PartFault}
use Rattle.kt_merge.specs.declared.part_fault.PartFault.TheVariants as part
use Rattle.kt_spacetime.specs.declared.named_rows.ClockedRow.{ClockedRow}
use Rattle.kt_spacetime.specs.ClockedRows.{rows_of, without_clocks}
use Rattle.kt_merge.specs.declared.fault.RowFault.{RowFault}
use Rattle.kt_merge.specs.declared.fault.RowFault.TheVariants as wrong
use Rattle.kt_merge.specs.declared.fault.MergeFault.{MergeFault}
use Rattle.kt_merge.specs.declared.fault.MergeFault.TheVariants as merge
use Rattle.kt_merge.specs.Spelling.{part_spelling}
use Rattle.kt_merge.specs.Texts.{clock_after, BeginsPart, IsFirstPartFault, IsPartFrom, IsPartText, IsOfPartText}
use Rattle.kt_merge.specs.Reading.{PartRead}
use Rattle.kt_merge.specs.Heads.{IsNotLater}
use Rattle.kt_merge.specs.Numbering.{IsRowFault}
use Rattle.kt_merge.specs.Merging.{Records, AreKnown, BeginsMerge, IsLeftOf, IsMergeOf, IsPartOf, SaysNext, StopsMerge}
use Rattle.kt_merge.specs.Causal.{IsOfLimits}
use Rattle.kt_merge.proofs.SpellingFacts.{one_row}
use Rattle.kt_text.proofs.FieldFacts.{first_and_rest}
use Rattle.kt_merge.proofs.TextFacts.{GoesOnWith, goes_on_with, no_part}
use Rattle.kt_merge.proofs.OneMerge.{after_first, both_ways, none_beyond, of_it, of_other, rest_sorted, stands}

-- a process's rows go on after its first ones, and the next one comes after these
pub record Remains (front rows : List ClockedRow) (p : ℕ) : Type 0 where
  pub left : List ClockedRow
  pub whole : rows_of p rows ≡ rows_of p front ++ left
  pub later : (next : ClockedRow) (rest : List ClockedRow) → left ≡ next ∷ rest → All (λ r. IsNotLater r next) front

-- without a first row that both have
without : (x y : ClockedRow) (xs ys : List ClockedRow) (p : ℕ) → x ≡ y → Remains (x ∷ xs) (y ∷ ys) p → Remains xs ys p
without x y xs ys p same h = record { left = h.left; whole = whole; later = λ next rest e. All-tail (λ (r : ClockedRow). IsNotLater r next) x xs (h.later next rest e) }
  where
    whole : rows_of p ys ≡ rows_of p xs ++ h.left
    whole = elim (cases_eq x.row.p p) [
      | inl mine ↦
          let y_mine : y.row.p ≡ p = ap (λ (r : ClockedRow). r.row.p) (sym same) ∙ mine in
          let both : y ∷ rows_of p ys ≡ x ∷ (rows_of p xs ++ h.left) = sym (of_it p y ys y_mine) ∙ (h.whole ∙ ap (λ (l : List ClockedRow). l ++ h.left) (of_it p x xs mine)) in
          cc both
      | inr other ↦
          let y_other : y.row.p ≢ p = λ e. other (ap (λ (r : ClockedRow). r.row.p) same ∙ e) in
          sym (of_other p y ys y_other) ∙ (h.whole ∙ ap (λ (l : List ClockedRow). l ++ h.left) (of_other p x xs other))
    ]

-- a first row that remains, or stands among the others
first_left : (x y : ClockedRow) (xs mine left ys : List ClockedRow) → y ∷ ys ≡ mine ++ left → rows_of y.row.p xs ≡ mine → AllPairs IsNotLater (x ∷ xs)
    → ((next : ClockedRow) (rest : List ClockedRow) → left ≡ next ∷ rest → All (λ r. IsNotLater r next) (x ∷ xs)) → IsNotLater x y
first_left x y xs [] left ys e none sorted later = All-head (λ (r : ClockedRow). IsNotLater r y) x xs (later y ys (sym e))
first_left x y xs (z ∷ mine) left ys e among sorted later =
    let same : z ≡ y = cc e in
    let there = stands y.row.p y mine xs (among ∙ ap (λ (r : ClockedRow). r ∷ mine) same) in
    after_first x y xs there.0 sorted there.1

same_first : (x y : ClockedRow) (xs ys : List ClockedRow) → AllPairs IsNotLater (x ∷ xs) → AllPairs IsNotLater (y ∷ ys) → ((p : ℕ) → Remains (x ∷ xs) (y ∷ ys) p) → x ≡ y
same_first x y xs ys s t h = elim (cases_eq y.row.p x.row.p) [
  | inl same ↦
      let at = h x.row.p in
      let both : y ∷ rows_of x.row.p ys ≡ x ∷ (rows_of x.row.p xs ++ at.left) = sym (of_it x.row.p y ys same) ∙ (at.whole ∙ ap (λ (l : List ClockedRow). l ++ at.left) (of_it x.row.p x xs refl)) in
      cc both
  | inr other ↦
      let at_x = h x.row.p in
      let at_y = h y.row.p in
      let x_there = stands x.row.p x (rows_of x.row.p xs ++ at_x.left) ys (sym (of_other x.row.p y ys other) ∙ (at_x.whole ∙ ap (λ (l : List ClockedRow). l ++ at_x.left) (of_it x.row.p x xs refl))) in
      let y_first : y ∷ rows_of y.row.p ys ≡ rows_of y.row.p xs ++ at_y.left
      = sym (of_it y.row.p y ys refl) ∙ (at_y.whole ∙ ap (λ (l : List ClockedRow). l ++ at_y.left) (of_other y.row.p x xs (λ e. other (sym e)))) in
      let y_after = first_left x y xs (rows_of y.row.p xs) at_y.left (rows_of y.row.p ys) y_first refl s at_y.later in
      absurd (other (both_ways y x (after_first y x ys x_there.0 t x_there.1) y_after))
]

-- so the first ones of all processes are a beginning of all
pub goes_on_after : (front rows : List ClockedRow) → AllPairs IsNotLater front → AllPairs IsNotLater rows → ((p : ℕ) → Remains front rows p) → (rest : List ClockedRow) × (rows ≡ front ++ rest)
goes_on_after [] rows s t h = (rows, refl)
goes_on_after (x ∷ xs) [] s t h =
    let at = h x.row.p in
    let none : [] ≡ x ∷ (rows_of x.row.p xs ++ at.left) = at.whole ∙ ap (λ (l : List ClockedRow). l ++ at.left) (of_it x.row.p x xs refl) in
    cc none
goes_on_after (x ∷ xs) (y ∷ ys) s t h =
    let same = same_first x y xs ys s t h in
    let rest = goes_on_after xs ys (rest_sorted x xs s) (rest_sorted y ys t) (λ p. without x y xs ys p same (h p)) in
    (rest.0, cc (same, rest.1))

-- a row after others that have numbers
number_after : (g : Given) (front : List NamedRow) (row : NamedRow) (rest : List NamedRow) (mine log : List Event) → numbered_from g front ≡ Some mine → numbered_from g (front ++ row ∷ rest) ≡ Some log
    → (event : Event) × (numbered_event (given_by g mine) row.p row.event ≡ Some event)
number_after g [] row rest mine log m e =
    let none : [] ≡ mine = cc m in
    let n = numbers_first g row rest log e in
    (n.event, subst (λ (l : List Event). numbered_event (given_by g l) row.p row.event ≡ Some n.event) none n.first)
number_after g (first ∷ front) row rest mine log m e =
    let a = numbers_first g first front mine m in
    let b = numbers_first g first (front ++ row ∷ rest) log e in
    let same : a.event ≡ b.event = cc (a.first, b.first) in
    let there = number_after (given_after g a.event) front row rest a.rest b.rest a.others (subst (λ (x : Event). numbered_from (given_after g x) (front ++ row ∷ rest) ≡ Some b.rest) (sym same) b.others) in
    (there.0, subst (λ (l : List Event). numbered_event (given_by g l) row.p row.event ≡ Some there.0) a.is there.1)

has_fewer : (p : ℕ) (text left : Records) (front rows : List ClockedRow) → BeginsPart p text front left → IsPartText p text rows → length front ≤ length rows
has_fewer p text left front rows b h =
    let whole : length (map part_spelling front ++ left) ≡ length (map part_spelling rows) = ap length (sym b.spelled ∙ h.spelled) in
    omega (arith, whole, length-append (map part_spelling front) left, length-map front part_spelling, length-map rows part_spelling)

module _ (parts : List PartRead) (rows front : List ClockedRow) (log : List Event) (known : AreKnown parts) (merged : IsMergeOf parts rows) (begins : BeginsMerge parts front log) where
  -- what is left of a part are the rows that its text goes on with
  left_of : (p : ℕ) (text left : Records) → IsPartOf parts p text → BeginsPart p text (rows_of p front) left → GoesOnWith p 0 (rows_of p front) (rows_of p rows) left []
  left_of p text left of b =
      let whole = merged.whole p text of in
      goes_on_with p 0 (rows_of p front) (rows_of p rows) left [] b.part whole.part (has_fewer p text left (rows_of p front) (rows_of p rows) b whole)
      (sym b.spelled ∙ (whole.spelled ∙ sym (append-nil (map part_spelling (rows_of p rows)))))

  says_next : (p : ℕ) (left : Records) (next : ClockedRow) (rest : List ClockedRow) (g : GoesOnWith p 0 (rows_of p front) (rows_of p rows) left []) → g.rest ≡ next ∷ rest → SaysNext p front left next
  says_next p left next rest g e =
      let of_next = subst (IsPartFrom p (clock_after 0 (rows_of p front))) e g.part in
      let is : left ≡ part_spelling next ∷ map part_spelling rest = g.is ∙ (append-nil (map part_spelling g.rest) ∙ ap (map part_spelling) e) in
      (record { rest = map part_spelling rest; is = is; spellable = of_next.0 }, of_next.1, of_next.2)

  remains : (p : ℕ) → Remains front rows p
  remains p = elim (cases_lt p (length parts)) [
    | inl less ↦
        let text = known p less in
        let b = begins.begun p text.0 text.1 in
        let g = left_of p text.0 b.0 text.1 b.1 in
        record { left = g.rest; whole = g.whole; later = λ next rest e. b.2 next (says_next p b.0 next rest g e) }
    | inr more ↦
        record {
          left = [];
          whole = none_beyond (length parts) p rows more merged.sorted.of_parts ∙ sym (append-nil (rows_of p front) ∙ none_beyond (length parts) p front more begins.sorted.of_parts);
          later = λ next rest e. absurd (cc e);
        }
  ]

  all_rest : (rest : List ClockedRow) × (rows ≡ front ++ rest)
  all_rest = goes_on_after front rows begins.sorted.sorted merged.sorted.sorted remains

  -- the next row of all is that which comes first of the parts' next rows
  module _ (p : ℕ) (row : ClockedRow) (within : p < length parts) (own : row.row.p ≡ p) (says : (left : Records) → IsLeftOf parts front p left → SaysNext p front left row)
      (others : (q : ℕ) (left : Records) → IsLeftOf parts front q left → (left ≡ []) ⊎ ((next : ClockedRow) × SaysNext q front left next × IsNotLater row next)) where
    -- a process's rows after the first ones
    rest_of : (q : ℕ) → rows_of q all_rest.0 ≡ (remains q).left
    rest_of q =
        append_cancel_left (rows_of q front) (rows_of q all_rest.0) (remains q).left
        (sym (filter-append (λ (r : ClockedRow). r.row.p == q) front all_rest.0) ∙ (ap (rows_of q) (sym all_rest.1) ∙ (remains q).whole))

    one_next : (q : ℕ) (left : Records) (a b : ClockedRow) → SaysNext q front left a → SaysNext q front left b → a ≡ b
    one_next q left a b h k = one_row a b h.0.spellable k.0.spellable (first_and_rest (part_spelling a) (part_spelling b) h.0.rest k.0.rest (sym h.0.is ∙ k.0.is)).0

    text_of : (q : ℕ) → q < length parts → (left : Records) × IsLeftOf parts front q left × GoesOnWith q 0 (rows_of q front) (rows_of q rows) left []
    text_of q less =
        let text = known q less in
        let b = begins.begun q text.0 text.1 in
        (b.0, (text.0, text.1, b.1), left_of q text.0 b.0 text.1 b.1)

    -- of its process it is the next one
    is_next : (mine : List ClockedRow) × (rows_of p all_rest.0 ≡ row ∷ mine)
    is_next = at_rest t.2.rest refl
      where
        t : (left : Records) × IsLeftOf parts front p left × GoesOnWith p 0 (rows_of p front) (rows_of p rows) left []
        t = text_of p within

        same_left : rows_of p all_rest.0 ≡ t.2.rest
        same_left = append_cancel_left (rows_of p front) (rows_of p all_rest.0) t.2.rest (sym (filter-append (λ (r : ClockedRow). r.row.p == p) front all_rest.0) ∙ (ap (rows_of p) (sym all_rest.1) ∙ t.2.whole))

        at_rest : (rest : List ClockedRow) → t.2.rest ≡ rest → (mine : List ClockedRow) × (rows_of p all_rest.0 ≡ row ∷ mine)
        at_rest [] e =
            let said = says t.0 t.1 in
            let none : t.0 ≡ [] = t.2.is ∙ (append-nil (map part_spelling t.2.rest) ∙ ap (map part_spelling) e) in
            absurd (cc (none, said.0.is))
        at_rest (next ∷ rest) e =
            let same = one_next p t.0 next row (says_next p t.0 next rest t.2 e) (says t.0 t.1) in
            (rest, same_left ∙ (e ∙ ap (λ (r : ClockedRow). r ∷ rest) same))

    -- no next row of another process comes before it
    not_before : (y : ClockedRow) (ys : List ClockedRow) → all_rest.0 ≡ y ∷ ys → IsNotLater row y
    not_before y ys e = elim (cases_lt y.row.p (length parts)) [
      | inl less ↦ among (text_of y.row.p less)
      | inr more ↦
          let none : rows_of y.row.p rows ≡ [] = none_beyond (length parts) y.row.p rows more merged.sorted.of_parts in
          let some : rows_of y.row.p rows ≡ rows_of y.row.p front ++ y ∷ rows_of y.row.p ys = ap (rows_of y.row.p) all_rest.1 ∙ (filter-append (λ (r : ClockedRow). r.row.p == y.row.p) front all_rest.0 ∙ ap (λ (l : List ClockedRow). rows_of y.row.p front ++ l) mine) in
          let long : 0 ≡ length (rows_of y.row.p front ++ y ∷ rows_of y.row.p ys) = ap length (sym none ∙ some) in
          absurd (omega (arith, long, length-append (rows_of y.row.p front) (y ∷ rows_of y.row.p ys)))
    ]
      where
        mine : rows_of y.row.p all_rest.0 ≡ y ∷ rows_of y.row.p ys
        mine = ap (rows_of y.row.p) e ∙ of_it y.row.p y ys refl

        among : (left : Records) × IsLeftOf parts front y.row.p left × GoesOnWith y.row.p 0 (rows_of y.row.p front) (rows_of y.row.p rows) left [] → IsNotLater row y
        among t =
            let rest : t.2.rest ≡ y ∷ rows_of y.row.p ys
            = append_cancel_left (rows_of y.row.p front) t.2.rest (y ∷ rows_of y.row.p ys)
            (sym t.2.whole ∙ (ap (rows_of y.row.p) all_rest.1 ∙ (filter-append (λ (r : ClockedRow). r.row.p == y.row.p) front all_rest.0 ∙ ap (λ (l : List ClockedRow). rows_of y.row.p front ++ l) mine))) in
            let said = says_next y.row.p t.0 y (rows_of y.row.p ys) t.2 rest in
            at (others y.row.p t.0 t.1) said
          where
            at : (t.0 ≡ []) ⊎ ((next : ClockedRow) × SaysNext y.row.p front t.0 next × IsNotLater row next) → SaysNext y.row.p front t.0 y → IsNotLater row y
            at (inl none) said = absurd (cc (none, said.0.is))
            at (inr h) said = subst (λ (r : ClockedRow). IsNotLater row r) (one_next y.row.p t.0 h.0 y h.1 said) h.2

    next_of_all : (rest : List ClockedRow) × (rows ≡ front ++ row ∷ rest)
    next_of_all = at_rest all_rest.0 refl
      where
        sorted_after : (front rest : List ClockedRow) → AllPairs IsNotLater (front ++ rest) → AllPairs IsNotLater rest
        sorted_after [] rest s = s
        sorted_after (x ∷ front) rest s = sorted_after front rest (rest_sorted x (front ++ rest) s)

        is_first : (y : ClockedRow) (ys : List ClockedRow) → all_rest.0 ≡ y ∷ ys → y ≡ row
        is_first y ys e = elim (cases_eq y.row.p p) [
          | inl same ↦
              let both : y ∷ rows_of p ys ≡ row ∷ is_next.0 = sym (of_it p y ys same) ∙ (ap (rows_of p) (sym e) ∙ is_next.1) in
              cc both
          | inr other ↦
              let there = stands p row is_next.0 ys (sym (of_other p y ys other) ∙ (ap (rows_of p) (sym e) ∙ is_next.1)) in
              let sorted = subst (AllPairs IsNotLater) e (sorted_after front all_rest.0 (subst (AllPairs IsNotLater) all_rest.1 merged.sorted.sorted)) in
              let behind = after_first y row ys there.0 sorted there.1 in
              absurd (other (both_ways y row behind (not_before y ys e) ∙ own))
        ]

        at_rest : (rest : List ClockedRow) → all_rest.0 ≡ rest → (more : List ClockedRow) × (rows ≡ front ++ row ∷ more)
        at_rest [] e = absurd (cc (sym (ap (rows_of p) e) ∙ is_next.1))
        at_rest (y ∷ ys) e = (ys, all_rest.1 ∙ ap (λ (l : List ClockedRow). front ++ l) (e ∙ ap (λ (r : ClockedRow). r ∷ ys) (is_first y ys e)))

-- a fault that is none of a part's own text
of_part_limits : (p : ℕ) (fault : PartFault) → (IsOfPartText fault → ⊥) → IsOfLimits (merge.Part p fault)
of_part_limits p part.Read h = tt
of_part_limits p part.Memory h = tt
of_part_limits p part.TooLong h = absurd (h (λ e. absurd (cc e), λ e. absurd (cc e)))
of_part_limits p (part.Fields n) h = absurd (h (λ e. absurd (cc e), λ e. absurd (cc e)))
of_part_limits p (part.Word n) h = absurd (h (λ e. absurd (cc e), λ e. absurd (cc e)))
of_part_limits p (part.Number n) h = absurd (h (λ e. absurd (cc e), λ e. absurd (cc e)))
of_part_limits p (part.Clock n) h = absurd (h (λ e. absurd (cc e), λ e. absurd (cc e)))
of_part_limits p (part.Process n) h = absurd (h (λ e. absurd (cc e), λ e. absurd (cc e)))

-- a fault of a row that has numbers
of_row_limits : (g : Given) (p n q : ℕ) (event : _) (row : Event) (what : RowFault) → numbered_event g q event ≡ Some row → IsRowFault g q event what → IsOfLimits (merge.Row p n what)
of_row_limits g p n q event row wrong.TooManyRows e h = tt
of_row_limits g p n q event row wrong.TooManyInstances e h = tt
of_row_limits g p n q event row wrong.Name e h = absurd (cc (e, h.0))
of_row_limits g p n q event row wrong.NotSent e h = absurd (cc (e, h.0))
of_row_limits g p n q event row wrong.NotBegun e h = absurd (cc (e, h.0))

pub only_limits : (parts : List PartRead) (rows : List ClockedRow) (log : List Event) (old new : Option (List ℕ)) (fault : MergeFault) → AreKnown parts → IsMergeOf parts rows → numbered (without_clocks rows) ≡ Some log
    → StopsMerge parts old new fault → IsOfLimits fault
only_limits parts rows log old new merge.Write known merged numbers s = tt
only_limits parts rows log old new merge.Memory known merged numbers s = tt
only_limits parts rows log old new (merge.Part p fault) known merged numbers s =
    let text = known p s.wrong.0 in
    let b = s.begins.begun p text.0 text.1 in
    let first : IsFirstPartFault p text.0 fault = record { rows = rows_of p s.rows; left = b.0; begins = b.1; wrong = s.wrong.2 b.0 (text.0, text.1, b.1) } in
    of_part_limits p fault (λ o. no_part p text.0 (rows_of p rows) fault o first (merged.whole p text.0 text.1))
only_limits parts rows log old new (merge.Row p n what) known merged numbers s =
    let w = s.wrong in
    let next = next_of_all parts rows s.rows s.log known merged s.begins p w.2 w.0 w.3 w.4 w.5 in
    let number = number_after nothing_given (without_clocks s.rows) w.2.row (without_clocks next.0) s.log log s.begins.numbers
    (subst (λ (l : List NamedRow). numbered l ≡ Some log) (ap without_clocks next.1 ∙ map-append (λ (r : ClockedRow). r.row) s.rows (w.2 ∷ next.0)) numbers) in
    of_row_limits (given_by nothing_given s.log) p n p w.2.row.event number.0 what (subst (λ (q : ℕ). numbered_event (given_by nothing_given s.log) q w.2.row.event ≡ Some number.0) w.3 number.1) w.6
