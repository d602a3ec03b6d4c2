-- A text says one list of rows of a process, or has one first fault.
use Rattle.std.proofs.Common.{◌≡◌, ◌∙◌, ◌<◌, ◌≤◌, ◌+◌, ℕ, List, [], ◌∷◌, ◌++◌, length, map, refl, sym, ap, subst, arith, inl, inr}
use Rattle.std.proofs.lemmas.List.{append-nil}
use Rattle.std.proofs.lemmas.Bool.{cases_lt}
use Rattle.kt_text.proofs.FieldFacts.{Records, first_and_rest}
use Rattle.kt_merge.specs.declared.part_fault.PartFault.{PartFault}
use Rattle.kt_merge.specs.declared.part_fault.PartFault.TheVariants.{Read, TooLong, Fields, Word, Number, Clock, Process, Memory}
use Rattle.kt_merge.specs.declared.part_rows.EventWord.{EventWord}
use Rattle.kt_merge.specs.declared.part_rows.EventWord.TheVariants as word
use Rattle.kt_merge.specs.declared.part_rows.FieldFault.{FieldFault}
use Rattle.kt_merge.specs.declared.part_rows.FieldFault.TheVariants as field
use Rattle.kt_spacetime.specs.declared.named_rows.ClockedRow.{ClockedRow}
use Rattle.kt_merge.specs.PartSlot.{PartSlot}
use Rattle.kt_merge.specs.PartSlot as slot
use Rattle.kt_merge.specs.Spelling.{part_spelling, IsFirstPartMisfit, IsFaultAfterWord, IsFieldFault}
use Rattle.kt_merge.specs.Texts.{max_records, IsSpellable, IsPartFrom, clock_after, IsPartText, HasWrongField, SaysRow, IsPartFaultFrom, IsFirstPartFault, IsOfPartText}
use Rattle.kt_merge.proofs.SpellingFacts.{one_row, one_word, six_fields, none_wrong_in}

-- two texts that begin with rows of one process: the one with more goes on with the others' rows
pub record GoesOnWith (p clock : ℕ) (before rows : List ClockedRow) (left more : Records) : Type 0 where
  pub rest : List ClockedRow
  pub whole : rows ≡ before ++ rest
  pub is : left ≡ map part_spelling rest ++ more
  pub part : IsPartFrom p (clock_after clock before) rest

-- one more row before
goes_on_more : (p clock : ℕ) (x y : ClockedRow) (before rows : List ClockedRow) (left more : Records) → x ≡ y → GoesOnWith p x.clock before rows left more → GoesOnWith p clock (x ∷ before) (y ∷ rows) left more
goes_on_more p clock x y before rows left more same g = record {
  rest = g.rest;
  whole = ap (λ (r : ClockedRow). r ∷ rows) (sym same) ∙ ap (λ (rs : List ClockedRow). x ∷ rs) g.whole;
  is = g.is;
  part = g.part;
}

pub goes_on_with : (p clock : ℕ) (before rows : List ClockedRow) (left more : Records) → IsPartFrom p clock before → IsPartFrom p clock rows → length before ≤ length rows
    → map part_spelling before ++ left ≡ map part_spelling rows ++ more → GoesOnWith p clock before rows left more
goes_on_with p clock [] rows left more b r l e = record { rest = rows; whole = refl; is = e; part = r }
goes_on_with p clock (x ∷ before) [] left more b r l e = absurd (omega (arith, l))
goes_on_with p clock (x ∷ before) (y ∷ rows) left more b r l e =
    let parts = first_and_rest (part_spelling x) (part_spelling y) (map part_spelling before ++ left) (map part_spelling rows ++ more) e in
    let same : x ≡ y = one_row x y b.0 r.0 parts.0 in
    let after : IsPartFrom p x.clock rows = subst (λ (z : ClockedRow). IsPartFrom p z.clock rows) (sym same) r.3 in
    goes_on_more p clock x y before rows left more same (goes_on_with p x.clock before rows left more b.3 after (omega (arith, l)) parts.1)

-- spellings that are equal are those of equal rows
one_list : (p clock : ℕ) (rows others : List ClockedRow) → IsPartFrom p clock rows → IsPartFrom p clock others → map part_spelling rows ≡ map part_spelling others → rows ≡ others
one_list p clock [] [] r s e = refl
one_list p clock [] (x ∷ xs) r s e = cc e
one_list p clock (x ∷ xs) [] r s e = cc e
one_list p clock (x ∷ xs) (y ∷ ys) r s e =
    let parts = first_and_rest (part_spelling x) (part_spelling y) (map part_spelling xs) (map part_spelling ys) e in
    let same : x ≡ y = one_row x y r.0 s.0 parts.0 in
    let rest : xs ≡ ys = one_list p x.clock xs ys r.3 (subst (λ (z : ClockedRow). IsPartFrom p z.clock ys) (sym same) s.3) parts.1 in
    cc (same, rest)

pub one_part : (p : ℕ) (text : Records) (rows others : List ClockedRow) → IsPartText p text rows → IsPartText p text others → rows ≡ others
one_part p text rows others r s = one_list p 0 rows others r.part s.part (sym r.spelled ∙ s.spelled)

-- the rows that a text begins with, whatever follows
length_of : (before rest : List ClockedRow) → length (before ++ rest) ≡ length before + length rest
length_of [] rest = omega arith
length_of (x ∷ before) rest = omega (arith, length_of before rest)

-- a record that spells a row has no wrong field
pub wrong_field : (row : ClockedRow) (rest : Records) (f : FieldFault) → IsSpellable row → HasWrongField (part_spelling row ∷ rest) f → ⊥
wrong_field row rest f s h =
    none_wrong_in row h.time h.word h.first h.second h.third h.last f s
    (first_and_rest (part_spelling row) (h.time ∷ h.word ∷ h.first ∷ h.second ∷ h.third ∷ h.last ∷ []) rest h.rest h.is).0 h.wrong

-- a record that says the next row of a process is not wrong
pub nothing_wrong : (p count clock : ℕ) (row : ClockedRow) (rest : Records) (fault : PartFault) → IsOfPartText fault → IsSpellable row → clock ≤ row.clock → row.row.p ≡ p → count < max_records
    → IsPartFaultFrom p count clock (part_spelling row ∷ rest) fault → ⊥
nothing_wrong p count clock row rest Read o s l own few h = o.0 refl
nothing_wrong p count clock row rest Memory o s l own few h = o.1 refl
nothing_wrong p count clock row rest TooLong o s l own few h = omega (arith, few, h.0)
nothing_wrong p count clock row rest (Fields n) o s l own few h =
    let same = first_and_rest (part_spelling row) h.1 rest h.2 h.3 in
    h.4 (sym (ap length same.0) ∙ six_fields row)
nothing_wrong p count clock row rest (Word n) o s l own few h = wrong_field row rest field.Word s h.1
nothing_wrong p count clock row rest (Number n) o s l own few h = wrong_field row rest field.Number s h.1
nothing_wrong p count clock row rest (Clock n) o s l own few h =
    let same = one_row row h.1 s h.2.spellable (first_and_rest (part_spelling row) (part_spelling h.1) rest h.2.rest h.2.is).0 in
    let at_clock : row.clock ≡ h.1.clock = ap (λ (r : ClockedRow). r.clock) same in
    omega (arith, l, h.3, at_clock)
nothing_wrong p count clock row rest (Process n) o s l own few h =
    let same = one_row row h.1 s h.2.spellable (first_and_rest (part_spelling row) (part_spelling h.1) rest h.2.rest h.2.is).0 in
    h.4 (sym (ap (λ (r : ClockedRow). r.row.p) same) ∙ own)

-- where a record is wrong there is one
has_record : (p count clock : ℕ) (fault : PartFault) → IsOfPartText fault → IsPartFaultFrom p count clock [] fault → ⊥
has_record p count clock Read o h = o.0 refl
has_record p count clock Memory o h = o.1 refl
has_record p count clock TooLong o h = cc h.3
has_record p count clock (Fields n) o h = cc h.3
has_record p count clock (Word n) o h = cc h.1.is
has_record p count clock (Number n) o h = cc h.1.is
has_record p count clock (Clock n) o h = cc h.2.is
has_record p count clock (Process n) o h = cc h.2.is

-- where rows go on, nothing is wrong
not_where_rows_go_on : (p clock : ℕ) (before rows : List ClockedRow) (left more : Records) (fault : PartFault) → IsOfPartText fault → GoesOnWith p clock before rows left more → length before < length rows
    → length rows ≤ max_records → IsPartFaultFrom p (length before) (clock_after clock before) left fault → ⊥
not_where_rows_go_on p clock before rows left more fault o g less few h = at_rest g.rest g.whole g.is g.part
  where
    at_rest : (rest : List ClockedRow) → rows ≡ before ++ rest → left ≡ map part_spelling rest ++ more → IsPartFrom p (clock_after clock before) rest → ⊥
    at_rest [] whole is part =
        let none : length rows ≡ length before = ap length (whole ∙ append-nil before) in
        omega (arith, less, none)
    at_rest (row ∷ rest) whole is part =
        nothing_wrong p (length before) (clock_after clock before) row (map part_spelling rest ++ more) fault o part.0 part.1 part.2 (omega (arith, less, few))
        (subst (λ (x : Records). IsPartFaultFrom p (length before) (clock_after clock before) x fault) is h)

pub no_part : (p : ℕ) (text : Records) (rows : List ClockedRow) (fault : PartFault) → IsOfPartText fault → IsFirstPartFault p text fault → IsPartText p text rows → ⊥
no_part p text rows fault o first part = elim (cases_lt (length rows) (length first.rows)) [
  | inl less ↦
      let g = goes_on_with p 0 rows first.rows [] first.left part.part first.begins.part (omega (arith, less)) (append-nil (map part_spelling rows) ∙ (sym part.spelled ∙ first.begins.spelled)) in
      more_rows p rows first.rows first.left g less
  | inr at_least ↦
      let g = goes_on_with p 0 first.rows rows first.left [] first.begins.part part.part (omega (arith, at_least)) (sym first.begins.spelled ∙ (part.spelled ∙ sym (append-nil (map part_spelling rows)))) in
      elim (cases_lt (length first.rows) (length rows)) [
        | inl fewer ↦ not_where_rows_go_on p 0 first.rows rows first.left [] fault o g fewer part.few first.wrong
        | inr as_many ↦ at_end p first.rows rows first.left fault o g (omega (arith, at_least, as_many)) first.wrong
      ]
]
  where
    more_rows : (p : ℕ) (rows others : List ClockedRow) (more : Records) → GoesOnWith p 0 rows others [] more → length rows < length others → ⊥
    more_rows p rows others more g less = at_rest g.rest g.whole g.is
      where
        at_rest : (rest : List ClockedRow) → others ≡ rows ++ rest → [] ≡ map part_spelling rest ++ more → ⊥
        at_rest [] whole is = let none : length others ≡ length rows = ap length (whole ∙ append-nil rows) in omega (arith, less, none)
        at_rest (row ∷ rest) whole is = cc is

    at_end : (p : ℕ) (before rows : List ClockedRow) (left : Records) (fault : PartFault) → IsOfPartText fault → GoesOnWith p 0 before rows left [] → length rows ≡ length before
        → IsPartFaultFrom p (length before) (clock_after 0 before) left fault → ⊥
    at_end p before rows left fault o g same h = at_rest g.rest g.whole g.is
      where
        at_rest : (rest : List ClockedRow) → rows ≡ before ++ rest → left ≡ map part_spelling rest ++ [] → ⊥
        at_rest [] whole is = has_record p (length before) (clock_after 0 before) fault o (subst (λ (x : Records). IsPartFaultFrom p (length before) (clock_after 0 before) x fault) is h)
        at_rest (row ∷ rest) whole is = let longer : length rows ≡ length before + length (row ∷ rest) = ap length whole ∙ length_of before (row ∷ rest) in omega (arith, longer, same)

-- of four texts one is the first that does not fit
one_misfit : (x y z w : PartSlot) (a b c d : List ℕ) (f g : FieldFault) → IsFirstPartMisfit x y z w a b c d f → IsFirstPartMisfit x y z w a b c d g → f ≡ g
one_misfit x y z w a b c d f g (inl p) (inl q) = p.0 ∙ sym q.0
one_misfit x y z w a b c d f g (inl p) (inr (inl q)) = absurd (p.1 q.0)
one_misfit x y z w a b c d f g (inl p) (inr (inr (inl q))) = absurd (p.1 q.0)
one_misfit x y z w a b c d f g (inl p) (inr (inr (inr q))) = absurd (p.1 q.0)
one_misfit x y z w a b c d f g (inr (inl p)) (inl q) = absurd (q.1 p.0)
one_misfit x y z w a b c d f g (inr (inl p)) (inr (inl q)) = p.1.0 ∙ sym q.1.0
one_misfit x y z w a b c d f g (inr (inl p)) (inr (inr (inl q))) = absurd (p.1.1 q.1)
one_misfit x y z w a b c d f g (inr (inl p)) (inr (inr (inr q))) = absurd (p.1.1 q.1)
one_misfit x y z w a b c d f g (inr (inr (inl p))) (inl q) = absurd (q.1 p.0)
one_misfit x y z w a b c d f g (inr (inr (inl p))) (inr (inl q)) = absurd (q.1.1 p.1)
one_misfit x y z w a b c d f g (inr (inr (inl p))) (inr (inr (inl q))) = p.2.0 ∙ sym q.2.0
one_misfit x y z w a b c d f g (inr (inr (inl p))) (inr (inr (inr q))) = absurd (p.2.1 q.2)
one_misfit x y z w a b c d f g (inr (inr (inr p))) (inl q) = absurd (q.1 p.0)
one_misfit x y z w a b c d f g (inr (inr (inr p))) (inr (inl q)) = absurd (q.1.1 p.1)
one_misfit x y z w a b c d f g (inr (inr (inr p))) (inr (inr (inl q))) = absurd (q.2.1 p.2)
one_misfit x y z w a b c d f g (inr (inr (inr p))) (inr (inr (inr q))) = p.3.0 ∙ sym q.3.0

one_after : (v : EventWord) (a b c d : List ℕ) (f g : FieldFault) → IsFaultAfterWord v a b c d f → IsFaultAfterWord v a b c d g → f ≡ g
one_after word.Sent a b c d f g p q = one_misfit slot.process slot.process slot.body (slot.message a) a b c d f g p q
one_after word.Received a b c d f g p q = one_misfit slot.process slot.process (slot.message b) slot.nothing a b c d f g p q
one_after word.Dropped a b c d f g p q = one_misfit slot.process slot.process (slot.message b) slot.nothing a b c d f g p q
one_after word.Began a b c d f g p q = one_misfit slot.process (slot.own_instance a) slot.kind slot.nothing a b c d f g p q
one_after word.Took a b c d f g p q = one_misfit slot.process slot.instance slot.nothing slot.nothing a b c d f g p q
one_after word.Ready a b c d f g p q = one_misfit slot.process slot.instance slot.nothing slot.nothing a b c d f g p q
one_after word.Unwilling a b c d f g p q = one_misfit slot.process slot.instance slot.cause slot.nothing a b c d f g p q
one_after word.Decided a b c d f g p q = one_misfit slot.process (slot.own_instance a) slot.decision slot.nothing a b c d f g p q
one_after word.Closed a b c d f g p q = one_misfit slot.process slot.instance slot.nothing slot.nothing a b c d f g p q
one_after word.Failed a b c d f g p q = one_misfit slot.process slot.nothing slot.nothing slot.nothing a b c d f g p q
one_after word.Refused a b c d f g p q = one_misfit slot.process slot.verb slot.cause slot.nothing a b c d f g p q

-- six fields have one fault
one_in_fields : (t w a b c d : List ℕ) (f g : FieldFault) → IsFieldFault t w a b c d f → IsFieldFault t w a b c d g → f ≡ g
one_in_fields t w a b c d f g (inl p) (inl q) = p.0 ∙ sym q.0
one_in_fields t w a b c d f g (inl p) (inr (inl q)) = absurd (p.1 q.0)
one_in_fields t w a b c d f g (inl p) (inr (inr (v, fits, is, h))) = absurd (p.1 fits)
one_in_fields t w a b c d f g (inr (inl p)) (inl q) = absurd (q.1 p.0)
one_in_fields t w a b c d f g (inr (inl p)) (inr (inl q)) = p.1 ∙ sym q.1
one_in_fields t w a b c d f g (inr (inl p)) (inr (inr (v, fits, is, h))) = absurd (p.2 v is)
one_in_fields t w a b c d f g (inr (inr (v, fits, is, h))) (inl q) = absurd (q.1 fits)
one_in_fields t w a b c d f g (inr (inr (v, fits, is, h))) (inr (inl q)) = absurd (q.2 v is)
one_in_fields t w a b c d f g (inr (inr (v, fits, is, h))) (inr (inr (u, other, as_u, k))) =
    one_after v a b c d f g h (subst (λ (x : EventWord). IsFaultAfterWord x a b c d g) (one_word u v (sym as_u ∙ is)) k)

-- the same fields are wrong in one way
one_wrong_field : (left : Records) (f g : FieldFault) → HasWrongField left f → HasWrongField left g → f ≡ g
one_wrong_field left f g p q =
    let whole = (first_and_rest (p.time ∷ p.word ∷ p.first ∷ p.second ∷ p.third ∷ p.last ∷ []) (q.time ∷ q.word ∷ q.first ∷ q.second ∷ q.third ∷ q.last ∷ []) p.rest q.rest (sym p.is ∙ q.is)).0 in
    let at_1 : q.time ≡ p.time = cc whole in
    let at_2 : q.word ≡ p.word = cc whole in
    let at_3 : q.first ≡ p.first = cc whole in
    let at_4 : q.second ≡ p.second = cc whole in
    let at_5 : q.third ≡ p.third = cc whole in
    let at_6 : q.last ≡ p.last = cc whole in
    let h1 = subst (λ (x : List ℕ). IsFieldFault x q.word q.first q.second q.third q.last g) at_1 q.wrong in
    let h2 = subst (λ (x : List ℕ). IsFieldFault p.time x q.first q.second q.third q.last g) at_2 h1 in
    let h3 = subst (λ (x : List ℕ). IsFieldFault p.time p.word x q.second q.third q.last g) at_3 h2 in
    let h4 = subst (λ (x : List ℕ). IsFieldFault p.time p.word p.first x q.third q.last g) at_4 h3 in
    let h5 = subst (λ (x : List ℕ). IsFieldFault p.time p.word p.first p.second x q.last g) at_5 h4 in
    let h6 = subst (λ (x : List ℕ). IsFieldFault p.time p.word p.first p.second p.third x g) at_6 h5 in
    one_in_fields p.time p.word p.first p.second p.third p.last f g p.wrong h6

-- a record that says a row has no wrong field
says_none_wrong : (left : Records) (row : ClockedRow) (f : FieldFault) → SaysRow left row → HasWrongField left f → ⊥
says_none_wrong left row f s h = wrong_field row s.rest f s.spellable (subst (λ (x : Records). HasWrongField x f) s.is h)

-- a record whose fields are counted wrongly
abbrev Miscounted : Records → Type 0
Miscounted left = (fields : List (List ℕ)) × (rest : Records) × (left ≡ fields ∷ rest) × (length fields ≡ 6 → ⊥)

six_of_wrong : (left : Records) (f : FieldFault) → HasWrongField left f → Miscounted left → ⊥
six_of_wrong left f h m =
    let same = (first_and_rest (h.time ∷ h.word ∷ h.first ∷ h.second ∷ h.third ∷ h.last ∷ []) m.0 h.rest m.1 (sym h.is ∙ m.2)).0 in
    m.3 (sym (ap length same))

six_of_row : (left : Records) (row : ClockedRow) → SaysRow left row → Miscounted left → ⊥
six_of_row left row s m = m.3 (sym (ap length (first_and_rest (part_spelling row) m.0 s.rest m.1 (sym s.is ∙ m.2)).0) ∙ six_fields row)

-- a record says one row
one_said : (left : Records) (row other : ClockedRow) → SaysRow left row → SaysRow left other → row ≡ other
one_said left row other s t = one_row row other s.spellable t.spellable (first_and_rest (part_spelling row) (part_spelling other) s.rest t.rest (sym s.is ∙ t.is)).0

falls_and_rises : (left : Records) (clock : ℕ) (row other : ClockedRow) → SaysRow left row → SaysRow left other → row.clock < clock → clock ≤ other.clock → ⊥
falls_and_rises left clock row other s t l r =
    let same : row.clock ≡ other.clock = ap (λ (x : ClockedRow). x.clock) (one_said left row other s t) in
    omega (arith, l, r, same)

-- after some rows one thing is first wrong
pub one_part_fault : (p count clock : ℕ) (left : Records) (f g : PartFault) → IsOfPartText f → IsOfPartText g → IsPartFaultFrom p count clock left f → IsPartFaultFrom p count clock left g → f ≡ g
one_part_fault p count clock left Read g o u h k = absurd (o.0 refl)
one_part_fault p count clock left Memory g o u h k = absurd (o.1 refl)
one_part_fault p count clock left f Read o u h k = absurd (u.0 refl)
one_part_fault p count clock left f Memory o u h k = absurd (u.1 refl)
one_part_fault p count clock left TooLong TooLong o u h k = refl
one_part_fault p count clock left TooLong (Fields m) o u h k = absurd (omega (arith, h.0, k.0.1))
one_part_fault p count clock left TooLong (Word m) o u h k = absurd (omega (arith, h.0, k.0.1))
one_part_fault p count clock left TooLong (Number m) o u h k = absurd (omega (arith, h.0, k.0.1))
one_part_fault p count clock left TooLong (Clock m) o u h k = absurd (omega (arith, h.0, k.0.1))
one_part_fault p count clock left TooLong (Process m) o u h k = absurd (omega (arith, h.0, k.0.1))
one_part_fault p count clock left (Fields n) TooLong o u h k = absurd (omega (arith, k.0, h.0.1))
one_part_fault p count clock left (Word n) TooLong o u h k = absurd (omega (arith, k.0, h.0.1))
one_part_fault p count clock left (Number n) TooLong o u h k = absurd (omega (arith, k.0, h.0.1))
one_part_fault p count clock left (Clock n) TooLong o u h k = absurd (omega (arith, k.0, h.0.1))
one_part_fault p count clock left (Process n) TooLong o u h k = absurd (omega (arith, k.0, h.0.1))
one_part_fault p count clock left (Fields n) (Fields m) o u h k = ap Fields (h.0.0 ∙ sym k.0.0)
one_part_fault p count clock left (Fields n) (Word m) o u h k = absurd (six_of_wrong left field.Word k.1 (h.1, h.2, h.3, h.4))
one_part_fault p count clock left (Fields n) (Number m) o u h k = absurd (six_of_wrong left field.Number k.1 (h.1, h.2, h.3, h.4))
one_part_fault p count clock left (Fields n) (Clock m) o u h k = absurd (six_of_row left k.1 k.2 (h.1, h.2, h.3, h.4))
one_part_fault p count clock left (Fields n) (Process m) o u h k = absurd (six_of_row left k.1 k.2 (h.1, h.2, h.3, h.4))
one_part_fault p count clock left (Word n) (Fields m) o u h k = absurd (six_of_wrong left field.Word h.1 (k.1, k.2, k.3, k.4))
one_part_fault p count clock left (Number n) (Fields m) o u h k = absurd (six_of_wrong left field.Number h.1 (k.1, k.2, k.3, k.4))
one_part_fault p count clock left (Clock n) (Fields m) o u h k = absurd (six_of_row left h.1 h.2 (k.1, k.2, k.3, k.4))
one_part_fault p count clock left (Process n) (Fields m) o u h k = absurd (six_of_row left h.1 h.2 (k.1, k.2, k.3, k.4))
one_part_fault p count clock left (Word n) (Word m) o u h k = ap Word (h.0.0 ∙ sym k.0.0)
one_part_fault p count clock left (Word n) (Number m) o u h k = let e : field.Word ≡ field.Number = one_wrong_field left field.Word field.Number h.1 k.1 in cc e
one_part_fault p count clock left (Number n) (Word m) o u h k = let e : field.Number ≡ field.Word = one_wrong_field left field.Number field.Word h.1 k.1 in cc e
one_part_fault p count clock left (Number n) (Number m) o u h k = ap Number (h.0.0 ∙ sym k.0.0)
one_part_fault p count clock left (Word n) (Clock m) o u h k = absurd (says_none_wrong left k.1 field.Word k.2 h.1)
one_part_fault p count clock left (Word n) (Process m) o u h k = absurd (says_none_wrong left k.1 field.Word k.2 h.1)
one_part_fault p count clock left (Number n) (Clock m) o u h k = absurd (says_none_wrong left k.1 field.Number k.2 h.1)
one_part_fault p count clock left (Number n) (Process m) o u h k = absurd (says_none_wrong left k.1 field.Number k.2 h.1)
one_part_fault p count clock left (Clock n) (Word m) o u h k = absurd (says_none_wrong left h.1 field.Word h.2 k.1)
one_part_fault p count clock left (Clock n) (Number m) o u h k = absurd (says_none_wrong left h.1 field.Number h.2 k.1)
one_part_fault p count clock left (Process n) (Word m) o u h k = absurd (says_none_wrong left h.1 field.Word h.2 k.1)
one_part_fault p count clock left (Process n) (Number m) o u h k = absurd (says_none_wrong left h.1 field.Number h.2 k.1)
one_part_fault p count clock left (Clock n) (Clock m) o u h k = ap Clock (h.0.0 ∙ sym k.0.0)
one_part_fault p count clock left (Clock n) (Process m) o u h k = absurd (falls_and_rises left clock h.1 k.1 h.2 k.2 h.3 k.3)
one_part_fault p count clock left (Process n) (Clock m) o u h k = absurd (falls_and_rises left clock k.1 h.1 k.2 h.2 k.3 h.3)
one_part_fault p count clock left (Process n) (Process m) o u h k = ap Process (h.0.0 ∙ sym k.0.0)

-- after as many rows the same is left
same_place : (p : ℕ) (before rows : List ClockedRow) (left more : Records) (f g : PartFault) → IsOfPartText f → IsOfPartText g → GoesOnWith p 0 before rows left more → length rows ≡ length before
    → IsPartFaultFrom p (length before) (clock_after 0 before) left f → IsPartFaultFrom p (length rows) (clock_after 0 rows) more g → f ≡ g
same_place p before rows left more f g o u goes same h k = at_rest goes.rest goes.whole goes.is
  where
    at_rest : (rest : List ClockedRow) → rows ≡ before ++ rest → left ≡ map part_spelling rest ++ more → f ≡ g
    at_rest (row ∷ rest) whole is = let longer : length rows ≡ length before + length (row ∷ rest) = ap length whole ∙ length_of before (row ∷ rest) in absurd (omega (arith, longer, same))
    at_rest [] whole is =
        let rows_same : rows ≡ before = whole ∙ append-nil before in
        let k_there = subst (λ (r : List ClockedRow). IsPartFaultFrom p (length r) (clock_after 0 r) more g) rows_same k in
        let h_there = subst (λ (x : Records). IsPartFaultFrom p (length before) (clock_after 0 before) x f) is h in
        one_part_fault p (length before) (clock_after 0 before) more f g o u h_there k_there

pub one_first_fault : (p : ℕ) (text : Records) (f g : PartFault) → IsOfPartText f → IsOfPartText g → IsFirstPartFault p text f → IsFirstPartFault p text g → f ≡ g
one_first_fault p text f g o u h k = elim (cases_lt (length h.rows) (length k.rows)) [
  | inl less ↦
      let goes = goes_on_with p 0 h.rows k.rows h.left k.left h.begins.part k.begins.part (omega (arith, less)) (sym h.begins.spelled ∙ k.begins.spelled) in
      absurd (not_where_rows_go_on p 0 h.rows k.rows h.left k.left f o goes less k.begins.few h.wrong)
  | inr at_least ↦
      let goes = goes_on_with p 0 k.rows h.rows k.left h.left k.begins.part h.begins.part (omega (arith, at_least)) (sym k.begins.spelled ∙ h.begins.spelled) in
      elim (cases_lt (length k.rows) (length h.rows)) [
        | inl more ↦ absurd (not_where_rows_go_on p 0 k.rows h.rows k.left h.left g u goes more h.begins.few k.wrong)
        | inr at_most ↦ sym (same_place p k.rows h.rows k.left h.left g f u o goes (omega (arith, at_least, at_most)) k.wrong h.wrong)
      ]
]
