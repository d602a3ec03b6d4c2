-- A text has one first fault.
use Rattle.std.proofs.Common.{◌≡◌, ◌∙◌, ◌≤◌, ℕ, List, [], ◌∷◌, ◌++◌, length, map, refl, sym, ap, subst, arith, inl, inr}
use Rattle.std.specs.Prelude.{◌⊎◌}
use Rattle.std.proofs.lemmas.Bool.{cases_lt}
use Rattle.kt_spacetime.specs.declared.event.Event.{Event}
use Rattle.kt_log_text.specs.declared.fault.LogFault.{LogFault}
use Rattle.kt_log_text.specs.declared.fault.LogFault.TheVariants.{Read, TooLong, Version, Fields, Word, Number, Memory}
use Rattle.kt_log_text.specs.declared.rows.Format.{Format}
use Rattle.kt_log_text.specs.declared.rows.RowFault.{RowFault}
use Rattle.kt_log_text.specs.declared.rows.RowFault.TheVariants as fault
use Rattle.kt_log_text.specs.declared.rows.RowWord.{RowWord}
use Rattle.kt_log_text.specs.declared.rows.RowWord.TheVariants as row
use Rattle.kt_log_text.specs.Slot.{Slot}
use Rattle.kt_log_text.specs.Slot as slot
use Rattle.kt_log_text.specs.Spelling.{spelling, max_rows, IsFirstRowMisfit, IsRowFaultAfter, IsRowFieldFault}
use Rattle.kt_log_text.specs.Texts.{AreInFormat, IsRowFault, IsFirstLogFault, IsOfLogText}
use Rattle.kt_log_text.proofs.SpellingFacts.{one_word}
use Rattle.kt_text.proofs.FieldFacts.{Records, first_and_rest, field_1, field_2, field_3, field_4}
use Rattle.kt_log_text.proofs.TextFacts.{one_format, no_wrong_row, SaysOther, HasWrongRow, kinds, IsWhole, whole, other_has_none}

-- of three texts one is the first that does not fit
one_misfit : (format : Format) (x y z : Slot) (a b c : List ℕ) (f g : RowFault) → IsFirstRowMisfit format x y z a b c f → IsFirstRowMisfit format x y z a b c g → f ≡ g
one_misfit format x y z a b c f g (inl p) (inl q) = p.0 ∙ sym q.0
one_misfit format x y z a b c f g (inl p) (inr (inl q)) = absurd (p.1 q.0)
one_misfit format x y z a b c f g (inl p) (inr (inr q)) = absurd (p.1 q.0)
one_misfit format x y z a b c f g (inr (inl p)) (inl q) = absurd (q.1 p.0)
one_misfit format x y z a b c f g (inr (inl p)) (inr (inl q)) = p.1.0 ∙ sym q.1.0
one_misfit format x y z a b c f g (inr (inl p)) (inr (inr q)) = absurd (p.1.1 q.1)
one_misfit format x y z a b c f g (inr (inr p)) (inl q) = absurd (q.1 p.0)
one_misfit format x y z a b c f g (inr (inr p)) (inr (inl q)) = absurd (q.1.1 p.1)
one_misfit format x y z a b c f g (inr (inr p)) (inr (inr q)) = p.2.0 ∙ sym q.2.0

one_after : (format : Format) (w : RowWord) (a b c : List ℕ) (f g : RowFault) → IsRowFaultAfter format w a b c f → IsRowFaultAfter format w a b c g → f ≡ g
one_after format row.Sent a b c f g p q = one_misfit format slot.process slot.process slot.body a b c f g p q
one_after format row.Received a b c f g p q = one_misfit format slot.process slot.process slot.message a b c f g p q
one_after format row.Dropped a b c f g p q = one_misfit format slot.process slot.process slot.message a b c f g p q
one_after format row.Began a b c f g p q = one_misfit format slot.process slot.instance slot.kind a b c f g p q
one_after format row.Took a b c f g p q = one_misfit format slot.process slot.instance slot.nothing a b c f g p q
one_after format row.Ready a b c f g p q = one_misfit format slot.process slot.instance slot.nothing a b c f g p q
one_after format row.Unwilling a b c f g p q = one_misfit format slot.process slot.instance slot.cause a b c f g p q
one_after format row.Decided a b c f g p q = one_misfit format slot.process slot.instance slot.decision a b c f g p q
one_after format row.Closed a b c f g p q = one_misfit format slot.process slot.instance slot.nothing a b c f g p q
one_after format row.Failed a b c f g p q = one_misfit format slot.process slot.nothing slot.nothing a b c f g p q
one_after format row.Refused a b c f g p q = one_misfit format slot.process slot.verb slot.cause a b c f g p q

-- four fields have one fault
one_in_fields : (format : Format) (w a b c : List ℕ) (f g : RowFault) → IsRowFieldFault format w a b c f → IsRowFieldFault format w a b c g → f ≡ g
one_in_fields format w a b c f g (inl p) (inl q) = p.0 ∙ sym q.0
one_in_fields format w a b c f g (inl p) (inr (v, is, h)) = absurd (p.1 v is)
one_in_fields format w a b c f g (inr (v, is, h)) (inl q) = absurd (q.1 v is)
one_in_fields format w a b c f g (inr (v, is, h)) (inr (u, as_u, k)) =
    one_after format v a b c f g h (subst (λ (x : RowWord). IsRowFaultAfter format x a b c g) (one_word u v (sym as_u ∙ is)) k)

one_in_record : (format : Format) (w a b c v d e h : List ℕ) (f g : RowFault) → w ∷ a ∷ b ∷ c ∷ [] ≡ v ∷ d ∷ e ∷ h ∷ [] → IsRowFieldFault format w a b c f → IsRowFieldFault format v d e h g → f ≡ g
one_in_record format w a b c v d e h f g same p q =
    let at_1 = subst (λ (x : List ℕ). IsRowFieldFault format x d e h g) (sym (ap field_1 same)) q in
    let at_2 = subst (λ (x : List ℕ). IsRowFieldFault format w x e h g) (sym (ap field_2 same)) at_1 in
    let at_3 = subst (λ (x : List ℕ). IsRowFieldFault format w a x h g) (sym (ap field_3 same)) at_2 in
    one_in_fields format w a b c f g p (subst (λ (x : List ℕ). IsRowFieldFault format w a b x g) (sym (ap field_4 same)) at_3)

-- the first records of one list are one
one_head : (x y : List (List ℕ)) (xs ys left : Records) → left ≡ x ∷ xs → left ≡ y ∷ ys → x ≡ y
one_head x y xs ys left p q = (first_and_rest x y xs ys (sym p ∙ q)).0

-- after some rows one thing is first wrong
one_row_fault : (format : Format) (count : ℕ) (left : Records) (f g : LogFault) → IsRowFault format count left f → IsRowFault format count left g → f ≡ g
one_row_fault format count left Read g p q = absurd p
one_row_fault format count left Memory g p q = absurd p
one_row_fault format count left Version g p q = absurd p
one_row_fault format count left f Read p q = absurd q
one_row_fault format count left f Memory p q = absurd q
one_row_fault format count left f Version p q = absurd q
one_row_fault format count left TooLong TooLong p q = refl
one_row_fault format count left TooLong (Fields m) p q = absurd (omega (arith, p.0, q.1))
one_row_fault format count left TooLong (Word m) p q = absurd (omega (arith, p.0, q.1))
one_row_fault format count left TooLong (Number m) p q = absurd (omega (arith, p.0, q.1))
one_row_fault format count left (Fields n) TooLong p q = absurd (omega (arith, p.1, q.0))
one_row_fault format count left (Fields n) (Fields m) p q = ap Fields (p.0 ∙ sym q.0)
one_row_fault format count left (Fields n) (Word m) p q = absurd (p.5 (ap length (one_head _ _ _ _ left p.4 q.7)))
one_row_fault format count left (Fields n) (Number m) p q = absurd (p.5 (ap length (one_head _ _ _ _ left p.4 q.7)))
one_row_fault format count left (Word n) TooLong p q = absurd (omega (arith, p.1, q.0))
one_row_fault format count left (Word n) (Fields m) p q = absurd (q.5 (ap length (one_head _ _ _ _ left q.4 p.7)))
one_row_fault format count left (Word n) (Word m) p q = ap Word (p.0 ∙ sym q.0)
one_row_fault format count left (Word n) (Number m) p q =
    let e : fault.Word ≡ fault.Number = one_in_record format p.2 p.3 p.4 p.5 q.2 q.3 q.4 q.5 fault.Word fault.Number (one_head _ _ _ _ left p.7 q.7) p.8 q.8 in
    cc e
one_row_fault format count left (Number n) TooLong p q = absurd (omega (arith, p.1, q.0))
one_row_fault format count left (Number n) (Fields m) p q = absurd (q.5 (ap length (one_head _ _ _ _ left q.4 p.7)))
one_row_fault format count left (Number n) (Word m) p q =
    let e : fault.Number ≡ fault.Word = one_in_record format p.2 p.3 p.4 p.5 q.2 q.3 q.4 q.5 fault.Number fault.Word (one_head _ _ _ _ left p.7 q.7) p.8 q.8 in
    cc e
one_row_fault format count left (Number n) (Number m) p q = ap Number (p.0 ∙ sym q.0)

-- after as many rows the same is left
same_left : (before others : List Event) (left rest : Records) → length before ≡ length others → map spelling before ++ left ≡ map spelling others ++ rest → left ≡ rest
same_left [] [] left rest n e = e
same_left [] (y ∷ ys) left rest n e = absurd (omega (arith, n))
same_left (x ∷ xs) [] left rest n e = absurd (omega (arith, n))
same_left (x ∷ xs) (y ∷ ys) left rest n e =
    same_left xs ys left rest (omega (arith, n)) (first_and_rest (spelling x) (spelling y) (map spelling xs ++ left) (map spelling ys ++ rest) e).1

-- a text has one first row that is wrong
one_wrong_row : (format : Format) (before others : List Event) (left rest : Records) (f g : LogFault) → map spelling before ++ left ≡ map spelling others ++ rest
    → AreInFormat format before → length before ≤ max_rows format → AreInFormat format others → length others ≤ max_rows format
    → IsRowFault format (length before) left f → IsRowFault format (length others) rest g → f ≡ g
one_wrong_row format before others left rest f g e m few n fewer p q =
    elim (cases_lt (length before) (length others)) [
      | inl less ↦ absurd (no_wrong_row format before others left rest f e less n fewer p)
      | inr at_least ↦ elim (cases_lt (length others) (length before)) [
        | inl more ↦ absurd (no_wrong_row format others before rest left g (sym e) more m few q)
        | inr at_most ↦
            let same : length before ≡ length others = omega (arith, at_least, at_most) in
            let at_count = subst (λ (k : ℕ). IsRowFault format k rest g) (sym same) q in
            one_row_fault format (length before) left f g p (subst (λ (x : Records). IsRowFault format (length before) x g) (sym (same_left before others left rest same e)) at_count)
      ]
    ]

one_wrong : (text : Records) (f g : LogFault) (p : IsFirstLogFault text f) (q : IsFirstLogFault text g)
    → HasWrongRow p.format (length p.rows) p.left f → HasWrongRow q.format (length q.rows) q.left g → f ≡ g
one_wrong text f g p q (format, left, t, h) (other, rest, u, k) =
    let all = whole p.format format p.rows p.left left text p.after_rows t in
    let whole_other = whole q.format other q.rows q.left rest text q.after_rows u in
    let same = one_format format other (map spelling p.rows ++ left) (map spelling q.rows ++ rest) text all.spelled whole_other.spelled in
    let in_format = subst (λ (x : Format). IsWhole x q.rows rest text) (sym same.0) whole_other in
    one_wrong_row format p.rows q.rows left rest f g same.1 all.numbers all.few in_format.numbers in_format.few h
    (subst (λ (x : Format). IsRowFault x (length q.rows) rest g) (sym same.0) k)

-- where the first record says another version, no row is wrong
not_both : (text : Records) (f g : LogFault) (p : IsFirstLogFault text f) (q : IsFirstLogFault text g) → SaysOther p.format p.left f → HasWrongRow q.format (length q.rows) q.left g → ⊥
not_both text f g p q other (format, rest, t, h) =
    other_has_none p.format p.rows p.left text f format (map spelling q.rows ++ rest) p.after_rows other (whole q.format format q.rows q.left rest text q.after_rows t).spelled

pub one_fault : (text : Records) (f g : LogFault) → IsOfLogText f → IsOfLogText g → IsFirstLogFault text f → IsFirstLogFault text g → f ≡ g
one_fault text f g o u p q =
    both (kinds p.format (length p.rows) p.left f o p.wrong) (kinds q.format (length q.rows) q.left g u q.wrong)
  where
    both : SaysOther p.format p.left f ⊎ HasWrongRow p.format (length p.rows) p.left f → SaysOther q.format q.left g ⊎ HasWrongRow q.format (length q.rows) q.left g → f ≡ g
    both (inl a) (inl b) = a.0 ∙ sym b.0
    both (inl a) (inr b) = absurd (not_both text f g p q a b)
    both (inr a) (inl b) = absurd (not_both text g f q p b a)
    both (inr a) (inr b) = one_wrong text f g p q a b
