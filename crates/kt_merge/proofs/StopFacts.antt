-- Where a merge stops.
use Rattle.std.proofs.Common.{◌≡◌, ◌≢◌, ◌∙◌, ◌<◌, ◌≤◌, ◌+◌, ◌⊎◌, ℕ, Option, Some, None, Ok, List, [], ◌∷◌, ◌++◌, IfSome, length, length-append, set, refl, sym, ap, subst, arith, inl, inr}
use Rattle.std.specs.List.{slice_get}
use Rattle.std.proofs.lemmas.List.{length-set}
use Rattle.std.proofs.lemmas.Option.{slice_get_within}
use Rattle.kt_meaning.proofs.Items.{item_there, get_push, get_set_same, get_set_other, some_same}
use Rattle.kt_spacetime.specs.declared.event.Event.{Event}
use Rattle.kt_meaning.specs.Names.{nothing_given, given_by}
use Rattle.kt_merge.specs.declared.part_fault.PartFault.{PartFault}
use Rattle.kt_spacetime.specs.declared.named_rows.ClockedRow.{ClockedRow}
use Rattle.kt_spacetime.specs.ClockedRows.{rows_of}
use Rattle.kt_merge.specs.Texts.{clock_after, BeginsPart, IsPartFaultFrom}
use Rattle.kt_merge.specs.Reading.{PartRead, MeetsPartFault, StepsPart}
use Rattle.kt_merge.proofs.GatherFacts.{GathersPart}
use Rattle.kt_merge.specs.declared.fault.MergeFault.TheVariants as merge
use Rattle.kt_merge.specs.declared.fault.RowFault.{RowFault}
use Rattle.kt_merge.specs.Heads.{IsNotLater, IsLeastHead}
use Rattle.kt_merge.specs.Numbering.{IsRowFault}
use Rattle.kt_merge.specs.Merging.{Records, ArePartsUnread, SaysNext, GoesOn, IsLeftOf, IsMergeFaultAfter}
use Rattle.kt_merge.proofs.HeldFacts.{before_by, HoldsHead, head_held, LeftBy, left_by, goes_on}
use Rattle.kt_merge.proofs.MergedFacts.{IsMergedTo, IsTaken, stands, stands_beside, left_stands, own_of, unread_gathers, gathered_here, at_known}

abbrev Heads : Type 0
Heads = List (Option ClockedRow)

-- the row that comes first is wrong
abbrev OtherNext : ClockedRow → ℕ → List ClockedRow → Records → Type 0
OtherNext row q rows left = (left ≡ []) ⊎ ((next : ClockedRow) × SaysNext q rows left next × IsNotLater row next)

pub row_fault : (start parts : List PartRead) (heads : List (Option ClockedRow)) (rows : List ClockedRow) (log : List Event) (p : ℕ) (row : ClockedRow) (n : ℕ) (what : RowFault) → IsMergedTo start parts heads rows log → IsLeastHead heads p row
    → n ≡ length (rows_of p rows) + 1 → IsRowFault (given_by nothing_given log) row.row.p row.row.event what → IsMergeFaultAfter start rows log (merge.Row row.row.p n what)
row_fault start parts heads rows log p row n what m least number wrong =
    let own = own_of start parts heads rows log m p row least.is in
    subst (λ (q : ℕ). IsMergeFaultAfter start rows log (merge.Row q n what)) (sym own.1)
    (omega (arith, slice_get_within heads p (Some row) least.is, m.many.1), number, row, own.1, here, others, subst (λ (q : ℕ). IsRowFault (given_by nothing_given log) q row.row.event what) own.1 wrong)
  where
    here : (left : Records) → IsLeftOf start rows p left → SaysNext p rows left row
    here left l =
        let s = stands start parts heads rows log m p l.0 l.1 in
        let is : s.1 ≡ Some row = same_head s.1 (Some row) s.2 least.is in
        subst (λ (h : Option ClockedRow). LeftBy p rows left h) is (left_stands parts heads rows p l.0 left s l.2)
      where
        same_head : (a b : Option ClockedRow) → slice_get heads p ≡ Some a → slice_get heads p ≡ Some b → a ≡ b
        same_head a b e f = cc (e, f)

    other_next : (q : ℕ) (left : Records) (head : Option ClockedRow) → slice_get heads q ≡ Some head → LeftBy q rows left head → OtherNext row q rows left
    other_next q left None e l = inl l
    other_next q left (Some next) e l = inr (next, l, before_by row next p q (own_of start parts heads rows log m p row least.is).1 l.2 (least.least q next e))

    others : (q : ℕ) (left : Records) → IsLeftOf start rows q left → OtherNext row q rows left
    others q left l =
        let s = stands start parts heads rows log m q l.0 l.1 in
        other_next q left s.1 s.2 (left_stands parts heads rows q l.0 left s l.2)

-- what is wrong in a part, after what is gathered of it
wrong_in : (p : ℕ) (mine : List ClockedRow) (text left : Records) (old new : PartRead) (fault : PartFault) → GathersPart p (Some text) old mine → BeginsPart p text mine left → MeetsPartFault old new fault
    → IsPartFaultFrom p (length mine) (clock_after 0 mine) left fault
wrong_in p mine text left old new fault g b f =
    at_known p mine text left old.left (λ (l : Records). IsPartFaultFrom p (length mine) (clock_after 0 mine) l fault) g.begins b
    (subst (λ (q : ℕ). IfSome old.left (λ l. IsPartFaultFrom q (length mine) (clock_after 0 mine) l fault)) g.process
    (subst (λ (c : ℕ). IfSome old.left (λ l. IsPartFaultFrom old.process (length mine) c l fault)) g.clock
    (subst (λ (n : ℕ). IfSome old.left (λ l. IsPartFaultFrom old.process n old.clock l fault)) g.count (f.first g.going.0))))

-- the row after the one that was taken is wrong
pub part_fault : (start parts : List PartRead) (heads : List (Option ClockedRow)) (p : ℕ) (before : List ClockedRow) (row : ClockedRow) (log : List Event) (old new : PartRead) (fault : PartFault) → IsTaken start parts heads p before row log
    → slice_get parts p ≡ Some old → MeetsPartFault old new fault → IsMergeFaultAfter start (before ++ row ∷ []) log (merge.Part p fault)
part_fault start parts heads p before row log old new fault t there f =
    (t.many.2, inr (before, row, refl, t.own, others), λ left l. wrong_in p (rows_of p (before ++ row ∷ [])) l.0 left old new fault (gathered_here start parts heads p before row log t l.0 l.1 old there) l.2 f)
  where
    others : (q : ℕ) (left : Records) → q ≢ p → IsLeftOf start (before ++ row ∷ []) q left → GoesOn q (before ++ row ∷ []) left
    others q left n l =
        let s = stands_beside start parts heads p before row log t q l.0 n l.1 in
        goes_on q (before ++ row ∷ []) left s.1 (left_stands parts heads (before ++ row ∷ []) q l.0 left s l.2)

-- the first rows of some parts are held
pub record HoldFirst (start parts : List PartRead) (heads : List (Option ClockedRow)) (n : ℕ) : Type 0 where
  pub many : (length parts ≡ length start) × (length heads ≡ n) × (n ≤ length start)
  pub each : (p : ℕ) (was is : PartRead) (head : Option ClockedRow) → slice_get start p ≡ Some was → slice_get parts p ≡ Some is → slice_get heads p ≡ Some head → StepsPart was is (Ok head)
  pub later : (p : ℕ) → n ≤ p → slice_get parts p ≡ slice_get start p

-- the first row of a part is wrong
pub first_fault : (start parts : List PartRead) (heads : List (Option ClockedRow)) (n : ℕ) (old new : PartRead) (fault : PartFault) → ArePartsUnread start → HoldFirst start parts heads n → slice_get parts n ≡ Some old → MeetsPartFault old new fault
    → IsMergeFaultAfter start [] [] (merge.Part n fault)
first_fault start parts heads n old new fault unread h there f = (omega (arith, slice_get_within parts n old there, h.many.0), inl (refl, before), wrong)
  where
    before : (q : ℕ) (left : Records) → q < n → IsLeftOf start [] q left → GoesOn q [] left
    before q left less l =
        let at = item_there parts q (omega (arith, less, h.many.0, h.many.2)) in
        let head = item_there heads q (omega (arith, less, h.many.1)) in
        let first = head_held q l.1.0.left l.1.0 at.0 [] head.0 (unread_gathers start unread q l.1.0 l.1.1) (h.each q l.1.0 at.0 head.0 l.1.1 at.1 head.1) in
        goes_on q [] left head.0 (left_by q [] l.0 left at.0 head.0 (subst (λ (k : Option Records). HoldsHead q k at.0 [] head.0) l.1.2 first) l.2)

    wrong : (left : Records) → IsLeftOf start [] n left → IsPartFaultFrom n 0 0 left fault
    wrong left l =
        let here : slice_get start n ≡ Some old = sym (h.later n (omega arith)) ∙ there in
        let is : old ≡ l.1.0 = cc (here, l.1.1) in
        let g = unread_gathers start unread n old here in
        let known : old.left ≡ Some l.0 = ap (λ (x : PartRead). x.left) is ∙ l.1.2 in
        wrong_in n [] l.0 left old new fault (subst (λ (k : Option Records). GathersPart n k old []) known g) l.2 f

-- one more first row is held
pub first_more : (start parts : List PartRead) (heads : List (Option ClockedRow)) (n : ℕ) (old new : PartRead) (head : Option ClockedRow) → HoldFirst start parts heads n → slice_get parts n ≡ Some old → StepsPart old new (Ok head)
    → HoldFirst start (set parts n new) (heads ++ head ∷ []) (n + 1)
first_more start parts heads n old new head h there s = record {
  many = (length-set parts n new ∙ h.many.0, omega (arith, h.many.1, length-append heads (head ∷ [])), omega (arith, h.many.0, slice_get_within parts n old there));
  each = each;
  later = λ p l. get_set_other parts n p new (λ e. omega (arith, e, l)) ∙ h.later p (omega (arith, l));
}
  where
    here : (was : PartRead) → slice_get start n ≡ Some was → old ≡ was
    here was e = let f : slice_get start n ≡ Some old = sym (h.later n (omega arith)) ∙ there in cc (e, f)

    new_there : slice_get (set parts n new) n ≡ Some new
    new_there = get_set_same parts n new (slice_get_within parts n old there)

    at_last : (p : ℕ) (was is : PartRead) (x : Option ClockedRow) → p ≡ n → x ≡ head → slice_get start p ≡ Some was → slice_get (set parts n new) p ≡ Some is → StepsPart was is (Ok x)
    at_last p was is x e x_is f g =
        let was_is : old ≡ was = here was (ap (slice_get start) (sym e) ∙ f) in
        let is_is : new ≡ is = some_same (sym new_there ∙ (ap (slice_get (set parts n new)) (sym e) ∙ g)) in
        subst (λ (y : Option ClockedRow). StepsPart was is (Ok y)) (sym x_is) (subst (λ (y : PartRead). StepsPart was y (Ok head)) is_is (subst (λ (y : PartRead). StepsPart y new (Ok head)) was_is s))

    each : (p : ℕ) (was is : PartRead) (x : Option ClockedRow) → slice_get start p ≡ Some was → slice_get (set parts n new) p ≡ Some is → slice_get (heads ++ head ∷ []) p ≡ Some x → StepsPart was is (Ok x)
    each p was is x e f g = elim (get_push heads head p x g) [
      | inl there ↦
          let other : p ≢ n = λ s. omega (arith, s, slice_get_within heads p x there, h.many.1) in
          h.each p was is x e (sym (get_set_other parts n p new other) ∙ f) there
      | inr there ↦ at_last p was is x (there.0 ∙ h.many.1) there.1 e f
    ]

-- before the first one
none_there : (p : ℕ) (head : Option ClockedRow) → slice_get [] p ≡ Some head → ⊥
none_there p head e = let none : None ≡ Some head = e in cc none

pub first_none : (start : List PartRead) → HoldFirst start start [] 0
first_none start = record { many = (refl, refl, omega arith); each = λ p was is head e f g. absurd (none_there p head g); later = λ p l. refl }
