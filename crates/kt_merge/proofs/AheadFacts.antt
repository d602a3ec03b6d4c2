-- How far the parts of a merge are read.
use Rattle.std.proofs.Common.{◌≡◌, ◌∙◌, ◌≤◌, ◌+◌, ℕ, Option, Some, None, Ok, List, [], ◌∷◌, ◌++◌, length, length-append, set, sym, ap, subst, arith, inl, inr}
use Rattle.std.specs.Prelude.{◌==◌}
use Rattle.std.specs.List.{slice_get}
use Rattle.std.proofs.lemmas.Bool.{cases_eq, cases_lt}
use Rattle.std.proofs.lemmas.List.Elements.{filter-append}
use Rattle.std.proofs.lemmas.Option.{slice_get_within}
use Rattle.kt_meaning.proofs.Items.{item_there, get_set_same, get_set_other, some_same}
use Rattle.kt_spacetime.specs.declared.named_rows.ClockedRow.{ClockedRow}
use Rattle.kt_spacetime.specs.ClockedRows.{rows_of}
use Rattle.kt_merge.specs.Heads.{GiveHeads}
use Rattle.kt_merge.specs.Merging.{ArePartsUnread, AreReadTo}
use Rattle.kt_merge.specs.Reading.{PartRead, StepsPart}
use Rattle.kt_merge.proofs.HeldFacts.{more_of}
use Rattle.kt_merge.proofs.StopFacts.{HoldFirst}

-- a call gives one row at most
step_count : (old new : PartRead) (head : Option ClockedRow) → StepsPart old new (Ok head) → new.count ≤ old.count + 1
step_count old new (Some row) s = omega (arith, s.counted)
step_count old new None s = omega (arith, s.still.2)

none_yet : (start : List PartRead) → ArePartsUnread start → (p : ℕ) (part : PartRead) → slice_get start p ≡ Some part → part.count ≡ 0
none_yet start unread p part there = ap (λ (x : PartRead). x.count) (unread p part there).0.1

-- before the first read
pub ahead_unread : (start : List PartRead) → ArePartsUnread start → AreReadTo start []
ahead_unread start unread p part there = omega (arith, none_yet start unread p part there)

-- where the first rows of some parts are held
pub ahead_first : (start parts : List PartRead) (heads : List (Option ClockedRow)) (n : ℕ) → ArePartsUnread start → HoldFirst start parts heads n → AreReadTo parts []
ahead_first start parts heads n unread h p part there = elim (cases_lt p n) [
  | inl less ↦
      let was = item_there start p (omega (arith, slice_get_within parts p part there, h.many.0)) in
      let head = item_there heads p (omega (arith, less, h.many.1)) in
      omega (arith, none_yet start unread p was.0 was.1, step_count was.0 part head.0 (h.each p was.0 part head.0 was.1 there head.1))
  | inr more ↦ omega (arith, none_yet start unread p part (sym (h.later p (omega (arith, more))) ∙ there))
]

-- where those of all parts are held
pub ahead_heads : (start parts : List PartRead) (heads : List (Option ClockedRow)) → ArePartsUnread start → GiveHeads start parts heads → AreReadTo parts []
ahead_heads start parts heads unread g p part there =
    let within = slice_get_within parts p part there in
    let was = item_there start p (omega (arith, within, g.many.0)) in
    let head = item_there heads p (omega (arith, within, g.many.0, g.many.1)) in
    omega (arith, none_yet start unread p was.0 was.1, step_count was.0 part head.0 (g.each p was.0 part head.0 was.1 there head.1))

-- where one part is read on
ahead_in : (parts : List PartRead) (rows : List ClockedRow) (p : ℕ) (old new : PartRead) → AreReadTo parts rows → slice_get parts p ≡ Some old → new.count ≤ length (rows_of p rows) + 1 → AreReadTo (set parts p new) rows
ahead_in parts rows p old new a there few q part e = elim (cases_eq q p) [
  | inl same ↦
      let here : slice_get (set parts p new) q ≡ Some new = ap (slice_get (set parts p new)) same ∙ get_set_same parts p new (slice_get_within parts p old there) in
      let is : new ≡ part = some_same (sym here ∙ e) in
      subst (λ (x : PartRead). x.count ≤ length (rows_of q rows) + 1) is (subst (λ (r : ℕ). new.count ≤ length (rows_of r rows) + 1) (sym same) few)
  | inr other ↦ a q part (sym (get_set_other parts p q new other) ∙ e)
]

-- a call that gives no row
pub ahead_same : (parts : List PartRead) (rows : List ClockedRow) (p : ℕ) (old new : PartRead) → AreReadTo parts rows → slice_get parts p ≡ Some old → new.count ≡ old.count → AreReadTo (set parts p new) rows
ahead_same parts rows p old new a there same = ahead_in parts rows p old new a there (omega (arith, same, a p old there))

-- a row is taken
pub ahead_taken : (parts : List PartRead) (rows : List ClockedRow) (row : ClockedRow) → AreReadTo parts rows → AreReadTo parts (rows ++ row ∷ [])
ahead_taken parts rows row a q part e =
    let more = ap (λ (l : List ClockedRow). length l) (filter-append (λ (r : ClockedRow). r.row.p == q) rows (row ∷ [])) in
    omega (arith, a q part e, more, length-append (rows_of q rows) (rows_of q (row ∷ [])))

-- and the next one of its part is read
pub ahead_more : (parts : List PartRead) (rows : List ClockedRow) (p : ℕ) (row : ClockedRow) (old new : PartRead) (head : Option ClockedRow) → AreReadTo parts rows → row.row.p ≡ p → slice_get parts p ≡ Some old → StepsPart old new (Ok head)
    → AreReadTo (set parts p new) (rows ++ row ∷ [])
ahead_more parts rows p row old new head a own there s =
    let more = ap (λ (l : List ClockedRow). length l) (more_of p rows row own) in
    ahead_in parts (rows ++ row ∷ []) p old new (ahead_taken parts rows row a) there
    (omega (arith, step_count old new head s, a p old there, more, length-append (rows_of p rows) (row ∷ [])))
