-- The reader of a part whose fault stops a merge has met it.
use Rattle.std.proofs.Common.{◌≡◌, Option, Some, List, ℕ, set, sym, subst, inl, inr}
use Rattle.std.specs.List.{slice_get}
use Rattle.std.proofs.lemmas.Option.{slice_get_within}
use Rattle.kt_meaning.proofs.Items.{get_set_same}
use Rattle.kt_meaning.specs.Names.{Given}
use Rattle.kt_spacetime.specs.declared.named_rows.ClockedRow.{ClockedRow}
use Rattle.kt_merge.specs.declared.fault.MergeFault.{MergeFault}
use Rattle.kt_merge.specs.declared.fault.MergeFault.TheVariants as merge
use Rattle.kt_merge.specs.declared.part_fault.PartFault.{PartFault}
use Rattle.kt_merge.specs.Merging.{IsMetIn}
use Rattle.kt_merge.specs.Reading.{PartRead, MeetsPartFault}
use Rattle.kt_merge.proofs.MergingFacts.{HasNoNumber, IsOfWriting}

pub met_writing : (parts : List PartRead) (e : MergeFault) → IsOfWriting e → IsMetIn parts e
met_writing parts merge.Write w = tt
met_writing parts merge.Memory w = tt
met_writing parts (merge.Part p fault) w = absurd w
met_writing parts (merge.Row p n fault) w = absurd w

pub met_at_row : (parts : List PartRead) (g : Given) (row : ClockedRow) (n : ℕ) (e : MergeFault) → HasNoNumber g row n e → IsMetIn parts e
met_at_row parts g row n e (inl is) = subst (IsMetIn parts) (sym is) tt
met_at_row parts g row n e (inr w) = subst (IsMetIn parts) (sym w.1) tt

pub met_at_part : (parts : List PartRead) (p : ℕ) (old new : PartRead) (fault : PartFault) (e : MergeFault) → slice_get parts p ≡ Some old → MeetsPartFault old new fault → e ≡ merge.Part p fault → IsMetIn (set parts p new) e
met_at_part parts p old new fault e there m is =
    subst (IsMetIn (set parts p new)) (sym is) (new, get_set_same parts p new (slice_get_within parts p old there), m.kept)
