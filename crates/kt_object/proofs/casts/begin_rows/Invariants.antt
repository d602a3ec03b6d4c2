use Rattle.std.proofs.Common.{◌≡◌, ◌<◌, ℕ, ◌∷◌, ◌++◌, IfSome, All, length, map}
use Rattle.std.specs.Prelude.{IsSome, Some}
use Rattle.std.specs.List.{AllZip}
use Rattle.std.specs.Vec.Iter.{into_iter_items}
use Rattle.kt_object.specs.Holdings.{content, first_holding, Holds}
use Rattle.kt_object.specs.Refusals.{IsFirstObject}
use Rattle.kt_object.proofs.casts.begin_rows.Given as goal

abbrev pub invariant-loop-objects : goal.invariant-loop-objects
invariant-loop-objects g l = record {
  can : (goal.iterator-loop-objects g).can_next l.objects-iterator;
  ends : (goal.iterator-loop-objects g).is_finite l.objects-iterator;
  split : l.yielded ++ into_iter_items l.objects-iterator ≡ l.fn.cast.items;
  objects : AllZip (λ objects h. IfSome h.present (λ b. objects.items ≡ b ∷ h.spares.items)) l.yielded l.helds.items;
  holds : All (λ h. IsSome h.present × IfSome h.present (λ b.
      Holds (first_holding (content ((goal.Recoverable-dyn g (b.vtable, b.value)).kind_of b.value) ((goal.Recoverable-dyn g (b.vtable, b.value)).value_of b.value)))
      (Some (content ((goal.Recoverable-dyn g (b.vtable, b.value)).kind_of b.value) ((goal.Recoverable-dyn g (b.vtable, b.value)).value_of b.value))) h.depot)) l.helds.items;
  saved : (q : ℕ) → q < length l.yielded
      → IsFirstObject (λ b. (goal.Recoverable-dyn g (b.vtable, b.value)).may_save b.value) (map (λ row. row.items) l.fn.cast.items) q;
}
