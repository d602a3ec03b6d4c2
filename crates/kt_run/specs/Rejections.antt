-- Saved states that objects may reject.
use Rattle.std.specs.Prelude.{◌≡◌, ◌+◌, ◌<◌, ℕ, ℤ, List, [], map, length, slice_index_or}
use Rattle.std.specs.List.{Any}
use Rattle.std.specs.declared.alloc.Global.{Global}
use Rattle.std.specs.declared.dyn_box.DynBox.{DynBox}
use Rattle.kt_object.specs.Bytes.{IsSavedState}
use Rattle.kt_plan.specs.Failures.{failures_of}
use Rattle.kt_object.specs.Holdings.{Content}
use Rattle.kt_object.specs.Refusals.{held_objects}
use Rattle.kt_object.specs.declared.held.Held.{Held}
use Rattle.kt_plan.specs.Limits.{Planned}

-- one of these objects may reject a saved state of this kind
pub record MayReject {A : Type 0} (may_reject : A → List ℕ → Type 0) (kind : ℕ) (objects : List A) : Type 0 where
  pub value : List ℤ
  pub saved : List ℕ
  pub is : IsSavedState kind value saved
  pub rejected : Any (λ object. may_reject object saved) objects

-- the objects that each process holds
abbrev pub objects_held : {X : Type 0} {D : X → Type 0} → List (Held X D) → List (List (DynBox X Global D))
objects_held helds = map (λ h. held_objects h.present h.spares.items) helds

-- by process, the objects reject no more than those before
abbrev pub RejectNoMore : {A : Type 0} → (A → List ℕ → Type 0) → List (List A) → List (List A) → Type 0
RejectNoMore may_reject old new = (p : ℕ) (saved : List ℕ) → Any (λ object. may_reject object saved) (slice_index_or new p [])
    → Any (λ object. may_reject object saved) (slice_index_or old p [])

-- each process is given a spare for each of its failures
abbrev pub HaveSpares : Planned → List (List Content) → Type 0
HaveSpares plan cast = (p : ℕ) → p < length cast → length (slice_index_or cast p []) ≡ failures_of plan.commands p + 1
