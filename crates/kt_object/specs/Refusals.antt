-- Which objects a save or a restore is refused by, and which act is not done.
use Rattle.std.specs.Prelude.{◌≡◌, ◌<◌, ◌∷◌, ℕ, true, false, List, Option, Some, None, fold, take, slice_get}
use Rattle.std.specs.List.{Any}
use Rattle.kt_object.specs.Bytes.{IsSavedState}
use Rattle.kt_object.specs.Fits.{Outline, fits, fits_all, outline_after}
use Rattle.kt_object.specs.Holdings.{Holding, does_all}
use Rattle.kt_object.specs.declared.held_faults.ActFault.{ActFault}
use Rattle.kt_object.specs.declared.held_faults.ActFault.TheVariants.{Unfit, Form, Memory}
use Rattle.kt_plan.specs.declared.steps.Act.{Act}
use Rattle.kt_plan.specs.declared.steps.Act.TheVariants.{Restore}

-- why an act is not done: it does not fit, or it is a restore
abbrev pub IsActFault : Outline → Act → ActFault → Type 0
IsActFault o act Unfit = fits o act ≡ false
IsActFault o act Form = act ≡ Restore
IsActFault o act Memory = act ≡ Restore

-- of acts in order, those before this place can be done, and the one that stands there is not, for this fault
pub record StopsAt (o : Outline) (acts : List Act) (fault : ActFault) (done : ℕ) : Type 0 where
  pub act : Act
  pub there : slice_get acts done ≡ Some act
  pub before : fits_all o (take done acts) ≡ true
  pub why : IsActFault (fold outline_after o (take done acts)) act fault

-- the first of the objects of a process is so
pub record IsFirstObject {A : Type 0} (P : A → Type 0) (cast : List (List A)) (p : ℕ) : Type 0 where
  pub object : A
  pub spares : List A
  pub given : slice_get cast p ≡ Some (object ∷ spares)
  pub so : P object

-- p is the least process whose first object may not be able to be saved: it may refuse, and those of all below may be saved
pub record IsLeastRefused {A : Type 0} (may_save may_refuse : A → Type 0) (cast : List (List A)) (p : ℕ) : Type 0 where
  pub refused : IsFirstObject may_refuse cast p
  pub least : (q : ℕ) → q < p → IsFirstObject may_save cast q

-- the objects that are held: the one that is there, and the spares
abbrev pub held_objects : {A : Type 0} → Option A → List A → List A
held_objects None spares = spares
held_objects (Some object) spares = object ∷ spares

-- while these acts are done in order on what is held, one of these objects may reject the permanent saved state
pub record IsRejected {A : Type 0} (may_reject : A → List ℕ → Type 0) (objects : List A) (h : Holding) (acts : List Act) : Type 0 where
  pub done : ℕ
  pub saved : List ℕ
  pub is : IsSavedState (does_all h (take done acts)).permanent.kind (does_all h (take done acts)).permanent.value saved
  pub rejected : Any (λ object. may_reject object saved) objects
