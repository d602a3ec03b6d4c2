-- The faults of the objects that a run begins with.
use Rattle.std.proofs.Common.{◌≡◌, ◌≢◌, ◌<◌, ℕ, List, false, length, refl, ap}
use Rattle.kt_core.specs.declared.faults.StepFault.{StepFault}
use Rattle.kt_run.specs.declared.faults.RunFault.{RunFault}
use Rattle.kt_run.specs.declared.faults.RunFault.TheVariants.{CastSize, CastKind, Step, Journal, Object, Memory}
use Rattle.kt_object.specs.Casts.{HasSizes, HasKind, is_checked}
use Rattle.kt_object.specs.declared.held_faults.CastFault.{CastFault}
use Rattle.kt_object.specs.declared.held_faults.CastFault.TheVariants as cast
use Rattle.kt_plan.specs.Limits.{Planned}
use Rattle.kt_run.specs.Faults.{Answers, IsCast, is_of_cast, of_cast}

pub answered : (plan : Planned) (given : List (List ℕ)) (fault : CastFault)
    → (fault ≡ cast.Size → ¬ HasSizes plan.kinds plan.commands given)
    → (fault ≢ cast.Size → HasSizes plan.kinds plan.commands given)
    → ((p : ℕ) → fault ≡ cast.Kind p → (p < length plan.kinds) × (¬ HasKind plan.kinds given p))
    → ((p q : ℕ) → fault ≡ cast.Kind p → q < p → HasKind plan.kinds given q)
    → (is_checked fault ≡ false → (p : ℕ) → p < length plan.kinds → HasKind plan.kinds given p)
    → Answers plan given (of_cast fault)
answered plan given cast.Size size fit kind least later = size refl
answered plan given (cast.Kind p) size fit kind least later = record {
  sizes = fit (λ e. absurd (cc e));
  there = (kind p refl).0;
  other = (kind p refl).1;
  least = λ q l. least p q refl l;
}
answered plan given (cast.Object p) size fit kind least later = record { sizes = fit (λ e. absurd (cc e)); kinds = later refl }
answered plan given cast.Memory size fit kind least later = record { sizes = fit (λ e. absurd (cc e)); kinds = later refl }

-- none of them is a refused step
pub of_objects : (fault : CastFault) (done : ℕ) (why : StepFault) → of_cast fault ≢ Step done why
of_objects cast.Size done why e = absurd (cc (e))
of_objects (cast.Kind p) done why e = absurd (cc (e))
of_objects (cast.Object p) done why e = absurd (cc (e))
of_objects cast.Memory done why e = absurd (cc (e))

-- none of them is of what a process was told
pub of_none_told : (fault : CastFault) (p : ℕ) → of_cast fault ≢ Journal p
of_none_told cast.Size p e = absurd (cc (e))
of_none_told (cast.Kind q) p e = absurd (cc (e))
of_none_told (cast.Object q) p e = absurd (cc (e))
of_none_told cast.Memory p e = absurd (cc (e))

pub of_object : (fault : CastFault) (p : ℕ) → of_cast fault ≡ Object p → fault ≡ cast.Object p
of_object cast.Size p e = absurd (cc (e))
of_object (cast.Kind q) p e = absurd (cc (e))
of_object (cast.Object q) p e = let s : q ≡ p = cc (e) in ap (λ (i : ℕ). cast.Object i) s
of_object cast.Memory p e = absurd (cc (e))

-- a fault that is none of the objects comes once they are found right
pub of_right : (plan : Planned) (given : List (List ℕ)) (fault : RunFault) → IsCast plan given → is_of_cast fault ≡ false → Answers plan given fault
of_right plan given CastSize is none = absurd (cc (none))
of_right plan given (CastKind p) is none = absurd (cc (none))
of_right plan given (Object p) is none = is
of_right plan given (Journal p) is none = is
of_right plan given (Step done why) is none = is
of_right plan given Memory is none = is
