-- The faults of the objects that are given.
use Rattle.std.proofs.Common.{◌≡◌, ℕ, List, false}
use Rattle.kt_object.specs.declared.held_faults.CastFault.{CastFault}
use Rattle.kt_object.specs.declared.held_faults.CastFault.TheVariants as cast
use Rattle.kt_plan.specs.Limits.{Planned}
use Rattle.kt_run.specs.Faults as run
use Rattle.kt_threads.specs.Faults.{AnswersLive, live_of_cast, is_of_no_thread}
use Rattle.kt_threads.specs.declared.faults.LiveFault.{LiveFault}
use Rattle.kt_threads.specs.declared.faults.LiveFault.TheVariants as live

pub of_run : (plan : Planned) (given : List (List ℕ)) (fault : CastFault) → run.Answers plan given (run.of_cast fault)
    → AnswersLive plan given (live_of_cast fault)
of_run plan given cast.Size h = h
of_run plan given (cast.Kind p) h = h
of_run plan given (cast.Object p) h = h
of_run plan given cast.Memory h = h

-- a fault of another kind comes once the objects are found right
pub answers_later : (plan : Planned) (given : List (List ℕ)) (fault : LiveFault) → is_of_no_thread fault ≡ false
    → run.IsCast plan given → AnswersLive plan given fault
answers_later plan given live.CastSize e h = absurd (cc e)
answers_later plan given (live.CastKind p) e h = absurd (cc e)
answers_later plan given (live.Object p) e h = h
answers_later plan given (live.Journal p) e h = absurd (cc e)
answers_later plan given (live.Step fault) e h = h
answers_later plan given live.Spawn e h = h
answers_later plan given live.Differ e h = h
answers_later plan given live.Memory e h = h

-- an object that can't be saved at first
pub cast_object : (fault : CastFault) (p : ℕ) → live_of_cast fault ≡ live.Object p → fault ≡ cast.Object p
cast_object cast.Size p e = absurd (cc (e))
cast_object (cast.Kind q) p e = absurd (cc (e))
cast_object (cast.Object q) p e = cc (e)
cast_object cast.Memory p e = absurd (cc (e))
