-- What comes of an ask, case by case.
use Rattle.std.proofs.Common.{◌≡◌, ℕ, Bool, true, false, List, refl}
use Rattle.std.specs.Prelude.{Option, Some, None}
use Rattle.kt_base.specs.declared.words.Standing.{Standing}
use Rattle.kt_tables.specs.Calls.{Call}
use Rattle.kt_process.specs.Answers.{replies, joins}
use Rattle.kt_process.specs.Joins.{Joins}
use Rattle.kt_process.specs.declared.actions.Action.{Action}
use Rattle.kt_process.specs.declared.actions.Action.TheVariants.{Nothing, Refuse, Join, Reply, Settle}
use Rattle.kt_process.specs.RollbackRules.{rollback_answer, must_join}
use Rattle.kt_process.specs.RollbackActions.{IsRollbackAnswer}
use Rattle.kt_process.specs.RollingSides.{RollSide}

pub outside : (o : Option ℕ) (k : ℕ) (must b : Bool) → o ≡ None → b ≡ must → b ≡ false → rollback_answer o k must ≡ replies true None
outside o k must b e f g = rw (e, ← f, g) refl

pub joined : (o : Option ℕ) (k : ℕ) (must b : Bool) → o ≡ None → b ≡ must → b ≡ true → rollback_answer o k must ≡ joins
joined o k must b e f g = rw (e, ← f, g) refl

-- who joins does so by an action that joins
pub join_answers : (calls : List Call) (s : Standing) (inst from label n : ℕ) (parent : Option ℕ) (side : RollSide) (action : Action) → Joins n inst parent side.part action →
    rollback_answer s.in_inst inst (must_join calls from label) ≡ joins → IsRollbackAnswer calls s inst from label (Some side) action
join_answers calls s inst from label n parent side (Join asks goes) j e = e
join_answers calls s inst from label n parent side Nothing j e = absurd j
join_answers calls s inst from label n parent side (Refuse cause) j e = absurd j
join_answers calls s inst from label n parent side (Reply to willing cause) j e = absurd j
join_answers calls s inst from label n parent side (Settle commit tell) j e = absurd j
