-- What comes of an ask, case by case.
use Rattle.std.proofs.Common.{◌≡◌, ℕ, Bool, true, false, List, refl, ap, sym, ◌∙◌}
use Rattle.std.specs.Prelude.{Option, Some, None}
use Rattle.kt_base.specs.declared.words.Cause.{Cause}
use Rattle.kt_base.specs.declared.words.Standing.{Standing}
use Rattle.kt_tables.specs.Calls.{Call}
use Rattle.kt_process.specs.Answers.{replies, joins}
use Rattle.kt_process.specs.Joins.{Joins}
use Rattle.kt_process.specs.Parts.{Part}
use Rattle.kt_process.specs.declared.actions.Action.{Action}
use Rattle.kt_process.specs.declared.actions.Action.TheVariants.{Nothing, Refuse, Join, Reply, Settle}
use Rattle.kt_process.specs.CheckpointRules.{checkpoint_refusal, checkpoint_answer, must_join}
use Rattle.kt_process.specs.CheckpointActions.{IsCheckpointAnswer}

pub outside : (o : Option ℕ) (up able : Bool) (k : ℕ) (must b : Bool) → o ≡ None → b ≡ must → b ≡ false → checkpoint_answer o up able k must ≡ replies true None
outside o up able k must b e f g = rw (e, ← f, g) refl

refused_in : (up able : Bool) (k : ℕ) (cause : Cause) → checkpoint_refusal None up able ≡ Some cause → checkpoint_answer None up able k true ≡ replies false (Some cause)
refused_in false able k cause e = ap (λ o. replies false o) e
refused_in true false k cause e = ap (λ o. replies false o) e
refused_in true true k cause e = absurd (cc (e))

pub refused : (o : Option ℕ) (up able : Bool) (k : ℕ) (must b : Bool) (cause : Cause) → o ≡ None → b ≡ must → b ≡ true → checkpoint_refusal o up able ≡ Some cause → checkpoint_answer o up able k must ≡ replies false (Some cause)
refused o up able k must b cause e f g r = let s : checkpoint_refusal None up able ≡ Some cause = ap (λ x. checkpoint_refusal x up able) (sym e) ∙ r in rw (e, ← f, g) (refused_in up able k cause s)

joined_in : (up able : Bool) (k : ℕ) → checkpoint_refusal None up able ≡ None → checkpoint_answer None up able k true ≡ joins
joined_in false able k e = absurd (cc (e))
joined_in true false k e = absurd (cc (e))
joined_in true true k e = refl

pub joined : (o : Option ℕ) (up able : Bool) (k : ℕ) (must b : Bool) → o ≡ None → b ≡ must → b ≡ true → checkpoint_refusal o up able ≡ None → checkpoint_answer o up able k must ≡ joins
joined o up able k must b e f g r = let s : checkpoint_refusal None up able ≡ None = ap (λ x. checkpoint_refusal x up able) (sym e) ∙ r in rw (e, ← f, g) (joined_in up able k s)

-- who joins does so by an action that joins
pub join_answers : (calls : List Call) (s : Standing) (inst from label n : ℕ) (parent : Option ℕ) (side : Part) (action : Action) → Joins n inst parent side action →
    checkpoint_answer s.in_inst s.up s.able inst (must_join calls from label) ≡ joins → IsCheckpointAnswer calls s inst from label (Some side) action
join_answers calls s inst from label n parent side (Join asks goes) j e = e
join_answers calls s inst from label n parent side Nothing j e = absurd j
join_answers calls s inst from label n parent side (Refuse cause) j e = absurd j
join_answers calls s inst from label n parent side (Reply to willing cause) j e = absurd j
join_answers calls s inst from label n parent side (Settle commit tell) j e = absurd j
