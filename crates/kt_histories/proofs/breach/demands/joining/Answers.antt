use Rattle.std.proofs.Common.{◌≡◌, Bool, true, arith}
use Rattle.std.specs.Prelude.{◌&&◌, not, is_none}
use Rattle.kt_spacetime.specs.declared.event.Event.TheVariants.{Took, Ready}
use Rattle.kt_meaning.specs.Past.{is_member, is_checkpoint, is_rollback}
use Rattle.kt_meaning.specs.Legal.{follows, has_begun, is_in_none}
use Rattle.kt_histories.proofs.breach.demands.joining.Goals as goal

took : (f m h u i k p : Bool) → (f && (m && (h && (u && (i && (k && (p && true))))))) ≡ (((((i && m) && (h && u)) && k) && p) && f)
took f m h u i k p = grind arith

ready : (f m h u i k : Bool) → (f && (m && (h && (u && (i && (k && true)))))) ≡ ((((i && m) && (h && u)) && k) && f)
ready f m h u i k = grind arith

pub returns-in-Took-clause-rule : goal.returns-in-Took-clause-rule
returns-in-Took-clause-rule c = λ s.
    let p = c.in-Took.p in
    let k = c.in-Took.inst in
    rw c.in-Took.is (took (follows s.last (Took p k)) (not (is_member s k p)) (has_begun s k) (is_none (s.decision k)) (is_in_none s p) (is_checkpoint s k) (s.up p))

pub returns-in-Ready-clause-rule : goal.returns-in-Ready-clause-rule
returns-in-Ready-clause-rule c = λ s.
    let p = c.in-Ready.p in
    let k = c.in-Ready.inst in
    rw c.in-Ready.is (ready (follows s.last (Ready p k)) (not (is_member s k p)) (has_begun s k) (is_none (s.decision k)) (is_in_none s p) (is_rollback s k))
