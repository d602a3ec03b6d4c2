use Rattle.std.proofs.Common.{◌≡◌, ◌∙◌, ap, sym, subst}
use Rattle.std.specs.Prelude.{IfSome, None, Option, Some}
use Rattle.kt_plan.specs.declared.steps.Step.{Step}
use Rattle.kt_threads.specs.Histories.{WorldHistory, first_fault}
use Rattle.kt_threads.specs.Turns.{IsMadeQuietly}
use Rattle.kt_threads.specs.declared.faults.LiveFault.{LiveFault}
use Rattle.kt_threads.proofs.Noting.{at_ok, noted_quietly}
use Rattle.kt_threads.proofs.minutes.Minutes.take_quietly.Goals as goal
use Rattle.kt_threads.proofs.minutes.Minutes.take_quietly.Goals.{then-is_err, else-is_err}

-- after a fault there is one
stopped : {P : Type 0} (before : Option LiveFault) (fault : LiveFault) → first_fault before fault ≡ None → P
stopped None fault e = absurd (cc (e))
stopped (Some first) fault e = absurd (cc (e))

pub invariant_of-self-2 : goal.invariant_of-self-2
invariant_of-self-2 g c = elim c.if-is_err.branch [
  | then-is_err w ↦ rw w.self-inside-is
      (λ going. stopped c.take_quietly.new.self.fault _ (ap (λ (h : WorldHistory). h.fault) (sym w.stop-then-is_err.ensures) ∙ going))
  | else-is_err w ↦ rw w.self-inside-is
      (λ going. noted_quietly c.self.inside.state c.take_quietly.new.self c.in-Some.step c.self.inside.asked c.self.inside.told
      c.self.inside.steps c.note.new.self
      (subst (λ (o : Option Step). IfSome o (IsMadeQuietly c.self.inside.state c.take_quietly.new.self)) c.in-Some.is c.in-Ok.ensures.made)
      (c.are_kept.ensures c.if-are_kept.false) (at_ok c.note.result _ (sym c.is_err.ensures.value ∙ w.if-is_err.false) c.note.ensures)
      (c.self.invariant (sym c.in-Ok.ensures.fault ∙ going)))
]
