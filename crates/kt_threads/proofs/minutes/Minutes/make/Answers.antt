use Rattle.std.proofs.Common.{◌∙◌, List, subst, sym}
use Rattle.kt_threads.specs.Noted.{AreNoted}
use Rattle.kt_threads.specs.declared.state.Made.{Made}
use Rattle.kt_threads.proofs.minutes.Minutes.make.Goals as goal

pub invariant_of-self-2 : goal.invariant_of-self-2
invariant_of-self-2 g c = λ going.
    subst (λ (steps : List Made). AreNoted steps c.note_made.new.asked c.note_made.new.told c.note_made.new.steps)
    (sym c.in-Ok.ensures.steps)
    (c.in-Ok-note_made.ensures.all c.self.inside.state.steps (c.self.invariant (sym c.in-Ok.ensures.fault ∙ going)))
