use Rattle.std.proofs.Common.{ap}
use Rattle.kt_threads.specs.declared.state.Made.{Made}
use Rattle.kt_threads.proofs.Noting.{noted_next}
use Rattle.kt_threads.proofs.minutes.note_made.Goals as goal

pub returns-clause-all : goal.returns-clause-all
returns-clause-all g c = λ before noted.
    noted_next c.args.made.now before _ _ _ _ _ _ c.made.inside.step c.in_ok-noted.ensures.asked c.in_ok-note_told.ensures
    (ap (λ (m : Made). m.told.step) c.made.view_is) c.in_ok-note.ensures noted
