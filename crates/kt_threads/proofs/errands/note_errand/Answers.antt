use Rattle.std.proofs.Common.{◌∙◌, ◌++◌, [], ◌∷◌, ap}
use Rattle.kt_threads.specs.declared.asked.Entry.{Entry}
use Rattle.kt_promises.specs.Steps.{process_of_step}
use Rattle.kt_threads.specs.declared.state.Made.{Made}
use Rattle.kt_threads.proofs.Noting.{asked_next}
use Rattle.kt_threads.proofs.errands.note_errand.Goals as goal

pub returns-in-Some-note-clause-asked : goal.returns-in-Some-note-clause-asked
returns-in-Some-note-clause-asked g c = λ steps asked.
    asked_next c.args.made.now c.in-Some.errand steps c.process_of.result c.args.asked.now c.note.new.self
    (c.process_of.ensures ∙ ap (λ (m : Made). process_of_step m.told.step) c.made.view_is)
    c.in-Some.ensures.is c.in-Some.ensures.some
    (c.in-Some-note.ensures.noted ∙ ap (λ (e : Entry). c.args.asked.now ++ e ∷ []) c.in-Some-note.ensures.is) asked
