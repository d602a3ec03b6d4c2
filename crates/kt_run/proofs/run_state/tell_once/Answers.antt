use Rattle.std.proofs.Common.{rules}
use Rattle.kt_run.proofs.Running.{tells_now}
use Rattle.kt_run.proofs.run_state.tell_once.Goals as goal

pub returns-in-Ok-note-clause-leads : goal.returns-in-Ok-note-clause-leads
returns-in-Ok-note-clause-leads c =
    let told = c.in-Ok.ensures in
    tells_now c.laws_of_runs.ensures c.args.world.now c.step.new.self c.args.journals.now c.note.new.self c.args.step c.args.give c.in-Ok.told c.acts_of.result c.acts_of.ensures told.step told.keeps.grows (search rules) told.told
    c.in-Ok-note.ensures told.keeps.limit c.requires (λ first v r. (told.made.runs first v r).enabled) (λ first v r. (told.made.runs first v r).leads) (λ first v r. (told.made.runs first v r).asks)
