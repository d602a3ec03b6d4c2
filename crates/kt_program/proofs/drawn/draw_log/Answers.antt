use Rattle.kt_program.proofs.Pictures.{undrawn}
use Rattle.kt_program.proofs.drawn.draw_log.Goals as goal

pub returns-clause-fault : goal.returns-clause-fault
returns-clause-fault g c =
    let told = g.L.Read.remaining c.args.log.source in
    undrawn c.args.span told c.in-Err.fault c.from.result c.from.ensures (c.in-Err.ensures.fault told c.in_ok-rows.ensures)
