use Rattle.kt_core.proofs.Phases.{settles_open, settles_quiet}
use Rattle.kt_core.proofs.world.steps.settle.Goals as goal

pub returns-then-has_open-clause-settled : goal.returns-then-has_open-clause-settled
returns-then-has_open-clause-settled c =
    let found = c.has_open.ensures.some c.if-has_open.true in
    settles_open c.args.system.now c.args.agenda.now found.0 found.1.0 found.1.1

pub returns-then-is_quiet-clause-settled : goal.returns-then-is_quiet-clause-settled
returns-then-is_quiet-clause-settled c =
    let opened = c.open_next.ensures in
    settles_quiet c.args.system.now c.args.agenda.now c.open_next.new.self (c.is_quiet.ensures.0 c.if-is_quiet.true) opened.plan opened.next opened.done opened.stays opened.opens
