use Rattle.std.proofs.Common.{◌<◌, ℕ, length, get_or, ap, arith, subst}
use Rattle.kt_plan.specs.declared.commands.Command.{Command}
use Rattle.kt_core.proofs.InPhase.{is_at, command_looked, all_looked, late_after}
use Rattle.kt_core.proofs.agenda.in_phase.Goals as goal

pub returns-then-phase-command : goal.returns-then-phase-command
returns-then-phase-command c =
    let inside : c.loop-place.place < length c.args.commands.now = omega (arith, c.loop-place-test.true) in
    let is = is_at c.args.commands.now c.loop-place.place c.index-commands-place.result c.index-commands-place.is inside in
    all_looked c.args.commands.now c.args.next.now c.args.first c.args.phase c.loop-place.place c.loop-place.set c.requires.own c.requires.done c.requires.within (omega (arith, inside)) c.loop-place.invariant
    (late_after c.args.commands.now c.args.phase c.loop-place.place c.requires.phases (subst (λ (x : Command). c.args.phase < x.phase) is c.if-phase-command.true))

pub loop-place-preserved : goal.loop-place-preserved
loop-place-preserved c =
    command_looked c.args.commands.now c.args.next.now c.args.first c.args.phase c.loop-place.place c.loop-place.set c.with_if-set.result (get_or c.args.next.now c.index.result 0) c.index-commands-place.result c.requires.own c.loop-place.invariant
    (omega (arith, c.loop-place-test.true)) c.index-commands-place.is c.if-phase-command.false (ap (λ (n : ℕ). get_or c.args.next.now n 0) c.index.ensures.value) c.with_if-set.ensures.here c.with_if-set.ensures.others

pub returns : goal.returns
returns c =
    let end = c.loop-place.auto.place-end c.requires.within in
    all_looked c.args.commands.now c.args.next.now c.args.first c.args.phase c.loop-place.place c.loop-place.set c.requires.own c.requires.done c.requires.within end c.loop-place.invariant
    (λ i after inside. absurd (omega (arith, after, inside, c.loop-place-test.false)))
