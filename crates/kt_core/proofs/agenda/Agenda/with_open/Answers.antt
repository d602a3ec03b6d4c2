use Rattle.std.specs.Prelude.{is_some}
use Rattle.std.proofs.Common.{◌≡◌, ◌<◌, length, ap, subst, arith, rules}
use Rattle.kt_base.specs.Sets.{has}
use Rattle.kt_core.specs.Agendas.{Agenda, open_command}
use Rattle.kt_core.proofs.Opens.{joins_none, joins_next, joined_low, joined_other, open_is_there}
use Rattle.kt_core.proofs.agenda.Agenda.with_open.Goals as goal

pub loop-number-init : goal.loop-number-init
loop-number-init c = joins_none c.args.set c.self.inside.in_phase

pub loop-number-preserved : goal.loop-number-preserved
loop-number-preserved c =
    let low : c.in-Some.p < 64 = search rules in
    joins_next c.args.set c.self.inside.in_phase c.loop-number.all c.with-all.result c.loop-number.left c.without-left.result c.loop-number._number c.in-Some.p c.loop-number.invariant low
    c.in-Some.ensures.member c.in-Some.ensures.least c.with-all.ensures.added c.with-all.ensures.others c.without-left.ensures.removed c.without-left.ensures.others

pub returns-in_default-clause-members : goal.returns-in_default-clause-members
returns-in_default-clause-members c = λ p l.
    let size = c.processes-number-end.ensures in
    let low : p < 64 = (let few = size.few in let all = size.processes in omega (arith, l, few, all)) in
    joined_low c.args.set c.self.inside.in_phase c.loop-number.all c.loop-number.left c.loop-number._number p (is_some (open_command c.args.self.now p)) c.loop-number.invariant low (c.in_default.ensures.none p)
    (subst (λ (a : Agenda). has c.self.inside.in_phase p ≡ is_some (open_command a p)) c.self.view_is (c.self.invariant.in_phase p low))

pub returns-in_default-clause-others : goal.returns-in_default-clause-others
returns-in_default-clause-others c = λ p l.
    let names = ap (λ (a : Agenda). length a.plan.names) c.self.view_is in
    let i = c.self.inside in
    joined_other c.args.set i.in_phase c.loop-number.all c.loop-number.left c.loop-number._number p c.loop-number.invariant
    (λ low. open_is_there i.plan i.next i.following.items i.first i.phase i.in_phase p c.self.invariant low (omega (arith, l, names)))

pub returns-clause-members : goal.returns-clause-members
returns-clause-members c = λ p l.
    let size = c.processes-number-end.ensures in
    let low : p < 64 = (let few = size.few in let all = size.processes in omega (arith, l, few, all)) in
    let over = c.loop-number-test.false in
    joined_low c.args.set c.self.inside.in_phase c.loop-number.all c.loop-number.left c.loop-number._number p (is_some (open_command c.args.self.now p)) c.loop-number.invariant low
    (c.loop-number.invariant.gone p (let all = size.processes in omega (arith, l, over, all)))
    (subst (λ (a : Agenda). has c.self.inside.in_phase p ≡ is_some (open_command a p)) c.self.view_is (c.self.invariant.in_phase p low))

pub returns-clause-others : goal.returns-clause-others
returns-clause-others c = λ p l.
    let names = ap (λ (a : Agenda). length a.plan.names) c.self.view_is in
    let i = c.self.inside in
    joined_other c.args.set i.in_phase c.loop-number.all c.loop-number.left c.loop-number._number p c.loop-number.invariant
    (λ low. open_is_there i.plan i.next i.following.items i.first i.phase i.in_phase p c.self.invariant low (omega (arith, l, names)))
