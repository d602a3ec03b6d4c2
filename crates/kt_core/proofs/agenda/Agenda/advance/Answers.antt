use Rattle.std.specs.Prelude.{slice_get, is_some}
use Rattle.std.proofs.Common.{◌≡◌, ◌∙◌, ◌+◌, List, length, get_or, set, sym, ap, subst, arith, rules}
use Rattle.kt_base.specs.Sets.{has}
use Rattle.kt_plan.specs.declared.commands.Command.{Command}
use Rattle.kt_core.specs.Agendas.{Agenda, IsAgenda, IsFirstLeft, IsNextOf, agenda_place, if_open}
use Rattle.kt_core.proofs.InPhase.{agenda_after, next_after}
use Rattle.kt_core.proofs.agenda.Agenda.advance.Goals as goal

pub invariant_of-self : goal.invariant_of-self
invariant_of-self c =
    let a = subst (λ s. IsAgenda s.plan s.next s.following.items s.first s.phase s.in_phase) (sym c.self-inside.view_is) c.self.invariant in
    let here = c.place-place.ensures ∙ (sym (ap (λ (m : Agenda). agenda_place m c.args.p) c.self.view_is) ∙ sym (ap (λ s. get_or s.next c.args.p 0) c.self-inside.view_is)) in
    let long : c.len.result ≡ length c.self-inside.inside.0.1.1.0.items = search rules in
    let first = c.first_left-self-inside-inside.result in
    let more = c.in_phase_after-self-inside-inside in
    agenda_after _ _ _ _ _ _ c.args.p c.place-place.result c.index.result c.index-next.result.now a c.index.ensures.value c.index.ensures.in_range here (omega (arith, c.if-place-len.true, long)) c.index-next.ensures first more.result
    (subst (λ (l : List Command). IsFirstLeft l (set c.self-inside.inside.0.1.0 c.index.result c.index-next.result.now) first) c.deref.ensures.value c.first_left-self-inside-inside.ensures)
    (subst (λ (l : List Command). has more.result c.args.p ≡ is_some (if_open c.self-inside.inside.0.1.1.1.1.0 (slice_get l c.index-next.result.now))) c.deref-then-place-len.ensures.value more.ensures.here)
    more.ensures.others

pub returns-then-place-len-clause-next : goal.returns-then-place-len-clause-next
returns-then-place-len-clause-next c = λ l.
    let a = subst (λ s. IsAgenda s.plan s.next s.following.items s.first s.phase s.in_phase) (sym c.self-inside.view_is) c.self.invariant in
    let here = c.place-place.ensures ∙ (sym (ap (λ (m : Agenda). agenda_place m c.args.p) c.self.view_is) ∙ sym (ap (λ s. get_or s.next c.args.p 0) c.self-inside.view_is)) in
    let long : c.len.result ≡ length c.self-inside.inside.0.1.1.0.items = search rules in
    let new = get_or (set c.self-inside.inside.0.1.0 c.index.result c.index-next.result.now) c.args.p 0 in
    subst (λ (m : Agenda). IsNextOf m.plan.commands c.args.p (agenda_place m c.args.p + 1) new) c.self.view_is
    (subst (λ s. IsNextOf s.plan.commands c.args.p (get_or s.next c.args.p 0 + 1) new) c.self-inside.view_is
    (next_after _ _ _ _ _ _ c.args.p c.place-place.result c.index.result c.index-next.result.now a c.index.ensures.value c.index.ensures.in_range here (omega (arith, c.if-place-len.true, long)) c.index-next.ensures))
