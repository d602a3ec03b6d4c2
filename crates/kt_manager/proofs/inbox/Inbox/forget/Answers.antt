use Rattle.std.proofs.Common.{◌<◌, refl, arith, ap, length}
use Rattle.kt_manager.specs.Inboxes.{InboxLists}
use Rattle.kt_manager.proofs.InTurn.{forgotten_none, forgotten_one, forgotten_all, inbox_left}
use Rattle.kt_manager.proofs.inbox.Inbox.forget.Goals as goal

pub loop-place-init : goal.loop-place-init
loop-place-init c = record { forgotten = forgotten_none _ _; holds = refl }

pub invariant_of-self : goal.invariant_of-self
invariant_of-self c = rw c.loop-place.invariant.holds (inbox_left _ _ _ _ _ c.loop-place.invariant.forgotten c.self.invariant)

pub loop-place-preserved : goal.loop-place-preserved
loop-place-preserved c =
    let same = ap (λ (b : InboxLists). length b.senders) c.self.view_is in
    let inside : c.loop-place.place < length c.loop-place.self-inside.lists.items = omega (arith, c.loop-place.invariant.forgotten.processes, same, c.requires) in
    record {
      forgotten = forgotten_one _ _ _ _ _ _ c.loop-place.invariant.forgotten (record { place = refl; inside = inside; value = c.index_mut-list.ensures.value }) c.forget.ensures;
      holds = c.loop-place.invariant.holds;
    }

pub returns-clause-kept : goal.returns-clause-kept
returns-clause-kept c =
    rw (← c.self.view_is) (forgotten_all _ _ _ _ c.loop-place.invariant.forgotten (let over = c.loop-place-test.false in omega arith))

pub returns-clause-held : goal.returns-clause-held
returns-clause-held c = rw (← c.self.view_is) c.loop-place.invariant.forgotten.held

pub returns-clause-space : goal.returns-clause-space
returns-clause-space c = rw (← c.self.view_is) c.loop-place.invariant.forgotten.space
