use Rattle.std.proofs.Common.{◌≡◌, ◌∙◌, ◌≤◌, length, arith, ap}
use Rattle.std.specs.Prelude.{Some, None, ◌-◌, map, slice_get}
use Rattle.kt_manager.specs.Inboxes.{InboxLists, kept_of, held_of}
use Rattle.kt_manager.specs.Managers.{as_parcel}
use Rattle.kt_node.specs.Managers.{ManagerState}
use Rattle.kt_node.specs.Meetings.{label_of}
use Rattle.kt_node.proofs.HeldLabels.{label_is, held_is}
use Rattle.kt_node.proofs.node.Node.held_label.Goals as goal

pub overflow_sub-kept : goal.overflow_sub-kept
overflow_sub-kept c =
    let same = c.inbox-inbox.ensures.inbox ∙ ap (λ (m : ManagerState). m.inbox) c.manager.ensures in
    let held : c.held_count-held.result ≡ length (held_of c.inbox-inbox.result.now c.args.from) = held_is c.inbox-inbox.result.now c.args.self.now.manager.inbox c.args.from c.held_count-held.result same c.held_count-held.ensures in
    omega (arith, held, c.len.ensures)

pub overflow_add-behind : goal.overflow_add-behind
overflow_add-behind c =
    let same = c.inbox-inbox.ensures.inbox ∙ ap (λ (m : ManagerState). m.inbox) c.manager.ensures in
    let held : c.held_count-held.result ≡ length (held_of c.inbox-inbox.result.now c.args.from) = held_is c.inbox-inbox.result.now c.args.self.now.manager.inbox c.args.from c.held_count-held.result same c.held_count-held.ensures in
    let within : c.held_count-held.result ≤ c.len.result = omega (arith, held, c.len.ensures) in
    omega (arith, within, c.len.type_inv)

pub returns-in-Some : goal.returns-in-Some
returns-in-Some c =
    let b = c.inbox-inbox.result.now in
    let from = c.args.from in
    let place = c.args.place in
    let same = c.inbox-inbox.ensures.inbox ∙ ap (λ (m : ManagerState). m.inbox) c.manager.ensures in
    let held : c.held_count-held.result ≡ length (held_of b from) = held_is c.inbox-inbox.result.now c.args.self.now.manager.inbox c.args.from c.held_count-held.result same c.held_count-held.ensures in
    let kept : c.len.result - c.held_count-held.result ≡ length (kept_of b from) = omega (arith, held, c.len.ensures) in
    c.get-in-Some.ensures.value
    ∙ (label_is (kept_of b from) (held_of b from) place (c.len.result - c.held_count-held.result) (Some c.in-Some.item.now) kept c.in-Some.ensures ∙ ap (λ (x : InboxLists). label_of (slice_get (map as_parcel (held_of x from)) place)) same)

pub returns-in-None : goal.returns-in-None
returns-in-None c =
    let b = c.inbox-inbox.result.now in
    let from = c.args.from in
    let place = c.args.place in
    let same = c.inbox-inbox.ensures.inbox ∙ ap (λ (m : ManagerState). m.inbox) c.manager.ensures in
    let held : c.held_count-held.result ≡ length (held_of b from) = held_is c.inbox-inbox.result.now c.args.self.now.manager.inbox c.args.from c.held_count-held.result same c.held_count-held.ensures in
    let kept : c.len.result - c.held_count-held.result ≡ length (kept_of b from) = omega (arith, held, c.len.ensures) in
    label_is (kept_of b from) (held_of b from) place (c.len.result - c.held_count-held.result) None kept c.in-None.ensures ∙ ap (λ (x : InboxLists). label_of (slice_get (map as_parcel (held_of x from)) place)) same
