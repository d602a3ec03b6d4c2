use Rattle.std.proofs.Common.{◌&&◌, not, Bool, sym, ap, ◌∙◌}
use Rattle.std.specs.List.{slice_index}
use Rattle.kt_spacetime.specs.declared.deeds.Deed.TheVariants as deed
use Rattle.kt_rules.specs.Orphans.{is_within}
use Rattle.kt_histories.proofs.OrphanFacts.{orphan_test, within_part}
use Rattle.kt_histories.proofs.replay.Replay.is_orphan.Goals as goal

pub returns-then-is_received : goal.returns-then-is_received
returns-then-is_received c = λ s h.
    let at = sym c.message.ensures ∙ c.in-Some.is in
    let received = c.is_within-is_received.ensures ∙ ((λ i. is_within (c.received_place-received.ensures s h at i) (c.length.ensures i)) ∙ within_part (deed.Received c.args.msg c.in-Some.message.from) (s.live c.in-Some.message.to) (slice_index c.args.cut.now c.in-Some.message.to)) in
    let sent = c.is_within-is_sent.ensures ∙ ((λ i. is_within (c.sent_place-sent.ensures s h at i) (c.length-2.ensures i)) ∙ within_part (deed.Sent c.args.msg c.in-Some.message.to) (s.live c.in-Some.message.from) (slice_index c.args.cut.now c.in-Some.message.from)) in
    orphan_test _ s (slice_index c.args.cut.now) c.args.msg c.in-Some.message _ _ _ h.of_messages at received sent (ap (λ (b : Bool). b && not c.is_within-is_sent.result) (sym c.if-is_received.true))

pub returns-else-is_received : goal.returns-else-is_received
returns-else-is_received c = λ s h.
    let at = sym c.message.ensures ∙ c.in-Some.is in
    let received = c.is_within-is_received.ensures ∙ ((λ i. is_within (c.received_place-received.ensures s h at i) (c.length.ensures i)) ∙ within_part (deed.Received c.args.msg c.in-Some.message.from) (s.live c.in-Some.message.to) (slice_index c.args.cut.now c.in-Some.message.to)) in
    let sent = c.is_within-is_sent.ensures ∙ ((λ i. is_within (c.sent_place-sent.ensures s h at i) (c.length-2.ensures i)) ∙ within_part (deed.Sent c.args.msg c.in-Some.message.to) (s.live c.in-Some.message.from) (slice_index c.args.cut.now c.in-Some.message.from)) in
    orphan_test _ s (slice_index c.args.cut.now) c.args.msg c.in-Some.message _ _ _ h.of_messages at received sent (c.if-is_received.false ∙ ap (λ (b : Bool). b && not c.is_within-is_sent.result) (sym c.if-is_received.false))
