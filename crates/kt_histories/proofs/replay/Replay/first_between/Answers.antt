use Rattle.std.proofs.Common.{sym, ◌∙◌}
use Rattle.std.specs.List.{slice_index}
use Rattle.kt_histories.proofs.OrphanFacts.{nothing_past, none_received, found_place, found_orphan, found_least, found_past, test_below}
use Rattle.kt_histories.proofs.replay.Replay.first_between.Goals as goal

pub returns-in_default-clause-least : goal.returns-in_default-clause-least
returns-in_default-clause-least c = λ s msg h o live.
    let sender = h.of_processes.each c.args.q _ c.process-sender.ensures in
    let unsent = rw (c.length.ensures, sender.live) at (sym c.first_sent_past.ensures ∙ c.in_default.is) in
    nothing_past (slice_index c.args.cut.now c.args.q) (s.live c.args.q) msg c.args.p unsent live o.unsent

pub returns-in_default-first_received_from-clause-least : goal.returns-in_default-first_received_from-clause-least
returns-in_default-first_received_from-clause-least c = λ s msg h o live.
    let sender = h.of_processes.each c.args.q _ c.process-sender.ensures in
    let receiver = h.of_processes.each c.args.p _ c.process-receiver.ensures in
    let unsent = rw (c.length.ensures, sender.live) at (sym c.first_sent_past.ensures ∙ c.in-Some.is) in
    let found = sym ((rw receiver.live at c.first_received_from.ensures) (h.in_order.received c.args.p c.args.q)) ∙ c.in_default-first_received_from.is in
    none_received s (slice_index c.args.cut.now) c.args.p c.args.q msg c.in-Some.first_unsent o live (h.in_order.sent c.args.q) unsent found

pub returns-then-is_received_within-clause-orphan : goal.returns-then-is_received_within-clause-orphan
returns-then-is_received_within-clause-orphan c = λ s h.
    let sender = h.of_processes.each c.args.q _ c.process-sender.ensures in
    let receiver = h.of_processes.each c.args.p _ c.process-receiver.ensures in
    let unsent = rw (c.length.ensures, sender.live) at (sym c.first_sent_past.ensures ∙ c.in-Some.is) in
    let found = sym ((rw receiver.live at c.first_received_from.ensures) (h.in_order.received c.args.p c.args.q)) ∙ c.in-Some-first_received_from.is in
    let there = found_place s c.args.p c.args.q c.in-Some.first_unsent c.in-Some-first_received_from.msg found in
    let within = (c.is_received_within.ensures s c.args.q there.0 h there.1).0 c.if-is_received_within.true in
    found_orphan s (slice_index c.args.cut.now) c.args.p c.args.q c.in-Some.first_unsent c.in-Some-first_received_from.msg there.0 (h.in_order.sent c.args.q) unsent found there.1 within

pub returns-then-is_received_within-clause-least : goal.returns-then-is_received_within-clause-least
returns-then-is_received_within-clause-least c = λ s msg h o live.
    let sender = h.of_processes.each c.args.q _ c.process-sender.ensures in
    let receiver = h.of_processes.each c.args.p _ c.process-receiver.ensures in
    let unsent = rw (c.length.ensures, sender.live) at (sym c.first_sent_past.ensures ∙ c.in-Some.is) in
    let found = sym ((rw receiver.live at c.first_received_from.ensures) (h.in_order.received c.args.p c.args.q)) ∙ c.in-Some-first_received_from.is in
    found_least s (slice_index c.args.cut.now) c.args.p c.args.q msg c.in-Some.first_unsent c.in-Some-first_received_from.msg o live (h.in_order.sent c.args.q) (h.in_order.received c.args.p c.args.q) unsent found

pub returns-else-is_received_within-clause-least : goal.returns-else-is_received_within-clause-least
returns-else-is_received_within-clause-least c = λ s msg h o live.
    let sender = h.of_processes.each c.args.q _ c.process-sender.ensures in
    let receiver = h.of_processes.each c.args.p _ c.process-receiver.ensures in
    let unsent = rw (c.length.ensures, sender.live) at (sym c.first_sent_past.ensures ∙ c.in-Some.is) in
    let found = sym ((rw receiver.live at c.first_received_from.ensures) (h.in_order.received c.args.p c.args.q)) ∙ c.in-Some-first_received_from.is in
    let there = found_place s c.args.p c.args.q c.in-Some.first_unsent c.in-Some-first_received_from.msg found in
    let past_it = test_below c.is_received_within.result there.0 (slice_index c.args.cut.now c.args.p) (c.is_received_within.ensures s c.args.q there.0 h there.1) c.if-is_received_within.false in
    found_past s (slice_index c.args.cut.now) c.args.p c.args.q msg c.in-Some.first_unsent c.in-Some-first_received_from.msg there.0 o live (h.in_order.sent c.args.q) (h.in_order.received c.args.p c.args.q) unsent found there.1 past_it
