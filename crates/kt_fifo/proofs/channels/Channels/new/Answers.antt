use Rattle.std.proofs.Common.{arith, ◌≡◌, []}
use Rattle.kt_fifo.proofs.Places.{wired_new}
use Rattle.std.proofs.lemmas.List.{length_push}
use Rattle.std.proofs.lemmas.List.Elements.{All-push}
use Rattle.kt_fifo.specs.Queues.{Queue}
use Rattle.kt_fifo.proofs.channels.Channels.new.Goals as goal

pub loop-pair-preserved : goal.loop-pair-preserved
loop-pair-preserved c =
    rw c.in_ok-push.ensures.items (
      omega (arith, length_push c.loop-pair.fifos.items c.new.result, c.loop-pair.invariant.0),
      All-push (λ (q : Queue). q.parcels ≡ []) c.loop-pair.fifos.items c.new.result c.loop-pair.invariant.1 c.new.ensures,
    )

pub invariant_of-result : goal.invariant_of-result
invariant_of-result c =
    wired_new c.args.processes c.loop-pair.fifos.items c.in_ok-senders.senders.items c.new-2.result c.empty.result c.empty-2.result c.requires (let count = c.loop-pair.invariant.0 in let over = c.loop-pair-test.false in let most = c.loop-pair.auto._pair-end in omega (arith, count, over, most)) c.loop-pair.invariant.1
    (c.in_ok-senders.ensures.items_if_clones_equal (λ y e. e)) c.empty.ensures c.new-2.ensures c.empty-2.ensures
