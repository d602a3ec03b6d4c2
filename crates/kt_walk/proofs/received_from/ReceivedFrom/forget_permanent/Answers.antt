use Rattle.std.proofs.Common.{refl, arith}
use Rattle.kt_walk.proofs.ReceivedFacts.{forgotten, forgotten_none}
use Rattle.kt_walk.proofs.received_from.ReceivedFrom.forget_permanent.Goals as goal

pub returns-clause-received_from : goal.returns-clause-received_from
returns-clause-received_from c = rw (← c.self.view_is) (λ rs ss i j l m t.
    let sent = rw (c.as_slice-arrivals.ensures, c.get.ensures.value) at c.count_sent_before-sent.ensures.parts in
    let received = rw (c.as_slice-arrivals.ensures, c.get-2.ensures.value) at c.count_received_before-received.ensures.parts in
    forgotten _ _ rs ss i j _ _ c.min.result c.count_sent_before-sent.result c.count_received_before-received.result l m sent received (omega (arith, c.min.ensures)) (omega (arith, c.min.ensures)) refl refl
    c.skip.ensures refl t)

pub returns-clause-none : goal.returns-clause-none
returns-clause-none c = rw (← c.self.view_is) (λ rising.
    let sent = rw (c.as_slice-arrivals.ensures, c.get.ensures.value) at c.count_sent_before-sent.ensures.parts in
    let received = rw (c.as_slice-arrivals.ensures, c.get-2.ensures.value) at c.count_received_before-received.ensures.parts in
    forgotten_none _ _ c.args.permanent.now c.min.result c.count_sent_before-sent.result c.count_received_before-received.result (sent rising) (received rising) c.min.ensures refl refl c.skip.ensures refl)
