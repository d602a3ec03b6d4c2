use Rattle.kt_walk.proofs.pair.Pair.forget_permanent.Goals as goal

pub returns-clause-pair_state : goal.returns-clause-pair_state
returns-clause-pair_state c = rw (← c.self.view_is) (λ rs ss dropped i j grows less l.
    record {
      received_from = c.forget_permanent.ensures.received_from rs ss i j grows.no_less less l.received_from;
      in_transit = rw (c.forget_permanent.ensures.receiver, c.forget_permanent.ensures.sender) l.in_transit;
      last = rw c.forget_permanent.ensures.sender l.last;
      last_permanent = rw (c.forget_permanent.ensures.sender, c.of-self-inside.ensures) (rw (← c.self.view_is) at c.last_in_permanent.ensures rs ss dropped i j grows l);
    })
