use Rattle.kt_walk.proofs.pair.Pair.last_in_permanent.Goals as goal

pub returns : goal.returns
returns c = rw (← c.self.view_is) (λ rs ss dropped i j grows l.
    let before = rw (c.get-2.ensures.value, c.receiver-receiver.ensures) at c.last_before.ensures in
    rw (← c.self.view_is) at before rs ss dropped i j grows.no_less l)
