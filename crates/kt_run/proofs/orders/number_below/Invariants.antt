use Rattle.std.proofs.Common.{◌≡◌, ◌+◌, ℕ}
use Rattle.kt_run.specs.Orders.{draw_below, drawn}
use Rattle.kt_run.proofs.orders.number_below.Given as goal

abbrev pub invariant-loop-number : goal.invariant-loop-number
invariant-loop-number l = (k : ℕ) × (l._number + k ≡ 64) × (draw_below l.count l.fn.generator ≡ drawn k l.count l.generator)
