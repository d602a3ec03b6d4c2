use Rattle.std.proofs.Common.{◌<◌, arith, sym, ap, ◌∙◌}
use Rattle.std.proofs.lemmas.Nat.Bits.{bit_at-zero}
use Rattle.std.specs.Prelude.{◌==◌}
use Rattle.kt_base.specs.Sets.{has}
use Rattle.kt_walk.proofs.PeersFacts.{bit_more, bit_less}
use Rattle.kt_walk.proofs.peers.bits_of.Goals as goal
use Rattle.kt_walk.proofs.peers.bits_of.Goals.{then-has, else-has}

pub loop-number-init : goal.loop-number-init
loop-number-init c = record { same = λ q below. absurd (omega (arith, below)); none = λ q from low. ap (λ (b : _). b == 1) (bit_at-zero q) }

pub loop-number-preserved : goal.loop-number-preserved
loop-number-preserved c =
    let low : c.loop-number.number < 64 = omega (arith, c.loop-number-test.true) in
    let is = c.has.ensures ∙ ap (has c.args.members) c.nth.ensures in
    elim c.if-has.branch [
      | then-has w ↦ rw w.bits-is (bit_more c.loop-number.bits c.args.members c.loop-number.number low (sym is ∙ w.if-has.true) c.loop-number.invariant)
      | else-has w ↦ rw w.bits-is (bit_less c.loop-number.bits c.args.members c.loop-number.number low (sym is ∙ w.if-has.false) c.loop-number.invariant)
    ]
