use Rattle.std.proofs.Common.{◌≡◌, ◌+◌, ℕ, refl, arith, add-one, add-zero, true, false}
use Rattle.std.proofs.lemmas.Nat.Bits.{shr_and_one}
use Rattle.std.proofs.lemmas.Bool.{ne_eqb}
use Rattle.kt_base.specs.Sets.{has, count_below}
use Rattle.kt_base.proofs.sets.ProcSet.count.Goals as goal
use Rattle.kt_base.proofs.sets.ProcSet.count.Goals.{then-self-number-eq1, else-self-number-eq1}

one_more : (set p : ℕ) → has set p ≡ true → count_below set (p + 1) ≡ count_below set p + 1
unfolding count_below
one_more set p e = rw (add-one p, e) refl

none_more : (set p : ℕ) → has set p ≡ false → count_below set (p + 1) ≡ count_below set p
unfolding count_below
none_more set p e = rw (add-one p, e) (add-zero _)

pub loop-number-init : goal.loop-number-init
unfolding count_below
loop-number-init c = (refl, omega arith)

pub loop-number-preserved : goal.loop-number-preserved
loop-number-preserved c = elim c.if-self-number-eq1.branch [
  | then-self-number-eq1 w ↦
      let found : has c.self.inside.bits c.loop-number.number ≡ true = rw (← shr_and_one c.self.inside.bits c.loop-number.number, w.if-self-number-eq1.true) refl in
      let more = one_more c.self.inside.bits c.loop-number.number found in
      (rw (w.count-is, more, c.loop-number.invariant.0) refl, omega (arith, w.count-is, c.loop-number.invariant.1))
  | else-self-number-eq1 w ↦
      let missing : has c.self.inside.bits c.loop-number.number ≡ false = rw (← shr_and_one c.self.inside.bits c.loop-number.number) (ne_eqb _ 1 w.if-self-number-eq1.false) in
      let more = none_more c.self.inside.bits c.loop-number.number missing in
      (rw (w.count-is, more, c.loop-number.invariant.0) refl, omega (arith, w.count-is, c.loop-number.invariant.1))
]
