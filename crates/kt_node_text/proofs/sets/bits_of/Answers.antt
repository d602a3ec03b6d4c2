use Rattle.std.proofs.Common.{◌≡◌, ◌∙◌, arith, refl, sym, ap, w64}
use Rattle.std.proofs.lemmas.Nat.Bits.{bit_at_set_same, bit_at_set_other}
use Rattle.kt_base.specs.Sets.{has}
use Rattle.kt_node_text.proofs.Bits.{has_none, below_none, below_more, below_same, below_all}
use Rattle.kt_node_text.proofs.sets.bits_of.Goals as goal
use Rattle.kt_node_text.proofs.sets.bits_of.Goals.{then-has, else-has}

pub loop-number-init : goal.loop-number-init
loop-number-init c = below_none _ _ has_none

pub loop-number-preserved : goal.loop-number-preserved
loop-number-preserved c =
    let n = c.loop-number.number in
    let is : c.has.result ≡ has c.args.set n = c.has.ensures ∙ ap (has c.args.set) c.nth.ensures in
    elim c.if-has.branch [
      | then-has w ↦ below_more c.args.set c.loop-number.bits c.if-has.bits n c.loop-number.invariant (sym is ∙ w.if-has.true)
          (rw (w.bits-is, bit_at_set_same w64 c.loop-number.bits n c.loop-number-test.true) refl)
          (λ q other. rw (w.bits-is, bit_at_set_other w64 c.loop-number.bits n c.loop-number-test.true q other) refl)
      | else-has w ↦ rw w.bits-is (below_same c.args.set c.loop-number.bits n c.loop-number.invariant (sym is ∙ w.if-has.false))
    ]

pub returns : goal.returns
returns c =
    c.same_members.ensures _ _ (below_all c.args.set c.loop-number.bits c.loop-number.number c.loop-number.invariant (omega arith)
    (λ q e. c.members_in_range.ensures c.args.set q (omega arith) e))
