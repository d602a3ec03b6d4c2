use Rattle.std.proofs.Common.{◌<◌, ◌&&◌, ◌||◌, ◌/◌, ◌%◌, refl, arith, sym, ap, subst, ◌∙◌}
use Rattle.kt_base.specs.Sets.{has}
use Rattle.kt_walk.specs.Peers.{is_in}
use Rattle.kt_walk.proofs.PeersFacts.{AreOfMembers, word_of_others, word_of_member, of_members}
use Rattle.kt_walk.proofs.peers.Peers.of.Goals as goal
use Rattle.kt_walk.proofs.peers.Peers.of.Goals.{then-not-has, else-not-has}

pub loop-number-init : goal.loop-number-init
loop-number-init c = record { count = c.self.invariant; done = λ r q below low. absurd (omega (arith, below)); rest = λ r from. refl }

pub loop-number-preserved : goal.loop-number-preserved
loop-number-preserved c =
    let low : c.loop-number.number < 64 = omega (arith, c.loop-number-test.true) in
    let is = c.has.ensures ∙ ap (has c.args.members) c.nth.ensures in
    elim c.if-not-has.branch [
      | then-not-has w ↦ rw w.senders-is (word_of_others c.self.inside.senders c.loop-number.senders c.args.members c.bits_of-bits.result c.loop-number.number low (sym is ∙ w.if-not-has.true) c.bits_of-bits.ensures c.loop-number.invariant)
      | else-not-has w ↦ rw w.senders-is (word_of_member c.self.inside.senders c.loop-number.senders c.args.members c.loop-number.number (sym is ∙ w.if-not-has.false) c.loop-number.invariant)
    ]

pub returns : goal.returns
returns c = λ i low.
    let all = subst (AreOfMembers c.self.inside.senders c.loop-number.senders c.args.members) (omega (arith, c.loop-number-test.false, c.loop-number.auto.number-end)) c.loop-number.invariant in
    of_members c.self.inside.senders c.loop-number.senders c.args.members i low all ∙ ap (λ (l : _). is_in l i && (has c.args.members (i / 64) || has c.args.members (i % 64))) c.self.view_is
