use Rattle.std.proofs.Common.{◌≡◌, ℕ, get_or, ap, arith, subst}
use Rattle.kt_fifo.specs.Channels.{ChannelLists}
use Rattle.kt_fifo.specs.Counts.{busy_pairs, IsPairAt}
use Rattle.kt_fifo.proofs.Places.{busy_kept, pair_kept}
use Rattle.kt_fifo.proofs.channels.Channels.pair_at.Goals as goal

pub returns-in_err-to-clause-none : goal.returns-in_err-to-clause-none
returns-in_err-to-clause-none c =
    let all = busy_kept _ _ _ _ c.self.invariant in
    let same = ap busy_pairs c.self.view_is in
    let past = c.in_err-to.ensures.none in
    rw c.from_residual.ensures (omega (arith, all, same, past))

pub returns-clause-some : goal.returns-clause-some
returns-clause-some c =
    subst (λ (w : ChannelLists). IsPairAt w c.in_ok-to.to c.in_ok-from.from c.args.place) c.self.view_is
    (pair_kept _ _ _ _ c.self.invariant c.in_ok-to.to c.in_ok-to.left c.index-2.result.now c.in_ok-from.from c.args.place c.in_ok-to.ensures.within c.in_ok-to.ensures.before (subst (λ (j : ℕ). c.index-2.result.now ≡ get_or c.self.inside.senders.items j c.index-2.result.now) c.index.ensures.value c.index-2.ensures) c.in_ok-from.ensures.member c.in_ok-from.ensures.before)
