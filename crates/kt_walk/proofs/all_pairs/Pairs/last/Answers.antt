use Rattle.std.proofs.Common.{◌+◌, ◌*◌, refl, sym, ap, ◌∙◌}
use Rattle.kt_rules.specs.Tests.{is_after}
use Rattle.kt_meaning.proofs.Items.{some_same}
use Rattle.kt_walk.specs.Pairs.{PairState, new_pair_state}
use Rattle.kt_walk.proofs.PairsFacts.{last_in_pairs}
use Rattle.kt_walk.proofs.all_pairs.Pairs.last.Goals as goal

pub returns-clause-is : goal.returns-clause-is
returns-clause-is c = λ s msg h.
    let known = c.in_ok-pair.ensures in
    last_in_pairs c.args.self.now s c.args.p c.args.from (c.args.p * 64 + c.args.from) msg c.in_ok-pair.field-0.now known.by_pair known.sender_in_range refl known.some h ∙ ap (is_after msg) (sym c.last.ensures)

pub returns-clause-known : goal.returns-clause-known
returns-clause-known c = λ v e. ap (λ (x : PairState). x.last) (some_same (sym e ∙ c.in_ok-pair.ensures.some)) ∙ sym c.last.ensures

pub returns-in_err-pair-clause-is : goal.returns-in_err-pair-clause-is
returns-in_err-pair-clause-is c = λ s msg h.
    let known = c.in_err-pair.ensures in
    rw c.from_residual.ensures (last_in_pairs c.args.self.now s c.args.p c.args.from (c.args.p * 64 + c.args.from) msg (new_pair_state c.args.p c.args.from) known.by_pair known.sender_in_range refl known.none h)

pub returns-in_err-pair-clause-known : goal.returns-in_err-pair-clause-known
returns-in_err-pair-clause-known c = λ v e. rw c.from_residual.ensures (ap (λ (x : PairState). x.last) (some_same (sym e ∙ c.in_err-pair.ensures.none)))
