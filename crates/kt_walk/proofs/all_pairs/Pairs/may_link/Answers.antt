use Rattle.std.proofs.Common.{◌∙◌, ◌+◌, ◌*◌, ◌<◌, sym, arith}
use Rattle.kt_walk.proofs.LinkFacts.{none_linked}
use Rattle.kt_walk.proofs.all_pairs.Pairs.may_link.Goals as goal

pub returns : goal.returns
returns c = λ none.
    let index = c.index_of.ensures in
    let low : c.index_of.result < 4096 = omega (arith, index.value, index.receiver_in_range, index.sender_in_range) in
    none_linked c.self.inside.pairs.items c.args.self.now c.self.inside.used c.index_of.result (c.args.p * 64 + c.args.from) c.self.view_is index.value low c.self.invariant.1 (sym c.has.ensures ∙ none)
