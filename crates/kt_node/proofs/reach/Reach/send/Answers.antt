use Rattle.std.proofs.Common.{ℕ, max, ◌∙◌, ap}
use Rattle.kt_node.proofs.Reaching.{reach_sends}
use Rattle.kt_node.proofs.reach.Reach.send.Goals as goal

pub returns : goal.returns
returns c = λ calls to h. reach_sends c.args.self.now calls to c.args.label c.max-self.result (c.max-self.ensures ∙ ap (λ (n : ℕ). max c.args.self.now.sent n) c.get.ensures.value) h
