use Rattle.std.proofs.Common.{sym, ◌∙◌}
use Rattle.kt_histories.proofs.LatestFacts.{undelivered_none, undelivered_else}
use Rattle.kt_histories.proofs.replay.Replay.is_undelivered.Goals as goal

pub returns-in_default : goal.returns-in_default
returns-in_default c = λ s h. undelivered_none _ s c.args.p c.args.from c.args.msg h.of_messages (sym c.message.ensures ∙ c.in_default.is)

pub returns-then-not-is_between : goal.returns-then-not-is_between
returns-then-not-is_between c = λ s h. undelivered_else _ s c.args.p c.args.from c.args.msg c.in-Some.message h.of_messages (sym c.message.ensures ∙ c.in-Some.is) (sym c.is_between.ensures ∙ c.if-not-is_between.true)
