use Rattle.std.proofs.Common.{refl, arith, rules}
use Rattle.kt_histories.proofs.InTransit.{noted_more, noted_same, not_noted}
use Rattle.kt_histories.proofs.waiting.Waiting.note.Goals as goal

pub returns-then-not-is_waiting-clause-noted : goal.returns-then-not-is_waiting-clause-noted
returns-then-not-is_waiting-clause-noted c = λ list h. not_noted c.args.is_waiting _ c.args.msg list c.if-not-is_waiting.true h

pub returns-then-self-gt-MOST_NAMED-clause-noted : goal.returns-then-self-gt-MOST_NAMED-clause-noted
returns-then-self-gt-MOST_NAMED-clause-noted c = λ list h. noted_same c.args.is_waiting c.args.self.now _ c.args.msg list c.if-not-is_waiting.false refl refl (omega arith) h

pub returns-clause-noted : goal.returns-clause-noted
returns-clause-noted c = λ list h. noted_more c.args.is_waiting c.args.self.now _ c.args.msg list c.if-not-is_waiting.false refl (search rules) (omega arith) h
