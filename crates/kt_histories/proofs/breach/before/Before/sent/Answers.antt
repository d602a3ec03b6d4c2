use Rattle.std.proofs.Common.{◌≡◌, ◌∙◌, Option, Some, None, refl, sym}
use Rattle.kt_rules.proofs.Traced.{never}
use Rattle.kt_histories.proofs.Delivered.{unsent_told, elsewhere_told, undone_told, sent_told}
use Rattle.kt_histories.proofs.breach.before.Before.sent.Goals as goal

none_of : {X : Type 0} (o : Option X) → ((x : X) → o ≡ Some x → ⊥) → o ≡ None
none_of None never = refl
none_of (Some x) never = absurd (never x refl)

pub returns-in_default : goal.returns-in_default
returns-in_default c = unsent_told c.args.self.now.rows.now c.requires.before.legal c.args.p c.args.from c.args.msg (sym (c.trace.ensures c.args.self.now.rows.now c.requires.before.histories) ∙ none_of c.trace.result c.in_default.not-Some)

pub returns-then-not-is_between : goal.returns-then-not-is_between
returns-then-not-is_between c =
    elsewhere_told c.args.self.now.rows.now c.requires.before.legal c.args.p c.args.from c.args.msg c.in-Some.trace (sym (c.trace.ensures c.args.self.now.rows.now c.requires.before.histories) ∙ c.in-Some.is)
    (λ at to. never (sym c.if-not-is_between.true ∙ c.is_between.ensures.1 (at, to)))

pub returns-in-Some-sent : goal.returns-in-Some-sent
returns-in-Some-sent c =
    let ends = c.is_between.ensures.0 c.if-not-is_between.false in
    sent_told c.args.self.now.rows.now c.requires.before.legal c.args.p c.args.from c.args.msg c.in-Some-sent.field-0 c.in-Some.trace (sym (c.trace.ensures c.args.self.now.rows.now c.requires.before.histories) ∙ c.in-Some.is) ends.0 ends.1 c.in-Some-sent.is

pub returns-in-None : goal.returns-in-None
returns-in-None c =
    let ends = c.is_between.ensures.0 c.if-not-is_between.false in
    undone_told c.args.self.now.rows.now c.requires.before.legal c.args.p c.args.from c.args.msg c.in-Some.trace (sym (c.trace.ensures c.args.self.now.rows.now c.requires.before.histories) ∙ c.in-Some.is) ends.0 ends.1 c.in-None.is
