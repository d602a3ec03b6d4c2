use Rattle.std.proofs.Common.{◌≡◌, ◌∙◌, Option, Some, None, refl, sym}
use Rattle.kt_rules.proofs.Traced.{never}
use Rattle.kt_histories.proofs.Delivered.{unsent_unreceived, received_elsewhere, received_as_traced}
use Rattle.kt_histories.proofs.breach.before.Before.has_received.Goals as goal

none_of : {X : Type 0} (o : Option X) → ((x : X) → o ≡ Some x → ⊥) → o ≡ None
none_of None never = refl
none_of (Some x) never = absurd (never x refl)

pub returns-in_default : goal.returns-in_default
returns-in_default c = sym (unsent_unreceived c.args.self.now.rows.now c.requires.before.legal c.args.p c.args.from c.args.msg (sym (c.trace.ensures c.args.self.now.rows.now c.requires.before.histories) ∙ none_of c.trace.result c.in_default.not-Some))

pub returns-then-not-is_between : goal.returns-then-not-is_between
returns-then-not-is_between c =
    sym (received_elsewhere c.args.self.now.rows.now c.requires.before.legal c.args.p c.args.from c.args.msg c.in-Some.trace (sym (c.trace.ensures c.args.self.now.rows.now c.requires.before.histories) ∙ c.in-Some.is)
    (λ at to. never (sym c.if-not-is_between.true ∙ c.is_between.ensures.1 (at, to))))

pub returns : goal.returns
returns c =
    let ends = c.is_between.ensures.0 c.if-not-is_between.false in
    c.is_some.ensures ∙ received_as_traced c.args.self.now.rows.now c.requires.before.legal c.args.p c.args.from c.args.msg c.in-Some.trace (sym (c.trace.ensures c.args.self.now.rows.now c.requires.before.histories) ∙ c.in-Some.is) ends.0 ends.1
