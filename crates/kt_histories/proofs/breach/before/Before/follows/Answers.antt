use Rattle.std.proofs.Common.{◌∙◌, Option, Some, sym, ap}
use Rattle.std.specs.Prelude.{option_copied}
use Rattle.kt_spacetime.specs.declared.event.Event.{Event}
use Rattle.kt_meaning.specs.Legal.{follows}
use Rattle.kt_histories.proofs.KnownRows.{last_known}
use Rattle.kt_histories.proofs.breach.before.Before.follows.Goals as goal

pub returns-then-is_sought : goal.returns-then-is_sought
returns-then-is_sought c =
    let last = last_known c.args.self.now.rows.now _ (sym c.last.ensures.value ∙ (ap option_copied c.in-Some-Began.is ∙ ap (λ (x : Event). Some x) c.in-Some-Began.field-0-is)) in
    ap (λ (o : Option Event). follows o c.args.row.now) last ∙ (sym c.is_sought.ensures ∙ c.if-is_sought.true)

pub returns-else-is_sought : goal.returns-else-is_sought
returns-else-is_sought c = record {
  so = last_known c.args.self.now.rows.now _ (sym c.last.ensures.value ∙ (ap option_copied c.in-Some-Began.is ∙ ap (λ (x : Event). Some x) c.in-Some-Began.field-0-is));
  against = λ log legal so. ap (λ (o : Option Event). follows o c.args.row.now) so ∙ (sym c.is_sought.ensures ∙ c.if-is_sought.false);
}
