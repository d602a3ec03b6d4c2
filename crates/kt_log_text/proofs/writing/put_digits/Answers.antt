use Rattle.std.proofs.Common.{◌∙◌, ◌++◌, ℕ, List, sym, ap}
use Rattle.std.proofs.lemmas.Fmt.{decimal_digit}
use Rattle.kt_log_text.proofs.writing.put_digits.Goals as goal

pub returns-then-number-lt10-clause-text : goal.returns-then-number-lt10-clause-text
returns-then-number-lt10-clause-text c =
    c.put_byte.ensures ∙ sym (ap (λ (l : List ℕ). l ++ c.args.line.now) (decimal_digit c.args.number c.if-number-lt10.true))
