use Rattle.std.proofs.Common.{◌∙◌, ◌+◌, ◌/◌, ◌∷◌, ◌++◌, ℕ, List, sym, ap}
use Rattle.itoa.proofs.Decimal.{decimal_two}
use Rattle.kt_log_text.proofs.writing.put_two_digits.Goals as goal

pub returns-clause-text : goal.returns-clause-text
returns-clause-text c =
    let n = c.args.number in
    c.put_byte-2.ensures ∙ ap (λ (l : List ℕ). (48 + n / 10) ∷ l) c.put_byte.ensures
    ∙ sym (ap (λ (l : List ℕ). l ++ c.args.line.now) (decimal_two n c.requires.two.0 c.requires.two.1))
