use Rattle.std.proofs.Common.{◌≡◌, ℕ, ◌+◌, Some, ap, ◌∙◌, arith}
use Rattle.kt_meaning.specs.Past.{start}
use Rattle.kt_meaning.proofs.LegalLogs.{legal_front, legal_take, legal_push, legal_last, past_push, legal_unbroken, unbroken_legal, first_broken_at}
use Rattle.kt_meaning.proofs.laws.legal_logs.Goals as goal

pub returns-clause-front : goal.returns-clause-front
returns-clause-front c = λ log more l. legal_front log more l

pub returns-clause-prefix : goal.returns-clause-prefix
returns-clause-prefix c = λ log n l. legal_take n log l

pub returns-clause-one_more : goal.returns-clause-one_more
returns-clause-one_more c = λ log row. past_push log row

pub returns-clause-one_more_legal : goal.returns-clause-one_more_legal
returns-clause-one_more_legal c = λ log row. (λ l. legal_last log row l, λ h. legal_push log row h.0 h.1)

pub returns-clause-unbroken : goal.returns-clause-unbroken
returns-clause-unbroken c = λ log. (λ l. legal_unbroken start log l, λ e. unbroken_legal start log e)

pub returns-clause-broken : goal.returns-clause-broken
returns-clause-broken c = λ log n row rule l g b. first_broken_at start log n row rule l g b ∙ ap (λ (m : ℕ). Some (m, rule)) (let e : 0 + (n + 1) ≡ n + 1 = omega arith in e)
