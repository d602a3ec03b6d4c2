use Rattle.std.proofs.Common.{◌∙◌, ◌∷◌, sym, arith}
use Rattle.std.proofs.lemmas.Bool.{false≢true}
use Rattle.kt_node_text.proofs.OneAfterAnother.{stops, is_negative, body_size, body_begins, body_fits, from_zero, below_zero, a_body}
use Rattle.kt_node_text.proofs.numbers.Numbers.body.Goals as goal
use Rattle.kt_node_text.proofs.numbers.Numbers.body.Goals.{else-not-negative-via-then-not-negative+else-size, else-not-negative-via-else-not-negative, else-negative-via-then-negative+else-size-ge1, else-negative-via-else-negative}

pub returns-in_err-negative-clause-read : goal.returns-in_err-negative-clause-read
returns-in_err-negative-clause-read c = λ b after fits e.
    stops _ _ _ _ _ c.from_residual.ensures.1 (c.in_err-negative.ensures.read (is_negative b) (body_size b ∷ after) (e ∙ body_begins b after))

pub returns-in_err-size-clause-read : goal.returns-in_err-size-clause-read
returns-in_err-size-clause-read c = λ b after fits e.
    let sign = c.in_ok-negative.ensures.read (is_negative b) (body_size b ∷ after) (e ∙ body_begins b after) in
    stops _ _ _ _ _ c.from_residual-in_err-size.ensures.1 (c.in_err-size.ensures.read (body_size b) after (body_fits b fits) sign.1)

pub returns-then-size-clause-read : goal.returns-then-size-clause-read
returns-then-size-clause-read c = λ b after fits e.
    let sign = c.in_ok-negative.ensures.read (is_negative b) (body_size b ∷ after) (e ∙ body_begins b after) in
    let size = c.in_ok-size.ensures.read (body_size b) after (body_fits b fits) sign.1 in
    (from_zero b _ (sym sign.0 ∙ c.if-not-negative.true) size.0 c.if-size.true, size.1)

pub returns-then-size-ge1-clause-read : goal.returns-then-size-ge1-clause-read
returns-then-size-ge1-clause-read c = λ b after fits e.
    let sign = c.in_ok-negative.ensures.read (is_negative b) (body_size b ∷ after) (e ∙ body_begins b after) in
    let size = c.in_ok-size.ensures.read (body_size b) after (body_fits b fits) sign.1 in
    (below_zero b _ fits (sym sign.0 ∙ c.if-negative.true) size.0, size.1)

pub returns-clause-read : goal.returns-clause-read
returns-clause-read c = λ b after fits e.
    let sign = c.in_ok-negative.ensures.read (is_negative b) (body_size b ∷ after) (e ∙ body_begins b after) in
    let size = c.in_ok-size.ensures.read (body_size b) after (body_fits b fits) sign.1 in
    let is = a_body b _ fits size.0 in
    elim c.else-not-negative.branch [
      | else-not-negative-via-then-not-negative+else-size w ↦ omega (arith, is.0 (sym sign.0 ∙ w.if-not-negative.true), w.if-size.false)
      | else-not-negative-via-else-not-negative w ↦ elim c.else-negative.branch [
        | else-negative-via-then-negative+else-size-ge1 v ↦ omega (arith, is.1 (sym sign.0 ∙ v.if-negative.true), v.if-size-ge1.false)
        | else-negative-via-else-negative v ↦ false≢true (sym v.if-negative.false ∙ w.if-not-negative.false)
      ]
    ]
