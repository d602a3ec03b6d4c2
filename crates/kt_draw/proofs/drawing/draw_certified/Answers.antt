use Rattle.std.proofs.Common.{rules, ◌≡◌, ◌∙◌, ℕ, List, Some, arith, ap, inl, length, refl, subst}
use Rattle.kt_draw.specs.Drawn.{IsDrawn, answer_sentence}
use Rattle.kt_draw.proofs.Fronts.{ok_weaker, told_drawn}
use Rattle.kt_draw.proofs.drawing.draw_certified.Goals as goal

pub picture-requires : goal.picture-requires
picture-requires c = record { few = (c.args.log.now.rows, c.in_ok-reading.ensures, omega (arith, c.rows.ensures.few, ap length c.rows.ensures.rows)) }

pub returns-clause-picture : goal.returns-clause-picture
returns-clause-picture c =
    let made : c.as_bytes.result.now ≡ c.in_ok-line.line.bytes.items = search rules in
    let line : c.as_bytes.result.now ≡ answer_sentence c.in_ok-verdict.verdict = made ∙ c.in_ok-line.ensures in
    let log = c.args.log.now.rows in
    let h = c.in_ok-reading.ensures in
    ok_weaker c.picture.result _ _ (c.picture.ensures.picture log h (inl c.rows.ensures.rows))
    (λ text e. record {
      verdict = c.in_ok-verdict.verdict;
      answer = c.in_ok-verdict.ensures.answer;
      orphan = c.in_ok-orphan.orphan;
      told = c.in_ok-orphan.ensures;
      drawn = subst (λ (l : List ℕ). IsDrawn c.args.names.now c.args.span log c.args.certificates.now c.in_ok-orphan.orphan (Some l) text.items) line
          (told_drawn c.args.names.now c.args.span log (length h.kept) c.in_ok-reading.reading.breach c.args.certificates.now c.in_ok-orphan.orphan (Some c.as_bytes.result.now) c.as_bytes.result.now text.items h.read refl e);
    })

pub returns-clause-fault : goal.returns-clause-fault
returns-clause-fault c = c.picture.ensures.fault c.args.log.now.rows c.in_ok-reading.ensures
