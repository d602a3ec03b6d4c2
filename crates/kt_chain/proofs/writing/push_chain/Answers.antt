use Rattle.std.proofs.Common.{arith, ◌≡◌, ◌≤◌, ◌<◌, ◌∙◌, ◌∷◌, ◌++◌, List, ℕ, ap, sym, drop, length, subst}
use Rattle.kt_chain.proofs.WritingFacts.{word_marked, marks_first}
use Rattle.kt_chain.proofs.writing.push_chain.Goals as goal

pub unmarked-requires : goal.unmarked-requires
unmarked-requires c =
    let some : 0 < length c.args.messages.now = omega (arith, c.in_default.len_at_least) in
    subst (λ (words : List ℕ). 1 ≤ length words) (sym (c.as_slice.ensures.value ∙ c.in_ok-retell-in_default.ensures))
    (marks_first c.args.messages.now some)

pub returns-in_ok-push_field-in_default-clause-chain : goal.returns-in_ok-push_field-in_default-clause-chain
returns-in_ok-push_field-in_default-clause-chain c =
    let some : 0 < length c.args.messages.now = omega (arith, c.in_default.len_at_least) in
    let word = c.unmarked.ensures ∙ ap (drop 1) (c.as_slice.ensures.value ∙ c.in_ok-retell-in_default.ensures) ∙ sym (word_marked c.args.messages.now some) in
    c.in_ok-push_field-in_default.ensures ∙ ap (λ (field : List ℕ). c.args.text.now.items ++ 44 ∷ field) word
