use Rattle.std.proofs.Common.{◌≡◌, ◌≢◌, ◌++◌, ◌∷◌, length, inl, inr}
use Rattle.std.specs.Fmt.{decimal}
use Rattle.kt_spacetime.specs.NamedRows.{IsInstNameInRange}
use Rattle.kt_spacetime.specs.declared.names.InstName.{InstName}
use Rattle.kt_merge.specs.Spelling.{instance_word}
use Rattle.kt_merge.proofs.NameFacts.{if_none, one_or_two}
use Rattle.kt_merge.proofs.names.instance_of.Goals as goal

pub returns-clause-none : goal.returns-clause-none
returns-clause-none c =
    let first = c.in_default.ensures.none in
    let other : ((i : InstName) → IsInstNameInRange i → length (decimal i.initiator) ≡ 2 → c.in_ok-name.name.now ≢ decimal i.initiator ++ 46 ∷ decimal i.count)
    → (i : InstName) → IsInstNameInRange i → c.args.text.now ≢ instance_word i = λ none i range e.
    let name : c.in_ok-name.name.now ≡ decimal i.initiator ++ 46 ∷ decimal i.count = cc (c.in_ok-name.ensures.found, e) in
    elim (one_or_two i.initiator range.0) [
      | inl one ↦ first i range one name
      | inr two ↦ none i range two name
    ] in
    if_none c.instance_after-2.result other c.instance_after-2.ensures.none
