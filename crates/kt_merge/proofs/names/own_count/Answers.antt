use Rattle.std.proofs.Common.{◌≡◌, ◌≢◌, ◌∷◌, ℕ}
use Rattle.std.specs.Fmt.{decimal}
use Rattle.kt_spacetime.specs.Counts.{IsCount}
use Rattle.kt_merge.specs.Spelling.{name_word}
use Rattle.kt_merge.proofs.NameFacts.{at_none, if_none, own_rest}
use Rattle.kt_merge.proofs.names.own_count.Goals as goal

pub returns-in_err-digits-clause-none : goal.returns-in_err-digits-clause-none
returns-in_err-digits-clause-none c =
    let other : (n : ℕ) → IsCount n → c.args.text.now ≢ name_word c.args.mark c.args.process.now n = λ n range e.
    c.in_err-digits.ensures.none (decimal n) (own_rest c.args.mark c.args.process.now c.args.text.now c.in_ok-name.name.now c.in_ok-dotted.dotted.now (46 ∷ decimal n) c.in_ok-name.ensures.found c.in_ok-dotted.ensures.found e) in
    at_none _ other

pub returns-clause-none : goal.returns-clause-none
returns-clause-none c =
    let other : ((n : ℕ) → IsCount n → c.in_ok-digits.digits.now ≢ decimal n) → (n : ℕ) → IsCount n → c.args.text.now ≢ name_word c.args.mark c.args.process.now n = λ none n range e.
    let dotted : c.in_ok-dotted.dotted.now ≡ 46 ∷ decimal n
    = own_rest c.args.mark c.args.process.now c.args.text.now c.in_ok-name.name.now c.in_ok-dotted.dotted.now (46 ∷ decimal n) c.in_ok-name.ensures.found c.in_ok-dotted.ensures.found e in
    none n range (cc (c.in_ok-digits.ensures.found, dotted)) in
    if_none c.count_of.result other c.count_of.ensures.none
