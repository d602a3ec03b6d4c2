use Rattle.std.proofs.Common.{◌-◌, ◌∙◌, sym, arith, length, drop}
use Rattle.std.proofs.lemmas.List.{take_all, length-drop}
use Rattle.kt_scenario.proofs.WordFacts.{from_start, no_words}
use Rattle.kt_scenario.proofs.words.next_word.Goals as goal

pub returns-in_err-start-clause-none : goal.returns-in_err-start-clause-none
returns-in_err-start-clause-none c = rw c.from_residual.ensures (no_words c.args.line.now (sym c.in_err-start.ensures.place))

pub split_word-requires-clause-begins : goal.split_word-requires-clause-begins
split_word-requires-clause-begins c =
    let line = c.args.line.now in
    let start = c.in_ok-start.start in
    let whole = take_all (length line - start) (drop start line) (omega (arith, length-drop start line)) in
    (from_start line start _ (sym c.in_ok-start.ensures.place) whole).1

pub returns-clause-found : goal.returns-clause-found
returns-clause-found c =
    let line = c.args.line.now in
    let start = c.in_ok-start.start in
    let whole = take_all (length line - start) (drop start line) (omega (arith, length-drop start line)) in
    (from_start line start _ (sym c.in_ok-start.ensures.place) whole).0 ∙ c.split_word.ensures
