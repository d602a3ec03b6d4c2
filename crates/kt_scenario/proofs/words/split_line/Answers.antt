use Rattle.std.proofs.Common.{◌-◌, ◌+◌, sym, arith, length, drop}
use Rattle.std.proofs.lemmas.List.{take_all, length-drop}
use Rattle.kt_scenario.proofs.LineFacts.{line_to, last_line}
use Rattle.kt_scenario.proofs.words.split_line.Goals as goal

pub returns-in-Some-clause-line : goal.returns-in-Some-clause-line
returns-in-Some-clause-line c =
    let text = c.args.text.now in
    let end = c.in-Some.end in
    let whole = take_all (length text - (end + 1)) (drop (end + 1) text) (omega (arith, length-drop (end + 1) text)) in
    line_to text end _ _ (sym c.in-Some.ensures.place) c.in-Some.ensures.within c.without_return.ensures whole

pub returns-in-None-clause-line : goal.returns-in-None-clause-line
returns-in-None-clause-line c = last_line c.args.text.now (sym c.in-None.ensures.place)
