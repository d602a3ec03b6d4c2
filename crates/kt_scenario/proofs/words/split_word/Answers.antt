use Rattle.std.proofs.Common.{sym, length}
use Rattle.kt_scenario.specs.Lines.{is_blank}
use Rattle.kt_scenario.proofs.WordFacts.{place, no_place, word_to}
use Rattle.kt_scenario.proofs.words.split_word.Goals as goal

pub returns-in-Some : goal.returns-in-Some
returns-in-Some c =
    word_to c.args.line.now c.in-Some.end _ _ c.requires.begins c.requires.some (place is_blank c.args.line.now c.in-Some.end (sym c.in-Some.ensures.place)) c.split_at.ensures.front c.split_at.ensures.back

pub returns-in-None : goal.returns-in-None
returns-in-None c =
    word_to c.args.line.now (length c.args.line.now) _ _ c.requires.begins c.requires.some (no_place is_blank c.args.line.now (sym c.in-None.ensures.place)) c.split_at-in-None.ensures.front c.split_at-in-None.ensures.back
