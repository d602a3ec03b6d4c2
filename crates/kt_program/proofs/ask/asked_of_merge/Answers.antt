use Rattle.std.proofs.Common.{refl, sym}
use Rattle.clap.specs.Words.{found_of, rows_of}
use Rattle.kt_program.proofs.NamedParts.{names_merge, no_merge, no_words, too_many}
use Rattle.kt_program.proofs.ask.asked_of_merge.Goals as goal

pub returns-in_default-clause-nothing : goal.returns-in_default-clause-nothing
returns-in_default-clause-nothing c =
    let rows = rows_of (found_of c.args.matches.now) in
    no_merge rows (no_words rows c.in_default.ensures)

pub returns-then-names-gt-MAX_PARTS-clause-nothing : goal.returns-then-names-gt-MAX_PARTS-clause-nothing
returns-then-names-gt-MAX_PARTS-clause-nothing c =
    let rows = rows_of (found_of c.args.matches.now) in
    no_merge rows (too_many rows c.in-Some.names.now c.in-Some.ensures c.if-names-gt-MAX_PARTS.true)

pub returns-clause-named : goal.returns-clause-named
returns-clause-named c =
    let rows = rows_of (found_of c.args.matches.now) in
    (refl, names_merge rows c.in-Some.names.now _ c.in-Some.ensures c.in_ok-parts.ensures c.if-names-gt-MAX_PARTS.false (sym c.text_of-log.ensures))
