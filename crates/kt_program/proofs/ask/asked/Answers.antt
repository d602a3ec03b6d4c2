use Rattle.std.proofs.Common.{Option, rules, inr, subst}
use Rattle.std.specs.Prelude.{IfNone, IfSome}
use Rattle.clap.specs.Words.{subcommand_rows_of}
use Rattle.kt_program.specs.declared.line.Asked.{Asked}
use Rattle.kt_program.specs.Program.{IsErrorFor, NamesAsked}
use Rattle.kt_program.proofs.Refused.{error_of, names_of, nothing_of}
use Rattle.kt_program.proofs.ask.asked.Goals as goal

pub returns-in_err-matches-clause-refused : goal.returns-in_err-matches-clause-refused
returns-in_err-matches-clause-refused c =
    let error : IsErrorFor c.args.words.now c.in_err-matches.field-0.0 =
    error_of c.in_ok-program_command.field-0 c.args.words.now _ c.try_get_matches_from.result c.in_err-matches.field-0.0 c.in_ok-program_command.ensures c.list.ensures c.in_err-matches.was c.try_get_matches_from.ensures.kinds in
    search rules

pub returns-in_default-clause-refused : goal.returns-in_default-clause-refused
returns-in_default-clause-refused c =
    let rows = subcommand_rows_of c.in_ok-matches.matches in
    let nothing = subst (λ (o : Option Asked). IfNone o ((other : Asked) → ¬ NamesAsked rows other)) c.in_default.is c.in_ok-asked.ensures.nothing in
    inr (c.in_ok-nothing_asked.ensures, nothing_of c.in_ok-program_command.field-0 c.args.words.now _ c.in_ok-matches.matches c.in_ok-program_command.ensures c.list.ensures c.in_ok-matches.ensures.matches nothing)

pub returns-then-clash-clause-refused : goal.returns-then-clash-clause-refused
returns-then-clash-clause-refused c =
    let rows = subcommand_rows_of c.in_ok-matches.matches in
    let named = subst (λ (o : Option Asked). IfSome o (NamesAsked rows)) c.in-Some.is c.in_ok-asked.ensures.named in
    (c.in-Some.asked, names_of c.in_ok-program_command.field-0 c.args.words.now _ c.in_ok-matches.matches c.in-Some.asked c.in_ok-program_command.ensures c.list.ensures c.in_ok-matches.ensures.matches named, c.if-clash.ensures)

pub returns-clause-named : goal.returns-clause-named
returns-clause-named c =
    let rows = subcommand_rows_of c.in_ok-matches.matches in
    let named = subst (λ (o : Option Asked). IfSome o (NamesAsked rows)) c.in-Some.is c.in_ok-asked.ensures.named in
    names_of c.in_ok-program_command.field-0 c.args.words.now _ c.in_ok-matches.matches c.in-Some.asked c.in_ok-program_command.ensures c.list.ensures c.in_ok-matches.ensures.matches named
