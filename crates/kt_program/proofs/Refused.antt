-- Words that are refused for the names that they give.
use Rattle.std.proofs.Common.{◌≡◌, List, inl, refl, subst, sym, true}
use Rattle.std.specs.Prelude.{Result, Err}
use Rattle.clap.specs.Words.{App, Text, app_of, fault_of, subcommand_of, subcommand_rows_of}
use Rattle.clap.specs.Simple.{HasMatchesOf, is_simple}
use Rattle.clap.specs.Faults.{is_simple_and_free}
use Rattle.clap.specs.Kinds.{FailsBy}
use Rattle.clap.specs.declared.builder.command.Command.{Command}
use Rattle.clap.specs.declared.error.Error.{Error}
use Rattle.kt_program.specs.declared.line.Asked.{Asked}
use Rattle.kt_program.specs.Program.{IsDefined, IsErrorFor, NamesAsked, program}

-- the program's command line is one of which clap says what it makes of words
pub simple : is_simple program ≡ true
simple = refl

pub simple_and_free : is_simple_and_free program ≡ true
simple_and_free = refl

-- what it makes of words that it takes
pub names_of : (command : Command) (words texts : List Text) (m : _) (asked : Asked) → IsDefined program command → texts ≡ words → HasMatchesOf (app_of command) texts m
    → NamesAsked (subcommand_rows_of m) asked → NamesAsked (subcommand_of program words) asked
names_of command words texts m asked defined same has named =
    let here = subst (λ (app : App). HasMatchesOf app texts m) defined.shape has in
    subst (λ (list : List Text). NamesAsked (subcommand_of program list) asked) same (subst (λ rows. NamesAsked rows asked) (here simple).1 named)

pub nothing_of : (command : Command) (words texts : List Text) (m : _) → IsDefined program command → texts ≡ words → HasMatchesOf (app_of command) texts m
    → ((asked : Asked) → ¬ NamesAsked (subcommand_rows_of m) asked) → (asked : Asked) → ¬ NamesAsked (subcommand_of program words) asked
nothing_of command words texts m defined same has none asked named =
    let here = subst (λ (app : App). HasMatchesOf app texts m) defined.shape has in
    none asked (subst (λ rows. NamesAsked rows asked) (sym (here simple).1) (subst (λ (list : List Text). NamesAsked (subcommand_of program list) asked) (sym same) named))

-- the error that it gives for others
pub error_of : {T : Type 0} (command : Command) (words texts : List Text) (result : Result T Error) (e : Error) → IsDefined program command → texts ≡ words → result ≡ Err e
    → (is_simple_and_free (app_of command) ≡ true → FailsBy (fault_of (app_of command) texts) result) → IsErrorFor words e
error_of {T} command words texts result e defined same is fails =
    let here = subst (λ (app : App). is_simple_and_free app ≡ true → FailsBy (fault_of app texts) result) defined.shape fails in
    inl (subst (λ (list : List Text). FailsBy {T = T} (fault_of program list) (Err e)) same (subst (λ r. FailsBy {T = T} (fault_of program texts) r) is (here simple_and_free)))
