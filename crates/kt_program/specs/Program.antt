-- The command line as clap reads it.
use Rattle.std.specs.Prelude.{◌≡◌, ◌≢◌, ◌<◌, ◌≤◌, ◌^◌, ◌⊎◌, ℕ, List, Option, Some, None, option_map, codes, length, map, true, false, MatchBool}
use Rattle.clap.specs.Words.{App, Rule, Row, Text, rule_of, app_of, new_app, new_rule, with_rule, with_subcommand, all_of, first_of, subcommand_of}
use Rattle.std.specs.Fmt.{decimal}
use Rattle.clap.specs.Words.{Kinds, HasKind, fault_of, kind_of}
use Rattle.clap.specs.declared.error.Error.{Error}
use Rattle.clap.specs.declared.error.kind.ErrorKind.TheVariants.{MissingSubcommand}
use Rattle.clap.specs.declared.builder.command.Command.TheViews.{out-Command as fields_of}
use Rattle.clap.specs.declared.builder.command.Command.{Command}
use Rattle.clap.specs.declared.builder.arg.Arg.{Arg}
use Rattle.clap.specs.declared.builder.action.ArgAction.TheVariants.{Append, SetTrue}
use Rattle.clap.specs.declared.builder.value_parser.ValueParser.TheVariants.{Unsigned}
use Rattle.kt_program.specs.declared.line.Asked.{Asked}
use Rattle.kt_program.specs.declared.line.Asked.TheVariants.{Certify, Check, Draw, Judge, Live, Merge, Play, Run}
use Rattle.kt_program.specs.declared.line.By.{By}
use Rattle.kt_program.specs.declared.line.By.TheVariants.{Serial, Threads}
use Rattle.kt_program.specs.declared.line.Drawing.{Drawing}
use Rattle.kt_program.specs.declared.line.Judging.{Judging}
use Rattle.kt_program.specs.declared.line.Merging.{Merging}
use Rattle.kt_program.specs.declared.line.Run.{Run as RunAsked}

-- a word that has to be there, with a name in help
abbrev pub wanted : Text → Rule
wanted id = record (new_rule id) { required = true; value_names = 1 }

-- a word that may be there, with a name in help
abbrev pub possible : Text → Rule
possible id = record (new_rule id) { value_names = 1 }

-- an option with a value, named in help
abbrev pub optional : Text → Rule
optional id = record (new_rule id) { long = Some id; value_names = 1 }

-- an option without a value
abbrev pub switch : Text → Rule
switch id = record (new_rule id) { long = Some id; action = Some SetTrue }

-- an option with a number of 64 bits, named in help
abbrev pub numeric : Text → Rule
numeric id = record (new_rule id) { long = Some id; value_names = 1; parser = Some (Unsigned 0 18446744073709551615) }

-- a command that runs a scenario
abbrev pub scenario_command : Text → App
scenario_command name = with_rule (new_app name) (wanted (codes "scenario"))

-- a command that reads a log
abbrev pub log_command : Text → App
log_command name = with_rule (new_app name) (wanted (codes "log"))

-- a command with the switch for what is told below a fault's line
abbrev pub with_hints : App → App
with_hints app = with_rule app (switch (codes "hints"))

-- a command with files for the log and the certificates of its run, and with the switch
abbrev pub with_outputs : App → App
with_outputs app = with_hints (with_rule (with_rule app (optional (codes "log"))) (optional (codes "cert")))

-- the command that plays a scenario
abbrev pub play : App
play = with_outputs (with_rule (with_rule (with_rule (scenario_command (codes "play")) (optional (codes "steps"))) (numeric (codes "seed"))) (optional (codes "record")))

-- the command that runs one in threads
abbrev pub live : App
live = with_outputs (with_rule (scenario_command (codes "live")) (optional (codes "record")))

-- the command that judges a stored log
abbrev pub check : App
check =
    with_hints (with_rule (with_rule (with_rule (log_command (codes "check")) (possible (codes "cert"))) (switch (codes "explain"))) (switch (codes "at-rest")))

-- the command that certifies a stored log
abbrev pub certify : App
certify = with_hints (with_rule (log_command (codes "certify")) (optional (codes "cert")))

-- the command that draws a stored log
abbrev pub draw : App
draw =
    with_hints (with_rule (with_rule (with_rule (with_rule (with_rule (log_command (codes "draw")) (optional (codes "cert"))) (optional (codes "names"))) (optional (codes "from"))) (optional (codes "to"))) (optional (codes "svg")))

-- words of which one or more have to be there, with a name in help
abbrev pub wanted_list : Text → Rule
wanted_list id = record (wanted id) { action = Some Append }

-- the command that merges parts
abbrev pub merge : App
merge = with_hints (with_rule (with_rule (new_app (codes "merge")) (wanted_list (codes "part"))) (optional (codes "log")))

-- a command with a version
abbrev pub with_version : App → App
with_version app = record app { top = record app.top { has_version = true } }

-- the program's command with its switch
abbrev pub switched : App
switched = with_hints (with_version (new_app (codes "koo_toueg")))

-- the program's command line
abbrev pub program : App
program =
    with_subcommand (with_subcommand (with_subcommand (with_subcommand (with_subcommand (with_subcommand switched play.top) live.top) check.top) certify.top) draw.top) merge.top

-- an argument that clap reads as this rule
pub record IsRule (rule : Rule) (a : Arg) : Type 0 where
  pub read : rule_of a ≡ rule
  pub local : a.global ≡ false

-- a command that clap reads as this definition
pub record IsDefined (app : App) (c : Command) : Type 0 where
  pub shape : app_of c ≡ app
  pub globals : (fields_of c).has_globals ≡ false

-- what the matches of `play` name: a scenario, and what else is given
pub record NamesPlay (rows : List Row) (scenario : Text) (steps log cert : Option Text) : Type 0 where
  pub scenario_is : first_of (codes "scenario") rows ≡ Some scenario
  pub steps_are : first_of (codes "steps") rows ≡ steps
  pub log_is : first_of (codes "log") rows ≡ log
  pub cert_is : first_of (codes "cert") rows ≡ cert

-- what the matches of `live` name
pub record NamesLive (rows : List Row) (scenario : Text) (log cert : Option Text) : Type 0 where
  pub scenario_is : first_of (codes "scenario") rows ≡ Some scenario
  pub log_is : first_of (codes "log") rows ≡ log
  pub cert_is : first_of (codes "cert") rows ≡ cert

-- what the matches of `play` have neither of: a seed, nor a file for the steps that were made
pub record NamesNoOrder (rows : List Row) : Type 0 where
  pub no_seed : first_of (codes "seed") rows ≡ None
  pub no_record : first_of (codes "record") rows ≡ None

-- a text that may be given spells a number of 64 bits, by its digits without a sign or a leading zero
abbrev pub SpellsSeed : Option Text → Option ℕ → Type 0
SpellsSeed None None = Unit {0}
SpellsSeed (Some text) (Some n) = (n < 2 ^ 64) × (text ≡ decimal n)
SpellsSeed _ _ = ⊥

-- what they have of the two, and that they have one
pub record NamesOrder (rows : List Row) (seed : Option ℕ) (kept : Option Text) : Type 0 where
  pub seed_is : SpellsSeed (first_of (codes "seed") rows) seed
  pub record_is : first_of (codes "record") rows ≡ kept
  pub some : ¬ NamesNoOrder rows

-- an option without a value is given
abbrev pub IsSet : Text → List Row → Type 0
IsSet id rows = first_of id rows ≡ Some (codes "true")

-- what the matches of `check` name: certificates, and neither of its options
pub record NamesCheck (rows : List Row) (log cert : Text) : Type 0 where
  pub log_is : first_of (codes "log") rows ≡ Some log
  pub cert_is : first_of (codes "cert") rows ≡ Some cert
  pub untold : ¬ IsSet (codes "explain") rows
  pub lax : ¬ IsSet (codes "at-rest") rows

-- what they name else: no certificates, or one of the options
pub record NamesJudging (rows : List Row) (asked : Judging) : Type 0 where
  pub log_is : first_of (codes "log") rows ≡ Some asked.log.now
  pub cert_is : first_of (codes "cert") rows ≡ option_map (λ s. s.now) asked.cert
  pub explains_is : MatchBool asked.explains (IsSet (codes "explain") rows) (¬ IsSet (codes "explain") rows)
  pub at_rest_is : MatchBool asked.at_rest (IsSet (codes "at-rest") rows) (¬ IsSet (codes "at-rest") rows)
  pub some : (cert : Text) → ¬ NamesCheck rows asked.log.now cert

-- a number of an option: below 2^32, and spelled by its digits; none where the option is missing
abbrev pub IsGivenNumber : Text → List Row → Option ℕ → Type 0
IsGivenNumber id rows None = first_of id rows ≡ None
IsGivenNumber id rows (Some number) = (number < 2 ^ 32) × (first_of id rows ≡ Some (decimal number))

-- what the matches of `draw` name
pub record NamesDraw (rows : List Row) (asked : Drawing) : Type 0 where
  pub log_is : first_of (codes "log") rows ≡ Some asked.log.now
  pub cert_is : first_of (codes "cert") rows ≡ option_map (λ s. s.now) asked.cert
  pub names_are : first_of (codes "names") rows ≡ option_map (λ s. s.now) asked.names
  pub from_is : IsGivenNumber (codes "from") rows asked.span.from
  pub to_is : IsGivenNumber (codes "to") rows asked.span.to
  pub svg_is : first_of (codes "svg") rows ≡ option_map (λ s. s.now) asked.svg

-- what the matches of `merge` name: the words that are given are the parts, at most 64
pub record NamesMerge (rows : List Row) (asked : Merging) : Type 0 where
  pub parts_are : option_map (map Some) (all_of (codes "part") rows) ≡ Some (map (option_map (λ s. s.now)) asked.parts.items)
  pub few : length asked.parts.items ≤ 64
  pub log_is : first_of (codes "log") rows ≡ option_map (λ s. s.now) asked.log

-- what the matches of `live` name of a run whose steps are written: none come first, and none are drawn
pub record NamesRecord (rows : List Row) (run : RunAsked) : Type 0 where
  pub record_is : first_of (codes "record") rows ≡ option_map (λ s. s.now) run.kept
  pub some : run.kept ≢ None
  pub no_steps : run.steps ≡ None
  pub no_seed : run.seed ≡ None

-- what the matches of `play` or of `live` name of a run with a seed, or whose steps are written
abbrev pub NamesRun : By → Text → List Row → RunAsked → Type 0
NamesRun Serial name rows run =
    (name ≡ codes "play") × NamesPlay rows run.scenario.now (option_map (λ s. s.now) run.steps) (option_map (λ s. s.now) run.log) (option_map (λ s. s.now) run.cert) × NamesOrder rows run.seed (option_map (λ s. s.now) run.kept)
NamesRun Threads name rows run =
    (name ≡ codes "live") × NamesLive rows run.scenario.now (option_map (λ s. s.now) run.log) (option_map (λ s. s.now) run.cert) × NamesRecord rows run

-- what a subcommand's matches name
abbrev pub NamesIn : Text → List Row → Asked → Type 0
NamesIn name rows (Play scenario steps log cert) =
    (name ≡ codes "play") × NamesPlay rows scenario.now (option_map (λ s. s.now) steps) (option_map (λ s. s.now) log) (option_map (λ s. s.now) cert) × NamesNoOrder rows
NamesIn name rows (Live scenario log cert) =
    (name ≡ codes "live") × NamesLive rows scenario.now (option_map (λ s. s.now) log) (option_map (λ s. s.now) cert) × (first_of (codes "record") rows ≡ None)
NamesIn name rows (Run run) = NamesRun run.by name rows run
NamesIn name rows (Check log cert) = (name ≡ codes "check") × NamesCheck rows log.now cert.now
NamesIn name rows (Judge asked) = (name ≡ codes "check") × NamesJudging rows asked
NamesIn name rows (Certify log cert) = (name ≡ codes "certify") × (first_of (codes "log") rows ≡ Some log.now) × (first_of (codes "cert") rows ≡ option_map (λ s. s.now) cert)
NamesIn name rows (Draw asked) = (name ≡ codes "draw") × NamesDraw rows asked
NamesIn name rows (Merge asked) = (name ≡ codes "merge") × NamesMerge rows asked

-- what is asked for names the subcommand and its texts
abbrev pub NamesAsked : Option (Text × List Row) → Asked → Type 0
NamesAsked None asked = ⊥
NamesAsked (Some p) asked = NamesIn p.0 p.1 asked

-- the kinds of error that clap gives for words: none where it takes them
abbrev pub faults_of : List Text → Kinds
faults_of words = fault_of program words

-- words that clap takes, but that name nothing to do
abbrev pub NamesNothing : List Text → Type 0
NamesNothing words = (asked : Asked) → ¬ NamesAsked (subcommand_of program words) asked

-- an error of clap is one that its definition gives for the words, or there was no memory; else a subcommand is missing
abbrev pub IsErrorFor : List Text → Error → Type 0
IsErrorFor words e = HasKind (faults_of words) e ⊎ ((kind_of e ≡ MissingSubcommand) × NamesNothing words)
