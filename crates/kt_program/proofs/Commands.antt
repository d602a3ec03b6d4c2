-- Commands as clap reads them, one argument or subcommand after the other.
use Rattle.std.proofs.Common.{◌≡◌, ◌∙◌, Bool, ap}
use Rattle.std.specs.Prelude.{◌||◌, Some}
use Rattle.clap.specs.Words.{App, Rule, Text, AddsArg, AddsSubcommand, rule_of, shape_of, with_rule, with_subcommand}
use Rattle.clap.specs.declared.builder.action.ArgAction.TheVariants.{Append}
use Rattle.clap.specs.declared.builder.arg.Arg.{Arg}
use Rattle.clap.specs.declared.builder.command.Command.{Command}
use Rattle.clap.specs.declared.builder.command.Command.TheViews.{out-Command as fields_of}
use Rattle.kt_program.specs.Program.{IsDefined, IsRule, wanted, wanted_list}

pub arg_added : (app : App) (rule : Rule) (old new : Command) (a : Arg) → IsDefined app old → IsRule rule a → AddsArg old a new → IsDefined (with_rule app rule) new
arg_added app rule old new a defined is adds = record {
  shape = adds.shape is.local ∙ (ap (λ (x : App). with_rule x (rule_of a)) defined.shape ∙ ap (with_rule app) is.read);
  globals = adds.globals ∙ (ap (λ (b : Bool). b || a.global) defined.globals ∙ is.local);
}

pub subcommand_added : (app sub : App) (old added new : Command) → IsDefined app old → IsDefined sub added → AddsSubcommand old added new → IsDefined (with_subcommand app sub.top) new
subcommand_added app sub old added new defined is adds = record {
  shape = adds.shape is.globals ∙ (ap (λ (x : App). with_subcommand x (shape_of added)) defined.shape ∙ ap (λ (x : App). with_subcommand app x.top) is.shape);
  globals = adds.globals ∙ (ap (λ (b : Bool). b || (fields_of added).has_globals) defined.globals ∙ is.globals);
}

-- an argument that takes words each time that it is met
pub appended : (id : Text) (a b : Arg) → IsRule (wanted id) a → b ≡ record a { action = Some Append } → IsRule (wanted_list id) b
appended id a b is e = record {
  read = ap rule_of e ∙ ap (λ (rule : Rule). record rule { action = Some Append }) is.read;
  local = ap (λ (x : Arg). x.global) e ∙ is.local;
}
