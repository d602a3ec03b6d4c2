-- What the rules know of instances and of the row's own process.
use Rattle.std.specs.Prelude.{◌≡◌, ℕ}
use Rattle.kt_rules.specs.declared.rule_context.RuleContext.{RuleContext}
use Rattle.kt_meaning.specs.Past.{Past}
use Rattle.kt_rules.specs.Standing.{ShowsInstances, beginning_of_row}

-- the context of a rule is what is known of the instances and of this process
pub record ShowsRuleContext (g : RuleContext) (s : Past) (p : ℕ) : Type 0 where
  pub of_instances : ShowsInstances g.instances.now s
  pub of_beginning : g.beginning ≡ beginning_of_row s.last
  pub open_in : g.open_in ≡ s.open_in p
  pub up : g.up ≡ s.up p
