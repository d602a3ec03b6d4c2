-- What a pass knows after some rows.
use Rattle.std.specs.Prelude.{◌≡◌, ◌≤◌, ℕ, Bool, true, false, Option, Some, None, List, length}
use Rattle.kt_spacetime.specs.declared.event.Event.{Event}
use Rattle.kt_walk.specs.WalkOf.{WalkOf}
use Rattle.kt_meaning.specs.Legal.{first_broken}
use Rattle.kt_meaning.specs.Fitness.{HasNoChain, IsFirstWithout, IsUnfit}
use Rattle.kt_certify.specs.Instances.{AreInstancesOf}
use Rattle.kt_spacetime.specs.declared.unfit.Unfit.{Unfit}
use Rattle.kt_spacetime.specs.declared.unfit.Unfit.TheVariants as reason
use Rattle.kt_certify.specs.declared.pass.Pass.{Pass}

-- a pass has seen these rows, of which no committed instance has a member without a chain
pub record KeepsFit (pass : Pass) (rows : List Event) : Type 0 where
  pub walk : WalkOf pass.walk rows
  pub instances : AreInstancesOf rows pass.instances.items
  pub chained : (k p : ℕ) → HasNoChain rows k p → ⊥

-- what it keeps of them: all that is known of rows that are fit; that they are legal, where a member lacks a chain;
-- nothing of rows that break a rule
abbrev pub PassKeeps : Pass → List Event → Option Unfit → Type 0
PassKeeps pass rows None = KeepsFit pass rows
PassKeeps pass rows (Some (reason.NoChain k row p)) = WalkOf pass.walk rows
PassKeeps pass rows (Some (reason.BadLog n rule)) = Unit {0}

-- a pass has seen these rows, and knows whether they are fit
pub record PassOf (pass : Pass) (rows : List Event) : Type 0 where
  pub few : pass.walk.rows ≤ length rows
  pub keeps : PassKeeps pass rows pass.unfit
  pub unfit : (why : Unfit) → pass.unfit ≡ Some why → IsUnfit rows why

-- whether a row broke a rule
abbrev pub tells_rule : Option Unfit → Bool
tells_rule (Some (reason.BadLog n rule)) = true
tells_rule (Some (reason.NoChain k row p)) = false
tells_rule None = false

-- rows of which one breaks a rule, and this is why
abbrev pub IsBroken : List Event → Unfit → Type 0
IsBroken rows (reason.BadLog n rule) = first_broken rows ≡ Some (n, rule)
IsBroken rows (reason.NoChain k row p) = ⊥

-- the rows of a legal log are entered: the instances are theirs and no member lacks a chain, or this is the first that does
abbrev pub AreEntered : Pass → List Event → Option Unfit → Type 0
AreEntered pass rows None = AreInstancesOf rows pass.instances.items × ((k p : ℕ) → HasNoChain rows k p → ⊥)
AreEntered pass rows (Some (reason.NoChain k row p)) = IsFirstWithout rows k row p
AreEntered pass rows (Some (reason.BadLog n rule)) = ⊥
