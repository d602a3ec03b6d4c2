-- The order of the default, by what code has: takes before commands, by taker and then by sender; and commands as the
-- plan has them.
use Rattle.std.specs.Prelude.{ℕ, ◌==◌, ◌&&◌, ◌||◌, nat_lt, Bool, true, false, List, [], ◌∷◌, zero, if◌then◌else◌, suc, ◌≡◌, ◌⊎◌}
use Rattle.kt_plan.specs.Limits.{Planned}
use Rattle.kt_plan.specs.declared.steps.Step.{Step}
use Rattle.kt_plan.specs.declared.steps.Step.TheVariants.{Do, Take}
use Rattle.kt_promises.specs.Steps.{enabled}
use Rattle.kt_promises.specs.Progress.{Progress}
use Rattle.kt_plan.specs.declared.commands.Command.{Command}

-- the place of p's command after k of its commands
abbrev pub place_of_command : ℕ → ℕ → List Command → ℕ
place_of_command k p [] = 0
place_of_command zero p (c ∷ cs) = if c.by == p then 0 else suc (place_of_command zero p cs)
place_of_command (suc k) p (c ∷ cs) = if c.by == p then suc (place_of_command k p cs) else suc (place_of_command (suc k) p cs)

-- the place of p's next command
abbrev pub next_place : Planned → Progress → ℕ → ℕ
next_place plan w p = place_of_command (w.done p) p plan.commands

-- one step goes before another
abbrev pub comes_before : Planned → Progress → Step → Step → Bool
comes_before plan w (Take p q) (Take u v) = nat_lt p u || (p == u && nat_lt q v)
comes_before plan w (Take p q) (Do u) = true
comes_before plan w (Do p) (Take u v) = false
comes_before plan w (Do p) (Do u) = nat_lt (next_place plan w p) (next_place plan w u)

-- this step is enabled, and goes before every other one that is
pub record IsFirstEnabled (plan : Planned) (w : Progress) (x : Step) : Type 0 where
  pub on : enabled plan w x ≡ true
  pub first : (y : Step) → enabled plan w y ≡ true → (x ≡ y) ⊎ (comes_before plan w x y ≡ true)
