-- How many rows the parts of a step add.
use Rattle.std.proofs.Common.{◌≡◌, ◌+◌, ℕ, List, [], ◌∷◌, ◌++◌, ap, arith, ◌∙◌, append_assoc, length-append}
use Rattle.kt_spacetime.specs.declared.event.Event.{Event}
use Rattle.kt_system.specs.Systems.{Whole, LogGrows}

-- one row
pub grows_by : (a b : Whole) (row : Event) → b.rows.rows ≡ a.rows.rows ++ row ∷ [] → LogGrows 1 a b
grows_by a b row e = record { more = row ∷ []; rows = e; few = omega arith }

-- one part after another
pub grows_then : (m n : ℕ) (a b d : Whole) → LogGrows m a b → LogGrows n b d → LogGrows (m + n) a d
grows_then m n a b d x y = record {
  more = x.more ++ y.more;
  rows = y.rows ∙ (ap (λ (rows : List Event). rows ++ y.more) x.rows ∙ append_assoc a.rows.rows x.more y.more);
  few = (let i = x.few in let j = y.few in let k = length-append x.more y.more in omega (arith, i, j, k));
}
