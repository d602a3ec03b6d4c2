-- What a depot keeps.
use Rattle.std.specs.Prelude.{ℕ, List, Option}

-- a permanent saved state, and perhaps a tentative one
pub record SavedStates : Type 0 where
  pub permanent : List ℕ
  pub tentative : Option (List ℕ)
