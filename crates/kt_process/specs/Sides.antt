-- A process's part in an instance of checkpoint.
use Rattle.std.specs.Prelude.{ℕ, List}
use Rattle.kt_process.specs.Parts.{Part}

-- what it has in any instance, and by sender how many of the parcels that are kept were received before it
pub record SaveSide : Type 0 where
  pub part : Part
  pub marks : List ℕ
