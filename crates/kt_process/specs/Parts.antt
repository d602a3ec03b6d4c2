-- The part of a process in an instance.
use Rattle.std.specs.Prelude.{ℕ, Bool, Option}

-- whose ask it joined by, the set of those that it asked, how many replies it still awaits, whether all were willing so far
pub record Part : Type 0 where
  pub inst : ℕ
  pub parent : Option ℕ
  pub asked : ℕ
  pub awaited : ℕ
  pub willing : Bool
