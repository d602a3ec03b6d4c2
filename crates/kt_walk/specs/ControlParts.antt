-- What a walk knows, but for the messages.
use Rattle.std.specs.Prelude.{ℕ, Option, List}
use Rattle.kt_walk.specs.declared.process_state.ProcessState.{ProcessState}
use Rattle.kt_rules.specs.declared.instances.Instance.{Instance}
use Rattle.kt_walk.specs.DropTable.{DropTable}

-- how many rows were fed, and what is known after them
pub record ControlParts : Type 0 where
  pub rows : ℕ
  pub process_states : List ProcessState
  pub instances : List Instance
  pub beginning : Option (ℕ × ℕ)
  pub drops : DropTable
