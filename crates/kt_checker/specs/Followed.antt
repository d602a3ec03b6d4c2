-- A chain that was followed, with the processes that it leads through.
use Rattle.std.specs.Prelude.{◌≡◌, ℕ, ◌+◌, ◌<◌, Some, List, length, map, take, slice_get}
use Rattle.kt_meaning.specs.Past.{Past}
use Rattle.kt_spacetime.specs.declared.certificate.Certificate.{Certificate}
use Rattle.kt_checker.specs.declared.path.Step.{Step}
use Rattle.kt_meaning.specs.Passing.{IsChain}

-- the message that leads over a step
abbrev pub message_of : Step → ℕ
message_of step = step.msg

-- the messages up to each step lead from a certificate's initiator to the process of the step
abbrev pub IsPath : Past → Certificate → List Step → Type 0
IsPath s c steps = (i : ℕ) (step : Step) → slice_get steps i ≡ Some step → IsChain s c.inst c.kind c.initiator (map message_of (take (i + 1) steps)) step.to

-- the steps are those of all these messages, or of the first 64
abbrev pub IsPathOf : List Step → List ℕ → Type 0
IsPathOf steps messages = length steps < 64 → map message_of steps ≡ messages
