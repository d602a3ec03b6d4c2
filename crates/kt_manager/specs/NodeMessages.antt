-- The rules of messages, failures and refused commands.
use Rattle.std.specs.Prelude.{ℕ, ℤ, ◌+◌, if◌then◌else◌, Bool, true, false, List, [], ◌∷◌, ◌++◌}
use Rattle.kt_base.specs.declared.words.Verb.{Verb}
use Rattle.kt_meaning.specs.Past.{at_one}
use Rattle.kt_tables.specs.Calls.{sent, received}
use Rattle.kt_machine.specs.Values.{Apply, Drop}
use Rattle.kt_spacetime.specs.declared.named_rows.NamedCause.{NamedCause}
use Rattle.kt_spacetime.specs.declared.named_rows.NamedCause.TheVariants.{Down, NoSave}
use Rattle.kt_spacetime.specs.declared.named_rows.NamedEvent.TheVariants.{Sent, Received, Dropped, Failed, Refused}
use Rattle.kt_manager.specs.declared.parcels.NodeParcel.{NodeParcel}
use Rattle.kt_manager.specs.declared.parcels.NodeParcel.TheVariants.{App, Ask, Reply, Decide}
use Rattle.kt_manager.specs.Nodes.{NodeState, Doing, nothing, with_one}

-- it sends a message to q, which has its next label
abbrev pub sending : NodeState → ℕ → ℤ → Doing
sending y q body = record {
  state = record y { calls = y.calls ++ sent q (y.used + 1) ∷ []; used = y.used + 1 };
  puts = with_one q (App (y.used + 1) body) (λ u. []);
  rows = Sent q body (y.used + 1) ∷ [];
  acts = [];
}

-- a message of q is received by who is up, and dropped by who is down
abbrev pub receiving : NodeState → ℕ → ℕ → ℤ → Doing
receiving y q label body = record {
  state = record y { calls = y.calls ++ received q label ∷ []; kept = with_one q (App label body) y.kept };
  puts = λ u. [];
  rows = Received q label ∷ [];
  acts = Apply q body ∷ [];
}

abbrev pub arriving : NodeState → ℕ → ℕ → ℤ → Doing
arriving y q label body = if y.up then receiving y q label body else record (nothing y) { rows = Dropped q label ∷ [] }

-- who is in a rollback holds it
abbrev pub holding : NodeState → ℕ → NodeParcel → Doing
holding y q x = nothing (record y { held = with_one q x y.held })

-- once that is over it takes what it holds, in order
abbrev pub taking_held : NodeState → ℕ → List NodeParcel → Doing
taking_held y q [] = nothing y
taking_held y q (App label body ∷ rest) = arriving (record y { held = at_one q rest y.held }) q label body
taking_held y q (Ask k kind label ∷ rest) = nothing y
taking_held y q (Reply k w ∷ rest) = nothing y
taking_held y q (Decide k c ∷ rest) = nothing y

abbrev pub failing : NodeState → Doing
failing y = record (nothing (record y { up = false })) { rows = Failed ∷ []; acts = Drop ∷ [] }

-- it refuses a command
abbrev pub refusing : NodeState → Verb → NamedCause → Doing
refusing y verb cause = record (nothing y) { rows = Refused verb cause ∷ [] }

-- why it can't save: it is down, or its object can't be saved
abbrev pub unable : Bool → NamedCause
unable true = NoSave
unable false = Down
