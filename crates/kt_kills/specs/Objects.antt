-- What the objects of killed nets have: none after a kill, until it is restored. The node is told of no failure: it stays up, and
-- what it receives meanwhile is in its history alone. Who restores, and when, is left to the host.
use Rattle.std.specs.Prelude.{◌≡◌, ◌⊎◌, ℕ, false, if◌then◌else◌, Option, Some, None, List, [], ◌∷◌, ◌++◌, fold}
use Rattle.kt_meaning.specs.Past.{at_one}
use Rattle.kt_machine.specs.Acts.{stepper}
use Rattle.kt_tables.specs.Calls.{Call, sent, received, on_tentative, on_commit, on_abort, on_rollback}
use Rattle.kt_manager.specs.Nodes.{Doing}
use Rattle.kt_node.specs.Inputs.{Input}
use Rattle.kt_node.specs.NodeSteps.{node_after}
use Rattle.kt_node.specs.NodeLooks.{where_able}
use Rattle.kt_node.specs.NodeHistories.{Histories, calls_told}
use Rattle.kt_node.specs.Clocks.{input_at, front_input}
use Rattle.kt_kills.specs.Writing.{is_protocol}
use Rattle.kt_kills.specs.KilledNets.{KilledNet, KillEvent, Does, Brought, Writes, Killed, Back, brought, happens}

-- an object's live history, none where it is lost, and what was kept of it last and what was made permanent; keeping a lost object
-- keeps none, and at the opening both are empty histories
pub record Object : Type 0 where
  pub live : Option (List Call)
  pub tentative : Option (List Call)
  pub permanent : Option (List Call)

abbrev pub and_call : Option (List Call) → Call → Option (List Call)
and_call None c = None
and_call (Some calls) c = Some (calls ++ c ∷ [])

-- after one more call: what is kept is its live history, and a restore gives it the permanent one
abbrev pub object_after : Object → Call → Object
object_after o (sent q l) = record o { live = and_call o.live (sent q l) }
object_after o (received q l) = record o { live = and_call o.live (received q l) }
object_after o on_tentative = record o { tentative = o.live }
object_after o on_commit = record o { permanent = o.tentative }
object_after o on_abort = o
object_after o on_rollback = record o { live = o.permanent }

-- it did what the rows and the acts of a step tell
abbrev pub object_did : Object → Doing → Object
object_did o d = fold object_after o (calls_told d.rows d.acts)

abbrev pub lost : Object → Object
lost o = record o { live = None }

-- of each process, in memory and on disk
pub record Objects : Type 0 where
  pub memory : ℕ → Object
  pub disk : ℕ → Object

abbrev pub objects_step : KilledNet → Objects → ℕ → Option Input → Objects
objects_step w o p None = o
objects_step w o p (Some i) =
    if w.away p then o
    else if is_protocol (node_after (w.memory p).node i) then record { memory = at_one p (object_did (o.memory p) (node_after (w.memory p).node i)) o.memory; disk = at_one p (object_did (o.memory p) (node_after (w.memory p).node i)) o.disk }
    else record o { memory = at_one p (object_did (o.memory p) (node_after (w.memory p).node i)) o.memory }

-- a kill loses the object; who comes back has what its disk has of it, and sends again without it
abbrev pub objects_after : KilledNet → Objects → KillEvent → Objects
objects_after w o (Does x) = objects_step w o (stepper x) (input_at (w.memory (stepper x)).node x [])
objects_after w o (Brought p q able life number) = objects_step w o p (front_input q able (brought w p q life number))
objects_after w o (Writes p) = record o { disk = at_one p (o.memory p) o.disk }
objects_after w o (Killed p) = record o { memory = at_one p (lost (o.disk p)) o.memory }
objects_after w o (Back p sends) = o

abbrev pub objects_run : KilledNet → Objects → List KillEvent → Objects
objects_run w o [] = o
objects_run w o (e ∷ es) = objects_run (happens w e) (objects_after w o e) es

-- who has lost its object says at each input that it can't be saved
abbrev pub IsTold : Objects → ℕ → Option Input → Type 0
IsTold o p None = Unit {0}
IsTold o p (Some i) = (o.memory p).live ≡ None → where_able false i ≡ i

abbrev pub SaysIt : KilledNet → Objects → KillEvent → Type 0
SaysIt w o (Does x) = IsTold o (stepper x) (input_at (w.memory (stepper x)).node x [])
SaysIt w o (Brought p q able life number) = IsTold o p (front_input q able (brought w p q life number))
SaysIt w o _ = Unit {0}

abbrev pub AllSayIt : KilledNet → Objects → List KillEvent → Type 0
AllSayIt w o [] = Unit {0}
AllSayIt w o (e ∷ es) = SaysIt w o e × AllSayIt (happens w e) (objects_after w o e) es

abbrev pub new_object : Object
new_object = record { live = Some []; tentative = Some []; permanent = Some [] }

abbrev pub opening_objects : Objects
opening_objects = record { memory = λ p. new_object; disk = λ p. new_object }

-- what is due to an object by its node's calls: its live history or, where it is lost, none; and what is kept
pub record IsDue (o : Object) (h : Histories) : Type 0 where
  pub live : (o.live ≡ None) ⊎ (o.live ≡ Some h.live)
  pub tentative : o.tentative ≡ Some h.tentative
  pub permanent : o.permanent ≡ Some h.permanent
