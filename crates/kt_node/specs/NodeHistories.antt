-- Which messages are in a node's live history, and which of them no rollback undoes.
use Rattle.std.specs.Prelude.{◌≡◌, ◌&&◌, not, is_some, ℕ, Bool, true, List, [], ◌∷◌, ◌++◌, fold}
use Rattle.std.specs.List.{flat_map}
use Rattle.kt_tables.specs.Calls.{Call, sent, received, on_tentative, on_commit, on_abort, on_rollback}
use Rattle.kt_machine.specs.Values.{Act, Apply, Keep, Promote, Discard, Restore, Drop}
use Rattle.kt_spacetime.specs.declared.named_rows.NamedEvent.{NamedEvent}
use Rattle.kt_manager.specs.Nodes.{NodeState}
use Rattle.kt_spacetime.specs.declared.named_rows.NamedEvent.TheVariants.{Sent, Received, Dropped, Began, Took, Ready, Unwilling, Decided, Closed, Failed, Refused}

-- the messages of a node's live history, those of them that its last tentative checkpoint has, and its permanent one
pub record Histories : Type 0 where
  pub live : List Call
  pub tentative : List Call
  pub permanent : List Call

abbrev pub no_history : Histories
no_history = record { live = []; tentative = []; permanent = [] }

-- after one more call: a rollback goes back to the permanent checkpoint
abbrev pub histories_after : Histories → Call → Histories
histories_after h (sent q l) = record h { live = h.live ++ sent q l ∷ [] }
histories_after h (received q l) = record h { live = h.live ++ received q l ∷ [] }
histories_after h on_tentative = record h { tentative = h.live }
histories_after h on_commit = record h { permanent = h.tentative }
histories_after h on_abort = h
histories_after h on_rollback = record h { live = h.permanent }

abbrev pub histories : List Call → Histories
histories calls = fold histories_after no_history calls

-- the labels of the messages that are sent, to whomever
abbrev pub sent_labels : List Call → List ℕ
sent_labels [] = []
sent_labels (sent q l ∷ calls) = l ∷ sent_labels calls
sent_labels (received q l ∷ calls) = sent_labels calls
sent_labels (on_tentative ∷ calls) = sent_labels calls
sent_labels (on_commit ∷ calls) = sent_labels calls
sent_labels (on_abort ∷ calls) = sent_labels calls
sent_labels (on_rollback ∷ calls) = sent_labels calls

-- the call that a row tells, and an act
abbrev pub call_of_row : NamedEvent → List Call
call_of_row (Sent to body label) = sent to label ∷ []
call_of_row (Received from label) = received from label ∷ []
call_of_row (Dropped from label) = []
call_of_row (Began inst kind) = []
call_of_row (Took inst) = []
call_of_row (Ready inst) = []
call_of_row (Unwilling inst cause) = []
call_of_row (Decided inst commit) = []
call_of_row (Closed inst) = []
call_of_row Failed = []
call_of_row (Refused verb cause) = []

abbrev pub call_of_act : Act → List Call
call_of_act (Apply from body) = []
call_of_act Keep = on_tentative ∷ []
call_of_act Promote = on_commit ∷ []
call_of_act Discard = on_abort ∷ []
call_of_act Restore = on_rollback ∷ []
call_of_act Drop = []

-- the calls that the rows and the acts of a step tell
abbrev pub calls_told : List NamedEvent → List Act → List Call
calls_told rows acts = flat_map call_of_row rows ++ flat_map call_of_act acts

-- a list goes on from another one
abbrev pub GoesOn : List Call → List Call → Type 0
GoesOn front whole = (rest : List Call) × (whole ≡ front ++ rest)

-- in a checkpoint
abbrev pub is_in_checkpoint : NodeState → Bool
is_in_checkpoint y = is_some y.inst && not y.part.is_rollback

-- a node's live history goes on from its permanent checkpoint; in a checkpoint it goes on from the tentative one, and this
-- from the permanent one
pub record HasCheckpoints (y : NodeState) : Type 0 where
  pub permanent : GoesOn (histories y.calls).permanent (histories y.calls).live
  pub tentative : is_in_checkpoint y ≡ true → GoesOn (histories y.calls).tentative (histories y.calls).live
  pub between : is_in_checkpoint y ≡ true → GoesOn (histories y.calls).permanent (histories y.calls).tentative
