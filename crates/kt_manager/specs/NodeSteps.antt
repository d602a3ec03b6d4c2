-- What a manager does that is told to begin an instance, or asked to join one.
use Rattle.std.specs.Prelude.{ℕ, ◌==◌, ◌&&◌, not, if◌then◌else◌, Bool, true, false, Option, Some, None}
use Rattle.kt_base.specs.declared.words.Verb.TheVariants as verb
use Rattle.kt_meaning.specs.Past.{at_one}
use Rattle.kt_protocol.specs.Steps.{verb_for}
use Rattle.kt_machine.specs.CallTests.{must_take, must_roll}
use Rattle.kt_machine.specs.SeenJoining.{no_note}
use Rattle.kt_machine.specs.SeenReplies.{part_after_reply}
use Rattle.kt_spacetime.specs.declared.names.InstName.{InstName}
use Rattle.kt_spacetime.specs.declared.named_rows.NamedCause.TheVariants.{Busy}
use Rattle.kt_manager.specs.Nodes.{NodeState, Doing, nothing}
use Rattle.kt_manager.specs.NodeMessages.{refusing, unable}
use Rattle.kt_manager.specs.NodeJoining.{beginning, joining_checkpoint, joining_rollback, replying, unwilling, noting}
use Rattle.kt_manager.specs.NodeClosing.{settling}

-- whether a name is that of another instance too
abbrev pub is_one : InstName → InstName → Bool
is_one a b = (a.initiator == b.initiator) && (a.count == b.count)

-- whether it is in instance k
abbrev pub is_in : Option InstName → InstName → Bool
is_in None k = false
is_in (Some name) k = is_one name k

-- it begins instance k and is its first member
abbrev pub starting : InstName → NodeState → Bool → Doing
starting k y false = settling k (joining_checkpoint k None (beginning k y false))
starting k y true = settling k (joining_rollback k None no_note (beginning k y true))

-- a command to begin instance k: refused in an instance, and a checkpoint where the object can't be saved
abbrev pub told_to_begin : InstName → Option InstName → NodeState → Bool → Bool → Doing
told_to_begin k (Some name) y roll able = refusing y (verb_for roll) (Busy name)
told_to_begin k None y true able = starting k y true
told_to_begin k None y false able = if able && y.up then starting k y false else refusing y verb.Checkpoint (unable y.up)

-- q's ask to join k, a rollback or not: who is in another instance is unwilling, a member is willing and notes the label
abbrev pub asked_inside : InstName → NodeState → ℕ → InstName → Bool → ℕ → Doing
asked_inside name y q k roll label = if is_one name k then replying (noting y roll q label) q k true else unwilling y q k (Busy name)

-- who is in none joins a rollback where it received a later message of q, and a checkpoint where it sent one so early
abbrev pub asked_outside : NodeState → ℕ → Bool → InstName → Bool → ℕ → Doing
asked_outside y q able k true label =
    if must_roll y.calls q label then settling k (joining_rollback k (Some q) (at_one q (Some label) no_note) (nothing y)) else replying y q k true
asked_outside y q able k false label =
    if not (must_take y.calls q label) then replying y q k true
    else if not (able && y.up) then unwilling y q k (unable y.up)
    else settling k (joining_checkpoint k (Some q) (nothing y))

abbrev pub asked : Option InstName → NodeState → ℕ → Bool → InstName → Bool → ℕ → Doing
asked (Some name) y q able k roll label = asked_inside name y q k roll label
asked None y q able k roll label = asked_outside y q able k roll label

-- q has replied
abbrev pub counting : NodeState → ℕ → Bool → NodeState
counting y q willing = record y { part = part_after_reply y.part willing; answered = at_one q true y.answered }
