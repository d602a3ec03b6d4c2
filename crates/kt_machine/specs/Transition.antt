-- What each step does to what is seen, and runs of steps. Each rule is that of kt_protocol's late machine, by labels.
use Rattle.std.specs.Prelude.{ℕ, ◌+◌, ◌==◌, ◌&&◌, not, nat_lt, if◌then◌else◌, Bool, true, false, Some, None, List, [], ◌∷◌}
use Rattle.kt_base.specs.declared.words.Cause.TheVariants.{Busy, Down}
use Rattle.kt_base.specs.declared.words.Verb.TheVariants as verb
use Rattle.kt_fifo.specs.declared.parcels.Parcel.{Parcel}
use Rattle.kt_fifo.specs.declared.parcels.Parcel.TheVariants.{App, Ask, Reply, Decide}
use Rattle.kt_meaning.specs.Past.{at_one, is_rollback_kind}
use Rattle.kt_protocol.specs.Replies.{unable_cause}
use Rattle.kt_protocol.specs.States.{ProtocolStep, Send, Begin, Fail, Take}
use Rattle.kt_protocol.specs.Steps.{verb_for}
use Rattle.kt_machine.specs.Seen.{no_part, Seen}
use Rattle.kt_machine.specs.ListChanges.{with_rest}
use Rattle.kt_machine.specs.CallTests.{must_take, must_roll}
use Rattle.kt_machine.specs.SeenMessages.{seen_sending, seen_arrival, seen_holding, seen_without_front, seen_failing, seen_refusal}
use Rattle.kt_machine.specs.SeenJoining.{no_note, seen_began, seen_joining_checkpoint, seen_joining_rollback, seen_member_ask}
use Rattle.kt_machine.specs.SeenReplies.{seen_replying, seen_unwilling, seen_reply}
use Rattle.kt_machine.specs.SeenClosing.{seen_closing, seen_settling}

-- p, in no instance, takes q's ask to join rollback k
abbrev pub seen_rollback_ask : Seen → ℕ → ℕ → ℕ → ℕ → List Parcel → Seen
seen_rollback_ask v p q k label rest =
    if must_roll (v.states p).calls q label then
    seen_settling (seen_joining_rollback v (with_rest v.channel q p rest) p k (Some q) (at_one q (Some label) no_note)) p k
    else seen_replying v p q k true rest

-- p, in no instance, takes q's ask to join checkpoint k
abbrev pub seen_checkpoint_ask : Seen → ℕ → ℕ → Bool → ℕ → ℕ → List Parcel → Seen
seen_checkpoint_ask v p q able k label rest =
    if not (must_take (v.states p).calls q label) then seen_replying v p q k true rest
    else if not (able && (v.states p).up) then seen_unwilling v p q k (unable_cause (v.states p).up) rest
    else seen_settling (seen_joining_checkpoint v (with_rest v.channel q p rest) p k (Some q)) p k

-- p takes q's ask to join k, a rollback or not: a member is willing and notes the label, who is in another instance is
-- unwilling
abbrev pub seen_ask : Seen → ℕ → ℕ → Bool → ℕ → Bool → ℕ → List Parcel → Seen
seen_ask v p q able k roll label rest =
    if (v.states p).inst == k then seen_replying (seen_member_ask v roll p q label) p q k true rest
    else if not ((v.states p).inst == 0) then seen_unwilling v p q k (Busy (v.states p).inst) rest
    else if roll then seen_rollback_ask v p q k label rest
    else seen_checkpoint_ask v p q able k label rest

-- p is in a rollback
abbrev pub is_seen_ready : Seen → ℕ → Bool
is_seen_ready v p = not ((v.states p).inst == 0) && (v.states p).part.is_rollback

-- p takes what is in front in the channel from q
abbrev pub seen_front : Seen → ℕ → ℕ → Bool → List Parcel → Seen
seen_front v p q able [] = v
seen_front v p q able (App label m body ∷ rest) =
    if is_seen_ready v p then seen_holding v p q (App label m body) rest else seen_arrival v (with_rest v.channel q p rest) v.held p q label m body
seen_front v p q able (Ask k kind label ∷ rest) = seen_ask v p q able k (is_rollback_kind (Some kind)) label rest
seen_front v p q able (Reply k w ∷ rest) = if (v.states p).part.awaited == 0 then seen_without_front v p q rest else seen_settling (seen_reply v p q w rest) p k
seen_front v p q able (Decide k c ∷ rest) = if (v.states p).inst == k then seen_closing (seen_without_front v p q rest) p k c else seen_without_front v p q rest

-- p, in no rollback, takes its next parcel of q: the first message that it holds comes before the channel
abbrev pub seen_take : Seen → ℕ → ℕ → Bool → List Parcel → Seen
seen_take v p q able [] = seen_front v p q able (v.channel q p)
seen_take v p q able (App label m body ∷ rest) = seen_arrival v v.channel (with_rest v.held q p rest) p q label m body
seen_take v p q able (Ask k kind label ∷ rest) = v
seen_take v p q able (Reply k w ∷ rest) = v
seen_take v p q able (Decide k c ∷ rest) = v

-- p begins an instance and is its first member
abbrev pub seen_beginning : Seen → ℕ → Bool → Seen
seen_beginning v p false = seen_settling (seen_joining_checkpoint (seen_began v p false) v.channel p (v.begun + 1) None) p (v.begun + 1)
seen_beginning v p true = seen_settling (seen_joining_rollback (seen_began v p true) v.channel p (v.begun + 1) None no_note) p (v.begun + 1)

-- a command to begin, of a process in no instance
abbrev pub seen_begin_command : Seen → ℕ → Bool → Bool → Seen
seen_begin_command v p true able = seen_beginning v p true
seen_begin_command v p false able = if able && (v.states p).up then seen_beginning v p false else seen_refusal v p verb.Checkpoint (unable_cause (v.states p).up)

-- one step: a send waits while its process is in an instance, and any other command is refused there; who is in a rollback
-- takes from the channel
abbrev pub transition : Seen → ProtocolStep → Seen
transition v (Send p q body) =
    if (nat_lt p v.processes && nat_lt q v.processes) && ((v.states p).inst == 0 && not (q == p)) then
    (if (v.states p).up then seen_sending v p q body else seen_refusal v p verb.Send Down)
    else v
transition v (Begin p roll able) = if (v.states p).inst == 0 then seen_begin_command v p roll able else seen_refusal v p (verb_for roll) (Busy (v.states p).inst)
transition v (Fail p) = if (v.states p).up then seen_failing v p else seen_refusal v p verb.Fail Down
transition v (Take p q able) = if is_seen_ready v p then seen_front v p q able (v.channel q p) else seen_take v p q able (v.held q p)

-- some steps, one after another
abbrev pub run_seen : Seen → List ProtocolStep → Seen
run_seen v [] = v
run_seen v (x ∷ xs) = run_seen (transition v x) xs

-- nothing has happened
abbrev pub opening_seen : ℕ → ℕ → Seen
opening_seen n first = record {
  processes = n;
  states = λ p. record { calls = []; used = first; inst = 0; part = no_part; up = true };
  channel = λ p q. [];
  held = λ p q. [];
  kept = λ p q. [];
  log = [];
  begun = 0;
}
