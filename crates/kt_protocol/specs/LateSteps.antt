-- The steps and runs in which a commit takes effect late. But for deciding and closing, each rule is that of the protocol's
-- machine.
use Rattle.std.specs.Prelude.{ℕ, ◌+◌, ◌==◌, ◌&&◌, not, nat_lt, if◌then◌else◌, Bool, true, false, List, [], ◌∷◌}
use Rattle.kt_base.specs.declared.words.Cause.TheVariants.{Busy, Down}
use Rattle.kt_base.specs.declared.words.Verb.TheVariants as verb
use Rattle.kt_protocol.specs.Parcels.{Parcel, App, Ask, Reply, Decide, with_rest}
use Rattle.kt_protocol.specs.States.{ProtocolStep, Send, Begin, Fail, Take, State, is_ready}
use Rattle.kt_protocol.specs.Messages.{after_failing, after_refusal, after_holding, after_arrival}
use Rattle.kt_protocol.specs.Joining.{after_began, after_joining_checkpoint, after_joining_rollback, must_take, must_roll}
use Rattle.kt_protocol.specs.Replies.{after_noting, after_replying, after_unwilling, after_reply, after_answering, unable_cause}
use Rattle.kt_protocol.specs.Deciding.{after_decision, none_of}
use Rattle.kt_protocol.specs.Steps.{after_send_command, verb_for}
use Rattle.kt_protocol.specs.LateClosing.{late_deciding, late_closing}

-- a member that awaits nobody answers; the initiator decides and closes
abbrev pub late_settling : State → ℕ → ℕ → State
late_settling s p k =
    if none_of s.processes (s.awaits k p) then (if p == s.initiator k then late_closing (late_deciding s p k) p k (s.all_willing k p) else after_answering s p k) else s

-- p, in no instance, takes q's ask to join checkpoint k
abbrev pub late_checkpoint_ask : State → ℕ → ℕ → Bool → ℕ → ℕ → List Parcel → State
late_checkpoint_ask s p q able k label rest =
    if not (must_take s p q label) then after_replying s p q k true rest
    else if not (able && s.up p) then after_unwilling s p q k (unable_cause (s.up p)) rest
    else late_settling (after_joining_checkpoint s (with_rest s.channel q p rest) p k false q label) p k

-- p, in no instance, takes q's ask to join rollback k
abbrev pub late_rollback_ask : State → ℕ → ℕ → ℕ → ℕ → List Parcel → State
late_rollback_ask s p q k label rest =
    if must_roll s p q label then
    late_settling (after_joining_rollback (after_noting s p q k label) (with_rest s.channel q p rest) p k false q (s.last_received p q)) p k
    else after_replying s p q k true rest

-- p takes q's ask to join k: a member is willing and notes the label, who is in another instance is unwilling
abbrev pub late_ask : State → ℕ → ℕ → Bool → ℕ → ℕ → List Parcel → State
late_ask s p q able k label rest =
    if s.so_far.open_in p == k then after_replying (after_noting s p q k label) p q k true rest
    else if not (s.so_far.open_in p == 0) then after_unwilling s p q k (Busy (s.so_far.open_in p)) rest
    else if s.so_far.is_rollback k then late_rollback_ask s p q k label rest
    else late_checkpoint_ask s p q able k label rest

-- p takes what is in front in the channel from q
abbrev pub late_front : State → ℕ → ℕ → Bool → List Parcel → State
late_front s p q able [] = s
late_front s p q able (App m ∷ rest) = if is_ready s p then after_holding s p q m rest else after_arrival s (with_rest s.channel q p rest) s.held p q m
late_front s p q able (Ask k label ∷ rest) = late_ask s p q able k label rest
late_front s p q able (Reply k w ∷ rest) = late_settling (after_reply s p q k w rest) p k
late_front s p q able (Decide k c ∷ rest) = if s.so_far.open_in p == k then late_closing (after_decision s p q rest) p k c else after_decision s p q rest

-- p, in no rollback, takes its next parcel of q: the first message that it holds comes before the channel
abbrev pub late_take : State → ℕ → ℕ → Bool → List Parcel → State
late_take s p q able [] = late_front s p q able (s.channel q p)
late_take s p q able (App m ∷ rest) = after_arrival s s.channel (with_rest s.held q p rest) p q m
late_take s p q able (Ask k label ∷ rest) = s
late_take s p q able (Reply k w ∷ rest) = s
late_take s p q able (Decide k c ∷ rest) = s

-- p begins an instance and is its first member
abbrev pub late_beginning : State → ℕ → Bool → State
late_beginning s p false = late_settling (after_joining_checkpoint (after_began s p false) s.channel p (s.instances + 1) true p 0) p (s.instances + 1)
late_beginning s p true = late_settling (after_joining_rollback (after_began s p true) s.channel p (s.instances + 1) true p 0) p (s.instances + 1)

-- a command to begin, of a process in no instance
abbrev pub late_begin_command : State → ℕ → Bool → Bool → State
late_begin_command s p true able = late_beginning s p true
late_begin_command s p false able = if able && s.up p then late_beginning s p false else after_refusal s p verb.Checkpoint (unable_cause (s.up p))

-- one step: who is in a rollback takes from the channel, and does not look at what it holds
abbrev pub late_step : State → ProtocolStep → State
late_step s (Send p q body) =
    if (nat_lt p s.processes && nat_lt q s.processes) && (s.so_far.open_in p == 0 && not (q == p)) then after_send_command s p q body else s
late_step s (Begin p roll able) = if s.so_far.open_in p == 0 then late_begin_command s p roll able else after_refusal s p (verb_for roll) (Busy (s.so_far.open_in p))
late_step s (Fail p) = if s.up p then after_failing s p else after_refusal s p verb.Fail Down
late_step s (Take p q able) = if is_ready s p then late_front s p q able (s.channel q p) else late_take s p q able (s.held q p)

-- some steps, one after another
abbrev pub late_run : State → List ProtocolStep → State
late_run s [] = s
late_run s (x ∷ xs) = late_run (late_step s x) xs
