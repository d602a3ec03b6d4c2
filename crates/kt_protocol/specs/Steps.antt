-- What a process does at each step, and runs of steps.
use Rattle.std.specs.Prelude.{ℕ, ℤ, ◌+◌, ◌==◌, ◌&&◌, not, nat_lt, if◌then◌else◌, Bool, true, false, List, [], ◌∷◌}
use Rattle.kt_base.specs.declared.words.Cause.TheVariants.{Busy, Down}
use Rattle.kt_base.specs.declared.words.Verb.{Verb}
use Rattle.kt_base.specs.declared.words.Verb.TheVariants as verb
use Rattle.kt_protocol.specs.Parcels.{Parcel, App, Ask, Reply, Decide, with_rest}
use Rattle.kt_protocol.specs.States.{ProtocolStep, Send, Begin, Fail, Take, State, is_ready}
use Rattle.kt_protocol.specs.Messages.{after_sending, after_arrival, after_holding, after_failing, after_refusal}
use Rattle.kt_protocol.specs.Joining.{after_began, must_take, must_roll, after_joining_checkpoint, after_joining_rollback}
use Rattle.kt_protocol.specs.Replies.{after_noting, after_replying, unable_cause, after_unwilling, after_reply, after_answering}
use Rattle.kt_protocol.specs.Deciding.{after_deciding, after_closing, after_decision, none_of}

-- once a member awaits nobody it answers its parent; the initiator decides and closes
abbrev pub after_settling : State → ℕ → ℕ → State
after_settling s p k =
    if none_of s.processes (s.awaits k p) then
    (if p == s.initiator k then after_closing (after_deciding s p k) p k (s.all_willing k p) else after_answering s p k)
    else s

-- p, in no instance, takes q's ask to join checkpoint k
abbrev pub after_checkpoint_ask : State → ℕ → ℕ → Bool → ℕ → ℕ → List Parcel → State
after_checkpoint_ask s p q able k label rest =
    if not (must_take s p q label) then after_replying s p q k true rest
    else if not (able && s.up p) then after_unwilling s p q k (unable_cause (s.up p)) rest
    else after_settling (after_joining_checkpoint s (with_rest s.channel q p rest) p k false q label) p k

-- p, in no instance, takes q's ask to join rollback k
abbrev pub after_rollback_ask : State → ℕ → ℕ → ℕ → ℕ → List Parcel → State
after_rollback_ask s p q k label rest =
    if must_roll s p q label then
    after_settling (after_joining_rollback (after_noting s p q k label) (with_rest s.channel q p rest) p k false q (s.last_received p q)) p k
    else after_replying s p q k true rest

-- p takes q's ask to join k: a member is willing and notes the label, who is in another instance is unwilling
abbrev pub after_ask : State → ℕ → ℕ → Bool → ℕ → ℕ → List Parcel → State
after_ask s p q able k label rest =
    if s.so_far.open_in p == k then after_replying (after_noting s p q k label) p q k true rest
    else if not (s.so_far.open_in p == 0) then after_unwilling s p q k (Busy (s.so_far.open_in p)) rest
    else if s.so_far.is_rollback k then after_rollback_ask s p q k label rest
    else after_checkpoint_ask s p q able k label rest

-- p takes what is in front in the channel from q
abbrev pub after_front : State → ℕ → ℕ → Bool → List Parcel → State
after_front s p q able [] = s
after_front s p q able (App m ∷ rest) = if is_ready s p then after_holding s p q m rest else after_arrival s (with_rest s.channel q p rest) s.held p q m
after_front s p q able (Ask k label ∷ rest) = after_ask s p q able k label rest
after_front s p q able (Reply k w ∷ rest) = after_settling (after_reply s p q k w rest) p k
after_front s p q able (Decide k c ∷ rest) = if s.so_far.open_in p == k then after_closing (after_decision s p q rest) p k c else after_decision s p q rest

-- p takes its next parcel of q: in no rollback the first message that it holds comes before the channel
abbrev pub after_take : State → ℕ → ℕ → Bool → List Parcel → State
after_take s p q able [] = after_front s p q able (s.channel q p)
after_take s p q able (App m ∷ rest) = if is_ready s p then after_front s p q able (s.channel q p) else after_arrival s s.channel (with_rest s.held q p rest) p q m
after_take s p q able (Ask k label ∷ rest) = s
after_take s p q able (Reply k w ∷ rest) = s
after_take s p q able (Decide k c ∷ rest) = s

-- p begins an instance and is its first member
abbrev pub after_beginning : State → ℕ → Bool → State
after_beginning s p false = after_settling (after_joining_checkpoint (after_began s p false) s.channel p (s.instances + 1) true p 0) p (s.instances + 1)
after_beginning s p true = after_settling (after_joining_rollback (after_began s p true) s.channel p (s.instances + 1) true p 0) p (s.instances + 1)

-- a command to send, of a process in no instance
abbrev pub after_send_command : State → ℕ → ℕ → ℤ → State
after_send_command s p q body = if s.up p then after_sending s p q body else after_refusal s p verb.Send Down

-- a command to begin, of a process in no instance
abbrev pub after_begin_command : State → ℕ → Bool → Bool → State
after_begin_command s p true able = after_beginning s p true
after_begin_command s p false able = if able && s.up p then after_beginning s p false else after_refusal s p verb.Checkpoint (unable_cause (s.up p))

abbrev pub verb_for : Bool → Verb
verb_for true = verb.Rollback
verb_for false = verb.Checkpoint

-- one step: a send waits while its process is in an instance, and any other command is refused there
abbrev pub after_step : State → ProtocolStep → State
after_step s (Send p q body) =
    if (nat_lt p s.processes && nat_lt q s.processes) && (s.so_far.open_in p == 0 && not (q == p)) then after_send_command s p q body else s
after_step s (Begin p roll able) = if s.so_far.open_in p == 0 then after_begin_command s p roll able else after_refusal s p (verb_for roll) (Busy (s.so_far.open_in p))
after_step s (Fail p) = if s.up p then after_failing s p else after_refusal s p verb.Fail Down
after_step s (Take p q able) = after_take s p q able (s.held q p)

-- some steps, one after another
abbrev pub run : State → List ProtocolStep → State
run s [] = s
run s (x ∷ xs) = run (after_step s x) xs
