-- The acts of the process that steps, by the state before the step, where a commit takes effect late.
use Rattle.std.specs.Prelude.{ℕ, ◌+◌, ◌==◌, ◌&&◌, not, if◌then◌else◌, Bool, true, false, List, [], ◌∷◌, ◌++◌}
use Rattle.kt_protocol.specs.Parcels.{Parcel, App, Ask, Reply, Decide, with_rest}
use Rattle.kt_protocol.specs.States.{ProtocolStep, Send, Begin, Fail, Take, State, is_ready}
use Rattle.kt_protocol.specs.Joining.{after_began, after_joining_checkpoint, after_joining_rollback, must_take, must_roll}
use Rattle.kt_protocol.specs.Replies.{after_noting, after_reply}
use Rattle.kt_protocol.specs.Deciding.{none_of}
use Rattle.kt_protocol.specs.LateSteps.{late_step}
use Rattle.kt_machine.specs.Done.{done}
use Rattle.kt_machine.specs.Values.{Act, Apply, Keep, Drop, closing}

-- p gets m of q, and applies it where it is up
abbrev pub acts_arriving : State → ℕ → ℕ → ℕ → List Act
acts_arriving s p q m = if s.up p then Apply q ((done s.log).body m) ∷ [] else []

-- p, where it awaits nobody and began the instance, decides and closes it
abbrev pub acts_settling : State → ℕ → ℕ → List Act
acts_settling s p k = if none_of s.processes (s.awaits k p) then (if p == s.initiator k then closing (s.so_far.is_rollback k) (s.all_willing k p) else []) else []

-- p takes q's ask to join k: who joins a checkpoint keeps its object's state
abbrev pub acts_asked : State → ℕ → ℕ → Bool → ℕ → ℕ → List Parcel → List Act
acts_asked s p q able k l rest =
    if s.so_far.open_in p == k then []
    else if not (s.so_far.open_in p == 0) then []
    else if s.so_far.is_rollback k then
    (if must_roll s p q l then acts_settling (after_joining_rollback (after_noting s p q k l) (with_rest s.channel q p rest) p k false q (s.last_received p q)) p k else [])
    else if not (must_take s p q l) then []
    else if not (able && s.up p) then []
    else Keep ∷ acts_settling (after_joining_checkpoint s (with_rest s.channel q p rest) p k false q l) p k

-- p takes the channel's front
abbrev pub acts_taking : State → ℕ → ℕ → Bool → List Parcel → List Act
acts_taking s p q able [] = []
acts_taking s p q able (App m ∷ rest) = if is_ready s p then [] else acts_arriving s p q m
acts_taking s p q able (Ask k l ∷ rest) = acts_asked s p q able k l rest
acts_taking s p q able (Reply k w ∷ rest) = acts_settling (after_reply s p q k w rest) p k
acts_taking s p q able (Decide k c ∷ rest) = if s.so_far.open_in p == k then closing (s.so_far.is_rollback k) c else []

-- p takes what it holds first
abbrev pub acts_taking_held : State → ℕ → ℕ → Bool → List Parcel → List Act
acts_taking_held s p q able [] = acts_taking s p q able (s.channel q p)
acts_taking_held s p q able (App m ∷ rest) = acts_arriving s p q m
acts_taking_held s p q able (Ask k l ∷ rest) = []
acts_taking_held s p q able (Reply k w ∷ rest) = []
acts_taking_held s p q able (Decide k c ∷ rest) = []

-- p begins an instance: a checkpoint keeps its object's state
abbrev pub acts_beginning : State → ℕ → Bool → List Act
acts_beginning s p false = Keep ∷ acts_settling (after_joining_checkpoint (after_began s p false) s.channel p (s.instances + 1) true p 0) p (s.instances + 1)
acts_beginning s p true = acts_settling (after_joining_rollback (after_began s p true) s.channel p (s.instances + 1) true p 0) p (s.instances + 1)

-- a command to begin, of a process in no instance: a checkpoint needs an object that can be saved
abbrev pub acts_starting : State → ℕ → Bool → Bool → List Act
acts_starting s p true able = acts_beginning s p true
acts_starting s p false able = if able && s.up p then acts_beginning s p false else []

-- the acts of the process that steps, in order
abbrev pub acts : State → ProtocolStep → List Act
acts s (Send p q body) = []
acts s (Begin p roll able) = if s.so_far.open_in p == 0 then acts_starting s p roll able else []
acts s (Fail p) = if s.up p then Drop ∷ [] else []
acts s (Take p q able) = if is_ready s p then acts_taking s p q able (s.channel q p) else acts_taking_held s p q able (s.held q p)

-- the process that steps
abbrev pub stepper : ProtocolStep → ℕ
stepper (Send p q body) = p
stepper (Begin p roll able) = p
stepper (Fail p) = p
stepper (Take p q able) = p

-- the acts of a process at a step: none where another one steps
abbrev pub acts_by : ℕ → State → ProtocolStep → List Act
acts_by p s x = if p == stepper x then acts s x else []

-- the acts of a process at some steps, in order
abbrev pub acts_through : ℕ → State → List ProtocolStep → List Act
acts_through p s [] = []
acts_through p s (x ∷ xs) = acts_by p s x ++ acts_through p (late_step s x) xs

-- how often a process is asked to fail
abbrev pub failures : ℕ → List ProtocolStep → ℕ
failures p [] = 0
failures p (Fail q ∷ xs) = (if p == q then 1 else 0) + failures p xs
failures p (Send q to body ∷ xs) = failures p xs
failures p (Begin q roll able ∷ xs) = failures p xs
failures p (Take q from able ∷ xs) = failures p xs
