-- How many processes there are stays.
use Rattle.std.proofs.Common.{◌≡◌, ℕ, ◌+◌, Bool, true, false, not, List, [], ◌∷◌, refl, Option, Some, None, ap, ◌∙◌}
use Rattle.std.specs.Prelude.{◌==◌, ◌&&◌, nat_lt, if◌then◌else◌}
use Rattle.kt_fifo.specs.declared.parcels.Parcel.{Parcel}
use Rattle.kt_fifo.specs.declared.parcels.Parcel.TheVariants.{App, Ask, Reply, Decide}
use Rattle.kt_meaning.specs.Past.{is_rollback_kind}
use Rattle.kt_protocol.specs.States.{ProtocolStep, Send, Begin, Fail, Take, opening}
use Rattle.kt_protocol.specs.LateSteps.{late_run}
use Rattle.kt_machine.specs.Seen.{Seen}
use Rattle.kt_machine.specs.ListChanges as changes
use Rattle.kt_machine.specs.CallTests as tests
use Rattle.kt_machine.specs.SeenMessages.{seen_without_front}
use Rattle.kt_machine.specs.SeenJoining.{seen_joining_rollback, seen_joining_checkpoint, seen_began, no_note}
use Rattle.kt_machine.specs.SeenReplies.{seen_reply}
use Rattle.kt_machine.specs.SeenClosing.{seen_closing_rollback, seen_closing, seen_ending, seen_deciding, seen_settling}
use Rattle.kt_machine.specs.Transition.{seen_ask, seen_front, is_seen_ready, seen_take, seen_beginning, seen_begin_command, transition, run_seen, opening_seen}
use Rattle.kt_machine.proofs.Runs.{seen_after_run}

at_if : (n : ℕ) (b : Bool) (x y : Seen) → x.processes ≡ n → y.processes ≡ n → (if b then x else y).processes ≡ n
at_if n true x y e f = e
at_if n false x y e f = f

restores_processes : (v : Seen) (p k : ℕ) (w : Bool) → (seen_closing_rollback v p k w).processes ≡ v.processes
restores_processes v p k true = refl
restores_processes v p k false = refl

closes_processes : (v : Seen) (p k : ℕ) (w : Bool) → (seen_closing v p k w).processes ≡ v.processes
closes_processes v p k w = at_if v.processes (v.states p).part.is_rollback _ _ (restores_processes v p k w) refl

ends_processes : (v : Seen) (p k : ℕ) (o : Option ℕ) → (seen_ending v p k o).processes ≡ v.processes
ends_processes v p k (Some to) = refl
ends_processes v p k None = closes_processes (seen_deciding v p k (v.states p).part.willing) p k (v.states p).part.willing

settles_processes : (v : Seen) (p k : ℕ) → (seen_settling v p k).processes ≡ v.processes
settles_processes v p k = at_if v.processes ((v.states p).part.awaited == 0) _ _ (ends_processes v p k (v.states p).part.parent) refl

asked_processes : (v : Seen) (p q : ℕ) (able : Bool) (k : ℕ) (roll : Bool) (l : ℕ) (rest : List Parcel) → (seen_ask v p q able k roll l rest).processes ≡ v.processes
asked_processes v p q able k roll l rest = at_if v.processes ((v.states p).inst == k) _ _ refl
    (at_if v.processes (not ((v.states p).inst == 0)) _ _ refl
    (at_if v.processes roll _ _ (at_if v.processes (tests.must_roll (v.states p).calls q l) _ _ (settles_processes (seen_joining_rollback v (changes.with_rest v.channel q p rest) p k (Some q) _) p k) refl)
    (at_if v.processes (not (tests.must_take (v.states p).calls q l)) _ _ refl
    (at_if v.processes (not (able && (v.states p).up)) _ _ refl (settles_processes (seen_joining_checkpoint v (changes.with_rest v.channel q p rest) p k (Some q)) p k)))))

fronts_processes : (v : Seen) (p q : ℕ) (able : Bool) (l : List Parcel) → (seen_front v p q able l).processes ≡ v.processes
fronts_processes v p q able [] = refl
fronts_processes v p q able (App l m b ∷ rest) = at_if v.processes (is_seen_ready v p) _ _ refl (at_if v.processes (v.states p).up _ _ refl refl)
fronts_processes v p q able (Ask k kind l ∷ rest) = asked_processes v p q able k (is_rollback_kind (Some kind)) l rest
fronts_processes v p q able (Reply k w ∷ rest) = at_if v.processes ((v.states p).part.awaited == 0) _ _ refl (settles_processes (seen_reply v p q w rest) p k)
fronts_processes v p q able (Decide k c ∷ rest) = at_if v.processes ((v.states p).inst == k) _ _ (closes_processes (seen_without_front v p q rest) p k c) refl

takes_processes : (v : Seen) (p q : ℕ) (able : Bool) (l : List Parcel) → (seen_take v p q able l).processes ≡ v.processes
takes_processes v p q able [] = fronts_processes v p q able (v.channel q p)
takes_processes v p q able (App l m b ∷ rest) = at_if v.processes (v.states p).up _ _ refl refl
takes_processes v p q able (Ask k kind l ∷ rest) = refl
takes_processes v p q able (Reply k w ∷ rest) = refl
takes_processes v p q able (Decide k c ∷ rest) = refl

begins_processes : (v : Seen) (p : ℕ) (roll : Bool) → (seen_beginning v p roll).processes ≡ v.processes
begins_processes v p false = settles_processes (seen_joining_checkpoint (seen_began v p false) v.channel p (v.begun + 1) None) p (v.begun + 1)
begins_processes v p true = settles_processes (seen_joining_rollback (seen_began v p true) v.channel p (v.begun + 1) None no_note) p (v.begun + 1)

starts_processes : (v : Seen) (p : ℕ) (roll able : Bool) → (seen_begin_command v p roll able).processes ≡ v.processes
starts_processes v p true able = begins_processes v p true
starts_processes v p false able = at_if v.processes (able && (v.states p).up) _ _ (begins_processes v p false) refl

pub step_processes : (v : Seen) (x : ProtocolStep) → (transition v x).processes ≡ v.processes
step_processes v (Send p q b) = at_if v.processes ((nat_lt p v.processes && nat_lt q v.processes) && ((v.states p).inst == 0 && not (q == p))) _ _ (at_if v.processes (v.states p).up _ _ refl refl) refl
step_processes v (Begin p roll able) = at_if v.processes ((v.states p).inst == 0) _ _ (starts_processes v p roll able) refl
step_processes v (Fail p) = at_if v.processes (v.states p).up _ _ refl refl
step_processes v (Take p q able) = at_if v.processes (is_seen_ready v p) _ _ (fronts_processes v p q able (v.channel q p)) (takes_processes v p q able (v.held q p))

run_processes : (v : Seen) (steps : List ProtocolStep) → (run_seen v steps).processes ≡ v.processes
run_processes v [] = refl
run_processes v (x ∷ xs) = run_processes (transition v x) xs ∙ step_processes v x

pub processes_are : (n : ℕ) (steps : List ProtocolStep) → (late_run (opening n) steps).processes ≡ n
processes_are n steps = ap (λ (v : Seen). v.processes) (seen_after_run n 0 steps) ∙ run_processes (opening_seen n 0) steps
