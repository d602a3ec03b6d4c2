-- What stands in the way of a step: something exactly where it is not enabled.
use Rattle.std.proofs.Common.{◌≡◌, ◌≢◌, ◌<◌, ◌≤◌, ℕ, Bool, true, false, Some, None, length, refl, arith, ap}
use Rattle.std.specs.Prelude.{Option, ◌↔◌, ◌==◌, ◌&&◌, not, nat_lt, if◌then◌else◌}
use Rattle.std.proofs.lemmas.Bool.Decides.{nat_tests}
use Rattle.kt_plan.specs.declared.commands.Command.{Command}
use Rattle.kt_plan.specs.declared.commands.Job.{Job}
use Rattle.kt_plan.specs.declared.commands.Job.TheVariants as job
use Rattle.kt_plan.specs.Limits.{Planned, IsPlan}
use Rattle.kt_plan.specs.declared.steps.Step.{Step}
use Rattle.kt_plan.specs.declared.steps.Step.TheVariants.{Do, Take}
use Rattle.kt_promises.specs.Hindrances.{hindrance, hindrance_of_command}
use Rattle.kt_promises.specs.declared.hindrances.Hindrance.{Hindrance}
use Rattle.kt_promises.specs.declared.hindrances.Hindrance.TheVariants.{NoCommand, PhaseNotOpen, SendInInstance, NoParcel}
use Rattle.kt_promises.specs.Progress.{Progress, next_command}
use Rattle.kt_promises.specs.Runs.{RunReaches}
use Rattle.kt_promises.specs.Steps.{may_do, may_do_job, can_take_from, enabled}
use Rattle.kt_promises.proofs.OpenPhase.{ahead_seen, next_there_seen}

-- what stands in the way of a command whose phase is open or not, and which may be done or has to wait
abbrev of_tests : Bool → Bool → Option Hindrance
of_tests opened may = if not opened then Some PhaseNotOpen else if may then None else Some SendInInstance

tests_none : (opened may : Bool) → (of_tests opened may ≡ None) ↔ ((opened && may) ≡ true)
tests_none true true = (λ e. refl, λ e. refl)
tests_none true false = (λ e. absurd (cc (e)), λ e. absurd (cc (e)))
tests_none false may = (λ e. absurd (cc (e)), λ e. absurd (cc (e)))

command_none : (w : Progress) (p : ℕ) (o : Option Command) → (hindrance_of_command w p o ≡ None) ↔ (may_do w p o ≡ true)
command_none w p None = (λ e. absurd (cc (e)), λ e. absurd (cc (e)))
command_none w p (Some c) = tests_none (c.phase == w.phase) (may_do_job ((w.now.states p).inst == 0) c.job)

there_none : (there may : Bool) (o : Option Hindrance) → ((o ≡ None) ↔ (may ≡ true)) → ((if there then o else Some NoCommand) ≡ None) ↔ ((there && may) ≡ true)
there_none true may o h = h
there_none false may o h = (λ e. absurd (cc (e)), λ e. absurd (cc (e)))

take_none : (on : Bool) → ((if on then None else Some NoParcel) ≡ None) ↔ (on ≡ true)
take_none true = (λ e. refl, λ e. refl)
take_none false = (λ e. absurd (cc (e)), λ e. absurd (cc (e)))

pub none_exactly : (plan : Planned) (w : Progress) (x : Step) → (hindrance plan w x ≡ None) ↔ (enabled plan w x ≡ true)
none_exactly plan w (Do p) = there_none (nat_lt p (length plan.names)) (may_do w p (next_command plan w p)) (hindrance_of_command w p (next_command plan w p)) (command_none w p (next_command plan w p))
none_exactly plan w (Take p q) = take_none (enabled plan w (Take p q))

-- each kind of its own
tests_command : (opened may : Bool) → of_tests opened may ≢ Some NoCommand
tests_command true true e = cc (e)
tests_command true false e = cc (e)
tests_command false may e = cc (e)

tests_phase : (opened may : Bool) → of_tests opened may ≡ Some PhaseNotOpen → opened ≡ false
tests_phase true true e = absurd (cc (e))
tests_phase true false e = absurd (cc (e))
tests_phase false may e = refl

tests_send : (opened may : Bool) → of_tests opened may ≡ Some SendInInstance → may ≡ false
tests_send true true e = absurd (cc (e))
tests_send true false e = refl
tests_send false may e = absurd (cc (e))

no_next : (w : Progress) (p : ℕ) (o : Option Command) → hindrance_of_command w p o ≡ Some NoCommand → o ≡ None
no_next w p None e = refl
no_next w p (Some c) e = absurd (tests_command (c.phase == w.phase) (may_do_job ((w.now.states p).inst == 0) c.job) e)

no_next_there : (w : Progress) (p : ℕ) (there : Bool) (o : Option Command) → ((c : Command) → o ≡ Some c → there ≡ true)
    → ((if there then hindrance_of_command w p o else Some NoCommand) ≡ Some NoCommand) ↔ (o ≡ None)
no_next_there w p true o h = (no_next w p o, λ e. ap (hindrance_of_command w p) e)
no_next_there w p false None h = (λ e. refl, λ e. refl)
no_next_there w p false (Some c) h = absurd (let e = h c refl in cc (e))

is_below : (p n : ℕ) → p < n → nat_lt p n ≡ true
is_below p n h = grind (arith, nat_tests, h)

pub no_command_left : (plan : Planned) (first : ℕ) (w : Progress) (p : ℕ) → IsPlan plan → RunReaches plan first w → (hindrance plan w (Do p) ≡ Some NoCommand) ↔ (next_command plan w p ≡ None)
no_command_left plan first w p i r = no_next_there w p (nat_lt p (length plan.names)) (next_command plan w p)
    (λ c e. is_below p (length plan.names) (next_there_seen plan first w p c i r e))

-- what is not that no command is left comes of the command
of_command : (there : Bool) (o : Option Hindrance) (h : Hindrance) → NoCommand ≢ h → (if there then o else Some NoCommand) ≡ Some h → o ≡ Some h
of_command true o h other e = e
of_command false o h other e = absurd (other (cc (e)))

unlike : (a b : ℕ) → (a == b) ≡ false → a ≢ b
unlike a b e f = grind (arith, nat_tests, e, f)

later_than : (w : Progress) (p : ℕ) (o : Option Command) → ((c : Command) → o ≡ Some c → w.phase ≤ c.phase) → hindrance_of_command w p o ≡ Some PhaseNotOpen
    → (c : Command) × (o ≡ Some c) × (w.phase < c.phase)
later_than w p None h e = absurd (cc (e))
later_than w p (Some c) h e =
    let other = unlike c.phase w.phase (tests_phase (c.phase == w.phase) (may_do_job ((w.now.states p).inst == 0) c.job) e) in
    let ahead = h c refl in
    (c, refl, omega (arith, ahead, other))

pub later_phase : (plan : Planned) (first : ℕ) (w : Progress) (p : ℕ) → IsPlan plan → RunReaches plan first w → hindrance plan w (Do p) ≡ Some PhaseNotOpen
    → (c : Command) × (next_command plan w p ≡ Some c) × (w.phase < c.phase)
later_phase plan first w p i r e = later_than w p (next_command plan w p) (λ c f. ahead_seen plan first w p c i r f)
    (of_command (nat_lt p (length plan.names)) (hindrance_of_command w p (next_command plan w p)) PhaseNotOpen (λ f. cc (f)) e)

closed_may : (closed : Bool) (j : Job) → may_do_job closed j ≡ false → closed ≡ false
closed_may closed (job.Send q body) e = e
closed_may closed job.Checkpoint e = absurd (cc (e))
closed_may closed job.Rollback e = absurd (cc (e))
closed_may closed job.Fail e = absurd (cc (e))

waits_inside : (w : Progress) (p : ℕ) (o : Option Command) → hindrance_of_command w p o ≡ Some SendInInstance → (w.now.states p).inst ≢ 0
waits_inside w p None e = absurd (cc (e))
waits_inside w p (Some c) e = unlike (w.now.states p).inst 0 (closed_may ((w.now.states p).inst == 0) c.job (tests_send (c.phase == w.phase) (may_do_job ((w.now.states p).inst == 0) c.job) e))

pub in_an_instance : (plan : Planned) (w : Progress) (p : ℕ) → hindrance plan w (Do p) ≡ Some SendInInstance → (w.now.states p).inst ≢ 0
in_an_instance plan w p e = waits_inside w p (next_command plan w p)
    (of_command (nat_lt p (length plan.names)) (hindrance_of_command w p (next_command plan w p)) SendInInstance (λ f. cc (f)) e)

off : (a b c : Bool) → a ≡ true → b ≡ true → (if (a && b) && c then None else Some NoParcel) ≡ Some NoParcel → c ≡ false
off true true true e f g = absurd (cc (g))
off true true false e f g = refl
off false b c e f g = absurd (cc (e))
off true false c e f g = absurd (cc (f))

pub nothing_to_take : (plan : Planned) (w : Progress) (p q : ℕ) → p < length plan.names → q < length plan.names → hindrance plan w (Take p q) ≡ Some NoParcel → can_take_from w.now p q ≡ false
nothing_to_take plan w p q l k e = off (nat_lt p (length plan.names)) (nat_lt q (length plan.names)) (can_take_from w.now p q) (is_below p (length plan.names) l) (is_below q (length plan.names) k) e
