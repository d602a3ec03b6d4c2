-- Which steps can be made, as the laws have it.
use Rattle.std.specs.Prelude.{◌==◌, ◌&&◌, ◌||◌, not, nat_lt, nat_le, if◌then◌else◌, Option, IfSome, is_none}
use Rattle.std.proofs.Common.{◌≡◌, ◌<◌, ◌≤◌, ℕ, Bool, true, false, Some, None, length, refl, sym, subst, arith, ap, ◌∙◌}
use Rattle.std.proofs.lemmas.Bool.Decides.{nat_tests}
use Rattle.kt_plan.specs.declared.commands.Command.{Command}
use Rattle.kt_plan.specs.declared.commands.Job.{Job}
use Rattle.kt_plan.specs.declared.commands.Job.TheVariants.{Send, Checkpoint, Rollback, Fail}
use Rattle.kt_plan.specs.declared.steps.Step.{Step}
use Rattle.kt_plan.specs.declared.steps.Step.TheVariants.{Do, Take}
use Rattle.kt_process.specs.ProcessStates.{inst_of}
use Rattle.kt_system.specs.Systems.{state_of}
use Rattle.kt_system.specs.Reads.{can_take}
use Rattle.kt_promises.specs.Steps as run_steps
use Rattle.kt_promises.specs.Progress.{Progress}
use Rattle.kt_core.specs.PlanLaws.{PlanLaws}
use Rattle.kt_core.specs.Agendas.{agenda_command, if_open, open_command}
use Rattle.kt_core.specs.Worlds.{World, is_send, process_may_do, can_do, can_make, step_refusal, is_full, lacks_label}
use Rattle.kt_core.specs.declared.faults.StepFault.TheVariants.{NotEnabled, LogFull, LabelsSpent}
use Rattle.kt_core.specs.Shown.{Mirrors}
use Rattle.kt_core.proofs.Places.{next_is, next_shown}
use Rattle.kt_core.proofs.Quiet.{closed_is, can_take_is}

and_same : (a b c d : Bool) → a ≡ c → (a ≡ true → b ≡ d) → (a && b) ≡ (c && d)
and_same true b true d e f = f refl
and_same true b false d e f = absurd (cc (e))
and_same false b true d e f = absurd (cc (e))
and_same false b false d e f = refl

and_both : (a b c d e f : Bool) → a ≡ d → b ≡ e → (a ≡ true → b ≡ true → c ≡ f) → (a && (b && c)) ≡ ((d && e) && f)
and_both true true c true true f x y g = g refl refl
and_both true true c true false f x y g = absurd (cc (y))
and_both true false c true true f x y g = absurd (cc (y))
and_both true false c true false f x y g = refl
and_both true b c false e f x y g = absurd (cc (x))
and_both false b c true e f x y g = absurd (cc (x))
and_both false b c false e f x y g = refl

pub below : (p n : ℕ) → nat_lt p n ≡ true → p < n
below p n e = grind (arith, nat_tests, e)

pub phase_test : (c a v : ℕ) → a ≡ v → v ≤ c → (c == v) ≡ nat_le c a
phase_test c a v e h = go (nat_le c a) refl
  where
    go : (b : Bool) → nat_le c a ≡ b → (c == v) ≡ b
    go true f = (let k : (c == v) ≡ true = grind (arith, nat_tests, e, h, f) in k)
    go false f = (let k : (c == v) ≡ false = grind (arith, nat_tests, e, h, f) in k)

module _ (w : World) (first : ℕ) (v : Progress) (r : Mirrors w.agenda w.system first v) where
  pub few : (p : ℕ) → p < w.system.size → p < 64
  few p l = let s = r.size in let f = r.limits.names.few in omega (arith, l, s, f)

module _ (laws : PlanLaws) (w : World) (first : ℕ) (v : Progress) (r : Mirrors w.agenda w.system first v) where
  may_do_job : (p : ℕ) → p < w.system.size → (j : Job) → (not (is_send j) || is_none (inst_of (state_of w.system p).side)) ≡ run_steps.may_do_job ((v.now.states p).inst == 0) j
  may_do_job p l (Send to body) = closed_is (state_of w.system p) (v.now.states p) (r.now.states p l) (r.numbered p l)
  may_do_job p l Checkpoint = refl
  may_do_job p l Rollback = refl
  may_do_job p l Fail = refl

  may_do_is : (p : ℕ) → p < w.system.size → (o : Option Command) → agenda_command w.agenda p ≡ o → process_may_do (state_of w.system p) (if_open w.agenda.phase o) ≡ run_steps.may_do v p o
  may_do_is p l None e = refl
  may_do_is p l (Some c) e =
      let ahead = laws.ahead w.agenda.plan first v p c r.limits r.reached (next_shown laws w.agenda v p c r.places (few w first v r p l) e) in
      go (nat_le c.phase w.agenda.phase) (phase_test c.phase w.agenda.phase v.phase (r.phase p c (few w first v r p l) e) ahead)
    where
      go : (b : Bool) → (c.phase == v.phase) ≡ b → process_may_do (state_of w.system p) (if b then Some c else None) ≡ ((c.phase == v.phase) && run_steps.may_do_job ((v.now.states p).inst == 0) c.job)
      go true f = rw f (may_do_job p l c.job)
      go false f = rw f refl

  pub enabled_is : (x : Step) → can_make w x ≡ run_steps.enabled w.agenda.plan v x
  enabled_is (Do p) = and_same (nat_lt p w.system.size) (can_do w p) (nat_lt p (length w.agenda.plan.names)) _ (ap (λ (n : ℕ). nat_lt p n) r.size)
      (λ e. let l = below p w.system.size e in may_do_is p l (agenda_command w.agenda p) refl ∙ ap (λ (o : Option Command). run_steps.may_do v p o) (next_is laws w.agenda v p r.places (few w first v r p l)))
  enabled_is (Take p q) = and_both (nat_lt p w.system.size) (nat_lt q w.system.size) (can_take w.system p q) (nat_lt p (length w.agenda.plan.names)) (nat_lt q (length w.agenda.plan.names)) (run_steps.can_take_from v.now p q)
      (ap (λ (n : ℕ). nat_lt p n) r.size) (ap (λ (n : ℕ). nat_lt q n) r.size) (λ e f. can_take_is w.system v.now p q r.now r.numbered (below p w.system.size e))

-- a step that can be made is one of each run that leads to the world
pub IfSome-enabled_in_run : PlanLaws → (w : World) (first : ℕ) (v : Progress) → Mirrors w.agenda w.system first v → (found : Option Step) → IfSome found (λ x. can_make w x ≡ true)
    → IfSome found (λ x. run_steps.enabled w.agenda.plan v x ≡ true)
IfSome-enabled_in_run laws w first v r None h = tt
IfSome-enabled_in_run laws w first v r (Some x) h = sym (enabled_is laws w first v r x) ∙ h

-- what is refused for nothing but want of memory is enabled
pub enabled_if : (w : World) (x : Step) → step_refusal w x ≡ None → can_make w x ≡ true
enabled_if w x e = go (can_make w x) e
  where
    go : (b : Bool) → (if not b then Some NotEnabled else if is_full w then Some LogFull else if lacks_label w x then Some LabelsSpent else None) ≡ None → b ≡ true
    go true f = refl
    go false f = absurd (cc (f))

-- who does a command is there
pub does_there : (w : World) (p : ℕ) → step_refusal w (Do p) ≡ None → p < w.system.size
does_there w p e = below p w.system.size (left (nat_lt p w.system.size) (can_do w p) (enabled_if w (Do p) e))
  where
    left : (a b : Bool) → (a && b) ≡ true → a ≡ true
    left true b f = refl
    left false b f = absurd (cc (f))

-- where a process's command is not refused, it is of the open phase
pub opened_as : (w : World) (p : ℕ) (c : Command) → step_refusal w (Do p) ≡ None → agenda_command w.agenda p ≡ Some c → open_command w.agenda p ≡ Some c
opened_as w p c e there = ap (λ (o : Option Command). if_open w.agenda.phase o) there ∙ mayed (nat_le c.phase w.agenda.phase) able
  where
    right : (a b : Bool) → (a && b) ≡ true → b ≡ true
    right true b f = f
    right false b f = absurd (cc (f))

    able : process_may_do (state_of w.system p) (if_open w.agenda.phase (Some c)) ≡ true
    able = subst (λ (o : Option Command). process_may_do (state_of w.system p) (if_open w.agenda.phase o) ≡ true) there (right (nat_lt p w.system.size) (can_do w p) (enabled_if w (Do p) e))

    mayed : (b : Bool) → process_may_do (state_of w.system p) (if b then Some c else None) ≡ true → (if b then Some c else None) ≡ Some c
    mayed true f = refl
    mayed false f = absurd (cc (f))
