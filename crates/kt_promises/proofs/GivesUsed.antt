-- What an object gives counts only where the step asks for it.
use Rattle.std.proofs.Common.{◌≡◌, ℕ, ℤ, Bool, true, false, List, [], ◌∷◌, refl, ap, Some, None}
use Rattle.std.specs.Prelude.{◌==◌, ◌&&◌, not, nat_lt, if◌then◌else◌, Option}
use Rattle.kt_base.specs.declared.words.Verb.TheVariants as verb
use Rattle.kt_base.specs.declared.words.Cause.TheVariants.{Busy, Down}
use Rattle.kt_protocol.specs.LateSteps.{late_beginning, late_front, late_take, late_step}
use Rattle.kt_protocol.specs.Joining.{must_take}
use Rattle.kt_protocol.specs.Messages.{after_refusal, after_sending}
use Rattle.kt_protocol.specs.Parcels.{Parcel, Ask, has_parcel}
use Rattle.kt_protocol.specs.Replies.{unable_cause}
use Rattle.kt_protocol.specs.States.{State, is_ready}
use Rattle.kt_protocol.specs.States as machine
use Rattle.kt_plan.specs.declared.steps.Look.TheVariants.{Idle, NeedsBody, NeedsSave, Plain}
use Rattle.kt_plan.specs.declared.steps.Look.{Look}
use Rattle.kt_promises.proofs.MachineLooks.{machine_look, machine_look_of_command, machine_look_of_front, machine_look_of_step}
use Rattle.kt_promises.specs.Looks.{look_of_job, uses_able, uses_body}
use Rattle.kt_plan.specs.declared.commands.Command.{Command}
use Rattle.kt_plan.specs.declared.commands.Job.{Job}
use Rattle.kt_plan.specs.Limits.{Planned}
use Rattle.kt_promises.proofs.MachineProgress.{MachineProgress, machine_next_command, machine_with_phases_open}
use Rattle.kt_plan.specs.declared.steps.Step.TheVariants.{Do, Take}
use Rattle.kt_plan.specs.declared.steps.Give.{Give}
use Rattle.kt_plan.specs.declared.steps.Step.{Step}
use Rattle.kt_promises.proofs.MachineSteps.{machine_after_command, after_machine_step, machine_enabled}
use Rattle.kt_promises.specs.Steps.{protocol_step}
use Rattle.kt_plan.specs.declared.commands.Job.TheVariants as job
use Rattle.kt_promises.proofs.RunFacts.{bare_command}

-- two gives agree where it counts
pub record Agree (l : Look) (a b : Give) : Type 0 where
  pub able : uses_able l ≡ true → a.able ≡ b.able
  pub body : uses_body l ≡ true → a.body ≡ b.body

job_same : (s : State) (p : ℕ) (j : Job) (a b : Give) → Agree (look_of_job (s.so_far.open_in p == 0) (s.up p) j) a b → late_step s (protocol_step p j a) ≡ late_step s (protocol_step p j b)
job_same s p (job.Send q (Some z)) a b e = refl
job_same s p (job.Send q None) a b e = go (s.up p) ((nat_lt p s.processes && nat_lt q s.processes) && (s.so_far.open_in p == 0 && not (q == p))) e.body
  where
    go : (u c : Bool) → (uses_body (if u then NeedsBody else Plain) ≡ true → a.body ≡ b.body) → (if c then (if u then after_sending s p q a.body else after_refusal s p verb.Send Down) else s) ≡ (if c then (if u then after_sending s p q b.body else after_refusal s p verb.Send Down) else s)
    go true true h = ap (λ (z : ℤ). after_sending s p q z) (h refl)
    go true false h = refl
    go false true h = refl
    go false false h = refl
job_same s p job.Checkpoint a b e = go (s.so_far.open_in p == 0) (s.up p) e.able
  where
    go : (o u : Bool) → (uses_able (if o && u then NeedsSave else Plain) ≡ true → a.able ≡ b.able) →
        (if o then (if a.able && u then late_beginning s p false else after_refusal s p verb.Checkpoint (unable_cause u)) else after_refusal s p verb.Checkpoint (Busy (s.so_far.open_in p))) ≡
        (if o then (if b.able && u then late_beginning s p false else after_refusal s p verb.Checkpoint (unable_cause u)) else after_refusal s p verb.Checkpoint (Busy (s.so_far.open_in p)))
    go false u h = refl
    go true true h = ap (λ (c : Bool). if c && true then late_beginning s p false else after_refusal s p verb.Checkpoint (unable_cause true)) (h refl)
    go true false h = down a.able b.able
      where
        down : (c d : Bool) → (if c && false then late_beginning s p false else after_refusal s p verb.Checkpoint Down) ≡ (if d && false then late_beginning s p false else after_refusal s p verb.Checkpoint Down)
        down true true = refl
        down true false = refl
        down false true = refl
        down false false = refl
job_same s p job.Rollback a b e = refl
job_same s p job.Fail a b e = refl

-- of an ask
asked : (x z r m u a b : Bool) (s0 s1 s2 s3 s4 s5 : State) → (uses_able (if (z && not r) && (m && u) then NeedsSave else Plain) ≡ true → a ≡ b) →
    (if x then s0 else if not z then s1 else if r then s2 else if not m then s3 else if not (a && u) then s4 else s5) ≡ (if x then s0 else if not z then s1 else if r then s2 else if not m then s3 else if not (b && u) then s4 else s5)
asked true z r m u a b s0 s1 s2 s3 s4 s5 h = refl
asked false false r m u a b s0 s1 s2 s3 s4 s5 h = refl
asked false true true m u a b s0 s1 s2 s3 s4 s5 h = refl
asked false true false false u a b s0 s1 s2 s3 s4 s5 h = refl
asked false true false true true a b s0 s1 s2 s3 s4 s5 h = ap (λ (c : Bool). if not (c && true) then s4 else s5) (h refl)
asked false true false true false true true s0 s1 s2 s3 s4 s5 h = refl
asked false true false true false true false s0 s1 s2 s3 s4 s5 h = refl
asked false true false true false false true s0 s1 s2 s3 s4 s5 h = refl
asked false true false true false false false s0 s1 s2 s3 s4 s5 h = refl

front_same : (s : State) (p q : ℕ) (a b : Bool) (l : List Parcel) → (uses_able (machine_look_of_front s p q l) ≡ true → a ≡ b) → late_front s p q a l ≡ late_front s p q b l
front_same s p q a b (Ask k l ∷ rest) h = asked (s.so_far.open_in p == k) (s.so_far.open_in p == 0) (s.so_far.is_rollback k) (must_take s p q l) (s.up p) a b _ _ _ _ _ _ h
front_same s p q a b _ h = refl

take_same : (s : State) (p q : ℕ) (a b : Bool) → (uses_able (if not (is_ready s p) && has_parcel (s.held q p) then Plain else machine_look_of_front s p q (s.channel q p)) ≡ true → a ≡ b) → late_step s (machine.Take p q a) ≡ late_step s (machine.Take p q b)
take_same s p q a b h = go (is_ready s p) (s.held q p) h
  where
    go : (r : Bool) (l : List Parcel) → (uses_able (if not r && has_parcel l then Plain else machine_look_of_front s p q (s.channel q p)) ≡ true → a ≡ b) → (if r then late_front s p q a (s.channel q p) else late_take s p q a l) ≡ (if r then late_front s p q b (s.channel q p) else late_take s p q b l)
    go true l h = front_same s p q a b (s.channel q p) h
    go false [] h = front_same s p q a b (s.channel q p) h
    go false (_ ∷ rest) h = refl

same_step : (plan : Planned) (g : MachineProgress) (x : Step) (a b : Give) → Agree (machine_look_of_step plan g x) a b → after_machine_step plan g x a ≡ after_machine_step plan g x b
same_step plan g (Do p) a b e = go (machine_next_command plan g p) e
  where
    go : (o : Option Command) → Agree (machine_look_of_command g p o) a b → machine_after_command plan g p a o ≡ machine_after_command plan g p b o
    go None e = refl
    go (Some c) e = ap (λ (s : State). machine_with_phases_open plan (record (bare_command g p a c) { state = s })) (job_same g.state p c.job a b e)
same_step plan g (Take p q) a b e = ap (λ (s : State). machine_with_phases_open plan (record g { state = s })) (take_same g.state p q a.able b.able e.able)

pub gives_same : (plan : Planned) (g : MachineProgress) (x : Step) (a b : Give) → machine_enabled plan g x ≡ true → (uses_able (machine_look plan g x) ≡ true → a.able ≡ b.able) → (uses_body (machine_look plan g x) ≡ true → a.body ≡ b.body) → after_machine_step plan g x a ≡ after_machine_step plan g x b
gives_same plan g x a b e h i = same_step plan g x a b (record { able = λ u. h (carry uses_able u); body = λ u. i (carry uses_body u) })
  where
    carry : (f : Look → Bool) → f (machine_look_of_step plan g x) ≡ true → f (machine_look plan g x) ≡ true
    carry f u = go (machine_enabled plan g x) e
      where
        go : (b : Bool) → b ≡ true → f (if b then machine_look_of_step plan g x else Idle) ≡ true
        go true y = u
        go false y = absurd (cc (y))
