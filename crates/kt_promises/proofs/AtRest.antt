-- Where nothing is enabled, the plan is at rest.
use Rattle.std.specs.List.{list_any}
use Rattle.std.proofs.Common.{length, ◌≡◌, ℕ, ◌≤◌, ◌<◌, Bool, true, false, List, [], ◌∷◌, refl, arith, ap, subst, ◌∙◌, Some}
use Rattle.std.specs.Prelude.{◌==◌, ◌&&◌, ◌||◌, not, nat_lt, slice_get, is_some}
use Rattle.std.proofs.lemmas.Bool.Decides.{nat_tests}
use Rattle.kt_protocol.proofs.LateWholeSteps.{once_closed_rest}
use Rattle.kt_protocol.specs.OnceClosed.{once_closed}
use Rattle.kt_protocol.proofs.StepFacts.{none_is}
use Rattle.kt_protocol.specs.AtRest.{IsAtRest}
use Rattle.kt_protocol.specs.Deciding.{none_of}
use Rattle.kt_protocol.specs.Parcels.{Parcel, has_parcel}
use Rattle.kt_protocol.specs.States.{State, is_ready, can_take}
use Rattle.kt_protocol.proofs.NeverStuck as stuck
use Rattle.kt_plan.specs.declared.commands.Command.{Command}
use Rattle.kt_plan.specs.declared.commands.Job.{Job}
use Rattle.kt_plan.specs.Limits.{Planned}
use Rattle.kt_meaning.specs.Follows.{commands_of}
use Rattle.kt_promises.specs.Plans.{last_phase}
use Rattle.kt_promises.proofs.MachineProgress.{MachineProgress, machine_commands_left, machine_is_phase_done, machine_is_quiet, machine_next_command}
use Rattle.kt_plan.specs.declared.steps.Step.TheVariants.{Do, Take}
use Rattle.kt_plan.specs.declared.steps.Step.{Step}
use Rattle.kt_promises.proofs.MachineSteps.{machine_enabled, machine_is_at_rest, machine_may_do}
use Rattle.kt_promises.specs.Steps.{may_do_job}
use Rattle.kt_plan.specs.declared.commands.Job.TheVariants as job
use Rattle.kt_promises.proofs.PhaseOrder.{Ordered, up_to_last, up_to_of, up_to_drop, none_left, none_of_if, somebody}
use Rattle.kt_promises.proofs.RunFacts.{RunFacts}
use Rattle.kt_promises.proofs.StateFacts.{StateFacts, state_facts, can_take_same}

-- the first that is left is of the open phase, where one of them is
none_before : (n p k low : ℕ) (l : List Command) → k < low → Ordered n p low l → list_any (λ (x : Command). x.phase == k) l ≡ false
none_before n p k low [] h o = refl
none_before n p k low (c ∷ cs) h o = go c.phase (list_any (λ (x : Command). x.phase == k) cs) o.2 (none_before n p k c.phase cs (let x = o.2 in omega (arith, h, x)) o.3)
  where
    go : (x : ℕ) (b : Bool) → low ≤ x → b ≡ false → (x == k || b) ≡ false
    go x b i e = grind (arith, nat_tests, h, i, e)

pub first_in : (n p k : ℕ) (c : Command) (cs : List Command) → Ordered n p k (c ∷ cs) → list_any (λ (x : Command). x.phase == k) (c ∷ cs) ≡ true → (c.phase == k) ≡ true
first_in n p k c cs o e = go c.phase (list_any (λ (x : Command). x.phase == k) cs) o.2 (λ h. none_before n p k c.phase cs h o.3) e
  where
    go : (x : ℕ) (b : Bool) → k ≤ x → (k < x → b ≡ false) → (x == k || b) ≡ true → (x == k) ≡ true
    go x true i f e = grind (arith, nat_tests, i, f, e)
    go x false i f e = grind (arith, nat_tests, i, e)

pub starts_closed : (j : Job) (b : Bool) → b ≡ true → may_do_job b j ≡ true
starts_closed (job.Send q body) b e = e
starts_closed job.Checkpoint b e = refl
starts_closed job.Rollback b e = refl
starts_closed job.Fail b e = refl

both : (a b : Bool) → a ≡ true → b ≡ true → (a && b) ≡ true
both a b e f = rw (e, f) refl

second : (a b : Bool) → a ≡ true → (a && b) ≡ false → b ≡ false
second true b e f = f
second false b e f = absurd (cc (e))

-- closed, and something of the phase is left
may_do_first : (plan : Planned) (g : MachineProgress) (p : ℕ) → Ordered (length plan.names) p g.phase (machine_commands_left plan g p) → g.state.so_far.open_in p ≡ 0 → list_any (λ (x : Command). x.phase == g.phase) (machine_commands_left plan g p) ≡ true → machine_enabled plan g (Do p) ≡ true
may_do_first plan g p o z h = go (machine_commands_left plan g p) o h
  where
    go : (l : List Command) → Ordered (length plan.names) p g.phase l → list_any (λ (x : Command). x.phase == g.phase) l ≡ true → (nat_lt p (length plan.names) && machine_may_do g p (slice_get l 0)) ≡ true
    go [] o h = absurd (cc (h))
    go (c ∷ cs) o h = both (nat_lt p (length plan.names)) (c.phase == g.phase && may_do_job (g.state.so_far.open_in p == 0) c.job) (low p (length plan.names) o.0)
        (both (c.phase == g.phase) (may_do_job (g.state.so_far.open_in p == 0) c.job) (first_in (length plan.names) p g.phase c cs o h) (starts_closed c.job (g.state.so_far.open_in p == 0) (zero_is (g.state.so_far.open_in p) z)))
      where
        low : (a b : ℕ) → a < b → nat_lt a b ≡ true
        low a b h = grind (arith, nat_tests, h)

        zero_is : (a : ℕ) → a ≡ 0 → (a == 0) ≡ true
        zero_is a e = grind (arith, nat_tests, e)

pub state_rests : (plan : Planned) (g : MachineProgress) → RunFacts plan g → ((p q : ℕ) → machine_enabled plan g (Take p q) ≡ false) → IsAtRest g.state
state_rests plan g k n = subst IsAtRest (once_closed_rest g.state closed) rests
  where
    r : StateFacts (length plan.names) g.state
    r = state_facts plan g k

    takes : (p q : ℕ) → p < (once_closed g.state).processes → q < (once_closed g.state).processes → can_take (once_closed g.state) p q ≡ false
    takes p q a b = can_take_same g.state p q ∙ second (nat_lt p (length plan.names) && nat_lt q (length plan.names)) (can_take g.state p q) (low p q (length plan.names) g.state.processes r.processes a b) (n p q)
      where
        low : (p q n m : ℕ) → m ≡ n → p < m → q < m → (nat_lt p n && nat_lt q n) ≡ true
        low p q n m e a b = grind (arith, nat_tests, e, a, b)

    rests : IsAtRest (once_closed g.state)
    rests = stuck.at_rest (once_closed g.state) r.invariant r.after_step (stuck.none_below (once_closed g.state) r.invariant r.after_step takes)

    closed : (p : ℕ) → g.state.so_far.open_in p ≡ 0
    closed = rests.closed

pub quiet_at_rest : (n : ℕ) (s : State) → IsAtRest s → machine_is_quiet n s ≡ true
quiet_at_rest n s r = none_of_if n (λ p. not (s.so_far.open_in p == 0) || not (none_of n (λ q. has_parcel (s.channel q p) || has_parcel (s.held q p)))) (λ p _. one p)
  where
    empty : (l h : List Parcel) → l ≡ [] → h ≡ [] → (has_parcel l || has_parcel h) ≡ false
    empty l h e f = rw (e, f) refl

    one : (p : ℕ) → (not (s.so_far.open_in p == 0) || not (none_of n (λ q. has_parcel (s.channel q p) || has_parcel (s.held q p)))) ≡ false
    one p = let c = r.closed p in let e = none_of_if n (λ q. has_parcel (s.channel q p) || has_parcel (s.held q p)) (λ q _. empty (s.channel q p) (s.held q p) (r.no_parcel q p) (r.none_held q p)) in rw (c, e) refl

-- all commands are done, and nothing is left of the protocol
pub record Rests (plan : Planned) (g : MachineProgress) : Type 0 where
  pub flag : machine_is_at_rest plan g ≡ true
  pub none_left : (p : ℕ) → machine_commands_left plan g p ≡ []
  pub machine : IsAtRest g.state

pub rests : (plan : Planned) (g : MachineProgress) → RunFacts plan g → ((x : Step) → machine_enabled plan g x ≡ false) → Rests plan g
rests plan g k n = record {
  flag = both (none_of (length plan.names) (λ p. is_some (slice_get (machine_commands_left plan g p) 0))) (machine_is_quiet (length plan.names) g.state) (none_of_if (length plan.names) (λ p. is_some (slice_get (machine_commands_left plan g p) 0)) (λ p _. none p)) quiet;
  none_left = λ p. empty (machine_commands_left plan g p) (none p);
  machine = m;
}
  where
    m : IsAtRest g.state
    m = state_rests plan g k (λ p q. n (Take p q))

    quiet : machine_is_quiet (length plan.names) g.state ≡ true
    quiet = quiet_at_rest (length plan.names) g.state m

    unphased : (p : ℕ) → list_any (λ (x : Command). x.phase == g.phase) (machine_commands_left plan g p) ≡ false
    unphased p = go (list_any (λ (x : Command). x.phase == g.phase) (machine_commands_left plan g p)) refl
      where
        go : (b : Bool) → list_any (λ (x : Command). x.phase == g.phase) (machine_commands_left plan g p) ≡ b → list_any (λ (x : Command). x.phase == g.phase) (machine_commands_left plan g p) ≡ false
        go false e = e
        go true e = absurd (cc (may_do_first plan g p (k.ahead p) (m.closed p) e, n (Do p)))

    done : machine_is_phase_done plan g ≡ true
    done = none_of_if (length plan.names) (λ p. list_any (λ (x : Command). x.phase == g.phase) (machine_commands_left plan g p)) (λ p _. unphased p)

    no_later : last_phase plan.commands ≤ g.phase
    no_later = go g.phase (last_phase plan.commands) (second (machine_is_quiet (length plan.names) g.state) _ quiet (second (machine_is_phase_done plan g) _ done k.shut))
      where
        go : (x y : ℕ) → nat_lt x y ≡ false → y ≤ x
        go x y e = grind (arith, nat_tests, e)

    none : (p : ℕ) → is_some (slice_get (machine_commands_left plan g p) 0) ≡ false
    none p = none_left (length plan.names) p g.phase (last_phase plan.commands) (machine_commands_left plan g p) (k.ahead p) (up_to_drop (last_phase plan.commands) (g.done p) (commands_of p plan.commands) (up_to_of (last_phase plan.commands) p plan.commands (up_to_last plan.commands))) no_later (unphased p)

    empty : (l : List Command) → is_some (slice_get l 0) ≡ false → l ≡ []
    empty [] e = refl
    empty (c ∷ cs) e = absurd (cc (e))

-- and the other way round
pub idle_at_rest : (plan : Planned) (g : MachineProgress) → machine_is_at_rest plan g ≡ true → (x : Step) → machine_enabled plan g x ≡ false
idle_at_rest plan g r (Do p) = go (nat_lt p (length plan.names)) refl
  where
    no_command : (l : List Command) → is_some (slice_get l 0) ≡ false → machine_may_do g p (slice_get l 0) ≡ false
    no_command [] e = refl
    no_command (c ∷ cs) e = absurd (cc (e))

    none : nat_lt p (length plan.names) ≡ true → machine_may_do g p (slice_get (machine_commands_left plan g p) 0) ≡ false
    none b = no_command (machine_commands_left plan g p) (none_is (length plan.names) (λ p. is_some (slice_get (machine_commands_left plan g p) 0)) (front_of (none_of (length plan.names) (λ p. is_some (slice_get (machine_commands_left plan g p) 0))) _ r) p (low p (length plan.names) b))
      where
        low : (a b : ℕ) → nat_lt a b ≡ true → a < b
        low a b h = grind (arith, nat_tests, h)

        front_of : (a b : Bool) → (a && b) ≡ true → a ≡ true
        front_of true b e = refl
        front_of false b e = absurd (cc (e))

    go : (b : Bool) → nat_lt p (length plan.names) ≡ b → (b && machine_may_do g p (slice_get (machine_commands_left plan g p) 0)) ≡ false
    go true e = none e
    go false e = refl
idle_at_rest plan g r (Take p q) = go (nat_lt p (length plan.names)) (nat_lt q (length plan.names)) refl refl
  where
    back_of : (a b : Bool) → (a && b) ≡ true → b ≡ true
    back_of true b e = e
    back_of false b e = absurd (cc (e))

    quiet : machine_is_quiet (length plan.names) g.state ≡ true
    quiet = back_of (none_of (length plan.names) (λ p. is_some (slice_get (machine_commands_left plan g p) 0))) _ r

    low : (a b : ℕ) → nat_lt a b ≡ true → a < b
    low a b h = grind (arith, nat_tests, h)

    shut : (a b : Bool) → (a || not b) ≡ false → b ≡ true
    shut a true e = refl
    shut true false e = absurd (cc (e))
    shut false false e = absurd (cc (e))

    empty : (a b r : Bool) → (a || b) ≡ false → (a || not r && b) ≡ false
    empty true b r e = absurd (cc (e))
    empty false true r e = absurd (cc (e))
    empty false false true e = refl
    empty false false false e = refl

    none : p < length plan.names → q < length plan.names → can_take g.state p q ≡ false
    none a b = empty (has_parcel (g.state.channel q p)) (has_parcel (g.state.held q p)) (is_ready g.state p)
        (none_is (length plan.names) (λ q. has_parcel (g.state.channel q p) || has_parcel (g.state.held q p)) (shut (not (g.state.so_far.open_in p == 0)) _ (none_is (length plan.names) (λ p. not (g.state.so_far.open_in p == 0) || not (none_of (length plan.names) (λ q. has_parcel (g.state.channel q p) || has_parcel (g.state.held q p)))) quiet p a)) q b)

    go : (a b : Bool) → nat_lt p (length plan.names) ≡ a → nat_lt q (length plan.names) ≡ b → ((a && b) && can_take g.state p q) ≡ false
    go true true e f = none (low p (length plan.names) e) (low q (length plan.names) f)
    go true false e f = refl
    go false b e f = refl

-- where all is quiet and a command is left, somebody's next one is of the open phase
pub attained : (plan : Planned) (g : MachineProgress) (p : ℕ) (c : Command) → RunFacts plan g → machine_is_quiet (length plan.names) g.state ≡ true → machine_next_command plan g p ≡ Some c →
    (q : ℕ) × (d : Command) × (q < length plan.names) × (machine_next_command plan g q ≡ Some d) × (d.phase ≡ g.phase)
attained plan g p c k quiet e = go (machine_is_phase_done plan g) refl
  where
    open_in : ℕ → Bool
    open_in q = list_any (λ (x : Command). x.phase == g.phase) (machine_commands_left plan g q)

    found : (q : ℕ) → q < length plan.names → (cs : List Command) → machine_commands_left plan g q ≡ cs → list_any (λ (x : Command). x.phase == g.phase) cs ≡ true → (q : ℕ) × (d : Command) × (q < length plan.names) × (machine_next_command plan g q ≡ Some d) × (d.phase ≡ g.phase)
    found q low [] is h = absurd (cc (h))
    found q low (d ∷ ds) is h = (q, d, low, ap (λ (cs : List Command). slice_get cs 0) is, (let t = first_in (length plan.names) q g.phase d ds (subst (λ (x : List Command). Ordered (length plan.names) q g.phase x) is (k.ahead q)) h in grind (arith, nat_tests, t)))

    low : (cs : List Command) → slice_get cs 0 ≡ Some c → Ordered (length plan.names) p g.phase cs → p < length plan.names
    low [] f o = absurd (cc (f))
    low (x ∷ xs) f o = o.0

    late : (a b : ℕ) → nat_lt a b ≡ false → b ≤ a
    late a b h = grind (arith, nat_tests, h)

    left : (cs : List Command) → slice_get cs 0 ≡ Some c → is_some (slice_get cs 0) ≡ false → ⊥
    left [] f h = cc (f)
    left (x ∷ xs) f h = cc (h)

    go : (b : Bool) → machine_is_phase_done plan g ≡ b → (q : ℕ) × (d : Command) × (q < length plan.names) × (machine_next_command plan g q ≡ Some d) × (d.phase ≡ g.phase)
    go false done = let s = somebody (length plan.names) open_in done in found s.0 s.1 (machine_commands_left plan g s.0) refl s.2
    go true done =
        let shut = second (machine_is_quiet (length plan.names) g.state) (nat_lt g.phase (last_phase plan.commands)) quiet (second (machine_is_phase_done plan g) _ done k.shut) in
        let none = none_left (length plan.names) p g.phase (last_phase plan.commands) (machine_commands_left plan g p) (k.ahead p) (up_to_drop (last_phase plan.commands) (g.done p) (commands_of p plan.commands) (up_to_of (last_phase plan.commands) p plan.commands (up_to_last plan.commands))) (late g.phase (last_phase plan.commands) shut) (none_is (length plan.names) open_in done p (low (machine_commands_left plan g p) e (k.ahead p))) in
        absurd (left (machine_commands_left plan g p) e none)
