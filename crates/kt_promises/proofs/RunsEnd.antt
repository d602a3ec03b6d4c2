-- The end of runs, and tallies.
use Rattle.std.proofs.Common.{◌≡◌, ℕ, zero, suc, ◌+◌, ◌≤◌, ◌<◌, true, List, [], ◌∷◌, ◌++◌, length, refl, arith, ap, Some, None, ◌-◌, ◌*◌, sym, subst, ◌∙◌}
use Rattle.std.specs.Prelude.{Option}
use Rattle.std.proofs.lemmas.Nat.{mul-le}
use Rattle.kt_machine.specs.Labelling.{labelling}
use Rattle.kt_machine.proofs.Parcels.{parcels_length}
use Rattle.kt_plan.specs.declared.commands.Command.{Command}
use Rattle.kt_plan.specs.Limits.{Planned, IsPlan}
use Rattle.kt_promises.proofs.MachineProgress.{MachineProgress, machine_start, world_of}
use Rattle.kt_plan.specs.declared.steps.Step.{Step}
use Rattle.kt_plan.specs.declared.steps.Give.{Give}
use Rattle.kt_promises.specs.Tallies.{Tallies, no_tallies, total_below, tallies_after, IsRaised, RunPuts}
use Rattle.kt_promises.specs.Work.{most_steps_of_run, count_begins, work_left}
use Rattle.kt_promises.proofs.MachineSteps.{after_machine_step}
use Rattle.kt_promises.proofs.MachineWork.{machine_count_left, machine_put_so_far, machine_work_left}
use Rattle.kt_promises.proofs.InstancesBegun.{run_facts, few_instances, fewer_begun, asks_most, replies_most, decisions_most, none_unbegun}
use Rattle.kt_promises.proofs.StateFacts.{state_facts}
use Rattle.kt_promises.proofs.TalliedSteps.{tallied}
use Rattle.kt_promises.specs.Progress.{Progress, next_command, progress_at_start}
use Rattle.kt_promises.specs.Steps.{enabled, progress_after, is_at_rest}
use Rattle.kt_promises.specs.Runs.{RunReaches, after_defaults, next_default}
use Rattle.kt_promises.proofs.SameTallies.{tallies_of, raised_is}
use Rattle.kt_promises.proofs.PutRuns.{run_of, put_at_start, put_next, put_same, none_at_start, carry_put}
use Rattle.kt_promises.proofs.SameSteps.{enabled_same, after_same, start_same}
use Rattle.kt_promises.proofs.ReachedRuns.{carry}
use Rattle.kt_spacetime.specs.declared.event.Event.{Event}
use Rattle.kt_promises.specs.StepActs.{rows_added}
use Rattle.kt_promises.specs.Defaults.{default_step}
use Rattle.kt_promises.proofs.ActsOfSteps.{log_grows}
use Rattle.kt_promises.proofs.RunSteps.{start_reached_seen, next_reached_seen, rest_seen}
use Rattle.kt_promises.proofs.DefaultOrder.{none_is, some_is}
use Rattle.kt_promises.proofs.StepBounds.{work_falls, count_at_start, none_in_transit_at_start}

pub work_same : (plan : Planned) (first rows : ℕ) (g : MachineProgress) → work_left rows plan (world_of first g) (tallies_of g.state) ≡ machine_work_left rows plan g
work_same plan first rows g = ap (λ (f : ℕ → ℕ → ℕ). machine_count_left plan g + ((rows + (length plan.commands + 1) * (3 * (length plan.names * (length plan.names - 1)))) - machine_put_so_far (length plan.commands + 1) g.state) + total_below (length plan.names) (λ p. total_below (length plan.names) (λ q. f p q)))
    (λ i p q. parcels_length (labelling first g.state.log).label (labelling first g.state.log).body g.state.so_far.is_rollback (g.state.channel p q) i)

pub work_falls_seen : (plan : Planned) (first rows : ℕ) (w : Progress) (put : Tallies) (x : Step) (give : Give) → IsPlan plan → RunPuts plan first w put → enabled plan w x ≡ true → length (progress_after plan w x give).now.log ≤ rows →
    work_left rows plan (progress_after plan w x give) (tallies_after plan w x give put) < work_left rows plan w put
work_falls_seen plan first rows w put x give i r = carry_put plan first w put (λ v t. enabled plan v x ≡ true → length (progress_after plan v x give).now.log ≤ rows → work_left rows plan (progress_after plan v x give) (tallies_after plan v x give t) < work_left rows plan v t) i r
    (λ g s e l.
    let k = run_facts plan g s in
    let b = sym (enabled_same plan first g x) ∙ e in
    let m = after_same plan first g x give k in
    subst (λ (v : Progress). work_left rows plan v (tallies_after plan (world_of first g) x give (tallies_of g.state)) < work_left rows plan (world_of first g) (tallies_of g.state)) m
    (subst (λ (t : Tallies). work_left rows plan (world_of first (after_machine_step plan g x give)) t < work_left rows plan (world_of first g) (tallies_of g.state)) (put_same plan first g x give k b)
    (subst (λ (n : ℕ). n < work_left rows plan (world_of first g) (tallies_of g.state)) (sym (work_same plan first rows (after_machine_step plan g x give)))
    (subst (λ (n : ℕ). machine_work_left rows plan (after_machine_step plan g x give) < n) (sym (work_same plan first rows g))
    (work_falls plan rows s.count g x give s.behind.few b (subst (λ (v : Progress). length v.now.log ≤ rows) (sym m) l))))))

-- default steps go on with the run, and its log grows
length_append : {X : Type 0} (l m : List X) → length l ≤ length (l ++ m)
length_append [] m = omega arith
length_append (x ∷ l) m = let e = length_append l m in omega (arith, e)

grows_seen : (plan : Planned) (first : ℕ) (w : Progress) (x : Step) (give : Give) → IsPlan plan → RunReaches plan first w → enabled plan w x ≡ true → length w.now.log ≤ length (progress_after plan w x give).now.log
grows_seen plan first w x give i r e = let a = ap (λ (l : List Event). length l) (log_grows plan first w x give i r e) in let b = length_append w.now.log (rows_added plan w x give) in omega (arith, a, b)

goes_on : (n : ℕ) (plan : Planned) (first : ℕ) (give : Progress → Step → Give) (w : Progress) → IsPlan plan → RunReaches plan first w → RunReaches plan first (after_defaults n plan give w) × (length w.now.log ≤ length (after_defaults n plan give w).now.log)
goes_on zero plan first give w i r = (r, omega arith)
goes_on (suc n) plan first give w i r = go (λ x b. goes_on n plan first give (progress_after plan w x (give w x)) i (next_reached_seen plan first w x (give w x) i r b)) (default_step plan w) refl
  where
    go : ((x : Step) → enabled plan w x ≡ true → RunReaches plan first (after_defaults n plan give (progress_after plan w x (give w x))) × (length (progress_after plan w x (give w x)).now.log ≤ length (after_defaults n plan give (progress_after plan w x (give w x))).now.log)) → (o : Option Step) → default_step plan w ≡ o →
        RunReaches plan first (next_default (λ x. after_defaults n plan give (progress_after plan w x (give w x))) w o) × (length w.now.log ≤ length (next_default (λ x. after_defaults n plan give (progress_after plan w x (give w x))) w o).now.log)
    go h None e = (r, omega arith)
    go h (Some x) e = let b = (some_is plan w x e).on in let a = h x b in (a.0, (let u = grows_seen plan first w x (give w x) i r b in let v = a.1 in omega (arith, u, v)))

pub defaults_run_seen : (n : ℕ) (plan : Planned) (first : ℕ) (give : Progress → Step → Give) (w : Progress) → IsPlan plan → RunReaches plan first w → RunReaches plan first (after_defaults n plan give w)
defaults_run_seen n plan first give w i r = (goes_on n plan first give w i r).0

pub defaults_rest_seen : (n : ℕ) (plan : Planned) (first rows : ℕ) (give : Progress → Step → Give) (w : Progress) (put : Tallies) → IsPlan plan → RunPuts plan first w put → length (after_defaults n plan give w).now.log ≤ rows → work_left rows plan w put < n → is_at_rest plan (after_defaults n plan give w) ≡ true
defaults_rest_seen zero plan first rows give w put i r l b = absurd (omega (arith, b))
defaults_rest_seen (suc n) plan first rows give w put i r l b = go (λ x e m c. defaults_rest_seen n plan first rows give (progress_after plan w x (give w x)) (tallies_after plan w x (give w x) put) i (put_next plan first w put x (give w x) r e) m c) (default_step plan w) refl l
  where
    run : RunReaches plan first w
    run = run_of plan first w put r

    go : ((x : Step) → enabled plan w x ≡ true → length (after_defaults n plan give (progress_after plan w x (give w x))).now.log ≤ rows → work_left rows plan (progress_after plan w x (give w x)) (tallies_after plan w x (give w x) put) < n → is_at_rest plan (after_defaults n plan give (progress_after plan w x (give w x))) ≡ true) → (o : Option Step) → default_step plan w ≡ o →
        length (next_default (λ x. after_defaults n plan give (progress_after plan w x (give w x))) w o).now.log ≤ rows → is_at_rest plan (next_default (λ x. after_defaults n plan give (progress_after plan w x (give w x))) w o) ≡ true
    go h None e m = rest_seen plan first w i run (none_is plan w e)
    go h (Some x) e m =
        let on = (some_is plan w x e).on in
        let d = (goes_on n plan first give (progress_after plan w x (give w x)) i (next_reached_seen plan first w x (give w x) i run on)).1 in
        let f = work_falls_seen plan first rows w put x (give w x) i r on (omega (arith, d, m)) in
        h x on m (omega (arith, f, b))

-- what there is to do at first
work_at_start : (plan : Planned) (first rows : ℕ) → IsPlan plan → work_left rows plan (progress_at_start plan first) no_tallies ≤ most_steps_of_run plan rows
work_at_start plan first rows i =
    let s : work_left rows plan (progress_at_start plan first) no_tallies ≡ machine_work_left rows plan (machine_start plan) =
    ap (λ (v : Progress). work_left rows plan v no_tallies) (sym (start_same plan first))
    ∙ (ap (work_left rows plan (world_of first (machine_start plan))) (sym (none_at_start plan i)) ∙ work_same plan first rows (machine_start plan)) in
    let a = count_at_start plan i in let b = none_in_transit_at_start plan i in omega (arith, s, a, b)

pub start_rests_seen : (n : ℕ) (plan : Planned) (first rows : ℕ) (give : Progress → Step → Give) → IsPlan plan → length (after_defaults n plan give (progress_at_start plan first)).now.log ≤ rows → most_steps_of_run plan rows < n → is_at_rest plan (after_defaults n plan give (progress_at_start plan first)) ≡ true
start_rests_seen n plan first rows give i l b = defaults_rest_seen n plan first rows give (progress_at_start plan first) no_tallies i (put_at_start plan first) l (let a = work_at_start plan first rows i in omega (arith, a, b))

-- for 64 processes, 4,096 commands and 2^24 rows
pub limits : (plan : Planned) (rows : ℕ) → (length plan.names) ≤ 64 → length plan.commands ≤ 4096 → rows ≤ 16777216 → most_steps_of_run plan rows < 67108864
limits plan rows a b c =
    let s = mul-le (length plan.names) (length plan.names - 1) 64 63 a (omega (arith, a)) in
    let t = mul-le (length plan.commands + 1) (3 * (length plan.names * (length plan.names - 1))) 4097 12096 (omega (arith, b)) (omega (arith, s)) in
    omega (arith, b, c, t)

-- tallies
module _ (plan : Planned) (first : ℕ) (w : Progress) (i : IsPlan plan) (r : RunReaches plan first w) where
  pub few_begun : w.now.begun ≤ count_begins plan.commands
  few_begun = carry plan first w (λ v. v.now.begun ≤ count_begins plan.commands) i r (λ g s. few_instances plan g s)

  pub fewer_begun_seen : (p : ℕ) (c : Command) → next_command plan w p ≡ Some c → w.now.begun < length plan.commands
  fewer_begun_seen p c = carry plan first w (λ v. next_command plan v p ≡ Some c → v.now.begun < length plan.commands) i r (λ g s e. fewer_begun plan g p c s e)

module _ (plan : Planned) (first : ℕ) (w : Progress) (put : Tallies) (i : IsPlan plan) (r : RunPuts plan first w put) where
  pub none_put : (k : ℕ) → w.now.begun < k → put.asks k ≡ 0
  none_put k = carry_put plan first w put (λ v t. v.now.begun < k → t.asks k ≡ 0) i r (λ g s h. none_unbegun (length plan.names) g.state (state_facts plan g (run_facts plan g s)) k h)

  pub few_asks : (k : ℕ) → put.asks k ≤ length plan.names * (length plan.names - 1)
  few_asks k = carry_put plan first w put (λ v t. t.asks k ≤ length plan.names * (length plan.names - 1)) i r (λ g s. asks_most (length plan.names) g.state (state_facts plan g (run_facts plan g s)) k)

  pub few_replies : (k : ℕ) → put.replies k ≤ put.asks k
  few_replies k = carry_put plan first w put (λ v t. t.replies k ≤ t.asks k) i r (λ g s. replies_most (length plan.names) g.state (state_facts plan g (run_facts plan g s)) k)

  pub few_decisions : (k : ℕ) → put.decisions k ≤ put.asks k
  few_decisions k = carry_put plan first w put (λ v t. t.decisions k ≤ t.asks k) i r (λ g s. decisions_most (length plan.names) g.state (state_facts plan g (run_facts plan g s)) k)

-- a step raises them
pub raised_seen : (plan : Planned) (first : ℕ) (w : Progress) (put : Tallies) (x : Step) (give : Give) → IsPlan plan → RunPuts plan first w put → enabled plan w x ≡ true → IsRaised (length plan.names) w.now x (progress_after plan w x give).now put (tallies_after plan w x give put)
raised_seen plan first w put x give i r = carry_put plan first w put (λ v t. enabled plan v x ≡ true → IsRaised (length plan.names) v.now x (progress_after plan v x give).now t (tallies_after plan v x give t)) i r
    (λ g s e. let k = run_facts plan g s in let b = sym (enabled_same plan first g x) ∙ e in
    subst (λ (t : Tallies). IsRaised (length plan.names) (world_of first g).now x (progress_after plan (world_of first g) x give).now (tallies_of g.state) t) (put_same plan first g x give k b)
    (subst (λ (v : Progress). IsRaised (length plan.names) (world_of first g).now x v.now (tallies_of g.state) (tallies_of (after_machine_step plan g x give).state)) (after_same plan first g x give k)
    (raised_is (length plan.names) first g.state (after_machine_step plan g x give).state x (tallied plan g x give k b))))
