-- Restoring takes no more spares than there are commands to fail.
use Rattle.std.proofs.Common.{length, ◌≡◌, ℕ, ℤ, suc, ◌+◌, ◌≤◌, Bool, true, false, List, [], ◌∷◌, ◌++◌, drop, refl, arith, sym, ap, inl, inr, ◌∙◌, Some, None, cond, zero-add}
use Rattle.std.specs.Prelude.{◌==◌, ◌&&◌, nat_lt, if◌then◌else◌, Option, slice_get}
use Rattle.std.proofs.lemmas.Bool.Decides.{nat_tests}
use Rattle.kt_base.specs.declared.words.Cause.{Cause}
use Rattle.kt_fifo.specs.declared.parcels.Parcel.{Parcel}
use Rattle.kt_fifo.specs.declared.parcels.Parcel.TheVariants.{App, Ask, Reply, Decide}
use Rattle.kt_spacetime.specs.declared.event.Event.{Event}
use Rattle.kt_spacetime.specs.declared.event.Event.TheVariants.{Sent, Received, Dropped, Began, Took, Ready, Unwilling, Decided, Closed, Failed, Refused}
use Rattle.kt_meaning.specs.Past.{at_one, is_rollback, is_committed}
use Rattle.kt_meaning.specs.Legal.{IsLegal}
use Rattle.kt_protocol.proofs.LawfulSteps.{lawful_after_run}
use Rattle.kt_machine.specs.Seen.{Seen}
use Rattle.kt_machine.specs.Transition.{is_seen_ready}
use Rattle.kt_machine.specs.Done.{Done, done_start, done_after}
use Rattle.kt_machine.specs.Values.{Rules, Apply, Keep, Drop, first_due, acts_at, acts_along, closing, drops, spares}
use Rattle.kt_machine.proofs.CanBeDone.{along_can}
use Rattle.kt_machine.proofs.Spares.{drops_more, balance}
use Rattle.kt_plan.specs.Limits.{Planned, IsPlan}
use Rattle.kt_plan.specs.declared.commands.Job.{Job}
use Rattle.kt_plan.specs.declared.commands.Command.{Command}
use Rattle.kt_meaning.specs.Follows.{commands_of}
use Rattle.kt_plan.specs.declared.steps.Step.{Step}
use Rattle.kt_plan.specs.declared.steps.Step.TheVariants.{Do, Take}
use Rattle.kt_plan.specs.declared.steps.Give.{Give}
use Rattle.kt_promises.specs.Rows.{AreDecidingRows, AreRowsOfCommand, are_instance_rows, refusal_cause, list_taken, AreRowsOfMessage, AreRowsOfTake, AreRowsOfDo}
use Rattle.kt_plan.specs.declared.commands.Job.TheVariants as job
use Rattle.kt_promises.proofs.PhaseOrder.{drop_next, never_both}
use Rattle.kt_plan.specs.Failures.{is_failure, failures_of}
use Rattle.std.proofs.lemmas.List.Recursion.{is_count_by}
use Rattle.kt_promises.specs.Progress.{Progress, commands_left, next_command, progress_at_start}
use Rattle.kt_promises.specs.Steps.{may_do, enabled, progress_after}
use Rattle.kt_promises.specs.Runs.{RunReaches}
use Rattle.kt_promises.specs.StepActs.{rows_added}
use Rattle.kt_promises.proofs.ReachedRuns.{log_of}
use Rattle.kt_promises.proofs.RunSteps.{seen_keeps}
use Rattle.kt_promises.proofs.PhasesOpen.{opening_is, takes_is, does_is}
use Rattle.kt_promises.proofs.ActsOfSteps.{log_grows}
use Rattle.kt_promises.proofs.RowsFit.{fits}

-- the rows by which p fails
unfoldable pub is_failed : ℕ → Event → Bool
is_failed p (Failed u) = p == u
is_failed p _ = false

unfoldable pub failed : ℕ → List Event → ℕ
failed p [] = 0
failed p (x ∷ xs) = (if is_failed p x then 1 else 0) + failed p xs

empty : (p : ℕ) → failed p [] ≡ 0
unfolding failed
empty p = refl

failed_more : (p : ℕ) (xs ys : List Event) → failed p (xs ++ ys) ≡ failed p xs + failed p ys
unfolding failed
failed_more p [] ys = omega arith
failed_more p (x ∷ xs) ys = let i = failed_more p xs ys in omega (arith, i)

-- the drops among acts
closing_drops : (r c : Bool) → drops (closing r c) ≡ 0
closing_drops true true = refl
closing_drops true false = refl
closing_drops false true = refl
closing_drops false false = refl

nothing : (b : Bool) → drops (if b then [] else []) ≡ 0
nothing true = refl
nothing false = refl

at_drops : (p : ℕ) (d : Done) (row : Event) → drops (acts_at p d row) ≡ (if is_failed p row then 1 else 0)
unfolding is_failed
at_drops p d (Failed u) = go (p == u)
  where
    go : (b : Bool) → drops (if b then Drop ∷ [] else []) ≡ (if b then 1 else 0)
    go true = refl
    go false = refl
at_drops p d (Closed u k) = go (p == u)
  where
    go : (b : Bool) → drops (if b then closing (is_rollback d.past k) (is_committed d.past k) else []) ≡ 0
    go true = closing_drops (is_rollback d.past k) (is_committed d.past k)
    go false = refl
at_drops p d (Received u q m) = go (p == u)
  where
    go : (b : Bool) → drops (if b then Apply q (d.body m) ∷ [] else []) ≡ 0
    go true = refl
    go false = refl
at_drops p d (Took u k) = go (p == u)
  where
    go : (b : Bool) → drops (if b then Keep ∷ [] else []) ≡ 0
    go true = refl
    go false = refl
at_drops p d (Sent u q body) = nothing (p == u)
at_drops p d (Dropped u q m) = nothing (p == u)
at_drops p d (Began u k kind) = nothing (p == u)
at_drops p d (Ready u k) = nothing (p == u)
at_drops p d (Unwilling u k cause) = nothing (p == u)
at_drops p d (Decided u k c) = nothing (p == u)
at_drops p d (Refused u verb cause) = nothing (p == u)

along_drops : (p : ℕ) (d : Done) (rows : List Event) → drops (acts_along p d rows) ≡ failed p rows
unfolding failed
along_drops p d [] = refl
along_drops p d (row ∷ rows) = let a = drops_more (acts_at p d row) (acts_along p (done_after d row) rows) in let b = at_drops p d row in let c = along_drops p (done_after d row) rows in omega (arith, a, b, c)

-- of every legal log
spares_failed : {V : Type 0} (r : Rules V) (log : List Event) (p : ℕ) → IsLegal log → spares r (first_due r) (acts_along p done_start log) ≤ failed p log
spares_failed r log p l = let b = balance r (first_due r) (acts_along p done_start log) (along_can r [] log p l) in let d = along_drops p done_start log in omega (arith, b, d)

-- the rows of a step
ends_failed : (p u k : ℕ) (l : List Event) → AreDecidingRows u k l → failed p l ≡ 0
unfolding failed is_failed
ends_failed p u k l e = elim e [ inl x ↦ rw x refl | inr x ↦ (let y = x.1 in rw y refl) ]

right : (a b : Bool) → (a && b) ≡ true → b ≡ true
right true b e = e
right false b e = absurd (cc (e))

parts_failed : (p u : ℕ) (l : List Event) → are_instance_rows u l ≡ true → failed p l ≡ 0
unfolding failed is_failed
parts_failed p u [] e = refl
parts_failed p u (Took v k ∷ l) e = let i = parts_failed p u l (right (v == u) (are_instance_rows u l) e) in omega (arith, i)
parts_failed p u (Ready v k ∷ l) e = let i = parts_failed p u l (right (v == u) (are_instance_rows u l) e) in omega (arith, i)
parts_failed p u (Unwilling v k c ∷ l) e = let i = parts_failed p u l (right (v == u) (are_instance_rows u l) e) in omega (arith, i)
parts_failed p u (Decided v k c ∷ l) e = let i = parts_failed p u l (right (v == u) (are_instance_rows u l) e) in omega (arith, i)
parts_failed p u (Closed v k ∷ l) e = let i = parts_failed p u l (right (v == u) (are_instance_rows u l) e) in omega (arith, i)
parts_failed p u (_ ∷ l) e = absurd (cc (e))

message_failed : (a u q m : ℕ) (v v' : Seen) (x : Parcel) (r up : Bool) (l : List Event) → AreRowsOfMessage v v' u q x m r up l → failed a l ≡ 0
unfolding failed is_failed
message_failed a u q m v v' x true up l e = let y = e.0 in rw y refl
message_failed a u q m v v' x false true l e = rw e refl
message_failed a u q m v v' x false false l e = rw e refl

take_failed : (a u q : ℕ) (v v' : Seen) (from : List Parcel) (l : List Event) → AreRowsOfTake v v' u q from l → failed a l ≡ 0
unfolding failed is_failed
take_failed a u q v v' [] l e = rw e refl
take_failed a u q v v' (App i m body ∷ rest) l e = message_failed a u q m v v' (App i m body) (is_seen_ready v u) (v.states u).up l e
take_failed a u q v v' (Ask k kind i ∷ rest) l e = parts_failed a u l e.0
take_failed a u q v v' (Reply k w ∷ rest) l e = parts_failed a u l e.0
take_failed a u q v v' (Decide k c ∷ rest) l e = parts_failed a u l e.0

-- a command's rows have one failure of its process at most, where it is to fail
one : Bool → ℕ
one b = if b then 1 else 0

job_failed : (a k u : ℕ) (j : Job) (z : ℤ) (o : Option Cause) (l : List Event) → AreRowsOfCommand k u j z o l → failed a l ≤ one (a == u && is_failure j)
unfolding failed is_failed one
job_failed a k u j z (Some cause) l e = let x : failed a l ≡ 0 = rw e refl in omega (arith, x)
job_failed a k u (job.Send q b) z None l e = let x : failed a l ≡ 0 = rw e refl in omega (arith, x)
job_failed a k u job.Checkpoint z None l e = let y = e.2 in let x : failed a l ≡ 0 = let i = ends_failed a u k e.0 e.1 in rw y (omega (arith, i)) in omega (arith, x)
job_failed a k u job.Rollback z None l e = let y = e.2 in let x : failed a l ≡ 0 = let i = ends_failed a u k e.0 e.1 in rw y (omega (arith, i)) in omega (arith, x)
job_failed a k u job.Fail z None l e = go (a == u) (rw e refl)
  where
    go : (b : Bool) → failed a l ≡ (if b then 1 else 0) + 0 → failed a l ≤ (if b && true then 1 else 0)
    go true x = omega (arith, x)
    go false x = omega (arith, x)

-- how many of some commands are to fail
abbrev pub count_failures : List Command → ℕ
count_failures [] = 0
count_failures (c ∷ cs) = (if is_failure c.job then 1 else 0) + count_failures cs

counted_failures : (p : ℕ) (cs : List Command) → count_failures (commands_of p cs) ≡ failures_of cs p
counted_failures p = is_count_by (λ (cs : List Command). count_failures (commands_of p cs)) (λ (command : Command). command.by == p && is_failure command.job) refl step
  where
    pick : (d : Bool) (n : ℕ) → (if d then 1 else 0) + n ≡ cond d (1 + n) n
    pick true n = refl
    pick false n = zero-add n

    step : (c : Command) (cs : List Command) → count_failures (if c.by == p then c ∷ commands_of p cs else commands_of p cs) ≡ cond (c.by == p && is_failure c.job) (1 + count_failures (commands_of p cs)) (count_failures (commands_of p cs))
    step c cs = go (c.by == p)
      where
        go : (b : Bool) → count_failures (if b then c ∷ commands_of p cs else commands_of p cs) ≡ cond (b && is_failure c.job) (1 + count_failures (commands_of p cs)) (count_failures (commands_of p cs))
        go true = pick (is_failure c.job) (count_failures (commands_of p cs))
        go false = refl

-- what p has failed, and has still to fail
pub record Failing (plan : Planned) (p : ℕ) (w : Progress) : Type 0 where
  pub few : failed p w.now.log + count_failures (commands_left plan w p) ≤ count_failures (commands_of p plan.commands)

-- commands that are left are those of the number done
left_at : (plan : Planned) (p : ℕ) (d d' : ℕ → ℕ) → d' ≡ d → count_failures (drop (d' p) (commands_of p plan.commands)) ≡ count_failures (drop (d p) (commands_of p plan.commands))
left_at plan p d d' e = ap (λ (f : ℕ → ℕ). count_failures (drop (f p) (commands_of p plan.commands))) e

-- one command less
less_left : (plan : Planned) (w : Progress) (u p : ℕ) (c : Command) → next_command plan w u ≡ Some c →
    count_failures (drop (if p == u then w.done u + 1 else w.done p) (commands_of p plan.commands)) + one (p == u && is_failure c.job) ≡ count_failures (commands_left plan w p)
unfolding one
less_left plan w u p c e = go (p == u) refl
  where
    after : (l : List Command) → slice_get l 0 ≡ Some c → (cs : List Command) × (l ≡ c ∷ cs)
    after [] f = absurd (cc (f))
    after (x ∷ xs) f = (xs, (let y : x ≡ c = cc (f) in rw y refl))

    go : (b : Bool) → (p == u) ≡ b → count_failures (drop (if b then w.done u + 1 else w.done p) (commands_of p plan.commands)) + (if b && is_failure c.job then 1 else 0) ≡ count_failures (commands_left plan w p)
    go true i =
        let n : p ≡ u = grind (arith, nat_tests, i) in
        let a = after (commands_left plan w u) e in
        let f : w.done u + 1 ≡ suc (w.done u) = omega arith in
        let d = drop_next (w.done u) (commands_of u plan.commands) c a.0 a.1 in
        let g : count_failures (commands_left plan w u) ≡ one (is_failure c.job) + count_failures a.0 = ap count_failures a.1 in
        rw (n, f, d) (omega (arith, g))
    go false i = omega arith

do_failing : (plan : Planned) (w : Progress) (u p : ℕ) (give : Give) (l : List Event) (o : Option Command) → next_command plan w u ≡ o → AreRowsOfDo w.now u give o l → enabled plan w (Do u) ≡ true →
    (progress_after plan w (Do u) give).now.log ≡ w.now.log ++ l → Failing plan p w → Failing plan p (progress_after plan w (Do u) give)
do_failing plan w u p give l None n f b e i = absurd (no_turn b)
  where
    no_turn : enabled plan w (Do u) ≡ true → ⊥
    no_turn b = never_both (nat_lt u (length plan.names)) (ap (λ (o : Option Command). nat_lt u (length plan.names) && may_do w u o) (sym n) ∙ b)
do_failing plan w u p give l (Some c) n f b e i = record {
  few = (let a = ap (failed p) e in
      let m = failed_more p w.now.log l in
      let j = job_failed p (w.now.begun + 1) u c.job give.body (refusal_cause (w.now.states u) give.able c.job) l f in
      let d = left_at plan p (at_one u (w.done u + 1) w.done) (progress_after plan w (Do u) give).done (does_is plan w u give c n).done in
      let x = less_left plan w u p c n in
      let y = i.few in
      omega (arith, a, m, j, d, x, y));
}

step_failing : (plan : Planned) (first : ℕ) (w : Progress) (x : Step) (give : Give) (p : ℕ) → IsPlan plan → RunReaches plan first w → enabled plan w x ≡ true → Failing plan p w → Failing plan p (progress_after plan w x give)
step_failing plan first w (Do u) give p i r b h = do_failing plan w u p give (rows_added plan w (Do u) give) (next_command plan w u) refl (fits plan first w (Do u) give i r b).fit b (log_grows plan first w (Do u) give i r b) h
step_failing plan first w (Take u q) give p i r b h = record {
  few = (let a = ap (failed p) (log_grows plan first w (Take u q) give i r b) in
      let m = failed_more p w.now.log (rows_added plan w (Take u q) give) in
      let j = take_failed p u q w.now (progress_after plan w (Take u q) give).now (list_taken w.now u q) (rows_added plan w (Take u q) give) (fits plan first w (Take u q) give i r b).fit in
      let d = left_at plan p w.done (progress_after plan w (Take u q) give).done (takes_is plan w u q give).done in
      let y = h.few in
      omega (arith, a, m, j, d, y));
}

opening_failing : (plan : Planned) (first p : ℕ) → Failing plan p (progress_at_start plan first)
opening_failing plan first p = record {
  few = (let o = opening_is plan first in
      let a : failed p (progress_at_start plan first).now.log ≡ 0 = ap (λ (v : Seen). failed p v.log) o.now ∙ none in
      let d = left_at plan p (λ v. 0) (progress_at_start plan first).done o.done in
      omega (arith, a, d));
}
  where
    none : failed p [] ≡ 0
    none = empty p

pub failing : (plan : Planned) (first : ℕ) (w : Progress) (p : ℕ) → IsPlan plan → RunReaches plan first w → Failing plan p w
failing plan first w p i r = seen_keeps plan first (Failing plan p) i (opening_failing plan first p) (λ v x give s b h. step_failing plan first v x give p i s b h) w r

pub spares_seen : {V : Type 0} (r : Rules V) (plan : Planned) (first : ℕ) (w : Progress) (p : ℕ) → IsPlan plan → RunReaches plan first w → spares r (first_due r) (acts_along p done_start w.now.log) ≤ failures_of plan.commands p
spares_seen r plan first w p i s =
    let a = spares_failed r w.now.log p (log_of plan first w IsLegal i s (λ x. (lawful_after_run (length plan.names) x).legal)) in
    let b = (failing plan first w p i s).few in
    let c = counted_failures p plan.commands in
    omega (arith, a, b, c)
