-- The same steps, over the same objects, make the same run, as far as no save is refused.
use Rattle.std.specs.Prelude.{Option, slice_get, unwrap_or, if◌then◌else◌, ◌+◌, ◌==◌, ◌&&◌}
use Rattle.std.proofs.Common.{◌≡◌, ℕ, Bool, true, false, List, [], ◌∷◌, ◌++◌, length, map, take, append_assoc, append-nil, arith, refl, sym, ap, subst, ◌∙◌, Some, None}
use Rattle.std.proofs.Math.Seq.{take-append_seam}
use Rattle.kt_base.specs.declared.words.Cause.TheVariants.{Down}
use Rattle.kt_spacetime.specs.declared.event.Event.{Event}
use Rattle.kt_spacetime.specs.declared.event.Event.TheVariants.{Sent}
use Rattle.kt_machine.specs.Values.{Rules}
use Rattle.kt_machine.specs.Offers.{offer}
use Rattle.kt_object.specs.Holdings.{Content}
use Rattle.kt_plan.specs.Limits.{Planned, IsPlan}
use Rattle.kt_plan.specs.declared.commands.Command.{Command}
use Rattle.kt_plan.specs.declared.commands.Job.{Job}
use Rattle.kt_plan.specs.declared.commands.Job.TheVariants as job
use Rattle.kt_plan.specs.declared.steps.Step.{Step}
use Rattle.kt_plan.specs.declared.steps.Step.TheVariants.{Do, Take}
use Rattle.kt_plan.specs.declared.steps.Give.{Give}
use Rattle.kt_plan.specs.declared.steps.Look.{Look}
use Rattle.kt_plan.specs.declared.steps.Look.TheVariants.{Idle, NeedsSave, NeedsBody, Plain}
use Rattle.kt_meaning.specs.Follows.{commands_of, command_answered}
use Rattle.kt_promises.specs.Looks.{uses_able, uses_body, look, look_of_job, look_of_command, look_of_step}
use Rattle.kt_promises.specs.Runs.{Move, after_moves, RunReaches}
use Rattle.kt_promises.specs.Progress.{Progress, progress_at_start}
use Rattle.kt_promises.specs.Steps.{enabled, process_of_step, progress_after}
use Rattle.kt_promises.specs.StepActs.{rows_added}
use Rattle.kt_promises.specs.Rows.{AreRowsOfCommand, AreRowsOfDo, refusal_cause}
use Rattle.kt_promises.specs.Told.{rows_along}
use Rattle.kt_promises.specs.Offers.{SendsWhatIsOffered}
use Rattle.kt_run.specs.Objects.{rules_by}
use Rattle.kt_run.specs.OneRun.{SavesAll}
use Rattle.kt_run.specs.RunLaws.{RunLaws}
use Rattle.kt_run.specs.Runs.{IsRun}
use Rattle.kt_run.proofs.Moves.{first_move}
use Rattle.kt_run.proofs.Telling.{get_dropped}

needs_body : (l : Look) → uses_body l ≡ true → l ≡ NeedsBody
needs_body Idle e = absurd (cc (e))
needs_body NeedsSave e = absurd (cc (e))
needs_body NeedsBody e = refl
needs_body Plain e = absurd (cc (e))

needs_save : (l : Look) → uses_able l ≡ true → l ≡ NeedsSave
needs_save Idle e = absurd (cc (e))
needs_save NeedsSave e = refl
needs_save NeedsBody e = absurd (cc (e))
needs_save Plain e = absurd (cc (e))

get_seam : {X : Type 0} (xs : List X) (y : X) (ys : List X) → slice_get (xs ++ y ∷ ys) (length xs) ≡ Some y
get_seam [] y ys = refl
get_seam (x ∷ xs) y ys = get_seam xs y ys

save_only : (b : Bool) → uses_body (if b then NeedsSave else Plain) ≡ false
save_only true = refl
save_only false = refl

no_body : (l : Look) → uses_body l ≡ false → l ≡ NeedsBody → ⊥
no_body l e f = let x = ap uses_body f in cc (x, e)

-- who is asked for a body is up, and sends without one of its own
sends_offered : (closed up : Bool) (j : Job) → look_of_job closed up j ≡ NeedsBody → (q : ℕ) × (j ≡ job.Send q None) × (up ≡ true)
sends_offered closed true (job.Send q None) e = (q, refl, refl)
sends_offered closed false (job.Send q None) e = absurd (cc (e))
sends_offered closed up (job.Send q (Some b)) e = absurd (cc (e))
sends_offered closed up job.Checkpoint e = absurd (no_body _ (save_only (closed && up)) e)
sends_offered closed up job.Rollback e = absurd (cc (e))
sends_offered closed up job.Fail e = absurd (cc (e))

-- its row
row_of_send : (u : Progress) (p : ℕ) (give : Give) (c : Command) (q : ℕ) (rows : List Event) → c.job ≡ job.Send q None → (u.now.states p).up ≡ true → AreRowsOfDo u.now p give (Some c) rows → rows ≡ Sent p q give.body ∷ []
row_of_send u p give c q rows j up f =
    let are : AreRowsOfCommand (u.now.begun + 1) p (job.Send q None) give.body (refusal_cause (u.now.states p) give.able (job.Send q None)) rows
    = subst (λ (x : Job). AreRowsOfCommand (u.now.begun + 1) p x give.body (refusal_cause (u.now.states p) give.able x) rows) j f in
    subst (λ (b : Bool). AreRowsOfCommand (u.now.begun + 1) p (job.Send q None) give.body (if b then None else Some Down) rows) up are

module _ {V : Type 0} (laws : RunLaws) (rules : ℕ → Rules V) (plan : Planned) (first : ℕ) (i : IsPlan plan) where
  -- some moves lead on, send what is offered, and save
  abbrev Leads : Progress → List Move → Progress → Type 0
  Leads u xs w = (after_moves plan u xs ≡ Some w) × SendsWhatIsOffered rules plan w.now.log × SavesAll plan u xs

  -- a log has the rows that the moves add
  log_on : (xs : List Move) (u w : Progress) → RunReaches plan first u → after_moves plan u xs ≡ Some w → w.now.log ≡ u.now.log ++ rows_along plan u xs
  log_on [] u w s e = ap (λ (o : Option Progress). (unwrap_or o u).now.log) (sym e) ∙ sym (append-nil u.now.log)
  log_on (x ∷ xs) u w s e =
      let on = first_move plan u w x xs e in
      log_on xs (progress_after plan u x.step x.give) w (laws.next plan first u x.step x.give i s on.0) on.1
      ∙ (ap (λ (l : List Event). l ++ rows_along plan (progress_after plan u x.step x.give) xs) (laws.grows plan first u x.step x.give i s on.0)
      ∙ append_assoc u.now.log (rows_added plan u x.step x.give) (rows_along plan (progress_after plan u x.step x.give) xs))

  offered_here : (u : Progress) (p : ℕ) (give : Give) (w : Progress) (more : List Event) → RunReaches plan first u → enabled plan u (Do p) ≡ true → look plan u (Do p) ≡ NeedsBody
      → SendsWhatIsOffered rules plan w.now.log → w.now.log ≡ (progress_after plan u (Do p) give).now.log ++ more → offer (rules p) u.now.log p ≡ Some give.body
  offered_here u p give w more s b e o l =
      let c = laws.in_phase plan first u p i s b in
      let looked : look_of_step plan u (Do p) ≡ NeedsBody = sym (ap (λ (x : Bool). if x then look_of_step plan u (Do p) else Idle) b) ∙ e in
      let asks : look_of_command u p (Some c.0) ≡ NeedsBody = subst (λ (x : Option Command). look_of_command u p x ≡ NeedsBody) c.1 looked in
      let own = sends_offered ((u.now.states p).inst == 0) (u.now.states p).up c.0.job asks in
      let fit = subst (λ (x : Option Command). AreRowsOfDo u.now p give x (rows_added plan u (Do p) give)) c.1 (laws.fit plan first u (Do p) give i s b) in
      let added = row_of_send u p give c.0 own.0 (rows_added plan u (Do p) give) own.1 own.2 fit in
      let log : w.now.log ≡ u.now.log ++ Sent p own.0 give.body ∷ more = l
      ∙ (ap (λ (t : List Event). t ++ more) (laws.grows plan first u (Do p) give i s b ∙ ap (λ (t : List Event). u.now.log ++ t) added)
      ∙ append_assoc u.now.log (Sent p own.0 give.body ∷ []) more) in
      let there : slice_get w.now.log (length u.now.log) ≡ Some (Sent p own.0 give.body)
      = ap (λ (t : List Event). slice_get t (length u.now.log)) log ∙ get_seam u.now.log (Sent p own.0 give.body) more in
      let before : take (length u.now.log) w.now.log ≡ u.now.log
      = ap (take (length u.now.log)) log ∙ take-append_seam u.now.log (Sent p own.0 give.body ∷ more) in
      let count = laws.counts plan first u p i s in
      let next : slice_get (commands_of p plan.commands) (u.done p) ≡ Some c.0 = get_dropped (u.done p) (u.done p) 0 (commands_of p plan.commands) (omega arith) ∙ c.1 in
      let answers : command_answered plan u.now.log (Sent p own.0 give.body) ≡ Some c.0 = ap (slice_get (commands_of p plan.commands)) count ∙ next in
      subst (λ (x : List Event). offer (rules p) x p ≡ Some give.body) before
      (o (length u.now.log) p own.0 give.body c.0 there
      (ap (λ (x : List Event). command_answered plan x (Sent p own.0 give.body)) before ∙ answers) own.1)

  body_given : (u : Progress) (x : Step) (give : Give) (w : Progress) (xs : List Move) → RunReaches plan first u → enabled plan u x ≡ true → after_moves plan (progress_after plan u x give) xs ≡ Some w
      → SendsWhatIsOffered rules plan w.now.log → uses_body (look plan u x) ≡ true → offer (rules (process_of_step x)) u.now.log (process_of_step x) ≡ Some give.body
  body_given u (Do p) give w xs s b e o asks =
      offered_here u p give w (rows_along plan (progress_after plan u (Do p) give) xs) s b (needs_body (look plan u (Do p)) asks) o
      (log_on xs (progress_after plan u (Do p) give) w (laws.next plan first u (Do p) give i s b) e)
  body_given u (Take p q) give w xs s b e o asks = absurd (let f = laws.sends plan first u (Take p q) give i s b in cc (asks, f))

  -- the same step leads on to the same progress
  same_next : (u : Progress) (x : Step) (one other : Give) (xs ys : List Move) (w v : Progress) → RunReaches plan first u
      → Leads u (record { step = x; give = one } ∷ xs) w → Leads u (record { step = x; give = other } ∷ ys) v → progress_after plan u x one ≡ progress_after plan u x other
  same_next u x one other xs ys w v s a b =
      let on = first_move plan u w (record { step = x; give = one }) xs a.0 in
      let too = first_move plan u v (record { step = x; give = other }) ys b.0 in
      laws.gives plan first u x one other i s on.0
      (λ asks. let n = needs_save (look plan u x) asks in a.2.0 n ∙ sym (b.2.0 n))
      (λ asks. let f = body_given u x one w xs s on.0 on.1 a.1 asks in let g = body_given u x other v ys s too.0 too.1 b.1 asks in cc (f, g))

  rest_of : (u : Progress) (x : Move) (xs : List Move) (w : Progress) → Leads u (x ∷ xs) w → Leads (progress_after plan u x.step x.give) xs w
  rest_of u x xs w a = ((first_move plan u w x xs a.0).1, a.1, a.2.1)

  pub same_end : (xs ys : List Move) (u w v : Progress) → RunReaches plan first u → map (λ (m : Move). m.step) xs ≡ map (λ (m : Move). m.step) ys → Leads u xs w → Leads u ys v → w ≡ v
  same_end [] [] u w v s e a b = sym (ap (λ (o : Option Progress). unwrap_or o u) a.0) ∙ ap (λ (o : Option Progress). unwrap_or o u) b.0
  same_end [] (y ∷ ys) u w v s e a b = absurd (cc (e))
  same_end (x ∷ xs) [] u w v s e a b = absurd (cc (e))
  same_end (x ∷ xs) (y ∷ ys) u w v s e a b =
      let step : y.step ≡ x.step = cc (e) in
      let rest : map (λ (m : Move). m.step) xs ≡ map (λ (m : Move). m.step) ys = cc (e) in
      let other = subst (λ (z : Step). Leads u (record { step = z; give = y.give } ∷ ys) v) step b in
      let next = same_next u x.step x.give y.give xs ys w v s a other in
      let on = (first_move plan u w x xs a.0).0 in
      same_end xs ys (progress_after plan u x.step x.give) w v (laws.next plan first u x.step x.give i s on) rest (rest_of u x xs w a)
      (subst (λ (z : Progress). Leads z ys v) (sym next) (rest_of u (record { step = x.step; give = y.give }) ys v other))

-- the rows are the same
pub same_rows : RunLaws → (plan : Planned) (cast : List (List Content)) (xs ys : List Move) (rows others : List Event) → IsPlan plan → IsRun plan cast xs rows → IsRun plan cast ys others → map (λ (m : Move). m.step) xs ≡ map (λ (m : Move). m.step) ys
    → SavesAll plan (progress_at_start plan 0) xs → SavesAll plan (progress_at_start plan 0) ys → rows ≡ others
same_rows laws plan cast xs ys rows others i a b e f g =
    let start = progress_at_start plan 0 in
    a.log
    ∙ (ap (λ (v : Progress). v.now.log)
    (same_end laws (rules_by cast) plan 0 i xs ys start a.end b.end (record { moves = []; leads = refl }) e
    (a.leads, subst (λ (l : List Event). SendsWhatIsOffered (rules_by cast) plan l) a.log a.offers, f)
    (b.leads, subst (λ (l : List Event). SendsWhatIsOffered (rules_by cast) plan l) b.log b.offers, g))
    ∙ sym b.log)
