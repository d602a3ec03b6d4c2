-- What is sent for objects is what they offer.
use Rattle.std.proofs.Common.{◌≡◌, ℕ, ℤ, ◌+◌, ◌-◌, ◌<◌, true, false, List, [], ◌∷◌, ◌++◌, length, take, append_assoc, refl, arith, sym, ap, ap₂, subst, ◌∙◌, Some, None, inl, inr}
use Rattle.std.specs.Prelude.{Bool, ◌&&◌, ◌||◌, Option, slice_get, unwrap_or}
use Rattle.std.proofs.lemmas.Bool.{cases_lt}
use Rattle.std.proofs.lemmas.List.{take-append-le, length-append}
use Rattle.std.proofs.lemmas.Option.{slice_get_past}
use Rattle.std.proofs.Math.Nat.{eq-or-lt_of_le}
use Rattle.std.proofs.Math.Seq.{take-append_seam}
use Rattle.kt_spacetime.specs.declared.event.Event.{Event}
use Rattle.kt_spacetime.specs.declared.event.Event.TheVariants.{Sent}
use Rattle.kt_meaning.proofs.Items.{get_left, get_seam, get_right}
use Rattle.kt_protocol.proofs.Choices.{at_if}
use Rattle.kt_machine.specs.Seen.{Seen}
use Rattle.kt_machine.specs.Values.{Rules}
use Rattle.kt_machine.specs.Offers.{offer}
use Rattle.kt_plan.specs.Limits.{Planned, IsPlan}
use Rattle.kt_plan.specs.declared.commands.Command.{Command}
use Rattle.kt_plan.specs.declared.commands.Job.TheVariants.{Send}
use Rattle.kt_plan.specs.declared.steps.Step.{Step}
use Rattle.kt_plan.specs.declared.steps.Step.TheVariants.{Do, Take}
use Rattle.kt_plan.specs.declared.steps.Give.{Give}
use Rattle.kt_plan.specs.declared.steps.Look.{Look}
use Rattle.kt_plan.specs.declared.steps.Look.TheVariants.{Idle, NeedsSave, NeedsBody, Plain}
use Rattle.kt_promises.specs.Looks.{uses_body, look}
use Rattle.kt_meaning.specs.Follows.{commands_of, command_answered}
use Rattle.kt_promises.specs.Runs.{Move, after_moves, RunReaches}
use Rattle.kt_promises.specs.Progress.{Progress, next_command, progress_at_start}
use Rattle.kt_promises.specs.Steps.{enabled, progress_after}
use Rattle.kt_promises.specs.StepActs.{rows_added}
use Rattle.kt_promises.specs.Rows.{refusal_cause, list_taken, AreRowsOfDo, is_offer_job, is_offer_command, is_offer_step, is_sent_row, has_sent_row}
use Rattle.kt_promises.specs.Offers.{GivesOffer, GivesOffers, SendsWhatIsOffered}
use Rattle.kt_promises.proofs.CommandRows.{has_command_row, none_there}
use Rattle.kt_promises.proofs.StepAnswers.{Answered, answered, take_none}
use Rattle.kt_promises.proofs.FollowsRuns.{Follows, first_left, run_follows}
use Rattle.kt_promises.proofs.PhasesOpen.{opening_is}
use Rattle.kt_promises.proofs.OpenPhase.{in_phase_seen}
use Rattle.kt_promises.proofs.RowsFit.{fits}
use Rattle.kt_promises.proofs.RunSteps.{start_reached_seen, next_reached_seen}
use Rattle.kt_promises.proofs.ActsOfSteps.{log_grows}
use Rattle.kt_promises.proofs.OffersSent.{offered_seen, sent_seen}

needs_body : (l : Look) → uses_body l ≡ true → l ≡ NeedsBody
needs_body Idle e = absurd (cc (e))
needs_body NeedsSave e = absurd (cc (e))
needs_body NeedsBody e = refl
needs_body Plain e = absurd (cc (e))

module _ {V : Type 0} (rules : ℕ → Rules V) (plan : Planned) where
  none_sent : SendsWhatIsOffered rules plan []
  none_sent n p q body c e f j = absurd (let z = slice_get_past {X = Event} [] n (omega arith) in cc (e, z))

  -- rows behind others change nothing of what is so of these
  sent_before : (log rows : List Event) → SendsWhatIsOffered rules plan log → (n p q : ℕ) (body : ℤ) (c : Command) → n < length log → slice_get (log ++ rows) n ≡ Some (Sent p q body) →
      command_answered plan (take n (log ++ rows)) (Sent p q body) ≡ Some c → c.job ≡ Send q None → offer (rules p) (take n (log ++ rows)) p ≡ Some body
  sent_before log rows a n p q body c l e f j =
      let same : take n (log ++ rows) ≡ take n log = take-append-le n log rows (omega (arith, l)) in
      subst (λ (x : List Event). offer (rules p) x p ≡ Some body) (sym same)
      (a n p q body c (sym (get_left log rows n l) ∙ e) (ap (λ (x : List Event). command_answered plan x (Sent p q body)) (sym same) ∙ f) j)

  -- rows that are no command rows
  idle_sent : (log rows : List Event) → SendsWhatIsOffered rules plan log → has_command_row rows ≡ false → SendsWhatIsOffered rules plan (log ++ rows)
  idle_sent log rows a none n p q body c e f j = elim (cases_lt n (length log)) [
    | inl l ↦ sent_before log rows a n p q body c l e f j
    | inr l ↦ absurd (let z = none_there rows (n - length log) (Sent p q body) none (sym (get_right log rows (n - length log) n (omega (arith, l))) ∙ e) in cc (z))
  ]

  -- one more row, which answers a command with what is offered, if it has no body of its own
  command_sent : (log : List Event) (row : Event) → SendsWhatIsOffered rules plan log →
      ((p q : ℕ) (body : ℤ) (c : Command) → row ≡ Sent p q body → command_answered plan log row ≡ Some c → c.job ≡ Send q None → offer (rules p) log p ≡ Some body) → SendsWhatIsOffered rules plan (log ++ row ∷ [])
  command_sent log row a its n p q body c e f j = elim (cases_lt n (length log)) [
    | inl l ↦ sent_before log (row ∷ []) a n p q body c l e f j
    | inr l ↦ elim (eq-or-lt_of_le l) [
      | inl s ↦ at_it s
      | inr s ↦ absurd (let z = slice_get_past (log ++ row ∷ []) n (let y = length-append log (row ∷ []) in omega (arith, s, y)) in cc (e, z))
    ]
  ]
    where
      at_it : length log ≡ n → offer (rules p) (take n (log ++ row ∷ [])) p ≡ Some body
      at_it s =
          let all : take n (log ++ row ∷ []) ≡ log = ap (λ (x : ℕ). take x (log ++ row ∷ [])) (sym s) ∙ take-append_seam log (row ∷ []) in
          let there : Some row ≡ Some (Sent p q body) = sym (get_seam log row []) ∙ (ap (slice_get (log ++ row ∷ [])) s ∙ e) in
          let is : row ≡ Sent p q body = ap (λ (o : Option Event). unwrap_or o row) there in
          subst (λ (x : List Event). offer (rules p) x p ≡ Some body) (sym all)
          (its p q body c is (ap₂ (command_answered plan) (sym all) is ∙ f) j)

module _ {V : Type 0} (rules : ℕ → Rules V) (plan : Planned) (first : ℕ) (i : IsPlan plan) where
  module _ (w : Progress) (give : Give) (r : RunReaches plan first w) (before : SendsWhatIsOffered rules plan w.now.log) where
    takes_sent : (p q : ℕ) → enabled plan w (Take p q) ≡ true → SendsWhatIsOffered rules plan (progress_after plan w (Take p q) give).now.log
    takes_sent p q e = subst (SendsWhatIsOffered rules plan) (sym (log_grows plan first w (Take p q) give i r e))
        (idle_sent rules plan w.now.log (rows_added plan w (Take p q) give) before
        (take_none w.now (progress_after plan w (Take p q) give).now p q (list_taken w.now p q) (rows_added plan w (Take p q) give) (fits plan first w (Take p q) give i r e).fit))

    does_sent : (p : ℕ) → enabled plan w (Do p) ≡ true → GivesOffer rules plan w (Do p) give → SendsWhatIsOffered rules plan (progress_after plan w (Do p) give).now.log
    does_sent p e offers = subst (SendsWhatIsOffered rules plan) (sym grows)
        (idle_sent rules plan (w.now.log ++ a.row ∷ []) a.more (command_sent rules plan w.now.log a.row before its) a.rest)
      where
        c : (c : Command) × (next_command plan w p ≡ Some c) × (c.phase ≡ w.phase)
        c = in_phase_seen plan first w p i r e

        rows : List Event
        rows = rows_added plan w (Do p) give

        a : Answered p c.0.job rows
        a = answered (w.now.begun + 1) p c.0.job give.body (refusal_cause (w.now.states p) give.able c.0.job) rows
            (subst (λ (o : Option Command). AreRowsOfDo w.now p give o rows) c.1 (fits plan first w (Do p) give i r e).fit)

        grows : (progress_after plan w (Do p) give).now.log ≡ (w.now.log ++ a.row ∷ []) ++ a.more
        grows = log_grows plan first w (Do p) give i r e ∙ (ap (λ (l : List Event). w.now.log ++ l) a.are ∙ sym (append_assoc w.now.log (a.row ∷ []) a.more))

        answers : command_answered plan w.now.log a.row ≡ Some c.0
        answers =
            let n = (run_follows plan first i w r).along.counts p in
            let kind = a.kind in
            let by = a.by in
            let next : slice_get (commands_of p plan.commands) (w.done p) ≡ Some c.0 = sym (first_left (w.done p) (commands_of p plan.commands)) ∙ c.1 in
            rw (kind, by, n) next

        its : (u q : ℕ) (body : ℤ) (d : Command) → a.row ≡ Sent u q body → command_answered plan w.now.log a.row ≡ Some d → d.job ≡ Send q None → offer (rules u) w.now.log u ≡ Some body
        its u q body d is found j =
            let same : Some c.0 ≡ Some d = sym answers ∙ found in
            let own : c.0.job ≡ Send q None = ap (λ (o : Option Command). (unwrap_or o d).job) same ∙ j in
            let leaves : is_offer_step plan w (Do p) ≡ true = ap is_offer_command c.1 ∙ ap is_offer_job own in
            let sends : has_sent_row rows ≡ true = ap has_sent_row a.are ∙ ap (λ (row : Event). is_sent_row row || has_sent_row a.more) is in
            let asks : look plan w (Do p) ≡ NeedsBody = needs_body (look plan w (Do p)) (sym (sent_seen plan first w (Do p) give i r e) ∙ ap₂ (λ (x y : Bool). x && y) leaves sends) in
            let one = offered_seen plan first w p give i r asks in
            let row : Some (Sent u q body) ≡ Some (Sent p one.0 give.body) = ap (λ (l : List Event). slice_get l 0) (sym (a.are ∙ ap (λ (x : Event). x ∷ a.more) is) ∙ one.1) in
            let by : u ≡ p = cc (row) in
            let given : body ≡ give.body = cc (row) in
            subst (λ (x : ℕ). offer (rules x) w.now.log x ≡ Some body) (sym by) (offers asks ∙ ap Some (sym given))

    next_sent : (x : Step) → enabled plan w x ≡ true → GivesOffer rules plan w x give → SendsWhatIsOffered rules plan (progress_after plan w x give).now.log
    next_sent (Do p) e offers = does_sent p e offers
    next_sent (Take p q) e offers = takes_sent p q e

  sent_from : (moves : List Move) (u w : Progress) → RunReaches plan first u → GivesOffers rules plan u moves → after_moves plan u moves ≡ Some w → SendsWhatIsOffered rules plan u.now.log → SendsWhatIsOffered rules plan w.now.log
  sent_from [] u w s o e a = subst (λ (v : Progress). SendsWhatIsOffered rules plan v.now.log) (ap (λ (v : Option Progress). unwrap_or v u) e) a
  sent_from (x ∷ xs) u w s o e a = at_if (λ (v : Option Progress). v ≡ Some w → SendsWhatIsOffered rules plan w.now.log) (enabled plan u x.step) (after_moves plan (progress_after plan u x.step x.give) xs) None
      (λ b z. sent_from xs (progress_after plan u x.step x.give) w (next_reached_seen plan first u x.step x.give i s b) o.1 z (next_sent u x.give s a x.step b o.0))
      (λ b z. absurd (cc (z))) e

  pub offers_seen : (moves : List Move) (w : Progress) → after_moves plan (progress_at_start plan first) moves ≡ Some w → GivesOffers rules plan (progress_at_start plan first) moves → SendsWhatIsOffered rules plan w.now.log
  offers_seen moves w e o = sent_from moves (progress_at_start plan first) w (start_reached_seen plan first) o e
      (subst (SendsWhatIsOffered rules plan) (sym (ap (λ (v : Seen). v.log) (opening_is plan first).now)) (none_sent rules plan))
