-- A run played again by its steps is the same.
use Rattle.std.proofs.Common.{◌≡◌, ◌<◌, ◌≤◌, ℕ, All, Bool, true, false, List, [], ◌∷◌, ◌++◌, length, map, take, append-nil, append_assoc, arith, refl, sym, ap, subst, ◌∙◌, Some, None}
use Rattle.std.specs.Prelude.{Option, slice_get, unwrap_or, if◌then◌else◌}
use Rattle.std.proofs.lemmas.List.{get_or_append_left, length-append, take-append-le}
use Rattle.std.proofs.lemmas.Option.{slice_get-get_or, slice_get_within}
use Rattle.kt_spacetime.specs.declared.event.Event.{Event}
use Rattle.kt_spacetime.specs.declared.event.Event.TheVariants.{Sent}
use Rattle.kt_object.specs.Holdings.{Content}
use Rattle.kt_plan.specs.Limits.{Planned, IsPlan}
use Rattle.kt_plan.specs.Names.{AreNames}
use Rattle.kt_plan.specs.declared.steps.Step.{Step}
use Rattle.kt_meaning.specs.Follows.{command_answered}
use Rattle.kt_meaning.specs.Promised.{IsCertified}
use Rattle.kt_promises.specs.Offers.{SendsWhatIsOffered}
use Rattle.kt_promises.specs.Progress.{Progress, progress_at_start}
use Rattle.kt_promises.specs.Runs.{Move, AreDefaultMoves, RunReaches, after_moves}
use Rattle.kt_promises.specs.StepActs.{rows_added}
use Rattle.kt_promises.specs.Steps.{enabled, is_at_rest, progress_after}
use Rattle.kt_promises.specs.Told.{rows_along}
use Rattle.kt_run.specs.Objects.{rules_by}
use Rattle.kt_run.specs.OneRun.{SavesAll}
use Rattle.kt_run.specs.Orders.{IsOneOrderedRun, IsOrderedRun, IsRunBy, kept_steps}
use Rattle.kt_run.specs.Runs.{IsLogOfRun, IsPlayed, IsRun}
use Rattle.kt_run.specs.declared.orders.Order.{Order}
use Rattle.kt_run.specs.declared.recorded.Keep.{Keep}
use Rattle.kt_run.specs.declared.recorded.Keep.TheVariants.{Log, Steps}
use Rattle.kt_scenario.specs.Steps.{AreSteps, most_steps}
use Rattle.kt_scenario.specs.Written.{IsStepOf, steps_text}
use Rattle.kt_program.specs.Recorded.{AreReadBack, IsKeptRun, IsPlayedAgain}
use Rattle.kt_program.specs.KeptLives.{IsKeptLive}
use Rattle.kt_program.specs.Made.{AreListed, IsMadeAs, IsMadeOverNew}
use Rattle.kt_program.specs.Played.{AreNew}
use Rattle.kt_program.specs.declared.line.By.{By}
use Rattle.kt_program.specs.declared.line.By.TheVariants.{Serial, Threads}
use Rattle.kt_program.proofs.OfOthers.{steps_of_run}
use Rattle.kt_program.proofs.RunLaws.{RunLaws}

at_if : {X : Type 0} (P : X → Type 0) (b : Bool) (x y : X) → (b ≡ true → P x) → (b ≡ false → P y) → P (if b then x else y)
at_if P true x y f g = f refl
at_if P false x y f g = g refl

-- where moves lead, the later ones lead on
leads_on : (plan : Planned) (xs ys : List Move) (u v : Progress) → after_moves plan u xs ≡ Some v → after_moves plan u (xs ++ ys) ≡ after_moves plan v ys
leads_on plan [] ys u v e = ap (λ (o : Option Progress). after_moves plan (unwrap_or o u) ys) e
leads_on plan (x ∷ xs) ys u v e = at_if (λ (o : Option Progress). o ≡ Some v → (if enabled plan u x.step then after_moves plan (progress_after plan u x.step x.give) (xs ++ ys) else None) ≡ after_moves plan v ys) (enabled plan u x.step) (after_moves plan (progress_after plan u x.step x.give) xs) None
    (λ b z. rw b (leads_on plan xs ys (progress_after plan u x.step x.give) v z))
    (λ b z. absurd (cc (z))) e

-- and add their rows to those of the earlier ones
rows_on : (plan : Planned) (xs ys : List Move) (u v : Progress) → after_moves plan u xs ≡ Some v → rows_along plan u (xs ++ ys) ≡ rows_along plan u xs ++ rows_along plan v ys
rows_on plan [] ys u v e = ap (λ (o : Option Progress). rows_along plan (unwrap_or o u) ys) e
rows_on plan (x ∷ xs) ys u v e =
    let next : Progress = progress_after plan u x.step x.give in
    let rows : List Event = rows_added plan u x.step x.give in
    at_if (λ (o : Option Progress). o ≡ Some v → rows ++ rows_along plan next (xs ++ ys) ≡ (rows ++ rows_along plan next xs) ++ rows_along plan v ys) (enabled plan u x.step) (after_moves plan next xs) None
    (λ b z. ap (λ (l : List Event). rows ++ l) (rows_on plan xs ys next v z) ∙ sym (append_assoc rows (rows_along plan next xs) (rows_along plan v ys)))
    (λ b z. absurd (cc (z))) e

saves_first : (plan : Planned) (xs ys : List Move) (u : Progress) → SavesAll plan u (xs ++ ys) → SavesAll plan u xs
saves_first plan [] ys u s = tt
saves_first plan (x ∷ xs) ys u s = (s.0, saves_first plan xs ys (progress_after plan u x.step x.give) s.1)

-- what is so of all sends of a log is so of those of its front
offered_first : (cast : List (List Content)) (plan : Planned) (xs ys : List Event) → SendsWhatIsOffered (rules_by cast) plan (xs ++ ys) → SendsWhatIsOffered (rules_by cast) plan xs
offered_first cast plan xs ys all n p q body c there answers own =
    let within : n < length xs = slice_get_within xs n (Sent p q body) there in
    let e : Event = Sent p q body in
    let front : take n (xs ++ ys) ≡ take n xs = take-append-le n xs ys (omega (arith, within)) in
    let same : slice_get (xs ++ ys) n ≡ slice_get xs n =
    slice_get-get_or (xs ++ ys) n e (let l = length-append xs ys in omega (arith, within, l))
    ∙ (ap Some (get_or_append_left xs ys e n within) ∙ sym (slice_get-get_or xs n e within)) in
    let answered : command_answered plan (take n (xs ++ ys)) e ≡ Some c = subst (λ (l : List Event). command_answered plan l e ≡ Some c) (sym front) answers in
    rw (front) at (all n p q body c (same ∙ there) answered own)

module _ (laws : RunLaws) (plan : Planned) (cast : List (List Content)) (limits : IsPlan plan) where
  -- no default step is made where all is at rest
  none_more : (w : Progress) (ms : List Move) → RunReaches plan 0 w → is_at_rest plan w ≡ true → AreDefaultMoves plan w ms → ms ≡ []
  none_more w [] r rest d = refl
  none_more w (m ∷ ms) r rest d =
      let on : enabled plan w m.step ≡ true = d.0.on in
      let off : enabled plan w m.step ≡ false = (laws.none plan 0 w limits r).0 ((laws.exactly plan 0 w limits r).0 rest) m.step in
      absurd (cc (on, off))

  module _ (steps : List Step) (rows : List Event) (moves : List Move) (made : map (λ (m : Move). m.step) moves ≡ steps) (run : IsRun plan cast moves rows) where
    abbrev start : Progress
    start = progress_at_start plan 0

    -- the run by these moves begins with them
    abbrev play : IsPlayed plan cast steps rows
    play = record {
      given = moves;
      more = [];
      begins = made;
      run = subst (λ (ms : List Move). IsRun plan cast ms rows) (sym (append-nil moves)) run;
      begun = run.end;
      leads = run.leads;
      default = tt;
    }

    same_play : (others : List Event) (other : IsPlayed plan cast steps others) → SavesAll plan start (moves ++ []) → SavesAll plan start (other.given ++ other.more) → others ≡ rows
    same_play others other s t =
        let reached : RunReaches plan 0 other.begun = record { moves = other.given; leads = other.leads } in
        let on : after_moves plan other.begun other.more ≡ Some other.run.end = sym (leads_on plan other.given other.more start other.begun other.leads) ∙ other.run.leads in
        let log : other.run.end.now.log ≡ other.begun.now.log ++ rows_along plan other.begun other.more =
        laws.log plan 0 (other.given ++ other.more) other.run.end limits other.run.leads
        ∙ (rows_on plan other.given other.more start other.begun other.leads
        ∙ ap (λ (l : List Event). l ++ rows_along plan other.begun other.more) (sym (laws.log plan 0 other.given other.begun limits other.leads))) in
        let offers = offered_first cast plan other.begun.now.log (rows_along plan other.begun other.more)
        (subst (λ (l : List Event). SendsWhatIsOffered (rules_by cast) plan l) (other.run.log ∙ log) other.run.offers) in
        let here : other.begun ≡ run.end = laws.ends plan cast other.given moves other.begun run.end limits other.leads run.leads (other.begins ∙ sym made)
        offers (subst (λ (l : List Event). SendsWhatIsOffered (rules_by cast) plan l) run.log run.offers)
        (saves_first plan other.given other.more start t) (saves_first plan moves [] start s) in
        let none = none_more other.begun other.more reached (subst (λ (w : Progress). is_at_rest plan w ≡ true) (sym here) run.rest) other.default in
        let end : other.begun ≡ other.run.end = ap (λ (o : Option Progress). unwrap_or o other.begun) (subst (λ (ms : List Move). after_moves plan other.begun ms ≡ Some other.run.end) none on) in
        other.run.log ∙ (ap (λ (w : Progress). w.now.log) (sym end ∙ here) ∙ sym run.log)

  played_again : (steps : List Step) (rows : List Event) → IsRunBy plan cast steps rows → IsPlayedAgain plan cast steps rows
  played_again steps rows by = record { play = play steps rows by.moves by.made by.run; same = same_play steps rows by.moves by.made by.run }

  -- the law of a text of steps
  abbrev Reads : Type 0
  Reads = (names : List (List ℕ)) (list : List Step) → AreNames names → All (IsStepOf (length names)) list → length list ≤ most_steps → AreSteps names (steps_text names list) list

  read_back : Reads → (steps : List Step) (rows : List Event) → IsRunBy plan cast steps rows → AreReadBack plan steps
  read_back reads steps rows by few = reads plan.names steps limits.names (steps_of_run laws plan limits cast steps rows by) few

  pub kept_run : (given : List Step) (order : Order) (steps : List Step) (rows : List Event) → Reads → IsOrderedRun plan cast given order steps rows → IsCertified rows → IsKeptRun plan cast given order steps rows
  kept_run given order steps rows reads o certified = record { run = o; certified = certified; again = played_again steps rows o.by; read = read_back reads steps rows o.by }

  pub kept_live : (steps : List Step) (rows : List Event) → Reads → IsRunBy plan cast steps rows → IsCertified rows → IsKeptLive plan cast steps rows
  kept_live steps rows reads by certified = record { run = by; certified = certified; again = played_again steps rows by; read = read_back reads steps rows by }

  -- over new objects, whatever is kept
  module _ (by : By) (order : Order) (keep : Keep) (given listed : List Step) (rows : List Event) (reads : Reads) (new : AreNew plan cast) (certified : IsCertified rows) where
    pub made_serially : (was : Order) → by ≡ Serial → was ≡ order → IsOneOrderedRun plan cast given was keep listed rows → IsMadeOverNew by order keep plan given listed rows
    made_serially was e same one =
        let is : IsKeptRun plan cast given order one.steps rows = subst (λ (o : Order). IsKeptRun plan cast given o one.steps rows) same (kept_run given was one.steps rows reads one.run certified) in
        (one.steps, (λ k. one.kept ∙ ap (λ (x : Keep). kept_steps x one.steps) k), (cast, new, subst (λ (b : By). IsMadeAs b order plan cast given one.steps rows) (sym e) is))

    steps_lived : (k : Keep) → (k ≡ Steps → IsRunBy plan cast listed rows) → IsLogOfRun plan cast rows → (made : List Step) × AreListed k listed made × IsRunBy plan cast made rows
    steps_lived Steps run lived = (listed, (λ e. refl), run refl)
    steps_lived Log run lived = (map (λ (m : Move). m.step) lived.0, (λ e. absurd (cc (e))), record { moves = lived.0; made = refl; run = lived.1 })

    pub made_in_threads : by ≡ Threads → (keep ≡ Steps → IsRunBy plan cast listed rows) → IsLogOfRun plan cast rows → IsMadeOverNew by order keep plan given listed rows
    made_in_threads e run lived =
        let made = steps_lived keep run lived in
        (made.0, made.1, (cast, new, subst (λ (b : By). IsMadeAs b order plan cast given made.0 rows) (sym e) (kept_live made.0 rows reads made.2 certified)))
