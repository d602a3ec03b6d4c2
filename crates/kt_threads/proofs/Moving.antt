-- Steps that lead from world to world are moves of a run.
use Rattle.std.proofs.Common.{◌≡◌, ◌∙◌, ◌<◌, length, arith, ℕ, ℤ, Bool, true, false, List, [], ◌∷◌, ◌++◌, append-nil, Option, Some, None, map, refl, sym, subst, ap}
use Rattle.std.specs.List.{AllZip}
use Rattle.std.specs.Prelude.{if◌then◌else◌}
use Rattle.kt_core.specs.Agendas.{Agenda}
use Rattle.kt_core.specs.Shown.{Mirrors}
use Rattle.kt_core.specs.Worlds.{World}
use Rattle.kt_object.specs.Holdings.{Content}
use Rattle.kt_plan.specs.Limits.{Planned, IsPlan}
use Rattle.kt_plan.specs.declared.steps.Told.{Told}
use Rattle.kt_promises.specs.Offers.{SendsWhatIsOffered}
use Rattle.kt_promises.specs.Runs.{after_moves, RunReaches}
use Rattle.kt_promises.specs.Steps.{enabled, progress_after, is_at_rest}
use Rattle.kt_promises.specs.Told.{told_by}
use Rattle.kt_promises.specs.Progress.{Progress, progress_at_start}
use Rattle.kt_run.specs.Objects.{Belongings, rules_of, rules_by, first_of, HoldsDue}
use Rattle.kt_run.specs.Runs.{IsRun}
use Rattle.kt_run.specs.Telling.{numbered_rows_by, numbered_rows_told, AreToldTheirRows, IsToldAs}
use Rattle.kt_machine.specs.Done.{done}
use Rattle.kt_machine.specs.Values.{Rules, due}
use Rattle.kt_spacetime.specs.declared.event.Event.{Event}
use Rattle.kt_threads.specs.Errands.{errands_of}
use Rattle.kt_threads.specs.Histories as histories
use Rattle.kt_threads.specs.Histories.{IsMade, StepsLead, IsHistory, made_by, told_to, AreTold}
use Rattle.kt_threads.specs.Moves.{move_of}
use Rattle.kt_threads.specs.WorldLaws.{WorldLaws}
use Rattle.kt_threads.specs.Workers.{AreServed}
use Rattle.kt_threads.specs.Telling.{AreToldAsInRun}
use Rattle.kt_threads.proofs.Serving.{GivesOf, KeepsDue, gives_all, served_more}
use Rattle.kt_threads.proofs.Telling.{rows_more, told_more}
use Rattle.kt_threads.specs.declared.state.Made.{Made}

-- a run of the plan leads to this world, and the moves of these steps lead there from v
record Goes (plan : Planned) (first : ℕ) (v : Progress) (steps : List Made) (new : World) : Type 0 where
  end : Progress
  plans : new.agenda.plan ≡ plan
  leads : after_moves plan v (map move_of steps) ≡ Some end
  shown : Mirrors new.agenda new.system first end
  rows : (p : ℕ) → numbered_rows_by p end.now.log ≡ numbered_rows_by p v.now.log ++ numbered_rows_told (told_to p steps)
  told : (p : ℕ) → AllZip IsToldAs (told_to p steps) (told_by plan v p (map move_of steps))
  served : (objects : List Content) (p : ℕ) → KeepsDue plan objects p v steps end

-- where an enabled move leads, and others after it
one_more : (on : Bool) (there : Option Progress) (end : Progress) → on ≡ true → there ≡ Some end → (if on then there else None) ≡ Some end
one_more true there end e f = f
one_more false there end e f = absurd (cc (e))

-- a step that was made is enabled in a run that leads to its world
is_enabled : (plan : Planned) (old new : World) (made : Made) (first : ℕ) (v : Progress) → old.agenda.plan ≡ plan → IsMade old made new
    → Mirrors old.agenda old.system first v → enabled plan v made.told.step ≡ true
is_enabled plan old new made first v plans step r =
    subst (λ (p : Planned). enabled p v made.told.step ≡ true) plans (step.makes.runs first v r).enabled

-- where the steps after the first one lead, all lead
goes_first : WorldLaws → (plan : Planned) (made : Made) (steps : List Made) (before after new : World) (first : ℕ) (v : Progress) → before.agenda.plan ≡ plan
    → Mirrors before.agenda before.system first v → IsMade before made after
    → Goes plan first (progress_after plan v made.told.step made.give) steps new → Goes plan first v (made ∷ steps) new
goes_first laws plan made steps before after new first v plans r step rest = record {
  end = rest.end;
  plans = rest.plans;
  leads = one_more (enabled plan v made.told.step) _ rest.end on rest.leads;
  shown = rest.shown;
  rows = λ p. rest.rows p ∙ rows_more laws plan made before after first v plans r step p steps;
  told = λ p. told_more laws plan made before after first v plans r step p steps (rest.told p);
  served = λ objects p. served_more laws plan made before after first v plans r step objects p steps rest.end (rest.served objects p);
}
  where
    on : enabled plan v made.told.step ≡ true
    on = is_enabled plan before after made first v plans step r

-- a run goes on by a step that was made
run_after : (plan : Planned) (made : Made) (before after : World) (first : ℕ) (v : Progress) → before.agenda.plan ≡ plan
    → Mirrors before.agenda before.system first v → IsMade before made after
    → Mirrors after.agenda after.system first (progress_after plan v made.told.step made.give)
run_after plan made before after first v plans r step =
    subst (λ (p : Planned). Mirrors after.agenda after.system first (progress_after p v made.told.step made.give)) plans
    ((step.makes.runs first v r).leads)

goes_on : WorldLaws → (plan : Planned) (steps : List Made) (old new : World) (first : ℕ) (v : Progress) → old.agenda.plan ≡ plan
    → Mirrors old.agenda old.system first v → StepsLead old steps new → Goes plan first v steps new
goes_on laws plan [] old new first v plans r same = record {
  end = v;
  plans = ap (λ (a : Agenda). a.plan) same.agenda ∙ plans;
  leads = refl;
  shown = laws.same old new first v same r;
  rows = λ p. sym (append-nil (numbered_rows_by p v.now.log));
  told = λ p. tt;
  served = λ objects p b now h same. (subst (λ (c : Belongings). HoldsDue objects v.now.log p c) (sym same) h, tt);
}
goes_on laws plan (made ∷ steps) old new first v plans r leads =
    let here : Mirrors leads.0.agenda leads.0.system first v = laws.same old leads.0 first v leads.2 r in
    let kept : leads.0.agenda.plan ≡ plan = ap (λ (a : Agenda). a.plan) leads.2.agenda ∙ plans in
    let w = progress_after plan v made.told.step made.give in
    let next : Mirrors leads.1.agenda leads.1.system first w = run_after plan made leads.0 leads.1 first v kept here leads.3 in
    goes_first laws plan made steps leads.0 leads.1 new first v kept here leads.3
    (goes_on laws plan steps leads.1 new first w (leads.3.keeps.plan ∙ kept) next leads.4)

module _ (laws : WorldLaws) (plan : Planned) (steps : List Made) (rows : List Event) (lived : histories.IsWholeHistory plan steps rows) where
  abbrev start : Progress
  start = progress_at_start plan 0

  h : IsHistory plan steps lived.end
  h = lived.history

  goes : Goes plan 0 start steps lived.end
  goes = goes_on laws plan steps h.begin lived.end 0 start h.opening.plans h.starts h.leads

  at_rest : is_at_rest plan goes.end ≡ true
  at_rest = subst (λ (p : Planned). is_at_rest p goes.end ≡ true) goes.plans
      (laws.rest lived.end 0 goes.end goes.shown lived.rest)

  rows_are : rows ≡ goes.end.now.log
  rows_are = lived.log ∙ goes.shown.now.log

  opens : start.now.log ≡ []
  opens = sym h.starts.now.log ∙ h.opening.rows

  their_rows : (p : ℕ) → numbered_rows_told (told_to p steps) ≡ numbered_rows_by p rows
  their_rows p =
      ap (λ (l : List Event). numbered_rows_by p l ++ numbered_rows_told (told_to p steps)) (sym opens)
      ∙ (sym (goes.rows p) ∙ ap (numbered_rows_by p) (sym rows_are))

  -- each process is told its rows, as the run tells them
  pub told_their_rows : (processes : ℕ) (told : List (List Told)) → AreTold processes steps told → AreToldTheirRows rows told
  told_their_rows processes told t = λ p l. ap numbered_rows_told (t.each p (let n = t.count in omega (arith, l, n))) ∙ their_rows p

  pub told_as_in_run : (processes : ℕ) (told : List (List Told)) → AreTold processes steps told → AreToldAsInRun plan steps told
  told_as_in_run processes told t = λ p l.
      subst (λ (k : List Told). AllZip IsToldAs k (told_by plan start p (map move_of steps)))
      (sym (t.each p (let n = t.count in omega (arith, l, n)))) (goes.told p)

  -- a process that had what is due to it at first, and made its steps, has what is due to it
  pub served_of : (objects : List Content) (p : ℕ) (b now : Belongings) → HoldsDue objects [] p b → AreServed b (errands_of (made_by p steps)) now
      → HoldsDue objects rows p now × GivesOf (rules_of (first_of objects)) p plan start (map move_of steps)
  served_of objects p b now h s =
      let t = goes.served objects p b now (subst (λ (l : List Event). HoldsDue objects l p b) (sym opens) h) s in
      (subst (λ (l : List Event). HoldsDue objects l p now) (sym rows_are) t.0, t.1)

  limits : IsPlan plan
  limits = subst (λ (p : Planned). IsPlan p) goes.plans goes.shown.limits

  reached : RunReaches plan 0 goes.end
  reached = subst (λ (p : Planned). RunReaches p 0 goes.end) goes.plans goes.shown.reached

  -- the steps of a history that ends at rest are the moves of a run, where each process gives what its object offers
  pub run_of : (cast : List (List Content))
      → ((p : ℕ) → p < length plan.names → GivesOf (rules_by cast p) p plan start (map move_of steps))
      → IsRun plan cast (map move_of steps) rows
  run_of cast gives = record {
    end = goes.end;
    leads = goes.leads;
    rest = at_rest;
    log = rows_are;
    offers = subst (SendsWhatIsOffered (rules_by cast) plan) (sym rows_are)
        (laws.offers (rules_by cast) plan 0 (map move_of steps) goes.end limits goes.leads
        (gives_all (rules_by cast) plan (map move_of steps) start goes.end goes.leads gives));
  }

  pub nothing_tentative : (rules : Rules (List ℤ)) (p : ℕ) → (due rules (done rows) p).tentative ≡ None
  nothing_tentative rules p =
      subst (λ (l : List Event). (due rules (done l) p).tentative ≡ None) (sym rows_are)
      (laws.rested rules plan 0 goes.end p limits reached at_rest)
