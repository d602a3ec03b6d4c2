use Rattle.std.proofs.Common.{rules, ◌∙◌, length, map}
use Rattle.std.proofs.lemmas.List.{length-map}
use Rattle.kt_threads.proofs.Moving.{told_as_in_run, told_their_rows}
use Rattle.kt_threads.proofs.Noting.{tells_of}
use Rattle.kt_threads.proofs.outcome.live.Goals as goal

pub returns-clause-lived : goal.returns-clause-lived
returns-clause-lived g c =
    let plan = c.args.plan.now in
    let steps = map (λ step. step.value) c.in_ok-lived.lived.steps.items in
    let ends = c.in_ok-lived.ensures in
    let tells = tells_of (length plan.names) steps (map (λ list. list.items) c.in_ok-lived.lived.told.items) ends.told
    (length-map c.in_ok-lived.lived.told.items (λ list. list.items) ∙ (search rules)) in
    record {
      steps = steps;
      run = ends.run;
      tells = tells;
      as_in_run = told_as_in_run c.laws_of_worlds.ensures plan steps c.in_ok-lived.lived.log.rows ends.history (length plan.names) _ tells;
    }

pub returns-clause-told : goal.returns-clause-told
returns-clause-told g c =
    let plan = c.args.plan.now in
    let steps = map (λ step. step.value) c.in_ok-lived.lived.steps.items in
    let ends = c.in_ok-lived.ensures in
    told_their_rows c.laws_of_worlds.ensures plan steps c.in_ok-lived.lived.log.rows ends.history (length plan.names) _
    (tells_of (length plan.names) steps (map (λ list. list.items) c.in_ok-lived.lived.told.items) ends.told
    (length-map c.in_ok-lived.lived.told.items (λ list. list.items) ∙ (search rules)))
