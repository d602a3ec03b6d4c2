use Rattle.std.proofs.Common.{arith, ◌≡◌, ◌∙◌, List, map, set, subst, refl}
use Rattle.std.proofs.lemmas.List.{length-map}
use Rattle.kt_promises.specs.Steps.{process_of_step}
use Rattle.kt_plan.specs.declared.steps.Told.{Told}
use Rattle.kt_run.specs.Telling.{IsNoted}
use Rattle.kt_run.proofs.Noting.{noted_there, noted_nowhere}
use Rattle.kt_run.proofs.journals.Journals.note.Goals as goal
use Rattle.kt_run.proofs.journals.Journals.note.Goals.{in-Some+in_ok-extend_from_slice, in_default}

pub returns : goal.returns
returns c =
    let place : c.index.result ≡ process_of_step c.args.told.step = c.index.ensures.value ∙ c.process_of-p.ensures in
    elim c.match-get_mut.branch [
      | in-Some+in_ok-extend_from_slice w ↦
          rw w.self-inside-is
          (subst (λ (old : List (List Told)). IsNoted c.args.told old (map (λ l. l.items) (set c.self.inside.lists.items c.index.result w.extend_from_slice.new.self))) c.self.view_is
          (noted_there (λ l. l.items) c.self.inside.lists.items c.index.result w.in-Some.list.now w.extend_from_slice.new.self c.args.told (let n = w.in-Some.ensures.variant.0 refl in omega (arith, n)) place w.in-Some.ensures.value w.in_ok-extend_from_slice.ensures.items))
      | in_default w ↦
          rw w.self-inside-is
          (subst (λ (old : List (List Told)). IsNoted c.args.told old (map (λ l. l.items) c.self.inside.lists.items)) c.self.view_is
          (noted_nowhere (map (λ l. l.items) c.self.inside.lists.items) c.args.told
          (λ l. w.in_default.ensures.variant.1 (let n = length-map c.self.inside.lists.items (λ l. l.items) in omega (arith, l, n, place)))))
    ]
