use Rattle.std.proofs.Common.{◌∙◌, refl}
use Rattle.kt_promises.specs.Steps.{process_of_step, progress_after}
use Rattle.kt_manager.specs.ShownActs.{acts_shown}
use Rattle.kt_machine.specs.Done.{done}
use Rattle.kt_machine.specs.Values.{due}
use Rattle.kt_run.specs.Objects.{first_of, rules_of}
use Rattle.kt_run.proofs.Acting.{acts_along_step, given_offer, others_along}
use Rattle.kt_run.proofs.Holding.{holds_next, holds_still}
use Rattle.kt_run.proofs.Numbering.{rows_by_more}
use Rattle.kt_run.proofs.Telling.{tells_its_rows, told_as}
use Rattle.kt_run.proofs.laws.steps_of_worlds.Goals as goal

pub returns-clause-told : goal.returns-clause-told
returns-clause-told c = λ old new told give first v s r.
    let t = s.makes.runs first v r in
    told_as c.laws_of_runs.ensures old.agenda.plan told give old new first v refl r t.leads t.enabled s.grows s.four s.rows t.asks

pub returns-clause-rows : goal.returns-clause-rows
returns-clause-rows c = λ old new told give first v s r.
    let t = s.makes.runs first v r in
    tells_its_rows c.laws_of_runs.ensures old.agenda.plan told give old new first v refl r t.leads t.enabled s.grows s.four s.rows t.asks

pub returns-clause-numbered : goal.returns-clause-numbered
returns-clause-numbered c = λ told before after p t. rows_by_more told before after t p

pub returns-clause-its : goal.returns-clause-its
returns-clause-its c = λ old new step give acts first v objects before after makes r is h.
    let t = makes.runs first v r in
    holds_next objects (process_of_step step) acts v.now.log (progress_after old.agenda.plan v step give).now.log before after
    (acts_along_step c.laws_of_runs.ensures old.agenda.plan first v step give r.limits r.reached t.enabled (rules_of (first_of objects)) (acts_shown acts) t.asks) is h

pub returns-clause-others : goal.returns-clause-others
returns-clause-others c = λ old new step give acts first v objects p has makes r n h.
    let t = makes.runs first v r in
    holds_still objects p v.now.log (progress_after old.agenda.plan v step give).now.log has
    (others_along c.laws_of_runs.ensures old.agenda.plan first v step give r.limits r.reached t.enabled (rules_of (first_of objects)) p n) h

pub returns-clause-gives : goal.returns-clause-gives
returns-clause-gives c = λ old step give first v objects has r h asked n.
    let p = process_of_step step in
    given_offer (first_of objects) (due (rules_of (first_of objects)) (done v.now.log) p).object has.present give.body
    (c.laws_of_runs.ensures.objects (rules_of (first_of objects)) old.agenda.plan first v p r.limits r.reached ∙ c.laws_of_runs.ensures.up old.agenda.plan v step n)
    h.holds.object (asked n)
