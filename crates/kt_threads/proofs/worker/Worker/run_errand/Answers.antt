use Rattle.std.proofs.Common.{rules, ◌≡◌, ◌∙◌, ◌++◌, [], ◌∷◌, Some, ap, refl, true}
use Rattle.kt_threads.specs.Books.{DoneBy}
use Rattle.kt_threads.specs.declared.asked.Entry.{Entry}
use Rattle.kt_object.specs.Holdings.{content}
use Rattle.kt_threads.specs.Faults.{live_of_act}
use Rattle.kt_threads.specs.declared.faults.LiveFault.TheVariants as live
use Rattle.kt_threads.proofs.Rejecting.{ended_keeps, of_done, of_other, of_refused}
use Rattle.kt_threads.proofs.Working.{left_on, served_on}
use Rattle.kt_threads.proofs.worker.Worker.run_errand.Goals as goal

pub returns : goal.returns
returns g c =
    let now = c.args.self.now in
    let took : c.take.result ≡ true = search rules in
    let more : c.take.new.self.errands ≡ now.done.errands ++ c.args.errand ∷ [] =
    ap (λ (d : DoneBy). d.errands) (c.take.ensures.took took) ∙ ap (λ (e : Entry). now.done.errands ++ e.errand ∷ []) c.requires.noted in (
      λ first s whole.
          served_on (λ b. content ((goal.Recoverable-dyn g (b.vtable, b.value)).kind_of b.value) ((goal.Recoverable-dyn g (b.vtable, b.value)).value_of b.value))
          first now.done.errands c.take.new.self.errands c.args.errand c.args.errand.acts now.held c.obey.new.self
          more refl c.requires.offers c.in_default.ensures.does c.in_default.ensures.spares (s whole),
      λ all s whole. left_on all now.held.spares.items c.obey.new.self.spares.items _ c.in_default.ensures.spares (s whole),
      λ kind objects has. of_done (λ b. content ((goal.Recoverable-dyn g (b.vtable, b.value)).kind_of b.value) ((goal.Recoverable-dyn g (b.vtable, b.value)).value_of b.value)) (λ b saved. (goal.Recoverable-dyn g (b.vtable, b.value)).may_reject b.value saved) kind objects now _ c.args.errand.acts refl c.in_default.ensures.does c.in_default.ensures.rejects has,
    )

pub returns-then-not-take : goal.returns-then-not-take
returns-then-not-take g c =
    let now = c.args.self.now in
    let held = ap (λ s. s.held) c.end.ensures in
    let fault = ap (λ s. s.fault) c.end.ensures in
    ended_keeps (λ b. content ((goal.Recoverable-dyn g (b.vtable, b.value)).kind_of b.value) ((goal.Recoverable-dyn g (b.vtable, b.value)).value_of b.value)) (λ b saved. (goal.Recoverable-dyn g (b.vtable, b.value)).may_reject b.value saved) now c.end.new.self live.Differ fault
    (λ kind objects has. of_other (λ b. content ((goal.Recoverable-dyn g (b.vtable, b.value)).kind_of b.value) ((goal.Recoverable-dyn g (b.vtable, b.value)).value_of b.value)) (λ b saved. (goal.Recoverable-dyn g (b.vtable, b.value)).may_reject b.value saved) kind objects now c.end.new.self held fault has)

pub returns-in-Err : goal.returns-in-Err
returns-in-Err g c =
    let now = c.args.self.now in
    let refused = c.in-Err.ensures in
    let held = ap (λ s. s.held) c.end-in-Err.ensures in
    let fault = ap (λ s. s.fault) c.end-in-Err.ensures ∙ ap Some c.of_act.ensures.fault in
    ended_keeps (λ b. content ((goal.Recoverable-dyn g (b.vtable, b.value)).kind_of b.value) ((goal.Recoverable-dyn g (b.vtable, b.value)).value_of b.value)) (λ b saved. (goal.Recoverable-dyn g (b.vtable, b.value)).may_reject b.value saved) now c.end-in-Err.new.self (live_of_act c.me-me.result c.in-Err.fault) fault
    (λ kind objects has. of_refused (λ b. content ((goal.Recoverable-dyn g (b.vtable, b.value)).kind_of b.value) ((goal.Recoverable-dyn g (b.vtable, b.value)).value_of b.value)) (λ b saved. (goal.Recoverable-dyn g (b.vtable, b.value)).may_reject b.value saved) kind objects now c.end-in-Err.new.self c.obey.new.self c.args.errand.acts c.me-me.result c.in-Err.fault held fault
    refused.err.0 refused.err.2 (λ f. refused.form (rw f refl)) refused.rejects has)
