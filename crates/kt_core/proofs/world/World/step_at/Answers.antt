use Rattle.std.specs.Prelude.{filter, slice_get}
use Rattle.std.proofs.Common.{◌≡◌, ◌<◌, ℕ, length, Some, sym, subst}
use Rattle.kt_plan.specs.declared.steps.Step.TheVariants.{Do, Take}
use Rattle.kt_core.specs.Choices.{steps_of}
use Rattle.kt_core.specs.Worlds.{World, can_make}
use Rattle.kt_core.proofs.Counted.{take_among, do_among}
use Rattle.kt_core.proofs.world.World.step_at.Goals as goal

pub returns-in-Some : goal.returns-in-Some
returns-in-Some c =
    let w : World = record { agenda = c.self.inside.agenda; system = c.self.inside.system; limit = c.self.inside.limit } in
    let there = subst (λ (v : World). c.args.p < v.system.size) (sym c.self.view_is) c.requires.there in
    subst (λ (v : World). slice_get (filter (can_make v) (steps_of v.system.size c.args.p)) c.args.place ≡ Some (Take c.args.p c.in-Some.from)) c.self.view_is
    (subst (λ (i : ℕ). slice_get (filter (can_make w) (steps_of w.system.size c.args.p)) i ≡ Some (Take c.args.p c.in-Some.from)) c.in-Some.ensures.before
    (take_among w c.args.p c.in-Some.from there c.in-Some.ensures.within c.in-Some.ensures.takes))

pub returns-in-None : goal.returns-in-None
returns-in-None c =
    let w : World = record { agenda = c.self.inside.agenda; system = c.self.inside.system; limit = c.self.inside.limit } in
    let there = subst (λ (v : World). c.args.p < v.system.size) (sym c.self.view_is) c.requires.there in
    let within = subst (λ (v : World). c.args.place < length (filter (can_make v) (steps_of v.system.size c.args.p))) (sym c.self.view_is) c.requires.within in
    subst (λ (v : World). slice_get (filter (can_make v) (steps_of v.system.size c.args.p)) c.args.place ≡ Some (Do c.args.p)) c.self.view_is
    (do_among w c.args.p c.args.place there within c.in-None.ensures.none)
