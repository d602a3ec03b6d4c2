use Rattle.std.specs.Prelude.{option_map}
use Rattle.std.proofs.Common.{◌≡◌, refl, ap, subst, sym, ◌∙◌}
use Rattle.kt_process.specs.PartRules.{after_reply}
use Rattle.kt_process.specs.ProcessStates.{ProcessState, part_of_side, is_ready}
use Rattle.kt_process.specs.Turns.{reply_of}
use Rattle.kt_process.specs.Shown.{IsSeenAs, counted_as}
use Rattle.kt_system.proofs.Turns.{state_at}
use Rattle.kt_system.proofs.Showing.{is_turned, stood, placed, in_system}
use Rattle.kt_system.proofs.system.System.hear_reply.Goals as goal

pub returns-clause-action : goal.returns-clause-action
returns-clause-action c =
    let was = state_at _ _ c.args.p c.index.result c.index_mut.result.now c.self.view_is c.self.invariant c.requires c.index.ensures.value c.index_mut.ensures.value in
    c.hear_reply.ensures.action ∙ ap (λ (x : ProcessState). reply_of (part_of_side x.side) c.args.willing) was

pub returns-clause-part : goal.returns-clause-part
returns-clause-part c = in_system (λ x y. part_of_side y.side ≡ option_map (λ part. after_reply part c.args.willing) (part_of_side x.side)) _ _ _ c.args.p c.index.result c.index_mut.result.now c.hear_reply.new.self c.self.view_is c.self.invariant c.requires c.index.ensures.value c.index_mut.ensures.value refl c.hear_reply.ensures.part

pub returns-clause-ready : goal.returns-clause-ready
returns-clause-ready c = in_system (λ x y. is_ready y.side ≡ is_ready x.side) _ _ _ c.args.p c.index.result c.index_mut.result.now c.hear_reply.new.self c.self.view_is c.self.invariant c.requires c.index.ensures.value c.index_mut.ensures.value refl c.hear_reply.ensures.ready

pub returns-clause-turned : goal.returns-clause-turned
returns-clause-turned c = is_turned _ _ _ c.args.p c.index.result c.hear_reply.new.self c.self.view_is c.index.ensures.value refl refl refl refl refl refl refl refl

pub returns-clause-shows : goal.returns-clause-shows
returns-clause-shows c = λ v h. subst (λ (x : ProcessState). IsSeenAs x (counted_as c.args.willing (v.states c.args.p))) (sym (placed _ _ _ c.args.p c.index.result c.hear_reply.new.self c.self.view_is c.self.invariant c.requires c.index.ensures.value refl)) (c.hear_reply.ensures.shows (v.states c.args.p) (stood _ _ c.args.p c.index.result c.index_mut.result.now v c.self.view_is c.self.invariant c.requires c.index.ensures.value c.index_mut.ensures.value h))
