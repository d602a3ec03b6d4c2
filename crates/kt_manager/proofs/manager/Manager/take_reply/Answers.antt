use Rattle.std.proofs.Common.{◌∙◌, ap, subst}
use Rattle.kt_process.specs.declared.actions.Action.{Action}
use Rattle.kt_manager.specs.Nodes.{Doing}
use Rattle.kt_manager.specs.NodeSteps.{counting}
use Rattle.kt_manager.specs.Effects.{IsDone}
use Rattle.kt_manager.specs.Managers.{process_of}
use Rattle.kt_manager.specs.Turns.{gone_on}
use Rattle.kt_manager.proofs.Processes.{shows_inside}
use Rattle.kt_manager.proofs.Replying.{in_some, awaits_some, shows_counted, replies_as}
use Rattle.kt_manager.proofs.manager.Manager.take_reply.Goals as goal

pub returns : goal.returns
returns c = record {
  done = λ y q h.
      let k = c.args.inst.now in
      let w = c.args.willing in
      let some = awaits_some _ y h c.requires.awaited in
      let i = shows_inside _ _ y c.self.view_is h in
      let s = shows_counted _ c.hear_reply-action.new.self y q w (ap (λ t. t.processes) c.hear_reply-action.ensures.tables) some i (c.hear_reply-action.ensures.shows (process_of y) i.process) in
      let d = c.go_on.ensures (counting y q w) s (λ e. in_some c.args.self.now.inst k c.requires.inside (h.inst ∙ e)) in
      subst (λ (z : Doing). IsDone c.go_on.new.self c.go_on.new.out z) (ap (λ (a : Action). gone_on k (counting y q w) a) c.hear_reply-action.ensures.action ∙ replies_as c.self.inside.process y q k w i.process some) d;
}
