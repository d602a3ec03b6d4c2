use Rattle.std.proofs.Common.{◌≡◌, ◌∙◌, ap, ℕ, refl, arith, drop}
use Rattle.kt_fifo.specs.Channels.{channel, at_pair}
use Rattle.kt_machine.specs.Seen.{SeenLists}
use Rattle.kt_system.proofs.Ranges.{dropped_none, dropped_more}
use Rattle.kt_system.proofs.kept.drop_first.Goals as goal

pub loop-one-init : goal.loop-one-init
loop-one-init c = record {
  processes = refl;
  lists = dropped_none (channel c.args.channels.now) c.args.from c.args.to;
}

pub loop-one-preserved : goal.loop-one-preserved
loop-one-preserved c = record {
  processes = c.pop.ensures.processes ∙ c.loop-one.invariant.processes;
  lists = c.pop.ensures.lists ∙ (ap (λ (f : SeenLists). at_pair c.args.from c.args.to (drop 1 (f c.args.from c.args.to)) f) c.loop-one.invariant.lists
      ∙ dropped_more (channel c.args.channels.now) c.args.from c.args.to c.loop-one._one);
}

pub returns-clause-lists : goal.returns-clause-lists
returns-clause-lists c =
    let end : c.loop-one._one ≡ c.args.count = omega arith in
    c.loop-one.invariant.lists ∙ ap (λ (n : ℕ). at_pair c.args.from c.args.to (drop n (channel c.args.channels.now c.args.from c.args.to)) (channel c.args.channels.now)) end
