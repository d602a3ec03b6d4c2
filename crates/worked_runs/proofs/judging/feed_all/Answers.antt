use Rattle.kt_log_text.proofs.GatherFacts.{at_end}
use Rattle.worked_runs.proofs.Feeding.{fed_none, fed_few, fed_more, fed_all}
use Rattle.worked_runs.proofs.judging.feed_all.Goals as goal

pub loop-row-init : goal.loop-row-init
loop-row-init g c = λ text e. fed_none text c.args.rows.now c.args.walk.now e c.requires.unfed

pub feed-requires : goal.feed-requires
feed-requires g c =
    let text = c.requires.unread.0 in
    record { few = fed_few text c.loop-row.rows c.next.new.self c.loop-row.walk c.in-Some.row (c.loop-row.invariant text c.requires.unread.1) (rw c.in-Some.is at c.in_ok-row.ensures.steps) }

pub loop-row-preserved : goal.loop-row-preserved
loop-row-preserved g c = λ text e.
    fed_more text c.loop-row.rows c.next.new.self c.loop-row.walk c.feed.new.self c.in-Some.row (c.loop-row.invariant text e) (rw c.in-Some.is at c.in_ok-row.ensures.steps) c.in_ok-feed.ensures.fed

pub returns : goal.returns
returns g c = record {
  walked = λ text e.
      fed_all text c.loop-row.rows c.next.new.self c.loop-row.walk (c.loop-row.invariant text e) (at_end c.in_ok-row.field-0 c.in_default.not-Some c.in_ok-row.ensures.steps);
}
