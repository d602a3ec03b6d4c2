use Rattle.std.specs.List.{slice_index}
use Rattle.kt_meaning.specs.Past.{past}
use Rattle.kt_meaning.specs.Passing.{decided_cut}
use Rattle.kt_explain.specs.Told.{HasParts, IsLeastOrphan, IsOrphanTold}
use Rattle.kt_histories.proofs.Gives.{some_gives, none_gives}
use Rattle.kt_explain.proofs.Orphaned.{least_same, same_orphan, told_least}
use Rattle.kt_histories.proofs.ReceivedRows.{consistent_without}
use Rattle.kt_explain.proofs.orphans.least_orphan.Goals as goal

pub returns-clause-orphan : goal.returns-clause-orphan
returns-clause-orphan c =
    let rows = c.args.rows.now in
    let k = c.args.inst in
    let kind = c.args.kind in
    let least : IsLeastOrphan (past rows) (decided_cut (past rows) k kind) c.in-Some.msg =
    least_same (past rows) (slice_index c.cut_of-cut.result) (decided_cut (past rows) k kind)
    (λ p low. c.cut_of-cut.ensures rows p c.requires.histories c.requires.legal c.requires.kind c.requires.joined low)
    c.requires.histories.shows.of_processes.no_more c.in-Some.msg
    (c.in-Some.ensures.orphan rows c.requires.histories) (λ other o. c.in-Some.ensures.least rows other c.requires.histories o)
    in
    some_gives c.told_of.result (HasParts rows c.args.joined.now c.in-Some.msg) (IsOrphanTold rows k kind)
    (λ o h. told_least rows k kind c.args.joined.now c.in-Some.msg o c.requires.joined least h) c.told_of.ensures.orphan

pub returns-clause-none : goal.returns-clause-none
returns-clause-none c =
    none_gives c.told_of.result _ _
    (λ f. absurd (f (slice_index c.cut_of-cut.result) (c.in-Some.ensures.orphan c.args.rows.now c.requires.histories))) c.told_of.ensures.none

pub returns-in_default-clause-none : goal.returns-in_default-clause-none
returns-in_default-clause-none c =
    let rows = c.args.rows.now in
    let k = c.args.inst in
    let kind = c.args.kind in
    consistent_without (past rows) (decided_cut (past rows) k kind)
    (λ m orphan. c.in_default.ensures.none rows m c.requires.histories
    (same_orphan (past rows) (slice_index c.cut_of-cut.result) (decided_cut (past rows) k kind)
    (λ p low. c.cut_of-cut.ensures rows p c.requires.histories c.requires.legal c.requires.kind c.requires.joined low)
    c.requires.histories.shows.of_processes.no_more m orphan))
