use Rattle.std.proofs.Common.{[], rules}
use Rattle.kt_system.proofs.Tallying.{tallies_then, tallies_turned}
use Rattle.std.proofs.Common.{ap, subst, sym, ◌∙◌}
use Rattle.std.proofs.Math.Path.{fun_ext}
use Rattle.kt_base.specs.Sets.{has}
use Rattle.kt_machine.specs.Seen.{Seen}
use Rattle.kt_process.specs.ProcessStates.{ProcessState, inst_of}
use Rattle.kt_process.specs.Shown.{closed_as}
use Rattle.kt_system.specs.Shown.{ShowsState, lists_closed}
use Rattle.kt_system.proofs.Showing.{shows_turned}
use Rattle.kt_system.proofs.Closing.{asked_is, closes_as}
use Rattle.std.proofs.Common.{arith}
use Rattle.kt_system.proofs.Frames.{can_tell}
use Rattle.kt_system.proofs.system.System.close.Goals as goal

pub tell-requires-clause-room : goal.tell-requires-clause-room
tell-requires-clause-room c = can_tell _ _ _ _ _ c.requires.room c.settle_kept.ensures.keeps c.leave-set.ensures.turned c.leave-set.ensures.tell

pub returns-clause-shows : goal.returns-clause-shows
returns-clause-shows c = λ v h there.
    let p = c.args.p in
    let one = c.settle_kept.ensures.shows v h there in
    let mid = one.states p (let k = c.settle_kept.ensures.keeps.size in let b = c.requires.p in omega arith) in
    let left = c.leave-set.ensures.shows (lists_closed v p c.args.commit) one (λ e. there (sym (ap (λ (x : ProcessState). inst_of x.side) (c.settle_kept.ensures.keeps.state_of p)) ∙ e)) in
    let two = shows_turned _ _ (lists_closed v p c.args.commit) p (closed_as c.args.commit (v.states p)) c.leave-set.ensures.turned left one in
    let four = c.write.ensures.shows _ (c.tell.ensures.shows _ two) in
    let set = fun_ext (λ q. c.leave-set.ensures.tell q ∙ asked_is _ _ mid q) in
    subst (λ (z : Seen). ShowsState c.write.new.self z) (closes_as v p c.args.inst c.args.commit (has c.leave-set.result) set) four

pub returns-clause-keeps : goal.returns-clause-keeps
returns-clause-keeps c = record {
  size = search rules;
  grows = search rules;
  tallies = tallies_then [] _ _ _ c.settle_kept.ensures.tallies (tallies_then [] _ _ _ (tallies_turned _ _ c.args.p c.leave-set.ensures.turned) (tallies_then [] _ _ _ c.tell.ensures.tallies c.write.ensures.tallies));
}
