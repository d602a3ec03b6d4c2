use Rattle.std.proofs.Common.{[], rules}
use Rattle.kt_system.proofs.Tallying.{tallies_then, tallies_same, tallies_turned}
use Rattle.std.proofs.Common.{true, arith, subst, sym, ◌∙◌, ◌≡◌}
use Rattle.kt_machine.specs.Seen.{Seen}
use Rattle.kt_system.specs.Shown.{ShowsState}
use Rattle.kt_system.proofs.Showing.{shows_same, shows_turned}
use Rattle.kt_system.proofs.Messages.{fails_up}
use Rattle.kt_system.proofs.system.System.fail.Goals as goal

pub returns-clause-shows : goal.returns-clause-shows
returns-clause-shows c = λ v h.
    let p = c.args.p in
    let one = shows_same _ _ v c.make_room_for_rows.ensures.same h in
    let seen = one.states p (let k = c.make_room_for_rows.ensures.same.size in let b = c.requires.p in omega arith) in
    let up : (v.states p).up ≡ true = sym seen.up ∙ (sym c.is_up.ensures ∙ c.if-not-is_up.false) in
    let two = shows_turned _ _ v p _ c.put_down.ensures.turned (c.put_down.ensures.shows v one) one in
    subst (λ (z : Seen). ShowsState c.write.new.self z) (fails_up v p up) (c.write.ensures.shows _ two)

pub returns-then-not-is_up-clause-keeps : goal.returns-then-not-is_up-clause-keeps
returns-then-not-is_up-clause-keeps c = record {
  size = search rules;
  err = tt;
  grows = search rules;
  tallies = tallies_then [] _ _ _ (tallies_same _ _ c.make_room_for_rows.ensures.same) c.refuse.ensures.keeps.tallies;
}

pub returns-clause-keeps : goal.returns-clause-keeps
returns-clause-keeps c = record {
  size = search rules;
  err = tt;
  grows = search rules;
  tallies = tallies_then [] _ _ _ (tallies_same _ _ c.make_room_for_rows.ensures.same) (tallies_then [] _ _ _ (tallies_turned _ _ c.args.p c.put_down.ensures.turned) c.write.ensures.tallies);
}
