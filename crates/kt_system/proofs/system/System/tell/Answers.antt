use Rattle.kt_system.proofs.Tallying.{tallies_told}
use Rattle.std.proofs.Common.{refl}
use Rattle.kt_machine.specs.Seen.{SeenLists}
use Rattle.kt_machine.specs.ListChanges.{with_decisions}
use Rattle.kt_system.proofs.Showing.{shows_channels}
use Rattle.std.proofs.Common.{◌≡◌, ◌≤◌, ℕ, true, sym, subst}
use Rattle.kt_system.specs.Systems.{Whole, room_to}
use Rattle.kt_base.specs.Sets.{has}
use Rattle.kt_system.proofs.system.System.tell.Goals as goal

pub put_decisions-requires-clause-room : goal.put_decisions-requires-clause-room
unfolding room_to
put_decisions-requires-clause-room c = subst (λ (w : Whole). (q : ℕ) → has c.args.set q ≡ true → 1 ≤ room_to w c.args.p q) (sym c.self.view_is) c.requires.room

pub returns-clause-shows : goal.returns-clause-shows
returns-clause-shows c = λ v h.
    c.count-2.ensures.shows _ (shows_channels _ _ _ v (λ (f : SeenLists). with_decisions f c.args.p c.args.inst c.args.commit (has c.args.set)) c.self.view_is refl refl refl refl refl refl c.put_decisions.ensures.lists h)

pub returns-clause-tallies : goal.returns-clause-tallies
returns-clause-tallies c = tallies_told _ _ _ _ c.args.p c.args.inst c.args.commit c.args.set c.count.result c.self.view_is c.self.invariant.few c.requires.p c.requires.within c.count.ensures refl c.put_decisions.ensures.lists refl c.count-2.ensures.tallies
