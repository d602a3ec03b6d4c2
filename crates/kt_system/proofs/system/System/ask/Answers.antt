use Rattle.std.proofs.Common.{◌≡◌}
use Rattle.kt_system.proofs.Counting.{asks_few}
use Rattle.kt_system.proofs.Tallying.{tallies_asked}
use Rattle.std.proofs.Common.{ap, ◌∙◌}
use Rattle.kt_machine.specs.Seen.{SeenLists}
use Rattle.kt_machine.specs.ListChanges.{with_asks_where}
use Rattle.kt_machine.specs.InOnePiece.{with_asks}
use Rattle.kt_machine.proofs.Cohorts.{with_cohort}
use Rattle.kt_system.proofs.Showing.{shows_channels}
use Rattle.kt_fifo.specs.Channels.{channel}
use Rattle.std.specs.Prelude.{slice_index_or}
use Rattle.std.proofs.Common.{◌≤◌, ◌<◌, ℕ, List, refl, arith, sym, subst, length}
use Rattle.kt_system.specs.Systems.{Whole, room_to}
use Rattle.kt_system.proofs.Frames.{uses_room, uses_then_keeps}
use Rattle.kt_system.proofs.system.System.ask.Goals as goal

pub put_asks-requires-clause-room : goal.put_asks-requires-clause-room
unfolding room_to
put_asks-requires-clause-room c =
    let room = subst (λ (l : List (ℕ × ℕ)). (j : ℕ) → j < length l → 2 ≤ room_to c.args.self.now c.args.p (slice_index_or l j (0, 0)).0) (sym c.list-asks.ensures.asks) c.requires.room in
    let here = subst (λ (w : Whole). (j : ℕ) → j < length c.list-asks.result.now → 2 ≤ room_to w c.args.p (slice_index_or c.list-asks.result.now j (0, 0)).0) (sym c.self.view_is) room in
    λ j b. let k = here j b in omega (arith, k)

pub returns-clause-uses : goal.returns-clause-uses
returns-clause-uses c = uses_then_keeps _ _ _ _ (uses_room _ _ _ c.args.p c.self.view_is refl refl c.put_asks.ensures.room refl refl) c.count.ensures.keeps

pub returns-clause-shows : goal.returns-clause-shows
returns-clause-shows c = λ v test label h cohort.
    let lists = channel c.self.inside.channels in
    let put = c.put_asks.ensures.lists ∙ (ap (λ (l : List (ℕ × ℕ)). with_asks lists c.args.p c.args.inst c.args.kind l) c.list-asks.ensures.asks ∙ with_cohort lists c.args.p c.args.inst c.args.kind c.args.asks.now test label cohort) in
    c.count.ensures.shows _ (shows_channels _ _ _ v (λ (f : SeenLists). with_asks_where f c.args.p c.args.inst c.args.kind test label) c.self.view_is refl refl refl refl refl refl put h)

pub returns-clause-tallies : goal.returns-clause-tallies
returns-clause-tallies c =
    let asks = c.list-asks.result.now in
    let within = subst (λ (l : List (ℕ × ℕ)). (j : ℕ) → j < length l → (slice_index_or l j (0, 0)).0 < c.args.self.now.size) (sym c.list-asks.ensures.asks) c.requires.within in
    let most = asks_few c.args.self.now.size 0 asks c.list-asks.ensures.rising (λ j l. omega arith) within in
    let few = c.self.invariant.few in
    let size = ap (λ (w : Whole). w.size) c.self.view_is in
    let least = c.min.ensures in
    let count : c.min.result ≡ length asks = omega (arith, most, few, size, least) in
    tallies_asked _ _ _ _ c.args.p c.args.inst c.args.kind asks c.min.result c.self.view_is c.requires.p within count refl c.put_asks.ensures.lists refl c.count.ensures.tallies
