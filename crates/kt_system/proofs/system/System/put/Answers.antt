use Rattle.kt_fifo.specs.Channels.{channel}
use Rattle.std.proofs.Common.{ap}
use Rattle.std.proofs.Common.{◌∙◌}
use Rattle.kt_machine.specs.Seen.{SeenLists}
use Rattle.kt_machine.specs.ListChanges.{with_parcel}
use Rattle.kt_system.proofs.Showing.{shows_channels, pushed_is}
use Rattle.std.proofs.Common.{◌≤◌, refl, sym, subst}
use Rattle.kt_system.specs.Systems.{Whole, room_to}
use Rattle.kt_system.proofs.Frames.{keeps_states}
use Rattle.kt_system.proofs.system.System.put.Goals as goal

pub push_reserved-requires-clause-room : goal.push_reserved-requires-clause-room
unfolding room_to
push_reserved-requires-clause-room c = subst (λ (w : Whole). 1 ≤ room_to w c.args.p c.args.to) (sym c.self.view_is) c.requires.room

pub returns-clause-keeps : goal.returns-clause-keeps
returns-clause-keeps c = keeps_states _ _ _ c.self.view_is refl refl

pub returns-clause-shows : goal.returns-clause-shows
returns-clause-shows c = λ v h. shows_channels _ _ _ v (λ (f : SeenLists). with_parcel f c.args.p c.args.to c.args.parcel) c.self.view_is refl refl refl refl refl refl
    (c.push_reserved.ensures.lists ∙ pushed_is _ c.args.p c.args.to c.args.parcel) h

pub returns-clause-channels : goal.returns-clause-channels
returns-clause-channels c = c.push_reserved.ensures.lists ∙ (pushed_is _ c.args.p c.args.to c.args.parcel ∙ ap (λ (w : Whole). with_parcel (channel w.channels) c.args.p c.args.to c.args.parcel) c.self.view_is)

pub returns-clause-tallies : goal.returns-clause-tallies
returns-clause-tallies c = ap (λ (w : Whole). w.put) c.self.view_is
