use Rattle.std.proofs.Common.{ap}
use Rattle.std.specs.List.{slice_index}
use Rattle.kt_picture.proofs.WindowFacts.{stretch_is}
use Rattle.kt_picture.proofs.window.Known.stretch.Goals as goal

pub returns : goal.returns
returns c = λ s rows h.
    stretch_is c.args.self.now c.args.walk.now s rows c.args.p _ h (ap (slice_index c.args.self.now.latest) c.index.ensures.value) (c.is_up.ensures rows h.walk) (c.open_in.ensures rows h.walk)
