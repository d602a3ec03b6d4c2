use Rattle.kt_kills.specs.Standing.{killed_after}
use Rattle.kt_kills.proofs.Law.{held_run}
use Rattle.kt_kills.proofs.OpeningHeld.{opening_held}
use Rattle.kt_kills.proofs.Lost.{lost}
use Rattle.kt_kills.proofs.FillersRight.{found_right}
use Rattle.kt_kills.proofs.laws.fillers_are_right.Goals as goal

pub returns : goal.returns
returns c n first es p right away = found_right n first (killed_after n first es) p away (held_run n first _ es right (opening_held n first)) (lost n first es right p)
