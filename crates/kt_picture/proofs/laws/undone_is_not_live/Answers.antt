use Rattle.std.proofs.Common.{◌∙◌, ap}
use Rattle.kt_spacetime.specs.declared.deeds.Deed.TheVariants as deed
use Rattle.kt_meaning.specs.Past.{past}
use Rattle.kt_picture.specs.Fates.{is_send_undone}
use Rattle.kt_picture.proofs.LawFacts.{no_place, trace_is}
use Rattle.kt_picture.proofs.laws.undone_is_not_live.Goals as goal

pub returns : goal.returns
returns c = λ rows msg p q body at. ap is_send_undone (trace_is rows msg p q body at) ∙ no_place (deed.Sent msg q) ((past rows).live p)
