use Rattle.std.proofs.Common.{refl}
use Rattle.std.proofs.lemmas.List.{get_or-replicate}
use Rattle.kt_object.proofs.casts.failures.Goals as goal

pub loop-command-init : goal.loop-command-init
loop-command-init c = record { size = refl; counted = λ p l. get_or-replicate 64 p 0 0 l }
