use Rattle.std.proofs.Common.{rules}
use Rattle.std.proofs.lemmas.Fn.{filter_same}
use Rattle.kt_fifo.specs.Parcels.{stays}
use Rattle.kt_fifo.proofs.fifo.Fifo.drop_above.Goals as goal

pub returns-clause-parcels : goal.returns-clause-parcels
returns-clause-parcels c =
    rw (← c.self.view_is) (filter_same _ (stays c.args.label) _ (λ x b f' k. search rules) _ _ c.retain.ensures.filtered)
