use Rattle.std.proofs.Common.{◌∙◌, sym}
use Rattle.koo_toueg_c.proofs.Told.{nothing_told, one_told}
use Rattle.koo_toueg_c.proofs.node.output.tell_parcels.Goals as goal

pub returns-in-Nothing : goal.returns-in-Nothing
returns-in-Nothing c = λ q b. nothing_told c.args.out.now c.args.told.now q (sym c.parcels.ensures ∙ c.in-Nothing.is) c.requires b

pub returns-in-One : goal.returns-in-One
returns-in-One c = λ q b. one_told c.args.out.now c.args.told.now c.in-One.to c.in-One.parcel c.index.result q c.parcel_to.result (sym c.parcels.ensures ∙ c.in-One.is) c.requires c.index.ensures.value c.index.ensures.in_range c.parcel_to.ensures b
