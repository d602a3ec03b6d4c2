use Rattle.std.proofs.Common.{◌∙◌, sym, ap}
use Rattle.kt_report.specs.Shown.{act_of}
use Rattle.kt_report.proofs.OfferFacts.{none_acted}
use Rattle.kt_report.proofs.replay.act_on.Goals as goal

pub returns-in-Nothing-clause-shows : goal.returns-in-Nothing-clause-shows
returns-in-Nothing-clause-shows c = λ kinds rows row whose is legal h.
    none_acted rows row legal c.args.objects.now.items kinds (ap act_of (sym c.in-Nothing.is) ∙ is) h
