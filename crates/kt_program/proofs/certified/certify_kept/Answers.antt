use Rattle.std.proofs.Common.{◌∙◌, List, ap, subst}
use Rattle.kt_spacetime.specs.declared.event.Event.{Event}
use Rattle.kt_meaning.specs.Fitness.{IsUnfit}
use Rattle.kt_program.specs.Certified.{text_of_list}
use Rattle.kt_program.proofs.StoredLogs.{certified_rows, unfit_rows}
use Rattle.kt_program.proofs.certified.certify_kept.Goals as goal

pub returns-in-Ok-clause-text : goal.returns-in-Ok-clause-text
returns-in-Ok-clause-text g c =
    let told = g.L.Read.remaining c.args.log.source in
    let list = c.in-Ok.certificates.items in
    let made = c.in-Ok.ensures in (
      list,
      certified_rows told c.in_ok-stored.stored.log.rows list c.in_ok-stored.ensures.rows made.legal made.chained made.certificates made.meant,
      c.in_ok-text_of_list-in-Ok.ensures.text ∙ ap text_of_list c.as_slice.ensures.value,
    )

pub returns-clause-fault : goal.returns-clause-fault
returns-clause-fault g c =
    let read = c.in_ok-stored.stored.log.rows in
    let why = c.in_ok-why-in-Err.why in
    unfit_rows (g.L.Read.remaining c.args.log.source) read why c.in_ok-stored.ensures.rows (subst (λ (rows : List Event). IsUnfit rows why) c.rows.ensures.rows c.in_ok-why-in-Err.ensures.why)
