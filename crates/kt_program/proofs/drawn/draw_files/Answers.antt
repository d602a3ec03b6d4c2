use Rattle.std.proofs.Common.{List, ℕ, subst, sym}
use Rattle.std.proofs.lemmas.Result.{err_from_is_err_and}
use Rattle.kt_program.proofs.Pictures.{leaves, of_file, of_names}
use Rattle.kt_program.proofs.drawn.draw_files.Goals as goal

pub returns-clause-drawn : goal.returns-clause-drawn
returns-clause-drawn g c =
    let told = g.F.File.Read.remaining in
    let asked = c.args.asked.now in (
      c.as_slice.result.now,
      of_file told asked.names asked.cert asked.span c.as_slice.result.now c.in_ok-text.text.items c.in_ok-names.names c.in_ok-log.log.source c.as_slice.ensures.value c.in_ok-names.ensures.names c.in_ok-text.ensures.picture,
      c.in_ok-deliver.ensures.output,
    )

pub returns-clause-output : goal.returns-clause-output
returns-clause-output g c =
    let told = g.F.File.Read.remaining in
    let asked = c.args.asked.now in
    leaves told asked.names asked.cert asked.span asked.svg c.as_slice.result.now (g.O.Write.contents c.args.out.now) (g.O.Write.contents c.deliver.new.out)
    (of_file told asked.names asked.cert asked.span c.as_slice.result.now c.in_ok-text.text.items c.in_ok-names.names c.in_ok-log.log.source c.as_slice.ensures.value c.in_ok-names.ensures.names c.in_ok-text.ensures.picture)
    c.in_ok-deliver.ensures.output

pub returns-in_err-text-clause-fault : goal.returns-in_err-text-clause-fault
returns-in_err-text-clause-fault g c =
    let p = err_from_is_err_and c.from_residual-in_err-text.result c.from_residual-in_err-text.ensures.1 in
    rw (p.1, p.2) (of_names c.args.asked.now.names _ (c.in_err-text.ensures.fault c.args.asked.now.names))
