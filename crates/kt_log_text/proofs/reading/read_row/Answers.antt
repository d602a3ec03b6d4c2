use Rattle.std.proofs.lemmas.Result.{err_from_is_err_and}
use Rattle.csv.specs.Records.{fields_of}
use Rattle.kt_text.specs.Records.{left_in}
use Rattle.kt_log_text.specs.Progress.{TakesFields}
use Rattle.kt_log_text.proofs.StepFacts.{later, row_faults}
use Rattle.kt_log_text.proofs.reading.read_row.Goals as goal
use Rattle.kt_log_text.proofs.reading.read_row.Goals.{in-Some+in_ok-next_record-in-Some+else-not-branch, in-None+in_ok-found-in-None+in-Some-2}

pub returns-in_err-event-clause-fault : goal.returns-in_err-event-clause-fault
returns-in_err-event-clause-fault g c =
    let p = err_from_is_err_and c.from_residual-in_err-event.result c.from_residual-in_err-event.ensures.1 in
    let takes : TakesFields c.args.format.now c.match-format.found (left_in g.R.Read.remaining c.args.records.now) (left_in g.R.Read.remaining c.match-format.records) (fields_of c.match-format.current)
    = elim c.match-format.branch [
      | in-Some+in_ok-next_record-in-Some+else-not-branch w ↦ rw (w.records-is, w.current-is, w.found-is, w.in-Some.is)
          (later w.in-Some.found _ _ _ (w.in_ok-next_record-in-Some.ensures.found w.if-not-branch.false).1)
      | in-None+in_ok-found-in-None+in-Some-2 w ↦ rw (w.records-is, w.current-is, w.found-is, w.in-None.is)
          (rw w.in-Some-2.is at w.in_ok-found-in-None.ensures.found).1
    ] in
    rw (p.1, p.2)
    (row_faults c.args.format.now c.match-format.found c.args.count (left_in g.R.Read.remaining c.args.records.now) (left_in g.R.Read.remaining c.match-format.records) (fields_of c.match-format.current)
    c.in_err-event.field-0.0 takes c.in_err-event.ensures.fault)
