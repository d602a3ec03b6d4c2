use Rattle.std.proofs.lemmas.Result.{err_from_is_err_and}
use Rattle.csv.specs.Records.{fields_of}
use Rattle.kt_text.specs.Records.{left_in}
use Rattle.kt_merge.proofs.StepFacts.{part_faults}
use Rattle.kt_merge.proofs.reading.read_row.Goals as goal

pub returns-in_err-row-clause-fault : goal.returns-in_err-row-clause-fault
returns-in_err-row-clause-fault g c =
    let p = err_from_is_err_and c.from_residual-in_err-row.result c.from_residual-in_err-row.ensures.1 in
    let takes = (c.in_ok-next_record.ensures.found c.if-not-branch.false).1 in
    rw (p.1, p.2)
    (part_faults c.args.process c.args.count c.args.clock (left_in g.R.Read.remaining c.args.records.now) (left_in g.R.Read.remaining c.next_record.new.records) (fields_of c.next_record.new.current)
    c.in_err-row.field-0.0 takes c.in_err-row.ensures.fault)
