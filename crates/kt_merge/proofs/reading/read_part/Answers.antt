use Rattle.std.proofs.lemmas.Result.{IfOk-weaker, IfErr-weaker}
use Rattle.kt_merge.specs.Texts.{IsPartText, IsFirstPartFault}
use Rattle.kt_merge.proofs.GatherFacts.{of_part_bytes}
use Rattle.kt_merge.proofs.reading.read_part.Goals as goal

pub returns-clause-found : goal.returns-clause-found
returns-clause-found g c =
    IfOk-weaker c.rows_in.result _ _ (λ rows h. of_part_bytes (g.R.Read.remaining c.args.reader) (λ text. IsPartText c.args.process text rows.items) h)
    (rw c.in_ok-part.ensures at c.rows_in.ensures.found)

pub returns-clause-fault : goal.returns-clause-fault
returns-clause-fault g c =
    IfErr-weaker c.rows_in.result _ _ (λ e h. of_part_bytes (g.R.Read.remaining c.args.reader) (λ text. IsFirstPartFault c.args.process text e) h)
    (rw c.in_ok-part.ensures at c.rows_in.ensures.fault)
