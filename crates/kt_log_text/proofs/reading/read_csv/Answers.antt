use Rattle.std.proofs.lemmas.Result.{IfOk-weaker, IfErr-weaker}
use Rattle.kt_log_text.specs.Texts.{IsLogText, IsFirstLogFault}
use Rattle.kt_log_text.proofs.GatherFacts.{of_bytes}
use Rattle.kt_log_text.proofs.reading.read_csv.Goals as goal

pub returns-clause-found : goal.returns-clause-found
returns-clause-found g c =
    IfOk-weaker c.read_rows.result _ _ (λ log h. of_bytes (g.R.Read.remaining c.args.reader) (λ text. IsLogText text log.rows) h) (rw c.in_ok-rows.ensures at c.read_rows.ensures.found)

pub returns-clause-fault : goal.returns-clause-fault
returns-clause-fault g c =
    IfErr-weaker c.read_rows.result _ _ (λ e h. of_bytes (g.R.Read.remaining c.args.reader) (λ text. IsFirstLogFault text e) h) (rw c.in_ok-rows.ensures at c.read_rows.ensures.fault)
