use Rattle.kt_certify.proofs.streaming.certify_stream.Goals as goal

pub returns-clause-certificates : goal.returns-clause-certificates
returns-clause-certificates g c = c.certify_rows.ensures.certificates (g.R.Read.remaining c.args.log_reader) c.in_ok-rows.ensures

pub returns-clause-fault : goal.returns-clause-fault
returns-clause-fault g c = c.certify_rows.ensures.fault (g.R.Read.remaining c.args.log_reader) c.in_ok-rows.ensures
