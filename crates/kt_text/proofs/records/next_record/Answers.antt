use Rattle.std.proofs.Common.{◌∙◌}
use Rattle.csv.specs.Records.{fields_of}
use Rattle.kt_text.proofs.ReaderFacts.{takes, ends}
use Rattle.kt_text.proofs.records.next_record.Goals as goal

pub returns-clause-found : goal.returns-clause-found
returns-clause-found g c was =
    let e = c.in_ok-found.ensures in
    let on = e.reads_on was in
    let read = e.reads c.requires.trim c.requires.ready in (
      record {
        config = on.0 ∙ c.requires.config;
        trim = on.1 ∙ c.requires.trim;
        ready = (on.4 c.requires.ready).0;
        flexible = on.2 ∙ c.requires.flexible;
        going = e.goes ∙ c.requires.going;
      },
      takes g.R.Read.remaining c.args.records.now c.read_byte_record.new.self (fields_of c.read_byte_record.new.row) c.requires.config (rw was at read),
    )

pub returns-clause-ended : goal.returns-clause-ended
returns-clause-ended g c not_found =
    let read = c.in_ok-found.ensures.reads c.requires.trim c.requires.ready in
    ends g.R.Read.remaining c.args.records.now c.read_byte_record.new.self (fields_of c.read_byte_record.new.row) c.requires.config (rw not_found at read)
