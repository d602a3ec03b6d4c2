use Rattle.kt_text.proofs.CapFacts.{known_records}
use Rattle.kt_text.proofs.records.read_records.Goals as goal

pub returns-clause-text : goal.returns-clause-text
returns-clause-text g c =
    let capped = c.new-2.ensures in
    rw (c.in_ok-new.ensures.ok, c.from_reader-records.ensures.state, c.from_reader-records.ensures.source, capped.going, capped.width, capped.spot, capped.room, capped.source)
    (known_records c.args.width (g.R.Read.remaining c.args.reader) c.requires)
