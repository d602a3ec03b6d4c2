use Rattle.std.proofs.Common.{rules, arith, ◌≡◌, ◌<◌, length, get_or}
use Rattle.kt_report.proofs.ToldFacts.{tells_more, dropped_more}
use Rattle.kt_report.proofs.told.Told.of_rows.Goals as goal

pub loop-row-preserved : goal.loop-row-preserved
loop-row-preserved c =
    let rows = c.args.rows.now in
    let i = c.loop-row.row-index in
    let row = c.row-item.result in
    let within : i < length rows = omega arith in
    let at : get_or rows i row ≡ row = search rules in
    let noted = c.in_ok-note.ensures in
    record {
      few = dropped_more c.loop-row.told.dropped c.note.new.self.dropped i row noted.dropped c.loop-row.invariant.few;
      tells = tells_more c.loop-row.told c.note.new.self rows i row within at c.loop-row.invariant.tells noted.unwilling noted.dropped noted.before noted.refused;
    }
