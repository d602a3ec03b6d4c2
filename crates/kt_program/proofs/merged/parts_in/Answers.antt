use Rattle.std.proofs.Common.{length, subst, sym, ap, arith, length-append}
use Rattle.kt_program.specs.Merged.{AreReadFrom}
use Rattle.kt_program.proofs.MergedLogs.{read_push}
use Rattle.kt_program.proofs.merged.parts_in.Goals as goal

pub loop-place-preserved : goal.loop-place-preserved
loop-place-preserved g c =
    let told = g.F.File.Read.remaining in
    let added = c.in-Ok.ensures.added in
    let before = c.loop-place.invariant.long in
    let more = simp length-append at (ap length added) in
    record {
      long = omega (arith, before, more);
      unread = c.in-Ok.ensures.unread c.loop-place.invariant.unread;
      read = subst (AreReadFrom told) (sym added) (read_push told c.loop-place.parts c.in_ok-input.input.source c.loop-place.invariant.read);
    }
