use Rattle.std.specs.Prelude.{None}
use Rattle.kt_program.specs.Files.{AreTwo}
use Rattle.kt_program.proofs.Apart.{apart_more, files_sym, not_apart, not_apart_before}
use Rattle.kt_program.proofs.files.is_twice.Goals as goal
use Rattle.kt_program.proofs.files.is_twice.Goals.{then-is_among-via-then-is_among, then-is_among-via-else-is_among+then-is_among-2}

pub returns-then-is_among : goal.returns-then-is_among
returns-then-is_among c = elim c.then-is_among.branch [
  | then-is_among-via-then-is_among w ↦ not_apart AreTwo files_sym None _ _ _ c.loop-place-test.true w.if-is_among.ensures
  | then-is_among-via-else-is_among+then-is_among-2 w ↦ not_apart_before AreTwo files_sym None _ _ _ c.loop-place-test.true w.if-is_among-2.ensures
]

pub loop-place-preserved : goal.loop-place-preserved
loop-place-preserved c = apart_more AreTwo files_sym None _ _ _ c.loop-place-test.true c.loop-place.invariant c.if-is_among.ensures c.if-is_among-2.ensures
