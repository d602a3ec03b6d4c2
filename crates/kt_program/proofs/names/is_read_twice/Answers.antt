use Rattle.std.proofs.Common.{[]}
use Rattle.std.specs.Prelude.{None}
use Rattle.kt_program.specs.Names.{ReadOnce}
use Rattle.kt_program.proofs.Apart.{all_none, apart_more, not_apart_before, reads_sym}
use Rattle.kt_program.proofs.names.is_read_twice.Goals as goal

pub returns-then-is_read_among : goal.returns-then-is_read_among
returns-then-is_read_among c = λ once. not_apart_before ReadOnce reads_sym None [] _ _ c.loop-place-test.true c.if-is_read_among.ensures
    (record { from_inputs = λ k d l. all_none _; from_each_other = once })

pub loop-place-preserved : goal.loop-place-preserved
loop-place-preserved c = apart_more ReadOnce reads_sym None [] _ _ c.loop-place-test.true c.loop-place.invariant (all_none _) c.if-is_read_among.ensures
