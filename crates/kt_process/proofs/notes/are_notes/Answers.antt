use Rattle.std.proofs.Common.{◌≤◌, ◌<◌, arith, rules}
use Rattle.kt_process.specs.Notes.{AreNotes}
use Rattle.kt_process.proofs.NoteTests.{rest_none, rest_more, rest_not, rest_all}
use Rattle.kt_process.proofs.notes.are_notes.Goals as goal
use Rattle.kt_process.proofs.notes.are_notes.Goals.{then-process-low-via-then-process-low, then-process-low-via-else-process-low+then-process-processes}

pub loop-pair-init : goal.loop-pair-init
loop-pair-init c = rest_none _ _

pub returns-then-process-low : goal.returns-then-process-low
returns-then-process-low c =
    let x = c.pair-item.result in
    let process = c.index-process.ensures.value in
    let not : x.0 < c.args.processes → c.loop-pair.low ≤ x.0 → ⊥ = elim c.then-process-low.branch [
      | then-process-low-via-then-process-low w ↦ λ b a. omega (arith, process, w.if-process-low.true)
      | then-process-low-via-else-process-low+then-process-processes w ↦ λ b a. omega (arith, process, w.if-process-processes.true)
    ] in
    let refused : AreNotes 0 c.args.processes c.args.pairs.now → ⊥ =
    rest_not _ _ _ _ x c.loop-pair.invariant c.loop-pair-test.true c.pair-item.is (λ a b. not b a) in
    (λ t. search rules, λ t. absurd (refused t))

pub loop-pair-preserved : goal.loop-pair-preserved
loop-pair-preserved c =
    let x = c.pair-item.result in
    let process = c.index-process.ensures.value in
    rw process (rest_more _ _ _ _ x c.loop-pair.invariant c.loop-pair-test.true c.pair-item.is
    (omega (arith, process, c.if-process-low.false))
    (omega (arith, process, c.if-process-processes.false)))

pub returns : goal.returns
returns c = let t = rest_all _ _ _ _ c.loop-pair.invariant c.loop-pair-test.false in (λ h. t, λ h. search rules)
