-- What is read of a process, as the machine has it.
use Rattle.std.specs.Prelude.{Option, Some, None}
use Rattle.std.proofs.Common.{◌≡◌, ℕ, false, ap}
use Rattle.kt_machine.specs.Seen.{SeenPart, SeenProcess}
use Rattle.kt_process.specs.ProcessStates.{ProcessState, is_ready, asked_of}
use Rattle.kt_process.specs.Turns.{noted_by, marks_of}
use Rattle.kt_process.specs.declared.side.Side.{Side}
use Rattle.kt_process.specs.declared.side.Side.TheVariants as side
use Rattle.kt_process.specs.Shown.{IsSeenAs, part_shown, mark_of}

pub asked_is : (x : ProcessState) (y : SeenProcess) → IsSeenAs x y → (q : ℕ) → asked_of x.side q ≡ y.part.asked q
asked_is x y h q = at_side x.side h.part
  where
    at_side : (s : Option Side) → part_shown s ≡ y.part → asked_of s q ≡ y.part.asked q
    at_side None e = ap (λ (r : SeenPart). r.asked q) e
    at_side (Some (side.Checkpoint s)) e = ap (λ (r : SeenPart). r.asked q) e
    at_side (Some (side.Rollback s)) e = ap (λ (r : SeenPart). r.asked q) e

pub noted_is : (x : ProcessState) (y : SeenProcess) → IsSeenAs x y → noted_by x.side ≡ y.part.noted
noted_is x y h = at_side x.side h.part
  where
    at_side : (s : Option Side) → part_shown s ≡ y.part → noted_by s ≡ y.part.noted
    at_side None e = ap (λ (r : SeenPart). r.noted) e
    at_side (Some (side.Checkpoint s)) e = ap (λ (r : SeenPart). r.noted) e
    at_side (Some (side.Rollback s)) e = ap (λ (r : SeenPart). r.noted) e

pub marks_are : (x : ProcessState) (y : SeenProcess) → IsSeenAs x y → is_ready x.side ≡ false → mark_of (marks_of x.side) ≡ y.part.marks
marks_are x y h free = at_side x.side h.part free
  where
    at_side : (s : Option Side) → part_shown s ≡ y.part → is_ready s ≡ false → mark_of (marks_of s) ≡ y.part.marks
    at_side None e f = ap (λ (r : SeenPart). r.marks) e
    at_side (Some (side.Checkpoint s)) e f = ap (λ (r : SeenPart). r.marks) e
    at_side (Some (side.Rollback s)) e f = absurd (cc (f))

pub ready_is : (x : ProcessState) (y : SeenProcess) → IsSeenAs x y → is_ready x.side ≡ y.part.is_rollback
ready_is x y h = at_side x.side h.part
  where
    at_side : (s : Option Side) → part_shown s ≡ y.part → is_ready s ≡ y.part.is_rollback
    at_side None e = ap (λ (r : SeenPart). r.is_rollback) e
    at_side (Some (side.Checkpoint s)) e = ap (λ (r : SeenPart). r.is_rollback) e
    at_side (Some (side.Rollback s)) e = ap (λ (r : SeenPart). r.is_rollback) e
