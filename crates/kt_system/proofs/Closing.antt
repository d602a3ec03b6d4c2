-- A process that closes its instance, or goes on in it, as the machine has it.
use Rattle.std.specs.Prelude.{Option, Some, None, ◌==◌, if◌then◌else◌}
use Rattle.std.proofs.Common.{◌≡◌, ◌≤◌, ℕ, Bool, true, false, refl, ap, sym}
use Rattle.kt_fifo.specs.Channels.{ChannelLists, channel}
use Rattle.kt_spacetime.specs.declared.event.Event.TheVariants.{Closed}
use Rattle.kt_process.specs.PartRules.{way_alone}
use Rattle.kt_process.specs.declared.actions.Then.TheVariants.{Wait, Answer, Commit}
use Rattle.kt_machine.specs.Seen.{SeenPart, SeenProcess, SeenLists, Seen}
use Rattle.kt_machine.specs.ListChanges.{with_decisions, trims}
use Rattle.kt_machine.specs.SeenReplies.{seen_answering}
use Rattle.kt_machine.specs.SeenClosing.{seen_deciding, seen_closing, seen_settling, seen_ending}
use Rattle.kt_machine.specs.InOnePiece.{held_after_rollback, kept_after_rollback}
use Rattle.kt_system.specs.Kept.{put_back, emptied}
use Rattle.kt_system.proofs.Ranges.{back_all, gone_all}
use Rattle.kt_process.specs.ProcessStates.{ProcessState, asked_of, inst_of, is_ready, is_saving}
use Rattle.kt_process.specs.Turns.{noted_by, marks_of}
use Rattle.kt_process.specs.declared.side.Side.{Side}
use Rattle.kt_process.specs.declared.side.Side.TheVariants as side
use Rattle.kt_process.specs.Shown.{IsSeenAs, part_shown, closed_as, goes_on, mark_of}
use Rattle.kt_system.specs.Shown.{with_row, turned_to, lists_closed, held_closed, kept_closed}

-- a part is read of the process that keeps it
pub asked_is : (x : ProcessState) (y : SeenProcess) → IsSeenAs x y → (q : ℕ) → asked_of x.side q ≡ y.part.asked q
asked_is x y h q = at_side x.side h.part
  where
    at_side : (s : Option Side) → part_shown s ≡ y.part → asked_of s q ≡ y.part.asked q
    at_side None e = ap (λ (r : SeenPart). r.asked q) e
    at_side (Some (side.Checkpoint s)) e = ap (λ (r : SeenPart). r.asked q) e
    at_side (Some (side.Rollback s)) e = ap (λ (r : SeenPart). r.asked q) e

pub noted_is : (x : ProcessState) (y : SeenProcess) → IsSeenAs x y → noted_by x.side ≡ y.part.noted
noted_is x y h = at_side x.side h.part
  where
    at_side : (s : Option Side) → part_shown s ≡ y.part → noted_by s ≡ y.part.noted
    at_side None e = ap (λ (r : SeenPart). r.noted) e
    at_side (Some (side.Checkpoint s)) e = ap (λ (r : SeenPart). r.noted) e
    at_side (Some (side.Rollback s)) e = ap (λ (r : SeenPart). r.noted) e

pub marks_are : (x : ProcessState) (y : SeenProcess) → IsSeenAs x y → is_ready x.side ≡ false → mark_of (marks_of x.side) ≡ y.part.marks
marks_are x y h free = at_side x.side h.part free
  where
    at_side : (s : Option Side) → part_shown s ≡ y.part → is_ready s ≡ false → mark_of (marks_of s) ≡ y.part.marks
    at_side None e f = ap (λ (r : SeenPart). r.marks) e
    at_side (Some (side.Checkpoint s)) e f = ap (λ (r : SeenPart). r.marks) e
    at_side (Some (side.Rollback s)) e f = absurd (cc (f))

pub ready_is : (x : ProcessState) (y : SeenProcess) → IsSeenAs x y → is_ready x.side ≡ y.part.is_rollback
ready_is x y h = at_side x.side h.part
  where
    at_side : (s : Option Side) → part_shown s ≡ y.part → is_ready s ≡ y.part.is_rollback
    at_side None e = ap (λ (r : SeenPart). r.is_rollback) e
    at_side (Some (side.Checkpoint s)) e = ap (λ (r : SeenPart). r.is_rollback) e
    at_side (Some (side.Rollback s)) e = ap (λ (r : SeenPart). r.is_rollback) e

pub saving_is : (x : ProcessState) → (inst_of x.side ≡ None → ⊥) → is_ready x.side ≡ false → is_saving x.side ≡ true
saving_is x there free = at_side x.side there free
  where
    at_side : (s : Option Side) → (inst_of s ≡ None → ⊥) → is_ready s ≡ false → is_saving s ≡ true
    at_side None there f = absurd (there refl)
    at_side (Some (side.Checkpoint s)) there f = refl
    at_side (Some (side.Rollback s)) there f = absurd (cc (f))

-- the lists stay at an abort
pub held_aborted : (p : ℕ) (part : SeenPart) (kept held : SeenLists) → held ≡ held_closed false p part kept held
held_aborted p part kept held = at_test part.is_rollback
  where
    at_test : (b : Bool) → held ≡ (if b then held_after_rollback false p part.noted kept held else held)
    at_test true = refl
    at_test false = refl

pub kept_aborted : (p : ℕ) (part : SeenPart) (kept : SeenLists) → kept ≡ kept_closed false p part kept
kept_aborted p part kept = at_test part.is_rollback
  where
    at_test : (b : Bool) → kept ≡ (if b then kept_after_rollback false p kept else trims false p part.marks kept)
    at_test true = refl
    at_test false = refl

-- the lists at a committed rollback
pub held_restored : (n p : ℕ) (part : SeenPart) (kept held : ChannelLists) → kept.processes ≤ n → held.processes ≤ n → part.is_rollback ≡ true → put_back n p part.noted (channel kept) (channel held) ≡ held_closed true p part (channel kept) (channel held)
held_restored n p part kept held a b e = rw e (back_all n p part.noted kept held a b)

pub kept_restored : (n p : ℕ) (part : SeenPart) (kept : ChannelLists) → kept.processes ≤ n → part.is_rollback ≡ true → emptied n p (channel kept) ≡ kept_closed true p part (channel kept)
kept_restored n p part kept a e = rw e (gone_all n p kept a)

-- a process leaves, its lists change, it tells the decision and writes its row
pub closes_as : (v : Seen) (p k : ℕ) (c : Bool) (set : ℕ → Bool) → set ≡ (v.states p).part.asked →
    with_row (record (turned_to (lists_closed v p c) p (closed_as c (v.states p))) { channel = with_decisions v.channel p k c set }) (Closed p k) ≡ seen_closing v p k c
closes_as v p k c set e = rw e (at_test (v.states p).part.is_rollback refl c)
  where
    at_test : (b : Bool) → (v.states p).part.is_rollback ≡ b → (c : Bool) →
        with_row (record (turned_to (lists_closed v p c) p (closed_as c (v.states p))) { channel = with_decisions v.channel p k c (v.states p).part.asked }) (Closed p k) ≡ seen_closing v p k c
    at_test true t true = rw t refl
    at_test true t false = rw t refl
    at_test false t true = rw t refl
    at_test false t false = rw t refl

-- who awaits nobody goes on
pub settles_wait : (v : Seen) (p k : ℕ) → Wait ≡ goes_on (v.states p).part → v ≡ seen_settling v p k
settles_wait v p k e = at_test ((v.states p).part.awaited == 0) (v.states p).part.parent e
  where
    at_test : (b : Bool) (parent : Option ℕ) → Wait ≡ (if b then way_alone parent else Wait) → v ≡ (if b then seen_ending v p k parent else v)
    at_test true None e = absurd (cc (e))
    at_test true (Some to) e = absurd (cc (e))
    at_test false parent e = refl

pub settles_answer : (v : Seen) (p k to : ℕ) → Answer to ≡ goes_on (v.states p).part → seen_answering v p k to ≡ seen_settling v p k
settles_answer v p k to e = at_test ((v.states p).part.awaited == 0) (v.states p).part.parent e
  where
    at_test : (b : Bool) (parent : Option ℕ) → Answer to ≡ (if b then way_alone parent else Wait) → seen_answering v p k to ≡ (if b then seen_ending v p k parent else v)
    at_test true None e = absurd (cc (e))
    at_test true (Some other) e = let i : to ≡ other = cc in ap (λ (n : ℕ). seen_answering v p k n) i
    at_test false parent e = absurd (cc (e))

pub settles_commit : (v : Seen) (p k : ℕ) → Commit ≡ goes_on (v.states p).part → (v.states p).part.willing ≡ true → seen_closing (seen_deciding v p k true) p k true ≡ seen_settling v p k
settles_commit v p k e w = at_test ((v.states p).part.awaited == 0) (v.states p).part.parent e
  where
    at_test : (b : Bool) (parent : Option ℕ) → Commit ≡ (if b then way_alone parent else Wait) → seen_closing (seen_deciding v p k true) p k true ≡ (if b then seen_ending v p k parent else v)
    at_test true None e = ap (λ (c : Bool). seen_closing (seen_deciding v p k c) p k c) (sym w)
    at_test true (Some other) e = absurd (cc (e))
    at_test false parent e = absurd (cc (e))

-- the lists at a committed checkpoint
pub kept_trimmed : (p : ℕ) (part : SeenPart) (kept : SeenLists) → part.is_rollback ≡ false → trims true p part.marks kept ≡ kept_closed true p part kept
kept_trimmed p part kept e = rw e refl

pub held_stays : (p : ℕ) (part : SeenPart) (kept held : SeenLists) → part.is_rollback ≡ false → held ≡ held_closed true p part kept held
held_stays p part kept held e = rw e refl
