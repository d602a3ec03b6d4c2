-- Replies and decisions taken, as the machine has them.
use Rattle.std.specs.Prelude.{◌==◌, ◌&&◌, not, ◌-◌, if◌then◌else◌, Option, Some, None, option_map}
use Rattle.std.proofs.Common.{◌≡◌, ◌≢◌, ◌≤◌, ℕ, zero, suc, Bool, true, false, List, refl, arith, ap, subst, sym, ◌∙◌, inl, inr}
use Rattle.std.proofs.Math.Path.{fun_ext}
use Rattle.std.proofs.lemmas.Bool.{cases_eq}
use Rattle.std.proofs.lemmas.Bool.Decides.{nat_tests}
use Rattle.kt_meaning.specs.Past.{at_one}
use Rattle.kt_fifo.specs.declared.parcels.Parcel.{Parcel}
use Rattle.kt_process.specs.PartRules.{last_action, after_reply}
use Rattle.kt_process.specs.Parts.{Part}
use Rattle.kt_process.specs.declared.actions.Action.TheVariants as what
use Rattle.kt_process.specs.ProcessStates.{ProcessState, part_of_side, inst_of, is_ready, IsNumbered}
use Rattle.kt_process.specs.Turns.{reply_of}
use Rattle.kt_process.specs.declared.side.Side.{Side}
use Rattle.kt_process.specs.declared.side.Side.TheVariants as side
use Rattle.kt_process.specs.Shown.{IsSeenAs, part_shown, inst_shown, counted_as}
use Rattle.kt_machine.specs.Seen.{SeenPart, SeenProcess, Seen}
use Rattle.kt_machine.specs.SeenClosing.{seen_closing, seen_settling}
use Rattle.kt_machine.specs.SeenMessages.{seen_without_front}
use Rattle.kt_machine.specs.SeenReplies.{seen_reply, part_after_reply}
use Rattle.kt_machine.specs.Transition.{is_seen_ready}
use Rattle.kt_system.specs.Shown.{turned_to, gone_on, after_reply_taken, after_decision_taken}
use Rattle.kt_system.proofs.Messages.{at_same}

-- who is ready, in the machine
pub ready_seen : (x : ProcessState) (v : Seen) (p : ℕ) → IsSeenAs x (v.states p) → IsNumbered (part_of_side x.side) → is_ready x.side ≡ is_seen_ready v p
ready_seen x v p h num = at_side x.side num h.inst h.part
  where
    some : (n : ℕ) → 1 ≤ n → not (n == 0) ≡ true
    some n h = grind (arith, nat_tests)

    and_false : (b : Bool) → (b && false) ≡ false
    and_false true = refl
    and_false false = refl

    at_side : (s : Option Side) → IsNumbered (part_of_side s) → inst_shown s ≡ (v.states p).inst → part_shown s ≡ (v.states p).part → is_ready s ≡ is_seen_ready v p
    at_side None num i e = sym (ap (λ (b : Bool). not ((v.states p).inst == 0) && b) (ap (λ (r : SeenPart). r.is_rollback) (sym e)) ∙ and_false (not ((v.states p).inst == 0)))
    at_side (Some (side.Checkpoint s)) num i e = sym (ap (λ (b : Bool). not ((v.states p).inst == 0) && b) (ap (λ (r : SeenPart). r.is_rollback) (sym e)) ∙ and_false (not ((v.states p).inst == 0)))
    at_side (Some (side.Rollback s)) num i e =
        sym (ap (λ (b : Bool). not ((v.states p).inst == 0) && b) (ap (λ (r : SeenPart). r.is_rollback) (sym e)) ∙ ap (λ (b : Bool). b && true) (ap (λ (n : ℕ). not (n == 0)) (sym i) ∙ some s.part.inst num))

-- who takes a decision
pub decides_not : (v : Seen) (p q k : ℕ) (c : Bool) (rest : List Parcel) → ((v.states p).inst == k) ≡ false → seen_without_front v p q rest ≡ after_decision_taken v p q k c rest
decides_not v p q k c rest e = rw e refl

pub decides : (v : Seen) (p q k : ℕ) (c : Bool) (rest : List Parcel) → ((v.states p).inst == k) ≡ true → seen_closing (seen_without_front v p q rest) p k c ≡ after_decision_taken v p q k c rest
decides v p q k c rest e = rw e refl

-- the last reply
last_reply : (v : Seen) (p k : ℕ) (parent : Option ℕ) (c : Bool) (asked : ℕ) → (v.states p).part.awaited ≡ 0 → (v.states p).part.parent ≡ parent → (v.states p).part.willing ≡ c →
    gone_on v p k (last_action parent c asked) ≡ seen_settling v p k
last_reply v p k (Some to) c asked a b d = let z : ((v.states p).part.awaited == 0) ≡ true = ap (λ (n : ℕ). n == 0) a in rw (z, b, d) refl
last_reply v p k None c asked a b d = let z : ((v.states p).part.awaited == 0) ≡ true = ap (λ (n : ℕ). n == 0) a in rw (z, b, d) refl

-- one of several
more_replies : (v : Seen) (p k n : ℕ) → (v.states p).part.awaited ≡ suc n → v ≡ seen_settling v p k
more_replies v p k n a = let z : ((v.states p).part.awaited == 0) ≡ false = ap (λ (m : ℕ). m == 0) a ∙ above n in rw z refl
  where
    above : (n : ℕ) → (suc n == 0) ≡ false
    above n = grind (arith, nat_tests)

-- to become what one is
pub same_process_state : (v : Seen) (p : ℕ) → turned_to v p (v.states p) ≡ v
same_process_state v p = ap (λ (f : ℕ → SeenProcess). record v { states = f }) (fun_ext (λ q. elim (cases_eq q p) [
  | inl e ↦ subst (λ (z : ℕ). at_one p (v.states p) v.states z ≡ v.states z) (sym e) (at_same p (v.states p) v.states)
  | inr n ↦ other q n
]))
  where
    other : (q : ℕ) → q ≢ p → at_one p (v.states p) v.states q ≡ v.states q
    other q n = grind (arith, nat_tests)

-- with so many awaited
by_count : (v : Seen) (p q k : ℕ) (w : Bool) (rest : List Parcel) (a : ℕ) (parent : Option ℕ) (willing : Bool) (asked : ℕ) → (v.states p).part.awaited ≡ a → (v.states p).part.parent ≡ parent → (v.states p).part.willing ≡ willing →
    gone_on (turned_to (seen_without_front v p q rest) p (counted_as w (v.states p))) p k (if a == 1 then last_action parent (willing && w) asked else what.Nothing) ≡ after_reply_taken v p q k w rest
by_count v p q k w rest zero parent willing asked e f g =
    let z : ((v.states p).part.awaited == 0) ≡ true = ap (λ (n : ℕ). n == 0) e in
    rw z (same_process_state (seen_without_front v p q rest) p)
by_count v p q k w rest (suc zero) parent willing asked e f g =
    let z : ((v.states p).part.awaited == 0) ≡ false = ap (λ (n : ℕ). n == 0) e in
    let state = seen_reply v p q w rest in
    let y = record (v.states p) { part = part_after_reply (v.states p).part w } in
    let here : state.states p ≡ y = at_same p y v.states in
    rw z (last_reply state p k parent (willing && w) asked
    (ap (λ (u : SeenProcess). u.part.awaited) here ∙ ap (λ (n : ℕ). n - 1) e)
    (ap (λ (u : SeenProcess). u.part.parent) here ∙ f)
    (ap (λ (u : SeenProcess). u.part.willing) here ∙ ap (λ (b : Bool). b && w) g))
by_count v p q k w rest (suc (suc n)) parent willing asked e f g =
    let z : ((v.states p).part.awaited == 0) ≡ false = ap (λ (m : ℕ). m == 0) e ∙ above (suc n) in
    let o : (suc (suc n) == 1) ≡ false = more n in
    let state = seen_reply v p q w rest in
    let y = record (v.states p) { part = part_after_reply (v.states p).part w } in
    let here : state.states p ≡ y = at_same p y v.states in
    rw (z, o) (more_replies state p k n (ap (λ (u : SeenProcess). u.part.awaited) here ∙ (ap (λ (m : ℕ). m - 1) e ∙ less n)))
  where
    above : (n : ℕ) → (suc n == 0) ≡ false
    above n = grind (arith, nat_tests)

    more : (n : ℕ) → (suc (suc n) == 1) ≡ false
    more n = grind (arith, nat_tests)

    less : (n : ℕ) → suc (suc n) - 1 ≡ suc n
    less n = omega arith

-- who takes a reply
pub replies_as : (x : ProcessState) (v : Seen) (p q k : ℕ) (w : Bool) (rest : List Parcel) → IsSeenAs x (v.states p) →
    gone_on (turned_to (seen_without_front v p q rest) p (counted_as w (v.states p))) p k (reply_of (part_of_side x.side) w) ≡ after_reply_taken v p q k w rest
replies_as x v p q k w rest h = at_side x.side h.part
  where
    at_side : (s : Option Side) → part_shown s ≡ (v.states p).part → gone_on (turned_to (seen_without_front v p q rest) p (counted_as w (v.states p))) p k (reply_of (part_of_side s) w) ≡ after_reply_taken v p q k w rest
    at_side None e = by_count v p q k w rest 0 None true 0 (ap (λ (r : SeenPart). r.awaited) (sym e)) (ap (λ (r : SeenPart). r.parent) (sym e)) (ap (λ (r : SeenPart). r.willing) (sym e))
    at_side (Some (side.Checkpoint s)) e = by_count v p q k w rest s.part.awaited s.part.parent s.part.willing s.part.asked (ap (λ (r : SeenPart). r.awaited) (sym e)) (ap (λ (r : SeenPart). r.parent) (sym e)) (ap (λ (r : SeenPart). r.willing) (sym e))
    at_side (Some (side.Rollback s)) e = by_count v p q k w rest s.part.awaited s.part.parent s.part.willing s.part.asked (ap (λ (r : SeenPart). r.awaited) (sym e)) (ap (λ (r : SeenPart). r.parent) (sym e)) (ap (λ (r : SeenPart). r.willing) (sym e))

-- who settles is in an instance
pub settles_inside : (before after : Option Side) (w c : Bool) (tell : ℕ) → reply_of (part_of_side before) w ≡ what.Settle c tell → part_of_side after ≡ option_map (λ (part : Part). after_reply part w) (part_of_side before) → inst_of after ≡ None → ⊥
settles_inside None after w c tell e f i = absurd (cc (e))
settles_inside (Some (side.Checkpoint s)) None w c tell e f i = absurd (cc (f))
settles_inside (Some (side.Rollback s)) None w c tell e f i = absurd (cc (f))
settles_inside (Some (side.Checkpoint s)) (Some (side.Checkpoint t)) w c tell e f i = absurd (cc (i))
settles_inside (Some (side.Checkpoint s)) (Some (side.Rollback t)) w c tell e f i = absurd (cc (i))
settles_inside (Some (side.Rollback s)) (Some (side.Checkpoint t)) w c tell e f i = absurd (cc (i))
settles_inside (Some (side.Rollback s)) (Some (side.Rollback t)) w c tell e f i = absurd (cc (i))

-- whether a process is in this instance
pub in_this : (x : ProcessState) (y : SeenProcess) (k : ℕ) → IsSeenAs x y → inst_of x.side ≡ Some k → 1 ≤ k → (y.inst == k) ≡ true
in_this x y k h e k1 = at_side x.side h.inst e
  where
    same : (n : ℕ) → n ≡ k → (n == k) ≡ true
    same n e = grind (arith, nat_tests)

    at_side : (s : Option Side) → inst_shown s ≡ y.inst → inst_of s ≡ Some k → (y.inst == k) ≡ true
    at_side None i e = absurd (cc (e))
    at_side (Some (side.Checkpoint s)) i e = let j : s.part.inst ≡ k = cc in same y.inst (sym i ∙ j)
    at_side (Some (side.Rollback s)) i e = let j : s.part.inst ≡ k = cc in same y.inst (sym i ∙ j)
