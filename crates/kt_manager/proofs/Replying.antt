-- A reply, as the node's rules have it.
use Rattle.std.specs.Prelude.{◌==◌, ◌&&◌, ◌-◌, ◌<◌, if◌then◌else◌, Option, Some, None}
use Rattle.std.proofs.Common.{◌≡◌, ◌∙◌, ℕ, zero, suc, Bool, true, false, refl, sym, ap, subst, arith}
use Rattle.std.proofs.lemmas.Bool.Decides.{nat_tests}
use Rattle.kt_process.specs.PartRules.{last_action}
use Rattle.kt_process.specs.declared.actions.Action.TheVariants as what
use Rattle.kt_process.specs.ProcessStates.{ProcessState, part_of_side}
use Rattle.kt_process.specs.Turns.{reply_of}
use Rattle.kt_process.specs.declared.side.Side.{Side}
use Rattle.kt_process.specs.declared.side.Side.TheVariants as side
use Rattle.kt_process.specs.Shown.{IsSeenAs, part_shown, counted_as}
use Rattle.kt_machine.specs.Seen.{SeenPart, SeenProcess}
use Rattle.kt_spacetime.specs.declared.names.InstName.{InstName}
use Rattle.kt_manager.specs.Nodes.{NodeState, nothing}
use Rattle.kt_manager.specs.NodeClosing.{settling}
use Rattle.kt_manager.specs.NodeSteps.{is_in, counting}
use Rattle.kt_manager.specs.Managers.{ManagerState, size_of, awaited_by, ShowsManager, process_of}
use Rattle.kt_manager.specs.Turns.{gone_on}

-- who is in this instance is in one
pub in_some : (o : Option InstName) (k : InstName) → is_in o k ≡ true → o ≡ None → ⊥
in_some None k e f = absurd (cc (e))
in_some (Some name) k e f = absurd (cc (f))

-- so is its state
pub in_shown : (w v : ManagerState) (y : NodeState) (k : InstName) → w ≡ v → is_in w.inst k ≡ true → ShowsManager v y → y.inst ≡ None → ⊥
in_shown w v y k e i h f = in_some w.inst k i (ap (λ (m : ManagerState). m.inst) e ∙ (h.inst ∙ f))

-- it awaits some
pub awaits_some : (w : ManagerState) (y : NodeState) → ShowsManager w y → 0 < awaited_by w → (y.part.awaited == 0) ≡ false
awaits_some w y h b = let e : awaited_by w ≡ y.part.awaited = ap (λ (r : SeenPart). r.awaited) h.process.part in grind (arith, nat_tests, b, e)

-- its process counts as it does
counted_is : (y : NodeState) (q : ℕ) (w : Bool) → (y.part.awaited == 0) ≡ false → counted_as w (process_of y) ≡ process_of (counting y q w)
counted_is y q w e = rw e refl

pub shows_counted : (w : ManagerState) (x : ProcessState) (y : NodeState) (q : ℕ) (willing : Bool) → x.tables.processes ≡ size_of w → (y.part.awaited == 0) ≡ false → ShowsManager w y → IsSeenAs x (counted_as willing (process_of y))
    → ShowsManager (record w { process = x }) (counting y q willing)
shows_counted w x y q willing n e h s = record {
  holds = record { processes = n ∙ h.holds.processes; me = h.holds.me; held = h.holds.held; kept = h.holds.kept };
  process = subst (λ (z : SeenProcess). IsSeenAs x z) (counted_is y q willing e) s;
  inst = h.inst;
}

-- the last reply
last_reply : (z : NodeState) (k : InstName) (parent : Option ℕ) (c : Bool) (asked : ℕ) → z.part.awaited ≡ 0 → z.part.parent ≡ parent → z.part.willing ≡ c →
    gone_on k z (last_action parent c asked) ≡ settling k (nothing z)
last_reply z k (Some to) c asked a b d = let e : (z.part.awaited == 0) ≡ true = ap (λ (n : ℕ). n == 0) a in rw (e, b, d) refl
last_reply z k None c asked a b d = let e : (z.part.awaited == 0) ≡ true = ap (λ (n : ℕ). n == 0) a in rw (e, b, d) refl

-- one of several
more_replies : (z : NodeState) (k : InstName) (n : ℕ) → z.part.awaited ≡ suc n → nothing z ≡ settling k (nothing z)
more_replies z k n a = let e : (z.part.awaited == 0) ≡ false = ap (λ (m : ℕ). m == 0) a ∙ above n in rw e refl
  where
    above : (n : ℕ) → (suc n == 0) ≡ false
    above n = grind (arith, nat_tests)

-- with so many awaited
by_count : (y : NodeState) (q : ℕ) (k : InstName) (w : Bool) (a : ℕ) (parent : Option ℕ) (willing : Bool) (asked : ℕ) → (y.part.awaited == 0) ≡ false → y.part.awaited ≡ a → y.part.parent ≡ parent → y.part.willing ≡ willing →
    gone_on k (counting y q w) (if a == 1 then last_action parent (willing && w) asked else what.Nothing) ≡ settling k (nothing (counting y q w))
by_count y q k w zero parent willing asked n e f g =
    let z : (y.part.awaited == 0) ≡ true = ap (λ (n : ℕ). n == 0) e in
    absurd (cc (z, n))
by_count y q k w (suc zero) parent willing asked n e f g =
    last_reply (counting y q w) k parent (willing && w) asked (ap (λ (n : ℕ). n - 1) e) f (ap (λ (b : Bool). b && w) g)
by_count y q k w (suc (suc n)) parent willing asked i e f g =
    let o : (suc (suc n) == 1) ≡ false = more n in
    rw o (more_replies (counting y q w) k n (ap (λ (m : ℕ). m - 1) e ∙ less n))
  where
    more : (n : ℕ) → (suc (suc n) == 1) ≡ false
    more n = grind (arith, nat_tests)

    less : (n : ℕ) → suc (suc n) - 1 ≡ suc n
    less n = omega arith

-- a reply of its own
pub replies_as : (x : ProcessState) (y : NodeState) (q : ℕ) (k : InstName) (w : Bool) → IsSeenAs x (process_of y) → (y.part.awaited == 0) ≡ false →
    gone_on k (counting y q w) (reply_of (part_of_side x.side) w) ≡ settling k (nothing (counting y q w))
replies_as x y q k w h i = at_side x.side h.part
  where
    at_side : (s : Option Side) → part_shown s ≡ y.part → gone_on k (counting y q w) (reply_of (part_of_side s) w) ≡ settling k (nothing (counting y q w))
    at_side None e = by_count y q k w 0 None true 0 i (ap (λ (r : SeenPart). r.awaited) (sym e)) (ap (λ (r : SeenPart). r.parent) (sym e)) (ap (λ (r : SeenPart). r.willing) (sym e))
    at_side (Some (side.Checkpoint s)) e = by_count y q k w s.part.awaited s.part.parent s.part.willing s.part.asked i (ap (λ (r : SeenPart). r.awaited) (sym e)) (ap (λ (r : SeenPart). r.parent) (sym e)) (ap (λ (r : SeenPart). r.willing) (sym e))
    at_side (Some (side.Rollback s)) e = by_count y q k w s.part.awaited s.part.parent s.part.willing s.part.asked i (ap (λ (r : SeenPart). r.awaited) (sym e)) (ap (λ (r : SeenPart). r.parent) (sym e)) (ap (λ (r : SeenPart). r.willing) (sym e))
