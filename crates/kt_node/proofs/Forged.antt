-- Forged replies, decisions and asks change nothing.
use Rattle.std.proofs.Common.{◌≡◌, ◌≢◌, ◌∙◌, ℕ, ◌<◌, ◌≤◌, ◌⊎◌, Bool, true, false, Option, Some, None, refl, ap, arith, inl, inr}
use Rattle.std.specs.Prelude.{◌==◌, ◌&&◌, ◌||◌, not, nat_lt, if◌then◌else◌}
use Rattle.std.proofs.lemmas.Bool.Decides.{nat_tests}
use Rattle.kt_base.specs.declared.words.Kind.{Kind}
use Rattle.kt_protocol.proofs.Updates.{at_one_here}
use Rattle.kt_spacetime.specs.declared.names.InstName.{InstName}
use Rattle.kt_manager.specs.declared.parcels.NodeParcel.TheVariants.{Ask, Reply, Decide}
use Rattle.kt_manager.specs.Nodes.{NodeState, Doing, nothing, is_in_rollback}
use Rattle.kt_node.specs.Inputs.{Comes}
use Rattle.kt_manager.specs.NodeClosing.{after_checkpoint, after_rollback, closing, ending, settling}
use Rattle.kt_manager.specs.NodeSteps.{is_in, counting}
use Rattle.kt_node.specs.NodeSteps.{is_begun, awaits, heeds, node_after}
use Rattle.kt_node.specs.Nets.{has_some}
use Rattle.kt_node.specs.Faults.{stranger, or_else, fault_at}
use Rattle.kt_node.specs.declared.faults.ManagerFault.{ManagerFault}
use Rattle.kt_node.specs.declared.faults.ManagerFault.TheVariants as fault

none_at : (b : Bool) (d e : Doing) → b ≡ false → (if b then d else e) ≡ e
none_at true d e f = absurd (cc (f))
none_at false d e f = refl

-- a reply that is not awaited
not_awaited : (y : NodeState) (q : ℕ) (able w : Bool) (k : InstName) → awaits y q k ≡ false → node_after y (Comes q able (Reply k w)) ≡ nothing y
not_awaited y q able w k e = none_at (awaits y q k) (settling k (nothing (counting y q w))) (nothing y) e

last_none : (a b c : Bool) → b ≡ false → (a && (b && c)) ≡ false
last_none true b c e = rw e refl
last_none false b c e = refl

pub unasked : (y : NodeState) (q : ℕ) (able w : Bool) (k : InstName) → y.part.asked q ≡ false → node_after y (Comes q able (Reply k w)) ≡ nothing y
unasked y q able w k e = not_awaited y q able w k (last_none (is_in y.inst k && not (y.part.awaited == 0)) (y.part.asked q) (not (y.answered q)) e)

-- who is in no instance awaits nobody, and who has replied is not awaited
awaits_none : (z : NodeState) (q : ℕ) (k : InstName) → (z.inst ≡ None) ⊎ (z.answered q ≡ true) → awaits z q k ≡ false
awaits_none z q k h = elim h [
  | inl e ↦ ap (λ (o : Option InstName). (is_in o k && not (z.part.awaited == 0)) && (z.part.asked q && not (z.answered q))) e
  | inr e ↦ ap (λ (b : Bool). (is_in z.inst k && not (z.part.awaited == 0)) && (z.part.asked q && not b)) e ∙ never (is_in z.inst k && not (z.part.awaited == 0)) (z.part.asked q)
]
  where
    never : (a b : Bool) → (a && (b && false)) ≡ false
    never true true = refl
    never true false = refl
    never false b = refl

-- who settles has the same replies, or is in no instance
settles : (k : InstName) (d : Doing) (q : ℕ) → d.state.answered q ≡ true → ((settling k d).state.inst ≡ None) ⊎ ((settling k d).state.answered q ≡ true)
settles k d q h = at_zero (d.state.part.awaited == 0)
  where
    left : (roll c : Bool) → (if roll then after_rollback c d.state else after_checkpoint c d.state).inst ≡ None
    left true true = refl
    left true false = refl
    left false c = refl

    ends : (o : Option ℕ) → ((ending k o d).state.inst ≡ None) ⊎ ((ending k o d).state.answered q ≡ true)
    ends (Some to) = inr h
    ends None = inl (left d.state.part.is_rollback d.state.part.willing)

    at_zero : (b : Bool) → ((if b then ending k d.state.part.parent d else d).state.inst ≡ None) ⊎ ((if b then ending k d.state.part.parent d else d).state.answered q ≡ true)
    at_zero true = ends d.state.part.parent
    at_zero false = inr h

pub twice : (y : NodeState) (q : ℕ) (able w again v : Bool) (k : InstName) → node_after (node_after y (Comes q able (Reply k w))).state (Comes q again (Reply k v)) ≡ nothing (node_after y (Comes q able (Reply k w))).state
twice y q able w again v k = not_awaited (node_after y (Comes q able (Reply k w))).state q again v k (at_test (awaits y q k) refl)
  where
    at_test : (b : Bool) → awaits y q k ≡ b → awaits (if b then settling k (nothing (counting y q w)) else nothing y).state q k ≡ false
    at_test true e = awaits_none (settling k (nothing (counting y q w))).state q k (settles k (nothing (counting y q w)) q (at_one_here q true y.answered))
    at_test false e = e

pub not_asker : (y : NodeState) (q : ℕ) (able c : Bool) (k : InstName) → is_in (y.asks q) k ≡ false → node_after y (Comes q able (Decide k c)) ≡ nothing y
not_asker y q able c k e = none_at (heeds y q k) (closing k c (nothing y)) (nothing y) (ap (λ (b : Bool). (is_in y.inst k && b) && (not (k.initiator == y.me) && y.part.awaited == 0)) e ∙ never (is_in y.inst k) _)
  where
    never : (b d : Bool) → ((b && false) && d) ≡ false
    never true d = refl
    never false d = refl

pub own_decision : (y : NodeState) (q : ℕ) (able c : Bool) (k : InstName) → k.initiator ≡ y.me → node_after y (Comes q able (Decide k c)) ≡ nothing y
own_decision y q able c k e = none_at (heeds y q k) (closing k c (nothing y)) (nothing y) (never (is_in y.inst k && is_in (y.asks q) k) (k.initiator == y.me) (y.part.awaited == 0) mine)
  where
    mine : (k.initiator == y.me) ≡ true
    mine = grind (arith, nat_tests, e)

    never : (a b c : Bool) → b ≡ true → (a && (not b && c)) ≡ false
    never true true c e = refl
    never false b c e = refl
    never true false c e = absurd (cc (e))

pub early_decision : (y : NodeState) (q : ℕ) (able c : Bool) (k : InstName) → 0 < y.part.awaited → node_after y (Comes q able (Decide k c)) ≡ nothing y
early_decision y q able c k l = none_at (heeds y q k) (closing k c (nothing y)) (nothing y) (never (is_in y.inst k && is_in (y.asks q) k) (not (k.initiator == y.me)) (y.part.awaited == 0) some)
  where
    some : (y.part.awaited == 0) ≡ false
    some = grind (arith, nat_tests, l)

    never : (a b c : Bool) → c ≡ false → (a && (b && c)) ≡ false
    never true true c e = e
    never true false c e = refl
    never false b c e = refl

-- an ask of an instance that has not begun
refused : (y : NodeState) (q : ℕ) (able : Bool) (k : InstName) (kind : Kind) (label : ℕ) → is_begun y k ≡ false → fault_at y (Comes q able (Ask k kind label)) ≢ None
refused y q able k kind label e = some (stranger y q) (not (is_in_rollback y) && has_some (y.held q)) (is_begun y k) e
  where
    some : (o : Option ManagerFault) (b c : Bool) → c ≡ false → or_else o (if b then Some fault.HeldFirst else if c then None else Some fault.NotBegun) ≢ None
    some (Some f) b c e = λ n. cc (n)
    some None true c e = λ n. cc (n)
    some None false true e = λ n. cc (e)
    some None false false e = λ n. cc (n)

pub no_process : (y : NodeState) (q : ℕ) (able : Bool) (k : InstName) (kind : Kind) (label : ℕ) → y.processes ≤ k.initiator → fault_at y (Comes q able (Ask k kind label)) ≢ None
no_process y q able k kind label l = refused y q able k kind label (ap (λ (b : Bool). b && (not (k.initiator == y.me) || is_in y.inst k)) past)
  where
    past : nat_lt k.initiator y.processes ≡ false
    past = grind (arith, nat_tests, l)

pub own_name : (y : NodeState) (q : ℕ) (able : Bool) (k : InstName) (kind : Kind) (label : ℕ) → k.initiator ≡ y.me → is_in y.inst k ≡ false → fault_at y (Comes q able (Ask k kind label)) ≢ None
own_name y q able k kind label e i = refused y q able k kind label (never (nat_lt k.initiator y.processes) (k.initiator == y.me) (is_in y.inst k) mine i)
  where
    mine : (k.initiator == y.me) ≡ true
    mine = grind (arith, nat_tests, e)

    never : (a b c : Bool) → b ≡ true → c ≡ false → (a && (not b || c)) ≡ false
    never true true false e f = refl
    never false b c e f = refl
    never true false c e f = absurd (cc (e))
    never true true true e f = absurd (cc (f))
