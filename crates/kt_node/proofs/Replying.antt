-- A reply that is awaited, and a decision that is heeded.
use Rattle.std.specs.Prelude.{◌==◌, ◌&&◌, not}
use Rattle.std.proofs.Common.{◌≡◌, ℕ, Bool, true, false, refl}
use Rattle.kt_spacetime.specs.declared.names.InstName.{InstName}
use Rattle.kt_manager.specs.Nodes.{NodeState}
use Rattle.kt_manager.specs.NodeSteps.{is_in}
use Rattle.kt_node.specs.NodeSteps.{awaits, heeds}

-- who awaits a reply of q: it is in this instance, awaits some, asked q, and has no reply of it
pub await_facts : (y : NodeState) (q : ℕ) (k : InstName) → awaits y q k ≡ true → (is_in y.inst k ≡ true) × ((y.part.awaited == 0) ≡ false)
await_facts y q k e = at_tests (is_in y.inst k) (y.part.awaited == 0) (y.part.asked q && not (y.answered q)) e
  where
    at_tests : (a b c : Bool) → ((a && not b) && c) ≡ true → (a ≡ true) × (b ≡ false)
    at_tests true false c e = (refl, refl)
    at_tests true true c e = absurd (cc (e))
    at_tests false b c e = absurd (cc (e))

-- who is in this instance, which q asked it last to join
pub heed_facts : (y : NodeState) (q : ℕ) (k : InstName) → heeds y q k ≡ true → is_in y.inst k ≡ true
heed_facts y q k e = at_tests (is_in y.inst k) (is_in (y.asks q) k) _ e
  where
    at_tests : (a b c : Bool) → ((a && b) && c) ≡ true → a ≡ true
    at_tests true b c e = refl
    at_tests false b c e = absurd (cc (e))
