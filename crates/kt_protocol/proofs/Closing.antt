-- What the decisions that a closing process tells say.
use Rattle.std.proofs.Common.{◌≡◌, ℕ, ◌<◌, Bool, true, false, arith}
use Rattle.std.proofs.lemmas.Bool.Decides.{nat_tests}
use Rattle.kt_protocol.proofs.Invariant.{Invariant, is_decide}
use Rattle.kt_protocol.proofs.Weights.{weigh, weigh_decisions}
use Rattle.kt_protocol.specs.States.{State}
use Rattle.kt_protocol.specs.Parcels.{with_decisions}

pub tells_true : (s : State) (p k : ℕ) → s.so_far.is_decided k ≡ true → s.so_far.is_committed k ≡ true → Invariant s → (j : ℕ) (c : Bool) (u v : ℕ) → 0 < weigh (is_decide j c) (with_decisions s.channel s.asked p k true u v) → (s.so_far.is_decided j ≡ true) × (s.so_far.is_committed j ≡ c)
tells_true s p k d i g j true u v a = grind (arith, nat_tests, weigh_decisions (is_decide j true) s.channel s.asked p k true u v, g.asks.decide_is j true u v)
tells_true s p k d i g j false u v a = grind (arith, nat_tests, weigh_decisions (is_decide j false) s.channel s.asked p k true u v, g.asks.decide_is j false u v)

pub tells_false : (s : State) (p k : ℕ) → s.so_far.is_decided k ≡ true → s.so_far.is_committed k ≡ false → Invariant s → (j : ℕ) (c : Bool) (u v : ℕ) → 0 < weigh (is_decide j c) (with_decisions s.channel s.asked p k false u v) → (s.so_far.is_decided j ≡ true) × (s.so_far.is_committed j ≡ c)
tells_false s p k d i g j true u v a = grind (arith, nat_tests, weigh_decisions (is_decide j true) s.channel s.asked p k false u v, g.asks.decide_is j true u v)
tells_false s p k d i g j false u v a = grind (arith, nat_tests, weigh_decisions (is_decide j false) s.channel s.asked p k false u v, g.asks.decide_is j false u v)

pub tells : (s : State) (p k : ℕ) (x : Bool) → s.so_far.is_decided k ≡ true → s.so_far.is_committed k ≡ x → Invariant s → (j : ℕ) (c : Bool) (u v : ℕ) → 0 < weigh (is_decide j c) (with_decisions s.channel s.asked p k x u v) → (s.so_far.is_decided j ≡ true) × (s.so_far.is_committed j ≡ c)
tells s p k true d i g = tells_true s p k d i g
tells s p k false d i g = tells_false s p k d i g
