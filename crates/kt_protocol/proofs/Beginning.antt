-- What a new instance, and a decision that comes, say.
use Rattle.kt_meaning.specs.Past.{is_rollback_kind, at_one}
use Rattle.std.proofs.Common.{◌≡◌, ◌≢◌, ℕ, ◌+◌, ◌≤◌, Bool, true, false, List, [], ◌∷◌, ◌++◌, refl, arith, sym, subst, Some}
use Rattle.std.specs.Prelude.{◌==◌, ◌&&◌}
use Rattle.std.proofs.lemmas.Bool.Decides.{nat_tests}
use Rattle.kt_spacetime.specs.declared.event.Event.TheVariants.{Began}
use Rattle.kt_protocol.proofs.Invariant.{Invariant, is_decide, summary_push, one, same_bool}
use Rattle.kt_protocol.proofs.Updates.{at_one_other, is_same}
use Rattle.kt_protocol.proofs.Weights.{weigh, weigh_cons}
use Rattle.kt_protocol.specs.Parcels.{Decide, Parcel}
use Rattle.kt_protocol.specs.States.{State}
use Rattle.kt_protocol.specs.Joining.{kind_for}
use Rattle.kt_protocol.specs.Summary.{summary_began, summary}

pub old : (s : State) (roll : Bool) (k : ℕ) → k ≤ s.instances → at_one (s.instances + 1) roll s.so_far.is_rollback k ≡ s.so_far.is_rollback k
old s roll k l = at_one_other (s.instances + 1) k roll s.so_far.is_rollback (λ e. omega (arith, l))

pub began_awaits : (s : State) (p : ℕ) → Invariant s → (k u v : ℕ) → s.has_answered k u ≡ true → u ≢ at_one (s.instances + 1) p s.initiator k → s.awaits k u v ≡ false
began_awaits s p g k u v a b = at_test (s.awaits k u v) refl
  where
    at_test : (b : Bool) → s.awaits k u v ≡ b → s.awaits k u v ≡ false
    at_test false e = e
    at_test true e = grind (arith, nat_tests, g.asks.awaits_joined k u v e, g.positions.joined_instance k u, g.asks.answered_awaits k u v a)

pub kind_back : (roll : Bool) → is_rollback_kind (Some (kind_for roll)) ≡ roll
kind_back true = refl
kind_back false = refl

pub summary_began_row : (s : State) (p : ℕ) (roll : Bool) → Invariant s → summary_began s.so_far (s.instances + 1) roll ≡ summary (s.log ++ Began p (s.instances + 1) (kind_for roll) ∷ [])
summary_began_row s p roll g = subst (λ (b : Bool). summary_began s.so_far (s.instances + 1) b ≡ summary (s.log ++ Began p (s.instances + 1) (kind_for roll) ∷ [])) (kind_back roll) (summary_push s.so_far s.log (Began p (s.instances + 1) (kind_for roll)) g.histories.of_log)

pub decide_facts : (s : State) (q p k : ℕ) (c : Bool) (rest : List Parcel) → s.channel q p ≡ Decide k c ∷ rest → Invariant s → (s.so_far.is_decided k ≡ true) × (s.so_far.is_committed k ≡ c)
decide_facts s q p k c rest e g =
    let a : weigh (is_decide k c) (s.channel q p) ≡ one (k == k && same_bool c c) + weigh (is_decide k c) rest = subst (λ (l : List Parcel). weigh (is_decide k c) l ≡ one (k == k && same_bool c c) + weigh (is_decide k c) rest) (sym e) (weigh_cons (is_decide k c) (Decide k c) rest) in
    let b = self c in
    g.asks.decide_is k c q p (grind (arith, nat_tests, a, b, is_same k))
  where
    self : (c : Bool) → same_bool c c ≡ true
    self true = refl
    self false = refl
