-- The invariant holds at the opening.
use Rattle.std.proofs.Common.{◌≡◌, ◌∙◌, ℕ, ℤ, zero, suc, Bool, true, false, List, [], ◌∷◌, refl, arith, sym, ap, subst, nat_lt}
use Rattle.std.specs.Prelude.{◌==◌, if◌then◌else◌}
use Rattle.std.proofs.lemmas.Bool.Decides.{nat_tests}
use Rattle.kt_meaning.specs.Past.{at_one}
use Rattle.kt_kills.specs.KilledNets.{Holdings, sending_again, opening_holdings, opening_killed}
use Rattle.kt_kills.proofs.Invariant.{Choice, AsItIs, Anew, having_chosen, chosen, IsHeld}
use Rattle.kt_kills.proofs.Ran.{Ran, alike, goes_again}
use Rattle.kt_kills.proofs.Standing.{stands_refl}
use Rattle.kt_kills.proofs.Basics.{same, at_own, front_refl}

-- who is not there sends nothing
no_sends : (n first p : ℕ) → nat_lt p n ≡ false → (sends : List (ℕ × ℤ)) → sending_again p (opening_holdings n first p) sends ≡ opening_holdings n first p
no_sends n first p e [] = refl
no_sends n first p e (x ∷ xs) = ap (λ (h : Holdings). sending_again p h xs) (rw e refl) ∙ no_sends n first p e xs

module _ (n first : ℕ) (c : ℕ → Choice) where
  -- the first k processes as chosen, the others as at the opening
  abbrev pub so_far : ℕ → ℕ → Holdings
  so_far k p = if nat_lt p k then chosen (opening_killed n first) c p else opening_holdings n first p

  for_one : (p : ℕ) (x : Choice) (have : ℕ → Holdings) → have p ≡ opening_holdings n first p → Ran n first have → Ran n first (at_one p (having_chosen (opening_killed n first) p x) have)
  for_one p AsItIs have e r = alike n first have _ (at_own p (opening_holdings n first p) have e) r
  for_one p (Anew s) have e r = subst (λ (h : Holdings). Ran n first (at_one p (sending_again p h s) have)) e (goes_again n first p s have r)

  none_below : (p : ℕ) → nat_lt p 0 ≡ false
  none_below p = grind (arith, nat_tests)

  not_below : (p : ℕ) → nat_lt p p ≡ false
  not_below p = grind (arith, nat_tests)

  below_next : (u k : ℕ) → (u == k) ≡ false → nat_lt u (suc k) ≡ nat_lt u k
  below_next u k e = grind (arith, nat_tests)

  below_self : (k : ℕ) → nat_lt k (suc k) ≡ true
  below_self k = grind (arith, nat_tests)

  ran : (k : ℕ) → Ran n first (so_far k)
  ran zero = alike n first (opening_holdings n first) (so_far zero) (λ p. rw (none_below p) refl) ([], record { nodes = λ p. refl; rows = λ p. refl; channels = λ p q. refl })
  ran (suc k) = alike n first _ (so_far (suc k)) (λ u. by_case u (u == k) refl) (for_one k (c k) (so_far k) (rw (not_below k) refl) (ran k))
    where
      by_case : (u : ℕ) (a : Bool) → (u == k) ≡ a → (if a then having_chosen (opening_killed n first) k (c k) else so_far k u) ≡ so_far (suc k) u
      by_case u true e = subst (λ (v : ℕ). having_chosen (opening_killed n first) k (c k) ≡ so_far (suc k) v) (sym (same u k e)) (rw (below_self k) refl)
      by_case u false e = rw (below_next u k e) refl

  opening_runs : Ran n first (chosen (opening_killed n first) c)
  opening_runs = alike n first (so_far n) (chosen (opening_killed n first) c) (λ p. by_case p (c p) (nat_lt p n) refl) (ran n)
    where
      by_case : (p : ℕ) (x : Choice) (a : Bool) → nat_lt p n ≡ a → (if a then having_chosen (opening_killed n first) p x else opening_holdings n first p) ≡ having_chosen (opening_killed n first) p x
      by_case p x true e = refl
      by_case p AsItIs false e = refl
      by_case p (Anew s) false e = sym (no_sends n first p e s)

pub opening_held : (n first : ℕ) → IsHeld n first (opening_killed n first)
opening_held n first = record {
  runs = λ c right. opening_runs n first c;
  knows = λ p q. front_refl [];
  sent = λ p e q. refl;
  away = λ p e. absurd (cc);
  owns = λ p. stands_refl (opening_holdings n first p);
}
