-- Each event keeps the invariant.
use Rattle.std.proofs.Common.{◌≡◌, ◌∙◌, ℕ, ℤ, Bool, true, false, List, refl, sym, ap, subst}
use Rattle.std.specs.Prelude.{◌==◌, if◌then◌else◌}
use Rattle.kt_meaning.specs.Past.{at_one}
use Rattle.kt_node.specs.Inputs.{Input}
use Rattle.kt_node.specs.Clocks.{Envelope}
use Rattle.kt_kills.specs.KilledNets.{Holdings, KilledNet, Killed, came_of, having_done, having, written, sending_again, coming_back, happens}
use Rattle.kt_kills.specs.Starts.{parcels, IsFront}
use Rattle.kt_kills.proofs.Invariant.{Choice, AsItIs, Anew, is_anew, having_chosen, chosen, IsChoice, IsHeld}
use Rattle.kt_kills.proofs.Ran.{Ran}
use Rattle.kt_kills.proofs.Stepping.{extra, stepped, alike_choice}
use Rattle.kt_kills.proofs.Basics.{same, is_same}

not_anew : (x : Choice) → x ≡ AsItIs → is_anew x ≡ true → ⊥
not_anew AsItIs e f = absurd (cc)
not_anew (Anew s) e f = anew_is (ap is_anew e)
  where
    anew_is : true ≡ false → ⊥
    anew_is h = absurd (cc)

module _ (n first : ℕ) (w : KilledNet) (held : IsHeld n first w) where
  -- a kill lessens the choices
  pub killed_runs : (u : ℕ) (c : ℕ → Choice) → IsChoice (happens w (Killed u)) c → Ran n first (chosen (happens w (Killed u)) c)
  killed_runs u c right = alike_choice n first w (happens w (Killed u)) c c held (λ p. by_case p (c p) (p == u) refl refl) (λ p e. away_by p (p == u) refl e) right
    where
      was_away : (p : ℕ) (a : Bool) → (p == u) ≡ a → w.away p ≡ true → (if a then true else w.away p) ≡ true
      was_away p true e f = refl
      was_away p false e f = f

      away_by : (p : ℕ) (a : Bool) → (p == u) ≡ a → w.away p ≡ true → is_anew (c p) ≡ true
      away_by p a e f = right.away p (was_away p (p == u) refl f)

      by_case : (p : ℕ) (x : Choice) (a : Bool) → c p ≡ x → (p == u) ≡ a → having_chosen w p (c p) ≡ having_chosen (happens w (Killed u)) p (c p)
      by_case p (Anew s) a e f = rw e refl
      by_case p AsItIs false e f = rw e (rw f refl)
      by_case p AsItIs true e f = elim (not_anew (c p) e (right.away p (rw f refl))) [ ]

  -- who comes back with sends is as if it had been chosen so
  pub back_runs : (u : ℕ) (sends : List (ℕ × ℤ)) → w.away u ≡ true → (c : ℕ → Choice) → IsChoice (coming_back w u sends) c → Ran n first (chosen (coming_back w u sends) c)
  back_runs u sends away c right = alike_choice n first w (coming_back w u sends) c d held (λ p. by_case p (c p) (p == u) refl refl) (λ p e. away_by p (c p) (p == u) refl refl e) right
    where
      for_u : Choice → Choice
      for_u AsItIs = Anew sends
      for_u (Anew s) = Anew s

      d : ℕ → Choice
      d p = if p == u then for_u (c p) else c p

      away_by : (p : ℕ) (x : Choice) (a : Bool) → c p ≡ x → (p == u) ≡ a → w.away p ≡ true → is_anew (if a then for_u (c p) else c p) ≡ true
      away_by p AsItIs true e f g = rw e refl
      away_by p (Anew s) true e f g = rw e refl
      away_by p x false e f g = right.away p (rw f g)

      by_case : (p : ℕ) (x : Choice) (a : Bool) → c p ≡ x → (p == u) ≡ a → having_chosen w p (if p == u then for_u (c p) else c p) ≡ having_chosen (coming_back w u sends) p (c p)
      by_case p (Anew s) true e f = rw f (rw e refl)
      by_case p (Anew s) false e f = rw f (rw e refl)
      by_case p AsItIs false e f = rw f (rw e (rw f refl))
      by_case p AsItIs true e f = rw f (rw e (rw f (subst (λ (v : ℕ). sending_again p (w.disk p) sends ≡ sending_again v (w.memory v) sends) (same p u f) (ap (λ (h : Holdings). sending_again p h sends) (sym (held.away p (ap w.away (same p u f) ∙ away)))))))

  module _ (u : ℕ) (back : w.away u ≡ false) (es : List Envelope) (i : Input)
      (sent_to : (s : ℕ) → IsFront (parcels ((having_done u (w.memory u) es i).took s)) (parcels (w.sent s (w.life s) u)))
      (goes : (have : ℕ → Holdings) → have u ≡ w.memory u → ((s : ℕ) → IsFront (parcels ((having_done u (w.memory u) es i).took s)) (parcels ((have s).put u))) → Ran n first have → Ran n first (at_one u (having_done u (w.memory u) es i) have))
    where
      abbrev pub g : Holdings
      g = having_done u (w.memory u) es i

      -- a step that is written
      pub written_runs : (c : ℕ → Choice) → IsChoice (written (having w u g) u) c → Ran n first (chosen (written (having w u g) u) c)
      written_runs c right = stepped n first w held u back g (λ s. came_of i s es) (λ s. refl) sent_to goes (written (having w u g) u) c right others (λ p. refl) (own (c u))
        where
          others : (p : ℕ) → (p == u) ≡ false → having_chosen (written (having w u g) u) p (c p) ≡ having_chosen w p (c p)
          others p e = by_case (c p)
            where
              by_case : (x : Choice) → having_chosen (written (having w u g) u) p x ≡ having_chosen w p x
              by_case AsItIs = rw e refl
              by_case (Anew s) = rw e refl

          own : (x : Choice) → having_chosen (written (having w u g) u) u x ≡ extra u g x
          own AsItIs = rw (is_same u) refl
          own (Anew s) = rw (is_same u) refl

      -- and one that is not
      pub plain_runs : (c : ℕ → Choice) → IsChoice (having w u g) c → Ran n first (chosen (having w u g) c)
      plain_runs c right = by_choice (c u) refl
        where
          others : (p : ℕ) → (p == u) ≡ false → having_chosen (having w u g) p (c p) ≡ having_chosen w p (c p)
          others p e = by_case (c p)
            where
              by_case : (x : Choice) → having_chosen (having w u g) p x ≡ having_chosen w p x
              by_case AsItIs = rw e refl
              by_case (Anew s) = refl

          anew : (c u ≡ AsItIs → ⊥) → (p : ℕ) (x : Choice) (a : Bool) → c p ≡ x → (p == u) ≡ a → having_chosen w p (c p) ≡ having_chosen (having w u g) p (c p)
          anew m p (Anew s) a e f = rw e refl
          anew m p AsItIs false e f = rw e (rw f refl)
          anew m p AsItIs true e f = elim (m (ap c (sym (same p u f)) ∙ e)) [ ]

          by_choice : (x : Choice) → c u ≡ x → Ran n first (chosen (having w u g) c)
          by_choice AsItIs e = stepped n first w held u back g (λ s. came_of i s es) (λ s. refl) sent_to goes (having w u g) c right others (λ p. refl) (rw e (rw (is_same u) refl))
          by_choice (Anew s) e = alike_choice n first w (having w u g) c c held (λ p. anew (λ h. not_anew (c u) h (ap is_anew e)) p (c p) (p == u) refl refl) (λ p h. right.away p h) right
