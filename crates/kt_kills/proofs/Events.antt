-- What each event makes of the choices: writes, steps alone, and what is brought.
use Rattle.std.proofs.Common.{◌≡◌, ◌∙◌, ℕ, Bool, true, false, Option, Some, None, List, [], ◌++◌, refl, sym, ap, subst}
use Rattle.std.specs.Prelude.{◌==◌, if◌then◌else◌}
use Rattle.std.proofs.lemmas.List.{append-nil}
use Rattle.kt_meaning.specs.Past.{at_one}
use Rattle.kt_protocol.specs.States.{ProtocolStep}
use Rattle.kt_machine.specs.Acts.{stepper}
use Rattle.kt_node.specs.Inputs.{Input}
use Rattle.kt_node.specs.Clocks.{Envelope, input_at}
use Rattle.kt_kills.specs.KilledNets.{Holdings, KilledNet, having_done, having, written, sending_again}
use Rattle.kt_kills.specs.Starts.{parcels, IsFront}
use Rattle.kt_kills.proofs.Invariant.{Choice, AsItIs, Anew, having_chosen, chosen, IsChoice, IsHeld}
use Rattle.kt_kills.proofs.Ran.{Ran, alike, goes_alone}
use Rattle.kt_kills.proofs.Stepping.{extra, stepped, alike_choice}
use Rattle.kt_kills.proofs.Goes.{written_runs, plain_runs}
use Rattle.kt_kills.proofs.Basics.{same, is_same, none_came, at_own}

-- what it has after an input that comes with nothing, if there is one, where it had this
abbrev pub with_any : Holdings → (ℕ → Holdings) → ℕ → Option Input → ℕ → Holdings
with_any h have u None = have
with_any h have u (Some i) = at_one u (having_done u h [] i) have

module _ (n first : ℕ) (w : KilledNet) (held : IsHeld n first w) where
  pub writes_runs : (u : ℕ) (b : Bool) → w.away u ≡ b → (c : ℕ → Choice) → IsChoice (written w u) c → Ran n first (chosen (written w u) c)
  writes_runs u true away c right = alike_choice n first w (written w u) c c held (λ p. by_case p (c p) (p == u) refl) (λ p e. right.away p e) right
    where
      by_case : (p : ℕ) (x : Choice) (a : Bool) → (p == u) ≡ a → having_chosen w p x ≡ having_chosen (written w u) p x
      by_case p AsItIs a e = refl
      by_case p (Anew s) false e = rw e refl
      by_case p (Anew s) true e = rw e (subst (λ (v : ℕ). sending_again p (w.disk p) s ≡ sending_again p (w.memory v) s) (same p u e) (ap (λ (h : Holdings). sending_again p h s) (sym (held.away p (ap w.away (same p u e) ∙ away)))))
  writes_runs u false back c right = stepped n first w held u back (w.memory u) (λ s. []) (λ s. sym (append-nil ((w.memory u).took s))) (λ s. held.knows s u) goes (written w u) c right others (λ p. refl) (own (c u))
    where
      goes : (have : ℕ → Holdings) → have u ≡ w.memory u → ((s : ℕ) → IsFront (parcels ((w.memory u).took s)) (parcels ((have s).put u))) → Ran n first have → Ran n first (at_one u (w.memory u) have)
      goes have e k r = alike n first have (at_one u (w.memory u) have) (at_own u (w.memory u) have e) r

      others : (p : ℕ) → (p == u) ≡ false → having_chosen (written w u) p (c p) ≡ having_chosen w p (c p)
      others p e = by_case (c p)
        where
          by_case : (x : Choice) → having_chosen (written w u) p x ≡ having_chosen w p x
          by_case AsItIs = refl
          by_case (Anew s) = rw e refl

      own : (x : Choice) → having_chosen (written w u) u x ≡ extra u (w.memory u) x
      own AsItIs = refl
      own (Anew s) = rw (is_same u) refl

  -- a step, written or not
  pub step_runs : (u : ℕ) (back : w.away u ≡ false) (es : List Envelope) (i : Input)
      (sent_to : (s : ℕ) → IsFront (parcels ((having_done u (w.memory u) es i).took s)) (parcels (w.sent s (w.life s) u)))
      (goes : (have : ℕ → Holdings) → have u ≡ w.memory u → ((s : ℕ) → IsFront (parcels ((having_done u (w.memory u) es i).took s)) (parcels ((have s).put u))) → Ran n first have → Ran n first (at_one u (having_done u (w.memory u) es i) have)) →
      (b : Bool) (c : ℕ → Choice) → IsChoice (if b then written (having w u (having_done u (w.memory u) es i)) u else having w u (having_done u (w.memory u) es i)) c →
      Ran n first (chosen (if b then written (having w u (having_done u (w.memory u) es i)) u else having w u (having_done u (w.memory u) es i)) c)
  step_runs u back es i sent_to goes true c right = written_runs n first w held u back es i sent_to goes c right
  step_runs u back es i sent_to goes false c right = plain_runs n first w held u back es i sent_to goes c right

  pub alone_sent : (u : ℕ) (i : Input) (s : ℕ) → IsFront (parcels ((having_done u (w.memory u) [] i).took s)) (parcels (w.sent s (w.life s) u))
  alone_sent u i s = subst (λ (l : List Envelope). IsFront (parcels ((w.memory u).took s ++ l)) (parcels (w.sent s (w.life s) u))) (sym (none_came i s))
      (subst (λ (l : List Envelope). IsFront (parcels l) (parcels (w.sent s (w.life s) u))) (sym (append-nil ((w.memory u).took s))) (held.knows s u))

  pub alone_goes : (x : ProtocolStep) (i : Input) → input_at (w.memory (stepper x)).node x [] ≡ Some i →
      (have : ℕ → Holdings) → have (stepper x) ≡ w.memory (stepper x) → ((s : ℕ) → IsFront (parcels ((having_done (stepper x) (w.memory (stepper x)) [] i).took s)) (parcels ((have s).put (stepper x)))) →
      Ran n first have → Ran n first (at_one (stepper x) (having_done (stepper x) (w.memory (stepper x)) [] i) have)
  alone_goes x i e have f k r = subst (λ (o : Option Input). Ran n first (with_any (w.memory (stepper x)) have (stepper x) o)) e
      (subst (λ (h : Holdings). Ran n first (with_any h have (stepper x) (input_at h.node x []))) f (goes_alone n first have x r))
