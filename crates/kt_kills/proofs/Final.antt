-- The invariant holds after every list of events.
use Rattle.std.proofs.Common.{◌≡◌, ◌∙◌, ◌+◌, ℕ, ℤ, Bool, true, false, Option, Some, None, List, map, refl, sym, ap, subst}
use Rattle.std.specs.Prelude.{◌==◌, ◌&&◌, if◌then◌else◌}
use Rattle.kt_meaning.specs.Past.{at_one}
use Rattle.kt_manager.specs.declared.parcels.NodeParcel.{NodeParcel}
use Rattle.kt_node.specs.Inputs.{Input}
use Rattle.kt_node.specs.NodeSteps.{node_after}
use Rattle.kt_node.specs.Clocks.{Envelope, envelope, clock_after}
use Rattle.kt_kills.specs.Writing.{is_protocol}
use Rattle.kt_kills.specs.KilledNets.{Holdings, KilledNet, KillEvent, Writes, Killed, having_done, having, written, stepping, sending_again, coming_back, happens}
use Rattle.kt_kills.specs.Starts.{parcels, IsFront, KnowsWhatWasTaken}
use Rattle.kt_kills.proofs.Invariant.{Choice, chosen, IsChoice, IsHeld}
use Rattle.kt_kills.proofs.Ran.{Ran}
use Rattle.kt_kills.proofs.Stepping.{took_again}
use Rattle.kt_kills.proofs.Standing.{owns_event}
use Rattle.kt_kills.proofs.Coming.{sent_event}
use Rattle.kt_kills.proofs.Goes.{killed_runs, back_runs}
use Rattle.kt_kills.proofs.Events.{writes_runs, step_runs}
use Rattle.kt_kills.proofs.Basics.{same, is_same, clash, front_refl, front_then, front_parcels}

-- what is left to show of an event
pub record Rest (n first : ℕ) (w : KilledNet) : Type 0 where
  pub runs : (c : ℕ → Choice) → IsChoice w c → Ran n first (chosen w c)
  pub knows : (p q : ℕ) → IsFront (parcels ((w.memory q).took p)) (parcels (w.sent p (w.life p) q))
  pub away : (p : ℕ) → w.away p ≡ true → w.memory p ≡ w.disk p

-- what a step needs
pub record StepOk (n first : ℕ) (w : KilledNet) (u : ℕ) (es : List Envelope) (i : Input) : Type 0 where
  pub sent_to : (s : ℕ) → IsFront (parcels ((having_done u (w.memory u) es i).took s)) (parcels (w.sent s (w.life s) u))
  pub goes : (have : ℕ → Holdings) → have u ≡ w.memory u → ((s : ℕ) → IsFront (parcels ((having_done u (w.memory u) es i).took s)) (parcels ((have s).put u))) → Ran n first have → Ran n first (at_one u (having_done u (w.memory u) es i) have)

module _ (n first : ℕ) (w : KilledNet) (held : IsHeld n first w) where
  pub rest : Rest n first w
  rest = record { runs = held.runs; knows = held.knows; away = held.away }

  module _ (u : ℕ) (back : w.away u ≡ false) (es : List Envelope) (i : Input) (ok : StepOk n first w u es i) where
    abbrev pub g : Holdings
    g = having_done u (w.memory u) es i

    took_by : (p q : ℕ) (a : Bool) → (q == u) ≡ a → IsFront (parcels ((if a then g else w.memory q).took p)) (parcels (w.sent p (w.life p) q))
    took_by p q true e = subst (λ (v : ℕ). IsFront (parcels (g.took p)) (parcels (w.sent p (w.life p) v))) (sym (same q u e)) (ok.sent_to p)
    took_by p q false e = held.knows p q

    sent_by : (p q : ℕ) (a : Bool) → (p == u) ≡ a → IsFront (parcels (w.sent p (w.life p) q)) (parcels (if a && (w.life p == w.life u) then g.put q else w.sent p (w.life p) q))
    sent_by p q true e = subst (λ (v : ℕ). IsFront (parcels (w.sent v (w.life v) q)) (parcels (if w.life v == w.life u then g.put q else w.sent v (w.life v) q))) (sym (same p u e))
        (rw (is_same (w.life u)) (subst (λ (l : List Envelope). IsFront (parcels l) (parcels (g.put q))) (sym (held.sent u back q))
        (front_parcels ((w.memory u).put q) (g.put q) (map (envelope (clock_after (w.memory u).clock i es)) ((node_after (w.memory u).node i).puts q), refl))))
    sent_by p q false e = front_refl (parcels (w.sent p (w.life p) q))

    step_knows : (p q : ℕ) → IsFront (parcels (((having w u g).memory q).took p)) (parcels ((having w u g).sent p (w.life p) q))
    step_knows p q = front_then _ _ _ (took_by p q (q == u) refl) (sent_by p q (p == u) refl)

    plain_away : (p : ℕ) (a : Bool) → (p == u) ≡ a → w.away p ≡ true → (if a then g else w.memory p) ≡ w.disk p
    plain_away p true e f = elim (clash (w.away p) f (ap w.away (same p u e) ∙ back)) [ ]
    plain_away p false e f = held.away p f

    written_away : (p : ℕ) (a : Bool) → (p == u) ≡ a → w.away p ≡ true → (if a then g else w.memory p) ≡ (if a then (if u == u then g else w.memory u) else w.disk p)
    written_away p true e f = elim (clash (w.away p) f (ap w.away (same p u e) ∙ back)) [ ]
    written_away p false e f = held.away p f

    step_rest : (b : Bool) → Rest n first (if b then written (having w u g) u else having w u g)
    step_rest true = record { runs = step_runs n first w held u back es i ok.sent_to ok.goes true; knows = step_knows; away = λ p. written_away p (p == u) refl }
    step_rest false = record { runs = step_runs n first w held u back es i ok.sent_to ok.goes false; knows = step_knows; away = λ p. plain_away p (p == u) refl }

  pub stepping_rest : (u : ℕ) (es : List Envelope) (o : Option Input) → ((i : Input) → o ≡ Some i → StepOk n first w u es i) → Rest n first (stepping w u es o)
  stepping_rest u es None ok = rest
  stepping_rest u es (Some i) ok = go (w.away u) refl
    where
      go : (b : Bool) → w.away u ≡ b → Rest n first (if b then w else if is_protocol (node_after (w.memory u).node i) then written (having w u (having_done u (w.memory u) es i)) u else having w u (having_done u (w.memory u) es i))
      go true e = rest
      go false e = step_rest u e es i (ok i refl) (is_protocol (node_after (w.memory u).node i))

  pub writes_rest : (u : ℕ) → Rest n first (happens w (Writes u))
  writes_rest u = record { runs = writes_runs n first w held u (w.away u) refl; knows = held.knows; away = λ p. by_case p (p == u) refl }
    where
      by_case : (p : ℕ) (a : Bool) → (p == u) ≡ a → w.away p ≡ true → w.memory p ≡ (if a then w.memory u else w.disk p)
      by_case p true e f = ap w.memory (same p u e)
      by_case p false e f = held.away p f

  pub killed_rest : (u : ℕ) → Rest n first (happens w (Killed u))
  killed_rest u = record { runs = killed_runs n first w held u; knows = λ p q. knows_by p q (q == u) refl; away = λ p. by_case p (p == u) refl }
    where
      by_case : (p : ℕ) (a : Bool) → (p == u) ≡ a → (if a then true else w.away p) ≡ true → (if a then w.disk u else w.memory p) ≡ w.disk p
      by_case p true e f = ap w.disk (sym (same p u e))
      by_case p false e f = held.away p f

      knows_by : (p q : ℕ) (a : Bool) → (q == u) ≡ a → IsFront (parcels ((if a then w.disk u else w.memory q).took p)) (parcels (w.sent p (w.life p) q))
      knows_by p q true e = subst (λ (v : ℕ). IsFront (parcels ((w.disk v).took p)) (parcels (w.sent p (w.life p) q))) (same q u e)
          (front_then _ _ _ (front_parcels ((w.disk q).took p) ((w.memory q).took p) ((held.owns q).took p)) (held.knows p q))
      knows_by p q false e = held.knows p q

  pub back_rest : (u : ℕ) (sends : List (ℕ × ℤ)) → w.away u ≡ true → KnowsWhatWasTaken w u (sending_again u (w.memory u) sends) → Rest n first (coming_back w u sends)
  back_rest u sends away right = record { runs = back_runs n first w held u sends away; knows = λ p q. knows_by p q; away = λ p. by_case p (p == u) refl }
    where
      by_case : (p : ℕ) (a : Bool) → (p == u) ≡ a → (if a then false else w.away p) ≡ true → (if a then sending_again u (w.memory u) sends else w.memory p) ≡ w.disk p
      by_case p true e f = absurd (cc)
      by_case p false e f = held.away p f

      took : (p q : ℕ) (a : Bool) → (q == u) ≡ a → parcels ((if a then sending_again u (w.memory u) sends else w.memory q).took p) ≡ parcels ((w.memory q).took p)
      took p q true e = ap parcels (took_again u (w.memory u) sends p) ∙ ap (λ (v : ℕ). parcels ((w.memory v).took p)) (sym (same q u e))
      took p q false e = refl

      sent : (p q : ℕ) (a : Bool) → (p == u) ≡ a → IsFront (parcels ((w.memory q).took p)) (parcels (if a && ((if a then w.life u + 1 else w.life p) == (if u == u then w.life u + 1 else w.life u)) then (sending_again u (w.memory u) sends).put q else w.sent p (if a then w.life u + 1 else w.life p) q))
      sent p q true e = rw (is_same u) (rw (is_same (w.life u + 1)) (subst (λ (v : ℕ). IsFront (parcels ((w.memory q).took v)) (parcels ((sending_again u (w.memory u) sends).put q))) (sym (same p u e)) (right q)))
      sent p q false e = held.knows p q

      knows_by : (p q : ℕ) → IsFront (parcels (((coming_back w u sends).memory q).took p)) (parcels ((coming_back w u sends).sent p ((coming_back w u sends).life p) q))
      knows_by p q = subst (λ (l : List NodeParcel). IsFront l (parcels ((coming_back w u sends).sent p ((coming_back w u sends).life p) q))) (sym (took p q (q == u) refl)) (sent p q (p == u) refl)

  pub whole : (e : KillEvent) → Rest n first (happens w e) → IsHeld n first (happens w e)
  whole e r = record {
    runs = r.runs;
    knows = r.knows;
    sent = λ p. sent_event p w e (held.sent p);
    away = r.away;
    owns = λ p. owns_event p w e (held.owns p);
  }
