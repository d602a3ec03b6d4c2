-- What a process that is back has put can come.
use Rattle.std.proofs.Common.{◌≡◌, ℕ, ℤ, ◌+◌, Bool, true, false, Option, Some, None, List, [], ◌∷◌, refl, subst}
use Rattle.std.specs.Prelude.{◌==◌, ◌&&◌, if◌then◌else◌}
use Rattle.kt_meaning.specs.Past.{at_one}
use Rattle.kt_machine.specs.Acts.{stepper}
use Rattle.kt_node.specs.Inputs.{Input}
use Rattle.kt_node.specs.NodeSteps.{node_after}
use Rattle.kt_node.specs.Clocks.{Envelope, input_at, front_input}
use Rattle.kt_kills.specs.Writing.{is_protocol}
use Rattle.kt_kills.specs.KilledNets.{Holdings, KilledNet, KillEvent, Does, Brought, Writes, Killed, Back, having_done, having, written, stepping, brought, sending_again, coming_back, happens, killed_run, opening_killed}
use Rattle.kt_kills.specs.Standing.{killed_after}
use Rattle.kt_kills.proofs.Basics.{same, is_same}

-- of a process that is not away: what it sent in this life is what it has put
abbrev pub HasSent : KilledNet → ℕ → Type 0
HasSent w p = w.away p ≡ false → (q : ℕ) → w.sent p (w.life p) q ≡ (w.memory p).put q

module _ (p : ℕ) where
  sent_having : (w : KilledNet) (u : ℕ) (g : Holdings) → ((p == u) ≡ false → HasSent w p) → HasSent (having w u g) p
  sent_having w u g k back q = go (p == u) refl
    where
      go : (a : Bool) → (p == u) ≡ a → (if a && (w.life p == w.life u) then g.put q else w.sent p (w.life p) q) ≡ (if a then g else w.memory p).put q
      go true e = rw (subst (λ (v : ℕ). (w.life p == w.life v) ≡ true) (same p u e) (is_same (w.life p))) refl
      go false e = k e back q

  sent_step : (w : KilledNet) (u : ℕ) (es : List Envelope) (o : Option Input) → HasSent w p → HasSent (stepping w u es o) p
  sent_step w u es None k = k
  sent_step w u es (Some i) k = by_away (w.away u)
    where
      now : HasSent (having w u (having_done u (w.memory u) es i)) p
      now = sent_having w u (having_done u (w.memory u) es i) (λ e. k)

      by_protocol : (b : Bool) → HasSent (if b then written (having w u (having_done u (w.memory u) es i)) u else having w u (having_done u (w.memory u) es i)) p
      by_protocol true = now
      by_protocol false = now

      by_away : (b : Bool) → HasSent (if b then w else if is_protocol (node_after (w.memory u).node i) then written (having w u (having_done u (w.memory u) es i)) u else having w u (having_done u (w.memory u) es i)) p
      by_away true = k
      by_away false = by_protocol (is_protocol (node_after (w.memory u).node i))

  sent_killed : (w : KilledNet) (u : ℕ) → HasSent w p → HasSent (happens w (Killed u)) p
  sent_killed w u k back q = go (p == u) back
    where
      go : (a : Bool) → (if a then true else w.away p) ≡ false → w.sent p (w.life p) q ≡ (if a then w.disk u else w.memory p).put q
      go true e = absurd (cc)
      go false e = k e q

  sent_back : (w : KilledNet) (u : ℕ) (sends : List (ℕ × ℤ)) → HasSent w p → (b : Bool) → HasSent (if b then coming_back w u sends else w) p
  sent_back w u sends k true = sent_having (record w { away = at_one u false w.away; life = at_one u (w.life u + 1) w.life }) u (sending_again u (w.memory u) sends) (go (p == u))
    where
      go : (a : Bool) → a ≡ false → (if a then false else w.away p) ≡ false → (q : ℕ) → w.sent p (if a then w.life u + 1 else w.life p) q ≡ (w.memory p).put q
      go true e = absurd (cc)
      go false e = k
  sent_back w u sends k false = k

  pub sent_event : (w : KilledNet) (e : KillEvent) → HasSent w p → HasSent (happens w e) p
  sent_event w (Does x) k = sent_step w (stepper x) [] (input_at (w.memory (stepper x)).node x []) k
  sent_event w (Brought u q able life number) k = sent_step w u (brought w u q life number) (front_input q able (brought w u q life number)) k
  sent_event w (Writes u) k = k
  sent_event w (Killed u) k = sent_killed w u k
  sent_event w (Back u sends) k = sent_back w u sends k (w.away u)

  sent_run : (w : KilledNet) (es : List KillEvent) → HasSent w p → HasSent (killed_run w es) p
  sent_run w [] k = k
  sent_run w (e ∷ es) k = sent_run (happens w e) es (sent_event w e k)

pub comes : (n first : ℕ) (es : List KillEvent) (p q : ℕ) → (killed_after n first es).away p ≡ false → (killed_after n first es).sent p ((killed_after n first es).life p) q ≡ ((killed_after n first es).memory p).put q
comes n first es p q back = sent_run p (opening_killed n first) es (λ e u. refl) back q
