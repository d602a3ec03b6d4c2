-- What a process has is what it did, one deed after another.
use Rattle.std.proofs.Common.{◌≡◌, ◌∙◌, ℕ, ℤ, suc, Bool, true, false, not, Option, Some, None, List, [], ◌∷◌, refl, arith, sym, ap, subst, nat_lt}
use Rattle.std.specs.Prelude.{◌==◌, ◌&&◌, if◌then◌else◌, max}
use Rattle.std.proofs.lemmas.Bool.Decides.{nat_tests}
use Rattle.kt_meaning.specs.Past.{at_one}
use Rattle.kt_protocol.specs.States.{ProtocolStep}
use Rattle.kt_protocol.specs.States as protocol
use Rattle.kt_machine.specs.Acts.{stepper}
use Rattle.kt_manager.specs.Nodes.{is_in_rollback}
use Rattle.kt_node.specs.Inputs.{Input}
use Rattle.kt_node.specs.Inputs as input
use Rattle.kt_node.specs.NodeSteps.{is_step, node_after}
use Rattle.kt_node.specs.Nets.{has_some}
use Rattle.kt_node.specs.Clocks.{Envelope, input_at, front_input}
use Rattle.kt_kills.specs.Writing.{is_protocol}
use Rattle.kt_kills.specs.KilledNets.{Holdings, KilledNet, KillEvent, Does, Brought, Writes, Killed, Back, having_done, having, written, stepping, brought, sending_one, sending_again, coming_back, happens, opening_holdings, opening_killed}
use Rattle.kt_kills.proofs.Basics.{is_same, at_each}
use Rattle.kt_kills.proofs.Invariant.{IsHeld}
use Rattle.kt_kills.proofs.Law.{some_is, from_brought}

-- a step by itself, with its input, or a parcel taken of another one
pub data Deed : Type 0 where
  Own : ProtocolStep → Input → Deed
  Took : ℕ → Bool → Envelope → Deed

abbrev pub does : ℕ → Holdings → Deed → Holdings
does p h (Own x i) = having_done p h [] i
does p h (Took q able e) = having_done p h (e ∷ []) (input.Comes q able e.parcel)

module _ (n first p : ℕ) where
  -- what it has after these deeds, the last one first
  abbrev pub made : List Deed → Holdings
  made [] = opening_holdings n first p
  made (d ∷ ds) = does p (made ds) d

  -- p can do each of them
  abbrev pub AreDone : List Deed → Type 0
  AreDone [] = Unit {0}
  AreDone (Own x i ∷ ds) = (stepper x ≡ p) × (input_at (made ds).node x [] ≡ Some i) × AreDone ds
  AreDone (Took q able e ∷ ds) = ((not (is_in_rollback (made ds).node) && has_some ((made ds).node.held q)) ≡ false) × AreDone ds

  abbrev pub IsMade : Holdings → Type 0
  IsMade h = (ds : List Deed) × AreDone ds × (made ds ≡ h)

  made_own : (h : Holdings) (x : ProtocolStep) (i : Input) → IsMade h → stepper x ≡ p → input_at h.node x [] ≡ Some i → IsMade (having_done p h [] i)
  made_own h x i m e f = (Own x i ∷ m.0, (e, subst (λ (g : Holdings). input_at g.node x [] ≡ Some i) (sym m.2) f, m.1), ap (λ (g : Holdings). having_done p g [] i) m.2)

  made_took : (h : Holdings) (q : ℕ) (able : Bool) (e : Envelope) → IsMade h → (not (is_in_rollback h.node) && has_some (h.node.held q)) ≡ false → IsMade (having_done p h (e ∷ []) (input.Comes q able e.parcel))
  made_took h q able e m f = (Took q able e ∷ m.0, (subst (λ (g : Holdings). (not (is_in_rollback g.node) && has_some (g.node.held q)) ≡ false) (sym m.2) f, m.1), ap (λ (g : Holdings). having_done p g (e ∷ []) (input.Comes q able e.parcel)) m.2)

  made_again : (h : Holdings) (sends : List (ℕ × ℤ)) → IsMade h → IsMade (sending_again p h sends)
  made_again h [] m = m
  made_again h (x ∷ xs) m = made_again (sending_one p h (input_at h.node (protocol.Send p x.0 x.1) [])) xs (go (is_step h.node (input.Send x.0 x.1)) refl)
    where
      go : (b : Bool) → is_step h.node (input.Send x.0 x.1) ≡ b → IsMade (sending_one p h (if b then Some (input.Send x.0 x.1) else None))
      go true e = made_own h (protocol.Send p x.0 x.1) (input.Send x.0 x.1) m refl (rw e refl)
      go false e = m

-- what is in memory and what is on disk
abbrev pub AreMade : ℕ → ℕ → KilledNet → Type 0
AreMade n first w = (p : ℕ) → IsMade n first p (w.memory p) × IsMade n first p (w.disk p)

-- a function that is changed at a place
at_place : {X : Type 0} (P : ℕ → X → Type 0) (u : ℕ) (x : X) (f : ℕ → X) → P u x → ((p : ℕ) → P p (f p)) → (p : ℕ) → P p (at_one u x f p)
at_place {X} P u x f here there = at_each (λ p. P p (at_one u x f p)) u (rw (is_same u) here) (λ p e. rw e (there p))

module _ (n first : ℕ) (w : KilledNet) (held : IsHeld n first w) (m : AreMade n first w) where
  made_having : (u : ℕ) (g : Holdings) → IsMade n first u g → AreMade n first (having w u g)
  made_having u g k p = (at_place (IsMade n first) u g w.memory k (λ v. (m v).0) p, (m p).1)

  made_written : (u : ℕ) (g : Holdings) → IsMade n first u g → AreMade n first (written (having w u g) u)
  made_written u g k p = (at_place (IsMade n first) u g w.memory k (λ v. (m v).0) p, at_place (IsMade n first) u (at_one u g w.memory u) w.disk (rw (is_same u) k) (λ v. (m v).1) p)

  made_step : (u : ℕ) (es : List Envelope) (o : Option Input) → ((i : Input) → o ≡ Some i → IsMade n first u (having_done u (w.memory u) es i)) → AreMade n first (stepping w u es o)
  made_step u es None k = m
  made_step u es (Some i) k = by_away (w.away u)
    where
      by_protocol : (b : Bool) → AreMade n first (if b then written (having w u (having_done u (w.memory u) es i)) u else having w u (having_done u (w.memory u) es i))
      by_protocol true = made_written u (having_done u (w.memory u) es i) (k i refl)
      by_protocol false = made_having u (having_done u (w.memory u) es i) (k i refl)

      by_away : (b : Bool) → AreMade n first (if b then w else if is_protocol (node_after (w.memory u).node i) then written (having w u (having_done u (w.memory u) es i)) u else having w u (having_done u (w.memory u) es i))
      by_away true = m
      by_away false = by_protocol (is_protocol (node_after (w.memory u).node i))

  made_brought : (u q : ℕ) (able : Bool) (life number : ℕ) (es : List Envelope) → brought w u q life number ≡ es → (i : Input) → front_input q able es ≡ Some i → IsMade n first u (having_done u (w.memory u) es i)
  made_brought u q able life number [] h i f = absurd (cc)
  made_brought u q able life number (e ∷ more) h i f = let t = from_brought n first w held u q life number e more h in
      subst (λ (l : List Envelope). IsMade n first u (having_done u (w.memory u) (e ∷ l) i)) (sym t.1)
      (subst (λ (j : Input). IsMade n first u (having_done u (w.memory u) (e ∷ []) j)) (some_is (input.Comes q able e.parcel) i f) (made_took n first u (w.memory u) q able e (m u).0 t.2))

  made_back : (u : ℕ) (sends : List (ℕ × ℤ)) (b : Bool) → AreMade n first (if b then coming_back w u sends else w)
  made_back u sends true p = (at_place (IsMade n first) u (sending_again u (w.memory u) sends) w.memory (made_again n first u (w.memory u) sends (m u).0) (λ v. (m v).0) p, (m p).1)
  made_back u sends false p = m p

  pub made_event : (e : KillEvent) → AreMade n first (happens w e)
  made_event (Does x) = made_step (stepper x) [] (input_at (w.memory (stepper x)).node x []) (λ i f. made_own n first (stepper x) (w.memory (stepper x)) x i (m (stepper x)).0 refl f)
  made_event (Brought u q able life number) = made_step u (brought w u q life number) (front_input q able (brought w u q life number)) (made_brought u q able life number (brought w u q life number) refl)
  made_event (Writes u) = λ p. ((m p).0, at_place (IsMade n first) u (w.memory u) w.disk (m u).0 (λ v. (m v).1) p)
  made_event (Killed u) = λ p. (at_place (IsMade n first) u (w.disk u) w.memory (m u).1 (λ v. (m v).0) p, (m p).1)
  made_event (Back u sends) = made_back u sends (w.away u)

pub opening_made : (n first : ℕ) → AreMade n first (opening_killed n first)
opening_made n first p = (([], tt, refl), ([], tt, refl))

-- the processes from here on have done nothing
pub record IsIdleFrom (n first : ℕ) (w : KilledNet) (k : ℕ) : Type 0 where
  pub memory : (p : ℕ) → nat_lt p k ≡ false → w.memory p ≡ opening_holdings n first p
  pub disk : (p : ℕ) → nat_lt p k ≡ false → w.disk p ≡ opening_holdings n first p

-- whose event it is
abbrev pub whose : KillEvent → ℕ
whose (Does x) = stepper x
whose (Brought p q able life number) = p
whose (Writes p) = p
whose (Killed p) = p
whose (Back p sends) = p

step_stays : (w : KilledNet) (u : ℕ) (es : List Envelope) (o : Option Input) (p : ℕ) → (p == u) ≡ false → ((stepping w u es o).memory p ≡ w.memory p) × ((stepping w u es o).disk p ≡ w.disk p)
step_stays w u es None p n = (refl, refl)
step_stays w u es (Some i) p n = by_away (w.away u) (is_protocol (node_after (w.memory u).node i))
  where
    after : Bool → Bool → KilledNet
    after a b = if a then w else if b then written (having w u (having_done u (w.memory u) es i)) u else having w u (having_done u (w.memory u) es i)

    by_away : (a b : Bool) → ((after a b).memory p ≡ w.memory p) × ((after a b).disk p ≡ w.disk p)
    by_away true b = (refl, refl)
    by_away false true = (rw n refl, rw n refl)
    by_away false false = (rw n refl, refl)

others_stay : (w : KilledNet) (e : KillEvent) (p : ℕ) → (p == whose e) ≡ false → ((happens w e).memory p ≡ w.memory p) × ((happens w e).disk p ≡ w.disk p)
others_stay w (Does x) p n = step_stays w (stepper x) [] (input_at (w.memory (stepper x)).node x []) p n
others_stay w (Brought u q able life number) p n = step_stays w u (brought w u q life number) (front_input q able (brought w u q life number)) p n
others_stay w (Writes u) p n = (refl, rw n refl)
others_stay w (Killed u) p n = (rw n refl, refl)
others_stay w (Back u sends) p n = by_away (w.away u)
  where
    by_away : (b : Bool) → ((if b then coming_back w u sends else w).memory p ≡ w.memory p) × ((if b then coming_back w u sends else w).disk p ≡ w.disk p)
    by_away true = (rw n refl, refl)
    by_away false = (refl, refl)

pub idle_event : (n first : ℕ) (w : KilledNet) (e : KillEvent) (k : ℕ) → IsIdleFrom n first w k → IsIdleFrom n first (happens w e) (max k (suc (whose e)))
idle_event n first w e k idle = record {
  memory = λ p h. let stay = others_stay w e p (apart p k (whose e) h) in stay.0 ∙ idle.memory p (below p k (whose e) h);
  disk = λ p h. let stay = others_stay w e p (apart p k (whose e) h) in stay.1 ∙ idle.disk p (below p k (whose e) h);
}
  where
    apart : (p k u : ℕ) → nat_lt p (max k (suc u)) ≡ false → (p == u) ≡ false
    apart p k u h = grind (arith, nat_tests)

    below : (p k u : ℕ) → nat_lt p (max k (suc u)) ≡ false → nat_lt p k ≡ false
    below p k u h = grind (arith, nat_tests)

pub opening_idle : (n first : ℕ) → IsIdleFrom n first (opening_killed n first) 0
opening_idle n first = record { memory = λ p h. refl; disk = λ p h. refl }
