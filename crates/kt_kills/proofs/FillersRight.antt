-- Sends that are found by what the others tell are right.
use Rattle.std.proofs.Common.{◌≡◌, ◌∙◌, ◌+◌, ◌-◌, ℕ, ℤ, Bool, true, false, not, Some, None, List, [], ◌∷◌, ◌++◌, refl, sym, ap, ap₂, subst, append_assoc, nat_lt}
use Rattle.std.specs.Prelude.{◌==◌, ◌&&◌, is_none, if◌then◌else◌, length, drop}
use Rattle.std.proofs.lemmas.List.{append-nil, length-map}
use Rattle.kt_protocol.specs.States as protocol
use Rattle.kt_manager.specs.declared.parcels.NodeParcel.{NodeParcel}
use Rattle.kt_manager.specs.declared.parcels.NodeParcel.TheVariants.{App}
use Rattle.kt_manager.specs.Nodes.{NodeState, Doing}
use Rattle.kt_node.specs.Inputs.{Send}
use Rattle.kt_manager.specs.NodeMessages.{sending, refusing}
use Rattle.kt_base.specs.declared.words.Verb.TheVariants as verb
use Rattle.kt_spacetime.specs.declared.named_rows.NamedCause.TheVariants.{Down}
use Rattle.kt_node.specs.NodeSteps.{is_step, node_after}
use Rattle.kt_node.specs.Clocks.{Envelope, input_at}
use Rattle.kt_kills.specs.KilledNets.{Holdings, KilledNet, Back, having_done, sending_one, sending_again}
use Rattle.kt_kills.specs.Starts.{parcels, IsFront, KnowsWhatWasTaken, IsRight}
use Rattle.kt_kills.specs.Fillers.{told, last_told, sends_after, sends_to_make}
use Rattle.kt_kills.proofs.Basics.{clash, front_then, front_parcels}
use Rattle.kt_kills.proofs.Fillers.{may, messages, AreFronts, front_drop, found_fronts, last_below}
use Rattle.kt_kills.proofs.NetGoes.{put_done}
use Rattle.kt_kills.proofs.Invariant.{IsHeld}
use Rattle.kt_kills.proofs.Standing.{stands_refl, stands_again}
use Rattle.kt_kills.proofs.Lost.{Lost, sends_so}

-- p's node, of n, can send
abbrev pub Can : ℕ → ℕ → NodeState → Type 0
Can n p y = (y.processes ≡ n) × (y.me ≡ p) × (nat_lt p n ≡ true) × (is_none y.inst ≡ true) × (y.up ≡ true)

abbrev pub can_send : ℕ → ℕ → NodeState → Bool
can_send n p y = nat_lt p n && (is_none y.inst && y.up)

can_so : (n p : ℕ) (y : NodeState) → y.processes ≡ n → y.me ≡ p → can_send n p y ≡ true → Can n p y
can_so n p y processes me e = go (nat_lt p n) (is_none y.inst) y.up refl refl refl e
  where
    go : (a b c : Bool) → nat_lt p n ≡ a → is_none y.inst ≡ b → y.up ≡ c → (a && (b && c)) ≡ true → Can n p y
    go true true true f g h k = (processes, me, f, g, h)
    go true true false f g h k = absurd (cc)
    go true false c f g h k = absurd (cc)
    go false b c f g h k = absurd (cc)

module _ (n p : ℕ) where
  step_may : (y : NodeState) (r : ℕ) (body : ℤ) → Can n p y → is_step y (Send r body) ≡ may n p r
  step_may y r body k = ap (λ (m : ℕ). (nat_lt y.me m && nat_lt r m) && (is_none y.inst && not (r == y.me))) k.0
      ∙ ap (λ (m : ℕ). (nat_lt m n && nat_lt r n) && (is_none y.inst && not (r == m))) k.1
      ∙ ap₂ (λ (a b : Bool). (a && nat_lt r n) && (b && not (r == p))) k.2 k.3

  -- sends put what they say
  put_again : (xs : List (ℕ × ℤ)) (h : Holdings) → Can n p h.node → (q : ℕ) → parcels ((sending_again p h xs).put q) ≡ parcels (h.put q) ++ messages n p h.node.used xs q
  put_again [] h k q = sym (append-nil (parcels (h.put q)))
  put_again (x ∷ xs) h k q = go (may n p x.0) refl (λ f j. put_again xs f j q)
    where
      go : (a : Bool) → may n p x.0 ≡ a → ((f : Holdings) → Can n p f.node → parcels ((sending_again p f xs).put q) ≡ parcels (f.put q) ++ messages n p f.node.used xs q) →
          parcels ((sending_again p (sending_one p h (input_at h.node (protocol.Send p x.0 x.1) [])) xs).put q)
          ≡ parcels (h.put q) ++ (if a then (if q == x.0 then App (h.node.used + 1) x.1 ∷ messages n p (h.node.used + 1) xs q else messages n p (h.node.used + 1) xs q) else messages n p h.node.used xs q)
      go false e rest = ap (λ (g : Holdings). parcels ((sending_again p g xs).put q)) (ap (sending_one p h) no_input) ∙ rest h k
        where
          no_input : input_at h.node (protocol.Send p x.0 x.1) [] ≡ None
          no_input = rw (step_may h.node x.0 x.1 k ∙ e) refl
      go true e rest = ap (λ (g : Holdings). parcels ((sending_again p g xs).put q)) (ap (sending_one p h) input) ∙ rest g g_can
          ∙ ap₂ (λ (a b : List NodeParcel). a ++ b) (put_done p h [] (Send x.0 x.1) q ∙ ap (λ (d : Doing). parcels (h.put q) ++ d.puts q) sends) (ap (λ (d : Doing). messages n p d.state.used xs q) sends)
          ∙ append_assoc (parcels (h.put q)) ((sending h.node x.0 x.1).puts q) (messages n p (h.node.used + 1) xs q) ∙ by_place (q == x.0)
        where
          step : is_step h.node (Send x.0 x.1) ≡ true
          step = step_may h.node x.0 x.1 k ∙ e

          input : input_at h.node (protocol.Send p x.0 x.1) [] ≡ Some (Send x.0 x.1)
          input = rw step refl

          g : Holdings
          g = having_done p h [] (Send x.0 x.1)

          sends : node_after h.node (Send x.0 x.1) ≡ sending h.node x.0 x.1
          sends = sends_so h.node x.0 x.1 (rw step k.4)

          g_can : Can n p g.node
          g_can = subst (λ (d : Doing). Can n p d.state) (sym sends) k

          by_place : (b : Bool) → parcels (h.put q) ++ ((if b then App (h.node.used + 1) x.1 ∷ [] else []) ++ messages n p (h.node.used + 1) xs q)
              ≡ parcels (h.put q) ++ (if b then App (h.node.used + 1) x.1 ∷ messages n p (h.node.used + 1) xs q else messages n p (h.node.used + 1) xs q)
          by_place true = refl
          by_place false = refl

  -- who can't send puts nothing
  unable_one : (h : Holdings) (r : ℕ) (body : ℤ) → h.node.processes ≡ n → h.node.me ≡ p → can_send n p h.node ≡ false → let g = sending_one p h (input_at h.node (protocol.Send p r body) []) in
      ((q : ℕ) → parcels (g.put q) ≡ parcels (h.put q)) × (g.node ≡ h.node)
  unable_one h r body processes me e = go (is_step h.node (Send r body)) refl h.node.up refl
    where
      no_step : is_step h.node (Send r body) ≡ true → h.node.up ≡ true → ⊥
      no_step f g = clash (can_send n p h.node) (rw g (both (nat_lt p n) (is_none h.node.inst) (nat_lt r n) (not (r == p)) (sym here ∙ f))) e
        where
          here : is_step h.node (Send r body) ≡ ((nat_lt p n && nat_lt r n) && (is_none h.node.inst && not (r == p)))
          here = ap (λ (m : ℕ). (nat_lt h.node.me m && nat_lt r m) && (is_none h.node.inst && not (r == h.node.me))) processes
              ∙ ap (λ (m : ℕ). (nat_lt m n && nat_lt r n) && (is_none h.node.inst && not (r == m))) me

          both : (a b c d : Bool) → ((a && c) && (b && d)) ≡ true → (a && (b && true)) ≡ true
          both true true c d k = refl
          both true false true d k = absurd (cc)
          both true false false d k = absurd (cc)
          both false b c d k = absurd (cc)

      go : (a : Bool) → is_step h.node (Send r body) ≡ a → (b : Bool) → h.node.up ≡ b → let g = sending_one p h (if a then Some (Send r body) else None) in
          ((q : ℕ) → parcels (g.put q) ≡ parcels (h.put q)) × (g.node ≡ h.node)
      go true f true u = elim (no_step f u) [ ]
      go true f false u = (λ q. put_done p h [] (Send r body) q ∙ ap (λ (d : Doing). parcels (h.put q) ++ d.puts q) down ∙ append-nil (parcels (h.put q)), ap (λ (d : Doing). d.state) down)
        where
          down : node_after h.node (Send r body) ≡ refusing h.node verb.Send Down
          down = rw f (rw u refl)
      go false f b u = (λ q. refl, refl)

  unable_again : (xs : List (ℕ × ℤ)) (h : Holdings) → h.node.processes ≡ n → h.node.me ≡ p → can_send n p h.node ≡ false → (q : ℕ) → parcels ((sending_again p h xs).put q) ≡ parcels (h.put q)
  unable_again [] h processes me e q = refl
  unable_again (x ∷ xs) h processes me e q = let one = unable_one h x.0 x.1 processes me e in
      unable_again xs (sending_one p h (input_at h.node (protocol.Send p x.0 x.1) [])) (ap (λ (y : NodeState). y.processes) one.1 ∙ processes) (ap (λ (y : NodeState). y.me) one.1 ∙ me) (ap (can_send n p) one.1 ∙ e) q ∙ one.0 q

module _ (n first : ℕ) (w : KilledNet) (p : ℕ) (away : w.away p ≡ true) (held : IsHeld n first w) (l : Lost n w p) where
  abbrev pub m : Holdings
  m = w.memory p

  -- what each took is a front of what some sends make of what p has
  lost_front : (q : ℕ) → IsFront (parcels ((w.memory q).took p)) (parcels ((sending_again p m l.sends).put q))
  lost_front q = subst (λ (h : Holdings). IsFront (parcels ((w.memory q).took p)) (parcels ((sending_again p h l.sends).put q))) (sym (held.away p away))
      (subst (λ (l : List NodeParcel). IsFront (parcels ((w.memory q).took p)) l) (sym (l.puts q)) (held.knows p q))

  abbrev pub sends : List (ℕ × ℤ)
  sends = sends_after (last_told n (told w p) - m.node.used) n p m.node.used (told w p)

  found_able : Can n p m.node → KnowsWhatWasTaken w p (sending_again p m sends)
  found_able k q = subst (λ (l : List NodeParcel). IsFront (parcels ((w.memory q).took p)) l) (sym (put_again n p sends m k q))
      ((parts q).1 (messages n p m.node.used sends q) (as_told q (messages n p m.node.used sends q) (found_fronts n p l.sends (last_told n (told w p) - m.node.used) m.node.used (told w p) fronts (last_below n p m.node.used l.sends (told w p) fronts) q)))
    where
      took : ℕ → List NodeParcel
      took q = parcels ((w.memory q).took p)

      as_length : (q : ℕ) → length (parcels (m.put q)) ≡ length (m.put q)
      as_length q = length-map (m.put q) (λ (e : Envelope). e.parcel)

      parts : (q : ℕ) → IsFront (drop (length (parcels (m.put q))) (took q)) (messages n p m.node.used l.sends q) × ((c : List NodeParcel) → IsFront (drop (length (parcels (m.put q))) (took q)) c → IsFront (took q) (parcels (m.put q) ++ c))
      parts q = front_drop (parcels (m.put q)) (messages n p m.node.used l.sends q) (took q) (subst (λ (l : List NodeParcel). IsFront (took q) l) (put_again n p l.sends m k q) (lost_front q))

      fronts : AreFronts n p m.node.used l.sends (told w p)
      fronts q = subst (λ (k : ℕ). IsFront (drop k (took q)) (messages n p m.node.used l.sends q)) (as_length q) (parts q).0

      as_told : (q : ℕ) (c : List NodeParcel) → IsFront (told w p q) c → IsFront (drop (length (parcels (m.put q))) (took q)) c
      as_told q c = subst (λ (k : ℕ). IsFront (told w p q) c → IsFront (drop k (took q)) c) (sym (as_length q)) (λ f. f)

  found_unable : can_send n p m.node ≡ false → KnowsWhatWasTaken w p (sending_again p m sends)
  found_unable e q = front_then _ _ _ (subst (λ (x : List NodeParcel). IsFront (parcels ((w.memory q).took p)) x) (unable_again n p l.sends m l.memory.0 l.memory.1 e q) (lost_front q))
      (front_parcels _ _ ((stands_again m p m sends (stands_refl m)).put q))

  pub found_right : IsRight w (Back p (sends_to_make w p))
  found_right = (away, subst (λ (k : ℕ). KnowsWhatWasTaken w p (sending_again p m (sends_after (last_told k (told w p) - m.node.used) k p m.node.used (told w p)))) (sym l.memory.0) (go (can_send n p m.node) refl))
    where
      go : (b : Bool) → can_send n p m.node ≡ b → KnowsWhatWasTaken w p (sending_again p m sends)
      go true e = found_able (can_so n p m.node l.memory.0 l.memory.1 e)
      go false e = found_unable e
