-- What stands of a killed net is a net's.
use Rattle.std.proofs.Common.{◌≡◌, ◌∙◌, ◌+◌, ℕ, Bool, true, false, not, Some, List, [], ◌∷◌, ◌++◌, length, take, drop, refl, sym, ap, subst, append_assoc, nat_lt}
use Rattle.std.specs.Prelude.{◌==◌, ◌&&◌, if◌then◌else◌}
use Rattle.std.specs.List.{drop-map}
use Rattle.std.proofs.lemmas.List.{append-nil, map-append, length-map, append_cancel_left}
use Rattle.std.proofs.Math.Seq.{drop-append_seam}
use Rattle.kt_meaning.specs.Past.{at_one}
use Rattle.kt_machine.specs.Acts.{stepper}
use Rattle.kt_manager.specs.declared.parcels.NodeParcel.{NodeParcel}
use Rattle.kt_manager.specs.Nodes.{is_in_rollback}
use Rattle.kt_node.specs.Inputs.{Input}
use Rattle.kt_node.specs.Inputs as input
use Rattle.kt_node.specs.Nets.{has_some, net_run, opening_net}
use Rattle.kt_node.specs.Clocks.{Envelope, input_at, front_input}
use Rattle.kt_kills.specs.KilledNets.{Holdings, KilledNet, KillEvent, Does, Brought, Writes, Killed, Back, having_done, brought, coming_back, happens, killed_run}
use Rattle.kt_kills.specs.Starts.{parcels, IsFront, IsRight, AreRight}
use Rattle.kt_kills.proofs.Invariant.{IsHeld}
use Rattle.kt_kills.proofs.Ran.{Ran, goes_front}
use Rattle.kt_kills.proofs.Events.{alone_sent, alone_goes}
use Rattle.kt_kills.proofs.Final.{Rest, StepOk, stepping_rest, writes_rest, killed_rest, back_rest, whole}
use Rattle.kt_kills.proofs.Basics.{same, is_same}

head_or : Envelope → List Envelope → Envelope
head_or e [] = e
head_or e (x ∷ xs) = x

tail_of : List Envelope → List Envelope
tail_of [] = []
tail_of (x ∷ xs) = xs

take_one : (l : List Envelope) (e : Envelope) (more : List Envelope) → take 1 l ≡ e ∷ more → (tail : List Envelope) × (more ≡ []) × (l ≡ e ∷ tail)
unfolding head_or tail_of
take_one [] e more h = absurd (cc)
take_one (x ∷ xs) e more h = (xs, sym (ap tail_of h), ap (λ (y : Envelope). y ∷ xs) (ap (head_or e) h))

pub some_is : {X : Type 0} (a b : X) → Some a ≡ Some b → a ≡ b
some_is a b e = cc (e)

module _ (n first : ℕ) (w : KilledNet) (held : IsHeld n first w) where
  -- what u is brought of q: of a process that there is, its next parcel of q's last life, where nothing that it holds comes first
  abbrev pub IsNext : ℕ → ℕ → Envelope → List Envelope → Type 0
  IsNext u q e more = (tail : List Envelope) × (more ≡ []) × ((not (is_in_rollback (w.memory u).node) && has_some ((w.memory u).node.held q)) ≡ false)
      × (drop (length ((w.memory u).took q)) (w.sent q (w.life q) u) ≡ e ∷ tail) × (nat_lt q (w.memory u).node.processes ≡ true)

  pub from_brought : (u q life number : ℕ) (e : Envelope) (more : List Envelope) → brought w u q life number ≡ e ∷ more → IsNext u q e more
  from_brought u q life number e more = go (not (is_in_rollback (w.memory u).node) && has_some ((w.memory u).node.held q)) (nat_lt q (w.memory u).node.processes) (life == w.life q) (number == length ((w.memory u).took q) + 1) refl refl refl
    where
      go : (f n a b : Bool) → (not (is_in_rollback (w.memory u).node) && has_some ((w.memory u).node.held q)) ≡ f → nat_lt q (w.memory u).node.processes ≡ n → (life == w.life q) ≡ a →
          (if f then [] else if n && (a && b) then take 1 (drop (length ((w.memory u).took q)) (w.sent q life u)) else []) ≡ e ∷ more → IsNext u q e more
      go true n a b ef en ea h = absurd (cc)
      go false false a b ef en ea h = absurd (cc)
      go false true false b ef en ea h = absurd (cc)
      go false true true false ef en ea h = absurd (cc)
      go false true true true ef en ea h = let t = take_one (drop (length ((w.memory u).took q)) (w.sent q life u)) e more h in
          (t.0, t.1, ef, subst (λ (l : ℕ). drop (length ((w.memory u).took q)) (w.sent q l u) ≡ e ∷ t.0) (same life (w.life q) ea) t.2, en)

  module _ (u q : ℕ) (able : Bool) (e : Envelope) (tail : List Envelope)
      (free : (not (is_in_rollback (w.memory u).node) && has_some ((w.memory u).node.held q)) ≡ false)
      (next : drop (length ((w.memory u).took q)) (w.sent q (w.life q) u) ≡ e ∷ tail) where
    abbrev pub had : List NodeParcel
    had = parcels ((w.memory u).took q)

    abbrev pub g : Holdings
    g = having_done u (w.memory u) (e ∷ []) (input.Comes q able e.parcel)

    left_over : (held.knows q u).0 ≡ parcels (e ∷ tail)
    left_over = sym (drop-append_seam had (held.knows q u).0) ∙ ap (λ (l : List NodeParcel). drop (length had) l) (sym (held.knows q u).1)
        ∙ ap (λ (k : ℕ). drop k (parcels (w.sent q (w.life q) u))) (length-map ((w.memory u).took q) (λ (x : Envelope). x.parcel))
        ∙ drop-map (λ (x : Envelope). x.parcel) (length ((w.memory u).took q)) (w.sent q (w.life q) u) ∙ ap parcels next

    g_took : parcels (g.took q) ≡ had ++ e.parcel ∷ []
    g_took = rw (is_same q) (map-append (λ (x : Envelope). x.parcel) ((w.memory u).took q) (e ∷ []))

    sent_to : (s : ℕ) → IsFront (parcels (g.took s)) (parcels (w.sent s (w.life s) u))
    sent_to s = go (s == q) refl
      where
        from_q : IsFront (parcels ((w.memory u).took q ++ e ∷ [])) (parcels (w.sent q (w.life q) u))
        from_q = (
          parcels tail,
          (held.knows q u).1 ∙ ap (λ (l : List NodeParcel). had ++ l) left_over ∙ sym (append_assoc had (e.parcel ∷ []) (parcels tail))
              ∙ ap (λ (l : List NodeParcel). l ++ parcels tail) (sym (map-append (λ (x : Envelope). x.parcel) ((w.memory u).took q) (e ∷ []))),
        )

        go : (a : Bool) → (s == q) ≡ a → IsFront (parcels ((w.memory u).took s ++ (if a then e ∷ [] else []))) (parcels (w.sent s (w.life s) u))
        go true f = subst (λ (v : ℕ). IsFront (parcels ((w.memory u).took v ++ e ∷ [])) (parcels (w.sent v (w.life v) u))) (sym (same s q f)) from_q
        go false f = subst (λ (l : List Envelope). IsFront (parcels l) (parcels (w.sent s (w.life s) u))) (sym (append-nil ((w.memory u).took s))) (held.knows s u)

    goes : (have : ℕ → Holdings) → have u ≡ w.memory u → ((s : ℕ) → IsFront (parcels (g.took s)) (parcels ((have s).put u))) → Ran n first have → Ran n first (at_one u g have)
    goes have f k r = subst (λ (h : Holdings). Ran n first (at_one u (having_done u h (e ∷ []) (input.Comes q able e.parcel)) have)) f
        (goes_front n first have u q able e (k q).0 r
        (subst (λ (h : Holdings). (not (is_in_rollback h.node) && has_some (h.node.held q)) ≡ false) (sym f) free)
        (append_cancel_left had _ _ (subst (λ (h : Holdings). parcels (h.took q) ++ (net_run (opening_net n first) r.0).channel q u ≡ parcels ((have q).put u)) f (sym (r.1.channels q u))
        ∙ (k q).1 ∙ ap (λ (l : List NodeParcel). l ++ (k q).0) g_took ∙ append_assoc had (e.parcel ∷ []) (k q).0)))

    front_ok : StepOk n first w u (e ∷ []) (input.Comes q able e.parcel)
    front_ok = record { sent_to = sent_to; goes = goes }

  brought_ok : (u q : ℕ) (able : Bool) (life number : ℕ) (es : List Envelope) → brought w u q life number ≡ es → (i : Input) → front_input q able es ≡ Some i → StepOk n first w u es i
  brought_ok u q able life number [] h i f = absurd (cc)
  brought_ok u q able life number (e ∷ more) h i f = let t = from_brought u q life number e more h in
      subst (λ (l : List Envelope). StepOk n first w u (e ∷ l) i) (sym t.1) (subst (λ (j : Input). StepOk n first w u (e ∷ []) j) (some_is (input.Comes q able e.parcel) i f) (front_ok u q able e t.0 t.2 t.3))

  pub held_event : (e : KillEvent) → IsRight w e → IsHeld n first (happens w e)
  held_event (Does x) right = whole n first w held (Does x) (stepping_rest n first w held (stepper x) [] (input_at (w.memory (stepper x)).node x [])
      (λ i f. record { sent_to = alone_sent n first w held (stepper x) i; goes = alone_goes n first w held x i f }))
  held_event (Brought u q able life number) right = whole n first w held (Brought u q able life number)
      (stepping_rest n first w held u (brought w u q life number) (front_input q able (brought w u q life number)) (brought_ok u q able life number (brought w u q life number) refl))
  held_event (Writes u) right = whole n first w held (Writes u) (writes_rest n first w held u)
  held_event (Killed u) right = whole n first w held (Killed u) (killed_rest n first w held u)
  held_event (Back u sends) right = whole n first w held (Back u sends) (subst (λ (b : Bool). Rest n first (if b then coming_back w u sends else w)) (sym right.0) (back_rest n first w held u sends right.0 right.1))

pub held_run : (n first : ℕ) (w : KilledNet) (es : List KillEvent) → AreRight w es → IsHeld n first w → IsHeld n first (killed_run w es)
held_run n first w [] right held = held
held_run n first w (e ∷ es) right held = held_run n first (happens w e) es right.1 (held_event n first w held e right.0)
