-- A step of a process, in each choice of what processes have.
use Rattle.std.proofs.Common.{◌≡◌, ◌∙◌, ℕ, ℤ, Bool, true, false, Some, None, List, [], ◌∷◌, ◌++◌, refl, sym, ap, subst}
use Rattle.std.specs.Prelude.{◌==◌, if◌then◌else◌}
use Rattle.std.proofs.lemmas.List.{append-nil, map-append}
use Rattle.kt_meaning.specs.Past.{at_one}
use Rattle.kt_protocol.specs.States as protocol
use Rattle.kt_manager.specs.declared.parcels.NodeParcel.{NodeParcel}
use Rattle.kt_node.specs.Inputs.{Input}
use Rattle.kt_node.specs.Inputs as input
use Rattle.kt_node.specs.NodeSteps.{is_step}
use Rattle.kt_node.specs.Clocks.{Envelope, input_at}
use Rattle.kt_kills.specs.KilledNets.{Holdings, KilledNet, sending_one, sending_again}
use Rattle.kt_kills.specs.Starts.{parcels, IsFront}
use Rattle.kt_kills.proofs.Invariant.{Choice, AsItIs, Anew, is_anew, having_chosen, chosen, IsChoice, IsHeld}
use Rattle.kt_kills.proofs.Ran.{Ran, alike, goes_again}
use Rattle.kt_kills.proofs.Basics.{same, is_same, front_refl, front_then, front_left, front_parcels}

-- sends take nothing
one_takes : (p : ℕ) (h : Holdings) (q : ℕ) (body : ℤ) (u : ℕ) (b : Bool) → (sending_one p h (if b then Some (input.Send q body) else None)).took u ≡ h.took u
one_takes p h q body u true = append-nil (h.took u)
one_takes p h q body u false = refl

pub took_again : (p : ℕ) (h : Holdings) (sends : List (ℕ × ℤ)) (u : ℕ) → (sending_again p h sends).took u ≡ h.took u
took_again p h [] u = refl
took_again p h (x ∷ xs) u = took_again p (sending_one p h (input_at h.node (protocol.Send p x.0 x.1) [])) xs u ∙ one_takes p h x.0 x.1 u (is_step h.node (input.Send x.0 x.1))

-- what u has, of which g is the step's, as it is chosen
abbrev pub extra : ℕ → Holdings → Choice → Holdings
extra u g AsItIs = g
extra u g (Anew s) = sending_again u g s

module _ (n first : ℕ) (w : KilledNet) (held : IsHeld n first w) where
  -- of whoever is chosen: it has taken no more than it has in memory
  chosen_took : (q : ℕ) (x : Choice) (p : ℕ) → IsFront (parcels ((having_chosen w q x).took p)) (parcels ((w.memory q).took p))
  chosen_took q AsItIs p = front_refl (parcels ((w.memory q).took p))
  chosen_took q (Anew s) p = subst (λ (l : List Envelope). IsFront (parcels l) (parcels ((w.memory q).took p))) (sym (took_again q (w.disk q) s p)) (front_parcels ((w.disk q).took p) ((w.memory q).took p) ((held.owns q).took p))

  module _ (u : ℕ) (back : w.away u ≡ false) (g : Holdings) (came : ℕ → List Envelope)
      (grows : (s : ℕ) → g.took s ≡ (w.memory u).took s ++ came s)
      (sent_to : (s : ℕ) → IsFront (parcels (g.took s)) (parcels (w.sent s (w.life s) u)))
      (goes : (have : ℕ → Holdings) → have u ≡ w.memory u → ((s : ℕ) → IsFront (parcels (g.took s)) (parcels ((have s).put u))) → Ran n first have → Ran n first (at_one u g have))
      (new : KilledNet) (c : ℕ → Choice) (right : IsChoice new c)
      (others : (p : ℕ) → (p == u) ≡ false → chosen new c p ≡ having_chosen w p (c p))
      (stay : (p : ℕ) → new.away p ≡ w.away p)
    where
      extra_took : (x : Choice) (p : ℕ) → (extra u g x).took p ≡ g.took p
      extra_took AsItIs p = refl
      extra_took (Anew s) p = took_again u g s p

      abbrev pub was : ℕ → Choice
      was = at_one u AsItIs c

      module _ (own : chosen new c u ≡ extra u g (c u)) where
        -- what u has by now of another one is a front of what that one put
        others_put : (p : ℕ) → (p == u) ≡ false → IsFront (parcels (g.took p)) (parcels ((having_chosen w p (c p)).put u))
        others_put p e = subst (λ (l : List Envelope). IsFront (parcels l) (parcels ((having_chosen w p (c p)).put u))) (ap (λ (h : Holdings). h.took p) own ∙ extra_took (c u) p)
            (subst (λ (h : Holdings). IsFront (parcels ((chosen new c u).took p)) (parcels (h.put u))) (others p e) (right.knows p u))

        own_put : (q : ℕ) → w.sent u (w.life u) q ≡ (w.memory u).put q
        own_put q = held.sent u back q

        knows_by : (p q : ℕ) (a b : Bool) → (p == u) ≡ a → (q == u) ≡ b →
            IsFront (parcels ((having_chosen w q (if b then AsItIs else c q)).took p)) (parcels ((having_chosen w p (if a then AsItIs else c p)).put q))
        knows_by p q true b e f = front_then _ _ _ (chosen_took q (if b then AsItIs else c q) p)
            (subst (λ (l : List Envelope). IsFront (parcels ((w.memory q).took p)) (parcels l)) (held.sent p (ap w.away (same p u e) ∙ back) q) (held.knows p q))
        knows_by p q false true e f = subst (λ (v : ℕ). IsFront (parcels ((w.memory v).took p)) (parcels ((having_chosen w p (c p)).put v))) (sym (same q u f))
            (front_left (parcels ((w.memory u).took p)) (parcels (came p)) _ (subst (λ (l : List NodeParcel). IsFront l (parcels ((having_chosen w p (c p)).put u))) (ap parcels (grows p) ∙ map-append (λ (e : Envelope). e.parcel) ((w.memory u).took p) (came p)) (others_put p e)))
        knows_by p q false false e f = subst (λ (h : Holdings). IsFront (parcels (h.took p)) (parcels ((having_chosen w p (c p)).put q))) (others q f)
            (subst (λ (h : Holdings). IsFront (parcels ((chosen new c q).took p)) (parcels (h.put q))) (others p e) (right.knows p q))

        away_by : (p : ℕ) (a : Bool) → (p == u) ≡ a → w.away p ≡ true → is_anew (if a then AsItIs else c p) ≡ true
        away_by p true e f = absurd (cc (f, back, same p u e))
        away_by p false e f = right.away p (stay p ∙ f)

        was_right : IsChoice w was
        was_right = record {
          away = λ p. away_by p (p == u) refl;
          knows = λ p q. knows_by p q (p == u) (q == u) refl refl;
        }

        was_u : chosen w was u ≡ w.memory u
        was_u = rw (is_same u) refl

        put_by : (s : ℕ) (a : Bool) → (s == u) ≡ a → IsFront (parcels (g.took s)) (parcels ((having_chosen w s (if a then AsItIs else c s)).put u))
        put_by s true e = subst (λ (l : List Envelope). IsFront (parcels (g.took s)) (parcels l)) (held.sent s (ap w.away (same s u e) ∙ back) u) (sent_to s)
        put_by s false e = others_put s e

        ran : Ran n first (at_one u g (chosen w was))
        ran = goes (chosen w was) was_u (λ s. put_by s (s == u) refl) (held.runs was was_right)

        at_p : (x : Holdings) (f : ℕ → Holdings) → x ≡ extra u g (c u) → ((p : ℕ) → (p == u) ≡ false → f p ≡ having_chosen w p (c p)) → (p : ℕ) → at_one u x f p ≡ chosen new c p
        at_p x f e k p = by_case (p == u) refl
          where
            by_case : (a : Bool) → (p == u) ≡ a → (if a then x else f p) ≡ chosen new c p
            by_case true h = e ∙ sym own ∙ ap (chosen new c) (sym (same p u h))
            by_case false h = k p h ∙ sym (others p h)

        was_other : (p : ℕ) → (p == u) ≡ false → chosen w was p ≡ having_chosen w p (c p)
        was_other p h = rw h refl

        after_u : at_one u g (chosen w was) u ≡ g
        after_u = rw (is_same u) refl

        after_other : (p : ℕ) → (p == u) ≡ false → at_one u g (chosen w was) p ≡ having_chosen w p (c p)
        after_other p h = rw h refl

        finish : (x : Choice) → c u ≡ x → Ran n first (chosen new c)
        finish AsItIs e = alike n first _ _ (at_p g (chosen w was) (ap (extra u g) (sym e)) was_other) ran
        finish (Anew s) e = alike n first _ _ (at_p (sending_again u (at_one u g (chosen w was) u) s) (at_one u g (chosen w was)) (ap (λ (h : Holdings). sending_again u h s) after_u ∙ ap (extra u g) (sym e)) after_other)
            (goes_again n first u s (at_one u g (chosen w was)) ran)

        pub stepped : Ran n first (chosen new c)
        stepped = finish (c u) refl

-- where nothing that is chosen changes
pub alike_choice : (n first : ℕ) (w new : KilledNet) (c d : ℕ → Choice) → IsHeld n first w → ((p : ℕ) → chosen w d p ≡ chosen new c p) → ((p : ℕ) → w.away p ≡ true → is_anew (d p) ≡ true) → IsChoice new c → Ran n first (chosen new c)
alike_choice n first w new c d held e a right = alike n first (chosen w d) (chosen new c) e (held.runs d (record {
  away = a;
  knows = λ p q. subst (λ (h : Holdings). IsFront (parcels ((chosen w d q).took p)) (parcels (h.put q))) (sym (e p))
      (subst (λ (h : Holdings). IsFront (parcels (h.took p)) (parcels ((chosen new c p).put q))) (sym (e q)) (right.knows p q));
}))
