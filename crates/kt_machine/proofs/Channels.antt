-- What steps do to channels keeps them naming the right messages; values at one pair.
use Rattle.std.proofs.Common.{◌≡◌, ◌≢◌, ℕ, ◌≤◌, ◌<◌, Bool, true, false, List, [], ◌∷◌, ◌++◌, refl, arith, sym, subst}
use Rattle.std.specs.Prelude.{◌==◌, ◌&&◌, nat_lt, if◌then◌else◌}
use Rattle.std.proofs.lemmas.Bool.Decides.{nat_tests}
use Rattle.kt_meaning.specs.Past.{at_pair}
use Rattle.kt_protocol.proofs.Choices.{same, both, differ}
use Rattle.kt_protocol.proofs.Updates.{is_same, is_other}
use Rattle.kt_protocol.specs.Parcels.{Parcel, Ask, Decide, Lists, with_parcel, with_rest, with_checkpoint_asks, with_rollback_asks, with_decisions}
use Rattle.kt_machine.proofs.LabelNumbers.{Of}
use Rattle.kt_machine.proofs.Parcels.{NamesMessages, AreMessagesOf, names_append, names_ask, names_decide, own_append}

pub positive : (n : ℕ) → nat_lt 0 n ≡ true → 0 < n
positive n e = grind (arith, nat_tests, e)

pub pair_row : {X : Type 0} (p q : ℕ) (x : X) (f : ℕ → ℕ → X) (u v : ℕ) → u ≢ p → at_pair p q x f u v ≡ f u v
pair_row p q x f u v n = rw (is_other u p n) refl

pub pair_side : {X : Type 0} (p q : ℕ) (x : X) (f : ℕ → ℕ → X) (v : ℕ) → v ≢ q → at_pair p q x f p v ≡ f p v
pair_side p q x f v n = rw (is_same p, is_other v q n) refl

pub pair_all : {X : Type 0} (P : ℕ → ℕ → X → Type 0) (p q : ℕ) (x : X) (f : ℕ → ℕ → X) → P p q x → ((u v : ℕ) → P u v (f u v)) → (u v : ℕ) → P u v (at_pair p q x f u v)
pair_all {X} P p q x f here others u v = go (u == p && v == q) refl
  where
    go : (b : Bool) → (u == p && v == q) ≡ b → P u v (if b then x else f u v)
    go true e = let w = both (u == p) (v == q) e in subst (λ (a : ℕ). P a v x) (sym (same u p w.0)) (subst (λ (a : ℕ). P p a x) (sym (same v q w.1)) here)
    go false e = others u v

-- at a row
pub row_all : {X : Type 0} (P : ℕ → X → Type 0) (p : ℕ) (f g : ℕ → X) → P p (f p) → ((u : ℕ) → u ≢ p → P u (g u)) → (u : ℕ) → P u (if u == p then f u else g u)
row_all {X} P p f g here others u = go (u == p) refl
  where
    go : (b : Bool) → (u == p) ≡ b → P u (if b then f u else g u)
    go true e = subst (λ (a : ℕ). P a (f a)) (sym (same u p e)) here
    go false e = others u (differ u p e)

module _ (label from : ℕ → ℕ) (roll : ℕ → Bool) (instances : ℕ) where
  names_if : (b : Bool) (p q : ℕ) (xs : List Parcel) (x : Parcel) → NamesMessages label from roll instances p q xs → (b ≡ true → NamesMessages label from roll instances p q (x ∷ [])) → NamesMessages label from roll instances p q (if b then xs ++ x ∷ [] else xs)
  names_if true p q xs x a h = names_append label from roll instances p q xs (x ∷ []) a (h refl)
  names_if false p q xs x a h = a

  pub names_with_parcel : (channel : Lists) (p q : ℕ) (x : Parcel) → ((u v : ℕ) → NamesMessages label from roll instances u v (channel u v)) → NamesMessages label from roll instances p q (x ∷ []) → (u v : ℕ) → NamesMessages label from roll instances u v (with_parcel channel p q x u v)
  unfolding with_parcel
  names_with_parcel channel p q x a h u v = names_if (u == p && v == q) u v (channel u v) x (a u v)
      (λ e. let w = both (u == p) (v == q) e in subst (λ (y : ℕ). NamesMessages label from roll instances y v (x ∷ [])) (sym (same u p w.0)) (subst (λ (y : ℕ). NamesMessages label from roll instances p y (x ∷ [])) (sym (same v q w.1)) h))

  pub names_with_rest : (channel : Lists) (q p : ℕ) (rest : List Parcel) → ((u v : ℕ) → NamesMessages label from roll instances u v (channel u v)) → NamesMessages label from roll instances q p rest → (u v : ℕ) → NamesMessages label from roll instances u v (with_rest channel q p rest u v)
  unfolding with_rest
  names_with_rest channel q p rest a h = pair_all (λ u v l. NamesMessages label from roll instances u v l) q p rest channel h a

  pub names_with_decisions : (channel : Lists) (asked : ℕ → ℕ → ℕ → Bool) (p k : ℕ) (c : Bool) → ((u v : ℕ) → NamesMessages label from roll instances u v (channel u v)) → (u v : ℕ) → NamesMessages label from roll instances u v (with_decisions channel asked p k c u v)
  unfolding with_decisions
  names_with_decisions channel asked p k c a u v = names_if (u == p && asked k p v) u v (channel u v) (Decide k c) (a u v) (λ e. names_decide label from roll instances u v k c)

  pub names_with_checkpoint_asks : (channel : Lists) (last : ℕ → ℕ → ℕ) (p k : ℕ) → 0 < k → k ≤ instances → roll k ≡ false → ((v : ℕ) → Of label from v (last p v)) → ((u v : ℕ) → NamesMessages label from roll instances u v (channel u v)) → (u v : ℕ) → NamesMessages label from roll instances u v (with_checkpoint_asks channel last p k u v)
  unfolding with_checkpoint_asks
  names_with_checkpoint_asks channel last p k pos low r h a u v = names_if (u == p && nat_lt 0 (last p v)) u v (channel u v) (Ask k (last p v)) (a u v)
      (λ e. names_ask label from roll instances u v k (last p v) pos low (subst (λ (b : Bool). Of label from (if b then u else v) (last p v)) (sym r) (h v)))

  pub names_with_rollback_asks : (channel : Lists) (first last_sent : ℕ → ℕ → ℕ) (p k : ℕ) → 0 < k → k ≤ instances → roll k ≡ true → ((v : ℕ) → Of label from p (last_sent p v)) → ((u v : ℕ) → NamesMessages label from roll instances u v (channel u v)) → (u v : ℕ) → NamesMessages label from roll instances u v (with_rollback_asks channel first last_sent p k u v)
  unfolding with_rollback_asks
  names_with_rollback_asks channel first last_sent p k pos low r h a u v = names_if (u == p && nat_lt 0 (first p v)) u v (channel u v) (Ask k (last_sent p v)) (a u v)
      (λ e. names_ask label from roll instances u v k (last_sent p v) pos low (subst (λ (b : Bool). Of label from (if b then u else v) (last_sent p v)) (sym r)
      (subst (λ (y : ℕ). Of label from y (last_sent p v)) (sym (same u p (both (u == p) (nat_lt 0 (first p v)) e).0)) (h v))))

module _ (label from : ℕ → ℕ) where
  pub own_with_parcel : (channel : Lists) (p q : ℕ) (x : Parcel) → ((u v : ℕ) → AreMessagesOf label from u (channel u v)) → AreMessagesOf label from p (x ∷ []) → (u v : ℕ) → AreMessagesOf label from u (with_parcel channel p q x u v)
  unfolding with_parcel
  own_with_parcel channel p q x a h u v = go (u == p && v == q) refl
    where
      go : (b : Bool) → (u == p && v == q) ≡ b → AreMessagesOf label from u (if b then channel u v ++ x ∷ [] else channel u v)
      go true e = own_append label from u (channel u v) (x ∷ []) (a u v) (subst (λ (y : ℕ). AreMessagesOf label from y (x ∷ [])) (sym (same u p (both (u == p) (v == q) e).0)) h)
      go false e = a u v

  pub own_with_rest : (channel : Lists) (q p : ℕ) (rest : List Parcel) → ((u v : ℕ) → AreMessagesOf label from u (channel u v)) → AreMessagesOf label from q rest → (u v : ℕ) → AreMessagesOf label from u (with_rest channel q p rest u v)
  unfolding with_rest
  own_with_rest channel q p rest a h = pair_all (λ u v l. AreMessagesOf label from u l) q p rest channel h a
