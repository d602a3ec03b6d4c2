-- Sums, and what a step does to the number of parcels.
use Rattle.std.proofs.Common.{◌≡◌, ◌≢◌, ℕ, zero, suc, ◌+◌, ◌≤◌, ◌<◌, Bool, true, false, List, [], ◌∷◌, ◌++◌, length, refl, arith, ap, ◌∙◌, inl, inr}
use Rattle.std.specs.Prelude.{◌==◌, ◌&&◌, nat_lt, if◌then◌else◌}
use Rattle.std.proofs.lemmas.Bool.{cases_eq}
use Rattle.kt_meaning.specs.Past.{at_one}
use Rattle.kt_protocol.proofs.Updates.{is_same, is_other}
use Rattle.kt_protocol.specs.Joining.{count_below}
use Rattle.kt_protocol.specs.Parcels.{Parcel, Ask, Decide, Lists, with_parcel, with_rest, with_checkpoint_asks, with_decisions, with_rollback_asks}
use Rattle.kt_promises.proofs.MachineWork.{machine_parcels_in_transit}
use Rattle.kt_promises.specs.Tallies.{total_below}

pub total_same : (n : ℕ) (f g : ℕ → ℕ) → ((v : ℕ) → f v ≡ g v) → total_below n f ≡ total_below n g
total_same n f g e = λ i. total_below n (λ v. e v i)

pub total_le : (n : ℕ) (f g : ℕ → ℕ) → ((v : ℕ) → f v ≤ g v) → total_below n f ≤ total_below n g
unfolding total_below
total_le zero f g h = omega arith
total_le (suc n) f g h = let a = h n in let b = total_le n f g h in omega (arith, a, b)

pub total_add : (n : ℕ) (f g : ℕ → ℕ) → total_below n (λ v. f v + g v) ≡ total_below n f + total_below n g
unfolding total_below
total_add zero f g = refl
total_add (suc n) f g = let e = total_add n f g in omega (arith, e)

-- at one place alone
abbrev pub spike : ℕ → ℕ → ℕ → ℕ
spike p x v = if v == p then x else 0

pub total_above : (n p x : ℕ) → n ≤ p → total_below n (spike p x) ≡ 0
unfolding total_below
total_above zero p x h = refl
total_above (suc n) p x h = let i = total_above n p x (omega (arith, h)) in let o = is_other n p (λ e. omega (arith, e, h)) in rw (o, i) refl

pub total_spike : (n p x : ℕ) → p < n → total_below n (spike p x) ≡ x
unfolding total_below
total_spike zero p x h = absurd (omega (arith, h))
total_spike (suc n) p x h = elim (cases_eq n p) [
  | inl e ↦ (let i = total_above n p x (omega (arith, e)) in let o : (n == p) ≡ true = rw e (is_same p) in rw (o, i) (omega arith))
  | inr d ↦ (let i = total_spike n p x (omega (arith, h, d)) in let o = is_other n p d in rw (o, i) (omega arith))
]

pub total_spike_le : (n p x : ℕ) → total_below n (spike p x) ≤ x
unfolding total_below
total_spike_le zero p x = omega arith
total_spike_le (suc n) p x = elim (cases_eq n p) [
  | inl e ↦ (let i = total_above n p x (omega (arith, e)) in let o : (n == p) ≡ true = rw e (is_same p) in rw (o, i) (omega arith))
  | inr d ↦ (let i = total_spike_le n p x in let o = is_other n p d in rw o (omega (arith, i)))
]

-- more at one place
pub total_at : (n p x : ℕ) (f : ℕ → ℕ) → p < n → total_below n (at_one p (f p + x) f) ≡ total_below n f + x
total_at n p x f h = total_same n (at_one p (f p + x) f) (λ v. f v + spike p x v) one ∙ (total_add n f (spike p x) ∙ ap (λ (y : ℕ). total_below n f + y) (total_spike n p x h))
  where
    one : (v : ℕ) → at_one p (f p + x) f v ≡ f v + spike p x v
    one v = elim (cases_eq v p) [
      | inl e ↦ rw (e, is_same p) refl
      | inr d ↦ (let o = is_other v p d in rw o (omega arith))
    ]

-- another value at one place
pub total_less : (n p : ℕ) (f g : ℕ → ℕ) → p < n → f p ≡ g p + 1 → ((v : ℕ) → v ≢ p → f v ≡ g v) → total_below n f ≡ total_below n g + 1
total_less n p f g h e o = total_same n f (λ v. g v + spike p 1 v) one ∙ (total_add n g (spike p 1) ∙ ap (λ (y : ℕ). total_below n g + y) (total_spike n p 1 h))
  where
    one : (v : ℕ) → f v ≡ g v + spike p 1 v
    one v = elim (cases_eq v p) [
      | inl i ↦ (let s = is_same p in rw (i, s) e)
      | inr d ↦ (let t = is_other v p d in let x = o v d in rw t (omega (arith, x)))
    ]

abbrev pub bit : Bool → ℕ
bit b = if b then 1 else 0

pub number_is : (n : ℕ) (t : ℕ → Bool) → count_below n t ≡ total_below n (λ v. bit (t v))
unfolding count_below total_below
number_is zero t = refl
number_is (suc n) t = ap (λ (x : ℕ). bit (t n) + x) (number_is n t)

none : (n : ℕ) → total_below n (λ v. 0) ≤ 0
unfolding total_below
none zero = omega arith
none (suc n) = let i = none n in omega (arith, i)

row_le : (n p u : ℕ) (t : ℕ → Bool) → total_below n (λ v. bit (u == p && t v)) ≤ spike p (count_below n t) u
row_le n p u t = go (u == p)
  where
    go : (b : Bool) → total_below n (λ v. bit (b && t v)) ≤ (if b then count_below n t else 0)
    go true = let e = number_is n t in omega (arith, e)
    go false = none n

-- some channels of p get at most one more parcel each
pub in_transit_more : (n p : ℕ) (t : ℕ → Bool) (channel channel' : Lists) → ((u v : ℕ) → length (channel' u v) ≤ length (channel u v) + bit (u == p && t v)) → machine_parcels_in_transit n channel' ≤ machine_parcels_in_transit n channel + count_below n t
in_transit_more n p t channel channel' h =
    let a = total_le n (λ u. total_below n (λ v. length (channel' u v))) (λ u. total_below n (λ v. length (channel u v)) + spike p (count_below n t) u) row in
    let b = total_add n (λ u. total_below n (λ v. length (channel u v))) (spike p (count_below n t)) in
    let c = total_spike_le n p (count_below n t) in
    omega (arith, a, b, c)
  where
    row : (u : ℕ) → total_below n (λ v. length (channel' u v)) ≤ total_below n (λ v. length (channel u v)) + spike p (count_below n t) u
    row u =
        let a = total_le n (λ v. length (channel' u v)) (λ v. length (channel u v) + bit (u == p && t v)) (h u) in
        let b = total_add n (λ v. length (channel u v)) (λ v. bit (u == p && t v)) in
        let c = row_le n p u t in
        omega (arith, a, b, c)

pub length_push : {X : Type 0} (l : List X) (x : X) → length (l ++ x ∷ []) ≡ length l + 1
length_push [] x = refl
length_push (y ∷ l) x = let e = length_push l x in omega (arith, e)

push_le : (b : Bool) (l : List Parcel) (x : Parcel) → length (if b then l ++ x ∷ [] else l) ≤ length l + bit b
push_le true l x = let e = length_push l x in omega (arith, e)
push_le false l x = omega arith

number_one : (n q : ℕ) → count_below n (λ v. v == q) ≤ 1
number_one n q = let e = number_is n (λ v. v == q) in let i = total_spike_le n q 1 in omega (arith, e, i)

pub in_transit_with_parcel : (n : ℕ) (channel : Lists) (p q : ℕ) (x : Parcel) → machine_parcels_in_transit n (with_parcel channel p q x) ≤ machine_parcels_in_transit n channel + 1
unfolding with_parcel
in_transit_with_parcel n channel p q x = let a = in_transit_more n p (λ v. v == q) channel (with_parcel channel p q x) (λ u v. push_le (u == p && v == q) (channel u v) x) in let b = number_one n q in omega (arith, a, b)

pub checkpoint_asks_in_transit : (n : ℕ) (channel : Lists) (last : ℕ → ℕ → ℕ) (p k : ℕ) → machine_parcels_in_transit n (with_checkpoint_asks channel last p k) ≤ machine_parcels_in_transit n channel + count_below n (λ v. nat_lt 0 (last p v))
unfolding with_checkpoint_asks
checkpoint_asks_in_transit n channel last p k = in_transit_more n p (λ v. nat_lt 0 (last p v)) channel (with_checkpoint_asks channel last p k) (λ u v. push_le (u == p && nat_lt 0 (last p v)) (channel u v) (Ask k (last p v)))

pub rollback_asks_in_transit : (n : ℕ) (channel : Lists) (first last_sent : ℕ → ℕ → ℕ) (p k : ℕ) → machine_parcels_in_transit n (with_rollback_asks channel first last_sent p k) ≤ machine_parcels_in_transit n channel + count_below n (λ v. nat_lt 0 (first p v))
unfolding with_rollback_asks
rollback_asks_in_transit n channel first last_sent p k = in_transit_more n p (λ v. nat_lt 0 (first p v)) channel (with_rollback_asks channel first last_sent p k) (λ u v. push_le (u == p && nat_lt 0 (first p v)) (channel u v) (Ask k (last_sent p v)))

pub decisions_in_transit : (n : ℕ) (channel : Lists) (asked : ℕ → ℕ → ℕ → Bool) (p k : ℕ) (c : Bool) → machine_parcels_in_transit n (with_decisions channel asked p k c) ≤ machine_parcels_in_transit n channel + count_below n (asked k p)
unfolding with_decisions
decisions_in_transit n channel asked p k c = in_transit_more n p (asked k p) channel (with_decisions channel asked p k c) (λ u v. push_le (u == p && asked k p v) (channel u v) (Decide k c))

pub in_transit_with_rest : (n : ℕ) (channel : Lists) (q p : ℕ) (x : Parcel) (rest : List Parcel) → channel q p ≡ x ∷ rest → q < n → p < n → machine_parcels_in_transit n channel ≡ machine_parcels_in_transit n (with_rest channel q p rest) + 1
unfolding with_rest
in_transit_with_rest n channel q p x rest e a b = total_less n q (λ u. total_below n (λ v. length (channel u v))) (λ u. total_below n (λ v. length (with_rest channel q p rest u v))) a
    (total_less n p (λ v. length (channel q v)) (λ v. length (with_rest channel q p rest q v)) b here (λ v d. there q v (is_other v p d)))
    (λ u d. total_same n (λ v. length (channel u v)) (λ v. length (with_rest channel q p rest u v)) (λ v. away u v (is_other u q d)))
  where
    here : length (channel q p) ≡ length (if q == q && p == p then rest else channel q p) + 1
    here = let i = is_same q in let j = is_same p in rw (i, j, e) (omega arith)

    there : (u v : ℕ) → (v == p) ≡ false → length (channel u v) ≡ length (if u == q && v == p then rest else channel u v)
    there u v f = go (u == q)
      where
        go : (a : Bool) → length (channel u v) ≡ length (if a && v == p then rest else channel u v)
        go true = rw f refl
        go false = refl

    away : (u v : ℕ) → (u == q) ≡ false → length (channel u v) ≡ length (if u == q && v == p then rest else channel u v)
    away u v f = rw f refl
