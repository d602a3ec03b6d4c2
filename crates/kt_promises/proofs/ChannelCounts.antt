-- How many parcels of a kind stand in the channels after some are put and one is taken.
use Rattle.std.proofs.Common.{◌≡◌, ℕ, zero, suc, ◌+◌, ◌<◌, Bool, true, false, List, [], ◌∷◌, ◌++◌, refl, arith, sym, ap, ◌∙◌, inl, inr}
use Rattle.std.specs.Prelude.{◌==◌, ◌&&◌, nat_lt, if◌then◌else◌}
use Rattle.kt_protocol.proofs.Updates.{is_same, is_other}
use Rattle.kt_protocol.specs.Joining.{count_below}
use Rattle.kt_protocol.specs.Parcels.{Parcel, Ask, Decide, Lists, with_parcel, with_rest, with_checkpoint_asks, with_decisions, with_rollback_asks}
use Rattle.kt_promises.proofs.MachineTallies.{machine_count_in_channels, machine_count_where}
use Rattle.kt_promises.specs.Tallies.{total_below}
use Rattle.kt_promises.proofs.Totals.{total_same, total_add, total_spike, spike, bit, number_is}
use Rattle.std.proofs.lemmas.Bool.{cases_eq}

count_push : (t : Parcel → Bool) (l : List Parcel) (x : Parcel) → machine_count_where t (l ++ x ∷ []) ≡ machine_count_where t l + bit (t x)
unfolding machine_count_where
count_push t [] x = omega arith
count_push t (y ∷ l) x = let e = count_push t l x in omega (arith, e)

zeros : (n : ℕ) → total_below n (λ v. 0) ≡ 0
unfolding total_below
zeros zero = refl
zeros (suc n) = let i = zeros n in omega (arith, i)

-- in the channels of p that pass the test there is one more, where b
unfoldable pub some_of : Bool → ℕ → ℕ
some_of b x = if b then x else 0

same_if : (c : Bool) (x : ℕ) → (if c then x else x) ≡ x
same_if true x = refl
same_if false x = refl

row_is : (n p u : ℕ) (T : ℕ → Bool) (b : Bool) → total_below n (λ v. if u == p && T v then bit b else 0) ≡ spike p (some_of b (count_below n T)) u
unfolding some_of
row_is n p u T b = go (u == p) b
  where
    go : (a b : Bool) → total_below n (λ v. if a && T v then bit b else 0) ≡ (if a then (if b then count_below n T else 0) else 0)
    go true true = sym (number_is n T)
    go true false = total_same n (λ v. if T v then 0 else 0) (λ v. 0) (λ v. same_if (T v) 0) ∙ zeros n
    go false b = zeros n

pub grown : (n p : ℕ) (t : Parcel → Bool) (T : ℕ → Bool) (b : Bool) (channel channel' : Lists) → p < n → ((u v : ℕ) → machine_count_where t (channel' u v) ≡ machine_count_where t (channel u v) + (if u == p && T v then bit b else 0)) → machine_count_in_channels n t channel' ≡ machine_count_in_channels n t channel + some_of b (count_below n T)
grown n p t T b channel channel' l h =
    total_same n (λ u. total_below n (λ v. machine_count_where t (channel' u v))) (λ u. total_below n (λ v. machine_count_where t (channel u v)) + spike p (some_of b (count_below n T)) u) row ∙
    (total_add n (λ u. total_below n (λ v. machine_count_where t (channel u v))) (spike p (some_of b (count_below n T))) ∙ ap (λ (y : ℕ). machine_count_in_channels n t channel + y) (total_spike n p (some_of b (count_below n T)) l))
  where
    row : (u : ℕ) → total_below n (λ v. machine_count_where t (channel' u v)) ≡ total_below n (λ v. machine_count_where t (channel u v)) + spike p (some_of b (count_below n T)) u
    row u = total_same n (λ v. machine_count_where t (channel' u v)) (λ v. machine_count_where t (channel u v) + (if u == p && T v then bit b else 0)) (h u) ∙
        (total_add n (λ v. machine_count_where t (channel u v)) (λ v. if u == p && T v then bit b else 0) ∙ ap (λ (y : ℕ). total_below n (λ v. machine_count_where t (channel u v)) + y) (row_is n p u T b))

push_is : (t : Parcel → Bool) (c : Bool) (l : List Parcel) (x : Parcel) (b : Bool) → t x ≡ b → machine_count_where t (if c then l ++ x ∷ [] else l) ≡ machine_count_where t l + (if c then bit b else 0)
push_is t true l x b e = count_push t l x ∙ ap (λ (a : Bool). machine_count_where t l + bit a) e
push_is t false l x b e = omega arith

number_one : (n q : ℕ) → q < n → count_below n (λ v. v == q) ≡ 1
number_one n q l = number_is n (λ v. v == q) ∙ total_spike n q 1 l

pub count_with_parcel : (n : ℕ) (t : Parcel → Bool) (channel : Lists) (p q : ℕ) (x : Parcel) → p < n → q < n → machine_count_in_channels n t (with_parcel channel p q x) ≡ machine_count_in_channels n t channel + bit (t x)
unfolding with_parcel some_of
count_with_parcel n t channel p q x l m = grown n p t (λ v. v == q) (t x) channel (with_parcel channel p q x) l (λ u v. push_is t (u == p && v == q) (channel u v) x (t x) refl) ∙ ap (λ (y : ℕ). machine_count_in_channels n t channel + (if t x then y else 0)) (number_one n q m)

pub count_checkpoint_asks : (n : ℕ) (t : Parcel → Bool) (b : Bool) (channel : Lists) (last : ℕ → ℕ → ℕ) (p k : ℕ) → p < n → ((l : ℕ) → t (Ask k l) ≡ b) → machine_count_in_channels n t (with_checkpoint_asks channel last p k) ≡ machine_count_in_channels n t channel + some_of b (count_below n (λ v. nat_lt 0 (last p v)))
unfolding with_checkpoint_asks
count_checkpoint_asks n t b channel last p k l e = grown n p t (λ v. nat_lt 0 (last p v)) b channel (with_checkpoint_asks channel last p k) l (λ u v. push_is t (u == p && nat_lt 0 (last p v)) (channel u v) (Ask k (last p v)) b (e (last p v)))

pub count_rollback_asks : (n : ℕ) (t : Parcel → Bool) (b : Bool) (channel : Lists) (first last_sent : ℕ → ℕ → ℕ) (p k : ℕ) → p < n → ((l : ℕ) → t (Ask k l) ≡ b) → machine_count_in_channels n t (with_rollback_asks channel first last_sent p k) ≡ machine_count_in_channels n t channel + some_of b (count_below n (λ v. nat_lt 0 (first p v)))
unfolding with_rollback_asks
count_rollback_asks n t b channel first last_sent p k l e = grown n p t (λ v. nat_lt 0 (first p v)) b channel (with_rollback_asks channel first last_sent p k) l (λ u v. push_is t (u == p && nat_lt 0 (first p v)) (channel u v) (Ask k (last_sent p v)) b (e (last_sent p v)))

pub count_decisions : (n : ℕ) (t : Parcel → Bool) (b : Bool) (channel : Lists) (asked : ℕ → ℕ → ℕ → Bool) (p k : ℕ) (c : Bool) → p < n → t (Decide k c) ≡ b → machine_count_in_channels n t (with_decisions channel asked p k c) ≡ machine_count_in_channels n t channel + some_of b (count_below n (asked k p))
unfolding with_decisions
count_decisions n t b channel asked p k c l e = grown n p t (asked k p) b channel (with_decisions channel asked p k c) l (λ u v. push_is t (u == p && asked k p v) (channel u v) (Decide k c) b e)

pub count_with_rest : (n : ℕ) (t : Parcel → Bool) (channel : Lists) (q p : ℕ) (x : Parcel) (rest : List Parcel) → channel q p ≡ x ∷ rest → q < n → p < n → machine_count_in_channels n t (with_rest channel q p rest) + bit (t x) ≡ machine_count_in_channels n t channel
unfolding with_rest machine_count_where
count_with_rest n t channel q p x rest e a b = sym (total_same n (λ u. total_below n (λ v. machine_count_where t (channel u v))) (λ u. total_below n (λ v. machine_count_where t (with_rest channel q p rest u v)) + spike q (bit (t x)) u) row ∙
    (total_add n (λ u. total_below n (λ v. machine_count_where t (with_rest channel q p rest u v))) (spike q (bit (t x))) ∙ ap (λ (y : ℕ). machine_count_in_channels n t (with_rest channel q p rest) + y) (total_spike n q (bit (t x)) a)))
  where
    cell : (u v : ℕ) → machine_count_where t (channel u v) ≡ machine_count_where t (if u == q && v == p then rest else channel u v) + (if u == q && v == p then bit (t x) else 0)
    cell u v = elim (cases_eq u q) [
      | inl i ↦ elim (cases_eq v p) [
        | inl j ↦ (let y = is_same q in let z = is_same p in rw (i, j, y, z, e) (omega arith))
        | inr j ↦ (let y = is_same q in let z = is_other v p j in rw (i, y, z) (omega arith))
      ]
      | inr i ↦ (let y = is_other u q i in rw y (omega arith))
    ]

    row_at : (u : ℕ) (c : Bool) → total_below n (λ v. if c && v == p then bit (t x) else 0) ≡ (if c then bit (t x) else 0)
    row_at u true = total_spike n p (bit (t x)) b
    row_at u false = zeros n

    row : (u : ℕ) → total_below n (λ v. machine_count_where t (channel u v)) ≡ total_below n (λ v. machine_count_where t (with_rest channel q p rest u v)) + spike q (bit (t x)) u
    row u = total_same n (λ v. machine_count_where t (channel u v)) (λ v. machine_count_where t (with_rest channel q p rest u v) + (if u == q && v == p then bit (t x) else 0)) (cell u) ∙
        (total_add n (λ v. machine_count_where t (with_rest channel q p rest u v)) (λ v. if u == q && v == p then bit (t x) else 0) ∙ ap (λ (y : ℕ). total_below n (λ v. machine_count_where t (with_rest channel q p rest u v)) + y) (row_at u (u == q)))
