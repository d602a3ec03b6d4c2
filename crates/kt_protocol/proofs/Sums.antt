-- Sums over processes and over pairs of them.
use Rattle.std.proofs.Common.{◌≡◌, ◌≢◌, ℕ, zero, suc, ◌+◌, ◌≤◌, ◌<◌, Bool, true, false, refl, arith, sym, inl, inr}
use Rattle.std.specs.Prelude.{if◌then◌else◌}
use Rattle.std.proofs.lemmas.Bool.{cases_eq, cases_lt}
use Rattle.std.specs.Prelude.{◌*◌, ◌-◌}
use Rattle.kt_protocol.specs.Joining.{count_below}

-- the pairs below m and n that pass the test
pub total : ℕ → ℕ → (ℕ → ℕ → Bool) → ℕ
total zero n f = 0
total (suc m) n f = count_below n (f m) + total m n f

pub number_same : (n : ℕ) (f g : ℕ → Bool) → ((v : ℕ) → f v ≡ g v) → count_below n f ≡ count_below n g
unfolding count_below
number_same zero f g h = refl
number_same (suc n) f g h = let i = number_same n f g h in let e = h n in rw (e, i) refl

pub number_le : (n : ℕ) (f g : ℕ → Bool) → ((v : ℕ) → f v ≡ true → g v ≡ true) → count_below n f ≤ count_below n g
unfolding count_below
number_le zero f g h = omega arith
number_le (suc n) f g h = let i = number_le n f g h in at_test (f n) (g n) (h n) _ _ i
  where
    at_test : (a b : Bool) → (a ≡ true → b ≡ true) → (x y : ℕ) → x ≤ y → (if a then 1 else 0) + x ≤ (if b then 1 else 0) + y
    at_test true b h x y i = rw (h refl) (omega (arith, i))
    at_test false true h x y i = omega (arith, i)
    at_test false false h x y i = omega (arith, i)

pub number_most : (n : ℕ) (f : ℕ → Bool) → count_below n f ≤ n
unfolding count_below
number_most zero f = omega arith
number_most (suc n) f = let i = number_most n f in at_test (f n) _ i
  where
    at_test : (a : Bool) (x : ℕ) → x ≤ n → (if a then 1 else 0) + x ≤ suc n
    at_test true x i = omega (arith, i)
    at_test false x i = omega (arith, i)

-- one that fails
pub number_less : (n : ℕ) (f : ℕ → Bool) (p : ℕ) → p < n → f p ≡ false → count_below n f < n
unfolding count_below
number_less zero f p l e = absurd (omega (arith, l))
number_less (suc n) f p l e = elim (cases_eq p n) [
  | inl x ↦ (let i = number_most n f in let y : f n ≡ false = rw x at e in rw y (omega (arith, i)))
  | inr x ↦ (let i = number_less n f p (omega (arith, l, x)) e in at_test (f n) _ i)
]
  where
    at_test : (a : Bool) (x : ℕ) → x < n → (if a then 1 else 0) + x < suc n
    at_test true x i = omega (arith, i)
    at_test false x i = omega (arith, i)

pub number_none : (n : ℕ) (f : ℕ → Bool) → ((v : ℕ) → f v ≡ false) → count_below n f ≡ 0
unfolding count_below
number_none zero f h = refl
number_none (suc n) f h = let i = number_none n f h in let e = h n in rw (e, i) refl

-- one more
pub number_more : (n : ℕ) (f g : ℕ → Bool) (p : ℕ) → p < n → f p ≡ false → g p ≡ true → ((v : ℕ) → v ≢ p → f v ≡ g v) → count_below n g ≡ count_below n f + 1
unfolding count_below
number_more zero f g p l a b h = absurd (omega (arith, l))
number_more (suc n) f g p l a b h = elim (cases_eq p n) [
  | inl x ↦ (let i = below n (omega (arith, x)) in let y : f n ≡ false = rw x at a in let z : g n ≡ true = rw x at b in rw (y, z, i) (omega arith))
  | inr x ↦ (let i = number_more n f g p (omega (arith, l, x)) a b h in let y = h n (λ e. x (sym e)) in rw (y, i) (omega arith))
]
  where
    below : (m : ℕ) → m ≤ p → count_below m f ≡ count_below m g
    below zero l = refl
    below (suc m) l = let i = below m (omega (arith, l)) in let y = h m (λ e. omega (arith, e, l)) in rw (y, i) refl

pub total_none : (m n : ℕ) → total m n (λ u v. false) ≡ 0
unfolding total
total_none zero n = refl
total_none (suc m) n = let i = total_none m n in let e = number_none n (λ v. false) (λ v. refl) in omega (arith, i, e)

pub total_same : (m n : ℕ) (f g : ℕ → ℕ → Bool) → ((u v : ℕ) → f u v ≡ g u v) → total m n f ≡ total m n g
unfolding total
total_same zero n f g h = refl
total_same (suc m) n f g h = let i = total_same m n f g h in let e = number_same n (f m) (g m) (h m) in omega (arith, i, e)

pub total_le : (m n : ℕ) (f g : ℕ → ℕ → Bool) → ((u v : ℕ) → f u v ≡ true → g u v ≡ true) → total m n f ≤ total m n g
unfolding total
total_le zero n f g h = omega arith
total_le (suc m) n f g h = let i = total_le m n f g h in let e = number_le n (f m) (g m) (h m) in omega (arith, i, e)

-- one row changes
pub total_row : (m n : ℕ) (f g : ℕ → ℕ → Bool) (p : ℕ) → ((u v : ℕ) → u ≢ p → f u v ≡ g u v) → p < m → total m n g + count_below n (f p) ≡ total m n f + count_below n (g p)
unfolding total
total_row zero n f g p h l = absurd (omega (arith, l))
total_row (suc m) n f g p h l = elim (cases_eq p m) [
  | inl x ↦ (let i = below m (omega (arith, x)) in rw x (omega (arith, i)))
  | inr x ↦ (let i = total_row m n f g p h (omega (arith, l, x)) in let e = number_same n (f m) (g m) (λ v. h m v (λ y. x (sym y))) in omega (arith, i, e))
]
  where
    below : (k : ℕ) → k ≤ p → total k n f ≡ total k n g
    below zero l = refl
    below (suc k) l = let i = below k (omega (arith, l)) in let e = number_same n (f k) (g k) (λ v. h k v (λ y. omega (arith, y, l))) in omega (arith, i, e)

pub total_beyond : (m n : ℕ) (f g : ℕ → ℕ → Bool) (p : ℕ) → ((u v : ℕ) → u ≢ p → f u v ≡ g u v) → m ≤ p → total m n f ≡ total m n g
unfolding total
total_beyond zero n f g p h l = refl
total_beyond (suc m) n f g p h l = let i = total_beyond m n f g p h (omega (arith, l)) in let e = number_same n (f m) (g m) (λ v. h m v (λ y. omega (arith, y, l))) in omega (arith, i, e)

-- a new row, which is empty where it lies beyond
pub total_new : (m n : ℕ) (f g : ℕ → ℕ → Bool) (p : ℕ) → ((u v : ℕ) → u ≢ p → f u v ≡ g u v) → ((v : ℕ) → f p v ≡ false) → ((v : ℕ) → g p v ≡ true → p < m) → total m n g ≡ total m n f + count_below n (g p)
total_new m n f g p h z l = elim (cases_lt p m) [
  | inl x ↦ (let i = total_row m n f g p h x in let e = number_none n (f p) z in omega (arith, i, e))
  | inr x ↦ (let i = total_beyond m n f g p h x in let e = number_none n (g p) (λ v. none v (g p v) refl x) in omega (arith, i, e))
]
  where
    none : (v : ℕ) (b : Bool) → g p v ≡ b → m ≤ p → g p v ≡ false
    none v false e x = e
    none v true e x = absurd (omega (arith, l v e, x))

-- one more pair
pub total_more : (m n : ℕ) (f g : ℕ → ℕ → Bool) (p q : ℕ) → p < m → q < n → f p q ≡ false → g p q ≡ true → ((u v : ℕ) → u ≢ p → f u v ≡ g u v) → ((v : ℕ) → v ≢ q → f p v ≡ g p v) → total m n g ≡ total m n f + 1
total_more m n f g p q l k a b h r = let i = total_row m n f g p h l in let e = number_more n (f p) (g p) q k a b r in omega (arith, i, e)

-- no pair of the same
pub total_most : (m k : ℕ) (f : ℕ → ℕ → Bool) → m ≤ suc k → ((p : ℕ) → f p p ≡ false) → total m (suc k) f ≤ m * k
unfolding total
total_most zero k f l h = omega arith
total_most (suc m) k f l h = let i = total_most m k f (omega (arith, l)) h in let e = number_less (suc k) (f m) m l (h m) in omega (arith, i, e)

pub total_pairs : (n : ℕ) (f : ℕ → ℕ → Bool) → ((p : ℕ) → f p p ≡ false) → total n n f ≤ n * (n - 1)
unfolding total
total_pairs zero f h = omega arith
total_pairs (suc k) f h = let e : suc k - 1 ≡ k = omega arith in rw e (total_most (suc k) k f (omega arith) h)
