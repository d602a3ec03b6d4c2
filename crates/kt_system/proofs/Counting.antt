-- How many parcels are in lists after some are put there, or one is taken off.
use Rattle.std.specs.Prelude.{◌==◌, ◌&&◌, ◌-◌, if◌then◌else◌, count_by}
use Rattle.std.proofs.Common.{◌≡◌, ◌≢◌, ◌<◌, ◌≤◌, ◌+◌, ℕ, zero, suc, Bool, true, false, List, [], ◌∷◌, ◌++◌, take, drop, length, get_or, refl, arith, ap, sym, ◌∙◌, inl, inr, cond}
use Rattle.std.proofs.lemmas.Bool.{cases_eq}
use Rattle.std.proofs.lemmas.Bool.Decides.{nat_tests}
use Rattle.std.proofs.lemmas.List.Sums.{sum_by-cons, sum_by-append, sum_by_push, sum_by-take-drop}
use Rattle.kt_base.specs.Sets.{has, count_below, count_of}
use Rattle.kt_base.specs.declared.words.Kind.{Kind}
use Rattle.kt_fifo.specs.Channels.{at_pair}
use Rattle.kt_fifo.specs.declared.parcels.Parcel.{Parcel}
use Rattle.kt_fifo.specs.declared.parcels.Parcel.TheVariants.{Ask, Decide}
use Rattle.kt_process.specs.Asks.{AreRisingAsks}
use Rattle.kt_machine.specs.Seen.{SeenLists}
use Rattle.kt_machine.specs.ListChanges.{with_parcel, with_decisions}
use Rattle.kt_machine.specs.InOnePiece.{asks_to, with_asks}
use Rattle.kt_system.specs.Tallies.{total_below, count_in_lists}

total_same : (n : ℕ) (f g : ℕ → ℕ) → ((v : ℕ) → f v ≡ g v) → total_below n f ≡ total_below n g
total_same n f g e = λ i. total_below n (λ v. e v i)

total_add : (n : ℕ) (f g : ℕ → ℕ) → total_below n (λ v. f v + g v) ≡ total_below n f + total_below n g
unfolding total_below
total_add zero f g = refl
total_add (suc n) f g = let e = total_add n f g in omega (arith, e)

zeros : (n : ℕ) → total_below n (λ v. 0) ≡ 0
unfolding total_below
zeros zero = refl
zeros (suc n) = let i = zeros n in omega (arith, i)

-- at one place alone
abbrev spike : ℕ → ℕ → ℕ → ℕ
spike p x v = if v == p then x else 0

is_same : (p : ℕ) → (p == p) ≡ true
is_same p = grind (arith, nat_tests)

is_other : (u p : ℕ) → u ≢ p → (u == p) ≡ false
is_other u p h = grind (arith, nat_tests)

total_above : (n p x : ℕ) → n ≤ p → total_below n (spike p x) ≡ 0
unfolding total_below
total_above zero p x h = refl
total_above (suc n) p x h = let i = total_above n p x (omega (arith, h)) in let o = is_other n p (λ e. omega (arith, e, h)) in rw (o, i) refl

total_spike : (n p x : ℕ) → p < n → total_below n (spike p x) ≡ x
unfolding total_below
total_spike zero p x h = absurd (omega (arith, h))
total_spike (suc n) p x h = elim (cases_eq n p) [
  | inl e ↦ (let i = total_above n p x (omega (arith, e)) in let o : (n == p) ≡ true = rw e (is_same p) in rw (o, i) (omega arith))
  | inr d ↦ (let i = total_spike n p x (omega (arith, h, d)) in let o = is_other n p d in rw (o, i) (omega arith))
]

abbrev pub bit : Bool → ℕ
bit b = if b then 1 else 0

-- the lists of one process have so many more
grown : (n p : ℕ) (t : Parcel → Bool) (f g : SeenLists) (more : ℕ → ℕ) → p < n → ((u v : ℕ) → count_by t (g u v) ≡ count_by t (f u v) + (if u == p then more v else 0)) → count_in_lists n t g ≡ count_in_lists n t f + total_below n more
grown n p t f g more l h =
    total_same n (λ u. total_below n (λ v. count_by t (g u v))) (λ u. total_below n (λ v. count_by t (f u v)) + spike p (total_below n more) u) row
    ∙ (total_add n (λ u. total_below n (λ v. count_by t (f u v))) (spike p (total_below n more)) ∙ ap (λ (y : ℕ). count_in_lists n t f + y) (total_spike n p (total_below n more) l))
  where
    at_row : (b : Bool) → total_below n (λ v. if b then more v else 0) ≡ (if b then total_below n more else 0)
    at_row true = refl
    at_row false = zeros n

    row : (u : ℕ) → total_below n (λ v. count_by t (g u v)) ≡ total_below n (λ v. count_by t (f u v)) + spike p (total_below n more) u
    row u = total_same n (λ v. count_by t (g u v)) (λ v. count_by t (f u v) + (if u == p then more v else 0)) (h u)
        ∙ (total_add n (λ v. count_by t (f u v)) (λ v. if u == p then more v else 0) ∙ ap (λ (y : ℕ). total_below n (λ v. count_by t (f u v)) + y) (at_row (u == p)))

-- one parcel is put
pub count_pushed : (n : ℕ) (t : Parcel → Bool) (f : SeenLists) (p q : ℕ) (x : Parcel) → p < n → q < n → count_in_lists n t (with_parcel f p q x) ≡ count_in_lists n t f + bit (t x)
unfolding with_parcel
count_pushed n t f p q x l m = grown n p t f (with_parcel f p q x) (spike q (bit (t x))) l (λ u v. at_tests (u == p) (v == q) (f u v)) ∙ ap (λ (y : ℕ). count_in_lists n t f + y) (total_spike n q (bit (t x)) m)
  where
    at_tests : (a b : Bool) (xs : List Parcel) → count_by t (if a && b then xs ++ x ∷ [] else xs) ≡ count_by t xs + (if a then (if b then bit (t x) else 0) else 0)
    at_tests true true xs = sum_by_push (λ y. cond (t y) 1 0) xs x
    at_tests true false xs = omega arith
    at_tests false b xs = omega arith

-- a parcel is taken off
pub count_popped : (n : ℕ) (t : Parcel → Bool) (f : SeenLists) (q p : ℕ) → q < n → p < n → count_in_lists n t (at_pair q p (drop 1 (f q p)) f) + count_by t (take 1 (f q p)) ≡ count_in_lists n t f
count_popped n t f q p l m =
    sym (grown n q t rest f (spike p (count_by t (take 1 (f q p)))) l cell ∙ ap (λ (y : ℕ). count_in_lists n t rest + y) (total_spike n p (count_by t (take 1 (f q p))) m))
  where
    rest : SeenLists
    rest = at_pair q p (drop 1 (f q p)) f

    cell : (u v : ℕ) → count_by t (f u v) ≡ count_by t (if u == q && v == p then drop 1 (f q p) else f u v) + (if u == q then (if v == p then count_by t (take 1 (f q p)) else 0) else 0)
    cell u v = elim (cases_eq u q) [
      | inl i ↦ elim (cases_eq v p) [
        | inl j ↦ (let y = is_same q in let z = is_same p in let s = sum_by-take-drop (λ x. cond (t x) 1 0) (f q p) 1 in rw (i, j, y, z) (omega (arith, s)))
        | inr j ↦ (let y = is_same q in let z = is_other v p j in rw (i, y, z) (omega arith))
      ]
      | inr i ↦ (let y = is_other u q i in rw y (omega arith))
    ]

-- decisions are put
pub count_told : (n : ℕ) (t : Parcel → Bool) (b : Bool) (f : SeenLists) (p k : ℕ) (c : Bool) (set : ℕ) → p < n → n ≤ 64 → ((q : ℕ) → has set q ≡ true → q < n) → t (Decide k c) ≡ b →
    count_in_lists n t (with_decisions f p k c (has set)) ≡ count_in_lists n t f + (if b then count_of set else 0)
unfolding with_decisions count_below total_below
count_told n t b f p k c set l few within e =
    grown n p t f (with_decisions f p k c (has set)) (λ v. if has set v then bit b else 0) l (λ u v. at_tests (u == p) (has set v) (f u v)) ∙ ap (λ (y : ℕ). count_in_lists n t f + y) (all b)
  where
    at_tests : (a d : Bool) (xs : List Parcel) → count_by t (if a && d then xs ++ Decide k c ∷ [] else xs) ≡ count_by t xs + (if a then (if d then bit b else 0) else 0)
    at_tests true true xs = sum_by_push (λ y. cond (t y) 1 0) xs (Decide k c) ∙ ap (λ (z : Bool). count_by t xs + bit z) e
    at_tests true false xs = omega arith
    at_tests false d xs = omega arith

    same_if : (d : Bool) → ◌≡◌ {A = ℕ} (if d then 0 else 0) 0
    same_if true = refl
    same_if false = refl

    total_is : (m : ℕ) → total_below m (λ v. if has set v then 1 else 0) ≡ count_below set m
    total_is zero = refl
    total_is (suc m) = let i = total_is m in omega (arith, i)

    not_in : (q : ℕ) → n ≤ q → (d : Bool) → has set q ≡ d → ◌≡◌ {A = ℕ} (if d then 1 else 0) 0
    not_in q h true i = absurd (let z = within q i in omega (arith, z, h))
    not_in q h false i = refl

    none_above : (m : ℕ) → n ≤ m → count_below set m ≡ count_below set n
    none_above zero h = ap (λ (z : ℕ). count_below set z) (let z : 0 ≡ n = omega (arith, h) in z)
    none_above (suc m) h = elim (cases_eq n (suc m)) [
      | inl i ↦ ap (λ (z : ℕ). count_below set z) (sym i)
      | inr d ↦ (let i = none_above m (omega (arith, h, d)) in let z = not_in m (omega (arith, h, d)) (has set m) refl in omega (arith, i, z))
    ]

    all : (b : Bool) → total_below n (λ v. if has set v then bit b else 0) ≡ (if b then count_of set else 0)
    all true = total_is n ∙ sym (none_above 64 few)
    all false = total_same n (λ v. if has set v then 0 else 0) (λ v. 0) (λ v. same_if (has set v)) ∙ zeros n

-- asks are put
pub count_asked : (n : ℕ) (t : Parcel → Bool) (b : Bool) (f : SeenLists) (p k : ℕ) (kind : Kind) (asks : List (ℕ × ℕ)) → p < n → ((j : ℕ) → j < length asks → (get_or asks j (0, 0)).0 < n) → ((l : ℕ) → t (Ask k kind l) ≡ b) →
    count_in_lists n t (with_asks f p k kind asks) ≡ count_in_lists n t f + (if b then length asks else 0)
unfolding with_asks
count_asked n t b f p k kind asks l within e =
    grown n p t f (with_asks f p k kind asks) (λ v. count_by t (asks_to k kind v asks)) l (λ u v. at_test (u == p) (f u v) (asks_to k kind v asks)) ∙ ap (λ (y : ℕ). count_in_lists n t f + y) (all asks within)
  where
    at_test : (a : Bool) (xs ys : List Parcel) → count_by t (if a then xs ++ ys else xs) ≡ count_by t xs + (if a then count_by t ys else 0)
    at_test true xs ys = sum_by-append (λ y. cond (t y) 1 0) xs ys
    at_test false xs ys = omega arith

    turned : (u v : ℕ) → (u == v) ≡ (v == u)
    turned u v = grind (arith, nat_tests)

    one : (x : ℕ × ℕ) (ys : List Parcel) (d : Bool) → count_by t (if d then Ask k kind x.1 ∷ ys else ys) ≡ (if d then bit b else 0) + count_by t ys
    one x ys true = sum_by-cons (λ y. cond (t y) 1 0) (Ask k kind x.1) ys ∙ ap (λ (z : Bool). bit z + count_by t ys) (e x.1)
    one x ys false = omega arith

    plus_one : (b : Bool) (m : ℕ) → bit b + (if b then m else 0) ≡ (if b then suc m else 0)
    plus_one true m = omega arith
    plus_one false m = omega arith

    none : (b : Bool) → ◌≡◌ {A = ℕ} 0 (if b then 0 else 0)
    none true = refl
    none false = refl

    all : (xs : List (ℕ × ℕ)) → ((j : ℕ) → j < length xs → (get_or xs j (0, 0)).0 < n) → total_below n (λ v. count_by t (asks_to k kind v xs)) ≡ (if b then length xs else 0)
    all [] h = zeros n ∙ none b
    all (x ∷ xs) h =
        total_same n (λ v. count_by t (asks_to k kind v (x ∷ xs))) (λ v. spike x.0 (bit b) v + count_by t (asks_to k kind v xs))
        (λ v. one x (asks_to k kind v xs) (x.0 == v) ∙ ap (λ (d : Bool). (if d then bit b else 0) + count_by t (asks_to k kind v xs)) (turned x.0 v))
        ∙ (total_add n (spike x.0 (bit b)) (λ v. count_by t (asks_to k kind v xs))
        ∙ (ap (λ (z : ℕ). z + total_below n (λ v. count_by t (asks_to k kind v xs))) (total_spike n x.0 (bit b) (h 0 (omega arith)))
        ∙ (ap (λ (z : ℕ). bit b + z) (all xs (λ j m. h (suc j) (omega (arith, m)))) ∙ plus_one b (length xs))))

-- asks to processes below n that stand by rising process are n at most
pub asks_few : (n low : ℕ) (asks : List (ℕ × ℕ)) → AreRisingAsks asks → ((j : ℕ) → j < length asks → low ≤ (get_or asks j (0, 0)).0) → ((j : ℕ) → j < length asks → (get_or asks j (0, 0)).0 < n) → length asks ≤ n - low
asks_few n low [] rising above below = omega arith
asks_few n low (x ∷ xs) rising above below =
    let r = asks_few n (x.0 + 1) xs (λ i j d a b. rising (suc i) (suc j) d (omega (arith, a)) (omega (arith, b))) (λ j m. let z = rising 0 (suc j) (0, 0) (omega arith) (omega (arith, m)) in omega (arith, z)) (λ j m. below (suc j) (omega (arith, m))) in
    let a = above 0 (omega arith) in
    let b = below 0 (omega arith) in
    omega (arith, r, a, b)
