-- The items of a list by number.
use Rattle.std.proofs.Common.{◌≡◌, ℕ, zero, suc, ◌+◌, ◌<◌, ◌≤◌, Option, Some, None, List, [], ◌∷◌, ◌++◌, length, refl, sym, ap, ◌∙◌, arith, inl, inr}
use Rattle.std.specs.List.{slice_get, filter_map, cons_option, range_with_len}
use Rattle.std.proofs.lemmas.Bool.{cases_eq}
use Rattle.std.proofs.lemmas.List.Elements.{filter_map-append}
use Rattle.std.proofs.lemmas.List.{append-nil}
use Rattle.std.proofs.lemmas.Option.{slice_get_within}
use Rattle.kt_meaning.proofs.Lists.{get_kept, get_last}
use Rattle.kt_meaning.proofs.Items.{get_push}

-- the items that a function gives for the numbers to a bound
abbrev pub by_number : {X : Type 0} → (ℕ → Option X) → ℕ → List X
by_number f n = filter_map f (range_with_len 1 n)

-- one more number
pub numbers_more : (a n j : ℕ) → a + n ≡ j → range_with_len a (suc n) ≡ range_with_len a n ++ j ∷ []
numbers_more a zero j e = let same : a ≡ j = omega (arith, e) in ap (λ (k : ℕ). k ∷ []) same
numbers_more a (suc n) j e = ap (λ (l : List ℕ). a ∷ l) (numbers_more (a + 1) n j (omega (arith, e)))

next : {X : Type 0} (f : ℕ → Option X) (n : ℕ) → by_number f (suc n) ≡ by_number f n ++ cons_option (f (suc n)) []
next f n = ap (filter_map f) (numbers_more 1 n (suc n) (omega arith)) ∙ filter_map-append f (range_with_len 1 n) (suc n ∷ [])

-- where an item comes from: an earlier number, or the last one
pub data Comes {X : Type 0} (f : ℕ → Option X) (n i : ℕ) (x : X) : Type 0 where
  old : slice_get (by_number f n) i ≡ Some x → Comes f n i x
  new : f (suc n) ≡ Some x → i ≡ length (by_number f n) → Comes f n i x

comes : {X : Type 0} (f : ℕ → Option X) (n i : ℕ) (x : X) → slice_get (by_number f (suc n)) i ≡ Some x → Comes f n i x
comes {X} f n i x e = from (f (suc n)) refl (sym (ap (λ (l : List X). slice_get l i) (next f n)) ∙ e)
  where
    from : (o : Option X) → f (suc n) ≡ o → slice_get (by_number f n ++ cons_option o []) i ≡ Some x → Comes f n i x
    from None g e = old (rw append-nil at e)
    from (Some y) g e = elim (get_push (by_number f n) y i x e) [
      | inl h ↦ old h
      | inr h ↦ new (g ∙ ap Some (sym h.1)) h.0
    ]

-- each item is that of a number
pub item_is : {X : Type 0} (f : ℕ → Option X) (n i : ℕ) (x : X) → slice_get (by_number f n) i ≡ Some x → (k : ℕ) × (1 ≤ k) × (k ≤ n) × (f k ≡ Some x)
item_is f zero i x e = absurd (cc)
item_is {X} f (suc n) i x e = from (comes f n i x e) (λ h. item_is f n i x h)
  where
    from : Comes f n i x → (slice_get (by_number f n) i ≡ Some x → (k : ℕ) × (1 ≤ k) × (k ≤ n) × (f k ≡ Some x)) → (k : ℕ) × (1 ≤ k) × (k ≤ suc n) × (f k ≡ Some x)
    from (old h) before =
        let r = before h in
        (r.0, r.1, omega (arith, r.2), r.3)
    from (new h j) before = (suc n, omega arith, omega arith, h)

-- and each number has its item
pub item_of : {X : Type 0} (f : ℕ → Option X) (n k : ℕ) (x : X) → 1 ≤ k → k ≤ n → f k ≡ Some x → (i : ℕ) × (slice_get (by_number f n) i ≡ Some x)
item_of f zero k x low high e = absurd (omega (arith, low, high))
item_of {X} f (suc n) k x low high e = elim (cases_eq k (suc n)) [
  | inl same ↦ (length (by_number f n), ap (λ (l : List X). slice_get l (length (by_number f n))) (next f n ∙ ap (λ (o : Option X). by_number f n ++ cons_option o []) (ap f (sym same) ∙ e)) ∙ get_last (by_number f n) x)
  | inr other ↦ kept (item_of f n k x low (omega (arith, high, other)) e)
]
  where
    more : (i : ℕ) → slice_get (by_number f n) i ≡ Some x → (o : Option X) → slice_get (by_number f n ++ cons_option o []) i ≡ Some x
    more i h None = rw append-nil h
    more i h (Some y) = get_kept (by_number f n) y i x h

    kept : (i : ℕ) × (slice_get (by_number f n) i ≡ Some x) → (i : ℕ) × (slice_get (by_number f (suc n)) i ≡ Some x)
    kept h = (h.0, ap (λ (l : List X). slice_get l h.0) (next f n) ∙ more h.0 h.1 (f (suc n)))

-- the items stand by rising number
pub items_rise : {X : Type 0} (f : ℕ → Option X) (number : X → ℕ) → ((k : ℕ) (x : X) → f k ≡ Some x → number x ≡ k) → (n i j : ℕ) (x y : X) → i < j → slice_get (by_number f n) i ≡ Some x → slice_get (by_number f n) j ≡ Some y → number x < number y
items_rise f number has zero i j x y low e g = absurd (cc)
items_rise {X} f number has (suc n) i j x y low e g = from (comes f n i x e) (comes f n j y g) (λ h l. items_rise f number has n i j x y low h l)
  where
    from : Comes f n i x → Comes f n j y → (slice_get (by_number f n) i ≡ Some x → slice_get (by_number f n) j ≡ Some y → number x < number y) → number x < number y
    from (old h) (old l) before = before h l
    from (old h) (new l at) before =
        let r = item_is f n i x h in
        omega (arith, has r.0 x r.3, has (suc n) y l, r.2)
    from (new h at) (old l) before = absurd (omega (arith, low, at, slice_get_within (by_number f n) j y l))
    from (new h at) (new l to) before = absurd (omega (arith, low, at, to))
