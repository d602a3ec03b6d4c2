-- The kinds of the objects that are given, seen as lists of numbers.
use Rattle.std.proofs.Common.{◌≡◌, ◌≢◌, ◌⊎◌, ◌<◌, ◌+◌, ℕ, Bool, true, false, List, [], ◌∷◌, length, map, All, refl, sym, ap, subst, ◌∙◌, arith, inl, inr, slice_index_or}
use Rattle.std.specs.Prelude.{◌==◌, ◌&&◌, slice_index}
use Rattle.std.specs.List.{list_all}
use Rattle.std.proofs.lemmas.List.{get_or-map, length-map}
use Rattle.std.proofs.lemmas.List.Elements.{All-cons, All-head, All-tail}
use Rattle.std.proofs.lemmas.Bool.{eqb-true, true≢false}
use Rattle.kt_plan.specs.declared.commands.Command.{Command}
use Rattle.kt_plan.specs.Failures.{failures_of}
use Rattle.kt_object.specs.Casts.{HasSizes, HasKind}

-- what is so of the image of an item
pub at_image : {R : Type 0} (g : R → List ℕ) (P : List ℕ → Type 0) (xs : List R) (p : ℕ) → p < length xs
    → ((x : R) → P (g (slice_index_or xs p x))) → P (slice_index_or (map g xs) p [])
at_image g P [] p l f = absurd (omega arith)
at_image g P (x ∷ xs) p l f = subst P (sym (get_or-map g (x ∷ xs) p x [] l)) (f x)

pub from_image : {R : Type 0} (g : R → List ℕ) (P : List ℕ → Type 0) (xs : List R) (p : ℕ) (x : R) → p < length xs
    → P (slice_index_or (map g xs) p []) → P (g (slice_index_or xs p x))
from_image g P xs p x l f = subst P (get_or-map g xs p x [] l) f

both_left : (a b : Bool) → (a && b) ≡ true → a ≡ true
both_left true b e = refl
both_left false b e = e

both_right : (a b : Bool) → (a && b) ≡ true → b ≡ true
both_right true b e = e
both_right false b e = absurd (cc e)

both : (a b : Bool) → a ≡ true → b ≡ true → (a && b) ≡ true
both true b e f = f
both false b e f = absurd (cc e)

-- all have a number where all are found to have it
pub all_have : {B : Type 0} (f : B → ℕ) (k : ℕ) (xs : List B) → list_all (λ x. f x == k) xs ≡ true → All (λ n. n ≡ k) (map f xs)
all_have f k [] e = λ n d l. absurd (omega arith)
all_have f k (x ∷ xs) e =
    All-cons (λ n. n ≡ k) (f x) (map f xs) (eqb-true (f x) k (both_left (f x == k) _ e)) (all_have f k xs (both_right (f x == k) _ e))

same_is : (n k : ℕ) → n ≡ k → (n == k) ≡ true
same_is n k e = grind arith

pub are_found : {B : Type 0} (f : B → ℕ) (k : ℕ) (xs : List B) → All (λ n. n ≡ k) (map f xs) → list_all (λ x. f x == k) xs ≡ true
are_found f k [] all = refl
are_found f k (x ∷ xs) all =
    both (f x == k) _ (same_is (f x) k (All-head (λ n. n ≡ k) (f x) (map f xs) all))
    (are_found f k xs (All-tail (λ n. n ≡ k) (f x) (map f xs) all))

module _ {R B : Type 0} (items : R → List B) (f : B → ℕ) (cast : List R) (kinds : List ℕ) where
  -- each process has the objects that are asked for
  pub sizes_are : (commands : List Command) (counts : List ℕ) → length counts ≡ length kinds
      → ((q : ℕ) → q < length kinds → slice_index counts q ≡ failures_of commands q)
      → (length cast ≡ length counts) × ((q : ℕ) (row : R) → q < length counts → length (items (slice_index_or cast q row)) ≡ slice_index counts q + 1)
      → HasSizes kinds commands (map (λ row. map f (items row)) cast)
  sizes_are commands counts long counted sized = record {
    processes = length-map cast (λ row. map f (items row)) ∙ (sized.0 ∙ long);
    objects = λ p l.
        at_image (λ row. map f (items row)) (λ (xs : List ℕ). length xs ≡ failures_of commands p + 1) cast p (omega (arith, sized.0, long, l))
        (λ x. length-map (items (slice_index_or cast p x)) f ∙ (sized.1 p x (omega (arith, long, l)) ∙ ap (λ (n : ℕ). n + 1) (counted p l)));
  }

  -- and where some has others
  pub sizes_are_not : (commands : List Command) (counts : List ℕ) → length counts ≡ length kinds
      → ((q : ℕ) → q < length kinds → slice_index counts q ≡ failures_of commands q)
      → (length cast ≢ length counts) ⊎ ((q : ℕ) × (q < length counts) × ((row : R) → length (items (slice_index_or cast q row)) ≢ slice_index counts q + 1))
      → HasSizes kinds commands (map (λ row. map f (items row)) cast) → ⊥
  sizes_are_not commands counts long counted (inl other) sized =
      other (sym (length-map cast (λ row. map f (items row))) ∙ (sized.processes ∙ sym long))
  sizes_are_not commands counts long counted (inr (q, l, other)) sized = with_item cast
      (sym (length-map cast (λ row. map f (items row))) ∙ sized.processes) other
    where
      within : q < length kinds
      within = omega (arith, l, long)

      with_item : (xs : List R) → length xs ≡ length kinds → ((row : R) → length (items (slice_index_or cast q row)) ≢ slice_index counts q + 1) → ⊥
      with_item [] e differs = absurd (omega (arith, e, within))
      with_item (x ∷ xs) e differs =
          let m : q < length cast = (let h = sym (length-map cast (λ row. map f (items row))) ∙ sized.processes in omega (arith, h, within)) in
          differs x (sym (length-map (items (slice_index_or cast q x)) f)
          ∙ (from_image (λ row. map f (items row)) (λ (xs : List ℕ). length xs ≡ failures_of commands q + 1) cast q x m (sized.objects q within)
          ∙ ap (λ (n : ℕ). n + 1) (sym (counted q within))))

  -- a process has objects of its kind
  pub kind_is : (p : ℕ) → p < length cast → ((row : R) → list_all (λ b. f b == slice_index kinds p) (items (slice_index_or cast p row)) ≡ true)
      → HasKind kinds (map (λ row. map f (items row)) cast) p
  kind_is p l found =
      at_image (λ row. map f (items row)) (λ (xs : List ℕ). All (λ n. n ≡ slice_index kinds p) xs) cast p l
      (λ x. all_have f (slice_index kinds p) (items (slice_index_or cast p x)) (found x))

  pub kind_is_not : (p : ℕ) → p < length cast → ((row : R) → list_all (λ b. f b == slice_index kinds p) (items (slice_index_or cast p row)) ≡ false)
      → HasKind kinds (map (λ row. map f (items row)) cast) p → ⊥
  kind_is_not p l found has = with_item cast l
    where
      with_item : (xs : List R) → p < length xs → ⊥
      with_item [] m = absurd (omega (arith, m))
      with_item (x ∷ xs) m =
          true≢false (sym (are_found f (slice_index kinds p) (items (slice_index_or cast p x))
          (from_image (λ row. map f (items row)) (λ (xs : List ℕ). All (λ n. n ≡ slice_index kinds p) xs) cast p x l has)) ∙ found x)
