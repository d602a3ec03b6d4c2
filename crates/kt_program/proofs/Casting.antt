-- The rows of a cast, one after the other, and what is so of all that is in them.
use Rattle.std.proofs.Common.{◌≡◌, ◌<◌, ◌+◌, ◌∙◌, ◌⊎◌, ℕ, ℤ, zero, suc, List, [], ◌∷◌, ◌++◌, length, map, All, refl, sym, ap, subst, arith, inl, inr, slice_index_or, length-append}
use Rattle.std.specs.Prelude.{slice_index}
use Rattle.std.proofs.lemmas.List.{length-map, map-append, get_or-map, get_or_append_left, get_or_push}
use Rattle.std.proofs.lemmas.List.Elements.{All-cons, All-head, All-tail, All-nil, All-push}
use Rattle.kt_plan.specs.declared.commands.Command.{Command}
use Rattle.kt_plan.specs.Limits.{IsKindOfObject, Planned}
use Rattle.kt_object.specs.Value.{opening_value}
use Rattle.kt_object.specs.Holdings.{content}
use Rattle.kt_plan.specs.Failures.{failures_of}
use Rattle.kt_object.specs.Casts.{HasSizes, HasKind}
use Rattle.kt_run.specs.Objects.{first_of}
use Rattle.kt_program.specs.CastRows.{IsMadeCast}
use Rattle.kt_program.specs.Played.{AreNew}

-- the rows of the first so many processes
pub record IsBegun {O : Type 0} (Made : ℕ → O → Type 0) (kinds : List ℕ) (commands : List Command) (count : ℕ) (cast : List (List O)) : Type 0 where
  pub processes : length cast ≡ count
  pub objects : (p : ℕ) → p < count → length (slice_index_or cast p []) ≡ failures_of commands p + 1
  pub made : (p : ℕ) → p < count → All (Made (slice_index kinds p)) (slice_index_or cast p [])

next_or_same : (p n : ℕ) → (p < n) ⊎ (p ≡ n) → (suc p < suc n) ⊎ (suc p ≡ suc n)
next_or_same p n (inl l) = inl (omega (arith, l))
next_or_same p n (inr e) = inr (ap suc e)

at_or_before : (p n : ℕ) → p < n + 1 → (p < n) ⊎ (p ≡ n)
at_or_before zero zero l = inr refl
at_or_before zero (suc n) l = inl (omega arith)
at_or_before (suc p) zero l = absurd (omega (arith, l))
at_or_before (suc p) (suc n) l = next_or_same p n (at_or_before p n (omega (arith, l)))

module _ {O : Type 0} (Made : ℕ → O → Type 0) (kinds : List ℕ) (commands : List Command) where
  -- what is so of the rows before and of the next one is so of all
  one_more : (P : ℕ → List O → Type 0) (count : ℕ) (cast : List (List O)) (row : List O) → length cast ≡ count → ((p : ℕ) → p < count → P p (slice_index_or cast p []))
      → P count row → (p : ℕ) → p < count + 1 → P p (slice_index_or (cast ++ row ∷ []) p [])
  one_more P count cast row e before here p l = by_place (at_or_before p count l)
    where
      by_place : (p < count) ⊎ (p ≡ count) → P p (slice_index_or (cast ++ row ∷ []) p [])
      by_place (inl m) = subst (P p) (sym (get_or_append_left cast (row ∷ []) [] p (omega (arith, m, e)))) (before p m)
      by_place (inr same) = subst (λ (q : ℕ). P q (slice_index_or (cast ++ row ∷ []) q [])) (sym same) (subst (P count) (sym (get_or_push cast row [] count e)) here)

  pub begun_more : (count : ℕ) (cast : List (List O)) (row : List O) → IsBegun Made kinds commands count cast → length row ≡ failures_of commands count + 1
      → All (Made (slice_index kinds count)) row → IsBegun Made kinds commands (count + 1) (cast ++ row ∷ [])
  begun_more count cast row begun long made = record {
    processes = (let h = length-append cast (row ∷ []) in let e = begun.processes in omega (arith, h, e));
    objects = one_more (λ p row. length row ≡ failures_of commands p + 1) count cast row begun.processes begun.objects long;
    made = one_more (λ p row. All (Made (slice_index kinds p)) row) count cast row begun.processes begun.made made;
  }

  -- one more row at the end of what is made of rows
  pub begun_pushed : {R : Type 0} (cast new : List R) (row : R) (items : R → List O) (count : ℕ) → new ≡ cast ++ row ∷ [] → IsBegun Made kinds commands count (map items cast)
      → length (items row) ≡ failures_of commands count + 1 → All (Made (slice_index kinds count)) (items row) → IsBegun Made kinds commands (count + 1) (map items new)
  begun_pushed cast new row items count e begun long made =
      subst (λ rows. IsBegun Made kinds commands (count + 1) rows) (sym (ap (map items) e ∙ map-append items cast (row ∷ []))) (begun_more count (map items cast) (items row) begun long made)

  pub begun_all : (count : ℕ) (cast : List (List O)) → count ≡ length kinds → IsBegun Made kinds commands count cast → IsMadeCast Made kinds commands cast
  begun_all count cast e begun = record {
    processes = begun.processes ∙ e;
    objects = λ p l. begun.objects p (omega (arith, l, e));
    made = λ p l. begun.made p (omega (arith, l, e));
  }

module _ {R O : Type 0} (cast : List R) (items : R → List O) (kind : O → ℕ) (Made : ℕ → O → Type 0) (kinds : List ℕ) (commands : List Command) where
  -- a place among the images of rows
  at_image : {X : Type 0} (g : List O → List X) (P : List X → Type 0) (rows : List R) (p : ℕ) → p < length rows → P (g (slice_index_or (map items rows) p []))
      → P (slice_index_or (map (λ row. g (items row)) rows) p [])
  at_image g P [] p l h = absurd (omega (arith, l))
  at_image g P (row ∷ rows) p l h =
      subst P (sym (get_or-map (λ row. g (items row)) (row ∷ rows) p row [] l)) (subst (λ x. P (g x)) (get_or-map items (row ∷ rows) p row [] l) h)

  rows_are : IsMadeCast Made kinds commands (map items cast) → length cast ≡ length kinds
  rows_are is = sym (length-map cast items) ∙ is.processes

  pub sizes_of_cast : IsMadeCast Made kinds commands (map items cast) → HasSizes kinds commands (map (λ row. map kind (items row)) cast)
  sizes_of_cast is = record {
    processes = length-map cast (λ row. map kind (items row)) ∙ rows_are is;
    objects = λ p l. (let e = rows_are is in
        at_image (map kind) (λ xs. length xs ≡ failures_of commands p + 1) cast p (omega (arith, l, e)) (length-map (slice_index_or (map items cast) p []) kind ∙ is.objects p l));
  }

  all_kinds : (k : ℕ) (objects : List O) → ((o : O) → Made k o → kind o ≡ k) → All (Made k) objects → All (λ n. n ≡ k) (map kind objects)
  all_kinds k [] f made = λ n d l. absurd (omega arith)
  all_kinds k (o ∷ objects) f made =
      All-cons (λ n. n ≡ k) (kind o) (map kind objects) (f o (All-head (Made k) o objects made)) (all_kinds k objects f (All-tail (Made k) o objects made))

  pub kinds_of_cast : ((k : ℕ) (o : O) → IsKindOfObject k → Made k o → kind o ≡ k) → All IsKindOfObject kinds → IsMadeCast Made kinds commands (map items cast) → (p : ℕ) → p < length kinds
      → HasKind kinds (map (λ row. map kind (items row)) cast) p
  kinds_of_cast f proper is p l =
      let e = rows_are is in
      let k = slice_index kinds p in
      at_image (map kind) (λ xs. All (λ n. n ≡ k) xs) cast p (omega (arith, l, e)) (all_kinds k (slice_index_or (map items cast) p []) (λ o. f k o (proper p 0 l)) (is.made p l))

-- something is made for a kind
pub record IsMade {O : Type 0} (Made : ℕ → O → Type 0) (object : O) : Type 0 where
  pub kind : ℕ
  pub proper : IsKindOfObject kind
  pub made : Made kind object

-- all that is in the rows is made for a kind
pub made_of_cast : {R O : Type 0} (cast : List R) (items : R → List O) (Made : ℕ → O → Type 0) (kinds : List ℕ) (commands : List Command) → All IsKindOfObject kinds
    → IsMadeCast Made kinds commands (map items cast) → (p : ℕ) (d : R) → p < length cast → (i : ℕ) (other : O) → i < length (items (slice_index_or cast p d))
    → IsMade Made (slice_index_or (items (slice_index_or cast p d)) i other)
made_of_cast cast items Made kinds commands proper is p d l i other m =
    let e = sym (length-map cast items) ∙ is.processes in
    let within : p < length kinds = omega (arith, l, e) in
    let made = subst (All (Made (slice_index kinds p))) (get_or-map items cast p d [] l) (is.made p within) in
    record { kind = slice_index kinds p; proper = proper p 0 within; made = made i other m }

-- all of a list with one more at its end
pub all_more : {O : Type 0} (old new : List O) (object : O) (P : O → Type 0) → new ≡ old ++ object ∷ [] → All P old → P object → All P new
all_more old new object P e all here = subst (All P) (sym e) (All-push P old object all here)

-- all of a list of one
pub all_one : {O : Type 0} (old new : List O) (object : O) (P : O → Type 0) → old ≡ [] → new ≡ old ++ object ∷ [] → P object → All P new
all_one old new object P none e here = all_more old new object P e (subst (All P) (sym none) (All-nil P)) here

-- what is so of the image of a row
at_row : {R X : Type 0} (g : R → List X) (P : List X → Type 0) (rows : List R) (p : ℕ) → p < length rows → ((row : R) → P (g (slice_index_or rows p row))) → P (slice_index_or (map g rows) p [])
at_row g P [] p l f = absurd (omega (arith, l))
at_row g P (row ∷ rows) p l f = subst P (sym (get_or-map g (row ∷ rows) p row [] l)) (f row)

-- the object that each process has first is new
pub are_new : {R O : Type 0} (cast : List R) (items : R → List O) (kind : O → ℕ) (value : O → List ℤ) (plan : Planned)
    → HasSizes plan.kinds plan.commands (map (λ row. map kind (items row)) cast)
    → ((p : ℕ) → p < length plan.kinds → HasKind plan.kinds (map (λ row. map kind (items row)) cast) p)
    → All (λ row. All (λ b. value b ≡ opening_value (kind b)) (items row)) cast
    → AreNew plan (map (λ row. map (λ b. content (kind b) (value b)) (items row)) cast)
are_new {R} {O} cast items kind value plan sizes kinds values p l = at_row (λ row. map (λ b. content (kind b) (value b)) (items row)) (λ objects. first_of objects ≡ content k (opening_value k)) cast p within
    (λ row. first_is (items (slice_index_or cast p row))
    (subst (λ ns. length ns ≡ failures_of plan.commands p + 1) (kinds_at row) (sizes.objects p l))
    (subst (λ ns. All (λ n. n ≡ k) ns) (kinds_at row) (kinds p l)) (values p row within))
  where
    k : ℕ
    k = slice_index plan.kinds p

    within : p < length cast
    within = let e = sym (length-map cast (λ row. map kind (items row))) ∙ sizes.processes in omega (arith, l, e)

    kinds_at : (row : R) → slice_index_or (map (λ r. map kind (items r)) cast) p [] ≡ map kind (items (slice_index_or cast p row))
    kinds_at row = get_or-map (λ r. map kind (items r)) cast p row [] within

    first_is : (objects : List O) → length (map kind objects) ≡ failures_of plan.commands p + 1 → All (λ n. n ≡ k) (map kind objects) → All (λ b. value b ≡ opening_value (kind b)) objects
        → first_of (map (λ b. content (kind b) (value b)) objects) ≡ content k (opening_value k)
    first_is [] long same opens = absurd (omega (arith, long))
    first_is (b ∷ objects) long same opens =
        let e = All-head (λ n. n ≡ k) (kind b) (map kind objects) same in
        ap (content (kind b)) (All-head (λ x. value x ≡ opening_value (kind x)) b objects opens) ∙ ap (λ (n : ℕ). content n (opening_value n)) e
