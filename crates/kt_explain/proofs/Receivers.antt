-- The receivers of the messages in transit, row by row.
use Rattle.std.proofs.Common.{◌≡◌, ◌≢◌, ◌∙◌, ◌+◌, ◌≤◌, ℕ, zero, suc, true, false, Option, Some, None, List, [], ◌∷◌, ◌++◌, length, refl, sym, ap, arith, inl, inr}
use Rattle.std.specs.Prelude.{◌↔◌, Contains}
use Rattle.std.specs.List.{slice_get, filter_map, range_with_len}
use Rattle.std.specs.Option.{option_to_list}
use Rattle.std.proofs.lemmas.Bool.{cases_eq}
use Rattle.std.proofs.lemmas.List.Elements.{filter_map-append, Contains-append_left, Contains-append_right, Contains-append_cases}
use Rattle.kt_base.specs.Sets.{has}
use Rattle.kt_spacetime.specs.declared.event.Event.{Event}
use Rattle.kt_meaning.specs.Past.{past}
use Rattle.kt_meaning.specs.Messages.{row_at}
use Rattle.kt_explain.specs.Judged.{receiver_in_transit}
use Rattle.kt_histories.proofs.FoundRows.{range_more}

-- those of the messages of the first so many rows
abbrev pub receivers_to : List Event → ℕ → List ℕ
receivers_to rows n = filter_map (λ msg. receiver_in_transit (past rows) msg (row_at rows msg)) (range_with_len 1 n)

row_there : (rows : List Event) (i n : ℕ) → i + 1 ≡ n → row_at rows n ≡ slice_get rows i
row_there rows i zero e = absurd (omega (arith, e))
row_there rows i (suc n) e = let same : n ≡ i = omega (arith, e) in ap (slice_get rows) same

one_mapped : (h : ℕ → Option ℕ) (x : ℕ) (o : Option ℕ) → h x ≡ o → filter_map h (x ∷ []) ≡ option_to_list o
one_mapped h x o e = at (h x) e
  where
    at : (r : Option ℕ) → r ≡ o → filter_map (λ (y : ℕ). r) (x ∷ []) ≡ option_to_list o
    at None e = ap option_to_list e
    at (Some y) e = ap option_to_list e

pub receivers_more : (rows : List Event) (i : ℕ) (row : Event) (to : Option ℕ) → slice_get rows i ≡ Some row → to ≡ receiver_in_transit (past rows) (i + 1) (Some row)
    → receivers_to rows (i + 1) ≡ receivers_to rows i ++ option_to_list to
receivers_more rows i row to there is =
    let h : ℕ → Option ℕ = λ msg. receiver_in_transit (past rows) msg (row_at rows msg) in
    let on : i + 1 ≡ suc i = omega arith in
    let last : h (i + 1) ≡ to = ap (receiver_in_transit (past rows) (i + 1)) (row_there rows i (i + 1) refl ∙ there) ∙ sym is in
    ap (λ (n : ℕ). filter_map h (range_with_len 1 n)) on
    ∙ (ap (filter_map h) (range_more 1 i (i + 1) (omega arith))
    ∙ (filter_map-append h (range_with_len 1 i) ((i + 1) ∷ [])
    ∙ ap (λ (l : List ℕ). filter_map h (range_with_len 1 i) ++ l) (one_mapped h (i + 1) to last)))

one_same : (to q : ℕ) → Contains (to ∷ []) q → q ≡ to
one_same to q (zero, low, is) = sym is
one_same to q (suc k, low, is) = absurd (omega (arith, low))

-- a set with one more process has a list with that
pub with_one : (set after to : ℕ) (list : List ℕ) → has after to ≡ true → ((q : ℕ) → q ≢ to → has after q ≡ has set q)
    → ((q : ℕ) → has set q ≡ true ↔ Contains list q) → (q : ℕ) → has after q ≡ true ↔ Contains (list ++ to ∷ []) q
with_one set after to list added others same q = (
  λ e. elim (cases_eq q to) [
    | inl is ↦ Contains-append_right list (to ∷ []) q (0, omega arith, sym is)
    | inr other ↦ Contains-append_left list (to ∷ []) q ((same q).0 (sym (others q other) ∙ e))
  ],
  λ there. elim (cases_eq q to) [
    | inl is ↦ ap (has after) is ∙ added
    | inr other ↦ others q other ∙ elim (Contains-append_cases list (to ∷ []) q there) [
      | inl left ↦ (same q).1 left
      | inr right ↦ absurd (other (one_same to q right))
    ]
  ],
)

-- the empty set has the empty list
pub none_yet : (set : ℕ) → ((q : ℕ) → has set q ≡ false) → (q : ℕ) → has set q ≡ true ↔ Contains (let l : List ℕ = [] in l) q
none_yet set none q = (
  λ e. let never : false ≡ true = sym (none q) ∙ e in absurd (cc),
  λ there. absurd (omega (arith, there.1)),
)

pub at_most_one : (o : Option ℕ) → length (option_to_list o) ≤ 1
at_most_one None = omega arith
at_most_one (Some x) = omega arith
