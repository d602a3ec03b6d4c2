-- Rows with their numbers: those of a process, and those that its steps tell.
use Rattle.std.proofs.Common.{◌≡◌, ◌∙◌, ◌==◌, ◌<◌, ◌+◌, arith, ℕ, suc, Bool, true, false, List, [], ◌∷◌, ◌++◌, append_assoc, append-nil, length, filter, refl, sym, ap}
use Rattle.std.specs.Prelude.{All, slice_index_or, if◌then◌else◌}
use Rattle.std.proofs.lemmas.Bool.Decides.{nat_tests}
use Rattle.std.proofs.lemmas.List.Elements.{filter-append}
use Rattle.kt_promises.specs.Steps.{process_of_step}
use Rattle.kt_plan.specs.declared.steps.Told.{Told}
use Rattle.kt_spacetime.specs.Events.{process_of}
use Rattle.kt_spacetime.specs.declared.event.Event.{Event}
use Rattle.kt_run.specs.Telling.{numbered, rows_of, numbered_rows_told, numbered_rows_by, AreToldTheirRows, TellsItsRows, AreEmpty, told_here, IsNoted}

abbrev pub Row : Type 0
Row = ℕ × Event

abbrev is_by : ℕ → Row → Bool
is_by p row = process_of row.1 == p

numbered_along : (n m : ℕ) (xs ys : List Event) → m ≡ n + length xs → numbered n (xs ++ ys) ≡ numbered n xs ++ numbered m ys
numbered_along n m [] ys e = let f : n ≡ m = omega (arith, e) in ap (λ (k : ℕ). numbered k ys) f
numbered_along n m (x ∷ xs) ys e =
    let f : m ≡ (n + 1) + length xs = omega (arith, e) in
    ap (λ (l : List Row). (n + 1, x) ∷ l) (numbered_along (n + 1) m xs ys f)

same_of : (a b c : ℕ) → a ≡ b → (c == b) ≡ true → (a == c) ≡ true
same_of a b c e f = grind (arith, nat_tests, e, f)

other_of : (a b c : ℕ) → a ≡ b → (c == b) ≡ false → (a == c) ≡ false
other_of a b c e f = grind (arith, nat_tests, e, f)

pub kept : {X : Type 0} (test : X → Bool) (x : X) (xs : List X) → test x ≡ true → filter test (x ∷ xs) ≡ x ∷ filter test xs
kept test x xs e = rw e refl

pub left : {X : Type 0} (test : X → Bool) (x : X) (xs : List X) → test x ≡ false → filter test (x ∷ xs) ≡ filter test xs
left test x xs e = rw e refl

-- of rows of one process all are its own, and none are another's

all_by : (p u n : ℕ) (l : List Event) → (p == u) ≡ true → All (λ row. process_of row ≡ u) l → filter (is_by p) (numbered n l) ≡ numbered n l
all_by p u n [] e own = refl
all_by p u n (x ∷ l) e own =
    kept (is_by p) (n + 1, x) (numbered (n + 1) l) (same_of (process_of x) u p (own 0 x (omega arith)) e)
    ∙ ap (λ (k : List Row). (n + 1, x) ∷ k) (all_by p u (n + 1) l e (λ i row h. own (suc i) row (omega (arith, h))))

none_by : (p u n : ℕ) (l : List Event) → (p == u) ≡ false → All (λ row. process_of row ≡ u) l → filter (is_by p) (numbered n l) ≡ []
none_by p u n [] e own = refl
none_by p u n (x ∷ l) e own =
    left (is_by p) (n + 1, x) (numbered (n + 1) l) (other_of (process_of x) u p (own 0 x (omega arith)) e)
    ∙ none_by p u (n + 1) l e (λ i row h. own (suc i) row (omega (arith, h)))

pub rows_told_append : (xs ys : List Told) → numbered_rows_told (xs ++ ys) ≡ numbered_rows_told xs ++ numbered_rows_told ys
rows_told_append [] ys = refl
rows_told_append (x ∷ xs) ys = ap (λ (l : List Row). rows_of x ++ l) (rows_told_append xs ys) ∙ sym (append_assoc (rows_of x) (numbered_rows_told xs) (numbered_rows_told ys))

-- the rows that a step adds are told to its process, and none to others
module _ (told : Told) (before after : List Event) (t : TellsItsRows told before after) where
  rows_here : (p : ℕ) (b : Bool) → (p == process_of_step told.step) ≡ b → filter (is_by p) (numbered (length before) t.added) ≡ numbered_rows_told (if b then told ∷ [] else [])
  rows_here p true e = all_by p (process_of_step told.step) (length before) t.added e t.own ∙ (sym t.rows ∙ sym (append-nil (rows_of told)))
  rows_here p false e = none_by p (process_of_step told.step) (length before) t.added e t.own

  pub rows_by_more : (p : ℕ) → numbered_rows_by p after ≡ numbered_rows_by p before ++ numbered_rows_told (told_here p told)
  rows_by_more p =
      ap (numbered_rows_by p) t.log
      ∙ (ap (λ (l : List Row). filter (is_by p) l) (numbered_along 0 (length before) before t.added (omega arith))
      ∙ (filter-append (is_by p) (numbered 0 before) (numbered (length before) t.added)
      ∙ ap (λ (l : List Row). numbered_rows_by p before ++ l) (rows_here p (p == process_of_step told.step) refl)))

  -- so each process is told its own after the step, if it was before
  pub told_their_more : (lists more : List (List Told)) → IsNoted told lists more → AreToldTheirRows before lists → AreToldTheirRows after more
  told_their_more lists more noted h p l =
      let count = noted.count in
      let there : p < length lists = omega (arith, l, count) in
      ap numbered_rows_told (noted.each p there)
      ∙ (rows_told_append (slice_index_or lists p []) (told_here p told)
      ∙ (ap (λ (rows : List Row). rows ++ numbered_rows_told (told_here p told)) (h p there)
      ∙ sym (rows_by_more p)))

-- where nothing is done, nothing is told
pub told_their_none : (lists : List (List Told)) → AreEmpty lists → AreToldTheirRows [] lists
told_their_none lists n p l = ap numbered_rows_told (n p)
