-- What a step tells is what its move adds to the log, and asks of its process.
use Rattle.std.proofs.Common.{◌≡◌, ◌∙◌, ◌==◌, ◌<◌, ◌≤◌, ◌+◌, arith, ℕ, zero, suc, Bool, true, false, List, [], ◌∷◌, ◌++◌, length, drop, map, refl, sym, ap, subst, Option, Some}
use Rattle.std.specs.List.{AllZip, filter_map}
use Rattle.std.specs.Prelude.{slice_get, slice_index_or, if◌then◌else◌}
use Rattle.std.specs.Option.{option_map}
use Rattle.std.proofs.lemmas.Option.{slice_get-get_or}
use Rattle.std.proofs.Math.Seq.{drop-append_seam}
use Rattle.kt_core.specs.Shown.{Mirrors}
use Rattle.kt_core.specs.Worlds.{World, numbered_row}
use Rattle.kt_promises.specs.Steps.{process_of_step, enabled, progress_after}
use Rattle.kt_plan.specs.Limits.{Planned, IsPlan}
use Rattle.kt_plan.specs.declared.steps.Give.{Give}
use Rattle.kt_plan.specs.declared.steps.Told.{Told}
use Rattle.kt_promises.specs.Runs.{Move, RunReaches, after_moves}
use Rattle.kt_promises.specs.StepActs.{rows_added, acts_of_step}
use Rattle.kt_promises.specs.Told.{StepTold, told_at, told_by, told_by_move}
use Rattle.kt_promises.specs.Progress.{Progress, progress_at_start}
use Rattle.kt_spacetime.specs.Events.{process_of}
use Rattle.kt_spacetime.specs.declared.event.Event.{Event}
use Rattle.kt_manager.specs.ShownActs.{acts_shown}
use Rattle.kt_system.specs.Systems.{LogGrows}
use Rattle.kt_run.proofs.Numbering.{Row}
use Rattle.kt_run.specs.RunLaws.{RunLaws}
use Rattle.kt_run.specs.Telling.{numbered, rows_of, IsToldAs, AreToldInRun, AreEmpty, TellsItsRows, told_here, IsNoted}

without_numbers : (n : ℕ) (l : List Event) → map (λ (row : Row). row.1) (numbered n l) ≡ l
without_numbers n [] = refl
without_numbers n (x ∷ l) = ap (λ (k : List Event). x ∷ k) (without_numbers (n + 1) l)

-- four places of rows

abbrev at : ℕ → List Event → ℕ → Option Row
at m l i = option_map (λ row. (m, row)) (slice_get l i)

abbrev those : List (Option Row) → List Row
those rows = filter_map (λ (row : Option Row). row) rows

list_of_four : {X : Type 0} (l : List X) (a b c d : X) → length l ≡ 4 → slice_get l 0 ≡ Some a → slice_get l 1 ≡ Some b → slice_get l 2 ≡ Some c → slice_get l 3 ≡ Some d
    → l ≡ a ∷ b ∷ c ∷ d ∷ []
list_of_four [] a b c d n e f g h = absurd (omega (arith, n))
list_of_four (w ∷ []) a b c d n e f g h = absurd (omega (arith, n))
list_of_four (w ∷ x ∷ []) a b c d n e f g h = absurd (omega (arith, n))
list_of_four (w ∷ x ∷ y ∷ []) a b c d n e f g h = absurd (omega (arith, n))
list_of_four (w ∷ x ∷ y ∷ z ∷ []) a b c d n e f g h = cc
list_of_four (w ∷ x ∷ y ∷ z ∷ u ∷ l) a b c d n e f g h = absurd (omega (arith, n))

those_four : (n a b c d : ℕ) (l : List Event) → a ≡ n + 1 → b ≡ n + 1 + 1 → c ≡ n + 1 + 1 + 1 → d ≡ n + 1 + 1 + 1 + 1 → length l ≤ 4
    → those (at a l 0 ∷ at b l 1 ∷ at c l 2 ∷ at d l 3 ∷ []) ≡ numbered n l
those_four n a b c d [] e f g h few = refl
those_four n a b c d (w ∷ []) e f g h few = rw e refl
those_four n a b c d (w ∷ x ∷ []) e f g h few = rw (e, f) refl
those_four n a b c d (w ∷ x ∷ y ∷ []) e f g h few = rw (e, f, g) refl
those_four n a b c d (w ∷ x ∷ y ∷ z ∷ []) e f g h few = rw (e, f, g, h) refl
those_four n a b c d (w ∷ x ∷ y ∷ z ∷ u ∷ l) e f g h few = absurd (omega (arith, few))

pub get_dropped : {X : Type 0} (n k i : ℕ) (l : List X) → k ≡ n + i → slice_get l k ≡ slice_get (drop n l) i
get_dropped zero k i l e = let f : k ≡ i = omega (arith, e) in ap (slice_get l) f
get_dropped (suc n) k i [] e = refl
get_dropped (suc n) zero i (x ∷ l) e = absurd (omega (arith, e))
get_dropped (suc n) (suc k) i (x ∷ l) e = get_dropped n k i l (omega (arith, e))

-- the rows after the first so many, of which there are four at most
tells_rows : (told : Told) (n : ℕ) (rows : List Event) → length told.rows ≡ 4
    → ((i : ℕ) → i < 4 → slice_get told.rows i ≡ Some (numbered_row rows (n + i))) → length (drop n rows) ≤ 4 → rows_of told ≡ numbered n (drop n rows)
tells_rows told n rows four read few =
    ap those (list_of_four told.rows _ _ _ _ four (reads 0 (omega arith)) (reads 1 (omega arith)) (reads 2 (omega arith)) (reads 3 (omega arith)))
    ∙ those_four n (n + 0 + 1) (n + 1 + 1) (n + 2 + 1) (n + 3 + 1) (drop n rows) (omega arith) (omega arith) (omega arith) (omega arith) few
  where
    reads : (i : ℕ) → i < 4 → slice_get told.rows i ≡ Some (at (n + i + 1) (drop n rows) i)
    reads i l = read i l ∙ ap (λ (o : Option Event). Some (option_map (λ (row : Event). (n + i + 1, row)) o)) (get_dropped n (n + i) i rows refl)

-- one step, from a world that a run led to
module _ (laws : RunLaws) (plan : Planned) (told : Told) (give : Give) (old new : World) (first : ℕ) (v : Progress) (plans : old.agenda.plan ≡ plan) (r : Mirrors old.agenda old.system first v)
    (next : Mirrors new.agenda new.system first (progress_after plan v told.step give))
    (on : enabled plan v told.step ≡ true) (grew : LogGrows 4 old.system new.system) (four : length told.rows ≡ 4)
    (read : (i : ℕ) → i < 4 → slice_get told.rows i ≡ Some (numbered_row new.system.rows.rows (length old.system.rows.rows + i)))
    (did : acts_shown told.acts ≡ acts_of_step old.agenda.plan v told.step give (process_of_step told.step)) where
  abbrev w : Progress
  w = progress_after plan v told.step give

  abbrev added : List Event
  added = rows_added plan v told.step give

  abbrev n : ℕ
  n = length v.now.log

  limits : IsPlan plan
  limits = subst (λ (p : Planned). IsPlan p) plans r.limits

  reached : RunReaches plan first v
  reached = subst (λ (p : Planned). RunReaches p first v) plans r.reached

  grows : w.now.log ≡ v.now.log ++ added
  grows = laws.grows plan first v told.step give limits reached on

  added_is : added ≡ grew.more
  added_is =
      ap (λ (l : List Event). drop n l) (sym next.now.log ∙ (grew.rows ∙ ap (λ (l : List Event). l ++ grew.more) r.now.log))
      ∙ drop-append_seam v.now.log grew.more

  few : length added ≤ 4
  few = subst (λ (l : List Event). length l ≤ 4) (sym added_is) grew.few

  tells : rows_of told ≡ numbered n added
  tells = tells_rows told n w.now.log four (λ i l. read i l
      ∙ (ap (λ (rows : List Event). Some (numbered_row rows (length old.system.rows.rows + i))) next.now.log
      ∙ ap (λ (rows : List Event). Some (numbered_row w.now.log (length rows + i))) r.now.log)) few

  own : (i : ℕ) (row : Event) → slice_get added i ≡ Some row → process_of row ≡ process_of_step told.step
  own i row h = laws.rows plan first v told.step give i row limits reached on h

  acts : acts_shown told.acts ≡ acts_of_step plan v told.step give (process_of_step told.step)
  acts =
      subst (λ (p : Planned). acts_shown told.acts ≡ acts_of_step p v told.step give (process_of_step told.step)) plans did

  pub told_as : IsToldAs told (told_at plan v (record { step = told.step; give = give }))
  told_as = record { step = refl; rows = ap (λ (l : List Row). map (λ (row : Row). row.1) l) tells ∙ without_numbers n added; acts = acts }

  pub tells_its_rows : TellsItsRows told v.now.log w.now.log
  tells_its_rows = record { added = added; log = grows; rows = tells; own = λ i other l. own i (slice_index_or added i other) (slice_get-get_or added i other l) }

-- what all are told

all_zip_append : {A B : Type 0} (R : A → B → Type 0) (xs more : List A) (ys also : List B) → AllZip R xs ys → AllZip R more also → AllZip R (xs ++ more) (ys ++ also)
all_zip_append R [] more [] also h k = k
all_zip_append R [] more (y ∷ ys) also h k = elim h [ ]
all_zip_append R (x ∷ xs) more [] also h k = elim h [ ]
all_zip_append R (x ∷ xs) more (y ∷ ys) also h k = (h.0, all_zip_append R xs more ys also h.1 k)

pub tells_nothing : (plan : Planned) (told : List (List Told)) → AreEmpty told → AreToldInRun plan [] told
tells_nothing plan told n p l = subst (λ (list : List Told). AllZip IsToldAs list []) (sym (n p)) tt

told_now : (plan : Planned) (v : Progress) (x : Move) (p : ℕ) (told : Told) → IsToldAs told (told_at plan v x)
    → AllZip IsToldAs (told_here p told) (told_by_move plan v p x)
told_now plan v x p told same =
    subst (λ (q : ℕ). AllZip IsToldAs (told_here p told) (if p == q then told_at plan v x ∷ [] else []))
    (ap process_of_step same.step) (at_both (p == process_of_step told.step))
  where
    at_both : (b : Bool) → AllZip IsToldAs (if b then told ∷ [] else []) (if b then told_at plan v x ∷ [] else [])
    at_both true = (same, tt)
    at_both false = tt

pub tells_more : RunLaws → (plan : Planned) (moves : List Move) (v : Progress) (x : Move) (told : Told) (before after : List (List Told))
    → after_moves plan (progress_at_start plan 0) moves ≡ Some v → IsToldAs told (told_at plan v x)
    → IsNoted told before after → AreToldInRun plan moves before → AreToldInRun plan (moves ++ x ∷ []) after
tells_more laws plan moves v x told before after e same noted h p l =
    let start = progress_at_start plan 0 in
    let count = noted.count in
    let there : p < length before = omega (arith, l, count) in
    subst (λ (list : List Told). AllZip IsToldAs list (told_by plan start p (moves ++ x ∷ []))) (sym (noted.each p there))
    (subst (λ (list : List StepTold). AllZip IsToldAs (slice_index_or before p [] ++ told_here p told) list) (sym (laws.told_more plan p moves start v x e))
    (all_zip_append IsToldAs (slice_index_or before p []) (told_here p told) (told_by plan start p moves) (told_by_move plan v p x)
    (h p there) (told_now plan v x p told same)))
