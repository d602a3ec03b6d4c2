-- What is known at each row of the window, one row after another.
use Rattle.std.proofs.Common.{◌≡◌, ◌∙◌, ◌+◌, ℕ, zero, suc, false, Some, None, List, [], ◌∷◌, ◌++◌, length, take, drop, refl, sym, ap, fold, arith, map, append_assoc}
use Rattle.std.proofs.lemmas.List.{append-nil}
use Rattle.std.proofs.lemmas.List.Sums.{fold-append}
use Rattle.std.specs.List.{slice_get, slice_index}
use Rattle.std.specs.Prelude.{slice_set}
use Rattle.kt_spacetime.specs.declared.event.Event.{Event}
use Rattle.kt_spacetime.specs.Events.{process_of}
use Rattle.kt_meaning.specs.Past.{Past, past, after}
use Rattle.kt_meaning.proofs.Items.{take_item}
use Rattle.kt_meaning.proofs.LegalLogs.{past_push, rows_length}
use Rattle.kt_walk.specs.WalkOf.{WalkOf}
use Rattle.kt_walk.specs.WalkParts.{WalkParts}
use Rattle.kt_picture.specs.declared.entry.Entry.{Entry}
use Rattle.kt_picture.specs.declared.window.Known.{Known}
use Rattle.kt_picture.specs.declared.window.Shown.{Shown}
use Rattle.kt_picture.specs.declared.window.CutMark.{CutMark}
use Rattle.kt_picture.specs.declared.window.Stretch.{Stretch}
use Rattle.kt_picture.specs.Followed.{event_of, plain_of, plain_rows, told_rows}
use Rattle.kt_picture.specs.KnownOf.{KnownOf}
use Rattle.kt_picture.specs.KnownAtRow.{KnownAtRow, plain_at, seen_before, seen_after, shown_rows, stretch_from, taken_after, told_at, places_after, cut_in, cut_rows}
use Rattle.kt_picture.specs.Window.{seen_at}

-- the rest begins with the next item
pub drop_item : {X : Type 0} (xs : List X) (i : ℕ) (x : X) → slice_get xs i ≡ Some x → drop i xs ≡ x ∷ drop (i + 1) xs
drop_item [] i x at = absurd (cc)
drop_item (y ∷ xs) zero x at = let same : y ≡ x = cc in ap (λ (z : _). z ∷ xs) same
drop_item (y ∷ xs) (suc i) x at =
    let e : suc (i + 1) ≡ suc i + 1 = omega arith in
    drop_item xs i x at ∙ ap (λ (n : ℕ). x ∷ drop n (y ∷ xs)) e

-- what is known after one more row of the window
pub seen_next : (rows : List Event) (before i : ℕ) (row : Event) → slice_get (drop before rows) i ≡ Some row → seen_at rows before (i + 1) ≡ seen_after (seen_at rows before i) row
seen_next rows before i row at =
    ap (fold seen_after (seen_before (take before rows))) (take_item (drop before rows) i (i + 1) row refl at)
    ∙ fold-append seen_after (seen_before (take before rows)) (take i (drop before rows)) (row ∷ [])

-- how many rows of the window were seen
pub seen_column : (s : KnownAtRow) (window : List Event) → (fold seen_after s window).column ≡ s.column + length window
seen_column s [] = omega arith
seen_column s (row ∷ window) = omega (arith, seen_column (seen_after s row) window)

-- what is kept stands for what is known after one more row
pub known_next : (k t : Known) (w v : WalkParts) (s : KnownAtRow) (rows : List Event) (row : Event) → KnownOf k w s rows → WalkOf v (rows ++ row ∷ []) → t.column ≡ k.column + 1
    → t.latest ≡ slice_set k.latest (process_of row) (k.column + 1) → t.taken ≡ taken_after k.column k.taken row → t.places ≡ places_after (past rows) k.taken k.places row
    → KnownOf t v (seen_after s row) (rows ++ row ∷ [])
known_next k t w v s rows row h walk column latest taken places = record {
  walk = walk;
  past = ap (λ (p : Past). after p row) h.past ∙ sym (past_push rows row);
  column = column ∙ ap (λ (n : ℕ). n + 1) h.column;
  latest = latest ∙ (λ j. slice_set (h.latest j) (process_of row) (h.column j + 1));
  taken = taken ∙ (λ j. taken_after (h.column j) (h.taken j) row);
  places = places ∙ ap (λ (p : Past). places_after p k.taken k.places row) (sym h.past) ∙ (λ j. places_after s.past (h.taken j) (h.places j) row);
}

-- the stretch of a lane, as it was found
pub stretch_is : (k : Known) (w : WalkParts) (s : KnownAtRow) (rows : List Event) (p : ℕ) (v : Stretch) → KnownOf k w s rows → v.since ≡ slice_index k.latest p → v.up ≡ (past rows).up p → v.open_in ≡ (past rows).open_in p
    → v ≡ stretch_from s p
stretch_is k w s rows p v h since up open_in =
    λ j. record {
      since = (since ∙ ap (λ (l : List ℕ). slice_index l p) h.latest) j;
      up = (up ∙ ap (λ (q : Past). q.up p) (sym h.past)) j;
      open_in = (open_in ∙ ap (λ (q : Past). q.open_in p) (sym h.past)) j;
    }

-- what a row shows, as it was found, but for what becomes of it
pub plain_is : (k : Known) (w : WalkParts) (s : KnownAtRow) (rows : List Event) (row : Event) (v : Shown) → KnownOf k w s rows
    → v.row ≡ length rows + 1 → v.column ≡ k.column + 1 → v.event ≡ row → v.stretch ≡ stretch_from s (process_of row)
    → v.is_undone ≡ false → v.is_taken_back ≡ false → v.is_in_transit ≡ false → v.decision ≡ None → v ≡ plain_at s row
plain_is k w s rows row v h number column event stretch undone taken_back in_transit decision =
    let next : length rows + 1 ≡ s.past.rows + 1 = ap (λ (n : ℕ). n + 1) (sym (rows_length rows) ∙ ap (λ (q : Past). q.rows) (sym h.past)) in
    λ j. record {
      row = (number ∙ next) j;
      column = (column ∙ ap (λ (n : ℕ). n + 1) h.column) j;
      event = event j;
      stretch = stretch j;
      is_undone = undone j;
      is_taken_back = taken_back j;
      is_in_transit = in_transit j;
      decision = decision j;
    }

-- one more row of the window
pub plain_push : (s : KnownAtRow) (window : List Event) (row : Event) → plain_rows s (window ++ row ∷ []) ≡ plain_rows s window ++ plain_at (fold seen_after s window) row ∷ []
plain_push s [] row = refl
plain_push s (x ∷ window) row = ap (λ (l : List Shown). plain_at s x ∷ l) (plain_push (seen_after s x) window row)

pub cuts_push : (s : KnownAtRow) (window : List Event) (row : Event) → cut_rows s (window ++ row ∷ []) ≡ cut_rows s window ++ cut_in (fold seen_after s window).places (seen_after (fold seen_after s window) row).places row
cuts_push s [] row = append-nil (cut_in s.places (seen_after s row).places row)
cuts_push s (x ∷ window) row =
    ap (λ (l : List CutMark). cut_in s.places (seen_after s x).places x ++ l) (cuts_push (seen_after s x) window row)
    ∙ sym (append_assoc (cut_in s.places (seen_after s x).places x) (cut_rows (seen_after s x) window) (cut_in (fold seen_after (seen_after s x) window).places (seen_after (fold seen_after (seen_after s x) window) row).places row))

-- the rows of entries
events_are : (s : KnownAtRow) (window : List Event) (entries : List Entry) → map plain_of entries ≡ plain_rows s window → map event_of entries ≡ window
events_are s [] [] e = refl
events_are s [] (x ∷ entries) e = absurd (cc)
events_are s (row ∷ window) [] e = absurd (cc)
events_are s (row ∷ window) (x ∷ entries) e =
    let head : x.plain ≡ plain_at s row = cc in
    let tail : map plain_of entries ≡ plain_rows (seen_after s row) window = cc in
    λ j. (head j).event ∷ events_are (seen_after s row) window entries tail j

-- what the rows of entries show with what became of them
pub told_all : (upto : List Event) (s : KnownAtRow) (window : List Event) (entries : List Entry) → map plain_of entries ≡ plain_rows s window → told_rows upto entries ≡ shown_rows upto s window
told_all upto s [] [] e = refl
told_all upto s [] (x ∷ entries) e = absurd (cc)
told_all upto s (row ∷ window) [] e = absurd (cc)
told_all upto s (row ∷ window) (x ∷ entries) e =
    let head : x.plain ≡ plain_at s row = cc in
    let tail : map plain_of entries ≡ plain_rows (seen_after s row) window = cc in
    let events = events_are (seen_after s row) window entries tail in
    λ j. told_at upto (head j) (events j) ∷ told_all upto (seen_after s row) window entries tail j
