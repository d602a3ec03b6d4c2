-- What a row of the window shows, in the log's words.
use Rattle.std.proofs.Common.{◌≡◌, ◌∙◌, ◌<◌, ◌+◌, ◌-◌, ℕ, zero, suc, Some, List, [], ◌∷◌, length, refl, sym, ap, subst, take, drop, fold, arith}
use Rattle.std.specs.Prelude.{slice_get, Contains}
use Rattle.std.proofs.lemmas.List.{drop-drop, length-drop, length-take-le}
use Rattle.std.proofs.lemmas.List.Sums.{fold-append}
use Rattle.std.proofs.lemmas.Option.{slice_get_read, slice_get_within}
use Rattle.std.proofs.Math.Seq.{take-add}
use Rattle.kt_spacetime.specs.declared.event.Event.{Event}
use Rattle.kt_spacetime.specs.Events.{process_of}
use Rattle.kt_meaning.specs.Past.{Past, past, start, after}
use Rattle.kt_meaning.specs.Messages.{row_at}
use Rattle.kt_meaning.proofs.LegalLogs.{rows_length}
use Rattle.kt_meaning.proofs.Lists.{get_drop}
use Rattle.kt_meaning.proofs.Items.{some_same}
use Rattle.kt_picture.specs.declared.window.Shown.{Shown}
use Rattle.kt_picture.specs.Fates.{is_message_undone, is_receive_undone, is_sent_in_transit, joined_decision}
use Rattle.kt_picture.specs.KnownAtRow.{KnownAtRow, seen_before, seen_after, shown_at, shown_rows}
use Rattle.kt_picture.specs.Window.{seen_at, shown_of}
use Rattle.kt_picture.proofs.WindowFacts.{seen_column}

-- an item of a list stands at a place
pub place_in : {X : Type 0} (xs : List X) (x : X) → Contains xs x → (i : ℕ) × (slice_get xs i ≡ Some x)
place_in xs x h = (h.0, slice_get_read xs (length xs) h.0 x refl h.1 (sym h.2))

shown_nth : (upto window : List Event) (s : KnownAtRow) (i : ℕ) (v : Shown) → slice_get (shown_rows upto s window) i ≡ Some v
    → (row : Event) × (slice_get window i ≡ Some row) × (shown_at upto (fold seen_after s (take i window)) row (drop (i + 1) window) ≡ v)
shown_nth upto [] s i v e = absurd (cc)
shown_nth upto (row ∷ rest) s zero v e = (row, refl, some_same e)
shown_nth upto (row ∷ rest) s (suc i) v e =
    let h = shown_nth upto rest (seen_after s row) i v e in
    let n : suc i + 1 ≡ suc (i + 1) = omega arith in
    (h.0, h.1, ap (λ (k : ℕ). shown_at upto (fold seen_after s (take (suc i) (row ∷ rest))) h.0 (drop k (row ∷ rest))) n ∙ h.2)

past_seen : (s : KnownAtRow) (window : List Event) → (fold seen_after s window).past ≡ fold after s.past window
past_seen s [] = refl
past_seen s (row ∷ window) = past_seen (seen_after s row) window

-- what is known at a row of the window is known after the rows before it
pub past_at : (rows : List Event) (before i : ℕ) → (seen_at rows before i).past ≡ past (take (before + i) rows)
past_at rows before i =
    past_seen (seen_before (take before rows)) (take i (drop before rows))
    ∙ sym (fold-append after start (take before rows) (take i (drop before rows)))
    ∙ ap past (sym (take-add before i rows))

-- what is shown of a row, in the column after so many
pub record ShowsRow (rows : List Event) (before i : ℕ) (s : Shown) : Type 0 where
  pub at : slice_get rows (before + i) ≡ Some s.event
  pub number : s.row ≡ before + i + 1
  pub column : s.column ≡ i + 1
  pub up : s.stretch.up ≡ (past (take (before + i) rows)).up (process_of s.event)
  pub open_in : s.stretch.open_in ≡ (past (take (before + i) rows)).open_in (process_of s.event)
  pub undone : s.is_undone ≡ is_message_undone rows s.row s.event
  pub taken_back : s.is_taken_back ≡ is_receive_undone rows s.event (drop (before + i + 1) rows)
  pub in_transit : s.is_in_transit ≡ is_sent_in_transit rows s.row s.event
  pub decision : s.decision ≡ joined_decision rows s.event

pub shows_row : (rows : List Event) (before i : ℕ) (s : Shown) → slice_get (shown_of rows before) i ≡ Some s → ShowsRow rows before i s
shows_row rows before i s e = subst (ShowsRow rows before i) found.2 (record {
  at = at;
  number = ap (λ (n : ℕ). n + 1) count;
  column = ap (λ (n : ℕ). n + 1) place;
  up = ap (λ (p : Past). p.up (process_of found.0)) (past_at rows before i);
  open_in = ap (λ (p : Past). p.open_in (process_of found.0)) (past_at rows before i);
  undone = refl;
  taken_back = ap (λ (l : List Event). is_receive_undone rows found.0 l) rest;
  in_transit = refl;
  decision = refl;
})
  where
    found : (row : Event) × (slice_get (drop before rows) i ≡ Some row) × (shown_at rows (seen_at rows before i) row (drop (i + 1) (drop before rows)) ≡ s)
    found = shown_nth rows (drop before rows) (seen_before (take before rows)) i s e

    at : slice_get rows (before + i) ≡ Some found.0
    at = get_drop before rows i found.0 found.1

    within : before + i < length rows
    within = slice_get_within rows (before + i) found.0 at

    count : (seen_at rows before i).past.rows ≡ before + i
    count = ap (λ (p : Past). p.rows) (past_at rows before i) ∙ rows_length (take (before + i) rows) ∙ length-take-le (before + i) rows (omega (arith, within))

    place : (seen_at rows before i).column ≡ i
    place = omega (arith, seen_column (seen_before (take before rows)) (take i (drop before rows)), length-take-le i (drop before rows) (omega (arith, length-drop before rows, within)))

    rest : drop (i + 1) (drop before rows) ≡ drop (before + i + 1) rows
    rest = drop-drop (i + 1) before rows ∙ ap (λ (n : ℕ). drop n rows) (let n : before + (i + 1) ≡ before + i + 1 = omega arith in n)

-- the row of the number that is shown
pub row_shown : (rows : List Event) (before i : ℕ) (s : Shown) → ShowsRow rows before i s → row_at rows s.row ≡ Some s.event
row_shown rows before i s h = ap (row_at rows) (h.number ∙ (let n : before + i + 1 ≡ suc (before + i) = omega arith in n)) ∙ h.at

-- the rows before it
pub before_shown : (rows : List Event) (before i : ℕ) (s : Shown) → ShowsRow rows before i s → take (before + i) rows ≡ take (s.row - 1) rows
before_shown rows before i s h = ap (λ (n : ℕ). take n rows) (let n : before + i ≡ s.row - 1 = omega (arith, h.number) in n)
