-- Laws of pictures.
use Rattle.std.proofs.Common.{◌≡◌, ◌∙◌, ℕ, suc, ℤ, Bool, true, false, not, List, [], ◌∷◌, Option, Some, None, length, is_none, cond, refl, ap}
use Rattle.std.specs.Prelude.{◌||◌}
use Rattle.std.specs.Option.{option_map, option_flatten}
use Rattle.kt_spacetime.specs.declared.event.Event.{Event}
use Rattle.kt_spacetime.specs.declared.event.Event.TheVariants.{Sent}
use Rattle.kt_spacetime.specs.declared.deeds.Deed.{Deed}
use Rattle.kt_meaning.specs.Past.{past}
use Rattle.kt_meaning.specs.Legal.{has_deed, is_deed}
use Rattle.kt_meaning.specs.Messages.{row_at}
use Rattle.kt_rules.specs.Standing.{parties_of_row}
use Rattle.kt_rules.specs.Traces.{trace_of, trace_between, place_of}
use Rattle.kt_picture.specs.KnownAtRow.{KnownAtRow, seen_after, shown_rows}

-- as many are shown as there are rows
pub shown_count : (upto : List Event) (s : KnownAtRow) (window : List Event) → length (shown_rows upto s window) ≡ length window
shown_count upto s [] = refl
shown_count upto s (row ∷ rest) = ap (λ (n : ℕ). suc n) (shown_count upto (seen_after s row) rest)

none_more : (o : Option ℕ) → is_none (option_map suc o) ≡ is_none o
none_more None = refl
none_more (Some n) = refl

picked : (t : Bool) (o : Option ℕ) (h : Bool) → is_none o ≡ not h → is_none (cond t (Some 1) (option_map suc o)) ≡ not (t || h)
picked true o h e = refl
picked false o h e = none_more o ∙ e

-- a deed has no place exactly where the history does not have it
pub no_place : (d : Deed) (deeds : List Deed) → is_none (place_of d deeds) ≡ not (has_deed d deeds)
no_place d [] = refl
no_place d (e ∷ deeds) = picked (is_deed d e) (place_of d deeds) (has_deed d deeds) (no_place d deeds)

-- what is known of a message that a row sent
pub trace_is : (rows : List Event) (msg p q : ℕ) (body : ℤ) → row_at rows msg ≡ Some (Sent p q body) → trace_of rows msg ≡ trace_between (past rows) msg (Some (p, q))
trace_is rows msg p q body at = ap (λ (o : Option Event). trace_between (past rows) msg (option_flatten (option_map parties_of_row o))) at
