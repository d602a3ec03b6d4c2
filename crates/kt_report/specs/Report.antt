-- What a report says.
use Rattle.std.specs.Prelude.{◌≡◌, ℕ, ℤ, Bool, true, false, List, [], ◌∷◌, ◌++◌, Option, length, count_by}
use Rattle.std.specs.List.{flat_map}
use Rattle.std.specs.Io.KnownBytes.{Appends}
use Rattle.kt_spacetime.specs.declared.event.Event.{Event}
use Rattle.kt_spacetime.specs.declared.event.Event.TheVariants.{Dropped}
use Rattle.kt_spacetime.specs.declared.certificate.Certificate.{Certificate}
use Rattle.kt_text.specs.Writing.{WritesFront}
use Rattle.kt_report.specs.Lines.{instance_lines, refusal_line, object_line, losses_line}

-- whether a row drops a message
abbrev pub is_drop : Event → Bool
is_drop (Dropped p from msg) = true
is_drop _ = false

-- the lines of objects: of each name with what the object offers, if it is up
abbrev pub object_lines : List (List ℕ) → List (Option ℤ) → List ℕ
object_lines (name ∷ names) (offer ∷ offers) = object_line name offer ++ object_lines names offers
object_lines (name ∷ names) [] = []
object_lines [] _ = []

-- a report of these instances, refused commands, objects and losses
abbrev pub report_with : List (List ℕ) → List Event → List Certificate → List (Option ℤ) → ℕ → List ℕ
report_with names rows certificates offers lost =
    flat_map (instance_lines names rows) certificates ++ flat_map (refusal_line names) rows
    ++ object_lines names offers ++ losses_line lost (count_by is_drop rows)

-- the report of a run: its instances, its refused commands, its objects and its losses
pub record IsReport (names : List (List ℕ)) (rows : List Event) (certificates : List Certificate) (text : List ℕ) : Type 0 where
  pub offers : List (Option ℤ)
  pub one_each : length offers ≡ length names
  pub lost : ℕ
  pub is : text ≡ report_with names rows certificates offers lost

-- the report of a run is written after what was written before
pub record WritesReport (old new : Option (List ℕ)) (names : List (List ℕ)) (rows : List Event) (certificates : List Certificate) : Type 0 where
  pub text : List ℕ
  pub written : Appends old new text
  pub is : IsReport names rows certificates text

-- what was written before stays, and a front part of the report of a run follows it
pub record WritesReportFront (old new : Option (List ℕ)) (names : List (List ℕ)) (rows : List Event) (certificates : List Certificate) : Type 0 where
  pub text : List ℕ
  pub written : WritesFront old new text
  pub is : IsReport names rows certificates text
