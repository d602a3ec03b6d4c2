-- What is told of rows beside instances and objects.
use Rattle.std.specs.Prelude.{◌≡◌, ℕ, false, List, [], count_by}
use Rattle.std.specs.List.{flat_map}
use Rattle.kt_base.specs.Numbers.{IsInstNo}
use Rattle.kt_spacetime.specs.declared.event.Event.{Event}
use Rattle.kt_report.specs.Lines.{refusal_line}
use Rattle.kt_report.specs.Report.{is_drop}
use Rattle.kt_report.specs.Unwilling.{answers_to, unwilling_of}
use Rattle.kt_report.specs.declared.told.Told.{Told}

-- it tells the answers to each instance, how many messages were dropped, and where no command was refused
pub record Tells (told : Told) (rows : List Event) : Type 0 where
  pub unwilling : (inst : ℕ) → IsInstNo inst → answers_to told.unwilling inst ≡ unwilling_of inst rows
  pub dropped : told.dropped ≡ count_by is_drop rows
  pub refused : told.refuses ≡ false → (names : List (List ℕ)) → flat_map (refusal_line names) rows ≡ []
