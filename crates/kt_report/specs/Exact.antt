-- The report of a legal log: what each object offers, how many messages are lost, and the text.
use Rattle.std.specs.Prelude.{◌-◌, ℕ, ℤ, Bool, false, List, Option, Some, length, map, count_by, slice_get, slice_index}
use Rattle.std.specs.List.{range_with_len}
use Rattle.kt_object.specs.Value.{opening_value, after, offered}
use Rattle.kt_plan.specs.Limits.{Planned}
use Rattle.kt_spacetime.specs.declared.event.Event.{Event}
use Rattle.kt_spacetime.specs.declared.event.Event.TheVariants.{Sent}
use Rattle.kt_meaning.specs.Past.{Past, past}
use Rattle.kt_meaning.specs.Legal.{is_undelivered}
use Rattle.kt_machine.specs.Values.{Rules}
use Rattle.kt_machine.specs.Offers.{offer}
use Rattle.kt_spacetime.specs.declared.certificate.Certificate.{Certificate}
use Rattle.kt_report.specs.Report.{report_with}

-- how an object of a kind behaves: its first value, its value after a message, and what it offers
abbrev pub rules_of_kind : ℕ → Rules (List ℤ)
rules_of_kind kind = record { opening = opening_value kind; after = after kind; offered = offered kind }

-- what the object of each process offers after a log, where it is up, if the processes have objects of these kinds
abbrev pub offers_in : List ℕ → List Event → List (Option ℤ)
offers_in kinds log = map (λ p. offer (rules_of_kind (slice_index kinds p)) log p) (range_with_len 0 (length kinds))

-- whether the message that a row of this number sent is lost: its send is live, its receiver's live history does not
-- have it, and it was not dropped
abbrev pub is_lost : Past → ℕ → Option Event → Bool
is_lost s msg (Some (Sent p to body)) = is_undelivered s to p msg
is_lost s msg _ = false

-- how many messages are lost at the end of a log; they are numbered as the rows, from 1
abbrev pub lost_in : List Event → ℕ
lost_in log = count_by (λ msg. is_lost (past log) msg (slice_get log (msg - 1))) (range_with_len 1 (length log))

-- the report of a log of a run of this plan, with these certificates
abbrev pub report_of : Planned → List Event → List Certificate → List ℕ
report_of plan log certificates = report_with plan.names log certificates (offers_in plan.kinds log) (lost_in log)
