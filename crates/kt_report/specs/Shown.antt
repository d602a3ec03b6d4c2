-- When what is kept of objects and instances stands for the rows of a log.
use Rattle.std.specs.Prelude.{◌≡◌, ℕ, ℤ, Bool, false, List, [], ◌∷◌, Option, Some, None, option_map, length, map, slice_get, slice_index}
use Rattle.kt_plan.specs.declared.steps.Act.{Act as PlainAct}
use Rattle.kt_plan.specs.declared.steps.Act.TheVariants as plain
use Rattle.kt_spacetime.specs.declared.event.Event.{Event}
use Rattle.kt_meaning.specs.Past.{Past, past, is_committed}
use Rattle.kt_rules.specs.Standing.{at_number}
use Rattle.kt_object.specs.Value.{offered}
use Rattle.kt_machine.specs.Done.{done}
use Rattle.kt_machine.specs.Values.{Act, Apply, Keep, Promote, Discard, Restore, Drop, Due, due}
use Rattle.kt_report.specs.declared.offers.Offers.{Offers}
use Rattle.kt_report.specs.declared.closings.Instance.{Instance}
use Rattle.kt_report.specs.declared.replay.Replay.{Replay}
use Rattle.kt_report.specs.Exact.{rules_of_kind}

-- an act as kt_machine has it, where there is one
abbrev pub act_of : PlainAct → List Act
act_of plain.Nothing = []
act_of (plain.Apply from body) = Apply from body ∷ []
act_of plain.Keep = Keep ∷ []
act_of plain.Promote = Promote ∷ []
act_of plain.Discard = Discard ∷ []
act_of plain.Restore = Restore ∷ []
act_of plain.Drop = Drop ∷ []

-- what an object of a kind offers of what is due to its process
abbrev pub offers_of : ℕ → Due (List ℤ) → Offers
offers_of kind d = record {
  kind = kind;
  now = option_map (offered kind) d.object;
  tentative = option_map (offered kind) d.tentative;
  permanent = offered kind d.permanent;
}

-- there is one for each of these kinds, which offers what is due to its process after these rows
pub record ShowsOffers (list : List Offers) (kinds : List ℕ) (rows : List Event) : Type 0 where
  pub count : length list ≡ length kinds
  pub each : (p : ℕ) (offers : Offers) → slice_get list p ≡ Some offers
      → offers ≡ offers_of (slice_index kinds p) (due (rules_of_kind (slice_index kinds p)) (done rows) p)

-- whether an instance is committed, if it is there
abbrev pub is_committed_one : Option Instance → Bool
is_committed_one None = false
is_committed_one (Some v) = v.is_committed

-- the instances that have begun, by number
pub record ShowsReportInstances (instances : List Instance) (s : Past) : Type 0 where
  pub kinds : map (λ v. v.kind) instances ≡ map (λ b. b.kind) s.begun
  pub commits : (k : ℕ) → is_committed_one (at_number instances k) ≡ is_committed s k

-- a replay stands for the rows of a legal log, where processes have objects of these kinds
pub record ReplayOf (replay : Replay) (kinds : List ℕ) (rows : List Event) : Type 0 where
  pub instances : ShowsReportInstances replay.instances.items (past rows)
  pub offers : ShowsOffers replay.objects.items kinds rows
