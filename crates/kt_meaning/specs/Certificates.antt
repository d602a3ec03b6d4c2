-- The certificates of a log.
use Rattle.std.specs.Prelude.{ℕ, suc, ◌==◌, if◌then◌else◌, Bool, Option, Some, None, option_map, option_and_then, List, [], ◌∷◌, length, take}
use Rattle.std.specs.Option.{option_or}
use Rattle.std.specs.List.{filter_map, range_with_len}
use Rattle.kt_spacetime.specs.declared.event.Event.{Event}
use Rattle.kt_spacetime.specs.declared.event.Event.TheVariants.{Decided}
use Rattle.kt_meaning.specs.Past.{Past, Beginning, past, beginning_of}
use Rattle.kt_meaning.specs.Chains.{members}
use Rattle.kt_spacetime.specs.declared.certificate.Certificate.{Certificate}
use Rattle.kt_meaning.specs.Linking.{chained}

-- what a decision certifies of an instance: what is known, who joined, and how it began, just before; an aborted one has
-- no members
abbrev pub certified : Past → List ℕ → ℕ → Bool → Beginning → Certificate
certified s joined k commit b = record {
  inst = k;
  kind = b.kind;
  initiator = b.initiator;
  commit = commit;
  members = if commit then chained s k b.kind b.initiator joined else [];
}

-- the certificate of an instance that the row after these decides
abbrev pub certified_after : List Event → ℕ → Bool → Option Certificate
certified_after rows k commit = option_map (certified (past rows) (members rows k) k commit) (beginning_of (past rows) k)

-- how a row decides an instance, if it does: whether it commits
abbrev pub decision_by : ℕ → Event → Option Bool
decision_by k (Decided p j commit) = if j == k then Some commit else None
decision_by k _ = None

-- how many rows come before the first one that decides an instance, and whether that commits
abbrev pub decision_in : ℕ → List Event → Option (ℕ × Bool)
decision_in k [] = None
decision_in k (row ∷ rows) =
    option_or (option_map (λ commit. (0, commit)) (decision_by k row)) (option_map (λ d. (suc d.0, d.1)) (decision_in k rows))

-- the certificate of an instance, where a row decides it
abbrev pub certificate_of : List Event → ℕ → Option Certificate
certificate_of log k = option_and_then (λ d. certified_after (take d.0 log) k d.1) (decision_in k log)

-- one for each decided instance, by rising number
abbrev pub certificates : List Event → List Certificate
certificates log = filter_map (certificate_of log) (range_with_len 1 (length (past log).begun))
