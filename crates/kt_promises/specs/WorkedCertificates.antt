-- The certificates that the logs of runs worked out by hand have to have.
use Rattle.std.specs.Prelude.{ℕ, Bool, true, false, List, [], ◌∷◌}
use Rattle.kt_base.specs.declared.words.Kind.{Kind}
use Rattle.kt_base.specs.declared.words.Kind.TheVariants.{Checkpoint, Rollback}
use Rattle.kt_spacetime.specs.declared.certificate.Certificate.{Certificate}

-- a certificate by its parts: the instance, its kind, its initiator, whether it is committed, its members
abbrev pub certificate : ℕ → Kind → ℕ → Bool → List (ℕ × List ℕ) → Certificate
certificate k kind initiator commit members =
    record { inst = k; kind = kind; initiator = initiator; commit = commit; members = members }

-- a member by one message
abbrev pub of_checkpoint_of_two : List Certificate
of_checkpoint_of_two = certificate 1 Checkpoint 1 true ((1, []) ∷ (0, 1 ∷ []) ∷ []) ∷ []

-- a chain of two messages
abbrev pub of_checkpoint_round_a_ring : List Certificate
of_checkpoint_round_a_ring = certificate 1 Checkpoint 0 true ((0, []) ∷ (2, 5 ∷ []) ∷ (1, 5 ∷ 3 ∷ []) ∷ []) ∷ []

-- the least message past the permanent position, not the least one
abbrev pub of_second_checkpoint_of_two : List Certificate
of_second_checkpoint_of_two =
    certificate 1 Checkpoint 0 true ((0, []) ∷ []) ∷
    certificate 2 Checkpoint 1 true ((1, []) ∷ (0, 7 ∷ []) ∷ []) ∷ []

-- by rising number, though the second one is decided first
abbrev pub of_two_checkpoints_at_once : List Certificate
of_two_checkpoints_at_once =
    certificate 1 Checkpoint 1 true ((1, []) ∷ []) ∷
    certificate 2 Checkpoint 0 true ((0, []) ∷ []) ∷ []

-- members in the order in which they joined, which is not that of their numbers
abbrev pub of_rollback_through_three : List Certificate
of_rollback_through_three = certificate 1 Rollback 2 true ((2, []) ∷ (1, 3 ∷ []) ∷ (0, 1 ∷ []) ∷ []) ∷ []

-- of two messages that link the least-numbered one
abbrev pub of_messages_received_again : List Certificate
of_messages_received_again =
    certificate 1 Rollback 1 true ((1, []) ∷ []) ∷
    certificate 2 Checkpoint 1 true ((1, []) ∷ (0, 1 ∷ []) ∷ []) ∷ []

-- an aborted one has no members
abbrev pub of_busy_process_refuses : List Certificate
of_busy_process_refuses =
    certificate 1 Checkpoint 0 true ((0, []) ∷ (2, 1 ∷ []) ∷ []) ∷
    certificate 2 Checkpoint 1 false [] ∷ []

-- before the first instance of that run is decided, it has none
abbrev pub of_busy_process_refuses_so_far : List Certificate
of_busy_process_refuses_so_far = certificate 2 Checkpoint 1 false [] ∷ []
