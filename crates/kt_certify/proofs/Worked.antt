-- The certificates of worked logs.
use Rattle.std.proofs.Common.{◌≡◌, pos, true, false, List, [], ◌∷◌, refl}
use Rattle.kt_base.specs.declared.words.Kind.TheVariants.{Checkpoint, Rollback}
use Rattle.kt_base.specs.declared.words.Cause.TheVariants.{NoSave}
use Rattle.kt_spacetime.specs.declared.event.Event.{Event}
use Rattle.kt_spacetime.specs.declared.event.Event.TheVariants.{Sent, Received, Began, Took, Ready, Unwilling, Decided, Closed}
use Rattle.kt_meaning.specs.WorkedRows as worked
use Rattle.kt_meaning.specs.Certificates.{certificates}

two_processes : certificates worked.two_processes_checkpoint ≡ record { inst = 1; kind = Checkpoint; initiator = 1; commit = true; members = (1, []) ∷ (0, 1 ∷ []) ∷ [] } ∷ []
two_processes = refl

through_three : certificates worked.checkpoint_through_three ≡ record { inst = 1; kind = Checkpoint; initiator = 2; commit = true; members = (2, []) ∷ (1, 1 ∷ []) ∷ (0, 1 ∷ 3 ∷ []) ∷ [] } ∷ []
through_three = refl

back_through_three : certificates worked.rollback_through_three ≡ record { inst = 1; kind = Rollback; initiator = 2; commit = true; members = (2, []) ∷ (1, 3 ∷ []) ∷ (0, 1 ∷ []) ∷ [] } ∷ []
back_through_three = refl

-- the least message past the permanent position, not the least one
second : certificates worked.second_checkpoint
    ≡ record { inst = 1; kind = Checkpoint; initiator = 0; commit = true; members = (0, []) ∷ [] }
    ∷ record { inst = 2; kind = Checkpoint; initiator = 1; commit = true; members = (1, []) ∷ (0, 7 ∷ []) ∷ [] } ∷ []
second = refl

-- by rising number, whatever is decided first
at_once : certificates worked.two_instances_at_once
    ≡ record { inst = 1; kind = Checkpoint; initiator = 1; commit = true; members = (1, []) ∷ [] }
    ∷ record { inst = 2; kind = Checkpoint; initiator = 0; commit = true; members = (0, []) ∷ [] } ∷ []
at_once = refl

-- the first earlier member that is linked, though another one has a lesser message; of its messages the least
abbrev two_ways : List Event
two_ways =
    Sent 0 1 (pos 5) ∷
    Received 1 0 1 ∷
    Sent 0 2 (pos 6) ∷
    Sent 0 2 (pos 7) ∷
    Received 2 0 3 ∷
    Received 2 0 4 ∷
    Sent 1 2 (pos 8) ∷
    Received 2 1 7 ∷
    Began 2 1 Checkpoint ∷
    Took 2 1 ∷
    Took 1 1 ∷
    Took 0 1 ∷
    Decided 2 1 true ∷ []

first_of_two : certificates two_ways ≡ record { inst = 1; kind = Checkpoint; initiator = 2; commit = true; members = (2, []) ∷ (1, 7 ∷ []) ∷ (0, 3 ∷ []) ∷ [] } ∷ []
first_of_two = refl

-- an abort has no members, and an instance that is not decided has no certificate
abbrev aborted : List Event
aborted =
    Sent 0 1 (pos 5) ∷
    Received 1 0 1 ∷
    Began 1 1 Checkpoint ∷
    Took 1 1 ∷
    Unwilling 0 1 NoSave ∷
    Decided 1 1 false ∷
    Closed 1 1 ∷
    Began 1 2 Rollback ∷
    Ready 1 2 ∷ []

no_members : certificates aborted ≡ record { inst = 1; kind = Checkpoint; initiator = 1; commit = false; members = [] } ∷ []
no_members = refl

-- a member that nothing links has the empty list
needless : certificates worked.with_a_needless_member ≡ record { inst = 1; kind = Checkpoint; initiator = 1; commit = true; members = (1, []) ∷ (0, 1 ∷ []) ∷ (2, []) ∷ [] } ∷ []
needless = refl
