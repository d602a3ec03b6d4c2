-- A manager's process, and the state of a node.
use Rattle.std.proofs.Common.{◌≡◌, Bool, true, false, Option, Some, None, refl, sym, subst}
use Rattle.std.specs.Prelude.{if◌then◌else◌}
use Rattle.kt_process.specs.ProcessStates.{ProcessState, inst_of}
use Rattle.kt_process.specs.declared.side.Side.{Side}
use Rattle.kt_process.specs.declared.side.Side.TheVariants as side
use Rattle.kt_process.specs.Shown.{IsSeenAs, inst_shown, closed_as}
use Rattle.kt_machine.specs.InOnePiece.{process_after_checkpoint, process_after_rollback}
use Rattle.kt_spacetime.specs.declared.names.InstName.{InstName}
use Rattle.kt_manager.specs.Nodes.{NodeState}
use Rattle.kt_manager.specs.NodeClosing.{after_checkpoint, after_rollback}
use Rattle.kt_manager.specs.Managers.{ManagerState, ShowsManager, number_in, process_of, after_closing}

-- the state of the same manager
pub shows_inside : (v w : ManagerState) (y : NodeState) → v ≡ w → ShowsManager w y → ShowsManager v y
shows_inside v w y e h = subst (λ (x : ManagerState). ShowsManager x y) (sym e) h

none_there : (o : Option InstName) → 0 ≡ number_in o → o ≡ None
none_there None e = refl
none_there (Some name) e = absurd (cc (e))

-- who is in an instance has a process that is in one
pub inside : (x : ProcessState) (y : NodeState) → IsSeenAs x (process_of y) → (y.inst ≡ None → ⊥) → inst_of x.side ≡ None → ⊥
inside x y h there e = at_side x.side h.inst e
  where
    at_side : (s : Option Side) → inst_shown s ≡ number_in y.inst → inst_of s ≡ None → ⊥
    at_side None i e = there (none_there y.inst i)
    at_side (Some (side.Checkpoint s)) i e = absurd (cc (e))
    at_side (Some (side.Rollback s)) i e = absurd (cc (e))

-- its process closes as it does
pub closed_is : (c : Bool) (y : NodeState) → closed_as c (process_of y) ≡ process_of (after_closing c y)
closed_is c y = at_test y.part.is_rollback c
  where
    at_test : (b c : Bool) → (if b then process_after_rollback (process_of y) c else process_after_checkpoint (process_of y) c) ≡ process_of (if b then after_rollback c y else after_checkpoint c y)
    at_test true true = refl
    at_test true false = refl
    at_test false c = refl

-- and is in none then
pub closed_inst : (c : Bool) (y : NodeState) → None ≡ (after_closing c y).inst
closed_inst c y = at_test y.part.is_rollback c
  where
    at_test : (b c : Bool) → None ≡ (if b then after_rollback c y else after_checkpoint c y).inst
    at_test true true = refl
    at_test true false = refl
    at_test false c = refl
