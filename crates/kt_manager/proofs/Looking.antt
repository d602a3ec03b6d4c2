-- What an input needs of a node's object, as its manager finds it.
use Rattle.std.specs.Prelude.{◌&&◌, nat_lt, nat_le, is_none}
use Rattle.std.proofs.Common.{◌≡◌, ◌∙◌, ℕ, Bool, true, false, List, sym, ap}
use Rattle.kt_tables.specs.Calls.{Call}
use Rattle.kt_tables.specs.States.{State}
use Rattle.kt_tables.specs.Standing as standing
use Rattle.kt_machine.specs.CallTests.{must_take}
use Rattle.kt_base.specs.declared.words.Kind.TheVariants as kind
use Rattle.kt_process.specs.ProcessStates.{ProcessState, inst_of}
use Rattle.kt_process.specs.Turns.{joins_by}
use Rattle.kt_process.specs.Shown.{IsSeenAs}
use Rattle.kt_manager.specs.Nodes.{NodeState}
use Rattle.kt_manager.specs.Managers.{process_of}

takes_is : (t : State) (calls : List Call) (q l : ℕ) → standing.TablesStandFor t calls → standing.must_take t q l ≡ must_take calls q l
unfolding must_take
takes_is t calls q l s = ap (λ (n : ℕ). nat_lt 0 n && nat_le n l) (s.keeps.first_sent q)

-- an ask to take part in a checkpoint
pub joins_is : (x : ProcessState) (y : NodeState) (q l : ℕ) (b : Bool) → b ≡ true → b ≡ (is_none (inst_of x.side) && x.up) → b ≡ (is_none y.inst && y.up) → IsSeenAs x (process_of y) →
    joins_by x kind.Checkpoint true q l ≡ ((is_none y.inst && y.up) && (true && must_take y.calls q l))
joins_is x y q l b t e f h = at_tests (is_none (inst_of x.side)) x.up (is_none y.inst && y.up) (standing.must_take x.tables q l) (must_take y.calls q l) (sym e ∙ t) (sym f ∙ t) (takes_is x.tables y.calls q l h.stands)
  where
    at_tests : (a b c d e : Bool) → (a && b) ≡ true → c ≡ true → d ≡ e → (a && (b && (true && d))) ≡ (c && (true && e))
    at_tests true true true d e f g h = h
    at_tests true true false d e f g h = absurd (cc (g))
    at_tests true false c d e f g h = absurd (cc (f))
    at_tests false b c d e f g h = absurd (cc (f))
