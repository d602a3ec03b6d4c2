-- The acts of a process that begins an instance, or takes an ask, as the machine has them.
use Rattle.std.specs.Prelude.{◌==◌, ◌&&◌, not, if◌then◌else◌, Option, Some, None}
use Rattle.std.proofs.Common.{◌≡◌, ℕ, Bool, true, false, List, [], ◌∷◌, refl, ap, ◌∙◌}
use Rattle.kt_base.specs.declared.words.Cause.TheVariants.{Busy}
use Rattle.kt_base.specs.declared.words.Kind.TheVariants.{Checkpoint, Rollback}
use Rattle.kt_tables.specs.Peers.{count_peers}
use Rattle.kt_protocol.specs.Replies.{unable_cause}
use Rattle.kt_protocol.specs.States.{Begin}
use Rattle.kt_process.specs.Answers.{replies, joins}
use Rattle.kt_process.specs.PartRules.{way_alone}
use Rattle.kt_process.specs.declared.actions.Action.{Action}
use Rattle.kt_process.specs.declared.actions.Action.TheVariants.{Nothing, Refuse, Join, Reply, Settle}
use Rattle.kt_process.specs.declared.actions.Then.{Then}
use Rattle.kt_process.specs.declared.actions.Then.TheVariants.{Wait}
use Rattle.kt_process.specs.ProcessStates.{ProcessState, is_ready}
use Rattle.kt_process.specs.declared.side.Side.{Side}
use Rattle.kt_process.specs.declared.side.Side.TheVariants as side
use Rattle.kt_process.specs.Shown.{IsSeenAs, BeginsAs, HearsAs, part_shown}
use Rattle.kt_machine.specs.Seen.{SeenPart, SeenProcess, Seen}
use Rattle.kt_machine.specs.CallTests.{must_take, is_asked_in_checkpoint, is_asked_in_rollback}
use Rattle.kt_machine.specs.Values.{Act, Keep, closing}
use Rattle.kt_machine.specs.SeenActs.{seen_acts, seen_acts_asked}
use Rattle.kt_manager.specs.ShownActs.{acts_going_on, acts_carried_out}

-- who is ready is in a rollback, by its part
pub ready_part : (x : ProcessState) (y : SeenProcess) → IsSeenAs x y → is_ready x.side ≡ y.part.is_rollback
ready_part x y h = at_side x.side h.part
  where
    at_side : (s : Option Side) → part_shown s ≡ y.part → is_ready s ≡ y.part.is_rollback
    at_side None e = ap (λ (r : SeenPart). r.is_rollback) e
    at_side (Some (side.Checkpoint s)) e = ap (λ (r : SeenPart). r.is_rollback) e
    at_side (Some (side.Rollback s)) e = ap (λ (r : SeenPart). r.is_rollback) e

-- who has no parent commits at once where it awaits nobody; who has one closes nothing
alone : (roll b : Bool) → acts_going_on roll (if b then way_alone None else Wait) ≡ (if b then closing roll true else [])
alone roll true = refl
alone roll false = refl

asked_on : (roll b : Bool) (q : ℕ) → acts_going_on roll (if b then way_alone (Some q) else Wait) ≡ []
asked_on roll true q = refl
asked_on roll false q = refl

module _ (x : ProcessState) (v : Seen) (p k : ℕ) (marks : ℕ → ℕ) where
  pub begin_acts_save : (able : Bool) (action : Action) → BeginsAs Checkpoint able v.processes k marks (v.states p) x action → acts_carried_out Checkpoint (is_ready x.side) action ≡ seen_acts v (Begin p false able)
  begin_acts_save able (Join asks goes) s =
      ap (λ (b : Bool). Keep ∷ acts_going_on b goes) (ready_part x _ s.1.process)
      ∙ (ap (λ (g : Then). Keep ∷ acts_going_on false g) s.1.way
      ∙ (ap (λ (l : List Act). Keep ∷ l) (alone false (count_peers v.processes (is_asked_in_checkpoint (v.states p).calls) == 0))
      ∙ at_tests ((v.states p).inst == 0) (able && (v.states p).up) _ s.0))
    where
      at_tests : (a b : Bool) (l : List Act) → (if not a then Some (Busy (v.states p).inst) else if b then None else Some (unable_cause (v.states p).up)) ≡ None → l ≡ (if a then (if b then l else []) else [])
      at_tests true true l e = refl
      at_tests true false l e = absurd (cc (e))
      at_tests false b l e = absurd (cc (e))
  begin_acts_save able (Refuse cause) s = at_tests ((v.states p).inst == 0) (able && (v.states p).up) _ s.0
    where
      at_tests : (a b : Bool) (l : List Act) → (if not a then Some (Busy (v.states p).inst) else if b then None else Some (unable_cause (v.states p).up)) ≡ Some cause → [] ≡ (if a then (if b then l else []) else [])
      at_tests true true l e = absurd (cc (e))
      at_tests true false l e = refl
      at_tests false b l e = refl
  begin_acts_save able Nothing s = absurd s
  begin_acts_save able (Reply to willing cause) s = absurd s
  begin_acts_save able (Settle commit tell) s = absurd s

  pub begin_acts_roll : (able : Bool) (action : Action) → BeginsAs Rollback true v.processes k marks (v.states p) x action → acts_carried_out Rollback (is_ready x.side) action ≡ seen_acts v (Begin p true able)
  begin_acts_roll able (Join asks goes) s =
      ap (λ (b : Bool). acts_going_on b goes) (ready_part x _ s.1.process)
      ∙ (ap (λ (g : Then). acts_going_on true g) s.1.way
      ∙ (alone true (count_peers v.processes (is_asked_in_rollback (v.states p).calls) == 0)
      ∙ at_test ((v.states p).inst == 0) _ s.0))
    where
      at_test : (a : Bool) (l : List Act) → (if not a then Some (Busy (v.states p).inst) else None) ≡ None → l ≡ (if a then l else [])
      at_test true l e = refl
      at_test false l e = absurd (cc (e))
  begin_acts_roll able (Refuse cause) s = at_test ((v.states p).inst == 0) _ s.0
    where
      at_test : (a : Bool) (l : List Act) → (if not a then Some (Busy (v.states p).inst) else None) ≡ Some cause → [] ≡ (if a then l else [])
      at_test true l e = absurd (cc (e))
      at_test false l e = refl
  begin_acts_roll able Nothing s = absurd s
  begin_acts_roll able (Reply to willing cause) s = absurd s
  begin_acts_roll able (Settle commit tell) s = absurd s

  module _ (q label : ℕ) (able : Bool) where
    pub hear_acts_save : (action : Action) → HearsAs Checkpoint able v.processes q k label marks (v.states p) x action → acts_carried_out Checkpoint (is_ready x.side) action ≡ seen_acts_asked v p q able k false label
    hear_acts_save (Join asks goes) s =
        ap (λ (g : Then). Keep ∷ acts_going_on (is_ready x.side) g) s.1.way
        ∙ (ap (λ (l : List Act). Keep ∷ l) (asked_on (is_ready x.side) (count_peers v.processes (is_asked_in_checkpoint (v.states p).calls) == 0) q)
        ∙ at_tests ((v.states p).inst == k) ((v.states p).inst == 0) (must_take (v.states p).calls q label) (able && (v.states p).up) s.0)
      where
        at_tests : (a z m u : Bool) →
            (if a then replies true None else if not z then replies false (Some (Busy (v.states p).inst)) else if not m then replies true None else if not u then replies false (Some (unable_cause (v.states p).up)) else joins) ≡ joins →
            ◌≡◌ {A = List Act} (Keep ∷ []) (if a then [] else if not z then [] else if not m then [] else if not u then [] else Keep ∷ [])
        at_tests true z m u e = absurd (cc (e))
        at_tests false false m u e = absurd (cc (e))
        at_tests false true false u e = absurd (cc (e))
        at_tests false true true false e = absurd (cc (e))
        at_tests false true true true e = refl
    hear_acts_save (Reply to willing cause) s = at_tests ((v.states p).inst == k) ((v.states p).inst == 0) (must_take (v.states p).calls q label) (able && (v.states p).up) s.1
      where
        at_tests : (a z m u : Bool) →
            (if a then replies true None else if not z then replies false (Some (Busy (v.states p).inst)) else if not m then replies true None else if not u then replies false (Some (unable_cause (v.states p).up)) else joins) ≡ replies willing cause →
            ◌≡◌ {A = List Act} [] (if a then [] else if not z then [] else if not m then [] else if not u then [] else Keep ∷ [])
        at_tests true z m u e = refl
        at_tests false false m u e = refl
        at_tests false true false u e = refl
        at_tests false true true false e = refl
        at_tests false true true true e = absurd (cc (e))
    hear_acts_save Nothing s = absurd s
    hear_acts_save (Refuse cause) s = absurd s
    hear_acts_save (Settle commit tell) s = absurd s
