-- The acts of a node's object are those of what is seen.
use Rattle.std.proofs.Common.{◌≡◌, ◌∙◌, ℕ, ℤ, ◌≤◌, Bool, true, false, not, Option, Some, None, List, [], ◌∷◌, ◌++◌, refl, sym, ap, arith}
use Rattle.std.specs.Prelude.{◌==◌, ◌&&◌, if◌then◌else◌}
use Rattle.std.proofs.lemmas.Bool.Decides.{nat_tests}
use Rattle.std.proofs.lemmas.List.{append-nil}
use Rattle.kt_meaning.specs.Past.{at_one}
use Rattle.kt_tables.specs.Peers.{count_peers}
use Rattle.kt_machine.specs.CallTests.{must_take, must_roll, is_asked_in_checkpoint, is_asked_in_rollback}
use Rattle.kt_machine.specs.Seen.{Seen, SeenPart}
use Rattle.kt_machine.specs.SeenJoining.{no_note}
use Rattle.kt_machine.specs.SeenReplies.{part_after_reply}
use Rattle.kt_machine.specs.Transition.{is_seen_ready}
use Rattle.kt_machine.specs.Values.{Act, Keep, Drop, closing as acts_of_closing}
use Rattle.kt_machine.specs.SeenActs.{seen_acts_arriving, seen_acts_ending, seen_acts_settling, seen_acts_asked, seen_acts_replied, seen_acts_decided, seen_acts_beginning, seen_acts_starting}
use Rattle.kt_spacetime.specs.declared.names.InstName.{InstName}
use Rattle.kt_manager.specs.declared.parcels.NodeParcel.TheVariants as put
use Rattle.kt_manager.specs.Nodes.{NodeState, Doing, nothing, is_in_rollback}
use Rattle.kt_node.specs.Inputs as input
use Rattle.kt_manager.specs.NodeMessages.{arriving}
use Rattle.kt_manager.specs.NodeJoining.{beginning, joining_checkpoint, joining_rollback}
use Rattle.kt_node.specs.NodeSteps.{next_name, awaits, heeds, taking, is_step, node_after}
use Rattle.kt_manager.specs.NodeClosing.{ending, settling}
use Rattle.kt_manager.specs.NodeSteps.{starting, told_to_begin, asked_outside, asked, counting}
use Rattle.kt_node.specs.Nets.{Net}
use Rattle.kt_node.proofs.Done.{IsDone}
use Rattle.kt_node.proofs.Takings.{MayHeed, heed_test, await_test, ready_test}

-- either way
pub acts_if : (b c : Bool) (d e : Doing) (x z : List Act) → b ≡ c → d.acts ≡ x → e.acts ≡ z → (if b then d else e).acts ≡ (if c then x else z)
acts_if true true d e x z r f g = f
acts_if false false d e x z r f g = g
acts_if true false d e x z r f g = absurd (cc)
acts_if false true d e x z r f g = absurd (cc)

pub acts_none : (b : Bool) (d e : Doing) (x : List Act) → d.acts ≡ x → e.acts ≡ x → (if b then d else e).acts ≡ x
acts_none true d e x f g = f
acts_none false d e x f g = g

same_list : (b : Bool) (x : List Act) → x ≡ (if b then x else x)
same_list true x = refl
same_list false x = refl

-- who awaits nobody ends
acts_ending : (k : InstName) (o : Option ℕ) (d : Doing) → (ending k o d).acts ≡ d.acts ++ seen_acts_ending d.state.part o
acts_ending k (Some to) d = sym (append-nil d.acts)
acts_ending k None d = refl

acts_settling : (k : InstName) (d : Doing) → (settling k d).acts ≡ d.acts ++ seen_acts_settling d.state.part
acts_settling k d = at_zero (d.state.part.awaited == 0)
  where
    at_zero : (b : Bool) → (if b then ending k d.state.part.parent d else d).acts ≡ d.acts ++ (if b then seen_acts_ending d.state.part d.state.part.parent else [])
    at_zero true = acts_ending k d.state.part.parent d
    at_zero false = sym (append-nil d.acts)

-- who has a parent does nothing then
parent_none : (part : SeenPart) (q : ℕ) → part.parent ≡ Some q → seen_acts_settling part ≡ []
parent_none part q e = at_zero (part.awaited == 0)
  where
    at_zero : (b : Bool) → (if b then seen_acts_ending part part.parent else []) ≡ []
    at_zero true = ap (seen_acts_ending part) e
    at_zero false = refl

module _ (name : ℕ → InstName) (first : ℕ) (w : Net) (p : ℕ) (count : ℕ → ℕ) (y : NodeState) (v : Seen) (h : IsDone name first w p count (nothing y) v) (within : (v.states p).inst ≤ v.begun) where
  pub acts_arriving : (q label : ℕ) (body : ℤ) → (arriving y q label body).acts ≡ seen_acts_arriving v p q body
  acts_arriving q label body = acts_if y.up (v.states p).up _ _ _ _ (ap (λ (x : NodeState). x.up) h.state) refl refl

  -- commands
  starts : (roll : Bool) → (starting (next_name y) y roll).acts ≡ seen_acts_beginning v p roll
  starts false = acts_settling (next_name y) (joining_checkpoint (next_name y) None (beginning (next_name y) y false))
      ∙ ap (λ (x : NodeState). Keep ∷ (if count_peers x.processes (is_asked_in_checkpoint x.calls) == 0 then acts_of_closing false true else [])) h.state
  starts true = acts_settling (next_name y) (joining_rollback (next_name y) None no_note (beginning (next_name y) y true))
      ∙ ap (λ (x : NodeState). if count_peers x.processes (is_asked_in_rollback x.calls) == 0 then acts_of_closing true true else []) h.state

  begins : (roll able : Bool) → (told_to_begin (next_name y) None y roll able).acts ≡ seen_acts_starting v p roll able
  begins true able = starts true
  begins false able = acts_if (able && y.up) (able && (v.states p).up) _ _ _ _ (ap (λ (x : NodeState). able && x.up) h.state) (starts false) refl

  pub acts_begin : (roll able : Bool) → (node_after y (input.Begin roll able)).acts ≡ (if (v.states p).inst == 0 then seen_acts_starting v p roll able else [])
  acts_begin roll able = ap (λ (x : NodeState). (told_to_begin (next_name y) x.inst y roll able).acts) h.state ∙ at_inst ((v.states p).inst == 0)
    where
      at_inst : (b : Bool) → (told_to_begin (next_name y) (if b then None else Some (name (v.states p).inst)) y roll able).acts ≡ (if b then seen_acts_starting v p roll able else [])
      at_inst true = begins roll able
      at_inst false = refl

  pub acts_fail : (node_after y input.Fail).acts ≡ (if (v.states p).up then Drop ∷ [] else [])
  acts_fail = acts_if y.up (v.states p).up _ _ _ _ (ap (λ (x : NodeState). x.up) h.state) refl refl

  pub acts_send : (q : ℕ) (body : ℤ) → (node_after y (input.Send q body)).acts ≡ []
  acts_send q body = acts_none (is_step y (input.Send q body)) _ _ [] (acts_none y.up _ _ [] refl refl) refl

  -- parcels
  pub acts_message : (q : ℕ) (able : Bool) (label : ℕ) (body : ℤ) → (taking y q able (put.App label body)).acts ≡ (if is_seen_ready v p then [] else seen_acts_arriving v p q body)
  acts_message q able label body = acts_if (is_in_rollback y) (is_seen_ready v p) _ _ _ _ (ready_test name first w p count y v h within) refl (acts_arriving q label body)

  outside : (q : ℕ) (able : Bool) (k : InstName) (roll : Bool) (label : ℕ) → (asked_outside y q able k roll label).acts
      ≡ (if roll then [] else if not (must_take (v.states p).calls q label) then [] else if not (able && (v.states p).up) then [] else Keep ∷ [])
  outside q able k true label = acts_none (must_roll y.calls q label) _ _ [] (acts_settling k (joining_rollback k (Some q) (at_one q (Some label) no_note) (nothing y)) ∙ parent_none (joining_rollback k (Some q) (at_one q (Some label) no_note) (nothing y)).state.part q refl) refl
  outside q able k false label = acts_if (not (must_take y.calls q label)) (not (must_take (v.states p).calls q label)) _ _ _ _ (ap (λ (x : NodeState). not (must_take x.calls q label)) h.state) refl
      (acts_if (not (able && y.up)) (not (able && (v.states p).up)) _ _ _ _ (ap (λ (x : NodeState). not (able && x.up)) h.state) refl
      (acts_settling k (joining_checkpoint k (Some q) (nothing y)) ∙ ap (λ (l : List Act). Keep ∷ l) (parent_none (joining_checkpoint k (Some q) (nothing y)).state.part q refl)))

  pub acts_ask : (q : ℕ) (able : Bool) (k : ℕ) (roll : Bool) (label : ℕ) → 1 ≤ k → (asked y.inst y q able (name k) roll label).acts ≡ seen_acts_asked v p q able k roll label
  acts_ask q able k roll label low = ap (λ (x : NodeState). (asked x.inst y q able (name k) roll label).acts) h.state ∙ at_zero ((v.states p).inst == 0) refl
    where
      other : ((v.states p).inst == 0) ≡ true → ((v.states p).inst == k) ≡ false
      other e = grind (arith, nat_tests, e, low)

      third : (a b : Bool) (x : List Act) → a ≡ false → b ≡ true → x ≡ (if a then [] else if not b then [] else x)
      third true b x e f = absurd (cc)
      third false true x e f = refl
      third false false x e f = absurd (cc)

      first_two : (a b : Bool) (x : List Act) → b ≡ false → [] ≡ (if a then [] else if not b then [] else x)
      first_two true b x e = refl
      first_two false false x e = refl
      first_two false true x e = absurd (cc)

      at_zero : (b : Bool) → ((v.states p).inst == 0) ≡ b → (asked (if b then None else Some (name (v.states p).inst)) y q able (name k) roll label).acts ≡ seen_acts_asked v p q able k roll label
      at_zero true e = outside q able (name k) roll label ∙ third ((v.states p).inst == k) ((v.states p).inst == 0) _ (other e) e
      at_zero false e = acts_none _ _ _ [] refl refl ∙ first_two ((v.states p).inst == k) ((v.states p).inst == 0) _ e

  pub acts_reply : (q : ℕ) (able : Bool) (k : ℕ) (b : Bool) → 1 ≤ k → (v.states p).inst ≡ k → (v.states p).part.asked q ≡ true → y.answered q ≡ false → (taking y q able (put.Reply (name k) b)).acts ≡ seen_acts_replied v p b
  acts_reply q able k b low o asked fresh = swap (awaits y q (name k)) ((v.states p).part.awaited == 0) _ _ _ (await_test name first w p count y v h within q k low o asked fresh)
      (acts_settling (name k) (nothing (counting y q b)) ∙ ap (λ (x : NodeState). seen_acts_settling (part_after_reply x.part b)) h.state) refl
    where
      swap : (a c : Bool) (d e : Doing) (x : List Act) → a ≡ not c → d.acts ≡ x → (e.acts ≡ []) → (if a then d else e).acts ≡ (if c then [] else x)
      swap true false d e x r f g = f
      swap false true d e x r f g = g
      swap true true d e x r f g = absurd (cc)
      swap false false d e x r f g = absurd (cc)

  pub acts_decision : (q : ℕ) (able : Bool) (k : ℕ) (c : Bool) → 1 ≤ k → k ≤ v.begun → MayHeed name p y v q k → (taking y q able (put.Decide (name k) c)).acts ≡ seen_acts_decided v p k c
  acts_decision q able k c low high a = acts_if (heeds y q (name k)) ((v.states p).inst == k) _ _ _ _ (heed_test name first w p count y v h within q k low high a) (ap (λ (x : NodeState). acts_of_closing x.part.is_rollback c) h.state) refl
