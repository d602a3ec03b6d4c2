-- Where a node's step keeps its object's state, and where it counts whether that can be done.
use Rattle.std.proofs.Common.{◌≡◌, ◌∙◌, ℕ, ℤ, zero, suc, ◌<◌, Bool, true, false, not, Option, Some, None, List, [], ◌∷◌, ◌++◌, length, refl, sym, arith}
use Rattle.std.specs.Prelude.{◌==◌, ◌&&◌, ◌↔◌, if◌then◌else◌, is_none, Contains, slice_index_or}
use Rattle.kt_base.specs.declared.words.Verb.TheVariants as verb
use Rattle.kt_meaning.specs.Past.{at_one, is_rollback_kind}
use Rattle.kt_machine.specs.CallTests.{must_take, must_roll}
use Rattle.kt_machine.specs.SeenJoining.{no_note}
use Rattle.kt_machine.specs.Values.{Act, Apply, Keep, Promote, Discard, Restore, Drop, closing as acts_of_closing}
use Rattle.kt_spacetime.specs.declared.names.InstName.{InstName}
use Rattle.kt_manager.specs.declared.parcels.NodeParcel.{NodeParcel}
use Rattle.kt_manager.specs.declared.parcels.NodeParcel.TheVariants.{App, Ask, Reply, Decide}
use Rattle.kt_manager.specs.Nodes.{NodeState, Doing, nothing, is_in_rollback}
use Rattle.kt_node.specs.Inputs.{Input, Send, Begin, Fail, Held, Comes}
use Rattle.kt_manager.specs.NodeMessages.{arriving, taking_held, refusing, unable}
use Rattle.kt_manager.specs.NodeJoining.{beginning, joining_checkpoint, joining_rollback, replying, unwilling}
use Rattle.kt_node.specs.NodeSteps.{next_name, asking, awaits, heeds, taking, is_step, node_after}
use Rattle.kt_manager.specs.NodeClosing.{ending, settling}
use Rattle.kt_manager.specs.NodeSteps.{is_one, starting, told_to_begin, asked, counting}
use Rattle.kt_node.specs.NodeLooks.{where_able, asks_to_save, would_save}

-- whether the object's state is kept among some acts
abbrev pub keeps : List Act → Bool
keeps [] = false
keeps (Keep ∷ acts) = true
keeps (Apply from body ∷ acts) = keeps acts
keeps (Promote ∷ acts) = keeps acts
keeps (Discard ∷ acts) = keeps acts
keeps (Restore ∷ acts) = keeps acts
keeps (Drop ∷ acts) = keeps acts

later_on : (a : Act) (acts : List Act) → (a ≡ Keep → ⊥) → Contains (a ∷ acts) Keep → Contains acts Keep
later_on a acts n h = at_place h.0 h.1 h.2
  where
    at_place : (k : ℕ) → k < length (a ∷ acts) → slice_index_or (a ∷ acts) k Keep ≡ Keep → Contains acts Keep
    at_place zero b e = absurd (n e)
    at_place (suc k) b e = (k, omega arith, e)

one_on : (a : Act) (acts : List Act) → Contains acts Keep → Contains (a ∷ acts) Keep
one_on a acts h = let b : h.0 < length acts = h.1 in (suc h.0, omega arith, h.2)

pub kept_in : (acts : List Act) → Contains acts Keep → keeps acts ≡ true
kept_in [] h = absurd (let b : h.0 < 0 = h.1 in omega arith)
kept_in (Keep ∷ acts) h = refl
kept_in (Apply from body ∷ acts) h = kept_in acts (later_on (Apply from body) acts (λ e. cc) h)
kept_in (Promote ∷ acts) h = kept_in acts (later_on Promote acts (λ e. cc) h)
kept_in (Discard ∷ acts) h = kept_in acts (later_on Discard acts (λ e. cc) h)
kept_in (Restore ∷ acts) h = kept_in acts (later_on Restore acts (λ e. cc) h)
kept_in (Drop ∷ acts) h = kept_in acts (later_on Drop acts (λ e. cc) h)

pub in_kept : (acts : List Act) → keeps acts ≡ true → Contains acts Keep
in_kept [] e = absurd (cc (e))
in_kept (Keep ∷ acts) e = (zero, omega arith, refl)
in_kept (Apply from body ∷ acts) e = one_on (Apply from body) acts (in_kept acts e)
in_kept (Promote ∷ acts) e = one_on Promote acts (in_kept acts e)
in_kept (Discard ∷ acts) e = one_on Discard acts (in_kept acts e)
in_kept (Restore ∷ acts) e = one_on Restore acts (in_kept acts e)
in_kept (Drop ∷ acts) e = one_on Drop acts (in_kept acts e)

keeps_more : (acts more : List Act) → keeps more ≡ false → keeps (acts ++ more) ≡ keeps acts
keeps_more [] more e = e
keeps_more (Keep ∷ acts) more e = refl
keeps_more (Apply from body ∷ acts) more e = keeps_more acts more e
keeps_more (Promote ∷ acts) more e = keeps_more acts more e
keeps_more (Discard ∷ acts) more e = keeps_more acts more e
keeps_more (Restore ∷ acts) more e = keeps_more acts more e
keeps_more (Drop ∷ acts) more e = keeps_more acts more e

closing_keeps : (roll c : Bool) → keeps (acts_of_closing roll c) ≡ false
closing_keeps true true = refl
closing_keeps true false = refl
closing_keeps false true = refl
closing_keeps false false = refl

ending_keeps : (k : InstName) (o : Option ℕ) (d : Doing) → keeps (ending k o d).acts ≡ keeps d.acts
ending_keeps k (Some to) d = refl
ending_keeps k None d = keeps_more d.acts (acts_of_closing d.state.part.is_rollback d.state.part.willing) (closing_keeps d.state.part.is_rollback d.state.part.willing)

settling_keeps : (k : InstName) (d : Doing) → keeps (settling k d).acts ≡ keeps d.acts
settling_keeps k d = at_zero (d.state.part.awaited == 0)
  where
    at_zero : (b : Bool) → keeps (if b then ending k d.state.part.parent d else d).acts ≡ keeps d.acts
    at_zero true = ending_keeps k d.state.part.parent d
    at_zero false = refl

none_kept : (b : Bool) (d e : Doing) → keeps d.acts ≡ false → keeps e.acts ≡ false → keeps (if b then d else e).acts ≡ false
none_kept true d e f g = f
none_kept false d e f g = g

no_one : (a b c : Bool) → false ≡ (((a && b) && false) && c)
no_one true true c = refl
no_one true false c = refl
no_one false b c = refl

arriving_keeps : (y : NodeState) (q label : ℕ) (body : ℤ) → keeps (arriving y q label body).acts ≡ false
arriving_keeps y q label body = none_kept y.up _ _ refl refl

taking_held_keeps : (y : NodeState) (q : ℕ) (l : List NodeParcel) → keeps (taking_held y q l).acts ≡ false
taking_held_keeps y q [] = refl
taking_held_keeps y q (App label body ∷ rest) = arriving_keeps (record y { held = at_one q rest y.held }) q label body
taking_held_keeps y q (Ask k kind label ∷ rest) = refl
taking_held_keeps y q (Reply k w ∷ rest) = refl
taking_held_keeps y q (Decide k c ∷ rest) = refl

module _ (y : NodeState) where
  begin_keeps : (o : Option InstName) (roll able : Bool) → keeps (told_to_begin (next_name y) o y roll able).acts ≡ (((is_none o && y.up) && not roll) && able)
  begin_keeps (Some name) roll able = refl
  begin_keeps None true able = settling_keeps (next_name y) (joining_rollback (next_name y) None no_note (beginning (next_name y) y true)) ∙ no_one true y.up able
  begin_keeps None false able = at_tests able y.up
    where
      at_tests : (a u : Bool) → keeps (if a && u then starting (next_name y) y false else refusing y verb.Checkpoint (unable u)).acts ≡ (((true && u) && true) && a)
      at_tests true true = settling_keeps (next_name y) (joining_checkpoint (next_name y) None (beginning (next_name y) y false))
      at_tests true false = refl
      at_tests false true = refl
      at_tests false false = refl

  ask_keeps : (o : Option InstName) (q : ℕ) (able : Bool) (k : InstName) (roll : Bool) (label : ℕ) → keeps (asked o y q able k roll label).acts ≡ (((is_none o && y.up) && (not roll && must_take y.calls q label)) && able)
  ask_keeps (Some name) q able k roll label = none_kept (is_one name k) _ _ refl refl
  ask_keeps None q able k true label = none_kept (must_roll y.calls q label) _ _ (settling_keeps k (joining_rollback k (Some q) (at_one q (Some label) no_note) (nothing y))) refl ∙ no_one true y.up able
  ask_keeps None q able k false label = at_tests (must_take y.calls q label) able y.up
    where
      at_tests : (m a u : Bool) → keeps (if not m then replying y q k true else if not (a && u) then unwilling y q k (unable u) else settling k (joining_checkpoint k (Some q) (nothing y))).acts ≡ (((true && u) && (true && m)) && a)
      at_tests true true true = settling_keeps k (joining_checkpoint k (Some q) (nothing y))
      at_tests true true false = refl
      at_tests true false true = refl
      at_tests true false false = refl
      at_tests false a true = refl
      at_tests false a false = refl

  -- whether it can be saved
  begin_counts : (o : Option InstName) (roll a b : Bool) → ((is_none o && y.up) && not roll) ≡ false → told_to_begin (next_name y) o y roll a ≡ told_to_begin (next_name y) o y roll b
  begin_counts (Some name) roll a b e = refl
  begin_counts None true a b e = refl
  begin_counts None false a b e = at_test y.up a b e
    where
      at_test : (u a b : Bool) → ((true && u) && true) ≡ false → (if a && u then starting (next_name y) y false else refusing y verb.Checkpoint (unable u)) ≡ (if b && u then starting (next_name y) y false else refusing y verb.Checkpoint (unable u))
      at_test true a b e = absurd (cc (e))
      at_test false true true e = refl
      at_test false true false e = refl
      at_test false false true e = refl
      at_test false false false e = refl

  ask_counts : (o : Option InstName) (q : ℕ) (k : InstName) (roll : Bool) (label : ℕ) (a b : Bool) → ((is_none o && y.up) && (not roll && must_take y.calls q label)) ≡ false → asked o y q a k roll label ≡ asked o y q b k roll label
  ask_counts (Some name) q k roll label a b e = refl
  ask_counts None q k true label a b e = refl
  ask_counts None q k false label a b e = at_tests (must_take y.calls q label) y.up a b e
    where
      at_tests : (m u a b : Bool) → ((true && u) && (true && m)) ≡ false →
          (if not m then replying y q k true else if not (a && u) then unwilling y q k (unable u) else settling k (joining_checkpoint k (Some q) (nothing y)))
          ≡ (if not m then replying y q k true else if not (b && u) then unwilling y q k (unable u) else settling k (joining_checkpoint k (Some q) (nothing y)))
      at_tests false u a b e = refl
      at_tests true true a b e = absurd (cc (e))
      at_tests true false true true e = refl
      at_tests true false true false e = refl
      at_tests true false false true e = refl
      at_tests true false false false e = refl

module _ (y : NodeState) where
  parcel_keeps : (q : ℕ) (able : Bool) (x : NodeParcel) → keeps (taking y q able x).acts ≡ (((is_none y.inst && y.up) && asks_to_save y q x) && able)
  parcel_keeps q able (App label body) = none_kept (is_in_rollback y) _ _ refl (arriving_keeps y q label body) ∙ no_one (is_none y.inst) y.up able
  parcel_keeps q able (Ask k kind label) = ask_keeps (asking y q k) y.inst q able k (is_rollback_kind (Some kind)) label
  parcel_keeps q able (Reply k w) = none_kept (awaits y q k) _ _ (settling_keeps k (nothing (counting y q w))) refl ∙ no_one (is_none y.inst) y.up able
  parcel_keeps q able (Decide k c) = none_kept (heeds y q k) _ _ (closing_keeps y.part.is_rollback c) refl ∙ no_one (is_none y.inst) y.up able

  pub keeps_is : (x : Input) (able : Bool) → keeps (node_after y (where_able able x)).acts ≡ (would_save y x && able)
  keeps_is (Send q body) able = none_kept (is_step y (Send q body)) _ _ (none_kept y.up _ _ refl refl) refl
  keeps_is (Begin roll was) able = begin_keeps y y.inst roll able
  keeps_is Fail able = none_kept y.up _ _ refl refl
  keeps_is (Held q) able = none_kept (is_in_rollback y) _ _ refl (taking_held_keeps y q (y.held q))
  keeps_is (Comes q was x) able = parcel_keeps q able x

  parcel_counts : (q : ℕ) (x : NodeParcel) (a b : Bool) → ((is_none y.inst && y.up) && asks_to_save y q x) ≡ false → taking y q a x ≡ taking y q b x
  parcel_counts q (App label body) a b e = refl
  parcel_counts q (Ask k kind label) a b e = ask_counts (asking y q k) y.inst q k (is_rollback_kind (Some kind)) label a b e
  parcel_counts q (Reply k w) a b e = refl
  parcel_counts q (Decide k c) a b e = refl

  pub counts_is : (x : Input) (a b : Bool) → would_save y x ≡ false → node_after y (where_able a x) ≡ node_after y (where_able b x)
  counts_is (Send q body) a b e = refl
  counts_is (Begin roll was) a b e = begin_counts y y.inst roll a b e
  counts_is Fail a b e = refl
  counts_is (Held q) a b e = refl
  counts_is (Comes q was x) a b e = parcel_counts q x a b e

  both_are : (a b : Bool) → (a && b) ≡ true → (a ≡ true) × (b ≡ true)
  both_are true true e = (refl, refl)
  both_are true false e = absurd (cc (e))
  both_are false b e = absurd (cc (e))

  and_are : (a b : Bool) → a ≡ true → b ≡ true → (a && b) ≡ true
  and_are a b e f = rw (e, f) refl

  pub keeps_where : (x : Input) (able : Bool) → (Contains (node_after y (where_able able x)).acts Keep) ↔ ((would_save y x ≡ true) × (able ≡ true))
  keeps_where x able = (
    λ h. both_are (would_save y x) able (sym (keeps_is x able) ∙ kept_in (node_after y (where_able able x)).acts h),
    λ h. in_kept (node_after y (where_able able x)).acts (keeps_is x able ∙ and_are (would_save y x) able h.0 h.1),
  )
