-- The calls on a node's tables, as its rows and acts tell them.
use Rattle.std.proofs.Common.{◌≡◌, ◌∙◌, ℕ, ℤ, Bool, true, false, not, Option, Some, None, List, [], ◌∷◌, ◌++◌, refl, sym, ap, ap₂, append_assoc}
use Rattle.std.specs.Prelude.{◌==◌, ◌&&◌, if◌then◌else◌}
use Rattle.std.specs.List.{flat_map}
use Rattle.std.proofs.lemmas.Grind.{flat_map-append}
use Rattle.std.proofs.lemmas.List.{append-nil}
use Rattle.kt_base.specs.declared.words.Verb.TheVariants as verb
use Rattle.kt_meaning.specs.Past.{at_one, is_rollback_kind}
use Rattle.kt_tables.specs.Calls.{Call}
use Rattle.kt_machine.specs.CallTests.{must_take, must_roll}
use Rattle.kt_machine.specs.SeenJoining.{no_note}
use Rattle.kt_machine.specs.Values.{Act, closing as acts_of_closing}
use Rattle.kt_spacetime.specs.declared.names.InstName.{InstName}
use Rattle.kt_spacetime.specs.declared.named_rows.NamedCause.TheVariants.{Down}
use Rattle.kt_spacetime.specs.declared.named_rows.NamedEvent.{NamedEvent}
use Rattle.kt_spacetime.specs.declared.named_rows.NamedEvent.TheVariants.{Dropped, Decided, Closed}
use Rattle.kt_manager.specs.declared.parcels.NodeParcel.{NodeParcel}
use Rattle.kt_manager.specs.declared.parcels.NodeParcel.TheVariants.{App, Ask, Reply, Decide}
use Rattle.kt_manager.specs.Nodes.{NodeState, Doing, nothing, is_in_rollback}
use Rattle.kt_node.specs.Inputs.{Input, Send, Begin, Fail, Held, Comes}
use Rattle.kt_manager.specs.NodeMessages.{sending, receiving, arriving, taking_held, refusing}
use Rattle.kt_manager.specs.NodeJoining.{beginning, joining_checkpoint, joining_rollback}
use Rattle.kt_node.specs.NodeSteps.{next_name, asking, awaits, heeds, taking, is_step, node_after}
use Rattle.kt_manager.specs.NodeClosing.{after_checkpoint, after_rollback, closing, ending, settling}
use Rattle.kt_manager.specs.NodeSteps.{is_one, starting, told_to_begin, asked, counting}
use Rattle.kt_node.specs.NodeHistories.{call_of_row, call_of_act, calls_told}

-- what was done tells the calls that were made since this list
abbrev pub Tells : List Call → Doing → Type 0
Tells calls d = d.state.calls ≡ calls ++ calls_told d.rows d.acts

-- more rows that tell none, and more acts
told_more : (rows more : List NamedEvent) (acts rest : List Act) → flat_map call_of_row more ≡ [] → calls_told (rows ++ more) (acts ++ rest) ≡ calls_told rows acts ++ flat_map call_of_act rest
told_more rows more acts rest e =
    ap₂ (λ (a b : List Call). a ++ b) (flat_map-append call_of_row rows more ∙ (ap (λ (l : List Call). flat_map call_of_row rows ++ l) e ∙ append-nil (flat_map call_of_row rows))) (flat_map-append call_of_act acts rest)
    ∙ sym (append_assoc (flat_map call_of_row rows) (flat_map call_of_act acts) (flat_map call_of_act rest))

told_rows : (rows more : List NamedEvent) (acts : List Act) → flat_map call_of_row more ≡ [] → calls_told (rows ++ more) acts ≡ calls_told rows acts
told_rows rows more acts e = ap (λ (l : List Call). l ++ flat_map call_of_act acts) (flat_map-append call_of_row rows more ∙ (ap (λ (l : List Call). flat_map call_of_row rows ++ l) e ∙ append-nil (flat_map call_of_row rows)))

-- none is made
no_call : (calls : List Call) → calls ≡ calls ++ []
no_call calls = sym (append-nil calls)

after_calls : (y : NodeState) (roll c : Bool) → (if roll then after_rollback c y else after_checkpoint c y).calls ≡ y.calls ++ flat_map call_of_act (acts_of_closing roll c)
after_calls y true true = refl
after_calls y true false = no_call y.calls
after_calls y false true = refl
after_calls y false false = refl

closing_tells : (calls : List Call) (k : InstName) (c : Bool) (d : Doing) → Tells calls d → Tells calls (closing k c d)
closing_tells calls k c d h =
    after_calls d.state d.state.part.is_rollback c
    ∙ (ap (λ (l : List Call). l ++ flat_map call_of_act (acts_of_closing d.state.part.is_rollback c)) h
    ∙ (append_assoc calls (calls_told d.rows d.acts) (flat_map call_of_act (acts_of_closing d.state.part.is_rollback c))
    ∙ ap (λ (l : List Call). calls ++ l) (sym (told_more d.rows (Closed k ∷ []) d.acts (acts_of_closing d.state.part.is_rollback c) refl))))

ending_tells : (calls : List Call) (k : InstName) (o : Option ℕ) (d : Doing) → Tells calls d → Tells calls (ending k o d)
ending_tells calls k (Some to) d h = h
ending_tells calls k None d h =
    closing_tells calls k d.state.part.willing (record d { rows = d.rows ++ Decided k d.state.part.willing ∷ [] })
    (h ∙ ap (λ (l : List Call). calls ++ l) (sym (told_rows d.rows (Decided k d.state.part.willing ∷ []) d.acts refl)))

settling_tells : (calls : List Call) (k : InstName) (d : Doing) → Tells calls d → Tells calls (settling k d)
settling_tells calls k d h = at_zero (d.state.part.awaited == 0)
  where
    at_zero : (b : Bool) → Tells calls (if b then ending k d.state.part.parent d else d)
    at_zero true = ending_tells calls k d.state.part.parent d h
    at_zero false = h

either_tells : (calls : List Call) (b : Bool) (d e : Doing) → Tells calls d → Tells calls e → Tells calls (if b then d else e)
either_tells calls true d e f g = f
either_tells calls false d e f g = g

arriving_tells : (y : NodeState) (q label : ℕ) (body : ℤ) → Tells y.calls (arriving y q label body)
arriving_tells y q label body = either_tells y.calls y.up (receiving y q label body) (record (nothing y) { rows = Dropped q label ∷ [] }) refl (no_call y.calls)

held_tells : (y : NodeState) (q : ℕ) (l : List NodeParcel) → Tells y.calls (taking_held y q l)
held_tells y q [] = no_call y.calls
held_tells y q (App label body ∷ rest) = arriving_tells (record y { held = at_one q rest y.held }) q label body
held_tells y q (Ask k kind label ∷ rest) = no_call y.calls
held_tells y q (Reply k w ∷ rest) = no_call y.calls
held_tells y q (Decide k c ∷ rest) = no_call y.calls

module _ (y : NodeState) where
  none : y.calls ≡ y.calls ++ []
  none = no_call y.calls

  starting_tells : (roll : Bool) → Tells y.calls (starting (next_name y) y roll)
  starting_tells false = settling_tells y.calls (next_name y) (joining_checkpoint (next_name y) None (beginning (next_name y) y false)) refl
  starting_tells true = settling_tells y.calls (next_name y) (joining_rollback (next_name y) None no_note (beginning (next_name y) y true)) none

  begin_tells : (o : Option InstName) (roll able : Bool) → Tells y.calls (told_to_begin (next_name y) o y roll able)
  begin_tells (Some name) roll able = none
  begin_tells None true able = starting_tells true
  begin_tells None false able = either_tells y.calls (able && y.up) _ _ (starting_tells false) none

  ask_tells : (o : Option InstName) (q : ℕ) (able : Bool) (k : InstName) (roll : Bool) (label : ℕ) → Tells y.calls (asked o y q able k roll label)
  ask_tells (Some name) q able k roll label = either_tells y.calls (is_one name k) _ _ none none
  ask_tells None q able k true label = either_tells y.calls (must_roll y.calls q label) _ _ (settling_tells y.calls k (joining_rollback k (Some q) (at_one q (Some label) no_note) (nothing y)) none) none
  ask_tells None q able k false label = either_tells y.calls (not (must_take y.calls q label)) _ _ none
      (either_tells y.calls (not (able && y.up)) _ _ none (settling_tells y.calls k (joining_checkpoint k (Some q) (nothing y)) refl))

module _ (y : NodeState) where
  parcel_tells : (q : ℕ) (able : Bool) (x : NodeParcel) → Tells y.calls (taking y q able x)
  parcel_tells q able (App label body) = either_tells y.calls (is_in_rollback y) _ _ (none y) (arriving_tells y q label body)
  parcel_tells q able (Ask k kind label) = ask_tells (asking y q k) y.inst q able k (is_rollback_kind (Some kind)) label
  parcel_tells q able (Reply k w) = either_tells y.calls (awaits y q k) _ _ (settling_tells y.calls k (nothing (counting y q w)) (none y)) (none y)
  parcel_tells q able (Decide k c) = either_tells y.calls (heeds y q k) _ _ (closing_tells y.calls k c (nothing y) (none y)) (none y)

  pub step_tells : (x : Input) → Tells y.calls (node_after y x)
  step_tells (Send q body) = either_tells y.calls (is_step y (Send q body)) (if y.up then sending y q body else refusing y verb.Send Down) (nothing y) (either_tells y.calls y.up (sending y q body) (refusing y verb.Send Down) refl (none y)) (none y)
  step_tells (Begin roll able) = begin_tells y y.inst roll able
  step_tells Fail = either_tells y.calls y.up _ _ (none y) (none y)
  step_tells (Held q) = either_tells y.calls (is_in_rollback y) _ _ (none y) (held_tells y q (y.held q))
  step_tells (Comes q able x) = parcel_tells q able x
