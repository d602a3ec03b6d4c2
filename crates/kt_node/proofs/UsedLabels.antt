-- A step of a node uses at most one label, and what it puts has none past the last one that it used.
use Rattle.std.proofs.Common.{◌≡◌, ◌∙◌, ◌≤◌, ◌+◌, ℕ, ℤ, Bool, true, false, not, Option, Some, None, List, [], ◌∷◌, ◌++◌, refl, sym, subst, arith}
use Rattle.std.specs.Prelude.{◌==◌, ◌&&◌, if◌then◌else◌}
use Rattle.kt_base.specs.declared.words.Verb.TheVariants as verb
use Rattle.kt_base.specs.declared.words.Kind.TheVariants.{Checkpoint, Rollback}
use Rattle.kt_meaning.specs.Past.{at_one, is_rollback_kind}
use Rattle.kt_machine.specs.CallTests.{must_take, must_roll, is_asked_in_checkpoint, checkpoint_label, is_asked_in_rollback, rollback_label}
use Rattle.kt_machine.specs.SeenJoining.{no_note}
use Rattle.kt_spacetime.specs.declared.names.InstName.{InstName}
use Rattle.kt_spacetime.specs.declared.named_rows.NamedCause.TheVariants.{Down}
use Rattle.kt_spacetime.specs.declared.named_rows.NamedEvent.TheVariants.{Decided}
use Rattle.kt_manager.specs.declared.parcels.NodeParcel.{NodeParcel}
use Rattle.kt_manager.specs.declared.parcels.NodeParcel.TheVariants.{App, Ask, Reply, Decide}
use Rattle.kt_manager.specs.Nodes.{NodeLists, NodeState, Doing, nothing, putting, is_in_rollback}
use Rattle.kt_node.specs.Inputs.{Input, Send, Begin, Fail, Held, Comes}
use Rattle.kt_manager.specs.NodeMessages.{sending, failing, refusing, taking_held}
use Rattle.kt_manager.specs.NodeJoining.{beginning, joining_checkpoint, joining_rollback}
use Rattle.kt_node.specs.NodeSteps.{next_name, asking, awaits, heeds, taking, is_step, node_after}
use Rattle.kt_manager.specs.NodeClosing.{after_checkpoint, after_rollback, closing, ending, settling}
use Rattle.kt_manager.specs.NodeSteps.{is_one, starting, told_to_begin, asked, counting}

-- parcels whose messages have labels up to this one
abbrev pub IsUpTo : ℕ → NodeParcel → Type 0
IsUpTo most (App label body) = label ≤ most
IsUpTo most (Ask k kind label) = Unit {0}
IsUpTo most (Reply k w) = Unit {0}
IsUpTo most (Decide k c) = Unit {0}

abbrev pub AreUpTo : ℕ → List NodeParcel → Type 0
AreUpTo most [] = Unit {0}
AreUpTo most (x ∷ xs) = IsUpTo most x × AreUpTo most xs

one_more : (most : ℕ) (xs : List NodeParcel) (x : NodeParcel) → AreUpTo most xs → IsUpTo most x → AreUpTo most (xs ++ x ∷ [])
one_more most [] x h e = (e, tt)
one_more most (y ∷ xs) x h e = (h.0, one_more most xs x h.1 e)

puts_more : (most : ℕ) (test : ℕ → Bool) (x : ℕ → NodeParcel) (lists : NodeLists) → ((q : ℕ) → IsUpTo most (x q)) → ((q : ℕ) → AreUpTo most (lists q)) → (q : ℕ) → AreUpTo most (putting test x lists q)
puts_more most test x lists e h q = at_test (test q)
  where
    at_test : (b : Bool) → AreUpTo most (if b then lists q ++ x q ∷ [] else lists q)
    at_test true = one_more most (lists q) (x q) (h q) (e q)
    at_test false = h q

-- this label was the last one that was used, and what was put has no later one
abbrev pub Uses : ℕ → Doing → Type 0
Uses used d = (d.state.used ≡ used) × ((q : ℕ) → AreUpTo used (d.puts q))

either : (used : ℕ) (b : Bool) (d e : Doing) → Uses used d → Uses used e → Uses used (if b then d else e)
either used true d e h k = h
either used false d e h k = k

after_used : (y : NodeState) (roll c : Bool) → (if roll then after_rollback c y else after_checkpoint c y).used ≡ y.used
after_used y true true = refl
after_used y true false = refl
after_used y false c = refl

closing_uses : (used : ℕ) (k : InstName) (c : Bool) (d : Doing) → Uses used d → Uses used (closing k c d)
closing_uses used k c d h = (after_used d.state d.state.part.is_rollback c ∙ h.0, puts_more used d.state.part.asked (λ q. Decide k c) d.puts (λ q. tt) h.1)

ending_uses : (used : ℕ) (k : InstName) (o : Option ℕ) (d : Doing) → Uses used d → Uses used (ending k o d)
ending_uses used k (Some to) d h = (h.0, puts_more used (λ u. u == to) (λ u. Reply k d.state.part.willing) d.puts (λ q. tt) h.1)
ending_uses used k None d h = closing_uses used k d.state.part.willing (record d { rows = d.rows ++ Decided k d.state.part.willing ∷ [] }) h

settling_uses : (used : ℕ) (k : InstName) (d : Doing) → Uses used d → Uses used (settling k d)
settling_uses used k d h = either used (d.state.part.awaited == 0) (ending k d.state.part.parent d) d (ending_uses used k d.state.part.parent d h) h

joins_checkpoint : (used : ℕ) (k : InstName) (parent : Option ℕ) (d : Doing) → Uses used d → Uses used (joining_checkpoint k parent d)
joins_checkpoint used k parent d h = (h.0, puts_more used (is_asked_in_checkpoint d.state.calls) (λ q. Ask k Checkpoint (checkpoint_label d.state.calls q)) d.puts (λ q. tt) h.1)

joins_rollback : (used : ℕ) (k : InstName) (parent : Option ℕ) (noted : ℕ → Option ℕ) (d : Doing) → Uses used d → Uses used (joining_rollback k parent noted d)
joins_rollback used k parent noted d h = (h.0, puts_more used (is_asked_in_rollback d.state.calls) (λ q. Ask k Rollback (rollback_label d.state.calls q)) d.puts (λ q. tt) h.1)

none : (y : NodeState) → Uses y.used (nothing y)
none y = (refl, λ q. tt)

replies : (used : ℕ) (q : ℕ) (k : InstName) (w : Bool) (u : ℕ) → AreUpTo used (putting (λ v. v == q) (λ v. Reply k w) (λ v. []) u)
replies used q k w u = puts_more used (λ v. v == q) (λ v. Reply k w) (λ v. []) (λ v. tt) (λ v. tt) u

module _ (y : NodeState) where
  starting_uses : (roll : Bool) → Uses y.used (starting (next_name y) y roll)
  starting_uses false = settling_uses y.used (next_name y) (joining_checkpoint (next_name y) None (beginning (next_name y) y false)) (joins_checkpoint y.used (next_name y) None (beginning (next_name y) y false) (refl, λ q. tt))
  starting_uses true = settling_uses y.used (next_name y) (joining_rollback (next_name y) None no_note (beginning (next_name y) y true)) (joins_rollback y.used (next_name y) None no_note (beginning (next_name y) y true) (refl, λ q. tt))

  begin_uses : (o : Option InstName) (roll able : Bool) → Uses y.used (told_to_begin (next_name y) o y roll able)
  begin_uses (Some name) roll able = (refl, λ q. tt)
  begin_uses None true able = starting_uses true
  begin_uses None false able = either y.used (able && y.up) _ _ (starting_uses false) (refl, λ q. tt)

  ask_uses : (o : Option InstName) (q : ℕ) (able : Bool) (k : InstName) (roll : Bool) (label : ℕ) → Uses y.used (asked o y q able k roll label)
  ask_uses (Some name) q able k roll label = either y.used (is_one name k) _ _ (refl, replies y.used q k true) (refl, replies y.used q k false)
  ask_uses None q able k true label = either y.used (must_roll y.calls q label) _ _
      (settling_uses y.used k (joining_rollback k (Some q) (at_one q (Some label) no_note) (nothing y)) (joins_rollback y.used k (Some q) (at_one q (Some label) no_note) (nothing y) (none y))) (refl, replies y.used q k true)
  ask_uses None q able k false label = either y.used (not (must_take y.calls q label)) _ _ (refl, replies y.used q k true)
      (either y.used (not (able && y.up)) _ _ (refl, replies y.used q k false) (settling_uses y.used k (joining_checkpoint k (Some q) (nothing y)) (joins_checkpoint y.used k (Some q) (nothing y) (none y))))

  held_uses : (q : ℕ) (l : List NodeParcel) → Uses y.used (taking_held y q l)
  held_uses q [] = none y
  held_uses q (App label body ∷ rest) = either y.used y.up _ _ (refl, λ u. tt) (refl, λ u. tt)
  held_uses q (Ask k kind label ∷ rest) = none y
  held_uses q (Reply k w ∷ rest) = none y
  held_uses q (Decide k c ∷ rest) = none y

module _ (y : NodeState) where
  comes_uses : (q : ℕ) (able : Bool) (x : NodeParcel) → Uses y.used (taking y q able x)
  comes_uses q able (App label body) = either y.used (is_in_rollback y) _ _ (refl, λ u. tt) (either y.used y.up _ _ (refl, λ u. tt) (refl, λ u. tt))
  comes_uses q able (Ask k kind label) = ask_uses (asking y q k) y.inst q able k (is_rollback_kind (Some kind)) label
  comes_uses q able (Reply k w) = either y.used (awaits y q k) _ _ (settling_uses y.used k (nothing (counting y q w)) (refl, λ u. tt)) (none y)
  comes_uses q able (Decide k c) = either y.used (heeds y q k) _ _ (closing_uses y.used k c (nothing y) (none y)) (none y)

  -- the last label may be the next one
  abbrev pub UsesOne : Doing → Type 0
  UsesOne d = (y.used ≤ d.state.used) × (d.state.used ≤ y.used + 1) × ((q : ℕ) → AreUpTo d.state.used (d.puts q))

  no_more : (d : Doing) → Uses y.used d → UsesOne d
  no_more d h = let e : d.state.used ≡ y.used = h.0 in (omega (arith, e), omega (arith, e), λ q. subst (λ (n : ℕ). AreUpTo n (d.puts q)) (sym e) (h.1 q))

  either_one : (b : Bool) (d e : Doing) → UsesOne d → UsesOne e → UsesOne (if b then d else e)
  either_one true d e h k = h
  either_one false d e h k = k

  sends_one : (q : ℕ) (body : ℤ) → UsesOne (sending y q body)
  sends_one q body = (omega arith, omega arith, puts_more (y.used + 1) (λ u. u == q) (λ u. App (y.used + 1) body) (λ u. []) (λ u. omega arith) (λ u. tt))

  pub step_uses : (x : Input) → UsesOne (node_after y x)
  step_uses (Send q body) = either_one (is_step y (Send q body)) _ _ (either_one y.up (sending y q body) (refusing y verb.Send Down) (sends_one q body) (no_more (refusing y verb.Send Down) (refl, λ u. tt))) (no_more (nothing y) (none y))
  step_uses (Begin roll able) = no_more (told_to_begin (next_name y) y.inst y roll able) (begin_uses y y.inst roll able)
  step_uses Fail = either_one y.up (failing y) (refusing y verb.Fail Down) (no_more (failing y) (refl, λ u. tt)) (no_more (refusing y verb.Fail Down) (refl, λ u. tt))
  step_uses (Held q) = either_one (is_in_rollback y) _ _ (no_more (nothing y) (none y)) (no_more (taking_held y q (y.held q)) (held_uses y q (y.held q)))
  step_uses (Comes q able x) = no_more (taking y q able x) (comes_uses q able x)
