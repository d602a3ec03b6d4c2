-- A node stays the same process's, and whom it answers is a process that there is.
use Rattle.std.proofs.Common.{◌≡◌, ℕ, ℤ, Bool, true, false, not, Option, Some, None, List, [], ◌∷◌, ◌++◌, refl, nat_lt}
use Rattle.std.specs.Prelude.{◌==◌, ◌&&◌, if◌then◌else◌}
use Rattle.kt_meaning.specs.Past.{at_one, is_rollback_kind}
use Rattle.kt_machine.specs.CallTests.{must_take, must_roll}
use Rattle.kt_machine.specs.SeenJoining.{no_note}
use Rattle.kt_spacetime.specs.declared.names.InstName.{InstName}
use Rattle.kt_spacetime.specs.declared.named_rows.NamedEvent.TheVariants.{Dropped, Decided}
use Rattle.kt_spacetime.specs.declared.named_rows.NamedCause.TheVariants.{Down, Busy}
use Rattle.kt_base.specs.declared.words.Verb.TheVariants as verb
use Rattle.kt_manager.specs.declared.parcels.NodeParcel.{NodeParcel}
use Rattle.kt_manager.specs.declared.parcels.NodeParcel.TheVariants.{App, Ask, Reply, Decide}
use Rattle.kt_manager.specs.Nodes.{NodeState, Doing, nothing, is_in_rollback}
use Rattle.kt_node.specs.Inputs.{Input, Send, Begin, Fail, Held, Comes}
use Rattle.kt_manager.specs.NodeMessages.{sending, receiving, arriving, holding, taking_held, failing, refusing, unable}
use Rattle.kt_manager.specs.NodeJoining.{beginning, joining_checkpoint, joining_rollback, replying, unwilling, noting}
use Rattle.kt_node.specs.NodeSteps.{next_name, asking, awaits, heeds, taking, is_step, node_after}
use Rattle.kt_manager.specs.NodeClosing.{after_checkpoint, after_rollback, closing, ending, settling}
use Rattle.kt_manager.specs.NodeSteps.{is_one, starting, told_to_begin, asked, counting}
use Rattle.kt_kills.proofs.PlainSteps.{from_of, either}

-- the one that it answers, if there is one, is one of so many
abbrev pub IsBelow : ℕ → Option ℕ → Type 0
IsBelow n o = (q : ℕ) → o ≡ Some q → nat_lt q n ≡ true

-- p's node, where there are so many processes: whom it answers is one of them
abbrev pub IsOwn : ℕ → ℕ → NodeState → Type 0
IsOwn n p y = (y.processes ≡ n) × (y.me ≡ p) × IsBelow n y.part.parent

pub nobody : (n : ℕ) → IsBelow n None
nobody n q e = absurd (cc)

module _ (n p : ℕ) where
  abbrev pub Ends : Doing → Type 0
  Ends d = IsOwn n p d.state

  closed : (k : InstName) (c : Bool) (d : Doing) → Ends d → Ends (closing k c d)
  closed k c d h = either (IsOwn n p) d.state.part.is_rollback (after_rollback c d.state) (after_checkpoint c d.state) (rolled c) (h.0, h.1, nobody n)
    where
      rolled : (b : Bool) → IsOwn n p (after_rollback b d.state)
      rolled true = (h.0, h.1, nobody n)
      rolled false = (h.0, h.1, nobody n)

  ends : (k : InstName) (o : Option ℕ) (d : Doing) → Ends d → Ends (ending k o d)
  ends k (Some to) d h = h
  ends k None d h = closed k d.state.part.willing (record d { rows = d.rows ++ Decided k d.state.part.willing ∷ [] }) h

  settles : (k : InstName) (d : Doing) → Ends d → Ends (settling k d)
  settles k d h = either Ends (d.state.part.awaited == 0) (ending k d.state.part.parent d) d (ends k d.state.part.parent d h) h

  module _ (y : NodeState) (h : IsOwn n p y) where
    arrives : (q label : ℕ) (body : ℤ) → Ends (arriving y q label body)
    arrives q label body = either Ends y.up (receiving y q label body) (record (nothing y) { rows = Dropped q label ∷ [] }) h h

    begins : (o : Option InstName) (roll able : Bool) → Ends (told_to_begin (next_name y) o y roll able)
    begins (Some name) roll able = h
    begins None true able = settles (next_name y) (joining_rollback (next_name y) None no_note (beginning (next_name y) y true)) (h.0, h.1, nobody n)
    begins None false able = either Ends (able && y.up) (starting (next_name y) y false) (refusing y verb.Checkpoint (unable y.up))
        (settles (next_name y) (joining_checkpoint (next_name y) None (beginning (next_name y) y false)) (h.0, h.1, nobody n)) h

    hears : (q : ℕ) → nat_lt q n ≡ true → (o : Option InstName) (able : Bool) (k : InstName) (roll : Bool) (label : ℕ) → Ends (asked o y q able k roll label)
    hears q from (Some name) able k roll label = either Ends (is_one name k) (replying (noting y roll q label) q k true) (unwilling y q k (Busy name)) (noted roll) h
      where
        noted : (r : Bool) → Ends (replying (noting y r q label) q k true)
        noted true = h
        noted false = h
    hears q from None able k true label = either Ends (must_roll y.calls q label) (settling k (joining_rollback k (Some q) (at_one q (Some label) no_note) (nothing y))) (replying y q k true)
        (settles k (joining_rollback k (Some q) (at_one q (Some label) no_note) (nothing y)) (h.0, h.1, asker)) h
      where
        asker : IsBelow n (Some q)
        asker u e = cc (e, from)
    hears q from None able k false label = go (not (must_take y.calls q label)) (not (able && y.up))
      where
        asker : IsBelow n (Some q)
        asker u e = cc (e, from)

        go : (a b : Bool) → Ends (if a then replying y q k true else if b then unwilling y q k (unable y.up) else settling k (joining_checkpoint k (Some q) (nothing y)))
        go true b = h
        go false true = h
        go false false = settles k (joining_checkpoint k (Some q) (nothing y)) (h.0, h.1, asker)

  module _ (y : NodeState) (h : IsOwn n p y) where
    takes_held : (q : ℕ) (l : List NodeParcel) → Ends (taking_held y q l)
    takes_held q [] = h
    takes_held q (App label body ∷ rest) = arrives (record y { held = at_one q rest y.held }) h q label body
    takes_held q (Ask k kind label ∷ rest) = h
    takes_held q (Reply k w ∷ rest) = h
    takes_held q (Decide k c ∷ rest) = h

    takes : (q : ℕ) (able : Bool) (x : NodeParcel) → nat_lt q n ≡ true → Ends (taking y q able x)
    takes q able (App label body) from = either Ends (is_in_rollback y) (holding y q (App label body)) (arriving y q label body) h (arrives y h q label body)
    takes q able (Ask k kind label) from = hears (asking y q k) h q from y.inst able k (is_rollback_kind (Some kind)) label
    takes q able (Reply k w) from = either Ends (awaits y q k) (settling k (nothing (counting y q w))) (nothing y) (settles k (nothing (counting y q w)) h) h
    takes q able (Decide k c) from = either Ends (heeds y q k) (closing k c (nothing y)) (nothing y) (closed k c (nothing y) h) h

    pub stays_own : (i : Input) → IsBelow n (from_of i) → IsOwn n p (node_after y i).state
    stays_own (Send q body) from = either Ends (is_step y (Send q body)) (if y.up then sending y q body else refusing y verb.Send Down) (nothing y) (either Ends y.up (sending y q body) (refusing y verb.Send Down) h h) h
    stays_own (Begin roll able) from = begins y h y.inst roll able
    stays_own Fail from = either Ends y.up (failing y) (refusing y verb.Fail Down) h h
    stays_own (Held q) from = either Ends (is_in_rollback y) (nothing y) (taking_held y q (y.held q)) h (takes_held q (y.held q))
    stays_own (Comes q able x) from = takes q able x (from q refl)
