-- What a step leaves as it is that need not be written.
use Rattle.std.proofs.Common.{◌≡◌, ◌∙◌, ◌+◌, ℕ, ℤ, Bool, true, false, not, Option, Some, None, List, [], ◌∷◌, ◌++◌, ◌⊎◌, inl, inr, refl, sym, ap}
use Rattle.std.specs.Prelude.{◌==◌, ◌&&◌, ◌||◌, if◌then◌else◌}
use Rattle.std.specs.List.{list_any}
use Rattle.std.proofs.lemmas.Grind.{fold-append}
use Rattle.std.proofs.lemmas.List.Folds.{list_any-append}
use Rattle.kt_meaning.specs.Past.{at_one, is_rollback_kind}
use Rattle.kt_tables.specs.Calls.{Call, sent, received}
use Rattle.kt_machine.specs.CallTests.{must_take, must_roll}
use Rattle.kt_machine.specs.SeenJoining.{no_note}
use Rattle.kt_spacetime.specs.declared.names.InstName.{InstName}
use Rattle.kt_spacetime.specs.declared.named_rows.NamedEvent.{NamedEvent}
use Rattle.kt_spacetime.specs.declared.named_rows.NamedEvent.TheVariants.{Dropped, Decided, Closed}
use Rattle.kt_spacetime.specs.declared.named_rows.NamedCause.TheVariants.{Down, Busy}
use Rattle.kt_base.specs.declared.words.Verb.TheVariants as verb
use Rattle.kt_manager.specs.declared.parcels.NodeParcel.{NodeParcel}
use Rattle.kt_manager.specs.declared.parcels.NodeParcel.TheVariants.{App, Ask, Reply, Decide}
use Rattle.kt_manager.specs.Nodes.{NodeState, Doing, nothing, is_in_rollback, with_one}
use Rattle.kt_node.specs.Inputs.{Input, Send, Begin, Fail, Held, Comes}
use Rattle.kt_manager.specs.NodeMessages.{sending, receiving, arriving, holding, taking_held, failing, refusing, unable}
use Rattle.kt_manager.specs.NodeJoining.{beginning, joining_checkpoint, joining_rollback, replying, unwilling, noting}
use Rattle.kt_node.specs.NodeSteps.{next_name, asking, awaits, heeds, taking, is_step, node_after}
use Rattle.kt_manager.specs.NodeClosing.{closing, ending, settling}
use Rattle.kt_manager.specs.NodeSteps.{is_one, starting, told_to_begin, asked, counting}
use Rattle.kt_node.specs.NodeHistories.{no_history, histories_after, histories}
use Rattle.kt_kills.specs.Writing.{is_protocol_row, is_no_message, is_protocol}
use Rattle.kt_kills.proofs.Basics.{same, not_both}

-- the messages of the permanent checkpoint after some calls
abbrev pub permanent : List Call → List Call
permanent calls = (histories calls).permanent

pub more : (calls : List Call) (c : Call) → histories (calls ++ c ∷ []) ≡ histories_after (histories calls) c
more calls c = fold-append histories_after no_history calls (c ∷ [])

abbrev pub has_row : List NamedEvent → Bool
has_row rows = list_any is_protocol_row rows

-- of whom something comes
abbrev pub from_of : Input → Option ℕ
from_of (Comes q able x) = Some q
from_of _ = None

-- what is put for q is nothing, or has a reply to who asked
abbrev pub IsQuiet : NodeState → Input → ℕ → List NodeParcel → Type 0
IsQuiet y i q xs = (xs ≡ []) ⊎ ((list_any is_no_message xs ≡ true) × ((from_of i ≡ Some q) ⊎ (y.part.parent ≡ Some q)))

-- a later state of the same node, which used no label, is in the same instance, and is up only where it was
abbrev pub IsAlike : NodeState → NodeState → Type 0
IsAlike y z = (z.processes ≡ y.processes) × (z.me ≡ y.me) × (z.used ≡ y.used) × (z.inst ≡ y.inst) × (z.up ≡ true → y.up ≡ true)

abbrev pub Plain : NodeState → Input → Doing → Type 0
Plain y i d = (permanent d.state.calls ≡ permanent y.calls) × IsAlike y d.state × ((q : ℕ) → IsQuiet y i q (d.puts q))

-- a step is plain, or a row says that it has to be written
abbrev pub Leaves : NodeState → Input → Doing → Type 0
Leaves y i d = Plain y i d ⊎ (has_row d.rows ≡ true)

pub alike_self : (y : NodeState) → IsAlike y y
alike_self y = (refl, refl, refl, refl, λ e. e)

-- of two
pub either : {X : Type 0} (P : X → Type 0) (b : Bool) (d e : X) → P d → P e → P (if b then d else e)
either {X} P true d e x z = x
either {X} P false d e x z = z

any_more : (xs ys : List NamedEvent) → has_row xs ≡ true → has_row (xs ++ ys) ≡ true
any_more xs ys e = list_any-append is_protocol_row xs ys ∙ ap (λ (b : Bool). b || has_row ys) e

ended : (k : InstName) (o : Option ℕ) (d : Doing) → has_row d.rows ≡ true → has_row (ending k o d).rows ≡ true
ended k (Some to) d e = e
ended k None d e = any_more (d.rows ++ Decided k d.state.part.willing ∷ []) (Closed k ∷ []) (any_more d.rows (Decided k d.state.part.willing ∷ []) e)

settled : (k : InstName) (d : Doing) → has_row d.rows ≡ true → has_row (settling k d).rows ≡ true
settled k d e = either (λ (x : Doing). has_row x.rows ≡ true) (d.state.part.awaited == 0) (ending k d.state.part.parent d) d (ended k d.state.part.parent d e) e

module _ (y : NodeState) (i : Input) where
  -- a reply to one who asked
  told : (to : ℕ) (k : InstName) (w : Bool) → (from_of i ≡ Some to) ⊎ (y.part.parent ≡ Some to) → (q : ℕ) → IsQuiet y i q (with_one to (Reply k w) (λ u. []) q)
  told to k w may q = go (q == to) refl
    where
      go : (a : Bool) → (q == to) ≡ a → IsQuiet y i q (if a then Reply k w ∷ [] else [])
      go true e = inr (refl, elim may [ inl f ↦ inl (f ∙ ap Some (sym (same q to e))) | inr f ↦ inr (f ∙ ap Some (sym (same q to e))) ])
      go false e = inl refl

  quiet : (q : ℕ) → IsQuiet y i q []
  quiet q = inl refl

  silent : Leaves y i (nothing y)
  silent = inl (refl, alike_self y, quiet)

  arrived : (q label : ℕ) (body : ℤ) → Leaves y i (arriving y q label body)
  arrived q label body = either (Leaves y i) y.up (receiving y q label body) (record (nothing y) { rows = Dropped q label ∷ [] })
      (inl (ap (λ h. h.permanent) (more y.calls (received q label)), alike_self y, quiet)) silent

  replied : (k : InstName) (w : Bool) (q : ℕ) → Leaves y i (settling k (nothing (counting y q w)))
  replied k w q = go ((counting y q w).part.awaited == 0) y.part.parent refl
    where
      go : (b : Bool) (o : Option ℕ) → y.part.parent ≡ o → Leaves y i (if b then ending k o (nothing (counting y q w)) else nothing (counting y q w))
      go true (Some to) e = inl (refl, alike_self y, told to k (counting y q w).part.willing (inr e))
      go true None e = inr refl
      go false o e = silent

  began : (o : Option InstName) (roll able : Bool) → Leaves y i (told_to_begin (next_name y) o y roll able)
  began (Some name) roll able = silent
  began None true able = inr (settled (next_name y) (joining_rollback (next_name y) None no_note (beginning (next_name y) y true)) refl)
  began None false able = either (Leaves y i) (able && y.up) (starting (next_name y) y false) (refusing y verb.Checkpoint (unable y.up))
      (inr (settled (next_name y) (joining_checkpoint (next_name y) None (beginning (next_name y) y false)) refl)) silent

  module _ (q : ℕ) (comes : from_of i ≡ Some q) where
    says : (k : InstName) (w : Bool) → Leaves y i (replying y q k w)
    says k w = inl (refl, alike_self y, told q k w (inl comes))

    heard : (o : Option InstName) (able : Bool) (k : InstName) (roll : Bool) (label : ℕ) → Leaves y i (asked o y q able k roll label)
    heard (Some name) able k roll label = either (Leaves y i) (is_one name k) (replying (noting y roll q label) q k true) (unwilling y q k (Busy name)) (noted roll) (inr refl)
      where
        noted : (r : Bool) → Leaves y i (replying (noting y r q label) q k true)
        noted true = says k true
        noted false = says k true
    heard None able k true label = either (Leaves y i) (must_roll y.calls q label) (settling k (joining_rollback k (Some q) (at_one q (Some label) no_note) (nothing y))) (replying y q k true)
        (inr (settled k (joining_rollback k (Some q) (at_one q (Some label) no_note) (nothing y)) refl)) (says k true)
    heard None able k false label = go (not (must_take y.calls q label)) (not (able && y.up))
      where
        go : (a b : Bool) → Leaves y i (if a then replying y q k true else if b then unwilling y q k (unable y.up) else settling k (joining_checkpoint k (Some q) (nothing y)))
        go true b = says k true
        go false true = inr refl
        go false false = inr (settled k (joining_checkpoint k (Some q) (nothing y)) refl)

module _ (y : NodeState) where
  took_held : (q : ℕ) (i : Input) (l : List NodeParcel) → Leaves y i (taking_held y q l)
  took_held q i [] = silent y i
  took_held q i (App label body ∷ rest) = arrived (record y { held = at_one q rest y.held }) i q label body
  took_held q i (Ask k kind label ∷ rest) = silent y i
  took_held q i (Reply k w ∷ rest) = silent y i
  took_held q i (Decide k c ∷ rest) = silent y i

  took : (q : ℕ) (able : Bool) (x : NodeParcel) → Leaves y (Comes q able x) (taking y q able x)
  took q able (App label body) = either (Leaves y (Comes q able (App label body))) (is_in_rollback y) (holding y q (App label body)) (arriving y q label body) (silent y (Comes q able (App label body))) (arrived y (Comes q able (App label body)) q label body)
  took q able (Ask k kind label) = heard (asking y q k) (Comes q able (Ask k kind label)) q refl y.inst able k (is_rollback_kind (Some kind)) label
  took q able (Reply k w) = either (Leaves y (Comes q able (Reply k w))) (awaits y q k) (settling k (nothing (counting y q w))) (nothing y) (replied y (Comes q able (Reply k w)) k w q) (silent y (Comes q able (Reply k w)))
  took q able (Decide k c) = either (Leaves y (Comes q able (Decide k c))) (heeds y q k) (closing k c (nothing y)) (nothing y) (inr refl) (silent y (Comes q able (Decide k c)))

  -- who sends nothing
  sends_none : (q : ℕ) (body : ℤ) (a b : Bool) → (a && b) ≡ false → Plain y (Send q body) (if a then (if b then sending y q body else refusing y verb.Send Down) else nothing y)
  sends_none q body true true e = absurd (cc)
  sends_none q body true false e = (refl, alike_self y, quiet y (Send q body))
  sends_none q body false b e = (refl, alike_self y, quiet y (Send q body))

  pub unsent : (q : ℕ) (body : ℤ) → (is_step y (Send q body) && y.up) ≡ false → Plain y (Send q body) (node_after y (Send q body))
  unsent q body e = sends_none q body (is_step y (Send q body)) y.up e

  -- and any other input
  pub leaves : (i : Input) → ((q : ℕ) (body : ℤ) → i ≡ Send q body → (is_step y i && y.up) ≡ false) → Leaves y i (node_after y i)
  leaves (Send q body) none = inl (unsent q body (none q body refl))
  leaves (Begin roll able) none = began y (Begin roll able) y.inst roll able
  leaves Fail none = either (Leaves y Fail) y.up (failing y) (refusing y verb.Fail Down) (inl (refl, (refl, refl, refl, refl, λ e. absurd (cc)), quiet y Fail)) (silent y Fail)
  leaves (Held q) none = either (Leaves y (Held q)) (is_in_rollback y) (nothing y) (taking_held y q (y.held q)) (silent y (Held q)) (took_held q (Held q) (y.held q))
  leaves (Comes q able x) none = took q able x

  -- a send leaves the permanent checkpoint too
  pub sent_leaves : (q : ℕ) (body : ℤ) → permanent (node_after y (Send q body)).state.calls ≡ permanent y.calls
  sent_leaves q body = go (is_step y (Send q body)) y.up
    where
      go : (a b : Bool) → permanent (if a then (if b then sending y q body else refusing y verb.Send Down) else nothing y).state.calls ≡ permanent y.calls
      go true true = ap (λ h. h.permanent) (more y.calls (sent q (y.used + 1)))
      go true false = refl
      go false b = refl

-- what a step is that is not written and sends nothing
pub plain_step : (y : NodeState) (i : Input) → ((q : ℕ) (body : ℤ) → i ≡ Send q body → (is_step y i && y.up) ≡ false) → is_protocol (node_after y i) ≡ false → Plain y i (node_after y i)
plain_step y i none e = elim (leaves y i none) [ inl plain ↦ plain | inr row ↦ elim (not_both _ _ row e) [ ] ]

pub plain_leaves : (y : NodeState) (i : Input) → is_protocol (node_after y i) ≡ false → permanent (node_after y i).state.calls ≡ permanent y.calls
plain_leaves y (Send q body) e = sent_leaves y q body
plain_leaves y (Begin roll able) e = (plain_step y (Begin roll able) (λ q body f. absurd (cc)) e).0
plain_leaves y Fail e = (plain_step y Fail (λ q body f. absurd (cc)) e).0
plain_leaves y (Held q) e = (plain_step y (Held q) (λ u body f. absurd (cc)) e).0
plain_leaves y (Comes q able x) e = (plain_step y (Comes q able x) (λ u body f. absurd (cc)) e).0
