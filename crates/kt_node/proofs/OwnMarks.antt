-- A node keeps what its part marks, and its part is the one that it shows.
use Rattle.std.specs.Prelude.{◌==◌, ◌&&◌, if◌then◌else◌}
use Rattle.std.proofs.Common.{◌≡◌, ◌∙◌, ◌≤◌, ℕ, ℤ, Bool, true, false, not, Option, Some, None, List, [], ◌∷◌, ◌++◌, length, refl, sym, ap, subst, arith, length-append}
use Rattle.std.proofs.lemmas.List.{length-map}
use Rattle.kt_manager.specs.Inboxes.{kept_of}
use Rattle.kt_meaning.specs.Past.{at_one, is_rollback_kind}
use Rattle.kt_machine.specs.CallTests.{must_take, must_roll}
use Rattle.kt_machine.specs.Seen.{SeenPart}
use Rattle.kt_machine.specs.SeenJoining.{no_note, part_after_ask}
use Rattle.kt_process.specs.Shown.{part_shown}
use Rattle.kt_spacetime.specs.declared.names.InstName.{InstName}
use Rattle.kt_manager.specs.declared.parcels.NodeParcel.{NodeParcel}
use Rattle.kt_manager.specs.declared.parcels.NodeParcel.TheVariants.{App, Ask, Reply, Decide}
use Rattle.kt_manager.specs.Nodes.{NodeLists, NodeState, Doing, nothing, is_in_rollback}
use Rattle.kt_node.specs.Inputs.{Input, Send, Begin, Fail, Held, Comes}
use Rattle.kt_manager.specs.NodeMessages.{arriving, taking_held}
use Rattle.kt_manager.specs.NodeJoining.{beginning, joining_checkpoint, joining_rollback}
use Rattle.kt_node.specs.NodeSteps.{next_name, asking, taking, is_step, node_after}
use Rattle.kt_manager.specs.NodeClosing.{after_checkpoint, after_rollback, ending, settling}
use Rattle.kt_manager.specs.NodeSteps.{is_one, told_to_begin, asked, counting}
use Rattle.kt_node.specs.Nets.{opening_net}
use Rattle.kt_node.specs.Managers.{ManagerState, ShowsNode}
use Rattle.kt_manager.specs.Managers.{number_in, as_parcel}
use Rattle.kt_manager.specs.OwnParts.{HasOwnMarks}
use Rattle.kt_node.specs.OwnParts.{HasOwnPart}

pub marks_opening : (n first p : ℕ) → HasOwnMarks ((opening_net n first).nodes p)
marks_opening n first p = λ q. omega arith

one_of : (b : Bool) (d e : Doing) → HasOwnMarks d.state → HasOwnMarks e.state → HasOwnMarks (if b then d else e).state
one_of true d e h k = h
one_of false d e h k = k

one_longer : (b : Bool) (x : NodeParcel) (l : List NodeParcel) (n : ℕ) → n ≤ length l → n ≤ length (if b then l ++ x ∷ [] else l)
one_longer true x l n h = omega (arith, length-append l (x ∷ []))
one_longer false x l n h = h

noted_marks : (roll : Bool) (part : SeenPart) (q label u : ℕ) → (if roll then part_after_ask part q label else part).marks u ≡ part.marks u
noted_marks true part q label u = refl
noted_marks false part q label u = refl

closed_marks : (roll c : Bool) (y : NodeState) → HasOwnMarks (if roll then after_rollback c y else after_checkpoint c y)
closed_marks true true y = λ q. omega arith
closed_marks true false y = λ q. omega arith
closed_marks false c y = λ q. omega arith

ending_marks : (k : InstName) (o : Option ℕ) (d : Doing) → HasOwnMarks d.state → HasOwnMarks (ending k o d).state
ending_marks k (Some to) d h = h
ending_marks k None d h = closed_marks d.state.part.is_rollback d.state.part.willing d.state

settling_marks : (k : InstName) (d : Doing) → HasOwnMarks d.state → HasOwnMarks (settling k d).state
settling_marks k d h = one_of (d.state.part.awaited == 0) (ending k d.state.part.parent d) d (ending_marks k d.state.part.parent d h) h

saving_marks : (k : InstName) (parent : Option ℕ) (d : Doing) → HasOwnMarks (settling k (joining_checkpoint k parent d)).state
saving_marks k parent d = settling_marks k (joining_checkpoint k parent d) (λ q. omega arith)

rolling_marks : (k : InstName) (parent : Option ℕ) (noted : ℕ → Option ℕ) (d : Doing) → HasOwnMarks (settling k (joining_rollback k parent noted d)).state
rolling_marks k parent noted d = settling_marks k (joining_rollback k parent noted d) (λ q. omega arith)

arriving_marks : (y : NodeState) (q label : ℕ) (body : ℤ) → HasOwnMarks y → HasOwnMarks (arriving y q label body).state
arriving_marks y q label body h = one_of y.up _ _ (λ u. one_longer (u == q) (App label body) (y.kept u) (y.part.marks u) (h u)) h

held_marks : (y : NodeState) (q : ℕ) (l : List NodeParcel) → HasOwnMarks y → HasOwnMarks (taking_held y q l).state
held_marks y q [] h = h
held_marks y q (App label body ∷ rest) h = arriving_marks (record y { held = at_one q rest y.held }) q label body h
held_marks y q (Ask k kind label ∷ rest) h = h
held_marks y q (Reply k w ∷ rest) h = h
held_marks y q (Decide k c ∷ rest) h = h

begin_marks : (o : Option InstName) (y : NodeState) (roll able : Bool) → HasOwnMarks y → HasOwnMarks (told_to_begin (next_name y) o y roll able).state
begin_marks (Some name) y roll able h = h
begin_marks None y true able h = rolling_marks (next_name y) None no_note (beginning (next_name y) y true)
begin_marks None y false able h = one_of (able && y.up) _ _ (saving_marks (next_name y) None (beginning (next_name y) y false)) h

ask_marks : (o : Option InstName) (y : NodeState) (q : ℕ) (able : Bool) (k : InstName) (roll : Bool) (label : ℕ) → HasOwnMarks y → HasOwnMarks (asked o y q able k roll label).state
ask_marks (Some name) y q able k roll label h =
    one_of (is_one name k) _ _ (λ u. subst (λ (n : ℕ). n ≤ length (y.kept u)) (sym (noted_marks roll y.part q label u)) (h u)) h
ask_marks None y q able k true label h = one_of (must_roll y.calls q label) _ _ (rolling_marks k (Some q) (at_one q (Some label) no_note) (nothing y)) h
ask_marks None y q able k false label h =
    one_of (not (must_take y.calls q label)) _ _ h (one_of (not (able && y.up)) _ _ h (saving_marks k (Some q) (nothing y)))

parcel_marks : (y : NodeState) (q : ℕ) (able : Bool) (x : NodeParcel) → HasOwnMarks y → HasOwnMarks (taking y q able x).state
parcel_marks y q able (App label body) h = one_of (is_in_rollback y) _ _ h (arriving_marks y q label body h)
parcel_marks y q able (Ask k kind label) h = ask_marks y.inst (asking y q k) q able k (is_rollback_kind (Some kind)) label h
parcel_marks y q able (Reply k w) h = one_of _ _ _ (settling_marks k (nothing (counting y q w)) h) h
parcel_marks y q able (Decide k c) h = one_of _ _ _ (closed_marks y.part.is_rollback c y) h

pub marks_after : (y : NodeState) (x : Input) → HasOwnMarks y → HasOwnMarks (node_after y x).state
marks_after y (Send q body) h = one_of (is_step y (Send q body)) _ _ (one_of y.up _ _ h h) h
marks_after y (Begin roll able) h = begin_marks y.inst y roll able h
marks_after y Fail h = one_of y.up _ _ h h
marks_after y (Held q) h = one_of (is_in_rollback y) _ _ h (held_marks y q (y.held q) h)
marks_after y (Comes q able x) h = parcel_marks y q able x h

pub own_shown : (w : ManagerState) (y : NodeState) → ShowsNode w y → HasOwnMarks y → HasOwnPart w
own_shown w y s h = record {
  named = s.process.inst ∙ (λ i. number_in (sym s.inst i));
  marks = λ q b.
      let marks : (part_shown w.process.side).marks q ≡ y.part.marks q = ap (λ (p : SeenPart). p.marks q) s.process.part in
      let kept : length (kept_of w.inbox q) ≡ length (y.kept q) = sym (length-map (kept_of w.inbox q) as_parcel) ∙ ap (λ (l : NodeLists). length (l q)) s.holds.kept in
      omega (arith, marks, kept, h q);
}
