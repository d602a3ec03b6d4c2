-- What is known of a parcel that a node meets.
use Rattle.std.specs.Prelude.{◌==◌, ◌&&◌, nat_lt, nat_le, if◌then◌else◌, Result, Ok, Err, OnOk}
use Rattle.std.proofs.Common.{◌≡◌, ◌<◌, ℕ, max, Bool, true, false, not, refl, arith}
use Rattle.std.proofs.lemmas.Bool.Decides.{nat_tests}
use Rattle.kt_tables.specs.Calls.{Speaks}
use Rattle.kt_node.specs.declared.node.Envelope.{Envelope}
use Rattle.kt_node.specs.declared.node.NodeFault.{NodeFault}
use Rattle.kt_node.specs.declared.node.NodeFault.TheVariants as fault
use Rattle.kt_manager.specs.declared.parcels.NodeParcel.{NodeParcel}
use Rattle.kt_manager.specs.declared.parcels.NodeParcel.TheVariants.{App, Ask, Reply, Decide}
use Rattle.kt_manager.specs.Nodes.{NodeState}
use Rattle.kt_node.specs.Inputs.{Held}
use Rattle.kt_node.specs.NodeSteps.{node_after}
use Rattle.kt_node.specs.Faults.{fault_at}
use Rattle.kt_node.specs.Links.{NodeLinks, ShowsLinks, IsSpoken, IsNodeRefusedAs}
use Rattle.kt_node.specs.Meetings.{is_leap, is_stale, is_stale_held, last_label, meeting_of, next_number, received_label}
use Rattle.kt_node.proofs.Speaking.{held_speaks, message_speaks}

-- how a parcel is met by these tests: whether it is between the two, early, late, a leap and stale
abbrev pub met_by : Bool → Bool → ℕ → Bool → Bool → Bool → Result Bool NodeFault
met_by between early next late leap stale =
    if not between then Err fault.Astray
    else if early then Ok false
    else if late then Err (fault.Gap next)
    else if leap then Err fault.Leap
    else if stale then Err fault.Stale
    else Ok true

not_stale : (between early : Bool) (next : ℕ) (late leap stale : Bool) → met_by between early next late leap stale ≡ Ok true → stale ≡ false
not_stale false early next late leap stale e = absurd (cc (e))
not_stale true true next late leap stale e = absurd (cc (e))
not_stale true false next true leap stale e = absurd (cc (e))
not_stale true false next false true stale e = absurd (cc (e))
not_stale true false next false false true e = absurd (cc (e))
not_stale true false next false false false e = refl

above : (received held label : ℕ) → nat_le label (max received held) ≡ false → received < label
above received held label e = grind (arith, nat_tests, e)

-- tables answer for a message that is met
pub met_spoken : (w : NodeLinks) (y : NodeState) (q : ℕ) (able : Bool) (e : Envelope) → ShowsLinks w y → q < 64 → meeting_of w q e ≡ Ok true → IsSpoken y q able e.parcel
met_spoken w y q able e h b m =
    spoken e.parcel (not_stale (e.from == q && e.to == w.manager.me) (nat_lt e.number (next_number w q)) (next_number w q) (nat_lt (next_number w q) e.number) (is_leap w q e) (is_stale (last_label w q) e.parcel) m)
  where
    spoken : (x : NodeParcel) → is_stale (last_label w q) x ≡ false → IsSpoken y q able x
    spoken (App label body) s = message_speaks w y q h b able label body (above (received_label w q) _ label s)
    spoken (Ask k kind label) s = tt
    spoken (Reply k c) s = tt
    spoken (Decide k c) s = tt

-- and for one that is held and rises
pub held_done : {X : Type 0} (w : NodeLinks) (y : NodeState) (q : ℕ) (P : Type 0) (r : Result X NodeFault) → ShowsLinks w y → q < 64 → is_stale_held w q ≡ false → IsNodeRefusedAs (fault_at y (Held q)) r
    → (Speaks ((node_after y (Held q)).state.calls) → OnOk r P) → OnOk r P
held_done w y q P (Ok out) h b e refused f = f (held_speaks w y q h b e refused)
held_done w y q P (Err x) h b e refused f = tt
