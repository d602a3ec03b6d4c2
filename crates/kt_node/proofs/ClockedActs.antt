-- The acts of a net with clocks are those of the net.
use Rattle.std.proofs.Common.{◌≡◌, ◌∙◌, ℕ, Bool, true, false, not, Some, None, List, [], ◌∷◌, map, refl, ap}
use Rattle.std.specs.Prelude.{◌&&◌, if◌then◌else◌}
use Rattle.kt_protocol.specs.States.{ProtocolStep, Send, Begin, Fail, Take}
use Rattle.kt_manager.specs.Nodes.{Doing, nothing, is_in_rollback}
use Rattle.kt_node.specs.Inputs.{Input}
use Rattle.kt_node.specs.Inputs as input
use Rattle.kt_node.specs.NodeSteps.{is_step, node_after}
use Rattle.kt_node.specs.Nets.{Net, has_some, net_acts, net_run, opening_from, front_acts}
use Rattle.kt_node.specs.Clocks.{Envelope, ClockedNet, acts_at, clocked_acts, clocked_run, front_input, opening_clocked_from}
use Rattle.kt_node.proofs.Unclocked.{unclocked, run_unclocked}

acts_unclocked : (w : ClockedNet) (x : ProtocolStep) → clocked_acts w x ≡ net_acts (unclocked w) x
acts_unclocked w (Send p q body) = at (is_step (w.nodes p) (input.Send q body)) refl
  where
    none : (b : Bool) (d n : Doing) → b ≡ false → n.acts ≡ (if b then d else n).acts
    none true d n e = absurd (cc e)
    none false d n e = refl

    at : (b : Bool) → is_step (w.nodes p) (input.Send q body) ≡ b → acts_at (w.nodes p) (if b then Some (input.Send q body) else None) ≡ (node_after (w.nodes p) (input.Send q body)).acts
    at true e = refl
    at false e = none (is_step (w.nodes p) (input.Send q body)) _ (nothing (w.nodes p)) e
acts_unclocked w (Begin p roll able) = refl
acts_unclocked w (Fail p) = refl
acts_unclocked w (Take p q able) = at (not (is_in_rollback (w.nodes p)) && has_some ((w.nodes p).held q))
  where
    front : (es : List Envelope) → acts_at (w.nodes p) (front_input q able es) ≡ front_acts (w.nodes p) q able (map (λ e. e.parcel) es)
    front [] = refl
    front (e ∷ es) = refl

    at : (b : Bool) → acts_at (w.nodes p) (if b then Some (input.Held q) else front_input q able (w.channel q p))
        ≡ (if b then (node_after (w.nodes p) (input.Held q)).acts else front_acts (w.nodes p) q able (map (λ e. e.parcel) (w.channel q p)))
    at true = refl
    at false = front (w.channel q p)

pub run_acts : (n : ℕ) (first : ℕ → ℕ) (steps : List ProtocolStep) (x : ProtocolStep) → clocked_acts (clocked_run (opening_clocked_from n first) steps) x ≡ net_acts (net_run (opening_from n first) steps) x
run_acts n first steps x = acts_unclocked (clocked_run (opening_clocked_from n first) steps) x ∙ ap (λ (u : Net). net_acts u x) (run_unclocked (opening_clocked_from n first) steps)
