-- Steps of two nodes in the other order.
use Rattle.std.proofs.Common.{◌≡◌, ◌≢◌, ◌∙◌, ℕ, ◌+◌, ◌≤◌, Bool, true, false, Some, List, [], ◌∷◌, ◌++◌, map, refl, sym, ap, ap₂, subst, arith, inl, inr}
use Rattle.std.specs.Prelude.{◌==◌, ◌&&◌, max, if◌then◌else◌}
use Rattle.kt_protocol.proofs.Updates.{is_other, at_one_other}
use Rattle.kt_protocol.specs.States.{ProtocolStep}
use Rattle.kt_machine.specs.Acts.{stepper}
use Rattle.kt_manager.specs.declared.parcels.NodeParcel.{NodeParcel}
use Rattle.kt_manager.specs.Nodes.{NodeState}
use Rattle.kt_node.specs.Inputs.{Input}
use Rattle.kt_node.specs.NodeSteps.{node_after}
use Rattle.kt_node.specs.Clocks.{Envelope, ClockedNet, envelope, source_of, input_at, clock_after, left_after, clocked_doing, clocked_step}
use Rattle.kt_node.proofs.NetInputs.{GoesOn, IsBehind, goes_on, comes_back}
use Rattle.kt_node.proofs.BothOrders.{Same, same_sym, HappensAt, clock_at, step_is, doing_by, puts_for, swapped}

-- what comes to q after p did this
module _ (w : ClockedNet) (p s q t : ℕ) (i : Input) (differ : q ≢ p) where
  pub node_kept : (clocked_doing w p s i).nodes q ≡ w.nodes q
  node_kept = at_one_other p q _ w.nodes differ

  pub clock_kept : (clocked_doing w p s i).clock q ≡ w.clock q
  clock_kept = at_one_other p q _ w.clock differ

  pub channel_kept : (clocked_doing w p s i).channel t q ≡ w.channel t q ++ puts_for p (node_after (w.nodes p) i) (clock_after (w.clock p) i (w.channel s p)) t q
  channel_kept = go (t == s) (q == p) (is_other q p differ)
    where
      go : (a b : Bool) → b ≡ false → (if a && b then left_after i (w.channel s p) else w.channel t q) ++ puts_for p (node_after (w.nodes p) i) (clock_after (w.clock p) i (w.channel s p)) t q ≡ w.channel t q ++ puts_for p (node_after (w.nodes p) i) (clock_after (w.clock p) i (w.channel s p)) t q
      go true false e = refl
      go false false e = refl
      go a true e = absurd (cc)

-- what a node puts has its clock
stamped : (b : Bool) (clock : ℕ) (xs : List NodeParcel) (e : Envelope) (es : List Envelope) → (if b then map (envelope clock) xs else []) ≡ e ∷ es → e.clock ≡ clock
stamped true clock [] e es h = absurd (cc)
stamped true clock (x ∷ xs) e es h = let same : envelope clock x ≡ e = cc in sym (ap (λ (r : Envelope). r.clock) same)
stamped false clock xs e es h = absurd (cc)

too_late : (a b c own first : ℕ) → a ≤ b → a ≡ c → c ≡ max own first + 1 → first ≡ b → ⊥
too_late a b c own first order is clock stamp = absurd (omega (arith, order, is, clock, stamp))

-- x comes after z, and not later by the clock
pub record Swapped (w u : ClockedNet) (z x : ProtocolStep) (j k : ℕ) : Type 0 where
  pub happens : HappensAt w x
  pub clock : clock_at w x happens ≡ k
  pub again : HappensAt (clocked_step w x) z
  pub again_clock : clock_at (clocked_step w x) z again ≡ j
  pub same : Same (clocked_step (clocked_step w x) z) u

module _ (w : ClockedNet) (z x : ProtocolStep) (hz : HappensAt w z) (differ : stepper x ≢ stepper z) where
  abbrev w1 : ClockedNet
  w1 = clocked_doing w (stepper z) (source_of z) hz.input

  abbrev puts_z : List Envelope
  puts_z = puts_for (stepper z) (node_after (w.nodes (stepper z)) hz.input) (clock_at w z hz) (source_of x) (stepper x)

  kept_node : w1.nodes (stepper x) ≡ w.nodes (stepper x)
  kept_node = node_kept w (stepper z) (source_of z) (stepper x) (source_of x) hz.input differ

  kept_clock : w1.clock (stepper x) ≡ w.clock (stepper x)
  kept_clock = clock_kept w (stepper z) (source_of z) (stepper x) (source_of x) hz.input differ

  kept_channel : w1.channel (source_of x) (stepper x) ≡ w.channel (source_of x) (stepper x) ++ puts_z
  kept_channel = channel_kept w (stepper z) (source_of z) (stepper x) (source_of x) hz.input differ

  -- where x takes this input before z does anything
  abbrev clock_x : Input → ℕ
  clock_x j = clock_after (w.clock (stepper x)) j (w.channel (source_of x) (stepper x))

  abbrev v1 : Input → ClockedNet
  v1 j = clocked_doing w (stepper x) (source_of x) j

  abbrev puts_x : Input → List Envelope
  puts_x j = puts_for (stepper x) (node_after (w.nodes (stepper x)) j) (clock_x j) (source_of z) (stepper z)

  -- both steps, and in the other order
  abbrev both_z : Input → ClockedNet
  both_z j = doing_by w1 (stepper x) (source_of x) (node_after (w.nodes (stepper x)) j) (clock_x j) (left_after j (w.channel (source_of x) (stepper x)) ++ puts_z)

  abbrev both_x : Input → ClockedNet
  both_x j = doing_by (v1 j) (stepper z) (source_of z) (node_after (w.nodes (stepper z)) hz.input) (clock_at w z hz) (left_after hz.input (w.channel (source_of z) (stepper z)) ++ puts_x j)

  moved : (j : Input) → Same (both_z j) (both_x j)
  moved j = swapped w (stepper z) (source_of z) (stepper x) (source_of x) (node_after (w.nodes (stepper z)) hz.input) (node_after (w.nodes (stepper x)) j) (clock_at w z hz) (clock_x j)
      (left_after hz.input (w.channel (source_of z) (stepper z))) (left_after j (w.channel (source_of x) (stepper x))) differ

  apart : stepper z ≢ stepper x
  apart e = differ (sym e)

  node_z : (j : Input) → (v1 j).nodes (stepper z) ≡ w.nodes (stepper z)
  node_z j = node_kept w (stepper x) (source_of x) (stepper z) (source_of z) j apart

  clock_z : (j : Input) → (v1 j).clock (stepper z) ≡ w.clock (stepper z)
  clock_z j = clock_kept w (stepper x) (source_of x) (stepper z) (source_of z) j apart

  channel_z : (j : Input) → (v1 j).channel (source_of z) (stepper z) ≡ w.channel (source_of z) (stepper z) ++ puts_x j
  channel_z j = channel_kept w (stepper x) (source_of x) (stepper z) (source_of z) j apart

  on_z : (j : Input) → GoesOn (w.nodes (stepper z)) z (w.channel (source_of z) (stepper z)) (puts_x j) hz.input
  on_z j = goes_on (w.nodes (stepper z)) z (w.channel (source_of z) (stepper z)) (puts_x j) hz.input hz.is

  -- z still comes after x
  back_is : (j : Input) → input_at ((v1 j).nodes (stepper z)) z ((v1 j).channel (source_of z) (stepper z)) ≡ Some hz.input
  back_is j = ap₂ (λ (y : NodeState) (es : List Envelope). input_at y z es) (node_z j) (channel_z j) ∙ (on_z j).comes

  back_clock : (j : Input) → clock_after ((v1 j).clock (stepper z)) hz.input ((v1 j).channel (source_of z) (stepper z)) ≡ clock_at w z hz
  back_clock j = ap₂ (λ (c : ℕ) (es : List Envelope). clock_after c hz.input es) (clock_z j) (channel_z j) ∙ (on_z j).clock (w.clock (stepper z))

  left_z : (j : Input) → left_after hz.input ((v1 j).channel (source_of z) (stepper z)) ≡ left_after hz.input (w.channel (source_of z) (stepper z)) ++ puts_x j
  left_z j = ap (left_after hz.input) (channel_z j) ∙ (on_z j).left

  to_left : (j : Input) → clocked_doing (v1 j) (stepper z) (source_of z) hz.input ≡ both_x j
  to_left j = λ i. doing_by (v1 j) (stepper z) (source_of z) (node_after (node_z j i) hz.input) (back_clock j i) (left_z j i)

  -- x comes where z has done what it does, and by the clock no later than z
  module _ (hx : HappensAt w1 x) (order : clock_at w1 x hx ≤ clock_at w z hz) where
    came : input_at (w.nodes (stepper x)) x (w.channel (source_of x) (stepper x) ++ puts_z) ≡ Some hx.input
    came = sym (ap₂ (λ (y : NodeState) (es : List Envelope). input_at y x es) kept_node kept_channel) ∙ hx.is

    clock_is : clock_at w1 x hx ≡ clock_after (w.clock (stepper x)) hx.input (w.channel (source_of x) (stepper x) ++ puts_z)
    clock_is = ap₂ (λ (c : ℕ) (es : List Envelope). clock_after c hx.input es) kept_clock kept_channel

    late : IsBehind (w.channel (source_of x) (stepper x)) puts_z hx.input → ⊥
    late b = too_late (clock_at w1 x hx) (clock_at w z hz) (clock_after (w.clock (stepper x)) hx.input (w.channel (source_of x) (stepper x) ++ puts_z)) (w.clock (stepper x)) b.first.clock order clock_is (b.clock (w.clock (stepper x)))
        (stamped (source_of x == stepper z) (clock_at w z hz) ((node_after (w.nodes (stepper z)) hz.input).puts (stepper x)) b.first b.rest b.is)

    now_is : input_at (w.nodes (stepper x)) x (w.channel (source_of x) (stepper x)) ≡ Some hx.input
    now_is = elim (comes_back (w.nodes (stepper x)) x (w.channel (source_of x) (stepper x)) puts_z hx.input came) [ inl h ↦ h | inr b ↦ absurd (late b) ]

    on_x : GoesOn (w.nodes (stepper x)) x (w.channel (source_of x) (stepper x)) puts_z hx.input
    on_x = goes_on (w.nodes (stepper x)) x (w.channel (source_of x) (stepper x)) puts_z hx.input now_is

    same_clock : clock_at w1 x hx ≡ clock_x hx.input
    same_clock = clock_is ∙ on_x.clock (w.clock (stepper x))

    left_x : left_after hx.input (w1.channel (source_of x) (stepper x)) ≡ left_after hx.input (w.channel (source_of x) (stepper x)) ++ puts_z
    left_x = ap (left_after hx.input) kept_channel ∙ on_x.left

    to_right : clocked_step w1 x ≡ both_z hx.input
    to_right = step_is w1 x hx ∙ (λ i. doing_by w1 (stepper x) (source_of x) (node_after (kept_node i) hx.input) (same_clock i) (left_x i))

    stepped : clocked_step w x ≡ v1 hx.input
    stepped = step_is w x (record { input = hx.input; is = now_is })

    again_is : input_at ((clocked_step w x).nodes (stepper z)) z ((clocked_step w x).channel (source_of z) (stepper z)) ≡ Some hz.input
    again_is = ap (λ (v : ClockedNet). input_at (v.nodes (stepper z)) z (v.channel (source_of z) (stepper z))) stepped ∙ back_is hx.input

    again_clock_is : clock_after ((clocked_step w x).clock (stepper z)) hz.input ((clocked_step w x).channel (source_of z) (stepper z)) ≡ clock_at w z hz
    again_clock_is = ap (λ (v : ClockedNet). clock_after (v.clock (stepper z)) hz.input (v.channel (source_of z) (stepper z))) stepped ∙ back_clock hx.input

    left_is : clocked_step (clocked_step w x) z ≡ both_x hx.input
    left_is = step_is (clocked_step w x) z (record { input = hz.input; is = again_is })
        ∙ (ap (λ (v : ClockedNet). clocked_doing v (stepper z) (source_of z) hz.input) stepped ∙ to_left hx.input)

    swap_doing : Swapped w (clocked_step w1 x) z x (clock_at w z hz) (clock_at w1 x hx)
    swap_doing = record {
      happens = record { input = hx.input; is = now_is };
      clock = sym same_clock;
      again = record { input = hz.input; is = again_is };
      again_clock = again_clock_is;
      same = subst (λ (a : ClockedNet). Same a (clocked_step w1 x)) (sym left_is) (subst (λ (b : ClockedNet). Same (both_x hx.input) b) (sym to_right) (same_sym (both_z hx.input) (both_x hx.input) (moved hx.input)));
    }

-- two steps of two nodes, where the later one is not later by the clock, in the other order
pub swap : (w : ClockedNet) (z x : ProtocolStep) (hz : HappensAt w z) → stepper x ≢ stepper z → (hx : HappensAt (clocked_step w z) x) → clock_at (clocked_step w z) x hx ≤ clock_at w z hz
    → Swapped w (clocked_step (clocked_step w z) x) z x (clock_at w z hz) (clock_at (clocked_step w z) x hx)
swap w z x hz differ = subst (λ (u : ClockedNet). (hx : HappensAt u x) → clock_at u x hx ≤ clock_at w z hz → Swapped w (clocked_step u x) z x (clock_at w z hz) (clock_at u x hx)) (sym (step_is w z hz)) (swap_doing w z x hz differ)
