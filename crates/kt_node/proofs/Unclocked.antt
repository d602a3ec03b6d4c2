-- A net with clocks is a net.
use Rattle.std.proofs.Common.{◌≡◌, ◌∙◌, ℕ, Bool, true, false, not, Some, None, List, [], ◌∷◌, ◌++◌, map, refl, sym, ap, ap₂, arith}
use Rattle.std.specs.Prelude.{◌==◌, ◌&&◌, if◌then◌else◌, drop}
use Rattle.std.proofs.Math.Path.{fun_ext}
use Rattle.std.proofs.lemmas.Bool.Decides.{nat_tests}
use Rattle.std.proofs.lemmas.List.{append-nil, map-append}
use Rattle.kt_meaning.specs.Past.{at_one}
use Rattle.kt_protocol.specs.States.{ProtocolStep, Send, Begin, Fail, Take}
use Rattle.kt_machine.proofs.OnePiece.{set_same}
use Rattle.kt_spacetime.specs.declared.named_rows.NamedEvent.{NamedEvent}
use Rattle.kt_spacetime.specs.declared.named_rows.NamedRow.{NamedRow}
use Rattle.kt_meaning.specs.Names.{row_of}
use Rattle.kt_manager.specs.declared.parcels.NodeParcel.{NodeParcel}
use Rattle.kt_manager.specs.Nodes.{Doing, nothing, is_in_rollback}
use Rattle.kt_node.specs.Inputs.{Input}
use Rattle.kt_node.specs.Inputs as input
use Rattle.kt_node.specs.NodeSteps.{is_step, node_after}
use Rattle.kt_node.specs.Nets.{Net, with_doing, with_rest, has_some, net_front, net_step, net_run, opening_from}
use Rattle.kt_spacetime.specs.declared.named_rows.ClockedRow.{ClockedRow}
use Rattle.kt_node.specs.Clocks.{Envelope, ClockedNet, envelope, clocked_row, front_input, clock_after, left_after, clocked_doing, at_input, clocked_step, clocked_run, opening_clocked_from}

-- what is put without its clock
abbrev parcels : List Envelope → List NodeParcel
parcels es = map (λ e. e.parcel) es

abbrev pub unclocked : ClockedNet → Net
unclocked w = record { nodes = w.nodes; channel = λ p q. parcels (w.channel p q); rows = map (λ r. r.row) w.rows }

stamped : (c : ℕ) (xs : List NodeParcel) → parcels (map (envelope c) xs) ≡ xs
stamped c [] = refl
stamped c (x ∷ xs) = ap (λ (l : List NodeParcel). x ∷ l) (stamped c xs)

stamped_rows : (p c : ℕ) (events : List NamedEvent) → map (λ (r : ClockedRow). r.row) (map (clocked_row p c) events) ≡ map (row_of p) events
stamped_rows p c [] = refl
stamped_rows p c (e ∷ events) = ap (λ (l : List NamedRow). row_of p e ∷ l) (stamped_rows p c events)

-- p has done this, where this is left of q's channel to it
doing_is : (w : ClockedNet) (p q : ℕ) (i : Input) → unclocked (clocked_doing w p q i) ≡ with_doing (with_rest (unclocked w) q p (parcels (left_after i (w.channel q p)))) p (node_after (w.nodes p) i)
doing_is w p q i = λ t. record {
  nodes = at_one p (node_after (w.nodes p) i).state w.nodes;
  channel = λ u v. channel u v (u == q && v == p) (u == p) t;
  rows = rows t;
}
  where
    channel : (u v : ℕ) (a b : Bool) → parcels ((if a then left_after i (w.channel q p) else w.channel u v) ++ (if b then map (envelope (clock_after (w.clock p) i (w.channel q p))) ((node_after (w.nodes p) i).puts v) else []))
        ≡ (if b then (if a then parcels (left_after i (w.channel q p)) else parcels (w.channel u v)) ++ (node_after (w.nodes p) i).puts v else (if a then parcels (left_after i (w.channel q p)) else parcels (w.channel u v)))
    channel u v true true = map-append (λ (e : Envelope). e.parcel) (left_after i (w.channel q p)) _ ∙ ap (λ (l : List NodeParcel). parcels (left_after i (w.channel q p)) ++ l) (stamped _ ((node_after (w.nodes p) i).puts v))
    channel u v true false = ap parcels (append-nil (left_after i (w.channel q p)))
    channel u v false true = map-append (λ (e : Envelope). e.parcel) (w.channel u v) _ ∙ ap (λ (l : List NodeParcel). parcels (w.channel u v) ++ l) (stamped _ ((node_after (w.nodes p) i).puts v))
    channel u v false false = ap parcels (append-nil (w.channel u v))

    rows : map (λ (r : ClockedRow). r.row) (w.rows ++ map (clocked_row p (clock_after (w.clock p) i (w.channel q p))) (node_after (w.nodes p) i).rows) ≡ map (λ (r : ClockedRow). r.row) w.rows ++ map (row_of p) (node_after (w.nodes p) i).rows
    rows = map-append (λ (r : ClockedRow). r.row) w.rows _ ∙ ap (λ (l : List NamedRow). map (λ (r : ClockedRow). r.row) w.rows ++ l) (stamped_rows p _ (node_after (w.nodes p) i).rows)

-- all is left
all_left : (u : Net) (q p : ℕ) → with_rest u q p (u.channel q p) ≡ u
all_left u q p = λ t. record { nodes = u.nodes; channel = fun_ext (λ a. fun_ext (λ b. go a b (a == q && b == p) refl)) t; rows = u.rows }
  where
    equal : (a b : ℕ) → (a == b) ≡ true → a ≡ b
    equal a b e = grind (arith, nat_tests)

    both : (a b : Bool) → (a && b) ≡ true → (a ≡ true) × (b ≡ true)
    both true b e = (refl, e)
    both false b e = absurd (cc)

    go : (a b : ℕ) (t : Bool) → (a == q && b == p) ≡ t → (if t then u.channel q p else u.channel a b) ≡ u.channel a b
    go a b true e = let x = both (a == q) (b == p) e in ap₂ u.channel (sym (equal a q x.0)) (sym (equal b p x.1))
    go a b false e = refl

own_input : (w : ClockedNet) (p q : ℕ) (i : Input) → left_after i (w.channel q p) ≡ w.channel q p → unclocked (clocked_doing w p q i) ≡ with_doing (unclocked w) p (node_after (w.nodes p) i)
own_input w p q i e = doing_is w p q i ∙ (ap (λ (l : List Envelope). with_doing (with_rest (unclocked w) q p (parcels l)) p (node_after (w.nodes p) i)) e
    ∙ ap (λ (u : Net). with_doing u p (node_after (w.nodes p) i)) (all_left (unclocked w) q p))

-- nothing is done
nothing_done : (u : Net) (p : ℕ) → u ≡ with_doing u p (nothing (u.nodes p))
nothing_done u p = λ t. record { nodes = sym (set_same p u.nodes) t; channel = λ a b. channel a b (a == p) t; rows = sym (append-nil u.rows) t }
  where
    channel : (a b : ℕ) (s : Bool) → u.channel a b ≡ (if s then u.channel a b ++ [] else u.channel a b)
    channel a b true = sym (append-nil (u.channel a b))
    channel a b false = refl

pub step_unclocked : (w : ClockedNet) (x : ProtocolStep) → unclocked (clocked_step w x) ≡ net_step (unclocked w) x
step_unclocked w (Send p q body) = at_test (is_step (w.nodes p) (input.Send q body)) refl
  where
    at_test : (b : Bool) → is_step (w.nodes p) (input.Send q body) ≡ b → unclocked (at_input w p p (if b then Some (input.Send q body) else None)) ≡ net_step (unclocked w) (Send p q body)
    at_test true e = own_input w p p (input.Send q body) refl
    at_test false e = nothing_done (unclocked w) p ∙ ap (with_doing (unclocked w) p) (none (is_step (w.nodes p) (input.Send q body)) _ (nothing (w.nodes p)) e)
      where
        none : (b : Bool) (d n : Doing) → b ≡ false → n ≡ (if b then d else n)
        none true d n e = absurd (cc)
        none false d n e = refl
step_unclocked w (Begin p roll able) = own_input w p p (input.Begin roll able) refl
step_unclocked w (Fail p) = own_input w p p input.Fail refl
step_unclocked w (Take p q able) = at_test (not (is_in_rollback (w.nodes p)) && has_some ((w.nodes p).held q))
  where
    front : (es : List Envelope) → w.channel q p ≡ es → unclocked (at_input w p q (front_input q able es)) ≡ net_front (unclocked w) p q able (parcels es)
    front [] e = refl
    front (x ∷ es) e = doing_is w p q (input.Comes q able x.parcel) ∙ ap (λ (l : List Envelope). with_doing (with_rest (unclocked w) q p (parcels (drop 1 l))) p (node_after (w.nodes p) (input.Comes q able x.parcel))) e

    at_test : (b : Bool) → unclocked (at_input w p q (if b then Some (input.Held q) else front_input q able (w.channel q p))) ≡ (if b then with_doing (unclocked w) p (node_after (w.nodes p) (input.Held q)) else net_front (unclocked w) p q able (parcels (w.channel q p)))
    at_test true = own_input w p q (input.Held q) refl
    at_test false = front (w.channel q p) refl

pub run_unclocked : (w : ClockedNet) (xs : List ProtocolStep) → unclocked (clocked_run w xs) ≡ net_run (unclocked w) xs
run_unclocked w [] = refl
run_unclocked w (x ∷ xs) = run_unclocked (clocked_step w x) xs ∙ ap (λ (u : Net). net_run u xs) (step_unclocked w x)

pub rows_unclocked : (n : ℕ) (first : ℕ → ℕ) (steps : List ProtocolStep) → map (λ (r : ClockedRow). r.row) (clocked_run (opening_clocked_from n first) steps).rows ≡ (net_run (opening_from n first) steps).rows
rows_unclocked n first steps = ap (λ (u : Net). u.rows) (run_unclocked (opening_clocked_from n first) steps)
