-- A net does the same where each process's labels count on from one of its own.
use Rattle.std.proofs.Common.{◌≡◌, ◌∙◌, ◌+◌, ◌-◌, ℕ, zero, suc, Bool, true, false, not, List, [], ◌∷◌, ◌++◌, map, refl, sym, ap, ap₂, arith}
use Rattle.std.specs.Prelude.{◌==◌, ◌&&◌, if◌then◌else◌}
use Rattle.std.proofs.lemmas.Bool.Decides.{nat_tests}
use Rattle.std.proofs.lemmas.List.{map-append}
use Rattle.kt_protocol.specs.States.{ProtocolStep, Send, Begin, Fail, Take}
use Rattle.kt_spacetime.specs.declared.named_rows.NamedEvent.{NamedEvent}
use Rattle.kt_spacetime.specs.declared.named_rows.NamedEvent.TheVariants.{Sent, Received, Dropped, Began, Took, Ready, Unwilling, Decided, Closed, Failed, Refused}
use Rattle.kt_spacetime.specs.declared.named_rows.NamedRow.{NamedRow}
use Rattle.kt_meaning.specs.Names.{row_of}
use Rattle.kt_manager.specs.declared.parcels.NodeParcel.{NodeParcel}
use Rattle.kt_manager.specs.Nodes.{NodeState, Doing, is_in_rollback}
use Rattle.kt_node.specs.Inputs as input
use Rattle.kt_node.specs.NodeSteps.{node_after}
use Rattle.kt_node.specs.Nets.{Net, with_doing, with_rest, has_some, net_front, net_step, net_run, front_acts, net_acts, opening_from, opening_net}
use Rattle.kt_node.specs.Erasing.{relabelled, rows_relabelled, rows_from_each, rows_from}
use Rattle.kt_node.specs.FirstLabels.{raised, raised_parcel, raised_node, raised_net}
use Rattle.kt_node.proofs.RaisedNodes.{at_one_raised, raised_doing, does_raised}

equal : (a b : ℕ) → (a == b) ≡ true → a ≡ b
equal a b e = grind (arith, nat_tests)

both : (a b : Bool) → (a && b) ≡ true → (a ≡ true) × (b ≡ true)
both true b e = (refl, e)
both false b e = absurd (cc (e))

module _ (first : ℕ → ℕ) where
  raised_rows : (p : ℕ) (events : List NamedEvent) → map (row_of p) (map (relabelled (λ q label. raised (first q) label) p) events) ≡ rows_relabelled (λ q label. raised (first q) label) (map (row_of p) events)
  raised_rows p [] = refl
  raised_rows p (e ∷ events) = ap (λ (l : List NamedRow). row_of p (relabelled (λ q label. raised (first q) label) p e) ∷ l) (raised_rows p events)

  done_raised : (w : Net) (p : ℕ) (d : Doing) → with_doing (raised_net first w) p (raised_doing first p d) ≡ raised_net first (with_doing w p d)
  done_raised w p d = λ i. record {
    nodes = at_one_raised (raised_node first) p d.state w.nodes i;
    channel = λ u v. channel u v (u == p) refl i;
    rows = (ap (λ (l : List NamedRow). rows_relabelled (λ q label. raised (first q) label) w.rows ++ l) (raised_rows p d.rows)
        ∙ sym (map-append (λ (r : NamedRow). row_of r.p (relabelled (λ q label. raised (first q) label) r.p r.event)) w.rows (map (row_of p) d.rows))) i;
  }
    where
      channel : (u v : ℕ) (b : Bool) → (u == p) ≡ b → (if b then map (raised_parcel first u v) (w.channel u v) ++ map (raised_parcel first p v) (d.puts v) else map (raised_parcel first u v) (w.channel u v))
          ≡ map (raised_parcel first u v) (if b then w.channel u v ++ d.puts v else w.channel u v)
      channel u v true e = ap (λ (n : ℕ). map (raised_parcel first u v) (w.channel u v) ++ map (raised_parcel first n v) (d.puts v)) (sym (equal u p e)) ∙ sym (map-append (raised_parcel first u v) (w.channel u v) (d.puts v))
      channel u v false e = refl

  rest_raised : (w : Net) (q p : ℕ) (rest : List NodeParcel) → with_rest (raised_net first w) q p (map (raised_parcel first q p) rest) ≡ raised_net first (with_rest w q p rest)
  rest_raised w q p rest = λ i. record (raised_net first w) { channel = λ u v. channel u v (u == q && v == p) refl i }
    where
      channel : (u v : ℕ) (b : Bool) → (u == q && v == p) ≡ b → (if b then map (raised_parcel first q p) rest else map (raised_parcel first u v) (w.channel u v)) ≡ map (raised_parcel first u v) (if b then rest else w.channel u v)
      channel u v true e = let h = both (u == q) (v == p) e in ap₂ (λ (a b : ℕ). map (raised_parcel first a b) rest) (sym (equal u q h.0)) (sym (equal v p h.1))
      channel u v false e = refl

  some_raised : (q p : ℕ) (l : List NodeParcel) → has_some (map (raised_parcel first q p) l) ≡ has_some l
  some_raised q p [] = refl
  some_raised q p (x ∷ l) = refl

  front_raised : (w : Net) (p q : ℕ) (able : Bool) (l : List NodeParcel) → net_front (raised_net first w) p q able (map (raised_parcel first q p) l) ≡ raised_net first (net_front w p q able l)
  front_raised w p q able [] = refl
  front_raised w p q able (x ∷ rest) =
      ap₂ (λ (u : Net) (d : Doing). with_doing u p d) (rest_raised w q p rest) (does_raised first p (w.nodes p) (input.Comes q able x))
      ∙ done_raised (with_rest w q p rest) p (node_after (w.nodes p) (input.Comes q able x))

  pub step_raised : (w : Net) (x : ProtocolStep) → net_step (raised_net first w) x ≡ raised_net first (net_step w x)
  step_raised w (Send p q body) = ap (with_doing (raised_net first w) p) (does_raised first p (w.nodes p) (input.Send q body)) ∙ done_raised w p (node_after (w.nodes p) (input.Send q body))
  step_raised w (Begin p roll able) = ap (with_doing (raised_net first w) p) (does_raised first p (w.nodes p) (input.Begin roll able)) ∙ done_raised w p (node_after (w.nodes p) (input.Begin roll able))
  step_raised w (Fail p) = ap (with_doing (raised_net first w) p) (does_raised first p (w.nodes p) input.Fail) ∙ done_raised w p (node_after (w.nodes p) input.Fail)
  step_raised w (Take p q able) =
      ap (λ (b : Bool). if not (is_in_rollback (w.nodes p)) && b then with_doing (raised_net first w) p (node_after (raised_node first p (w.nodes p)) (input.Held q)) else net_front (raised_net first w) p q able (map (raised_parcel first q p) (w.channel q p))) (some_raised q p ((w.nodes p).held q))
      ∙ at_test (not (is_in_rollback (w.nodes p)) && has_some ((w.nodes p).held q))
    where
      at_test : (b : Bool) → (if b then with_doing (raised_net first w) p (node_after (raised_node first p (w.nodes p)) (input.Held q)) else net_front (raised_net first w) p q able (map (raised_parcel first q p) (w.channel q p)))
          ≡ raised_net first (if b then with_doing w p (node_after (w.nodes p) (input.Held q)) else net_front w p q able (w.channel q p))
      at_test true = ap (with_doing (raised_net first w) p) (does_raised first p (w.nodes p) (input.Held q)) ∙ done_raised w p (node_after (w.nodes p) (input.Held q))
      at_test false = front_raised w p q able (w.channel q p)

  run_raised : (w : Net) (steps : List ProtocolStep) → net_run (raised_net first w) steps ≡ raised_net first (net_run w steps)
  run_raised w [] = refl
  run_raised w (x ∷ steps) = ap (λ (u : Net). net_run u steps) (step_raised w x) ∙ run_raised (net_step w x) steps

  counts_on : (p : ℕ) → first p ≡ 0 + first p
  counts_on p = omega arith

  opening_raised : (n : ℕ) → opening_from n first ≡ raised_net first (opening_net n 0)
  opening_raised n = λ i. record (opening_from n first) { nodes = λ p. record ((opening_from n first).nodes p) { used = counts_on p i } }

  pub net_raised : (n : ℕ) (steps : List ProtocolStep) → net_run (opening_from n first) steps ≡ raised_net first (net_run (opening_net n 0) steps)
  net_raised n steps = ap (λ (w : Net). net_run w steps) (opening_raised n) ∙ run_raised (opening_net n 0) steps

  -- the acts of objects have no labels
  front_acts_raised : (y : NodeState) (p q : ℕ) (able : Bool) (l : List NodeParcel) → front_acts (raised_node first p y) q able (map (raised_parcel first q p) l) ≡ front_acts y q able l
  front_acts_raised y p q able [] = refl
  front_acts_raised y p q able (x ∷ l) = ap (λ (d : Doing). d.acts) (does_raised first p y (input.Comes q able x))

  acts_raised : (w : Net) (x : ProtocolStep) → net_acts (raised_net first w) x ≡ net_acts w x
  acts_raised w (Send p q body) = ap (λ (d : Doing). d.acts) (does_raised first p (w.nodes p) (input.Send q body))
  acts_raised w (Begin p roll able) = ap (λ (d : Doing). d.acts) (does_raised first p (w.nodes p) (input.Begin roll able))
  acts_raised w (Fail p) = ap (λ (d : Doing). d.acts) (does_raised first p (w.nodes p) input.Fail)
  acts_raised w (Take p q able) =
      ap (λ (b : Bool). if not (is_in_rollback (w.nodes p)) && b then (node_after (raised_node first p (w.nodes p)) (input.Held q)).acts else front_acts (raised_node first p (w.nodes p)) q able (map (raised_parcel first q p) (w.channel q p))) (some_raised q p ((w.nodes p).held q))
      ∙ at_test (not (is_in_rollback (w.nodes p)) && has_some ((w.nodes p).held q))
    where
      at_test : (b : Bool) → (if b then (node_after (raised_node first p (w.nodes p)) (input.Held q)).acts else front_acts (raised_node first p (w.nodes p)) q able (map (raised_parcel first q p) (w.channel q p)))
          ≡ (if b then (node_after (w.nodes p) (input.Held q)).acts else front_acts (w.nodes p) q able (w.channel q p))
      at_test true = ap (λ (d : Doing). d.acts) (does_raised first p (w.nodes p) (input.Held q))
      at_test false = front_acts_raised (w.nodes p) p q able (w.channel q p)

  pub same_acts : (n : ℕ) (steps : List ProtocolStep) (x : ProtocolStep) → net_acts (net_run (opening_from n first) steps) x ≡ net_acts (net_run (opening_net n 0) steps) x
  same_acts n steps x = ap (λ (w : Net). net_acts w x) (net_raised n steps) ∙ acts_raised (net_run (opening_net n 0) steps) x

  -- labels that count on from 0 again
  lowered : (a label : ℕ) → raised a label - a ≡ label - 0
  lowered a zero = omega arith
  lowered a (suc label) = omega arith

  event_lowered : (p : ℕ) (e : NamedEvent) → relabelled (λ q label. label - first q) p (relabelled (λ q label. raised (first q) label) p e) ≡ relabelled (λ q label. label - 0) p e
  event_lowered p (Sent to body label) = ap (Sent to body) (lowered (first p) label)
  event_lowered p (Received from label) = ap (Received from) (lowered (first from) label)
  event_lowered p (Dropped from label) = ap (Dropped from) (lowered (first from) label)
  event_lowered p (Began inst kind) = refl
  event_lowered p (Took inst) = refl
  event_lowered p (Ready inst) = refl
  event_lowered p (Unwilling inst cause) = refl
  event_lowered p (Decided inst commit) = refl
  event_lowered p (Closed inst) = refl
  event_lowered p Failed = refl
  event_lowered p (Refused verb cause) = refl

  rows_lowered : (rows : List NamedRow) → rows_from_each first (rows_relabelled (λ q label. raised (first q) label) rows) ≡ rows_from 0 rows
  rows_lowered [] = refl
  rows_lowered (r ∷ rows) = ap₂ (λ (e : NamedEvent) (l : List NamedRow). row_of r.p e ∷ l) (event_lowered r.p r.event) (rows_lowered rows)

  pub same_rows : (n : ℕ) (steps : List ProtocolStep) → rows_from_each first (net_run (opening_from n first) steps).rows ≡ rows_from 0 (net_run (opening_net n 0) steps).rows
  same_rows n steps = ap (λ (w : Net). rows_from_each first w.rows) (net_raised n steps) ∙ rows_lowered (net_run (opening_net n 0) steps).rows
