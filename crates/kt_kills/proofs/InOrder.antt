-- What was done, in the order of clocks, is a run of a net.
use Rattle.std.proofs.Common.{◌≡◌, ◌≢◌, ◌∙◌, ◌+◌, ◌<◌, ◌≤◌, ℕ, zero, suc, Bool, true, false, not, Some, None, List, [], ◌∷◌, ◌++◌, inl, inr, map, refl, arith, sym, ap, ap₂, subst, append_assoc}
use Rattle.std.specs.Prelude.{◌==◌, ◌&&◌, if◌then◌else◌, max, length}
use Rattle.std.proofs.lemmas.Bool.{cases_eq, cases_lt}
use Rattle.std.proofs.lemmas.Bool.Decides.{nat_tests}
use Rattle.std.proofs.lemmas.List.{append-nil, map-append, append_cancel_left}
use Rattle.std.proofs.lemmas.List.Elements.{filter-append}
use Rattle.kt_meaning.specs.Past.{at_one}
use Rattle.kt_protocol.proofs.Updates.{at_one_here, at_one_other}
use Rattle.kt_protocol.specs.States.{ProtocolStep, Send, Begin, Fail, Take}
use Rattle.kt_machine.specs.Acts.{stepper}
use Rattle.kt_spacetime.specs.declared.named_rows.NamedEvent.{NamedEvent}
use Rattle.kt_spacetime.specs.declared.named_rows.NamedRow.{NamedRow}
use Rattle.kt_spacetime.specs.declared.named_rows.ClockedRow.{ClockedRow}
use Rattle.kt_spacetime.specs.ClockedRows.{rows_of, without_clocks}
use Rattle.kt_manager.specs.declared.parcels.NodeParcel.{NodeParcel}
use Rattle.kt_manager.specs.Nodes.{NodeState, is_in_rollback}
use Rattle.kt_node.specs.Inputs.{Input}
use Rattle.kt_node.specs.Inputs as input
use Rattle.kt_node.specs.NodeSteps.{is_step, node_after}
use Rattle.kt_node.specs.Nets.{Net, with_doing, with_rest, has_some, net_step, net_run, opening_net}
use Rattle.kt_node.specs.Clocks.{Envelope, envelope, clocked_row, clock_after, input_at, AreByClock}
use Rattle.kt_node.proofs.NetInputs.{clock_rises}
use Rattle.kt_node.proofs.Sorting.{NotBefore, not_before_refl, not_before_then}
use Rattle.kt_kills.specs.KilledNets.{Holdings, came_of, having_done, opening_holdings}
use Rattle.kt_kills.specs.Starts.{parcels, IsFront}
use Rattle.kt_kills.specs.Standing.{IsNet}
use Rattle.kt_kills.proofs.Basics.{is_same, at_each, front_refl, none_came}
use Rattle.kt_kills.proofs.NetGoes.{bare_rows}
use Rattle.kt_kills.proofs.Ran.{after, run_one, alike_net, command, front_taken, step_taken}
use Rattle.kt_kills.proofs.Deeds.{Deed, Own, Took, does, made, AreDone}
use Rattle.kt_kills.proofs.Law.{some_is}
use Rattle.kt_kills.proofs.Later.{IsLater, later_front}

-- all rows come no later than this
abbrev pub AllBefore : ℕ → ℕ → List ClockedRow → Type 0
AllBefore k p [] = Unit {0}
AllBefore k p (r ∷ rows) = NotBefore r.clock r.row.p k p × AllBefore k p rows

all_then : (k p : ℕ) (xs ys : List ClockedRow) → AllBefore k p xs → AllBefore k p ys → AllBefore k p (xs ++ ys)
all_then k p [] ys h i = i
all_then k p (x ∷ xs) ys h i = (h.0, all_then k p xs ys h.1 i)

all_own : (j q k p : ℕ) (events : List NamedEvent) → NotBefore j q k p → AllBefore k p (map (clocked_row q j) events)
all_own j q k p [] h = tt
all_own j q k p (e ∷ events) h = (h, all_own j q k p events h)

-- rows of one process and one clock come behind all that are no later
own_sorted : (j q k p : ℕ) (events : List NamedEvent) → NotBefore j q k p → AreByClock j q (map (clocked_row p k) events)
own_sorted j q k p [] h = tt
own_sorted j q k p (e ∷ events) h = (h, own_sorted k p k p events (not_before_refl k p))

sorted_then : (j q k p : ℕ) (rows : List ClockedRow) (events : List NamedEvent) → AreByClock j q rows → NotBefore j q k p → AllBefore k p rows → AreByClock j q (rows ++ map (clocked_row p k) events)
sorted_then j q k p [] events a h b = own_sorted j q k p events h
sorted_then j q k p (r ∷ rows) events a h b = (a.0, sorted_then r.clock r.row.p k p rows events a.1 b.0 b.1)

own_part : (p k : ℕ) (events : List NamedEvent) → rows_of p (map (clocked_row p k) events) ≡ map (clocked_row p k) events
own_part p k [] = refl
own_part p k (e ∷ events) = rw (is_same p) (ap (λ (l : List ClockedRow). clocked_row p k e ∷ l) (own_part p k events))

other_part : (q p k : ℕ) (events : List NamedEvent) → (p == q) ≡ false → rows_of q (map (clocked_row p k) events) ≡ []
other_part q p k [] n = refl
other_part q p k (e ∷ events) n = rw n (other_part q p k events n)

-- what processes have is a net's after some steps, and their rows by clock are that net's
pub record IsSorted (n first : ℕ) (have : ℕ → Holdings) : Type 0 where
  pub steps : List ProtocolStep
  pub net : IsNet have (net_run (opening_net n first) steps)
  pub rows : List ClockedRow
  pub sorted : AreByClock 0 0 rows
  pub parts : (p : ℕ) → rows_of p rows ≡ (have p).rows
  pub same_rows : without_clocks rows ≡ (net_run (opening_net n first) steps).rows
  pub before : (k p : ℕ) → ((q : ℕ) → NotBefore (have q).clock q k p) → AllBefore k p rows

opening_sorted : (n first : ℕ) → IsSorted n first (opening_holdings n first)
opening_sorted n first = record {
  steps = [];
  net = record { nodes = λ p. refl; rows = λ p. refl; channels = λ p q. refl };
  rows = [];
  sorted = tt;
  parts = λ p. refl;
  same_rows = refl;
  before = λ k p h. tt;
}

pub alike_sorted : (n first : ℕ) (have other : ℕ → Holdings) → ((p : ℕ) → have p ≡ other p) → IsSorted n first have → IsSorted n first other
alike_sorted n first have other e s = record {
  steps = s.steps;
  net = alike_net have other (net_run (opening_net n first) s.steps) e s.net;
  rows = s.rows;
  sorted = s.sorted;
  parts = λ p. s.parts p ∙ ap (λ (h : Holdings). h.rows) (e p);
  same_rows = s.same_rows;
  before = λ k p h. s.before k p (λ q. subst (λ (g : Holdings). NotBefore g.clock q k p) (sym (e q)) (h q));
}

lowest : (k p : ℕ) → 1 ≤ k → NotBefore 0 0 k p
lowest k p h = inl (below k h)
  where
    below : (k : ℕ) → 1 ≤ k → 0 < k
    below k h = grind arith

-- one more step, later than all before
module _ (n first : ℕ) (have : ℕ → Holdings) (s : IsSorted n first have) (p : ℕ) (es : List Envelope) (i : Input) (x : ProtocolStep) (left : Net)
    (rows_left : left.rows ≡ (net_run (opening_net n first) s.steps).rows)
    (steps : net_step (net_run (opening_net n first) s.steps) x ≡ with_doing left p (node_after (have p).node i))
    (goes : IsNet (after have p es i) (with_doing left p (node_after (have p).node i)))
    (rises : (have p).clock + 1 ≤ clock_after (have p).clock i es)
    (latest : (q : ℕ) → NotBefore (have q).clock q (clock_after (have p).clock i es) p)
  where
    abbrev pub net : Net
    net = net_run (opening_net n first) s.steps

    abbrev pub clock : ℕ
    clock = clock_after (have p).clock i es

    abbrev pub events : List NamedEvent
    events = (node_after (have p).node i).rows

    parts_go : (q : ℕ) → rows_of q (s.rows ++ map (clocked_row p clock) events) ≡ (after have p es i q).rows
    parts_go = at_each (λ q. rows_of q (s.rows ++ map (clocked_row p clock) events) ≡ (after have p es i q).rows) p
        (rw (is_same p) (split p ∙ ap₂ (λ (a b : List ClockedRow). a ++ b) (s.parts p) (own_part p clock events)))
        (λ q e. rw e (split q ∙ ap₂ (λ (a b : List ClockedRow). a ++ b) (s.parts q) (other_part q p clock events (turn p q e)) ∙ append-nil (have q).rows))
      where
        split : (q : ℕ) → rows_of q (s.rows ++ map (clocked_row p clock) events) ≡ rows_of q s.rows ++ rows_of q (map (clocked_row p clock) events)
        split q = filter-append (λ (r : ClockedRow). r.row.p == q) s.rows (map (clocked_row p clock) events)

        turn : (p q : ℕ) → (q == p) ≡ false → (p == q) ≡ false
        turn p q e = grind (arith, nat_tests)

    clock_most : (k r : ℕ) → ((q : ℕ) → NotBefore (after have p es i q).clock q k r) → (q : ℕ) → NotBefore (have q).clock q k r
    clock_most k r h = at_each (λ q. NotBefore (have q).clock q k r) p
        (not_before_then (have p).clock p clock p k r (inl (below (have p).clock clock rises)) (subst (λ (g : Holdings). NotBefore g.clock p k r) (at_one_here p (having_done p (have p) es i) have) (h p)))
        (λ q e. subst (λ (g : Holdings). NotBefore g.clock q k r) (other q e) (h q))
      where
        other : (q : ℕ) → (q == p) ≡ false → after have p es i q ≡ have q
        other q e = rw e refl

        below : (a b : ℕ) → a + 1 ≤ b → a < b
        below a b l = grind arith

    pub one_more : IsSorted n first (after have p es i)
    one_more = record {
      steps = s.steps ++ x ∷ [];
      net = subst (λ (v : Net). IsNet (after have p es i) v) (sym steps ∙ run_one (opening_net n first) s.steps x) goes;
      rows = s.rows ++ map (clocked_row p clock) events;
      sorted = sorted_then 0 0 clock p s.rows events s.sorted (lowest clock p (at_least (have p).clock clock rises)) (s.before clock p latest);
      parts = parts_go;
      same_rows = map-append (λ (r : ClockedRow). r.row) s.rows (map (clocked_row p clock) events)
          ∙ ap₂ (λ (a b : List NamedRow). a ++ b) (s.same_rows ∙ sym rows_left) (bare_rows p clock events)
          ∙ ap (λ (v : Net). v.rows) (sym steps ∙ run_one (opening_net n first) s.steps x);
      before = λ k r h. all_then k r s.rows (map (clocked_row p clock) events) (s.before k r (clock_most k r h))
          (all_own clock p k r events (subst (λ (g : Holdings). NotBefore g.clock p k r) (at_one_here p (having_done p (have p) es i) have) (h p)));
    }
      where
        at_least : (a b : ℕ) → a + 1 ≤ b → 1 ≤ b
        at_least a b l = grind arith

-- which net step a process makes by itself
own_step : (net : Net) (x : ProtocolStep) (i : Input) → input_at (net.nodes (stepper x)) x [] ≡ Some i → net_step net x ≡ with_doing net (stepper x) (node_after (net.nodes (stepper x)) i)
own_step w (Send p q body) i e = go (is_step (w.nodes p) (input.Send q body)) e
  where
    go : (b : Bool) → (if b then Some (input.Send q body) else None) ≡ Some i → with_doing w p (node_after (w.nodes p) (input.Send q body)) ≡ with_doing w p (node_after (w.nodes p) i)
    go true f = ap (λ (j : Input). with_doing w p (node_after (w.nodes p) j)) (some_is (input.Send q body) i f)
    go false f = absurd (cc)
own_step w (Begin p roll able) i e = ap (λ (j : Input). with_doing w p (node_after (w.nodes p) j)) (some_is (input.Begin roll able) i e)
own_step w (Fail p) i e = ap (λ (j : Input). with_doing w p (node_after (w.nodes p) j)) (some_is input.Fail i e)
own_step w (Take p q able) i e = go (not (is_in_rollback (w.nodes p)) && has_some ((w.nodes p).held q)) refl e
  where
    go : (b : Bool) → (not (is_in_rollback (w.nodes p)) && has_some ((w.nodes p).held q)) ≡ b → (if b then Some (input.Held q) else None) ≡ Some i → net_step w (Take p q able) ≡ with_doing w p (node_after (w.nodes p) i)
    go true g f = rw g (ap (λ (j : Input). with_doing w p (node_after (w.nodes p) j)) (some_is (input.Held q) i f))
    go false g f = absurd (cc)

-- the one whose clock is the greatest, of those up to n, and of these the last one
latest_of : (f : ℕ → ℕ) (n : ℕ) → (p : ℕ) × (p ≤ n) × ((q : ℕ) → q ≤ n → NotBefore (f q) q (f p) p)
latest_of f zero = (0, none, λ q e. subst (λ (u : ℕ). NotBefore (f u) u (f 0) 0) (sym (only q e)) (not_before_refl (f 0) 0))
  where
    none : 0 ≤ 0
    none = grind arith

    only : (q : ℕ) → q ≤ 0 → q ≡ 0
    only q e = grind arith
latest_of f (suc n) = let r = latest_of f n in elim (cases_lt (f (suc n)) (f r.0)) [
  | inl less ↦ (r.0, later r.0 n r.1, λ q e. elim (cases_eq q (suc n)) [ inl s ↦ subst (λ (u : ℕ). NotBefore (f u) u (f r.0) r.0) (sym s) (inl less) | inr d ↦ r.2 q (lower q n e d) ])
  | inr most ↦ (
    suc n,
    own n,
    λ q e. elim (cases_eq q (suc n)) [
      | inl s ↦ subst (λ (u : ℕ). NotBefore (f u) u (f (suc n)) (suc n)) (sym s) (not_before_refl (f (suc n)) (suc n))
      | inr d ↦ not_before_then (f q) q (f r.0) r.0 (f (suc n)) (suc n) (r.2 q (lower q n e d)) (next (f r.0) (f (suc n)) r.0 n most r.1)
    ],
  )
]
  where
    later : (p n : ℕ) → p ≤ n → p ≤ suc n
    later p n h = grind arith

    own : (n : ℕ) → suc n ≤ suc n
    own n = grind arith

    lower : (q n : ℕ) → q ≤ suc n → q ≢ suc n → q ≤ n
    lower q n h d = grind arith

    next : (a b p n : ℕ) → a ≤ b → p ≤ n → NotBefore a p b (suc n)
    next a b p n h k = elim (cases_lt a b) [ inl l ↦ inl l | inr g ↦ inr (equal a b h g, later p n k) ]
      where
        equal : (a b : ℕ) → a ≤ b → b ≤ a → a ≡ b
        equal a b h g = grind arith

-- all came before this clock
abbrev pub AreBelow : ℕ → List Envelope → Type 0
AreBelow k [] = Unit {0}
AreBelow k (e ∷ es) = (e.clock < k) × AreBelow k es

below_more : (j k : ℕ) → j ≤ k → (es : List Envelope) → AreBelow j es → AreBelow k es
below_more j k h [] b = tt
below_more j k h (e ∷ es) b = (lower e.clock j k b.0 h, below_more j k h es b.1)
  where
    lower : (a j k : ℕ) → a < j → j ≤ k → a < k
    lower a j k f g = grind arith

below_then : (k : ℕ) (es fs : List Envelope) → AreBelow k es → AreBelow k fs → AreBelow k (es ++ fs)
below_then k [] fs a b = b
below_then k (e ∷ es) fs a b = (a.0, below_then k es fs a.1 b)

below_front : (k : ℕ) (es fs : List Envelope) → IsFront es fs → AreBelow k fs → AreBelow k es
below_front k es fs f b = go es (subst (AreBelow k) f.1 b)
  where
    go : (es : List Envelope) → AreBelow k (es ++ f.0) → AreBelow k es
    go [] c = tt
    go (e ∷ es) c = (c.0, go es c.1)

-- what came earlier was not put at this clock
trimmed : (k : ℕ) (es puts : List Envelope) (new : List NodeParcel) → IsLater es (puts ++ map (envelope k) new) → AreBelow k es → IsLater es puts
trimmed k [] puts new h b = tt
trimmed k (e ∷ es) [] [] h b = h
trimmed k (e ∷ es) [] (x ∷ new) h b = absurd (no k e.clock h.1 b.0)
  where
    no : (k c : ℕ) → k ≤ c → c < k → ⊥
    no k c f g = grind arith
trimmed k (e ∷ es) (y ∷ puts) new h b = (h.0, h.1, trimmed k es puts new h.2 b.1)

later_parcels : (es puts : List Envelope) → IsLater es puts → IsFront (parcels es) (parcels puts)
later_parcels [] puts h = (parcels puts, refl)
later_parcels (e ∷ es) [] h = elim h [ ]
later_parcels (e ∷ es) (f ∷ puts) h = let r = later_parcels es puts h.2 in (r.0, ap₂ (λ (x : NodeParcel) (l : List NodeParcel). x ∷ l) (sym h.0) r.1)

-- of one deed: the clock rises, what is put has it, and what is taken is earlier
abbrev pub input_of : Deed → Input
input_of (Own x i) = i
input_of (Took q able e) = input.Comes q able e.parcel

abbrev pub with : Deed → List Envelope
with (Own x i) = []
with (Took q able e) = e ∷ []

module _ (p : ℕ) (h : Holdings) where
  as_deed : (d : Deed) → does p h d ≡ having_done p h (with d) (input_of d)
  as_deed (Own x i) = refl
  as_deed (Took q able e) = refl

  deed_rises : (d : Deed) → h.clock + 1 ≤ (does p h d).clock
  deed_rises (Own x i) = clock_rises h.clock i []
  deed_rises (Took q able e) = clock_rises h.clock (input.Comes q able e.parcel) (e ∷ [])

  deed_took : (d : Deed) (u : ℕ) → IsFront (h.took u) ((does p h d).took u)
  deed_took (Own x i) u = (came_of i u [], refl)
  deed_took (Took q able e) u = (came_of (input.Comes q able e.parcel) u (e ∷ []), refl)

  deed_put : (d : Deed) (v : ℕ) → (does p h d).put v ≡ h.put v ++ map (envelope (does p h d).clock) ((node_after h.node (input_of d)).puts v)
  deed_put (Own x i) v = refl
  deed_put (Took q able e) v = refl

  deed_below : (d : Deed) (u : ℕ) → AreBelow h.clock (h.took u) → AreBelow (does p h d).clock ((does p h d).took u)
  deed_below (Own x i) u b = below_then (clock_after h.clock i []) (h.took u) (came_of i u []) (below_more h.clock (clock_after h.clock i []) (most h.clock (clock_after h.clock i []) (clock_rises h.clock i [])) (h.took u) b)
      (subst (AreBelow (clock_after h.clock i [])) (sym (none_came i u)) tt)
    where
      most : (a b : ℕ) → a + 1 ≤ b → a ≤ b
      most a b h = grind arith
  deed_below (Took q able e) u b = below_then (max h.clock e.clock + 1) (h.took u) (if u == q then e ∷ [] else []) (below_more h.clock (max h.clock e.clock + 1) (most h.clock e.clock) (h.took u) b) (go (u == q))
    where
      most : (a b : ℕ) → a ≤ max a b + 1
      most a b = grind arith

      less : (a b : ℕ) → b < max a b + 1
      less a b = grind arith

      go : (c : Bool) → AreBelow (max h.clock e.clock + 1) (if c then e ∷ [] else [])
      go true = (less h.clock e.clock, tt)
      go false = tt

module _ (n first : ℕ) where
  took_below : (p : ℕ) (ds : List Deed) (u : ℕ) → AreBelow (made n first p ds).clock ((made n first p ds).took u)
  took_below p [] u = tt
  took_below p (d ∷ ds) u = deed_below p (made n first p ds) d u (took_below p ds u)

  -- a step of a process by itself
  own_more : (have : ℕ → Holdings) (s : IsSorted n first have) (x : ProtocolStep) (i : Input) → input_at (have (stepper x)).node x [] ≡ Some i →
      ((q : ℕ) → NotBefore (have q).clock q (clock_after (have (stepper x)).clock i []) (stepper x)) → IsSorted n first (after have (stepper x) [] i)
  own_more have s x i e latest = one_more n first have s (stepper x) [] i x net refl
      (own_step net x i (subst (λ (y : NodeState). input_at y x [] ≡ Some i) nodes e) ∙ ap (λ (y : NodeState). with_doing net (stepper x) (node_after y i)) (sym nodes))
      (subst (λ (y : NodeState). IsNet (after have (stepper x) [] i) (with_doing net (stepper x) (node_after y i))) (sym nodes) (command have net (stepper x) i (none_came i) s.net))
      (clock_rises (have (stepper x)).clock i []) latest
    where
      net : Net
      net = net_run (opening_net n first) s.steps

      nodes : (have (stepper x)).node ≡ net.nodes (stepper x)
      nodes = s.net.nodes (stepper x)

  -- and one at which it takes a parcel
  took_more : (have : ℕ → Holdings) (s : IsSorted n first have) (p q : ℕ) (able : Bool) (e : Envelope) → (not (is_in_rollback (have p).node) && has_some ((have p).node.held q)) ≡ false →
      IsLater ((have p).took q ++ e ∷ []) ((have q).put p) →
      ((u : ℕ) → NotBefore (have u).clock u (clock_after (have p).clock (input.Comes q able e.parcel) (e ∷ [])) p) → IsSorted n first (after have p (e ∷ []) (input.Comes q able e.parcel))
  took_more have s p q able e free later latest = one_more n first have s p (e ∷ []) (input.Comes q able e.parcel) (Take p q able) (with_rest net q p f.0) refl
      (step_taken have net p q able e.parcel f.0 s.net free front) (front_taken have net p q able e f.0 s.net front)
      (clock_rises (have p).clock (input.Comes q able e.parcel) (e ∷ [])) latest
    where
      net : Net
      net = net_run (opening_net n first) s.steps

      f : IsFront (parcels ((have p).took q ++ e ∷ [])) (parcels ((have q).put p))
      f = later_parcels ((have p).took q ++ e ∷ []) ((have q).put p) later

      front : net.channel q p ≡ e.parcel ∷ f.0
      front = append_cancel_left (parcels ((have p).took q)) _ _ (sym (s.net.channels q p) ∙ f.1
          ∙ ap (λ (l : List NodeParcel). l ++ f.0) (map-append (λ (x : Envelope). x.parcel) ((have p).took q) (e ∷ [])) ∙ append_assoc (parcels ((have p).took q)) (e.parcel ∷ []) f.0)

  module _ (most : ℕ) where
    abbrev pub have_of : (ℕ → List Deed) → ℕ → Holdings
    have_of s q = made n first q (s q)

    -- each process's deeds, of which those up to `most` have some
    pub record Story (s : ℕ → List Deed) : Type 0 where
      pub done : (q : ℕ) → AreDone n first q (s q)
      pub idle : (q : ℕ) → most < q → s q ≡ []
      pub later : (p q : ℕ) → IsLater ((have_of s q).took p) ((have_of s p).put q)

    abbrev pub total : ℕ → (ℕ → List Deed) → ℕ
    total zero s = length (s 0)
    total (suc m) s = length (s (suc m)) + total m s

    total_less : (m : ℕ) (s : ℕ → List Deed) (p : ℕ) (d : Deed) (ds : List Deed) → p ≤ m → s p ≡ d ∷ ds → total m (at_one p ds s) + 1 ≡ total m s
    total_less zero s p d ds h e = subst (λ (u : ℕ). length (at_one u ds s 0) + 1 ≡ length (s 0)) (sym (only p h)) (one (length ds) ∙ sym (ap (length {A = Deed}) (subst (λ (u : ℕ). s u ≡ d ∷ ds) (only p h) e)))
      where
        only : (q : ℕ) → q ≤ 0 → q ≡ 0
        only q g = grind arith

        one : (l : ℕ) → l + 1 ≡ suc l
        one l = grind arith
    total_less (suc m) s p d ds h e = elim (cases_eq p (suc m)) [
      | inl g ↦ subst (λ (u : ℕ). total (suc m) (at_one u ds s) + 1 ≡ total (suc m) s) (sym g)
          (add (length (at_one (suc m) ds s (suc m))) (length ds) (length (s (suc m))) (total m (at_one (suc m) ds s)) (total m s) (ap (length {A = Deed}) (at_one_here (suc m) ds s)) (ap (length {A = Deed}) (subst (λ (u : ℕ). s u ≡ d ∷ ds) g e)) (total_same m m (suc m) s ds (below m)))
      | inr g ↦ rest (length (at_one p ds s (suc m))) (length (s (suc m))) (total m (at_one p ds s)) (total m s) (ap (length {A = Deed}) (at_one_other p (suc m) ds s (λ k. g (sym k)))) (total_less m s p d ds (lower p m h g) e)
    ]
      where
        below : (m : ℕ) → m < suc m
        below m = grind arith

        lower : (p m : ℕ) → p ≤ suc m → p ≢ suc m → p ≤ m
        lower p m h g = grind arith

        add : (a l b c d : ℕ) → a ≡ l → b ≡ suc l → c ≡ d → (a + c) + 1 ≡ b + d
        add a l b c d f g h = grind arith

        rest : (a b c d : ℕ) → a ≡ b → c + 1 ≡ d → (a + c) + 1 ≡ b + d
        rest a b c d f g = grind arith

        total_same : (k m p : ℕ) (s : ℕ → List Deed) (ds : List Deed) → m < p → total m (at_one p ds s) ≡ total m s
        total_same k zero p s ds h = ap (length {A = Deed}) (at_one_other p 0 ds s (apart 0 p h))
          where
            apart : (a b : ℕ) → a < b → a ≢ b
            apart a b h e = absurd (omega (arith, h, e))
        total_same k (suc m) p s ds h = ap₂ (λ (a b : ℕ). a + b) (ap (length {A = Deed}) (at_one_other p (suc m) ds s (apart (suc m) p h))) (total_same k m p s ds (less m p h))
          where
            apart : (a b : ℕ) → a < b → a ≢ b
            apart a b h e = absurd (omega (arith, h, e))

            less : (m p : ℕ) → suc m < p → m < p
            less m p h = grind arith

    -- the last deed of the one whose clock is the greatest
    module _ (s : ℕ → List Deed) (story : Story s) (p : ℕ) (inside : p ≤ most) (latest : (q : ℕ) → NotBefore (have_of s q).clock q (have_of s p).clock p) (d : Deed) (ds : List Deed) (is : s p ≡ d ∷ ds) where
      abbrev pub before : ℕ → List Deed
      before = at_one p ds s

      abbrev pub h : Holdings
      h = made n first p ds

      abbrev pub k : ℕ
      k = (does p h d).clock

      clock_is : (have_of s p).clock ≡ k
      clock_is = ap (λ (l : List Deed). (made n first p l).clock) is

      rises : h.clock + 1 ≤ k
      rises = deed_rises p h d

      -- what each has then is what it had, or less
      took_front : (q u : ℕ) → IsFront ((have_of before q).took u) ((have_of s q).took u)
      took_front q u = at_each (λ q. IsFront ((have_of before q).took u) ((have_of s q).took u)) p
          (rw (is_same p) (rw is (deed_took p h d u))) (λ q e. rw e (front_refl ((have_of s q).took u))) q

      no_later : (q : ℕ) → NotBefore (have_of before q).clock q k p
      no_later = at_each (λ q. NotBefore (have_of before q).clock q k p) p
          (rw (is_same p) (inl (below h.clock k rises))) (λ q e. rw e (subst (λ (j : ℕ). NotBefore (have_of s q).clock q j p) clock_is (latest q)))
        where
          below : (a b : ℕ) → a + 1 ≤ b → a < b
          below a b l = grind arith

      at_most : (a q b r : ℕ) → NotBefore a q b r → a ≤ b
      at_most a q b r f = elim f [ inl l ↦ omega (arith, l) | inr l ↦ omega (arith, l.0) ]

      took_early : (q u : ℕ) → AreBelow k ((have_of before q).took u)
      took_early q u = below_more (have_of before q).clock k (at_most _ q k p (no_later q)) ((have_of before q).took u) (took_below q (before q) u)

      -- nobody took what the last deed put
      put_early : (es : List Envelope) (a b : ℕ) → AreBelow k es → IsLater es ((have_of s a).put b) → IsLater es ((have_of before a).put b)
      put_early es a b early = at_each (λ a. IsLater es ((have_of s a).put b) → IsLater es ((have_of before a).put b)) p
          (rw (is_same p) (λ f. trimmed k es (h.put b) ((node_after h.node (input_of d)).puts b) (subst (λ (l : List Envelope). IsLater es l) (ap (λ (l : List Deed). (made n first p l).put b) is ∙ deed_put p h d b) f) early))
          (λ a e. rw e (λ f. f)) a

      story_before : Story before
      story_before = record {
        done = at_each (λ q. AreDone n first q (before q)) p (rw (is_same p) (tail_done d (subst (AreDone n first p) is (story.done p)))) (λ q e. rw e (story.done q));
        idle = λ q. at_each (λ q. most < q → before q ≡ []) p (λ f. absurd (no p most inside f)) (λ q e f. rw e (story.idle q f)) q;
        later = λ a b. put_early ((have_of before b).took a) a b (took_early b a) (later_front _ _ _ (took_front b a) (story.later a b));
      }
        where
          no : (p m : ℕ) → p ≤ m → m < p → ⊥
          no p m f g = grind arith

          tail_done : (d : Deed) → AreDone n first p (d ∷ ds) → AreDone n first p ds
          tail_done (Own x i) f = f.2
          tail_done (Took q able e) f = f.1

      -- and the step itself
      here : (have_of before p) ≡ h
      here = ap (made n first p) (at_one_here p ds s)

      deed_more : (d : Deed) → AreDone n first p (d ∷ ds) → ((q : ℕ) → NotBefore (have_of before q).clock q (does p h d).clock p) →
          ((u : ℕ) → IsLater ((does p h d).took u) ((have_of before u).put p)) → IsSorted n first (have_of before) → IsSorted n first (at_one p (does p h d) (have_of before))
      deed_more (Own x i) done latest later sorted = subst (λ (g : Holdings). IsSorted n first (at_one p (having_done p g [] i) (have_of before))) here
          (subst (λ (u : ℕ). IsSorted n first (after (have_of before) u [] i)) done.0
          (own_more (have_of before) sorted x i
          (subst (λ (u : ℕ). input_at (have_of before u).node x [] ≡ Some i) (sym done.0) (subst (λ (g : Holdings). input_at g.node x [] ≡ Some i) (sym here) done.1))
          (subst (λ (u : ℕ). (q : ℕ) → NotBefore (have_of before q).clock q (clock_after (have_of before u).clock i []) u) (sym done.0)
          (subst (λ (g : Holdings). (q : ℕ) → NotBefore (have_of before q).clock q (clock_after g.clock i []) p) (sym here) latest))))
      deed_more (Took q able e) done latest later sorted = subst (λ (g : Holdings). IsSorted n first (at_one p (having_done p g (e ∷ []) (input.Comes q able e.parcel)) (have_of before))) here
          (took_more (have_of before) sorted p q able e
          (subst (λ (g : Holdings). (not (is_in_rollback g.node) && has_some (g.node.held q)) ≡ false) (sym here) done.0)
          (subst (λ (g : Holdings). IsLater (g.took q ++ e ∷ []) ((have_of before q).put p)) (sym here) (subst (λ (b : Bool). IsLater (h.took q ++ (if b then e ∷ [] else [])) ((have_of before q).put p)) (is_same q) (later q)))
          (subst (λ (g : Holdings). (u : ℕ) → NotBefore (have_of before u).clock u (clock_after g.clock (input.Comes q able e.parcel) (e ∷ [])) p) (sym here) latest))

      back_again : (q : ℕ) → at_one p (does p h d) (have_of before) q ≡ have_of s q
      back_again = at_each (λ q. at_one p (does p h d) (have_of before) q ≡ have_of s q) p (rw (is_same p) (ap (made n first p) (sym is))) (λ q e. rw e refl)

      later_own : (u : ℕ) → IsLater ((does p h d).took u) ((have_of before u).put p)
      later_own u = put_early ((does p h d).took u) u p (deed_below p h d u (took_below p ds u)) (subst (λ (l : List Deed). IsLater ((made n first p l).took u) ((have_of s u).put p)) is (story.later u p))

      pub last_more : IsSorted n first (have_of before) → IsSorted n first (have_of s)
      last_more sorted = alike_sorted n first _ (have_of s) back_again (deed_more d (subst (AreDone n first p) is (story.done p)) no_later later_own sorted)

    -- where nobody did anything
    all_idle : (s : ℕ → List Deed) → Story s → (p : ℕ) → ((q : ℕ) → q ≤ most → NotBefore (have_of s q).clock q (have_of s p).clock p) → s p ≡ [] → IsSorted n first (have_of s)
    all_idle s story p latest e = alike_sorted n first (opening_holdings n first) (have_of s) (λ q. sym (ap (made n first q) (none q))) (opening_sorted n first)
      where
        zero_clock : (q : ℕ) → q ≤ most → (have_of s q).clock ≡ 0
        zero_clock q h = nothing (have_of s q).clock q p (subst (λ (l : List Deed). NotBefore (have_of s q).clock q (made n first p l).clock p) e (latest q h))
          where
            nothing : (c q p : ℕ) → NotBefore c q 0 p → c ≡ 0
            nothing c q p f = elim f [ inl l ↦ absurd (omega (arith, l)) | inr l ↦ l.0 ]

        empty : (q : ℕ) (ds : List Deed) → (made n first q ds).clock ≡ 0 → ds ≡ []
        empty q [] f = refl
        empty q (d ∷ ds) f = absurd (no (made n first q ds).clock (does q (made n first q ds) d).clock (deed_rises q (made n first q ds) d) f)
          where
            no : (a b : ℕ) → a + 1 ≤ b → b ≡ 0 → ⊥
            no a b g h = grind arith

        none : (q : ℕ) → s q ≡ []
        none q = elim (cases_lt most q) [ inl l ↦ story.idle q l | inr g ↦ empty q (s q) (zero_clock q g) ]

    pub in_order : (k : ℕ) (s : ℕ → List Deed) → total most s ≤ k → Story s → IsSorted n first (have_of s)
    in_order zero s less story = let r = latest_of (λ q. (have_of s q).clock) most in at_end (s r.0) r.0 r.1 r.2 refl
      where
        no : (a b : ℕ) → a + 1 ≡ b → b ≤ 0 → ⊥
        no a b f g = grind arith

        at_end : (l : List Deed) (p : ℕ) → p ≤ most → ((q : ℕ) → q ≤ most → NotBefore (have_of s q).clock q (have_of s p).clock p) → s p ≡ l → IsSorted n first (have_of s)
        at_end [] p inside latest e = all_idle s story p latest e
        at_end (d ∷ ds) p inside latest e = absurd (no (total most (at_one p ds s)) (total most s) (total_less most s p d ds inside e) less)
    in_order (suc k) s less story = let r = latest_of (λ q. (have_of s q).clock) most in go (s r.0) r.0 r.1 r.2 refl (λ t l u. in_order k t l u)
      where
        -- those beyond are at the opening
        all : (p : ℕ) → ((q : ℕ) → q ≤ most → NotBefore (have_of s q).clock q (have_of s p).clock p) → 1 ≤ (have_of s p).clock → (q : ℕ) → NotBefore (have_of s q).clock q (have_of s p).clock p
        all p latest some q = elim (cases_lt most q) [
          | inl l ↦ subst (λ (x : List Deed). NotBefore (made n first q x).clock q (have_of s p).clock p) (sym (story.idle q l)) (inl (below (have_of s p).clock some))
          | inr g ↦ latest q g
        ]
          where
            below : (k : ℕ) → 1 ≤ k → 0 < k
            below k h = grind arith

        go : (l : List Deed) (p : ℕ) → p ≤ most → ((q : ℕ) → q ≤ most → NotBefore (have_of s q).clock q (have_of s p).clock p) → s p ≡ l →
            ((t : ℕ → List Deed) → total most t ≤ k → Story t → IsSorted n first (have_of t)) → IsSorted n first (have_of s)
        go [] p inside latest e rest = all_idle s story p latest e
        go (d ∷ ds) p inside latest e rest =
            let late = all p latest (some (made n first p ds).clock (have_of s p).clock (subst (λ (l : List Deed). (made n first p ds).clock + 1 ≤ (made n first p l).clock) (sym e) (deed_rises p (made n first p ds) d))) in
            last_more s story p inside late d ds e (rest (at_one p ds s) (fewer (total most (at_one p ds s)) (total most s) k (total_less most s p d ds inside e) less) (story_before s story p inside late d ds e))
          where
            some : (a b : ℕ) → a + 1 ≤ b → 1 ≤ b
            some a b f = grind arith

            fewer : (a b k : ℕ) → a + 1 ≡ b → b ≤ suc k → a ≤ k
            fewer a b k f g = grind arith
