-- The steps of a run in the order of clocks.
use Rattle.std.proofs.Common.{◌≡◌, ◌≢◌, ◌∙◌, ℕ, ◌+◌, ◌≤◌, ◌<◌, Option, Some, None, List, [], ◌∷◌, ◌++◌, ◌⊎◌, map, refl, sym, ap, ap₂, subst, arith, inl, inr, append_assoc}
use Rattle.std.specs.Prelude.{◌==◌}
use Rattle.std.proofs.lemmas.Bool.{cases_eq, cases_lt, cases_order}
use Rattle.std.proofs.lemmas.List.{append-nil}
use Rattle.std.proofs.lemmas.List.Elements.{filter-append}
use Rattle.kt_protocol.proofs.Updates.{at_one_here}
use Rattle.kt_protocol.specs.States.{ProtocolStep}
use Rattle.kt_machine.specs.Acts.{stepper}
use Rattle.kt_spacetime.specs.declared.named_rows.NamedEvent.{NamedEvent}
use Rattle.kt_node.specs.Inputs.{Input}
use Rattle.kt_node.specs.NodeSteps.{node_after}
use Rattle.kt_spacetime.specs.declared.named_rows.ClockedRow.{ClockedRow}
use Rattle.kt_spacetime.specs.ClockedRows.{rows_of}
use Rattle.kt_node.specs.Clocks.{ClockedNet, clocked_row, source_of, input_at, clocked_doing, at_input, clocked_step, clocked_run, opening_clocked_from, AreByClock}
use Rattle.kt_node.proofs.NetInputs.{clock_rises}
use Rattle.kt_node.proofs.BothOrders.{bare, Same, same_refl, same_then, HappensAt, clock_at, step_is}
use Rattle.kt_node.proofs.Swaps.{swap}

-- a clock and a process come no earlier than others, or before them
abbrev pub NotBefore : ℕ → ℕ → ℕ → ℕ → Type 0
NotBefore a p b q = (a < b) ⊎ ((a ≡ b) × (p ≤ q))

abbrev pub Before : ℕ → ℕ → ℕ → ℕ → Type 0
Before a p b q = (a < b) ⊎ ((a ≡ b) × (p < q))

either : (a p b q : ℕ) → NotBefore a p b q ⊎ Before b q a p
either a p b q = elim (cases_order a b) [
  | inl e ↦ elim (cases_lt q p) [ inl l ↦ inr (inr (sym e, l)) | inr g ↦ inl (inr (e, g)) ]
  | inr r ↦ elim r [ inl l ↦ inl (inl l) | inr g ↦ inr (inl g) ]
]

pub not_before_refl : (a p : ℕ) → NotBefore a p a p
not_before_refl a p = inr (refl, omega arith)

before_then : (a p b q c r : ℕ) → Before a p b q → NotBefore b q c r → Before a p c r
before_then a p b q c r f g = elim f [
  | inl l ↦ elim g [ inl m ↦ inl (omega (arith, l, m)) | inr m ↦ inl (omega (arith, l, m.0)) ]
  | inr l ↦ elim g [ inl m ↦ inl (omega (arith, l.0, m)) | inr m ↦ inr (l.0 ∙ m.0, omega (arith, l.1, m.1)) ]
]

not_before : (a p b q : ℕ) → Before a p b q → NotBefore a p b q
not_before a p b q f = elim f [ inl l ↦ inl l | inr l ↦ inr (l.0, omega (arith, l.1)) ]

pub not_before_then : (a p b q c r : ℕ) → NotBefore a p b q → NotBefore b q c r → NotBefore a p c r
not_before_then a p b q c r f g = elim f [
  | inl l ↦ elim g [ inl m ↦ inl (omega (arith, l, m)) | inr m ↦ inl (omega (arith, l, m.0)) ]
  | inr l ↦ elim g [ inl m ↦ inl (omega (arith, l.0, m)) | inr m ↦ inr (l.0 ∙ m.0, omega (arith, l.1, m.1)) ]
]

at_most : (a p b q : ℕ) → Before a p b q → a ≤ b
at_most a p b q f = elim f [ inl l ↦ omega (arith, l) | inr l ↦ omega (arith, l.0) ]

-- a step by what it is of, without rows
bare_at : (w : ClockedNet) (p q : ℕ) (o : Option Input) → bare (at_input w p q o) ≡ bare (at_input (bare w) p q o)
bare_at w p q None = refl
bare_at w p q (Some i) = refl

pub bare_step : (w : ClockedNet) (x : ProtocolStep) → bare (clocked_step w x) ≡ bare (clocked_step (bare w) x)
bare_step w x = bare_at w (stepper x) (source_of x) (input_at (w.nodes (stepper x)) x (w.channel (source_of x) (stepper x)))

-- and its rows
rows_at : (w : ClockedNet) (p q : ℕ) (o : Option Input) → (at_input w p q o).rows ≡ w.rows ++ (at_input (bare w) p q o).rows
rows_at w p q None = sym (append-nil w.rows)
rows_at w p q (Some i) = refl

rows_step : (w : ClockedNet) (x : ProtocolStep) → (clocked_step w x).rows ≡ w.rows ++ (clocked_step (bare w) x).rows
rows_step w x = rows_at w (stepper x) (source_of x) (input_at (w.nodes (stepper x)) x (w.channel (source_of x) (stepper x)))

part_more : (p : ℕ) (w : ClockedNet) (x : ProtocolStep) → rows_of p (clocked_step w x).rows ≡ rows_of p w.rows ++ rows_of p (clocked_step (bare w) x).rows
part_more p w x = ap (rows_of p) (rows_step w x) ∙ filter-append (λ (r : ClockedRow). r.row.p == p) w.rows (clocked_step (bare w) x).rows

-- the same steps
pub same_step : (w u : ClockedNet) (x : ProtocolStep) → Same w u → Same (clocked_step w x) (clocked_step u x)
same_step w u x s = record {
  nets = bare_step w x ∙ (ap (λ (b : ClockedNet). bare (clocked_step b x)) s.nets ∙ sym (bare_step u x));
  parts = λ p. part_more p w x ∙ (ap₂ (λ (a : List ClockedRow) (b : ClockedNet). a ++ rows_of p (clocked_step b x).rows) (s.parts p) s.nets ∙ sym (part_more p u x));
}

pub same_run : (w u : ClockedNet) (xs : List ProtocolStep) → Same w u → Same (clocked_run w xs) (clocked_run u xs)
same_run w u [] s = s
same_run w u (x ∷ xs) s = same_run (clocked_step w x) (clocked_step u x) xs (same_step w u x s)

-- each step happens, in the order of clocks and processes, from this clock and process on
pub SortedFrom : ClockedNet → ℕ → ℕ → List ProtocolStep → Type 0
SortedFrom b k p [] = Unit {0}
SortedFrom b k p (z ∷ zs) = (h : HappensAt b z) × NotBefore k p (clock_at b z h) (stepper z) × SortedFrom (bare (clocked_step b z)) (clock_at b z h) (stepper z) zs

lower : (b : ClockedNet) (j q k p : ℕ) (zs : List ProtocolStep) → NotBefore j q k p → SortedFrom b k p zs → SortedFrom b j q zs
unfolding SortedFrom
lower b j q k p [] n s = tt
lower b j q k p (z ∷ zs) n s = (s.0, not_before_then j q k p (clock_at b z s.0) (stepper z) n s.1, s.2)

-- a step that comes last by the run, and first by the clock
pub record Fronted (w : ClockedNet) (j q : ℕ) (zs : List ProtocolStep) (x : ProtocolStep) (k : ℕ) : Type 0 where
  pub happens : HappensAt w x
  pub clock : clock_at w x happens ≡ k
  pub sorted : SortedFrom (bare (clocked_step w x)) j q zs
  pub same : Same (clocked_run (clocked_step w x) zs) (clocked_step (clocked_run w zs) x)

fronted : (w : ClockedNet) (j q : ℕ) (zs : List ProtocolStep) (x : ProtocolStep) → SortedFrom (bare w) j q zs → (h : HappensAt (clocked_run w zs) x) → Before (clock_at (clocked_run w zs) x h) (stepper x) j q
    → Fronted w j q zs x (clock_at (clocked_run w zs) x h)
unfolding SortedFrom
fronted w j q [] x s h b = record { happens = h; clock = refl; sorted = tt; same = same_refl (clocked_step w x) }
fronted w j q (z ∷ zs) x s h b =
    let k = clock_at w z s.0 in
    let u = clocked_step w z in
    let before = before_then (clock_at (clocked_run u zs) x h) (stepper x) j q k (stepper z) b s.1 in
    let f = fronted u k (stepper z) zs x (subst (λ (c : ClockedNet). SortedFrom c k (stepper z) zs) (sym (bare_step w z)) s.2) h before in
    let low = subst (λ (n : ℕ). n ≤ k) (sym f.clock) (at_most (clock_at (clocked_run u zs) x h) (stepper x) k (stepper z) before) in
    let t = swap w z x s.0 (apart w z x s.0 f.happens (clock_at (clocked_run u zs) x h) f.clock before) f.happens low in
    record {
      happens = t.happens;
      clock = t.clock ∙ f.clock;
      sorted = (
        t.again,
        subst (λ (n : ℕ). NotBefore j q n (stepper z)) (sym t.again_clock) s.1,
        subst (λ (n : ℕ). SortedFrom (bare (clocked_step (bare (clocked_step w x)) z)) n (stepper z) zs) (sym t.again_clock)
            (subst (λ (c : ClockedNet). SortedFrom c k (stepper z) zs) (sym t.same.nets ∙ bare_step (clocked_step w x) z) f.sorted),
      );
      same = same_then _ _ _ (same_run (clocked_step (clocked_step w x) z) (clocked_step u x) zs t.same) f.same;
    }
  where
    apart : (w : ClockedNet) (z x : ProtocolStep) (hz : HappensAt w z) (hx : HappensAt (clocked_step w z) x) (k : ℕ) → clock_at (clocked_step w z) x hx ≡ k → Before k (stepper x) (clock_at w z hz) (stepper z) → stepper x ≢ stepper z
    apart w z x hz hx k e b same =
        let high = at_most k (stepper x) (clock_at w z hz) (stepper z) b in
        let rises = clock_rises ((clocked_step w z).clock (stepper x)) hx.input ((clocked_step w z).channel (source_of x) (stepper x)) in
        let now : (clocked_step w z).clock (stepper x) ≡ clock_at w z hz = ap (λ (u : ClockedNet). u.clock (stepper x)) (step_is w z hz) ∙ (ap (clocked_doing w (stepper z) (source_of z) hz.input).clock same ∙ at_one_here (stepper z) (clock_at w z hz) w.clock) in
        absurd (too_high ((clocked_step w z).clock (stepper x)) (clock_at (clocked_step w z) x hx) k (clock_at w z hz) rises e high now)
      where
        too_high : (c n k m : ℕ) → c + 1 ≤ n → n ≡ k → k ≤ m → c ≡ m → ⊥
        too_high c n k m a e h f = absurd (omega (arith, a, e, h, f))

-- one more step in its place
inserted : (w : ClockedNet) (j q : ℕ) (zs : List ProtocolStep) (x : ProtocolStep) → SortedFrom (bare w) j q zs → (h : HappensAt (clocked_run w zs) x) → NotBefore j q (clock_at (clocked_run w zs) x h) (stepper x)
    → (ys : List ProtocolStep) × SortedFrom (bare w) j q ys × Same (clocked_run w ys) (clocked_step (clocked_run w zs) x)
unfolding SortedFrom
inserted w j q [] x s h n = (x ∷ [], (h, n, tt), same_refl (clocked_step w x))
inserted w j q (z ∷ zs) x s h n = elim (either (clock_at w z s.0) (stepper z) (clock_at (clocked_run (clocked_step w z) zs) x h) (stepper x)) [
  | inl m ↦
      let k = clock_at w z s.0 in
      let r = inserted (clocked_step w z) k (stepper z) zs x (subst (λ (c : ClockedNet). SortedFrom c k (stepper z) zs) (sym (bare_step w z)) s.2) h m in
      (z ∷ r.0, (s.0, s.1, subst (λ (c : ClockedNet). SortedFrom c k (stepper z) r.0) (bare_step w z) r.1), r.2)
  | inr b ↦
      let k = clock_at w z s.0 in
      let f = fronted w k (stepper z) (z ∷ zs) x (s.0, not_before_refl k (stepper z), s.2) h b in
      let kx = clock_at (clocked_run (clocked_step w z) zs) x h in (
        x ∷ z ∷ zs,
        (
          f.happens,
          subst (λ (c : ℕ). NotBefore j q c (stepper x)) (sym f.clock) n,
          lower (bare (clocked_step (bare w) x)) (clock_at w x f.happens) (stepper x) k (stepper z) (z ∷ zs)
              (subst (λ (c : ℕ). NotBefore c (stepper x) k (stepper z)) (sym f.clock) (not_before kx (stepper x) k (stepper z) b))
              (subst (λ (c : ClockedNet). SortedFrom c k (stepper z) (z ∷ zs)) (bare_step w x) f.sorted),
        ),
        f.same,
      )
]

-- all of them
sorted_along : (w : ClockedNet) (zs xs : List ProtocolStep) → SortedFrom (bare w) 0 0 zs → (ys : List ProtocolStep) × SortedFrom (bare w) 0 0 ys × Same (clocked_run w ys) (clocked_run (clocked_run w zs) xs)
sorted_along w zs [] s = (zs, s, same_refl (clocked_run w zs))
sorted_along w zs (x ∷ xs) s = at_input_of (input_at ((clocked_run w zs).nodes (stepper x)) x ((clocked_run w zs).channel (source_of x) (stepper x))) refl (λ us t. sorted_along w us xs t)
  where
    lowest : (k p : ℕ) → NotBefore 0 0 k p
    lowest k p = elim (cases_eq 0 k) [ inl e ↦ inr (e, omega arith) | inr n ↦ inl (omega (arith, n)) ]

    at_input_of : (o : Option Input) → input_at ((clocked_run w zs).nodes (stepper x)) x ((clocked_run w zs).channel (source_of x) (stepper x)) ≡ o
        → ((us : List ProtocolStep) → SortedFrom (bare w) 0 0 us → (ys : List ProtocolStep) × SortedFrom (bare w) 0 0 ys × Same (clocked_run w ys) (clocked_run (clocked_run w us) xs))
        → (ys : List ProtocolStep) × SortedFrom (bare w) 0 0 ys × Same (clocked_run w ys) (clocked_run (clocked_step (clocked_run w zs) x) xs)
    at_input_of None e rest = subst (λ (u : ClockedNet). (ys : List ProtocolStep) × SortedFrom (bare w) 0 0 ys × Same (clocked_run w ys) (clocked_run u xs)) (sym (ap (at_input (clocked_run w zs) (stepper x) (source_of x)) e)) (rest zs s)
    at_input_of (Some i) e rest =
        let h : HappensAt (clocked_run w zs) x = record { input = i; is = e } in
        let r = inserted w 0 0 zs x s h (lowest (clock_at (clocked_run w zs) x h) (stepper x)) in
        let t = rest r.0 r.1 in
        (t.0, t.1, same_then _ _ _ t.2 (same_run (clocked_run w r.0) (clocked_step (clocked_run w zs) x) xs r.2))

-- rows of sorted steps are sorted
raised : (j q k p : ℕ) (rows : List ClockedRow) → NotBefore j q k p → AreByClock k p rows → AreByClock j q rows
raised j q k p [] n a = tt
raised j q k p (r ∷ rows) n a = (not_before_then j q k p r.clock r.row.p n a.0, a.1)

rows_then : (j q k p : ℕ) (events : List NamedEvent) (rows : List ClockedRow) → NotBefore j q k p → AreByClock k p rows → AreByClock j q (map (clocked_row p k) events ++ rows)
rows_then j q k p [] rows n a = raised j q k p rows n a
rows_then j q k p (e ∷ events) rows n a = (n, rows_then k p k p events rows (not_before_refl k p) a)

rows_sorted : (w : ClockedNet) (k p : ℕ) (zs : List ProtocolStep) → SortedFrom (bare w) k p zs → (rows : List ClockedRow) × ((clocked_run w zs).rows ≡ w.rows ++ rows) × AreByClock k p rows
unfolding SortedFrom
rows_sorted w k p [] s = ([], sym (append-nil w.rows), tt)
rows_sorted w k p (z ∷ zs) s =
    let c = clock_at w z s.0 in
    let events = (node_after (w.nodes (stepper z)) s.0.input).rows in
    let r = rows_sorted (clocked_step w z) c (stepper z) zs (subst (λ (b : ClockedNet). SortedFrom b c (stepper z) zs) (sym (bare_step w z)) s.2) in (
      map (clocked_row (stepper z) c) events ++ r.0,
      r.1 ∙ (ap (λ (u : ClockedNet). u.rows ++ r.0) (step_is w z s.0) ∙ append_assoc w.rows (map (clocked_row (stepper z) c) events) r.0),
      rows_then k p c (stepper z) events r.0 s.1 r.2,
    )

pub sorted_run : (n : ℕ) (first : ℕ → ℕ) (steps : List ProtocolStep) → (ys : List ProtocolStep) × AreByClock 0 0 (clocked_run (opening_clocked_from n first) ys).rows
    × ((p : ℕ) → rows_of p (clocked_run (opening_clocked_from n first) ys).rows ≡ rows_of p (clocked_run (opening_clocked_from n first) steps).rows)
unfolding SortedFrom
sorted_run n first steps =
    let s = sorted_along (opening_clocked_from n first) [] steps tt in
    let r = rows_sorted (opening_clocked_from n first) 0 0 s.0 s.1 in
    (s.0, subst (AreByClock 0 0) (sym r.1) r.2, λ p. s.2.parts p)
