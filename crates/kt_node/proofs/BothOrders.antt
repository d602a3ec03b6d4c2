-- What two nodes do, and the same in the other order.
use Rattle.std.proofs.Common.{◌≡◌, ◌≢◌, ◌∙◌, ℕ, Bool, true, false, Some, List, [], ◌∷◌, ◌++◌, ◌⊎◌, map, refl, sym, ap, ap₂, subst, arith, inl, inr}
use Rattle.std.specs.Prelude.{◌==◌, ◌&&◌, if◌then◌else◌}
use Rattle.std.proofs.Math.Path.{fun_ext}
use Rattle.std.proofs.lemmas.Bool.Decides.{nat_tests}
use Rattle.std.proofs.lemmas.List.{append-nil}
use Rattle.std.proofs.lemmas.List.Elements.{filter-append}
use Rattle.kt_meaning.specs.Past.{at_one}
use Rattle.kt_protocol.specs.States.{ProtocolStep}
use Rattle.kt_machine.specs.Acts.{stepper}
use Rattle.kt_spacetime.specs.declared.named_rows.NamedEvent.{NamedEvent}
use Rattle.kt_manager.specs.Nodes.{NodeState, Doing}
use Rattle.kt_node.specs.Inputs.{Input}
use Rattle.kt_spacetime.specs.declared.named_rows.ClockedRow.{ClockedRow}
use Rattle.kt_spacetime.specs.ClockedRows.{rows_of}
use Rattle.kt_node.specs.Clocks.{Envelope, ClockedNet, envelope, clocked_row, source_of, input_at, clock_after, clocked_doing, at_input, clocked_step}

-- without rows
abbrev pub bare : ClockedNet → ClockedNet
bare w = record w { rows = [] }

-- equal but for the order of rows of different processes
pub record Same (w u : ClockedNet) : Type 0 where
  pub nets : bare w ≡ bare u
  pub parts : (p : ℕ) → rows_of p w.rows ≡ rows_of p u.rows

pub same_refl : (w : ClockedNet) → Same w w
same_refl w = record { nets = refl; parts = λ p. refl }

pub same_sym : (a b : ClockedNet) → Same a b → Same b a
same_sym a b s = record { nets = sym s.nets; parts = λ p. sym (s.parts p) }

pub same_then : (a b c : ClockedNet) → Same a b → Same b c → Same a c
same_then a b c s t = record { nets = s.nets ∙ t.nets; parts = λ p. s.parts p ∙ t.parts p }

-- an input comes to the node that steps
pub record Happens (y : NodeState) (x : ProtocolStep) (es : List Envelope) : Type 0 where
  pub input : Input
  pub is : input_at y x es ≡ Some input

abbrev pub HappensAt : ClockedNet → ProtocolStep → Type 0
HappensAt w x = Happens (w.nodes (stepper x)) x (w.channel (source_of x) (stepper x))

abbrev pub clock_at : (w : ClockedNet) (x : ProtocolStep) → HappensAt w x → ℕ
clock_at w x h = clock_after (w.clock (stepper x)) h.input (w.channel (source_of x) (stepper x))

pub step_is : (w : ClockedNet) (x : ProtocolStep) (h : HappensAt w x) → clocked_step w x ≡ clocked_doing w (stepper x) (source_of x) h.input
step_is w x h = ap (at_input w (stepper x) (source_of x)) h.is

-- p does this
abbrev pub doing_by : ClockedNet → ℕ → ℕ → Doing → ℕ → List Envelope → ClockedNet
doing_by w p q d clock left = record {
  nodes = at_one p d.state w.nodes;
  clock = at_one p clock w.clock;
  channel = λ u v. (if u == q && v == p then left else w.channel u v) ++ (if u == p then map (envelope clock) (d.puts v) else []);
  rows = w.rows ++ map (clocked_row p clock) d.rows;
}

-- what it puts for another one
abbrev pub puts_for : ℕ → Doing → ℕ → ℕ → ℕ → List Envelope
puts_for p d clock q v = if q == p then map (envelope clock) (d.puts v) else []

at_two : {X : Type 0} (p q : ℕ) (a b : X) (f : ℕ → X) → q ≢ p → at_one q a (at_one p b f) ≡ at_one p b (at_one q a f)
at_two {X} p q a b f n = fun_ext (λ u. go u (u == q) (u == p) refl refl)
  where
    equal : (a b : ℕ) → (a == b) ≡ true → a ≡ b
    equal a b e = grind (arith, nat_tests)

    go : (u : ℕ) (s t : Bool) → (u == q) ≡ s → (u == p) ≡ t → (if s then a else if t then b else f u) ≡ (if t then b else if s then a else f u)
    go u true true e g = absurd (n (sym (equal u q e) ∙ equal u p g))
    go u true false e g = refl
    go u false true e g = refl
    go u false false e g = refl

-- one of two lists is empty
other_way : {X : Type 0} (l a b : List X) → (a ≡ []) ⊎ (b ≡ []) → (l ++ a) ++ b ≡ (l ++ b) ++ a
other_way {X} l a b h = elim h [
  | inl e ↦ subst (λ (x : List X). (l ++ x) ++ b ≡ (l ++ b) ++ x) (sym e) (ap (λ (x : List X). x ++ b) (append-nil l) ∙ sym (append-nil (l ++ b)))
  | inr e ↦ subst (λ (x : List X). (l ++ a) ++ x ≡ (l ++ x) ++ a) (sym e) (append-nil (l ++ a) ∙ ap (λ (x : List X). x ++ a) (sym (append-nil l)))
]

equal : (a b : ℕ) → (a == b) ≡ true → a ≡ b
equal a b e = grind (arith, nat_tests)

both : (a b : Bool) → (a && b) ≡ true → (a ≡ true) × (b ≡ true)
both true b e = (refl, e)
both false b e = absurd (cc)

module _ (w : ClockedNet) (p s q t : ℕ) (d e : Doing) (j k : ℕ) (l m : List Envelope) (differ : q ≢ p) where
  empty : (u v : ℕ) → (puts_for p d j u v ≡ []) ⊎ (puts_for q e k u v ≡ [])
  empty u v = go (u == p) (u == q) refl refl
    where
      go : (a b : Bool) → (u == p) ≡ a → (u == q) ≡ b → ((if a then map (envelope j) (d.puts v) else []) ≡ []) ⊎ ((if b then map (envelope k) (e.puts v) else []) ≡ [])
      go true true f g = absurd (differ (sym (equal u q g) ∙ equal u p f))
      go true false f g = inr refl
      go false b f g = inl refl

  -- first p and then q, and first q and then p
  abbrev pub first_p : ClockedNet
  first_p = doing_by (doing_by w p s d j l) q t e k (m ++ puts_for p d j t q)

  abbrev pub first_q : ClockedNet
  first_q = doing_by (doing_by w q t e k m) p s d j (l ++ puts_for q e k s p)

  channels : (u v : ℕ) → first_p.channel u v ≡ first_q.channel u v
  channels u v = go (u == s && v == p) (u == t && v == q) refl refl
    where
      go : (a b : Bool) → (u == s && v == p) ≡ a → (u == t && v == q) ≡ b
          → (if b then m ++ puts_for p d j t q else (if a then l else w.channel u v) ++ puts_for p d j u v) ++ puts_for q e k u v
          ≡ (if a then l ++ puts_for q e k s p else (if b then m else w.channel u v) ++ puts_for q e k u v) ++ puts_for p d j u v
      go true true f g = absurd (differ (sym (equal v q (both (u == t) (v == q) g).1) ∙ equal v p (both (u == s) (v == p) f).1))
      go false true f g =
          let x = both (u == t) (v == q) g in
          subst (λ (y : List Envelope). (m ++ y) ++ puts_for q e k u v ≡ (m ++ puts_for q e k u v) ++ puts_for p d j u v) (ap₂ (λ (a b : ℕ). puts_for p d j a b) (equal u t x.0) (equal v q x.1))
          (other_way m (puts_for p d j u v) (puts_for q e k u v) (empty u v))
      go true false f g =
          let x = both (u == s) (v == p) f in
          subst (λ (y : List Envelope). (l ++ puts_for p d j u v) ++ puts_for q e k u v ≡ (l ++ y) ++ puts_for p d j u v) (ap₂ (λ (a b : ℕ). puts_for q e k a b) (equal u s x.0) (equal v p x.1))
          (other_way l (puts_for p d j u v) (puts_for q e k u v) (empty u v))
      go false false f g = other_way (w.channel u v) (puts_for p d j u v) (puts_for q e k u v) (empty u v)

  -- rows of another process are none of r's
  none_of : (r x c : ℕ) (rows : List NamedEvent) → (x == r) ≡ false → rows_of r (map (clocked_row x c) rows) ≡ []
  none_of r x c [] n = refl
  none_of r x c (y ∷ rows) n = ap (λ (b : Bool). if b then clocked_row x c y ∷ rows_of r (map (clocked_row x c) rows) else rows_of r (map (clocked_row x c) rows)) n ∙ none_of r x c rows n

  parts : (r : ℕ) → rows_of r ((w.rows ++ map (clocked_row p j) d.rows) ++ map (clocked_row q k) e.rows) ≡ rows_of r ((w.rows ++ map (clocked_row q k) e.rows) ++ map (clocked_row p j) d.rows)
  parts r = split w.rows (map (clocked_row p j) d.rows) (map (clocked_row q k) e.rows)
      ∙ (other_way (rows_of r w.rows) (rows_of r (map (clocked_row p j) d.rows)) (rows_of r (map (clocked_row q k) e.rows)) (one_none (p == r) (q == r) refl refl)
      ∙ sym (split w.rows (map (clocked_row q k) e.rows) (map (clocked_row p j) d.rows)))
    where
      split : (a b c : List ClockedRow) → rows_of r ((a ++ b) ++ c) ≡ (rows_of r a ++ rows_of r b) ++ rows_of r c
      split a b c = filter-append (λ (x : ClockedRow). x.row.p == r) (a ++ b) c ∙ ap (λ (l : List ClockedRow). l ++ rows_of r c) (filter-append (λ (x : ClockedRow). x.row.p == r) a b)

      one_none : (a b : Bool) → (p == r) ≡ a → (q == r) ≡ b → (rows_of r (map (clocked_row p j) d.rows) ≡ []) ⊎ (rows_of r (map (clocked_row q k) e.rows) ≡ [])
      one_none true true f g = absurd (differ (equal q r g ∙ sym (equal p r f)))
      one_none true false f g = inr (none_of r q k e.rows g)
      one_none false b f g = inl (none_of r p j d.rows f)

  pub swapped : Same first_p first_q
  swapped = record {
    nets = λ i. record {
      nodes = at_two p q e.state d.state w.nodes differ i;
      clock = at_two p q k j w.clock differ i;
      channel = λ u v. channels u v i;
      rows = [];
    };
    parts = parts;
  }
