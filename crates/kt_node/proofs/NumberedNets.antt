-- A net with numbers is a net with clocks.
use Rattle.std.proofs.Common.{◌≡◌, ◌≢◌, ◌∙◌, ◌⊎◌, ◌≤◌, ◌+◌, ◌-◌, ℕ, zero, suc, Bool, true, false, not, Option, Some, None, List, [], ◌∷◌, ◌++◌, length, length-append, drop-drop, map, refl, sym, ap, ap₂, subst, arith, inl, inr}
use Rattle.std.specs.Prelude.{◌==◌, ◌&&◌, if◌then◌else◌, take, drop}
use Rattle.std.proofs.lemmas.Bool.Decides.{nat_tests}
use Rattle.std.proofs.lemmas.List.{append-nil}
use Rattle.kt_meaning.specs.Past.{at_one}
use Rattle.kt_protocol.specs.States.{ProtocolStep, Send, Begin, Fail, Take}
use Rattle.kt_machine.specs.Acts.{stepper}
use Rattle.kt_manager.specs.Nodes.{NodeState, is_in_rollback}
use Rattle.kt_node.specs.Inputs.{Input}
use Rattle.kt_node.specs.Inputs as input
use Rattle.kt_node.specs.NodeSteps.{is_step, node_after}
use Rattle.kt_node.specs.Nets.{has_some}
use Rattle.kt_node.specs.Clocks.{Envelope, ClockedNet, envelope, clocked_row, source_of, front_input, input_at, clock_after, left_after, clocked_doing, at_input, clocked_step, clocked_run}
use Rattle.kt_node.specs.Numbered.{NumberedNet, NumberedStep, Own, Comes, with_number, numbered_doing, numbered_input, numbered_comes, takes_number, numbered_step, numbered_run, unnumbered}

-- items left out of a longer list, and one more of them
drop_front : {A : Type 0} (k : ℕ) (xs ys : List A) → k ≤ length xs → drop k (xs ++ ys) ≡ drop k xs ++ ys
drop_front zero xs ys l = refl
drop_front (suc k) [] ys l = absurd (omega (arith, l))
drop_front (suc k) (x ∷ xs) ys l = drop_front k xs ys (omega (arith, l))

drop_next : {A : Type 0} (k : ℕ) (xs : List A) → drop (k + 1) xs ≡ drop 1 (drop k xs)
drop_next k xs = sym (drop-drop 1 k xs)

some_left : {A : Type 0} (k : ℕ) (xs : List A) (y : A) (ys : List A) → drop k xs ≡ y ∷ ys → k + 1 ≤ length xs
some_left zero [] y ys e = cc e
some_left zero (x ∷ xs) y ys e = omega arith
some_left (suc k) [] y ys e = cc e
some_left (suc k) (x ∷ xs) y ys e = let more = some_left k xs y ys e in omega (arith, more)

both : (a b : Bool) → (a && b) ≡ true → (a ≡ true) × (b ≡ true)
both true b e = (refl, e)
both false b e = absurd (cc e)

equal : (a b : ℕ) → (a == b) ≡ true → a ≡ b
equal a b e = grind (arith, nat_tests)

-- nobody took more than was put
abbrev pub AreTaken : NumberedNet → Type 0
AreTaken w = (u v : ℕ) → w.taken u v ≤ length (w.put u v)

-- what p puts for v at an input, with this clock
abbrev stamped : NumberedNet → ℕ → Input → ℕ → ℕ → List Envelope
stamped w p i v clock = map (envelope clock) ((node_after (w.nodes p) i).puts v)

same_link : (w : NumberedNet) (u v q p : ℕ) → (u == q && v == p) ≡ true → w.put u v ≡ w.put q p
same_link w u v q p e = let t = both (u == q) (v == p) e in ap₂ w.put (equal u q t.0) (equal v p t.1)

-- node p has done this, for which it took these parcels of q
doing_is : (w : NumberedNet) (p q : ℕ) (es : List Envelope) (i : Input) → AreTaken w
    → clock_after (w.clock p) i es ≡ clock_after (w.clock p) i (drop (w.taken q p) (w.put q p))
    → drop (w.taken q p + length es) (w.put q p) ≡ left_after i (drop (w.taken q p) (w.put q p))
    → w.taken q p + length es ≤ length (w.put q p) → unnumbered (numbered_doing w p q es i) ≡ clocked_doing (unnumbered w) p q i
doing_is w p q es i few c l more = λ t. record {
  nodes = at_one p (node_after (w.nodes p) i).state w.nodes;
  clock = at_one p (c t) w.clock;
  channel = λ u v. channel u v (u == q && v == p) (u == p) refl t;
  rows = w.rows ++ map (clocked_row p (c t)) (node_after (w.nodes p) i).rows;
}
  where
    channel : (u v : ℕ) (a b : Bool) → (u == q && v == p) ≡ a
        → drop (if a then w.taken q p + length es else w.taken u v) (if b then w.put u v ++ stamped w p i v (clock_after (w.clock p) i es) else w.put u v)
        ≡ (if a then left_after i (drop (w.taken q p) (w.put q p)) else drop (w.taken u v) (w.put u v))
        ++ (if b then stamped w p i v (clock_after (w.clock p) i (drop (w.taken q p) (w.put q p))) else [])
    channel u v true true e =
        ap (λ (z : List Envelope). drop (w.taken q p + length es) (z ++ stamped w p i v (clock_after (w.clock p) i es))) (same_link w u v q p e)
        ∙ (drop_front (w.taken q p + length es) (w.put q p) (stamped w p i v (clock_after (w.clock p) i es)) more
        ∙ ap₂ (λ (x y : List Envelope). x ++ y) l (ap (stamped w p i v) c))
    channel u v true false e = ap (drop (w.taken q p + length es)) (same_link w u v q p e) ∙ (l ∙ sym (append-nil (left_after i (drop (w.taken q p) (w.put q p)))))
    channel u v false true e =
        drop_front (w.taken u v) (w.put u v) (stamped w p i v (clock_after (w.clock p) i es)) (few u v) ∙ ap (λ (y : List Envelope). drop (w.taken u v) (w.put u v) ++ y) (ap (stamped w p i v) c)
    channel u v false false e = sym (append-nil (drop (w.taken u v) (w.put u v)))

taken_more : (w : NumberedNet) (p q : ℕ) (es : List Envelope) (i : Input) → AreTaken w → w.taken q p + length es ≤ length (w.put q p) → AreTaken (numbered_doing w p q es i)
taken_more w p q es i few more u v = at (u == q && v == p) (u == p) refl
  where
    at : (a b : Bool) → (u == q && v == p) ≡ a
        → (if a then w.taken q p + length es else w.taken u v) ≤ length (if b then w.put u v ++ stamped w p i v (clock_after (w.clock p) i es) else w.put u v)
    at true true e =
        omega (arith, more, ap length (same_link w u v q p e), length-append (w.put u v) (stamped w p i v (clock_after (w.clock p) i es)))
    at true false e = omega (arith, more, ap length (same_link w u v q p e))
    at false true e = omega (arith, few u v, length-append (w.put u v) (stamped w p i v (clock_after (w.clock p) i es)))
    at false false e = few u v

-- a step that takes nothing off a link is the same whatever is on its way
abbrev AloneAt : NodeState → ProtocolStep → ℕ → List Envelope → Input → Type 0
AloneAt y x c es i = (input_at y x es ≡ Some i) × (clock_after c i [] ≡ clock_after c i es) × (left_after i es ≡ es)

own_input : (c : ℕ) (es : List Envelope) (i j : Input) → Some j ≡ Some i → clock_after c j [] ≡ clock_after c j es → left_after j es ≡ es
    → (clock_after c i [] ≡ clock_after c i es) × (left_after i es ≡ es)
own_input c es i j e a b = let same : j ≡ i = cc e in subst (λ (k : Input). (clock_after c k [] ≡ clock_after c k es) × (left_after k es ≡ es)) same (a, b)

alone : (y : NodeState) (x : ProtocolStep) (c : ℕ) (es : List Envelope) (i : Input) → input_at y x [] ≡ Some i → AloneAt y x c es i
alone y (Send p q body) c es i e = let own = at (is_step y (input.Send q body)) e in (e, own.0, own.1)
  where
    at : (b : Bool) → (if b then Some (input.Send q body) else None) ≡ Some i → (clock_after c i [] ≡ clock_after c i es) × (left_after i es ≡ es)
    at true e = own_input c es i (input.Send q body) e refl refl
    at false e = absurd (cc e)
alone y (Begin p roll able) c es i e = let own = own_input c es i (input.Begin roll able) e refl refl in (e, own.0, own.1)
alone y (Fail p) c es i e = let own = own_input c es i input.Fail e refl refl in (e, own.0, own.1)
alone y (Take p q able) c es i e = at (not (is_in_rollback y) && has_some (y.held q)) e
  where
    at : (b : Bool) → (if b then Some (input.Held q) else front_input q able []) ≡ Some i
        → ((if b then Some (input.Held q) else front_input q able es) ≡ Some i) × (clock_after c i [] ≡ clock_after c i es) × (left_after i es ≡ es)
    at true e = let own = own_input c es i (input.Held q) e refl refl in (e, own.0, own.1)
    at false e = absurd (cc e)

-- what happens is one step of the net without numbers, or none
abbrev Goes : NumberedNet → NumberedNet → Type 0
Goes w v = AreTaken v × ((unnumbered v ≡ unnumbered w) ⊎ ((x : ProtocolStep) × (unnumbered v ≡ clocked_step (unnumbered w) x)))

own_goes : (w : NumberedNet) (x : ProtocolStep) → AreTaken w → Goes w (numbered_step w (Own x))
own_goes w x few = at (input_at (w.nodes (stepper x)) x []) refl
  where
    at : (o : Option Input) → input_at (w.nodes (stepper x)) x [] ≡ o → Goes w (numbered_input w (stepper x) (source_of x) [] o)
    at None e = (few, inl refl)
    at (Some i) e =
        let p = stepper x in
        let q = source_of x in
        let a = alone (w.nodes p) x (w.clock p) (drop (w.taken q p) (w.put q p)) i e in
        let no_more : w.taken q p + 0 ≡ w.taken q p = omega arith in
        let more : w.taken q p + 0 ≤ length (w.put q p) = omega (arith, few q p) in (
          taken_more w p q [] i few more,
          inr (x, doing_is w p q [] i few a.1 (ap (λ (k : ℕ). drop k (w.put q p)) no_more ∙ sym a.2) more ∙ ap (at_input (unnumbered w) p q) (sym a.0)),
        )

comes_goes : (w : NumberedNet) (p q : ℕ) (able : Bool) (number : ℕ) → AreTaken w → Goes w (numbered_step w (Comes p q able number))
comes_goes w p q able number few = at (takes_number w p q number) refl
  where
    from_link : (b : Bool) (first other : Option Input) → not b ≡ true → (if b then first else other) ≡ other
    from_link true first other e = absurd (cc e)
    from_link false first other e = refl

    front : (ds : List Envelope) → drop (w.taken q p) (w.put q p) ≡ ds → not (not (is_in_rollback (w.nodes p)) && has_some ((w.nodes p).held q)) ≡ true → Goes w (numbered_comes w p q able (take 1 ds))
    front [] e none = (few, inl refl)
    front (x ∷ ds) e none =
        let i = input.Comes q able x.parcel in
        let more = some_left (w.taken q p) (w.put q p) x ds e in
        let is = from_link (not (is_in_rollback (w.nodes p)) && has_some ((w.nodes p).held q)) (Some (input.Held q)) (front_input q able (drop (w.taken q p) (w.put q p))) none ∙ ap (front_input q able) e in (
          taken_more w p q (x ∷ []) i few more,
          inr (Take p q able, doing_is w p q (x ∷ []) i few (ap (clock_after (w.clock p) i) (sym e)) (drop_next (w.taken q p) (w.put q p)) more ∙ ap (at_input (unnumbered w) p q) (sym is)),
        )

    at : (b : Bool) → takes_number w p q number ≡ b → Goes w (if b then numbered_comes w p q able (with_number number (w.put q p)) else w)
    at false e = (few, inl refl)
    at true e =
        let t = both (number == w.taken q p + 1) (not (not (is_in_rollback (w.nodes p)) && has_some ((w.nodes p).held q))) e in
        let place : number - 1 ≡ w.taken q p = omega (arith, equal number (w.taken q p + 1) t.0) in
        subst (λ (k : ℕ). Goes w (numbered_comes w p q able (take 1 (drop k (w.put q p))))) (sym place) (front (drop (w.taken q p) (w.put q p)) refl t.1)

goes : (w : NumberedNet) (x : NumberedStep) → AreTaken w → Goes w (numbered_step w x)
goes w (Own x) few = own_goes w x few
goes w (Comes p q able number) few = comes_goes w p q able number few

-- so all that happens is a run of it
pub numbered_is_net : (w : NumberedNet) (xs : List NumberedStep) → AreTaken w → (steps : List ProtocolStep) × (unnumbered (numbered_run w xs) ≡ clocked_run (unnumbered w) steps)
numbered_is_net w [] few = ([], refl)
numbered_is_net w (x ∷ xs) few =
    let g = goes w x few in
    let later = numbered_is_net (numbered_step w x) xs g.0 in
    elim g.1 [
      | inl same ↦ (later.0, later.1 ∙ ap (λ (v : ClockedNet). clocked_run v later.0) same)
      | inr made ↦ (made.0 ∷ later.0, later.1 ∙ ap (λ (v : ClockedNet). clocked_run v later.0) made.1)
    ]

pub taken_in_order : (w : NumberedNet) (xs : List NumberedStep) → AreTaken w → AreTaken (numbered_run w xs)
taken_in_order w [] few = few
taken_in_order w (x ∷ xs) few = taken_in_order (numbered_step w x) xs (goes w x few).0

-- any other number than the next one changes nothing
pub other_number : (w : NumberedNet) (p q : ℕ) (able : Bool) (number : ℕ) → number ≢ w.taken q p + 1 → numbered_step w (Comes p q able number) ≡ w
other_number w p q able number other = at (number == w.taken q p + 1) (not (not (is_in_rollback (w.nodes p)) && has_some ((w.nodes p).held q))) refl
  where
    at : (a b : Bool) → (number == w.taken q p + 1) ≡ a → (if a && b then numbered_comes w p q able (with_number number (w.put q p)) else w) ≡ w
    at true b e = absurd (other (equal number (w.taken q p + 1) e))
    at false b e = refl
