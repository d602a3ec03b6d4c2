-- What the calls of a node do is what happens to its process in a net with numbers.
use Rattle.std.proofs.Common.{◌≡◌, ◌≢◌, ◌∙◌, ◌+◌, max, ℕ, Bool, true, false, not, Option, Some, None, List, [], ◌∷◌, ◌++◌, length, length-append, map, refl, sym, ap, ap₂, subst, arith, inl, inr}
use Rattle.std.specs.Prelude.{◌==◌, ◌&&◌, if◌then◌else◌, slice_index}
use Rattle.std.proofs.lemmas.Bool.{cases_eq}
use Rattle.std.proofs.lemmas.Bool.Decides.{nat_tests}
use Rattle.kt_protocol.specs.States.{ProtocolStep, Send, Begin, Fail, Take}
use Rattle.kt_protocol.proofs.Updates.{at_one_here, at_one_other}
use Rattle.kt_machine.specs.Acts.{stepper}
use Rattle.kt_node.specs.declared.node.Output.{Output}
use Rattle.kt_node.specs.declared.node.Taken.TheVariants.{Step, Again}
use Rattle.kt_manager.specs.declared.parcels.NodeParcel.{NodeParcel}
use Rattle.kt_manager.specs.Nodes.{NodeState, is_in_rollback}
use Rattle.kt_node.specs.Inputs.{Input}
use Rattle.kt_node.specs.Inputs as input
use Rattle.kt_node.specs.NodeSteps.{is_step, node_after}
use Rattle.kt_node.specs.Nets.{has_some}
use Rattle.kt_node.specs.declared.faults.ManagerFault.{ManagerFault}
use Rattle.kt_node.specs.declared.faults.ManagerFault.TheVariants as fault
use Rattle.kt_node.specs.Faults.{fault_at, or_else, stranger}
use Rattle.kt_node.specs.Clocks.{Envelope, envelope, source_of, front_input, input_at, clock_after}
use Rattle.kt_node.specs.Links.{NodeLinks, ShowsLinks, IsStep, TakesNext}
use Rattle.kt_node.specs.Numbered.{NumberedNet, NumberedStep, Own, Comes, with_number, numbered_doing, numbered_input, numbered_comes, takes_number, numbered_step}
use Rattle.kt_node.specs.NumberedNodes.{ShowsNumbered, at_whom}
use Rattle.kt_node.proofs.NumberedNets.{other_number}

same : (p : ℕ) → (p == p) ≡ true
same p = grind (arith, nat_tests)

other : (u p : ℕ) → u ≢ p → (u == p) ≡ false
other u p n = grind (arith, nat_tests)

length_stamped : (c : ℕ) (xs : List NodeParcel) → length (map (envelope c) xs) ≡ length xs
length_stamped c [] = refl
length_stamped c (x ∷ xs) = omega (arith, length_stamped c xs)

-- how many there are, after more were put
many_put : (b : Bool) (c : ℕ) (old : List Envelope) (more : List NodeParcel) → b ≡ true → length (if b then old ++ map (envelope c) more else old) ≡ length old + length more
many_put true c old more e = omega (arith, length-append old (map (envelope c) more), length_stamped c more)
many_put false c old more e = absurd (cc e)

-- p does what it does at an input, for which it took these parcels of q
shows_doing : (w : NumberedNet) (p q : ℕ) (es : List Envelope) (i : Input) (came : ℕ) (old new : NodeLinks) (out : Output) → ShowsNumbered old w p → IsStep old new came (w.nodes p) i out
    → max (w.clock p) came + 1 ≡ clock_after (w.clock p) i es → ((u : ℕ) → slice_index new.taken u ≡ (if u == q then w.taken q p + length es else w.taken u p))
    → ShowsNumbered new (numbered_doing w p q es i) p
shows_doing w p q es i came old new out h s ticks takes =
    let y = w.nodes p in
    let clock = clock_after (w.clock p) i es in record {
      node = subst (ShowsLinks new) (sym (at_one_here p (node_after y i).state w.nodes)) (record { manager = s.done.state; reaches = s.reaches h.node.reaches });
      clock = s.clock ∙ (ap (λ (c : ℕ). max c came + 1) h.clock ∙ (ticks ∙ sym (at_one_here p clock w.clock)));
      sent = λ u l. s.sent u l ∙ (ap (λ (n : ℕ). n + length ((node_after y i).puts u)) (h.sent u l) ∙ sym (many_put (p == p) clock (w.put p u) ((node_after y i).puts u) (same p)));
      taken = λ u. takes u ∙ sym (here u (u == q) (p == p) (same p));
    }
  where
    here : (u : ℕ) (a b : Bool) → b ≡ true → (if a && b then w.taken q p + length es else w.taken u p) ≡ (if a then w.taken q p + length es else w.taken u p)
    here u true true e = refl
    here u false true e = refl
    here u a false e = absurd (cc e)

-- nothing is taken of a link
untaken : (old new : NodeLinks) (w : NumberedNet) (p q u : ℕ) → ShowsNumbered old w p → new.taken ≡ old.taken → slice_index new.taken u ≡ (if u == q then w.taken q p + 0 else w.taken u p)
untaken old new w p q u h e = ap (λ (l : List ℕ). slice_index l u) e ∙ (h.taken u ∙ elim (cases_eq u q) [
  | inl s ↦ ap (λ (v : ℕ). w.taken v p) s ∙ (no_more (w.taken q p) ∙ at_test (u == q) (w.taken q p + 0) (w.taken u p) (ap (λ (v : ℕ). v == q) s ∙ same q))
  | inr n ↦ at_false (u == q) (w.taken q p + 0) (w.taken u p) (other u q n)
])
  where
    no_more : (n : ℕ) → n ≡ n + 0
    no_more n = omega arith

    at_test : (b : Bool) (x y : ℕ) → b ≡ true → x ≡ (if b then x else y)
    at_test true x y e = refl
    at_test false x y e = absurd (cc e)

    at_false : (b : Bool) (x y : ℕ) → b ≡ false → y ≡ (if b then x else y)
    at_false true x y e = absurd (cc e)
    at_false false x y e = refl

-- what a process does alone has no parcel's clock
ticks_alone : (y : NodeState) (x : ProtocolStep) (c : ℕ) (i : Input) → input_at y x [] ≡ Some i → max c 0 + 1 ≡ clock_after c i []
ticks_alone y (Send p q body) c i e = at (is_step y (input.Send q body)) e
  where
    at : (b : Bool) → (if b then Some (input.Send q body) else None) ≡ Some i → max c 0 + 1 ≡ clock_after c i []
    at true e = let is : input.Send q body ≡ i = cc e in subst (λ (j : Input). max c 0 + 1 ≡ clock_after c j []) is (omega arith)
    at false e = absurd (cc e)
ticks_alone y (Begin p roll able) c i e = let is : input.Begin roll able ≡ i = cc e in subst (λ (j : Input). max c 0 + 1 ≡ clock_after c j []) is (omega arith)
ticks_alone y (Fail p) c i e = let is : input.Fail ≡ i = cc e in subst (λ (j : Input). max c 0 + 1 ≡ clock_after c j []) is (omega arith)
ticks_alone y (Take p q able) c i e = at (not (is_in_rollback y) && has_some (y.held q)) e
  where
    at : (b : Bool) → (if b then Some (input.Held q) else front_input q able []) ≡ Some i → max c 0 + 1 ≡ clock_after c i []
    at true e = let is : input.Held q ≡ i = cc e in subst (λ (j : Input). max c 0 + 1 ≡ clock_after c j []) is (omega arith)
    at false e = absurd (cc e)

pub own_call : (w : NumberedNet) (x : ProtocolStep) (i : Input) (old new : NodeLinks) (out : Output) → ShowsNumbered old w (stepper x) → input_at (w.nodes (stepper x)) x [] ≡ Some i
    → IsStep old new 0 (w.nodes (stepper x)) i out → new.taken ≡ old.taken → ShowsNumbered new (numbered_step w (Own x)) (stepper x)
own_call w x i old new out h e s kept =
    let p = stepper x in
    let q = source_of x in
    subst (λ (o : Option Input). ShowsNumbered new (numbered_input w p q [] o) p) (sym e)
    (shows_doing w p q [] i 0 old new out h s (ticks_alone (w.nodes p) x (w.clock p) i e) (λ u. untaken old new w p q u h kept))

-- of whom nothing is held that comes first
free_of_held : (o later : Option ManagerFault) (b : Bool) → or_else o (if b then Some fault.HeldFirst else later) ≡ None → not b ≡ true
free_of_held None later true e = absurd (cc e)
free_of_held None later false e = refl
free_of_held (Some f) later b e = absurd (cc e)

if_so : (k : NodeLinks) (p : ℕ) (v w : NumberedNet) (b : Bool) → b ≡ true → ShowsNumbered k v p → ShowsNumbered k (if b then v else w) p
if_so k p v w true e h = h
if_so k p v w false e h = absurd (cc e)

both_so : (a b : Bool) → a ≡ true → b ≡ true → (a && b) ≡ true
both_so true b e f = f
both_so false b e f = absurd (cc e)

pub comes_call : (w : NumberedNet) (p q : ℕ) (able : Bool) (number : ℕ) (e : Envelope) (old new : NodeLinks) (out : Output) → ShowsNumbered old w p → with_number number (w.put q p) ≡ e ∷ []
    → fault_at (w.nodes p) (input.Comes q able e.parcel) ≡ None → TakesNext old new q number (Step) → IsStep old new e.clock (w.nodes p) (input.Comes q able e.parcel) out
    → ShowsNumbered new (numbered_step w (Comes p q able number)) p
comes_call w p q able number e old new out h there free t s =
    let y = w.nodes p in
    let held = not (is_in_rollback y) && has_some (y.held q) in
    let next : number ≡ w.taken q p + 1 = t.0 ∙ ap (λ (n : ℕ). n + 1) (h.taken q) in
    let is_next : (number == w.taken q p + 1) ≡ true = ap (λ (n : ℕ). n == w.taken q p + 1) next ∙ same (w.taken q p + 1) in
    if_so new p (numbered_comes w p q able (with_number number (w.put q p))) w (takes_number w p q number)
    (both_so (number == w.taken q p + 1) (not held) is_next (free_of_held (stranger y q) _ held free))
    (subst (λ (es : List Envelope). ShowsNumbered new (numbered_comes w p q able es) p) (sym there)
    (shows_doing w p q (e ∷ []) (input.Comes q able e.parcel) e.clock old new out h s refl
    (λ u. t.1 u ∙ ap₂ (λ (a b : ℕ). if u == q then a else b) next (h.taken u))))

pub again_call : (w : NumberedNet) (p q : ℕ) (able : Bool) (number : ℕ) (old new : NodeLinks) → ShowsNumbered old w p → TakesNext old new q number Again
    → ShowsNumbered new (numbered_step w (Comes p q able number)) p
again_call w p q able number old new h t =
    let early : number ≢ w.taken q p + 1 = λ e. omega (arith, e, t.0, h.taken q) in
    subst (λ (v : NumberedNet). ShowsNumbered new v p) (sym (other_number w p q able number early)) (subst (λ (k : NodeLinks). ShowsNumbered k w p) (sym t.1) h)

-- the other nodes stay what they are
other_doing : (w : NumberedNet) (u p q : ℕ) (es : List Envelope) (i : Input) (k : NodeLinks) → u ≢ p → ShowsNumbered k w u → ShowsNumbered k (numbered_doing w p q es i) u
other_doing w u p q es i k n h =
    let d = node_after (w.nodes p) i in
    let clock = clock_after (w.clock p) i es in record {
      node = subst (ShowsLinks k) (sym (at_one_other p u d.state w.nodes n)) h.node;
      clock = h.clock ∙ sym (at_one_other p u clock w.clock n);
      sent = λ v l. h.sent v l ∙ ap length (nothing_put (u == p) (w.put u v) (map (envelope clock) (d.puts v)) (other u p n));
      taken = λ v. h.taken v ∙ nothing_taken (v == q) (u == p) (w.taken v u) (w.taken q p + length es) (other u p n);
    }
  where
    nothing_put : (b : Bool) (xs ys : List Envelope) → b ≡ false → xs ≡ (if b then xs ++ ys else xs)
    nothing_put true xs ys e = absurd (cc e)
    nothing_put false xs ys e = refl

    nothing_taken : (a b : Bool) (x y : ℕ) → b ≡ false → x ≡ (if a && b then y else x)
    nothing_taken a true x y e = absurd (cc e)
    nothing_taken true false x y e = refl
    nothing_taken false false x y e = refl

other_input : (w : NumberedNet) (u p q : ℕ) (es : List Envelope) (o : Option Input) (k : NodeLinks) → u ≢ p → ShowsNumbered k w u → ShowsNumbered k (numbered_input w p q es o) u
other_input w u p q es None k n h = h
other_input w u p q es (Some i) k n h = other_doing w u p q es i k n h

pub others_stay : (w : NumberedNet) (x : NumberedStep) (u : ℕ) (k : NodeLinks) → u ≢ at_whom x → ShowsNumbered k w u → ShowsNumbered k (numbered_step w x) u
others_stay w (Own x) u k n h = other_input w u (stepper x) (source_of x) [] (input_at (w.nodes (stepper x)) x []) k n h
others_stay w (Comes p q able number) u k n h = at (takes_number w p q number)
  where
    at : (b : Bool) → ShowsNumbered k (if b then numbered_comes w p q able (with_number number (w.put q p)) else w) u
    at true = other_input w u p q (with_number number (w.put q p)) (front_input q able (with_number number (w.put q p))) k n h
    at false = h
