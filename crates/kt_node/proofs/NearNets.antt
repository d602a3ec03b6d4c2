-- In a net with numbers no clock and no label is further ahead than there were steps.
use Rattle.std.proofs.Common.{◌≡◌, ◌∙◌, ◌≤◌, ◌+◌, ℕ, max, Bool, true, false, Option, Some, None, List, [], ◌∷◌, ◌++◌, length, map, refl, sym, ap, subst, arith}
use Rattle.std.specs.Prelude.{◌==◌, ◌&&◌, ◌||◌, nat_lt, if◌then◌else◌, Err, take, drop, zero, suc}
use Rattle.std.proofs.lemmas.Bool.Decides.{nat_tests}
use Rattle.kt_protocol.proofs.Updates.{at_one_all}
use Rattle.kt_machine.specs.Acts.{stepper}
use Rattle.kt_node.specs.declared.node.Envelope.{Envelope as NodeEnvelope}
use Rattle.kt_node.specs.declared.node.NodeFault.TheVariants as fault
use Rattle.kt_manager.specs.declared.parcels.NodeParcel.{NodeParcel}
use Rattle.kt_manager.specs.declared.parcels.NodeParcel.TheVariants.{App, Ask, Reply, Decide}
use Rattle.kt_node.specs.Inputs.{Input, Send, Begin, Fail, Held, Comes}
use Rattle.kt_node.specs.NodeSteps.{node_after}
use Rattle.kt_node.specs.Clocks.{Envelope, envelope, source_of, front_input, input_at, clock_after}
use Rattle.kt_node.specs.Links.{NodeLinks}
use Rattle.kt_node.specs.Meetings.{far, is_far, is_far_message, is_leap, is_stale, last_label, meeting_of, next_number}
use Rattle.kt_node.specs.Numbered.{NumberedNet, NumberedStep, with_number, numbered_doing, numbered_input, numbered_comes, takes_number, numbered_step, numbered_run, opening_numbered_from}
use Rattle.kt_node.specs.Numbered as happens
use Rattle.kt_node.specs.NumberedNodes.{ShowsNumbered}
use Rattle.kt_node.proofs.Meets.{met_by}
use Rattle.kt_node.proofs.UsedLabels.{IsUpTo, AreUpTo, step_uses}

-- parcels on their way whose clocks and labels are up to these
abbrev pub AreNear : ℕ → ℕ → List Envelope → Type 0
AreNear clock most [] = Unit {0}
AreNear clock most (e ∷ es) = (e.clock ≤ clock) × IsUpTo most e.parcel × AreNear clock most es

up_to : (a b : ℕ) → a ≤ b → (x : NodeParcel) → IsUpTo a x → IsUpTo b x
up_to a b l (App label body) h = omega (arith, l, h)
up_to a b l (Ask k kind label) h = tt
up_to a b l (Reply k w) h = tt
up_to a b l (Decide k c) h = tt

near_later : (c d a b : ℕ) → c ≤ d → a ≤ b → (es : List Envelope) → AreNear c a es → AreNear d b es
near_later c d a b l m [] h = tt
near_later c d a b l m (e ∷ es) h = (let f : e.clock ≤ c = h.0 in omega (arith, l, f), up_to a b m e.parcel h.1, near_later c d a b l m es h.2)

near_both : (c a : ℕ) (es fs : List Envelope) → AreNear c a es → AreNear c a fs → AreNear c a (es ++ fs)
near_both c a [] fs h k = k
near_both c a (e ∷ es) fs h k = (h.0, h.1, near_both c a es fs h.2 k)

near_put : (c d a b : ℕ) → c ≤ d → a ≤ b → (xs : List NodeParcel) → AreUpTo a xs → AreNear d b (map (envelope c) xs)
near_put c d a b l m [] h = tt
near_put c d a b l m (x ∷ xs) h = (l, up_to a b m x h.0, near_put c d a b l m xs h.1)

near_left : (c a k : ℕ) (es : List Envelope) → AreNear c a es → AreNear c a (drop k es)
near_left c a zero es h = h
near_left c a (suc k) [] h = tt
near_left c a (suc k) (e ∷ es) h = near_left c a k es h.2

near_one : (c a : ℕ) (es : List Envelope) → AreNear c a es → AreNear c a (take 1 es)
near_one c a [] h = tt
near_one c a (e ∷ es) h = (h.0, h.1, tt)

near_clock : (clock c a : ℕ) (i : Input) (es : List Envelope) → clock ≤ c → AreNear c a es → clock_after clock i es ≤ c + 1
near_clock clock c a (Send q body) es l h = omega (arith, l)
near_clock clock c a (Begin roll able) es l h = omega (arith, l)
near_clock clock c a Fail es l h = omega (arith, l)
near_clock clock c a (Held q) es l h = omega (arith, l)
near_clock clock c a (Comes q able x) [] l h = omega (arith, l)
near_clock clock c a (Comes q able x) (e ∷ es) l h = let f : e.clock ≤ c = h.0 in omega (arith, l, f)

equal : (a b : ℕ) → (a == b) ≡ true → a ≡ b
equal a b e = grind (arith, nat_tests)

module _ (first : ℕ → ℕ) where
  -- after so many steps
  pub record IsNear (w : NumberedNet) (steps : ℕ) : Type 0 where
    pub clock : (p : ℕ) → w.clock p ≤ steps
    pub least : (p : ℕ) → first p ≤ (w.nodes p).used
    pub most : (p : ℕ) → (w.nodes p).used ≤ first p + steps
    pub put : (p q : ℕ) → AreNear steps (first p + steps) (w.put p q)

  still_near : (w : NumberedNet) (s : ℕ) → IsNear w s → IsNear w (s + 1)
  still_near w s h = record {
    clock = λ p. omega (arith, h.clock p);
    least = h.least;
    most = λ p. omega (arith, h.most p);
    put = λ p q. near_later s (s + 1) (first p + s) (first p + (s + 1)) (omega arith) (omega arith) (w.put p q) (h.put p q);
  }

  near_doing : (w : NumberedNet) (p q : ℕ) (es : List Envelope) (i : Input) (s : ℕ) → IsNear w s → AreNear s (first q + s) es → IsNear (numbered_doing w p q es i) (s + 1)
  near_doing w p q es i s h near = record {
    clock = at_one_all (λ u c. c ≤ s + 1) p (clock_after (w.clock p) i es) w.clock ticks (λ u. omega (arith, h.clock u));
    least = at_one_all (λ u y. first u ≤ y.used) p (node_after (w.nodes p) i).state w.nodes (let a = h.least p in let b = uses.0 in omega (arith, a, b)) h.least;
    most = at_one_all (λ u y. y.used ≤ first u + (s + 1)) p (node_after (w.nodes p) i).state w.nodes last (λ u. let a = h.most u in omega (arith, a));
    put = λ u v. at_test u v (u == p) refl;
  }
    where
      uses : ((w.nodes p).used ≤ (node_after (w.nodes p) i).state.used) × ((node_after (w.nodes p) i).state.used ≤ (w.nodes p).used + 1) × ((v : ℕ) → AreUpTo (node_after (w.nodes p) i).state.used ((node_after (w.nodes p) i).puts v))
      uses = step_uses (w.nodes p) i

      ticks : clock_after (w.clock p) i es ≤ s + 1
      ticks = near_clock (w.clock p) s (first q + s) i es (h.clock p) near

      last : (node_after (w.nodes p) i).state.used ≤ first p + (s + 1)
      last = let a = h.most p in let b = uses.1 in omega (arith, a, b)

      at_test : (u v : ℕ) (b : Bool) → (u == p) ≡ b → AreNear (s + 1) (first u + (s + 1)) (if b then w.put u v ++ map (envelope (clock_after (w.clock p) i es)) ((node_after (w.nodes p) i).puts v) else w.put u v)
      at_test u v true e = near_both (s + 1) (first u + (s + 1)) (w.put u v) _ ((still_near w s h).put u v)
          (subst (λ (m : ℕ). AreNear (s + 1) (first m + (s + 1)) (map (envelope (clock_after (w.clock p) i es)) ((node_after (w.nodes p) i).puts v))) (sym (equal u p e))
          (near_put (clock_after (w.clock p) i es) (s + 1) (node_after (w.nodes p) i).state.used (first p + (s + 1)) ticks last ((node_after (w.nodes p) i).puts v) (uses.2 v)))
      at_test u v false e = (still_near w s h).put u v

  near_input : (w : NumberedNet) (p q : ℕ) (es : List Envelope) (o : Option Input) (s : ℕ) → IsNear w s → AreNear s (first q + s) es → IsNear (numbered_input w p q es o) (s + 1)
  near_input w p q es None s h near = still_near w s h
  near_input w p q es (Some i) s h near = near_doing w p q es i s h near

  near_number : (w : NumberedNet) (p q number s : ℕ) → IsNear w s → AreNear s (first q + s) (with_number number (w.put q p))
  near_number w p q number s h = near_one s (first q + s) _ (near_left s (first q + s) _ (w.put q p) (h.put q p))

  near_step : (w : NumberedNet) (x : NumberedStep) (s : ℕ) → IsNear w s → IsNear (numbered_step w x) (s + 1)
  near_step w (happens.Own x) s h = near_input w (stepper x) (source_of x) [] (input_at (w.nodes (stepper x)) x []) s h tt
  near_step w (happens.Comes p q able number) s h = at_test (takes_number w p q number)
    where
      at_test : (b : Bool) → IsNear (if b then numbered_comes w p q able (with_number number (w.put q p)) else w) (s + 1)
      at_test true = near_input w p q (with_number number (w.put q p)) (front_input q able (with_number number (w.put q p))) s h (near_number w p q number s h)
      at_test false = still_near w s h

  near_run : (w : NumberedNet) (xs : List NumberedStep) (s : ℕ) → IsNear w s → IsNear (numbered_run w xs) (s + length xs)
  near_run w [] s h = let e : s ≡ s + 0 = omega arith in subst (IsNear w) e h
  near_run w (x ∷ xs) s h = let e : s + 1 + length xs ≡ s + length (x ∷ xs) = omega arith in subst (IsNear (numbered_run (numbered_step w x) xs)) e (near_run (numbered_step w x) xs (s + 1) (near_step w x s h))

  pub near_net : (n : ℕ) (xs : List NumberedStep) → IsNear (numbered_run (opening_numbered_from n first) xs) (length xs)
  near_net n xs =
      let e : 0 + length xs ≡ length xs = omega arith in
      subst (IsNear (numbered_run (opening_numbered_from n first) xs)) e (near_run (opening_numbered_from n first) xs 0 (record { clock = λ p. omega arith; least = λ p. omega arith; most = λ p. omega arith; put = λ p q. tt }))

  is_near : (a b : ℕ) → b ≤ a → nat_lt a b ≡ false
  is_near a b l = grind (arith, nat_tests, l)

  no_far_message : (had : ℕ) (x : NodeParcel) → IsUpTo (had + far) x → is_far_message had x ≡ false
  no_far_message had (App label body) l = is_near (had + far) label l
  no_far_message had (Ask k kind label) l = refl
  no_far_message had (Reply k w) l = refl
  no_far_message had (Decide k c) l = refl

  neither : (a b : Bool) → a ≡ false → b ≡ false → (a || b) ≡ false
  neither false b e f = f
  neither true b e f = absurd (cc (e))

  no_leap : (w : NumberedNet) (s p q : ℕ) (k : NodeLinks) (e : NodeEnvelope) → IsNear w s → ShowsNumbered k w p → with_number e.number (w.put q p) ≡ envelope e.clock e.parcel ∷ []
      → s ≤ far → first q + s ≤ first p + far → is_leap k q e ≡ false
  no_leap w s p q k e h shows there few close =
      let near = subst (AreNear s (first q + s)) there (near_number w p q e.number s h) in
      let clock : e.clock ≤ s = near.0 in
      let used : k.manager.process.used ≡ (w.nodes p).used = shows.node.manager.process.used in
      let least : first p ≤ (w.nodes p).used = h.least p in
      neither (is_far k.clock e.clock) (is_far_message (max (last_label k q) k.manager.process.used) e.parcel)
      (is_near (k.clock + far) e.clock (omega (arith, clock, few)))
      (no_far_message (max (last_label k q) k.manager.process.used) e.parcel
      (up_to (first q + s) (max (last_label k q) k.manager.process.used + far) (omega (arith, used, least, close)) e.parcel near.1))

never : (between early : Bool) (next : ℕ) (late stale : Bool) → met_by between early next late false stale ≡ Err fault.Leap → ⊥
never false early next late stale e = cc (e)
never true true next late stale e = cc (e)
never true false next true stale e = cc (e)
never true false next false true e = cc (e)
never true false next false false e = cc (e)

pub never_leaps : (n : ℕ) (first : ℕ → ℕ) (xs : List NumberedStep) (p q : ℕ) (k : NodeLinks) (e : NodeEnvelope) → ShowsNumbered k (numbered_run (opening_numbered_from n first) xs) p
    → with_number e.number ((numbered_run (opening_numbered_from n first) xs).put q p) ≡ envelope e.clock e.parcel ∷ [] → length xs ≤ far → first q + length xs ≤ first p + far → meeting_of k q e ≡ Err fault.Leap → ⊥
never_leaps n first xs p q k e shows there few close leaps =
    let none = no_leap first (numbered_run (opening_numbered_from n first) xs) (length xs) p q k e (near_net first n xs) shows there few close in
    never (e.from == q && e.to == k.manager.me) (nat_lt e.number (next_number k q)) (next_number k q) (nat_lt (next_number k q) e.number) (is_stale (last_label k q) e.parcel)
    (ap (λ (b : Bool). met_by (e.from == q && e.to == k.manager.me) (nat_lt e.number (next_number k q)) (next_number k q) (nat_lt (next_number k q) e.number) b (is_stale (last_label k q) e.parcel)) (sym none) ∙ leaps)
