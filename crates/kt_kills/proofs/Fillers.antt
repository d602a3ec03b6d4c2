-- Sends that are found by what the others tell are right.
use Rattle.std.proofs.Common.{◌≡◌, ◌∙◌, ◌+◌, ◌-◌, ◌<◌, ◌≤◌, ℕ, ℤ, pos, zero, suc, Bool, true, false, not, Option, Some, None, List, [], ◌∷◌, ◌++◌, refl, arith, sym, ap, ap₂, subst, nat_lt}
use Rattle.std.specs.Prelude.{◌==◌, ◌&&◌, ◌||◌, if◌then◌else◌, unwrap_or, max, length, drop}
use Rattle.std.proofs.lemmas.Bool.Decides.{nat_tests}
use Rattle.kt_meaning.specs.Past.{at_one}
use Rattle.kt_protocol.proofs.Updates.{at_one_here}
use Rattle.kt_manager.specs.declared.parcels.NodeParcel.{NodeParcel}
use Rattle.kt_manager.specs.declared.parcels.NodeParcel.TheVariants.{App, Ask, Reply, Decide}
use Rattle.kt_kills.specs.Starts.{IsFront}
use Rattle.kt_kills.specs.Fillers.{body_at, has_above, last_label, last_told, or_else, taker_of, filled_by, sends_after}
use Rattle.kt_kills.proofs.Basics.{same, is_same, clash}

-- fronts of a list that begins with another one
pub front_drop : {X : Type 0} (a b l : List X) → IsFront l (a ++ b) → IsFront (drop (length a) l) b × ((c : List X) → IsFront (drop (length a) l) c → IsFront l (a ++ c))
front_drop {X} [] b l f = (f, λ c g. g)
front_drop {X} (x ∷ a) b [] f = ((b, refl), λ c g. (x ∷ a ++ c, refl))
front_drop {X} (x ∷ a) b (y ∷ l) f = let e : (x ≡ y) × (a ++ b ≡ l ++ f.0) = heads f.1 in let g = front_drop a b l (f.0, e.1) in
    (g.0, λ c h. let k = g.1 c h in (k.0, ap₂ (λ (z : X) (zs : List X). z ∷ zs) e.0 k.1))
  where
    heads : {z w : X} {zs ws : List X} → z ∷ zs ≡ w ∷ ws → (z ≡ w) × (zs ≡ ws)
    heads e = (cc (e), cc (e))

-- messages with labels above this one, and nothing else
abbrev pub AreAbove : ℕ → List NodeParcel → Type 0
AreAbove used [] = Unit {0}
AreAbove used (App l body ∷ xs) = (used < l) × AreAbove used xs
AreAbove used (Ask k kind label ∷ xs) = ⊥
AreAbove used (Reply k w ∷ xs) = ⊥
AreAbove used (Decide k c ∷ xs) = ⊥

less : (used l : ℕ) → used + 1 < l → used < l
less used l h = grind arith

above_less : (used : ℕ) (xs : List NodeParcel) → AreAbove (used + 1) xs → AreAbove used xs
above_less used [] h = h
above_less used (App l body ∷ xs) h = (less used l h.0, above_less used xs h.1)
above_less used (Ask k kind label ∷ xs) h = h
above_less used (Reply k w ∷ xs) h = h
above_less used (Decide k c ∷ xs) h = h

above_front : (used : ℕ) (xs ys : List NodeParcel) → IsFront xs ys → AreAbove used ys → AreAbove used xs
above_front used xs ys f h = go xs (subst (AreAbove used) f.1 h)
  where
    go : (xs : List NodeParcel) → AreAbove used (xs ++ f.0) → AreAbove used xs
    go [] k = tt
    go (App l body ∷ xs) k = (k.0, go xs k.1)
    go (Ask x kind label ∷ xs) k = k
    go (Reply x w ∷ xs) k = k
    go (Decide x c ∷ xs) k = k

-- no message has such a label itself
none_at : (l : ℕ) (xs : List NodeParcel) → AreAbove l xs → body_at l xs ≡ None
none_at l [] h = refl
none_at l (App m body ∷ xs) h = rw (other l m h.0) (none_at l xs h.1)
  where
    other : (l m : ℕ) → l < m → (m == l) ≡ false
    other l m k = grind (arith, nat_tests)
none_at l (Ask k kind label ∷ xs) h = elim h [ ]
none_at l (Reply k w ∷ xs) h = elim h [ ]
none_at l (Decide k c ∷ xs) h = elim h [ ]

-- and where none is above it, there is none
none_above : (l : ℕ) (xs : List NodeParcel) → AreAbove l xs → has_above l xs ≡ false → xs ≡ []
none_above l [] h e = refl
none_above l (App m body ∷ xs) h e = elim (clash (nat_lt l m || has_above l xs) (rw (below l m h.0) refl) e) [ ]
  where
    below : (l m : ℕ) → l < m → nat_lt l m ≡ true
    below l m k = grind (arith, nat_tests)
none_above l (Ask k kind label ∷ xs) h e = elim h [ ]
none_above l (Reply k w ∷ xs) h e = elim h [ ]
none_above l (Decide k c ∷ xs) h e = elim h [ ]

-- so where the greatest label is not above it
none_after : (l : ℕ) (xs : List NodeParcel) → AreAbove l xs → last_label xs ≤ l → xs ≡ []
none_after l [] h e = refl
none_after l (App m body ∷ xs) h e = elim (no l m (last_label xs) h.0 e) [ ]
  where
    no : (l m k : ℕ) → l < m → max m k ≤ l → ⊥
    no l m k a b = grind arith
none_after l (Ask k kind label ∷ xs) h e = elim h [ ]
none_after l (Reply k w ∷ xs) h e = elim h [ ]
none_after l (Decide k c ∷ xs) h e = elim h [ ]

-- of n processes: what p, which used so many labels, puts for q by these sends
abbrev pub may : ℕ → ℕ → ℕ → Bool
may n p to = nat_lt to n && not (to == p)

abbrev pub messages : ℕ → ℕ → ℕ → List (ℕ × ℤ) → ℕ → List NodeParcel
messages n p used [] q = []
messages n p used (x ∷ xs) q = if may n p x.0 then (if q == x.0 then App (used + 1) x.1 ∷ messages n p (used + 1) xs q else messages n p (used + 1) xs q) else messages n p used xs q

messages_above : (n p used : ℕ) (xs : List (ℕ × ℤ)) (q : ℕ) → AreAbove used (messages n p used xs q)
messages_above n p used [] q = tt
messages_above n p used (x ∷ xs) q = go (may n p x.0) (q == x.0) (λ u. messages_above n p u xs q)
  where
    next : (u : ℕ) → u < u + 1
    next u = grind arith

    go : (a b : Bool) → ((u : ℕ) → AreAbove u (messages n p u xs q)) → AreAbove used (if a then (if b then App (used + 1) x.1 ∷ messages n p (used + 1) xs q else messages n p (used + 1) xs q) else messages n p used xs q)
    go true true rest = (next used, above_less used (messages n p (used + 1) xs q) (rest (used + 1)))
    go true false rest = above_less used (messages n p (used + 1) xs q) (rest (used + 1))
    go false b rest = rest used

-- who took a message with this label
module _ (label : ℕ) (lists : ℕ → List NodeParcel) where
  taken_none : (n : ℕ) → ((q : ℕ) → body_at label (lists q) ≡ None) → taker_of n label lists ≡ None
  taken_none zero none = refl
  taken_none (suc n) none = rw (none n) (taken_none n none)

  taken_by : (n r : ℕ) (body : ℤ) → nat_lt r n ≡ true → body_at label (lists r) ≡ Some body → ((q : ℕ) → (q == r) ≡ false → body_at label (lists q) ≡ None) → taker_of n label lists ≡ Some (r, body)
  taken_by zero r body below here none = elim (clash (nat_lt r 0) below (none_below r)) [ ]
    where
      none_below : (q : ℕ) → nat_lt q 0 ≡ false
      none_below q = grind (arith, nat_tests)
  taken_by (suc n) r body below here none = go (n == r) refl (λ k. taken_by n r body k here none)
    where
      lower : (r n : ℕ) → nat_lt r (suc n) ≡ true → (n == r) ≡ false → nat_lt r n ≡ true
      lower r n h k = grind (arith, nat_tests)

      go : (a : Bool) → (n == r) ≡ a → (nat_lt r n ≡ true → taker_of n label lists ≡ Some (r, body)) → or_else n (body_at label (lists n)) (taker_of n label lists) ≡ Some (r, body)
      go true e rest = subst (λ (v : ℕ). or_else v (body_at label (lists v)) (taker_of n label lists) ≡ Some (r, body)) (sym (same n r e)) (rw here refl)
      go false e rest = rw (none n e) (rest (lower r n below e))

  -- there is one who took none above it
  filled : (n p r : ℕ) → nat_lt r n ≡ true → (r == p || has_above label (lists r)) ≡ false →
      (nat_lt (filled_by n p label lists) n ≡ true) × ((filled_by n p label lists == p || has_above label (lists (filled_by n p label lists))) ≡ false)
  filled zero p r below free = elim (clash (nat_lt r 0) below (none_below r)) [ ]
    where
      none_below : (q : ℕ) → nat_lt q 0 ≡ false
      none_below q = grind (arith, nat_tests)
  filled (suc n) p r below free = go (n == p || has_above label (lists n)) refl (λ k. filled n p r k free)
    where
      Fills : ℕ → Type 0
      Fills f = (nat_lt f (suc n) ≡ true) × ((f == p || has_above label (lists f)) ≡ false)

      raise : (a b : ℕ) → nat_lt a b ≡ true → nat_lt a (suc b) ≡ true
      raise a b h = grind (arith, nat_tests)

      own : (a : ℕ) → nat_lt a (suc a) ≡ true
      own a = grind (arith, nat_tests)

      lower : (r n : ℕ) → nat_lt r (suc n) ≡ true → (n == r) ≡ false → nat_lt r n ≡ true
      lower r n h k = grind (arith, nat_tests)

      other : (n == p || has_above label (lists n)) ≡ true → (a : Bool) → (n == r) ≡ a → a ≡ false
      other e true f = elim (clash (r == p || has_above label (lists r)) (subst (λ (v : ℕ). (v == p || has_above label (lists v)) ≡ true) (same n r f) e) free) [ ]
      other e false f = refl

      go : (a : Bool) → (n == p || has_above label (lists n)) ≡ a → (nat_lt r n ≡ true → (nat_lt (filled_by n p label lists) n ≡ true) × ((filled_by n p label lists == p || has_above label (lists (filled_by n p label lists))) ≡ false)) → Fills (if a then filled_by n p label lists else n)
      go true e rest = let k = rest (lower r n below (other e (n == r) refl)) in (raise (filled_by n p label lists) n k.0, k.1)
      go false e rest = (own n, e)

-- the same sends where nothing above this label differs
abbrev pub AreAlikeAbove : ℕ → (ℕ → List NodeParcel) → (ℕ → List NodeParcel) → Type 0
AreAlikeAbove used lists others = (q l : ℕ) → used < l → (body_at l (lists q) ≡ body_at l (others q)) × (has_above l (lists q) ≡ has_above l (others q))

module _ (p : ℕ) (lists others : ℕ → List NodeParcel) where
  same_taker : (n used l : ℕ) → used < l → AreAlikeAbove used lists others → taker_of n l lists ≡ taker_of n l others
  same_taker zero used l h k = refl
  same_taker (suc n) used l h k = ap₂ (λ (a : Option ℤ) (b : Option (ℕ × ℤ)). or_else n a b) (k n l h).0 (same_taker n used l h k)

  same_filled : (n used l : ℕ) → used < l → AreAlikeAbove used lists others → filled_by n p l lists ≡ filled_by n p l others
  same_filled zero used l h k = refl
  same_filled (suc n) used l h k = ap₂ (λ (a : Bool) (f : ℕ). if n == p || a then f else n) (k n l h).1 (same_filled n used l h k)

  same_sends : (count n used : ℕ) → AreAlikeAbove used lists others → sends_after count n p used lists ≡ sends_after count n p used others
  same_sends zero n used k = refl
  same_sends (suc count) n used k = ap₂ (λ (x : ℕ × ℤ) (xs : List (ℕ × ℤ)). x ∷ xs)
      (ap₂ (λ (o : Option (ℕ × ℤ)) (f : ℕ). unwrap_or o (f, pos 0)) (same_taker n used (used + 1) (next used) k) (same_filled n used (used + 1) (next used) k))
      (same_sends count n (used + 1) (λ q l h. k q l (less used l h)))
    where
      next : (u : ℕ) → u < u + 1
      next u = grind arith

none_left : (xs : List NodeParcel) → IsFront xs [] → xs ≡ []
none_left [] f = refl
none_left (x ∷ xs) f = absurd (cc (f.1))

nothing_first : (xs ys : List NodeParcel) → xs ≡ [] → IsFront xs ys
nothing_first xs ys e = subst (λ (l : List NodeParcel). IsFront l ys) (sym e) (ys, refl)

-- each list is a front of what the sends that are found put for its process, where it is one of what some sends put
module _ (n p : ℕ) where
  abbrev pub AreFronts : ℕ → List (ℕ × ℤ) → (ℕ → List NodeParcel) → Type 0
  AreFronts used sends lists = (q : ℕ) → IsFront (lists q) (messages n p used sends q)

  -- of a send to r
  module _ (used r : ℕ) (body : ℤ) (can : may n p r ≡ true) (xs : List (ℕ × ℤ)) (lists : ℕ → List NodeParcel)
      (fronts : (q : ℕ) → IsFront (lists q) (if q == r then App (used + 1) body ∷ messages n p (used + 1) xs q else messages n p (used + 1) xs q)) where
    others : (q : ℕ) → (q == r) ≡ false → IsFront (lists q) (messages n p (used + 1) xs q)
    others q e = subst (λ (b : Bool). IsFront (lists q) (if b then App (used + 1) body ∷ messages n p (used + 1) xs q else messages n p (used + 1) xs q)) e (fronts q)

    own : IsFront (lists r) (App (used + 1) body ∷ messages n p (used + 1) xs r)
    own = subst (λ (b : Bool). IsFront (lists r) (if b then App (used + 1) body ∷ messages n p (used + 1) xs r else messages n p (used + 1) xs r)) (is_same r) (fronts r)

    other_above : (q : ℕ) → (q == r) ≡ false → AreAbove (used + 1) (lists q)
    other_above q e = above_front (used + 1) (lists q) (messages n p (used + 1) xs q) (others q e) (messages_above n p (used + 1) xs q)

    other_none : (q : ℕ) → (q == r) ≡ false → body_at (used + 1) (lists q) ≡ None
    other_none q e = none_at (used + 1) (lists q) (other_above q e)

    there : nat_lt r n ≡ true
    there = go (nat_lt r n) can
      where
        go : (a : Bool) → (a && not (r == p)) ≡ true → a ≡ true
        go true e = refl
        go false e = absurd (cc)

    not_p : (r == p) ≡ false
    not_p = go (nat_lt r n) (r == p) can
      where
        go : (a b : Bool) → (a && not b) ≡ true → b ≡ false
        go a false e = refl
        go true true e = absurd (cc)
        go false true e = absurd (cc)

    -- what it says when it did not take that
    module _ (none : lists r ≡ []) (count : ℕ) where
      abbrev pub f : ℕ
      f = filled_by n p (used + 1) lists

      all_above : (q : ℕ) → AreAbove (used + 1) (lists q)
      all_above q = go (q == r) refl
        where
          go : (a : Bool) → (q == r) ≡ a → AreAbove (used + 1) (lists q)
          go true e = subst (λ (l : List NodeParcel). AreAbove (used + 1) l) (sym (ap lists (same q r e) ∙ none)) tt
          go false e = other_above q e

      no_taker : taker_of n (used + 1) lists ≡ None
      no_taker = taken_none (used + 1) lists n (λ q. none_at (used + 1) (lists q) (all_above q))

      fills : (nat_lt f n ≡ true) × ((f == p || has_above (used + 1) (lists f)) ≡ false)
      fills = filled (used + 1) lists n p r there (rw not_p (rw none refl))

      may_fill : may n p f ≡ true
      may_fill = rw fills.0 (rw (first_not (f == p) (has_above (used + 1) (lists f)) fills.1) refl)
        where
          first_not : (a b : Bool) → (a || b) ≡ false → a ≡ false
          first_not true b e = absurd (cc)
          first_not false b e = refl

      f_none : lists f ≡ []
      f_none = none_above (used + 1) (lists f) (all_above f) (second_not (f == p) (has_above (used + 1) (lists f)) fills.1)
        where
          second_not : (a b : Bool) → (a || b) ≡ false → b ≡ false
          second_not true b e = absurd (cc)
          second_not false b e = e

      rest_fronts : AreFronts (used + 1) xs lists
      rest_fronts q = go (q == r) refl
        where
          go : (a : Bool) → (q == r) ≡ a → IsFront (lists q) (messages n p (used + 1) xs q)
          go true e = nothing_first (lists q) _ (ap lists (same q r e) ∙ none)
          go false e = others q e

      filler_first : AreFronts (used + 1) (sends_after count n p (used + 1) lists) lists → AreFronts used (sends_after (suc count) n p used lists) lists
      filler_first k q = rw no_taker (rw may_fill (go (q == f) refl))
        where
          go : (a : Bool) → (q == f) ≡ a → IsFront (lists q) (if a then App (used + 1) (pos 0) ∷ messages n p (used + 1) (sends_after count n p (used + 1) lists) q else messages n p (used + 1) (sends_after count n p (used + 1) lists) q)
          go true e = nothing_first (lists q) _ (ap lists (same q f e) ∙ f_none)
          go false e = k q

    -- and when it did
    module _ (ys : List NodeParcel) (some : lists r ≡ App (used + 1) body ∷ ys) (count : ℕ) where
      abbrev pub left : ℕ → List NodeParcel
      left = at_one r ys lists

      taker : taker_of n (used + 1) lists ≡ Some (r, body)
      taker = taken_by (used + 1) lists n r body there (rw some (rw (is_same (used + 1)) refl)) other_none

      left_fronts : AreFronts (used + 1) xs left
      left_fronts q = go (q == r) refl
        where
          tails : (u v : NodeParcel) (us vs : List NodeParcel) → u ∷ us ≡ v ∷ vs → us ≡ vs
          tails u v us vs e = cc (e)

          ys_front : IsFront ys (messages n p (used + 1) xs r)
          ys_front = let k : IsFront (App (used + 1) body ∷ ys) (App (used + 1) body ∷ messages n p (used + 1) xs r) = subst (λ (l : List NodeParcel). IsFront l (App (used + 1) body ∷ messages n p (used + 1) xs r)) some own in
              (k.0, tails _ _ _ _ k.1)

          go : (a : Bool) → (q == r) ≡ a → IsFront (if a then ys else lists q) (messages n p (used + 1) xs q)
          go true e = subst (λ (v : ℕ). IsFront ys (messages n p (used + 1) xs v)) (sym (same q r e)) ys_front
          go false e = others q e

      alike_above : AreAlikeAbove (used + 1) lists left
      alike_above q l below = go (q == r) refl
        where
          not_it : (u l : ℕ) → u + 1 < l → (u + 1 == l) ≡ false
          not_it u l k = grind (arith, nat_tests)

          not_over : (u l : ℕ) → u + 1 < l → nat_lt l (u + 1) ≡ false
          not_over u l k = grind (arith, nat_tests)

          own_alike : (body_at l (lists r) ≡ body_at l ys) × (has_above l (lists r) ≡ has_above l ys)
          own_alike = (ap (body_at l) some ∙ rw (not_it used l below) refl, ap (has_above l) some ∙ rw (not_over used l below) refl)

          go : (a : Bool) → (q == r) ≡ a → (body_at l (lists q) ≡ body_at l (if a then ys else lists q)) × (has_above l (lists q) ≡ has_above l (if a then ys else lists q))
          go true e = subst (λ (v : ℕ). (body_at l (lists v) ≡ body_at l ys) × (has_above l (lists v) ≡ has_above l ys)) (sym (same q r e)) own_alike
          go false e = (refl, refl)

      left_below : (most : ℕ) → ((q : ℕ) → last_label (lists q) ≤ most) → (q : ℕ) → last_label (left q) ≤ most
      left_below most h q = go (q == r) refl
        where
          tail_below : (l k most : ℕ) → max l k ≤ most → k ≤ most
          tail_below l k most e = grind arith

          go : (a : Bool) → (q == r) ≡ a → last_label (if a then ys else lists q) ≤ most
          go true e = tail_below (used + 1) (last_label ys) most (subst (λ (l : List NodeParcel). last_label l ≤ most) some (h r))
          go false e = h q

      message_first : AreFronts (used + 1) (sends_after count n p (used + 1) left) left → AreFronts used (sends_after (suc count) n p used lists) lists
      message_first k q = rw taker (rw can (rw (same_sends p lists left count n (used + 1) alike_above) (go (q == r) refl)))
        where
          k_own : IsFront ys (messages n p (used + 1) (sends_after count n p (used + 1) left) r)
          k_own = subst (λ (l : List NodeParcel). IsFront l (messages n p (used + 1) (sends_after count n p (used + 1) left) r)) (at_one_here r ys lists) (k r)

          go : (a : Bool) → (q == r) ≡ a → IsFront (lists q) (if a then App (used + 1) body ∷ messages n p (used + 1) (sends_after count n p (used + 1) left) q else messages n p (used + 1) (sends_after count n p (used + 1) left) q)
          go true e = subst (λ (v : ℕ). IsFront (lists v) (App (used + 1) body ∷ messages n p (used + 1) (sends_after count n p (used + 1) left) v)) (sym (same q r e))
              (subst (λ (l : List NodeParcel). IsFront l (App (used + 1) body ∷ messages n p (used + 1) (sends_after count n p (used + 1) left) r)) (sym some)
              (k_own.0, ap (λ (l : List NodeParcel). App (used + 1) body ∷ l) k_own.1))
          go false e = subst (λ (l : List NodeParcel). IsFront l (messages n p (used + 1) (sends_after count n p (used + 1) left) q)) (rw e refl) (k q)

  pub found_fronts : (sends : List (ℕ × ℤ)) (count used : ℕ) (lists : ℕ → List NodeParcel) → AreFronts used sends lists → ((q : ℕ) → last_label (lists q) ≤ used + count) →
      AreFronts used (sends_after count n p used lists) lists
  found_fronts [] count used lists fronts below q = nothing_first (lists q) _ (none_left (lists q) (fronts q))
  found_fronts (x ∷ xs) zero used lists fronts below q = nothing_first (lists q) _ (none_after used (lists q) (above_front used (lists q) _ (fronts q) (messages_above n p used (x ∷ xs) q)) (at_most used (last_label (lists q)) (below q)))
    where
      at_most : (u l : ℕ) → l ≤ u + 0 → l ≤ u
      at_most u l h = grind arith
  found_fronts (x ∷ xs) (suc count) used lists fronts below q = go (may n p x.0) refl fronts (λ c u ls fr be. found_fronts xs c u ls fr be) q
    where
      Finds : Type 0
      Finds = (c u : ℕ) (ls : ℕ → List NodeParcel) → AreFronts u xs ls → ((q : ℕ) → last_label (ls q) ≤ u + c) → AreFronts u (sends_after c n p u ls) ls

      next : (u c l : ℕ) → l ≤ u + suc c → l ≤ u + 1 + c
      next u c l h = grind arith

      heads : (u v : NodeParcel) (us vs : List NodeParcel) → u ∷ us ≡ v ∷ vs → v ≡ u
      heads u v us vs e = cc (e)

      by_list : may n p x.0 ≡ true → ((q : ℕ) → IsFront (lists q) (if q == x.0 then App (used + 1) x.1 ∷ messages n p (used + 1) xs q else messages n p (used + 1) xs q)) →
          (l : List NodeParcel) → lists x.0 ≡ l → IsFront l (App (used + 1) x.1 ∷ messages n p (used + 1) xs x.0) → Finds → AreFronts used (sends_after (suc count) n p used lists) lists
      by_list can f [] e k finds = filler_first used x.0 x.1 can xs lists f e count
          (finds count (used + 1) lists (rest_fronts used x.0 x.1 can xs lists f e count) (λ q. next used count _ (below q)))
      by_list can f (y ∷ ys) e k finds = let some : lists x.0 ≡ App (used + 1) x.1 ∷ ys = e ∙ ap (λ (z : NodeParcel). z ∷ ys) (heads _ _ _ _ k.1) in
          message_first used x.0 x.1 can xs lists f ys some count
          (finds count (used + 1) (at_one x.0 ys lists) (left_fronts used x.0 x.1 can xs lists f ys some count)
          (left_below used x.0 x.1 can xs lists f ys some count (used + 1 + count) (λ q. next used count _ (below q))))

      go : (a : Bool) → may n p x.0 ≡ a → ((q : ℕ) → IsFront (lists q) (if a then (if q == x.0 then App (used + 1) x.1 ∷ messages n p (used + 1) xs q else messages n p (used + 1) xs q) else messages n p used xs q)) → Finds →
          AreFronts used (sends_after (suc count) n p used lists) lists
      go true e f finds = by_list e f (lists x.0) refl (own used x.0 x.1 e xs lists f) finds
      go false e f finds = finds (suc count) used lists f below

  -- none is put for who is not there
  none_there : (used : ℕ) (xs : List (ℕ × ℤ)) (q : ℕ) → nat_lt q n ≡ false → messages n p used xs q ≡ []
  none_there used [] q e = refl
  none_there used (x ∷ xs) q e = go (may n p x.0) refl (q == x.0) refl (λ u. none_there u xs q e)
    where
      first_so : (a b : Bool) → (a && b) ≡ true → a ≡ true
      first_so true b h = refl
      first_so false b h = absurd (cc)

      go : (a : Bool) → may n p x.0 ≡ a → (b : Bool) → (q == x.0) ≡ b → ((u : ℕ) → messages n p u xs q ≡ []) → (if a then (if b then App (used + 1) x.1 ∷ messages n p (used + 1) xs q else messages n p (used + 1) xs q) else messages n p used xs q) ≡ []
      go true f true g rest = elim (clash (nat_lt x.0 n) (first_so (nat_lt x.0 n) _ f) (subst (λ (v : ℕ). nat_lt v n ≡ false) (same q x.0 g) e)) [ ]
      go true f false g rest = rest (used + 1)
      go false f b g rest = rest used

  -- nobody told a greater label than the last one
  last_is : (m : ℕ) (lists : ℕ → List NodeParcel) (q : ℕ) → nat_lt q m ≡ true → last_label (lists q) ≤ last_told m lists
  last_is zero lists q e = elim (clash (nat_lt q 0) e (none_below q)) [ ]
    where
      none_below : (q : ℕ) → nat_lt q 0 ≡ false
      none_below q = grind (arith, nat_tests)
  last_is (suc m) lists q e = go (q == m) refl (λ k. last_is m lists q k)
    where
      lower : (q m : ℕ) → nat_lt q (suc m) ≡ true → (q == m) ≡ false → nat_lt q m ≡ true
      lower q m h k = grind (arith, nat_tests)

      here : (a b : ℕ) → a ≤ max a b
      here a b = grind arith

      later : (a b c : ℕ) → c ≤ b → c ≤ max a b
      later a b c h = grind arith

      go : (a : Bool) → (q == m) ≡ a → (nat_lt q m ≡ true → last_label (lists q) ≤ last_told m lists) → last_label (lists q) ≤ last_told (suc m) lists
      go true f rest = subst (λ (v : ℕ). last_label (lists v) ≤ last_told (suc m) lists) (sym (same q m f)) (here (last_label (lists m)) (last_told m lists))
      go false f rest = later (last_label (lists m)) (last_told m lists) (last_label (lists q)) (rest (lower q m e f))

  pub last_below : (used : ℕ) (sends : List (ℕ × ℤ)) (lists : ℕ → List NodeParcel) → AreFronts used sends lists → (q : ℕ) → last_label (lists q) ≤ used + (last_told n lists - used)
  last_below used sends lists fronts q = go (nat_lt q n) refl
    where
      up_to : (a u l : ℕ) → a ≤ l → a ≤ u + (l - u)
      up_to a u l h = grind arith

      none : (u : ℕ) → 0 ≤ u
      none u = grind arith

      go : (a : Bool) → nat_lt q n ≡ a → last_label (lists q) ≤ used + (last_told n lists - used)
      go true e = up_to (last_label (lists q)) used (last_told n lists) (last_is n lists q e)
      go false e = subst (λ (l : List NodeParcel). last_label l ≤ used + (last_told n lists - used)) (sym (none_left (lists q) (subst (λ (l : List NodeParcel). IsFront (lists q) l) (none_there used sends q e) (fronts q)))) (none _)
