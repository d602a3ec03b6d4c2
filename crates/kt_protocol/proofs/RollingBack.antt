-- What the commit of a rollback leaves.
use Rattle.std.proofs.Common.{◌≡◌, ℕ, zero, suc, ◌+◌, ◌≤◌, ◌<◌, Bool, true, false, not, List, [], ◌∷◌, length, refl, arith, sym, inl, inr, ◌⊎◌, Some, ◌∙◌}
use Rattle.std.specs.Prelude.{◌==◌, ◌&&◌, nat_le, if◌then◌else◌, slice_get}
use Rattle.std.proofs.lemmas.Bool.Decides.{nat_tests}
use Rattle.kt_spacetime.specs.declared.deeds.Deed.{Deed}
use Rattle.std.proofs.Common.{take, length-take}
use Rattle.kt_protocol.proofs.Deciding.{rollback_cut_consistent, received_by_members}
use Rattle.kt_protocol.proofs.Invariant.{Invariant, is_message, one}
use Rattle.kt_protocol.proofs.Updates.{is_same}
use Rattle.kt_protocol.proofs.Weights.{weigh, weigh_put_back}
use Rattle.kt_protocol.specs.States.{State}
use Rattle.kt_protocol.specs.Parcels.{put_back}
use Rattle.kt_protocol.proofs.RowFacts.{rollback_cut_of}
use Rattle.kt_protocol.specs.Summary.{is_undone, is_unreceived}
use Rattle.kt_protocol.proofs.Choices.{both, same}

pub get-take : {X : Type 0} (n : ℕ) (xs : List X) (i : ℕ) (y : X) → slice_get (take n xs) i ≡ Some y → (slice_get xs i ≡ Some y) × (i < n)
get-take zero xs i y h = absurd (cc)
get-take (suc n) [] i y h = absurd (cc)
get-take (suc n) (z ∷ xs) zero y h = (h, omega arith)
get-take (suc n) (z ∷ xs) (suc i) y h = let r = get-take n xs i y h in (r.0, omega (arith, r.1))

pub take-get : {X : Type 0} (n : ℕ) (xs : List X) (i : ℕ) (y : X) → i < n → slice_get xs i ≡ Some y → slice_get (take n xs) i ≡ Some y
take-get zero xs i y l h = absurd (omega arith)
take-get (suc n) [] i y l h = absurd (cc)
take-get (suc n) (z ∷ xs) zero y l h = h
take-get (suc n) (z ∷ xs) (suc i) y l h = take-get n xs i y (omega arith) h

-- a place of the shorter history
pub cut_cases : (b : Bool) (n : ℕ) (xs : List Deed) (i : ℕ) (y : Deed) → slice_get (if b then take n xs else xs) i ≡ Some y → (slice_get xs i ≡ Some y) × (b ≡ true → i < n)
cut_cases true n xs i y h = let r = get-take n xs i y h in (r.0, λ _. r.1)
cut_cases false n xs i y h = (h, λ e. absurd (cc (e)))

pub cut_there : (b : Bool) (n : ℕ) (xs : List Deed) (i : ℕ) (y : Deed) → (b ≡ true → i < n) → slice_get xs i ≡ Some y → slice_get (if b then take n xs else xs) i ≡ Some y
cut_there true n xs i y l h = take-get n xs i y (l refl) h
cut_there false n xs i y l h = h

pub cut_length : (b : Bool) (n z : ℕ) (xs : List Deed) → z ≡ length xs → n ≤ z → (if b then n else z) ≡ length (if b then take n xs else xs)
cut_length true n z xs e l = grind (arith, nat_tests, length-take)
cut_length false n z xs e l = e

-- S is sent, G received, D dropped, U undone, J: its receiver is a member, L: received twins the permanent checkpoint
pub once : (S G D U J L : Bool) (c h kp : ℕ) → c + h ≡ one (S && not G && not D) → kp ≡ one (G && L) → (G ≡ true → S ≡ true) → (D ≡ true → G ≡ false) → (S ≡ true → U ≡ true → (c ≡ 0) × ((J ≡ true) ⊎ ((G ≡ false) × (h ≡ 0)))) →
    c + (if J then (if not U then kp + h else 0) else h) ≡ one ((S && not U) && not (G && not (J && L)) && not D)
once false true D U J L c h kp e f x y z = absurd (let a = x refl in cc (a))
once true true true U J L c h kp e f x y z = absurd (let a = y refl in cc (a))
once false false D U true L c h kp e f x y z = grind (arith, nat_tests, e, f)
once false false D U false L c h kp e f x y z = grind (arith, nat_tests, e, f)
once true false true U true L c h kp e f x y z = grind (arith, nat_tests, e, f)
once true false true U false L c h kp e f x y z = grind (arith, nat_tests, e, f)
once true false false true true L c h kp e f x y z = let a = (z refl refl).0 in omega (arith, a)
once true false false false true L c h kp e f x y z = grind (arith, nat_tests, e, f)
once true false false true false L c h kp e f x y z = let a = z refl refl in elim a.1 [ inl b ↦ absurd (cc (b)) | inr b ↦ omega (arith, a.0, b.1) ]
once true false false false false L c h kp e f x y z = grind (arith, nat_tests, e, f)
once true true false true true true c h kp e f x y z = let a = (z refl refl).0 in omega (arith, a)
once true true false true true false c h kp e f x y z = let a = (z refl refl).0 in omega (arith, a)
once true true false true false L c h kp e f x y z = let a = z refl refl in elim a.1 [ inl b ↦ absurd (cc (b)) | inr b ↦ let b0 = b.0 in absurd (cc (b0)) ]
once true true false false true true c h kp e f x y z = grind (arith, nat_tests, e, f)
once true true false false true false c h kp e f x y z = grind (arith, nat_tests, e, f)
once true true false false false L c h kp e f x y z = grind (arith, nat_tests, e, f)

module _ (s : State) (k : ℕ) (g : Invariant s) (d : s.so_far.is_decided k ≡ false) (r : s.so_far.is_rollback k ≡ true) (w : s.so_far.has_unwilling k ≡ false) (calm : (u v : ℕ) → s.awaits k u v ≡ false) where
  -- what is still received is still sent
  pub alive : (m : ℕ) → (s.so_far.is_received m && not (is_unreceived s.so_far k m)) ≡ true → (s.so_far.is_received m ≡ true) × (s.so_far.is_sent m ≡ true) × (s.so_far.sent_at m < rollback_cut_of s.so_far k (s.so_far.from m)) × (s.so_far.received_at m < rollback_cut_of s.so_far k (s.so_far.to m))
  alive m a =
      let b : s.so_far.is_received m ≡ true = grind (arith, nat_tests, a) in
      let l = g.messages.received_low m b in
      let c : s.so_far.received_at m < rollback_cut_of s.so_far k (s.so_far.to m) = grind (arith, nat_tests, a, l.1) in
      (b, l.0, rollback_cut_consistent s k g d r w calm m b c, c)

  pub alive_sent : (m : ℕ) → (s.so_far.is_received m && not (is_unreceived s.so_far k m)) ≡ true → (s.so_far.is_sent m && not (is_undone s.so_far k m)) ≡ true
  alive_sent m a = let b = alive m a in let b1 = b.1 in let b2 = b.2 in grind (arith, nat_tests, b1, b2)

  pub was_sent : (m : ℕ) → (s.so_far.is_sent m && not (is_undone s.so_far k m)) ≡ true → (s.so_far.is_sent m ≡ true) × (s.so_far.joined k (s.so_far.from m) ≡ true → s.so_far.sent_at m < s.so_far.permanent (s.so_far.from m))
  was_sent m a = (grind (arith, nat_tests, a), λ e. grind (arith, nat_tests, a, e))

  pub was_got : (m : ℕ) → (s.so_far.is_received m && not (is_unreceived s.so_far k m)) ≡ true → (s.so_far.is_received m ≡ true) × (s.so_far.joined k (s.so_far.to m) ≡ true → s.so_far.received_at m < s.so_far.permanent (s.so_far.to m))
  was_got m a = (grind (arith, nat_tests, a), λ e. grind (arith, nat_tests, a, e))

  pub still_sent : (m : ℕ) → s.so_far.is_sent m ≡ true → s.so_far.joined k (s.so_far.from m) ≡ false → (s.so_far.is_sent m && not (is_undone s.so_far k m)) ≡ true
  still_sent m a b = grind (arith, nat_tests, a, b)

  pub still_got : (m : ℕ) → s.so_far.is_received m ≡ true → s.so_far.joined k (s.so_far.to m) ≡ false → (s.so_far.is_received m && not (is_unreceived s.so_far k m)) ≡ true
  still_got m a b = grind (arith, nat_tests, a, b)

  -- a member's base is its permanent checkpoint
  pub member_base : (u : ℕ) → s.so_far.joined k u ≡ true → s.saved_at u ≡ s.so_far.permanent u
  member_base u a = (g.positions.rollback_permanent k u (g.positions.joined_instance k u a).0 (g.positions.member_open k u a d) r).0

  -- who is in another open checkpoint is no member
  pub saver : (j u : ℕ) → s.so_far.open_in u ≡ j → s.so_far.is_rollback j ≡ false → s.so_far.joined k u ≡ false
  saver j u o c = at_test (s.so_far.joined k u) refl
    where
      at_test : (b : Bool) → s.so_far.joined k u ≡ b → s.so_far.joined k u ≡ false
      at_test false e = e
      at_test true e = let x = g.positions.member_open k u e d in let y : j ≡ k = sym o ∙ x in let z : s.so_far.is_rollback k ≡ false = rw y at c in absurd (cc (z, r))

  pub flying_there : (m : ℕ) → weigh (is_message m) (s.channel (s.so_far.from m) (s.so_far.to m)) + weigh (is_message m) (put_back (λ m. not (is_undone s.so_far k m)) (s.so_far.joined k) s.kept s.held (s.so_far.from m) (s.so_far.to m)) ≡ one ((s.so_far.is_sent m && not (is_undone s.so_far k m)) && not (s.so_far.is_received m && not (is_unreceived s.so_far k m)) && not (s.so_far.dropped m))
  flying_there m =
      let a : weigh (is_message m) (s.channel (s.so_far.from m) (s.so_far.to m)) + weigh (is_message m) (s.held (s.so_far.from m) (s.so_far.to m)) ≡ one (s.so_far.is_sent m && not (s.so_far.is_received m) && not (s.so_far.dropped m)) = grind (arith, nat_tests, g.messages.flying m (s.so_far.from m) (s.so_far.to m), is_same (s.so_far.from m), is_same (s.so_far.to m)) in
      let b : weigh (is_message m) (s.kept (s.so_far.from m) (s.so_far.to m)) ≡ one (s.so_far.is_received m && nat_le (s.so_far.permanent (s.so_far.to m)) (s.so_far.received_at m)) = grind (arith, nat_tests, g.messages.kept_is m (s.so_far.to m) (s.so_far.from m), is_same (s.so_far.from m), is_same (s.so_far.to m)) in
      rw (weigh_put_back m (λ m. not (is_undone s.so_far k m)) (s.so_far.joined k) s.kept s.held (s.so_far.from m) (s.so_far.to m))
      (once (s.so_far.is_sent m) (s.so_far.is_received m) (s.so_far.dropped m) (is_undone s.so_far k m) (s.so_far.joined k (s.so_far.to m)) (nat_le (s.so_far.permanent (s.so_far.to m)) (s.so_far.received_at m)) _ _ _ a b (λ e. (g.messages.received_low m e).0) (λ e. (g.messages.dropped_low m e).1) (λ e f. let n = received_by_members s k g d r w calm m e f in (n.0, elim n.1 [ inl x ↦ inl x.0 | inr x ↦ inr x ])))

  pub flying_other : (m u v : ℕ) → (s.so_far.from m == u && s.so_far.to m == v) ≡ false → weigh (is_message m) (s.channel u v) + weigh (is_message m) (put_back (λ m. not (is_undone s.so_far k m)) (s.so_far.joined k) s.kept s.held u v) ≡ 0
  flying_other m u v e =
      let a : weigh (is_message m) (s.channel u v) + weigh (is_message m) (s.held u v) ≡ 0 = grind (arith, nat_tests, g.messages.flying m u v, e) in
      let b : weigh (is_message m) (s.kept u v) ≡ 0 = grind (arith, nat_tests, g.messages.kept_is m v u, e) in
      let c = weigh_put_back m (λ m. not (is_undone s.so_far k m)) (s.so_far.joined k) s.kept s.held u v in
      let x : weigh (is_message m) (put_back (λ m. not (is_undone s.so_far k m)) (s.so_far.joined k) s.kept s.held u v) ≡ 0 = c ∙ zero_if (s.so_far.joined k v) (not (is_undone s.so_far k m)) _ _ b (omega (arith, a)) in
      omega (arith, a, x)
    where
      zero_if : (a b : Bool) (x y : ℕ) → x ≡ 0 → y ≡ 0 → (if a then (if b then x + y else 0) else y) ≡ 0
      zero_if a b x y e f = grind (arith, nat_tests, e, f)

  pub flying_after : (m u v : ℕ) → weigh (is_message m) (s.channel u v) + weigh (is_message m) (put_back (λ m. not (is_undone s.so_far k m)) (s.so_far.joined k) s.kept s.held u v) ≡ one ((s.so_far.is_sent m && not (is_undone s.so_far k m)) && not (s.so_far.is_received m && not (is_unreceived s.so_far k m)) && not (s.so_far.dropped m) && s.so_far.from m == u && s.so_far.to m == v)
  flying_after m u v = at_test (s.so_far.from m == u && s.so_far.to m == v) refl
    where
      last : (a b c x y : Bool) → (x && y) ≡ false → one (a && b && c && x && y) ≡ 0
      last a b c x y e = grind (arith, nat_tests, e)

      first : (a b c x y : Bool) → x ≡ true → y ≡ true → one (a && b && c && x && y) ≡ one (a && b && c)
      first a b c x y e f = grind (arith, nat_tests, e, f)

      at_test : (b : Bool) → (s.so_far.from m == u && s.so_far.to m == v) ≡ b → weigh (is_message m) (s.channel u v) + weigh (is_message m) (put_back (λ m. not (is_undone s.so_far k m)) (s.so_far.joined k) s.kept s.held u v) ≡ one ((s.so_far.is_sent m && not (is_undone s.so_far k m)) && not (s.so_far.is_received m && not (is_unreceived s.so_far k m)) && not (s.so_far.dropped m) && s.so_far.from m == u && s.so_far.to m == v)
      at_test false e = flying_other m u v e ∙ sym (last (s.so_far.is_sent m && not (is_undone s.so_far k m)) (not (s.so_far.is_received m && not (is_unreceived s.so_far k m))) (not (s.so_far.dropped m)) (s.so_far.from m == u) (s.so_far.to m == v) e)
      at_test true e =
          let b = both (s.so_far.from m == u) (s.so_far.to m == v) e in
          let x = same (s.so_far.from m) u b.0 in
          let y = same (s.so_far.to m) v b.1 in
          rw (first (s.so_far.is_sent m && not (is_undone s.so_far k m)) (not (s.so_far.is_received m && not (is_unreceived s.so_far k m))) (not (s.so_far.dropped m)) (s.so_far.from m == u) (s.so_far.to m == v) b.0 b.1)
          (rw (← x, ← y) (flying_there m))
