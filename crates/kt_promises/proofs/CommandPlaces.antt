-- The place of a process's next command in the plan.
use Rattle.std.proofs.Common.{◌≡◌, ℕ, zero, suc, ◌<◌, Bool, true, false, List, [], ◌∷◌, length, take, drop, refl, arith, ap, Some}
use Rattle.std.specs.Prelude.{◌==◌, if◌then◌else◌, slice_get}
use Rattle.kt_protocol.proofs.Choices.{same}
use Rattle.kt_protocol.proofs.Updates.{is_same}
use Rattle.kt_promises.specs.Order.{place_of_command}
use Rattle.kt_plan.specs.declared.commands.Command.{Command}
use Rattle.kt_meaning.specs.Follows.{commands_of}

-- the command at i is the one of p after k others
pub record IsAt (k p : ℕ) (l : List Command) (c : Command) (i : ℕ) : Type 0 where
  pub there : slice_get l i ≡ Some c
  pub mine : c.by ≡ p
  pub rank : length (commands_of p (take i l)) ≡ k
  pub low : i < length l

later_other : (k p : ℕ) (d : Command) (l : List Command) (c : Command) (i : ℕ) → (d.by == p) ≡ false → IsAt k p l c i → IsAt k p (d ∷ l) c (suc i)
later_other k p d l c i e h = record { there = h.there; mine = h.mine; rank = rw e h.rank; low = (let x = h.low in omega (arith, x)) }

later_own : (k p : ℕ) (d : Command) (l : List Command) (c : Command) (i : ℕ) → (d.by == p) ≡ true → IsAt k p l c i → IsAt (suc k) p (d ∷ l) c (suc i)
later_own k p d l c i e h = record { there = h.there; mine = h.mine; rank = rw e (ap suc h.rank); low = (let x = h.low in omega (arith, x)) }

pub at_place : (k p : ℕ) (l : List Command) (c : Command) → slice_get (drop k (commands_of p l)) 0 ≡ Some c → IsAt k p l c (place_of_command k p l)
at_place zero p [] c e = absurd (cc (e))
at_place (suc k) p [] c e = absurd (cc (e))
at_place zero p (d ∷ l) c e = go (at_place zero p l c) (d.by == p) refl e
  where
    go : (slice_get (commands_of p l) 0 ≡ Some c → IsAt zero p l c (place_of_command zero p l)) → (b : Bool) → (d.by == p) ≡ b → slice_get (if b then d ∷ commands_of p l else commands_of p l) 0 ≡ Some c → IsAt zero p (d ∷ l) c (if b then 0 else suc (place_of_command zero p l))
    go r true i e = let x : d ≡ c = cc (e) in record { there = ap Some x; mine = rw (← x) (same d.by p i); rank = refl; low = omega arith }
    go r false i e = later_other zero p d l c (place_of_command zero p l) i (r e)
at_place (suc k) p (d ∷ l) c e = go (at_place k p l c) (at_place (suc k) p l c) (d.by == p) refl e
  where
    go : (slice_get (drop k (commands_of p l)) 0 ≡ Some c → IsAt k p l c (place_of_command k p l)) → (slice_get (drop (suc k) (commands_of p l)) 0 ≡ Some c → IsAt (suc k) p l c (place_of_command (suc k) p l)) → (b : Bool) → (d.by == p) ≡ b → slice_get (drop (suc k) (if b then d ∷ commands_of p l else commands_of p l)) 0 ≡ Some c → IsAt (suc k) p (d ∷ l) c (if b then suc (place_of_command k p l) else suc (place_of_command (suc k) p l))
    go r t true i e = later_own k p d l c (place_of_command k p l) i (r e)
    go r t false i e = later_other (suc k) p d l c (place_of_command (suc k) p l) i (t e)

-- there is one such place
pub place_is : (k p : ℕ) (l : List Command) (c : Command) (i : ℕ) → slice_get l i ≡ Some c → c.by ≡ p → length (commands_of p (take i l)) ≡ k → place_of_command k p l ≡ i
place_is k p [] c i e m r = absurd (cc (e))
place_is zero p (d ∷ l) c zero e m r = let x : d ≡ c = cc (e) in let y : (d.by == p) ≡ true = rw (x, m) (is_same p) in rw y refl
place_is (suc k) p (d ∷ l) c zero e m r = absurd (cc (r))
place_is zero p (d ∷ l) c (suc i) e m r = go (place_is zero p l c i e m) (d.by == p) refl r
  where
    go : (length (commands_of p (take i l)) ≡ zero → place_of_command zero p l ≡ i) → (b : Bool) → (d.by == p) ≡ b → length (if b then d ∷ commands_of p (take i l) else commands_of p (take i l)) ≡ zero → (if b then 0 else suc (place_of_command zero p l)) ≡ suc i
    go h true x r = absurd (omega (arith, r))
    go h false x r = ap suc (h r)
place_is (suc k) p (d ∷ l) c (suc i) e m r = go (place_is k p l c i e m) (place_is (suc k) p l c i e m) (d.by == p) refl r
  where
    go : (length (commands_of p (take i l)) ≡ k → place_of_command k p l ≡ i) → (length (commands_of p (take i l)) ≡ suc k → place_of_command (suc k) p l ≡ i) → (b : Bool) → (d.by == p) ≡ b → length (if b then d ∷ commands_of p (take i l) else commands_of p (take i l)) ≡ suc k → (if b then suc (place_of_command k p l) else suc (place_of_command (suc k) p l)) ≡ suc i
    go h t true x r = ap suc (h (let y = r in omega (arith, y)))
    go h t false x r = ap suc (t r)

-- the command there is the first after k of p's
pub place_get : (k p : ℕ) (l : List Command) → slice_get l (place_of_command k p l) ≡ slice_get (drop k (commands_of p l)) 0
place_get zero p [] = refl
place_get (suc k) p [] = refl
place_get zero p (d ∷ l) = go (place_get zero p l) (d.by == p)
  where
    go : slice_get l (place_of_command zero p l) ≡ slice_get (commands_of p l) 0 → (b : Bool) → slice_get (d ∷ l) (if b then 0 else suc (place_of_command zero p l)) ≡ slice_get (if b then d ∷ commands_of p l else commands_of p l) 0
    go r true = refl
    go r false = r
place_get (suc k) p (d ∷ l) = go (place_get k p l) (place_get (suc k) p l) (d.by == p)
  where
    go : slice_get l (place_of_command k p l) ≡ slice_get (drop k (commands_of p l)) 0 → slice_get l (place_of_command (suc k) p l) ≡ slice_get (drop (suc k) (commands_of p l)) 0 →
        (b : Bool) → slice_get (d ∷ l) (if b then suc (place_of_command k p l) else suc (place_of_command (suc k) p l)) ≡ slice_get (drop (suc k) (if b then d ∷ commands_of p l else commands_of p l)) 0
    go r t true = r
    go r t false = t
