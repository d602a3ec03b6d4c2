-- The acts of a step are few: what they can be.
use Rattle.std.proofs.Common.{◌≡◌, ℕ, ℤ, ◌+◌, ◌≤◌, Bool, true, false, not, List, [], ◌∷◌, length, refl, arith}
use Rattle.std.specs.Prelude.{◌==◌, ◌&&◌, if◌then◌else◌}
use Rattle.kt_protocol.specs.Parcels.{Parcel, App, Ask, Reply, Decide, with_rest}
use Rattle.kt_protocol.specs.States.{ProtocolStep, Send, Begin, Fail, Take, State, is_ready}
use Rattle.kt_protocol.specs.Joining.{after_began, after_joining_checkpoint, after_joining_rollback, must_take, must_roll}
use Rattle.kt_protocol.specs.Replies.{after_noting, after_reply}
use Rattle.kt_protocol.specs.Deciding.{none_of}
use Rattle.kt_machine.specs.Done.{done}
use Rattle.kt_machine.specs.Values.{Act, Apply, Keep, Drop, closing, drops}
use Rattle.kt_machine.specs.Acts.{acts_arriving, acts_settling, acts_asked, acts_taking, acts_taking_held, acts_beginning, acts_starting, acts, acts_by, failures}

at_if : (P : List Act → Type 0) (b : Bool) (x y : List Act) → P x → P y → P (if b then x else y)
at_if P true x y f g = f
at_if P false x y f g = g

-- a property of all that a step but a failure can tell
pub record Few (P : List Act → Type 0) : Type 0 where
  pub none : P []
  pub apply : (q : ℕ) (b : ℤ) → P (Apply q b ∷ [])
  pub keep : P (Keep ∷ [])
  pub close : (roll commit : Bool) → P (closing roll commit)
  pub keep_close : (roll commit : Bool) → P (Keep ∷ closing roll commit)

module _ (P : List Act → Type 0) (f : Few P) where
  settling : (s : State) (p k : ℕ) → P (acts_settling s p k)
  settling s p k = at_if P (none_of s.processes (s.awaits k p)) _ _ (at_if P (p == s.initiator k) _ _ (f.close (s.so_far.is_rollback k) (s.all_willing k p)) f.none) f.none

  keep_settling : (s : State) (p k : ℕ) → P (Keep ∷ acts_settling s p k)
  keep_settling s p k = at_if (λ a. P (Keep ∷ a)) (none_of s.processes (s.awaits k p)) _ _ (at_if (λ a. P (Keep ∷ a)) (p == s.initiator k) _ _ (f.keep_close (s.so_far.is_rollback k) (s.all_willing k p)) f.keep) f.keep

  asked : (s : State) (p q : ℕ) (able : Bool) (k l : ℕ) (rest : List Parcel) → P (acts_asked s p q able k l rest)
  asked s p q able k l rest =
      at_if P (s.so_far.open_in p == k) _ _ f.none
      (at_if P (not (s.so_far.open_in p == 0)) _ _ f.none
      (at_if P (s.so_far.is_rollback k) _ _
      (at_if P (must_roll s p q l) _ _ (settling (after_joining_rollback (after_noting s p q k l) (with_rest s.channel q p rest) p k false q (s.last_received p q)) p k) f.none)
      (at_if P (not (must_take s p q l)) _ _ f.none
      (at_if P (not (able && s.up p)) _ _ f.none
      (keep_settling (after_joining_checkpoint s (with_rest s.channel q p rest) p k false q l) p k)))))

  arriving : (s : State) (p q m : ℕ) → P (acts_arriving s p q m)
  arriving s p q m = at_if P (s.up p) _ _ (f.apply q ((done s.log).body m)) f.none

  taking : (s : State) (p q : ℕ) (able : Bool) (l : List Parcel) → P (acts_taking s p q able l)
  taking s p q able [] = f.none
  taking s p q able (App m ∷ rest) = at_if P (is_ready s p) _ _ f.none (arriving s p q m)
  taking s p q able (Ask k l ∷ rest) = asked s p q able k l rest
  taking s p q able (Reply k w ∷ rest) = settling (after_reply s p q k w rest) p k
  taking s p q able (Decide k c ∷ rest) = at_if P (s.so_far.open_in p == k) _ _ (f.close (s.so_far.is_rollback k) c) f.none

  taking_held : (s : State) (p q : ℕ) (able : Bool) (l : List Parcel) → P (acts_taking_held s p q able l)
  taking_held s p q able [] = taking s p q able (s.channel q p)
  taking_held s p q able (App m ∷ rest) = arriving s p q m
  taking_held s p q able (Ask k l ∷ rest) = f.none
  taking_held s p q able (Reply k w ∷ rest) = f.none
  taking_held s p q able (Decide k c ∷ rest) = f.none

  beginning : (s : State) (p : ℕ) (roll : Bool) → P (acts_beginning s p roll)
  beginning s p false = keep_settling (after_joining_checkpoint (after_began s p false) s.channel p (s.instances + 1) true p 0) p (s.instances + 1)
  beginning s p true = settling (after_joining_rollback (after_began s p true) s.channel p (s.instances + 1) true p 0) p (s.instances + 1)

  starting : (s : State) (p : ℕ) (roll able : Bool) → P (acts_starting s p roll able)
  starting s p true able = beginning s p true
  starting s p false able = at_if P (able && s.up p) _ _ (beginning s p false) f.none

  pub few : (s : State) (x : ProtocolStep) → ((p : ℕ) → x ≡ Fail p → P (Drop ∷ [])) → P (acts s x)
  few s (Send p q body) d = f.none
  few s (Begin p roll able) d = at_if P (s.so_far.open_in p == 0) _ _ (starting s p roll able) f.none
  few s (Fail p) d = at_if P (s.up p) _ _ (d p refl) f.none
  few s (Take p q able) d = at_if P (is_ready s p) _ _ (taking s p q able (s.channel q p)) (taking_held s p q able (s.held q p))

-- no more than two
pub two : (s : State) (x : ProtocolStep) → length (acts s x) ≤ 2
two s x = few (λ a. length a ≤ 2) (record { none = omega arith; apply = λ q b. omega arith; keep = omega arith; close = closed; keep_close = kept }) s x (λ p e. omega arith)
  where
    closed : (roll commit : Bool) → length (closing roll commit) ≤ 2
    closed true true = omega arith
    closed true false = omega arith
    closed false true = omega arith
    closed false false = omega arith

    kept : (roll commit : Bool) → length (Keep ∷ closing roll commit) ≤ 2
    kept true true = omega arith
    kept true false = omega arith
    kept false true = omega arith
    kept false false = omega arith

no_drops : Few (λ a. drops a ≡ 0)
no_drops = record { none = refl; apply = λ q b. refl; keep = refl; close = closed; keep_close = kept }
  where
    closed : (roll commit : Bool) → drops (closing roll commit) ≡ 0
    closed true true = refl
    closed true false = refl
    closed false true = refl
    closed false false = refl

    kept : (roll commit : Bool) → drops (Keep ∷ closing roll commit) ≡ 0
    kept true true = refl
    kept true false = refl
    kept false true = refl
    kept false false = refl

by_drops : (b : Bool) (a : List Act) (n : ℕ) → drops a ≤ n → drops (if b then a else []) ≤ (if b then n else 0)
by_drops true a n l = l
by_drops false a n l = omega arith

none_by : (b : Bool) (a : List Act) (n : ℕ) → drops a ≡ 0 → drops (if b then a else []) ≤ n
none_by true a n e = omega (arith, e)
none_by false a n e = omega arith

-- a process drops its object no more often than it is asked to fail
pub few_drops : (p : ℕ) (s : State) (x : ProtocolStep) (xs : List ProtocolStep) (n : ℕ) → n ≤ failures p xs → drops (acts_by p s x) + n ≤ failures p (x ∷ xs)
few_drops p s (Fail q) xs n l = let d = by_drops (p == q) (acts s (Fail q)) 1 (at_if (λ a. drops a ≤ 1) (s.up q) _ _ (omega arith) (omega arith)) in omega (arith, d, l)
few_drops p s (Send q to body) xs n l = let d = none_by (p == q) (acts s (Send q to body)) 0 refl in omega (arith, d, l)
few_drops p s (Begin q roll able) xs n l = let d = none_by (p == q) (acts s (Begin q roll able)) 0 (few (λ a. drops a ≡ 0) no_drops s (Begin q roll able) (λ v e. absurd (cc (e)))) in omega (arith, d, l)
few_drops p s (Take q from able) xs n l = let d = none_by (p == q) (acts s (Take q from able)) 0 (few (λ a. drops a ≡ 0) no_drops s (Take q from able) (λ v e. absurd (cc (e)))) in omega (arith, d, l)
