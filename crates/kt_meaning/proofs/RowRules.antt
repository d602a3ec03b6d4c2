-- What the rules say of a row of each sort.
use Rattle.std.proofs.Common.{◌≡◌, ℕ, ◌+◌, Bool, true, false, Option, Some, None, length, refl, arith, ap}
use Rattle.std.specs.List.{list_all}
use Rattle.std.specs.Prelude.{not, is_none, is_some, ◌&&◌, ◌||◌}
use Rattle.std.proofs.lemmas.Bool.Decides.{nat_tests}
use Rattle.kt_base.specs.declared.words.Kind.{Kind}
use Rattle.kt_base.specs.declared.words.Kind.TheVariants.{Checkpoint, Rollback}
use Rattle.kt_spacetime.specs.declared.event.Event.TheVariants.{Received, Began, Took, Ready, Decided, Closed}
use Rattle.kt_spacetime.specs.declared.deeds.Deed.TheVariants as deed
use Rattle.kt_meaning.specs.Past.{Past, is_checkpoint, is_rollback, initiator_of}
use Rattle.kt_meaning.specs.Legal.{has_deed, is_later, is_instance, is_rolling, has_begun, broken_rule}
use Rattle.kt_meaning.proofs.LegalLogs.{kept}

pub none_from : {X : Type 0} (o : Option X) → is_none o ≡ true → o ≡ None
none_from None e = refl
none_from (Some x) e = absurd (cc)

pub in_from : (o : Option ℕ) (k : ℕ) → is_instance o k ≡ true → o ≡ Some k
in_from None k e = absurd (cc)
in_from (Some j) k e = let same : j ≡ k = grind (arith, nat_tests) in ap (λ (i : ℕ). Some i) same

-- both parts of a test
pub both : (a b : Bool) → (a && b) ≡ true → (a ≡ true) × (b ≡ true)
both true b e = (refl, e)
both false b e = absurd (cc)

pub not_true : (b : Bool) → not b ≡ true → b ≡ false
not_true true e = absurd (cc)
not_true false e = refl

pub neither : (a b : Bool) → (a || b) ≡ false → (a ≡ false) × (b ≡ false)
neither true b e = absurd (cc)
neither false b e = (refl, e)

pub none_from_not_some : {X : Type 0} (o : Option X) → is_some o ≡ false → o ≡ None
none_from_not_some None e = refl
none_from_not_some (Some x) e = absurd (cc)

-- a message that a process receives is sent to it and live, not received, and later than what it has of that sender
pub record MayReceive (s : Past) (p from msg : ℕ) : Type 0 where
  pub sent : has_deed (deed.Sent msg p) (s.live from) ≡ true
  pub unreceived : has_deed (deed.Received msg from) (s.live p) ≡ false
  pub undropped : s.dropped msg ≡ false
  pub later : list_all (is_later from msg) (s.live p) ≡ true
  pub later_dropped : list_all (is_later from msg) (s.dropped_since p) ≡ true
  pub not_rolling : is_rolling s p ≡ false
  pub up : s.up p ≡ true

pub may_receive : (s : Past) (p from msg : ℕ) → broken_rule s (Received p from msg) ≡ None → MayReceive s p from msg
may_receive s p from msg e =
    let k = kept s (Received p from msg) e in
    let a = both _ _ k.message in
    let b = both _ _ a.0 in
    let c = both _ _ k.order in
    let d = both _ _ k.receiving in
    record { sent = b.0; unreceived = not_true _ b.1; undropped = not_true _ a.1; later = c.0; later_dropped = c.1; not_rolling = not_true _ d.0; up = d.1 }

-- a process that takes a checkpoint for an instance
pub record MayTake (s : Past) (p k : ℕ) : Type 0 where
  pub idle : s.open_in p ≡ None
  pub not_new : s.new k p ≡ None
  pub not_ready : s.ready k p ≡ false
  pub begun : has_begun s k ≡ true
  pub undecided : s.decision k ≡ None
  pub is_kind : is_checkpoint s k ≡ true
  pub up : s.up p ≡ true

pub may_take : (s : Past) (p k : ℕ) → broken_rule s (Took p k) ≡ None → MayTake s p k
may_take s p k e =
    let h = kept s (Took p k) e in
    let a = both _ _ h.joining in
    let b = both _ _ a.0 in
    let c = both _ _ b.0 in
    let d = both _ _ c.0 in
    let f = both _ _ d.0 in
    let g = neither _ _ (not_true _ f.1) in
    let i = both _ _ d.1 in
    record { idle = none_from _ f.0; not_new = none_from_not_some _ g.0; not_ready = g.1; begun = i.0; undecided = none_from _ i.1; is_kind = c.1; up = b.1 }

-- a process that is ready to roll back for an instance
pub record MayGetReady (s : Past) (p k : ℕ) : Type 0 where
  pub idle : s.open_in p ≡ None
  pub not_new : s.new k p ≡ None
  pub not_ready : s.ready k p ≡ false
  pub begun : has_begun s k ≡ true
  pub undecided : s.decision k ≡ None
  pub is_kind : is_rollback s k ≡ true

pub may_get_ready : (s : Past) (p k : ℕ) → broken_rule s (Ready p k) ≡ None → MayGetReady s p k
may_get_ready s p k e =
    let h = kept s (Ready p k) e in
    let a = both _ _ h.joining in
    let b = both _ _ a.0 in
    let c = both _ _ b.0 in
    let d = both _ _ c.0 in
    let g = neither _ _ (not_true _ d.1) in
    let i = both _ _ c.1 in
    record { idle = none_from _ d.0; not_new = none_from_not_some _ g.0; not_ready = g.1; begun = i.0; undecided = none_from _ i.1; is_kind = b.1 }

-- a process that decides an instance
pub record MayDecide (s : Past) (p k : ℕ) : Type 0 where
  pub is_initiator : initiator_of s k ≡ Some p
  pub inside : s.open_in p ≡ Some k
  pub begun : has_begun s k ≡ true
  pub undecided : s.decision k ≡ None

pub may_decide : (s : Past) (p k : ℕ) (commit : Bool) → broken_rule s (Decided p k commit) ≡ None → MayDecide s p k
may_decide s p k commit e =
    let h = kept s (Decided p k commit) e in
    let a = both _ _ h.deciding in
    let b = both _ _ a.0 in
    let c = both _ _ a.1 in
    record { is_initiator = in_from _ p b.0; inside = in_from _ k b.1; begun = c.0; undecided = none_from _ c.1 }

-- a process that closes an instance
pub record MayClose (s : Past) (p k : ℕ) : Type 0 where
  pub inside : s.open_in p ≡ Some k
  pub decided : is_some (s.decision k) ≡ true

pub may_close : (s : Past) (p k : ℕ) → broken_rule s (Closed p k) ≡ None → MayClose s p k
may_close s p k e =
    let h = kept s (Closed p k) e in
    let a = both _ _ h.closing in
    record { inside = in_from _ k a.0; decided = a.1 }

-- an instance that begins takes the next number
pub may_begin : (s : Past) (p k : ℕ) (kind : Kind) → broken_rule s (Began p k kind) ≡ None → (k ≡ length s.begun + 1) × (s.open_in p ≡ None)
may_begin s p k kind e = (number, idle kind e)
  where
    number : k ≡ length s.begun + 1
    number = let h = kept s (Began p k kind) e in let n = h.numbers in grind (arith, nat_tests)

    idle : (kind : Kind) → broken_rule s (Began p k kind) ≡ None → s.open_in p ≡ None
    idle Checkpoint e = let h = kept s (Began p k Checkpoint) e in let a = both _ _ h.joining in let b = both _ _ a.0 in none_from _ b.0
    idle Rollback e = let h = kept s (Began p k Rollback) e in let a = both _ _ h.joining in none_from _ a.0
