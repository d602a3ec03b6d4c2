-- What a process's object and saved states hold, and what acts do to them.
use Rattle.std.specs.Prelude.{ℕ, ℤ, ◌+◌, ◌==◌, ◌&&◌, Bool, true, false, if◌then◌else◌, Option, Some, None, is_some, is_none, option_map, unwrap_or, List, [], ◌∷◌, ◌++◌, take, fold}
use Rattle.kt_spacetime.specs.declared.event.Event.{Event}
use Rattle.kt_spacetime.specs.declared.event.Event.TheVariants.{Received, Took, Closed, Failed}
use Rattle.kt_spacetime.specs.Events.{process_of}
use Rattle.kt_spacetime.specs.declared.deeds.Deed.{Deed}
use Rattle.kt_spacetime.specs.declared.deeds.Deed.TheVariants as deed
use Rattle.kt_meaning.specs.Past.{Past, is_rollback, is_committed}
use Rattle.kt_machine.specs.Done.{Done, done_after}

-- an object's kind: its first value, its value after a message with this sender and body, and what it offers to be sent
pub record Rules (V : Type 0) : Type 0 where
  pub opening : V
  pub after : V → ℕ → ℤ → V
  pub offered : V → ℤ

-- what is due to a process: an object's value where it is up, the value of its permanent state, and that of its tentative
-- state where there is one
pub record Due (V : Type 0) : Type 0 where
  pub object : Option V
  pub permanent : V
  pub tentative : Option V

-- what a process does to its object and its saved states: the object applies a message of this sender with this body; it is
-- saved as the tentative state; the tentative state becomes the permanent one, or is discarded; the object is restored from
-- the permanent state; the object is dropped
pub data Act : Type 0 where
  Apply : ℕ → ℤ → Act
  Keep : Act
  Promote : Act
  Discard : Act
  Restore : Act
  Drop : Act

-- an object's value after a deed: a send leaves it
abbrev pub after_deed : {V : Type 0} → Rules V → (ℕ → ℤ) → V → Deed → V
after_deed r body v (deed.Sent msg to) = v
after_deed r body v (deed.Received msg from) = r.after v from (body msg)

-- the value that the receives of a history lead to
abbrev pub value : {V : Type 0} → Rules V → (ℕ → ℤ) → List Deed → V
value r body deeds = fold (after_deed r body) r.opening deeds

-- the value of p's object, where p is up: that of its own history
abbrev pub object_value : {V : Type 0} → Rules V → Done → ℕ → Option V
object_value r d p = if d.past.up p then Some (value r d.body (d.own p)) else None

-- where a process in this instance took its checkpoint
abbrev pub taken_in : Past → ℕ → Option ℕ → Option ℕ
taken_in s p None = None
taken_in s p (Some k) = s.new k p

-- where a process in an open checkpoint instance took it
abbrev pub taken_at : Past → ℕ → Option ℕ
taken_at s p = taken_in s p (s.open_in p)

-- what is due to p: its object has the value of its own history where p is up, and the saved states those of its parts
abbrev pub due : {V : Type 0} → Rules V → Done → ℕ → Due V
due r d p = record {
  object = object_value r d p;
  permanent = value r d.body (take (d.permanent p) (d.own p));
  tentative = option_map (λ n. value r d.body (take n (d.own p))) (taken_at d.past p);
}

-- what is due at first: an object with its first value, which is saved too
abbrev pub first_due : {V : Type 0} → Rules V → Due V
first_due r = record { object = Some r.opening; permanent = r.opening; tentative = None }

-- what is there after an act
abbrev pub does : {V : Type 0} → Rules V → Due V → Act → Due V
does r x (Apply from body) = record x { object = option_map (λ v. r.after v from body) x.object }
does r x Keep = record x { tentative = x.object }
does r x Promote = record x { permanent = unwrap_or x.tentative x.permanent; tentative = None }
does r x Discard = record x { tentative = None }
does r x Restore = record x { object = Some x.permanent }
does r x Drop = record x { object = None }

-- after some acts, in order
abbrev pub does_all : {V : Type 0} → Rules V → Due V → List Act → Due V
does_all r x acts = fold (does r) x acts

-- what closing an instance asks of who closes it: whether it is a rollback, and committed
abbrev pub closing : Bool → Bool → List Act
closing true true = Restore ∷ []
closing true false = []
closing false true = Promote ∷ []
closing false false = Discard ∷ []

-- the acts of a row's process
abbrev pub acts_of : Done → Event → List Act
acts_of d (Received p from msg) = Apply from (d.body msg) ∷ []
acts_of d (Took p k) = Keep ∷ []
acts_of d (Closed p k) = closing (is_rollback d.past k) (is_committed d.past k)
acts_of d (Failed p) = Drop ∷ []
acts_of d _ = []

-- the acts of a process at a row
abbrev pub acts_at : ℕ → Done → Event → List Act
acts_at p d row = if p == process_of row then acts_of d row else []

-- the acts of a process at some more rows, in order
abbrev pub acts_along : ℕ → Done → List Event → List Act
acts_along p d [] = []
acts_along p d (row ∷ rows) = acts_at p d row ++ acts_along p (done_after d row) rows

-- whether an act can be done: an object applies, is saved and is dropped where there is one; a tentative state is kept where
-- there is none, and made permanent or discarded where there is one
abbrev pub can : {V : Type 0} → Due V → Act → Bool
can x (Apply from body) = is_some x.object
can x Keep = is_some x.object && is_none x.tentative
can x Promote = is_some x.tentative
can x Discard = is_some x.tentative
can x Restore = true
can x Drop = is_some x.object

-- whether each of some acts can be done when its turn comes
abbrev pub can_all : {V : Type 0} → Rules V → Due V → List Act → Bool
can_all r x [] = true
can_all r x (a ∷ acts) = can x a && can_all r (does r x a) acts

-- how many objects are dropped
abbrev pub drops : List Act → ℕ
drops [] = 0
drops (Drop ∷ acts) = 1 + drops acts
drops (Apply from body ∷ acts) = drops acts
drops (Keep ∷ acts) = drops acts
drops (Promote ∷ acts) = drops acts
drops (Discard ∷ acts) = drops acts
drops (Restore ∷ acts) = drops acts

-- how many spare objects are taken: one wherever a state is restored and there is no object
abbrev pub spares : {V : Type 0} → Rules V → Due V → List Act → ℕ
spares r x [] = 0
spares r x (Restore ∷ acts) = (if is_none x.object then 1 else 0) + spares r (does r x Restore) acts
spares r x (Apply from body ∷ acts) = spares r (does r x (Apply from body)) acts
spares r x (Keep ∷ acts) = spares r (does r x Keep) acts
spares r x (Promote ∷ acts) = spares r (does r x Promote) acts
spares r x (Discard ∷ acts) = spares r (does r x Discard) acts
spares r x (Drop ∷ acts) = spares r (does r x Drop) acts
