-- When a process may be unwilling to join an instance, and when it may refuse a command, by the state before the step.
use Rattle.std.specs.Prelude.{◌≡◌, ◌≢◌, ℕ, ℤ, ◌≤◌, ◌<◌, Bool, true, false, List, ◌∷◌, ◌++◌, length, slice_get, Some}
use Rattle.kt_base.specs.declared.words.Cause.{Cause}
use Rattle.kt_base.specs.declared.words.Cause.TheVariants.{Busy, Down, NoSave}
use Rattle.kt_base.specs.declared.words.Verb.{Verb}
use Rattle.kt_base.specs.declared.words.Verb.TheVariants as verb
use Rattle.kt_spacetime.specs.declared.deeds.Deed.TheVariants as deed
use Rattle.kt_protocol.specs.Summary.{Summary}
use Rattle.kt_protocol.specs.States.{State, ProtocolStep, Send, Begin, Fail, Take}
use Rattle.kt_protocol.specs.Steps.{run}

-- q received a message of p past its permanent position and within its new one
pub record HasReceived (h : Summary) (q p k : ℕ) : Type 0 where
  pub msg : ℕ
  pub place : ℕ
  pub received : slice_get (h.live q) place ≡ Some (deed.Received msg p)
  pub past_permanent : h.permanent q ≤ place
  pub within : place < h.new k q

-- q sent p a live message past its permanent position
pub record HasSent (h : Summary) (q p : ℕ) : Type 0 where
  pub msg : ℕ
  pub place : ℕ
  pub sent : slice_get (h.live q) place ≡ Some (deed.Sent msg p)
  pub past_permanent : h.permanent q ≤ place

-- p sent past its permanent position a message that q received within its new one
pub record HasToJoin (h : Summary) (p q k : ℕ) : Type 0 where
  pub msg : ℕ
  pub out : ℕ
  pub sent : slice_get (h.live p) out ≡ Some (deed.Sent msg q)
  pub past_permanent : h.permanent p ≤ out
  pub place : ℕ
  pub received : slice_get (h.live q) place ≡ Some (deed.Received msg p)
  pub within : place < h.new k q

-- p, which q asks to join k, is in another instance
pub record IsBusy (s : State) (p q k j : ℕ) : Type 0 where
  pub positive : 0 < j
  pub open_in : s.so_far.open_in p ≡ j
  pub other : j ≢ k
  pub received : s.so_far.is_rollback k ≡ false → HasReceived s.so_far q p k
  pub sent : s.so_far.is_rollback k ≡ true → HasSent s.so_far q p

-- p, which q asks to join checkpoint k, is in no instance and has to join
pub record IsFree (s : State) (p q k : ℕ) : Type 0 where
  pub checkpoint : s.so_far.is_rollback k ≡ false
  pub closed : s.so_far.open_in p ≡ 0
  pub has_to : HasToJoin s.so_far p q k

-- the cause for which p is unwilling to join k, where q asks it and its object can be saved or not
abbrev pub HasCause : State → ℕ → ℕ → ℕ → Bool → Cause → Type 0
HasCause s p q k able (Busy j) = IsBusy s p q k j
HasCause s p q k able Down = IsFree s p q k × (s.up p ≡ false)
HasCause s p q k able NoSave = IsFree s p q k × (s.up p ≡ true) × (able ≡ false)

-- q is a member of undecided k, and p has this cause
pub record MayBeUnwilling (s : State) (p q k : ℕ) (able : Bool) (why : Cause) : Type 0 where
  pub member : s.so_far.joined k q ≡ true
  pub undecided : s.so_far.is_decided k ≡ false
  pub cause : HasCause s p q k able why

-- row t is added by a step in which p takes a parcel of q, before which p may be unwilling
pub record IsUnwillingRow (s : State) (steps : List ProtocolStep) (t p k : ℕ) (cause : Cause) : Type 0 where
  pub before : List ProtocolStep
  pub after : List ProtocolStep
  pub from : ℕ
  pub able : Bool
  pub steps_are : steps ≡ before ++ Take p from able ∷ after
  pub row : t ≡ length (run s before).log
  pub justified : MayBeUnwilling (run s before) p from k able cause

-- p is in this instance; or it is in none, and down, or up with an object that can't be saved
abbrev pub IsPrevented : State → ℕ → Bool → Cause → Type 0
IsPrevented s p able (Busy j) = (0 < j) × (s.so_far.open_in p ≡ j)
IsPrevented s p able Down = (s.so_far.open_in p ≡ 0) × (s.up p ≡ false)
IsPrevented s p able NoSave = (s.so_far.open_in p ≡ 0) × (s.up p ≡ true) × (able ≡ false)

-- the causes for which a command is refused: a send and a failure of who is down; a rollback of who is in an instance; a
-- checkpoint for each cause
abbrev pub MayRefuse : State → ℕ → Verb → Cause → ProtocolStep → Type 0
MayRefuse s p verb.Send cause x = (q : ℕ) × (body : ℤ) × (x ≡ Send p q body) × (cause ≡ Down) × (s.so_far.open_in p ≡ 0) × (s.up p ≡ false)
MayRefuse s p verb.Fail cause x = (x ≡ Fail p) × (cause ≡ Down) × (s.up p ≡ false)
MayRefuse s p verb.Rollback cause x = (able : Bool) × (j : ℕ) × (x ≡ Begin p true able) × (cause ≡ Busy j) × IsPrevented s p able (Busy j)
MayRefuse s p verb.Checkpoint cause x = (able : Bool) × (x ≡ Begin p false able) × IsPrevented s p able cause

-- row t is added by p's command, before which it may be refused
pub record IsRefusedRow (s : State) (steps : List ProtocolStep) (t p : ℕ) (verb : Verb) (cause : Cause) : Type 0 where
  pub before : List ProtocolStep
  pub after : List ProtocolStep
  pub step : ProtocolStep
  pub steps_are : steps ≡ before ++ step ∷ after
  pub row : t ≡ length (run s before).log
  pub justified : MayRefuse (run s before) p verb cause step
