-- What it means that a process may be unwilling to join, by what the log says before the step.
use Rattle.std.specs.Prelude.{◌≡◌, ◌≢◌, ℕ, Bool, true, false, Some, None, length, take, drop, unwrap_or}
use Rattle.kt_base.specs.declared.words.Cause.{Cause}
use Rattle.kt_base.specs.declared.words.Cause.TheVariants.{Busy, Down, NoSave}
use Rattle.kt_spacetime.specs.declared.deeds.Deed.TheVariants as deed
use Rattle.kt_meaning.specs.Chains.{LinksCheckpoint, is_sent_past}
use Rattle.kt_meaning.specs.Legal.{has_deed}
use Rattle.kt_meaning.specs.Past.{Past, past, is_checkpoint, is_rollback, is_member}
use Rattle.kt_plan.specs.declared.steps.Step.{Step}
use Rattle.kt_plan.specs.declared.steps.Step.TheVariants.{Take}
use Rattle.kt_plan.specs.declared.steps.Give.{Give}
use Rattle.kt_promises.specs.Progress.{Progress}

-- q received a message of p past its permanent position and within its new one of k
abbrev pub HasReceived : Past → ℕ → ℕ → ℕ → Type 0
HasReceived s q p k =
    (msg : ℕ) × (has_deed (deed.Received msg p) (drop (s.permanent q) (take (unwrap_or (s.new k q) 0) (s.live q))) ≡ true)

-- q sent p a live message past its permanent position
abbrev pub HasSent : Past → ℕ → ℕ → Type 0
HasSent s q p = (msg : ℕ) × (is_sent_past s q p msg ≡ true)

-- p, which q asks to join k, is in another open instance j
pub record IsBusyElsewhere (s : Past) (p q k j : ℕ) : Type 0 where
  pub open_in : s.open_in p ≡ Some j
  pub other : j ≢ k
  pub received : is_checkpoint s k ≡ true → HasReceived s q p k
  pub sent : is_rollback s k ≡ true → HasSent s q p

-- p is in no open instance, and a message links it with q, which asks it to join the checkpoint k
pub record IsFreeToJoin (s : Past) (p q k : ℕ) : Type 0 where
  pub checkpoint : is_checkpoint s k ≡ true
  pub closed : s.open_in p ≡ None
  pub msg : ℕ
  pub links : LinksCheckpoint s k p q msg

-- this cause to be unwilling holds of p, which takes an ask of q to join k; and whether its object can be saved
abbrev pub HasCauseToRefuse : Past → ℕ → ℕ → ℕ → Bool → Cause → Type 0
HasCauseToRefuse s p q k able (Busy j) = IsBusyElsewhere s p q k j
HasCauseToRefuse s p q k able Down = IsFreeToJoin s p q k × (s.up p ≡ false)
HasCauseToRefuse s p q k able NoSave = IsFreeToJoin s p q k × (s.up p ≡ true) × (able ≡ false)

-- p may be unwilling at an ask of q to join k
pub record MayRefuseToJoin (s : Past) (p q k : ℕ) (able : Bool) (why : Cause) : Type 0 where
  pub member : is_member s k q ≡ true
  pub undecided : s.decision k ≡ None
  pub cause : HasCauseToRefuse s p q k able why

-- p takes an ask to join k and may be unwilling, by the log before the step; its row is the next one
pub record IsUnwillingStep (w : Progress) (x : Step) (give : Give) (t p k : ℕ) (cause : Cause) : Type 0 where
  pub from : ℕ
  pub step : x ≡ Take p from
  pub row : t ≡ length w.now.log
  pub justified : MayRefuseToJoin (past w.now.log) p from k give.able cause
