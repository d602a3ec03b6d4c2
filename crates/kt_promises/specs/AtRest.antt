-- What is so at rest.
use Rattle.std.specs.Prelude.{◌≡◌, ◌<◌, ◌≤◌, ℕ, true, is_some, []}
use Rattle.kt_meaning.specs.Past.{past}
use Rattle.kt_machine.specs.Seen.{Seen}

-- each instance that has begun is decided, nobody is in one, and no parcel is in a channel or held
pub record HasNothingInTransit (v : Seen) : Type 0 where
  pub decided : (k : ℕ) → 0 < k → k ≤ v.begun → is_some ((past v.log).decision k) ≡ true
  pub closed : (p : ℕ) → (v.states p).inst ≡ 0
  pub no_parcel : (p q : ℕ) → v.channel p q ≡ []
  pub none_held : (p q : ℕ) → v.held p q ≡ []
