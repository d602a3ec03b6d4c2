-- Nothing is left to be done but commands.
use Rattle.std.specs.Prelude.{◌≡◌, ◌≤◌, ◌<◌, ℕ, true, []}
use Rattle.kt_protocol.specs.States.{State}

-- each begun instance is decided, nobody is in one, and no parcel is in a channel or held
pub record IsAtRest (s : State) : Type 0 where
  pub decided : (k : ℕ) → 0 < k → k ≤ s.instances → s.so_far.is_decided k ≡ true
  pub closed : (p : ℕ) → s.so_far.open_in p ≡ 0
  pub no_parcel : (p q : ℕ) → s.channel p q ≡ []
  pub none_held : (p q : ℕ) → s.held p q ≡ []
