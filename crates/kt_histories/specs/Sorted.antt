-- What a history keeps beside its deeds.
use Rattle.std.specs.Prelude.{◌≡◌, ℕ, ◌<◌, Some, List, length, take, slice_get}
use Rattle.kt_spacetime.specs.declared.deeds.Deed.{Deed}
use Rattle.kt_rules.specs.Lists.{sent_in, received_in}

-- the deeds sorted: how many sends there are before each, the sends in order, the receives by sender
pub record IsSorted (deeds : List Deed) (counts sends : List ℕ) (receives : List (List ℕ)) : Type 0 where
  pub sent : sends ≡ sent_in deeds
  pub count : length counts ≡ length deeds
  pub before : (place : ℕ) → place < length deeds → slice_get counts place ≡ Some (length (sent_in (take place deeds)))
  pub senders : length receives ≡ 64
  pub received : (q : ℕ) → q < 64 → slice_get receives q ≡ Some (received_in q deeds)
