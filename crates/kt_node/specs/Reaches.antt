-- How far messages go: the greatest labels of lists of calls.
use Rattle.std.specs.Prelude.{◌≡◌, ◌<◌, ℕ, List, slice_index}
use Rattle.kt_tables.specs.Calls.{Call, receiveds}
use Rattle.kt_tables.specs.Labels.{greatest}
use Rattle.kt_node.specs.NodeHistories.{histories, sent_labels}
use Rattle.kt_node.specs.declared.reach.Reach.{Reach}
use Rattle.kt_node.specs.declared.reach.Reaches.{Reaches}

-- the greatest label of those that these calls send, and of those that they receive of each process
pub record IsReach (r : Reach) (calls : List Call) : Type 0 where
  pub sent : r.sent ≡ greatest (sent_labels calls)
  pub received : (q : ℕ) → q < 64 → slice_index r.received q ≡ greatest (receiveds q calls)

-- so it is of each of the histories after these calls
pub record HasReaches (r : Reaches) (calls : List Call) : Type 0 where
  pub live : IsReach r.live (histories calls).live
  pub tentative : IsReach r.tentative (histories calls).tentative
  pub permanent : IsReach r.permanent (histories calls).permanent
