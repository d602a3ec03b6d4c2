-- What is so of each node, and when two are the same but for room.
use Rattle.std.specs.Prelude.{◌≡◌, ◌<◌, ◌^◌, All}
use Rattle.kt_manager.specs.Nodes.{NodeState}
use Rattle.kt_process.specs.ProcessStates.{ProcessFits}
use Rattle.kt_manager.specs.Inboxes.{held_of}
use Rattle.kt_node.specs.Managers.{IsSoundManager}
use Rattle.kt_node.specs.Links.{NodeLinks, AreCounted, ShowsLinks}
use Rattle.kt_node.specs.OwnParts.{HasOwnPart}
use Rattle.kt_node_text.specs.Form.{numbers_of}
use Rattle.kt_node_text.specs.Ranges.{IsNode}

-- its parts belong together, its numbers are in range, and each one of its form has 64 bits
pub record IsSound (w : NodeLinks) : Type 0 where
  pub manager : IsSoundManager w.manager
  pub process : ProcessFits w.manager.process
  pub counted : AreCounted w
  pub ranges : IsNode w
  pub words : All (λ n. n < 2 ^ 64) (numbers_of w)

-- a node as calls make it: its part in an instance is its own too
pub record IsOwn (w : NodeLinks) : Type 0 where
  pub sound : IsSound w
  pub part : HasOwnPart w.manager

-- a node is whatever state another one is, with the same clock, the same numbers of parcels, and messages that go as far; it is
-- of the same process, used the same label last, and holds the same
pub record IsSameState (w v : NodeLinks) : Type 0 where
  pub shows : (y : NodeState) → ShowsLinks w y → ShowsLinks v y
  pub clock : v.clock ≡ w.clock
  pub sent : v.sent ≡ w.sent
  pub taken : v.taken ≡ w.taken
  pub reaches : v.reaches ≡ w.reaches
  pub me : v.manager.me ≡ w.manager.me
  pub used : v.manager.process.used ≡ w.manager.process.used
  pub held : held_of v.manager.inbox ≡ held_of w.manager.inbox
