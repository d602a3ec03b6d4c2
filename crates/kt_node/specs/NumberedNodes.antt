-- Which process of a net with numbers a node is.
use Rattle.std.specs.Prelude.{◌≡◌, ◌<◌, ℕ, length, slice_index}
use Rattle.kt_machine.specs.Acts.{stepper}
use Rattle.kt_node.specs.Links.{NodeLinks, ShowsLinks}
use Rattle.kt_node.specs.Numbered.{NumberedNet, NumberedStep, Own, Comes}

-- a node is that of this process: its counts are how many parcels it put there for each other one, and took of each
pub record ShowsNumbered (k : NodeLinks) (w : NumberedNet) (p : ℕ) : Type 0 where
  pub node : ShowsLinks k (w.nodes p)
  pub clock : k.clock ≡ w.clock p
  pub sent : (q : ℕ) → q < 64 → slice_index k.sent q ≡ length (w.put p q)
  pub taken : (q : ℕ) → slice_index k.taken q ≡ w.taken q p

-- to whom something happens
abbrev pub at_whom : NumberedStep → ℕ
at_whom (Own x) = stepper x
at_whom (Comes p q able number) = p
