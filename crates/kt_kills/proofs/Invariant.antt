-- What holds of a killed net after every list of events: the plan of the proof of killed_nets_are_runs.
use Rattle.std.proofs.Common.{◌≡◌, ℕ, ℤ, Bool, true, false, List}
use Rattle.kt_protocol.specs.States.{ProtocolStep}
use Rattle.kt_node.specs.Nets.{net_run, opening_net}
use Rattle.kt_kills.specs.KilledNets.{Holdings, KilledNet, sending_again}
use Rattle.kt_kills.specs.Starts.{parcels, IsFront}
use Rattle.kt_kills.specs.Standing.{IsNet, StandsIn}
use Rattle.kt_kills.proofs.Coming.{HasSent}

-- for each process: as it is in memory, or as it would be if it were killed now and came back with these sends
pub data Choice : Type 0 where
  AsItIs : Choice
  Anew : List (ℕ × ℤ) → Choice

abbrev pub is_anew : Choice → Bool
is_anew AsItIs = false
is_anew (Anew sends) = true

abbrev pub having_chosen : KilledNet → ℕ → Choice → Holdings
having_chosen w p AsItIs = w.memory p
having_chosen w p (Anew sends) = sending_again p (w.disk p) sends

abbrev pub chosen : KilledNet → (ℕ → Choice) → ℕ → Holdings
chosen w c p = having_chosen w p (c p)

-- who is away is chosen anew, and each knows what was taken of it by the others, as these are chosen
pub record IsChoice (w : KilledNet) (c : ℕ → Choice) : Type 0 where
  pub away : (p : ℕ) → w.away p ≡ true → is_anew (c p) ≡ true
  pub knows : (p q : ℕ) → IsFront (parcels ((chosen w c q).took p)) (parcels ((chosen w c p).put q))

-- for every such choice, of any of them at once, what they have is a net's. A kill and a start then only lessen the choices;
-- a step of who is chosen as it is is one more step of the net; and a step of who is chosen anew changes nothing, or is
-- written, and then choosing anew is choosing as it is and sending more
pub record IsHeld (n first : ℕ) (w : KilledNet) : Type 0 where
  pub runs : (c : ℕ → Choice) → IsChoice w c → (steps : List ProtocolStep) × IsNet (chosen w c) (net_run (opening_net n first) steps)
  -- what was taken of p is a front of what p sent in its last life
  pub knows : (p q : ℕ) → IsFront (parcels ((w.memory q).took p)) (parcels (w.sent p (w.life p) q))
  -- who is back has put what it sent in its last life; who is away has what its disk has; a disk stands in the memory
  pub sent : (p : ℕ) → HasSent w p
  pub away : (p : ℕ) → w.away p ≡ true → w.memory p ≡ w.disk p
  pub owns : (p : ℕ) → StandsIn (w.disk p) (w.memory p)
