-- What the laws of killed nets say of what stands.
use Rattle.std.specs.Prelude.{◌≡◌, ◌==◌, ℕ, Bool, true, false, List, [], ◌∷◌, ◌++◌, filter}
use Rattle.kt_protocol.specs.States.{Fail}
use Rattle.kt_spacetime.specs.declared.named_rows.NamedEvent.{NamedEvent}
use Rattle.kt_spacetime.specs.declared.named_rows.NamedEvent.TheVariants.{Dropped}
use Rattle.kt_spacetime.specs.declared.named_rows.NamedRow.{NamedRow}
use Rattle.kt_spacetime.specs.ClockedRows.{without_clocks}
use Rattle.kt_tables.specs.Calls.{Call}
use Rattle.kt_node.specs.NodeHistories.{histories}
use Rattle.kt_node.specs.Nets.{Net}
use Rattle.kt_kills.specs.KilledNets.{Holdings, KilledNet, KillEvent, Does, killed_run, opening_killed}
use Rattle.kt_kills.specs.Starts.{parcels, IsFront, AreRight}

-- the net after these events
abbrev pub killed_after : ℕ → ℕ → List KillEvent → KilledNet
killed_after n first es = killed_run (opening_killed n first) es

-- each process that comes back among these events does it as it has to
abbrev pub StartRight : ℕ → ℕ → List KillEvent → Type 0
StartRight n first es = AreRight (opening_killed n first) es

-- nobody is away
abbrev pub AreAllBack : KilledNet → Type 0
AreAllBack w = (p : ℕ) → w.away p ≡ false

-- no object is told to have failed
abbrev pub NoneFails : List KillEvent → Type 0
NoneFails [] = Unit {0}
NoneFails (Does (Fail p) ∷ es) = ⊥
NoneFails (_ ∷ es) = NoneFails es

-- whether a row says that a message was dropped
abbrev pub is_dropped : NamedEvent → Bool
is_dropped (Dropped from label) = true
is_dropped _ = false

-- the rows of a process among all, without clocks
abbrev pub rows_by : ℕ → List NamedRow → List NamedRow
rows_by p rows = filter (λ r. r.p == p) rows

-- what processes have: the nodes and their rows are those of a net, and what was put and not taken is on its way
pub record IsNet (have : ℕ → Holdings) (net : Net) : Type 0 where
  pub nodes : (p : ℕ) → (have p).node ≡ net.nodes p
  pub rows : (p : ℕ) → without_clocks (have p).rows ≡ rows_by p net.rows
  pub channels : (p q : ℕ) → parcels ((have p).put q) ≡ parcels ((have q).took p) ++ net.channel p q

-- what was written, h, stands in what a process has, g
pub record StandsIn (h g : Holdings) : Type 0 where
  pub rows : IsFront h.rows g.rows
  pub put : (q : ℕ) → IsFront (h.put q) (g.put q)
  pub took : (q : ℕ) → IsFront (h.took q) (g.took q)

-- the messages of a process's permanent checkpoint
abbrev pub permanent_of : Holdings → List Call
permanent_of h = (histories h.node.calls).permanent
