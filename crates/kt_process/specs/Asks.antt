-- Asks: pairs of a process and the label that its ask carries.
use Rattle.std.specs.Prelude.{ℕ, ◌==◌, ◌<◌, Bool, List, AllPairs}
use Rattle.std.specs.List.{list_any}

-- asks stand by rising process, and so each process is asked once
abbrev pub AreRisingAsks : List (ℕ × ℕ) → Type 0
AreRisingAsks asks = AllPairs (λ first second. first.0 < second.0) asks

-- whether a process is among those that are asked
abbrev pub is_asked_in : List (ℕ × ℕ) → ℕ → Bool
is_asked_in asks q = list_any (λ ask. ask.0 == q) asks
