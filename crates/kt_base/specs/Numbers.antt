-- Which numbers name something.
use Rattle.std.specs.Prelude.{ℕ, ◌<◌, ◌≤◌, ◌^◌}

-- a process
abbrev pub IsProcNo : ℕ → Type 0
IsProcNo n = n < 64

-- a label of a message, or 0 for none
abbrev pub IsLabel : ℕ → Type 0
IsLabel n = n < 2 ^ 48

-- a message
abbrev pub IsMsgNo : ℕ → Type 0
IsMsgNo n = (1 ≤ n) × (n ≤ 2 ^ 24)

-- a row of a log
abbrev pub IsRowNo : ℕ → Type 0
IsRowNo n = (1 ≤ n) × (n ≤ 2 ^ 24)

-- an instance
abbrev pub IsInstNo : ℕ → Type 0
IsInstNo n = (1 ≤ n) × (n ≤ 4096)
