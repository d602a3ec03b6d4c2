-- Sets of processes, as the bits of a number.
use Rattle.std.specs.Prelude.{ℕ, zero, suc, ◌+◌, ◌==◌, Bool, if◌then◌else◌}
use Rattle.std.specs.Int.{bit_at}

-- whether a process is in a set
abbrev pub has : ℕ → ℕ → Bool
has set p = bit_at set p == 1

-- how many of the processes below a limit are in a set
unfoldable pub count_below : ℕ → ℕ → ℕ
count_below set zero = 0
count_below set (suc p) = count_below set p + (if has set p then 1 else 0)

-- how many processes are in a set
abbrev pub count_of : ℕ → ℕ
count_of set = count_below set 64
