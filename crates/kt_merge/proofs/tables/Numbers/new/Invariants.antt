use Rattle.std.proofs.Common.{◌≡◌, length}
use Rattle.kt_merge.proofs.NumberingFacts.{AllGaveNothing}
use Rattle.kt_merge.proofs.tables.Numbers.new.Given as goal

abbrev pub invariant-loop : goal.invariant-loop
invariant-loop l = record { many : length l.gave.items ≡ l.counter; nothing : AllGaveNothing l.gave.items }
