use Rattle.std.proofs.Common.{◌≡◌, ◌≤◌, ℕ, length, map}
use Rattle.kt_report.specs.Unwilling.{answers_to}
use Rattle.kt_report.proofs.unwilling.Unwilling.make_room.Given as goal

abbrev pub invariant-loop : goal.invariant-loop
invariant-loop l = (l.counter ≤ length l.self-inside.lists.items) × ((other : ℕ) → answers_to (map (λ v. v.items) l.self-inside.lists.items) other ≡ answers_to (map (λ v. v.items) l.initial.self-inside.lists.items) other)
