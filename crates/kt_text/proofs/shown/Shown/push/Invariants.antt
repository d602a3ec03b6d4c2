use Rattle.std.proofs.Common.{◌≡◌, ◌≤◌, ◌+◌}
use Rattle.kt_text.proofs.shown.Shown.push.Given as goal

abbrev pub invariant-loop-byte : goal.invariant-loop-byte
invariant-loop-byte l = l.initial.self.length ≤ 200 → (l.self.length ≡ l.initial.self.length + l.byte-index) × (l.self.length ≤ 200)
