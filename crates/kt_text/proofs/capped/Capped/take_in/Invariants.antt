use Rattle.std.proofs.Common.{length, ◌-◌, ◌≡◌, ◌≤◌, ◌++◌, ℕ, List, take, drop}
use Rattle.kt_text.specs.Capped.{front}
use Rattle.kt_text.proofs.capped.Capped.take_in.Given as goal

abbrev pub invariant-loop-taken : goal.invariant-loop-taken
invariant-loop-taken g l = record {
  within : l.taken ≤ length l.bytes;
  front : (rest : List ℕ) → front l.fn.self.width l.fn.self.spot l.fn.self.room (l.bytes ++ rest) ≡ take l.taken l.bytes ++ front l.self.width l.self.spot l.self.room (drop l.taken l.bytes ++ rest);
  some : l.taken ≡ 0 → l.self.room ≡ l.fn.self.room;
  width : l.self.width ≡ l.fn.self.width;
  over : l.self.is_over ≡ l.fn.self.is_over;
  source : l.self.source ≡ l.fn.self.source;
}

abbrev pub decreases-loop-taken : goal.decreases-loop-taken
decreases-loop-taken g l = length l.bytes - l.taken
