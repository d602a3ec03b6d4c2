use Rattle.std.proofs.Common.{◌≡◌, map, take}
use Rattle.kt_checker.specs.Followed.{message_of}
use Rattle.kt_checker.proofs.path.Path.front.Given as goal

abbrev pub invariant-loop-index : goal.invariant-loop-index
invariant-loop-index l = map message_of (take l.index l.self-inside.steps) ≡ take l.index l.messages
