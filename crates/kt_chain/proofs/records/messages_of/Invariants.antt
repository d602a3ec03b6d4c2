use Rattle.std.proofs.Common.{◌≡◌, ◌==◌, ℕ, List, length, map, take}
use Rattle.std.specs.Prelude.{All}
use Rattle.std.specs.List.{slice_split}
use Rattle.std.specs.Fmt.{decimal}
use Rattle.kt_base.specs.Numbers.{IsMsgNo}
use Rattle.kt_chain.proofs.ChainFacts.{IsReadSoFar}
use Rattle.kt_chain.proofs.records.messages_of.Given as goal

abbrev pub invariant-loop-part : goal.invariant-loop-part
invariant-loop-part l = (messages : List ℕ) × All IsMsgNo messages × (map decimal messages ≡ take (length l.yielded) (slice_split (λ byte. byte == 47) l.text)) × IsReadSoFar messages l.chain l.is_long
