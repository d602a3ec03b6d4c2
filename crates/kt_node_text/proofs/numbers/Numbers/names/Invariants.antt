use Rattle.std.specs.Prelude.{All, Option}
use Rattle.std.specs.List.{flat_map}
use Rattle.std.proofs.Common.{◌≡◌, ◌++◌, [], ℕ, List, length, take}
use Rattle.kt_spacetime.specs.declared.names.InstName.{InstName}
use Rattle.kt_node_text.specs.Form.{of_name, counted}
use Rattle.kt_node_text.specs.Ranges.{IsNameIfAny}
use Rattle.kt_node_text.proofs.ListReads.{IsReadUpTo}
use Rattle.kt_node_text.proofs.numbers.Numbers.names.Given as goal

abbrev pub invariant-loop-place : goal.invariant-loop-place
invariant-loop-place l = record {
  size : length l.names ≡ 64;
  read : (xs : List (Option InstName)) (after : List ℕ) → length xs ≡ 64 → All IsNameIfAny xs → l.fn.self.rest.now ≡ counted of_name xs ++ after → IsReadUpTo (flat_map of_name) xs [] after l.place (take l.place l.names) l.self.rest.now;
}
