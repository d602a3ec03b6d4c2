use Rattle.std.proofs.Common.{◌≡◌, ◌≤◌, ℕ, length, take}
use Rattle.std.specs.List.{slice_get, filter_map}
use Rattle.kt_certify.proofs.pass.found.Given as goal

abbrev pub invariant-loop-index : goal.invariant-loop-index
invariant-loop-index l = record {
  list : l.list.items ≡ filter_map (λ e. e.certificate) (take l.index l.initial.instances.items);
  many : length l.instances.items ≡ length l.initial.instances.items;
  rest : (j : ℕ) → l.index ≤ j → slice_get l.instances.items j ≡ slice_get l.initial.instances.items j;
}
