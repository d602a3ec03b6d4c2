use Rattle.std.specs.Prelude.{Option}
use Rattle.std.specs.List.{flat_map}
use Rattle.std.proofs.Common.{rules, ◌∙◌, ◌+◌, ◌++◌, [], ℕ, List, length, drop, refl, sym, arith, append_assoc}
use Rattle.std.proofs.lemmas.Grind.{take-set_at}
use Rattle.std.proofs.lemmas.List.{take_all}
use Rattle.kt_spacetime.specs.declared.names.InstName.{InstName}
use Rattle.kt_node_text.specs.Form.{of_name}
use Rattle.kt_node_text.specs.Ranges.{IsNameIfAny}
use Rattle.kt_node_text.proofs.OneAfterAnother.{stops}
use Rattle.kt_node_text.proofs.ListReads.{none_read, next_read, more_read, all_read}
use Rattle.kt_node_text.proofs.numbers.Numbers.names.Goals as goal

abbrev all : List (Option InstName) → List ℕ
all xs = flat_map of_name xs

pub loop-place-init : goal.loop-place-init
loop-place-init c = record {
  size = search rules;
  read = λ xs after many range e. none_read all xs after _ _ refl (c.in_ok-next.ensures.read (length xs) (all xs ++ after) e).1;
}

pub loop-place-preserved : goal.loop-place-preserved
loop-place-preserved c = record {
  size = search (rules, c.loop-place.invariant.size);
  read = λ xs after many range e.
      let i = c.loop-place.place in
      let inv = c.loop-place.invariant.read xs after many range e in
      let n = next_read IsNameIfAny all xs [] after _ _ _ inv (omega (arith, many, c.loop-place-test.true)) range in
      let x = c.in_ok-names.ensures.read n.0 (all (drop (i + 1) xs) ++ after) n.1.fits (n.1.left ∙ append_assoc (of_name n.0) (all (drop (i + 1) xs)) after) in
      more_read IsNameIfAny all xs [] after i _ _ _ _ n.0 _ inv n.1 (take-set_at c.loop-place.names i (i + 1) _ refl (omega (arith, c.loop-place.invariant.size, c.loop-place-test.true))) x.0 x.1;
}

pub returns-in_err-names-clause-read : goal.returns-in_err-names-clause-read
returns-in_err-names-clause-read c = λ xs after many range e.
    let i = c.loop-place.place in
    let n = next_read IsNameIfAny all xs [] after _ _ _ (c.loop-place.invariant.read xs after many range e) (omega (arith, many, c.loop-place-test.true)) range in
    stops _ _ _ _ _ c.from_residual-in_err-names.ensures.1 (c.in_err-names.ensures.read n.0 (all (drop (i + 1) xs) ++ after) n.1.fits (n.1.left ∙ append_assoc (of_name n.0) (all (drop (i + 1) xs)) after))

pub returns-clause-read : goal.returns-clause-read
returns-clause-read c = λ xs after many range e.
    let read = all_read all xs [] after _ _ _ (c.loop-place.invariant.read xs after many range e) (omega (arith, many, c.loop-place-test.false)) refl in
    (sym (take_all c.loop-place.place c.loop-place.names (omega (arith, c.loop-place.invariant.size, c.loop-place-test.false))) ∙ read.0, read.1)
