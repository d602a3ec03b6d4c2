use Rattle.std.proofs.Common.{◌≡◌, ◌<◌, ◌≤◌, ◌+◌, ◌-◌, ℕ, sym, subst, ap, arith, length, rules}
use Rattle.std.specs.List.{slice_index_or}
use Rattle.std.proofs.lemmas.List.{get_or_default}
use Rattle.std.proofs.lemmas.List.Sorted.{IsNonDecreasingBy-from_all_adjacent}
use Rattle.kt_plan.specs.declared.commands.Command.{Command}
use Rattle.kt_plan.proofs.plan.never_fall.Goals as goal

pub returns-then-commands-place : goal.returns-then-commands-place
returns-then-commands-place c =
    let xs = c.args.commands.now in
    let at = c.loop-place.place in
    let later = c.index-commands-place.result in
    let before = c.index-commands-place-in-loop-place.result in
    let same = ap (λ (command : Command). command.phase) (get_or_default xs (at - 1) later before (omega arith)) in
    let one = ap (λ (command : Command). command.phase) c.index-commands-place.is in
    let two = ap (λ (command : Command). command.phase) c.index-commands-place-in-loop-place.is in
    (λ untrue. search rules, λ rise. let h = rise (at - 1) at later (omega arith) (omega arith) in absurd (omega (arith, h, same, one, two)))

pub returns : goal.returns
returns c =
    (λ yes. IsNonDecreasingBy-from_all_adjacent (λ (command : Command). command.phase) c.args.commands.now (λ k d l. c.loop-place.invariant k d (omega arith)), λ kept. search rules)
