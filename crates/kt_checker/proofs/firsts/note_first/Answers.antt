use Rattle.std.proofs.Common.{◌≡◌, ◌+◌, ◌-◌, ◌<◌, length, arith}
use Rattle.kt_checker.proofs.FirstPlaces.{entered, passed_over}
use Rattle.kt_checker.proofs.firsts.note_first.Goals as goal

pub returns-then-is_none : goal.returns-then-is_none
returns-then-is_none c = λ certificates v h at inst.
    let index = c.get.result - 1 in
    let number : v.inst ≡ index + 1 = omega (arith, inst, c.get.ensures.value, c.get.ensures.in_range.0) in
    let within : index < length c.args.places.now = omega (arith, c.requires, c.get.ensures.in_range.1, c.get.ensures.in_range.0) in
    entered c.args.places.now certificates c.args.place index v h at number within (c.if-is_none.ensures)

pub returns-else-is_none : goal.returns-else-is_none
returns-else-is_none c = λ certificates v h at inst.
    let index = c.get.result - 1 in
    let number : v.inst ≡ index + 1 = omega (arith, inst, c.get.ensures.value, c.get.ensures.in_range.0) in
    let within : index < length c.args.places.now = omega (arith, c.requires, c.get.ensures.in_range.1, c.get.ensures.in_range.0) in
    passed_over c.args.places.now certificates c.args.place index v h at number within (c.if-is_none.ensures)
