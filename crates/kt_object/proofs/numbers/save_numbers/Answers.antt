use Rattle.std.proofs.Common.{rules, arith, get_or, refl}
use Rattle.std.specs.Prelude.{pos, FitsSigned}
use Rattle.std.specs.Int.{w64}
use Rattle.std.proofs.lemmas.Int.{to_z-of_z}
use Rattle.kt_object.proofs.NumbersLemmas.{saved_more}
use Rattle.kt_object.proofs.numbers.save_numbers.Goals as goal

pub loop-number-preserved : goal.loop-number-preserved
loop-number-preserved c =
    let fits : FitsSigned w64 (get_or c.args.numbers.now c.loop-number.number-index (pos 0)) = search rules in record {
      items = saved_more c.args.out.now.items _ _ _ c.loop-number.number-index c.args.numbers.now _ _ (search rules) refl c.loop-number.invariant.items (rw (to_z-of_z w64 _ fits) at c.push_number.ensures.items);
      room = omega (arith, c.push_number.ensures.len, c.push_number.ensures.capacity);
    }
