use Rattle.std.proofs.Common.{◌<◌, true, length, length-set, set, take, arith, ap, ◌∙◌}
use Rattle.std.proofs.lemmas.Option.{slice_get_within}
use Rattle.kt_walk.specs.Marks.{Marking, shown, ones}
use Rattle.kt_walk.proofs.PickFacts.{shown_picked, put, belongs_picked}
use Rattle.kt_walk.proofs.in_transit.put_back_marked.Goals as goal

pub returns-in-Some-clause-messages : goal.returns-in-Some-clause-messages
returns-in-Some-clause-messages c =
    let slot = c.in-Some.slot in
    let marks = c.args.marks.now.marks in
    let xs = c.args.slots.now.messages in
    let within : c.in-Some.slot < length c.args.marks.now.marks = omega (arith, slice_get_within xs slot c.args.message c.in-Some.ensures.there, c.requires.marked.within) in
    record {
      place = ones (take slot marks);
      belongs = λ _. belongs_picked marks xs c.args.message.msg slot c.requires.marked.past c.in-Some.ensures.belongs;
      messages = ap (λ (v : Marking). shown v.marks xs) c.put.ensures
          ∙ shown_picked (set marks slot true) xs (omega (arith, c.requires.some, length-set marks slot true))
          ∙ put marks xs slot c.args.message c.in-Some.ensures.unset within c.in-Some.ensures.there;
    }
