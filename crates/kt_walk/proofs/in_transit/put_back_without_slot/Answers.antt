use Rattle.std.proofs.Common.{◌∷◌, true, List, arith, refl, ap, ◌∙◌}
use Rattle.kt_walk.specs.declared.in_transit.Sent.{Sent}
use Rattle.kt_walk.specs.Marks.{Marking, shown}
use Rattle.kt_walk.proofs.PickFacts.{source}
use Rattle.kt_walk.proofs.in_transit.put_back_without_slot.Goals as goal

pub returns-then-has_first-clause-messages : goal.returns-then-has_first-clause-messages
returns-then-has_first-clause-messages c = record {
  place = 0;
  belongs = λ _. record {
    within = omega arith;
    below = λ k a l e. absurd (omega (arith, l));
    above = λ k a l e.
        let there = source c.args.marks.now.marks c.args.slots.now.messages k a e in
        omega (arith, c.if-has_first.ensures.below refl c.requires.marked.rising there.0 a there.1);
  };
  messages = ap (λ (v : Marking). shown v.marks c.insert.new.self.messages) c.push_front.ensures ∙ ap (λ (l : List Sent). shown (true ∷ c.args.marks.now.marks) l) c.insert.ensures.messages;
}
