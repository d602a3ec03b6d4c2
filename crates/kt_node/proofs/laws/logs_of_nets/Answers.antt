use Rattle.std.proofs.Common.{◌≡◌, Some, List, sym, subst, ◌∙◌}
use Rattle.kt_spacetime.specs.declared.event.Event.{Event}
use Rattle.kt_meaning.specs.Promised.{IsPromised}
use Rattle.kt_node.proofs.laws.logs_of_nets.Goals as goal

same_log : (a b : List Event) → Some a ≡ Some b → a ≡ b
same_log a b e = cc

pub returns-clause-promised : goal.returns-clause-promised
returns-clause-promised c = λ n first steps log e.
    let runs = c.logs_of_late_runs.ensures in
    subst IsPromised (same_log _ _ (sym (c.nets_are_runs.ensures.numbered n first steps) ∙ e)) (record {
      legal = runs.legal n steps;
      least_decisions = runs.least_decisions n steps;
      linked_decisions = runs.linked_decisions n steps;
      permanent_cuts = λ t. runs.permanent_cuts n steps t;
      present_cuts = λ t. runs.present_cuts n steps t;
      aborts = runs.aborts n steps;
      justified = runs.justified n steps;
      unchanged = runs.unchanged n steps;
    })

pub returns-clause-certified : goal.returns-clause-certified
returns-clause-certified c = λ n first steps log e. c.certificates_of_promised_logs.ensures.certified log (returns-clause-promised c n first steps log e)
