use Rattle.std.proofs.Common.{ℕ, ◌<◌, ap, ◌∙◌, sym, subst}
use Rattle.std.specs.Prelude.{All}
use Rattle.std.proofs.lemmas.Result.{IfOk-weaker}
use Rattle.kt_tables.specs.States.{State}
use Rattle.kt_tables.specs.Standing.{TablesStandFor}
use Rattle.kt_tables.proofs.Keeping.{cohort_of, has_last}
use Rattle.kt_tables.proofs.tables.Tables.ckpt_cohort.Goals as goal

pub returns-clause-cohort : goal.returns-clause-cohort
returns-clause-cohort c = IfOk-weaker c.own_cohort.result _ _ (λ pairs i calls h.
    let stood = subst (λ (t : State). TablesStandFor t calls) (sym c.self.view_is) h in
    cohort_of _ _ _ _ _ (has_last _ calls stood) stood.keeps.last_rcvd i) c.own_cohort.ensures.cohort

pub returns-clause-within : goal.returns-clause-within
returns-clause-within c =
    let same = c.self.invariant.last_rcvd ∙ ap (λ (t : State). t.processes) c.self.view_is in
    IfOk-weaker c.own_cohort.result _ _ (λ pairs. subst (λ (n : ℕ). All (λ pair. pair.0 < n) pairs.items) same) c.own_cohort.ensures.within
