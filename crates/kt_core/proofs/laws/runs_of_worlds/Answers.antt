use Rattle.std.proofs.Common.{true, refl, sym, subst}
use Rattle.kt_core.specs.Agendas.{Agenda}
use Rattle.kt_core.specs.Shown.{Mirrors}
use Rattle.kt_core.proofs.Defaults.{rest_is}
use Rattle.kt_core.proofs.Enabled.{enabled_is}
use Rattle.kt_core.proofs.Leading.{run_same}
use Rattle.kt_core.proofs.laws.runs_of_worlds.Goals as goal

pub returns-clause-enabled : goal.returns-clause-enabled
returns-clause-enabled c = λ w first v step r. enabled_is c.laws_of_runs.ensures w first v r step

pub returns-clause-rest : goal.returns-clause-rest
returns-clause-rest c = λ w first v r rest. sym (rest_is c.laws_of_runs.ensures w first v r true (λ _. rest, λ _. refl))

pub returns-clause-same : goal.returns-clause-same
returns-clause-same c = λ old new first v same r.
    subst (λ (a : Agenda). Mirrors a new.system first v) (sym same.agenda) (run_same old.agenda old.system new.system first v same.system r)
