use Rattle.std.specs.Prelude.{Option}
use Rattle.std.proofs.Common.{sym, subst}
use Rattle.kt_process.specs.Parts.{Part}
use Rattle.kt_process.specs.ProcessStates.{IsNear}
use Rattle.kt_process.proofs.process.Process.partners.Goals as goal

pub returns-in-Some-clause-within : goal.returns-in-Some-clause-within
returns-in-Some-clause-within c =
    let n = c.args.self.now.tables.processes in
    c.partners_of.ensures.within n (subst (λ (part : Option Part). IsNear n part) (sym c.in-Some.ensures.part) c.in-Some.ensures.near)
