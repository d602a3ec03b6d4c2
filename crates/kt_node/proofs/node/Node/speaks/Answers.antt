use Rattle.std.proofs.Common.{sym, subst}
use Rattle.kt_process.specs.ProcessStates.{ProcessState}
use Rattle.kt_process.specs.Shown.{IsSeenAs}
use Rattle.kt_node.specs.Links.{NodeLinks}
use Rattle.kt_node.specs.Managers.{ShowsNode}
use Rattle.kt_manager.specs.Managers.{process_of}
use Rattle.kt_node.proofs.Speaking.{sending_speaks}
use Rattle.kt_node.proofs.node.Node.speaks.Goals as goal

pub returns : goal.returns
returns c = λ y q h n.
    let i = subst (λ (w : NodeLinks). ShowsNode w.manager y) (sym c.self.view_is) h in
    sending_speaks c.process.result.now y q c.tables-tables.ensures.fits (subst (λ (x : ProcessState). IsSeenAs x (process_of y)) (sym c.process.ensures.process) i.process) n
