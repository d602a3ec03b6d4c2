use Rattle.std.proofs.Common.{ℕ, ◌<◌, ap, ◌∙◌, sym, subst}
use Rattle.kt_tables.specs.States.{State}
use Rattle.kt_tables.specs.Standing.{TablesStandFor}
use Rattle.kt_tables.proofs.Keeping.{has_last}
use Rattle.kt_tables.proofs.tables.Tables.ckpt_peers.Goals as goal

pub returns-clause-peers : goal.returns-clause-peers
returns-clause-peers c = λ calls h q.
    let stood = subst (λ (t : State). TablesStandFor t calls) (sym c.self.view_is) h in
    c.peers.ensures.peers q ∙ has_last _ calls stood q

pub returns-clause-within : goal.returns-clause-within
returns-clause-within c = λ q e.
    let same = c.self.invariant.last_rcvd ∙ ap (λ (t : State). t.processes) c.self.view_is in
    subst (λ (n : ℕ). q < n) same (c.peers.ensures.within q e)
