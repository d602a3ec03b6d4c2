use Rattle.std.proofs.Common.{◌↔◌, ◌≤◌, ℕ, subst}
use Rattle.std.specs.Prelude.{IsTrue}
use Rattle.kt_tables.specs.Peers.{label_of}
use Rattle.kt_tables.specs.States.{State}
use Rattle.kt_tables.proofs.tables.Tables.are_sent_up_to.Goals as goal

pub returns : goal.returns
returns c =
    subst (λ (t : State). IsTrue c.are_at_most.result ↔ ((q : ℕ) → label_of t.last_out q ≤ c.args.most)) c.self.view_is c.are_at_most.ensures
