use Rattle.std.specs.Prelude.{IsTrue, ◌↔◌}
use Rattle.std.proofs.Common.{◌≡◌, ℕ, [], subst}
use Rattle.kt_fifo.specs.Channels.{channel}
use Rattle.kt_system.specs.Systems.{Whole}
use Rattle.kt_system.proofs.system.System.holds_none.Goals as goal

pub returns : goal.returns
returns c = subst (λ (w : Whole). IsTrue c.is_empty.result ↔ ((p q : ℕ) → channel w.held p q ≡ [])) c.self.view_is c.is_empty.ensures
