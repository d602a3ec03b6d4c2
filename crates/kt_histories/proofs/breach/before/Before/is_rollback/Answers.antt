use Rattle.std.proofs.Common.{Option, sym, ap}
use Rattle.std.specs.Prelude.{option_map}
use Rattle.kt_meaning.specs.Past.{Beginning, past, is_rollback_kind}
use Rattle.kt_histories.proofs.Begun.{not_known}
use Rattle.kt_histories.proofs.breach.before.Before.is_rollback.Goals as goal

pub returns-in-None : goal.returns-in-None
returns-in-None c =
    sym (ap (λ (o : Option Beginning). is_rollback_kind (option_map (λ b. b.kind) o)) (not_known (past c.args.self.now.rows.now) c.args.inst c.in-None.ensures.none))
