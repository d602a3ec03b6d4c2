use Rattle.std.proofs.Common.{◌≡◌, ◌∙◌, sym, ap}
use Rattle.koo_toueg_c.specs.NodeNumbers.{look_status, refusal_status}
use Rattle.koo_toueg_c.proofs.Loaded.{status_two}
use Rattle.koo_toueg_c.proofs.node.kt_node_look.Goals as goal

pub returns-in-Ok-NeedsSave-clause-look : goal.returns-in-Ok-NeedsSave-clause-look
returns-in-Ok-NeedsSave-clause-look c = λ other x meant w y says shown. ap look_status (sym c.in-Ok-NeedsSave.field-0-is) ∙ c.in-Ok-NeedsSave.ensures.look x meant w y says shown

pub returns-in-Ok-Plain-clause-look : goal.returns-in-Ok-Plain-clause-look
returns-in-Ok-Plain-clause-look c = λ other x meant w y says shown. ap look_status (sym c.in-Ok-Plain.field-0-is) ∙ c.in-Ok-Plain.ensures.look x meant w y says shown

pub returns-in-Ok-NeedsBody-clause-look : goal.returns-in-Ok-NeedsBody-clause-look
returns-in-Ok-NeedsBody-clause-look c = λ other x meant w y says shown. ap look_status (sym c.in-Ok-NeedsBody.field-0-is) ∙ c.in-Ok-NeedsBody.ensures.look x meant w y says shown

pub returns-in-Ok-Idle-clause-look : goal.returns-in-Ok-Idle-clause-look
returns-in-Ok-Idle-clause-look c = λ other x meant w y says shown. ap look_status (sym c.in-Ok-Idle.field-0-is) ∙ c.in-Ok-Idle.ensures.look x meant w y says shown

pub returns-in-Err-clause-look : goal.returns-in-Err-clause-look
returns-in-Err-clause-look c = λ other x meant w y says shown.
    let exact = c.status.ensures.exact in
    let two : refusal_status c.in-Err.why ≡ 2 = status_two c.in-Err.why (λ e. other (exact ∙ e)) in
    exact ∙ (two ∙ c.in-Err.ensures.refused two x meant w y says shown)
