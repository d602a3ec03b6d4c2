use Rattle.std.proofs.Common.{◌∙◌, true, sym, ap}
use Rattle.std.specs.Prelude.{Some, is_none}
use Rattle.kt_meaning.specs.Past.{is_rollback_kind}
use Rattle.kt_node.specs.Faults.{fault_at}
use Rattle.kt_node.specs.Looks.{input_of}
use Rattle.kt_node.specs.declared.inputs.Input.{Input}
use Rattle.kt_node.proofs.manager.Manager.may_step.Goals as goal

pub returns-in-Send : goal.returns-in-Send
returns-in-Send c = λ y h. c.may_send.ensures y c.in-Send.body h ∙ ap (λ (x : Input). is_none (fault_at y (input_of true x))) (sym c.in-Send.is)

pub returns-in-Begin : goal.returns-in-Begin
returns-in-Begin c = λ y h. c.may_begin.ensures y (is_rollback_kind (Some c.in-Begin.field-0)) true h ∙ ap (λ (x : Input). is_none (fault_at y (input_of true x))) (sym c.in-Begin.is)

pub returns-in-Deliver : goal.returns-in-Deliver
returns-in-Deliver c = λ y h. c.may_take.ensures y true h ∙ ap (λ (x : Input). is_none (fault_at y (input_of true x))) (sym c.in-Deliver.is)
