use Rattle.std.specs.Prelude.{Err, Some}
use Rattle.std.proofs.Common.{◌≡◌, ◌∙◌, ap, sym}
use Rattle.kt_node.specs.declared.inputs.Input.{Input}
use Rattle.kt_node_text.specs.declared.fault.LoadFault.{LoadFault}
use Rattle.koo_toueg_c.specs.NodeNumbers.{input_meant, look_status, of_load, refusal_status}
use Rattle.koo_toueg_c.specs.Nodes.{IsLookOf, IsSealed}
use Rattle.koo_toueg_c.proofs.Loaded.{look_same, some_is, if_err, is_want, not_read}
use Rattle.koo_toueg_c.proofs.node.look.Goals as goal

pub returns-clause-look : goal.returns-clause-look
returns-clause-look c = λ x meant w y says shown.
    let node = c.in_ok-node.node in
    let same = c.in_ok-node.ensures.own w says.own says.said in
    let is = some_is _ _ (sym meant ∙ sym c.meant.ensures ∙ c.in-Some.is) in
    rw is (ap look_status (c.look.ensures y (same.shows y shown).manager ∙ look_same w node y c.in-Some.input same))

pub returns-in_err-node-clause-refused : goal.returns-in_err-node-clause-refused
returns-in_err-node-clause-refused c =
    let fault = c.in_err-node.field-0.0 in
    if_err c.from_residual.result (λ why. refusal_status why ≡ 2 → (x : Input) → input_meant c.args.numbers.now ≡ Some x → IsLookOf c.args.state.now x 2) (λ why. why ≡ of_load fault)
    (λ why is two x meant w y says shown. absurd (c.in_err-node.ensures.form (ap (λ (f : LoadFault). Err f) (not_read fault why is two)) w says.own says.said))
    c.from_residual.ensures.1

pub returns-in_err-node-clause-memory : goal.returns-in_err-node-clause-memory
returns-in_err-node-clause-memory c =
    let fault = c.in_err-node.field-0.0 in
    if_err c.from_residual.result (λ why. refusal_status why ≡ 4 → IsSealed c.args.state.now) (λ why. why ≡ of_load fault)
    (λ why is four. c.in_err-node.ensures.memory (ap (λ (f : LoadFault). Err f) (is_want fault why is four)))
    c.from_residual.ensures.1

pub returns-clause-node : goal.returns-clause-node
returns-clause-node c = (c.in_ok-node.node, record { own = c.in_ok-node.ensures.sound; said = c.in_ok-node.ensures.ok })
