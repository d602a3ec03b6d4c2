use Rattle.std.specs.Prelude.{Err}
use Rattle.std.proofs.Common.{◌≡◌, ◌∙◌, ap, subst, sym}
use Rattle.kt_node_text.specs.Form.{bytes_of, numbers_of}
use Rattle.kt_node_text.specs.declared.fault.LoadFault.{LoadFault}
use Rattle.koo_toueg_c.specs.NodeNumbers.{of_load}
use Rattle.koo_toueg_c.specs.Nodes.{IsNoStep}
use Rattle.koo_toueg_c.specs.declared.node.refusal.Refusal.TheVariants as refusal
use Rattle.koo_toueg_c.proofs.Loaded.{step_of, again_of, refused_of, unread_of, if_err}
use Rattle.koo_toueg_c.proofs.node.stepping.stepped.Goals as goal

pub returns-in_err-node-clause-refused : goal.returns-in_err-node-clause-refused
returns-in_err-node-clause-refused c =
    let fault = c.in_err-node.field-0.0 in
    if_err c.from_residual.result (IsNoStep c.args.state.now c.args.numbers.now) (λ r. r ≡ of_load fault)
    (λ r e. unread_of c.args.state.now c.args.numbers.now fault r e
    (λ is w own said. c.in_err-node.ensures.form (ap (λ (f : LoadFault). Err f) is) w own said)
    (λ is. c.in_err-node.ensures.memory (ap (λ (f : LoadFault). Err f) is)))
    c.from_residual.ensures.1

pub returns-in_err-bytes-in-Step-clause-refused : goal.returns-in_err-bytes-in-Step-clause-refused
returns-in_err-bytes-in-Step-clause-refused c =
    if_err c.from_residual-in_err-bytes-in-Step.result (IsNoStep c.args.state.now c.args.numbers.now) (λ r. r ≡ refusal.Memory)
    (λ r e. subst (IsNoStep c.args.state.now c.args.numbers.now) (sym e) (bytes_of (numbers_of c.in_ok-node.node), c.in_ok-node.ensures.ok))
    c.from_residual-in_err-bytes-in-Step.ensures.1

pub returns-in_err-take-clause-refused : goal.returns-in_err-take-clause-refused
returns-in_err-take-clause-refused c =
    let ok = c.in_err-take.ensures in
    if_err c.from_residual-in_err-take.result (IsNoStep c.args.state.now c.args.numbers.now) (λ r. r ≡ refusal.Node c.in_err-take.field-0.0)
    (λ r e. refused_of c.args.state.now c.args.numbers.now c.in_ok-node.node c.in-Some.input c.is_able.result c.in_err-take.field-0.0 r
    (record { same = c.in_ok-node.ensures.own }) (record { own = c.in_ok-node.ensures.sound; said = c.in_ok-node.ensures.ok }) (sym c.meant.ensures ∙ c.in-Some.is) c.is_able.ensures ok.met ok.refused ok.spent ok.memory e)
    c.from_residual-in_err-take.ensures.1

pub returns-in_ok-bytes-in-Step-clause-step : goal.returns-in_ok-bytes-in-Step-clause-step
returns-in_ok-bytes-in-Step-clause-step c =
    step_of c.args.state.now c.in_ok-bytes-in-Step.bytes.items c.args.numbers.now c.in_ok-node.node c.take.new.node c.in-Some.input c.is_able.result
    c.in_ok-take.field-0 c.take.new.out (record { same = c.in_ok-node.ensures.own }) (record { own = c.in_ok-node.ensures.sound; said = c.in_ok-node.ensures.ok })
    (sym c.meant.ensures ∙ c.in-Some.is) c.is_able.ensures c.in-Step.is
    c.in_ok-bytes-in-Step.ensures c.in_ok-take.ensures.next c.in_ok-take.ensures.met c.in_ok-take.ensures.refused c.in_ok-take.ensures.done

pub returns-in-Again-clause-step : goal.returns-in-Again-clause-step
returns-in-Again-clause-step c =
    again_of c.args.state.now c.args.numbers.now c.in_ok-node.node c.in-Some.input c.in_ok-take.field-0
    (record { same = c.in_ok-node.ensures.own }) (record { own = c.in_ok-node.ensures.sound; said = c.in_ok-node.ensures.ok })
    (sym c.meant.ensures ∙ c.in-Some.is) c.in-Again.is c.in_ok-take.ensures.met
