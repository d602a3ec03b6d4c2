use Rattle.std.proofs.Common.{rules, ◌≡◌, ◌∙◌, Bool, refl, sym, ap, subst, length, get_or, arith, length-drop}
use Rattle.std.specs.Prelude.{Result, Ok, Err, OnOk}
use Rattle.kt_object.specs.Fits.{Outline, is_up_after}
use Rattle.kt_object.specs.Refusals.{held_objects, IsActFault}
use Rattle.kt_object.proofs.Rejected.{rejected_first, rejected_after}
use Rattle.kt_object.proofs.Acted.{both_done, one_done, none_done, second_done, second_not, idle_leads, idle_fits, is_some-map, leads_up, leads_tentative, both_fit, two_of}
use Rattle.kt_object.proofs.Stopped.{why_of, on_fault, if_fault, stops_at_first, stops_at_second, idle_outline, next_outline}
use Rattle.kt_object.proofs.held.Held.do_both.Goals as goal

pub returns-in_err-act-clause-err : goal.returns-in_err-act-clause-err
returns-in_err-act-clause-err g c =
    let fault : c.from_residual.result ≡ Err c.in_err-act.field-0.0 = search rules in
    let is = two_of c.args.acts c.index-acts-0.result c.index-acts-1.result (omega arith) in
    if_fault c.from_residual.result _ (λ f e. (
      0,
      stops_at_first _ c.args.acts _ _ f is (why_of _ f _ _ (sym fault ∙ e) c.in_err-act.ensures.unfit c.in_err-act.ensures.failed),
      λ h held. none_done c.args.acts h _ _ _ _ c.in_err-act.ensures.err_object c.in_err-act.ensures.err_depot held,
    ))

pub returns-in_err-act-2-clause-err : goal.returns-in_err-act-2-clause-err
returns-in_err-act-2-clause-err g c =
    let acts = c.args.acts in
    let first = get_or acts 0 c.index-acts-0.result in
    let second = get_or acts 1 c.index-acts-1.result in
    let fault : c.from_residual-in_err-act-2.result ≡ Err c.in_err-act-2.field-0.0 = search rules in
    let is = two_of acts c.index-acts-0.result c.index-acts-1.result (omega arith) in
    let same = next_outline _ _ _ _ _ _ _ first (c.is_nothing.ensures.no c.if-is_nothing.false)
    (sym (is_some-map _ c.act-2.new.self.present) ∙ (leads_up first _ _ _ _ c.in_ok-act.ensures.leads ∙ ap (λ (up : Bool). is_up_after up first) (is_some-map _ c.args.self.now.present)))
    (leads_tentative first _ _ _ _ c.in_ok-act.ensures.leads)
    (ap length c.in_ok-act.ensures.spares ∙ length-drop _ c.args.self.now.spares.items) in
    if_fault c.from_residual-in_err-act-2.result _ (λ f e. (
      1,
      stops_at_second _ acts first second f is c.in_ok-act.ensures.fits
          (subst (λ (o : Outline). IsActFault o second f) same (why_of _ f _ _ (sym fault ∙ e) c.in_err-act-2.ensures.unfit c.in_err-act-2.ensures.failed)),
      λ h held. one_done acts _ _ h _ _ _ _ _ _ is c.in_ok-act.ensures.leads c.in_err-act-2.ensures.err_object c.in_err-act-2.ensures.err_depot held,
    ))

pub returns-clause-does : goal.returns-clause-does
returns-clause-does g c =
    let is = two_of c.args.acts c.index-acts-0.result c.index-acts-1.result (omega arith) in
    λ h held. both_done c.args.acts _ _ h _ _ _ _ _ _ is c.in_ok-act.ensures.leads c.in_ok-act-2.ensures.leads held

pub returns-clause-fits : goal.returns-clause-fits
returns-clause-fits g c =
    let acts = c.args.acts in
    let first = get_or acts 0 c.index-acts-0.result in
    let is = two_of acts c.index-acts-0.result c.index-acts-1.result (omega arith) in
    both_fit acts _ _ _ _ _ _ _ _ _ is (c.is_nothing.ensures.no c.if-is_nothing.false) c.in_ok-act.ensures.fits c.in_ok-act-2.ensures.fits
    (sym (is_some-map _ c.act-2.new.self.present) ∙ (leads_up first _ _ _ _ c.in_ok-act.ensures.leads ∙ ap (λ (up : Bool). is_up_after up first) (is_some-map _ c.args.self.now.present)))
    (leads_tentative first _ _ _ _ c.in_ok-act.ensures.leads)
    (ap length c.in_ok-act.ensures.spares ∙ length-drop _ c.args.self.now.spares.items)

pub returns-then-is_nothing-2-clause-does : goal.returns-then-is_nothing-2-clause-does
returns-then-is_nothing-2-clause-does g c =
    let is = two_of c.args.acts c.index-acts-0.result c.index-acts-1.result (omega arith) in
    let idle = idle_leads (get_or c.args.acts 1 c.index-acts-1.result) _ _ (c.is_nothing-2.ensures.yes c.if-is_nothing-2.true) in
    λ h held. both_done c.args.acts _ _ h _ _ _ _ _ _ is c.in_ok-act.ensures.leads idle held

pub returns-then-is_nothing-2-clause-fits : goal.returns-then-is_nothing-2-clause-fits
returns-then-is_nothing-2-clause-fits g c =
    let acts = c.args.acts in
    let first = get_or acts 0 c.index-acts-0.result in
    let is = two_of acts c.index-acts-0.result c.index-acts-1.result (omega arith) in
    both_fit acts _ _ _ _ _ _ _ _ _ is (c.is_nothing.ensures.no c.if-is_nothing.false) c.in_ok-act.ensures.fits (idle_fits (get_or acts 1 c.index-acts-1.result) _ (c.is_nothing-2.ensures.yes c.if-is_nothing-2.true))
    (sym (is_some-map _ c.act-2.new.self.present) ∙ (leads_up first _ _ _ _ c.in_ok-act.ensures.leads ∙ ap (λ (up : Bool). is_up_after up first) (is_some-map _ c.args.self.now.present)))
    (leads_tentative first _ _ _ _ c.in_ok-act.ensures.leads)
    (ap length c.in_ok-act.ensures.spares ∙ length-drop _ c.args.self.now.spares.items)

on_ok_so : {T E P Q : Type 0} (r : Result T E) → (P → Q) → OnOk r P → OnOk r Q
on_ok_so (Ok value) f h = f h
on_ok_so (Err fault) f h = h

pub returns-then-is_nothing-clause-does : goal.returns-then-is_nothing-clause-does
returns-then-is_nothing-clause-does g c =
    let is = two_of c.args.acts c.index-acts-0.result c.index-acts-1.result (omega arith) in
    on_ok_so c.act.result (λ leads h held. second_done c.args.acts _ _ is (c.is_nothing.ensures.yes c.if-is_nothing.true) h _ _ _ _ leads held) c.act.ensures.leads

pub returns-then-is_nothing-clause-err : goal.returns-then-is_nothing-clause-err
returns-then-is_nothing-clause-err g c =
    let acts = c.args.acts in
    let first = get_or acts 0 c.index-acts-0.result in
    let second = get_or acts 1 c.index-acts-1.result in
    let is = two_of acts c.index-acts-0.result c.index-acts-1.result (omega arith) in
    let nothing = c.is_nothing.ensures.yes c.if-is_nothing.true in
    if_fault c.act.result _ (λ f e. (
      1,
      stops_at_second _ acts first second f is (idle_fits first _ nothing)
          (subst (λ (o : Outline). IsActFault o second f) (idle_outline _ _ _ _ first nothing) (why_of c.act.result f _ second e c.act.ensures.unfit c.act.ensures.failed)),
      λ h held. second_not acts first second is nothing h _ _ _ _ (on_fault c.act.result f e c.act.ensures.err_object) (on_fault c.act.result f e c.act.ensures.err_depot) held,
    ))

pub returns-then-is_nothing-clause-form : goal.returns-then-is_nothing-clause-form
returns-then-is_nothing-clause-form g c = λ e h held.
    rejected_first (λ b saved. (goal.Recoverable-dyn g (b.vtable, b.value)).may_reject b.value saved) (held_objects c.args.self.now.present c.args.self.now.spares.items) c.args.acts h _ _ held (c.act.ensures.form e)

pub returns-in_err-act-clause-form : goal.returns-in_err-act-clause-form
returns-in_err-act-clause-form g c = λ e h held.
    let is : c.from_residual.result ≡ Err c.in_err-act.field-0.0 = search rules in
    rejected_first (λ b saved. (goal.Recoverable-dyn g (b.vtable, b.value)).may_reject b.value saved) (held_objects c.args.self.now.present c.args.self.now.spares.items) c.args.acts h _ _ held (c.in_err-act.ensures.form (sym is ∙ e))

pub returns-in_err-act-2-clause-form : goal.returns-in_err-act-2-clause-form
returns-in_err-act-2-clause-form g c = λ e h held.
    let fault : c.from_residual-in_err-act-2.result ≡ Err c.in_err-act-2.field-0.0 = search rules in
    let is = two_of c.args.acts c.index-acts-0.result c.index-acts-1.result (omega arith) in
    rejected_after (λ b saved. (goal.Recoverable-dyn g (b.vtable, b.value)).may_reject b.value saved) (held_objects c.args.self.now.present c.args.self.now.spares.items) c.args.acts h 1 _ _
    (one_done c.args.acts _ _ h _ _ _ _ _ _ is c.in_ok-act.ensures.leads refl refl held)
    (c.in_ok-act.ensures.rejects c.act-2.new.self.depot.permanent (c.in_err-act-2.ensures.form (sym fault ∙ e)))
