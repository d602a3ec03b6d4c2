use Rattle.std.proofs.Common.{◌≡◌, ◌<◌, Some, Option, [], ◌++◌, length, refl, sym, ap, ◌∙◌, arith}
use Rattle.std.specs.List.{slice_get, cons_option}
use Rattle.std.proofs.lemmas.Option.{slice_get_read}
use Rattle.std.proofs.lemmas.List.{append-nil, length-set}
use Rattle.kt_meaning.proofs.Items.{get_set_other}
use Rattle.kt_spacetime.specs.declared.certificate.Certificate.{Certificate}
use Rattle.kt_certify.proofs.AtNumber.{found_more}
use Rattle.kt_certify.proofs.pass.found.Goals as goal
use Rattle.kt_certify.proofs.pass.found.Goals.{in-Some+in_ok-push, in_default}

pub loop-index-preserved : goal.loop-index-preserved
loop-index-preserved c =
    let i = c.loop-index.index in
    let es = c.loop-index.instances.items in
    let all = c.args.instances.now.items in
    let low : i < length es = omega (arith, c.loop-index-test.true, c.loop-index.invariant.many, c.len-index-end.ensures, c.args.instances.now.ok.0) in
    let at = slice_get_read es (length es) i c.index_mut.result.now refl low c.index_mut.ensures.value in
    let first : slice_get all i ≡ Some c.index_mut.result.now = sym (c.loop-index.invariant.rest i (omega arith)) ∙ at in
    record {
      list = elim c.match-give.branch [
        | in-Some+in_ok-push w ↦
            found_more all i c.index_mut.result.now c.loop-index.list.items c.match-give.list.items first c.loop-index.invariant.list
            ((λ x. (w.list-is x).items) ∙ (w.in_ok-push.ensures.items ∙ ap (λ (o : Option Certificate). c.loop-index.list.items ++ cons_option o []) (sym w.in-Some.is ∙ c.give.ensures)))
        | in_default w ↦
            found_more all i c.index_mut.result.now c.loop-index.list.items c.match-give.list.items first c.loop-index.invariant.list
            ((λ x. (w.list-is x).items) ∙ (sym (append-nil c.loop-index.list.items) ∙ ap (λ (o : Option Certificate). c.loop-index.list.items ++ cons_option o []) (sym w.in_default.is ∙ c.give.ensures)))
      ];
      many = length-set es i c.give.new.self ∙ c.loop-index.invariant.many;
      rest = λ j high. get_set_other es i j c.give.new.self (λ e. omega (arith, high, e)) ∙ c.loop-index.invariant.rest j (omega (arith, high));
    }
