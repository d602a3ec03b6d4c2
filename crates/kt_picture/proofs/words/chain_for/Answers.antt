use Rattle.std.proofs.Common.{rules, tests, ◌∙◌, ◌==◌, ℕ, List, Option, ap, sym}
use Rattle.std.specs.Prelude.{find, option_map}
use Rattle.std.proofs.lemmas.Iterator.{YieldsList-from_slice}
use Rattle.std.proofs.lemmas.Iterator.Search.{find_from_yields_List}
use Rattle.kt_spacetime.specs.declared.certificate.Certificate.{Certificate}
use Rattle.kt_picture.specs.Evidence.{chain_listed, chain_of_member}
use Rattle.kt_picture.proofs.words.chain_for.Goals as goal

pub returns-in-Some-find : goal.returns-in-Some-find
returns-in-Some-find c =
    let found = find_from_yields_List (λ (v : Certificate). v.inst == c.args.inst) _ _ c.find.result c.find.ensures.ran (YieldsList-from_slice c.args.certificates.now cc) (λ x b q k. search (rules, tests)) in
    let member = find_from_yields_List (λ (m : ℕ × List ℕ). m.0 == c.args.p) _ _ c.find-in-Some.result c.find-in-Some.ensures.ran (YieldsList-from_slice c.list.result.now cc) (λ x b q k. search (rules, tests)) in
    c.messages.ensures ∙ ap chain_of_member (ap (option_map (λ m. m.now)) (sym c.in-Some-find.is) ∙ member)
    ∙ ap (λ (items : List (ℕ × List ℕ)). chain_of_member (find (λ m. m.0 == c.args.p) items)) c.list.ensures
    ∙ ap (λ (o : Option Certificate). chain_listed o c.args.p) (ap (option_map (λ v. v.now)) (sym c.in-Some.is) ∙ found)

pub returns-in-None-find : goal.returns-in-None-find
returns-in-None-find c =
    let found = find_from_yields_List (λ (v : Certificate). v.inst == c.args.inst) _ _ c.find.result c.find.ensures.ran (YieldsList-from_slice c.args.certificates.now cc) (λ x b q k. search (rules, tests)) in
    let member = find_from_yields_List (λ (m : ℕ × List ℕ). m.0 == c.args.p) _ _ c.find-in-Some.result c.find-in-Some.ensures.ran (YieldsList-from_slice c.list.result.now cc) (λ x b q k. search (rules, tests)) in
    ap chain_of_member (ap (option_map (λ m. m.now)) (sym c.in-None-find.is) ∙ member)
    ∙ ap (λ (items : List (ℕ × List ℕ)). chain_of_member (find (λ m. m.0 == c.args.p) items)) c.list.ensures
    ∙ ap (λ (o : Option Certificate). chain_listed o c.args.p) (ap (option_map (λ v. v.now)) (sym c.in-Some.is) ∙ found)

pub returns-in-None : goal.returns-in-None
returns-in-None c =
    let found = find_from_yields_List (λ (v : Certificate). v.inst == c.args.inst) _ _ c.find.result c.find.ensures.ran (YieldsList-from_slice c.args.certificates.now cc) (λ x b q k. search (rules, tests)) in
    ap (λ (o : Option Certificate). chain_listed o c.args.p) (ap (option_map (λ v. v.now)) (sym c.in-None.is) ∙ found)
