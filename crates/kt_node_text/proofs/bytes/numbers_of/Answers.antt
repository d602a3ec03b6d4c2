use Rattle.std.proofs.Common.{◌≡◌, ◌∙◌, [], ◌∷◌, ◌++◌, ℕ, List, take, drop, arith, sym, ap, rules}
use Rattle.std.proofs.lemmas.List.{take-append-drop}
use Rattle.kt_node_text.specs.Form.{bytes_of}
use Rattle.kt_node_text.proofs.Words.{one_more, few_more}
use Rattle.kt_node_text.proofs.bytes.numbers_of.Goals as goal

pub loop-rest-preserved : goal.loop-rest-preserved
loop-rest-preserved c =
    let rest = c.loop-rest.rest.now in
    let whole : c.args.bytes.now ≡ bytes_of c.loop-rest.numbers.items ++ (take 8 rest ++ drop 8 rest) =
    c.loop-rest.invariant ∙ ap (λ (l : List ℕ). bytes_of c.loop-rest.numbers.items ++ l) (sym (take-append-drop 8 rest)) in
    let more = one_more c.args.bytes.now (take 8 rest) (drop 8 rest) c.loop-rest.numbers.items c.first_number.result whole c.first_number.ensures.bytes in
    let items : c.push.new.self.items ≡ c.loop-rest.numbers.items ++ c.first_number.result ∷ [] = search rules in
    let after : c.split_at.result.1.now ≡ drop 8 rest = c.split_at.ensures.back in
    rw (items, after) more

pub returns-else-is_empty-clause-form : goal.returns-else-is_empty-clause-form
returns-else-is_empty-clause-form c = λ is numbers e.
    few_more c.args.bytes.now c.loop-rest.rest.now c.loop-rest.numbers.items numbers c.loop-rest.invariant (search rules) (omega (arith, c.loop-rest-test.false)) e
