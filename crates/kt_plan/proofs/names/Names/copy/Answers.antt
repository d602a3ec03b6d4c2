use Rattle.std.proofs.Common.{◌≡◌, ◌<◌, ◌∙◌, ◌++◌, ◌∷◌, [], sym, ap, map, take, get_or, length, List, ℕ, arith, rules}
use Rattle.std.specs.Prelude.{None}
use Rattle.std.specs.String.{string_bytes}
use Rattle.std.proofs.lemmas.List.{length-map, take_more}
use Rattle.kt_plan.specs.Names.{is_name, number_in}
use Rattle.kt_plan.proofs.NameFacts.{at_place, earlier}
use Rattle.kt_plan.proofs.names.Names.copy.Goals as goal

pub add-requires-clause-proper : goal.add-requires-clause-proper
add-requires-clause-proper c =
    let text = string_bytes c.name-item.result in
    let at = at_place string_bytes c.list-name-items.result.now c.args.self.now c.loop-name.name-index c.name-item.result c.list-name-items.ensures.list c.name-item.is in
    let below : c.loop-name.name-index < length c.args.self.now = omega (arith, ap length c.list-name-items.ensures.list, length-map c.list-name-items.result.now string_bytes) in
    ap is_name (c.as_str.ensures.value ∙ sym at) ∙ c.list-name-items.ensures.names.proper c.loop-name.name-index text below

pub add-requires-clause-unknown : goal.add-requires-clause-unknown
add-requires-clause-unknown c =
    let text = string_bytes c.name-item.result in
    let at = at_place string_bytes c.list-name-items.result.now c.args.self.now c.loop-name.name-index c.name-item.result c.list-name-items.ensures.list c.name-item.is in
    let below : c.loop-name.name-index < length c.args.self.now = omega (arith, ap length c.list-name-items.ensures.list, length-map c.list-name-items.result.now string_bytes) in
    ap (λ (names : List (List ℕ)). number_in names c.as_str.result.now) c.loop-name.invariant
    ∙ (ap (λ (word : List ℕ). number_in (take c.loop-name.name-index c.args.self.now) word) (c.as_str.ensures.value ∙ sym at)
    ∙ earlier c.args.self.now c.loop-name.name-index text c.list-name-items.ensures.names below)

pub loop-name-preserved : goal.loop-name-preserved
loop-name-preserved c =
    let text = string_bytes c.name-item.result in
    let at = at_place string_bytes c.list-name-items.result.now c.args.self.now c.loop-name.name-index c.name-item.result c.list-name-items.ensures.list c.name-item.is in
    let below : c.loop-name.name-index < length c.args.self.now = omega (arith, ap length c.list-name-items.ensures.list, length-map c.list-name-items.result.now string_bytes) in
    let grown : c.add.new.self ≡ c.loop-name.names ++ c.as_str.result.now ∷ [] = search rules in
    let name = c.as_str.ensures.value ∙ sym at in
    let more = take_more c.args.self.now c.loop-name.name-index text below in
    cc (grown, name, more, c.loop-name.invariant)
