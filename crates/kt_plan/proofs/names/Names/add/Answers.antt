use Rattle.std.proofs.Common.{◌≡◌, ◌∙◌, sym, ap, map, true, false, List, ℕ, ◌++◌, ◌∷◌, [], rules, refl, subst}
use Rattle.std.specs.Prelude.{None}
use Rattle.std.specs.List.{list_any}
use Rattle.std.specs.Str.{bytes_eq}
use Rattle.std.specs.String.{string_bytes}
use Rattle.kt_plan.specs.Names.{AreNames, number_in}
use Rattle.kt_plan.proofs.NameFacts.{adds, one_more, absent}
use Rattle.kt_plan.proofs.names.Names.add.Goals as goal

names : (c : goal.In_ok-insert) → map string_bytes c.insert.new.self.keys ≡ map string_bytes c.self.inside.set.keys ++ c.args.name.now ∷ []
names c =
    let text : string_bytes c.in_ok-from_str.field-0 ≡ c.args.name.now = search rules in
    let is_new : number_in (map string_bytes c.self.inside.set.keys) c.args.name.now ≡ None = rw c.self.view_is c.requires.unknown in
    let off = absent string_bytes c.self.inside.set.keys c.args.name.now is_new in
    let same = ap (λ (t : List ℕ). list_any (λ k. bytes_eq t (string_bytes k)) c.self.inside.set.keys) text in
    adds string_bytes c.self.inside.set.keys c.insert.new.self.keys c.in_ok-from_str.field-0 c.args.name.now _ text (same ∙ off) c.in_ok-insert.ensures.keys

pub returns-clause-ok : goal.returns-clause-ok
returns-clause-ok c = names c ∙ ap (λ (names : List (List ℕ)). names ++ c.args.name.now ∷ []) c.self.view_is

pub invariant_of-self-2 : goal.invariant_of-self-2
invariant_of-self-2 c =
    rw (names c)
    (one_more _ c.args.name.now c.self.invariant c.requires.proper (rw c.self.view_is c.requires.unknown) (rw c.self.view_is c.requires.room))
