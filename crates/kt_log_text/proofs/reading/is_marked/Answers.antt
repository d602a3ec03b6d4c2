use Rattle.std.proofs.Common.{rules, ◌≡◌, ◌≢◌, ◌∙◌, ◌∷◌, ℕ, List, sym, subst, ap, codes}
use Rattle.csv.specs.Records.{fields_of}
use Rattle.kt_text.proofs.FieldFacts.{none_first, some_first}
use Rattle.kt_log_text.specs.Texts.{IsUnmarked}
use Rattle.kt_log_text.proofs.reading.is_marked.Goals as goal

pub returns-in_default : goal.returns-in_default
returns-in_default c = subst IsUnmarked (sym (none_first (fields_of c.args.current.now) (sym c.in_default.ensures.value))) tt

pub returns-then-eq : goal.returns-then-eq
returns-then-eq c =
    let first = some_first (fields_of c.args.current.now) c.in-Some.word.now c.in-Some.ensures.value in
    let same : c.in-Some.word.now ≡ codes "kt" = search rules in
    (first.0, first.1 ∙ ap (λ (word : List ℕ). word ∷ first.0) same)

pub returns : goal.returns
returns c =
    let first = some_first (fields_of c.args.current.now) c.in-Some.word.now c.in-Some.ensures.value in
    let other : c.in-Some.word.now ≢ codes "kt" = search rules in
    subst IsUnmarked (sym first.1) other
