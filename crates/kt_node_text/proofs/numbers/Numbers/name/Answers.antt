use Rattle.std.specs.Prelude.{is_some, Option, Some}
use Rattle.std.proofs.Common.{◌∷◌, ◌++◌, ◌∙◌, ℕ, sym, subst}
use Rattle.std.proofs.lemmas.Bool.{false≢true}
use Rattle.kt_spacetime.specs.Counts.{IsCount}
use Rattle.kt_spacetime.specs.declared.names.InstName.{InstName}
use Rattle.kt_node_text.proofs.OneAfterAnother.{stops, name_parts, name_begins, no_name, a_name}
use Rattle.kt_node_text.proofs.numbers.Numbers.name.Goals as goal

abbrev some_name : ℕ → ℕ → Option InstName
some_name p n = Some (record { initiator = p; count = n })

pub returns-in_err-flag-clause-read : goal.returns-in_err-flag-clause-read
returns-in_err-flag-clause-read c = λ o after range e.
    stops _ _ _ _ _ c.from_residual.ensures.1 (c.in_err-flag.ensures.read (is_some o) (name_parts o ++ after) (e ∙ name_begins o after))

pub returns-then-not-branch-clause-read : goal.returns-then-not-branch-clause-read
returns-then-not-branch-clause-read c = λ o after range e.
    let f = c.in_ok-flag.ensures.read (is_some o) (name_parts o ++ after) (e ∙ name_begins o after) in
    no_name o after _ (sym f.0 ∙ c.if-not-branch.true) f.1

pub returns-in_err-initiator-clause-read : goal.returns-in_err-initiator-clause-read
returns-in_err-initiator-clause-read c = λ o after range e.
    let f = c.in_ok-flag.ensures.read (is_some o) (name_parts o ++ after) (e ∙ name_begins o after) in
    let k = a_name o after _ (sym f.0 ∙ c.if-not-branch.false) range f.1 in
    stops _ _ _ _ _ c.from_residual-in_err-initiator.ensures.1 (c.in_err-initiator.ensures.read k.0.initiator (k.0.count ∷ after) k.2.0 k.3)

pub returns-in_err-number-clause-read : goal.returns-in_err-number-clause-read
returns-in_err-number-clause-read c = λ o after range e.
    let f = c.in_ok-flag.ensures.read (is_some o) (name_parts o ++ after) (e ∙ name_begins o after) in
    let k = a_name o after _ (sym f.0 ∙ c.if-not-branch.false) range f.1 in
    let p = c.in_ok-initiator.ensures.read k.0.initiator (k.0.count ∷ after) k.2.0 k.3 in
    stops _ _ _ _ _ c.from_residual-in_err-number.ensures.1 (c.in_err-number.ensures.read k.0.count after p.1)

pub returns-in-Some-clause-read : goal.returns-in-Some-clause-read
returns-in-Some-clause-read c = λ o after range e.
    let f = c.in_ok-flag.ensures.read (is_some o) (name_parts o ++ after) (e ∙ name_begins o after) in
    let k = a_name o after _ (sym f.0 ∙ c.if-not-branch.false) range f.1 in
    let p = c.in_ok-initiator.ensures.read k.0.initiator (k.0.count ∷ after) k.2.0 k.3 in
    let n = c.in_ok-number.ensures.read k.0.count after p.1 in
    let count = c.in-Some.ensures.value ∙ n.0 in
    ((λ i. some_name (p.0 i) (count i)) ∙ k.1, n.1)

pub returns-in-None-clause-read : goal.returns-in-None-clause-read
returns-in-None-clause-read c = λ o after range e.
    let f = c.in_ok-flag.ensures.read (is_some o) (name_parts o ++ after) (e ∙ name_begins o after) in
    let k = a_name o after _ (sym f.0 ∙ c.if-not-branch.false) range f.1 in
    let p = c.in_ok-initiator.ensures.read k.0.initiator (k.0.count ∷ after) k.2.0 k.3 in
    let n = c.in_ok-number.ensures.read k.0.count after p.1 in
    false≢true (c.in-None.ensures.valid.1 (subst IsCount (sym n.0) k.2.1))
