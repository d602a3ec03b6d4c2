use Rattle.std.proofs.Common.{rules, ◌∙◌, sym, subst, arith}
use Rattle.kt_text.specs.Words.{BeginsAsNumber}
use Rattle.kt_merge.proofs.NameFacts.{long_spells, spelt_text, spelt_reads}
use Rattle.kt_merge.proofs.names.any_number_of.Goals as goal

pub returns-in_default-clause-none : goal.returns-in_default-clause-none
returns-in_default-clause-none c n l e = c.in_default.ensures.cases.0 (spelt_text n _ l e)

pub returns-in_default-parse-clause-none : goal.returns-in_default-parse-clause-none
returns-in_default-parse-clause-none c n l e =
    let p = spelt_reads n c.args.text.now c.in-Ok.digits.now c.parse.result l c.in-Ok.ensures.cases.0 e c.parse.ensures.value.0 in
    cc (rw c.in_default-parse.is at p)

pub returns-clause-found : goal.returns-clause-found
returns-clause-found c =
    let begins : BeginsAsNumber c.args.text.now = c.begins_as_number.ensures.number (search rules) in
    let same = c.in-Ok.ensures.cases.0 in
    let spelt = sym same ∙ long_spells c.in-Ok-parse.number c.in-Ok.digits.now c.parse.result (subst BeginsAsNumber (sym same) begins) c.parse.ensures.value.0 c.in-Ok-parse.is in
    (omega arith, spelt)
