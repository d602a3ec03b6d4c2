use Rattle.std.proofs.Common.{rules, ◌≡◌, ◌∙◌, sym, ap, ℕ, List, Ok, Result, subst}
use Rattle.std.specs.Prelude.{ℤ, FitsSigned}
use Rattle.std.specs.Int.{w64}
use Rattle.std.specs.Fmt.{signed_decimal}
use Rattle.std.specs.Str.{IsUtf8}
use Rattle.std.specs.Str.Parse.{ParsesSigned}
use Rattle.std.proofs.lemmas.Fmt.{IsAscii-signed, parse-signed_decimal}
use Rattle.std.proofs.lemmas.Int.{to_z-of_z}
use Rattle.std.proofs.lemmas.Str.{IsUtf8-from_ascii}
use Rattle.kt_text.specs.Words.{BeginsAsBody}
use Rattle.kt_text.proofs.NumberFacts.{begun_body, body_fits, small_body}
use Rattle.kt_text.proofs.fields.any_body_of.Goals as goal

spelt_text : (z : ℤ) (t : List ℕ) → FitsSigned w64 z → t ≡ signed_decimal z → IsUtf8 t
spelt_text z t f e = let P : List ℕ → Type 0 = IsUtf8 in subst P (sym e) (IsUtf8-from_ascii (signed_decimal z) (IsAscii-signed z (small_body z f)))

spelt_reads : {E : Type 0} (z : ℤ) (t u : List ℕ) (r : Result ℤ E) → FitsSigned w64 z → u ≡ t → t ≡ signed_decimal z → ParsesSigned w64 10 u r → r ≡ Ok z
spelt_reads z t u r f same e p = parse-signed_decimal w64 z u r f (small_body z f) (same ∙ e) p

pub returns-in_default-clause-none : goal.returns-in_default-clause-none
returns-in_default-clause-none c z f e = c.in_default.ensures.cases.0 (spelt_text z _ f e)

pub returns-in_default-parse-clause-none : goal.returns-in_default-parse-clause-none
returns-in_default-parse-clause-none c z f e =
    let p = spelt_reads z c.args.text.now c.in-Ok.digits.now c.parse.result f c.in-Ok.ensures.cases.0 e c.parse.ensures.value.0 in
    cc (rw c.in_default-parse.is at p)

pub returns-clause-found : goal.returns-clause-found
returns-clause-found c =
    let begins : BeginsAsBody c.args.text.now = c.begins_as_body.ensures.body (search rules) in
    let same = c.in-Ok.ensures.cases.0 in
    let spelt = sym same ∙ begun_body c.in-Ok-parse.body c.in-Ok.digits.now c.parse.result (subst BeginsAsBody (sym same) begins) c.parse.ensures.value.0 c.in-Ok-parse.is in
    let fits : FitsSigned w64 c.in-Ok-parse.body = body_fits c.in-Ok-parse.body c.in-Ok.digits.now c.parse.result c.parse.ensures.value.0 c.in-Ok-parse.is in
    spelt ∙ ap signed_decimal (sym (to_z-of_z w64 c.in-Ok-parse.body fits))
