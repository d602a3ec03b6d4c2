use Rattle.std.proofs.Common.{◌≡◌, ◌≢◌, ◌<◌, ◌^◌, ◌∙◌, ℕ, List, Some, Result, ap, false, not, refl, rules, sym}
use Rattle.std.specs.Prelude.{Option}
use Rattle.std.specs.Fmt.{decimal}
use Rattle.std.specs.Str.Parse.{ParsesUnsigned}
use Rattle.std.proofs.lemmas.Bool.Decides.{Decides-eqb}
use Rattle.std.proofs.lemmas.Fmt.{parse-decimal}
use Rattle.std.proofs.lemmas.Slice.Eq.{slice_eq-Decides}
use Rattle.std.specs.Result.{result_ok}
use Rattle.kt_program.proofs.ask.seed_of.Goals as goal

reads : {E : Type 0} (n : ℕ) (t : List ℕ) (r : Result ℕ E) (o : Option ℕ) → n < 2 ^ 64 → t ≡ decimal n → ParsesUnsigned 64 10 t r → o ≡ result_ok r → o ≡ Some n
reads n t r o within e p ok = ok ∙ ap result_ok (parse-decimal 64 n t r within within e p)

pub returns-in_err-number-clause-none : goal.returns-in_err-number-clause-none
returns-in_err-number-clause-none c =
    let none : (n : ℕ) → n < 2 ^ 64 → c.args.text.now ≢ decimal n =
    λ n within e. (let p = reads n c.args.text.now c.parse.result c.ok.result within e c.parse.ensures.value.0 c.ok.ensures.value in cc (p, c.in_err-number.was)) in
    search rules

pub returns-then-ne-clause-none : goal.returns-then-ne-clause-none
returns-then-ne-clause-none c n within e =
    let p = reads n c.args.text.now c.parse.result c.ok.result within e c.parse.ensures.value.0 c.ok.ensures.value in
    let read : c.in_ok-number.number ≡ n = cc (p, c.in_ok-number.was) in
    let written : c.format.result.now ≡ c.args.text.now = c.format.ensures.text ∙ (ap decimal read ∙ sym e) in
    let same = (slice_eq-Decides Decides-eqb c.format.result.now c.args.text.now _ refl).1 written in
    let equal : c.ne.result ≡ false = c.ne.ensures ∙ ap not same in
    cc (equal, c.if-ne.true)
