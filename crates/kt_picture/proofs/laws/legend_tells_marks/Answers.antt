use Rattle.std.proofs.Common.{◌≡◌, zero, suc, Bool, true, false, List, [], ◌∷◌, cond, ap, ◌∙◌, arith}
use Rattle.std.specs.Prelude.{Contains, filter}
use Rattle.std.proofs.lemmas.List.Elements.{All-contains, Contains-append_left, Contains-append_right, filter_passes}
use Rattle.kt_picture.specs.declared.legend.Sign.{Sign}
use Rattle.kt_picture.specs.declared.legend.TheConstants.{SIGNS}
use Rattle.kt_picture.specs.Legend.{has_sign}
use Rattle.kt_picture.proofs.laws.legend_tells_marks.Goals as goal

passed : (b : Bool) (x sign : Sign) (rest : List Sign) → Contains (x ∷ []) sign → b ≡ true → Contains (cond b (x ∷ rest) rest) sign
passed true x sign rest h e = Contains-append_left (x ∷ []) rest sign h
passed false x sign rest h e = absurd (cc)

later : (b : Bool) (x sign : Sign) (rest : List Sign) → Contains rest sign → Contains (cond b (x ∷ rest) rest) sign
later true x sign rest h = Contains-append_right (x ∷ []) rest sign h
later false x sign rest h = h

-- what passes a test is kept by it
kept : (has : Sign → Bool) (signs : List Sign) (sign : Sign) → Contains signs sign → has sign ≡ true → Contains (filter has signs) sign
kept has [] sign h t = absurd (omega (arith, h.1))
kept has (x ∷ signs) sign (zero, low, e) t = passed (has x) x sign (filter has signs) (zero, omega arith, e) (ap has e ∙ t)
kept has (x ∷ signs) sign (suc k, low, e) t = later (has x) x sign (filter has signs) (kept has signs sign (k, omega (arith, low), e) t)

pub returns : goal.returns
returns c = λ view sign known. (
  λ h. All-contains (λ (x : Sign). has_sign view x ≡ true) (filter (has_sign view) SIGNS) sign (filter_passes (has_sign view) SIGNS) h,
  λ t. kept (has_sign view) SIGNS sign known t,
)
