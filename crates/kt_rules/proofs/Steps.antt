-- Sends, receives and drops: tables go on showing what is known.
use Rattle.std.proofs.Common.{◌≡◌, ◌≢◌, ℕ, ◌+◌, ◌<◌, ◌⊎◌, List, [], ◌∷◌, ◌++◌, sym, ◌∙◌, subst, inl, inr}
use Rattle.std.proofs.lemmas.Bool.{cases_eq}
use Rattle.kt_spacetime.specs.declared.deeds.Deed.{Deed}
use Rattle.kt_meaning.specs.Past.{at_one}
use Rattle.kt_meaning.proofs.Shown.{at_same, at_other}

-- a property of each history, with one that has one more deed
pub each_history : (P : List Deed → Type 0) (p q : ℕ) (l : List Deed) (f : ℕ → List Deed) → P l → ((r : ℕ) → P (f r)) → P (at_one p l f q)
each_history P p q l f new all = elim (cases_eq q p) [
  | inl same ↦ subst (λ (y : ℕ). P (at_one p l f y)) (sym same) (subst P (sym (at_same p l f)) new)
  | inr n ↦ subst P (sym (at_other p q l f n)) (all q)
]
