-- What a pass knows of rows after one more.
use Rattle.std.proofs.Common.{◌≡◌, ◌≤◌, true, false, Option, Some, None, List, [], ◌∷◌, ◌++◌, length, refl, sym, subst, ◌∙◌, arith, length-append}
use Rattle.kt_spacetime.specs.declared.event.Event.{Event}
use Rattle.kt_meaning.specs.Past.{start}
use Rattle.kt_meaning.specs.Legal.{IsLegal}
use Rattle.kt_meaning.proofs.Items.{some_same}
use Rattle.kt_walk.specs.WalkOf.{WalkOf}
use Rattle.kt_meaning.proofs.Answering.{no_broken}
use Rattle.kt_meaning.specs.Fitness.{IsUnfit}
use Rattle.kt_certify.specs.PassOf.{KeepsFit, PassKeeps, PassOf, IsBroken, AreEntered, tells_rule}
use Rattle.kt_spacetime.specs.declared.unfit.Unfit.{Unfit}
use Rattle.kt_spacetime.specs.declared.unfit.Unfit.TheVariants.{BadLog, NoChain}
use Rattle.kt_certify.specs.declared.pass.Pass.{Pass}
use Rattle.kt_certify.proofs.Rows.{without_more}
use Rattle.kt_certify.proofs.Whole.{broken_more}

-- rows that are fit so far
pub fit_so_far : (pass : Pass) (rows : List Event) → PassOf pass rows → pass.unfit ≡ None → KeepsFit pass rows
fit_so_far pass rows h e = subst (PassKeeps pass rows) e h.keeps

-- rows that break no rule so far
pub legal_so_far : (pass : Pass) (rows : List Event) → PassOf pass rows → tells_rule pass.unfit ≡ false → WalkOf pass.walk rows
legal_so_far pass rows h = at pass.unfit h.keeps
  where
    at : (o : Option Unfit) → PassKeeps pass rows o → tells_rule o ≡ false → WalkOf pass.walk rows
    at None k e = k.walk
    at (Some (NoChain j r p)) k e = k
    at (Some (BadLog n rule)) k e = absurd (cc)

-- a member that lacks a chain still does
pub still_without : (pass : Pass) (rows : List Event) (row : Event) → PassOf pass rows → IsLegal rows → (pass.unfit ≡ None → ⊥) → AreEntered pass (rows ++ row ∷ []) pass.unfit
still_without pass rows row h legal some = at pass.unfit refl
  where
    at : (o : Option Unfit) → pass.unfit ≡ o → AreEntered pass (rows ++ row ∷ []) o
    at None e = absurd (some e)
    at (Some (NoChain j r p)) e = without_more rows row j r p (h.unfit (NoChain j r p) e).1
    at (Some (BadLog n rule)) e = no_broken rows n rule legal (h.unfit (BadLog n rule) e)

-- a broken rule stays the first
pub broken_still : (pass : Pass) (rows : List Event) (row : Event) → PassOf pass rows → tells_rule pass.unfit ≡ true → PassOf pass (rows ++ row ∷ [])
broken_still pass rows row h = at pass.unfit refl
  where
    at : (o : Option Unfit) → pass.unfit ≡ o → tells_rule o ≡ true → PassOf pass (rows ++ row ∷ [])
    at None is e = absurd (cc)
    at (Some (NoChain j r p)) is e = absurd (cc)
    at (Some (BadLog n rule)) is e = record {
      few = omega (arith, h.few, length-append rows (row ∷ []));
      keeps = subst (PassKeeps pass (rows ++ row ∷ [])) (sym is) tt;
      unfit = λ why there. subst (IsUnfit (rows ++ row ∷ [])) (some_same (sym is ∙ there)) (broken_more start rows (row ∷ []) (n, rule) (h.unfit (BadLog n rule) is));
    }

-- one more row that breaks no rule
pub legal_more : (pass : Pass) (rows : List Event) (unlinked : Option Unfit) → pass.unfit ≡ unlinked → WalkOf pass.walk rows → IsLegal rows → AreEntered pass rows unlinked → PassOf pass rows
legal_more pass rows unlinked e walk legal entered = record {
  few = omega (arith, walk.control.number);
  keeps = subst (PassKeeps pass rows) (sym e) (kept unlinked entered);
  unfit = λ why there. why_of unlinked entered why (sym e ∙ there);
}
  where
    kept : (o : Option Unfit) → AreEntered pass rows o → PassKeeps pass rows o
    kept None h = record { walk = walk; instances = h.0; chained = h.1 }
    kept (Some (NoChain j r p)) h = walk
    kept (Some (BadLog n rule)) h = absurd h

    why_of : (o : Option Unfit) → AreEntered pass rows o → (why : Unfit) → o ≡ Some why → IsUnfit rows why
    why_of None h why there = absurd (cc)
    why_of (Some (NoChain j r p)) h why there = subst (IsUnfit rows) (some_same there) (legal, h)
    why_of (Some (BadLog n rule)) h why there = absurd h

-- one more row that breaks a rule
pub broken_now : (pass : Pass) (rows : List Event) (why : Unfit) → pass.unfit ≡ Some why → pass.walk.rows ≤ length rows → IsBroken rows why → PassOf pass rows
broken_now pass rows (NoChain j r p) e few broken = absurd broken
broken_now pass rows (BadLog n rule) e few broken = record {
  few = few;
  keeps = subst (PassKeeps pass rows) (sym e) tt;
  unfit = λ why there. subst (IsUnfit rows) (some_same (sym e ∙ there)) broken;
}
