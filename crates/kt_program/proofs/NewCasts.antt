-- Casts of what is made for the kinds of a plan, and never refuses to be saved or brought back.
use Rattle.std.proofs.Common.{◌≡◌, ◌≤◌, ◌<◌, ◌⊎◌, ℕ, ℤ, zero, suc, List, [], ◌∷◌, length, map, All, subst, arith, inl, inr, slice_index_or}
use Rattle.std.specs.Prelude.{slice_index}
use Rattle.std.proofs.lemmas.Bool.{cases_lt}
use Rattle.std.proofs.lemmas.List.{get_or_past}
use Rattle.std.proofs.lemmas.List.Elements.{All-head, All-tail}
use Rattle.kt_object.specs.Bytes.{IsSavedState}
use Rattle.kt_plan.specs.declared.commands.Command.{Command}
use Rattle.kt_plan.specs.Limits.{IsKindOfObject}
use Rattle.kt_object.specs.Refusals.{IsFirstObject, IsLeastRefused}
use Rattle.kt_run.specs.Rejections.{MayReject}
use Rattle.kt_program.specs.CastRows.{IsMadeCast}
use Rattle.kt_program.proofs.Casting.{made_of_cast}

-- where none of them is so, the first of a process is not so
none_first : {R O : Type 0} (P : O → Type 0) (items : R → List O) (cast : List R) (p : ℕ) → All (λ row. All (λ o. ¬ P o) (items row)) cast → ¬ IsFirstObject P (map items cast) p
none_first P items [] p all first = let e = first.given in absurd (cc (e))
none_first P items (row ∷ cast) zero all first =
    let given = first.given in
    let same : items row ≡ first.object ∷ first.spares = cc (given) in
    All-head (λ o. ¬ P o) first.object first.spares (subst (All (λ o. ¬ P o)) same (All-head (λ row. All (λ o. ¬ P o) (items row)) row cast all)) first.so
none_first P items (row ∷ cast) (suc p) all first =
    none_first P items cast p (All-tail (λ row. All (λ o. ¬ P o) (items row)) row cast all) (record { object = first.object; spares = first.spares; given = first.given; so = first.so })

module _ {R O : Type 0} (cast : List R) (items : R → List O) (Made : ℕ → O → Type 0) (kinds : List ℕ) (commands : List Command) (proper : All IsKindOfObject kinds) (is : IsMadeCast Made kinds commands (map items cast)) where
  -- none refuses at first
  pub all_saved : (may_save may_refuse : O → Type 0) → ((k : ℕ) (o : O) → Made k o → ¬ may_refuse o) → (p : ℕ) → ¬ IsLeastRefused may_save may_refuse (map items cast) p
  all_saved may_save may_refuse able p least = none_first may_refuse items cast p
      (λ q row l i object m. let made = made_of_cast cast items Made kinds commands proper is q row l i object m in able made.kind _ made.made) least.refused

  -- none rejects a saved state of its kind
  pub all_taken : (may_reject : O → List ℕ → Type 0) → ((k : ℕ) (o : O) (value : List ℤ) (saved : List ℕ) → IsKindOfObject k → Made k o → IsSavedState k value saved → ¬ may_reject o saved)
      → (p : ℕ) → ¬ MayReject may_reject (slice_index kinds p) (slice_index_or (map items cast) p [])
  all_taken may_reject takes p r = go (cases_lt p (length kinds))
    where
      go : (p < length kinds) ⊎ (length kinds ≤ p) → ⊥
      go (inl l) =
          let made : Made (slice_index kinds p) r.rejected.1 = subst (Made (slice_index kinds p)) r.rejected.3 (is.made p l r.rejected.0 r.rejected.1 r.rejected.2) in
          takes (slice_index kinds p) r.rejected.1 r.value r.saved (proper p 0 l) made r.is r.rejected.4
      go (inr m) =
          let count = is.processes in
          let within = subst (λ (objects : List O). r.rejected.0 < length objects) (get_or_past (map items cast) p [] (omega (arith, m, count))) r.rejected.2 in
          absurd (omega (arith, within))

-- what is so neither at first nor later is no fault
pub neither : {A B : Type 0} → ¬ A → ¬ B → ¬ (A ⊎ B)
neither a b (inl x) = a x
neither a b (inr x) = b x
