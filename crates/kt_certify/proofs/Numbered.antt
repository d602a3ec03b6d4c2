-- The messages of a chain have the numbers of rows.
use Rattle.std.proofs.Common.{◌≡◌, ℕ, ◌==◌, if◌then◌else◌, ◌≤◌, Bool, true, false, Option, Some, None, unwrap_or, List, [], ◌∷◌, ◌++◌, refl, ap, subst, ◌∙◌, sym, inl, inr}
use Rattle.std.specs.Prelude.{fold}
use Rattle.std.specs.List.{slice_get}
use Rattle.kt_base.specs.declared.words.Kind.{Kind}
use Rattle.kt_spacetime.specs.declared.event.Event.{Event}
use Rattle.kt_meaning.specs.Past.{past}
use Rattle.kt_meaning.proofs.Items.{get_push}
use Rattle.kt_meaning.specs.Linking.{least_link, chain_through, chain_of, with_member, chained}
use Rattle.kt_meaning.proofs.Links.{link_passes, link_numbered}
use Rattle.kt_meaning.proofs.Through.{IsThrough, through_is}

-- each message of a chain is one of so many rows
pub record HasNumbers (rows : ℕ) (chain : List ℕ) : Type 0 where
  pub each : (j m : ℕ) → slice_get chain j ≡ Some m → (1 ≤ m) × (m ≤ rows)

pub record AllHaveNumbers (rows : ℕ) (done : List (ℕ × List ℕ)) : Type 0 where
  pub each : (i p : ℕ) (chain : List ℕ) → slice_get done i ≡ Some (p, chain) → HasNumbers rows chain

module _ (log : List Event) (k : ℕ) (kind : Kind) (initiator : ℕ) where
  no_message : HasNumbers (past log).rows []
  no_message = record { each = λ j m e. absurd (cc) }

  in_chain : (done : List (ℕ × List ℕ)) (p : ℕ) → AllHaveNumbers (past log).rows done → (b : Bool)
      → HasNumbers (past log).rows (unwrap_or (if b then Some [] else chain_through (least_link (past log) k kind p) done) [])
  in_chain done p h true = no_message
  in_chain done p h false = from (chain_through (least_link (past log) k kind p) done) refl
    where
      through : (chain : List ℕ) → IsThrough (least_link (past log) k kind p) done chain → HasNumbers (past log).rows chain
      through chain t = record {
        each = λ j m e. elim (get_push t.before t.msg j m (ap (λ (l : List ℕ). slice_get l j) t.made ∙ e)) [
          | inl old ↦ (h.each t.place t.member t.before t.there).each j m old
          | inr new ↦ subst (λ (x : ℕ). (1 ≤ x) × (x ≤ (past log).rows)) (sym new.1) (link_numbered log k kind p t.member t.msg (link_passes (past log) k kind p t.member t.msg t.linked))
        ];
      }

      from : (o : Option (List ℕ)) → chain_through (least_link (past log) k kind p) done ≡ o → HasNumbers (past log).rows (unwrap_or o [])
      from None e = no_message
      from (Some chain) e = through chain (through_is (least_link (past log) k kind p) done chain e)

  in_all : (done : List (ℕ × List ℕ)) (rest : List ℕ) → AllHaveNumbers (past log).rows done → AllHaveNumbers (past log).rows (fold (with_member (past log) k kind initiator) done rest)
  in_all done [] h = h
  in_all done (p ∷ rest) h = in_all (done ++ item ∷ []) rest (record {
    each = λ i q chain e. elim (get_push done item i (q, chain) e) [
      | inl old ↦ h.each i q chain old
      | inr new ↦ subst (λ (m : ℕ × List ℕ). HasNumbers (past log).rows m.1) (sym new.1) (in_chain done p h (p == initiator))
    ];
  })
    where
      item : ℕ × List ℕ
      item = (p, unwrap_or (chain_of (past log) k kind initiator done p) [])

  pub numbered : (joined : List ℕ) → AllHaveNumbers (past log).rows (chained (past log) k kind initiator joined)
  numbered joined = in_all [] joined (record { each = λ i p chain e. absurd (cc) })
