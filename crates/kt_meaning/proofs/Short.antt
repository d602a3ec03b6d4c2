-- The chain of a member at a place has at most as many messages as there are members before it.
use Rattle.std.proofs.Common.{◌≡◌, ℕ, ◌==◌, if◌then◌else◌, ◌≤◌, Bool, true, false, Option, Some, None, unwrap_or, List, [], ◌∷◌, ◌++◌, length, refl, sym, subst, arith, inl, inr}
use Rattle.std.specs.Prelude.{fold}
use Rattle.std.specs.List.{slice_get}
use Rattle.std.proofs.lemmas.Option.{slice_get_within}
use Rattle.kt_base.specs.declared.words.Kind.{Kind}
use Rattle.kt_meaning.specs.Past.{Past}
use Rattle.kt_meaning.proofs.Items.{get_push}
use Rattle.kt_meaning.specs.Linking.{least_link, chain_through, chain_of, with_member, chained}
use Rattle.kt_meaning.proofs.Through.{through_is, through_longer}

pub record AreShort (done : List (ℕ × List ℕ)) : Type 0 where
  pub each : (i p : ℕ) (chain : List ℕ) → slice_get done i ≡ Some (p, chain) → length chain ≤ i

short_chain : (link : ℕ → Option ℕ) (done : List (ℕ × List ℕ)) → AreShort done → (b : Bool) → length (unwrap_or (if b then Some [] else chain_through link done) []) ≤ length done
short_chain link done h true = omega arith
short_chain link done h false = from (chain_through link done) refl
  where
    from : (o : Option (List ℕ)) → chain_through link done ≡ o → length (unwrap_or o []) ≤ length done
    from None e = omega arith
    from (Some chain) e =
        let t = through_is link done chain e in
        let longer = through_longer link done chain t in
        let low = h.each t.place t.member t.before t.there in
        let within = slice_get_within done t.place (t.member, t.before) t.there in
        omega (arith, longer, low, within)

short_from : (s : Past) (k : ℕ) (kind : Kind) (initiator : ℕ) (done : List (ℕ × List ℕ)) (rest : List ℕ) → AreShort done → AreShort (fold (with_member s k kind initiator) done rest)
short_from s k kind initiator done [] h = h
short_from s k kind initiator done (p ∷ rest) h = short_from s k kind initiator (done ++ item ∷ []) rest (record {
  each = λ i q chain e. elim (get_push done item i (q, chain) e) [
    | inl old ↦ h.each i q chain old
    | inr new ↦ subst (λ (m : ℕ × List ℕ). length m.1 ≤ i) (sym new.1) (subst (λ (n : ℕ). length item.1 ≤ n) (sym new.0) (short_chain (least_link s k kind p) done h (p == initiator)))
  ];
})
  where
    item : ℕ × List ℕ
    item = (p, unwrap_or (chain_of s k kind initiator done p) [])

pub short : (s : Past) (k : ℕ) (kind : Kind) (initiator : ℕ) (joined : List ℕ) → AreShort (chained s k kind initiator joined)
short s k kind initiator joined = short_from s k kind initiator [] joined (record { each = λ i p chain e. absurd (cc) })
