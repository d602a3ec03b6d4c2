-- The members of an instance with their chains, one after the other.
use Rattle.std.proofs.Common.{◌≡◌, ℕ, suc, ◌<◌, ◌+◌, Option, Some, None, option_map, unwrap_or, List, [], ◌∷◌, ◌++◌, map, take, sym, ap, subst, ◌∙◌, arith, append_assoc, inl, inr}
use Rattle.std.specs.Prelude.{fold}
use Rattle.std.specs.List.{slice_get}
use Rattle.std.proofs.lemmas.Grind.{fold-append}
use Rattle.std.proofs.lemmas.List.{append-nil, map-append, length-map}
use Rattle.std.proofs.lemmas.Option.{slice_get_within, slice_get-map}
use Rattle.std.proofs.lemmas.Bool.{cases_eq}
use Rattle.kt_base.specs.declared.words.Kind.{Kind}
use Rattle.kt_spacetime.specs.declared.event.Event.{Event}
use Rattle.kt_meaning.specs.Past.{Past, past}
use Rattle.kt_meaning.proofs.Items.{item_there, take_item, some_same}
use Rattle.kt_meaning.specs.Linking.{chain_of, with_member, chained, AreChainedTo}

abbrev pub process : ℕ × List ℕ → ℕ
process m = m.0

-- the processes are those of the list, in its order
pub processes_from : (s : Past) (k : ℕ) (kind : Kind) (initiator : ℕ) (done : List (ℕ × List ℕ)) (rest : List ℕ) → map process (fold (with_member s k kind initiator) done rest) ≡ map process done ++ rest
processes_from s k kind initiator done [] = sym (append-nil (map process done))
processes_from s k kind initiator done (p ∷ rest) =
    let item : ℕ × List ℕ = (p, unwrap_or (chain_of s k kind initiator done p) []) in
    processes_from s k kind initiator (done ++ item ∷ []) rest
    ∙ (ap (λ (l : List ℕ). l ++ rest) (map-append process done (item ∷ [])) ∙ append_assoc (map process done) (p ∷ []) rest)

pub processes_are : (s : Past) (k : ℕ) (kind : Kind) (initiator : ℕ) (joined : List ℕ) → map process (chained s k kind initiator joined) ≡ joined
processes_are s k kind initiator joined = processes_from s k kind initiator [] joined

-- a member and its list
pub mapped_there : (ms : List (ℕ × List ℕ)) (i q : ℕ) → slice_get (map process ms) i ≡ Some q → (c : List ℕ) × (slice_get ms i ≡ Some (q, c))
mapped_there ms i q e =
    let low = slice_get_within (map process ms) i q e in
    let item = item_there ms i (subst (λ (n : ℕ). i < n) (length-map ms process) low) in
    let same : item.0.0 ≡ q = some_same (sym (slice_get-map process ms i ∙ ap (option_map process) item.1) ∙ e) in
    (item.0.1, item.1 ∙ ap (λ (x : ℕ). Some (x, item.0.1)) same)

-- one more member
pub chained_more : (rows : List Event) (k : ℕ) (kind : Kind) (initiator : ℕ) (joined : List ℕ) (n p : ℕ) → slice_get joined n ≡ Some p
    → chained (past rows) k kind initiator (take (suc n) joined) ≡ with_member (past rows) k kind initiator (chained (past rows) k kind initiator (take n joined)) p
chained_more rows k kind initiator joined n p e =
    let number : suc n ≡ n + 1 = omega arith in
    ap (chained (past rows) k kind initiator) (take_item joined n (suc n) p number e) ∙ fold-append (with_member (past rows) k kind initiator) [] (take n joined) (p ∷ [])

pub one_more : (rows : List Event) (k : ℕ) (kind : Kind) (initiator : ℕ) (joined : List ℕ) (i p : ℕ) (members listed more : List (ℕ × List ℕ)) (o : Option (List ℕ)) (chain : List ℕ) → slice_get joined i ≡ Some p
    → members ≡ chained (past rows) k kind initiator (take i joined) → listed ≡ members → o ≡ chain_of (past rows) k kind initiator listed p → o ≡ Some chain → more ≡ members ++ (p, chain) ∷ []
    → more ≡ chained (past rows) k kind initiator (take (i + 1) joined)
one_more rows k kind initiator joined i p members listed more o chain at so_far same found is made =
    let here : chain_of (past rows) k kind initiator (chained (past rows) k kind initiator (take i joined)) p ≡ Some chain =
    ap (λ (l : List (ℕ × List ℕ)). chain_of (past rows) k kind initiator l p) (sym (same ∙ so_far)) ∙ (sym found ∙ is) in
    let number : suc i ≡ i + 1 = omega arith in
    made
    ∙ ((λ j. so_far j ++ (p, unwrap_or (sym here j) []) ∷ [])
    ∙ (sym (chained_more rows k kind initiator joined i p at) ∙ ap (λ (x : ℕ). chained (past rows) k kind initiator (take x joined)) number))

pub all_more : (rows : List Event) (k : ℕ) (kind : Kind) (initiator : ℕ) (joined : List ℕ) (i p : ℕ) (members listed : List (ℕ × List ℕ)) (o : Option (List ℕ)) (chain : List ℕ) → slice_get joined i ≡ Some p
    → members ≡ chained (past rows) k kind initiator (take i joined) → listed ≡ members → o ≡ chain_of (past rows) k kind initiator listed p → o ≡ Some chain
    → AreChainedTo i (past rows) k kind initiator joined → AreChainedTo (i + 1) (past rows) k kind initiator joined
all_more rows k kind initiator joined i p members listed o chain at so_far same found is all place q low e none = elim (cases_eq place i) [
  | inl here ↦
      let other : q ≡ p = some_same (sym e ∙ (ap (slice_get joined) here ∙ at)) in
      let there : chain_of (past rows) k kind initiator (chained (past rows) k kind initiator (take i joined)) p ≡ Some chain =
      ap (λ (l : List (ℕ × List ℕ)). chain_of (past rows) k kind initiator l p) (sym (same ∙ so_far)) ∙ (sym found ∙ is) in
      clash (sym none ∙ ((λ j. chain_of (past rows) k kind initiator (chained (past rows) k kind initiator (take (here j) joined)) (other j)) ∙ there))
  | inr before ↦ all place q (omega (arith, low, before)) e none
]
  where
    clash : None ≡ Some chain → ⊥
    clash x = cc
