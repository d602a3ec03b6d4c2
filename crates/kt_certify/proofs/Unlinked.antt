-- The members that no message links with an earlier one are those without a chain.
use Rattle.std.proofs.Common.{◌≡◌, ◌≢◌, ℕ, ◌==◌, if◌then◌else◌, ◌<◌, Bool, true, false, Option, Some, None, List, [], map, take, refl, sym, ap, ◌∙◌, arith}
use Rattle.std.specs.List.{slice_get}
use Rattle.std.proofs.lemmas.Bool.Decides.{nat_tests}
use Rattle.kt_base.specs.declared.words.Kind.{Kind}
use Rattle.kt_meaning.specs.Past.{Past}
use Rattle.kt_meaning.proofs.Items.{get_take, in_take}
use Rattle.kt_walk.proofs.ItemPlaces.{mapped_get}
use Rattle.kt_meaning.specs.Linking.{least_link, chain_through, chained, AreChainedTo}
use Rattle.kt_meaning.specs.Fitness.{IsUnlinked}
use Rattle.kt_meaning.proofs.Links.{link_passes}
use Rattle.kt_meaning.proofs.Through.{IsThrough, through_is}
use Rattle.kt_meaning.proofs.Chained.{process, processes_are}

not_same : (p i : ℕ) → p ≢ i → (p == i) ≡ false
not_same p i other = grind (arith, nat_tests, other)

-- where the first processes have their chains, each of them but the initiator is linked with an earlier one
pub never_unlinked : (n : ℕ) (s : Past) (k : ℕ) (kind : Kind) (initiator : ℕ) (joined : List ℕ) (place p : ℕ) → AreChainedTo n s k kind initiator joined → place < n → slice_get joined place ≡ Some p → p ≢ initiator → IsUnlinked s k kind joined place p → ⊥
never_unlinked n s k kind initiator joined place p all low at other lacks = from (chain_through (least_link s k kind p) before) refl
  where
    clash : false ≡ true → ⊥
    clash x = cc

    before : List (ℕ × List ℕ)
    before = chained s k kind initiator (take place joined)

    listed : map process before ≡ take place joined
    listed = processes_are s k kind initiator (take place joined)

    from : (o : Option (List ℕ)) → chain_through (least_link s k kind p) before ≡ o → ⊥
    from (Some chain) f =
        let t : IsThrough (least_link s k kind p) before chain = through_is (least_link s k kind p) before chain f in
        let there : slice_get (take place joined) t.place ≡ Some t.member = sym (ap (λ (l : List ℕ). slice_get l t.place) listed) ∙ mapped_get process before t.place (t.member, t.before) t.there in
        clash (sym (lacks t.place t.member t.msg (in_take place joined t.place t.member there) (get_take place joined t.place t.member there)) ∙ link_passes s k kind p t.member t.msg t.linked)
    from None f = all place p low at (ap (λ (t : Bool). if t then Some [] else chain_through (least_link s k kind p) before) (not_same p initiator other) ∙ f)
