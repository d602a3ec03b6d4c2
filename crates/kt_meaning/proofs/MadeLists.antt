-- The chain of each member is made of those of the members before it.
use Rattle.std.proofs.Common.{◌≡◌, ◌≢◌, ℕ, ◌==◌, if◌then◌else◌, ◌≤◌, Bool, true, false, Option, Some, None, unwrap_or, List, [], ◌∷◌, ◌++◌, length, take, refl, sym, ap, subst, ◌∙◌, arith, inl, inr}
use Rattle.std.specs.Prelude.{fold}
use Rattle.std.specs.List.{slice_get}
use Rattle.std.proofs.lemmas.Bool.Decides.{nat_tests}
use Rattle.std.proofs.lemmas.Option.{slice_get_within}
use Rattle.std.proofs.Math.Seq.{take-append_seam}
use Rattle.std.proofs.lemmas.List.{take-append-le}
use Rattle.kt_base.specs.declared.words.Kind.{Kind}
use Rattle.kt_spacetime.specs.declared.event.Event.{Event}
use Rattle.kt_meaning.specs.Past.{Past, past}
use Rattle.kt_meaning.proofs.Items.{get_push}
use Rattle.kt_meaning.proofs.Links.{other_from, link_numbered}
use Rattle.kt_meaning.specs.Linking.{links, least_link, chain_through, chain_of, with_member, chained}
use Rattle.kt_meaning.specs.Making.{IsMadeOf, begins, follows, unlinked, FollowsFirst}
use Rattle.kt_meaning.proofs.Search.{least_is}
use Rattle.kt_meaning.proofs.ChainLinks.{link_chain, no_chain, not_linked, chain_links}
use Rattle.kt_meaning.proofs.Through.{IsThrough, through_is, through_none}

follows_through : (log : List Event) (k : ℕ) (kind : Kind) (earlier : List (ℕ × List ℕ)) (p : ℕ) (chain : List ℕ) → IsThrough (least_link (past log) k kind p) earlier chain → FollowsFirst (past log) k kind earlier p chain
follows_through log k kind earlier p chain t = record {
  place = t.place;
  member = t.member;
  its_chain = t.before;
  there = t.there;
  msg = t.msg;
  made = sym t.made;
  links = link_chain (past log) k kind p t.member t.msg t.linked;
  first = λ i q m c low e h. no_chain log k kind p q (t.first i q c low e) m h;
  least = λ m low h.
      let number = link_numbered log k kind p t.member m (chain_links (past log) k kind p t.member m h) in
      not_linked (past log) k kind p t.member m ((least_is (links (past log) k kind p t.member) (past log).rows t.msg t.linked).first m number.0 low) h;
}

made_here : (log : List Event) (k : ℕ) (kind : Kind) (initiator : ℕ) (earlier : List (ℕ × List ℕ)) (p : ℕ) → IsMadeOf (past log) k kind initiator earlier p (unwrap_or (chain_of (past log) k kind initiator earlier p) [])
made_here log k kind initiator earlier p = at_test (p == initiator) refl
  where
    through : p ≢ initiator → (o : Option (List ℕ)) → chain_through (least_link (past log) k kind p) earlier ≡ o → IsMadeOf (past log) k kind initiator earlier p (unwrap_or o [])
    through other None e = unlinked other refl (λ place q msg c at h. no_chain log k kind p q (through_none (least_link (past log) k kind p) earlier e place q c at) msg h)
    through other (Some chain) e = follows other (follows_through log k kind earlier p chain (through_is (least_link (past log) k kind p) earlier chain e))

    at_test : (b : Bool) → (p == initiator) ≡ b → IsMadeOf (past log) k kind initiator earlier p (unwrap_or (if b then Some [] else chain_through (least_link (past log) k kind p) earlier) [])
    at_test true e =
        let same : p ≡ initiator = grind (arith, nat_tests, e) in
        begins same refl
    at_test false e = through (other_from p initiator (sym e)) (chain_through (least_link (past log) k kind p) earlier) refl

-- the chain of each is made of those of the members before it
pub record AreMade (s : Past) (k : ℕ) (kind : Kind) (initiator : ℕ) (done : List (ℕ × List ℕ)) : Type 0 where
  pub each : (i p : ℕ) (chain : List ℕ) → slice_get done i ≡ Some (p, chain) → IsMadeOf s k kind initiator (take i done) p chain

made_next : (log : List Event) (k : ℕ) (kind : Kind) (initiator : ℕ) (done : List (ℕ × List ℕ)) (p : ℕ) → AreMade (past log) k kind initiator done → AreMade (past log) k kind initiator (with_member (past log) k kind initiator done p)
made_next log k kind initiator done p h = record {
  each = λ i q chain e. elim (get_push done item i (q, chain) e) [
    | inl old ↦ subst (λ (l : List (ℕ × List ℕ)). IsMadeOf (past log) k kind initiator l q chain) (sym (take-append-le i done (item ∷ []) (within i (q, chain) old))) (h.each i q chain old)
    | inr new ↦ subst (λ (m : ℕ × List ℕ). IsMadeOf (past log) k kind initiator (take i (done ++ item ∷ [])) m.0 m.1) (sym new.1)
        (subst (λ (l : List (ℕ × List ℕ)). IsMadeOf (past log) k kind initiator l item.0 item.1) (sym (whole i new.0)) (made_here log k kind initiator done p))
  ];
}
  where
    item : ℕ × List ℕ
    item = (p, unwrap_or (chain_of (past log) k kind initiator done p) [])

    within : (i : ℕ) (m : ℕ × List ℕ) → slice_get done i ≡ Some m → i ≤ length done
    within i m e = omega (arith, slice_get_within done i m e)

    whole : (i : ℕ) → i ≡ length done → take i (done ++ item ∷ []) ≡ done
    whole i e = ap (λ (n : ℕ). take n (done ++ item ∷ [])) e ∙ take-append_seam done (item ∷ [])

made_from : (log : List Event) (k : ℕ) (kind : Kind) (initiator : ℕ) (done : List (ℕ × List ℕ)) (rest : List ℕ) → AreMade (past log) k kind initiator done → AreMade (past log) k kind initiator (fold (with_member (past log) k kind initiator) done rest)
made_from log k kind initiator done [] h = h
made_from log k kind initiator done (p ∷ rest) h = made_from log k kind initiator (with_member (past log) k kind initiator done p) rest (made_next log k kind initiator done p h)

pub made : (log : List Event) (k : ℕ) (kind : Kind) (initiator : ℕ) (joined : List ℕ) → AreMade (past log) k kind initiator (chained (past log) k kind initiator joined)
made log k kind initiator joined = made_from log k kind initiator [] joined (record { each = λ i p chain e. absurd (cc) })
