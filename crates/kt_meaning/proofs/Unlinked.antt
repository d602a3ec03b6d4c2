-- Members that no message links with an earlier one.
use Rattle.std.proofs.Common.{◌≡◌, ◌≢◌, ℕ, ◌==◌, if◌then◌else◌, Bool, true, false, Option, Some, None, option_map, List, [], map, take, refl, sym, ap, ◌∙◌, arith}
use Rattle.std.specs.List.{slice_get}
use Rattle.std.proofs.lemmas.Bool.Decides.{nat_tests}
use Rattle.kt_base.specs.declared.words.Kind.{Kind}
use Rattle.kt_spacetime.specs.declared.event.Event.{Event}
use Rattle.kt_spacetime.specs.declared.event.Event.TheVariants.{Decided}
use Rattle.kt_meaning.specs.Past.{Past, Beginning, past, beginning_of, kind_of, initiator_of}
use Rattle.kt_meaning.specs.Chains.{members}
use Rattle.kt_meaning.proofs.Lists.{get_in_take}
use Rattle.kt_meaning.proofs.Items.{some_same}
use Rattle.kt_meaning.specs.Linking.{least_link, chain_through, chain_of}
use Rattle.kt_meaning.specs.Fitness.{HasNoChain}
use Rattle.kt_meaning.proofs.Links.{link_none}
use Rattle.kt_meaning.proofs.Through.{through_none}
use Rattle.kt_meaning.proofs.Chained.{process, mapped_there}

-- where a search finds no chain, a member has none
found_none : (s : Past) (k : ℕ) (kind : Kind) (initiator : ℕ) (done : List (ℕ × List ℕ)) (p : ℕ) → chain_of s k kind initiator done p ≡ None → (p ≢ initiator) × (chain_through (least_link s k kind p) done ≡ None)
found_none s k kind initiator done p e = at_test (p == initiator) refl e
  where
    differs : (p == initiator) ≡ false → p ≢ initiator
    differs t = grind (arith, nat_tests, t)

    at_test : (b : Bool) → (p == initiator) ≡ b → (if b then Some [] else chain_through (least_link s k kind p) done) ≡ None → (p ≢ initiator) × (chain_through (least_link s k kind p) done ≡ None)
    at_test true t e = absurd (cc)
    at_test false t e = (differs t, e)

pub kind_known : (s : Past) (k : ℕ) (b : Beginning) → beginning_of s k ≡ Some b → kind_of s k ≡ Some b.kind
kind_known s k b e = ap (λ (o : Option Beginning). option_map (λ (x : Beginning). x.kind) o) e

pub initiator_known : (s : Past) (k : ℕ) (b : Beginning) → beginning_of s k ≡ Some b → initiator_of s k ≡ Some b.initiator
initiator_known s k b e = ap (λ (o : Option Beginning). option_map (λ (x : Beginning). x.initiator) o) e

-- the row is that of the decision, and the place that of the member
pub lacks_at : (log : List Event) (n decider k place p : ℕ) (b : Beginning) (done : List (ℕ × List ℕ)) → slice_get log n ≡ Some (Decided decider k true) → beginning_of (past (take n log)) k ≡ Some b
    → slice_get (members (take n log) k) place ≡ Some p → map process done ≡ take place (members (take n log) k)
    → chain_of (past (take n log)) k b.kind b.initiator done p ≡ None → (h : HasNoChain log k p) × (h.row ≡ n) × (h.place ≡ place)
lacks_at log n decider k place p b done decided began member same none =
    let h = found_none (past (take n log)) k b.kind b.initiator done p none in
    let lacks : HasNoChain log k p = record {
      row = n;
      decider = decider;
      decided = decided;
      kind = b.kind;
      of_kind = kind_known (past (take n log)) k b began;
      place = place;
      member = member;
      other = λ e. h.0 (sym (some_same (sym (initiator_known (past (take n log)) k b began) ∙ e)));
      unlinked = λ earlier q msg low at.
          let listed : slice_get (map process done) earlier ≡ Some q = ap (λ (l : List ℕ). slice_get l earlier) same ∙ (get_in_take place (members (take n log) k) earlier q at low) in
          let item = mapped_there done earlier q listed in
          link_none (take n log) k b.kind p q (through_none (least_link (past (take n log)) k b.kind p) done h.1 earlier q item.0 item.1) msg;
    } in
    (lacks, refl, refl)

pub without_chain : (log : List Event) (n decider k place p : ℕ) (b : Beginning) (done : List (ℕ × List ℕ)) → slice_get log n ≡ Some (Decided decider k true) → beginning_of (past (take n log)) k ≡ Some b
    → slice_get (members (take n log) k) place ≡ Some p → map process done ≡ take place (members (take n log) k)
    → chain_of (past (take n log)) k b.kind b.initiator done p ≡ None → HasNoChain log k p
without_chain log n decider k place p b done decided began member same none = (lacks_at log n decider k place p b done decided began member same none).0
