-- Each list of a committed instance's certificate is a chain that leads from the initiator to its member.
use Rattle.std.proofs.Common.{◌≡◌, ℕ, zero, suc, ◌≤◌, ◌==◌, if◌then◌else◌, Bool, true, false, Option, Some, None, unwrap_or, List, [], ◌∷◌, ◌++◌, length, take, refl, sym, subst, arith, inl, inr}
use Rattle.std.specs.List.{slice_get}
use Rattle.std.proofs.lemmas.Bool.Decides.{nat_tests}
use Rattle.std.proofs.Math.Seq.{take-length}
use Rattle.kt_base.specs.declared.words.Kind.{Kind}
use Rattle.kt_base.specs.declared.words.Kind.TheVariants.{Checkpoint, Rollback}
use Rattle.kt_spacetime.specs.declared.event.Event.{Event}
use Rattle.kt_spacetime.specs.declared.event.Event.TheVariants.{Decided}
use Rattle.kt_meaning.specs.Past.{Past, Beginning, past, beginning_of}
use Rattle.kt_meaning.specs.Chains.{members, IsCheckpointChain, IsRollbackChain}
use Rattle.kt_meaning.proofs.Items.{item_there, get_push}
use Rattle.kt_meaning.specs.Passing.{IsChain}
use Rattle.kt_meaning.specs.Linking.{least_link, chain_through, chain_of, chained, AreChained}
use Rattle.kt_meaning.specs.Fitness.{HasNoChain}
use Rattle.kt_meaning.proofs.ChainLinks.{link_chain}
use Rattle.kt_meaning.proofs.Through.{through_is}
use Rattle.kt_meaning.proofs.Chained.{processes_are, chained_more}
use Rattle.kt_meaning.proofs.Unlinked.{without_chain}

leads_nowhere : (s : Past) (k : ℕ) (kind : Kind) (q p : ℕ) → q ≡ p → IsChain s k kind q [] p
leads_nowhere s k Checkpoint q p same = same
leads_nowhere s k Rollback q p same = same

leads_on : (s : Past) (k : ℕ) (kind : Kind) (q x y m : ℕ) (chain : List ℕ) → IsChain s k kind q chain x → IsChain s k kind x (m ∷ []) y → IsChain s k kind q (chain ++ m ∷ []) y
leads_on s k Checkpoint q x y m [] h step = subst (λ (z : ℕ). IsCheckpointChain s k z (m ∷ []) y) (sym h) step
leads_on s k Checkpoint q x y m (n ∷ chain) h step = (h.0, h.1, leads_on s k Checkpoint h.0 x y m chain h.2 step)
leads_on s k Rollback q x y m [] h step = subst (λ (z : ℕ). IsRollbackChain s z (m ∷ []) y) (sym h) step
leads_on s k Rollback q x y m (n ∷ chain) h step = (h.0, h.1, leads_on s k Rollback h.0 x y m chain h.2 step)

-- each of these members has a chain from the initiator
pub record AreLed (s : Past) (k : ℕ) (kind : Kind) (initiator : ℕ) (done : List (ℕ × List ℕ)) : Type 0 where
  pub each : (i p : ℕ) (chain : List ℕ) → slice_get done i ≡ Some (p, chain) → IsChain s k kind initiator chain p

led_next : (s : Past) (k : ℕ) (kind : Kind) (initiator : ℕ) (done : List (ℕ × List ℕ)) (p : ℕ) → (chain_of s k kind initiator done p ≡ None → ⊥) → AreLed s k kind initiator done
    → IsChain s k kind initiator (unwrap_or (chain_of s k kind initiator done p) []) p
led_next s k kind initiator done p some led = at_test (p == initiator) refl some
  where
    through : (o : Option (List ℕ)) → chain_through (least_link s k kind p) done ≡ o → (o ≡ None → ⊥) → IsChain s k kind initiator (unwrap_or o []) p
    through None e some = absurd (some refl)
    through (Some chain) e some =
        let t = through_is (least_link s k kind p) done chain e in
        let step = link_chain s k kind p t.member t.msg t.linked in
        subst (λ (l : List ℕ). IsChain s k kind initiator l p) t.made (leads_on s k kind initiator t.member p t.msg t.before (led.each t.place t.member t.before t.there) step)

    at_test : (b : Bool) → (p == initiator) ≡ b → ((if b then Some [] else chain_through (least_link s k kind p) done) ≡ None → ⊥) → IsChain s k kind initiator (unwrap_or (if b then Some [] else chain_through (least_link s k kind p) done) []) p
    at_test true e some =
        let same : initiator ≡ p = grind (arith, nat_tests, e) in
        leads_nowhere s k kind initiator p same
    at_test false e some = through (chain_through (least_link s k kind p) done) refl some

led_to : (rows : List Event) (k : ℕ) (kind : Kind) (initiator : ℕ) (joined : List ℕ) (n : ℕ) → n ≤ length joined → AreChained (past rows) k kind initiator joined → AreLed (past rows) k kind initiator (chained (past rows) k kind initiator (take n joined))
led_to rows k kind initiator joined zero low all = record { each = λ i p chain e. absurd (cc) }
led_to rows k kind initiator joined (suc n) low all = more (item_there joined n (omega (arith, low))) (led_to rows k kind initiator joined n (omega (arith, low)) all)
  where
    done : List (ℕ × List ℕ)
    done = chained (past rows) k kind initiator (take n joined)

    more : (x : ℕ) × (slice_get joined n ≡ Some x) → AreLed (past rows) k kind initiator done → AreLed (past rows) k kind initiator (chained (past rows) k kind initiator (take (suc n) joined))
    more (p, at) led = subst (AreLed (past rows) k kind initiator) (sym (chained_more rows k kind initiator joined n p at)) (record {
      each = λ i q chain e. elim (get_push done (p, unwrap_or (chain_of (past rows) k kind initiator done p) []) i (q, chain) e) [
        | inl old ↦ led.each i q chain old
        | inr new ↦ subst (λ (m : ℕ × List ℕ). IsChain (past rows) k kind initiator m.1 m.0) (sym new.1) (led_next (past rows) k kind initiator done p (all n p (omega (arith, low)) at) led)
      ];
    })

-- where no member of a committed instance lacks a chain, each has one
all_chained : (log : List Event) (n decider k : ℕ) (b : Beginning) → slice_get log n ≡ Some (Decided decider k true) → beginning_of (past (take n log)) k ≡ Some b → ((p : ℕ) → HasNoChain log k p → ⊥)
    → AreChained (past (take n log)) k b.kind b.initiator (members (take n log) k)
all_chained log n decider k b decided began never place p low member none =
    never p (without_chain log n decider k place p b (chained (past (take n log)) k b.kind b.initiator (take place (members (take n log) k))) decided began member
    (processes_are (past (take n log)) k b.kind b.initiator (take place (members (take n log) k))) none)

pub all_led : (log : List Event) (n decider k : ℕ) (b : Beginning) → slice_get log n ≡ Some (Decided decider k true) → beginning_of (past (take n log)) k ≡ Some b → ((p : ℕ) → HasNoChain log k p → ⊥)
    → AreLed (past (take n log)) k b.kind b.initiator (chained (past (take n log)) k b.kind b.initiator (members (take n log) k))
all_led log n decider k b decided began never =
    subst (λ (l : List ℕ). AreLed (past (take n log)) k b.kind b.initiator (chained (past (take n log)) k b.kind b.initiator l)) (take-length (members (take n log) k))
    (led_to (take n log) k b.kind b.initiator (members (take n log) k) (length (members (take n log) k)) (omega arith) (all_chained log n decider k b decided began never))
