-- Where no member of a committed instance lacks a chain, each list is one that its member has to have.
use Rattle.std.proofs.Common.{◌≡◌, ℕ, true, Some, List, [], take}
use Rattle.std.specs.List.{slice_get}
use Rattle.kt_base.specs.declared.words.Kind.{Kind}
use Rattle.kt_spacetime.specs.declared.event.Event.{Event}
use Rattle.kt_spacetime.specs.declared.event.Event.TheVariants.{Decided}
use Rattle.kt_meaning.specs.Past.{Past, Beginning, past, beginning_of}
use Rattle.kt_meaning.specs.Chains.{members}
use Rattle.kt_meaning.specs.Passing.{IsListOf}
use Rattle.kt_meaning.specs.Linking.{chained}
use Rattle.kt_meaning.specs.Fitness.{HasNoChain}
use Rattle.kt_meaning.proofs.Leading.{all_led}
use Rattle.kt_meaning.specs.Making.{IsMadeOf, begins, follows, unlinked}
use Rattle.kt_meaning.proofs.MadeLists.{made}

empty_of : (s : Past) (k : ℕ) (kind : Kind) (initiator : ℕ) (earlier : List (ℕ × List ℕ)) (p : ℕ) (chain : List ℕ) → IsMadeOf s k kind initiator earlier p chain → p ≡ initiator → chain ≡ []
empty_of s k kind initiator earlier p chain (begins same none) first = none
empty_of s k kind initiator earlier p chain (follows other through) first = absurd (other first)
empty_of s k kind initiator earlier p chain (unlinked other none never) first = none

-- each of these lists is one of its member
pub record AreLists (s : Past) (k : ℕ) (kind : Kind) (initiator : ℕ) (done : List (ℕ × List ℕ)) : Type 0 where
  pub each : (i p : ℕ) (chain : List ℕ) → slice_get done i ≡ Some (p, chain) → IsListOf s k kind initiator p chain

pub led_lists : (log : List Event) (n decider k : ℕ) (b : Beginning) → slice_get log n ≡ Some (Decided decider k true) → beginning_of (past (take n log)) k ≡ Some b → ((p : ℕ) → HasNoChain log k p → ⊥)
    → AreLists (past (take n log)) k b.kind b.initiator (chained (past (take n log)) k b.kind b.initiator (members (take n log) k))
led_lists log n decider k b decided began never = record {
  each = λ i p chain e. record {
    none = empty_of (past (take n log)) k b.kind b.initiator (take i (chained (past (take n log)) k b.kind b.initiator (members (take n log) k))) p chain
        ((made (take n log) k b.kind b.initiator (members (take n log) k)).each i p chain e);
    leads = λ other. (all_led log n decider k b decided began never).each i p chain e;
  };
}
