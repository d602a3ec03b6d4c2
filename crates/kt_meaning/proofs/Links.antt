-- The least message that links two processes.
use Rattle.std.proofs.Common.{◌≡◌, ℕ, ◌+◌, ◌≤◌, Bool, true, false, Some, None, List, drop, refl, sym, ◌∙◌, ◌≢◌, ◌==◌, arith}
use Rattle.std.specs.Prelude.{is_some, ◌&&◌}
use Rattle.std.proofs.lemmas.Bool.{and_parts}
use Rattle.kt_base.specs.declared.words.Kind.{Kind}
use Rattle.kt_base.specs.declared.words.Kind.TheVariants.{Checkpoint, Rollback}
use Rattle.kt_spacetime.specs.declared.event.Event.{Event}
use Rattle.kt_spacetime.specs.declared.deeds.Deed.TheVariants as deed
use Rattle.kt_meaning.specs.Past.{Past, past}
use Rattle.kt_meaning.specs.Legal.{has_deed}
use Rattle.kt_meaning.specs.Chains.{is_sent_past, is_received_within}
use Rattle.kt_meaning.proofs.Lists.{get_drop, deed_place}
use Rattle.kt_meaning.proofs.Places.{sent_places}
use Rattle.kt_meaning.specs.Linking.{links, least_link}
use Rattle.kt_meaning.proofs.Search.{least_is, least_none}
use Rattle.std.proofs.lemmas.Bool.Decides.{nat_tests}

-- a message that is sent past a permanent position has the number of a row
sent_numbered : (log : List Event) (p q msg : ℕ) → is_sent_past (past log) p q msg ≡ true → (1 ≤ msg) × (msg ≤ (past log).rows)
sent_numbered log p q msg e =
    let place = deed_place (deed.Sent msg q) (drop ((past log).permanent p) ((past log).live p)) e in
    let there = get_drop ((past log).permanent p) ((past log).live p) place.0 (deed.Sent msg q) place.1 in
    (sent_places log).within p ((past log).permanent p + place.0) msg q there

-- so has one that links two processes
pub link_numbered : (log : List Event) (k : ℕ) (kind : Kind) (p q msg : ℕ) → links (past log) k kind p q msg ≡ true → (1 ≤ msg) × (msg ≤ (past log).rows)
link_numbered log k Checkpoint p q msg e =
    sent_numbered log p q msg (and_parts (is_sent_past (past log) p q msg) (is_some ((past log).new k q) && is_received_within (past log) k q p msg) e).0
link_numbered log k Rollback p q msg e =
    sent_numbered log q p msg (and_parts (is_sent_past (past log) q p msg) (has_deed (deed.Received msg q) ((past log).live p)) e).0

-- what is found links, and where nothing is found nothing links
pub link_passes : (s : Past) (k : ℕ) (kind : Kind) (p q msg : ℕ) → least_link s k kind p q ≡ Some msg → links s k kind p q msg ≡ true
link_passes s k kind p q msg e = (least_is (links s k kind p q) s.rows msg e).passes

pub link_none : (log : List Event) (k : ℕ) (kind : Kind) (p q : ℕ) → least_link (past log) k kind p q ≡ None → (msg : ℕ) → links (past log) k kind p q msg ≡ false
link_none log k kind p q e msg = at_test (links (past log) k kind p q msg) refl
  where
    clash : false ≡ true → ⊥
    clash x = cc

    at_test : (b : Bool) → links (past log) k kind p q msg ≡ b → links (past log) k kind p q msg ≡ false
    at_test false t = t
    at_test true t =
        let number = link_numbered log k kind p q msg t in
        absurd (clash (sym (least_none (links (past log) k kind p q) (past log).rows e msg number.0 number.1) ∙ t))

pub same_is : (a b : ℕ) → a ≡ b → (a == b) ≡ true
same_is a b e = grind (arith, nat_tests, e)

pub other_from : (a b : ℕ) → false ≡ (a == b) → a ≢ b
other_from a b e = λ same. absurd (clash (e ∙ same_is a b same))
  where
    clash : false ≡ true → ⊥
    clash x = cc
