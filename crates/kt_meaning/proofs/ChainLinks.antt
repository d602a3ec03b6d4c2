-- A message that links two processes is a chain of one message.
use Rattle.std.proofs.Common.{◌≡◌, ℕ, Bool, true, false, Some, None, List, [], ◌∷◌, refl, sym, subst, ◌∙◌}
use Rattle.std.specs.Prelude.{is_some, ◌&&◌}
use Rattle.std.proofs.lemmas.Bool.{and_parts}
use Rattle.kt_base.specs.declared.words.Kind.{Kind}
use Rattle.kt_base.specs.declared.words.Kind.TheVariants.{Checkpoint, Rollback}
use Rattle.kt_spacetime.specs.declared.event.Event.{Event}
use Rattle.kt_spacetime.specs.declared.deeds.Deed.TheVariants as deed
use Rattle.kt_meaning.specs.Past.{Past, past}
use Rattle.kt_meaning.specs.Legal.{has_deed}
use Rattle.kt_meaning.specs.Chains.{is_sent_past, is_received_within}
use Rattle.kt_meaning.specs.Passing.{IsChain}
use Rattle.kt_meaning.specs.Linking.{links, least_link}
use Rattle.kt_meaning.proofs.Links.{link_passes, link_none}

pub links_chain : (s : Past) (k : ℕ) (kind : Kind) (p q msg : ℕ) → links s k kind p q msg ≡ true → IsChain s k kind q (msg ∷ []) p
links_chain s k Checkpoint p q msg e =
    let a = and_parts (is_sent_past s p q msg) (is_some (s.new k q) && is_received_within s k q p msg) e in
    let b = and_parts (is_some (s.new k q)) (is_received_within s k q p msg) a.1 in
    (p, record { sent = a.0; member = b.0; received = b.1 }, refl)
links_chain s k Rollback p q msg e =
    let a = and_parts (is_sent_past s q p msg) (has_deed (deed.Received msg q) (s.live p)) e in
    (p, record { sent = a.0; received = a.1 }, refl)

both : (a b : Bool) → a ≡ true → b ≡ true → (a && b) ≡ true
both true b e f = f
both false b e f = absurd (cc)

pub chain_links : (s : Past) (k : ℕ) (kind : Kind) (p q msg : ℕ) → IsChain s k kind q (msg ∷ []) p → links s k kind p q msg ≡ true
chain_links s k Checkpoint p q msg h =
    subst (λ (x : ℕ). links s k Checkpoint x q msg ≡ true) h.2 (both (is_sent_past s h.0 q msg) _ h.1.sent (both (is_some (s.new k q)) (is_received_within s k q h.0 msg) h.1.member h.1.received))
chain_links s k Rollback p q msg h =
    subst (λ (x : ℕ). links s k Rollback x q msg ≡ true) h.2 (both (is_sent_past s q h.0 msg) (has_deed (deed.Received msg q) (s.live h.0)) h.1.sent h.1.received)

-- what is found is such a chain, and where nothing is found there is none
pub link_chain : (s : Past) (k : ℕ) (kind : Kind) (p q msg : ℕ) → least_link s k kind p q ≡ Some msg → IsChain s k kind q (msg ∷ []) p
link_chain s k kind p q msg e = links_chain s k kind p q msg (link_passes s k kind p q msg e)

pub not_linked : (s : Past) (k : ℕ) (kind : Kind) (p q msg : ℕ) → links s k kind p q msg ≡ false → IsChain s k kind q (msg ∷ []) p → ⊥
not_linked s k kind p q msg e h = clash (sym e ∙ chain_links s k kind p q msg h)
  where
    clash : false ≡ true → ⊥
    clash x = cc

pub no_chain : (log : List Event) (k : ℕ) (kind : Kind) (p q : ℕ) → least_link (past log) k kind p q ≡ None → (msg : ℕ) → IsChain (past log) k kind q (msg ∷ []) p → ⊥
no_chain log k kind p q e msg h = not_linked (past log) k kind p q msg (link_none log k kind p q e msg) h
