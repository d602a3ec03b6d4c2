-- Chains and cuts of a certificate, by what histories answer.
use Rattle.std.proofs.Common.{◌≡◌, ◌≢◌, ℕ, zero, suc, ◌+◌, ◌-◌, ◌<◌, ◌≤◌, Bool, true, false, Option, Some, None, option_map, List, [], ◌∷◌, ◌++◌, map, length, take, drop, refl, sym, ap, ◌∙◌, subst, arith, inl, inr}
use Rattle.std.specs.List.{slice_get, Contains}
use Rattle.std.specs.Prelude.{◌||◌, ◌↔◌, not, is_some, IsTrue, IfSome, IfNone}
use Rattle.kt_base.specs.Sets.{has}
use Rattle.std.proofs.lemmas.Bool.{cases_lt}
use Rattle.std.proofs.lemmas.Option.{slice_get-get_or, slice_get-map}
use Rattle.std.proofs.lemmas.List.{length-map}
use Rattle.kt_base.specs.declared.words.Kind.{Kind}
use Rattle.kt_base.specs.declared.words.Kind.TheVariants.{Checkpoint, Rollback}
use Rattle.kt_spacetime.specs.declared.event.Event.{Event}
use Rattle.kt_spacetime.specs.declared.deeds.Deed.{Deed}
use Rattle.kt_spacetime.specs.declared.deeds.Deed.TheVariants as deed
use Rattle.kt_rules.specs.declared.traces.Trace.{Trace}
use Rattle.kt_meaning.specs.Past.{Past, past}
use Rattle.kt_meaning.specs.Legal.{has_deed}
use Rattle.kt_meaning.specs.Chains.{IsCheckpointChain, IsRollbackChain}
use Rattle.kt_meaning.specs.Cuts.{part, IsOrphan, IsConsistent}
use Rattle.kt_rules.specs.Orphans.{IsOrphanBetween}
use Rattle.kt_rules.specs.Traces.{place_of, trace_of}
use Rattle.kt_meaning.proofs.Items.{get_in_take, item_there, some_same, get_from_drop}
use Rattle.kt_rules.proofs.DeedFacts.{has_at}
use Rattle.kt_meaning.proofs.Consistency.{consistent_from, consistent_sent, consistent_without, no_orphan}
use Rattle.kt_rules.proofs.OrphanFacts.{between_of, orphan_of}
use Rattle.kt_meaning.specs.Passing.{IsChain}
use Rattle.kt_rules.proofs.Traced.{never, place_found, trace_parts}

sent_past : (d : Deed) (l : List Deed) (n place : ℕ) → place_of d l ≡ Some place → n < place → has_deed d (drop n l) ≡ true
sent_past d l n place e low =
    let there = place_found d l place e in
    has_at d (drop n l) (there.0 - n) (get_from_drop n l there.0 d there.2 (omega (arith, low, there.1)))

pub received_within : (d : Deed) (l : List Deed) (n place : ℕ) → place_of d l ≡ Some place → place ≤ n → has_deed d (take n l) ≡ true
received_within d l n place e low =
    let there = place_found d l place e in
    has_at d (take n l) there.0 (get_in_take n l there.0 (omega (arith, low, there.1)) ∙ there.2)

received_there : (d : Deed) (l : List Deed) (place : ℕ) → place_of d l ≡ Some place → has_deed d l ≡ true
received_there d l place e =
    let there = place_found d l place e in
    has_at d l there.0 there.2

pub rollback_step : (rows : List Event) (at m sent received permanent : ℕ) (t : Trace) → trace_of rows m ≡ Some t → t.sent ≡ Some sent → t.received ≡ Some received
    → permanent ≡ (past rows).permanent t.from → permanent < sent → t.from ≡ at → IsRollbackChain (past rows) at (m ∷ []) t.to
rollback_step rows at m sent received permanent t e a b p low from =
    let parts = trace_parts rows m t e in
    let past_it = sent_past (deed.Sent m t.to) ((past rows).live t.from) permanent sent (sym parts.0 ∙ a) low in
    let got = received_there (deed.Received m t.from) ((past rows).live t.to) received (sym parts.1 ∙ b) in (
      t.to,
      record {
        sent = (λ i. has_deed (deed.Sent m t.to) (drop ((past rows).permanent (sym from i)) ((past rows).live (sym from i)))) ∙ ((λ i. has_deed (deed.Sent m t.to) (drop (sym p i) ((past rows).live t.from))) ∙ past_it);
        received = (λ i. has_deed (deed.Received m (sym from i)) ((past rows).live t.to)) ∙ got;
      },
      refl,
    )

-- a chain and one more message
pub chain_more : (s : Past) (k : ℕ) (kind : Kind) (q x y m : ℕ) (chain : List ℕ) → IsChain s k kind q chain x → IsChain s k kind x (m ∷ []) y → IsChain s k kind q (chain ++ m ∷ []) y
chain_more s k Checkpoint q x y m [] h step = subst (λ (z : ℕ). IsCheckpointChain s k z (m ∷ []) y) (sym h) step
chain_more s k Checkpoint q x y m (n ∷ chain) h step = (h.0, h.1, chain_more s k Checkpoint h.0 x y m chain h.2 step)
chain_more s k Rollback q x y m [] h step = subst (λ (z : ℕ). IsRollbackChain s z (m ∷ []) y) (sym h) step
chain_more s k Rollback q x y m (n ∷ chain) h step = (h.0, h.1, chain_more s k Rollback h.0 x y m chain h.2 step)

-- what a list passes through, index by index
pub none_listed : (ms : List (ℕ × List ℕ)) (p : ℕ) → ((k q : ℕ) (chain : List ℕ) → slice_get ms k ≡ Some (q, chain) → q ≢ p) → Contains (map (λ m. m.0) ms) p → ⊥
none_listed ms p never (k, l, e) =
    let there = item_there ms k (subst (λ (n : ℕ). k < n) (length-map ms (λ m. m.0)) l) in
    let listed : slice_get (map (λ m. m.0) ms) k ≡ Some (there.0.0) = slice_get-map (λ m. m.0) ms k ∙ ap (option_map (λ m. m.0)) there.1 in
    let same : there.0.0 ≡ p = some_same (sym listed ∙ (slice_get-get_or (map (λ m. m.0) ms) k p l ∙ ap Some e)) in
    never k there.0.0 there.0.1 there.1 same

-- lists of one length that agree at each place
pub same_lists : (ms : List (ℕ × List ℕ)) (xs : List ℕ) → length ms ≡ length xs → ((k q : ℕ) (chain : List ℕ) → slice_get ms k ≡ Some (q, chain) → slice_get xs k ≡ Some q) → map (λ m. m.0) ms ≡ xs
same_lists [] [] l agree = refl
same_lists [] (x ∷ xs) l agree = absurd (omega (arith, l))
same_lists (m ∷ ms) [] l agree = absurd (omega (arith, l))
same_lists (m ∷ ms) (x ∷ xs) l agree =
    let first : x ≡ m.0 = some_same (agree 0 m.0 m.1 refl) in
    (λ i. sym first i ∷ same_lists ms xs (omega (arith, l)) (λ k q chain e. agree (suc k) q chain e) i)

take_none : (n : ℕ) → take n (let l : List Deed = [] in l) ≡ []
take_none zero = refl
take_none (suc n) = refl

-- cuts that agree on a process keep the same part of it
same_part : (s : Past) (a b : ℕ → ℕ) (p : ℕ) → (p < 64 → a p ≡ b p) → (64 ≤ p → s.live p ≡ []) → part s a p ≡ part s b p
same_part s a b p same none = elim (cases_lt p 64) [
  | inl low ↦ ap (λ (n : ℕ). take n (s.live p)) (same low)
  | inr high ↦ ap (take (a p)) (none high) ∙ (take_none (a p) ∙ (sym (take_none (b p)) ∙ ap (take (b p)) (sym (none high))))
]

-- cuts that agree on the processes have the same orphans
pub consistent_of : (s : Past) (a b : ℕ → ℕ) → ((p : ℕ) → p < 64 → a p ≡ b p) → ((p : ℕ) → 64 ≤ p → s.live p ≡ []) → ((msg : ℕ) → IsOrphan s a msg → ⊥) → IsConsistent s b
consistent_of s a b same none no_orphan = consistent_from s b (λ p q i msg e. agree q (has_deed (deed.Sent msg p)) (consistent_sent s a (consistent_without s a no_orphan) p q i msg (ap (λ (l : List Deed). slice_get l i) (parts p) ∙ e)))
  where
    parts : (p : ℕ) → part s a p ≡ part s b p
    parts p = same_part s a b p (same p) (none p)

    agree : (q : ℕ) (test : List Deed → Bool) → test (part s a q) ≡ true → test (part s b q) ≡ true
    agree q test e = ap test (sym (parts q)) ∙ e

-- where a cut differs from a consistent one in some processes alone, each orphan has one of these as receiver or sender
pub orphan_at_changed : (s : Past) (a b : ℕ → ℕ) (changed : ℕ) → IsConsistent s b → ((p : ℕ) → p < 64 → has changed p ≡ false → a p ≡ b p) → ((p : ℕ) → 64 ≤ p → s.live p ≡ [])
    → ((p q m : ℕ) → (has changed p || has changed q) ≡ true → IsOrphanBetween s a p q m → ⊥) → (m : ℕ) → IsOrphan s a m → ⊥
orphan_at_changed s a b changed consistent same none at_changed m orphan = at_ends (has changed o.0) refl (has changed o.1) refl
  where
    o : (p : ℕ) × (q : ℕ) × IsOrphanBetween s a p q m
    o = between_of s a m orphan

    parts : (p : ℕ) → has changed p ≡ false → part s a p ≡ part s b p
    parts p other = same_part s a b p (λ low. same p low other) (none p)

    at_ends : (x : Bool) → has changed o.0 ≡ x → (y : Bool) → has changed o.1 ≡ y → ⊥
    at_ends true e y f = at_changed o.0 o.1 m (ap (λ (x : Bool). x || has changed o.1) e) o.2
    at_ends false e true f = at_changed o.0 o.1 m (λ i. e i || f i) o.2
    at_ends false e false f = no_orphan s b consistent m (orphan_of s b o.0 o.1 m (record {
      place = o.2.place;
      received = ap (λ (l : List Deed). slice_get l o.2.place) (sym (parts o.0 e)) ∙ o.2.received;
      unsent = ap (has_deed (deed.Sent m o.0)) (sym (parts o.1 f)) ∙ o.2.unsent;
    }))

-- whether a cut is consistent, by a search for an orphan
pub exact_search : (o : Option ℕ) (found : Bool) (P : Type 0) (Q : ℕ → Type 0) (C : Type 0) → is_some o ≡ not found → IfNone o P → IfSome o Q → (P → C) → ((m : ℕ) → Q m → C → ⊥) → IsTrue found ↔ C
exact_search None true P Q C is none some held refuted = (λ t. held none, λ c. refl)
exact_search None false P Q C is none some held refuted = absurd (never is)
exact_search (Some m) true P Q C is none some held refuted = absurd (never (sym is))
exact_search (Some m) false P Q C is none some held refuted = (λ t. absurd (never t), λ c. absurd (refuted m some c))
