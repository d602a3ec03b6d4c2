-- The law of leastness: linking messages and chains make the members the least set.
use Rattle.std.proofs.Common.{◌≡◌, ◌≢◌, ℕ, zero, suc, ◌+◌, ◌<◌, Bool, true, false, Option, Some, None, List, [], ◌∷◌, length, take, drop, refl, arith, sym, ap, subst, ◌∙◌, inl, inr}
use Rattle.std.specs.Prelude.{slice_get, not, is_some, unwrap_or, ◌⊎◌, ◌||◌, ◌++◌, ◌≤◌, if◌then◌else◌}
use Rattle.std.proofs.lemmas.Bool.{cases_eq}
use Rattle.std.proofs.lemmas.Option.{slice_get_within}
use Rattle.kt_spacetime.specs.declared.event.Event.{Event}
use Rattle.kt_spacetime.specs.declared.deeds.Deed.TheVariants as deed
use Rattle.kt_meaning.specs.Past.{Past, past, is_member, initiator_of, is_rollback}
use Rattle.kt_meaning.specs.Legal.{has_deed, IsLegal}
use Rattle.kt_meaning.specs.Cuts.{part, is_unsent, IsConsistent, checkpoint_cut, rollback_cut}
use Rattle.kt_meaning.specs.Chains.{members, LinksCheckpoint, LinksRollback, IsCheckpointChain, IsRollbackChain}
use Rattle.kt_meaning.specs.Least.{IsCheckpointChoice, IsLeastCheckpointSet, cut_without, IsLeastRollbackSet, EachLinks, HasInitiator}
use Rattle.kt_spacetime.specs.declared.event.Event.TheVariants.{Decided}
use Rattle.kt_meaning.proofs.LegalLogs.{legal_last}
use Rattle.kt_meaning.proofs.RowRules.{may_decide}
use Rattle.kt_meaning.proofs.Positions.{Positions, positions, one_kind}
use Rattle.kt_meaning.proofs.Lists.{get_take, get_in_take, get_drop, deed_place, filtered_out}
use Rattle.kt_meaning.proofs.Places.{SentPlaces, sent_places, sent_once}
use Rattle.kt_meaning.proofs.Members.{member_place}

some_or : (o : Option ℕ) (a b : ℕ) → is_some o ≡ true → unwrap_or o a ≡ unwrap_or o b
some_or None a b e = absurd (cc)
some_or (Some x) a b e = refl

-- in a consistent cut, what is received in a part is sent in the sender's part
pub received_sent : (s : Past) (cut : ℕ → ℕ) → IsConsistent s cut → (q p j msg : ℕ) → slice_get (s.live q) j ≡ Some (deed.Received msg p) → j < cut q → (i : ℕ) × (slice_get (s.live p) i ≡ Some (deed.Sent msg q)) × (i < cut p)
received_sent s cut consistent q p j msg e l =
    let here = get_in_take (cut q) (s.live q) j (deed.Received msg p) e l in
    let sent = was_sent (has_deed (deed.Sent msg q) (part s cut p)) (filtered_out (is_unsent s cut q) (part s cut q) j (deed.Received msg p) (consistent q) here) in
    let place = deed_place (deed.Sent msg q) (part s cut p) sent in
    let r = get_take (cut p) (s.live p) place.0 (deed.Sent msg q) place.1 in
    (place.0, r.0, r.1)
  where
    was_sent : (b : Bool) → not b ≡ false → b ≡ true
    was_sent true e = refl
    was_sent false e = absurd (cc)

-- what a process sent past its permanent position is in no part that ends there
sent_past : (s : Past) → SentPlaces s → (p q msg i : ℕ) → has_deed (deed.Sent msg q) (drop (s.permanent p) (s.live p)) ≡ true → slice_get (s.live p) i ≡ Some (deed.Sent msg q) → i < s.permanent p → ⊥
sent_past s g p q msg i past e l =
    let place = deed_place (deed.Sent msg q) (drop (s.permanent p) (s.live p)) past in
    let there = get_drop (s.permanent p) (s.live p) place.0 (deed.Sent msg q) place.1 in
    let same = sent_once s g p p i (s.permanent p + place.0) msg q q e there in
    absurd (omega (arith, same.1))

-- one linking message: a consistent choice with the receiver has the sender
pub checkpoint_link : (s : Past) (k p q msg : ℕ) (set : ℕ → Bool) (cut : ℕ → ℕ) → SentPlaces s → LinksCheckpoint s k p q msg → set q ≡ true → IsCheckpointChoice s k set cut → IsConsistent s cut → set p ≡ true
checkpoint_link s k p q msg set cut g link chosen choice consistent = at_test (set p) refl
  where
    at_test : (b : Bool) → set p ≡ b → set p ≡ true
    at_test true e = e
    at_test false e =
        let received = deed_place (deed.Received msg p) (take (unwrap_or (s.new k q) 0) (s.live q)) link.received in
        let there = get_take (unwrap_or (s.new k q) 0) (s.live q) received.0 (deed.Received msg p) received.1 in
        let new : unwrap_or (s.new k q) 0 ≡ unwrap_or (s.new k q) (s.permanent q) = some_or (s.new k q) 0 (s.permanent q) link.member in
        let sent = received_sent s cut consistent q p received.0 msg there.0 (omega (arith, there.1, new, choice.inside q chosen)) in
        absurd (sent_past s g p q msg sent.0 link.sent sent.1 (omega (arith, sent.2, choice.outside p e)))

pub checkpoint_chain : (s : Past) (k q p : ℕ) (chain : List ℕ) (set : ℕ → Bool) (cut : ℕ → ℕ) → SentPlaces s → IsCheckpointChain s k q chain p → set q ≡ true → IsCheckpointChoice s k set cut → IsConsistent s cut → set p ≡ true
checkpoint_chain s k q p [] set cut g e chosen choice consistent = subst (λ (x : ℕ). set x ≡ true) e chosen
checkpoint_chain s k q p (msg ∷ rest) set cut g (x, link, chain) chosen choice consistent =
    checkpoint_chain s k x p rest set cut g chain (checkpoint_link s k x q msg set cut g link chosen choice consistent) choice consistent

-- one linking message: a set whose cut is consistent has the receiver, if it has the sender
pub rollback_link : (s : Past) (p q msg : ℕ) (set : ℕ → Bool) → SentPlaces s → LinksRollback s p q msg → set q ≡ true → IsConsistent s (cut_without s set) → set p ≡ true
rollback_link s p q msg set g link chosen consistent = at_test (set p) refl
  where
    outside : set p ≡ false → cut_without s set p ≡ length (s.live p)
    outside e = rw e refl

    inside : cut_without s set q ≡ s.permanent q
    inside = rw chosen refl

    at_test : (b : Bool) → set p ≡ b → set p ≡ true
    at_test true e = e
    at_test false e =
        let received = deed_place (deed.Received msg q) (s.live p) link.received in
        let l = slice_get_within (s.live p) received.0 (deed.Received msg q) received.1 in
        let sent = received_sent s (cut_without s set) consistent p q received.0 msg received.1 (rw (outside e) l) in
        let early : sent.0 < s.permanent q = rw inside at sent.2 in
        absurd (sent_past s g q p msg sent.0 link.sent sent.1 early)

pub rollback_chain : (s : Past) (q p : ℕ) (chain : List ℕ) (set : ℕ → Bool) → SentPlaces s → IsRollbackChain s q chain p → set q ≡ true → IsConsistent s (cut_without s set) → set p ≡ true
rollback_chain s q p [] set g e chosen consistent = subst (λ (x : ℕ). set x ≡ true) e chosen
rollback_chain s q p (msg ∷ rest) set g (x, link, chain) chosen consistent =
    rollback_chain s x p rest set g chain (rollback_link s x q msg set g link chosen consistent) consistent

-- where each member but the initiator is linked with an earlier one, and a set that has the one has the other, the set has all
same_process : (o : Option ℕ) (p : ℕ) → (o ≡ Some p) ⊎ (o ≢ Some p)
same_process None p = inr (λ e. absurd (cc))
same_process (Some q) p = elim (cases_eq q p) [ inl e ↦ inl (ap (λ (x : ℕ). Some x) e) | inr n ↦ inr (λ e. n (cc)) ]

all_chosen : (Links : ℕ → ℕ → ℕ → Type 0) (initiator : Option ℕ) (list : List ℕ) (set : ℕ → Bool) → EachLinks Links initiator list → ((p : ℕ) → initiator ≡ Some p → set p ≡ true) → ((p q msg : ℕ) → Links p q msg → set q ≡ true → set p ≡ true) → (place p : ℕ) → slice_get list place ≡ Some p → set p ≡ true
all_chosen Links initiator list set each first step place p e = below (suc place) place p (omega arith) e
  where
    below : (n place p : ℕ) → place < n → slice_get list place ≡ Some p → set p ≡ true
    below zero place p l e = absurd (omega arith)
    below (suc n) place p l e = elim (same_process initiator p) [
      | inl i ↦ first p i
      | inr other ↦ let link = each place p e other in
          step p link.other link.msg link.links (below n link.earlier link.other (let b = link.before in omega arith) link.there)
    ]

pub least_checkpoint_by_links : (log : List Event) (k : ℕ) → IsConsistent (past log) (checkpoint_cut (past log) k) → EachLinks (LinksCheckpoint (past log) k) (initiator_of (past log) k) (members log k) → IsLeastCheckpointSet (past log) k
least_checkpoint_by_links log k consistent each = record {
  consistent = consistent;
  least = λ set cut choice c p m.
      let place = member_place log k p m in
      all_chosen (LinksCheckpoint (past log) k) (initiator_of (past log) k) (members log k) set each choice.initiator
      (λ x q msg link chosen. checkpoint_link (past log) k x q msg set cut (sent_places log) link chosen choice c)
      place.0 p place.1;
}

pub least_rollback_by_links : (log : List Event) (k : ℕ) → IsConsistent (past log) (rollback_cut (past log) k) → EachLinks (LinksRollback (past log)) (initiator_of (past log) k) (members log k) → IsLeastRollbackSet (past log) k
least_rollback_by_links log k consistent each = record {
  consistent = consistent;
  least = λ set first c p m.
      let place = member_place log k p m in
      all_chosen (LinksRollback (past log)) (initiator_of (past log) k) (members log k) set each first
      (λ x q msg link chosen. rollback_link (past log) x q msg set (sent_places log) link chosen c)
      place.0 p place.1;
}

pub least_checkpoint_by_chains : (log : List Event) (k i : ℕ) → initiator_of (past log) k ≡ Some i → IsConsistent (past log) (checkpoint_cut (past log) k) → ((p : ℕ) → is_member (past log) k p ≡ true → p ≢ i → (chain : List ℕ) × IsCheckpointChain (past log) k i chain p) → IsLeastCheckpointSet (past log) k
least_checkpoint_by_chains log k i first consistent chains = record {
  consistent = consistent;
  least = λ set cut choice c p m. elim (cases_eq p i) [
    | inl e ↦ choice.initiator p (first ∙ ap (λ (x : ℕ). Some x) (sym e))
    | inr n ↦ let chain = chains p m n in checkpoint_chain (past log) k i p chain.0 set cut (sent_places log) chain.1 (choice.initiator i first) choice c
  ];
}

pub least_rollback_by_chains : (log : List Event) (k i : ℕ) → initiator_of (past log) k ≡ Some i → IsConsistent (past log) (rollback_cut (past log) k) → ((p : ℕ) → is_member (past log) k p ≡ true → p ≢ i → (chain : List ℕ) × IsRollbackChain (past log) i chain p) → IsLeastRollbackSet (past log) k
least_rollback_by_chains log k i first consistent chains = record {
  consistent = consistent;
  least = λ set has c p m. elim (cases_eq p i) [
    | inl e ↦ has p (first ∙ ap (λ (x : ℕ). Some x) (sym e))
    | inr n ↦ let chain = chains p m n in rollback_chain (past log) i p chain.0 set (sent_places log) chain.1 (has i first) c
  ];
}

-- just before a decision the initiator is a member
pub initiator_member : (log : List Event) (k p : ℕ) (commit : Bool) → IsLegal (log ++ Decided p k commit ∷ []) → HasInitiator (past log) k (is_member (past log) k)
initiator_member log k p commit l q e =
    let parts = legal_last log (Decided p k commit) l in
    let may = may_decide (past log) p k commit parts.1 in
    let same : Some p ≡ Some q = sym may.is_initiator ∙ e in
    let process : p ≡ q = cc in
    let g = positions log parts.0 in
    subst (λ (x : ℕ). is_member (past log) k x ≡ true) process (g.inside_member p k may.inside)

-- the members and their cut are a choice
pub members_choice : (log : List Event) (k p : ℕ) (commit : Bool) → IsLegal (log ++ Decided p k commit ∷ []) → IsCheckpointChoice (past log) k (is_member (past log) k) (checkpoint_cut (past log) k)
members_choice log k p commit l =
    let parts = legal_last log (Decided p k commit) l in
    let may = may_decide (past log) p k commit parts.1 in
    record {
      initiator = initiator_member log k p commit l;
      within = λ q. short (past log) (positions log parts.0) may.undecided q;
      outside = λ q e. out (past log) q e;
      inside = λ q e. omega arith;
    }
  where
    short : (s : Past) → Positions s → s.decision k ≡ None → (q : ℕ) → checkpoint_cut s k q ≤ length (s.live q)
    short s g v q = at_new (s.new k q) refl
      where
        at_new : (o : Option ℕ) → s.new k q ≡ o → unwrap_or o (s.permanent q) ≤ length (s.live q)
        at_new None e = g.permanent_within q
        at_new (Some n) e = let w = g.within q k n v e in w.1

    out : (s : Past) (q : ℕ) → is_member s k q ≡ false → checkpoint_cut s k q ≡ s.permanent q
    out s q e = at_new (s.new k q) e
      where
        at_new : (o : Option ℕ) → (is_some o || s.ready k q) ≡ false → unwrap_or o (s.permanent q) ≡ s.permanent q
        at_new None e = refl
        at_new (Some n) e = absurd (cc)

-- the cut of the members of a rollback
pub members_cut : (log : List Event) (k p : ℕ) → IsLegal log → is_rollback (past log) k ≡ true → cut_without (past log) (is_member (past log) k) p ≡ rollback_cut (past log) k p
members_cut log k p l r = from (past log) (positions log l) r
  where
    from : (s : Past) → Positions s → is_rollback s k ≡ true → cut_without s (is_member s k) p ≡ rollback_cut s k p
    from s g r = at_new (s.new k p) refl
      where
        at_new : (o : Option ℕ) → s.new k p ≡ o → (if is_some o || s.ready k p then s.permanent p else length (s.live p)) ≡ (if s.ready k p then s.permanent p else length (s.live p))
        at_new None e = refl
        at_new (Some n) e = absurd (one_kind s k (g.took_kind p k n e) r)
