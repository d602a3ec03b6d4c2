-- How far messages go once one more call is made.
use Rattle.std.specs.Prelude.{slice_index, slice_index_or, slice_set}
use Rattle.std.specs.List.{flat_map}
use Rattle.std.proofs.Common.{◌≡◌, ◌≢◌, ◌∙◌, ℕ, ◌+◌, ◌<◌, max, take, List, [], ◌∷◌, ◌++◌, length, refl, sym, ap, subst, arith, append_assoc, inl, inr}
use Rattle.std.proofs.lemmas.Bool.{cases_eq}
use Rattle.std.proofs.lemmas.Grind.{fold-append, flat_map-append}
use Rattle.std.proofs.lemmas.List.{append-nil, take_more}
use Rattle.kt_meaning.specs.Past.{at_one}
use Rattle.kt_plan.specs.declared.steps.Act.{Act as AnsweredAct}
use Rattle.kt_protocol.proofs.Updates.{at_one_here, at_one_other, is_same, is_other}
use Rattle.kt_spacetime.specs.declared.named_rows.NamedEvent.{NamedEvent}
use Rattle.kt_manager.specs.ShownActs.{act_shown, acts_shown}
use Rattle.kt_tables.specs.Calls.{Call, sent, received, on_tentative, on_commit, on_abort, on_rollback, receiveds}
use Rattle.kt_tables.specs.Labels.{greatest}
use Rattle.kt_tables.proofs.CallParts.{receiveds-append}
use Rattle.kt_tables.proofs.LabelLists.{greatest-append}
use Rattle.kt_node.specs.NodeHistories.{Histories, no_history, histories_after, histories, sent_labels, call_of_row, call_of_act}
use Rattle.kt_node.specs.declared.reach.Reach.{Reach}
use Rattle.kt_node.specs.declared.reach.Reaches.{Reaches}
use Rattle.kt_node.specs.Reaches.{IsReach, HasReaches}
use Rattle.kt_node.proofs.Counts.{set_each}

sent_labels-append : (front rest : List Call) → sent_labels (front ++ rest) ≡ sent_labels front ++ sent_labels rest
sent_labels-append [] rest = refl
sent_labels-append (sent q l ∷ front) rest = ap (λ (x : List ℕ). l ∷ x) (sent_labels-append front rest)
sent_labels-append (received q l ∷ front) rest = sent_labels-append front rest
sent_labels-append (on_tentative ∷ front) rest = sent_labels-append front rest
sent_labels-append (on_commit ∷ front) rest = sent_labels-append front rest
sent_labels-append (on_abort ∷ front) rest = sent_labels-append front rest
sent_labels-append (on_rollback ∷ front) rest = sent_labels-append front rest

-- one label more
greatest_more : (xs : List ℕ) (l : ℕ) → greatest (xs ++ l ∷ []) ≡ max (greatest xs) l
greatest_more xs l = let e = greatest-append xs (l ∷ []) in omega (arith, e)

sent_one : (calls : List Call) (q l : ℕ) → greatest (sent_labels (calls ++ sent q l ∷ [])) ≡ max (greatest (sent_labels calls)) l
sent_one calls q l = ap greatest (sent_labels-append calls (sent q l ∷ [])) ∙ greatest_more (sent_labels calls) l

sent_none : (calls : List Call) (q l : ℕ) → greatest (sent_labels (calls ++ received q l ∷ [])) ≡ greatest (sent_labels calls)
sent_none calls q l = ap greatest (sent_labels-append calls (received q l ∷ []) ∙ append-nil (sent_labels calls))

received_none : (calls : List Call) (p q l : ℕ) → greatest (receiveds p (calls ++ sent q l ∷ [])) ≡ greatest (receiveds p calls)
received_none calls p q l = ap greatest (receiveds-append p calls (sent q l ∷ []) ∙ append-nil (receiveds p calls))

received_one : (calls : List Call) (q l : ℕ) → greatest (receiveds q (calls ++ received q l ∷ [])) ≡ max (greatest (receiveds q calls)) l
received_one calls q l = ap greatest (receiveds-append q calls (received q l ∷ []) ∙ rw (is_same q) refl) ∙ greatest_more (receiveds q calls) l

received_other : (calls : List Call) (p q l : ℕ) → p ≢ q → greatest (receiveds p (calls ++ received q l ∷ [])) ≡ greatest (receiveds p calls)
received_other calls p q l n = ap greatest (receiveds-append p calls (received q l ∷ []) ∙ rw (is_other q p (λ e. n (sym e))) (append-nil (receiveds p calls)))

pub reach_sends : (r : Reach) (calls : List Call) (q l s : ℕ) → s ≡ max r.sent l → IsReach r calls → IsReach (record r { sent = s }) (calls ++ sent q l ∷ [])
reach_sends r calls q l s e h = record {
  sent = e ∙ (ap (λ (n : ℕ). max n l) h.sent ∙ sym (sent_one calls q l));
  received = λ p b. h.received p b ∙ sym (received_none calls p q l);
}

pub reach_receives : (r : Reach) (calls : List Call) (q l v : ℕ) (xs : List ℕ) → xs ≡ slice_set r.received q v → v ≡ max (slice_index r.received q) l → q < length r.received → q < 64 → IsReach r calls
    → IsReach (record r { received = xs }) (calls ++ received q l ∷ [])
reach_receives r calls q l v xs e is within small h = record {
  sent = h.sent ∙ sym (sent_none calls q l);
  received = λ p b. ap (λ (x : List ℕ). slice_index x p) e ∙ (set_each r.received q v p within ∙ elim (cases_eq p q) [
    | inl s ↦ subst (λ (u : ℕ). at_one q v (slice_index r.received) u ≡ greatest (receiveds u (calls ++ received q l ∷ []))) (sym s)
        (at_one_here q v (slice_index r.received) ∙ (is ∙ (ap (λ (n : ℕ). max n l) (h.received q small) ∙ sym (received_one calls q l))))
    | inr n ↦ at_one_other q p v (slice_index r.received) n ∙ (h.received p b ∙ sym (received_other calls p q l n))
  ]);
}

-- one call more
more : (calls : List Call) (c : Call) → histories_after (histories calls) c ≡ histories (calls ++ c ∷ [])
more calls c = sym (fold-append histories_after no_history calls (c ∷ []))

has_more : (r : Reaches) (calls : List Call) (c : Call) → IsReach r.live (histories_after (histories calls) c).live → IsReach r.tentative (histories_after (histories calls) c).tentative
    → IsReach r.permanent (histories_after (histories calls) c).permanent → HasReaches r (calls ++ c ∷ [])
has_more r calls c live tentative permanent = record {
  live = subst (λ (h : Histories). IsReach r.live h.live) (more calls c) live;
  tentative = subst (λ (h : Histories). IsReach r.tentative h.tentative) (more calls c) tentative;
  permanent = subst (λ (h : Histories). IsReach r.permanent h.permanent) (more calls c) permanent;
}

pub has_sent : (r : Reaches) (live : Reach) (calls : List Call) (q l : ℕ) → ((xs : List Call) (to : ℕ) → IsReach r.live xs → IsReach live (xs ++ sent to l ∷ [])) → HasReaches r calls → HasReaches (record r { live = live }) (calls ++ sent q l ∷ [])
has_sent r live calls q l f h = has_more (record r { live = live }) calls (sent q l) (f (histories calls).live q h.live) h.tentative h.permanent

pub has_received : (r : Reaches) (live : Reach) (calls : List Call) (q l : ℕ) → ((xs : List Call) → IsReach r.live xs → IsReach live (xs ++ received q l ∷ [])) → HasReaches r calls → HasReaches (record r { live = live }) (calls ++ received q l ∷ [])
has_received r live calls q l f h = has_more (record r { live = live }) calls (received q l) (f (histories calls).live h.live) h.tentative h.permanent

pub has_kept : (r : Reaches) (calls : List Call) → HasReaches r calls → HasReaches (record r { tentative = r.live }) (calls ++ on_tentative ∷ [])
has_kept r calls h = has_more (record r { tentative = r.live }) calls on_tentative h.live h.live h.permanent

pub has_promoted : (r : Reaches) (calls : List Call) → HasReaches r calls → HasReaches (record r { permanent = r.tentative }) (calls ++ on_commit ∷ [])
has_promoted r calls h = has_more (record r { permanent = r.tentative }) calls on_commit h.live h.tentative h.tentative

pub has_discarded : (r : Reaches) (calls : List Call) → HasReaches r calls → HasReaches r (calls ++ on_abort ∷ [])
has_discarded r calls h = has_more r calls on_abort h.live h.tentative h.permanent

pub has_restored : (r : Reaches) (calls : List Call) → HasReaches r calls → HasReaches (record r { live = r.permanent }) (calls ++ on_rollback ∷ [])
has_restored r calls h = has_more (record r { live = r.permanent }) calls on_rollback h.permanent h.tentative h.permanent

-- no call more
pub has_same : (r : Reaches) (calls : List Call) → HasReaches r calls → HasReaches r (calls ++ [])
has_same r calls h = subst (λ (x : List Call). HasReaches r x) (sym (append-nil calls)) h

-- some calls more, and then others
pub has_both : (r : Reaches) (calls front rest : List Call) → HasReaches r ((calls ++ front) ++ rest) → HasReaches r (calls ++ (front ++ rest))
has_both r calls front rest h = subst (λ (x : List Call). HasReaches r x) (append_assoc calls front rest) h

acts_shown-append : (front rest : List AnsweredAct) → acts_shown (front ++ rest) ≡ acts_shown front ++ acts_shown rest
acts_shown-append [] rest = refl
acts_shown-append (act ∷ front) rest = ap (λ x. act_shown act ++ x) (acts_shown-append front rest) ∙ sym (append_assoc (act_shown act) (acts_shown front) (acts_shown rest))

-- the calls that one act more tells
pub act_more : (front : List AnsweredAct) (act : AnsweredAct) → flat_map call_of_act (acts_shown (front ++ act ∷ [])) ≡ flat_map call_of_act (acts_shown front) ++ flat_map call_of_act (act_shown act)
act_more front act = ap (flat_map call_of_act) (acts_shown-append front (act ∷ []) ∙ ap (λ x. acts_shown front ++ x) (append-nil (act_shown act))) ∙ flat_map-append call_of_act (acts_shown front) (act_shown act)

-- along a list of rows, and of acts
row_next : (rows : List NamedEvent) (i : ℕ) (row : NamedEvent) → i < length rows → row ≡ slice_index_or rows i row
    → flat_map call_of_row (take (i + 1) rows) ≡ flat_map call_of_row (take i rows) ++ call_of_row row
row_next rows i row b e = ap (flat_map call_of_row) (take_more rows i row b ∙ ap (λ (x : NamedEvent). take i rows ++ x ∷ []) (sym e))
    ∙ (flat_map-append call_of_row (take i rows) (row ∷ []) ∙ ap (λ (l : List Call). flat_map call_of_row (take i rows) ++ l) (append-nil (call_of_row row)))

pub act_next : (acts : List AnsweredAct) (i : ℕ) (act : AnsweredAct) → i < length acts → act ≡ slice_index_or acts i act
    → flat_map call_of_act (acts_shown (take (i + 1) acts)) ≡ flat_map call_of_act (acts_shown (take i acts)) ++ flat_map call_of_act (act_shown act)
act_next acts i act b e = ap (λ (l : List AnsweredAct). flat_map call_of_act (acts_shown l)) (take_more acts i act b ∙ ap (λ (x : AnsweredAct). take i acts ++ x ∷ []) (sym e)) ∙ act_more (take i acts) act

-- one row more is told
pub tells_row : (r : Reaches) (calls : List Call) (rows : List NamedEvent) (i : ℕ) (row : NamedEvent) → i < length rows → row ≡ slice_index_or rows i row
    → HasReaches r ((calls ++ flat_map call_of_row (take i rows)) ++ call_of_row row) → HasReaches r (calls ++ flat_map call_of_row (take (i + 1) rows))
tells_row r calls rows i row b e h = subst (λ (l : List Call). HasReaches r (calls ++ l)) (sym (row_next rows i row b e)) (has_both r calls (flat_map call_of_row (take i rows)) (call_of_row row) h)
