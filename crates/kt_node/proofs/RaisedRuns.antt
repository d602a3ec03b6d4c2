-- What holds of nets whose nodes count on from 0 holds wherever each of them counts on from.
use Rattle.std.proofs.Common.{◌≡◌, ◌∙◌, ◌<◌, ℕ, zero, suc, Bool, true, false, Some, List, [], ◌∷◌, ◌++◌, map, refl, sym, ap, ap₂, subst, arith}
use Rattle.kt_base.specs.declared.words.Kind.{Kind}
use Rattle.kt_tables.specs.Calls.{Call, sent, received, on_tentative, on_commit, on_abort, on_rollback, PartsOfCalls, parts, sents, receiveds, Speaks}
use Rattle.kt_tables.specs.Labels.{LabelsRise}
use Rattle.kt_protocol.specs.States.{ProtocolStep, opening}
use Rattle.kt_protocol.specs.LateSteps.{late_run}
use Rattle.kt_spacetime.specs.declared.names.InstName.{InstName}
use Rattle.kt_meaning.specs.Names.{numbered}
use Rattle.kt_manager.specs.declared.parcels.NodeParcel.{NodeParcel}
use Rattle.kt_manager.specs.declared.parcels.NodeParcel.TheVariants.{App, Ask, Reply, Decide}
use Rattle.kt_manager.specs.NodeSteps.{is_in}
use Rattle.kt_node.specs.NodeSteps.{is_begun, heeds}
use Rattle.kt_node.specs.Nets.{Net, net_step, net_run, opening_from, opening_net}
use Rattle.kt_node.specs.Erasing.{rows_from_each}
use Rattle.kt_node.specs.FirstLabels.{raised, raised_call, raised_parcel}
use Rattle.kt_node.proofs.RaisedCalls.{parts_of_raised, sents_raised, receiveds_raised}
use Rattle.kt_node.proofs.RaisedNets.{net_raised, step_raised, same_rows}
use Rattle.kt_node.proofs.Runs.{rows_numbered, speaks_shown, speaks_next}
use Rattle.kt_node.proofs.Begun.{ask_begun, reply_owed, decision_asked, decision_heeded}

-- labels that rise do so when they are raised
rises : (a low : ℕ) (xs : List ℕ) → LabelsRise low xs → LabelsRise (raised a low) (map (raised a) xs)
rises a low [] h = tt
rises a low (x ∷ xs) h = (above low x h.0, rises a x xs h.1)
  where
    above : (low x : ℕ) → low < x → raised a low < raised a x
    above zero zero l = l
    above zero (suc x) l = omega arith
    above (suc low) zero l = absurd (omega (arith, l))
    above (suc low) (suc x) l = omega (arith, l)

-- two parts of a list that is mapped
split : (h : Call → Call) (calls front rest : List Call) → map h calls ≡ front ++ rest → (before : List Call) × (after : List Call) × (calls ≡ before ++ after) × (map h before ≡ front) × (map h after ≡ rest)
split h calls [] rest e = ([], calls, refl, refl, e)
split h [] (c ∷ front) rest e = absurd (cc (e))
split h (x ∷ calls) (c ∷ front) rest e =
    let tail : map h calls ≡ front ++ rest = cc (e) in
    let head : h x ≡ c = cc (e) in
    let s = split h calls front rest tail in
    (x ∷ s.0, s.1, ap (λ (l : List Call). x ∷ l) s.2, ap₂ (λ (y : Call) (l : List Call). y ∷ l) head s.3, s.4)

module _ (first : ℕ → ℕ) (p : ℕ) where
  apart : (calls front rest : List Call) (q l : ℕ) → Speaks calls → map (raised_call first p) calls ≡ front ++ sent q l ∷ rest → (parts front).is_open ≡ false
  apart calls front rest q l h e =
      let s = split (raised_call first p) calls front (sent q l ∷ rest) e in
      let closed = at_first s.1 s.0 s.2 s.4 in
      subst (λ (c : List Call). (parts c).is_open ≡ false) s.3 (ap (λ (t : PartsOfCalls). t.is_open) (parts_of_raised first p s.0) ∙ closed)
    where
      at_first : (after before : List Call) → calls ≡ before ++ after → map (raised_call first p) after ≡ sent q l ∷ rest → (parts before).is_open ≡ false
      at_first [] before e f = absurd (cc (f))
      at_first (sent u m ∷ after) before e f = h.apart before after u m e
      at_first (received u m ∷ after) before e f = absurd (cc (f))
      at_first (on_tentative ∷ after) before e f = absurd (cc (f))
      at_first (on_commit ∷ after) before e f = absurd (cc (f))
      at_first (on_abort ∷ after) before e f = absurd (cc (f))
      at_first (on_rollback ∷ after) before e f = absurd (cc (f))

  speaks_raised : (calls : List Call) → Speaks calls → Speaks (map (raised_call first p) calls)
  speaks_raised calls h = record {
    sent_rise = λ q. subst (LabelsRise 0) (sym (sents_raised first p q calls)) (rises (first p) 0 (sents q calls) (h.sent_rise q));
    received_rise = λ q. subst (LabelsRise 0) (sym (ap (λ (s : PartsOfCalls). receiveds q s.since_rollback) (parts_of_raised first p calls) ∙ receiveds_raised first p q (parts calls).since_rollback))
        (rises (first q) 0 (receiveds q (parts calls).since_rollback) (h.received_rise q));
    apart = λ front rest q l e. apart calls front rest q l h e;
  }

module _ (n : ℕ) (first : ℕ → ℕ) (steps : List ProtocolStep) where
  pub numbered_from_each : numbered (rows_from_each first (net_run (opening_from n first) steps).rows) ≡ Some (late_run (opening n) steps).log
  numbered_from_each = ap numbered (same_rows first n steps) ∙ rows_numbered n 0 steps

  pub speaks_from_each : (p : ℕ) → Speaks ((net_run (opening_from n first) steps).nodes p).calls
  speaks_from_each p = subst (λ (w : Net). Speaks (w.nodes p).calls) (sym (net_raised first n steps)) (speaks_raised first p ((net_run (opening_net n 0) steps).nodes p).calls (speaks_shown n 0 steps p))

  pub speaks_next_from_each : (x : ProtocolStep) (p : ℕ) → Speaks ((net_step (net_run (opening_from n first) steps) x).nodes p).calls
  speaks_next_from_each x p = subst (λ (w : Net). Speaks (w.nodes p).calls) (sym (ap (λ (w : Net). net_step w x) (net_raised first n steps) ∙ step_raised first (net_run (opening_net n 0) steps) x))
      (speaks_raised first p ((net_step (net_run (opening_net n 0) steps) x).nodes p).calls (speaks_next n 0 steps x p))

module _ (n : ℕ) (first : ℕ → ℕ) (steps : List ProtocolStep) (p q : ℕ) where
  abbrev net : Net
  net = net_run (opening_net n 0) steps

  -- what comes, with the labels that count on from 0
  ask_in : (k : InstName) (kind : Kind) (label : ℕ) (rest l : List NodeParcel) → net.channel q p ≡ l → map (raised_parcel first q p) l ≡ Ask k kind label ∷ rest → is_begun (net.nodes p) k ≡ true
  ask_in k kind label rest [] e f = absurd (cc (f))
  ask_in k kind label rest (App m b ∷ l) e f = absurd (cc (f))
  ask_in k kind label rest (Ask j was m ∷ l) e f = let same : j ≡ k = cc (f) in subst (λ (i : InstName). is_begun (net.nodes p) i ≡ true) same (ask_begun n 0 steps p q j was m l e)
  ask_in k kind label rest (Reply j w ∷ l) e f = absurd (cc (f))
  ask_in k kind label rest (Decide j c ∷ l) e f = absurd (cc (f))

  reply_in : (k : InstName) (b : Bool) (rest l : List NodeParcel) → net.channel q p ≡ l → map (raised_parcel first q p) l ≡ Reply k b ∷ rest → ((net.nodes p).part.asked q ≡ true) × ((net.nodes p).answered q ≡ false)
  reply_in k b rest [] e f = absurd (cc (f))
  reply_in k b rest (App m d ∷ l) e f = absurd (cc (f))
  reply_in k b rest (Ask j was m ∷ l) e f = absurd (cc (f))
  reply_in k b rest (Reply j w ∷ l) e f = reply_owed n 0 steps p q j w l e
  reply_in k b rest (Decide j c ∷ l) e f = absurd (cc (f))

  decision_in : (k : InstName) (b : Bool) (rest l : List NodeParcel) → net.channel q p ≡ l → map (raised_parcel first q p) l ≡ Decide k b ∷ rest → is_in ((net.nodes p).asks q) k ≡ true
  decision_in k b rest [] e f = absurd (cc (f))
  decision_in k b rest (App m d ∷ l) e f = absurd (cc (f))
  decision_in k b rest (Ask j was m ∷ l) e f = absurd (cc (f))
  decision_in k b rest (Reply j w ∷ l) e f = absurd (cc (f))
  decision_in k b rest (Decide j c ∷ l) e f = let same : j ≡ k = cc (f) in subst (λ (i : InstName). is_in ((net.nodes p).asks q) i ≡ true) same (decision_asked n 0 steps p q j c l e)

  heeded_in : (k : InstName) (b : Bool) (rest l : List NodeParcel) → net.channel q p ≡ l → map (raised_parcel first q p) l ≡ Decide k b ∷ rest → heeds (net.nodes p) q k ≡ is_in (net.nodes p).inst k
  heeded_in k b rest [] e f = absurd (cc (f))
  heeded_in k b rest (App m d ∷ l) e f = absurd (cc (f))
  heeded_in k b rest (Ask j was m ∷ l) e f = absurd (cc (f))
  heeded_in k b rest (Reply j w ∷ l) e f = absurd (cc (f))
  heeded_in k b rest (Decide j c ∷ l) e f = let same : j ≡ k = cc (f) in subst (λ (i : InstName). heeds (net.nodes p) q i ≡ is_in (net.nodes p).inst i) same (decision_heeded n 0 steps p q j c l e)

  pub begun_from_each : (k : InstName) (kind : Kind) (label : ℕ) (rest : List NodeParcel) → (net_run (opening_from n first) steps).channel q p ≡ Ask k kind label ∷ rest → is_begun ((net_run (opening_from n first) steps).nodes p) k ≡ true
  begun_from_each k kind label rest = subst (λ (w : Net). w.channel q p ≡ Ask k kind label ∷ rest → is_begun (w.nodes p) k ≡ true) (sym (net_raised first n steps)) (ask_in k kind label rest (net.channel q p) refl)

  pub owed_from_each : (k : InstName) (b : Bool) (rest : List NodeParcel) → (net_run (opening_from n first) steps).channel q p ≡ Reply k b ∷ rest
      → (((net_run (opening_from n first) steps).nodes p).part.asked q ≡ true) × (((net_run (opening_from n first) steps).nodes p).answered q ≡ false)
  owed_from_each k b rest = subst (λ (w : Net). w.channel q p ≡ Reply k b ∷ rest → ((w.nodes p).part.asked q ≡ true) × ((w.nodes p).answered q ≡ false)) (sym (net_raised first n steps)) (reply_in k b rest (net.channel q p) refl)

  pub asked_from_each : (k : InstName) (b : Bool) (rest : List NodeParcel) → (net_run (opening_from n first) steps).channel q p ≡ Decide k b ∷ rest → is_in (((net_run (opening_from n first) steps).nodes p).asks q) k ≡ true
  asked_from_each k b rest = subst (λ (w : Net). w.channel q p ≡ Decide k b ∷ rest → is_in ((w.nodes p).asks q) k ≡ true) (sym (net_raised first n steps)) (decision_in k b rest (net.channel q p) refl)

  pub heeded_from_each : (k : InstName) (b : Bool) (rest : List NodeParcel) → (net_run (opening_from n first) steps).channel q p ≡ Decide k b ∷ rest
      → heeds ((net_run (opening_from n first) steps).nodes p) q k ≡ is_in ((net_run (opening_from n first) steps).nodes p).inst k
  heeded_from_each k b rest = subst (λ (w : Net). w.channel q p ≡ Decide k b ∷ rest → heeds (w.nodes p) q k ≡ is_in (w.nodes p).inst k) (sym (net_raised first n steps)) (heeded_in k b rest (net.channel q p) refl)
