-- In a net nothing that comes is forged: who is asked is asked to join an instance whose initiator is there, and in it; a reply
-- is of who was asked and has not replied; a decision is of who asked.
use Rattle.std.proofs.Common.{◌≡◌, ◌∙◌, ℕ, ◌<◌, ◌≤◌, length, Bool, true, false, not, Some, None, List, [], ◌∷◌, ◌++◌, refl, sym, ap, subst, arith, inl, inr}
use Rattle.std.specs.Prelude.{◌==◌, ◌&&◌, ◌||◌, nat_lt, if◌then◌else◌}
use Rattle.std.proofs.lemmas.Bool.Decides.{nat_tests}
use Rattle.std.proofs.lemmas.List.{append-nil, append_assoc}
use Rattle.kt_base.specs.declared.words.Kind.{Kind}
use Rattle.kt_spacetime.specs.declared.names.InstName.{InstName}
use Rattle.kt_meaning.specs.Names.{nothing_given, given_by}
use Rattle.kt_protocol.proofs.Choices.{same}
use Rattle.kt_protocol.proofs.Invariant.{Invariant}
use Rattle.kt_protocol.proofs.LateWholeSteps.{once_closed_run}
use Rattle.kt_protocol.proofs.Replying.{ask_facts}
use Rattle.kt_protocol.proofs.SameStates.{closed_no_restore}
use Rattle.kt_protocol.proofs.Updates.{is_same}
use Rattle.kt_protocol.proofs.WholeSteps.{all_after_run}
use Rattle.kt_protocol.specs.Parcels.{Parcel, App, Reply, Decide}
use Rattle.kt_protocol.specs.Parcels as parcel
use Rattle.kt_protocol.specs.States.{ProtocolStep, State, opening}
use Rattle.kt_protocol.specs.LateSteps.{late_step, late_run}
use Rattle.kt_protocol.specs.OnceClosed.{once_closed}
use Rattle.kt_machine.specs.Labelling.{Labelling, labelling}
use Rattle.kt_machine.specs.Seen.{seen_parcels}
use Rattle.kt_machine.proofs.Runs.{known_run}
use Rattle.kt_manager.specs.declared.parcels.NodeParcel.{NodeParcel}
use Rattle.kt_manager.specs.declared.parcels.NodeParcel.TheVariants.{Ask}
use Rattle.kt_manager.specs.declared.parcels.NodeParcel.TheVariants as put
use Rattle.kt_manager.specs.Nodes.{NodeState}
use Rattle.kt_manager.specs.NodeSteps.{is_one, is_in}
use Rattle.kt_node.specs.NodeSteps.{is_begun, heeds}
use Rattle.kt_node.specs.Nets.{net_run, opening_net}
use Rattle.kt_node.specs.Erasing.{name_in, erased_inst, erased_parcels}
use Rattle.kt_node.proofs.Naming.{naming_of_log}
use Rattle.kt_node.proofs.Initiators.{named_by}
use Rattle.kt_node.proofs.Awaiting.{Awaits, Met, since_step}
use Rattle.kt_node.proofs.Owing.{Follows}
use Rattle.kt_node.proofs.Steps.{reply_due, heeds_each}
use Rattle.kt_node.proofs.Runs.{late_push, shown, due_run, nodes_shown, channels_shown}

-- who awaits another process is one that there is
abbrev AreNear : State → Type 0
AreNear c = (p q : ℕ) → Awaits c p q → p < c.processes

above : (n : ℕ) → nat_lt 0 n ≡ true → 0 < n
above n e = grind (arith, nat_tests, e)

met_near : (c : State) (p q : ℕ) → Invariant (once_closed c) → c.so_far.open_in p ≡ 0 → Met c p q → p < c.processes
met_near c p q g o m =
    let free = closed_no_restore c.so_far p o in elim m [
      | inl e ↦ (let pos : 0 < (once_closed c).last_received p q = subst (λ (b : Bool). 0 < (if b then 0 else c.last_received p q)) (sym free) (above (c.last_received p q) e) in
          let r = g.tables.last_received_is p q pos in
          let low = g.messages.sent_low ((once_closed c).last_received p q) (g.messages.received_low ((once_closed c).last_received p q) r.0).0 in
          subst (λ (u : ℕ). u < c.processes) r.2 low.4)
      | inr e ↦ (let pos : 0 < (once_closed c).first_sent p q = subst (λ (b : Bool). 0 < (if b then 0 else c.first_sent p q)) (sym free) (above (c.first_sent p q) e) in
          let r = g.tables.first_sent_is p q pos in
          let low = g.messages.sent_low ((once_closed c).first_sent p q) r.0 in
          subst (λ (u : ℕ). u < c.processes) r.1 low.3)
    ]

near_next : (n : ℕ) (steps : List ProtocolStep) (x : ProtocolStep) → AreNear (late_run (opening n) steps) → AreNear (late_step (late_run (opening n) steps) x)
near_next n steps x h p q a =
    let c = late_run (opening n) steps in
    let s = since_step p q c x in
    subst (λ (m : ℕ). p < m) (sym s.processes) (elim (s.awaits a) [
      | inl y ↦ met_near c p q (known_run n steps).invariant y.0 y.1
      | inr y ↦ h p q y.1
    ])

near_along : (n : ℕ) (xs ys : List ProtocolStep) → AreNear (late_run (opening n) xs) → AreNear (late_run (opening n) (xs ++ ys))
near_along n xs [] h = subst (λ (l : List ProtocolStep). AreNear (late_run (opening n) l)) (sym (append-nil xs)) h
near_along n xs (y ∷ ys) h = subst (λ (l : List ProtocolStep). AreNear (late_run (opening n) l)) (append_assoc xs (y ∷ []) ys)
    (near_along n (xs ++ y ∷ []) ys (subst AreNear (sym (late_push (opening n) xs y)) (near_next n xs y h)))

near_run : (n : ℕ) (steps : List ProtocolStep) → AreNear (late_run (opening n) steps)
near_run n steps = near_along n [] steps (λ p q a. absurd (let b = a.0 in omega (arith, b)))

module _ (n first : ℕ) (steps : List ProtocolStep) (p q : ℕ) where
  abbrev c : State
  c = late_run (opening n) steps

  abbrev name : ℕ → InstName
  name = name_in (late_run (opening n) steps).log

  abbrev t : Labelling
  t = labelling first (late_run (opening n) steps).log

  abbrev y : NodeState
  y = (net_run (opening_net n first) steps).nodes p

  within : (a b : ℕ) → a < b → nat_lt a b ≡ true
  within a b l = grind (arith, nat_tests, l)

  -- the initiator is there, and in its instance
  begins : (j l : ℕ) (rest : List Parcel) → c.channel q p ≡ parcel.Ask j l ∷ rest → is_begun y (name j) ≡ true
  begins j l rest e =
      let g = (known_run n steps).invariant in
      let f = ask_facts (once_closed c) q p j l rest e g in
      let i = c.initiator j in
      let joined : c.so_far.joined j i ≡ true = (g.positions.joined_instance j q f.1).2 in
      let is_open : c.so_far.open_in i ≡ j = g.positions.member_open j i joined f.2 in
      let waits = subst (λ (z : State). z.so_far.joined j i ≡ true → z.so_far.is_decided j ≡ false → (i == z.initiator j || not (z.has_answered j i)) ≡ true → (u : ℕ) × (z.awaits j i u ≡ true)) (sym (once_closed_run n steps)) ((all_after_run n steps).waiting j i).waits in
      let u = waits joined f.2 (rw (is_same i) refl) in
      let near = near_run n steps i u.0 (subst (λ (m : ℕ). (0 < m) × (c.awaits m i u.0 ≡ true)) (sym is_open) (f.3, u.1)) in
      let named : (name j).initiator ≡ i = named_by c.log name j i ((naming_of_log c.log).names j f.3 (all_named f.4)) ((known_run n steps).lawful.first j f.3 f.4) in
      let shown = nodes_shown n first steps p in
      both (nat_lt (name j).initiator y.processes) _
      (ap (λ (m : ℕ). nat_lt m y.processes) named ∙ (ap (λ (z : NodeState). nat_lt i z.processes) shown ∙ within i c.processes near))
      (ap (λ (m : ℕ). not (m == y.me) || is_in y.inst (name j)) named ∙ (ap (λ (z : NodeState). not (i == z.me) || is_in z.inst (name j)) shown ∙ own (i == p) refl is_open f.3))
    where
      all_named : j ≤ c.instances → j ≤ length (given_by nothing_given c.log).initiators
      all_named l = let z = shown n first steps in subst (λ (m : ℕ). j ≤ m) (sym z.1.told.begun_is) l

      both : (a b : Bool) → a ≡ true → b ≡ true → (a && b) ≡ true
      both a b e f = rw (e, f) refl

      is_one_self : (k : InstName) → is_one k k ≡ true
      is_one_self k = rw (is_same k.initiator, is_same k.count) refl

      is_none : (j : ℕ) → (j == 0) ≡ true → 0 < j → ⊥
      is_none j e l = grind (arith, nat_tests, e, l)

      inside : (m : ℕ) → m ≡ j → 0 < j → is_in (erased_inst name m) (name j) ≡ true
      inside m e l = at_test (m == 0) refl
        where
          at_test : (b : Bool) → (m == 0) ≡ b → is_in (if b then None else Some (name m)) (name j) ≡ true
          at_test true z = absurd (is_none m z (subst (λ (k : ℕ). 0 < k) (sym e) l))
          at_test false z = ap (λ (k : ℕ). is_one (name k) (name j)) e ∙ is_one_self (name j)

      own : (b : Bool) → (c.initiator j == p) ≡ b → c.so_far.open_in (c.initiator j) ≡ j → 0 < j → (not (c.initiator j == p) || is_in (erased_inst name (c.so_far.open_in p)) (name j)) ≡ true
      own false e o l = ap (λ (b : Bool). not b || is_in (erased_inst name (c.so_far.open_in p)) (name j)) e
      own true e o l = ap (λ (b : Bool). not b || is_in (erased_inst name (c.so_far.open_in p)) (name j)) e
          ∙ inside (c.so_far.open_in p) (ap c.so_far.open_in (sym (same (c.initiator j) p e)) ∙ o) l

  -- an ask in front
  at_front : (k : InstName) (kind : Kind) (label : ℕ) (rest : List NodeParcel) (xs : List Parcel) → c.channel q p ≡ xs → erased_parcels name (seen_parcels t.label t.body c.so_far.is_rollback xs) ≡ Ask k kind label ∷ rest → is_begun y k ≡ true
  unfolding seen_parcels
  at_front k kind label rest [] e f = absurd (cc (f))
  at_front k kind label rest (App m ∷ xs) e f = absurd (cc (f))
  at_front k kind label rest (parcel.Ask j l ∷ xs) e f = let is : name j ≡ k = cc (f) in subst (λ (k : InstName). is_begun y k ≡ true) is (begins j l xs e)
  at_front k kind label rest (Reply j b ∷ xs) e f = absurd (cc (f))
  at_front k kind label rest (Decide j b ∷ xs) e f = absurd (cc (f))

  pub ask_begun : (k : InstName) (kind : Kind) (label : ℕ) (rest : List NodeParcel) → (net_run (opening_net n first) steps).channel q p ≡ Ask k kind label ∷ rest → is_begun y k ≡ true
  ask_begun k kind label rest e = at_front k kind label rest (c.channel q p) refl (sym (channels_shown n first steps q p) ∙ e)

  -- a reply in front
  reply_front : (k : InstName) (b : Bool) (rest : List NodeParcel) (xs : List Parcel) → c.channel q p ≡ xs → erased_parcels name (seen_parcels t.label t.body c.so_far.is_rollback xs) ≡ put.Reply k b ∷ rest → (y.part.asked q ≡ true) × (y.answered q ≡ false)
  unfolding seen_parcels
  reply_front k b rest [] e f = absurd (cc (f))
  reply_front k b rest (App m ∷ xs) e f = absurd (cc (f))
  reply_front k b rest (parcel.Ask j l ∷ xs) e f = absurd (cc (f))
  reply_front k b rest (Reply j w ∷ xs) e f =
      let s = shown n first steps in
      let r = reply_due n first steps name s.0 (net_run (opening_net n first) steps) s.1 (due_run n first steps) p q j w xs e in
      (ap (λ (z : NodeState). z.part.asked q) (nodes_shown n first steps p) ∙ r.1.1.0, r.1.1.1)
  reply_front k b rest (Decide j w ∷ xs) e f = absurd (cc (f))

  pub reply_owed : (k : InstName) (b : Bool) (rest : List NodeParcel) → (net_run (opening_net n first) steps).channel q p ≡ put.Reply k b ∷ rest → (y.part.asked q ≡ true) × (y.answered q ≡ false)
  reply_owed k b rest e = reply_front k b rest (c.channel q p) refl (sym (channels_shown n first steps q p) ∙ e)

  -- a decision in front
  decision_front : (k : InstName) (b : Bool) (rest : List NodeParcel) (xs : List Parcel) → c.channel q p ≡ xs → erased_parcels name (seen_parcels t.label t.body c.so_far.is_rollback xs) ≡ put.Decide k b ∷ rest → heeds y q k ≡ is_in y.inst k
  unfolding seen_parcels
  decision_front k b rest [] e f = absurd (cc (f))
  decision_front k b rest (App m ∷ xs) e f = absurd (cc (f))
  decision_front k b rest (parcel.Ask j l ∷ xs) e f = absurd (cc (f))
  decision_front k b rest (Reply j w ∷ xs) e f = absurd (cc (f))
  decision_front k b rest (Decide j w ∷ xs) e f =
      let s = shown n first steps in
      let is : name j ≡ k = cc (f) in
      subst (λ (k : InstName). heeds y q k ≡ is_in y.inst k) is (heeds_each n first steps name s.0 (net_run (opening_net n first) steps) s.1 (due_run n first steps) p q j w xs e)

  -- who is in its instance heeds it
  pub decision_heeded : (k : InstName) (b : Bool) (rest : List NodeParcel) → (net_run (opening_net n first) steps).channel q p ≡ put.Decide k b ∷ rest → heeds y q k ≡ is_in y.inst k
  decision_heeded k b rest e = decision_front k b rest (c.channel q p) refl (sym (channels_shown n first steps q p) ∙ e)

  pub decision_asked : (k : InstName) (b : Bool) (rest : List NodeParcel) → (net_run (opening_net n first) steps).channel q p ≡ put.Decide k b ∷ rest → is_in (y.asks q) k ≡ true
  decision_asked k b rest e = let d = due_run n first steps in (subst (Follows (y.asks q)) e (d.told q p).0).0
