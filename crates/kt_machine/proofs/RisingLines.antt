-- Lines rise: what a receiver has received itself of a sender, what it holds of it, and what is in the channel.
use Rattle.std.proofs.Common.{◌≡◌, ℕ, ℤ, ◌+◌, ◌<◌, Bool, true, false, None, List, [], ◌∷◌, ◌++◌, take, drop, refl, arith, sym, ap, ap₂, subst, ◌∙◌, append_assoc, inl, inr}
use Rattle.std.specs.Prelude.{◌==◌, ◌&&◌, if◌then◌else◌}
use Rattle.std.proofs.lemmas.Bool.{cases_lt}
use Rattle.std.proofs.lemmas.Bool.Decides.{nat_tests}
use Rattle.std.proofs.lemmas.List.{take-append-drop}
use Rattle.kt_spacetime.specs.declared.event.Event.{Event}
use Rattle.kt_spacetime.specs.declared.event.Event.TheVariants.{Sent, Received, Dropped, Began, Took, Ready, Unwilling, Decided, Closed, Failed, Refused}
use Rattle.kt_spacetime.specs.declared.deeds.Deed.{Deed}
use Rattle.kt_meaning.specs.Past.{past, is_rollback, is_committed}
use Rattle.kt_meaning.specs.Legal.{IsLegal, broken_rule}
use Rattle.kt_meaning.proofs.LegalLogs.{legal_last}
use Rattle.kt_protocol.specs.Parcels.{messages, Parcel, App, Reply, Lists, with_parcel, with_rest, messages_where}
use Rattle.kt_protocol.specs.InTransit.{times, received_of}
use Rattle.kt_protocol.specs.Summary.{Summary, summary}
use Rattle.kt_protocol.specs.States.{State, ProtocolStep, opening}
use Rattle.kt_protocol.specs.Joining.{kind_for, after_began, after_joining_checkpoint, after_joining_rollback}
use Rattle.kt_protocol.specs.Messages.{after_sending, after_receiving, after_dropping, after_failing, after_refusal}
use Rattle.kt_protocol.proofs.Invariant.{Invariant}
use Rattle.kt_protocol.proofs.Lines.{Over, Rising, Thin, thin_all, thin_append, thin_messages_where, rising_thin, rising_push, apps_append, apps_with_parcel, apps_with_rest, apps_checkpoint_asks, apps_rollback_asks, apps_sending}
use Rattle.kt_protocol.specs.LateClosing.{is_within_label, late_deciding_as, late_deciding, late_closing, late_closing_checkpoint, late_closing_rollback}
use Rattle.kt_protocol.specs.LateSteps.{late_step, late_run}
use Rattle.kt_protocol.specs.OnceClosed.{once_closed}
use Rattle.kt_machine.specs.Done.{Done, done, done_after}
use Rattle.kt_machine.specs.Values.{Act}
use Rattle.kt_machine.specs.Acts.{stepper}
use Rattle.kt_machine.specs.States.{messages_between, IsAbove, AreRisingNumbers}
use Rattle.kt_machine.proofs.DoneAlong.{done_more}
use Rattle.kt_machine.proofs.OwnAndLive.{cut_in}
use Rattle.kt_machine.proofs.LegalFacts.{sound}
use Rattle.kt_machine.proofs.OwnHistories.{closed_kind}
use Rattle.kt_machine.proofs.AddedRows.{decided_log, closed_log}
use Rattle.kt_machine.proofs.StepWalk.{Moves, walk, refuses_now}
use Rattle.kt_machine.proofs.ReceivedMessages.{got_append, got_known}
use Rattle.kt_machine.proofs.Lines.{line_received, line_received_held, line_held, times_line}
use Rattle.kt_machine.proofs.ListedMessages.{Carried, carried, carried_of}
use Rattle.kt_machine.proofs.OnceInLines.{no_app, line_same, times_rows, got_same, rows_are, length_is, closed_chan, closed_held}
use Rattle.kt_machine.proofs.KeptLists as kept

pub record Rises (d : Done) (x y : Lists) : Type 0 where
  pub each : (p q : ℕ) → Rising (messages_between d.own x y p q)

pub record Here (p : ℕ) (s : State) (a : List Act) : Type 0 where
  pub keeps : kept.Here p s a
  pub carried : Carried s a
  pub rises : IsLegal s.log → Rises (done s.log) s.channel s.held

pub record Gone (s : State) (a : List Act) : Type 0 where
  pub keeps : kept.Gone s a
  pub carried : Carried s a
  pub rises : IsLegal s.log → Rises (done s.log) s.channel s.held

same_rises : (d d' : Done) (x y x' y' : Lists) → ((u v : ℕ) → messages_between d'.own x' y' u v ≡ messages_between d.own x y u v) → Rises d x y → Rises d' x' y'
same_rises d d' x y x' y' e i = record { each = λ u v. subst Rising (sym (e u v)) (i.each u v) }

thin_rises : (d d' : Done) (x y x' y' : Lists) → ((u v : ℕ) → Thin (messages_between d'.own x' y' u v) (messages_between d.own x y u v)) → Rises d x y → Rises d' x' y'
thin_rises d d' x y x' y' e i = record { each = λ u v. rising_thin (messages_between d'.own x' y' u v) (messages_between d.own x y u v) (e u v) (i.each u v) }

-- a front goes
thin_popped : (channel : Lists) (q p m : ℕ) (rest : List Parcel) → channel q p ≡ App m ∷ rest → (u v : ℕ) → Thin (messages (with_rest channel q p rest u v)) (messages (channel u v))
unfolding with_rest
thin_popped channel q p m rest e u v = go (u == q && v == p) refl
  where
    both : (a b c d : ℕ) → (a == b && c == d) ≡ true → (a ≡ b) × (c ≡ d)
    both a b c d e = (grind (arith, nat_tests, e), grind (arith, nat_tests, e))

    go : (b : Bool) → (u == q && v == p) ≡ b → Thin (messages (if b then rest else channel u v)) (messages (channel u v))
    go false z = thin_all (messages (channel u v))
    go true z = let s = both u q v p z in subst (Thin (messages rest)) (sym (ap₂ (λ (a b : ℕ). messages (channel a b)) s.0 s.1 ∙ ap messages e)) (inl (thin_all (messages rest)))

-- a send
rises_sent : (s : State) (p q : ℕ) (body : ℤ) → IsLegal s.log → Carried s [] → Rises (done s.log) s.channel s.held → Rises (done_after (done s.log) (Sent p q body)) (with_parcel s.channel p q (App (s.so_far.rows + 1))) s.held
rises_sent s p q body l w i = record { each = λ u v. subst Rising (sym (grown u v (u == p && v == q) refl)) (more u v (u == p && v == q)) }
  where
    low : (u v m : ℕ) → 0 < times m (messages_between (done s.log).own s.channel s.held u v) → m < s.so_far.rows + 1
    low u v m h = elim (cases_lt m (s.so_far.rows + 1)) [
      | inl x ↦ x
      | inr x ↦
          let r = rows_are s p q body l w in
          let r' = length_is s p q body l w in
          let a = got_known (done s.log).past.rows u m ((done s.log).own v) ((sound s.log l).bounds.known v) (omega (arith, r, x)) in
          let b = times_rows s.log u v m (s.held u v) (w.held u v) (omega (arith, r', x)) in
          let c = times_rows s.log u v m (s.channel u v) (w.channel u v) (omega (arith, r', x)) in
          let t = times_line m (done s.log).own s.channel s.held u v in
          absurd (omega (arith, h, a, b, c, t))
    ]

    more : (u v : ℕ) (b : Bool) → Rising (if b then messages_between (done s.log).own s.channel s.held u v ++ (s.so_far.rows + 1) ∷ [] else messages_between (done s.log).own s.channel s.held u v)
    more u v true = rising_push (messages_between (done s.log).own s.channel s.held u v) (s.so_far.rows + 1) (i.each u v) (low u v)
    more u v false = i.each u v

    grown : (u v : ℕ) (b : Bool) → (u == p && v == q) ≡ b → messages_between (done_after (done s.log) (Sent p q body)).own (with_parcel s.channel p q (App (s.so_far.rows + 1))) s.held u v ≡ (if b then messages_between (done s.log).own s.channel s.held u v ++ (s.so_far.rows + 1) ∷ [] else messages_between (done s.log).own s.channel s.held u v)
    grown u v b e = ap₂ (λ (x y : List ℕ). x ++ (messages (s.held u v) ++ y)) (got_same s p q body l w u v) (apps_sending s.channel p q (s.so_far.rows + 1) u v ∙ ap (λ (t : Bool). if t then messages (s.channel u v) ++ (s.so_far.rows + 1) ∷ [] else messages (s.channel u v)) e) ∙ go b
      where
        go : (b : Bool) → received_of u ((done s.log).own v) ++ (messages (s.held u v) ++ (if b then messages (s.channel u v) ++ (s.so_far.rows + 1) ∷ [] else messages (s.channel u v))) ≡ (if b then messages_between (done s.log).own s.channel s.held u v ++ (s.so_far.rows + 1) ∷ [] else messages_between (done s.log).own s.channel s.held u v)
        go false = refl
        go true = sym (append_assoc (received_of u ((done s.log).own v)) (messages (s.held u v) ++ messages (s.channel u v)) ((s.so_far.rows + 1) ∷ []) ∙ ap (λ (x : List ℕ). received_of u ((done s.log).own v) ++ x) (append_assoc (messages (s.held u v)) (messages (s.channel u v)) ((s.so_far.rows + 1) ∷ [])))

-- closing
module _ (s : State) (p k : ℕ) (n : s.so_far ≡ summary s.log) (l : IsLegal s.log) (e : broken_rule (past s.log) (Closed p k) ≡ None) (keeps : kept.Keeps (done s.log) s.kept) (i : Rises (done s.log) s.channel s.held) where
  kinds : (is_rollback (done s.log).past k ≡ s.so_far.is_rollback k) × (is_committed (done s.log).past k ≡ s.so_far.is_committed k)
  kinds = let x = closed_kind s.log p k l e in (x.0 ∙ ap (λ (h : Summary). h.is_rollback k) (sym n), x.1 ∙ ap (λ (h : Summary). h.is_committed k) (sym n))

  -- at others
  there : (w : Bool) (u v : ℕ) → (v == p) ≡ false → Thin (messages_between (done_after (done s.log) (Closed p k)).own (late_closing s p k w).channel (late_closing s p k w).held u v) (messages_between (done s.log).own s.channel s.held u v)
  there w u v z =
      let g : (done_after (done s.log) (Closed p k)).own v ≡ (done s.log).own v = rw z refl in
      subst (Thin (messages_between (done_after (done s.log) (Closed p k)).own (late_closing s p k w).channel (late_closing s p k w).held u v)) (ap₂ (λ (x y : List ℕ). x ++ y) (ap (received_of u) g) (ap₂ (λ (x y : List ℕ). x ++ y) (ap messages (closed_held s p k w u v z)) (closed_chan s p k w u v))) (thin_all _)

  -- at p, where its history and its held lists stay
  plain : (w : Bool) (u : ℕ) → cut_in (done s.log).past k ((done s.log).permanent p) ((done s.log).own p) ≡ (done s.log).own p → (late_closing s p k w).held u p ≡ s.held u p → Thin (received_of u (cut_in (done s.log).past k ((done s.log).permanent p) ((done s.log).own p)) ++ (messages ((late_closing s p k w).held u p) ++ messages ((late_closing s p k w).channel u p))) (messages_between (done s.log).own s.channel s.held u p)
  plain w u c h = subst (Thin _) (ap₂ (λ (x y : List ℕ). x ++ y) (ap (received_of u) c) (ap₂ (λ (x y : List ℕ). x ++ y) (ap messages h) (closed_chan s p k w u p))) (thin_all _)

  -- where it is cut back
  cut : (w : Bool) (u : ℕ) → cut_in (done s.log).past k ((done s.log).permanent p) ((done s.log).own p) ≡ take ((done s.log).permanent p) ((done s.log).own p) → (late_closing s p k w).held u p ≡ messages_where (is_within_label s k p u) (s.kept u p) ++ messages_where (is_within_label s k p u) (s.held u p) → Thin (received_of u (cut_in (done s.log).past k ((done s.log).permanent p) ((done s.log).own p)) ++ (messages ((late_closing s p k w).held u p) ++ messages ((late_closing s p k w).channel u p))) (messages_between (done s.log).own s.channel s.held u p)
  cut w u c h =
      let t = is_within_label s k p u in
      let new : received_of u (cut_in (done s.log).past k ((done s.log).permanent p) ((done s.log).own p)) ++ (messages ((late_closing s p k w).held u p) ++ messages ((late_closing s p k w).channel u p)) ≡ received_of u (take ((done s.log).permanent p) ((done s.log).own p)) ++ (messages (messages_where t (s.kept u p)) ++ (messages (messages_where t (s.held u p)) ++ messages (s.channel u p))) =
      ap₂ (λ (x y : List ℕ). x ++ y) (ap (received_of u) c) (ap₂ (λ (x y : List ℕ). x ++ y) (ap messages h ∙ apps_append (messages_where t (s.kept u p)) (messages_where t (s.held u p))) (closed_chan s p k w u p) ∙ append_assoc (messages (messages_where t (s.kept u p))) (messages (messages_where t (s.held u p))) (messages (s.channel u p))) in
      let old : messages_between (done s.log).own s.channel s.held u p ≡ received_of u (take ((done s.log).permanent p) ((done s.log).own p)) ++ (messages (s.kept u p) ++ (messages (s.held u p) ++ messages (s.channel u p))) =
      ap (λ (x : List ℕ). x ++ (messages (s.held u p) ++ messages (s.channel u p))) (ap (received_of u) (sym (take-append-drop ((done s.log).permanent p) ((done s.log).own p))) ∙ (got_append u (take ((done s.log).permanent p) ((done s.log).own p)) (drop ((done s.log).permanent p) ((done s.log).own p)) ∙ ap (λ (x : List ℕ). received_of u (take ((done s.log).permanent p) ((done s.log).own p)) ++ x) (sym (keeps.each p u))))
      ∙ append_assoc (received_of u (take ((done s.log).permanent p) ((done s.log).own p))) (messages (s.kept u p)) (messages (s.held u p) ++ messages (s.channel u p)) in
      subst (λ (x : List ℕ). Thin x (messages_between (done s.log).own s.channel s.held u p)) (sym new) (subst (Thin _) (sym old)
      (thin_append _ _ _ _ (thin_all (received_of u (take ((done s.log).permanent p) ((done s.log).own p)))) (thin_append _ _ _ _ (thin_messages_where t (s.kept u p)) (thin_append _ _ _ _ (thin_messages_where t (s.held u p)) (thin_all (messages (s.channel u p)))))))

  -- the held lists of who closes
  held_then : (w : Bool) (u : ℕ) → s.so_far.is_rollback k ≡ true → (late_closing s p k w).held u p ≡ (if w then messages_where (is_within_label s k p u) (s.kept u p) ++ messages_where (is_within_label s k p u) (s.held u p) else s.held u p)
  held_then w u r = ap (λ (b : Bool). (if b then late_closing_rollback s p k w else late_closing_checkpoint s p k w).held u p) r ∙ go w
    where
      go : (w : Bool) → (late_closing_rollback s p k w).held u p ≡ (if w then messages_where (is_within_label s k p u) (s.kept u p) ++ messages_where (is_within_label s k p u) (s.held u p) else s.held u p)
      go true = let z : (p == p) ≡ true = grind (arith, nat_tests) in rw z refl
      go false = refl

  held_stays : (w : Bool) (u : ℕ) → s.so_far.is_rollback k ≡ false → (late_closing s p k w).held u p ≡ s.held u p
  held_stays w u r = ap (λ (b : Bool). (if b then late_closing_rollback s p k w else late_closing_checkpoint s p k w).held u p) r ∙ go w
    where
      go : (w : Bool) → (late_closing_checkpoint s p k w).held u p ≡ s.held u p
      go true = refl
      go false = refl

  here : (w : Bool) (u : ℕ) → s.so_far.is_committed k ≡ w → Thin (received_of u (cut_in (done s.log).past k ((done s.log).permanent p) ((done s.log).own p)) ++ (messages ((late_closing s p k w).held u p) ++ messages ((late_closing s p k w).channel u p))) (messages_between (done s.log).own s.channel s.held u p)
  here w u v = go (s.so_far.is_rollback k) w refl v
    where
      go : (r w : Bool) → s.so_far.is_rollback k ≡ r → s.so_far.is_committed k ≡ w → Thin (received_of u (cut_in (done s.log).past k ((done s.log).permanent p) ((done s.log).own p)) ++ (messages ((late_closing s p k w).held u p) ++ messages ((late_closing s p k w).channel u p))) (messages_between (done s.log).own s.channel s.held u p)
      go true true r v = cut true u (rw (kinds.0 ∙ r, kinds.1 ∙ v) refl) (held_then true u r)
      go true false r v = plain false u (rw (kinds.0 ∙ r, kinds.1 ∙ v) refl) (held_then false u r)
      go false w r v = plain w u (rw (kinds.0 ∙ r) refl) (held_stays w u r)

  rises_closed : (w : Bool) → s.so_far.is_committed k ≡ w → Rises (done_after (done s.log) (Closed p k)) (late_closing s p k w).channel (late_closing s p k w).held
  rises_closed w v = thin_rises (done s.log) (done_after (done s.log) (Closed p k)) s.channel s.held (late_closing s p k w).channel (late_closing s p k w).held (λ u x. go u x (x == p) refl) i
    where
      go : (u x : ℕ) (b : Bool) → (x == p) ≡ b → Thin (messages_between (done_after (done s.log) (Closed p k)).own (late_closing s p k w).channel (late_closing s p k w).held u x) (messages_between (done s.log).own s.channel s.held u x)
      go u x false z = there w u x z
      go u x true z =
          let y : x ≡ p = grind (arith, nat_tests) in
          let t : (done_after (done s.log) (Closed p k)).own x ≡ cut_in (done s.log).past k ((done s.log).permanent p) ((done s.log).own p) = rw z refl in
          subst (λ (d : List Deed). Thin (received_of u d ++ (messages ((late_closing s p k w).held u x) ++ messages ((late_closing s p k w).channel u x))) (messages_between (done s.log).own s.channel s.held u x)) (sym t)
          (subst (λ (a : ℕ). Thin (received_of u (cut_in (done s.log).past k ((done s.log).permanent p) ((done s.log).own p)) ++ (messages ((late_closing s p k w).held u a) ++ messages ((late_closing s p k w).channel u a))) (messages_between (done s.log).own s.channel s.held u a)) (sym y) (here w u v))

gone : {p : ℕ} {s : State} {a : List Act} → Here p s a → Gone s a
gone i = record { keeps = record { places = i.keeps.places; kept = i.keeps.kept }; carried = i.carried; rises = i.rises }

-- the rises of a state with one more row, or with none
risen : (s s' : State) (x : Event) → s'.log ≡ s.log ++ x ∷ [] → (IsLegal s.log → broken_rule (past s.log) x ≡ None → Rises (done s.log) s.channel s.held → Rises (done_after (done s.log) x) s'.channel s'.held) → (IsLegal s.log → Rises (done s.log) s.channel s.held) → IsLegal s'.log → Rises (done s'.log) s'.channel s'.held
risen s s' x e f i l = let g = legal_last s.log x (subst IsLegal e l) in subst (λ (d : Done). Rises d s'.channel s'.held) (sym (ap done e ∙ done_more s.log (x ∷ []))) (f g.0 g.1 (i g.0))

decided_lists : (s : State) (p k : ℕ) (w roll : Bool) → ((late_deciding_as w roll s p k).channel ≡ s.channel) × ((late_deciding_as w roll s p k).held ≡ s.held)
decided_lists s p k false roll = (refl, refl)
decided_lists s p k true false = (refl, refl)
decided_lists s p k true true = (refl, refl)

-- lines that are the same
by_lists : (d : Done) (x y x' y' : Lists) → ((u v : ℕ) → messages (x' u v) ≡ messages (x u v)) → ((u v : ℕ) → messages (y' u v) ≡ messages (y u v)) → Rises d x y → Rises d x' y'
by_lists d x y x' y' e f i = same_rises d d x y x' y' (line_same d.own x y x' y' e f) i

moves : (z : ProtocolStep) (p : ℕ) → Moves z p (Here p) Gone
moves z p = let c = carried z p in let t = kept.keeps_moves z p in record {
  ends = λ s a i. gone i;
  sends = λ s q body a b o u i. record { keeps = t.sends s q body a b o u i.keeps; carried = c.sends s q body a b o u i.carried; rises = risen s (after_sending s p q body) (Sent p q body) refl (λ l e g. rises_sent s p q body l (record { known = i.carried.known; channel = i.carried.channel; held = i.carried.held; kept = i.carried.kept }) g) i.rises };
  declines = λ s v cause a i. record { keeps = t.declines s v cause a i.keeps; carried = c.declines s v cause a i.carried; rises = risen s (after_refusal s p v cause) (Refused p v cause) refl (λ l e g. record { each = g.each }) i.rises };
  fails = λ s a b u i. record { keeps = t.fails s a b u i.keeps; carried = c.fails s a b u i.carried; rises = risen s (after_failing s p) (Failed p) refl (λ l e g. record { each = g.each }) i.rises };
  opens = λ s roll a o i. record { keeps = t.opens s roll a o i.keeps; carried = c.opens s roll a o i.carried; rises = risen s (after_began s p roll) (Began p (s.instances + 1) (kind_for roll)) refl (λ l e g. record { each = g.each }) i.rises };
  takes = λ s k f v w a o u i. record { keeps = t.takes s k f v w a o u i.keeps; carried = c.takes s k f v w a o u i.carried; rises = risen s (after_joining_checkpoint s s.channel p k f v w) (Took p k) refl (λ l e g. record { each = (by_lists (done s.log) s.channel s.held (after_joining_checkpoint s s.channel p k f v w).channel s.held (apps_checkpoint_asks s.channel s.last_received p k) (λ u v. refl) g).each }) i.rises };
  rolls = λ s k f v w a o i. record { keeps = t.rolls s k f v w a o i.keeps; carried = c.rolls s k f v w a o i.carried; rises = risen s (after_joining_rollback s s.channel p k f v w) (Ready p k) refl (λ l e g. record { each = (by_lists (done s.log) s.channel s.held (after_joining_rollback s s.channel p k f v w).channel s.held (apps_rollback_asks s.channel s.first_sent s.last_sent p k) (λ u v. refl) g).each }) i.rises };
  notes = λ s q k l a i. record { keeps = t.notes s q k l a i.keeps; carried = c.notes s q k l a i.carried; rises = i.rises };
  receives = λ s q m rest a y u e n i. record { keeps = t.receives s q m rest a y u e n i.keeps; carried = c.receives s q m rest a y u e n i.carried; rises = risen s (after_receiving s (with_rest s.channel q p rest) s.held p q m) (Received p q m) refl (λ l b g. same_rises (done s.log) (done_after (done s.log) (Received p q m)) s.channel s.held (with_rest s.channel q p rest) s.held (line_received (done s.log).own s.channel s.held p q m rest e n) g) i.rises };
  receives_held = λ s q m rest a y u e i. record { keeps = t.receives_held s q m rest a y u e i.keeps; carried = c.receives_held s q m rest a y u e i.carried; rises = risen s (after_receiving s s.channel (with_rest s.held q p rest) p q m) (Received p q m) refl (λ l b g. same_rises (done s.log) (done_after (done s.log) (Received p q m)) s.channel s.held s.channel (with_rest s.held q p rest) (line_received_held (done s.log).own s.channel s.held p q m rest e) g) i.rises };
  loses = λ s q m rest a y u e n i. record { keeps = t.loses s q m rest a y u e n i.keeps; carried = c.loses s q m rest a y u e n i.carried; rises = risen s (after_dropping s (with_rest s.channel q p rest) s.held p q m) (Dropped p q m) refl (λ l b g. thin_rises (done s.log) (done_after (done s.log) (Dropped p q m)) s.channel s.held (with_rest s.channel q p rest) s.held (λ u v. thin_append _ _ _ _ (thin_all (received_of u ((done s.log).own v))) (thin_append _ _ _ _ (thin_all (messages (s.held u v))) (thin_popped s.channel q p m rest e u v))) g) i.rises };
  loses_held = λ s q m rest a y u e i. record { keeps = t.loses_held s q m rest a y u e i.keeps; carried = c.loses_held s q m rest a y u e i.carried; rises = risen s (after_dropping s s.channel (with_rest s.held q p rest) p q m) (Dropped p q m) refl (λ l b g. thin_rises (done s.log) (done_after (done s.log) (Dropped p q m)) s.channel s.held s.channel (with_rest s.held q p rest) (λ u v. thin_append _ _ _ _ (thin_all (received_of u ((done s.log).own v))) (thin_append _ _ _ _ (thin_popped s.held q p m rest e u v) (thin_all (messages (s.channel u v))))) g) i.rises };
  holds = λ s q m rest a y e i. record { keeps = t.holds s q m rest a y e i.keeps; carried = c.holds s q m rest a y e i.carried; rises = λ l. same_rises (done s.log) (done s.log) s.channel s.held (with_rest s.channel q p rest) (with_parcel s.held q p (App m)) (line_held (done s.log).own s.channel s.held p q m rest e) (i.rises l) };
  drops = λ s q x rest a e f i. record { keeps = t.drops s q x rest a e f i.keeps; carried = c.drops s q x rest a e f i.carried; rises = λ l. by_lists (done s.log) s.channel s.held (with_rest s.channel q p rest) s.held (apps_with_rest s.channel q p x rest e (no_app x f)) (λ u v. refl) (i.rises l) };
  replies = λ s q k w a i. record { keeps = t.replies s q k w a i.keeps; carried = c.replies s q k w a i.carried; rises = λ l. by_lists (done s.log) s.channel s.held (with_parcel s.channel p q (Reply k w)) s.held (apps_with_parcel s.channel p q (Reply k w) refl) (λ u v. refl) (i.rises l) };
  refuses = λ s q k cause a i. record { keeps = t.refuses s q k cause a i.keeps; carried = c.refuses s q k cause a i.carried; rises = risen s (refuses_now s p q k cause) (Unwilling p k cause) refl (λ l e g. record { each = (by_lists (done s.log) s.channel s.held (with_parcel s.channel p q (Reply k false)) s.held (apps_with_parcel s.channel p q (Reply k false) refl) (λ u v. refl) g).each }) i.rises };
  counts = λ s q k w a i. record { keeps = t.counts s q k w a i.keeps; carried = c.counts s q k w a i.carried; rises = i.rises };
  answers = λ s k a i. record { keeps = t.answers s k a i.keeps; carried = c.answers s k a i.carried; rises = λ l. by_lists (done s.log) s.channel s.held (with_parcel s.channel p (s.parent k p) (Reply k (s.all_willing k p))) s.held (apps_with_parcel s.channel p (s.parent k p) (Reply k (s.all_willing k p)) refl) (λ u v. refl) (i.rises l) };
  decides = λ s k a o e b i. let f = decided_log p s s k (s.all_willing k p) (s.so_far.is_rollback k) refl in let g = decided_lists s p k (s.all_willing k p) (s.so_far.is_rollback k) in record { keeps = t.decides s k a o e b i.keeps; carried = c.decides s k a o e b i.carried; rises = risen s (late_deciding s p k) (Decided p k (s.all_willing k p)) f.0 (λ l j h. same_rises (done s.log) (done_after (done s.log) (Decided p k (s.all_willing k p))) s.channel s.held (late_deciding s p k).channel (late_deciding s p k).held (λ u v. ap₂ (λ (x y : Lists). messages_between (done s.log).own x y u v) g.0 g.1) h) i.rises };
  closes = λ s k w a o d v h i. let f = closed_log p s s k w in record { keeps = t.closes s k w a o d v h i.keeps; carried = c.closes s k w a o d v h i.carried; rises = risen s (late_closing s p k w) (Closed p k) f.0 (λ l e g. rises_closed s p k i.carried.known l e (i.keeps.kept l) g w v) i.rises };
}

run_rises : (c : State) (steps : List ProtocolStep) → ((xs : List ProtocolStep) → Invariant (once_closed (late_run c xs))) → Gone c [] → Gone (late_run c steps) []
run_rises c [] g i = i
run_rises c (x ∷ xs) g i =
    let y = walk x (Here (stepper x)) Gone (moves x (stepper x)) c (g []) (record { keeps = record { places = i.keeps.places; placed = λ j m t e. ((g []).histories.received_is (stepper x) j m t e).2; kept = i.keeps.kept }; carried = i.carried; rises = i.rises }) in
    run_rises (late_step c x) xs (λ ys. g (x ∷ ys)) (record { keeps = record { places = record { known = y.keeps.places.known; fits = y.keeps.places.fits }; kept = y.keeps.kept }; carried = record { known = y.carried.known; channel = y.carried.channel; held = y.carried.held; kept = y.carried.kept }; rises = y.rises })

above_same : (n : ℕ) (l : List ℕ) → Over n l → IsAbove n l
above_same n [] o = tt
above_same n (x ∷ l) o = (o.0, above_same n l o.1)

rising_same : (l : List ℕ) → Rising l → AreRisingNumbers l
rising_same [] r = tt
rising_same (x ∷ l) r = (above_same x l r.0, rising_same l r.1)

pub gone_of : (n : ℕ) (steps : List ProtocolStep) → ((xs : List ProtocolStep) → Invariant (once_closed (late_run (opening n) xs))) → Gone (late_run (opening n) steps) []
gone_of n steps g = run_rises (opening n) steps g (record { keeps = kept.kept_of n [] (λ xs. g xs); carried = carried_of n [] (λ xs. g xs); rises = λ l. record { each = λ p q. tt } })

pub rises_of : (n : ℕ) (steps : List ProtocolStep) → ((xs : List ProtocolStep) → Invariant (once_closed (late_run (opening n) xs))) → IsLegal (late_run (opening n) steps).log → (p q : ℕ) → AreRisingNumbers (messages_between (done (late_run (opening n) steps).log).own (late_run (opening n) steps).channel (late_run (opening n) steps).held p q)
rises_of n steps g l p q = rising_same _ (((gone_of n steps g).rises l).each p q)

pub kept_is : (n : ℕ) (steps : List ProtocolStep) → ((xs : List ProtocolStep) → Invariant (once_closed (late_run (opening n) xs))) → IsLegal (late_run (opening n) steps).log → (p q : ℕ) → messages ((late_run (opening n) steps).kept q p) ≡ received_of q (drop ((done (late_run (opening n) steps).log).permanent p) ((done (late_run (opening n) steps).log).own p))
kept_is n steps g l p q = ((gone_of n steps g).keeps.kept l).each p q
