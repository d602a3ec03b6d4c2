-- Each step raises the tallies by the asks, replies and decisions that it adds to the channels.
use Rattle.std.proofs.Common.{length, ◌≡◌, ℕ, ℤ, ◌+◌, ◌<◌, Bool, true, false, List, [], ◌∷◌, refl, arith, sym, ap, subst, ◌∙◌, Some, None}
use Rattle.std.specs.Prelude.{◌==◌, ◌&&◌, not, nat_lt, if◌then◌else◌, Option, unwrap_or}
use Rattle.std.proofs.lemmas.Bool.Decides.{nat_tests}
use Rattle.kt_base.specs.declared.words.Cause.TheVariants.{Busy}
use Rattle.kt_protocol.specs.LateClosing.{late_deciding_as, late_deciding, late_closing_checkpoint, late_closing_rollback, late_closing}
use Rattle.kt_protocol.specs.LateSteps.{late_settling, late_ask, late_front, late_take, late_beginning, late_step}
use Rattle.kt_protocol.specs.OnceClosed.{once_closed}
use Rattle.kt_protocol.proofs.Answering.{reply_facts}
use Rattle.kt_protocol.proofs.Choices.{at_if, same, differ}
use Rattle.kt_protocol.proofs.Updates.{is_same, at_pair_here}
use Rattle.kt_protocol.specs.Deciding.{after_decision, none_of}
use Rattle.kt_protocol.specs.Joining.{count_below, after_began, after_joining_checkpoint, after_joining_rollback, must_take, must_roll}
use Rattle.kt_protocol.specs.Messages.{after_arrival, after_receiving, after_dropping, after_holding, after_sending}
use Rattle.kt_protocol.specs.Parcels.{Parcel, App, Ask, Reply, Decide, Lists, with_parcel, with_rest, with_decisions, has_parcel}
use Rattle.kt_protocol.specs.Replies.{after_noting, after_replying, after_unwilling, after_reply, after_answering, unable_cause}
use Rattle.kt_protocol.specs.States.{State, is_ready, can_take}
use Rattle.kt_protocol.specs.States as machine
use Rattle.kt_plan.specs.declared.commands.Command.{Command}
use Rattle.kt_plan.specs.Limits.{IsJobOf, Planned}
use Rattle.kt_plan.specs.declared.commands.Job.{Job}
use Rattle.kt_promises.proofs.MachineProgress.{MachineProgress, machine_next_command}
use Rattle.kt_plan.specs.declared.steps.Step.TheVariants.{Do, Take}
use Rattle.kt_plan.specs.declared.steps.Give.{Give}
use Rattle.kt_plan.specs.declared.steps.Step.{Step}
use Rattle.kt_promises.proofs.MachineSteps.{machine_after_command, machine_enabled, machine_may_do}
use Rattle.kt_promises.specs.Steps.{protocol_step}
use Rattle.kt_promises.proofs.MachineTallies.{IsTallied, IsTalliedStep, machine_count_in_channels, machine_count_in_front, machine_is_ask_of, machine_is_decision_of, machine_is_reply_of, machine_taken_off}
use Rattle.kt_plan.specs.declared.commands.Job.TheVariants as job
use Rattle.kt_promises.proofs.RunFacts.{RunFacts, opened_command, opened_take}
use Rattle.kt_promises.proofs.StateFacts.{StateFacts, state_facts}
use Rattle.kt_promises.proofs.StepRows.{turn_of}
use Rattle.kt_promises.proofs.Totals.{bit}
use Rattle.kt_promises.proofs.ChannelCounts.{some_of, count_with_parcel, count_checkpoint_asks, count_rollback_asks, count_decisions, count_with_rest}

abbrev pub Off : Type 0
Off = (Parcel → Bool) → ℕ

abbrev pub none : Off
none t = 0

abbrev pub one_off : Parcel → Off
one_off x t = bit (t x)

raised : (k j x : ℕ) (f : ℕ → ℕ) → (if k == j then f j + x else f k) ≡ f k + some_of (j == k) x
unfolding some_of
raised k j x f = go (k == j) (j == k) refl refl
  where
    go : (a b : Bool) → (k == j) ≡ a → (j == k) ≡ b → (if a then f j + x else f k) ≡ f k + (if b then x else 0)
    go true true e d = let y = same k j e in rw y refl
    go false false e d = omega arith
    go true false e d = absurd (let y = same k j e in let z = is_same j in let w : (j == j) ≡ false = rw y at d in cc (z, w))
    go false true e d = absurd (let y = same j k d in let z = is_same k in let w : (k == k) ≡ false = rw y at e in cc (z, w))

some_one : (b : Bool) → some_of b 1 ≡ bit b
unfolding some_of
some_one b = refl

some_none : (x : ℕ) → some_of false x ≡ 0
unfolding some_of
some_none x = refl

pub follow : (n : ℕ) (o : Off) (s s' s'' : State) → IsTallied n o s s' → IsTallied n none s' s'' → IsTallied n o s s''
follow n o s s' s'' a b = record {
  asks = λ k. (let x = a.asks k in let y = b.asks k in omega (arith, x, y));
  replies = λ k. (let x = a.replies k in let y = b.replies k in omega (arith, x, y));
  decisions = λ k. (let x = a.decisions k in let y = b.decisions k in omega (arith, x, y));
}

-- nothing changes
pub unchanged : (n : ℕ) (s s' : State) → s'.channel ≡ s.channel → s'.asks ≡ s.asks → s'.replies ≡ s.replies → s'.decisions ≡ s.decisions → IsTallied n none s s'
unchanged n s s' c a r d = record {
  asks = λ k. (let x = ap (machine_count_in_channels n (machine_is_ask_of k)) c in let y = ap (λ (f : ℕ → ℕ). f k) a in omega (arith, x, y));
  replies = λ k. (let x = ap (machine_count_in_channels n (machine_is_reply_of k)) c in let y = ap (λ (f : ℕ → ℕ). f k) r in omega (arith, x, y));
  decisions = λ k. (let x = ap (machine_count_in_channels n (machine_is_decision_of k)) c in let y = ap (λ (f : ℕ → ℕ). f k) d in omega (arith, x, y));
}

module _ (n : ℕ) where
  -- a channel loses its first
  pop_tallied : (s s' : State) (p q : ℕ) (x : Parcel) (rest : List Parcel) → p < n → q < n → s.channel q p ≡ x ∷ rest → s'.channel ≡ with_rest s.channel q p rest → s'.asks ≡ s.asks → s'.replies ≡ s.replies → s'.decisions ≡ s.decisions → IsTallied n (one_off x) s s'
  pop_tallied s s' p q x rest pl ql e c a r d = record {
    asks = λ k. (let z = count_with_rest n (machine_is_ask_of k) s.channel q p x rest e ql pl in let w = ap (machine_count_in_channels n (machine_is_ask_of k)) c in let y = ap (λ (f : ℕ → ℕ). f k) a in omega (arith, z, w, y));
    replies = λ k. (let z = count_with_rest n (machine_is_reply_of k) s.channel q p x rest e ql pl in let w = ap (machine_count_in_channels n (machine_is_reply_of k)) c in let y = ap (λ (f : ℕ → ℕ). f k) r in omega (arith, z, w, y));
    decisions = λ k. (let z = count_with_rest n (machine_is_decision_of k) s.channel q p x rest e ql pl in let w = ap (machine_count_in_channels n (machine_is_decision_of k)) c in let y = ap (λ (f : ℕ → ℕ). f k) d in omega (arith, z, w, y));
  }

  -- a reply is put
  reply_tallied : (s s' : State) (p q j : ℕ) (w : Bool) → p < n → q < n → s'.channel ≡ with_parcel s.channel p q (Reply j w) → s'.asks ≡ s.asks → s'.replies ≡ (λ k. if k == j then s.replies j + 1 else s.replies k) → s'.decisions ≡ s.decisions → IsTallied n none s s'
  reply_tallied s s' p q j w pl ql c a r d = record {
    asks = λ k. (let z = count_with_parcel n (machine_is_ask_of k) s.channel p q (Reply j w) pl ql in let v = ap (machine_count_in_channels n (machine_is_ask_of k)) c in let y = ap (λ (f : ℕ → ℕ). f k) a in omega (arith, z, v, y));
    replies = λ k. (let z = count_with_parcel n (machine_is_reply_of k) s.channel p q (Reply j w) pl ql in let v = ap (machine_count_in_channels n (machine_is_reply_of k)) c in let y = ap (λ (f : ℕ → ℕ). f k) r in let i = raised k j 1 s.replies in let o = some_one (j == k) in omega (arith, z, v, y, i, o));
    decisions = λ k. (let z = count_with_parcel n (machine_is_decision_of k) s.channel p q (Reply j w) pl ql in let v = ap (machine_count_in_channels n (machine_is_decision_of k)) c in let y = ap (λ (f : ℕ → ℕ). f k) d in omega (arith, z, v, y));
  }

  -- decisions are told
  tell_tallied : (s s' : State) (p j : ℕ) (c : Bool) → s.processes ≡ n → p < n → s'.channel ≡ with_decisions s.channel s.asked p j c → s'.asks ≡ s.asks → s'.replies ≡ s.replies → s'.decisions ≡ (λ k. if k == j then s.decisions j + count_below s.processes (s.asked j p) else s.decisions k) → IsTallied n none s s'
  tell_tallied s s' p j c b pl ch a r d = record {
    asks = λ k. (let z = count_decisions n (machine_is_ask_of k) false s.channel s.asked p j c pl refl in let v = ap (machine_count_in_channels n (machine_is_ask_of k)) ch in let y = ap (λ (f : ℕ → ℕ). f k) a in let o = some_none (count_below n (s.asked j p)) in omega (arith, z, v, y, o));
    replies = λ k. (let z = count_decisions n (machine_is_reply_of k) false s.channel s.asked p j c pl refl in let v = ap (machine_count_in_channels n (machine_is_reply_of k)) ch in let y = ap (λ (f : ℕ → ℕ). f k) r in let o = some_none (count_below n (s.asked j p)) in omega (arith, z, v, y, o));
    decisions = λ k. (let z = count_decisions n (machine_is_decision_of k) (j == k) s.channel s.asked p j c pl refl in let v = ap (machine_count_in_channels n (machine_is_decision_of k)) ch in let y = ap (λ (f : ℕ → ℕ). f k) d in let i = raised k j (count_below s.processes (s.asked j p)) s.decisions in let o = ap (λ (m : ℕ). some_of (j == k) (count_below m (s.asked j p))) b in omega (arith, z, v, y, i, o));
  }

  deciding_tallied : (s : State) (p j : ℕ) (c roll : Bool) → IsTallied n none s (late_deciding_as c roll s p j)
  deciding_tallied s p j false roll = unchanged n s _ refl refl refl refl
  deciding_tallied s p j true roll = unchanged n s _ refl refl refl refl

  deciding_processes : (s : State) (p j : ℕ) (c roll : Bool) → (late_deciding_as c roll s p j).processes ≡ s.processes
  deciding_processes s p j false roll = refl
  deciding_processes s p j true roll = refl

  closing_tallied : (s : State) (p j : ℕ) (c : Bool) → s.processes ≡ n → p < n → IsTallied n none s (late_closing s p j c)
  closing_tallied s p j c b pl = at_if (IsTallied n none s) (s.so_far.is_rollback j) _ _ (λ _. rolls c) (λ _. takes c)
    where
      rolls : (c : Bool) → IsTallied n none s (late_closing_rollback s p j c)
      rolls true = tell_tallied s _ p j true b pl refl refl refl refl
      rolls false = tell_tallied s _ p j false b pl refl refl refl refl

      takes : (c : Bool) → IsTallied n none s (late_closing_checkpoint s p j c)
      takes true = tell_tallied s _ p j true b pl refl refl refl refl
      takes false = tell_tallied s _ p j false b pl refl refl refl refl

  settling_tallied : (s : State) (p j : ℕ) → s.processes ≡ n → p < n → ((p == s.initiator j) ≡ false → s.parent j p < n) → IsTallied n none s (late_settling s p j)
  settling_tallied s p j b pl par = at_if (IsTallied n none s) (none_of s.processes (s.awaits j p)) _ _
      (λ _. at_if (IsTallied n none s) (p == s.initiator j) _ _
      (λ _. follow n none s (late_deciding s p j) _ (deciding_tallied s p j (s.all_willing j p) (s.so_far.is_rollback j)) (closing_tallied (late_deciding s p j) p j (s.all_willing j p) (deciding_processes s p j (s.all_willing j p) (s.so_far.is_rollback j) ∙ b) pl))
      (λ e. reply_tallied s (after_answering s p j) p (s.parent j p) j (s.all_willing j p) pl (par e) refl refl refl refl))
      (λ _. unchanged n s s refl refl refl refl)

  -- who joins asks
  joining_checkpoint_tallied : (s m : State) (channel : Lists) (p j : ℕ) (is_first : Bool) (par lnk : ℕ) (o : Off) → s.processes ≡ n → p < n → m.channel ≡ channel → m.asks ≡ s.asks → m.replies ≡ s.replies → m.decisions ≡ s.decisions → IsTallied n o s m → IsTallied n o s (after_joining_checkpoint s channel p j is_first par lnk)
  joining_checkpoint_tallied s m channel p j is_first par lnk o b pl c a r d t = record {
    asks = λ k. (let z = count_checkpoint_asks n (machine_is_ask_of k) (j == k) channel s.last_received p j pl (λ l. refl) in let x = t.asks k in let v = ap (machine_count_in_channels n (machine_is_ask_of k)) c in let y = ap (λ (f : ℕ → ℕ). f k) a in let i = raised k j (count_below s.processes (λ v. nat_lt 0 (s.last_received p v))) s.asks in let u = ap (λ (m : ℕ). some_of (j == k) (count_below m (λ v. nat_lt 0 (s.last_received p v)))) b in omega (arith, z, x, v, y, i, u));
    replies = λ k. (let z = count_checkpoint_asks n (machine_is_reply_of k) false channel s.last_received p j pl (λ l. refl) in let x = t.replies k in let v = ap (machine_count_in_channels n (machine_is_reply_of k)) c in let y = ap (λ (f : ℕ → ℕ). f k) r in let u = some_none (count_below n (λ v. nat_lt 0 (s.last_received p v))) in omega (arith, z, x, v, y, u));
    decisions = λ k. (let z = count_checkpoint_asks n (machine_is_decision_of k) false channel s.last_received p j pl (λ l. refl) in let x = t.decisions k in let v = ap (machine_count_in_channels n (machine_is_decision_of k)) c in let y = ap (λ (f : ℕ → ℕ). f k) d in let u = some_none (count_below n (λ v. nat_lt 0 (s.last_received p v))) in omega (arith, z, x, v, y, u));
  }

  joining_rollback_tallied : (s m : State) (channel : Lists) (p j : ℕ) (is_first : Bool) (par lnk : ℕ) (o : Off) → s.processes ≡ n → p < n → m.channel ≡ channel → m.asks ≡ s.asks → m.replies ≡ s.replies → m.decisions ≡ s.decisions → IsTallied n o s m → IsTallied n o s (after_joining_rollback s channel p j is_first par lnk)
  joining_rollback_tallied s m channel p j is_first par lnk o b pl c a r d t = record {
    asks = λ k. (let z = count_rollback_asks n (machine_is_ask_of k) (j == k) channel s.first_sent s.last_sent p j pl (λ l. refl) in let x = t.asks k in let v = ap (machine_count_in_channels n (machine_is_ask_of k)) c in let y = ap (λ (f : ℕ → ℕ). f k) a in let i = raised k j (count_below s.processes (λ v. nat_lt 0 (s.first_sent p v))) s.asks in let u = ap (λ (m : ℕ). some_of (j == k) (count_below m (λ v. nat_lt 0 (s.first_sent p v)))) b in omega (arith, z, x, v, y, i, u));
    replies = λ k. (let z = count_rollback_asks n (machine_is_reply_of k) false channel s.first_sent s.last_sent p j pl (λ l. refl) in let x = t.replies k in let v = ap (machine_count_in_channels n (machine_is_reply_of k)) c in let y = ap (λ (f : ℕ → ℕ). f k) r in let u = some_none (count_below n (λ v. nat_lt 0 (s.first_sent p v))) in omega (arith, z, x, v, y, u));
    decisions = λ k. (let z = count_rollback_asks n (machine_is_decision_of k) false channel s.first_sent s.last_sent p j pl (λ l. refl) in let x = t.decisions k in let v = ap (machine_count_in_channels n (machine_is_decision_of k)) c in let y = ap (λ (f : ℕ → ℕ). f k) d in let u = some_none (count_below n (λ v. nat_lt 0 (s.first_sent p v))) in omega (arith, z, x, v, y, u));
  }

  module _ (s : State) (p q : ℕ) (b : s.processes ≡ n) (pl : p < n) (ql : q < n) where
    dropped : (x : Parcel) (rest : List Parcel) → s.channel q p ≡ x ∷ rest → IsTallied n (one_off x) s (after_decision s p q rest)
    dropped x rest e = pop_tallied s (after_decision s p q rest) p q x rest pl ql e refl refl refl refl

    answered : (j l : ℕ) (w : Bool) (rest : List Parcel) (s' : State) → s.channel q p ≡ Ask j l ∷ rest → s'.channel ≡ with_parcel (with_rest s.channel q p rest) p q (Reply j w) → s'.asks ≡ s.asks → s'.replies ≡ (λ k. if k == j then s.replies j + 1 else s.replies k) → s'.decisions ≡ s.decisions → IsTallied n (one_off (Ask j l)) s s'
    answered j l w rest s' e c a r d = follow n (one_off (Ask j l)) s (after_decision s p q rest) s' (dropped (Ask j l) rest e) (reply_tallied (after_decision s p q rest) s' p q j w pl ql c a r d)

    ask_tallied : (able : Bool) (j l : ℕ) (rest : List Parcel) → s.channel q p ≡ Ask j l ∷ rest → IsTallied n (one_off (Ask j l)) s (late_ask s p q able j l rest)
    ask_tallied able j l rest e = at_if (IsTallied n (one_off (Ask j l)) s) (s.so_far.open_in p == j) _ _ (λ _. answered j l true rest (after_replying (after_noting s p q j l) p q j true rest) e refl refl refl refl)
        (λ _. at_if (IsTallied n (one_off (Ask j l)) s) (not (s.so_far.open_in p == 0)) _ _ (λ _. answered j l false rest (after_unwilling s p q j (Busy (s.so_far.open_in p)) rest) e refl refl refl refl)
        (λ _. at_if (IsTallied n (one_off (Ask j l)) s) (s.so_far.is_rollback j) _ _
        (λ _. at_if (IsTallied n (one_off (Ask j l)) s) (must_roll s p q l) _ _ (λ _. rolls) (λ _. answered j l true rest (after_replying s p q j true rest) e refl refl refl refl))
        (λ _. at_if (IsTallied n (one_off (Ask j l)) s) (not (must_take s p q l)) _ _ (λ _. answered j l true rest (after_replying s p q j true rest) e refl refl refl refl)
        (λ _. at_if (IsTallied n (one_off (Ask j l)) s) (not (able && s.up p)) _ _ (λ _. answered j l false rest (after_unwilling s p q j (unable_cause (s.up p)) rest) e refl refl refl refl) (λ _. joins)))))
      where
        rolls : IsTallied n (one_off (Ask j l)) s (late_settling (after_joining_rollback (after_noting s p q j l) (with_rest s.channel q p rest) p j false q (s.last_received p q)) p j)
        rolls =
            let x = joining_rollback_tallied (after_noting s p q j l) (after_decision s p q rest) (with_rest s.channel q p rest) p j false q (s.last_received p q) (one_off (Ask j l)) b pl refl refl refl refl (let d = dropped (Ask j l) rest e in record { asks = d.asks; replies = d.replies; decisions = d.decisions }) in
            let y : IsTallied n (one_off (Ask j l)) s (after_joining_rollback (after_noting s p q j l) (with_rest s.channel q p rest) p j false q (s.last_received p q)) = record { asks = x.asks; replies = x.replies; decisions = x.decisions } in
            follow n (one_off (Ask j l)) s (after_joining_rollback (after_noting s p q j l) (with_rest s.channel q p rest) p j false q (s.last_received p q)) _ y
            (settling_tallied (after_joining_rollback (after_noting s p q j l) (with_rest s.channel q p rest) p j false q (s.last_received p q)) p j b pl (λ _. subst (λ (v : ℕ). v < n) (sym (at_pair_here j p q s.parent)) ql))

        joins : IsTallied n (one_off (Ask j l)) s (late_settling (after_joining_checkpoint s (with_rest s.channel q p rest) p j false q l) p j)
        joins = follow n (one_off (Ask j l)) s (after_joining_checkpoint s (with_rest s.channel q p rest) p j false q l) _
            (joining_checkpoint_tallied s (after_decision s p q rest) (with_rest s.channel q p rest) p j false q l (one_off (Ask j l)) b pl refl refl refl refl (dropped (Ask j l) rest e))
            (settling_tallied (after_joining_checkpoint s (with_rest s.channel q p rest) p j false q l) p j b pl (λ _. subst (λ (v : ℕ). v < n) (sym (at_pair_here j p q s.parent)) ql))

    arrival_tallied : (held : Lists) (m : ℕ) → IsTallied n none s (after_arrival s s.channel held p q m)
    arrival_tallied held m = at_if (IsTallied n none s) (s.up p) _ _ (λ _. unchanged n s _ refl refl refl refl) (λ _. unchanged n s _ refl refl refl refl)

    parent_low : (j : ℕ) (w : Bool) (rest : List Parcel) → StateFacts n s → s.channel q p ≡ Reply j w ∷ rest → (p == s.initiator j) ≡ false → s.parent j p < n
    parent_low j w rest r e d = subst (λ (m : ℕ). s.parent j p < m) r.processes (r.after_step.always.counted.asked_low j (s.parent j p) p (r.after_step.always.asked.asked_parent j p (reply_facts (once_closed s) q p j w rest e r.invariant).1 (differ p (s.initiator j) d))).1

    front_tallied : (able : Bool) (l : List Parcel) → StateFacts n s → s.channel q p ≡ l → IsTallied n (λ t. machine_count_in_front t l) s (late_front s p q able l)
    front_tallied able [] r e = unchanged n s s refl refl refl refl
    front_tallied able (App m ∷ rest) r e = at_if (IsTallied n (one_off (App m)) s) (is_ready s p) _ _
        (λ _. pop_tallied s (after_holding s p q m rest) p q (App m) rest pl ql e refl refl refl refl)
        (λ _. at_if (IsTallied n (one_off (App m)) s) (s.up p) _ _
        (λ _. pop_tallied s (after_receiving s (with_rest s.channel q p rest) s.held p q m) p q (App m) rest pl ql e refl refl refl refl)
        (λ _. pop_tallied s (after_dropping s (with_rest s.channel q p rest) s.held p q m) p q (App m) rest pl ql e refl refl refl refl))
    front_tallied able (Ask j l ∷ rest) r e = ask_tallied able j l rest e
    front_tallied able (Reply j w ∷ rest) r e = follow n (one_off (Reply j w)) s (after_reply s p q j w rest) _ (pop_tallied s (after_reply s p q j w rest) p q (Reply j w) rest pl ql e refl refl refl refl)
        (settling_tallied (after_reply s p q j w rest) p j b pl (parent_low j w rest r e))
    front_tallied able (Decide j c ∷ rest) r e = at_if (IsTallied n (one_off (Decide j c)) s) (s.so_far.open_in p == j) _ _
        (λ _. follow n (one_off (Decide j c)) s (after_decision s p q rest) _ (dropped (Decide j c) rest e) (closing_tallied (after_decision s p q rest) p j c b pl))
        (λ _. dropped (Decide j c) rest e)

    pub take_tallied : (able : Bool) → StateFacts n s → IsTallied n (machine_taken_off s (Take p q)) s (late_step s (machine.Take p q able))
    take_tallied able r = go (is_ready s p) (s.held q p)
      where
        go : (z : Bool) (l : List Parcel) → IsTallied n (λ t. if not z && has_parcel l then 0 else machine_count_in_front t (s.channel q p)) s (if z then late_front s p q able (s.channel q p) else late_take s p q able l)
        go true l = front_tallied able (s.channel q p) r refl
        go false [] = front_tallied able (s.channel q p) r refl
        go false (App m ∷ rest) = arrival_tallied (with_rest s.held q p rest) m
        go false (Ask k l ∷ rest) = unchanged n s s refl refl refl refl
        go false (Reply k w ∷ rest) = unchanged n s s refl refl refl refl
        go false (Decide k c ∷ rest) = unchanged n s s refl refl refl refl

  beginning_tallied : (s : State) (p : ℕ) (roll : Bool) → s.processes ≡ n → p < n → IsTallied n none s (late_beginning s p roll)
  beginning_tallied s p false b pl =
      let x = joining_checkpoint_tallied (after_began s p false) s s.channel p (s.instances + 1) true p 0 none b pl refl refl refl refl (unchanged n (after_began s p false) s refl refl refl refl) in
      let y : IsTallied n none s (after_joining_checkpoint (after_began s p false) s.channel p (s.instances + 1) true p 0) = record { asks = x.asks; replies = x.replies; decisions = x.decisions } in
      follow n none s (after_joining_checkpoint (after_began s p false) s.channel p (s.instances + 1) true p 0) _ y
      (settling_tallied (after_joining_checkpoint (after_began s p false) s.channel p (s.instances + 1) true p 0) p (s.instances + 1) b pl (λ _. subst (λ (v : ℕ). v < n) (sym (at_pair_here (s.instances + 1) p p s.parent)) pl))
  beginning_tallied s p true b pl =
      let x = joining_rollback_tallied (after_began s p true) s s.channel p (s.instances + 1) true p 0 none b pl refl refl refl refl (unchanged n (after_began s p true) s refl refl refl refl) in
      let y : IsTallied n none s (after_joining_rollback (after_began s p true) s.channel p (s.instances + 1) true p 0) = record { asks = x.asks; replies = x.replies; decisions = x.decisions } in
      follow n none s (after_joining_rollback (after_began s p true) s.channel p (s.instances + 1) true p 0) _ y
      (settling_tallied (after_joining_rollback (after_began s p true) s.channel p (s.instances + 1) true p 0) p (s.instances + 1) b pl (λ _. subst (λ (v : ℕ). v < n) (sym (at_pair_here (s.instances + 1) p p s.parent)) pl))

  sending_tallied : (s : State) (p q : ℕ) (body : ℤ) → p < n → q < n → IsTallied n none s (after_sending s p q body)
  sending_tallied s p q body pl ql = record {
    asks = λ k. (let z = count_with_parcel n (machine_is_ask_of k) s.channel p q (App (s.so_far.rows + 1)) pl ql in omega (arith, z));
    replies = λ k. (let z = count_with_parcel n (machine_is_reply_of k) s.channel p q (App (s.so_far.rows + 1)) pl ql in omega (arith, z));
    decisions = λ k. (let z = count_with_parcel n (machine_is_decision_of k) s.channel p q (App (s.so_far.rows + 1)) pl ql in omega (arith, z));
  }

  pub job_tallied : (s : State) (p : ℕ) (j : Job) (give : Give) → s.processes ≡ n → p < n → IsJobOf n p j → IsTallied n none s (late_step s (protocol_step p j give))
  job_tallied s p (job.Send q body) give b pl i = at_if (IsTallied n none s) ((nat_lt p s.processes && nat_lt q s.processes) && (s.so_far.open_in p == 0 && not (q == p))) _ _
      (λ _. at_if (IsTallied n none s) (s.up p) _ _ (λ _. sending_tallied s p q (unwrap_or body give.body) pl i.0) (λ _. unchanged n s _ refl refl refl refl))
      (λ _. unchanged n s s refl refl refl refl)
  job_tallied s p job.Checkpoint give b pl i = at_if (IsTallied n none s) (s.so_far.open_in p == 0) _ _
      (λ _. at_if (IsTallied n none s) (give.able && s.up p) _ _ (λ _. beginning_tallied s p false b pl) (λ _. unchanged n s _ refl refl refl refl))
      (λ _. unchanged n s _ refl refl refl refl)
  job_tallied s p job.Rollback give b pl i = at_if (IsTallied n none s) (s.so_far.open_in p == 0) _ _ (λ _. beginning_tallied s p true b pl) (λ _. unchanged n s _ refl refl refl refl)
  job_tallied s p job.Fail give b pl i = at_if (IsTallied n none s) (s.up p) _ _ (λ _. unchanged n s _ refl refl refl refl) (λ _. unchanged n s _ refl refl refl refl)

pub tallied : (plan : Planned) (g : MachineProgress) (x : Step) (give : Give) → RunFacts plan g → machine_enabled plan g x ≡ true → IsTalliedStep plan g x give
tallied plan g (Do p) give k e = go (machine_next_command plan g p) refl e
  where
    go : (o : Option Command) → machine_next_command plan g p ≡ o → (nat_lt p (length plan.names) && machine_may_do g p o) ≡ true → IsTallied (length plan.names) none g.state (machine_after_command plan g p give o).state
    go None n f = unchanged (length plan.names) g.state g.state refl refl refl refl
    go (Some c) n f =
        let t = turn_of plan g p c k n f in
        let r = state_facts plan g k in
        subst (IsTallied (length plan.names) none g.state) (sym (opened_command plan g p give c k n).state)
        (job_tallied (length plan.names) g.state p c.job give r.processes (subst (λ (m : ℕ). p < m) r.processes t.low) (subst (λ (m : ℕ). IsJobOf m p c.job) r.processes t.fits))
tallied plan g (Take p q) give k e = subst (IsTallied (length plan.names) (machine_taken_off g.state (Take p q)) g.state) (sym (opened_take plan g p q give k).state)
    (take_tallied (length plan.names) g.state p q (state_facts plan g k).processes low.0 low.1 give.able (state_facts plan g k))
  where
    tests : (p q n : ℕ) (c : Bool) → ((nat_lt p n && nat_lt q n) && c) ≡ true → (p < n) × (q < n)
    tests p q n c e = grind (arith, nat_tests, e)

    low : (p < length plan.names) × (q < length plan.names)
    low = tests p q (length plan.names) (can_take g.state p q) e
