-- What a late step puts into channels is counted.
use Rattle.std.proofs.Common.{◌≡◌, ℕ, ◌+◌, ◌≤◌, ◌<◌, Bool, true, false, List, [], ◌∷◌, refl, arith, sym, subst, ◌∙◌}
use Rattle.std.specs.Prelude.{◌==◌, ◌&&◌, not, nat_lt, if◌then◌else◌}
use Rattle.kt_spacetime.specs.declared.event.Event.TheVariants.{Received, Dropped, Took, Ready, Unwilling, Decided, Closed}
use Rattle.kt_base.specs.declared.words.Cause.{Cause}
use Rattle.kt_protocol.specs.LateClosing.{late_deciding_as, late_deciding, late_closing_checkpoint, late_closing_rollback, late_closing}
use Rattle.kt_protocol.specs.LateSteps.{late_settling, late_ask, late_front}
use Rattle.kt_protocol.proofs.Choices.{at_if}
use Rattle.kt_protocol.specs.Deciding.{after_decision, none_of}
use Rattle.kt_protocol.specs.Joining.{count_below, after_joining_checkpoint, after_joining_rollback, must_take, must_roll}
use Rattle.kt_protocol.specs.Messages.{after_arrival}
use Rattle.kt_protocol.specs.Parcels.{Parcel, App, Ask, Reply, Decide, Lists, with_rest, with_checkpoint_asks, with_rollback_asks, with_decisions, has_parcel}
use Rattle.kt_protocol.specs.Replies.{after_noting, after_replying, after_unwilling, after_reply, after_answering}
use Rattle.kt_protocol.specs.States.{State, is_ready}
use Rattle.kt_promises.proofs.MachineWork.{machine_parcels_in_transit, machine_put_so_far}
use Rattle.kt_promises.specs.Tallies.{total_below}
use Rattle.kt_promises.proofs.Totals.{total_at, length_push, in_transit_with_parcel, checkpoint_asks_in_transit, rollback_asks_in_transit, decisions_in_transit, in_transit_with_rest}

-- from s to s' at least d more are put than come into channels, and at most i more instances begin
pub record Accounted (n k d i : ℕ) (s s' : State) : Type 0 where
  pub room : machine_parcels_in_transit n s'.channel + machine_put_so_far k s + d ≤ machine_parcels_in_transit n s.channel + machine_put_so_far k s'
  pub instances : s'.instances ≤ s.instances + i
  pub processes : s'.processes ≡ s.processes

pub after : (n k d i e j : ℕ) (s s' s'' : State) → Accounted n k d i s s' → Accounted n k e j s' s'' → Accounted n k (d + e) (i + j) s s''
after n k d i e j s s' s'' a b = record {
  room = (let x = a.room in let y = b.room in omega (arith, x, y));
  instances = (let x = a.instances in let y = b.instances in omega (arith, x, y));
  processes = b.processes ∙ a.processes;
}

-- at least one, where there are more
pub enough : (n k d i e j : ℕ) (s s' : State) → e ≤ d → i ≤ j → Accounted n k d i s s' → Accounted n k e j s s'
enough n k d i e j s s' h o a = record { room = (let x = a.room in omega (arith, x, h)); instances = (let x = a.instances in omega (arith, x, o)); processes = a.processes }

module _ (n k : ℕ) where
  pub accounted_same : (s : State) → Accounted n k 0 0 s s
  accounted_same s = record { room = omega arith; instances = omega arith; processes = refl }

  deciding_accounted : (s : State) (p j : ℕ) (c roll : Bool) → Accounted n k 0 0 s (late_deciding_as c roll s p j)
  deciding_accounted s p j false roll = let l = length_push s.log (Decided p j false) in record { room = omega (arith, l); instances = omega arith; processes = refl }
  deciding_accounted s p j true roll = let l = length_push s.log (Decided p j true) in record { room = omega (arith, l); instances = omega arith; processes = refl }

  closing_accounted : (s : State) (p j : ℕ) (c : Bool) → s.processes ≡ n → j < k → Accounted n k 0 0 s (late_closing s p j c)
  closing_accounted s p j c b h = at_if (Accounted n k 0 0 s) (s.so_far.is_rollback j) _ _ (λ _. rolls c) (λ _. takes c)
    where
      f : (c : Bool) → machine_parcels_in_transit n (with_decisions s.channel s.asked p j c) ≤ machine_parcels_in_transit n s.channel + count_below s.processes (s.asked j p)
      f c = let x = decisions_in_transit n s.channel s.asked p j c in subst (λ (m : ℕ). machine_parcels_in_transit n (with_decisions s.channel s.asked p j c) ≤ machine_parcels_in_transit n s.channel + count_below m (s.asked j p)) (sym b) x

      d : total_below k (λ v. if v == j then s.decisions j + count_below s.processes (s.asked j p) else s.decisions v) ≡ total_below k s.decisions + count_below s.processes (s.asked j p)
      d = total_at k j (count_below s.processes (s.asked j p)) s.decisions h

      rolls : (c : Bool) → Accounted n k 0 0 s (late_closing_rollback s p j c)
      rolls true = let x = f true in let y = d in let l = length_push s.log (Closed p j) in record { room = omega (arith, x, y, l); instances = omega arith; processes = refl }
      rolls false = let x = f false in let y = d in let l = length_push s.log (Closed p j) in record { room = omega (arith, x, y, l); instances = omega arith; processes = refl }

      takes : (c : Bool) → Accounted n k 0 0 s (late_closing_checkpoint s p j c)
      takes true = let x = f true in let y = d in let l = length_push s.log (Closed p j) in record { room = omega (arith, x, y, l); instances = omega arith; processes = refl }
      takes false = let x = f false in let y = d in let l = length_push s.log (Closed p j) in record { room = omega (arith, x, y, l); instances = omega arith; processes = refl }

  answering_accounted : (s : State) (p j : ℕ) → j < k → Accounted n k 0 0 s (after_answering s p j)
  answering_accounted s p j h =
      let x = in_transit_with_parcel n s.channel p (s.parent j p) (Reply j (s.all_willing j p)) in
      let y = total_at k j 1 s.replies h in
      record { room = omega (arith, x, y); instances = omega arith; processes = refl }

  pub settling_accounted : (s : State) (p j : ℕ) → s.processes ≡ n → j < k → Accounted n k 0 0 s (late_settling s p j)
  settling_accounted s p j b h = at_if (Accounted n k 0 0 s) (none_of s.processes (s.awaits j p)) _ _
      (λ _. at_if (Accounted n k 0 0 s) (p == s.initiator j) _ _
      (λ _. let d = deciding_accounted s p j (s.all_willing j p) (s.so_far.is_rollback j) in after n k 0 0 0 0 s (late_deciding s p j) _ d (closing_accounted (late_deciding s p j) p j (s.all_willing j p) (d.processes ∙ b) h))
      (λ _. answering_accounted s p j h))
      (λ _. accounted_same s)

  pub joining_checkpoint_accounted : (s : State) (channel : Lists) (p j : ℕ) (is_first : Bool) (par lnk d : ℕ) → s.processes ≡ n → j < k → machine_parcels_in_transit n channel + d ≤ machine_parcels_in_transit n s.channel → Accounted n k d 0 s (after_joining_checkpoint s channel p j is_first par lnk)
  joining_checkpoint_accounted s channel p j is_first par lnk d b h e =
      let x = subst (λ (m : ℕ). machine_parcels_in_transit n (with_checkpoint_asks channel s.last_received p j) ≤ machine_parcels_in_transit n channel + count_below m (λ v. nat_lt 0 (s.last_received p v))) (sym b) (checkpoint_asks_in_transit n channel s.last_received p j) in
      let y = total_at k j (count_below s.processes (λ v. nat_lt 0 (s.last_received p v))) s.asks h in
      let l = length_push s.log (Took p j) in
      record { room = omega (arith, x, y, l, e); instances = omega arith; processes = refl }

  pub joining_rollback_accounted : (s : State) (channel : Lists) (p j : ℕ) (is_first : Bool) (par lnk d : ℕ) → s.processes ≡ n → j < k → machine_parcels_in_transit n channel + d ≤ machine_parcels_in_transit n s.channel → Accounted n k d 0 s (after_joining_rollback s channel p j is_first par lnk)
  joining_rollback_accounted s channel p j is_first par lnk d b h e =
      let x = subst (λ (m : ℕ). machine_parcels_in_transit n (with_rollback_asks channel s.first_sent s.last_sent p j) ≤ machine_parcels_in_transit n channel + count_below m (λ v. nat_lt 0 (s.first_sent p v))) (sym b) (rollback_asks_in_transit n channel s.first_sent s.last_sent p j) in
      let y = total_at k j (count_below s.processes (λ v. nat_lt 0 (s.first_sent p v))) s.asks h in
      let l = length_push s.log (Ready p j) in
      record { room = omega (arith, x, y, l, e); instances = omega arith; processes = refl }

  -- what p takes of q in the channel
  module _ (s : State) (p q : ℕ) (b : s.processes ≡ n) (pl : p < n) (ql : q < n) where
    pop : (x : Parcel) (rest : List Parcel) → s.channel q p ≡ x ∷ rest → machine_parcels_in_transit n s.channel ≡ machine_parcels_in_transit n (with_rest s.channel q p rest) + 1
    pop x rest e = in_transit_with_rest n s.channel q p x rest e ql pl

    replying_accounted : (j : ℕ) (w : Bool) (x : Parcel) (rest : List Parcel) → s.channel q p ≡ x ∷ rest → j < k → Accounted n k 1 0 s (after_replying s p q j w rest)
    replying_accounted j w x rest e h =
        let a = pop x rest e in
        let c = in_transit_with_parcel n (with_rest s.channel q p rest) p q (Reply j w) in
        let y = total_at k j 1 s.replies h in
        record { room = omega (arith, a, c, y); instances = omega arith; processes = refl }

    unwilling_accounted : (j : ℕ) (cause : Cause) (x : Parcel) (rest : List Parcel) → s.channel q p ≡ x ∷ rest → j < k → Accounted n k 1 0 s (after_unwilling s p q j cause rest)
    unwilling_accounted j cause x rest e h =
        let a = pop x rest e in
        let c = in_transit_with_parcel n (with_rest s.channel q p rest) p q (Reply j false) in
        let y = total_at k j 1 s.replies h in
        let l = length_push s.log (Unwilling p j cause) in
        record { room = omega (arith, a, c, y, l); instances = omega arith; processes = refl }

    ask_even : (able : Bool) (j l : ℕ) (rest : List Parcel) → s.channel q p ≡ Ask j l ∷ rest → j < k → Accounted n k 1 0 s (late_ask s p q able j l rest)
    ask_even able j l rest e h = at_if (Accounted n k 1 0 s) (s.so_far.open_in p == j) _ _ (λ _. noted)
        (λ _. at_if (Accounted n k 1 0 s) (not (s.so_far.open_in p == 0)) _ _ (λ _. unwilling_accounted j _ (Ask j l) rest e h)
        (λ _. at_if (Accounted n k 1 0 s) (s.so_far.is_rollback j) _ _
        (λ _. at_if (Accounted n k 1 0 s) (must_roll s p q l) _ _ (λ _. rolls) (λ _. replying_accounted j true (Ask j l) rest e h))
        (λ _. at_if (Accounted n k 1 0 s) (not (must_take s p q l)) _ _ (λ _. replying_accounted j true (Ask j l) rest e h)
        (λ _. at_if (Accounted n k 1 0 s) (not (able && s.up p)) _ _ (λ _. unwilling_accounted j _ (Ask j l) rest e h) (λ _. joins)))))
      where
        less : machine_parcels_in_transit n (with_rest s.channel q p rest) + 1 ≤ machine_parcels_in_transit n s.channel
        less = let a = pop (Ask j l) rest e in omega (arith, a)

        noted : Accounted n k 1 0 s (after_replying (after_noting s p q j l) p q j true rest)
        noted = let a = replying_accounted j true (Ask j l) rest e h in record { room = a.room; instances = a.instances; processes = a.processes }

        rolls : Accounted n k 1 0 s (late_settling (after_joining_rollback (after_noting s p q j l) (with_rest s.channel q p rest) p j false q (s.last_received p q)) p j)
        rolls = let x = joining_rollback_accounted (after_noting s p q j l) (with_rest s.channel q p rest) p j false q (s.last_received p q) 1 b h less in
            let y : Accounted n k 1 0 s (after_joining_rollback (after_noting s p q j l) (with_rest s.channel q p rest) p j false q (s.last_received p q)) = record { room = x.room; instances = x.instances; processes = x.processes } in
            after n k 1 0 0 0 s (after_joining_rollback (after_noting s p q j l) (with_rest s.channel q p rest) p j false q (s.last_received p q)) _ y (settling_accounted (after_joining_rollback (after_noting s p q j l) (with_rest s.channel q p rest) p j false q (s.last_received p q)) p j b h)

        joins : Accounted n k 1 0 s (late_settling (after_joining_checkpoint s (with_rest s.channel q p rest) p j false q l) p j)
        joins = after n k 1 0 0 0 s (after_joining_checkpoint s (with_rest s.channel q p rest) p j false q l) _ (joining_checkpoint_accounted s (with_rest s.channel q p rest) p j false q l 1 b h less) (settling_accounted (after_joining_checkpoint s (with_rest s.channel q p rest) p j false q l) p j b h)

    pub arrival_accounted : (channel held : Lists) (m : ℕ) → machine_parcels_in_transit n channel ≤ machine_parcels_in_transit n s.channel → Accounted n k 1 0 s (after_arrival s channel held p q m)
    arrival_accounted channel held m e = at_if (Accounted n k 1 0 s) (s.up p) _ _
        (λ _. let l = length_push s.log (Received p q m) in record { room = omega (arith, l, e); instances = omega arith; processes = refl })
        (λ _. let l = length_push s.log (Dropped p q m) in record { room = omega (arith, l, e); instances = omega arith; processes = refl })

    -- the instance of the parcel in front has begun
    abbrev pub Low : List Parcel → Type 0
    Low [] = Unit {0}
    Low (App m ∷ rest) = Unit {0}
    Low (Ask j l ∷ rest) = j < k
    Low (Reply j w ∷ rest) = j < k
    Low (Decide j c ∷ rest) = j < k

    pub front_accounted : (able : Bool) (l : List Parcel) → s.channel q p ≡ l → Low l → has_parcel l ≡ true → Accounted n k 1 0 s (late_front s p q able l)
    front_accounted able [] e h a = absurd (cc (a))
    front_accounted able (App m ∷ rest) e h a = let x = pop (App m) rest e in at_if (Accounted n k 1 0 s) (is_ready s p) _ _
        (λ _. record { room = omega (arith, x); instances = omega arith; processes = refl })
        (λ _. arrival_accounted (with_rest s.channel q p rest) s.held m (omega (arith, x)))
    front_accounted able (Ask j l ∷ rest) e h a = ask_even able j l rest e h
    front_accounted able (Reply j w ∷ rest) e h a = let x = pop (Reply j w) rest e in
        let y : Accounted n k 1 0 s (after_reply s p q j w rest) = record { room = omega (arith, x); instances = omega arith; processes = refl } in
        after n k 1 0 0 0 s (after_reply s p q j w rest) _ y (settling_accounted (after_reply s p q j w rest) p j b h)
    front_accounted able (Decide j c ∷ rest) e h a = let x = pop (Decide j c) rest e in
        let y : Accounted n k 1 0 s (after_decision s p q rest) = record { room = omega (arith, x); instances = omega arith; processes = refl } in
        at_if (Accounted n k 1 0 s) (s.so_far.open_in p == j) _ _ (λ _. after n k 1 0 0 0 s (after_decision s p q rest) _ y (closing_accounted (after_decision s p q rest) p j c b h)) (λ _. y)
