-- Each step and each run of a late state c, once closed, is that of the protocol's machine.
use Rattle.std.proofs.Common.{◌≡◌, ℕ, ◌+◌, ◌<◌, Bool, true, false, not, List, [], ◌∷◌, refl, arith, sym, ap, ap₂, subst, ◌∙◌}
use Rattle.std.specs.Prelude.{◌==◌, ◌&&◌, nat_lt, nat_le, if◌then◌else◌}
use Rattle.std.proofs.lemmas.Bool.Decides.{nat_tests}
use Rattle.kt_protocol.proofs.Answering.{reply_facts}
use Rattle.kt_protocol.proofs.Beginning.{decide_facts}
use Rattle.kt_protocol.proofs.Choices.{same, closed_of}
use Rattle.kt_protocol.proofs.Deciding.{all_await_none, willing_has_none}
use Rattle.kt_protocol.proofs.Invariant.{Invariant}
use Rattle.kt_protocol.proofs.Receiving.{Taking, message_facts}
use Rattle.kt_protocol.proofs.Replying.{ask_facts}
use Rattle.kt_protocol.proofs.StepFacts.{awaits_none, joining, rolling_in, noted_invariant, new_undecided, new_joining, from_channel, from_held}
use Rattle.kt_protocol.proofs.Transitions.{invariant_began, invariant_reply, invariant_joining_checkpoint, invariant_joining_rollback, invariant_opening}
use Rattle.kt_protocol.proofs.Updates.{at_one_here, at_pair_here}
use Rattle.kt_protocol.proofs.NotedFirst.{quiet}
use Rattle.kt_protocol.proofs.WholeSteps.{all_after_run}
use Rattle.kt_protocol.specs.InTransit.{HasNoMessage}
use Rattle.kt_protocol.proofs.Walk.{invariant_step}
use Rattle.kt_protocol.specs.Deciding.{after_deciding_as, after_deciding, after_closing, after_decision, none_of}
use Rattle.kt_protocol.specs.Joining.{after_began, after_joining_checkpoint, after_joining_rollback, must_take, must_roll}
use Rattle.kt_protocol.specs.Messages.{after_arrival}
use Rattle.kt_protocol.specs.Parcels.{Parcel, App, Ask, Reply, Decide, Lists, with_rest}
use Rattle.kt_protocol.specs.Replies.{after_noting, after_replying, after_reply}
use Rattle.kt_protocol.specs.States.{State, ProtocolStep, Send, Begin, Fail, Take, is_ready, opening}
use Rattle.kt_protocol.specs.Steps.{after_settling, after_ask, after_front, after_take, after_beginning, after_begin_command, after_step, run}
use Rattle.kt_protocol.specs.LateClosing.{is_within_label, is_newer, late_deciding_as, late_deciding, late_closing}
use Rattle.kt_protocol.specs.LateSteps.{late_settling, late_ask, late_front, late_take, late_beginning, late_begin_command, late_step, late_run}
use Rattle.kt_protocol.specs.OnceClosed.{has_to_restore, kept_once_closed, held_once_closed, once_closed}
use Rattle.kt_protocol.specs.KeptInOrder.{has_only_messages}
use Rattle.kt_protocol.proofs.SameStates.{same_fields, closed_no_save, closed_no_restore}
use Rattle.kt_protocol.proofs.KeptLists.{KeptLists, held_closed_messages}
use Rattle.kt_protocol.proofs.LateMessages.{once_closed_sending, once_closed_arrival, held_with_rest, once_closed_holding, no_restore}
use Rattle.kt_protocol.proofs.LateJoining.{once_closed_began, once_closed_joining_checkpoint, once_closed_joining_rollback, once_closed_noting}
use Rattle.kt_protocol.proofs.LateDeciding.{once_closed_aborting, once_closed_committing_checkpoint, once_closed_committing_rollback}
use Rattle.kt_protocol.proofs.LateClosing.{once_closed_closing}
use Rattle.kt_protocol.proofs.MessageLists.{only_with_parcel, only_with_rest}
use Rattle.kt_protocol.proofs.KeptSteps.{kept_sending, kept_arrival, kept_began, kept_joining_checkpoint, kept_joining_rollback, kept_deciding, kept_closing}

-- a late state, once closed, is this state of the protocol's machine
pub record Agrees (c i : State) : Type 0 where
  pub same : once_closed c ≡ i
  pub kept : KeptLists c

-- the same choice in both states; and by tests that are the same
at_both : (b : Bool) {x y x' y' : State} → (b ≡ true → Agrees x x') → (b ≡ false → Agrees y y') → Agrees (if b then x else y) (if b then x' else y')
at_both true f g = f refl
at_both false f g = g refl

at_two : (b d : Bool) {x y x' y' : State} → b ≡ d → (b ≡ true → d ≡ true → Agrees x x') → (b ≡ false → d ≡ false → Agrees y y') → Agrees (if b then x else y) (if d then x' else y')
at_two true true e f g = f refl refl
at_two false false e f g = g refl refl
at_two true false e f g = absurd (cc (e))
at_two false true e f g = absurd (cc (e))

-- from who noted a sender until it closes, no message of that sender is in front of it
abbrev pub AllQuiet : State → Type 0
AllQuiet s = (k q p : ℕ) → 0 < k → s.so_far.open_in p ≡ k → s.noted k p q ≡ true → HasNoMessage (s.channel q p)

pub all_quiet : (n : ℕ) (steps : List ProtocolStep) → AllQuiet (run (opening n) steps)
all_quiet n steps = λ k q p a b d m rest e. quiet (run (opening n) steps) k p q m rest (all_after_run n steps).noted a d b e

pub invariant_of : (c i : State) → once_closed c ≡ i → Invariant i → Invariant (once_closed c)
invariant_of c i e g = subst Invariant (sym e) g

agrees_closing : (c : State) (p k : ℕ) (w : Bool) → 0 < k → c.so_far.open_in p ≡ k → c.so_far.is_decided k ≡ true → c.so_far.is_committed k ≡ w → KeptLists c → Agrees (late_closing c p k w) (after_closing (once_closed c) p k w)
agrees_closing c p k w pos o n y d = record { same = once_closed_closing c p k pos o n w y; kept = kept_closing c p k w pos o n d }

-- what a decided row leaves
decision_facts : (c : State) (p k u : ℕ) (w roll : Bool) → ((late_deciding_as w roll c p k).so_far.open_in u ≡ c.so_far.open_in u) × ((late_deciding_as w roll c p k).so_far.is_decided k ≡ true) × ((late_deciding_as w roll c p k).so_far.is_committed k ≡ w)
decision_facts c p k u false roll = (refl, at_one_here k true c.so_far.is_decided, at_one_here k false c.so_far.is_committed)
decision_facts c p k u true false = (refl, at_one_here k true c.so_far.is_decided, at_one_here k true c.so_far.is_committed)
decision_facts c p k u true true = (refl, at_one_here k true c.so_far.is_decided, at_one_here k true c.so_far.is_committed)

once_closed_deciding : (c : State) (p k : ℕ) (w roll : Bool) → Invariant (once_closed c) → 0 < k → c.so_far.is_decided k ≡ false → c.so_far.is_rollback k ≡ roll → c.so_far.has_unwilling k ≡ not w → ((u v : ℕ) → c.awaits k u v ≡ false) → once_closed (late_deciding_as w roll c p k) ≡ after_deciding_as w roll (once_closed c) p k
once_closed_deciding c p k false roll g pos n r u none_awaited = once_closed_aborting c p k g pos n roll
once_closed_deciding c p k true false g pos n r u none_awaited = once_closed_committing_checkpoint c p k g pos n r
once_closed_deciding c p k true true g pos n r u none_awaited = once_closed_committing_rollback c p k g pos n r u none_awaited

agrees_deciding : (c : State) (p k : ℕ) → Invariant (once_closed c) → KeptLists c → c.so_far.joined k p ≡ true → c.so_far.is_decided k ≡ false → p ≡ c.initiator k → ((v : ℕ) → c.awaits k p v ≡ false) → Agrees (late_closing (late_deciding c p k) p k (c.all_willing k p)) (after_closing (after_deciding (once_closed c) p k) p k (c.all_willing k p))
agrees_deciding c p k g d j n i quiet =
    let pos = (g.positions.joined_instance k p j).0 in
    let q : (v : ℕ) → c.awaits k (c.initiator k) v ≡ false = λ v. rw (← i) (quiet v) in
    let f = decision_facts c p k p (c.all_willing k p) (c.so_far.is_rollback k) in
    let x = agrees_closing (late_deciding c p k) p k (c.all_willing k p) pos (f.0 ∙ g.positions.member_open k p j n) f.1 f.2 (kept_deciding c p k (c.all_willing k p) (c.so_far.is_rollback k) g pos n refl d) in
    record {
      same = x.same ∙ ap (λ (s : State). after_closing s p k (c.all_willing k p)) (once_closed_deciding c p k (c.all_willing k p) (c.so_far.is_rollback k) g pos n refl (exact (c.all_willing k p) refl q) (all_await_none (once_closed c) k g q));
      kept = x.kept;
    }
  where
    exact : (w : Bool) → c.all_willing k p ≡ w → ((v : ℕ) → c.awaits k (c.initiator k) v ≡ false) → c.so_far.has_unwilling k ≡ not w
    exact true e q = willing_has_none (once_closed c) k g q n (rw (← i) e)
    exact false e q = g.willing.unwilling_member k p e

agrees_settling : (c : State) (p k : ℕ) → Invariant (once_closed c) → KeptLists c → c.so_far.joined k p ≡ true → c.so_far.is_decided k ≡ false → Agrees (late_settling c p k) (after_settling (once_closed c) p k)
agrees_settling c p k g d j n = at_both (none_of c.processes (c.awaits k p))
    (λ b. at_both (p == c.initiator k)
    (λ e. agrees_deciding c p k g d j n (same p (c.initiator k) e) (awaits_none (once_closed c) p k g b))
    (λ _. record { same = refl; kept = record { received = d.received; parted = d.parted; kept_messages = d.kept_messages; held_messages = d.held_messages } }))
    (λ _. record { same = refl; kept = d })

-- p settles after another transition
agrees_then : (c i : State) (p k : ℕ) → once_closed c ≡ i → Invariant i → KeptLists c → c.so_far.joined k p ≡ true → c.so_far.is_decided k ≡ false → Agrees (late_settling c p k) (after_settling i p k)
agrees_then c i p k e g d j n = let x = agrees_settling c p k (invariant_of c i e g) d j n in record { same = x.same ∙ ap (λ (s : State). after_settling s p k) e; kept = x.kept }

module _ (c : State) (p q k l : ℕ) (rest : List Parcel) (e : c.channel q p ≡ Ask k l ∷ rest) (g : Invariant (once_closed c)) (d : KeptLists c) where
  undecided : c.so_far.is_decided k ≡ false
  undecided = (ask_facts (once_closed c) q p k l rest e g).2

  pub noting_same : once_closed (after_noting c p q k l) ≡ after_noting (once_closed c) p q k l
  noting_same = once_closed_noting c p q k l undecided

  pub last_same : c.so_far.open_in p ≡ 0 → c.last_received p q ≡ (once_closed c).last_received p q
  last_same o = go (has_to_restore c.so_far p) (closed_no_restore c.so_far p o)
    where
      go : (r : Bool) → r ≡ false → c.last_received p q ≡ (if r then 0 else c.last_received p q)
      go true z = absurd (cc (z))
      go false z = refl

  pub first_same : c.so_far.open_in p ≡ 0 → c.first_sent p q ≡ (once_closed c).first_sent p q
  first_same o = go (has_to_restore c.so_far p) (closed_no_restore c.so_far p o)
    where
      go : (r : Bool) → r ≡ false → c.first_sent p q ≡ (if r then 0 else c.first_sent p q)
      go true z = absurd (cc (z))
      go false z = refl

  is_true : (b : Bool) → not b ≡ false → b ≡ true
  is_true true z = refl
  is_true false z = absurd (cc)

  joins : c.so_far.open_in p ≡ 0 → c.so_far.is_rollback k ≡ false → must_take (once_closed c) p q l ≡ true → Agrees (late_settling (after_joining_checkpoint c (with_rest c.channel q p rest) p k false q l) p k) (after_settling (after_joining_checkpoint (once_closed c) (with_rest c.channel q p rest) p k false q l) p k)
  joins o r m = let j = joining (once_closed c) p q k l rest e g o r m in
      agrees_then (after_joining_checkpoint c (with_rest c.channel q p rest) p k false q l) (after_joining_checkpoint (once_closed c) (with_rest c.channel q p rest) p k false q l) p k
      (once_closed_joining_checkpoint c p k o undecided (with_rest c.channel q p rest) false q l)
      (invariant_joining_checkpoint (once_closed c) (with_rest c.channel q p rest) p k false q l l j.0 j.1 g)
      (kept_joining_checkpoint c p k (with_rest c.channel q p rest) false q l o undecided g d) (at_pair_here k p true c.so_far.joined) undecided

  rolls : c.so_far.open_in p ≡ 0 → c.so_far.is_rollback k ≡ true → must_roll (once_closed c) p q l ≡ true → Agrees (late_settling (after_joining_rollback (after_noting c p q k l) (with_rest c.channel q p rest) p k false q (c.last_received p q)) p k) (after_settling (after_joining_rollback (after_noting (once_closed c) p q k l) (with_rest c.channel q p rest) p k false q ((once_closed c).last_received p q)) p k)
  rolls o r m = let j = rolling_in (once_closed c) p q k l rest e g o r m in
      agrees_then (after_joining_rollback (after_noting c p q k l) (with_rest c.channel q p rest) p k false q (c.last_received p q)) (after_joining_rollback (after_noting (once_closed c) p q k l) (with_rest c.channel q p rest) p k false q ((once_closed c).last_received p q)) p k
      (once_closed_joining_rollback (after_noting c p q k l) p k o undecided (with_rest c.channel q p rest) false q (c.last_received p q) ∙ ap₂ (λ (s : State) (x : ℕ). after_joining_rollback s (with_rest c.channel q p rest) p k false q x) noting_same (last_same o))
      (invariant_joining_rollback (after_noting (once_closed c) p q k l) (with_rest c.channel q p rest) p k false q ((once_closed c).last_received p q) l j.0 j.1 (noted_invariant (once_closed c) p q k l rest e g))
      (kept_joining_rollback (after_noting c p q k l) p k (with_rest c.channel q p rest) false q (c.last_received p q) o undecided r (record { received = d.received; parted = d.parted; kept_messages = d.kept_messages; held_messages = d.held_messages })) (at_pair_here k p true c.so_far.joined) undecided

  agrees_ask : (able : Bool) → Agrees (late_ask c p q able k l rest) (after_ask (once_closed c) p q able k l rest)
  agrees_ask able = at_both (c.so_far.open_in p == k)
      (λ _. record { same = ap (λ (s : State). after_replying s p q k true rest) noting_same; kept = record { received = d.received; parted = d.parted; kept_messages = d.kept_messages; held_messages = d.held_messages } })
      (λ _. at_both (not (c.so_far.open_in p == 0))
      (λ _. record { same = refl; kept = record { received = d.received; parted = d.parted; kept_messages = d.kept_messages; held_messages = d.held_messages } })
      (λ z. let o = closed_of (c.so_far.open_in p) z in at_both (c.so_far.is_rollback k)
      (λ r. at_two (must_roll c p q l) (must_roll (once_closed c) p q l) (ap (λ (x : ℕ). nat_lt l x) (last_same o))
      (λ _ m. rolls o r m)
      (λ _ _. record { same = refl; kept = record { received = d.received; parted = d.parted; kept_messages = d.kept_messages; held_messages = d.held_messages } }))
      (λ r. at_two (not (must_take c p q l)) (not (must_take (once_closed c) p q l)) (ap (λ (x : ℕ). not (nat_lt 0 x && nat_le x l)) (first_same o))
      (λ _ _. record { same = refl; kept = record { received = d.received; parted = d.parted; kept_messages = d.kept_messages; held_messages = d.held_messages } })
      (λ _ m. at_both (not (able && c.up p))
      (λ _. record { same = refl; kept = record { received = d.received; parted = d.parted; kept_messages = d.kept_messages; held_messages = d.held_messages } })
      (λ _. joins o r (is_true (must_take (once_closed c) p q l) m))))))

-- a message arrives at a process in no rollback
agrees_arrival : (c : State) (channel hc hi : Lists) (p q m : ℕ) → is_ready c p ≡ false → ((a u : ℕ) → has_only_messages (hc a u) ≡ true) → Taking (once_closed c) channel hi p q m → ((a u : ℕ) → held_once_closed (has_to_restore c.so_far u) (is_within_label c (c.so_far.open_in u) u a) (c.kept a u) (hc a u) ≡ hi a u) → Invariant (once_closed c) → KeptLists c → Agrees (after_arrival c channel hc p q m) (after_arrival (once_closed c) channel hi p q m)
agrees_arrival c channel hc hi p q m y only t e g d = let f = message_facts (once_closed c) channel hi p q m t g in record { same = once_closed_arrival c channel hc hi p q m y f.1 e d g; kept = kept_arrival c channel hc p q m f.4 f.1 only g d }

agrees_front : (c : State) (p q : ℕ) (able : Bool) (l : List Parcel) → c.channel q p ≡ l → Invariant (once_closed c) → AllQuiet (once_closed c) → KeptLists c → Agrees (late_front c p q able l) (after_front (once_closed c) p q able l)
agrees_front c p q able [] e g z d = record { same = refl; kept = d }
agrees_front c p q able (App m ∷ rest) e g z d = at_both (is_ready c p)
    (λ _. record { same = once_closed_holding c p q m rest (λ r. pass (c.so_far.open_in p) refl (c.noted (c.so_far.open_in p) p q) refl r); kept = record { received = d.received; parted = d.parted; kept_messages = d.kept_messages; held_messages = only_with_parcel c.held q p m d.held_messages } })
    (λ y. agrees_arrival c (with_rest c.channel q p rest) c.held (once_closed c).held p q m y d.held_messages (from_channel (once_closed c) p q m rest e g) (λ a u. refl) g d)
  where
    open_is : (k : ℕ) → ((not (k == 0) && (c.so_far.is_decided k && c.so_far.is_committed k)) && c.so_far.is_rollback k) ≡ true → (k == 0) ≡ false
    open_is k r = go (k == 0) r
      where
        go : (b : Bool) → ((not b && (c.so_far.is_decided k && c.so_far.is_committed k)) && c.so_far.is_rollback k) ≡ true → b ≡ false
        go true x = absurd (cc)
        go false x = refl

    above : (k : ℕ) → (k == 0) ≡ false → 0 < k
    above k f = grind (arith, nat_tests, f)

    pass : (k : ℕ) → c.so_far.open_in p ≡ k → (b : Bool) → c.noted k p q ≡ b → ((not (k == 0) && (c.so_far.is_decided k && c.so_far.is_committed k)) && c.so_far.is_rollback k) ≡ true → not (b && nat_lt (c.noted_label k p q) m) ≡ true
    pass k o false n r = refl
    pass k o true n r = absurd (z k q p (above k (open_is k r)) o n m rest e)
agrees_front c p q able (Ask k l ∷ rest) e g z d = agrees_ask c p q k l rest e g d able
agrees_front c p q able (Reply k w ∷ rest) e g z d = let f = reply_facts (once_closed c) q p k w rest e g in
    agrees_then (after_reply c p q k w rest) (after_reply (once_closed c) p q k w rest) p k refl (invariant_reply (once_closed c) p q k w rest e g) (record { received = d.received; parted = d.parted; kept_messages = d.kept_messages; held_messages = d.held_messages }) f.1 f.2
agrees_front c p q able (Decide k w ∷ rest) e g z d = at_both (c.so_far.open_in p == k)
    (λ o. let f = decide_facts (once_closed c) q p k w rest e g in agrees_closing (after_decision c p q rest) p k w (g.positions.decided_instance k f.0).0 (same (c.so_far.open_in p) k o) f.0 f.1 (record { received = d.received; parted = d.parted; kept_messages = d.kept_messages; held_messages = d.held_messages }))
    (λ _. record { same = refl; kept = record { received = d.received; parted = d.parted; kept_messages = d.kept_messages; held_messages = d.held_messages } })

-- in the protocol's machine too, who is in a rollback takes from the channel
ready_take : (s : State) (p q : ℕ) (able : Bool) (l : List Parcel) → is_ready s p ≡ true → has_only_messages l ≡ true → after_take s p q able l ≡ after_front s p q able (s.channel q p)
ready_take s p q able [] y h = refl
ready_take s p q able (App m ∷ rest) y h = ap (λ (b : Bool). if b then after_front s p q able (s.channel q p) else after_arrival s s.channel (with_rest s.held q p rest) p q m) y
ready_take s p q able (Ask k l ∷ rest) y h = absurd (cc (h))
ready_take s p q able (Reply k l ∷ rest) y h = absurd (cc (h))
ready_take s p q able (Decide k l ∷ rest) y h = absurd (cc (h))

-- and who is in none takes what it holds first
agrees_held : (c : State) (p q : ℕ) (able : Bool) (l : List Parcel) → c.held q p ≡ l → (once_closed c).held q p ≡ l → is_ready c p ≡ false → Invariant (once_closed c) → AllQuiet (once_closed c) → KeptLists c → Agrees (late_take c p q able l) (after_take (once_closed c) p q able l)
agrees_held c p q able [] e e' y g z d = agrees_front c p q able (c.channel q p) refl g z d
agrees_held c p q able (App m ∷ rest) e e' y g z d = record { same = x.same ∙ sym (first y); kept = x.kept }
  where
    x : Agrees (after_arrival c c.channel (with_rest c.held q p rest) p q m) (after_arrival (once_closed c) c.channel (with_rest (once_closed c).held q p rest) p q m)
    x = agrees_arrival c c.channel (with_rest c.held q p rest) (with_rest (once_closed c).held q p rest) p q m y (only_with_rest c.held q p m rest e d.held_messages) (from_held (once_closed c) p q m rest e' g) (held_with_rest c p q rest (no_restore c p y)) g d

    first : is_ready c p ≡ false → (if is_ready c p then after_front (once_closed c) p q able (c.channel q p) else after_arrival (once_closed c) c.channel (with_rest (once_closed c).held q p rest) p q m) ≡ after_arrival (once_closed c) c.channel (with_rest (once_closed c).held q p rest) p q m
    first y = ap (λ (b : Bool). if b then after_front (once_closed c) p q able (c.channel q p) else after_arrival (once_closed c) c.channel (with_rest (once_closed c).held q p rest) p q m) y
agrees_held c p q able (Ask k l ∷ rest) e e' y g z d = record { same = refl; kept = d }
agrees_held c p q able (Reply k l ∷ rest) e e' y g z d = record { same = refl; kept = d }
agrees_held c p q able (Decide k l ∷ rest) e e' y g z d = record { same = refl; kept = d }

agrees_take : (c : State) (p q : ℕ) (able : Bool) → Invariant (once_closed c) → AllQuiet (once_closed c) → KeptLists c → Agrees (if is_ready c p then late_front c p q able (c.channel q p) else late_take c p q able (c.held q p)) (after_take (once_closed c) p q able ((once_closed c).held q p))
agrees_take c p q able g z d = go (is_ready c p) refl
  where
    here : is_ready c p ≡ false → (once_closed c).held q p ≡ c.held q p
    here y = ap (λ (r : Bool). held_once_closed r (is_within_label c (c.so_far.open_in p) p q) (c.kept q p) (c.held q p)) (no_restore c p y)

    go : (b : Bool) → is_ready c p ≡ b → Agrees (if b then late_front c p q able (c.channel q p) else late_take c p q able (c.held q p)) (after_take (once_closed c) p q able ((once_closed c).held q p))
    go true y = let x = agrees_front c p q able (c.channel q p) refl g z d in record { same = x.same ∙ sym (ready_take (once_closed c) p q able ((once_closed c).held q p) y (held_closed_messages c q p d)); kept = x.kept }
    go false y = let x = agrees_held c p q able (c.held q p) refl (here y) y g z d in record { same = x.same ∙ ap (λ (l : List Parcel). after_take (once_closed c) p q able l) (sym (here y)); kept = x.kept }

agrees_beginning : (c : State) (p : ℕ) (roll : Bool) → c.so_far.open_in p ≡ 0 → Invariant (once_closed c) → KeptLists c → Agrees (late_beginning c p roll) (after_beginning (once_closed c) p roll)
agrees_beginning c p false o g d =
    let n = new_undecided (once_closed c) g in
    agrees_then (after_joining_checkpoint (after_began c p false) c.channel p (c.instances + 1) true p 0) (after_joining_checkpoint (after_began (once_closed c) p false) c.channel p (c.instances + 1) true p 0) p (c.instances + 1)
    (once_closed_joining_checkpoint (after_began c p false) p (c.instances + 1) o n c.channel true p 0 ∙ ap (λ (s : State). after_joining_checkpoint s c.channel p (c.instances + 1) true p 0) (once_closed_began c p false g))
    (invariant_joining_checkpoint (after_began (once_closed c) p false) c.channel p (c.instances + 1) true p 0 0 (new_joining (once_closed c) p false o g) (record { label = λ z. absurd (cc (z)) }) (invariant_began (once_closed c) p false g))
    (kept_joining_checkpoint (after_began c p false) p (c.instances + 1) c.channel true p 0 o n (invariant_of (after_began c p false) (after_began (once_closed c) p false) (once_closed_began c p false g) (invariant_began (once_closed c) p false g)) (kept_began c p false g d)) (at_pair_here (c.instances + 1) p true c.so_far.joined) n
agrees_beginning c p true o g d =
    let n = new_undecided (once_closed c) g in
    agrees_then (after_joining_rollback (after_began c p true) c.channel p (c.instances + 1) true p 0) (after_joining_rollback (after_began (once_closed c) p true) c.channel p (c.instances + 1) true p 0) p (c.instances + 1)
    (once_closed_joining_rollback (after_began c p true) p (c.instances + 1) o n c.channel true p 0 ∙ ap (λ (s : State). after_joining_rollback s c.channel p (c.instances + 1) true p 0) (once_closed_began c p true g))
    (invariant_joining_rollback (after_began (once_closed c) p true) c.channel p (c.instances + 1) true p 0 0 (new_joining (once_closed c) p true o g) (record { label = λ z. absurd (cc (z)); clear = λ z. absurd (cc (z)); noted = λ z. absurd (cc (z)) }) (invariant_began (once_closed c) p true g))
    (kept_joining_rollback (after_began c p true) p (c.instances + 1) c.channel true p 0 o n (at_one_here (c.instances + 1) true c.so_far.is_rollback) (kept_began c p true g d)) (at_pair_here (c.instances + 1) p true c.so_far.joined) n

agrees_begin_command : (c : State) (p : ℕ) (roll able : Bool) → c.so_far.open_in p ≡ 0 → Invariant (once_closed c) → KeptLists c → Agrees (late_begin_command c p roll able) (after_begin_command (once_closed c) p roll able)
agrees_begin_command c p true able o g d = agrees_beginning c p true o g d
agrees_begin_command c p false able o g d = at_both (able && c.up p) (λ _. agrees_beginning c p false o g d) (λ _. record { same = refl; kept = record { received = d.received; parted = d.parted; kept_messages = d.kept_messages; held_messages = d.held_messages } })

-- each late step is that step of the protocol's machine
pub agrees_step : (c : State) (x : ProtocolStep) → Invariant (once_closed c) → AllQuiet (once_closed c) → KeptLists c → Agrees (late_step c x) (after_step (once_closed c) x)
agrees_step c (Send p q body) g z d = at_both ((nat_lt p c.processes && nat_lt q c.processes) && (c.so_far.open_in p == 0 && not (q == p)))
    (λ b. let o = send_ok p q c.processes (c.so_far.open_in p) b in at_both (c.up p)
    (λ _. record { same = once_closed_sending c p q body o; kept = kept_sending c p q body g d })
    (λ _. record { same = refl; kept = record { received = d.received; parted = d.parted; kept_messages = d.kept_messages; held_messages = d.held_messages } }))
    (λ _. record { same = refl; kept = d })
  where
    send_ok : (p q n o : ℕ) → ((nat_lt p n && nat_lt q n) && (o == 0 && not (q == p))) ≡ true → o ≡ 0
    send_ok p q n o e = grind (arith, nat_tests, e)
agrees_step c (Begin p roll able) g z d = at_both (c.so_far.open_in p == 0) (λ o. agrees_begin_command c p roll able (same (c.so_far.open_in p) 0 o) g d) (λ _. record { same = refl; kept = record { received = d.received; parted = d.parted; kept_messages = d.kept_messages; held_messages = d.held_messages } })
agrees_step c (Fail p) g z d = at_both (c.up p) (λ _. record { same = refl; kept = record { received = d.received; parted = d.parted; kept_messages = d.kept_messages; held_messages = d.held_messages } }) (λ _. record { same = refl; kept = record { received = d.received; parted = d.parted; kept_messages = d.kept_messages; held_messages = d.held_messages } })
agrees_step c (Take p q able) g z d = agrees_take c p q able g z d

agrees_run : (c i : State) (steps : List ProtocolStep) → Agrees c i → Invariant i → ((xs : List ProtocolStep) → AllQuiet (run i xs)) → Agrees (late_run c steps) (run i steps)
agrees_run c i [] x g z = x
agrees_run c i (s ∷ steps) x g z =
    let y = agrees_step c s (invariant_of c i x.same g) (subst AllQuiet (sym x.same) (z [])) x.kept in
    agrees_run (late_step c s) (after_step i s) steps (record { same = y.same ∙ ap (λ (t : State). after_step t s) x.same; kept = y.kept }) (invariant_step i s g) (λ xs. z (s ∷ xs))

-- each late run is that run of the protocol's machine
pub agrees_after_run : (n : ℕ) (steps : List ProtocolStep) → Agrees (late_run (opening n) steps) (run (opening n) steps)
agrees_after_run n steps = agrees_run (opening n) (opening n) steps (record { same = refl; kept = record { received = λ p q m s w. absurd (cc (s)); parted = λ p q s. absurd (cc (s)); kept_messages = λ q p. refl; held_messages = λ q p. refl } }) (invariant_opening n) (all_quiet n)

pub once_closed_run : (n : ℕ) (steps : List ProtocolStep) → once_closed (late_run (opening n) steps) ≡ run (opening n) steps
once_closed_run n steps = (agrees_after_run n steps).same

pub same_log : (n : ℕ) (steps : List ProtocolStep) → (late_run (opening n) steps).log ≡ (run (opening n) steps).log
same_log n steps = ap (λ (s : State). s.log) (once_closed_run n steps)

-- where nobody is in an instance, nothing is still to be done
pub once_closed_rest : (c : State) → ((p : ℕ) → c.so_far.open_in p ≡ 0) → once_closed c ≡ c
once_closed_rest c o = same_fields c
    (λ u v. ap (λ (r : Bool). if r then 0 else c.first_sent u v) (closed_no_restore c.so_far u (o u)))
    (λ u v. ap (λ (r : Bool). if r then 0 else c.last_received u v) (closed_no_restore c.so_far u (o u)))
    (λ u v. ap (λ (r : Bool). if r then c.latest_sent u v else c.last_sent u v) (closed_no_save c.so_far u (o u)))
    (λ a u. ap₂ (λ (s r : Bool). kept_once_closed s r (is_newer c u) (c.kept a u)) (closed_no_save c.so_far u (o u)) (closed_no_restore c.so_far u (o u)))
    (λ a u. ap (λ (r : Bool). held_once_closed r (is_within_label c (c.so_far.open_in u) u a) (c.kept a u) (c.held a u)) (closed_no_restore c.so_far u (o u)))
