-- What each step of a plan puts and takes is counted, so a run with few rows has few steps.
use Rattle.std.proofs.Common.{◌≡◌, ℕ, ℤ, ◌+◌, ◌<◌, Bool, true, false, List, [], ◌∷◌, refl, arith}
use Rattle.std.specs.Prelude.{◌==◌, ◌&&◌, ◌||◌, not, nat_lt, if◌then◌else◌, unwrap_or}
use Rattle.kt_spacetime.specs.declared.event.Event.TheVariants.{Sent, Began, Failed, Refused}
use Rattle.kt_base.specs.declared.words.Verb.{Verb}
use Rattle.kt_base.specs.declared.words.Verb.TheVariants as verb
use Rattle.kt_base.specs.declared.words.Cause.{Cause}
use Rattle.kt_base.specs.declared.words.Cause.TheVariants.{Busy, Down}
use Rattle.kt_protocol.specs.KeptInOrder.{has_only_messages}
use Rattle.kt_protocol.specs.LateSteps.{late_front, late_take, late_beginning, late_step}
use Rattle.kt_protocol.specs.OnceClosed.{once_closed}
use Rattle.kt_protocol.proofs.Answering.{reply_facts}
use Rattle.kt_protocol.proofs.Beginning.{decide_facts}
use Rattle.kt_protocol.proofs.Choices.{at_if}
use Rattle.kt_protocol.proofs.Invariant.{Invariant}
use Rattle.kt_protocol.proofs.Replying.{ask_facts}
use Rattle.kt_protocol.specs.Joining.{after_began, after_joining_checkpoint, after_joining_rollback, kind_for}
use Rattle.kt_protocol.specs.Messages.{after_refusal, after_sending}
use Rattle.kt_protocol.specs.Parcels.{Parcel, App, Ask, Reply, Decide, with_rest, has_parcel}
use Rattle.kt_protocol.specs.Replies.{unable_cause}
use Rattle.kt_protocol.specs.States.{State, is_ready, can_take}
use Rattle.kt_protocol.specs.States as machine
use Rattle.kt_plan.specs.declared.commands.Job.{Job}
use Rattle.kt_plan.specs.declared.steps.Give.{Give}
use Rattle.kt_promises.specs.Steps.{protocol_step}
use Rattle.kt_plan.specs.declared.commands.Job.TheVariants as job
use Rattle.kt_promises.proofs.Totals.{length_push, in_transit_with_parcel}
use Rattle.kt_promises.proofs.StateFacts.{StateFacts}
use Rattle.kt_promises.proofs.Accounts.{Accounted, after, enough, accounted_same, Low, settling_accounted, joining_checkpoint_accounted, joining_rollback_accounted, arrival_accounted, front_accounted}

low_front : (n k : ℕ) (s : State) (p q : ℕ) (b : s.processes ≡ n) (pl : p < n) (ql : q < n) (l : List Parcel) → Invariant (once_closed s) → s.instances < k → s.channel q p ≡ l → Low n k s p q b pl ql l
low_front n k s p q b pl ql [] g h e = tt
low_front n k s p q b pl ql (App m ∷ rest) g h e = tt
low_front n k s p q b pl ql (Ask j l ∷ rest) g h e = let a = (ask_facts (once_closed s) q p j l rest e g).0 in let x = (g.positions.joined_instance j q (g.asks.awaits_joined j q p a).0).1 in omega (arith, x, h)
low_front n k s p q b pl ql (Reply j w ∷ rest) g h e = let x = (g.positions.joined_instance j p (reply_facts (once_closed s) q p j w rest e g).1).1 in omega (arith, x, h)
low_front n k s p q b pl ql (Decide j c ∷ rest) g h e = let x = (g.positions.decided_instance j (decide_facts (once_closed s) q p j c rest e g).0).1 in omega (arith, x, h)

pub take_accounted : (n k : ℕ) (s : State) (p q : ℕ) (able : Bool) → StateFacts n s → p < n → q < n → s.instances < k → can_take s p q ≡ true → Accounted n k 1 0 s (late_step s (machine.Take p q able))
take_accounted n k s p q able r pl ql h t = go (is_ready s p) refl (s.held q p) (λ _. r.lists.held_messages q p) t
  where
    channel : has_parcel (s.channel q p) ≡ true → Accounted n k 1 0 s (late_front s p q able (s.channel q p))
    channel a = front_accounted n k s p q r.processes pl ql able (s.channel q p) refl (low_front n k s p q r.processes pl ql (s.channel q p) r.invariant h refl) a

    or_false : (a b : Bool) → b ≡ false → (a || b) ≡ true → a ≡ true
    or_false true b e f = refl
    or_false false b e f = absurd (cc (e, f))

    go : (z : Bool) → is_ready s p ≡ z → (l : List Parcel) → (is_ready s p ≡ false → has_only_messages l ≡ true) → (has_parcel (s.channel q p) || not z && has_parcel l) ≡ true → Accounted n k 1 0 s (if z then late_front s p q able (s.channel q p) else late_take s p q able l)
    go true e l m t = channel (or_false (has_parcel (s.channel q p)) false refl t)
    go false e [] m t = channel (or_false (has_parcel (s.channel q p)) false refl t)
    go false e (App x ∷ rest) m t = arrival_accounted n k s p q r.processes pl ql s.channel (with_rest s.held q p rest) x (omega arith)
    go false e (_ ∷ rest) m t = absurd (let x = m e in cc (x))

refusal_accounted : (n k : ℕ) (s : State) (p : ℕ) (v : Verb) (c : Cause) → Accounted n k 0 1 s (after_refusal s p v c)
refusal_accounted n k s p v c = let l = length_push s.log (Refused p v c) in record { room = omega (arith, l); instances = omega arith; processes = refl }

began_accounted : (n k : ℕ) (s : State) (p : ℕ) (roll : Bool) → Accounted n k 0 1 s (after_began s p roll)
began_accounted n k s p roll = let l = length_push s.log (Began p (s.instances + 1) (kind_for roll)) in record { room = omega (arith, l); instances = omega arith; processes = refl }

beginning_accounted : (n k : ℕ) (s : State) (p : ℕ) (roll : Bool) → s.processes ≡ n → s.instances + 1 < k → Accounted n k 0 1 s (late_beginning s p roll)
beginning_accounted n k s p false b h = after n k 0 1 0 0 s (after_began s p false) _ (began_accounted n k s p false)
    (after n k 0 0 0 0 (after_began s p false) (after_joining_checkpoint (after_began s p false) s.channel p (s.instances + 1) true p 0) _
    (joining_checkpoint_accounted n k (after_began s p false) s.channel p (s.instances + 1) true p 0 0 b h (omega arith))
    (settling_accounted n k (after_joining_checkpoint (after_began s p false) s.channel p (s.instances + 1) true p 0) p (s.instances + 1) b h))
beginning_accounted n k s p true b h = after n k 0 1 0 0 s (after_began s p true) _ (began_accounted n k s p true)
    (after n k 0 0 0 0 (after_began s p true) (after_joining_rollback (after_began s p true) s.channel p (s.instances + 1) true p 0) _
    (joining_rollback_accounted n k (after_began s p true) s.channel p (s.instances + 1) true p 0 0 b h (omega arith))
    (settling_accounted n k (after_joining_rollback (after_began s p true) s.channel p (s.instances + 1) true p 0) p (s.instances + 1) b h))

sending_accounted : (n k : ℕ) (s : State) (p q : ℕ) (body : ℤ) → Accounted n k 0 1 s (after_sending s p q body)
sending_accounted n k s p q body = let l = length_push s.log (Sent p q body) in let x = in_transit_with_parcel n s.channel p q (App (s.so_far.rows + 1)) in record { room = omega (arith, l, x); instances = omega arith; processes = refl }

pub job_accounted : (n k : ℕ) (s : State) (p : ℕ) (j : Job) (give : Give) → s.processes ≡ n → s.instances + 1 < k → Accounted n k 0 1 s (late_step s (protocol_step p j give))
job_accounted n k s p (job.Send q body) give b h = at_if (Accounted n k 0 1 s) ((nat_lt p s.processes && nat_lt q s.processes) && (s.so_far.open_in p == 0 && not (q == p))) _ _
    (λ _. at_if (Accounted n k 0 1 s) (s.up p) _ _
    (λ _. sending_accounted n k s p q (unwrap_or body give.body)) (λ _. refusal_accounted n k s p verb.Send Down))
    (λ _. enough n k 0 0 0 1 s s (omega arith) (omega arith) (accounted_same n k s))
job_accounted n k s p job.Checkpoint give b h = at_if (Accounted n k 0 1 s) (s.so_far.open_in p == 0) _ _
    (λ _. at_if (Accounted n k 0 1 s) (give.able && s.up p) _ _ (λ _. beginning_accounted n k s p false b h) (λ _. refusal_accounted n k s p verb.Checkpoint (unable_cause (s.up p))))
    (λ _. refusal_accounted n k s p verb.Checkpoint (Busy (s.so_far.open_in p)))
job_accounted n k s p job.Rollback give b h = at_if (Accounted n k 0 1 s) (s.so_far.open_in p == 0) _ _ (λ _. beginning_accounted n k s p true b h) (λ _. refusal_accounted n k s p verb.Rollback (Busy (s.so_far.open_in p)))
job_accounted n k s p job.Fail give b h = at_if (Accounted n k 0 1 s) (s.up p) _ _
    (λ _. let l = length_push s.log (Failed p) in record { room = omega (arith, l); instances = omega arith; processes = refl })
    (λ _. refusal_accounted n k s p verb.Fail Down)
