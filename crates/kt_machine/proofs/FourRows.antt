-- A step adds four rows at most.
use Rattle.std.proofs.Common.{◌≡◌, ℕ, ◌+◌, ◌≤◌, Bool, true, false, List, [], ◌∷◌, ◌++◌, length, refl, arith, ap, length-append}
use Rattle.std.specs.Prelude.{◌==◌, ◌&&◌, not, nat_lt, if◌then◌else◌}
use Rattle.kt_base.specs.declared.words.Cause.{Cause}
use Rattle.kt_base.specs.declared.words.Cause.TheVariants.{Busy, Down}
use Rattle.kt_base.specs.declared.words.Verb.TheVariants as verb
use Rattle.kt_spacetime.specs.declared.event.Event.{Event}
use Rattle.kt_spacetime.specs.declared.event.Event.TheVariants.{Sent, Received, Dropped, Began, Took, Ready, Unwilling, Decided, Closed, Failed, Refused}
use Rattle.kt_base.specs.declared.words.Kind.TheVariants.{Checkpoint, Rollback}
use Rattle.kt_protocol.specs.Parcels.{Parcel, App, Ask, Reply, Decide, with_rest}
use Rattle.kt_protocol.specs.States.{State, ProtocolStep, Send, Begin, Fail, Take, is_ready}
use Rattle.kt_protocol.specs.Joining.{after_began, after_joining_checkpoint, after_joining_rollback, must_take, must_roll}
use Rattle.kt_protocol.specs.Replies.{after_noting, after_unwilling, after_reply, unable_cause}
use Rattle.kt_protocol.specs.Deciding.{after_decision, none_of}
use Rattle.kt_protocol.specs.Messages.{after_sending, after_receiving, after_dropping, after_holding, after_failing, after_refusal}
use Rattle.kt_protocol.specs.Steps.{verb_for}
use Rattle.kt_protocol.specs.LateClosing.{late_deciding, late_closing}
use Rattle.kt_protocol.specs.LateSteps.{late_settling, late_ask, late_front, late_take, late_beginning, late_begin_command, late_step}
use Rattle.kt_machine.proofs.AddedRows.{decided_log, closed_log}

-- a state's log has at most n rows
record Within (n : ℕ) (s : State) : Type 0 where
  most : length s.log ≤ n

at_if : (n : ℕ) (b : Bool) (x y : State) → Within n x → Within n y → Within n (if b then x else y)
at_if n true x y f g = f
at_if n false x y f g = g

one_row : (log : List Event) (x : Event) (n : ℕ) → length log ≤ n → length (log ++ x ∷ []) ≤ n + 1
one_row log x n l = let a = length-append log (x ∷ []) in omega (arith, a, l)

more : (m n : ℕ) (s : State) → m ≤ n → Within m s → Within n s
more m n s l w = record { most = let x = w.most in omega (arith, l, x) }

closes : (s : State) (p k : ℕ) (w : Bool) (n : ℕ) → length s.log ≤ n → Within (n + 1) (late_closing s p k w)
closes s p k w n l = record { most = let e = ap length (closed_log p s s k w).0 in let a = one_row s.log (Closed p k) n l in omega (arith, e, a) }

settles : (s : State) (p k n : ℕ) → length s.log ≤ n → Within (n + 2) (late_settling s p k)
settles s p k n l = at_if (n + 2) (none_of s.processes (s.awaits k p)) _ _
    (at_if (n + 2) (p == s.initiator k) _ _
    (more (n + 1 + 1) (n + 2) (late_closing (late_deciding s p k) p k (s.all_willing k p)) (omega arith) (closes (late_deciding s p k) p k (s.all_willing k p) (n + 1) (let e = ap length (decided_log p s s k (s.all_willing k p) (s.so_far.is_rollback k) refl).0 in let a = one_row s.log (Decided p k (s.all_willing k p)) n l in omega (arith, e, a))))
    (record { most = omega (arith, l) }))
    (record { most = omega (arith, l) })

asked : (s : State) (p q : ℕ) (able : Bool) (k l : ℕ) (rest : List Parcel) → Within (length s.log + 4) (late_ask s p q able k l rest)
asked s p q able k l rest =
    at_if (length s.log + 4) (s.so_far.open_in p == k) _ _ (record { most = omega arith })
    (at_if (length s.log + 4) (not (s.so_far.open_in p == 0)) _ _ (refusal (Busy (s.so_far.open_in p)))
    (at_if (length s.log + 4) (s.so_far.is_rollback k) _ _
    (at_if (length s.log + 4) (must_roll s p q l) _ _ (joins (after_joining_rollback (after_noting s p q k l) (with_rest s.channel q p rest) p k false q (s.last_received p q)) (one_row s.log (Ready p k) (length s.log) (omega arith))) (record { most = omega arith }))
    (at_if (length s.log + 4) (not (must_take s p q l)) _ _ (record { most = omega arith })
    (at_if (length s.log + 4) (not (able && s.up p)) _ _ (refusal (unable_cause (s.up p)))
    (joins (after_joining_checkpoint s (with_rest s.channel q p rest) p k false q l) (one_row s.log (Took p k) (length s.log) (omega arith)))))))
  where
    refusal : (cause : Cause) → Within (length s.log + 4) (after_unwilling s p q k cause rest)
    refusal cause = record { most = let a = one_row s.log (Unwilling p k cause) (length s.log) (omega arith) in omega (arith, a) }

    joins : (t : State) → length t.log ≤ length s.log + 1 → Within (length s.log + 4) (late_settling t p k)
    joins t h = more (length s.log + 1 + 2) (length s.log + 4) (late_settling t p k) (omega arith) (settles t p k (length s.log + 1) h)

one_more : (s t : State) (x : Event) → t.log ≡ s.log ++ x ∷ [] → Within (length s.log + 4) t
one_more s t x e = record { most = let a = one_row s.log x (length s.log) (omega arith) in let b = ap length e in omega (arith, a, b) }

no_more : (s t : State) → t.log ≡ s.log → Within (length s.log + 4) t
no_more s t e = record { most = let b = ap length e in omega (arith, b) }

taken : (s : State) (p q : ℕ) (able : Bool) (l : List Parcel) → Within (length s.log + 4) (late_front s p q able l)
taken s p q able [] = no_more s s refl
taken s p q able (App m ∷ rest) = at_if (length s.log + 4) (is_ready s p) _ _ (no_more s (after_holding s p q m rest) refl)
    (at_if (length s.log + 4) (s.up p) _ _ (one_more s (after_receiving s (with_rest s.channel q p rest) s.held p q m) (Received p q m) refl) (one_more s (after_dropping s (with_rest s.channel q p rest) s.held p q m) (Dropped p q m) refl))
taken s p q able (Ask k l ∷ rest) = asked s p q able k l rest
taken s p q able (Reply k w ∷ rest) = more (length s.log + 2) (length s.log + 4) (late_settling (after_reply s p q k w rest) p k) (omega arith) (settles (after_reply s p q k w rest) p k (length s.log) (omega arith))
taken s p q able (Decide k c ∷ rest) = at_if (length s.log + 4) (s.so_far.open_in p == k) _ _
    (more (length s.log + 1) (length s.log + 4) (late_closing (after_decision s p q rest) p k c) (omega arith) (closes (after_decision s p q rest) p k c (length s.log) (omega arith)))
    (no_more s (after_decision s p q rest) refl)

takes : (s : State) (p q : ℕ) (able : Bool) (l : List Parcel) → Within (length s.log + 4) (late_take s p q able l)
takes s p q able [] = taken s p q able (s.channel q p)
takes s p q able (App m ∷ rest) = at_if (length s.log + 4) (s.up p) _ _ (one_more s (after_receiving s s.channel (with_rest s.held q p rest) p q m) (Received p q m) refl) (one_more s (after_dropping s s.channel (with_rest s.held q p rest) p q m) (Dropped p q m) refl)
takes s p q able (Ask k l ∷ rest) = no_more s s refl
takes s p q able (Reply k w ∷ rest) = no_more s s refl
takes s p q able (Decide k c ∷ rest) = no_more s s refl

begins : (s : State) (p : ℕ) (roll : Bool) → Within (length s.log + 4) (late_beginning s p roll)
begins s p false = more (length s.log + 1 + 1 + 2) (length s.log + 4) (late_beginning s p false) (omega arith) (settles (after_joining_checkpoint (after_began s p false) s.channel p (s.instances + 1) true p 0) p (s.instances + 1) (length s.log + 1 + 1) (one_row (after_began s p false).log (Took p (s.instances + 1)) (length s.log + 1) (one_row s.log (Began p (s.instances + 1) Checkpoint) (length s.log) (omega arith))))
begins s p true = more (length s.log + 1 + 1 + 2) (length s.log + 4) (late_beginning s p true) (omega arith) (settles (after_joining_rollback (after_began s p true) s.channel p (s.instances + 1) true p 0) p (s.instances + 1) (length s.log + 1 + 1) (one_row (after_began s p true).log (Ready p (s.instances + 1)) (length s.log + 1) (one_row s.log (Began p (s.instances + 1) Rollback) (length s.log) (omega arith))))

pub four : (s : State) (x : ProtocolStep) → length (late_step s x).log ≤ length s.log + 4
four s x = (step x).most
  where
    starts : (p : ℕ) (roll able : Bool) → Within (length s.log + 4) (late_begin_command s p roll able)
    starts p true able = begins s p true
    starts p false able = at_if (length s.log + 4) (able && s.up p) _ _ (begins s p false) (one_more s (after_refusal s p verb.Checkpoint (unable_cause (s.up p))) (Refused p verb.Checkpoint (unable_cause (s.up p))) refl)

    step : (x : ProtocolStep) → Within (length s.log + 4) (late_step s x)
    step (Send p q body) = at_if (length s.log + 4) ((nat_lt p s.processes && nat_lt q s.processes) && (s.so_far.open_in p == 0 && not (q == p))) _ _
        (at_if (length s.log + 4) (s.up p) _ _ (one_more s (after_sending s p q body) (Sent p q body) refl) (one_more s (after_refusal s p verb.Send Down) (Refused p verb.Send Down) refl))
        (no_more s s refl)
    step (Begin p roll able) = at_if (length s.log + 4) (s.so_far.open_in p == 0) _ _ (starts p roll able) (one_more s (after_refusal s p (verb_for roll) (Busy (s.so_far.open_in p))) (Refused p (verb_for roll) (Busy (s.so_far.open_in p))) refl)
    step (Fail p) = at_if (length s.log + 4) (s.up p) _ _ (one_more s (after_failing s p) (Failed p) refl) (one_more s (after_refusal s p verb.Fail Down) (Refused p verb.Fail Down) refl)
    step (Take p q able) = at_if (length s.log + 4) (is_ready s p) _ _ (taken s p q able (s.channel q p)) (takes s p q able (s.held q p))
