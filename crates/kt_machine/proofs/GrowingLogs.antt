-- The log only grows.
use Rattle.std.proofs.Common.{◌≡◌, ℕ, ℤ, ◌+◌, Bool, true, false, not, List, [], ◌∷◌, ◌++◌, refl, Option, Some, None, ap, sym, ◌∙◌, append_assoc}
use Rattle.std.specs.Prelude.{◌==◌, ◌&&◌, nat_lt, if◌then◌else◌}
use Rattle.std.proofs.lemmas.List.{append-nil}
use Rattle.kt_fifo.specs.declared.parcels.Parcel.{Parcel}
use Rattle.kt_fifo.specs.declared.parcels.Parcel.TheVariants.{App, Ask, Reply, Decide}
use Rattle.kt_spacetime.specs.declared.event.Event.{Event}
use Rattle.kt_spacetime.specs.declared.event.Event.TheVariants.{Sent}
use Rattle.kt_meaning.specs.Messages.{row_at}
use Rattle.kt_meaning.specs.Past.{at_one, is_rollback_kind}
use Rattle.kt_protocol.specs.States.{ProtocolStep, Send, Begin, Fail, Take, opening}
use Rattle.kt_protocol.specs.LateSteps.{late_run}
use Rattle.kt_machine.specs.Labelling.{labelling}
use Rattle.kt_machine.specs.Seen.{Seen, seen}
use Rattle.kt_machine.specs.ListChanges as changes
use Rattle.kt_machine.specs.CallTests as tests
use Rattle.kt_machine.specs.SeenMessages.{seen_without_front}
use Rattle.kt_machine.specs.SeenJoining.{seen_joining_rollback, no_note, seen_joining_checkpoint, seen_began}
use Rattle.kt_machine.specs.SeenReplies.{seen_reply}
use Rattle.kt_machine.specs.SeenClosing.{seen_closing_rollback, seen_closing, seen_closing_checkpoint, seen_ending, seen_deciding, seen_settling}
use Rattle.kt_machine.specs.Transition.{seen_ask, seen_front, is_seen_ready, seen_take, seen_beginning, seen_begin_command, transition}
use Rattle.kt_machine.proofs.Runs.{seen_next}
use Rattle.kt_machine.proofs.LogFacts.{labels_stay}

abbrev pub Grown : List Event → Seen → Type 0
Grown log w = (rows : List Event) × (w.log ≡ log ++ rows)

none : (v : Seen) → Grown v.log v
none v = ([], sym (append-nil v.log))

more : (log : List Event) (v w : Seen) → Grown log v → Grown v.log w → Grown log w
more log v w a b = (a.0 ++ b.0, b.1 ∙ (ap (λ (l : List Event). l ++ b.0) a.1 ∙ append_assoc log a.0 b.0))

at_if : (log : List Event) (b : Bool) (x y : Seen) → Grown log x → Grown log y → Grown log (if b then x else y)
at_if log true x y e f = e
at_if log false x y e f = f

restores_grown : (v : Seen) (p k : ℕ) (w : Bool) → Grown v.log (seen_closing_rollback v p k w)
restores_grown v p k true = (_ ∷ [], refl)
restores_grown v p k false = (_ ∷ [], refl)

closes_grown : (v : Seen) (p k : ℕ) (w : Bool) → Grown v.log (seen_closing v p k w)
closes_grown v p k w = at_if v.log (v.states p).part.is_rollback (seen_closing_rollback v p k w) (seen_closing_checkpoint v p k w) (restores_grown v p k w) (_ ∷ [], refl)

ends_grown : (v : Seen) (p k : ℕ) (o : Option ℕ) → Grown v.log (seen_ending v p k o)
ends_grown v p k (Some to) = none v
ends_grown v p k None = more v.log (seen_deciding v p k (v.states p).part.willing) (seen_closing (seen_deciding v p k (v.states p).part.willing) p k (v.states p).part.willing) (_ ∷ [], refl) (closes_grown (seen_deciding v p k (v.states p).part.willing) p k (v.states p).part.willing)

settles_grown : (v : Seen) (p k : ℕ) → Grown v.log (seen_settling v p k)
settles_grown v p k = at_if v.log ((v.states p).part.awaited == 0) (seen_ending v p k (v.states p).part.parent) v (ends_grown v p k (v.states p).part.parent) (none v)

asked_grown : (v : Seen) (p q : ℕ) (able : Bool) (k : ℕ) (roll : Bool) (l : ℕ) (rest : List Parcel) → Grown v.log (seen_ask v p q able k roll l rest)
asked_grown v p q able k roll l rest = at_if v.log ((v.states p).inst == k) _ _ (none v)
    (at_if v.log (not ((v.states p).inst == 0)) _ _ (_ ∷ [], refl)
    (at_if v.log roll _ _ (at_if v.log (tests.must_roll (v.states p).calls q l) _ _ (more v.log (seen_joining_rollback v (changes.with_rest v.channel q p rest) p k (Some q) (at_one q (Some l) no_note)) (seen_settling (seen_joining_rollback v (changes.with_rest v.channel q p rest) p k (Some q) (at_one q (Some l) no_note)) p k) (_ ∷ [], refl) (settles_grown (seen_joining_rollback v (changes.with_rest v.channel q p rest) p k (Some q) (at_one q (Some l) no_note)) p k)) (none v))
    (at_if v.log (not (tests.must_take (v.states p).calls q l)) _ _ (none v)
    (at_if v.log (not (able && (v.states p).up)) _ _ (_ ∷ [], refl) (more v.log (seen_joining_checkpoint v (changes.with_rest v.channel q p rest) p k (Some q)) (seen_settling (seen_joining_checkpoint v (changes.with_rest v.channel q p rest) p k (Some q)) p k) (_ ∷ [], refl) (settles_grown (seen_joining_checkpoint v (changes.with_rest v.channel q p rest) p k (Some q)) p k))))))

fronts_grown : (v : Seen) (p q : ℕ) (able : Bool) (l : List Parcel) → Grown v.log (seen_front v p q able l)
fronts_grown v p q able [] = none v
fronts_grown v p q able (App l m b ∷ rest) = at_if v.log (is_seen_ready v p) _ _ (none v) (at_if v.log (v.states p).up _ _ (_ ∷ [], refl) (_ ∷ [], refl))
fronts_grown v p q able (Ask k kind l ∷ rest) = asked_grown v p q able k (is_rollback_kind (Some kind)) l rest
fronts_grown v p q able (Reply k w ∷ rest) = at_if v.log ((v.states p).part.awaited == 0) _ _ (none v) (settles_grown (seen_reply v p q w rest) p k)
fronts_grown v p q able (Decide k c ∷ rest) = at_if v.log ((v.states p).inst == k) _ _ (closes_grown (seen_without_front v p q rest) p k c) (none v)

takes_grown : (v : Seen) (p q : ℕ) (able : Bool) (l : List Parcel) → Grown v.log (seen_take v p q able l)
takes_grown v p q able [] = fronts_grown v p q able (v.channel q p)
takes_grown v p q able (App l m b ∷ rest) = at_if v.log (v.states p).up _ _ (_ ∷ [], refl) (_ ∷ [], refl)
takes_grown v p q able (Ask k kind l ∷ rest) = none v
takes_grown v p q able (Reply k w ∷ rest) = none v
takes_grown v p q able (Decide k c ∷ rest) = none v

begins_grown : (v : Seen) (p : ℕ) (roll : Bool) → Grown v.log (seen_beginning v p roll)
begins_grown v p false = more v.log (seen_began v p false) (seen_settling (seen_joining_checkpoint (seen_began v p false) v.channel p (v.begun + 1) None) p (v.begun + 1)) (_ ∷ [], refl) (more (seen_began v p false).log (seen_joining_checkpoint (seen_began v p false) v.channel p (v.begun + 1) None) (seen_settling (seen_joining_checkpoint (seen_began v p false) v.channel p (v.begun + 1) None) p (v.begun + 1)) (_ ∷ [], refl) (settles_grown (seen_joining_checkpoint (seen_began v p false) v.channel p (v.begun + 1) None) p (v.begun + 1)))
begins_grown v p true = more v.log (seen_began v p true) (seen_settling (seen_joining_rollback (seen_began v p true) v.channel p (v.begun + 1) None no_note) p (v.begun + 1)) (_ ∷ [], refl) (more (seen_began v p true).log (seen_joining_rollback (seen_began v p true) v.channel p (v.begun + 1) None no_note) (seen_settling (seen_joining_rollback (seen_began v p true) v.channel p (v.begun + 1) None no_note) p (v.begun + 1)) (_ ∷ [], refl) (settles_grown (seen_joining_rollback (seen_began v p true) v.channel p (v.begun + 1) None no_note) p (v.begun + 1)))

starts_grown : (v : Seen) (p : ℕ) (roll able : Bool) → Grown v.log (seen_begin_command v p roll able)
starts_grown v p true able = begins_grown v p true
starts_grown v p false able = at_if v.log (able && (v.states p).up) _ _ (begins_grown v p false) (_ ∷ [], refl)

pub step_grown : (v : Seen) (x : ProtocolStep) → Grown v.log (transition v x)
step_grown v (Send p q b) = at_if v.log ((nat_lt p v.processes && nat_lt q v.processes) && ((v.states p).inst == 0 && not (q == p))) _ _ (at_if v.log (v.states p).up _ _ (_ ∷ [], refl) (_ ∷ [], refl)) (none v)
step_grown v (Begin p roll able) = at_if v.log ((v.states p).inst == 0) _ _ (starts_grown v p roll able) (_ ∷ [], refl)
step_grown v (Fail p) = at_if v.log (v.states p).up _ _ (_ ∷ [], refl) (_ ∷ [], refl)
step_grown v (Take p q able) = at_if v.log (is_seen_ready v p) _ _ (fronts_grown v p q able (v.channel q p)) (takes_grown v p q able (v.held q p))

pub log_grows : (n : ℕ) (steps : List ProtocolStep) (x : ProtocolStep) → (rows : List Event) × ((late_run (opening n) (steps ++ x ∷ [])).log ≡ (late_run (opening n) steps).log ++ rows)
log_grows n steps x = let g = step_grown (seen 0 (late_run (opening n) steps)) x in (g.0, ap (λ (v : Seen). v.log) (seen_next n 0 steps x) ∙ g.1)

pub label_kept : (n first : ℕ) (steps : List ProtocolStep) (x : ProtocolStep) (m p q : ℕ) (b : ℤ) → row_at (late_run (opening n) steps).log m ≡ Some (Sent p q b) →
    (labelling first (late_run (opening n) (steps ++ x ∷ [])).log).label m ≡ (labelling first (late_run (opening n) steps).log).label m
label_kept n first steps x m p q b e = let g = log_grows n steps x in ap (λ (l : List Event). (labelling first l).label m) g.1 ∙ labels_stay first (late_run (opening n) steps).log g.0 m p q b e
