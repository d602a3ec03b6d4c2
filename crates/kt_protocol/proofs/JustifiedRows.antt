-- Each row that says that a process was unwilling is justified by the rows before it.
use Rattle.std.proofs.Common.{◌≡◌, ℕ, ◌≤◌, ◌<◌, Bool, true, false, List, ◌∷◌, ◌++◌, arith, refl, sym, ap, subst, inl, inr, ◌∙◌}
use Rattle.std.specs.Prelude.{take}
use Rattle.std.proofs.lemmas.Bool.{cases_lt}
use Rattle.std.proofs.lemmas.List.{take_at}
use Rattle.kt_base.specs.declared.words.Cause.{Cause}
use Rattle.kt_base.specs.declared.words.Cause.TheVariants.{Busy, Down, NoSave}
use Rattle.kt_spacetime.specs.declared.event.Event.{Event}
use Rattle.kt_meaning.specs.Past.{past}
use Rattle.kt_protocol.specs.States.{State, ProtocolStep, Take, opening}
use Rattle.kt_protocol.specs.Steps.{run}
use Rattle.kt_protocol.specs.Refusals.{IsFree, MayBeUnwilling}
use Rattle.kt_meaning.specs.Decided.{IsJustified, JustifiesUnwilling}
use Rattle.kt_protocol.proofs.RowFacts.{IsAsked}
use Rattle.kt_protocol.proofs.Invariant.{Invariant}
use Rattle.kt_protocol.proofs.Lawful.{tie}
use Rattle.kt_protocol.proofs.LawfulSteps.{lawful_after_run}
use Rattle.kt_protocol.proofs.LogMeaning.{justified_in}
use Rattle.kt_protocol.proofs.AddedRows.{unwilling_added}
use Rattle.kt_protocol.proofs.GrowingLogs.{front_of_log}
use Rattle.kt_protocol.proofs.Walk.{invariant_after_run}

free_asked : (s : State) (p q k : ℕ) (cause : Cause) → Invariant s → s.so_far.joined k q ≡ true → IsFree s p q k → IsAsked s.so_far p k cause
free_asked s p q k cause g j f = record {
  asker = q;
  joined = j;
  msg = f.has_to.msg;
  place = f.has_to.place;
  received = λ _. (f.has_to.received, past, f.has_to.within);
  out = f.has_to.out;
  sent = λ z. absurd (let y = f.checkpoint in cc (z, y));
  linked = λ _. (f.checkpoint, f.has_to.sent, f.has_to.past_permanent);
}
  where
    -- what q received permanently was sent permanently
    past : s.so_far.permanent q ≤ f.has_to.place
    past = elim (cases_lt f.has_to.place (s.so_far.permanent q)) [
      | inl y ↦ (
          let x = g.histories.received_is q f.has_to.place f.has_to.msg p f.has_to.received in
          let w = g.histories.sent_is p f.has_to.out f.has_to.msg q f.has_to.sent in
          let z : s.so_far.sent_at f.has_to.msg < s.so_far.permanent p = rw w.1 at (g.consistent.sent_permanently f.has_to.msg x.0 (rw (x.1, x.2) y)) in
          let o = f.has_to.past_permanent in
          absurd (omega (arith, z, w.2, o)))
      | inr y ↦ y
    ]

asked_by : (s : State) (p q k : ℕ) (able : Bool) (cause : Cause) → Invariant s → MayBeUnwilling s p q k able cause → IsAsked s.so_far p k cause
asked_by s p q k able (Busy j) g r = at_kind (s.so_far.is_rollback k) refl
  where
    at_kind : (b : Bool) → s.so_far.is_rollback k ≡ b → IsAsked s.so_far p k (Busy j)
    at_kind false e = let x = r.cause.received e in record { asker = q; joined = r.member; msg = x.msg; place = x.place; received = λ _. (x.received, x.past_permanent, x.within); out = 0; sent = λ z. absurd (cc (z, e)); linked = λ z. absurd (cc (z)) }
    at_kind true e = let x = r.cause.sent e in record { asker = q; joined = r.member; msg = x.msg; place = 0; received = λ z. absurd (cc (z, e)); out = x.place; sent = λ _. (x.sent, x.past_permanent); linked = λ z. absurd (cc (z)) }
asked_by s p q k able Down g r = free_asked s p q k Down g r.member r.cause.0
asked_by s p q k able NoSave g r = free_asked s p q k NoSave g r.member r.cause.0

pub justified : (n : ℕ) (steps : List ProtocolStep) → JustifiesUnwilling (run (opening n) steps).log
justified n steps t p k cause e =
    let r = unwilling_added n steps t p k cause e in
    let s = run (opening n) r.before in
    let grown = front_of_log n r.before (Take p r.from r.able ∷ r.after) in
    let rows : (run (opening n) steps).log ≡ s.log ++ grown.0 = ap (λ (l : List ProtocolStep). (run (opening n) l).log) r.steps_are ∙ grown.1 in
    let front : take t (run (opening n) steps).log ≡ s.log = ap (take t) rows ∙ take_at s.log grown.0 t (sym r.row) in
    subst (λ (l : List Event). IsJustified (past l) p k cause) (sym front)
    (justified_in s.so_far (past s.log) p k cause (tie _ s (invariant_after_run n r.before) (lawful_after_run n r.before)) (asked_by s p r.from k r.able cause (invariant_after_run n r.before) r.justified))
