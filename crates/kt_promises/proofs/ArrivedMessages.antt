-- Where nothing is in transit each live message that isn't dropped has been received, and that is live.
use Rattle.std.proofs.Common.{length, ◌≡◌, ℕ, Bool, true, false, List, ◌++◌, append-nil, refl, arith, sym, ap, ap₂, ◌∙◌, Some, None}
use Rattle.std.specs.Prelude.{◌==◌, if◌then◌else◌}
use Rattle.kt_fifo.specs.declared.parcels.Parcel.{Parcel}
use Rattle.kt_spacetime.specs.declared.deeds.Deed.TheVariants as deed
use Rattle.kt_meaning.specs.Legal.{IsLegal, has_deed}
use Rattle.kt_meaning.specs.Past.{past}
use Rattle.kt_protocol.specs.Summary.{Summary, summary}
use Rattle.kt_protocol.specs.InTransit.{times, received_of}
use Rattle.kt_protocol.proofs.LawfulSteps.{lawful_after_run}
use Rattle.kt_protocol.proofs.SummaryTies.{tied}
use Rattle.kt_machine.specs.Done.{done}
use Rattle.kt_machine.specs.States.{live_in}
use Rattle.kt_machine.proofs.ReceivedMessages.{got_none}
use Rattle.kt_machine.proofs.StateValues.{live_is}
use Rattle.kt_plan.specs.Limits.{Planned, IsPlan}
use Rattle.kt_promises.proofs.InstancesBegun.{run_facts}
use Rattle.kt_promises.specs.Progress.{Progress}
use Rattle.kt_promises.specs.Runs.{RunReaches}
use Rattle.kt_promises.specs.AtRest.{HasNothingInTransit}
use Rattle.kt_promises.specs.Lines.{messages_among, message_line, EachIsOnceOnItsLine}
use Rattle.kt_promises.proofs.ReachedRuns.{carry, seen_of, log_of}
use Rattle.kt_promises.proofs.LinesOfRuns.{once_seen}
use Rattle.kt_promises.proofs.DefaultSteps.{numbers_are, legal_progress}

-- who is in no instance is in none by the log
pub open_none : (plan : Planned) (first : ℕ) (w : Progress) (p : ℕ) → IsPlan plan → RunReaches plan first w → (w.now.states p).inst ≡ 0 → (past w.now.log).open_in p ≡ None
open_none plan first w p i r = carry plan first w (λ v. (v.now.states p).inst ≡ 0 → (past v.now.log).open_in p ≡ None) i r
    (λ g s z. let k = run_facts plan g s in (tied g.state.log (legal_progress plan g k)).open_in p ∙ none ((summary g.state.log).open_in p) (ap (λ (h : Summary). h.open_in p) (sym (numbers_are plan g k)) ∙ z))
  where
    none : (n : ℕ) → n ≡ 0 → (if n == 0 then None else Some n) ≡ None
    none n e = rw e refl

module _ (plan : Planned) (first : ℕ) (w : Progress) (i : IsPlan plan) (r : RunReaches plan first w) (quiet : HasNothingInTransit w.now) where
  -- a live history is what the process itself did
  pub own_live : (q : ℕ) → (past w.now.log).live q ≡ (done w.now.log).own q
  own_live q = live_is w.now.log q (log_of plan first w IsLegal i r (λ s. (lawful_after_run (length plan.names) s).legal))
      ∙ ap (live_in (done w.now.log) q) (open_none plan first w q i r (quiet.closed q))

  line_received : (p q : ℕ) → message_line w.now p q ≡ received_of p ((past w.now.log).live q)
  line_received p q = ap₂ (λ (x y : List Parcel). received_of p ((done w.now.log).own q) ++ (messages_among x ++ messages_among y)) (quiet.none_held p q) (quiet.no_parcel p q)
      ∙ (append-nil (received_of p ((done w.now.log).own q)) ∙ ap (received_of p) (sym (own_live q)))

  pub received_once : (m p q : ℕ) → has_deed (deed.Sent m q) ((past w.now.log).live p) ≡ true → (past w.now.log).dropped m ≡ false → times m (received_of p ((past w.now.log).live q)) ≡ 1
  received_once m p q h d = ap (times m) (sym (line_received p q)) ∙ seen_of plan first w EachIsOnceOnItsLine i r (once_seen (length plan.names) first) m p q h d

  pub received_all : (m p q : ℕ) → has_deed (deed.Sent m q) ((past w.now.log).live p) ≡ true → (past w.now.log).dropped m ≡ false → has_deed (deed.Received m p) ((past w.now.log).live q) ≡ true
  received_all m p q h d = go (has_deed (deed.Received m p) ((past w.now.log).live q)) refl
    where
      go : (b : Bool) → has_deed (deed.Received m p) ((past w.now.log).live q) ≡ b → has_deed (deed.Received m p) ((past w.now.log).live q) ≡ true
      go true e = e
      go false e = let x = received_once m p q h d in let y = got_none p m ((past w.now.log).live q) e in absurd (omega (arith, x, y))
