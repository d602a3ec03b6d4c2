-- Commands, by names.
use Rattle.std.proofs.Common.{◌≡◌, ◌∙◌, ℕ, ℤ, ◌+◌, ◌≤◌, Bool, true, false, not, Option, Some, None, List, [], ◌∷◌, ◌++◌, refl, sym, ap, subst, arith, append_assoc}
use Rattle.std.specs.Prelude.{◌==◌, ◌&&◌, nat_lt, if◌then◌else◌, is_none}
use Rattle.std.proofs.lemmas.Bool.Decides.{nat_tests}
use Rattle.std.proofs.lemmas.List.{append-nil}
use Rattle.kt_base.specs.declared.words.Cause.TheVariants.{Busy, Down}
use Rattle.kt_base.specs.declared.words.Verb.TheVariants as verb
use Rattle.kt_spacetime.specs.declared.event.Event.{Event}
use Rattle.kt_meaning.specs.Past.{at_one}
use Rattle.kt_protocol.specs.Replies.{unable_cause}
use Rattle.kt_protocol.specs.Steps.{verb_for}
use Rattle.kt_protocol.specs.States.{ProtocolStep}
use Rattle.kt_protocol.specs.States as step
use Rattle.kt_machine.specs.Messages.{sends_of}
use Rattle.kt_machine.specs.Seen.{Seen}
use Rattle.kt_machine.specs.SeenMessages.{seen_refusal}
use Rattle.kt_machine.specs.SeenJoining.{no_note, seen_began, seen_joining_checkpoint, seen_joining_rollback}
use Rattle.kt_machine.specs.SeenClosing.{seen_closing_rollback, seen_closing, seen_closing_checkpoint, seen_ending, seen_deciding, seen_settling}
use Rattle.kt_machine.specs.Transition.{seen_beginning, seen_begin_command, transition}
use Rattle.kt_spacetime.specs.declared.names.InstName.{InstName}
use Rattle.kt_spacetime.specs.declared.named_rows.NamedCause.TheVariants as own_cause
use Rattle.kt_meaning.specs.Names.{nothing_given, numbered_cause}
use Rattle.kt_meaning.proofs.GivenFacts.{none_given}
use Rattle.kt_manager.specs.Nodes.{NodeState, Doing, nothing}
use Rattle.kt_node.specs.Inputs as input
use Rattle.kt_manager.specs.NodeMessages.{unable}
use Rattle.kt_manager.specs.NodeJoining.{beginning, joining_checkpoint, joining_rollback}
use Rattle.kt_manager.specs.NodeClosing.{settling}
use Rattle.kt_manager.specs.NodeSteps.{starting, told_to_begin}
use Rattle.kt_node.specs.NodeSteps.{next_name, is_step, node_after}
use Rattle.kt_node.specs.Nets.{Net}
use Rattle.kt_node.proofs.Naming.{IsNaming, all_given, naming_before, given_more_rows}
use Rattle.kt_node.proofs.Told.{given}
use Rattle.kt_node.proofs.Done.{IsDone}
use Rattle.kt_node.proofs.MessageRules.{done_sending, done_refusing, done_failing, choose, cause_unable, cause_busy}
use Rattle.kt_node.proofs.JoiningRules.{done_joining_checkpoint, done_joining_rollback, done_beginning}
use Rattle.kt_node.proofs.ClosingRules.{done_settling}

-- a log that goes on
abbrev Grown : List Event → Seen → Type 0
Grown log w = (rows : List Event) × (w.log ≡ log ++ rows)

at_if : (log : List Event) (b : Bool) (x y : Seen) → Grown log x → Grown log y → Grown log (if b then x else y)
at_if log true x y e f = e
at_if log false x y e f = f

more : (log : List Event) (v w : Seen) → Grown log v → Grown v.log w → Grown log w
more log v w a b = (a.0 ++ b.0, b.1 ∙ (ap (λ (l : List Event). l ++ b.0) a.1 ∙ append_assoc log a.0 b.0))

restores_grown : (v : Seen) (p k : ℕ) (w : Bool) → Grown v.log (seen_closing_rollback v p k w)
restores_grown v p k true = (_ ∷ [], refl)
restores_grown v p k false = (_ ∷ [], refl)

closes_grown : (v : Seen) (p k : ℕ) (w : Bool) → Grown v.log (seen_closing v p k w)
closes_grown v p k w = at_if v.log (v.states p).part.is_rollback (seen_closing_rollback v p k w) (seen_closing_checkpoint v p k w) (restores_grown v p k w) (_ ∷ [], refl)

ends_grown : (v : Seen) (p k : ℕ) (o : Option ℕ) → Grown v.log (seen_ending v p k o)
ends_grown v p k (Some to) = ([], sym (append-nil v.log))
ends_grown v p k None = more v.log (seen_deciding v p k (v.states p).part.willing) (seen_closing (seen_deciding v p k (v.states p).part.willing) p k (v.states p).part.willing) (_ ∷ [], refl) (closes_grown (seen_deciding v p k (v.states p).part.willing) p k (v.states p).part.willing)

settles_grown : (v : Seen) (p k : ℕ) → Grown v.log (seen_settling v p k)
settles_grown v p k = at_if v.log ((v.states p).part.awaited == 0) (seen_ending v p k (v.states p).part.parent) v (ends_grown v p k (v.states p).part.parent) ([], sym (append-nil v.log))

-- names of a log that goes on
pub naming_of_grown : (name : ℕ → InstName) (log : List Event) (w : Seen) → Grown log w → IsNaming name (given w.log) → IsNaming name (given log)
naming_of_grown name log w g n = naming_before name (given log) g.0 (all_given nothing_given log none_given)
    (subst (IsNaming name) (ap given g.1 ∙ given_more_rows log g.0) n)

module _ (name : ℕ → InstName) (first : ℕ) (w : Net) (p : ℕ) (count : ℕ → ℕ) where
  -- so it is, however many instances each process has begun
  abbrev pub Ended : Doing → Seen → Type 0
  Ended d v = (counted : ℕ → ℕ) × IsDone name first w p counted d v

  pub choose_ended : (b c : Bool) (d e : Doing) (x z : Seen) → b ≡ c → IsNaming name (given (if c then x else z).log) → (c ≡ true → IsNaming name (given x.log) → Ended d x) → (c ≡ false → IsNaming name (given z.log) → Ended e z) → Ended (if b then d else e) (if c then x else z)
  choose_ended true true d e x z r n f g = f refl n
  choose_ended false false d e x z r n f g = g refl n
  choose_ended true false d e x z r n f g = absurd (cc)
  choose_ended false true d e x z r n f g = absurd (cc)

  module _ (y : NodeState) (v : Seen) (h : IsDone name first w p count (nothing y) v) where
    -- p begins an instance
    pub ends_starting : (roll : Bool) → IsNaming name (given (seen_beginning v p roll).log) → Ended (starting (next_name y) y roll) (seen_beginning v p roll)
    ends_starting false n =
        let joined = seen_joining_checkpoint (seen_began v p false) v.channel p (v.begun + 1) None in
        let began = done_beginning name first w p count y v false (naming_of_grown name _ (seen_settling joined p (v.begun + 1)) (more _ joined (seen_settling joined p (v.begun + 1)) (_ ∷ [], refl) (settles_grown joined p (v.begun + 1))) n) h in (
          at_one p (count p + 1) count,
          subst (λ (k : InstName). IsDone name first w p (at_one p (count p + 1) count) (settling k (joining_checkpoint k None (beginning (next_name y) y false))) (seen_beginning v p false)) (sym began.1)
              (done_settling name first w p (at_one p (count p + 1) count) _ _ (v.begun + 1) (omega arith) (omega arith)
              (done_joining_checkpoint name first w p (at_one p (count p + 1) count) _ (seen_began v p false) (v.begun + 1) None (omega arith) (omega arith) began.0)),
        )
    ends_starting true n =
        let joined = seen_joining_rollback (seen_began v p true) v.channel p (v.begun + 1) None no_note in
        let began = done_beginning name first w p count y v true (naming_of_grown name _ (seen_settling joined p (v.begun + 1)) (more _ joined (seen_settling joined p (v.begun + 1)) (_ ∷ [], refl) (settles_grown joined p (v.begun + 1))) n) h in (
          at_one p (count p + 1) count,
          subst (λ (k : InstName). IsDone name first w p (at_one p (count p + 1) count) (settling k (joining_rollback k None no_note (beginning (next_name y) y true))) (seen_beginning v p true)) (sym began.1)
              (done_settling name first w p (at_one p (count p + 1) count) _ _ (v.begun + 1) (omega arith) (omega arith)
              (done_joining_rollback name first w p (at_one p (count p + 1) count) _ (seen_began v p true) (v.begun + 1) None no_note (omega arith) (omega arith) began.0)),
        )

    begins_outside : (roll able : Bool) → IsNaming name (given (seen_begin_command v p roll able).log) → Ended (told_to_begin (next_name y) None y roll able) (seen_begin_command v p roll able)
    begins_outside true able n = ends_starting true n
    begins_outside false able n = choose_ended (able && y.up) (able && (v.states p).up) _ _ _ _ (ap (λ (x : NodeState). able && x.up) h.state) n
        (λ e m. ends_starting false m)
        (λ e m. (count, done_refusing name first w p count y v h verb.Checkpoint (unable y.up) (unable_cause (v.states p).up) (ap (λ (x : NodeState). numbered_cause (given v.log) (unable x.up)) h.state ∙ cause_unable name first w p count y v h (v.states p).up)))

    pub ends_begin : (roll able : Bool) → (v.states p).inst ≤ v.begun → IsNaming name (given (transition v (step.Begin p roll able)).log) → Ended (node_after y (input.Begin roll able)) (transition v (step.Begin p roll able))
    ends_begin roll able low n = subst (λ (o : Option InstName). Ended (told_to_begin (next_name y) o y roll able) (transition v (step.Begin p roll able))) (sym (ap (λ (x : NodeState). x.inst) h.state)) (at_inst ((v.states p).inst == 0) refl n)
      where
        some : (k : ℕ) → (k == 0) ≡ false → 1 ≤ k
        some k e = grind (arith, nat_tests, e)

        at_inst : (b : Bool) → ((v.states p).inst == 0) ≡ b → IsNaming name (given (if b then seen_begin_command v p roll able else seen_refusal v p (verb_for roll) (Busy (v.states p).inst)).log)
            → Ended (told_to_begin (next_name y) (if b then None else Some (name (v.states p).inst)) y roll able) (if b then seen_begin_command v p roll able else seen_refusal v p (verb_for roll) (Busy (v.states p).inst))
        at_inst true e m = begins_outside roll able m
        at_inst false e m = (count, done_refusing name first w p count y v h (verb_for roll) (own_cause.Busy (name (v.states p).inst)) (Busy (v.states p).inst) (cause_busy name first w p count y v h (v.states p).inst (some (v.states p).inst e) low))

    -- a send and a failure
    pub ends_send : (q : ℕ) (body : ℤ) → (v.states p).used ≡ first + sends_of p v.log → IsDone name first w p count (node_after y (input.Send q body)) (transition v (step.Send p q body))
    ends_send q body used = choose name first w p count y v h (is_step y (input.Send q body)) ((nat_lt p v.processes && nat_lt q v.processes) && ((v.states p).inst == 0 && not (q == p))) _ _ _ _
        (ap (λ (x : NodeState). is_step x (input.Send q body)) h.state ∙ ap (λ (b : Bool). (nat_lt p v.processes && nat_lt q v.processes) && (b && not (q == p))) (none_is ((v.states p).inst == 0)))
        (choose name first w p count y v h y.up (v.states p).up _ _ _ _ (ap (λ (x : NodeState). x.up) h.state) (done_sending name first w p count y v h q body used)
        (done_refusing name first w p count y v h verb.Send own_cause.Down Down refl))
        h
      where
        none_is : (b : Bool) → is_none (if b then None else Some (name (v.states p).inst)) ≡ b
        none_is true = refl
        none_is false = refl

    pub ends_fail : IsDone name first w p count (node_after y input.Fail) (transition v (step.Fail p))
    ends_fail = choose name first w p count y v h y.up (v.states p).up _ _ _ _ (ap (λ (x : NodeState). x.up) h.state) (done_failing name first w p count y v h)
        (done_refusing name first w p count y v h verb.Fail own_cause.Down Down refl)
