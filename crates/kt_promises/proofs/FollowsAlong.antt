-- How far a log has come along a plan, and that more rows of the run bring it further.
use Rattle.std.proofs.Common.{◌≡◌, ◌≢◌, ℕ, ◌+◌, ◌<◌, ◌≤◌, ◌⊎◌, true, false, List, [], ◌∷◌, ◌++◌, length, take, refl, arith, sym, ap, subst, ◌∙◌, Some, inl, inr}
use Rattle.std.specs.Prelude.{option_map, slice_get}
use Rattle.std.proofs.lemmas.List.{take-append-le, length-append}
use Rattle.std.proofs.lemmas.Bool.{cases_lt, cases_eq}
use Rattle.std.proofs.Math.Seq.{take-append_seam}
use Rattle.std.proofs.Math.Nat.{eq-or-lt_of_le}
use Rattle.kt_spacetime.specs.declared.event.Event.{Event}
use Rattle.kt_spacetime.specs.Events.{process_of}
use Rattle.kt_meaning.specs.Past.{past, at_one}
use Rattle.kt_protocol.proofs.Updates.{at_one_here, at_one_other}
use Rattle.kt_plan.specs.Limits.{Planned}
use Rattle.kt_plan.specs.declared.commands.Command.{Command}
use Rattle.kt_meaning.specs.Follows.{commands_of, is_command_row, command_rows, AnswersJob, AnswerFirstCommands, command_answered, phase_at, IsQuietPast, KeepsPhases}
use Rattle.kt_promises.proofs.CommandRows.{has_command_row, rows_same, rows_own, rows_other, phase_before, phase_beyond, phase_seam, phase_of_old, answer_more}

-- a log answers so many commands of each process, in order, and no row is of a later phase
pub record ComesAlong (plan : Planned) (log : List Event) (done : ℕ → ℕ) (phase : ℕ) : Type 0 where
  pub counts : (p : ℕ) → length (command_rows p log) ≡ done p
  pub commands : (p : ℕ) → AnswerFirstCommands (commands_of p plan.commands) (command_rows p log)
  pub phases : KeepsPhases plan log
  pub below : (n k : ℕ) → phase_at plan log n ≡ Some k → k ≤ phase

none_at_all : (plan : Planned) (n k : ℕ) → phase_at plan [] n ≡ Some k → ⊥
none_at_all plan n k e = let z = phase_beyond plan [] n (omega arith) in cc (e, z)

pub along_start : (plan : Planned) (phase : ℕ) → ComesAlong plan [] (λ p. 0) phase
along_start plan phase = record {
  counts = λ p. refl;
  commands = λ p. tt;
  phases = record {
    finished = λ n k i p c e f l. absurd (none_at_all plan n k e);
    quiet = λ n k e f. absurd (none_at_all plan n k e);
  };
  below = λ n k e. absurd (none_at_all plan n k e);
}

-- a later phase has opened
pub along_later : (plan : Planned) (log : List Event) (done : ℕ → ℕ) (phase later : ℕ) → phase ≤ later → ComesAlong plan log done phase → ComesAlong plan log done later
along_later plan log done phase later l a = record {
  counts = a.counts;
  commands = a.commands;
  phases = a.phases;
  below = λ n k e. let x = a.below n k e in omega (arith, l, x);
}

-- rows that are no command rows
module _ (plan : Planned) (log rows : List Event) (done : ℕ → ℕ) (phase : ℕ) (a : ComesAlong plan log done phase) (none : has_command_row rows ≡ false) where
  old : (n k : ℕ) → phase_at plan (log ++ rows) n ≡ Some k → (n < length log) × (phase_at plan log n ≡ Some k)
  old n k e = let l = phase_of_old plan log rows n k none e in (l, sym (phase_before plan log rows n l) ∙ e)

  took : (n : ℕ) → n < length log → take n (log ++ rows) ≡ take n log
  took n l = take-append-le n log rows (omega (arith, l))

  pub along_idle : ComesAlong plan (log ++ rows) done phase
  along_idle = record {
    counts = λ p. ap length (rows_same p log rows none) ∙ a.counts p;
    commands = λ p. subst (AnswerFirstCommands (commands_of p plan.commands)) (sym (rows_same p log rows none)) (a.commands p);
    phases = record {
      finished = λ n k i p c e f l. let o = old n k e in subst (λ (x : List Event). i < length (command_rows p x)) (sym (took n o.0)) (a.phases.finished n k i p c o.1 f l);
      quiet = λ n k e f. let o = old n k e in subst (λ (x : List Event). IsQuietPast (past x)) (sym (took n o.0))
          (a.phases.quiet n k o.1 (λ m l g. f m l (phase_before plan log rows m (let y = o.0 in omega (arith, l, y)) ∙ g)));
    };
    below = λ n k e. a.below n k (old n k e).1;
  }

-- a row that answers the next command of its process, which is of the open phase
module _ (plan : Planned) (log : List Event) (row : Event) (done : ℕ → ℕ) (phase p : ℕ) (c : Command) (a : ComesAlong plan log done phase)
    (kind : is_command_row row ≡ true) (by : process_of row ≡ p) (answers : AnswersJob c.job row) (is_phase : c.phase ≡ phase)
    (next : slice_get (commands_of p plan.commands) (done p) ≡ Some c)
    (finished : (i u : ℕ) (d : Command) → slice_get (commands_of u plan.commands) i ≡ Some d → d.phase < phase → i < done u)
    (quiet : ((n : ℕ) → phase_at plan log n ≢ Some phase) → IsQuietPast (past log)) where
  answered : command_answered plan log row ≡ Some c
  answered = let n = a.counts p in rw (kind, by, n) next

  pub here : phase_at plan (log ++ row ∷ []) (length log) ≡ Some phase
  here = phase_seam plan log row ∙ (ap (option_map (λ (d : Command). d.phase)) answered ∙ ap Some is_phase)

  parts : (n k : ℕ) → phase_at plan (log ++ row ∷ []) n ≡ Some k → ((n < length log) × (phase_at plan log n ≡ Some k)) ⊎ ((n ≡ length log) × (k ≡ phase))
  parts n k e = elim (cases_lt n (length log)) [
    | inl l ↦ inl (l, sym (phase_before plan log (row ∷ []) n l) ∙ e)
    | inr l ↦ elim (eq-or-lt_of_le l) [
      | inl s ↦ inr (sym s, (let f = sym (ap (phase_at plan (log ++ row ∷ [])) s) ∙ here in cc (e, f)))
      | inr s ↦ absurd (let z = phase_beyond plan (log ++ row ∷ []) n (let y = length-append log (row ∷ []) in omega (arith, s, y)) in cc (e, z))
    ]
  ]

  took_before : (n : ℕ) → n ≤ length log → take n (log ++ row ∷ []) ≡ take n log
  took_before n l = take-append-le n log (row ∷ []) l

  took_all : (n : ℕ) → n ≡ length log → take n (log ++ row ∷ []) ≡ log
  took_all n e = ap (λ (x : ℕ). take x (log ++ row ∷ [])) e ∙ take-append_seam log (row ∷ [])

  at_it : (u : ℕ) → u ≡ p → at_one p (done p + 1) done u ≡ done p + 1
  at_it u e = ap (at_one p (done p + 1) done) e ∙ at_one_here p (done p + 1) done

  finished_after : (n k i u : ℕ) (d : Command) → phase_at plan (log ++ row ∷ []) n ≡ Some k → slice_get (commands_of u plan.commands) i ≡ Some d → d.phase < k → i < length (command_rows u (take n (log ++ row ∷ [])))
  finished_after n k i u d e f l = elim (parts n k e) [
    | inl h ↦ (let x = h.0 in subst (λ (y : List Event). i < length (command_rows u y)) (sym (took_before n (omega (arith, x)))) (a.phases.finished n k i u d h.1 f l))
    | inr h ↦ (let x = h.0 in let z = h.1 in subst (λ (y : List Event). i < length (command_rows u y)) (sym (took_all n x)) (let y = finished i u d f (omega (arith, l, z)) in let s = a.counts u in omega (arith, y, s)))
  ]

  pub along_command : ComesAlong plan (log ++ row ∷ []) (at_one p (done p + 1) done) phase
  along_command = record {
    counts = λ u. elim (cases_eq u p) [
      | inl e ↦ ap (λ (x : ℕ). length (command_rows x (log ++ row ∷ []))) e ∙ (ap length (rows_own p log row by kind) ∙ (length-append (command_rows p log) (row ∷ []) ∙ (ap (λ (x : ℕ). x + 1) (a.counts p) ∙ sym (at_it u e))))
      | inr n ↦ ap length (rows_other p u log row by n) ∙ (a.counts u ∙ sym (at_one_other p u (done p + 1) done n))
    ];
    commands = λ u. elim (cases_eq u p) [
      | inl e ↦ subst (λ (x : ℕ). AnswerFirstCommands (commands_of x plan.commands) (command_rows x (log ++ row ∷ []))) (sym e)
          (subst (AnswerFirstCommands (commands_of p plan.commands)) (sym (rows_own p log row by kind))
          (answer_more (commands_of p plan.commands) (command_rows p log) c row (a.commands p) (ap (slice_get (commands_of p plan.commands)) (a.counts p) ∙ next) answers))
      | inr n ↦ subst (AnswerFirstCommands (commands_of u plan.commands)) (sym (rows_other p u log row by n)) (a.commands u)
    ];
    phases = record {
      finished = finished_after;
      quiet = λ n k e f. elim (parts n k e) [
        | inl h ↦ (let x = h.0 in subst (λ (y : List Event). IsQuietPast (past y)) (sym (took_before n (omega (arith, x))))
            (a.phases.quiet n k h.1 (λ m l g. f m l (phase_before plan log (row ∷ []) m (omega (arith, l, x)) ∙ g))))
        | inr h ↦ (let x = h.0 in let z = h.1 in subst (λ (y : List Event). IsQuietPast (past y)) (sym (took_all n x)) (quiet (λ m g. elim (cases_lt m (length log)) [
          | inl l ↦ f m (omega (arith, l, x)) (phase_before plan log (row ∷ []) m l ∙ (g ∙ ap Some (sym z)))
          | inr l ↦ (let y = phase_beyond plan log m l in cc (g, y))
        ])))
      ];
    };
    below = λ n k e. elim (parts n k e) [
      | inl h ↦ a.below n k h.1
      | inr h ↦ (let x = h.1 in omega (arith, x))
    ];
  }
