-- Command rows, and the phases of rows, of a log to which rows are added.
use Rattle.std.proofs.Common.{◌≡◌, ◌≢◌, ℕ, zero, suc, ◌-◌, ◌+◌, ◌<◌, ◌≤◌, Bool, true, false, List, [], ◌∷◌, ◌++◌, length, take, drop, append-nil, refl, arith, sym, ap, ap₂, ◌∙◌, Some, None, inl, inr}
use Rattle.std.specs.Prelude.{◌==◌, ◌&&◌, ◌||◌, if◌then◌else◌, Option, option_map, option_and_then, slice_get}
use Rattle.std.proofs.lemmas.List.{take-append-le, take-take, take-append-drop, length-append}
use Rattle.std.proofs.lemmas.List.Elements.{filter-append}
use Rattle.std.proofs.lemmas.Option.{slice_get_past}
use Rattle.std.proofs.lemmas.Bool.{cases_lt}
use Rattle.std.proofs.Math.Seq.{take-append_seam}
use Rattle.kt_spacetime.specs.declared.event.Event.{Event}
use Rattle.kt_spacetime.specs.Events.{process_of}
use Rattle.kt_meaning.proofs.Items.{get_left, get_seam, get_right}
use Rattle.kt_meaning.proofs.RowRules.{neither}
use Rattle.kt_protocol.proofs.Updates.{is_same, is_other}
use Rattle.kt_plan.specs.Limits.{Planned}
use Rattle.kt_plan.specs.declared.commands.Command.{Command}
use Rattle.kt_meaning.specs.Follows.{commands_of, is_command_row, command_rows, AnswersJob, AnswerAllCommands, AnswerFirstCommands, command_answered, phase_at, KeepsPhases}

rows_of_more : (p : ℕ) (xs ys : List Event) → command_rows p (xs ++ ys) ≡ command_rows p xs ++ command_rows p ys
rows_of_more p xs ys = filter-append (λ (row : Event). process_of row == p && is_command_row row) xs ys

-- some row is a command row
abbrev pub has_command_row : List Event → Bool
has_command_row [] = false
has_command_row (row ∷ rows) = is_command_row row || has_command_row rows

left_out : (b c : Bool) (row : Event) (l m : List Event) → c ≡ false → l ≡ m → (if b && c then row ∷ l else l) ≡ m
left_out true c row l m e f = rw e f
left_out false c row l m e f = f

none_among : (p : ℕ) (l : List Event) → has_command_row l ≡ false → command_rows p l ≡ []
none_among p [] e = refl
none_among p (row ∷ l) e = let n = neither (is_command_row row) (has_command_row l) e in left_out (process_of row == p) (is_command_row row) row (command_rows p l) [] n.0 (none_among p l n.1)

pub none_there : (l : List Event) (i : ℕ) (row : Event) → has_command_row l ≡ false → slice_get l i ≡ Some row → is_command_row row ≡ false
none_there [] i row n e = absurd (cc (e))
none_there (x ∷ l) zero row n e = let s : x ≡ row = cc (e) in ap is_command_row (sym s) ∙ (neither (is_command_row x) (has_command_row l) n).0
none_there (x ∷ l) (suc i) row n e = none_there l i row (neither (is_command_row x) (has_command_row l) n).1 e

-- the command rows stay the same where none is added
pub rows_same : (p : ℕ) (xs ys : List Event) → has_command_row ys ≡ false → command_rows p (xs ++ ys) ≡ command_rows p xs
rows_same p xs ys e = rows_of_more p xs ys ∙ (ap (λ (l : List Event). command_rows p xs ++ l) (none_among p ys e) ∙ append-nil (command_rows p xs))

-- one that is added is its process's
pub rows_own : (p : ℕ) (xs : List Event) (row : Event) → process_of row ≡ p → is_command_row row ≡ true → command_rows p (xs ++ row ∷ []) ≡ command_rows p xs ++ row ∷ []
rows_own p xs row b e = rows_of_more p xs (row ∷ []) ∙ ap (λ (t : Bool). command_rows p xs ++ (if t then row ∷ [] else [])) (ap₂ (λ (u : ℕ) (c : Bool). u == p && c) b e ∙ ap (λ (t : Bool). t && true) (is_same p))

pub rows_other : (p u : ℕ) (xs : List Event) (row : Event) → process_of row ≡ p → u ≢ p → command_rows u (xs ++ row ∷ []) ≡ command_rows u xs
rows_other p u xs row b n = rows_of_more u xs (row ∷ []) ∙ (ap (λ (t : Bool). command_rows u xs ++ (if t then row ∷ [] else [])) (ap (λ (t : Bool). t && is_command_row row) (ap (λ (v : ℕ). v == u) b ∙ is_other p u (λ e. n (sym e)))) ∙ append-nil (command_rows u xs))

-- phases of rows
phase_of : Planned → List Event → Option Event → Option ℕ
phase_of plan before o = option_map (λ (c : Command). c.phase) (option_and_then (command_answered plan before) o)

pub phase_before : (plan : Planned) (xs ys : List Event) (n : ℕ) → n < length xs → phase_at plan (xs ++ ys) n ≡ phase_at plan xs n
unfolding phase_of
phase_before plan xs ys n l = ap₂ (phase_of plan) (take-append-le n xs ys (omega (arith, l))) (get_left xs ys n l)

pub phase_beyond : (plan : Planned) (xs : List Event) (n : ℕ) → length xs ≤ n → phase_at plan xs n ≡ None
unfolding phase_of
phase_beyond plan xs n l = ap (phase_of plan (take n xs)) (slice_get_past xs n l)

pub phase_stays : (plan : Planned) (xs ys : List Event) (n k : ℕ) → phase_at plan xs n ≡ Some k → phase_at plan (xs ++ ys) n ≡ Some k
phase_stays plan xs ys n k e = elim (cases_lt n (length xs)) [
  | inl l ↦ phase_before plan xs ys n l ∙ e
  | inr l ↦ (let z = phase_beyond plan xs n l in absurd (cc (e, z)))
]

pub phase_seam : (plan : Planned) (xs : List Event) (row : Event) → phase_at plan (xs ++ row ∷ []) (length xs) ≡ option_map (λ (c : Command). c.phase) (command_answered plan xs row)
unfolding phase_of
phase_seam plan xs row = ap₂ (phase_of plan) (take-append_seam xs (row ∷ [])) (get_seam xs row [])

-- a row that is no command row has none
pub phase_of_old : (plan : Planned) (xs ys : List Event) (n k : ℕ) → has_command_row ys ≡ false → phase_at plan (xs ++ ys) n ≡ Some k → n < length xs
unfolding phase_of
phase_of_old plan xs ys n k e f = elim (cases_lt n (length xs)) [
  | inl l ↦ l
  | inr l ↦ absurd (go (slice_get ys (n - length xs)) refl (sym (ap (phase_of plan (take n (xs ++ ys))) (get_right xs ys (n - length xs) n (omega (arith, l)))) ∙ f))
]
  where
    go : (o : Option Event) → slice_get ys (n - length xs) ≡ o → phase_of plan (take n (xs ++ ys)) o ≡ Some k → ⊥
    go None g h = cc (h)
    go (Some row) g h = let z = none_there ys (n - length xs) row e g in let y : None ≡ Some k = rw z at h in cc (y)

-- a row that has a phase answers a command
pub record HasPhase (plan : Planned) (log : List Event) (n k : ℕ) : Type 0 where
  pub by : ℕ
  pub command : Command
  pub next : slice_get (commands_of by plan.commands) (length (command_rows by (take n log))) ≡ Some command
  pub phase : command.phase ≡ k

pub has_phase : (plan : Planned) (log : List Event) (n k : ℕ) → phase_at plan log n ≡ Some k → HasPhase plan log n k
has_phase plan log n k e = by_row (slice_get log n) e
  where
    by_command : (p : ℕ) (o : Option Command) → slice_get (commands_of p plan.commands) (length (command_rows p (take n log))) ≡ o → option_map (λ (c : Command). c.phase) o ≡ Some k → HasPhase plan log n k
    by_command p None f h = absurd (cc (h))
    by_command p (Some c) f h = record { by = p; command = c; next = f; phase = cc (h) }

    by_test : (b : Bool) (p : ℕ) → option_map (λ (c : Command). c.phase) (if b then slice_get (commands_of p plan.commands) (length (command_rows p (take n log))) else None) ≡ Some k → HasPhase plan log n k
    by_test true p h = by_command p (slice_get (commands_of p plan.commands) (length (command_rows p (take n log)))) refl h
    by_test false p h = absurd (cc (h))

    by_row : (o : Option Event) → option_map (λ (c : Command). c.phase) (option_and_then (command_answered plan (take n log)) o) ≡ Some k → HasPhase plan log n k
    by_row None h = absurd (cc (h))
    by_row (Some row) h = by_test (is_command_row row) (process_of row) h

-- rows only get more
pub rows_rise : (p m n : ℕ) (log : List Event) → m ≤ n → length (command_rows p (take m log)) ≤ length (command_rows p (take n log))
rows_rise p m n log l =
    let s : take n log ≡ take m log ++ drop m (take n log) = sym (ap (λ (x : List Event). x ++ drop m (take n log)) (sym (take-take m n log l)) ∙ take-append-drop m (take n log)) in
    let e : length (command_rows p (take n log)) ≡ length (command_rows p (take m log)) + length (command_rows p (drop m (take n log))) = ap (λ (x : List Event). length (command_rows p x)) s ∙ (ap length (rows_of_more p (take m log) (drop m (take n log))) ∙ length-append (command_rows p (take m log)) (command_rows p (drop m (take n log)))) in
    omega (arith, e)

-- so phases never fall
pub phases_rise : (plan : Planned) (log : List Event) (m n j k : ℕ) → KeepsPhases plan log → m ≤ n → phase_at plan log m ≡ Some j → phase_at plan log n ≡ Some k → j ≤ k
phases_rise plan log m n j k a l e f = elim (cases_lt k j) [
  | inl h ↦ absurd (
      let c = has_phase plan log n k f in
      let s = c.phase in
      let x = a.finished m j (length (command_rows c.by (take n log))) c.by c.command e c.next (omega (arith, h, s)) in
      let y = rows_rise c.by m n log l in
      omega (arith, x, y))
  | inr h ↦ h
]

-- one more answer
pub answer_more : (cs : List Command) (rows : List Event) (c : Command) (row : Event) → AnswerFirstCommands cs rows → slice_get cs (length rows) ≡ Some c → AnswersJob c.job row → AnswerFirstCommands cs (rows ++ row ∷ [])
answer_more [] [] c row a e j = absurd (cc (e))
answer_more [] (x ∷ rows) c row a e j = absurd a
answer_more (d ∷ cs) [] c row a e j = let s : c ≡ d = cc (e) in (rw s at j, tt)
answer_more (d ∷ cs) (x ∷ rows) c row a e j = (a.0, answer_more cs rows c row a.1 e j)

-- as many rows as commands answer all
pub answer_all : (cs : List Command) (rows : List Event) → AnswerFirstCommands cs rows → length cs ≤ length rows → AnswerAllCommands cs rows
answer_all [] [] a e = tt
answer_all [] (x ∷ rows) a e = absurd a
answer_all (c ∷ cs) [] a e = absurd (omega (arith, e))
answer_all (c ∷ cs) (x ∷ rows) a e = (a.0, answer_all cs rows a.1 (omega (arith, e)))

pub answer_first : (cs : List Command) (rows : List Event) → AnswerAllCommands cs rows → AnswerFirstCommands cs rows
answer_first [] [] a = tt
answer_first [] (x ∷ rows) a = absurd a
answer_first (c ∷ cs) [] a = absurd a
answer_first (c ∷ cs) (x ∷ rows) a = (a.0, answer_first cs rows a.1)
