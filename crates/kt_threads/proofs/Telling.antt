-- What a step tells is what its move adds to the log.
use Rattle.std.proofs.Common.{◌≡◌, ◌∙◌, ◌==◌, arith, ℕ, Bool, true, false, List, [], ◌∷◌, ◌++◌, append_assoc, filter, map, refl, sym, ap, subst}
use Rattle.std.specs.List.{AllZip}
use Rattle.std.specs.Prelude.{if◌then◌else◌}
use Rattle.std.proofs.lemmas.Bool.Decides.{nat_tests}
use Rattle.kt_core.specs.Shown.{Mirrors}
use Rattle.kt_core.specs.Worlds.{World}
use Rattle.kt_promises.specs.Steps.{process_of_step, progress_after}
use Rattle.kt_plan.specs.Limits.{Planned}
use Rattle.kt_plan.specs.declared.steps.Told.{Told}
use Rattle.kt_promises.specs.Told.{StepTold, told_at, told_by, told_by_move}
use Rattle.kt_promises.specs.Progress.{Progress}
use Rattle.kt_run.specs.Runs.{IsToldStep}
use Rattle.kt_run.specs.Telling.{rows_of, numbered_rows_told, numbered_rows_by, TellsItsRows, IsToldAs, told_here}
use Rattle.kt_spacetime.specs.declared.event.Event.{Event}
use Rattle.kt_threads.specs.Histories.{IsMade, told_to}
use Rattle.kt_threads.specs.Moves.{move_of}
use Rattle.kt_threads.specs.WorldLaws.{WorldLaws}
use Rattle.kt_threads.specs.declared.state.Made.{Made}

abbrev Row : Type 0
Row = ℕ × Event

pub kept : {X : Type 0} (test : X → Bool) (x : X) (xs : List X) → test x ≡ true → filter test (x ∷ xs) ≡ x ∷ filter test xs
kept test x xs e = rw e refl

pub left : {X : Type 0} (test : X → Bool) (x : X) (xs : List X) → test x ≡ false → filter test (x ∷ xs) ≡ filter test xs
left test x xs e = rw e refl

rows_told_append : (xs ys : List Told) → numbered_rows_told (xs ++ ys) ≡ numbered_rows_told xs ++ numbered_rows_told ys
rows_told_append [] ys = refl
rows_told_append (x ∷ xs) ys = ap (λ (l : List Row). rows_of x ++ l) (rows_told_append xs ys) ∙ sym (append_assoc (rows_of x) (numbered_rows_told xs) (numbered_rows_told ys))

pub equal_of : (a b : ℕ) → (a == b) ≡ true → a ≡ b
equal_of a b e = grind (arith, nat_tests, e)

if_true : {X : Type 0} (b : Bool) (x y : X) → b ≡ true → (if b then x else y) ≡ x
if_true true x y e = refl
if_true false x y e = absurd (cc (e))

if_false : {X : Type 0} (b : Bool) (x y : X) → b ≡ false → (if b then x else y) ≡ y
if_false true x y e = absurd (cc (e))
if_false false x y e = refl

turned : (a b c : ℕ) (t : Bool) → a ≡ b → (b == c) ≡ t → (c == a) ≡ t
turned a b c true e f = let k : (c == a) ≡ true = grind (arith, nat_tests, e, f) in k
turned a b c false e f = let k : (c == a) ≡ false = grind (arith, nat_tests, e, f) in k

-- one step, from a world that a run led to
module _ (laws : WorldLaws) (plan : Planned) (made : Made) (before after : World) (first : ℕ) (v : Progress) (plans : before.agenda.plan ≡ plan)
    (r : Mirrors before.agenda before.system first v) (step : IsMade before made after) where
  abbrev w : Progress
  w = progress_after plan v made.told.step made.give

  tells : IsToldStep before made.told made.give after
  tells = record { grows = step.keeps.grows; makes = step.makes; four = step.four; rows = step.rows }

  its_rows : TellsItsRows made.told v.now.log w.now.log
  its_rows = subst (λ (z : Planned). TellsItsRows made.told v.now.log (progress_after z v made.told.step made.give).now.log) plans
      (laws.rows before after made.told made.give first v tells r)

  told_first : (p : ℕ) (steps : List Made) → (process_of_step made.told.step == p) ≡ true → told_to p (made ∷ steps) ≡ made.told ∷ told_to p steps
  told_first p steps e = ap (λ (l : List Made). map (λ (m : Made). m.told) l) (kept (λ (m : Made). process_of_step m.told.step == p) made steps e)

  told_past : (p : ℕ) (steps : List Made) → (process_of_step made.told.step == p) ≡ false → told_to p (made ∷ steps) ≡ told_to p steps
  told_past p steps e = ap (λ (l : List Made). map (λ (m : Made). m.told) l) (left (λ (m : Made). process_of_step m.told.step == p) made steps e)

  told_next : (p : ℕ) (steps : List Made) (b : Bool) → (process_of_step made.told.step == p) ≡ b → told_here p made.told ++ told_to p steps ≡ told_to p (made ∷ steps)
  told_next p steps true e =
      ap (λ (l : List Told). l ++ told_to p steps) (if_true _ (made.told ∷ []) [] (turned (process_of_step made.told.step) (process_of_step made.told.step) p true refl e))
      ∙ sym (told_first p steps e)
  told_next p steps false e =
      ap (λ (l : List Told). l ++ told_to p steps) (if_false _ (made.told ∷ []) [] (turned (process_of_step made.told.step) (process_of_step made.told.step) p false refl e))
      ∙ sym (told_past p steps e)

  pub rows_more : (p : ℕ) (steps : List Made) → numbered_rows_by p w.now.log ++ numbered_rows_told (told_to p steps) ≡ numbered_rows_by p v.now.log ++ numbered_rows_told (told_to p (made ∷ steps))
  rows_more p steps =
      ap (λ (l : List Row). l ++ numbered_rows_told (told_to p steps)) (laws.numbered made.told v.now.log w.now.log p its_rows)
      ∙ (append_assoc (numbered_rows_by p v.now.log) (numbered_rows_told (told_here p made.told)) (numbered_rows_told (told_to p steps))
      ∙ ap (λ (l : List Row). numbered_rows_by p v.now.log ++ l)
      (sym (rows_told_append (told_here p made.told) (told_to p steps)) ∙ ap numbered_rows_told (told_next p steps (process_of_step made.told.step == p) refl)))

  told_as : IsToldAs made.told (told_at plan v (move_of made))
  told_as = subst (λ (z : Planned). IsToldAs made.told (told_at z v (move_of made))) plans
      (laws.told before after made.told made.give first v tells r)

  by_test : (p : ℕ) (b : Bool) → (process_of_step made.told.step == p) ≡ b → (p == process_of_step made.told.step) ≡ b
  by_test p b e = turned (process_of_step made.told.step) (process_of_step made.told.step) p b refl e

  pub told_more : (p : ℕ) (steps : List Made) → AllZip IsToldAs (told_to p steps) (told_by plan w p (map move_of steps))
      → AllZip IsToldAs (told_to p (made ∷ steps)) (told_by plan v p (map move_of (made ∷ steps)))
  told_more p steps h = go (process_of_step made.told.step == p) refl
    where
      rest : List StepTold
      rest = told_by plan w p (map move_of steps)

      here : List StepTold
      here = told_at plan v (move_of made) ∷ []

      go : (b : Bool) → (process_of_step made.told.step == p) ≡ b → AllZip IsToldAs (told_to p (made ∷ steps)) (told_by_move plan v p (move_of made) ++ rest)
      go true e =
          subst (λ (l : List Told). AllZip IsToldAs l (told_by_move plan v p (move_of made) ++ rest)) (sym (told_first p steps e))
          (subst (λ (l : List StepTold). AllZip IsToldAs (made.told ∷ told_to p steps) (l ++ rest)) (sym (if_true _ here [] (by_test p true e))) (told_as, h))
      go false e =
          subst (λ (l : List Told). AllZip IsToldAs l (told_by_move plan v p (move_of made) ++ rest)) (sym (told_past p steps e))
          (subst (λ (l : List StepTold). AllZip IsToldAs (told_to p steps) (l ++ rest)) (sym (if_false _ here [] (by_test p false e))) h)
