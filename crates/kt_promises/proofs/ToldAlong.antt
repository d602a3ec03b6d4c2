-- What the steps of a run tell each process is what its log has of it.
use Rattle.std.proofs.Common.{◌≡◌, ◌≢◌, ℕ, zero, suc, Bool, true, false, List, [], ◌∷◌, ◌++◌, append_assoc, append-nil, refl, arith, sym, ap, ◌∙◌, Some, None}
use Rattle.std.specs.Prelude.{◌==◌, if◌then◌else◌, Option, unwrap_or, slice_get}
use Rattle.std.proofs.lemmas.Bool.Decides.{nat_tests}
use Rattle.kt_spacetime.specs.declared.event.Event.{Event}
use Rattle.kt_spacetime.specs.Events.{process_of}
use Rattle.kt_protocol.proofs.Updates.{is_same, is_other}
use Rattle.kt_protocol.proofs.Choices.{at_if}
use Rattle.kt_machine.specs.Done.{done_start}
use Rattle.kt_machine.specs.Values.{Act, acts_along}
use Rattle.kt_plan.specs.Limits.{Planned, IsPlan}
use Rattle.kt_promises.specs.Runs.{Move, after_moves, RunReaches}
use Rattle.kt_promises.specs.Steps.{process_of_step, enabled, progress_after}
use Rattle.kt_promises.specs.Progress.{Progress, progress_at_start}
use Rattle.kt_promises.specs.StepActs.{rows_added, acts_of_step}
use Rattle.kt_promises.specs.Told.{StepTold, told_at, told_by_move, told_by, acts_told, rows_told, rows_by}
use Rattle.kt_promises.proofs.PhasesOpen.{opening_is}
use Rattle.kt_promises.proofs.RunSteps.{start_reached_seen, next_reached_seen}
use Rattle.kt_promises.proofs.ActsOfSteps.{log_grows, acts_more, others_idle, rows_of_one}

acts_in_more : (xs ys : List StepTold) → acts_told (xs ++ ys) ≡ acts_told xs ++ acts_told ys
acts_in_more [] ys = refl
acts_in_more (x ∷ xs) ys = ap (λ (l : List Act). x.acts ++ l) (acts_in_more xs ys) ∙ sym (append_assoc x.acts (acts_told xs) (acts_told ys))

rows_in_more : (xs ys : List StepTold) → rows_told (xs ++ ys) ≡ rows_told xs ++ rows_told ys
rows_in_more [] ys = refl
rows_in_more (x ∷ xs) ys = ap (λ (l : List Event). x.rows ++ l) (rows_in_more xs ys) ∙ sym (append_assoc x.rows (rows_told xs) (rows_told ys))

rows_of_more : (p : ℕ) (xs ys : List Event) → rows_by p (xs ++ ys) ≡ rows_by p xs ++ rows_by p ys
rows_of_more p [] ys = refl
rows_of_more p (x ∷ xs) ys = at_both (p == process_of x) (rows_of_more p xs ys)
  where
    at_both : (b : Bool) → rows_by p (xs ++ ys) ≡ rows_by p xs ++ rows_by p ys → (if b then x ∷ rows_by p (xs ++ ys) else rows_by p (xs ++ ys)) ≡ (if b then x ∷ rows_by p xs else rows_by p xs) ++ rows_by p ys
    at_both true e = ap (λ (l : List Event). x ∷ l) e
    at_both false e = e

-- rows of one process
all_of : (p : ℕ) (l : List Event) → ((i : ℕ) (row : Event) → slice_get l i ≡ Some row → process_of row ≡ p) → rows_by p l ≡ l
all_of p [] own = refl
all_of p (x ∷ l) own = ap (λ (b : Bool). if b then x ∷ rows_by p l else rows_by p l) (ap (λ (u : ℕ). p == u) (own zero x refl) ∙ is_same p) ∙ ap (λ (t : List Event). x ∷ t) (all_of p l (λ i row e. own (suc i) row e))

none_of : (p u : ℕ) (l : List Event) → p ≢ u → ((i : ℕ) (row : Event) → slice_get l i ≡ Some row → process_of row ≡ u) → rows_by p l ≡ []
none_of p u [] d own = refl
none_of p u (x ∷ l) d own = ap (λ (b : Bool). if b then x ∷ rows_by p l else rows_by p l) (ap (λ (v : ℕ). p == v) (own zero x refl) ∙ is_other p u d) ∙ none_of p u l d (λ i row e. own (suc i) row e)

one_at : (x : StepTold) → acts_told (x ∷ []) ≡ x.acts
one_at x = append-nil x.acts

one_rows : (x : StepTold) → rows_told (x ∷ []) ≡ x.rows
one_rows x = append-nil x.rows

same_of : (a b : ℕ) → (a == b) ≡ true → a ≡ b
same_of a b e = grind (arith, nat_tests, e)

other_of : (a b : ℕ) → (a == b) ≡ false → a ≢ b
other_of a b e f = grind (arith, nat_tests, e, f)

module _ (plan : Planned) (first : ℕ) (i : IsPlan plan) (p : ℕ) where
  one_acts : (w : Progress) (x : Move) → RunReaches plan first w → enabled plan w x.step ≡ true → acts_told (told_by_move plan w p x) ≡ acts_of_step plan w x.step x.give p
  one_acts w x r e = go (p == process_of_step x.step) refl
    where
      go : (b : Bool) → (p == process_of_step x.step) ≡ b → acts_told (if b then told_at plan w x ∷ [] else []) ≡ acts_of_step plan w x.step x.give p
      go true f = one_at (told_at plan w x) ∙ ap (acts_of_step plan w x.step x.give) (sym (same_of p (process_of_step x.step) f))
      go false f = sym (others_idle plan first w x.step x.give p i r e (other_of p (process_of_step x.step) f))

  one_rows_of : (w : Progress) (x : Move) → RunReaches plan first w → enabled plan w x.step ≡ true → rows_told (told_by_move plan w p x) ≡ rows_by p (rows_added plan w x.step x.give)
  one_rows_of w x r e = go (p == process_of_step x.step) refl
    where
      own : (j : ℕ) (row : Event) → slice_get (rows_added plan w x.step x.give) j ≡ Some row → process_of row ≡ process_of_step x.step
      own j row h = rows_of_one plan first w x.step x.give j row i r e h

      go : (b : Bool) → (p == process_of_step x.step) ≡ b → rows_told (if b then told_at plan w x ∷ [] else []) ≡ rows_by p (rows_added plan w x.step x.give)
      go true f = let s = same_of p (process_of_step x.step) f in one_rows (told_at plan w x) ∙ sym (all_of p (rows_added plan w x.step x.give) (λ j row h. own j row h ∙ sym s))
      go false f = sym (none_of p (process_of_step x.step) (rows_added plan w x.step x.give) (other_of p (process_of_step x.step) f) own)

  acts_from : (moves : List Move) (u w : Progress) → RunReaches plan first u → after_moves plan u moves ≡ Some w → acts_along p done_start w.now.log ≡ acts_along p done_start u.now.log ++ acts_told (told_by plan u p moves)
  acts_from [] u w r e = let s : u ≡ w = ap (λ (o : Option Progress). unwrap_or o u) e in ap (λ (v : Progress). acts_along p done_start v.now.log) (sym s) ∙ sym (append-nil (acts_along p done_start u.now.log))
  acts_from (x ∷ xs) u w r e = at_if (λ (o : Option Progress). o ≡ Some w → acts_along p done_start w.now.log ≡ acts_along p done_start u.now.log ++ acts_told (told_by plan u p (x ∷ xs))) (enabled plan u x.step) (after_moves plan (progress_after plan u x.step x.give) xs) None
      (λ b z. acts_from xs (progress_after plan u x.step x.give) w (next_reached_seen plan first u x.step x.give i r b) z
      ∙ (ap (λ (l : List Act). l ++ acts_told (told_by plan (progress_after plan u x.step x.give) p xs)) (acts_more plan first u x.step x.give p i r b)
      ∙ (append_assoc (acts_along p done_start u.now.log) (acts_of_step plan u x.step x.give p) (acts_told (told_by plan (progress_after plan u x.step x.give) p xs))
      ∙ ap (λ (l : List Act). acts_along p done_start u.now.log ++ l) (ap (λ (l : List Act). l ++ acts_told (told_by plan (progress_after plan u x.step x.give) p xs)) (sym (one_acts u x r b)) ∙ sym (acts_in_more (told_by_move plan u p x) (told_by plan (progress_after plan u x.step x.give) p xs))))))
      (λ b z. absurd (cc (z))) e

  rows_from : (moves : List Move) (u w : Progress) → RunReaches plan first u → after_moves plan u moves ≡ Some w → rows_by p w.now.log ≡ rows_by p u.now.log ++ rows_told (told_by plan u p moves)
  rows_from [] u w r e = let s : u ≡ w = ap (λ (o : Option Progress). unwrap_or o u) e in ap (λ (v : Progress). rows_by p v.now.log) (sym s) ∙ sym (append-nil (rows_by p u.now.log))
  rows_from (x ∷ xs) u w r e = at_if (λ (o : Option Progress). o ≡ Some w → rows_by p w.now.log ≡ rows_by p u.now.log ++ rows_told (told_by plan u p (x ∷ xs))) (enabled plan u x.step) (after_moves plan (progress_after plan u x.step x.give) xs) None
      (λ b z. rows_from xs (progress_after plan u x.step x.give) w (next_reached_seen plan first u x.step x.give i r b) z
      ∙ (ap (λ (l : List Event). l ++ rows_told (told_by plan (progress_after plan u x.step x.give) p xs)) (ap (rows_by p) (log_grows plan first u x.step x.give i r b) ∙ rows_of_more p u.now.log (rows_added plan u x.step x.give))
      ∙ (append_assoc (rows_by p u.now.log) (rows_by p (rows_added plan u x.step x.give)) (rows_told (told_by plan (progress_after plan u x.step x.give) p xs))
      ∙ ap (λ (l : List Event). rows_by p u.now.log ++ l) (ap (λ (l : List Event). l ++ rows_told (told_by plan (progress_after plan u x.step x.give) p xs)) (sym (one_rows_of u x r b)) ∙ sym (rows_in_more (told_by_move plan u p x) (told_by plan (progress_after plan u x.step x.give) p xs))))))
      (λ b z. absurd (cc (z))) e

  pub all_acts_told : (moves : List Move) (w : Progress) → after_moves plan (progress_at_start plan first) moves ≡ Some w → acts_told (told_by plan (progress_at_start plan first) p moves) ≡ acts_along p done_start w.now.log
  all_acts_told moves w e = sym (acts_from moves (progress_at_start plan first) w (start_reached_seen plan first) e ∙ ap (λ (l : List Event). acts_along p done_start l ++ acts_told (told_by plan (progress_at_start plan first) p moves)) (ap (λ (v : _). v.log) (opening_is plan first).now))

  pub all_rows_told : (moves : List Move) (w : Progress) → after_moves plan (progress_at_start plan first) moves ≡ Some w → rows_told (told_by plan (progress_at_start plan first) p moves) ≡ rows_by p w.now.log
  all_rows_told moves w e = sym (rows_from moves (progress_at_start plan first) w (start_reached_seen plan first) e ∙ ap (λ (l : List Event). rows_by p l ++ rows_told (told_by plan (progress_at_start plan first) p moves)) (ap (λ (v : _). v.log) (opening_is plan first).now))

-- one step more
pub told_more : (plan : Planned) (p : ℕ) (xs : List Move) (u v : Progress) (x : Move) → after_moves plan u xs ≡ Some v → told_by plan u p (xs ++ x ∷ []) ≡ told_by plan u p xs ++ told_by_move plan v p x
told_more plan p [] u v x e = let s : u ≡ v = ap (λ (o : Option Progress). unwrap_or o u) e in append-nil (told_by_move plan u p x) ∙ ap (λ (w : Progress). told_by_move plan w p x) s
told_more plan p (y ∷ ys) u v x e = at_if (λ (o : Option Progress). o ≡ Some v → told_by plan u p (y ∷ ys ++ x ∷ []) ≡ told_by plan u p (y ∷ ys) ++ told_by_move plan v p x) (enabled plan u y.step) (after_moves plan (progress_after plan u y.step y.give) ys) None
    (λ b z. ap (λ (l : List StepTold). told_by_move plan u p y ++ l) (told_more plan p ys (progress_after plan u y.step y.give) v x z) ∙ sym (append_assoc (told_by_move plan u p y) (told_by plan (progress_after plan u y.step y.give) p ys) (told_by_move plan v p x)))
    (λ b z. absurd (cc (z))) e
