-- While a process is in a checkpoint, its tentative state has the value that its object had where it took it.
use Rattle.std.proofs.Common.{◌≡◌, ℕ, ◌+◌, Bool, true, false, List, [], ◌∷◌, ◌++◌, append_assoc, append-nil, refl, sym, ap, subst, ◌∙◌, Some, None, take, drop}
use Rattle.std.specs.Prelude.{Option, is_some, ◌==◌, ◌&&◌, if◌then◌else◌, slice_get, length}
use Rattle.std.proofs.lemmas.List.{take-append-drop}
use Rattle.kt_spacetime.specs.declared.event.Event.{Event}
use Rattle.kt_spacetime.specs.declared.event.Event.TheVariants.{Sent, Received, Dropped, Began, Took, Ready, Unwilling, Decided, Closed, Failed, Refused}
use Rattle.kt_spacetime.specs.Events.{process_of}
use Rattle.kt_meaning.specs.Past.{Past, past, after, is_rollback, is_committed}
use Rattle.kt_meaning.specs.Legal.{IsLegal, broken_rule}
use Rattle.kt_meaning.proofs.Items.{take_item}
use Rattle.kt_meaning.proofs.LegalLogs.{past_push, legal_front, legal_last}
use Rattle.kt_meaning.proofs.RowRules.{may_take, may_get_ready}
use Rattle.kt_protocol.proofs.Choices.{at_if, same}
use Rattle.kt_protocol.proofs.LawfulSteps.{lawful_after_run}
use Rattle.kt_protocol.proofs.Updates.{is_same}
use Rattle.kt_machine.specs.Done.{done}
use Rattle.kt_machine.specs.Values.{Rules, Due, Act, Keep, due, does_all, acts_of, closing}
use Rattle.kt_machine.proofs.ActsAlong.{along}
use Rattle.kt_plan.specs.Limits.{Planned, IsPlan}
use Rattle.kt_promises.specs.Progress.{Progress}
use Rattle.kt_promises.specs.Runs.{RunReaches}
use Rattle.kt_promises.proofs.ReachedRuns.{log_of}

-- p took its checkpoint of k, and as long as it is in k its tentative state has this value
abbrev Keeps : {V : Type 0} → Rules V → ℕ → ℕ → Option V → List Event → Type 0
Keeps r p k x log = (is_some ((past log).new k p) ≡ true) × ((past log).open_in p ≡ Some k → (due r (done log) p).tentative ≡ x)

-- acts that leave the tentative state, if there are any
acts_leave : {V : Type 0} (r : Rules V) (d : Due V) (b : Bool) (l : List Act) → (does_all r d (l ++ [])).tentative ≡ d.tentative → (does_all r d ((if b then l else []) ++ [])).tentative ≡ d.tentative
acts_leave r d true l e = e
acts_leave r d false l e = refl

-- whoever takes or gets ready for k has not taken it before
no_new : (s : Past) (j k p u : ℕ) → is_some (s.new k p) ≡ true → s.new j u ≡ None → p ≡ u → Some j ≡ Some k → ⊥
no_new s j k p u m n e f = let g : j ≡ k = cc (f) in let h : s.new k p ≡ None = ap (λ (x : ℕ). s.new x p) (sym g) ∙ (ap (s.new j) e ∙ n) in let t : is_some (s.new k p) ≡ false = ap is_some h in cc (m, t)

new_more : (s : Past) (row : Event) (k p : ℕ) → is_some (s.new k p) ≡ true → is_some ((after s row).new k p) ≡ true
new_more s (Took u j) k p m = at_if (λ (o : Option ℕ). is_some o ≡ true) ((k == j) && (p == u)) (Some (length (s.live u))) (s.new k p) (λ _. refl) (λ _. m)
new_more s _ k p m = m

module _ {V : Type 0} (r : Rules V) (p k : ℕ) (x : Option V) (log : List Event) (t : Keeps r p k x log) where
  -- another row than one that p closes by
  row_keeps : (row : Event) → broken_rule (past log) row ≡ None → (after (past log) row).open_in p ≡ Some k → (does_all r (due r (done log) p) ((if p == process_of row then acts_of (done log) row else []) ++ [])).tentative ≡ x
  row_keeps (Sent u v body) b o = acts_leave r (due r (done log) p) (p == u) [] refl ∙ t.1 o
  row_keeps (Received u v m) b o = acts_leave r (due r (done log) p) (p == u) (acts_of (done log) (Received u v m)) refl ∙ t.1 o
  row_keeps (Dropped u v m) b o = acts_leave r (due r (done log) p) (p == u) [] refl ∙ t.1 o
  row_keeps (Began u j kind) b o = acts_leave r (due r (done log) p) (p == u) [] refl ∙ t.1 o
  row_keeps (Unwilling u j cause) b o = acts_leave r (due r (done log) p) (p == u) [] refl ∙ t.1 o
  row_keeps (Decided u j c) b o = acts_leave r (due r (done log) p) (p == u) [] refl ∙ t.1 o
  row_keeps (Failed u) b o = acts_leave r (due r (done log) p) (p == u) (acts_of (done log) (Failed u)) refl ∙ t.1 o
  row_keeps (Refused u verb cause) b o = acts_leave r (due r (done log) p) (p == u) [] refl ∙ t.1 o
  row_keeps (Ready u j) b o = acts_leave r (due r (done log) p) (p == u) [] refl ∙ t.1 (go (p == u) refl o)
    where
      go : (c : Bool) → (p == u) ≡ c → (if c then Some j else (past log).open_in p) ≡ Some k → (past log).open_in p ≡ Some k
      go true e f = absurd (no_new (past log) j k p u t.0 (may_get_ready (past log) u j b).not_new (same p u e) f)
      go false e f = f
  row_keeps (Took u j) b o = go (p == u) refl o
    where
      go : (c : Bool) → (p == u) ≡ c → (if c then Some j else (past log).open_in p) ≡ Some k → (does_all r (due r (done log) p) ((if c then Keep ∷ [] else []) ++ [])).tentative ≡ x
      go true e f = absurd (no_new (past log) j k p u t.0 (may_take (past log) u j b).not_new (same p u e) f)
      go false e f = t.1 f
  row_keeps (Closed u j) b o = go (p == u) o
    where
      go : (c : Bool) → (if c then None else (past log).open_in p) ≡ Some k → (does_all r (due r (done log) p) ((if c then closing (is_rollback (done log).past j) (is_committed (done log).past j) else []) ++ [])).tentative ≡ x
      go true f = absurd (cc (f))
      go false f = t.1 f

  next_keeps : (row : Event) → IsLegal (log ++ row ∷ []) → Keeps r p k x (log ++ row ∷ [])
  next_keeps row l = (
    ap (λ (s : Past). is_some (s.new k p)) (past_push log row) ∙ new_more (past log) row k p t.0,
    λ o. ap (λ (d : Due V). d.tentative) (sym (along r log (row ∷ []) p l)) ∙ row_keeps row (legal_last log row l).1 (ap (λ (s : Past). s.open_in p) (sym (past_push log row)) ∙ o),
  )

along_keeps : {V : Type 0} (r : Rules V) (p k : ℕ) (x : Option V) (log rest : List Event) → IsLegal (log ++ rest) → Keeps r p k x log → Keeps r p k x (log ++ rest)
along_keeps r p k x log [] l t = subst (Keeps r p k x) (sym (append-nil log)) t
along_keeps r p k x log (row ∷ rest) l t =
    let e = append_assoc log (row ∷ []) rest in
    let l' = subst IsLegal (sym e) l in
    subst (Keeps r p k x) e (along_keeps r p k x (log ++ row ∷ []) rest l' (next_keeps r p k x log t row (legal_front (log ++ row ∷ []) rest l')))

-- where it is taken
took_keeps : {V : Type 0} (r : Rules V) (p k : ℕ) (log : List Event) → IsLegal (log ++ Took p k ∷ []) → Keeps r p k (due r (done log) p).object (log ++ Took p k ∷ [])
took_keeps {V} r p k log l = (
  ap (λ (s : Past). is_some (s.new k p)) (past_push log (Took p k)) ∙ new_here,
  λ o. ap (λ (d : Due V). d.tentative) (sym (along r log (Took p k ∷ []) p l)) ∙ kept,
)
  where
    new_here : is_some ((after (past log) (Took p k)).new k p) ≡ true
    new_here = rw (is_same k, is_same p) refl

    kept : (does_all r (due r (done log) p) ((if p == p then Keep ∷ [] else []) ++ [])).tentative ≡ (due r (done log) p).object
    kept = rw (is_same p) refl

pub taken_value : {V : Type 0} (r : Rules V) (log : List Event) (n p k : ℕ) → IsLegal log → slice_get log n ≡ Some (Took p k) → (past log).open_in p ≡ Some k → (due r (done log) p).tentative ≡ (due r (done (take n log)) p).object
taken_value {V} r log n p k l e o =
    let f : take (n + 1) log ≡ take n log ++ Took p k ∷ [] = take_item log n (n + 1) (Took p k) refl e in
    let g : (take n log ++ Took p k ∷ []) ++ drop (n + 1) log ≡ log = ap (λ (y : List Event). y ++ drop (n + 1) log) (sym f) ∙ take-append-drop (n + 1) log in
    let l' : IsLegal ((take n log ++ Took p k ∷ []) ++ drop (n + 1) log) = subst IsLegal (sym g) l in
    (subst (Keeps r p k (due r (done (take n log)) p).object) g (along_keeps r p k (due r (done (take n log)) p).object (take n log ++ Took p k ∷ []) (drop (n + 1) log) l' (took_keeps r p k (take n log) (legal_front (take n log ++ Took p k ∷ []) (drop (n + 1) log) l')))).1 o

pub taken_seen : {V : Type 0} (r : Rules V) (plan : Planned) (first : ℕ) (w : Progress) (n p k : ℕ) → IsPlan plan → RunReaches plan first w → slice_get w.now.log n ≡ Some (Took p k) → (past w.now.log).open_in p ≡ Some k → (due r (done w.now.log) p).tentative ≡ (due r (done (take n w.now.log)) p).object
taken_seen r plan first w n p k i s = taken_value r w.now.log n p k (log_of plan first w IsLegal i s (λ y. (lawful_after_run (length plan.names) y).legal))
