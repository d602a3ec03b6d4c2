-- Every act of a run can be done, with no more spares than the process is asked to fail.
use Rattle.std.proofs.Common.{◌≡◌, ℕ, ◌+◌, ◌≤◌, Bool, true, false, Option, Some, None, List, [], ◌∷◌, ◌++◌, refl, arith, sym, ap, subst, ◌∙◌}
use Rattle.std.specs.Prelude.{is_some, is_none, option_map, ◌&&◌, if◌then◌else◌}
use Rattle.kt_meaning.specs.Legal.{IsLegal}
use Rattle.kt_protocol.specs.States.{State, ProtocolStep, opening}
use Rattle.kt_protocol.specs.LateSteps.{late_step, late_run}
use Rattle.kt_machine.specs.Done.{done}
use Rattle.kt_machine.specs.Values.{Rules, Due, Act, Apply, Keep, Promote, Discard, Restore, Drop, due, first_due, does, does_all, can_all, drops, spares}
use Rattle.kt_machine.specs.Acts.{acts_by, acts_through, failures}
use Rattle.kt_machine.proofs.AddedRows.{adds_step}
use Rattle.kt_machine.proofs.CanBeDone.{can_more, along_can}
use Rattle.kt_machine.proofs.ActCases.{few_drops}
use Rattle.kt_machine.proofs.RunActs.{run_more, invariant_late, legal_next, step_of_run}

pub step_can : {V : Type 0} (r : Rules V) (n : ℕ) (steps : List ProtocolStep) (x : ProtocolStep) (u : ℕ) → can_all r (due r (done (late_run (opening n) steps).log) u) (acts_by u (late_run (opening n) steps) x) ≡ true
step_can r n steps x u =
    let c = late_run (opening n) steps in
    let a = adds_step c x (invariant_late n steps) in
    ap (can_all r (due r (done c.log) u)) (sym (a.acts (legal_next n steps x) u)) ∙ along_can r c.log a.rows u (subst IsLegal a.log (legal_next n steps x))

run_can_from : {V : Type 0} (r : Rules V) (n u : ℕ) (before xs : List ProtocolStep) → can_all r (due r (done (late_run (opening n) before).log) u) (acts_through u (late_run (opening n) before) xs) ≡ true
run_can_from r n u before [] = refl
run_can_from {V} r n u before (x ∷ xs) =
    let c = late_run (opening n) before in
    let e : late_run (opening n) (before ++ x ∷ []) ≡ late_step c x = run_more (opening n) before (x ∷ []) in
    can_more r (due r (done c.log) u) (acts_by u c x) (acts_through u (late_step c x) xs) (step_can r n before x u)
    (ap (λ (d : Due V). can_all r d (acts_through u (late_step c x) xs)) (step_of_run r n before x u)
    ∙ subst (λ (s : State). can_all r (due r (done s.log) u) (acts_through u s xs) ≡ true) e (run_can_from r n u (before ++ x ∷ []) xs))

pub run_can : {V : Type 0} (r : Rules V) (n : ℕ) (steps : List ProtocolStep) (u : ℕ) → can_all r (first_due r) (acts_through u (opening n) steps) ≡ true
run_can r n steps u = run_can_from r n u [] steps

both : (a b : Bool) → (a && b) ≡ true → (a ≡ true) × (b ≡ true)
both true b e = (refl, e)
both false b e = absurd (cc (e))

mapped : {V : Type 0} (f : V → V) (o : Option V) → is_none (option_map f o) ≡ is_none o
mapped f None = refl
mapped f (Some v) = refl

there : {V : Type 0} (o : Option V) → is_some o ≡ true → ◌≡◌ {A = ℕ} (if is_none o then 1 else 0) 0
there None e = absurd (cc (e))
there (Some v) e = refl

pub balance : {V : Type 0} (r : Rules V) (x : Due V) (a : List Act) → can_all r x a ≡ true → spares r x a + (if is_none (does_all r x a).object then 1 else 0) ≡ drops a + (if is_none x.object then 1 else 0)
balance r x [] e = refl
balance r x (Apply q b ∷ a) e = let i = balance r (does r x (Apply q b)) a (both (is_some x.object) _ e).1 in i ∙ ap (λ (t : Bool). drops a + (if t then 1 else 0)) (mapped (λ v. r.after v q b) x.object)
balance r x (Keep ∷ a) e = balance r (does r x Keep) a (both (is_some x.object && is_none x.tentative) _ e).1
balance r x (Promote ∷ a) e = balance r (does r x Promote) a (both (is_some x.tentative) _ e).1
balance r x (Discard ∷ a) e = balance r (does r x Discard) a (both (is_some x.tentative) _ e).1
balance r x (Restore ∷ a) e = let i = balance r (does r x Restore) a e in omega (arith, i)
balance r x (Drop ∷ a) e =
    let h = both (is_some x.object) _ e in
    let i = balance r (does r x Drop) a h.1 in
    let z : ◌≡◌ {A = ℕ} (if is_none x.object then 1 else 0) 0 = there x.object h.0 in
    omega (arith, i, z)

-- the drops among some acts and some more
pub drops_more : (a b : List Act) → drops (a ++ b) ≡ drops a + drops b
drops_more [] b = omega arith
drops_more (Apply q t ∷ a) b = drops_more a b
drops_more (Keep ∷ a) b = drops_more a b
drops_more (Promote ∷ a) b = drops_more a b
drops_more (Discard ∷ a) b = drops_more a b
drops_more (Restore ∷ a) b = drops_more a b
drops_more (Drop ∷ a) b = let i = drops_more a b in omega (arith, i)

drops_through : (p : ℕ) (s : State) (xs : List ProtocolStep) → drops (acts_through p s xs) ≤ failures p xs
drops_through p s [] = omega arith
drops_through p s (x ∷ xs) = let i = drops_through p (late_step s x) xs in let m = drops_more (acts_by p s x) (acts_through p (late_step s x) xs) in let f = few_drops p s x xs (drops (acts_through p (late_step s x) xs)) i in omega (arith, m, f)

pub spares_enough : {V : Type 0} (r : Rules V) (n : ℕ) (steps : List ProtocolStep) (p : ℕ) → spares r (first_due r) (acts_through p (opening n) steps) ≤ failures p steps
spares_enough r n steps p =
    let b = balance r (first_due r) (acts_through p (opening n) steps) (run_can r n steps p) in
    let d = drops_through p (opening n) steps in
    omega (arith, b, d)
