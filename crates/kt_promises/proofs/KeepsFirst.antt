-- A state is kept as a step's first act alone, and only where one can be saved.
use Rattle.std.proofs.Common.{◌≡◌, ℕ, zero, suc, ◌+◌, Bool, true, false, List, [], ◌∷◌, ◌++◌, refl, arith, sym, ap, ◌∙◌, Some}
use Rattle.std.specs.Prelude.{◌==◌, ◌&&◌, ◌||◌, not, if◌then◌else◌, slice_get}
use Rattle.kt_spacetime.specs.declared.event.Event.{Event}
use Rattle.kt_spacetime.specs.declared.event.Event.TheVariants.{Took, Closed}
use Rattle.kt_spacetime.specs.Events.{process_of}
use Rattle.kt_meaning.specs.Past.{is_rollback, is_committed}
use Rattle.kt_protocol.specs.Parcels.{Parcel, App, Ask, Reply, Decide, with_rest}
use Rattle.kt_protocol.specs.States.{State, is_ready}
use Rattle.kt_protocol.specs.Deciding.{none_of}
use Rattle.kt_protocol.specs.Joining.{must_take, must_roll, after_began, after_joining_checkpoint, after_joining_rollback}
use Rattle.kt_protocol.specs.Replies.{after_noting, after_reply}
use Rattle.kt_protocol.specs.States as machine
use Rattle.kt_protocol.proofs.Updates.{is_same}
use Rattle.kt_protocol.proofs.Choices.{at_if}
use Rattle.kt_machine.specs.Done.{Done, done_after}
use Rattle.kt_machine.specs.Values.{Rules, Due, Act, Apply, Keep, Promote, Discard, Restore, Drop, does, does_all, acts_of, acts_along, closing, spares}
use Rattle.kt_machine.specs.Acts.{acts, acts_arriving, acts_settling, acts_asked, acts_taking, acts_taking_held, acts_starting}
use Rattle.kt_plan.specs.declared.commands.Job.{Job}
use Rattle.kt_plan.specs.declared.steps.Give.{Give}
use Rattle.kt_promises.specs.Steps.{protocol_step}
use Rattle.kt_promises.specs.Rows.{is_took_row, has_took_row}
use Rattle.kt_plan.specs.declared.commands.Job.TheVariants as job
use Rattle.kt_promises.specs.StepActs.{keeps_only_first}

abbrev Keeps : Bool → List Act → Type 0
Keeps b l = keeps_only_first b l ≡ true

closing_keeps : (b r c : Bool) → Keeps b (closing r c)
closing_keeps b true true = refl
closing_keeps b true false = refl
closing_keeps b false true = refl
closing_keeps b false false = refl

settling_keeps : (b : Bool) (s : State) (p k : ℕ) → Keeps b (acts_settling s p k)
settling_keeps b s p k = at_if (Keeps b) (none_of s.processes (s.awaits k p)) _ _ (λ _. at_if (Keeps b) (p == s.initiator k) _ _ (λ _. closing_keeps b (s.so_far.is_rollback k) (s.all_willing k p)) (λ _. refl)) (λ _. refl)

keep_first : (able up : Bool) (l : List Act) → (able && up) ≡ true → Keeps false l → Keeps able (Keep ∷ l)
keep_first true up l e k = k
keep_first false up l e k = absurd (cc (e))

not_false : (b : Bool) → not b ≡ false → b ≡ true
not_false true e = refl
not_false false e = absurd (cc (e))

arriving_keeps : (able : Bool) (s : State) (p q m : ℕ) → Keeps able (acts_arriving s p q m)
arriving_keeps able s p q m = at_if (Keeps able) (s.up p) _ _ (λ _. refl) (λ _. refl)

asked_keeps : (s : State) (p q : ℕ) (able : Bool) (k l : ℕ) (rest : List Parcel) → Keeps able (acts_asked s p q able k l rest)
asked_keeps s p q able k l rest = at_if (Keeps able) (s.so_far.open_in p == k) _ _ (λ _. refl)
    (λ _. at_if (Keeps able) (not (s.so_far.open_in p == 0)) _ _ (λ _. refl)
    (λ _. at_if (Keeps able) (s.so_far.is_rollback k) _ _
    (λ _. at_if (Keeps able) (must_roll s p q l) _ _ (λ _. settling_keeps able (after_joining_rollback (after_noting s p q k l) (with_rest s.channel q p rest) p k false q (s.last_received p q)) p k) (λ _. refl))
    (λ _. at_if (Keeps able) (not (must_take s p q l)) _ _ (λ _. refl)
    (λ _. at_if (Keeps able) (not (able && s.up p)) _ _ (λ _. refl)
    (λ e. keep_first able (s.up p) (acts_settling (after_joining_checkpoint s (with_rest s.channel q p rest) p k false q l) p k) (not_false (able && s.up p) e) (settling_keeps false (after_joining_checkpoint s (with_rest s.channel q p rest) p k false q l) p k))))))

taking_keeps : (s : State) (p q : ℕ) (able : Bool) (l : List Parcel) → Keeps able (acts_taking s p q able l)
taking_keeps s p q able [] = refl
taking_keeps s p q able (App m ∷ rest) = at_if (Keeps able) (is_ready s p) _ _ (λ _. refl) (λ _. arriving_keeps able s p q m)
taking_keeps s p q able (Ask k l ∷ rest) = asked_keeps s p q able k l rest
taking_keeps s p q able (Reply k w ∷ rest) = settling_keeps able (after_reply s p q k w rest) p k
taking_keeps s p q able (Decide k c ∷ rest) = at_if (Keeps able) (s.so_far.open_in p == k) _ _ (λ _. closing_keeps able (s.so_far.is_rollback k) c) (λ _. refl)

held_keeps : (s : State) (p q : ℕ) (able : Bool) (l : List Parcel) → Keeps able (acts_taking_held s p q able l)
held_keeps s p q able [] = taking_keeps s p q able (s.channel q p)
held_keeps s p q able (App m ∷ rest) = arriving_keeps able s p q m
held_keeps s p q able (Ask k l ∷ rest) = refl
held_keeps s p q able (Reply k w ∷ rest) = refl
held_keeps s p q able (Decide k c ∷ rest) = refl

pub take_keeps : (s : State) (p q : ℕ) (able : Bool) → Keeps able (acts s (machine.Take p q able))
take_keeps s p q able = at_if (Keeps able) (is_ready s p) _ _ (λ _. taking_keeps s p q able (s.channel q p)) (λ _. held_keeps s p q able (s.held q p))

starting_keeps : (s : State) (p : ℕ) (roll able : Bool) → Keeps able (acts_starting s p roll able)
starting_keeps s p true able = settling_keeps able (after_joining_rollback (after_began s p true) s.channel p (s.instances + 1) true p 0) p (s.instances + 1)
starting_keeps s p false able = at_if (Keeps able) (able && s.up p) _ _ (λ e. keep_first able (s.up p) (acts_settling (after_joining_checkpoint (after_began s p false) s.channel p (s.instances + 1) true p 0) p (s.instances + 1)) e (settling_keeps false (after_joining_checkpoint (after_began s p false) s.channel p (s.instances + 1) true p 0) p (s.instances + 1))) (λ _. refl)

pub deed_keeps : (s : State) (p : ℕ) (j : Job) (give : Give) → Keeps give.able (acts s (protocol_step p j give))
deed_keeps s p (job.Send q body) give = refl
deed_keeps s p job.Checkpoint give = at_if (Keeps give.able) (s.so_far.open_in p == 0) _ _ (λ _. starting_keeps s p false give.able) (λ _. refl)
deed_keeps s p job.Rollback give = at_if (Keeps give.able) (s.so_far.open_in p == 0) _ _ (λ _. starting_keeps s p true give.able) (λ _. refl)
deed_keeps s p job.Fail give = at_if (Keeps give.able) (s.up p) _ _ (λ _. refl) (λ _. refl)

-- a took row asks that a state be kept, and no other row does
unfoldable pub has_keep : List Act → Bool
has_keep [] = false
has_keep (Keep ∷ acts) = true
has_keep (_ ∷ acts) = has_keep acts

pub none_kept : (l : List Act) → Keeps false l → has_keep l ≡ false
unfolding has_keep
none_kept [] k = refl
none_kept (Keep ∷ l) k = absurd (cc (k))
none_kept (_ ∷ l) k = none_kept l k

closing_then : (r c : Bool) (l : List Act) → has_keep (closing r c ++ l) ≡ has_keep l
unfolding has_keep
closing_then true true l = refl
closing_then true false l = refl
closing_then false true l = refl
closing_then false false l = refl

row_keeps : (d : Done) (row : Event) (l : List Act) → has_keep (acts_of d row ++ l) ≡ (is_took_row row || has_keep l)
unfolding has_keep
row_keeps d (Took p k) l = refl
row_keeps d (Closed p k) l = closing_then (is_rollback d.past k) (is_committed d.past k) l
row_keeps d _ l = refl

pub took_keeps : (p : ℕ) (d : Done) (rows : List Event) → ((i : ℕ) (row : Event) → slice_get rows i ≡ Some row → process_of row ≡ p) → has_took_row rows ≡ has_keep (acts_along p d rows)
unfolding has_keep
took_keeps p d [] own = refl
took_keeps p d (row ∷ rows) own =
    ap (λ (b : Bool). is_took_row row || b) (took_keeps p (done_after d row) rows (λ i x e. own (suc i) x e))
    ∙ (sym (row_keeps d row (acts_along p (done_after d row) rows)) ∙ ap (λ (b : Bool). has_keep ((if b then acts_of d row else []) ++ acts_along p (done_after d row) rows)) (sym same))
  where
    same : (p == process_of row) ≡ true
    same = rw (own zero row refl) (is_same p)

-- spares of one list of acts after another
pub spares_more : {V : Type 0} (r : Rules V) (x : Due V) (a b : List Act) → spares r x (a ++ b) ≡ spares r x a + spares r (does_all r x a) b
spares_more r x [] b = omega arith
spares_more r x (Apply q z ∷ a) b = spares_more r (does r x (Apply q z)) a b
spares_more r x (Keep ∷ a) b = spares_more r (does r x Keep) a b
spares_more r x (Promote ∷ a) b = spares_more r (does r x Promote) a b
spares_more r x (Discard ∷ a) b = spares_more r (does r x Discard) a b
spares_more r x (Drop ∷ a) b = spares_more r (does r x Drop) a b
spares_more r x (Restore ∷ a) b = let i = spares_more r (does r x Restore) a b in omega (arith, i)
