-- An object that rejects a saved state, and whose it is.
use Rattle.std.proofs.Common.{arith, ◌≡◌, ◌≢◌, ◌∙◌, inl, inr, ℕ, zero, suc, List, [], ◌∷◌, map, refl, sym, ap, subst, All, IfSome, Option, Some, None}
use Rattle.std.specs.List.{AllZip, Any}
use Rattle.std.specs.Prelude.{option_map, slice_get, slice_index_or, take}
use Rattle.std.specs.declared.alloc.Global.{Global}
use Rattle.std.specs.declared.dyn_box.DynBox.{DynBox}
use Rattle.std.proofs.lemmas.List.Elements.{All-head, All-tail}
use Rattle.kt_object.specs.Bytes.{IsSavedState}
use Rattle.kt_object.specs.Holdings.{Content, content, Holding, Holds, applied, does, does_all}
use Rattle.kt_object.specs.Refusals.{held_objects, IsRejected}
use Rattle.kt_object.specs.declared.held_faults.ActFault.{ActFault}
use Rattle.kt_object.specs.declared.held_faults.ActFault.TheVariants as act
use Rattle.kt_object.specs.declared.held.Held.{Held}
use Rattle.kt_plan.specs.declared.steps.Act.{Act}
use Rattle.kt_plan.specs.declared.steps.Act.TheVariants.{Nothing, Apply, Keep, Promote, Discard, Restore, Drop}
use Rattle.kt_run.specs.Objects.{Belongings, belongings_of, has_of, first_of, rules_of, holding_of, HoldsDue, HoldDue}
use Rattle.kt_run.specs.Rejections.{MayReject, objects_held}
use Rattle.kt_machine.specs.Done.{done}
use Rattle.kt_machine.specs.Values.{Due, due}
use Rattle.kt_threads.specs.Faults.{AnswersFirst, live_of_act, live_stopped_at}
use Rattle.kt_threads.specs.Workers.{IsOfKind, HasOf, KeepsObjects, KeepsServing}
use Rattle.kt_threads.specs.declared.faults.LiveFault.{LiveFault}
use Rattle.kt_threads.specs.declared.faults.LiveFault.TheVariants.{Object, Differ}
use Rattle.kt_threads.specs.declared.worker.Worker.{Worker}

-- of objects of which the first one is of a kind
pub of_kind : {B : Type 0} (may_reject : B → List ℕ → Type 0) (k kind : ℕ) (objects : List B) → (objects ≢ [] → k ≡ kind) → MayReject may_reject k objects → MayReject may_reject kind objects
of_kind may_reject k kind objects same x = record {
  value = x.value;
  saved = x.saved;
  is = subst (λ (n : ℕ). IsSavedState n x.value x.saved) (same (λ e. let n = (subst (Any (λ b. may_reject b x.saved)) e x.rejected).2 in (omega (arith, n)))) x.is;
  rejected = x.rejected;
}

-- contents of one kind stay so
applied_kind : (kind from : ℕ) (body : _) (o : Option Content) → IfSome o (λ c. c.kind ≡ kind) → IfSome (option_map (applied from body) o) (λ c. c.kind ≡ kind)
applied_kind kind from body None e = tt
applied_kind kind from body (Some c) e = e

promoted_kind : (kind : ℕ) (h : Holding) (t : Option Content) → t ≡ h.tentative → IsOfKind kind h → IsOfKind kind (does h Promote)
promoted_kind kind h None e is = record { object = is.object; permanent = rw (sym e) is.permanent; tentative = tt }
promoted_kind kind h (Some c) e is = record {
  object = is.object;
  permanent = rw (sym e) (subst (λ (o : Option Content). IfSome o (λ c. c.kind ≡ kind)) (sym e) is.tentative);
  tentative = tt;
}

does_kind : (kind : ℕ) (h : Holding) (a : Act) → IsOfKind kind h → IsOfKind kind (does h a)
does_kind kind h Nothing is = is
does_kind kind h (Apply from body) is = record { object = applied_kind kind from body h.object is.object; permanent = is.permanent; tentative = is.tentative }
does_kind kind h Keep is = record { object = is.object; permanent = is.permanent; tentative = is.object }
does_kind kind h Promote is = promoted_kind kind h h.tentative refl is
does_kind kind h Discard is = record { object = is.object; permanent = is.permanent; tentative = tt }
does_kind kind h Restore is = record { object = is.permanent; permanent = is.permanent; tentative = is.tentative }
does_kind kind h Drop is = record { object = tt; permanent = is.permanent; tentative = is.tentative }

all_kind : (kind : ℕ) (h : Holding) (acts : List Act) → IsOfKind kind h → IsOfKind kind (does_all h acts)
all_kind kind h [] is = is
all_kind kind h (a ∷ acts) is = all_kind kind (does h a) acts (does_kind kind h a is)

due_kind : (kind : ℕ) (d : Due (List _)) → IsOfKind kind (holding_of kind d)
due_kind kind d = record { object = some_kind d.object; permanent = refl; tentative = some_kind d.tentative }
  where
    some_kind : (o : Option (List _)) → IfSome (option_map (content kind) o) (λ c. c.kind ≡ kind)
    some_kind None = tt
    some_kind (Some v) = refl

not_differ : (q : ℕ) → Some Differ ≡ Some (Object q) → ⊥
not_differ q e = absurd (cc (e))

form_of : (p q : ℕ) (fault : ActFault) → Some (live_of_act p fault) ≡ Some (Object q) → fault ≡ act.Form
form_of p q act.Unfit e = absurd (cc (e))
form_of p q act.Form e = refl
form_of p q act.Memory e = absurd (cc (e))

-- what a thread's process has after a step
module _ {J X : Type 0} {D : X → Type 0} (content_of : DynBox X Global D → Content) (may_reject : DynBox X Global D → List ℕ → Type 0) (kind : ℕ) (objects : List (DynBox X Global D)) where
  -- which did not come next
  pub of_other : (x y : Worker J X D) → y.held ≡ x.held → y.fault ≡ Some Differ → HasOf content_of may_reject kind objects x → HasOf content_of may_reject kind objects y
  of_other x y same is has = record {
    holds = rw same has.holds;
    rejects = rw same has.rejects;
    fault = λ q e. absurd (not_differ q (sym is ∙ e));
  }

  -- whose acts were done
  pub of_done : (x y : Worker J X D) (acts : List Act) → y.fault ≡ x.fault
      → ((h : Holding) → Holds h (option_map content_of x.held.present) x.held.depot → Holds (does_all h acts) (option_map content_of y.held.present) y.held.depot)
      → ((saved : List ℕ) → Any (λ b. may_reject b saved) (held_objects y.held.present y.held.spares.items) → Any (λ b. may_reject b saved) (held_objects x.held.present x.held.spares.items))
      → HasOf content_of may_reject kind objects x → HasOf content_of may_reject kind objects y
  of_done x y acts same does no_more has = record {
    holds = (does_all has.holds.0 acts, does has.holds.0 has.holds.1, all_kind kind has.holds.0 acts has.holds.2);
    rejects = λ saved any. has.rejects saved (no_more saved any);
    fault = λ p e. has.fault p (sym same ∙ e);
  }

  -- of whose acts one could not be done
  pub of_refused : (x y : Worker J X D) (after : Held X D) (acts : List Act) (p : ℕ) (fault : ActFault) → y.held ≡ after → y.fault ≡ Some (live_of_act p fault)
      → (count : ℕ) → ((h : Holding) → Holds h (option_map content_of x.held.present) x.held.depot → Holds (does_all h (take count acts)) (option_map content_of after.present) after.depot)
      → (fault ≡ act.Form → (h : Holding) → Holds h (option_map content_of x.held.present) x.held.depot → IsRejected may_reject (held_objects x.held.present x.held.spares.items) h acts)
      → ((saved : List ℕ) → Any (λ b. may_reject b saved) (held_objects after.present after.spares.items) → Any (λ b. may_reject b saved) (held_objects x.held.present x.held.spares.items))
      → HasOf content_of may_reject kind objects x → HasOf content_of may_reject kind objects y
  of_refused x y after acts p fault same is count does form no_more has = record {
    holds = rw same (does_all has.holds.0 (take count acts), does has.holds.0 has.holds.1, all_kind kind has.holds.0 (take count acts) has.holds.2);
    rejects = rw same (λ saved any. has.rejects saved (no_more saved any));
    fault = λ q e. rejected (form (form_of p q fault (sym is ∙ e)) has.holds.0 has.holds.1);
  }
    where
      rejected : IsRejected may_reject (held_objects x.held.present x.held.spares.items) has.holds.0 acts → MayReject may_reject kind objects
      rejected r = record {
        value = (does_all has.holds.0 (take r.done acts)).permanent.value;
        saved = r.saved;
        is = subst (λ (k : ℕ). IsSavedState k (does_all has.holds.0 (take r.done acts)).permanent.value r.saved) (all_kind kind has.holds.0 (take r.done acts) has.holds.2).permanent r.is;
        rejected = has.rejects r.saved r.rejected;
      }

-- a thread that ends
pub ended_keeps : {J X : Type 0} {D : X → Type 0} (content_of : DynBox X Global D → Content) (may_reject : DynBox X Global D → List ℕ → Type 0) (x y : Worker J X D)
    (fault : LiveFault) → y.fault ≡ Some fault → KeepsObjects x y content_of may_reject → KeepsServing x y content_of may_reject
ended_keeps content_of may_reject x y fault is keeps = (λ first s going. absurd (cc (sym is ∙ going)), λ all s going. absurd (cc (sym is ∙ going)), keeps)

-- the process whose thread ended by an object's fault
module _ {J X : Type 0} {D : X → Type 0} (content_of : DynBox X Global D → Content) (may_reject : DynBox X Global D → List ℕ → Type 0) where
  has_first : (cast : List Content) (worker : Worker J X D) (p : ℕ) → HoldsDue cast [] p (belongings_of content_of worker.held) → worker.fault ≡ None
      → HasOf content_of may_reject (first_of cast).kind (held_objects worker.held.present worker.held.spares.items) worker
  has_first cast worker p due_to going = record {
    holds = (holding_of (first_of cast).kind (due (rules_of (first_of cast)) (done []) p), due_to.holds, due_kind (first_of cast).kind (due (rules_of (first_of cast)) (done []) p));
    rejects = λ saved any. any;
    fault = λ q e. absurd (cc (sym going ∙ e));
  }

  rejected_at : (cast_at : ℕ → List Content) (place : ℕ → ℕ) (ss ts : List (Worker J X D))
      → ((i : ℕ) (b : Belongings) → slice_get (has_of (map (λ s. s.held) ss) content_of) i ≡ Some b → HoldsDue (cast_at i) [] (place i) b)
      → All (λ s. s.fault ≡ None) ss → AllZip (λ s t. KeepsServing s t content_of may_reject) ss ts
      → (i p : ℕ) → slice_index_or (map (λ t. t.fault) ts) i None ≡ Some (Object p)
      → MayReject may_reject (first_of (cast_at i)).kind (slice_index_or (objects_held (map (λ s. s.held) ss)) i [])
  rejected_at cast_at place [] [] due_to going works i p e = absurd (cc (e))
  rejected_at cast_at place [] (t ∷ ts) due_to going works i p e = absurd works
  rejected_at cast_at place (s ∷ ss) [] due_to going works i p e = absurd works
  rejected_at cast_at place (s ∷ ss) (t ∷ ts) due_to going works zero p e =
      (works.0.2 (first_of (cast_at 0)).kind (held_objects s.held.present s.held.spares.items)
      (has_first (cast_at 0) s (place 0) (due_to 0 (belongings_of content_of s.held) refl) (All-head (λ x. x.fault ≡ None) s ss going))).fault p e
  rejected_at cast_at place (s ∷ ss) (t ∷ ts) due_to going works (suc i) p e =
      rejected_at (λ n. cast_at (suc n)) (λ n. place (suc n)) ss ts (λ j b f. due_to (suc j) b f) (All-tail (λ x. x.fault ≡ None) s ss going) works.1 i p e

  pub rejected_in_thread : (cast : List (List Content)) (helds : List (Held X D)) (ss ts : List (Worker J X D)) → map (λ s. s.held) ss ≡ helds
      → HoldDue cast [] (has_of helds content_of) → All (λ s. s.fault ≡ None) ss → AllZip (λ s t. KeepsServing s t content_of may_reject) ss ts
      → (p : ℕ) → slice_index_or (map (λ t. t.fault) ts) p None ≡ Some (Object p)
      → MayReject may_reject (first_of (slice_index_or cast p [])).kind (slice_index_or (objects_held helds) p [])
  rejected_in_thread cast helds ss ts is due_to going works p e =
      subst (λ (l : List (Held X D)). MayReject may_reject (first_of (slice_index_or cast p [])).kind (slice_index_or (objects_held l) p [])) is
      (rejected_at (λ i. slice_index_or cast i []) (λ i. i) ss ts
      (subst (λ (l : List (Held X D)). (i : ℕ) (b : Belongings) → slice_get (has_of l content_of) i ≡ Some b → HoldsDue (slice_index_or cast i []) [] i b) (sym is) due_to.each)
      going works p p e)

-- a fault that names a process is one by which its thread ended
pub named_of : (ended : List (Option LiveFault)) (first answer : LiveFault) → AnswersFirst ended first answer → (p : ℕ) → live_stopped_at answer ≡ Some p
    → slice_index_or ended p None ≡ Some answer
named_of ended first answer (inl (theirs, same)) p e = theirs.1 p (ap live_stopped_at (sym same) ∙ e) ∙ ap Some (sym same)
named_of ended first answer (inr (other, same)) p e = absurd (cc (sym (ap live_stopped_at same) ∙ e))

pub not_object : (fault : LiveFault) (p : ℕ) → live_stopped_at fault ≡ None → fault ≡ Object p → ⊥
not_object fault p none e = absurd (cc (sym none ∙ ap live_stopped_at e))
