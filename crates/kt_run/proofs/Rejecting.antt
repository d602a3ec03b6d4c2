-- The acts of a step can be done on what is held, but for what an object rejects.
use Rattle.std.proofs.Common.{◌≡◌, ◌≢◌, ◌⊎◌, ◌∙◌, ◌+◌, ◌-◌, ◌≤◌, ◌<◌, arith, ℕ, zero, suc, ℤ, Bool, true, false, List, [], ◌∷◌, length, map, set, take, refl, sym, ap, subst, inl, inr, Option, Some, None, length-drop}
use Rattle.std.specs.Prelude.{IsSome, IfSome, ◌&&◌, ◌||◌, nat_lt, is_some, is_none, not, slice_get, slice_index, slice_index_or, option_map, if◌then◌else◌, All}
use Rattle.std.specs.List.{Any, AllZip}
use Rattle.std.proofs.lemmas.Option.{slice_get-map}
use Rattle.std.proofs.lemmas.Bool.{cases_lt, lt-ltb}
use Rattle.std.proofs.lemmas.List.{length-map}
use Rattle.std.proofs.lemmas.List.Elements.{All-head, All-tail}
use Rattle.std.specs.declared.alloc.Global.{Global}
use Rattle.std.specs.declared.dyn_box.DynBox.{DynBox}
use Rattle.kt_object.specs.Bytes.{IsSavedState}
use Rattle.kt_core.specs.Shown.{Mirrors}
use Rattle.kt_core.specs.Worlds.{World}
use Rattle.kt_object.specs.Fits.{fits_all, spares_of}
use Rattle.kt_object.specs.Holdings.{Content, content, Holding, Holds, AreSaved}
use Rattle.kt_object.specs.Holdings as held
use Rattle.kt_object.specs.Refusals.{held_objects, IsRejected}
use Rattle.kt_object.specs.declared.held_faults.ActFault.{ActFault}
use Rattle.kt_object.specs.declared.held_faults.ActFault.TheVariants as act
use Rattle.kt_object.specs.declared.held.Held.{Held}
use Rattle.kt_promises.specs.Steps.{process_of_step, enabled, progress_after}
use Rattle.kt_plan.specs.Limits.{Planned}
use Rattle.kt_plan.specs.declared.steps.Act.{Act}
use Rattle.kt_plan.specs.declared.steps.Act.TheVariants as answered
use Rattle.kt_plan.specs.declared.steps.Give.{Give}
use Rattle.kt_plan.specs.declared.steps.Step.{Step}
use Rattle.kt_plan.specs.declared.steps.Told.{Told}
use Rattle.kt_promises.specs.Runs.{RunReaches}
use Rattle.kt_promises.specs.StepActs.{keeps_only_first, acts_of_step}
use Rattle.kt_promises.specs.Progress.{Progress}
use Rattle.kt_manager.specs.ShownActs.{acts_shown}
use Rattle.kt_machine.specs.Done.{done}
use Rattle.kt_machine.specs.Values as values
use Rattle.kt_machine.specs.Values.{Rules, Due, due, can_all}
use Rattle.kt_run.specs.Faults.{of_act, IsCast}
use Rattle.kt_run.specs.Objects.{belongings_of, has_of, rules_of, first_of, holding_of, spares_taken, HoldsDue, HoldDue}
use Rattle.kt_run.specs.Rejections.{MayReject, objects_held, RejectNoMore, HaveSpares}
use Rattle.kt_run.specs.RunLaws.{RunLaws}
use Rattle.kt_run.specs.Runs.{Tells}
use Rattle.kt_run.specs.declared.faults.RunFault.TheVariants.{Object}
use Rattle.kt_run.proofs.Holding.{all_same}

both : (x y : Bool) → x ≡ true → y ≡ true → (x && y) ≡ true
both true y e f = f
both false y e f = absurd (cc e)

left_of : (x y : Bool) → (x && y) ≡ true → x ≡ true
left_of true y e = refl
left_of false y e = e

right_of : (x y : Bool) → (x && y) ≡ true → y ≡ true
right_of true y e = e
right_of false y e = absurd (cc e)

-- a restore takes a spare where no object is there
restored : (up : Bool) (object : Option (List ℤ)) (n spares : ℕ) (F : ℕ → Bool) → up ≡ is_some object → (if is_none object then 1 else 0) + n ≤ spares
    → ((k : ℕ) → n ≤ k → F k ≡ true) → ((up || nat_lt 0 spares) && F (spares - spares_of up answered.Restore)) ≡ true
restored true (Some v) n spares F e l f = f (spares - 0) (omega (arith, l))
restored true None n spares F e l f = absurd (cc (e))
restored false (Some v) n spares F e l f = absurd (cc (e))
restored false None n spares F e l f = both (nat_lt 0 spares) _ (lt-ltb 0 spares (omega (arith, l))) (f (spares - 1) (omega (arith, l)))

mapped : {A B : Type 0} (f : A → B) (o : Option A) → is_some (option_map f o) ≡ is_some o
mapped f None = refl
mapped f (Some x) = refl

none_there : (o : Option (List ℤ)) (t : Bool) → t ≡ is_some o → is_none o ≡ true → not t ≡ true
none_there None t e n = rw e refl
none_there (Some v) t e n = absurd (cc (n))

-- acts that can be done on what is due fit what is held
module _ (first : Content) where
  abbrev r : Rules (List ℤ)
  r = rules_of first

  pub acts_fit : (d : Due (List ℤ)) (up tentative saved : Bool) (spares : ℕ) (acts : List Act) → up ≡ is_some d.object → tentative ≡ is_some d.tentative
      → can_all r d (acts_shown acts) ≡ true → keeps_only_first saved (acts_shown acts) ≡ true → values.spares r d (acts_shown acts) ≤ spares
      → fits_all (record { up = up; tentative = tentative; saved = saved; spares = spares }) acts ≡ true
  acts_fit d up tentative saved spares [] u t c k l = refl
  acts_fit d up tentative saved spares (answered.Nothing ∷ acts) u t c k l = acts_fit d up tentative saved (spares - 0) acts u t c k (omega (arith, l))
  acts_fit d up tentative saved spares (answered.Apply from body ∷ acts) u t c k l =
      both up _ (u ∙ left_of (is_some d.object) _ c)
      (acts_fit (values.does r d (values.Apply from body)) up tentative false (spares - 0) acts (u ∙ sym (mapped (λ v. r.after v from body) d.object)) t (right_of (is_some d.object) _ c) k (omega (arith, l)))
  acts_fit d up tentative saved spares (answered.Keep ∷ acts) u t c k l =
      let now = left_of (is_some d.object && is_none d.tentative) _ c in
      both (up && not tentative && saved) _ (both (up && not tentative) saved (both up (not tentative) (u ∙ left_of (is_some d.object) _ now) (none_there d.tentative tentative t (right_of (is_some d.object) _ now))) (left_of saved _ k))
      (acts_fit (values.does r d values.Keep) up true false (spares - 0) acts u (sym (left_of (is_some d.object) _ now)) (right_of (is_some d.object && is_none d.tentative) _ c) (right_of saved _ k) (omega (arith, l)))
  acts_fit d up tentative saved spares (answered.Promote ∷ acts) u t c k l =
      both tentative _ (t ∙ left_of (is_some d.tentative) _ c)
      (acts_fit (values.does r d values.Promote) up false false (spares - 0) acts u refl (right_of (is_some d.tentative) _ c) k (omega (arith, l)))
  acts_fit d up tentative saved spares (answered.Discard ∷ acts) u t c k l =
      both tentative _ (t ∙ left_of (is_some d.tentative) _ c)
      (acts_fit (values.does r d values.Discard) up false false (spares - 0) acts u refl (right_of (is_some d.tentative) _ c) k (omega (arith, l)))
  acts_fit d up tentative saved spares (answered.Restore ∷ acts) u t c k l =
      restored up d.object (values.spares r (values.does r d values.Restore) (acts_shown acts)) spares
      (λ n. fits_all (record { up = true; tentative = tentative; saved = false; spares = n }) acts) u l
      (λ n m. acts_fit (values.does r d values.Restore) true tentative false n acts refl t c k m)
  acts_fit d up tentative saved spares (answered.Drop ∷ acts) u t c k l =
      both up _ (u ∙ left_of (is_some d.object) _ c)
      (acts_fit (values.does r d values.Drop) false tentative false (spares - 0) acts refl t (right_of (is_some d.object) _ c) k (omega (arith, l)))

  -- what is rejected is of the kind of what is due
  pub kind_rejected : {A : Type 0} (may_reject : A → List ℕ → Type 0) (objects : List A) (d : Due (List ℤ)) (acts : List Act)
      → IsRejected may_reject objects (holding_of first.kind d) acts → MayReject may_reject first.kind objects
  kind_rejected may_reject objects d acts x =
      let at = held.does_all (holding_of first.kind d) (take x.done acts) in
      record {
        value = at.permanent.value;
        saved = x.saved;
        is = subst (λ (k : ℕ). IsSavedState k at.permanent.value x.saved) (ap (λ (h : Holding). h.permanent.kind) (all_same first d (take x.done acts))) x.is;
        rejected = x.rejected;
      }

saved_there : (o : Option Content) (t : Option (List ℕ)) → AreSaved o t → is_some t ≡ is_some o
saved_there None None a = refl
saved_there None (Some s) a = absurd a
saved_there (Some c) None a = absurd a
saved_there (Some c) (Some s) a = refl

place_of : {A : Type 0} (xs : List A) (i : ℕ) (x : A) → slice_get xs i ≡ Some x → i < length xs
place_of [] i x e = absurd (cc (e))
place_of (y ∷ xs) zero x e = omega arith
place_of (y ∷ xs) (suc i) x e = let l = place_of xs i x e in omega (arith, l)

at_place : {X : Type 0} {D : X → Type 0} (helds : List (Held X D)) (i : ℕ) (x : Held X D) → slice_get helds i ≡ Some x
    → slice_index_or (objects_held helds) i [] ≡ held_objects x.present x.spares.items
at_place [] i x e = absurd (cc (e))
at_place {X} {D} (y ∷ helds) zero x e = let s : y ≡ x = cc (e) in ap (λ (h : Held X D). held_objects h.present h.spares.items) s
at_place (y ∷ helds) (suc i) x e = at_place helds i x e

-- an act that can't be done, and whose it is
pub faulted : (fault : ActFault) (p q : ℕ) → of_act p fault ≡ Object q → (p ≡ q) × ((fault ≡ act.Unfit) ⊎ (fault ≡ act.Form))
faulted act.Unfit p q e = (cc (e), inl refl)
faulted act.Form p q e = (cc (e), inr refl)
faulted act.Memory p q e = absurd (cc (e))

true≢ : (b : Bool) → b ≡ true → b ≡ false → ⊥
true≢ true e f = cc (f)
true≢ false e f = cc (e)

-- what a step asks fits what its process holds
module _ {X : Type 0} {D : X → Type 0} (laws : RunLaws) (helds : List (Held X D)) (content_of : DynBox X Global D → Content) (i : ℕ) (x : Held X D) (at : slice_get helds i ≡ Some x)
    (old new : World) (before after : List (List Told)) (step : Step) (place : i ≡ process_of_step step) (give : Give) (acts : List Act) (tells : Tells old before step give new after acts)
    (first : ℕ) (v : Progress) (m : Mirrors old.agenda old.system first v) (cast : List (List Content)) (spares : HaveSpares old.agenda.plan cast)
    (due_to : HoldDue cast v.now.log (has_of helds content_of)) where
  abbrev c : Content
  c = first_of (slice_index_or cast i [])

  abbrev d : Due (List ℤ)
  d = due (rules_of c) (done v.now.log) i

  holds : HoldsDue (slice_index_or cast i []) v.now.log i (belongings_of content_of x)
  holds = due_to.each i (belongings_of content_of x) (slice_get-map (belongings_of content_of) helds i ∙ ap (option_map (belongings_of content_of)) at)

  asked : acts_shown acts ≡ acts_of_step old.agenda.plan v step give i
  asked = let t = tells.5 first v m in ap acts_shown tells.2 ∙ (t.2.acts ∙ ap (acts_of_step old.agenda.plan v step give) (sym place))

  within : i < length cast
  within = let l = place_of helds i x at in let n = length-map helds (belongings_of content_of) in let e = due_to.count in omega (arith, l, n, e)

  left : length x.spares.items ≡ length (slice_index_or cast i []) - (spares_taken (rules_of c) v.now.log i + 1)
  left = sym (length-map x.spares.items content_of) ∙ (ap length holds.spares ∙ length-drop (spares_taken (rules_of c) v.now.log i + 1) (slice_index_or cast i []))

  on : enabled old.agenda.plan v step ≡ true
  on = let t = tells.5 first v m in t.0

  led : RunReaches old.agenda.plan first (progress_after old.agenda.plan v step give)
  led = laws.next old.agenda.plan first v step give m.limits m.reached on

  enough : values.spares (rules_of c) d (acts_shown acts) ≤ length x.spares.items
  enough =
      let taken = laws.taken (rules_of c) old.agenda.plan first v step give i m.limits m.reached on in
      let few = laws.spares (rules_of c) old.agenda.plan first (progress_after old.agenda.plan v step give) i m.limits led in
      let given = spares i within in
      let e = ap (values.spares (rules_of c) d) asked in
      let n = left in
      omega (arith, taken, few, given, e, n)

  pub fits_held : (saved : Bool) → give.able ≡ saved
      → fits_all (record { up = is_some x.present; tentative = is_some x.depot.tentative; saved = saved; spares = length x.spares.items }) acts ≡ true
  fits_held saved able = acts_fit c d (is_some x.present) (is_some x.depot.tentative) saved (length x.spares.items) acts
      (sym (mapped content_of x.present) ∙ (ap is_some holds.holds.object ∙ mapped (content c.kind) d.object))
      (saved_there _ x.depot.tentative holds.holds.tentative ∙ mapped (content c.kind) d.tentative)
      (ap (can_all (rules_of c) d) asked ∙ laws.can (rules_of c) old.agenda.plan first v step give i m.limits m.reached on)
      (ap (λ (b : Bool). keeps_only_first b (acts_shown acts)) (sym able) ∙ (ap (keeps_only_first give.able) asked ∙ laws.keeps old.agenda.plan first v step give i m.limits m.reached on))
      enough

  pub rejected_held : (may_reject : DynBox X Global D → List ℕ → Type 0)
      → ((h : Holding) → Holds h (option_map content_of x.present) x.depot → IsRejected may_reject (held_objects x.present x.spares.items) h acts)
      → MayReject may_reject c.kind (slice_index_or (objects_held helds) i [])
  rejected_held may_reject f =
      subst (λ (objects : List (DynBox X Global D)). MayReject may_reject c.kind objects) (sym (at_place helds i x at))
      (kind_rejected c may_reject (held_objects x.present x.spares.items) d acts (f (holding_of c.kind d) holds.holds))

  -- an act of the step that can't be done
  pub act_refused : (may_reject : DynBox X Global D → List ℕ → Type 0) (saved : Bool) (fault : ActFault) (j p : ℕ) → give.able ≡ saved → j ≡ i
      → (fault ≡ act.Unfit → fits_all (record { up = is_some x.present; tentative = is_some x.depot.tentative; saved = saved; spares = length x.spares.items }) acts ≡ false)
      → (fault ≡ act.Form → (h : Holding) → Holds h (option_map content_of x.present) x.depot → IsRejected may_reject (held_objects x.present x.spares.items) h acts)
      → of_act j fault ≡ Object p → MayReject may_reject (first_of (slice_index_or cast p [])).kind (slice_index_or (objects_held helds) p [])
  act_refused may_reject saved fault j p able same unfit form e = go (faulted fault j p e)
    where
      go : (j ≡ p) × ((fault ≡ act.Unfit) ⊎ (fault ≡ act.Form)) → MayReject may_reject (first_of (slice_index_or cast p [])).kind (slice_index_or (objects_held helds) p [])
      go (q, inl u) = absurd (true≢ _ (fits_held saved able) (unfit u))
      go (q, inr f) = subst (λ (n : ℕ). MayReject may_reject (first_of (slice_index_or cast n [])).kind (slice_index_or (objects_held helds) n [])) (sym same ∙ q) (rejected_held may_reject (form f))

-- objects that reject no more
module _ {A : Type 0} (may_reject : A → List ℕ → Type 0) where
  pub rejected_of : (kind p : ℕ) (old new : List (List A)) → RejectNoMore may_reject old new → MayReject may_reject kind (slice_index_or new p [])
      → MayReject may_reject kind (slice_index_or old p [])
  rejected_of kind p old new no_more x = record { value = x.value; saved = x.saved; is = x.is; rejected = no_more p x.saved x.rejected }

  pub no_more_then : (old mid new : List (List A)) → RejectNoMore may_reject old mid → RejectNoMore may_reject mid new → RejectNoMore may_reject old new
  no_more_then old mid new a b = λ p saved any. a p saved (b p saved any)

-- what the first process holds, and the others
module _ {A : Type 0} (may_reject : A → List ℕ → Type 0) where
  no_more_first : (x y : List A) (rows : List (List A)) → ((saved : List ℕ) → Any (λ object. may_reject object saved) y → Any (λ object. may_reject object saved) x)
      → (p : ℕ) (saved : List ℕ) → Any (λ object. may_reject object saved) (slice_index_or (y ∷ rows) p []) → Any (λ object. may_reject object saved) (slice_index_or (x ∷ rows) p [])
  no_more_first x y rows f zero saved any = f saved any
  no_more_first x y rows f (suc p) saved any = any

  no_more_rest : (x : List A) (old new : List (List A)) → RejectNoMore may_reject old new
      → (p : ℕ) (saved : List ℕ) → Any (λ object. may_reject object saved) (slice_index_or (x ∷ new) p []) → Any (λ object. may_reject object saved) (slice_index_or (x ∷ old) p [])
  no_more_rest x old new f zero saved any = any
  no_more_rest x old new f (suc p) saved any = f p saved any

-- one process's
pub no_more_set : {X : Type 0} {D : X → Type 0} (may_reject : DynBox X Global D → List ℕ → Type 0) (helds : List (Held X D)) (i : ℕ) (x y : Held X D) → slice_get helds i ≡ Some x
    → ((saved : List ℕ) → Any (λ object. may_reject object saved) (held_objects y.present y.spares.items) → Any (λ object. may_reject object saved) (held_objects x.present x.spares.items))
    → RejectNoMore may_reject (objects_held helds) (objects_held (set helds i y))
no_more_set may_reject [] i x y e f = absurd (cc (e))
no_more_set {X} {D} may_reject (h ∷ helds) zero x y e f =
    let s : x ≡ h = cc (e) in
    no_more_first may_reject (held_objects h.present h.spares.items) (held_objects y.present y.spares.items) (objects_held helds)
    (λ saved any. subst (λ (z : Held X D). Any (λ object. may_reject object saved) (held_objects z.present z.spares.items)) s (f saved any))
no_more_set may_reject (h ∷ helds) (suc i) x y e f =
    no_more_rest may_reject (held_objects h.present h.spares.items) (objects_held helds) (objects_held (set helds i y)) (no_more_set may_reject helds i x y e f)

-- at first each process holds the objects that it is given
module _ {R X : Type 0} {D : X → Type 0} (items : R → List (DynBox X Global D)) where
  given_held : (o : Option (DynBox X Global D)) (all spares : List (DynBox X Global D)) → IsSome o → IfSome o (λ b. all ≡ b ∷ spares) → held_objects o spares ≡ all
  given_held None all spares there e = absurd (cc (there))
  given_held (Some b) all spares there e = sym e

  pub all_given : (cast : List R) (helds : List (Held X D)) → AllZip (λ row h. IfSome h.present (λ b. items row ≡ b ∷ h.spares.items)) cast helds → All (λ h. IsSome h.present) helds
      → objects_held helds ≡ map items cast
  all_given [] [] given there = refl
  all_given [] (h ∷ helds) given there = absurd given
  all_given (row ∷ cast) [] given there = absurd given
  all_given (row ∷ cast) (h ∷ helds) given there =
      ap (λ (l : List (DynBox X Global D)). l ∷ objects_held helds) (given_held h.present (items row) h.spares.items (All-head (λ h. IsSome h.present) h helds there) given.0)
      ∙ ap (λ (ls : List (List (DynBox X Global D))). items row ∷ ls) (all_given cast helds given.1 (All-tail (λ h. IsSome h.present) h helds there))

-- the kind of the objects that a process is given, and their number
module _ {R B : Type 0} (items : R → List B) (kind_of : B → ℕ) (content_of : B → Content) (kinds : (b : B) → (content_of b).kind ≡ kind_of b) where
  sized : (cast : List R) (p : ℕ) → length (slice_index_or (map (λ row. map content_of (items row)) cast) p []) ≡ length (slice_index_or (map (λ row. map kind_of (items row)) cast) p [])
  sized [] p = refl
  sized (row ∷ cast) zero = length-map (items row) content_of ∙ sym (length-map (items row) kind_of)
  sized (row ∷ cast) (suc p) = sized cast p

  pub have_spares : (plan : Planned) (cast : List R) → IsCast plan (map (λ row. map kind_of (items row)) cast) → HaveSpares plan (map (λ row. map content_of (items row)) cast)
  have_spares plan cast is p l = sized cast p
      ∙ is.sizes.objects p (let n = length-map cast (λ row. map content_of (items row)) in let m = length-map cast (λ row. map kind_of (items row)) in let e = is.sizes.processes in omega (arith, l, n, m, e))

  first_kind : (row : List B) (k : ℕ) → 0 < length (map kind_of row) → All (λ (kind : ℕ). kind ≡ k) (map kind_of row) → (first_of (map content_of row)).kind ≡ k
  first_kind [] k l all = absurd (omega (arith, l))
  first_kind (b ∷ row) k l all = kinds b ∙ All-head (λ (kind : ℕ). kind ≡ k) (kind_of b) (map kind_of row) all

  at_row : (k : ℕ) (cast : List R) (p : ℕ) → 0 < length (slice_index_or (map (λ row. map kind_of (items row)) cast) p []) → All (λ (kind : ℕ). kind ≡ k) (slice_index_or (map (λ row. map kind_of (items row)) cast) p [])
      → (first_of (slice_index_or (map (λ row. map content_of (items row)) cast) p [])).kind ≡ k
  at_row k [] p l all = absurd (omega (arith, l))
  at_row k (row ∷ cast) zero l all = first_kind (items row) k l all
  at_row k (row ∷ cast) (suc p) l all = at_row k cast p l all

  past : (cast : List R) (p : ℕ) → length cast ≤ p → slice_index_or (map items cast) p [] ≡ []
  past [] p l = refl
  past (row ∷ cast) zero l = absurd (omega (arith, l))
  past (row ∷ cast) (suc p) l = past cast p (omega (arith, l))

  pub kinds_of : (plan : Planned) (cast : List R) → IsCast plan (map (λ row. map kind_of (items row)) cast) → (p : ℕ) → slice_index_or (map items cast) p [] ≢ []
      → (first_of (slice_index_or (map (λ row. map content_of (items row)) cast) p [])).kind ≡ slice_index plan.kinds p
  kinds_of plan cast is p some = at_row (slice_index plan.kinds p) cast p (let n = is.sizes.objects p inside in omega (arith, n)) (is.kinds p inside)
    where
      inside : p < length plan.kinds
      inside = by_order (cases_lt p (length cast))
        where
          by_order : (p < length cast) ⊎ (length cast ≤ p) → p < length plan.kinds
          by_order (inl l) = let n = length-map cast (λ row. map kind_of (items row)) in let m = is.sizes.processes in omega (arith, l, n, m)
          by_order (inr l) = absurd (some (past cast p l))

  none_rejects : (P : B → Type 0) (objects : List B) → Any P objects → objects ≢ []
  none_rejects P objects any e = let n = (subst (Any P) e any).2 in omega (arith, n)

  pub of_plan : (may_reject : B → List ℕ → Type 0) (plan : Planned) (cast : List R) (p : ℕ) → IsCast plan (map (λ row. map kind_of (items row)) cast)
      → MayReject may_reject (first_of (slice_index_or (map (λ row. map content_of (items row)) cast) p [])).kind (slice_index_or (map items cast) p [])
      → MayReject may_reject (slice_index plan.kinds p) (slice_index_or (map items cast) p [])
  of_plan may_reject plan cast p is x = record {
    value = x.value;
    saved = x.saved;
    is = subst (λ (k : ℕ). IsSavedState k x.value x.saved) (kinds_of plan cast is p (none_rejects (λ b. may_reject b x.saved) _ x.rejected)) x.is;
    rejected = x.rejected;
  }
