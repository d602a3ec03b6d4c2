-- A step's acts, done on what a process has, keep what it holds what is due to it.
use Rattle.std.proofs.Common.{◌≡◌, ◌≢◌, ◌⊎◌, inl, inr, ◌∙◌, ◌+◌, arith, ℕ, zero, suc, ℤ, Bool, List, [], ◌∷◌, ◌++◌, length, drop, map, set, refl, sym, ap, subst, Option, Some, None, IfSome, All}
use Rattle.std.specs.Prelude.{IsSome, is_some, is_none, slice_get, slice_index_or, option_map, unwrap_or, if◌then◌else◌}
use Rattle.std.proofs.lemmas.Option.{slice_get-map}
use Rattle.std.proofs.lemmas.List.{drop-map}
use Rattle.std.proofs.lemmas.List.Elements.{All-head, All-tail}
use Rattle.std.specs.List.{AllZip}
use Rattle.std.specs.declared.alloc.Global.{Global}
use Rattle.std.specs.declared.dyn_box.DynBox.{DynBox}
use Rattle.kt_object.specs.declared.held.Held.{Held}
use Rattle.kt_object.specs.SavedStates.{SavedStates}
use Rattle.kt_object.specs.Holdings.{Content, content, Holding, Holds, first_holding, applied}
use Rattle.kt_object.specs.Holdings as held
use Rattle.kt_object.specs.Fits.{spares_of, spares_of_all, is_up_after}
use Rattle.kt_plan.specs.declared.steps.Act.{Act}
use Rattle.kt_plan.specs.declared.steps.Act.TheVariants as answered
use Rattle.kt_spacetime.specs.declared.event.Event.{Event}
use Rattle.kt_manager.specs.ShownActs.{act_shown, acts_shown}
use Rattle.kt_machine.specs.Done.{done}
use Rattle.kt_machine.specs.Values as values
use Rattle.kt_machine.specs.Values.{Rules, Due, due, first_due, acts_along}
use Rattle.kt_run.specs.Objects.{Belongings, belongings_of, has_of, rules_of, first_of, rules_by, holding_of, spares_taken, HoldsDue, HoldDue, IsDone}

none_more : (n : ℕ) → n ≡ 0 + n
none_more n = omega arith

-- one act does the same to what is due and to what holds it
module _ (first : Content) where
  abbrev r : Rules (List ℤ)
  r = rules_of first

  abbrev k : ℕ
  k = first.kind

  applied_same : (o : Option (List ℤ)) (from : ℕ) (body : ℤ) →
      option_map (applied from body) (option_map (content k) o) ≡ option_map (content k) (option_map (λ v. r.after v from body) o)
  applied_same None from body = refl
  applied_same (Some v) from body = refl

  promoted_same : (o : Option (List ℤ)) (v : List ℤ) → unwrap_or (option_map (content k) o) (content k v) ≡ content k (unwrap_or o v)
  promoted_same None v = refl
  promoted_same (Some w) v = refl

  does_same : (d : Due (List ℤ)) (act : Act) → held.does (holding_of k d) act ≡ holding_of k (values.does_all r d (act_shown act))
  does_same d answered.Nothing = refl
  does_same d (answered.Apply from body) = ap (λ (o : Option Content). record (holding_of k d) { object = o }) (applied_same d.object from body)
  does_same d answered.Keep = refl
  does_same d answered.Promote = ap (λ (c : Content). record { object = option_map (content k) d.object; permanent = c; tentative = None }) (promoted_same d.tentative d.permanent)
  does_same d answered.Discard = refl
  does_same d answered.Restore = refl
  does_same d answered.Drop = refl

  does_more : (d : Due (List ℤ)) (a b : List values.Act) → values.does_all r d (a ++ b) ≡ values.does_all r (values.does_all r d a) b
  does_more d [] b = refl
  does_more d (x ∷ a) b = does_more (values.does r d x) a b

  pub all_same : (d : Due (List ℤ)) (acts : List Act) → held.does_all (holding_of k d) acts ≡ holding_of k (values.does_all r d (acts_shown acts))
  all_same d [] = refl
  all_same d (a ∷ acts) =
      ap (λ (h : Holding). held.does_all h acts) (does_same d a)
      ∙ (all_same (values.does_all r d (act_shown a)) acts
      ∙ ap (holding_of k) (sym (does_more d (act_shown a) (acts_shown acts))))

  -- and it takes as many spares
  is_up : (o : Option (List ℤ)) → is_some (option_map (content k) o) ≡ is_some o
  is_up None = refl
  is_up (Some v) = refl

  up_same : (d : Due (List ℤ)) (act : Act) → is_up_after (is_some d.object) act ≡ is_some (values.does_all r d (act_shown act)).object
  up_same d answered.Nothing = refl
  up_same d (answered.Apply from body) = go d.object
    where
      go : (o : Option (List ℤ)) → is_some o ≡ is_some (option_map (λ v. r.after v from body) o)
      go None = refl
      go (Some v) = refl
  up_same d answered.Keep = refl
  up_same d answered.Promote = refl
  up_same d answered.Discard = refl
  up_same d answered.Restore = refl
  up_same d answered.Drop = refl

  spares_more : (d : Due (List ℤ)) (a : Act) (b : List values.Act) →
      values.spares r d (act_shown a ++ b) ≡ spares_of (is_some d.object) a + values.spares r (values.does_all r d (act_shown a)) b
  spares_more d answered.Nothing b = none_more (values.spares r d b)
  spares_more d (answered.Apply from body) b = none_more (values.spares r (values.does r d (values.Apply from body)) b)
  spares_more d answered.Keep b = none_more (values.spares r (values.does r d values.Keep) b)
  spares_more d answered.Promote b = none_more (values.spares r (values.does r d values.Promote) b)
  spares_more d answered.Discard b = none_more (values.spares r (values.does r d values.Discard) b)
  spares_more d answered.Restore b = ap (λ (n : ℕ). n + values.spares r (values.does r d values.Restore) b) (go d.object)
    where
      go : (o : Option (List ℤ)) → (if is_none o then 1 else 0) ≡ spares_of (is_some o) answered.Restore
      go None = refl
      go (Some v) = refl
  spares_more d answered.Drop b = none_more (values.spares r (values.does r d values.Drop) b)

  spares_same : (d : Due (List ℤ)) (acts : List Act) → spares_of_all (is_some d.object) acts ≡ values.spares r d (acts_shown acts)
  spares_same d [] = refl
  spares_same d (a ∷ acts) =
      ap (λ (up : Bool). spares_of (is_some d.object) a + spares_of_all up acts) (up_same d a)
      ∙ (ap (λ (n : ℕ). spares_of (is_some d.object) a + n) (spares_same (values.does_all r d (act_shown a)) acts)
      ∙ sym (spares_more d a (acts_shown acts)))

  pub taken_same : (d : Due (List ℤ)) (o : Option Content) (acts : List Act) → o ≡ option_map (content k) d.object
      → spares_of_all (is_some o) acts ≡ values.spares r d (acts_shown acts)
  taken_same d o acts e = ap (λ (up : Bool). spares_of_all up acts) (ap is_some e ∙ is_up d.object) ∙ spares_same d acts

drop_more : {A : Type 0} (m n : ℕ) (xs : List A) → drop n (drop m xs) ≡ drop (m + n) xs
drop_more zero n xs = ap (λ (k : ℕ). drop k xs) (none_more n)
drop_more {A} (suc m) n [] = none_left n ∙ sym (none_left (suc m + n))
  where
    none_left : (j : ℕ) → ◌≡◌ {A = List A} (drop j []) []
    none_left zero = refl
    none_left (suc j) = refl
drop_more (suc m) n (x ∷ xs) = drop_more m n xs ∙ ap (λ (k : ℕ). drop k (x ∷ xs)) (let e : suc (m + n) ≡ suc m + n = omega arith in e)

-- what is done to real objects is done to what the process has
there_same : {A B : Type 0} (g : A → B) (o : Option A) → is_some o ≡ is_some (option_map g o)
there_same g None = refl
there_same g (Some x) = refl

pub done_by : {A : Type 0} (g : A → Content) (acts : List Act) (object object' : Option A) (left left' : List A) (depot depot' : SavedStates)
    → ((h : Holding) → Holds h (option_map g object) depot → Holds (held.does_all h acts) (option_map g object') depot')
    → left' ≡ drop (spares_of_all (is_some object) acts) left
    → IsDone acts (record { present = option_map g object; spares = map g left; depot = depot }) (record { present = option_map g object'; spares = map g left'; depot = depot' })
done_by g acts object object' left left' depot depot' does e = record {
  does = does;
  spares = ap (map g) e ∙ (sym (drop-map g (spares_of_all (is_some object) acts) left) ∙ ap (λ (up : Bool). drop (spares_of_all up acts) (map g left)) (there_same g object));
}

-- acts that lead from what is due after one log to what is due after another one, and the spares that they take
pub record AreAlong (rules : Rules (List ℤ)) (p : ℕ) (acts : List values.Act) (log log' : List Event) : Type 0 where
  pub lead : values.does_all rules (due rules (done log) p) acts ≡ due rules (done log') p
  pub spares : spares_taken rules log' p ≡ spares_taken rules log p + values.spares rules (due rules (done log) p) acts

pub holds_next : (objects : List Content) (p : ℕ) (acts : List Act) (log log' : List Event) (old new : Belongings)
    → AreAlong (rules_of (first_of objects)) p (acts_shown acts) log log' → IsDone acts old new → HoldsDue objects log p old → HoldsDue objects log' p new
holds_next objects p acts log log' old new along is h =
    let c = first_of objects in
    let d = due (rules_of c) (done log) p in
    record {
      holds = subst (λ (x : Holding). Holds x new.present new.depot)
          (all_same c d acts ∙ ap (holding_of c.kind) along.lead) (is.does (holding_of c.kind d) h.holds);
      spares = is.spares
          ∙ (ap (λ (n : ℕ). drop n old.spares) (taken_same c d old.present acts h.holds.object)
          ∙ (ap (drop (values.spares (rules_of c) d (acts_shown acts))) h.spares
          ∙ (drop_more (spares_taken (rules_of c) log p + 1) (values.spares (rules_of c) d (acts_shown acts)) objects
          ∙ ap (λ (n : ℕ). drop n objects) (let e = along.spares in let n : spares_taken (rules_of c) log p + 1 + values.spares (rules_of c) d (acts_shown acts) ≡ spares_taken (rules_of c) log' p + 1 = omega (arith, e) in n))));
    }

-- no acts
nothing_along : (rules : Rules (List ℤ)) (p : ℕ) (log log' : List Event) → AreAlong rules p [] log log' → (due rules (done log) p ≡ due rules (done log') p) × (spares_taken rules log' p ≡ spares_taken rules log p)
nothing_along rules p log log' a = (a.lead, let e = a.spares in omega (arith, e))

pub holds_still : (objects : List Content) (p : ℕ) (log log' : List Event) (b : Belongings)
    → AreAlong (rules_of (first_of objects)) p [] log log' → HoldsDue objects log p b → HoldsDue objects log' p b
holds_still objects p log log' b along h =
    let c = first_of objects in
    let n = nothing_along (rules_of c) p log log' along in
    record {
      holds = subst (λ (d : Due (List ℤ)). Holds (holding_of c.kind d) b.present b.depot) n.0 h.holds;
      spares = h.spares ∙ ap (λ (t : ℕ). drop (t + 1) objects) (sym n.1);
    }

-- one of all has changed
pub changed : {X : Type 0} (f : X → Belongings) (xs : List X) (i : ℕ) (y : X) (p : ℕ) (b : Belongings) → slice_get (map f (set xs i y)) p ≡ Some b
    → ((p ≡ i) × (b ≡ f y)) ⊎ ((p ≢ i) × (slice_get (map f xs) p ≡ Some b))
changed f [] i y p b e = absurd (cc (e))
changed f (x ∷ xs) zero y zero b e = inl (refl, cc (e))
changed f (x ∷ xs) zero y (suc p) b e = inr (λ q. (omega (arith, q)), e)
changed f (x ∷ xs) (suc i) y zero b e = inr (λ q. (omega (arith, q)), e)
changed f (x ∷ xs) (suc i) y (suc p) b e = further (changed f xs i y p b e)
  where
    further : ((p ≡ i) × (b ≡ f y)) ⊎ ((p ≢ i) × (slice_get (map f xs) p ≡ Some b)) → ((suc p ≡ suc i) × (b ≡ f y)) ⊎ ((suc p ≢ suc i) × (slice_get (map f xs) p ≡ Some b))
    further (inl (q, h)) = inl (ap suc q, h)
    further (inr (n, h)) = inr ((λ q. n (omega (arith, q))), h)

pub as_many : {X : Type 0} (f : X → Belongings) (xs : List X) (i : ℕ) (y : X) → length (map f (set xs i y)) ≡ length (map f xs)
as_many f [] i y = refl
as_many f (x ∷ xs) zero y = refl
as_many f (x ∷ xs) (suc i) y = ap suc (as_many f xs i y)

-- a step's acts are done by its process, and all hold what is due to them again
pub hold_next : {X : Type 0} (f : X → Belongings) (xs : List X) (cast : List (List Content)) (i : ℕ) (x y : X) (acts : List Act) (log log' : List Event)
    → slice_get xs i ≡ Some x → IsDone acts (f x) (f y)
    → AreAlong (rules_by cast i) i (acts_shown acts) log log'
    → ((p : ℕ) → p ≢ i → AreAlong (rules_by cast p) p [] log log')
    → HoldDue cast log (map f xs) → HoldDue cast log' (map f (set xs i y))
hold_next {X} f xs cast i x y acts log log' at is along others h = record {
  count = as_many f xs i y ∙ h.count;
  each = λ p b e. go p b (changed f xs i y p b e);
}
  where
    go : (p : ℕ) (b : Belongings) → ((p ≡ i) × (b ≡ f y)) ⊎ ((p ≢ i) × (slice_get (map f xs) p ≡ Some b)) → HoldsDue (slice_index_or cast p []) log' p b
    go p b (inl (q, e)) = subst (λ (j : ℕ). HoldsDue (slice_index_or cast j []) log' j b) (sym q) (subst (λ (c : Belongings). HoldsDue (slice_index_or cast i []) log' i c) (sym e)
        (holds_next (slice_index_or cast i []) i acts log log' (f x) (f y) along is (h.each i (f x) (slice_get-map f xs i ∙ ap (option_map f) at))))
    go p b (inr (n, e)) = holds_still (slice_index_or cast p []) p log log' b (others p n) (h.each p b e)

-- at first a process holds what is due to it of the objects that it is given
first_holds : (objects : List Content) (c : Content) (spares : List Content) (depot : SavedStates) (q : ℕ) → objects ≡ c ∷ spares
    → Holds (first_holding c) (Some c) depot → HoldsDue objects [] q (record { present = Some c; spares = spares; depot = depot })
first_holds objects c spares depot q e h =
    subst (λ (l : List Content). HoldsDue l [] q (record { present = Some c; spares = spares; depot = depot })) (sym e)
    (record { holds = record { object = h.object; permanent = h.permanent; tentative = h.tentative }; spares = refl })

module _ {R X : Type 0} {D : X → Type 0} (items : R → List (DynBox X Global D)) (content_of : DynBox X Global D → Content) where
  abbrev Given : R → Held X D → Type 0
  Given row h = IfSome h.present (λ b. items row ≡ b ∷ h.spares.items)

  abbrev Saved : Held X D → Type 0
  Saved h = IsSome h.present × IfSome h.present (λ b. Holds (first_holding (content_of b)) (Some (content_of b)) h.depot)

  one_first : (row : R) (h : Held X D) (q : ℕ) (o : Option (DynBox X Global D)) → h.present ≡ o → IfSome o (λ b. items row ≡ b ∷ h.spares.items)
      → IsSome o × IfSome o (λ b. Holds (first_holding (content_of b)) (Some (content_of b)) h.depot)
      → HoldsDue (map content_of (items row)) [] q (belongings_of content_of h)
  one_first row h q None e given saved = absurd (let f = saved.0 in cc (f))
  one_first row h q (Some b) e given saved =
      subst (λ (o : Option (DynBox X Global D)). HoldsDue (map content_of (items row)) [] q (record { present = option_map content_of o; spares = map content_of h.spares.items; depot = h.depot })) (sym e)
      (first_holds (map content_of (items row)) (content_of b) (map content_of h.spares.items) h.depot q (ap (map content_of) given) saved.1)

  each_first : (cast : List R) (helds : List (Held X D)) → AllZip Given cast helds → All Saved helds → (p q : ℕ) (b : Belongings) → slice_get (has_of helds content_of) p ≡ Some b
      → HoldsDue (slice_index_or (map (λ row. map content_of (items row)) cast) p []) [] q b
  each_first [] [] given saved p q b e = absurd (cc (e))
  each_first [] (h ∷ helds) given saved p q b e = absurd given
  each_first (row ∷ cast) [] given saved p q b e = absurd given
  each_first (row ∷ cast) (h ∷ helds) given saved zero q b e =
      let f : belongings_of content_of h ≡ b = cc (e) in
      subst (λ (x : Belongings). HoldsDue (map content_of (items row)) [] q x) f (one_first row h q h.present refl given.0 (All-head Saved h helds saved))
  each_first (row ∷ cast) (h ∷ helds) given saved (suc p) q b e = each_first cast helds given.1 (All-tail Saved h helds saved) p q b e

  pub as_many_given : (cast : List R) (helds : List (Held X D)) → AllZip Given cast helds → length cast ≡ length helds
  as_many_given [] [] given = refl
  as_many_given [] (h ∷ helds) given = absurd given
  as_many_given (row ∷ cast) [] given = absurd given
  as_many_given (row ∷ cast) (h ∷ helds) given = ap suc (as_many_given cast helds given.1)

  as_given : (cast : List R) (helds : List (Held X D)) → AllZip Given cast helds → length (has_of helds content_of) ≡ length (map (λ row. map content_of (items row)) cast)
  as_given [] [] given = refl
  as_given [] (h ∷ helds) given = absurd given
  as_given (row ∷ cast) [] given = absurd given
  as_given (row ∷ cast) (h ∷ helds) given = ap suc (as_given cast helds given.1)

  pub hold_first : (cast : List R) (helds : List (Held X D)) → AllZip Given cast helds → All Saved helds → HoldDue (map (λ row. map content_of (items row)) cast) [] (has_of helds content_of)
  hold_first cast helds given saved = record { count = as_given cast helds given; each = λ p b e. each_first cast helds given saved p p b e }
