-- What processes have before and after their steps.
use Rattle.std.specs.Prelude.{◌≡◌, ℕ, List, [], ◌∷◌, Some, None, drop, is_some, option_map, IfSome}
use Rattle.std.specs.List.{Any}
use Rattle.std.specs.declared.alloc.Global.{Global}
use Rattle.std.specs.declared.dyn_box.DynBox.{DynBox}
use Rattle.kt_object.specs.Value.{offered}
use Rattle.kt_object.specs.Fits.{spares_of_all}
use Rattle.kt_object.specs.Holdings.{Content, Holding, Holds, does_all}
use Rattle.kt_object.specs.Refusals.{held_objects}
use Rattle.kt_run.specs.Objects.{Belongings, belongings_of, AreLeft}
use Rattle.kt_run.specs.Rejections.{MayReject}
use Rattle.kt_threads.specs.declared.worker.Worker.{Worker}
use Rattle.kt_threads.specs.declared.asked.Errand.{Errand}
use Rattle.kt_threads.specs.declared.faults.LiveFault.TheVariants.{Object}

-- if all acts could be done: where of these objects all but the first ones were left as a process's spares, so they are later
abbrev pub KeepsSpares : {J X : Type 0} {D : X → Type 0} → Worker J X D → Worker J X D → Type 0
KeepsSpares {J} {X} {D} old new = (all : List (DynBox X Global D)) → (old.fault ≡ None → AreLeft all old.held.spares.items)
    → new.fault ≡ None → AreLeft all new.held.spares.items

-- the contents of what is held are of one kind
pub record IsOfKind (kind : ℕ) (h : Holding) : Type 0 where
  pub object : IfSome h.object (λ c. c.kind ≡ kind)
  pub permanent : h.permanent.kind ≡ kind
  pub tentative : IfSome h.tentative (λ c. c.kind ≡ kind)

-- a process that was given these objects of one kind has none that rejects more than they do; and where its thread ended by
-- an object's fault, one of them may reject a saved state of their kind
pub record HasOf {J X : Type 0} {D : X → Type 0} (content_of : DynBox X Global D → Content)
    (may_reject : DynBox X Global D → List ℕ → Type 0) (kind : ℕ) (objects : List (DynBox X Global D)) (worker : Worker J X D) : Type 0 where
  pub holds : (h : Holding) × Holds h (option_map content_of worker.held.present) worker.held.depot × IsOfKind kind h
  pub rejects : (saved : List ℕ) → Any (λ b. may_reject b saved) (held_objects worker.held.present worker.held.spares.items)
      → Any (λ b. may_reject b saved) objects
  pub fault : (p : ℕ) → worker.fault ≡ Some (Object p) → MayReject may_reject kind objects

-- where it was so before, it is so later
abbrev pub KeepsObjects : {J X : Type 0} {D : X → Type 0} → Worker J X D → Worker J X D → (DynBox X Global D → Content)
    → (DynBox X Global D → List ℕ → Type 0) → Type 0
KeepsObjects {J} {X} {D} old new content_of may_reject = (kind : ℕ) (objects : List (DynBox X Global D))
    → HasOf content_of may_reject kind objects old → HasOf content_of may_reject kind objects new

-- the acts that a step told were done to what its process had; and where it was asked for a body, the object, if it was
-- up, offered this one before that
pub record IsServed (old : Belongings) (errand : Errand) (new : Belongings) : Type 0 where
  pub does : (h : Holding) → Holds h old.present old.depot → Holds (does_all h errand.acts) new.present new.depot
  pub spares : new.spares ≡ drop (spares_of_all (is_some old.present) errand.acts) old.spares
  pub offers : IfSome errand.offered (λ body. IfSome old.present (λ c. body ≡ offered c.kind c.value))

-- so it was with all that some steps asked, in order
abbrev pub AreServed : Belongings → List Errand → Belongings → Type 0
AreServed old [] new = new ≡ old
AreServed old (errand ∷ errands) new = (between : Belongings) × IsServed old errand between × AreServed between errands new

-- so it was with all that a thread's steps asked, if all acts could be done, since its process had these belongings
abbrev pub HasServed : {J X : Type 0} {D : X → Type 0} → (DynBox X Global D → Content) → Belongings → Worker J X D → Type 0
HasServed content_of first worker =
    worker.fault ≡ None → AreServed first worker.done.errands (belongings_of content_of worker.held)

-- where it was so before, it is so later; of the spares all but the first ones are left, if all acts could be done; and no
-- object rejects more
abbrev pub KeepsServing : {J X : Type 0} {D : X → Type 0} → Worker J X D → Worker J X D → (DynBox X Global D → Content)
    → (DynBox X Global D → List ℕ → Type 0) → Type 0
KeepsServing old new content_of may_reject = ((first : Belongings) → HasServed content_of first old → HasServed content_of first new)
    × KeepsSpares old new × KeepsObjects old new content_of may_reject

-- so it was with each process
abbrev pub AllServed : List Belongings → List (List Errand) → List Belongings → Type 0
AllServed [] [] [] = Unit {0}
AllServed (old ∷ olds) (errands ∷ lists) (new ∷ news) = AreServed old errands new × AllServed olds lists news
AllServed [] [] (new ∷ news) = ⊥
AllServed [] (errands ∷ lists) news = ⊥
AllServed (old ∷ olds) [] news = ⊥
AllServed (old ∷ olds) (errands ∷ lists) [] = ⊥
