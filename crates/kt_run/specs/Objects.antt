-- What the processes of a run hold: what is due to them.
use Rattle.std.specs.Prelude.{◌≡◌, ◌+◌, ℕ, ℤ, Option, Some, is_some, option_map, List, [], ◌∷◌, drop, length, map, slice_get, slice_index_or}
use Rattle.std.specs.declared.alloc.Global.{Global}
use Rattle.std.specs.declared.dyn_box.DynBox.{DynBox}
use Rattle.kt_object.specs.SavedStates.{SavedStates}
use Rattle.kt_object.specs.Value.{after, offered}
use Rattle.kt_object.specs.Fits.{spares_of_all}
use Rattle.kt_object.specs.Holdings.{Content, content, Holding, Holds, does_all}
use Rattle.kt_object.specs.declared.held.Held.{Held}
use Rattle.kt_plan.specs.declared.steps.Act.{Act}
use Rattle.kt_spacetime.specs.declared.event.Event.{Event}
use Rattle.kt_machine.specs.Done.{done, done_start}
use Rattle.kt_machine.specs.Values as values
use Rattle.kt_machine.specs.Values.{Rules, Due, due, first_due, acts_along}

-- what a process has: the contents of its object, where it is up, and of its spares, and its saved states
pub record Belongings : Type 0 where
  pub present : Option Content
  pub spares : List Content
  pub depot : SavedStates

-- acts are done to what a process has
pub record IsDone (acts : List Act) (old new : Belongings) : Type 0 where
  pub does : (h : Holding) → Holds h old.present old.depot → Holds (does_all h acts) new.present new.depot
  pub spares : new.spares ≡ drop (spares_of_all (is_some old.present) acts) old.spares

-- of what is held, by the contents of objects
abbrev pub belongings_of : {X : Type 0} {D : X → Type 0} → (DynBox X Global D → Content) → Held X D → Belongings
belongings_of content_of h =
    record { present = option_map content_of h.present; spares = map content_of h.spares.items; depot = h.depot }

-- what each process has
abbrev pub has_of : {X : Type 0} {D : X → Type 0} → List (Held X D) → (DynBox X Global D → Content) → List Belongings
has_of helds content_of = map (belongings_of content_of) helds

-- objects of this kind, of which the first one has this value
abbrev pub rules_of : Content → Rules (List ℤ)
rules_of first = record { opening = first.value; after = after first.kind; offered = offered first.kind }

-- the first of the objects that a process is given; it is given one
abbrev pub first_of : List Content → Content
first_of [] = content 0 []
first_of (first ∷ spares) = first

-- how the objects behave that each process is given
abbrev pub rules_by : List (List Content) → ℕ → Rules (List ℤ)
rules_by cast p = rules_of (first_of (slice_index_or cast p []))

-- what is due to a process, held by objects of this kind
abbrev pub holding_of : ℕ → Due (List ℤ) → Holding
holding_of kind d = record {
  object = option_map (content kind) d.object;
  permanent = content kind d.permanent;
  tentative = option_map (content kind) d.tentative;
}

-- how many spares the acts of a log's rows take of a process
abbrev pub spares_taken : Rules (List ℤ) → List Event → ℕ → ℕ
spares_taken rules log p = values.spares rules (first_due rules) (acts_along p done_start log)

-- after a log, a process that was given these objects, the first one to be present, holds what is due to it, and of its
-- spares those that no restore has taken
pub record HoldsDue (objects : List Content) (log : List Event) (p : ℕ) (has : Belongings) : Type 0 where
  pub holds : Holds (holding_of (first_of objects).kind (due (rules_of (first_of objects)) (done log) p)) has.present has.depot
  pub spares : has.spares ≡ drop (spares_taken (rules_of (first_of objects)) log p + 1) objects

-- so does each process
pub record HoldDue (cast : List (List Content)) (log : List Event) (has : List Belongings) : Type 0 where
  pub count : length has ≡ length cast
  pub each : (p : ℕ) (b : Belongings) → slice_get has p ≡ Some b → HoldsDue (slice_index_or cast p []) log p b

-- of these, all but the first ones are left
abbrev pub AreLeft : {A : Type 0} → List A → List A → Type 0
AreLeft all left = (taken : ℕ) × (left ≡ drop taken all)
