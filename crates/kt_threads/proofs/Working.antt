-- A worker's next step, and what workers come to.
use Rattle.std.proofs.Common.{◌≡◌, ◌∙◌, ◌+◌, Bool, List, [], ◌∷◌, ◌++◌, drop, map, refl, sym, ap, subst, All, IfSome, ℕ, ℤ, suc, Option, Some, None}
use Rattle.std.specs.List.{AllZip}
use Rattle.std.specs.Prelude.{is_some, option_map, slice_get}
use Rattle.std.specs.declared.alloc.Global.{Global}
use Rattle.std.specs.declared.dyn_box.DynBox.{DynBox}
use Rattle.std.proofs.lemmas.List.{drop-drop, drop-map}
use Rattle.std.proofs.lemmas.List.Elements.{All-head, All-tail, All-cons, All-nil}
use Rattle.kt_object.specs.Value.{offered}
use Rattle.kt_object.specs.Fits.{spares_of_all}
use Rattle.kt_object.specs.Holdings.{Content, Holding, Holds, does_all}
use Rattle.kt_object.specs.declared.held.Held.{Held}
use Rattle.kt_plan.specs.declared.steps.Act.{Act}
use Rattle.kt_plan.specs.declared.steps.Look.TheVariants as look
use Rattle.kt_run.specs.Objects.{Belongings, belongings_of, has_of, AreLeft}
use Rattle.kt_threads.specs.Errands.{errand_of}
use Rattle.kt_threads.specs.Workers.{IsServed, AreServed, KeepsServing, AllServed}
use Rattle.kt_threads.specs.declared.asked.Errand.{Errand}
use Rattle.kt_threads.specs.declared.worker.Worker.{Worker}
use Rattle.kt_threads.specs.declared.state.Made.{Made}
use Rattle.kt_threads.proofs.Asking.{noted_body}
use Rattle.kt_threads.proofs.Zips.{mapped}

-- fewer are left
pub left_on : {A : Type 0} (all xs ys : List A) (n : ℕ) → ys ≡ drop n xs → AreLeft all xs → AreLeft all ys
left_on all xs ys n is l = (l.0 + n, is ∙ (ap (λ (z : List _). drop n z) l.1 ∙ drop-drop n l.0 all))

-- of what is given, and later on
pub left_then : {A H R : Type 0} (spares : H → List A) (items : R → List A) (rows : List R) (gs hs : List H) → AllZip (λ row g. AreLeft (items row) (spares g)) rows gs
    → AllZip (λ g h. AreLeft (spares g) (spares h)) gs hs → AllZip (λ row h. AreLeft (items row) (spares h)) rows hs
left_then spares items [] [] [] a b = tt
left_then spares items [] [] (h ∷ hs) a b = absurd b
left_then spares items [] (g ∷ gs) hs a b = absurd a
left_then spares items (row ∷ rows) [] hs a b = absurd a
left_then spares items (row ∷ rows) (g ∷ gs) [] a b = absurd b
left_then spares items (row ∷ rows) (g ∷ gs) (h ∷ hs) a b = (left_on (items row) (spares g) (spares h) b.0.0 b.0.1 a.0, left_then spares items rows gs hs a.1 b.1)

-- what one more step asked
served_next : (errands : List Errand) (errand : Errand) (first now new : Belongings) → IsServed now errand new → AreServed first errands now
    → AreServed first (errands ++ errand ∷ []) new
served_next [] errand first now new step same = (new, subst (λ (b : Belongings). IsServed b errand new) same step, refl)
served_next (d ∷ errands) errand first now new step s = (s.0, s.1, served_next errands errand s.0 now new step s.2)

-- what is so of an object's content
of_content : {A : Type 0} (g : A → Content) (o : Option A) (P : Content → Type 0) → IfSome o (λ b. P (g b)) → IfSome (option_map g o) P
of_content g None P h = h
of_content g (Some b) P h = h

there_same : {A B : Type 0} (g : A → B) (o : Option A) → is_some o ≡ is_some (option_map g o)
there_same g None = refl
there_same g (Some b) = refl

module _ {X : Type 0} {D : X → Type 0} (content_of : DynBox X Global D → Content) where
  pub offers_held : (offered_body : Option ℤ) (present : Option (DynBox X Global D))
      → IfSome offered_body (λ body. IfSome present (λ b. body ≡ offered (content_of b).kind (content_of b).value))
      → IfSome offered_body (λ body. IfSome (option_map content_of present) (λ c. body ≡ offered c.kind c.value))
  offers_held None present h = tt
  offers_held (Some body) present h = of_content content_of present (λ c. body ≡ offered c.kind c.value) h

  pub offers_noted : (made : Made) (errand : Errand) (present : Option (DynBox X Global D)) → errand ≡ errand_of made
      → (made.look ≡ look.NeedsBody → IfSome present (λ b. made.give.body ≡ offered (content_of b).kind (content_of b).value))
      → IfSome errand.offered (λ body. IfSome present (λ b. body ≡ offered (content_of b).kind (content_of b).value))
  offers_noted made errand present is asked =
      subst (λ (d : Errand). IfSome d.offered (λ body. IfSome present (λ b. body ≡ offered (content_of b).kind (content_of b).value))) (sym is)
      (noted_body made.look made.give.body (λ (body : ℤ). IfSome present (λ b. body ≡ offered (content_of b).kind (content_of b).value)) asked)

  pub served_on : (first : Belongings) (errands more : List Errand) (errand : Errand) (acts : List Act) (x y : Held X D)
      → more ≡ errands ++ errand ∷ [] → acts ≡ errand.acts
      → IfSome errand.offered (λ body. IfSome x.present (λ b. body ≡ offered (content_of b).kind (content_of b).value))
      → ((h : Holding) → Holds h (option_map content_of x.present) x.depot → Holds (does_all h acts) (option_map content_of y.present) y.depot)
      → y.spares.items ≡ drop (spares_of_all (is_some x.present) acts) x.spares.items
      → AreServed first errands (belongings_of content_of x) → AreServed first more (belongings_of content_of y)
  served_on first errands more errand acts x y is_more same offers does spares s =
      let served : IsServed (belongings_of content_of x) errand (belongings_of content_of y) = record {
        does = subst (λ (a : List Act). (h : Holding) → Holds h (option_map content_of x.present) x.depot → Holds (does_all h a) (option_map content_of y.present) y.depot) same does;
        spares = ap (map content_of) spares
            ∙ (sym (drop-map content_of (spares_of_all (is_some x.present) acts) x.spares.items)
            ∙ (ap (λ (up : Bool). drop (spares_of_all up acts) (map content_of x.spares.items)) (there_same content_of x.present)
            ∙ ap (λ (a : List Act). drop (spares_of_all (is_some (option_map content_of x.present)) a) (map content_of x.spares.items)) same));
        offers = offers_held errand.offered x.present offers;
      } in
      subst (λ (l : List Errand). AreServed first l (belongings_of content_of y)) (sym is_more)
      (served_next errands errand first (belongings_of content_of x) (belongings_of content_of y) served s)

-- one after the other
pub keeps_then : {J X : Type 0} {D : X → Type 0} (content_of : DynBox X Global D → Content) (may_reject : DynBox X Global D → List ℕ → Type 0) (a b c : Worker J X D)
    → KeepsServing a b content_of may_reject → KeepsServing b c content_of may_reject → KeepsServing a c content_of may_reject
keeps_then content_of may_reject a b c k m = (λ first s. m.0 first (k.0 first s), λ all s. m.1 all (k.1 all s), λ kind objects s. m.2 kind objects (k.2 kind objects s))

-- what workers that have made nothing yet come to
module _ {J X : Type 0} {D : X → Type 0} (content_of : DynBox X Global D → Content) (may_reject : DynBox X Global D → List ℕ → Type 0) where
  all_served : (ss ts : List (Worker J X D)) → All (λ s. s.done.errands ≡ []) ss → AllZip (λ s t. KeepsServing s t content_of may_reject) ss ts → All (λ t. t.fault ≡ None) ts
      → AllServed (map (λ s. belongings_of content_of s.held) ss) (map (λ t. t.done.errands) ts) (map (λ t. belongings_of content_of t.held) ts)
  all_served [] [] fresh works all = tt
  all_served [] (t ∷ ts) fresh works all = absurd works
  all_served (s ∷ ss) [] fresh works all = absurd works
  all_served (s ∷ ss) (t ∷ ts) fresh works all =
      let first = belongings_of content_of s.held in (
        works.0.0 first (λ _. subst (λ (l : List Errand). AreServed first l first) (sym (All-head (λ x. x.done.errands ≡ []) s ss fresh)) refl)
            (All-head (λ x. x.fault ≡ None) t ts all),
        all_served ss ts (All-tail (λ x. x.done.errands ≡ []) s ss fresh) works.1 (All-tail (λ x. x.fault ≡ None) t ts all),
      )

  pub all_served_of : (olds news : List (Held X D)) (lists : List (List Errand)) (ss ts : List (Worker J X D))
      → map (λ s. s.held) ss ≡ olds → news ≡ map (λ t. t.held) ts → lists ≡ map (λ t. t.done.errands) ts
      → All (λ s. s.done.errands ≡ []) ss → AllZip (λ s t. KeepsServing s t content_of may_reject) ss ts → All (λ t. t.fault ≡ None) ts
      → AllServed (has_of olds content_of) lists (has_of news content_of)
  all_served_of olds news lists ss ts was are have fresh works all =
      let has : Worker J X D → Belongings = λ s. belongings_of content_of s.held in
      let held : Worker J X D → Held X D = λ s. s.held in
      let first : map has ss ≡ has_of olds content_of = mapped (belongings_of content_of) held has (λ _. refl) ss ∙ ap (λ l. has_of l content_of) was in
      let last : map has ts ≡ has_of news content_of = mapped (belongings_of content_of) held has (λ _. refl) ts ∙ ap (λ l. has_of l content_of) (sym are) in
      subst (λ (l : List Belongings). AllServed l lists (has_of news content_of)) first
      (subst (λ (l : List Belongings). AllServed (map has ss) lists l) last
      (subst (λ (l : List (List Errand)). AllServed (map has ss) l (map has ts)) (sym have)
      (all_served ss ts fresh works all)))

  all_left : (ss ts : List (Worker J X D)) → AllZip (λ s t. KeepsServing s t content_of may_reject) ss ts → All (λ t. t.fault ≡ None) ts
      → AllZip (λ g h. AreLeft g.spares.items h.spares.items) (map (λ s. s.held) ss) (map (λ t. t.held) ts)
  all_left [] [] works all = tt
  all_left [] (t ∷ ts) works all = absurd works
  all_left (s ∷ ss) [] works all = absurd works
  all_left (s ∷ ss) (t ∷ ts) works all = (
    works.0.1 s.held.spares.items (λ _. (0, refl)) (All-head (λ x. x.fault ≡ None) t ts all),
    all_left ss ts works.1 (All-tail (λ x. x.fault ≡ None) t ts all),
  )

  pub all_left_of : (olds news : List (Held X D)) (ss ts : List (Worker J X D)) → map (λ s. s.held) ss ≡ olds → news ≡ map (λ t. t.held) ts
      → AllZip (λ s t. KeepsServing s t content_of may_reject) ss ts → All (λ t. t.fault ≡ None) ts
      → AllZip (λ g h. AreLeft g.spares.items h.spares.items) olds news
  all_left_of olds news ss ts was are works all =
      subst (λ (l : List (Held X D)). AllZip (λ g h. AreLeft g.spares.items h.spares.items) l news) was
      (subst (λ (l : List (Held X D)). AllZip (λ g h. AreLeft g.spares.items h.spares.items) (map (λ s. s.held) ss) l) (sym are)
      (all_left ss ts works all))

-- what is so of what each process has is so of what is held
pub all_of_has : {X : Type 0} {D : X → Type 0} (content_of : DynBox X Global D → Content) (helds : List (Held X D))
    → ((p : ℕ) (b : Belongings) → slice_get (has_of helds content_of) p ≡ Some b → b.depot.tentative ≡ None) → All (λ h. h.depot.tentative ≡ None) helds
all_of_has content_of [] f = All-nil (λ h. h.depot.tentative ≡ None)
all_of_has content_of (h ∷ helds) f =
    All-cons (λ h. h.depot.tentative ≡ None) h helds (f 0 (belongings_of content_of h) refl)
    (all_of_has content_of helds (λ p b e. f (suc p) b e))
