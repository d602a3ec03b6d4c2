-- What is noted of processes goes on by a step.
use Rattle.std.proofs.Common.{arith, ◌≡◌, ◌≢◌, ◌∙◌, ◌<◌, ◌+◌, ℕ, List, [], ◌∷◌, ◌++◌, append_assoc, append-nil, length, map, set, sym, subst, ap, refl, get_or, Bool, true, false, Result, Ok, Err}
use Rattle.std.specs.Prelude.{filter, ◌==◌, if◌then◌else◌, is_err, option_map, Option, Some, None, OnOk}
use Rattle.std.proofs.lemmas.Bool.{eqb-true, eqb-false}
use Rattle.std.proofs.lemmas.List.{map-append, map-set, length-map, length-set, get_or-map, get_or-set_same, get_or-set_other}
use Rattle.std.proofs.lemmas.List.Elements.{filter-append}
use Rattle.kt_threads.specs.Books.{DoneBy, entry, errands_by}
use Rattle.kt_threads.specs.declared.asked.Entry.{Entry}
use Rattle.kt_promises.specs.Runs.{Move}
use Rattle.kt_promises.specs.Steps.{process_of_step}
use Rattle.kt_plan.specs.declared.steps.Step.{Step}
use Rattle.kt_plan.specs.declared.steps.Told.{Told}
use Rattle.kt_threads.specs.Errands.{errand_of, errands_at, errands_of, is_no_errand}
use Rattle.kt_threads.specs.Histories.{AreTheirs, AreTold, WorldHistory, made_by, told_to}
use Rattle.kt_threads.specs.Moves.{move_of}
use Rattle.kt_threads.specs.Noted.{AreAskedBy, AreListed, AreNoted, AreToldBy, IsNotedBy, made_steps}
use Rattle.kt_threads.specs.Turns.{IsMadeQuietly}
use Rattle.kt_threads.specs.declared.asked.Errand.{Errand}
use Rattle.kt_threads.specs.declared.state.Made.{Made}

-- the list of a process goes on
pub noted_there : {X Y : Type 0} (f : X → List Y) (xs : List X) (k p : ℕ) (old new : X) (item : Y) → k < length xs → k ≡ p
    → old ≡ get_or xs k old → f new ≡ f old ++ item ∷ [] → IsNotedBy p item (map f xs) (map f (set xs k new))
noted_there {X} {Y} f xs k p old new item within place at more = record {
  count = length-map (set xs k new) f ∙ length-set xs k new ∙ sym (length-map xs f);
  each = λ q l. ap (λ (lists : List (List Y)). get_or lists q []) (map-set f xs k new) ∙ go q (p == q) refl;
}
  where
    inside : k < length (map f xs)
    inside = simp length-map within

    was : f old ≡ get_or (map f xs) k []
    was = ap f at ∙ sym (get_or-map f xs k old [] within)

    go : (q : ℕ) (b : Bool) → (p == q) ≡ b → get_or (set (map f xs) k (f new)) q [] ≡ get_or (map f xs) q [] ++ (if b then item ∷ [] else [])
    go q true h = let here : q ≡ k = omega (arith, eqb-true p q h, place) in
        ap (λ (j : ℕ). get_or (set (map f xs) k (f new)) j []) here ∙ get_or-set_same (map f xs) k (f new) [] inside ∙ more
        ∙ ap (λ (list : List Y). list ++ item ∷ []) (was ∙ ap (λ (j : ℕ). get_or (map f xs) j []) (sym here))
    go q false h = let there : q ≢ k = λ e. eqb-false p q h (omega (arith, e, place)) in
        get_or-set_other (map f xs) k q (f new) [] there ∙ sym (append-nil (get_or (map f xs) q []))

-- a process has no list
pub noted_nowhere : {Y : Type 0} (lists : List (List Y)) (p : ℕ) (item : Y) → (p < length lists → false ≡ true) → IsNotedBy p item lists lists
noted_nowhere lists p item past = record { count = refl; each = λ q l. go q l (p == q) refl }
  where
    go : (q : ℕ) → q < length lists → (b : Bool) → (p == q) ≡ b → get_or lists q [] ≡ get_or lists q [] ++ (if b then item ∷ [] else [])
    go q l true h = let e = eqb-true p q h in let n = past (omega (arith, l, e)) in absurd (cc (n))
    go q l false h = sym (append-nil (get_or lists q []))

if_false : {X : Type 0} (b : Bool) (x y : X) → b ≡ false → (if b then x else y) ≡ y
if_false true x y e = absurd (cc (e))
if_false false x y e = refl

if_true : {X : Type 0} (b : Bool) (x y : X) → b ≡ true → (if b then x else y) ≡ x
if_true true x y e = refl
if_true false x y e = absurd (cc (e))

abbrev is_of : ℕ → Made → Bool
is_of p made = process_of_step made.told.step == p

made_here : (p : ℕ) (made : Made) → (process_of_step made.told.step == p) ≡ true → made_by p (made ∷ []) ≡ made ∷ []
made_here p made e = rw e refl

made_elsewhere : (p : ℕ) (made : Made) → (process_of_step made.told.step == p) ≡ false → made_by p (made ∷ []) ≡ []
made_elsewhere p made e = rw e refl

errands_append : (xs ys : List Made) → errands_of (xs ++ ys) ≡ errands_of xs ++ errands_of ys
errands_append [] ys = refl
errands_append (x ∷ xs) ys =
    ap (λ (l : List Errand). errands_at x ++ l) (errands_append xs ys) ∙ sym (append_assoc (errands_at x) (errands_of xs) (errands_of ys))

-- what one more step asks of a process's object
errands_more : (q : ℕ) (steps : List Made) (made : Made) → errands_of (made_by q (steps ++ made ∷ []))
    ≡ errands_of (made_by q steps) ++ (if process_of_step made.told.step == q then errands_at made else [])
errands_more q steps made =
    ap errands_of (filter-append (is_of q) steps (made ∷ []))
    ∙ (errands_append (made_by q steps) (made_by q (made ∷ []))
    ∙ ap (λ (l : List Errand). errands_of (made_by q steps) ++ l) (go (process_of_step made.told.step == q) refl))
  where
    go : (b : Bool) → (process_of_step made.told.step == q) ≡ b → errands_of (made_by q (made ∷ [])) ≡ (if b then errands_at made else [])
    go true e = ap errands_of (made_here q made e) ∙ append-nil (errands_at made)
    go false e = ap errands_of (made_elsewhere q made e)

abbrev told_of : List Made → List Told
told_of list = map (λ (m : Made). m.told) list

-- and what it tells
told_more : (q : ℕ) (steps : List Made) (made : Made) → told_to q (steps ++ made ∷ [])
    ≡ told_to q steps ++ (if process_of_step made.told.step == q then made.told ∷ [] else [])
told_more q steps made =
    ap told_of (filter-append (is_of q) steps (made ∷ []))
    ∙ (map-append (λ (m : Made). m.told) (made_by q steps) (made_by q (made ∷ []))
    ∙ ap (λ (l : List Told). told_to q steps ++ l) (go (process_of_step made.told.step == q) refl))
  where
    go : (b : Bool) → (process_of_step made.told.step == q) ≡ b → told_of (made_by q (made ∷ [])) ≡ (if b then made.told ∷ [] else [])
    go true e = ap told_of (made_here q made e)
    go false e = ap told_of (made_elsewhere q made e)

-- an entry of a process is of no other one
by_entry : (q p : ℕ) (errand : Errand) (b : Bool) → (p == q) ≡ b → errands_by q (entry p errand ∷ []) ≡ (if b then errand ∷ [] else [])
by_entry q p errand true e = rw e refl
by_entry q p errand false e = rw e refl

by_more : (q p : ℕ) (errand : Errand) (old : List Entry) → errands_by q (old ++ entry p errand ∷ []) ≡ errands_by q old ++ (if p == q then errand ∷ [] else [])
by_more q p errand old =
    ap (map (λ (e : Entry). e.errand)) (filter-append (λ (e : Entry). e.by == q) old (entry p errand ∷ []))
    ∙ (map-append (λ (e : Entry). e.errand) (filter (λ (e : Entry). e.by == q) old) (filter (λ (e : Entry). e.by == q) (entry p errand ∷ []))
    ∙ ap (λ (l : List Errand). errands_by q old ++ l) (by_entry q p errand (p == q) refl))

-- what is noted goes on so
pub asked_next : (made : Made) (errand : Errand) (steps : List Made) (p : ℕ) (old new : List Entry) → p ≡ process_of_step made.told.step
    → errand ≡ errand_of made → is_no_errand (errand_of made) ≡ false → new ≡ old ++ entry p errand ∷ [] → AreAskedBy steps old → AreAskedBy (steps ++ made ∷ []) new
asked_next made errand steps p old new place is busy more asked = record { each = go }
  where
    one : errand ∷ [] ≡ errands_at made
    one = ap (λ (d : Errand). d ∷ []) is ∙ sym (if_false (is_no_errand (errand_of made)) [] (errand_of made ∷ []) busy)

    go : (q : ℕ) → errands_by q new ≡ errands_of (made_by q (steps ++ made ∷ []))
    go q =
        ap (errands_by q) more ∙ (by_more q p errand old
        ∙ (ap (λ (l : List Errand). l ++ (if p == q then errand ∷ [] else [])) (asked.each q)
        ∙ (ap (λ (k : ℕ). errands_of (made_by q steps) ++ (if k == q then errand ∷ [] else [])) place
        ∙ (ap (λ (d : List Errand). errands_of (made_by q steps) ++ (if process_of_step made.told.step == q then d else [])) one
        ∙ sym (errands_more q steps made)))))

pub none_asked_next : (made : Made) (steps : List Made) (asked : List Entry) → is_no_errand (errand_of made) ≡ true
    → AreAskedBy steps asked → AreAskedBy (steps ++ made ∷ []) asked
none_asked_next made steps asked idle asks = record { each = go }
  where
    nothing : (b : Bool) → (if b then errands_at made else []) ≡ []
    nothing true = if_true (is_no_errand (errand_of made)) [] (errand_of made ∷ []) idle
    nothing false = refl

    go : (q : ℕ) → errands_by q asked ≡ errands_of (made_by q (steps ++ made ∷ []))
    go q =
        asks.each q
        ∙ (sym (append-nil (errands_of (made_by q steps)))
        ∙ (ap (λ (d : List Errand). errands_of (made_by q steps) ++ d) (sym (nothing (process_of_step made.told.step == q)))
        ∙ sym (errands_more q steps made)))

pub told_next : (made : Made) (steps : List Made) (p : ℕ) (old new : List (List Told)) → p ≡ process_of_step made.told.step
    → IsNotedBy p made.told old new → AreToldBy steps old → AreToldBy (steps ++ made ∷ []) new
told_next made steps p old new place noted tells = record { each = go }
  where
    go : (q : ℕ) → q < length new → get_or new q [] ≡ told_to q (steps ++ made ∷ [])
    go q l =
        let low : q < length old = let n = noted.count in omega (arith, l, n) in
        noted.each q low
        ∙ (ap (λ (l : List Told). l ++ (if p == q then made.told ∷ [] else [])) (tells.each q low)
        ∙ (ap (λ (k : ℕ). told_to q steps ++ (if k == q then made.told ∷ [] else [])) place
        ∙ sym (told_more q steps made)))

-- where no list is kept, nothing has to be noted
pub untold_next : (made : Made) (steps : List Made) (told : List (List Told)) → told ≡ [] → AreToldBy (steps ++ made ∷ []) told
untold_next made steps told none = record { each = λ p l. absurd (omega (arith, subst (λ (lists : List (List Told)). p < length lists) none l)) }

-- a list for the steps, if there is one, has none at first
pub listed_first : (lists : Bool) (steps : List Made) (listed : Option (List Step)) → steps ≡ [] → listed ≡ (if lists then Some [] else None) → AreListed steps listed
listed_first true steps listed none e = rw (none, e) refl
listed_first false steps listed none e = rw e tt

-- one more step stands in the list of all, if there is one
listed_next : (made : Made) (steps : List Made) (old new : Option (List Step)) → new ≡ option_map (λ list. list ++ made.told.step ∷ []) old
    → AreListed steps old → AreListed (steps ++ made ∷ []) new
listed_next made steps None new e listed = rw e tt
listed_next made steps (Some list) new e listed =
    rw e (ap (λ (l : List Step). l ++ made.told.step ∷ []) listed ∙ sym (map-append (λ (m : Made). m.told.step) steps (made ∷ [])))

pub noted_next : (made : Made) (steps : List Made) (asked asked' : List Entry) (told told' : List (List Told))
    (listed listed' : Option (List Step)) (step : Step) → ((s : List Made) → AreAskedBy s asked → AreAskedBy (s ++ made ∷ []) asked')
    → ((s : List Made) → AreToldBy s told → AreToldBy (s ++ made ∷ []) told')
    → step ≡ made.told.step → listed' ≡ option_map (λ list. list ++ step ∷ []) listed
    → AreNoted steps asked told listed → AreNoted (steps ++ made ∷ []) asked' told' listed'
noted_next made steps asked asked' told told' listed listed' step asks tells same more n = record {
  asks = asks steps n.asks;
  tells = tells steps n.tells;
  lists = listed_next made steps listed listed'
      (more ∙ ap (λ (s : Step). option_map (λ (list : List Step). list ++ s ∷ []) listed) same) n.lists;
}

-- a step that asked nothing, where what is told is not kept
pub noted_quietly : (old new : WorldHistory) (step : Step) (asked : List Entry) (told : List (List Told)) (listed listed' : Option (List Step))
    → IsMadeQuietly old new step → told ≡ [] → listed' ≡ option_map (λ list. list ++ step ∷ []) listed
    → AreNoted old.steps asked told listed → AreNoted new.steps asked told listed'
noted_quietly old new step asked told listed listed' quiet none more n =
    subst (λ (steps : List Made). AreNoted steps asked told listed') (sym quiet.steps) (record {
      asks = none_asked_next quiet.made old.steps asked quiet.idle n.asks;
      tells = untold_next quiet.made old.steps told none;
      lists = listed_next quiet.made old.steps listed listed'
          (more ∙ ap (λ (s : Step). option_map (λ (list : List Step). list ++ s ∷ []) listed) (sym quiet.is)) n.lists;
    })

pub at_ok : {T E : Type 0} (r : Result T E) (P : Type 0) → is_err r ≡ false → OnOk r P → P
at_ok (Ok x) P e h = h
at_ok (Err x) P e h = absurd (cc (e))

-- lists that are those that were noted
pub theirs_of : (processes : ℕ) (steps : List Made) (asked : List Entry) (lists : List (List Errand)) → AreAskedBy steps asked → length lists ≡ processes
    → ((p : ℕ) → p < processes → get_or lists p [] ≡ errands_by p asked) → AreTheirs processes steps lists
theirs_of processes steps asked lists asks count same = record { count = count; each = λ p l. same p l ∙ asks.each p }

pub tells_of : (processes : ℕ) (steps : List Made) (told : List (List Told)) → AreToldBy steps told → length told ≡ processes
    → AreTold processes steps told
tells_of processes steps told noted count = record { count = count; each = λ p l. noted.each p (omega (arith, l, count)) }

-- the steps of the moves that steps are
pub steps_of_moves : (steps : List Made) → map (λ (m : Move). m.step) (map move_of steps) ≡ made_steps steps
steps_of_moves [] = refl
steps_of_moves (made ∷ steps) = ap (λ (l : List Step). made.told.step ∷ l) (steps_of_moves steps)

-- one more thread did what is noted of its process
pub agreed_next : (done : List DoneBy) (asked : List Entry) (p : ℕ) (d : DoneBy) → p < length done → d ≡ get_or done p d → d.by ≡ p
    → errands_by d.by asked ≡ d.errands → ((q : ℕ) → q < p → get_or (map (λ (d : DoneBy). d.errands) done) q [] ≡ errands_by q asked)
    → (q : ℕ) → q < p + 1 → get_or (map (λ (d : DoneBy). d.errands) done) q [] ≡ errands_by q asked
agreed_next done asked p d within at by same before q l = go (q == p) refl
  where
    here : get_or (map (λ (d : DoneBy). d.errands) done) p [] ≡ errands_by p asked
    here =
        get_or-map (λ (d : DoneBy). d.errands) done p d [] within
        ∙ (sym (ap (λ (d : DoneBy). d.errands) at) ∙ (sym same ∙ ap (λ (k : ℕ). errands_by k asked) by))

    go : (b : Bool) → (q == p) ≡ b → get_or (map (λ (d : DoneBy). d.errands) done) q [] ≡ errands_by q asked
    go true e = subst (λ (k : ℕ). get_or (map (λ (d : DoneBy). d.errands) done) k [] ≡ errands_by k asked) (sym (eqb-true q p e)) here
    go false e = before q (let n = eqb-false q p e in omega (arith, l, n))
