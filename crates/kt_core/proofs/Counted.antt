-- How many steps can be made, and the one at a place.
use Rattle.std.specs.Prelude.{◌&&◌, ◌||◌, is_some, filter, cond, if◌then◌else◌, nat_lt, slice_get, Option, IfSome}
use Rattle.std.proofs.Common.{◌≡◌, ◌≢◌, ◌<◌, ◌≤◌, ◌+◌, ℕ, zero, suc, Bool, true, false, List, [], ◌∷◌, ◌++◌, Some, None, length, refl, sym, ap, subst, arith, add-zero, length-append, ◌∙◌, inl, inr}
use Rattle.std.proofs.lemmas.Bool.{cases_lt, or_left, or_right, false_from_ne_true}
use Rattle.std.proofs.lemmas.List.Elements.{filter-append}
use Rattle.std.proofs.lemmas.Option.{slice_get_within, get_or_from_slice_get}
use Rattle.kt_base.specs.Sets.{has}
use Rattle.kt_fifo.specs.Counts.{count_first, count_pairs}
use Rattle.kt_plan.specs.declared.steps.Step.{Step}
use Rattle.kt_plan.specs.declared.steps.Step.TheVariants.{Do, Take}
use Rattle.kt_promises.specs.Steps.{process_of_step}
use Rattle.kt_system.specs.Counts.{takes_in, IsTakeAt}
use Rattle.kt_system.specs.Reads.{can_take}
use Rattle.kt_system.specs.Systems.{state_of}
use Rattle.kt_core.specs.Agendas.{open_command}
use Rattle.kt_core.specs.Choices.{takes_of, steps_of, steps_of_first, choices, HasNoOthers}
use Rattle.kt_core.specs.Worlds.{World, process_may_do, can_do, can_make}
use Rattle.kt_core.proofs.Choices.{takes_skipped, left_out, kept, does, no_take, is_below, Listed, listed_more, listed_all, listed_to_end, listed_upto, all_listed}

-- a place in one part of a list
get_left : (xs ys : List Step) (i : ℕ) (x : Step) → slice_get xs i ≡ Some x → slice_get (xs ++ ys) i ≡ Some x
get_left [] ys i x e = absurd (cc (e))
get_left (y ∷ xs) ys zero x e = e
get_left (y ∷ xs) ys (suc i) x e = get_left xs ys i x e

get_right : (xs ys : List Step) (i : ℕ) (x : Step) → slice_get ys i ≡ Some x → slice_get (xs ++ ys) (length xs + i) ≡ Some x
get_right [] ys i x e = let z : 0 + i ≡ i = omega arith in subst (λ (j : ℕ). slice_get ys j ≡ Some x) (sym z) e
get_right (y ∷ xs) ys i x e = let z : suc (length xs) + i ≡ suc (length xs + i) = omega arith in subst (λ (j : ℕ). slice_get (y ∷ (xs ++ ys)) j ≡ Some x) (sym z) (get_right xs ys i x e)

get_next : (xs : List Step) (x : Step) → slice_get (xs ++ x ∷ []) (length xs) ≡ Some x
get_next [] x = refl
get_next (y ∷ xs) x = get_next xs x

one_if : (b : Bool) (x : Step) → length (cond b (x ∷ []) []) ≡ (if b then 1 else 0)
one_if true x = refl
one_if false x = refl

-- how many of a list pass, where one more is at its end
more_pass : (f : Step → Bool) (xs : List Step) (x : Step) → length (filter f (xs ++ x ∷ [])) ≡ length (filter f xs) + (if f x then 1 else 0)
more_pass f xs x =
    ap length (filter-append f xs (x ∷ []))
    ∙ (length-append (filter f xs) (filter f (x ∷ []))
    ∙ ap (λ (n : ℕ). length (filter f xs) + n) (one_if (f x) x))

-- a take can be made where it can be taken
take_is : (w : World) (p q : ℕ) → p < w.system.size → q < w.system.size → can_make w (Take p q) ≡ can_take w.system p q
take_is w p q l k =
    ap (λ (b : Bool). b && (nat_lt q w.system.size && can_take w.system p q)) (is_below p w.system.size l)
    ∙ ap (λ (b : Bool). b && can_take w.system p q) (is_below q w.system.size k)

pub takes_counted : (w : World) (p n : ℕ) → p < w.system.size → n ≤ w.system.size → length (filter (can_make w) (takes_of p n)) ≡ count_first (can_take w.system p) n
unfolding count_first
takes_counted w p zero l k = refl
takes_counted w p (suc n) l k =
    more_pass (can_make w) (takes_of p n) (Take p n)
    ∙ (ap (λ (m : ℕ). m + (if can_make w (Take p n) then 1 else 0)) (takes_counted w p n l (omega (arith, k)))
    ∙ ap (λ (b : Bool). count_first (can_take w.system p) n + (if b then 1 else 0)) (take_is w p n l (omega (arith, k))))

-- its takes, and its next command if it can do that
pub steps_counted : (w : World) (p : ℕ) (b : Bool) → p < w.system.size → can_do w p ≡ b → length (filter (can_make w) (steps_of w.system.size p)) ≡ count_first (can_take w.system p) w.system.size + (if b then 1 else 0)
steps_counted w p b l e =
    more_pass (can_make w) (takes_of p w.system.size) (Do p)
    ∙ (ap (λ (m : ℕ). m + (if can_make w (Do p) then 1 else 0)) (takes_counted w p w.system.size l (omega arith))
    ∙ ap (λ (c : Bool). count_first (can_take w.system p) w.system.size + (if c then 1 else 0)) (does w p b l e))

-- where no command can be done, takes are all
pub all_takes : (w : World) (m : ℕ) → m ≤ w.system.size → ((p : ℕ) → p < w.system.size → can_do w p ≡ false) → length (filter (can_make w) (steps_of_first w.system.size m)) ≡ count_pairs (can_take w.system) w.system.size m
unfolding count_pairs
all_takes w zero l none = refl
all_takes w (suc m) l none =
    ap length (filter-append (can_make w) (steps_of_first w.system.size m) (steps_of w.system.size m))
    ∙ (length-append (filter (can_make w) (steps_of_first w.system.size m)) (filter (can_make w) (steps_of w.system.size m))
    ∙ (ap (λ (n : ℕ). n + length (filter (can_make w) (steps_of w.system.size m))) (all_takes w m (omega (arith, l)) none)
    ∙ ap (λ (n : ℕ). count_pairs (can_take w.system) w.system.size m + n) (steps_counted w m false (omega (arith, l)) (none m (omega (arith, l))) ∙ add-zero _)))

-- no command can be done where none is of the open phase
pub none_done : (w : World) → ((p : ℕ) → p < w.system.size → open_command w.agenda p ≡ None) → (p : ℕ) → p < w.system.size → can_do w p ≡ false
none_done w closed p l = ap (process_may_do (state_of w.system p)) (closed p l)

-- the takes of the first so many begin the takes of more, and so do the steps
takes_begin : (f : Step → Bool) (p a b i : ℕ) (x : Step) → a ≤ b → slice_get (filter f (takes_of p a)) i ≡ Some x → slice_get (filter f (takes_of p b)) i ≡ Some x
takes_begin f p a zero i x l e = let z : a ≡ 0 = omega (arith, l) in subst (λ (n : ℕ). slice_get (filter f (takes_of p n)) i ≡ Some x) z e
takes_begin f p a (suc b) i x l e = elim (cases_lt b a) [
  | inl m ↦ let z : a ≡ suc b = omega (arith, l, m) in subst (λ (n : ℕ). slice_get (filter f (takes_of p n)) i ≡ Some x) z e
  | inr h ↦ subst (λ (list : List Step). slice_get list i ≡ Some x) (sym (filter-append f (takes_of p b) (Take p b ∷ [])))
      (get_left (filter f (takes_of p b)) (filter f (Take p b ∷ [])) i x (takes_begin f p a b i x h e))
]

pub steps_begin : (f : Step → Bool) (n a b i : ℕ) (x : Step) → a ≤ b → slice_get (filter f (steps_of_first n a)) i ≡ Some x → slice_get (filter f (steps_of_first n b)) i ≡ Some x
steps_begin f n a zero i x l e = let z : a ≡ 0 = omega (arith, l) in subst (λ (m : ℕ). slice_get (filter f (steps_of_first n m)) i ≡ Some x) z e
steps_begin f n a (suc b) i x l e = elim (cases_lt b a) [
  | inl m ↦ let z : a ≡ suc b = omega (arith, l, m) in subst (λ (m : ℕ). slice_get (filter f (steps_of_first n m)) i ≡ Some x) z e
  | inr h ↦ subst (λ (list : List Step). slice_get list i ≡ Some x) (sym (filter-append f (steps_of_first n b) (steps_of n b)))
      (get_left (filter f (steps_of_first n b)) (filter f (steps_of n b)) i x (steps_begin f n a b i x h e))
]

-- a take that passes stands after as many takes of its process as pass before it
pub take_among : (w : World) (p q : ℕ) → p < w.system.size → q < w.system.size → can_take w.system p q ≡ true → slice_get (filter (can_make w) (steps_of w.system.size p)) (count_first (can_take w.system p) q) ≡ Some (Take p q)
take_among w p q l k e =
    let f = can_make w in
    let n = w.system.size in
    let here : slice_get (filter f (takes_of p (suc q))) (length (filter f (takes_of p q))) ≡ Some (Take p q) =
    subst (λ (list : List Step). slice_get list (length (filter f (takes_of p q))) ≡ Some (Take p q))
    (sym (filter-append f (takes_of p q) (Take p q ∷ []) ∙ ap (λ (l : List Step). filter f (takes_of p q) ++ l) (kept f (Take p q) (take_is w p q l k ∙ e))))
    (get_next (filter f (takes_of p q)) (Take p q)) in
    let counted = takes_counted w p q l (omega (arith, k)) in
    subst (λ (list : List Step). slice_get list (count_first (can_take w.system p) q) ≡ Some (Take p q)) (sym (filter-append f (takes_of p n) (Do p ∷ [])))
    (get_left (filter f (takes_of p n)) (filter f (Do p ∷ [])) (count_first (can_take w.system p) q) (Take p q)
    (takes_begin f p (suc q) n (count_first (can_take w.system p) q) (Take p q) (omega (arith, k))
    (subst (λ (i : ℕ). slice_get (filter f (takes_of p (suc q))) i ≡ Some (Take p q)) counted here)))

-- a step of a process stands after those of the processes before
pub step_among : (w : World) (p i : ℕ) (x : Step) → p < w.system.size → slice_get (filter (can_make w) (steps_of w.system.size p)) i ≡ Some x → slice_get (choices w) (length (filter (can_make w) (steps_of_first w.system.size p)) + i) ≡ Some x
step_among w p i x l e =
    let f = can_make w in
    let n = w.system.size in
    let j = length (filter f (steps_of_first n p)) + i in
    steps_begin f n (suc p) n j x (omega (arith, l))
    (subst (λ (list : List Step). slice_get list j ≡ Some x) (sym (filter-append f (steps_of_first n p) (steps_of n p)))
    (get_right (filter f (steps_of_first n p)) (filter f (steps_of n p)) i x e))

-- the take at a place, where there are takes alone
pub take_alone : (w : World) (at from place : ℕ) → ((p : ℕ) → p < w.system.size → can_do w p ≡ false) → IsTakeAt w.system at from place → slice_get (choices w) place ≡ Some (Take at from)
take_alone w at from place none h =
    let low = h.taker in
    let before = all_takes w at (omega (arith, low)) none in
    subst (λ (i : ℕ). slice_get (choices w) i ≡ Some (Take at from))
    (ap (λ (n : ℕ). n + count_first (can_take w.system at) from) before ∙ h.before)
    (step_among w at (count_first (can_take w.system at) from) (Take at from) low (take_among w at from low h.sender h.takeable))

pub count_alone : (w : World) → ((p : ℕ) → p < w.system.size → can_do w p ≡ false) → takes_in w.system ≡ length (choices w)
count_alone w none = sym (all_takes w w.system.size (omega arith) none)

-- where none can be counted, none can be made
pub none_made : (w : World) → length (choices w) ≡ 0 → (step : Step) → can_make w step ≡ false
none_made w e step = false_from_ne_true _ (λ is. let there = ((all_listed w step).0 is).1 in omega (arith, e, there))

-- one that stands there can be made
pub some_made : (w : World) (o : Option Step) (place : ℕ) → o ≡ slice_get (choices w) place → IfSome o (λ step. can_make w step ≡ true)
some_made w None place e = tt
some_made w (Some x) place e = (all_listed w x).1 (place, slice_get_within (choices w) place x (sym e), get_or_from_slice_get (choices w) place x x (sym e))

-- the next command stands after all takes
pub do_among : (w : World) (p place : ℕ) → p < w.system.size → place < length (filter (can_make w) (steps_of w.system.size p)) → count_first (can_take w.system p) w.system.size ≤ place → slice_get (filter (can_make w) (steps_of w.system.size p)) place ≡ Some (Do p)
do_among w p place l k h = go (can_do w p) refl
  where
    go : (b : Bool) → can_do w p ≡ b → slice_get (filter (can_make w) (steps_of w.system.size p)) place ≡ Some (Do p)
    go false e = absurd (let all = steps_counted w p false l e in omega (arith, all, k, h))
    go true e =
        let f = can_make w in
        let takes = filter f (takes_of p w.system.size) in
        let counted = takes_counted w p w.system.size l (omega arith) in
        let all = steps_counted w p true l e in
        let at : length takes ≡ place = omega (arith, counted, all, k, h) in
        subst (λ (list : List Step). slice_get list place ≡ Some (Do p))
        (sym (filter-append f (takes_of p w.system.size) (Do p ∷ []) ∙ ap (λ (l : List Step). takes ++ l) (kept f (Do p) (does w p true l e))))
        (subst (λ (i : ℕ). slice_get (takes ++ Do p ∷ []) i ≡ Some (Do p)) at (get_next takes (Do p)))

-- no process but the movers is listed
none_of : (w : World) (p : ℕ) → ((step : Step) → process_of_step step ≡ p → can_make w step ≡ false) → filter (can_make w) (steps_of w.system.size p) ≡ []
none_of w p none =
    let f = can_make w in
    let n = w.system.size in
    filter-append f (takes_of p n) (Do p ∷ [])
    ∙ (ap (λ (l : List Step). l ++ filter f (Do p ∷ [])) (takes_skipped f p 0 n (omega arith) (λ q _ _. none (Take p q) refl))
    ∙ left_out f (Do p) (none (Do p) refl))

pub listed_movers : (w : World) (movers : ℕ) → HasNoOthers w movers → Listed w [] movers 0
listed_movers w movers m = record {
  within = omega arith;
  are = refl;
  later = λ p _ l gone. none_of w p (m.others p l gone);
  earlier = λ p l. absurd (omega (arith, l));
  there = m.there;
}

-- so far as a walk over the movers has come: so many are counted
pub record Counted (w : World) (left count number : ℕ) : Type 0 where
  pub now : List Step
  pub upto : ℕ
  pub past : number ≤ upto
  pub listed : Listed w now left upto
  pub count_is : length now ≡ count

pub counted_none : (w : World) (movers : ℕ) → HasNoOthers w movers → Counted w movers 0 0
counted_none w movers m = record { now = []; upto = 0; past = omega arith; listed = listed_movers w movers m; count_is = refl }

module _ (w : World) (left count number : ℕ) (t : Counted w left count number) where
  pub counted_more : (less p more : ℕ) → has left p ≡ true → ((r : ℕ) → r < p → has left r ≡ false) → has less p ≡ false → ((r : ℕ) → r ≢ p → has less r ≡ has left r)
      → more ≡ length (filter (can_make w) (steps_of w.system.size p)) → Counted w less (count + more) (number + 1)
  counted_more less p more member least removed others e =
      let f = filter (can_make w) (steps_of w.system.size p) in
      let next = listed_more w t.now left t.upto t.listed (t.now ++ f) less p member least removed others refl in
      let so_far = t.past in
      let from = next.0 in
      record {
        now = t.now ++ f;
        upto = suc p;
        past = omega (arith, so_far, from);
        listed = next.1;
        count_is = length-append t.now f ∙ (ap (λ (n : ℕ). n + length f) t.count_is ∙ ap (λ (n : ℕ). count + n) (sym e));
      }

  pub counted_all : ((p : ℕ) → has left p ≡ false) → count ≡ length (choices w)
  counted_all none = sym t.count_is ∙ ap length (listed_all w t.now left t.upto t.listed none)

  pub counted_to_end : w.system.size ≤ number → count ≡ length (choices w)
  counted_to_end end = let so_far = t.past in sym t.count_is ∙ ap length (listed_to_end w t.now left t.upto t.listed (omega (arith, end, so_far)))

  -- a step of the next mover stands after those counted
  pub counted_step : (p i : ℕ) (x : Step) → has left p ≡ true → ((r : ℕ) → r < p → has left r ≡ false) → slice_get (filter (can_make w) (steps_of w.system.size p)) i ≡ Some x → slice_get (choices w) (count + i) ≡ Some x
  counted_step p i x member least e =
      let there = t.listed.there p member in
      let before : length t.now ≡ length (filter (can_make w) (steps_of_first w.system.size p)) = ap length (listed_upto w t.now left t.upto t.listed p member least) in
      subst (λ (n : ℕ). slice_get (choices w) (n + i) ≡ Some x) (sym before ∙ t.count_is) (step_among w p i x there e)

is_none_if : {X : Type 0} (o : Option X) → is_some o ≡ false → o ≡ None
is_none_if None e = refl
is_none_if (Some x) e = absurd (cc (e))

-- the movers are those that have parcels or commands of the open phase
pub movers_are : (w : World) (waiting movers : ℕ) → w.system.size ≡ length w.agenda.plan.names → ((p q : ℕ) → has waiting p ≡ false → can_take w.system p q ≡ false) → ((p : ℕ) → has waiting p ≡ true → p < w.system.size) →
    ((p : ℕ) → p < length w.agenda.plan.names → has movers p ≡ (has waiting p || is_some (open_command w.agenda p))) → ((p : ℕ) → length w.agenda.plan.names ≤ p → has movers p ≡ has waiting p) → HasNoOthers w movers
movers_are w waiting movers size idle low all past = record {
  there = λ p member. elim (cases_lt p w.system.size) [
    | inl l ↦ l
    | inr h ↦ low p (sym (past p (omega (arith, h, size))) ∙ member)
  ];
  others = λ p l gone step e. none_by p l gone step e;
}
  where
    does_none : (p : ℕ) → p < w.system.size → has movers p ≡ false → can_make w (Do p) ≡ false
    does_none p l gone =
        let is = all p (omega (arith, l, size)) in
        let closed = is_none_if (open_command w.agenda p) (false_from_ne_true _ (λ t. cc (gone, is, or_right (has waiting p) (is_some (open_command w.agenda p)) t))) in
        does w p false l (ap (process_may_do (state_of w.system p)) closed)

    takes_none : (p q : ℕ) → p < w.system.size → has movers p ≡ false → can_make w (Take p q) ≡ false
    takes_none p q l gone =
        let is = all p (omega (arith, l, size)) in
        no_take w p q (idle p q (false_from_ne_true _ (λ t. cc (gone, is, or_left (has waiting p) (is_some (open_command w.agenda p)) t))))

    none_by : (p : ℕ) → p < w.system.size → has movers p ≡ false → (step : Step) → process_of_step step ≡ p → can_make w step ≡ false
    none_by p l gone (Do q) e = subst (λ (r : ℕ). can_make w (Do r) ≡ false) (sym e) (does_none p l gone)
    none_by p l gone (Take q r) e = subst (λ (s : ℕ). can_make w (Take s r) ≡ false) (sym e) (takes_none p r l gone)
