-- The list of the steps that can be made.
use Rattle.std.specs.Prelude.{◌&&◌, filter, cond, Contains, nat_lt, ◌↔◌, Option, Some, None, is_some}
use Rattle.std.proofs.Common.{◌≡◌, ◌≢◌, ◌<◌, ◌≤◌, ℕ, zero, suc, Bool, true, false, List, [], ◌∷◌, ◌++◌, refl, sym, ap, subst, arith, append-nil, ◌∙◌, inl, inr}
use Rattle.std.proofs.lemmas.Bool.{cases_lt, cases_eq, and_parts, and_from}
use Rattle.std.proofs.lemmas.Bool.Decides.{nat_tests}
use Rattle.std.proofs.lemmas.List.Elements.{filter-append, filter_agree, filter_passes, All-contains, Contains-append_left, Contains-append_right, Contains-push}
use Rattle.kt_base.specs.Sets.{has}
use Rattle.kt_plan.specs.declared.steps.Step.{Step}
use Rattle.kt_plan.specs.declared.steps.Step.TheVariants.{Do, Take}
use Rattle.kt_promises.specs.Progress.{Progress}
use Rattle.kt_promises.specs.Steps.{enabled}
use Rattle.kt_system.specs.Reads.{can_take}
use Rattle.kt_core.specs.Choices.{takes_of, steps_of, steps_of_first, all_steps, choices, enabled_steps}
use Rattle.kt_core.specs.Shown.{Mirrors}
use Rattle.kt_system.specs.Systems.{state_of}
use Rattle.kt_core.specs.PlanLaws.{PlanLaws}
use Rattle.kt_core.specs.Agendas.{open_command}
use Rattle.kt_core.specs.Worlds.{World, process_may_do, can_do, can_make}
use Rattle.kt_core.proofs.Enabled.{below, enabled_is}

pub left_out : (f : Step → Bool) (x : Step) → f x ≡ false → filter f (x ∷ []) ≡ []
left_out f x e = ap (λ (b : Bool). cond b (x ∷ []) []) e

pub kept : (f : Step → Bool) (x : Step) → f x ≡ true → filter f (x ∷ []) ≡ x ∷ []
kept f x e = ap (λ (b : Bool). cond b (x ∷ []) []) e

-- takes that do not pass add nothing
pub takes_skipped : (f : Step → Bool) (p b c : ℕ) → b ≤ c → ((q : ℕ) → b ≤ q → q < c → f (Take p q) ≡ false) → filter f (takes_of p c) ≡ filter f (takes_of p b)
takes_skipped f p b zero l none = let e : zero ≡ b = omega (arith, l) in ap (λ (n : ℕ). filter f (takes_of p n)) e
takes_skipped f p b (suc c) l none = elim (cases_lt c b) [
  | inl m ↦ let e : suc c ≡ b = omega (arith, l, m) in ap (λ (n : ℕ). filter f (takes_of p n)) e
  | inr h ↦
      filter-append f (takes_of p c) (Take p c ∷ [])
      ∙ (ap (λ (l : List Step). filter f (takes_of p c) ++ l) (left_out f (Take p c) (none c h (omega arith)))
      ∙ (append-nil (filter f (takes_of p c)) ∙ takes_skipped f p b c h (λ q a k. none q a (omega (arith, k)))))
]

-- the next one that passes
pub takes_next : (f : Step → Bool) (p b q : ℕ) → b ≤ q → ((r : ℕ) → b ≤ r → r < q → f (Take p r) ≡ false) → f (Take p q) ≡ true → filter f (takes_of p (suc q)) ≡ filter f (takes_of p b) ++ Take p q ∷ []
takes_next f p b q l none is =
    filter-append f (takes_of p q) (Take p q ∷ [])
    ∙ (ap (λ (l : List Step). l ++ filter f (Take p q ∷ [])) (takes_skipped f p b q l none)
    ∙ ap (λ (l : List Step). filter f (takes_of p b) ++ l) (kept f (Take p q) is))

-- the least member is taken out of a set, so that those up to it are gone, and the others are members as before
module _ (set less q : ℕ) (least : (r : ℕ) → r < q → has set r ≡ false) (member : has set q ≡ true) (removed : has less q ≡ false) (others : (r : ℕ) → r ≢ q → has less r ≡ has set r) where
  pub was_member : (r : ℕ) → has less r ≡ true → has set r ≡ true
  was_member r m = elim (cases_eq r q) [
    | inl e ↦ subst (λ (n : ℕ). has set n ≡ true) (sym e) member
    | inr n ↦ sym (others r n) ∙ m
  ]

  pub gone_up_to : (r : ℕ) → r < suc q → has less r ≡ false
  gone_up_to r m = elim (cases_lt r q) [
    | inl k ↦ others r (let n : r ≢ q = omega (arith, k) in n) ∙ least r k
    | inr k ↦ let same : q ≡ r = omega (arith, m, k) in subst (λ (n : ℕ). has less n ≡ false) same removed
  ]

last_false : (a b c : Bool) → c ≡ false → (a && (b && c)) ≡ false
last_false true true c e = e
last_false true false c e = refl
last_false false b c e = refl

pub is_below : (p n : ℕ) → p < n → nat_lt p n ≡ true
is_below p n l = grind (arith, nat_tests, l)

pub no_take : (w : World) (p q : ℕ) → can_take w.system p q ≡ false → can_make w (Take p q) ≡ false
no_take w p q e = last_false (nat_lt p w.system.size) (nat_lt q w.system.size) (can_take w.system p q) e

takes : (w : World) (p q : ℕ) → p < w.system.size → q < w.system.size → can_take w.system p q ≡ true → can_make w (Take p q) ≡ true
takes w p q l k e =
    let n = w.system.size in
    and_from (nat_lt p n) (nat_lt q n && can_take w.system p q) (is_below p n l) (and_from (nat_lt q n) (can_take w.system p q) (is_below q n k) e)

-- a process does its next command where it can
pub does : (w : World) (p : ℕ) (b : Bool) → p < w.system.size → can_do w p ≡ b → can_make w (Do p) ≡ b
does w p b l e = ap (λ (t : Bool). t && can_do w p) (is_below p w.system.size l) ∙ e

-- processes with no step that passes add nothing
pub first_skipped : (f : Step → Bool) (n b c : ℕ) → b ≤ c → ((p : ℕ) → b ≤ p → p < c → filter f (steps_of n p) ≡ []) → filter f (steps_of_first n c) ≡ filter f (steps_of_first n b)
first_skipped f n b zero l none = let e : zero ≡ b = omega (arith, l) in ap (λ (m : ℕ). filter f (steps_of_first n m)) e
first_skipped f n b (suc c) l none = elim (cases_lt c b) [
  | inl m ↦ let e : suc c ≡ b = omega (arith, l, m) in ap (λ (m : ℕ). filter f (steps_of_first n m)) e
  | inr h ↦
      filter-append f (steps_of_first n c) (steps_of n c)
      ∙ (ap (λ (l : List Step). filter f (steps_of_first n c) ++ l) (none c h (omega arith))
      ∙ (append-nil (filter f (steps_of_first n c)) ∙ first_skipped f n b c h (λ p a k. none p a (omega (arith, k)))))
]

-- a process that can take nothing and do nothing has no step
pub no_step : (w : World) (p : ℕ) → p < w.system.size → ((q : ℕ) → can_take w.system p q ≡ false) → open_command w.agenda p ≡ None → filter (can_make w) (steps_of w.system.size p) ≡ []
no_step w p l idle closed =
    let f = can_make w in
    let n = w.system.size in
    let stays : can_do w p ≡ false = ap (process_may_do (state_of w.system p)) closed in
    filter-append f (takes_of p n) (Do p ∷ [])
    ∙ (ap (λ (l : List Step). l ++ filter f (Do p ∷ [])) (takes_skipped f p 0 n (omega arith) (λ q _ _. no_take w p q (idle q)))
    ∙ left_out f (Do p) (does w p false l stays))

-- the steps of the first b processes are listed, and no process but these and those left has one
pub record Listed (w : World) (now : List Step) (left b : ℕ) : Type 0 where
  pub within : b ≤ w.system.size
  pub are : now ≡ filter (can_make w) (steps_of_first w.system.size b)
  pub later : (p : ℕ) → b ≤ p → p < w.system.size → has left p ≡ false → filter (can_make w) (steps_of w.system.size p) ≡ []
  pub earlier : (p : ℕ) → p < b → has left p ≡ false
  pub there : (p : ℕ) → has left p ≡ true → p < w.system.size

is_none_if : {X : Type 0} (o : Option X) → is_some o ≡ false → o ≡ None
is_none_if None e = refl
is_none_if (Some x) e = absurd (cc (e))

module _ (w : World) (now : List Step) (left b : ℕ) (t : Listed w now left b) where
  -- the steps of the next process are listed
  pub listed_more : (new : List Step) (less p : ℕ) → has left p ≡ true → ((r : ℕ) → r < p → has left r ≡ false) → has less p ≡ false → ((r : ℕ) → r ≢ p → has less r ≡ has left r) → new ≡ now ++ filter (can_make w) (steps_of w.system.size p)
      → (b ≤ p) × Listed w new less (suc p)
  listed_more new less p member least removed others e =
      let f = can_make w in
      let n = w.system.size in
      let there = t.there p member in
      let from : b ≤ p = elim (cases_lt p b) [ inl l ↦ absurd (let g = t.earlier p l in cc (g, member)) | inr h ↦ h ] in (
        from,
        record {
          within = omega (arith, there);
          are = e ∙ (ap (λ (l : List Step). l ++ filter f (steps_of n p)) (t.are ∙ sym (first_skipped f n b p from (λ r a k. t.later r a (omega (arith, k, there)) (least r k))))
              ∙ sym (filter-append f (steps_of_first n p) (steps_of n p)));
          later = λ r a k gone. t.later r (omega (arith, a, from)) k (sym (others r (let d : r ≢ p = omega (arith, a) in d)) ∙ gone);
          earlier = gone_up_to left less p least member removed others;
          there = λ r m. t.there r (was_member left less p least member removed others r m);
        },
      )

  -- those before the next process are listed
  pub listed_upto : (p : ℕ) → has left p ≡ true → ((r : ℕ) → r < p → has left r ≡ false) → now ≡ filter (can_make w) (steps_of_first w.system.size p)
  listed_upto p member least =
      let there = t.there p member in
      let from : b ≤ p = elim (cases_lt p b) [ inl l ↦ absurd (let g = t.earlier p l in cc (g, member)) | inr h ↦ h ] in
      t.are ∙ sym (first_skipped (can_make w) w.system.size b p from (λ r a k. t.later r a (omega (arith, k, there)) (least r k)))

  -- no process is left
  pub listed_all : ((p : ℕ) → has left p ≡ false) → now ≡ choices w
  listed_all none = t.are ∙ sym (first_skipped (can_make w) w.system.size b w.system.size t.within (λ p a k. t.later p a k (none p)))

  pub listed_to_end : w.system.size ≤ b → now ≡ choices w
  listed_to_end end = let within = t.within in let e : b ≡ w.system.size = omega (arith, end, within) in t.are ∙ ap (λ (m : ℕ). filter (can_make w) (steps_of_first w.system.size m)) e

alone : (f : Step → Bool) (x : Step) → f x ≡ true → Contains (filter f (x ∷ [])) x
alone f x e = subst (λ (l : List Step). Contains l x) (sym (kept f x e)) (Contains-push [] x)

take_there : (f : Step → Bool) (p q n : ℕ) → f (Take p q) ≡ true → q < n → Contains (filter f (takes_of p n)) (Take p q)
take_there f p q zero is l = absurd (omega (arith, l))
take_there f p q (suc n) is l = subst (λ (list : List Step). Contains list (Take p q)) (sym (filter-append f (takes_of p n) (Take p n ∷ [])))
    (elim (cases_lt q n) [
      | inl k ↦ Contains-append_left (filter f (takes_of p n)) (filter f (Take p n ∷ [])) (Take p q) (take_there f p q n is k)
      | inr k ↦ let e : q ≡ n = omega (arith, l, k) in
          Contains-append_right (filter f (takes_of p n)) (filter f (Take p n ∷ [])) (Take p q)
          (subst (λ (m : ℕ). Contains (filter f (Take p m ∷ [])) (Take p q)) e (alone f (Take p q) is))
    ])

of_process : (f : Step → Bool) (n p m : ℕ) (x : Step) → p < m → Contains (filter f (steps_of n p)) x → Contains (filter f (steps_of_first n m)) x
of_process f n p zero x l there = absurd (omega (arith, l))
of_process f n p (suc m) x l there = subst (λ (list : List Step). Contains list x) (sym (filter-append f (steps_of_first n m) (steps_of n m)))
    (elim (cases_lt p m) [
      | inl k ↦ Contains-append_left (filter f (steps_of_first n m)) (filter f (steps_of n m)) x (of_process f n p m x k there)
      | inr k ↦ let e : p ≡ m = omega (arith, l, k) in
          Contains-append_right (filter f (steps_of_first n m)) (filter f (steps_of n m)) x
          (subst (λ (j : ℕ). Contains (filter f (steps_of n j)) x) e there)
    ])

-- each step that can be made is there
listed : (w : World) (x : Step) → can_make w x ≡ true → Contains (choices w) x
listed w (Do p) e =
    let f = can_make w in
    let n = w.system.size in
    of_process f n p n (Do p) (below p n (and_parts (nat_lt p n) (can_do w p) e).0)
    (subst (λ (list : List Step). Contains list (Do p)) (sym (filter-append f (takes_of p n) (Do p ∷ []))) (Contains-append_right (filter f (takes_of p n)) (filter f (Do p ∷ [])) (Do p) (alone f (Do p) e)))
listed w (Take p q) e =
    let f = can_make w in
    let n = w.system.size in
    let both = and_parts (nat_lt p n) (nat_lt q n && can_take w.system p q) e in
    of_process f n p n (Take p q) (below p n both.0)
    (subst (λ (list : List Step). Contains list (Take p q)) (sym (filter-append f (takes_of p n) (Do p ∷ [])))
    (Contains-append_left (filter f (takes_of p n)) (filter f (Do p ∷ [])) (Take p q) (take_there f p q n e (below q n (and_parts (nat_lt q n) (can_take w.system p q) both.1).0))))

-- these and no others
pub all_listed : (w : World) (x : Step) → (can_make w x ≡ true) ↔ Contains (choices w) x
all_listed w x = (listed w x, All-contains (λ (y : Step). can_make w y ≡ true) (choices w) x (filter_passes (can_make w) (all_steps w.system.size)))

-- as each run has them that leads here
pub listed_in_run : PlanLaws → (w : World) (first : ℕ) (v : Progress) → Mirrors w.agenda w.system first v → choices w ≡ enabled_steps w.agenda.plan v
listed_in_run laws w first v r =
    filter_agree (can_make w) (enabled w.agenda.plan v) (enabled_is laws w first v r) (all_steps w.system.size)
    ∙ ap (λ (n : ℕ). filter (enabled w.agenda.plan v) (all_steps n)) r.size
