-- Each enabled step is listed, and once.
use Rattle.std.proofs.Common.{◌≡◌, ◌≢◌, ◌<◌, ◌≤◌, ◌+◌, ◌*◌, ◌∙◌, ◌++◌, ℕ, zero, suc, Bool, true, List, [], ◌∷◌, length, refl, sym, ap, subst, arith, inl, inr, append-nil, append_assoc}
use Rattle.std.specs.Prelude.{◌↔◌, ◌&&◌, nat_lt, All, AllPairs, Contains, filter, cond}
use Rattle.std.proofs.Math.Nat.{suc-mul}
use Rattle.std.proofs.lemmas.Bool.{and_parts, cases_lt}
use Rattle.std.proofs.lemmas.Bool.Decides.{nat_tests}
use Rattle.std.proofs.lemmas.List.Elements.{All-push, All-weaker, All-contains, Contains-append_left, Contains-append_right, Contains-push, filter-append, filter_passes}
use Rattle.std.proofs.lemmas.List.Kept.{AllPairs-filter}
use Rattle.std.proofs.lemmas.List.Quantifiers.{all_pairs_push}
use Rattle.kt_plan.specs.Limits.{Planned}
use Rattle.kt_plan.specs.declared.steps.Step.{Step}
use Rattle.kt_plan.specs.declared.steps.Step.TheVariants.{Do, Take}
use Rattle.kt_promises.specs.Progress.{Progress, next_command}
use Rattle.kt_promises.specs.Steps.{can_take_from, enabled, may_do}
use Rattle.kt_core.specs.Choices.{takes_of, steps_of, steps_of_first, all_steps, enabled_steps}

-- the place of a step among all that n processes could make
rank : ℕ → Step → ℕ
rank n (Take p q) = p * suc n + q
rank n (Do p) = p * suc n + n

-- steps stand by rising places, below this one
record Rises (n below : ℕ) (list : List Step) : Type 0 where
  pairs : AllPairs (λ (a b : Step). rank n a < rank n b) list
  all : All (λ (a : Step). rank n a < below) list

push : (n below : ℕ) (list : List Step) (x : Step) (bound : ℕ) → Rises n below list → below ≤ rank n x → bound ≡ rank n x + 1 → Rises n bound (list ++ x ∷ [])
push n below list x bound h from e = record {
  pairs = all_pairs_push (λ (a b : Step). rank n a < rank n b) list x h.pairs (λ k d l. let low = h.all k d l in omega (arith, low, from));
  all = All-push (λ (a : Step). rank n a < bound) list x (All-weaker (λ (a : Step). rank n a < below) (λ (a : Step). rank n a < bound) (λ a low. omega (arith, low, from, e)) list h.all) (omega (arith, e));
}

of_take_is : (n p q : ℕ) → rank n (Take p q) ≡ p * suc n + q
unfolding rank
of_take_is n p q = refl

of_take : (n p q : ℕ) → p * suc n + q ≤ rank n (Take p q)
of_take n p q = let is = of_take_is n p q in omega (arith, is)

of_do_is : (n p : ℕ) → rank n (Do p) ≡ p * suc n + n
unfolding rank
of_do_is n p = refl

of_do : (n p : ℕ) → p * suc n + n ≤ rank n (Do p)
of_do n p = let is = of_do_is n p in omega (arith, is)

takes : (n p q : ℕ) (list : List Step) → q ≤ n → Rises n (p * suc n) list → Rises n (p * suc n + q) (list ++ takes_of p q)
takes n p zero list m h =
    let same : p * suc n + 0 ≡ p * suc n = omega arith in
    subst (λ (b : ℕ). Rises n b (list ++ [])) (sym same) (subst (Rises n (p * suc n)) (sym (append-nil list)) h)
takes n p (suc q) list m h =
    subst (Rises n (p * suc n + suc q)) (append_assoc list (takes_of p q) (Take p q ∷ []))
    (push n (p * suc n + q) (list ++ takes_of p q) (Take p q) (p * suc n + suc q) (takes n p q list (omega (arith, m)) h) (of_take n p q) (omega (arith, of_take_is n p q)))

steps : (n p : ℕ) (list : List Step) → Rises n (p * suc n) list → Rises n (suc p * suc n) (list ++ steps_of n p)
steps n p list h =
    let round = suc-mul p (suc n) in
    subst (Rises n (suc p * suc n)) (append_assoc list (takes_of p n) (Do p ∷ []))
    (push n (p * suc n + n) (list ++ takes_of p n) (Do p) (suc p * suc n) (takes n p n list (omega arith) h) (of_do n p) (omega (arith, round, of_do_is n p)))

first : (n m : ℕ) → Rises n (m * suc n) (steps_of_first n m)
first n zero = record { pairs = λ i j d l w. absurd (omega (arith, w)); all = λ i d l. absurd (omega (arith, l)) }
first n (suc m) = steps n m (steps_of_first n m) (first n m)

-- steps that pass, listed behind others
module _ (f : Step → Bool) (x : Step) where
  last : (list : List Step) → f x ≡ true → Contains (filter f (list ++ x ∷ [])) x
  last list is =
      let one : filter f (x ∷ []) ≡ x ∷ [] = ap (λ (b : Bool). cond b (x ∷ []) []) is in
      subst (λ (l : List Step). Contains l x) (sym (filter-append f list (x ∷ []) ∙ ap (λ (l : List Step). filter f list ++ l) one)) (Contains-push (filter f list) x)

  before : (list others : List Step) → Contains (filter f list) x → Contains (filter f (list ++ others)) x
  before list others h = subst (λ (l : List Step). Contains l x) (sym (filter-append f list others)) (Contains-append_left (filter f list) (filter f others) x h)

  behind : (list others : List Step) → Contains (filter f others) x → Contains (filter f (list ++ others)) x
  behind list others h = subst (λ (l : List Step). Contains l x) (sym (filter-append f list others)) (Contains-append_right (filter f list) (filter f others) x h)

  among : (n p m : ℕ) → p < m → Contains (filter f (steps_of n p)) x → Contains (filter f (steps_of_first n m)) x
  among n p zero l h = absurd (omega (arith, l))
  among n p (suc m) l h = elim (cases_lt p m) [
    | inl k ↦ before (steps_of_first n m) (steps_of n m) (among n p m k h)
    | inr k ↦ let same : p ≡ m = omega (arith, l, k) in behind (steps_of_first n m) (steps_of n m) (subst (λ (j : ℕ). Contains (filter f (steps_of n j)) x) same h)
  ]

taken : (f : Step → Bool) (p q n : ℕ) → f (Take p q) ≡ true → q < n → Contains (filter f (takes_of p n)) (Take p q)
taken f p q zero is l = absurd (omega (arith, l))
taken f p q (suc n) is l = elim (cases_lt q n) [
  | inl k ↦ before f (Take p q) (takes_of p n) (Take p n ∷ []) (taken f p q n is k)
  | inr k ↦ let same : q ≡ n = omega (arith, l, k) in subst (λ (m : ℕ). Contains (filter f (takes_of p m ++ Take p m ∷ [])) (Take p q)) same (last f (Take p q) (takes_of p q) is)
]

below : (p n : ℕ) → nat_lt p n ≡ true → p < n
below p n e = grind (arith, nat_tests, e)

-- each step that is enabled is listed, and no other one
pub each_listed : (plan : Planned) (v : Progress) (x : Step) → (enabled plan v x ≡ true) ↔ Contains (enabled_steps plan v) x
each_listed plan v x = (there x, λ h. All-contains (λ (y : Step). enabled plan v y ≡ true) (enabled_steps plan v) x (filter_passes (enabled plan v) (all_steps (length plan.names))) h)
  where
    there : (x : Step) → enabled plan v x ≡ true → Contains (enabled_steps plan v) x
    there (Do p) is =
        let n = length plan.names in
        let f = enabled plan v in
        let within = below p n (and_parts (nat_lt p n) (may_do v p (next_command plan v p)) is).0 in
        among f (Do p) n p n within (last f (Do p) (takes_of p n) is)
    there (Take p q) is =
        let n = length plan.names in
        let f = enabled plan v in
        let both = (and_parts (nat_lt p n && nat_lt q n) (can_take_from v.now p q) is).0 in
        let parts = and_parts (nat_lt p n) (nat_lt q n) both in
        among f (Take p q) n p n (below p n parts.0) (before f (Take p q) (takes_of p n) (Do p ∷ []) (taken f p q n is (below q n parts.1)))

-- once
pub once : (plan : Planned) (v : Progress) → AllPairs (λ (a b : Step). a ≢ b) (enabled_steps plan v)
once plan v =
    let n = length plan.names in
    AllPairs-filter (λ (a b : Step). a ≢ b) (enabled plan v) (all_steps n)
    (λ i j d l w e. let rises = (first n n).pairs i j d l w in let same = ap (rank n) e in absurd (omega (arith, rises, same)))
