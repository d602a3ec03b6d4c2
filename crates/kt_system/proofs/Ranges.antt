-- Lists cut, trimmed and put back, one sender after another.
use Rattle.std.specs.Prelude.{◌==◌, ◌&&◌, not, nat_lt, if◌then◌else◌, Option, Some, None}
use Rattle.std.proofs.Common.{◌≡◌, ◌≢◌, ℕ, zero, suc, ◌≤◌, ◌+◌, Bool, true, false, List, [], ◌∷◌, ◌++◌, length, drop, refl, arith, sym, ap, subst, ◌∙◌, inl, inr}
use Rattle.std.proofs.Math.Path.{fun_ext}
use Rattle.std.proofs.lemmas.Bool.{cases_eq}
use Rattle.std.proofs.lemmas.Bool.Decides.{nat_tests}
use Rattle.kt_fifo.specs.declared.parcels.Parcel.{Parcel}
use Rattle.kt_fifo.specs.Parcels.{stays, without_above}
use Rattle.kt_fifo.specs.Queues.{has_parcel}
use Rattle.kt_fifo.specs.Channels.{ChannelLists, channel, at_pair}
use Rattle.kt_machine.specs.Seen.{SeenLists}
use Rattle.kt_machine.specs.ListChanges.{low}
use Rattle.kt_system.specs.Kept.{lowered, put_back, emptied}
use Rattle.kt_system.proofs.Trimmed.{Change, changed}

-- nothing stands in the lists of who is not there
pub outside : (w : ChannelLists) (q u : ℕ) → w.processes ≤ q → channel w q u ≡ []
outside w q u h = grind (arith, nat_tests)

pub drop_nil : (k : ℕ) (xs : List Parcel) → xs ≡ [] → drop k xs ≡ []
drop_nil zero xs e = e
drop_nil (suc k) [] e = refl
drop_nil (suc k) (x ∷ xs) e = absurd (cc (e))

drop_one : (k : ℕ) (xs : List Parcel) → drop 1 (drop k xs) ≡ drop (k + 1) xs
drop_one zero xs = refl
drop_one (suc k) [] = sym (drop_nil (suc k + 1) [] refl)
drop_one (suc k) (x ∷ xs) = let on : suc (k + 1) ≡ suc k + 1 = omega arith in drop_one k xs ∙ ap (λ (n : ℕ). drop n (x ∷ xs)) on

pub dropped_none : (f : SeenLists) (q p : ℕ) → f ≡ at_pair q p (drop 0 (f q p)) f
dropped_none f q p = fun_ext (λ u. fun_ext (λ v. at_test u v))
  where
    at_test : (u v : ℕ) → f u v ≡ at_pair q p (drop 0 (f q p)) f u v
    at_test u v = elim (cases_eq u q) [
      | inl e ↦ elim (cases_eq v p) [
        | inl k ↦ rw (e, k) (grind (arith, nat_tests))
        | inr n ↦ grind (arith, nat_tests)
      ]
      | inr n ↦ grind (arith, nat_tests)
    ]

pub dropped_more : (f : SeenLists) (q p k : ℕ) → at_pair q p (drop 1 (at_pair q p (drop k (f q p)) f q p)) (at_pair q p (drop k (f q p)) f) ≡ at_pair q p (drop (k + 1) (f q p)) f
dropped_more f q p k = fun_ext (λ u. fun_ext (λ v. let h = drop_one k (f q p) in grind (arith, nat_tests)))

pub no_parcel : (l : List Parcel) → has_parcel l ≡ false → l ≡ []
no_parcel [] e = refl
no_parcel (x ∷ xs) e = absurd (cc e)

-- a change that leaves no parcel where there is none changes nothing there
pub still : (k : List Parcel → List Parcel) (l : List Parcel) → k [] ≡ [] → has_parcel l ≡ false → k l ≡ l
still k l e none = let z = no_parcel l none in ap k z ∙ (e ∙ sym z)

pub changed_none : (set : ℕ → Bool) (p : ℕ) (g : Change) (f : SeenLists) → ((q : ℕ) → set q ≡ false → g q (f q p) ≡ f q p) → f ≡ changed set p g f
unfolding changed
changed_none set p g f h = fun_ext (λ q. fun_ext (λ u. elim (cases_eq u p) [
  | inl e ↦ subst (λ (u : ℕ). f q u ≡ (if u == p && not (set q) then g q (f q u) else f q u)) (sym e) (at_test q (set q) refl)
  | inr e ↦ grind (arith, nat_tests)
]))
  where
    at_test : (q : ℕ) (b : Bool) → set q ≡ b → f q p ≡ (if p == p && not (set q) then g q (f q p) else f q p)
    at_test q true e = grind (arith, nat_tests, e)
    at_test q false e = let k = h q e in grind (arith, nat_tests, e, k)

pub unchanged : (set : ℕ → Bool) (p n : ℕ) (g : Change) (f : SeenLists) → set n ≡ true → changed set p g f n p ≡ f n p
unfolding changed
unchanged set p n g f e = grind (arith, nat_tests, e)

pub changed_one : (set left : ℕ → Bool) (p n : ℕ) (g : Change) (f : SeenLists) → set n ≡ true → left n ≡ false → ((q : ℕ) → q ≢ n → left q ≡ set q) →
    at_pair n p (g n (changed set p g f n p)) (changed set p g f) ≡ changed left p g f
unfolding changed
changed_one set left p n g f e l others = fun_ext (λ q. fun_ext (λ u. elim (cases_eq q n) [
  | inl same ↦ elim (cases_eq u p) [
    | inl here ↦ rw (same, here) (grind (arith, nat_tests, e, l))
    | inr m ↦ rw (same) (grind (arith, nat_tests, e, l))
  ]
  | inr m ↦ let o = others q m in grind (arith, nat_tests, o)
]))

pub changed_all : (set : ℕ → Bool) (p : ℕ) (g : Change) (f : SeenLists) → ((q : ℕ) → set q ≡ false) → changed set p g f ≡ (λ q u. if u == p then g q (f q u) else f q u)
unfolding changed
changed_all set p g f none = fun_ext (λ q. fun_ext (λ u. let e = none q in grind (arith, nat_tests, e)))

not_less : (q n : ℕ) → nat_lt q n ≡ false → n ≤ q
not_less q n e = grind (arith, nat_tests)

-- beyond the last process
beyond : (w : ChannelLists) (q u n : ℕ) → w.processes ≤ n → nat_lt q n ≡ false → channel w q u ≡ []
beyond w q u n h e = outside w q u (omega (arith, not_less q n e))

pub low_nil : (note : Option ℕ) → low note [] ≡ []
low_nil None = refl
low_nil (Some l) = refl

-- what the machine does at a closed rollback
abbrev pub back_in : ℕ → (ℕ → Option ℕ) → SeenLists → SeenLists → SeenLists
back_in p noted kept held q u = if u == p then low (noted q) (kept q u) ++ low (noted q) (held q u) else held q u

abbrev pub gone : ℕ → SeenLists → SeenLists
gone p kept q u = if u == p then [] else kept q u

-- what was kept, without what is above the label noted of its sender, goes in front
abbrev pub in_front : ℕ → (ℕ → Option ℕ) → SeenLists → Change
in_front p noted kept q l = low (noted q) (kept q p) ++ l

abbrev pub nothing_left : Change
nothing_left q l = []

pub front_of_lowered : (p : ℕ) (noted : ℕ → Option ℕ) (kept held : SeenLists) → (λ q u. if u == p then in_front p noted kept q (lowered p noted held q u) else lowered p noted held q u) ≡ back_in p noted kept held
unfolding lowered
front_of_lowered p noted kept held = fun_ext (λ q. fun_ext (λ u. elim (cases_eq u p) [
  | inl e ↦ rw (e) (grind (arith, nat_tests))
  | inr e ↦ grind (arith, nat_tests)
]))

pub back_all : (n p : ℕ) (noted : ℕ → Option ℕ) (kept held : ChannelLists) → kept.processes ≤ n → held.processes ≤ n → put_back n p noted (channel kept) (channel held) ≡ back_in p noted (channel kept) (channel held)
unfolding put_back
back_all n p noted kept held a b = fun_ext (λ q. fun_ext (λ u. at_test q u (nat_lt q n) refl))
  where
    plain : (f g : SeenLists) (q u : ℕ) → nat_lt q n ≡ true → put_back n p noted f g q u ≡ back_in p noted f g q u
    plain f g q u e = grind (arith, nat_tests)

    none : (f g : SeenLists) (q u : ℕ) → nat_lt q n ≡ false → f q u ≡ [] → g q u ≡ [] → put_back n p noted f g q u ≡ back_in p noted f g q u
    none f g q u e i j =
        let x : low (noted q) (f q u) ≡ [] = ap (λ (l : List Parcel). low (noted q) l) i ∙ low_nil (noted q) in
        let y : low (noted q) (g q u) ≡ [] = ap (λ (l : List Parcel). low (noted q) l) j ∙ low_nil (noted q) in
        grind (arith, nat_tests)

    at_test : (q u : ℕ) (b : Bool) → nat_lt q n ≡ b → put_back n p noted (channel kept) (channel held) q u ≡ back_in p noted (channel kept) (channel held) q u
    at_test q u true e = plain (channel kept) (channel held) q u e
    at_test q u false e = none (channel kept) (channel held) q u e (beyond kept q u n a e) (beyond held q u n b e)

pub gone_all : (n p : ℕ) (kept : ChannelLists) → kept.processes ≤ n → emptied n p (channel kept) ≡ gone p (channel kept)
unfolding emptied
gone_all n p kept a = fun_ext (λ q. fun_ext (λ u. at_test q u (nat_lt q n) refl))
  where
    plain : (f : SeenLists) (q u : ℕ) → nat_lt q n ≡ true → emptied n p f q u ≡ gone p f q u
    plain f q u e = grind (arith, nat_tests)

    none : (f : SeenLists) (q u : ℕ) → nat_lt q n ≡ false → f q u ≡ [] → emptied n p f q u ≡ gone p f q u
    none f q u e i = grind (arith, nat_tests)

    at_test : (q u : ℕ) (b : Bool) → nat_lt q n ≡ b → emptied n p (channel kept) q u ≡ gone p (channel kept) q u
    at_test q u true e = plain (channel kept) q u e
    at_test q u false e = none (channel kept) q u e (beyond kept q u n a e)

-- what is left is no longer
pub above_less : (most : ℕ) (xs : List Parcel) → length (without_above most xs) ≤ length xs
above_less most [] = omega arith
above_less most (x ∷ xs) = at_test (stays most x) (above_less most xs)
  where
    at_test : (b : Bool) → length (without_above most xs) ≤ length xs → length (if b then x ∷ without_above most xs else without_above most xs) ≤ length (x ∷ xs)
    at_test true h = omega arith
    at_test false h = omega arith

pub low_less : (note : Option ℕ) (xs : List Parcel) → length (low note xs) ≤ length xs
low_less None xs = omega arith
low_less (Some l) xs = above_less l xs

abbrev pub Rooms : Type 0
Rooms = ℕ → ℕ → ℕ

more : (old : Rooms) (q p n u v : ℕ) → old u v ≤ at_pair q p (old q p + n) old u v
more old q p n u v = grind (arith, nat_tests)

-- a list that got shorter has more room
pub grown : (old new : Rooms) (q p n : ℕ) → new ≡ at_pair q p (old q p + n) old → (u v : ℕ) → old u v ≤ new u v
grown old new q p n e u v = subst (λ (f : Rooms). old u v ≤ f u v) (sym e) (more old q p n u v)

-- the room for this sender's
pub room_fits : (kept kept1 : SeenLists) (old held1 : Rooms) (n p m : ℕ) (note : Option ℕ) → m ≡ n → kept1 ≡ at_pair m p (low note (kept m p)) kept → ((u v : ℕ) → old u v ≤ held1 u v) →
    length (kept n p) ≤ old n p → length (kept1 m p) ≤ held1 m p
room_fits kept kept1 old held1 n p m note here e g room = subst (λ (x : ℕ). length (kept1 x p) ≤ held1 x p) (sym here)
    (let e2 : kept1 ≡ at_pair n p (low note (kept n p)) kept = e ∙ ap (λ (m : ℕ). at_pair m p (low note (kept m p)) kept) here in
    let x : kept1 n p ≡ low note (kept n p) = ap (λ (z : SeenLists). z n p) e2 ∙ own (low note (kept n p)) in
    let z = ap (λ (l : List Parcel). length l) x in
    let k = g n p in
    let s = low_less note (kept n p) in
    omega arith)
  where
    own : (l : List Parcel) → at_pair n p l kept n p ≡ l
    own l = grind (arith, nat_tests)

-- where the room of one pair does not shrink and that of the others stays, none shrinks
pub grows_all : (old new : Rooms) (p q x : ℕ) → new ≡ at_pair p q x old → old p q ≤ new p q → (u v : ℕ) → old u v ≤ new u v
grows_all old new p q x e g u v = elim (cases_eq u p) [
  | inl a ↦ elim (cases_eq v q) [
    | inl b ↦ rw (a, b) g
    | inr b ↦ subst (λ (f : Rooms). old u v ≤ f u v) (sym e) (right b)
  ]
  | inr a ↦ subst (λ (f : Rooms). old u v ≤ f u v) (sym e) (left a)
]
  where
    right : v ≢ q → old u v ≤ at_pair p q x old u v
    right n = grind (arith, nat_tests)

    left : u ≢ p → old u v ≤ at_pair p q x old u v
    left n = grind (arith, nat_tests)

own_at : (n p : ℕ) (l : List Parcel) (f : SeenLists) → at_pair n p l f n p ≡ l
own_at n p l f = grind (arith, nat_tests)

-- one sender more, as the calls say it
pub held_step : (set left : ℕ → Bool) (p n : ℕ) (note : Option ℕ) (noted : ℕ → Option ℕ) (K L kept kept1 held held1 : SeenLists) → note ≡ noted n → kept ≡ changed set p nothing_left K → kept1 ≡ at_pair n p (low note (kept n p)) kept →
    held ≡ changed set p (in_front p noted K) L → held1 ≡ at_pair n p (kept1 n p ++ held n p) held → set n ≡ true → left n ≡ false → ((q : ℕ) → q ≢ n → left q ≡ set q) → held1 ≡ changed left p (in_front p noted K) L
held_step set left p n note noted K L kept kept1 held held1 a b e f g m gone others =
    let own : kept1 n p ≡ low note (kept n p) = ap (λ (z : SeenLists). z n p) e ∙ own_at n p (low note (kept n p)) kept in
    let same : kept n p ≡ K n p = ap (λ (z : SeenLists). z n p) b ∙ unchanged set p n nothing_left K m in
    let moved : kept1 n p ≡ low (noted n) (K n p) = own ∙ (ap (λ (l : List Parcel). low note l) same ∙ ap (λ (x : Option ℕ). low x (K n p)) a) in
    g
    ∙ (ap (λ (l : List Parcel). at_pair n p (l ++ held n p) held) moved
    ∙ (ap (λ (z : SeenLists). at_pair n p (low (noted n) (K n p) ++ z n p) z) f ∙ changed_one set left p n (in_front p noted K) L m gone others))

pub kept_step : (set left : ℕ → Bool) (p n : ℕ) (note : Option ℕ) (K kept kept1 kept2 : SeenLists) → kept ≡ changed set p nothing_left K → kept1 ≡ at_pair n p (low note (kept n p)) kept → kept2 ≡ at_pair n p [] kept1 →
    set n ≡ true → left n ≡ false → ((q : ℕ) → q ≢ n → left q ≡ set q) → kept2 ≡ changed left p nothing_left K
kept_step set left p n note K kept kept1 kept2 b e g m gone others =
    g
    ∙ (ap (λ (z : SeenLists). at_pair n p [] z) e
    ∙ (twice n p (low note (kept n p)) kept
    ∙ (ap (λ (z : SeenLists). at_pair n p [] z) b ∙ changed_one set left p n nothing_left K m gone others)))
  where
    twice : (n p : ℕ) (l : List Parcel) (f : SeenLists) → at_pair n p [] (at_pair n p l f) ≡ at_pair n p [] f
    twice n p l f = fun_ext (λ u. fun_ext (λ v. grind (arith, nat_tests)))

-- the room of another pair stays
pub room_elsewhere : (K : SeenLists) (old new : Rooms) (n p q x : ℕ) → new ≡ at_pair n p x old → q ≢ n → length (K q p) ≤ old q p → length (K q p) ≤ new q p
room_elsewhere K old new n p q x e other room = subst (λ (f : Rooms). length (K q p) ≤ f q p) (sym e) (grind (arith, nat_tests))
