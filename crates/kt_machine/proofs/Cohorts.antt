-- What kt_tables answers, as the transitions have it.
use Rattle.std.proofs.Common.{inl, inr, ◌≡◌, ℕ, zero, suc, ◌<◌, ◌≤◌, Bool, true, false, List, [], ◌∷◌, ◌++◌, length, get_or, refl, arith, sym, ap, ◌∙◌}
use Rattle.std.specs.Prelude.{◌==◌, ◌&&◌, ◌||◌, nat_lt, nat_le, if◌then◌else◌, Contains, AllPairs, IsTrue, ◌↔◌}
use Rattle.std.proofs.Math.Path.{fun_ext}
use Rattle.std.proofs.lemmas.Bool.{cases_lt}
use Rattle.std.proofs.lemmas.Bool.Decides.{nat_tests}
use Rattle.std.proofs.lemmas.List.{append-nil}
use Rattle.kt_base.specs.declared.words.Kind.{Kind}
use Rattle.kt_fifo.specs.declared.parcels.Parcel.{Parcel}
use Rattle.kt_fifo.specs.declared.parcels.Parcel.TheVariants.{Ask}
use Rattle.kt_tables.specs.Calls.{Call, parts, sents, receiveds, Speaks}
use Rattle.kt_tables.specs.Labels.{least, greatest}
use Rattle.kt_tables.specs.Peers.{count_peers, IsCohort}
use Rattle.kt_tables.proofs.LabelLists.{least_decides, greatest_decides}
use Rattle.kt_tables.proofs.CallParts.{sent_rises}
use Rattle.kt_machine.specs.Seen.{SeenLists}
use Rattle.kt_machine.specs.ListChanges as changes
use Rattle.kt_machine.specs.CallTests as tests
use Rattle.kt_machine.specs.InOnePiece.{asks_to, with_asks}

abbrev pub Pairs : Type 0
Pairs = List (ℕ × ℕ)

is_named : Pairs → ℕ → Bool
is_named [] q = false
is_named (x ∷ xs) q = (x.0 == q) || is_named xs q

first : (a b : Bool) → (a || b) ≡ false → a ≡ false
first a b e = grind (arith, nat_tests)

second : (a b : Bool) → (a || b) ≡ false → b ≡ false
second a b e = grind (arith, nat_tests)

in_is_named : (xs : Pairs) (q l k : ℕ) → k < length xs → get_or xs k (q, l) ≡ (q, l) → is_named xs q ≡ true
unfolding is_named
in_is_named [] q l k b e = absurd (omega arith)
in_is_named (x ∷ xs) q l zero b e = let k : x.0 ≡ q = ap (λ (y : ℕ × ℕ). y.0) e in grind (arith, nat_tests)
in_is_named (x ∷ xs) q l (suc k) b e = let h = in_is_named xs q l k (omega arith) e in grind (arith, nat_tests)

is_named_in : (xs : Pairs) (q : ℕ) → is_named xs q ≡ true → (l : ℕ) × Contains xs (q, l)
unfolding is_named
is_named_in [] q e = absurd (cc)
is_named_in (x ∷ xs) q e = at_test (x.0 == q) refl (λ h. is_named_in xs q h)
  where
    eq_of : (a b : ℕ) → (a == b) ≡ true → a ≡ b
    eq_of a b e = grind (arith, nat_tests)

    rest : (a b : Bool) → a ≡ false → (a || b) ≡ true → b ≡ true
    rest a b e f = grind (arith, nat_tests)

    at_test : (b : Bool) → (x.0 == q) ≡ b → (is_named xs q ≡ true → (l : ℕ) × Contains xs (q, l)) → (l : ℕ) × Contains (x ∷ xs) (q, l)
    at_test true t more = (x.1, (0, (let k : 0 < length (x ∷ xs) = omega arith in k), ap (λ (a : ℕ). (a, x.1)) (eq_of x.0 q t)))
    at_test false t more =
        let h = more (rest (x.0 == q) (is_named xs q) t e) in
        (h.0, (suc h.1.0, (let b = h.1.1 in let k : suc h.1.0 < length (x ∷ xs) = omega arith in k), h.1.2))

-- two tests that are true together are one
both : (a b : Bool) → (a ≡ true → b ≡ true) → (b ≡ true → a ≡ true) → a ≡ b
both true b f g = sym (f refl)
both false true f g = g refl
both false false f g = refl

named_is : (ask : Pairs) (test : ℕ → Bool) (label : ℕ → ℕ) → IsCohort ask test label → (q : ℕ) → is_named ask q ≡ test q
named_is ask test label c q = both (is_named ask q) (test q)
    (λ e. let h = is_named_in ask q e in ((c.members q h.0).0 h.1).0)
    (λ e. let h = (c.members q (label q)).1 (e, refl) in in_is_named ask q (label q) h.0 h.1 h.2)

not_named : (k : ℕ) (kind : Kind) (v : ℕ) (xs : Pairs) → is_named xs v ≡ false → asks_to k kind v xs ≡ []
unfolding is_named
not_named k kind v [] e = refl
not_named k kind v (x ∷ xs) e = let a = first (x.0 == v) (is_named xs v) e in let h = not_named k kind v xs (second (x.0 == v) (is_named xs v) e) in rw a h

-- the later ones are of greater processes
later_ones : (x : ℕ × ℕ) (xs : Pairs) (v : ℕ) → ((j : ℕ) (d : ℕ × ℕ) → j < length xs → x.0 < (get_or xs j d).0) → v ≤ x.0 → is_named xs v ≡ false
unfolding is_named
later_ones x [] v h b = refl
later_ones x (y ∷ xs) v h b =
    let first = h 0 y (let k : 0 < length (y ∷ xs) = omega arith in k) in
    let rest = later_ones x xs v (λ j d l. h (suc j) d (let k : suc j < length (y ∷ xs) = omega arith in k)) b in
    grind (arith, nat_tests)

one_ask : (k : ℕ) (kind : Kind) (v l : ℕ) (xs : Pairs) → AllPairs (λ x y. x.0 < y.0) xs → Contains xs (v, l) → asks_to k kind v xs ≡ Ask k kind l ∷ []
one_ask k kind v l [] r c = absurd (omega (arith, c.1))
one_ask k kind v l (x ∷ xs) r (zero, b, e) =
    let first : x.0 ≡ v = ap (λ (y : ℕ × ℕ). y.0) e in
    let second : x.1 ≡ l = ap (λ (y : ℕ × ℕ). y.1) e in
    let none = not_named k kind v xs (later_ones x xs v (λ j d h. r 0 (suc j) d (omega arith) (let z : suc j < length (x ∷ xs) = omega arith in z)) (omega arith)) in
    grind (arith, nat_tests)
one_ask k kind v l (x ∷ xs) r (suc j, b, e) =
    let tail = one_ask k kind v l xs (λ i j d g h. r (suc i) (suc j) d (omega arith) (let z : suc j < length (x ∷ xs) = omega arith in z)) (j, (let z : j < length xs = omega arith in z), e) in
    let here : x.0 < (get_or xs j (v, l)).0 = r 0 (suc j) (v, l) (omega arith) (let z : suc j < length (x ∷ xs) = omega arith in z) in
    let there : (get_or xs j (v, l)).0 ≡ v = ap (λ (y : ℕ × ℕ). y.0) e in
    grind (arith, nat_tests)

-- the asks of a cohort, put one by one, are those of the transition
pub with_cohort : (channel : SeenLists) (p k : ℕ) (kind : Kind) (asks : Pairs) (test : ℕ → Bool) (label : ℕ → ℕ) → IsCohort asks test label → with_asks channel p k kind asks ≡ changes.with_asks_where channel p k kind test label
unfolding with_asks changes.with_asks_where
with_cohort channel p k kind asks test label c = fun_ext (λ u. fun_ext (λ v. at_test u v (test v) refl))
  where
    at_test : (u v : ℕ) (b : Bool) → test v ≡ b → (if u == p then channel u v ++ asks_to k kind v asks else channel u v) ≡ (if u == p && b then channel u v ++ Ask k kind (label v) ∷ [] else channel u v)
    at_test u v true e = at_row (u == p)
      where
        at_row : (r : Bool) → (if r then channel u v ++ asks_to k kind v asks else channel u v) ≡ (if r && true then channel u v ++ Ask k kind (label v) ∷ [] else channel u v)
        at_row true = ap (λ (l : List Parcel). channel u v ++ l) (one_ask k kind v (label v) asks c.rising ((c.members v (label v)).1 (e, refl)))
        at_row false = refl
    at_test u v false e = at_row (u == p)
      where
        at_row : (r : Bool) → (if r then channel u v ++ asks_to k kind v asks else channel u v) ≡ (if r && false then channel u v ++ Ask k kind (label v) ∷ [] else channel u v)
        at_row true = ap (λ (l : List Parcel). channel u v ++ l) (not_named k kind v asks (named_is asks test label c v ∙ e)) ∙ append-nil (channel u v)
        at_row false = refl

-- the tests of the tables
pub take_is : (result : Bool) (calls : List Call) (q l : ℕ) → Speaks calls → (IsTrue result ↔ ((x : ℕ) × Contains (sents q (parts calls).since) x × (x ≤ l))) → result ≡ tests.must_take calls q l
unfolding tests.must_take
take_is result calls q l s h = both result (nat_lt 0 (least (sents q (parts calls).since)) && nat_le (least (sents q (parts calls).since)) l)
    (λ e. let x = (least_decides (sents q (parts calls).since) l (sent_rises calls s q)).1 (h.0 e) in two (least (sents q (parts calls).since)) x.0 x.1)
    (λ e. let x = of_two (least (sents q (parts calls).since)) e in h.1 ((least_decides (sents q (parts calls).since) l (sent_rises calls s q)).0 x))
  where
    two : (n : ℕ) → 0 < n → n ≤ l → (nat_lt 0 n && nat_le n l) ≡ true
    two n a b = grind (arith, nat_tests, a, b)

    of_two : (n : ℕ) → (nat_lt 0 n && nat_le n l) ≡ true → (0 < n) × (n ≤ l)
    of_two n e = grind (arith, nat_tests, e)

pub roll_is : (result : Bool) (calls : List Call) (q l : ℕ) → (IsTrue result ↔ ((x : ℕ) × Contains (receiveds q (parts calls).since) x × (l < x))) → result ≡ tests.must_roll calls q l
unfolding tests.must_roll
roll_is result calls q l h = both result (nat_lt l (greatest (receiveds q (parts calls).since)))
    (λ e. let x = (greatest_decides (receiveds q (parts calls).since) l).1 (h.0 e) in one (greatest (receiveds q (parts calls).since)) x)
    (λ e. h.1 ((greatest_decides (receiveds q (parts calls).since) l).0 (of_one (greatest (receiveds q (parts calls).since)) e)))
  where
    one : (n : ℕ) → l < n → nat_lt l n ≡ true
    one n a = grind (arith, nat_tests, a)

    of_one : (n : ℕ) → nat_lt l n ≡ true → l < n
    of_one n e = grind (arith, nat_tests, e)

-- to count further finds no more
pub count_far : (n m : ℕ) (f : ℕ → Bool) → ((q : ℕ) → f q ≡ true → q < n) → n ≤ m → count_peers m f ≡ count_peers n f
unfolding count_peers
count_far n zero f h l = (let e : n ≡ 0 = omega (arith, l) in ap (λ (x : ℕ). count_peers x f) (sym e))
count_far n (suc m) f h l = elim (cases_lt m n) [
  | inl a ↦ (let e : n ≡ suc m = omega (arith, a, l) in ap (λ (x : ℕ). count_peers x f) (sym e))
  | inr a ↦ (let x = count_far n m f h (omega (arith, a)) in let y = off (f m) refl a in omega (arith, x, y))
]
  where
    off : (b : Bool) → f m ≡ b → n ≤ m → ◌≡◌ {A = ℕ} (if f m then 1 else 0) 0
    off false e a = rw e refl
    off true e a = (let x = h m e in absurd (omega (arith, x, a)))
