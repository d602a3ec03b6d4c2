-- Messages of which some are marked.
use Rattle.std.proofs.Common.{◌≡◌, ℕ, zero, suc, ◌+◌, ◌<◌, ◌≤◌, Bool, true, false, Some, None, Ok, Err, List, [], ◌∷◌, ◌++◌, length, length-append, length-set, get_or, get_or-set_other, take, drop, set, refl, sym, ap, ◌∙◌, subst, arith, inl, inr}
use Rattle.std.specs.List.{slice_get, remove, insert}
use Rattle.std.specs.Prelude.{Result, OnOk}
use Rattle.std.specs.Result.{is_err}
use Rattle.kt_meaning.proofs.Lists.{get_push}
use Rattle.kt_walk.proofs.TransitFacts.{get_left}
use Rattle.std.proofs.lemmas.Bool.{cases_lt, cases_eq}
use Rattle.std.proofs.lemmas.Option.{slice_get_within, slice_get-get_or}
use Rattle.kt_walk.specs.declared.in_transit.Sent.{Sent}
use Rattle.kt_walk.specs.TransitList.{IsBySend, Belongs}
use Rattle.kt_walk.specs.Marks.{ones, pick, shown, AreRisingMessages, HasMarkOfEach}

abbrev pub AreUnset : ℕ → List Bool → Type 0
AreUnset n marks = (k : ℕ) → n ≤ k → get_or marks k false ≡ false

-- with marks, what is shown is what is marked
pub shown_picked : (marks : List Bool) (xs : List Sent) → 0 < length marks → shown marks xs ≡ pick marks xs
shown_picked [] xs some = absurd (omega (arith, some))
shown_picked (b ∷ marks) xs some = refl

pub none_shown : (marks : List Bool) (xs : List Sent) → marks ≡ [] → shown marks xs ≡ xs
none_shown marks xs e = ap (λ (l : List Bool). shown l xs) e

pub ones_within : (n : ℕ) (marks : List Bool) → ones (take n marks) ≤ ones marks
ones_within zero marks = omega arith
ones_within (suc n) [] = omega arith
ones_within (suc n) (false ∷ marks) = ones_within n marks
ones_within (suc n) (true ∷ marks) = omega (arith, ones_within n marks)

pub ones_of_place : (n : ℕ) (marks : List Bool) → ones (take n marks) ≤ n
ones_of_place zero marks = omega arith
ones_of_place (suc n) [] = omega arith
ones_of_place (suc n) (false ∷ marks) = omega (arith, ones_of_place n marks)
ones_of_place (suc n) (true ∷ marks) = omega (arith, ones_of_place n marks)

pub no_ones : (marks : List Bool) → AreUnset 0 marks → ones marks ≡ 0
no_ones [] unset = refl
no_ones (false ∷ marks) unset = no_ones marks (λ k l. unset (suc k) (omega arith))
no_ones (true ∷ marks) unset =
    let no : true ≡ false = unset 0 (omega arith) in
    absurd (cc no)

unset_rest : (n : ℕ) (b : Bool) (marks : List Bool) → AreUnset (suc n) (b ∷ marks) → AreUnset n marks
unset_rest n b marks unset k l = unset (suc k) (omega (arith, l))

-- as many are picked as are marked
pub picked_count : (marks : List Bool) (xs : List Sent) → AreUnset (length xs) marks → length (pick marks xs) ≡ ones marks
picked_count [] xs unset = refl
picked_count (b ∷ marks) [] unset = sym (no_ones (b ∷ marks) unset)
picked_count (false ∷ marks) (x ∷ xs) unset = picked_count marks xs (unset_rest (length xs) false marks unset)
picked_count (true ∷ marks) (x ∷ xs) unset = omega (arith, picked_count marks xs (unset_rest (length xs) true marks unset))

pub picked_within : (marks : List Bool) (xs : List Sent) → length (pick marks xs) ≤ length xs
picked_within [] xs = omega arith
picked_within (b ∷ marks) [] = omega arith
picked_within (false ∷ marks) (x ∷ xs) = omega (arith, picked_within marks xs)
picked_within (true ∷ marks) (x ∷ xs) = omega (arith, picked_within marks xs)

-- a message that is marked
pub get_picked : (marks : List Bool) (xs : List Sent) (p : ℕ) → get_or marks p false ≡ true → slice_get (pick marks xs) (ones (take p marks)) ≡ slice_get xs p
get_picked [] xs p e =
    let no : false ≡ true = e in
    absurd (cc no)
get_picked (b ∷ marks) [] p e = refl
get_picked (false ∷ marks) (x ∷ xs) zero e =
    let no : false ≡ true = e in
    absurd (cc no)
get_picked (true ∷ marks) (x ∷ xs) zero e = refl
get_picked (false ∷ marks) (x ∷ xs) (suc p) e = get_picked marks xs p e
get_picked (true ∷ marks) (x ∷ xs) (suc p) e = get_picked marks xs p e

-- a mark is taken back
pub taken : (marks : List Bool) (xs : List Sent) (p : ℕ) → get_or marks p false ≡ true → p < length xs → pick (set marks p false) xs ≡ remove (pick marks xs) (ones (take p marks))
taken [] xs p e l =
    let no : false ≡ true = e in
    absurd (cc no)
taken (b ∷ marks) [] p e l = absurd (omega (arith, l))
taken (false ∷ marks) (x ∷ xs) zero e l =
    let no : false ≡ true = e in
    absurd (cc no)
taken (true ∷ marks) (x ∷ xs) zero e l = refl
taken (false ∷ marks) (x ∷ xs) (suc p) e l = taken marks xs p e (omega (arith, l))
taken (true ∷ marks) (x ∷ xs) (suc p) e l = ap (λ (r : List Sent). x ∷ r) (taken marks xs p e (omega (arith, l)))

-- a mark is set
pub put : (marks : List Bool) (xs : List Sent) (p : ℕ) (a : Sent) → get_or marks p false ≡ false → p < length marks → slice_get xs p ≡ Some a → pick (set marks p true) xs ≡ insert (pick marks xs) (ones (take p marks)) a
put [] xs p a e l at = absurd (omega (arith, l))
put (b ∷ marks) [] p a e l at = absurd (omega (arith, slice_get_within [] p a at))
put (true ∷ marks) (x ∷ xs) zero a e l at =
    let no : true ≡ false = e in
    absurd (cc no)
put (false ∷ marks) (x ∷ xs) zero a e l at =
    let same : x ≡ a = cc at in
    ap (λ (y : Sent). y ∷ pick marks xs) same
put (false ∷ marks) (x ∷ xs) (suc p) a e l at = put marks xs p a e (omega (arith, l)) at
put (true ∷ marks) (x ∷ xs) (suc p) a e l at = ap (λ (r : List Sent). x ∷ r) (put marks xs p a e (omega (arith, l)) at)

-- one more at the end
pub pushed : (marks : List Bool) (xs : List Sent) (a : Sent) → AreUnset (length xs) marks → length xs < length marks → pick (set marks (length xs) true) (xs ++ a ∷ []) ≡ pick marks xs ++ a ∷ []
pushed [] xs a unset l = absurd (omega (arith, l))
pushed (b ∷ marks) [] a unset l = ap (λ (r : List Sent). a ∷ r) (none_picked marks)
  where
    none_picked : (ms : List Bool) → pick ms (let l : List Sent = [] in l) ≡ (let l : List Sent = [] in l)
    none_picked [] = refl
    none_picked (m ∷ ms) = refl
pushed (false ∷ marks) (x ∷ xs) a unset l = pushed marks xs a (unset_rest (length xs) false marks unset) (omega (arith, l))
pushed (true ∷ marks) (x ∷ xs) a unset l = ap (λ (r : List Sent). x ∷ r) (pushed marks xs a (unset_rest (length xs) true marks unset) (omega (arith, l)))

-- the first ones alone
pub cut : (marks new : List Bool) (xs : List Sent) (p : ℕ) → ((k : ℕ) → k < p → get_or new k false ≡ get_or marks k false) → length new ≡ length marks → pick new (take p xs) ≡ take (ones (take p marks)) (pick marks xs)
cut [] [] xs p same len = refl_of p
  where
    refl_of : (n : ℕ) → (let l : List Sent = [] in l) ≡ take (ones (take n [])) (let l : List Sent = [] in l)
    refl_of zero = refl
    refl_of (suc n) = refl
cut [] (c ∷ new) xs p same len = absurd (omega (arith, len))
cut (b ∷ marks) [] xs p same len = absurd (omega (arith, len))
cut (b ∷ marks) (c ∷ new) xs zero same len = refl
cut (b ∷ marks) (c ∷ new) [] (suc p) same len = none_taken (ones (take (suc p) (b ∷ marks)))
  where
    none_taken : (n : ℕ) → (let l : List Sent = [] in l) ≡ take n (let l : List Sent = [] in l)
    none_taken zero = refl
    none_taken (suc n) = refl
cut (false ∷ marks) (true ∷ new) (x ∷ xs) (suc p) same len =
    let no : true ≡ false = same 0 (omega arith) in
    absurd (cc no)
cut (true ∷ marks) (false ∷ new) (x ∷ xs) (suc p) same len =
    let no : false ≡ true = same 0 (omega arith) in
    absurd (cc no)
cut (false ∷ marks) (false ∷ new) (x ∷ xs) (suc p) same len = cut marks new xs p (λ k l. same (suc k) (omega (arith, l))) (omega (arith, len))
cut (true ∷ marks) (true ∷ new) (x ∷ xs) (suc p) same len = ap (λ (r : List Sent). x ∷ r) (cut marks new xs p (λ k l. same (suc k) (omega (arith, l))) (omega (arith, len)))

-- all are marked
pub all_marked : (marks : List Bool) (xs : List Sent) → ((k : ℕ) → k < length xs → get_or marks k false ≡ true) → pick marks xs ≡ xs
all_marked [] [] set = refl
all_marked [] (x ∷ xs) set =
    let no : false ≡ true = set 0 (omega arith) in
    absurd (cc no)
all_marked (b ∷ marks) [] set = refl
all_marked (false ∷ marks) (x ∷ xs) set =
    let no : false ≡ true = set 0 (omega arith) in
    absurd (cc no)
all_marked (true ∷ marks) (x ∷ xs) set = ap (λ (r : List Sent). x ∷ r) (all_marked marks xs (λ k l. set (suc k) (omega (arith, l))))

-- where a picked message stands
pub source : (marks : List Bool) (xs : List Sent) (k : ℕ) (a : Sent) → slice_get (pick marks xs) k ≡ Some a → (p : ℕ) × (slice_get xs p ≡ Some a) × (get_or marks p false ≡ true) × (ones (take p marks) ≡ k)
source [] xs k a e = absurd (omega (arith, slice_get_within [] k a e))
source (b ∷ marks) [] k a e = absurd (omega (arith, slice_get_within [] k a e))
source (false ∷ marks) (x ∷ xs) k a e =
    let there = source marks xs k a e in
    (suc there.0, there.1, there.2, there.3)
source (true ∷ marks) (x ∷ xs) zero a e = (0, e, refl, refl)
source (true ∷ marks) (x ∷ xs) (suc k) a e =
    let there = source marks xs k a e in
    (suc there.0, there.1, there.2, ap suc there.3)

-- more stand before a later place
pub ones_rise : (marks : List Bool) (p q : ℕ) → p ≤ q → ones (take p marks) ≤ ones (take q marks)
ones_rise marks zero q l = omega arith
ones_rise marks (suc p) zero l = absurd (omega (arith, l))
ones_rise [] (suc p) (suc q) l = omega arith
ones_rise (false ∷ marks) (suc p) (suc q) l = ones_rise marks p q (omega (arith, l))
ones_rise (true ∷ marks) (suc p) (suc q) l = omega (arith, ones_rise marks p q (omega (arith, l)))

pub ones_step : (marks : List Bool) (p q : ℕ) → p < q → get_or marks p false ≡ true → ones (take p marks) < ones (take q marks)
ones_step marks p zero l e = absurd (omega (arith, l))
ones_step [] p (suc q) l e =
    let no : false ≡ true = e in
    absurd (cc no)
ones_step (false ∷ marks) zero (suc q) l e =
    let no : false ≡ true = e in
    absurd (cc no)
ones_step (true ∷ marks) zero (suc q) l e = omega arith
ones_step (false ∷ marks) (suc p) (suc q) l e = ones_step marks p q (omega (arith, l)) e
ones_step (true ∷ marks) (suc p) (suc q) l e = omega (arith, ones_step marks p q (omega (arith, l)) e)

-- where a message belongs among the picked ones
pub belongs_picked : (marks : List Bool) (xs : List Sent) (msg p : ℕ) → AreUnset (length xs) marks → Belongs msg xs p → Belongs msg (pick marks xs) (ones (take p marks))
belongs_picked marks xs msg p unset b = record {
  within = omega (arith, ones_within p marks, picked_count marks xs unset);
  below = λ k a l e.
      let there = source marks xs k a e in
      elim (cases_lt there.0 p) [
        | inl low ↦ b.below there.0 a low there.1
        | inr high ↦ absurd (omega (arith, l, there.3, ones_rise marks p there.0 high))
      ];
  above = λ k a l e.
      let there = source marks xs k a e in
      elim (cases_lt there.0 p) [
        | inl low ↦ absurd (omega (arith, l, there.3, ones_step marks there.0 p low there.2))
        | inr high ↦ b.above there.0 a high there.1
      ];
}

-- numbers rise that rise from each one to the next
pub rising_steps : (xs : List Sent) → ((k : ℕ) (a b : Sent) → slice_get xs k ≡ Some a → slice_get xs (suc k) ≡ Some b → a.msg < b.msg) → AreRisingMessages xs
rising_steps xs step = record { each = λ j k a b l e f. climb k j a b l e f }
  where
    climb : (k j : ℕ) (a b : Sent) → j < k → slice_get xs j ≡ Some a → slice_get xs k ≡ Some b → a.msg < b.msg
    climb zero j a b l e f = absurd (omega (arith, l))
    climb (suc k) j a b l e f = elim (cases_eq j k) [
      | inl same ↦ step k a b (ap (slice_get xs) (sym same) ∙ e) f
      | inr other ↦
          let there : slice_get xs k ≡ Some (get_or xs k a) = slice_get-get_or xs k a (omega (arith, slice_get_within xs (suc k) b f)) in
          omega (arith, climb k j a (get_or xs k a) (omega (arith, l, other)) e there, step k (get_or xs k a) b there f)
    ]

pub shown_count : (marks : List Bool) (xs : List Sent) → 0 < length marks → HasMarkOfEach marks xs → length (shown marks xs) ≡ ones marks
shown_count marks xs some marked = ap (λ (l : List Sent). length l) (shown_picked marks xs some) ∙ picked_count marks xs marked.past

pub shown_within : (marks : List Bool) (xs : List Sent) → length (shown marks xs) ≤ length xs
shown_within [] xs = omega arith
shown_within (b ∷ marks) xs = picked_within (b ∷ marks) xs

pub get_past : (xs : List Sent) (n : ℕ) → length xs ≤ n → slice_get xs n ≡ None
get_past [] n l = refl
get_past (x ∷ xs) zero l = absurd (omega (arith, l))
get_past (x ∷ xs) (suc n) l = get_past xs n (omega (arith, l))

pub of_ok : {A E : Type 0} (r : Result A E) {P : Type 0} → OnOk r P → is_err r ≡ false → P
of_ok (Ok x) p e = p
of_ok (Err x) p e = absurd (cc)

-- a mark that is set is within
pub set_within : (marks : List Bool) (n p : ℕ) → AreUnset n marks → get_or marks p false ≡ true → p < n
set_within marks n p unset e = elim (cases_lt p n) [
  | inl low ↦ low
  | inr high ↦
      let no : true ≡ false = sym e ∙ unset p high in
      absurd (cc no)
]

pub all_before : (xs : List Sent) (middle place : ℕ) → ((a : Sent) → slice_get xs middle ≡ Some a → a.place < place) → middle < length xs → IsBySend xs → (k : ℕ) (a : Sent) → k < middle + 1 → slice_get xs k ≡ Some a → a.place < place
all_before xs middle place at within o k a l e = elim (cases_eq k middle) [
  | inl same ↦ at a (ap (slice_get xs) (sym same) ∙ e)
  | inr other ↦
      let there : slice_get xs middle ≡ Some (get_or xs middle a) = slice_get-get_or xs middle a within in
      omega (arith, at (get_or xs middle a) there, (o.each k middle a (get_or xs middle a) (omega (arith, l, other)) e there).place)
]

pub all_after : (xs : List Sent) (middle place : ℕ) → ((a : Sent) → slice_get xs middle ≡ Some a → place ≤ a.place) → middle < length xs → IsBySend xs → (k : ℕ) (a : Sent) → middle ≤ k → slice_get xs k ≡ Some a → place ≤ a.place
all_after xs middle place at within o k a l e = elim (cases_eq k middle) [
  | inl same ↦ at a (ap (slice_get xs) (sym same) ∙ e)
  | inr other ↦
      let there : slice_get xs middle ≡ Some (get_or xs middle a) = slice_get-get_or xs middle a within in
      omega (arith, at (get_or xs middle a) there, (o.each middle k (get_or xs middle a) a (omega (arith, l, other)) there e).place)
]

-- a greater number at the end
pub rising_pushed : (xs : List Sent) (a : Sent) → AreRisingMessages xs → ((k : ℕ) (b : Sent) → slice_get xs k ≡ Some b → b.msg < a.msg) → AreRisingMessages (xs ++ a ∷ [])
rising_pushed xs a r above = record {
  each = λ j k b d l e f. elim (get_push xs a k d f) [
    | inl old ↦ r.each j k b d l (sym (get_left xs (a ∷ []) j (omega (arith, l, slice_get_within xs k d old))) ∙ e) old
    | inr new ↦ subst (λ (z : Sent). b.msg < z.msg) new.1 (above j b (sym (get_left xs (a ∷ []) j (omega (arith, l, new.0))) ∙ e))
  ];
}

pub marked_pushed : (marks : List Bool) (xs : List Sent) (a : Sent) → HasMarkOfEach marks xs → length xs + 1 < length marks → ((k : ℕ) (b : Sent) → slice_get xs k ≡ Some b → b.msg < a.msg) → HasMarkOfEach (set marks (length xs) true) (xs ++ a ∷ [])
marked_pushed marks xs a m lt above = record {
  within = omega (arith, lt, length-set marks (length xs) true, length-append xs (a ∷ []));
  past = λ k l. get_or-set_other marks (length xs) k true false (λ same. omega (arith, l, same, length-append xs (a ∷ []))) ∙ m.past k (omega (arith, l, length-append xs (a ∷ [])));
  rising = rising_pushed xs a m.rising above;
}

pub pick_all : (marks : List Bool) (xs : List Sent) (n : ℕ) → length xs ≤ n → drop n xs ++ pick (take n marks) (take n xs) ≡ pick marks xs
pick_all [] [] zero l = refl
pick_all [] [] (suc n) l = refl
pick_all (b ∷ marks) [] zero l = refl
pick_all (b ∷ marks) [] (suc n) l = refl
pick_all marks (x ∷ xs) zero l = absurd (omega (arith, l))
pick_all [] (x ∷ xs) (suc n) l = pick_none xs n (omega (arith, l))
  where
    pick_none : (ys : List Sent) (m : ℕ) → length ys ≤ m → drop m ys ++ [] ≡ (let none : List Sent = [] in none)
    pick_none [] zero le = refl
    pick_none [] (suc m) le = refl
    pick_none (y ∷ ys) zero le = absurd (omega (arith, le))
    pick_none (y ∷ ys) (suc m) le = pick_none ys m (omega (arith, le))
pick_all (false ∷ marks) (x ∷ xs) (suc n) l = pick_all marks xs n (omega (arith, l))
pick_all (true ∷ marks) (x ∷ xs) (suc n) l = all_dropped xs n (omega (arith, l)) (x ∷ pick (take n marks) (take n xs)) ∙ ap (λ (r : List Sent). x ∷ r) (sym (all_dropped xs n (omega (arith, l)) (pick (take n marks) (take n xs))) ∙ pick_all marks xs n (omega (arith, l)))
  where
    all_dropped : (ys : List Sent) (m : ℕ) → length ys ≤ m → (zs : List Sent) → drop m ys ++ zs ≡ zs
    all_dropped [] zero le zs = refl
    all_dropped [] (suc m) le zs = refl
    all_dropped (y ∷ ys) zero le zs = absurd (omega (arith, le))
    all_dropped (y ∷ ys) (suc m) le zs = all_dropped ys m (omega (arith, le)) zs

-- one more is gone through
pub more_picked : (marks : List Bool) (xs : List Sent) (n : ℕ) (x : Sent) → slice_get xs n ≡ Some x → get_or marks n false ≡ true → pick (take (suc n) marks) (take (suc n) xs) ≡ pick (take n marks) (take n xs) ++ x ∷ []
more_picked marks [] n x e b = absurd (omega (arith, slice_get_within [] n x e))
more_picked [] (y ∷ xs) n x e b =
    let no : false ≡ true = b in
    absurd (cc no)
more_picked (false ∷ marks) (y ∷ xs) zero x e b =
    let no : false ≡ true = b in
    absurd (cc no)
more_picked (true ∷ marks) (y ∷ xs) zero x e b =
    let same : y ≡ x = cc e in
    one_picked marks ∙ ap (λ (z : Sent). z ∷ []) same
  where
    one_picked : (ms : List Bool) → pick (true ∷ []) (y ∷ []) ≡ y ∷ []
    one_picked ms = refl
more_picked (false ∷ marks) (y ∷ xs) (suc n) x e b = more_picked marks xs n x e b
more_picked (true ∷ marks) (y ∷ xs) (suc n) x e b = ap (λ (r : List Sent). y ∷ r) (more_picked marks xs n x e b)

pub none_more : (marks : List Bool) (xs : List Sent) (n : ℕ) (x : Sent) → slice_get xs n ≡ Some x → get_or marks n false ≡ false → pick (take (suc n) marks) (take (suc n) xs) ≡ pick (take n marks) (take n xs)
none_more marks [] n x e b = absurd (omega (arith, slice_get_within [] n x e))
none_more [] (y ∷ xs) zero x e b = refl
none_more [] (y ∷ xs) (suc n) x e b = refl
none_more (false ∷ marks) (y ∷ xs) zero x e b = refl
none_more (true ∷ marks) (y ∷ xs) zero x e b =
    let no : true ≡ false = b in
    absurd (cc no)
none_more (false ∷ marks) (y ∷ xs) (suc n) x e b = none_more marks xs n x e b
none_more (true ∷ marks) (y ∷ xs) (suc n) x e b = ap (λ (r : List Sent). y ∷ r) (none_more marks xs n x e b)

-- the first one of those that are left to go through
pub first_left : (xs : List Sent) (n : ℕ) (x : Sent) (new ps : List Sent) → n < length xs → drop n xs ++ ps ≡ x ∷ new → (slice_get xs n ≡ Some x) × (new ≡ drop (n + 1) xs ++ ps)
first_left [] n x new ps l e = absurd (omega (arith, l))
first_left (y ∷ xs) zero x new ps l e =
    let same : y ≡ x = cc e in
    let rest : xs ++ ps ≡ new = cc e in
    (ap (λ (z : Sent). Some z) same, sym rest)
first_left (y ∷ xs) (suc n) x new ps l e =
    let there = first_left xs n x new ps (omega (arith, l)) e in
    let place : suc (n + 1) ≡ suc n + 1 = omega arith in
    (there.0, there.1 ∙ ap (λ (k : ℕ). drop k (y ∷ xs) ++ ps) place)
