-- Trees of counts.
use Rattle.std.proofs.Common.{◌≡◌, ◌≢◌, ℕ, zero, suc, ◌+◌, ◌-◌, ◌*◌, ◌/◌, ◌%◌, ◌^◌, ◌<◌, ◌≤◌, ◌⊎◌, Bool, true, false, List, [], ◌∷◌, length, get_or, take, drop, set, refl, sym, ap, ◌∙◌, subst, arith, inl, inr, length-drop, drop-drop, take_all, replicate, ◌++◌, length-set, get_or-set_other, get_or-set_same}
use Rattle.std.proofs.lemmas.Bool.{cases_lt, cases_eq}
use Rattle.std.proofs.lemmas.List.{get_or-drop, drop-set-lt, drop-set-add, get_or_past, get_or-replicate, length-replicate}
use Rattle.std.proofs.lemmas.Nat.{pow_pos}
use Rattle.std.proofs.Math.Nat.{pow-suc}
use mir.Val.{bool_byte}
use Rattle.std.specs.Prelude.{not, nat_eq}
use Rattle.kt_walk.specs.Marks.{ones, marks_of, HasLeaves, IsTree, IsPower}

-- the sum of the first so many nodes
abbrev pub upto : List ℕ → ℕ → ℕ
upto t zero = 0
upto t (suc r) = upto t r + get_or t r 0

-- each node that is no leaf is the sum of two, but for the one above this one
abbrev pub IsAlmost : ℕ → List ℕ → ℕ → Type 0
IsAlmost node t width = (j : ℕ) → 0 < j → j < width → node ≢ 2 * j → node ≢ 2 * j + 1 → get_or t j 0 ≡ get_or t (2 * j) 0 + get_or t (2 * j + 1) 0

abbrev pub HasSums : List ℕ → ℕ → Type 0
HasSums t width = (j : ℕ) → 0 < j → j < width → get_or t j 0 ≡ get_or t (2 * j) 0 + get_or t (2 * j + 1) 0

upto_two : (t : List ℕ) (m : ℕ) → upto t (2 * suc m) ≡ upto t (2 * m) + get_or t (2 * m) 0 + get_or t (2 * m + 1) 0
upto_two t m =
    let index : 2 * suc m ≡ suc (suc (2 * m)) = omega arith in
    let one : suc (2 * m) ≡ 2 * m + 1 = omega arith in
    ap (upto t) index ∙ ap (λ (i : ℕ). upto t (2 * m) + get_or t (2 * m) 0 + get_or t i 0) one

-- the nodes of a level up to one have the sum of those below them
pub pairs : (t : List ℕ) (width : ℕ) → HasSums t width → (f d m : ℕ) → 0 < f → m ≡ f + d → m ≤ width → upto t (2 * m) + upto t f ≡ upto t m + upto t (2 * f)
pairs t width s f zero m pos e lt =
    let same : f ≡ m = omega (arith, e) in
    let here : upto t (2 * f) + upto t f ≡ upto t f + upto t (2 * f) = omega arith in
    subst (λ (n : ℕ). upto t (2 * n) + upto t f ≡ upto t n + upto t (2 * f)) same here
pairs t width s f (suc d) zero pos e lt = absurd (omega (arith, e))
pairs t width s f (suc d) (suc m) pos e lt =
    let before = pairs t width s f d m pos (omega (arith, e)) (omega (arith, lt)) in
    omega (arith, before, upto_two t m, s m (omega (arith, e, pos)) (omega (arith, lt)))

pub upto_more : (t : List ℕ) (a d b : ℕ) → b ≡ a + d → upto t a ≤ upto t b
upto_more t a zero b e =
    let same : a ≡ b = omega (arith, e) in
    subst (λ (n : ℕ). upto t a ≤ upto t n) same (omega arith)
upto_more t a (suc d) zero e = absurd (omega (arith, e))
upto_more t a (suc d) (suc b) e = omega (arith, upto_more t a d b (omega (arith, e)))

-- a level that is not the root's has an even first node, whose half begins the one above
pub half_power : (n : ℕ) → IsPower n → 1 < n → (m : ℕ) × (n ≡ 2 * m) × IsPower m
half_power n p more = halved p.0 p.1
  where
    halved : (k : ℕ) → n ≡ 2 ^ k → (m : ℕ) × (n ≡ 2 * m) × IsPower m
    halved zero e = absurd (omega (arith, e, more))
    halved (suc k) e = (2 ^ k, omega (arith, e, pow-suc 2 k), (k, refl))

-- all leaves have the sum of the root
pub of_root : (t : List ℕ) (width : ℕ) → HasSums t width → (k f : ℕ) → f ≡ 2 ^ k → f ≤ width → upto t (2 * f) ≡ upto t f + get_or t 1 0
of_root t width s zero f e lt =
    let one : 1 ≡ f = omega (arith, e) in
    subst (λ (n : ℕ). upto t (2 * n) ≡ upto t n + get_or t 1 0) one refl
of_root t width s (suc k) f e lt =
    let half : 2 * 2 ^ k ≡ f = omega (arith, e, pow-suc 2 k) in
    let pos = pow_pos k in
    let below = of_root t width s k (2 ^ k) refl (omega (arith, half, lt)) in
    let level = pairs t width s (2 ^ k) (2 ^ k) (2 * 2 ^ k) pos (omega arith) (omega (arith, half, lt)) in
    subst (λ (n : ℕ). upto t (2 * n) ≡ upto t n + get_or t 1 0) half (omega (arith, level, below))

abbrev pub bit : Bool → ℕ
bit false = 0
bit true = 1

pub bit_at : (xs : List ℕ) (p : ℕ) → get_or xs p 0 ≤ 1 → bit (get_or (marks_of xs) p false) ≡ get_or xs p 0
bit_at [] p h = refl
bit_at (zero ∷ xs) zero h = refl
bit_at (suc zero ∷ xs) zero h = refl
bit_at (suc (suc n) ∷ xs) zero h = absurd (omega (arith, h))
bit_at (zero ∷ xs) (suc p) h = bit_at xs p h
bit_at (suc n ∷ xs) (suc p) h = bit_at xs p h

pub ones_more : (marks : List Bool) (p : ℕ) → ones (take (suc p) marks) ≡ ones (take p marks) + bit (get_or marks p false)
ones_more [] zero = refl
ones_more [] (suc p) = refl
ones_more (false ∷ marks) zero = refl
ones_more (true ∷ marks) zero = refl
ones_more (false ∷ marks) (suc p) = ones_more marks p
ones_more (true ∷ marks) (suc p) = omega (arith, ones_more marks p)

pub marks_length : (xs : List ℕ) → length (marks_of xs) ≡ length xs
marks_length [] = refl
marks_length (zero ∷ xs) = omega (arith, marks_length xs)
marks_length (suc n ∷ xs) = omega (arith, marks_length xs)

pub marks_set : (xs : List ℕ) (i n : ℕ) (b : Bool) → n ≡ bit b → marks_of (set xs i n) ≡ set (marks_of xs) i b
marks_set [] i n b e = refl
marks_set (zero ∷ xs) zero zero false e = refl
marks_set (zero ∷ xs) zero zero true e = absurd (omega (arith, e))
marks_set (zero ∷ xs) zero (suc n) false e = absurd (omega (arith, e))
marks_set (zero ∷ xs) zero (suc n) true e = refl
marks_set (suc x ∷ xs) zero zero false e = refl
marks_set (suc x ∷ xs) zero zero true e = absurd (omega (arith, e))
marks_set (suc x ∷ xs) zero (suc n) false e = absurd (omega (arith, e))
marks_set (suc x ∷ xs) zero (suc n) true e = refl
marks_set (zero ∷ xs) (suc i) n b e = ap (λ (l : _). false ∷ l) (marks_set xs i n b e)
marks_set (suc x ∷ xs) (suc i) n b e = ap (λ (l : _). true ∷ l) (marks_set xs i n b e)

-- the leaves from one on, counted
pub counted : (t : List ℕ) (l : ℕ) → ((j : ℕ) → l ≤ j → get_or t j 0 ≤ 1) → (p r : ℕ) → r ≡ l + p → upto t r ≡ upto t l + ones (take p (marks_of (drop l t)))
counted t l bits zero r e =
    let same : l ≡ r = omega (arith, e) in
    subst (λ (n : ℕ). upto t n ≡ upto t l + 0) same (omega arith)
counted t l bits (suc p) zero e = absurd (omega (arith, e))
counted t l bits (suc p) (suc r) e =
    let place : l + p ≡ r = omega (arith, e) in
    let here : get_or (drop l t) p 0 ≡ get_or t r 0 = get_or-drop l t p 0 ∙ ap (λ (i : ℕ). get_or t i 0) place in
    let small : get_or (drop l t) p 0 ≤ 1 = omega (arith, here, bits r (omega (arith, e))) in
    omega (arith, counted t l bits p r (omega (arith, e)), ones_more (marks_of (drop l t)) p, bit_at (drop l t) p small, here)

-- nodes that are all 0
pub none_between : (t : List ℕ) (l d r : ℕ) → r ≡ l + d → ((j : ℕ) → l ≤ j → j < r → get_or t j 0 ≡ 0) → upto t r ≡ upto t l
none_between t l zero r e zeros =
    let same : l ≡ r = omega (arith, e) in
    subst (λ (n : ℕ). upto t n ≡ upto t l) same refl
none_between t l (suc d) zero e zeros = absurd (omega (arith, e))
none_between t l (suc d) (suc r) e zeros = omega (arith, none_between t l d r (omega (arith, e)) (λ j low high. zeros j low (omega (arith, high))), zeros r (omega (arith, e)) (omega arith))

-- one factor of a product, where the other one is not 0
within_product : (m v n : ℕ) → 0 < m → m * v ≤ n → v ≤ n
within_product zero v n pos e = absurd (omega (arith, pos))
within_product (suc m) v n pos e = omega (arith, e)

both_within : (m a b n : ℕ) → 2 * m * a ≤ n + n → (2 * m + 1) * b ≤ n + n → m * (a + b) ≤ n + n
both_within m a b n e f = omega (arith, e, f)

-- what stands at a node that was written
pub at_written : (t : List ℕ) (m v j : ℕ) → m < length t → j ≡ m → get_or (set t m v) j 0 ≡ v
at_written t m v j lt same = ap (λ (i : ℕ). get_or (set t m v) i 0) same ∙ get_or-set_same t m v 0 lt

-- a sum is put at a node
pub sum_put : (t : List ℕ) (width base node m v : ℕ) → HasLeaves t width base → IsAlmost node t width → 0 < m → m < width → (node ≡ 2 * m) ⊎ (node ≡ 2 * m + 1) → v ≡ get_or t (2 * m) 0 + get_or t (2 * m + 1) 0
    → HasLeaves (set t m v) width base × IsAlmost m (set t m v) width × (v ≤ 2 * width) × (drop width (set t m v) ≡ drop width t)
sum_put t width base node m v h almost pos low parent e = (
  record {
    length = length-set t m v ∙ h.length;
    power = h.power;
    small = h.small;
    base_within = h.base_within;
    some_left = h.some_left;
    bits = λ j l. subst (λ (n : ℕ). n ≤ 1) (sym (other j (λ same. omega (arith, l, low, same)))) (h.bits j l);
    bounded = λ j. elim (cases_eq j m) [
      | inl same ↦ subst (λ (n : ℕ). j * n ≤ 2 * width) (sym (at_written t m v j within same)) (subst (λ (i : ℕ). i * v ≤ 2 * width) (sym same) product)
      | inr not ↦ subst (λ (n : ℕ). j * n ≤ 2 * width) (sym (other j not)) (h.bounded j)
    ];
    front = λ j l u. other j (λ same. omega (arith, l, low, same)) ∙ h.front j l u;
  },
  (λ j l u even odd. elim (cases_eq j m) [
    | inl same ↦
        let here = at_written t m v j within same in
        let left : get_or (set t m v) (2 * j) 0 ≡ get_or t (2 * m) 0 = other (2 * j) (λ no. omega (arith, no, same, pos)) ∙ ap (λ (i : ℕ). get_or t (2 * i) 0) same in
        let right : get_or (set t m v) (2 * j + 1) 0 ≡ get_or t (2 * m + 1) 0 = other (2 * j + 1) (λ no. omega (arith, no, same, pos)) ∙ ap (λ (i : ℕ). get_or t (2 * i + 1) 0) same in
        omega (arith, here, left, right, e)
    | inr not ↦
        let here = other j not in
        let left = other (2 * j) (λ no. even (sym no)) in
        let right = other (2 * j + 1) (λ no. odd (sym no)) in
        omega (arith, here, left, right, almost j l u (λ no. not (from_parent parent j (inl no))) (λ no. not (from_parent parent j (inr no))))
  ]),
  within_product m v (2 * width) pos product,
  leaves_same,
)
  where
    within : m < length t
    within = omega (arith, h.length, low)

    other : (j : ℕ) → j ≢ m → get_or (set t m v) j 0 ≡ get_or t j 0
    other j not = get_or-set_other t m j v 0 not

    product : m * v ≤ 2 * width
    product = subst (λ (n : ℕ). m * n ≤ 2 * width) (sym e) (omega (arith, both_within m (get_or t (2 * m) 0) (get_or t (2 * m + 1) 0) width (omega (arith, h.bounded (2 * m))) (omega (arith, h.bounded (2 * m + 1)))))

    from_parent : (node ≡ 2 * m) ⊎ (node ≡ 2 * m + 1) → (j : ℕ) → (node ≡ 2 * j) ⊎ (node ≡ 2 * j + 1) → j ≡ m
    from_parent (inl a) j (inl b) = omega (arith, a, b)
    from_parent (inl a) j (inr b) = absurd (omega (arith, a, b))
    from_parent (inr a) j (inl b) = absurd (omega (arith, a, b))
    from_parent (inr a) j (inr b) = omega (arith, a, b)

    leaves_same : drop width (set t m v) ≡ drop width t
    leaves_same = drop-set-lt width t m v low

-- a count is put at a leaf
pub leaf_put : (t : List ℕ) (width base leaf v : ℕ) → IsTree t width base → width + base ≤ leaf → leaf < 2 * width → v ≤ 1 → HasLeaves (set t leaf v) width base × IsAlmost leaf (set t leaf v) width
leaf_put t width base leaf v tree low high small = (
  record {
    length = length-set t leaf v ∙ h.length;
    power = h.power;
    small = h.small;
    base_within = h.base_within;
    some_left = h.some_left;
    bits = λ j l. elim (cases_eq j leaf) [
      | inl same ↦ subst (λ (n : ℕ). n ≤ 1) (sym (at_written t leaf v j within same)) small
      | inr not ↦ subst (λ (n : ℕ). n ≤ 1) (sym (other j not)) (h.bits j l)
    ];
    bounded = λ j. elim (cases_eq j leaf) [
      | inl same ↦ subst (λ (n : ℕ). j * n ≤ 2 * width) (sym (at_written t leaf v j within same)) (least j v (omega (arith, same, high)) small)
      | inr not ↦ subst (λ (n : ℕ). j * n ≤ 2 * width) (sym (other j not)) (h.bounded j)
    ];
    front = λ j l u. other j (λ same. omega (arith, u, low, same)) ∙ h.front j l u;
  },
  (λ j l u even odd.
      let here = other j (λ same. omega (arith, u, low, same)) in
      let left = other (2 * j) (λ no. even (sym no)) in
      let right = other (2 * j + 1) (λ no. odd (sym no)) in
      omega (arith, here, left, right, tree.sums j l u)),
)
  where
    h : HasLeaves t width base
    h = tree.leaves

    within : leaf < length t
    within = omega (arith, h.length, high)

    other : (j : ℕ) → j ≢ leaf → get_or (set t leaf v) j 0 ≡ get_or t j 0
    other j not = get_or-set_other t leaf j v 0 not

    least : (j n : ℕ) → j ≤ 2 * width → n ≤ 1 → j * n ≤ 2 * width
    least j zero l s = omega arith
    least j (suc zero) l s = omega (arith, l)
    least j (suc (suc n)) l s = absurd (omega (arith, s))

-- at the root all sums stand
pub at_root : (t : List ℕ) (width base node : ℕ) → HasLeaves t width base → IsAlmost node t width → node ≤ 1 → IsTree t width base
at_root t width base node h almost root = record {
  leaves = h;
  sums = λ j l u. almost j l u (λ same. omega (arith, same, root, l)) (λ same. omega (arith, same, root, l));
}

-- a step up
pub step_up : (t : List ℕ) (width first node : ℕ) → HasSums t width → IsPower first → first < node → node < 2 * first → first ≤ width
    → IsPower (first / 2) × (first / 2 ≤ node / 2) × (node / 2 < 2 * (first / 2)) × (node % 2 ≡ 1 → get_or t (node - 1) 0 + upto t (node / 2) + upto t first ≡ upto t node + upto t (first / 2)) × (node % 2 ≢ 1 → upto t (node / 2) + upto t first ≡ upto t node + upto t (first / 2))
step_up t width first node s power less high low =
    let half = half_power first power (omega (arith, less, high)) in
    let is_half : half.0 ≡ first / 2 = omega (arith, half.1) in
    let level = pairs t width s (first / 2) (node / 2 - first / 2) (node / 2) (omega (arith, half.1, less, high)) (omega (arith, less)) (omega (arith, less, high, low)) in
    let below : upto t (2 * (first / 2)) ≡ upto t first = ap (upto t) (omega (arith, half.1)) in (
      subst IsPower is_half half.2,
      omega (arith, less),
      omega (arith, half.1, high),
      (λ odd.
          let last : suc (2 * (node / 2)) ≡ node = omega (arith, odd) in
          let more : upto t (2 * (node / 2)) + get_or t (2 * (node / 2)) 0 ≡ upto t node = ap (upto t) last in
          let there : get_or t (2 * (node / 2)) 0 ≡ get_or t (node - 1) 0 = ap (λ (i : ℕ). get_or t i 0) (omega (arith, last)) in
          omega (arith, level, below, more, there)),
      (λ even.
          let same : upto t (2 * (node / 2)) ≡ upto t node = ap (upto t) (omega (arith, even)) in
          omega (arith, level, below, same)),
    )

-- on the way down to the leaf before which so many stand: the node's level, and how many of them are below it
pub record IsLevel (t : List ℕ) (width index node rest : ℕ) : Type 0 where
  pub first : ℕ
  pub below : ℕ
  pub level : first * 2 ^ below ≡ width
  pub some : 0 < first
  pub low : first ≤ node
  pub high : node < 2 * first
  pub counted : rest + upto t node ≡ index + upto t first
  pub inside : rest < get_or t node 0

-- the root
pub at_top : (t : List ℕ) (width index : ℕ) → IsPower width → index < get_or t 1 0 → IsLevel t width index 1 index
at_top t width index power lt = record {
  first = 1;
  below = power.0;
  level = omega (arith, power.1);
  some = omega arith;
  low = omega arith;
  high = omega arith;
  counted = refl;
  inside = lt;
}

level_twice : (f b : ℕ) → f * 2 ^ suc b ≡ 2 * (f * 2 ^ b)
level_twice f b = ap (λ (n : ℕ). f * n) (pow-suc 2 b) ∙ omega arith

level_half : (f b : ℕ) → f * 2 ^ suc b ≡ (2 * f) * 2 ^ b
level_half f b = level_twice f b ∙ omega arith

level_within : (first below width : ℕ) → first * 2 ^ below ≡ width → first ≤ width
level_within first zero width e = omega (arith, e)
level_within first (suc below) width e = omega (arith, e, level_twice first below, level_within first below (first * 2 ^ below) refl)

-- a step down
pub step_down : (t : List ℕ) (width index node rest : ℕ) → HasSums t width → IsLevel t width index node rest → node < width
    → (rest < get_or t (2 * node) 0 → IsLevel t width index (2 * node) rest) × ((r : ℕ) → r + get_or t (2 * node) 0 ≡ rest → IsLevel t width index (2 * node + 1) r)
step_down t width index node rest s l lt = stepped l.below l.level
  where
    stepped : (b : ℕ) → l.first * 2 ^ b ≡ width → (rest < get_or t (2 * node) 0 → IsLevel t width index (2 * node) rest) × ((r : ℕ) → r + get_or t (2 * node) 0 ≡ rest → IsLevel t width index (2 * node + 1) r)
    stepped zero e = absurd (omega (arith, e, l.low, lt))
    stepped (suc b) e =
        let level = pairs t width s l.first (node - l.first) node l.some (omega (arith, l.low)) (omega (arith, lt)) in
        let next : 2 * l.first * 2 ^ b ≡ width = sym (level_half l.first b) ∙ e in
        let sum = s node (omega (arith, l.low, l.some)) lt in
        let index_of : suc (2 * node) ≡ 2 * node + 1 = omega arith in
        let more : upto t (2 * node) + get_or t (2 * node) 0 ≡ upto t (2 * node + 1) = ap (upto t) index_of in (
          (λ inside. record {
            first = 2 * l.first;
            below = b;
            level = next;
            some = omega (arith, l.some);
            low = omega (arith, l.low);
            high = omega (arith, l.high);
            counted = omega (arith, level, l.counted);
            inside = inside;
          }),
          (λ r left. record {
            first = 2 * l.first;
            below = b;
            level = next;
            some = omega (arith, l.some);
            low = omega (arith, l.low);
            high = omega (arith, l.high);
            counted = omega (arith, level, l.counted, more, left);
            inside = omega (arith, l.inside, left, sum);
          }),
        )

-- a leaf
pub at_leaf : (t : List ℕ) (width base index node rest : ℕ) → HasLeaves t width base → IsLevel t width index node rest → width ≤ node
    → (width + base ≤ node) × (node < 2 * width) × (get_or t node 0 ≡ 1) × (upto t node ≡ index + upto t width)
at_leaf t width base index node rest h l high = at_bottom l.below l.level
  where
    one : get_or t node 0 ≡ 1
    one = omega (arith, l.inside, h.bits node high)

    past_front : width + base ≤ node
    past_front = elim (cases_lt node (width + base)) [
      | inl low ↦ absurd (omega (arith, one, h.front node high low))
      | inr past ↦ past
    ]

    at_bottom : (b : ℕ) → l.first * 2 ^ b ≡ width → (width + base ≤ node) × (node < 2 * width) × (get_or t node 0 ≡ 1) × (upto t node ≡ index + upto t width)
    at_bottom zero e =
        let same : l.first ≡ width = omega (arith, e) in
        let sums : upto t l.first ≡ upto t width = ap (upto t) same in
        (past_front, omega (arith, same, l.high), one, omega (arith, sums, l.counted, l.inside, one))
    at_bottom (suc b) e =
        let larger = level_within l.first b (l.first * 2 ^ b) refl in
        absurd (omega (arith, e, level_twice l.first b, larger, l.high, high))

-- what the tree says of its marks
pub marked_before : (t : List ℕ) (width base p node : ℕ) → HasLeaves t width base → node ≡ width + base + p → upto t node ≡ upto t width + ones (take p (marks_of (drop (width + base) t)))
marked_before t width base p node h e =
    omega (arith, counted t (width + base) (λ j l. h.bits j (omega (arith, l))) p node e, none_between t width base (width + base) refl h.front)

pub mark_at : (t : List ℕ) (width base p node : ℕ) → HasLeaves t width base → node ≡ width + base + p → bit (get_or (marks_of (drop (width + base) t)) p false) ≡ get_or t node 0
mark_at t width base p node h e =
    let here : get_or (drop (width + base) t) p 0 ≡ get_or t node 0 = get_or-drop (width + base) t p 0 ∙ ap (λ (i : ℕ). get_or t i 0) (sym e) in
    bit_at (drop (width + base) t) p (omega (arith, here, h.bits node (omega (arith, e)))) ∙ here

pub marks_count : (t : List ℕ) (width base : ℕ) → HasLeaves t width base → length (marks_of (drop (width + base) t)) ≡ width - base
marks_count t width base h = omega (arith, marks_length (drop (width + base) t), length-drop (width + base) t, h.length)

-- the root's count is that of all marks
pub all_marked : (t : List ℕ) (width base : ℕ) → IsTree t width base → 0 < width → ones (marks_of (drop (width + base) t)) ≡ get_or t 1 0
all_marked t width base tree some =
    let h = tree.leaves in
    let power = h.power some in
    let root = of_root t width tree.sums power.0 width power.1 (omega arith) in
    let whole = marked_before t width base (width - base) (2 * width) h (omega (arith, h.base_within)) in
    let same : take (width - base) (marks_of (drop (width + base) t)) ≡ marks_of (drop (width + base) t) = take_all (width - base) (marks_of (drop (width + base) t)) (omega (arith, marks_count t width base h)) in
    let ones_same : ones (take (width - base) (marks_of (drop (width + base) t))) ≡ ones (marks_of (drop (width + base) t)) = ap ones same in
    omega (arith, root, whole, ones_same)

-- a tree of zeros
pub of_zeros : (t : List ℕ) (width base : ℕ) → ((j : ℕ) → get_or t j 0 ≡ 0) → length t ≡ 2 * width → IsPower width → width ≤ 2 ^ 30 → base < width → IsTree t width base
of_zeros t width base zeros len power small low = record {
  leaves = record {
    length = len;
    power = λ _. power;
    small = small;
    base_within = omega (arith, low);
    some_left = λ _. low;
    bits = λ j l. omega (arith, zeros j);
    bounded = λ j. subst (λ (n : ℕ). j * n ≤ 2 * width) (sym (zeros j)) (omega arith);
    front = λ j l u. zeros j;
  };
  sums = λ j l u. omega (arith, zeros j, zeros (2 * j), zeros (2 * j + 1));
}

pub no_marks : (t : List ℕ) (l : ℕ) → ((j : ℕ) → get_or t j 0 ≡ 0) → (k : ℕ) → get_or (marks_of (drop l t)) k false ≡ false
no_marks t l zeros k =
    let here : get_or (drop l t) k 0 ≡ 0 = get_or-drop l t k 0 ∙ zeros (l + k) in
    of_bit (get_or (marks_of (drop l t)) k false) (omega (arith, here, bit_at (drop l t) k (omega (arith, here))))
  where
    of_bit : (b : Bool) → bit b ≡ 0 → b ≡ false
    of_bit false e = refl
    of_bit true e = absurd (omega (arith, e))

-- a place of a mark is a leaf
pub in_tree : (t : List ℕ) (width base p : ℕ) → HasLeaves t width base → p < length (marks_of (drop (width + base) t)) → (0 < width) × (width + base + p < 2 * width) × (width + base + p < length t) × (width + base + p < 2 ^ 64)
in_tree t width base p h lt =
    let count = marks_count t width base h in
    (omega (arith, count, lt), omega (arith, count, lt, h.base_within), omega (arith, count, lt, h.base_within, h.length), omega (arith, count, lt, h.base_within, h.small))

pub read_mark : (v : ℕ) (b : Bool) → v ≡ bit b → not (nat_eq v 0) ≡ b
read_mark v false e = ap (λ (n : ℕ). not (nat_eq n 0)) e
read_mark v true e = ap (λ (n : ℕ). not (nat_eq n 0)) e

pub of_byte : (b : Bool) (n : ℕ) → n ≡ bool_byte b → (n ≡ bit b) × (n ≤ 1)
of_byte false n e = (e, omega (arith, e))
of_byte true n e = (e, omega (arith, e))

-- what is put at a leaf is put among the marks
pub put_at_leaf : (t s : List ℕ) (width base p n : ℕ) (b : Bool) → n ≡ bit b → drop width s ≡ drop width (set t (width + base + p) n) → marks_of (drop (width + base) s) ≡ set (marks_of (drop (width + base) t)) p b
put_at_leaf t s width base p n b e same = ap marks_of (split ∙ drop-set-add (width + base) t p n) ∙ marks_set (drop (width + base) t) p n b e
  where
    split : drop (width + base) s ≡ drop (width + base) (set t (width + base + p) n)
    split = sym (drop-drop base width s) ∙ (ap (drop base) same ∙ drop-drop base width (set t (width + base + p) n))

pub is_set : (b : Bool) → bit b ≡ 1 → b ≡ true
is_set false e = absurd (omega (arith, e))
is_set true e = refl

-- where something is marked, there is a leaf
pub some_width : (t : List ℕ) (width base n : ℕ) → HasLeaves t width base → n < ones (marks_of (drop (width + base) t)) → 0 < width
some_width t width base n h lt =
    omega (arith, lt, ones_few (marks_of (drop (width + base) t)), marks_count t width base h)
  where
    ones_few : (marks : List Bool) → ones marks ≤ length marks
    ones_few [] = omega arith
    ones_few (false ∷ marks) = omega (arith, ones_few marks)
    ones_few (true ∷ marks) = omega (arith, ones_few marks)

pub parent_of : (node : ℕ) → (node ≡ 2 * (node / 2)) ⊎ (node ≡ 2 * (node / 2) + 1)
parent_of node = elim (cases_eq (node % 2) 0) [
  | inl even ↦ inl (omega (arith, even))
  | inr odd ↦ inr (omega (arith, odd))
]

pub all_zeros : (t : List ℕ) (n : ℕ) → length t ≡ n → ((j : ℕ) → j < n → get_or t j 0 ≡ 0) → (j : ℕ) → get_or t j 0 ≡ 0
all_zeros t n e zeros j = elim (cases_lt j n) [
  | inl low ↦ zeros j low
  | inr high ↦ get_or_past t j 0 (omega (arith, e, high))
]

-- no leaves
pub no_leaves : (t : List ℕ) (width base : ℕ) → HasLeaves t width base → marks_of (drop (width + base) t) ≡ [] → length t ≡ 0
no_leaves t width base h e =
    let none : length (marks_of (drop (width + base) t)) ≡ 0 = ap (λ (l : List Bool). length l) e in
    elim (cases_eq width 0) [
      | inl zero_width ↦ omega (arith, zero_width, h.length)
      | inr some ↦ absurd (omega (arith, none, marks_count t width base h, h.some_left (omega (arith, some))))
    ]

replicated : (m j : ℕ) → get_or {A = ℕ} (replicate m 0) j 0 ≡ 0
replicated m j = elim (cases_lt j m) [
  | inl low ↦ get_or-replicate m j 0 0 low
  | inr high ↦ get_or_past {X = ℕ} (replicate m 0) j 0 (omega (arith, high, length-replicate {A = ℕ} m 0))
]

pub zeros_made : (l : List ℕ) (n m j : ℕ) → length l ≡ 0 → get_or (take n l ++ replicate m 0) j 0 ≡ 0
zeros_made [] zero m j e = replicated m j
zeros_made [] (suc n) m j e = replicated m j
zeros_made (x ∷ l) n m j e = absurd (omega (arith, e))
