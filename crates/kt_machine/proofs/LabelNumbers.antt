-- Labels of one sender's messages stand as their numbers do.
use Rattle.std.proofs.Common.{◌≡◌, ◌≢◌, ℕ, ◌+◌, ◌≤◌, ◌<◌, refl, arith, sym, ap, subst, inl, inr, ◌⊎◌, ◌∙◌}
use Rattle.std.specs.Prelude.{◌==◌, nat_lt, nat_le}
use Rattle.std.proofs.lemmas.Bool.{cases_eq, cases_lt}
use Rattle.std.proofs.lemmas.Bool.Decides.{nat_tests}
use Rattle.kt_meaning.specs.Past.{at_one}
use Rattle.kt_protocol.proofs.Updates.{is_same, is_other, at_one_here, at_one_other}

pub record Numbers (label used from : ℕ → ℕ) (rows : ℕ) : Type 0 where
  pub zero_is : label 0 ≡ 0
  pub ordered : (m n : ℕ) → 0 < label m → 0 < label n → from m ≡ from n → m < n → label m < label n
  pub low : (m : ℕ) → 0 < label m → (m ≤ rows) × (label m ≤ used (from m))

-- no message, or one of q
abbrev pub Of : (ℕ → ℕ) → (ℕ → ℕ) → ℕ → ℕ → Type 0
Of label from q m = (m ≡ 0) ⊎ ((0 < label m) × (from m ≡ q))

pub of_none : (label from : ℕ → ℕ) (q : ℕ) → Of label from q 0
of_none label from q = inl refl

pub of_one : (label from : ℕ → ℕ) (q m : ℕ) → 0 < label m → from m ≡ q → Of label from q m
of_one label from q m a b = inr (a, b)

-- where tests go alike
pub alike_lt : (a b m n : ℕ) → (m < n → a < b) → (n < m → b < a) → (m ≡ n → a ≡ b) → nat_lt a b ≡ nat_lt m n
alike_lt a b m n f g h = elim (cases_lt m n) [
  | inl x ↦ (let y = f x in grind (arith, nat_tests, x, y))
  | inr x ↦ elim (cases_eq m n) [
    | inl e ↦ (let y = h e in grind (arith, nat_tests, e, y))
    | inr d ↦ (let z : n < m = omega (arith, x, d) in let y = g z in grind (arith, nat_tests, z, y))
  ]
]

pub alike_le : (a b m n : ℕ) → (m < n → a < b) → (n < m → b < a) → (m ≡ n → a ≡ b) → nat_le a b ≡ nat_le m n
alike_le a b m n f g h = elim (cases_lt m n) [
  | inl x ↦ (let y = f x in grind (arith, nat_tests, x, y))
  | inr x ↦ elim (cases_eq m n) [
    | inl e ↦ (let y = h e in grind (arith, nat_tests, e, y))
    | inr d ↦ (let z : n < m = omega (arith, x, d) in let y = g z in grind (arith, nat_tests, z, y))
  ]
]

module _ (label used from : ℕ → ℕ) (rows : ℕ) (n : Numbers label used from rows) where
  pub climbs : (q x y : ℕ) → Of label from q x → Of label from q y → x < y → label x < label y
  climbs q x y a b l = elim b [
    | inl e ↦ absurd (omega (arith, e, l))
    | inr s ↦ elim a [
      | inl e ↦ (let z : label x ≡ 0 = ap label e ∙ n.zero_is in let w = s.0 in omega (arith, z, w))
      | inr r ↦ n.ordered x y r.0 s.0 (r.1 ∙ sym s.1) l
    ]
  ]

  pub same_lt : (q x y : ℕ) → Of label from q x → Of label from q y → nat_lt (label x) (label y) ≡ nat_lt x y
  same_lt q x y a b = alike_lt (label x) (label y) x y (climbs q x y a b) (climbs q y x b a) (λ e. ap label e)

  pub same_le : (q x y : ℕ) → Of label from q x → Of label from q y → nat_le (label x) (label y) ≡ nat_le x y
  same_le q x y a b = alike_le (label x) (label y) x y (climbs q x y a b) (climbs q y x b a) (λ e. ap label e)

  pub some_label : (q x : ℕ) → Of label from q x → nat_lt 0 (label x) ≡ nat_lt 0 x
  some_label q x a = ap (λ (z : ℕ). nat_lt z (label x)) (sym n.zero_is) ∙ same_lt q 0 x (inl refl) a

  pub none_label : (q x : ℕ) → Of label from q x → (label x == 0) ≡ (x == 0)
  none_label q x a = plain (label x) x (some_label q x a)
    where
      plain : (a x : ℕ) → nat_lt 0 a ≡ nat_lt 0 x → (a == 0) ≡ (x == 0)
      plain a x e = grind (arith, nat_tests, e)

  pub of_low : (q x : ℕ) → Of label from q x → label x ≤ used q
  of_low q x a = elim a [
    | inl e ↦ (let z : label x ≡ 0 = ap label e ∙ n.zero_is in omega (arith, z))
    | inr r ↦ subst (λ (u : ℕ). label x ≤ used u) r.1 (n.low x r.0).1
  ]

  -- one row more
  pub row_more : Numbers label used from (rows + 1)
  row_more = record { zero_is = n.zero_is; ordered = n.ordered; low = λ m a. let x = n.low m a in (omega (arith, x.0), x.1) }

  -- a message more
  not_new : (m : ℕ) → 0 < label m → m ≢ rows + 1
  not_new m a e = let x = (n.low m a).0 in omega (arith, x, e)

  module _ (p : ℕ) where
    pub label_old : (m : ℕ) → 0 < label m → at_one (rows + 1) (used p + 1) label m ≡ label m
    label_old m a = at_one_other (rows + 1) m (used p + 1) label (not_new m a)

    pub from_old : (m : ℕ) → 0 < label m → at_one (rows + 1) p from m ≡ from m
    from_old m a = at_one_other (rows + 1) m p from (not_new m a)

    pub body_old : {X : Type 0} (body : ℕ → X) (x : X) (m : ℕ) → 0 < label m → at_one (rows + 1) x body m ≡ body m
    body_old body x m a = at_one_other (rows + 1) m x body (not_new m a)

    pub label_none : at_one (rows + 1) (used p + 1) label 0 ≡ 0
    label_none = at_one_other (rows + 1) 0 (used p + 1) label (λ e. absurd (omega (arith, e))) ∙ n.zero_is

    pub label_same : (q m : ℕ) → Of label from q m → at_one (rows + 1) (used p + 1) label m ≡ label m
    label_same q m a = elim a [
      | inl e ↦ ap (at_one (rows + 1) (used p + 1) label) e ∙ (label_none ∙ (sym n.zero_is ∙ ap label (sym e)))
      | inr r ↦ label_old m r.0
    ]

    pub of_old : (q m : ℕ) → Of label from q m → Of (at_one (rows + 1) (used p + 1) label) (at_one (rows + 1) p from) q m
    of_old q m a = elim a [
      | inl e ↦ inl e
      | inr r ↦ inr (subst (λ (x : ℕ). 0 < x) (sym (label_old m r.0)) r.0, from_old m r.0 ∙ r.1)
    ]

    pub of_new : Of (at_one (rows + 1) (used p + 1) label) (at_one (rows + 1) p from) p (rows + 1)
    of_new = inr (subst (λ (x : ℕ). 0 < x) (sym (at_one_here (rows + 1) (used p + 1) label)) (omega arith), at_one_here (rows + 1) p from)

    used_more : (u : ℕ) → used u ≤ at_one p (used p + 1) used u
    used_more u = elim (cases_eq u p) [
      | inl e ↦ rw (e, is_same p) (omega arith)
      | inr d ↦ rw (is_other u p d) (omega arith)
    ]

    pub numbers_sent : Numbers (at_one (rows + 1) (used p + 1) label) (at_one p (used p + 1) used) (at_one (rows + 1) p from) (rows + 1)
    numbers_sent = record {
      zero_is = label_none;
      ordered = λ m k a b e l. orders m k a b e l;
      low = λ m a. lows m a;
    }
      where
        label' : ℕ → ℕ
        label' = at_one (rows + 1) (used p + 1) label

        old : (m : ℕ) → m ≢ rows + 1 → 0 < at_one (rows + 1) (used p + 1) label m → 0 < label m
        old m d a = subst (λ (x : ℕ). 0 < x) (at_one_other (rows + 1) m (used p + 1) label d) a

        lows : (m : ℕ) → 0 < at_one (rows + 1) (used p + 1) label m → (m ≤ rows + 1) × (at_one (rows + 1) (used p + 1) label m ≤ at_one p (used p + 1) used (at_one (rows + 1) p from m))
        lows m a = elim (cases_eq m (rows + 1)) [
          | inl e ↦ rw (e, is_same (rows + 1), is_same p) (omega arith, omega arith)
          | inr d ↦ (
              let o = old m d a in
              let x = n.low m o in
              let y = used_more (from m) in
              (omega (arith, x.0), rw (is_other m (rows + 1) d) (omega (arith, x.1, y))))
        ]

        orders : (m k : ℕ) → 0 < at_one (rows + 1) (used p + 1) label m → 0 < at_one (rows + 1) (used p + 1) label k → at_one (rows + 1) p from m ≡ at_one (rows + 1) p from k → m < k → at_one (rows + 1) (used p + 1) label m < at_one (rows + 1) (used p + 1) label k
        orders m k a b e l = elim (cases_eq m (rows + 1)) [
          | inl x ↦ (let y = (lows k b).0 in absurd (omega (arith, x, y, l)))
          | inr d ↦ elim (cases_eq k (rows + 1)) [
            | inl x ↦ (
                let o = old m d a in
                let f : from m ≡ p = sym (at_one_other (rows + 1) m p from d) ∙ (e ∙ (ap (at_one (rows + 1) p from) x ∙ at_one_here (rows + 1) p from)) in
                let z : label m ≤ used p = subst (λ (u : ℕ). label m ≤ used u) f (n.low m o).1 in
                rw (x, is_same (rows + 1), is_other m (rows + 1) d) (omega (arith, z)))
            | inr c ↦ (
                let f : from m ≡ from k = sym (at_one_other (rows + 1) m p from d) ∙ (e ∙ at_one_other (rows + 1) k p from c) in
                let z = n.ordered m k (old m d a) (old k c b) f l in
                rw (is_other m (rows + 1) d, is_other k (rows + 1) c) z)
          ]
        ]
