use Rattle.std.proofs.Common.{◌≡◌, ◌≢◌, ◌∙◌, ◌<◌, ◌==◌, ◌+◌, ◌||◌, ℕ, Bool, true, false, arith, refl, sym, ap, subst, inl, inr, rules}
use Rattle.std.proofs.lemmas.Bool.{cases_lt, cases_eq, or_left, or_right}
use Rattle.std.proofs.lemmas.Nat.Bits.{bit_at_above}
use Rattle.kt_base.specs.Sets.{has}
use Rattle.kt_system.proofs.system.takes.joined.Goals as goal

or_none : (a b : Bool) → b ≡ false → (a || b) ≡ a
or_none true b e = refl
or_none false b e = e

either : (a b x y : Bool) → a ≡ x → b ≡ y → (a || b) ≡ (x || y)
either a b x y e f = ap (λ (t : Bool). t || b) e ∙ ap (λ (t : Bool). x || t) f

pub loop-number-init : goal.loop-number-init
loop-number-init c = record { both = λ q. refl; passed = λ q l. absurd (omega (arith, l)); small = search rules }

pub returns-in_default : goal.returns-in_default
returns-in_default c = λ q. sym (or_none _ _ (c.in_default.ensures.none q)) ∙ c.loop-number.invariant.both q

-- a member goes from one of two sets to the other
moved : (all left more less p : ℕ) → has left p ≡ true → has more p ≡ true → ((q : ℕ) → q ≢ p → has more q ≡ has all q) → ((q : ℕ) → q ≢ p → has less q ≡ has left q) → (q : ℕ) → (has more q || has less q) ≡ (has all q || has left q)
moved all left more less p member added same rest q = elim (cases_eq q p) [
  | inl e ↦
      let here = subst (λ (n : ℕ). has more n ≡ true) (sym e) added in
      let was = subst (λ (n : ℕ). has left n ≡ true) (sym e) member in
      or_left (has more q) (has less q) here ∙ sym (or_right (has all q) (has left q) was)
  | inr n ↦ either (has more q) (has less q) (has all q) (has left q) (same q n) (rest q n)
]

-- those before the next number are gone
gone : (left less p i : ℕ) → has left p ≡ true → ((q : ℕ) → q < p → has left q ≡ false) → ((q : ℕ) → q < i → has left q ≡ false) → has less p ≡ false → ((q : ℕ) → q ≢ p → has less q ≡ has left q) → (q : ℕ) → q < i + 1 → has less q ≡ false
gone left less p i member least before removed rest q l = elim (cases_eq q p) [
  | inl e ↦ subst (λ (n : ℕ). has less n ≡ false) (sym e) removed
  | inr n ↦ rest q n ∙ elim (cases_lt q i) [
    | inl k ↦ before q k
    | inr k ↦ elim (cases_lt q p) [
      | inl m ↦ least q m
      | inr m ↦ absurd (let early : p < i = omega (arith, l, k, m, n) in let f = before p early in cc (f, member))
    ]
  ]
]

pub loop-number-preserved : goal.loop-number-preserved
loop-number-preserved c = record {
  both = λ q. moved c.loop-number.all c.loop-number.left c.with-all.result c.without-left.result c.in-Some.p c.in-Some.ensures.member c.with-all.ensures.added c.with-all.ensures.others c.without-left.ensures.others q
      ∙ c.loop-number.invariant.both q;
  small = search rules;
  passed = gone c.loop-number.left c.without-left.result c.in-Some.p c.loop-number._number c.in-Some.ensures.member c.in-Some.ensures.least c.loop-number.invariant.passed c.without-left.ensures.removed c.without-left.ensures.others;
}

pub returns : goal.returns
returns c = λ q.
    let over = c.loop-number-test.false in
    let empty : has c.loop-number.left q ≡ false = elim (cases_lt q 64) [
      | inl l ↦ c.loop-number.invariant.passed q (omega (arith, l, over))
      | inr h ↦ ap (λ (n : ℕ). n == 1) (bit_at_above c.loop-number.left 64 q c.loop-number.invariant.small h)
    ] in
    sym (or_none _ _ empty) ∙ c.loop-number.invariant.both q
