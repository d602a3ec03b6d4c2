-- A walk along pairs that tests whether they are those of a table.
use Rattle.std.proofs.Common.{◌≡◌, ℕ, ◌+◌, ◌<◌, ◌≤◌, [], ◌∷◌, length, get_or, drop, refl, sym, ap, subst, ◌∙◌, arith, inl, inr}
use Rattle.std.proofs.lemmas.Bool.{cases_eq}
use Rattle.std.proofs.lemmas.List.{at_drop_more, at_drop_all}
use Rattle.kt_tables.specs.Peers.{IsTable, find_label}
use Rattle.kt_tables.proofs.Pairs.{Pairs, find_none, find_same, find_other, find_below}

-- the pairs are those of a table exactly if the rest is
pub record IsAsRest (low n i : ℕ) (ps : Pairs) : Type 0 where
  pub whole : IsTable low n (drop i ps) → IsTable 0 n ps
  pub rest : IsTable 0 n ps → IsTable low n (drop i ps)

head_is : (ps : Pairs) (i : ℕ) (x : ℕ × ℕ) → i < length ps → x ≡ get_or ps i x → drop i ps ≡ x ∷ drop (i + 1) ps
head_is ps i x b e = at_drop_more (λ (l : Pairs). l) ps i x b ∙ ap (λ (y : ℕ × ℕ). y ∷ drop (i + 1) ps) (sym e)

pub rest_none : (n : ℕ) (ps : Pairs) → IsAsRest 0 n 0 ps
rest_none n ps = record { whole = λ h. h; rest = λ h. h }

pub rest_more : (low n i : ℕ) (ps : Pairs) (x : ℕ × ℕ) → IsAsRest low n i ps → i < length ps → x ≡ get_or ps i x →
    low ≤ x.0 → x.0 < n → 0 < x.1 → IsAsRest (x.0 + 1) n (i + 1) ps
unfolding IsTable
rest_more low n i ps x h b e a u l =
    let d = head_is ps i x b e in record {
      whole = λ t. h.whole (subst (λ (r : Pairs). IsTable low n r) (sym d) (a, u, l, t));
      rest = λ t. (subst (λ (r : Pairs). IsTable low n r) d (h.rest t)).3;
    }

pub rest_not : (low n i : ℕ) (ps : Pairs) (x : ℕ × ℕ) → IsAsRest low n i ps → i < length ps → x ≡ get_or ps i x →
    (low ≤ x.0 → x.0 < n → 0 < x.1 → ⊥) → IsTable 0 n ps → ⊥
unfolding IsTable
rest_not low n i ps x h b e f t =
    let k = subst (λ (r : Pairs). IsTable low n r) (head_is ps i x b e) (h.rest t) in f k.0 k.1 k.2

pub rest_all : (low n i : ℕ) (ps : Pairs) → IsAsRest low n i ps → length ps ≤ i → IsTable 0 n ps
unfolding IsTable
rest_all low n i ps h b = h.whole (subst (λ (r : Pairs). IsTable low n r) (sym (at_drop_all (λ (l : Pairs). l) ps i b)) tt)

-- each label is at most this one
unfoldable pub AreAtMost : ℕ → Pairs → Type 0
AreAtMost most [] = Unit {0}
AreAtMost most (pair ∷ ps) = (pair.1 ≤ most) × AreAtMost most ps

-- all labels are at most this one exactly if those of the rest are
pub record AreAsRest (most i : ℕ) (ps : Pairs) : Type 0 where
  pub whole : AreAtMost most (drop i ps) → AreAtMost most ps
  pub rest : AreAtMost most ps → AreAtMost most (drop i ps)

pub most_none : (most : ℕ) (ps : Pairs) → AreAsRest most 0 ps
most_none most ps = record { whole = λ h. h; rest = λ h. h }

pub most_more : (most i : ℕ) (ps : Pairs) (x : ℕ × ℕ) → AreAsRest most i ps → i < length ps → x ≡ get_or ps i x → x.1 ≤ most →
    AreAsRest most (i + 1) ps
unfolding AreAtMost
most_more most i ps x h b e l =
    let d = head_is ps i x b e in record {
      whole = λ t. h.whole (subst (λ (r : Pairs). AreAtMost most r) (sym d) (l, t));
      rest = λ t. (subst (λ (r : Pairs). AreAtMost most r) d (h.rest t)).1;
    }

most_found : (most : ℕ) (ps : Pairs) (q : ℕ) → AreAtMost most ps → find_label ps q ≤ most
unfolding AreAtMost
most_found most [] q h = rw (find_none q) (omega arith)
most_found most (pair ∷ ps) q h = elim (cases_eq pair.0 q) [
  | inl same ↦ rw (find_same pair ps q same) h.0
  | inr other ↦ rw (find_other pair ps q other) (most_found most ps q h.1)
]

found_most : (most low n : ℕ) (ps : Pairs) → IsTable low n ps → ((q : ℕ) → find_label ps q ≤ most) → AreAtMost most ps
unfolding AreAtMost IsTable
found_most most low n [] t h = tt
found_most most low n (pair ∷ ps) t h =
    let below : (q : ℕ) → find_label ps q ≤ most = λ q. elim (cases_eq pair.0 q) [
      | inl same ↦ omega (arith, find_below (pair.0 + 1) n ps q t.3 (omega arith))
      | inr other ↦ subst (λ (l : ℕ). l ≤ most) (find_other pair ps q other) (h q)
    ] in
    (subst (λ (l : ℕ). l ≤ most) (find_same pair ps pair.0 refl) (h pair.0), found_most most (pair.0 + 1) n ps t.3 below)

pub most_all : (most i : ℕ) (ps : Pairs) (q : ℕ) → AreAsRest most i ps → length ps ≤ i → find_label ps q ≤ most
unfolding AreAtMost
most_all most i ps q h b =
    most_found most ps q (h.whole (subst (λ (r : Pairs). AreAtMost most r) (sym (at_drop_all (λ (l : Pairs). l) ps i b)) tt))

pub most_not : (most n i : ℕ) (ps : Pairs) (x : ℕ × ℕ) → AreAsRest most i ps → i < length ps → x ≡ get_or ps i x → most < x.1 →
    IsTable 0 n ps → ((q : ℕ) → find_label ps q ≤ most) → ⊥
unfolding AreAtMost
most_not most n i ps x h b e l t f =
    let k = subst (λ (r : Pairs). AreAtMost most r) (head_is ps i x b e) (h.rest (found_most most 0 n ps t f)) in omega (arith, k.0)
