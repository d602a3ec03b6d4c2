-- Two tables merged by peer, the later label for each.
use Rattle.std.specs.Prelude.{if◌then◌else◌, nat_le}
use Rattle.std.proofs.Common.{◌≡◌, ℕ, ◌+◌, ◌≤◌, ◌<◌, max, [], ◌∷◌, ◌++◌, length, Some, None, refl, arith, sym, ap, subst, ◌∙◌, inl, inr, length-append}
use Rattle.std.proofs.lemmas.Bool.{cases_lt, cases_eq}
use Rattle.std.proofs.lemmas.Bool.Decides.{nat_tests}
use Rattle.std.proofs.lemmas.List.{append-nil, append_assoc}
use Rattle.kt_tables.specs.Peers.{find_label, IsTable, at_peer}
use Rattle.kt_tables.specs.Walks.{head_label, after_peer, smaller_head}
use Rattle.kt_tables.proofs.Pairs.{Pairs, table_front, table_end, table_step, table_length, find_step, find_skip, find_head, after_table}

-- a and b are merged as far as `done`; `first` and `second` are left of them
pub record Merging (a b : Pairs) (n : ℕ) (done first second : Pairs) : Type 0 where
  pub first_table : IsTable 0 n (done ++ first)
  pub second_table : IsTable 0 n (done ++ second)
  pub later : (q : ℕ) → max (find_label a q) (find_label b q) ≡ max (find_label (done ++ first) q) (find_label (done ++ second) q)

pub merging_none : (a b : Pairs) (n : ℕ) → IsTable 0 n a → IsTable 0 n b → Merging a b n [] a b
merging_none a b n h k = record { first_table = h; second_table = k; later = λ q. refl }

-- all that a step needs to know of its peer
record Turn (n : ℕ) (done first second : Pairs) (p : ℕ) : Type 0 where
  x : ℕ
  below : IsTable 0 n (done ++ (p, x) ∷ [])
  here : IsTable p n first
  there : IsTable p n second
  positive : 0 < max (head_label first p) (head_label second p)

from_head : (n : ℕ) (done rest : Pairs) (pair : ℕ × ℕ) (p : ℕ) → IsTable 0 n (done ++ pair ∷ rest) → p ≤ pair.0 → IsTable p n (pair ∷ rest)
unfolding IsTable
from_head n done rest pair p h b = let e = table_end 0 n done (pair ∷ rest) h in (b, e.1, e.2, e.3)

head_positive : (p n : ℕ) (pair : ℕ × ℕ) (rest : Pairs) → IsTable p n (pair ∷ rest) → pair.0 ≡ p → 0 < head_label (pair ∷ rest) p
unfolding IsTable
head_positive p n pair rest h e = let a : 0 < pair.1 = h.2 in grind (arith, nat_tests)

turn : (n : ℕ) (done first second : Pairs) (p : ℕ) → IsTable 0 n (done ++ first) → IsTable 0 n (done ++ second) → smaller_head first second ≡ Some p → Turn n done first second p
unfolding IsTable
turn n done [] [] p h k e = absurd (cc (e))
turn n done (pair ∷ first) [] p h k e =
    let s : pair.0 ≡ p = cc (e) in
    let t = from_head n done first pair p h (omega arith) in
    let c = head_positive p n pair first t s in
    record { x = pair.1; below = subst (λ (r : ℕ). IsTable 0 n (done ++ (r, pair.1) ∷ [])) s (table_front 0 n done first pair h); here = t; there = tt; positive = omega arith }
turn n done [] (pair ∷ second) p h k e =
    let s : pair.0 ≡ p = cc (e) in
    let t = from_head n done second pair p k (omega arith) in
    let c = head_positive p n pair second t s in
    record { x = pair.1; below = subst (λ (r : ℕ). IsTable 0 n (done ++ (r, pair.1) ∷ [])) s (table_front 0 n done second pair k); here = tt; there = t; positive = omega arith }
turn n done (one ∷ first) (two ∷ second) p h k e = elim (cases_lt two.0 one.0) [
  | inl less ↦
      let s : two.0 ≡ p = took_second one.0 two.0 p e less in
      let t = from_head n done second two p k (omega arith) in
      let c = head_positive p n two second t s in
      record { x = two.1; below = subst (λ (r : ℕ). IsTable 0 n (done ++ (r, two.1) ∷ [])) s (table_front 0 n done second two k); here = from_head n done first one p h (omega arith); there = t; positive = omega arith }
  | inr more ↦
      let s : one.0 ≡ p = took_first one.0 two.0 p e more in
      let t = from_head n done first one p h (omega arith) in
      let c = head_positive p n one first t s in
      record { x = one.1; below = subst (λ (r : ℕ). IsTable 0 n (done ++ (r, one.1) ∷ [])) s (table_front 0 n done first one h); here = t; there = from_head n done second two p k (omega arith); positive = omega arith }
]
  where
    took_first : (m k p : ℕ) → Some (if nat_le m k then m else k) ≡ Some p → m ≤ k → m ≡ p
    took_first m k p e h = let f : (if nat_le m k then m else k) ≡ p = cc (e) in grind (arith, nat_tests)

    took_second : (m k p : ℕ) → Some (if nat_le m k then m else k) ≡ Some p → k < m → k ≡ p
    took_second m k p e h = let f : (if nat_le m k then m else k) ≡ p = cc (e) in grind (arith, nat_tests)

max_step : (p q l u v : ℕ) (f g : ℕ → ℕ) → f p ≡ u → g p ≡ v → l ≡ max u v → max (at_peer p l f q) (at_peer p l g q) ≡ max (f q) (g q)
max_step p q l u v f g a b c = elim (cases_eq q p) [
  | inl same ↦
      let d : f q ≡ u = ap f same ∙ a in
      let e : g q ≡ v = ap g same ∙ b in
      grind (arith, nat_tests)
  | inr other ↦ grind (arith, nat_tests)
]

pub merging_more : (a b : Pairs) (n : ℕ) (done first second : Pairs) (p l : ℕ) → Merging a b n done first second → smaller_head first second ≡ Some p → l ≡ max (head_label first p) (head_label second p) →
    Merging a b n (done ++ (p, l) ∷ []) (after_peer first p) (after_peer second p)
merging_more a b n done first second p l m e is =
    let t = turn n done first second p m.first_table m.second_table e in
    let c : 0 < l = omega (arith, t.positive) in
    let one = append_assoc done ((p, l) ∷ []) (after_peer first p) in
    let two = append_assoc done ((p, l) ∷ []) (after_peer second p) in
    record {
      first_table = rw one (table_step 0 n done (after_peer first p) p t.x l t.below (after_table p n first t.here) c);
      second_table = rw two (table_step 0 n done (after_peer second p) p t.x l t.below (after_table p n second t.there) c);
      later = λ q.
          rw (one, two, find_step 0 n done first p t.x l q t.below, find_step 0 n done second p t.x l q t.below)
          (m.later q ∙ sym (max_step p q l (head_label first p) (head_label second p) (find_label (done ++ first)) (find_label (done ++ second))
          (find_skip 0 n done first p t.x p t.below (omega arith) ∙ find_head p n first t.here)
          (find_skip 0 n done second p t.x p t.below (omega arith) ∙ find_head p n second t.there) is));
    }

none_left : (first second : Pairs) → smaller_head first second ≡ None → (first ≡ []) × (second ≡ [])
none_left [] [] e = (refl, refl)
none_left (one ∷ first) [] e = absurd (cc (e))
none_left [] (two ∷ second) e = absurd (cc (e))
none_left (one ∷ first) (two ∷ second) e = absurd (cc (e))

pub merging_all : (a b : Pairs) (n : ℕ) (done first second : Pairs) → Merging a b n done first second → smaller_head first second ≡ None → (q : ℕ) → find_label done q ≡ max (find_label a q) (find_label b q)
merging_all a b n done first second m e q =
    let h = none_left first second e in
    let one : done ++ first ≡ done = ap (λ (l : Pairs). done ++ l) h.0 ∙ append-nil done in
    let two : done ++ second ≡ done = ap (λ (l : Pairs). done ++ l) h.1 ∙ append-nil done in
    rw (m.later q, one, two) (omega arith)

pub merging_table : (a b : Pairs) (n : ℕ) (done first second : Pairs) → Merging a b n done first second → smaller_head first second ≡ None → IsTable 0 n done
merging_table a b n done first second m e =
    let h = none_left first second e in
    let one : done ++ first ≡ done = ap (λ (l : Pairs). done ++ l) h.0 ∙ append-nil done in
    subst (λ (l : Pairs). IsTable 0 n l) one m.first_table

-- there is room for one pair more
pub merging_room : (a b : Pairs) (n : ℕ) (done first second : Pairs) (p : ℕ) → Merging a b n done first second → smaller_head first second ≡ Some p → length done < n
merging_room a b n done first second p m e =
    let t = turn n done first second p m.first_table m.second_table e in
    omega (arith, table_length 0 n (done ++ (p, t.x) ∷ []) t.below (omega arith), length-append done ((p, t.x) ∷ []))

-- each turn leaves fewer pairs
pub merging_falls : (first second : Pairs) (p : ℕ) → smaller_head first second ≡ Some p → length (after_peer first p) + length (after_peer second p) < length first + length second
merging_falls [] [] p e = absurd (cc (e))
merging_falls (one ∷ first) [] p e = let s : one.0 ≡ p = cc (e) in grind (arith, nat_tests)
merging_falls [] (two ∷ second) p e = let s : two.0 ≡ p = cc (e) in grind (arith, nat_tests)
merging_falls (one ∷ first) (two ∷ second) p e = let s : (if nat_le one.0 two.0 then one.0 else two.0) ≡ p = cc (e) in grind (arith, nat_tests)
