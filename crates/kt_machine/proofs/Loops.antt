-- What a close does to lists, pair by pair, as loops over processes do it.
use Rattle.std.proofs.Common.{◌≡◌, ℕ, ◌+◌, ◌≤◌, ◌<◌, Bool, true, false, List, [], ◌∷◌, ◌++◌, refl, arith, sym, ap, subst, ◌∙◌, Option, inl, inr}
use Rattle.std.specs.Prelude.{◌==◌, ◌&&◌, nat_lt, if◌then◌else◌, drop}
use Rattle.std.proofs.Math.Path.{fun_ext}
use Rattle.std.proofs.lemmas.Bool.{cases_eq}
use Rattle.std.proofs.lemmas.Bool.Decides.{nat_tests}
use Rattle.kt_fifo.specs.declared.parcels.Parcel.{Parcel}
use Rattle.kt_fifo.specs.declared.parcels.Parcel.TheVariants.{Decide}
use Rattle.kt_fifo.specs.Channels.{at_pair}
use Rattle.kt_machine.specs.Seen.{SeenLists}
use Rattle.kt_machine.specs.ListChanges.{with_decisions, trims, low}
use Rattle.kt_machine.specs.InOnePiece.{held_after_rollback, kept_after_rollback}

-- the lists to p from senders below i are changed
abbrev pub upto : ℕ → ℕ → (ℕ → List Parcel) → SeenLists → SeenLists
upto i p new old q u = if u == p && nat_lt q i then new q else old q u

pub upto_none : (p : ℕ) (new : ℕ → List Parcel) (old : SeenLists) → upto 0 p new old ≡ old
upto_none p new old = fun_ext (λ q. fun_ext (λ u. go q u (u == p)))
  where
    go : (q u : ℕ) (b : Bool) → (if b && nat_lt q 0 then new q else old q u) ≡ old q u
    go q u true = rw (below q) refl
      where
        below : (q : ℕ) → nat_lt q 0 ≡ false
        below q = grind (arith, nat_tests)
    go q u false = refl

pub upto_more : (i p : ℕ) (new : ℕ → List Parcel) (old : SeenLists) → at_pair i p (new i) (upto i p new old) ≡ upto (i + 1) p new old
upto_more i p new old = fun_ext (λ q. fun_ext (λ u. go q u (q == i) (u == p) refl))
  where
    last : (q i : ℕ) → (q == i) ≡ true → (nat_lt q (i + 1) ≡ true) × (q ≡ i)
    last q i e = (grind (arith, nat_tests, e), grind (arith, nat_tests, e))

    other : (q i : ℕ) → (q == i) ≡ false → nat_lt q (i + 1) ≡ nat_lt q i
    other q i e = grind (arith, nat_tests, e)

    go : (q u : ℕ) (a b : Bool) → (q == i) ≡ a → (if a && b then new i else if b && nat_lt q i then new q else old q u) ≡ (if b && nat_lt q (i + 1) then new q else old q u)
    go q u true true e = let x = last q i e in rw x.0 (ap new (sym x.1))
    go q u false true e = rw (other q i e) refl
    go q u true false e = refl
    go q u false false e = refl

-- beyond the last process nothing changes
pub upto_all : (n p : ℕ) (new : ℕ → List Parcel) (old : SeenLists) → ((q : ℕ) → n ≤ q → new q ≡ old q p) → upto n p new old ≡ (λ q u. if u == p then new q else old q u)
upto_all n p new old h = fun_ext (λ q. fun_ext (λ u. go q u (u == p) (nat_lt q n) refl refl))
  where
    same : (a b : ℕ) → (a == b) ≡ true → a ≡ b
    same a b e = grind (arith, nat_tests)

    beyond : (q : ℕ) → nat_lt q n ≡ false → n ≤ q
    beyond q e = grind (arith, nat_tests, e)

    go : (q u : ℕ) (a b : Bool) → (u == p) ≡ a → nat_lt q n ≡ b → (if a && b then new q else old q u) ≡ (if a then new q else old q u)
    go q u true true e f = refl
    go q u true false e f = ap (old q) (same u p e) ∙ sym (h q (beyond q f))
    go q u false true e f = refl
    go q u false false e f = refl

-- the three lists of a close: what stands to p, and the rest
at_p : (p : ℕ) (f g : ℕ → ℕ → List Parcel) → (q u : ℕ) → (if u == p then f q p else g q u) ≡ (if u == p then f q u else g q u)
at_p p f g q u = go (u == p) refl
  where
    same : (a b : ℕ) → (a == b) ≡ true → a ≡ b
    same a b e = grind (arith, nat_tests)

    go : (b : Bool) → (u == p) ≡ b → (if b then f q p else g q u) ≡ (if b then f q u else g q u)
    go true e = ap (f q) (sym (same u p e))
    go false e = refl

pub held_is : (n p : ℕ) (noted : ℕ → Option ℕ) (kept held : SeenLists) → ((q : ℕ) → n ≤ q → low (noted q) (kept q p) ++ low (noted q) (held q p) ≡ held q p) →
    upto n p (λ q. low (noted q) (kept q p) ++ low (noted q) (held q p)) held ≡ held_after_rollback true p noted kept held
held_is n p noted kept held h = upto_all n p (λ q. low (noted q) (kept q p) ++ low (noted q) (held q p)) held h ∙ fun_ext (λ q. fun_ext (λ u. at_p p (λ q u. low (noted q) (kept q u) ++ low (noted q) (held q u)) held q u))

pub kept_is : (n p : ℕ) (kept : SeenLists) → ((q : ℕ) → n ≤ q → kept q p ≡ []) → upto n p (λ q. []) kept ≡ kept_after_rollback true p kept
kept_is n p kept h = upto_all n p (λ q. []) kept (λ q l. sym (h q l))

pub trimmed_is : (n p : ℕ) (marks : ℕ → ℕ) (kept : SeenLists) → ((q : ℕ) → n ≤ q → drop (marks q) (kept q p) ≡ kept q p) → upto n p (λ q. drop (marks q) (kept q p)) kept ≡ trims true p marks kept
trimmed_is n p marks kept h = upto_all n p (λ q. drop (marks q) (kept q p)) kept h ∙ fun_ext (λ q. fun_ext (λ u. at_p p (λ q u. drop (marks q) (kept q u)) kept q u))

-- decisions told one by one
pub told_none : (channel : SeenLists) (p k : ℕ) (c : Bool) (set : ℕ → Bool) → channel ≡ with_decisions channel p k c (λ q. set q && nat_lt q 0)
unfolding with_decisions
told_none channel p k c set = fun_ext (λ u. fun_ext (λ v. grind (arith, nat_tests)))

pub told_more : (channel : SeenLists) (p k n : ℕ) (c : Bool) (set : ℕ → Bool) → set n ≡ true →
    at_pair p n (with_decisions channel p k c (λ q. set q && nat_lt q n) p n ++ Decide k c ∷ []) (with_decisions channel p k c (λ q. set q && nat_lt q n)) ≡ with_decisions channel p k c (λ q. set q && nat_lt q (n + 1))
unfolding with_decisions
told_more channel p k n c set h = fun_ext (λ u. fun_ext (λ v. elim (cases_eq v n) [
  | inl e ↦ subst (λ (v : ℕ). at_pair p n ((if p == p && (set n && nat_lt n n) then channel p n ++ Decide k c ∷ [] else channel p n) ++ Decide k c ∷ []) (λ u v. if u == p && (set v && nat_lt v n) then channel u v ++ Decide k c ∷ [] else channel u v) u v
      ≡ (if u == p && (set v && nat_lt v (n + 1)) then channel u v ++ Decide k c ∷ [] else channel u v)) (sym e) (grind (arith, nat_tests))
  | inr e ↦ grind (arith, nat_tests)
]))

pub told_less : (channel : SeenLists) (p k n : ℕ) (c : Bool) (set : ℕ → Bool) → set n ≡ false →
    with_decisions channel p k c (λ q. set q && nat_lt q n) ≡ with_decisions channel p k c (λ q. set q && nat_lt q (n + 1))
unfolding with_decisions
told_less channel p k n c set h = fun_ext (λ u. fun_ext (λ v. elim (cases_eq v n) [
  | inl e ↦ subst (λ (v : ℕ). (if u == p && (set v && nat_lt v n) then channel u v ++ Decide k c ∷ [] else channel u v) ≡ (if u == p && (set v && nat_lt v (n + 1)) then channel u v ++ Decide k c ∷ [] else channel u v)) (sym e) (grind (arith, nat_tests))
  | inr e ↦ grind (arith, nat_tests)
]))

pub told_all : (channel : SeenLists) (p k n : ℕ) (c : Bool) (set : ℕ → Bool) → ((q : ℕ) → set q ≡ true → q < n) → with_decisions channel p k c (λ q. set q && nat_lt q n) ≡ with_decisions channel p k c set
unfolding with_decisions
told_all channel p k n c set h = fun_ext (λ u. fun_ext (λ v. at_test u v (set v) refl))
  where
    at_test : (u v : ℕ) (b : Bool) → set v ≡ b → (if u == p && (set v && nat_lt v n) then channel u v ++ Decide k c ∷ [] else channel u v) ≡ (if u == p && set v then channel u v ++ Decide k c ∷ [] else channel u v)
    at_test u v true e = let b = h v e in grind (arith, nat_tests)
    at_test u v false e = grind (arith, nat_tests)
