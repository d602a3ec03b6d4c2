-- The chain through the first member with a linking message.
use Rattle.std.proofs.Common.{◌≡◌, ℕ, zero, suc, ◌<◌, ◌≤◌, ◌+◌, Option, Some, None, List, [], ◌∷◌, ◌++◌, length, drop, length-append, refl, sym, ap, ◌∙◌, arith}
use Rattle.std.specs.List.{slice_get}
use Rattle.kt_meaning.proofs.Items.{some_same}
use Rattle.kt_meaning.specs.Linking.{led_on, chain_through}

-- a chain goes through the member at a place, the first that is linked, and on by this message
pub record IsThrough (link : ℕ → Option ℕ) (ms : List (ℕ × List ℕ)) (chain : List ℕ) : Type 0 where
  pub place : ℕ
  pub member : ℕ
  pub before : List ℕ
  pub there : slice_get ms place ≡ Some (member, before)
  pub msg : ℕ
  pub linked : link member ≡ Some msg
  pub made : before ++ msg ∷ [] ≡ chain
  pub first : (i q : ℕ) (c : List ℕ) → i < place → slice_get ms i ≡ Some (q, c) → link q ≡ None

pub through_is : (link : ℕ → Option ℕ) (ms : List (ℕ × List ℕ)) (chain : List ℕ) → chain_through link ms ≡ Some chain → IsThrough link ms chain
through_is link [] chain e = absurd (cc)
through_is link (m ∷ ms) chain e = from (link m.0) refl e (λ f. through_is link ms chain f)
  where
    from : (o : Option ℕ) → link m.0 ≡ o → led_on m.1 o (chain_through link ms) ≡ Some chain → (chain_through link ms ≡ Some chain → IsThrough link ms chain) → IsThrough link (m ∷ ms) chain
    from (Some msg) l e rest = record {
      place = 0;
      member = m.0;
      before = m.1;
      there = refl;
      msg = msg;
      linked = l;
      made = some_same e;
      first = λ i q c low h. absurd (omega (arith, low));
    }
    from None l e rest =
        let r = rest e in
        record {
          place = suc r.place;
          member = r.member;
          before = r.before;
          there = r.there;
          msg = r.msg;
          linked = r.linked;
          made = r.made;
          first = λ i q c low h. first_of r i q c low h;
        }
      where
        first_of : (r : IsThrough link ms chain) → (i q : ℕ) (c : List ℕ) → i < suc (IsThrough.place r) → slice_get (m ∷ ms) i ≡ Some (q, c) → link q ≡ None
        first_of r zero q c low h = ap (λ (y : ℕ × List ℕ). link y.0) (sym (some_same h)) ∙ l
        first_of r (suc i) q c low h = r.first i q c (omega (arith, low)) h

pub through_none : (link : ℕ → Option ℕ) (ms : List (ℕ × List ℕ)) → chain_through link ms ≡ None → (i q : ℕ) (c : List ℕ) → slice_get ms i ≡ Some (q, c) → link q ≡ None
through_none link [] e i q c h = absurd (cc)
through_none link (m ∷ ms) e i q c h = from (link m.0) refl e i h (λ f j g. through_none link ms f j q c g)
  where
    from : (o : Option ℕ) → link m.0 ≡ o → led_on m.1 o (chain_through link ms) ≡ None → (i : ℕ) → slice_get (m ∷ ms) i ≡ Some (q, c)
        → (chain_through link ms ≡ None → (j : ℕ) → slice_get ms j ≡ Some (q, c) → link q ≡ None) → link q ≡ None
    from (Some msg) l e i h rest = absurd (cc)
    from None l e zero h rest = ap (λ (y : ℕ × List ℕ). link y.0) (sym (some_same h)) ∙ l
    from None l e (suc i) h rest = rest e i h

-- it is longer by one than a chain of a member
pub through_longer : (link : ℕ → Option ℕ) (ms : List (ℕ × List ℕ)) (chain : List ℕ) → (h : IsThrough link ms chain) → length chain ≡ length h.before + 1
through_longer link ms chain h = sym (ap length h.made) ∙ length-append h.before (h.msg ∷ [])

drop_item : {X : Type 0} (xs : List X) (n : ℕ) (x : X) → slice_get xs n ≡ Some x → drop n xs ≡ x ∷ drop (suc n) xs
drop_item [] n x e = absurd (cc)
drop_item (y ∷ xs) zero x e = ap (λ z. z ∷ xs) (some_same e)
drop_item (y ∷ xs) (suc n) x e = drop_item xs n x e

pub through_first : (link : ℕ → Option ℕ) (before : List (ℕ × List ℕ)) (n : ℕ) (m : ℕ × List ℕ) → slice_get before n ≡ Some m
    → chain_through link (drop n before) ≡ led_on m.1 (link m.0) (chain_through link (drop (suc n) before))
through_first link before n m e = ap (chain_through link) (drop_item before n m e)

-- an unlinked member is passed over
pub passed_over : (link : ℕ → Option ℕ) (before : List (ℕ × List ℕ)) (n : ℕ) (m : ℕ × List ℕ) → slice_get before n ≡ Some m → None ≡ link m.0
    → chain_through link before ≡ chain_through link (drop n before) → chain_through link before ≡ chain_through link (drop (n + 1) before)
passed_over link before n m at none so_far =
    so_far ∙ (through_first link before n m at ∙ (ap (λ (o : Option ℕ). led_on m.1 o (chain_through link (drop (suc n) before))) (sym none) ∙ ap (λ (x : ℕ). chain_through link (drop x before)) (next n)))
  where
    next : (n : ℕ) → suc n ≡ n + 1
    next n = omega arith

-- a linked one leads on
pub goes_through : (link : ℕ → Option ℕ) (before : List (ℕ × List ℕ)) (n msg : ℕ) (m : ℕ × List ℕ) → slice_get before n ≡ Some m → Some msg ≡ link m.0
    → chain_through link before ≡ chain_through link (drop n before) → Some (m.1 ++ msg ∷ []) ≡ chain_through link before
goes_through link before n msg m at linked so_far =
    sym (so_far ∙ (through_first link before n m at ∙ ap (λ (o : Option ℕ). led_on m.1 o (chain_through link (drop (suc n) before))) (sym linked)))

drop_all : {X : Type 0} (n : ℕ) (xs : List X) → length xs ≤ n → drop n xs ≡ []
drop_all zero [] high = refl
drop_all zero (x ∷ xs) high = absurd (omega (arith, high))
drop_all (suc n) [] high = refl
drop_all (suc n) (x ∷ xs) high = drop_all n xs (omega (arith, high))

-- where none is linked there is none
pub goes_nowhere : (link : ℕ → Option ℕ) (before : List (ℕ × List ℕ)) (n : ℕ) → length before ≤ n → chain_through link before ≡ chain_through link (drop n before) → None ≡ chain_through link before
goes_nowhere link before n high so_far = sym (so_far ∙ ap (chain_through link) (drop_all n before high))
