-- The messages of lists of parcels, in order.
use Rattle.std.proofs.Common.{◌≡◌, ℕ, ◌+◌, ◌<◌, Bool, true, false, List, [], ◌∷◌, ◌++◌, refl, arith, sym, ap, subst, inl, inr, ◌⊎◌, ◌∙◌, append_assoc, append-nil}
use Rattle.std.specs.Prelude.{◌==◌, ◌&&◌, nat_lt, if◌then◌else◌}
use Rattle.std.proofs.lemmas.Bool.{cases_eq}
use Rattle.std.proofs.lemmas.Bool.Decides.{nat_tests}
use Rattle.kt_protocol.proofs.Weights.{any_app, one_app, weigh, weigh_cons, weigh_nil}
use Rattle.kt_protocol.specs.Parcels.{App, Ask, Decide, Parcel, Reply, Lists, with_checkpoint_asks, emptied, with_rest, with_parcel, put_back, with_rollback_asks, messages_where, with_decisions, kept_where}
pub use Rattle.kt_protocol.specs.Parcels.{messages}
pub use Rattle.kt_protocol.specs.InTransit.{times}
use Rattle.kt_protocol.proofs.Choices.{at_if, both, same}

-- each is greater than n
abbrev pub Over : ℕ → List ℕ → Type 0
Over n [] = Unit {0}
Over n (x ∷ xs) = (n < x) × Over n xs

abbrev pub Rising : List ℕ → Type 0
Rising [] = Unit {0}
Rising (x ∷ xs) = Over x xs × Rising xs

-- some of a list, in its order
abbrev pub Thin : List ℕ → List ℕ → Type 0
Thin xs [] = xs ≡ []
Thin xs (y ∷ ys) = Thin xs ys ⊎ ((rest : List ℕ) × (xs ≡ y ∷ rest) × Thin rest ys)

pub times_apps : (m : ℕ) (l : List Parcel) → times m (messages l) ≡ weigh (one_app m) l
times_apps m [] = sym (weigh_nil (one_app m))
times_apps m (App n ∷ xs) = ap (λ (x : ℕ). (if n == m then 1 else 0) + x) (times_apps m xs) ∙ sym (weigh_cons (one_app m) (App n) xs)
times_apps m (Ask k l ∷ xs) = let h = times_apps m xs in let c = weigh_cons (one_app m) (Ask k l) xs in omega (arith, h, c)
times_apps m (Reply k l ∷ xs) = let h = times_apps m xs in let c = weigh_cons (one_app m) (Reply k l) xs in omega (arith, h, c)
times_apps m (Decide k l ∷ xs) = let h = times_apps m xs in let c = weigh_cons (one_app m) (Decide k l) xs in omega (arith, h, c)

pub times_append : (m : ℕ) (a b : List ℕ) → times m (a ++ b) ≡ times m a + times m b
times_append m [] b = omega arith
times_append m (x ∷ a) b = let h = times_append m a b in omega (arith, h)

pub apps_append : (a b : List Parcel) → messages (a ++ b) ≡ messages a ++ messages b
apps_append [] b = refl
apps_append (App n ∷ a) b = ap (λ (l : List ℕ). n ∷ l) (apps_append a b)
apps_append (Ask k l ∷ a) b = apps_append a b
apps_append (Reply k l ∷ a) b = apps_append a b
apps_append (Decide k l ∷ a) b = apps_append a b

apps_other : (x : Parcel) (xs : List Parcel) → any_app x ≡ 0 → messages (x ∷ xs) ≡ messages xs
apps_other (App n) xs e = absurd (omega (arith, e))
apps_other (Ask k l) xs e = refl
apps_other (Reply k l) xs e = refl
apps_other (Decide k l) xs e = refl

apps_push : (l : List Parcel) (x : Parcel) → any_app x ≡ 0 → messages (l ++ x ∷ []) ≡ messages l
apps_push l x e = apps_append l (x ∷ []) ∙ (ap (λ (r : List ℕ). messages l ++ r) (apps_other x [] e) ∙ append-nil (messages l))

-- parcels that are no messages come and go
pub apps_with_parcel : (channel : Lists) (p q : ℕ) (x : Parcel) → any_app x ≡ 0 → (u v : ℕ) → messages (with_parcel channel p q x u v) ≡ messages (channel u v)
unfolding with_parcel
apps_with_parcel channel p q x e u v = at_if (λ (l : List Parcel). messages l ≡ messages (channel u v)) (u == p && v == q) _ _ (λ _. apps_push (channel u v) x e) (λ _. refl)

pub apps_with_rest : (channel : Lists) (q p : ℕ) (x : Parcel) (rest : List Parcel) → channel q p ≡ x ∷ rest → any_app x ≡ 0 → (u v : ℕ) → messages (with_rest channel q p rest u v) ≡ messages (channel u v)
unfolding with_rest
apps_with_rest channel q p x rest e n u v = at_if (λ (l : List Parcel). messages l ≡ messages (channel u v)) (u == q && v == p) _ _
    (λ t. let b = both (u == q) (v == p) t in rw (same u q b.0, same v p b.1, e) (sym (apps_other x rest n))) (λ _. refl)

pub apps_checkpoint_asks : (channel : Lists) (last : ℕ → ℕ → ℕ) (p k u v : ℕ) → messages (with_checkpoint_asks channel last p k u v) ≡ messages (channel u v)
unfolding with_checkpoint_asks
apps_checkpoint_asks channel last p k u v = at_if (λ (l : List Parcel). messages l ≡ messages (channel u v)) (u == p && nat_lt 0 (last p v)) _ _ (λ _. apps_push (channel u v) (Ask k (last p v)) refl) (λ _. refl)

pub apps_rollback_asks : (channel : Lists) (first last_sent : ℕ → ℕ → ℕ) (p k u v : ℕ) → messages (with_rollback_asks channel first last_sent p k u v) ≡ messages (channel u v)
unfolding with_rollback_asks
apps_rollback_asks channel first last_sent p k u v = at_if (λ (l : List Parcel). messages l ≡ messages (channel u v)) (u == p && nat_lt 0 (first p v)) _ _ (λ _. apps_push (channel u v) (Ask k (last_sent p v)) refl) (λ _. refl)

pub apps_decisions : (channel : Lists) (asked : ℕ → ℕ → ℕ → Bool) (p k : ℕ) (c : Bool) (u v : ℕ) → messages (with_decisions channel asked p k c u v) ≡ messages (channel u v)
unfolding with_decisions
apps_decisions channel asked p k c u v = at_if (λ (l : List Parcel). messages l ≡ messages (channel u v)) (u == p && asked k p v) _ _ (λ _. apps_push (channel u v) (Decide k c) refl) (λ _. refl)

-- a message comes last, and a message goes first
pub apps_sending : (channel : Lists) (p q m u v : ℕ) → messages (with_parcel channel p q (App m) u v) ≡ (if u == p && v == q then messages (channel u v) ++ m ∷ [] else messages (channel u v))
unfolding with_parcel
apps_sending channel p q m u v = at_test (u == p && v == q)
  where
    at_test : (b : Bool) → messages (if b then channel u v ++ App m ∷ [] else channel u v) ≡ (if b then messages (channel u v) ++ m ∷ [] else messages (channel u v))
    at_test true = apps_append (channel u v) (App m ∷ [])
    at_test false = refl

pub apps_taken : (channel : Lists) (q p m : ℕ) (rest : List Parcel) → channel q p ≡ App m ∷ rest → messages (channel q p) ≡ m ∷ messages (with_rest channel q p rest q p)
unfolding with_rest
apps_taken channel q p m rest e = rw (is_same q, is_same p, e) refl
  where
    is_same : (a : ℕ) → (a == a) ≡ true
    is_same a = grind (arith, nat_tests)

pub apps_left : (channel : Lists) (q p : ℕ) (rest : List Parcel) (u v : ℕ) → (u == q && v == p) ≡ false → messages (with_rest channel q p rest u v) ≡ messages (channel u v)
unfolding with_rest
apps_left channel q p rest u v e = rw e refl

-- some of a list
pub thin_all : (xs : List ℕ) → Thin xs xs
thin_all [] = refl
thin_all (x ∷ xs) = inr (xs, refl, thin_all xs)

pub thin_append : (a b c d : List ℕ) → Thin a b → Thin c d → Thin (a ++ c) (b ++ d)
thin_append a [] c d t u = rw t u
thin_append a (y ∷ b) c d t u = elim t [
  | inl x ↦ inl (thin_append a b c d x u)
  | inr x ↦ inr (x.0 ++ c, rw x.1 refl, thin_append x.0 b c d x.2 u)
]

pub thin_messages_where : (t : ℕ → Bool) (l : List Parcel) → Thin (messages (messages_where t l)) (messages l)
unfolding messages_where
thin_messages_where t [] = refl
thin_messages_where t (App n ∷ xs) = at_if (λ (l : List Parcel). Thin (messages l) (n ∷ messages xs)) (t n) _ _ (λ _. inr (messages (messages_where t xs), refl, thin_messages_where t xs)) (λ _. inl (thin_messages_where t xs))
thin_messages_where t (Ask k l ∷ xs) = thin_messages_where t xs
thin_messages_where t (Reply k l ∷ xs) = thin_messages_where t xs
thin_messages_where t (Decide k l ∷ xs) = thin_messages_where t xs

pub over_thin : (n : ℕ) (xs ys : List ℕ) → Thin xs ys → Over n ys → Over n xs
over_thin n xs [] t o = rw t tt
over_thin n xs (y ∷ ys) t o = elim t [
  | inl x ↦ over_thin n xs ys x o.1
  | inr x ↦ rw x.1 (o.0, over_thin n x.0 ys x.2 o.1)
]

pub rising_thin : (xs ys : List ℕ) → Thin xs ys → Rising ys → Rising xs
rising_thin xs [] t r = rw t tt
rising_thin xs (y ∷ ys) t r = elim t [
  | inl x ↦ rising_thin xs ys x r.1
  | inr x ↦ rw x.1 (over_thin y x.0 ys x.2 r.0, rising_thin x.0 ys x.2 r.1)
]

-- what is greater than n
pub over_join : (n : ℕ) (a b : List ℕ) → Over n a → Over n b → Over n (a ++ b)
over_join n [] b o p = p
over_join n (x ∷ a) b o p = (o.0, over_join n a b o.1 p)

pub over_right : (n : ℕ) (a b : List ℕ) → Over n (a ++ b) → Over n b
over_right n [] b o = o
over_right n (x ∷ a) b o = over_right n a b o.1

pub over_has : (n m : ℕ) (l : List ℕ) → Over n l → 0 < times m l → n < m
over_has n m [] o h = absurd (omega (arith, h))
over_has n m (x ∷ l) o h = elim (cases_eq x m) [
  | inl e ↦ omega (arith, e, o.0)
  | inr d ↦ over_has n m l o.1 (grind (arith, nat_tests, h, d))
]

pub over_from : (n : ℕ) (l : List ℕ) → ((m : ℕ) → 0 < times m l → n < m) → Over n l
over_from n [] h = tt
over_from n (x ∷ l) h = (h x (grind (arith, nat_tests)), over_from n l (λ m p. h m (omega (arith, p))))

pub rising_right : (a b : List ℕ) → Rising (a ++ b) → Rising b
rising_right [] b r = r
rising_right (x ∷ a) b r = rising_right a b r.1

-- what stands in front is less
pub rising_split : (n m : ℕ) (a b : List ℕ) → Rising (a ++ b) → 0 < times n a → 0 < times m b → n < m
rising_split n m [] b r h k = absurd (omega (arith, h))
rising_split n m (x ∷ a) b r h k = elim (cases_eq x n) [
  | inl e ↦ (let o = over_right x a b r.0 in let l = over_has x m b o k in omega (arith, l, e))
  | inr d ↦ rising_split n m a b r.1 (grind (arith, nat_tests, h, d)) k
]

pub rising_push : (l : List ℕ) (r : ℕ) → Rising l → ((m : ℕ) → 0 < times m l → m < r) → Rising (l ++ r ∷ [])
rising_push [] r x h = (tt, tt)
rising_push (y ∷ l) r x h = (over_join y l (r ∷ []) x.0 (h y (grind (arith, nat_tests)), tt), rising_push l r x.1 (λ m p. h m (omega (arith, p))))

-- what commits leave of lists
pub thin_kept_where : (t member : ℕ → Bool) (kept : Lists) (q p : ℕ) → Thin (messages (kept_where t member kept q p)) (messages (kept q p))
unfolding kept_where
thin_kept_where t member kept q p = at_if (λ (l : List Parcel). Thin (messages l) (messages (kept q p))) (member p) _ _ (λ _. thin_messages_where t (kept q p)) (λ _. thin_all (messages (kept q p)))

pub thin_put_back : (t member : ℕ → Bool) (kept held : Lists) (q p : ℕ) (c : List ℕ) → Thin (messages (emptied member kept q p) ++ (messages (put_back t member kept held q p) ++ c)) (messages (kept q p) ++ (messages (held q p) ++ c))
unfolding emptied put_back
thin_put_back t member kept held q p c = at_test (member p)
  where
    at_test : (b : Bool) → Thin (messages (if b then [] else kept q p) ++ (messages (if b then messages_where t (kept q p) ++ messages_where t (held q p) else held q p) ++ c)) (messages (kept q p) ++ (messages (held q p) ++ c))
    at_test false = thin_all (messages (kept q p) ++ (messages (held q p) ++ c))
    at_test true = subst (λ (l : List ℕ). Thin l (messages (kept q p) ++ (messages (held q p) ++ c)))
        (sym (append_assoc (messages (messages_where t (kept q p))) (messages (messages_where t (held q p))) c) ∙ ap (λ (l : List ℕ). l ++ c) (sym (apps_append (messages_where t (kept q p)) (messages_where t (held q p)))))
        (thin_append (messages (messages_where t (kept q p))) (messages (kept q p)) (messages (messages_where t (held q p)) ++ c) (messages (held q p) ++ c) (thin_messages_where t (kept q p))
        (thin_append (messages (messages_where t (held q p))) (messages (held q p)) c c (thin_messages_where t (held q p)) (thin_all c)))

pub restored_other : (t member : ℕ → Bool) (kept held : Lists) (q p : ℕ) → member p ≡ false → put_back t member kept held q p ≡ held q p
unfolding put_back
restored_other t member kept held q p e = rw e refl
