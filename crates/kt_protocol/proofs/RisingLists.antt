-- Lists of parcels whose messages rise.
use Rattle.std.proofs.Common.{◌≡◌, ℕ, ◌+◌, ◌≤◌, ◌<◌, Bool, true, false, List, [], ◌∷◌, ◌++◌, refl, arith, sym, subst, inl, inr, ◌⊎◌}
use Rattle.std.specs.Prelude.{◌==◌, ◌&&◌, nat_lt, nat_le, if◌then◌else◌}
use Rattle.std.proofs.lemmas.Bool.{cases_eq}
use Rattle.std.proofs.lemmas.Bool.Decides.{nat_tests}
use Rattle.kt_protocol.proofs.Invariant.{is_message, one}
use Rattle.kt_protocol.proofs.Updates.{is_other, is_same}
use Rattle.kt_protocol.proofs.Weights.{any_app, weigh, weigh_cons, weigh_nil, weigh_messages_where}
use Rattle.kt_protocol.specs.Parcels.{App, Ask, Decide, Parcel, Reply, Lists, with_checkpoint_asks, emptied, with_rest, with_parcel, put_back, with_rollback_asks, messages_where, with_decisions, kept_where}
use Rattle.kt_protocol.proofs.Choices.{at_if, two}

-- the messages that do not rise over b and those before them
unfoldable pub falls : ℕ → List Parcel → ℕ
falls b [] = 0
falls b (App m ∷ xs) = one (nat_le m b) + falls m xs
falls b (Ask k l ∷ xs) = falls b xs
falls b (Reply k w ∷ xs) = falls b xs
falls b (Decide k c ∷ xs) = falls b xs

pub falls_nil : (b : ℕ) → falls b [] ≡ 0
unfolding falls
falls_nil b = refl

pub one_le : (m b n : ℕ) → one (nat_le m b) + n ≡ 0 → (b < m) × (n ≡ 0)
one_le m b n h = grind (arith, nat_tests, h)

le_one : (m b n : ℕ) → b < m → n ≡ 0 → one (nat_le m b) + n ≡ 0
le_one m b n l h = grind (arith, nat_tests, l, h)

pub weigh_here : (m : ℕ) (xs : List Parcel) → 0 < weigh (is_message m) (App m ∷ xs)
weigh_here m xs = let w = weigh_cons (is_message m) (App m) xs in let i = is_same m in grind (arith, nat_tests, w, i)

pub weigh_there : (f : Parcel → ℕ) (x : Parcel) (xs : List Parcel) → 0 < weigh f xs → 0 < weigh f (x ∷ xs)
weigh_there f x xs h = let w = weigh_cons f x xs in omega (arith, w, h)

weigh_cases : (n m : ℕ) (xs : List Parcel) → 0 < weigh (is_message n) (App m ∷ xs) → (n ≡ m) ⊎ (0 < weigh (is_message n) xs)
weigh_cases n m xs h = elim (cases_eq n m) [ inl e ↦ inl e | inr d ↦ inr (let w = weigh_cons (is_message n) (App m) xs in let i = is_other m n (λ e. d (sym e)) in grind (arith, nat_tests, w, i, h)) ]

weigh_rest : (f : Parcel → ℕ) (x : Parcel) (xs : List Parcel) → f x ≡ 0 → 0 < weigh f (x ∷ xs) → 0 < weigh f xs
weigh_rest f x xs z h = let w = weigh_cons f x xs in omega (arith, w, z, h)

-- what rises from b is above b
pub falls_above : (b : ℕ) (l : List Parcel) → falls b l ≡ 0 → (n : ℕ) → 0 < weigh (is_message n) l → b < n
unfolding falls
falls_above b [] h n w = absurd (omega (arith, weigh_nil (is_message n), w))
falls_above b (App m ∷ xs) h n w = let a = one_le m b (falls m xs) h in elim (weigh_cases n m xs w) [
  | inl e ↦ rw e a.0
  | inr v ↦ (let i = falls_above m xs a.1 n v in omega (arith, a.0, i))
]
falls_above b (Ask k l ∷ xs) h n w = falls_above b xs h n (weigh_rest (is_message n) (Ask k l) xs refl w)
falls_above b (Reply k l ∷ xs) h n w = falls_above b xs h n (weigh_rest (is_message n) (Reply k l) xs refl w)
falls_above b (Decide k l ∷ xs) h n w = falls_above b xs h n (weigh_rest (is_message n) (Decide k l) xs refl w)

-- and rises from what is below
pub falls_from : (a b : ℕ) (l : List Parcel) → falls a l ≡ 0 → ((n : ℕ) → 0 < weigh (is_message n) l → b < n) → falls b l ≡ 0
unfolding falls
falls_from a b [] h f = refl
falls_from a b (App m ∷ xs) h f = let x = one_le m a (falls m xs) h in le_one m b (falls m xs) (f m (weigh_here m xs)) x.1
falls_from a b (Ask k l ∷ xs) h f = falls_from a b xs h (λ n w. f n (weigh_there (is_message n) (Ask k l) xs w))
falls_from a b (Reply k l ∷ xs) h f = falls_from a b xs h (λ n w. f n (weigh_there (is_message n) (Reply k l) xs w))
falls_from a b (Decide k l ∷ xs) h f = falls_from a b xs h (λ n w. f n (weigh_there (is_message n) (Decide k l) xs w))

pub falls_below : (a b : ℕ) (l : List Parcel) → b ≤ a → falls a l ≡ 0 → falls b l ≡ 0
falls_below a b l e h = falls_from a b l h (λ n w. let i = falls_above a l h n w in omega (arith, i, e))

pub falls_append : (b : ℕ) (a c : List Parcel) → falls b a ≡ 0 → falls b c ≡ 0 → ((m n : ℕ) → 0 < weigh (is_message m) a → 0 < weigh (is_message n) c → m < n) → falls b (a ++ c) ≡ 0
unfolding falls
falls_append b [] c h i f = i
falls_append b (App m ∷ xs) c h i f = let x = one_le m b (falls m xs) h in le_one m b (falls m (xs ++ c)) x.0 (falls_append m xs c x.1 (falls_from b m c i (λ n w. f m n (weigh_here m xs) w)) (λ u n v w. f u n (weigh_there (is_message u) (App m) xs v) w))
falls_append b (Ask k l ∷ xs) c h i f = falls_append b xs c h i (λ u n v w. f u n (weigh_there (is_message u) (Ask k l) xs v) w)
falls_append b (Reply k l ∷ xs) c h i f = falls_append b xs c h i (λ u n v w. f u n (weigh_there (is_message u) (Reply k l) xs v) w)
falls_append b (Decide k l ∷ xs) c h i f = falls_append b xs c h i (λ u n v w. f u n (weigh_there (is_message u) (Decide k l) xs v) w)

no_app : (x : Parcel) → any_app x ≡ 0 → (n : ℕ) → is_message n x ≡ 0
no_app (App m) e n = absurd (omega (arith, e))
no_app (Ask k l) e n = refl
no_app (Reply k l) e n = refl
no_app (Decide k l) e n = refl

falls_one : (b : ℕ) (x : Parcel) → any_app x ≡ 0 → falls b (x ∷ []) ≡ 0
unfolding falls
falls_one b (App m) e = absurd (omega (arith, e))
falls_one b (Ask k l) e = refl
falls_one b (Reply k l) e = refl
falls_one b (Decide k l) e = refl

-- one more that is no message
falls_push_no : (l : List Parcel) (x : Parcel) → any_app x ≡ 0 → falls 0 l ≡ 0 → falls 0 (l ++ x ∷ []) ≡ 0
falls_push_no l x e h = falls_append 0 l (x ∷ []) h (falls_one 0 x e) (λ m n v w. (let a = weigh_cons (is_message n) x [] in let b = weigh_nil (is_message n) in let c = no_app x e n in absurd (omega (arith, a, b, c, w))))

only_app : (m n : ℕ) → 0 < weigh (is_message n) (App m ∷ []) → n ≡ m
only_app m n h = elim (weigh_cases n m [] h) [ inl e ↦ e | inr v ↦ (let a = weigh_nil (is_message n) in absurd (omega (arith, a, v))) ]

falls_app : (m : ℕ) → 0 < m → falls 0 (App m ∷ []) ≡ 0
unfolding falls
falls_app m h = le_one m 0 0 h refl

-- one more message, above all
falls_push_app : (l : List Parcel) (m : ℕ) → 0 < m → ((n : ℕ) → 0 < weigh (is_message n) l → n < m) → falls 0 l ≡ 0 → falls 0 (l ++ App m ∷ []) ≡ 0
falls_push_app l m pos f h = falls_append 0 l (App m ∷ []) h (falls_app m pos) (λ u n v w. rw (only_app m n w) (f u v))

falls_rest : (x : Parcel) (rest : List Parcel) → falls 0 (x ∷ rest) ≡ 0 → falls 0 rest ≡ 0
unfolding falls
falls_rest (App m) rest h = let a = one_le m 0 (falls m rest) h in falls_below m 0 rest (omega arith) a.1
falls_rest (Ask k l) rest h = h
falls_rest (Reply k l) rest h = h
falls_rest (Decide k l) rest h = h

falls_front : (m : ℕ) (rest : List Parcel) → falls 0 (App m ∷ rest) ≡ 0 → (n : ℕ) → 0 < weigh (is_message n) rest → m < n
unfolding falls
falls_front m rest h n w = let a = one_le m 0 (falls m rest) h in falls_above m rest a.1 n w

falls_messages_where : (t : ℕ → Bool) (b : ℕ) (l : List Parcel) → falls b l ≡ 0 → falls b (messages_where t l) ≡ 0
unfolding falls messages_where
falls_messages_where t b [] h = refl
falls_messages_where t b (App m ∷ xs) h = let a = one_le m b (falls m xs) h in go (t m) a.0 (falls_messages_where t m xs a.1) (falls_messages_where t b xs (falls_below m b xs (omega (arith, a.0)) a.1))
  where
    go : (x : Bool) → b < m → falls m (messages_where t xs) ≡ 0 → falls b (messages_where t xs) ≡ 0 → falls b (if x then App m ∷ messages_where t xs else messages_where t xs) ≡ 0
    go true l i j = le_one m b (falls m (messages_where t xs)) l i
    go false l i j = j
falls_messages_where t b (Ask k l ∷ xs) h = falls_messages_where t b xs h
falls_messages_where t b (Reply k l ∷ xs) h = falls_messages_where t b xs h
falls_messages_where t b (Decide k l ∷ xs) h = falls_messages_where t b xs h

pub falls_with_parcel : (channel : Lists) (p q : ℕ) (x : Parcel) → any_app x ≡ 0 → ((u v : ℕ) → falls 0 (channel u v) ≡ 0) → (u v : ℕ) → falls 0 (with_parcel channel p q x u v) ≡ 0
unfolding with_parcel
falls_with_parcel channel p q x e h u v = at_if (λ l. falls 0 l ≡ 0) (u == p && v == q) _ _ (λ _. falls_push_no (channel u v) x e (h u v)) (λ _. h u v)

pub falls_sending : (channel : Lists) (p q m : ℕ) → 0 < m → ((n : ℕ) → 0 < weigh (is_message n) (channel p q) → n < m) → ((u v : ℕ) → falls 0 (channel u v) ≡ 0) → (u v : ℕ) → falls 0 (with_parcel channel p q (App m) u v) ≡ 0
unfolding with_parcel
falls_sending channel p q m pos f h u v = at_if (λ l. falls 0 l ≡ 0) (u == p && v == q) _ _ (λ e. falls_push_app (channel u v) m pos (λ n w. f n (let z = two u p v q e in rw (← z.0, ← z.1) w)) (h u v)) (λ _. h u v)

pub falls_with_rest : (channel : Lists) (q p : ℕ) (x : Parcel) (rest : List Parcel) → channel q p ≡ x ∷ rest → ((u v : ℕ) → falls 0 (channel u v) ≡ 0) → (u v : ℕ) → falls 0 (with_rest channel q p rest u v) ≡ 0
unfolding with_rest
falls_with_rest channel q p x rest e h u v = at_if (λ l. falls 0 l ≡ 0) (u == q && v == p) _ _ (λ _. falls_rest x rest (subst (λ (l : List Parcel). falls 0 l ≡ 0) e (h q p))) (λ _. h u v)

rest_here : (channel : Lists) (q p : ℕ) (rest : List Parcel) → with_rest channel q p rest q p ≡ rest
unfolding with_rest
rest_here channel q p rest = rw (is_same q, is_same p) refl

-- the front is below what stands behind it
pub front_low : (channel : Lists) (q p m : ℕ) (rest : List Parcel) → channel q p ≡ App m ∷ rest → falls 0 (channel q p) ≡ 0 → (n : ℕ) → 0 < weigh (is_message n) (with_rest channel q p rest q p) → m < n
front_low channel q p m rest e h n w = falls_front m rest (subst (λ (l : List Parcel). falls 0 l ≡ 0) e h) n (subst (λ (l : List Parcel). 0 < weigh (is_message n) l) (rest_here channel q p rest) w)

pub falls_checkpoint_asks : (channel : Lists) (last : ℕ → ℕ → ℕ) (p k : ℕ) → ((u v : ℕ) → falls 0 (channel u v) ≡ 0) → (u v : ℕ) → falls 0 (with_checkpoint_asks channel last p k u v) ≡ 0
unfolding with_checkpoint_asks
falls_checkpoint_asks channel last p k h u v = at_if (λ l. falls 0 l ≡ 0) (u == p && nat_lt 0 (last p v)) _ _ (λ _. falls_push_no (channel u v) (Ask k (last p v)) refl (h u v)) (λ _. h u v)

pub falls_rollback_asks : (channel : Lists) (first last_sent : ℕ → ℕ → ℕ) (p k : ℕ) → ((u v : ℕ) → falls 0 (channel u v) ≡ 0) → (u v : ℕ) → falls 0 (with_rollback_asks channel first last_sent p k u v) ≡ 0
unfolding with_rollback_asks
falls_rollback_asks channel first last_sent p k h u v = at_if (λ l. falls 0 l ≡ 0) (u == p && nat_lt 0 (first p v)) _ _ (λ _. falls_push_no (channel u v) (Ask k (last_sent p v)) refl (h u v)) (λ _. h u v)

pub falls_decisions : (channel : Lists) (asked : ℕ → ℕ → ℕ → Bool) (p k : ℕ) (c : Bool) → ((u v : ℕ) → falls 0 (channel u v) ≡ 0) → (u v : ℕ) → falls 0 (with_decisions channel asked p k c u v) ≡ 0
unfolding with_decisions
falls_decisions channel asked p k c h u v = at_if (λ l. falls 0 l ≡ 0) (u == p && asked k p v) _ _ (λ _. falls_push_no (channel u v) (Decide k c) refl (h u v)) (λ _. h u v)

pub falls_emptied : (member : ℕ → Bool) (kept : Lists) → ((u v : ℕ) → falls 0 (kept u v) ≡ 0) → (u v : ℕ) → falls 0 (emptied member kept u v) ≡ 0
unfolding emptied
falls_emptied member kept h u v = at_if (λ l. falls 0 l ≡ 0) (member v) _ _ (λ _. falls_nil 0) (λ _. h u v)

pub falls_kept_where : (t member : ℕ → Bool) (kept : Lists) → ((u v : ℕ) → falls 0 (kept u v) ≡ 0) → (u v : ℕ) → falls 0 (kept_where t member kept u v) ≡ 0
unfolding kept_where
falls_kept_where t member kept h u v = at_if (λ l. falls 0 l ≡ 0) (member v) _ _ (λ _. falls_messages_where t 0 (kept u v) (h u v)) (λ _. h u v)

weigh_messages_left : (m : ℕ) (t : ℕ → Bool) (l : List Parcel) → 0 < weigh (is_message m) (messages_where t l) → 0 < weigh (is_message m) l
weigh_messages_left m t l h = let a = weigh_messages_where m t l in pick (t m) (weigh (is_message m) l) (weigh (is_message m) (messages_where t l)) a h
  where
    pick : (b : Bool) (x y : ℕ) → y ≡ (if b then x else 0) → 0 < y → 0 < x
    pick b x y e l = grind (arith, nat_tests, e, l)

pub falls_put_back : (t member : ℕ → Bool) (kept held : Lists) → ((q p m n : ℕ) → 0 < weigh (is_message m) (kept q p) → 0 < weigh (is_message n) (held q p) → m < n) → ((u v : ℕ) → falls 0 (kept u v) ≡ 0) → ((u v : ℕ) → falls 0 (held u v) ≡ 0) → (u v : ℕ) → falls 0 (put_back t member kept held u v) ≡ 0
unfolding put_back
falls_put_back t member kept held f h i u v = at_if (λ l. falls 0 l ≡ 0) (member v) _ _
    (λ _. falls_append 0 (messages_where t (kept u v)) (messages_where t (held u v)) (falls_messages_where t 0 (kept u v) (h u v)) (falls_messages_where t 0 (held u v) (i u v)) (λ m n a b. f u v m n (weigh_messages_left m t (kept u v) a) (weigh_messages_left n t (held u v) b)))
    (λ _. i u v)
