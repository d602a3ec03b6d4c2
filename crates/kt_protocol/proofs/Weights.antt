-- Sums over the parcels of a list.
use Rattle.std.proofs.Common.{◌≡◌, ℕ, ◌+◌, ◌≤◌, ◌<◌, Bool, true, false, List, [], ◌∷◌, ◌++◌, refl, arith, sym, ap, subst, ◌∙◌}
use Rattle.std.specs.Prelude.{◌==◌, ◌&&◌, nat_lt, if◌then◌else◌}
use Rattle.std.proofs.lemmas.Bool.Decides.{nat_tests}
use Rattle.kt_protocol.specs.Parcels.{App, Ask, Decide, Parcel, Reply, Lists, with_checkpoint_asks, emptied, with_rest, with_parcel, put_back, with_rollback_asks, messages_where, with_decisions, kept_where}
use Rattle.kt_protocol.proofs.Choices.{at_if, same}

-- the sum over a channel
pub weigh : (Parcel → ℕ) → List Parcel → ℕ
weigh f [] = 0
weigh f (x ∷ xs) = f x + weigh f xs

pub weigh_nil : (f : Parcel → ℕ) → weigh f [] ≡ 0
unfolding weigh
weigh_nil f = refl

pub weigh_push : (f : Parcel → ℕ) (l : List Parcel) (x : Parcel) → weigh f (l ++ x ∷ []) ≡ weigh f l + f x
unfolding weigh
weigh_push f [] x = let e : f x + 0 ≡ 0 + f x = omega arith in e
weigh_push f (y ∷ l) x = let h = weigh_push f l x in omega arith

pub weigh_with_parcel : (f : Parcel → ℕ) (channel : Lists) (p q : ℕ) (x : Parcel) (u v : ℕ) → weigh f (with_parcel channel p q x u v) ≡ weigh f (channel u v) + (if u == p && v == q then f x else 0)
unfolding with_parcel
weigh_with_parcel f channel p q x u v = grind (arith, nat_tests, weigh_push)

pub weigh_cons : (f : Parcel → ℕ) (x : Parcel) (rest : List Parcel) → weigh f (x ∷ rest) ≡ f x + weigh f rest
unfolding weigh
weigh_cons f x rest = refl

pub weigh_with_rest : (f : Parcel → ℕ) (channel : Lists) (q p : ℕ) (x : Parcel) (rest : List Parcel) → channel q p ≡ x ∷ rest → (u v : ℕ) → weigh f (with_rest channel q p rest u v) + (if u == q && v == p then f x else 0) ≡ weigh f (channel u v)
unfolding with_rest
weigh_with_rest f channel q p x rest e u v = let a : weigh f (channel q p) ≡ f x + weigh f rest = subst (λ (l : List Parcel). weigh f l ≡ f x + weigh f rest) (sym e) (weigh_cons f x rest) in grind (arith, nat_tests)

pub weigh_checkpoint_asks : (f : Parcel → ℕ) (channel : Lists) (last : ℕ → ℕ → ℕ) (p k u v : ℕ) → weigh f (with_checkpoint_asks channel last p k u v) ≡ weigh f (channel u v) + (if u == p && nat_lt 0 (last p v) then f (Ask k (last p v)) else 0)
unfolding with_checkpoint_asks
weigh_checkpoint_asks f channel last p k u v = grind (arith, nat_tests, weigh_push)

pub weigh_decisions : (f : Parcel → ℕ) (channel : Lists) (asked : ℕ → ℕ → ℕ → Bool) (p k : ℕ) (c : Bool) (u v : ℕ) → weigh f (with_decisions channel asked p k c u v) ≡ weigh f (channel u v) + (if u == p && asked k p v then f (Decide k c) else 0)
unfolding with_decisions
weigh_decisions f channel asked p k c u v = grind (arith, nat_tests, weigh_push)

pub weigh_le : (f g : Parcel → ℕ) → ((x : Parcel) → f x ≤ g x) → (l : List Parcel) → weigh f l ≤ weigh g l
unfolding weigh
weigh_le f g h [] = omega arith
weigh_le f g h (x ∷ xs) = let a = h x in let b = weigh_le f g h xs in omega arith

-- one parcel taken out, and another put in
pub weigh_swapped : (f : Parcel → ℕ) (channel : Lists) (q p : ℕ) (x y : Parcel) (rest : List Parcel) → channel q p ≡ x ∷ rest → (u v : ℕ) → weigh f (with_parcel (with_rest channel q p rest) p q y u v) + (if u == q && v == p then f x else 0) ≡ weigh f (channel u v) + (if u == p && v == q then f y else 0)
weigh_swapped f channel q p x y rest e u v = let a = weigh_with_rest f channel q p x rest e u v in let b = weigh_with_parcel f (with_rest channel q p rest) p q y u v in omega arith

abbrev pub any_ask : Parcel → ℕ
any_ask (Ask k l) = 1
any_ask _ = 0

abbrev pub any_app : Parcel → ℕ
any_app (App m) = 1
any_app _ = 0

abbrev has_ask : List Parcel → Bool
has_ask [] = false
has_ask (Ask k l ∷ xs) = true
has_ask (App m ∷ xs) = has_ask xs
has_ask (Reply k w ∷ xs) = has_ask xs
has_ask (Decide k c ∷ xs) = has_ask xs

-- the messages behind the first ask
pub behind : List Parcel → ℕ
behind [] = 0
behind (Ask k l ∷ xs) = weigh any_app xs
behind (App m ∷ xs) = behind xs
behind (Reply k w ∷ xs) = behind xs
behind (Decide k c ∷ xs) = behind xs

behind_push_no : (l : List Parcel) (x : Parcel) → any_app x ≡ 0 → behind l ≡ 0 → behind (l ++ x ∷ []) ≡ 0
unfolding behind
behind_push_no [] (Ask k l) e h = weigh_nil any_app
behind_push_no [] (App m) e h = absurd (omega (arith, e))
behind_push_no [] (Reply k w) e h = refl
behind_push_no [] (Decide k c) e h = refl
behind_push_no (Ask k l ∷ xs) x e h = omega (arith, weigh_push any_app xs x, e, h)
behind_push_no (App m ∷ xs) x e h = behind_push_no xs x e h
behind_push_no (Reply k w ∷ xs) x e h = behind_push_no xs x e h
behind_push_no (Decide k c ∷ xs) x e h = behind_push_no xs x e h

behind_push_app : (l : List Parcel) (m : ℕ) → weigh any_ask l ≡ 0 → behind (l ++ App m ∷ []) ≡ 0
unfolding behind weigh
behind_push_app [] m h = refl
behind_push_app (Ask k l ∷ xs) m h = absurd (omega (arith, h))
behind_push_app (App n ∷ xs) m h = behind_push_app xs m (omega (arith, h))
behind_push_app (Reply k w ∷ xs) m h = behind_push_app xs m (omega (arith, h))
behind_push_app (Decide k c ∷ xs) m h = behind_push_app xs m (omega (arith, h))

apps_behind : (l : List Parcel) → weigh any_app l ≡ 0 → behind l ≡ 0
unfolding behind weigh
apps_behind [] h = refl
apps_behind (Ask k l ∷ xs) h = omega (arith, h)
apps_behind (App n ∷ xs) h = absurd (omega (arith, h))
apps_behind (Reply k w ∷ xs) h = apps_behind xs (omega (arith, h))
apps_behind (Decide k c ∷ xs) h = apps_behind xs (omega (arith, h))

behind_rest : (x : Parcel) (rest : List Parcel) → behind (x ∷ rest) ≡ 0 → behind rest ≡ 0
unfolding behind
behind_rest (Ask k l) rest h = apps_behind rest h
behind_rest (App n) rest h = h
behind_rest (Reply k w) rest h = h
behind_rest (Decide k c) rest h = h

-- an ask at the front has no message behind it
pub front_ask : (k l : ℕ) (rest : List Parcel) → behind (Ask k l ∷ rest) ≡ 0 → weigh any_app rest ≡ 0
unfolding behind
front_ask k l rest h = h

pub behind_with_parcel : (channel : Lists) (p q : ℕ) (x : Parcel) → any_app x ≡ 0 → ((u v : ℕ) → behind (channel u v) ≡ 0) → (u v : ℕ) → behind (with_parcel channel p q x u v) ≡ 0
unfolding with_parcel
behind_with_parcel channel p q x e h u v = at_if (λ l. behind l ≡ 0) (u == p && v == q) _ _ (λ _. behind_push_no (channel u v) x e (h u v)) (λ _. h u v)

pub behind_sending : (channel : Lists) (p q m : ℕ) → ((v : ℕ) → weigh any_ask (channel p v) ≡ 0) → ((u v : ℕ) → behind (channel u v) ≡ 0) → (u v : ℕ) → behind (with_parcel channel p q (App m) u v) ≡ 0
unfolding with_parcel
behind_sending channel p q m z h u v = at_if (λ l. behind l ≡ 0) (u == p && v == q) _ _ (λ e. behind_push_app (channel u v) m (let f : u ≡ p = grind (arith, nat_tests, e) in rw f (z v))) (λ _. h u v)

pub behind_with_rest : (channel : Lists) (q p : ℕ) (x : Parcel) (rest : List Parcel) → channel q p ≡ x ∷ rest → ((u v : ℕ) → behind (channel u v) ≡ 0) → (u v : ℕ) → behind (with_rest channel q p rest u v) ≡ 0
unfolding with_rest
behind_with_rest channel q p x rest e h u v = at_if (λ l. behind l ≡ 0) (u == q && v == p) _ _ (λ _. behind_rest x rest (subst (λ (l : List Parcel). behind l ≡ 0) e (h q p))) (λ _. h u v)

pub behind_checkpoint_asks : (channel : Lists) (last : ℕ → ℕ → ℕ) (p k : ℕ) → ((u v : ℕ) → behind (channel u v) ≡ 0) → (u v : ℕ) → behind (with_checkpoint_asks channel last p k u v) ≡ 0
unfolding with_checkpoint_asks
behind_checkpoint_asks channel last p k h u v = at_if (λ l. behind l ≡ 0) (u == p && nat_lt 0 (last p v)) _ _ (λ _. behind_push_no (channel u v) (Ask k (last p v)) refl (h u v)) (λ _. h u v)

pub behind_rollback_asks : (channel : Lists) (first last_sent : ℕ → ℕ → ℕ) (p k : ℕ) → ((u v : ℕ) → behind (channel u v) ≡ 0) → (u v : ℕ) → behind (with_rollback_asks channel first last_sent p k u v) ≡ 0
unfolding with_rollback_asks
behind_rollback_asks channel first last_sent p k h u v = at_if (λ l. behind l ≡ 0) (u == p && nat_lt 0 (first p v)) _ _ (λ _. behind_push_no (channel u v) (Ask k (last_sent p v)) refl (h u v)) (λ _. h u v)

pub behind_decisions : (channel : Lists) (asked : ℕ → ℕ → ℕ → Bool) (p k : ℕ) (c : Bool) → ((u v : ℕ) → behind (channel u v) ≡ 0) → (u v : ℕ) → behind (with_decisions channel asked p k c u v) ≡ 0
unfolding with_decisions
behind_decisions channel asked p k c h u v = at_if (λ l. behind l ≡ 0) (u == p && asked k p v) _ _ (λ _. behind_push_no (channel u v) (Decide k c) refl (h u v)) (λ _. h u v)

pub weigh_rollback_asks : (f : Parcel → ℕ) (channel : Lists) (first last_sent : ℕ → ℕ → ℕ) (p k u v : ℕ) → weigh f (with_rollback_asks channel first last_sent p k u v) ≡ weigh f (channel u v) + (if u == p && nat_lt 0 (first p v) then f (Ask k (last_sent p v)) else 0)
unfolding with_rollback_asks
weigh_rollback_asks f channel first last_sent p k u v = grind (arith, nat_tests, weigh_push)

pub weigh_append : (f : Parcel → ℕ) (a b : List Parcel) → weigh f (a ++ b) ≡ weigh f a + weigh f b
unfolding weigh
weigh_append f [] b = omega arith
weigh_append f (x ∷ a) b = let h = weigh_append f a b in omega arith

abbrev pub one_app : ℕ → Parcel → ℕ
one_app m (App n) = if n == m then 1 else 0
one_app m _ = 0

pub weigh_messages_where : (m : ℕ) (t : ℕ → Bool) (l : List Parcel) → weigh (one_app m) (messages_where t l) ≡ (if t m then weigh (one_app m) l else 0)
unfolding weigh messages_where
weigh_messages_where m t [] = grind (arith)
weigh_messages_where m t (App n ∷ xs) = go (t n) refl (n == m) refl (weigh_messages_where m t xs)
  where
    go : (a : Bool) → t n ≡ a → (b : Bool) → (n == m) ≡ b → weigh (one_app m) (messages_where t xs) ≡ (if t m then weigh (one_app m) xs else 0) → weigh (one_app m) (if a then App n ∷ messages_where t xs else messages_where t xs) ≡ (if t m then (if b then 1 else 0) + weigh (one_app m) xs else 0)
    go true e true f h = let x : t m ≡ true = ap t (sym (same n m f)) ∙ e in grind (arith, nat_tests, x, h, f)
    go true e false f h = grind (arith, nat_tests, h, f)
    go false e true f h = let x : t m ≡ false = ap t (sym (same n m f)) ∙ e in grind (arith, nat_tests, x, h)
    go false e false f h = grind (arith, nat_tests, h)
weigh_messages_where m t (Ask k l ∷ xs) = let h = weigh_messages_where m t xs in grind (arith, h)
weigh_messages_where m t (Reply k w ∷ xs) = let h = weigh_messages_where m t xs in grind (arith, h)
weigh_messages_where m t (Decide k c ∷ xs) = let h = weigh_messages_where m t xs in grind (arith, h)

pub weigh_put_back : (m : ℕ) (t member : ℕ → Bool) (kept held : Lists) (q p : ℕ) → weigh (one_app m) (put_back t member kept held q p) ≡ (if member p then (if t m then weigh (one_app m) (kept q p) + weigh (one_app m) (held q p) else 0) else weigh (one_app m) (held q p))
unfolding put_back
weigh_put_back m t member kept held q p = grind (arith, nat_tests, weigh_append, weigh_messages_where)

pub weigh_emptied : (m : ℕ) (member : ℕ → Bool) (kept : Lists) (q p : ℕ) → weigh (one_app m) (emptied member kept q p) ≡ (if member p then 0 else weigh (one_app m) (kept q p))
unfolding emptied
weigh_emptied m member kept q p = grind (arith, nat_tests, weigh_nil (one_app m))

pub weigh_kept_where : (m : ℕ) (t member : ℕ → Bool) (kept : Lists) (q p : ℕ) → weigh (one_app m) (kept_where t member kept q p) ≡ (if member p then (if t m then weigh (one_app m) (kept q p) else 0) else weigh (one_app m) (kept q p))
unfolding kept_where
weigh_kept_where m t member kept q p = grind (arith, nat_tests, weigh_messages_where)

pub behind_nil : behind [] ≡ 0
unfolding behind
behind_nil = refl

pub weigh_same_parcel : (f : Parcel → ℕ) (channel : Lists) (p q : ℕ) (x : Parcel) → f x ≡ 0 → (u v : ℕ) → weigh f (with_parcel channel p q x u v) ≡ weigh f (channel u v)
weigh_same_parcel f channel p q x z u v = grind (arith, nat_tests, weigh_with_parcel f channel p q x u v, z)

pub weigh_same_rest : (f : Parcel → ℕ) (channel : Lists) (q p : ℕ) (x : Parcel) (rest : List Parcel) → channel q p ≡ x ∷ rest → f x ≡ 0 → (u v : ℕ) → weigh f (with_rest channel q p rest u v) ≡ weigh f (channel u v)
weigh_same_rest f channel q p x rest e z u v = grind (arith, nat_tests, weigh_with_rest f channel q p x rest e u v, z)

pub weigh_less_rest : (f : Parcel → ℕ) (channel : Lists) (q p : ℕ) (x : Parcel) (rest : List Parcel) → channel q p ≡ x ∷ rest → (u v : ℕ) → 0 < weigh f (with_rest channel q p rest u v) → 0 < weigh f (channel u v)
weigh_less_rest f channel q p x rest e u v h = let a = weigh_with_rest f channel q p x rest e u v in omega (arith, a, h)
