-- Messages of lists that pass tests, and lists of messages alone.
use Rattle.std.proofs.Common.{◌≡◌, ℕ, ◌<◌, Bool, true, false, not, List, [], ◌∷◌, ◌++◌, refl, arith, sym, ap, ap₂, ◌∙◌, append_assoc, append-nil, subst}
use Rattle.std.specs.Prelude.{◌==◌, ◌&&◌, if◌then◌else◌}
use Rattle.std.proofs.lemmas.Bool.Decides.{nat_tests}
use Rattle.kt_protocol.proofs.Choices.{at_if}
use Rattle.kt_protocol.proofs.Weights.{weigh, weigh_cons, one_app}
use Rattle.kt_protocol.specs.Parcels.{Parcel, App, Ask, Reply, Decide, Lists, messages_where, with_parcel, with_rest}
use Rattle.kt_protocol.specs.KeptInOrder.{has_only_messages, IsParted}

there : (m : ℕ) (xs : List Parcel) → 0 < weigh (one_app m) (App m ∷ xs)
there m xs = let a = weigh_cons (one_app m) (App m) xs in grind (arith, nat_tests, a)

further : (m : ℕ) (x : Parcel) (xs : List Parcel) → 0 < weigh (one_app m) xs → 0 < weigh (one_app m) (x ∷ xs)
further m x xs h = let a = weigh_cons (one_app m) x xs in omega (arith, a, h)

-- two tests that agree on the messages of a list
pub where_same : (f g : ℕ → Bool) (l : List Parcel) → ((m : ℕ) → 0 < weigh (one_app m) l → f m ≡ g m) → messages_where f l ≡ messages_where g l
unfolding messages_where
where_same f g [] h = refl
where_same f g (App m ∷ xs) h = rw (h m (there m xs), where_same f g xs (λ n a. h n (further n (App m) xs a))) refl
where_same f g (Ask k l ∷ xs) h = where_same f g xs (λ n a. h n (further n (Ask k l) xs a))
where_same f g (Reply k w ∷ xs) h = where_same f g xs (λ n a. h n (further n (Reply k w) xs a))
where_same f g (Decide k c ∷ xs) h = where_same f g xs (λ n a. h n (further n (Decide k c) xs a))

-- one more message that passes the test, or fails it
pub where_push : (t : ℕ → Bool) (l : List Parcel) (m : ℕ) → t m ≡ true → messages_where t (l ++ App m ∷ []) ≡ messages_where t l ++ App m ∷ []
unfolding messages_where
where_push t [] m e = rw e refl
where_push t (App n ∷ xs) m e = go (t n) (where_push t xs m e)
  where
    go : (b : Bool) → messages_where t (xs ++ App m ∷ []) ≡ messages_where t xs ++ App m ∷ [] → (if b then App n ∷ messages_where t (xs ++ App m ∷ []) else messages_where t (xs ++ App m ∷ [])) ≡ (if b then App n ∷ messages_where t xs else messages_where t xs) ++ App m ∷ []
    go true h = ap (λ (l : List Parcel). App n ∷ l) h
    go false h = h
where_push t (Ask k l ∷ xs) m e = where_push t xs m e
where_push t (Reply k w ∷ xs) m e = where_push t xs m e
where_push t (Decide k c ∷ xs) m e = where_push t xs m e

pub where_push_not : (t : ℕ → Bool) (l : List Parcel) (m : ℕ) → t m ≡ false → messages_where t (l ++ App m ∷ []) ≡ messages_where t l
unfolding messages_where
where_push_not t [] m e = rw e refl
where_push_not t (App n ∷ xs) m e = go (t n) (where_push_not t xs m e)
  where
    go : (b : Bool) → messages_where t (xs ++ App m ∷ []) ≡ messages_where t xs → (if b then App n ∷ messages_where t (xs ++ App m ∷ []) else messages_where t (xs ++ App m ∷ [])) ≡ (if b then App n ∷ messages_where t xs else messages_where t xs)
    go true h = ap (λ (l : List Parcel). App n ∷ l) h
    go false h = h
where_push_not t (Ask k l ∷ xs) m e = where_push_not t xs m e
where_push_not t (Reply k w ∷ xs) m e = where_push_not t xs m e
where_push_not t (Decide k c ∷ xs) m e = where_push_not t xs m e

-- lists of which what fails the test stands first
pub parted_push : (t : ℕ → Bool) (l : List Parcel) (m : ℕ) → t m ≡ true → IsParted t l → IsParted t (l ++ App m ∷ [])
parted_push t l m e c = ap₂ (λ (x y : List Parcel). x ++ y) (where_push_not (λ n. not (t n)) l m (ap not e)) (where_push t l m e) ∙
    (sym (append_assoc (messages_where (λ n. not (t n)) l) (messages_where t l) (App m ∷ [])) ∙ ap (λ (x : List Parcel). x ++ App m ∷ []) c)

pub parted_same : (f g : ℕ → Bool) (l : List Parcel) → ((m : ℕ) → 0 < weigh (one_app m) l → f m ≡ g m) → IsParted f l → IsParted g l
parted_same f g l e c = ap₂ (λ (x y : List Parcel). x ++ y) (where_same (λ n. not (g n)) (λ n. not (f n)) l (λ m w. ap not (sym (e m w)))) (where_same g f l (λ m w. sym (e m w))) ∙ c

all_pass : (l : List Parcel) → has_only_messages l ≡ true → messages_where (λ m. true) l ≡ l
unfolding messages_where
all_pass [] h = refl
all_pass (App m ∷ l) h = ap (λ (x : List Parcel). App m ∷ x) (all_pass l h)
all_pass (Ask k i ∷ l) h = absurd (cc (h))
all_pass (Reply k i ∷ l) h = absurd (cc (h))
all_pass (Decide k i ∷ l) h = absurd (cc (h))

none_pass : (l : List Parcel) → messages_where (λ m. false) l ≡ []
unfolding messages_where
none_pass [] = refl
none_pass (App m ∷ l) = none_pass l
none_pass (Ask k i ∷ l) = none_pass l
none_pass (Reply k i ∷ l) = none_pass l
none_pass (Decide k i ∷ l) = none_pass l

-- where all are older
pub parted_older : (t : ℕ → Bool) (l : List Parcel) → has_only_messages l ≡ true → ((m : ℕ) → 0 < weigh (one_app m) l → t m ≡ false) → IsParted t l
parted_older t l h e = ap₂ (λ (x y : List Parcel). x ++ y) (where_same (λ n. not (t n)) (λ n. true) l (λ m w. ap not (e m w)) ∙ all_pass l h) (where_same t (λ n. false) l e ∙ none_pass l) ∙ append-nil l

-- lists of messages alone
pub only_append : (a b : List Parcel) → has_only_messages a ≡ true → has_only_messages b ≡ true → has_only_messages (a ++ b) ≡ true
only_append [] b x y = y
only_append (App m ∷ a) b x y = only_append a b x y
only_append (Ask k l ∷ a) b x y = absurd (cc (x))
only_append (Reply k l ∷ a) b x y = absurd (cc (x))
only_append (Decide k l ∷ a) b x y = absurd (cc (x))

pub only_where : (t : ℕ → Bool) (l : List Parcel) → has_only_messages (messages_where t l) ≡ true
unfolding messages_where
only_where t [] = refl
only_where t (App m ∷ l) = go (t m) (only_where t l)
  where
    go : (b : Bool) → has_only_messages (messages_where t l) ≡ true → has_only_messages (if b then App m ∷ messages_where t l else messages_where t l) ≡ true
    go true h = h
    go false h = h
only_where t (Ask k i ∷ l) = only_where t l
only_where t (Reply k i ∷ l) = only_where t l
only_where t (Decide k i ∷ l) = only_where t l

pub only_with_parcel : (held : Lists) (p q m : ℕ) → ((u v : ℕ) → has_only_messages (held u v) ≡ true) → (u v : ℕ) → has_only_messages (with_parcel held p q (App m) u v) ≡ true
unfolding with_parcel
only_with_parcel held p q m h u v = at_if (λ l. has_only_messages l ≡ true) (u == p && v == q) _ _ (λ _. only_append (held u v) (App m ∷ []) (h u v) refl) (λ _. h u v)

pub only_with_rest : (held : Lists) (q p m : ℕ) (rest : List Parcel) → held q p ≡ App m ∷ rest → ((u v : ℕ) → has_only_messages (held u v) ≡ true) → (u v : ℕ) → has_only_messages (with_rest held q p rest u v) ≡ true
unfolding with_rest
only_with_rest held q p m rest e h u v = at_if (λ l. has_only_messages l ≡ true) (u == q && v == p) _ _ (λ _. subst (λ (l : List Parcel). has_only_messages l ≡ true) e (h q p)) (λ _. h u v)
