-- Lists of parcels: whose messages they name, and how they are seen.
use Rattle.std.proofs.Common.{◌≡◌, ℕ, ℤ, ◌≤◌, ◌<◌, Bool, true, false, List, [], ◌∷◌, ◌++◌, length, refl, arith, sym, ap, ap₂, subst, ◌∙◌, inl, inr}
use Rattle.std.specs.Prelude.{suc, ◌==◌, ◌&&◌, nat_lt, nat_le, if◌then◌else◌}
use Rattle.kt_fifo.specs.declared.parcels.Parcel.{Parcel as SeenParcel}
use Rattle.kt_fifo.specs.declared.parcels.Parcel.TheVariants as in_code
use Rattle.kt_fifo.specs.Parcels.{without_above}
use Rattle.kt_protocol.specs.Joining.{kind_for}
use Rattle.kt_protocol.specs.Parcels.{Parcel, App, Ask, Reply, Decide, Lists, messages_where, with_parcel, with_rest, with_checkpoint_asks, with_rollback_asks, with_decisions}
use Rattle.kt_machine.specs.Seen.{seen_parcel, seen_parcels}
use Rattle.kt_machine.specs.ListChanges as changes
use Rattle.kt_machine.proofs.LabelNumbers.{Of}

-- a channel from p to q: messages are p's; an ask of a checkpoint names one of q's, one of a rollback one of p's
unfoldable pub NamesMessages : (ℕ → ℕ) → (ℕ → ℕ) → (ℕ → Bool) → ℕ → ℕ → ℕ → List Parcel → Type 0
NamesMessages label from roll instances p q [] = Unit {0}
NamesMessages label from roll instances p q (App m ∷ xs) = ((0 < label m) × (from m ≡ p)) × NamesMessages label from roll instances p q xs
NamesMessages label from roll instances p q (Ask k l ∷ xs) = ((0 < k) × (k ≤ instances) × Of label from (if roll k then p else q) l) × NamesMessages label from roll instances p q xs
NamesMessages label from roll instances p q (Reply k w ∷ xs) = NamesMessages label from roll instances p q xs
NamesMessages label from roll instances p q (Decide k c ∷ xs) = NamesMessages label from roll instances p q xs

-- messages of p alone
unfoldable pub AreMessagesOf : (ℕ → ℕ) → (ℕ → ℕ) → ℕ → List Parcel → Type 0
AreMessagesOf label from p [] = Unit {0}
AreMessagesOf label from p (App m ∷ xs) = ((0 < label m) × (from m ≡ p)) × AreMessagesOf label from p xs
AreMessagesOf label from p (Ask k l ∷ xs) = ⊥
AreMessagesOf label from p (Reply k w ∷ xs) = ⊥
AreMessagesOf label from p (Decide k c ∷ xs) = ⊥

pub parcels_nil : (label : ℕ → ℕ) (body : ℕ → ℤ) (roll : ℕ → Bool) → seen_parcels label body roll [] ≡ []
unfolding seen_parcels
parcels_nil label body roll = refl

pub parcels_cons : (label : ℕ → ℕ) (body : ℕ → ℤ) (roll : ℕ → Bool) (x : Parcel) (xs : List Parcel) → seen_parcels label body roll (x ∷ xs) ≡ seen_parcel label body roll x ∷ seen_parcels label body roll xs
unfolding seen_parcels
parcels_cons label body roll x xs = refl

pub parcels_append : (label : ℕ → ℕ) (body : ℕ → ℤ) (roll : ℕ → Bool) (xs ys : List Parcel) → seen_parcels label body roll (xs ++ ys) ≡ seen_parcels label body roll xs ++ seen_parcels label body roll ys
unfolding seen_parcels
parcels_append label body roll [] ys = refl
parcels_append label body roll (x ∷ xs) ys = ap (λ (l : List SeenParcel). seen_parcel label body roll x ∷ l) (parcels_append label body roll xs ys)

pub parcels_push : (label : ℕ → ℕ) (body : ℕ → ℤ) (roll : ℕ → Bool) (xs : List Parcel) (x : Parcel) → seen_parcels label body roll (xs ++ x ∷ []) ≡ seen_parcels label body roll xs ++ seen_parcel label body roll x ∷ []
unfolding seen_parcels
parcels_push label body roll xs x = parcels_append label body roll xs (x ∷ [])

pub parcels_length : (label : ℕ → ℕ) (body : ℕ → ℤ) (roll : ℕ → Bool) (xs : List Parcel) → length (seen_parcels label body roll xs) ≡ length xs
unfolding seen_parcels
parcels_length label body roll [] = refl
parcels_length label body roll (x ∷ xs) = ap suc (parcels_length label body roll xs)

pub names_nil : (label from : ℕ → ℕ) (roll : ℕ → Bool) (instances p q : ℕ) → NamesMessages label from roll instances p q []
unfolding NamesMessages
names_nil label from roll instances p q = tt

pub names_append : (label from : ℕ → ℕ) (roll : ℕ → Bool) (instances p q : ℕ) (xs ys : List Parcel) → NamesMessages label from roll instances p q xs → NamesMessages label from roll instances p q ys → NamesMessages label from roll instances p q (xs ++ ys)
unfolding NamesMessages
names_append label from roll instances p q [] ys a b = b
names_append label from roll instances p q (App m ∷ xs) ys a b = (a.0, names_append label from roll instances p q xs ys a.1 b)
names_append label from roll instances p q (Ask k l ∷ xs) ys a b = (a.0, names_append label from roll instances p q xs ys a.1 b)
names_append label from roll instances p q (Reply k w ∷ xs) ys a b = names_append label from roll instances p q xs ys a b
names_append label from roll instances p q (Decide k c ∷ xs) ys a b = names_append label from roll instances p q xs ys a b

pub names_message : (label from : ℕ → ℕ) (roll : ℕ → Bool) (instances p q m : ℕ) → 0 < label m → from m ≡ p → NamesMessages label from roll instances p q (App m ∷ [])
unfolding NamesMessages
names_message label from roll instances p q m a b = ((a, b), tt)

pub names_ask : (label from : ℕ → ℕ) (roll : ℕ → Bool) (instances p q k l : ℕ) → 0 < k → k ≤ instances → Of label from (if roll k then p else q) l → NamesMessages label from roll instances p q (Ask k l ∷ [])
unfolding NamesMessages
names_ask label from roll instances p q k l a b c = ((a, b, c), tt)

pub names_reply : (label from : ℕ → ℕ) (roll : ℕ → Bool) (instances p q k : ℕ) (w : Bool) → NamesMessages label from roll instances p q (Reply k w ∷ [])
unfolding NamesMessages
names_reply label from roll instances p q k w = tt

pub names_decide : (label from : ℕ → ℕ) (roll : ℕ → Bool) (instances p q k : ℕ) (c : Bool) → NamesMessages label from roll instances p q (Decide k c ∷ [])
unfolding NamesMessages
names_decide label from roll instances p q k c = tt

-- what stands in front, and the rest
pub front_message : (label from : ℕ → ℕ) (roll : ℕ → Bool) (instances p q m : ℕ) (xs : List Parcel) → NamesMessages label from roll instances p q (App m ∷ xs) → (0 < label m) × (from m ≡ p) × NamesMessages label from roll instances p q xs
unfolding NamesMessages
front_message label from roll instances p q m xs a = (a.0.0, a.0.1, a.1)

pub front_ask : (label from : ℕ → ℕ) (roll : ℕ → Bool) (instances p q k l : ℕ) (xs : List Parcel) → NamesMessages label from roll instances p q (Ask k l ∷ xs) → (0 < k) × (k ≤ instances) × Of label from (if roll k then p else q) l × NamesMessages label from roll instances p q xs
unfolding NamesMessages
front_ask label from roll instances p q k l xs a = (a.0.0, a.0.1, a.0.2, a.1)

pub rest_names : (label from : ℕ → ℕ) (roll : ℕ → Bool) (instances p q : ℕ) (x : Parcel) (xs : List Parcel) → NamesMessages label from roll instances p q (x ∷ xs) → NamesMessages label from roll instances p q xs
unfolding NamesMessages
rest_names label from roll instances p q (App m) xs a = a.1
rest_names label from roll instances p q (Ask k l) xs a = a.1
rest_names label from roll instances p q (Reply k w) xs a = a
rest_names label from roll instances p q (Decide k c) xs a = a

pub own_nil : (label from : ℕ → ℕ) (p : ℕ) → AreMessagesOf label from p []
unfolding AreMessagesOf
own_nil label from p = tt

pub own_append : (label from : ℕ → ℕ) (p : ℕ) (xs ys : List Parcel) → AreMessagesOf label from p xs → AreMessagesOf label from p ys → AreMessagesOf label from p (xs ++ ys)
unfolding AreMessagesOf
own_append label from p [] ys a b = b
own_append label from p (App m ∷ xs) ys a b = (a.0, own_append label from p xs ys a.1 b)
own_append label from p (Ask _ _ ∷ xs) ys a b = elim a [ ]
own_append label from p (Reply _ _ ∷ xs) ys a b = elim a [ ]
own_append label from p (Decide _ _ ∷ xs) ys a b = elim a [ ]

pub own_message : (label from : ℕ → ℕ) (p m : ℕ) → 0 < label m → from m ≡ p → AreMessagesOf label from p (App m ∷ [])
unfolding AreMessagesOf
own_message label from p m a b = ((a, b), tt)

pub own_front : (label from : ℕ → ℕ) (p m : ℕ) (xs : List Parcel) → AreMessagesOf label from p (App m ∷ xs) → (0 < label m) × (from m ≡ p) × AreMessagesOf label from p xs
unfolding AreMessagesOf
own_front label from p m xs a = (a.0.0, a.0.1, a.1)

pub own_where : (label from : ℕ → ℕ) (p : ℕ) (t : ℕ → Bool) (xs : List Parcel) → AreMessagesOf label from p xs → AreMessagesOf label from p (messages_where t xs)
unfolding AreMessagesOf messages_where
own_where label from p t [] a = a
own_where label from p t (App m ∷ xs) a = go (t m) (own_where label from p t xs a.1)
  where
    go : (b : Bool) → AreMessagesOf label from p (messages_where t xs) → AreMessagesOf label from p (if b then App m ∷ messages_where t xs else messages_where t xs)
    go true r = (a.0, r)
    go false r = r
own_where label from p t (Ask _ _ ∷ xs) a = elim a [ ]
own_where label from p t (Reply _ _ ∷ xs) a = elim a [ ]
own_where label from p t (Decide _ _ ∷ xs) a = elim a [ ]

-- labels, bodies, senders and kinds that go on
module _ (label label' from from' : ℕ → ℕ) (body body' : ℕ → ℤ) (roll roll' : ℕ → Bool) (instances insts' : ℕ)
    (old : (m : ℕ) → 0 < label m → (label' m ≡ label m) × (from' m ≡ from m) × (body' m ≡ body m))
    (none : label' 0 ≡ label 0)
    (kinds : (k : ℕ) → k ≤ instances → roll' k ≡ roll k) (more : instances ≤ insts') where
  of_later : (q m : ℕ) → Of label from q m → Of label' from' q m
  of_later q m a = elim a [
    | inl e ↦ inl e
    | inr r ↦ inr (subst (λ (x : ℕ). 0 < x) (sym (old m r.0).0) r.0, (old m r.0).1 ∙ r.1)
  ]

  pub same_of : (q m : ℕ) → Of label from q m → label' m ≡ label m
  same_of q m a = elim a [
    | inl e ↦ ap label' e ∙ (none ∙ ap label (sym e))
    | inr r ↦ (old m r.0).0
  ]

  pub parcels_later : (p q : ℕ) (xs : List Parcel) → NamesMessages label from roll instances p q xs → seen_parcels label' body' roll' xs ≡ seen_parcels label body roll xs
  unfolding seen_parcels NamesMessages
  parcels_later p q [] a = refl
  parcels_later p q (App m ∷ xs) a = let x = old m a.0.0 in ap₂ (λ (y : SeenParcel) (l : List SeenParcel). y ∷ l) (ap₂ (λ (l : ℕ) (b : ℤ). in_code.App l m b) x.0 x.2) (parcels_later p q xs a.1)
  parcels_later p q (Ask k l ∷ xs) a = ap₂ (λ (y : SeenParcel) (l : List SeenParcel). y ∷ l) (ap₂ (λ (r : Bool) (x : ℕ). in_code.Ask k (kind_for r) x) (kinds k a.0.1) (same_of (if roll k then p else q) l a.0.2)) (parcels_later p q xs a.1)
  parcels_later p q (Reply k w ∷ xs) a = ap (λ (l : List SeenParcel). in_code.Reply k w ∷ l) (parcels_later p q xs a)
  parcels_later p q (Decide k c ∷ xs) a = ap (λ (l : List SeenParcel). in_code.Decide k c ∷ l) (parcels_later p q xs a)

  pub names_later : (p q : ℕ) (xs : List Parcel) → NamesMessages label from roll instances p q xs → NamesMessages label' from' roll' insts' p q xs
  unfolding NamesMessages
  names_later p q [] a = tt
  names_later p q (App m ∷ xs) a = ((subst (λ (x : ℕ). 0 < x) (sym (old m a.0.0).0) a.0.0, (old m a.0.0).1 ∙ a.0.1), names_later p q xs a.1)
  names_later p q (Ask k l ∷ xs) a = ((a.0.0, omega (arith, more, a.0.1), subst (λ (r : Bool). Of label' from' (if r then p else q) l) (sym (kinds k a.0.1)) (of_later (if roll k then p else q) l a.0.2)), names_later p q xs a.1)
  names_later p q (Reply k w ∷ xs) a = names_later p q xs a
  names_later p q (Decide k c ∷ xs) a = names_later p q xs a

  pub own_parcels : (p : ℕ) (xs : List Parcel) → AreMessagesOf label from p xs → seen_parcels label' body' roll' xs ≡ seen_parcels label body roll xs
  unfolding seen_parcels AreMessagesOf
  own_parcels p [] a = refl
  own_parcels p (App m ∷ xs) a = let x = old m a.0.0 in ap₂ (λ (y : SeenParcel) (l : List SeenParcel). y ∷ l) (ap₂ (λ (l : ℕ) (b : ℤ). in_code.App l m b) x.0 x.2) (own_parcels p xs a.1)
  own_parcels p (Ask _ _ ∷ xs) a = elim a [ ]
  own_parcels p (Reply _ _ ∷ xs) a = elim a [ ]
  own_parcels p (Decide _ _ ∷ xs) a = elim a [ ]

  pub own_later : (p : ℕ) (xs : List Parcel) → AreMessagesOf label from p xs → AreMessagesOf label' from' p xs
  unfolding AreMessagesOf
  own_later p [] a = tt
  own_later p (App m ∷ xs) a = ((subst (λ (x : ℕ). 0 < x) (sym (old m a.0.0).0) a.0.0, (old m a.0.0).1 ∙ a.0.1), own_later p xs a.1)
  own_later p (Ask _ _ ∷ xs) a = elim a [ ]
  own_later p (Reply _ _ ∷ xs) a = elim a [ ]
  own_later p (Decide _ _ ∷ xs) a = elim a [ ]

-- lists with one more parcel, or with asks or decisions, as they are seen
module _ (label : ℕ → ℕ) (body : ℕ → ℤ) (roll : ℕ → Bool) where
  at_if : (b : Bool) (x y : List Parcel) → seen_parcels label body roll (if b then x else y) ≡ (if b then seen_parcels label body roll x else seen_parcels label body roll y)
  at_if true x y = refl
  at_if false x y = refl

  push_if : (b : Bool) (xs : List Parcel) (x : Parcel) → seen_parcels label body roll (if b then xs ++ x ∷ [] else xs) ≡ (if b then seen_parcels label body roll xs ++ seen_parcel label body roll x ∷ [] else seen_parcels label body roll xs)
  push_if true xs x = parcels_push label body roll xs x
  push_if false xs x = refl

  pub parcels_with_parcel : (channel : Lists) (p q : ℕ) (x : Parcel) → (λ u v. seen_parcels label body roll (with_parcel channel p q x u v)) ≡ changes.with_parcel (λ u v. seen_parcels label body roll (channel u v)) p q (seen_parcel label body roll x)
  unfolding with_parcel changes.with_parcel
  parcels_with_parcel channel p q x = λ i u v. push_if (u == p && v == q) (channel u v) x i

  pub parcels_with_rest : (channel : Lists) (q p : ℕ) (rest : List Parcel) → (λ u v. seen_parcels label body roll (with_rest channel q p rest u v)) ≡ changes.with_rest (λ u v. seen_parcels label body roll (channel u v)) q p (seen_parcels label body roll rest)
  unfolding with_rest changes.with_rest
  parcels_with_rest channel q p rest = λ i u v. at_if (u == q && v == p) rest (channel u v) i

  pub parcels_with_decisions : (channel : Lists) (asked : ℕ → ℕ → ℕ → Bool) (p k : ℕ) (c : Bool) → (λ u v. seen_parcels label body roll (with_decisions channel asked p k c u v)) ≡ changes.with_decisions (λ u v. seen_parcels label body roll (channel u v)) p k c (λ v. asked k p v)
  unfolding with_decisions changes.with_decisions
  parcels_with_decisions channel asked p k c = λ i u v. push_if (u == p && asked k p v) (channel u v) (Decide k c) i

  pub parcels_with_checkpoint_asks : (channel : Lists) (last : ℕ → ℕ → ℕ) (p k : ℕ) (test : ℕ → Bool) (l : ℕ → ℕ) → ((v : ℕ) → test v ≡ nat_lt 0 (last p v)) → ((v : ℕ) → l v ≡ label (last p v)) → (λ u v. seen_parcels label body roll (with_checkpoint_asks channel last p k u v)) ≡ changes.with_asks_where (λ u v. seen_parcels label body roll (channel u v)) p k (kind_for (roll k)) test l
  unfolding with_checkpoint_asks changes.with_asks_where
  parcels_with_checkpoint_asks channel last p k test l e f = λ i u v. one u v i
    where
      one : (u v : ℕ) → seen_parcels label body roll (if u == p && nat_lt 0 (last p v) then channel u v ++ Ask k (last p v) ∷ [] else channel u v) ≡ (if u == p && test v then seen_parcels label body roll (channel u v) ++ in_code.Ask k (kind_for (roll k)) (l v) ∷ [] else seen_parcels label body roll (channel u v))
      one u v = push_if (u == p && nat_lt 0 (last p v)) (channel u v) (Ask k (last p v)) ∙ ap₂ (λ (b : Bool) (x : ℕ). if u == p && b then seen_parcels label body roll (channel u v) ++ in_code.Ask k (kind_for (roll k)) x ∷ [] else seen_parcels label body roll (channel u v)) (sym (e v)) (sym (f v))

  pub parcels_with_rollback_asks : (channel : Lists) (first last_sent : ℕ → ℕ → ℕ) (p k : ℕ) (test : ℕ → Bool) (l : ℕ → ℕ) → ((v : ℕ) → test v ≡ nat_lt 0 (first p v)) → ((v : ℕ) → l v ≡ label (last_sent p v)) → (λ u v. seen_parcels label body roll (with_rollback_asks channel first last_sent p k u v)) ≡ changes.with_asks_where (λ u v. seen_parcels label body roll (channel u v)) p k (kind_for (roll k)) test l
  unfolding with_rollback_asks changes.with_asks_where
  parcels_with_rollback_asks channel first last_sent p k test l e f = λ i u v. one u v i
    where
      one : (u v : ℕ) → seen_parcels label body roll (if u == p && nat_lt 0 (first p v) then channel u v ++ Ask k (last_sent p v) ∷ [] else channel u v) ≡ (if u == p && test v then seen_parcels label body roll (channel u v) ++ in_code.Ask k (kind_for (roll k)) (l v) ∷ [] else seen_parcels label body roll (channel u v))
      one u v = push_if (u == p && nat_lt 0 (first p v)) (channel u v) (Ask k (last_sent p v)) ∙ ap₂ (λ (b : Bool) (x : ℕ). if u == p && b then seen_parcels label body roll (channel u v) ++ in_code.Ask k (kind_for (roll k)) x ∷ [] else seen_parcels label body roll (channel u v)) (sym (e v)) (sym (f v))

-- what is not above a label, by labels, is what passes a test of numbers
pub low_where : (label from : ℕ → ℕ) (body : ℕ → ℤ) (roll : ℕ → Bool) (q most : ℕ) (t : ℕ → Bool) (xs : List Parcel) → ((m : ℕ) → 0 < label m → from m ≡ q → t m ≡ nat_le (label m) most) → AreMessagesOf label from q xs → seen_parcels label body roll (messages_where t xs) ≡ without_above most (seen_parcels label body roll xs)
unfolding seen_parcels AreMessagesOf messages_where
low_where label from body roll q most t [] h a = refl
low_where label from body roll q most t (Ask _ _ ∷ xs) h a = elim a [ ]
low_where label from body roll q most t (Reply _ _ ∷ xs) h a = elim a [ ]
low_where label from body roll q most t (Decide _ _ ∷ xs) h a = elim a [ ]
low_where label from body roll q most t (App m ∷ xs) h a = go (t m) (nat_le (label m) most) (h m a.0.0 a.0.1) (low_where label from body roll q most t xs h a.1)
  where
    go : (b d : Bool) → b ≡ d → seen_parcels label body roll (messages_where t xs) ≡ without_above most (seen_parcels label body roll xs) → seen_parcels label body roll (if b then App m ∷ messages_where t xs else messages_where t xs) ≡ (if d then in_code.App (label m) m (body m) ∷ without_above most (seen_parcels label body roll xs) else without_above most (seen_parcels label body roll xs))
    go true true e r = ap (λ (l : List SeenParcel). in_code.App (label m) m (body m) ∷ l) r
    go false false e r = r
    go true false e r = absurd (cc (e))
    go false true e r = absurd (cc (e))

pub where_all : (label from : ℕ → ℕ) (q : ℕ) (t : ℕ → Bool) (xs : List Parcel) → ((m : ℕ) → t m ≡ true) → AreMessagesOf label from q xs → messages_where t xs ≡ xs
unfolding AreMessagesOf messages_where
where_all label from q t [] h a = refl
where_all label from q t (App m ∷ xs) h a = rw (h m) (ap (λ (l : List Parcel). App m ∷ l) (where_all label from q t xs h a.1))
where_all label from q t (Ask _ _ ∷ xs) h a = elim a [ ]
where_all label from q t (Reply _ _ ∷ xs) h a = elim a [ ]
where_all label from q t (Decide _ _ ∷ xs) h a = elim a [ ]
