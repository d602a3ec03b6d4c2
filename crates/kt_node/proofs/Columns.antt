-- What lists of parcels become, by names.
use Rattle.std.proofs.Common.{◌≡◌, ◌≢◌, ◌∙◌, ℕ, Bool, true, false, Option, Some, None, List, [], ◌∷◌, ◌++◌, refl, sym, ap}
use Rattle.std.specs.Prelude.{◌==◌, ◌&&◌, if◌then◌else◌, filter}
use Rattle.std.proofs.lemmas.List.{append_assoc, map-append}
use Rattle.kt_base.specs.declared.words.Kind.{Kind}
use Rattle.kt_fifo.specs.declared.parcels.Parcel.{Parcel}
use Rattle.kt_fifo.specs.declared.parcels.Parcel.TheVariants as in_code
use Rattle.kt_fifo.specs.Parcels.{stays, without_above}
use Rattle.kt_protocol.proofs.Updates.{is_same, is_other}
use Rattle.kt_machine.specs.Seen.{SeenLists}
use Rattle.kt_machine.specs.ListChanges as changes
use Rattle.kt_spacetime.specs.declared.names.InstName.{InstName}
use Rattle.kt_manager.specs.declared.parcels.NodeParcel.{NodeParcel}
use Rattle.kt_manager.specs.Nodes.{NodeLists, putting, with_one}
use Rattle.kt_manager.specs.NodeClosing.{is_within, within}
use Rattle.kt_node.specs.Erasing.{erased_parcel, erased_parcels}

-- with one more parcel from p to each process that passes the test
abbrev pub adding : SeenLists → ℕ → (ℕ → Bool) → (ℕ → Parcel) → SeenLists
adding lists p test x u v = if u == p && test v then lists u v ++ x v ∷ [] else lists u v

pub adding_one : (lists : SeenLists) (p q : ℕ) (x : Parcel) → changes.with_parcel lists p q x ≡ adding lists p (λ v. v == q) (λ v. x)
unfolding changes.with_parcel
adding_one lists p q x = refl

pub adding_asks : (lists : SeenLists) (p k : ℕ) (kind : Kind) (test : ℕ → Bool) (label : ℕ → ℕ) → changes.with_asks_where lists p k kind test label ≡ adding lists p test (λ v. in_code.Ask k kind (label v))
unfolding changes.with_asks_where
adding_asks lists p k kind test label = refl

pub adding_decisions : (lists : SeenLists) (p k : ℕ) (c : Bool) (test : ℕ → Bool) → changes.with_decisions lists p k c test ≡ adding lists p test (λ v. in_code.Decide k c)
unfolding changes.with_decisions
adding_decisions lists p k c test = refl

-- nothing for other senders
pub adding_other : (lists : SeenLists) (p : ℕ) (test : ℕ → Bool) (x : ℕ → Parcel) (u v : ℕ) → u ≢ p → lists u v ≡ adding lists p test x u v
adding_other lists p test x u v n = go (u == p) (test v) (is_other u p n)
  where
    go : (a b : Bool) → a ≡ false → lists u v ≡ (if a && b then lists u v ++ x v ∷ [] else lists u v)
    go true b e = absurd (cc)
    go false b e = refl

module _ (name : ℕ → InstName) where
  push : (xs ys : List NodeParcel) (zs : List Parcel) (x : Parcel) → xs ++ ys ≡ erased_parcels name zs → xs ++ (ys ++ erased_parcel name x ∷ []) ≡ erased_parcels name (zs ++ x ∷ [])
  push xs ys zs x e = sym (append_assoc xs ys (erased_parcel name x ∷ [])) ∙ (ap (λ (l : List NodeParcel). l ++ erased_parcel name x ∷ []) e ∙ sym (map-append (erased_parcel name) zs (x ∷ [])))

  -- the sender puts it
  pub adding_own : (lists : SeenLists) (front puts : NodeLists) (p : ℕ) (test : ℕ → Bool) (x : ℕ → Parcel) → ((t : ℕ) → front t ++ puts t ≡ erased_parcels name (lists p t))
      → (t : ℕ) → front t ++ putting test (λ q. erased_parcel name (x q)) puts t ≡ erased_parcels name (adding lists p test x p t)
  adding_own lists front puts p test x e t = go (p == p) (test t) (is_same p)
    where
      go : (a b : Bool) → a ≡ true → front t ++ (if b then puts t ++ erased_parcel name (x t) ∷ [] else puts t) ≡ erased_parcels name (if a && b then lists p t ++ x t ∷ [] else lists p t)
      go true true h = push (front t) (puts t) (lists p t) (x t) (e t)
      go true false h = e t
      go false b h = absurd (cc)

  -- one more of q for p
  pub one_for : (lists : SeenLists) (q p : ℕ) (x : Parcel) (u : ℕ) → with_one q (erased_parcel name x) (λ t. erased_parcels name (lists t p)) u ≡ erased_parcels name (changes.with_parcel lists q p x u p)
  unfolding changes.with_parcel
  one_for lists q p x u = go (u == q) (p == p) (is_same p)
    where
      go : (a b : Bool) → b ≡ true → (if a then erased_parcels name (lists u p) ++ erased_parcel name x ∷ [] else erased_parcels name (lists u p)) ≡ erased_parcels name (if a && b then lists u p ++ x ∷ [] else lists u p)
      go true true h = sym (map-append (erased_parcel name) (lists u p) (x ∷ []))
      go false true h = refl
      go a false h = absurd (cc)

  -- the rest for p of what q sent
  pub rest_for : (lists : SeenLists) (q p : ℕ) (rest : List Parcel) (u : ℕ) → (if u == q then erased_parcels name rest else erased_parcels name (lists u p)) ≡ erased_parcels name (changes.with_rest lists q p rest u p)
  unfolding changes.with_rest
  rest_for lists q p rest u = go (u == q) (p == p) (is_same p)
    where
      go : (a b : Bool) → b ≡ true → (if a then erased_parcels name rest else erased_parcels name (lists u p)) ≡ erased_parcels name (if a && b then rest else lists u p)
      go true true h = refl
      go false true h = refl
      go a false h = absurd (cc)

  pub rest_of_channel : (lists : SeenLists) (front : ℕ → ℕ → List NodeParcel) (q p : ℕ) (rest : List Parcel) → ((u t : ℕ) → front u t ≡ erased_parcels name (lists u t))
      → (u t : ℕ) → (if u == q && t == p then erased_parcels name rest else front u t) ≡ erased_parcels name (changes.with_rest lists q p rest u t)
  unfolding changes.with_rest
  rest_of_channel lists front q p rest e u t = go (u == q && t == p)
    where
      go : (a : Bool) → (if a then erased_parcels name rest else front u t) ≡ erased_parcels name (if a then rest else lists u t)
      go true = refl
      go false = e u t

  -- what is not above a label
  within_same : (most : ℕ) (x : Parcel) → is_within most (erased_parcel name x) ≡ stays most x
  within_same most (in_code.App label m body) = refl
  within_same most (in_code.Ask k kind label) = refl
  within_same most (in_code.Reply k w) = refl
  within_same most (in_code.Decide k c) = refl

  within_all : (most : ℕ) (xs : List Parcel) → filter (is_within most) (erased_parcels name xs) ≡ erased_parcels name (without_above most xs)
  within_all most [] = refl
  within_all most (x ∷ xs) = go (is_within most (erased_parcel name x)) (stays most x) (within_same most x) (within_all most xs)
    where
      go : (a b : Bool) → a ≡ b → filter (is_within most) (erased_parcels name xs) ≡ erased_parcels name (without_above most xs)
          → (if a then erased_parcel name x ∷ filter (is_within most) (erased_parcels name xs) else filter (is_within most) (erased_parcels name xs))
          ≡ erased_parcels name (if b then x ∷ without_above most xs else without_above most xs)
      go true true e h = ap (λ (l : List NodeParcel). erased_parcel name x ∷ l) h
      go false false e h = h
      go true false e h = absurd (cc)
      go false true e h = absurd (cc)

  pub within_is : (o : Option ℕ) (xs : List Parcel) → within o (erased_parcels name xs) ≡ erased_parcels name (changes.low o xs)
  within_is None xs = refl
  within_is (Some most) xs = within_all most xs

-- nothing changes for others
pub one_other : (lists : SeenLists) (q p : ℕ) (x : Parcel) (t u : ℕ) → u ≢ p → lists t u ≡ changes.with_parcel lists q p x t u
unfolding changes.with_parcel
one_other lists q p x t u n = go (t == q) (u == p) (is_other u p n)
  where
    go : (a b : Bool) → b ≡ false → lists t u ≡ (if a && b then lists t u ++ x ∷ [] else lists t u)
    go a true e = absurd (cc)
    go true false e = refl
    go false false e = refl

pub rest_other : (lists : SeenLists) (q p : ℕ) (rest : List Parcel) (t u : ℕ) → u ≢ p → lists t u ≡ changes.with_rest lists q p rest t u
unfolding changes.with_rest
rest_other lists q p rest t u n = go (t == q) (u == p) (is_other u p n)
  where
    go : (a b : Bool) → b ≡ false → lists t u ≡ (if a && b then rest else lists t u)
    go a true e = absurd (cc)
    go true false e = refl
    go false false e = refl
