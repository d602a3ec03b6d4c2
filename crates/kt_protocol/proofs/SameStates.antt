-- When two states are the same, and values changed at one place.
use Rattle.std.proofs.Common.{◌≡◌, ℕ, Bool, true, false, [], ◌∷◌, ◌++◌, refl, ap, ap₂, ◌∙◌}
use Rattle.std.specs.Prelude.{◌+◌, ◌==◌, ◌&&◌, nat_lt, if◌then◌else◌}
use Rattle.kt_protocol.proofs.Choices.{same, both}
use Rattle.kt_protocol.specs.Joining.{count_below}
use Rattle.kt_protocol.specs.Parcels.{Ask, Lists, with_checkpoint_asks, with_rollback_asks}
use Rattle.kt_protocol.specs.States.{State}
use Rattle.kt_protocol.specs.Summary.{Summary}
use Rattle.kt_protocol.specs.OnceClosed.{has_to_save, has_to_restore}

-- two states are the same where these fields are
pub same_fields : (s : State) {f f' l l' t t' : ℕ → ℕ → ℕ} {a a' b b' : Lists} → ((u v : ℕ) → f u v ≡ f' u v) → ((u v : ℕ) → l u v ≡ l' u v) → ((u v : ℕ) → t u v ≡ t' u v) → ((u v : ℕ) → a u v ≡ a' u v) → ((u v : ℕ) → b u v ≡ b' u v) →
    record s { first_sent = f; last_received = l; last_sent = t; kept = a; held = b } ≡ record s { first_sent = f'; last_received = l'; last_sent = t'; kept = a'; held = b' }
same_fields s e1 e2 e3 e4 e5 = λ i. record s { first_sent = λ u v. e1 u v i; last_received = λ u v. e2 u v i; last_sent = λ u v. e3 u v i; kept = λ u v. e4 u v i; held = λ u v. e5 u v i }

-- a value changed at one place, and what is still to be done elsewhere
pub swap : {X : Type 0} (r b : Bool) (z x y f : X) → (b ≡ true → r ≡ false) → x ≡ y → (if r then z else if b then x else f) ≡ (if b then y else if r then z else f)
swap true true z x y f h e = absurd (cc (h refl))
swap true false z x y f h e = refl
swap false true z x y f h e = e
swap false false z x y f h e = refl

-- a test that fails at one place
pub here_one : (t : ℕ → Bool) (u p : ℕ) → t p ≡ false → (u == p) ≡ true → t u ≡ false
here_one t u p r e = ap t (same u p e) ∙ r

pub here_two : (t : ℕ → Bool) (u p v q : ℕ) → t p ≡ false → (u == p && v == q) ≡ true → t u ≡ false
here_two t u p v q r e = here_one t u p r (both (u == p) (v == q) e).0

-- a function of a choice
pub choice : {X Y : Type 0} (f : X → Y) (b : Bool) {x y : X} {x' y' : Y} → (b ≡ true → f x ≡ x') → (b ≡ false → f y ≡ y') → f (if b then x else y) ≡ (if b then x' else y')
choice f true p q = p refl
choice f false p q = q refl

-- who is in no instance has nothing to do
pub closed_no_save : (h : Summary) (p : ℕ) → h.open_in p ≡ 0 → has_to_save h p ≡ false
closed_no_save h p o = rw o refl

pub closed_no_restore : (h : Summary) (p : ℕ) → h.open_in p ≡ 0 → has_to_restore h p ≡ false
closed_no_restore h p o = rw o refl

-- a value changed at one place, where it is not used
pub unchanged : {X : Type 0} (r b : Bool) (x f g : X) → (b ≡ true → r ≡ false) → (if r then (if b then x else f) else g) ≡ (if r then f else g)
unchanged true true x f g h = absurd (cc (h refl))
unchanged true false x f g h = refl
unchanged false b x f g h = refl

-- so too with more fields
pub same_more_fields : (s : State) {f f' l l' t t' m m' n n' : ℕ → ℕ → ℕ} {a a' b b' d d' : Lists} {x x' y y' : ℕ → ℕ → ℕ → Bool} {z z' : ℕ → ℕ} → ((k : ℕ) → z k ≡ z' k) → ((u v : ℕ) → d u v ≡ d' u v) → ((k u v : ℕ) → x k u v ≡ x' k u v) → ((k u v : ℕ) → y k u v ≡ y' k u v) → ((u v : ℕ) → m u v ≡ m' u v) → ((u v : ℕ) → n u v ≡ n' u v) →
    ((u v : ℕ) → f u v ≡ f' u v) → ((u v : ℕ) → l u v ≡ l' u v) → ((u v : ℕ) → t u v ≡ t' u v) → ((u v : ℕ) → a u v ≡ a' u v) → ((u v : ℕ) → b u v ≡ b' u v) →
    record s { asks = z; channel = d; asked = x; awaits = y; first_sent_aside = m; last_received_aside = n; first_sent = f; last_received = l; last_sent = t; kept = a; held = b } ≡ record s { asks = z'; channel = d'; asked = x'; awaits = y'; first_sent_aside = m'; last_received_aside = n'; first_sent = f'; last_received = l'; last_sent = t'; kept = a'; held = b' }
same_more_fields s n0 c0 c1 c2 c3 c4 e1 e2 e3 e4 e5 = λ i. record s { asks = λ k. n0 k i; channel = λ u v. c0 u v i; asked = λ k u v. c1 k u v i; awaits = λ k u v. c2 k u v i; first_sent_aside = λ u v. c3 u v i; last_received_aside = λ u v. c4 u v i; first_sent = λ u v. e1 u v i; last_received = λ u v. e2 u v i; last_sent = λ u v. e3 u v i; kept = λ u v. e4 u v i; held = λ u v. e5 u v i }

-- lists with asks, and how many asks there are, by tables that are the same
pub checkpoint_asks_same : (channel : Lists) (f g : ℕ → ℕ → ℕ) (p k : ℕ) → ((v : ℕ) → f p v ≡ g p v) → (u v : ℕ) → with_checkpoint_asks channel f p k u v ≡ with_checkpoint_asks channel g p k u v
unfolding with_checkpoint_asks
checkpoint_asks_same channel f g p k e u v = ap (λ (x : ℕ). if u == p && nat_lt 0 x then channel u v ++ Ask k x ∷ [] else channel u v) (e v)

pub rollback_asks_same : (channel : Lists) (f g a b : ℕ → ℕ → ℕ) (p k : ℕ) → ((v : ℕ) → f p v ≡ g p v) → ((v : ℕ) → a p v ≡ b p v) → (u v : ℕ) → with_rollback_asks channel f a p k u v ≡ with_rollback_asks channel g b p k u v
unfolding with_rollback_asks
rollback_asks_same channel f g a b p k e d u v = ap₂ (λ (x y : ℕ). if u == p && nat_lt 0 x then channel u v ++ Ask k y ∷ [] else channel u v) (e v) (d v)

count_same : (n : ℕ) (f g : ℕ → Bool) → ((v : ℕ) → f v ≡ g v) → count_below n f ≡ count_below n g
count_same n f g e = λ i. count_below n (λ v. e v i)

pub asks_same : (asks : ℕ → ℕ) (n k : ℕ) (f g : ℕ → ℕ) → ((v : ℕ) → f v ≡ g v) → (j : ℕ) → (if j == k then asks k + count_below n (λ v. nat_lt 0 (f v)) else asks j) ≡ (if j == k then asks k + count_below n (λ v. nat_lt 0 (g v)) else asks j)
asks_same asks n k f g e j = ap (λ (x : ℕ). if j == k then asks k + x else asks j) (count_same n _ _ (λ v. ap (λ (x : ℕ). nat_lt 0 x) (e v)))
