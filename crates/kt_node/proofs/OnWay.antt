-- What is on its way: links of a list of parcels, and lists of rows.
use Rattle.std.proofs.Common.{◌≡◌, ◌∙◌, ℕ, suc, ◌+◌, ◌<◌, ◌≤◌, Bool, true, false, Some, None, List, [], ◌∷◌, ◌++◌, length, map, take, drop, refl, sym, ap, ap₂, arith, inl, inr}
use Rattle.std.specs.Prelude.{◌==◌, ◌&&◌, if◌then◌else◌, Option, slice_index_or}
use Rattle.std.specs.Option.{option_to_list}
use Rattle.std.specs.List.{remove}
use Rattle.std.proofs.Math.Seq.{drop-cons}
use Rattle.std.proofs.lemmas.Bool.{cases_eq}
use Rattle.std.proofs.lemmas.List.{append-nil, map-append, take-append-drop, take_more}
use Rattle.kt_protocol.proofs.Updates.{is_same, is_other}
use Rattle.kt_spacetime.specs.declared.named_rows.NamedEvent.{NamedEvent}
use Rattle.kt_node.specs.Clocks.{Envelope, envelope, clocked_row}
use Rattle.kt_manager.specs.declared.parcels.NodeParcel.{NodeParcel}
use Rattle.kt_node.specs.declared.cluster.OnWay.{OnWay}
use Rattle.kt_node.specs.Clusters.{link, IsFront}

with_front : (b : Bool) (e : Envelope) (whole front rest : List Envelope) → whole ≡ front ++ rest → (if b then e ∷ whole else whole) ≡ (if b then e ∷ front else front) ++ rest
with_front true e whole front rest h = ap (λ (l : List Envelope). e ∷ l) h
with_front false e whole front rest h = h

pub link-append : (xs ys : List OnWay) (p q : ℕ) → link (xs ++ ys) p q ≡ link xs p q ++ link ys p q
link-append [] ys p q = refl
link-append (x ∷ xs) ys p q = with_front (p == x.from && q == x.to) (envelope x.clock x.parcel) (link (xs ++ ys) p q) (link xs p q) (link ys p q) (link-append xs ys p q)

-- no parcel more, where another link's is put
pub link_missed : (xs : List OnWay) (x : OnWay) (u v : ℕ) → (u == x.from && v == x.to) ≡ false → link (xs ++ x ∷ []) u v ≡ link xs u v
link_missed xs x u v e = link-append xs (x ∷ []) u v ∙ (ap (λ (b : Bool). link xs u v ++ (if b then envelope x.clock x.parcel ∷ [] else [])) e ∙ append-nil (link xs u v))

-- so far each link of p to one of the first n has what p puts for it, and all others are as they were
abbrev pub HasPut : ℕ → (ℕ → ℕ → List Envelope) → (ℕ → ℕ → List Envelope) → ℕ → ℕ → (ℕ → List NodeParcel) → Type 0
HasPut n old new p clock puts = (u v : ℕ) → v < n → new u v ≡ old u v ++ (if u == p then map (envelope clock) (puts v) else [])

abbrev pub HasKept : ℕ → (ℕ → ℕ → List Envelope) → (ℕ → ℕ → List Envelope) → Type 0
HasKept n old new = (u v : ℕ) → n ≤ v → new u v ≡ old u v

pub nobody : (b : Bool) → (b && false) ≡ false
nobody true = refl
nobody false = refl

at_last : (b : Bool) (e : Envelope) (es : List Envelope) → e ∷ [] ≡ es → (if b && true then e ∷ [] else []) ≡ (if b then es else [])
at_last true e es h = h
at_last false e es h = refl

none_last : (b : Bool) (clock : ℕ) (xs : List NodeParcel) → [] ≡ xs → [] ≡ (if b then map (envelope clock) xs else [])
none_last true clock xs h = ap (map (envelope clock)) h
none_last false clock xs h = refl

pub put_one : (before xs : List OnWay) (x : OnWay) (p clock n : ℕ) (puts : ℕ → List NodeParcel) → x.from ≡ p → x.to ≡ n → x.clock ≡ clock → x.parcel ∷ [] ≡ puts n
    → HasPut n (link before) (link xs) p clock puts → HasKept n (link before) (link xs) → HasPut (n + 1) (link before) (link (xs ++ x ∷ [])) p clock puts × HasKept (n + 1) (link before) (link (xs ++ x ∷ []))
put_one before xs x p clock n puts from to at is h k = (
  λ u v l. elim (cases_eq v n) [
    | inl s ↦ link-append xs (x ∷ []) u v ∙ ap₂ (λ (a b : List Envelope). a ++ b) (k u v (omega (arith, s)))
        (ap₂ (λ (a b : ℕ). if u == a && v == b then envelope x.clock x.parcel ∷ [] else []) from to
        ∙ (ap (λ (b : Bool). if u == p && b then envelope x.clock x.parcel ∷ [] else []) (ap (λ (m : ℕ). m == n) s ∙ is_same n)
        ∙ at_last (u == p) (envelope x.clock x.parcel) (map (envelope clock) (puts v)) (ap (λ (c : ℕ). envelope c x.parcel ∷ []) at ∙ ap (map (envelope clock)) (is ∙ ap puts (sym s)))))
    | inr s ↦ link_missed xs x u v (ap (λ (b : Bool). (u == x.from) && b) (is_other v x.to (λ e. s (e ∙ to))) ∙ nobody (u == x.from)) ∙ h u v (omega (arith, l, s))
  ],
  λ u v l. link_missed xs x u v (ap (λ (b : Bool). (u == x.from) && b) (is_other v x.to (λ e. (let m : v ≡ n = e ∙ to in absurd (omega (arith, m, l))))) ∙ nobody (u == x.from)) ∙ k u v (omega (arith, l)),
)

pub put_none : (before xs : List OnWay) (p clock n : ℕ) (puts : ℕ → List NodeParcel) → [] ≡ puts n
    → HasPut n (link before) (link xs) p clock puts → HasKept n (link before) (link xs) → HasPut (n + 1) (link before) (link xs) p clock puts × HasKept (n + 1) (link before) (link xs)
put_none before xs p clock n puts is h k = (
  λ u v l. elim (cases_eq v n) [
    | inl s ↦ k u v (omega (arith, s)) ∙ (sym (append-nil (link before u v)) ∙ ap (λ (l : List Envelope). link before u v ++ l) (none_last (u == p) clock (puts v) (is ∙ ap puts (sym s))))
    | inr s ↦ h u v (omega (arith, l, s))
  ],
  λ u v l. k u v (omega (arith, l)),
)

pub one_of : (o : Option NodeParcel) (x : NodeParcel) (l : List NodeParcel) → option_to_list o ≡ l → o ≡ Some x → x ∷ [] ≡ l
one_of o x l e s = ap option_to_list (sym s) ∙ e

pub none_of : (o : Option NodeParcel) (l : List NodeParcel) → option_to_list o ≡ l → o ≡ None → [] ≡ l
none_of o l e s = ap option_to_list (sym s) ∙ e

-- a row more that is told
pub told_one : (p clock : ℕ) (rows : List NamedEvent) (i : ℕ) (event : NamedEvent) → i < length rows → event ≡ slice_index_or rows i event
    → map (clocked_row p clock) (take (i + 1) rows) ≡ map (clocked_row p clock) (take i rows) ++ clocked_row p clock event ∷ []
told_one p clock rows i event b e =
    ap (map (clocked_row p clock)) (take_more rows i event b ∙ ap (λ (x : NamedEvent). take i rows ++ x ∷ []) (sym e)) ∙ map-append (clocked_row p clock) (take i rows) (event ∷ [])

-- one parcel more of the list is none of a link
pub passed : (xs : List OnWay) (p q i : ℕ) (x : OnWay) → i < length xs → x ≡ slice_index_or xs i x → (p == x.from && q == x.to) ≡ false → link (take i xs) p q ≡ [] → link (take (i + 1) xs) p q ≡ []
passed xs p q i x b e t h = ap (λ (l : List OnWay). link l p q) (take_more xs i x b ∙ ap (λ (y : OnWay). take i xs ++ y ∷ []) (sym e)) ∙ (link_missed (take i xs) x p q t ∙ h)

-- the list parts at the front of a link
parts_at : (xs : List OnWay) (i : ℕ) (x : OnWay) (u v : ℕ) → i < length xs → x ≡ slice_index_or xs i x → link xs u v ≡ link (take i xs) u v ++ link (x ∷ drop (suc i) xs) u v
parts_at xs i x u v b e =
    ap (λ (l : List OnWay). link l u v) (sym (take-append-drop i xs) ∙ ap (λ (l : List OnWay). take i xs ++ l) (drop-cons xs i x b ∙ ap (λ (y : OnWay). y ∷ drop (suc i) xs) (sym e)))
    ∙ link-append (take i xs) (x ∷ drop (suc i) xs) u v

pub both_same : (p q : ℕ) → (p == p && q == q) ≡ true
both_same p q = ap₂ (λ (a b : Bool). a && b) (is_same p) (is_same q)

pub front_comes : (xs : List OnWay) (p q i : ℕ) (x : OnWay) → IsFront xs p q i → x ≡ slice_index_or xs i x → link xs p q ≡ envelope x.clock x.parcel ∷ link (remove xs i) p q
front_comes xs p q i x f e =
    let from : x.from ≡ p = ap (λ (y : OnWay). y.from) e ∙ (f.here x).0 in
    let to : x.to ≡ q = ap (λ (y : OnWay). y.to) e ∙ (f.here x).1 in
    let rest = link (drop (suc i) xs) p q in
    let left : link (remove xs i) p q ≡ rest = link-append (take i xs) (drop (suc i) xs) p q ∙ ap (λ (l : List Envelope). l ++ rest) f.first in
    parts_at xs i x p q f.within e
    ∙ (ap (λ (l : List Envelope). l ++ link (x ∷ drop (suc i) xs) p q) f.first
    ∙ (ap₂ (λ (a b : ℕ). if p == a && q == b then envelope x.clock x.parcel ∷ rest else rest) from to
    ∙ (ap (λ (b : Bool). if b then envelope x.clock x.parcel ∷ rest else rest) (both_same p q) ∙ ap (λ (l : List Envelope). envelope x.clock x.parcel ∷ l) (sym left))))

front_other : (xs : List OnWay) (p q i u v : ℕ) (x : OnWay) → IsFront xs p q i → x ≡ slice_index_or xs i x → (u == p && v == q) ≡ false → link (remove xs i) u v ≡ link xs u v
front_other xs p q i u v x f e n =
    let from : x.from ≡ p = ap (λ (y : OnWay). y.from) e ∙ (f.here x).0 in
    let to : x.to ≡ q = ap (λ (y : OnWay). y.to) e ∙ (f.here x).1 in
    let rest = link (drop (suc i) xs) u v in
    let missed : link (x ∷ drop (suc i) xs) u v ≡ rest = ap (λ (b : Bool). if b then envelope x.clock x.parcel ∷ rest else rest) (ap₂ (λ (a b : ℕ). u == a && v == b) from to ∙ n) in
    link-append (take i xs) (drop (suc i) xs) u v ∙ sym (parts_at xs i x u v f.within e ∙ ap (λ (l : List Envelope). link (take i xs) u v ++ l) missed)

-- what is left once the front of a link is taken
pub front_left : (xs : List OnWay) (p q i : ℕ) (x : OnWay) → IsFront xs p q i → x ≡ slice_index_or xs i x → (u v : ℕ) → link (remove xs i) u v ≡ (if u == p && v == q then drop 1 (link xs p q) else link xs u v)
front_left xs p q i x f e u v = elim (cases_eq u p) [
  | inl s ↦ elim (cases_eq v q) [
    | inl t ↦ ap₂ (link (remove xs i)) s t ∙ (ap (drop 1) (sym (front_comes xs p q i x f e))
        ∙ ap (λ (b : Bool). if b then drop 1 (link xs p q) else link xs u v) (sym (ap₂ (λ (a b : ℕ). a == p && b == q) s t ∙ both_same p q)))
    | inr t ↦ other (ap (λ (b : Bool). (u == p) && b) (is_other v q t) ∙ nobody (u == p))
  ]
  | inr s ↦ other (ap (λ (b : Bool). b && (v == q)) (is_other u p s))
]
  where
    other : (u == p && v == q) ≡ false → link (remove xs i) u v ≡ (if u == p && v == q then drop 1 (link xs p q) else link xs u v)
    other n = front_other xs p q i u v x f e n ∙ ap (λ (b : Bool). if b then drop 1 (link xs p q) else link xs u v) (sym n)
