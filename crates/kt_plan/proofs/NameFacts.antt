-- Names of processes, and lists of them.
use Rattle.std.proofs.Common.{◌≡◌, ◌≢◌, ◌<◌, ◌≤◌, ◌∙◌, ℕ, zero, suc, List, [], ◌∷◌, Bool, map, ap, refl, sym, ◌||◌, ◌&&◌, cond, ◌+◌, ◌++◌, length, true, false, arith, get_or, rules, take, nat_lt}
use Rattle.std.specs.Prelude.{position, not, if◌then◌else◌, Option, Some, None, All}
use Rattle.std.specs.List.{list_any, list_all, prefix_len, position_or_len, AllPairs}
use Rattle.std.proofs.lemmas.List.Sums.{fails_before_first}
use Rattle.std.proofs.lemmas.List.Folds.{list_any_none}
use Rattle.std.proofs.lemmas.Slice.Eq.{bytes_eq-Decides}
use Rattle.std.proofs.lemmas.Bool.Decides.{nat_tests}
use Rattle.std.specs.Str.{bytes_eq, IsAscii, IsUtf8}
use Rattle.std.specs.Char.{is_ascii_lowercase}
use Rattle.std.proofs.lemmas.List.{length-map, map-append, length-append, get_or-take, length-take, get_or_default}
use Rattle.std.proofs.lemmas.List.Elements.{All-push}
use Rattle.std.proofs.lemmas.List.Quantifiers.{all_pairs_push}
use Rattle.std.proofs.lemmas.Str.{IsUtf8-from_ascii}
use Rattle.std.proofs.Math.ListN.{get_or-map}
use Rattle.kt_plan.specs.Names.{is_name, is_name_byte, number_in, AreNames}

pub list_any-map : {A B : Type 0} (p : B → Bool) (f : A → B) (xs : List A) → list_any p (map f xs) ≡ list_any (λ x. p (f x)) xs
list_any-map p f [] = refl
list_any-map p f (x ∷ xs) = ap (λ (b : Bool). p (f x) || b) (list_any-map p f xs)

prefix_len-map : {A B : Type 0} (p : B → Bool) (f : A → B) (xs : List A) → prefix_len p (map f xs) ≡ prefix_len (λ x. p (f x)) xs
prefix_len-map p f [] = refl
prefix_len-map p f (x ∷ xs) = rw (prefix_len-map p f xs) refl

pub position-map : {A B : Type 0} (p : B → Bool) (f : A → B) (xs : List A) → position p (map f xs) ≡ position (λ x. p (f x)) xs
position-map p f xs = rw (prefix_len-map (λ y. not (p y)) f xs, length-map xs) refl

low : (c : ℕ) → is_ascii_lowercase c ≡ true → c < 128
low c e = grind (arith, e)

low_byte : (c : ℕ) → is_name_byte c ≡ true → c < 128
low_byte c e = grind (arith, e)

both : (a b : Bool) → (a && b) ≡ true → (a ≡ true) × (b ≡ true)
both true b e = (refl, e)
both false b e = cc e

ascii_rest : (w : List ℕ) → list_all is_name_byte w ≡ true → IsAscii w
ascii_rest [] e i = search rules
ascii_rest (c ∷ cs) e zero = low_byte c (both _ _ e).0
ascii_rest (c ∷ cs) e (suc i) = ascii_rest cs (both _ _ e).1 i

-- a name is ASCII
pub ascii : (w : List ℕ) → is_name w ≡ true → IsAscii w
ascii [] e i = cc e
ascii (c ∷ cs) e zero = low c (both _ _ (both _ _ e).1).0
ascii (c ∷ cs) e (suc i) = ascii_rest cs (both _ _ (both _ _ e).1).1 i

-- a word is itself
pub bytes_eq-refl : (w : List ℕ) → bytes_eq w w ≡ true
bytes_eq-refl w = (bytes_eq-Decides w w).1 refl

none_false : {X : Type 0} (b : Bool) (x : X) → cond b (Some x) None ≡ None → b ≡ false
none_false true x e = cc e
none_false false x e = refl

not_below : (a b : ℕ) → nat_lt a b ≡ false → b ≤ a
not_below a b e = grind (arith, nat_tests, e)

-- what is not found is nowhere
pub misses : {X : Type 0} (p : X → Bool) (xs : List X) → position p xs ≡ None → (k : ℕ) (d : X) → k < length xs → p (get_or xs k d) ≡ false
misses p xs e k d l =
    let end : length xs ≤ position_or_len p xs = not_below (position_or_len p xs) (length xs) (none_false _ _ e) in
    fails_before_first p xs k d (omega arith)

-- what is nowhere is not found
pub nowhere : {X : Type 0} (p : X → Bool) (xs : List X) → ((k : ℕ) (d : X) → k < length xs → p (get_or xs k d) ≡ false) → position p xs ≡ None
nowhere p [] h = refl
nowhere p (x ∷ xs) h =
    let here : p x ≡ false = h 0 x (omega arith) in
    let rest : position p xs ≡ None = nowhere p xs (λ k d l. h (suc k) d (omega arith)) in
    rw here (pushed (position_or_len p xs) (length xs) (none_false _ _ rest))
  where
    pushed : (n m : ℕ) → nat_lt n m ≡ false → cond (nat_lt (1 + n) (suc m)) (Some (1 + n)) None ≡ None
    pushed n m e = let t : nat_lt (1 + n) (suc m) ≡ false = grind (arith, nat_tests, e) in rw t refl

-- a word that is no name names nothing
pub improper : (names : List (List ℕ)) (word : List ℕ) → AreNames names → is_name word ≡ false → number_in names word ≡ None
improper names word are wrong =
    nowhere (bytes_eq word) names (λ k d l. differs (bytes_eq word (get_or names k d)) (λ t. (bytes_eq-Decides word (get_or names k d)).0 t) (are.proper k d l))
  where
    differs : {x : List ℕ} (b : Bool) → (b ≡ true → word ≡ x) → is_name x ≡ true → b ≡ false
    differs true same proper = let e = ap is_name (same refl) in cc (e, proper, wrong)
    differs false same proper = refl

-- nor does one that is no text
pub unreadable : (names : List (List ℕ)) (word : List ℕ) → AreNames names → ¬ (IsUtf8 word) → number_in names word ≡ None
unreadable names word are wrong = improper names word are (unnamed (is_name word) refl)
  where
    unnamed : (b : Bool) → is_name word ≡ b → b ≡ false
    unnamed true e = absurd (wrong (IsUtf8-from_ascii word (ascii word e)))
    unnamed false e = refl

-- a new name
pub one_more : (names : List (List ℕ)) (name : List ℕ) → AreNames names → is_name name ≡ true → number_in names name ≡ None → length names < 64 → AreNames (names ++ name ∷ [])
one_more names name are proper new room = record {
  few = omega (arith, length-append names (name ∷ []));
  proper = All-push (λ (n : List ℕ). is_name n ≡ true) names name are.proper proper;
  distinct = all_pairs_push (λ (one other : List ℕ). one ≢ other) names name are.distinct
      (λ k d l same. let off = misses (bytes_eq name) names new k d l in let on = bytes_eq-refl name in let e = ap (bytes_eq name) same in cc (off, on, e));
}

-- a name is not among those before it
pub earlier : (names : List (List ℕ)) (i : ℕ) (d : List ℕ) → AreNames names → i < length names → number_in (take i names) (get_or names i d) ≡ None
earlier names i d are l =
    nowhere (bytes_eq (get_or names i d)) (take i names) (λ k e below. differs _ (bytes_eq-Decides (get_or names i d) (get_or (take i names) k e)).0 (apart k e below))
  where
    differs : {x y : List ℕ} (b : Bool) → (b ≡ true → y ≡ x) → (x ≢ y) → b ≡ false
    differs true same apart = absurd (apart (sym (same refl)))
    differs false same apart = refl

    apart : (k : ℕ) (e : List ℕ) → k < length (take i names) → get_or (take i names) k e ≢ get_or names i d
    apart k e below =
        let short : length (take i names) ≤ i = omega (arith, length-take i names) in
        λ same. are.distinct k i e (omega arith) l (sym (get_or-take i names k e (omega arith)) ∙ (same ∙ get_or_default names i d e l))

-- an inserted key that is new goes last
pub adds : {A : Type 0} (text : A → List ℕ) (old new : List A) (k : A) (name : List ℕ) (there : Bool) → text k ≡ name → there ≡ false
    → new ≡ (if there then old else old ++ k ∷ []) → map text new ≡ map text old ++ name ∷ []
adds text old new k name there same absent keys = rw (keys, absent, map-append text old (k ∷ []), same) refl

-- what is not found is not among them
pub unfound : {X : Type 0} (p : X → Bool) (xs : List X) → position p xs ≡ None → list_any p xs ≡ false
unfound p xs e = list_any_none p xs (misses p xs e)

-- the same where the names are texts
pub absent : {A : Type 0} (text : A → List ℕ) (keys : List A) (name : List ℕ) → number_in (map text keys) name ≡ None → list_any (λ k. bytes_eq name (text k)) keys ≡ false
absent text keys name e = sym (list_any-map (bytes_eq name) text keys) ∙ unfound (bytes_eq name) (map text keys) e

-- a word looked up among texts
pub looked_up : {A : Type 0} (text : A → List ℕ) (keys : List A) (names : List (List ℕ)) (name word : List ℕ) (found : Option ℕ)
    → map text keys ≡ names → name ≡ word → found ≡ position (λ k. bytes_eq name (text k)) keys → found ≡ number_in names word
looked_up text keys names name word found same called is =
    is ∙ (sym (position-map (bytes_eq name) text keys) ∙ (ap (position (bytes_eq name)) same ∙ ap (λ (w : List ℕ). number_in names w) called))

-- the text at a place
pub at_place : {A : Type 0} (text : A → List ℕ) (keys : List A) (names : List (List ℕ)) (i : ℕ) (key : A)
    → map text keys ≡ names → key ≡ get_or keys i key → get_or names i (text key) ≡ text key
at_place text keys names i key same is = ap (λ (xs : List (List ℕ)). get_or xs i (text key)) (sym same) ∙ (get_or-map text keys i key ∙ sym (ap text is))
