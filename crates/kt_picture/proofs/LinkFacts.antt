-- Instances noted at messages of chains, one after another.
use Rattle.std.proofs.Common.{◌≡◌, ◌∙◌, ◌+◌, ℕ, zero, suc, Bool, true, false, Option, Some, None, List, [], ◌∷◌, cond, refl, sym, ap, take, get_or, arith}
use Rattle.std.specs.Prelude.{◌||◌, find}
use Rattle.std.specs.List.{slice_get}
use Rattle.std.specs.Option.{option_map, option_or}
use Rattle.std.proofs.lemmas.List.Folds.{find-append}
use Rattle.kt_meaning.proofs.Items.{take_item}
use Rattle.kt_spacetime.specs.declared.certificate.Certificate.{Certificate}
use Rattle.kt_picture.specs.Evidence.{has_chained, chained_by}
use Rattle.kt_picture.specs.Links.{NotesMore}

map_or : (f : Certificate → ℕ) (o p : Option Certificate) → option_map f (option_or o p) ≡ option_or (option_map f o) (option_map f p)
map_or f None p = refl
map_or f (Some c) p = refl

map_picked : (f : Certificate → ℕ) (t : Bool) (c : Certificate) → option_map f (cond t (Some c) None) ≡ cond t (Some (f c)) None
map_picked f true c = refl
map_picked f false c = refl

-- one more certificate
pub chained_more : (certificates : List Certificate) (i msg : ℕ) (c : Certificate) → slice_get certificates i ≡ Some c
    → chained_by (take (i + 1) certificates) msg ≡ option_or (chained_by (take i certificates) msg) (cond (has_chained msg c) (Some c.inst) None)
chained_more certificates i msg c at =
    let inst : Certificate → ℕ = λ c. c.inst in
    let p = has_chained msg in
    ap (λ (l : List Certificate). option_map inst (find p l)) (take_item certificates i (i + 1) c refl at)
    ∙ ap (option_map inst) (find-append p (take i certificates) (c ∷ []))
    ∙ map_or inst (find p (take i certificates)) (find p (c ∷ []))
    ∙ ap (option_or (chained_by (take i certificates) msg)) (map_picked inst (p c) c)

found_if : {X : Type 0} (t : Bool) (x : X) (o : Option X) → t ≡ true → cond t (Some x) o ≡ Some x
found_if true x o e = refl
found_if false x o e = absurd (cc)

passed_by : {X : Type 0} (t : Bool) (y : X) (before all found : Option X) → cond t (Some y) before ≡ None → (before ≡ None → all ≡ found) → cond t (Some y) all ≡ found
passed_by true y before all found none later = absurd (cc)
passed_by false y before all found none later = later none

-- the first item that passes, after items that don't
pub first_found : {X : Type 0} (p : X → Bool) (xs : List X) (i : ℕ) (x : X) → slice_get xs i ≡ Some x → p x ≡ true → find p (take i xs) ≡ None → find p xs ≡ Some x
first_found p [] i x at passes none = absurd (cc)
first_found p (y ∷ xs) zero x at passes none =
    let same : y ≡ x = cc in
    ap (λ z. cond (p z) (Some z) (find p xs)) same ∙ found_if (p x) x (find p xs) passes
first_found p (y ∷ xs) (suc i) x at passes none =
    passed_by (p y) y (find p (take i xs)) (find p xs) (Some x) none (λ later. first_found p xs i x at passes later)

none_picked : {X : Type 0} (t : Bool) (x : X) (o : Option X) → t ≡ false → o ≡ None → option_or o (cond t (Some x) None) ≡ None
none_picked false x None t o = refl
none_picked false x (Some y) t o = absurd (cc)
none_picked true x o t e = absurd (cc)

-- no item passes, and the next one does not
pub none_next : {X : Type 0} (p : X → Bool) (xs : List X) (i : ℕ) (x : X) → slice_get xs i ≡ Some x → p x ≡ false → find p (take i xs) ≡ None → find p (take (i + 1) xs) ≡ None
none_next p xs i x at fails none =
    ap (find p) (take_item xs i (i + 1) x refl at) ∙ find-append p (take i xs) (x ∷ []) ∙ none_picked (p x) x (find p (take i xs)) fails none

or_none : (o : Option ℕ) → o ≡ option_or o None
or_none None = refl
or_none (Some x) = refl

or_more : (o : Option ℕ) (a b : Bool) (inst : ℕ) → option_or (option_or o (cond a (Some inst) None)) (cond b (Some inst) None) ≡ option_or o (cond (a || b) (Some inst) None)
or_more None true b inst = refl
or_more None false b inst = refl
or_more (Some x) a b inst = refl

-- nothing is noted more
pub notes_none : (noted : List (Option ℕ)) (inst : ℕ) → NotesMore noted noted inst (λ msg. false)
notes_none noted inst = record { few = refl; noted = λ n l. or_none (get_or noted n None) }

-- what is noted in two steps
pub notes_next : (old mid new : List (Option ℕ)) (inst : ℕ) (told more all : ℕ → Bool) → NotesMore old mid inst told → NotesMore mid new inst more
    → ((msg : ℕ) → all msg ≡ (told msg || more msg)) → NotesMore old new inst all
notes_next old mid new inst told more all first next same = record {
  few = next.few ∙ first.few;
  noted = λ n l.
      next.noted n (omega (arith, l, first.few)) ∙ ap (λ (o : Option ℕ). option_or o (cond (more (suc n)) (Some inst) None)) (first.noted n l)
      ∙ or_more (get_or old n None) (told (suc n)) (more (suc n)) inst
      ∙ ap (λ (b : Bool). option_or (get_or old n None) (cond b (Some inst) None)) (sym (same (suc n)));
}
