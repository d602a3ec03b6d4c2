-- Words of a line, one after another.
use Rattle.std.proofs.Common.{◌≡◌, ◌<◌, ◌≤◌, ◌+◌, ◌∙◌, ◌==◌, ℕ, suc, List, [], ◌∷◌, Bool, true, false, length, take, drop, ap, refl, sym, arith, cond, subst}
use Rattle.std.specs.Prelude.{Some, None, position, filter, not, nat_lt}
use Rattle.std.specs.List.{slice_split, onto_first, position_or_len}
use Rattle.std.proofs.lemmas.List.{drop_all}
use Rattle.std.proofs.lemmas.List.Splits.{slice_split-cons_yes, slice_split-cons_no}
use Rattle.std.proofs.lemmas.List.Sums.{prefix_len-le-length}
use Rattle.std.proofs.lemmas.Bool.Decides.{nat_tests}
use Rattle.kt_scenario.specs.Lines.{is_blank, BeginsWord, words_of}

-- a piece that has bytes
abbrev full : List ℕ → Bool
full word = not (length word == 0)

abbrev no_blank : ℕ → Bool
no_blank b = not (is_blank b)

one_more : (n : ℕ) → 1 + n ≡ suc n
one_more n = omega arith

found_at : (b : Bool) (x n : ℕ) → cond b (Some x) None ≡ Some n → x ≡ n
found_at true x n e = cc e
found_at false x n e = cc e

not_found : (b : Bool) (x : ℕ) → cond b (Some x) None ≡ None → b ≡ false
not_found true x e = cc e
not_found false x e = refl

-- where a test first passes
pub place : (p : ℕ → Bool) (text : List ℕ) (n : ℕ) → position p text ≡ Some n → position_or_len p text ≡ n
place p text n e = found_at _ _ n e

-- it passes nowhere
pub no_place : (p : ℕ → Bool) (text : List ℕ) → position p text ≡ None → position_or_len p text ≡ length text
no_place p text e =
    let most = prefix_len-le-length (λ b. not (p b)) text in
    let out : nat_lt (position_or_len p text) (length text) ≡ false = not_found _ _ e in
    let least : length text ≤ position_or_len p text = grind (arith, nat_tests, out) in
    omega arith

-- what comes after blanks
abbrev IsSkipped : ℕ → List ℕ → Type 0
IsSkipped n text = (words_of text ≡ words_of (drop n text)) × BeginsWord (drop n text)

skip : (b : ℕ) (bs : List ℕ) (t : Bool) → is_blank b ≡ t → IsSkipped (position_or_len no_blank bs) bs → IsSkipped (position_or_len no_blank (b ∷ bs)) (b ∷ bs)
skip b bs true e rest =
    let at : position_or_len no_blank (b ∷ bs) ≡ suc (position_or_len no_blank bs) = ap (λ (u : Bool). cond (not (not u)) (1 + position_or_len no_blank bs) 0) e ∙ one_more (position_or_len no_blank bs) in
    subst (λ (n : ℕ). IsSkipped n (b ∷ bs)) (sym at) (ap (filter full) (slice_split-cons_yes is_blank b bs e) ∙ rest.0, rest.1)
skip b bs false e rest =
    let at : position_or_len no_blank (b ∷ bs) ≡ 0 = ap (λ (u : Bool). cond (not (not u)) (1 + position_or_len no_blank bs) 0) e in
    subst (λ (n : ℕ). IsSkipped n (b ∷ bs)) (sym at) (refl, e)

-- blanks before a word count for nothing
pub skipped : (text : List ℕ) → IsSkipped (position_or_len no_blank text) text
skipped [] = (refl, tt)
skipped (b ∷ bs) = skip b bs (is_blank b) refl (skipped bs)

-- blanks alone are no words
pub no_words : (text : List ℕ) → position no_blank text ≡ None → words_of text ≡ []
no_words text e = (skipped text).0 ∙ ap words_of (drop_all (position_or_len no_blank text) text (omega (arith, no_place no_blank text e)))

-- the first piece, and the words of the others
abbrev IsCut : ℕ → List ℕ → Type 0
IsCut n text = (rest : List (List ℕ)) × (slice_split is_blank text ≡ take n text ∷ rest) × (filter full rest ≡ words_of (drop n text))

cut_one : (b : ℕ) (bs : List ℕ) (t : Bool) → is_blank b ≡ t → IsCut (position_or_len is_blank bs) bs → IsCut (position_or_len is_blank (b ∷ bs)) (b ∷ bs)
cut_one b bs true e rest =
    let at : position_or_len is_blank (b ∷ bs) ≡ 0 = ap (λ (u : Bool). cond (not u) (1 + position_or_len is_blank bs) 0) e in
    let split = slice_split-cons_yes is_blank b bs e in
    subst (λ (n : ℕ). IsCut n (b ∷ bs)) (sym at) (slice_split is_blank bs, split, sym (ap (filter full) split))
cut_one b bs false e rest =
    let at : position_or_len is_blank (b ∷ bs) ≡ suc (position_or_len is_blank bs) = ap (λ (u : Bool). cond (not u) (1 + position_or_len is_blank bs) 0) e ∙ one_more (position_or_len is_blank bs) in
    subst (λ (n : ℕ). IsCut n (b ∷ bs)) (sym at) (rest.0, slice_split-cons_no is_blank b bs e ∙ ap (onto_first b) rest.1, rest.2)

cut : (text : List ℕ) → IsCut (position_or_len is_blank text) text
cut [] = ([], refl, refl)
cut (b ∷ bs) = cut_one b bs (is_blank b) refl (cut bs)

keep : (word : List ℕ) (rest : List (List ℕ)) → 0 < length word → filter full (word ∷ rest) ≡ word ∷ filter full rest
keep word rest some =
    let long : (length word == 0) ≡ false = grind (arith, nat_tests, some) in
    ap (λ (t : Bool). cond (not t) (word ∷ filter full rest) (filter full rest)) long

-- the first word of a line that begins with it
pub first_word : (text : List ℕ) → BeginsWord text → 0 < length text → words_of text ≡ take (position_or_len is_blank text) text ∷ words_of (drop (position_or_len is_blank text) text)
first_word [] begins some = absurd (omega arith)
first_word (b ∷ bs) begins some =
    let split = cut (b ∷ bs) in
    let at : position_or_len is_blank (b ∷ bs) ≡ suc (position_or_len is_blank bs) = ap (λ (u : Bool). cond (not u) (1 + position_or_len is_blank bs) 0) begins ∙ one_more (position_or_len is_blank bs) in
    let long : 0 < length (take (position_or_len is_blank (b ∷ bs)) (b ∷ bs)) = subst (λ (n : ℕ). 0 < length (take n (b ∷ bs))) (sym at) (omega arith) in
    ap (filter full) split.1 ∙ (keep _ split.0 long ∙ ap (λ (words : List (List ℕ)). take (position_or_len is_blank (b ∷ bs)) (b ∷ bs) ∷ words) split.2)

-- the same, where it ends
pub word_to : (text : List ℕ) (n : ℕ) (word rest : List ℕ) → BeginsWord text → 0 < length text → position_or_len is_blank text ≡ n → word ≡ take n text → rest ≡ drop n text → words_of text ≡ word ∷ words_of rest
word_to text n word rest begins some at is left =
    let whole = subst (λ (m : ℕ). words_of text ≡ take m text ∷ words_of (drop m text)) at (first_word text begins some) in
    cc (whole, is, ap words_of left)

-- what comes after blanks, where it begins
pub from_start : (text : List ℕ) (n : ℕ) (begun : List ℕ) → position no_blank text ≡ Some n → begun ≡ drop n text → (words_of text ≡ words_of begun) × BeginsWord begun
from_start text n begun e is =
    let s = subst (λ (m : ℕ). IsSkipped m text) (place no_blank text n e) (skipped text) in
    (s.0 ∙ ap words_of (sym is), subst BeginsWord (sym is) s.1)
