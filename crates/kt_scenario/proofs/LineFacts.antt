-- Lines, one after another.
use Rattle.std.proofs.Common.{◌≡◌, ◌<◌, ◌≤◌, ◌+◌, ◌∙◌, ◌==◌, ℕ, List, [], ◌∷◌, ◌++◌, Bool, true, false, length, take, drop, ap, refl, sym, arith, cond, subst}
use Rattle.std.specs.Prelude.{Option, Some, None, IfSome, option_map, position}
use Rattle.std.specs.List.{slice_split, onto_first, position_or_len}
use Rattle.std.specs.Str.Lines.{strip_carriage_return}
use Rattle.std.proofs.lemmas.List.{append_assoc, append-nil, length-append}
use Rattle.std.proofs.lemmas.List.Splits.{slice_split_none, slice_split_first}
use Rattle.kt_plan.proofs.NameFacts.{misses}
use Rattle.kt_scenario.proofs.WordFacts.{place}
use Rattle.kt_scenario.specs.Lines.{lines_in, lines_of, SaysLine, Reads, IsWrongLine, IsFirstWrong}

-- a line more
pub reads_more : {S : Type 0} (Says : S → List (List ℕ) → S → Type 0) (old : S) (lines : List (List ℕ)) (known : S) (line : List ℕ) (new : S)
    → Reads Says old lines known → SaysLine Says known line new → Reads Says old (lines ++ line ∷ []) new
reads_more Says old [] known line new read says = (new, subst (λ (s : _). SaysLine Says s line new) read says, refl)
reads_more Says old (first ∷ lines) known line new read says = (read.0, read.1, reads_more Says read.0 lines known line new read.2 says)

-- pieces are never none
pub first_piece : (p : ℕ → Bool) (text : List ℕ) → (piece : List ℕ) × (pieces : List (List ℕ)) × (slice_split p text ≡ piece ∷ pieces)
first_piece p [] = ([], [], refl)
first_piece p (b ∷ bs) = elim (p b) as (λ t. (piece : List ℕ) × (pieces : List (List ℕ)) × (cond t ([] ∷ slice_split p bs) (onto_first b (slice_split p bs)) ≡ piece ∷ pieces)) [
  | true ↦ ([], slice_split p bs, refl)
  | false ↦ let rest = first_piece p bs in (b ∷ rest.0, rest.1, ap (onto_first b) rest.2)
]

-- a piece before a line feed is a line less its carriage return
pub line_before : (piece rest : List ℕ) (text : List ℕ) → slice_split (λ b. b == 10) text ≡ piece ∷ slice_split (λ b. b == 10) rest
    → lines_of text ≡ strip_carriage_return piece ∷ lines_of rest
line_before piece rest text split =
    let first = first_piece (λ b. b == 10) rest in
    ap lines_in split ∙ (ap (λ (pieces : List (List ℕ)). lines_in (piece ∷ pieces)) first.2 ∙ ap (λ (pieces : List (List ℕ)). strip_carriage_return piece ∷ lines_in pieces) (sym first.2))

-- how many bytes are left, with one for the end of a line that is left
abbrev pub bytes_left : Option (List ℕ) → ℕ
bytes_left None = 0
bytes_left (Some text) = length text + 1

-- what is known while lines are read: those read so far, and those left
pub record Gathers {S : Type 0} (Says : S → List (List ℕ) → S → Type 0) (start : S) (lines : List (List ℕ)) (known : S) (left : List (List ℕ)) (number : ℕ) : Type 0 where
  pub read : List (List ℕ)
  pub are : lines ≡ read ++ left
  pub says : Reads Says start read known
  pub counted : number ≡ length read

-- before the first line
pub begins : {S : Type 0} (Says : S → List (List ℕ) → S → Type 0) (start : S) (lines : List (List ℕ)) → Gathers Says start lines start lines 0
begins Says start lines = record { read = []; are = refl; says = refl; counted = refl }

-- a line more
pub gathers_more : {S : Type 0} (Says : S → List (List ℕ) → S → Type 0) (start : S) (lines : List (List ℕ)) (known : S) (left : List (List ℕ)) (number : ℕ) (line : List ℕ) (rest : List (List ℕ)) (new : S)
    → Gathers Says start lines known left number → left ≡ line ∷ rest → SaysLine Says known line new → Gathers Says start lines new rest (number + 1)
gathers_more Says start lines known left number line rest new g split said = record {
  read = g.read ++ line ∷ [];
  are = g.are ∙ (ap (λ (tail : List (List ℕ)). g.read ++ tail) split ∙ sym (append_assoc g.read (line ∷ []) rest));
  says = reads_more Says start g.read known line new g.says said;
  counted = omega (arith, g.counted, length-append g.read (line ∷ []));
}

-- no line is left
pub all_read : {S : Type 0} (Says : S → List (List ℕ) → S → Type 0) (start : S) (lines : List (List ℕ)) (known : S) (left : List (List ℕ)) (number : ℕ)
    → Gathers Says start lines known left number → left ≡ [] → Reads Says start lines known
all_read Says start lines known left number g none =
    subst (λ (xs : List (List ℕ)). Reads Says start xs known) (sym (g.are ∙ (ap (λ (tail : List (List ℕ)). g.read ++ tail) none ∙ append-nil g.read))) g.says

-- the next line is wrong
pub wrong_line : {S F : Type 0} (Says : S → List (List ℕ) → S → Type 0) (IsWrong : S → List (List ℕ) → F → Type 0) (start : S) (lines : List (List ℕ)) (known : S) (left : List (List ℕ)) (number : ℕ) (line : List ℕ) (rest : List (List ℕ)) (fault : F)
    → Gathers Says start lines known left number → left ≡ line ∷ rest → IsWrongLine IsWrong known line fault → IsFirstWrong Says IsWrong start lines (number + 1) fault
wrong_line Says IsWrong start lines known left number line rest fault g split wrong = record {
  before = g.read;
  line = line;
  after = rest;
  known = known;
  are = g.are ∙ ap (λ (tail : List (List ℕ)). g.read ++ tail) split;
  counted = ap (λ (n : ℕ). n + 1) g.counted;
  read = g.says;
  wrong = wrong;
}

-- a text without a line feed is one line
pub last_line : (text : List ℕ) → position (λ b. b == 10) text ≡ None → lines_of text ≡ text ∷ []
last_line text e = ap lines_in (slice_split_none (λ b. b == 10) text (misses (λ b. b == 10) text e))

-- the first line of a text that has a line feed
pub line_to : (text : List ℕ) (n : ℕ) (line rest : List ℕ) → position (λ b. b == 10) text ≡ Some n → n < length text → line ≡ strip_carriage_return (take n text) → rest ≡ drop (n + 1) text
    → lines_of text ≡ line ∷ lines_of rest
line_to text n line rest e within is left =
    let at : position_or_len (λ b. b == 10) text ≡ n = place (λ b. b == 10) text n e in
    let split = subst (λ (m : ℕ). slice_split (λ b. b == 10) text ≡ take m text ∷ slice_split (λ b. b == 10) (drop (m + 1) text)) at (slice_split_first (λ b. b == 10) text 0 (omega arith)) in
    cc (line_before (take n text) (drop (n + 1) text) text split, is, ap lines_of left)

-- a text that is left is shorter
pub fewer_left : {R : Type 0} (now : R → List ℕ) (left : Option R) (n : ℕ) → IfSome left (λ r. length (now r) < n) → bytes_left (option_map now left) ≤ n
fewer_left now None n short = omega arith
fewer_left now (Some r) n short = omega (arith, short)
