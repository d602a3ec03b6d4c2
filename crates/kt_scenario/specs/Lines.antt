-- The lines of a text and the words of a line.
use Rattle.std.specs.Prelude.{◌≡◌, ◌+◌, ◌==◌, ◌||◌, ℕ, Bool, true, false, List, [], ◌∷◌, ◌++◌, Option, Some, None, MatchBool, filter, length, not}
use Rattle.std.specs.List.{slice_split}
use Rattle.std.specs.Str.Lines.{strip_carriage_return}

-- a space or a tab
abbrev pub is_blank : ℕ → Bool
is_blank b = (b == 32) || (b == 9)

-- the words of a line: what stands between blanks
abbrev pub words_of : List ℕ → List (List ℕ)
words_of line = filter (λ word. not (length word == 0)) (slice_split is_blank line)

-- a line that does not begin with a blank
abbrev pub BeginsWord : List ℕ → Type 0
BeginsWord [] = Unit {0}
BeginsWord (b ∷ bs) = is_blank b ≡ false

-- the lines that the pieces between line feeds are: each but the last loses one carriage return at its end
abbrev pub lines_in : List (List ℕ) → List (List ℕ)
lines_in [] = []
lines_in (last ∷ []) = last ∷ []
lines_in (piece ∷ next ∷ more) = strip_carriage_return piece ∷ lines_in (next ∷ more)

-- the lines of a text
abbrev pub lines_of : List ℕ → List (List ℕ)
lines_of text = lines_in (slice_split (λ b. b == 10) text)

-- the lines that are left, where a text or none is left
abbrev pub lines_left : Option (List ℕ) → List (List ℕ)
lines_left None = []
lines_left (Some text) = lines_of text

-- whether a line says nothing: it has no words, or the first one begins with `#`
abbrev pub is_comment : List ℕ → Bool
is_comment [] = false
is_comment (first ∷ rest) = first == 35

abbrev pub is_silent : List (List ℕ) → Bool
is_silent [] = true
is_silent (word ∷ words) = is_comment word

module _ {S : Type 0} (Says : S → List (List ℕ) → S → Type 0) where
  -- what is known after a line, by what its words say
  abbrev pub SaysLine : S → List ℕ → S → Type 0
  SaysLine old line new = MatchBool (is_silent (words_of line)) (new ≡ old) (Says old (words_of line) new)

  -- what is known after some lines, one after another
  abbrev pub Reads : S → List (List ℕ) → S → Type 0
  Reads old [] new = new ≡ old
  Reads old (line ∷ lines) new = (next : S) × SaysLine old line next × Reads next lines new

-- a line says something, and this is wrong in its words
abbrev pub IsWrongLine : {S F : Type 0} → (S → List (List ℕ) → F → Type 0) → S → List ℕ → F → Type 0
IsWrongLine IsWrong old line fault = (is_silent (words_of line) ≡ false) × IsWrong old (words_of line) fault

-- the line of this number is the first that is wrong, and this is wrong in it
pub record IsFirstWrong {S F : Type 0} (Says : S → List (List ℕ) → S → Type 0) (IsWrong : S → List (List ℕ) → F → Type 0) (start : S) (lines : List (List ℕ)) (number : ℕ) (fault : F) : Type 0 where
  pub before : List (List ℕ)
  pub line : List ℕ
  pub after : List (List ℕ)
  pub known : S
  pub are : lines ≡ before ++ line ∷ after
  pub counted : number ≡ length before + 1
  pub read : Reads Says start before known
  pub wrong : IsWrongLine IsWrong known line fault
