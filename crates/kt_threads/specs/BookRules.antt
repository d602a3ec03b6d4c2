-- The rule of the book, and what its steps tell.
use Rattle.std.specs.Prelude.{ℕ, ◌≡◌, ◌==◌, true, List, [], ◌∷◌, ◌++◌, length, MatchBool}
use Rattle.logbook.specs.Pages.{Cell, Step, View, Book, Named}
use Rattle.kt_threads.specs.declared.asked.Entry.{Entry}

-- the first word is the length of the history. A book has two words, of which this one leaves the second at 0
pub record IsKept (cells : List Cell) (log : List Entry) : Type 0 where
  pub words : cells ≡ (length log, true) ∷ (0, true) ∷ []

-- a book, and what stands in it
pub record Opening : Type 0 where
  pub book : Book
  pub entries : List Entry

-- the name of the word that counts a book's entries
abbrev pub head_of : Book → Named
head_of b = record { tracked = true; key = 0; book = b }

-- the entry was added to all that had been seen; or the history was longer, and was seen
abbrev pub Adds : Step Entry → View Entry ℕ → ℕ → View Entry ℕ → Type 0
Adds s v found w = MatchBool (found == s.old) (w.0 ≡ v.0 ++ s.ask ∷ []) (length w.0 ≡ found)
