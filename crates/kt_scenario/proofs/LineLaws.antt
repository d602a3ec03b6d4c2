-- Lines have one meaning, where the words of a line have one.
use Rattle.std.proofs.Common.{◌≡◌, ◌∙◌, ℕ, suc, List, [], ◌∷◌, ◌++◌, Bool, true, false, length, ap, refl, sym, subst, arith}
use Rattle.std.specs.Prelude.{MatchBool}
use Rattle.kt_scenario.specs.Lines.{words_of, is_silent, SaysLine, Reads, IsWrongLine, IsFirstWrong}

-- the words of a line have one meaning, or one thing is first wrong in them
pub record AreClear {S F : Type 0} (Says : S → List (List ℕ) → S → Type 0) (IsWrong : S → List (List ℕ) → F → Type 0) : Type 0 where
  pub single : (known : S) (words : List (List ℕ)) (new other : S) → Says known words new → Says known words other → new ≡ other
  pub apart : (known : S) (words : List (List ℕ)) (new : S) (fault : F) → Says known words new → IsWrong known words fault → ⊥
  pub first : (known : S) (words : List (List ℕ)) (fault other : F) → IsWrong known words fault → IsWrong known words other → fault ≡ other

module _ {S F : Type 0} (Says : S → List (List ℕ) → S → Type 0) (IsWrong : S → List (List ℕ) → F → Type 0) (clear : AreClear Says IsWrong) where
  by_words : (silent : Bool) (known : S) (words : List (List ℕ)) (new other : S) → MatchBool silent (new ≡ known) (Says known words new) → MatchBool silent (other ≡ known) (Says known words other) → new ≡ other
  by_words true known words new other a b = a ∙ sym b
  by_words false known words new other a b = clear.single known words new other a b

  one_line : (known : S) (line : List ℕ) (new other : S) → SaysLine Says known line new → SaysLine Says known line other → new ≡ other
  one_line known line new other a b = by_words (is_silent (words_of line)) known (words_of line) new other a b

  by_silence : (silent : Bool) (known : S) (words : List (List ℕ)) (new : S) (fault : F) → silent ≡ false → MatchBool silent (new ≡ known) (Says known words new) → IsWrong known words fault → ⊥
  by_silence true known words new fault e a b = cc e
  by_silence false known words new fault e a b = clear.apart known words new fault a b

  no_line : (known : S) (line : List ℕ) (new : S) (fault : F) → SaysLine Says known line new → IsWrongLine IsWrong known line fault → ⊥
  no_line known line new fault a b = by_silence (is_silent (words_of line)) known (words_of line) new fault b.0 a b.1

  -- lines lead to one end
  pub one_reading : (lines : List (List ℕ)) (start new other : S) → Reads Says start lines new → Reads Says start lines other → new ≡ other
  one_reading [] start new other a b = a ∙ sym b
  one_reading (line ∷ lines) start new other a b =
      one_reading lines a.0 new other a.2 (subst (λ (s : S). Reads Says s lines other) (one_line start line b.0 a.0 b.1 a.1) b.2)

  -- lines of which one is wrong lead nowhere
  stopped : (before : List (List ℕ)) (line : List ℕ) (after : List (List ℕ)) (start known new : S) (fault : F)
      → Reads Says start before known → IsWrongLine IsWrong known line fault → Reads Says start (before ++ line ∷ after) new → ⊥
  stopped [] line after start known new fault a wrong b = no_line start line b.0 fault b.1 (subst (λ (s : S). IsWrongLine IsWrong s line fault) a wrong)
  stopped (first ∷ before) line after start known new fault a wrong b =
      stopped before line after b.0 known new fault (subst (λ (s : S). Reads Says s before known) (one_line start first a.0 b.0 a.1 b.1) a.2) wrong b.2

  pub no_reading : (lines : List (List ℕ)) (start new : S) (number : ℕ) (fault : F) → IsFirstWrong Says IsWrong start lines number fault → Reads Says start lines new → ⊥
  no_reading lines start new number fault w read =
      stopped w.before w.line w.after start w.known new fault w.read w.wrong (subst (λ (xs : List (List ℕ)). Reads Says start xs new) w.are read)

  -- two first wrong lines are the same, and so is what is wrong in them
  meet : (before : List (List ℕ)) (line : List ℕ) (after : List (List ℕ)) (sooner : List (List ℕ)) (there : List ℕ) (later : List (List ℕ)) (start known found : S) (fault other : F)
      → before ++ line ∷ after ≡ sooner ++ there ∷ later → Reads Says start before known → Reads Says start sooner found → IsWrongLine IsWrong known line fault → IsWrongLine IsWrong found there other
      → (length before ≡ length sooner) × (fault ≡ other)
  meet [] line after [] there later start known found fault other e a b wrong bad =
      let same : there ≡ line = cc e in
      let moved = subst (λ (s : S). IsWrong s (words_of there) other) (b ∙ sym a) bad.1 in
      (refl, clear.first known (words_of line) fault other wrong.1 (subst (λ (l : List ℕ). IsWrong known (words_of l) other) same moved))
  meet [] line after (first ∷ sooner) there later start known found fault other e a b wrong bad =
      let same : first ≡ line = cc e in
      absurd (no_line start line b.0 fault (subst (λ (l : List ℕ). SaysLine Says start l b.0) same b.1) (subst (λ (s : S). IsWrongLine IsWrong s line fault) a wrong))
  meet (first ∷ before) line after [] there later start known found fault other e a b wrong bad =
      let same : first ≡ there = cc e in
      absurd (no_line start there a.0 other (subst (λ (l : List ℕ). SaysLine Says start l a.0) same a.1) (subst (λ (s : S). IsWrongLine IsWrong s there other) b bad))
  meet (first ∷ before) line after (second ∷ sooner) there later start known found fault other e a b wrong bad =
      let same : second ≡ first = cc e in
      let rest : before ++ line ∷ after ≡ sooner ++ there ∷ later = cc e in
      let next : b.0 ≡ a.0 = one_line start first b.0 a.0 (subst (λ (l : List ℕ). SaysLine Says start l b.0) same b.1) a.1 in
      let found_there = meet before line after sooner there later a.0 known found fault other rest a.2 (subst (λ (s : S). Reads Says s sooner found) next b.2) wrong bad in
      (ap (λ (n : ℕ). suc n) found_there.0, found_there.1)

  pub one_wrong : (lines : List (List ℕ)) (start : S) (number count : ℕ) (fault other : F) → IsFirstWrong Says IsWrong start lines number fault → IsFirstWrong Says IsWrong start lines count other → (number ≡ count) × (fault ≡ other)
  one_wrong lines start number count fault other a b =
      let m = meet a.before a.line a.after b.before b.line b.after start a.known b.known fault other (sym a.are ∙ b.are) a.read b.read a.wrong b.wrong in
      (omega (arith, m.0, a.counted, b.counted), m.1)
