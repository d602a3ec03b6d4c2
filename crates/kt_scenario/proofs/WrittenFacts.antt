-- A text of steps that was written is read back.
use Rattle.std.specs.Prelude.{◌==◌, ◌&&◌, ◌||◌, cond, filter, not, nat_le, nat_lt, Some, None, MatchBool, All, AllPairs, codes, position}
use Rattle.std.proofs.Common.{◌≡◌, ◌≢◌, ◌∙◌, ◌<◌, ◌≤◌, ◌+◌, ◌-◌, ◌*◌, ◌^◌, ℕ, zero, suc, List, [], ◌∷◌, ◌++◌, Bool, true, false, length, get_or, take, ap, refl, sym, subst, arith, append_assoc, append-nil, length-append}
use Rattle.std.specs.List.{flat_map, list_all, slice_split, onto_first, position_or_len}
use Rattle.std.specs.Str.{bytes_eq}
use Rattle.std.specs.Str.Lines.{strip_carriage_return}
use Rattle.std.specs.Char.{is_ascii_lowercase, is_ascii_digit}
use Rattle.std.proofs.lemmas.Bool.{and_parts, or_left}
use Rattle.std.proofs.lemmas.Bool.Decides.{nat_tests}
use Rattle.std.proofs.lemmas.List.Splits.{slice_split-cons_yes, slice_split-cons_no}
use Rattle.std.proofs.lemmas.List.Sums.{position_or_len_is}
use Rattle.std.proofs.lemmas.Slice.Eq.{bytes_eq-Decides}
use Rattle.kt_plan.specs.Names.{is_name, is_name_byte, number_in, AreNames}
use Rattle.kt_plan.specs.declared.steps.Step.{Step}
use Rattle.kt_plan.specs.declared.steps.Step.TheVariants.{Do, Take}
use Rattle.kt_plan.proofs.NameFacts.{bytes_eq-refl}
use Rattle.kt_scenario.specs.Lines.{is_blank, words_of, lines_of, is_silent, SaysLine, Reads}
use Rattle.kt_scenario.specs.Steps.{AreSteps, StepSays, StepsAfter, step_word_in, most_steps}
use Rattle.kt_scenario.specs.Written.{step_name, step_words, step_line, steps_text, IsStepOf}
use Rattle.kt_scenario.proofs.LineFacts.{line_before}

-- no byte of a text passes a test
abbrev Free : (ℕ → Bool) → List ℕ → Type 0
Free p [] = Unit {0}
Free p (b ∷ bs) = (p b ≡ false) × Free p bs

free_both : (p : ℕ → Bool) (xs ys : List ℕ) → Free p xs → Free p ys → Free p (xs ++ ys)
free_both p [] ys f g = g
free_both p (x ∷ xs) ys f g = (f.0, free_both p xs ys f.1 g)

free_at : (p : ℕ → Bool) (text : List ℕ) (i : ℕ) → p 0 ≡ false → Free p text → p (get_or text i 0) ≡ false
free_at p [] i none f = none
free_at p (b ∷ bs) zero none f = f.0
free_at p (b ∷ bs) (suc i) none f = free_at p bs i none f.1

-- a text is cut where a byte first passes
cut_at : (p : ℕ → Bool) (word : List ℕ) (b : ℕ) (rest : List ℕ) → Free p word → p b ≡ true → slice_split p (word ++ b ∷ rest) ≡ word ∷ slice_split p rest
cut_at p [] b rest f e = slice_split-cons_yes p b rest e
cut_at p (c ∷ word) b rest f e = slice_split-cons_no p c (word ++ b ∷ rest) f.0 ∙ ap (onto_first c) (cut_at p word b rest f.1 e)

uncut : (p : ℕ → Bool) (word : List ℕ) → Free p word → slice_split p word ≡ word ∷ []
uncut p [] f = refl
uncut p (c ∷ word) f = slice_split-cons_no p c word f.0 ∙ ap (onto_first c) (uncut p word f.1)

abbrev feed : ℕ → Bool
feed b = b == 10

abbrev return : ℕ → Bool
return b = b == 13

-- a line without a carriage return loses nothing
whole : (l : List ℕ) → Free return l → strip_carriage_return l ≡ l
whole [] f = refl
whole (b ∷ l) f = ap (λ (t : Bool). cond t (take (length (b ∷ l) - 1) (b ∷ l)) (b ∷ l)) (free_at return (b ∷ l) (length (b ∷ l) - 1) refl f)

first_line : (line rest : List ℕ) → Free feed line → Free return line → lines_of (line ++ 10 ∷ rest) ≡ line ∷ lines_of rest
first_line line rest f g = line_before line rest (line ++ 10 ∷ rest) (cut_at feed line 10 rest f refl) ∙ ap (λ (l : List ℕ). l ∷ lines_of rest) (whole line g)

-- a name has none of the bytes that end words and lines
record Parts (p : ℕ → Bool) : Type 0 where
  no_byte : (b : ℕ) → is_name_byte b ≡ true → p b ≡ false

at_blanks : Parts is_blank
at_blanks = record { no_byte = λ b e. let k : is_blank b ≡ false = grind (arith, nat_tests, e) in k }

at_feeds : Parts feed
at_feeds = record { no_byte = λ b e. let k : (b == 10) ≡ false = grind (arith, nat_tests, e) in k }

at_returns : Parts return
at_returns = record { no_byte = λ b e. let k : (b == 13) ≡ false = grind (arith, nat_tests, e) in k }

free_bytes : (p : ℕ → Bool) → Parts p → (word : List ℕ) → list_all is_name_byte word ≡ true → Free p word
free_bytes p h [] e = tt
free_bytes p h (b ∷ bs) e = let both = and_parts (is_name_byte b) (list_all is_name_byte bs) e in (h.no_byte b both.0, free_bytes p h bs both.1)

abbrev rest_of_name : ℕ → List ℕ → Bool
rest_of_name first rest = is_ascii_lowercase first && list_all is_name_byte rest

free_name : (p : ℕ → Bool) → Parts p → (name : List ℕ) → is_name name ≡ true → Free p name
free_name p h [] e = tt
free_name p h (b ∷ bs) e =
    let later = and_parts (is_ascii_lowercase b) (list_all is_name_byte bs) (and_parts (nat_le (length bs) 15) (rest_of_name b bs) e).1 in
    (h.no_byte b (or_left (is_ascii_lowercase b) _ later.0), free_bytes p h bs later.1)

some_bytes : (name : List ℕ) → is_name name ≡ true → 0 < length name
some_bytes [] e = cc e
some_bytes (b ∷ bs) e = omega arith

few_bytes : (name : List ℕ) → is_name name ≡ true → length name ≤ 16
few_bytes [] e = omega arith
few_bytes (b ∷ bs) e =
    let short = (and_parts (nat_le (length bs) 15) (rest_of_name b bs) e).0 in
    let few : length bs ≤ 15 = grind (arith, nat_tests, short) in
    omega (arith, few)

abbrev full : List ℕ → Bool
full word = not (length word == 0)

kept_word : (word : List ℕ) (words : List (List ℕ)) → 0 < length word → filter full (word ∷ words) ≡ word ∷ filter full words
kept_word word words some =
    let long : (length word == 0) ≡ false = grind (arith, nat_tests, some) in
    ap (λ (t : Bool). cond (not t) (word ∷ filter full words) (filter full words)) long

-- the words of a line that begins with a word, and of one that is a word
then_words : (word line : List ℕ) → 0 < length word → Free is_blank word → words_of (word ++ 32 ∷ line) ≡ word ∷ words_of line
then_words word line some free = ap (filter full) (cut_at is_blank word 32 line free refl) ∙ kept_word word (slice_split is_blank line) some

last_word : (word : List ℕ) → 0 < length word → Free is_blank word → words_of word ≡ word ∷ []
last_word word some free = ap (filter full) (uncut is_blank word free) ∙ kept_word word [] some

module _ (names : List (List ℕ)) (are : AreNames names) where
  proper : (p : ℕ) → p < length names → is_name (step_name names p) ≡ true
  proper p l = are.proper p (codes "-") l

  apart : {x y : List ℕ} (b : Bool) → (b ≡ true → y ≡ x) → (x ≢ y) → b ≡ false
  apart true same other = absurd (other (sym (same refl)))
  apart false same other = refl

  -- a name has its number
  pub number_is : (p : ℕ) → p < length names → number_in names (step_name names p) ≡ Some p
  number_is p l =
      let name = step_name names p in
      let at : position_or_len (bytes_eq name) names ≡ p = position_or_len_is (bytes_eq name) names p (codes "-") (omega (arith, l))
      (λ k b. apart (bytes_eq name (step_name names k)) (bytes_eq-Decides name (step_name names k)).0 (are.distinct k p (codes "-") b l))
      (λ _. bytes_eq-refl name) in
      let there : nat_lt p (length names) ≡ true = grind (arith, nat_tests, l) in
      rw (at, there) refl

  name_free : (q : ℕ → Bool) → Parts q → (p : ℕ) → p < length names → Free q (step_name names p)
  name_free q h p l = free_name q h (step_name names p) (proper p l)

  name_some : (p : ℕ) → p < length names → 0 < length (step_name names p)
  name_some p l = some_bytes (step_name names p) (proper p l)

  line_free : (q : ℕ → Bool) → Parts q → q 32 ≡ false → (x : Step) → IsStepOf (length names) x → Free q (step_words names x)
  line_free q h blank (Do p) l = (h.no_byte 100 refl, (h.no_byte 111 refl, (blank, name_free q h p l)))
  line_free q h blank (Take p r) l = (
    h.no_byte 116 refl,
    (
      h.no_byte 97 refl,
      (
        h.no_byte 107 refl,
        (
          h.no_byte 101 refl,
          (
            blank,
            free_both q (step_name names p) (32 ∷ step_name names r) (name_free q h p l.0) (blank, name_free q h r l.1),
          ),
        ),
      ),
    ),
  )

  do_words : (p : ℕ) → p < length names → words_of (step_words names (Do p)) ≡ codes "do" ∷ step_name names p ∷ []
  do_words p l =
      then_words (codes "do") (step_name names p) (omega arith) (refl, (refl, tt))
      ∙ ap (λ (ws : List (List ℕ)). codes "do" ∷ ws) (last_word (step_name names p) (name_some p l) (name_free is_blank at_blanks p l))

  take_words : (p q : ℕ) → p < length names → q < length names → words_of (step_words names (Take p q)) ≡ codes "take" ∷ step_name names p ∷ step_name names q ∷ []
  take_words p q l k =
      then_words (codes "take") (step_name names p ++ 32 ∷ step_name names q) (omega arith) (refl, (refl, (refl, (refl, tt))))
      ∙ (ap (λ (ws : List (List ℕ)). codes "take" ∷ ws) (then_words (step_name names p) (step_name names q) (name_some p l) (name_free is_blank at_blanks p l))
      ∙ ap (λ (ws : List (List ℕ)). codes "take" ∷ step_name names p ∷ ws) (last_word (step_name names q) (name_some q k) (name_free is_blank at_blanks q k)))

  -- what a line with these words says
  abbrev Line : List Step → Step → List (List ℕ) → Type 0
  Line old x ws = MatchBool (is_silent ws) ((old ++ x ∷ []) ≡ old) (StepSays names old ws (old ++ x ∷ []))

  line_says : (old : List Step) (x : Step) → IsStepOf (length names) x → length old < most_steps → SaysLine (StepSays names) old (step_words names x) (old ++ x ∷ [])
  line_says old (Do p) l room = subst (Line old (Do p)) (sym (do_words p l))
      (step_name names p, refl, record { process = p; known = number_is p l; adds = (room, refl) })
  line_says old (Take p q) l room = subst (Line old (Take p q)) (sym (take_words p q l.0 l.1))
      (step_name names p, step_name names q, refl, record { taker = p; sender = q; at_known = number_is p l.0; from_known = number_is q l.1; another = l.2; adds = (room, refl) })

  reads : (old steps : List Step) → All (IsStepOf (length names)) steps → length old + length steps ≤ most_steps → Reads (StepSays names) old (lines_of (steps_text names steps)) (old ++ steps)
  reads old [] all few = (old, refl, append-nil old)
  reads old (x ∷ steps) all few =
      let here : IsStepOf (length names) x = all 0 x (omega arith) in
      let room : length old < most_steps = omega (arith, few) in
      let more = length-append old (x ∷ []) in
      let text = ap lines_of (append_assoc (step_words names x) (10 ∷ []) (steps_text names steps))
      ∙ first_line (step_words names x) (steps_text names steps) (line_free feed at_feeds refl x here) (line_free return at_returns refl x here) in
      subst (λ (lines : List (List ℕ)). Reads (StepSays names) old lines (old ++ x ∷ steps)) (sym text) (
        old ++ x ∷ [],
        line_says old x here room,
        subst (λ (all_steps : List Step). Reads (StepSays names) (old ++ x ∷ []) (lines_of (steps_text names steps)) all_steps) (append_assoc old (x ∷ []) steps)
            (reads (old ++ x ∷ []) steps (λ k d l. all (suc k) d (omega (arith, l))) (omega (arith, few, more))),
      )

  name_few : (p : ℕ) → p < length names → length (step_name names p) ≤ 16
  name_few p l = few_bytes (step_name names p) (proper p l)

  line_few : (x : Step) → IsStepOf (length names) x → length (step_line names x) ≤ 64
  line_few (Do p) l =
      let name = name_few p l in
      let end = length-append (step_words names (Do p)) (10 ∷ []) in
      let words = length-append (codes "do") (32 ∷ step_name names p) in
      omega (arith, name, end, words)
  line_few (Take p q) l =
      let one = name_few p l.0 in
      let other = name_few q l.1 in
      let end = length-append (step_words names (Take p q)) (10 ∷ []) in
      let words = length-append (codes "take") (32 ∷ (step_name names p ++ 32 ∷ step_name names q)) in
      let both = length-append (step_name names p) (32 ∷ step_name names q) in
      omega (arith, one, other, end, words, both)

  text_few : (steps : List Step) → All (IsStepOf (length names)) steps → length (steps_text names steps) ≤ 64 * length steps
  text_few [] all = omega arith
  text_few (x ∷ steps) all =
      let line = line_few x (all 0 x (omega arith)) in
      let rest = text_few steps (λ k d l. all (suc k) d (omega (arith, l))) in
      let both = length-append (step_line names x) (steps_text names steps) in
      omega (arith, line, rest, both)

pub read_back : (names : List (List ℕ)) (list : List Step) → AreNames names → All (IsStepOf (length names)) list → length list ≤ most_steps → AreSteps names (steps_text names list) list
read_back names list are all few = record {
  few = (let text = text_few names are list all in omega (arith, text, few));
  read = reads names are [] list all (omega (arith, few));
}
