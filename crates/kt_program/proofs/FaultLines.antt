-- The line of a fault, made and written.
use Rattle.std.proofs.Common.{◌≡◌, ◌∙◌, ℕ, List, [], ◌∷◌, ◌++◌, Option, None, Some, ap, subst}
use Rattle.std.specs.Fmt.{WritesInCalls, option_append}
use Rattle.std.specs.Prelude.{Result, Ok, Err, OnOk, OnErr, IfSome, codes}
use Rattle.std.proofs.lemmas.Fmt.{contents_after_writes}
use Rattle.kt_text.specs.Writing.{WritesFront}
use Rattle.kt_text.proofs.PieceFacts.{front_none}
use Rattle.kt_program.specs.Faults.{fault_line}
use Rattle.kt_program.specs.Stored.{BytesTold}

-- what is made of words that are told
pub line_made : {W : Type 0} (took : W → List ℕ → W → Type 0) (contents : W → List ℕ) → ((w : W) (bytes : List ℕ) (v : W) → took w bytes v → contents v ≡ contents w ++ bytes) → (w v : W) (words : Option (List ℕ)) → contents w ≡ []
    → IfSome (option_append (Some (codes "koo_toueg: ")) (option_append words (Some (10 ∷ [])))) (λ bytes. WritesInCalls took w bytes v) → IfSome words (λ text. contents v ≡ fault_line text)
line_made took contents appends w v None e h = tt
line_made took contents appends w v (Some text) e h = contents_after_writes took contents appends w _ v h ∙ ap (λ (l : List ℕ). l ++ fault_line text) e

-- what is so of the bytes is so of the line
of_bytes : (P : List ℕ → Type 0) (words : Option (List ℕ)) (bytes : List ℕ) → IfSome words (λ text. bytes ≡ fault_line text) → P bytes → IfSome words (λ text. P (fault_line text))
of_bytes P None bytes e p = tt
of_bytes P (Some text) bytes e p = subst P e p

pub line_written : {T E : Type 0} (r : Result T E) (P : List ℕ → Type 0) (words : Option (List ℕ)) (bytes : List ℕ) → IfSome words (λ text. bytes ≡ fault_line text) → OnOk r (P bytes) → OnOk r (IfSome words (λ text. P (fault_line text)))
line_written (Ok u) P words bytes e p = of_bytes P words bytes e p
line_written (Err fault) P words bytes e p = tt

pub line_stopped : {T E : Type 0} (r : Result T E) (P : List ℕ → Type 0) (words : Option (List ℕ)) (bytes : List ℕ) → IfSome words (λ text. bytes ≡ fault_line text) → OnErr r (P bytes) → OnErr r (IfSome words (λ text. P (fault_line text)))
line_stopped (Ok u) P words bytes e p = tt
line_stopped (Err fault) P words bytes e p = of_bytes P words bytes e p

pub line_unwritten : (a : BytesTold) (words : Option (List ℕ)) → IfSome words (λ text. WritesFront a a (fault_line text))
line_unwritten a None = tt
line_unwritten a (Some text) = front_none a (fault_line text)
