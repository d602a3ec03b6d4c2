use Rattle.std.proofs.Common.{◌≡◌, ℕ, suc, List, [], ◌∷◌, length, get_or, refl, sym, ap, arith}
use Rattle.std.specs.Prelude.{codes}
use Rattle.kt_scenario.specs.Said.{word_in}
use Rattle.kt_scenario.proofs.draft.word_in.Goals as goal

-- a word has these bytes from a place on
abbrev AreAt : List ℕ → ℕ → List ℕ → Type 0
AreAt word i [] = Unit {0}
AreAt word i (b ∷ bytes) = (get_or word i 0 ≡ b) × AreAt word (suc i) bytes

later : (x : ℕ) (word : List ℕ) (i : ℕ) (bytes : List ℕ) → AreAt (x ∷ word) (suc i) bytes → AreAt word i bytes
later x word i [] at = tt
later x word i (b ∷ bytes) at = (at.0, later x word (suc i) bytes at.1)

spelled : (word bytes : List ℕ) → length word ≡ length bytes → AreAt word 0 bytes → word ≡ bytes
spelled [] [] long at = refl
spelled [] (b ∷ bytes) long at = absurd (omega (arith, long))
spelled (x ∷ word) [] long at = absurd (omega (arith, long))
spelled (x ∷ word) (b ∷ bytes) long at =
    let first : x ≡ b = at.0 in
    let rest = spelled word bytes (omega (arith, long)) (later x word 0 bytes at.1) in
    λ j. first j ∷ rest j

pub returns-in-111 : goal.returns-in-111
returns-in-111 c =
    sym (ap word_in (spelled c.args.word.now (codes "object") (omega arith)
    (omega arith, (omega arith, (omega arith, (omega arith, (omega arith, (omega arith, tt))))))))

pub returns-in-115-2 : goal.returns-in-115-2
returns-in-115-2 c =
    sym (ap word_in (spelled c.args.word.now (codes "settle") (omega arith)
    (omega arith, (omega arith, (omega arith, (omega arith, (omega arith, (omega arith, tt))))))))

pub returns-in-114 : goal.returns-in-114
returns-in-114 c =
    sym (ap word_in (spelled c.args.word.now (codes "rollback") (omega arith)
    (omega arith, (omega arith, (omega arith, (omega arith, (omega arith, (omega arith, (omega arith, (omega arith, tt))))))))))

pub returns-in-99 : goal.returns-in-99
returns-in-99 c =
    sym (ap word_in (spelled c.args.word.now (codes "checkpoint") (omega arith)
    (omega arith, (omega arith, (omega arith, (omega arith, (omega arith, (omega arith, (omega arith, (omega arith, (omega arith, (omega arith, tt))))))))))))
