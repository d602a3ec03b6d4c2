-- The acts of some more rows of a legal log lead from what is due before them to what is due after them.
use Rattle.std.proofs.Common.{◌≡◌, ℕ, None, List, [], ◌∷◌, ◌++◌, refl, sym, ap, subst, ◌∙◌, append_assoc, append-nil}
use Rattle.std.specs.Prelude.{fold}
use Rattle.std.proofs.lemmas.Grind.{fold-append}
use Rattle.kt_spacetime.specs.declared.event.Event.{Event}
use Rattle.kt_meaning.specs.Past.{Past}
use Rattle.kt_meaning.specs.Legal.{IsLegal, broken_rule}
use Rattle.kt_meaning.proofs.LegalLogs.{legal_front, legal_last}
use Rattle.kt_machine.specs.Done.{Done, done, done_after}
use Rattle.kt_machine.specs.Values.{Rules, Due, Act, due, does, does_all, acts_at, acts_along}
use Rattle.kt_machine.proofs.DoneAlong.{done_more, done_past}
use Rattle.kt_machine.proofs.LegalFacts.{sound}
use Rattle.kt_machine.proofs.RowActs.{row_law}

pub does_more : {V : Type 0} (r : Rules V) (x : Due V) (a b : List Act) → does_all r x (a ++ b) ≡ does_all r (does_all r x a) b
does_more r x a b = fold-append (does r) x a b

pub along : {V : Type 0} (r : Rules V) (log rows : List Event) (u : ℕ) → IsLegal (log ++ rows) → does_all r (due r (done log) u) (acts_along u (done log) rows) ≡ due r (done (log ++ rows)) u
along r log [] u l = ap (λ (x : List Event). due r (done x) u) (sym (append-nil log))
along {V} r log (row ∷ rows) u l =
    let l' : IsLegal ((log ++ row ∷ []) ++ rows) = subst IsLegal (sym (append_assoc log (row ∷ []) rows)) l in
    let h = legal_last log row (legal_front (log ++ row ∷ []) rows l') in
    let e : broken_rule (done log).past row ≡ None = ap (λ (s : Past). broken_rule s row) (done_past log) ∙ h.1 in
    does_more r (due r (done log) u) (acts_at u (done log) row) (acts_along u (done_after (done log) row) rows)
    ∙ (ap (λ (x : Due V). does_all r x (acts_along u (done_after (done log) row) rows)) (row_law r (done log) (sound log h.0) row u e)
    ∙ (ap (λ (d : Done). does_all r (due r d u) (acts_along u d rows)) (sym (done_more log (row ∷ [])))
    ∙ (along r (log ++ row ∷ []) rows u l' ∙ ap (λ (x : List Event). due r (done x) u) (append_assoc log (row ∷ []) rows))))

-- acts of rows, and of one more
along_more : (u : ℕ) (d : Done) (rows more : List Event) → acts_along u d (rows ++ more) ≡ acts_along u d rows ++ acts_along u (fold done_after d rows) more
along_more u d [] more = refl
along_more u d (row ∷ rows) more = ap (λ (a : List Act). acts_at u d row ++ a) (along_more u (done_after d row) rows more) ∙ sym (append_assoc (acts_at u d row) (acts_along u (done_after d row) rows) (acts_along u (fold done_after (done_after d row) rows) more))

pub along_push : (u : ℕ) (log rows : List Event) (row : Event) → acts_along u (done log) (rows ++ row ∷ []) ≡ acts_along u (done log) rows ++ acts_at u (done (log ++ rows)) row
along_push u log rows row = along_more u (done log) rows (row ∷ []) ∙ (ap (λ (a : List Act). acts_along u (done log) rows ++ a) (append-nil (acts_at u (fold done_after (done log) rows) row)) ∙ ap (λ (d : Done). acts_along u (done log) rows ++ acts_at u d row) (sym (done_more log rows)))
