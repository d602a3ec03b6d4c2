-- What is said of labels and bodies of each log.
use Rattle.std.proofs.Common.{◌≡◌, ℕ, ℤ, zero, suc, ◌+◌, ◌<◌, List, [], ◌∷◌, ◌++◌, sym, ap, ◌∙◌, Some}
use Rattle.std.specs.Prelude.{take, slice_get}
use Rattle.std.proofs.lemmas.List.{take-append-le}
use Rattle.kt_spacetime.specs.declared.event.Event.{Event}
use Rattle.kt_spacetime.specs.declared.event.Event.TheVariants.{Sent}
use Rattle.kt_meaning.specs.Messages.{row_at}
use Rattle.kt_machine.specs.Labelling.{labelled_log, labelling}
use Rattle.kt_machine.specs.Messages.{sends_of, label_by_rows}
use Rattle.kt_machine.proofs.LabelledRows.{labelled_rows}

-- the row of a message that has a label
same_sent : (x : ℕ) (y : ℕ) (b : ℤ) (p q : ℕ) (d : ℤ) → Some (Sent x y b) ≡ Some (Sent p q d) → (x ≡ p) × (y ≡ q) × (b ≡ d)
same_sent x y b p q d e = (cc (e), cc (e), cc (e))

pub labels_of_rows : (first : ℕ) (log : List Event) (m p q : ℕ) (b : ℤ) → row_at log m ≡ Some (Sent p q b) → (0 < (labelling first log).label m) × ((labelling first log).label m ≡ label_by_rows first log p m) × ((labelling first log).body m ≡ b) × ((labelled_log first log).so_far.from m ≡ p)
labels_of_rows first log m p q b e =
    let r = labelled_rows first log in
    let a = r.forth m p q b e in
    let x = r.back m a in
    let s = same_sent ((labelled_log first log).so_far.from m) ((labelled_log first log).so_far.to m) ((labelling first log).body m) p q b (sym x.0 ∙ e) in
    (a, x.1 ∙ ap (λ (u : ℕ). first + sends_of u (take m log)) s.0, s.2, s.0)

row_more : (log more : List Event) (m : ℕ) (y : Event) → row_at log m ≡ Some y → row_at (log ++ more) m ≡ Some y
row_more log more zero y e = absurd (cc (e))
row_more log more (suc i) y e = go log i e
  where
    go : (l : List Event) (i : ℕ) → slice_get l i ≡ Some y → slice_get (l ++ more) i ≡ Some y
    go [] i e = absurd (cc (e))
    go (x ∷ l) zero e = e
    go (x ∷ l) (suc i) e = go l i e

-- a label stays as the log grows
pub labels_stay : (first : ℕ) (log more : List Event) (m p q : ℕ) (b : ℤ) → row_at log m ≡ Some (Sent p q b) → (labelling first (log ++ more)).label m ≡ (labelling first log).label m
labels_stay first log more m p q b e =
    let a = labels_of_rows first log m p q b e in
    let w = labels_of_rows first (log ++ more) m p q b (row_more log more m (Sent p q b) e) in
    let l = ((labelled_rows first log).back m a.0).2 in
    w.1 ∙ (ap (λ (x : List Event). first + sends_of p x) (take-append-le m log more l) ∙ sym a.1)

pub used_is : (first : ℕ) (log : List Event) (p : ℕ) → (labelling first log).used p ≡ first + sends_of p log
used_is first log p = (labelled_rows first log).used_is p
