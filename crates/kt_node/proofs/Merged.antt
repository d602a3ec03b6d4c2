-- Rows that are sorted by clock and process are given by the parts of the processes.
use Rattle.std.proofs.Common.{◌≡◌, ◌∙◌, ℕ, Bool, true, false, List, [], ◌∷◌, map, refl, sym, ap, subst, arith, inl, inr}
use Rattle.std.specs.Prelude.{◌==◌, if◌then◌else◌}
use Rattle.std.proofs.lemmas.Bool.Decides.{nat_tests}
use Rattle.kt_protocol.proofs.Updates.{is_same}
use Rattle.kt_protocol.specs.States.{ProtocolStep}
use Rattle.kt_spacetime.specs.declared.named_rows.ClockedRow.{ClockedRow}
use Rattle.kt_spacetime.specs.ClockedRows.{rows_of}
use Rattle.kt_node.specs.Clocks.{clocked_run, opening_clocked_from, AreByClock}
use Rattle.kt_node.specs.Nets.{net_run, opening_from}
use Rattle.kt_node.proofs.Sorting.{NotBefore, not_before_refl, not_before_then, sorted_run}
use Rattle.kt_node.proofs.Unclocked.{rows_unclocked}

equal : (a b : ℕ) → (a == b) ≡ true → a ≡ b
equal a b e = grind (arith, nat_tests)

-- a row stands first in its process's part
head_part : (r : ClockedRow) (rows : List ClockedRow) → rows_of r.row.p (r ∷ rows) ≡ r ∷ rows_of r.row.p rows
head_part r rows = ap (λ (b : Bool). if b then r ∷ rows_of r.row.p rows else rows_of r.row.p rows) (is_same r.row.p)

first_is : (r s : ClockedRow) (a b : List ClockedRow) → r ∷ a ≡ s ∷ b → r ≡ s
first_is r s a b e = cc

rest_is : (r s : ClockedRow) (a b : List ClockedRow) → r ∷ a ≡ s ∷ b → a ≡ b
rest_is r s a b e = cc

-- no part begins before the whole
at_least : (k p : ℕ) (rows : List ClockedRow) → AreByClock k p rows → (q : ℕ) (r : ClockedRow) (rest : List ClockedRow) → rows_of q rows ≡ r ∷ rest → NotBefore k p r.clock q
at_least k p [] a q r rest e = absurd (cc)
at_least k p (x ∷ xs) a q r rest e = at_test (x.row.p == q) refl (λ f. not_before_then k p x.clock x.row.p r.clock q a.0 (at_least x.clock x.row.p xs a.1 q r rest f))
  where
    at_test : (b : Bool) → (x.row.p == q) ≡ b → (rows_of q xs ≡ r ∷ rest → NotBefore k p r.clock q) → NotBefore k p r.clock q
    at_test true t later =
        let same : x ≡ r = first_is x r (rows_of q xs) rest (sym (ap (λ (b : Bool). if b then x ∷ rows_of q xs else rows_of q xs) t) ∙ e) in
        subst (λ (y : ClockedRow). NotBefore k p y.clock q) same (subst (λ (n : ℕ). NotBefore k p x.clock n) (equal x.row.p q t) a.0)
    at_test false t later = later (sym (ap (λ (b : Bool). if b then x ∷ rows_of q xs else rows_of q xs) t) ∙ e)

both_ways : (a p b q : ℕ) → NotBefore a p b q → NotBefore b q a p → p ≡ q
both_ways a p b q f g = elim f [
  | inl l ↦ elim g [ inl m ↦ absurd (omega (arith, l, m)) | inr m ↦ absurd (omega (arith, l, m.0)) ]
  | inr l ↦ elim g [ inl m ↦ absurd (omega (arith, l.0, m)) | inr m ↦ omega (arith, l.1, m.1) ]
]

pub one_order : (a b : List ClockedRow) (k p : ℕ) → AreByClock k p a → AreByClock k p b → ((q : ℕ) → rows_of q a ≡ rows_of q b) → a ≡ b
one_order [] [] k p f g e = refl
one_order [] (s ∷ b) k p f g e = let h : [] ≡ s ∷ rows_of s.row.p b = e s.row.p ∙ head_part s b in absurd (cc)
one_order (r ∷ a) [] k p f g e = let h : [] ≡ r ∷ rows_of r.row.p a = sym (e r.row.p) ∙ head_part r a in absurd (cc)
one_order (r ∷ a) (s ∷ b) k p f g e =
    subst (λ (y : ClockedRow). r ∷ a ≡ y ∷ b) same (ap (λ (l : List ClockedRow). r ∷ l) (one_order a b r.clock r.row.p f.1 (subst (λ (y : ClockedRow). AreByClock y.clock y.row.p b) (sym same) g.1) (λ q. rest q (r.row.p == q) refl)))
  where
    -- each comes no later than the other
    s_first : NotBefore s.clock s.row.p r.clock r.row.p
    s_first = at_least s.clock s.row.p (s ∷ b) (not_before_refl s.clock s.row.p, g.1) r.row.p r (rows_of r.row.p a) (sym (e r.row.p) ∙ head_part r a)

    r_first : NotBefore r.clock r.row.p s.clock s.row.p
    r_first = at_least r.clock r.row.p (r ∷ a) (not_before_refl r.clock r.row.p, f.1) s.row.p s (rows_of s.row.p b) (e s.row.p ∙ head_part s b)

    process : s.row.p ≡ r.row.p
    process = both_ways s.clock s.row.p r.clock r.row.p s_first r_first

    same : r ≡ s
    same = first_is r s (rows_of r.row.p a) (rows_of s.row.p b) (sym (head_part r a) ∙ (e r.row.p ∙ (ap (λ (q : ℕ). rows_of q (s ∷ b)) (sym process) ∙ head_part s b)))

    rest : (q : ℕ) (t : Bool) → (r.row.p == q) ≡ t → rows_of q a ≡ rows_of q b
    rest q true h = rest_is r r (rows_of q a) (rows_of q b) (sym (ap (λ (x : Bool). if x then r ∷ rows_of q a else rows_of q a) h) ∙ (e q ∙ (ap (λ (y : ClockedRow). rows_of q (y ∷ b)) (sym same) ∙ ap (λ (x : Bool). if x then r ∷ rows_of q b else rows_of q b) h)))
    rest q false h = sym (ap (λ (x : Bool). if x then r ∷ rows_of q a else rows_of q a) h) ∙ (e q ∙ (ap (λ (y : ClockedRow). rows_of q (y ∷ b)) (sym same) ∙ ap (λ (x : Bool). if x then r ∷ rows_of q b else rows_of q b) h))

-- whatever is sorted and has the parts of a run is the rows of a run
pub merged : (n : ℕ) (first : ℕ → ℕ) (steps : List ProtocolStep) (rows : List ClockedRow) → AreByClock 0 0 rows → ((p : ℕ) → rows_of p rows ≡ rows_of p (clocked_run (opening_clocked_from n first) steps).rows)
    → (ys : List ProtocolStep) × (rows ≡ (clocked_run (opening_clocked_from n first) ys).rows)
merged n first steps rows a e =
    let s = sorted_run n first steps in
    (s.0, one_order rows (clocked_run (opening_clocked_from n first) s.0).rows 0 0 a s.1 (λ p. e p ∙ sym (s.2 p)))

pub merged_rows : (n : ℕ) (first : ℕ → ℕ) (ys : List ProtocolStep) (rows : List ClockedRow) → rows ≡ (clocked_run (opening_clocked_from n first) ys).rows → map (λ (r : ClockedRow). r.row) rows ≡ (net_run (opening_from n first) ys).rows
merged_rows n first ys rows e = ap (λ (l : List ClockedRow). map (λ (r : ClockedRow). r.row) l) e ∙ rows_unclocked n first ys
