-- What is held of a part, of which some rows were taken.
use Rattle.std.proofs.Common.{◌≡◌, ◌≢◌, ◌∙◌, ◌<◌, ◌≤◌, ◌⊎◌, ℕ, Option, Some, None, Ok, List, [], ◌∷◌, ◌++◌, IfSome, length-append, map, refl, sym, ap, subst, arith, inl, inr, append_assoc}
use Rattle.std.specs.Prelude.{All, ◌==◌}
use Rattle.std.proofs.lemmas.List.{map-append, append-nil, append_cancel_left}
use Rattle.std.proofs.lemmas.List.Elements.{filter-append}
use Rattle.kt_text.proofs.FieldFacts.{first_and_rest}
use Rattle.kt_spacetime.specs.declared.named_rows.ClockedRow.{ClockedRow}
use Rattle.kt_spacetime.specs.ClockedRows.{rows_of}
use Rattle.kt_merge.specs.Spelling.{part_spelling}
use Rattle.kt_merge.specs.Texts.{IsSpellable, IsPartFrom, clock_after, IsPartText, BeginsPart, SaysRow}
use Rattle.kt_merge.specs.Reading.{PartRead, StepsPart}
use Rattle.kt_merge.proofs.SpellingFacts.{one_row}
use Rattle.kt_merge.proofs.GatherFacts.{GathersPart, BeginsKnown, gathers_more, gathered_all}
use Rattle.kt_merge.specs.Heads.{IsNotLater}
use Rattle.kt_merge.specs.Merging.{Records, SaysNext, GoesOn}
use Rattle.kt_merge.proofs.OneMerge.{of_it, of_other}

-- a process's rows, with one more of it, and with one of another process
pub more_of : (p : ℕ) (rows : List ClockedRow) (row : ClockedRow) → row.row.p ≡ p → rows_of p (rows ++ row ∷ []) ≡ rows_of p rows ++ row ∷ []
more_of p rows row e = filter-append (λ (r : ClockedRow). r.row.p == p) rows (row ∷ []) ∙ ap (λ (l : List ClockedRow). rows_of p rows ++ l) (of_it p row [] e)

pub same_of : (p : ℕ) (rows : List ClockedRow) (row : ClockedRow) → row.row.p ≢ p → rows_of p (rows ++ row ∷ []) ≡ rows_of p rows
same_of p rows row n = filter-append (λ (r : ClockedRow). r.row.p == p) rows (row ∷ []) ∙ (ap (λ (l : List ClockedRow). rows_of p rows ++ l) (of_other p row [] n) ∙ append-nil (rows_of p rows))

-- the order of rows
pub not_later : (a b c : ClockedRow) → IsNotLater a b → IsNotLater b c → IsNotLater a c
not_later a b c (inl x) (inl y) = inl (omega (arith, x, y))
not_later a b c (inl x) (inr y) = inl (omega (arith, x, y.0))
not_later a b c (inr x) (inl y) = inl (omega (arith, x.0, y))
not_later a b c (inr x) (inr y) = inr (omega (arith, x.0, y.0), omega (arith, x.1, y.1))

-- a row of the first of two processes, or of an earlier clock
pub before_by : (row next : ClockedRow) (p q : ℕ) → row.row.p ≡ p → next.row.p ≡ q → (row.clock < next.clock) ⊎ ((row.clock ≡ next.clock) × (p ≤ q)) → IsNotLater row next
before_by row next p q e f (inl l) = inl l
before_by row next p q e f (inr s) = inr (s.0, omega (arith, s.1, e, f))

-- of the rows of a part the last one, and those before it
last_of : (p clock : ℕ) (mine : List ClockedRow) (row : ClockedRow) → IsPartFrom p clock (mine ++ row ∷ []) → IsSpellable row × (clock_after clock mine ≤ row.clock) × (row.row.p ≡ p)
last_of p clock [] row part = (part.0, part.1, part.2)
last_of p clock (x ∷ mine) row part = last_of p x.clock mine row part.3

front_of : (p clock : ℕ) (mine : List ClockedRow) (row : ClockedRow) → IsPartFrom p clock (mine ++ row ∷ []) → IsPartFrom p clock mine
front_of p clock [] row part = tt
front_of p clock (x ∷ mine) row part = (part.0, part.1, part.2, front_of p x.clock mine row part.3)

spelled_last : (mine : List ClockedRow) (row : ClockedRow) (rest : Records) → map part_spelling (mine ++ row ∷ []) ++ rest ≡ map part_spelling mine ++ (part_spelling row ∷ rest)
spelled_last mine row rest = ap (λ (x : Records). x ++ rest) (map-append part_spelling mine (row ∷ [])) ∙ append_assoc (map part_spelling mine) (part_spelling row ∷ []) rest

-- what a text begins with, without its last row
begins_without : (p : ℕ) (text rest : Records) (mine : List ClockedRow) (row : ClockedRow) → BeginsPart p text (mine ++ row ∷ []) rest → BeginsPart p text mine (part_spelling row ∷ rest)
begins_without p text rest mine row b = record {
  spelled = b.spelled ∙ spelled_last mine row rest;
  part = front_of p 0 mine row b.part;
  few = omega (arith, b.few, length-append mine (row ∷ []));
}

-- what is left after some rows is one
pub one_left : (p : ℕ) (text left more : Records) (mine : List ClockedRow) → BeginsPart p text mine left → BeginsPart p text mine more → left ≡ more
one_left p text left more mine b c = append_cancel_left (map part_spelling mine) left more (sym b.spelled ∙ c.spelled)

-- of a part these rows were taken; its next row is held, or none is left
abbrev pub HoldsHead : ℕ → Option Records → PartRead → List ClockedRow → Option ClockedRow → Type 0
HoldsHead p source at mine (Some row) = GathersPart p source at (mine ++ row ∷ []) × (row.row.p ≡ p)
HoldsHead p source at mine None = IfSome source (λ text. IsPartText p text mine)

-- one call of a reader gives what is held
pub head_held : (p : ℕ) (source : Option Records) (old new : PartRead) (mine : List ClockedRow) (head : Option ClockedRow) → GathersPart p source old mine → StepsPart old new (Ok head) → HoldsHead p source new mine head
head_held p source old new mine (Some row) g s = (gathers_more p source old new mine row g s, s.own ∙ g.process)
head_held p source old new mine None g s = gathered_all p source old new mine g s

-- what is left of a part whose head is this
abbrev pub LeftBy : ℕ → List ClockedRow → Records → Option ClockedRow → Type 0
LeftBy p rows left None = left ≡ []
LeftBy p rows left (Some row) = SaysNext p rows left row

says_next : (p : ℕ) (rows : List ClockedRow) (text left : Records) (known : Option Records) (row : ClockedRow) → BeginsKnown p (Some text) (rows_of p rows ++ row ∷ []) known → BeginsPart p text (rows_of p rows) left
    → SaysNext p rows left row
says_next p rows text left None row k b = absurd k
says_next p rows text left (Some rest) row k b =
    let last = last_of p 0 (rows_of p rows) row k.part in
    let is : left ≡ part_spelling row ∷ rest = one_left p text left (part_spelling row ∷ rest) (rows_of p rows) b (begins_without p text rest (rows_of p rows) row k) in
    (record { rest = rest; is = is; spellable = last.0 }, last.1, last.2)

pub left_by : (p : ℕ) (rows : List ClockedRow) (text left : Records) (at : PartRead) (head : Option ClockedRow) → HoldsHead p (Some text) at (rows_of p rows) head → BeginsPart p text (rows_of p rows) left → LeftBy p rows left head
left_by p rows text left at None h b = append_cancel_left (map part_spelling (rows_of p rows)) left [] (sym b.spelled ∙ (h.spelled ∙ sym (append-nil (map part_spelling (rows_of p rows)))))
left_by p rows text left at (Some row) h b = says_next p rows text left at.left row h.0.begins b

-- so it goes on
pub goes_on : (p : ℕ) (rows : List ClockedRow) (left : Records) (head : Option ClockedRow) → LeftBy p rows left head → GoesOn p rows left
goes_on p rows left None l = inl l
goes_on p rows left (Some row) l = inr (row, l)

begins_known : (p : ℕ) (mine : List ClockedRow) (text : Records) (known : Option Records) (row : ClockedRow) → BeginsKnown p (Some text) (mine ++ row ∷ []) known → (left : Records) × BeginsPart p text mine left
begins_known p mine text None row k = absurd k
begins_known p mine text (Some rest) row k = (part_spelling row ∷ rest, begins_without p text rest mine row k)

pub begins_by : (p : ℕ) (mine : List ClockedRow) (text : Records) (at : PartRead) (head : Option ClockedRow) → HoldsHead p (Some text) at mine head → (left : Records) × BeginsPart p text mine left
begins_by p mine text at None h = ([], record { spelled = h.spelled ∙ sym (append-nil (map part_spelling mine)); part = h.part; few = h.few })
begins_by p mine text at (Some row) h = begins_known p mine text at.left row h.0.begins

-- the first record says one row
one_next : (left : Records) (row next : ClockedRow) → SaysRow left row → SaysRow left next → row ≡ next
one_next left row next s t = one_row row next s.spellable t.spellable (first_and_rest (part_spelling row) (part_spelling next) s.rest t.rest (sym s.is ∙ t.is)).0

-- rows before the head are before what is left
pub before_left : (p : ℕ) (rows : List ClockedRow) (left : Records) (head : Option ClockedRow) (next : ClockedRow) → LeftBy p rows left head → ((h : ClockedRow) → head ≡ Some h → All (λ r. IsNotLater r h) rows)
    → SaysNext p rows left next → All (λ r. IsNotLater r next) rows
before_left p rows left None next l before says = let none : [] ≡ part_spelling next ∷ says.0.rest = sym l ∙ says.0.is in cc none
before_left p rows left (Some row) next l before says = subst (λ (h : ClockedRow). All (λ r. IsNotLater r h) rows) (one_next left row next l.0 says.0) (before row refl)
