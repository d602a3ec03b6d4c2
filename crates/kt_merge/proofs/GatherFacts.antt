-- What the rows gathered so far say of a part's text.
use Rattle.std.proofs.Common.{◌≡◌, ◌∙◌, ◌≤◌, ◌<◌, ℕ, List, [], ◌∷◌, ◌++◌, Option, Some, None, Ok, IfSome, refl, sym, ap, subst, arith, length, map, length-append, append_assoc, false}
use Rattle.std.proofs.lemmas.List.{map-append, append-nil}
use Rattle.kt_text.specs.Records.{text_records}
use Rattle.kt_text.specs.Records.{FieldsTaken}
use Rattle.kt_text.proofs.FieldFacts.{Records}
use Rattle.kt_merge.specs.declared.part_fault.PartFault.{PartFault}
use Rattle.kt_merge.specs.declared.part_fault.PartFault.TheVariants.{Memory}
use Rattle.kt_spacetime.specs.declared.named_rows.ClockedRow.{ClockedRow}
use Rattle.kt_merge.specs.Spelling.{part_spelling}
use Rattle.kt_merge.specs.Texts.{part_width, max_records, IsSpellable, IsPartFrom, clock_after, IsPartText, IsPartFaultFrom, BeginsPart, IsFirstPartFault}
use Rattle.kt_merge.specs.Reading.{PartRead, IsPartUnread, part_records, part_unread, GivesPartRow, MeetsPartEnd, MeetsPartFault, StepsPart}

abbrev Known : Type 0
Known = Option Records

-- the clock after one more row
pub clock_push : (clock : ℕ) (rows : List ClockedRow) (row : ClockedRow) → clock_after clock (rows ++ row ∷ []) ≡ row.clock
clock_push clock [] row = refl
clock_push clock (x ∷ rows) row = clock_push x.clock rows row

-- one more row of a process
pub part_push : (p clock : ℕ) (rows : List ClockedRow) (row : ClockedRow) → IsPartFrom p clock rows → IsSpellable row → clock_after clock rows ≤ row.clock → row.row.p ≡ p → IsPartFrom p clock (rows ++ row ∷ [])
part_push p clock [] row part s l own = (s, l, own, tt)
part_push p clock (x ∷ rows) row part s l own = (part.0, part.1, part.2, part_push p x.clock rows row part.3 s l own)

-- the spellings of the rows with one more
spelled_more : (rows : List ClockedRow) (row : ClockedRow) (rest : Records) → map part_spelling rows ++ (part_spelling row ∷ rest) ≡ map part_spelling (rows ++ row ∷ []) ++ rest
spelled_more rows row rest = rw (map-append part_spelling rows (row ∷ []), append_assoc (map part_spelling rows) (part_spelling row ∷ []) rest) refl

-- what a reader has gathered of a text, where it is known
abbrev pub BeginsKnown : ℕ → Known → List ClockedRow → Known → Type 0
BeginsKnown p None rows left = Unit {0}
BeginsKnown p (Some text) rows None = ⊥
BeginsKnown p (Some text) rows (Some left) = BeginsPart p text rows left

-- what is known while rows are gathered
pub record GathersPart (p : ℕ) (source : Known) (part : PartRead) (rows : List ClockedRow) : Type 0 where
  pub begins : BeginsKnown p source rows part.left
  pub process : part.process ≡ p
  pub count : part.count ≡ length rows
  pub clock : part.clock ≡ clock_after 0 rows
  pub few : part.count ≤ max_records
  pub going : (part.fault ≡ None) × (part.ended ≡ false)

begins_more : (p : ℕ) (source left rest : Known) (rows : List ClockedRow) (row : ClockedRow) → BeginsKnown p source rows left → FieldsTaken left rest (part_spelling row)
    → IsSpellable row → clock_after 0 rows ≤ row.clock → row.row.p ≡ p → length rows < max_records → BeginsKnown p source (rows ++ row ∷ []) rest
begins_more p None left rest rows row b t s l own few = tt
begins_more p (Some text) None rest rows row b t s l own few = absurd b
begins_more p (Some text) (Some left) None rows row b t s l own few = absurd t
begins_more p (Some text) (Some left) (Some rest) rows row b t s l own few = record {
  spelled = b.spelled ∙ (ap (λ (x : Records). map part_spelling rows ++ x) t ∙ spelled_more rows row rest);
  part = part_push p 0 rows row b.part s l own;
  few = omega (arith, length-append rows (row ∷ []), few);
}

pub gathers_more : (p : ℕ) (source : Known) (old new : PartRead) (rows : List ClockedRow) (row : ClockedRow) → GathersPart p source old rows → GivesPartRow old new row → GathersPart p source new (rows ++ row ∷ [])
gathers_more p source old new rows row g s = record {
  begins = begins_more p source old.left new.left rows row g.begins s.takes s.spellable (subst (λ (c : ℕ). c ≤ row.clock) g.clock s.rises) (s.own ∙ g.process) (omega (arith, g.count, s.few));
  process = s.process ∙ g.process;
  count = omega (arith, s.counted, g.count, length-append rows (row ∷ []));
  clock = s.clock ∙ sym (clock_push 0 rows row);
  few = omega (arith, s.counted, s.few);
  going = (s.going.2, s.going.3);
}

-- before the first row
pub gathers_none : (p : ℕ) (source : Option (List ℕ)) → GathersPart p (part_records source) (part_unread p source) []
gathers_none p source = record { begins = unread source; process = refl; count = refl; clock = refl; few = omega arith; going = (refl, refl) }
  where
    unread : (o : Option (List ℕ)) → BeginsKnown p (part_records o) [] (part_records o)
    unread None = tt
    unread (Some bytes) = record { spelled = refl; part = tt; few = omega arith }

-- the same of any part of which no record was read
pub gathers_unread : (part : PartRead) → IsPartUnread part → GathersPart part.process part.left part []
gathers_unread part u = subst (λ (x : PartRead). GathersPart x.process x.left x []) (sym u.1) (gathers_none part.process u.0)

all_said : (p : ℕ) (source left : Known) (rows : List ClockedRow) → BeginsKnown p source rows left → IfSome left (λ l. l ≡ []) → IfSome source (λ text. IsPartText p text rows)
all_said p None left rows b e = tt
all_said p (Some text) None rows b e = absurd b
all_said p (Some text) (Some left) rows b e = record {
  spelled = b.spelled ∙ (ap (λ (x : Records). map part_spelling rows ++ x) e ∙ append-nil (map part_spelling rows));
  part = b.part;
  few = b.few;
}

first_fault : (p : ℕ) (source left : Known) (rows : List ClockedRow) (fault : PartFault) → BeginsKnown p source rows left → IfSome left (λ l. IsPartFaultFrom p (length rows) (clock_after 0 rows) l fault)
    → IfSome source (λ text. IsFirstPartFault p text fault)
first_fault p None left rows fault b f = tt
first_fault p (Some text) None rows fault b f = absurd b
first_fault p (Some text) (Some left) rows fault b f = record { rows = rows; left = left; begins = b; wrong = f }

no_memory : (p : ℕ) (source left : Known) (rows : List ClockedRow) → BeginsKnown p source rows left → IfSome source (λ text. IsFirstPartFault p text Memory)
no_memory p None left rows b = tt
no_memory p (Some text) None rows b = absurd b
no_memory p (Some text) (Some left) rows b = record { rows = rows; left = left; begins = b; wrong = tt }

-- from the records to the bytes
pub of_part_bytes : (source : Option (List ℕ)) (P : Records → Type 0) → IfSome (part_records source) P → IfSome source (λ bytes. P (text_records part_width bytes))
of_part_bytes None P h = tt
of_part_bytes (Some bytes) P h = h

-- what was gathered to the end is what the records say
pub gathered_all : (p : ℕ) (source : Known) (old new : PartRead) (rows : List ClockedRow) → GathersPart p source old rows → MeetsPartEnd old new → IfSome source (λ text. IsPartText p text rows)
gathered_all p source old new rows g e = all_said p source old.left rows g.begins (e.nothing_left g.going.1)

-- a fault that is met while rows are gathered is the first of the records
pub gathered_fault : (p : ℕ) (source : Known) (old new : PartRead) (rows : List ClockedRow) (fault : PartFault) → GathersPart p source old rows → MeetsPartFault old new fault
    → IfSome source (λ text. IsFirstPartFault p text fault)
gathered_fault p source old new rows fault g f =
    first_fault p source old.left rows fault g.begins
    (subst (λ (q : ℕ). IfSome old.left (λ left. IsPartFaultFrom q (length rows) (clock_after 0 rows) left fault)) g.process
    (subst (λ (c : ℕ). IfSome old.left (λ left. IsPartFaultFrom old.process (length rows) c left fault)) g.clock
    (subst (λ (n : ℕ). IfSome old.left (λ left. IsPartFaultFrom old.process n old.clock left fault)) g.count (f.first g.going.0))))

-- so is the want of memory
pub gathered_memory : (p : ℕ) (source : Known) (old : PartRead) (rows : List ClockedRow) → GathersPart p source old rows → IfSome source (λ text. IsFirstPartFault p text Memory)
gathered_memory p source old rows g = no_memory p source old.left rows g.begins

-- a call that gave no row met the end
pub at_end : {old new : PartRead} (found : Option ClockedRow) → ((row : ClockedRow) → found ≡ Some row → ⊥) → StepsPart old new (Ok found) → MeetsPartEnd old new
at_end None other h = h
at_end (Some row) other h = absurd (other row refl)
