-- What the rows gathered so far say of the text.
use Rattle.std.proofs.Common.{◌≡◌, ◌∙◌, ◌≤◌, ◌<◌, ◌^◌, ℕ, List, [], ◌∷◌, ◌++◌, Option, Some, None, Ok, IfSome, refl, sym, ap, subst, arith, length, map, length-append, append_assoc}
use Rattle.std.specs.Prelude.{All}
use Rattle.std.proofs.lemmas.List.{map-append, append-nil}
use Rattle.std.proofs.lemmas.List.Elements.{All-push}
use Rattle.kt_text.specs.Records.{text_records}
use Rattle.kt_spacetime.specs.declared.event.Event.{Event}
use Rattle.kt_log_text.specs.declared.fault.LogFault.{LogFault}
use Rattle.kt_log_text.specs.declared.fault.LogFault.TheVariants.{Memory}
use Rattle.kt_log_text.specs.declared.rows.Format.{Format}
use Rattle.kt_log_text.specs.declared.rows.Format.TheVariants.{One, Two}
use Rattle.kt_spacetime.specs.Events.{IsRowInRange}
use Rattle.kt_log_text.specs.Spelling.{spelling, max_rows, IsInFormat}
use Rattle.kt_log_text.specs.Texts.{row_width, IsTextOf, IsFaultFrom, IsEndedFrom, IsAfterRows, AreInFormat, IsLogText, IsFirstLogFault}
use Rattle.kt_log_text.specs.Reading.{RowsRead, TakesRow, GivesRow, MeetsEnd, MeetsFault, Steps, rows_unread}
use Rattle.kt_log_text.specs.Progress.{BeginsWithRows, GathersRows}

abbrev Known : Type 0
Known = Option (List (List (List ℕ)))

all_none : (P : Event → Type 0) → All P []
all_none P = λ k d h. absurd (omega (arith, h))

pub most_rows_le : (format : Format) → max_rows format ≤ 2 ^ 24
most_rows_le One = omega arith
most_rows_le Two = omega arith

-- the spellings of the rows with one more
spelled_more : (rows : List Event) (row : Event) (rest : List (List (List ℕ))) → map spelling rows ++ (spelling row ∷ rest) ≡ map spelling (rows ++ row ∷ []) ++ rest
spelled_more rows row rest = rw (map-append spelling rows (row ∷ []), append_assoc (map spelling rows) (spelling row ∷ []) rest) refl

numbers_more : (format : Format) (rows : List Event) (row : Event) → AreInFormat format rows → IsRowInRange row → IsInFormat format row → AreInFormat format (rows ++ row ∷ [])
numbers_more format rows row numbers range inside = record {
  in_range = All-push IsRowInRange rows row numbers.in_range range;
  in_format = All-push (IsInFormat format) rows row numbers.in_format inside;
}

begins_more : (text left rest : Known) (known : Option Format) (format : Format) (rows : List Event) (row : Event) → BeginsWithRows text left known rows → TakesRow known format left rest row
    → IsRowInRange row → IsInFormat format row → length rows < max_rows format → BeginsWithRows text rest (Some format) (rows ++ row ∷ [])
begins_more None left rest known format rows row b t range inside few = tt
begins_more (Some text) None rest known format rows row b t range inside few = absurd b
begins_more (Some text) (Some left) None known format rows row b t range inside few = absurd t
begins_more (Some text) (Some left) (Some rest) None format rows row b t range inside few =
    let first : IsAfterRows (Some format) (row ∷ []) rest text = (subst (λ (x : List (List (List ℕ))). IsTextOf format (spelling row ∷ rest) x) b.1 t, record { in_range = All-push IsRowInRange [] row (all_none IsRowInRange) range; in_format = All-push (IsInFormat format) [] row (all_none (IsInFormat format)) inside }, omega (arith, few)) in
    subst (λ (before : List Event). IsAfterRows (Some format) (before ++ row ∷ []) rest text) (sym b.0) first
begins_more (Some text) (Some left) (Some rest) (Some known) format rows row b t range inside few =
    let after : IsAfterRows (Some known) rows (spelling row ∷ rest) text = subst (λ (x : List (List (List ℕ))). IsAfterRows (Some known) rows x text) t.1 b in
    let same : IsAfterRows (Some format) rows (spelling row ∷ rest) text = subst (λ (f : Format). IsAfterRows (Some f) rows (spelling row ∷ rest) text) t.0 after in (
      subst (λ (x : List (List (List ℕ))). IsTextOf format x text) (spelled_more rows row rest) same.0,
      numbers_more format rows row same.1 range inside,
      omega (arith, length-append rows (row ∷ []), few),
    )

pub gathers_more : (source : Option (List ℕ)) (old new : RowsRead) (rows : List Event) (row : Event) → GathersRows source old rows → GivesRow old new row → GathersRows source new (rows ++ row ∷ [])
gathers_more source old new rows row g s = record {
  begins = subst (λ (o : Option Format). BeginsWithRows (rows_unread source).left new.left o (rows ++ row ∷ [])) (sym s.known)
      (begins_more (rows_unread source).left old.left new.left old.format s.format rows row g.begins s.takes s.in_range s.in_format (omega (arith, g.count, s.few)));
  count = omega (arith, s.counted, g.count, length-append rows (row ∷ []));
  few = omega (arith, s.counted, s.few, most_rows_le s.format);
  going = (s.going.1, s.going.2);
}

no_rows : (format : Format) (text : List (List (List ℕ))) → IsTextOf format [] text → IsLogText text []
no_rows format text t = record { format = format; spelled = t; numbers = record { in_range = all_none IsRowInRange; in_format = all_none (IsInFormat format) }; few = omega arith }

all_said : (text left : Known) (known : Option Format) (rows : List Event) → BeginsWithRows text left known rows → IfSome left (IsEndedFrom known) → IfSome text (λ t. IsLogText t rows)
all_said None left known rows b e = tt
all_said (Some text) None known rows b e = absurd b
all_said (Some text) (Some left) None rows b e =
    subst (λ (r : List Event). IsLogText text r) (sym b.0) (subst (λ (t : List (List (List ℕ))). IsLogText t []) b.1 (no_rows e.0 left e.1))
all_said (Some text) (Some left) (Some known) rows b e = record {
  format = known;
  spelled = subst (λ (x : List (List (List ℕ))). IsTextOf known x text) (ap (λ (x : List (List (List ℕ))). map spelling rows ++ x) e.1.1 ∙ append-nil (map spelling rows)) b.0;
  numbers = b.1;
  few = b.2;
}

first_fault : (text left : Known) (known : Option Format) (rows : List Event) (fault : LogFault) → BeginsWithRows text left known rows → IfSome left (λ l. IsFaultFrom known (length rows) l fault) → IfSome text (λ t. IsFirstLogFault t fault)
first_fault None left known rows fault b f = tt
first_fault (Some text) None known rows fault b f = absurd b
first_fault (Some text) (Some left) known rows fault b f = record { format = known; rows = rows; left = left; after_rows = b; wrong = f }

no_memory : (text left : Known) (known : Option Format) (rows : List Event) → BeginsWithRows text left known rows → IfSome text (λ t. IsFirstLogFault t Memory)
no_memory None left known rows b = tt
no_memory (Some text) None known rows b = absurd b
no_memory (Some text) (Some left) known rows b = record { format = known; rows = rows; left = left; after_rows = b; wrong = tt }

-- from the records to the bytes
pub of_bytes : (source : Option (List ℕ)) (P : List (List (List ℕ)) → Type 0) → IfSome (rows_unread source).left P → IfSome source (λ bytes. P (text_records row_width bytes))
of_bytes None P h = tt
of_bytes (Some bytes) P h = h

-- what was gathered to the end is what the records say
pub gathered_all : (source : Option (List ℕ)) (old new : RowsRead) (rows : List Event) → GathersRows source old rows → MeetsEnd old new → IfSome (rows_unread source).left (λ text. IsLogText text rows)
gathered_all source old new rows g e = all_said (rows_unread source).left old.left old.format rows g.begins (e.nothing_left g.going.1)

pub gathered : (source : Option (List ℕ)) (old new : RowsRead) (rows : List Event) → GathersRows source old rows → MeetsEnd old new → IfSome source (λ bytes. IsLogText (text_records row_width bytes) rows)
gathered source old new rows g e = of_bytes source (λ t. IsLogText t rows) (gathered_all source old new rows g e)

-- a fault that is met while rows are gathered is the first of the records
pub gathered_to_fault : (source : Option (List ℕ)) (old new : RowsRead) (rows : List Event) (fault : LogFault) → GathersRows source old rows → MeetsFault old new fault → IfSome (rows_unread source).left (λ text. IsFirstLogFault text fault)
gathered_to_fault source old new rows fault g f =
    first_fault (rows_unread source).left old.left old.format rows fault g.begins (subst (λ (n : ℕ). IfSome old.left (λ left. IsFaultFrom old.format n left fault)) g.count (f.first g.going.0))

pub gathered_fault : (source : Option (List ℕ)) (old new : RowsRead) (rows : List Event) (fault : LogFault) → GathersRows source old rows → MeetsFault old new fault → IfSome source (λ bytes. IsFirstLogFault (text_records row_width bytes) fault)
gathered_fault source old new rows fault g f = of_bytes source (λ t. IsFirstLogFault t fault) (gathered_to_fault source old new rows fault g f)

-- so is the want of memory
pub gathered_memory : (source : Option (List ℕ)) (old : RowsRead) (rows : List Event) → GathersRows source old rows → IfSome (rows_unread source).left (λ text. IsFirstLogFault text Memory)
gathered_memory source old rows g = no_memory (rows_unread source).left old.left old.format rows g.begins

-- before the first row
pub gathers_none : (source : Option (List ℕ)) → GathersRows source (rows_unread source) []
gathers_none source = record {
  begins = unread source;
  count = refl;
  few = omega arith;
  going = (refl, refl);
}
  where
    unread : (o : Option (List ℕ)) → BeginsWithRows (rows_unread o).left (rows_unread o).left None []
    unread None = tt
    unread (Some bytes) = (refl, refl)

-- a call that gave no row met the end
pub at_end : {old new : RowsRead} (found : Option Event) → ((row : Event) → found ≡ Some row → ⊥) → Steps old new (Ok found) → MeetsEnd old new
at_end None other h = h
at_end (Some row) other h = absurd (other row refl)
