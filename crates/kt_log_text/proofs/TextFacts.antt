-- A text says one list of rows, or has a first fault.
use Rattle.std.proofs.Common.{◌≡◌, ◌∙◌, ◌<◌, ◌≤◌, ℕ, List, [], ◌∷◌, ◌++◌, length, map, refl, sym, ap, subst, arith, inl, inr, Option, Some, None}
use Rattle.std.specs.Prelude.{All, ◌⊎◌}
use Rattle.std.proofs.lemmas.List.{append-nil}
use Rattle.std.proofs.lemmas.List.Elements.{All-head, All-tail, All-nil}
use Rattle.kt_spacetime.specs.declared.event.Event.{Event}
use Rattle.kt_log_text.specs.declared.fault.LogFault.{LogFault}
use Rattle.kt_log_text.specs.declared.fault.LogFault.TheVariants.{Read, TooLong, Version, Fields, Word, Number, Memory}
use Rattle.kt_log_text.specs.declared.rows.Format.{Format}
use Rattle.kt_log_text.specs.declared.rows.Format.TheVariants.{One, Two}
use Rattle.kt_log_text.specs.declared.rows.RowFault.TheVariants as row
use Rattle.kt_spacetime.specs.Events.{IsRowInRange}
use Rattle.kt_log_text.specs.Spelling.{spelling, max_rows, IsInFormat}
use Rattle.kt_log_text.specs.Texts.{header, IsUnmarked, BeginsUnmarked, IsTextOf, IsTextFrom, IsOtherVersion, AreInFormat, IsLogText, IsRowFault, IsFaultFrom, IsAfterRows, IsFirstLogFault, IsOfLogText}
use Rattle.kt_text.proofs.FieldFacts.{Records, first_and_rest}
use Rattle.kt_log_text.proofs.SpellingFacts.{one_row, none_wrong_in, four_fields}

-- a text has one format, and in it the records of its rows
pub one_format : (f g : Format) (xs ys text : Records) → IsTextOf f xs text → IsTextOf g ys text → (f ≡ g) × (xs ≡ ys)
one_format One One xs ys text p q = (refl, sym p.0 ∙ q.0)
one_format One Two xs ys text p q = absurd (subst BeginsUnmarked q p.1 refl)
one_format Two One xs ys text p q = absurd (subst BeginsUnmarked p q.1 refl)
one_format Two Two xs ys text p q = (refl, (first_and_rest header header xs ys (sym p ∙ q)).1)

-- spellings that are equal are those of equal rows
one_list : (rows others : List Event) → All IsRowInRange rows → All IsRowInRange others → map spelling rows ≡ map spelling others → rows ≡ others
one_list [] [] r s e = refl
one_list [] (x ∷ xs) r s e = cc e
one_list (x ∷ xs) [] r s e = cc e
one_list (x ∷ xs) (y ∷ ys) r s e =
    let here : spelling x ≡ spelling y = cc e in
    let after : map spelling xs ≡ map spelling ys = cc e in
    let same : x ≡ y = one_row x y (All-head IsRowInRange x xs r) (All-head IsRowInRange y ys s) here in
    let rest : xs ≡ ys = one_list xs ys (All-tail IsRowInRange x xs r) (All-tail IsRowInRange y ys s) after in
    cc (same, rest)

pub one_log : (text : Records) (rows others : List Event) → IsLogText text rows → IsLogText text others → rows ≡ others
one_log text rows others p q =
    one_list rows others p.numbers.in_range q.numbers.in_range (one_format p.format q.format (map spelling rows) (map spelling others) text p.spelled q.spelled).1

-- where a text begins with rows and a list of rows goes on after them, the record there spells a row of it
row_after : (format : Format) (before rows : List Event) (fields : List (List ℕ)) (rest more : Records) → length before < length rows
    → map spelling before ++ (fields ∷ rest) ≡ map spelling rows ++ more → AreInFormat format rows → (event : Event) × (spelling event ≡ fields) × IsRowInRange event × IsInFormat format event
row_after format before [] fields rest more less e n = absurd (omega (arith, less))
row_after format [] (x ∷ xs) fields rest more less e n =
    (x, sym (first_and_rest fields (spelling x) rest (map spelling xs ++ more) e).0, All-head IsRowInRange x xs n.in_range, All-head (IsInFormat format) x xs n.in_format)
row_after format (b ∷ before) (x ∷ xs) fields rest more less e n =
    let after = (first_and_rest (spelling b) (spelling x) (map spelling before ++ (fields ∷ rest)) (map spelling xs ++ more) e).1 in
    row_after format before xs fields rest more (omega (arith, less)) after (record { in_range = All-tail IsRowInRange x xs n.in_range; in_format = All-tail (IsInFormat format) x xs n.in_format })

-- a text that begins with rows has more rows, where a record is after them
more_rows : (before rows : List Event) (fields : List (List ℕ)) (rest : Records) → map spelling before ++ (fields ∷ rest) ≡ map spelling rows → length before < length rows
more_rows [] [] fields rest e = cc e
more_rows [] (x ∷ xs) fields rest e = omega arith
more_rows (b ∷ before) [] fields rest e = cc e
more_rows (b ∷ before) (x ∷ xs) fields rest e =
    let less = more_rows before xs fields rest (first_and_rest (spelling b) (spelling x) (map spelling before ++ (fields ∷ rest)) (map spelling xs) e).1 in
    omega arith

-- where a row is wrong there is a record
has_record : (format : Format) (count : ℕ) (left : Records) (fault : LogFault) → IsRowFault format count left fault → (fields : List (List ℕ)) × (rest : Records) × (left ≡ fields ∷ rest)
has_record format count left Read h = absurd h
has_record format count left Memory h = absurd h
has_record format count left Version h = absurd h
has_record format count left TooLong h = (h.1, h.2, h.3)
has_record format count left (Fields k) h = (h.2, h.3, h.4)
has_record format count left (Word k) h = (h.2 ∷ h.3 ∷ h.4 ∷ h.5 ∷ [], h.6, h.7)
has_record format count left (Number k) h = (h.2 ∷ h.3 ∷ h.4 ∷ h.5 ∷ [], h.6, h.7)

-- where rows go on, none is wrong
pub no_wrong_row : (format : Format) (before rows : List Event) (left more : Records) (fault : LogFault) → map spelling before ++ left ≡ map spelling rows ++ more
    → length before < length rows → AreInFormat format rows → length rows ≤ max_rows format → IsRowFault format (length before) left fault → ⊥
no_wrong_row format before rows left more Read e less n few h = h
no_wrong_row format before rows left more Memory e less n few h = h
no_wrong_row format before rows left more Version e less n few h = h
no_wrong_row format before rows left more TooLong e less n few h = omega (arith, h.0, less, few)
no_wrong_row format before rows left more (Fields k) e less n few h =
    let there = row_after format before rows h.2 h.3 more less (subst (λ (x : Records). map spelling before ++ x ≡ map spelling rows ++ more) h.4 e) n in
    h.5 (sym (ap length there.1) ∙ four_fields there.0)
no_wrong_row format before rows left more (Word k) e less n few h =
    let there = row_after format before rows (h.2 ∷ h.3 ∷ h.4 ∷ h.5 ∷ []) h.6 more less (subst (λ (x : Records). map spelling before ++ x ≡ map spelling rows ++ more) h.7 e) n in
    none_wrong_in format there.0 h.2 h.3 h.4 h.5 row.Word there.2 there.3 there.1 h.8
no_wrong_row format before rows left more (Number k) e less n few h =
    let there = row_after format before rows (h.2 ∷ h.3 ∷ h.4 ∷ h.5 ∷ []) h.6 more less (subst (λ (x : Records). map spelling before ++ x ≡ map spelling rows ++ more) h.7 e) n in
    none_wrong_in format there.0 h.2 h.3 h.4 h.5 row.Number there.2 there.3 there.1 h.8

-- the first record says another version
abbrev pub SaysOther : Option Format → Records → LogFault → Type 0
SaysOther known left fault = (fault ≡ Version) × (known ≡ None) × (fields : List (List ℕ)) × (rest : Records) × (left ≡ fields ∷ rest) × IsOtherVersion fields

-- a row is wrong
abbrev pub HasWrongRow : Option Format → ℕ → Records → LogFault → Type 0
HasWrongRow known count left fault = (format : Format) × (rest : Records) × IsTextFrom known format rest left × IsRowFault format count rest fault

-- a fault of the text itself is of one of these kinds
pub kinds : (known : Option Format) (count : ℕ) (left : Records) (fault : LogFault) → IsOfLogText fault → IsFaultFrom known count left fault → SaysOther known left fault ⊎ HasWrongRow known count left fault
kinds known count left Read o h = absurd (o.0 refl)
kinds known count left Memory o h = absurd (o.1 refl)
kinds known count left Version o h = inl (refl, h.0, h.1, h.2, h.3, h.4)
kinds known count left TooLong o h = inr h
kinds known count left (Fields k) o h = inr h
kinds known count left (Word k) o h = inr h
kinds known count left (Number k) o h = inr h

-- all of a text that begins with rows, in the format that it turns out to have
pub record IsWhole (format : Format) (before : List Event) (rest text : Records) : Type 0 where
  pub spelled : IsTextOf format (map spelling before ++ rest) text
  pub numbers : AreInFormat format before
  pub few : length before ≤ max_rows format

pub whole : (known : Option Format) (format : Format) (before : List Event) (left rest text : Records) → IsAfterRows known before left text → IsTextFrom known format rest left → IsWhole format before rest text
whole None format before left rest text a t =
    subst (λ (b : List Event). IsWhole format b rest text) (sym a.0) (record {
      spelled = subst (λ (x : Records). IsTextOf format rest x) a.1 t;
      numbers = record { in_range = All-nil IsRowInRange; in_format = All-nil (IsInFormat format) };
      few = omega arith;
    })
whole (Some known) format before left rest text a t =
    subst (λ (f : Format). IsWhole f before rest text) t.0 (record { spelled = subst (λ (x : Records). IsTextOf known (map spelling before ++ x) text) t.1 a.0; numbers = a.1; few = a.2 })

-- a text of another version has no format
not_other : (format : Format) (records : Records) (fields : List (List ℕ)) (rest text : Records) → text ≡ fields ∷ rest → IsOtherVersion fields → IsTextOf format records text → ⊥
not_other One records fields rest text e o t =
    let unmarked : IsUnmarked fields = subst BeginsUnmarked e t.1 in
    subst IsUnmarked o.0.1 unmarked refl
not_other Two records fields rest text e o t = o.1 (first_and_rest fields header rest records (sym e ∙ t)).0

pub other_has_none : (known : Option Format) (before : List Event) (left text : Records) (fault : LogFault) (format : Format) (records : Records) → IsAfterRows known before left text
    → SaysOther known left fault → IsTextOf format records text → ⊥
other_has_none None before left text fault format records a h t = not_other format records h.2 h.3 text (sym a.1 ∙ h.4) h.5 t
other_has_none (Some known) before left text fault format records a h t = cc h.1

-- a text with a wrong row is no log
wrong_is_none : (known : Option Format) (before rows : List Event) (left text : Records) (fault : LogFault) → IsAfterRows known before left text → IsLogText text rows
    → HasWrongRow known (length before) left fault → ⊥
wrong_is_none known before rows left text fault a log (format, rest, t, h) =
    let all = whole known format before left rest text a t in
    let same = one_format format log.format (map spelling before ++ rest) (map spelling rows) text all.spelled log.spelled in
    let record_there = has_record format (length before) rest fault h in
    let less = more_rows before rows record_there.0 record_there.1 (subst (λ (x : Records). map spelling before ++ x ≡ map spelling rows) record_there.2 same.1) in
    no_wrong_row log.format before rows rest [] fault (same.1 ∙ sym (append-nil (map spelling rows))) less log.numbers log.few
    (subst (λ (f : Format). IsRowFault f (length before) rest fault) same.0 h)

pub no_log : (text : Records) (rows : List Event) (fault : LogFault) → IsOfLogText fault → IsFirstLogFault text fault → IsLogText text rows → ⊥
no_log text rows fault o first log = elim (kinds first.format (length first.rows) first.left fault o first.wrong) [
  | inl other ↦ other_has_none first.format first.rows first.left text fault log.format (map spelling rows) first.after_rows other log.spelled
  | inr wrong ↦ wrong_is_none first.format first.rows rows first.left text fault first.after_rows log wrong
]
