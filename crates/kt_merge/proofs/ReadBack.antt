-- The text of a part's rows is read back as those rows.
use Rattle.std.proofs.Common.{◌≡◌, ◌∙◌, ◌<◌, ◌≤◌, ◌^◌, ℕ, suc, List, [], ◌∷◌, ◌++◌, Some, None, length, map, append_assoc, refl, sym, ap, subst, arith}
use Rattle.std.specs.Prelude.{◌||◌, Bool, true, false, ℤ, pos, negsuc, FitsSigned}
use Rattle.std.specs.Int.{IsInRange, w64}
use Rattle.std.specs.List.{flat_map, list_any}
use Rattle.std.specs.Str.Parse.{AllDigits}
use Rattle.std.specs.Fmt.{decimal, signed_decimal}
use Rattle.std.proofs.lemmas.Bool.{ne_eqb}
use Rattle.std.proofs.lemmas.Fmt.{decimal_is_IsNumeral}
use Rattle.std.proofs.lemmas.List.{append-nil}
use Rattle.std.proofs.lemmas.Str.Parse.{digit_from_value}
use Rattle.csv.proofs.RoundTrip.{read-write-many}
use Rattle.csv.specs.Machine.{next_record}
use Rattle.csv.specs.Reading.{default_config, strip_bom, records}
use Rattle.csv.specs.Writing.{default_writer, field_text, fields_text, is_blank, needs_byte, row_text}
use Rattle.csv.specs.declared.parser.State.TheVariants as st
use Rattle.kt_base.specs.Numbers.{IsProcNo}
use Rattle.kt_base.specs.declared.words.Kind.{Kind}
use Rattle.kt_base.specs.declared.words.Kind.TheVariants.{Checkpoint, Rollback}
use Rattle.kt_base.specs.declared.words.Verb.{Verb}
use Rattle.kt_base.specs.declared.words.Verb.TheVariants as verb
use Rattle.kt_log_text.specs.Spelling.{verb_word}
use Rattle.kt_text.specs.Records.{cut_at, records_left, text_records}
use Rattle.kt_text.specs.Words.{kind_word, decision_word}
use Rattle.kt_text.specs.Writing.{joined, line_of}
use Rattle.kt_text.proofs.NumberFacts.{small_body}
use Rattle.kt_text.proofs.RecordFacts.{left-none, left-some}
use Rattle.kt_spacetime.specs.NamedRows.{IsInstNameInRange, IsNamedCauseInRange, IsNamedInRange}
use Rattle.kt_spacetime.specs.declared.names.InstName.{InstName}
use Rattle.kt_spacetime.specs.declared.named_rows.ClockedRow.{ClockedRow}
use Rattle.kt_spacetime.specs.declared.named_rows.NamedCause.{NamedCause}
use Rattle.kt_spacetime.specs.declared.named_rows.NamedCause.TheVariants.{Busy, Down, NoSave}
use Rattle.kt_spacetime.specs.declared.named_rows.NamedEvent.{NamedEvent}
use Rattle.kt_spacetime.specs.declared.named_rows.NamedEvent.TheVariants.{Sent, Received, Dropped, Began, Took, Ready, Unwilling, Decided, Closed, Failed, Refused}
use Rattle.kt_merge.specs.Spelling.{name_word, instance_word, named_cause_word, fields_by, event_spelling, part_spelling}
use Rattle.kt_merge.specs.Texts.{part_width, max_records, part_text, row_line, IsPartFrom, IsPartText}
use Rattle.kt_merge.proofs.SpellingFacts.{six_fields}

-- a field is written as it is
abbrev IsPlain : List ℕ → Type 0
IsPlain field = list_any (needs_byte default_writer) field ≡ false

abbrev ArePlain : List (List ℕ) → Type 0
ArePlain [] = Unit {0}
ArePlain (field ∷ fields) = IsPlain field × ArePlain fields

left_false : (a b : Bool) → (a || b) ≡ false → a ≡ false
left_false false b e = refl
left_false true b e = cc e

right_false : (a b : Bool) → (a || b) ≡ false → b ≡ false
right_false false b e = e
right_false true b e = cc e

plain_append : (a b : List ℕ) → IsPlain a → IsPlain b → IsPlain (a ++ b)
plain_append [] b p q = q
plain_append (x ∷ a) b p q =
    let here : needs_byte default_writer x ≡ false = left_false (needs_byte default_writer x) (list_any (needs_byte default_writer) a) p in
    ap (λ (t : Bool). t || list_any (needs_byte default_writer) (a ++ b)) here
    ∙ plain_append a b (right_false (needs_byte default_writer x) (list_any (needs_byte default_writer) a) p) q

-- numbers
plain_digit : (b : ℕ) → IsInRange 48 57 b → needs_byte default_writer b ≡ false
plain_digit b d =
    rw (ne_eqb b 44 (λ e. omega (arith, e, d)), ne_eqb b 34 (λ e. omega (arith, e, d)), ne_eqb b 13 (λ e. omega (arith, e, d)), ne_eqb b 10 (λ e. omega (arith, e, d))) refl

plain_digits : (t : List ℕ) → AllDigits 10 t → IsPlain t
plain_digits [] d = refl
plain_digits (c ∷ cs) d =
    ap (λ (t : Bool). t || list_any (needs_byte default_writer) cs) (plain_digit c (digit_from_value c d.0)) ∙ plain_digits cs d.1

plain_decimal : (n : ℕ) → n < 2 ^ 64 → IsPlain (decimal n)
plain_decimal n l = plain_digits (decimal n) (decimal_is_IsNumeral n l).0.1

plain_signed : (z : ℤ) → FitsSigned w64 z → IsPlain (signed_decimal z)
plain_signed (pos n) f = plain_decimal n (omega (arith, small_body (pos n) f))
plain_signed (negsuc n) f = plain_decimal (suc n) (omega (arith, small_body (negsuc n) f))

plain_process : (p : ℕ) → IsProcNo p → IsPlain (decimal p)
plain_process p l = plain_decimal p (omega (arith, l))

-- names and words
plain_message : (p n : ℕ) → IsProcNo p → n < 2 ^ 64 → IsPlain (name_word 109 (decimal p) n)
plain_message p n k l = plain_append (decimal p) (46 ∷ decimal n) (plain_process p k) (plain_decimal n l)

plain_instance : (inst : InstName) → IsInstNameInRange inst → IsPlain (instance_word inst)
plain_instance inst r = plain_append (decimal inst.initiator) (46 ∷ decimal inst.count) (plain_process inst.initiator r.0) (plain_decimal inst.count (omega (arith, r.1)))

plain_cause : (c : NamedCause) → IsNamedCauseInRange c → IsPlain (named_cause_word c)
plain_cause (Busy inst) r = plain_instance inst r
plain_cause Down r = refl
plain_cause NoSave r = refl

plain_kind : (k : Kind) → IsPlain (kind_word k)
plain_kind Checkpoint = refl
plain_kind Rollback = refl

plain_decision : (commit : Bool) → IsPlain (decision_word commit)
plain_decision true = refl
plain_decision false = refl

plain_verb : (v : Verb) → IsPlain (verb_word v)
plain_verb verb.Send = refl
plain_verb verb.Checkpoint = refl
plain_verb verb.Rollback = refl
plain_verb verb.Fail = refl

-- rows
plain_event : (p : ℕ) (a : NamedEvent) → IsProcNo p → IsNamedInRange a → ArePlain (fields_by p a)
plain_event p (Sent to body label) k r = (refl, (plain_process p k, (plain_process to r.0, (plain_signed body r.1, (plain_message p label k (omega (arith, r.2)), tt)))))
plain_event p (Received from label) k r = (refl, (plain_process p k, (plain_process from r.0, (plain_message from label r.0 (omega (arith, r.1)), (refl, tt)))))
plain_event p (Dropped from label) k r = (refl, (plain_process p k, (plain_process from r.0, (plain_message from label r.0 (omega (arith, r.1)), (refl, tt)))))
plain_event p (Began inst kind) k r = (refl, (plain_process p k, (plain_instance inst r, (plain_kind kind, (refl, tt)))))
plain_event p (Took inst) k r = (refl, (plain_process p k, (plain_instance inst r, (refl, (refl, tt)))))
plain_event p (Ready inst) k r = (refl, (plain_process p k, (plain_instance inst r, (refl, (refl, tt)))))
plain_event p (Unwilling inst cause) k r = (refl, (plain_process p k, (plain_instance inst r.0, (plain_cause cause r.1, (refl, tt)))))
plain_event p (Decided inst commit) k r = (refl, (plain_process p k, (plain_instance inst r, (plain_decision commit, (refl, tt)))))
plain_event p (Closed inst) k r = (refl, (plain_process p k, (plain_instance inst r, (refl, (refl, tt)))))
plain_event p Failed k r = (refl, (plain_process p k, (refl, (refl, (refl, tt)))))
plain_event p (Refused verb cause) k r = (refl, (plain_process p k, (plain_verb verb, (plain_cause cause r, (refl, tt)))))

-- plain fields are written as they are
text_plain : (field : List ℕ) → IsPlain field → field_text default_writer field ≡ field
text_plain field plain = rw plain refl

fields_plain : (f : List ℕ) (fields : List (List ℕ)) → ArePlain fields → f ++ fields_text default_writer fields ≡ joined (f ∷ fields)
unfolding fields_text
fields_plain f [] p = append-nil f
fields_plain f (g ∷ rest) p =
    ap (λ (t : List ℕ). f ++ 44 ∷ t) (ap (λ (u : List ℕ). u ++ fields_text default_writer rest) (text_plain g p.0) ∙ fields_plain g rest p.1)

line_plain : (f g : List ℕ) (rest : List (List ℕ)) → ArePlain (f ∷ g ∷ rest) → row_text default_writer (f ∷ g ∷ rest) ≡ line_of (f ∷ g ∷ rest)
unfolding is_blank
line_plain f g rest p =
    ap (λ (t : List ℕ). t ++ 10 ∷ []) (ap (λ (u : List ℕ). u ++ fields_text default_writer (g ∷ rest)) (text_plain f p.0) ∙ fields_plain f (g ∷ rest) p.1)

-- the line of a row is read as its fields
read_fields : (f : List ℕ) (fields : List (List ℕ)) (tail : List ℕ) → length (f ∷ fields) ≡ 6 → ArePlain (f ∷ fields)
    → next_record default_config st.StartRecord [] [] (line_of (f ∷ fields) ++ tail) ≡ Some (f ∷ fields, st.StartRecord, tail)
read_fields f [] tail n p = absurd (omega (arith, n))
read_fields f (g ∷ rest) tail n p =
    subst (λ (t : List ℕ). next_record default_config st.StartRecord [] [] (t ++ tail) ≡ Some (f ∷ g ∷ rest, st.StartRecord, tail)) (line_plain f g rest p) (read-write-many f g rest tail)

none_left : next_record default_config st.StartRecord [] [] [] ≡ None
unfolding next_record
none_left = refl

read_rows : (p clock : ℕ) (rows : List ClockedRow) → IsPartFrom p clock rows → records_left default_config st.StartRecord (part_text rows) ≡ map part_spelling rows
read_rows p clock [] h = left-none default_config st.StartRecord [] none_left
read_rows p clock (row ∷ rows) h =
    left-some default_config st.StartRecord (part_text (row ∷ rows)) (part_spelling row, st.StartRecord, part_text rows)
    (read_fields (decimal row.clock) (event_spelling row.row) (part_text rows) (six_fields row) (plain_decimal row.clock h.0.0, plain_event row.row.p row.row.event h.0.1.0 h.0.1.1))
    ∙ ap (λ (t : List (List (List ℕ))). part_spelling row ∷ t) (read_rows p row.clock rows h.3)

-- a text that begins with a digit has no byte order mark
no_mark : (c : ℕ) (t : List ℕ) → IsInRange 48 57 c → strip_bom (c ∷ t) ≡ c ∷ t
unfolding strip_bom
no_mark c [] d = refl
no_mark c (a ∷ []) d = refl
no_mark c (a ∷ b ∷ t) d = rw (ne_eqb c 239 (λ e. omega (arith, e, d))) refl

begins_with_digit : (t u : List ℕ) → 0 < length t → AllDigits 10 t → strip_bom (t ++ u) ≡ t ++ u
begins_with_digit [] u l d = absurd (omega (arith, l))
begins_with_digit (c ∷ cs) u l d = no_mark c (cs ++ u) (digit_from_value c d.0)

-- what follows the first field
abbrev rest_of : List (List ℕ) → List ℕ
rest_of [] = []
rest_of (g ∷ fields) = 44 ∷ joined (g ∷ fields)

joined_front : (f : List ℕ) (fields : List (List ℕ)) → joined (f ∷ fields) ≡ f ++ rest_of fields
joined_front f [] = sym (append-nil f)
joined_front f (g ∷ fields) = refl

as_it_is : (rows : List ClockedRow) (p clock : ℕ) → IsPartFrom p clock rows → strip_bom (part_text rows) ≡ part_text rows
unfolding strip_bom
as_it_is [] p clock h = refl
as_it_is (row ∷ rows) p clock h =
    let d = decimal row.clock in
    let rest = rest_of (event_spelling row.row) in
    let front : part_text (row ∷ rows) ≡ d ++ ((rest ++ 10 ∷ []) ++ part_text rows) =
    ap (λ (t : List ℕ). (t ++ 10 ∷ []) ++ part_text rows) (joined_front d (event_spelling row.row))
    ∙ (ap (λ (t : List ℕ). t ++ part_text rows) (append_assoc d rest (10 ∷ [])) ∙ append_assoc d (rest ++ 10 ∷ []) (part_text rows)) in
    let digits = (decimal_is_IsNumeral row.clock h.0.0).0 in
    ap strip_bom front ∙ (begins_with_digit d ((rest ++ 10 ∷ []) ++ part_text rows) digits.0 digits.1 ∙ sym front)

pub lines_joined : (rows : List ClockedRow) → flat_map row_line rows ≡ part_text rows
lines_joined [] = refl
lines_joined (row ∷ rows) =
    ap (λ (t : List ℕ). t ++ flat_map row_line rows) (append-nil (line_of (part_spelling row))) ∙ ap (λ (t : List ℕ). line_of (part_spelling row) ++ t) (lines_joined rows)

-- no record is too wide
kept_whole : (fields : List (List ℕ)) (rest : List (List (List ℕ))) → length fields ≡ 6 → cut_at part_width (fields ∷ rest) ≡ fields ∷ cut_at part_width rest
unfolding cut_at
kept_whole fields rest n = rw n refl

all_whole : (rows : List ClockedRow) → cut_at part_width (map part_spelling rows) ≡ map part_spelling rows
unfolding cut_at
all_whole [] = refl
all_whole (row ∷ rows) = kept_whole (part_spelling row) (map part_spelling rows) (six_fields row) ∙ ap (λ (t : List (List (List ℕ))). part_spelling row ∷ t) (all_whole rows)

pub read_back : (p : ℕ) (rows : List ClockedRow) → IsPartFrom p 0 rows → length rows ≤ max_records → IsPartText p (text_records part_width (part_text rows)) rows
read_back p rows part few = record {
  spelled = ap (cut_at part_width) (ap (records default_config) (as_it_is rows p 0 part) ∙ read_rows p 0 rows part) ∙ all_whole rows;
  part = part;
  few = few;
}
