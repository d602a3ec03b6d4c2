-- A merge that goes on, and where it stops.
use Rattle.std.proofs.Common.{◌≡◌, ◌∙◌, ◌+◌, ◌⊎◌, ℕ, Option, Some, None, Ok, List, [], ◌∷◌, ◌++◌, IfNone, length, map, set, refl, sym, ap, subst, inl, inr}
use Rattle.std.specs.Io.KnownBytes.{Appends}
use Rattle.std.specs.Prelude.{Result, Err, IfErr}
use Rattle.std.specs.List.{slice_get}
use Rattle.std.proofs.lemmas.List.{map-append, append-nil}
use Rattle.std.proofs.lemmas.List.Sums.{fold-append}
use Rattle.kt_spacetime.specs.declared.event.Event.{Event}
use Rattle.kt_text.specs.declared.fault.WriteFault.{WriteFault}
use Rattle.kt_text.specs.declared.fault.WriteFault.TheVariants as write
use Rattle.kt_text.specs.Writing.{line_of, text_of, Sends, WritesFront}
use Rattle.kt_text.proofs.PieceFacts.{sends_more, sends_rest, text_more, front_none, front_after, front_last, starts}
use Rattle.kt_log_text.specs.Spelling.{spelling}
use Rattle.kt_log_text.specs.Texts.{header}
use Rattle.kt_meaning.specs.Names.{Given, nothing_given, given_after, given_by, numbered_event}
use Rattle.kt_merge.specs.declared.part_fault.PartFault.{PartFault}
use Rattle.kt_spacetime.specs.declared.named_rows.ClockedRow.{ClockedRow}
use Rattle.kt_spacetime.specs.ClockedRows.{rows_of}
use Rattle.kt_merge.specs.Reading.{PartRead, MeetsPartFault, StepsPart}
use Rattle.kt_merge.specs.declared.fault.MergeFault.{MergeFault}
use Rattle.kt_merge.specs.declared.fault.MergeFault.TheVariants as merge
use Rattle.kt_merge.specs.declared.fault.RowFault.{RowFault}
use Rattle.kt_merge.specs.declared.tables.Numbers.{Numbers}
use Rattle.kt_merge.specs.Heads.{IsLeastHead, HasNoHead, GiveHeads}
use Rattle.kt_merge.specs.Numbering.{IsRowFault, ShowsGiven}
use Rattle.kt_merge.specs.Merging.{ArePartsUnread, log_text, WritesMerge, IsMergeFaultAfter, AreReadTo, StopsMerge, StopsReading}
use Rattle.kt_merge.proofs.AheadFacts.{ahead_heads, ahead_more, ahead_same, ahead_taken, ahead_unread}
use Rattle.kt_merge.proofs.MergedFacts.{IsMergedTo, own_of, taken, begins_merge, begins_taken, begins_nothing, merged_more, merged_all, merged_none, count_held}
use Rattle.kt_merge.proofs.StopFacts.{row_fault, part_fault}

-- the text of a log with one more row
one_more : (log : List Event) (row : Event) → log_text (log ++ row ∷ []) ≡ log_text log ++ line_of (spelling row)
one_more log row = ap (λ (r : List (List (List ℕ))). text_of (header ∷ r)) (map-append spelling log (row ∷ [])) ∙ text_more (header ∷ map spelling log) (spelling row)

given_more : (log : List Event) (row : Event) → given_by nothing_given (log ++ row ∷ []) ≡ given_after (given_by nothing_given log) row
given_more log row = fold-append given_after nothing_given log (row ∷ [])

-- rows were merged, numbered and gathered
pub record IsMerging (start parts : List PartRead) (heads : List (Option ClockedRow)) (numbers : Numbers) (old new : Option (List ℕ)) (text : List ℕ) : Type 0 where
  pub rows : List ClockedRow
  pub log : List Event
  pub merged : IsMergedTo start parts heads rows log
  pub shows : ShowsGiven numbers (given_by nothing_given log)
  pub sends : Sends old new [] text (log_text log)
  pub ahead : AreReadTo parts rows

-- where nothing is written
appends_none : (a : Option (List ℕ)) → Appends a a []
appends_none None = tt
appends_none (Some bytes) = sym (append-nil bytes)

-- before the first row
pub merging_none : (start parts : List PartRead) (heads : List (Option ClockedRow)) (numbers : Numbers) (a : Option (List ℕ)) (text : List ℕ) → ArePartsUnread start → GiveHeads start parts heads → ShowsGiven numbers nothing_given → text ≡ line_of header
    → IsMerging start parts heads numbers a a text
merging_none start parts heads numbers a text unread g shows e = record {
  rows = [];
  log = [];
  merged = merged_none start parts heads unread g;
  shows = shows;
  sends = record { gone = []; written = appends_none a; is = e ∙ sym (append-nil (line_of header)) };
  ahead = ahead_heads start parts heads unread g;
}

-- one more row
pub merging_more : (start parts : List PartRead) (heads : List (Option ClockedRow)) (numbers more : Numbers) (a b d : Option (List ℕ)) (text gathered : List ℕ) (p : ℕ) (row : ClockedRow) (event : Event) (old new : PartRead) (head : Option ClockedRow)
    (m : IsMerging start parts heads numbers a b text) → IsLeastHead heads p row → numbered_event (given_by nothing_given m.log) row.row.p row.row.event ≡ Some event → ShowsGiven more (given_after (given_by nothing_given m.log) event)
    → Sends b d text gathered (line_of (spelling event)) → slice_get parts p ≡ Some old → StepsPart old new (Ok head) → IsMerging start (set parts p new) (set heads p head) more a d gathered
merging_more start parts heads numbers more a b d text gathered p row event old new head m least e shows out there steps = record {
  rows = m.rows ++ row ∷ [];
  log = m.log ++ event ∷ [];
  merged = merged_more start parts heads p m.rows row (m.log ++ event ∷ []) old new head (taken start parts heads m.rows m.log p row event m.merged least e) there steps;
  shows = subst (λ (g : Given). ShowsGiven more g) (sym (given_more m.log event)) shows;
  sends = subst (λ (t : List ℕ). Sends a d [] gathered t) (sym (one_more m.log event)) (sends_more a b d [] text gathered (log_text m.log) (line_of (spelling event)) m.sends out);
  ahead = ahead_more parts m.rows p row old new head m.ahead (own_of start parts heads m.rows m.log m.merged p row least.is).1 there steps;
}

-- where no row was found, no part has a next one
pub none_left : (found : Option (ℕ × ClockedRow)) (heads : List (Option ClockedRow)) → ((r : ℕ × ClockedRow) → found ≡ Some r → ⊥) → IfNone found (HasNoHead heads) → HasNoHead heads
none_left None heads other h = h
none_left (Some r) heads other h = absurd (other r refl)

-- all rows are written
pub writes_all : (start parts : List PartRead) (heads : List (Option ClockedRow)) (numbers : Numbers) (a b d : Option (List ℕ)) (text : List ℕ) → IsMerging start parts heads numbers a b text → HasNoHead heads → Appends b d text → WritesMerge start a d
writes_all start parts heads numbers a b d text m none out = record {
  rows = m.rows;
  log = m.log;
  merged = merged_all start parts heads m.rows m.log m.merged none;
  numbers = m.merged.numbers;
  written = sends_rest a b d text (log_text m.log) m.sends out;
}

-- a fault that is neither of a part nor of a row
abbrev pub IsOfWriting : MergeFault → Type 0
IsOfWriting merge.Write = Unit {0}
IsOfWriting merge.Memory = Unit {0}
IsOfWriting _ = ⊥

pub of_write_fault : (fault : WriteFault) (e : MergeFault) → (fault ≡ write.Write → e ≡ merge.Write) × (fault ≡ write.Memory → e ≡ merge.Memory) → IsOfWriting e
of_write_fault write.Write e h = subst IsOfWriting (sym (h.0 refl)) tt
of_write_fault write.Memory e h = subst IsOfWriting (sym (h.1 refl)) tt

of_writing : (start : List PartRead) (rows : List ClockedRow) (log : List Event) (e : MergeFault) → IsOfWriting e → IsMergeFaultAfter start rows log e
of_writing start rows log merge.Write w = tt
of_writing start rows log merge.Memory w = tt
of_writing start rows log (merge.Part p fault) w = absurd w
of_writing start rows log (merge.Row p n fault) w = absurd w

-- before the first row nothing is written
pub stops_first : (start parts : List PartRead) (a : Option (List ℕ)) (e : MergeFault) → IsMergeFaultAfter start [] [] e → AreReadTo parts [] → StopsReading start parts a a e
stops_first start parts a e wrong ahead = (record { rows = []; log = []; begins = begins_nothing start; wrong = wrong; written = front_none a (log_text []) }, ahead)

pub stops_before : (start : List PartRead) (a : Option (List ℕ)) (e : MergeFault) → ArePartsUnread start → IsOfWriting e → StopsReading start start a a e
stops_before start a e unread w = stops_first start start a e (of_writing start [] [] e w) (ahead_unread start unread)

-- at a row that has no number
abbrev pub HasNoNumber : Given → ClockedRow → ℕ → MergeFault → Type 0
HasNoNumber g row n e = (e ≡ merge.Memory) ⊎ ((what : RowFault) × (e ≡ merge.Row row.row.p n what) × IsRowFault g row.row.p row.row.event what)

wrong_row : (start parts : List PartRead) (heads : List (Option ClockedRow)) (rows : List ClockedRow) (log : List Event) (p : ℕ) (row : ClockedRow) (n : ℕ) (e : MergeFault) → IsMergedTo start parts heads rows log → IsLeastHead heads p row
    → n ≡ length (rows_of p rows) + 1 → HasNoNumber (given_by nothing_given log) row n e → IsMergeFaultAfter start rows log e
wrong_row start parts heads rows log p row n e m least number (inl is) = subst (λ (f : MergeFault). IsMergeFaultAfter start rows log f) (sym is) tt
wrong_row start parts heads rows log p row n e m least number (inr w) =
    subst (λ (f : MergeFault). IsMergeFaultAfter start rows log f) (sym w.1) (row_fault start parts heads rows log p row n w.0 m least number w.2)

pub stops_at_row : (start parts : List PartRead) (heads : List (Option ClockedRow)) (numbers : Numbers) (a b : Option (List ℕ)) (text : List ℕ) (p : ℕ) (row : ClockedRow) (at : PartRead) (e : MergeFault) (m : IsMerging start parts heads numbers a b text)
    → IsLeastHead heads p row → slice_get parts p ≡ Some at → HasNoNumber (given_by nothing_given m.log) row at.count e → StopsReading start parts a b e
stops_at_row start parts heads numbers a b text p row at e m least there w = (
  record {
    rows = m.rows;
    log = m.log;
    begins = begins_merge start parts heads m.rows m.log m.merged;
    wrong = wrong_row start parts heads m.rows m.log p row at.count e m.merged least (count_held start parts heads m.rows m.log p row at m.merged least.is there) w;
    written = front_last a b b [] text (log_text m.log) m.sends (front_none b text);
  },
  m.ahead,
)

-- where a row can't be written
pub stops_in_writing : (start parts : List PartRead) (heads : List (Option ClockedRow)) (numbers : Numbers) (a b d : Option (List ℕ)) (text : List ℕ) (p : ℕ) (row : ClockedRow) (event : Event) (e : MergeFault) (m : IsMerging start parts heads numbers a b text)
    → IsLeastHead heads p row → numbered_event (given_by nothing_given m.log) row.row.p row.row.event ≡ Some event → WritesFront b d (text ++ line_of (spelling event)) → IsOfWriting e → StopsReading start parts a d e
stops_in_writing start parts heads numbers a b d text p row event e m least is out w =
    let t = taken start parts heads m.rows m.log p row event m.merged least is in (
      record {
        rows = m.rows ++ row ∷ [];
        log = m.log ++ event ∷ [];
        begins = begins_taken start parts heads p m.rows row (m.log ++ event ∷ []) t;
        wrong = of_writing start (m.rows ++ row ∷ []) (m.log ++ event ∷ []) e w;
        written = front_more out;
      },
      ahead_taken parts m.rows row m.ahead,
    )
  where
    front_more : WritesFront b d (text ++ line_of (spelling event)) → WritesFront a d (log_text (m.log ++ event ∷ []))
    front_more q =
        front_after a b d [] text (log_text m.log) (line_of (spelling event)) (log_text (m.log ++ event ∷ [])) m.sends q
        (starts (log_text (m.log ++ event ∷ [])) (log_text m.log ++ line_of (spelling event)) [] (one_more m.log event ∙ sym (append-nil (log_text m.log ++ line_of (spelling event)))))

-- where the next record of a part is wrong
pub stops_at_part : (start parts : List PartRead) (heads : List (Option ClockedRow)) (numbers : Numbers) (a b d : Option (List ℕ)) (text gathered : List ℕ) (p : ℕ) (row : ClockedRow) (event : Event) (old new : PartRead) (fault : PartFault) (e : MergeFault)
    (m : IsMerging start parts heads numbers a b text) → IsLeastHead heads p row → numbered_event (given_by nothing_given m.log) row.row.p row.row.event ≡ Some event → Sends b d text gathered (line_of (spelling event))
    → slice_get parts p ≡ Some old → e ≡ merge.Part p fault → MeetsPartFault old new fault → StopsReading start (set parts p new) a d e
stops_at_part start parts heads numbers a b d text gathered p row event old new fault e m least is out there e_is f =
    let t = taken start parts heads m.rows m.log p row event m.merged least is in (
      record {
        rows = m.rows ++ row ∷ [];
        log = m.log ++ event ∷ [];
        begins = begins_taken start parts heads p m.rows row (m.log ++ event ∷ []) t;
        wrong = subst (λ (x : MergeFault). IsMergeFaultAfter start (m.rows ++ row ∷ []) (m.log ++ event ∷ []) x) (sym e_is) (part_fault start parts heads p m.rows row (m.log ++ event ∷ []) old new fault t there f);
        written = subst (λ (x : List ℕ). WritesFront a d x) (sym (one_more m.log event))
            (front_last a d d [] gathered (log_text m.log ++ line_of (spelling event)) (sends_more a b d [] text gathered (log_text m.log) (line_of (spelling event)) m.sends out) (front_none d gathered));
      },
      ahead_same parts (m.rows ++ row ∷ []) p old new (ahead_taken parts m.rows row m.ahead) there f.still.0,
    )

-- where the rest can't be written
pub stops_at_end : (start parts : List PartRead) (heads : List (Option ClockedRow)) (numbers : Numbers) (a b d : Option (List ℕ)) (text : List ℕ) (e : MergeFault) → IsMerging start parts heads numbers a b text → WritesFront b d text → IsOfWriting e → StopsReading start parts a d e
stops_at_end start parts heads numbers a b d text e m out w = (
  record {
    rows = m.rows;
    log = m.log;
    begins = begins_merge start parts heads m.rows m.log m.merged;
    wrong = of_writing start m.rows m.log e w;
    written = front_last a b d [] text (log_text m.log) m.sends out;
  },
  m.ahead,
)

-- where it stops, without what was read
pub stops_merge : (start parts : List PartRead) (a b : Option (List ℕ)) (r : Result Unit MergeFault) → IfErr r (λ e. StopsReading start parts a b e) → IfErr r (λ e. StopsMerge start a b e)
stops_merge start parts a b (Ok u) s = tt
stops_merge start parts a b (Err e) s = s.0
