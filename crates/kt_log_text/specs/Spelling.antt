-- How rows are spelled by the four fields of a record.
use Rattle.std.specs.Prelude.{◌≡◌, ◌≢◌, ◌⊎◌, ◌≤◌, ◌^◌, ℕ, ℤ, Bool, FitsSigned, nat_eq, List, [], ◌∷◌, ◌++◌, codes, if◌then◌else◌}
use Rattle.std.specs.Int.{w64}
use Rattle.std.specs.List.{starts_with}
use Rattle.std.specs.Fmt.{decimal, signed_decimal}
use Rattle.kt_base.specs.Numbers.{IsProcNo, IsInstNo}
use Rattle.kt_base.specs.declared.words.Kind.{Kind}
use Rattle.kt_base.specs.declared.words.Verb.{Verb}
use Rattle.kt_base.specs.declared.words.Verb.TheVariants as verb
use Rattle.kt_base.specs.declared.words.Cause.{Cause}
use Rattle.kt_base.specs.declared.words.Cause.TheVariants.{Busy, Down, NoSave}
use Rattle.kt_spacetime.specs.declared.event.Event.{Event}
use Rattle.kt_spacetime.specs.declared.event.Event.TheVariants.{Sent, Received, Dropped, Began, Took, Ready, Unwilling, Decided, Closed, Failed, Refused}
use Rattle.kt_log_text.specs.declared.rows.Format.{Format}
use Rattle.kt_log_text.specs.declared.rows.Format.TheVariants.{One, Two}
use Rattle.kt_log_text.specs.declared.rows.RowFault.{RowFault}
use Rattle.kt_log_text.specs.declared.rows.RowFault.TheVariants as fault
use Rattle.kt_log_text.specs.declared.rows.RowWord.{RowWord}
use Rattle.kt_log_text.specs.declared.rows.RowWord.TheVariants as row
use Rattle.kt_log_text.specs.Slot.{Slot}
use Rattle.kt_log_text.specs.Slot as slot
use Rattle.kt_spacetime.specs.Events.{IsCauseInRange}
use Rattle.kt_text.specs.Words.{kind_word, decision_word}

-- the word of a command
abbrev pub verb_word : Verb → List ℕ
verb_word verb.Send = codes "send"
verb_word verb.Checkpoint = codes "checkpoint"
verb_word verb.Rollback = codes "rollback"
verb_word verb.Fail = codes "fail"

-- how a cause is spelled
abbrev pub cause_word : Cause → List ℕ
cause_word (Busy inst) = codes "busy-" ++ decimal inst
cause_word Down = codes "down"
cause_word NoSave = codes "nosave"

-- the word that a row begins with
abbrev pub row_word : RowWord → List ℕ
row_word row.Sent = codes "sent"
row_word row.Received = codes "received"
row_word row.Dropped = codes "dropped"
row_word row.Began = codes "began"
row_word row.Took = codes "took"
row_word row.Ready = codes "ready"
row_word row.Unwilling = codes "unwilling"
row_word row.Decided = codes "decided"
row_word row.Closed = codes "closed"
row_word row.Failed = codes "failed"
row_word row.Refused = codes "refused"

-- the four fields of a row
abbrev pub spelling : Event → List (List ℕ)
spelling (Sent p to body) = codes "sent" ∷ decimal p ∷ decimal to ∷ signed_decimal body ∷ []
spelling (Received p from msg) = codes "received" ∷ decimal p ∷ decimal from ∷ decimal msg ∷ []
spelling (Dropped p from msg) = codes "dropped" ∷ decimal p ∷ decimal from ∷ decimal msg ∷ []
spelling (Began p inst kind) = codes "began" ∷ decimal p ∷ decimal inst ∷ kind_word kind ∷ []
spelling (Took p inst) = codes "took" ∷ decimal p ∷ decimal inst ∷ codes "-" ∷ []
spelling (Ready p inst) = codes "ready" ∷ decimal p ∷ decimal inst ∷ codes "-" ∷ []
spelling (Unwilling p inst cause) = codes "unwilling" ∷ decimal p ∷ decimal inst ∷ cause_word cause ∷ []
spelling (Decided p inst commit) = codes "decided" ∷ decimal p ∷ decimal inst ∷ decision_word commit ∷ []
spelling (Closed p inst) = codes "closed" ∷ decimal p ∷ decimal inst ∷ codes "-" ∷ []
spelling (Failed p) = codes "failed" ∷ decimal p ∷ codes "-" ∷ codes "-" ∷ []
spelling (Refused p verb cause) = codes "refused" ∷ decimal p ∷ verb_word verb ∷ cause_word cause ∷ []

-- how many rows a text of a format has at most, which is also its greatest number of a message
abbrev pub max_rows : Format → ℕ
max_rows One = 2 ^ 20
max_rows Two = 2 ^ 24

-- the numbers of a row are in the range of a format
abbrev pub IsInFormat : Format → Event → Type 0
IsInFormat format (Received p from msg) = msg ≤ max_rows format
IsInFormat format (Dropped p from msg) = msg ≤ max_rows format
IsInFormat format _ = Unit {0}

-- a text spells what may stand in a field
abbrev pub FitsRowSlot : Format → Slot → List ℕ → Type 0
FitsRowSlot format slot.process text = (p : ℕ) × IsProcNo p × (text ≡ decimal p)
FitsRowSlot format slot.instance text = (k : ℕ) × IsInstNo k × (text ≡ decimal k)
FitsRowSlot format slot.message text = (m : ℕ) × (1 ≤ m) × (m ≤ max_rows format) × (text ≡ decimal m)
FitsRowSlot format slot.body text = (z : ℤ) × FitsSigned w64 z × (text ≡ signed_decimal z)
FitsRowSlot format slot.nothing text = text ≡ codes "-"
FitsRowSlot format slot.kind text = (k : Kind) × (text ≡ kind_word k)
FitsRowSlot format slot.decision text = (commit : Bool) × (text ≡ decision_word commit)
FitsRowSlot format slot.verb text = (v : Verb) × (text ≡ verb_word v)
FitsRowSlot format slot.cause text = (c : Cause) × IsCauseInRange c × (text ≡ cause_word c)

-- which fault a text is that does not fit
abbrev pub row_misfit : Slot → List ℕ → RowFault
row_misfit slot.process text = fault.Number
row_misfit slot.instance text = fault.Number
row_misfit slot.message text = fault.Number
row_misfit slot.body text = fault.Number
row_misfit slot.nothing text = fault.Word
row_misfit slot.kind text = fault.Word
row_misfit slot.decision text = fault.Word
row_misfit slot.verb text = fault.Word
row_misfit slot.cause text = if starts_with nat_eq text (codes "busy-") then fault.Number else fault.Word

-- a text does not fit, and this is the fault
abbrev pub IsRowMisfit : Format → Slot → List ℕ → RowFault → Type 0
IsRowMisfit format slot text f = (f ≡ row_misfit slot text) × (FitsRowSlot format slot text → ⊥)

-- of three texts the first that does not fit gives the fault
abbrev pub IsFirstRowMisfit : Format → Slot → Slot → Slot → List ℕ → List ℕ → List ℕ → RowFault → Type 0
IsFirstRowMisfit format x y z a b c f =
    IsRowMisfit format x a f ⊎ ((FitsRowSlot format x a × IsRowMisfit format y b f) ⊎ (FitsRowSlot format x a × FitsRowSlot format y b × IsRowMisfit format z c f))

-- what may stand in the fields after a row's word, and the first that does not fit
abbrev pub IsRowFaultAfter : Format → RowWord → List ℕ → List ℕ → List ℕ → RowFault → Type 0
IsRowFaultAfter format row.Sent a b c f = IsFirstRowMisfit format slot.process slot.process slot.body a b c f
IsRowFaultAfter format row.Received a b c f = IsFirstRowMisfit format slot.process slot.process slot.message a b c f
IsRowFaultAfter format row.Dropped a b c f = IsFirstRowMisfit format slot.process slot.process slot.message a b c f
IsRowFaultAfter format row.Began a b c f = IsFirstRowMisfit format slot.process slot.instance slot.kind a b c f
IsRowFaultAfter format row.Took a b c f = IsFirstRowMisfit format slot.process slot.instance slot.nothing a b c f
IsRowFaultAfter format row.Ready a b c f = IsFirstRowMisfit format slot.process slot.instance slot.nothing a b c f
IsRowFaultAfter format row.Unwilling a b c f = IsFirstRowMisfit format slot.process slot.instance slot.cause a b c f
IsRowFaultAfter format row.Decided a b c f = IsFirstRowMisfit format slot.process slot.instance slot.decision a b c f
IsRowFaultAfter format row.Closed a b c f = IsFirstRowMisfit format slot.process slot.instance slot.nothing a b c f
IsRowFaultAfter format row.Failed a b c f = IsFirstRowMisfit format slot.process slot.nothing slot.nothing a b c f
IsRowFaultAfter format row.Refused a b c f = IsFirstRowMisfit format slot.process slot.verb slot.cause a b c f

-- what is first wrong in four fields: the word, or a field after it
abbrev pub IsRowFieldFault : Format → List ℕ → List ℕ → List ℕ → List ℕ → RowFault → Type 0
IsRowFieldFault format word a b c f =
    ((f ≡ fault.Word) × ((w : RowWord) → word ≢ row_word w)) ⊎ ((w : RowWord) × (word ≡ row_word w) × IsRowFaultAfter format w a b c f)
