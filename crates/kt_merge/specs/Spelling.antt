-- How the rows of a part are spelled by the six fields of a record.
use Rattle.std.specs.Prelude.{◌≡◌, ◌≢◌, ◌⊎◌, ◌<◌, ◌^◌, ℕ, ℤ, Bool, FitsSigned, nat_eq, List, [], ◌∷◌, ◌++◌, codes, if◌then◌else◌}
use Rattle.std.specs.Int.{w64}
use Rattle.std.specs.List.{starts_with}
use Rattle.std.specs.Fmt.{decimal, signed_decimal}
use Rattle.kt_base.specs.Numbers.{IsProcNo}
use Rattle.kt_base.specs.declared.words.Kind.{Kind}
use Rattle.kt_base.specs.declared.words.Verb.{Verb}
use Rattle.kt_log_text.specs.Spelling.{verb_word}
use Rattle.kt_spacetime.specs.Counts.{IsCount}
use Rattle.kt_spacetime.specs.NamedRows.{IsInstNameInRange, IsNamedCauseInRange, IsNamedInRange}
use Rattle.kt_spacetime.specs.declared.names.InstName.{InstName}
use Rattle.kt_spacetime.specs.declared.named_rows.NamedCause.{NamedCause}
use Rattle.kt_spacetime.specs.declared.named_rows.NamedCause.TheVariants.{Busy, Down, NoSave}
use Rattle.kt_spacetime.specs.declared.named_rows.NamedEvent.{NamedEvent}
use Rattle.kt_spacetime.specs.declared.named_rows.NamedEvent.TheVariants.{Sent, Received, Dropped, Began, Took, Ready, Unwilling, Decided, Closed, Failed, Refused}
use Rattle.kt_spacetime.specs.declared.named_rows.NamedRow.{NamedRow}
use Rattle.kt_merge.specs.declared.part_rows.EventWord.{EventWord}
use Rattle.kt_merge.specs.declared.part_rows.EventWord.TheVariants as word
use Rattle.kt_merge.specs.declared.part_rows.FieldFault.{FieldFault}
use Rattle.kt_merge.specs.declared.part_rows.FieldFault.TheVariants as fault
use Rattle.kt_spacetime.specs.declared.named_rows.ClockedRow.{ClockedRow}
use Rattle.kt_merge.specs.PartSlot.{PartSlot}
use Rattle.kt_merge.specs.PartSlot as slot
use Rattle.kt_text.specs.Words.{kind_word, decision_word}

-- a mark, a process as it is spelled, a dot, a count
abbrev pub name_word : ℕ → List ℕ → ℕ → List ℕ
name_word mark process count = mark ∷ (process ++ 46 ∷ decimal count)

-- `m` and `i` mark messages and instances
abbrev pub message_word : ℕ → ℕ → List ℕ
message_word p label = name_word 109 (decimal p) label

abbrev pub instance_word : InstName → List ℕ
instance_word inst = name_word 105 (decimal inst.initiator) inst.count

-- how a cause is spelled
abbrev pub named_cause_word : NamedCause → List ℕ
named_cause_word (Busy inst) = codes "busy-" ++ instance_word inst
named_cause_word Down = codes "down"
named_cause_word NoSave = codes "nosave"

-- the word that names what a row says
abbrev pub event_word : EventWord → List ℕ
event_word word.Sent = codes "sent"
event_word word.Received = codes "received"
event_word word.Dropped = codes "dropped"
event_word word.Began = codes "began"
event_word word.Took = codes "took"
event_word word.Ready = codes "ready"
event_word word.Unwilling = codes "unwilling"
event_word word.Decided = codes "decided"
event_word word.Closed = codes "closed"
event_word word.Failed = codes "failed"
event_word word.Refused = codes "refused"

-- the fields of a process's row by names
abbrev pub fields_by : ℕ → NamedEvent → List (List ℕ)
fields_by p (Sent to body label) = codes "sent" ∷ decimal p ∷ decimal to ∷ signed_decimal body ∷ message_word p label ∷ []
fields_by p (Received from label) = codes "received" ∷ decimal p ∷ decimal from ∷ message_word from label ∷ codes "-" ∷ []
fields_by p (Dropped from label) = codes "dropped" ∷ decimal p ∷ decimal from ∷ message_word from label ∷ codes "-" ∷ []
fields_by p (Began inst kind) = codes "began" ∷ decimal p ∷ instance_word inst ∷ kind_word kind ∷ codes "-" ∷ []
fields_by p (Took inst) = codes "took" ∷ decimal p ∷ instance_word inst ∷ codes "-" ∷ codes "-" ∷ []
fields_by p (Ready inst) = codes "ready" ∷ decimal p ∷ instance_word inst ∷ codes "-" ∷ codes "-" ∷ []
fields_by p (Unwilling inst cause) = codes "unwilling" ∷ decimal p ∷ instance_word inst ∷ named_cause_word cause ∷ codes "-" ∷ []
fields_by p (Decided inst commit) = codes "decided" ∷ decimal p ∷ instance_word inst ∷ decision_word commit ∷ codes "-" ∷ []
fields_by p (Closed inst) = codes "closed" ∷ decimal p ∷ instance_word inst ∷ codes "-" ∷ codes "-" ∷ []
fields_by p Failed = codes "failed" ∷ decimal p ∷ codes "-" ∷ codes "-" ∷ codes "-" ∷ []
fields_by p (Refused verb cause) = codes "refused" ∷ decimal p ∷ verb_word verb ∷ named_cause_word cause ∷ codes "-" ∷ []

abbrev pub event_spelling : NamedRow → List (List ℕ)
event_spelling row = fields_by row.p row.event

-- the six fields of a row
abbrev pub part_spelling : ClockedRow → List (List ℕ)
part_spelling row = decimal row.clock ∷ event_spelling row.row

-- an instance that a process begins or decides is its own
abbrev pub IsOwn : ℕ → NamedEvent → Type 0
IsOwn p (Began inst kind) = inst.initiator ≡ p
IsOwn p (Decided inst commit) = inst.initiator ≡ p
IsOwn p _ = Unit {0}

-- a row's numbers are in range, and the instance that it begins or decides is its process's own
abbrev pub IsFormed : NamedRow → Type 0
IsFormed row = IsProcNo row.p × IsNamedInRange row.event × IsOwn row.p row.event

-- a text spells what may stand in a field
abbrev pub FitsPartSlot : PartSlot → List ℕ → Type 0
FitsPartSlot slot.clock text = (n : ℕ) × (n < 2 ^ 64) × (text ≡ decimal n)
FitsPartSlot slot.process text = (p : ℕ) × IsProcNo p × (text ≡ decimal p)
FitsPartSlot (slot.message process) text = (n : ℕ) × IsCount n × (text ≡ name_word 109 process n)
FitsPartSlot (slot.own_instance process) text = (n : ℕ) × IsCount n × (text ≡ name_word 105 process n)
FitsPartSlot slot.instance text = (i : InstName) × IsInstNameInRange i × (text ≡ instance_word i)
FitsPartSlot slot.body text = (z : ℤ) × FitsSigned w64 z × (text ≡ signed_decimal z)
FitsPartSlot slot.nothing text = text ≡ codes "-"
FitsPartSlot slot.kind text = (k : Kind) × (text ≡ kind_word k)
FitsPartSlot slot.decision text = (commit : Bool) × (text ≡ decision_word commit)
FitsPartSlot slot.verb text = (v : Verb) × (text ≡ verb_word v)
FitsPartSlot slot.cause text = (c : NamedCause) × IsNamedCauseInRange c × (text ≡ named_cause_word c)

-- which fault a text is that does not fit
abbrev pub part_misfit : PartSlot → List ℕ → FieldFault
part_misfit slot.nothing text = fault.Word
part_misfit slot.kind text = fault.Word
part_misfit slot.decision text = fault.Word
part_misfit slot.verb text = fault.Word
part_misfit slot.cause text = if starts_with nat_eq text (codes "busy-") then fault.Number else fault.Word
part_misfit _ text = fault.Number

-- a text does not fit, and this is the fault
abbrev pub IsPartMisfit : PartSlot → List ℕ → FieldFault → Type 0
IsPartMisfit slot text f = (f ≡ part_misfit slot text) × (FitsPartSlot slot text → ⊥)

-- of four texts the first that does not fit gives the fault
abbrev pub IsFirstPartMisfit : PartSlot → PartSlot → PartSlot → PartSlot → List ℕ → List ℕ → List ℕ → List ℕ → FieldFault → Type 0
IsFirstPartMisfit x y z w a b c d f =
    IsPartMisfit x a f
    ⊎ ((FitsPartSlot x a × IsPartMisfit y b f)
    ⊎ ((FitsPartSlot x a × FitsPartSlot y b × IsPartMisfit z c f)
    ⊎ (FitsPartSlot x a × FitsPartSlot y b × FitsPartSlot z c × IsPartMisfit w d f)))

-- what may stand in the fields after a row's word, and the first that does not fit
abbrev pub IsFaultAfterWord : EventWord → List ℕ → List ℕ → List ℕ → List ℕ → FieldFault → Type 0
IsFaultAfterWord word.Sent a b c d f = IsFirstPartMisfit slot.process slot.process slot.body (slot.message a) a b c d f
IsFaultAfterWord word.Received a b c d f = IsFirstPartMisfit slot.process slot.process (slot.message b) slot.nothing a b c d f
IsFaultAfterWord word.Dropped a b c d f = IsFirstPartMisfit slot.process slot.process (slot.message b) slot.nothing a b c d f
IsFaultAfterWord word.Began a b c d f = IsFirstPartMisfit slot.process (slot.own_instance a) slot.kind slot.nothing a b c d f
IsFaultAfterWord word.Took a b c d f = IsFirstPartMisfit slot.process slot.instance slot.nothing slot.nothing a b c d f
IsFaultAfterWord word.Ready a b c d f = IsFirstPartMisfit slot.process slot.instance slot.nothing slot.nothing a b c d f
IsFaultAfterWord word.Unwilling a b c d f = IsFirstPartMisfit slot.process slot.instance slot.cause slot.nothing a b c d f
IsFaultAfterWord word.Decided a b c d f = IsFirstPartMisfit slot.process (slot.own_instance a) slot.decision slot.nothing a b c d f
IsFaultAfterWord word.Closed a b c d f = IsFirstPartMisfit slot.process slot.instance slot.nothing slot.nothing a b c d f
IsFaultAfterWord word.Failed a b c d f = IsFirstPartMisfit slot.process slot.nothing slot.nothing slot.nothing a b c d f
IsFaultAfterWord word.Refused a b c d f = IsFirstPartMisfit slot.process slot.verb slot.cause slot.nothing a b c d f

-- what is first wrong in six fields: the clock, the word, or a field after it
abbrev pub IsFieldFault : List ℕ → List ℕ → List ℕ → List ℕ → List ℕ → List ℕ → FieldFault → Type 0
IsFieldFault time w a b c d f =
    IsPartMisfit slot.clock time f
    ⊎ ((FitsPartSlot slot.clock time × (f ≡ fault.Word) × ((v : EventWord) → w ≢ event_word v))
    ⊎ ((v : EventWord) × FitsPartSlot slot.clock time × (w ≡ event_word v) × IsFaultAfterWord v a b c d f))
