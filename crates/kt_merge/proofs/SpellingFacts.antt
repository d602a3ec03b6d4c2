-- The fields of a part's row spell that row alone, and none of them is wrong.
use Rattle.std.proofs.Common.{◌≡◌, ◌≢◌, ◌∙◌, ℕ, List, [], ◌∷◌, ◌++◌, length, refl, sym, ap, subst, arith, inl, inr, codes}
use Rattle.std.specs.Prelude.{Bool, true, false, if◌then◌else◌, FitsSigned, ℤ}
use Rattle.std.specs.Int.{w64}
use Rattle.std.specs.Str.{bytes_eq}
use Rattle.std.specs.Str.Parse.{AllDigits}
use Rattle.std.specs.Fmt.{decimal, signed_decimal}
use Rattle.std.proofs.lemmas.Fmt.{decimal_injective, signed_decimal_injective, decimal_is_IsNumeral}
use Rattle.std.proofs.lemmas.List.{append_cancel_left}
use Rattle.std.proofs.lemmas.Str.Parse.{digit_from_value}
use Rattle.kt_base.specs.Numbers.{IsProcNo}
use Rattle.kt_base.specs.declared.words.Kind.{Kind}
use Rattle.kt_base.specs.declared.words.Kind.TheVariants.{Checkpoint, Rollback}
use Rattle.kt_base.specs.declared.words.Verb.{Verb}
use Rattle.kt_base.specs.declared.words.Verb.TheVariants as verb
use Rattle.kt_text.specs.Words.{kind_word, decision_word}
use Rattle.kt_text.proofs.NumberFacts.{small_body}
use Rattle.kt_log_text.specs.Spelling.{verb_word}
use Rattle.kt_spacetime.specs.Counts.{IsCount}
use Rattle.kt_spacetime.specs.NamedRows.{IsInstNameInRange, IsNamedCauseInRange, IsNamedInRange}
use Rattle.kt_spacetime.specs.declared.names.InstName.{InstName}
use Rattle.kt_spacetime.specs.declared.named_rows.NamedCause.{NamedCause}
use Rattle.kt_spacetime.specs.declared.named_rows.NamedCause.TheVariants.{Busy, Down, NoSave}
use Rattle.kt_spacetime.specs.declared.named_rows.NamedEvent.{NamedEvent}
use Rattle.kt_spacetime.specs.declared.named_rows.NamedEvent.TheVariants.{Sent, Received, Dropped, Began, Took, Ready, Unwilling, Decided, Closed, Failed, Refused}
use Rattle.kt_merge.specs.declared.part_rows.EventWord.{EventWord}
use Rattle.kt_merge.specs.declared.part_rows.EventWord.TheVariants as word
use Rattle.kt_merge.specs.declared.part_rows.FieldFault.{FieldFault}
use Rattle.kt_spacetime.specs.declared.named_rows.ClockedRow.{ClockedRow}
use Rattle.kt_merge.specs.PartSlot.{PartSlot}
use Rattle.kt_merge.specs.PartSlot as slot
use Rattle.kt_merge.specs.Spelling.{name_word, message_word, instance_word, named_cause_word, event_word, fields_by, part_spelling, IsOwn, FitsPartSlot, IsFirstPartMisfit, IsFaultAfterWord, IsFieldFault}
use Rattle.kt_merge.specs.Texts.{IsSpellable}

-- the word of a row
abbrev word_of : NamedEvent → EventWord
word_of (Sent to body label) = word.Sent
word_of (Received from label) = word.Received
word_of (Dropped from label) = word.Dropped
word_of (Began inst kind) = word.Began
word_of (Took inst) = word.Took
word_of (Ready inst) = word.Ready
word_of (Unwilling inst cause) = word.Unwilling
word_of (Decided inst commit) = word.Decided
word_of (Closed inst) = word.Closed
word_of Failed = word.Failed
word_of (Refused verb cause) = word.Refused

-- the word that a text is
abbrev word_in : List ℕ → EventWord
word_in text =
    if bytes_eq text (codes "sent") then word.Sent else
    (if bytes_eq text (codes "received") then word.Received else
    (if bytes_eq text (codes "dropped") then word.Dropped else
    (if bytes_eq text (codes "began") then word.Began else
    (if bytes_eq text (codes "took") then word.Took else
    (if bytes_eq text (codes "ready") then word.Ready else
    (if bytes_eq text (codes "unwilling") then word.Unwilling else
    (if bytes_eq text (codes "decided") then word.Decided else
    (if bytes_eq text (codes "closed") then word.Closed else
    (if bytes_eq text (codes "failed") then word.Failed else word.Refused)))))))))

word_back : (w : EventWord) → word_in (event_word w) ≡ w
word_back word.Sent = refl
word_back word.Received = refl
word_back word.Dropped = refl
word_back word.Began = refl
word_back word.Took = refl
word_back word.Ready = refl
word_back word.Unwilling = refl
word_back word.Decided = refl
word_back word.Closed = refl
word_back word.Failed = refl
word_back word.Refused = refl

-- a text is one word of a row
pub one_word : (w v : EventWord) → event_word w ≡ event_word v → w ≡ v
one_word w v e = sym (word_back w) ∙ ap word_in e ∙ word_back v

-- the fields after the clock
abbrev first_field : List (List ℕ) → List ℕ
first_field [] = []
first_field (x ∷ rest) = x

begins_with_word : (p : ℕ) (a : NamedEvent) → first_field (fields_by p a) ≡ event_word (word_of a)
begins_with_word p (Sent to body label) = refl
begins_with_word p (Received from label) = refl
begins_with_word p (Dropped from label) = refl
begins_with_word p (Began inst kind) = refl
begins_with_word p (Took inst) = refl
begins_with_word p (Ready inst) = refl
begins_with_word p (Unwilling inst cause) = refl
begins_with_word p (Decided inst commit) = refl
begins_with_word p (Closed inst) = refl
begins_with_word p Failed = refl
begins_with_word p (Refused verb cause) = refl

same_word : (p q : ℕ) (a b : NamedEvent) → fields_by p a ≡ fields_by q b → word_of a ≡ word_of b
same_word p q a b e = one_word (word_of a) (word_of b) (sym (begins_with_word p a) ∙ ap first_field e ∙ begins_with_word q b)

-- a text is one process, one count, one body
one_process : (p q : ℕ) → IsProcNo p → IsProcNo q → decimal p ≡ decimal q → p ≡ q
one_process p q r s e = decimal_injective p q (omega (arith, r)) (omega (arith, s)) e

one_count : (m n : ℕ) → IsCount m → IsCount n → decimal m ≡ decimal n → m ≡ n
one_count m n r s e = decimal_injective m n (omega (arith, r.1)) (omega (arith, s.1)) e

one_body : (y z : ℤ) → FitsSigned w64 y → FitsSigned w64 z → signed_decimal y ≡ signed_decimal z → y ≡ z
one_body y z r s e = signed_decimal_injective y z (small_body y r) (small_body z s) e

-- a text without a dot
abbrev NoDot : List ℕ → Type 0
NoDot [] = Unit {0}
NoDot (x ∷ xs) = (x ≢ 46) × NoDot xs

no_dot : (ds : List ℕ) → AllDigits 10 ds → NoDot ds
no_dot [] d = tt
no_dot (x ∷ xs) d =
    let digit = digit_from_value x d.0 in
    ((λ e. absurd (omega (arith, digit, e))), no_dot xs d.1)

process_no_dot : (p : ℕ) → IsProcNo p → NoDot (decimal p)
process_no_dot p l = let numeral = decimal_is_IsNumeral p (omega (arith, l)) in no_dot (decimal p) numeral.0.1

-- what stands before the first dot, and behind it
dotted : (xs ys us vs : List ℕ) → NoDot xs → NoDot ys → xs ++ 46 ∷ us ≡ ys ++ 46 ∷ vs → (xs ≡ ys) × (us ≡ vs)
dotted [] [] us vs n m e = (refl, cc e)
dotted [] (y ∷ ys) us vs n m e = let same : 46 ≡ y = cc e in absurd (m.0 (sym same))
dotted (x ∷ xs) [] us vs n m e = let same : x ≡ 46 = cc e in absurd (n.0 same)
dotted (x ∷ xs) (y ∷ ys) us vs n m e =
    let here : x ≡ y = cc e in
    let after : xs ++ 46 ∷ us ≡ ys ++ 46 ∷ vs = cc e in
    let rest = dotted xs ys us vs n.1 m.1 after in
    (cc (here, rest.0), rest.1)

-- a name of a process's own is one count
pub one_own : (mark : ℕ) (process : List ℕ) (m n : ℕ) → IsCount m → IsCount n → name_word mark process m ≡ name_word mark process n → m ≡ n
one_own mark process m n r s e =
    let after : process ++ 46 ∷ decimal m ≡ process ++ 46 ∷ decimal n = cc e in
    let behind = append_cancel_left process (46 ∷ decimal m) (46 ∷ decimal n) after in
    let same : decimal m ≡ decimal n = cc behind in
    one_count m n r s same

-- a name is one process and one count
pub one_name : (mark p q m n : ℕ) → IsProcNo p → IsProcNo q → IsCount m → IsCount n → name_word mark (decimal p) m ≡ name_word mark (decimal q) n → (p ≡ q) × (m ≡ n)
one_name mark p q m n l k r s e =
    let after : decimal p ++ 46 ∷ decimal m ≡ decimal q ++ 46 ∷ decimal n = cc e in
    let parts = dotted (decimal p) (decimal q) (decimal m) (decimal n) (process_no_dot p l) (process_no_dot q k) after in
    (one_process p q l k parts.0, one_count m n r s parts.1)

same_inst : (i j : InstName) → i.initiator ≡ j.initiator → i.count ≡ j.count → i ≡ j
same_inst i j e f =
    let with_initiator : InstName = record { initiator = j.initiator; count = i.count } in
    let a : i ≡ with_initiator = ap (λ (p : ℕ). let k : InstName = record { initiator = p; count = i.count } in k) e in
    let b : with_initiator ≡ j = ap (λ (c : ℕ). let k : InstName = record { initiator = j.initiator; count = c } in k) f in
    a ∙ b

pub one_instance : (i j : InstName) → IsInstNameInRange i → IsInstNameInRange j → instance_word i ≡ instance_word j → i ≡ j
one_instance i j r s e = let both = one_name 105 i.initiator j.initiator i.count j.count r.0 s.0 r.1 s.1 e in same_inst i j both.0 both.1

one_message : (from m n : ℕ) → IsCount m → IsCount n → message_word from m ≡ message_word from n → m ≡ n
one_message from m n r s e = one_own 109 (decimal from) m n r s e

-- a text is one kind, one decision, one verb, one cause
abbrev kind_in : List ℕ → Kind
kind_in text = if bytes_eq text (codes "checkpoint") then Checkpoint else Rollback

kind_back : (k : Kind) → kind_in (kind_word k) ≡ k
kind_back Checkpoint = refl
kind_back Rollback = refl

one_kind : (k l : Kind) → kind_word k ≡ kind_word l → k ≡ l
one_kind k l e = sym (kind_back k) ∙ ap kind_in e ∙ kind_back l

abbrev decision_in : List ℕ → Bool
decision_in text = bytes_eq text (codes "commit")

decision_back : (commit : Bool) → decision_in (decision_word commit) ≡ commit
decision_back true = refl
decision_back false = refl

one_decision : (a b : Bool) → decision_word a ≡ decision_word b → a ≡ b
one_decision a b e = sym (decision_back a) ∙ ap decision_in e ∙ decision_back b

abbrev verb_in : List ℕ → Verb
verb_in text =
    if bytes_eq text (codes "send") then verb.Send else
    (if bytes_eq text (codes "checkpoint") then verb.Checkpoint else
    (if bytes_eq text (codes "rollback") then verb.Rollback else verb.Fail))

verb_back : (v : Verb) → verb_in (verb_word v) ≡ v
verb_back verb.Send = refl
verb_back verb.Checkpoint = refl
verb_back verb.Rollback = refl
verb_back verb.Fail = refl

one_verb : (v w : Verb) → verb_word v ≡ verb_word w → v ≡ w
one_verb v w e = sym (verb_back v) ∙ ap verb_in e ∙ verb_back w

-- which of the causes a text begins as, and the name after `busy-`
abbrev cause_tag : List ℕ → ℕ
cause_tag [] = 0
cause_tag (c ∷ rest) = c

abbrev busy_rest : List ℕ → List ℕ
busy_rest (b ∷ u ∷ s ∷ y ∷ dash ∷ rest) = rest
busy_rest _ = []

one_cause : (a b : NamedCause) → IsNamedCauseInRange a → IsNamedCauseInRange b → named_cause_word a ≡ named_cause_word b → a ≡ b
one_cause (Busy i) (Busy j) r s e = ap Busy (one_instance i j r s (ap busy_rest e))
one_cause (Busy i) Down r s e = let t : 98 ≡ 100 = ap cause_tag e in absurd (omega (arith, t))
one_cause (Busy i) NoSave r s e = let t : 98 ≡ 110 = ap cause_tag e in absurd (omega (arith, t))
one_cause Down (Busy j) r s e = let t : 100 ≡ 98 = ap cause_tag e in absurd (omega (arith, t))
one_cause Down Down r s e = refl
one_cause Down NoSave r s e = let t : 100 ≡ 110 = ap cause_tag e in absurd (omega (arith, t))
one_cause NoSave (Busy j) r s e = let t : 110 ≡ 98 = ap cause_tag e in absurd (omega (arith, t))
one_cause NoSave Down r s e = let t : 110 ≡ 100 = ap cause_tag e in absurd (omega (arith, t))
one_cause NoSave NoSave r s e = refl

-- fields of a row after its word
abbrev field_b : List (List ℕ) → List ℕ
field_b (w ∷ a ∷ b ∷ c ∷ d ∷ rest) = a
field_b _ = []

abbrev field_c : List (List ℕ) → List ℕ
field_c (w ∷ a ∷ b ∷ c ∷ d ∷ rest) = b
field_c _ = []

abbrev field_d : List (List ℕ) → List ℕ
field_d (w ∷ a ∷ b ∷ c ∷ d ∷ rest) = c
field_d _ = []

abbrev field_e : List (List ℕ) → List ℕ
field_e (w ∷ a ∷ b ∷ c ∷ d ∷ rest) = d
field_e _ = []

one_event : (p q : ℕ) (a b : NamedEvent) → IsProcNo p → IsProcNo q → IsNamedInRange a → IsNamedInRange b → fields_by p a ≡ fields_by q b → a ≡ b
one_event p q (Sent to body label) (Sent u other m) k l r s e =
    let same : p ≡ q = one_process p q k l (ap field_b e) in
    let name : message_word p label ≡ message_word p m = ap field_e e ∙ ap (λ (x : ℕ). message_word x m) (sym same) in
    cc (one_process to u r.0 s.0 (ap field_c e), one_body body other r.1 s.1 (ap field_d e), one_message p label m r.2 s.2 name)
one_event p q (Received from label) (Received f m) k l r s e =
    let same : from ≡ f = one_process from f r.0 s.0 (ap field_c e) in
    let name : message_word from label ≡ message_word from m = ap field_d e ∙ ap (λ (x : ℕ). message_word x m) (sym same) in
    cc (same, one_message from label m r.1 s.1 name)
one_event p q (Dropped from label) (Dropped f m) k l r s e =
    let same : from ≡ f = one_process from f r.0 s.0 (ap field_c e) in
    let name : message_word from label ≡ message_word from m = ap field_d e ∙ ap (λ (x : ℕ). message_word x m) (sym same) in
    cc (same, one_message from label m r.1 s.1 name)
one_event p q (Began inst kind) (Began i other) k l r s e = cc (one_instance inst i r s (ap field_c e), one_kind kind other (ap field_d e))
one_event p q (Took inst) (Took i) k l r s e = ap Took (one_instance inst i r s (ap field_c e))
one_event p q (Ready inst) (Ready i) k l r s e = ap Ready (one_instance inst i r s (ap field_c e))
one_event p q (Unwilling inst cause) (Unwilling i other) k l r s e = cc (one_instance inst i r.0 s.0 (ap field_c e), one_cause cause other r.1 s.1 (ap field_d e))
one_event p q (Decided inst commit) (Decided i other) k l r s e = cc (one_instance inst i r s (ap field_c e), one_decision commit other (ap field_d e))
one_event p q (Closed inst) (Closed i) k l r s e = ap Closed (one_instance inst i r s (ap field_c e))
one_event p q Failed Failed k l r s e = refl
one_event p q (Refused verb cause) (Refused v other) k l r s e = cc (one_verb verb v (ap field_c e), one_cause cause other r s (ap field_d e))
one_event p q a b k l r s e = let t : word_of a ≡ word_of b = same_word p q a b e in cc t

-- the second of a row's fields after the clock is its process
process_field : (p : ℕ) (a : NamedEvent) → field_b (fields_by p a) ≡ decimal p
process_field p (Sent to body label) = refl
process_field p (Received from label) = refl
process_field p (Dropped from label) = refl
process_field p (Began inst kind) = refl
process_field p (Took inst) = refl
process_field p (Ready inst) = refl
process_field p (Unwilling inst cause) = refl
process_field p (Decided inst commit) = refl
process_field p (Closed inst) = refl
process_field p Failed = refl
process_field p (Refused verb cause) = refl

same_row : (a b : ClockedRow) → a.clock ≡ b.clock → a.row.p ≡ b.row.p → a.row.event ≡ b.row.event → a ≡ b
same_row a b e f g = at_clock e ∙ (at_process f ∙ at_event g)
  where
    at_clock : a.clock ≡ b.clock → a ≡ record { clock = b.clock; row = record { p = a.row.p; event = a.row.event } }
    at_clock e = ap (λ (c : ℕ). let x : ClockedRow = record { clock = c; row = record { p = a.row.p; event = a.row.event } } in x) e

    at_process : a.row.p ≡ b.row.p → ◌≡◌ {A = ClockedRow} (record { clock = b.clock; row = record { p = a.row.p; event = a.row.event } }) (record { clock = b.clock; row = record { p = b.row.p; event = a.row.event } })
    at_process f = ap (λ (p : ℕ). let x : ClockedRow = record { clock = b.clock; row = record { p = p; event = a.row.event } } in x) f

    at_event : a.row.event ≡ b.row.event → ◌≡◌ {A = ClockedRow} (record { clock = b.clock; row = record { p = b.row.p; event = a.row.event } }) b
    at_event g = ap (λ (event : NamedEvent). let x : ClockedRow = record { clock = b.clock; row = record { p = b.row.p; event = event } } in x) g

-- the fields of a row spell that row alone
pub one_row : (a b : ClockedRow) → IsSpellable a → IsSpellable b → part_spelling a ≡ part_spelling b → a ≡ b
one_row a b r s e =
    let time : decimal a.clock ≡ decimal b.clock = cc e in
    let rest : fields_by a.row.p a.row.event ≡ fields_by b.row.p b.row.event = cc e in
    let process : decimal a.row.p ≡ decimal b.row.p = sym (process_field a.row.p a.row.event) ∙ ap field_b rest ∙ process_field b.row.p b.row.event in
    same_row a b (decimal_injective a.clock b.clock r.0 s.0 time) (one_process a.row.p b.row.p r.1.0 s.1.0 process)
    (one_event a.row.p b.row.p a.row.event b.row.event r.1.0 s.1.0 r.1.1 s.1.1 rest)

-- a row has six fields
five_fields : (p : ℕ) (a : NamedEvent) → length (fields_by p a) ≡ 5
five_fields p (Sent to body label) = refl
five_fields p (Received from label) = refl
five_fields p (Dropped from label) = refl
five_fields p (Began inst kind) = refl
five_fields p (Took inst) = refl
five_fields p (Ready inst) = refl
five_fields p (Unwilling inst cause) = refl
five_fields p (Decided inst commit) = refl
five_fields p (Closed inst) = refl
five_fields p Failed = refl
five_fields p (Refused verb cause) = refl

pub six_fields : (a : ClockedRow) → length (part_spelling a) ≡ 6
six_fields a = omega (arith, five_fields a.row.p a.row.event)

-- four texts that fit have no first one that does not
none_wrong : (x y z w : PartSlot) (a b c d : List ℕ) (f : FieldFault) → FitsPartSlot x a → FitsPartSlot y b → FitsPartSlot z c → FitsPartSlot w d → IsFirstPartMisfit x y z w a b c d f → ⊥
none_wrong x y z w a b c d f p q r s (inl h) = h.1 p
none_wrong x y z w a b c d f p q r s (inr (inl h)) = h.1.1 q
none_wrong x y z w a b c d f p q r s (inr (inr (inl h))) = h.2.1 r
none_wrong x y z w a b c d f p q r s (inr (inr (inr h))) = h.3.1 s

-- an instance of the process itself is spelled as its own
own_fits : (p : ℕ) (inst : InstName) → IsInstNameInRange inst → inst.initiator ≡ p → FitsPartSlot (slot.own_instance (decimal p)) (instance_word inst)
own_fits p inst r own = (inst.count, r.1, ap (λ (q : ℕ). name_word 105 (decimal q) inst.count) own)

-- the fields after a row's word are not wrong
right_after : (p : ℕ) (a : NamedEvent) (f : FieldFault) → IsProcNo p → IsNamedInRange a → IsOwn p a
    → IsFaultAfterWord (word_of a) (field_b (fields_by p a)) (field_c (fields_by p a)) (field_d (fields_by p a)) (field_e (fields_by p a)) f → ⊥
right_after p (Sent to body label) f k r o h =
    none_wrong slot.process slot.process slot.body (slot.message (decimal p)) _ _ _ _ f (p, k, refl) (to, r.0, refl) (body, r.1, refl) (label, r.2, refl) h
right_after p (Received from label) f k r o h =
    none_wrong slot.process slot.process (slot.message (decimal from)) slot.nothing _ _ _ _ f (p, k, refl) (from, r.0, refl) (label, r.1, refl) refl h
right_after p (Dropped from label) f k r o h =
    none_wrong slot.process slot.process (slot.message (decimal from)) slot.nothing _ _ _ _ f (p, k, refl) (from, r.0, refl) (label, r.1, refl) refl h
right_after p (Began inst kind) f k r o h =
    none_wrong slot.process (slot.own_instance (decimal p)) slot.kind slot.nothing _ _ _ _ f (p, k, refl) (own_fits p inst r o) (kind, refl) refl h
right_after p (Took inst) f k r o h = none_wrong slot.process slot.instance slot.nothing slot.nothing _ _ _ _ f (p, k, refl) (inst, r, refl) refl refl h
right_after p (Ready inst) f k r o h = none_wrong slot.process slot.instance slot.nothing slot.nothing _ _ _ _ f (p, k, refl) (inst, r, refl) refl refl h
right_after p (Unwilling inst cause) f k r o h = none_wrong slot.process slot.instance slot.cause slot.nothing _ _ _ _ f (p, k, refl) (inst, r.0, refl) (cause, r.1, refl) refl h
right_after p (Decided inst commit) f k r o h =
    none_wrong slot.process (slot.own_instance (decimal p)) slot.decision slot.nothing _ _ _ _ f (p, k, refl) (own_fits p inst r o) (commit, refl) refl h
right_after p (Closed inst) f k r o h = none_wrong slot.process slot.instance slot.nothing slot.nothing _ _ _ _ f (p, k, refl) (inst, r, refl) refl refl h
right_after p Failed f k r o h = none_wrong slot.process slot.nothing slot.nothing slot.nothing _ _ _ _ f (p, k, refl) refl refl refl h
right_after p (Refused verb cause) f k r o h = none_wrong slot.process slot.verb slot.cause slot.nothing _ _ _ _ f (p, k, refl) (verb, refl) (cause, r, refl) refl h

-- fields of a record with six
abbrev pub six_1 : List (List ℕ) → List ℕ
six_1 (t ∷ w ∷ a ∷ b ∷ c ∷ d ∷ rest) = t
six_1 _ = []

abbrev pub after_clock : List (List ℕ) → List (List ℕ)
after_clock [] = []
after_clock (t ∷ rest) = rest

-- a record that spells a row has no wrong field
pub none_wrong_in : (row : ClockedRow) (t w a b c d : List ℕ) (f : FieldFault) → IsSpellable row → part_spelling row ≡ t ∷ w ∷ a ∷ b ∷ c ∷ d ∷ [] → IsFieldFault t w a b c d f → ⊥
none_wrong_in row t w a b c d f r e (inl h) =
    let time : t ≡ decimal row.clock = cc e in
    h.1 (row.clock, r.0, time)
none_wrong_in row t w a b c d f r e (inr (inl h)) =
    let rest : fields_by row.row.p row.row.event ≡ w ∷ a ∷ b ∷ c ∷ d ∷ [] = cc e in
    h.2 (word_of row.row.event) (sym (ap first_field rest) ∙ begins_with_word row.row.p row.row.event)
none_wrong_in row t w a b c d f r e (inr (inr (v, fits, is, h))) =
    let rest : fields_by row.row.p row.row.event ≡ w ∷ a ∷ b ∷ c ∷ d ∷ [] = ap after_clock e in
    let fields = fields_by row.row.p row.row.event in
    let same : v ≡ word_of row.row.event = one_word v (word_of row.row.event) (sym is ∙ (sym (ap first_field rest) ∙ begins_with_word row.row.p row.row.event)) in
    let at_word = subst (λ (u : EventWord). IsFaultAfterWord u a b c d f) same h in
    let at_a = subst (λ (x : List ℕ). IsFaultAfterWord (word_of row.row.event) x b c d f) (sym (ap field_b rest)) at_word in
    let at_b = subst (λ (x : List ℕ). IsFaultAfterWord (word_of row.row.event) (field_b fields) x c d f) (sym (ap field_c rest)) at_a in
    let at_c = subst (λ (x : List ℕ). IsFaultAfterWord (word_of row.row.event) (field_b fields) (field_c fields) x d f) (sym (ap field_d rest)) at_b in
    right_after row.row.p row.row.event f r.1.0 r.1.1 r.1.2
    (subst (λ (x : List ℕ). IsFaultAfterWord (word_of row.row.event) (field_b fields) (field_c fields) (field_d fields) x f) (sym (ap field_e rest)) at_c)
