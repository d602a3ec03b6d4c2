-- The fields of a row spell that row alone, and none of them is wrong.
use Rattle.std.proofs.Common.{◌≡◌, ◌∙◌, ◌<◌, ◌^◌, ℕ, List, [], ◌∷◌, length, refl, sym, ap, subst, arith, rules, inl, inr, codes}
use Rattle.std.specs.Prelude.{Bool, true, false, if◌then◌else◌, FitsSigned, ℤ, pos, negsuc}
use Rattle.std.specs.Int.{w64}
use Rattle.std.specs.Int.Signed.{mag}
use Rattle.std.specs.Str.{bytes_eq}
use Rattle.std.specs.Fmt.{decimal, signed_decimal}
use Rattle.std.proofs.lemmas.Fmt.{decimal_injective, signed_decimal_injective}
use Rattle.kt_base.specs.Numbers.{IsProcNo, IsMsgNo, IsInstNo}
use Rattle.kt_base.specs.declared.words.Kind.{Kind}
use Rattle.kt_base.specs.declared.words.Kind.TheVariants.{Checkpoint, Rollback}
use Rattle.kt_base.specs.declared.words.Verb.{Verb}
use Rattle.kt_base.specs.declared.words.Verb.TheVariants as verb
use Rattle.kt_base.specs.declared.words.Cause.{Cause}
use Rattle.kt_base.specs.declared.words.Cause.TheVariants.{Busy, Down, NoSave}
use Rattle.kt_spacetime.specs.declared.event.Event.{Event}
use Rattle.kt_spacetime.specs.declared.event.Event.TheVariants.{Sent, Received, Dropped, Began, Took, Ready, Unwilling, Decided, Closed, Failed, Refused}
use Rattle.kt_log_text.specs.declared.rows.Format.{Format}
use Rattle.kt_log_text.specs.declared.rows.RowFault.{RowFault}
use Rattle.kt_log_text.specs.declared.rows.RowWord.{RowWord}
use Rattle.kt_log_text.specs.declared.rows.RowWord.TheVariants as row
use Rattle.kt_log_text.specs.Slot.{Slot}
use Rattle.kt_log_text.specs.Slot as slot
use Rattle.kt_spacetime.specs.Events.{IsRowInRange, IsCauseInRange}
use Rattle.kt_text.specs.Words.{kind_word, decision_word}
use Rattle.kt_text.proofs.FieldFacts.{field_1, field_2, field_3, field_4}
use Rattle.kt_log_text.specs.Spelling.{spelling, row_word, verb_word, cause_word, IsInFormat, FitsRowSlot, IsFirstRowMisfit, IsRowFaultAfter, IsRowFieldFault}

-- the word that a row begins with
abbrev word_of : Event → RowWord
word_of (Sent p to body) = row.Sent
word_of (Received p from msg) = row.Received
word_of (Dropped p from msg) = row.Dropped
word_of (Began p inst kind) = row.Began
word_of (Took p inst) = row.Took
word_of (Ready p inst) = row.Ready
word_of (Unwilling p inst cause) = row.Unwilling
word_of (Decided p inst commit) = row.Decided
word_of (Closed p inst) = row.Closed
word_of (Failed p) = row.Failed
word_of (Refused p verb cause) = row.Refused

-- the word that a text is
abbrev word_in : List ℕ → RowWord
word_in text =
    if bytes_eq text (codes "sent") then row.Sent else
    (if bytes_eq text (codes "received") then row.Received else
    (if bytes_eq text (codes "dropped") then row.Dropped else
    (if bytes_eq text (codes "began") then row.Began else
    (if bytes_eq text (codes "took") then row.Took else
    (if bytes_eq text (codes "ready") then row.Ready else
    (if bytes_eq text (codes "unwilling") then row.Unwilling else
    (if bytes_eq text (codes "decided") then row.Decided else
    (if bytes_eq text (codes "closed") then row.Closed else
    (if bytes_eq text (codes "failed") then row.Failed else row.Refused)))))))))

word_back : (w : RowWord) → word_in (row_word w) ≡ w
word_back row.Sent = refl
word_back row.Received = refl
word_back row.Dropped = refl
word_back row.Began = refl
word_back row.Took = refl
word_back row.Ready = refl
word_back row.Unwilling = refl
word_back row.Decided = refl
word_back row.Closed = refl
word_back row.Failed = refl
word_back row.Refused = refl

-- a text is one word of a row
pub one_word : (w v : RowWord) → row_word w ≡ row_word v → w ≡ v
one_word w v e = sym (word_back w) ∙ ap word_in e ∙ word_back v

begins_with_word : (a : Event) → field_1 (spelling a) ≡ row_word (word_of a)
begins_with_word (Sent p to body) = refl
begins_with_word (Received p from msg) = refl
begins_with_word (Dropped p from msg) = refl
begins_with_word (Began p inst kind) = refl
begins_with_word (Took p inst) = refl
begins_with_word (Ready p inst) = refl
begins_with_word (Unwilling p inst cause) = refl
begins_with_word (Decided p inst commit) = refl
begins_with_word (Closed p inst) = refl
begins_with_word (Failed p) = refl
begins_with_word (Refused p verb cause) = refl

same_word : (a b : Event) → spelling a ≡ spelling b → word_of a ≡ word_of b
same_word a b e = one_word (word_of a) (word_of b) (sym (begins_with_word a) ∙ ap field_1 e ∙ begins_with_word b)

-- a text is one process, one instance, one message, one body
one_process : (p q : ℕ) → IsProcNo p → IsProcNo q → decimal p ≡ decimal q → p ≡ q
one_process p q r s e = decimal_injective p q (omega (arith, r)) (omega (arith, s)) e

one_instance : (k l : ℕ) → IsInstNo k → IsInstNo l → decimal k ≡ decimal l → k ≡ l
one_instance k l r s e = decimal_injective k l (omega (arith, r.1)) (omega (arith, s.1)) e

one_message : (m n : ℕ) → IsMsgNo m → IsMsgNo n → decimal m ≡ decimal n → m ≡ n
one_message m n r s e = decimal_injective m n (omega (arith, r.1)) (omega (arith, s.1)) e

small : (z : ℤ) → FitsSigned w64 z → mag z < 2 ^ 63
small (pos n) f = search (rules, f)
small (negsuc n) f = search (rules, f)

one_body : (y z : ℤ) → FitsSigned w64 y → FitsSigned w64 z → signed_decimal y ≡ signed_decimal z → y ≡ z
one_body y z r s e = signed_decimal_injective y z (small y r) (small z s) e

-- a text is one kind, one decision, one verb, one cause
abbrev kind_in : List ℕ → Kind
kind_in text = if bytes_eq text (codes "checkpoint") then Checkpoint else Rollback

kind_back : (k : Kind) → kind_in (kind_word k) ≡ k
kind_back Checkpoint = refl
kind_back Rollback = refl

one_kind : (k l : Kind) → kind_word k ≡ kind_word l → k ≡ l
one_kind k l e = sym (kind_back k) ∙ ap kind_in e ∙ kind_back l

abbrev decision_in : List ℕ → Bool
decision_in text = bytes_eq text (codes "commit")

decision_back : (commit : Bool) → decision_in (decision_word commit) ≡ commit
decision_back true = refl
decision_back false = refl

one_decision : (a b : Bool) → decision_word a ≡ decision_word b → a ≡ b
one_decision a b e = sym (decision_back a) ∙ ap decision_in e ∙ decision_back b

abbrev verb_in : List ℕ → Verb
verb_in text =
    if bytes_eq text (codes "send") then verb.Send else
    (if bytes_eq text (codes "checkpoint") then verb.Checkpoint else
    (if bytes_eq text (codes "rollback") then verb.Rollback else verb.Fail))

verb_back : (v : Verb) → verb_in (verb_word v) ≡ v
verb_back verb.Send = refl
verb_back verb.Checkpoint = refl
verb_back verb.Rollback = refl
verb_back verb.Fail = refl

one_verb : (v w : Verb) → verb_word v ≡ verb_word w → v ≡ w
one_verb v w e = sym (verb_back v) ∙ ap verb_in e ∙ verb_back w

-- which of the causes a text begins as, and the number after `busy-`
abbrev cause_tag : List ℕ → ℕ
cause_tag [] = 0
cause_tag (c ∷ rest) = c

abbrev busy_rest : List ℕ → List ℕ
busy_rest (b ∷ u ∷ s ∷ y ∷ dash ∷ rest) = rest
busy_rest _ = []

one_cause : (a b : Cause) → IsCauseInRange a → IsCauseInRange b → cause_word a ≡ cause_word b → a ≡ b
one_cause (Busy k) (Busy l) r s e = ap Busy (one_instance k l r s (ap busy_rest e))
one_cause (Busy k) Down r s e = let t : 98 ≡ 100 = ap cause_tag e in absurd (omega (arith, t))
one_cause (Busy k) NoSave r s e = let t : 98 ≡ 110 = ap cause_tag e in absurd (omega (arith, t))
one_cause Down (Busy l) r s e = let t : 100 ≡ 98 = ap cause_tag e in absurd (omega (arith, t))
one_cause Down Down r s e = refl
one_cause Down NoSave r s e = let t : 100 ≡ 110 = ap cause_tag e in absurd (omega (arith, t))
one_cause NoSave (Busy l) r s e = let t : 110 ≡ 98 = ap cause_tag e in absurd (omega (arith, t))
one_cause NoSave Down r s e = let t : 110 ≡ 100 = ap cause_tag e in absurd (omega (arith, t))
one_cause NoSave NoSave r s e = refl

-- the fields of a row spell that row alone
pub one_row : (a b : Event) → IsRowInRange a → IsRowInRange b → spelling a ≡ spelling b → a ≡ b
one_row (Sent p to body) (Sent q u other) r s e =
    cc (one_process p q r.0 s.0 (ap field_2 e), one_process to u r.1 s.1 (ap field_3 e), one_body body other r.2 s.2 (ap field_4 e))
one_row (Received p from msg) (Received q f other) r s e =
    cc (one_process p q r.0 s.0 (ap field_2 e), one_process from f r.1 s.1 (ap field_3 e), one_message msg other r.2 s.2 (ap field_4 e))
one_row (Dropped p from msg) (Dropped q f other) r s e =
    cc (one_process p q r.0 s.0 (ap field_2 e), one_process from f r.1 s.1 (ap field_3 e), one_message msg other r.2 s.2 (ap field_4 e))
one_row (Began p inst kind) (Began q i other) r s e =
    cc (one_process p q r.0 s.0 (ap field_2 e), one_instance inst i r.1 s.1 (ap field_3 e), one_kind kind other (ap field_4 e))
one_row (Took p inst) (Took q i) r s e = cc (one_process p q r.0 s.0 (ap field_2 e), one_instance inst i r.1 s.1 (ap field_3 e))
one_row (Ready p inst) (Ready q i) r s e = cc (one_process p q r.0 s.0 (ap field_2 e), one_instance inst i r.1 s.1 (ap field_3 e))
one_row (Unwilling p inst cause) (Unwilling q i other) r s e =
    cc (one_process p q r.0 s.0 (ap field_2 e), one_instance inst i r.1 s.1 (ap field_3 e), one_cause cause other r.2 s.2 (ap field_4 e))
one_row (Decided p inst commit) (Decided q i other) r s e =
    cc (one_process p q r.0 s.0 (ap field_2 e), one_instance inst i r.1 s.1 (ap field_3 e), one_decision commit other (ap field_4 e))
one_row (Closed p inst) (Closed q i) r s e = cc (one_process p q r.0 s.0 (ap field_2 e), one_instance inst i r.1 s.1 (ap field_3 e))
one_row (Failed p) (Failed q) r s e = ap Failed (one_process p q r s (ap field_2 e))
one_row (Refused p verb cause) (Refused q v other) r s e =
    cc (one_process p q r.0 s.0 (ap field_2 e), one_verb verb v (ap field_3 e), one_cause cause other r.1 s.1 (ap field_4 e))
one_row a b r s e = let t : word_of a ≡ word_of b = same_word a b e in cc t

-- three texts that fit have no first one that does not
none_wrong : (format : Format) (x y z : Slot) (a b c : List ℕ) (f : RowFault) → FitsRowSlot format x a → FitsRowSlot format y b → FitsRowSlot format z c → IsFirstRowMisfit format x y z a b c f → ⊥
none_wrong format x y z a b c f p q r (inl h) = h.1 p
none_wrong format x y z a b c f p q r (inr (inl h)) = h.1.1 q
none_wrong format x y z a b c f p q r (inr (inr h)) = h.2.1 r

-- the fields after a row's word are not wrong
right_after : (format : Format) (a : Event) (f : RowFault) → IsRowInRange a → IsInFormat format a
    → IsRowFaultAfter format (word_of a) (field_2 (spelling a)) (field_3 (spelling a)) (field_4 (spelling a)) f → ⊥
right_after format (Sent p to body) f r n h = none_wrong format slot.process slot.process slot.body _ _ _ f (p, r.0, refl) (to, r.1, refl) (body, r.2, refl) h
right_after format (Received p from msg) f r n h = none_wrong format slot.process slot.process slot.message _ _ _ f (p, r.0, refl) (from, r.1, refl) (msg, r.2.0, n, refl) h
right_after format (Dropped p from msg) f r n h = none_wrong format slot.process slot.process slot.message _ _ _ f (p, r.0, refl) (from, r.1, refl) (msg, r.2.0, n, refl) h
right_after format (Began p inst kind) f r n h = none_wrong format slot.process slot.instance slot.kind _ _ _ f (p, r.0, refl) (inst, r.1, refl) (kind, refl) h
right_after format (Took p inst) f r n h = none_wrong format slot.process slot.instance slot.nothing _ _ _ f (p, r.0, refl) (inst, r.1, refl) refl h
right_after format (Ready p inst) f r n h = none_wrong format slot.process slot.instance slot.nothing _ _ _ f (p, r.0, refl) (inst, r.1, refl) refl h
right_after format (Unwilling p inst cause) f r n h = none_wrong format slot.process slot.instance slot.cause _ _ _ f (p, r.0, refl) (inst, r.1, refl) (cause, r.2, refl) h
right_after format (Decided p inst commit) f r n h = none_wrong format slot.process slot.instance slot.decision _ _ _ f (p, r.0, refl) (inst, r.1, refl) (commit, refl) h
right_after format (Closed p inst) f r n h = none_wrong format slot.process slot.instance slot.nothing _ _ _ f (p, r.0, refl) (inst, r.1, refl) refl h
right_after format (Failed p) f r n h = none_wrong format slot.process slot.nothing slot.nothing _ _ _ f (p, r, refl) refl refl h
right_after format (Refused p verb cause) f r n h = none_wrong format slot.process slot.verb slot.cause _ _ _ f (p, r.0, refl) (verb, refl) (cause, r.1, refl) h

-- a record that spells a row has no wrong field
pub none_wrong_in : (format : Format) (event : Event) (w a b c : List ℕ) (f : RowFault) → IsRowInRange event → IsInFormat format event
    → spelling event ≡ w ∷ a ∷ b ∷ c ∷ [] → IsRowFieldFault format w a b c f → ⊥
none_wrong_in format event w a b c f r n e (inl h) = h.1 (word_of event) (sym (ap field_1 e) ∙ begins_with_word event)
none_wrong_in format event w a b c f r n e (inr (v, is, h)) =
    let same : v ≡ word_of event = one_word v (word_of event) (sym is ∙ sym (ap field_1 e) ∙ begins_with_word event) in
    let at_word = subst (λ (u : RowWord). IsRowFaultAfter format u a b c f) same h in
    let at_first = subst (λ (x : List ℕ). IsRowFaultAfter format (word_of event) x b c f) (sym (ap field_2 e)) at_word in
    let at_second = subst (λ (x : List ℕ). IsRowFaultAfter format (word_of event) (field_2 (spelling event)) x c f) (sym (ap field_3 e)) at_first in
    right_after format event f r n (subst (λ (x : List ℕ). IsRowFaultAfter format (word_of event) (field_2 (spelling event)) (field_3 (spelling event)) x f) (sym (ap field_4 e)) at_second)

-- a row has four fields
pub four_fields : (a : Event) → length (spelling a) ≡ 4
four_fields (Sent p to body) = refl
four_fields (Received p from msg) = refl
four_fields (Dropped p from msg) = refl
four_fields (Began p inst kind) = refl
four_fields (Took p inst) = refl
four_fields (Ready p inst) = refl
four_fields (Unwilling p inst cause) = refl
four_fields (Decided p inst commit) = refl
four_fields (Closed p inst) = refl
four_fields (Failed p) = refl
four_fields (Refused p verb cause) = refl
