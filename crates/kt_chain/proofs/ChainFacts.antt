-- Chains as they are spelled: numbers joined by `/`, or `-`.
use Rattle.std.proofs.Common.{◌≡◌, ◌≢◌, ◌∙◌, ◌<◌, ◌≤◌, ◌^◌, ◌+◌, ◌==◌, ℕ, List, [], ◌∷◌, ◌++◌, ◌%◌, length, map, refl, sym, ap, subst, Option, Some, None, arith, get_or, take, codes, inl, inr}
use Rattle.std.specs.Prelude.{All, Bool, true, false}
use Rattle.std.specs.List.{slice_split, join_with_byte}
use Rattle.std.specs.Fmt.{decimal}
use Rattle.std.proofs.lemmas.Bool.{ne_eqb}
use Rattle.std.proofs.lemmas.Fmt.{decimal_by_steps}
use Rattle.std.proofs.lemmas.List.{get_or-map, map-append, take_more, length-map, length_push}
use Rattle.std.proofs.lemmas.List.Sums.{count_by-le-length}
use Rattle.std.proofs.lemmas.List.Elements.{All-push, All-cons, All-nil, All-head, All-tail, All-weaker}
use Rattle.std.proofs.lemmas.List.Splits.{slice_split_none, slice_split_at, length-slice_split, join_with_byte-slice_split}
use Rattle.kt_base.specs.Numbers.{IsMsgNo}
use Rattle.kt_chain.specs.declared.records.RecordFault.{RecordFault}
use Rattle.kt_chain.specs.declared.records.RecordFault.TheVariants as fault
use Rattle.kt_chain.specs.Spelling.{chain_word, most_messages}
use Rattle.kt_chain.specs.Texts.{IsCertificateMisfit}
use Rattle.kt_chain.specs.Texts as slot
use Rattle.kt_chain.specs.Reading.{OrMemory, IsIfFew}

-- the parts of a text between one `/` and the next
abbrev pub parts_in : List ℕ → List (List ℕ)
parts_in text = slice_split (λ byte. byte == 47) text

-- no byte of a number comes before the digits
pub digits : (n : ℕ) → n < 2 ^ 64 → All (λ (byte : ℕ). 48 ≤ byte) (decimal n)
digits n small = decimal_by_steps (λ n text. All (λ (byte : ℕ). 48 ≤ byte) text)
    (λ n less. All-cons (λ (byte : ℕ). 48 ≤ byte) (48 + n) [] (omega arith) (All-nil (λ (byte : ℕ). 48 ≤ byte)))
    (λ n text more all. All-push (λ (byte : ℕ). 48 ≤ byte) text (48 + n % 10) all (omega arith)) n small

no_slash : (n : ℕ) → IsMsgNo n → All (λ (byte : ℕ). (byte == 47) ≡ false) (decimal n)
no_slash n is = All-weaker (λ (byte : ℕ). 48 ≤ byte) (λ (byte : ℕ). (byte == 47) ≡ false) (λ byte more. ne_eqb byte 47 (λ e. omega (arith, e, more))) (decimal n) (digits n (omega (arith, is.1)))

-- numbers that are joined are the parts again
pub parts_back : (msg : ℕ) (messages : List ℕ) → All IsMsgNo (msg ∷ messages) → parts_in (chain_word (msg ∷ messages)) ≡ map decimal (msg ∷ messages)
parts_back msg [] all = slice_split_none (λ (byte : ℕ). byte == 47) (decimal msg) (no_slash msg (All-head IsMsgNo msg [] all))
parts_back msg (next ∷ messages) all =
    slice_split_at (λ (byte : ℕ). byte == 47) (decimal msg) 47 (chain_word (next ∷ messages)) (no_slash msg (All-head IsMsgNo msg (next ∷ messages) all)) refl
    ∙ ap (λ (x : List (List ℕ)). decimal msg ∷ x) (parts_back next messages (All-tail IsMsgNo msg (next ∷ messages) all))

-- parts that spell numbers are a chain
pub joined_back : (text : List ℕ) (messages : List ℕ) → map decimal messages ≡ parts_in text → text ≡ chain_word messages
joined_back text [] e = absurd (omega (arith, length-slice_split (λ (byte : ℕ). byte == 47) text, ap length e))
joined_back text (msg ∷ messages) e = sym (join_with_byte-slice_split 47 text) ∙ ap (join_with_byte 47) (sym e)

-- a text that is no `-`, and whose parts spell no numbers, is no chain
pub no_chain : (text : List ℕ) → text ≢ codes "-" → ((messages : List ℕ) → All IsMsgNo messages → map decimal messages ≡ parts_in text → ⊥) → (messages : List ℕ) → All IsMsgNo messages → text ≡ chain_word messages → ⊥
no_chain text other none [] all e = other e
no_chain text other none (msg ∷ messages) all e = none (msg ∷ messages) all (sym (parts_back msg messages all) ∙ ap parts_in (sym e))

-- one more part is read
pub reads_more : (messages : List ℕ) (parts : List (List ℕ)) (i msg : ℕ) (part : List ℕ) → map decimal messages ≡ take i parts → i < length parts → get_or parts i part ≡ part → part ≡ decimal msg
    → map decimal (messages ++ msg ∷ []) ≡ take (i + 1) parts
reads_more messages parts i msg part e within at is =
    map-append decimal messages (msg ∷ []) ∙ ap (λ (x : List (List ℕ)). x ++ decimal msg ∷ []) e ∙ ap (λ (x : List ℕ). take i parts ++ x ∷ []) (sym is ∙ sym at) ∙ sym (take_more parts i part within)

-- where a part spells no number, the parts spell none
pub no_number : (parts : List (List ℕ)) (i : ℕ) (part : List ℕ) → i < length parts → get_or parts i part ≡ part → ((msg : ℕ) → IsMsgNo msg → part ≡ decimal msg → ⊥)
    → (messages : List ℕ) → All IsMsgNo messages → map decimal messages ≡ parts → ⊥
no_number parts i part within at none messages all e =
    let long : i < length messages = omega (arith, within, ap length e, length-map messages decimal) in
    none (get_or messages i 0) (all i 0 long) (sym at ∙ ap (λ (x : List (List ℕ)). get_or x i part) (sym e) ∙ get_or-map decimal messages i 0 part long)

-- a chain that is none of numbers does not fit
pub misfit_chain : (text : List ℕ) (parts : List (List ℕ)) (f : RecordFault) → text ≢ codes "-" → parts ≡ parts_in text
    → OrMemory f ((f ≡ fault.Number) × ((messages : List ℕ) → All IsMsgNo messages → map decimal messages ≢ parts)) → OrMemory f (IsCertificateMisfit slot.chain text f)
misfit_chain text parts f other cut (inl e) = inl e
misfit_chain text parts f other cut (inr h) = inr (h.0, λ fit. no_chain text other (λ messages all e. h.1 messages all (e ∙ sym cut)) fit.0 fit.1 fit.2)

-- what is kept of the messages that were read: all, or too few of too many
abbrev pub IsReadSoFar : List ℕ → List ℕ → Bool → Type 0
IsReadSoFar messages chain false = chain ≡ messages
IsReadSoFar messages chain true = most_messages < length messages

-- one more message, which is kept
pub keeps_more : (messages chain : List ℕ) (is_long : Bool) (msg : ℕ) → IsReadSoFar messages chain is_long → IsReadSoFar (messages ++ msg ∷ []) (chain ++ msg ∷ []) is_long
keeps_more messages chain false msg is = ap (λ (x : List ℕ). x ++ msg ∷ []) is
keeps_more messages chain true msg is = omega (arith, is, length_push messages msg)

-- one more message than a chain may have
pub grows_long : (messages chain : List ℕ) (is_long : Bool) (msg : ℕ) → most_messages ≤ length chain → IsReadSoFar messages chain is_long → most_messages < length (messages ++ msg ∷ [])
grows_long messages chain false msg full is = omega (arith, full, ap length is, length_push messages msg)
grows_long messages chain true msg full is = omega (arith, is, length_push messages msg)

-- the messages that were kept, where they are all
pub if_few : (messages chain : List ℕ) (is_long : Bool) (read : Option (List ℕ)) → IsReadSoFar messages chain is_long → (is_long ≡ true → read ≡ None) → (is_long ≡ false → read ≡ Some chain) → IsIfFew messages read
if_few messages chain false read is none some = subst (IsIfFew messages) (sym (some refl)) is
if_few messages chain true read is none some = subst (IsIfFew messages) (sym (none refl)) is

-- a chain has no more messages than its text has bytes, and one
pub no_more_than_bytes : (text messages : List ℕ) → All IsMsgNo messages → text ≡ chain_word messages → length messages ≤ length text + 1
no_more_than_bytes text [] all e = omega arith
no_more_than_bytes text (msg ∷ messages) all e =
    let parts = ap length (parts_back msg messages all) ∙ length-map (msg ∷ messages) decimal in
    omega (arith, parts, length-slice_split (λ (byte : ℕ). byte == 47) (chain_word (msg ∷ messages)), count_by-le-length (λ (byte : ℕ). byte == 47) (chain_word (msg ∷ messages)), ap length e)
