-- The words of a scenario's line have one meaning.
use Rattle.std.proofs.Common.{◌≡◌, ◌⊎◌, ◌<◌, ◌^◌, ◌∙◌, ℕ, List, [], ◌∷◌, Bool, true, false, length, ap, refl, sym, subst, arith, rules, inl, inr}
use Rattle.std.specs.Prelude.{ℤ, pos, negsuc, Option, Some, None, IsSome, FitsSigned, codes}
use Rattle.std.specs.Int.{w64}
use Rattle.std.specs.Int.Signed.{mag}
use Rattle.std.specs.Fmt.{signed_decimal}
use Rattle.std.proofs.lemmas.Fmt.{signed_decimal_injective}
use Rattle.kt_text.proofs.NumberFacts.{spelt_body}
use Rattle.kt_plan.specs.declared.commands.Job.{Job}
use Rattle.kt_plan.specs.declared.commands.Job.TheVariants as job
use Rattle.kt_plan.specs.Names.{number_in}
use Rattle.kt_scenario.specs.declared.draft.Word.{Word}
use Rattle.kt_scenario.specs.declared.draft.Word.TheVariants.{Object, Send, Checkpoint, Rollback, Fail, Settle}
use Rattle.kt_scenario.specs.declared.fault.LineFault.{LineFault}
use Rattle.kt_scenario.specs.declared.fault.LineFault.TheVariants as fault
use Rattle.kt_scenario.specs.Said.{Said, with_object, with_command, word_in}
use Rattle.kt_scenario.specs.Scenario.{IsBodyWord, IsObject, IsSend, IsOrder, SaysAfter, Says, IsWrongObject, IsWrongSend, IsWrongOrder, IsWrongIn, IsWrongAfter, IsWordsFault, IsSame, AreTwo, word_count}
use Rattle.kt_scenario.proofs.LineLaws.{AreClear}

-- one value
pub same_value : {X : Type 0} {o : Option X} (a b : X) → o ≡ Some a → o ≡ Some b → a ≡ b
same_value a b p q = let e : Some a ≡ Some b = sym p ∙ q in cc e

-- there or not
pub there_or_not : {X : Type 0} (o : Option X) (a : X) → o ≡ Some a → o ≡ None → ⊥
there_or_not o a p q = let e : Some a ≡ None = sym p ∙ q in cc e

pub some_or_not : {X : Type 0} (o : Option X) → IsSome o → o ≡ None → ⊥
some_or_not None some e = let t : false ≡ true = some in cc t
some_or_not (Some a) some e = cc e

small : (z : ℤ) → FitsSigned w64 z → mag z < 2 ^ 63
small (pos n) fits = search (rules, fits)
small (negsuc n) fits = search (rules, fits)

one_body : (word : List ℕ) (value other : Option ℤ) → IsBodyWord word value → IsBodyWord word other → value ≡ other
one_body word None None a b = refl
one_body word None (Some z) a b = dot z b.1 (sym a.0 ∙ b.0)
  where
    dot : (z : ℤ) → FitsSigned w64 z → codes "." ≡ signed_decimal z → None ≡ Some z
    dot z fits e = let begins = spelt_body z (codes ".") fits e in absurd (omega (arith, (begins.0 (λ e. absurd (omega (arith, e)))).1))
one_body word (Some z) None a b = sym (dot z a.1 (sym b.0 ∙ a.0))
  where
    dot : (z : ℤ) → FitsSigned w64 z → codes "." ≡ signed_decimal z → None ≡ Some z
    dot z fits e = let begins = spelt_body z (codes ".") fits e in absurd (omega (arith, (begins.0 (λ e. absurd (omega (arith, e)))).1))
one_body word (Some y) (Some z) a b = ap Some (signed_decimal_injective y z (small y a.1) (small z b.1) (sym a.0 ∙ b.0))

one_object : (old new other : Said) (name kind : List ℕ) → IsObject old name kind new → IsObject old name kind other → new ≡ other
one_object old new other name kind a b = a.said ∙ (ap (with_object old name) (same_value a.number b.number a.known_kind b.known_kind) ∙ sym b.said)

one_send : (old new other : Said) (from to body : List ℕ) → IsSend old from to body new → IsSend old from to body other → new ≡ other
one_send old new other from to body a b =
    let by : a.by ≡ b.by = same_value a.by b.by a.sender b.sender in
    let at : a.at ≡ b.at = same_value a.at b.at a.receiver b.receiver in
    let value : a.value ≡ b.value = one_body body a.value b.value a.number b.number in
    a.said ∙ (ap (λ (p : ℕ). with_command old p (job.Send a.at a.value)) by
    ∙ (ap (λ (q : ℕ). with_command old b.by (job.Send q a.value)) at
    ∙ (ap (λ (v : Option ℤ). with_command old b.by (job.Send b.at v)) value ∙ sym b.said)))

one_order : (old new other : Said) (one : Job) (name : List ℕ) → IsOrder old one name new → IsOrder old one name other → new ≡ other
one_order old new other one name a b = a.said ∙ (ap (λ (p : ℕ). with_command old p one) (same_value a.by b.by a.known b.known) ∙ sym b.said)

order_words : (old new other : Said) (one : Job) (words : List (List ℕ)) → (name : List ℕ) × (words ≡ name ∷ []) × IsOrder old one name new → (name : List ℕ) × (words ≡ name ∷ []) × IsOrder old one name other → new ≡ other
order_words old new other one words a b =
    let e : b.0 ≡ a.0 = cc (a.1, b.1) in
    one_order old new other one a.0 a.2 (subst (λ (n : List ℕ). IsOrder old one n other) e b.2)

single : (word : Option Word) (old : Said) (words : List (List ℕ)) (new other : Said) → SaysAfter word old words new → SaysAfter word old words other → new ≡ other
single None old words new other a b = absurd a
single (Some Object) old words new other a b =
    let name : b.0 ≡ a.0 = cc (a.2, b.2) in
    let kind : b.1 ≡ a.1 = cc (a.2, b.2) in
    one_object old new other a.0 a.1 a.3 (subst (λ (n : List ℕ). IsObject old n a.1 other) name (subst (λ (k : List ℕ). IsObject old b.0 k other) kind b.3))
single (Some Send) old words new other a b =
    let from : b.0 ≡ a.0 = cc (a.3, b.3) in
    let to : b.1 ≡ a.1 = cc (a.3, b.3) in
    let body : b.2 ≡ a.2 = cc (a.3, b.3) in
    one_send old new other a.0 a.1 a.2 a.4
    (subst (λ (f : List ℕ). IsSend old f a.1 a.2 other) from (subst (λ (t : List ℕ). IsSend old b.0 t a.2 other) to (subst (λ (w : List ℕ). IsSend old b.0 b.1 w other) body b.4)))
single (Some Checkpoint) old words new other a b = order_words old new other job.Checkpoint words a b
single (Some Rollback) old words new other a b = order_words old new other job.Rollback words a b
single (Some Fail) old words new other a b = order_words old new other job.Fail words a b
single (Some Settle) old words new other a b = a.1 ∙ sym b.1

no_object : (old new : Said) (name kind : List ℕ) (f : LineFault) → IsObject old name kind new → IsWrongObject old name kind f → ⊥
no_object old new name kind fault.Name a b = let e : true ≡ false = sym a.proper ∙ b in cc e
no_object old new name kind fault.Twice a b = some_or_not _ b.1 a.unknown
no_object old new name kind fault.KindWord a b = there_or_not _ a.number a.known_kind b.2
no_object old new name kind fault.TooManyObjects a b = omega (arith, a.room, b.3)
no_object old new name kind fault.Command a b = b
no_object old new name kind fault.Words a b = b
no_object old new name kind fault.Unknown a b = b
no_object old new name kind fault.Itself a b = b
no_object old new name kind fault.Number a b = b
no_object old new name kind fault.TooManyCommands a b = b
no_object old new name kind fault.Memory a b = b

no_send : (old new : Said) (from to body : List ℕ) (f : LineFault) → IsSend old from to body new → IsWrongSend old from to body f → ⊥
no_send old new from to body fault.Unknown a (inl gone) = there_or_not _ a.by a.sender gone
no_send old new from to body fault.Unknown a (inr gone) = there_or_not _ a.at a.receiver gone.1
no_send old new from to body fault.Itself a b = a.another (same_value a.by b.0 a.sender b.1 ∙ sym (same_value a.at b.0 a.receiver b.2))
no_send old new from to body fault.Number a b = b.1 a.value a.number
no_send old new from to body fault.TooManyCommands a b = omega (arith, a.room, b.2)
no_send old new from to body fault.Command a b = b
no_send old new from to body fault.Words a b = b
no_send old new from to body fault.Name a b = b
no_send old new from to body fault.Twice a b = b
no_send old new from to body fault.KindWord a b = b
no_send old new from to body fault.TooManyObjects a b = b
no_send old new from to body fault.Memory a b = b

no_order : (old new : Said) (one : Job) (name : List ℕ) (f : LineFault) → IsOrder old one name new → IsWrongOrder old name f → ⊥
no_order old new one name fault.Unknown a b = there_or_not _ a.by a.known b
no_order old new one name fault.TooManyCommands a b = omega (arith, a.room, b.1)
no_order old new one name fault.Command a b = b
no_order old new one name fault.Words a b = b
no_order old new one name fault.Name a b = b
no_order old new one name fault.Twice a b = b
no_order old new one name fault.KindWord a b = b
no_order old new one name fault.TooManyObjects a b = b
no_order old new one name fault.Itself a b = b
no_order old new one name fault.Number a b = b
no_order old new one name fault.Memory a b = b

no_order_words : (old new : Said) (one : Job) (words : List (List ℕ)) (f : LineFault) → (name : List ℕ) × (words ≡ name ∷ []) × IsOrder old one name new → (name : List ℕ) × (words ≡ name ∷ []) × IsWrongOrder old name f → ⊥
no_order_words old new one words f a b =
    let e : b.0 ≡ a.0 = cc (a.1, b.1) in
    no_order old new one a.0 f a.2 (subst (λ (n : List ℕ). IsWrongOrder old n f) e b.2)

apart : (word : Option Word) (old : Said) (words : List (List ℕ)) (new : Said) (f : LineFault) → SaysAfter word old words new → IsWrongAfter word old words f → ⊥
apart None old words new f a b = a
apart (Some Object) old words new f a (inl b) = b.1 (ap length a.2)
apart (Some Object) old words new f a (inr b) =
    let name : b.0 ≡ a.0 = cc (a.2, b.2) in
    let kind : b.1 ≡ a.1 = cc (a.2, b.2) in
    no_object old new a.0 a.1 f a.3 (subst (λ (n : List ℕ). IsWrongObject old n a.1 f) name (subst (λ (k : List ℕ). IsWrongObject old b.0 k f) kind b.3))
apart (Some Send) old words new f a (inl b) = b.1 (ap length a.3)
apart (Some Send) old words new f a (inr b) =
    let from : b.0 ≡ a.0 = cc (a.3, b.3) in
    let to : b.1 ≡ a.1 = cc (a.3, b.3) in
    let body : b.2 ≡ a.2 = cc (a.3, b.3) in
    no_send old new a.0 a.1 a.2 f a.4
    (subst (λ (n : List ℕ). IsWrongSend old n a.1 a.2 f) from (subst (λ (t : List ℕ). IsWrongSend old b.0 t a.2 f) to (subst (λ (w : List ℕ). IsWrongSend old b.0 b.1 w f) body b.4)))
apart (Some Checkpoint) old words new f a (inl b) = b.1 (ap length a.1)
apart (Some Checkpoint) old words new f a (inr b) = no_order_words old new job.Checkpoint words f a b
apart (Some Rollback) old words new f a (inl b) = b.1 (ap length a.1)
apart (Some Rollback) old words new f a (inr b) = no_order_words old new job.Rollback words f a b
apart (Some Fail) old words new f a (inl b) = b.1 (ap length a.1)
apart (Some Fail) old words new f a (inr b) = no_order_words old new job.Fail words f a b
apart (Some Settle) old words new f a (inl b) = b.1 (ap length a.0)
apart (Some Settle) old words new f a (inr b) = b

true_or_not : (b : Bool) → b ≡ false → b ≡ true → ⊥
true_or_not b p q = let e : false ≡ true = sym p ∙ q in cc e

first_object : (old : Said) (name kind : List ℕ) (f g : LineFault) → IsWrongObject old name kind f → IsWrongObject old name kind g → f ≡ g
first_object old name kind fault.Name fault.Name a b = refl
first_object old name kind fault.Name fault.Twice a b = absurd (true_or_not _ a b.0)
first_object old name kind fault.Name fault.KindWord a b = absurd (true_or_not _ a b.0)
first_object old name kind fault.Name fault.TooManyObjects a b = absurd (true_or_not _ a b.0)
first_object old name kind fault.Name g a b = absurd b
first_object old name kind fault.Twice fault.Name a b = absurd (true_or_not _ b a.0)
first_object old name kind fault.Twice fault.Twice a b = refl
first_object old name kind fault.Twice fault.KindWord a b = absurd (some_or_not _ a.1 b.1)
first_object old name kind fault.Twice fault.TooManyObjects a b = absurd (some_or_not _ a.1 b.1)
first_object old name kind fault.Twice g a b = absurd b
first_object old name kind fault.KindWord fault.Name a b = absurd (true_or_not _ b a.0)
first_object old name kind fault.KindWord fault.Twice a b = absurd (some_or_not _ b.1 a.1)
first_object old name kind fault.KindWord fault.KindWord a b = refl
first_object old name kind fault.KindWord fault.TooManyObjects a b = absurd (some_or_not _ b.2 a.2)
first_object old name kind fault.KindWord g a b = absurd b
first_object old name kind fault.TooManyObjects fault.Name a b = absurd (true_or_not _ b a.0)
first_object old name kind fault.TooManyObjects fault.Twice a b = absurd (some_or_not _ b.1 a.1)
first_object old name kind fault.TooManyObjects fault.KindWord a b = absurd (some_or_not _ a.2 b.2)
first_object old name kind fault.TooManyObjects fault.TooManyObjects a b = refl
first_object old name kind fault.TooManyObjects g a b = absurd b
first_object old name kind f g a b = absurd a

-- a name that is not there
abbrev IsGone : Said → List ℕ → List ℕ → Type 0
IsGone old from to = (number_in old.names from ≡ None) ⊎ (IsSome (number_in old.names from) × (number_in old.names to ≡ None))

not_same : (old : Said) (from to : List ℕ) → IsGone old from to → IsSame old from to → ⊥
not_same old from to (inl gone) b = there_or_not _ b.0 b.1 gone
not_same old from to (inr gone) b = there_or_not _ b.0 b.2 gone.1

not_two : (old : Said) (from to : List ℕ) → IsGone old from to → AreTwo old from to → ⊥
not_two old from to (inl gone) b = there_or_not _ b.0 b.2 gone
not_two old from to (inr gone) b = there_or_not _ b.1 b.3 gone.1

same_or_two : (old : Said) (from to : List ℕ) → IsSame old from to → AreTwo old from to → ⊥
same_or_two old from to a b = b.4 (same_value b.0 a.0 b.2 a.1 ∙ same_value a.0 b.1 a.2 b.3)

first_send : (old : Said) (from to body : List ℕ) (f g : LineFault) → IsWrongSend old from to body f → IsWrongSend old from to body g → f ≡ g
first_send old from to body fault.Unknown fault.Unknown a b = refl
first_send old from to body fault.Unknown fault.Itself a b = absurd (not_same old from to a b)
first_send old from to body fault.Unknown fault.Number a b = absurd (not_two old from to a b.0)
first_send old from to body fault.Unknown fault.TooManyCommands a b = absurd (not_two old from to a b.0)
first_send old from to body fault.Unknown g a b = absurd b
first_send old from to body fault.Itself fault.Unknown a b = absurd (not_same old from to b a)
first_send old from to body fault.Itself fault.Itself a b = refl
first_send old from to body fault.Itself fault.Number a b = absurd (same_or_two old from to a b.0)
first_send old from to body fault.Itself fault.TooManyCommands a b = absurd (same_or_two old from to a b.0)
first_send old from to body fault.Itself g a b = absurd b
first_send old from to body fault.Number fault.Unknown a b = absurd (not_two old from to b a.0)
first_send old from to body fault.Number fault.Itself a b = absurd (same_or_two old from to b a.0)
first_send old from to body fault.Number fault.Number a b = refl
first_send old from to body fault.Number fault.TooManyCommands a b = absurd (a.1 b.1.0 b.1.1)
first_send old from to body fault.Number g a b = absurd b
first_send old from to body fault.TooManyCommands fault.Unknown a b = absurd (not_two old from to b a.0)
first_send old from to body fault.TooManyCommands fault.Itself a b = absurd (same_or_two old from to b a.0)
first_send old from to body fault.TooManyCommands fault.Number a b = absurd (b.1 a.1.0 a.1.1)
first_send old from to body fault.TooManyCommands fault.TooManyCommands a b = refl
first_send old from to body fault.TooManyCommands g a b = absurd b
first_send old from to body f g a b = absurd a

first_order : (old : Said) (name : List ℕ) (f g : LineFault) → IsWrongOrder old name f → IsWrongOrder old name g → f ≡ g
first_order old name fault.Unknown fault.Unknown a b = refl
first_order old name fault.Unknown fault.TooManyCommands a b = absurd (some_or_not _ b.0 a)
first_order old name fault.Unknown g a b = absurd b
first_order old name fault.TooManyCommands fault.Unknown a b = absurd (some_or_not _ a.0 b)
first_order old name fault.TooManyCommands fault.TooManyCommands a b = refl
first_order old name fault.TooManyCommands g a b = absurd b
first_order old name f g a b = absurd a

first_order_words : (old : Said) (words : List (List ℕ)) (f g : LineFault) → (name : List ℕ) × (words ≡ name ∷ []) × IsWrongOrder old name f → (name : List ℕ) × (words ≡ name ∷ []) × IsWrongOrder old name g → f ≡ g
first_order_words old words f g a b =
    let e : b.0 ≡ a.0 = cc (a.1, b.1) in
    first_order old a.0 f g a.2 (subst (λ (n : List ℕ). IsWrongOrder old n g) e b.2)

-- in as many words as there should be
first_in : (word : Word) (old : Said) (words : List (List ℕ)) (f g : LineFault) → IsWrongIn word old words f → IsWrongIn word old words g → f ≡ g
first_in Object old words f g a b =
    let name : b.0 ≡ a.0 = cc (a.2, b.2) in
    let kind : b.1 ≡ a.1 = cc (a.2, b.2) in
    first_object old a.0 a.1 f g a.3 (subst (λ (n : List ℕ). IsWrongObject old n a.1 g) name (subst (λ (k : List ℕ). IsWrongObject old b.0 k g) kind b.3))
first_in Send old words f g a b =
    let from : b.0 ≡ a.0 = cc (a.3, b.3) in
    let to : b.1 ≡ a.1 = cc (a.3, b.3) in
    let body : b.2 ≡ a.2 = cc (a.3, b.3) in
    first_send old a.0 a.1 a.2 f g a.4
    (subst (λ (n : List ℕ). IsWrongSend old n a.1 a.2 g) from (subst (λ (t : List ℕ). IsWrongSend old b.0 t a.2 g) to (subst (λ (w : List ℕ). IsWrongSend old b.0 b.1 w g) body b.4)))
first_in Checkpoint old words f g a b = first_order_words old words f g a b
first_in Rollback old words f g a b = first_order_words old words f g a b
first_in Fail old words f g a b = first_order_words old words f g a b
first_in Settle old words f g a b = absurd a

-- as many words as there should be
counted : (word : Word) (old : Said) (words : List (List ℕ)) (f : LineFault) → IsWrongIn word old words f → length words ≡ word_count word
counted Object old words f a = ap length a.2
counted Send old words f a = ap length a.3
counted Checkpoint old words f a = ap length a.1
counted Rollback old words f a = ap length a.1
counted Fail old words f a = ap length a.1
counted Settle old words f a = absurd a

first : (word : Option Word) (old : Said) (words : List (List ℕ)) (f g : LineFault) → IsWrongAfter word old words f → IsWrongAfter word old words g → f ≡ g
first None old words f g a b = a ∙ sym b
first (Some word) old words f g (inl a) (inl b) = a.0 ∙ sym b.0
first (Some word) old words f g (inl a) (inr b) = absurd (a.1 (counted word old words g b))
first (Some word) old words f g (inr a) (inl b) = absurd (b.1 (counted word old words f a))
first (Some word) old words f g (inr a) (inr b) = first_in word old words f g a b

first_words : (old : Said) (words : List (List ℕ)) (f g : LineFault) → IsWordsFault old words f → IsWordsFault old words g → f ≡ g
first_words old [] f g a b = absurd a
first_words old (word ∷ words) f g a b = first (word_in word) old words f g a b

single_words : (old : Said) (words : List (List ℕ)) (new other : Said) → Says old words new → Says old words other → new ≡ other
single_words old [] new other a b = absurd a
single_words old (word ∷ words) new other a b = single (word_in word) old words new other a b

apart_words : (old : Said) (words : List (List ℕ)) (new : Said) (f : LineFault) → Says old words new → IsWordsFault old words f → ⊥
apart_words old [] new f a b = a
apart_words old (word ∷ words) new f a b = apart (word_in word) old words new f a b

pub clear : AreClear Says IsWordsFault
clear = record { single = single_words; apart = apart_words; first = first_words }
