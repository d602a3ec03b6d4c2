-- The records of certificates spell those certificates alone.
use Rattle.std.proofs.Common.{◌≡◌, ◌∙◌, ◌<◌, ◌≤◌, ℕ, List, [], ◌∷◌, ◌++◌, length, map, refl, sym, ap, subst, arith, codes}
use Rattle.std.specs.Prelude.{All, Bool, true, false, if◌then◌else◌}
use Rattle.std.specs.Str.{bytes_eq}
use Rattle.std.specs.Fmt.{decimal}
use Rattle.std.proofs.lemmas.Fmt.{decimal_injective}
use Rattle.std.proofs.lemmas.List.Elements.{All-nil, All-cons, All-append, All-head, All-tail}
use Rattle.kt_base.specs.Numbers.{IsMsgNo}
use Rattle.kt_base.specs.declared.words.Kind.{Kind}
use Rattle.kt_base.specs.declared.words.Kind.TheVariants.{Checkpoint, Rollback}
use Rattle.kt_text.specs.Words.{kind_word, decision_word}
use Rattle.kt_text.proofs.FieldFacts.{Records, first_and_rest, field_1, field_2, field_3, field_4}
use Rattle.kt_spacetime.specs.declared.certificate.Certificate.{Certificate}
use Rattle.kt_chain.specs.Spelling.{Member, chain_word, instance_record, member_record, certificate_records, records_of, IsMemberInRange, IsCertificateWithin}
use Rattle.kt_chain.proofs.ChainFacts.{parts_in, parts_back, digits}

-- the fifth field of a record
abbrev pub field_5 : List (List ℕ) → List ℕ
field_5 (w ∷ a ∷ b ∷ c ∷ d ∷ rest) = d
field_5 _ = []

-- the first byte of a text
abbrev first_byte : List ℕ → ℕ
first_byte [] = 0
first_byte (byte ∷ rest) = byte

-- `cert` and `member` are two words
pub two_words : codes "cert" ≡ codes "member" → ⊥
two_words e = let t : 99 ≡ 109 = ap first_byte e in omega (arith, t)

-- a text is one kind, one decision
abbrev kind_in : List ℕ → Kind
kind_in text = if bytes_eq text (codes "checkpoint") then Checkpoint else Rollback

kind_back : (k : Kind) → kind_in (kind_word k) ≡ k
kind_back Checkpoint = refl
kind_back Rollback = refl

one_kind : (k l : Kind) → kind_word k ≡ kind_word l → k ≡ l
one_kind k l e = sym (kind_back k) ∙ ap kind_in e ∙ kind_back l

decision_back : (commit : Bool) → bytes_eq (decision_word commit) (codes "commit") ≡ commit
decision_back true = refl
decision_back false = refl

one_decision : (a b : Bool) → decision_word a ≡ decision_word b → a ≡ b
one_decision a b e = sym (decision_back a) ∙ ap (λ (text : List ℕ). bytes_eq text (codes "commit")) e ∙ decision_back b

-- numbers that are spelled alike are the same
one_messages : (messages others : List ℕ) → All IsMsgNo messages → All IsMsgNo others → map decimal messages ≡ map decimal others → messages ≡ others
one_messages [] [] r s e = refl
one_messages [] (n ∷ others) r s e = cc e
one_messages (m ∷ messages) [] r s e = cc e
one_messages (m ∷ messages) (n ∷ others) r s e =
    let p = All-head IsMsgNo m messages r in
    let q = All-head IsMsgNo n others s in
    let here : decimal m ≡ decimal n = cc e in
    let after : map decimal messages ≡ map decimal others = cc e in
    let same : m ≡ n = decimal_injective m n (omega (arith, p.1)) (omega (arith, q.1)) here in
    let rest : messages ≡ others = one_messages messages others (All-tail IsMsgNo m messages r) (All-tail IsMsgNo n others s) after in
    cc (same, rest)

-- a chain with a number is not spelled `-`
no_dash : (msg : ℕ) (messages : List ℕ) → All IsMsgNo (msg ∷ messages) → chain_word (msg ∷ messages) ≡ codes "-" → ⊥
no_dash msg messages all e =
    let is = All-head IsMsgNo msg messages all in
    let parts : map decimal (msg ∷ messages) ≡ codes "-" ∷ [] = sym (parts_back msg messages all) ∙ ap parts_in e in
    let here : decimal msg ≡ codes "-" = cc parts in
    let first : first_byte (decimal msg) ≡ 45 = ap first_byte here in
    omega (arith, high (decimal msg) (digits msg (omega (arith, is.1))), ap length here, first)
  where
    high : (text : List ℕ) → All (λ (byte : ℕ). 48 ≤ byte) text → 0 < length text → 48 ≤ first_byte text
    high [] all less = absurd (omega (arith, less))
    high (byte ∷ rest) all less = All-head (λ (byte : ℕ). 48 ≤ byte) byte rest all

-- a text is one chain
pub one_chain : (messages others : List ℕ) → All IsMsgNo messages → All IsMsgNo others → chain_word messages ≡ chain_word others → messages ≡ others
one_chain [] [] r s e = refl
one_chain [] (n ∷ others) r s e = absurd (no_dash n others s (sym e))
one_chain (m ∷ messages) [] r s e = absurd (no_dash m messages r e)
one_chain (m ∷ messages) (n ∷ others) r s e = one_messages (m ∷ messages) (n ∷ others) r s (sym (parts_back m messages r) ∙ ap parts_in e ∙ parts_back n others s)

-- a record is that of an instance or of a member
pub no_instance : (c : Certificate) (inst : ℕ) (member : Member) → instance_record c ≡ member_record inst member → ⊥
no_instance c inst member e = two_words (ap field_1 e)

-- records of one instance are of one number
pub one_inst : (c d : Certificate) → IsCertificateWithin c → IsCertificateWithin d → instance_record c ≡ instance_record d → c.inst ≡ d.inst
one_inst c d r s e = decimal_injective c.inst d.inst (omega (arith, r.inst.1)) (omega (arith, s.inst.1)) (ap field_2 e)

-- a member's record is of one member
pub one_member : (inst : ℕ) (m n : Member) → IsMemberInRange m → IsMemberInRange n → member_record inst m ≡ member_record inst n → m ≡ n
one_member inst m n r s e =
    let process : m.0 ≡ n.0 = decimal_injective m.0 n.0 (omega (arith, r.process)) (omega (arith, s.process)) (ap field_3 e) in
    let chain : m.1 ≡ n.1 = one_chain m.1 n.1 r.messages s.messages (ap field_5 e) in
    ap (λ (p : ℕ). (p, m.1)) process ∙ ap (λ (x : List ℕ). (n.0, x)) chain

-- the records of certificates do not begin with a member's
pub no_member : (certificates : List Certificate) (inst : ℕ) (member : Member) (rest : Records) → records_of certificates ≡ member_record inst member ∷ rest → ⊥
no_member [] inst member rest e = cc e
no_member (c ∷ certificates) inst member rest e = no_instance c inst member (first_and_rest (instance_record c) (member_record inst member) (map (member_record c.inst) c.members ++ records_of certificates) rest e).0

-- members that are spelled alike, before certificates, are the same
one_members : (inst : ℕ) (ms ns : List Member) (cs ds : List Certificate) → All IsMemberInRange ms → All IsMemberInRange ns → map (member_record inst) ms ++ records_of cs ≡ map (member_record inst) ns ++ records_of ds
    → (ms ≡ ns) × (records_of cs ≡ records_of ds)
one_members inst [] [] cs ds r s e = (refl, e)
one_members inst [] (n ∷ ns) cs ds r s e = absurd (no_member cs inst n (map (member_record inst) ns ++ records_of ds) e)
one_members inst (m ∷ ms) [] cs ds r s e = absurd (no_member ds inst m (map (member_record inst) ms ++ records_of cs) (sym e))
one_members inst (m ∷ ms) (n ∷ ns) cs ds r s e =
    let split = first_and_rest (member_record inst m) (member_record inst n) (map (member_record inst) ms ++ records_of cs) (map (member_record inst) ns ++ records_of ds) e in
    let same : m ≡ n = one_member inst m n (All-head IsMemberInRange m ms r) (All-head IsMemberInRange n ns s) split.0 in
    let rest = one_members inst ms ns cs ds (All-tail IsMemberInRange m ms r) (All-tail IsMemberInRange n ns s) split.1 in
    (ap (λ (x : Member). x ∷ ms) same ∙ ap (λ (x : List Member). n ∷ x) rest.0, rest.1)

-- a certificate of its parts
abbrev made_of : ℕ → Kind → ℕ → Bool → List Member → Certificate
made_of i k p v ms = record { inst = i; kind = k; initiator = p; commit = v; members = ms }

-- certificates with the same parts are the same
same_parts : (c d : Certificate) → c.inst ≡ d.inst → c.kind ≡ d.kind → c.initiator ≡ d.initiator → c.commit ≡ d.commit → c.members ≡ d.members → c ≡ d
same_parts c d inst kind initiator commit members =
    ap (λ (x : ℕ). made_of x c.kind c.initiator c.commit c.members) inst ∙ ap (λ (x : Kind). made_of d.inst x c.initiator c.commit c.members) kind
    ∙ ap (λ (x : ℕ). made_of d.inst d.kind x c.commit c.members) initiator ∙ ap (λ (x : Bool). made_of d.inst d.kind d.initiator x c.members) commit
    ∙ ap (λ (x : List Member). made_of d.inst d.kind d.initiator d.commit x) members

pub one_list : (certificates others : List Certificate) → All IsCertificateWithin certificates → All IsCertificateWithin others → records_of certificates ≡ records_of others → certificates ≡ others
one_list [] [] r s e = refl
one_list [] (d ∷ ds) r s e = cc e
one_list (c ∷ cs) [] r s e = cc e
one_list (c ∷ cs) (d ∷ ds) r s e =
    let p = All-head IsCertificateWithin c cs r in
    let q = All-head IsCertificateWithin d ds s in
    let split = first_and_rest (instance_record c) (instance_record d) (map (member_record c.inst) c.members ++ records_of cs) (map (member_record d.inst) d.members ++ records_of ds) e in
    let inst = one_inst c d p q split.0 in
    let at_inst = subst (λ (k : ℕ). map (member_record c.inst) c.members ++ records_of cs ≡ map (member_record k) d.members ++ records_of ds) (sym inst) split.1 in
    let members = one_members c.inst c.members d.members cs ds p.members q.members at_inst in
    let initiator : c.initiator ≡ d.initiator = decimal_injective c.initiator d.initiator (omega (arith, p.initiator)) (omega (arith, q.initiator)) (ap field_4 split.0) in
    let same = same_parts c d inst (one_kind c.kind d.kind (ap field_3 split.0)) initiator (one_decision c.commit d.commit (ap field_5 split.0)) members.0 in
    let rest = one_list cs ds (All-tail IsCertificateWithin c cs r) (All-tail IsCertificateWithin d ds s) members.1 in
    ap (λ (x : Certificate). x ∷ cs) same ∙ ap (λ (x : List Certificate). d ∷ x) rest

-- every record has five fields
five_each : (inst : ℕ) (members : List Member) → All (λ (fields : List (List ℕ)). length fields ≡ 5) (map (member_record inst) members)
five_each inst [] = All-nil (λ (fields : List (List ℕ)). length fields ≡ 5)
five_each inst (m ∷ members) = All-cons (λ (fields : List (List ℕ)). length fields ≡ 5) (member_record inst m) (map (member_record inst) members) refl (five_each inst members)

pub five_fields : (certificates : List Certificate) → All (λ (fields : List (List ℕ)). length fields ≡ 5) (records_of certificates)
five_fields [] = All-nil (λ (fields : List (List ℕ)). length fields ≡ 5)
five_fields (c ∷ certificates) =
    All-append (λ (fields : List (List ℕ)). length fields ≡ 5) (certificate_records c) (records_of certificates)
    (All-cons (λ (fields : List (List ℕ)). length fields ≡ 5) (instance_record c) (map (member_record c.inst) c.members) refl (five_each c.inst c.members)) (five_fields certificates)
