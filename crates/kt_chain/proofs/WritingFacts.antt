-- Texts gathered and written piece by piece.
use Rattle.std.proofs.Common.{◌≡◌, ◌∙◌, ◌<◌, ◌≤◌, ◌+◌, ◌-◌, ℕ, List, [], ◌∷◌, ◌++◌, length, refl, sym, ap, subst, take, drop, get_or, Option, append_assoc, add-one, arith}
use Rattle.std.proofs.lemmas.List.{take_more, take_all, flat_map_more, length-drop, map-append, append-nil, take-append-drop}
use Rattle.std.proofs.lemmas.List.Concat.{flat_map-append}
use Rattle.std.specs.Fmt.{decimal}
use Rattle.std.specs.Io.{StartsWith}
use Rattle.kt_text.specs.Writing.{line_of, text_of, Sends, WritesFront}
use Rattle.kt_text.proofs.PieceFacts.{sends_more, sends_gathered, sends_nothing, text_more, starts, items_more, front_after, front_last, records_front}
use Rattle.kt_spacetime.specs.declared.certificate.Certificate.{Certificate}
use Rattle.kt_chain.specs.Spelling.{Member, instance_record, member_record, certificate_records, records_of, chain_word, marked}

-- the numbers of a chain joined by marks are its marked numbers without the first mark
chain_marked : (first : ℕ) (others : List ℕ) → chain_word (first ∷ others) ≡ decimal first ++ marked others
chain_marked first [] = sym (append-nil (decimal first))
chain_marked first (next ∷ others) = ap (λ (x : List ℕ). decimal first ++ 47 ∷ x) (chain_marked next others)

pub word_marked : (messages : List ℕ) → 0 < length messages → chain_word messages ≡ drop 1 (marked messages)
word_marked [] some = absurd (omega (arith, some))
word_marked (first ∷ others) some = chain_marked first others

-- there is a mark before the first number
pub marks_first : (messages : List ℕ) → 0 < length messages → 1 ≤ length (marked messages)
marks_first [] some = absurd (omega (arith, some))
marks_first (first ∷ others) some = omega arith

-- one more number is marked
pub marks_more : (text messages old new : List ℕ) (i msg : ℕ) → i < length messages → get_or messages i msg ≡ msg
    → old ≡ text ++ marked (take i messages) → new ≡ old ++ 47 ∷ decimal msg → new ≡ text ++ marked (take (i + 1) messages)
marks_more text messages old new i msg within at was more =
    let step : take (i + 1) messages ≡ take i messages ++ msg ∷ [] = take_more messages i msg within ∙ ap (λ (m : ℕ). take i messages ++ m ∷ []) at in
    more ∙ ap (λ (x : List ℕ). x ++ 47 ∷ decimal msg) was ∙ flat_map_more (λ (m : ℕ). 47 ∷ decimal m) text (take i messages) msg
    ∙ ap (λ (x : List ℕ). text ++ marked x) (sym step)

-- the numbers of a chain are those of one that it goes on from, and the others
pub marks_on : (told messages old new : List ℕ) → messages ≡ told ++ drop (length told) messages → old ≡ marked told
    → new ≡ old ++ marked (take (length messages - length told) (drop (length told) messages)) → new ≡ marked messages
marks_on told messages old new on was more =
    let rest = drop (length told) messages in
    let all : take (length messages - length told) rest ≡ rest = take_all (length messages - length told) rest (omega (arith, length-drop (length told) messages)) in
    more ∙ ap (λ (x : List ℕ). old ++ marked x) all ∙ ap (λ (x : List ℕ). x ++ marked rest) was
    ∙ sym (flat_map-append (λ (m : ℕ). 47 ∷ decimal m) told rest) ∙ ap marked (sym on)

-- the records of a certificate with some of its members
abbrev pub records_to : Certificate → List Member → List (List (List ℕ))
records_to c members = certificate_records (record { inst = c.inst; kind = c.kind; initiator = c.initiator; commit = c.commit; members = members })

-- one more member is sent
pub sends_member : (a b d : Option (List ℕ)) (x y z u : List ℕ) (c : Certificate) (i : ℕ) (member : Member) → i < length c.members → get_or c.members i member ≡ member
    → Sends a b x y (text_of (records_to c (take i c.members))) → Sends b d y z [] → u ≡ z ++ line_of (member_record c.inst member) → Sends a d x u (text_of (records_to c (take (i + 1) c.members)))
sends_member a b d x y z u c i member within at p q e =
    let step : take (i + 1) c.members ≡ take i c.members ++ member ∷ [] = take_more c.members i member within ∙ ap (λ (m : Member). take i c.members ++ m ∷ []) at in
    let records : records_to c (take (i + 1) c.members) ≡ records_to c (take i c.members) ++ member_record c.inst member ∷ [] =
    ap (records_to c) step ∙ ap (λ (r : List (List (List ℕ))). records_to c [] ++ r) (map-append (member_record c.inst) (take i c.members) (member ∷ [])) in
    subst (λ (text : List ℕ). Sends a d x u text) (sym (ap text_of records ∙ text_more (records_to c (take i c.members)) (member_record c.inst member)))
    (sends_gathered a d x z u (text_of (records_to c (take i c.members))) (line_of (member_record c.inst member)) (sends_nothing a b d x y z (text_of (records_to c (take i c.members))) p q) e)

-- one more certificate is sent
pub sends_certificate : (a b d : Option (List ℕ)) (x y z : List ℕ) (certificates : List Certificate) (i : ℕ) (c : Certificate) → i < length certificates → get_or certificates i c ≡ c
    → Sends a b x y (text_of (records_of (take i certificates))) → Sends b d y z (text_of (certificate_records c)) → Sends a d x z (text_of (records_of (take (i + 1) certificates)))
sends_certificate a b d x y z certificates i c within at p q =
    let step : take (i + 1) certificates ≡ take i certificates ++ c ∷ [] = take_more certificates i c within ∙ ap (λ (m : Certificate). take i certificates ++ m ∷ []) at in
    let records : records_of (take (i + 1) certificates) ≡ records_of (take i certificates) ++ certificate_records c =
    ap records_of step ∙ flat_map-append certificate_records (take i certificates) (c ∷ []) ∙ ap (λ (r : List (List (List ℕ))). records_of (take i certificates) ++ r) (append-nil (certificate_records c)) in
    subst (λ (text : List ℕ). Sends a d x z text) (sym (ap text_of records ∙ flat_map-append line_of (records_of (take i certificates)) (certificate_records c)))
    (sends_more a b d x y z (text_of (records_of (take i certificates))) (text_of (certificate_records c)) p q)

-- at a member it stops
pub stops_at_member : (a b d : Option (List ℕ)) (x y : List ℕ) (c : Certificate) (i : ℕ) (member : Member) → i < length c.members → get_or c.members i member ≡ member
    → Sends a b x y (text_of (records_to c (take i c.members))) → WritesFront b d (y ++ line_of (member_record c.inst member)) → WritesFront a d (x ++ text_of (certificate_records c))
stops_at_member a b d x y c i member within at p q =
    front_after a b d x y (text_of (records_to c (take i c.members))) (line_of (member_record c.inst member)) (text_of (certificate_records c)) p q
    (records_front (instance_record c) (member_record c.inst) c.members i member within at)

-- the text of some certificates and of one more begins the text of all
certificates_front : (certificates : List Certificate) (i : ℕ) (c : Certificate) → i < length certificates → get_or certificates i c ≡ c
    → StartsWith (text_of (records_of certificates)) (text_of (records_of (take i certificates)) ++ text_of (certificate_records c))
certificates_front certificates i c within at =
    let later = records_of (drop (i + 1) certificates) in
    let first : records_of (take (i + 1) certificates) ≡ records_of (take i certificates) ++ certificate_records c = items_more certificate_records certificates i c within at in
    let all : records_of certificates ≡ (records_of (take i certificates) ++ certificate_records c) ++ later =
    ap records_of (sym (take-append-drop (i + 1) certificates)) ∙ flat_map-append certificate_records (take (i + 1) certificates) (drop (i + 1) certificates)
    ∙ ap (λ (r : List (List (List ℕ))). r ++ later) first in
    starts (text_of (records_of certificates)) (text_of (records_of (take i certificates)) ++ text_of (certificate_records c)) (text_of later)
    (ap text_of all ∙ flat_map-append line_of (records_of (take i certificates) ++ certificate_records c) later
    ∙ ap (λ (u : List ℕ). u ++ text_of later) (flat_map-append line_of (records_of (take i certificates)) (certificate_records c)))

-- at a certificate it stops
pub stops_at_certificate : (a b d : Option (List ℕ)) (y : List ℕ) (certificates : List Certificate) (i : ℕ) (c : Certificate) → i < length certificates → get_or certificates i c ≡ c
    → Sends a b [] y (text_of (records_of (take i certificates))) → WritesFront b d (y ++ text_of (certificate_records c)) → WritesFront a d (text_of (records_of certificates))
stops_at_certificate a b d y certificates i c within at p q =
    front_after a b d [] y (text_of (records_of (take i certificates))) (text_of (certificate_records c)) (text_of (records_of certificates)) p q (certificates_front certificates i c within at)

-- it stops after the last certificate
pub stops_at_end : (a b d : Option (List ℕ)) (y : List ℕ) (certificates : List Certificate) (i : ℕ) → length certificates ≤ i → Sends a b [] y (text_of (records_of (take i certificates)))
    → WritesFront b d y → WritesFront a d (text_of (records_of certificates))
stops_at_end a b d y certificates i all p q =
    front_last a b d [] y (text_of (records_of certificates)) (subst (λ (cs : List Certificate). Sends a b [] y (text_of (records_of cs))) (take_all i certificates all) p) q
