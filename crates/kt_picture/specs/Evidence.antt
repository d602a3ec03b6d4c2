-- What certificates add to a picture: whose chain has a message, and why a member took part.
use Rattle.std.specs.Prelude.{◌==◌, ℕ, zero, suc, nat_lt, if◌then◌else◌, Bool, Option, Some, None, List, [], ◌++◌, codes, length, find}
use Rattle.std.specs.List.{list_any, flat_map}
use Rattle.std.specs.Fmt.{decimal}
use Rattle.std.specs.Option.{option_map}
use Rattle.kt_spacetime.specs.declared.event.Event.{Event}
use Rattle.kt_spacetime.specs.declared.event.Event.TheVariants.{Sent, Took, Ready}
use Rattle.kt_meaning.specs.Messages.{row_at}
use Rattle.kt_spacetime.specs.declared.certificate.Certificate.{Certificate}
use Rattle.kt_picture.specs.Texts.{name_text}

-- whether a chain has a message
abbrev pub has_message : ℕ → List ℕ → Bool
has_message msg chain = list_any (λ m. m == msg) chain

-- whether one of a certificate's chains has it
abbrev pub has_chained : ℕ → Certificate → Bool
has_chained msg c = list_any (λ m. has_message msg m.1) c.members

-- the instance of the first certificate that has a message in a chain
abbrev pub chained_by : List Certificate → ℕ → Option ℕ
chained_by certificates msg = option_map (λ c. c.inst) (find (has_chained msg) certificates)

-- the same of a message of a log with so many rows
abbrev pub link_of : ℕ → List Certificate → ℕ → Option ℕ
link_of count certificates zero = None
link_of count certificates (suc n) = if nat_lt n count then chained_by certificates (suc n) else None

-- the chain of a member; none where there is no member
abbrev pub chain_of_member : Option (ℕ × List ℕ) → List ℕ
chain_of_member None = []
chain_of_member (Some m) = m.1

-- the chain that a certificate lists for a process
abbrev pub chain_listed : Option Certificate → ℕ → List ℕ
chain_listed None p = []
chain_listed (Some c) p = chain_of_member (find (λ m. m.0 == p) c.members)

-- the chain that the first certificate of an instance lists for a process
abbrev pub chain_for : List Certificate → ℕ → ℕ → List ℕ
chain_for certificates inst p = chain_listed (find (λ c. c.inst == inst) certificates) p

-- between whom a message went, as the row that sent it says
abbrev pub ends_of_message : List (List ℕ) → Option Event → List ℕ
ends_of_message names (Some (Sent p to body)) = codes ":" ++ (name_text names p ++ (codes "&gt;" ++ name_text names to))
ends_of_message names _ = []

-- a message of a chain: its number and between whom it went
abbrev pub chain_word : List (List ℕ) → List Event → ℕ → List ℕ
chain_word names rows msg = codes " " ++ decimal msg ++ ends_of_message names (row_at rows msg)

-- the chain by which a process joins an instance in a row, as certificates list it
abbrev pub chain_of : List Certificate → Event → List ℕ
chain_of certificates (Took p inst) = chain_for certificates inst p
chain_of certificates (Ready p inst) = chain_for certificates inst p
chain_of certificates _ = []

-- the messages of a chain, by which a member took part; nothing is said where there is none
abbrev pub because : List (List ℕ) → List Event → List ℕ → List ℕ
because names rows chain = codes "; took part because of" ++ flat_map (chain_word names rows) chain

abbrev pub reason : List (List ℕ) → List Event → List ℕ → List ℕ
reason names rows chain =
    if length chain == 0 then [] else because names rows chain

-- so of the process that joins an instance by a row
abbrev pub reason_of : List (List ℕ) → List Event → List Certificate → Event → List ℕ
reason_of names rows certificates row = reason names rows (chain_of certificates row)
