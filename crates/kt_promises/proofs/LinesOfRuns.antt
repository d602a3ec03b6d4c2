-- Where the messages of a run are, by what code has.
use Rattle.std.proofs.Common.{◌≡◌, ℕ, ℤ, Bool, List, [], ◌∷◌, ◌++◌, refl, sym, ap, ap₂, subst, ◌∙◌}
use Rattle.kt_protocol.specs.Parcels.{messages as messages_of_protocol, Parcel, App, Ask, Reply, Decide}
use Rattle.kt_protocol.specs.InTransit.{times, received_of}
use Rattle.kt_protocol.specs.States.{State, ProtocolStep, opening}
use Rattle.kt_protocol.specs.LateSteps.{late_run}
use Rattle.kt_machine.specs.Labelling.{labelling}
use Rattle.kt_machine.specs.Seen.{seen_parcels, seen}
use Rattle.kt_machine.specs.Done.{done}
use Rattle.kt_machine.specs.States.{messages_between, AreRisingNumbers}
use Rattle.kt_machine.proofs.RunActs.{invariant_late, legal_late}
use Rattle.kt_machine.proofs.StandsOnce.{stands_once}
use Rattle.kt_machine.proofs.RisingLines.{rises_of, kept_is}
use Rattle.kt_promises.specs.Lines.{messages_among, message_line, EachIsOnceOnItsLine, RetainsReceived}

messages_are : (label : ℕ → ℕ) (body : ℕ → ℤ) (roll : ℕ → Bool) (l : List Parcel) → messages_among (seen_parcels label body roll l) ≡ messages_of_protocol l
unfolding seen_parcels
messages_are label body roll [] = refl
messages_are label body roll (App m ∷ xs) = ap (λ (l : List ℕ). m ∷ l) (messages_are label body roll xs)
messages_are label body roll (Ask k l ∷ xs) = messages_are label body roll xs
messages_are label body roll (Reply k w ∷ xs) = messages_are label body roll xs
messages_are label body roll (Decide k c ∷ xs) = messages_are label body roll xs

line_is : (first : ℕ) (s : State) (p q : ℕ) → message_line (seen first s) p q ≡ messages_between (done s.log).own s.channel s.held p q
line_is first s p q = let t = labelling first s.log in ap₂ (λ (x y : List ℕ). received_of p ((done s.log).own q) ++ (x ++ y)) (messages_are t.label t.body s.so_far.is_rollback (s.held p q)) (messages_are t.label t.body s.so_far.is_rollback (s.channel p q))

pub once_seen : (n first : ℕ) (steps : List ProtocolStep) → EachIsOnceOnItsLine (seen first (late_run (opening n) steps))
once_seen n first steps m p q h d = ap (times m) (line_is first (late_run (opening n) steps) p q) ∙ stands_once n steps m p q h d

pub rising_seen : (n first : ℕ) (steps : List ProtocolStep) (p q : ℕ) → AreRisingNumbers (message_line (seen first (late_run (opening n) steps)) p q)
rising_seen n first steps p q = subst AreRisingNumbers (sym (line_is first (late_run (opening n) steps) p q)) (rises_of n steps (invariant_late n) (legal_late n steps) p q)

pub keeps_seen : (n first : ℕ) (steps : List ProtocolStep) → RetainsReceived (seen first (late_run (opening n) steps))
keeps_seen n first steps p q = let s = late_run (opening n) steps in let t = labelling first s.log in messages_are t.label t.body s.so_far.is_rollback (s.kept q p) ∙ kept_is n steps (invariant_late n) (legal_late n steps) p q
