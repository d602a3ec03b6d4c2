-- A chain names messages of the log.
use Rattle.std.proofs.Common.{◌≡◌, ℕ, zero, suc, ◌<◌, Bool, true, false, Some, List, [], ◌∷◌, drop, take, refl, sym, ap, subst, ◌∙◌, arith, inl, inr}
use Rattle.std.specs.List.{slice_get}
use Rattle.kt_base.specs.declared.words.Kind.{Kind}
use Rattle.kt_base.specs.declared.words.Kind.TheVariants.{Checkpoint, Rollback}
use Rattle.kt_spacetime.specs.declared.event.Event.{Event}
use Rattle.kt_spacetime.specs.declared.deeds.Deed.TheVariants as deed
use Rattle.kt_meaning.specs.Past.{past}
use Rattle.kt_meaning.specs.Legal.{IsLegal}
use Rattle.kt_meaning.specs.Chains.{members, is_sent_past}
use Rattle.kt_meaning.specs.Messages.{row_at, IsMessage}
use Rattle.kt_meaning.proofs.Items.{get_push, get_take, in_take}
use Rattle.kt_meaning.proofs.LegalLogs.{legal_take}
use Rattle.kt_meaning.proofs.Lists.{get_drop, deed_place}
use Rattle.kt_meaning.proofs.Places.{rowed}
use Rattle.kt_spacetime.specs.declared.certificate.Certificate.{Certificate}
use Rattle.kt_meaning.specs.Passing.{IsChain}
use Rattle.kt_meaning.specs.Linking.{chained}
use Rattle.kt_meaning.specs.Certificates.{certificates}
use Rattle.kt_meaning.specs.Making.{IsMadeOf, begins, follows, unlinked}
use Rattle.kt_meaning.proofs.MadeLists.{AreMade, made}
use Rattle.kt_meaning.proofs.Claims.{IsMadeAt, made_somewhere, members_by}

-- a number is that of a row that sent a message
abbrev pub IsOfLog : List Event → ℕ → Type 0
IsOfLog log m = (from : ℕ) × (to : ℕ) × IsMessage log m from to

sent_row : (log : List Event) (p q msg : ℕ) → IsLegal log → is_sent_past (past log) p q msg ≡ true → IsOfLog log msg
sent_row log p q msg l e =
    let place = deed_place (deed.Sent msg q) (drop ((past log).permanent p) ((past log).live p)) e in
    let there = get_drop ((past log).permanent p) ((past log).live p) place.0 (deed.Sent msg q) place.1 in
    (p, q, (rowed log l).sent p _ msg q there)

link_row : (log : List Event) (k : ℕ) (kind : Kind) (p q msg : ℕ) → IsLegal log → IsChain (past log) k kind q (msg ∷ []) p → IsOfLog log msg
link_row log k Checkpoint p q msg l h = sent_row log h.0 q msg l h.1.sent
link_row log k Rollback p q msg l h = sent_row log q h.0 msg l h.1.sent

-- each message of a list that is made of those before it
each_below : (bound : ℕ) (log : List Event) (k : ℕ) (kind : Kind) (initiator : ℕ) (ms : List (ℕ × List ℕ)) → IsLegal log → AreMade (past log) k kind initiator ms
    → (j p : ℕ) (chain : List ℕ) → j < bound → slice_get ms j ≡ Some (p, chain) → (x m : ℕ) → slice_get chain x ≡ Some m → IsOfLog log m
each_below zero log k kind initiator ms l h j p chain low at x m there = absurd (omega (arith, low))
each_below (suc bound) log k kind initiator ms l h j p chain low at x m there =
    by_making (h.each j p chain at) (λ i q c less e y n f. each_below bound log k kind initiator ms l h i q c (omega (arith, less, low)) e y n f)
  where
    nothing : chain ≡ [] → IsOfLog log m
    nothing none = absurd (cc (sym (ap (λ (c : List ℕ). slice_get c x) none) ∙ there))

    by_making : IsMadeOf (past log) k kind initiator (take j ms) p chain
        → ((i q : ℕ) (c : List ℕ) → i < j → slice_get ms i ≡ Some (q, c) → (y n : ℕ) → slice_get c y ≡ Some n → IsOfLog log n) → IsOfLog log m
    by_making (begins same none) earlier = nothing none
    by_making (unlinked other none never) earlier = nothing none
    by_making (follows other f) earlier = elim (get_push f.its_chain f.msg x m (sym (ap (λ (c : List ℕ). slice_get c x) f.made) ∙ there)) [
      | inl old ↦ earlier f.place f.member f.its_chain (in_take j ms f.place (f.member, f.its_chain) f.there) (get_take j ms f.place (f.member, f.its_chain) f.there) x m old
      | inr new ↦ subst (IsOfLog log) (sym new.1) (link_row log k kind p f.member f.msg l f.links)
    ]

-- each message of a chain has its row
row_stays : (log : List Event) (n m : ℕ) (x : Event) → row_at (take n log) m ≡ Some x → row_at log m ≡ Some x
row_stays log n zero x e = absurd (cc)
row_stays log n (suc m) x e = get_take n log m x e

named_in : (log : List Event) (c : Certificate) (n : ℕ) → IsLegal log → IsMadeAt log c n → (b : Bool) → c.commit ≡ b → (j p x m : ℕ) (chain : List ℕ) → slice_get c.members j ≡ Some (p, chain) → slice_get chain x ≡ Some m → IsOfLog (take n log) m
named_in log c n l is true e j p x m chain at there =
    let listed : List (ℕ × List ℕ) = chained (past (take n log)) c.inst is.beginning.kind is.beginning.initiator (members (take n log) c.inst) in
    each_below (suc j) (take n log) c.inst is.beginning.kind is.beginning.initiator listed (legal_take n log l) (made (take n log) c.inst is.beginning.kind is.beginning.initiator (members (take n log) c.inst))
    j p chain (omega arith) (sym (ap (λ (ms : List (ℕ × List ℕ)). slice_get ms j) (members_by log c n is true e)) ∙ at) x m there
named_in log c n l is false e j p x m chain at there = absurd (cc (sym (ap (λ (ms : List (ℕ × List ℕ)). slice_get ms j) (members_by log c n is false e)) ∙ at))

pub named : (log : List Event) (i j p x m : ℕ) (c : Certificate) (chain : List ℕ) → IsLegal log → slice_get (certificates log) i ≡ Some c → slice_get c.members j ≡ Some (p, chain) → slice_get chain x ≡ Some m
    → (from : ℕ) × (to : ℕ) × IsMessage log m from to
named log i j p x m c chain l e at there =
    let is = made_somewhere log i c e in
    let message = named_in log c is.0 l is.1 c.commit refl j p x m chain at there in
    (message.0, message.1, (message.2.0, row_stays log is.0 m _ message.2.1))
