-- How long the chains of a log are.
use Rattle.std.proofs.Common.{◌≡◌, ℕ, ◌<◌, ◌≤◌, Bool, true, false, Some, List, [], length, map, refl, sym, ap, subst, ◌∙◌, arith}
use Rattle.std.specs.Prelude.{take}
use Rattle.std.specs.List.{slice_get, All}
use Rattle.std.proofs.lemmas.List.{length-map}
use Rattle.std.proofs.lemmas.Option.{slice_get_within}
use Rattle.kt_spacetime.specs.Events.{IsRowInRange}
use Rattle.kt_spacetime.specs.declared.event.Event.{Event}
use Rattle.kt_meaning.specs.Past.{past}
use Rattle.kt_meaning.specs.Legal.{IsLegal}
use Rattle.kt_meaning.specs.Chains.{members}
use Rattle.kt_spacetime.specs.declared.certificate.Certificate.{Certificate}
use Rattle.kt_meaning.specs.Certificates.{certificates}
use Rattle.kt_meaning.proofs.Chained.{process}
use Rattle.kt_meaning.proofs.FewMembers.{few_members}
use Rattle.kt_meaning.proofs.Short.{AreShort, short}
use Rattle.kt_meaning.proofs.Claims.{IsMadeAt, made_somewhere, members_by, members_right}

-- it has fewer messages than there are members up to its own
short_in : (log : List Event) (c : Certificate) (n : ℕ) → IsMadeAt log c n → (b : Bool) → c.commit ≡ b → AreShort c.members
short_in log c n is true e = subst AreShort (sym (members_by log c n is true e)) (short (past (take n log)) c.inst is.beginning.kind is.beginning.initiator (members (take n log) c.inst))
short_in log c n is false e = subst AreShort (sym (members_by log c n is false e)) (record { each = λ i p chain h. absurd (cc) })

pub chain_short : (log : List Event) (i j p : ℕ) (c : Certificate) (chain : List ℕ) → slice_get (certificates log) i ≡ Some c → slice_get c.members j ≡ Some (p, chain) → length chain ≤ j
chain_short log i j p c chain e at =
    let is = made_somewhere log i c e in
    (short_in log c is.0 is.1 c.commit refl).each j p chain at

-- and there are at most 64 members
few_listed : (log : List Event) (c : Certificate) (n : ℕ) → IsLegal log → All IsRowInRange log → IsMadeAt log c n → (b : Bool) → c.commit ≡ b → (j : ℕ) (m : ℕ × List ℕ) → slice_get c.members j ≡ Some m → j < 64
few_listed log c n l all is true e j m at =
    let low = slice_get_within c.members j m at in
    let count : length (map process c.members) ≡ length c.members = length-map c.members process in
    let same : length (map process c.members) ≡ length (members log c.inst) = ap length (members_right log c n l is e) in
    omega (arith, low, count, same, few_members log c.inst l all)
few_listed log c n l all is false e j m at = absurd (nothing (members_by log c n is false e))
  where
    nothing : c.members ≡ [] → ⊥
    nothing none = absurd (cc (sym (ap (λ (ms : List (ℕ × List ℕ)). slice_get ms j) none) ∙ at))

pub chain_few : (log : List Event) (i j p : ℕ) (c : Certificate) (chain : List ℕ) → IsLegal log → All IsRowInRange log → slice_get (certificates log) i ≡ Some c → slice_get c.members j ≡ Some (p, chain) → length chain ≤ 63
chain_few log i j p c chain l all e at =
    let is = made_somewhere log i c e in
    omega (arith, chain_short log i j p c chain e at, few_listed log c is.0 l all is.1 c.commit refl j (p, chain) at)
