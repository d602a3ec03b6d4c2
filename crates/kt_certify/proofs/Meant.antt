-- The certificates of a log that is fit are those that it means.
use Rattle.std.proofs.Common.{◌≡◌, ◌≢◌, ℕ, Bool, true, false, Some, List, [], take, refl, sym, subst}
use Rattle.std.specs.List.{slice_get, filter_map}
use Rattle.kt_base.specs.declared.words.Kind.{Kind}
use Rattle.kt_base.specs.declared.words.Kind.TheVariants.{Checkpoint, Rollback}
use Rattle.kt_spacetime.specs.declared.event.Event.{Event}
use Rattle.kt_spacetime.specs.declared.event.Event.TheVariants.{Decided}
use Rattle.kt_meaning.specs.Past.{Past, past}
use Rattle.kt_spacetime.specs.declared.certificate.Certificate.{Certificate}
use Rattle.kt_meaning.specs.Passing.{IsAsInLog, IsChain, IsListOf, HasCertificate}
use Rattle.kt_meaning.specs.Certificates.{certificates}
use Rattle.kt_meaning.specs.Fitness.{IsFitLog}
use Rattle.kt_meaning.specs.Making.{FollowsFirst, IsMadeOf, begins, follows, unlinked}
use Rattle.kt_meaning.specs.Meant.{IsDecided, IsChainOf, IsMeant, AreMeant}
use Rattle.kt_certify.specs.PassOf.{KeepsFit}
use Rattle.kt_certify.specs.declared.pass.Pass.{Pass}
use Rattle.kt_meaning.proofs.Certified.{rising}
use Rattle.kt_meaning.proofs.Claims.{IsMadeAt, made_at, stated, members_right, list_made, lists_right}
use Rattle.kt_meaning.proofs.Passing.{complete}
use Rattle.kt_certify.proofs.Whole.{all_certified}

-- an empty chain leads to where it begins
ends_at_once : (s : Past) (k : ℕ) (kind : Kind) (q p : ℕ) → IsChain s k kind q [] p → q ≡ p
ends_at_once s k Checkpoint q p e = e
ends_at_once s k Rollback q p e = e

-- so a member that has a chain is linked with an earlier one
follows_of : (s : Past) (k : ℕ) (kind : Kind) (initiator : ℕ) (earlier : List (ℕ × List ℕ)) (p : ℕ) (chain : List ℕ) → IsMadeOf s k kind initiator earlier p chain → IsListOf s k kind initiator p chain
    → p ≢ initiator → FollowsFirst s k kind earlier p chain
follows_of s k kind initiator earlier p chain (begins same none) list other = absurd (other same)
follows_of s k kind initiator earlier p chain (follows o through) list other = through
follows_of s k kind initiator earlier p chain (unlinked o none never) list other =
    absurd (other (sym (ends_at_once s k kind initiator p (subst (λ (l : List ℕ). IsChain s k kind initiator l p) none (list.leads other)))))

chains_of : (log : List Event) (c : Certificate) (n : ℕ) → IsFitLog log → IsMadeAt log c n → IsAsInLog log c n
    → (place p : ℕ) (chain : List ℕ) → slice_get c.members place ≡ Some (p, chain) → IsChainOf (past (take n log)) c place p chain
chains_of log c n fit is said place p chain at = by_commit c.commit refl
  where
    by_commit : (b : Bool) → c.commit ≡ b → IsChainOf (past (take n log)) c place p chain
    by_commit true committed =
        let list = lists_right log c n is (fit.chained c.inst) committed place p chain at in
        record {
          none = list.none;
          made = follows_of (past (take n log)) c.inst c.kind c.initiator (take place c.members) p chain (list_made log n place p c chain is committed at) list;
        }
    by_commit false aborted =
        let no_member = subst (λ (l : List (ℕ × List ℕ)). slice_get l place ≡ Some (p, chain)) (said.no_members aborted) at in
        absurd (cc)

meant_at : (log : List Event) (i : ℕ) (c : Certificate) → IsFitLog log → slice_get (certificates log) i ≡ Some c → IsMeant log c
meant_at log i c fit e =
    let said = stated log i c e in
    let is = made_at log i said.0 c fit.legal e said.1 in
    record {
      row = said.0;
      instance = said.1;
      listed = members_right log c said.0 fit.legal is;
      chains = chains_of log c said.0 fit is said.1;
    }

-- an instance that has a certificate is decided
decided_of : (log : List Event) (k : ℕ) → HasCertificate (certificates log) k → IsDecided log k
decided_of log k h =
    let said = stated log h.0 h.1 h.2 in
    (said.0, said.1.process, h.1.commit, subst (λ (j : ℕ). slice_get log said.0 ≡ Some (Decided said.1.process j h.1.commit)) h.3 said.1.decided)

pub are_meant : (log : List Event) → IsFitLog log → AreMeant log (certificates log)
are_meant log fit = record {
  complete = λ k. (λ d. complete log fit.legal d.0 d.1 k d.2 d.3, decided_of log k);
  rising = rising log;
  each = λ i c e. meant_at log i c fit e;
}

-- what a pass over all rows has found
pub all_meant : (pass : Pass) (log : List Event) (list : List Certificate) → KeepsFit pass log → list ≡ filter_map (λ v. v.certificate) pass.instances.items → AreMeant log list
all_meant pass log list h found =
    subst (AreMeant log) (sym (all_certified pass log list h found)) (are_meant log (record { legal = h.walk.control.legal; chained = h.chained }))
