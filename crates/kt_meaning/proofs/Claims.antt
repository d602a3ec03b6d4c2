-- What a certificate of the list says of its instance, and that it is so.
use Rattle.std.proofs.Common.{◌≡◌, ℕ, if◌then◌else◌, Bool, true, Some, List, [], length, map, take, refl, sym, ap, subst, ◌∙◌}
use Rattle.std.specs.List.{slice_get}
use Rattle.kt_base.specs.declared.words.Kind.{Kind}
use Rattle.kt_base.specs.declared.words.Kind.TheVariants.{Checkpoint, Rollback}
use Rattle.kt_spacetime.specs.declared.event.Event.{Event}
use Rattle.kt_spacetime.specs.declared.event.Event.TheVariants.{Decided}
use Rattle.kt_meaning.specs.Past.{Past, Beginning, past, beginning_of, kind_of, is_checkpoint_kind, is_rollback_kind}
use Rattle.kt_meaning.specs.Legal.{IsLegal}
use Rattle.kt_meaning.specs.Throughout.{HasConsistentDecisions, LeavesConsistent}
use Rattle.kt_meaning.specs.Cuts.{IsConsistent}
use Rattle.kt_meaning.specs.Chains.{members}
use Rattle.kt_spacetime.specs.declared.certificate.Certificate.{Certificate}
use Rattle.kt_meaning.specs.Passing.{IsAsInLog, IsListOf, HasLists, decided_cut}
use Rattle.kt_meaning.proofs.Deciding.{members_before, decided_once}
use Rattle.kt_meaning.specs.Linking.{chained}
use Rattle.kt_meaning.specs.Certificates.{certified, certificate_of, certificates}
use Rattle.kt_meaning.specs.Fitness.{HasNoChain}
use Rattle.kt_meaning.proofs.Certified.{each_of}
use Rattle.kt_meaning.proofs.Chained.{process, processes_are}
use Rattle.kt_meaning.proofs.Decisions.{IsCertificate, certificate_is}
use Rattle.kt_meaning.proofs.Listed.{item_is}
use Rattle.kt_meaning.specs.Making.{IsMadeOf}
use Rattle.kt_meaning.proofs.MadeLists.{AreMade, made}
use Rattle.kt_meaning.proofs.LedLists.{AreLists, led_lists}

-- a certificate is made of what is known just before the row, n, that decides its instance
pub record IsMadeAt (log : List Event) (c : Certificate) (n : ℕ) : Type 0 where
  pub decider : ℕ
  pub decided : slice_get log n ≡ Some (Decided decider c.inst c.commit)
  pub beginning : Beginning
  pub began : beginning_of (past (take n log)) c.inst ≡ Some beginning
  pub made : c ≡ certified (past (take n log)) (members (take n log) c.inst) c.inst c.commit beginning

made_of : (log : List Event) (k : ℕ) (c : Certificate) → IsCertificate log k c → (n : ℕ) × IsMadeAt log c n
made_of log k c h = (
  h.row,
  subst (λ (x : Certificate). IsMadeAt log x h.row) h.made (record {
    decider = h.decider;
    decided = h.decided;
    beginning = h.beginning;
    began = h.began;
    made = refl;
  }),
)

pub made_somewhere : (log : List Event) (i : ℕ) (c : Certificate) → slice_get (certificates log) i ≡ Some c → (n : ℕ) × IsMadeAt log c n
made_somewhere log i c e =
    let number = item_is (certificate_of log) (length (past log).begun) i c e in
    made_of log number.0 c (certificate_is log number.0 c number.3)

pub made_at : (log : List Event) (i n : ℕ) (c : Certificate) → IsLegal log → slice_get (certificates log) i ≡ Some c → IsAsInLog log c n → IsMadeAt log c n
made_at log i n c l e said =
    let is = made_somewhere log i c e in
    let row = decided_once log is.0 n is.1.decider said.process c.inst c.commit c.commit l is.1.decided said.decided in
    subst (IsMadeAt log c) row is.1

pub stated : (log : List Event) (i : ℕ) (c : Certificate) → slice_get (certificates log) i ≡ Some c → (n : ℕ) × IsAsInLog log c n
stated log i c e =
    let is = each_of log i c e in
    let h = is.1 in
    (is.0, record { process = h.process; decided = h.decided; kind = h.kind; initiator = h.initiator; no_members = h.no_members })

-- the parts of a certificate
kind_is : (log : List Event) (c : Certificate) (n : ℕ) → (is : IsMadeAt log c n) → c.kind ≡ is.beginning.kind
kind_is log c n is = ap (λ (x : Certificate). x.kind) is.made

initiator_is : (log : List Event) (c : Certificate) (n : ℕ) → (is : IsMadeAt log c n) → c.initiator ≡ is.beginning.initiator
initiator_is log c n is = ap (λ (x : Certificate). x.initiator) is.made

pub members_by : (log : List Event) (c : Certificate) (n : ℕ) → (is : IsMadeAt log c n) → (b : Bool) → c.commit ≡ b
    → c.members ≡ (if b then chained (past (take n log)) c.inst is.beginning.kind is.beginning.initiator (members (take n log) c.inst) else [])
members_by log c n is b e = ap (λ (x : Certificate). x.members) is.made
    ∙ ap (λ (x : Bool). if x then chained (past (take n log)) c.inst is.beginning.kind is.beginning.initiator (members (take n log) c.inst) else []) e

committed_row : (log : List Event) (c : Certificate) (n : ℕ) → (is : IsMadeAt log c n) → c.commit ≡ true → slice_get log n ≡ Some (Decided is.decider c.inst true)
committed_row log c n is committed = is.decided ∙ ap (λ (b : Bool). Some (Decided is.decider c.inst b)) committed

-- the members of a committed one
pub members_right : (log : List Event) (c : Certificate) (n : ℕ) → IsLegal log → IsMadeAt log c n → c.commit ≡ true → map process c.members ≡ members log c.inst
members_right log c n l is committed =
    ap (map process) (members_by log c n is true committed)
    ∙ (processes_are (past (take n log)) c.inst is.beginning.kind is.beginning.initiator (members (take n log) c.inst) ∙ sym (members_before log n is.decider c.inst c.commit l is.decided))

-- how their chains are made
pub list_made : (log : List Event) (n j p : ℕ) (c : Certificate) (chain : List ℕ) → IsMadeAt log c n → c.commit ≡ true → slice_get c.members j ≡ Some (p, chain)
    → IsMadeOf (past (take n log)) c.inst c.kind c.initiator (take j c.members) p chain
list_made log n j p c chain is committed at =
    let lists : AreMade (past (take n log)) c.inst is.beginning.kind is.beginning.initiator c.members =
    subst (AreMade (past (take n log)) c.inst is.beginning.kind is.beginning.initiator) (sym (members_by log c n is true committed)) (made (take n log) c.inst is.beginning.kind is.beginning.initiator (members (take n log) c.inst)) in
    subst (λ (x : Kind). IsMadeOf (past (take n log)) c.inst x c.initiator (take j c.members) p chain) (sym (kind_is log c n is))
    (subst (λ (x : ℕ). IsMadeOf (past (take n log)) c.inst is.beginning.kind x (take j c.members) p chain) (sym (initiator_is log c n is)) (lists.each j p chain at))

-- and that each is one, where no member lacks one
pub lists_right : (log : List Event) (c : Certificate) (n : ℕ) → IsMadeAt log c n → ((p : ℕ) → HasNoChain log c.inst p → ⊥) → c.commit ≡ true → HasLists (past (take n log)) c
lists_right log c n is never committed i p chain e =
    let lists : AreLists (past (take n log)) c.inst is.beginning.kind is.beginning.initiator c.members =
    subst (AreLists (past (take n log)) c.inst is.beginning.kind is.beginning.initiator) (sym (members_by log c n is true committed)) (led_lists log n is.decider c.inst is.beginning (committed_row log c n is committed) is.began never) in
    subst (λ (x : Kind). IsListOf (past (take n log)) c.inst x c.initiator p chain) (sym (kind_is log c n is))
    (subst (λ (x : ℕ). IsListOf (past (take n log)) c.inst is.beginning.kind x p chain) (sym (initiator_is log c n is)) (lists.each i p chain e))

-- the cut of a committed one
cut_consistent : (s : Past) (k : ℕ) (kind : Kind) → LeavesConsistent s k → kind_of s k ≡ Some kind → IsConsistent s (decided_cut s k kind)
cut_consistent s k Checkpoint h of_kind = h.checkpoint (ap is_checkpoint_kind of_kind)
cut_consistent s k Rollback h of_kind = h.rollback (ap is_rollback_kind of_kind)

pub cut_right : (log : List Event) (c : Certificate) (n : ℕ) → HasConsistentDecisions log → IsAsInLog log c n → c.commit ≡ true → IsConsistent (past (take n log)) (decided_cut (past (take n log)) c.inst c.kind)
cut_right log c n h said committed =
    let decided = said.decided ∙ ap (λ (b : Bool). Some (Decided said.process c.inst b)) committed in
    cut_consistent (past (take n log)) c.inst c.kind (h n said.process c.inst decided) said.kind
