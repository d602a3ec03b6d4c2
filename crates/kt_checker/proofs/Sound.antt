-- A certificate that passes, and what certificates that all pass say of a log.
use Rattle.std.proofs.Common.{◌≡◌, ℕ, zero, suc, ◌≤◌, ◌||◌, not, nat_le, is_some, Bool, true, false, Option, Some, None, option_map, List, [], length, take, refl, sym, ap, ◌∙◌, subst, arith}
use Rattle.std.specs.Prelude.{◌↔◌}
use Rattle.std.specs.List.{slice_get, Contains}
use Rattle.std.proofs.lemmas.Bool.{and_parts}
use Rattle.std.proofs.lemmas.Bool.Decides.{nat_tests}
use Rattle.std.proofs.lemmas.Option.{slice_get_within, slice_get-map}
use Rattle.kt_base.specs.declared.words.Kind.TheVariants.{Rollback}
use Rattle.kt_spacetime.specs.declared.event.Event.{Event}
use Rattle.kt_spacetime.specs.declared.event.Event.TheVariants as event
use Rattle.kt_meaning.specs.Past.{Past, Beginning, past, beginning_of, kind_of, is_checkpoint, is_checkpoint_kind}
use Rattle.kt_meaning.specs.Legal.{IsLegal, has_begun}
use Rattle.kt_meaning.specs.Cuts.{IsConsistent, permanent_cut, present_cut}
use Rattle.kt_meaning.specs.Chains.{members}
use Rattle.kt_rules.specs.Standing.{at_number}
use Rattle.kt_meaning.proofs.Items.{item_there, some_same}
use Rattle.kt_meaning.proofs.LegalLogs.{kept, legal_take, next_unbroken}
use Rattle.kt_meaning.proofs.Positions.{positions}
use Rattle.kt_meaning.proofs.Members.{contains_member, member_contained}
use Rattle.kt_meaning.proofs.Consistency.{consistent, sound_log, decisions_take}
use Rattle.kt_spacetime.specs.declared.certificate.Certificate.{Certificate}
use Rattle.kt_checker.specs.declared.decisions.Instance.{Instance}
use Rattle.kt_checker.specs.declared.decisions.Decision.{Decision}
use Rattle.kt_checker.specs.Gathered.{Gathered, IsDecision, beginning_gathered, decision_gathered}
use Rattle.kt_meaning.specs.Passing.{Passes, IsPassed, IsAsInLog, IsSecond, IsShownBefore, ListsReadyOf}
use Rattle.kt_meaning.proofs.Deciding.{members_before, unwilling_before, beginning_stays}
use Rattle.kt_meaning.proofs.Sound.{decisions_consistent}

-- how an instance began, as gathered
pub beginning_listed : {certs : List Certificate} (list : List Instance) (rows : List Event) (k : ℕ) → Gathered certs list rows → beginning_of (past rows) k ≡ option_map beginning_gathered (at_number list k)
beginning_listed {certs} list rows zero h = refl
beginning_listed {certs} list rows (suc k) h = ap (λ (l : List Beginning). slice_get l k) (sym h.begun) ∙ slice_get-map beginning_gathered list k

begun_is : (s : Past) (k : ℕ) → has_begun s k ≡ true → (b : Beginning) × (beginning_of s k ≡ Some b)
begun_is s zero e =
    let no_such : false ≡ true = e in
    absurd (cc)
begun_is s (suc k) e =
    let parts = and_parts (nat_le 1 (suc k)) (nat_le (suc k) (length s.begun)) e in
    item_there s.begun k (grind (arith, nat_tests, parts.1))

-- it is known just before the decided row
pub beginning_then : {certs : List Certificate} (list : List Instance) (rows : List Event) (n p k : ℕ) (commit : Bool) (v : Instance) → IsLegal rows → Gathered certs list rows → at_number list k ≡ Some v → slice_get rows n ≡ Some (event.Decided p k commit)
    → beginning_of (past (take n rows)) k ≡ Some (beginning_gathered v)
beginning_then {certs} list rows n p k commit v l h there at =
    let numbers = (kept (past (take n rows)) (event.Decided p k commit) (next_unbroken rows n (event.Decided p k commit) l at)).numbers in
    let first = begun_is (past (take n rows)) k numbers in
    let last = beginning_stays rows n k first.0 first.1 in
    let same : first.0 ≡ beginning_gathered v = some_same (sym last ∙ (beginning_listed list rows k h ∙ ap (option_map beginning_gathered) there)) in
    first.1 ∙ ap Some same

-- who is ready in a rollback is who has joined it
ready_members : (log : List Event) (k p : ℕ) → IsLegal log → kind_of (past log) k ≡ Some Rollback → ((past log).ready k p ≡ true) ↔ Contains (members log k) p
ready_members log k p l of_kind = (λ e. contains_member log k p (either ((past log).new k p) e), λ c. only ((past log).new k p) refl (member_contained log k p c))
  where
    either : (o : Option ℕ) → (past log).ready k p ≡ true → (is_some o || (past log).ready k p) ≡ true
    either None e = e
    either (Some n) e = refl

    only : (o : Option ℕ) → (past log).new k p ≡ o → (is_some o || (past log).ready k p) ≡ true → (past log).ready k p ≡ true
    only None e m = m
    only (Some n) e m =
        let took : is_checkpoint (past log) k ≡ true = (positions log l).took_kind p k n e in
        let never : false ≡ true = sym (ap is_checkpoint_kind of_kind) ∙ took in
        absurd (cc)

pub within : (rows : List Event) (n : ℕ) (x : Event) → slice_get rows n ≡ Some x → n ≤ length rows
within rows n x e = omega (arith, slice_get_within rows n x e)

-- a certificate that says what was gathered of a decided instance is as the log has it
pub as_in_log : {certs : List Certificate} (list : List Instance) (rows : List Event) (c : Certificate) (v : Instance) (d : Decision) (n p : ℕ) → IsLegal rows → Gathered certs list rows → at_number list c.inst ≡ Some v
    → slice_get rows n ≡ Some (event.Decided p c.inst d.commit) → v.kind ≡ c.kind → v.initiator ≡ c.initiator → d.commit ≡ c.commit → (c.commit ≡ false → c.members ≡ []) → IsAsInLog rows c n
as_in_log {certs} list rows c v d n p l h there at of_kind initiator commit no_members =
    let began = beginning_then list rows n p c.inst d.commit v l h there at in
    record {
      process = p;
      decided = at ∙ ap (λ (b : Bool). Some (event.Decided p c.inst b)) commit;
      kind = ap (λ (o : Option Beginning). option_map (λ b. b.kind) o) began ∙ ap Some of_kind;
      initiator = ap (λ (o : Option Beginning). option_map (λ b. b.initiator) o) began ∙ ap Some initiator;
      no_members = no_members;
    }

-- the members of a rollback are the processes that were ready just before the decided row
pub ready_in_joined : (rows : List Event) (c : Certificate) (n : ℕ) → IsLegal rows → kind_of (past (take n rows)) c.inst ≡ Some c.kind → ListsReadyOf (past (take n rows)) c (members (take n rows) c.inst)
ready_in_joined rows c n l of_kind = λ rollback q. ready_members (take n rows) c.inst q (legal_take n rows l) (of_kind ∙ ap Some rollback)

pub passes_of : {certs : List Certificate} (list : List Instance) (rows : List Event) (c : Certificate) (i : ℕ) (v : Instance) (d : Decision) → IsLegal rows → Gathered certs list rows → at_number list c.inst ≡ Some v → v.decision ≡ Some d
    → v.kind ≡ c.kind → v.initiator ≡ c.initiator → d.commit ≡ c.commit → (c.commit ≡ false → c.members ≡ []) → slice_get certs i ≡ Some c → (IsSecond certs i c → ⊥) → d.fault ≡ None → Passes rows c
passes_of {certs} list rows c i v d l h there decided of_kind initiator commit no_members at first none =
    let found : IsDecision certs rows c.inst (Some d) = subst (IsDecision certs rows c.inst) decided (subst (λ (o : Option Instance). IsDecision certs rows c.inst (decision_gathered o)) there (h.decision c.inst)) in
    let n : ℕ = found.0 in
    let instance = as_in_log list rows c v d n found.1 l h there found.3 of_kind initiator commit no_members in
    let finding = found.5 i c at refl first in
    record {
      row = n;
      instance = instance;
      cause = unwilling_before rows n found.1 c.inst d.commit l found.3 ∙ (finding.cause none ∙ ap not commit);
      shown = λ yes_commit. subst (IsShownBefore (past (take n rows)) c) (sym (members_before rows n found.1 c.inst d.commit l found.3))
          (finding.shown none (commit ∙ yes_commit) (ready_in_joined rows c n l instance.kind));
    }

pub permanent_consistent : (rows : List Event) (certificates : List Certificate) → IsPassed rows certificates → (n : ℕ) → IsConsistent (past (take n rows)) (permanent_cut (past (take n rows)))
permanent_consistent rows certificates h n =
    let s = sound_log (take n rows) (legal_take n rows h.legal) (decisions_take n rows (decisions_consistent rows certificates h)) in
    consistent (past (take n rows)) (permanent_cut (past (take n rows))) s.permanent

pub present_consistent : (rows : List Event) (certificates : List Certificate) → IsPassed rows certificates → (n : ℕ) → IsConsistent (past (take n rows)) (present_cut (past (take n rows)))
present_consistent rows certificates h n =
    let s = sound_log (take n rows) (legal_take n rows h.legal) (decisions_take n rows (decisions_consistent rows certificates h)) in
    consistent (past (take n rows)) (present_cut (past (take n rows))) s.present
