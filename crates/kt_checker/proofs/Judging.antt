-- What a judge finds row by row.
use Rattle.std.proofs.Common.{◌≡◌, ℕ, ◌+◌, Bool, true, Option, Some, None, option_map, List, [], ◌∷◌, ◌++◌, length, take, drop, refl, sym, ap, ◌∙◌, subst, arith, inl, inr}
use Rattle.std.specs.List.{slice_get}
use Rattle.std.proofs.lemmas.Bool.{and_parts}
use Rattle.std.proofs.lemmas.List.{take-append-drop, take-append-le, take_all}
use Rattle.std.proofs.Math.Seq.{take-append_seam}
use Rattle.std.proofs.lemmas.Option.{slice_get_within}
use Rattle.kt_base.specs.declared.words.Kind.{Kind}
use Rattle.kt_spacetime.specs.declared.event.Event.{Event}
use Rattle.kt_spacetime.specs.declared.event.Event.TheVariants as event
use Rattle.kt_spacetime.specs.declared.rules.Rule.{Rule}
use Rattle.kt_meaning.specs.Past.{Past, Beginning, past, start, after, kind_of}
use Rattle.kt_meaning.specs.Cuts.{IsConsistent}
use Rattle.kt_meaning.specs.Throughout.{HasConsistentDecisions, LeavesConsistent}
use Rattle.kt_meaning.proofs.Items.{get_push, some_same}
use Rattle.kt_meaning.specs.Legal.{IsLegal, broken_rule, first_broken_after, or_later, is_undecided}
use Rattle.kt_meaning.specs.Chains.{members}
use Rattle.kt_rules.specs.Standing.{at_number}
use Rattle.kt_meaning.proofs.LegalLogs.{kept, legal_last}
use Rattle.kt_spacetime.specs.declared.certificate.Certificate.{Certificate}
use Rattle.kt_checker.specs.declared.decisions.Instance.{Instance}
use Rattle.kt_spacetime.specs.declared.verdict.Verdict.{Verdict}
use Rattle.kt_spacetime.specs.declared.verdict.Why.{Why}
use Rattle.kt_meaning.specs.Unwilling.{has_unwilling}
use Rattle.kt_checker.specs.Gathered.{Gathered, IsFinding, IsFoundFirst, beginning_gathered, members_gathered, refused_gathered}
use Rattle.kt_meaning.specs.Passing.{IsSecond, ListsReadyOf, decided_cut}
use Rattle.kt_checker.specs.Judged.{IsFirstOfInstance}
use Rattle.kt_meaning.specs.Answers.{IsBadLog}
use Rattle.kt_checker.proofs.Gathering.{begun_gathered}
use Rattle.kt_checker.proofs.FirstPlaces.{the_first}
use Rattle.kt_checker.proofs.Sound.{beginning_listed, ready_in_joined}
use Rattle.kt_meaning.proofs.Sound.{checkpoint_kind, rollback_kind}

-- what was found of the certificate at the place of an instance's first one
pub found_of : {certs : List Certificate} (list : List Instance) (rows : List Event) (k : ℕ) (v : Instance) (commit : Bool) (fault : Option Why) (c : Certificate) (n place : ℕ) → Gathered certs list rows → at_number list k ≡ Some v
    → IsFirstOfInstance certs n k (Some place) → slice_get certs place ≡ Some c → IsFinding (past rows) v.members.items v.refused commit c fault → IsFoundFirst certs rows k commit fault
found_of {certs} list rows k v commit fault c n place h there first at finding i w e inst second =
    let same : c ≡ w = some_same (sym at ∙ the_first certs n k place i w first e inst second) in
    let listed : v.members.items ≡ members rows k = ap members_gathered (sym there) ∙ h.members_listed k in
    let refused : v.refused ≡ has_unwilling rows k = ap refused_gathered (sym there) ∙ h.refused k in
    subst (λ (x : Certificate). IsFinding (past rows) (members rows k) (has_unwilling rows k) commit x fault) same
    (subst (λ (b : Bool). IsFinding (past rows) (members rows k) b commit c fault) refused
    (subst (λ (ms : List ℕ). IsFinding (past rows) ms v.refused commit c fault) listed finding))

-- an instance that a row decides was gathered
pub decided_begun : {certs : List Certificate} (list : List Instance) (rows : List Event) (p k : ℕ) (commit : Bool) → Gathered certs list rows → IsLegal (rows ++ event.Decided p k commit ∷ []) → (v : Instance) × (at_number list k ≡ Some v)
decided_begun list rows p k commit h l =
    begun_gathered list rows k h (kept (past rows) (event.Decided p k commit) (legal_last rows (event.Decided p k commit) l).1).numbers

-- before the row that decides it an instance is undecided
pub undecided_before : (rows : List Event) (p k : ℕ) (commit : Bool) → IsLegal (rows ++ event.Decided p k commit ∷ []) → is_undecided (past rows) k ≡ true
undecided_before rows p k commit l =
    let deciding = (kept (past rows) (event.Decided p k commit) (legal_last rows (event.Decided p k commit) l).1).deciding in
    (and_parts _ (is_undecided (past rows) k) deciding).1

-- one more row, which leaves a consistent cut if it commits
pub decisions_more : (rows : List Event) (row : Event) → HasConsistentDecisions rows → ((p k : ℕ) → row ≡ event.Decided p k true → LeavesConsistent (past rows) k) → HasConsistentDecisions (rows ++ row ∷ [])
decisions_more rows row d leaves n p k e = elim (get_push rows row n (event.Decided p k true) e) [
  | inl there ↦
      subst (λ (l : List Event). LeavesConsistent (past l) k) (sym (take-append-le n rows (row ∷ []) (omega (arith, slice_get_within rows n (event.Decided p k true) there)))) (d n p k there)
  | inr last ↦
      subst (λ (l : List Event). LeavesConsistent (past l) k) (sym (ap (λ (m : ℕ). take m (rows ++ row ∷ [])) last.0 ∙ take-append_seam rows (row ∷ []))) (leaves p k (sym last.1))
]

-- the kind of an instance, as gathered
pub kind_gathered : {certs : List Certificate} (list : List Instance) (rows : List Event) (k : ℕ) (v : Instance) → Gathered certs list rows → at_number list k ≡ Some v → kind_of (past rows) k ≡ Some v.kind
kind_gathered list rows k v h there = ap (λ (o : Option Beginning). option_map (λ b. b.kind) o) (beginning_listed list rows k h ∙ ap (option_map beginning_gathered) there)

-- nothing is wrong with the first certificate of a committed instance, which has its kind: so it leaves a consistent cut
pub leaves_of : (certs : List Certificate) (rows : List Event) (i : ℕ) (c : Certificate) → IsLegal rows → slice_get certs i ≡ Some c → (IsSecond certs i c → ⊥) → kind_of (past rows) c.inst ≡ Some c.kind
    → IsFoundFirst certs rows c.inst true None → LeavesConsistent (past rows) c.inst
leaves_of certs rows i c l at first of_kind found = record {
  checkpoint = λ kind. subst (λ (x : Kind). IsConsistent (past rows) (decided_cut (past rows) c.inst x)) (checkpoint_kind (kind_of (past rows) c.inst) c.kind of_kind kind) consistent;
  rollback = λ kind. subst (λ (x : Kind). IsConsistent (past rows) (decided_cut (past rows) c.inst x)) (rollback_kind (kind_of (past rows) c.inst) c.kind of_kind kind) consistent;
}
  where
    whole : take (length rows) rows ≡ rows
    whole = take_all (length rows) rows (omega arith)

    ready : ListsReadyOf (past rows) c (members rows c.inst)
    ready = subst (λ (r : List Event). ListsReadyOf (past r) c (members r c.inst)) whole (ready_in_joined rows c (length rows) l (subst (λ (r : List Event). kind_of (past r) c.inst ≡ Some c.kind) (sym whole) of_kind))

    consistent : IsConsistent (past rows) (decided_cut (past rows) c.inst c.kind)
    consistent = ((found i c at refl first).shown refl refl ready).consistent

broken_more : (s : Past) (log more : List Event) (x : ℕ × Rule) → first_broken_after s log ≡ Some x → first_broken_after s (log ++ more) ≡ Some x
broken_more s [] more x e = absurd (cc)
broken_more s (row ∷ rows) more x e = at_rule (broken_rule s row) (broken_more (after s row) rows more x) e
  where
    at_rule : (o : Option Rule) → (first_broken_after (after s row) rows ≡ Some x → first_broken_after (after s row) (rows ++ more) ≡ Some x)
        → or_later o (s.rows + 1) (first_broken_after (after s row) rows) ≡ Some x → or_later o (s.rows + 1) (first_broken_after (after s row) (rows ++ more)) ≡ Some x
    at_rule None next h = next h
    at_rule (Some rule) next h = h

-- a log that begins with rows that break a rule breaks it there
pub bad_more : (log more : List Event) (v : Verdict) → IsBadLog log v → IsBadLog (log ++ more) v
bad_more log more v bad = (bad.0, bad.1, bad.2, broken_more start log more (bad.0, bad.1) bad.3)

pub bad_front : (n : ℕ) (log : List Event) (v : Verdict) → IsBadLog (take n log) v → IsBadLog log v
bad_front n log v bad = subst (λ (l : List Event). IsBadLog l v) (take-append-drop n log) (bad_more (take n log) (drop n log) v bad)
