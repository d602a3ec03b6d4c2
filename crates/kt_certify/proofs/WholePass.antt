-- The pass over all rows of a legal log has seen them, and has found the certificates.
use Rattle.std.proofs.Common.{nat_le, ◌≡◌, ℕ, zero, suc, ◌≤◌, true, Some, None, List, [], ◌∷◌, ◌++◌, length, refl, sym, ap, subst, ◌∙◌, arith}
use Rattle.std.proofs.lemmas.Bool.{and_parts}
use Rattle.std.proofs.lemmas.Bool.Decides.{nat_tests}
use Rattle.std.proofs.lemmas.Grind.{fold-append}
use Rattle.std.proofs.lemmas.List.{length-map}
use Rattle.kt_spacetime.specs.declared.event.Event.{Event}
use Rattle.kt_meaning.specs.Past.{Past, past, after}
use Rattle.kt_meaning.specs.Legal.{IsLegal, broken_rule, has_begun}
use Rattle.kt_meaning.specs.Chains.{members}
use Rattle.kt_rules.specs.Standing.{at_number}
use Rattle.kt_meaning.proofs.Items.{item_there}
use Rattle.kt_meaning.proofs.LegalLogs.{past_push, legal_log_induction}
use Rattle.kt_meaning.specs.Certificates.{certificate_of, certificates}
use Rattle.kt_certify.specs.Instances.{InstanceParts, AreInstancesOf, beginning_kept, joined_kept, certificate_kept}
use Rattle.kt_certify.proofs.PassSteps.{step, listed_of}
use Rattle.kt_certify.specs.OnePass.{PassState, pass_after, opening_pass, pass_over, found, HasSeen}

pub seen_none : HasSeen opening_pass []
seen_none = record { known = refl; instances = record { begun = refl; joined = none_joined; certificates = none_certified } }
  where
    none_joined : (k : ℕ) → joined_kept (at_number [] k) ≡ members [] k
    none_joined zero = refl
    none_joined (suc k) = refl

    none_certified : (k : ℕ) → certificate_kept (at_number [] k) ≡ certificate_of [] k
    none_certified zero = refl
    none_certified (suc k) = refl

pub seen_next : (log : List Event) (row : Event) (pass : PassState) → IsLegal log → broken_rule (past log) row ≡ None → HasSeen pass log → HasSeen (pass_after pass row) (log ++ row ∷ [])
seen_next log row pass l unbroken h = record {
  known = ap (λ (s : Past). after s row) h.known ∙ sym (past_push log row);
  instances = step log row pass.instances pass.known l unbroken h.known h.instances;
}

seen_all : (log : List Event) → IsLegal log → HasSeen (pass_over log) log
seen_all log l = legal_log_induction (λ (rows : List Event). HasSeen (pass_over rows) rows)
    seen_none
    (λ rows row k unbroken h. subst (λ (pass : PassState). HasSeen pass (rows ++ row ∷ [])) (sym (fold-append pass_after opening_pass rows (row ∷ []))) (seen_next rows row (pass_over rows) k unbroken h))
    log l

pub found_of : (log : List Event) (pass : PassState) → HasSeen pass log → found pass ≡ certificates log
found_of log pass h = listed_of log pass.instances h.instances

pub in_one_pass : (log : List Event) → IsLegal log → found (pass_over log) ≡ certificates log
in_one_pass log l = found_of log (pass_over log) (seen_all log l)

-- each instance that has begun is there
pub instance_there : (log : List Event) (instances : List InstanceParts) (k : ℕ) → AreInstancesOf log instances → has_begun (past log) k ≡ true → (v : InstanceParts) × (at_number instances k ≡ Some v)
instance_there log instances zero h begun = absurd (cc)
instance_there log instances (suc k) h begun =
    let parts = and_parts (nat_le 1 (suc k)) (nat_le (suc k) (length (past log).begun)) begun in
    let count : length (past log).begun ≡ length instances = sym (ap length h.begun) ∙ length-map instances beginning_kept in
    let low : suc k ≤ length (past log).begun = grind (arith, nat_tests, parts.1) in
    item_there instances k (omega (arith, low, count))
