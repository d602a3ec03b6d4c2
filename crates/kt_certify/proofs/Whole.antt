-- What a pass over all rows of a log has found.
use Rattle.std.proofs.Common.{◌≡◌, ℕ, ◌+◌, ◌^◌, ◌≤◌, Option, Some, None, All, List, [], ◌∷◌, ◌++◌, length, sym, subst, ◌∙◌}
use Rattle.std.specs.List.{filter_map}
use Rattle.kt_spacetime.specs.declared.event.Event.{Event}
use Rattle.kt_spacetime.specs.declared.rules.Rule.{Rule}
use Rattle.kt_meaning.specs.Past.{Past, after}
use Rattle.kt_meaning.specs.Legal.{broken_rule, first_broken_after, or_later}
use Rattle.kt_spacetime.specs.declared.certificate.Certificate.{Certificate}
use Rattle.kt_chain.specs.Spelling.{HasShortChains, records_of}
use Rattle.kt_chain.specs.Texts.{IsCertText}
use Rattle.kt_certify.proofs.Ranges.{text_says}
use Rattle.kt_certify.proofs.ShortLists.{short_chains}
use Rattle.kt_spacetime.specs.Events.{IsRowInRange}
use Rattle.kt_meaning.specs.Certificates.{certificates}
use Rattle.kt_certify.proofs.PassSteps.{listed_of}
use Rattle.kt_certify.specs.declared.pass.Pass.{Pass}
use Rattle.kt_certify.specs.PassOf.{KeepsFit}
use Rattle.kt_meaning.specs.Fitness.{IsFaultOf, IsUnfit, IsWhyUnfit}
use Rattle.kt_spacetime.specs.Unfit.{of_unfit}
use Rattle.kt_spacetime.specs.declared.unfit.Unfit.{Unfit}
use Rattle.kt_spacetime.specs.declared.unfit.Unfit.TheVariants as reason

pub broken_more : (s : Past) (log more : List Event) (x : ℕ × Rule) → first_broken_after s log ≡ Some x → first_broken_after s (log ++ more) ≡ Some x
broken_more s [] more x e = absurd (cc)
broken_more s (row ∷ rows) more x e = at_rule (broken_rule s row) (broken_more (after s row) rows more x) e
  where
    at_rule : (o : Option Rule) → (first_broken_after (after s row) rows ≡ Some x → first_broken_after (after s row) (rows ++ more) ≡ Some x)
        → or_later o (s.rows + 1) (first_broken_after (after s row) rows) ≡ Some x → or_later o (s.rows + 1) (first_broken_after (after s row) (rows ++ more)) ≡ Some x
    at_rule None next h = next h
    at_rule (Some rule) next h = h

-- why a log is not fit is a fault of it, and the first one
pub unfit_fault : (log : List Event) (why : Unfit) → IsUnfit log why → IsFaultOf log (of_unfit why)
unfit_fault log (reason.BadLog n rule) h = h
unfit_fault log (reason.NoChain k row p) h = h.1.lacks

pub why_unfit : (log : List Event) (why : Unfit) → IsUnfit log why → IsWhyUnfit log (of_unfit why)
why_unfit log (reason.BadLog n rule) h = h
why_unfit log (reason.NoChain k row p) h = (h.0, row, h.1)

-- what a pass over all rows has found
pub all_certified : (pass : Pass) (log : List Event) (list : List Certificate) → KeepsFit pass log → list ≡ filter_map (λ v. v.certificate) pass.instances.items → list ≡ certificates log
all_certified pass log list h found = found ∙ listed_of log pass.instances.items h.instances

-- and that it can be written
pub writable : (pass : Pass) (log : List Event) (list : List Certificate) → KeepsFit pass log → list ≡ filter_map (λ v. v.certificate) pass.instances.items → All IsRowInRange log → All HasShortChains list
writable pass log list h found low = subst (All HasShortChains) (sym (all_certified pass log list h found)) (short_chains log h.walk.control.legal low)

pub says : (pass : Pass) (log : List Event) (list : List Certificate) → KeepsFit pass log → list ≡ filter_map (λ v. v.certificate) pass.instances.items → All IsRowInRange log → length log ≤ 2 ^ 24 → IsCertText (records_of list) list
says pass log list h found low few = subst (λ (l : List Certificate). IsCertText (records_of l) l) (sym (all_certified pass log list h found)) (text_says log h.walk.control.legal low few)
