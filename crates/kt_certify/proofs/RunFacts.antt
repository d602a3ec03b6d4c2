-- What a pass over the first rows of a log knows, where the log is legal and no member lacks a chain.
use Rattle.std.proofs.Common.{◌≡◌, ◌≤◌, ◌^◌, ◌∙◌, ℕ, Option, Some, None, All, List, length, take, drop, refl, sym, subst}
use Rattle.std.specs.List.{filter_map}
use Rattle.std.proofs.lemmas.List.{take-append-drop}
use Rattle.kt_spacetime.specs.declared.event.Event.{Event}
use Rattle.kt_spacetime.specs.Events.{IsRowInRange}
use Rattle.kt_spacetime.specs.declared.certificate.Certificate.{Certificate}
use Rattle.kt_chain.specs.Spelling.{HasShortChains, records_of}
use Rattle.kt_chain.specs.Texts.{IsCertText}
use Rattle.kt_meaning.specs.Certificates.{certificates}
use Rattle.kt_meaning.specs.Legal.{IsLegal}
use Rattle.kt_meaning.proofs.LegalLogs.{legal_take}
use Rattle.kt_meaning.proofs.Answering.{no_broken}
use Rattle.kt_meaning.specs.Fitness.{HasNoChain, IsFitLog, IsUnfit}
use Rattle.kt_certify.specs.Instances.{InstanceParts, AreInstancesOf}
use Rattle.kt_meaning.specs.Meant.{AreMeant}
use Rattle.kt_certify.specs.PassOf.{KeepsFit, PassOf}
use Rattle.kt_spacetime.specs.declared.unfit.Unfit.{Unfit}
use Rattle.kt_spacetime.specs.declared.unfit.Unfit.TheVariants.{BadLog, NoChain}
use Rattle.kt_certify.specs.declared.pass.Pass.{Pass}
use Rattle.kt_certify.proofs.Fit.{fit_so_far}
use Rattle.kt_certify.proofs.Meant.{are_meant}
use Rattle.kt_certify.proofs.PassSteps.{listed_of}
use Rattle.kt_certify.proofs.Ranges.{text_says}
use Rattle.kt_certify.proofs.ShortLists.{short_chains}
use Rattle.kt_certify.proofs.Rows.{lacks_more}

module _ (log : List Event) (legal : IsLegal log) (chained : (k p : ℕ) → HasNoChain log k p → ⊥) (n : ℕ) where
  -- its first rows are fit
  never_unfit : (why : Unfit) → IsUnfit (take n log) why → ⊥
  never_unfit (BadLog row rule) h = no_broken (take n log) row rule (legal_take n log legal) h
  never_unfit (NoChain k row p) h =
      let more = lacks_more (take n log) (drop n log) k p h.1.lacks in
      chained k p (subst (λ (l : List Event). HasNoChain l k p) (take-append-drop n log) more.0)

  -- so a pass over them knows all that is known of rows that are fit
  pub fit_in_front : (pass : Pass) → PassOf pass (take n log) → KeepsFit pass (take n log)
  fit_in_front pass h = at pass.unfit refl
    where
      at : (o : Option Unfit) → pass.unfit ≡ o → KeepsFit pass (take n log)
      at None e = fit_so_far pass (take n log) h e
      at (Some why) e = absurd (never_unfit why (h.unfit why e))

-- the certificates that are kept of all rows
module _ (log : List Event) (es : List InstanceParts) (list : List Certificate) (h : AreInstancesOf log es) (found : list ≡ filter_map (λ v. v.certificate) es) where
  -- are those of the log
  pub are_certificates : list ≡ certificates log
  are_certificates = found ∙ listed_of log es h

  -- and what it means, where it is fit
  pub are_as_meant : IsFitLog log → AreMeant log list
  are_as_meant fit = subst (AreMeant log) (sym are_certificates) (are_meant log fit)

  -- they can be written
  pub are_short : IsLegal log → All IsRowInRange log → All HasShortChains list
  are_short legal in_range = subst (All HasShortChains) (sym are_certificates) (short_chains log legal in_range)

  -- and what is written says them
  pub are_said : IsLegal log → All IsRowInRange log → length log ≤ 2 ^ 24 → IsCertText (records_of list) list
  are_said legal in_range few = subst (λ (l : List Certificate). IsCertText (records_of l) l) (sym are_certificates) (text_says log legal in_range few)
