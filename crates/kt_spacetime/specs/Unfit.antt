-- How it is written why a log has no certificates.
use Rattle.kt_spacetime.specs.declared.unfit.CertFault.{CertFault}
use Rattle.kt_spacetime.specs.declared.unfit.CertFault.TheVariants.{BadLog, NoChain}
use Rattle.kt_spacetime.specs.declared.unfit.Unfit.{Unfit}
use Rattle.kt_spacetime.specs.declared.unfit.Unfit.TheVariants as reason
use Rattle.std.specs.Prelude.{ℕ, List, ◌++◌, codes}
use Rattle.std.specs.Fmt.{decimal}
use Rattle.kt_spacetime.specs.Rules.{number_of}
use Rattle.kt_spacetime.specs.declared.unfit.Unfit.TheVariants.{BadLog, NoChain}

-- a reason that is told without the row of a decision
abbrev pub of_unfit : Unfit → CertFault
of_unfit (reason.BadLog n rule) = BadLog n rule
of_unfit (reason.NoChain k row p) = NoChain k p

-- a no, with the first row that breaks a rule and the rule's number; or with the instance, the row that commits it and the
-- member that lacks a chain
abbrev pub unfit_text : Unfit → List ℕ
unfit_text (BadLog row rule) = codes "no row " ++ decimal row ++ codes " BadLog " ++ decimal (number_of rule)
unfit_text (NoChain k row p) = codes "no instance " ++ decimal k ++ codes " row " ++ decimal row ++ codes " process " ++ decimal p ++ codes " NoChain"
