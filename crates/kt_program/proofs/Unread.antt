-- Texts of which nothing is read, since memory is wanting: that is their first fault.
use Rattle.std.proofs.Common.{◌≡◌, ◌++◌, ◌<◌, ◌≤◌, ℕ, List, [], Option, Some, None, refl, arith}
use Rattle.std.specs.Prelude.{All, IfSome}
use Rattle.kt_log_text.specs.declared.fault.LogFault.TheVariants as log
use Rattle.kt_log_text.specs.Texts.{IsFirstLogFault}
use Rattle.kt_chain.specs.declared.fault.CertTextFault.TheVariants as cert
use Rattle.kt_chain.specs.Texts.{IsFirstCertificateFault}

pub no_certificates : (told : Option (List (List (List ℕ)))) → IfSome told (λ text. IsFirstCertificateFault text cert.Memory)
no_certificates None = tt
no_certificates (Some text) = record {
  before = [];
  left = text;
  after = record { spelled = refl; in_range = λ k d low. absurd (omega (arith, low)); few = omega arith };
  wrong = tt;
}

pub no_rows : (told : Option (List (List (List ℕ)))) → IfSome told (λ text. IsFirstLogFault text log.Memory)
no_rows None = tt
no_rows (Some text) = record { format = None; rows = []; left = text; after_rows = (refl, refl); wrong = tt }
