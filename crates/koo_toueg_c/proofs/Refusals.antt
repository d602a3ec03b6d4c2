-- Why stored certificates are refused.
use Rattle.std.proofs.Common.{◌≡◌, ℕ, List}
use Rattle.kt_chain.specs.Texts.{IsFirstCertificateFault}
use Rattle.kt_chain.specs.declared.fault.CertTextFault.{CertTextFault}
use Rattle.kt_chain.specs.declared.fault.CertTextFault.TheVariants.{Read, TooLong, Fields, Word, Number, Place, Memory}
use Rattle.koo_toueg_c.specs.Numbers.{of_cert}
use Rattle.koo_toueg_c.specs.Stored.{IsRefusalOfCertificates, certificates_in}

-- the first fault of a text is why it is refused
pub refused : (text : List ℕ) (fault : CertTextFault) → IsFirstCertificateFault (certificates_in text) fault → IsRefusalOfCertificates text (of_cert fault)
refused text Memory h = tt
refused text Read h = ((λ e. cc), h)
refused text TooLong h = ((λ e. cc), h)
refused text (Fields n) h = ((λ e. cc), h)
refused text (Word n) h = ((λ e. cc), h)
refused text (Number n) h = ((λ e. cc), h)
refused text (Place n) h = ((λ e. cc), h)
