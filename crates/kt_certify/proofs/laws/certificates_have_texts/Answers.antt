use Rattle.kt_certify.proofs.Ranges.{all_in_range, text_says}
use Rattle.kt_certify.proofs.ShortLists.{short_chains}
use Rattle.kt_certify.proofs.laws.certificates_have_texts.Goals as goal

pub returns-clause-writable : goal.returns-clause-writable
returns-clause-writable c = short_chains

pub returns-clause-in_range : goal.returns-clause-in_range
returns-clause-in_range c = all_in_range

pub returns-clause-text : goal.returns-clause-text
returns-clause-text c = text_says
