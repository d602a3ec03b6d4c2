use Rattle.std.proofs.Common.{◌≡◌, ◌<◌, ℕ, suc, None, length, take, get_or}
use Rattle.kt_picture.specs.Evidence.{chained_by}
use Rattle.kt_picture.proofs.rows.links_of.Given as goal

abbrev pub invariant-loop-certificate : goal.invariant-loop-certificate
invariant-loop-certificate l = record {
  few : length l.noted.items ≡ l.count;
  noted : (n : ℕ) → n < l.count → get_or l.noted.items n None ≡ chained_by (take l.certificate-index l.certificates) (suc n);
}
