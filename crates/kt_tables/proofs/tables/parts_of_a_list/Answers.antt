use Rattle.kt_tables.proofs.CallParts.{ends, since_ends, before_begins, aside_is}
use Rattle.kt_tables.proofs.tables.parts_of_a_list.Goals as goal

pub returns : goal.returns
returns c = record {
  whole = λ calls. (ends calls).whole;
  since = since_ends;
  before = before_begins;
  opened = λ calls. (ends calls).opened;
  aside = aside_is;
}
