use Rattle.std.proofs.Common.{rules, tests, ◌∙◌, sym}
use Rattle.std.proofs.lemmas.Iterator.{YieldsList-from_slice}
use Rattle.std.proofs.lemmas.Iterator.Search.{any_from_yields_List}
use Rattle.kt_plan.proofs.NameFacts.{list_any-map}
use Rattle.kt_picture.specs.declared.entry.Entry.{Entry}
use Rattle.kt_picture.specs.Fates.{receives}
use Rattle.kt_picture.specs.Followed.{event_of}
use Rattle.kt_picture.proofs.entry.is_received_in.Goals as goal

pub returns : goal.returns
returns c =
    any_from_yields_List (λ (e : Entry). receives c.args.msg (event_of e)) _ _ c.any.result c.any.ensures.ran (YieldsList-from_slice c.args.rest.now cc) (λ x b q k. search (rules, tests))
    ∙ sym (list_any-map (receives c.args.msg) event_of c.args.rest.now)
