use Rattle.std.proofs.Common.{◌≡◌, ◌∙◌, ◌+◌, ◌-◌, ◌++◌, ◌∷◌, [], List, append_assoc, arith, ap, drop, length, map, refl, sym}
use Rattle.std.proofs.lemmas.List.{append-nil, drop_all, length-drop, take_all}
use Rattle.std.proofs.lemmas.Option.{slice_get_read}
use Rattle.kt_picture.specs.declared.entry.Entry.{Entry}
use Rattle.kt_picture.specs.declared.window.Shown.{Shown}
use Rattle.kt_picture.specs.Followed.{event_of, told_rows}
use Rattle.kt_picture.specs.KnownAtRow.{told_at}
use Rattle.kt_picture.proofs.WindowFacts.{drop_item}
use Rattle.kt_picture.proofs.entry.shown_rows.Goals as goal

pub loop-index-preserved : goal.loop-index-preserved
loop-index-preserved c = λ upto w f.
    let entries = c.args.entries.now in
    let shown = c.loop-index.shown.items in
    let i = c.loop-index.index in
    let x = c.index-entries-index.result in
    let at = slice_get_read entries (length entries) i x refl c.loop-index-test.true c.index-entries-index.is in
    let rest = drop (i + 1) entries in
    let mark : c.told-row.result ≡ told_at upto x.plain (map event_of rest) = c.told-row.ensures upto w (f i x at) ∙ ap (λ (l : List Entry). told_at upto x.plain (map event_of l)) (take_all (length entries - (i + 1)) rest (omega (arith, length-drop (i + 1) entries))) in
    (λ j. (c.in_ok-push_item.ensures ∙ ap (λ (m : Shown). shown ++ m ∷ []) mark) j ++ told_rows upto rest)
    ∙ append_assoc shown (told_at upto x.plain (map event_of rest) ∷ []) (told_rows upto rest)
    ∙ ap (λ (l : List Entry). shown ++ told_rows upto l) (sym (drop_item entries i x at))
    ∙ c.loop-index.invariant upto w f

pub returns : goal.returns
returns c = λ upto w f.
    let entries = c.args.entries.now in
    let shown = c.loop-index.shown.items in
    sym (append-nil shown) ∙ ap (λ (l : List Entry). shown ++ told_rows upto l) (sym (drop_all c.loop-index.index entries (omega arith))) ∙ c.loop-index.invariant upto w f
