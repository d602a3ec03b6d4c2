use Rattle.std.proofs.Common.{◌<◌, ℕ, Option, Some, List, length, refl, subst, arith}
use Rattle.std.proofs.lemmas.Option.{slice_get_read, slice_get_within}
use Rattle.std.proofs.lemmas.Result.{err_from_is_err_and}
use Rattle.kt_meaning.specs.Names.{nothing_given, given_by}
use Rattle.kt_spacetime.specs.declared.named_rows.ClockedRow.{ClockedRow}
use Rattle.kt_merge.specs.Heads.{IsLeastHead, HasNoHead}
use Rattle.kt_merge.proofs.MergingFacts.{HasNoNumber, merging_none, merging_more, none_left, writes_all, of_write_fault, stops_first, stops_at_row, stops_in_writing, stops_at_part, stops_at_end}
use Rattle.kt_merge.proofs.MetFacts.{met_at_part, met_at_row, met_writing}
use Rattle.kt_merge.proofs.merging.merge_readers.Goals as goal

pub loop-part-init : goal.loop-part-init
loop-part-init g c =
    merging_none c.args.parts.now.items c.read_heads.new.parts.items c.read_heads.new.heads.items c.args.numbers.now (g.W.Write.contents c.args.writer.now) c.args.text.now.items
    c.requires.unread c.in_ok-read_heads.ensures.found c.requires.nothing c.requires.header

pub index-requires : goal.index-requires
index-requires g c =
    let m = c.loop-part.invariant in
    let least = subst (λ (hs : List (Option ClockedRow)). IsLeastHead hs c.in-Some.part c.in-Some.row) c.as_slice.ensures.value c.in-Some.ensures.found in
    let in_heads = slice_get_within c.loop-part.heads.items c.in-Some.part (Some c.in-Some.row) least.is in
    omega (arith, in_heads, m.merged.many.0, m.merged.many.1)

pub index_mut-requires : goal.index_mut-requires
index_mut-requires g c =
    let m = c.loop-part.invariant in
    let least = subst (λ (hs : List (Option ClockedRow)). IsLeastHead hs c.in-Some.part c.in-Some.row) c.as_slice.ensures.value c.in-Some.ensures.found in
    let in_heads = slice_get_within c.loop-part.heads.items c.in-Some.part (Some c.in-Some.row) least.is in
    omega (arith, in_heads, m.merged.many.0, m.merged.many.1)

pub next_head-requires : goal.next_head-requires
next_head-requires g c =
    let m = c.loop-part.invariant in
    let least = subst (λ (hs : List (Option ClockedRow)). IsLeastHead hs c.in-Some.part c.in-Some.row) c.as_slice.ensures.value c.in-Some.ensures.found in
    let in_heads = slice_get_within c.loop-part.heads.items c.in-Some.part (Some c.in-Some.row) least.is in
    omega (arith, in_heads, m.merged.many.1, c.requires.few)

pub index_mut-requires-in-Some : goal.index_mut-requires-in-Some
index_mut-requires-in-Some g c =
    let m = c.loop-part.invariant in
    let least = subst (λ (hs : List (Option ClockedRow)). IsLeastHead hs c.in-Some.part c.in-Some.row) c.as_slice.ensures.value c.in-Some.ensures.found in
    let in_heads = slice_get_within c.loop-part.heads.items c.in-Some.part (Some c.in-Some.row) least.is in
    omega (arith, in_heads)

pub returns-in_err-read_heads-clause-stopped : goal.returns-in_err-read_heads-clause-stopped
returns-in_err-read_heads-clause-stopped g c =
    let p = err_from_is_err_and c.from_residual.result c.from_residual.ensures.1 in
    rw (p.1, p.2) (stops_first c.args.parts.now.items c.read_heads.new.parts.items (g.W.Write.contents c.args.writer.now) c.in_err-read_heads.field-0.0 c.in_err-read_heads.ensures.fault c.in_err-read_heads.ensures.unread)

pub returns-in_err-event-clause-stopped : goal.returns-in_err-event-clause-stopped
returns-in_err-event-clause-stopped g c =
    let m = c.loop-part.invariant in
    let least = subst (λ (hs : List (Option ClockedRow)). IsLeastHead hs c.in-Some.part c.in-Some.row) c.as_slice.ensures.value c.in-Some.ensures.found in
    let in_heads = slice_get_within c.loop-part.heads.items c.in-Some.part (Some c.in-Some.row) least.is in
    let within : c.in-Some.part < length c.loop-part.parts.items = omega (arith, in_heads, m.merged.many.0, m.merged.many.1) in
    let there = slice_get_read c.loop-part.parts.items (length c.loop-part.parts.items) c.in-Some.part c.index.result.now refl within c.index.ensures in
    let given = given_by nothing_given m.log in
    let p = err_from_is_err_and c.from_residual-in_err-event.result c.from_residual-in_err-event.ensures.1 in
    let wrong = subst (λ (n : ℕ). HasNoNumber given c.in-Some.row n c.in_err-event.field-0.0) c.count.ensures.value (c.in_err-event.ensures.fault given m.shows) in
    rw (p.1, p.2)
    (stops_at_row c.args.parts.now.items c.loop-part.parts.items c.loop-part.heads.items c.loop-part.numbers (g.W.Write.contents c.args.writer.now) (g.W.Write.contents c.loop-part.writer) c.loop-part.text.items
    c.in-Some.part c.in-Some.row c.index.result.now c.in_err-event.field-0.0 m least there wrong)

pub returns-in_err-write_row-clause-stopped : goal.returns-in_err-write_row-clause-stopped
returns-in_err-write_row-clause-stopped g c =
    let m = c.loop-part.invariant in
    let least = subst (λ (hs : List (Option ClockedRow)). IsLeastHead hs c.in-Some.part c.in-Some.row) c.as_slice.ensures.value c.in-Some.ensures.found in
    let in_heads = slice_get_within c.loop-part.heads.items c.in-Some.part (Some c.in-Some.row) least.is in
    let p = err_from_is_err_and c.from_residual-in_err-write_row.result c.from_residual-in_err-write_row.ensures.1 in
    rw p.1
    (stops_in_writing c.args.parts.now.items c.loop-part.parts.items c.loop-part.heads.items c.loop-part.numbers (g.W.Write.contents c.args.writer.now) (g.W.Write.contents c.loop-part.writer) (g.W.Write.contents c.write_row.new.writer) c.loop-part.text.items
    c.in-Some.part c.in-Some.row c.in_ok-event.event p.0 m least (c.in_ok-event.ensures.found (given_by nothing_given m.log) m.shows).0 c.in_err-write_row.ensures.stopped
    (of_write_fault c.in_err-write_row.field-0.0 p.0 p.2))

pub returns-in_err-heads-clause-stopped : goal.returns-in_err-heads-clause-stopped
returns-in_err-heads-clause-stopped g c =
    let m = c.loop-part.invariant in
    let least = subst (λ (hs : List (Option ClockedRow)). IsLeastHead hs c.in-Some.part c.in-Some.row) c.as_slice.ensures.value c.in-Some.ensures.found in
    let in_heads = slice_get_within c.loop-part.heads.items c.in-Some.part (Some c.in-Some.row) least.is in
    let within : c.in-Some.part < length c.loop-part.parts.items = omega (arith, in_heads, m.merged.many.0, m.merged.many.1) in
    let there = slice_get_read c.loop-part.parts.items (length c.loop-part.parts.items) c.in-Some.part c.index_mut.result.now refl within c.index_mut.ensures.value in
    let p = err_from_is_err_and c.from_residual-in_err-heads.result c.from_residual-in_err-heads.ensures.1 in
    let f = c.in_err-heads.ensures.fault in
    rw (p.1, p.2)
    (stops_at_part c.args.parts.now.items c.loop-part.parts.items c.loop-part.heads.items c.loop-part.numbers (g.W.Write.contents c.args.writer.now) (g.W.Write.contents c.loop-part.writer) (g.W.Write.contents c.write_row.new.writer) c.loop-part.text.items
    c.write_row.new.text.items c.in-Some.part c.in-Some.row c.in_ok-event.event c.index_mut.result.now c.next_head.new.reader f.0 c.in_err-heads.field-0.0 m least
    (c.in_ok-event.ensures.found (given_by nothing_given m.log) m.shows).0 c.in_ok-write_row.ensures.sent there f.1 f.2)

pub loop-part-preserved : goal.loop-part-preserved
loop-part-preserved g c =
    let m = c.loop-part.invariant in
    let least = subst (λ (hs : List (Option ClockedRow)). IsLeastHead hs c.in-Some.part c.in-Some.row) c.as_slice.ensures.value c.in-Some.ensures.found in
    let in_heads = slice_get_within c.loop-part.heads.items c.in-Some.part (Some c.in-Some.row) least.is in
    let within : c.in-Some.part < length c.loop-part.parts.items = omega (arith, in_heads, m.merged.many.0, m.merged.many.1) in
    let there = slice_get_read c.loop-part.parts.items (length c.loop-part.parts.items) c.in-Some.part c.index_mut.result.now refl within c.index_mut.ensures.value in
    let numbered = c.in_ok-event.ensures.found (given_by nothing_given m.log) m.shows in
    merging_more c.args.parts.now.items c.loop-part.parts.items c.loop-part.heads.items c.loop-part.numbers c.numbered.new.numbers (g.W.Write.contents c.args.writer.now) (g.W.Write.contents c.loop-part.writer) (g.W.Write.contents c.write_row.new.writer) c.loop-part.text.items
    c.write_row.new.text.items c.in-Some.part c.in-Some.row c.in_ok-event.event c.index_mut.result.now c.next_head.new.reader c.in_ok-heads.field-0 m least
    numbered.0 numbered.1 c.in_ok-write_row.ensures.sent there c.in_ok-heads.ensures.found

pub returns-in_err-write_rest-clause-stopped : goal.returns-in_err-write_rest-clause-stopped
returns-in_err-write_rest-clause-stopped g c =
    let p = err_from_is_err_and c.from_residual-in_err-write_rest.result c.from_residual-in_err-write_rest.ensures.1 in
    rw p.1
    (stops_at_end c.args.parts.now.items c.loop-part.parts.items c.loop-part.heads.items c.loop-part.numbers (g.W.Write.contents c.args.writer.now) (g.W.Write.contents c.loop-part.writer) (g.W.Write.contents c.write_rest.new.writer) c.loop-part.text.items p.0
    c.loop-part.invariant c.in_err-write_rest.ensures.stopped (of_write_fault c.in_err-write_rest.field-0.0 p.0 p.2))

pub returns-clause-merged : goal.returns-clause-merged
returns-clause-merged g c =
    let none = subst HasNoHead c.as_slice.ensures.value (none_left c.least.result c.as_slice.result.now c.in_default.not-Some c.least.ensures.none) in
    writes_all c.args.parts.now.items c.loop-part.parts.items c.loop-part.heads.items c.loop-part.numbers (g.W.Write.contents c.args.writer.now) (g.W.Write.contents c.loop-part.writer) (g.W.Write.contents c.write_rest.new.writer) c.loop-part.text.items
    c.loop-part.invariant none c.in_ok-write_rest.ensures.written

pub returns-in_err-read_heads-clause-met : goal.returns-in_err-read_heads-clause-met
returns-in_err-read_heads-clause-met g c =
    let p = err_from_is_err_and c.from_residual.result c.from_residual.ensures.1 in
    rw (p.1, p.2) c.in_err-read_heads.ensures.met

pub returns-in_err-event-clause-met : goal.returns-in_err-event-clause-met
returns-in_err-event-clause-met g c =
    let m = c.loop-part.invariant in
    let given = given_by nothing_given m.log in
    let p = err_from_is_err_and c.from_residual-in_err-event.result c.from_residual-in_err-event.ensures.1 in
    let wrong = subst (λ (n : ℕ). HasNoNumber given c.in-Some.row n c.in_err-event.field-0.0) c.count.ensures.value (c.in_err-event.ensures.fault given m.shows) in
    rw (p.1, p.2) (met_at_row c.loop-part.parts.items given c.in-Some.row c.index.result.now.count c.in_err-event.field-0.0 wrong)

pub returns-in_err-write_row-clause-met : goal.returns-in_err-write_row-clause-met
returns-in_err-write_row-clause-met g c =
    let p = err_from_is_err_and c.from_residual-in_err-write_row.result c.from_residual-in_err-write_row.ensures.1 in
    rw p.1 (met_writing c.loop-part.parts.items p.0 (of_write_fault c.in_err-write_row.field-0.0 p.0 p.2))

pub returns-in_err-heads-clause-met : goal.returns-in_err-heads-clause-met
returns-in_err-heads-clause-met g c =
    let m = c.loop-part.invariant in
    let least = subst (λ (hs : List (Option ClockedRow)). IsLeastHead hs c.in-Some.part c.in-Some.row) c.as_slice.ensures.value c.in-Some.ensures.found in
    let in_heads = slice_get_within c.loop-part.heads.items c.in-Some.part (Some c.in-Some.row) least.is in
    let within : c.in-Some.part < length c.loop-part.parts.items = omega (arith, in_heads, m.merged.many.0, m.merged.many.1) in
    let there = slice_get_read c.loop-part.parts.items (length c.loop-part.parts.items) c.in-Some.part c.index_mut.result.now refl within c.index_mut.ensures.value in
    let p = err_from_is_err_and c.from_residual-in_err-heads.result c.from_residual-in_err-heads.ensures.1 in
    let f = c.in_err-heads.ensures.fault in
    rw (p.1, p.2)
    (met_at_part c.loop-part.parts.items c.in-Some.part c.index_mut.result.now c.next_head.new.reader f.0 c.in_err-heads.field-0.0 there f.2 f.1)

pub returns-in_err-write_rest-clause-met : goal.returns-in_err-write_rest-clause-met
returns-in_err-write_rest-clause-met g c =
    let p = err_from_is_err_and c.from_residual-in_err-write_rest.result c.from_residual-in_err-write_rest.ensures.1 in
    rw p.1 (met_writing c.loop-part.parts.items p.0 (of_write_fault c.in_err-write_rest.field-0.0 p.0 p.2))
