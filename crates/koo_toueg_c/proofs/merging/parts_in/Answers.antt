use Rattle.std.proofs.Common.{◌≡◌, ◌∙◌, ℕ, List, [], Some, get_or, length, map, subst, sym, ap, arith, length-append}
use Rattle.std.specs.Prelude.{option_map, slice_get}
use Rattle.std.proofs.lemmas.Option.{slice_get-get_or, slice_get-map}
use Rattle.kt_merge.specs.Reading.{PartRead}
use Rattle.koo_toueg_c.specs.Merged.{IsReaderOf}
use Rattle.koo_toueg_c.proofs.PartReaders.{reader_push}
use Rattle.koo_toueg_c.proofs.merging.parts_in.Goals as goal

pub loop-text-preserved : goal.loop-text-preserved
loop-text-preserved c =
    let added = c.in_ok-push.ensures.added in
    let before = c.loop-text.invariant.long in
    let more = simp length-append at (ap length added) in
    let there = subst (λ (n : ℕ). slice_get (map (λ t. t.now) c.args.texts.now) n ≡ Some (get_or c.args.texts.now c.loop-text.text-index (record { ref_ptr = (0, 0); now = [] })).now) (sym before)
    (slice_get-map (λ t. t.now) c.args.texts.now c.loop-text.text-index ∙ ap (option_map (λ t. t.now)) (slice_get-get_or c.args.texts.now c.loop-text.text-index (record { ref_ptr = (0, 0); now = [] }) (omega arith))) in
    record {
      long = omega (arith, before, more);
      unread = c.in_ok-push.ensures.unread c.loop-text.invariant.unread;
      read = subst (λ (parts : List PartRead). (p : ℕ) (part : PartRead) → slice_get parts p ≡ Some part → IsReaderOf (map (λ t. t.now) c.args.texts.now) p part) (sym added)
          (reader_push (map (λ t. t.now) c.args.texts.now) c.loop-text.parts _ there c.loop-text.invariant.read);
    }
