-- Lines put together from their ends to their fronts.
use Rattle.std.proofs.Common.{◌≡◌, ◌∙◌, ◌≤◌, ◌+◌, ◌-◌, ℕ, List, ◌++◌, ap, arith, length, take, drop, length-take, length-drop}
use Rattle.std.proofs.Math.Seq.{take-append_seam, take-append-add}
use Rattle.std.proofs.lemmas.List.{take-take}

-- a line, in the first 64 bytes, is as long as it says
pub line_length : (bytes : List ℕ) (start : ℕ) → length bytes ≡ 128 → start ≤ 64 → length (take (64 - start) (drop start bytes)) ≡ 64 - start
line_length bytes start long within = omega (arith, length-take (64 - start) (drop start bytes), length-drop start bytes)

-- what is written right before a line is its new front
pub line_more : (text bytes before : List ℕ) (start end : ℕ) → drop start bytes ≡ text ++ drop end before → start + length text ≡ end → end ≤ 64
    → take (64 - start) (drop start bytes) ≡ text ++ take (64 - end) (drop end before)
line_more text bytes before start end written ends within =
    let more : 64 - start ≡ length text + (64 - end) = omega (arith, ends, within) in
    ap (λ (u : List ℕ). take (64 - start) u) written ∙ ap (λ (n : ℕ). take n (text ++ drop end before)) more ∙ take-append-add text (drop end before) (64 - end)

-- of what was gathered too much the end is taken off again
pub gathered_front : (before bytes text rest after : List ℕ) (start count n : ℕ) → drop start bytes ≡ text ++ rest → length text + start ≡ count → n + start ≡ length before + count
    → after ≡ take n (before ++ take count (drop start bytes)) → after ≡ before ++ text
gathered_front before bytes text rest after start count n written long cut is =
    let some : n ≡ length before + length text = omega (arith, long, cut) in
    let less : length text ≤ count = omega (arith, long) in
    is ∙ ap (λ (m : ℕ). take m (before ++ take count (drop start bytes))) some ∙ take-append-add before (take count (drop start bytes)) (length text)
    ∙ ap (λ (u : List ℕ). before ++ u) (take-take (length text) count (drop start bytes) less
    ∙ ap (λ (u : List ℕ). take (length text) u) written ∙ take-append_seam text rest)
