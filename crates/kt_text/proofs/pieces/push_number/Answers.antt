use Rattle.std.proofs.Common.{◌≡◌, ◌∙◌, ◌+◌, ◌-◌, ◌++◌, ◌∷◌, List, ℕ, ap, arith, length, take, drop, set, replicate, decimal, length-take, length-drop, length-set}
use Rattle.std.proofs.lemmas.Fmt.{length-decimal-le}
use Rattle.std.proofs.lemmas.List.{drop-set}
use Rattle.kt_text.proofs.LineFacts.{gathered_front}
use Rattle.kt_text.proofs.pieces.push_number.Goals as goal

pub write_digits-start-requires : goal.write_digits-start-requires
write_digits-start-requires c =
    let short = length-decimal-le 10 c.from.result (omega arith) (omega arith) (omega arith) in
    (omega (arith, short), omega arith)

pub overflow_sub-start : goal.overflow_sub-start
overflow_sub-start c =
    let short = length-decimal-le 10 c.from.result (omega arith) (omega arith) (omega arith) in
    omega (arith, short, c.write_digits-start.ensures.start)

pub returns : goal.returns
returns c =
    let w = c.write_digits-start in
    let start = w.result - 1 in
    let before = c.args.text.now.items in
    let number = decimal c.from.result in
    let short = length-decimal-le 10 c.from.result (omega arith) (omega arith) (omega arith) in
    let there : start + 1 ≡ w.result = omega (arith, short, w.ensures.start) in
    let long : length w.new.buf ≡ 32 = w.auto.buf in
    let bytes = set w.new.buf start c.args.mark in
    let rest = drop 16 (replicate 32 0) in
    let digits : drop (start + 1) w.new.buf ≡ number ++ rest = ap (λ (k : ℕ). drop k w.new.buf) there ∙ w.ensures.written in
    let written : drop start bytes ≡ (c.args.mark ∷ number) ++ rest =
    drop-set w.new.buf start c.args.mark (omega (arith, long, short, w.ensures.start)) ∙ ap (λ (u : List ℕ). c.args.mark ∷ u) digits in
    let count = start + 16 - start in
    let n = c.len.result - start in
    let all : length (take count (drop start bytes)) ≡ 16 =
    omega (arith, length-take count (drop start bytes), length-drop start bytes, length-set w.new.buf start c.args.mark, long, short, w.ensures.start) in
    let cut : n + start ≡ length before + count =
    omega (arith, all, c.len.ensures, c.in_ok-extend_from_slice.ensures.len, c.args.text.now.ok.0, short, w.ensures.start) in
    let is = c.truncate.ensures.items ∙ ap (λ (u : List ℕ). take n u) c.in_ok-extend_from_slice.ensures.items in
    rw (← c.from.ensures)
    (gathered_front before bytes (c.args.mark ∷ number) rest c.truncate.new.self.items start count n written (omega (arith, short, w.ensures.start)) cut is)
