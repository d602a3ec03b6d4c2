use Rattle.std.proofs.Common.{◌≡◌, ◌∙◌, ◌+◌, ◌-◌, ◌++◌, List, ℕ, ap, sym, arith, length, take, drop, take-append-drop, length-take, length-drop}
use Rattle.kt_text.proofs.LineFacts.{line_length, gathered_front}
use Rattle.kt_text.proofs.lines.Line.push_to.Goals as goal

pub returns : goal.returns
returns c =
    let bytes = c.self.inside.bytes in
    let start = c.self.inside.start in
    let before = c.args.text.now.items in
    let line = take (64 - start) (drop start bytes) in
    let count = start + 64 - start in
    let n = c.len.result - start in
    let long = line_length bytes start c.self.invariant.0 c.self.invariant.1 in
    let all : length (take count (drop start bytes)) ≡ 64 = omega (arith, length-take count (drop start bytes), length-drop start bytes, c.self.invariant.0, c.self.invariant.1) in
    let cut : n + start ≡ length before + count = omega (arith, all, c.len.ensures, c.in_ok-extend_from_slice.ensures.len, c.args.text.now.ok.0, c.self.invariant.1) in
    let is = c.truncate.ensures.items ∙ ap (λ (u : List ℕ). take n u) c.in_ok-extend_from_slice.ensures.items in
    gathered_front before bytes line (drop (64 - start) (drop start bytes)) c.truncate.new.self.items start count n (sym (take-append-drop (64 - start) (drop start bytes)))
    (omega (arith, long, c.self.invariant.1)) cut is
    ∙ ap (λ (u : List ℕ). before ++ u) c.self.view_is
