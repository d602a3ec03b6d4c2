use Rattle.std.proofs.Common.{◌≡◌, ◌∙◌, ◌++◌, ◌∷◌, [], ℕ, List, length, arith, ap, rules, append_assoc}
use Rattle.kt_node_text.proofs.Rests.{tail_all}
use Rattle.kt_node_text.proofs.writing.put_marks.Goals as goal

pub returns : goal.returns
returns c =
    let marks = c.args.marks.now in
    let all : c.loop-mark.out.items ≡ c.push.new.self.items ++ marks = tail_all c.push.new.self.items marks c.loop-mark.mark-index c.loop-mark.out.items c.loop-mark.invariant (omega arith) in
    let first : c.push.new.self.items ≡ c.args.out.now.items ++ length marks ∷ [] = search rules in
    all ∙ (ap (λ (l : List ℕ). l ++ marks) first ∙ append_assoc c.args.out.now.items (length marks ∷ []) marks)
