use Rattle.std.proofs.Common.{◌≡◌, ◌++◌, ◌∷◌, [], List, Bool, true, length, length-set, set, arith, refl, sym, ap, ◌∙◌, subst}
use Rattle.kt_walk.specs.Marks.{Marking, HasMarkOfEach, shown}
use Rattle.kt_walk.proofs.PickFacts.{shown_picked, pushed, marked_pushed}
use Rattle.kt_walk.proofs.in_transit.mark_next.Goals as goal

pub overflow_add-next : goal.overflow_add-next
overflow_add-next c = omega (arith, c.requires.marked.within, c.len-next.ensures.length, c.len-marked.ensures, c.len-marked.type_inv)

pub returns-then-is_above-clause-marked : goal.returns-then-is_above-clause-marked
returns-then-is_above-clause-marked c =
    let marks : set c.args.marks.now.marks (length c.args.slots.now.messages) true ≡ c.put.new.self.marks = ap (λ n. set c.args.marks.now.marks n true) (sym c.len-next.ensures.length) ∙ sym (ap (λ (v : Marking). v.marks) c.put.ensures) in
    λ a same some. subst (λ (l : List Bool). HasMarkOfEach l (c.args.slots.now.messages ++ a ∷ [])) marks
    (marked_pushed c.args.marks.now.marks c.args.slots.now.messages a c.requires.marked (omega (arith, c.if-next-marked.true, c.len-next.ensures.length, c.len-marked.ensures)) (λ k b e. omega (arith, same, c.if-is_above.ensures refl c.requires.marked.rising k b e)))

pub returns-then-is_above-clause-shown : goal.returns-then-is_above-clause-shown
returns-then-is_above-clause-shown c =
    let marks : c.put.new.self.marks ≡ set c.args.marks.now.marks (length c.args.slots.now.messages) true = ap (λ (v : Marking). v.marks) c.put.ensures ∙ ap (λ n. set c.args.marks.now.marks n true) c.len-next.ensures.length in
    λ a same.
    ap (λ (l : List Bool). shown l (c.args.slots.now.messages ++ a ∷ [])) marks
    ∙ shown_picked (set c.args.marks.now.marks (length c.args.slots.now.messages) true) (c.args.slots.now.messages ++ a ∷ []) (omega (arith, c.requires.some, length-set c.args.marks.now.marks (length c.args.slots.now.messages) true))
    ∙ pushed c.args.marks.now.marks c.args.slots.now.messages a c.requires.marked.past c.requires.marked.within
