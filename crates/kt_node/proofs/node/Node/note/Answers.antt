use Rattle.std.proofs.Common.{◌∙◌, ℕ, ◌≤◌, arith, ap₂, subst, sym, rules}
use Rattle.std.specs.Prelude.{slice_index}
use Rattle.kt_meaning.specs.Past.{at_one}
use Rattle.kt_node.specs.Links.{NodeLinks}
use Rattle.kt_node.proofs.Counts.{set_each, set_within}
use Rattle.kt_node.proofs.node.Node.note.Goals as goal

pub invariant_of-self : goal.invariant_of-self
invariant_of-self c = record {
  clock = c.self.invariant.clock;
  sent = c.self.invariant.sent;
  taken = set_within c.self.inside.taken c.index.result c.args.number c.self.inside.clock (first_of (omega arith, search rules)) (subst (λ (w : NodeLinks). c.args.number ≤ w.clock) (sym c.self.view_is) c.requires) c.self.invariant.taken;
}

pub returns-clause-taken : goal.returns-clause-taken
returns-clause-taken c = λ q.
    set_each c.self.inside.taken c.index.result c.args.number q (first_of (omega arith, search rules))
    ∙ ap₂ (λ (i : ℕ) (w : NodeLinks). at_one i c.args.number (slice_index w.taken) q) c.index.ensures.value c.self.view_is
