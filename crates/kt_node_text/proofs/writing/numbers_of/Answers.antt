use Rattle.std.proofs.Common.{◌≡◌, ◌<◌, ◌^◌, List, ℕ, subst, rules}
use Rattle.std.specs.Prelude.{All}
use Rattle.kt_node_text.specs.Form.{numbers_of}
use Rattle.kt_node_text.proofs.writing.numbers_of.Goals as goal

pub returns-clause-sound : goal.returns-clause-sound
returns-clause-sound c =
    let items : c.deref.result.now ≡ numbers_of c.args.node.now = search rules in
    record {
      manager = c.parts_belong.ensures.manager;
      process = c.parts_belong.ensures.process;
      counted = c.parts_belong.ensures.counted;
      ranges = c.in_ok-put_node.ensures.range;
      words = subst (λ (ns : List ℕ). All (λ n. n < 2 ^ 64) ns) items c.words_fit.ensures;
    }
