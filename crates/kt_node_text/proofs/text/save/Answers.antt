use Rattle.std.proofs.Common.{◌≡◌, ◌∙◌, ◌++◌, ℕ, List, OnOk, subst}
use Rattle.kt_checksum.specs.Checksums.{sealed}
use Rattle.kt_node_text.specs.Form.{bytes_of}
use Rattle.kt_node_text.proofs.text.save.Goals as goal

pub returns-clause-ok : goal.returns-clause-ok
returns-clause-ok c = subst (λ (numbers : List ℕ). OnOk c.put_numbers.result (c.put_numbers.new.out.items ≡ c.args.out.now.items ++ sealed (bytes_of numbers)))
    (c.deref.ensures.value ∙ c.in_ok-numbers.ensures.numbers) c.put_numbers.ensures.ok
