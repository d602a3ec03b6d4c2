use Rattle.std.proofs.Common.{rules, ◌≡◌, ◌∙◌, ◌∷◌, ◌++◌, ℕ, List, ap, codes}
use Rattle.kt_report.specs.Lines.{name_of, message_word, chain_words}
use Rattle.kt_report.proofs.WordFacts.{gathers_line}
use Rattle.kt_report.proofs.instances.push_member.Goals as goal

pub returns-clause-line : goal.returns-clause-line
returns-clause-line c =
    let names = c.args.names.now in
    let rows = c.args.rows.now in
    let one : c.extend_from_slice.new.self.items ≡ c.args.text.now.items ++ codes "member" = search rules in
    let two = c.in_ok-push_word.ensures ∙ ap (λ (x : List ℕ). c.extend_from_slice.new.self.items ++ 32 ∷ x) c.name_text.ensures.name in
    let three = c.in_ok-told.ensures.chain ∙ ap (λ (x : List ℕ). c.push_word.new.text.items ++ chain_words names rows x) c.messages.ensures in
    gathers_line (message_word names rows) c.args.text.now.items c.extend_from_slice.new.self.items c.push_word.new.text.items c.push_chain.new.text.items
    c.end_line.new.text.items (codes "member") (name_of names c.args.member.now.0) c.args.member.now.1 one two three c.in_ok-end_line.ensures
