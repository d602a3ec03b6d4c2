use Rattle.std.proofs.Common.{rules, ◌≡◌, ◌∙◌, ◌<◌, ◌≤◌, ℕ, sym, subst}
use Rattle.kt_node.specs.Nets.{opening_net}
use Rattle.kt_node.specs.Links.{ShowsLinks}
use Rattle.kt_node.proofs.OwnMarks.{marks_opening, own_shown}
use Rattle.koo_toueg_c.specs.Nodes.{SavesNode}
use Rattle.koo_toueg_c.proofs.Loaded.{process_is}
use Rattle.koo_toueg_c.proofs.node.opening.Goals as goal

pub returns-clause-made : goal.returns-clause-made
returns-clause-made c =
    let node = c.in_ok-node.node in
    let n = c.args.processes in
    let start = (opening_net n 0).nodes c.args.me in
    let me : c.args.me ≡ c.in-Some-Some.me = process_is c.args.me c.in-Some-Some.me (sym c.process_meant.ensures ∙ c.in-Some-Some.is-0) in
    let first = subst (λ (used : ℕ). ShowsLinks node ((opening_net n used).nodes c.in-Some-Some.me)) c.in-Some-Some.ensures'.value c.in_ok-node.ensures.shows in
    let shows : ShowsLinks node start = subst (λ (p : ℕ). ShowsLinks node ((opening_net n 0).nodes p)) (sym me) first in
    let saves : SavesNode c.in_ok-bytes_of.field-0.items node = search rules in
    let there : (c.args.me < n) × (n ≤ 64) = search rules in
    record {
      there = there;
      state = record {
        node = node;
        says = record { own = record { sound = saves.sound; part = own_shown node.manager start shows.manager (marks_opening n 0 c.args.me) }; said = saves.said };
        shows = shows;
      };
    }
