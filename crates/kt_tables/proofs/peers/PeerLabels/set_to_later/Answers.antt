use Rattle.std.proofs.Common.{◌≡◌, ℕ, true, sym, ◌∙◌, ap, arith, [], length}
use Rattle.std.proofs.lemmas.List.{nil_from_length}
use Rattle.std.proofs.lemmas.Bool.Decides.{nat_tests}
use Rattle.std.specs.Prelude.{vec_len, ◌==◌}
use Rattle.kt_tables.specs.Peers.{LabelTable, label_of}
use Rattle.kt_tables.proofs.Pairs.{empty_labels}
use Rattle.kt_tables.proofs.Merging.{merging_more, merging_all, merging_room}
use Rattle.kt_tables.proofs.peers.PeerLabels.set_to_later.Goals as goal

pub push_reserved-requires : goal.push_reserved-requires
push_reserved-requires c =
    omega (arith, merging_room _ _ _ _ _ _ c.in-Some.peer c.loop-peer.invariant.merging (sym c.smaller.ensures ∙ c.in-Some.is), c.loop-peer.invariant.room, c.loop-peer.self-inside.pairs.ok.0)

pub loop-peer-preserved : goal.loop-peer-preserved
loop-peer-preserved c = record {
  merging =
      rw (c.push_reserved.ensures.items, c.after-first.ensures, c.after-second.ensures)
      (merging_more _ _ _ _ _ _ c.in-Some.peer _ c.loop-peer.invariant.merging (sym c.smaller.ensures ∙ c.in-Some.is) (omega (arith, c.later-label.ensures, c.head.ensures, c.head-in-Some.ensures)));
  peers = c.loop-peer.invariant.peers;
  room = omega (arith, c.push_reserved.ensures.capacity, c.loop-peer.invariant.room);
}

pub returns-clause-labels : goal.returns-clause-labels
unfolding label_of
returns-clause-labels c = λ q. merging_all _ _ _ _ _ _ c.loop-peer.invariant.merging (sym c.smaller.ensures ∙ c.in_default.is) q

pub returns-then-is_empty-clause-labels : goal.returns-then-is_empty-clause-labels
returns-then-is_empty-clause-labels c = λ q.
    let test : (vec_len c.first.inside.pairs == 0) ≡ true = sym c.is_empty.ensures ∙ c.if-is_empty.true in
    let empty : length c.first.inside.pairs.items ≡ 0 = grind (arith, nat_tests, test, c.first.inside.pairs.ok.0) in
    let is : c.args.first.now.pairs ≡ [] = sym (ap (λ (t : LabelTable). t.pairs) c.first.view_is) ∙ nil_from_length _ empty in
    let none : label_of c.args.first.now q ≡ 0 = ap (λ (f : ℕ → ℕ). f q) (empty_labels c.args.first.now is) in
    let copied = ap (λ (f : ℕ → ℕ). f q) c.copy_from.ensures.labels in
    omega (arith, none, copied)
