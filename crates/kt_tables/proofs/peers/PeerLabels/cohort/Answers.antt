use Rattle.std.proofs.Common.{◌≡◌, sym, ◌∙◌, ap, subst, length, map, take, get_or, ℕ, ◌<◌, ◌≤◌, ◌++◌, ◌∷◌, []}
use Rattle.std.proofs.lemmas.List.{take_all}
use Rattle.kt_tables.specs.Peers.{LabelTable, label_of, find_label, IsTable}
use Rattle.kt_tables.specs.Walks.{head_label}
use Rattle.kt_tables.proofs.Pairs.{Pairs}
use Rattle.kt_tables.proofs.Cohorts.{beside, cohort_below, cohort_is, cohort_more, walking_head, walking_more}
use Rattle.kt_tables.proofs.peers.PeerLabels.cohort.Goals as goal

pub loop-pair-preserved : goal.loop-pair-preserved
loop-pair-preserved c =
    let ps = c.args.self.now.pairs in
    let labels = c.args.labels.now.pairs in
    let i = c.loop-pair.pair-index in
    let x = c.pair-item.result in
    let same : c.deref-pair-items.result.now ≡ ps = c.deref-pair-items.ensures.value ∙ ap (λ (t : LabelTable). t.pairs) c.self.view_is in
    let within : i < length ps = subst (λ (l : Pairs). i < length l) same c.loop-pair-test.true in
    let item : x ≡ get_or ps i x = subst (λ (l : Pairs). x ≡ get_or l i x) same c.pair-item.is in
    let table : IsTable 0 c.args.self.now.peers ps = subst (λ (t : LabelTable). IsTable 0 t.peers t.pairs) c.self.view_is c.self.invariant.0 in
    let label : c.head.result ≡ find_label labels x.0 =
    c.head.ensures ∙ (ap (λ (l : Pairs). head_label l x.0) c.from_peer-rest.ensures ∙ walking_head ps labels _ i _ x c.loop-pair.invariant.walking within item) in
    record {
      walking = rw c.from_peer-rest.ensures (walking_more _ ps labels _ i _ x table c.loop-pair.invariant.walking within item);
      items =
          c.push_reserved.ensures.items
          ∙ (ap (λ (l : Pairs). l ++ (x.0, c.head.result) ∷ []) c.loop-pair.invariant.items
          ∙ (ap (λ (l : ℕ). map (beside (find_label labels)) (take i ps) ++ (x.0, l) ∷ []) label ∙ sym (cohort_more ps (find_label labels) i x within item)));
      room = c.push_reserved.ensures.capacity ∙ c.loop-pair.invariant.room;
    }

pub returns-clause-cohort : goal.returns-clause-cohort
unfolding label_of
returns-clause-cohort c =
    let ps = c.args.self.now.pairs in
    let i = c.loop-pair.pair-index in
    let same : c.deref-pair-items.result.now ≡ ps = c.deref-pair-items.ensures.value ∙ ap (λ (t : LabelTable). t.pairs) c.self.view_is in
    let past : length ps ≤ i = subst (λ (l : Pairs). length l ≤ i) same c.loop-pair-test.false in
    let table : IsTable 0 c.args.self.now.peers ps = subst (λ (t : LabelTable). IsTable 0 t.peers t.pairs) c.self.view_is c.self.invariant.0 in
    rw (c.loop-pair.invariant.items, take_all i ps past) (cohort_is _ ps (find_label c.args.labels.now.pairs) table)

pub returns-clause-rising : goal.returns-clause-rising
returns-clause-rising c =
    let ps = c.args.self.now.pairs in
    let i = c.loop-pair.pair-index in
    let same : c.deref-pair-items.result.now ≡ ps = c.deref-pair-items.ensures.value ∙ ap (λ (t : LabelTable). t.pairs) c.self.view_is in
    let past : length ps ≤ i = subst (λ (l : Pairs). length l ≤ i) same c.loop-pair-test.false in
    let table : IsTable 0 c.args.self.now.peers ps = subst (λ (t : LabelTable). IsTable 0 t.peers t.pairs) c.self.view_is c.self.invariant.0 in
    rw (c.loop-pair.invariant.items, take_all i ps past) ((cohort_is _ ps (find_label c.args.labels.now.pairs) table).rising)

pub returns-clause-within : goal.returns-clause-within
returns-clause-within c =
    let ps = c.args.self.now.pairs in
    let i = c.loop-pair.pair-index in
    let same : c.deref-pair-items.result.now ≡ ps = c.deref-pair-items.ensures.value ∙ ap (λ (t : LabelTable). t.pairs) c.self.view_is in
    let past : length ps ≤ i = subst (λ (l : Pairs). length l ≤ i) same c.loop-pair-test.false in
    let table : IsTable 0 c.args.self.now.peers ps = subst (λ (t : LabelTable). IsTable 0 t.peers t.pairs) c.self.view_is c.self.invariant.0 in
    rw (c.loop-pair.invariant.items, take_all i ps past) (cohort_below _ ps (find_label c.args.labels.now.pairs) table)
