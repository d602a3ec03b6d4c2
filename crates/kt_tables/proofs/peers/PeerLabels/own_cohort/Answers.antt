use Rattle.std.proofs.Common.{◌≡◌, ◌∙◌, sym, ap, subst, map}
use Rattle.kt_tables.specs.Peers.{LabelTable, label_of, find_label, IsTable}
use Rattle.kt_tables.proofs.Cohorts.{beside, cohort_below, cohort_is, own_labels}
use Rattle.kt_tables.proofs.peers.PeerLabels.own_cohort.Goals as goal

pub returns-clause-cohort : goal.returns-clause-cohort
unfolding label_of
returns-clause-cohort c =
    let ps = c.args.self.now.pairs in
    let table : IsTable 0 c.args.self.now.peers ps = subst (λ (t : LabelTable). IsTable 0 t.peers t.pairs) c.self.view_is c.self.invariant.0 in
    let is : c.in_ok-cohort.cohort.items ≡ ps = c.in_ok-cohort.ensures.items ∙ (c.as_slice.ensures.value ∙ ap (λ (t : LabelTable). t.pairs) c.self.view_is) in
    let items : c.in_ok-cohort.cohort.items ≡ map (beside (find_label ps)) ps = is ∙ sym (own_labels _ ps table) in
    rw items (cohort_is _ ps (find_label ps) table)

pub returns-clause-rising : goal.returns-clause-rising
returns-clause-rising c =
    let ps = c.args.self.now.pairs in
    let table : IsTable 0 c.args.self.now.peers ps = subst (λ (t : LabelTable). IsTable 0 t.peers t.pairs) c.self.view_is c.self.invariant.0 in
    let is : c.in_ok-cohort.cohort.items ≡ ps = c.in_ok-cohort.ensures.items ∙ (c.as_slice.ensures.value ∙ ap (λ (t : LabelTable). t.pairs) c.self.view_is) in
    let items : c.in_ok-cohort.cohort.items ≡ map (beside (find_label ps)) ps = is ∙ sym (own_labels _ ps table) in
    rw items ((cohort_is _ ps (find_label ps) table).rising)

pub returns-clause-within : goal.returns-clause-within
returns-clause-within c =
    let ps = c.args.self.now.pairs in
    let table : IsTable 0 c.args.self.now.peers ps = subst (λ (t : LabelTable). IsTable 0 t.peers t.pairs) c.self.view_is c.self.invariant.0 in
    let is : c.in_ok-cohort.cohort.items ≡ ps = c.in_ok-cohort.ensures.items ∙ (c.as_slice.ensures.value ∙ ap (λ (t : LabelTable). t.pairs) c.self.view_is) in
    let items : c.in_ok-cohort.cohort.items ≡ map (beside (find_label ps)) ps = is ∙ sym (own_labels _ ps table) in
    rw items (cohort_below _ ps (find_label ps) table)
