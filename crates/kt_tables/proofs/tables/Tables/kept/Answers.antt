use Rattle.std.proofs.Common.{◌≡◌, ℕ, Bool, sym, ◌∙◌, ap, subst, arith}
use Rattle.std.proofs.Math.Path.{fun_ext}
use Rattle.kt_tables.specs.Labels.{has_label}
use Rattle.kt_tables.specs.Calls.{parts, sents, receiveds}
use Rattle.kt_tables.specs.Peers.{count_peers, has_one}
use Rattle.kt_tables.specs.States.{State}
use Rattle.kt_tables.specs.Standing.{TablesStandFor}
use Rattle.kt_tables.proofs.Cohorts.{count_most}
use Rattle.kt_tables.proofs.Keeping.{has_first, has_last}
use Rattle.kt_tables.proofs.tables.Tables.kept.Goals as goal

pub overflow_add-result : goal.overflow_add-result
overflow_add-result c =
    omega (
      arith,
      c.count.ensures,
      c.count-2.ensures,
      count_most c.self.inside.last_rcvd.peers (has_one c.self.inside.last_rcvd),
      count_most c.self.inside.first_sent.peers (has_one c.self.inside.first_sent),
      c.self.invariant.few,
      c.self.invariant.last_rcvd,
      c.self.invariant.first_sent,
    )

pub returns : goal.returns
returns c = λ calls h.
    let stood = subst (λ (t : State). TablesStandFor t calls) (sym c.self.view_is) h in
    let n = ap (λ (t : State). t.processes) c.self.view_is in
    let one : c.count.result ≡ count_peers c.args.self.now.processes (λ q. has_label (receiveds q (parts calls).since)) =
    c.count.ensures ∙ (ap (λ (m : ℕ). count_peers m (has_one c.self.inside.last_rcvd)) (c.self.invariant.last_rcvd ∙ n)
    ∙ ap (λ (f : ℕ → Bool). count_peers c.args.self.now.processes f) (fun_ext (has_last _ calls stood))) in
    let two : c.count-2.result ≡ count_peers c.args.self.now.processes (λ q. has_label (sents q (parts calls).since)) =
    c.count-2.ensures ∙ (ap (λ (m : ℕ). count_peers m (has_one c.self.inside.first_sent)) (c.self.invariant.first_sent ∙ n)
    ∙ ap (λ (f : ℕ → Bool). count_peers c.args.self.now.processes f) (fun_ext (has_first _ calls stood))) in
    rw (one, two)
