-- One process's history comes to be permanent, or is cut back.
use Rattle.std.proofs.Common.{◌≡◌, ◌≢◌, ℕ, ◌<◌, ◌≤◌, Some, List, length, set, take, sym, ap, subst, ◌∙◌, arith, inl, inr, length-take}
use Rattle.std.specs.List.{slice_get}
use Rattle.std.proofs.lemmas.Bool.{cases_eq}
use Rattle.std.proofs.lemmas.List.{length-set}
use Rattle.kt_spacetime.specs.declared.deeds.Deed.{Deed}
use Rattle.kt_walk.specs.declared.process_state.ProcessState.{ProcessState}
use Rattle.kt_meaning.specs.Past.{Past, at_one}
use Rattle.kt_walk.specs.Stages.{with_permanent, with_live}
use Rattle.kt_walk.specs.PartsOf.{ShowsProcessState, ShowsProcessStates}
use Rattle.kt_meaning.proofs.Items.{get_set_same, get_set_other, some_same}
use Rattle.kt_meaning.proofs.Shown.{at_same, at_other}

-- the processes with another one at a place
pub process_states_set : (ws : List ProcessState) (s t : Past) (p : ℕ) (v : ProcessState) → ShowsProcessStates ws s → p < 64 → ShowsProcessState v t p
    → ((q : ℕ) (w : ProcessState) → q ≢ p → ShowsProcessState w s q → ShowsProcessState w t q) → ShowsProcessStates (set ws p v) t
process_states_set ws s t p v h l fresh others = record {
  each = λ q w e. elim (cases_eq q p) [
    | inl same ↦
        let at : slice_get (set ws p v) p ≡ Some w = subst (λ (x : ℕ). slice_get (set ws p v) x ≡ Some w) same e in
        let is : v ≡ w = some_same (sym (get_set_same ws p v (omega (arith, h.all, l))) ∙ at) in
        subst (λ (x : ProcessState). ShowsProcessState x t q) is (subst (λ (x : ℕ). ShowsProcessState v t x) (sym same) fresh)
    | inr n ↦ others q w n (h.each q w (sym (get_set_other ws p q v n) ∙ e))
  ];
  all = length-set ws p v ∙ h.all;
}

pub process_states_same : (ws : List ProcessState) (s t : Past) → ShowsProcessStates ws s → ((q : ℕ) (w : ProcessState) → ShowsProcessState w s q → ShowsProcessState w t q) → ShowsProcessStates ws t
process_states_same ws s t h others = record { each = λ q w e. others q w (h.each q w e); all = h.all }

-- a process more of whose deeds are permanent
pub permanent_to : (ws : List ProcessState) (s : Past) (p n : ℕ) (v : ProcessState) → ShowsProcessStates ws s → p < 64 → slice_get ws p ≡ Some v → ShowsProcessStates (set ws p (record v { permanent = n })) (with_permanent s (at_one p n s.permanent))
permanent_to ws s p n v h l there =
    let g = h.each p v there in
    process_states_set ws s (with_permanent s (at_one p n s.permanent)) p (record v { permanent = n }) h l
    (record { length = g.length; permanent = sym (at_same p n s.permanent); open_in = g.open_in; up = g.up })
    (λ q u apart x. record { length = x.length; permanent = x.permanent ∙ sym (at_other p q n s.permanent apart); open_in = x.open_in; up = x.up })

-- a process whose history is cut back to its permanent part
pub undone_to : (ws : List ProcessState) (s : Past) (p : ℕ) (v w : ProcessState) → ShowsProcessStates ws s → p < 64 → slice_get ws p ≡ Some v → s.permanent p ≤ length (s.live p) → (v.permanent ≤ v.length → w ≡ record v { length = v.permanent })
    → ShowsProcessStates (set ws p w) (with_live s (at_one p (take (s.permanent p) (s.live p)) s.live))
undone_to ws s p v w h l there within new =
    let g = h.each p v there in
    let front : List Deed = take (s.permanent p) (s.live p) in
    let t : Past = with_live s (at_one p front s.live) in
    let count : v.permanent ≡ length (at_one p front s.live p) = omega (arith, g.permanent, length-take (s.permanent p) (s.live p), within, ap length (at_same p front s.live)) in
    let now : ShowsProcessState (record v { length = v.permanent }) t p = record { length = count; permanent = g.permanent; open_in = g.open_in; up = g.up } in
    process_states_set ws s t p w h l (subst (λ (x : ProcessState). ShowsProcessState x t p) (sym (new (omega (arith, g.permanent, g.length, within)))) now)
    (λ q u apart x. record { length = x.length ∙ ap length (sym (at_other p q front s.live apart)); permanent = x.permanent; open_in = x.open_in; up = x.up })
