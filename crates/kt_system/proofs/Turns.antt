-- One process of a system, by its place.
use Rattle.std.specs.Prelude.{All}
use Rattle.std.proofs.Common.{◌≡◌, ℕ, ◌<◌, length, get_or, arith, ap, subst, ◌∙◌}
use Rattle.std.proofs.lemmas.List.{get_or_default}
use Rattle.std.proofs.lemmas.List.Elements.{All-get_or}
use Rattle.kt_process.specs.ProcessStates.{ProcessState}
use Rattle.kt_system.specs.Systems.{Whole, state_of, no_process, IsSoundSystem}

-- who stands at a place
pub state_at : (a seen : Whole) (p i : ℕ) (x : ProcessState) → a ≡ seen → IsSoundSystem a → p < seen.size → i ≡ p → x ≡ get_or a.states i x → x ≡ state_of seen p
unfolding state_of
state_at a seen p i x v sound b e was =
    let n = ap (λ (w : Whole). w.size) v in
    was ∙ (ap (λ (j : ℕ). get_or a.states j x) e ∙ (get_or_default a.states p x no_process (let k = sound.states in omega arith) ∙ ap (λ (w : Whole). get_or w.states p no_process) v))

-- what holds of all of them holds of each
pub each_state : (P : ProcessState → Type 0) (w : Whole) → All P w.states → (p : ℕ) → p < length w.states → P (state_of w p)
unfolding state_of
each_state P w h p b = All-get_or P w.states p no_process b h

pub tables_at : (a seen : Whole) (p : ℕ) → a ≡ seen → IsSoundSystem a → p < seen.size → (state_of seen p).tables.processes ≡ seen.size
unfolding state_of
tables_at a seen p v sound b =
    let n = ap (λ (w : Whole). w.size) v in
    let here = All-get_or (λ (x : ProcessState). x.tables.processes ≡ a.size) a.states p no_process (let k = sound.states in omega arith) sound.tables in
    subst (λ (w : Whole). (get_or w.states p no_process).tables.processes ≡ w.size) v here
