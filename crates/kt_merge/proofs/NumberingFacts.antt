-- Rows numbered by tables.
use Rattle.std.proofs.Common.{◌≡◌, ◌∙◌, ◌+◌, ◌==◌, ℕ, Bool, true, Some, None, if◌then◌else◌, List, [], ◌∷◌, ◌++◌, length, sym, ap, subst, inl, inr}
use Rattle.std.specs.Prelude.{◌&&◌}
use Rattle.std.specs.List.{slice_get}
use Rattle.kt_base.specs.declared.words.Kind.{Kind}
use Rattle.kt_meaning.proofs.Items.{get_push}
use Rattle.kt_spacetime.specs.declared.event.Event.TheVariants.{Began}
use Rattle.kt_spacetime.specs.declared.names.InstName.{InstName}
use Rattle.kt_spacetime.specs.declared.named_rows.NamedEvent.TheVariants as own
use Rattle.kt_meaning.specs.Names.{Given, numbered_event}
use Rattle.kt_meaning.proofs.PlaceFacts.{same_test}
use Rattle.kt_merge.specs.declared.tables.Gave.{Gave}

-- an instance with the next name of its initiator has the next number
pub began_numbers : (g : Given) (p : ℕ) (inst : InstName) (kind : Kind) → inst.initiator ≡ p → inst.count ≡ length (g.begun p) + 1 → numbered_event g p (own.Began inst kind) ≡ Some (Began p (length g.initiators + 1) kind)
began_numbers g p inst kind e f =
    let is_own : (inst.initiator == p) ≡ true = subst (λ (q : ℕ). (inst.initiator == q) ≡ true) e (same_test inst.initiator) in
    let is_next : (inst.count == length (g.begun p) + 1) ≡ true = subst (λ (n : ℕ). (inst.count == n) ≡ true) f (same_test inst.count) in
    let both : ((inst.initiator == p) && (inst.count == length (g.begun p) + 1)) ≡ true = ap (λ (b : Bool). b && (inst.count == length (g.begun p) + 1)) is_own ∙ is_next in
    ap (λ (b : Bool). if b then Some (Began p (length g.initiators + 1) kind) else None) both

-- a process that gave nothing
abbrev pub GaveNothing : Gave → Type 0
GaveNothing gave = (gave.sent.items ≡ []) × (gave.begun.items ≡ [])

abbrev pub AllGaveNothing : List Gave → Type 0
AllGaveNothing list = (p : ℕ) (gave : Gave) → slice_get list p ≡ Some gave → GaveNothing gave

pub nothing_more : (list : List Gave) (gave : Gave) → AllGaveNothing list → GaveNothing gave → AllGaveNothing (list ++ gave ∷ [])
nothing_more list gave all h p other at = elim (get_push list gave p other at) [
  | inl there ↦ all p other there
  | inr there ↦ subst GaveNothing (sym there.1) h
]
