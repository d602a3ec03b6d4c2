-- The tables after one more row.
use Rattle.std.proofs.Common.{◌≡◌, ◌≢◌, ◌∙◌, ◌<◌, ◌+◌, ◌^◌, ℕ, Some, List, [], ◌∷◌, ◌++◌, length, length-append, set, sym, ap, subst, arith, inl, inr}
use Rattle.std.specs.Prelude.{ℤ}
use Rattle.std.specs.List.{slice_get}
use Rattle.std.proofs.lemmas.Bool.{cases_eq}
use Rattle.std.proofs.lemmas.List.{length-set}
use Rattle.std.proofs.lemmas.Option.{slice_get_within}
use Rattle.kt_base.specs.declared.words.Kind.{Kind}
use Rattle.kt_meaning.proofs.Items.{get_set_same, get_set_other, some_same}
use Rattle.kt_meaning.proofs.Shown.{at_same, at_other}
use Rattle.kt_spacetime.specs.declared.event.Event.TheVariants.{Sent, Began}
use Rattle.kt_meaning.specs.Names.{Given, given_after}
use Rattle.kt_merge.specs.declared.tables.Gave.{Gave}
use Rattle.kt_merge.specs.Numbering.{ShowsProcess, ShowsTables}

-- a process's table stands at its number, the others stay
each_after : (old new : List Gave) (g h : Given) (p : ℕ) (was now : Gave) → new ≡ set old p now → slice_get old p ≡ Some was
    → ((q : ℕ) (gave : Gave) → slice_get old q ≡ Some gave → ShowsProcess gave g q) → ShowsProcess now h p
    → ((q : ℕ) (gave : Gave) → q ≢ p → ShowsProcess gave g q → ShowsProcess gave h q)
    → (q : ℕ) (gave : Gave) → slice_get new q ≡ Some gave → ShowsProcess gave h q
each_after old new g h p was now made at each here others q gave there = elim (cases_eq q p) [
  | inl same ↦
      let in_place : slice_get new p ≡ Some now = ap (λ (l : List Gave). slice_get l p) made ∙ get_set_same old p now (slice_get_within old p was at) in
      let is : now ≡ gave = some_same (sym in_place ∙ (ap (slice_get new) (sym same) ∙ there)) in
      subst (λ (r : ℕ). ShowsProcess gave h r) (sym same) (subst (λ (x : Gave). ShowsProcess x h p) is here)
  | inr other ↦
      let before : slice_get old q ≡ Some gave = sym (get_set_other old p q now other) ∙ (ap (λ (l : List Gave). slice_get l q) (sym made) ∙ there) in
      others q gave other (each q gave before)
]

pub shows_sent : (rows begun : ℕ) (tables : List Gave) (g : Given) (p i m to : ℕ) (body : ℤ) (was now : Gave) → ShowsTables rows begun tables g → rows < 2 ^ 24 → i ≡ p → slice_get tables i ≡ Some was
    → m ≡ rows + 1 → now.sent.items ≡ was.sent.items ++ m ∷ [] → now.begun.items ≡ was.begun.items → ShowsTables (rows + 1) begun (set tables i now) (given_after g (Sent p to body))
shows_sent rows begun tables g p i m to body was now s few index at number sent same = record {
  rows = omega (arith, s.rows);
  begun = s.begun;
  few = (omega (arith, few, s.rows), s.few.1);
  all = length-set tables i now ∙ s.all;
  each = each_after tables (set tables i now) g (given_after g (Sent p to body)) p was now (ap (λ (k : ℕ). set tables k now) index) at_p s.each here others;
}
  where
    at_p : slice_get tables p ≡ Some was
    at_p = ap (slice_get tables) (sym index) ∙ at

    here : ShowsProcess now (given_after g (Sent p to body)) p
    here =
        let shown = s.each p was at_p in
        let is : m ≡ g.rows + 1 = omega (arith, number, s.rows) in
        record {
          sent = sent ∙ (ap (λ (l : List ℕ). l ++ m ∷ []) shown.sent ∙ (ap (λ (k : ℕ). g.sent p ++ k ∷ []) is ∙ sym (at_same p (g.sent p ++ (g.rows + 1) ∷ []) g.sent)));
          begun = same ∙ shown.begun;
        }

    others : (q : ℕ) (gave : Gave) → q ≢ p → ShowsProcess gave g q → ShowsProcess gave (given_after g (Sent p to body)) q
    others q gave other shown = record { sent = shown.sent ∙ sym (at_other p q (g.sent p ++ (g.rows + 1) ∷ []) g.sent other); begun = shown.begun }

pub shows_begun : (rows begun : ℕ) (tables : List Gave) (g : Given) (p i k : ℕ) (kind : Kind) (was now : Gave) → ShowsTables rows begun tables g → rows < 2 ^ 24 → begun < 4096 → i ≡ p → slice_get tables i ≡ Some was
    → k ≡ begun + 1 → now.begun.items ≡ was.begun.items ++ k ∷ [] → now.sent.items ≡ was.sent.items → ShowsTables (rows + 1) (begun + 1) (set tables i now) (given_after g (Began p k kind))
shows_begun rows begun tables g p i k kind was now s few room index at number more same = record {
  rows = omega (arith, s.rows);
  begun = omega (arith, s.begun, length-append g.initiators (p ∷ []));
  few = (omega (arith, few, s.rows), omega (arith, room, s.begun, length-append g.initiators (p ∷ [])));
  all = length-set tables i now ∙ s.all;
  each = each_after tables (set tables i now) g (given_after g (Began p k kind)) p was now (ap (λ (j : ℕ). set tables j now) index) at_p s.each here others;
}
  where
    at_p : slice_get tables p ≡ Some was
    at_p = ap (slice_get tables) (sym index) ∙ at

    here : ShowsProcess now (given_after g (Began p k kind)) p
    here =
        let shown = s.each p was at_p in
        let is : k ≡ length g.initiators + 1 = omega (arith, number, s.begun) in
        record {
          sent = same ∙ shown.sent;
          begun = more ∙ (ap (λ (l : List ℕ). l ++ k ∷ []) shown.begun ∙ (ap (λ (j : ℕ). g.begun p ++ j ∷ []) is ∙ sym (at_same p (g.begun p ++ (length g.initiators + 1) ∷ []) g.begun)));
        }

    others : (q : ℕ) (gave : Gave) → q ≢ p → ShowsProcess gave g q → ShowsProcess gave (given_after g (Began p k kind)) q
    others q gave other shown = record { sent = shown.sent; begun = shown.begun ∙ sym (at_other p q (g.begun p ++ (length g.initiators + 1) ∷ []) g.begun other) }
