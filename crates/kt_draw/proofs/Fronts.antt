-- Where reading a log as rows stops.
use Rattle.std.proofs.Common.{◌≡◌, ◌∙◌, ◌<◌, ◌≤◌, ◌+◌, ℕ, zero, suc, nat_lt, if◌then◌else◌, Bool, true, false, Option, Some, None, List, [], ◌∷◌, length, take, refl, sym, ap, subst, arith}
use Rattle.std.specs.Prelude.{slice_get, Result, Ok, Err, IfOk}
use Rattle.std.proofs.lemmas.Bool.{ltb-true}
use Rattle.std.proofs.lemmas.List.{take_all}
use Rattle.kt_spacetime.specs.declared.event.Event.{Event}
use Rattle.kt_spacetime.specs.declared.rules.Rule.{Rule}
use Rattle.kt_meaning.specs.Past.{Past, start, after}
use Rattle.kt_meaning.specs.Legal.{IsLegal, IsLegalAfter, broken_rule, first_broken, first_broken_after, or_later}
use Rattle.kt_meaning.proofs.Items.{some_same}
use Rattle.kt_spacetime.specs.declared.certificate.Certificate.{Certificate}
use Rattle.kt_picture.specs.declared.window.BrokenRow.{BrokenRow}
use Rattle.kt_picture.specs.BrokenRow.{breach_columns}
use Rattle.kt_draw.specs.declared.span.Span.{Span}
use Rattle.kt_draw.specs.declared.span.PictureFault.{PictureFault}
use Rattle.kt_draw.specs.Drawn.{HasRows, IsDrawn, IsNoPicture, IsNoWindow, IsPictureTo, IsReadTo, IsShort, drawn_text, first_row, last_row, line_below, rows_seen}

-- the rows before the first one that breaks a rule break none
front_after : (s : Past) (log : List Event) (k : ℕ) (rule : Rule) → first_broken_after s log ≡ Some (s.rows + (k + 1), rule) → IsLegalAfter s (take k log)
front_after s log zero rule e = tt
front_after s [] (suc k) rule e = tt
front_after s (row ∷ rows) (suc k) rule e = at_rule (broken_rule s row) refl (λ g. front_after (after s row) rows k rule g) e
  where
    at_rule : (o : Option Rule) → broken_rule s row ≡ o → (first_broken_after (after s row) rows ≡ Some (s.rows + 1 + (k + 1), rule) → IsLegalAfter (after s row) (take k rows))
        → or_later o (s.rows + 1) (first_broken_after (after s row) rows) ≡ Some (s.rows + (suc k + 1), rule) → (broken_rule s row ≡ None) × IsLegalAfter (after s row) (take k rows)
    at_rule (Some other) is later f =
        let number : s.rows + 1 ≡ s.rows + (suc k + 1) = ap (λ (x : ℕ × Rule). x.0) (some_same f) in
        absurd (omega (arith, number))
    at_rule None is later f =
        let number : s.rows + (suc k + 1) ≡ s.rows + 1 + (k + 1) = omega arith in
        (is, later (f ∙ ap (λ (n : ℕ). Some (n, rule)) number))

none_some : {X : Type 0} (x : X) → None ≡ Some x → ⊥
none_some x e = cc

-- the first row that breaks a rule is a row of the log
pub broken_within : (s : Past) (log : List Event) (n : ℕ) (rule : Rule) → first_broken_after s log ≡ Some (n, rule) → (s.rows < n) × (n ≤ s.rows + length log)
broken_within s [] n rule e = absurd (none_some (n, rule) e)
broken_within s (row ∷ rows) n rule e = at_rule (broken_rule s row) (λ g. broken_within (after s row) rows n rule g) e
  where
    at_rule : (o : Option Rule) → (first_broken_after (after s row) rows ≡ Some (n, rule) → (s.rows + 1 < n) × (n ≤ s.rows + 1 + length rows))
        → or_later o (s.rows + 1) (first_broken_after (after s row) rows) ≡ Some (n, rule) → (s.rows < n) × (n ≤ s.rows + length (row ∷ rows))
    at_rule (Some other) later f =
        let number : s.rows + 1 ≡ n = ap (λ (x : ℕ × Rule). x.0) (some_same f) in
        (omega (arith, number), omega (arith, number))
    at_rule None later f =
        let h = later f in
        (omega (arith, h.0), omega (arith, h.1))

-- the number of that row
pub broken_number : (log : List Event) (n : ℕ) (rule : Rule) → first_broken log ≡ Some (n, rule) → (0 < n) × (n ≤ length log)
broken_number log n rule e = let h : (0 < n) × (n ≤ 0 + length log) = broken_within start log n rule e in (h.0, omega (arith, h.1))

-- a legal log is read to its end
pub reads_whole : (log : List Event) (kept : ℕ) → IsLegal log → kept ≡ length log → IsReadTo log kept None
reads_whole log kept legal all = record {
  legal = subst IsLegal (sym (take_all kept log (omega (arith, all)))) legal;
  within = omega (arith, all);
  stops = all;
}

-- another one is read to the first row that breaks a rule
pub reads_front : (log : List Event) (kept n : ℕ) (event : Event) (rule : Rule) → first_broken log ≡ Some (n, rule) → n ≡ kept + 1 → slice_get log kept ≡ Some event → IsReadTo log kept (Some (record { event = event; rule = rule }))
reads_front log kept n event rule broken number there =
    let at : first_broken log ≡ Some (kept + 1, rule) = broken ∙ ap (λ (m : ℕ). Some (m, rule)) number in
    let from_start : kept + 1 ≡ 0 + (kept + 1) = omega arith in
    let within = broken_number log n rule broken in
    record {
      legal = front_after start log kept rule (at ∙ ap (λ (m : ℕ). Some (m, rule)) from_start);
      within = omega (arith, within.1, number);
      stops = (at, there);
    }

-- a row that breaks a rule takes one column
pub one_column : (b : Option BrokenRow) → breach_columns b ≤ 1
one_column None = omega arith
one_column (Some b) = omega arith

-- the last row that is drawn is one that is read
pub last_seen : (seen : ℕ) (to : Option ℕ) → last_row seen to ≤ seen
last_seen seen None = omega arith
last_seen seen (Some n) = at_test (nat_lt n seen) refl
  where
    at_test : (t : Bool) → nat_lt n seen ≡ t → (if t then n else seen) ≤ seen
    at_test true e = omega (arith, ltb-true n seen e)
    at_test false e = omega arith

module _ (names : List (List ℕ)) (span : Span) (log : List Event) (kept count seen : ℕ) (b : Option BrokenRow) (read : IsReadTo log kept b) (counted : count ≡ length log) (last_read : seen ≡ rows_seen kept b) where
  -- the picture of a window is that of the rows that are asked for
  pub pictured : (certificates : List Certificate) (orphan : Option ℕ) (line : List ℕ) (first last : ℕ) (text : List ℕ) → first ≡ first_row span.from → last ≡ last_row seen span.to → HasRows count seen span → IsShort seen span
      → text ≡ drawn_text names log kept b first last certificates orphan line → IsPictureTo names span log kept b certificates orphan line text
  pictured certificates orphan line first last text first_is last_is there short text_is = record {
    there = subst (λ (n : ℕ). HasRows n (rows_seen kept b) span) counted (subst (λ (m : ℕ). HasRows count m span) last_read there);
    short = subst (λ (m : ℕ). IsShort m span) last_read short;
    text_is = text_is ∙ (λ j. drawn_text names log kept b (first_is j) ((last_is ∙ ap (λ (m : ℕ). last_row m span.to) last_read) j) certificates orphan line);
  }

  -- where there is no such window, there is no such picture
  pub not_pictured : (why : PictureFault) → IsNoWindow count seen span why → IsNoPicture span log why
  not_pictured why none = record {
    kept = kept;
    breach = b;
    read = read;
    window = subst (λ (n : ℕ). IsNoWindow n (rows_seen kept b) span why) counted (subst (λ (m : ℕ). IsNoWindow count m span why) last_read none);
  }

-- a picture of a log that is read so far, with this line below, if there is one
pub told_drawn : (names : List (List ℕ)) (span : Span) (log : List Event) (kept : ℕ) (b : Option BrokenRow) (certificates : List Certificate) (orphan : Option ℕ) (line : Option (List ℕ)) (below text : List ℕ) → IsReadTo log kept b
    → below ≡ line_below kept b line → IsPictureTo names span log kept b certificates orphan below text → IsDrawn names span log certificates orphan line text
told_drawn names span log kept b certificates orphan line below text read e h = record {
  kept = kept;
  breach = b;
  read = read;
  drawn = subst (λ (l : List ℕ). IsPictureTo names span log kept b certificates orphan l text) e h;
}

-- what follows from an answer
pub ok_weaker : {X E : Type 0} (r : Result X E) (P Q : X → Type 0) → IfOk r P → ((x : X) → P x → Q x) → IfOk r Q
ok_weaker (Ok x) P Q h f = f x h
ok_weaker (Err e) P Q h f = tt
