-- A log that is drawn while its rows are read.
use Rattle.std.proofs.Common.{◌≡◌, ◌∙◌, ◌<◌, ◌≤◌, ◌+◌, ◌-◌, ◌⊎◌, ℕ, zero, suc, nat_lt, if◌then◌else◌, Bool, true, false, Option, Some, None, List, [], ◌∷◌, ◌++◌, length, take, drop, refl, sym, ap, subst, append_assoc, arith, inl, inr}
use Rattle.std.proofs.lemmas.Bool.{ltb-true, ltb-false}
use Rattle.std.proofs.lemmas.Bool.Decides.{nat_tests}
use Rattle.std.proofs.lemmas.List.{append-nil, drop-append-le, drop_all, length_push, length-take, length-take-le, take-append-drop, take-append-le, take-take, take_all}
use Rattle.std.proofs.lemmas.Option.{slice_get_within}
use Rattle.std.proofs.Math.Seq.{take-append_seam}
use Rattle.kt_spacetime.specs.declared.event.Event.{Event}
use Rattle.kt_spacetime.specs.declared.rules.Rule.{Rule}
use Rattle.kt_meaning.specs.Past.{Past, start, after}
use Rattle.kt_meaning.specs.Legal.{IsLegal, IsLegalAfter, broken_rule, first_broken, first_broken_after, or_later}
use Rattle.kt_meaning.proofs.Items.{get_left, get_seam}
use Rattle.kt_spacetime.specs.declared.certificate.Certificate.{Certificate}
use Rattle.kt_walk.specs.WalkOf.{WalkOf}
use Rattle.kt_walk.specs.WalkParts.{WalkParts}
use Rattle.kt_picture.specs.declared.window.BrokenRow.{BrokenRow}
use Rattle.kt_picture.specs.declared.diagram.Diagram.{Diagram}
use Rattle.kt_picture.specs.declared.diagram.Sheet.{Sheet}
use Rattle.kt_picture.specs.DiagramOf.{DiagramOf, HasRowsFor, SheetOf}
use Rattle.kt_draw.specs.declared.drawing.Followed.{Followed}
use Rattle.kt_draw.specs.declared.drawing.Reading.{Reading}
use Rattle.kt_draw.specs.declared.span.Span.{Span}
use Rattle.kt_picture.specs.Picture.{picture_of}
use Rattle.kt_draw.specs.declared.span.PictureFault.{PictureFault}
use Rattle.kt_draw.specs.Drawn.{HasRows, IsNoPicture, IsNoWindow, IsPictureTo, IsReadTo, IsShort, breach_drawn, first_row, last_row, most_columns, rows_drawn, rows_seen}
use Rattle.kt_draw.specs.Followed.{AreRowsRead, FollowedOf, ReadingOf, ShowsWindow, last_wanted}
use Rattle.kt_draw.proofs.Fronts.{broken_number, broken_within, last_seen, not_pictured, one_column, pictured, reads_front, reads_whole}

-- while rows come before the window its diagram shows none
early_diagram : (o : Option Sheet) (d : Diagram) (w : WalkParts) (before last : ℕ) (rows : List Event) → before ≤ last → length rows < before → ShowsWindow o d w before last rows → DiagramOf d w rows []
early_diagram (Some s) d w before last rows some early h = absurd (omega (arith, some, early, h.0))
early_diagram None d w before last rows some early h =
    subst (λ (l : List Event). DiagramOf d w l []) (take_all before rows (omega (arith, early))) (subst (λ (l : List Event). DiagramOf d w (take before rows) l) (drop_all before rows (omega (arith, early))) h.1)

-- while it goes on the diagram shows its rows
pub open_diagram : (o : Option Sheet) (d : Diagram) (w : WalkParts) (before last : ℕ) (rows : List Event) → length rows < last → ShowsWindow o d w before last rows → DiagramOf d w (take before rows) (drop before rows)
open_diagram (Some s) d w before last rows early h = absurd (omega (arith, early, h.0))
open_diagram None d w before last rows early h = h.1

-- so it goes on with one more row
still_open : (o : Option Sheet) (d e : Diagram) (w v : WalkParts) (before last : ℕ) (rows more : List Event) → length rows < last → length more ≤ last → ShowsWindow o d w before last rows → DiagramOf e v (take before more) (drop before more)
    → ShowsWindow o e v before last more
still_open (Some s) d e w v before last rows more early few h shows = absurd (omega (arith, early, h.0))
still_open None d e w v before last rows more early few h shows = (few, shows)

still_closed : (o : Option Sheet) (d e : Diagram) (w v : WalkParts) (s : Sheet) (before last : ℕ) (rows : List Event) (row : Event) → o ≡ Some s → last ≤ length rows → ShowsWindow o d w before last rows → ShowsWindow o e v before last (rows ++ row ∷ [])
still_closed None d e w v s before last rows row is late h = absurd (cc)
still_closed (Some t) d e w v s before last rows row is late h =
    (omega (arith, length_push rows row, late), subst (λ (l : List Event). SheetOf t l before) (sym (take-append-le last rows (row ∷ []) late)) h.1)

-- in a walk whose bounds and sheet stay
still_shown : (f g : Followed) (rows : List Event) → g.sheet ≡ f.sheet → g.before ≡ f.before → g.last ≡ f.last → ShowsWindow f.sheet g.diagram g.walk f.before f.last rows → ShowsWindow g.sheet g.diagram g.walk g.before g.last rows
still_shown f g rows sheet before last h =
    subst (λ (o : Option Sheet). ShowsWindow o g.diagram g.walk g.before g.last rows) (sym sheet)
    (subst (λ (n : ℕ). ShowsWindow f.sheet g.diagram g.walk n g.last rows) (sym before)
    (subst (λ (n : ℕ). ShowsWindow f.sheet g.diagram g.walk f.before n rows) (sym last) h))

module _ (f g : Followed) (rows : List Event) (row : Event) (sheet : g.sheet ≡ f.sheet) (before : g.before ≡ f.before) (last : g.last ≡ f.last) (h : FollowedOf f rows) where
  -- one more row before the window
  pub followed_passed : length rows < f.before → (DiagramOf f.diagram f.walk rows [] → DiagramOf g.diagram g.walk (rows ++ row ∷ []) []) → FollowedOf g (rows ++ row ∷ [])
  followed_passed early step =
      let more = rows ++ row ∷ [] in
      let shows : DiagramOf g.diagram g.walk more [] = step (early_diagram f.sheet f.diagram f.walk f.before f.last rows h.some early h.window) in
      let within : length more ≤ f.before = omega (arith, length_push rows row, early) in
      let none : DiagramOf g.diagram g.walk more (drop f.before more) = subst (λ (l : List Event). DiagramOf g.diagram g.walk more l) (sym (drop_all f.before more within)) shows in
      let split : DiagramOf g.diagram g.walk (take f.before more) (drop f.before more) = subst (λ (l : List Event). DiagramOf g.diagram g.walk l (drop f.before more)) (sym (take_all f.before more within)) none in
      record {
        walk = subst (λ (l : List Event). WalkOf g.walk l) (append-nil more) shows.known.walk;
        some = omega (arith, before, last, h.some);
        window = still_shown f g more sheet before last (still_open f.sheet f.diagram g.diagram f.walk g.walk f.before f.last rows more (omega (arith, h.some, early)) (omega (arith, h.some, within)) h.window split);
      }

  -- one more row of the window
  pub followed_added : f.before ≤ length rows → length rows < f.last → ((front window : List Event) → DiagramOf f.diagram f.walk front window → DiagramOf g.diagram g.walk front (window ++ row ∷ [])) → FollowedOf g (rows ++ row ∷ [])
  followed_added begins early step =
      let more = rows ++ row ∷ [] in
      let front = take f.before rows in
      let window = drop f.before rows in
      let shows : DiagramOf g.diagram g.walk front (window ++ row ∷ []) = step front window (open_diagram f.sheet f.diagram f.walk f.before f.last rows early h.window) in
      let whole : front ++ (window ++ row ∷ []) ≡ more = sym (append_assoc front window (row ∷ [])) ∙ ap (λ (l : List Event). l ++ row ∷ []) (take-append-drop f.before rows) in
      let rest : DiagramOf g.diagram g.walk front (drop f.before more) = subst (λ (l : List Event). DiagramOf g.diagram g.walk front l) (sym (drop-append-le f.before rows (row ∷ []) begins)) shows in
      let split : DiagramOf g.diagram g.walk (take f.before more) (drop f.before more) = subst (λ (l : List Event). DiagramOf g.diagram g.walk l (drop f.before more)) (sym (take-append-le f.before rows (row ∷ []) begins)) rest in
      record {
        walk = subst (λ (l : List Event). WalkOf g.walk l) whole shows.known.walk;
        some = omega (arith, before, last, h.some);
        window = still_shown f g more sheet before last (still_open f.sheet f.diagram g.diagram f.walk g.walk f.before f.last rows more early (omega (arith, length_push rows row, early)) h.window split);
      }

  -- one more row after the window
  pub followed_left : (s : Sheet) → f.sheet ≡ Some s → f.last ≤ length rows → WalkOf g.walk (rows ++ row ∷ []) → FollowedOf g (rows ++ row ∷ [])
  followed_left s is late walk = record {
    walk = walk;
    some = omega (arith, before, last, h.some);
    window = still_shown f g (rows ++ row ∷ []) sheet before last (still_closed f.sheet f.diagram g.diagram f.walk g.walk s f.before f.last rows row is late h.window);
  }

-- the sheet of a window that goes on
pub sheet_open : (s : Sheet) (d : Diagram) (w : WalkParts) (before last : ℕ) (rows : List Event) → ShowsWindow None d w before last rows → before ≤ length rows
    → ((front window : List Event) → DiagramOf d w front window → SheetOf s (front ++ window) (length front)) → SheetOf s (take last rows) before
sheet_open s d w before last rows h begun made =
    let sheet : SheetOf s rows before = subst (λ (n : ℕ). SheetOf s rows n) (length-take-le before rows begun) (subst (λ (l : List Event). SheetOf s l (length (take before rows))) (take-append-drop before rows) (made (take before rows) (drop before rows) h.1)) in
    subst (λ (l : List Event). SheetOf s l before) (sym (take_all last rows h.0)) sheet

-- of no rows a diagram shows nothing
pub window_none : (d : Diagram) (w : WalkParts) (before last : ℕ) → DiagramOf d w [] [] → ShowsWindow None d w before last []
window_none d w before last h =
    let none : DiagramOf d w [] (drop before []) = subst (λ (l : List Event). DiagramOf d w [] l) (sym (drop_all before [] (omega arith))) h in
    (omega arith, subst (λ (l : List Event). DiagramOf d w l (drop before [])) (sym (take_all before [] (omega arith))) none)

-- with its sheet a window is at its end
pub followed_closed : (f g : Followed) (s : Sheet) (rows : List Event) → g.sheet ≡ Some s → g.walk ≡ f.walk → g.before ≡ f.before → g.last ≡ f.last → f.last ≤ length rows → SheetOf s (take f.last rows) f.before → FollowedOf f rows → FollowedOf g rows
followed_closed f g s rows sheet walk before last late shows h = record {
  walk = subst (λ (w : WalkParts). WalkOf w rows) (sym walk) h.walk;
  some = omega (arith, before, last, h.some);
  window =
      subst (λ (o : Option Sheet). ShowsWindow o g.diagram g.walk g.before g.last rows) (sym sheet)
      (omega (arith, last, late), subst (λ (n : ℕ). SheetOf s (take g.last rows) n) (sym before) (subst (λ (n : ℕ). SheetOf s (take n rows) f.before) (sym last) shows));
}

-- the row behind legal rows is the first one that can break a rule
after_legal : (s : Past) (rows : List Event) (row : Event) (n : ℕ) (rule : Rule) → IsLegalAfter s rows → first_broken_after s (rows ++ row ∷ []) ≡ Some (n, rule) → s.rows + length rows < n
after_legal s [] row n rule l e = omega (arith, (broken_within s (row ∷ []) n rule e).0)
after_legal s (r ∷ rows) row n rule l e =
    let later : first_broken_after (after s r) (rows ++ row ∷ []) ≡ Some (n, rule) = subst (λ (o : Option Rule). or_later o (s.rows + 1) (first_broken_after (after s r) (rows ++ row ∷ [])) ≡ Some (n, rule)) l.0 e in
    omega (arith, after_legal (after s r) rows row n rule l.1 later)

broken_last : (rows : List Event) (row : Event) (n : ℕ) (rule : Rule) → IsLegal rows → first_broken (rows ++ row ∷ []) ≡ Some (n, rule) → n ≡ length rows + 1
broken_last rows row n rule legal e =
    let low : 0 + length rows < n = after_legal start rows row n rule legal e in
    omega (arith, low, (broken_number (rows ++ row ∷ []) n rule e).1, length_push rows row)

broken_more : (s : Past) (log more : List Event) (x : ℕ × Rule) → first_broken_after s log ≡ Some x → first_broken_after s (log ++ more) ≡ Some x
broken_more s [] more x e = absurd (cc)
broken_more s (row ∷ rows) more x e = at_rule (broken_rule s row) (broken_more (after s row) rows more x) e
  where
    at_rule : (o : Option Rule) → (first_broken_after (after s row) rows ≡ Some x → first_broken_after (after s row) (rows ++ more) ≡ Some x)
        → or_later o (s.rows + 1) (first_broken_after (after s row) rows) ≡ Some x → or_later o (s.rows + 1) (first_broken_after (after s row) (rows ++ more)) ≡ Some x
    at_rule None next h = next h
    at_rule (Some rule) next h = h

-- after a row that breaks a rule reading goes no further
read_on : (rows : List Event) (row : Event) (kept : ℕ) (b : Option BrokenRow) → (b ≡ None → ⊥) → IsReadTo rows kept b → IsReadTo (rows ++ row ∷ []) kept b
read_on rows row kept None some h = absurd (some refl)
read_on rows row kept (Some b) some h = record {
  legal = subst IsLegal (sym (take-append-le kept rows (row ∷ []) h.within)) h.legal;
  within = omega (arith, h.within, length_push rows row);
  stops = (broken_more start rows (row ∷ []) (kept + 1, b.rule) h.stops.0, get_left rows (row ∷ []) kept (slice_get_within rows kept b.event h.stops.1) ∙ h.stops.1);
}

-- while no row breaks a rule all rows are kept
all_kept : (rows kept : List Event) (b : Option BrokenRow) → b ≡ None → take (length kept) rows ≡ kept → IsReadTo rows (length kept) b → kept ≡ rows
all_kept rows kept None none front h = sym front ∙ take_all (length kept) rows (omega (arith, h.stops))
all_kept rows kept (Some b) none front h = absurd (cc)

module _ (r s : Reading) (span : Span) (rows : List Event) (row : Event) (h : ReadingOf r span rows) (counted : s.count ≡ r.count + 1) (before : s.followed.before ≡ r.followed.before) (last : s.followed.last ≡ r.followed.last) where
  -- one more row that breaks no rule
  pub reading_added : r.breach ≡ None → s.breach ≡ r.breach → ((kept : List Event) → FollowedOf r.followed kept → FollowedOf s.followed (kept ++ row ∷ [])) → ReadingOf s span (rows ++ row ∷ [])
  reading_added none same step =
      let all = all_kept rows h.kept r.breach none h.front h.read in
      let followed : FollowedOf s.followed (rows ++ row ∷ []) = step rows (subst (λ (l : List Event). FollowedOf r.followed l) all h.followed) in
      record {
        kept = rows ++ row ∷ [];
        front = take_all (length (rows ++ row ∷ [])) (rows ++ row ∷ []) (omega arith);
        read = subst (λ (b : Option BrokenRow). IsReadTo (rows ++ row ∷ []) (length (rows ++ row ∷ [])) b) (sym (same ∙ none)) (reads_whole (rows ++ row ∷ []) (length (rows ++ row ∷ [])) followed.walk.control.legal refl);
        count = omega (arith, counted, h.count, length_push rows row);
        followed = followed;
        before = before ∙ h.before;
        last = last ∙ h.last;
      }

  -- one that breaks a rule
  pub reading_broken : (number : ℕ) (rule : Rule) → r.breach ≡ None → s.breach ≡ Some (record { event = row; rule = rule }) → ((kept : List Event) → FollowedOf r.followed kept → FollowedOf s.followed kept)
      → ((kept : List Event) → FollowedOf r.followed kept → first_broken (kept ++ row ∷ []) ≡ Some (number, rule)) → ReadingOf s span (rows ++ row ∷ [])
  reading_broken number rule none is still broken =
      let all = all_kept rows h.kept r.breach none h.front h.read in
      let was : FollowedOf r.followed rows = subst (λ (l : List Event). FollowedOf r.followed l) all h.followed in
      let first = broken rows was in
      let at = broken_last rows row number rule was.walk.control.legal first in
      record {
        kept = rows;
        front = take-append_seam rows (row ∷ []);
        read = subst (λ (b : Option BrokenRow). IsReadTo (rows ++ row ∷ []) (length rows) b) (sym is) (reads_front (rows ++ row ∷ []) (length rows) number row rule first at (get_seam rows row []));
        count = omega (arith, counted, h.count, length_push rows row);
        followed = still rows was;
        before = before ∙ h.before;
        last = last ∙ h.last;
      }

  -- one after a row that breaks a rule
  pub reading_on : (r.breach ≡ None → ⊥) → s.breach ≡ r.breach → s.followed ≡ r.followed → ReadingOf s span (rows ++ row ∷ [])
  reading_on some same still = record {
    kept = h.kept;
    front = take-append-le (length h.kept) rows (row ∷ []) h.read.within ∙ h.front;
    read = subst (λ (b : Option BrokenRow). IsReadTo (rows ++ row ∷ []) (length h.kept) b) (sym same) (read_on rows row (length h.kept) r.breach some h.read);
    count = omega (arith, counted, h.count, length_push rows row);
    followed = subst (λ (f : Followed). FollowedOf f h.kept) (sym still) h.followed;
    before = before ∙ h.before;
    last = last ∙ h.last;
  }

-- nothing is read of no rows
pub reading_none : (r : Reading) (span : Span) → r.breach ≡ None → r.count ≡ 0 → FollowedOf r.followed [] → r.followed.before ≡ first_row span.from - 1 → r.followed.last ≡ last_wanted (first_row span.from - 1) span.to → ReadingOf r span []
reading_none r span none count followed before last = record {
  kept = [];
  front = refl;
  read = subst (λ (b : Option BrokenRow). IsReadTo [] 0 b) (sym none) (reads_whole [] 0 followed.walk.control.legal refl);
  count = count;
  followed = followed;
  before = before;
  last = last;
}

-- the last row that is drawn is no later than a picture may show, and only less late where no more is read
last_least : (seen before : ℕ) (to : Option ℕ) → before < last_row seen to → last_row seen to < before + 1 + most_columns → (last_row seen to ≤ last_wanted before to) × ((last_wanted before to ≤ last_row seen to) ⊎ (seen ≤ last_row seen to))
last_least seen before None some short = (omega (arith, some, short), inr (omega arith))
last_least seen before (Some n) some short = at_tests (nat_lt n seen) (nat_lt (n - before) most_columns) refl refl some short
  where
    at_tests : (s t : Bool) → nat_lt n seen ≡ s → nat_lt (n - before) most_columns ≡ t → before < (if s then n else seen) → (if s then n else seen) < before + 1 + most_columns
        → ((if s then n else seen) ≤ before + (if t then n - before else most_columns)) × ((before + (if t then n - before else most_columns) ≤ (if s then n else seen)) ⊎ (seen ≤ (if s then n else seen)))
    at_tests true true a b low high = (omega (arith, low), inl (omega (arith, low)))
    at_tests true false a b low high = let more = ltb-false (n - before) most_columns b in (omega (arith, low, high, more), inl (omega (arith, low, high, more)))
    at_tests false true a b low high = (omega (arith, ltb-false n seen a, low), inr (omega arith))
    at_tests false false a b low high = (omega (arith, high), inr (omega arith))

-- so what is drawn are all rows up to there that are legal
rows_are : (kept last wanted : ℕ) (rows front : List Event) → take kept rows ≡ front → length front ≡ kept → last ≤ wanted → (wanted ≤ last) ⊎ (kept ≤ last) → take wanted front ≡ take (rows_drawn kept last) rows
rows_are kept last wanted rows front is all within least = at_test (nat_lt kept last) refl
  where
    at_test : (t : Bool) → nat_lt kept last ≡ t → take wanted front ≡ take (if t then kept else last) rows
    at_test true e = take_all wanted front (omega (arith, all, within, ltb-true kept last e)) ∙ sym is
    at_test false e =
        let late = ltb-false kept last e in
        elim least [
          | inl exact ↦
              let same : wanted ≡ last = omega (arith, exact, within) in
              ap (take wanted) (sym is) ∙ take-take wanted kept rows (omega (arith, same, late)) ∙ ap (λ (n : ℕ). take n rows) same
          | inr whole ↦
              let same : kept ≡ last = omega (arith, whole, late) in
              take_all wanted front (omega (arith, all, same, within)) ∙ sym is ∙ ap (λ (n : ℕ). take n rows) same
        ]

pub drawn_rows : (kept seen before : ℕ) (to : Option ℕ) (rows front : List Event) → take kept rows ≡ front → length front ≡ kept → kept ≤ seen → before < last_row seen to → last_row seen to < before + 1 + most_columns
    → take (last_wanted before to) front ≡ take (rows_drawn kept (last_row seen to)) rows
drawn_rows kept seen before to rows front is all read some short =
    let h = last_least seen before to some short in
    rows_are kept (last_row seen to) (last_wanted before to) rows front is all h.0 (elim h.1 [ inl exact ↦ inl exact | inr whole ↦ inr (omega (arith, whole, read)) ])

-- as many rows come before the window as are kept, or fewer
pub begun : (r : Reading) (span : Span) (rows : List Event) (kept count seen : ℕ) (h : ReadingOf r span rows) → kept ≡ length h.kept → seen ≡ rows_seen kept r.breach → HasRows count seen span → r.followed.before ≤ length h.kept
begun r span rows kept count seen h kept_is seen_is there = omega (arith, h.before, kept_is, seen_is, one_column r.breach, there.positive, there.some, last_seen seen span.to)

-- the picture of a window is that of the rows that are asked for
pub reading_pictured : (names : List (List ℕ)) (span : Span) (r : Reading) (rows : List Event) (kept count seen last : ℕ) (certificates : List Certificate) (orphan : Option ℕ) (line text : List ℕ) (h : ReadingOf r span rows) → kept ≡ length h.kept → count ≡ r.count
    → seen ≡ rows_seen kept r.breach → HasRows count seen span → IsShort seen span → last ≡ last_row seen span.to
    → text ≡ picture_of names (take r.followed.last h.kept) r.followed.before (breach_drawn kept last r.breach) certificates orphan line → IsPictureTo names span rows (length h.kept) r.breach certificates orphan line text
reading_pictured names span r rows kept count seen last certificates orphan line text h kept_is count_is seen_is there short last_is text_is =
    let read : IsReadTo rows kept r.breach = subst (λ (n : ℕ). IsReadTo rows n r.breach) (sym kept_is) h.read in
    let front : take kept rows ≡ h.kept = ap (λ (n : ℕ). take n rows) kept_is ∙ h.front in
    let before = first_row span.from - 1 in
    let some : before < last_row seen span.to = omega (arith, there.positive, there.some) in
    let few : last_row seen span.to < before + 1 + most_columns = omega (arith, there.positive, short) in
    let more : kept ≤ seen = omega (arith, seen_is) in
    let shown : take r.followed.last h.kept ≡ take (rows_drawn kept last) rows =
    ap (λ (n : ℕ). take n h.kept) h.last
    ∙ drawn_rows kept seen before span.to rows h.kept front (sym kept_is) more some few
    ∙ ap (λ (n : ℕ). take (rows_drawn kept n) rows) (sym last_is) in
    subst (λ (n : ℕ). IsPictureTo names span rows n r.breach certificates orphan line text) kept_is
    (pictured names span rows kept count seen r.breach read (count_is ∙ h.count) seen_is certificates orphan line (first_row span.from) last text refl last_is there short
    (text_is ∙ (λ j. picture_of names (shown j) (h.before j) (breach_drawn kept last r.breach) certificates orphan line)))

-- the first rows of a list, taken by their count
front_again : (n : ℕ) (rows : List Event) → take (length (take n rows)) rows ≡ take n rows
front_again zero rows = refl
front_again (suc n) [] = refl
front_again (suc n) (row ∷ rows) = ap (λ (l : List Event). row ∷ l) (front_again n rows)

-- the rows that were read begin with those up to a window's end
pub rows_for : (rows read kept : List Event) (last : ℕ) (certificates : List Certificate) → take (length kept) read ≡ kept → AreRowsRead rows read certificates → HasRowsFor rows (take last kept) certificates
rows_for rows read kept last certificates front (inr none) = inr none
rows_for rows read kept last certificates front (inl same) =
    let count = length (take last kept) in
    let few : count ≤ length kept = omega (arith, length-take last kept) in
    inl (ap (take count) same ∙ sym (take-take count (length kept) read few) ∙ ap (take count) front ∙ front_again last kept)

-- where there is no such window, there is no such picture
pub reading_undrawn : (span : Span) (r : Reading) (rows : List Event) (kept count seen : ℕ) (why : PictureFault) (h : ReadingOf r span rows) → kept ≡ length h.kept → count ≡ r.count → seen ≡ rows_seen kept r.breach → IsNoWindow count seen span why
    → IsNoPicture span rows why
reading_undrawn span r rows kept count seen why h kept_is count_is seen_is none =
    not_pictured [] span rows kept count seen r.breach (subst (λ (n : ℕ). IsReadTo rows n r.breach) (sym kept_is) h.read) (count_is ∙ h.count) seen_is why none

-- the row that breaks a rule, where it is one of the picture, and where it is none
pub drawn_then : (kept last : ℕ) (breach drawn : Option BrokenRow) → kept < last → drawn ≡ breach → drawn ≡ breach_drawn kept last breach
drawn_then kept last breach drawn low is =
    let test : nat_lt kept last ≡ true = grind (arith, nat_tests) in
    is ∙ ap (λ (b : Bool). if b then breach else None) (sym test)

pub drawn_else : (kept last : ℕ) (breach drawn : Option BrokenRow) → last ≤ kept → drawn ≡ None → drawn ≡ breach_drawn kept last breach
drawn_else kept last breach drawn high is =
    let test : nat_lt kept last ≡ false = grind (arith, nat_tests) in
    is ∙ ap (λ (b : Bool). if b then breach else None) (sym test)
