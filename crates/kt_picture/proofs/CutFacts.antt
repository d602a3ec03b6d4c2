-- Where permanent positions stand, row by row.
use Rattle.std.proofs.Common.{◌≡◌, ◌≢◌, ◌∙◌, ◌<◌, ◌≤◌, ◌+◌, ◌-◌, inl, inr, ℕ, suc, Bool, true, false, Option, Some, None, List, length, refl, sym, ap, subst, take, arith}
use Rattle.std.specs.Prelude.{slice_get, is_some, if◌then◌else◌, ◌==◌, unwrap_or}
use Rattle.std.proofs.lemmas.Bool.{cases_eq}
use Rattle.std.proofs.lemmas.Bool.Decides.{nat_tests}
use Rattle.kt_spacetime.specs.declared.event.Event.{Event}
use Rattle.kt_spacetime.specs.declared.event.Event.TheVariants.{Sent, Received, Dropped, Began, Took, Ready, Unwilling, Decided, Closed, Failed, Refused}
use Rattle.kt_meaning.specs.Past.{Past, past, after, at_one, at_pair}
use Rattle.kt_meaning.specs.Legal.{IsLegal, broken_rule}
use Rattle.kt_meaning.specs.Messages.{row_at}
use Rattle.kt_meaning.proofs.Items.{take_item, some_same}
use Rattle.kt_meaning.proofs.LegalLogs.{past_push, legal_take, next_unbroken}
use Rattle.kt_meaning.proofs.Positions.{Positions, positions}
use Rattle.kt_meaning.proofs.RowRules.{may_take, may_get_ready, may_decide}
use Rattle.kt_meaning.proofs.Shown.{at_same, at_other}
use Rattle.kt_picture.proofs.DecisionFacts.{Decides, now, kept, decides, decision_stays}

-- the last `took` row of a process among the first so many, with its instance, its position and its column
pub record LatestTook (rows : List Event) (before q m k n t : ℕ) : Type 0 where
  pub row : ℕ
  pub took : row_at rows row ≡ Some (Took q k)
  pub within : row ≤ m
  pub none_later : (i j : ℕ) → row < i → i ≤ m → row_at rows i ≡ Some (Took q j) → ⊥
  pub column : t ≡ row - before
  pub position : n ≡ length ((past (take (row - 1) rows)).live q)

-- where its permanent position stands, and in which column
pub data Standing (rows : List Event) (before q m : ℕ) (s : Past) (c : ℕ) : Type 0 where
  never : ((i k : ℕ) → i ≤ m → row_at rows i ≡ Some (Took q k) → s.decision k ≢ Some true) → c ≡ 0 → s.permanent q ≡ 0 → Standing rows before q m s c
  last : (row k : ℕ) → row_at rows row ≡ Some (Took q k) → row ≤ m → s.decision k ≡ Some true
      → ((i j : ℕ) → row < i → i ≤ m → row_at rows i ≡ Some (Took q j) → s.decision j ≢ Some true) → c ≡ row - before → s.permanent q ≡ length ((past (take (row - 1) rows)).live q)
      → Standing rows before q m s c

-- what is so of a process after the first so many rows, with these columns of its last `took` row and of its permanent position
pub record Stands (rows : List Event) (before q m : ℕ) (s : Past) (t c : ℕ) : Type 0 where
  pub taken : (i k : ℕ) → i ≤ m → row_at rows i ≡ Some (Took q k) → is_some (s.new k q) ≡ true
  pub latest : (k n : ℕ) → s.open_in q ≡ Some k → s.new k q ≡ Some n → LatestTook rows before q m k n t
  pub standing : Standing rows before q m s c

-- these columns after one more row
abbrev pub taken_next : ℕ → ℕ → ℕ → Event → ℕ → ℕ
taken_next before q m (Took p k) t = if q == p then suc m - before else t
taken_next before q m _ t = t

abbrev pub place_next : Past → ℕ → Event → ℕ → ℕ → ℕ
place_next s q (Decided p k true) t c = if is_some (s.new k q) then t else c
place_next s q _ t c = c

taken_stays : (s : Past) (row : Event) (k q : ℕ) → is_some (s.new k q) ≡ true → is_some ((after s row).new k q) ≡ true
taken_stays s (Took p j) k q e = grind (arith, nat_tests, e)
taken_stays s (Sent p to body) k q e = e
taken_stays s (Received p from msg) k q e = e
taken_stays s (Dropped p from msg) k q e = e
taken_stays s (Began p j kind) k q e = e
taken_stays s (Ready p j) k q e = e
taken_stays s (Unwilling p j cause) k q e = e
taken_stays s (Decided p j commit) k q e = e
taken_stays s (Closed p j) k q e = e
taken_stays s (Failed p) k q e = e
taken_stays s (Refused p verb cause) k q e = e

at_own : (k p : ℕ) (x : Option ℕ) (f : ℕ → ℕ → Option ℕ) → at_pair k p x f k p ≡ x
at_own k p x f = grind (arith, nat_tests)

took_now : (s : Past) (k q : ℕ) → is_some ((after s (Took q k)).new k q) ≡ true
took_now s k q = grind (arith, nat_tests)

-- the next row, by its number
same_row : (rows : List Event) (i m : ℕ) (row x : Event) → i ≡ suc m → row_at rows (suc m) ≡ Some row → row_at rows i ≡ Some x → row ≡ x
same_row rows i m row x here at e = some_same (sym at ∙ ap (row_at rows) (sym here) ∙ e)

-- no later row took a checkpoint, nor does the next one
later_latest : (rows : List Event) (before q m k n t u : ℕ) (row : Event) → row_at rows (suc m) ≡ Some row → ((j : ℕ) → row ≡ Took q j → ⊥) → u ≡ t
    → LatestTook rows before q m k n t → LatestTook rows before q (suc m) k n u
later_latest rows before q m k n t u row at other same h = record {
  row = h.row;
  took = h.took;
  within = omega (arith, h.within);
  none_later = λ i j low high e. elim (cases_eq i (suc m)) [
    | inl here ↦ other j (same_row rows i m row (Took q j) here at e)
    | inr n ↦ h.none_later i j low (omega (arith, high)) e
  ];
  column = same ∙ h.column;
  position = h.position;
}

latest_next : (rows : List Event) (before q m : ℕ) (s : Past) (t c : ℕ) (row : Event) → s ≡ past (take m rows) → row_at rows (suc m) ≡ Some row → broken_rule s row ≡ None
    → Stands rows before q m s t c → (k n : ℕ) → (after s row).open_in q ≡ Some k → (after s row).new k q ≡ Some n → LatestTook rows before q (suc m) k n (taken_next before q m row t)
latest_next rows before q m s t c (Took p j) is at unbroken h k n o e = elim (cases_eq q p) [
  | inl same ↦
      let inside : at_one p (Some j) s.open_in q ≡ Some j = ap (at_one p (Some j) s.open_in) same ∙ at_same p (Some j) s.open_in in
      let instance : j ≡ k = some_same (sym inside ∙ o) in
      let number : suc m - 1 ≡ m = omega arith in
      let new : at_pair j p (Some (length (s.live p))) s.new j p ≡ Some n = (λ i. at_pair j p (Some (length (s.live p))) s.new (instance i) (sym same i)) ∙ e in
      record {
        row = suc m;
        took = at ∙ (λ i. Some (Took (sym same i) (instance i)));
        within = omega arith;
        none_later = λ i j2 low high f. absurd (omega arith);
        column = ap (λ (b : Bool). if b then suc m - before else t) (let b : (q == p) ≡ true = grind (arith, nat_tests, same) in b);
        position = some_same (sym new ∙ at_own j p (Some (length (s.live p))) s.new) ∙ (λ i. length ((is i).live (sym same i))) ∙ ap (λ (l : List Event). length ((past l).live q)) (ap (λ (i : ℕ). take i rows) (sym number));
      }
  | inr other ↦
      later_latest rows before q m k n t (taken_next before q m (Took p j) t) (Took p j) at (λ i f. other (let r : q ≡ p = cc in r))
      (ap (λ (b : Bool). if b then suc m - before else t) (let b : (q == p) ≡ false = grind (arith, nat_tests, other) in b))
      (h.latest k n (sym (at_other p q (Some j) s.open_in other) ∙ o) (grind (arith, nat_tests, other, e)))
]
latest_next rows before q m s t c (Ready p j) is at unbroken h k n o e = elim (cases_eq q p) [
  | inl same ↦
      let inside : at_one p (Some j) s.open_in q ≡ Some j = ap (at_one p (Some j) s.open_in) same ∙ at_same p (Some j) s.open_in in
      let instance : j ≡ k = some_same (sym inside ∙ o) in
      let may = may_get_ready s p j unbroken in
      let none : s.new k q ≡ None = (λ i. s.new (sym instance i) (same i)) ∙ may.not_new in
      absurd (cc)
  | inr other ↦ later_latest rows before q m k n t t (Ready p j) at (λ i f. absurd (cc)) refl (h.latest k n (sym (at_other p q (Some j) s.open_in other) ∙ o) e)
]
latest_next rows before q m s t c (Closed p j) is at unbroken h k n o e = elim (cases_eq q p) [
  | inl same ↦
      let closed : at_one p None s.open_in q ≡ None = ap (at_one p None s.open_in) same ∙ at_same p None s.open_in in
      absurd (let none : None ≡ Some k = sym closed ∙ o in cc)
  | inr other ↦ later_latest rows before q m k n t t (Closed p j) at (λ i f. absurd (cc)) refl (h.latest k n (sym (at_other p q None s.open_in other) ∙ o) e)
]
latest_next rows before q m s t c (Sent p to body) is at unbroken h k n o e = later_latest rows before q m k n t t (Sent p to body) at (λ i f. absurd (cc)) refl (h.latest k n o e)
latest_next rows before q m s t c (Received p from msg) is at unbroken h k n o e = later_latest rows before q m k n t t (Received p from msg) at (λ i f. absurd (cc)) refl (h.latest k n o e)
latest_next rows before q m s t c (Dropped p from msg) is at unbroken h k n o e = later_latest rows before q m k n t t (Dropped p from msg) at (λ i f. absurd (cc)) refl (h.latest k n o e)
latest_next rows before q m s t c (Began p j kind) is at unbroken h k n o e = later_latest rows before q m k n t t (Began p j kind) at (λ i f. absurd (cc)) refl (h.latest k n o e)
latest_next rows before q m s t c (Unwilling p j cause) is at unbroken h k n o e = later_latest rows before q m k n t t (Unwilling p j cause) at (λ i f. absurd (cc)) refl (h.latest k n o e)
latest_next rows before q m s t c (Decided p j commit) is at unbroken h k n o e = later_latest rows before q m k n t t (Decided p j commit) at (λ i f. absurd (cc)) refl (h.latest k n o e)
latest_next rows before q m s t c (Failed p) is at unbroken h k n o e = later_latest rows before q m k n t t (Failed p) at (λ i f. absurd (cc)) refl (h.latest k n o e)
latest_next rows before q m s t c (Refused p verb cause) is at unbroken h k n o e = later_latest rows before q m k n t t (Refused p verb cause) at (λ i f. absurd (cc)) refl (h.latest k n o e)

-- an instance of a `took` row that is committed after one more row was committed before it, where that row commits none of this process
was_committed : (rows : List Event) (before q m : ℕ) (s : Past) (t c : ℕ) (row : Event) → row_at rows (suc m) ≡ Some row → broken_rule s row ≡ None → Stands rows before q m s t c
    → ((p k : ℕ) → row ≡ Decided p k true → s.new k q ≡ None) → (i k : ℕ) → i ≤ suc m → row_at rows i ≡ Some (Took q k) → (after s row).decision k ≡ Some true → (s.decision k ≡ Some true) × (i ≤ m)
was_committed rows before q m s t c row at unbroken h none i k high took e = at_row (decides s row k)
  where
    earlier : (row ≡ Took q k → ⊥) → i ≤ m
    earlier other = elim (cases_eq i (suc m)) [
      | inl here ↦ absurd (other (same_row rows i m row (Took q k) here at took))
      | inr n ↦ omega (arith, high)
    ]

    at_row : Decides s row k → (s.decision k ≡ Some true) × (i ≤ m)
    at_row (kept same) =
        let was : s.decision k ≡ Some true = sym same ∙ e in
        (was, earlier (λ is. let may = may_take s q k (subst (λ (x : Event). broken_rule s x ≡ None) is unbroken) in let undecided : s.decision k ≡ None = may.undecided in absurd (cc)))
    at_row (now p commit is so) =
        let yes : commit ≡ true = cc in
        let commits : row ≡ Decided p k true = is ∙ ap (Decided p k) yes in
        let member : is_some (s.new k q) ≡ true = h.taken i k (earlier (λ took. absurd (cc))) took in
        let not_member : s.new k q ≡ None = none p k commits in
        absurd (let no : is_some (s.new k q) ≡ false = ap is_some not_member in cc)

-- its permanent position stays where others row commits an instance of it
standing_stays : (rows : List Event) (before q m : ℕ) (s : Past) (t c d : ℕ) (row : Event) → row_at rows (suc m) ≡ Some row → broken_rule s row ≡ None → Stands rows before q m s t c
    → ((p k : ℕ) → row ≡ Decided p k true → s.new k q ≡ None) → (after s row).permanent q ≡ s.permanent q → d ≡ c → Standing rows before q (suc m) (after s row) d
standing_stays rows before q m s t c d row at unbroken h none same column = at_place h.standing
  where
    at_place : Standing rows before q m s c → Standing rows before q (suc m) (after s row) d
    at_place (never others first zero_position) =
        never (λ i k high took e. let was = was_committed rows before q m s t c row at unbroken h none i k high took e in others i k was.1 took was.0) (column ∙ first) (same ∙ zero_position)
    at_place (last r k took within committed others place position) =
        last r k took (omega (arith, within)) (decision_stays s row k true unbroken committed)
        (λ i j low high later e. let was = was_committed rows before q m s t c row at unbroken h none i j high later e in others i j low was.1 later was.0) (column ∙ place) (same ∙ position)

-- the commit of its instance makes its new position permanent
standing_moves : (rows : List Event) (before q m : ℕ) (s : Past) (t c p k n : ℕ) → Positions s → broken_rule s (Decided p k true) ≡ None → row_at rows (suc m) ≡ Some (Decided p k true)
    → Stands rows before q m s t c → s.new k q ≡ Some n → Standing rows before q (suc m) (after s (Decided p k true)) t
standing_moves rows before q m s t c p k n g unbroken at h new =
    let may = may_decide s p k true unbroken in
    let v = later_latest rows before q m k n t t (Decided p k true) at (λ i f. absurd (cc)) refl (h.latest k n (g.took_inside q k n may.undecided new) new) in
    last v.row k v.took v.within (at_same k (Some true) s.decision) (λ i j low high later e. v.none_later i j low high later) v.column (ap (λ (o : Option ℕ). unwrap_or o (s.permanent q)) new ∙ v.position)

standing_next : (rows : List Event) (before q m : ℕ) (s : Past) (t c : ℕ) (row : Event) → Positions s → row_at rows (suc m) ≡ Some row → broken_rule s row ≡ None
    → Stands rows before q m s t c → Standing rows before q (suc m) (after s row) (place_next s q row t c)
standing_next rows before q m s t c (Decided p k true) g at unbroken h = at_new (s.new k q) refl
  where
    at_new : (o : Option ℕ) → s.new k q ≡ o → Standing rows before q (suc m) (after s (Decided p k true)) (place_next s q (Decided p k true) t c)
    at_new (Some n) new =
        subst (Standing rows before q (suc m) (after s (Decided p k true))) (ap (λ (o : Option ℕ). if is_some o then t else c) (sym new)) (standing_moves rows before q m s t c p k n g unbroken at h new)
    at_new None new =
        standing_stays rows before q m s t c (place_next s q (Decided p k true) t c) (Decided p k true) at unbroken h
        (λ r j is. let same : k ≡ j = cc in ap (λ (i : ℕ). s.new i q) (sym same) ∙ new)
        (ap (λ (o : Option ℕ). unwrap_or o (s.permanent q)) new) (ap (λ (o : Option ℕ). if is_some o then t else c) new)
standing_next rows before q m s t c (Decided p k false) g at unbroken h = standing_stays rows before q m s t c c (Decided p k false) at unbroken h (λ r j is. absurd (cc)) refl refl
standing_next rows before q m s t c (Sent p to body) g at unbroken h = standing_stays rows before q m s t c c (Sent p to body) at unbroken h (λ r j is. absurd (cc)) refl refl
standing_next rows before q m s t c (Received p from msg) g at unbroken h = standing_stays rows before q m s t c c (Received p from msg) at unbroken h (λ r j is. absurd (cc)) refl refl
standing_next rows before q m s t c (Dropped p from msg) g at unbroken h = standing_stays rows before q m s t c c (Dropped p from msg) at unbroken h (λ r j is. absurd (cc)) refl refl
standing_next rows before q m s t c (Began p k kind) g at unbroken h = standing_stays rows before q m s t c c (Began p k kind) at unbroken h (λ r j is. absurd (cc)) refl refl
standing_next rows before q m s t c (Took p k) g at unbroken h = standing_stays rows before q m s t c c (Took p k) at unbroken h (λ r j is. absurd (cc)) refl refl
standing_next rows before q m s t c (Ready p k) g at unbroken h = standing_stays rows before q m s t c c (Ready p k) at unbroken h (λ r j is. absurd (cc)) refl refl
standing_next rows before q m s t c (Unwilling p k cause) g at unbroken h = standing_stays rows before q m s t c c (Unwilling p k cause) at unbroken h (λ r j is. absurd (cc)) refl refl
standing_next rows before q m s t c (Closed p k) g at unbroken h = standing_stays rows before q m s t c c (Closed p k) at unbroken h (λ r j is. absurd (cc)) refl refl
standing_next rows before q m s t c (Failed p) g at unbroken h = standing_stays rows before q m s t c c (Failed p) at unbroken h (λ r j is. absurd (cc)) refl refl
standing_next rows before q m s t c (Refused p verb cause) g at unbroken h = standing_stays rows before q m s t c c (Refused p verb cause) at unbroken h (λ r j is. absurd (cc)) refl refl

stands_after : (rows : List Event) (before q m : ℕ) (s : Past) (t c : ℕ) (row : Event) → Positions s → s ≡ past (take m rows) → row_at rows (suc m) ≡ Some row → broken_rule s row ≡ None
    → Stands rows before q m s t c → Stands rows before q (suc m) (after s row) (taken_next before q m row t) (place_next s q row t c)
stands_after rows before q m s t c row g is at unbroken h = record {
  taken = λ i k high took. elim (cases_eq i (suc m)) [
    | inl here ↦ subst (λ (x : Event). is_some ((after s x).new k q) ≡ true) (sym (same_row rows i m row (Took q k) here at took)) (took_now s k q)
    | inr n ↦ taken_stays s row k q (h.taken i k (omega (arith, high)) took)
  ];
  latest = latest_next rows before q m s t c row is at unbroken h;
  standing = standing_next rows before q m s t c row g at unbroken h;
}

-- the same after the rows of a legal log
abbrev pub StandsAt : List Event → ℕ → ℕ → ℕ → ℕ → ℕ → Type 0
StandsAt rows before q m t c = Stands rows before q m (past (take m rows)) t c

pub stands_next : (rows : List Event) (before q m t c : ℕ) (row : Event) → IsLegal rows → slice_get rows m ≡ Some row → StandsAt rows before q m t c
    → StandsAt rows before q (suc m) (taken_next before q m row t) (place_next (past (take m rows)) q row t c)
stands_next rows before q m t c row l at h =
    let next : past (take (suc m) rows) ≡ after (past (take m rows)) row = ap past (take_item rows m (suc m) row (let n : suc m ≡ m + 1 = omega arith in n) at) ∙ past_push (take m rows) row in
    subst (λ (s : Past). Stands rows before q (suc m) s (taken_next before q m row t) (place_next (past (take m rows)) q row t c)) (sym next)
    (stands_after rows before q m (past (take m rows)) t c row (positions (take m rows) (legal_take m rows l)) refl at (next_unbroken rows m row l at) h)

pub stands_start : (rows : List Event) (before q : ℕ) → StandsAt rows before q 0 0 0
stands_start rows before q = record {
  taken = λ i k low took. absurd (let none : i ≡ 0 = omega (arith, low) in let e = subst (λ (n : ℕ). row_at rows n ≡ Some (Took q k)) none took in cc);
  latest = λ k n o e. absurd (cc);
  standing = never (λ i k low took e. absurd (cc)) refl refl;
}
