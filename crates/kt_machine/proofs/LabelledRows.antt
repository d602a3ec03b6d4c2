-- What a log says of labels, row by row.
use Rattle.std.proofs.Common.{◌≡◌, ℕ, ℤ, zero, suc, ◌+◌, ◌≤◌, ◌<◌, Bool, true, false, List, [], ◌∷◌, ◌++◌, length, refl, arith, sym, ap, ap₂, subst, ◌∙◌, inl, inr, ◌⊎◌, Some, append-nil, append_assoc}
use Rattle.std.specs.Prelude.{◌==◌, if◌then◌else◌, take}
use Rattle.std.proofs.lemmas.Bool.{cases_eq}
use Rattle.std.proofs.lemmas.Grind.{fold-append}
use Rattle.std.proofs.lemmas.List.{take-append-le, take_all}
use Rattle.std.proofs.lemmas.Option.{slice_get_within}
use Rattle.kt_spacetime.specs.declared.event.Event.{Event}
use Rattle.kt_spacetime.specs.declared.event.Event.TheVariants.{Sent, Received, Dropped, Began, Took, Ready, Unwilling, Decided, Closed, Failed, Refused}
use Rattle.kt_meaning.specs.Past.{at_one}
use Rattle.kt_meaning.specs.Messages.{row_at}
use Rattle.kt_protocol.proofs.EachRow.{get-push, get-push_old, get-push_new}
use Rattle.kt_protocol.proofs.Updates.{is_same, is_other, at_one_here, at_one_other}
use Rattle.kt_protocol.specs.Summary.{Summary, summary_after, summary_committed}
use Rattle.kt_machine.specs.Labelling.{Labelling, labelling_after, LabelledLog, labelled_after, labelled_start, labelled_log}
use Rattle.kt_machine.specs.Messages.{is_send_of, sends_of}
use Rattle.kt_machine.proofs.SameSeen.{length_push}

pub record HasLabelledRows (first : ℕ) (log : List Event) (rows : ℕ) (from to used label : ℕ → ℕ) (body : ℕ → ℤ) : Type 0 where
  pub rows_are : rows ≡ length log
  pub used_is : (p : ℕ) → used p ≡ first + sends_of p log
  pub back : (m : ℕ) → 0 < label m → (row_at log m ≡ Some (Sent (from m) (to m) (body m))) × (label m ≡ first + sends_of (from m) (take m log)) × (m ≤ length log)
  pub forth : (m p q : ℕ) (b : ℤ) → row_at log m ≡ Some (Sent p q b) → 0 < label m

abbrev pub one : Bool → ℕ
one b = if b then 1 else 0

pub sends_append : (p : ℕ) (xs ys : List Event) → sends_of p (xs ++ ys) ≡ sends_of p xs + sends_of p ys
sends_append p [] ys = omega arith
sends_append p (x ∷ xs) ys = let h = sends_append p xs ys in omega (arith, h)

row_old : (log : List Event) (row : Event) (m : ℕ) (y : Event) → row_at log m ≡ Some y → row_at (log ++ row ∷ []) m ≡ Some y
row_old log row zero y e = absurd (cc (e))
row_old log row (suc i) y e = get-push_old log row i y e

row_new : (log : List Event) (row : Event) (m : ℕ) → m ≡ suc (length log) → row_at (log ++ row ∷ []) m ≡ Some row
row_new log row m e = ap (row_at (log ++ row ∷ [])) e ∙ get-push_new log row

row_cases : (log : List Event) (row : Event) (m : ℕ) (y : Event) → row_at (log ++ row ∷ []) m ≡ Some y → ((row_at log m ≡ Some y) × (m ≤ length log)) ⊎ ((m ≡ suc (length log)) × (row ≡ y))
row_cases log row zero y e = absurd (cc (e))
row_cases log row (suc i) y e = elim (get-push log row i y e) [
  | inl a ↦ inl (a, (let l = slice_get_within log i y a in omega (arith, l)))
  | inr b ↦ inr (ap suc b.0, b.1)
]

module _ (first : ℕ) (log : List Event) (rows : ℕ) (from to used label : ℕ → ℕ) (body : ℕ → ℤ) (r : HasLabelledRows first log rows from to used label body) where
  rowed_quiet : (row : Event) → ((p : ℕ) → is_send_of p row ≡ false) → ((p q : ℕ) (b : ℤ) → row ≡ Sent p q b → ⊥) → HasLabelledRows first (log ++ row ∷ []) (rows + 1) from to used label body
  rowed_quiet row n x = record {
    rows_are = ap (λ (y : ℕ). y + 1) r.rows_are ∙ sym (length_push log row);
    used_is = λ p. (let y = sends_append p log (row ∷ []) in let z = r.used_is p in let w : one (is_send_of p row) ≡ 0 = ap one (n p) in omega (arith, y, z, w));
    back = λ m a. let b = r.back m a in (row_old log row m _ b.0, b.1 ∙ ap (λ (l : List Event). first + sends_of (from m) l) (sym (take-append-le m log (row ∷ []) b.2)), (let y = length_push log row in let z = b.2 in omega (arith, y, z)));
    forth = λ m p q b e. elim (row_cases log row m (Sent p q b) e) [ inl y ↦ r.forth m p q b y.0 | inr y ↦ absurd (x p q b y.1) ];
  }

  rowed_sent : (p q : ℕ) (b : ℤ) → HasLabelledRows first (log ++ Sent p q b ∷ []) (rows + 1) (at_one (rows + 1) p from) (at_one (rows + 1) q to) (at_one p (used p + 1) used) (at_one (rows + 1) (used p + 1) label) (at_one (rows + 1) b body)
  rowed_sent p q b = record {
    rows_are = ap (λ (y : ℕ). y + 1) r.rows_are ∙ sym (length_push log (Sent p q b));
    used_is = λ u. elim (cases_eq u p) [
      | inl e ↦ (let y = more u in let z = r.used_is p in let w : one (p == u) ≡ 1 = ap (λ (x : ℕ). one (p == x)) e ∙ ap one (is_same p) in
          let v : at_one p (used p + 1) used u ≡ used p + 1 = ap (at_one p (used p + 1) used) e ∙ at_one_here p (used p + 1) used in
          let s : sends_of u log ≡ sends_of p log = ap (λ (x : ℕ). sends_of x log) e in omega (arith, y, z, w, v, s))
      | inr n ↦ (let y = more u in let z = r.used_is u in let w : one (p == u) ≡ 0 = ap one (is_other p u (λ e. absurd (n (sym e)))) in
          let v = at_one_other p u (used p + 1) used n in omega (arith, y, z, w, v))
    ];
    back = λ m a. elim (cases_eq m (rows + 1)) [
      | inl e ↦ now m e
      | inr n ↦ (
          let lab = at_one_other (rows + 1) m (used p + 1) label n in
          let c = r.back m (subst (λ (x : ℕ). 0 < x) lab a) in
          let f = at_one_other (rows + 1) m p from n in (
            row_old log (Sent p q b) m _ c.0 ∙ (ap₂ (λ (x : ℕ) (y : ℕ × ℤ). Some (Sent x y.0 y.1)) (sym f) (ap₂ (λ (x : ℕ) (y : ℤ). (x, y)) (sym (at_one_other (rows + 1) m q to n)) (sym (at_one_other (rows + 1) m b body n)))),
            lab ∙ (c.1 ∙ (ap (λ (l : List Event). first + sends_of (from m) l) (sym (take-append-le m log (Sent p q b ∷ []) c.2)) ∙ ap (λ (x : ℕ). first + sends_of x (take m (log ++ Sent p q b ∷ []))) (sym f))),
            (let y = length_push log (Sent p q b) in let z = c.2 in omega (arith, y, z)),
          ))
    ];
    forth = λ m u v z e. elim (row_cases log (Sent p q b) m (Sent u v z) e) [
      | inl y ↦ subst (λ (x : ℕ). 0 < x) (sym (at_one_other (rows + 1) m (used p + 1) label (λ x. (let w = y.1 in let l = r.rows_are in absurd (omega (arith, x, w, l)))))) (r.forth m u v z y.0)
      | inr y ↦ subst (λ (x : ℕ). 0 < x) (sym (ap (at_one (rows + 1) (used p + 1) label) (numbered m y.0) ∙ at_one_here (rows + 1) (used p + 1) label)) (omega arith)
    ];
  }
    where
      more : (u : ℕ) → sends_of u (log ++ Sent p q b ∷ []) ≡ sends_of u log + (one (p == u) + 0)
      more u = sends_append u log (Sent p q b ∷ [])

      numbered : (m : ℕ) → m ≡ suc (length log) → m ≡ rows + 1
      numbered m e = let l = r.rows_are in omega (arith, e, l)

      now : (m : ℕ) → m ≡ rows + 1 → (row_at (log ++ Sent p q b ∷ []) m ≡ Some (Sent (at_one (rows + 1) p from m) (at_one (rows + 1) q to m) (at_one (rows + 1) b body m))) × (at_one (rows + 1) (used p + 1) label m ≡ first + sends_of (at_one (rows + 1) p from m) (take m (log ++ Sent p q b ∷ []))) × (m ≤ length (log ++ Sent p q b ∷ []))
      now m e =
          let l = r.rows_are in
          let s : m ≡ suc (length log) = omega (arith, e, l) in
          let f : at_one (rows + 1) p from m ≡ p = ap (at_one (rows + 1) p from) e ∙ at_one_here (rows + 1) p from in
          let g : at_one (rows + 1) q to m ≡ q = ap (at_one (rows + 1) q to) e ∙ at_one_here (rows + 1) q to in
          let h : at_one (rows + 1) b body m ≡ b = ap (at_one (rows + 1) b body) e ∙ at_one_here (rows + 1) b body in
          let y = length_push log (Sent p q b) in
          let k : at_one (rows + 1) (used p + 1) label m ≡ used p + 1 = ap (at_one (rows + 1) (used p + 1) label) e ∙ at_one_here (rows + 1) (used p + 1) label in
          let z : take m (log ++ Sent p q b ∷ []) ≡ log ++ Sent p q b ∷ [] = take_all m (log ++ Sent p q b ∷ []) (omega (arith, s, y)) in
          let c : sends_of p (log ++ Sent p q b ∷ []) ≡ sends_of p log + 1 = counted in
          let u = r.used_is p in
          let t : used p + 1 ≡ first + sends_of p (log ++ Sent p q b ∷ []) = omega (arith, c, u) in (
            row_new log (Sent p q b) m s ∙ ap₂ (λ (x : ℕ) (w : ℕ × ℤ). Some (Sent x w.0 w.1)) (sym f) (ap₂ (λ (x : ℕ) (w : ℤ). (x, w)) (sym g) (sym h)),
            k ∙ (t ∙ ap₂ (λ (x : ℕ) (w : List Event). first + sends_of x w) (sym f) (sym z)),
            omega (arith, s, y),
          )
        where
          counted : sends_of p (log ++ Sent p q b ∷ []) ≡ sends_of p log + 1
          counted = more p ∙ (ap (λ (c : Bool). sends_of p log + (one c + 0)) (is_same p) ∙ omega arith)

  decided_rows : (roll : Bool) (h : Summary) (t : Labelling) (p k : ℕ) → h.rows ≡ rows → h.from ≡ from → h.to ≡ to → HasLabelledRows first (log ++ Decided p k true ∷ []) (summary_committed roll h k).rows (summary_committed roll h k).from (summary_committed roll h k).to used label body
  decided_rows true h t p k a b c = subst (λ (x : ℕ). HasLabelledRows first (log ++ Decided p k true ∷ []) (x + 1) h.from h.to used label body) (sym a) (subst (λ (x : ℕ → ℕ). HasLabelledRows first (log ++ Decided p k true ∷ []) (rows + 1) x h.to used label body) (sym b) (subst (λ (x : ℕ → ℕ). HasLabelledRows first (log ++ Decided p k true ∷ []) (rows + 1) from x used label body) (sym c) (rowed_quiet (Decided p k true) (λ u. refl) (λ u v z e. absurd (cc (e))))))
  decided_rows false h t p k a b c = subst (λ (x : ℕ). HasLabelledRows first (log ++ Decided p k true ∷ []) (x + 1) h.from h.to used label body) (sym a) (subst (λ (x : ℕ → ℕ). HasLabelledRows first (log ++ Decided p k true ∷ []) (rows + 1) x h.to used label body) (sym b) (subst (λ (x : ℕ → ℕ). HasLabelledRows first (log ++ Decided p k true ∷ []) (rows + 1) from x used label body) (sym c) (rowed_quiet (Decided p k true) (λ u. refl) (λ u v z e. absurd (cc (e))))))

abbrev pub HasLabelledRowsAs : ℕ → List Event → Summary → Labelling → Type 0
HasLabelledRowsAs first log h t = HasLabelledRows first log h.rows h.from h.to t.used t.label t.body

rowed_row : (first : ℕ) (log : List Event) (h : Summary) (t : Labelling) (row : Event) → HasLabelledRowsAs first log h t → HasLabelledRowsAs first (log ++ row ∷ []) (summary_after h row) (labelling_after h t row)
rowed_row first log h t (Sent p q b) r = rowed_sent first log h.rows h.from h.to t.used t.label t.body r p q b
rowed_row first log h t (Received p q m) r = rowed_quiet first log h.rows h.from h.to t.used t.label t.body r (Received p q m) (λ u. refl) (λ u v z e. absurd (cc (e)))
rowed_row first log h t (Dropped p q m) r = rowed_quiet first log h.rows h.from h.to t.used t.label t.body r (Dropped p q m) (λ u. refl) (λ u v z e. absurd (cc (e)))
rowed_row first log h t (Began p k kind) r = rowed_quiet first log h.rows h.from h.to t.used t.label t.body r (Began p k kind) (λ u. refl) (λ u v z e. absurd (cc (e)))
rowed_row first log h t (Took p k) r = rowed_quiet first log h.rows h.from h.to t.used t.label t.body r (Took p k) (λ u. refl) (λ u v z e. absurd (cc (e)))
rowed_row first log h t (Ready p k) r = rowed_quiet first log h.rows h.from h.to t.used t.label t.body r (Ready p k) (λ u. refl) (λ u v z e. absurd (cc (e)))
rowed_row first log h t (Unwilling p k cause) r = rowed_quiet first log h.rows h.from h.to t.used t.label t.body r (Unwilling p k cause) (λ u. refl) (λ u v z e. absurd (cc (e)))
rowed_row first log h t (Decided p k false) r = rowed_quiet first log h.rows h.from h.to t.used t.label t.body r (Decided p k false) (λ u. refl) (λ u v z e. absurd (cc (e)))
rowed_row first log h t (Decided p k true) r = decided_rows first log h.rows h.from h.to t.used t.label t.body r (h.is_rollback k) h t p k refl refl refl
rowed_row first log h t (Closed p k) r = rowed_quiet first log h.rows h.from h.to t.used t.label t.body r (Closed p k) (λ u. refl) (λ u v z e. absurd (cc (e)))
rowed_row first log h t (Failed p) r = rowed_quiet first log h.rows h.from h.to t.used t.label t.body r (Failed p) (λ u. refl) (λ u v z e. absurd (cc (e)))
rowed_row first log h t (Refused p verb cause) r = rowed_quiet first log h.rows h.from h.to t.used t.label t.body r (Refused p verb cause) (λ u. refl) (λ u v z e. absurd (cc (e)))

-- of each log
by_rows : (P : List Event → Type 0) → P [] → ((log : List Event) (row : Event) → P log → P (log ++ row ∷ [])) → (log : List Event) → P log
by_rows P none more log = from [] log none
  where
    from : (front rest : List Event) → P front → P (front ++ rest)
    from front [] h = subst P (sym (append-nil front)) h
    from front (c ∷ rest) h = subst P (append_assoc front (c ∷ []) rest) (from (front ++ c ∷ []) rest (more front c h))

pub labelled_rows : (first : ℕ) (log : List Event) → HasLabelledRowsAs first log (labelled_log first log).so_far (labelled_log first log).labels
labelled_rows first = by_rows (λ log. HasLabelledRowsAs first log (labelled_log first log).so_far (labelled_log first log).labels)
    (record { rows_are = refl; used_is = λ p. omega arith; back = λ m a. absurd (omega (arith, a)); forth = λ m p q b e. absurd (none m (Sent p q b) e) })
    (λ log row r. subst (λ (x : LabelledLog). HasLabelledRowsAs first (log ++ row ∷ []) x.so_far x.labels) (sym (fold-append labelled_after (labelled_start first) log (row ∷ []))) (rowed_row first log (labelled_log first log).so_far (labelled_log first log).labels row r))
  where
    none : (m : ℕ) (y : Event) → row_at [] m ≡ Some y → ⊥
    none zero y e = absurd (cc (e))
    none (suc i) y e = absurd (cc (e))
