-- A commit forgets as many kept messages as there were at the tentative checkpoint.
use Rattle.std.proofs.Common.{◌≡◌, ℕ, ◌+◌, ◌≤◌, Bool, true, false, Some, None, List, [], ◌∷◌, ◌++◌, length, take, drop, refl, arith, sym, ap, ap₂, subst, ◌∙◌}
use Rattle.std.specs.Prelude.{◌==◌, ◌&&◌, if◌then◌else◌}
use Rattle.std.proofs.lemmas.Bool.Decides.{nat_tests}
use Rattle.std.proofs.lemmas.Grind.{fold-append}
use Rattle.std.proofs.lemmas.List.{take-append-le, take_all}
use Rattle.kt_spacetime.specs.declared.event.Event.{Event}
use Rattle.kt_spacetime.specs.declared.event.Event.TheVariants.{Sent, Received, Dropped, Began, Took, Ready, Unwilling, Decided, Closed, Failed, Refused}
use Rattle.kt_spacetime.specs.declared.deeds.Deed.{Deed}
use Rattle.kt_spacetime.specs.declared.deeds.Deed.TheVariants as deed
use Rattle.kt_meaning.specs.Past.{Past, past, at_one}
use Rattle.kt_meaning.specs.Legal.{IsLegal, broken_rule}
use Rattle.kt_meaning.proofs.LegalLogs.{legal_log_induction}
use Rattle.kt_meaning.proofs.RowRules.{may_take, may_get_ready, MayTake}
use Rattle.kt_machine.specs.Done.{Done, done, done_after, done_start}
use Rattle.kt_protocol.specs.InTransit.{received_of}
use Rattle.kt_machine.specs.Marks.{Marked, mark_after, marked_after, marks}
use Rattle.kt_machine.proofs.DoneAlong.{done_past, done_more}
use Rattle.kt_machine.proofs.LegalFacts.{Sound, sound}

-- the mark of who is in a checkpoint
pub record MarkIs (d : Done) (mark : ℕ → ℕ → ℕ) : Type 0 where
  pub each : (p q k n : ℕ) → d.past.open_in p ≡ Some k → d.past.new k p ≡ Some n → mark p q ≡ length (received_of q (drop (d.permanent p) (take n (d.own p))))

same : (a b : ℕ) → (a == b) ≡ true → a ≡ b
same a b e = grind (arith, nat_tests)

pushed : (d : Done) → Sound d → (p u n : ℕ) (x : Deed) → n ≤ length (d.own u) → take n (at_one p (d.own p ++ x ∷ []) d.own u) ≡ take n (d.own u)
pushed d s p u n x l = go (u == p) refl
  where
    go : (b : Bool) → (u == p) ≡ b → take n (if b then d.own p ++ x ∷ [] else d.own u) ≡ take n (d.own u)
    go false e = refl
    go true e = ap (λ (v : ℕ). take n (d.own v ++ x ∷ [])) (sym (same u p e)) ∙ take-append-le n (d.own u) (x ∷ []) l

mark_took : (d : Done) (mark : ℕ → ℕ → ℕ) → Sound d → (p k : ℕ) → MayTake d.past p k → MarkIs d mark → MarkIs (done_after d (Took p k)) (mark_after (record { known = d; mark = mark }) (Took p k))
mark_took d mark s p k m i = record { each = λ u q j n o t. go u q j n (u == p) refl o t }
  where
    go : (u q j n : ℕ) (b : Bool) → (u == p) ≡ b → (if b then Some k else d.past.open_in u) ≡ Some j → (if (j == k) && b then Some (length (d.past.live p)) else d.past.new j u) ≡ Some n → (if b then (λ q. length (received_of q (drop (d.permanent p) (d.own p)))) else mark u) q ≡ length (received_of q (drop (d.permanent u) (take n (d.own u))))
    go u q j n false e o t = i.each u q j n o (flat (j == k) t)
      where
        flat : (x : Bool) → (if x && false then Some (length (d.past.live p)) else d.past.new j u) ≡ Some n → d.past.new j u ≡ Some n
        flat true t = t
        flat false t = t
    go u q j n true e o t =
        let x = same u p e in
        let h : k ≡ j = cc (o) in
        let h' : (j == k) ≡ true = grind (arith, nat_tests) in
        let t' : Some (length (d.past.live p)) ≡ Some n = rw h' at t in
        let l : length (d.past.live p) ≡ n = cc (t') in
        let w : length (d.own u) ≡ length (d.past.live p) = ap (λ (v : ℕ). length (d.own v)) x ∙ ap length (sym (s.owns.live_idle p m.idle)) in
        ap (λ (v : ℕ). length (received_of q (drop (d.permanent v) (d.own v)))) (sym x) ∙ ap (λ (z : List Deed). length (received_of q (drop (d.permanent u) z))) (sym (take_all n (d.own u) (omega (arith, l, w))))

mark_row : (d : Done) (mark : ℕ → ℕ → ℕ) → Sound d → (row : Event) → broken_rule d.past row ≡ None → MarkIs d mark → MarkIs (done_after d row) (mark_after (record { known = d; mark = mark }) row)
mark_row d mark s (Sent p to body) e i = record { each = λ u q k n o t. i.each u q k n o t ∙ ap (λ (z : List Deed). length (received_of q (drop (d.permanent u) z))) (sym (pushed d s p u n (deed.Sent (d.past.rows + 1) to) (s.bounds.taken_low u k n o t))) }
mark_row d mark s (Received p from msg) e i = record { each = λ u q k n o t. i.each u q k n o t ∙ ap (λ (z : List Deed). length (received_of q (drop (d.permanent u) z))) (sym (pushed d s p u n (deed.Received msg from) (s.bounds.taken_low u k n o t))) }
mark_row d mark s (Took p k) e i = mark_took d mark s p k (may_take d.past p k e) i
mark_row d mark s (Ready p k) e i = record { each = λ u q j n o t. go u q j n (u == p) refl o t }
  where
    go : (u q j n : ℕ) (b : Bool) → (u == p) ≡ b → (if b then Some k else d.past.open_in u) ≡ Some j → d.past.new j u ≡ Some n → mark u q ≡ length (received_of q (drop (d.permanent u) (take n (d.own u))))
    go u q j n false z o t = i.each u q j n o t
    go u q j n true z o t =
        let m = may_get_ready d.past p k e in
        let h : k ≡ j = cc (o) in
        let y : d.past.new k p ≡ Some n = ap₂ d.past.new h (sym (same u p z)) ∙ t in
        let no = m.not_new in
        absurd (cc (y, no))
mark_row d mark s (Closed p k) e i = record { each = λ u q j n o t. go u q j n (u == p) refl o t }
  where
    go : (u q j n : ℕ) (b : Bool) → (u == p) ≡ b → (if b then None else d.past.open_in u) ≡ Some j → d.past.new j u ≡ Some n → mark u q ≡ length (received_of q (drop ((done_after d (Closed p k)).permanent u) (take n ((done_after d (Closed p k)).own u))))
    go u q j n true z o t = absurd (cc (o))
    go u q j n false z o t = i.each u q j n o t ∙ sym (rw z refl)
mark_row d mark s (Decided p k true) e i = record { each = i.each }
mark_row d mark s (Decided p k false) e i = record { each = i.each }
mark_row d mark s (Began p k kind) e i = record { each = i.each }
mark_row d mark s (Dropped p from msg) e i = record { each = i.each }
mark_row d mark s (Unwilling p k cause) e i = record { each = i.each }
mark_row d mark s (Failed p) e i = record { each = i.each }
mark_row d mark s (Refused p v cause) e i = record { each = i.each }

record Right (log : List Event) : Type 0 where
  known : (marks log).known ≡ done log
  mark : MarkIs (done log) (marks log).mark

marks_more : (log : List Event) (row : Event) → marks (log ++ row ∷ []) ≡ marked_after (marks log) row
marks_more log row = fold-append marked_after (record { known = done_start; mark = λ p q. 0 }) log (row ∷ [])

pub marks_are : (log : List Event) → IsLegal log → MarkIs (done log) (marks log).mark
marks_are log l = (legal_log_induction Right (record { known = refl; mark = record { each = λ p q k n o t. absurd (cc (o)) } }) more log l).mark
  where
    more : (log : List Event) (row : Event) → IsLegal log → broken_rule (past log) row ≡ None → Right log → Right (log ++ row ∷ [])
    more log row l e i =
        let e' : broken_rule (done log).past row ≡ None = ap (λ (s : Past). broken_rule s row) (done_past log) ∙ e in
        let k : marks (log ++ row ∷ []) ≡ marked_after (record { known = done log; mark = (marks log).mark }) row = marks_more log row ∙ ap (λ (d : Done). marked_after (record { known = d; mark = (marks log).mark }) row) i.known in
        record {
          known = ap (λ (m : Marked). m.known) k ∙ sym (done_more log (row ∷ []));
          mark = subst (λ (m : Marked). MarkIs (done (log ++ row ∷ [])) m.mark) (sym k) (subst (λ (d : Done). MarkIs d (mark_after (record { known = done log; mark = (marks log).mark }) row)) (sym (done_more log (row ∷ []))) (mark_row (done log) (marks log).mark (sound log l) row e' i.mark));
        }
