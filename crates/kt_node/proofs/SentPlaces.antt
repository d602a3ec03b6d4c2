-- Where messages stand among those that their sender sent.
use Rattle.std.proofs.Common.{◌≡◌, ◌∙◌, ℕ, zero, suc, ◌+◌, Bool, true, false, Some, List, [], ◌∷◌, ◌++◌, inl, inr, length, take, refl, sym, ap, subst, arith}
use Rattle.std.specs.Prelude.{ℤ, ◌==◌, if◌then◌else◌}
use Rattle.std.proofs.lemmas.Bool.{cases_eq}
use Rattle.std.proofs.lemmas.List.{length-append}
use Rattle.kt_spacetime.specs.declared.event.Event.{Event}
use Rattle.kt_spacetime.specs.declared.event.Event.TheVariants.{Sent, Received, Dropped, Began, Took, Ready, Unwilling, Decided, Closed, Failed, Refused}
use Rattle.kt_meaning.proofs.Updates.{at_one_all}
use Rattle.kt_meaning.proofs.Shown.{at_same}
use Rattle.kt_protocol.proofs.Updates.{is_other, at_one_other}
use Rattle.kt_meaning.specs.Messages.{row_at}
use Rattle.kt_meaning.specs.Past.{at_one}
use Rattle.kt_machine.specs.Messages.{is_send_of, sends_of}
use Rattle.kt_meaning.specs.Names.{Given, given_after, given_by, at_place}
use Rattle.kt_meaning.proofs.PlaceFacts.{at_kept, at_last, same_test}

abbrev one_of : Bool → ℕ
one_of b = if b then 1 else 0

-- one more row
sent_more : (g : Given) (row : Event) (q c n : ℕ) → at_place (g.sent q) c ≡ Some n → at_place ((given_after g row).sent q) c ≡ Some n
sent_more g (Sent p to body) q c n e = at_one_all (λ u (xs : List ℕ). at_place (g.sent u) c ≡ Some n → at_place xs c ≡ Some n) p _ g.sent (at_kept (g.sent p) ((g.rows + 1) ∷ []) c n) (λ u h. h) q e
sent_more g (Received p from msg) q c n e = e
sent_more g (Dropped p from msg) q c n e = e
sent_more g (Began p inst kind) q c n e = e
sent_more g (Took p inst) q c n e = e
sent_more g (Ready p inst) q c n e = e
sent_more g (Unwilling p inst cause) q c n e = e
sent_more g (Decided p inst commit) q c n e = e
sent_more g (Closed p inst) q c n e = e
sent_more g (Failed p) q c n e = e
sent_more g (Refused p verb cause) q c n e = e

pub sent_along : (g : Given) (log : List Event) (q c n : ℕ) → at_place (g.sent q) c ≡ Some n → at_place ((given_by g log).sent q) c ≡ Some n
sent_along g [] q c n e = e
sent_along g (x ∷ xs) q c n e = sent_along (given_after g x) xs q c n (sent_more g x q c n e)

-- how many there are
sent_length : (g : Given) (row : Event) (q : ℕ) → length ((given_after g row).sent q) ≡ length (g.sent q) + one_of (is_send_of q row)
sent_length g (Sent p to body) q = elim (cases_eq p q) [
  | inl e ↦ subst (λ (u : ℕ). length (at_one p (g.sent p ++ (g.rows + 1) ∷ []) g.sent u) ≡ length (g.sent u) + one_of (p == u)) e
      (ap length (at_same p (g.sent p ++ (g.rows + 1) ∷ []) g.sent) ∙ (length-append (g.sent p) ((g.rows + 1) ∷ []) ∙ ap (λ (b : Bool). length (g.sent p) + one_of b) (sym (same_test p))))
  | inr n ↦ ap length (at_one_other p q (g.sent p ++ (g.rows + 1) ∷ []) g.sent (λ e. n (sym e))) ∙ none (length (g.sent q)) (p == q) (is_other p q n)
]
  where
    none : (m : ℕ) (b : Bool) → b ≡ false → m ≡ m + one_of b
    none m true e = absurd (cc)
    none m false e = omega arith
sent_length g (Received p from msg) q = omega arith
sent_length g (Dropped p from msg) q = omega arith
sent_length g (Began p inst kind) q = omega arith
sent_length g (Took p inst) q = omega arith
sent_length g (Ready p inst) q = omega arith
sent_length g (Unwilling p inst cause) q = omega arith
sent_length g (Decided p inst commit) q = omega arith
sent_length g (Closed p inst) q = omega arith
sent_length g (Failed p) q = omega arith
sent_length g (Refused p verb cause) q = omega arith

pub sent_count : (g : Given) (log : List Event) (q : ℕ) → length ((given_by g log).sent q) ≡ length (g.sent q) + sends_of q log
sent_count g [] q = omega arith
sent_count g (x ∷ xs) q = let a = sent_count (given_after g x) xs q in let b = sent_length g x q in omega (arith, a, b)

-- the place of a message is how many its sender sent up to it
rows_more : (g : Given) (row : Event) → (given_after g row).rows ≡ g.rows + 1
rows_more g row = refl

new_place : (g : Given) (row : Event) (q to : ℕ) (body : ℤ) → row ≡ Sent q to body → at_place ((given_after g row).sent q) (length (g.sent q) + one_of (is_send_of q row)) ≡ Some (g.rows + 1)
new_place g row q to body e = subst (λ (x : Event). at_place ((given_after g x).sent q) (length (g.sent q) + one_of (is_send_of q x)) ≡ Some (g.rows + 1)) (sym e)
    (ap (λ (xs : List ℕ). at_place xs (length (g.sent q) + one_of (q == q))) (at_same q (g.sent q ++ (g.rows + 1) ∷ []) g.sent)
    ∙ (ap (λ (b : Bool). at_place (g.sent q ++ (g.rows + 1) ∷ []) (length (g.sent q) + one_of b)) (same_test q) ∙ at_last (g.sent q) (g.rows + 1)))

pub sent_place : (g : Given) (log : List Event) (m q to : ℕ) (body : ℤ) → row_at log m ≡ Some (Sent q to body) → at_place ((given_by g log).sent q) (length (g.sent q) + sends_of q (take m log)) ≡ Some (g.rows + m)
sent_place g log zero q to body e = absurd (cc)
sent_place g [] (suc m) q to body e = absurd (cc)
sent_place g (x ∷ xs) (suc zero) q to body e =
    let here = sent_along (given_after g x) xs q (length (g.sent q) + one_of (is_send_of q x)) (g.rows + 1) (new_place g x q to body cc) in
    let number : length (g.sent q) + (one_of (is_send_of q x) + 0) ≡ length (g.sent q) + one_of (is_send_of q x) = omega arith in
    ap (at_place ((given_by (given_after g x) xs).sent q)) number ∙ here
sent_place g (x ∷ xs) (suc (suc m)) q to body e =
    let rest = sent_place (given_after g x) xs (suc m) q to body e in
    let more = sent_length g x q in
    let number : length (g.sent q) + (one_of (is_send_of q x) + sends_of q (take (suc m) xs)) ≡ length ((given_after g x).sent q) + sends_of q (take (suc m) xs) = omega (arith, more) in
    let row : g.rows + 1 + suc m ≡ g.rows + suc (suc m) = omega arith in
    ap (at_place ((given_by (given_after g x) xs).sent q)) number ∙ (rest ∙ ap Some row)
