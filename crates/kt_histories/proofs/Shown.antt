-- Tables go on showing what is known, row by row.
use Rattle.std.proofs.Common.{◌≡◌, ◌≢◌, ℕ, zero, suc, ◌+◌, ◌<◌, ◌≤◌, Option, Some, None, List, [], ◌∷◌, ◌++◌, length, set, refl, sym, ap, ◌∙◌, subst, arith, inl, inr, length-append}
use Rattle.std.specs.List.{slice_get}
use Rattle.std.specs.Option.{option_flatten}
use Rattle.std.proofs.lemmas.Bool.{cases_lt, cases_eq}
use Rattle.std.proofs.lemmas.List.{length-set}
use Rattle.std.proofs.lemmas.Option.{slice_get_past}
use Rattle.kt_spacetime.specs.declared.deeds.Deed.{Deed}
use Rattle.kt_spacetime.specs.declared.deeds.Deed.TheVariants as deed
use Rattle.kt_histories.specs.declared.process.Process.{Process}
use Rattle.kt_histories.specs.declared.tables.Message.{Message}
use Rattle.kt_meaning.specs.Past.{Past}
use Rattle.kt_rules.specs.Lists.{sent_in}
use Rattle.kt_histories.specs.Standing.{ShowsProcess, ShowsProcesses, ShowsMessages, message_at, sending, receiving}
use Rattle.kt_meaning.proofs.Items.{get_left, get_seam, get_set_same, get_set_other, some_same}
use Rattle.kt_rules.proofs.DeedFacts.{sent_source}

-- the processes with another one at a place
pub processes_set : (ps : List Process) (s t : Past) (p : ℕ) (v : Process) → ShowsProcesses ps s → p < 64 → ShowsProcess v t p
    → ((q : ℕ) (w : Process) → q ≢ p → ShowsProcess w s q → ShowsProcess w t q) → ((q : ℕ) → 64 ≤ q → t.live q ≡ []) → ShowsProcesses (set ps p v) t
processes_set ps s t p v h l fresh others none = record {
  each = λ q w e. elim (cases_eq q p) [
    | inl same ↦
        let at : slice_get (set ps p v) p ≡ Some w = subst (λ (x : ℕ). slice_get (set ps p v) x ≡ Some w) same e in
        let is : v ≡ w = some_same (sym (get_set_same ps p v (omega (arith, h.all, l))) ∙ at) in
        subst (λ (x : Process). ShowsProcess x t q) is (subst (λ (x : ℕ). ShowsProcess v t x) (sym same) fresh)
    | inr n ↦ others q w n (h.each q w (sym (get_set_other ps p q v n) ∙ e))
  ];
  all = length-set ps p v ∙ h.all;
  no_more = none;
}

-- the processes with none changed
pub processes_same : (ps : List Process) (s t : Past) → ShowsProcesses ps s → ((q : ℕ) (w : Process) → ShowsProcess w s q → ShowsProcess w t q) → ((q : ℕ) → 64 ≤ q → t.live q ≡ []) → ShowsProcesses ps t
processes_same ps s t h others none = record {
  each = λ q w e. others q w (h.each q w e);
  all = h.all;
  no_more = none;
}

-- the messages with one more
pub old_message : (ms : List (Option Message)) (x : Option Message) (m : ℕ) → m ≢ length ms + 1 → message_at (ms ++ x ∷ []) m ≡ message_at ms m
old_message ms x zero n = refl
old_message ms x (suc m) n = ap option_flatten (elim (cases_lt m (length ms)) [
  | inl l ↦ get_left ms (x ∷ []) m l
  | inr g ↦
      slice_get_past (ms ++ x ∷ []) m (omega (arith, g, n, length-append ms (x ∷ []))) ∙ sym (slice_get_past ms m g)
])

pub new_message : (ms : List (Option Message)) (x : Option Message) (m : ℕ) → m ≡ length ms + 1 → message_at (ms ++ x ∷ []) m ≡ x
new_message ms x zero e = absurd (omega (arith, e))
new_message ms x (suc m) e =
    let at : m ≡ length ms = omega (arith, e) in
    rw at (ap option_flatten (get_seam ms x []))

pub no_message : (ms : List (Option Message)) (m : ℕ) → length ms < m → message_at ms m ≡ None
no_message ms zero l = refl
no_message ms (suc m) l = ap option_flatten (slice_get_past ms m (omega (arith, l)))

pub quiet_message : (ms : List (Option Message)) (m : ℕ) → message_at (ms ++ None ∷ []) m ≡ message_at ms m
quiet_message ms m = elim (cases_eq m (length ms + 1)) [
  | inl e ↦ new_message ms None m e ∙ sym (no_message ms m (omega (arith, e)))
  | inr n ↦ old_message ms None m n
]

-- a message that is there stays when one is added
pub kept_sending : (ms : List (Option Message)) (x : Option Message) (m : ℕ) (t : ℕ × ℕ × ℕ) → sending (message_at ms m) ≡ Some t → sending (message_at (ms ++ x ∷ []) m) ≡ Some t
kept_sending ms x m t e = elim (cases_eq m (length ms + 1)) [
  | inl at ↦
      let none : message_at ms m ≡ None = no_message ms m (omega (arith, at)) in
      absurd (cc (rw none at e))
  | inr n ↦ rw (old_message ms x m n) e
]

pub kept_receiving : (ms : List (Option Message)) (x : Option Message) (m : ℕ) (t : ℕ × ℕ × Option ℕ) → receiving (message_at ms m) ≡ Some t → receiving (message_at (ms ++ x ∷ []) m) ≡ Some t
kept_receiving ms x m t e = elim (cases_eq m (length ms + 1)) [
  | inl at ↦
      let none : message_at ms m ≡ None = no_message ms m (omega (arith, at)) in
      absurd (cc (rw none at e))
  | inr n ↦ rw (old_message ms x m n) e
]

-- messages where a row sends none, and the histories have no more deeds
pub messages_quiet : (ms : List (Option Message)) (s t : Past) → ShowsMessages ms s
    → ((p i : ℕ) (d : Deed) → slice_get (t.live p) i ≡ Some d → slice_get (s.live p) i ≡ Some d)
    → ((m : ℕ) → t.dropped m ≡ s.dropped m) → ShowsMessages (ms ++ None ∷ []) t
messages_quiet ms s t h part same = record {
  sent = λ p i m to e. rw (quiet_message ms m) (h.sent p i m to (part p i (deed.Sent m to) e));
  received = λ p i m from e. rw (quiet_message ms m) (h.received p i m from (part p i (deed.Received m from) e));
  dropped = λ m. rw (quiet_message ms m) (h.dropped m ∙ sym (same m));
}

-- messages that a history sends are those of earlier rows
pub sent_before : (ms : List (Option Message)) (s : Past) (p k x : ℕ) → ShowsMessages ms s → slice_get (sent_in (s.live p)) k ≡ Some x → x < length ms + 1
sent_before ms s p k x h e =
    let there = sent_source (s.live p) k x e in
    let known = h.sent p there.0 x there.1 there.2 in
    elim (cases_lt x (length ms + 1)) [
      | inl l ↦ l
      | inr g ↦
          let none : message_at ms x ≡ None = no_message ms x (omega (arith, g)) in
          absurd (cc (rw none at known))
    ]
