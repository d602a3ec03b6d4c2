-- Which calls may follow a list that tables answer for.
use Rattle.std.proofs.Common.{◌≡◌, ℕ, ◌<◌, false, List, [], ◌∷◌, ◌++◌, refl, arith, sym, ap, subst, ◌∙◌, inl, inr}
use Rattle.std.specs.Prelude.{◌⊎◌, ◌↔◌, max}
use Rattle.std.proofs.lemmas.Bool.{cases_eq}
use Rattle.std.proofs.lemmas.Bool.Decides.{nat_tests}
use Rattle.std.proofs.lemmas.List.{append-nil}
use Rattle.kt_tables.specs.Labels.{LabelsRise, greatest}
use Rattle.kt_tables.specs.Calls.{Call, sent, received, on_tentative, on_commit, on_abort, on_rollback, PartsOfCalls, parts_after, parts, sents, receiveds, Speaks}
use Rattle.kt_tables.specs.Peers.{label_of}
use Rattle.kt_tables.specs.States.{State}
use Rattle.kt_tables.specs.Standing.{TablesStandFor, CanSend, CanReceive}
use Rattle.kt_tables.proofs.LabelLists.{greatest-append}
use Rattle.kt_tables.proofs.CallParts.{parts_push, sents-append, receiveds-append, ends}

-- the last call of a list, or one before it
split_end : (calls front rest : List Call) (c x : Call) → calls ++ c ∷ [] ≡ front ++ x ∷ rest → ((calls ≡ front) × (c ≡ x)) ⊎ ((more : List Call) × (calls ≡ front ++ x ∷ more))
split_end [] [] rest c x e = inl (refl, cc)
split_end [] (f ∷ []) rest c x e = absurd (cc)
split_end [] (f ∷ g ∷ front) rest c x e = absurd (cc)
split_end (a ∷ calls) [] rest c x e = inr (calls, (let k : a ≡ x = cc in ap (λ (y : Call). y ∷ calls) k))
split_end (a ∷ calls) (f ∷ front) rest c x e =
    let tail : calls ++ c ∷ [] ≡ front ++ x ∷ rest = cc in
    let head : a ≡ f = cc in
    elim (split_end calls front rest c x tail) [
      | inl h ↦ inl ((let k = h.0 in cc), h.1)
      | inr h ↦ inr (h.0, (let k = h.1 in cc))
    ]

-- a call that sends nothing, or one made while no tentative checkpoint is open
apart_more : (calls : List Call) (c : Call) → Speaks calls → ((q l : ℕ) → c ≡ sent q l → (parts calls).is_open ≡ false) →
    (front rest : List Call) (q l : ℕ) → calls ++ c ∷ [] ≡ front ++ sent q l ∷ rest → (parts front).is_open ≡ false
apart_more calls c s h front rest q l e = elim (split_end calls front rest c (sent q l) e) [
  | inl k ↦ subst (λ (x : List Call). (parts x).is_open ≡ false) k.0 (h q l k.1)
  | inr k ↦ s.apart front k.0 q l k.1
]

rises_push : (xs : List ℕ) (low l : ℕ) → LabelsRise low xs → low < l → greatest xs < l → LabelsRise low (xs ++ l ∷ [])
rises_push [] low l r a b = (a, tt)
rises_push (x ∷ xs) low l r a b = (r.0, rises_push xs x l r.1 (grind (arith, nat_tests)) (grind (arith, nat_tests)))

speaks_plain : (calls : List Call) (c : Call) → ((q : ℕ) → sents q (c ∷ []) ≡ []) → ((q : ℕ) → receiveds q (c ∷ []) ≡ []) →
    (parts_after (parts calls) c).since_rollback ≡ (parts calls).since_rollback ++ c ∷ [] →
    ((q l : ℕ) → c ≡ sent q l → (parts calls).is_open ≡ false) → Speaks calls → Speaks (calls ++ c ∷ [])
speaks_plain calls c a b d n s = record {
  sent_rise = λ q. subst (λ (l : List ℕ). LabelsRise 0 l) (sym (sents-append q calls (c ∷ []) ∙ (ap (λ (l : List ℕ). sents q calls ++ l) (a q) ∙ append-nil (sents q calls)))) (s.sent_rise q);
  received_rise = λ q. subst (λ (p : PartsOfCalls). LabelsRise 0 (receiveds q p.since_rollback)) (sym (parts_push calls c))
      (subst (λ (l : List Call). LabelsRise 0 (receiveds q l)) (sym d)
      (subst (λ (l : List ℕ). LabelsRise 0 l) (sym (receiveds-append q (parts calls).since_rollback (c ∷ []) ∙ (ap (λ (l : List ℕ). receiveds q (parts calls).since_rollback ++ l) (b q) ∙ append-nil (receiveds q (parts calls).since_rollback)))) (s.received_rise q)));
  apart = apart_more calls c s n;
}

pub speaks_tentative : (calls : List Call) → Speaks calls → Speaks (calls ++ on_tentative ∷ [])
speaks_tentative calls s = speaks_plain calls on_tentative (λ q. refl) (λ q. refl) refl (λ q l e. absurd (cc (e))) s

pub speaks_commit : (calls : List Call) → Speaks calls → Speaks (calls ++ on_commit ∷ [])
speaks_commit calls s = speaks_plain calls on_commit (λ q. refl) (λ q. refl) refl (λ q l e. absurd (cc (e))) s

pub speaks_abort : (calls : List Call) → Speaks calls → Speaks (calls ++ on_abort ∷ [])
speaks_abort calls s = speaks_plain calls on_abort (λ q. refl) (λ q. refl) refl (λ q l e. absurd (cc (e))) s

-- one message more, sent
sent_push : (q p l : ℕ) (calls : List Call) → LabelsRise 0 (sents q calls) → 0 < l → greatest (sents p calls) < l → LabelsRise 0 (sents q (calls ++ sent p l ∷ []))
sent_push q p l calls r a b = elim (cases_eq q p) [
  | inl e ↦ subst (λ (x : ℕ). LabelsRise 0 (sents x (calls ++ sent p l ∷ []))) (sym e)
      (subst (λ (x : List ℕ). LabelsRise 0 x) (sym (sents-append p calls (sent p l ∷ []) ∙ ap (λ (x : List ℕ). sents p calls ++ x) (here p l)))
      (rises_push (sents p calls) 0 l (subst (λ (x : ℕ). LabelsRise 0 (sents x calls)) e r) a b))
  | inr n ↦ subst (λ (x : List ℕ). LabelsRise 0 x) (sym (sents-append q calls (sent p l ∷ []) ∙ (ap (λ (x : List ℕ). sents q calls ++ x) (there q p l n) ∙ append-nil (sents q calls)))) r
]
  where
    here : (p l : ℕ) → sents p (sent p l ∷ []) ≡ l ∷ []
    here p l = grind (arith, nat_tests)

    there : (q p l : ℕ) → (q ≡ p → ⊥) → sents q (sent p l ∷ []) ≡ []
    there q p l n = grind (arith, nat_tests)

pub speaks_sent : (calls : List Call) (p l : ℕ) → Speaks calls → (parts calls).is_open ≡ false → greatest (sents p calls) < l → Speaks (calls ++ sent p l ∷ [])
speaks_sent calls p l s o b = record {
  sent_rise = λ q. sent_push q p l calls (s.sent_rise q) (omega arith) b;
  received_rise = λ q. subst (λ (x : PartsOfCalls). LabelsRise 0 (receiveds q x.since_rollback)) (sym (parts_push calls (sent p l)))
      (subst (λ (x : List ℕ). LabelsRise 0 x) (sym (receiveds-append q (parts calls).since_rollback (sent p l ∷ []) ∙ append-nil (receiveds q (parts calls).since_rollback))) (s.received_rise q));
  apart = apart_more calls (sent p l) s (λ q k e. o);
}

-- one message more, received
received_push : (q p l : ℕ) (calls : List Call) → LabelsRise 0 (receiveds q calls) → 0 < l → greatest (receiveds p calls) < l → LabelsRise 0 (receiveds q (calls ++ received p l ∷ []))
received_push q p l calls r a b = elim (cases_eq q p) [
  | inl e ↦ subst (λ (x : ℕ). LabelsRise 0 (receiveds x (calls ++ received p l ∷ []))) (sym e)
      (subst (λ (x : List ℕ). LabelsRise 0 x) (sym (receiveds-append p calls (received p l ∷ []) ∙ ap (λ (x : List ℕ). receiveds p calls ++ x) (here p l)))
      (rises_push (receiveds p calls) 0 l (subst (λ (x : ℕ). LabelsRise 0 (receiveds x calls)) e r) a b))
  | inr n ↦ subst (λ (x : List ℕ). LabelsRise 0 x) (sym (receiveds-append q calls (received p l ∷ []) ∙ (ap (λ (x : List ℕ). receiveds q calls ++ x) (there q p l n) ∙ append-nil (receiveds q calls)))) r
]
  where
    here : (p l : ℕ) → receiveds p (received p l ∷ []) ≡ l ∷ []
    here p l = grind (arith, nat_tests)

    there : (q p l : ℕ) → (q ≡ p → ⊥) → receiveds q (received p l ∷ []) ≡ []
    there q p l n = grind (arith, nat_tests)

pub speaks_received : (calls : List Call) (p l : ℕ) → Speaks calls → greatest (receiveds p (parts calls).since_rollback) < l → Speaks (calls ++ received p l ∷ [])
speaks_received calls p l s b = record {
  sent_rise = λ q. subst (λ (x : List ℕ). LabelsRise 0 x) (sym (sents-append q calls (received p l ∷ []) ∙ append-nil (sents q calls))) (s.sent_rise q);
  received_rise = λ q. subst (λ (x : PartsOfCalls). LabelsRise 0 (receiveds q x.since_rollback)) (sym (parts_push calls (received p l)))
      (received_push q p l (parts calls).since_rollback (s.received_rise q) (omega arith) b);
  apart = apart_more calls (received p l) s (λ q k e. absurd (cc (e)));
}

-- the rollback takes all that was received out of what is compared
pub speaks_rollback : (calls : List Call) → Speaks calls → Speaks (calls ++ on_rollback ∷ [])
speaks_rollback calls s = record {
  sent_rise = λ q. subst (λ (l : List ℕ). LabelsRise 0 l) (sym (sents-append q calls (on_rollback ∷ []) ∙ append-nil (sents q calls))) (s.sent_rise q);
  received_rise = λ q. subst (λ (p : PartsOfCalls). LabelsRise 0 (receiveds q p.since_rollback)) (sym (parts_push calls on_rollback)) tt;
  apart = apart_more calls on_rollback s (λ q l e. absurd (cc (e)));
}

-- the last of labels that rise is above the others
last_above : (xs : List ℕ) (low l : ℕ) → LabelsRise low (xs ++ l ∷ []) → greatest xs < l
last_above [] low l r = omega (arith, r.0)
last_above (x ∷ xs) low l r =
    let h = last_above xs x l r.1 in
    let b = last_above_low xs x l r.1 in
    omega arith
  where
    last_above_low : (xs : List ℕ) (low l : ℕ) → LabelsRise low (xs ++ l ∷ []) → low < l
    last_above_low [] low l r = r.0
    last_above_low (x ∷ xs) low l r = let h = last_above_low xs x l r.1 in let a : low < x = r.0 in omega arith

sent_push_here : (calls : List Call) (q l : ℕ) → sents q (calls ++ sent q l ∷ []) ≡ sents q calls ++ l ∷ []
sent_push_here calls q l = sents-append q calls (sent q l ∷ []) ∙ ap (λ (x : List ℕ). sents q calls ++ x) (here q l)
  where
    here : (q l : ℕ) → sents q (sent q l ∷ []) ≡ l ∷ []
    here q l = grind (arith, nat_tests)

received_push_here : (calls : List Call) (q l : ℕ) → receiveds q (calls ++ received q l ∷ []) ≡ receiveds q calls ++ l ∷ []
received_push_here calls q l = receiveds-append q calls (received q l ∷ []) ∙ ap (λ (x : List ℕ). receiveds q calls ++ x) (here q l)
  where
    here : (q l : ℕ) → receiveds q (received q l ∷ []) ≡ l ∷ []
    here q l = grind (arith, nat_tests)

last_out_is : (t : State) (calls : List Call) (q : ℕ) → TablesStandFor t calls → label_of t.last_out q ≡ greatest (sents q calls)
last_out_is t calls q h = h.keeps.last_out q ∙ ap (λ (x : List Call). greatest (sents q x)) (ends calls).whole

-- the labels that tables take, by the list that they stand for
pub can_send_is : (t : State) (calls : List Call) (q l : ℕ) → TablesStandFor t calls → CanSend t q l ↔ (greatest (sents q calls) < l)
can_send_is t calls q l h = let e = last_out_is t calls q h in (λ b. omega (arith, b), λ b. omega (arith, b))

pub can_receive : (t : State) (calls : List Call) (q l : ℕ) → TablesStandFor t calls → greatest (receiveds q (parts calls).since_rollback) < l → CanReceive t q l
can_receive t calls q l h b =
    let f = (ends calls).last in
    let p = parts calls in
    let e : greatest (receiveds q p.since_rollback) ≡ max (greatest (receiveds q f.0)) (max (greatest (receiveds q p.aside)) (greatest (receiveds q p.since))) =
    ap (λ (x : List Call). greatest (receiveds q x)) f.1
    ∙ (ap greatest (receiveds-append q f.0 (p.aside ++ p.since))
    ∙ (greatest-append (receiveds q f.0) (receiveds q (p.aside ++ p.since))
    ∙ ap (λ (x : ℕ). max (greatest (receiveds q f.0)) x) (ap greatest (receiveds-append q p.aside p.since) ∙ greatest-append (receiveds q p.aside) (receiveds q p.since)))) in
    let u = h.keeps.last_rcvd q in
    let v = h.keeps.kept_rcvd q in
    (grind (arith, nat_tests), grind (arith, nat_tests))

-- they are those of the lists that are spoken of
pub sent_can : (t : State) (calls : List Call) (q l : ℕ) → TablesStandFor t calls → Speaks (calls ++ sent q l ∷ []) → CanSend t q l
sent_can t calls q l h s =
    let b = last_above (sents q calls) 0 l (subst (λ (x : List ℕ). LabelsRise 0 x) (sent_push_here calls q l) (s.sent_rise q)) in
    (can_send_is t calls q l h).1 b

pub received_can : (t : State) (calls : List Call) (q l : ℕ) → TablesStandFor t calls → Speaks (calls ++ received q l ∷ []) → CanReceive t q l
received_can t calls q l h s =
    let rises = subst (λ (x : PartsOfCalls). LabelsRise 0 (receiveds q x.since_rollback)) (parts_push calls (received q l)) (s.received_rise q) in
    let since = (parts calls).since_rollback in
    let b = last_above (receiveds q since) 0 l (subst (λ (x : List ℕ). LabelsRise 0 x) (received_push_here since q l) rises) in
    can_receive t calls q l h b
