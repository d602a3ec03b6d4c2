-- What lists of calls say where each process's labels count on from one of its own.
use Rattle.std.proofs.Common.{◌≡◌, ◌∙◌, ◌<◌, ◌+◌, ℕ, zero, suc, Bool, true, false, List, [], ◌∷◌, ◌++◌, map, min, max, refl, sym, ap, ap₂, arith}
use Rattle.std.specs.Prelude.{◌==◌, ◌&&◌, nat_lt, nat_le, if◌then◌else◌, fold}
use Rattle.std.proofs.lemmas.Bool.Decides.{nat_tests}
use Rattle.std.proofs.lemmas.List.{map-append}
use Rattle.kt_tables.specs.Calls.{Call, sent, received, on_tentative, on_commit, on_abort, on_rollback, PartsOfCalls, no_parts, parts_after, parts, sents, receiveds}
use Rattle.kt_tables.specs.Labels.{has_label, least, greatest}
use Rattle.kt_machine.specs.CallTests.{must_take, must_roll, is_asked_in_checkpoint, checkpoint_label, is_asked_in_rollback, rollback_label}
use Rattle.kt_node.specs.FirstLabels.{raised, raised_call}

pub raised_some : (a label : ℕ) → 0 < label → raised a label ≡ label + a
raised_some a zero l = omega (arith, l)
raised_some a (suc label) l = refl

pub lt_raised : (a x y : ℕ) → nat_lt (raised a x) (raised a y) ≡ nat_lt x y
lt_raised a zero zero = refl
lt_raised a zero (suc y) = grind (arith, nat_tests)
lt_raised a (suc x) zero = grind (arith, nat_tests)
lt_raised a (suc x) (suc y) = grind (arith, nat_tests)

pub le_raised : (a x y : ℕ) → nat_le (raised a x) (raised a y) ≡ nat_le x y
le_raised a zero zero = refl
le_raised a zero (suc y) = grind (arith, nat_tests)
le_raised a (suc x) zero = grind (arith, nat_tests)
le_raised a (suc x) (suc y) = grind (arith, nat_tests)

min_raised : (a x y : ℕ) → min (raised a x) (raised a y) ≡ raised a (min x y)
min_raised a zero y = let e : min 0 (raised a y) ≡ 0 = omega arith in let f : min 0 y ≡ 0 = omega arith in e ∙ sym (ap (raised a) f)
min_raised a (suc x) zero = let e : min (suc x + a) 0 ≡ 0 = omega arith in let f : min (suc x) 0 ≡ 0 = omega arith in e ∙ sym (ap (raised a) f)
min_raised a (suc x) (suc y) = omega arith ∙ sym (raised_some a (min (suc x) (suc y)) (omega arith))

max_raised : (a x y : ℕ) → max (raised a x) (raised a y) ≡ raised a (max x y)
max_raised a zero y = let e : max 0 (raised a y) ≡ raised a y = omega arith in let f : max 0 y ≡ y = omega arith in e ∙ sym (ap (raised a) f)
max_raised a (suc x) zero = let e : max (suc x + a) 0 ≡ suc x + a = omega arith in let f : max (suc x) 0 ≡ suc x = omega arith in e ∙ sym (ap (raised a) f)
max_raised a (suc x) (suc y) = omega arith ∙ sym (raised_some a (max (suc x) (suc y)) (omega arith))

-- lists of labels
pub has_raised : (a : ℕ) (xs : List ℕ) → has_label (map (raised a) xs) ≡ has_label xs
has_raised a [] = refl
has_raised a (x ∷ xs) = refl

pub least_raised : (a : ℕ) (xs : List ℕ) → least (map (raised a) xs) ≡ raised a (least xs)
least_raised a [] = refl
least_raised a (x ∷ []) = refl
least_raised a (x ∷ y ∷ xs) = ap (min (raised a x)) (least_raised a (y ∷ xs)) ∙ min_raised a x (least (y ∷ xs))

pub greatest_raised : (a : ℕ) (xs : List ℕ) → greatest (map (raised a) xs) ≡ raised a (greatest xs)
greatest_raised a [] = refl
greatest_raised a (x ∷ xs) = ap (max (raised a x)) (greatest_raised a xs) ∙ max_raised a x (greatest xs)

module _ (first : ℕ → ℕ) (p : ℕ) where
  abbrev calls_raised : List Call → List Call
  calls_raised calls = map (raised_call first p) calls

  -- the parts of a list of calls
  abbrev parts_raised : PartsOfCalls → PartsOfCalls
  parts_raised s = record {
    calls = calls_raised s.calls;
    since_rollback = calls_raised s.since_rollback;
    since = calls_raised s.since;
    before = calls_raised s.before;
    is_open = s.is_open;
    cut = calls_raised s.cut;
    aside = calls_raised s.aside;
  }

  more : (calls rest : List Call) → calls_raised calls ++ calls_raised rest ≡ calls_raised (calls ++ rest)
  more calls rest = sym (map-append (raised_call first p) calls rest)

  before_raised : (b : Bool) (cut before : List Call) → (if b then calls_raised cut else calls_raised before) ≡ calls_raised (if b then cut else before)
  before_raised true cut before = refl
  before_raised false cut before = refl

  one_more : (s : PartsOfCalls) (c : Call) → parts_after (parts_raised s) (raised_call first p c) ≡ parts_raised (parts_after s c)
  one_more s (sent q l) = λ i. record (parts_raised s) { calls = more s.calls (sent q l ∷ []) i; since_rollback = more s.since_rollback (sent q l ∷ []) i; since = more s.since (sent q l ∷ []) i }
  one_more s (received q l) = λ i. record (parts_raised s) { calls = more s.calls (received q l ∷ []) i; since_rollback = more s.since_rollback (received q l ∷ []) i; since = more s.since (received q l ∷ []) i }
  one_more s on_tentative = λ i. record {
    calls = more s.calls (on_tentative ∷ []) i;
    since_rollback = more s.since_rollback (on_tentative ∷ []) i;
    since = [];
    before = calls_raised s.before;
    is_open = true;
    cut = calls_raised s.calls;
    aside = more s.since (on_tentative ∷ []) i;
  }
  one_more s on_commit = λ i. record {
    calls = more s.calls (on_commit ∷ []) i;
    since_rollback = more s.since_rollback (on_commit ∷ []) i;
    since = more s.since (on_commit ∷ []) i;
    before = before_raised s.is_open s.cut s.before i;
    is_open = false;
    cut = [];
    aside = [];
  }
  one_more s on_abort = λ i. record {
    calls = more s.calls (on_abort ∷ []) i;
    since_rollback = more s.since_rollback (on_abort ∷ []) i;
    since = (ap (λ (l : List Call). calls_raised s.aside ++ l) (more s.since (on_abort ∷ [])) ∙ more s.aside (s.since ++ on_abort ∷ [])) i;
    before = calls_raised s.before;
    is_open = false;
    cut = [];
    aside = [];
  }
  one_more s on_rollback = λ i. record {
    calls = more s.calls (on_rollback ∷ []) i;
    since_rollback = [];
    since = [];
    before = calls_raised s.before;
    is_open = false;
    cut = [];
    aside = [];
  }

  all_more : (s : PartsOfCalls) (calls : List Call) → fold parts_after (parts_raised s) (calls_raised calls) ≡ parts_raised (fold parts_after s calls)
  all_more s [] = refl
  all_more s (c ∷ calls) = ap (λ (t : PartsOfCalls). fold parts_after t (calls_raised calls)) (one_more s c) ∙ all_more (parts_after s c) calls

  pub parts_of_raised : (calls : List Call) → parts (calls_raised calls) ≡ parts_raised (parts calls)
  parts_of_raised calls = all_more no_parts calls

  -- labels sent to a process, and received of it
  pub sents_raised : (q : ℕ) (calls : List Call) → sents q (calls_raised calls) ≡ map (raised (first p)) (sents q calls)
  sents_raised q [] = refl
  sents_raised q (sent u l ∷ calls) = at_test (u == q) (sents_raised q calls)
    where
      at_test : (b : Bool) → sents q (calls_raised calls) ≡ map (raised (first p)) (sents q calls) → (if b then raised (first p) l ∷ sents q (calls_raised calls) else sents q (calls_raised calls)) ≡ map (raised (first p)) (if b then l ∷ sents q calls else sents q calls)
      at_test true h = ap (λ (xs : List ℕ). raised (first p) l ∷ xs) h
      at_test false h = h
  sents_raised q (received u l ∷ calls) = sents_raised q calls
  sents_raised q (on_tentative ∷ calls) = sents_raised q calls
  sents_raised q (on_commit ∷ calls) = sents_raised q calls
  sents_raised q (on_abort ∷ calls) = sents_raised q calls
  sents_raised q (on_rollback ∷ calls) = sents_raised q calls

  equal : (a b : ℕ) → (a == b) ≡ true → a ≡ b
  equal a b e = grind (arith, nat_tests)

  pub receiveds_raised : (q : ℕ) (calls : List Call) → receiveds q (calls_raised calls) ≡ map (raised (first q)) (receiveds q calls)
  receiveds_raised q [] = refl
  receiveds_raised q (sent u l ∷ calls) = receiveds_raised q calls
  receiveds_raised q (received u l ∷ calls) = at_test (u == q) refl (receiveds_raised q calls)
    where
      at_test : (b : Bool) → (u == q) ≡ b → receiveds q (calls_raised calls) ≡ map (raised (first q)) (receiveds q calls) → (if b then raised (first u) l ∷ receiveds q (calls_raised calls) else receiveds q (calls_raised calls)) ≡ map (raised (first q)) (if b then l ∷ receiveds q calls else receiveds q calls)
      at_test true e h = ap₂ (λ (n : ℕ) (xs : List ℕ). raised (first n) l ∷ xs) (equal u q e) h
      at_test false e h = h
  receiveds_raised q (on_tentative ∷ calls) = receiveds_raised q calls
  receiveds_raised q (on_commit ∷ calls) = receiveds_raised q calls
  receiveds_raised q (on_abort ∷ calls) = receiveds_raised q calls
  receiveds_raised q (on_rollback ∷ calls) = receiveds_raised q calls

  -- since the last checkpoint, and before it
  pub received_since : (q : ℕ) (calls : List Call) → receiveds q (parts (calls_raised calls)).since ≡ map (raised (first q)) (receiveds q (parts calls).since)
  received_since q calls = ap (λ (s : PartsOfCalls). receiveds q s.since) (parts_of_raised calls) ∙ receiveds_raised q (parts calls).since

  pub sent_since : (q : ℕ) (calls : List Call) → sents q (parts (calls_raised calls)).since ≡ map (raised (first p)) (sents q (parts calls).since)
  sent_since q calls = ap (λ (s : PartsOfCalls). sents q s.since) (parts_of_raised calls) ∙ sents_raised q (parts calls).since

  pub takes_raised : (calls : List Call) (q label : ℕ) → must_take (calls_raised calls) q (raised (first p) label) ≡ must_take calls q label
  unfolding must_take
  takes_raised calls q label =
      ap (λ (l : ℕ). nat_lt 0 l && nat_le l (raised (first p) label)) (ap least (sent_since q calls) ∙ least_raised (first p) (sents q (parts calls).since))
      ∙ ap₂ (λ (a b : Bool). a && b) (lt_raised (first p) 0 (least (sents q (parts calls).since))) (le_raised (first p) (least (sents q (parts calls).since)) label)

  pub rolls_raised : (calls : List Call) (q label : ℕ) → must_roll (calls_raised calls) q (raised (first q) label) ≡ must_roll calls q label
  unfolding must_roll
  rolls_raised calls q label =
      ap (nat_lt (raised (first q) label)) (ap greatest (received_since q calls) ∙ greatest_raised (first q) (receiveds q (parts calls).since))
      ∙ lt_raised (first q) label (greatest (receiveds q (parts calls).since))

  pub asked_in_checkpoint_raised : (calls : List Call) (q : ℕ) → is_asked_in_checkpoint (calls_raised calls) q ≡ is_asked_in_checkpoint calls q
  unfolding is_asked_in_checkpoint
  asked_in_checkpoint_raised calls q = ap has_label (received_since q calls) ∙ has_raised (first q) (receiveds q (parts calls).since)

  pub checkpoint_label_raised : (calls : List Call) (q : ℕ) → checkpoint_label (calls_raised calls) q ≡ raised (first q) (checkpoint_label calls q)
  unfolding checkpoint_label
  checkpoint_label_raised calls q = ap greatest (received_since q calls) ∙ greatest_raised (first q) (receiveds q (parts calls).since)

  pub asked_in_rollback_raised : (calls : List Call) (q : ℕ) → is_asked_in_rollback (calls_raised calls) q ≡ is_asked_in_rollback calls q
  unfolding is_asked_in_rollback
  asked_in_rollback_raised calls q = ap has_label (sent_since q calls) ∙ has_raised (first p) (sents q (parts calls).since)

  pub rollback_label_raised : (calls : List Call) (q : ℕ) → rollback_label (calls_raised calls) q ≡ raised (first p) (rollback_label calls q)
  unfolding rollback_label
  rollback_label_raised calls q = ap (λ (s : PartsOfCalls). greatest (sents q s.before)) (parts_of_raised calls)
      ∙ (ap greatest (sents_raised q (parts calls).before) ∙ greatest_raised (first p) (sents q (parts calls).before))
