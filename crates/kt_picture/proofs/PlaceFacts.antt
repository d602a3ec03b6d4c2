-- Places of deeds in histories that grow and are cut back.
use Rattle.std.proofs.Common.{◌≡◌, ◌∙◌, ◌<◌, ◌≤◌, ◌+◌, ℕ, zero, suc, Bool, true, false, Option, Some, None, List, [], ◌∷◌, ◌++◌, length, take, cond, refl, sym, ap, arith}
use Rattle.std.specs.Prelude.{nat_le}
use Rattle.std.specs.Option.{option_map}
use Rattle.std.proofs.lemmas.Bool.Decides.{nat_tests}
use Rattle.std.proofs.lemmas.List.{length_push}
use Rattle.std.proofs.lemmas.Option.{slice_get_within}
use Rattle.kt_spacetime.specs.declared.event.Event.{Event}
use Rattle.kt_spacetime.specs.declared.event.Event.TheVariants.{Sent, Received, Dropped, Began, Took, Ready, Unwilling, Decided, Closed, Failed, Refused}
use Rattle.kt_spacetime.specs.declared.deeds.Deed.{Deed}
use Rattle.kt_spacetime.specs.declared.deeds.Deed.TheVariants as deed
use Rattle.kt_meaning.specs.Past.{Past, after}
use Rattle.kt_meaning.specs.Legal.{is_deed}
use Rattle.kt_rules.specs.Traces.{place_of}
use Rattle.kt_rules.proofs.DeedFacts.{is_same}
use Rattle.kt_meaning.proofs.Updates.{at_one_all}
use Rattle.kt_walk.proofs.KeptFacts.{place_found}
use Rattle.kt_picture.specs.Followed.{if_within}

some_within : (o : Option ℕ) (n : ℕ) → ((k : ℕ) → o ≡ Some k → k ≤ n) → if_within o n ≡ o
some_within None n h = refl
some_within (Some k) n h =
    let low : k ≤ n = h k refl in
    let test : nat_le k n ≡ true = grind (arith, nat_tests) in
    ap (λ (b : Bool). cond b (Some k) None) test

none_within : (o : Option ℕ) → ((k : ℕ) → o ≡ Some k → 0 < k) → if_within o 0 ≡ None
none_within None h = refl
none_within (Some k) h =
    let high : 0 < k = h k refl in
    let test : nat_le k 0 ≡ false = grind (arith, nat_tests) in
    ap (λ (b : Bool). cond b (Some k) None) test

pub place_inside : (d : Deed) (l : List Deed) (k : ℕ) → place_of d l ≡ Some k → (0 < k) × (k ≤ length l)
place_inside d l k e =
    let found = place_found d l k e in
    let low = slice_get_within l found.0 d found.2 in
    (omega (arith, found.1), omega (arith, found.1, low))

-- a history that has at most this length
pub place_whole : (d : Deed) (l : List Deed) (n : ℕ) → length l ≤ n → if_within (place_of d l) n ≡ place_of d l
place_whole d l n h = some_within (place_of d l) n (λ k e. omega (arith, (place_inside d l k e).1, h))

mapped : (b : Bool) (k : ℕ) → option_map suc (cond b (Some k) None) ≡ cond b (Some (suc k)) None
mapped true k = refl
mapped false k = refl

suc_within : (o : Option ℕ) (n : ℕ) → option_map suc (if_within o n) ≡ if_within (option_map suc o) (suc n)
suc_within None n = refl
suc_within (Some k) n =
    let same : nat_le k n ≡ nat_le (suc k) (suc n) = grind (arith, nat_tests) in
    mapped (nat_le k n) k ∙ ap (λ (b : Bool). cond b (Some (suc k)) None) same

picked : (b : Bool) (o whole : Option ℕ) (n : ℕ) → option_map suc o ≡ if_within (option_map suc whole) (suc n) → cond b (Some 1) (option_map suc o) ≡ if_within (cond b (Some 1) (option_map suc whole)) (suc n)
picked true o whole n h =
    let test : true ≡ nat_le 1 (suc n) = grind (arith, nat_tests) in
    ap (λ (b : Bool). cond b (Some 1) None) test
picked false o whole n h = h

-- a history cut back
pub place_take : (d : Deed) (n : ℕ) (l : List Deed) → place_of d (take n l) ≡ if_within (place_of d l) (length (take n l))
place_take d zero l = sym (none_within (place_of d l) (λ k e. (place_inside d l k e).0))
place_take d (suc n) [] = refl
place_take d (suc n) (x ∷ l) =
    picked (is_deed d x) (place_of d (take n l)) (place_of d l) (length (take n l))
    (ap (option_map suc) (place_take d n l) ∙ suc_within (place_of d l) (length (take n l)))

-- another deed is added
pub place_push : (d e : Deed) (l : List Deed) → is_deed d e ≡ false → place_of d (l ++ e ∷ []) ≡ place_of d l
place_push d e [] other = ap (λ (b : Bool). cond b (Some 1) None) other
place_push d e (x ∷ l) other = ap (λ (o : Option ℕ). cond (is_deed d x) (Some 1) (option_map suc o)) (place_push d e l other)

no_suc : (o : Option ℕ) → option_map suc o ≡ None → o ≡ None
no_suc None e = refl
no_suc (Some k) e = absurd (cc)

-- the deed itself is added
pub place_last : (d : Deed) (l : List Deed) → place_of d l ≡ None → place_of d (l ++ d ∷ []) ≡ Some (length (l ++ d ∷ []))
place_last d [] none = ap (λ (b : Bool). cond b (Some 1) None) (is_same d)
place_last d (x ∷ l) none = at_test (is_deed d x) refl none (place_last d l)
  where
    at_test : (b : Bool) → is_deed d x ≡ b → cond b (Some 1) (option_map suc (place_of d l)) ≡ None → (place_of d l ≡ None → place_of d (l ++ d ∷ []) ≡ Some (length (l ++ d ∷ [])))
        → place_of d ((x ∷ l) ++ d ∷ []) ≡ Some (length ((x ∷ l) ++ d ∷ []))
    at_test true is e rest = absurd (cc)
    at_test false is e rest =
        ap (λ (b : Bool). cond b (Some 1) (option_map suc (place_of d (l ++ d ∷ [])))) is ∙ ap (option_map suc) (rest (no_suc (place_of d l) e))

pushed : (d e : Deed) (l : List Deed) → is_deed d e ≡ false → place_of d (l ++ e ∷ []) ≡ if_within (place_of d l) (length (l ++ e ∷ []))
pushed d e l other = place_push d e l other ∙ sym (place_whole d l (length (l ++ e ∷ [])) (omega (arith, length_push l e)))

still : (d : Deed) (l : List Deed) → place_of d l ≡ if_within (place_of d l) (length l)
still d l = sym (place_whole d l (length l) (omega arith))

-- a deed after a row that does not add it: its place stays where the history still has it
pub place_kept : (d : Deed) (s : Past) (row : Event) (r : ℕ) → ((to : ℕ) → is_deed d (deed.Sent (s.rows + 1) to) ≡ false) → ((p from msg : ℕ) → row ≡ Received p from msg → is_deed d (deed.Received msg from) ≡ false)
    → place_of d ((after s row).live r) ≡ if_within (place_of d (s.live r)) (length ((after s row).live r))
place_kept d s (Sent p to body) r sent received =
    at_one_all (λ q l. place_of d l ≡ if_within (place_of d (s.live q)) (length l)) p (s.live p ++ deed.Sent (s.rows + 1) to ∷ []) s.live
    (pushed d (deed.Sent (s.rows + 1) to) (s.live p) (sent to)) (λ q. still d (s.live q)) r
place_kept d s (Received p from msg) r sent received =
    at_one_all (λ q l. place_of d l ≡ if_within (place_of d (s.live q)) (length l)) p (s.live p ++ deed.Received msg from ∷ []) s.live
    (pushed d (deed.Received msg from) (s.live p) (received p from msg refl)) (λ q. still d (s.live q)) r
place_kept d s (Decided p k true) r sent received = cut (s.ready k r)
  where
    cut : (b : Bool) → place_of d (cond b (take (s.permanent r) (s.live r)) (s.live r)) ≡ if_within (place_of d (s.live r)) (length (cond b (take (s.permanent r) (s.live r)) (s.live r)))
    cut true = place_take d (s.permanent r) (s.live r)
    cut false = still d (s.live r)
place_kept d s (Decided p k false) r sent received = still d (s.live r)
place_kept d s (Dropped p from msg) r sent received = still d (s.live r)
place_kept d s (Began p k kind) r sent received = still d (s.live r)
place_kept d s (Took p k) r sent received = still d (s.live r)
place_kept d s (Ready p k) r sent received = still d (s.live r)
place_kept d s (Unwilling p k cause) r sent received = still d (s.live r)
place_kept d s (Closed p k) r sent received = still d (s.live r)
place_kept d s (Failed p) r sent received = still d (s.live r)
place_kept d s (Refused p verb cause) r sent received = still d (s.live r)
