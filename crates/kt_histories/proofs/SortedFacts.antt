-- A history keeps its deeds sorted.
use Rattle.std.proofs.Common.{◌≡◌, ◌≢◌, ℕ, ◌+◌, ◌-◌, ◌<◌, Option, Some, None, IfNone, option_to_list, List, [], ◌∷◌, ◌++◌, length, get_or, set, take, drop, refl, sym, ap, ◌∙◌, subst, arith, inl, inr, length-append}
use Rattle.std.specs.List.{slice_get}
use Rattle.std.proofs.lemmas.Bool.{cases_lt, cases_eq}
use Rattle.std.proofs.lemmas.List.{append-nil, take-append-le, take-append-drop, length-set}
use Rattle.std.proofs.lemmas.Option.{slice_get_within}
use Rattle.std.proofs.Math.Seq.{take-append_seam}
use Rattle.kt_spacetime.specs.declared.deeds.Deed.{Deed}
use Rattle.kt_spacetime.specs.declared.deeds.Deed.TheVariants as deed
use Rattle.kt_rules.specs.Lists.{sent_in, received_in}
use Rattle.kt_histories.specs.Sorted.{IsSorted}
use Rattle.kt_meaning.proofs.Items.{get_left, get_right, get_seam, get_set_same, get_set_other, some_same}
use Rattle.kt_rules.proofs.SortedFacts.{received_at, received_else, received_more, received_unsent, sent_more}

-- lists with ends of one length have one front
fronts : (xs ys x y : List ℕ) → xs ++ x ≡ ys ++ y → length x ≡ 1 → length y ≡ 1 → xs ≡ ys
fronts xs ys x y e a b =
    let n : length xs ≡ length ys = omega (arith, ap length e, length-append xs x, length-append ys y, a, b) in
    sym (take-append_seam xs x) ∙ (rw (e, n) (take-append_seam ys y))

-- the counts with one more
before_more : (ds : List Deed) (d : Deed) (cs : List ℕ) (n : ℕ) → length cs ≡ length ds → n ≡ length (sent_in ds)
    → ((place : ℕ) → place < length ds → slice_get cs place ≡ Some (length (sent_in (take place ds))))
    → (place : ℕ) → place < length (ds ++ d ∷ []) → slice_get (cs ++ n ∷ []) place ≡ Some (length (sent_in (take place (ds ++ d ∷ []))))
before_more ds d cs n same here all place l =
    elim (cases_lt place (length ds)) [
      | inl low ↦
          get_left cs (n ∷ []) place (omega (arith, same)) ∙ (all place low
          ∙ ap (λ (t : List Deed). Some (length (sent_in t))) (sym (take-append-le place ds (d ∷ []) (omega arith))))
      | inr high ↦
          let at : place ≡ length ds = omega (arith, length-append ds (d ∷ []), l, high) in
          let end : slice_get (cs ++ n ∷ []) place ≡ Some n = rw (at, ← same) (get_seam cs n []) in
          let whole : take place (ds ++ d ∷ []) ≡ ds = rw at (take-append_seam ds (d ∷ [])) in
          end ∙ (ap Some here ∙ ap (λ (t : List Deed). Some (length (sent_in t))) (sym whole))
    ]

count_more : (ds : List Deed) (d : Deed) (cs : List ℕ) (n : ℕ) → length cs ≡ length ds → length (cs ++ n ∷ []) ≡ length (ds ++ d ∷ [])
count_more ds d cs n same = omega (arith, same, length-append cs (n ∷ []), length-append ds (d ∷ []))

-- a send at the end
pub sorted_send : (ds : List Deed) (cs ss : List ℕ) (rs : List (List ℕ)) (m to : ℕ) → IsSorted ds cs ss rs
    → IsSorted (ds ++ deed.Sent m to ∷ []) (cs ++ length ss ∷ []) (ss ++ m ∷ []) rs
sorted_send ds cs ss rs m to s = record {
  sent = ap (λ (l : List ℕ). l ++ m ∷ []) s.sent ∙ sym (sent_more ds (deed.Sent m to ∷ []));
  count = count_more ds (deed.Sent m to) cs (length ss) s.count;
  before = before_more ds (deed.Sent m to) cs (length ss) s.count (ap length s.sent) s.before;
  senders = s.senders;
  received = λ q l. s.received q l ∙ ap Some (sym (received_more q ds (deed.Sent m to ∷ []) ∙ append-nil (received_in q ds)));
}

-- a receive at the end
pub sorted_receive : (ds : List Deed) (cs ss : List ℕ) (rs : List (List ℕ)) (m f : ℕ) (l : List ℕ) → f < 64 → slice_get rs f ≡ Some l → IsSorted ds cs ss rs
    → IsSorted (ds ++ deed.Received m f ∷ []) (cs ++ length ss ∷ []) ss (set rs f (l ++ m ∷ []))
sorted_receive ds cs ss rs m f l low is s = record {
  sent = s.sent ∙ sym (sent_more ds (deed.Received m f ∷ []) ∙ append-nil (sent_in ds));
  count = count_more ds (deed.Received m f) cs (length ss) s.count;
  before = before_more ds (deed.Received m f) cs (length ss) s.count (ap length s.sent) s.before;
  senders = length-set rs f (l ++ m ∷ []) ∙ s.senders;
  received = λ q b. elim (cases_eq q f) [
    | inl e ↦
        let same : l ≡ received_in f ds = some_same (sym is ∙ s.received f low) in
        let all : l ++ m ∷ [] ≡ received_in f (ds ++ deed.Received m f ∷ []) = ap (λ (t : List ℕ). t ++ m ∷ []) same ∙ sym (received_at ds m f) in
        rw e (get_set_same rs f (l ++ m ∷ []) (omega (arith, s.senders, low)) ∙ ap Some all)
    | inr n ↦ get_set_other rs f q (l ++ m ∷ []) n ∙ (s.received q b ∙ ap Some (sym (received_else ds m f q n)))
  ];
}

-- the counts with one less
before_less : (ds : List Deed) (d : Deed) (cs : List ℕ) (x : List ℕ) → length cs ≡ length ds
    → ((place : ℕ) → place < length (ds ++ d ∷ []) → slice_get (cs ++ x) place ≡ Some (length (sent_in (take place (ds ++ d ∷ [])))))
    → (place : ℕ) → place < length ds → slice_get cs place ≡ Some (length (sent_in (take place ds)))
before_less ds d cs x same all place l =
    sym (get_left cs x place (omega (arith, same, l))) ∙ (all place (omega (arith, length-append ds (d ∷ []), l))
    ∙ ap (λ (t : List Deed). Some (length (sent_in t))) (take-append-le place ds (d ∷ []) (omega (arith, l))))

-- without the send at the end
pub unsorted_send : (ds : List Deed) (cs ss x y : List ℕ) (rs : List (List ℕ)) (m to : ℕ) → length cs ≡ length ds → length y ≡ 1
    → IsSorted (ds ++ deed.Sent m to ∷ []) (cs ++ x) (ss ++ y) rs → IsSorted ds cs ss rs
unsorted_send ds cs ss x y rs m to same one s = record {
  sent = fronts ss (sent_in ds) y (m ∷ []) (s.sent ∙ sent_more ds (deed.Sent m to ∷ [])) one refl;
  count = same;
  before = before_less ds (deed.Sent m to) cs x same s.before;
  senders = s.senders;
  received = λ q l. s.received q l ∙ ap Some (received_unsent ds m to q);
}

-- without the receive at the end
pub unsorted_receive : (ds : List Deed) (cs ss x y l : List ℕ) (rs : List (List ℕ)) (m f : ℕ) → f < 64 → length cs ≡ length ds → length y ≡ 1
    → slice_get rs f ≡ Some (l ++ y) → IsSorted (ds ++ deed.Received m f ∷ []) (cs ++ x) ss rs → IsSorted ds cs ss (set rs f l)
unsorted_receive ds cs ss x y l rs m f low same one is s = record {
  sent = s.sent ∙ (sent_more ds (deed.Received m f ∷ []) ∙ append-nil (sent_in ds));
  count = same;
  before = before_less ds (deed.Received m f) cs x same s.before;
  senders = length-set rs f l ∙ s.senders;
  received = λ q b. elim (cases_eq q f) [
    | inl e ↦
        let all : l ++ y ≡ received_in f ds ++ m ∷ [] = some_same (sym is ∙ s.received f low) ∙ received_at ds m f in
        rw e (get_set_same rs f l (omega (arith, s.senders, low)) ∙ ap Some (fronts l (received_in f ds) y (m ∷ []) all one refl))
    | inr n ↦ get_set_other rs f q l n ∙ (s.received q b ∙ ap Some (received_else ds m f q n))
  ];
}

-- what a pop took
pub one_of : (o : Option ℕ) (all : List ℕ) → IfNone o (all ≡ []) → 0 < length all → length (option_to_list o) ≡ 1
one_of None all n l = absurd (omega (arith, l, ap length n))
one_of (Some x) all n l = refl

pub one_less : (o : Option ℕ) (xs all : List ℕ) (n : ℕ) → all ≡ xs ++ option_to_list o → IfNone o (all ≡ []) → length all ≡ n + 1 → length xs ≡ n
one_less o xs all n e none l =
    let one = one_of o all none (omega (arith, l)) in
    omega (arith, one, l, ap length e, length-append xs (option_to_list o))

-- a history without its last deed, a send
pub sorted_without_send : (all ds : List Deed) (cs0 cs ss0 ss : List ℕ) (rs : List (List ℕ)) (m to : ℕ) (a b : Option ℕ) → IsSorted all cs0 ss0 rs
    → all ≡ ds ++ deed.Sent m to ∷ []
    → cs0 ≡ cs ++ option_to_list a → IfNone a (cs0 ≡ [])
    → ss0 ≡ ss ++ option_to_list b → IfNone b (ss0 ≡ []) → IsSorted ds cs ss rs
sorted_without_send all ds cs0 cs ss0 ss rs m to a b s e c cn d dn =
    let long : length all ≡ length ds + 1 = ap length e ∙ length-append ds (deed.Sent m to ∷ []) in
    let sends : ss0 ≡ sent_in ds ++ m ∷ [] = s.sent ∙ (ap sent_in e ∙ sent_more ds (deed.Sent m to ∷ [])) in
    let some : 0 < length ss0 = omega (arith, ap length sends, length-append (sent_in ds) (m ∷ [])) in
    let same : length cs ≡ length ds = one_less a cs cs0 (length ds) c cn (s.count ∙ long) in
    let sorted : IsSorted (ds ++ deed.Sent m to ∷ []) (cs ++ option_to_list a) (ss ++ option_to_list b) rs =
    subst (λ (x : List Deed). IsSorted x (cs ++ option_to_list a) (ss ++ option_to_list b) rs) e
    (subst (λ (x : List ℕ). IsSorted all x (ss ++ option_to_list b) rs) c (subst (λ (x : List ℕ). IsSorted all cs0 x rs) d s)) in
    unsorted_send ds cs ss (option_to_list a) (option_to_list b) rs m to same (one_of b ss0 dn some) sorted

-- a history without its last deed, a receive
pub sorted_without_receive : (all ds : List Deed) (cs0 cs ss l : List ℕ) (rs : List (List ℕ)) (m f : ℕ) (a b : Option ℕ) → f < 64 → IsSorted all cs0 ss rs
    → all ≡ ds ++ deed.Received m f ∷ []
    → cs0 ≡ cs ++ option_to_list a → IfNone a (cs0 ≡ [])
    → (l0 : List ℕ) → slice_get rs f ≡ Some l0 → l0 ≡ l ++ option_to_list b → IfNone b (l0 ≡ []) → IsSorted ds cs ss (set rs f l)
sorted_without_receive all ds cs0 cs ss l rs m f a b low s e c cn l0 is d dn =
    let long : length all ≡ length ds + 1 = ap length e ∙ length-append ds (deed.Received m f ∷ []) in
    let same : length cs ≡ length ds = one_less a cs cs0 (length ds) c cn (s.count ∙ long) in
    let whole : l0 ≡ received_in f ds ++ m ∷ [] = some_same (sym is ∙ s.received f low) ∙ (ap (received_in f) e ∙ received_at ds m f) in
    let some : 0 < length l0 = omega (arith, ap length whole, length-append (received_in f ds) (m ∷ [])) in
    let sorted : IsSorted (ds ++ deed.Received m f ∷ []) (cs ++ option_to_list a) ss rs =
    subst (λ (x : List Deed). IsSorted x (cs ++ option_to_list a) ss rs) e (subst (λ (x : List ℕ). IsSorted all x ss rs) c s) in
    unsorted_receive ds cs ss (option_to_list a) (option_to_list b) l rs m f low same (one_of b l0 dn some) (is ∙ ap Some d) sorted

-- the first send past a place
pub sent_past : (ds : List Deed) (cs ss : List ℕ) (rs : List (List ℕ)) (place n : ℕ) → IsSorted ds cs ss rs → slice_get cs place ≡ Some n
    → slice_get ss n ≡ slice_get (sent_in (drop place ds)) 0
sent_past ds cs ss rs place n s e =
    let low : place < length ds = omega (arith, slice_get_within cs place n e, s.count) in
    let here : n ≡ length (sent_in (take place ds)) = some_same (sym e ∙ s.before place low) in
    let whole : ss ≡ sent_in (take place ds) ++ sent_in (drop place ds) =
    s.sent ∙ (ap sent_in (sym (take-append-drop place ds)) ∙ sent_more (take place ds) (drop place ds)) in
    rw whole (get_right (sent_in (take place ds)) (sent_in (drop place ds)) 0 n (omega (arith, here)))

-- a list that a pop takes nothing of is empty
pub none_last : (o : Option ℕ) (xs : List ℕ) (n : ℕ) → length xs ≡ n → ((d : ℕ) → 0 < n → o ≡ Some (get_or xs (n - 1) d)) → IfNone o (xs ≡ [])
none_last (Some x) xs n l e = tt
none_last None [] n l e = refl
none_last None (x ∷ xs) n l e =
    let taken = e 0 (omega (arith, l)) in
    absurd (cc (taken))
