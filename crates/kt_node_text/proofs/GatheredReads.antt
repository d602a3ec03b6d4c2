-- Lists of messages that are read by sender.
use Rattle.std.specs.Prelude.{zero, suc}
use Rattle.std.proofs.Common.{◌≡◌, ◌≢◌, ◌∙◌, ◌+◌, ◌<◌, ◌≤◌, ℕ, List, [], ◌∷◌, ◌++◌, refl, sym, ap, arith, append_assoc, add-one, inl, inr, below_more}
use Rattle.std.proofs.lemmas.Bool.{cases_eq}
use Rattle.std.proofs.lemmas.Bool.Decides.{nat_tests}
use Rattle.std.proofs.lemmas.List.{append-nil, append_cancel_left}
use Rattle.kt_meaning.specs.Past.{at_one}
use Rattle.kt_manager.specs.declared.received.Item.{Item}
use Rattle.kt_node_text.specs.Form.{gather, counted, of_item, of_lists}

-- messages by sender, and the forms of them
abbrev pub Lists : Type 0
Lists = ℕ → List Item

abbrev pub list_form : Lists → ℕ → List ℕ
list_form lists q = counted of_item (lists q)

-- the lists of the first n senders were passed, or read
abbrev pub ArePassed : Lists → ℕ → List ℕ → ℕ → List ℕ → Type 0
ArePassed lists size after n left = gather n (list_form lists) ++ left ≡ gather size (list_form lists) ++ after

pub record AreReadUpTo (lists : Lists) (size : ℕ) (after : List ℕ) (n : ℕ) (now : Lists) (left : List ℕ) : Type 0 where
  pub read : (q : ℕ) → q < n → now q ≡ lists q
  pub none : (q : ℕ) → n ≤ q → now q ≡ []
  pub rest : ArePassed lists size after n left

split_at : (f : ℕ → List ℕ) (i n : ℕ) → i ≤ n → (t : List ℕ) × (gather n f ≡ gather i f ++ t)
unfolding gather
split_at f i zero b =
    let e : i ≡ 0 = omega arith in
    ([], sym (append-nil (gather zero f)) ∙ ap (λ (k : ℕ). gather k f ++ []) (sym e))
split_at f i (suc n) b = elim (cases_eq i (suc n)) [
  | inl e ↦ ([], sym (append-nil (gather (suc n) f)) ∙ ap (λ (k : ℕ). gather k f ++ []) (sym e))
  | inr other ↦
      let t = split_at f i n (omega arith) in
      (t.0 ++ f n, ap (λ (l : List ℕ). l ++ f n) t.1 ∙ append_assoc (gather i f) t.0 (f n))
]

one_more : (f : ℕ → List ℕ) (n : ℕ) → gather (n + 1) f ≡ gather n f ++ f n
unfolding gather
one_more f n = rw add-one refl

-- what is left begins with the form of the next list
pub next_list : (f : ℕ → List ℕ) (size n : ℕ) (after left : List ℕ) → n < size → gather n f ++ left ≡ gather size f ++ after →
    (t : List ℕ) × (left ≡ f n ++ t) × (gather (n + 1) f ++ t ≡ gather size f ++ after)
next_list f size n after left b e =
    let s = split_at f (n + 1) size (omega arith) in
    let t = s.0 ++ after in
    let whole : gather size f ++ after ≡ gather (n + 1) f ++ t = ap (λ (l : List ℕ). l ++ after) s.1 ∙ append_assoc (gather (n + 1) f) s.0 after in
    let first : gather (n + 1) f ++ t ≡ gather n f ++ (f n ++ t) = ap (λ (l : List ℕ). l ++ t) (one_more f n) ∙ append_assoc (gather n f) (f n) t in
    (t, append_cancel_left (gather n f) left (f n ++ t) (e ∙ (whole ∙ first)), sym whole)

pub none_passed : (lists : Lists) (size : ℕ) (after left : List ℕ) → left ≡ of_lists size lists ++ after → ArePassed lists size after 0 left
unfolding gather
none_passed lists size after left e = e

pub more_passed : (lists : Lists) (size : ℕ) (after : List ℕ) (n : ℕ) (t rest : List ℕ) →
    gather (n + 1) (list_form lists) ++ t ≡ gather size (list_form lists) ++ after → rest ≡ t → ArePassed lists size after (n + 1) rest
more_passed lists size after n t rest e f = ap (λ (l : List ℕ). gather (n + 1) (list_form lists) ++ l) f ∙ e

pub all_passed : (lists : Lists) (size : ℕ) (after : List ℕ) (n : ℕ) (left : List ℕ) → ArePassed lists size after n left → size ≡ n → left ≡ after
all_passed lists size after n left h e =
    append_cancel_left (gather size (list_form lists)) left after (ap (λ (k : ℕ). gather k (list_form lists) ++ left) e ∙ h)

pub none_read : (lists now : Lists) (size : ℕ) (after left : List ℕ) → ((q : ℕ) → now q ≡ []) → left ≡ of_lists size lists ++ after →
    AreReadUpTo lists size after 0 now left
none_read lists now size after left h e = record {
  read = λ q b. absurd (omega arith);
  none = λ q b. h q;
  rest = none_passed lists size after left e;
}

-- one more list was read, after nothing of its sender
pub more_read : (lists : Lists) (size : ℕ) (after : List ℕ) (n : ℕ) (now new : Lists) (left t rest : List ℕ) → AreReadUpTo lists size after n now left →
    gather (n + 1) (list_form lists) ++ t ≡ gather size (list_form lists) ++ after → ((q : ℕ) → q ≢ n → new q ≡ now q) →
    (new n ≡ now n ++ lists n) × (rest ≡ t) → AreReadUpTo lists size after (n + 1) new rest
more_read lists size after n now new left t rest h e others f = record {
  read = below_more (λ (q : ℕ). new q ≡ lists q) n
      (λ q b. others q (omega arith) ∙ h.read q b)
      (f.0 ∙ ap (λ (l : List Item). l ++ lists n) (h.none n (omega arith)));
  none = λ q b. others q (omega arith) ∙ h.none q (omega arith);
  rest = more_passed lists size after n t rest e f.1;
}

pub all_read : (lists : Lists) (size : ℕ) (after : List ℕ) (n : ℕ) (now : Lists) (left : List ℕ) → AreReadUpTo lists size after n now left → size ≡ n →
    ((q : ℕ) → q < size → now q ≡ lists q) × (left ≡ after)
all_read lists size after n now left h e = (λ q b. h.read q (omega arith), all_passed lists size after n left h.rest e)

-- lists after one message more of one process
pub same_one : (from : ℕ) (x : List Item) (f : Lists) → at_one from x f from ≡ x
same_one from x f = grind (arith, nat_tests)

pub other_one : (from : ℕ) (x : List Item) (f : Lists) (q : ℕ) → q ≢ from → at_one from x f q ≡ f q
other_one from x f q h = grind (arith, nat_tests)

pub one_put : (old mid new : Lists) (from : ℕ) (x : Item) → mid ≡ old → new ≡ at_one from (mid from ++ x ∷ []) mid → new from ≡ old from ++ x ∷ []
one_put old mid new from x e f =
    ap (λ (g : Lists). g from) f ∙ (same_one from (mid from ++ x ∷ []) mid ∙ ap (λ (g : Lists). g from ++ x ∷ []) e)

pub others_stay : (old mid new : Lists) (from : ℕ) (x : Item) (q : ℕ) → mid ≡ old → new ≡ at_one from (mid from ++ x ∷ []) mid → q ≢ from → new q ≡ old q
others_stay old mid new from x q e f h =
    ap (λ (g : Lists). g q) f ∙ (other_one from (mid from ++ x ∷ []) mid q h ∙ ap (λ (g : Lists). g q) e)
