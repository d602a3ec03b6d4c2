-- A message that is taken.
use Rattle.std.proofs.Common.{◌≡◌, ◌≢◌, ℕ, ◌+◌, ◌≤◌, ◌<◌, Bool, true, false, not, [], ◌∷◌, ◌++◌, length, refl, arith, sym, subst, inl, inr, ◌⊎◌, Some, ◌∙◌}
use Rattle.std.specs.Prelude.{◌==◌, ◌&&◌, if◌then◌else◌, slice_get}
use Rattle.std.proofs.lemmas.Bool.{cases_eq}
use Rattle.std.proofs.lemmas.Bool.Decides.{nat_tests}
use Rattle.kt_spacetime.specs.declared.deeds.Deed.TheVariants as deed
use Rattle.kt_meaning.specs.Past.{at_one}
use Rattle.kt_protocol.proofs.Invariant.{Invariant, is_message, is_ask, one}
use Rattle.kt_protocol.proofs.Updates.{at_one_here, at_one_other, is_same, place_cases, place_new, place_old}
use Rattle.kt_protocol.proofs.Weights.{behind, weigh}
use Rattle.kt_protocol.specs.Parcels.{App, Parcel, Lists}
use Rattle.kt_protocol.specs.States.{State, is_ready}

-- m of q stands in a list of q to p, and is taken out of it
pub record Taking (s : State) (channel held : Lists) (p q m : ℕ) : Type 0 where
  pub others : (f : Parcel → ℕ) → ((n : ℕ) → f (App n) ≡ 0) → (u v : ℕ) → weigh f (channel u v) ≡ weigh f (s.channel u v)
  pub messages : (n u v : ℕ) → weigh (is_message n) (channel u v) + weigh (is_message n) (held u v) + (if u == q && v == p then one (m == n) else 0) ≡ weigh (is_message n) (s.channel u v) + weigh (is_message n) (s.held u v)
  pub less : (n u v : ℕ) → weigh (is_message n) (channel u v) ≤ weigh (is_message n) (s.channel u v)
  pub less_held : (n u v : ℕ) → weigh (is_message n) (held u v) ≤ weigh (is_message n) (s.held u v)
  pub front : (u v : ℕ) → behind (channel u v) ≡ 0

pub message_facts : (s : State) (channel held : Lists) (p q m : ℕ) → Taking s channel held p q m → Invariant s → (s.so_far.is_sent m ≡ true) × (s.so_far.is_received m ≡ false) × (s.so_far.dropped m ≡ false) × (s.so_far.from m ≡ q) × (s.so_far.to m ≡ p)
message_facts s channel held p q m t g = let a = t.messages m q p in let b = g.messages.flying m q p in grind (arith, nat_tests, a, b, is_same m, is_same q, is_same p)

-- a message that is taken is in transit no longer
pub flying_received : (m n q p u v from to x y : ℕ) (S G D : Bool) → x + (if u == q && v == p then one (m == n) else 0) ≡ y → y ≡ one (S && not G && not D && from == u && to == v) → (n ≡ m → (S ≡ true) × (G ≡ false) × (D ≡ false) × (from ≡ q) × (to ≡ p)) → x ≡ one (S && not (if n == m then true else G) && not D && from == u && to == v)
flying_received m n q p u v from to x y S G D e f g = elim (cases_eq n m) [
  | inl h ↦ (let z = g h in let a = z.0 in let b = z.1 in let c = z.2 in let i = z.3 in let j = z.4 in grind (arith, nat_tests, e, f, h, a, b, c, i, j))
  | inr h ↦ grind (arith, nat_tests, e, f, h)
]

pub flying_dropped : (m n q p u v from to x y : ℕ) (S G D : Bool) → x + (if u == q && v == p then one (m == n) else 0) ≡ y → y ≡ one (S && not G && not D && from == u && to == v) → (n ≡ m → (S ≡ true) × (G ≡ false) × (D ≡ false) × (from ≡ q) × (to ≡ p)) → x ≡ one (S && not G && not (if n == m then true else D) && from == u && to == v)
flying_dropped m n q p u v from to x y S G D e f g = elim (cases_eq n m) [
  | inl h ↦ (let z = g h in let a = z.0 in let b = z.1 in let c = z.2 in let i = z.3 in let j = z.4 in grind (arith, nat_tests, e, f, h, a, b, c, i, j))
  | inr h ↦ grind (arith, nat_tests, e, f, h)
]

-- a member of a rollback that is not decided applies nothing
pub not_ready : (s : State) (k p : ℕ) → is_ready s p ≡ false → Invariant s → s.so_far.is_decided k ≡ false → s.so_far.is_rollback k ≡ true → s.so_far.joined k p ≡ true → ⊥
not_ready s k p y g d r j = let a = g.positions.member_open k p j d in let b = (g.positions.joined_instance k p j).0 in let c : s.so_far.is_rollback (s.so_far.open_in p) ≡ true = rw a r in grind (arith, nat_tests, y, c, b, a)

pub received_is_taken : (s : State) (p q m : ℕ) → s.so_far.is_received m ≡ false → s.so_far.to m ≡ p → s.so_far.from m ≡ q → Invariant s → (y i n t : ℕ) → slice_get (at_one p (s.so_far.live p ++ deed.Received m q ∷ []) s.so_far.live y) i ≡ Some (deed.Received n t) → (at_one m true s.so_far.is_received n ≡ true) × (s.so_far.to n ≡ y) × (at_one m (s.so_far.size p) s.so_far.received_at n ≡ i) × (s.so_far.from n ≡ t)
received_is_taken s p q m not_yet to fr g y i n t h = elim (place_cases s.so_far.live p (deed.Received m q) y i (deed.Received n t) h) [
  | inl a ↦ old (g.histories.received_is y i n t a)
  | inr b ↦ (let b2 = b.2 in let e : m ≡ n = cc (b2) in let f : q ≡ t = cc (b2) in new e f b.0 b.1)
]
  where
    old : (s.so_far.is_received n ≡ true) × (s.so_far.to n ≡ y) × (s.so_far.received_at n ≡ i) × (s.so_far.from n ≡ t) → (at_one m true s.so_far.is_received n ≡ true) × (s.so_far.to n ≡ y) × (at_one m (s.so_far.size p) s.so_far.received_at n ≡ i) × (s.so_far.from n ≡ t)
    old a = grind (arith, nat_tests)

    new : m ≡ n → q ≡ t → y ≡ p → i ≡ length (s.so_far.live p) → (at_one m true s.so_far.is_received n ≡ true) × (s.so_far.to n ≡ y) × (at_one m (s.so_far.size p) s.so_far.received_at n ≡ i) × (s.so_far.from n ≡ t)
    new e f a b = grind (arith, nat_tests, g.histories.size_is p)

pub received_there_taken : (s : State) (p q m : ℕ) → s.so_far.to m ≡ p → s.so_far.from m ≡ q → Invariant s → (n : ℕ) → at_one m true s.so_far.is_received n ≡ true → slice_get (at_one p (s.so_far.live p ++ deed.Received m q ∷ []) s.so_far.live (s.so_far.to n)) (at_one m (s.so_far.size p) s.so_far.received_at n) ≡ Some (deed.Received n (s.so_far.from n))
received_there_taken s p q m t f g n h = elim (cases_eq n m) [
  | inl e ↦ subst (λ (x : ℕ). slice_get (at_one p (s.so_far.live p ++ deed.Received m q ∷ []) s.so_far.live (s.so_far.to x)) (at_one m (s.so_far.size p) s.so_far.received_at x) ≡ Some (deed.Received x (s.so_far.from x))) (sym e)
      (rw (t, f, at_one_here m (s.so_far.size p) s.so_far.received_at) (place_new s.so_far.live p (deed.Received m q) (s.so_far.size p) (g.histories.size_is p)))
  | inr d ↦ rw (at_one_other m n (s.so_far.size p) s.so_far.received_at d) (place_old s.so_far.live p (deed.Received m q) (s.so_far.to n) (s.so_far.received_at n) (deed.Received n (s.so_far.from n)) (g.histories.received_there n (sym (at_one_other m n true s.so_far.is_received d) ∙ h)))
]

pub undone_receiving : (s : State) (channel held : Lists) (p q m : ℕ) → is_ready s p ≡ false → Taking s channel held p q m → Invariant s → (k n : ℕ) → s.so_far.is_decided k ≡ false → s.so_far.is_rollback k ≡ true → s.so_far.has_unwilling k ≡ false → s.so_far.joined k (s.so_far.from n) ≡ true → s.so_far.is_sent n ≡ true → s.so_far.permanent (s.so_far.from n) ≤ s.so_far.sent_at n →
    (0 < weigh (is_ask k) (channel (s.so_far.from n) (s.so_far.to n))) ⊎ ((weigh (is_message n) (channel (s.so_far.from n) (s.so_far.to n)) ≡ 0) × (((s.so_far.joined k (s.so_far.to n) ≡ true) × (s.noted k (s.so_far.to n) (s.so_far.from n) ≡ true)) ⊎ ((at_one m true s.so_far.is_received n ≡ false) × (weigh (is_message n) (held (s.so_far.from n) (s.so_far.to n)) ≡ 0))))
undone_receiving s channel held p q m y t g k n d r w j a b =
    let f = message_facts s channel held p q m t g in
    elim (g.consistent.undone_or_asked k n d r w j a b) [
      | inl c ↦ inl (rw (t.others (is_ask k) (λ n. refl) (s.so_far.from n) (s.so_far.to n)) c)
      | inr c ↦ inr (
        omega (arith, t.less n (s.so_far.from n) (s.so_far.to n), c.0),
        elim c.1 [
          | inl x ↦ inl x
          | inr x ↦ inr (
              let z : n ≢ m = λ e. here f e c.0 x.1 in
              (at_one_other m n true s.so_far.is_received z ∙ x.0, omega (arith, t.less_held n (s.so_far.from n) (s.so_far.to n), x.1)))
        ],
      )
    ]
  where
    here : (s.so_far.is_sent m ≡ true) × (s.so_far.is_received m ≡ false) × (s.so_far.dropped m ≡ false) × (s.so_far.from m ≡ q) × (s.so_far.to m ≡ p) → n ≡ m → weigh (is_message n) (s.channel (s.so_far.from n) (s.so_far.to n)) ≡ 0 → weigh (is_message n) (s.held (s.so_far.from n) (s.so_far.to n)) ≡ 0 → ⊥
    here f e x z = let fl = g.messages.flying n (s.so_far.from n) (s.so_far.to n) in let a : s.so_far.is_sent n ≡ true = rw e f.0 in let b : s.so_far.is_received n ≡ false = rw e f.1 in let c : s.so_far.dropped n ≡ false = rw e f.2 in grind (arith, nat_tests, x, z, fl, a, b, c, is_same (s.so_far.from n), is_same (s.so_far.to n))
