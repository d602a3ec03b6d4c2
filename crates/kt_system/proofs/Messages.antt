-- Messages sent, taken and received, as the machine has them.
use Rattle.std.specs.Prelude.{◌==◌, nat_lt, if◌then◌else◌}
use Rattle.std.proofs.Common.{◌≡◌, ◌<◌, ◌+◌, ℕ, Bool, true, false, List, [], ◌∷◌, ◌++◌, refl, arith, ap, subst, sym}
use Rattle.std.specs.Prelude.{ℤ}
use Rattle.std.proofs.lemmas.Bool.Decides.{nat_tests}
use Rattle.kt_base.specs.declared.words.Cause.TheVariants.{Down}
use Rattle.kt_base.specs.declared.words.Verb.TheVariants as verb
use Rattle.kt_meaning.specs.Past.{at_one}
use Rattle.kt_tables.specs.Calls.{Call, sent, Speaks}
use Rattle.kt_protocol.specs.States.{Send, Fail}
use Rattle.kt_machine.specs.Seen.{SeenProcess, SeenLists, Seen}
use Rattle.kt_machine.specs.SeenMessages.{seen_sending, seen_refusal, seen_failing, seen_receiving, seen_dropping, seen_arrival}
use Rattle.kt_machine.specs.Transition.{transition}

pub at_same : {X : Type 0} (p : ℕ) (x : X) (f : ℕ → X) → at_one p x f p ≡ x
at_same p x f = grind (arith, nat_tests)

is_less : (a b : ℕ) → a < b → nat_lt a b ≡ true
is_less a b h = grind (arith, nat_tests)

apart : (a b : ℕ) → (a ≡ b → ⊥) → (a == b) ≡ false
apart a b h = grind (arith, nat_tests)

-- a send of a process in no instance
pub sends_as : (v : Seen) (p q : ℕ) (body : ℤ) → p < v.processes → q < v.processes → (v.states p).inst ≡ 0 → (q ≡ p → ⊥) →
    (if (v.states p).up then seen_sending v p q body else seen_refusal v p verb.Send Down) ≡ transition v (Send p q body)
sends_as v p q body a b i n =
    let x = is_less p v.processes a in
    let y = is_less q v.processes b in
    let z = apart q p n in
    let w : ((v.states p).inst == 0) ≡ true = ap (λ (k : ℕ). k == 0) i in
    rw (x, y, w, z) refl

pub sends_up : (v : Seen) (p q : ℕ) (body : ℤ) → p < v.processes → q < v.processes → (v.states p).inst ≡ 0 → (q ≡ p → ⊥) → (v.states p).up ≡ true → seen_sending v p q body ≡ transition v (Send p q body)
sends_up v p q body a b i n u = subst (λ (up : Bool). (if up then seen_sending v p q body else seen_refusal v p verb.Send Down) ≡ transition v (Send p q body)) u (sends_as v p q body a b i n)

pub sends_down : (v : Seen) (p q : ℕ) (body : ℤ) → p < v.processes → q < v.processes → (v.states p).inst ≡ 0 → (q ≡ p → ⊥) → (v.states p).up ≡ false → seen_refusal v p verb.Send Down ≡ transition v (Send p q body)
sends_down v p q body a b i n u = subst (λ (up : Bool). (if up then seen_sending v p q body else seen_refusal v p verb.Send Down) ≡ transition v (Send p q body)) u (sends_as v p q body a b i n)

-- the calls of a sender
pub speaks_sent : (v : Seen) (p q : ℕ) (body : ℤ) → p < v.processes → q < v.processes → (v.states p).inst ≡ 0 → (q ≡ p → ⊥) → (v.states p).up ≡ true →
    Speaks (((transition v (Send p q body)).states p).calls) → Speaks ((v.states p).calls ++ sent q ((v.states p).used + 1) ∷ [])
speaks_sent v p q body a b i n u h =
    subst (λ (l : List Call). Speaks l) (ap (λ (x : SeenProcess). x.calls) (at_same p _ v.states)) (subst (λ (z : Seen). Speaks ((z.states p).calls)) (sym (sends_up v p q body a b i n u)) h)

pub fails_up : (v : Seen) (p : ℕ) → (v.states p).up ≡ true → seen_failing v p ≡ transition v (Fail p)
fails_up v p u = rw u refl

pub fails_down : (v : Seen) (p : ℕ) → (v.states p).up ≡ false → seen_refusal v p verb.Fail Down ≡ transition v (Fail p)
fails_down v p u = rw u refl

pub arrives_up : (v : Seen) (channels held : SeenLists) (p q l m : ℕ) (body : ℤ) → (v.states p).up ≡ true → seen_receiving v channels held p q l m body ≡ seen_arrival v channels held p q l m body
arrives_up v channels held p q l m body u = rw u refl

pub arrives_down : (v : Seen) (channels held : SeenLists) (p q l m : ℕ) (body : ℤ) → (v.states p).up ≡ false → seen_dropping v channels held p q m ≡ seen_arrival v channels held p q l m body
arrives_down v channels held p q l m body u = rw u refl
