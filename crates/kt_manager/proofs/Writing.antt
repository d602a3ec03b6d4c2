-- What a write at one sender's place changes.
use Rattle.std.specs.Prelude.{nat_eq, if◌then◌else◌}
use Rattle.std.proofs.Common.{◌≡◌, ℕ, ◌<◌, Bool, true, false, length, set, get_or, refl, arith, sym, ap, subst, ◌∙◌, inl, inr}
use Rattle.std.proofs.Math.Path.{fun_ext}
use Rattle.std.proofs.lemmas.List.{get_or-set_other, get_or_default}
use Rattle.std.proofs.lemmas.Bool.Decides.{nat_tests}
use Rattle.std.proofs.lemmas.Bool.{cases_eq}
use Rattle.std.proofs.lemmas.Grind.{get_or-set_at}
use Rattle.kt_meaning.specs.Past.{at_one}
use Rattle.kt_manager.specs.Messages.{Messages, no_messages}
use Rattle.kt_manager.specs.Inboxes.{InboxLists, messages_of}

-- the messages of a sender were read at its place
pub record IsRead (b : InboxLists) (q i : ℕ) (x : Messages) : Type 0 where
  pub place : i ≡ q
  pub inside : q < length b.senders
  pub value : x ≡ get_or b.senders i x

-- other messages at one place
abbrev pub written : InboxLists → ℕ → Messages → InboxLists
written b i m = record { senders = set b.senders i m }

pub read_of : (b : InboxLists) (q i : ℕ) (x : Messages) → IsRead b q i x → messages_of b q ≡ x
read_of b q i x r =
    let p = r.place in
    let within : i < length b.senders = omega (arith, r.inside) in
    ap (λ (j : ℕ). get_or b.senders j no_messages) (sym p) ∙ (sym (get_or_default b.senders i x no_messages within) ∙ sym r.value)

pub messages_written : (b : InboxLists) (q i : ℕ) (x y : Messages) → IsRead b q i x → messages_of (written b i y) ≡ at_one q y (messages_of b)
messages_written b q i x y r =
    fun_ext (λ u. let p = r.place in let within = r.inside in grind (arith, nat_tests, get_or-set_other, get_or-set_at))

part_if : {X : Type 0} (part : Messages → X) (c : Bool) (x y : Messages) → part (if c then x else y) ≡ (if c then part x else part y)
part_if part true x y = refl
part_if part false x y = refl

-- one part of the messages of one sender becomes what f makes of them
pub part_changed : {X : Type 0} (part f : Messages → X) (b : InboxLists) (q i : ℕ) (x y : Messages) → IsRead b q i x → part y ≡ f x →
    ◌≡◌ {A = ℕ → X} (λ u. part (messages_of (written b i y) u)) (at_one q (f (messages_of b q)) (λ u. part (messages_of b u)))
part_changed {X} part f b q i x y r e =
    ap (λ (g : ℕ → Messages). λ (u : ℕ). part (g u)) (messages_written b q i x y r)
    ∙ (fun_ext (λ u. part_if part (nat_eq u q) y (messages_of b u))
    ∙ ap (λ (z : X). at_one q z (λ (u : ℕ). part (messages_of b u))) (e ∙ ap f (sym (read_of b q i x r))))

at_itself : {X : Type 0} (q : ℕ) (f : ℕ → X) (u : ℕ) → at_one q (f q) f u ≡ f u
at_itself q f u = elim (cases_eq u q) [
  | inl e ↦ rw e (grind (arith, nat_tests))
  | inr n ↦ grind (arith, nat_tests)
]

-- and stays, where it is the same as before
pub part_kept : {X : Type 0} (part : Messages → X) (b : InboxLists) (q i : ℕ) (x y : Messages) → IsRead b q i x → part y ≡ part x →
    ◌≡◌ {A = ℕ → X} (λ u. part (messages_of (written b i y) u)) (λ u. part (messages_of b u))
part_kept {X} part b q i x y r e =
    part_changed part part b q i x y r e ∙ fun_ext (λ u. at_itself q (λ (v : ℕ). part (messages_of b v)) u)

pub read_at : (b now : InboxLists) (q i : ℕ) (x : Messages) → b ≡ now → q < length now.senders → i ≡ q → x ≡ get_or b.senders i x → IsRead b q i x
read_at b now q i x same inside place value =
    record { place = place; inside = subst (λ (v : InboxLists). q < length v.senders) (sym same) inside; value = value }
