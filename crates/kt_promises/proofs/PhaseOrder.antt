-- What one process has to do: its own commands, whose phases never fall.
use Rattle.std.specs.List.{list_any}
use Rattle.std.proofs.Common.{◌≡◌, ℕ, zero, suc, ◌≤◌, ◌<◌, Bool, true, false, List, [], ◌∷◌, refl, arith, subst, drop}
use Rattle.std.specs.Prelude.{◌==◌, ◌||◌, ◌&&◌, not, max, slice_get, is_some}
use Rattle.std.proofs.lemmas.Bool.Decides.{nat_tests}
use Rattle.kt_protocol.proofs.Choices.{at_if, same}
use Rattle.kt_protocol.specs.Deciding.{none_of}
use Rattle.kt_plan.specs.declared.commands.Command.{Command}
use Rattle.kt_plan.specs.Limits.{IsJobOf}
use Rattle.kt_meaning.specs.Follows.{commands_of}
use Rattle.kt_promises.specs.Plans.{last_phase}

-- each command is of one of n processes, and phases never fall from low on
abbrev pub AreInPhases : ℕ → ℕ → List Command → Type 0
AreInPhases n low [] = Unit {0}
AreInPhases n low (c ∷ cs) = (c.by < n) × IsJobOf n c.by c.job × (low ≤ c.phase) × AreInPhases n c.phase cs

-- so it is of the commands of p
abbrev pub Ordered : ℕ → ℕ → ℕ → List Command → Type 0
Ordered n p low [] = Unit {0}
Ordered n p low (c ∷ cs) = (p < n) × IsJobOf n p c.job × (low ≤ c.phase) × Ordered n p c.phase cs

pub lower : (n p low low' : ℕ) (l : List Command) → low' ≤ low → Ordered n p low l → Ordered n p low' l
lower n p low low' [] h o = tt
lower n p low low' (c ∷ cs) h o = (o.0, o.1, (let x = o.2 in omega (arith, h, x)), o.3)

pub ordered : (n p low : ℕ) (l : List Command) → AreInPhases n low l → Ordered n p low (commands_of p l)
ordered n p low [] o = tt
ordered n p low (c ∷ cs) o = let r = ordered n p c.phase cs o.3 in at_if (Ordered n p low) (c.by == p) (c ∷ commands_of p cs) (commands_of p cs)
    (λ e. let x = here (same c.by p e) in (x.0, x.1, o.2, r))
    (λ e. lower n p c.phase low (commands_of p cs) o.2 r)
  where
    here : c.by ≡ p → (p < n) × IsJobOf n p c.job
    here e = subst (λ (x : ℕ). (x < n) × IsJobOf n x c.job) e (o.0, o.1)

pub dropped : (k n p low : ℕ) (l : List Command) → Ordered n p low l → Ordered n p low (drop k l)
dropped zero n p low l o = o
dropped (suc k) n p low [] o = o
dropped (suc k) n p low (c ∷ cs) o = lower n p c.phase low (drop k cs) o.2 (dropped k n p c.phase cs o.3)

-- what follows the first that is left
pub drop_next : (k : ℕ) (l : List Command) (c : Command) (cs : List Command) → drop k l ≡ c ∷ cs → drop (suc k) l ≡ cs
drop_next zero [] c cs e = absurd (cc (e))
drop_next zero (x ∷ xs) c cs e = cc (e)
drop_next (suc k) [] c cs e = absurd (cc (e))
drop_next (suc k) (x ∷ xs) c cs e = drop_next k xs c cs e

-- without commands of a phase, the later ones are left
pub past : (n p k : ℕ) (l : List Command) → Ordered n p k l → list_any (λ (x : Command). x.phase == k) l ≡ false → Ordered n p (suc k) l
past n p k [] o e = tt
past n p k (c ∷ cs) o e = (o.0, o.1, later c.phase (list_any (λ (x : Command). x.phase == k) cs) o.2 e, o.3)
  where
    later : (x : ℕ) (b : Bool) → k ≤ x → (x == k || b) ≡ false → suc k ≤ x
    later x b h e = grind (arith, nat_tests, h, e)

pub beyond : (n p low : ℕ) (l : List Command) → n ≤ p → Ordered n p low l → l ≡ []
beyond n p low [] h o = refl
beyond n p low (c ∷ cs) h o = let x = o.0 in absurd (omega (arith, h, x))

-- what is left where no phase is later
abbrev pub UpTo : ℕ → List Command → Type 0
UpTo m [] = Unit {0}
UpTo m (c ∷ cs) = (c.phase ≤ m) × UpTo m cs

pub up_to_more : (m m' : ℕ) (l : List Command) → m ≤ m' → UpTo m l → UpTo m' l
up_to_more m m' [] h u = tt
up_to_more m m' (c ∷ cs) h u = ((let x = u.0 in omega (arith, h, x)), up_to_more m m' cs h u.1)

pub up_to_last : (l : List Command) → UpTo (last_phase l) l
up_to_last [] = tt
up_to_last (c ∷ cs) = (omega arith, up_to_more (last_phase cs) (max c.phase (last_phase cs)) cs (omega arith) (up_to_last cs))

pub up_to_of : (m p : ℕ) (l : List Command) → UpTo m l → UpTo m (commands_of p l)
up_to_of m p [] u = tt
up_to_of m p (c ∷ cs) u = let r = up_to_of m p cs u.1 in at_if (UpTo m) (c.by == p) (c ∷ commands_of p cs) (commands_of p cs) (λ e. (u.0, r)) (λ e. r)

pub up_to_drop : (m k : ℕ) (l : List Command) → UpTo m l → UpTo m (drop k l)
up_to_drop m zero l u = u
up_to_drop m (suc k) [] u = u
up_to_drop m (suc k) (c ∷ cs) u = up_to_drop m k cs u.1

-- none is left where the open phase has none and none is later
pub none_left : (n p k m : ℕ) (l : List Command) → Ordered n p k l → UpTo m l → m ≤ k → list_any (λ (x : Command). x.phase == k) l ≡ false → is_some (slice_get l 0) ≡ false
none_left n p k m [] o u h e = refl
none_left n p k m (c ∷ cs) o u h e = absurd (first c.phase (list_any (λ (x : Command). x.phase == k) cs) o.2 u.0 e)
  where
    first : (x : ℕ) (b : Bool) → k ≤ x → x ≤ m → (x == k || b) ≡ false → ⊥
    first x b i j e = grind (arith, nat_tests, h, i, j, e)

-- tests of all below n
pub none_of_if : (n : ℕ) (f : ℕ → Bool) → ((v : ℕ) → v < n → f v ≡ false) → none_of n f ≡ true
none_of_if zero f h = refl
none_of_if (suc n) f h = let a = h n (omega arith) in let b = none_of_if n f (λ v l. h v (omega (arith, l))) in rw (a, b) refl

-- one that passes
pub somebody : (n : ℕ) (f : ℕ → Bool) → none_of n f ≡ false → (v : ℕ) × (v < n) × (f v ≡ true)
somebody zero f h = absurd (cc (h))
somebody (suc n) f h = go (somebody n f) (f n) refl h
  where
    go : (none_of n f ≡ false → (v : ℕ) × (v < n) × (f v ≡ true)) → (b : Bool) → f n ≡ b → (not b && none_of n f) ≡ false → (v : ℕ) × (v < suc n) × (f v ≡ true)
    go r true e h = (n, omega arith, e)
    go r false e h = let x = r h in (x.0, (let l = x.1 in omega (arith, l)), x.2)

-- who has no command left has no turn
pub never_both : (b : Bool) → (b && false) ≡ true → ⊥
never_both true e = cc (e)
never_both false e = cc (e)
