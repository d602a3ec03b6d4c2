-- As many errands of a process are the same, in beginnings of one history.
use Rattle.std.proofs.Common.{◌≡◌, ◌∙◌, ◌+◌, ◌==◌, arith, ℕ, List, [], ◌∷◌, ◌++◌, true, length, length-append, map, refl, ap, sym, subst}
use Rattle.std.specs.Prelude.{filter, replicate}
use Rattle.std.proofs.lemmas.List.{get_or-replicate, map-append}
use Rattle.std.proofs.lemmas.List.Elements.{filter-append}
use Rattle.std.proofs.lemmas.Bool.Decides.{nat_tests}
use mathlib.Core.List.{IsPrefix}
use Rattle.kt_threads.specs.declared.asked.Entry.{Entry}
use Rattle.kt_threads.specs.Books.{errands_by, AreCounted, IsLast}
use Rattle.kt_threads.proofs.Fronts.{prefix_shorter, prefix_trans, prefix_whole}

by_append : (p : ℕ) (xs ys : List Entry) → errands_by p (xs ++ ys) ≡ errands_by p xs ++ errands_by p ys
by_append p xs ys =
    ap (map (λ (e : Entry). e.errand)) (filter-append (λ (e : Entry). e.by == p) xs ys)
    ∙ map-append (λ (e : Entry). e.errand) (filter (λ (e : Entry). e.by == p) xs) (filter (λ (e : Entry). e.by == p) ys)

by_prefix : (p : ℕ) (xs zs : List Entry) → IsPrefix xs zs → IsPrefix (errands_by p xs) (errands_by p zs)
by_prefix p xs zs b = (errands_by p b.0, sym (by_append p xs b.0) ∙ ap (errands_by p) b.1)

by_itself : (e : Entry) (p : ℕ) → e.by ≡ p → errands_by p (e ∷ []) ≡ e.errand ∷ []
by_itself e p is =
    let t : (e.by == p) ≡ true = grind (arith, nat_tests) in
    rw t refl

pub as_many : (p : ℕ) (xs ys all : List Entry) → IsPrefix xs all → IsPrefix ys all
    → length (errands_by p xs) ≡ length (errands_by p ys) → errands_by p xs ≡ errands_by p ys
as_many p xs ys all a b same =
    prefix_whole (errands_by p xs) (errands_by p ys)
    (prefix_shorter (errands_by p xs) (errands_by p ys) (errands_by p all) (by_prefix p xs all a) (by_prefix p ys all b) (omega (arith, same)))
    (omega (arith, same))

-- one more than in another beginning is the last one
pub one_more : (p : ℕ) (front noted all : List Entry) (last : Entry) (n count : ℕ) → last.by ≡ p → IsLast noted last count
    → n ≡ length (errands_by p front) → count ≡ n + 1 → IsPrefix front all → IsPrefix noted all
    → errands_by p noted ≡ errands_by p front ++ last.errand ∷ []
one_more p front noted all last n count is ends known more a b =
    let parts : errands_by p noted ≡ errands_by p ends.before ++ last.errand ∷ [] =
    ap (errands_by p) ends.ends ∙ (by_append p ends.before (last ∷ []) ∙ ap (λ l. errands_by p ends.before ++ l) (by_itself last p is)) in
    let has : count ≡ length (errands_by p noted) = subst (λ (q : ℕ). count ≡ length (errands_by q noted)) is ends.counted in
    let long : length (errands_by p noted) ≡ length (errands_by p ends.before) + 1 = ap length parts ∙ length-append (errands_by p ends.before) (last.errand ∷ []) in
    let before : IsPrefix ends.before all = prefix_trans ends.before noted all (last ∷ [], sym ends.ends) b in
    parts ∙ ap (λ l. l ++ last.errand ∷ []) (as_many p ends.before front all before a (omega (arith, has, long, known, more)))

pub none_counted : (entries : List Entry) → entries ≡ [] → AreCounted (replicate 64 0) entries
none_counted entries none = record { count = refl; each = λ p l. get_or-replicate 64 p 0 0 l ∙ sym (ap (λ (es : List Entry). length (errands_by p es)) none) }
