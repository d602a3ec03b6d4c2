-- What the words of `merge` name.
use Rattle.std.proofs.Common.{◌≡◌, ◌≤◌, ◌<◌, ◌∙◌, ℕ, List, [], ◌∷◌, Option, map, length, ap, sym, refl, subst, arith, codes, slice_index}
use Rattle.std.proofs.lemmas.List.{length-map}
use Rattle.std.specs.Prelude.{Some, None, option_map}
use Rattle.std.specs.Borrow.{Bor}
use Rattle.clap.specs.Words.{Row, Text, all_of, first_of}
use Rattle.kt_program.specs.declared.line.Asked.{Asked}
use Rattle.kt_program.specs.declared.line.Asked.TheVariants.{Certify, Check, Draw, Judge, Live, Merge, Play, Run}
use Rattle.kt_program.specs.declared.line.By.{By}
use Rattle.kt_program.specs.declared.line.By.TheVariants.{Serial, Threads}
use Rattle.kt_program.specs.declared.line.Merging.{Merging}
use Rattle.kt_program.specs.declared.line.Run.{Run as RunAsked}
use Rattle.kt_program.specs.Program.{NamesIn, NamesMerge, NamesRun}

-- the texts of names that are given
texts_given : (names : List (Bor Text)) → map (option_map (λ (s : Bor Text). s.now)) (map Some names) ≡ map Some (map (λ (s : Bor Text). s.now) names)
texts_given [] = refl
texts_given (name ∷ names) = ap (λ (l : List (Option Text)). Some name.now ∷ l) (texts_given names)

-- the words that are given are the parts
pub names_merge : (rows : List Row) (names : List (Bor Text)) (merging : Merging) → Some (map (λ (s : Bor Text). s.now) names) ≡ all_of (codes "part") rows → merging.parts.items ≡ map Some names
    → length names ≤ 64 → first_of (codes "log") rows ≡ option_map (λ (s : Bor Text). s.now) merging.log → NamesMerge rows merging
names_merge rows names merging all parts few log = record {
  parts_are = ap (option_map (map Some)) (sym all) ∙ ap Some (sym (ap (map (option_map (λ (s : Bor Text). s.now))) parts ∙ texts_given names));
  few = subst (λ (n : ℕ). n ≤ 64) (sym (ap length parts ∙ length-map names Some)) few;
  log_is = log;
}

-- no words, or too many, name no parts
pub no_words : (rows : List Row) → None ≡ all_of (codes "part") rows → (merging : Merging) → NamesMerge rows merging → ⊥
no_words rows none merging named = let e : None ≡ Some (map (option_map (λ (s : Bor Text). s.now)) merging.parts.items) = ap (option_map (map Some)) none ∙ named.parts_are in cc

pub too_many : (rows : List Row) (names : List (Bor Text)) → Some (map (λ (s : Bor Text). s.now) names) ≡ all_of (codes "part") rows → 64 < length names → (merging : Merging) → NamesMerge rows merging → ⊥
too_many rows names all many merging named =
    let texts = map (λ (s : Bor Text). s.now) names in
    let shown = map (option_map (λ (s : Bor Text). s.now)) merging.parts.items in
    let e : Some (map Some texts) ≡ Some shown = ap (option_map (map Some)) all ∙ named.parts_are in
    let f : map Some texts ≡ shown = cc (e) in
    let g : length (map Some texts) ≡ length shown = ap length f in
    let a = length-map texts Some in
    let b = length-map names (λ (s : Bor Text). s.now) in
    let d = length-map merging.parts.items (option_map (λ (s : Bor Text). s.now)) in
    let few = named.few in
    omega (arith, g, a, b, d, few, many)

-- no other command has this name
other : (name : Text) (letter : ℕ) → codes "merge" ≡ name → slice_index name 0 ≡ letter → letter < 109 → ⊥
other name letter e f less = let g : 109 ≡ letter = ap (λ (l : List ℕ). slice_index l 0) e ∙ f in omega (arith, g, less)

above : (name : Text) (letter : ℕ) → codes "merge" ≡ name → slice_index name 0 ≡ letter → 109 < letter → ⊥
above name letter e f more = let g : 109 ≡ letter = ap (λ (l : List ℕ). slice_index l 0) e ∙ f in omega (arith, g, more)

no_run : (by : By) (rows : List Row) (run : RunAsked) → NamesRun by (codes "merge") rows run → ⊥
no_run Serial rows run named = above (codes "play") 112 named.0 refl (omega arith)
no_run Threads rows run named = other (codes "live") 108 named.0 refl (omega arith)

pub no_merge : (rows : List Row) → ((merging : Merging) → NamesMerge rows merging → ⊥) → (asked : Asked) → ¬ NamesIn (codes "merge") rows asked
no_merge rows none (Play scenario steps log cert) named = above (codes "play") 112 named.0 refl (omega arith)
no_merge rows none (Live scenario log cert) named = other (codes "live") 108 named.0 refl (omega arith)
no_merge rows none (Run run) named = no_run run.by rows run named
no_merge rows none (Check log cert) named = other (codes "check") 99 named.0 refl (omega arith)
no_merge rows none (Judge asked) named = other (codes "check") 99 named.0 refl (omega arith)
no_merge rows none (Certify log cert) named = other (codes "certify") 99 named.0 refl (omega arith)
no_merge rows none (Draw asked) named = other (codes "draw") 100 named.0 refl (omega arith)
no_merge rows none (Merge asked) named = none asked named.1
