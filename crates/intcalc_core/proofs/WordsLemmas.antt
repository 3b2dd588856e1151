-- What words are.
use Rattle.intcalc_core.proofs.Common.{◌≡◌, ℕ, ◌+◌, ◌≤◌, ◌<◌, List, [], ◌∷◌, length, get_or, map, Some, Bor, ℤ, ◌∙◌, arith, range_with_len, get_or-map, length-map, fill_by_all}

-- equal in `Some`, and so equal
pub map_Some_same : (xs ys : List ℤ) → map Some xs ≡ map Some ys → xs ≡ ys
map_Some_same [] [] e = cc
map_Some_same [] (y ∷ ys) e = cc
map_Some_same (x ∷ xs) [] e = cc
map_Some_same (x ∷ xs) (y ∷ ys) e =
    let t : map Some xs ≡ map Some ys = cc in
    let tail = map_Some_same xs ys t in
    cc

-- as many words as n are those at 0 to n - 1
pub words_at : (n : ℕ) (words : List (Bor (List ℕ))) (e : Bor (List ℕ)) → n ≤ length words
    → length words < n + 1 → map (λ w. w.now) words ≡ map (λ i. (get_or words i e).now) (range_with_len 0 n)
words_at n words e low high = fill_by_all _ (map (λ w. w.now) words) n [] (length-map words _ ∙ omega arith) (λ i below. get_or-map (λ w. w.now) words i e [] (omega arith))
