-- Lists that nest up to their limit and one past it.
use Rattle.std.proofs.Common.{arith, ◌≡◌, ℕ, zero, suc, ◌+◌, ◌*◌, ◌≤◌, List, [], ◌∷◌, refl, subst}
use Rattle.qs_base.specs.Characters.{left_parenthesis, right_parenthesis}
use Rattle.qs_sexpr.specs.Reading.{Reads, nothing, a_list, Reading, Within, outside, inside, too_deep, Fault}
use Rattle.qs_sexpr.specs.Trees.{list, Sexps, no_parts, part_and}
use Rattle.qs_sexpr.specs.declared.fault.SexprFault.TheVariants.{TooDeep}

-- `n` lists, each the only part of the one around it
nested : ℕ → List ℕ → List ℕ
nested zero rest = rest
nested (suc n) rest = left_parenthesis ∷ nested n (right_parenthesis ∷ rest)

lists : ℕ → ℕ → Sexps
lists zero at = no_parts
lists (suc n) at = part_and (list at (lists n (at + 1))) no_parts

nested_reads : (n depth at : ℕ) (rest : List ℕ) → depth + n ≤ 1024 → Reads depth at (nested n rest) (lists n at) (at + 2 * n) rest
unfolding nested lists
nested_reads zero depth at rest h = let P : ℕ → Type 0 = λ end. Reads depth at rest no_parts end rest in subst P (omega arith) nothing
nested_reads (suc n) depth at rest h =
    let P : ℕ → Type 0 = λ end. Reads depth at (left_parenthesis ∷ nested n (right_parenthesis ∷ rest)) (part_and (list at (lists n (at + 1))) no_parts) end rest in
    let e : at + 1 + 2 * n + 1 ≡ at + 2 * suc n = omega arith in
    subst P e (a_list refl (omega (arith, h)) (nested_reads n (suc depth) (at + 1) (right_parenthesis ∷ rest) (omega (arith, h))) refl nothing)

up_to_the_limit : (n : ℕ) → n ≤ 1024 → Reading (nested n []) (lists n 0)
up_to_the_limit n h = record { end = 0 + 2 * n; reads = nested_reads n 0 0 [] (omega (arith, h)) }

-- `n` lists that are not closed
opened : ℕ → List ℕ → List ℕ
opened zero rest = rest
opened (suc n) rest = opened n (left_parenthesis ∷ rest)

opened_within : (n : ℕ) (rest : List ℕ) → n ≤ 1024 → Within (opened n rest) n n rest
unfolding opened
opened_within zero rest h = outside nothing
opened_within (suc n) rest h =
    let P : ℕ → Type 0 = λ at. Within (opened n (left_parenthesis ∷ rest)) (suc n) at rest in
    let e : n + 1 ≡ suc n = omega arith in
    subst P e (inside (opened_within n (left_parenthesis ∷ rest) (omega (arith, h))) refl (omega (arith, h)) nothing)

one_past_the_limit : (n : ℕ) (rest : List ℕ) → n ≡ 1024 → Fault (opened n (left_parenthesis ∷ rest)) (TooDeep n)
one_past_the_limit n rest h = record { depth = n; at = n; rest = left_parenthesis ∷ rest; within = opened_within n (left_parenthesis ∷ rest) (omega (arith, h)); stops = too_deep refl (omega (arith, h)) }
