-- The same is among the elements of a list and among its elements once.
use Rattle.std.proofs.Common.{◌≡◌, ℕ, ◌==◌, Bool, true, false, not, ◌&&◌, ◌||◌, List, [], ◌∷◌, ◌++◌, Some, filter, map, refl, sym, ap, ◌∙◌, if◌then◌else◌}
use Rattle.std.specs.List.{list_any}
use Rattle.std.specs.Cmp.{IsEquivalence}
use Rattle.std.proofs.lemmas.Cmp.{nat_list_eq_equiv, nat_eq_equiv}
use Rattle.std.proofs.Math.Bool.{or-false, or-true, or_assoc}
use Rattle.indexmap.specs.IndexSet.{insert_all, insert_key}
use Rattle.qs_base.specs.Bytes.{same_bytes}
use Rattle.qs_syntax.specs.Trees.{structure, forward, typedef, function, variables, UnitTree}
use Rattle.qs_types.specs.Limits.{block_past, local_limit}
use Rattle.qs_types.specs.Placed.{is_one_of}
use Rattle.qs_types.specs.UnitRules.{is_name_in}
use Rattle.qs_types.specs.WellTyped.{undefined_from}
use Rattle.qs_typing_findings.specs.Noted.{LocalTree, is_block, local_past_by}
use Rattle.qs_typing_findings.specs.Sets.{nodes_once, names_once}

any_behind : {K : Type 0} (test : K → Bool) (ks : List K) (y : K) → list_any test (ks ++ y ∷ []) ≡ (list_any test ks || test y)
any_behind test [] y = or-false (test y)
any_behind test (k ∷ ks) y = ap (λ b. test k || b) (any_behind test ks y) ∙ sym (or_assoc (test k) (list_any test ks) (test y))

module _ {K : Type 0} (eq : K → K → Bool) (laws : IsEquivalence eq) where
  same_any : (x y : K) (ks : List K) → eq x y ≡ true → list_any (eq x) ks ≡ list_any (eq y) ks
  same_any x y [] e = refl
  same_any x y (k ∷ ks) e = λ i. laws.congr x y k e i || same_any x y ks e i

  any_inserted : (x y : K) (ks : List K) → list_any (eq x) (insert_key eq ks y) ≡ (list_any (eq x) ks || eq x y)
  any_inserted x y ks = by (list_any (eq y) ks) (eq x y) refl refl
    where
      by : (b a : Bool) → list_any (eq y) ks ≡ b → eq x y ≡ a → list_any (eq x) (if b then ks else ks ++ y ∷ []) ≡ (list_any (eq x) ks || a)
      by true true p q = same_any x y ks q ∙ p ∙ sym (or-true (list_any (eq x) ks))
      by true false p q = sym (or-false (list_any (eq x) ks))
      by false a p q = any_behind (eq x) ks y ∙ ap (λ b. list_any (eq x) ks || b) q

  all_inserted : (x : K) (ks xs : List K) → list_any (eq x) (insert_all eq ks xs) ≡ (list_any (eq x) ks || list_any (eq x) xs)
  all_inserted x ks [] = sym (or-false (list_any (eq x) ks))
  all_inserted x ks (y ∷ ys) =
      all_inserted x (insert_key eq ks y) ys
      ∙ ap (λ b. b || list_any (eq x) ys) (any_inserted x y ks)
      ∙ or_assoc (list_any (eq x) ks) (eq x y) (list_any (eq x) ys)

  among_once : (x : K) (xs : List K) → list_any (eq x) (insert_all eq [] xs) ≡ list_any (eq x) xs
  among_once x xs = all_inserted x [] xs

-- ---- nodes

pub node_found : (n : ℕ) (nodes : List ℕ) → list_any (◌==◌ n) nodes ≡ is_one_of n nodes
node_found n [] = refl
node_found n (m ∷ ms) = λ i. nat_eq_equiv.symm n m i || node_found n ms i

one_of_once : (n : ℕ) (nodes : List ℕ) → is_one_of n (nodes_once nodes) ≡ is_one_of n nodes
one_of_once n nodes = sym (node_found n (nodes_once nodes)) ∙ among_once ◌==◌ nat_eq_equiv n nodes ∙ node_found n nodes

block_once : (nodes : List ℕ) (l : LocalTree) → is_block (nodes_once nodes) l ≡ is_block nodes l
block_once nodes l = ap (λ b. b || l.is_object) (one_of_once l.block.node nodes)

blocks_once : (nodes : List ℕ) (ls : List LocalTree) → filter (is_block (nodes_once nodes)) ls ≡ filter (is_block nodes) ls
blocks_once nodes [] = refl
blocks_once nodes (l ∷ ls) = λ i. if block_once nodes l i then l ∷ blocks_once nodes ls i else blocks_once nodes ls i

pub placed_past : (nodes : List ℕ) (ls : List LocalTree) → block_past local_limit 0 (map (λ l. l.block) (filter (is_block (nodes_once nodes)) ls)) ≡ local_past_by nodes ls
placed_past nodes ls = ap (λ ls. block_past local_limit 0 (map (λ l. l.block) ls)) (blocks_once nodes ls)

-- ---- names

name_once : (x : List ℕ) (names : List (List ℕ)) → is_name_in x (names_once names) ≡ is_name_in x names
name_once x names = among_once same_bytes nat_list_eq_equiv x names

pub undefined_once : (runs : List ℕ → Bool) (calls : List (List ℕ)) (ds : UnitTree) → undefined_from runs (names_once calls) ds ≡ undefined_from runs calls ds
undefined_once runs calls [] = refl
undefined_once runs calls (structure s ∷ ds) = undefined_once runs calls ds
undefined_once runs calls (forward f ∷ ds) = undefined_once runs calls ds
undefined_once runs calls (typedef t ∷ ds) = undefined_once runs calls ds
undefined_once runs calls (function f ∷ ds) =
    λ i. if name_once f.name calls i && not (runs f.name) then Some f.node.id else undefined_once runs calls ds i
undefined_once runs calls (variables d ∷ ds) = undefined_once runs calls ds
