-- A unit of a sample's form is within the limits.
use Rattle.std.proofs.Common.{◌≡◌, ℕ, suc, ◌+◌, ◌*◌, ◌<◌, ◌≤◌, nat_lt, ◌||◌, Bool, true, false, if◌then◌else◌, List, [], ◌∷◌, ◌++◌, length, map, flat_map, Some, None, refl, ap, ◌∙◌, length-append, arith}
use Rattle.std.proofs.lemmas.Bool.Decides.{nat_tests}
use Rattle.std.specs.List.{list_any}
use Rattle.qs_syntax.specs.declared.nodes.Node.{Node}
use Rattle.qs_syntax.specs.Nodes.{expr_count, unit_count}
use Rattle.qs_base.specs.Bytes.{same_bytes}
use Rattle.qs_syntax.specs.Trees.{ExprTree, function, UnitTree}
use Rattle.qs_types.specs.Contexts.{Context, start_context}
use Rattle.qs_types.specs.GivenFunctions.{main_name}
use Rattle.qs_types.specs.UnitRules.{is_name_in, after_declaration}
use Rattle.qs_types.specs.Sites.{declarations_sites}
use Rattle.qs_types.specs.References.{expr_texts, site_texts, literal_blocks}
use Rattle.qs_types.specs.Limits.{node_limit, function_limit, parameter_limit, global_limit, local_limit, header_past, first_past_nodes, first_past_parameters, first_past_globals, block_past, variable_blocks_from, text_block, local_past, local_past_from, IsWithinLimits}
use Rattle.qs_driver_session.proofs.SampleTrees.{function_name, IsValue, the_next, a_call, returning, function_of, IsTail, the_main, a_function}
use Rattle.qs_driver_session.proofs.SampleTyped.{numbers_differ}

-- ---- nodes: 6 in the first function, 7 in each further one, 11 in main

value_count : {j : ℕ} {e : ExprTree} → IsValue j e → expr_count e ≤ 4
value_count (the_next a b c) = omega arith
value_count (a_call node a b c j) = omega arith

counted : {j left : ℕ} {ds : UnitTree} → IsTail j left ds → unit_count ds ≤ 7 * left + 11
counted (the_main node m n) = omega arith
counted (a_function node p r j left e ds v t) =
    let here : expr_count e ≤ 4 = value_count v in
    let behind : unit_count ds ≤ 7 * left + 11 = counted t in
    omega arith

few_nodes : (n : ℕ) (unit : UnitTree) → n < 512 → IsTail 0 n unit → first_past_nodes node_limit unit ≡ None
few_nodes n unit l t =
    let nodes : unit_count unit ≤ 7 * n + 11 = counted t in
    let low : nat_lt node_limit (unit_count unit) ≡ false = grind (arith, nat_tests) in
    ap (λ past. if past then Some node_limit else None) low

-- ---- functions

-- the names of so many functions
record Named (j : ℕ) (names : List (List ℕ)) : Type 0 where
  length_is : length names ≡ j
  fresh : (i : ℕ) → j ≤ i → i < 511 → is_name_in (function_name (suc i)) names ≡ false
  main : is_name_in main_name names ≡ false

keeps_false : (a b c : Bool) → (a || b) ≡ false → (b ≡ false → c ≡ false) → (a || c) ≡ false
keeps_false true b c h k = h
keeps_false false b c h k = k h

any_behind : (test : List ℕ → Bool) (names : List (List ℕ)) (last : List ℕ) → list_any test names ≡ false → test last ≡ false → list_any test (names ++ last ∷ []) ≡ false
any_behind test [] last h l = rw l refl
any_behind test (x ∷ xs) last h l =
    keeps_false (test x) (list_any test xs) (list_any test (xs ++ last ∷ [])) h (λ rest. any_behind test xs last rest l)

one_more_named : (j : ℕ) (names : List (List ℕ)) → j < 511 → Named j names → Named (suc j) (names ++ function_name (suc j) ∷ [])
one_more_named j names l n = record {
  length_is = omega (arith, length-append names (function_name (suc j) ∷ []), n.length_is);
  fresh = λ i m h.
      any_behind (same_bytes (function_name (suc i))) names (function_name (suc j)) (n.fresh i (omega arith) h)
      (numbers_differ (suc i) (suc j) (omega arith) (omega arith) (λ e. omega arith));
  main = any_behind (same_bytes main_name) names (function_name (suc j)) n.main refl;
}

few_functions : (names : List (List ℕ)) {j left : ℕ} {ds : UnitTree} → j + left < 512 → Named j names → IsTail j left ds → header_past function_limit names ds ≡ None
few_functions names l n (the_main node m j) =
    let new : is_name_in main_name names ≡ false = n.main in
    let count : length names ≡ j = n.length_is in
    let low : nat_lt function_limit (length names + 1) ≡ false = grind (arith, nat_tests) in
    rw (new, low) refl
few_functions names l n (a_function node p r j left e ds v t) =
    let new : is_name_in (function_name (suc j)) names ≡ false = n.fresh j (omega arith) (omega arith) in
    let count : length names ≡ j = n.length_is in
    let low : nat_lt function_limit (length names + 1) ≡ false = grind (arith, nat_tests) in
    rw (new, low) (few_functions (names ++ function_name (suc j) ∷ []) (omega arith) (one_more_named j names (omega arith) n) t)

-- ---- parameters

few_parameters : {j left : ℕ} {ds : UnitTree} → IsTail j left ds → first_past_parameters parameter_limit ds ≡ None
few_parameters (the_main node m n) = refl
few_parameters (a_function node p r j left e ds v t) = few_parameters t

-- ---- data

no_variables : (c : Context) {j left : ℕ} {ds : UnitTree} → IsTail j left ds → variable_blocks_from c ds ≡ []
no_variables c (the_main node m n) = refl
no_variables c (a_function node p r j left e ds v t) = no_variables (after_declaration c (function (function_of node p r (suc j) e))) t

no_text : {j : ℕ} {e : ExprTree} → IsValue j e → expr_texts e ≡ []
no_text (the_next a b c) = refl
no_text (a_call node a b c j) = refl

no_texts : (c : Context) {j left : ℕ} {ds : UnitTree} → IsTail j left ds → flat_map site_texts (declarations_sites c ds) ≡ []
no_texts c (the_main node m n) = refl
no_texts c (a_function node p r j left e ds v t) =
    let here : expr_texts e ≡ [] = no_text v in
    rw here (no_texts (after_declaration c (function (function_of node p r (suc j) e))) t)

pub no_literals : {n : ℕ} {unit : UnitTree} → IsTail 0 n unit → literal_blocks unit ≡ []
no_literals t = no_texts start_context t

no_data : {n : ℕ} {unit : UnitTree} → IsTail 0 n unit → first_past_globals global_limit unit ≡ None
no_data {n} {unit} t =
    ap (λ blocks. block_past global_limit 0 (blocks ++ map text_block (literal_blocks unit))) (no_variables start_context t)
    ∙ ap (λ texts. block_past global_limit 0 (map text_block texts)) (no_literals t)

-- ---- placed locals

none_placed : (c : Context) (node p r : Node) (k : ℕ) {j : ℕ} {e : ExprTree} → IsValue j e → local_past local_limit c (function_of node p r k e) (Some (returning r e)) ≡ None
none_placed c node p r k (the_next a b d) = refl
none_placed c node p r k (a_call n a b d j) = refl

no_locals : (c : Context) {j left : ℕ} {ds : UnitTree} → IsTail j left ds → local_past_from local_limit c ds ≡ None
no_locals c (the_main node m n) = refl
no_locals c (a_function node p r j left e ds v t) =
    let here : local_past local_limit c (function_of node p r (suc j) e) (Some (returning r e)) ≡ None = none_placed c node p r (suc j) v in
    rw here (no_locals (after_declaration c (function (function_of node p r (suc j) e))) t)

-- ---- the unit

pub is_within_limits : (n : ℕ) (unit : UnitTree) → n < 512 → IsTail 0 n unit → IsWithinLimits unit
is_within_limits n unit l t = record {
  nodes = few_nodes n unit l t;
  functions = few_functions [] (omega arith) (record { length_is = refl; fresh = λ i m h. refl; main = refl }) t;
  parameters = few_parameters t;
  globals = no_data t;
  locals = no_locals start_context t;
}
