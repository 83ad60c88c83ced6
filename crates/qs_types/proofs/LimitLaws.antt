-- There is a first node past a limit exactly where the count passes it.
use Rattle.std.proofs.Common.{◌≡◌, ◌≤◌, ℕ, zero, suc, ◌+◌, ◌%◌, max, nat_lt, Bool, true, false, ◌||◌, List, [], ◌∷◌, ◌++◌, Option, Some, None, is_some, length, map, fold, refl, sym, ap, ◌∙◌, length-append, arith, if◌then◌else◌}
use Rattle.std.specs.List.{slice_get}
use Rattle.std.proofs.lemmas.Bool.Decides.{nat_tests}
use Rattle.std.specs.Option.{option_or}
use Rattle.qs_syntax.specs.Nodes.{unit_count}
use Rattle.qs_syntax.specs.Units.{IsRead}
use Rattle.qs_syntax.specs.Trees.{ParameterTree, FunctionTree, Stmts, structure, forward, typedef, function, variables, UnitTree}
use Rattle.qs_types.specs.Types.{Structs}
use Rattle.qs_types.specs.Layout.{rounded_up}
use Rattle.qs_base.specs.Bytes.{same_bytes}
use Rattle.qs_base.specs.Parameters.{most_main_parameters, most_parameters}
use Rattle.qs_types.specs.GivenFunctions.{main_name}
use Rattle.qs_types.specs.Contexts.{Context, start_context}
use Rattle.qs_types.specs.Placed.{Local, placed_in}
use Rattle.qs_types.specs.UnitRules.{is_name_in, with_name_once, after_declaration}
use Rattle.qs_types.specs.Limits.{first_past_nodes, names_from, function_count, header_past, first_past_functions, parameter_count, main_parameter_count, node_of_parameter, first_past_parameters, word_size, Block, block_end, blocks_end, block_past, data_blocks, data_bytes, first_past_globals, type_size, local_block, local_blocks, placed_bytes, body_bytes, placed_from, most_placed, local_past, local_past_from, first_past_locals, node_limit, function_limit, parameter_limit, global_limit, local_limit, KeepsLimits, IsWithinLimits}
use Rattle.qs_types.proofs.Rounding.{rounds}

-- ---- nodes

pub nodes_past : (limit : ℕ) (unit : UnitTree) → is_some (first_past_nodes limit unit) ≡ nat_lt limit (unit_count unit)
nodes_past limit unit = by (nat_lt limit (unit_count unit))
  where
    by : (b : Bool) → is_some (if b then Some limit else None) ≡ b
    by true = refl
    by false = refl

-- ---- functions

longer : (names : List (List ℕ)) (x : List ℕ) → length names ≤ length (with_name_once names x)
longer names x = by (is_name_in x names)
  where
    by : (b : Bool) → length names ≤ length (if b then names else names ++ x ∷ [])
    by true = omega arith
    by false = omega (arith, length-append names (x ∷ []))

all_longer : (names : List (List ℕ)) (ds : UnitTree) → length names ≤ length (names_from names ds)
all_longer names [] = omega arith
all_longer names (structure s ∷ ds) = all_longer names ds
all_longer names (forward f ∷ ds) = all_longer names ds
all_longer names (typedef t ∷ ds) = all_longer names ds
all_longer names (function f ∷ ds) = omega (arith, longer names f.name, all_longer (with_name_once names f.name) ds)
all_longer names (variables d ∷ ds) = all_longer names ds

past_by : (limit n m : ℕ) → nat_lt limit n ≡ true → n ≤ m → true ≡ nat_lt limit m
past_by limit n m h le = grind (arith, nat_tests)

-- the names behind these are counted
abbrev Counted : (limit : ℕ) → UnitTree → List (List ℕ) → Type 0
Counted limit ds names = is_some (header_past limit names ds) ≡ nat_lt limit (length (names_from names ds))

headers_past : (limit : ℕ) (names : List (List ℕ)) (ds : UnitTree) → nat_lt limit (length names) ≡ false → is_some (header_past limit names ds) ≡ nat_lt limit (length (names_from names ds))
headers_past limit names [] h = sym h
headers_past limit names (structure s ∷ ds) h = headers_past limit names ds h
headers_past limit names (forward f ∷ ds) h = headers_past limit names ds h
headers_past limit names (typedef t ∷ ds) h = headers_past limit names ds h
headers_past limit names (function f ∷ ds) h =
    known (is_name_in f.name names) (headers_past limit names ds h) (headers_past limit (names ++ f.name ∷ []) ds)
  where
    one_more : length (names ++ f.name ∷ []) ≡ length names + 1
    one_more = length-append names (f.name ∷ [])

    new : (b : Bool) → nat_lt limit (length names + 1) ≡ b → (nat_lt limit (length (names ++ f.name ∷ [])) ≡ false → Counted limit ds (names ++ f.name ∷ []))
        → is_some (if b then Some f.node.id else header_past limit (names ++ f.name ∷ []) ds) ≡ nat_lt limit (length (names_from (names ++ f.name ∷ []) ds))
    new true e more =
        past_by limit (length (names ++ f.name ∷ [])) (length (names_from (names ++ f.name ∷ []) ds)) (ap (nat_lt limit) one_more ∙ e) (all_longer (names ++ f.name ∷ []) ds)
    new false e more = more (ap (nat_lt limit) one_more ∙ e)

    known : (b : Bool) → Counted limit ds names → (nat_lt limit (length (names ++ f.name ∷ [])) ≡ false → Counted limit ds (names ++ f.name ∷ []))
        → is_some (if b then header_past limit names ds else if nat_lt limit (length names + 1) then Some f.node.id else header_past limit (names ++ f.name ∷ []) ds)
        ≡ nat_lt limit (length (names_from (if b then names else names ++ f.name ∷ []) ds))
    known true same more = same
    known false same more = new (nat_lt limit (length names + 1)) refl more
headers_past limit names (variables d ∷ ds) h = headers_past limit names ds h

pub functions_past : (limit : ℕ) (unit : UnitTree) → is_some (first_past_functions limit unit) ≡ nat_lt limit (function_count unit)
functions_past limit unit = headers_past limit [] unit (grind (arith, nat_tests))

-- ---- parameters

either_past : (o p : Option ℕ) → is_some (option_or o p) ≡ (is_some o || is_some p)
either_past None p = refl
either_past (Some n) p = refl

past_one : (limit n m : ℕ) → (nat_lt limit n || nat_lt limit m) ≡ nat_lt limit (max n m)
past_one limit n m = grind (arith, nat_tests)

one_past : (i : ℕ) (ps : List ParameterTree) → is_some (node_of_parameter (slice_get ps i)) ≡ nat_lt i (length ps)
one_past i [] = grind (arith, nat_tests)
one_past zero (p ∷ ps) = grind (arith, nat_tests)
one_past (suc i) (p ∷ ps) = one_past i ps ∙ by i (length ps)
  where
    by : (n m : ℕ) → nat_lt n m ≡ nat_lt (suc n) (suc m)
    by n m = grind (arith, nat_tests)

-- of a header of main the limit is less
main_past : (n m k : ℕ) → (nat_lt 8 n || (nat_lt 16 m || nat_lt 8 k)) ≡ (nat_lt 16 (max n m) || nat_lt 8 (max n k))
main_past n m k = grind (arith, nat_tests)

other_past : (n m k : ℕ) → (nat_lt 16 n || (nat_lt 16 m || nat_lt 8 k)) ≡ (nat_lt 16 (max n m) || nat_lt 8 (max 0 k))
other_past n m k = grind (arith, nat_tests)

pub parameters_past :
    (unit : UnitTree)
    → is_some (first_past_parameters parameter_limit unit) ≡ (nat_lt most_parameters (parameter_count unit) || nat_lt most_main_parameters (main_parameter_count unit))
parameters_past [] = grind (arith, nat_tests)
parameters_past (structure s ∷ ds) = parameters_past ds
parameters_past (forward f ∷ ds) = parameters_past ds
parameters_past (typedef t ∷ ds) = parameters_past ds
parameters_past (function f ∷ ds) =
    either_past (node_of_parameter (slice_get f.parameters (parameter_limit f.name))) (first_past_parameters parameter_limit ds)
    ∙ (λ i. one_past (parameter_limit f.name) f.parameters i || parameters_past ds i)
    ∙ by (same_bytes f.name main_name)
  where
    by : (b : Bool)
        → (nat_lt (if b then 8 else 16) (length f.parameters) || (nat_lt 16 (parameter_count ds) || nat_lt 8 (main_parameter_count ds)))
        ≡ (nat_lt 16 (max (length f.parameters) (parameter_count ds)) || nat_lt 8 (max (if b then length f.parameters else 0) (main_parameter_count ds)))
    by true = main_past (length f.parameters) (parameter_count ds) (main_parameter_count ds)
    by false = other_past (length f.parameters) (parameter_count ds) (main_parameter_count ds)
parameters_past (variables d ∷ ds) = parameters_past ds

-- ---- data

behind : (end : ℕ) (b : Block) → end ≤ block_end end b
behind end b =
    let r = rounds end word_size (omega arith) in
    omega (arith, r.above)

all_behind : (end : ℕ) (bs : List Block) → end ≤ blocks_end end bs
all_behind end [] = omega arith
all_behind end (b ∷ bs) = omega (arith, behind end b, all_behind (block_end end b) bs)

blocks_past : (limit end : ℕ) (bs : List Block) → nat_lt limit end ≡ false → is_some (block_past limit end bs) ≡ nat_lt limit (blocks_end end bs)
blocks_past limit end [] h = sym h
blocks_past limit end (b ∷ bs) h = by (nat_lt limit (block_end end b)) refl (blocks_past limit (block_end end b) bs)
  where
    by : (t : Bool) → nat_lt limit (block_end end b) ≡ t
        → (nat_lt limit (block_end end b) ≡ false → is_some (block_past limit (block_end end b) bs) ≡ nat_lt limit (blocks_end (block_end end b) bs))
        → is_some (if t then Some b.node else block_past limit (block_end end b) bs) ≡ nat_lt limit (blocks_end (block_end end b) bs)
    by true e more = past_by limit (block_end end b) (blocks_end (block_end end b) bs) e (all_behind (block_end end b) bs)
    by false e more = more e

none_past : (limit : ℕ) → nat_lt limit 0 ≡ false
none_past limit = grind (arith, nat_tests)

pub globals_past : (limit : ℕ) (unit : UnitTree) → is_some (first_past_globals limit unit) ≡ nat_lt limit (data_bytes unit)
globals_past limit unit = blocks_past limit 0 (data_blocks unit) (none_past limit)

-- ---- placed locals and parameters: each is a number of words, so none begins behind a gap

whole_stays : (n : ℕ) → n % 4 ≡ 0 → rounded_up n word_size ≡ n
whole_stays n h =
    let r = rounds n word_size (omega arith) in
    let le : rounded_up n word_size ≤ n = r.least n h (omega arith) in
    omega (arith, r.above)

whole_words : (n : ℕ) → rounded_up n word_size % 4 ≡ 0
whole_words n = (rounds n word_size (omega arith)).multiple

whole_sum : (n m : ℕ) → n % 4 ≡ 0 → m % 4 ≡ 0 → (n + m) % 4 ≡ 0
whole_sum n m h i = omega arith

locals_end : (structs : Structs) (ls : List Local) (end : ℕ) → end % 4 ≡ 0 → blocks_end end (map (local_block structs) ls) ≡ fold (λ n b. n + b.size) end (map (local_block structs) ls)
locals_end structs [] end h = refl
locals_end structs (l ∷ ls) end h =
    let size : ℕ = rounded_up (type_size structs l.type) word_size in
    ap (λ n. blocks_end (n + size) (map (local_block structs) ls)) (whole_stays end h)
    ∙ locals_end structs ls (end + size) (whole_sum end size h (whole_words (type_size structs l.type)))

-- the placed locals of a function end where their bytes do
pub placed_end : (c : Context) (f : FunctionTree) (ss : Stmts) → blocks_end 0 (local_blocks c f ss) ≡ placed_bytes c f ss
placed_end c f ss = locals_end c.structs (placed_in c f ss) 0 refl

body_past : (limit : ℕ) (c : Context) (f : FunctionTree) (body : Option Stmts) → is_some (local_past limit c f body) ≡ nat_lt limit (body_bytes c f body)
body_past limit c f None = sym (none_past limit)
body_past limit c f (Some ss) = blocks_past limit 0 (local_blocks c f ss) (none_past limit) ∙ ap (nat_lt limit) (placed_end c f ss)

bodies_past : (limit : ℕ) (c : Context) (ds : UnitTree) → is_some (local_past_from limit c ds) ≡ nat_lt limit (placed_from c ds)
bodies_past limit c [] = sym (none_past limit)
bodies_past limit c (structure s ∷ ds) = bodies_past limit (after_declaration c (structure s)) ds
bodies_past limit c (forward f ∷ ds) = bodies_past limit (after_declaration c (forward f)) ds
bodies_past limit c (typedef t ∷ ds) = bodies_past limit (after_declaration c (typedef t)) ds
bodies_past limit c (function f ∷ ds) =
    either_past (local_past limit c f f.body) (local_past_from limit (after_declaration c (function f)) ds)
    ∙ (λ i. body_past limit c f f.body i || bodies_past limit (after_declaration c (function f)) ds i)
    ∙ past_one limit (body_bytes c f f.body) (placed_from (after_declaration c (function f)) ds)
bodies_past limit c (variables d ∷ ds) = bodies_past limit (after_declaration c (variables d)) ds

pub locals_past : (limit : ℕ) (unit : UnitTree) → is_some (first_past_locals limit unit) ≡ nat_lt limit (most_placed unit)
locals_past limit unit = bodies_past limit start_context unit

-- ---- units: no node is the first past a limit exactly where each count is at most its limit

none_there : (o : Option ℕ) (limit count : ℕ) → is_some o ≡ nat_lt limit count → o ≡ None → count ≤ limit
none_there o limit count e h = by limit count (sym e ∙ ap is_some h)
  where
    by : (n m : ℕ) → nat_lt n m ≡ false → m ≤ n
    by n m i = grind (arith, nat_tests)

there_none : (o : Option ℕ) (limit count : ℕ) → is_some o ≡ nat_lt limit count → count ≤ limit → o ≡ None
there_none None limit count e h = refl
there_none (Some n) limit count e h = absurd (by limit count e h)
  where
    by : (n m : ℕ) → true ≡ nat_lt n m → m ≤ n → ⊥
    by n m i le = grind (arith, nat_tests)

-- neither of two counts passes its limit
record BothWithin (n m limit other : ℕ) : Type 0 where
  first : n ≤ limit
  second : m ≤ other

neither_there : (o : Option ℕ) (limit n other m : ℕ) → is_some o ≡ (nat_lt limit n || nat_lt other m) → o ≡ None → BothWithin n m limit other
neither_there o limit n other m e h = by limit n other m (sym e ∙ ap is_some h)
  where
    by : (limit n other m : ℕ) → (nat_lt limit n || nat_lt other m) ≡ false → BothWithin n m limit other
    by limit n other m i = record { first = grind (arith, nat_tests, i); second = grind (arith, nat_tests, i) }

there_neither : (o : Option ℕ) (limit n other m : ℕ) → is_some o ≡ (nat_lt limit n || nat_lt other m) → n ≤ limit → m ≤ other → o ≡ None
there_neither None limit n other m e h k = refl
there_neither (Some x) limit n other m e h k = absurd (by limit n other m e h k)
  where
    by : (limit n other m : ℕ) → true ≡ (nat_lt limit n || nat_lt other m) → n ≤ limit → m ≤ other → ⊥
    by limit n other m i h k = grind (arith, nat_tests)

parameters_within : (unit : UnitTree) → first_past_parameters parameter_limit unit ≡ None → BothWithin (parameter_count unit) (main_parameter_count unit) most_parameters most_main_parameters
parameters_within unit h =
    neither_there (first_past_parameters parameter_limit unit) most_parameters (parameter_count unit) most_main_parameters (main_parameter_count unit) (parameters_past unit) h

pub keeps_limits : (unit : UnitTree) → IsRead unit → IsWithinLimits unit → KeepsLimits unit
keeps_limits unit read w = record {
  nodes = none_there (first_past_nodes node_limit unit) node_limit (unit_count unit) (nodes_past node_limit unit) w.nodes;
  functions = none_there (first_past_functions function_limit unit) function_limit (function_count unit) (functions_past function_limit unit) w.functions;
  parameters = (parameters_within unit w.parameters).first;
  main_parameters = (parameters_within unit w.parameters).second;
  globals = none_there (first_past_globals global_limit unit) global_limit (data_bytes unit) (globals_past global_limit unit) w.globals;
  locals = none_there (first_past_locals local_limit unit) local_limit (most_placed unit) (locals_past local_limit unit) w.locals;
  height = read;
}

pub is_within_limits : (unit : UnitTree) → KeepsLimits unit → IsWithinLimits unit
is_within_limits unit k = record {
  nodes = there_none (first_past_nodes node_limit unit) node_limit (unit_count unit) (nodes_past node_limit unit) k.nodes;
  functions = there_none (first_past_functions function_limit unit) function_limit (function_count unit) (functions_past function_limit unit) k.functions;
  parameters =
      there_neither (first_past_parameters parameter_limit unit) most_parameters (parameter_count unit) most_main_parameters (main_parameter_count unit) (parameters_past unit)
      k.parameters k.main_parameters;
  globals = there_none (first_past_globals global_limit unit) global_limit (data_bytes unit) (globals_past global_limit unit) k.globals;
  locals = there_none (first_past_locals local_limit unit) local_limit (most_placed unit) (locals_past local_limit unit) k.locals;
}
