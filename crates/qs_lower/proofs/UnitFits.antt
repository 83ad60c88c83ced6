-- The linear code of a unit of core that fits is a unit that fits.
use Rattle.std.proofs.Common.{◌≡◌, ℕ, zero, suc, ◌+◌, ◌<◌, ◌≤◌, Bool, true, false, List, [], ◌∷◌, length, map, Option, Some, None, unwrap_or, refl, sym, ap, ◌∙◌, subst, arith, ltb-true, lt-ltb}
use Rattle.std.specs.Prelude.{◌==◌, nat_lt, not}
use Rattle.std.specs.List.{slice_get, list_all}
use Rattle.std.specs.Option.{option_map}
use Rattle.std.proofs.lemmas.Bool.Decides.{nat_tests}
use Rattle.std.proofs.lemmas.List.{length-map, length-append}
use Rattle.std.proofs.lemmas.Option.{slice_get-map, slice_get_within, same_Some}
use Rattle.std.proofs.lemmas.Bool.{and_parts, and_from}
use Rattle.qs_calls.specs.Starts.{Signature, signature_of}
use Rattle.qs_calls.specs.declared.callee.Callee.{Callee}
use Rattle.qs_calls.specs.declared.callee.Callee.TheVariants as callees
use Rattle.qs_calls.specs.declared.parameter.Parameter.{Parameter}
use Rattle.qs_calls.specs.declared.parameter.Parameter.TheVariants.{Plain, Placed}
use Rattle.qs_core.specs.Trees.{CoreParameterTree, CoreVariableTree, CoreFunctionTree, DataBlockTree, CoreUnitTree}
use Rattle.qs_core.specs.Units.{data_block}
use Rattle.qs_core.specs.Interfaces.{types_of, signature, interface_of}
use Rattle.qs_core.specs.Fits as core
use Rattle.qs_core.specs.Fits.{is_room, place_fits, parameters_fit, is_size, is_main}
use Rattle.qs_core.specs.Fits.{piece_fits}
use Rattle.qs_core.proofs.FitLaws.{all_at, FunctionFits, function_parts, function_at_fits, unit_parts}
use Rattle.qs_tac.specs.Trees.{InstructionTree, move, unary, binary, convert, address_of, load, store}
use Rattle.qs_tac.specs.Trees.{copy, fill, call, jump, branch, return, TacFunctionTree, TacUnitTree}
use Rattle.qs_tac.specs.Fits.{is_word, takes, callee_fits, condition_fits, instruction_fits, parameter_fits, function_fits, data_fits, unit_fits}
use Rattle.qs_tac.specs.declared.operands.Operand.{Operand}
use Rattle.qs_lower_expressions.specs.Exits.{falls, goes}
use Rattle.qs_lower.specs.Statements.{Exits, next_falls}
use Rattle.qs_lower_expressions.specs.Threads.{leads_to, onward_from, follow, retargeted, threaded, threaded_function}
use Rattle.qs_lower.specs.Units.{free_from, body_code, end_code, function_code, straight_function, lower_data, lower_unit}
use Rattle.qs_lower.specs.Laws.{LoweredFits}
use Rattle.qs_lower.specs.WordLaws.{lowered_function}
use Rattle.qs_lower.proofs.StmtSizeLaws.{stmts_sized}
use Rattle.qs_lower_expressions.proofs.ExprFits.{Fit, fit_cons, fit_one, fit_both}
use Rattle.qs_lower.proofs.OperandFits.{small_word, Has}
use Rattle.qs_lower.proofs.PartFits.{Reaches, PartFits, taken}
use Rattle.qs_lower.proofs.StmtFits.{stmts_fit_all, stmts_break}

-- ---- threads

module _ (u : TacUnitTree) (f : TacFunctionTree) where
  onward_in : (code : List InstructionTree) → Fit u f code → (i : ℕ) → i < length f.code → onward_from code i < length f.code
  onward_in code all i h = by_instruction (slice_get code i) refl
    where
      by_instruction : (o : Option InstructionTree) → slice_get code i ≡ o → unwrap_or (leads_to o) i < length f.code
      by_instruction None is = h
      by_instruction (Some (jump to)) is = ltb-true _ _ (all_at (instruction_fits u f) code i (jump to) all is)
      by_instruction (Some (move x o)) is = h
      by_instruction (Some (unary op x o)) is = h
      by_instruction (Some (binary op x o p)) is = h
      by_instruction (Some (convert s x o)) is = h
      by_instruction (Some (address_of x p)) is = h
      by_instruction (Some (load s x p)) is = h
      by_instruction (Some (store s p o)) is = h
      by_instruction (Some (copy size alignment p q)) is = h
      by_instruction (Some (fill blank p)) is = h
      by_instruction (Some (call x g arguments)) is = h
      by_instruction (Some (branch c to)) is = h
      by_instruction (Some (return o)) is = h

  follow_in : (code : List InstructionTree) → Fit u f code → (n i : ℕ) → i < length f.code → follow code n i < length f.code
  follow_in code all zero i h = h
  follow_in code all (suc n) i h = follow_in code all n (onward_from code i) (onward_in code all i h)

  module _ (k : ℕ → ℕ) (inside : (i : ℕ) → i < length f.code → k i < length f.code) where
    retargeted_fits : (i : InstructionTree) → instruction_fits u f i ≡ true → instruction_fits u f (retargeted k i) ≡ true
    retargeted_fits (move x o) h = h
    retargeted_fits (unary op x o) h = h
    retargeted_fits (binary op x o p) h = h
    retargeted_fits (convert s x o) h = h
    retargeted_fits (address_of x p) h = h
    retargeted_fits (load s x p) h = h
    retargeted_fits (store s p o) h = h
    retargeted_fits (copy size alignment p q) h = h
    retargeted_fits (fill blank p) h = h
    retargeted_fits (call x g arguments) h = h
    retargeted_fits (jump to) h = lt-ltb _ _ (inside to (ltb-true _ _ h))
    retargeted_fits (branch c to) h =
        let two = and_parts (condition_fits u f c) (nat_lt to (length f.code)) h in and_from _ _ two.0 (lt-ltb _ _ (inside to (ltb-true _ _ two.1)))
    retargeted_fits (return o) h = h

    all_retargeted : (code : List InstructionTree) → Fit u f code → Fit u f (map (retargeted k) code)
    all_retargeted [] h = refl
    all_retargeted (i ∷ code) h =
        let two = and_parts (instruction_fits u f i) (list_all (instruction_fits u f) code) h in
        fit_cons u f (retargeted k i) (map (retargeted k) code) (retargeted_fits i two.0) (all_retargeted code two.1)

  threaded_fits : (code : List InstructionTree) → Fit u f code → Fit u f (threaded code)
  threaded_fits code all = all_retargeted (follow code (length code)) (follow_in code all (length code)) code all

-- ---- parameters, blocks, data

pub types_count : (blocks : List ℕ) (i : ℕ) (ps : List CoreParameterTree) (vs : List CoreVariableTree) → parameters_fit blocks i ps vs ≡ true → length (types_of ps vs) ≡ length ps
types_count blocks i [] vs h = refl
types_count blocks i (p ∷ ps) [] h = cc
types_count blocks i (p ∷ ps) (v ∷ vs) h =
    let others = types_count blocks (i + 1) ps vs (and_parts _ (parameters_fit blocks (i + 1) ps vs) h).1 in omega (arith, others)

parameters_in :
    (f : TacFunctionTree) (i : ℕ) (ps : List CoreParameterTree) (vs : List CoreVariableTree) → parameters_fit f.blocks i ps vs ≡ true
    → i + length vs ≤ f.temporaries → list_all (parameter_fits f) (map (λ p. p.place) ps) ≡ true
parameters_in f i [] vs h room = refl
parameters_in f i (p ∷ ps) [] h room = cc
parameters_in f i (p ∷ ps) (v ∷ vs) h room =
    let two = and_parts (core.parameter_fits f.blocks i p v) (parameters_fit f.blocks (i + 1) ps vs) h in
    and_from _ _ (by_place p.place (and_parts _ (place_fits f.blocks i v.scalar p.place) two.0).1)
    (parameters_in f (i + 1) ps vs two.1 (omega (arith, room)))
  where
    room_within : (o : Option ℕ) (k : ℕ) (s : _) → slice_get f.blocks k ≡ o → is_room o s ≡ true → nat_lt k (length f.blocks) ≡ true
    room_within None k s is h = cc
    room_within (Some size) k s is h = lt-ltb _ _ (slice_get_within f.blocks k size is)

    by_place : (place : Parameter) → place_fits f.blocks i v.scalar place ≡ true → parameter_fits f place ≡ true
    by_place (Plain x) h = let same : x ≡ i = grind (arith, nat_tests, h) in let there : x < f.temporaries = omega (arith, same, room) in lt-ltb _ _ there
    by_place (Placed k t) h = room_within (slice_get f.blocks k) k t refl (and_parts _ (is_room (slice_get f.blocks k) t) h).1

blocks_in : (sizes : List ℕ) → list_all is_size sizes ≡ true → list_all is_word sizes ≡ true
blocks_in [] h = refl
blocks_in (n ∷ sizes) h = let two = and_parts (is_size n) (list_all is_size sizes) h in and_from _ _ (small_word n two.0) (blocks_in sizes two.1)

data_in : (c : CoreUnitTree) (ds : List DataBlockTree) → list_all (core.data_fits c) ds ≡ true → list_all data_fits (map lower_data ds) ≡ true
data_in c [] h = refl
data_in c (d ∷ ds) h =
    let two = and_parts (core.data_fits c d) (list_all (core.data_fits c) ds) h in
    and_from _ _ (small_word (data_block d).size (and_parts (list_all (piece_fits c) d.pieces) (is_size (data_block d).size) two.0).1) (data_in c ds two.1)

-- ---- units

module _ (c : CoreUnitTree) (fits : core.unit_fits c ≡ true) where
  abbrev u : TacUnitTree
  u = lower_unit c

  pub function_there : (k : ℕ) → slice_get u.functions k ≡ option_map lowered_function (slice_get c.functions k)
  function_there k =
      slice_get-map threaded_function (map straight_function c.functions) k
      ∙ ap (option_map threaded_function) (slice_get-map straight_function c.functions k)
      ∙ option_twice (slice_get c.functions k)
    where
      option_twice : (o : Option CoreFunctionTree) → option_map threaded_function (option_map straight_function o) ≡ option_map lowered_function o
      option_twice None = refl
      option_twice (Some g) = refl

  callee_in :
      (to : Callee) (s : Signature) → signature_of (interface_of c) to ≡ Some s
      → (os : List Operand) → length os ≡ length s.parameters → callee_fits u to os ≡ true
  callee_in (callees.Function k) s is os count =
      by_function (slice_get c.functions k.0) refl (sym (slice_get-map signature c.functions k.0) ∙ is)
    where
      by_function : (o : Option CoreFunctionTree) → slice_get c.functions k.0 ≡ o → option_map signature o ≡ Some s → takes (slice_get u.functions k.0) os ≡ true
      by_function None there same = cc
      by_function (Some g) there same =
          let h = function_at_fits c fits k.0 g there in
          let types : length (types_of g.parameters g.variables) ≡ length g.parameters = types_count g.blocks 0 g.parameters g.variables h.parameters in
          let parameters : length (types_of g.parameters g.variables) ≡ length s.parameters = ap (λ r. length r.parameters) (same_Some (signature g) s same) in
          let places : length (map (λ (p : CoreParameterTree). p.place) g.parameters) ≡ length g.parameters = length-map g.parameters (λ p. p.place) in
          let many : (length os == length (map (λ (p : CoreParameterTree). p.place) g.parameters)) ≡ true = grind (arith, nat_tests, count, types, parameters, places) in
          subst (λ (o : Option TacFunctionTree). takes o os ≡ true) (sym (function_there k.0 ∙ ap (option_map lowered_function) there)) many
  callee_in callees.PutChar s is os count =
      let one : 1 ≡ length s.parameters = ap (λ r. length r.parameters) (same_Some _ s is) in grind (arith, nat_tests, count, one)
  callee_in callees.GetChar s is os count =
      let none : 0 ≡ length s.parameters = ap (λ r. length r.parameters) (same_Some _ s is) in grind (arith, nat_tests, count, none)

  has : (g : CoreFunctionTree) → Has c g u (lowered_function g)
  has g = record {
    numbers = omega arith;
    blocks = refl;
    data_blocks = length-map c.data_blocks lower_data;
    callee = callee_in;
  }

  abbrev outer_exits : CoreFunctionTree → Exits
  outer_exits g =
      let end = (body_code g).part.size next_falls in record { next = falls end; on_break = goes (end + 1); on_continue = goes (end + 1) }

  code_in : (g : CoreFunctionTree) → FunctionFits c g → Fit u (lowered_function g) (function_code g)
  code_in g h = by_end (body_code g).ends refl
    where
      part_length : length ((body_code g).part.code (outer_exits g) 0) ≡ (body_code g).part.size next_falls
      part_length = (stmts_sized (length g.variables) (free_from g) g.body).part (outer_exits g) 0

      code_length : length (threaded (function_code g)) ≡ (body_code g).part.size next_falls + length (end_code (body_code g).ends)
      code_length =
          length-map (function_code g) (retargeted (follow (function_code g) (length (function_code g))))
          ∙ length-append ((body_code g).part.code (outer_exits g) 0) (end_code (body_code g).ends)
          ∙ ap (λ n. n + length (end_code (body_code g).ends)) part_length

      part_fits : PartFits u (lowered_function g) (taken (body_code g).ends (body_code g).breaks false) (body_code g).part
      part_fits = ((stmts_fit_all c g u (lowered_function g) (has g) (free_from g) false false g.body h.body).fits (omega arith)).part

      no_breaks : (body_code g).breaks ≡ false
      no_breaks = stmts_break c g (length g.variables) (free_from g) false g.body h.body

      end_fits : (e : Bool) → Fit u (lowered_function g) (end_code e)
      end_fits true = refl
      end_fits false = fit_one u (lowered_function g) (return None) refl

      next_reached : (e : Bool) → length (threaded (function_code g)) ≡ (body_code g).part.size next_falls + length (end_code e)
          → Reaches u (lowered_function g) (not e) (falls ((body_code g).part.size next_falls)) (0 + (body_code g).part.size next_falls)
      next_reached true is = tt
      next_reached false is =
          let there : (body_code g).part.size next_falls < length (threaded (function_code g)) = omega (arith, is) in
          (there, subst (λ (n : ℕ). n < length (threaded (function_code g))) (omega arith) there)

      by_end : (e : Bool) → (body_code g).ends ≡ e → Fit u (lowered_function g) (function_code g)
      by_end e is =
          let whole = code_length in
          fit_both u (lowered_function g) ((body_code g).part.code (outer_exits g) 0) (end_code (body_code g).ends)
          (part_fits.fits (outer_exits g) 0 (omega (arith, whole)) (record {
            next = next_reached (body_code g).ends code_length;
            on_break = subst (λ (b : Bool). Reaches u (lowered_function g) b (goes ((body_code g).part.size next_falls + 1)) (0 + (body_code g).part.size next_falls)) (sym no_breaks) tt;
            on_continue = tt;
          }))
          (end_fits (body_code g).ends)

  function_in : (g : CoreFunctionTree) → core.function_fits c g ≡ true → function_fits u (lowered_function g) ≡ true
  function_in g is =
      let h = function_parts c g is in
      and_from _ _
      (and_from _ _ (parameters_in (lowered_function g) 0 g.parameters g.variables h.parameters (omega arith)) (blocks_in g.blocks h.blocks))
      (threaded_fits u (lowered_function g) (function_code g) (code_in g h))

  functions_in : (gs : List CoreFunctionTree) → list_all (core.function_fits c) gs ≡ true → list_all (function_fits u) (map threaded_function (map straight_function gs)) ≡ true
  functions_in [] h = refl
  functions_in (g ∷ gs) h =
      let two = and_parts (core.function_fits c g) (list_all (core.function_fits c) gs) h in and_from _ _ (function_in g two.0) (functions_in gs two.1)

  main_in : nat_lt c.main (length u.functions) ≡ true
  main_in = by_main (slice_get c.functions c.main) refl (unit_parts c fits).main
    where
      count : length u.functions ≡ length c.functions
      count = length-map (map straight_function c.functions) threaded_function ∙ length-map c.functions straight_function

      by_main : (o : Option CoreFunctionTree) → slice_get c.functions c.main ≡ o → is_main o ≡ true → nat_lt c.main (length u.functions) ≡ true
      by_main None is h = cc
      by_main (Some g) is h =
          let there = slice_get_within c.functions c.main g is in
          let same = count in
          let within : c.main < length u.functions = omega (arith, there, same) in
          lt-ltb _ _ within

  unit_in : unit_fits u ≡ true
  unit_in =
      let parts = unit_parts c fits in
      and_from _ _ (and_from _ _ (functions_in c.functions parts.functions) main_in) (data_in c c.data_blocks parts.data_blocks)

pub lowered_fits : LoweredFits
lowered_fits c fits = unit_in c fits
