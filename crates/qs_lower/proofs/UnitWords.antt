-- What is lowered of a function has at most its values and words, and so has a unit.
use Rattle.std.proofs.Common.{◌≡◌, ℕ, suc, ◌+◌, ◌*◌, ◌≤◌, Bool, true, false, List, [], ◌∷◌, length, map, Some, None, refl, ap, ◌∙◌, arith}
use Rattle.std.specs.Prelude.{◌-◌, nat_lt, sum_by}
use Rattle.std.specs.List.{slice_get, list_all}
use Rattle.std.specs.Option.{option_map}
use Rattle.std.proofs.lemmas.Bool.Decides.{nat_tests}
use Rattle.std.proofs.lemmas.List.{length-map}
use Rattle.std.proofs.lemmas.List.Sums.{sum_by-cons}
use Rattle.std.proofs.lemmas.Bool.{and_parts}
use Rattle.qs_base.specs.Parameters.{stack_arguments, most_stack_arguments}
use Rattle.qs_calls.specs.declared.parameter.Parameter.{Parameter}
use Rattle.qs_calls.specs.declared.parameter.Parameter.TheVariants.{Plain, Placed}
use Rattle.qs_core.specs.Trees.{CoreParameterTree, CoreFunctionTree, CoreUnitTree}
use Rattle.qs_core.specs.Sizes as counts
use Rattle.qs_core.specs.Sizes.{held_in_all, most_arguments_in}
use Rattle.qs_core.specs.Fits.{function_fits, unit_fits}
use Rattle.qs_core.proofs.FitLaws.{FunctionFits, function_parts, function_at_fits, unit_parts}
use Rattle.qs_tac.specs.Trees.{InstructionTree, move, unary, binary, convert, address_of, load, store}
use Rattle.qs_tac.specs.Trees.{copy, fill, call, jump, branch, return, TacFunctionTree}
use Rattle.qs_tac.specs.Sizes as sizes
use Rattle.qs_tac.specs.Sizes.{is_near, parameter_words, instruction_words, near_values}
use Rattle.qs_lower_expressions.specs.Exits.{falls, goes}
use Rattle.qs_lower.specs.Statements.{Exits, next_falls}
use Rattle.qs_lower_expressions.specs.Threads.{follow, retargeted, threaded_function}
use Rattle.qs_lower.specs.Units.{free_from, body_code, end_code, function_code, straight_function}
use Rattle.qs_lower.specs.WordLaws.{lowered_function, IsInReach, FewArguments, KeepsSizes, UnitKeepsSizes}
use Rattle.qs_lower.proofs.UnitFits.{function_there}
use Rattle.qs_lower_expressions.proofs.ExprWords.{slot_small, words_both, words_cons}
use Rattle.qs_lower.proofs.StmtWords.{all_stmts_words}
use Rattle.qs_lower.proofs.HeldValues.{stmts_hold}
use Rattle.qs_lower.proofs.CallArguments.{stmts_few, threaded_few}
use Rattle.qs_lower.proofs.CallArguments as call_arguments

-- a jump takes its word wherever it leads
retargeted_words : (f : TacFunctionTree) (k : ℕ → ℕ) (i : InstructionTree) → instruction_words f (retargeted k i) ≡ instruction_words f i
retargeted_words f k (move x o) = refl
retargeted_words f k (unary op x o) = refl
retargeted_words f k (binary op x o p) = refl
retargeted_words f k (convert s x o) = refl
retargeted_words f k (address_of x p) = refl
retargeted_words f k (load s x p) = refl
retargeted_words f k (store s p o) = refl
retargeted_words f k (copy size alignment p q) = refl
retargeted_words f k (fill blank p) = refl
retargeted_words f k (call x g arguments) = refl
retargeted_words f k (jump to) = refl
retargeted_words f k (branch c to) = refl
retargeted_words f k (return o) = refl

threaded_words : (f : TacFunctionTree) (k : ℕ → ℕ) (code : List InstructionTree) → sum_by (instruction_words f) (map (retargeted k) code) ≡ sum_by (instruction_words f) code
threaded_words f k [] = refl
threaded_words f k (i ∷ code) =
    let e = threaded_words f k code in
    let a = sum_by-cons (instruction_words f) (retargeted k i) (map (retargeted k) code) in
    let b = sum_by-cons (instruction_words f) i code in
    let c = retargeted_words f k i in
    omega arith

-- the last temporaries are in reach
last_near : (free used t : ℕ) → used ≤ near_values → free ≤ t → nat_lt (4 * (most_stack_arguments + sizes.saved_registers + (free + used - t))) sizes.reach ≡ true
last_near free used t h k = grind (arith, nat_tests, h, k)

-- few arguments are few on the stack
all_passed : (n : ℕ) (code : List InstructionTree) → FewArguments n code → sizes.most_passed code ≤ stack_arguments n
all_passed n [] h = omega arith
all_passed n (i ∷ code) h = let a = h.0 in let b = all_passed n code h.1 in omega (arith, a, b)

module _ (c : CoreUnitTree) (g : CoreFunctionTree) (h : FunctionFits c g) where
  abbrev f : TacFunctionTree
  f = lowered_function g

  used_held : (body_code g).used ≤ held_in_all g.body
  used_held = stmts_hold c g (length g.variables) (free_from g) false false g.body h.body

  module _ (reach : IsInReach g) where
    near : (t : ℕ) → free_from g ≤ t → is_near f t ≡ true
    near t le = let u = used_held in last_near (free_from g) (body_code g).used t (omega (arith, u, reach)) le

    parameter_small : (p : Parameter) → parameter_words f p ≤ 3
    parameter_small (Plain x) = slot_small f (free_from g) near x
    parameter_small (Placed i s) = omega arith

    parameters_small : (ps : List Parameter) → sum_by (parameter_words f) ps ≤ 3 * length ps
    parameters_small [] = omega arith
    parameters_small (p ∷ ps) =
        let e = sum_by-cons (parameter_words f) p ps in
        let a = parameter_small p in
        let b = parameters_small ps in
        omega arith

    end_small : (e : Bool) → sum_by (instruction_words f) (end_code e) ≤ 17
    end_small true = omega arith
    end_small false = let e = words_cons f (free_from g) near (return None) [] in omega arith

    abbrev body_end : ℕ
    body_end = (body_code g).part.size next_falls

    abbrev outer_exits : Exits
    outer_exits = record { next = falls body_end; on_break = goes (body_end + 1); on_continue = goes (body_end + 1) }

    function_words : sizes.words f ≤ counts.words g
    function_words =
        let a = threaded_words f (follow (function_code g) (length (function_code g))) (function_code g) in
        let b = words_both f (free_from g) near ((body_code g).part.code outer_exits 0) (end_code (body_code g).ends) in
        let d = (all_stmts_words c g (length g.variables) f (free_from g) near (free_from g) false false g.body (omega arith) h.body).part outer_exits 0 in
        let e = end_small (body_code g).ends in
        let p = parameters_small (map (λ (q : CoreParameterTree). q.place) g.parameters) in
        let l = length-map g.parameters (λ (q : CoreParameterTree). q.place) in
        omega arith

  few_arguments : FewArguments (most_arguments_in g.body) f.code
  few_arguments =
      let most = most_arguments_in g.body in
      let end = (body_code g).part.size next_falls in
      threaded_few most (follow (function_code g) (length (function_code g))) (function_code g)
      (call_arguments.both most ((body_code g).part.code (record { next = falls end; on_break = goes (end + 1); on_continue = goes (end + 1) }) 0) (end_code (body_code g).ends)
      ((stmts_few most (length g.variables) (free_from g) g.body (omega arith)).part (record { next = falls end; on_break = goes (end + 1); on_continue = goes (end + 1) }) 0)
      (end_few (body_code g).ends))
    where
      end_few : (e : Bool) → FewArguments (most_arguments_in g.body) (end_code e)
      end_few true = tt
      end_few false = (omega arith, tt)

  pub keeps_sizes : KeepsSizes g f
  keeps_sizes = record {
    parameters = refl;
    blocks = refl;
    values = let u = used_held in omega arith;
    passed = all_passed (most_arguments_in g.body) f.code few_arguments;
    words = function_words;
    arguments = few_arguments;
  }

module _ (c : CoreUnitTree) where
  functions_words :
      (gs : List CoreFunctionTree) → list_all (function_fits c) gs ≡ true → ((k : ℕ) (g : CoreFunctionTree) → slice_get gs k ≡ Some g → IsInReach g)
      → sum_by sizes.words (map threaded_function (map straight_function gs)) ≤ sum_by counts.words gs
  functions_words [] h reach = omega arith
  functions_words (g ∷ gs) h reach =
      let two = and_parts (function_fits c g) (list_all (function_fits c) gs) h in
      let first = (keeps_sizes c g (function_parts c g two.0)).words (reach 0 g refl) in
      let rest = functions_words gs two.1 (λ k i e. reach (suc k) i e) in
      let a = sum_by-cons sizes.words (lowered_function g) (map threaded_function (map straight_function gs)) in
      let b = sum_by-cons counts.words g gs in
      omega arith

  pub lowered_sizes_are_kept : unit_fits c ≡ true → UnitKeepsSizes c
  lowered_sizes_are_kept fits = record {
    there = λ k g e. function_there c fits k ∙ ap (option_map lowered_function) e;
    function = λ k g e. keeps_sizes c g (function_at_fits c fits k g e);
    words = λ reach. let e = functions_words c.functions (unit_parts c fits).functions reach in omega arith;
  }
