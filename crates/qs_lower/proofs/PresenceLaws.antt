-- In a unit that fits all variables, temporaries and parameters are there.
use Rattle.std.proofs.Common.{◌≡◌, ℕ, suc, ◌+◌, ◌<◌, Bool, true, false, List, [], ◌∷◌, length, map, Option, Some, None, refl, subst, arith}
use Rattle.std.specs.Prelude.{nat_lt}
use Rattle.std.proofs.lemmas.Bool.Decides.{nat_tests}
use Rattle.std.specs.List.{slice_get, list_all}
use Rattle.std.specs.Option.{option_map}
use Rattle.std.proofs.lemmas.Option.{slice_get_within}
use Rattle.std.proofs.lemmas.Bool.{and_parts}
use Rattle.qs_memory.specs.Scalars.{is_type, is_promoted}
use Rattle.qs_memory.proofs.ScalarLaws.{type_is}
use Rattle.qs_memory.specs.declared.scalar.Scalar.{Scalar}
use Rattle.qs_calls.specs.Starts.{Signature}
use Rattle.qs_calls.specs.declared.parameter.Parameter.{Parameter}
use Rattle.qs_calls.specs.declared.parameter.Parameter.TheVariants.{Plain, Placed}
use Rattle.qs_core.specs.Trees as core
use Rattle.qs_core.specs.Trees.{CoreExprTree, CoreStmtTree, CoreStmts, no_stmts, stmt_and, CoreParameterTree, CoreVariableTree, CoreFunctionTree, CoreUnitTree}
use Rattle.qs_core.specs.declared.labels.CoreLabel.{CoreLabel}
use Rattle.qs_core.specs.declared.labels.CoreLabel.TheVariants.{Case, Default}
use Rattle.qs_core.specs.declared.numbers.Target.{Target}
use Rattle.qs_core.specs.declared.numbers.Target.TheVariants as targets
use Rattle.qs_core.specs.Expressions.{type_of}
use Rattle.qs_core.specs.Outline.{count_of}
use Rattle.qs_core.specs.Interfaces.{variable_type, temporary_type, target_type}
use Rattle.qs_core.specs.Statements.{Context}
use Rattle.qs_core.specs.Fits.{expr_fits, exprs_fit, pointer_fits, call_fits, destination_fits, label_fits, stmt_fits, stmts_fit, place_fits, parameter_fits, parameters_fit}
use Rattle.qs_tac.specs.Trees.{InstructionTree}
use Rattle.qs_lower_expressions.proofs.RealisationLaws.{Model, Stack, CallsReal, IsCode}
use Rattle.qs_lower_expressions.proofs.ExprReal as expr
use Rattle.qs_lower.proofs.PlainReal as plain
use Rattle.qs_lower.proofs.CallReal as calls
use Rattle.qs_lower.proofs.SwitchReal.{LabelsThere}
use Rattle.qs_lower.proofs.UnitReal as unit
use Rattle.qs_lower.proofs.FollowLaws.{ParametersThere}

known_there : {A B : Type 0} (xs : List A) (x : ℕ) (g : A → B) (o : Option A) (b : B) → slice_get xs x ≡ o → option_map g o ≡ Some b → x < length xs
known_there xs x g None b is h = absurd (cc)
known_there xs x g (Some a) b is h = slice_get_within xs x a is

pub variable_there : (f : CoreFunctionTree) (x : ℕ) (s : Scalar) → is_type (variable_type f x) s ≡ true → x < length f.variables
variable_there f x s h = known_there f.variables x (λ v. v.scalar) (slice_get f.variables x) s refl (type_is (variable_type f x) s h)

pub temporary_there : (f : CoreFunctionTree) (k : ℕ) (s : Scalar) → is_type (temporary_type f k) s ≡ true → k < length f.temporaries
temporary_there f k s h = slice_get_within f.temporaries k s (type_is (temporary_type f k) s h)

-- the labels of a switch
pub labels_there : (s : Scalar) (parts : ℕ) (labels : List CoreLabel) → list_all (label_fits s parts) labels ≡ true → LabelsThere parts labels
labels_there s parts [] h = tt
labels_there s parts (Case n part ∷ labels) h =
    let two = and_parts (label_fits s parts (Case n part)) (list_all (label_fits s parts) labels) h in
    let less = (and_parts _ (nat_lt part parts) two.0).1 in
    (grind (arith, nat_tests, less), labels_there s parts labels two.1)
labels_there s parts (Default part ∷ labels) h =
    let two = and_parts (nat_lt part parts) (list_all (label_fits s parts) labels) h in
    let less = two.0 in
    (grind (arith, nat_tests, less), labels_there s parts labels two.1)

module _ (c : CoreUnitTree) (u : Model) (f : CoreFunctionTree) (code : List InstructionTree) (function : ℕ) (stack : Stack) (is_code : IsCode u f code function stack) where
  abbrev IsThere : CoreExprTree → Type 0
  IsThere s = expr.IsThere u f code function stack is_code s

  pub expr_there : (s : CoreExprTree) → expr_fits c f s ≡ true → IsThere s
  expr_there (core.literal s n) h = tt
  expr_there core.null_pointer h = tt
  expr_there (core.variable s x) h = variable_there f x s h
  expr_there (core.temporary s k) h = temporary_there f k s h
  expr_there (core.address_of b) h = tt
  expr_there (core.load s a) h = expr_there a (and_parts (expr_fits c f a) _ h).0
  expr_there (core.member offset a) h = expr_there a (and_parts (expr_fits c f a) _ (and_parts _ _ h).0).0
  expr_there (core.unary op a) h = expr_there a (and_parts (expr_fits c f a) _ h).0
  expr_there (core.binary op a b) h =
      let two = and_parts (expr_fits c f a) (expr_fits c f b) (and_parts _ _ h).0 in (expr_there a two.0, expr_there b two.1)
  expr_there (core.conversion s a) h = expr_there a (and_parts (expr_fits c f a) _ h).0
  expr_there (core.logical_and a b) h = let two = and_parts (expr_fits c f a) (expr_fits c f b) h in (expr_there a two.0, expr_there b two.1)
  expr_there (core.logical_or a b) h = let two = and_parts (expr_fits c f a) (expr_fits c f b) h in (expr_there a two.0, expr_there b two.1)
  expr_there (core.conditional q a b) h =
      let three = and_parts _ (expr_fits c f b) (and_parts _ _ h).0 in
      let two = and_parts (expr_fits c f q) (expr_fits c f a) three.0 in
      (expr_there q two.0, expr_there a two.1, expr_there b three.1)

  pointer_there : (s : CoreExprTree) → pointer_fits c f s ≡ true → IsThere s
  pointer_there s h = expr_there s (and_parts (expr_fits c f s) _ h).0

  module _ (x : Context) (first depth : ℕ) (calls_real : CallsReal u depth x.calls) where
    exprs_there : (ss : List CoreExprTree) → exprs_fit c f ss ≡ true → calls.AreThere u f code function stack is_code x first depth calls_real ss
    exprs_there [] h = tt
    exprs_there (s ∷ ss) h = let two = and_parts (expr_fits c f s) (exprs_fit c f ss) h in (expr_there s two.0, exprs_there ss two.1)

    target_there : (y : Target) (s : Scalar) → is_type (target_type f y) s ≡ true → plain.IsTarget u f code function stack is_code x first depth calls_real y
    target_there (targets.Variable y) s h = variable_there f y s h
    target_there (targets.Temporary k) s h = temporary_there f k s h

    taken_there :
        (y : Option ℕ) (g : Option Signature) (ss : List CoreExprTree) → call_fits f y g ss ≡ true
        → calls.IsTaken u f code function stack is_code x first depth calls_real y
    taken_there None g ss h = tt
    taken_there (Some k) None ss h = absurd (cc)
    taken_there (Some k) (Some g) ss h = of_result g.result_type (and_parts _ (destination_fits f g.result_type (Some k) ss) h).1
      where
        of_result : (o : Option Scalar) → destination_fits f o (Some k) ss ≡ true → k < length f.temporaries
        of_result None h = absurd (cc)
        of_result (Some s) h = temporary_there f k s (and_parts (is_type (temporary_type f k) s) _ h).0

    mutual
      pub stmt_there : (b q : Bool) (s : CoreStmtTree) → stmt_fits c f b q s ≡ true → unit.StmtThere u f code function stack is_code x first depth calls_real s
      stmt_there b q core.skip h = tt
      stmt_there b q (core.seq ss) h = stmts_there b q ss h
      stmt_there b q (core.assign y e) h = let two = and_parts (expr_fits c f e) _ h in (target_there y _ two.1, expr_there e two.0)
      stmt_there b q (core.store s a e) h =
          let two = and_parts (pointer_fits c f a) (expr_fits c f e) (and_parts _ _ h).0 in (pointer_there a two.0, expr_there e two.1)
      stmt_there b q (core.copy size alignment a e) h =
          let two = and_parts (pointer_fits c f a) (pointer_fits c f e) (and_parts _ _ (and_parts _ _ h).0).0 in (pointer_there a two.0, pointer_there e two.1)
      stmt_there b q (core.fill blank a) h = pointer_there a (and_parts (pointer_fits c f a) _ h).0
      stmt_there b q (core.call y g es) h =
          let two = and_parts (exprs_fit c f es) _ h in (taken_there y _ es two.1, exprs_there es two.0)
      stmt_there b q (core.branch e s r) h =
          let two = and_parts _ (stmt_fits c f b q r) h in
          let one = and_parts (expr_fits c f e) (stmt_fits c f b q s) two.0 in
          (expr_there e one.0, stmt_there b q s one.1, stmt_there b q r two.1)
      stmt_there b q (core.loop body step) h =
          let two = and_parts (stmt_fits c f true true body) (stmt_fits c f true false step) h in
          (stmt_there true true body two.0, stmt_there true false step two.1)
      stmt_there b q (core.switch e labels ss) h =
          let four = and_parts _ (stmts_fit c f true q ss) h in
          let three = and_parts _ (list_all (label_fits (type_of e) (count_of ss)) labels) four.0 in
          let two = and_parts (expr_fits c f e) (is_promoted (type_of e)) three.0 in
          (expr_there e two.0, labels_there (type_of e) (count_of ss) labels three.1, stmts_there true q ss four.1)
      stmt_there b q core.break h = tt
      stmt_there b q core.continue h = tt
      stmt_there b q (core.return None) h = tt
      stmt_there b q (core.return (Some e)) h = expr_there e (and_parts (expr_fits c f e) _ h).0

      pub stmts_there : (b q : Bool) (ss : CoreStmts) → stmts_fit c f b q ss ≡ true → unit.StmtsThere u f code function stack is_code x first depth calls_real ss
      stmts_there b q no_stmts h = tt
      stmts_there b q (stmt_and s ss) h =
          let two = and_parts (stmt_fits c f b q s) (stmts_fit c f b q ss) h in (stmt_there b q s two.0, stmts_there b q ss two.1)

-- ---- parameters

pub more_there : (n m : ℕ) (ps : List Parameter) → n ≡ m → ParametersThere n ps → ParametersThere m ps
more_there n m ps same h = subst (λ (k : ℕ). ParametersThere k ps) same h

pub parameters_there :
    (blocks : List ℕ) (i : ℕ) (ps : List CoreParameterTree) (vs : List CoreVariableTree) → parameters_fit blocks i ps vs ≡ true
    → ParametersThere (i + length vs) (map (λ p. p.place) ps)
parameters_there blocks i [] vs h = tt
parameters_there blocks i (p ∷ ps) [] h = absurd (cc)
parameters_there blocks i (p ∷ ps) (v ∷ vs) h =
    let two = and_parts (parameter_fits blocks i p v) (parameters_fit blocks (i + 1) ps vs) h in
    let rest = more_there (i + 1 + length vs) (i + suc (length vs)) (map (λ p. p.place) ps) (omega arith) (parameters_there blocks (i + 1) ps vs two.1) in
    by_place p.place (and_parts _ (place_fits blocks i v.scalar p.place) two.0).1 rest
  where
    by_place :
        (place : Parameter) → place_fits blocks i v.scalar place ≡ true → ParametersThere (i + suc (length vs)) (map (λ p. p.place) ps)
        → ParametersThere (i + suc (length vs)) (place ∷ map (λ p. p.place) ps)
    by_place (Plain x) h rest = let same : x ≡ i = grind (arith, nat_tests, h) in (omega (arith, same), rest)
    by_place (Placed k s) h rest = rest
