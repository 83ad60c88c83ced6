-- Calls pass few arguments.
use Rattle.std.proofs.Common.{◌≡◌, ℕ, zero, suc, ◌≤◌, Bool, true, List, [], ◌∷◌, length, Option, Some, refl, sym, ap, ◌∙◌, subst, arith}
use Rattle.std.specs.Prelude.{◌&&◌, slice_get}
use Rattle.std.specs.List.{list_all}
use Rattle.std.proofs.lemmas.Bool.{and_parts}
use Rattle.std.proofs.lemmas.Bool.Decides.{nat_tests}
use Rattle.std.proofs.lemmas.Option.{get_or_from_slice_get}
use Rattle.qs_base.specs.Parameters.{stack_arguments}
use Rattle.qs_calls.specs.declared.callee.Callee.{Callee}
use Rattle.qs_tac.specs.Trees.{InstructionTree, move, unary, binary, convert, address_of, load, store}
use Rattle.qs_tac.specs.Trees.{copy, fill, call, jump, branch, return, TacUnitTree}
use Rattle.qs_tac.specs.Places.{PlacesTree}
use Rattle.qs_tac.specs.Sizes.{arguments_of, most_passed}
use Rattle.qs_tac.specs.declared.operands.Operand.{Operand}
use Rattle.qs_emit_selection.specs.Laws.{HasFewArguments, PassesFew, AllPassFew}
use Rattle.qs_emit_selection.specs.Limits.{most_arguments, passes_few}
use Rattle.qs_emit_selection.proofs.LimitLaws.{few_passed}
use Rattle.qs_emit.specs.Relation.{no_function, function_at, IsEmittable}

pub both_true : (a b : Bool) → a ≡ true → b ≡ true → (a && b) ≡ true
both_true a b h k = cc

-- ---- of code

short_passes : (i : InstructionTree) → HasFewArguments i → passes_few i ≡ true
short_passes (move x o) h = refl
short_passes (unary op x o) h = refl
short_passes (binary op x o p) h = refl
short_passes (convert s x o) h = refl
short_passes (address_of x p) h = refl
short_passes (load s x p) h = refl
short_passes (store s p o) h = refl
short_passes (copy size alignment p q) h = refl
short_passes (fill b p) h = refl
short_passes (call x f arguments) h = let few : length arguments ≤ most_arguments = h x f arguments refl in grind (arith, nat_tests, few)
short_passes (jump to) h = refl
short_passes (branch c to) h = refl
short_passes (return o) h = refl

pub all_pass : (code : List InstructionTree) → ((k : ℕ) (i : InstructionTree) → slice_get code k ≡ Some i → HasFewArguments i) → list_all passes_few code ≡ true
all_pass [] h = refl
all_pass (i ∷ code) h =
    both_true (passes_few i) (list_all passes_few code) (short_passes i (h 0 i refl)) (all_pass code (λ k j is. h (suc k) j is))

passes_short : (i : InstructionTree) → passes_few i ≡ true → HasFewArguments i
passes_short i passes x f arguments is = let few : passes_few (call x f arguments) ≡ true = ap passes_few (sym is) ∙ passes in grind (arith, nat_tests, few)

pub all_short : (code : List InstructionTree) → list_all passes_few code ≡ true → (k : ℕ) (i : InstructionTree) → slice_get code k ≡ Some i → HasFewArguments i
all_short [] all k i at = absurd cc
all_short (j ∷ code) all zero i at =
    let same : j ≡ i = cc in
    subst HasFewArguments same (passes_short j (and_parts (passes_few j) (list_all passes_few code) all).0)
all_short (j ∷ code) all (suc k) i at = all_short code (and_parts (passes_few j) (list_all passes_few code) all).1 k i at

-- a frame has words for the arguments of each call
pub passed_there : (code : List InstructionTree) (k : ℕ) (x : Option ℕ) (f : Callee) (os : List Operand) → slice_get code k ≡ Some (call x f os) → stack_arguments (length os) ≤ most_passed code
passed_there [] k x f os e = absurd cc
passed_there (i ∷ code) zero x f os e =
    let same : i ≡ call x f os = cc in
    let count : arguments_of i ≡ length os = ap arguments_of same in
    omega (arith, count)
passed_there (i ∷ code) (suc k) x f os e = let rest = passed_there code k x f os e in omega (arith, rest)

-- ---- of units

pub few_there : (u : TacUnitTree) (ps : List PlacesTree) → IsEmittable u ps → (f : ℕ) → PassesFew (function_at u f)
few_there u ps h f = few_passed (function_at u f).code (all_pass (function_at u f).code (h.arguments f))

pub all_few : (u : TacUnitTree) (ps : List PlacesTree) → IsEmittable u ps → AllPassFew u
all_few u ps h f g e = subst PassesFew (get_or_from_slice_get u.functions f g no_function e) (few_there u ps h f)
