-- What holds of a function that has no fault.
use Rattle.std.proofs.Common.{◌≡◌, ◌^◌, ◌≤◌, Bool, true, false, List, [], ◌∷◌, length, Option, Some, None, refl, arith}
use Rattle.std.specs.Prelude.{nat_le, if◌then◌else◌}
use Rattle.std.specs.List.{list_all}
use Rattle.std.proofs.lemmas.Bool.Decides.{nat_tests}
use Rattle.std.specs.Option.{option_or}
use Rattle.std.proofs.lemmas.Bool.{and_parts}
use Rattle.qs_tac.specs.Trees.{InstructionTree, move, unary, binary, convert, address_of, load, store}
use Rattle.qs_tac.specs.Trees.{copy, fill, call, jump, branch, return, TacFunctionTree}
use Rattle.qs_tac.specs.Sizes.{arguments_of, most_passed}
use Rattle.qs_tac.specs.Places.{PlacesTree}
use Rattle.qs_frames.specs.Layout.{layout}
use Rattle.qs_emit_selection.specs.Limits.{passes_few, has_few, places_fit, frame_fits, function_fault}
use Rattle.qs_emit_selection.specs.declared.fault.SelectionFault.{SelectionFault}
use Rattle.qs_emit_selection.specs.declared.fault.SelectionFault.TheVariants as faults

pub record IsFree (f : TacFunctionTree) (p : PlacesTree) : Type 0 where
  pub parameters : length f.parameters ≤ 16
  pub code : list_all passes_few f.code ≡ true
  pub places : places_fit p ≡ true
  pub cost : (layout f p).cost ≤ 2 ^ 28

record AreThree (a b c : Bool) : Type 0 where
  first : a ≡ true
  second : b ≡ true
  third : c ≡ true

three :
    (a b c : Bool)
    → (if a then (if b then (if c then None else Some faults.FrameTooLarge) else Some faults.NoRegister) else Some faults.TooManyArguments) ≡ None
    → AreThree a b c
three true true true h = record { first = refl; second = refl; third = refl }
three true true false h = cc
three true false c h = cc
three false b c h = cc

pub is_free : (f : TacFunctionTree) (p : PlacesTree) → function_fault f p ≡ None → IsFree f p
is_free f p h =
    let t = three (has_few f) (places_fit p) (frame_fits f p) h in
    let few = and_parts (nat_le (length f.parameters) 16) (list_all passes_few f.code) t.first in
    record {
      parameters = grind (arith, nat_tests, few.0);
      code = few.1;
      places = t.second;
      cost = grind (arith, nat_tests, t.third);
    }

pub none_first : (a b : Option SelectionFault) → option_or a b ≡ None → (a ≡ None) × (b ≡ None)
none_first None b h = (refl, h)
none_first (Some f) b h = cc

-- ---- what calls pass on the stack

few_arguments : (i : InstructionTree) → passes_few i ≡ true → arguments_of i ≤ 16
few_arguments (move x o) h = omega arith
few_arguments (unary op x o) h = omega arith
few_arguments (binary op x o p) h = omega arith
few_arguments (convert s x o) h = omega arith
few_arguments (address_of x p) h = omega arith
few_arguments (load s x p) h = omega arith
few_arguments (store s p o) h = omega arith
few_arguments (copy size alignment p q) h = omega arith
few_arguments (fill b p) h = omega arith
few_arguments (call x f arguments) h = grind (arith, nat_tests, h)
few_arguments (jump to) h = omega arith
few_arguments (branch c to) h = omega arith
few_arguments (return o) h = omega arith

pub few_passed : (code : List InstructionTree) → list_all passes_few code ≡ true → most_passed code ≤ 8
few_passed [] h = omega arith
few_passed (i ∷ code) h =
    let parts = and_parts (passes_few i) (list_all passes_few code) h in
    let first = few_arguments i parts.0 in
    let rest = few_passed code parts.1 in
    omega (arith, first, rest)

pub few_outgoing : (f : TacFunctionTree) (p : PlacesTree) → function_fault f p ≡ None → (layout f p).outgoing ≤ 32
few_outgoing f p h = let few = few_passed f.code (is_free f p h).code in omega (arith, few)
