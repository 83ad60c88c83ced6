-- Places of small functions, reckoned by hand, and places that are refused.
use Rattle.std.proofs.Common.{◌≡◌, ℕ, List, [], ◌∷◌, true, false, Some, refl}
use Rattle.qs_memory.specs.declared.operation.Signedness.TheVariants.{Signed, Unsigned}
use Rattle.qs_memory.specs.declared.operation.Arithmetic.TheVariants.{Add, Subtract}
use Rattle.qs_memory.specs.declared.operation.Comparison.TheVariants.{Less, NotEqual}
use Rattle.qs_memory.specs.declared.operation.BinaryOperation.TheVariants.{Arithmetic}
use Rattle.qs_calls.specs.declared.callee.Callee.TheVariants.{Function}
use Rattle.qs_calls.specs.declared.parameter.Parameter.TheVariants.{Plain}
use Rattle.qs_tac.specs.Trees.{TacFunctionTree, move, binary, branch, call, jump, return}
use Rattle.qs_tac.specs.declared.operands.Operand.TheVariants.{Temporary, Constant}
use Rattle.qs_tac.specs.declared.operands.Condition.TheVariants.{Compare}
use Rattle.qs_tac.specs.Liveness.{Certificate}
use Rattle.qs_tac.specs.Places.{PlacesTree, all_slots}
use Rattle.qs_tac.specs.declared.places.Place.{Place}
use Rattle.qs_tac.specs.declared.places.Place.TheVariants.{Slot, Register}
use Rattle.qs_alloc.specs.Verification.{is_accepted, are_verified}

-- `unsigned f(unsigned n){if(n==0u)return 0u;return f(n-1u)+1u;}`: n, what the call gives, and one more
abbrev counts_down : TacFunctionTree
counts_down = record {
  parameters = Plain 0 ∷ [];
  temporaries = 3;
  blocks = [];
  code =
      branch (Compare NotEqual Unsigned (Temporary 0) (Constant 0)) 2
      ∷ return (Some (Constant 0))
      ∷ binary (Arithmetic Subtract Unsigned) 2 (Temporary 0) (Constant 1)
      ∷ call (Some 1) (Function (record { 0 = 0 })) (Temporary 2 ∷ [])
      ∷ binary (Arithmetic Add Unsigned) 2 (Temporary 1) (Constant 1)
      ∷ return (Some (Temporary 2))
      ∷ [];
}

three_slots : (all_slots counts_down).at ≡ Slot 0 ∷ Slot 1 ∷ Slot 2 ∷ []
three_slots = refl

abbrev placed : List Place → Certificate → PlacesTree
placed at needed = record { at = at; needed = needed }

-- ---- a slot for each temporary

slots_are_accepted : is_accepted counts_down (placed (Slot 0 ∷ Slot 1 ∷ Slot 2 ∷ []) ((7 ∷ []) ∷ [])) ≡ true
slots_are_accepted = refl

a_shared_slot : is_accepted counts_down (placed (Slot 0 ∷ Slot 1 ∷ Slot 1 ∷ []) []) ≡ false
a_shared_slot = refl

one_too_few : is_accepted counts_down (placed (Slot 0 ∷ Slot 1 ∷ []) []) ≡ false
one_too_few = refl

-- ---- n is needed until it is compared or counted down, n - 1 at the call, what the call gives behind it

abbrev its_needs : Certificate
its_needs = (0 ∷ []) ∷ [] ∷ (2 ∷ []) ∷ (1 ∷ []) ∷ (2 ∷ []) ∷ [] ∷ []

-- what the call gives is needed after it, so it stands in a register that functions give back
in_registers : is_accepted counts_down (placed (Register 5 ∷ Register 8 ∷ Register 5 ∷ []) its_needs) ≡ true
in_registers = refl

in_one_slot : is_accepted counts_down (placed (Slot 0 ∷ Slot 0 ∷ Slot 0 ∷ []) its_needs) ≡ true
in_one_slot = refl

calls_change_it : is_accepted counts_down (placed (Register 5 ∷ Register 6 ∷ Register 5 ∷ []) its_needs) ≡ false
calls_change_it = refl

for_steps : is_accepted counts_down (placed (Register 10 ∷ Register 8 ∷ Register 5 ∷ []) its_needs) ≡ false
for_steps = refl

too_high_a_slot : is_accepted counts_down (placed (Register 5 ∷ Slot 1 ∷ Register 5 ∷ []) its_needs) ≡ false
too_high_a_slot = refl

-- n is needed after the branch, since it is counted down behind it
forgotten : is_accepted counts_down (placed (Register 5 ∷ Register 8 ∷ Register 5 ∷ []) ([] ∷ [] ∷ (2 ∷ []) ∷ (1 ∷ []) ∷ (2 ∷ []) ∷ [] ∷ [])) ≡ false
forgotten = refl

-- more may be listed than is needed
more_than_needed : is_accepted counts_down (placed (Register 9 ∷ Register 8 ∷ Register 5 ∷ []) ((0 ∷ []) ∷ [] ∷ (2 ∷ 2 ∷ 0 ∷ []) ∷ (1 ∷ 0 ∷ []) ∷ (2 ∷ 0 ∷ []) ∷ (0 ∷ []) ∷ [])) ≡ true
more_than_needed = refl

a_list_too_few : is_accepted counts_down (placed (Register 5 ∷ Register 8 ∷ Register 5 ∷ []) ((0 ∷ []) ∷ [] ∷ (2 ∷ []) ∷ (1 ∷ []) ∷ (2 ∷ []) ∷ [])) ≡ false
a_list_too_few = refl

-- ---- `int f(int n){int lo;int hi;int m;lo=0;hi=n;while(lo<hi){m=lo+hi;if(m<5)lo=m+1;else hi=m;}return lo;}`

abbrev halves : TacFunctionTree
halves = record {
  parameters = Plain 0 ∷ [];
  temporaries = 4;
  blocks = [];
  code =
      move 1 (Constant 0)
      ∷ move 2 (Temporary 0)
      ∷ branch (Compare Less Signed (Temporary 1) (Temporary 2)) 4
      ∷ return (Some (Temporary 1))
      ∷ binary (Arithmetic Add Signed) 3 (Temporary 1) (Temporary 2)
      ∷ branch (Compare Less Signed (Temporary 3) (Constant 5)) 8
      ∷ move 2 (Temporary 3)
      ∷ jump 2
      ∷ binary (Arithmetic Add Signed) 1 (Temporary 3) (Constant 1)
      ∷ jump 2
      ∷ [];
}

abbrev both : List ℕ
both = 1 ∷ 2 ∷ []

abbrev halves_needs : Certificate
halves_needs = (0 ∷ 1 ∷ []) ∷ both ∷ both ∷ [] ∷ (1 ∷ 2 ∷ 3 ∷ []) ∷ (1 ∷ 2 ∷ 3 ∷ []) ∷ both ∷ both ∷ both ∷ both ∷ []

-- n shares with m
three_registers : is_accepted halves (placed (Register 5 ∷ Register 7 ∷ Register 6 ∷ Register 5 ∷ []) halves_needs) ≡ true
three_registers = refl

-- lo and hi are needed at once
lo_and_hi_in_one_register : is_accepted halves (placed (Register 5 ∷ Register 7 ∷ Register 7 ∷ Register 6 ∷ []) halves_needs) ≡ false
lo_and_hi_in_one_register = refl

-- ---- `int main(int a){a+1;return a;}`: what nobody needs is written where a is needed

abbrev unused_sum : TacFunctionTree
unused_sum = record {
  parameters = Plain 0 ∷ [];
  temporaries = 2;
  blocks = [];
  code = binary (Arithmetic Add Signed) 1 (Temporary 0) (Constant 1) ∷ return (Some (Temporary 0)) ∷ [];
}

two_registers : is_accepted unused_sum (placed (Register 5 ∷ Register 6 ∷ []) ((0 ∷ []) ∷ [] ∷ [])) ≡ true
two_registers = refl

one_register : is_accepted unused_sum (placed (Register 5 ∷ Register 5 ∷ []) ((0 ∷ []) ∷ [] ∷ [])) ≡ false
one_register = refl

-- ---- the entry: `int f(int a,int b){return a;}`, whose arguments come at once though b isn't needed

abbrev first_of_two : TacFunctionTree
first_of_two = record { parameters = Plain 0 ∷ Plain 1 ∷ []; temporaries = 2; blocks = []; code = return (Some (Temporary 0)) ∷ [] }

parameters_apart : is_accepted first_of_two (placed (Register 5 ∷ Register 6 ∷ []) ([] ∷ [])) ≡ true
parameters_apart = refl

parameters_in_one_register : is_accepted first_of_two (placed (Register 5 ∷ Register 5 ∷ []) ([] ∷ [])) ≡ false
parameters_in_one_register = refl

-- ---- a function whose places are missing has to have no temporaries

missing_places : are_verified (all_slots counts_down ∷ []) 0 (counts_down ∷ counts_down ∷ []) ≡ false
missing_places = refl

no_temporaries : are_verified (all_slots counts_down ∷ []) 0 (counts_down ∷ record { parameters = []; temporaries = 0; blocks = []; code = [] } ∷ []) ≡ true
no_temporaries = refl
