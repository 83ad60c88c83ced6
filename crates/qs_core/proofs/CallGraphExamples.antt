-- Which functions call which, computed from the definition.
use Rattle.std.proofs.Common.{◌≡◌, ◌==◌, List, [], ◌∷◌, codes, None, refl}
use Rattle.qs_memory.specs.declared.scalar.Scalar.TheVariants as scalars
use Rattle.qs_calls.specs.declared.callee.Callee.{Callee}
use Rattle.qs_calls.specs.declared.callee.Callee.TheVariants.{Function, PutChar, GetChar}
use Rattle.qs_core.specs.declared.labels.CoreLabel.TheVariants.{Case}
use Rattle.qs_core.specs.Trees.{literal, CoreStmtTree, skip, seq, call, branch, loop, switch, stmts_of, CoreFunctionTree, CoreUnitTree}
use Rattle.qs_core.specs.CallGraph.{callees, called_by, IsCycle, Leads, no_call, first_call}
use Rattle.qs_core.proofs.OutlineExamples.{whole}

abbrev calls_to : Callee → CoreStmtTree
calls_to g = call None g []

abbrev first : Callee
first = Function (record { 0 = 0 })

abbrev second : Callee
second = Function (record { 0 = 1 })

abbrev third : Callee
third = Function (record { 0 = 2 })

abbrev with_body : List CoreStmtTree → CoreFunctionTree
with_body body = record {
  name = codes "f";
  parameters = [];
  variables = [];
  temporaries = [];
  blocks = [];
  result_type = None;
  body = stmts_of body;
}

-- the first calls the third and then the second, from all parts of its body; the second the first;
-- and the third the given functions
abbrev three : CoreUnitTree
three = record {
  functions =
      with_body (
      branch (literal scalars.Int 0) (calls_to third) (seq (stmts_of (calls_to second ∷ [])))
      ∷ loop (calls_to third) (calls_to second)
      ∷ [])
      ∷ with_body (calls_to first ∷ [])
      ∷ with_body (skip ∷ calls_to PutChar ∷ calls_to GetChar ∷ [])
      ∷ [];
  main = 0;
  data_blocks = [];
}

in_order_of_definition : called_by three 0 ≡ 1 ∷ 2 ∷ []
in_order_of_definition = refl

in_a_step : called_by three 1 ≡ 0 ∷ []
in_a_step = refl

-- from all parts of a switch, whether a label stands before them or not
in_a_switch :
    callees (switch (literal scalars.Int 0) (Case 0 1 ∷ []) (stmts_of (calls_to second ∷ calls_to PutChar ∷ calls_to third ∷ [])))
    ≡ 1 ∷ 2 ∷ []
in_a_switch = refl

given_functions_do_not_count : called_by three 2 ≡ []
given_functions_do_not_count = refl

an_unknown_function : called_by three 3 ≡ []
an_unknown_function = refl

-- the first and the second call one another
a_cycle : IsCycle three (λ f. f == 2) (0 ∷ 1 ∷ [])
a_cycle = record { circle = (refl, refl); none = refl }

-- f calls itself
a_cycle_of_one : IsCycle whole (λ f. f == 1) (0 ∷ [])
a_cycle_of_one = record { circle = refl; none = refl }

over_two_calls : Leads three 1 2
over_two_calls = first_call 1 0 2 refl (first_call 0 2 2 refl (no_call 2))
