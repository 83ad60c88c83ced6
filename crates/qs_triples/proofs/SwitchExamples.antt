-- What is needed before switches, computed from the rule.
use Rattle.std.proofs.Common.{◌≡◌, ℕ, List, [], ◌∷◌, codes, None, refl}
use Rattle.std.specs.Prelude.{pos, negsuc, Ok, Err}
use Rattle.qs_memory.specs.declared.scalar.Scalar.{Scalar}
use Rattle.qs_memory.specs.declared.scalar.Scalar.TheVariants as scalars
use Rattle.qs_assert.specs.declared.variable.VarKind.TheVariants as kinds
use Rattle.qs_assert.specs.Trees.{TermTree, number, variable, eq, AssertionTree, natural, greatest, choose, assertions_of}
use Rattle.qs_core.specs.declared.labels.CoreLabel.{CoreLabel}
use Rattle.qs_core.specs.declared.labels.CoreLabel.TheVariants.{Case, Default}
use Rattle.qs_core.specs.declared.numbers.BlockId.TheVariants.{Data}
use Rattle.qs_core.specs.Trees as core
use Rattle.qs_core.specs.Trees.{CoreExprTree, CoreStmtTree, CoreVariableTree, CoreFunctionTree, stmts_of}
use Rattle.qs_triples.specs.Derivations.{DerivationTree, leaf, sequence, loop, switch}
use Rattle.qs_triples.specs.ExpressionTerms.{var}
use Rattle.qs_triples.specs.declared.resource.Resource.TheVariants.{Stack}
use Rattle.qs_triples.specs.Rules.{shape, Answer, Posts, Scope, pre}
use Rattle.qs_triples.specs.TreeOf.{derivations_of}
use Rattle.qs_entail.specs.Certificates.{same}

-- a function with the variables int x and unsigned u
abbrev named : List ℕ → Scalar → CoreVariableTree
named name s = record { name = name; ordinal = 1; scalar = s }

abbrev f : CoreFunctionTree
f = record {
  name = codes "f";
  parameters = [];
  variables = named (codes "x") scalars.Int ∷ named (codes "u") scalars.Unsigned ∷ [];
  temporaries = [];
  blocks = [];
  result_type = None;
  body = stmts_of [];
}

abbrev x : CoreExprTree
x = core.variable scalars.Int 0

abbrev u : CoreExprTree
u = core.variable scalars.Unsigned 1

abbrev is : CoreExprTree → TermTree
is (core.variable s k) = variable (var (kinds.Plain k) s)
is e = number (pos 0)

abbrev scope : Scope
scope = record { resource = Stack; function = f; functions = f ∷ []; specs = λ g. None; defines = [] }

-- 1 behind the statement, 2 after a break, 3 after a continue, 4 after a return
abbrev posts : Posts
posts = record { next = natural 1; on_break = natural 2; on_continue = natural 3; on_return = natural 4 }

abbrev returns : CoreStmtTree
returns = core.return None

abbrev leaves : List CoreStmtTree → List DerivationTree
leaves [] = []
leaves (s ∷ ss) = leaf ∷ leaves ss

abbrev by_nodes : List DerivationTree → CoreExprTree → List CoreLabel → List CoreStmtTree → Answer
by_nodes ds e labels parts = pre (switch (derivations_of ds)) scope (core.switch e labels (stmts_of parts)) posts

-- what is needed before a switch whose parts are leaves
abbrev before : CoreExprTree → List CoreLabel → List CoreStmtTree → Answer
before e labels parts = by_nodes (leaves parts) e labels parts

abbrev if_is : CoreExprTree → ℕ → (first second : AssertionTree) → AssertionTree
if_is e n a b = choose (eq (is e) (number (pos n))) a b

-- ---- the posts of the parts

falls_through : before x (Case 5 0 ∷ []) (core.skip ∷ core.skip ∷ returns ∷ []) ≡ Ok (if_is x 5 (natural 4) (natural 1))
falls_through = refl

the_last_part : before x (Case 5 1 ∷ []) (returns ∷ core.skip ∷ []) ≡ Ok (natural 1)
the_last_part = refl

-- a break leaves the switch, and no loop around it
a_break : before x (Default 0 ∷ []) (core.break ∷ returns ∷ []) ≡ Ok (natural 1)
a_break = refl

a_continue : before x (Default 0 ∷ []) (core.continue ∷ returns ∷ []) ≡ Ok (natural 3)
a_continue = refl

-- a break in a loop in a switch leaves the loop: behind it comes the next part
a_loop_in_it : by_nodes (loop (natural 4) same leaf leaf ∷ leaf ∷ []) x (Default 0 ∷ []) (core.loop core.break core.skip ∷ returns ∷ []) ≡ Ok (natural 4)
a_loop_in_it = refl

-- ---- the same tree at each case and at `default`

all_the_same : before x (Case 1 0 ∷ Default 2 ∷ Case 2 1 ∷ []) (returns ∷ returns ∷ returns ∷ []) ≡ Ok (natural 4)
all_the_same = refl

no_case : before x (Default 1 ∷ []) (core.continue ∷ returns ∷ []) ≡ Ok (natural 4)
no_case = refl

no_label : before x [] (returns ∷ []) ≡ Ok (natural 1)
no_label = refl

no_part : before x [] [] ≡ Ok (natural 1)
no_part = refl

-- the cases alone are the same
default_differs : before x (Case 1 0 ∷ Case 2 1 ∷ []) (returns ∷ returns ∷ []) ≡ Ok (if_is x 1 (natural 4) (if_is x 2 (natural 4) (natural 1)))
default_differs = refl

-- ---- by the term of the operand

in_the_order_of_the_text :
    before x (Case 1 0 ∷ Case 2 1 ∷ Default 2 ∷ []) (returns ∷ core.continue ∷ core.break ∷ [])
    ≡ Ok (if_is x 1 (natural 4) (if_is x 2 (natural 3) (natural 1)))
in_the_order_of_the_text = refl

-- `default` comes last, wherever it stands
default_in_front : before x (Default 0 ∷ Case 1 1 ∷ []) (core.continue ∷ returns ∷ []) ≡ Ok (if_is x 1 (natural 4) (natural 3))
default_in_front = refl

-- the first of two cases of one value decides
two_of_one_value : before x (Case 1 0 ∷ Case 1 1 ∷ []) (returns ∷ core.continue ∷ []) ≡ Ok (if_is x 1 (natural 4) (if_is x 1 (natural 3) (natural 1)))
two_of_one_value = refl

-- -1, as its 32 bits
below_zero : before x (Case 4294967295 0 ∷ []) (returns ∷ []) ≡ Ok (choose (eq (is x) (number (negsuc 0))) (natural 4) (natural 1))
below_zero = refl

unsigned_value : before u (Case 4294967295 0 ∷ []) (returns ∷ []) ≡ Ok (if_is u 4294967295 (natural 4) (natural 1))
unsigned_value = refl

-- ---- without one

abbrev loaded : CoreExprTree
loaded = core.load scalars.Int (core.address_of (Data 0))

all_are_paid_for :
    before loaded (Case 2 1 ∷ Default 2 ∷ Case 1 0 ∷ []) (returns ∷ core.continue ∷ core.break ∷ [])
    ≡ Ok (greatest (assertions_of (natural 3 ∷ natural 4 ∷ natural 1 ∷ [])))
all_are_paid_for = refl

same_without_a_term : before loaded (Case 2 0 ∷ Default 0 ∷ []) (returns ∷ []) ≡ Ok (natural 4)
same_without_a_term = refl

-- ---- nodes that don't fit

too_few_nodes : by_nodes (leaf ∷ []) x [] (returns ∷ returns ∷ []) ≡ Err (shape [])
too_few_nodes = refl

too_many_nodes : by_nodes (leaf ∷ leaf ∷ []) x [] (returns ∷ []) ≡ Err (shape [])
too_many_nodes = refl

another_statement : pre (switch (derivations_of (leaf ∷ []))) scope (core.seq (stmts_of (returns ∷ []))) posts ≡ Err (shape [])
another_statement = refl

another_node : pre (sequence (derivations_of (leaf ∷ []))) scope (core.switch x [] (stmts_of (returns ∷ []))) posts ≡ Err (shape [])
another_node = refl

a_leaf : pre leaf scope (core.switch x [] (stmts_of [])) posts ≡ Err (shape [])
a_leaf = refl

-- the last part comes first
the_first_fault : before x [] (core.seq (stmts_of []) ∷ core.seq (stmts_of []) ∷ returns ∷ []) ≡ Err (shape (1 ∷ []))
the_first_fault = refl
