-- What calls need, part by part.
use Rattle.std.specs.Prelude.{◌≡◌, ℕ, Bool, true, false, List, [], ◌∷◌, map, Option, Some, None, MatchOption, Result, IfOk}
use Rattle.std.specs.Borrow.{Bor}
use Rattle.std.specs.List.{list_any}
use Rattle.std.specs.declared.alloc.Global.{Global}
use Rattle.std.specs.declared.vec.Vec.{Vec}
use Rattle.qs_base.specs.declared.function.FnId.{FnId}
use Rattle.qs_assert.specs.declared.node.TermNode.{TermNode}
use Rattle.qs_assert.specs.declared.node.TermNode.TheVariants.{Number, Variable, Add, Sub, Mul, Div, WrapUnsigned, WrapSigned, Bits}
use Rattle.qs_assert.specs.declared.node.Node.{Node}
use Rattle.qs_assert.specs.declared.node.Node.TheVariants.{Term, Condition, Assertion}
use Rattle.qs_assert.specs.Trees.{AssertionTree, natural, cost, total, greatest, named, assertions_of}
use Rattle.qs_core.specs.Trees.{CoreUnitTree}
use Rattle.qs_core.specs.FunctionNames.{function_name}
use Rattle.qs_triples.specs.Derivations.{EntryTree, ProofsTree, entry_of}
use Rattle.qs_triples.specs.Filled.{for_call, is_useless, pre_of}
use Rattle.qs_triples.specs.declared.derivation.FunctionProof.{FunctionProof}
use Rattle.qs_callgraph.specs.CallLists.{numbers}
use Rattle.qs_analyse.specs.Fillable.{proofs_of}

-- the cost of a function, and what it needs itself
abbrev pub call_of : (g : ℕ) → (need : AssertionTree) → AssertionTree
call_of g need = total (assertions_of (cost g ∷ need ∷ []))

abbrev pub greatest_part : List AssertionTree → AssertionTree
greatest_part [] = natural 0
greatest_part (a ∷ []) = a
greatest_part (a ∷ b ∷ parts) = greatest (assertions_of (a ∷ b ∷ parts))

-- what calls of these need, where each needs its name
abbrev pub named_calls : CoreUnitTree → List ℕ → List AssertionTree
named_calls u gs = map (for_call (λ g. named (function_name u g))) gs

-- what calls of these need
abbrev pub needed_calls : (ℕ → AssertionTree) → List ℕ → List AssertionTree
needed_calls needs gs = map (for_call needs) gs

-- what calls of these need by their entries, and whether an entry says nothing of it
abbrev pub path_needs : List FunctionProof → List FnId → List AssertionTree
path_needs entries gs = needed_calls (pre_of (proofs_of entries)) (numbers gs)

abbrev pub one_says_nothing : List FunctionProof → List FnId → Bool
one_says_nothing entries gs = list_any (λ g. is_useless (pre_of (proofs_of entries) g)) (numbers gs)

-- the precondition of a function's entry
pub record HasPre (proofs : ProofsTree) (g : ℕ) (pre : AssertionTree) : Type 0 where
  pub entry_tree : EntryTree
  pub stands : entry_of proofs g ≡ Some entry_tree
  pub is : entry_tree.spec.pre ≡ pre

-- it is found, or the function has no entry
abbrev pub FindsPre : ProofsTree → (g : ℕ) → Option (Bor AssertionTree) → Type 0
FindsPre proofs g found = MatchOption found (entry_of proofs g ≡ None) (λ a. HasPre proofs g a.now)

-- the items that are answered, if a vector is
abbrev pub GivesItems : {X E : Type 0} → Result (Vec X Global) E → List X → Type 0
GivesItems result xs = IfOk result (λ found. found.items ≡ xs)

-- ---- nodes

abbrev pub is_variable_head : TermNode → Bool
is_variable_head (Number k) = false
is_variable_head (Variable x) = true
is_variable_head (Add n) = false
is_variable_head Sub = false
is_variable_head (Mul n) = false
is_variable_head (Div k) = false
is_variable_head WrapUnsigned = false
is_variable_head WrapSigned = false
is_variable_head Bits = false

abbrev pub is_variable_node : Node → Bool
is_variable_node (Term head) = is_variable_head head
is_variable_node (Condition head) = false
is_variable_node (Assertion head) = false
