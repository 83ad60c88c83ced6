-- The nodes of what lists and atoms mean, in the order of the text.
use Rattle.std.specs.Prelude.{◌≡◌, ℕ, ℤ, pos, negsuc, List, [], ◌∷◌, ◌++◌, ◌==◌, nat_le, Bool, Ok, replicate}
use Rattle.qs_base.specs.Results.{bind}
use Rattle.qs_assert.specs.Listing.{inner_term, cond_nodes, assertion_nodes}
use Rattle.qs_assert.specs.declared.node.Node.{Node}
use Rattle.qs_assert.specs.declared.node.Node.TheVariants as nodes
use Rattle.qs_assert.specs.declared.node.TermNode.TheVariants as term_nodes
use Rattle.qs_assert.specs.declared.node.AssertionNode.TheVariants as assertion_nodes
use Rattle.qs_sexpr.specs.Trees.{Sexp, number, symbol, list, Sexps, no_parts, part_and}
use Rattle.qs_prooftext_assertions.specs.declared.sorts.Sort.{Sort}
use Rattle.qs_prooftext_assertions.specs.declared.sorts.Sort.TheVariants.{Term, Condition, Assertion, Definition, Divisor, OldVariable, Function, KnownName, Name}
use Rattle.qs_prooftext_assertions.specs.declared.sorts.Parts.{Parts}
use Rattle.qs_prooftext_assertions.specs.declared.sorts.Parts.TheVariants.{Zero, One, Two, Three, Many}
use Rattle.qs_prooftext_meaning.specs.Kinds.{Kind, Of, a_term, a_condition, an_assertion, a_definition_body, a_divisor, a_name, a_function, a_known_name, an_old_variable}
use Rattle.qs_prooftext_meaning.specs.Meanings.{Answer, means}
use Rattle.qs_prooftext_meaning.specs.Settings.{Setting}

abbrev pub kind_of : Sort → Kind
kind_of Term = a_term
kind_of Condition = a_condition
kind_of Assertion = an_assertion
kind_of Definition = a_definition_body
kind_of Divisor = a_divisor
kind_of (OldVariable at) = an_old_variable at
kind_of (Function at) = a_function at
kind_of (KnownName at) = a_known_name at
kind_of Name = a_name

-- a divisor is in the node of its list
abbrev pub nodes_of : (k : Sort) → Of (kind_of k) → List Node
nodes_of Term t = inner_term t
nodes_of Condition c = cond_nodes c
nodes_of Assertion a = assertion_nodes a
nodes_of Definition a = assertion_nodes a
nodes_of Divisor n = []
nodes_of (OldVariable at) x = nodes.Term (term_nodes.Variable x) ∷ []
nodes_of (Function at) f = nodes.Assertion (assertion_nodes.Cost (record { 0 = f })) ∷ []
nodes_of (KnownName at) name = nodes.Assertion (assertion_nodes.Named name) ∷ []
nodes_of Name name = nodes.Assertion (assertion_nodes.Named name) ∷ []

abbrev pub nodes_of_all : (k : Sort) → List (Of (kind_of k)) → List Node
nodes_of_all k [] = []
nodes_of_all k (v ∷ vs) = nodes_of k v ++ nodes_of_all k vs

abbrev pub joined : Answer (List Node) → Answer (List Node) → Answer (List Node)
joined a b = bind a (λ xs. bind b (λ ys. Ok (xs ++ ys)))

abbrev pub flat : Setting → Sort → Sexp → Answer (List Node)
flat g k s = bind (means g (kind_of k) s) (λ v. Ok (nodes_of k v))

-- of lists and atoms one after another, each of its sort
abbrev pub flats : Setting → List Sort → Sexps → Answer (List Node)
flats g [] ss = Ok []
flats g (k ∷ ks) no_parts = Ok []
flats g (k ∷ ks) (part_and s ss) = joined (flat g k s) (flats g ks ss)

-- ---- the parts of a row

abbrev pub sorts : Parts → ℕ → List Sort
sorts Zero n = []
sorts (One a) n = a ∷ []
sorts (Two a b) n = a ∷ b ∷ []
sorts (Three a b c) n = a ∷ b ∷ c ∷ []
sorts (Many a) n = replicate n a

abbrev pub fit : Parts → ℕ → Bool
fit Zero n = n == 0
fit (One a) n = n == 1
fit (Two a b) n = n == 2
fit (Three a b c) n = n == 3
fit (Many a) n = nat_le 2 n

-- the number of a divisor
abbrev pub natural_in : ℤ → ℕ
natural_in (pos n) = n
natural_in (negsuc n) = 0

abbrev pub divisor_of : Sexp → ℕ
divisor_of (number at n) = natural_in n
divisor_of (symbol at w) = 0
divisor_of (list at parts) = 0

-- the number that stands in the second of two parts
abbrev pub IsDivisor : ℕ → Sexps → Type 0
IsDivisor n parts = (p q : Sexp) → parts ≡ part_and p (part_and q no_parts) → n ≡ divisor_of q
