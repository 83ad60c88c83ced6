-- A list of the nodes of a tree is that tree.
use Rattle.std.proofs.Common.{◌≡◌, List, ◌∷◌, ◌++◌, length, ap, ◌∙◌, sym, append_assoc}
use Rattle.qs_assert.specs.declared.node.TermNode.{TermNode}
use Rattle.qs_assert.specs.declared.node.TermNode.TheVariants.{Add, Mul}
use Rattle.qs_assert.specs.declared.node.CondNode.TheVariants.{And, Or}
use Rattle.qs_assert.specs.declared.node.AssertionNode.TheVariants.{Total, Greatest, Product, If}
use Rattle.qs_assert.specs.declared.node.Node.{Node}
use Rattle.qs_assert.specs.declared.node.Node.TheVariants.{Condition, Assertion}
use Rattle.qs_assert.specs.Trees.{TermTree, add, mul, CondTree, and, or, AssertionTree, total, greatest, product, choose, terms_of, conds_of, assertions_of}
use Rattle.qs_assert.specs.Listing.{term_nodes, terms_nodes, cond_nodes, conds_nodes, assertion_nodes, assertions_nodes}
use Rattle.qs_assert.specs.Reading.{term_list-of, cond_list-of, assertion_list-of, term_of, cond_of, assertion_of, term_of-nodes, cond_of-nodes, assertion_of-nodes}

pub term_is : (nodes : List TermNode) (t : TermTree) → nodes ≡ term_nodes t → term_of nodes ≡ t
term_is nodes t e = ap term_of e ∙ term_of-nodes t

pub term_kept : (nodes : List TermNode) (t : TermTree) → nodes ≡ term_nodes t → nodes ≡ term_nodes (term_of nodes)
term_kept nodes t e = e ∙ ap term_nodes (sym (term_is nodes t e))

pub cond_is : (nodes : List Node) (c : CondTree) → nodes ≡ cond_nodes c → cond_of nodes ≡ c
cond_is nodes c e = ap cond_of e ∙ cond_of-nodes c

pub cond_kept : (nodes : List Node) (c : CondTree) → nodes ≡ cond_nodes c → nodes ≡ cond_nodes (cond_of nodes)
cond_kept nodes c e = e ∙ ap cond_nodes (sym (cond_is nodes c e))

pub assertion_is : (nodes : List Node) (a : AssertionTree) → nodes ≡ assertion_nodes a → assertion_of nodes ≡ a
assertion_is nodes a e = ap assertion_of e ∙ assertion_of-nodes a

pub assertion_kept : (nodes : List Node) (a : AssertionTree) → nodes ≡ assertion_nodes a → nodes ≡ assertion_nodes (assertion_of nodes)
assertion_kept nodes a e = e ∙ ap assertion_nodes (sym (assertion_is nodes a e))

-- the nodes of a node with any number of parts

pub add_made : (ts : List TermTree) (nodes : List TermNode) → nodes ≡ Add (length ts) ∷ terms_nodes (terms_of ts) → nodes ≡ term_nodes (add (terms_of ts))
add_made ts nodes e = e ∙ ap (λ (parts : List TermTree). Add (length parts) ∷ terms_nodes (terms_of ts)) (sym (term_list-of ts))

pub mul_made : (ts : List TermTree) (nodes : List TermNode) → nodes ≡ Mul (length ts) ∷ terms_nodes (terms_of ts) → nodes ≡ term_nodes (mul (terms_of ts))
mul_made ts nodes e = e ∙ ap (λ (parts : List TermTree). Mul (length parts) ∷ terms_nodes (terms_of ts)) (sym (term_list-of ts))

pub and_made : (cs : List CondTree) (nodes : List Node) → nodes ≡ Condition (And (length cs)) ∷ conds_nodes (conds_of cs) → nodes ≡ cond_nodes (and (conds_of cs))
and_made cs nodes e =
    e ∙ ap (λ (parts : List CondTree). Condition (And (length parts)) ∷ conds_nodes (conds_of cs)) (sym (cond_list-of cs))

pub or_made : (cs : List CondTree) (nodes : List Node) → nodes ≡ Condition (Or (length cs)) ∷ conds_nodes (conds_of cs) → nodes ≡ cond_nodes (or (conds_of cs))
or_made cs nodes e =
    e ∙ ap (λ (parts : List CondTree). Condition (Or (length parts)) ∷ conds_nodes (conds_of cs)) (sym (cond_list-of cs))

pub total_made : (parts : List AssertionTree) (nodes : List Node) → nodes ≡ Assertion (Total (length parts)) ∷ assertions_nodes (assertions_of parts) → nodes ≡ assertion_nodes (total (assertions_of parts))
total_made parts nodes e =
    e ∙ ap (λ (all : List AssertionTree). Assertion (Total (length all)) ∷ assertions_nodes (assertions_of parts)) (sym (assertion_list-of parts))

pub greatest_made : (parts : List AssertionTree) (nodes : List Node) → nodes ≡ Assertion (Greatest (length parts)) ∷ assertions_nodes (assertions_of parts) → nodes ≡ assertion_nodes (greatest (assertions_of parts))
greatest_made parts nodes e =
    e ∙ ap (λ (all : List AssertionTree). Assertion (Greatest (length all)) ∷ assertions_nodes (assertions_of parts)) (sym (assertion_list-of parts))

pub product_made : (parts : List AssertionTree) (nodes : List Node) → nodes ≡ Assertion (Product (length parts)) ∷ assertions_nodes (assertions_of parts) → nodes ≡ assertion_nodes (product (assertions_of parts))
product_made parts nodes e =
    e ∙ ap (λ (all : List AssertionTree). Assertion (Product (length all)) ∷ assertions_nodes (assertions_of parts)) (sym (assertion_list-of parts))

pub choose_made : (c : CondTree) (a b : AssertionTree) (start more nodes : List Node) → start ≡ Assertion If ∷ (cond_nodes c ++ assertion_nodes a) → more ≡ assertion_nodes b → nodes ≡ start ++ more → nodes ≡ assertion_nodes (choose c a b)
choose_made c a b start more nodes e f h =
    h ∙ ((λ i. e i ++ f i) ∙ ap (λ (xs : List Node). Assertion If ∷ xs) (append_assoc (cond_nodes c) (assertion_nodes a) (assertion_nodes b)))
