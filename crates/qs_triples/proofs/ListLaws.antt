-- Lists that loops make.
use Rattle.std.proofs.Common.{◌≡◌, ◌≤◌, ◌<◌, ℕ, suc, List, ◌∷◌, ◌++◌, length, get_or, drop, Bool, cond, Some, sym, ap, ◌∙◌, append-nil}
use Rattle.std.proofs.Math.ListN.{drop_of_length-le}
use Rattle.qs_assert.specs.declared.node.Node.{Node}
use Rattle.qs_assert.specs.declared.variable.Var.{Var}
use Rattle.qs_assert.specs.Listing.{assertion_nodes}
use Rattle.qs_assert.specs.Trees.{AssertionTree}
use Rattle.qs_assert.specs.Variables.{variables}
use Rattle.std.proofs.Math.Seq.{drop-cons}
use Rattle.std.proofs.lemmas.Bool.{eq-eqb}
use Rattle.qs_triples.specs.declared.derivation.FunctionProof.{FunctionProof}
use Rattle.qs_triples.specs.TreeOf.{entry_tree}
use Rattle.qs_triples.specs.Views.{entry_in}
use Rattle.qs_assert.proofs.VariableLaws.{listed, assertion_listed}

-- the variables of all nodes
pub all_listed : (a : AssertionTree) (nodes : List Node) (xs : List Var) (i : ℕ) → length nodes ≤ i → nodes ≡ assertion_nodes a → xs ++ listed (drop i nodes) ≡ listed nodes → xs ≡ variables a
all_listed a nodes xs i h e inv =
    sym (append-nil xs) ∙ (ap (λ (l : List Node). xs ++ listed l) (sym (drop_of_length-le nodes h)) ∙ (inv ∙ (ap listed e ∙ assertion_listed a)))

-- ---- entries

pub entry_found : (entries : List FunctionProof) (i : ℕ) (e : FunctionProof) (g : ℕ) → i < length entries → e ≡ get_or entries i e → e.function.0 ≡ g → entry_in (drop i entries) g ≡ Some (entry_tree e)
entry_found entries i e g h is same =
    ap (λ (l : List FunctionProof). entry_in l g) (drop-cons entries i e h ∙ ap (λ (x : FunctionProof). x ∷ drop (suc i) entries) (sym is))
    ∙ ap (λ (b : Bool). cond b (Some (entry_tree e)) (entry_in (drop (suc i) entries) g)) (eq-eqb e.function.0 g same)
