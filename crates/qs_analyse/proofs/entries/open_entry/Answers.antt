use Rattle.std.proofs.Common.{◌≡◌, ◌∙◌, ℕ, List, Some, length, refl, sym, ap}
use Rattle.std.specs.Prelude.{option_map}
use Rattle.std.specs.List.{slice_get}
use Rattle.std.proofs.lemmas.Option.{slice_get_read, slice_get-map}
use Rattle.std.specs.declared.alloc.Global.{Global}
use Rattle.std.specs.declared.vec.Vec.{Vec}
use Rattle.qs_assert.specs.Trees.{AssertionTree, named}
use Rattle.qs_core.specs.CallGraph.{called_by}
use Rattle.qs_core.specs.TreeOf.{core_stmts, function_tree}
use Rattle.qs_core.specs.Trees.{stmts_of}
use Rattle.qs_core.specs.UnitTrees.{unit_tree}
use Rattle.qs_core.specs.FunctionNames.{function_name, name_in}
use Rattle.qs_core.specs.declared.statements.CoreStmt.{CoreStmt}
use Rattle.qs_entail.specs.Certificates.{CertTree, same}
use Rattle.qs_entail.specs.View.{cert_tree, cert_step}
use Rattle.qs_entail.specs.declared.certificate.Certificate.{Certificate-F, fold-roll-Certificate}
use Rattle.qs_entail.specs.declared.certificate.Certificate.TheVariants.{Same, rolls-Same}
use Rattle.qs_triples.specs.TreeOf.{derivation_tree, derivation_trees, derivation_step}
use Rattle.qs_triples.specs.declared.derivation.Derivation.{Derivation, Derivation-F, fold-roll-Derivation}
use Rattle.qs_triples.specs.declared.derivation.Derivation.TheVariants.{Sequence, rolls-Sequence}
use Rattle.qs_triples.specs.Derivations.{DerivationTree, sequence, EntryTree}
use Rattle.qs_callgraph.specs.CallLists.{numbers}
use Rattle.qs_analyse.specs.Fillable.{body_in, body_of}
use Rattle.qs_analyse.specs.Written.{all_written}
use Rattle.qs_analyse.proofs.entries.open_entry.Goals as goal

same_is : cert_tree Same ≡ same
same_is = ap cert_tree (sym rolls-Same) ∙ fold-roll-Certificate CertTree cert_step Certificate-F.Same

sequence_of : (ds : Vec Derivation Global) → derivation_tree (Sequence ds) ≡ sequence (derivation_trees ds.items)
sequence_of ds = ap derivation_tree (sym (rolls-Sequence ds)) ∙ fold-roll-Derivation DerivationTree derivation_step (Derivation-F.Sequence ds)

abbrev entry_with : ℕ → AssertionTree → AssertionTree → CertTree → DerivationTree → EntryTree
entry_with f pre post entry body = record { function = f; spec = record { pre = pre; post = post }; entry = entry; body = body }

pub returns : goal.returns
returns c =
    let u = unit_tree c.args.unit.now in
    let functions = c.args.unit.now.functions.items in
    let f = c.args.f.0 in
    let function = c.index-function.result.now in
    let here : slice_get functions f ≡ Some function = slice_get_read functions (length functions) f function refl c.requires c.index-function.ensures in
    let is : slice_get u.functions f ≡ Some (function_tree function) = slice_get-map function_tree functions f ∙ ap (option_map function_tree) here in
    let name : function_name u f ≡ function.name = ap name_in is in
    let body : body_of u f ≡ stmts_of (core_stmts function.body.items) = ap body_in is in
    let callees = ap numbers c.deref.ensures.value ∙ c.in_ok-callees.ensures in
    let whole =
    sequence_of c.in_ok-parts.parts
    ∙ ap sequence (c.in_ok-parts.ensures
    ∙ ap (λ (ss : List CoreStmt). all_written function.name (numbers c.deref.result.now) (stmts_of (core_stmts ss))) c.deref-2.ensures.value
    ∙ ap (λ (gs : List ℕ). all_written function.name gs (stmts_of (core_stmts function.body.items))) callees
    ∙ ap (λ (n : List ℕ). all_written n (called_by u f) (stmts_of (core_stmts function.body.items))) (sym name)
    ∙ ap (all_written (function_name u f) (called_by u f)) (sym body)) in
    let needed : named function.name ≡ named (function_name u f) = ap named (sym name) in
    ap (λ (a : AssertionTree). entry_with f a c.in_ok-post.post (cert_tree Same) (derivation_tree (Sequence c.in_ok-parts.parts))) (c.in_ok-pre.ensures ∙ needed)
    ∙ ap (λ (a : AssertionTree). entry_with f (named (function_name u f)) a (cert_tree Same) (derivation_tree (Sequence c.in_ok-parts.parts))) (c.in_ok-post.ensures ∙ needed)
    ∙ ap (λ (entry : CertTree). entry_with f (named (function_name u f)) (named (function_name u f)) entry (derivation_tree (Sequence c.in_ok-parts.parts))) same_is
    ∙ ap (entry_with f (named (function_name u f)) (named (function_name u f)) same) whole
