-- Headers in tables.
use Rattle.std.proofs.Common.{◌≡◌, ℕ, Bool, true, false, List, [], ◌∷◌, Option, Some, None, cond, nat_eq, refl, sym, ap, ◌∙◌, if◌then◌else◌}
use Rattle.std.specs.Prelude.{Vec}
use Rattle.std.specs.declared.alloc.Global.{Global}
use Rattle.std.specs.Map.{lookup}
use Rattle.std.proofs.lemmas.Cmp.{nat_eq_equiv}
use Rattle.std.proofs.lemmas.List.{map-append}
use Rattle.indexmap.specs.IndexMap.{insert_entry}
use Rattle.indexmap.proofs.MapLemmas.{absent_from_lookup, insert_entry-absent}
use Rattle.qs_memory.specs.Partial.{◌>>=◌}
use Rattle.qs_memory.specs.declared.scalar.Scalar.{Scalar}
use Rattle.qs_syntax.specs.Trees.{FunctionTree, UnitTree, function}
use Rattle.qs_types.specs.Types.{TypeTree}
use Rattle.qs_meaning.specs.Units.{scalars_of}
use Rattle.qs_typed_nodes.specs.Known.{Header, parameters_of}
use Rattle.qs_typed_nodes.specs.KnownFunctions.{parameters_nodes, locals_at}
use Rattle.qs_typed_nodes.specs.KnownOf.{header_tree, headers_tree}
use Rattle.qs_typed_nodes.proofs.KeptAgreement.{nothing}
use Rattle.qs_typed_units.specs.KnownUnits.{header_behind, with_header, headers_behind}

header_missing : (node : ℕ) (hs : List (ℕ × Vec Scalar Global)) → lookup (nat_eq node) hs ≡ None → parameters_of node (headers_tree hs) ≡ None
header_missing node [] e = refl
header_missing node (h ∷ hs) e =
    ap (λ b. if b then Some h.1.items else parameters_of node (headers_tree hs)) (nat_eq_equiv.symm h.0 node) ∙ by (nat_eq node h.0) e (header_missing node hs)
  where
    by : (b : Bool) → cond b (Some h.1) (lookup (nat_eq node) hs) ≡ None → (lookup (nat_eq node) hs ≡ None → parameters_of node (headers_tree hs) ≡ None)
        → (if b then Some h.1.items else parameters_of node (headers_tree hs)) ≡ None
    by true e rest = nothing h.1 (sym e)
    by false e rest = rest e

pub noted : (types : List (Option TypeTree)) (f : FunctionTree) (hs : List (ℕ × Vec Scalar Global)) (ss : Vec Scalar Global)
    → scalars_of (locals_at types (parameters_nodes f.parameters)) ≡ Some ss.items → lookup (nat_eq f.node.id) hs ≡ None
    → with_header types f (headers_tree hs) ≡ Some (headers_tree (insert_entry nat_eq hs f.node.id ss))
noted types f hs ss p q =
    ap (λ o. (o >>= λ ps. Some (record { node = f.node.id; parameters = ps })) >>= header_behind (headers_tree hs) (parameters_of f.node.id (headers_tree hs))) p
    ∙ ap (λ o. header_behind (headers_tree hs) o (record { node = f.node.id; parameters = ss.items })) (header_missing f.node.id hs q)
    ∙ ap Some (sym (map-append header_tree hs ((f.node.id, ss) ∷ [])))
    ∙ ap (λ es. Some (headers_tree es)) (sym (insert_entry-absent nat_eq f.node.id ss hs (absent_from_lookup (nat_eq f.node.id) hs q)))

pub one_header : (types : List (Option TypeTree)) (f : FunctionTree) (hs more : List Header) (ds : UnitTree) → with_header types f hs ≡ Some more
    → headers_behind types hs (function f ∷ ds) ≡ headers_behind types more ds
one_header types f hs more ds e = ap (λ o. o >>= λ more. headers_behind types more ds) e
