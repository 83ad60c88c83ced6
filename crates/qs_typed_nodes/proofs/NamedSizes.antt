-- Sizes of types by name.
use Rattle.std.proofs.Common.{◌≡◌, ℕ, zero, suc, ◌<◌, Some, refl, ap, ◌∙◌, arith}
use Rattle.qs_memory.specs.Partial.{◌>>=◌}
use Rattle.qs_syntax.specs.declared.types.TypeName.{TypeName}
use Rattle.qs_types.specs.Contexts.{pointers}
use Rattle.qs_types.specs.Types.{TypeTree, Structs}
use Rattle.qs_types.specs.Layout.{and_then, size_of}
use Rattle.qs_meaning.specs.Expressions.{size_form}
use Rattle.qs_typed_nodes.specs.Known.{Known, base_known, named_known, named_size_known, sized}

named_is : (k : Known) (name : TypeName) (t : TypeTree) → base_known k name.base ≡ Some t → named_known k name ≡ Some (pointers name.stars t)
named_is k name t e = ap (λ o. and_then o (λ t. Some (pointers name.stars t))) e

pub named_size : (k : Known) (name : TypeName) (t : TypeTree) (n : ℕ) → base_known k name.base ≡ Some t → name.stars ≡ 0 → size_of k.structs t ≡ Some n
    → named_size_known k name ≡ Some (sized n)
named_size k name t n p z q =
    ap (λ o. o >>= size_form k.structs) (named_is k name t p ∙ ap (λ m. Some (pointers m t)) z) ∙ ap (λ o. o >>= λ size. Some (sized size)) q

pointed : (structs : Structs) (stars : ℕ) (t : TypeTree) → 0 < stars → size_of structs (pointers stars t) ≡ Some 4
pointed structs zero t h = absurd (omega arith)
pointed structs (suc stars) t h = refl

pub pointed_size : (k : Known) (name : TypeName) (t : TypeTree) → base_known k name.base ≡ Some t → 0 < name.stars → named_size_known k name ≡ Some (sized 4)
pointed_size k name t p h =
    ap (λ o. o >>= size_form k.structs) (named_is k name t p) ∙ ap (λ o. o >>= λ size. Some (sized size)) (pointed k.structs name.stars t h)
