-- What the tests of types say.
use Rattle.std.proofs.Common.{◌≡◌, true, List, [], ◌∷◌, Option, Some, None, refl, ap, Decides}
use Rattle.std.specs.Cmp.{first_so, second_so}
use Rattle.qs_base.proofs.Variants.{variants_exact}
use Rattle.qs_memory.specs.Scalars.{same_scalar, same_scalars, is_type}
use Rattle.qs_memory.specs.contracts.scalar.Scalar.{the_type}
use Rattle.qs_memory.specs.declared.scalar.Scalar.{Scalar}

same_scalar_exact : (s t : Scalar) → Decides (same_scalar s t) (s ≡ t)
same_scalar_exact s t = variants_exact the_type tt s t

pub scalar_same : (s t : Scalar) → same_scalar s t ≡ true → s ≡ t
scalar_same s t h = (same_scalar_exact s t).0 h

pub same_as : (s t : Scalar) → s ≡ t → same_scalar s t ≡ true
same_as s t e = (same_scalar_exact s t).1 e

pub same_self : (s : Scalar) → same_scalar s s ≡ true
same_self s = same_as s s refl

pub scalars_same : (ss ts : List Scalar) → same_scalars ss ts ≡ true → ss ≡ ts
scalars_same [] [] h = refl
scalars_same [] (t ∷ ts) h = cc
scalars_same (s ∷ ss) [] h = cc
scalars_same (s ∷ ss) (t ∷ ts) h =
    let first = scalar_same s t (first_so (same_scalar s t) (same_scalars ss ts) h) in
    let others = scalars_same ss ts (second_so (same_scalar s t) (same_scalars ss ts) h) in
    cc

pub type_is : (o : Option Scalar) (s : Scalar) → is_type o s ≡ true → o ≡ Some s
type_is None s h = cc
type_is (Some t) s h = ap Some (scalar_same t s h)
