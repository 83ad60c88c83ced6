-- The relations of two numbers.
use Rattle.std.specs.Prelude.{ℤ, Bool, int_le, int_lt}
use Rattle.std.specs.Prelude.{not as flip}
use Rattle.std.specs.Ordering.{int_eq}
use Rattle.qs_assert.specs.declared.truths.Relation.{Relation}
use Rattle.qs_assert.specs.declared.truths.Relation.TheVariants.{AtMost, Less, Equal, Different}

abbrev pub relation_of : Relation → ℤ → ℤ → Bool
relation_of AtMost = int_le
relation_of Less = int_lt
relation_of Equal = int_eq
relation_of Different = λ x y. flip (int_eq x y)
