-- What is said of an expression where its parts have types.
use Rattle.std.specs.Prelude.{List, [], ◌∷◌, ◌++◌, Option, Some, None, Vec, map, option_map}
use Rattle.std.specs.Borrow.{Bor}
use Rattle.std.specs.declared.alloc.Global.{Global}
use Rattle.qs_types.specs.Types.{TypeTree}
use Rattle.qs_types.specs.Layout.{and_then}
use Rattle.qs_types.specs.Expressions.{Judged}
use Rattle.qs_types.specs.Rules.{type_unless}
use Rattle.qs_types.specs.TypeOf.{type_tree}
use Rattle.qs_types.specs.declared.types.CType.{CType}

-- a type in code, where there is one
abbrev pub option_type : Option CType → Option TypeTree
option_type = option_map type_tree

abbrev pub type_at : Option (Bor CType) → Option TypeTree
type_at = option_map (λ t. type_tree t.now)

abbrev pub with_type : Option TypeTree → (TypeTree → Judged) → Option Judged
with_type t judge = and_then t (λ t. Some (judge t))

abbrev pub with_types : Option TypeTree → Option TypeTree → (TypeTree → TypeTree → Judged) → Option Judged
with_types t u judge = and_then t (λ t. with_type u (judge t))

abbrev pub with_three : Option TypeTree → Option TypeTree → Option TypeTree → (TypeTree → TypeTree → TypeTree → Judged) → Option Judged
with_three s t u judge = and_then s (λ s. with_types t u (judge s))

-- the types, where each has one
abbrev pub types_tree : Option (Vec CType Global) → Option (List TypeTree)
types_tree None = None
types_tree (Some ts) = Some (map type_tree ts.items)

-- one type more behind others, if each has one
abbrev pub one_more : Option (List TypeTree) → Option TypeTree → Option (List TypeTree)
one_more ts t = and_then ts (λ ts. and_then t (λ t. Some (ts ++ t ∷ [])))

-- some types and others behind them
abbrev pub joined : Option (List TypeTree) → Option (List TypeTree) → Option (List TypeTree)
joined ts us = and_then ts (λ ts. and_then us (λ us. Some (ts ++ us)))

-- the type of an expression that is judged so
abbrev pub type_by : Option Judged → Option TypeTree
type_by j = and_then j (λ j. type_unless j.tests j.type)
