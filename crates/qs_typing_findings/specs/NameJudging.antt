-- What is judged of names, calls and names of types in code, as the definitions say.
use Rattle.std.specs.Prelude.{◌≡◌, Bool, List, Option, Some, Vec, map, option_map}
use Rattle.std.specs.Borrow.{Bor}
use Rattle.std.specs.declared.alloc.Global.{Global}
use Rattle.qs_syntax.specs.declared.expressions.Expr.{Expr}
use Rattle.qs_syntax.specs.declared.types.TypeName.{TypeName}
use Rattle.qs_syntax.specs.TreeOf.{expr_tree, exprs_tree}
use Rattle.qs_types.specs.declared.rules.Rule.TheVariants as rules
use Rattle.qs_types.specs.declared.types.CType.{CType}
use Rattle.qs_types.specs.Conversions.{decayed}
use Rattle.qs_types.specs.Expressions as pure
use Rattle.qs_types.specs.Layout.{and_then, is_complete}
use Rattle.qs_types.specs.Rules.{keeps}
use Rattle.qs_types.specs.Types.{unsigned}
use Rattle.qs_types.specs.TypeOf.{type_tree}
use Rattle.qs_typing_findings.specs.declared.context.Context.{Context}
use Rattle.qs_typing_findings.specs.declared.entity.Entity.{Entity}
use Rattle.qs_typing_findings.specs.declared.entity.Signature.{Signature}
use Rattle.qs_typing_findings.specs.declared.judged.Judged.{Judged}
use Rattle.qs_typing_findings.specs.ContextOf.{context_tree}
use Rattle.qs_typing_findings.specs.EntityOf.{entity_at, signature_tree}
use Rattle.qs_typing_findings.specs.JudgedOf.{judged_tree}
use Rattle.qs_typing_findings.specs.Judging.{option_judged}
use Rattle.qs_typing_findings.specs.PartsOf.{option_type, with_type, types_tree}

-- ---- names and calls

abbrev pub JudgesVariable : Option CType → Option Judged → Type 0
JudgesVariable t j = option_judged j ≡ pure.variable_judged (option_type t)

abbrev pub JudgesName : Option (Bor Entity) → Option Judged → Type 0
JudgesName entity j = option_judged j ≡ pure.name_judged (entity_at entity)

abbrev pub ArgumentsFit : List CType → List Expr → List CType → Bool → Type 0
ArgumentsFit parameters es us fit = fit ≡ pure.arguments_fit (map type_tree parameters) (exprs_tree es) (map type_tree us)

abbrev pub IsSignature : Signature → List Expr → List CType → Judged → Type 0
IsSignature s es us j = judged_tree j ≡ pure.signature_judged (signature_tree s) (exprs_tree es) (map type_tree us)

abbrev pub JudgesFunction : Option Signature → List Expr → List CType → Option Judged → Type 0
JudgesFunction s es us j =
    option_judged j ≡ and_then (option_map signature_tree s) (λ s. Some (pure.signature_judged s (exprs_tree es) (map type_tree us)))

-- a call with arguments of these types, and one whose arguments may have none
abbrev pub JudgesTyped : Option (Bor Entity) → List Expr → List CType → Option Judged → Type 0
JudgesTyped entity es us j = option_judged j ≡ pure.call_judged (entity_at entity) (exprs_tree es) (map type_tree us)

abbrev pub JudgesCall : Option (Bor Entity) → List Expr → Option (Vec CType Global) → Option Judged → Type 0
JudgesCall entity es us j = option_judged j ≡ and_then (types_tree us) (pure.call_judged (entity_at entity) (exprs_tree es))

-- ---- names of types

abbrev pub IsCast : Context → TypeName → Expr → CType → Judged → Type 0
IsCast c name e from j = judged_tree j ≡ pure.cast_judged (context_tree c) name (expr_tree e) (type_tree from)

abbrev pub JudgesCast : Context → TypeName → Expr → Option CType → Option Judged → Type 0
JudgesCast c name e t j =
    option_judged j ≡ with_type (option_type t) (λ t. pure.cast_judged (context_tree c) name (expr_tree e) (decayed t))

-- `sizeof` of an expression
abbrev pub JudgesObject : Context → Option CType → Option Judged → Type 0
JudgesObject c t j =
    option_judged j
    ≡ with_type (option_type t) (λ t. pure.judged (keeps rules.IncompleteType (is_complete (context_tree c).structs t)) unsigned)
