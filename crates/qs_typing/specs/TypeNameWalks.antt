-- How walks in code go over type names, as the definitions say.
use Rattle.std.specs.Prelude.{◌≡◌, Bool, List, [], ◌++◌, Option, map, if◌then◌else◌}
use Rattle.qs_syntax.specs.declared.types.Base.{Base}
use Rattle.qs_syntax.specs.declared.declarations.Declarator.{Declarator}
use Rattle.qs_syntax.specs.declared.units.Defined.{Defined}
use Rattle.qs_syntax.specs.declared.units.Typedef.{Typedef}
use Rattle.qs_syntax.specs.TreeOf.{declarator_tree, defined_tree, typedef_tree}
use Rattle.qs_types.specs.declared.rules.Rule.TheVariants as rule
use Rattle.qs_types.specs.declared.types.CType.{CType}
use Rattle.qs_types.specs.Rules as pure
use Rattle.qs_types.specs.UnitRules as rules
use Rattle.qs_typing_findings.specs.declared.context.Context.{Context}
use Rattle.qs_typing_findings.specs.declared.judged.Test.{Test}
use Rattle.qs_typing_findings.specs.declared.walk.Walk.{Walk}
use Rattle.qs_typing_findings.specs.ContextOf.{context_tree}
use Rattle.qs_typing_findings.specs.JudgedOf.{test_tree}
use Rattle.qs_typing_findings.specs.PartsOf.{option_type}
use Rattle.qs_typing_findings.specs.UnitWalk.{defined_walked, type_name_walked, type_names_walked, typedef_walked}
use Rattle.qs_typing_findings.specs.WalkOf.{walk_tree}

-- the tests of a type name, where its lengths have types
abbrev pub AreTypeNameTests : (all_typed again : Bool) → (declared : List Test) → (kept : Bool) → List Test → Type 0
AreTypeNameTests all_typed again declared kept tests =
    map test_tree tests
    ≡ (if all_typed then pure.test rule.DeclaredTwice again ++ (map test_tree declared ++ pure.keeps rule.RenamedType kept) else [])

-- one type name is known, and all that are declared together
abbrev pub KnowsOne : (base : Option CType) → Declarator → (before after : Context) → Type 0
KnowsOne base d before after = context_tree after ≡ rules.after_type_name (context_tree before) (option_type base) (declarator_tree d)

abbrev pub KnowsAll : (base : Option CType) → List Declarator → (before after : Context) → Type 0
KnowsAll base ds before after = context_tree after ≡ rules.after_type_names (context_tree before) (option_type base) (map declarator_tree ds)

-- a walk went over one, and over all
abbrev pub WalksOne : Context → (base : Option CType) → Declarator → (before after : Walk) → Type 0
WalksOne c base d before after = walk_tree after ≡ type_name_walked (context_tree c) (option_type base) (declarator_tree d) (walk_tree before)

abbrev pub WalksAll : Context → (base : Option CType) → List Declarator → (before after : Walk) → Type 0
WalksAll c base ds before after = walk_tree after ≡ type_names_walked (context_tree c) (option_type base) (map declarator_tree ds) (walk_tree before)

-- ---- what gets names

abbrev pub KnowsBaseTag : Base → (before after : Context) → Type 0
KnowsBaseTag b before after = context_tree after ≡ rules.with_base_tag (context_tree before) b

abbrev pub IsDefinedType : Context → Defined → Option CType → Type 0
IsDefinedType c d t = option_type t ≡ rules.defined_type (context_tree c) (defined_tree d)

abbrev pub KnowsDefined : Defined → (before after : Context) → Type 0
KnowsDefined d before after = context_tree after ≡ rules.after_defined (context_tree before) (defined_tree d)

abbrev pub WalksDefined : Context → Defined → (before after : Walk) → Type 0
WalksDefined c d before after = walk_tree after ≡ defined_walked (context_tree c) (defined_tree d) (walk_tree before)

abbrev pub KnowsTypedef : Typedef → (before after : Context) → Type 0
KnowsTypedef t before after = context_tree after ≡ rules.after_typedef (context_tree before) (typedef_tree t)

abbrev pub WalksTypedef : Context → Typedef → (before after : Walk) → Type 0
WalksTypedef c t before after = walk_tree after ≡ typedef_walked (context_tree c) (typedef_tree t) (walk_tree before)
