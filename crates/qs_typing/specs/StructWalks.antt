-- How walks in code go over structs and their members, as the definitions say.
use Rattle.std.specs.Prelude.{◌≡◌, ℕ, Bool, List, [], ◌++◌, Option, map, if◌then◌else◌}
use Rattle.qs_syntax.specs.declared.types.Base.{Base}
use Rattle.qs_syntax.specs.declared.declarations.Declarator.{Declarator}
use Rattle.qs_syntax.specs.declared.declarations.Members.{Members}
use Rattle.qs_syntax.specs.declared.units.Struct.{Struct}
use Rattle.qs_syntax.specs.TreeOf.{declarator_tree, members_tree, struct_tree}
use Rattle.qs_types.specs.declared.rules.Rule.TheVariants as rule
use Rattle.qs_types.specs.declared.types.CType.{CType}
use Rattle.qs_types.specs.Rules as pure
use Rattle.qs_types.specs.StructsOf.{member_tree}
use Rattle.qs_types.specs.UnitRules as rules
use Rattle.qs_typing_findings.specs.declared.context.Context.{Context}
use Rattle.qs_typing_findings.specs.declared.judged.Test.{Test}
use Rattle.qs_typing.specs.declared.members_before.MembersBefore.{MembersBefore}
use Rattle.qs_typing_findings.specs.declared.walk.Walk.{Walk}
use Rattle.qs_typing_findings.specs.ContextOf.{context_tree}
use Rattle.qs_typing_findings.specs.JudgedOf.{test_tree}
use Rattle.qs_typing.specs.MembersOf.{before_tree}
use Rattle.qs_typing_findings.specs.UnitWalk.{member_walked, members_walked, struct_walked, together_walked}
use Rattle.qs_typing_findings.specs.WalkOf.{walk_tree}

-- the tests of a member, where its lengths have types
abbrev pub AreMemberTests : (all_typed : Bool) → (declared : List Test) → (again : Bool) → List Test → Type 0
AreMemberTests all_typed declared again tests =
    map test_tree tests ≡ (if all_typed then map test_tree declared ++ pure.test rule.MemberTwice again else [])

-- ---- a member, those that are declared together, and all of a struct

abbrev pub AddsDeclared : Context → Base → Declarator → (before after : MembersBefore) → Type 0
AddsDeclared c base d before after =
    before_tree after ≡ rules.after_member (context_tree c) (before_tree before) base (declarator_tree d)

abbrev pub WalksMember : Context → MembersBefore → Base → Declarator → (before after : Walk) → Type 0
WalksMember c ms base d before after =
    walk_tree after ≡ member_walked (context_tree c) (before_tree ms) base (declarator_tree d) (walk_tree before)

abbrev pub AddsGroup : Context → Base → List Declarator → (before after : MembersBefore) → Type 0
AddsGroup c base ds before after =
    before_tree after ≡ rules.after_together (context_tree c) (before_tree before) base (map declarator_tree ds)

abbrev pub WalksGroup : Context → MembersBefore → Base → List Declarator → (before after : Walk) → Type 0
WalksGroup c ms base ds before after =
    walk_tree after ≡ together_walked (context_tree c) (before_tree ms) base (map declarator_tree ds) (walk_tree before)

abbrev pub AddsMembers : Context → List Members → (before after : MembersBefore) → Type 0
AddsMembers c ms before after = before_tree after ≡ rules.after_members (context_tree c) (before_tree before) (map members_tree ms)

abbrev pub WalksMembers : Context → MembersBefore → List Members → (before after : Walk) → Type 0
WalksMembers c earlier ms before after =
    walk_tree after ≡ members_walked (context_tree c) (before_tree earlier) (map members_tree ms) (walk_tree before)

-- ---- a struct

-- the struct with this number gets these members, if it has none
abbrev pub DefinesAt : Option ℕ → List (List ℕ × CType) → (before after : Context) → Type 0
DefinesAt k members before after = context_tree after ≡ rules.define_at (context_tree before) (map member_tree members) k

abbrev pub IsPlace : Context → Struct → Option ℕ → Type 0
IsPlace c s k = k ≡ rules.option_place (context_tree c) s.name

abbrev pub KnowsStruct : Struct → (before after : Context) → Type 0
KnowsStruct s before after = context_tree after ≡ rules.after_struct (context_tree before) (struct_tree s)

abbrev pub WalksStruct : Context → Struct → (before after : Walk) → Type 0
WalksStruct c s before after = walk_tree after ≡ struct_walked (context_tree c) (struct_tree s) (walk_tree before)
