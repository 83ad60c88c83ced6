-- How walks in code go over what stands at file scope, as the definitions say.
use Rattle.std.specs.Prelude.{◌≡◌, List, map}
use Rattle.qs_syntax.specs.declared.units.Decl.{Decl}
use Rattle.qs_syntax.specs.TreeOf.{decl_tree}
use Rattle.qs_types.specs.UnitRules.{after_declaration, context_after}
use Rattle.qs_typing_findings.specs.declared.context.Context.{Context}
use Rattle.qs_typing_findings.specs.declared.walk.Walk.{Walk}
use Rattle.qs_typing_findings.specs.ContextOf.{context_tree}
use Rattle.qs_typing_findings.specs.UnitWalk.{declaration_walked, declarations_walked}
use Rattle.qs_typing_findings.specs.WalkOf.{walk_tree}

abbrev pub KnowsDeclaration : Decl → (before after : Context) → Type 0
KnowsDeclaration d before after = context_tree after ≡ after_declaration (context_tree before) (decl_tree d)

abbrev pub WalksDeclaration : Context → Decl → (before after : Walk) → Type 0
WalksDeclaration c d before after = walk_tree after ≡ declaration_walked (context_tree c) (decl_tree d) (walk_tree before)

abbrev pub KnowsDeclarations : List Decl → (before after : Context) → Type 0
KnowsDeclarations ds before after = context_tree after ≡ context_after (context_tree before) (map decl_tree ds)

abbrev pub WalksDeclarations : Context → List Decl → (before after : Walk) → Type 0
WalksDeclarations c ds before after = walk_tree after ≡ declarations_walked (context_tree c) (map decl_tree ds) (walk_tree before)
