-- What the check of a unit finds, as the definitions say.
use Rattle.std.specs.Prelude.{◌≡◌, ℕ, List, ◌++◌, Option, map}
use Rattle.qs_syntax.specs.declared.unit.Unit.{Unit}
use Rattle.qs_syntax.specs.declared.units.Decl.{Decl}
use Rattle.qs_syntax.specs.TreeOf.{decl_tree}
use Rattle.qs_syntax.specs.UnitTrees.{unit_tree}
use Rattle.qs_types.specs.Limits.{block_past, global_limit, text_block}
use Rattle.qs_types.specs.WellTyped.{end_context, undefined_from}
use Rattle.qs_typing_findings.specs.declared.context.Context.{Context}
use Rattle.qs_typing_findings.specs.declared.noted.Noted.{Noted}
use Rattle.qs_typing_findings.specs.declared.type_fault.TypeFault.{TypeFault}
use Rattle.qs_typing_findings.specs.declared.walk.Walk.{Walk}
use Rattle.qs_typing_findings.specs.ContextOf.{context_tree}
use Rattle.qs_typing_findings.specs.NotedOf.{block_tree, text_tree}
use Rattle.qs_typing_findings.specs.Refusals.{late_by, runs_in}
use Rattle.qs_typing_findings.specs.UnitWalk.{unit_walked}
use Rattle.qs_typing_findings.specs.WalkOf.{walk_tree}

-- the first of the data past their limit
abbrev pub IsFirstPast : Noted → Option ℕ → Type 0
IsFirstPast n past = past ≡ block_past global_limit 0 (map block_tree n.globals.items ++ map text_block (map text_tree n.texts.items))

-- the first declaration of a function that is among these and doesn't run
abbrev pub IsUndefined : Context → (calls : List (List ℕ)) → List Decl → Option ℕ → Type 0
IsUndefined c calls ds node = node ≡ undefined_from (runs_in (context_tree c)) calls (map decl_tree ds)

-- this is known at the end of a unit
abbrev pub IsEnd : Unit → Context → Type 0
IsEnd unit c = context_tree c ≡ end_context (unit_tree unit)

abbrev pub WalksUnit : Unit → Walk → Type 0
WalksUnit unit walk = walk_tree walk ≡ unit_walked (unit_tree unit)

-- the first cause that a walk shows, where this is known behind it
abbrev pub IsLate : Context → Walk → Unit → Option TypeFault → Type 0
IsLate c walk unit f = f ≡ late_by (context_tree c) (walk_tree walk) (unit_tree unit)
