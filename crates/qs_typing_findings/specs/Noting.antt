-- What code notes of a unit, as the definitions say.
use Rattle.std.specs.Prelude.{◌≡◌, ℕ, Bool, List, [], ◌∷◌, ◌++◌, Option, map}
use Rattle.qs_syntax.specs.declared.expressions.Expr.{Expr}
use Rattle.qs_syntax.specs.declared.expressions.Shape.{Shape}
use Rattle.qs_syntax.specs.TreeOf.{expr_tree, exprs_tree, shape_tree}
use Rattle.qs_types.specs.declared.env.Env.{Env}
use Rattle.qs_types.specs.declared.types.CType.{CType}
use Rattle.qs_types.specs.EnvOf.{env_tree}
use Rattle.qs_types.specs.Limits as limits
use Rattle.qs_types.specs.References as references
use Rattle.qs_types.specs.References.{expr_calls, expr_texts, exprs_texts, shape_calls, shape_texts}
use Rattle.qs_typing_findings.specs.declared.noted.Block.{Block}
use Rattle.qs_typing_findings.specs.declared.noted.Local.{Local}
use Rattle.qs_typing_findings.specs.declared.noted.Noted.{Noted}
use Rattle.qs_typing_findings.specs.declared.noted.TextBlock.{TextBlock}
use Rattle.qs_typing_findings.specs.Noted as noted
use Rattle.qs_typing_findings.specs.NotedOf.{block_tree, local_tree, noted_tree, text_tree}
use Rattle.qs_typing_findings.specs.PartsOf.{option_type}

-- ---- calls and texts

abbrev pub AddsCalls : Shape → (before after : List (List ℕ)) → Type 0
AddsCalls shape before after = after ≡ before ++ shape_calls (shape_tree shape)

abbrev pub AddsBothCalls : (a b : Expr) → (before after : List (List ℕ)) → Type 0
AddsBothCalls a b before after = after ≡ before ++ (expr_calls (expr_tree a) ++ expr_calls (expr_tree b))

-- these texts are added
abbrev pub AddsBlocks : List references.TextBlock → (before after : List TextBlock) → Type 0
AddsBlocks texts before after = map text_tree after ≡ map text_tree before ++ texts

abbrev pub AddsText : (node : ℕ) → (text : List ℕ) → (before after : List TextBlock) → Type 0
AddsText node text before after = AddsBlocks (record { node = node; bytes = text } ∷ []) before after

abbrev pub AddsTexts : Expr → (before after : List TextBlock) → Type 0
AddsTexts e before after = AddsBlocks (expr_texts (expr_tree e)) before after

abbrev pub AddsShapeTexts : (node : ℕ) → Shape → (before after : List TextBlock) → Type 0
AddsShapeTexts node shape before after = AddsBlocks (shape_texts node (shape_tree shape)) before after

abbrev pub AddsBothTexts : (a b : Expr) → (before after : List TextBlock) → Type 0
AddsBothTexts a b before after = AddsBlocks (expr_texts (expr_tree a) ++ expr_texts (expr_tree b)) before after

abbrev pub AddsAllTexts : List Expr → (before after : List TextBlock) → Type 0
AddsAllTexts es before after = AddsBlocks (exprs_texts (exprs_tree es)) before after

abbrev pub NotesSite : (fills_array : Bool) → Expr → (before after : Noted) → Type 0
NotesSite fills_array e before after = noted_tree after ≡ noted.site_noted fills_array (expr_tree e) (noted_tree before)

-- ---- blocks

abbrev pub IsTextBlock : TextBlock → Block → Type 0
IsTextBlock t b = block_tree b ≡ limits.text_block (text_tree t)

abbrev pub AreTextBlocks : List TextBlock → List Block → Type 0
AreTextBlocks ts bs = map block_tree bs ≡ map limits.text_block (map text_tree ts)

abbrev pub IsLocal : Env → (node : ℕ) → Option CType → Local → Type 0
IsLocal structs node t l = local_tree l ≡ noted.local_tree (env_tree structs) node (option_type t)

abbrev pub NotesVariable : (at_file_scope : Bool) → Env → (node : ℕ) → Option CType → (before after : Noted) → Type 0
NotesVariable at_file_scope structs node t before after =
    noted_tree after ≡ noted.variable_noted at_file_scope (env_tree structs) node (option_type t) (noted_tree before)

abbrev pub BeginsBody : List Local → (before after : Noted) → Type 0
BeginsBody parameters before after = noted_tree after ≡ noted.body_begun (map local_tree parameters) (noted_tree before)

abbrev pub EndsBody : (nodes : List ℕ) → (before after : Noted) → Type 0
EndsBody nodes before after = noted_tree after ≡ noted.body_ended nodes (noted_tree before)
