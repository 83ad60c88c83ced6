-- What is noted in code, as the definitions see it.
use Rattle.std.specs.Prelude.{◌≡◌, ℕ, List, filter, map}
use Rattle.qs_types.specs.Limits as limits
use Rattle.qs_types.specs.References as references
use Rattle.qs_typing_findings.specs.declared.noted.Block.{Block}
use Rattle.qs_typing_findings.specs.declared.noted.Local.{Local}
use Rattle.qs_typing_findings.specs.declared.noted.Noted.{Noted}
use Rattle.qs_typing_findings.specs.declared.noted.TextBlock.{TextBlock}
use Rattle.qs_typing_findings.specs.Noted.{LocalTree, NotedTree, is_block}

abbrev pub block_tree : Block → limits.Block
block_tree b = record { node = b.node; size = b.size }

abbrev pub text_tree : TextBlock → references.TextBlock
text_tree t = record { node = t.node; bytes = t.bytes.items }

abbrev pub local_tree : Local → LocalTree
local_tree l = record { block = block_tree l.block; is_object = l.is_object }

abbrev pub noted_tree : Noted → NotedTree
noted_tree n = record {
  calls = n.calls.items;
  texts = map text_tree n.texts.items;
  globals = map block_tree n.globals.items;
  locals = map local_tree n.locals.items;
  local_past = n.local_past;
}

-- the blocks of the locals that are no scalars, or that are among these nodes
abbrev pub ArePlaced : (nodes : List ℕ) → List Local → List Block → Type 0
ArePlaced nodes locals blocks = map block_tree blocks ≡ map (λ l. l.block) (filter (is_block nodes) (map local_tree locals))
