use Rattle.std.proofs.Common.{◌≡◌, map, drop}
use Rattle.qs_memory.specs.Memory.{joined}
use Rattle.qs_memory.specs.BlankOf.{blank_tree}
use Rattle.qs_meaning.specs.Blanks.{blanks_within, members_blank}
use Rattle.qs_types.specs.EnvOf.{env_tree}
use Rattle.qs_types.specs.StructsOf.{member_tree}
use Rattle.qs_typed_nodes.specs.Behind.{behind}
use Rattle.qs_typed_nodes.proofs.blanks.+blank.Given as goal

abbrev pub decreases-blank_by : goal.decreases-blank_by
decreases-blank_by l = l.room

abbrev pub decreases-struct_blank : goal.decreases-struct_blank
decreases-struct_blank l = l.room

abbrev pub decreases-members_parts : goal.decreases-members_parts
decreases-members_parts l = l.room

abbrev pub invariant-members_parts-loop-i : goal.invariant-members_parts-loop-i
invariant-members_parts-loop-i l =
    members_blank (env_tree l.env) (blanks_within l.depth (env_tree l.env)) 0 l.layout.size (map member_tree l.members.entries) l.layout.offsets.items
    ≡ behind joined (map blank_tree l.parts.items)
    (members_blank (env_tree l.env) (blanks_within l.depth (env_tree l.env)) l.at l.layout.size (map member_tree (drop l.i l.members.entries)) (drop l.i l.layout.offsets.items))
