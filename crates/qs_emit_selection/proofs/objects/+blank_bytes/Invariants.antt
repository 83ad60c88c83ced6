use Rattle.std.proofs.Common.{◌≡◌, ◌+◌, ◌-◌, ◌^◌, ◌≤◌, min, map, drop}
use Rattle.qs_memory.specs.BlankOf.{blank_tree, joined_of}
use Rattle.qs_memory.specs.Sizes.{blank_size}
use Rattle.qs_emit_selection.proofs.objects.+blank_bytes.Given as goal

abbrev pub invariant-joined_bytes-loop-part : goal.invariant-joined_bytes-loop-part
invariant-joined_bytes-loop-part l = record {
  all :
      min (l.size + blank_size (joined_of (map blank_tree (drop l.part-index l.parts)))) (2 ^ 32 - 1)
      ≡ min (blank_size (joined_of (map blank_tree l.parts))) (2 ^ 32 - 1);
  within : l.size ≤ 2 ^ 32 - 1;
}
