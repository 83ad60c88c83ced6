use Rattle.std.proofs.Common.{◌≡◌, take}
use Rattle.qs_image.specs.Image.{words_bytes}
use Rattle.qs_machine.proofs.loading.code_bytes.Given as goal

abbrev pub invariant-loop-i : goal.invariant-loop-i
invariant-loop-i l = l.bytes.items ≡ words_bytes (take l.i l.image.code)
