use Rattle.std.proofs.Common.{◌≡◌, ◌+◌, length, take}
use Rattle.qs_isa.specs.Addresses.{data_start}
use Rattle.qs_machine.specs.Bytes.{byte_in}
use Rattle.qs_machine.specs.Hart.{byte_of, nothing}
use Rattle.qs_machine.proofs.loading.data_pages.Given as goal

abbrev pub invariant-loop-i : goal.invariant-loop-i
invariant-loop-i l = record {
  start : l.pages.start ≡ data_start;
  end : l.pages.end ≡ data_start + length l.image.bytes;
  bytes : byte_of l.pages nothing ≡ byte_in data_start (take l.i l.image.bytes) nothing;
}
