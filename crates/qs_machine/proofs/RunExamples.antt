-- How low the stack pointer goes, computed from the definitions.
use Rattle.std.specs.Prelude.{◌≡◌, [], ◌∷◌, codes, Some, refl}
use Rattle.qs_isa.specs.Table.{decode_of}
use Rattle.qs_image.specs.Image.{Image}
use Rattle.qs_image.specs.declared.version.Version.TheVariants.{Second}
use Rattle.qs_machine.specs.Run.{least_stack_pointer}

-- addi sp, sp, -16; addi sp, sp, 16
abbrev image : Image
image = record {
  version = Second;
  entry = 65536;
  parameters = 0;
  unsigned_set = 0;
  functions = record { name = codes "main"; address = 65536; cost = 16; parameters = Some 0 } ∷ [];
  code = 0xff010113 ∷ 0x01010113 ∷ [];
  bytes = [];
}

least_at_the_start : least_stack_pointer image 16 [] [] 0 ≡ 0x80000000
least_at_the_start = refl

least_where_it_is_lowered : least_stack_pointer image 16 [] [] 1 ≡ 0x7ffffff0
unfolding decode_of
least_where_it_is_lowered = refl

least_where_it_is_raised_again : least_stack_pointer image 16 [] [] 2 ≡ 0x7ffffff0
unfolding decode_of
least_where_it_is_raised_again = refl

-- the step that would leave the stack traps, and leaves the stack pointer as it was
least_where_it_traps : least_stack_pointer image 15 [] [] 1 ≡ 0x80000000
unfolding decode_of
least_where_it_traps = refl
