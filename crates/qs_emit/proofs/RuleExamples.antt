-- The rules of the machine that is watched, by example: each test goes both ways.
use Rattle.std.proofs.Common.{◌≡◌, ℕ, true, false, [], ◌∷◌, Some, refl}
use Rattle.std.specs.Prelude.{◌==◌, ◌&&◌, nat_le, nat_lt, if◌then◌else◌}
use Rattle.qs_isa.specs.declared.instruction.Instr.TheVariants.{Load, Store, OpImm}
use Rattle.qs_isa.specs.declared.instruction.LoadKind.TheVariants.{Lb, Lw}
use Rattle.qs_isa.specs.declared.instruction.StoreKind.TheVariants.{Sb, Sw}
use Rattle.qs_isa.specs.declared.instruction.OpImmKind.TheVariants.{Addi}
use Rattle.qs_image.specs.Image.{Image}
use Rattle.qs_image.specs.declared.version.Version.TheVariants.{Second}
use Rattle.qs_machine.specs.State.{State}
use Rattle.qs_emit.specs.Machine.{Room, Watched, breaks, keeps_to, is_set, stirred_byte, watch_on}

abbrev image : Image
image = record { version = Second; entry = 65536; parameters = 0; unsigned_set = 0; functions = []; code = []; bytes = 0 ∷ 0 ∷ 0 ∷ 0 ∷ 0 ∷ 0 ∷ 0 ∷ 0 ∷ [] }

-- x2 was 0x7fffffc0 at the entry. The first four bytes of the data may be written, and the first eight are kept. Others make
-- each of the rest 255
abbrev room : Room
room = record {
  size = 65536;
  ceiling = 0x7fffffc0;
  may_change = λ at. nat_le 0x10000000 at && nat_lt at 0x10000004;
  is_kept = λ at. nat_le 0x10000000 at && nat_lt at 0x10000008;
  others = λ time memory at. 255;
}

-- with this x2, and this address in a0
abbrev standing : (x2 address : ℕ) → State
standing x2 address = record {
  pc = 65536;
  registers = λ r. if r == 2 then x2 else if r == 10 then address else 0;
  memory = λ at. 1;
  input = [];
  output = [];
}

-- ---- reads

no_word_below_x2_is_read : keeps_to room (standing 0x7fffff80 0x7fffff7c) (Load Lw 11 10 0) ≡ false
no_word_below_x2_is_read = refl

no_byte_below_x2_is_read : keeps_to room (standing 0x7fffff80 0x7fffff7f) (Load Lb 11 10 0) ≡ false
no_byte_below_x2_is_read = refl

a_word_at_x2_is_read : keeps_to room (standing 0x7fffff80 0x7fffff80) (Load Lw 11 10 0) ≡ true
a_word_at_x2_is_read = refl

data_are_read : keeps_to room (standing 0x7fffff80 0x10000004) (Load Lw 11 10 0) ≡ true
data_are_read = refl

-- ---- writes

no_word_below_x2_is_written : keeps_to room (standing 0x7fffff80 0x7fffff7c) (Store Sw 10 11 0) ≡ false
no_word_below_x2_is_written = refl

a_word_at_x2_is_written : keeps_to room (standing 0x7fffff80 0x7fffff80) (Store Sw 10 11 0) ≡ true
a_word_at_x2_is_written = refl

the_last_word_below_the_entrys_x2_is_written : keeps_to room (standing 0x7fffff80 0x7fffffbc) (Store Sw 10 11 0) ≡ true
the_last_word_below_the_entrys_x2_is_written = refl

no_word_at_the_entrys_x2_is_written : keeps_to room (standing 0x7fffff80 0x7fffffc0) (Store Sw 10 11 0) ≡ false
no_word_at_the_entrys_x2_is_written = refl

data_that_may_change_are_written : keeps_to room (standing 0x7fffff80 0x10000000) (Store Sw 10 11 0) ≡ true
data_that_may_change_are_written = refl

no_other_data_are_written : keeps_to room (standing 0x7fffff80 0x10000004) (Store Sb 10 11 0) ≡ false
no_other_data_are_written = refl

-- ---- x2

x2_is_a_multiple_of_16 : is_set room (standing 0x7fffff80 0) ≡ true
x2_is_a_multiple_of_16 = refl

no_other_multiple_of_8_is_x2 : is_set room (standing 0x7fffff88 0) ≡ false
no_other_multiple_of_8_is_x2 = refl

x2_may_be_as_at_the_entry : is_set room (standing 0x7fffffc0 0) ≡ true
x2_may_be_as_at_the_entry = refl

x2_is_not_above_the_entrys : is_set room (standing 0x7fffffd0 0) ≡ false
x2_is_not_above_the_entrys = refl

-- ---- the machine stops for each of them

abbrev watching : (x2 address : ℕ) → Watched
watching x2 address = record { now = standing x2 address; low = x2; time = 0 }

a_read_below_x2_breaks : watch_on image room (watching 0x7fffff80 0x7fffff7c) (Some (Load Lw 11 10 0)) ≡ breaks
a_read_below_x2_breaks = refl

a_write_below_x2_breaks : watch_on image room (watching 0x7fffff80 0x7fffff7c) (Some (Store Sw 10 11 0)) ≡ breaks
a_write_below_x2_breaks = refl

half_a_step_of_x2_breaks : watch_on image room (watching 0x7fffff80 0) (Some (OpImm Addi 2 2 8)) ≡ breaks
half_a_step_of_x2_breaks = refl

-- ---- what others do

a_byte_below_x2_is_another : stirred_byte room 0 0x7fffff80 (λ at. 1) 0x7fffff7f ≡ 255
unfolding stirred_byte
a_byte_below_x2_is_another = refl

a_byte_at_x2_stays : stirred_byte room 0 0x7fffff80 (λ at. 1) 0x7fffff80 ≡ 1
unfolding stirred_byte
a_byte_at_x2_stays = refl

a_kept_byte_stays : stirred_byte room 0 0x7fffff80 (λ at. 1) 0x10000007 ≡ 1
unfolding stirred_byte
a_kept_byte_stays = refl

a_byte_that_is_not_kept_is_another : stirred_byte room 0 0x7fffff80 (λ at. 1) 0x10000008 ≡ 255
unfolding stirred_byte
a_byte_that_is_not_kept_is_another = refl
