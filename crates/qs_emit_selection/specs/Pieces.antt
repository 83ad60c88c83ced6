-- Short pieces of machine code that the code of instructions is put together from. Registers and immediates are numbers;
-- a negative immediate is the word with its sign extended.
use Rattle.std.specs.Prelude.{ℕ, zero, suc, ◌+◌, ◌-◌, ◌*◌, ◌/◌, ◌%◌, ◌^◌, ◌==◌, ◌||◌, nat_lt, nat_le, Bool, if◌then◌else◌}
use Rattle.std.specs.Prelude.{List, [], ◌∷◌, ◌++◌, Option, Some, None}
use Rattle.qs_base.specs.Words.{sign_extend}
use Rattle.qs_isa.specs.Registers.{x0, ra, sp, t0, a4, a5, a6, a7}
use Rattle.qs_isa.specs.declared.instruction.Instr.{Instr}
use Rattle.qs_isa.specs.declared.instruction.Instr.TheVariants as instructions
use Rattle.qs_isa.specs.declared.instruction.LoadKind.{LoadKind}
use Rattle.qs_isa.specs.declared.instruction.LoadKind.TheVariants.{Lw, Lbu}
use Rattle.qs_isa.specs.declared.instruction.StoreKind.{StoreKind}
use Rattle.qs_isa.specs.declared.instruction.StoreKind.TheVariants.{Sw, Sb}
use Rattle.qs_isa.specs.declared.instruction.BranchKind.TheVariants.{Bne}
use Rattle.qs_isa.specs.declared.instruction.OpImmKind.TheVariants.{Addi, Slti, Sltiu, Xori, Ori, Andi}
use Rattle.qs_isa.specs.declared.instruction.ShiftImmKind.TheVariants.{Slli, Srli, Srai}
use Rattle.qs_isa.specs.declared.instruction.OpKind.TheVariants.{Add, Sub, Slt, Sltu, Mul, Div}
use Rattle.qs_memory.specs.declared.scalar.Scalar.{Scalar}
use Rattle.qs_memory.specs.declared.scalar.Scalar.TheVariants as scalars

-- x10 to x17 are for the steps that instructions are made of, and so is x1 in a function that has stored its return
-- address; x5 moves x2 at the entry and at the return, where no value has to be there still

-- ---- instructions by their names in assembly

abbrev pub lui : (rd immediate : ℕ) → Instr
lui rd immediate = instructions.Lui rd immediate

abbrev pub addi : (rd rs immediate : ℕ) → Instr
addi rd rs immediate = instructions.OpImm Addi rd rs immediate

abbrev pub andi : (rd rs immediate : ℕ) → Instr
andi rd rs immediate = instructions.OpImm Andi rd rs immediate

abbrev pub ori : (rd rs immediate : ℕ) → Instr
ori rd rs immediate = instructions.OpImm Ori rd rs immediate

abbrev pub xori : (rd rs immediate : ℕ) → Instr
xori rd rs immediate = instructions.OpImm Xori rd rs immediate

abbrev pub slti : (rd rs immediate : ℕ) → Instr
slti rd rs immediate = instructions.OpImm Slti rd rs immediate

abbrev pub sltiu : (rd rs immediate : ℕ) → Instr
sltiu rd rs immediate = instructions.OpImm Sltiu rd rs immediate

abbrev pub slli : (rd rs amount : ℕ) → Instr
slli rd rs amount = instructions.ShiftImm Slli rd rs amount

abbrev pub srli : (rd rs amount : ℕ) → Instr
srli rd rs amount = instructions.ShiftImm Srli rd rs amount

abbrev pub srai : (rd rs amount : ℕ) → Instr
srai rd rs amount = instructions.ShiftImm Srai rd rs amount

abbrev pub add : (rd left right : ℕ) → Instr
add rd left right = instructions.Op Add rd left right

abbrev pub sub : (rd left right : ℕ) → Instr
sub rd left right = instructions.Op Sub rd left right

abbrev pub slt : (rd left right : ℕ) → Instr
slt rd left right = instructions.Op Slt rd left right

abbrev pub sltu : (rd left right : ℕ) → Instr
sltu rd left right = instructions.Op Sltu rd left right

abbrev pub mul : (rd left right : ℕ) → Instr
mul rd left right = instructions.Op Mul rd left right

abbrev pub div : (rd left right : ℕ) → Instr
div rd left right = instructions.Op Div rd left right

abbrev pub bne : (left right offset : ℕ) → Instr
bne left right offset = instructions.Branch Bne left right offset

abbrev pub jalr : (rd rs offset : ℕ) → Instr
jalr rd rs offset = instructions.Jalr rd rs offset

-- from memory at the base and the offset
abbrev pub load : LoadKind → (rd base offset : ℕ) → Instr
load kind rd base offset = instructions.Load kind rd base offset

-- a register to memory at the base and the offset
abbrev pub store : StoreKind → (rs base offset : ℕ) → Instr
store kind rs base offset = instructions.Store kind base rs offset

-- ---- kinds of accesses: a `char` has no sign

abbrev pub load_kind : Scalar → LoadKind
load_kind scalars.Char = Lbu
load_kind scalars.Int = Lw
load_kind scalars.Unsigned = Lw
load_kind scalars.Pointer = Lw

abbrev pub store_kind : Scalar → StoreKind
store_kind scalars.Char = Sb
store_kind scalars.Int = Sw
store_kind scalars.Unsigned = Sw
store_kind scalars.Pointer = Sw

-- ---- constants

-- a word that an immediate of 12 bits can be: -2048 to 2047
unfoldable pub is_small : (word : ℕ) → Bool
is_small word = nat_lt word 2048 || nat_le (2 ^ 32 - 2048) word

-- a word is its high part and its low part, which is an immediate
unfoldable pub low_part : (word : ℕ) → ℕ
low_part word = sign_extend 12 (word % 2 ^ 12)

unfoldable pub high_part : (word : ℕ) → ℕ
high_part word = (word + 2048) / 2 ^ 12 * 2 ^ 12 % 2 ^ 32

abbrev pub constant : (rd word : ℕ) → List Instr
constant rd word =
    if is_small word then addi rd x0 word ∷ []
    else if low_part word == 0 then lui rd (high_part word) ∷ []
    else lui rd (high_part word) ∷ addi rd rd (low_part word) ∷ []

-- ---- the frame

-- an offset in the reach of an immediate
unfoldable pub is_near : (offset : ℕ) → Bool
is_near offset = nat_lt offset 2048

-- from an offset behind x2
abbrev pub load_from : LoadKind → (rd offset : ℕ) → List Instr
load_from kind rd offset =
    if is_near offset then load kind rd sp offset ∷ []
    else lui rd (high_part offset) ∷ add rd rd sp ∷ load kind rd rd (low_part offset) ∷ []

-- to an offset behind x2
abbrev pub store_to : StoreKind → (rs offset : ℕ) → List Instr
store_to kind rs offset =
    if is_near offset then store kind rs sp offset ∷ []
    else lui ra (high_part offset) ∷ add ra ra sp ∷ store kind rs ra (low_part offset) ∷ []

-- the address of an offset behind x2
abbrev pub address_in_frame : (rd offset : ℕ) → List Instr
address_in_frame rd offset =
    if is_near offset then addi rd sp offset ∷ []
    else constant rd offset ++ add rd rd sp ∷ []

-- x2 moves by a word
abbrev pub move_stack : (word : ℕ) → List Instr
move_stack word = if is_small word then addi sp sp word ∷ [] else constant t0 word ++ add sp sp t0 ∷ []

-- ---- products

-- the power of two that a number is, among the next ones so many from an exponent on
abbrev pub shift_among : (count exponent number : ℕ) → Option ℕ
shift_among zero exponent number = None
shift_among (suc count) exponent number =
    if 2 ^ exponent == number then Some exponent else shift_among count (exponent + 1) number

unfoldable pub shift_of : (number : ℕ) → Option ℕ
shift_of number = shift_among 31 1 number

abbrev pub product_by : Option ℕ → (rd rs number : ℕ) → List Instr
product_by (Some exponent) rd rs number = slli rd rs exponent ∷ []
product_by None rd rs number = constant rd number ++ mul rd rd rs ∷ []

-- a register times a number of at least 2, in another register
abbrev pub product : (rd rs number : ℕ) → List Instr
product rd rs number = product_by (shift_of number) rd rs number

-- ---- loops over bytes, in steps of a width; a5 goes up to a7

-- a7 is so many bytes behind a5
abbrev pub loop_end : (size : ℕ) → List Instr
loop_end size = constant a7 size ++ add a7 a7 a5 ∷ []

-- from where a6 points to where a5 points
abbrev pub copy_loop : LoadKind → StoreKind → (width size : ℕ) → List Instr
copy_loop from to width size =
    loop_end size
    ++ load from a4 a6 0 ∷ addi a6 a6 width ∷ store to a4 a5 0 ∷ addi a5 a5 width ∷ bne a5 a7 (2 ^ 32 - 16) ∷ []

-- zeros to where a5 points
abbrev pub fill_loop : StoreKind → (width size : ℕ) → List Instr
fill_loop to width size = loop_end size ++ store to x0 a5 0 ∷ addi a5 a5 width ∷ bne a5 a7 (2 ^ 32 - 8) ∷ []

-- so many zero bytes from an offset behind a5 on
abbrev pub zero_bytes : (count offset : ℕ) → List Instr
zero_bytes zero offset = []
zero_bytes (suc count) offset = store Sb x0 a5 offset ∷ zero_bytes count (offset + 1)
