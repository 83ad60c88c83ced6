-- Where items lie, and what is assembled of them.
use Rattle.std.proofs.Common.{◌≡◌, inl, inr, ℕ, true, false, List, [], ◌∷◌, ◌++◌, Option, Some, None, refl}
use Rattle.std.specs.Prelude.{nat_eq, if◌then◌else◌, length, replicate}
use Rattle.std.specs.Option.{option_map}
use Rattle.qs_isa.specs.declared.instruction.Instr.{Instr}
use Rattle.qs_isa.specs.declared.instruction.Instr.TheVariants as instructions
use Rattle.qs_isa.specs.declared.instruction.BranchKind.TheVariants.{Beq, Bne, Blt, Bge, Bltu, Bgeu}
use Rattle.qs_isa.specs.Encoding.{encode_of}
use Rattle.qs_asm.specs.declared.item.Item.{Item}
use Rattle.qs_asm.specs.declared.item.Item.TheVariants.{Plain, Label, Jump, Branch}
use Rattle.qs_asm.specs.Items.{inverse, Lays}
use Rattle.qs_asm.specs.Assembly.{assembled, is_reached}
use Rattle.qs_asm.specs.Sizing.{is_near}

-- ---- the inverse of each branch

of_beq : inverse Beq ≡ Bne
of_beq = refl

of_blt : inverse Blt ≡ Bge
of_blt = refl

of_bltu : inverse Bltu ≡ Bgeu
of_bltu = refl

-- ---- both forms of a branch back by 8 bytes, over an instruction

abbrev loop : List Item
loop = Label 7 ∷ Plain instructions.Fence ∷ Plain instructions.Ecall ∷ Branch Blt 5 6 7 ∷ []

abbrev place : ℕ → ℕ
place l = 100

abbrev short : ℕ → Option Instr
short address =
    if nat_eq address 100 then Some instructions.Fence
    else if nat_eq address 104 then Some instructions.Ecall
    else if nat_eq address 108 then Some (instructions.Branch Blt 5 6 4294967288)
    else None

as_itself : Lays short place 100 loop 112
as_itself = (refl, (refl, (refl, inl (refl, refl))))

abbrev long : ℕ → Option Instr
long address =
    if nat_eq address 100 then Some instructions.Fence
    else if nat_eq address 104 then Some instructions.Ecall
    else if nat_eq address 108 then Some (instructions.Branch Bge 5 6 8)
    else if nat_eq address 112 then Some (instructions.Jal 0 4294967284)
    else None

over_a_jump : Lays long place 100 loop 116
over_a_jump = (refl, (refl, (refl, inr (refl, (refl, refl)))))

-- ---- what is assembled

a_loop : assembled loop ≡ Some (instructions.Fence ∷ instructions.Ecall ∷ instructions.Branch Blt 5 6 4294967288 ∷ [])
a_loop = refl

-- over a jump on and a branch, of 8 bytes
forward :
    assembled (Jump 1 3 ∷ Branch Bltu 8 9 3 ∷ Label 3 ∷ [])
    ≡ Some (instructions.Jal 1 8 ∷ instructions.Branch Bltu 8 9 4 ∷ [])
forward = refl

-- a jump to itself
to_itself : assembled (Label 0 ∷ Jump 0 0 ∷ []) ≡ Some (instructions.Jal 0 0 ∷ [])
to_itself = refl

its_word : encode_of (instructions.Jal 0 0) ≡ 0x0000006f
unfolding encode_of
its_word = refl

nowhere : assembled (Jump 0 1 ∷ Label 0 ∷ []) ≡ None
nowhere = refl

twice : assembled (Label 0 ∷ Plain instructions.Fence ∷ Label 0 ∷ []) ≡ None
twice = refl

-- ---- the reach of a jump

furthest_on : is_reached 1048574 ≡ true
furthest_on = refl

too_far_on : is_reached 1048576 ≡ false
too_far_on = refl

furthest_back : is_reached 4293918720 ≡ true
furthest_back = refl

too_far_back : is_reached 4293918718 ≡ false
too_far_back = refl

odd : is_reached 5 ≡ false
odd = refl

-- ---- the reach of a branch

near_on : is_near 4094 ≡ true
near_on = refl

far_on : is_near 4096 ≡ false
far_on = refl

near_back : is_near 4294963200 ≡ true
near_back = refl

far_back : is_near 4294963198 ≡ false
far_back = refl

-- instructions between a branch and its label
abbrev fences : ℕ → List Item
fences n = replicate n (Plain instructions.Fence)

abbrev words_of : List Item → Option ℕ
words_of items = option_map length (assembled items)

-- a branch on is itself over 1,022 words behind it, and takes a jump over 1,023
over_1022 : words_of (Branch Beq 5 6 0 ∷ fences 1022 ++ Label 0 ∷ []) ≡ Some 1023
over_1022 = refl

over_1023 : words_of (Branch Beq 5 6 0 ∷ fences 1023 ++ Label 0 ∷ []) ≡ Some 1025
over_1023 = refl

-- a branch that is itself only as long as the one behind it is: that over 1,023 words needs a jump, and so its label lies a
-- word further on
abbrev crossed : ℕ → List Item
crossed n = Branch Beq 5 6 0 ∷ Branch Beq 5 6 1 ∷ fences 1021 ++ Label 0 ∷ fences n ++ Label 1 ∷ []

both_short : words_of (crossed 1) ≡ Some 1024
both_short = refl

both_long : words_of (crossed 2) ≡ Some 1027
both_long = refl
