-- Frames: with what lies in them, and where.
use Rattle.std.proofs.Common.{◌≡◌, ℕ, None, List, [], ◌∷◌, map, refl}
use Rattle.std.specs.Prelude.{replicate}
use Rattle.qs_calls.specs.declared.callee.Callee.{Callee}
use Rattle.qs_calls.specs.declared.callee.Callee.TheVariants.{Function, PutChar}
use Rattle.qs_tac.specs.Trees.{call, TacFunctionTree}
use Rattle.qs_tac.specs.declared.operands.Operand.TheVariants.{Constant}
use Rattle.qs_tac.specs.Places.{PlacesTree, all_slots, slot_count}
use Rattle.qs_tac.specs.declared.places.Place.TheVariants.{Slot, Register}
use Rattle.qs_frames.specs.declared.frame.Frame.{Frame}
use Rattle.qs_frames.specs.Layout.{rounded, frame_cost, total, offset, outgoing, used_registers, kept, keeps_return_address, stored_registers, layout, argument_at, register_at, slot_at, block_offset}

-- it calls no function
abbrev function_of : (temporaries : ℕ) → (blocks : List ℕ) → TacFunctionTree
function_of temporaries blocks = record { parameters = []; temporaries = temporaries; blocks = blocks; code = [] }

abbrev frame_of : (temporaries : ℕ) → (blocks : List ℕ) → Frame
frame_of temporaries blocks = layout (function_of temporaries blocks) (all_slots (function_of temporaries blocks))

-- it calls this
abbrev caller_of : Callee → (temporaries : ℕ) → TacFunctionTree
caller_of callee temporaries = record { parameters = []; temporaries = temporaries; blocks = []; code = call None callee [] ∷ [] }

abbrev frame_with : Callee → (temporaries : ℕ) → Frame
frame_with callee temporaries = layout (caller_of callee temporaries) (all_slots (caller_of callee temporaries))

abbrev another : Callee
another = Function (record { 0 = 0 })

abbrev own_slots : (temporaries : ℕ) → PlacesTree
own_slots temporaries = all_slots (function_of temporaries [])

-- ---- blocks: 5 bytes take 8, 4 take 4, and none take none

some_blocks : total (5 ∷ 4 ∷ 0 ∷ 1 ∷ []) ≡ 16
unfolding rounded
some_blocks = refl

the_third_block : offset (5 ∷ 4 ∷ 0 ∷ 1 ∷ []) 2 ≡ 12
unfolding rounded
the_third_block = refl

the_fourth_block : offset (5 ∷ 4 ∷ 0 ∷ 1 ∷ []) 3 ≡ 12
unfolding rounded
the_fourth_block = refl

-- ---- frames

-- nothing is in it, and it has 16 bytes
an_empty_frame : frame_of 0 [] ≡ record { cost = 16; outgoing = 0; slots = 0; placed = 0 }
unfolding frame_cost keeps_return_address
an_empty_frame = refl

-- four slots are 16 bytes, a fifth makes them 32
a_full_frame : frame_of 4 [] ≡ record { cost = 16; outgoing = 0; slots = 12; placed = 16 }
unfolding frame_cost keeps_return_address
a_full_frame = refl

another_slot : frame_of 5 [] ≡ record { cost = 32; outgoing = 0; slots = 16; placed = 20 }
unfolding frame_cost keeps_return_address
another_slot = refl

-- where a function is called, the return address and three slots are 16 bytes
a_full_frame_of_a_caller : frame_with another 3 ≡ record { cost = 16; outgoing = 0; slots = 12; placed = 16 }
unfolding frame_cost keeps_return_address
a_full_frame_of_a_caller = refl

a_fourth_slot_of_a_caller : frame_with another 4 ≡ record { cost = 32; outgoing = 0; slots = 16; placed = 20 }
unfolding frame_cost keeps_return_address
a_fourth_slot_of_a_caller = refl

-- putchar is no function of the program
a_full_frame_with_putchar : frame_with PutChar 4 ≡ record { cost = 16; outgoing = 0; slots = 12; placed = 16 }
unfolding frame_cost keeps_return_address
a_full_frame_with_putchar = refl

-- 511 slots are in the reach of an immediate; with 512 the return address is kept, and the first slot is out of reach
slots_in_reach : frame_of 511 [] ≡ record { cost = 2048; outgoing = 0; slots = 2040; placed = 2044 }
unfolding frame_cost keeps_return_address
slots_in_reach = refl

many_slots : frame_of 512 (5 ∷ 4 ∷ []) ≡ record { cost = 2064; outgoing = 0; slots = 2048; placed = 2052 }
unfolding frame_cost rounded keeps_return_address
many_slots = refl

the_first_slot : slot_at (function_of 512 []) (own_slots 512) 0 ≡ 2048
unfolding keeps_return_address
the_first_slot = refl

the_last_slot : slot_at (function_of 512 []) (own_slots 512) 511 ≡ 4
unfolding keeps_return_address
the_last_slot = refl

the_second_block : block_offset (function_of 512 (5 ∷ 4 ∷ [])) (frame_of 512 (5 ∷ 4 ∷ [])) 1 ≡ 2060
unfolding rounded keeps_return_address
the_second_block = refl

-- ---- registers

-- x9 twice, x28 that a caller keeps, x8, and a slot
abbrev some_places : PlacesTree
some_places = record { at = Register 9 ∷ Register 28 ∷ Slot 3 ∷ Register 9 ∷ Register 8 ∷ []; needed = [] }

the_registers : used_registers some_places ≡ 8 ∷ 9 ∷ []
the_registers = refl

one_slot : slot_count some_places ≡ 1
one_slot = refl

three_words : kept some_places ≡ 3
three_words = refl

their_frame : layout (function_of 5 (1 ∷ [])) some_places ≡ record { cost = 16; outgoing = 0; slots = 8; placed = 12 }
unfolding frame_cost rounded keeps_return_address
their_frame = refl

-- a function that calls another stores x1 before them
a_caller_stores : stored_registers (caller_of another 5) some_places ≡ 1 ∷ 8 ∷ 9 ∷ []
unfolding keeps_return_address
a_caller_stores = refl

-- slot 1 has the last temporary and lies first; slot 0 has the one before and lies behind it
abbrev shared_slots : PlacesTree
shared_slots = record { at = Slot 1 ∷ Register 9 ∷ Slot 0 ∷ Slot 1 ∷ []; needed = [] }

the_slot_of_the_last : slot_at (function_of 4 []) shared_slots 1 ≡ 4
unfolding keeps_return_address
the_slot_of_the_last = refl

the_slot_behind : slot_at (function_of 4 []) shared_slots 0 ≡ 8
unfolding keeps_return_address
the_slot_behind = refl

a_word_is_left : layout (function_of 4 []) shared_slots ≡ record { cost = 16; outgoing = 0; slots = 8; placed = 16 }
unfolding frame_cost keeps_return_address
a_word_is_left = refl

-- ---- arguments

-- it calls a function with nine arguments, and with so many
abbrev passing : (count : ℕ) → TacFunctionTree
passing count = record { parameters = []; temporaries = 5; blocks = 5 ∷ []; code = call None another (replicate 9 (Constant 0)) ∷ call None another (replicate count (Constant 0)) ∷ [] }

-- from x2 on the ninth argument, the return address, x8 and x9, the slot and the block
nine_arguments : layout (passing 8) some_places ≡ record { cost = 32; outgoing = 4; slots = 16; placed = 20 }
unfolding frame_cost rounded keeps_return_address
nine_arguments = refl

-- eight words for the arguments of the second call, of which the first uses one
sixteen_arguments : layout (passing 16) some_places ≡ record { cost = 64; outgoing = 32; slots = 44; placed = 48 }
unfolding frame_cost rounded keeps_return_address
sixteen_arguments = refl

its_arguments : map argument_at (0 ∷ 7 ∷ []) ≡ 0 ∷ 28 ∷ []
its_arguments = refl

its_registers : map (register_at (outgoing (passing 16))) (0 ∷ 1 ∷ 2 ∷ []) ≡ 32 ∷ 36 ∷ 40 ∷ []
its_registers = refl
