-- A unit with a variable, a literal, a pointer into it, a block of its call and a slot; an image of it; and the machine that runs
-- it. So the premises of the laws can be met.
use Rattle.std.proofs.Common.{◌≡◌, ℕ, zero, suc, ◌+◌, ◌*◌, ◌^◌, ◌<◌, ◌≤◌, Bool, true, false, List, [], ◌∷◌, length, Some, None, refl, ap, ◌∙◌, subst, arith}
use Rattle.std.specs.Prelude.{nat_lt, ◌&&◌, All, slice_get, slice_index_or, unwrap_or, codes, IsTrue}
use Rattle.std.specs.List.{list_all}
use Rattle.std.proofs.lemmas.Bool.Decides.{nat_tests}
use Rattle.std.proofs.lemmas.List.Elements.{All-nil, All-cons}
use Rattle.qs_memory.specs.Values.{Value, into}
use Rattle.qs_memory.specs.Memory.{unset, byte, parts_of, Memory, block_at}
use Rattle.qs_memory.specs.Soundness.{IsLive, IsSoundCell}
use Rattle.qs_memory.specs.declared.scalar.Scalar.TheVariants as scalars
use Rattle.qs_events.specs.Events.{Calls, Returns}
use Rattle.qs_events.specs.Runs.{Left, has_ended, ending_of}
use Rattle.qs_events.specs.Weights.{Costs, run_weight}
use Rattle.qs_calls.specs.World.{World}
use Rattle.qs_isa.specs.Table.{decode_of}
use Rattle.qs_asm.specs.Assembly.{assembled, label_offset, IsAssembly}
use Rattle.qs_asm.proofs.AssemblyLaws.{assembly}
use Rattle.qs_base.specs.Keywords.{is_keyword, keyword_of}
use Rattle.qs_base.specs.Names.{is_name}
use Rattle.qs_image.specs.Image.{Image, FunctionRecord, IsWellFormed, IsAddress, IsCost, HasCount}
use Rattle.qs_image.specs.declared.version.Version.TheVariants.{Second}
use Rattle.qs_machine.specs.Run.{Exited, start_memory, machine}
use Rattle.qs_tac.specs.Trees.{InstructionTree, store, load, call, return, TacFunctionTree, TacUnitTree}
use Rattle.qs_tac.specs.declared.operands.Operand.TheVariants.{Temporary, Constant, Data}
use Rattle.qs_tac.specs.declared.operands.Address.{Address}
use Rattle.qs_tac.specs.declared.places.Place.TheVariants.{Slot}
use Rattle.qs_tac.specs.Places.{PlacesTree, Accepted, own_slots, no_places}
use Rattle.qs_tac.specs.Units.{world_after}
use Rattle.qs_frames.specs.Layout.{rounded, keeps_return_address, frame_cost}
use Rattle.qs_emit_selection.specs.Pieces.{is_small, low_part, high_part, is_near}
use Rattle.qs_emit_selection.specs.Laws.{HasFewArguments}
use Rattle.qs_emit_selection.specs.Units.{selected}
use Rattle.qs_emit.specs.Relation.{cost_at, function_at, IsEmittable}
use Rattle.qs_emit.specs.Images.{IsFirstMemory, record_at, AreCosts, function_address, IsImageOf, IsWithinLimits}
use Rattle.qs_emit.specs.Emitted.{data_lay, start_run, IsInteger, MayStart, FollowsFrom, Emitted}
use Rattle.qs_emit.proofs.ImageLaws.{images_follow}

-- the variable takes 7, and its value is returned
abbrev pub variable : Address
variable = record { base = Data 0; offset = None; index = None }

abbrev pub main : TacFunctionTree
main = record {
  parameters = [];
  temporaries = 1;
  blocks = 8 ∷ [];
  code = store scalars.Int variable (Constant 7) ∷ load scalars.Int 0 variable ∷ return (Some (Temporary 0)) ∷ [];
}

abbrev pub unit : TacUnitTree
unit = record {
  functions = main ∷ [];
  main = 0;
  data_blocks = record { size = 4; is_writable = true } ∷ record { size = 3; is_writable = false } ∷ record { size = 4; is_writable = true } ∷ [];
}

abbrev pub places : List PlacesTree
places = record { at = Slot 0 ∷ []; needed = [] } ∷ []

-- the variable is 0, the literal is "hi", and the pointer goes to its second byte
abbrev pub first : Memory
first =
    record { size = 4; is_live = true; is_writable = true; cells = λ offset. byte 0 }
    ∷ record { size = 3; is_live = true; is_writable = false; cells = λ offset. slice_index_or (byte 104 ∷ byte 105 ∷ byte 0 ∷ []) offset unset }
    ∷ record { size = 4; is_live = true; is_writable = true; cells = λ offset. slice_index_or (parts_of (into 1 1) 0 4) offset unset }
    ∷ []

abbrev pub image : Image
image = record {
  version = Second;
  entry = 65536;
  parameters = 0;
  unsigned_set = 0;
  functions = record { name = codes "main"; address = 65548; cost = 16; parameters = Some 0 } ∷ [];
  code = 0x00c000ef ∷ 0x00000893 ∷ 0x00000073 ∷ 0xff010113 ∷ 0x10000537 ∷ 0x00700713 ∷ 0x00e52023 ∷ 0x10000537 ∷ 0x00052503 ∷ 0x00a12023 ∷ 0x00012503 ∷ 0x01010113 ∷ 0x00008067 ∷ [];
  bytes = 0 ∷ 0 ∷ 0 ∷ 0 ∷ 104 ∷ 105 ∷ 0 ∷ 0 ∷ 5 ∷ 0 ∷ 0 ∷ 16 ∷ [];
}

cost_is : (f : ℕ) → f < 1 → cost_at unit places f ≤ 2 ^ 28
unfolding frame_cost rounded keeps_return_address
cost_is zero h = omega arith
cost_is (suc f) h = absurd (omega (arith, h))

few : (f : ℕ) → length (function_at unit f).parameters ≤ 16
few zero = omega arith
few (suc f) = omega arith

no_calls : (f k : ℕ) (i : InstructionTree) → slice_get (function_at unit f).code k ≡ Some i → HasFewArguments i
no_calls zero zero i e x g arguments c = absurd (none (e ∙ ap Some c))
  where
    none : Some (store scalars.Int variable (Constant 7)) ≡ Some (call x g arguments) → ⊥
    none q = cc
no_calls zero (suc zero) i e x g arguments c = absurd (none (e ∙ ap Some c))
  where
    none : Some (load scalars.Int 0 variable) ≡ Some (call x g arguments) → ⊥
    none q = cc
no_calls zero (suc (suc zero)) i e x g arguments c = absurd (none (e ∙ ap Some c))
  where
    none : Some (return (Some (Temporary 0))) ≡ Some (call x g arguments) → ⊥
    none q = cc
no_calls zero (suc (suc (suc k))) i e x g arguments c = cc
no_calls (suc f) k i e x g arguments c = cc

accepted : (f : ℕ) (g : TacFunctionTree) → slice_get unit.functions f ≡ Some g → Accepted g (slice_index_or places f no_places)
accepted zero g e = let same : main ≡ g = cc in subst (λ (z : TacFunctionTree). Accepted z (record { at = Slot 0 ∷ []; needed = [] })) same (own_slots refl)
accepted (suc f) g e = cc

emittable : IsEmittable unit places
emittable = record {
  fits = refl;
  places = accepted;
  cost = cost_is;
  parameters = few;
  main_parameters = omega arith;
  arguments = no_calls;
}

-- ---- the memory to start from

live : (block : ℕ) → block < 3 → IsLive first block
live zero lt = refl
live (suc zero) lt = refl
live (suc (suc zero)) lt = refl
live (suc (suc (suc block))) lt = absurd (omega (arith, lt))

sound : (block offset : ℕ) → IsLive first block → offset < (block_at first block).size → IsSoundCell first ((block_at first block).cells offset)
sound zero offset live lt = omega arith
sound (suc zero) zero live lt = omega arith
sound (suc zero) (suc zero) live lt = omega arith
sound (suc zero) (suc (suc zero)) live lt = omega arith
sound (suc zero) (suc (suc (suc offset))) live lt = absurd (omega (arith, lt))
sound (suc (suc zero)) zero live lt = record { pointer = record { made = omega arith; in_range = λ live. omega arith }; number = omega arith }
sound (suc (suc zero)) (suc zero) live lt = record { pointer = record { made = omega arith; in_range = λ live. omega arith }; number = omega arith }
sound (suc (suc zero)) (suc (suc zero)) live lt = record { pointer = record { made = omega arith; in_range = λ live. omega arith }; number = omega arith }
sound (suc (suc zero)) (suc (suc (suc zero))) live lt = record { pointer = record { made = omega arith; in_range = λ live. omega arith }; number = omega arith }
sound (suc (suc zero)) (suc (suc (suc (suc offset)))) live lt = absurd (omega (arith, lt))
sound (suc (suc (suc block))) offset live lt = cc

memory : IsFirstMemory unit first
memory = record { blocks = refl; live = live; sound = record { cells = sound } }

-- ---- the image

code_is : IsAssembly (selected unit places) image.code
unfolding decode_of is_small low_part high_part is_near frame_cost rounded keeps_return_address
code_is = assembly (label_offset (selected unit places)) (selected unit places) (unwrap_or (assembled (selected unit places)) []) image.code (record { each = λ l. refl }) refl refl

address_is : (f : ℕ) → f < 1 → (record_at image f).address ≡ function_address unit places f
unfolding is_small low_part high_part is_near frame_cost rounded keeps_return_address
address_is zero lt = refl
address_is (suc f) lt = absurd (omega (arith, lt))

same_cost : (f : ℕ) → f < 1 → (record_at image f).cost ≡ cost_at unit places f
unfolding frame_cost rounded keeps_return_address
same_cost zero lt = refl
same_cost (suc f) lt = absurd (omega (arith, lt))

is : IsImageOf unit places first image
unfolding rounded
is = record {
  code = code_is;
  entry = refl;
  parameters = refl;
  count = refl;
  addresses = address_is;
  costs = same_cost;
  bytes = refl;
}

-- it keeps to the form of images
main_is_name : IsTrue (is_name (codes "main"))
unfolding is_name is_keyword keyword_of
main_is_name = refl

abbrev main_record : FunctionRecord
main_record = record { name = codes "main"; address = 65548; cost = 16; parameters = Some 0 }

below : (limit : ℕ) (numbers : List ℕ) → list_all (λ n. nat_lt n limit) numbers ≡ true → All (λ n. n < limit) numbers
below limit [] e = All-nil (λ n. n < limit)
below limit (number ∷ numbers) e = by (nat_lt number limit) refl e (below limit numbers)
  where
    by : (b : Bool) → nat_lt number limit ≡ b → (b && list_all (λ n. nat_lt n limit) numbers) ≡ true → (list_all (λ n. nat_lt n limit) numbers ≡ true → All (λ n. n < limit) numbers) → All (λ n. n < limit) (number ∷ numbers)
    by true t e more = All-cons (λ n. n < limit) number numbers (grind (arith, nat_tests, t)) (more e)
    by false t e more = cc

well_formed : IsWellFormed image
well_formed = record {
  code_count = (omega arith, omega arith);
  byte_count = omega arith;
  function_count = (omega arith, omega arith);
  names_length = (omega arith, omega arith);
  parameters = omega arith;
  unsigned_set = omega arith;
  names = All-cons (λ (f : FunctionRecord). IsTrue (is_name f.name)) main_record [] main_is_name (All-nil (λ (f : FunctionRecord). IsTrue (is_name f.name)));
  differ = λ i j d before inside e. absurd (omega (arith, before, inside));
  main = (0, omega arith, refl);
  entry = record { k = 0; below = omega arith; at = refl };
  addresses = All-cons (λ (f : FunctionRecord). IsAddress 13 f.address) main_record [] (record { k = 3; below = omega arith; at = refl }) (All-nil (λ (f : FunctionRecord). IsAddress 13 f.address));
  costs = All-cons (λ (f : FunctionRecord). IsCost f.cost) main_record [] (record { k = 1; multiple = refl; positive = omega arith; most = omega arith }) (All-nil (λ (f : FunctionRecord). IsCost f.cost));
  counts = All-cons (λ (f : FunctionRecord). HasCount 0 f) main_record [] (record { count = 0; is = refl; most = omega arith; main = λ named. refl }) (All-nil (λ (f : FunctionRecord). HasCount 0 f));
  words = below (2 ^ 32) image.code refl;
  octets = below 256 image.bytes refl;
}

pub limits : IsWithinLimits image
limits = record { code = omega arith; bytes = omega arith }

pub emitted : Emitted unit first image
emitted = images_follow unit places first image emittable memory is limits

-- ---- the bytes at the start

-- the literal lies behind the variable
literal_starts_with_h : start_memory image ((data_lay unit first).address_of 1 + 0) ≡ 104
literal_starts_with_h = (emitted.begins.lies.holds 1 0 refl (omega arith)).0

literal_lies_at_its_address : (data_lay unit first).address_of 1 ≡ 0x10000004
unfolding rounded
literal_lies_at_its_address = refl

-- the pointer is the address of the literal's second byte
pointer_is_that_address : start_memory image 0x10000008 + 256 * start_memory image 0x10000009 + 65536 * start_memory image 0x1000000a + 16777216 * start_memory image 0x1000000b ≡ 0x10000005
pointer_is_that_address = refl

-- ---- the world in which the run stands

abbrev after_store : World
after_store = world_after unit 0 [] (record { memory = first; input = 65 ∷ [] }) 2

-- behind the entry and the store the variable is 7, main's block is there, and no input was taken
variable_is_seven : (block_at after_store.memory 0).cells 0 ≡ byte 7
variable_is_seven = refl

main_has_its_block : length after_store.memory ≡ 4
main_has_its_block = refl

no_input_is_taken : after_store.input ≡ 65 ∷ []
no_input_is_taken = refl

-- ---- the start

abbrev costs : Costs
costs f = (record_at image f).cost

are_costs : AreCosts image costs
are_costs = record { each = λ f lt. refl }

enough : (n : ℕ) → run_weight costs (start_run unit first [] [] n) ≤ 64
enough zero = omega arith
enough (suc zero) = omega arith
enough (suc (suc zero)) = omega arith
enough (suc (suc (suc zero))) = omega arith
enough (suc (suc (suc (suc n)))) = omega arith

returns : (n : ℕ) (left : Left Value Memory) → ending_of (start_run unit first [] [] n) ≡ has_ended left → IsInteger left.result
returns zero left e = cc
returns (suc zero) left e = cc
returns (suc (suc zero)) left e = cc
returns (suc (suc (suc zero))) left e = cc
returns (suc (suc (suc (suc n)))) left e = (7, cc)

may : MayStart unit first costs [] [] 64
may = record { count = refl; words = All-nil (λ word. word < 2 ^ 32); bytes = All-nil (λ byte. byte < 256); most = omega arith; enough = enough; returns = returns }

follows : FollowsFrom unit first image costs [] [] 64
follows = emitted.start costs [] [] 64 are_costs may

-- on a stack of 64 bytes the machine exits with 7
exits_with_seven : (m : ℕ) × (machine image 64 [] [] m ≡ Exited [] 7)
exits_with_seven = follows.agree.ends 4 (Calls 0 ∷ Returns 0 ∷ []) 7 refl
