-- A function with nine parameters, which main calls: int f(int a, .., int j) { return a - j; } int main(void) { return f(9, 0, .., 2); }.
-- It is entered as a root too, its ninth argument in the word at x2, 16 bytes below the top of the stack, while others change all
-- that isn't its own.
use Rattle.std.proofs.Common.{◌≡◌, ℕ, zero, suc, ◌^◌, ◌<◌, ◌≤◌, Bool, true, false, List, [], ◌∷◌, length, Some, refl, subst, arith}
use Rattle.std.specs.Prelude.{◌==◌, if◌then◌else◌, slice_get, slice_index_or, unwrap_or, codes}
use Rattle.std.proofs.lemmas.Bool.Decides.{nat_tests}
use Rattle.std.proofs.lemmas.List.Elements.{All-nil}
use Rattle.qs_memory.specs.Values.{Value, integer}
use Rattle.qs_memory.specs.Memory.{Memory}
use Rattle.qs_memory.specs.declared.operation.Signedness.TheVariants.{Signed}
use Rattle.qs_memory.specs.declared.operation.Arithmetic.TheVariants.{Subtract}
use Rattle.qs_memory.specs.declared.operation.BinaryOperation.TheVariants.{Arithmetic}
use Rattle.qs_memory.proofs.Options.{some_same}
use Rattle.qs_events.specs.Events.{Calls, Returns}
use Rattle.qs_events.specs.Runs.{Left, has_ended, ending_of}
use Rattle.qs_events.specs.Weights.{Costs, run_weight}
use Rattle.qs_calls.specs.World.{World}
use Rattle.qs_calls.specs.declared.callee.Callee.TheVariants.{Function}
use Rattle.qs_calls.specs.declared.parameter.Parameter.TheVariants.{Plain}
use Rattle.qs_isa.specs.Table.{decode_of}
use Rattle.qs_asm.specs.Assembly.{assembled, label_offset, IsAssembly}
use Rattle.qs_asm.proofs.AssemblyLaws.{assembly}
use Rattle.qs_image.specs.Image.{Image}
use Rattle.qs_image.specs.declared.version.Version.TheVariants.{Second}
use Rattle.qs_machine.specs.State.{register}
use Rattle.qs_machine.specs.Run.{Exited, machine}
use Rattle.qs_tac.specs.Trees.{InstructionTree, binary, call, return, TacFunctionTree, TacUnitTree}
use Rattle.qs_tac.specs.declared.operands.Operand.TheVariants.{Integer, Constant}
use Rattle.qs_tac.specs.Holders.{is_saved_register}
use Rattle.qs_tac.specs.Places.{PlacesTree, all_slots, Accepted, own_slots, no_places}
use Rattle.qs_frames.specs.Layout.{keeps_return_address, frame_cost}
use Rattle.qs_emit_selection.specs.Pieces.{is_small, low_part, high_part, is_near}
use Rattle.qs_emit_selection.specs.Laws.{HasFewArguments}
use Rattle.qs_emit_selection.specs.Units.{selected}
use Rattle.qs_emit.specs.Machine.{Room, Watched}
use Rattle.qs_emit.specs.Lies.{number_at, AreBytes, StandsFor, nobody}
use Rattle.qs_emit.specs.Surroundings.{Surroundings, Lay, ground, HasBlocks}
use Rattle.qs_emit.specs.Relation.{cost_at, function_at, IsEmittable}
use Rattle.qs_emit.specs.Images.{IsFirstMemory, record_at, AreCosts, function_address, IsImageOf, IsWithinLimits}
use Rattle.qs_emit.specs.Emitted.{AreSurroundings, start_run, IsInteger, MayStart, Emitted}
use Rattle.qs_emit.specs.Entries.{argument_word, IsEntry}
use Rattle.qs_emit.proofs.Passes.{all_short}
use Rattle.qs_emit.proofs.ImageLaws.{images_follow}

abbrev difference : TacFunctionTree
difference = record {
  parameters = Plain 0 ∷ Plain 1 ∷ Plain 2 ∷ Plain 3 ∷ Plain 4 ∷ Plain 5 ∷ Plain 6 ∷ Plain 7 ∷ Plain 8 ∷ [];
  temporaries = 10;
  blocks = [];
  code = binary (Arithmetic Subtract Signed) 9 (Integer 0) (Integer 8) ∷ return (Some (Integer 9)) ∷ [];
}

abbrev main : TacFunctionTree
main = record {
  parameters = [];
  temporaries = 1;
  blocks = [];
  code =
      call (Some 0) (Function (record { 0 = 0 }))
      (Constant 9 ∷ Constant 0 ∷ Constant 0 ∷ Constant 0 ∷ Constant 0 ∷ Constant 0 ∷ Constant 0 ∷ Constant 0 ∷ Constant 2 ∷ [])
      ∷ return (Some (Integer 0)) ∷ [];
}

abbrev unit : TacUnitTree
unit = record { functions = difference ∷ main ∷ []; main = 1; data_blocks = [] }

abbrev places : List PlacesTree
places = all_slots difference ∷ all_slots main ∷ []

abbrev image : Image
image = record {
  version = Second;
  entry = 65536;
  parameters = 0;
  unsigned_set = 0;
  functions = record { name = codes "f"; address = 65548; cost = 48; parameters = Some 9 } ∷ record { name = codes "main"; address = 65620; cost = 16; parameters = Some 0 } ∷ [];
  code = 0x054000ef ∷ 0x00000893 ∷ 0x00000073 ∷ 0xfd010113 ∷ 0x02a12223 ∷ 0x02b12023 ∷ 0x00c12e23 ∷ 0x00d12c23 ∷ 0x00e12a23 ∷ 0x00f12823 ∷ 0x01012623 ∷ 0x01112423 ∷ 0x03012503 ∷ 0x00a12223 ∷ 0x02412503 ∷ 0x00412583 ∷ 0x40b50533 ∷ 0x00a12023 ∷ 0x00012503 ∷ 0x03010113 ∷ 0x00008067 ∷ 0xff010113 ∷ 0x00112223 ∷ 0x00200513 ∷ 0x00a12023 ∷ 0x00900513 ∷ 0x00000593 ∷ 0x00000613 ∷ 0x00000693 ∷ 0x00000713 ∷ 0x00000793 ∷ 0x00000813 ∷ 0x00000893 ∷ 0xf89ff0ef ∷ 0x00a12423 ∷ 0x00812503 ∷ 0x00412083 ∷ 0x01010113 ∷ 0x00008067 ∷ [];
  bytes = [];
}

-- ---- the unit

cost_is : (f : ℕ) → f < 2 → cost_at unit places f ≤ 2 ^ 28
unfolding frame_cost keeps_return_address
cost_is zero h = omega arith
cost_is (suc zero) h = omega arith
cost_is (suc (suc f)) h = absurd (omega (arith, h))

few : (f : ℕ) → length (function_at unit f).parameters ≤ 16
few zero = omega arith
few (suc zero) = omega arith
few (suc (suc f)) = omega arith

few_arguments : (f k : ℕ) (i : InstructionTree) → slice_get (function_at unit f).code k ≡ Some i → HasFewArguments i
few_arguments zero k i e = all_short difference.code refl k i e
few_arguments (suc zero) k i e = all_short main.code refl k i e
few_arguments (suc (suc f)) k i e = all_short [] refl k i e

accepted : (f : ℕ) (g : TacFunctionTree) → slice_get unit.functions f ≡ Some g → Accepted g (slice_index_or places f no_places)
accepted zero g e = let same : difference ≡ g = cc in subst (λ (z : TacFunctionTree). Accepted z (all_slots difference)) same (own_slots refl)
accepted (suc zero) g e = let same : main ≡ g = cc in subst (λ (z : TacFunctionTree). Accepted z (all_slots main)) same (own_slots refl)
accepted (suc (suc f)) g e = cc

emittable : IsEmittable unit places
emittable = record {
  fits = refl;
  places = accepted;
  cost = cost_is;
  parameters = few;
  main_parameters = omega arith;
  arguments = few_arguments;
}

-- ---- its image

no_memory : IsFirstMemory unit []
no_memory = record { blocks = refl; live = λ block lt. absurd (omega (arith, lt)); sound = record { cells = λ block offset live lt. cc } }

code_is : IsAssembly (selected unit places) image.code
unfolding decode_of is_small low_part high_part is_near frame_cost keeps_return_address
code_is = assembly (label_offset (selected unit places)) (selected unit places) (unwrap_or (assembled (selected unit places)) []) image.code (record { each = λ l. refl }) refl refl

address_is : (f : ℕ) → f < 2 → (record_at image f).address ≡ function_address unit places f
unfolding is_small low_part high_part is_near frame_cost keeps_return_address
address_is zero lt = refl
address_is (suc zero) lt = refl
address_is (suc (suc f)) lt = absurd (omega (arith, lt))

same_cost : (f : ℕ) → f < 2 → (record_at image f).cost ≡ cost_at unit places f
unfolding frame_cost keeps_return_address
same_cost zero lt = refl
same_cost (suc zero) lt = refl
same_cost (suc (suc f)) lt = absurd (omega (arith, lt))

is : IsImageOf unit places [] image
is = record {
  code = code_is;
  entry = refl;
  parameters = refl;
  count = refl;
  addresses = address_is;
  costs = same_cost;
  bytes = refl;
}

limits : IsWithinLimits image
limits = record { code = omega arith; bytes = omega arith }

emitted : Emitted unit [] image
emitted = images_follow unit places [] image emittable no_memory is limits

-- ---- from the start

abbrev costs : Costs
costs f = (record_at image f).cost

are_costs : AreCosts image costs
are_costs = record { each = λ f lt. refl }

enough : (n : ℕ) → run_weight costs (start_run unit [] [] [] n) ≤ 64
enough zero = omega arith
enough (suc zero) = omega arith
enough (suc (suc zero)) = omega arith
enough (suc (suc (suc zero))) = omega arith
enough (suc (suc (suc (suc zero)))) = omega arith
enough (suc (suc (suc (suc (suc n))))) = omega arith

returns : (n : ℕ) (left : Left Value Memory) → ending_of (start_run unit [] [] [] n) ≡ has_ended left → IsInteger left.result
returns zero left e = cc
returns (suc zero) left e = cc
returns (suc (suc zero)) left e = cc
returns (suc (suc (suc zero))) left e = cc
returns (suc (suc (suc (suc zero)))) left e = cc
returns (suc (suc (suc (suc (suc n))))) left e = (7, cc)

may : MayStart unit [] costs [] [] 64
may = record { count = refl; words = All-nil (λ word. word < 2 ^ 32); bytes = All-nil (λ byte. byte < 256); most = omega arith; enough = enough; returns = returns }

-- both frames are 64 bytes, and the machine exits with 9 - 2
exits_with_seven : (m : ℕ) × (machine image 64 [] [] m ≡ Exited [] 7)
exits_with_seven = (emitted.start costs [] [] 64 are_costs may).agree.ends 5 (Calls 1 ∷ Calls 0 ∷ Returns 0 ∷ Returns 1 ∷ []) 7 refl

-- ---- as a root

abbrev world : World
world = record { memory = []; input = [] }

-- others make 255 of every byte below x2
abbrev room : Room
room = record { size = 65536; ceiling = 0x7ffffff0; may_change = λ at. false; is_kept = λ at. false; others = λ time memory at. 255 }

abbrev there : Surroundings
there = record {
  image = image;
  room = room;
  costs = costs;
  return_to = 12344;
  root_registers = λ r. 12344;
  first = 0;
  addresses = λ block. 0;
}

abbrev lay : Lay
lay = record { address_of = λ block. 0; owner = λ at. nobody }

-- the word at x2 is 2
abbrev flat : ℕ → ℕ
flat at = if at == 0x7ffffff0 then 2 else 0

abbrev entered : Watched
entered = record {
  now = record { pc = 65548; registers = λ r. if r == 2 then 0x7ffffff0 else 12344; memory = flat; input = []; output = [] };
  low = 0x7ffffff0;
  time = 5;
}

abbrev arguments : List Value
arguments =
    integer 12344 ∷ integer 12344 ∷ integer 12344 ∷ integer 12344 ∷ integer 12344 ∷ integer 12344 ∷ integer 12344 ∷ integer 12344
    ∷ integer 2 ∷ []

ninth_word : argument_word entered.now 8 ≡ 2
unfolding number_at
ninth_word = refl

stands : (u v : Value) (word : ℕ) → Some u ≡ Some v → StandsFor [] lay.address_of u word → StandsFor [] lay.address_of v word
stands u v word e h = subst (λ (z : Value). StandsFor [] lay.address_of z word) (some_same u v e) h

arguments_in : (i : ℕ) (v : Value) → slice_get arguments i ≡ Some v → StandsFor [] lay.address_of v (argument_word entered.now i)
arguments_in zero v e = stands (integer 12344) v 12344 e (refl, omega arith)
arguments_in (suc zero) v e = stands (integer 12344) v 12344 e (refl, omega arith)
arguments_in (suc (suc zero)) v e = stands (integer 12344) v 12344 e (refl, omega arith)
arguments_in (suc (suc (suc zero))) v e = stands (integer 12344) v 12344 e (refl, omega arith)
arguments_in (suc (suc (suc (suc zero)))) v e = stands (integer 12344) v 12344 e (refl, omega arith)
arguments_in (suc (suc (suc (suc (suc zero))))) v e = stands (integer 12344) v 12344 e (refl, omega arith)
arguments_in (suc (suc (suc (suc (suc (suc zero)))))) v e = stands (integer 12344) v 12344 e (refl, omega arith)
arguments_in (suc (suc (suc (suc (suc (suc (suc zero))))))) v e = stands (integer 12344) v 12344 e (refl, omega arith)
arguments_in (suc (suc (suc (suc (suc (suc (suc (suc zero)))))))) v e = stands (integer 2) v (argument_word entered.now 8) e (ninth_word, omega arith)
arguments_in (suc (suc (suc (suc (suc (suc (suc (suc (suc i))))))))) v e = cc

surroundings : AreSurroundings unit image there
surroundings = record {
  here = refl;
  costs = are_costs;
  stack = omega arith;
  ceiling = omega arith;
  others = λ time flat bytes at. omega arith;
  return_aligned = refl;
  return_word = omega arith;
  data_there = omega arith;
  data_lie = λ block lt. absurd (omega (arith, lt));
}

blocks : HasBlocks there (ground [] lay flat) 0x7ffffff0
blocks = record {
  lies = record { owned = λ block offset live lt. cc; holds = λ block offset live lt. cc; aligned = λ block live. refl };
  in_reach = λ block live. cc;
  old = λ block lt. absurd (omega (arith, lt));
  made = omega arith;
}

saved : (r : ℕ) → is_saved_register r ≡ true → (entered.now.registers r ≡ 12344) × (entered.now.registers r < 2 ^ 32)
saved r h =
    let other : (r == 2) ≡ false = grind (arith, nat_tests, h) in
    let e : entered.now.registers r ≡ 12344 = rw other refl in
    (e, omega (arith, e))

bytes : AreBytes flat
bytes at = by (at == 0x7ffffff0)
  where
    by : (b : Bool) → (if b then 2 else 0) < 2 ^ 8
    by true = omega arith
    by false = omega arith

entry : IsEntry unit there (record_at image 0).address 0 arguments world lay entered
entry = record {
  known = omega arith;
  pc = refl;
  return_address = refl;
  x2 = refl;
  aligned = refl;
  low = refl;
  count = refl;
  arguments_in = arguments_in;
  arguments_below = omega arith;
  blocks = blocks;
  first = refl;
  saved = saved;
  input = refl;
  input_bytes = All-nil (λ byte. byte < 256);
  bytes = bytes;
}

-- it comes back with 12344 - 2 in a0, whatever others do
comes_back : (to : Watched) × ((to.now.pc ≡ 12344) × (register to.now 10 ≡ 12342))
comes_back =
    let r = emitted.functions there 0 arguments world lay entered 3 surroundings entry (omega arith) in
    (r.to, (r.pc, r.result.0))
