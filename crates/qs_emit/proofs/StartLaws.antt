-- The machine at the start of an image: main's arguments in the registers, and the memory to start from in the data.
use Rattle.std.proofs.Common.{◌≡◌, inr, ℕ, ◌+◌, ◌-◌, ◌^◌, ◌<◌, ◌≤◌, true, false, List, length, Option, Some, None, refl, sym, ap, ◌∙◌, subst, arith}
use Rattle.std.specs.Prelude.{◌&&◌, ◌==◌, nat_le, map, slice_get, slice_index}
use Rattle.std.specs.Option.{option_map}
use Rattle.std.proofs.lemmas.Bool.Decides.{nat_tests}
use Rattle.std.proofs.lemmas.List.{length-map}
use Rattle.std.proofs.lemmas.List.Elements.{All-get_or}
use Rattle.std.proofs.lemmas.Option.{slice_get_within, slice_get-map, get_or_from_slice_get}
use Rattle.qs_memory.specs.Values.{Value, integer}
use Rattle.qs_memory.specs.Memory.{Memory, block_at}
use Rattle.qs_memory.specs.Soundness.{IsLive}
use Rattle.qs_memory.proofs.BlockLaws.{live_known}
use Rattle.qs_events.specs.Weights.{Costs}
use Rattle.qs_calls.specs.World.{World}
use Rattle.qs_isa.specs.Addresses.{code_start}
use Rattle.qs_isa.specs.Registers.{a0}
use Rattle.qs_image.specs.Image.{Image}
use Rattle.qs_machine.specs.State.{register, stack_top}
use Rattle.qs_machine.specs.Run.{start_registers, start_memory, start}
use Rattle.qs_tac.specs.Trees.{TacUnitTree}
use Rattle.qs_tac.specs.Places.{PlacesTree}
use Rattle.qs_tac.specs.Holders.{is_saved_register}
use Rattle.qs_emit.specs.Machine.{Room, Watched}
use Rattle.qs_emit.specs.Lies.{StandsFor, IsInReach}
use Rattle.qs_emit.specs.Surroundings.{Surroundings, Lay, ground, HasBlocks}
use Rattle.qs_emit_selection.specs.Data.{data_address}
use Rattle.qs_emit.specs.Relation.{IsEmittable, Setup, around}
use Rattle.qs_emit.specs.Started.{IsStart}
use Rattle.qs_emit.specs.Images.{IsFirstMemory, AreCosts, IsImageOf, IsWithinLimits}
use Rattle.qs_emit.specs.Emitted.{AreSurroundings, data_lay, Begins, MayStart}
use Rattle.qs_emit.proofs.BeginLaws.{begins}
use Rattle.qs_emit.proofs.SetUp.{set_up}

-- ---- the start

-- nobody changes anything, and every byte is kept
abbrev pub quiet_room : (size : ℕ) → Room
quiet_room size = record { size = size; ceiling = stack_top; may_change = λ at. true; is_kept = λ at. true; others = λ time memory. memory }

module _ (u : TacUnitTree) (ps : List PlacesTree) (first : Memory) (image : Image) (emittable : IsEmittable u ps) (memory : IsFirstMemory u first) (is : IsImageOf u ps first image) (limits : IsWithinLimits image) (costs : Costs) (args input : List ℕ) (size : ℕ) (are : AreCosts image costs) (may : MayStart u first costs args input size) where
  abbrev pub there : Surroundings
  there = record {
    image = image;
    room = quiet_room size;
    costs = costs;
    return_to = code_start + 4;
    root_registers = start_registers args;
    first = length first;
    addresses = data_address u.data_blocks;
  }

  at_the_start : Begins u first image
  at_the_start = begins u ps first image memory is limits

  pub surround : AreSurroundings u image there
  surround = record {
    here = refl;
    costs = are;
    stack = may.most;
    ceiling = omega arith;
    others = λ time flat h. h;
    return_aligned = refl;
    return_word = omega arith;
    data_there = let c = at_the_start.count in omega (arith, c);
    data_lie = λ block lt. refl;
  }

  abbrev pub begun : Setup
  begun = set_up u ps first there emittable memory is limits surround

  abbrev pub world : World
  world = record { memory = first; input = input }

  abbrev pub lay : Lay
  lay = data_lay u first

  abbrev pub at_start : Watched
  at_start = record { now = start image args input; low = stack_top; time = 0 }

  -- ---- registers

  few : length args ≤ 8
  few = let c = may.count in let p = emittable.main_parameters in omega (arith, c, p)

  argument_in : (i x : ℕ) → slice_get args i ≡ Some x → (register (start image args input) (a0 + i) ≡ x) × (x < 2 ^ 32)
  argument_in i x e =
      let lt = slice_get_within args i x e in
      let le = few in
      let is_there : slice_index args i ≡ x = get_or_from_slice_get args i x 0 e in
      let zero_not : (10 + i == 0) ≡ false = grind (arith, nat_tests) in
      let two_not : (10 + i == 2) ≡ false = grind (arith, nat_tests) in
      let inside : (nat_le 10 (10 + i) && nat_le (10 + i) 17) ≡ true = grind (arith, nat_tests, lt, le) in
      let at : 10 + i - 10 ≡ i = omega arith in
      let small = All-get_or (λ (word : ℕ). word < 2 ^ 32) args i 0 lt may.words in
      (rw (zero_not, two_not, inside, at) is_there, omega (arith, is_there, small))

  arguments_in : (i : ℕ) (v : Value) → slice_get (map integer args) i ≡ Some v → StandsFor first lay.address_of v (register (start image args input) (a0 + i))
  arguments_in i v e = by (slice_get args i) refl
    where
      by : (o : Option ℕ) → slice_get args i ≡ o → StandsFor first lay.address_of v (register (start image args input) (a0 + i))
      by None n = let none : None ≡ Some v = sym (slice_get-map integer args i ∙ ap (option_map integer) n) ∙ e in cc
      by (Some x) n =
          let some : Some (integer x) ≡ Some v = sym (slice_get-map integer args i ∙ ap (option_map integer) n) ∙ e in
          let same : integer x ≡ v = cc in
          subst (λ (y : Value). StandsFor first lay.address_of y (register (start image args input) (a0 + i))) same (argument_in i x n)

  saved_zero : (r : ℕ) → is_saved_register r ≡ true → start_registers args r ≡ 0
  saved_zero r h =
      let two_not : (r == 2) ≡ false = grind (arith, nat_tests, h) in
      let outside : (nat_le 10 r && nat_le r 17) ≡ false = grind (arith, nat_tests, h) in
      rw (two_not, outside) refl

  saved : (r : ℕ) → is_saved_register r ≡ true → (start_registers args r ≡ start_registers args r) × (start_registers args r < 2 ^ 32)
  saved r h = let e = saved_zero r h in (refl, omega (arith, e))

  -- ---- blocks

  in_reach : (b : ℕ) → IsLive first b → IsInReach image (quiet_room size) stack_top (block_at first b) (lay.address_of b)
  in_reach b live =
      let known = live_known first b live in
      inr (record { above = at_the_start.above b known; below = at_the_start.below b known; kept = λ at lo hi. refl; changed = λ writable at lo hi. refl })

  blocks : HasBlocks (around begun) (ground first lay (start_memory image)) stack_top
  blocks = record {
    lies = at_the_start.lies;
    in_reach = in_reach;
    old = λ b lt. refl;
    made = omega arith;
  }

  pub starts : IsStart begun (map integer args) world lay at_start
  starts = record {
    pc = is.entry;
    return_to = refl;
    x2 = refl;
    aligned = refl;
    low = refl;
    count = length-map args integer ∙ may.count;
    arguments_in = arguments_in;
    blocks = blocks;
    first = refl;
    saved = saved;
    input = refl;
    input_bytes = may.bytes;
    bytes = at_the_start.bytes;
  }
