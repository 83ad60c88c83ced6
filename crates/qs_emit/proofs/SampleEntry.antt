-- The sample's function, entered while its pointer goes into a released block and others change all that isn't its own: the
-- premises of the law of functions can be met.
use Rattle.std.proofs.Common.{◌≡◌, inr, ℕ, zero, suc, ◌+◌, ◌*◌, ◌-◌, ◌^◌, ◌<◌, ◌≤◌, Bool, true, false, [], ◌∷◌, refl, subst, arith}
use Rattle.std.specs.Prelude.{◌==◌, ◌&&◌, nat_le, nat_lt, if◌then◌else◌, slice_index_or}
use Rattle.std.proofs.lemmas.Bool.Decides.{nat_tests}
use Rattle.std.proofs.lemmas.List.Elements.{All-nil, All-cons}
use Rattle.qs_memory.specs.Values.{into}
use Rattle.qs_memory.specs.Memory.{byte, unset, parts_of, Memory, block_at}
use Rattle.qs_memory.specs.Soundness.{IsLive}
use Rattle.qs_calls.specs.World.{World}
use Rattle.qs_machine.specs.State.{register}
use Rattle.qs_tac.specs.Holders.{is_saved_register}
use Rattle.qs_frames.specs.Layout.{rounded}
use Rattle.qs_emit.specs.Machine.{Room, Watched}
use Rattle.qs_emit.specs.Lies.{AreBytes, cell_of, StandsForPointer, Holds, IsInReach}
use Rattle.qs_emit.specs.Surroundings.{Surroundings, Lay, ground, HasBlocks}
use Rattle.qs_emit_selection.specs.Data.{data_address}
use Rattle.qs_emit.specs.Entries.{IsEntry}
use Rattle.qs_emit.specs.Images.{record_at}
use Rattle.qs_emit.specs.Emitted.{AreSurroundings}
use Rattle.qs_emit.proofs.NewFrame.{owner_in, owner_of_block}
use Rattle.qs_emit.proofs.Sample.{unit, image, emitted}

-- the variable has no value, the literal is as it was, and the pointer goes into a block that was released
abbrev memory : Memory
memory =
    record { size = 4; is_live = true; is_writable = true; cells = λ offset. unset }
    ∷ record { size = 3; is_live = true; is_writable = false; cells = λ offset. slice_index_or (byte 104 ∷ byte 105 ∷ byte 0 ∷ []) offset unset }
    ∷ record { size = 4; is_live = true; is_writable = true; cells = λ offset. slice_index_or (parts_of (into 3 1) 0 4) offset unset }
    ∷ record { size = 8; is_live = false; is_writable = true; cells = λ offset. byte 5 }
    ∷ []

abbrev world : World
world = record { memory = memory; input = 65 ∷ [] }

-- others make 255 of every byte below x2 outside of the blocks
abbrev room : Room
room = record {
  size = 65536;
  ceiling = 0x7fffffc0;
  may_change = λ at. nat_le 268435456 at && nat_lt at 268435468;
  is_kept = λ at. nat_le 268435456 at && nat_lt at 268435468;
  others = λ time memory at. 255;
}

abbrev there : Surroundings
there = record {
  image = image;
  room = room;
  costs = λ f. (record_at image f).cost;
  return_to = 12344;
  root_registers = λ r. 12344;
  first = 4;
  addresses = λ block. 268435456 + 4 * block;
}

abbrev lay : Lay
lay = record { address_of = λ block. 268435456 + 4 * block; owner = owner_in (4 ∷ 3 ∷ 4 ∷ []) 0 268435456 }

-- the bytes of the released pointer are any
abbrev flat : ℕ → ℕ
flat at = if nat_lt at 268435456 then 170 else slice_index_or (9 ∷ 9 ∷ 9 ∷ 9 ∷ 104 ∷ 105 ∷ 0 ∷ 77 ∷ 1 ∷ 2 ∷ 3 ∷ 4 ∷ []) (at - 268435456) 170

abbrev entered : Watched
entered = record {
  now = record { pc = 65548; registers = λ r. if r == 2 then 0x7fffffc0 else 12344; memory = flat; input = 65 ∷ []; output = 33 ∷ [] };
  low = 0x7fffffc0;
  time = 5;
}

lies_there : (block : ℕ) → block < 3 → there.addresses block ≡ data_address unit.data_blocks block
unfolding rounded
lies_there zero lt = refl
lies_there (suc zero) lt = refl
lies_there (suc (suc zero)) lt = refl
lies_there (suc (suc (suc block))) lt = absurd (omega (arith, lt))

surroundings : AreSurroundings unit image there
surroundings = record {
  here = refl;
  costs = record { each = λ f lt. refl };
  stack = omega arith;
  ceiling = omega arith;
  others = λ time flat bytes at. omega arith;
  return_aligned = refl;
  return_word = omega arith;
  data_there = omega arith;
  data_lie = lies_there;
}

-- ---- the blocks

owned : (block offset : ℕ) → IsLive memory block → offset < (block_at memory block).size → lay.owner (lay.address_of block + offset) ≡ cell_of block offset
unfolding rounded
owned zero offset live lt = owner_of_block (4 ∷ 3 ∷ 4 ∷ []) 0 268435456 0 offset (omega arith) lt
owned (suc zero) offset live lt = owner_of_block (4 ∷ 3 ∷ 4 ∷ []) 0 268435456 1 offset (omega arith) lt
owned (suc (suc zero)) offset live lt = owner_of_block (4 ∷ 3 ∷ 4 ∷ []) 0 268435456 2 offset (omega arith) lt
owned (suc (suc (suc zero))) offset live lt = cc
owned (suc (suc (suc (suc block)))) offset live lt = cc

-- any word stands for a pointer into a released block
any_word : (word : ℕ) → StandsForPointer memory lay.address_of (into 3 1) word
any_word word = record { made = omega arith; is = λ live. cc; inside = λ live. cc }

holds : (block offset : ℕ) → IsLive memory block → offset < (block_at memory block).size → Holds memory lay.address_of ((block_at memory block).cells offset) (flat (lay.address_of block + offset))
holds zero offset live lt = tt
holds (suc zero) zero live lt = (refl, omega arith)
holds (suc zero) (suc zero) live lt = (refl, omega arith)
holds (suc zero) (suc (suc zero)) live lt = (refl, omega arith)
holds (suc zero) (suc (suc (suc offset))) live lt = absurd (omega (arith, lt))
holds (suc (suc zero)) zero live lt = record { word = 0x04030201; stands = any_word 0x04030201; is = refl }
holds (suc (suc zero)) (suc zero) live lt = record { word = 0x04030201; stands = any_word 0x04030201; is = refl }
holds (suc (suc zero)) (suc (suc zero)) live lt = record { word = 0x04030201; stands = any_word 0x04030201; is = refl }
holds (suc (suc zero)) (suc (suc (suc zero))) live lt = record { word = 0x04030201; stands = any_word 0x04030201; is = refl }
holds (suc (suc zero)) (suc (suc (suc (suc offset)))) live lt = absurd (omega (arith, lt))
holds (suc (suc (suc zero))) offset live lt = cc
holds (suc (suc (suc (suc block)))) offset live lt = cc

in_data : (at : ℕ) → 268435456 ≤ at → at < 268435468 → nat_le 268435456 at && nat_lt at 268435468 ≡ true
in_data at low high = grind (arith, nat_tests, low, high)

in_reach : (block : ℕ) → IsLive memory block → IsInReach image room 0x7fffffc0 (block_at memory block) (lay.address_of block)
in_reach zero live = inr (record { above = omega arith; below = omega arith; kept = λ at low high. in_data at (omega (arith, low)) (omega (arith, high)); changed = λ writable at low high. in_data at (omega (arith, low)) (omega (arith, high)) })
in_reach (suc zero) live = inr (record { above = omega arith; below = omega arith; kept = λ at low high. in_data at (omega (arith, low)) (omega (arith, high)); changed = λ writable. cc })
in_reach (suc (suc zero)) live = inr (record { above = omega arith; below = omega arith; kept = λ at low high. in_data at (omega (arith, low)) (omega (arith, high)); changed = λ writable at low high. in_data at (omega (arith, low)) (omega (arith, high)) })
in_reach (suc (suc (suc zero))) live = cc
in_reach (suc (suc (suc (suc block)))) live = cc

blocks : HasBlocks there (ground memory lay flat) 0x7fffffc0
blocks = record {
  lies = record { owned = owned; holds = holds; aligned = λ block live. omega arith };
  in_reach = in_reach;
  old = λ block lt. refl;
  made = omega arith;
}

-- ---- the entry

saved : (r : ℕ) → is_saved_register r ≡ true → (entered.now.registers r ≡ 12344) × (entered.now.registers r < 2 ^ 32)
saved r h =
    let other : (r == 2) ≡ false = grind (arith, nat_tests, h) in
    let e : entered.now.registers r ≡ 12344 = rw other refl in
    (e, omega (arith, e))

small : (k : ℕ) → slice_index_or (9 ∷ 9 ∷ 9 ∷ 9 ∷ 104 ∷ 105 ∷ 0 ∷ 77 ∷ 1 ∷ 2 ∷ 3 ∷ 4 ∷ []) k 170 < 2 ^ 8
small zero = omega arith
small (suc zero) = omega arith
small (suc (suc zero)) = omega arith
small (suc (suc (suc zero))) = omega arith
small (suc (suc (suc (suc zero)))) = omega arith
small (suc (suc (suc (suc (suc zero))))) = omega arith
small (suc (suc (suc (suc (suc (suc zero)))))) = omega arith
small (suc (suc (suc (suc (suc (suc (suc zero))))))) = omega arith
small (suc (suc (suc (suc (suc (suc (suc (suc zero)))))))) = omega arith
small (suc (suc (suc (suc (suc (suc (suc (suc (suc zero))))))))) = omega arith
small (suc (suc (suc (suc (suc (suc (suc (suc (suc (suc zero)))))))))) = omega arith
small (suc (suc (suc (suc (suc (suc (suc (suc (suc (suc (suc zero))))))))))) = omega arith
small (suc (suc (suc (suc (suc (suc (suc (suc (suc (suc (suc (suc k)))))))))))) = omega arith

bytes : AreBytes flat
bytes at = by (nat_lt at 268435456)
  where
    by : (b : Bool) → (if b then 170 else slice_index_or (9 ∷ 9 ∷ 9 ∷ 9 ∷ 104 ∷ 105 ∷ 0 ∷ 77 ∷ 1 ∷ 2 ∷ 3 ∷ 4 ∷ []) (at - 268435456) 170) < 2 ^ 8
    by true = omega arith
    by false = small (at - 268435456)

entry : IsEntry unit there (record_at image 0).address 0 [] world lay entered
entry = record {
  known = omega arith;
  pc = refl;
  return_address = refl;
  x2 = refl;
  aligned = refl;
  low = refl;
  count = refl;
  arguments_in = λ i v e. cc;
  arguments_below = omega arith;
  blocks = blocks;
  first = refl;
  saved = saved;
  input = refl;
  input_bytes = All-cons (λ byte. byte < 256) 65 [] (omega arith) (All-nil (λ byte. byte < 256));
  bytes = bytes;
}

-- it comes back with 7 in a0, whatever others do
comes_back : (to : Watched) × ((to.now.pc ≡ 12344) × (register to.now 10 ≡ 7))
comes_back =
    let r = emitted.functions there 0 [] world lay entered 4 surroundings entry (omega arith) in
    (r.to, (r.pc, r.result.0))

-- while it goes on, behind its store, the variable's first byte is 7, whatever others do
variable_is_stored : (to : Watched) × (to.now.memory 268435456 ≡ 7)
variable_is_stored =
    let r = emitted.functions there 0 [] world lay entered 2 surroundings entry (omega arith) in
    let there_still = r.blocks.old 0 (omega arith) in
    let at : r.lay.address_of 0 + 0 ≡ 268435456 = omega (arith, there_still) in
    (r.to, subst (λ (address : ℕ). r.to.now.memory address ≡ 7) at (r.blocks.lies.holds 0 0 refl (omega arith)).0)
