-- What a task touches rests in the data while none of its activations runs: an entry finds it there, and a return leaves it so.
use Rattle.std.proofs.Common.{◌≡◌, inr, ⊎_elim, ℕ, ◌+◌, ◌%◌, ◌≤◌, ◌<◌, Bool, true, false, length, refl, sym, ap, ◌∙◌, subst, arith}
use Rattle.std.specs.Prelude.{nat_lt, if◌then◌else◌}
use Rattle.std.proofs.lemmas.Bool.Decides.{nat_tests}
use Rattle.std.proofs.lemmas.Bool.{and_from}
use Rattle.qs_memory.specs.Values.{Pointer, null, into}
use Rattle.qs_memory.specs.Memory.{Cell, unset, byte, part, Block, Memory, block_at}
use Rattle.qs_memory.specs.Soundness.{IsLive}
use Rattle.qs_machine.specs.State.{stack_base, stack_limit}
use Rattle.qs_machine.specs.Run.{start_memory}
use Rattle.qs_emit.specs.Machine.{Room}
use Rattle.qs_emit.specs.Lies.{StandsForPointer, Holds, Owner, Lies, IsInData}
use Rattle.qs_emit.specs.Surroundings.{Surroundings, Lay, ground, HasBlocks}
use Rattle.qs_emit.specs.Emitted.{data_lay}
use Rattle.qs_tasks.specs.Alone.{Program, costs_of}
use Rattle.qs_tasks.specs.Isolated.{IsPartOf}
use Rattle.qs_tasks.specs.Safe.{AreTasks}
use Rattle.qs_tasks.proofs.WhoseBytes.{lives, can_change, chosen_bytes, live_there, part_live}
use Rattle.qs_tasks.proofs.Setting.{place_of, has_byte, changes_byte, room, begins, data_low}
use Rattle.qs_tasks.proofs.Among.{nobody}

-- ---- other addresses, the same for live blocks

module _ (m : Memory) (a b : ℕ → ℕ) (same : (block : ℕ) → IsLive m block → b block ≡ a block) where
  pointer_relaid : (q : Pointer) (word : ℕ) → StandsForPointer m a q word → StandsForPointer m b q word
  pointer_relaid null word h = h
  pointer_relaid (into block offset) word h = record { made = h.made; is = λ live. h.is live ∙ ap (λ (n : ℕ). n + offset) (sym (same block live)); inside = h.inside }

  cell_relaid : (cell : Cell) (held : ℕ) → Holds m a cell held → Holds m b cell held
  cell_relaid unset held h = h
  cell_relaid (byte n) held h = h
  cell_relaid (part q k) held h = record { word = h.word; stands = pointer_relaid q h.word h.stands; is = h.is }

  pub lies_relaid : (owner : ℕ → Owner) (flat : ℕ → ℕ) → Lies m a owner flat → Lies m b owner flat
  lies_relaid owner flat h = record {
    owned = λ block offset live lt. ap (λ (n : ℕ). owner (n + offset)) (same block live) ∙ h.owned block offset live lt;
    holds = λ block offset live lt. cell_relaid ((block_at m block).cells offset) (flat (b block + offset)) (subst (λ (n : ℕ). Holds m a ((block_at m block).cells offset) (flat (n + offset))) (sym (same block live)) (h.holds block offset live lt));
    aligned = λ block live. ap (λ (n : ℕ). n % 4) (same block live) ∙ h.aligned block live;
  }

-- ---- a part of a memory lies where the whole does

module _ (whole some : Memory) (h : IsPartOf whole some) where
  pointer_of_part : (address_of : ℕ → ℕ) (q : Pointer) (word : ℕ) → StandsForPointer whole address_of q word → StandsForPointer some address_of q word
  pointer_of_part address_of null word s = s
  pointer_of_part address_of (into block offset) word s =
      let n = h.count in
      let made = s.made in
      record {
        made = omega (arith, n, made);
        is = λ live. s.is (part_live whole some h block live);
        inside = λ live. let inside = s.inside (part_live whole some h block live) in let size = ap (λ (b : Block). b.size) (h.blocks block live) in omega (arith, inside, size);
      }

  cell_of_part : (address_of : ℕ → ℕ) (cell : Cell) (held : ℕ) → Holds whole address_of cell held → Holds some address_of cell held
  cell_of_part address_of unset held s = s
  cell_of_part address_of (byte n) held s = s
  cell_of_part address_of (part q k) held s = record { word = s.word; stands = pointer_of_part address_of q s.word s.stands; is = s.is }

  pub lies_part : (address_of : ℕ → ℕ) (owner : ℕ → Owner) (flat : ℕ → ℕ) → Lies whole address_of owner flat → Lies some address_of owner flat
  lies_part address_of owner flat l = record {
    owned = λ block offset live lt. let size = ap (λ (b : Block). b.size) (h.blocks block live) in l.owned block offset (part_live whole some h block live) (omega (arith, lt, size));
    holds = λ block offset live lt.
        let size = ap (λ (b : Block). b.size) (h.blocks block live) in
        let cell = ap (λ (b : Block). b.cells offset) (h.blocks block live) in
        subst (λ (c : Cell). Holds some address_of c (flat (address_of block + offset))) (sym cell)
        (cell_of_part address_of ((block_at whole block).cells offset) (flat (address_of block + offset)) (l.holds block offset (part_live whole some h block live) (omega (arith, lt, size))));
    aligned = λ block live. l.aligned block (part_live whole some h block live);
  }

module _ (p : Program) (task : ℕ) where
  -- no activation of the task runs: its live blocks lie in the data, and none at an address of the stack
  pub record Rests (m : Memory) (flat : ℕ → ℕ) : Type 0 where
    pub lay : Lay
    pub lies : Lies m lay.address_of lay.owner flat
    pub in_data : (block : ℕ) → IsLive m block → IsInData p.system.image (room p task 0 nobody) (block_at m block) (lay.address_of block)
    pub placed : (block : ℕ) → block < length p.unit.data_blocks → lay.address_of block ≡ place_of p block
    pub below : (block : ℕ) → block < length m → lay.address_of block < stack_base p.system.size
    pub enough : length p.unit.data_blocks ≤ length m

  in_data_of : (r : Room) → r.is_kept ≡ has_byte p task → r.may_change ≡ changes_byte p task → (b : Block) (from : ℕ) → IsInData p.system.image (room p task 0 nobody) b from → IsInData p.system.image r b from
  in_data_of r k c b from h = record {
    above = h.above;
    below = h.below;
    kept = λ at lo hi. ap (λ (f : ℕ → Bool). f at) k ∙ h.kept at lo hi;
    changed = λ w at lo hi. ap (λ (f : ℕ → Bool). f at) c ∙ h.changed w at lo hi;
  }

  in_data_from : (r : Room) → r.is_kept ≡ has_byte p task → r.may_change ≡ changes_byte p task → (b : Block) (from : ℕ) → IsInData p.system.image r b from → IsInData p.system.image (room p task 0 nobody) b from
  in_data_from r k c b from h = record {
    above = h.above;
    below = h.below;
    kept = λ at lo hi. ap (λ (f : ℕ → Bool). f at) (sym k) ∙ h.kept at lo hi;
    changed = λ w at lo hi. ap (λ (f : ℕ → Bool). f at) (sym c) ∙ h.changed w at lo hi;
  }

  -- ---- others leave it alone

  pub rests_on : (m : Memory) (flat later : ℕ → ℕ) → Rests m flat → ((at : ℕ) → has_byte p task at ≡ true → later at ≡ flat at) → Rests m later
  rests_on m flat later h same = record {
    lay = h.lay;
    lies = record {
      owned = h.lies.owned;
      holds = λ block offset live lt.
          let i = h.in_data block live in
          let e = same (h.lay.address_of block + offset) (i.kept (h.lay.address_of block + offset) (omega arith) (omega (arith, lt))) in
          subst (λ (x : ℕ). Holds m h.lay.address_of ((block_at m block).cells offset) x) (sym e) (h.lies.holds block offset live lt);
      aligned = h.lies.aligned;
    };
    in_data = h.in_data;
    placed = h.placed;
    below = h.below;
    enough = h.enough;
  }

  -- ---- an activation begins

  -- what it finds: it returns to 0, with the saved registers as they stand
  abbrev pub around : (others : ℕ → (ℕ → ℕ) → ℕ → ℕ) (ceiling : ℕ) (registers : ℕ → ℕ) → Memory → Lay → Surroundings
  around others ceiling registers m l = record {
    image = p.system.image;
    room = room p task ceiling others;
    costs = costs_of p.system.image;
    return_to = 0;
    root_registers = registers;
    first = length m;
    addresses = l.address_of;
  }

  module _ (others : ℕ → (ℕ → ℕ) → ℕ → ℕ) (ceiling : ℕ) (registers : ℕ → ℕ) (m : Memory) (flat : ℕ → ℕ) (h : Rests m flat) where
    pub finds : HasBlocks (around others ceiling registers m h.lay) (ground m h.lay flat) ceiling
    finds = record {
      lies = h.lies;
      in_reach = λ block live. inr (in_data_of (room p task ceiling others) refl refl (block_at m block) (h.lay.address_of block) (h.in_data block live));
      old = λ block lt. refl;
      made = omega arith;
    }

    -- ---- and returns

    module _ (left : Memory) (l : Lay) (later : ℕ → ℕ) (back : HasBlocks (around others ceiling registers m h.lay) (ground left l later) ceiling) (only_old : (block : ℕ) → IsLive left block → block < length m) (in_stack : stack_base p.system.size ≤ ceiling) (some : 0 < stack_base p.system.size) where
      -- blocks that were made since are dead, and are laid at 0
      abbrev address_of : ℕ → ℕ
      address_of block = if nat_lt block (length m) then l.address_of block else 0

      old_same : (block : ℕ) → block < length m → address_of block ≡ l.address_of block
      old_same block lt = let t : nat_lt block (length m) ≡ true = grind (arith, nat_tests, lt) in rw t refl

      live_same : (block : ℕ) → IsLive left block → address_of block ≡ l.address_of block
      live_same block live = old_same block (only_old block live)

      in_data : (block : ℕ) → IsLive left block → IsInData p.system.image (room p task 0 nobody) (block_at left block) (address_of block)
      in_data block live =
          let there = l.address_of block in
          let lt = only_old block live in
          let old : there ≡ h.lay.address_of block = back.old block lt in
          let low = h.below block lt in
          subst (λ (n : ℕ). IsInData p.system.image (room p task 0 nobody) (block_at left block) n) (sym (live_same block live))
          (⊎_elim (λ s. let above = s.above in absurd (omega (arith, above, old, low, in_stack))) (λ i. in_data_from (room p task ceiling others) refl refl (block_at left block) there i) (back.in_reach block live))

      below_by : (block : ℕ) (b : Bool) → nat_lt block (length m) ≡ b → (if b then l.address_of block else 0) < stack_base p.system.size
      below_by block true e = let lt : block < length m = grind (arith, nat_tests, e) in let old = back.old block lt in let low = h.below block lt in omega (arith, old, low)
      below_by block false e = some

      pub rests_again : Rests left later
      rests_again =
          let made = back.made in
          let enough = h.enough in
          record {
            lay = record { address_of = address_of; owner = l.owner };
            lies = lies_relaid left l.address_of address_of live_same l.owner later back.lies;
            in_data = in_data;
            placed = λ block lt. old_same block (omega (arith, lt, enough)) ∙ back.old block (omega (arith, lt, enough)) ∙ h.placed block lt;
            below = λ block lt. below_by block (nat_lt block (length m)) refl;
            enough = omega (arith, enough, made);
          }

  -- ---- at the start

  module _ (are : AreTasks p) (small : p.system.size ≤ stack_limit) (there : task < length p.system.tasks) where
    abbrev mine : Memory
    mine = p.memory_of task

    abbrev some_of : IsPartOf p.first mine
    some_of = are.parts task there

    begins_in_data : (block : ℕ) → IsLive mine block → IsInData p.system.image (room p task 0 nobody) (block_at mine block) (place_of p block)
    begins_in_data block live =
        let lt = live_there mine block live in
        let n = some_of.count in
        let b = begins p are in
        let size = ap (λ (c : Block). c.size) (some_of.blocks block live) in
        let below = b.below block (omega (arith, lt, n)) in
        let z : 0 + block ≡ block = omega arith in
        record {
          above = b.above block (omega (arith, lt, n));
          below = omega (arith, below, size);
          kept = λ at lo hi. chosen_bytes (place_of p) lives 0 mine block at lt live (subst (λ (k : ℕ). place_of p k ≤ at) (sym z) lo) (subst (λ (k : ℕ). at < place_of p k + (block_at mine block).size) (sym z) hi);
          changed = λ w at lo hi. chosen_bytes (place_of p) can_change 0 mine block at lt (and_from (block_at mine block).is_live (block_at mine block).is_writable live w) (subst (λ (k : ℕ). place_of p k ≤ at) (sym z) lo) (subst (λ (k : ℕ). at < place_of p k + (block_at mine block).size) (sym z) hi);
        }

    begins_below : (block : ℕ) → block < length mine → place_of p block < stack_base p.system.size
    begins_below block lt =
        let n = some_of.count in
        let below = (begins p are).below block (omega (arith, lt, n)) in
        let few = are.well_formed.byte_count in
        let low = data_low p are small in
        omega (arith, below, few, low)

    pub rests_first : Rests mine (start_memory p.system.image)
    rests_first =
        let b = begins p are in
        let n = some_of.count in
        let same = b.count in
        record {
          lay = data_lay p.unit p.first;
          lies = lies_part p.first mine some_of (data_lay p.unit p.first).address_of (data_lay p.unit p.first).owner (start_memory p.system.image) b.lies;
          in_data = begins_in_data;
          placed = λ block lt. refl;
          below = begins_below;
          enough = omega (arith, n, same);
        }
