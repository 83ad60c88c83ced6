-- What tasks run in: their parts of the data, and the stack.
use Rattle.std.proofs.Common.{◌≡◌, ℕ, ◌+◌, ◌%◌, ◌^◌, ◌≤◌, ◌<◌, Bool, true, false, length, refl, sym, ap, ◌∙◌, arith}
use Rattle.std.specs.Prelude.{None}
use Rattle.qs_isa.specs.Addresses.{data_start}
use Rattle.qs_image.specs.Image.{Image, IsAddress}
use Rattle.qs_image.specs.Limits.{most_code_words, most_data_bytes}
use Rattle.qs_memory.specs.Memory.{Block, block_at}
use Rattle.qs_machine.specs.State.{State, stack_base, stack_top, stack_limit}
use Rattle.qs_machine.specs.Step.{Next, fetch, step_on, step}
use Rattle.qs_emit_selection.specs.Data.{data_address}
use Rattle.qs_emit.specs.Machine.{Room}
use Rattle.qs_emit.specs.Images.{no_record}
use Rattle.qs_emit.specs.Emitted.{Begins}
use Rattle.qs_tasks_run.specs.Contexts.{context_bytes}
use Rattle.qs_tasks_run.specs.TasksRun.{entry_of, priority_of}
use Rattle.qs_tasks.specs.Alone.{Program, function_of, AreDefined}
use Rattle.qs_tasks.specs.Safe.{AreTasks}
use Rattle.qs_tasks.proofs.WhoseBytes.{bytes_of, lives, can_change, owner_in_whole, live_lives, live_can_change, live_there, kept_unchanged}

module _ (p : Program) where
  abbrev pub image : Image
  image = p.system.image

  abbrev pub size : ℕ
  size = p.system.size

  -- the least address of the stack
  abbrev pub bottom : ℕ
  bottom = stack_base p.system.size

  abbrev pub count : ℕ
  count = length p.system.tasks

  -- where the image has the blocks of its data
  abbrev pub place_of : (block : ℕ) → ℕ
  place_of = data_address p.unit.data_blocks

  -- the data bytes of what a task touches, and those of them that it may change
  abbrev pub has_byte : (task at : ℕ) → Bool
  has_byte task = bytes_of place_of lives 0 (p.memory_of task)

  abbrev pub changes_byte : (task at : ℕ) → Bool
  changes_byte task = bytes_of place_of can_change 0 (p.memory_of task)

  -- what an activation is given below a ceiling
  abbrev pub room : (task ceiling : ℕ) → (others : ℕ → (ℕ → ℕ) → ℕ → ℕ) → Room
  room task ceiling others = record {
    size = p.system.size;
    ceiling = ceiling;
    may_change = changes_byte task;
    is_kept = has_byte task;
    others = others;
  }

  -- each of as many activations as `times` says is defined, and takes at most the bound
  pub record IsWork (bound times : ℕ → ℕ) : Type 0 where
    pub tasks : AreTasks p
    pub known : (task : ℕ) → 0 < times task → task < length p.system.tasks
    pub alone : (task : ℕ) → AreDefined p task (times task) (bound task)
    pub most : p.system.size ≤ stack_limit

  -- the bytes of the stack below which the activations of a priority lie: each level has room for one, and for a context
  pub record HasRoom (bound times : ℕ → ℕ) (below : (priority : ℕ) → ℕ) : Type 0 where
    pub level :
        (task : ℕ) → 0 < times task
        → below (priority_of p.system task) + (bound task + context_bytes) ≤ below (priority_of p.system task + 1)
    pub grows : (low high : ℕ) → low ≤ high → below low ≤ below high
    pub fits : (task : ℕ) → 0 < times task → stack_base p.system.size + below (priority_of p.system task + 1) ≤ stack_top

  module _ (are : AreTasks p) where
    abbrev pub begins : Begins p.unit p.first p.system.image
    begins = are.emitted.begins

    code_short : length p.system.image.code ≤ most_code_words
    code_short = are.well_formed.code_count.1

    pub short : length p.system.image.code ≤ most_code_words
    short = code_short

    -- ---- the data lie below the stack

    data_below : (block : ℕ) → block < length p.first → place_of block + (block_at p.first block).size ≤ data_start + most_data_bytes
    data_below block lt = let b = begins.below block lt in let n = are.well_formed.byte_count in omega (arith, b, n)

    module _ (small : p.system.size ≤ stack_limit) where
      pub data_low : data_start + most_data_bytes ≤ stack_base p.system.size
      data_low = omega (arith, small)

      chosen_below : (task at : ℕ) (chosen : Block → Bool) (only_live : (b : Block) → chosen b ≡ true → b.is_live ≡ true) → task < count → bytes_of place_of chosen 0 (p.memory_of task) at ≡ true → at < stack_base p.system.size
      chosen_below task at chosen only_live lt e =
          let o = owner_in_whole place_of p.first (p.memory_of task) (are.parts task lt) chosen only_live at e in
          let hi = o.to in
          let end = data_below o.block (live_there p.first o.block o.live) in
          let low = data_low in
          omega (arith, hi, end, low)

      pub kept_below : (task at : ℕ) → task < count → has_byte task at ≡ true → at < stack_base p.system.size
      kept_below task at lt e = chosen_below task at lives live_lives lt e

      pub changed_below : (task at : ℕ) → task < count → changes_byte task at ≡ true → at < stack_base p.system.size
      changed_below task at lt e = chosen_below task at can_change live_can_change lt e

    -- no task changes what another touches
    pub isolated : (task other : ℕ) → task < count → other < count → (task ≡ other → ⊥) → (at : ℕ) → has_byte task at ≡ true → changes_byte other at ≡ false
    isolated task other a b ne at e =
        kept_unchanged place_of p.first (p.memory_of task) (p.memory_of other) (are.parts task a) (are.parts other b) begins.apart (are.isolated task other a b ne) at e

    -- ---- entries

    entry_address : (task : ℕ) → task < count → IsAddress (length p.system.image.code) (entry_of p.system task)
    entry_address task lt =
        let known = are.known task lt in
        let same = are.emitted.count in
        are.well_formed.addresses (function_of p task) no_record (omega (arith, known, same))

    pub entry_aligned : (task : ℕ) → task < count → entry_of p.system task % 4 ≡ 0
    entry_aligned task lt = let a = entry_address task lt in let e = a.at in omega (arith, e)

    pub entry_small : (task : ℕ) → task < count → entry_of p.system task < 2 ^ 32
    entry_small task lt =
        let a = entry_address task lt in
        let e = a.at in
        let below = a.below in
        let few = code_short in
        omega (arith, e, below, few)

-- ---- nothing stands at 0

pub nothing_at_0 : (image : Image) (size : ℕ) (s next : State) → s.pc ≡ 0 → step image size s ≡ Next next → ⊥
nothing_at_0 image size s next pc e =
    let at : step image size s ≡ step_on image size s (fetch image 0) = ap (λ (n : ℕ). step_on image size s (fetch image n)) pc in
    let traps : fetch image 0 ≡ None = refl in
    let z = sym (at ∙ ap (step_on image size s) traps) ∙ e in
    cc
