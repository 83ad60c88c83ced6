-- A system of two tasks that preempt each other, computed from the definitions.
use Rattle.std.proofs.Common.{◌≡◌, ℕ, zero, suc, ◌+◌, ◌==◌, ◌<◌, ◌≤◌, Bool, true, false, List, [], ◌∷◌, codes, Some, None, refl, sym, ap, ap₂, ◌∙◌, subst, inl, arith, if◌then◌else◌}
use Rattle.std.proofs.lemmas.Bool.{both_ways, ne_eqb}
use Rattle.qs_memory.specs.Memory.{byte, Block, Memory, block_at, new_block, released}
use Rattle.qs_memory.specs.Soundness.{IsLive}
use Rattle.qs_memory.specs.Values.{Value}
use Rattle.qs_events.specs.Runs.{Left, Ending, has_ended, is_undefined, is_short, ending_of}
use Rattle.qs_events.specs.Weights.{run_weight}
use Rattle.qs_calls.specs.World.{World}
use Rattle.qs_calls.specs.declared.callee.Callee.TheVariants.{PutChar}
use Rattle.qs_isa.specs.Table.{decode_of}
use Rattle.qs_image.specs.Image.{Image}
use Rattle.qs_image.specs.declared.version.Version.TheVariants.{Second}
use Rattle.qs_tac.specs.Trees.{call, return, TacFunctionTree, TacUnitTree}
use Rattle.qs_tac.specs.declared.operands.Operand.TheVariants.{Constant}
use Rattle.qs_tasks_run.specs.Contexts.{byte_of_word, stored, word_at}
use Rattle.qs_tasks_run.specs.StackSize.{Claim, stack_for}
use Rattle.qs_tasks_run.specs.Tasks.{Task, Arrival}
use Rattle.qs_tasks_run.specs.TasksRun.{Scene, Outcome, going, trapped, start, bytes_by, tasks_run, is_over}
use Rattle.qs_tasks.specs.Alone.{Program, activation, first_world, Alone, none_yet, and_another, AreDefined, costs_of}
use Rattle.qs_tasks.specs.Isolated.{IsPartOf, AreIsolated}
use Rattle.qs_tasks.specs.Safe.{arrivals_of, bound_of, GaveSoFar, IsSafe}

-- what computes to a number is at most what computes to one that isn't less
at_most : (a b n m : ℕ) → a ≡ n → b ≡ m → n ≤ m → a ≤ b
at_most a b n m e f h = omega arith

-- ---- `lo` puts `x`, and `hi`, of greater priority, puts `B`

abbrev putting : (letter : ℕ) → TacFunctionTree
putting letter = record { parameters = []; temporaries = 0; blocks = []; code = call None PutChar (Constant letter ∷ []) ∷ return None ∷ [] }

abbrev unit : TacUnitTree
unit = record { functions = putting 120 ∷ putting 66 ∷ []; main = 0; data_blocks = [] }

-- li a7, 1; li a0, BYTE; ecall; ret
abbrev image : Image
image = record {
  version = Second;
  entry = 65536;
  parameters = 0;
  unsigned_set = 0;
  functions =
      record { name = codes "lo"; address = 65536; cost = 16; parameters = Some 0 }
      ∷ record { name = codes "hi"; address = 65552; cost = 32; parameters = Some 0 }
      ∷ [];
  code =
      0x00100893 ∷ 0x07800513 ∷ 0x00000073 ∷ 0x00008067
      ∷ 0x00100893 ∷ 0x04200513 ∷ 0x00000073 ∷ 0x00008067 ∷ [];
  bytes = [];
}

abbrev lo : Task
lo = record { function = 0; name = codes "lo"; priority = 1; input = [] }

abbrev hi : Task
hi = record { function = 1; name = codes "hi"; priority = 2; input = [] }

abbrev claims : List Claim
claims = record { priority = 1; bound = 16 } ∷ record { priority = 2; bound = 32 } ∷ []

-- a context of 128 bytes on each of two levels
the_stack : stack_for claims ≡ 304
the_stack = refl

the_bound : bound_of claims 1 ≡ 32
the_bound = refl

abbrev on_stack : (size : ℕ) → Program
on_stack size = record {
  system = record { image = image; size = size; tasks = lo ∷ hi ∷ [] };
  unit = unit;
  first = [];
  memory_of = λ task. [];
}

abbrev two : Program
two = on_stack 304

-- `hi` comes twice, within the only activation of `lo`
abbrev arrivals : List Arrival
arrivals = record { at = 0; task = 0 } ∷ record { at = 1; task = 1 } ∷ record { at = 2; task = 1 } ∷ []

how_often : (arrivals_of arrivals 0 ≡ 1) × (arrivals_of arrivals 1 ≡ 2)
how_often = (refl, refl)

-- ---- alone

abbrev nothing_left : Left Value Memory
nothing_left = record { result = None; memory = []; input = [] }

one_of_lo : Alone two 0 1 (codes "x") (first_world two 0)
one_of_lo = and_another 0 4 [] (first_world two 0) nothing_left none_yet refl

one_of_hi : Alone two 1 1 (codes "B") (first_world two 1)
one_of_hi = and_another 0 4 [] (first_world two 1) nothing_left none_yet refl

two_of_hi : Alone two 1 2 (codes "BB") (first_world two 1)
two_of_hi = and_another 1 4 (codes "B") (first_world two 1) nothing_left one_of_hi refl

costs : (costs_of image 0 ≡ 16) × (costs_of image 1 ≡ 32)
costs = (refl, refl)

abbrev is_defined : Ending (Left Value Memory) → Bool
is_defined (has_ended left) = true
is_defined is_undefined = false
is_defined is_short = true

it_is_defined : (n : ℕ) → is_defined (ending_of (activation two 0 (first_world two 0) n)) ≡ true
it_is_defined zero = refl
it_is_defined (suc zero) = refl
it_is_defined (suc (suc zero)) = refl
it_is_defined (suc (suc (suc n))) = refl

it_weighs : (n : ℕ) → run_weight (costs_of image) (activation two 0 (first_world two 0) n) ≤ 16
it_weighs zero = at_most _ _ 0 16 refl refl (omega arith)
it_weighs (suc zero) = at_most _ _ 16 16 refl refl (omega arith)
it_weighs (suc (suc zero)) = at_most _ _ 16 16 refl refl (omega arith)
it_weighs (suc (suc (suc n))) = at_most _ _ 16 16 refl refl (omega arith)

begins_first : (task number : ℕ) (output : List ℕ) (w : World) → number < 1 → Alone two task number output w → w ≡ first_world two task
begins_first task _ _ _ below none_yet = refl
begins_first task _ _ _ below (and_another number n before w left alone ended) = absurd (omega arith)

not_undefined : (n : ℕ) (w : World) → w ≡ first_world two 0 → ending_of (activation two 0 w n) ≡ is_undefined → ⊥
not_undefined n w same e = both_ways _ (ap is_defined (sym (ap (λ (x : World). ending_of (activation two 0 x n)) same)) ∙ ap is_defined e) (it_is_defined n)

lo_is_defined : AreDefined two 0 1 16
lo_is_defined = record {
  defined = λ number n before w below alone e. not_undefined n w (begins_first 0 number before w below alone) e;
  weighs = λ number n before w below alone.
      subst (λ (x : World). run_weight (costs_of image) (activation two 0 x n) ≤ 16) (sym (begins_first 0 number before w below alone)) (it_weighs n);
}

-- a byte less doesn't do
takes_16_bytes : AreDefined two 0 1 15 → ⊥
takes_16_bytes h = let w : 16 ≤ 15 = h.weighs 0 4 [] (first_world two 0) (omega arith) none_yet in omega arith

-- ---- on one stack

abbrev scene_in : Outcome → Scene
scene_in (going s) = s
scene_in (trapped task cause pc p) = start two.system []

-- after so many instructions
abbrev scene_at : ℕ → Scene
scene_at instructions = scene_in (tasks_run two.system arrivals instructions)

gave_at_the_end : (task : ℕ) → task < 2 → GaveSoFar two task (arrivals_of arrivals task) ((scene_at 12).progress.returned task) (bytes_by task (scene_at 12).progress.written)
unfolding decode_of stored word_at byte_of_word
gave_at_the_end zero known = record { few = at_most _ _ 1 1 refl refl (omega arith); whole = codes "x"; world = first_world two 0; alone = one_of_lo; part = []; is = refl; next = inl refl; n = 0; rest = []; begins = refl }
gave_at_the_end (suc zero) known = record { few = at_most _ _ 2 2 refl refl (omega arith); whole = codes "BB"; world = first_world two 1; alone = two_of_hi; part = []; is = refl; next = inl refl; n = 0; rest = []; begins = refl }
gave_at_the_end (suc (suc task)) known = absurd (omega arith)

-- how often a task returned and arrived, by whether it is `lo` and `hi`
abbrev returned_by : Bool → Bool → ℕ
returned_by is_lo is_hi = if is_lo then 1 else (if is_hi then 2 else (if is_hi then 1 else 0))

abbrev arrived_by : Bool → Bool → ℕ
arrived_by is_lo is_hi = (if is_lo then 1 else 0) + ((if is_hi then 1 else 0) + ((if is_hi then 1 else 0) + 0))

returned_at_the_end : (task : ℕ) → (scene_at 12).progress.returned task ≡ arrivals_of arrivals task
unfolding decode_of stored word_at byte_of_word
returned_at_the_end zero = refl
returned_at_the_end (suc zero) = refl
returned_at_the_end (suc (suc task)) =
    ap₂ returned_by (ne_eqb (suc (suc task)) 0 (λ e. omega arith)) (ne_eqb (suc (suc task)) 1 (λ e. omega arith))
    ∙ sym (ap₂ arrived_by (ne_eqb 0 (suc (suc task)) (λ e. omega arith)) (ne_eqb 1 (suc (suc task)) (λ e. omega arith)))

at_the_end : IsSafe two arrivals 12
unfolding decode_of stored word_at byte_of_word
at_the_end = record { scene = scene_at 12; goes = refl; gave = gave_at_the_end; all = λ over task. returned_at_the_end task }

it_is_over : is_over (scene_at 12) ≡ true
unfolding decode_of stored word_at byte_of_word
it_is_over = refl

-- behind five instructions the first activation of `hi` has returned, and `lo` hasn't put its byte
gave_at_5 : (task : ℕ) → task < 2 → GaveSoFar two task (arrivals_of arrivals task) ((scene_at 5).progress.returned task) (bytes_by task (scene_at 5).progress.written)
unfolding decode_of stored word_at byte_of_word
gave_at_5 zero known = record { few = at_most _ _ 0 1 refl refl (omega arith); whole = []; world = first_world two 0; alone = none_yet; part = []; is = refl; next = inl refl; n = 4; rest = codes "x"; begins = refl }
gave_at_5 (suc zero) known = record { few = at_most _ _ 1 2 refl refl (omega arith); whole = codes "B"; world = first_world two 1; alone = one_of_hi; part = []; is = refl; next = inl refl; n = 4; rest = codes "B"; begins = refl }
gave_at_5 (suc (suc task)) known = absurd (omega arith)

not_over_at_5 : is_over (scene_at 5) ≡ false
unfolding decode_of stored word_at byte_of_word
not_over_at_5 = refl

at_5 : IsSafe two arrivals 5
unfolding decode_of stored word_at byte_of_word
at_5 = record { scene = scene_at 5; goes = refl; gave = gave_at_5; all = λ over task. absurd (both_ways _ not_over_at_5 over) }

-- with less than two contexts the second level traps
abbrev is_going : Outcome → Bool
is_going (going s) = true
is_going (trapped task cause pc p) = false

it_traps : is_going (tasks_run (on_stack 255).system arrivals 12) ≡ false
unfolding decode_of stored word_at byte_of_word
it_traps = refl

not_safe : IsSafe (on_stack 255) arrivals 12 → ⊥
not_safe h = both_ways _ it_traps (ap is_going h.goes)

-- ---- what tasks touch

abbrev literal : Block
literal = record { size = 2; is_live = true; is_writable = false; cells = λ offset. byte 65 }

abbrev whole : Memory
whole = literal ∷ new_block 4 ∷ new_block 4 ∷ []

-- both name the literal, and each has a variable
abbrev part_of_lo : Memory
part_of_lo = literal ∷ new_block 4 ∷ released (new_block 4) ∷ []

abbrev part_of_hi : Memory
part_of_hi = literal ∷ released (new_block 4) ∷ new_block 4 ∷ []

same_blocks : (block : ℕ) → IsLive part_of_lo block → block_at part_of_lo block ≡ block_at whole block
same_blocks zero live = refl
same_blocks (suc zero) live = refl
same_blocks (suc (suc zero)) live = absurd (both_ways false refl live)
same_blocks (suc (suc (suc block))) live = refl

a_part : IsPartOf whole part_of_lo
a_part = record { count = refl; blocks = same_blocks }

other_size : new_block 8 ≡ new_block 4 → ⊥
other_size e = both_ways false refl (ap (λ (b : Block). b.size == 4) e)

no_part : IsPartOf whole (literal ∷ new_block 8 ∷ new_block 4 ∷ []) → ⊥
no_part h = other_size (h.blocks 1 refl)

not_as_many : IsPartOf whole (literal ∷ []) → ⊥
not_as_many h = both_ways false refl (ap (λ (n : ℕ). n == 3) h.count)

none_written : (block : ℕ) → IsLive part_of_lo block → IsLive part_of_hi block → (block_at part_of_lo block).is_writable ≡ false
none_written zero live other = refl
none_written (suc zero) live other = absurd (both_ways false refl other)
none_written (suc (suc zero)) live other = absurd (both_ways false refl live)
none_written (suc (suc (suc block))) live other = refl

they_are_isolated : AreIsolated part_of_lo part_of_hi
they_are_isolated = record { isolated = none_written }

-- both have the second variable
not_isolated : AreIsolated whole part_of_hi → ⊥
not_isolated h = both_ways true (h.isolated 2 refl refl) refl
