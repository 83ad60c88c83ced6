-- What runs do where blocks are hidden, and which functions stay in a reach, computed from the definitions.
use Rattle.std.proofs.Common.{◌≡◌, ℕ, zero, suc, ◌==◌, ◌≤◌, not, Bool, true, false, [], ◌∷◌, length, Option, Some, None, refl, ap, subst, arith}
use Rattle.std.proofs.lemmas.Bool.{ne_eqb}
use Rattle.std.specs.List.{slice_get}
use Rattle.qs_syntax.specs.declared.types.Base.TheVariants as bases
use Rattle.qs_syntax_vocabulary.specs.declared.operators.AssignmentOperator.TheVariants as assigns
use Rattle.qs_syntax.specs.Numbering.{numbered_unit}
use Rattle.qs_syntax.specs.Trees.{UnitTree, StmtTree}
use Rattle.qs_memory.specs.Memory.{Memory, unset, byte, part, block_at, new_block, released}
use Rattle.qs_memory.specs.Partial.{◌>>=◌}
use Rattle.qs_memory.specs.Soundness.{IsLive}
use Rattle.qs_memory.specs.Values.{null, into}
use Rattle.qs_events.specs.Events.{Calls}
use Rattle.qs_events.specs.Runs.{emit, undefined}
use Rattle.qs_calls.specs.World.{World, RootRun}
use Rattle.qs_meaning.specs.Runs.{run_of, start_world}
use Rattle.qs_meaning.specs.Typed.{Function, TypedProgram}
use Rattle.qs_meaning.specs.Units.{typed_of}
use Rattle.qs_meaning.proofs.Samples.{number, a, b, plus, less, set, update, minus, address, deref, comma, after, cast, call, putchar, one, eval, block, when, while, switch, case, default, break, defined, global, return}
use Rattle.qs_hiding.specs.Hidden.{Reach, hidden, hidden_world, hidden_run, cell_stays, IsClosed, statements_stay, IsReach, IsHidden}
use Rattle.qs_hiding.proofs.HiddenRuns.{hiding_keeps_runs}

abbrev program_of : UnitTree → Option TypedProgram
program_of unit = typed_of (numbered_unit unit)

-- int a; int b; and int f(void){ .. }
abbrev unit_with : StmtTree → UnitTree
unit_with s = global bases.Int 0 97 one None ∷ global bases.Int 0 98 one None ∷ defined bases.Int 0 (102 ∷ []) [] (s ∷ return a ∷ []) ∷ []

-- all blocks but that of b
abbrev all_but_b : Reach
all_but_b = record { keeps = λ block. not (block == 1); may_call = λ function. true }

abbrev hidden_of : UnitTree → Option RootRun
hidden_of unit = program_of unit >>= λ u. Some (run_of u 0 [] (hidden_world all_but_b (start_world u [])) 1)

abbrev whole_of : UnitTree → Option RootRun
whole_of unit = program_of unit >>= λ u. Some (hidden_run all_but_b (run_of u 0 [] (start_world u []) 1))

-- int f(void){a=a+1;return a;} is the same where b is hidden
same_run : hidden_of (unit_with (eval (set a (plus a (number 1))))) ≡ whole_of (unit_with (eval (set a (plus a (number 1)))))
same_run = refl

-- int f(void){b=1;return a;} is undefined there
touches_b : hidden_of (unit_with (eval (set b (number 1)))) ≡ Some (emit (Calls 0) undefined)
touches_b = refl

-- ---- memory

what_is_hidden : hidden all_but_b (new_block 4 ∷ new_block 8 ∷ new_block 1 ∷ []) ≡ new_block 4 ∷ released (new_block 8) ∷ new_block 1 ∷ []
what_is_hidden = refl

-- parts of a null pointer, of one to a and of one to b
what_stays : (cell_stays all_but_b (part null 3) ≡ true) × (cell_stays all_but_b (part (into 0 4) 0) ≡ true) × (cell_stays all_but_b (part (into 1 0) 0) ≡ false)
what_stays = (refl, refl, refl)

numbers_stay : (cell_stays all_but_b (byte 1) ≡ true) × (cell_stays all_but_b unset ≡ true)
numbers_stay = (refl, refl)

-- ---- functions

-- whether its function of this number stays in the reach
abbrev stays_at : Reach → TypedProgram → (function : ℕ) → Option Bool
stays_at reach u function = slice_get u.functions function >>= λ (g : Function). Some (statements_stay reach g.body)

abbrev stays : Reach → UnitTree → Option Bool
stays reach unit = program_of unit >>= λ (u : TypedProgram). stays_at reach u 0

-- int f(void){
--   if(a<3)a++;
--   while(a<5)a+=1;
--   switch(a){case 5:0,-a;break;default:*&a=(char)2;}
--   {putchar(65);f();}
--   return a;
-- }
abbrev unit_of_a : UnitTree
unit_of_a =
    unit_with (block (
    when (less a (number 3)) (eval (after a))
    ∷ while (less a (number 5)) (eval (update assigns.Add a (number 1)))
    ∷ switch a (case (number 5) ∷ eval (comma (number 0) (minus a)) ∷ break ∷ default ∷ eval (set (deref (address a)) (cast bases.Char 0 (number 2))) ∷ [])
    ∷ block (eval (putchar (number 65)) ∷ eval (call 102 []) ∷ [])
    ∷ []
    ))

it_stays : stays all_but_b unit_of_a ≡ Some true
it_stays = refl

-- where it may not call itself it doesn't
abbrev without_calls : Reach
without_calls = record { keeps = λ block. not (block == 1); may_call = λ function. false }

it_calls : stays without_calls unit_of_a ≡ Some false
it_calls = refl

the_address_of_b : stays all_but_b (unit_with (eval (set a (deref (address b))))) ≡ Some false
the_address_of_b = refl

-- ---- a unit that meets what the law asks for

abbrev or_nothing : Option TypedProgram → TypedProgram
or_nothing None = record { functions = []; blocks = [] }
or_nothing (Some u) = u

abbrev program : TypedProgram
program = or_nothing (program_of unit_of_a)

-- a and b, both without a value
abbrev variables : Memory
variables = new_block 4 ∷ new_block 4 ∷ []

abbrev world : World
world = record { memory = variables; input = [] }

others_are_kept : (b : ℕ) → 2 ≤ b → not (b == 1) ≡ true
others_are_kept b least = ap not (ne_eqb b 1 (λ e. omega arith))

two_blocks : length program.blocks ≡ 2
two_blocks = refl

-- what there is of a function stays
abbrev stays_if : Option Function → Bool
stays_if None = true
stays_if (Some g) = statements_stay all_but_b g.body

all_stay : (function : ℕ) → stays_if (slice_get program.functions function) ≡ true
all_stay zero = refl
all_stay (suc function) = refl

its_reach : IsReach all_but_b program.functions 2
its_reach = record {
  blocks = others_are_kept;
  bodies = λ f g may is. subst (λ (x : Option Function). stays_if x ≡ true) is (all_stay f);
}

without_pointers : (place offset : ℕ) → not (place == 1) ≡ true → IsLive variables place → cell_stays all_but_b ((block_at variables place).cells offset) ≡ true
without_pointers zero offset kept live = refl
without_pointers (suc zero) offset kept live = refl
without_pointers (suc (suc place)) offset kept live = refl

closed : IsClosed all_but_b variables
closed = record { cells = without_pointers }

it_is_hidden : (n : ℕ) → IsHidden all_but_b variables (run_of program 0 [] world n) (run_of program 0 [] (hidden_world all_but_b world) n)
it_is_hidden n = hiding_keeps_runs all_but_b program 0 [] world n its_reach refl refl closed (let many = two_blocks in omega arith)
