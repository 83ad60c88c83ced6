-- What the plans of statements stand for.
use Rattle.std.specs.Prelude.{◌≡◌, ℕ, ◌+◌, ◌||◌, not, max, Bool, false, if◌then◌else◌, List, [], ◌∷◌, ◌++◌, map, Option, Some, None}
use Rattle.std.specs.declared.alloc.Global.{Global}
use Rattle.std.specs.declared.vec.Vec.{Vec}
use Rattle.qs_memory.specs.BlankOf.{blank_tree}
use Rattle.qs_memory.specs.declared.blank.Blank.{Blank}
use Rattle.qs_memory.specs.declared.scalar.Scalar.{Scalar}
use Rattle.qs_calls.specs.declared.callee.Callee.{Callee}
use Rattle.qs_core.specs.Trees.{CoreStmtTree, copy}
use Rattle.qs_core.specs.TreeOf.{core_expr}
use Rattle.qs_core.specs.declared.expressions.CoreExpr.{CoreExpr}
use Rattle.qs_core.specs.declared.labels.CoreLabel.{CoreLabel}
use Rattle.qs_tac.specs.declared.instruction.Instruction.{Instruction}
use Rattle.qs_tac.specs.Trees.{InstructionTree}
use Rattle.qs_lower_expressions.specs.Expressions.{ExprCode}
use Rattle.qs_lower.specs.Statements as spec
use Rattle.qs_lower.specs.Statements.{Way, StmtCode, to_next, leaves, is_break, redirected, by_way, of_assign, of_store, of_copy, of_fill, of_call, of_return, of_plain_return, of_joined, of_both, of_test, joined_before, of_switch, of_all_parts, Exits, before, next_falls, test_last, body_first, body_alone, falls_of, of_branch}
use Rattle.qs_lower_expressions.specs.Plans.{expr_code, expr_codes, exit_tree, EmitsAt, Grows}
use Rattle.qs_lower.specs.Ways.{way_tree, only}
use Rattle.qs_lower_expressions.specs.declared.exits.Exit.{Exit}
use Rattle.qs_lower_expressions.specs.declared.plans.ExprPlan.{ExprPlan}
use Rattle.qs_lower.specs.declared.stmt_plans.TestedParts.{TestedParts}
use Rattle.qs_lower.specs.declared.stmt_plans.StmtPlan.{StmtPlan, StmtPlan-F, fold-StmtPlan}
use Rattle.qs_lower.specs.declared.stmt_plans.BranchPlan.{BranchPlan, BranchPlan-F, fold-BranchPlan}
use Rattle.qs_lower.specs.declared.stmt_plans.LoopPlan.{LoopPlan, LoopPlan-F, fold-LoopPlan}
use Rattle.qs_lower.specs.declared.stmt_plans.TestedPlan.{TestedPlan, TestedPlan-F, fold-TestedPlan}
use Rattle.qs_lower.specs.declared.stmt_plans.SwitchPlan.{SwitchPlan, SwitchPlan-F, fold-SwitchPlan}

-- whether what follows the test at a statement's end does nothing, where there is such a test
abbrev pub idle_in : Option spec.Tested → Option Bool
idle_in None = None
idle_in (Some d) = Some d.is_idle

abbrev pub idle_of : StmtCode → Option Bool
idle_of s = idle_in s.tested

-- ---- several statements

-- behind each of them something else stands
abbrev pub sizes_before : List StmtCode → ℕ
sizes_before [] = 0
sizes_before (s ∷ ss) = s.part.size next_falls + sizes_before ss

-- the code of all of them, behind which the last stands
abbrev pub code_before : List StmtCode → (last : StmtCode) → Exits → (at : ℕ) → List InstructionTree
code_before [] last x at = []
code_before (s ∷ ss) last x at =
    let second = at + s.part.size next_falls in
    s.part.code (before ((joined_before ss last).part.entry second) x) at ++ code_before ss last x second

abbrev pub most_used : List StmtCode → ℕ
most_used [] = 0
most_used (s ∷ ss) = max s.used (most_used ss)

abbrev pub some_breaks : List StmtCode → Bool
some_breaks [] = false
some_breaks (s ∷ ss) = s.breaks || some_breaks ss

-- ---- statements

abbrev pub redirected_to : StmtCode → Way → StmtCode
redirected_to a w = record a { part = redirected a.part w; way = None; ends = leaves w; breaks = a.breaks || is_break w; tested = None }

abbrev pub loop_of : (is_alone : Bool) → StmtCode → StmtCode → StmtCode
loop_of is_alone body step = record {
  part = if is_alone then body_alone body.part else body_first body.part step.part;
  used = max body.used step.used;
  way = None;
  ends = not (body.breaks || step.breaks);
  breaks = false;
  tested = None;
}

abbrev pub tested_of : StmtCode → ExprCode → StmtCode → spec.Tested
tested_of front test rest = record { front = front.part; test = test; rest = rest.part; is_idle = false }

abbrev pub tested_loop : (t used : ℕ) → (ends : Bool) → spec.Tested → StmtCode → StmtCode
tested_loop t used ends d step = record { part = test_last t d step.part; used = used; way = None; ends = ends; breaks = false; tested = None }

abbrev pub branch_step : BranchPlan-F StmtCode StmtCode StmtCode StmtCode StmtCode → StmtCode
branch_step p = of_test p.free (expr_code p.test) p.met p.unmet

abbrev pub loop_step : LoopPlan-F StmtCode StmtCode StmtCode StmtCode StmtCode → StmtCode
loop_step p = loop_of p.is_alone p.body p.step

abbrev pub tested_step : TestedPlan-F StmtCode StmtCode StmtCode StmtCode StmtCode → StmtCode
tested_step p = tested_loop p.free p.used p.ends (tested_of p.front (expr_code p.test) p.rest) p.step

abbrev pub switch_step : SwitchPlan-F StmtCode StmtCode StmtCode StmtCode StmtCode → StmtCode
switch_step p = of_switch p.free (expr_code p.operand) p.labels.items p.parts.items p.last

abbrev pub stmt_step : StmtPlan-F StmtCode StmtCode StmtCode StmtCode StmtCode → StmtCode
stmt_step (StmtPlan-F.Go w) = by_way (way_tree w)
stmt_step (StmtPlan-F.Assign t x e) = of_assign x t (expr_code e)
stmt_step (StmtPlan-F.Store t s a b) = of_store t s (expr_code a) (expr_code b)
stmt_step (StmtPlan-F.Copy t size alignment a b) = of_copy t size alignment (expr_code a) (expr_code b)
stmt_step (StmtPlan-F.Fill t b a) = of_fill t (blank_tree b) (expr_code a)
stmt_step (StmtPlan-F.Call t x f es) = of_call t x f (map expr_code es.items)
stmt_step (StmtPlan-F.Return t e) = of_return t (expr_code e)
stmt_step StmtPlan-F.PlainReturn = of_plain_return
stmt_step (StmtPlan-F.Joined all last) = joined_before all.items last.value
stmt_step (StmtPlan-F.Redirected a w) = redirected_to a.value (way_tree w)
stmt_step (StmtPlan-F.Branch p) = p.value
stmt_step (StmtPlan-F.Loop p) = p.value
stmt_step (StmtPlan-F.TestedLoop p) = p.value
stmt_step (StmtPlan-F.Switch p) = p.value

abbrev pub stmt_part : StmtPlan → StmtCode
stmt_part = fold-StmtPlan StmtCode StmtCode StmtCode StmtCode StmtCode stmt_step branch_step loop_step switch_step tested_step

abbrev pub branch_part : BranchPlan → StmtCode
branch_part = fold-BranchPlan StmtCode StmtCode StmtCode StmtCode StmtCode stmt_step branch_step loop_step switch_step tested_step

abbrev pub loop_part : LoopPlan → StmtCode
loop_part = fold-LoopPlan StmtCode StmtCode StmtCode StmtCode StmtCode stmt_step branch_step loop_step switch_step tested_step

abbrev pub tested_part : TestedPlan → StmtCode
tested_part = fold-TestedPlan StmtCode StmtCode StmtCode StmtCode StmtCode stmt_step branch_step loop_step switch_step tested_step

abbrev pub switch_part : SwitchPlan → StmtCode
switch_part = fold-SwitchPlan StmtCode StmtCode StmtCode StmtCode StmtCode stmt_step branch_step loop_step switch_step tested_step

-- the test at a statement's end, without what is told of what follows it
abbrev pub test_in : Option spec.Tested → Option spec.Tested
test_in None = None
test_in (Some d) = Some (record d { is_idle = false })

abbrev pub test_at_end : StmtCode → Option spec.Tested
test_at_end s = test_in s.tested

-- a loop whose body ends in a test, if it does
abbrev pub loop_with : Option spec.Tested → (t : ℕ) → StmtCode → StmtCode → StmtCode
loop_with None t body step = loop_of false body step
loop_with (Some d) t body step = tested_loop t (max body.used step.used) (not (body.breaks || step.breaks)) d step

abbrev pub loop_at_end : (t : ℕ) → StmtCode → StmtCode → StmtCode
loop_at_end t body step = loop_with (test_at_end body) t body step

-- ---- blocks

-- all of them, one after the other
abbrev pub all_joined : List StmtCode → StmtCode
all_joined [] = by_way to_next
all_joined (s ∷ []) = s
all_joined (s ∷ r ∷ ss) = of_both s (all_joined (r ∷ ss))

-- the same with the last of them apart
abbrev pub joined_to : List StmtCode → (last : StmtCode) → StmtCode
joined_to [] last = last
joined_to (s ∷ ss) last = of_both s (joined_to ss last)

-- what stands behind a statement that does something and doesn't end
abbrev pub put_before : StmtCode → Option Way → StmtCode → StmtCode
put_before s None b = of_joined s b
put_before s (Some w) b = record s { part = redirected s.part w; way = None; ends = b.ends; breaks = s.breaks || b.breaks; tested = None }

abbrev pub all_before : List StmtCode → (last : StmtCode) → StmtCode
all_before [] last = last
all_before (s ∷ ss) last =
    let rest = all_before ss last in
    put_before s rest.way rest

-- ---- what plans are of

abbrev pub stmt_parts : List StmtPlan → List StmtCode
stmt_parts plans = map stmt_part plans

abbrev pub IsStmtPlanOf : StmtCode → StmtPlan → Type 0
IsStmtPlanOf code plan = stmt_part plan ≡ code

-- of a statement in a function with so many variables, where the temporaries from a number on are free
abbrev pub IsStmtPlanIn : (variables free : ℕ) → CoreStmtTree → StmtPlan → Type 0
IsStmtPlanIn v free s plan = IsStmtPlanOf (spec.stmt_code v free s) plan

abbrev pub copy_stmt : (size alignment : ℕ) → (to from : CoreExpr) → CoreStmtTree
copy_stmt size alignment to from = copy size alignment (core_expr to) (core_expr from)

abbrev pub AreStmtPlansIn : (variables free : ℕ) → List CoreStmtTree → Vec StmtPlan Global → Type 0
AreStmtPlansIn v free ss plans = stmt_parts plans.items ≡ map (spec.stmt_code v free) ss

abbrev pub joined_plans : List StmtPlan → (last : StmtPlan) → StmtCode
joined_plans all last = joined_before (stmt_parts all) (stmt_part last)

abbrev pub branch_plans : Option Bool → (free : ℕ) → ExprPlan → (met unmet : StmtPlan) → StmtCode
branch_plans known free test met unmet = of_branch known free (expr_code test) (stmt_part met) (stmt_part unmet)

abbrev pub switch_to : (free : ℕ) → ExprPlan → List CoreLabel → (parts : List StmtPlan) → (last : StmtPlan) → StmtCode
switch_to free operand labels parts last = of_switch free (expr_code operand) labels (stmt_parts parts) (stmt_part last)

abbrev pub switch_plans : (free : ℕ) → ExprPlan → List CoreLabel → (parts : List StmtPlan) → StmtCode
switch_plans free operand labels parts = of_all_parts free (expr_code operand) labels (stmt_parts parts)

abbrev pub tested_parts : TestedParts → spec.Tested
tested_parts p = tested_of (stmt_part p.front) (expr_code p.test) (stmt_part p.rest)

abbrev pub store_code : (t : ℕ) → Scalar → (to e : ExprPlan) → StmtCode
store_code t s to e = of_store t s (expr_code to) (expr_code e)

abbrev pub copy_code : (t size alignment : ℕ) → (to from : ExprPlan) → StmtCode
copy_code t size alignment to from = of_copy t size alignment (expr_code to) (expr_code from)

abbrev pub fill_code : (t : ℕ) → Blank → (to : ExprPlan) → StmtCode
fill_code t blank to = of_fill t (blank_tree blank) (expr_code to)

abbrev pub call_code : (t : ℕ) → Option ℕ → Callee → List ExprPlan → StmtCode
call_code t x f arguments = of_call t x f (expr_codes arguments)

-- ---- what is put behind code

-- the code of a statement, with these exits
abbrev pub EmitsPart : (before after : Vec Instruction Global) → StmtCode → Exits → Type 0
EmitsPart before after s x = EmitsAt before after (s.part.code x)

abbrev pub GrowsByPart : (before after : Vec Instruction Global) → StmtCode → Exits → Type 0
GrowsByPart before after s x = Grows before after (s.part.size (falls_of x))

-- with this one alone
abbrev pub EmitsTo : (before after : Vec Instruction Global) → StmtCode → (next : Exit) → Type 0
EmitsTo before after s next = EmitsPart before after s (only (exit_tree next))

abbrev pub GrowsTo : (before after : Vec Instruction Global) → StmtCode → (next : Exit) → Type 0
GrowsTo before after s next = GrowsByPart before after s (only (exit_tree next))

abbrev pub EmitsCopy :
    (before after : Vec Instruction Global) → (t size alignment : ℕ) → (to from : ExprPlan) → (next : Exit) → Type 0
EmitsCopy before after t size alignment to from next =
    EmitsTo before after (copy_code t size alignment to from) next

abbrev pub GrowsByCopy :
    (before after : Vec Instruction Global) → (t size alignment : ℕ) → (to from : ExprPlan) → (next : Exit) → Type 0
GrowsByCopy before after t size alignment to from next =
    GrowsTo before after (copy_code t size alignment to from) next

-- behind which the last stands
abbrev pub EmitsBefore : (before after : Vec Instruction Global) → List StmtPlan → (last : StmtPlan) → Exits → Type 0
EmitsBefore before after all last x = EmitsAt before after (code_before (stmt_parts all) (stmt_part last) x)
