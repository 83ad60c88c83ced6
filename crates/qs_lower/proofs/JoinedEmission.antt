-- The code of several statements, one put behind the other.
use Rattle.std.proofs.Common.{◌≡◌, ℕ, ◌+◌, List, [], ◌∷◌, ◌++◌, length, map, Some, sym, ap, ◌∙◌, arith}
use Rattle.std.proofs.lemmas.Result.{on_ok_weaker}
use Rattle.std.specs.Prelude.{Box, Result, OnOk}
use Rattle.std.specs.declared.alloc.Global.{Global}
use Rattle.std.specs.declared.vec.Vec.{Vec}
use Rattle.qs_core.specs.Statements.{default_part}
use Rattle.qs_core.specs.declared.labels.CoreLabel.{CoreLabel}
use Rattle.qs_tac.specs.Trees.{InstructionTree, return}
use Rattle.qs_tac.specs.declared.operands.Operand.{Operand}
use Rattle.qs_tac.specs.TreeOf.{instruction_tree}
use Rattle.qs_tac.specs.declared.instruction.Instruction.{Instruction}
use Rattle.qs_lower_expressions.specs.Exits.{place_of}
use Rattle.qs_lower_expressions.specs.Expressions.{ExprCode, code_of, operand_of}
use Rattle.qs_lower_expressions.specs.Plans.{expr_code, Emitted}
use Rattle.qs_lower_expressions.specs.declared.plans.ExprPlan.{ExprPlan}
use Rattle.qs_lower.specs.declared.stmt_plans.StmtPlan.{StmtPlan}
use Rattle.qs_lower.specs.declared.stmt_plans.StmtPlan.TheVariants as plans
use Rattle.qs_lower.specs.declared.stmt_plans.SwitchPlan.{SwitchPlan}
use Rattle.qs_lower.specs.Choices.{other_place, choice_size, choice_code}
use Rattle.qs_lower.specs.Statements.{StmtCode, Exits, falls_of, joined_before, entries, in_switch, switch_part}
use Rattle.qs_lower.specs.StmtPlans as plan
use Rattle.qs_lower.specs.StmtPlans.{stmt_part, sizes_before, code_before}
use Rattle.qs_lower_expressions.proofs.EmissionLaws.{emitted_then}
use Rattle.qs_lower.proofs.PlanTrees.{joined_is, switch_part_is, return_is}
use Rattle.qs_lower.proofs.JoinedLaws.{joined_size, joined_code}

-- all of them, and then the last
pub joined_emitted :
    (c d e : List Instruction) (ss : List StmtCode) (last : StmtCode) (x : Exits)
    → Emitted c d (code_before ss last x (length c)) → length d ≡ length c + sizes_before ss
    → Emitted d e (last.part.code x (length d)) → Emitted c e ((joined_before ss last).part.code x (length c))
joined_emitted c d e ss last x first size rest =
    emitted_then c d e (code_before ss last x (length c)) (last.part.code x (length d)) first rest
    ∙ ap (λ (n : ℕ). map instruction_tree c ++ (code_before ss last x (length c) ++ last.part.code x n)) size
    ∙ ap (λ (l : List InstructionTree). map instruction_tree c ++ l) (sym (joined_code ss last x (length c)))

pub joined_length :
    (c d e : List Instruction) (ss : List StmtCode) (last : StmtCode) (x : Exits)
    → length d ≡ length c + sizes_before ss → length e ≡ length d + last.part.size (falls_of x)
    → length e ≡ length c + (joined_before ss last).part.size (falls_of x)
joined_length c d e ss last x first rest =
    let whole = joined_size ss last (falls_of x) in
    omega arith

-- the choice of a part of a switch, and then its parts
pub switch_emitted :
    (c d e k : List Instruction) (t : ℕ) (g : ExprCode) (labels : List CoreLabel) (ss : List StmtCode) (last : StmtCode) (x : Exits) (places : List ℕ) (other : ℕ)
    → places ≡ entries ss last (length c + choice_size g labels) → other ≡ other_place (default_part labels) places (place_of x.next)
    → Emitted c d (choice_code t g labels places other (length c)) → length d ≡ length c + choice_size g labels
    → Emitted d e (code_before ss last (in_switch x) (length d)) → length e ≡ length d + sizes_before ss
    → Emitted e k (last.part.code (in_switch x) (length e)) → Emitted c k ((switch_part t g labels ss last).code x (length c))
switch_emitted c d e k t g labels ss last x places other here there choice size parts rest behind =
    let first : ℕ = length c + choice_size g labels in
    let row : ℕ → List InstructionTree = (joined_before ss last).part.code (in_switch x) in
    emitted_then c d k (choice_code t g labels places other (length c)) (row (length d)) choice (joined_emitted d e k ss last (in_switch x) parts rest behind)
    ∙ ap (λ (n : ℕ). map instruction_tree c ++ (choice_code t g labels places other (length c) ++ row n)) size
    ∙ ap (λ (n : ℕ). map instruction_tree c ++ (choice_code t g labels places n (length c) ++ row first)) there
    ∙ ap (λ (ps : List ℕ). map instruction_tree c ++ (choice_code t g labels ps (other_place (default_part labels) ps (place_of x.next)) (length c) ++ row first)) here

pub switch_length :
    (c d e k : List Instruction) (t : ℕ) (g : ExprCode) (labels : List CoreLabel) (ss : List StmtCode) (last : StmtCode) (x : Exits)
    → length d ≡ length c + choice_size g labels → length e ≡ length d + sizes_before ss → length k ≡ length e + last.part.size (falls_of (in_switch x))
    → length k ≡ length c + (switch_part t g labels ss last).size (falls_of x)
switch_length c d e k t g labels ss last x choice parts rest =
    let whole = joined_size ss last (falls_of (in_switch x)) in
    omega arith

-- ---- what the code of a statement is made of

pub emitted_all :
    {T E : Type 0} (r : Result T E) (self : StmtPlan) (all : Vec StmtPlan Global) (last : Box StmtPlan Global) (ss : List StmtPlan) (p q : StmtPlan) (x : Exits)
    (c d e : List Instruction) → self ≡ plans.Joined all last → ss ≡ all.items → p ≡ last.value → q ≡ last.value
    → Emitted c d (code_before (map stmt_part ss) (stmt_part p) x (length c)) → length d ≡ length c + sizes_before (map stmt_part ss)
    → OnOk r (Emitted d e ((stmt_part q).part.code x (length d))) → OnOk r (Emitted c e ((stmt_part self).part.code x (length c)))
emitted_all r self all last ss p q x c d e is items first second code size rest =
    let parts = map stmt_part all.items in
    let l = stmt_part last.value in
    let before : Emitted c d (code_before parts l x (length c)) =
    code
    ∙ ap (λ (ts : List StmtPlan). map instruction_tree c ++ code_before (map stmt_part ts) (stmt_part p) x (length c)) items
    ∙ ap (λ (s : StmtPlan). map instruction_tree c ++ code_before parts (stmt_part s) x (length c)) first in
    let count : length d ≡ length c + sizes_before parts = size ∙ ap (λ (ts : List StmtPlan). length c + sizes_before (map stmt_part ts)) items in
    on_ok_weaker {P = Emitted d e ((stmt_part q).part.code x (length d))} {Q = Emitted c e ((stmt_part self).part.code x (length c))} r
    (λ h.
    joined_emitted c d e parts l x before count (h ∙ ap (λ (s : StmtPlan). map instruction_tree d ++ (stmt_part s).part.code x (length d)) second)
    ∙ ap (λ (s : StmtCode). map instruction_tree c ++ s.part.code x (length c)) (sym (joined_is self all last is)))
    rest

pub length_of_all :
    {T E : Type 0} (r : Result T E) (self : StmtPlan) (all : Vec StmtPlan Global) (last : Box StmtPlan Global) (ss : List StmtPlan) (q : StmtPlan) (x : Exits)
    (c d e : List Instruction) → self ≡ plans.Joined all last → ss ≡ all.items → q ≡ last.value → length d ≡ length c + sizes_before (map stmt_part ss)
    → OnOk r (length e ≡ length d + (stmt_part q).part.size (falls_of x)) → OnOk r (length e ≡ length c + (stmt_part self).part.size (falls_of x))
length_of_all r self all last ss q x c d e is items second size rest =
    let parts = map stmt_part all.items in
    let l = stmt_part last.value in
    let count : length d ≡ length c + sizes_before parts = size ∙ ap (λ (ts : List StmtPlan). length c + sizes_before (map stmt_part ts)) items in
    on_ok_weaker {P = length e ≡ length d + (stmt_part q).part.size (falls_of x)} {Q = length e ≡ length c + (stmt_part self).part.size (falls_of x)} r
    (λ h.
    joined_length c d e parts l x count (h ∙ ap (λ (s : StmtPlan). length d + (stmt_part s).part.size (falls_of x)) second)
    ∙ ap (λ (s : StmtCode). length c + s.part.size (falls_of x)) (sym (joined_is self all last is)))
    rest

pub emitted_switch :
    {T E : Type 0} (r : Result T E) (p : SwitchPlan) (x : Exits) (c d e k : List Instruction) (places : List ℕ) (other : ℕ) (y : Exits)
    → places ≡ entries (map stmt_part p.parts.items) (stmt_part p.last) (length c + choice_size (expr_code p.operand) p.labels.items)
    → other ≡ other_place (default_part p.labels.items) places (place_of x.next)
    → Emitted c d (choice_code p.free (expr_code p.operand) p.labels.items places other (length c)) → length d ≡ length c + choice_size (expr_code p.operand) p.labels.items
    → Emitted d e (code_before (map stmt_part p.parts.items) (stmt_part p.last) (in_switch x) (length d))
    → length e ≡ length d + sizes_before (map stmt_part p.parts.items) → y ≡ in_switch x
    → OnOk r (Emitted e k ((stmt_part p.last).part.code y (length e))) → OnOk r (Emitted c k ((plan.switch_part p).part.code x (length c)))
emitted_switch r p x c d e k places other y here there choice size parts rest same behind =
    let last = stmt_part p.last in
    on_ok_weaker {P = Emitted e k (last.part.code y (length e))} {Q = Emitted c k ((plan.switch_part p).part.code x (length c))} r
    (λ h.
    switch_emitted c d e k p.free (expr_code p.operand) p.labels.items (map stmt_part p.parts.items) last x places other here there choice size parts rest
    (h ∙ ap (λ (z : Exits). map instruction_tree e ++ last.part.code z (length e)) same)
    ∙ ap (λ (s : StmtCode). map instruction_tree c ++ s.part.code x (length c)) (sym (switch_part_is p)))
    behind

pub length_of_switch :
    {T E : Type 0} (r : Result T E) (p : SwitchPlan) (x : Exits) (c d e k : List Instruction) (y : Exits)
    → length d ≡ length c + choice_size (expr_code p.operand) p.labels.items → length e ≡ length d + sizes_before (map stmt_part p.parts.items) → y ≡ in_switch x
    → OnOk r (length k ≡ length e + (stmt_part p.last).part.size (falls_of y)) → OnOk r (length k ≡ length c + (plan.switch_part p).part.size (falls_of x))
length_of_switch r p x c d e k y size rest same behind =
    let last = stmt_part p.last in
    on_ok_weaker {P = length k ≡ length e + last.part.size (falls_of y)} {Q = length k ≡ length c + (plan.switch_part p).part.size (falls_of x)} r
    (λ h.
    switch_length c d e k p.free (expr_code p.operand) p.labels.items (map stmt_part p.parts.items) last x size rest
    (h ∙ ap (λ (z : Exits). length e + last.part.size (falls_of z)) same)
    ∙ ap (λ (s : StmtCode). length c + s.part.size (falls_of x)) (sym (switch_part_is p)))
    behind

pub emitted_return :
    {T E : Type 0} (r : Result T E) (self : StmtPlan) (t : ℕ) (value : ExprPlan) (o : Operand) (x : Exits) (c d e : List Instruction)
    → self ≡ plans.Return t value → o ≡ operand_of (expr_code value) t → Emitted c d (code_of (expr_code value) t (length c))
    → OnOk r (Emitted d e (return (Some o) ∷ [])) → OnOk r (Emitted c e ((stmt_part self).part.code x (length c)))
emitted_return r self t value o x c d e is operand code rest =
    on_ok_weaker {P = Emitted d e (return (Some o) ∷ [])} {Q = Emitted c e ((stmt_part self).part.code x (length c))} r
    (λ h.
    emitted_then c d e (code_of (expr_code value) t (length c)) (return (Some o) ∷ []) code h
    ∙ ap (λ (p : Operand). map instruction_tree c ++ (code_of (expr_code value) t (length c) ++ return (Some p) ∷ [])) operand
    ∙ ap (λ (s : StmtCode). map instruction_tree c ++ s.part.code x (length c)) (sym (return_is self t value is)))
    rest
