-- What statements are in core: lists of statements.
use Rattle.std.specs.Prelude.{ℕ, ◌+◌, Bool, true, false, List, [], ◌∷◌, ◌++◌, Some, None, if◌then◌else◌}
use Rattle.qs_core.specs.declared.labels.CoreLabel.{CoreLabel}
use Rattle.qs_core.specs.declared.labels.CoreLabel.TheVariants.{Case, Default}
use Rattle.qs_core.specs.Trees.{CoreStmtTree, stmts_of}
use Rattle.qs_core.specs.Trees as core
use Rattle.qs_meaning.specs.Typed.{Conversion, Stmt, evaluate, block, switch, case_label, default_label, branch, while_loop, do_loop, for_loop, break, continue, return, return_nothing, Stmts, no_stmts, stmt_and}
use Rattle.qs_meaning.specs.Fits.{is_label}
use Rattle.qs_elaborate_bodies.specs.Literals.{converted_core}
use Rattle.qs_elaborate_bodies.specs.Parts.{Temporaries, Valued, Listed, in_turn, one_statement}
use Rattle.qs_elaborate_bodies.specs.Expressions.{listed, expression_core, effect_core}

-- ---- conditions

-- the list of a condition, and an If
abbrev pub tested : Valued → (met unmet : CoreStmtTree) → List CoreStmtTree
tested e met unmet = e.statements ++ core.branch e.value met unmet ∷ []

abbrev pub branched : Valued → (met unmet : Listed) → Listed
branched e met unmet = listed (tested e (one_statement met.statements) (one_statement unmet.statements)) unmet.temporaries

-- ---- loops

abbrev pub looped : (body step : List CoreStmtTree) → CoreStmtTree
looped body step = core.loop (one_statement body) (one_statement step)

-- the body, while the condition holds
abbrev pub guarded : Valued → Listed → List CoreStmtTree
guarded e body = tested e (one_statement body.statements) core.break

abbrev pub return_listed : Conversion → Valued → Listed
return_listed c e = listed (e.statements ++ core.return (Some (converted_core c e.value)) ∷ []) e.temporaries

-- ---- switches: the items that are no labels are the parts

-- what an item is before the part with this number
abbrev pub label_before : (part : ℕ) → Stmt → List CoreLabel
label_before part (case_label n) = Case n part ∷ []
label_before part default_label = Default part ∷ []
label_before part _ = []

-- the number of the part behind an item
abbrev pub part_behind : Stmt → (part : ℕ) → ℕ
part_behind s part = if is_label s then part else part + 1

-- each label, with the number of the part before which it stands; the first part of these items has this number
abbrev pub labels_core : (part : ℕ) → Stmts → List CoreLabel
labels_core part no_stmts = []
labels_core part (stmt_and s ss) = label_before part s ++ labels_core (part_behind s part) ss

-- one statement for an item, and none for a label
abbrev pub part_of : (is_label : Bool) → List CoreStmtTree → List CoreStmtTree
part_of true ss = []
part_of false ss = one_statement ss ∷ []

abbrev pub parted : (is_label : Bool) → Listed → Listed
parted is_label item = listed (part_of is_label item.statements) item.temporaries

abbrev pub switched : Conversion → Valued → List CoreLabel → (parts : Listed) → Listed
switched c e labels parts = listed (e.statements ++ core.switch (converted_core c e.value) labels (stmts_of parts.statements) ∷ []) parts.temporaries

-- ---- statements

abbrev mutual
  pub statement_core : Stmt → Temporaries → Listed
  statement_core (evaluate a) ts = effect_core a ts
  statement_core (block ss) ts = statements_core ss ts
  statement_core (switch c e ss) ts =
      let operand = expression_core e ts in switched c operand (labels_core 0 ss) (parts_core ss operand.temporaries)
  statement_core (case_label n) ts = listed [] ts
  statement_core default_label ts = listed [] ts
  statement_core (branch e a b) ts =
      let c = expression_core e ts in
      let met = statement_core a c.temporaries in
      branched c met (statement_core b met.temporaries)
  statement_core (while_loop e a) ts =
      let c = expression_core e ts in
      let body = statement_core a c.temporaries in
      listed (looped (guarded c body) [] ∷ []) body.temporaries
  statement_core (do_loop a e) ts =
      let body = statement_core a ts in
      let c = expression_core e body.temporaries in
      listed (looped body.statements (tested c core.skip core.break) ∷ []) c.temporaries
  statement_core (for_loop start None step a) ts =
      let first = effect_core start ts in
      let body = statement_core a first.temporaries in
      let last = effect_core step body.temporaries in
      listed (first.statements ++ looped body.statements last.statements ∷ []) last.temporaries
  statement_core (for_loop start (Some e) step a) ts =
      let first = effect_core start ts in
      let c = expression_core e first.temporaries in
      let body = statement_core a c.temporaries in
      let last = effect_core step body.temporaries in
      listed (first.statements ++ looped (guarded c body) last.statements ∷ []) last.temporaries
  statement_core break ts = listed (core.break ∷ []) ts
  statement_core continue ts = listed (core.continue ∷ []) ts
  statement_core (return c e) ts = return_listed c (expression_core e ts)
  statement_core return_nothing ts = listed (core.return None ∷ []) ts

  pub statements_core : Stmts → Temporaries → Listed
  statements_core no_stmts ts = listed [] ts
  statements_core (stmt_and s ss) ts = let first = statement_core s ts in in_turn first (statements_core ss first.temporaries)

  -- the parts of a switch
  pub parts_core : Stmts → Temporaries → Listed
  parts_core no_stmts ts = listed [] ts
  parts_core (stmt_and s ss) ts =
      let item = statement_core s ts in in_turn (parted (is_label s) item) (parts_core ss item.temporaries)
