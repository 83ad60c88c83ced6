-- The items of a switch: labels and parts.
use Rattle.std.proofs.Common.{◌≡◌, ℕ, ◌+◌, false, [], ◌∷◌, refl}
use Rattle.qs_meaning.specs.Typed.{Stmt, evaluate, block, switch, case_label, default_label, branch, while_loop, do_loop, for_loop, break, continue, return, return_nothing, Stmts, stmt_and}
use Rattle.qs_meaning.specs.Meaning.{is_case, is_default}
use Rattle.qs_meaning.specs.Fits.{is_label}
use Rattle.qs_elaborate_bodies.specs.Parts.{Temporaries, one_statement}
use Rattle.qs_elaborate_bodies.specs.Statements.{label_before, labels_core, statement_core, parts_core}

-- no label
pub record IsPart (s : Stmt) : Type 0 where
  pub is : is_label s ≡ false
  pub before : (part : ℕ) → label_before part s ≡ []
  pub no_case : (n : ℕ) → is_case n s ≡ false
  pub no_default : is_default s ≡ false

pub data Item : Stmt → Type 0 where
  a_case : (n : ℕ) → Item (case_label n)
  a_default : Item default_label
  a_part : (s : Stmt) → IsPart s → Item s

pub item_of : (s : Stmt) → Item s
item_of (evaluate a) = a_part (evaluate a) (record { is = refl; before = λ part. refl; no_case = λ n. refl; no_default = refl })
item_of (block ss) = a_part (block ss) (record { is = refl; before = λ part. refl; no_case = λ n. refl; no_default = refl })
item_of (switch c e ss) = a_part (switch c e ss) (record { is = refl; before = λ part. refl; no_case = λ n. refl; no_default = refl })
item_of (case_label n) = a_case n
item_of default_label = a_default
item_of (branch e a b) = a_part (branch e a b) (record { is = refl; before = λ part. refl; no_case = λ n. refl; no_default = refl })
item_of (while_loop e a) = a_part (while_loop e a) (record { is = refl; before = λ part. refl; no_case = λ n. refl; no_default = refl })
item_of (do_loop a e) = a_part (do_loop a e) (record { is = refl; before = λ part. refl; no_case = λ n. refl; no_default = refl })
item_of (for_loop start e step a) = a_part (for_loop start e step a) (record { is = refl; before = λ part. refl; no_case = λ n. refl; no_default = refl })
item_of break = a_part break (record { is = refl; before = λ part. refl; no_case = λ n. refl; no_default = refl })
item_of continue = a_part continue (record { is = refl; before = λ part. refl; no_case = λ n. refl; no_default = refl })
item_of (return c e) = a_part (return c e) (record { is = refl; before = λ part. refl; no_case = λ n. refl; no_default = refl })
item_of return_nothing = a_part return_nothing (record { is = refl; before = λ part. refl; no_case = λ n. refl; no_default = refl })

-- ---- what an item that is no label adds

pub part_first : (s : Stmt) (ss : Stmts) (ts : Temporaries) → IsPart s
    → (parts_core (stmt_and s ss) ts).statements ≡ one_statement (statement_core s ts).statements ∷ (parts_core ss (statement_core s ts).temporaries).statements
part_first s ss ts p = rw p.is refl

pub part_labels : (s : Stmt) (ss : Stmts) (part : ℕ) → IsPart s → labels_core part (stmt_and s ss) ≡ labels_core (part + 1) ss
part_labels s ss part p = rw (p.before part, p.is) refl
