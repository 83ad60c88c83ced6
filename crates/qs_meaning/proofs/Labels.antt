-- The labels of switches in the typed tree stand where they do in the text, and have the values by which the rules on labels go.
use Rattle.std.proofs.Common.{◌≡◌, ℕ, Bool, true, false, Option, Some, None, refl, sym, ap, ◌∙◌, subst, if◌then◌else◌}
use Rattle.std.proofs.lemmas.Option.{same_Some}
use Rattle.qs_syntax.specs.Trees.{StmtTree, empty, expression, declaration, block, switch, case_label, default_label, branch, while_loop, do_loop, for_loop, break, continue, return, Stmts, no_stmts, stmt_and}
use Rattle.qs_memory.specs.Partial.{◌>>=◌}
use Rattle.qs_memory.proofs.Options.{followed}
use Rattle.qs_types.specs.Types.{TypeTree, unsigned, int, same_type}
use Rattle.qs_types.specs.Layout.{and_then}
use Rattle.qs_types.specs.Conversions.{promoted}
use Rattle.qs_types.specs.Constants.{constant_of, converted}
use Rattle.qs_types.specs.StatementRules.{after_statement}
use Rattle.qs_meaning.specs.Typed.{Stmt}
use Rattle.qs_meaning.specs.Typed as typed_trees
use Rattle.qs_meaning.specs.Names.{Scope, within}
use Rattle.qs_meaning.specs.Expressions.{typed}
use Rattle.qs_meaning.specs.Statements.{variables_typed, effect_typed, option_effect, condition_typed, option_condition, start_typed, inner, in_switch, loop_body, in_for, statement_typed, statements_typed, else_typed}
use Rattle.qs_meaning.specs.Fits as fitting
use Rattle.qs_meaning.specs.FitLaws.{is_label, ends_in_label}
use Rattle.qs_meaning.specs.TypedLaws.{CasesHaveValues}

-- ---- values

-- 6.3.1.3: int and unsigned see the same 32 bits
word_stays : (t : TypeTree) (n : ℕ) → converted (promoted t) n ≡ n
word_stays t n = go (same_type t unsigned)
  where
    go : (b : Bool) → converted (if b then unsigned else int) n ≡ n
    go true = refl
    go false = refl

pub cases_have_values : CasesHaveValues
cases_have_values s t e h = go (constant_of s.context e) ∙ ap (λ o. and_then o (λ u. and_then (constant_of s.context e) (λ n. Some (converted u n))) >>= λ n. Some (typed_trees.case_label n)) (sym h)
  where
    go : (o : Option ℕ) → (o >>= λ n. Some (typed_trees.case_label n)) ≡ (and_then o (λ n. Some (converted (promoted t) n)) >>= λ n. Some (typed_trees.case_label n))
    go None = refl
    go (Some n) = ap (λ m. Some (typed_trees.case_label m)) (sym (word_stays t n))

-- ---- places

label_is : (x a : Stmt) (b : Bool) → Some x ≡ Some a → fitting.is_label x ≡ b → fitting.is_label a ≡ b
label_is x a b e h = subst (λ z. fitting.is_label z ≡ b) (same_Some x a e) h

label_same : (s : Scope) (t : StmtTree) (a : Stmt) → statement_typed s t ≡ Some a → fitting.is_label a ≡ is_label t
label_same s (empty node) a q = label_is _ a _ q refl
label_same s (expression node e) a q = label_is _ a _ (followed (effect_typed s e) _ a q).then refl
label_same s (declaration d) a q = label_is _ a _ (followed (variables_typed s d.base d.variables) _ a q).then refl
label_same s (block ss) a q = label_is _ a _ (followed (statements_typed (inner s) ss) _ a q).then refl
label_same s (switch node e ss) a q = label_is _ a _ (followed (statements_typed (in_switch s e) ss) _ a (followed (typed s e) _ a q).then).then refl
label_same s (case_label node e) a q = label_is _ a _ (followed (constant_of s.context e) _ a q).then refl
label_same s (default_label node) a q = label_is _ a _ q refl
label_same s (branch node e t r) a q =
    label_is _ a _ (followed (else_typed s r) _ a (followed (statement_typed (inner s) t) _ a (followed (condition_typed s e) _ a q).then).then).then refl
label_same s (while_loop node e t) a q = label_is _ a _ (followed (statement_typed (loop_body s) t) _ a (followed (condition_typed s e) _ a q).then).then refl
label_same s (do_loop node t e) a q = label_is _ a _ (followed (condition_typed s e) _ a (followed (statement_typed (loop_body s) t) _ a q).then).then refl
label_same s (for_loop node start e u t) a q =
    let x = followed (start_typed (inner s) start) _ a q in
    let y = followed (option_condition (in_for s start) e) _ a x.then in
    let z = followed (option_effect (in_for s start) u) _ a y.then in
    label_is _ a _ (followed (statement_typed (loop_body (in_for s start)) t) _ a z.then).then refl
label_same s (break node) a q = label_is _ a _ q refl
label_same s (continue node) a q = label_is _ a _ q refl
label_same s (return node None) a q = label_is _ a _ q refl
label_same s (return node (Some e)) a q = label_is _ a _ (followed (typed s e) _ a (followed s.context.result _ a q).then).then refl

pub labels_same : (s : Scope) (ts : Stmts) (before : Bool) (list : typed_trees.Stmts) → statements_typed s ts ≡ Some list
    → fitting.ends_in_label before list ≡ ends_in_label before ts
labels_same s no_stmts before list q = subst (λ z. fitting.ends_in_label before z ≡ before) (same_Some _ list q) refl
labels_same s (stmt_and t ts) before list q =
    let x = followed (statement_typed s t) _ list q in
    let y = followed (statements_typed (within s (after_statement s.context t)) ts) _ list x.then in
    subst (λ z. fitting.ends_in_label before z ≡ ends_in_label before (stmt_and t ts)) (same_Some _ list y.then)
    (labels_same (within s (after_statement s.context t)) ts (fitting.is_label x.value) y.value y.first ∙ ap (λ b. ends_in_label b ts) (label_same s t x.value x.first))
