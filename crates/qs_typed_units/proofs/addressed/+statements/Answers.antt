use Rattle.std.proofs.Common.{◌≡◌, ℕ, List, ◌++◌, Result, Ok, Err, OnOk, ap, ◌∙◌, append_assoc}
use Rattle.qs_typed_units.proofs.Variants.{branch_tree, do_loop_tree, for_loop_tree, switch_tree, while_loop_tree}
use Rattle.qs_typed_units.proofs.addressed.+statements.Goals as goal

-- what is added first and what is added then, which may fail, are added together
then_added : {A E : Type 0} (old new end xs ys : List ℕ) (r : Result A E) → new ≡ old ++ xs → OnOk r (end ≡ new ++ ys) → OnOk r (end ≡ old ++ (xs ++ ys))
then_added old new end xs ys (Ok x) p q = q ∙ ap (λ l. l ++ ys) p ∙ append_assoc old xs ys
then_added old new end xs ys (Err e) p q = tt

pub statement_addressed-returns-in_ok-statement_addressed-in-If : goal.statement_addressed-returns-in_ok-statement_addressed-in-If
statement_addressed-returns-in_ok-statement_addressed-in-If t c =
    let end = c.else_addressed.new.nodes.items in
    rw (c.in-If.is, branch_tree, ← c.deref-in-If.ensures)
    (then_added c.args.nodes.now.items c.addressed_known-in-If.new.nodes.items end _ _ c.else_addressed.result c.in_ok-addressed_known-in-If.ensures
    (then_added c.addressed_known-in-If.new.nodes.items c.statement_addressed.new.nodes.items end _ _ c.else_addressed.result c.in_ok-statement_addressed-in-If.ensures c.else_addressed.ensures))

pub statement_addressed-returns-in_ok-addressed_known-in-While : goal.statement_addressed-returns-in_ok-addressed_known-in-While
statement_addressed-returns-in_ok-addressed_known-in-While t c =
    rw (c.in-While.is, while_loop_tree, ← c.deref-in-While.ensures)
    (then_added c.args.nodes.now.items c.addressed_known-in-While.new.nodes.items c.statement_addressed-in-While.new.nodes.items _ _ c.statement_addressed-in-While.result
    c.in_ok-addressed_known-in-While.ensures c.statement_addressed-in-While.ensures)

pub statement_addressed-returns-in_ok-addressed_known-in-Switch : goal.statement_addressed-returns-in_ok-addressed_known-in-Switch
statement_addressed-returns-in_ok-addressed_known-in-Switch t c =
    rw (c.in-Switch.is, switch_tree, ← c.deref-in-Switch.ensures.value)
    (then_added c.args.nodes.now.items c.addressed_known-in-Switch.new.nodes.items c.statements_addressed-in-Switch.new.nodes.items _ _ c.statements_addressed-in-Switch.result
    c.in_ok-addressed_known-in-Switch.ensures c.statements_addressed-in-Switch.ensures)

pub statement_addressed-returns-in_ok-statement_addressed-in-Do : goal.statement_addressed-returns-in_ok-statement_addressed-in-Do
statement_addressed-returns-in_ok-statement_addressed-in-Do t c =
    rw (c.in-Do.is, do_loop_tree, ← c.deref-in-Do.ensures)
    (then_added c.args.nodes.now.items c.statement_addressed-in-Do.new.nodes.items c.addressed_known-in-Do.new.nodes.items _ _ c.addressed_known-in-Do.result
    c.in_ok-statement_addressed-in-Do.ensures c.addressed_known-in-Do.ensures)

pub statement_addressed-returns-in_ok-option_addressed-in-For-2 : goal.statement_addressed-returns-in_ok-option_addressed-in-For-2
statement_addressed-returns-in_ok-option_addressed-in-For-2 t c =
    let end = c.statement_addressed-in-For.new.nodes.items in
    rw (c.in-For.is, for_loop_tree, ← c.deref-in-For.ensures)
    (then_added c.args.nodes.now.items c.start_addressed.new.nodes.items end _ _ c.statement_addressed-in-For.result c.in_ok-start_addressed-in-For.ensures
    (then_added c.start_addressed.new.nodes.items c.option_addressed.new.nodes.items end _ _ c.statement_addressed-in-For.result c.in_ok-option_addressed-in-For.ensures
    (then_added c.option_addressed.new.nodes.items c.option_addressed-in-For.new.nodes.items end _ _ c.statement_addressed-in-For.result c.in_ok-option_addressed-in-For-2.ensures
    c.statement_addressed-in-For.ensures)))
