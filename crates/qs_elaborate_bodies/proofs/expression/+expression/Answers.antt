use Rattle.std.proofs.Common.{◌≡◌, ◌||◌, false, ◌++◌, length, take, sym, ap, ◌∙◌}
use Rattle.qs_core.specs.Trees as core
use Rattle.qs_core.specs.TreeOf.{core_expr, core_stmts}
use Rattle.qs_meaning.specs.Typed as trees
use Rattle.qs_typed_trees.specs.TreeOf.{expression_tree, lvalue_tree, assignment_tree, effect_tree, conversion_tree, order_tree}
use Rattle.qs_elaborate_bodies.specs.Laws.{has_any}
use Rattle.qs_elaborate_bodies.specs.Acting.{acts}
use Rattle.qs_elaborate_bodies.specs.Literals.{converted_core}
use Rattle.qs_elaborate_bodies.specs.Lists.{and_behind, or_behind, choice_behind, valued}
use Rattle.qs_elaborate_bodies.specs.Parts.{Valued, Located, pointed, saved_if, address_saved_if}
use Rattle.qs_elaborate_bodies.specs.Expressions.{operation_core, expression_core, lvalue_core, assignment_core, effect_core}
use Rattle.qs_elaborate_bodies.proofs.ActingLaws.{acts_exactly}
use Rattle.qs_elaborate_bodies.proofs.Variants.{and_of, or_of, binary_of, conditional_of, assigned_of, sequence_of, object_of, update_of}
use Rattle.qs_elaborate_bodies.proofs.PushedParts.{address_is, and_is, or_is, choice_is, pushed_behind, value_behind, temporaries_behind, write_pushed, or_quiet_statements, or_quiet_value, or_quiet_temporaries, choice_quiet_statements, choice_quiet_value, choice_quiet_temporaries}
use Rattle.qs_elaborate_bodies.proofs.SettledOperands.{settled_steps, second_steps}
use Rattle.qs_elaborate_bodies.proofs.ExpressionSteps.{valued_is, then_pushed, update_statements, update_value, update_temporaries}
use Rattle.qs_elaborate_bodies.proofs.expression.+expression.Goals as goal

pub address-returns-in_ok-p-in-Object-clause-statements : goal.address-returns-in_ok-p-in-Object-clause-statements
address-returns-in_ok-p-in-Object-clause-statements t c =
    let x = c.deref.result.now in
    let ts = c.args.ts.now.items in
    let is : lvalue_tree c.args.l.now ≡ trees.object (expression_tree x) = object_of c.args.l.now x c.in-Object.a c.in-Object.is c.deref.ensures in
    c.in_ok-p-in-Object.ensures.statements
    ∙ ap (λ (l : Located). core_stmts c.args.out.now.items ++ l.statements) (sym (ap (λ l. address_saved_if c.args.later_acts (lvalue_core l ts)) is ∙ address_is c.args.later_acts (expression_core (expression_tree x) ts)))

pub address-returns-in_ok-p-in-Object-clause-location : goal.address-returns-in_ok-p-in-Object-clause-location
address-returns-in_ok-p-in-Object-clause-location t c =
    let x = c.deref.result.now in
    let ts = c.args.ts.now.items in
    let is : lvalue_tree c.args.l.now ≡ trees.object (expression_tree x) = object_of c.args.l.now x c.in-Object.a c.in-Object.is c.deref.ensures in
    ap pointed c.in_ok-p-in-Object.ensures.value
    ∙ ap (λ (l : Located). l.location) (sym (ap (λ l. address_saved_if c.args.later_acts (lvalue_core l ts)) is ∙ address_is c.args.later_acts (expression_core (expression_tree x) ts)))

pub address-returns-in_ok-p-in-Object-clause-temporaries : goal.address-returns-in_ok-p-in-Object-clause-temporaries
address-returns-in_ok-p-in-Object-clause-temporaries t c =
    let x = c.deref.result.now in
    let ts = c.args.ts.now.items in
    let is : lvalue_tree c.args.l.now ≡ trees.object (expression_tree x) = object_of c.args.l.now x c.in-Object.a c.in-Object.is c.deref.ensures in
    c.in_ok-p-in-Object.ensures.temporaries
    ∙ ap (λ (l : Located). l.temporaries) (sym (ap (λ l. address_saved_if c.args.later_acts (lvalue_core l ts)) is ∙ address_is c.args.later_acts (expression_core (expression_tree x) ts)))

pub assignment-returns-in_ok-value-in-Update-clause-statements : goal.assignment-returns-in_ok-value-in-Update-clause-statements
assignment-returns-in_ok-value-in-Update-clause-statements t c =
    let a = expression_tree c.in-Update.value in
    let ts = c.args.ts.now.items in
    let is = update_of c.args.a.now c.in-Update.scalar c.in-Update.lvalue c.in-Update.operation c.in-Update.before_left c.in-Update.before_right c.in-Update.back c.in-Update.value c.in-Update.is in
    update_statements c.in-Update.scalar (lvalue_tree c.in-Update.lvalue) c.in-Update.operation (conversion_tree c.in-Update.before_left) (conversion_tree c.in-Update.before_right) (conversion_tree c.in-Update.back) a ts _ _ _ _ _ _ _ _ _
    (record {
      located = rw c.acts-later_acts.ensures at c.in_ok-location-in-Update.ensures.statements;
      location = rw c.acts-later_acts.ensures at c.in_ok-location-in-Update.ensures.location;
      temporaries = rw c.acts-later_acts.ensures at c.in_ok-location-in-Update.ensures.temporaries;
      read = c.in_ok-old-in-Update.ensures;
      saved = rw c.acts-later_acts.ensures at c.in_ok-old-in-Update-2.ensures.statements;
      value = rw c.acts-later_acts.ensures at c.in_ok-old-in-Update-2.ensures.value;
      kept = rw c.acts-later_acts.ensures at c.in_ok-old-in-Update-2.ensures.temporaries;
    })
    c.in_ok-new-in-Update.ensures.statements
    ∙ ap (λ e. core_stmts c.args.out.now.items ++ (assignment_core e ts).statements) (sym is)

pub assignment-returns-in_ok-value-in-Update-clause-value : goal.assignment-returns-in_ok-value-in-Update-clause-value
assignment-returns-in_ok-value-in-Update-clause-value t c =
    let a = expression_tree c.in-Update.value in
    let ts = c.args.ts.now.items in
    let is = update_of c.args.a.now c.in-Update.scalar c.in-Update.lvalue c.in-Update.operation c.in-Update.before_left c.in-Update.before_right c.in-Update.back c.in-Update.value c.in-Update.is in
    update_value c.in-Update.scalar (lvalue_tree c.in-Update.lvalue) c.in-Update.operation (conversion_tree c.in-Update.before_left) (conversion_tree c.in-Update.before_right) (conversion_tree c.in-Update.back) a ts _ _ _ _ _ _ _ _ _ _
    (record {
      located = rw c.acts-later_acts.ensures at c.in_ok-location-in-Update.ensures.statements;
      location = rw c.acts-later_acts.ensures at c.in_ok-location-in-Update.ensures.location;
      temporaries = rw c.acts-later_acts.ensures at c.in_ok-location-in-Update.ensures.temporaries;
      read = c.in_ok-old-in-Update.ensures;
      saved = rw c.acts-later_acts.ensures at c.in_ok-old-in-Update-2.ensures.statements;
      value = rw c.acts-later_acts.ensures at c.in_ok-old-in-Update-2.ensures.value;
      kept = rw c.acts-later_acts.ensures at c.in_ok-old-in-Update-2.ensures.temporaries;
    })
    c.in_ok-new-in-Update.ensures.value
    c.in_ok-value-in-Update.ensures
    ∙ ap (λ e. (assignment_core e ts).value) (sym is)

pub assignment-returns-in_ok-value-in-Update-clause-temporaries : goal.assignment-returns-in_ok-value-in-Update-clause-temporaries
assignment-returns-in_ok-value-in-Update-clause-temporaries t c =
    let a = expression_tree c.in-Update.value in
    let ts = c.args.ts.now.items in
    let is = update_of c.args.a.now c.in-Update.scalar c.in-Update.lvalue c.in-Update.operation c.in-Update.before_left c.in-Update.before_right c.in-Update.back c.in-Update.value c.in-Update.is in
    update_temporaries c.in-Update.scalar (lvalue_tree c.in-Update.lvalue) c.in-Update.operation (conversion_tree c.in-Update.before_left) (conversion_tree c.in-Update.before_right) (conversion_tree c.in-Update.back) a ts _ _ _ _ _ _ _ _ _
    (record {
      located = rw c.acts-later_acts.ensures at c.in_ok-location-in-Update.ensures.statements;
      location = rw c.acts-later_acts.ensures at c.in_ok-location-in-Update.ensures.location;
      temporaries = rw c.acts-later_acts.ensures at c.in_ok-location-in-Update.ensures.temporaries;
      read = c.in_ok-old-in-Update.ensures;
      saved = rw c.acts-later_acts.ensures at c.in_ok-old-in-Update-2.ensures.statements;
      value = rw c.acts-later_acts.ensures at c.in_ok-old-in-Update-2.ensures.value;
      kept = rw c.acts-later_acts.ensures at c.in_ok-old-in-Update-2.ensures.temporaries;
    })
    c.in_ok-new-in-Update.ensures.temporaries
    ∙ ap (λ e. (assignment_core e ts).temporaries) (sym is)

pub branch-returns-clause-acted : goal.branch-returns-clause-acted
branch-returns-clause-acted t c =
    let e = expression_tree c.args.e.now in
    ap has_any (rw c.new-statements.ensures.items at c.in_ok-value.ensures.statements) ∙ acts_exactly e c.args.ts.now.items

pub choice-returns-in_ok-w-2-clause-statements : goal.choice-returns-in_ok-w-2-clause-statements
choice-returns-in_ok-w-2-clause-statements t c =
    let b = expression_tree c.args.b.now in
    let s = c.args.s in
    let second = conversion_tree c.args.c in
    let third = conversion_tree c.args.d in
    let v = core_expr c.args.v in
    let ts = c.args.ts.now.items in
    let met : Valued = valued (core_stmts c.args.met.statements.items) (core_expr c.args.met.value) ts in
    let none : (has_any met.statements || acts b) ≡ false = ap (λ z. has_any met.statements || z) (sym c.in_ok-unmet.ensures.acted) ∙ sym c.one_acted-some_acted.ensures ∙ c.if-some_acted.false in
    choice_quiet_statements (core_stmts c.args.out.now.items) s second third v met b none

pub choice-returns-in_ok-w-2-clause-value : goal.choice-returns-in_ok-w-2-clause-value
choice-returns-in_ok-w-2-clause-value t c =
    let b = expression_tree c.args.b.now in
    let s = c.args.s in
    let second = conversion_tree c.args.c in
    let third = conversion_tree c.args.d in
    let v = core_expr c.args.v in
    let ts = c.args.ts.now.items in
    let met : Valued = valued (core_stmts c.args.met.statements.items) (core_expr c.args.met.value) ts in
    let none : (has_any met.statements || acts b) ≡ false = ap (λ z. has_any met.statements || z) (sym c.in_ok-unmet.ensures.acted) ∙ sym c.one_acted-some_acted.ensures ∙ c.if-some_acted.false in
    c.in_ok-w-2.ensures
    ∙ ap (λ x. core.conditional v x (core_expr c.in_ok-unmet-2.unmet.value)) c.in_ok-met.ensures.value
    ∙ ap (λ x. core.conditional v (converted_core second met.value) x)
    (c.in_ok-unmet-2.ensures.value ∙ ap (converted_core third) (c.in_ok-unmet.ensures.value ∙ ap (λ ts. (expression_core b ts).value) c.in_ok-k.ensures.temporaries))
    ∙ choice_quiet_value s second third v met b none

pub choice-returns-in_ok-w-2-clause-temporaries : goal.choice-returns-in_ok-w-2-clause-temporaries
choice-returns-in_ok-w-2-clause-temporaries t c =
    let b = expression_tree c.args.b.now in
    let s = c.args.s in
    let second = conversion_tree c.args.c in
    let third = conversion_tree c.args.d in
    let v = core_expr c.args.v in
    let ts = c.args.ts.now.items in
    let met : Valued = valued (core_stmts c.args.met.statements.items) (core_expr c.args.met.value) ts in
    let none : (has_any met.statements || acts b) ≡ false = ap (λ z. has_any met.statements || z) (sym c.in_ok-unmet.ensures.acted) ∙ sym c.one_acted-some_acted.ensures ∙ c.if-some_acted.false in
    c.truncate.ensures.items
    ∙ ap (λ k. take k c.branch-b.new.ts.items) c.in_ok-k.ensures.number
    ∙ ap (take (length ts)) (c.in_ok-unmet.ensures.temporaries ∙ ap (λ ts. (expression_core b ts).temporaries) c.in_ok-k.ensures.temporaries)
    ∙ choice_quiet_temporaries s second third v met b none

pub disjunction-returns-in_ok-w-2-clause-statements : goal.disjunction-returns-in_ok-w-2-clause-statements
disjunction-returns-in_ok-w-2-clause-statements t c =
    let b = expression_tree c.args.b.now in
    let v = core_expr c.args.v in
    let ts = c.args.ts.now.items in
    let none : acts b ≡ false = sym c.in_ok-b.ensures.acted ∙ sym c.acted.ensures ∙ c.if-acted.false in
    or_quiet_statements (core_stmts c.args.out.now.items) v b ts none

pub disjunction-returns-in_ok-w-2-clause-value : goal.disjunction-returns-in_ok-w-2-clause-value
disjunction-returns-in_ok-w-2-clause-value t c =
    let b = expression_tree c.args.b.now in
    let v = core_expr c.args.v in
    let ts = c.args.ts.now.items in
    let none : acts b ≡ false = sym c.in_ok-b.ensures.acted ∙ sym c.acted.ensures ∙ c.if-acted.false in
    c.in_ok-w-2.ensures
    ∙ ap (core.logical_or v) (c.in_ok-b.ensures.value ∙ ap (λ ts. (expression_core b ts).value) c.in_ok-k.ensures.temporaries)
    ∙ or_quiet_value v b ts none

pub disjunction-returns-in_ok-w-2-clause-temporaries : goal.disjunction-returns-in_ok-w-2-clause-temporaries
disjunction-returns-in_ok-w-2-clause-temporaries t c =
    let b = expression_tree c.args.b.now in
    let v = core_expr c.args.v in
    let ts = c.args.ts.now.items in
    let none : acts b ≡ false = sym c.in_ok-b.ensures.acted ∙ sym c.acted.ensures ∙ c.if-acted.false in
    c.truncate.ensures.items
    ∙ ap (λ k. take k c.branch-b.new.ts.items) c.in_ok-k.ensures.number
    ∙ ap (take (length ts)) (c.in_ok-b.ensures.temporaries ∙ ap (λ ts. (expression_core b ts).temporaries) c.in_ok-k.ensures.temporaries)
    ∙ or_quiet_temporaries v b ts none

pub expression-returns-in_ok-x-in-Binary-clause-statements : goal.expression-returns-in_ok-x-in-Binary-clause-statements
expression-returns-in_ok-x-in-Binary-clause-statements t c =
    let a = expression_tree c.deref-in-Binary.result.now in
    let b = expression_tree c.deref-in-Binary-2.result.now in
    let ts = c.args.ts.now.items in
    let g : Valued = expression_core a ts in
    let is = binary_of c.args.e.now c.deref-in-Binary.result.now c.deref-in-Binary-2.result.now c.in-Binary.operation c.in-Binary.order c.in-Binary.before_left c.in-Binary.before_right c.in-Binary.left c.in-Binary.right c.in-Binary.is c.deref-in-Binary.ensures c.deref-in-Binary-2.ensures in
    let settled = settled_steps (core_stmts c.args.out.now.items) _ _ _ g _ _ _ _ _ b
    c.in_ok-v-in-Binary.ensures.statements c.in_ok-v-in-Binary.ensures.value c.in_ok-v-in-Binary.ensures.temporaries
    c.in_ok-reserved-in-Binary.ensures.reserved c.in_ok-reserved-in-Binary.ensures.statements c.in_ok-reserved-in-Binary.ensures.temporaries
    c.in_ok-w-in-Binary.ensures.statements c.in_ok-w-in-Binary.ensures.temporaries in
    c.settle-v.ensures.statements
    ∙ ap (λ (g : Valued). g.statements) settled
    ∙ ap (λ e. core_stmts c.args.out.now.items ++ (expression_core e ts).statements) (sym is)

pub expression-returns-in_ok-x-in-Binary-clause-value : goal.expression-returns-in_ok-x-in-Binary-clause-value
expression-returns-in_ok-x-in-Binary-clause-value t c =
    let a = expression_tree c.deref-in-Binary.result.now in
    let b = expression_tree c.deref-in-Binary-2.result.now in
    let ts = c.args.ts.now.items in
    let g : Valued = expression_core a ts in
    let is = binary_of c.args.e.now c.deref-in-Binary.result.now c.deref-in-Binary-2.result.now c.in-Binary.operation c.in-Binary.order c.in-Binary.before_left c.in-Binary.before_right c.in-Binary.left c.in-Binary.right c.in-Binary.is c.deref-in-Binary.ensures c.deref-in-Binary-2.ensures in
    let settled = settled_steps (core_stmts c.args.out.now.items) _ _ _ g _ _ _ _ _ b
    c.in_ok-v-in-Binary.ensures.statements c.in_ok-v-in-Binary.ensures.value c.in_ok-v-in-Binary.ensures.temporaries
    c.in_ok-reserved-in-Binary.ensures.reserved c.in_ok-reserved-in-Binary.ensures.statements c.in_ok-reserved-in-Binary.ensures.temporaries
    c.in_ok-w-in-Binary.ensures.statements c.in_ok-w-in-Binary.ensures.temporaries in
    let operated = operation_core c.in-Binary.operation (order_tree c.in-Binary.order) (conversion_tree c.in-Binary.before_left) (conversion_tree c.in-Binary.before_right) in
    c.in_ok-x-in-Binary.ensures
    ∙ ap (λ x. operated x (core_expr c.in_ok-w-in-Binary.w)) (c.settle-v.ensures.value ∙ ap (λ (g : Valued). g.value) settled)
    ∙ ap (operated (saved_if (acts b) g).value)
    (c.in_ok-w-in-Binary.ensures.value
    ∙ second_steps g _ _ _ b c.in_ok-v-in-Binary.ensures.value c.in_ok-v-in-Binary.ensures.temporaries c.in_ok-reserved-in-Binary.ensures.temporaries)
    ∙ ap (λ e. (expression_core e ts).value) (sym is)

pub expression-returns-in_ok-x-in-Binary-clause-temporaries : goal.expression-returns-in_ok-x-in-Binary-clause-temporaries
expression-returns-in_ok-x-in-Binary-clause-temporaries t c =
    let a = expression_tree c.deref-in-Binary.result.now in
    let b = expression_tree c.deref-in-Binary-2.result.now in
    let ts = c.args.ts.now.items in
    let g : Valued = expression_core a ts in
    let is = binary_of c.args.e.now c.deref-in-Binary.result.now c.deref-in-Binary-2.result.now c.in-Binary.operation c.in-Binary.order c.in-Binary.before_left c.in-Binary.before_right c.in-Binary.left c.in-Binary.right c.in-Binary.is c.deref-in-Binary.ensures c.deref-in-Binary-2.ensures in
    let settled = settled_steps (core_stmts c.args.out.now.items) _ _ _ g _ _ _ _ _ b
    c.in_ok-v-in-Binary.ensures.statements c.in_ok-v-in-Binary.ensures.value c.in_ok-v-in-Binary.ensures.temporaries
    c.in_ok-reserved-in-Binary.ensures.reserved c.in_ok-reserved-in-Binary.ensures.statements c.in_ok-reserved-in-Binary.ensures.temporaries
    c.in_ok-w-in-Binary.ensures.statements c.in_ok-w-in-Binary.ensures.temporaries in
    c.settle-v.ensures.temporaries
    ∙ ap (λ (g : Valued). g.temporaries) settled
    ∙ ap (λ e. (expression_core e ts).temporaries) (sym is)

pub expression-returns-in_ok-w-in-LogicalAnd-clause-statements : goal.expression-returns-in_ok-w-in-LogicalAnd-clause-statements
expression-returns-in_ok-w-in-LogicalAnd-clause-statements t c =
    let a = expression_tree c.deref-in-LogicalAnd.result.now in
    let b = expression_tree c.deref-in-LogicalAnd-2.result.now in
    let ts = c.args.ts.now.items in
    let is = and_of c.args.e.now c.deref-in-LogicalAnd.result.now c.deref-in-LogicalAnd-2.result.now c.in-LogicalAnd.a c.in-LogicalAnd.b c.in-LogicalAnd.is c.deref-in-LogicalAnd.ensures c.deref-in-LogicalAnd-2.ensures in
    let whole = ap (λ e. expression_core e ts) is ∙ and_is a b ts in
    pushed_behind (λ v ts. and_behind v b ts) (expression_core a ts) (expression_core (expression_tree c.args.e.now) ts) _ _ _ _ _ whole
    c.in_ok-v-in-LogicalAnd.ensures.statements c.in_ok-v-in-LogicalAnd.ensures.value c.in_ok-v-in-LogicalAnd.ensures.temporaries c.in_ok-w-in-LogicalAnd.ensures.statements

pub expression-returns-in_ok-w-in-LogicalAnd-clause-value : goal.expression-returns-in_ok-w-in-LogicalAnd-clause-value
expression-returns-in_ok-w-in-LogicalAnd-clause-value t c =
    let a = expression_tree c.deref-in-LogicalAnd.result.now in
    let b = expression_tree c.deref-in-LogicalAnd-2.result.now in
    let ts = c.args.ts.now.items in
    let is = and_of c.args.e.now c.deref-in-LogicalAnd.result.now c.deref-in-LogicalAnd-2.result.now c.in-LogicalAnd.a c.in-LogicalAnd.b c.in-LogicalAnd.is c.deref-in-LogicalAnd.ensures c.deref-in-LogicalAnd-2.ensures in
    let whole = ap (λ e. expression_core e ts) is ∙ and_is a b ts in
    value_behind (λ v ts. and_behind v b ts) (expression_core a ts) (expression_core (expression_tree c.args.e.now) ts) _ _ _ whole
    c.in_ok-v-in-LogicalAnd.ensures.value c.in_ok-v-in-LogicalAnd.ensures.temporaries c.in_ok-w-in-LogicalAnd.ensures.value

pub expression-returns-in_ok-w-in-LogicalAnd-clause-temporaries : goal.expression-returns-in_ok-w-in-LogicalAnd-clause-temporaries
expression-returns-in_ok-w-in-LogicalAnd-clause-temporaries t c =
    let a = expression_tree c.deref-in-LogicalAnd.result.now in
    let b = expression_tree c.deref-in-LogicalAnd-2.result.now in
    let ts = c.args.ts.now.items in
    let is = and_of c.args.e.now c.deref-in-LogicalAnd.result.now c.deref-in-LogicalAnd-2.result.now c.in-LogicalAnd.a c.in-LogicalAnd.b c.in-LogicalAnd.is c.deref-in-LogicalAnd.ensures c.deref-in-LogicalAnd-2.ensures in
    let whole = ap (λ e. expression_core e ts) is ∙ and_is a b ts in
    temporaries_behind (λ v ts. and_behind v b ts) (expression_core a ts) (expression_core (expression_tree c.args.e.now) ts) _ _ _ whole
    c.in_ok-v-in-LogicalAnd.ensures.value c.in_ok-v-in-LogicalAnd.ensures.temporaries c.in_ok-w-in-LogicalAnd.ensures.temporaries

pub expression-returns-in_ok-w-in-LogicalOr-clause-statements : goal.expression-returns-in_ok-w-in-LogicalOr-clause-statements
expression-returns-in_ok-w-in-LogicalOr-clause-statements t c =
    let a = expression_tree c.deref-in-LogicalOr.result.now in
    let b = expression_tree c.deref-in-LogicalOr-2.result.now in
    let ts = c.args.ts.now.items in
    let is = or_of c.args.e.now c.deref-in-LogicalOr.result.now c.deref-in-LogicalOr-2.result.now c.in-LogicalOr.a c.in-LogicalOr.b c.in-LogicalOr.is c.deref-in-LogicalOr.ensures c.deref-in-LogicalOr-2.ensures in
    let whole = ap (λ e. expression_core e ts) is ∙ or_is a b ts in
    pushed_behind (λ v ts. or_behind v b ts) (expression_core a ts) (expression_core (expression_tree c.args.e.now) ts) _ _ _ _ _ whole
    c.in_ok-v-in-LogicalOr.ensures.statements c.in_ok-v-in-LogicalOr.ensures.value c.in_ok-v-in-LogicalOr.ensures.temporaries c.in_ok-w-in-LogicalOr.ensures.statements

pub expression-returns-in_ok-w-in-LogicalOr-clause-value : goal.expression-returns-in_ok-w-in-LogicalOr-clause-value
expression-returns-in_ok-w-in-LogicalOr-clause-value t c =
    let a = expression_tree c.deref-in-LogicalOr.result.now in
    let b = expression_tree c.deref-in-LogicalOr-2.result.now in
    let ts = c.args.ts.now.items in
    let is = or_of c.args.e.now c.deref-in-LogicalOr.result.now c.deref-in-LogicalOr-2.result.now c.in-LogicalOr.a c.in-LogicalOr.b c.in-LogicalOr.is c.deref-in-LogicalOr.ensures c.deref-in-LogicalOr-2.ensures in
    let whole = ap (λ e. expression_core e ts) is ∙ or_is a b ts in
    value_behind (λ v ts. or_behind v b ts) (expression_core a ts) (expression_core (expression_tree c.args.e.now) ts) _ _ _ whole
    c.in_ok-v-in-LogicalOr.ensures.value c.in_ok-v-in-LogicalOr.ensures.temporaries c.in_ok-w-in-LogicalOr.ensures.value

pub expression-returns-in_ok-w-in-LogicalOr-clause-temporaries : goal.expression-returns-in_ok-w-in-LogicalOr-clause-temporaries
expression-returns-in_ok-w-in-LogicalOr-clause-temporaries t c =
    let a = expression_tree c.deref-in-LogicalOr.result.now in
    let b = expression_tree c.deref-in-LogicalOr-2.result.now in
    let ts = c.args.ts.now.items in
    let is = or_of c.args.e.now c.deref-in-LogicalOr.result.now c.deref-in-LogicalOr-2.result.now c.in-LogicalOr.a c.in-LogicalOr.b c.in-LogicalOr.is c.deref-in-LogicalOr.ensures c.deref-in-LogicalOr-2.ensures in
    let whole = ap (λ e. expression_core e ts) is ∙ or_is a b ts in
    temporaries_behind (λ v ts. or_behind v b ts) (expression_core a ts) (expression_core (expression_tree c.args.e.now) ts) _ _ _ whole
    c.in_ok-v-in-LogicalOr.ensures.value c.in_ok-v-in-LogicalOr.ensures.temporaries c.in_ok-w-in-LogicalOr.ensures.temporaries

pub expression-returns-in_ok-w-in-Conditional-clause-statements : goal.expression-returns-in_ok-w-in-Conditional-clause-statements
expression-returns-in_ok-w-in-Conditional-clause-statements t c =
    let a = expression_tree c.deref-in-Conditional.result.now in
    let b = expression_tree c.deref-in-Conditional-2.result.now in
    let e = expression_tree c.deref-in-Conditional-3.result.now in
    let s = c.in-Conditional.scalar in
    let second = conversion_tree c.in-Conditional.before_then in
    let third = conversion_tree c.in-Conditional.before_otherwise in
    let ts = c.args.ts.now.items in
    let is = conditional_of c.args.e.now c.deref-in-Conditional.result.now c.deref-in-Conditional-2.result.now c.deref-in-Conditional-3.result.now
    s c.in-Conditional.condition c.in-Conditional.before_then c.in-Conditional.before_otherwise c.in-Conditional.then c.in-Conditional.otherwise
    c.in-Conditional.is c.deref-in-Conditional.ensures c.deref-in-Conditional-2.ensures c.deref-in-Conditional-3.ensures in
    let whole = ap (λ e. expression_core e ts) is ∙ choice_is s a second third b e ts in
    let met = valued_is (expression_core b c.expression-in-Conditional.new.ts.items) _ _ _
    c.in_ok-met-in-Conditional.ensures.statements c.in_ok-met-in-Conditional.ensures.value c.in_ok-met-in-Conditional.ensures.temporaries in
    let v = core_expr c.in_ok-v-in-Conditional.v in
    pushed_behind (λ v ts. choice_behind s second third v (expression_core b ts) e) (expression_core a ts) (expression_core (expression_tree c.args.e.now) ts) _ _ _ _ _ whole
    c.in_ok-v-in-Conditional.ensures.statements c.in_ok-v-in-Conditional.ensures.value c.in_ok-v-in-Conditional.ensures.temporaries
    (c.in_ok-w-in-Conditional.ensures.statements ∙ ap (λ m. core_stmts c.expression-in-Conditional.new.out.items ++ (choice_behind s second third v m e).statements) met)

pub expression-returns-in_ok-w-in-Conditional-clause-value : goal.expression-returns-in_ok-w-in-Conditional-clause-value
expression-returns-in_ok-w-in-Conditional-clause-value t c =
    let a = expression_tree c.deref-in-Conditional.result.now in
    let b = expression_tree c.deref-in-Conditional-2.result.now in
    let e = expression_tree c.deref-in-Conditional-3.result.now in
    let s = c.in-Conditional.scalar in
    let second = conversion_tree c.in-Conditional.before_then in
    let third = conversion_tree c.in-Conditional.before_otherwise in
    let ts = c.args.ts.now.items in
    let is = conditional_of c.args.e.now c.deref-in-Conditional.result.now c.deref-in-Conditional-2.result.now c.deref-in-Conditional-3.result.now
    s c.in-Conditional.condition c.in-Conditional.before_then c.in-Conditional.before_otherwise c.in-Conditional.then c.in-Conditional.otherwise
    c.in-Conditional.is c.deref-in-Conditional.ensures c.deref-in-Conditional-2.ensures c.deref-in-Conditional-3.ensures in
    let whole = ap (λ e. expression_core e ts) is ∙ choice_is s a second third b e ts in
    let met = valued_is (expression_core b c.expression-in-Conditional.new.ts.items) _ _ _
    c.in_ok-met-in-Conditional.ensures.statements c.in_ok-met-in-Conditional.ensures.value c.in_ok-met-in-Conditional.ensures.temporaries in
    let v = core_expr c.in_ok-v-in-Conditional.v in
    value_behind (λ v ts. choice_behind s second third v (expression_core b ts) e) (expression_core a ts) (expression_core (expression_tree c.args.e.now) ts) _ _ _ whole
    c.in_ok-v-in-Conditional.ensures.value c.in_ok-v-in-Conditional.ensures.temporaries
    (c.in_ok-w-in-Conditional.ensures.value ∙ ap (λ m. (choice_behind s second third v m e).value) met)

pub expression-returns-in_ok-w-in-Conditional-clause-temporaries : goal.expression-returns-in_ok-w-in-Conditional-clause-temporaries
expression-returns-in_ok-w-in-Conditional-clause-temporaries t c =
    let a = expression_tree c.deref-in-Conditional.result.now in
    let b = expression_tree c.deref-in-Conditional-2.result.now in
    let e = expression_tree c.deref-in-Conditional-3.result.now in
    let s = c.in-Conditional.scalar in
    let second = conversion_tree c.in-Conditional.before_then in
    let third = conversion_tree c.in-Conditional.before_otherwise in
    let ts = c.args.ts.now.items in
    let is = conditional_of c.args.e.now c.deref-in-Conditional.result.now c.deref-in-Conditional-2.result.now c.deref-in-Conditional-3.result.now
    s c.in-Conditional.condition c.in-Conditional.before_then c.in-Conditional.before_otherwise c.in-Conditional.then c.in-Conditional.otherwise
    c.in-Conditional.is c.deref-in-Conditional.ensures c.deref-in-Conditional-2.ensures c.deref-in-Conditional-3.ensures in
    let whole = ap (λ e. expression_core e ts) is ∙ choice_is s a second third b e ts in
    let met = valued_is (expression_core b c.expression-in-Conditional.new.ts.items) _ _ _
    c.in_ok-met-in-Conditional.ensures.statements c.in_ok-met-in-Conditional.ensures.value c.in_ok-met-in-Conditional.ensures.temporaries in
    let v = core_expr c.in_ok-v-in-Conditional.v in
    temporaries_behind (λ v ts. choice_behind s second third v (expression_core b ts) e) (expression_core a ts) (expression_core (expression_tree c.args.e.now) ts) _ _ _ whole
    c.in_ok-v-in-Conditional.ensures.value c.in_ok-v-in-Conditional.ensures.temporaries
    (c.in_ok-w-in-Conditional.ensures.temporaries ∙ ap (λ m. (choice_behind s second third v m e).temporaries) met)

pub expression-returns-in_ok-v-in-Assigned-clause-statements : goal.expression-returns-in_ok-v-in-Assigned-clause-statements
expression-returns-in_ok-v-in-Assigned-clause-statements t c =
    let x = c.deref-in-Assigned.result.now in
    let ts = c.args.ts.now.items in
    let is = assigned_of c.args.e.now x c.in-Assigned.a c.in-Assigned.is c.deref-in-Assigned.ensures in
    write_pushed (assignment_core (assignment_tree x) ts) _ _ _ _ (core_stmts c.args.out.now.items) _ _
    c.in_ok-w-in-Assigned.ensures.scalar c.in_ok-w-in-Assigned.ensures.location c.in_ok-w-in-Assigned.ensures.value c.in_ok-w-in-Assigned.ensures.temporaries c.in_ok-w-in-Assigned.ensures.statements c.in_ok-v-in-Assigned.ensures.statements
    ∙ ap (λ e. core_stmts c.args.out.now.items ++ (expression_core e ts).statements) (sym is)

pub expression-returns-in_ok-v-in-Sequence-clause-statements : goal.expression-returns-in_ok-v-in-Sequence-clause-statements
expression-returns-in_ok-v-in-Sequence-clause-statements t c =
    let x = effect_tree c.deref-in-Sequence.result.now in
    let b = expression_tree c.deref-in-Sequence-2.result.now in
    let ts = c.args.ts.now.items in
    let is = sequence_of c.args.e.now c.deref-in-Sequence.result.now c.deref-in-Sequence-2.result.now c.in-Sequence.a c.in-Sequence.b c.in-Sequence.is c.deref-in-Sequence.ensures c.deref-in-Sequence-2.ensures in
    then_pushed (core_stmts c.args.out.now.items) _ _ (effect_core x ts).statements (λ ts. (expression_core b ts).statements) _ (effect_core x ts).temporaries
    c.in_ok-effect-in-Sequence.ensures.statements c.in_ok-effect-in-Sequence.ensures.temporaries c.in_ok-v-in-Sequence.ensures.statements
    ∙ ap (λ e. core_stmts c.args.out.now.items ++ (expression_core e ts).statements) (sym is)
