-- The typed tree of a statement fits.
use Rattle.std.proofs.Common.{◌≡◌, ℕ, Bool, true, false, not, ◌&&◌, ◌||◌, List, [], ◌∷◌, ◌++◌, Option, Some, None, is_some, refl, sym, ap, ◌∙◌, subst, if◌then◌else◌}
use Rattle.std.specs.List.{list_all}
use Rattle.std.proofs.lemmas.Bool.{and_from}
use Rattle.std.specs.Cmp.{first_so, second_so}
use Rattle.std.proofs.lemmas.Option.{same_Some}
use Rattle.qs_syntax.specs.declared.nodes.Node.{Node}
use Rattle.qs_syntax.specs.declared.types.Base.{Base}
use Rattle.qs_syntax.specs.Trees.{ExprTree, InitialiserTree, VariableTree, StartTree, no_start, start_expression, start_declaration, StmtTree, empty, expression, declaration, block, switch, case_label, default_label, branch, while_loop, do_loop, for_loop, break, continue, return, Stmts, no_stmts, stmt_and, Else, no_else, else_by}
use Rattle.qs_syntax.specs.Trees as trees
use Rattle.qs_memory.proofs.Options.{followed}
use Rattle.qs_calls.specs.Starts.{Interface}
use Rattle.qs_types.specs.Types.{TypeTree, int, unsigned, is_void, same_type, Structs}
use Rattle.qs_types.specs.Rules.{Test, keeps, breaks_one, faults_of}
use Rattle.qs_types.specs.declared.rules.Rule.TheVariants as rules
use Rattle.qs_types.specs.Contexts.{local_variable, Context, inner_scope, inside_loop, with_case, with_default}
use Rattle.qs_types.specs.Conversions.{decayed, promoted}
use Rattle.qs_types.specs.Constants.{constant_of}
use Rattle.qs_types.specs.Expressions.{type_of}
use Rattle.qs_types.specs.ExpressionFaults.{whole}
use Rattle.qs_types.specs.Declarations.{lengths_faults, variable_declared}
use Rattle.qs_types.specs.InitialiserRules.{element_fits, is_typed, initialiser_tests, initialiser_faults}
use Rattle.qs_types.specs.InitialiserRules as initialising
use Rattle.qs_types.specs.StatementRules.{after_variable, after_variables, again_tests, variable_tests, variable_faults, option_initialiser_faults, variables_faults, condition_tests, condition_faults, option_condition_tests, option_typed, return_tests, returns, switch_tests, switch_faults, switch_context, case_value, after_start, start_faults, after_statement, for_context, break_tests, continue_tests, for_tests, for_faults, statement_faults, statements_faults, else_faults}
use Rattle.qs_types.specs.StatementRules as rule_starts
use Rattle.qs_types.specs.Placed.{Local, variables_locals, start_locals, statement_locals, statements_locals, else_locals}
use Rattle.qs_types.specs.References.{TextBlock}
use Rattle.qs_types.specs.Sites.{Site, site, option_sites, declarator_sites, option_initialiser_sites, variable_sites, variables_sites, start_sites, statement_sites, statements_sites, else_sites}
use Rattle.qs_meaning.specs.Typed.{Expr, Effect, Stmt, Function}
use Rattle.qs_meaning.specs.Typed as typed_trees
use Rattle.qs_meaning.specs.Conversions.{scalar_of, conversion}
use Rattle.qs_meaning.specs.Forms.{TypedExpr, type_in_use, value_in_use}
use Rattle.qs_meaning.specs.Names.{Scope, within, local_lvalue, text_object}
use Rattle.qs_meaning.specs.Expressions.{typed}
use Rattle.qs_meaning.specs.Units.{result_scalar}
use Rattle.qs_meaning.specs.Statements.{initialised, variable_typed, variables_typed, effect_typed, option_effect, condition_typed, option_condition, start_typed, return_typed, statement_typed, statements_typed, else_typed}
use Rattle.qs_meaning.specs.Fits as fitting
use Rattle.qs_meaning.specs.Fits.{is_null, conversion_fits, operand_fits, expr_fits, lvalue_fits, effect_fits, object_there, returned_fits, option_fits, stmt_fits, stmts_fit}
use Rattle.qs_meaning.specs.FitLaws.{is_filled, ends_in_label, variables_filled, start_filled, statement_filled, statements_filled, else_filled}
use Rattle.qs_meaning.proofs.Options.{never, all_left, all_right}
use Rattle.qs_meaning.proofs.FaultlessExpressions.{HasTypes, none_left, none_right, unbroken, second_unbroken, type_of_known}
use Rattle.qs_meaning.proofs.TypedExpressions.{kept}
use Rattle.qs_meaning.proofs.Bodies.{not_held_back}
use Rattle.qs_memory.specs.Scalars.{is_promoted}
use Rattle.qs_memory.proofs.ScalarLaws.{scalar_same}
use Rattle.qs_meaning.proofs.Labels.{labels_same}
use Rattle.qs_meaning.proofs.ConstantWords.{constant_word}
use Rattle.qs_meaning.proofs.FitConversions.{Integer, an_int, an_unsigned, a_char, integer, integers_convert}
use Rattle.qs_meaning.proofs.FitForms.{integer_solid, FormFits, result_of, scalar_solid, in_use, effect_there, becomes_there, null_value, assignable}
use Rattle.qs_meaning.proofs.FitTypes.{is_small, SmallTable, SmallNames}
use Rattle.qs_meaning.proofs.FitLeaves.{is_sure, is_short, places, EntityFits, AllFit, entity_found, names_typed}
use Rattle.qs_meaning.proofs.FitSmall.{Place}
use Rattle.qs_meaning.proofs.FitExpressions.{typed_type, expression_there}
use Rattle.qs_meaning.proofs.FitInitialisers.{LocalPlace, site_sure, local_there}
use Rattle.qs_meaning.proofs.FitDeclarations.{SizedType, variable_small}

-- ---- promoted types

promoted_integer : (t : TypeTree) → Integer (promoted t)
promoted_integer t = go (same_type t unsigned)
  where
    go : (b : Bool) → Integer (if b then unsigned else int)
    go true = an_unsigned
    go false = an_int

promoted_scalar : (t : TypeTree) → is_promoted (scalar_of (promoted t)) ≡ true
promoted_scalar t = go (same_type t unsigned)
  where
    go : (b : Bool) → is_promoted (scalar_of (if b then unsigned else int)) ≡ true
    go true = refl
    go false = refl

integer_decays : {t : TypeTree} → Integer t → Integer (decayed t)
integer_decays an_int = an_int
integer_decays an_unsigned = an_unsigned
integer_decays a_char = a_char

module _ (i : Interface) (g : Function) (called : List ℕ → Bool) (there : TextBlock → Bool) (s₀ : Scope) (structs : Structs) (table : SmallTable structs)
    (short : (t : TextBlock) → there t ≡ true → is_short t ≡ true)
    (blocks : (t : TextBlock) → there t ≡ true → object_there i g (text_object s₀.statics t.node) ≡ true) where
  -- ---- locals

  -- a local of this type is among those of the function
  pub record LocalIs (node : ℕ) (t : TypeTree) : Type 0 where
    pub fits : lvalue_fits i g (scalar_of t) (local_lvalue s₀.locals node) ≡ true
    pub place : LocalPlace structs g t (local_lvalue s₀.locals node)

  abbrev pub LocalsAre : List Local → Type 0
  LocalsAre [] = Unit {0}
  LocalsAre (l ∷ ls) = ((t : TypeTree) → l.type ≡ Some t → LocalIs l.node t) × LocalsAre ls

  locals_left : (xs ys : List Local) → LocalsAre (xs ++ ys) → LocalsAre xs
  locals_left [] ys h = tt
  locals_left (x ∷ xs) ys h = (h.0, locals_left xs ys h.1)

  locals_right : (xs ys : List Local) → LocalsAre (xs ++ ys) → LocalsAre ys
  locals_right [] ys h = h
  locals_right (x ∷ xs) ys h = locals_right xs ys h.1

  abbrev are_sure : List Site → Bool
  are_sure ss = list_all (site_sure called there) ss

  sure_left : (xs ys : List Site) → are_sure (xs ++ ys) ≡ true → are_sure xs ≡ true
  sure_left xs ys h = all_left (site_sure called there) xs ys h

  sure_right : (xs ys : List Site) → are_sure (xs ++ ys) ≡ true → are_sure ys ≡ true
  sure_right xs ys h = all_right (site_sure called there) xs ys h

  -- ---- places in a body

  -- a place in the body of the function, where a loop is around it only if it is so
  pub record InBody (may_break may_continue : Bool) (c : Context) : Type 0 where
    pub same_structs : c.structs ≡ structs
    pub names : AllFit i g called (places s₀) structs (c.inner ++ c.outer)
    pub result : (t : TypeTree) → c.result ≡ Some t → g.result ≡ result_scalar (Some t)
    pub loop : c.in_loop ≡ true → may_continue ≡ true
    pub breaks : (c.in_loop || c.in_switch) ≡ true → may_break ≡ true
    pub named : SmallNames structs c.type_names

  named_at : (b m : Bool) (c : Context) → InBody b m c → SmallNames c.structs c.type_names
  named_at b m c h = subst (λ z. SmallNames z c.type_names) (sym h.same_structs) h.named

  place_of : (b m : Bool) (c : Context) → InBody b m c → Place i g called (within s₀ c) c
  place_of b m c h = record {
    entities = λ x e p. subst (λ z. EntityFits i g called (places s₀) z x e) (sym h.same_structs) (entity_found i g called (places s₀) structs (c.inner ++ c.outer) x e h.names p);
    table = subst SmallTable (sym h.same_structs) table;
    named = named_at b m c h;
  }

  types_of : (b m : Bool) (c : Context) → InBody b m c → HasTypes c
  types_of b m c h = names_typed i g called (places s₀) structs c h.names

  switch_body : (b m : Bool) (c : Context) (e : ExprTree) → InBody b m c → InBody true m (switch_context c e)
  switch_body b m c e h = record { same_structs = h.same_structs; names = h.names; result = h.result; loop = h.loop; breaks = λ e. refl; named = h.named }

  case_body : (b m : Bool) (c : Context) (value : Option ℕ) → InBody b m c → InBody b m (with_case c value)
  case_body b m c None h = h
  case_body b m c (Some n) h = record { same_structs = h.same_structs; names = h.names; result = h.result; loop = h.loop; breaks = h.breaks; named = h.named }

  default_body : (b m : Bool) (c : Context) → InBody b m c → InBody b m (with_default c)
  default_body b m c h = record { same_structs = h.same_structs; names = h.names; result = h.result; loop = h.loop; breaks = h.breaks; named = h.named }

  inner_body : (b m : Bool) (c : Context) → InBody b m c → InBody b m (inner_scope c)
  inner_body b m c h = record { same_structs = h.same_structs; names = h.names; result = h.result; loop = h.loop; breaks = h.breaks; named = h.named }

  loop_body : (b m : Bool) (c : Context) → InBody b m c → InBody true true (inside_loop (inner_scope c))
  loop_body b m c h = record { same_structs = h.same_structs; names = h.names; result = h.result; loop = λ e. refl; breaks = λ e. refl; named = h.named }

  form_there : (b m : Bool) (c : Context) → InBody b m c → (e : ExprTree) (a : TypedExpr) → is_sure called there e ≡ true → typed (within s₀ c) e ≡ Some a → FormFits i g a.type a.form
  form_there b m c h e a sure q = expression_there i g called there (within s₀ c) (place_of b m c h) short blocks e a sure q

  -- ---- variables

  variable_body : (b m : Bool) (c : Context) → InBody b m c → (base : Base) (v : VariableTree) (t : TypeTree) → (variable_declared c base v).type ≡ Some t
      → LocalIs v.declarator.node.id t → is_small structs t ≡ true → InBody b m (after_variable false c base v)
  variable_body b m c h base v t p l small = record {
    same_structs = h.same_structs;
    names = (subst (λ o. EntityFits i g called (places s₀) structs v.declarator.name (local_variable v.declarator.node.id o)) (sym p) (l.fits, small), h.names);
    result = h.result;
    loop = h.loop;
    breaks = h.breaks;
    named = h.named;
  }

  initialised_there : (b m : Bool) (c : Context) → InBody b m c → (node : ℕ) (t : TypeTree) → LocalIs node t → SizedType c.structs t → (init : Option InitialiserTree) (set : Effect)
      → breaks_one (initialiser_tests false c (Some t) init) ≡ false → option_initialiser_faults false c (Some t) init ≡ []
      → are_sure (option_initialiser_sites false c (Some t) init) ≡ true → initialised (within s₀ c) node t init ≡ Some set → effect_fits i g set ≡ true
  initialised_there b m c h node t l d None set tests faults sure q = subst (λ z. effect_fits i g z ≡ true) (same_Some _ set q) refl
  initialised_there b m c h node t l d (Some init) set tests faults sure q =
      local_there i g called there (within s₀ c) (place_of b m c h) (types_of b m c h) short blocks t d.size (local_lvalue s₀.locals node) init set l.fits
      (subst (λ z. LocalPlace z g t (local_lvalue s₀.locals node)) (sym h.same_structs) l.place) d.small d.is
      (as_element init (kept_fit (is_typed c init) _ (has_type init faults) tests)) faults sure q
    where
      has_type : (init : InitialiserTree) → initialiser_faults false c (Some t) init ≡ [] → is_typed c init ≡ true
      has_type (trees.value e) f = ap is_some (type_of_known c (types_of b m c h) e whole f).is
      has_type (trees.list node is) f = refl

      kept_fit : (b fit : Bool) → b ≡ true → breaks_one (if b then keeps rules.InitialiserType fit else []) ≡ false → fit ≡ true
      kept_fit true true e f = refl
      kept_fit true false e f = never (sym f)
      kept_fit false fit e f = never e

      as_element : (init : InitialiserTree) → initialising.fits false c t init ≡ true → element_fits false c (Some t) init ≡ true
      as_element (trees.value e) k = k
      as_element (trees.list node is) k = k

  pub record Behind (b m : Bool) (after : Context) (set : Effect) : Type 0 where
    pub fits : effect_fits i g set ≡ true
    pub body : InBody b m after

  variables_there : (vs : List VariableTree) (b m : Bool) (c : Context) (base : Base) (set : Effect) → InBody b m c → variables_faults false c base vs ≡ []
      → are_sure (variables_sites false c base vs) ≡ true → LocalsAre (variables_locals c base vs) → variables_filled vs ≡ true
      → variables_typed (within s₀ c) base vs ≡ Some set → Behind b m (after_variables false c base vs) set
  variables_there [] b m c base set h faults sure locals filled q = record { fits = subst (λ z. effect_fits i g z ≡ true) (same_Some _ set q) refl; body = h }
  variables_there (v ∷ vs) b m c base set h faults sure locals filled q =
      let after = after_variable false c base v in
      let now = followed (variable_typed (within s₀ c) base v) _ set q in
      let later = followed (variables_typed (within s₀ after) base vs) _ set now.then in
      let t = followed (variable_declared c base v).type _ now.value now.first in
      let own = none_left (variable_faults false c after base v) (variables_faults false after base vs) faults in
      let tests = variable_tests false c after base v in
      let parts = none_right (faults_of v.declarator.node.id tests) (lengths_faults c v.declarator.lengths.given ++ option_initialiser_faults false after (variable_declared c base v).type v.initialiser) own in
      let initialiser = none_right (lengths_faults c v.declarator.lengths.given) (option_initialiser_faults false after (variable_declared c base v).type v.initialiser) parts in
      let whole_tests = ap (λ b. breaks_one (if b then [] else again_tests false c v ++
      ((variable_declared c base v).tests ++ initialiser_tests false after (variable_declared c base v).type v.initialiser)))
      (sym (not_held_back false after (variable_declared c base v).type v.initialiser initialiser))
      ∙ unbroken v.declarator.node.id tests (none_left (faults_of v.declarator.node.id tests) _ own) in
      let later_tests = second_unbroken (again_tests false c v) ((variable_declared c base v).tests ++ initialiser_tests false after (variable_declared c base v).type v.initialiser) whole_tests in
      let own_tests = second_unbroken (variable_declared c base v).tests (initialiser_tests false after (variable_declared c base v).type v.initialiser) later_tests in
      let here = sure_left (variable_sites false c after base v) (variables_sites false after base vs) sure in
      let own_sure = sure_right (declarator_sites c v.declarator) (option_initialiser_sites false after (variable_declared c base v).type v.initialiser) here in
      let d = variable_small c (named_at b m c h) base v t.value (first_so _ _ filled) t.first in
      let l = locals.0 t.value t.first in
      let body = variable_body b m c h base v t.value t.first l (subst (λ z. is_small z t.value ≡ true) h.same_structs d.small) in
      let rest = variables_there vs b m after base later.value body (none_right (variable_faults false c after base v) (variables_faults false after base vs) faults)
      (sure_right (variable_sites false c after base v) (variables_sites false after base vs) sure) locals.1 (second_so (is_filled v.initialiser) _ filled) later.first in
      record {
        fits = subst (λ z. effect_fits i g z ≡ true) (same_Some _ set later.then) (and_from _ _
            (initialised_there b m after body v.declarator.node.id t.value l d v.initialiser now.value
            (subst (λ o. breaks_one (initialiser_tests false after o v.initialiser) ≡ false) t.first own_tests)
            (subst (λ o. option_initialiser_faults false after o v.initialiser ≡ []) t.first initialiser)
            (subst (λ o. are_sure (option_initialiser_sites false after o v.initialiser) ≡ true) t.first own_sure) t.then) rest.fits);
        body = rest.body;
      }

  -- ---- expressions in statements

  effect_fits_there : (b m : Bool) (c : Context) → InBody b m c → (e : ExprTree) (set : Effect) → are_sure (site c e) ≡ true → effect_typed (within s₀ c) e ≡ Some set → effect_fits i g set ≡ true
  effect_fits_there b m c h e set sure q =
      let a = followed (typed (within s₀ c) e) _ set q in
      subst (λ z. effect_fits i g z ≡ true) (same_Some _ set a.then) (effect_there i g a.value.type a.value.form (form_there b m c h e a.value (first_so _ _ sure) a.first))

  option_effect_there : (b m : Bool) (c : Context) → InBody b m c → (e : Option ExprTree) (set : Effect) → are_sure (option_sites c e) ≡ true → option_effect (within s₀ c) e ≡ Some set
      → effect_fits i g set ≡ true
  option_effect_there b m c h None set sure q = subst (λ z. effect_fits i g z ≡ true) (same_Some _ set q) refl
  option_effect_there b m c h (Some e) set sure q = effect_fits_there b m c h e set sure q

  condition_there : (b m : Bool) (c : Context) → InBody b m c → (e : ExprTree) (x : Expr) → breaks_one (condition_tests (type_of c e)) ≡ false → are_sure (site c e) ≡ true
      → condition_typed (within s₀ c) e ≡ Some x → expr_fits i g x ≡ true
  condition_there b m c h e x tests sure q =
      let a = followed (typed (within s₀ c) e) _ x q in
      let kind = kept _ (subst (λ o. breaks_one (condition_tests o) ≡ false) (typed_type (within s₀ c) e a.value a.first) tests) in
      subst (λ z. expr_fits i g z ≡ true) (same_Some _ x a.then)
      (in_use i g a.value (form_there b m c h e a.value (first_so _ _ sure) a.first) (scalar_solid (type_in_use a.value) kind)).fits

  option_condition_there : (b m : Bool) (c : Context) → InBody b m c → (e : Option ExprTree) (x : Option Expr) → breaks_one (option_condition_tests c e) ≡ false
      → are_sure (option_sites c e) ≡ true → option_condition (within s₀ c) e ≡ Some x → option_fits i g x ≡ true
  option_condition_there b m c h None x tests sure q = subst (λ z. option_fits i g z ≡ true) (same_Some _ x q) refl
  option_condition_there b m c h (Some e) x tests sure q =
      let y = followed (condition_typed (within s₀ c) e) _ x q in
      subst (λ z. option_fits i g z ≡ true) (same_Some _ x y.then) (condition_there b m c h e y.value tests sure y.first)

  condition_kept : (c : Context) (node : Node) (e : ExprTree) → condition_faults c node e ≡ [] → breaks_one (condition_tests (type_of c e)) ≡ false
  condition_kept c node e f = unbroken node.id (condition_tests (type_of c e)) (none_left (faults_of node.id (condition_tests (type_of c e))) _ f)

  -- 6.8.4.2p1: the operand of a switch is an integer
  record OperandFits (x : TypedExpr) : Type 0 where
    fits : expr_fits i g (value_in_use x) ≡ true
    promotes : operand_fits (conversion (type_in_use x) (promoted (type_in_use x))) (value_in_use x) ≡ true

  operand_there : (b m : Bool) (c : Context) → InBody b m c → (node : Node) (e : ExprTree) (x : TypedExpr) → switch_faults c node e ≡ [] → are_sure (site c e) ≡ true
      → typed (within s₀ c) e ≡ Some x → OperandFits x
  operand_there b m c h node e x f sure q =
      let tests = unbroken node.id (switch_tests (type_of c e)) (none_left (faults_of node.id (switch_tests (type_of c e))) _ f) in
      let kind = kept _ (subst (λ o. breaks_one (switch_tests o) ≡ false) (typed_type (within s₀ c) e x q) tests) in
      let n = integer_decays (integer x.type kind) in
      let v = in_use i g x (form_there b m c h e x (first_so _ _ sure) q) (integer_solid n) in
      let to = becomes_there i g (value_in_use x) (type_in_use x) (promoted (type_in_use x)) v (integers_convert (is_null (value_in_use x)) n (promoted_integer (type_in_use x))) in
      record {
        fits = v.fits;
        promotes = and_from _ _ (first_so _ _ to) (subst (λ z. is_promoted z ≡ true) (sym (scalar_same _ _ (second_so
            (conversion_fits (conversion (type_in_use x) (promoted (type_in_use x))) (fitting.type_of (value_in_use x)) (is_null (value_in_use x))) _ to)))
            (promoted_scalar (type_in_use x)));
      }

  return_there : (b m : Bool) (c : Context) → InBody b m c → (node : Node) (e : Option ExprTree) (a : Stmt) → faults_of node.id (return_tests c c.result e) ≡ []
      → are_sure (option_sites c e) ≡ true → return_typed (within s₀ c) e ≡ Some a → stmt_fits i g b m a ≡ true
  return_there b m c h node None a f sure q = subst (λ z. stmt_fits i g b m z ≡ true) (same_Some _ a q) refl
  return_there b m c h node (Some e) a f sure q =
      let t = followed c.result _ a q in
      let x = followed (typed (within s₀ c) e) _ a t.then in
      let tests = subst (λ o. breaks_one (returns t.value e o) ≡ false) (typed_type (within s₀ c) e x.value x.first)
      (subst (λ o. breaks_one (return_tests c o (Some e)) ≡ false) t.first (unbroken node.id (return_tests c c.result (Some e)) f)) in
      let solid = not_void (is_void t.value) (first_so _ _ (kept _ tests)) in
      let may = assignable t.value e (type_in_use x.value) (is_null (value_in_use x.value)) (null_value (within s₀ c) e x.value x.first) (second_so (not (is_void t.value)) _ (kept _ tests)) in
      let v = in_use i g x.value (form_there b m c h e x.value (first_so _ _ sure) x.first) may.solid in
      subst (λ z. stmt_fits i g b m z ≡ true) (same_Some _ a x.then)
      (subst (λ o. returned_fits i g (conversion (type_in_use x.value) t.value) (value_in_use x.value) o ≡ true) (sym (h.result t.value t.first ∙ result_of t.value solid))
      (and_from _ _ v.fits (becomes_there i g (value_in_use x.value) (type_in_use x.value) t.value v may.converts)))
    where
      not_void : (b : Bool) → not b ≡ true → b ≡ false
      not_void true e = never e
      not_void false e = refl

  -- ---- statements

  start_there : (b m : Bool) (c : Context) → InBody b m c → (start : StartTree) (set : Effect) → start_faults c start ≡ [] → are_sure (start_sites c start) ≡ true
      → LocalsAre (start_locals c start) → start_filled start ≡ true → start_typed (within s₀ c) start ≡ Some set → Behind b m (after_start c start) set
  start_there b m c h no_start set f sure locals filled q = record { fits = subst (λ z. effect_fits i g z ≡ true) (same_Some _ set q) refl; body = h }
  start_there b m c h (start_expression e) set f sure locals filled q = record { fits = effect_fits_there b m c h e set sure q; body = h }
  start_there b m c h (start_declaration d) set f sure locals filled q = variables_there d.variables b m c d.base set h f sure locals filled q

  -- the parts of a `for` have types
  start_known : (c : Context) (start : StartTree) (set : Effect) → start_typed (within s₀ (inner_scope c)) start ≡ Some set → rule_starts.start_typed (for_context c start) start ≡ true
  start_known c no_start set q = refl
  start_known c (start_expression e) set q =
      let a = followed (typed (within s₀ (inner_scope c)) e) _ set q in ap is_some (typed_type (within s₀ (inner_scope c)) e a.value a.first)
  start_known c (start_declaration d) set q = refl

  option_known : (c : Context) (u : Option ExprTree) (set : Effect) → option_effect (within s₀ c) u ≡ Some set → option_typed c u ≡ true
  option_known c None set q = refl
  option_known c (Some e) set q = let a = followed (typed (within s₀ c) e) _ set q in ap is_some (typed_type (within s₀ c) e a.value a.first)

  if_tests : (a b : Bool) (ts : List Test) → a ≡ true → b ≡ true → breaks_one (if a && b then ts else []) ≡ false → breaks_one ts ≡ false
  if_tests true true ts e f h = h
  if_tests true false ts e f h = never f
  if_tests false b ts e f h = never e

  break_kept : (b m : Bool) (c : Context) → InBody b m c → (node : Node) → faults_of node.id (break_tests c) ≡ [] → b ≡ true
  break_kept b m c h node f = h.breaks (kept _ (unbroken node.id (break_tests c) f))

  continue_kept : (b m : Bool) (c : Context) → InBody b m c → (node : Node) → faults_of node.id (continue_tests c) ≡ [] → m ≡ true
  continue_kept b m c h node f = h.loop (kept _ (unbroken node.id (continue_tests c) f))

  after_body : (t : StmtTree) (b m : Bool) (c : Context) (a : Stmt) → InBody b m c → statement_faults c t ≡ [] → are_sure (statement_sites c t) ≡ true
      → LocalsAre (statement_locals c t) → statement_filled t ≡ true → statement_typed (within s₀ c) t ≡ Some a → InBody b m (after_statement c t)
  after_body (declaration d) b m c a h f sure locals filled q =
      let set = followed (variables_typed (within s₀ c) d.base d.variables) _ a q in
      (variables_there d.variables b m c d.base set.value h f sure locals filled set.first).body
  after_body (empty node) b m c a h f sure locals filled q = h
  after_body (expression node e) b m c a h f sure locals filled q = h
  after_body (block ss) b m c a h f sure locals filled q = h
  after_body (switch node e ts) b m c a h f sure locals filled q = h
  after_body (case_label node e) b m c a h f sure locals filled q = case_body b m c (case_value c e) h
  after_body (default_label node) b m c a h f sure locals filled q = default_body b m c h
  after_body (branch node e t r) b m c a h f sure locals filled q = h
  after_body (while_loop node e t) b m c a h f sure locals filled q = h
  after_body (do_loop node t e) b m c a h f sure locals filled q = h
  after_body (for_loop node start e u t) b m c a h f sure locals filled q = h
  after_body (break node) b m c a h f sure locals filled q = h
  after_body (continue node) b m c a h f sure locals filled q = h
  after_body (return node e) b m c a h f sure locals filled q = h

  stmt_is : (b m : Bool) (x a : Stmt) → Some x ≡ Some a → stmt_fits i g b m x ≡ true → stmt_fits i g b m a ≡ true
  stmt_is b m x a e h = subst (λ z. stmt_fits i g b m z ≡ true) (same_Some x a e) h

  mutual
    pub statement_there : (t : StmtTree) (b m : Bool) (c : Context) (a : Stmt) → InBody b m c → statement_faults c t ≡ [] → are_sure (statement_sites c t) ≡ true
        → LocalsAre (statement_locals c t) → statement_filled t ≡ true → statement_typed (within s₀ c) t ≡ Some a → stmt_fits i g b m a ≡ true
    statement_there (empty node) b m c a h f sure locals filled q = stmt_is b m _ a q refl
    statement_there (expression node e) b m c a h f sure locals filled q =
        let set = followed (effect_typed (within s₀ c) e) _ a q in stmt_is b m _ a set.then (effect_fits_there b m c h e set.value sure set.first)
    statement_there (declaration d) b m c a h f sure locals filled q =
        let set = followed (variables_typed (within s₀ c) d.base d.variables) _ a q in
        stmt_is b m _ a set.then (variables_there d.variables b m c d.base set.value h f sure locals filled set.first).fits
    statement_there (block ss) b m c a h f sure locals filled q =
        let rest = followed (statements_typed (within s₀ (inner_scope c)) ss) _ a q in
        stmt_is b m _ a rest.then (statements_there ss b m (inner_scope c) rest.value (inner_body b m c h) f sure locals filled rest.first)
    statement_there (branch node e t r) b m c a h f sure locals filled q =
        let x = followed (condition_typed (within s₀ c) e) _ a q in
        let y = followed (statement_typed (within s₀ (inner_scope c)) t) _ a x.then in
        let z = followed (else_typed (within s₀ c) r) _ a y.then in
        let parts = none_right (condition_faults c node e) _ f in
        let rest = sure_right (site c e) (statement_sites (inner_scope c) t ++ else_sites c r) sure in
        stmt_is b m _ a z.then (and_from _ _
        (condition_there b m c h e x.value (condition_kept c node e (none_left _ _ f)) (sure_left (site c e) (statement_sites (inner_scope c) t ++ else_sites c r) sure) x.first)
        (and_from _ _ (statement_there t b m (inner_scope c) y.value (inner_body b m c h) (none_left _ _ parts) (sure_left (statement_sites (inner_scope c) t) (else_sites c r) rest)
        (locals_left (statement_locals (inner_scope c) t) (else_locals c r) locals) (first_so _ _ filled) y.first)
        (else_there r b m c z.value h (none_right (statement_faults (inner_scope c) t) _ parts) (sure_right (statement_sites (inner_scope c) t) (else_sites c r) rest)
        (locals_right (statement_locals (inner_scope c) t) (else_locals c r) locals) (second_so (statement_filled t) _ filled) z.first)))
    statement_there (switch node e ts) b m c a h f sure locals filled q =
        let inside = switch_context c e in
        let x = followed (typed (within s₀ c) e) _ a q in
        let y = followed (statements_typed (within s₀ inside) ts) _ a x.then in
        let operand = operand_there b m c h node e x.value (none_left _ _ f) (sure_left (site c e) (statements_sites inside ts) sure) x.first in
        stmt_is b m _ a y.then (and_from _ _ operand.fits (and_from _ _ operand.promotes (and_from _ _
        (ap not (labels_same (within s₀ inside) ts false y.value y.first) ∙ first_so _ _ filled)
        (statements_there ts true m inside y.value (switch_body b m c e h) (none_right (switch_faults c node e) _ f)
        (sure_right (site c e) (statements_sites inside ts) sure) locals (second_so (not (ends_in_label false ts)) _ filled) y.first))))
    statement_there (case_label node e) b m c a h f sure locals filled q =
        let n = followed (constant_of c e) _ a q in
        stmt_is b m _ a n.then (constant_word called there c e n.value (first_so _ _ sure) n.first)
    statement_there (default_label node) b m c a h f sure locals filled q = stmt_is b m _ a q refl
    statement_there (while_loop node e t) b m c a h f sure locals filled q =
        let inside = inside_loop (inner_scope c) in
        let x = followed (condition_typed (within s₀ c) e) _ a q in
        let y = followed (statement_typed (within s₀ inside) t) _ a x.then in
        stmt_is b m _ a y.then (and_from _ _
        (condition_there b m c h e x.value (condition_kept c node e (none_left _ _ f)) (sure_left (site c e) (statement_sites inside t) sure) x.first)
        (statement_there t true true inside y.value (loop_body b m c h) (none_right (condition_faults c node e) _ f) (sure_right (site c e) (statement_sites inside t) sure) locals filled y.first))
    statement_there (do_loop node t e) b m c a h f sure locals filled q =
        let inside = inside_loop (inner_scope c) in
        let y = followed (statement_typed (within s₀ inside) t) _ a q in
        let x = followed (condition_typed (within s₀ c) e) _ a y.then in
        stmt_is b m _ a x.then (and_from _ _
        (statement_there t true true inside y.value (loop_body b m c h) (none_left _ _ f) (sure_left (statement_sites inside t) (site c e) sure) locals filled y.first)
        (condition_there b m c h e x.value (condition_kept c node e (none_right (statement_faults inside t) _ f)) (sure_right (statement_sites inside t) (site c e) sure) x.first))
    statement_there (for_loop node start e u t) b m c a h f sure locals filled q =
        let behind = for_context c start in
        let inside = inside_loop (inner_scope behind) in
        let w = followed (start_typed (within s₀ (inner_scope c)) start) _ a q in
        let x = followed (option_condition (within s₀ behind) e) _ a w.then in
        let y = followed (option_effect (within s₀ behind) u) _ a x.then in
        let z = followed (statement_typed (within s₀ inside) t) _ a y.then in
        let parts = none_right (start_faults (inner_scope c) start) _ f in
        let tests = unbroken node.id (for_tests behind start e u)
        (none_left (faults_of node.id (for_tests behind start e u)) _ (none_left (for_faults behind start node e u) (statement_faults inside t) parts)) in
        let rest = sure_right (start_sites (inner_scope c) start) (option_sites behind e ++ (option_sites behind u ++ statement_sites inside t)) sure in
        let last = sure_right (option_sites behind e) (option_sites behind u ++ statement_sites inside t) rest in
        let first = start_there b m (inner_scope c) (inner_body b m c h) start w.value (none_left _ _ f)
        (sure_left (start_sites (inner_scope c) start) (option_sites behind e ++ (option_sites behind u ++ statement_sites inside t)) sure)
        (locals_left (start_locals (inner_scope c) start) (statement_locals inside t) locals) (first_so _ _ filled) w.first in
        stmt_is b m _ a z.then (and_from _ _ first.fits (and_from _ _
        (option_condition_there b m behind first.body e x.value
        (if_tests (rule_starts.start_typed behind start) (option_typed behind u) (option_condition_tests behind e) (start_known c start w.value w.first) (option_known behind u y.value y.first) tests)
        (sure_left (option_sites behind e) (option_sites behind u ++ statement_sites inside t) rest) x.first)
        (and_from _ _ (option_effect_there b m behind first.body u y.value (sure_left (option_sites behind u) (statement_sites inside t) last) y.first)
        (statement_there t true true inside z.value (loop_body b m behind first.body) (none_right (for_faults behind start node e u) (statement_faults inside t) parts)
        (sure_right (option_sites behind u) (statement_sites inside t) last) (locals_right (start_locals (inner_scope c) start) (statement_locals inside t) locals)
        (second_so (start_filled start) _ filled) z.first))))
    statement_there (break node) b m c a h f sure locals filled q = stmt_is b m _ a q (break_kept b m c h node f)
    statement_there (continue node) b m c a h f sure locals filled q = stmt_is b m _ a q (continue_kept b m c h node f)
    statement_there (return node e) b m c a h f sure locals filled q = return_there b m c h node e a (none_left (faults_of node.id (return_tests c c.result e)) _ f) sure q

    pub statements_there : (ss : Stmts) (b m : Bool) (c : Context) (list : typed_trees.Stmts) → InBody b m c → statements_faults c ss ≡ [] → are_sure (statements_sites c ss) ≡ true
        → LocalsAre (statements_locals c ss) → statements_filled ss ≡ true → statements_typed (within s₀ c) ss ≡ Some list → stmts_fit i g b m list ≡ true
    statements_there no_stmts b m c list h f sure locals filled q = subst (λ z. stmts_fit i g b m z ≡ true) (same_Some _ list q) refl
    statements_there (stmt_and t ts) b m c list h f sure locals filled q =
        let after = after_statement c t in
        let x = followed (statement_typed (within s₀ c) t) _ list q in
        let y = followed (statements_typed (within s₀ after) ts) _ list x.then in
        let first = none_left (statement_faults c t) (statements_faults after ts) f in
        let first_sure = sure_left (statement_sites c t) (statements_sites after ts) sure in
        let first_locals = locals_left (statement_locals c t) (statements_locals after ts) locals in
        subst (λ z. stmts_fit i g b m z ≡ true) (same_Some _ list y.then) (and_from _ _
        (statement_there t b m c x.value h first first_sure first_locals (first_so _ _ filled) x.first)
        (statements_there ts b m after y.value (after_body t b m c x.value h first first_sure first_locals (first_so _ _ filled) x.first)
        (none_right (statement_faults c t) (statements_faults after ts) f) (sure_right (statement_sites c t) (statements_sites after ts) sure)
        (locals_right (statement_locals c t) (statements_locals after ts) locals) (second_so (statement_filled t) _ filled) y.first))

    pub else_there : (r : Else) (b m : Bool) (c : Context) (a : Stmt) → InBody b m c → else_faults c r ≡ [] → are_sure (else_sites c r) ≡ true
        → LocalsAre (else_locals c r) → else_filled r ≡ true → else_typed (within s₀ c) r ≡ Some a → stmt_fits i g b m a ≡ true
    else_there no_else b m c a h f sure locals filled q = stmt_is b m _ a q refl
    else_there (else_by t) b m c a h f sure locals filled q = statement_there t b m (inner_scope c) a (inner_body b m c h) f sure locals filled q
