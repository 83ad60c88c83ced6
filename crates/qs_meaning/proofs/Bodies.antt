-- Where a declaration or a statement breaks no rule, it has a typed tree.
use Rattle.std.proofs.Common.{◌≡◌, ℕ, Bool, true, false, not, ◌&&◌, ◌||◌, List, [], ◌∷◌, ◌++◌, Option, Some, None, is_some, refl, sym, ap, ◌∙◌, subst, if◌then◌else◌}
use Rattle.std.specs.List.{list_all}
use Rattle.std.proofs.lemmas.List.Folds.{list_all-append}
use Rattle.std.proofs.lemmas.Bool.{and_from}
use Rattle.std.proofs.Math.Bool.{and-false}
use Rattle.std.specs.Cmp.{first_so, second_so}
use Rattle.qs_syntax.specs.declared.nodes.Node.{Node}
use Rattle.qs_syntax.specs.declared.types.Base.{Base}
use Rattle.qs_syntax.specs.Trees.{ExprTree, DeclaratorTree, InitialiserTree, VariableTree, StartTree, no_start, start_expression, start_declaration, StmtTree, empty, expression, declaration, block, switch, case_label, default_label, branch, while_loop, do_loop, for_loop, break, continue, return, Stmts, no_stmts, stmt_and, Else, no_else, else_by}
use Rattle.qs_syntax.specs.Trees as trees
use Rattle.qs_types.specs.declared.extent.Extent.{Extent}
use Rattle.qs_types.specs.Types.{TypeTree, int, unsigned, char, void, pointer, array, struct, is_scalar, Structs}
use Rattle.qs_types.specs.Layout.{and_then, StructLayout, Layouts, array_extent, struct_extent, extent_by, extent_within, sized_by, is_sized, is_complete, extent_of, size_of, layout_of}
use Rattle.qs_types.specs.declared.rules.Rule.TheVariants as rules
use Rattle.qs_types.specs.Rules.{Test, keeps, breaks_one, faults_of, is_any}
use Rattle.qs_types.specs.Contexts.{local_variable, Context, inner_scope, inside_loop, with_case, with_default, base_type}
use Rattle.qs_types.specs.Constants.{constant_of}
use Rattle.qs_types.specs.Expressions.{type_of}
use Rattle.qs_types.specs.ExpressionFaults.{used, discarded, whole, expr_faults}
use Rattle.qs_types.specs.Declarations.{all_typed, lengths_faults, lengths_of, whole_lengths, element_tests, object_type, size_tests, with_size_tests, object_declared, Declared, undeclared, declared, length_by, variable_declared}
use Rattle.qs_types.specs.InitialiserRules.{is_typed, initialiser_tests, initialiser_faults}
use Rattle.qs_types.specs.StatementRules.{after_variable, after_variables, holds_back, again_tests, variable_tests, variable_faults, option_initialiser_faults, variables_faults, condition_tests, condition_faults, option_used, option_discarded, return_tests, switch_tests, switch_faults, switch_context, case_value, constant_tests, case_tests, after_start, start_faults, after_statement, for_context, for_tests, for_faults, statement_faults, statements_faults, else_faults}
use Rattle.qs_types.specs.Placed.{addressed, Local, is_one_of, is_no_scalar, variables_locals, start_locals, statement_locals, statements_locals, else_locals}
use Rattle.qs_types.specs.Sites.{site, option_sites, declarator_sites, option_initialiser_sites, variable_sites, variables_sites, start_sites, statement_sites, statements_sites, else_sites}
use Rattle.qs_meaning.specs.Typed.{variable, object, pointer_to, local}
use Rattle.qs_meaning.specs.Names.{Scope, within, local_lvalue, place_among}
use Rattle.qs_meaning.specs.Expressions.{typed}
use Rattle.qs_meaning.specs.Statements.{initialised, variable_typed, variables_typed, effect_typed, option_effect, condition_typed, option_condition, start_typed, return_typed, case_typed, statement_typed, statements_typed, else_typed}
use Rattle.qs_meaning.specs.Forms.{address_in}
use Rattle.qs_meaning.proofs.Options.{never, all_left, all_right, Known, known, onward, goes}
use Rattle.qs_meaning.proofs.FaultlessExpressions.{HasTypes, none_left, none_right, unbroken, first_unbroken, second_unbroken, type_known, type_of_known}
use Rattle.qs_meaning.proofs.TypedExpressions.{kept}
use Rattle.qs_meaning.proofs.Bindings.{IsFine, EntityFine, Sound, has_types, are_taken, typed_known}
use Rattle.qs_meaning.proofs.LocalInitialisers.{sites_taken, sites_left, sites_right, local_set_known}

-- ---- types within the limit are complete

part_some : {A B : Type 0} (o : Option A) (go : A → Option B) → is_some (and_then o go) ≡ true → is_some o ≡ true
part_some None go e = never e
part_some (Some x) go e = refl

whole_some : {A B : Type 0} (o : Option A) (f : A → B) → is_some o ≡ true → is_some (and_then o (λ x. Some (f x))) ≡ true
whole_some None f e = never e
whole_some (Some x) f e = refl

pub sized_extent : (layouts : Layouts) (t : TypeTree) → is_some (sized_by layouts t) ≡ true → is_some (extent_by layouts t) ≡ true
sized_extent layouts int e = refl
sized_extent layouts unsigned e = refl
sized_extent layouts char e = refl
sized_extent layouts void e = never e
sized_extent layouts (pointer t) e = refl
sized_extent layouts (array t n) e =
    whole_some (extent_by layouts t) (λ (x : Extent). array_extent x n)
    (sized_extent layouts t (part_some (sized_by layouts t) (λ (x : Extent). extent_within (array_extent x n)) e))
sized_extent layouts (struct k) e = whole_some (layouts k) (λ (l : StructLayout). struct_extent l)
    (part_some (layouts k) (λ (l : StructLayout). extent_within (struct_extent l)) e)

-- ---- declared types

pub record DeclaredAs (structs : Structs) (d : Declared) : Type 0 where
  pub type : TypeTree
  pub is : d.type ≡ Some type
  pub complete : is_complete structs type ≡ true

sized_kept : (broken sized : Bool) → broken ≡ false → ((not broken && not sized) || false) ≡ false → sized ≡ true
sized_kept true sized e h = never (sym e)
sized_kept false true e h = refl
sized_kept false false e h = never (sym h)

pub with_size_known : (c : Context) (before : List Test) (t : TypeTree) → breaks_one (with_size_tests c before t).tests ≡ false → DeclaredAs c.structs
    (with_size_tests c before t)
with_size_known c before t h = record {
  type = t;
  is = type_known (before ++ size_tests c before t) t h;
  complete = sized_extent (layout_of c.structs) t (sized_kept (breaks_one before) (is_sized c.structs t) (first_unbroken before (size_tests c before t) h)
      (second_unbroken before (size_tests c before t) h));
}

pub declared_known : (c : Context) (base : Base) (d : DeclaratorTree) (first : Option ℕ) → all_typed c d.lengths.given ≡ true → breaks_one
    (declared c base d first).tests ≡ false → DeclaredAs c.structs (declared c base d first)
declared_known c base d first e h = go (all_typed c d.lengths.given) e h
  where
    lengths : Option (List ℕ)
    lengths = whole_lengths d.lengths first (lengths_of c d.lengths.given)

    go : (b : Bool) → b ≡ true → breaks_one (if b then object_declared c base d.stars lengths else undeclared).tests ≡ false
        → DeclaredAs c.structs (if b then object_declared c base d.stars lengths else undeclared)
    go true e h = with_size_known c (element_tests c (base_type c base) d.stars ++ keeps rules.ArrayLength (is_some lengths)) (object_type (base_type c base) d.stars lengths) h
    go false e h = never e

pub lengths_typed : (c : Context) → HasTypes c → (es : List ExprTree) → lengths_faults c es ≡ [] → all_typed c es ≡ true
lengths_typed c has [] h = refl
lengths_typed c has (e ∷ es) h = both _ _ (ap is_some (type_of_known c has e used (none_left _ _ h)).is) (lengths_typed c has es (none_right (expr_faults c used e) _ h))
  where
    both : (x y : Bool) → x ≡ true → y ≡ true → (x && y) ≡ true
    both true y e f = f
    both false y e f = never e

-- ---- variables of a body

-- a local is one of the function's, and placed where it is no scalar
abbrev pub is_fine_local : (declared placed : List ℕ) → Local → Bool
is_fine_local declared placed l = is_one_of l.node declared && (not (is_no_scalar l.type) || is_one_of l.node placed)

abbrev pub locals_fine : (declared placed : List ℕ) → List Local → Bool
locals_fine declared placed ls = list_all (is_fine_local declared placed) ls

pub locals_left : (declared placed : List ℕ) (xs ys : List Local) → locals_fine declared placed (xs ++ ys) ≡ true → locals_fine declared placed xs ≡ true
locals_left declared placed xs ys e = all_left (is_fine_local declared placed) xs ys e

pub locals_right : (declared placed : List ℕ) (xs ys : List Local) → locals_fine declared placed (xs ++ ys) ≡ true → locals_fine declared placed ys ≡ true
locals_right declared placed xs ys e = all_right (is_fine_local declared placed) xs ys e

-- locals whose types have sizes
abbrev pub is_sized_local : Structs → Local → Bool
is_sized_local structs l = is_some (and_then l.type (size_of structs))

abbrev pub all_sized : Structs → List Local → Bool
all_sized structs ls = list_all (is_sized_local structs) ls

pub has_size : (structs : Structs) (o : Option TypeTree) (t : TypeTree) → o ≡ Some t → is_complete structs t ≡ true → is_some (and_then o (size_of structs)) ≡ true
has_size structs o t e c = ap (λ o. is_some (and_then o (size_of structs))) e ∙ whole_some (extent_of structs t) (λ (x : Extent). x.size) c

pub sized_together : (structs : Structs) (xs ys : List Local) → all_sized structs xs ≡ true → all_sized structs ys ≡ true → all_sized structs (xs ++ ys) ≡ true
sized_together structs xs ys e f = list_all-append (is_sized_local structs) xs ys ∙ and_from _ _ e f

pub not_held_back : (at_file_scope : Bool) (c : Context) (t : Option TypeTree) (i : Option InitialiserTree) → option_initialiser_faults at_file_scope c t i ≡ []
    → holds_back c i ≡ false
not_held_back b c t None h = refl
not_held_back b c t (Some (trees.value e)) h = ap (λ fs. not (is_some (type_of c e)) && is_any fs) h ∙ and-false (not (is_some (type_of c e)))
not_held_back b c t (Some (trees.list node is)) h = refl

module _ (s₀ : Scope) (declared_nodes : List ℕ) where
  abbrev placed : List ℕ
  placed = s₀.locals.placed

  -- a place in the body, and the result of the function is known
  pub record Stands (c : Context) : Type 0 where
    pub sound : Sound (within s₀ c) declared_nodes
    pub result : Known c.result

  pub inner_stands : (c : Context) → Stands c → Stands (inner_scope c)
  inner_stands c h = record { sound = record { names = h.sound.names; laid_out = h.sound.laid_out; members = h.sound.members }; result = h.result }

  pub loop_stands : (c : Context) → Stands c → Stands (inside_loop (inner_scope c))
  loop_stands c h = record { sound = record { names = h.sound.names; laid_out = h.sound.laid_out; members = h.sound.members }; result = h.result }

  pub switch_stands : (c : Context) (e : ExprTree) → Stands c → Stands (switch_context c e)
  switch_stands c e h = record { sound = record { names = h.sound.names; laid_out = h.sound.laid_out; members = h.sound.members }; result = h.result }

  pub case_stands : (c : Context) (value : Option ℕ) → Stands c → Stands (with_case c value)
  case_stands c None h = h
  case_stands c (Some n) h = record { sound = record { names = h.sound.names; laid_out = h.sound.laid_out; members = h.sound.members }; result = h.result }

  pub default_stands : (c : Context) → Stands c → Stands (with_default c)
  default_stands c h = record { sound = record { names = h.sound.names; laid_out = h.sound.laid_out; members = h.sound.members }; result = h.result }

  -- a variable that has a type
  variable_stands : (c : Context) → Stands c → (base : Base) (v : VariableTree) → DeclaredAs c.structs (variable_declared c base v)
      → is_fine_local declared_nodes placed (record { node = v.declarator.node.id; type = (variable_declared c base v).type }) ≡ true → Stands (after_variable false c base v)
  variable_stands c h base v d fine = record {
    sound = record {
      names = (subst (λ o. EntityFine c.structs declared_nodes placed (local_variable v.declarator.node.id o)) (sym d.is) local_fine, h.sound.names);
      laid_out = h.sound.laid_out;
      members = h.sound.members;
    };
    result = h.result;
  }
    where
      fine_here : is_fine_local declared_nodes placed (record { node = v.declarator.node.id; type = Some d.type }) ≡ true
      fine_here = subst (λ o. is_fine_local declared_nodes placed (record { node = v.declarator.node.id; type = o }) ≡ true) d.is fine

      large_placed : (scalar here : Bool) → (not (not scalar) || here) ≡ true → scalar ≡ false → here ≡ true
      large_placed true here e f = never (sym f)
      large_placed false here e f = e

      local_fine : IsFine c.structs declared_nodes placed v.declarator.node.id d.type
      local_fine = record {
        complete = d.complete;
        is_declared = first_so _ _ fine_here;
        large = large_placed (is_scalar d.type) (is_one_of v.declarator.node.id placed) (second_so (is_one_of v.declarator.node.id declared_nodes) _ fine_here);
      }

  local_address : (node : ℕ) → is_one_of node placed ≡ true → Known (address_in (local_lvalue s₀.locals node))
  local_address node e = go (is_one_of node placed) e
    where
      go : (b : Bool) → b ≡ true → Known (address_in (if b then object (pointer_to (local (place_among node placed))) else variable (place_among node s₀.locals.variables)))
      go true e = record { value = _; is = refl }
      go false e = never e

  -- a variable with its initialiser, behind its declarator
  initialised_known : (c : Context) → Stands c → (node : ℕ) (t : TypeTree) → IsFine c.structs declared_nodes placed node t → (i : Option InitialiserTree)
      → breaks_one (initialiser_tests false c (Some t) i) ≡ false → option_initialiser_faults false c (Some t) i ≡ []
      → sites_taken declared_nodes placed (option_initialiser_sites false c (Some t) i) ≡ true → Known (initialised (within s₀ c) node t i)
  initialised_known c h node t fine None tests faults taken = record { value = _; is = refl }
  initialised_known c h node t fine (Some i) tests faults taken =
      local_set_known (within s₀ c) declared_nodes h.sound t (local_lvalue s₀.locals node) i fine.complete (λ f. local_address node (fine.large f))
      (kept_fit (is_typed c i) _ (has_type i faults) tests) faults taken
    where
      has_type : (i : InitialiserTree) → initialiser_faults false c (Some t) i ≡ [] → is_typed c i ≡ true
      has_type (trees.value e) f = ap is_some (type_of_known c (has_types (within s₀ c) declared_nodes h.sound) e whole f).is
      has_type (trees.list node is) f = refl

      kept_fit : (b fit : Bool) → b ≡ true → breaks_one (if b then keeps rules.InitialiserType fit else []) ≡ false → fit ≡ true
      kept_fit true true e f = refl
      kept_fit true false e f = never (sym f)
      kept_fit false fit e f = never e

  pub record Behind (c : Context) (base : Base) (vs : List VariableTree) : Type 0 where
    pub sized : all_sized c.structs (variables_locals c base vs) ≡ true
    pub tree : Known (variables_typed (within s₀ c) base vs)
    pub stands : Stands (after_variables false c base vs)

  pub variables_known : (vs : List VariableTree) (c : Context) (base : Base) → Stands c → variables_faults false c base vs ≡ []
      → sites_taken declared_nodes placed (variables_sites false c base vs) ≡ true → locals_fine declared_nodes placed (variables_locals c base vs) ≡ true → Behind c base vs
  variables_known [] c base h faults taken fine = record { sized = refl; tree = record { value = _; is = refl }; stands = h }
  variables_known (v ∷ vs) c base h faults taken fine =
      let after = after_variable false c base v in
      let own = none_left (variable_faults false c after base v) (variables_faults false after base vs) faults in
      let tests_faults = none_left (faults_of v.declarator.node.id (variable_tests false c after base v)) _ own in
      let parts = none_right (faults_of v.declarator.node.id (variable_tests false c after base v)) _ own in
      let initialiser = none_right (lengths_faults c v.declarator.lengths.given) _ parts in
      let typed_lengths = lengths_typed c (has_types (within s₀ c) declared_nodes h.sound) v.declarator.lengths.given (none_left _ _ parts) in
      let unheld = not_held_back false after (variable_declared c base v).type v.initialiser initialiser in
      let whole_tests = ap (λ b. breaks_one (if b then [] else again_tests false c v ++
      ((variable_declared c base v).tests ++ initialiser_tests false after (variable_declared c base v).type v.initialiser)))
      (sym unheld) ∙ unbroken v.declarator.node.id (variable_tests false c after base v) tests_faults in
      let later_tests = second_unbroken (again_tests false c v) _ whole_tests in
      let d = declared_known c base v.declarator (length_by v.initialiser) typed_lengths (first_unbroken (variable_declared c base v).tests _ later_tests) in
      let fine_here = first_so (is_fine_local declared_nodes placed (record { node = v.declarator.node.id; type = (variable_declared c base v).type })) _ fine in
      let stands = variable_stands c h base v d fine_here in
      let initialiser_unbroken = subst (λ o. breaks_one (initialiser_tests false after o v.initialiser) ≡ false) d.is
      (second_unbroken (variable_declared c base v).tests _ later_tests) in
      let here = sites_left declared_nodes placed (variable_sites false c after base v) (variables_sites false after base vs) taken in
      let initialiser_taken = sites_right declared_nodes placed (declarator_sites c v.declarator)
      (option_initialiser_sites false after (variable_declared c base v).type v.initialiser) here in
      let now = initialised_known after stands v.declarator.node.id d.type (fine_at d stands) v.initialiser initialiser_unbroken
      (subst (λ o. option_initialiser_faults false after o v.initialiser ≡ []) d.is initialiser)
      (subst (λ o. sites_taken declared_nodes placed (option_initialiser_sites false after o v.initialiser) ≡ true) d.is initialiser_taken) in
      let rest = variables_known vs after base stands (none_right (variable_faults false c after base v) (variables_faults false after base vs) faults)
      (sites_right declared_nodes placed (variable_sites false c after base v) (variables_sites false after base vs) taken)
      (second_so (is_fine_local declared_nodes placed (record { node = v.declarator.node.id; type = (variable_declared c base v).type })) _ fine) in
      let first : Known (variable_typed (within s₀ c) base v) = record { value = now.value; is = goes (variable_declared c base v).type d.type _ _ d.is now.is } in
      record {
        sized = and_from _ _ (has_size c.structs (variable_declared c base v).type d.type d.is d.complete) rest.sized;
        tree = onward (variable_typed (within s₀ c) base v) _ first (onward (variables_typed (within s₀ after) base vs) _ rest.tree (record { value = _; is = refl }));
        stands = rest.stands;
      }
    where
      fine_at : (d : DeclaredAs c.structs (variable_declared c base v)) → Stands (after_variable false c base v)
          → IsFine c.structs declared_nodes placed v.declarator.node.id d.type
      fine_at d stands = subst (λ o. EntityFine c.structs declared_nodes placed (local_variable v.declarator.node.id o)) d.is stands.sound.names.0

  -- ---- expressions in statements

  taken_alone : (c : Context) (e : ExprTree) → sites_taken declared_nodes placed (site c e) ≡ true → are_taken declared_nodes placed (addressed c e) ≡ true
  taken_alone c e h = first_so _ _ h

  effect_known : (c : Context) → Stands c → (e : ExprTree) → expr_faults c discarded e ≡ [] → sites_taken declared_nodes placed (site c e) ≡ true → Known
      (effect_typed (within s₀ c) e)
  effect_known c h e f taken = onward (typed (within s₀ c) e) _ (typed_known (within s₀ c) declared_nodes h.sound e discarded f (taken_alone c e taken))
      (record { value = _; is = refl })

  option_effect_known : (c : Context) → Stands c → (e : Option ExprTree) → option_discarded c e ≡ [] → sites_taken declared_nodes placed (option_sites c e) ≡ true → Known
      (option_effect (within s₀ c) e)
  option_effect_known c h None f taken = record { value = _; is = refl }
  option_effect_known c h (Some e) f taken = effect_known c h e f taken

  condition_known : (c : Context) → Stands c → (e : ExprTree) → expr_faults c used e ≡ [] → sites_taken declared_nodes placed (site c e) ≡ true → Known
      (condition_typed (within s₀ c) e)
  condition_known c h e f taken = onward (typed (within s₀ c) e) _ (typed_known (within s₀ c) declared_nodes h.sound e used f (taken_alone c e taken))
      (record { value = _; is = refl })

  option_condition_known : (c : Context) → Stands c → (e : Option ExprTree) → option_used c e ≡ [] → sites_taken declared_nodes placed (option_sites c e) ≡ true → Known
      (option_condition (within s₀ c) e)
  option_condition_known c h None f taken = record { value = _; is = refl }
  option_condition_known c h (Some e) f taken = onward (condition_typed (within s₀ c) e) _ (condition_known c h e f taken) (record { value = _; is = refl })

  return_known : (c : Context) → Stands c → (e : Option ExprTree) → option_used c e ≡ [] → sites_taken declared_nodes placed (option_sites c e) ≡ true → Known
      (return_typed (within s₀ c) e)
  return_known c h None f taken = record { value = _; is = refl }
  return_known c h (Some e) f taken =
      onward c.result _ h.result (onward (typed (within s₀ c) e) _ (typed_known (within s₀ c) declared_nodes h.sound e used f (taken_alone c e taken))
      (record { value = _; is = refl }))

  switch_known : (c : Context) → Stands c → (node : Node) (e : ExprTree) → switch_faults c node e ≡ [] → sites_taken declared_nodes placed (site c e) ≡ true → Known
      (typed (within s₀ c) e)
  switch_known c h node e f taken = typed_known (within s₀ c) declared_nodes h.sound e used (none_right (faults_of node.id (switch_tests (type_of c e))) _ f) (taken_alone c e taken)

  case_known : (c : Context) → Stands c → (node : Node) (e : ExprTree) → (faults_of node.id (case_tests c e) ++ expr_faults c used e) ≡ [] → Known (case_typed (within s₀ c) e)
  case_known c h node e f =
      let t = type_of_known c (has_types (within s₀ c) declared_nodes h.sound) e used (none_right (faults_of node.id (case_tests c e)) _ f) in
      let own = first_unbroken (constant_tests (type_of c e) (constant_of c e)) _ (unbroken node.id (case_tests c e) (none_left _ _ f)) in
      let is = kept (is_some (constant_of c e)) (subst (λ o. breaks_one (constant_tests o (constant_of c e)) ≡ false) t.is own) in
      onward (constant_of c e) _ (known (constant_of c e) is) (record { value = _; is = refl })

  record Started (c : Context) (start : StartTree) : Type 0 where
    tree : Known (start_typed (within s₀ c) start)
    stands : Stands (after_start c start)

  start_known : (c : Context) → Stands c → (start : StartTree) → start_faults c start ≡ [] → sites_taken declared_nodes placed (start_sites c start) ≡ true
      → locals_fine declared_nodes placed (start_locals c start) ≡ true → Started c start
  start_known c h no_start f taken fine = record { tree = record { value = _; is = refl }; stands = h }
  start_known c h (start_expression e) f taken fine = record { tree = effect_known c h e f taken; stands = h }
  start_known c h (start_declaration d) f taken fine = let b = variables_known d.variables c d.base h f taken fine in record { tree = b.tree; stands = b.stands }

  -- ---- statements

  statement_stands : (t : StmtTree) (c : Context) → Stands c → statement_faults c t ≡ [] → sites_taken declared_nodes placed (statement_sites c t) ≡ true
      → locals_fine declared_nodes placed (statement_locals c t) ≡ true → Stands (after_statement c t)
  statement_stands (declaration d) c h f taken fine = (variables_known d.variables c d.base h f taken fine).stands
  statement_stands (empty node) c h f taken fine = h
  statement_stands (expression node e) c h f taken fine = h
  statement_stands (block ss) c h f taken fine = h
  statement_stands (switch node e ts) c h f taken fine = h
  statement_stands (case_label node e) c h f taken fine = case_stands c (case_value c e) h
  statement_stands (default_label node) c h f taken fine = default_stands c h
  statement_stands (branch node e t r) c h f taken fine = h
  statement_stands (while_loop node e t) c h f taken fine = h
  statement_stands (do_loop node t e) c h f taken fine = h
  statement_stands (for_loop node start e u t) c h f taken fine = h
  statement_stands (break node) c h f taken fine = h
  statement_stands (continue node) c h f taken fine = h
  statement_stands (return node e) c h f taken fine = h

  mutual
    pub statement_known : (t : StmtTree) (c : Context) → Stands c → statement_faults c t ≡ [] → sites_taken declared_nodes placed (statement_sites c t) ≡ true
        → locals_fine declared_nodes placed (statement_locals c t) ≡ true → Known (statement_typed (within s₀ c) t)
    statement_known (empty node) c h f taken fine = record { value = _; is = refl }
    statement_known (expression node e) c h f taken fine = onward (effect_typed (within s₀ c) e) _ (effect_known c h e f taken) (record { value = _; is = refl })
    statement_known (declaration d) c h f taken fine = onward (variables_typed (within s₀ c) d.base d.variables) _ (variables_known d.variables c d.base h f taken fine).tree
        (record { value = _; is = refl })
    statement_known (block ss) c h f taken fine = onward (statements_typed (within s₀ (inner_scope c)) ss) _ (all_known ss (inner_scope c) (inner_stands c h) f taken fine)
        (record { value = _; is = refl })
    statement_known (branch node e t r) c h f taken fine =
        let parts = none_right (condition_faults c node e) _ f in
        let rest = sites_right declared_nodes placed (site c e) (statement_sites (inner_scope c) t ++ else_sites c r) taken in
        onward (condition_typed (within s₀ c) e) _ (condition_known c h e (none_right (faults_of node.id (condition_tests (type_of c e))) _ (none_left _ _ f))
        (sites_left declared_nodes placed (site c e) (statement_sites (inner_scope c) t ++ else_sites c r) taken))
        (onward (statement_typed (within s₀ (inner_scope c)) t) _
        (statement_known t (inner_scope c) (inner_stands c h) (none_left _ _ parts)
        (sites_left declared_nodes placed (statement_sites (inner_scope c) t) (else_sites c r) rest)
        (locals_left declared_nodes placed (statement_locals (inner_scope c) t) (else_locals c r) fine))
        (onward (else_typed (within s₀ c) r) _ (else_known r c h (none_right (statement_faults (inner_scope c) t) _ parts)
        (sites_right declared_nodes placed (statement_sites (inner_scope c) t) (else_sites c r) rest)
        (locals_right declared_nodes placed (statement_locals (inner_scope c) t) (else_locals c r) fine))
        (record { value = _; is = refl })))
    statement_known (switch node e ts) c h f taken fine =
        let inside = switch_context c e in
        onward (typed (within s₀ c) e) _ (switch_known c h node e (none_left _ _ f) (sites_left declared_nodes placed (site c e) (statements_sites inside ts) taken))
        (onward (statements_typed (within s₀ inside) ts) _ (all_known ts inside (switch_stands c e h) (none_right (switch_faults c node e) _ f)
        (sites_right declared_nodes placed (site c e) (statements_sites inside ts) taken) fine)
        (record { value = _; is = refl }))
    statement_known (case_label node e) c h f taken fine = case_known c h node e f
    statement_known (default_label node) c h f taken fine = record { value = _; is = refl }
    statement_known (while_loop node e t) c h f taken fine =
        let body = inside_loop (inner_scope c) in
        onward (condition_typed (within s₀ c) e) _ (condition_known c h e (none_right (faults_of node.id (condition_tests (type_of c e))) _ (none_left _ _ f))
        (sites_left declared_nodes placed (site c e) (statement_sites body t) taken))
        (onward (statement_typed (within s₀ body) t) _ (statement_known t body (loop_stands c h) (none_right (condition_faults c node e) _ f)
        (sites_right declared_nodes placed (site c e) (statement_sites body t) taken) fine)
        (record { value = _; is = refl }))
    statement_known (do_loop node t e) c h f taken fine =
        let body = inside_loop (inner_scope c) in
        onward (statement_typed (within s₀ body) t) _ (statement_known t body (loop_stands c h) (none_left _ _ f)
        (sites_left declared_nodes placed (statement_sites body t) (site c e) taken) fine)
        (onward (condition_typed (within s₀ c) e) _ (condition_known c h e
        (none_right (faults_of node.id (condition_tests (type_of c e))) _ (none_right (statement_faults body t) _ f))
        (sites_right declared_nodes placed (statement_sites body t) (site c e) taken))
        (record { value = _; is = refl }))
    statement_known (for_loop node start e u t) c h f taken fine =
        let inside = for_context c start in
        let body = inside_loop (inner_scope inside) in
        let parts = none_right (start_faults (inner_scope c) start) _ f in
        let expressions = none_right (faults_of node.id (for_tests inside start e u)) _ (none_left (for_faults inside start node e u) (statement_faults body t) parts) in
        let rest = sites_right declared_nodes placed (start_sites (inner_scope c) start) (option_sites inside e ++ (option_sites inside u ++ statement_sites body t)) taken in
        let last = sites_right declared_nodes placed (option_sites inside e) (option_sites inside u ++ statement_sites body t) rest in
        let first = start_known (inner_scope c) (inner_stands c h) start (none_left _ _ f)
        (sites_left declared_nodes placed (start_sites (inner_scope c) start) (option_sites inside e ++ (option_sites inside u ++ statement_sites body t)) taken)
        (locals_left declared_nodes placed (start_locals (inner_scope c) start) (statement_locals body t) fine) in
        onward (start_typed (within s₀ (inner_scope c)) start) _ first.tree
        (onward (option_condition (within s₀ inside) e) _ (option_condition_known inside first.stands e (none_left _ _ expressions)
        (sites_left declared_nodes placed (option_sites inside e) (option_sites inside u ++ statement_sites body t) rest))
        (onward (option_effect (within s₀ inside) u) _ (option_effect_known inside first.stands u (none_right (option_used inside e) _ expressions)
        (sites_left declared_nodes placed (option_sites inside u) (statement_sites body t) last))
        (onward (statement_typed (within s₀ body) t) _ (statement_known t body (loop_stands inside first.stands)
        (none_right (for_faults inside start node e u) (statement_faults body t) parts)
        (sites_right declared_nodes placed (option_sites inside u) (statement_sites body t) last)
        (locals_right declared_nodes placed (start_locals (inner_scope c) start) (statement_locals body t) fine))
        (record { value = _; is = refl }))))
    statement_known (break node) c h f taken fine = record { value = _; is = refl }
    statement_known (continue node) c h f taken fine = record { value = _; is = refl }
    statement_known (return node e) c h f taken fine = return_known c h e (none_right (faults_of node.id (return_tests c c.result e)) _ f) taken

    pub all_known : (ss : Stmts) (c : Context) → Stands c → statements_faults c ss ≡ [] → sites_taken declared_nodes placed (statements_sites c ss) ≡ true
        → locals_fine declared_nodes placed (statements_locals c ss) ≡ true → Known (statements_typed (within s₀ c) ss)
    all_known no_stmts c h f taken fine = record { value = _; is = refl }
    all_known (stmt_and t ts) c h f taken fine =
        let after = after_statement c t in
        let first = none_left (statement_faults c t) (statements_faults after ts) f in
        let first_taken = sites_left declared_nodes placed (statement_sites c t) (statements_sites after ts) taken in
        let first_fine = locals_left declared_nodes placed (statement_locals c t) (statements_locals after ts) fine in
        onward (statement_typed (within s₀ c) t) _ (statement_known t c h first first_taken first_fine)
        (onward (statements_typed (within s₀ after) ts) _ (all_known ts after (statement_stands t c h first first_taken first_fine)
        (none_right (statement_faults c t) (statements_faults after ts) f)
        (sites_right declared_nodes placed (statement_sites c t) (statements_sites after ts) taken)
        (locals_right declared_nodes placed (statement_locals c t) (statements_locals after ts) fine))
        (record { value = _; is = refl }))

    pub else_known : (r : Else) (c : Context) → Stands c → else_faults c r ≡ [] → sites_taken declared_nodes placed (else_sites c r) ≡ true
        → locals_fine declared_nodes placed (else_locals c r) ≡ true → Known (else_typed (within s₀ c) r)
    else_known no_else c h f taken fine = record { value = _; is = refl }
    else_known (else_by t) c h f taken fine = statement_known t (inner_scope c) (inner_stands c h) f taken fine

  -- ---- the types of locals have sizes

  start_sized : (start : StartTree) (c : Context) → Stands c → start_faults c start ≡ [] → sites_taken declared_nodes placed (start_sites c start) ≡ true
      → locals_fine declared_nodes placed (start_locals c start) ≡ true → all_sized c.structs (start_locals c start) ≡ true
  start_sized no_start c h f taken fine = refl
  start_sized (start_expression e) c h f taken fine = refl
  start_sized (start_declaration d) c h f taken fine = (variables_known d.variables c d.base h f taken fine).sized

  -- a declaration changes no struct
  same_structs : (base : Base) (vs : List VariableTree) (c : Context) → (after_variables false c base vs).structs ≡ c.structs
  same_structs base [] c = refl
  same_structs base (v ∷ vs) c = same_structs base vs (after_variable false c base v)

  start_structs : (start : StartTree) (c : Context) → (after_start c start).structs ≡ c.structs
  start_structs no_start c = refl
  start_structs (start_expression e) c = refl
  start_structs (start_declaration d) c = same_structs d.base d.variables c

  case_structs : (c : Context) (value : Option ℕ) → (with_case c value).structs ≡ c.structs
  case_structs c None = refl
  case_structs c (Some n) = refl

  statement_structs : (t : StmtTree) (c : Context) → (after_statement c t).structs ≡ c.structs
  statement_structs (declaration d) c = same_structs d.base d.variables c
  statement_structs (empty node) c = refl
  statement_structs (expression node e) c = refl
  statement_structs (block ss) c = refl
  statement_structs (switch node e ts) c = refl
  statement_structs (case_label node e) c = case_structs c (case_value c e)
  statement_structs (default_label node) c = refl
  statement_structs (branch node e t r) c = refl
  statement_structs (while_loop node e t) c = refl
  statement_structs (do_loop node t e) c = refl
  statement_structs (for_loop node start e u t) c = refl
  statement_structs (break node) c = refl
  statement_structs (continue node) c = refl
  statement_structs (return node e) c = refl

  mutual
    statement_sized : (t : StmtTree) (c : Context) → Stands c → statement_faults c t ≡ [] → sites_taken declared_nodes placed (statement_sites c t) ≡ true
        → locals_fine declared_nodes placed (statement_locals c t) ≡ true → all_sized c.structs (statement_locals c t) ≡ true
    statement_sized (empty node) c h f taken fine = refl
    statement_sized (expression node e) c h f taken fine = refl
    statement_sized (declaration d) c h f taken fine = (variables_known d.variables c d.base h f taken fine).sized
    statement_sized (block ss) c h f taken fine = body_sized ss (inner_scope c) (inner_stands c h) f taken fine
    statement_sized (branch node e t r) c h f taken fine =
        let parts = none_right (condition_faults c node e) _ f in
        let rest = sites_right declared_nodes placed (site c e) (statement_sites (inner_scope c) t ++ else_sites c r) taken in
        sized_together c.structs (statement_locals (inner_scope c) t) (else_locals c r)
        (statement_sized t (inner_scope c) (inner_stands c h) (none_left _ _ parts)
        (sites_left declared_nodes placed (statement_sites (inner_scope c) t) (else_sites c r) rest)
        (locals_left declared_nodes placed (statement_locals (inner_scope c) t) (else_locals c r) fine))
        (else_sized r c h (none_right (statement_faults (inner_scope c) t) _ parts)
        (sites_right declared_nodes placed (statement_sites (inner_scope c) t) (else_sites c r) rest)
        (locals_right declared_nodes placed (statement_locals (inner_scope c) t) (else_locals c r) fine))
    statement_sized (switch node e ts) c h f taken fine =
        let inside = switch_context c e in
        body_sized ts inside (switch_stands c e h) (none_right (switch_faults c node e) _ f)
        (sites_right declared_nodes placed (site c e) (statements_sites inside ts) taken) fine
    statement_sized (case_label node e) c h f taken fine = refl
    statement_sized (default_label node) c h f taken fine = refl
    statement_sized (while_loop node e t) c h f taken fine =
        let body = inside_loop (inner_scope c) in
        statement_sized t body (loop_stands c h) (none_right (condition_faults c node e) _ f)
        (sites_right declared_nodes placed (site c e) (statement_sites body t) taken) fine
    statement_sized (do_loop node t e) c h f taken fine =
        let body = inside_loop (inner_scope c) in
        statement_sized t body (loop_stands c h) (none_left _ _ f) (sites_left declared_nodes placed (statement_sites body t) (site c e) taken) fine
    statement_sized (for_loop node start e u t) c h f taken fine =
        let inside = for_context c start in
        let body = inside_loop (inner_scope inside) in
        let parts = none_right (start_faults (inner_scope c) start) _ f in
        let rest = sites_right declared_nodes placed (start_sites (inner_scope c) start) (option_sites inside e ++ (option_sites inside u ++ statement_sites body t)) taken in
        let last = sites_right declared_nodes placed (option_sites inside e) (option_sites inside u ++ statement_sites body t) rest in
        let start_faultless = none_left (start_faults (inner_scope c) start) _ f in
        let start_taken = sites_left declared_nodes placed (start_sites (inner_scope c) start)
        (option_sites inside e ++ (option_sites inside u ++ statement_sites body t)) taken in
        let start_fine = locals_left declared_nodes placed (start_locals (inner_scope c) start) (statement_locals body t) fine in
        let first = start_known (inner_scope c) (inner_stands c h) start start_faultless start_taken start_fine in
        let inner = statement_sized t body (loop_stands inside first.stands) (none_right (for_faults inside start node e u) (statement_faults body t) parts)
        (sites_right declared_nodes placed (option_sites inside u) (statement_sites body t) last)
        (locals_right declared_nodes placed (start_locals (inner_scope c) start) (statement_locals body t) fine) in
        sized_together c.structs (start_locals (inner_scope c) start) (statement_locals body t)
        (start_sized start (inner_scope c) (inner_stands c h) start_faultless start_taken start_fine)
        (subst (λ z. all_sized z (statement_locals body t) ≡ true) (start_structs start (inner_scope c)) inner)
    statement_sized (break node) c h f taken fine = refl
    statement_sized (continue node) c h f taken fine = refl
    statement_sized (return node e) c h f taken fine = refl

    pub body_sized : (ss : Stmts) (c : Context) → Stands c → statements_faults c ss ≡ [] → sites_taken declared_nodes placed (statements_sites c ss) ≡ true
        → locals_fine declared_nodes placed (statements_locals c ss) ≡ true → all_sized c.structs (statements_locals c ss) ≡ true
    body_sized no_stmts c h f taken fine = refl
    body_sized (stmt_and t ts) c h f taken fine =
        let after = after_statement c t in
        let first = none_left (statement_faults c t) (statements_faults after ts) f in
        let first_taken = sites_left declared_nodes placed (statement_sites c t) (statements_sites after ts) taken in
        let first_fine = locals_left declared_nodes placed (statement_locals c t) (statements_locals after ts) fine in
        let rest = body_sized ts after (statement_stands t c h first first_taken first_fine) (none_right (statement_faults c t) (statements_faults after ts) f)
        (sites_right declared_nodes placed (statement_sites c t) (statements_sites after ts) taken)
        (locals_right declared_nodes placed (statement_locals c t) (statements_locals after ts) fine) in
        sized_together c.structs (statement_locals c t) (statements_locals after ts) (statement_sized t c h first first_taken first_fine)
        (subst (λ z. all_sized z (statements_locals after ts) ≡ true) (statement_structs t c) rest)

    else_sized : (r : Else) (c : Context) → Stands c → else_faults c r ≡ [] → sites_taken declared_nodes placed (else_sites c r) ≡ true
        → locals_fine declared_nodes placed (else_locals c r) ≡ true → all_sized c.structs (else_locals c r) ≡ true
    else_sized no_else c h f taken fine = refl
    else_sized (else_by t) c h f taken fine = statement_sized t (inner_scope c) (inner_stands c h) f taken fine
