-- What a task touches is a reach in which its functions stay, and out of which no initial pointer leads.
use Rattle.std.proofs.Common.{◌≡◌, ⊎_elim, ℕ, zero, suc, ◌+◌, ◌<◌, ◌≤◌, ◌==◌, ◌&&◌, ◌||◌, not, nat_eq, nat_lt, cond, Bool, true, false, List, [], ◌∷◌, ◌++◌, length, map, Option, Some, None, refl, sym, ap, ◌∙◌, subst, arith, if◌then◌else◌}
use Rattle.std.specs.Prelude.{flat_map, position, slice_index_or}
use Rattle.std.specs.List.{slice_get, list_all, cons_option, position_or_len}
use Rattle.std.proofs.lemmas.Bool.{both_ways, false_from_ne_true, and_parts, and_from, cases_lt, lt-ltb, or_right, or_left}
use Rattle.std.proofs.lemmas.List.Folds.{list_all-append, list_any-append}
use Rattle.std.proofs.lemmas.Option.{same_Some}
use Rattle.std.proofs.lemmas.Cmp.{nat_eq_equiv}
use Rattle.qs_syntax.specs.Trees.{VariableTree, FunctionTree, Stmts, DeclTree, structure, forward, typedef, function, variables, UnitTree}
use Rattle.qs_syntax.specs.Trees as trees
use Rattle.qs_memory.specs.Values.{null, into}
use Rattle.qs_memory.specs.Memory.{Cell, unset, byte, part, block_at}
use Rattle.qs_memory.proofs.Options.{followed}
use Rattle.qs_calls.specs.declared.callee.Callee.{Callee}
use Rattle.qs_calls.specs.declared.callee.Callee.TheVariants as callees
use Rattle.qs_types.specs.Contexts.{Context, inner_scope}
use Rattle.qs_types.specs.Placed.{addressed_in, statements_locals}
use Rattle.qs_types.specs.References.{TextBlock, literal_blocks}
use Rattle.qs_types.specs.Referents.{referent_of}
use Rattle.qs_types.specs.UnitRules.{after_declaration, body_context, parameter_types}
use Rattle.qs_types.specs.declared.referent.Referent.{Referent}
use Rattle.qs_types.specs.declared.referent.Referent.TheVariants as referents
use Rattle.qs_typing_findings.specs.NodeReferents.{no_referent}
use Rattle.qs_typing_findings.specs.UnitNodes.{of_parameters, of_body, of_statements}
use Rattle.qs_core.specs.CallGraph.{is_member}
use Rattle.qs_callgraph.proofs.MemberLaws.{member_first, member-filter}
use Rattle.qs_meaning.specs.InitialValues.{text_cells, text_block}
use Rattle.qs_meaning.specs.Names.{Scope, within, place_among}
use Rattle.qs_meaning.specs.Typed.{Expr, constant, value, pointer_to, member, called, stepped_after, unary, cast, binary, logical_and, logical_or, conditional, assigned, sequence, Lvalue, variable, object, Arguments, no_arguments, argument_and, Assignment, set, update, Effect, nothing, discard, assign, perform, copy, fill, in_order, Stmt, evaluate, block, branch, switch, case_label, default_label, while_loop, do_loop, for_loop, break, continue, return, return_nothing, no_stmts, stmt_and, Function, StaticBlock, TypedProgram}
use Rattle.qs_meaning.specs.Typed as typed
use Rattle.qs_meaning.specs.Statements.{statements_typed}
use Rattle.qs_meaning.specs.Units.{locals_of, parameters_in, parameters_typed, variables_among, scalars_of, sizes_of, placed_among, in_body, function_with, function_typed, file_variables_typed, declaration_typed, declarations_typed, file_variables_in, start_scope, typed_of, block_of, initial_memory}
use Rattle.qs_hiding.specs.Hidden.{Reach, cell_stays, IsClosed, callee_stays, expression_stays, lvalue_stays, arguments_stay, assignment_stays, effect_stays, condition_stays, statement_stays, statements_stay}
use Rattle.qs_hiding.proofs.HiddenRuns.{hiding_keeps_runs}
use Rattle.qs_isolation.specs.Callees.{number_of, expression_callees, lvalue_callees, arguments_callees, assignment_callees, effect_callees, option_callees, statement_callees, statements_callees}
use Rattle.qs_isolation.specs.Links.{below, linked, function_calls, file_variable, places_among, variables_named, body_named, declaration_named, functions_named, cell_leads, block_leads, links_of}
use Rattle.qs_isolation.specs.Touches.{no_link, one_more, Touches}
use Rattle.qs_isolation.specs.TaskRuns.{IsReachOf, StaysInReach, TasksStayInReach, TasksRunAlone, IsolatedReachesAreApart}
use Rattle.qs_isolation.proofs.LinkLaws.{variables_have_blocks, declarations_long, touched_is_variable}
use Rattle.qs_isolation.proofs.SourceNames.{is_kept, statements_typed_stay}

-- ---- what stays by its names, and calls only what it may

module _ (r : Reach) where
  -- the same blocks, where every function may be called
  abbrev named_only : Reach
  named_only = record r { may_call = λ f. true }

  abbrev MayCall : List ℕ → Type 0
  MayCall fs = list_all r.may_call fs ≡ true

  may_parts : (ls bs : List ℕ) → MayCall (ls ++ bs) → MayCall ls × MayCall bs
  may_parts ls bs h = and_parts (list_all r.may_call ls) (list_all r.may_call bs) (sym (list_all-append r.may_call ls bs) ∙ h)

  callee_both : (f : Callee) → MayCall (number_of f) → callee_stays r f ≡ true
  callee_both (callees.Function f) k = (and_parts (r.may_call f.0) true k).0
  callee_both callees.PutChar k = refl
  callee_both callees.GetChar k = refl

  -- two parts, each of which stays
  two_parts : (x y p q : Bool) (ls bs : List ℕ) → (x ≡ true → MayCall ls → p ≡ true) → (y ≡ true → MayCall bs → q ≡ true) → (x && y) ≡ true → MayCall (ls ++ bs) → (p && q) ≡ true
  two_parts x y p q ls bs first second h k =
      let two = and_parts x y h in
      let parts = may_parts ls bs k in
      and_from p q (first two.0 parts.0) (second two.1 parts.1)

  mutual
    expression_both : (a : Expr) → expression_stays named_only a ≡ true → MayCall (expression_callees a) → expression_stays r a ≡ true
    expression_both (constant s n) h k = refl
    expression_both (value s l) h k = lvalue_both l h k
    expression_both (pointer_to (typed.local n)) h k = refl
    expression_both (pointer_to (typed.static n)) h k = h
    expression_both (member offset a) h k = expression_both a h k
    expression_both (called s f es) h k =
        let two = and_parts (callee_stays named_only f) (arguments_stay named_only es) h in
        let parts = may_parts (number_of f) (arguments_callees es) k in
        and_from (callee_stays r f) (arguments_stay r es) (callee_both f parts.0) (arguments_both es two.1 parts.1)
    expression_both (stepped_after s l operation left back) h k = lvalue_both l h k
    expression_both (unary operation c a) h k = expression_both a h k
    expression_both (cast c a) h k = expression_both a h k
    expression_both (binary operation order left right a b) h k = two_parts (expression_stays named_only a) (expression_stays named_only b) (expression_stays r a) (expression_stays r b) (expression_callees a) (expression_callees b) (expression_both a) (expression_both b) h k
    expression_both (logical_and a b) h k = two_parts (expression_stays named_only a) (expression_stays named_only b) (expression_stays r a) (expression_stays r b) (expression_callees a) (expression_callees b) (expression_both a) (expression_both b) h k
    expression_both (logical_or a b) h k = two_parts (expression_stays named_only a) (expression_stays named_only b) (expression_stays r a) (expression_stays r b) (expression_callees a) (expression_callees b) (expression_both a) (expression_both b) h k
    expression_both (conditional s a second third b c) h k =
        let two = and_parts (expression_stays named_only a) (expression_stays named_only b && expression_stays named_only c) h in
        let parts = may_parts (expression_callees a) (expression_callees b ++ expression_callees c) k in
        and_from (expression_stays r a) (expression_stays r b && expression_stays r c) (expression_both a two.0 parts.0) (two_parts (expression_stays named_only b) (expression_stays named_only c) (expression_stays r b) (expression_stays r c) (expression_callees b) (expression_callees c) (expression_both b) (expression_both c) two.1 parts.1)
    expression_both (assigned a) h k = assignment_both a h k
    expression_both (sequence a b) h k =
        let two = and_parts (effect_stays named_only a) (expression_stays named_only b) h in
        let parts = may_parts (effect_callees a) (expression_callees b) k in
        and_from (effect_stays r a) (expression_stays r b) (effect_both a two.0 parts.0) (expression_both b two.1 parts.1)

    lvalue_both : (l : Lvalue) → lvalue_stays named_only l ≡ true → MayCall (lvalue_callees l) → lvalue_stays r l ≡ true
    lvalue_both (variable x) h k = refl
    lvalue_both (object a) h k = expression_both a h k

    arguments_both : (es : Arguments) → arguments_stay named_only es ≡ true → MayCall (arguments_callees es) → arguments_stay r es ≡ true
    arguments_both no_arguments h k = refl
    arguments_both (argument_and c a es) h k =
        let two = and_parts (expression_stays named_only a) (arguments_stay named_only es) h in
        let parts = may_parts (expression_callees a) (arguments_callees es) k in
        and_from (expression_stays r a) (arguments_stay r es) (expression_both a two.0 parts.0) (arguments_both es two.1 parts.1)

    assignment_both : (a : Assignment) → assignment_stays named_only a ≡ true → MayCall (assignment_callees a) → assignment_stays r a ≡ true
    assignment_both (set s l c a) h k = two_parts (lvalue_stays named_only l) (expression_stays named_only a) (lvalue_stays r l) (expression_stays r a) (lvalue_callees l) (expression_callees a) (lvalue_both l) (expression_both a) h k
    assignment_both (update s l operation left right back a) h k = two_parts (lvalue_stays named_only l) (expression_stays named_only a) (lvalue_stays r l) (expression_stays r a) (lvalue_callees l) (expression_callees a) (lvalue_both l) (expression_both a) h k

    effect_both : (a : Effect) → effect_stays named_only a ≡ true → MayCall (effect_callees a) → effect_stays r a ≡ true
    effect_both nothing h k = refl
    effect_both (discard a) h k = expression_both a h k
    effect_both (assign a) h k = assignment_both a h k
    effect_both (perform f es) h k =
        let two = and_parts (callee_stays named_only f) (arguments_stay named_only es) h in
        let parts = may_parts (number_of f) (arguments_callees es) k in
        and_from (callee_stays r f) (arguments_stay r es) (callee_both f parts.0) (arguments_both es two.1 parts.1)
    effect_both (copy size alignment a b) h k = two_parts (expression_stays named_only a) (expression_stays named_only b) (expression_stays r a) (expression_stays r b) (expression_callees a) (expression_callees b) (expression_both a) (expression_both b) h k
    effect_both (fill blank a) h k = expression_both a h k
    effect_both (in_order a b) h k =
        let two = and_parts (effect_stays named_only a) (effect_stays named_only b) h in
        let parts = may_parts (effect_callees a) (effect_callees b) k in
        and_from (effect_stays r a) (effect_stays r b) (effect_both a two.0 parts.0) (effect_both b two.1 parts.1)

  condition_both : (a : Option Expr) → condition_stays named_only a ≡ true → MayCall (option_callees a) → condition_stays r a ≡ true
  condition_both None h k = refl
  condition_both (Some a) h k = expression_both a h k

  mutual
    statement_both : (s : Stmt) → statement_stays named_only s ≡ true → MayCall (statement_callees s) → statement_stays r s ≡ true
    statement_both (evaluate a) h k = effect_both a h k
    statement_both (block ss) h k = statements_both ss h k
    statement_both (branch e a b) h k =
        let three = and_parts (expression_stays named_only e) (statement_stays named_only a && statement_stays named_only b) h in
        let two = and_parts (statement_stays named_only a) (statement_stays named_only b) three.1 in
        let parts = may_parts (expression_callees e) (statement_callees a ++ statement_callees b) k in
        let more = may_parts (statement_callees a) (statement_callees b) parts.1 in
        and_from (expression_stays r e) (statement_stays r a && statement_stays r b) (expression_both e three.0 parts.0)
        (and_from (statement_stays r a) (statement_stays r b) (statement_both a two.0 more.0) (statement_both b two.1 more.1))
    statement_both (switch c e ss) h k =
        let two = and_parts (expression_stays named_only e) (statements_stay named_only ss) h in
        let parts = may_parts (expression_callees e) (statements_callees ss) k in
        and_from (expression_stays r e) (statements_stay r ss) (expression_both e two.0 parts.0) (statements_both ss two.1 parts.1)
    statement_both (case_label n) h k = refl
    statement_both default_label h k = refl
    statement_both (while_loop e a) h k =
        let two = and_parts (expression_stays named_only e) (statement_stays named_only a) h in
        let parts = may_parts (expression_callees e) (statement_callees a) k in
        and_from (expression_stays r e) (statement_stays r a) (expression_both e two.0 parts.0) (statement_both a two.1 parts.1)
    statement_both (do_loop a e) h k =
        let two = and_parts (statement_stays named_only a) (expression_stays named_only e) h in
        let parts = may_parts (statement_callees a) (expression_callees e) k in
        and_from (statement_stays r a) (expression_stays r e) (statement_both a two.0 parts.0) (expression_both e two.1 parts.1)
    statement_both (for_loop start e step a) h k =
        let four = and_parts (effect_stays named_only start) (condition_stays named_only e && (effect_stays named_only step && statement_stays named_only a)) h in
        let three = and_parts (condition_stays named_only e) (effect_stays named_only step && statement_stays named_only a) four.1 in
        let two = and_parts (effect_stays named_only step) (statement_stays named_only a) three.1 in
        let parts = may_parts (effect_callees start) (option_callees e ++ (effect_callees step ++ statement_callees a)) k in
        let more = may_parts (option_callees e) (effect_callees step ++ statement_callees a) parts.1 in
        let most = may_parts (effect_callees step) (statement_callees a) more.1 in
        and_from (effect_stays r start) (condition_stays r e && (effect_stays r step && statement_stays r a)) (effect_both start four.0 parts.0)
        (and_from (condition_stays r e) (effect_stays r step && statement_stays r a) (condition_both e three.0 more.0)
        (and_from (effect_stays r step) (statement_stays r a) (effect_both step two.0 most.0) (statement_both a two.1 most.1)))
    statement_both break h k = refl
    statement_both continue h k = refl
    statement_both (return c e) h k = expression_both e h k
    statement_both return_nothing h k = refl

    statements_both : (ss : typed.Stmts) → statements_stay named_only ss ≡ true → MayCall (statements_callees ss) → statements_stay r ss ≡ true
    statements_both no_stmts h k = refl
    statements_both (stmt_and s ss) h k =
        let two = and_parts (statement_stays named_only s) (statements_stay named_only ss) h in
        let parts = may_parts (statement_callees s) (statements_callees ss) k in
        and_from (statement_stays r s) (statements_stay r ss) (statement_both s two.0 parts.0) (statements_both ss two.1 parts.1)

-- ---- the variables that are named are kept

step : (b : Bool) (p : ℕ) → (if b then 0 else p + 1) ≡ cond (not b) (1 + p) 0
step true p = refl
step false p = omega arith

where_is : (node : ℕ) (xs : List ℕ) → place_among node xs ≡ position_or_len (nat_eq node) xs
where_is node [] = refl
where_is node (x ∷ xs) = (λ i. if nat_eq_equiv.symm x node i then 0 else where_is node xs i + 1) ∙ step (nat_eq node x) (position_or_len (nat_eq node) xs)

-- the place of a node that is among them
place_is : (node : ℕ) (vs : List ℕ) → place_among node vs < length vs → position (nat_eq node) vs ≡ Some (place_among node vs)
place_is node vs lt =
    let here = where_is node vs in
    let small : nat_lt (position_or_len (nat_eq node) vs) (length vs) ≡ true = lt-ltb (position_or_len (nat_eq node) vs) (length vs) (subst (λ (n : ℕ). n < length vs) here lt) in
    ap (λ (b : Bool). cond b (Some (position_or_len (nat_eq node) vs)) None) small ∙ ap (λ (n : ℕ). Some n) (sym here)

or_none : (b : Bool) → (b || false) ≡ true → b ≡ true
or_none true e = refl
or_none false e = e

module _ (r : Reach) (vs : List ℕ) (others : (b : ℕ) → length vs ≤ b → r.keeps b ≡ true) where
  one_kept : (node : ℕ) → ((x : ℕ) → is_member x (places_among vs (node ∷ [])) ≡ true → r.keeps x ≡ true) → r.keeps (place_among node vs) ≡ true
  one_kept node h = ⊎_elim
      (λ (lt : place_among node vs < length vs).
      h (place_among node vs) (ap (λ (o : Option ℕ). is_member (place_among node vs) (cons_option o [])) (place_is node vs lt) ∙ member_first (place_among node vs) []))
      (λ (ge : length vs ≤ place_among node vs). others (place_among node vs) ge)
      (cases_lt (place_among node vs) (length vs))

  places_first : (node : ℕ) (nodes : List ℕ) (x : ℕ) → is_member x (places_among vs (node ∷ [])) ≡ true → is_member x (places_among vs (node ∷ nodes)) ≡ true
  places_first node nodes x h = by (position (nat_eq node) vs) h
    where
      by : (o : Option ℕ) → is_member x (cons_option o []) ≡ true → is_member x (cons_option o (places_among vs nodes)) ≡ true
      by None e = absurd (both_ways false refl e)
      by (Some p) e = or_left (p == x) (is_member x (places_among vs nodes)) (or_none (p == x) e)

  places_later : (node : ℕ) (nodes : List ℕ) (x : ℕ) → is_member x (places_among vs nodes) ≡ true → is_member x (places_among vs (node ∷ nodes)) ≡ true
  places_later node nodes x h = by (position (nat_eq node) vs)
    where
      by : (o : Option ℕ) → is_member x (cons_option o (places_among vs nodes)) ≡ true
      by None = h
      by (Some p) = or_right (p == x) (is_member x (places_among vs nodes)) h

  -- all that is named is kept
  all_kept : (rs : List (Option Referent)) → ((x : ℕ) → is_member x (places_among vs (flat_map file_variable rs)) ≡ true → r.keeps x ≡ true) → list_all (is_kept r vs) rs ≡ true
  all_kept [] h = refl
  all_kept (None ∷ rs) h = all_kept rs h
  all_kept (Some (referents.Local node) ∷ rs) h = all_kept rs h
  all_kept (Some (referents.Function node) ∷ rs) h = all_kept rs h
  all_kept (Some referents.PutChar ∷ rs) h = all_kept rs h
  all_kept (Some referents.GetChar ∷ rs) h = all_kept rs h
  all_kept (Some (referents.File node) ∷ rs) h =
      and_from (r.keeps (place_among node vs)) (list_all (is_kept r vs) rs)
      (one_kept node (λ x m. h x (places_first node (flat_map file_variable rs) x m)))
      (all_kept rs (λ x m. h x (places_later node (flat_map file_variable rs) x m)))

  -- ---- functions, by their places

  abbrev NamesKept : List (List ℕ) → (function : ℕ) → Type 0
  NamesKept named f = (x : ℕ) → is_member x (linked named f) ≡ true → r.keeps x ≡ true

  module _ (calls : (f : ℕ) → r.may_call f ≡ true) where
    -- each stays whose names are kept
    record AreNamed (fs : List Function) (named : List (List ℕ)) : Type 0 where
      as_many : length named ≡ length fs
      stay : (f : ℕ) (g : Function) → slice_get fs f ≡ Some g → NamesKept named f → statements_stay r g.body ≡ true

    none_named : AreNamed [] []
    none_named = record { as_many = refl; stay = λ f g is h. cc }

    more_named : (fs gs : List Function) (ls bs : List (List ℕ)) → AreNamed fs ls → AreNamed gs bs → AreNamed (fs ++ gs) (ls ++ bs)
    more_named [] gs [] bs h k = k
    more_named [] gs (a ∷ ls) bs h k = let no = h.as_many in absurd (omega (arith, no))
    more_named (f ∷ fs) gs [] bs h k = let no = h.as_many in absurd (omega (arith, no))
    more_named (f ∷ fs) gs (a ∷ ls) bs h k =
        let many = h.as_many in
        let rest = more_named fs gs ls bs (record { as_many = omega (arith, many); stay = λ n g is names. h.stay (suc n) g is names }) k in
        record { as_many = ap suc rest.as_many; stay = stay rest }
      where
        stay : AreNamed (fs ++ gs) (ls ++ bs) → (n : ℕ) (g : Function) → slice_get (f ∷ (fs ++ gs)) n ≡ Some g → NamesKept (a ∷ (ls ++ bs)) n → statements_stay r g.body ≡ true
        stay rest zero g is names = h.stay zero g is names
        stay rest (suc n) g is names = rest.stay n g is names

    abbrev header_referents : Context → FunctionTree → List (Option Referent)
    header_referents c f = None ∷ of_parameters no_referent referent_of (inner_scope c) f.parameters

    body_named_stays : (s : Scope) → s.statics.variables ≡ vs → (f : FunctionTree) (body : Option trees.Stmts) (fs : List Function) → f.body ≡ body
        → function_typed s f body ≡ Some fs → AreNamed fs (body_named vs s.context f body)
    body_named_stays s has f None fs same is = subst (λ (l : List Function). AreNamed l []) (same_Some [] fs is) none_named
    body_named_stays s has f (Some body) fs same is =
        let addressed = addressed_in s.context f body in
        let ps = parameters_in s.context f in
        let ls = statements_locals (body_context s.context f) body in
        let g = followed (function_with s f body addressed ps ls) _ fs is in
        let parameters = followed (parameters_typed (locals_of addressed ps ls) f.parameters (parameter_types (inner_scope s.context) f.parameters)) _ g.value g.first in
        let scalars = followed (scalars_of (variables_among addressed ps ls)) _ g.value parameters.then in
        let sizes = followed (sizes_of s.context.structs (placed_among addressed (ps ++ ls))) _ g.value scalars.then in
        let ts = followed (statements_typed (in_body s f (locals_of addressed ps ls)) body) _ g.value sizes.then in
        let own : g.value.body ≡ ts.value = ap (λ (x : Function). x.body) (sym (same_Some _ g.value ts.then)) in
        subst (λ (l : List Function). AreNamed l (places_among vs (variables_named s.context f) ∷ [])) (same_Some (g.value ∷ []) fs g.then)
        (record { as_many = refl; stay = stays g.value ts.value (locals_of addressed ps ls) ts.first own })
      where
        stays : (g : Function) (ts : typed.Stmts) (locals : _) → statements_typed (in_body s f locals) body ≡ Some ts → g.body ≡ ts
            → (n : ℕ) (x : Function) → slice_get (g ∷ []) n ≡ Some x → NamesKept (places_among vs (variables_named s.context f) ∷ []) n → statements_stay r x.body ≡ true
        stays g ts locals made own zero x e names =
            let whole : variables_named s.context f ≡ flat_map file_variable ((header_referents s.context f) ++ of_statements no_referent referent_of (body_context s.context f) body) =
            ap (λ (b : Option trees.Stmts). flat_map file_variable ((header_referents s.context f) ++ of_body no_referent referent_of s.context f b)) same in
            let all = all_kept ((header_referents s.context f) ++ of_statements no_referent referent_of (body_context s.context f) body) (subst (λ (ns : List ℕ). (y : ℕ) → is_member y (places_among vs ns) ≡ true → r.keeps y ≡ true) whole names) in
            let parts = and_parts (list_all (is_kept r vs) (header_referents s.context f)) (list_all (is_kept r vs) (of_statements no_referent referent_of (body_context s.context f) body))
            (sym (list_all-append (is_kept r vs) (header_referents s.context f) (of_statements no_referent referent_of (body_context s.context f) body)) ∙ all) in
            subst (λ (y : Function). statements_stay r y.body ≡ true) (same_Some g x e)
            (subst (λ (b : typed.Stmts). statements_stay r b ≡ true) (sym own) (statements_typed_stay r vs calls others (in_body s f locals) has body ts made parts.1))
        stays g ts locals made own (suc n) x e names = cc

    declaration_stays : (s : Scope) → s.statics.variables ≡ vs → (d : DeclTree) (u : TypedProgram) → declaration_typed s d ≡ Some u → AreNamed u.functions (declaration_named vs s.context d)
    declaration_stays s has (structure d) u is = subst (λ (p : TypedProgram). AreNamed p.functions []) (same_Some _ u is) none_named
    declaration_stays s has (forward d) u is = subst (λ (p : TypedProgram). AreNamed p.functions []) (same_Some _ u is) none_named
    declaration_stays s has (typedef d) u is = subst (λ (p : TypedProgram). AreNamed p.functions []) (same_Some _ u is) none_named
    declaration_stays s has (function f) u is =
        let fs = followed (function_typed s f f.body) _ u is in
        subst (λ (p : TypedProgram). AreNamed p.functions (body_named vs s.context f f.body)) (same_Some _ u fs.then) (body_named_stays s has f f.body fs.value refl fs.first)
    declaration_stays s has (variables d) u is =
        let bs = followed (file_variables_typed s d.base d.variables) _ u is in
        subst (λ (p : TypedProgram). AreNamed p.functions []) (same_Some _ u bs.then) none_named

    declarations_stay : (s : Scope) → s.statics.variables ≡ vs → (ds : UnitTree) (u : TypedProgram) → declarations_typed s ds ≡ Some u → AreNamed u.functions (functions_named vs s.context ds)
    declarations_stay s has [] u is = subst (λ (p : TypedProgram). AreNamed p.functions []) (same_Some _ u is) none_named
    declarations_stay s has (d ∷ ds) u is =
        let after = after_declaration s.context d in
        let now = followed (declaration_typed s d) _ u is in
        let later = followed (declarations_typed (within s after) ds) _ u now.then in
        subst (λ (p : TypedProgram). AreNamed p.functions (declaration_named vs s.context d ++ functions_named vs after ds)) (same_Some _ u later.then)
        (more_named now.value.functions later.value.functions (declaration_named vs s.context d) (functions_named vs after ds)
        (declaration_stays s has d now.value now.first) (declarations_stay (within s after) has ds later.value later.first))

-- ---- lists by place

known_below : {A : Type 0} (xs : List A) (n : ℕ) (x : A) → slice_get xs n ≡ Some x → n < length xs
known_below [] n x h = cc
known_below (y ∷ xs) zero x h = omega arith
known_below (y ∷ xs) (suc n) x h = let r = known_below xs n x h in omega arith

linked_at : {A : Type 0} (f : A → List ℕ) (xs : List A) (n : ℕ) (x : A) → slice_get xs n ≡ Some x → linked (map f xs) n ≡ f x
linked_at f [] n x h = cc
linked_at f (y ∷ xs) zero x h = ap f (same_Some y x h)
linked_at f (y ∷ xs) (suc n) x h = linked_at f xs n x h

all_from : (p : ℕ → Bool) (ns : List ℕ) → ((n : ℕ) → is_member n ns ≡ true → p n ≡ true) → list_all p ns ≡ true
all_from p [] h = refl
all_from p (n ∷ ns) h = and_from (p n) (list_all p ns) (h n (member_first n ns)) (all_from p ns (λ m k. h m (or_right (n == m) (is_member m ns) k)))

below_member : (count : ℕ) (ns : List ℕ) (n : ℕ) → n < count → is_member n ns ≡ true → is_member n (below count ns) ≡ true
below_member count ns n lt h = member-filter (λ k. nat_lt k count) n ns ∙ and_from (nat_lt n count) (is_member n ns) (lt-ltb n count lt) h

-- ---- where initial pointers lead

abbrev all_leads : StaticBlock → List ℕ
all_leads b = flat_map cell_leads b.cells

module _ (r : Reach) where
  first_cell : (c : Cell) → ((b : ℕ) → is_member b (cell_leads c) ≡ true → r.keeps b ≡ true) → cell_stays r c ≡ true
  first_cell unset h = refl
  first_cell (byte n) h = refl
  first_cell (part null k) h = refl
  first_cell (part (into b o) k) h = h b (member_first b [])

  one_cell : (cells : List Cell) (offset : ℕ) → ((b : ℕ) → is_member b (flat_map cell_leads cells) ≡ true → r.keeps b ≡ true) → cell_stays r (slice_index_or cells offset unset) ≡ true
  one_cell [] offset h = refl
  one_cell (c ∷ cells) zero h =
      first_cell c (λ b m. h b (list_any-append (λ (x : ℕ). x == b) (cell_leads c) (flat_map cell_leads cells) ∙ or_left (is_member b (cell_leads c)) (is_member b (flat_map cell_leads cells)) m))
  one_cell (c ∷ cells) (suc offset) h =
      one_cell cells offset (λ b m. h b (list_any-append (λ (x : ℕ). x == b) (cell_leads c) (flat_map cell_leads cells) ∙ or_right (is_member b (cell_leads c)) (is_member b (flat_map cell_leads cells)) m))

  cells_stay : (bs : List StaticBlock) (b offset : ℕ) → ((o : ℕ) → is_member o (linked (map all_leads bs) b) ≡ true → r.keeps o ≡ true)
      → cell_stays r ((block_at (map block_of bs) b).cells offset) ≡ true
  cells_stay [] b offset h = refl
  cells_stay (x ∷ bs) zero offset h = one_cell x.cells offset h
  cells_stay (x ∷ bs) (suc b) offset h = cells_stay bs b offset h

texts_lead : (bytes : List ℕ) → flat_map cell_leads (text_cells bytes) ≡ []
texts_lead [] = refl
texts_lead (b ∷ bytes) = texts_lead bytes

text_blocks_lead : (ts : List TextBlock) (b o : ℕ) → is_member o (linked (map all_leads (map text_block ts)) b) ≡ true → ⊥
text_blocks_lead [] b o h = both_ways false refl h
text_blocks_lead (t ∷ ts) zero o h = both_ways false refl (sym (ap (is_member o) (texts_lead t.bytes)) ∙ h)
text_blocks_lead (t ∷ ts) (suc b) o h = text_blocks_lead ts b o h

behind_lead : (ls : List StaticBlock) (ts : List TextBlock) (b o : ℕ) → length ls ≤ b → is_member o (linked (map all_leads (ls ++ map text_block ts)) b) ≡ true → ⊥
behind_lead [] ts b o le h = text_blocks_lead ts b o h
behind_lead (a ∷ ls) ts zero o le h = absurd (omega arith)
behind_lead (a ∷ ls) ts (suc b) o le h = behind_lead ls ts b o (omega arith) h

link_there : (count : ℕ) (bs : List StaticBlock) (b o : ℕ) → o < count → is_member o (linked (map all_leads bs) b) ≡ true → is_member o (linked (map (block_leads count) bs) b) ≡ true
link_there count [] b o lt h = h
link_there count (x ∷ bs) zero o lt h = below_member count (all_leads x) o lt h
link_there count (x ∷ bs) (suc b) o lt h = link_there count bs b o lt h

-- ---- the law

module _ (unit : UnitTree) (u : TypedProgram) (task : ℕ) (r : Reach) (is : typed_of unit ≡ Some u) (reach : IsReachOf unit u task r) where
  abbrev vs : List ℕ
  vs = file_variables_in unit

  body_stays : (f : ℕ) (g : Function) → r.may_call f ≡ true → slice_get u.functions f ≡ Some g → statements_stay r g.body ≡ true
  body_stays f g may known =
      let lt = known_below u.functions f g known in
      let reached = (reach.functions f lt).0 may in
      let a = followed (declarations_typed (start_scope unit) unit) _ u is in
      let same : a.value.functions ≡ u.functions = ap (λ (p : TypedProgram). p.functions) (same_Some _ u a.then) in
      let named = declarations_stay (named_only r) vs reach.other_blocks (λ f. refl) (start_scope unit) refl unit a.value a.first in
      statements_both r g.body
      (named.stay f g (ap (λ fs. slice_get fs f) same ∙ known) (λ x m.
      let touches : Touches (links_of unit u) task x = record { function = f; reached = reached; named = x; has_name = m; led = no_link } in
      (reach.variables x (touched_is_variable unit u is task x touches)).1 touches))
      (all_from r.may_call (statements_callees g.body) (λ h m. ⊎_elim
      (λ (small : h < length u.functions).
      let link : is_member h (linked (links_of unit u).called f) ≡ true =
      ap (is_member h) (linked_at (function_calls (length u.functions)) u.functions f g known) ∙ below_member (length u.functions) (statements_callees g.body) h small m in
      (reach.functions h small).1 (one_more f h reached link))
      (λ (large : length u.functions ≤ h). reach.other_functions h large)
      (cases_lt h (length u.functions))))

  initial_closed : IsClosed r (initial_memory u)
  initial_closed = record {
    cells = λ b offset kept live. cells_stay r u.blocks b offset (λ o m. ⊎_elim
        (λ (small : o < length vs). ⊎_elim
        (λ (inside : b < length vs).
        let t = (reach.variables b inside).0 kept in
        let link = link_there (length vs) u.blocks b o small m in
        (reach.variables o small).1 (record { function = t.function; reached = t.reached; named = t.named; has_name = t.has_name; led = one_more b o t.led link }))
        (λ (text : length vs ≤ b).
        let a = followed (declarations_typed (start_scope unit) unit) _ u is in
        let same : u.blocks ≡ a.value.blocks ++ map text_block (literal_blocks unit) = ap (λ (p : TypedProgram). p.blocks) (sym (same_Some _ u a.then)) in
        let long = declarations_long (start_scope unit) unit a.value a.first in
        absurd (behind_lead a.value.blocks (literal_blocks unit) b o (omega (arith, long, text)) (sym (ap (λ (bs : List StaticBlock). is_member o (linked (map all_leads bs) b)) same) ∙ m)))
        (cases_lt b (length vs)))
        (λ (large : length vs ≤ o). reach.other_blocks o large)
        (cases_lt o (length vs)));
  }

  stays_in_reach : StaysInReach u r
  stays_in_reach = record {
    functions = record {
      blocks = λ b le. let more = variables_have_blocks unit u is in reach.other_blocks b (omega (arith, le, more));
      bodies = body_stays;
    };
    closed = initial_closed;
  }

pub tasks_stay_in_reach : TasksStayInReach
tasks_stay_in_reach unit u task r is reach = stays_in_reach unit u task r is reach

pub tasks_run_alone : TasksRunAlone
tasks_run_alone unit u task r w n is reach there closed longer =
    hiding_keeps_runs r u task [] w n (stays_in_reach unit u task r is reach).functions ((reach.functions task there).1 no_link) refl closed longer

pub isolated_reaches_are_apart : IsolatedReachesAreApart
isolated_reaches_are_apart unit u tasks i j first second x r q isolated order is was reach other there kept =
    false_from_ne_true (q.keeps x) (λ both. isolated.apart x i j (record {
      in_order = order;
      by_first = record { root = first; is = is; touches = (reach.variables x there).0 kept };
      by_second = record { root = second; is = was; touches = (other.variables x there).0 both };
    }))
