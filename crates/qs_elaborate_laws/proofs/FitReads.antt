-- What is read has names of the language.
use Rattle.std.proofs.Common.{◌≡◌, ℕ, Bool, true, List, [], ◌∷◌, ◌++◌, map, refl, sym, ◌∙◌, subst}
use Rattle.std.specs.List.{list_all}
use Rattle.std.proofs.lemmas.List.Folds.{list_all-append}
use Rattle.std.proofs.lemmas.Bool.{and_parts, and_from}
use Rattle.qs_base.specs.Names.{is_name}
use Rattle.qs_syntax_vocabulary.specs.declared.terminal.Terminal.{Terminal}
use Rattle.qs_syntax_vocabulary.specs.declared.terminal.Terminal.TheVariants.{Name}
use Rattle.qs_syntax.specs.Trees.{VariableTree, ParameterTree, StartTree, StmtTree, Stmts, DeclTree, UnitTree, DeclarationTree}
use Rattle.qs_syntax.specs.Nodes.{variable_count, parameter_count, decl_count}
use Rattle.qs_syntax.specs.Numbering.{Relabelling, numbered, relabel_all, relabel_variable, relabel_parameter, relabel_start, relabel_stmt, relabel_stmts, relabel_decl, relabel_declaration}
use Rattle.qs_syntax.specs.ReadsDeclarations.{a_declarator, ReadsVariable, an_unset_variable, a_set_variable, ReadsVariables, a_last_variable, a_variable, ReadsDeclaration, a_declaration, ReadsParameter, a_named_parameter, an_unnamed_parameter, ReadsParameters, a_last_parameter, a_parameter, ReadsHead, no_parameter, a_void_head, some_parameters}
use Rattle.qs_syntax.specs.ReadsStatements.{ReadsStart, a_start_declaration, a_start_expression, no_start_at_all, ReadsStatement, a_block, an_empty, an_expression, an_if, an_if_with_else, a_while, a_do, a_for, a_switch, a_break, a_continue, a_return, ReadsItem, a_statement, a_declared, ReadsItems, no_item, an_item, ReadsSwitchBlock, in_braces, ReadsSwitchItem, a_label, a_switch_statement, a_switch_declaration, ReadsSwitchItems, no_switch_item, a_switch_item, ReadsLabel, a_case, a_default}
use Rattle.qs_syntax.specs.ReadsTypes.{a_plain_name}
use Rattle.qs_syntax.specs.ReadsUnits.{ReadsPlain, a_struct_with_members, a_forward, a_header, a_definition, some_variables, ReadsExternal, a_plain_external, a_typedef, ReadsExternals, a_last_external, an_external}
use Rattle.qs_syntax_vocabulary.specs.Marks.{NameSet}
use Rattle.qs_syntax_vocabulary.specs.WellFormed.{is_well_formed}
use Rattle.qs_meaning.proofs.FitReadings.{marked_in}
use Rattle.qs_elaborate_bodies.specs.Names.{Declared, declared_variable, start_declares, statement_declares, statements_declare}
use Rattle.qs_elaborate_laws.specs.FitLaws.{has_name, parameter_has_name, declaration_has_names, has_names, ReadUnitsHaveNames}

-- ---- tokens of parts

record AreTokens (ts : List Terminal) : Type 0 where
  formed : list_all is_well_formed ts ≡ true

front : (xs ys : List Terminal) → AreTokens (xs ++ ys) → AreTokens xs
front xs ys h = record { formed = (and_parts (list_all is_well_formed xs) _ (sym (list_all-append is_well_formed xs ys) ∙ h.formed)).0 }

behind : (xs ys : List Terminal) → AreTokens (xs ++ ys) → AreTokens ys
behind xs ys h = record { formed = (and_parts (list_all is_well_formed xs) _ (sym (list_all-append is_well_formed xs ys) ∙ h.formed)).1 }

next : {t : Terminal} {ts : List Terminal} → AreTokens (t ∷ ts) → AreTokens ts
next {t = t} h = record { formed = (and_parts (is_well_formed t) _ h.formed).1 }

name_of : {at : ℕ} {x : List ℕ} {ts : List Terminal} → AreTokens (Name at x ∷ ts) → is_name x ≡ true
name_of {x = x} h = (and_parts (is_name x) _ h.formed).0

-- ---- declarations

module _ (f : Relabelling) where
  variable_named : (h : ℕ) (ts : List Terminal) (v : VariableTree) → ReadsVariable h ts v → AreTokens ts → (n : ℕ) → has_name (declared_variable (relabel_variable f n v)) ≡ true
  variable_named h ts v (an_unset_variable (a_declarator {xs = xs} {ys = ys} stars (a_plain_name at x) lengths)) k n = name_of (behind xs (Name at x ∷ ys) k)
  variable_named h ts v (a_set_variable {ys = zs} sign (a_declarator {xs = xs} {ys = ys} stars (a_plain_name at x) lengths) i) k n =
      name_of (behind xs (Name at x ∷ ys) (front (xs ++ Name at x ∷ ys) _ k))

  variables_named : {h : ℕ} {ts : List Terminal} {vs : List VariableTree} → ReadsVariables h ts vs → AreTokens ts → (n : ℕ) → list_all has_name (map declared_variable (relabel_all f variable_count (relabel_variable f) n vs)) ≡ true
  variables_named (a_last_variable r) k n = and_from _ _ (variable_named _ _ _ r k n) refl
  variables_named (a_variable {xs = xs} {ys = ys} at r rs) k n = and_from _ _ (variable_named _ _ _ r (front xs _ k) n) (variables_named rs (next (behind xs _ k)) _)

  declaration_named : {h : ℕ} {ts : List Terminal} {d : DeclarationTree} → ReadsDeclaration h ts d → AreTokens ts → (n : ℕ) → list_all has_name (map declared_variable (relabel_declaration f n d).variables) ≡ true
  declaration_named (a_declaration {xs = xs} {ys = ys} s type rs) k n = variables_named rs (front ys _ (behind xs _ k)) n

  parameter_named : {h : ℕ} {ts : List Terminal} {p : ParameterTree} → ReadsParameter h ts p → AreTokens ts → (n : ℕ) → parameter_has_name (relabel_parameter f n p) ≡ true
  parameter_named (a_named_parameter {xs = xs} {ys = ys} {zs = zs} at x type stars lengths) k n = name_of (behind ys (Name at x ∷ zs) (behind xs _ k))
  parameter_named (an_unnamed_parameter type stars lengths not_void) k n = refl

  parameters_named : {h : ℕ} {ts : List Terminal} {ps : List ParameterTree} → ReadsParameters h ts ps → AreTokens ts → (n : ℕ) → list_all parameter_has_name (relabel_all f parameter_count (relabel_parameter f) n ps) ≡ true
  parameters_named (a_last_parameter r) k n = and_from _ _ (parameter_named r k n) refl
  parameters_named (a_parameter {xs = xs} {ys = ys} at r rs) k n = and_from _ _ (parameter_named r (front xs _ k) n) (parameters_named rs (next (behind xs _ k)) _)

  head_named : {h : ℕ} {ts : List Terminal} {ps : List ParameterTree} → ReadsHead h ts ps → AreTokens ts → (n : ℕ) → list_all parameter_has_name (relabel_all f parameter_count (relabel_parameter f) n ps) ≡ true
  head_named no_parameter k n = refl
  head_named (a_void_head at) k n = refl
  head_named (some_parameters rs) k n = parameters_named rs k n

  start_named : {h : ℕ} {ts : List Terminal} {s : StartTree} → ReadsStart h ts s → AreTokens ts → (n : ℕ) → list_all has_name (start_declares (relabel_start f n s)) ≡ true
  start_named (a_start_declaration r) k n = declaration_named r k n
  start_named (a_start_expression s r) k n = refl
  start_named (no_start_at_all s) k n = refl

  both_named : (ds es : List Declared) → list_all has_name ds ≡ true → list_all has_name es ≡ true → list_all has_name (ds ++ es) ≡ true
  both_named ds es h k = list_all-append has_name ds es ∙ and_from _ _ h k

  -- ---- statements

  label_named : {h : ℕ} {ts : List Terminal} {s : StmtTree} → ReadsLabel h ts s → (n : ℕ) → list_all has_name (statement_declares (relabel_stmt f n s)) ≡ true
  label_named (a_case at c r) n = refl
  label_named (a_default at c) n = refl

  mutual
    statement_named : {h : ℕ} {ts : List Terminal} {s : StmtTree} → ReadsStatement h ts s → AreTokens ts → (n : ℕ) → list_all has_name (statement_declares (relabel_stmt f n s)) ≡ true
    statement_named (a_block {ts = ts} o c rs) k n = items_named rs (front ts _ (next k)) n
    statement_named (an_empty at) k n = refl
    statement_named (an_expression s r) k n = refl
    statement_named (an_if {xs = xs} {ys = ys} at o c e r) k n = both_named _ [] (statement_named r (next (behind xs _ (next (next k)))) _) refl
    statement_named (an_if_with_else {xs = xs} {ys = ys} {zs = zs} at o c m e r closed t) k n =
        let rest = next (behind xs _ (next (next k))) in
        both_named _ _ (statement_named r (front ys _ rest) _) (statement_named t (next (behind ys _ rest)) _)
    statement_named (a_while {xs = xs} {ys = ys} at o c e r) k n = statement_named r (next (behind xs _ (next (next k)))) _
    statement_named (a_do {xs = xs} at w o c m r e) k n = statement_named r (front xs _ (next k)) _
    statement_named (a_for {ws = ws} {xs = xs} {ys = ys} {zs = zs} at o m c start e u r) k n =
        let parts = next (next k) in
        both_named _ _ (start_named start (front ws _ parts) _) (statement_named r (next (behind ys _ (next (behind xs _ (behind ws _ parts))))) _)
    statement_named (a_switch {xs = xs} {ys = ys} at o c e r) k n = switch_named r (next (behind xs _ (next (next k)))) _
    statement_named (a_break at s) k n = refl
    statement_named (a_continue at s) k n = refl
    statement_named (a_return at s r) k n = refl

    item_named : {h : ℕ} {ts : List Terminal} {s : StmtTree} → ReadsItem h ts s → AreTokens ts → (n : ℕ) → list_all has_name (statement_declares (relabel_stmt f n s)) ≡ true
    item_named (a_statement r) k n = statement_named r k n
    item_named (a_declared r) k n = declaration_named r k n

    items_named : {h : ℕ} {ts : List Terminal} {ss : Stmts} → ReadsItems h ts ss → AreTokens ts → (n : ℕ) → list_all has_name (statements_declare (relabel_stmts f n ss)) ≡ true
    items_named no_item k n = refl
    items_named (an_item {xs = xs} {ys = ys} r rs) k n = both_named _ _ (item_named r (front xs ys k) n) (items_named rs (behind xs ys k) _)

    switch_named : {h : ℕ} {ts : List Terminal} {ss : Stmts} → ReadsSwitchBlock h ts ss → AreTokens ts → (n : ℕ) → list_all has_name (statements_declare (relabel_stmts f n ss)) ≡ true
    switch_named (in_braces {ts = ts} o c rs) k n = switch_items_named rs (front ts _ (next k)) n

    switch_item_named : {b c : Bool} {h : ℕ} {ts : List Terminal} {s : StmtTree} → ReadsSwitchItem b c h ts s → AreTokens ts → (n : ℕ) → list_all has_name (statement_declares (relabel_stmt f n s)) ≡ true
    switch_item_named (a_label r) k n = label_named r n
    switch_item_named (a_switch_statement r) k n = statement_named r k n
    switch_item_named (a_switch_declaration r) k n = declaration_named r k n

    switch_items_named : {b : Bool} {h : ℕ} {ts : List Terminal} {ss : Stmts} → ReadsSwitchItems b h ts ss → AreTokens ts → (n : ℕ) → list_all has_name (statements_declare (relabel_stmts f n ss)) ≡ true
    switch_items_named no_switch_item k n = refl
    switch_items_named (a_switch_item {xs = xs} {ys = ys} r rs) k n = both_named _ _ (switch_item_named r (front xs ys k) n) (switch_items_named rs (behind xs ys k) _)

  -- ---- units

  plain_named : {h : ℕ} {ts : List Terminal} {d : DeclTree} → ReadsPlain h ts d → AreTokens ts → (n : ℕ) → declaration_has_names (relabel_decl f n d) ≡ true
  plain_named (a_struct_with_members at o c s x ms) k m = refl
  plain_named (a_forward at s x) k m = refl
  plain_named (a_header n o c s x type stars head) k m = refl
  plain_named (a_definition {xs = xs} {ys = ys} {zs = zs} {ws = ws} n o c b e x type stars head items) k m =
      let named = behind ys _ (behind xs _ k) in
      let rest = next (next named) in
      let body = next (next (behind zs _ rest)) in
      and_from _ _ (and_from _ _ (name_of named) (head_named head (front zs _ rest) _)) (items_named items (front ws _ body) _)
  plain_named (some_variables r) k m = refl

  external_named : {set : NameSet} {h : ℕ} {ts : List Terminal} {d : DeclTree} → ReadsExternal set h ts d → AreTokens ts → (n : ℕ) → declaration_has_names (relabel_decl f n d) ≡ true
  external_named (a_plain_external {set = set} {ts = ts} r) k m = plain_named r (record { formed = marked_in set ts k.formed }) m
  external_named (a_typedef xs at s defined names) k m = refl

  unit_named : {set : NameSet} {h : ℕ} {ts : List Terminal} {ds : UnitTree} → ReadsExternals set h ts ds → AreTokens ts → (n : ℕ) → list_all declaration_has_names (relabel_all f decl_count (relabel_decl f) n ds) ≡ true
  unit_named (a_last_external r) k n = and_from _ _ (external_named r k n) refl
  unit_named (an_external {xs = xs} {ys = ys} r rs) k n = and_from _ _ (external_named r (front xs ys k) n) (unit_named rs (behind xs ys k) _)

pub read_units_have_names : ReadUnitsHaveNames
read_units_have_names unit r =
    subst (λ (ds : UnitTree). has_names ds ≡ true) (sym r.are_numbered) (unit_named numbered r.reads (record { formed = r.are_tokens }) 0)
