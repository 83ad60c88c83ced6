-- A well typed unit has a core, which fits and runs as the unit does.
use Rattle.std.proofs.Common.{◌≡◌, ℕ, zero, suc, ◌&&◌, ◌||◌, not, Bool, true, false, List, [], ◌∷◌, ◌++◌, map, Option, Some, None, is_some, refl, sym, ap, ◌∙◌, subst, arith, if◌then◌else◌}
use Rattle.std.specs.Prelude.{bytes_eq}
use Rattle.std.specs.List.{slice_get, list_all, list_any}
use Rattle.std.proofs.lemmas.Slice.Eq.{bytes_eq-Decides}
use Rattle.std.proofs.lemmas.List.{map-append}
use Rattle.std.proofs.lemmas.List.Folds.{list_all-append}
use Rattle.std.proofs.Math.Logic.{∥∥₁_elim}
use Rattle.std.proofs.lemmas.Bool.{and_parts, and_from}
use Rattle.std.proofs.lemmas.Option.{same_Some}
use mathlib.Core.Bool.{Bool-set}
use Rattle.qs_base.specs.Names.{is_name}
use Rattle.qs_base.specs.Bytes.{same_bytes}
use Rattle.qs_base.proofs.ByteLaws.{bytes_exact}
use Rattle.qs_syntax.specs.declared.nodes.Node.{Node}
use Rattle.qs_syntax.specs.Trees.{ParameterTree, Stmts, FunctionTree, DeclTree, structure, forward, function, variables, UnitTree, typedef}
use Rattle.qs_syntax.specs.Nodes.{function_nodes, decl_nodes, unit_nodes}
use Rattle.qs_memory.specs.Partial.{◌>>=◌}
use Rattle.qs_memory.proofs.Options.{followed}
use Rattle.qs_core.specs.Fits as fits
use Rattle.qs_core.specs.Fits.{differ}
use Rattle.qs_types.specs.Types.{TypeTree, int}
use Rattle.qs_types.specs.declared.rules.Rule.{Rule}
use Rattle.qs_types.specs.declared.rules.Rule.TheVariants as rules
use Rattle.qs_types.specs.Rules.{keeps, breaks_one, faults_of}
use Rattle.qs_types.specs.GivenFunctions.{main_name}
use Rattle.qs_types.specs.Limits.{IsWithinLimits}
use Rattle.qs_types.specs.WellTyped.{WellTyped}
use Rattle.qs_types.specs.Contexts.{Context, start_context, inner_scope}
use Rattle.qs_types.specs.Placed.{Local, parameters_locals, addressed_in, statements_locals}
use Rattle.qs_types.specs.UnitRules.{is_name_in, is_name_declared, parameter_types, result_type, body_context, header_of, may_declare, result_tests, main_tests, header_tests, is_main_type, may_be, parameters_faults, body_faults, function_faults, after_declaration, declaration_faults, declarations_faults}
use Rattle.qs_meaning.specs.Typed.{Function, TypedProgram}
use Rattle.qs_meaning.specs.Names.{Scope, within}
use Rattle.qs_meaning.specs.Runs.{main_from}
use Rattle.qs_meaning.specs.Statements.{statements_typed}
use Rattle.qs_meaning.specs.Units.{nodes_of, placed_among, plain_among, variables_among, locals_of, parameters_in, scalars_of, sizes_of, parameters_typed, in_body, function_with, function_typed, file_variables_typed, declaration_typed, declarations_typed, name_with_body, functions_in, start_scope}
use Rattle.qs_meaning.specs.TypedLaws.{IsFileScope}
use Rattle.qs_meaning.specs.InitialLaws.{texts_are_bytes}
use Rattle.qs_meaning.specs.FitLaws.{are_different, IsAsRead}
use Rattle.qs_meaning.proofs.Options.{Known}
use Rattle.qs_meaning.proofs.FaultlessExpressions.{none_left, none_right, unbroken, first_unbroken, second_unbroken}
use Rattle.qs_meaning.proofs.Functions.{all_fine, parameters_declared}
use Rattle.qs_meaning.proofs.FunctionsTyped.{file_sound, result_known}
use Rattle.qs_meaning.proofs.UnitsTyped.{declaration_known, start_known, units_typed}
use Rattle.qs_meaning.proofs.InitialMemory.{initial_memory_is_sound}
use Rattle.qs_meaning.proofs.FitUnits.{typed_units_fit}
use Rattle.qs_meaning.proofs.FitBlocks.{typed_data_is_whole}
use Rattle.qs_meaning.proofs.FitReadings.{read_is_as_read}
use Rattle.qs_meaning.proofs.FitTexts.{texts_of_literals}
use Rattle.qs_elaborate_bodies.specs.Names.{parameter_name, declared_parameter, statements_declare, function_declares, FunctionNames, body_names, function_names, declaration_names, declarations_names, names_in}
use Rattle.qs_elaborate_bodies.specs.Units.{unit_core}
use Rattle.qs_elaborate_laws.specs.FitLaws.{IsNamed, AreNamed, is_main_function, has_name, option_has_name, parameter_has_name, body_has_names, declaration_has_names, has_names, HasCore, UnitsHaveCores}
use Rattle.qs_elaborate_laws.proofs.FitDeclarations.{part_self, part_behind, part_front, part_different, ids}
use Rattle.qs_elaborate_laws.proofs.FitFunctionNames.{parameters_count, parameters_differ, named_function}
use Rattle.qs_elaborate_laws.proofs.FitRules.{is_new, parameters_new, main_type_kept, bodies_differ}
use Rattle.qs_elaborate_laws.proofs.FitMain.{int_result, parameters_promoted, main_given, main_found}
use Rattle.qs_elaborate_laws.proofs.FitUnits.{core_fits}
use Rattle.qs_elaborate_laws.proofs.FitReads.{read_units_have_names}
use Rattle.qs_elaborate_laws.proofs.Units.{core_follows, main_follows}

-- ---- functions

-- the parameters of a body have names
all_have_names : (c : Context) (ps : List ParameterTree) → list_all parameter_has_name ps ≡ true → list_all (is_new c) ps ≡ true → list_all has_name (map declared_parameter ps) ≡ true
all_have_names c [] h k = refl
all_have_names c (p ∷ ps) h k =
    let named = and_parts (parameter_has_name p) _ h in
    let new = and_parts (is_new c p) _ k in
    and_from _ _ (by_name p.name named.0 new.0) (all_have_names c ps named.1 new.1)
  where
    by_name : (o : Option (List ℕ)) → option_has_name o ≡ true → (is_some o && not (is_name_declared c o)) ≡ true → is_name (parameter_name o) ≡ true
    by_name None h k = cc
    by_name (Some x) h k = h

-- a function has names, and the marks and types of main where that is its name
record IsWhole (n : FunctionNames) (g : Function) : Type 0 where
  named : IsNamed n g
  marked : g.is_main ≡ same_bytes g.name main_name
  main : same_bytes g.name main_name ≡ true → is_main_function (Some g) ≡ true

main_tested : (rule : Rule) (b t : Bool) → b ≡ true → breaks_one (if b then keeps rule t else []) ≡ false → t ≡ true
main_tested rule true true e h = refl
main_tested rule true false e h = sym h
main_tested rule false t e h = cc

module _ (s : Scope) (h : IsFileScope s.context) (f : FunctionTree) (body : Stmts) (is : f.body ≡ Some body) (faultless : function_faults s.context f ≡ []) where
  abbrev c : Context
  c = s.context

  abbrev types : List (Option TypeTree)
  types = parameter_types (inner_scope c) f.parameters

  abbrev ls : List Local
  ls = parameters_locals f.parameters types

  abbrev s₀ : Scope
  s₀ = record s { locals = record { variables = []; placed = nodes_of (placed_among [] ls) } }

  inner : IsFileScope (inner_scope c)
  inner = record { names = h.names; members = h.members; laid_out = h.laid_out }

  parts : (parameters_faults (inner_scope c) (is_some f.body) f.parameters ++ body_faults c f f.body) ≡ []
  parts = none_right (faults_of f.node.id (header_tests c f)) _ faultless

  new : (list_all (is_new (inner_scope c)) f.parameters ≡ true) × (parameters_differ f ≡ true)
  new =
      parameters_new s₀ (nodes_of ls) f.parameters (inner_scope c) (file_sound s₀ (inner_scope c) (nodes_of ls) inner)
      (parameters_declared (nodes_of ls) (nodes_of (placed_among [] ls)) f.parameters (inner_scope c) (all_fine [] ls))
      (subst (λ b. parameters_faults (inner_scope c) b f.parameters ≡ []) (ap (λ (o : Option Stmts). is_some o) is) (none_left _ _ parts))

  whole_names : body_has_names f (Some body) ≡ true → (is_name f.name && list_all has_name (function_declares f body)) ≡ true
  whole_names h =
      let two = and_parts (is_name f.name && list_all parameter_has_name f.parameters) _ h in
      let own = and_parts (is_name f.name) _ two.0 in
      and_from _ _ own.0 (list_all-append has_name (map declared_parameter f.parameters) (statements_declare body) ∙ and_from _ _ (all_have_names (inner_scope c) f.parameters own.1 new.0) two.1)

  result : Known (result_type c f)
  result = result_known c f (first_unbroken (result_tests c f) (main_tests f (header_of c f))
      (second_unbroken (keeps rules.DeclaredTwice (may_declare c f)) (result_tests c f ++ main_tests f (header_of c f))
      (unbroken f.node.id (header_tests c f) (none_left (faults_of f.node.id (header_tests c f)) _ faultless))))

  whole_function : body_has_names f (Some body) ≡ true → are_different (ids (function_nodes f)) ≡ true
      → (g : Function) → function_with s f body (addressed_in c f body) (parameters_in c f) (statements_locals (body_context c f) body) ≡ Some g → IsWhole (body_names c f body) g
  whole_function names nodes g k =
      let operands = addressed_in c f body in
      let parameters = parameters_in c f in
      let in_statements = statements_locals (body_context c f) body in
      let p = followed (parameters_typed (locals_of operands parameters in_statements) f.parameters types) _ g k in
      let v = followed (scalars_of (variables_among operands parameters in_statements)) _ g p.then in
      let z = followed (sizes_of c.structs (placed_among operands (parameters ++ in_statements))) _ g v.then in
      let b = followed (statements_typed (in_body s f (locals_of operands parameters in_statements)) body) _ g z.then in
      let same = same_Some _ g b.then in
      record {
        named = named_function s f body is (whole_names names) nodes new.1 g k;
        marked = subst (λ (g : Function). g.is_main ≡ same_bytes g.name main_name) same refl;
        main = subst (λ (g : Function). same_bytes g.name main_name ≡ true → is_main_function (Some g) ≡ true) same (λ e.
            let tested = main_tested rules.MainType (same_bytes f.name main_name) (is_main_type (header_of c f)) e (main_type_kept c f faultless) in
            let two = and_parts (may_be int (result_type c f)) _ tested in
            and_from _ _ (and_from _ _ ((bytes_eq-Decides f.name fits.main_name).1 ((bytes_exact f.name main_name).0 e))
            (int_result (result_type c f) result.value result.is two.0))
            (parameters_promoted f.parameters (inner_scope c) (plain_among operands in_statements) p.value v.value
            (parameters_count (locals_of operands parameters in_statements) f.parameters types p.value p.first) v.first two.1));
      }

-- ---- declarations

data AreWholeFunctions : List FunctionNames → List Function → Type 0 where
  no_functions_more : AreWholeFunctions [] []
  function_and : (n : FunctionNames) (g : Function) (ns : List FunctionNames) (gs : List Function) → IsWhole n g → AreWholeFunctions ns gs → AreWholeFunctions (n ∷ ns) (g ∷ gs)

wholes_append : (ns ms : List FunctionNames) (gs hs : List Function) → AreWholeFunctions ns gs → AreWholeFunctions ms hs → AreWholeFunctions (ns ++ ms) (gs ++ hs)
wholes_append _ ms _ hs no_functions_more k = k
wholes_append _ ms _ hs (function_and n g ns gs one rest) k = function_and n g (ns ++ ms) (gs ++ hs) one (wholes_append ns ms gs hs rest k)

all_named : (ns : List FunctionNames) (gs : List Function) → AreWholeFunctions ns gs → AreNamed ns gs
all_named _ _ no_functions_more = tt
all_named _ _ (function_and n g ns gs one rest) = (one.named, all_named ns gs rest)

-- what a declaration gives: the functions, and their names in the order of the text
record GivesFunctions (ns : List FunctionNames) (names : List (List ℕ)) (gs : List Function) : Type 0 where
  whole : AreWholeFunctions ns gs
  called : map (λ (g : Function). g.name) gs ≡ names

none_given : (gs : List Function) → [] ≡ gs → GivesFunctions [] [] gs
none_given gs e = subst (λ (gs : List Function). GivesFunctions [] [] gs) e (record { whole = no_functions_more; called = refl })

body_gives : (s : Scope) → IsFileScope s.context → (f : FunctionTree) → function_faults s.context f ≡ [] → declaration_has_names (function f) ≡ true → are_different (ids (function_nodes f)) ≡ true
    → (o : Option Stmts) → f.body ≡ o → (fs : List Function) → function_typed s f o ≡ Some fs → GivesFunctions (function_names s.context f o) (name_with_body f.name o) fs
body_gives s h f faultless names nodes None is fs k = none_given fs (same_Some [] fs k)
body_gives s h f faultless names nodes (Some body) is fs k =
    let g = followed (function_with s f body (addressed_in s.context f body) (parameters_in s.context f) (statements_locals (body_context s.context f) body)) _ fs k in
    let one = whole_function s h f body is faultless (ap (body_has_names f) (sym is) ∙ names) nodes g.value g.first in
    subst (λ (fs : List Function). GivesFunctions (body_names s.context f body ∷ []) (f.name ∷ []) fs) (same_Some (g.value ∷ []) fs g.then)
    (record { whole = function_and _ _ [] [] one no_functions_more; called = ap (λ (x : List ℕ). x ∷ []) (name_is body g.value g.first) })
  where
    name_is : (body : Stmts) (g : Function) → function_with s f body (addressed_in s.context f body) (parameters_in s.context f) (statements_locals (body_context s.context f) body) ≡ Some g → g.name ≡ f.name
    name_is body g k =
        let operands = addressed_in s.context f body in
        let parameters = parameters_in s.context f in
        let in_statements = statements_locals (body_context s.context f) body in
        let p = followed (parameters_typed (locals_of operands parameters in_statements) f.parameters (parameter_types (inner_scope s.context) f.parameters)) _ g k in
        let v = followed (scalars_of (variables_among operands parameters in_statements)) _ g p.then in
        let z = followed (sizes_of s.context.structs (placed_among operands (parameters ++ in_statements))) _ g v.then in
        let b = followed (statements_typed (in_body s f (locals_of operands parameters in_statements)) body) _ g z.then in
        sym (ap (λ (g : Function). g.name) (same_Some _ g b.then))

abbrev names_with_body : DeclTree → List (List ℕ)
names_with_body (structure d) = []
names_with_body (forward d) = []
names_with_body (typedef d) = []
names_with_body (function f) = name_with_body f.name f.body
names_with_body (variables d) = []

declaration_gives : (s : Scope) → IsFileScope s.context → (d : DeclTree) → declaration_faults s.context d ≡ [] → declaration_has_names d ≡ true → are_different (ids (decl_nodes d)) ≡ true
    → (now : TypedProgram) → declaration_typed s d ≡ Some now → GivesFunctions (declaration_names s.context d) (names_with_body d) now.functions
declaration_gives s h (structure d) faultless names nodes now k = none_given now.functions (ap (λ (p : TypedProgram). p.functions) (same_Some _ now k))
declaration_gives s h (forward d) faultless names nodes now k = none_given now.functions (ap (λ (p : TypedProgram). p.functions) (same_Some _ now k))
declaration_gives s h (typedef d) faultless names nodes now k = none_given now.functions (ap (λ (p : TypedProgram). p.functions) (same_Some _ now k))
declaration_gives s h (function f) faultless names nodes now k =
    let fs = followed (function_typed s f f.body) _ now k in
    subst (λ (p : TypedProgram). GivesFunctions (function_names s.context f f.body) (name_with_body f.name f.body) p.functions) (same_Some _ now fs.then)
    (body_gives s h f faultless names nodes f.body refl fs.value fs.first)
declaration_gives s h (variables d) faultless names nodes now k =
    let bs = followed (file_variables_typed s d.base d.variables) _ now k in none_given now.functions (ap (λ (p : TypedProgram). p.functions) (same_Some _ now bs.then))

functions_of : (d : DeclTree) (ds : UnitTree) → names_with_body d ++ functions_in ds ≡ functions_in (d ∷ ds)
functions_of (structure d) ds = refl
functions_of (forward d) ds = refl
functions_of (typedef d) ds = refl
functions_of (function f) ds = refl
functions_of (variables d) ds = refl

module _ (s₀ : Scope) where
  declarations_give : (ds : UnitTree) (c : Context) → IsFileScope c → declarations_faults c ds ≡ [] → list_all declaration_has_names ds ≡ true → are_different (ids (unit_nodes ds)) ≡ true
      → (p : TypedProgram) → declarations_typed (within s₀ c) ds ≡ Some p → GivesFunctions (declarations_names c ds) (functions_in ds) p.functions
  declarations_give [] c h f names nodes p k = none_given p.functions (ap (λ (p : TypedProgram). p.functions) (same_Some _ p k))
  declarations_give (d ∷ ds) c h f names nodes p k =
      let own = none_left (declaration_faults c d) (declarations_faults (after_declaration c d) ds) f in
      let later = none_right (declaration_faults c d) (declarations_faults (after_declaration c d) ds) f in
      let scope = (declaration_known s₀ d c h own).scope in
      let two = and_parts (declaration_has_names d) _ names in
      let split = map-append (λ (n : Node). n.id) (decl_nodes d) (unit_nodes ds) in
      let apart = subst (λ (xs : List ℕ). are_different xs ≡ true) split nodes in
      let first_apart = part_different (ids (decl_nodes d)) (ids (decl_nodes d) ++ ids (unit_nodes ds))
      (part_front (ids (decl_nodes d)) (ids (decl_nodes d)) (ids (unit_nodes ds)) (part_self (ids (decl_nodes d)))) apart in
      let rest_apart = part_different (ids (unit_nodes ds)) (ids (decl_nodes d) ++ ids (unit_nodes ds))
      (part_behind (ids (unit_nodes ds)) (ids (decl_nodes d)) (ids (unit_nodes ds)) (part_self (ids (unit_nodes ds)))) apart in
      let now = followed (declaration_typed (within s₀ c) d) _ p k in
      let rest = followed (declarations_typed (within s₀ (after_declaration c d)) ds) _ p now.then in
      let here = declaration_gives (within s₀ c) h d own two.0 first_apart now.value now.first in
      let others = declarations_give ds (after_declaration c d) scope later two.1 rest_apart rest.value rest.first in
      subst (λ (p : TypedProgram). GivesFunctions (declaration_names c d ++ declarations_names (after_declaration c d) ds) (functions_in (d ∷ ds)) p.functions) (same_Some _ p rest.then)
      (record {
        whole = wholes_append (declaration_names c d) (declarations_names (after_declaration c d) ds) now.value.functions rest.value.functions here.whole others.whole;
        called = map-append (λ (g : Function). g.name) now.value.functions rest.value.functions
            ∙ ap (λ (xs : List (List ℕ)). xs ++ map (λ (g : Function). g.name) rest.value.functions) here.called
            ∙ ap (λ (xs : List (List ℕ)). names_with_body d ++ xs) others.called ∙ functions_of d ds;
      })

-- ---- main

main_among : (ns : List FunctionNames) (gs : List Function) → AreWholeFunctions ns gs → is_name_in main_name (map (λ (g : Function). g.name) gs) ≡ true → list_any (λ (g : Function). g.is_main) gs ≡ true
main_among _ _ no_functions_more h = h
main_among _ _ (function_and n g ns gs one rest) h = by_test (same_bytes main_name g.name) refl h (main_among ns gs rest)
  where
    by_test : (b : Bool) → same_bytes main_name g.name ≡ b → (b || is_name_in main_name (map (λ (g : Function). g.name) gs)) ≡ true
        → (is_name_in main_name (map (λ (g : Function). g.name) gs) ≡ true → list_any (λ (g : Function). g.is_main) gs ≡ true) → (g.is_main || list_any (λ (g : Function). g.is_main) gs) ≡ true
    by_test true e h later =
        ap (λ b. b || list_any (λ (g : Function). g.is_main) gs) (one.marked ∙ (bytes_exact g.name main_name).1 (sym ((bytes_exact main_name g.name).0 e)))
    by_test false e h later = or_second g.is_main _ (later h)
      where
        or_second : (a b : Bool) → b ≡ true → (a || b) ≡ true
        or_second true b h = refl
        or_second false b h = h

main_at : (ns : List FunctionNames) (gs : List Function) → AreWholeFunctions ns gs → (k : ℕ) (g : Function) → slice_get gs k ≡ Some g → g.is_main ≡ true → is_main_function (slice_get gs k) ≡ true
main_at ns gs whole k g is marked = ap is_main_function is ∙ found ns gs whole k g is marked
  where
    found : (ns : List FunctionNames) (gs : List Function) → AreWholeFunctions ns gs → (k : ℕ) (g : Function) → slice_get gs k ≡ Some g → g.is_main ≡ true → is_main_function (Some g) ≡ true
    found _ _ no_functions_more k g is marked = cc
    found _ _ (function_and n f ns gs one rest) zero g is marked =
        let same = same_Some f g is in
        subst (λ (f : Function). is_main_function (Some f) ≡ true) same (one.main (sym one.marked ∙ ap (λ (f : Function). f.is_main) same ∙ marked))
    found _ _ (function_and n f ns gs one rest) (suc k) g is marked = found ns gs rest k g is marked

-- ---- units

has_core : (unit : UnitTree) → IsAsRead unit → has_names unit ≡ true → texts_are_bytes unit ≡ true → WellTyped unit → IsWithinLimits unit → HasCore unit
has_core unit read names texts well limits =
    let t = units_typed unit well in
    let u = t.0 in
    let d = followed (declarations_typed (start_scope unit) unit) _ u t.1 in
    let same : d.value.functions ≡ u.functions = ap (λ (p : TypedProgram). p.functions) (same_Some _ u d.then) in
    let gives = declarations_give (start_scope unit) unit start_context start_known well.keeps_rules names read.numbers d.value d.first in
    let functions = subst (λ (gs : List Function). GivesFunctions (names_in unit) (functions_in unit) gs) same gives in
    let apart = (bodies_differ (start_scope unit) unit start_context start_known well.keeps_rules).1 in
    let blocks = typed_data_is_whole unit u read well limits t.1 in
    let among = main_among (names_in unit) u.functions functions.whole (ap (is_name_in main_name) functions.called ∙ main_given unit well.main_has_body) in
    let m = main_found u.functions 0 among in
    let main_is : main_from 0 u.functions ≡ Some m.place = m.is ∙ ap Some (omega arith) in
    record {
      core = unit_core (names_in unit) u m.place;
      typed = u;
      tree = t.1;
      is = ap (λ (o : Option TypedProgram). o >>= λ (u : TypedProgram). main_from 0 u.functions >>= λ main. Some (unit_core (names_in unit) u main)) t.1
          ∙ ap (λ (o : Option ℕ). o >>= λ main. Some (unit_core (names_in unit) u main)) main_is;
      fits = core_fits (names_in unit) u m.place (typed_units_fit unit u read well limits t.1) (all_named (names_in unit) u.functions functions.whole)
          (ap (differ bytes_eq) functions.called ∙ apart) (main_at (names_in unit) u.functions functions.whole m.place m.main m.there m.marked)
          (record { are_whole = blocks; sound = initial_memory_is_sound unit u texts t.1 });
      follows = λ root xs w n. core_follows (names_in unit) u m.place root xs w n;
      main_follows = λ xs input n. main_follows (names_in unit) u m.place xs input n main_is blocks.whole;
    }

pub units_have_cores : UnitsHaveCores
units_have_cores unit read well limits =
    let as_read = read_is_as_read unit read in
    has_core unit as_read (∥∥₁_elim read (Bool-set (has_names unit) true) (read_units_have_names unit)) (texts_of_literals unit as_read.literals) well limits
