-- The blocks of file-scope variables that are found by the numbers of a unit's nodes are those of its typed tree.
use Rattle.std.proofs.Common.{◌≡◌, ℕ, true, List, [], ◌∷◌, ◌++◌, Option, Some, None, map, refl, sym, ap, ◌∙◌}
use Rattle.std.proofs.lemmas.Option.{same_Some}
use Rattle.qs_memory.specs.Partial.{◌>>=◌}
use Rattle.qs_memory.specs.Values.{Pointer, null, width}
use Rattle.qs_memory.specs.Memory.{Cell, BlankTree, bytes_of, parts_of, blank_cells}
use Rattle.qs_memory.specs.declared.scalar.Scalar.TheVariants as scalars
use Rattle.qs_syntax.specs.declared.nodes.Node.{Node}
use Rattle.qs_syntax.specs.declared.types.Base.{Base}
use Rattle.qs_syntax_vocabulary.specs.declared.operators.UnaryOperator.{UnaryOperator}
use Rattle.qs_syntax_vocabulary.specs.declared.operators.UnaryOperator.TheVariants as unaries
use Rattle.qs_syntax.specs.Trees.{ExprTree, expr, InitialiserTree, Initialisers, no_initialisers, initialiser_and, VariableTree, structure, forward, function, variables, UnitTree, typedef}
use Rattle.qs_syntax.specs.Trees as trees
use Rattle.qs_types.specs.Types.{TypeTree, is_pointer, is_array}
use Rattle.qs_types.specs.Contexts as contexts
use Rattle.qs_types.specs.Contexts.{Context, Entity, entity_of, start_context, context_with}
use Rattle.qs_types.specs.Constants.{constant_of, value_of}
use Rattle.qs_types.specs.Declarations.{variable_declared}
use Rattle.qs_types.specs.Expressions.{is_null_constant}
use Rattle.qs_types.specs.References.{literal_blocks}
use Rattle.qs_types.specs.StatementRules.{after_variable, after_variables}
use Rattle.qs_types.specs.UnitRules.{with_tag, after_struct, after_function, context_after, after_typedef}
use Rattle.qs_types.specs.Referents.{referent}
use Rattle.qs_typing_findings.specs.UnitNodes.{of_declarator, of_initialiser, of_initialisers, of_option_initialiser, of_variables, of_declaration, of_declarations}
use Rattle.qs_meaning.specs.Typed.{Function, StaticBlock, TypedProgram}
use Rattle.qs_meaning.specs.Conversions.{scalar_of}
use Rattle.qs_meaning.specs.Names.{Scope, within, file_variable_object, text_object}
use Rattle.qs_meaning.specs.Blanks.{blank_of}
use Rattle.qs_meaning.specs.Initialisers.{Piece, pieces}
use Rattle.qs_meaning.specs.InitialValues.{pointer_width, static_pointer, entity_pointer, named_pointer, pointer_by, address_constant, pointer_constant, constant_cells, array_cells, piece_cells, written_over, pieces_over, initial_cells, text_block}
use Rattle.qs_meaning.specs.Units.{function_typed, file_variable_typed, file_variables_typed, no_functions, no_blocks, declarations_typed, start_scope}
use Rattle.qs_typed_nodes.specs.Agrees.{Keeps, NodesKnown}
use Rattle.qs_typed.specs.BlockLaws.{UnitBlocksAreTyped}
use Rattle.qs_typed_nodes.specs.Known.{Known, at_number}
use Rattle.qs_typed_units.specs.KnownBlocks.{referent_pointer, name_pointer, named_pointer_known, address_constant_known, pointer_constant_known, pointer_cells_known, integer_cells_known, constant_cells_known, piece_cells_known, pieces_over_known, initialised_cells_known, initial_cells_known, variable_block_known, file_variables_known, blocks_known}
use Rattle.qs_typed_units.specs.KnownPrograms.{Tables}
use Rattle.qs_typed_nodes.proofs.KeptAgreement.{nothing, kept, kept_by, is_kept, equal_kept, choice_kept}
use Rattle.qs_typed.proofs.LaterStructs.{grown}
use Rattle.qs_typed.proofs.TiedStatements.{pieces_kept}
use Rattle.qs_typed.proofs.KnownNodes.{at_node, nodes_known}
use Rattle.qs_typed.proofs.KnownBodies.{Stand, left, right, declared_type, no_referent, its_type, its_referent}
use Rattle.qs_typed.proofs.PieceParts.{InInitialiser, InInitialisers, InPieces, pieces_in}
use Rattle.qs_typed.proofs.UnitContexts.{GoesTo, further, unit_goes}
use Rattle.qs_typed.proofs.ValuesKept.{types_stay, constant_kept}
use Rattle.qs_typed.proofs.UnitWhole.{numbered_types, numbered_referents, start_goes}

-- the nodes of an expression are known; what is known of no function is left open
abbrev outside : Tables → Known
outside t = record {
  types = t.types;
  referents = t.referents;
  result = scalars.Int;
  structs = t.structs;
  type_names = t.type_names;
  headers = t.headers;
  locals = record { variables = []; placed = [] };
  statics = t.statics;
  functions = t.functions;
}

-- what is known of a unit at a place at file scope
record Knows (t : Tables) (s : Scope) : Type 0 where
  goes : GoesTo s.context (context_with t.structs t.type_names)
  statics : t.statics ≡ s.statics

abbrev InExpression : Tables → Scope → ExprTree → Type 0
InExpression t s e = NodesKnown (outside t) s.context e

-- ---- constants

entity_kept : (t : Tables) (s : Scope) → Knows t s → (x : List ℕ) (o : Option Entity) → Keeps (entity_pointer s o) (referent x o >>= referent_pointer t.statics)
entity_kept t s h x None = λ y e. nothing y e
entity_kept t s h x (Some (contexts.local_variable node type)) = λ y e. nothing y e
entity_kept t s h x (Some (contexts.file_variable node type)) = λ y e. ap (λ statics. static_pointer (file_variable_object statics node)) h.statics ∙ e
entity_kept t s h x (Some (contexts.function node signature body)) = λ y e. nothing y e
entity_kept t s h x (Some (contexts.given signature)) = λ y e. nothing y e

name_kept : (t : Tables) (s : Scope) → Knows t s → (node : Node) (x : List ℕ) → InExpression t s (expr node (trees.name x)) → Keeps (entity_pointer s (entity_of s.context x)) (name_pointer t node.id)
name_kept t s h node x n y e = ap (λ o. o >>= referent_pointer t.statics) n.1.0 ∙ entity_kept t s h x (entity_of s.context x) y e

named_kept : (t : Tables) (s : Scope) → Knows t s → (e : ExprTree) → InExpression t s e → Keeps (named_pointer s e) (named_pointer_known t e)
named_kept t s h (expr node (trees.constant n u)) k = λ x e. e
named_kept t s h (expr node (trees.text bytes)) k = λ x e. e
named_kept t s h (expr node (trees.name x)) k = name_kept t s h node x k
named_kept t s h (expr node (trees.unary operator a)) k = λ x e. e
named_kept t s h (expr node (trees.step operator a)) k = λ x e. e
named_kept t s h (expr node (trees.cast n a)) k = λ x e. e
named_kept t s h (expr node (trees.sizeof_type n)) k = λ x e. e
named_kept t s h (expr node (trees.sizeof_expr a)) k = λ x e. e
named_kept t s h (expr node (trees.binary operator a b)) k = λ x e. e
named_kept t s h (expr node (trees.assign operator a b)) k = λ x e. e
named_kept t s h (expr node (trees.conditional d a b)) k = λ x e. e
named_kept t s h (expr node (trees.comma a b)) k = λ x e. e
named_kept t s h (expr node (trees.subscript a b)) k = λ x e. e
named_kept t s h (expr node (trees.member access a x)) k = λ x e. e
named_kept t s h (expr node (trees.call f es)) k = λ x e. e

operator_kept : (operator : UnaryOperator) (p q : Option Pointer) → Keeps p q → Keeps (pointer_by operator p) (pointer_by operator q)
operator_kept unaries.Address p q h = h
operator_kept unaries.Indirect p q h = λ x e. e
operator_kept unaries.Plus p q h = λ x e. e
operator_kept unaries.Minus p q h = λ x e. e
operator_kept unaries.Complement p q h = λ x e. e
operator_kept unaries.Not p q h = λ x e. e

address_kept : (t : Tables) (s : Scope) → Knows t s → (e : ExprTree) → InExpression t s e → Keeps (address_constant s e) (address_constant_known t e)
address_kept t s h (expr node (trees.constant n u)) k = λ x e. e
address_kept t s h (expr node (trees.text bytes)) k = λ x e. ap (λ statics. static_pointer (text_object statics node.id)) h.statics ∙ e
address_kept t s h (expr node (trees.name x)) k = name_kept t s h node x k
address_kept t s h (expr node (trees.unary operator a)) k = operator_kept operator (named_pointer s a) (named_pointer_known t a) (named_kept t s h a k.1.1)
address_kept t s h (expr node (trees.step operator a)) k = λ x e. e
address_kept t s h (expr node (trees.cast n a)) k = λ x e. e
address_kept t s h (expr node (trees.sizeof_type n)) k = λ x e. e
address_kept t s h (expr node (trees.sizeof_expr a)) k = λ x e. e
address_kept t s h (expr node (trees.binary operator a b)) k = λ x e. e
address_kept t s h (expr node (trees.assign operator a b)) k = λ x e. e
address_kept t s h (expr node (trees.conditional d a b)) k = λ x e. e
address_kept t s h (expr node (trees.comma a b)) k = λ x e. e
address_kept t s h (expr node (trees.subscript a b)) k = λ x e. e
address_kept t s h (expr node (trees.member access a x)) k = λ x e. e
address_kept t s h (expr node (trees.call f es)) k = λ x e. e

pointer_kept : (t : Tables) (s : Scope) → Knows t s → (e : ExprTree) → InExpression t s e
    → Keeps (pointer_constant s e >>= λ p. Some (parts_of p 0 pointer_width)) (pointer_cells_known t e)
pointer_kept t s h e k =
    kept (pointer_constant s e) (pointer_constant_known t e) _ _
    (choice_kept (is_null_constant e) (Some null) (Some null) (address_constant s e) (address_constant_known t e) (is_kept (Some null)) (address_kept t s h e k))
    (λ p. is_kept (Some (parts_of p 0 pointer_width)))

integer_kept : (t : Tables) (s : Scope) → Knows t s → (type : TypeTree) (e : ExprTree)
    → Keeps (constant_of s.context e >>= λ n. Some (bytes_of (width (scalar_of type)) n)) (integer_cells_known t type e)
integer_kept t s h type e =
    kept (constant_of s.context e) (value_of (context_with t.structs t.type_names) e) _ _ (constant_kept s.context (context_with t.structs t.type_names) (types_stay s.context (context_with t.structs t.type_names) h.goes) e)
    (λ n. is_kept (Some (bytes_of (width (scalar_of type)) n)))

cells_kept : (t : Tables) (s : Scope) → Knows t s → (type : TypeTree) (e : ExprTree) → InExpression t s e → Keeps (constant_cells s type e) (constant_cells_known t type e)
cells_kept t s h type e k = choice_kept (is_pointer type) _ _ _ _ (pointer_kept t s h e k) (integer_kept t s h type e)

-- ---- variables

piece_kept : (t : Tables) (s : Scope) → Knows t s → (p : Piece) → InExpression t s p.expression → Keeps (piece_cells s p) (piece_cells_known t p)
piece_kept t s h p k = choice_kept (is_array p.type) _ _ _ _ (is_kept (array_cells p.type p.expression)) (cells_kept t s h p.type p.expression k)

over_kept : (t : Tables) (s : Scope) → Knows t s → (ps : List Piece) → InPieces (InExpression t s) ps → (cells : List Cell) → Keeps (pieces_over s ps cells) (pieces_over_known t ps cells)
over_kept t s h [] k cells = λ x e. e
over_kept t s h (p ∷ ps) k cells =
    kept (piece_cells s p) (piece_cells_known t p) _ _ (piece_kept t s h p k.0) (λ new. over_kept t s h ps k.1 (written_over cells p.offset new))

blank_kept : (t : Tables) (s : Scope) → Knows t s → (type : TypeTree) → Keeps (blank_of s.context.structs type) (blank_of t.structs type)
blank_kept t s h type = (grown s.context.structs t.structs h.goes.structs).blanks type

blank_first : (o : Option BlankTree) (f : List Cell → Option (List Cell)) → (o >>= λ b. f (blank_cells b)) ≡ ((o >>= λ b. Some (blank_cells b)) >>= f)
blank_first None f = refl
blank_first (Some b) f = refl

initialised_kept : (t : Tables) (s : Scope) → Knows t s → (type : TypeTree) (i : InitialiserTree) → InInitialiser (InExpression t s) i
    → Keeps (initial_cells s type (Some i)) (initialised_cells_known t type i)
initialised_kept t s h type i k x e =
    sym (blank_first (blank_of t.structs type) (λ cells. pieces t.structs type 0 i >>= λ ps. pieces_over_known t ps cells))
    ∙ kept (blank_of s.context.structs type) (blank_of t.structs type) _ _ (blank_kept t s h type)
    (λ b. kept_by (pieces s.context.structs type 0 i) (pieces t.structs type 0 i) (λ ps. pieces_over s ps (blank_cells b)) (λ ps. pieces_over_known t ps (blank_cells b))
    (pieces_kept s.context.structs t.structs (grown s.context.structs t.structs h.goes.structs) type 0 i)
    (λ ps p. over_kept t s h ps (pieces_in (InExpression t s) s.context.structs type 0 i k ps p) (blank_cells b))) x e

abbrev InOption : Tables → Scope → Option InitialiserTree → Type 0
InOption t s None = Unit {0}
InOption t s (Some i) = InInitialiser (InExpression t s) i

initial_kept : (t : Tables) (s : Scope) → Knows t s → (type : TypeTree) (i : Option InitialiserTree) → InOption t s i → Keeps (initial_cells s type i) (initial_cells_known t type i)
initial_kept t s h type None k = kept (blank_of s.context.structs type) (blank_of t.structs type) _ _ (blank_kept t s h type) (λ b. is_kept (Some (blank_cells b)))
initial_kept t s h type (Some i) k = initialised_kept t s h type i k

-- ---- the nodes of initialisers

mutual
  nodes_in : (t : Tables) (s : Scope) (i : InitialiserTree) → Stand (outside t) (of_initialiser declared_type its_type s.context i) (of_initialiser no_referent its_referent s.context i)
      → InInitialiser (InExpression t s) i
  nodes_in t s (trees.value e) n = nodes_known (outside t) s.context e n.0 n.1
  nodes_in t s (trees.list node is) n = all_nodes_in t s is (n.0.1, n.1.1)

  all_nodes_in : (t : Tables) (s : Scope) (is : Initialisers) → Stand (outside t) (of_initialisers declared_type its_type s.context is) (of_initialisers no_referent its_referent s.context is)
      → InInitialisers (InExpression t s) is
  all_nodes_in t s no_initialisers n = tt
  all_nodes_in t s (initialiser_and i is) n =
      let ti = of_initialiser declared_type its_type s.context i in
      let ri = of_initialiser no_referent its_referent s.context i in
      let tr = of_initialisers declared_type its_type s.context is in
      let rr = of_initialisers no_referent its_referent s.context is in
      (nodes_in t s i (left (outside t) ti tr ri rr n), all_nodes_in t s is (right (outside t) ti tr ri rr n))

option_nodes_in : (t : Tables) (s : Scope) (i : Option InitialiserTree)
    → Stand (outside t) (of_option_initialiser declared_type its_type s.context i) (of_option_initialiser no_referent its_referent s.context i) → InOption t s i
option_nodes_in t s None n = tt
option_nodes_in t s (Some i) n = nodes_in t s i n

-- ---- declarations

abbrev behind : Scope → Base → VariableTree → Scope
behind s base v = within s (after_variable true s.context base v)

knows_behind : (t : Tables) (s : Scope) (base : Base) (v : VariableTree) → Knows t s → Knows t (behind s base v)
knows_behind t s base v h = record { goes = record { structs = h.goes.structs; bases = h.goes.bases }; statics = h.statics }

variable_kept : (t : Tables) (s : Scope) (base : Base) (v : VariableTree) → Knows t s
    → Stand (outside t) (of_declarator declared_type its_type s.context (variable_declared s.context base v).type v.declarator ++ of_option_initialiser declared_type its_type (behind s base v).context v.initialiser)
    (of_declarator no_referent its_referent s.context (variable_declared s.context base v).type v.declarator ++ of_option_initialiser no_referent its_referent (behind s base v).context v.initialiser)
    → Keeps (file_variable_typed s base v) (variable_block_known t v)
variable_kept t s base v h n =
    let type = (variable_declared s.context base v).type in
    let td = of_declarator declared_type its_type s.context type v.declarator in
    let rd = of_declarator no_referent its_referent s.context type v.declarator in
    let ti = of_option_initialiser declared_type its_type (behind s base v).context v.initialiser in
    let ri = of_option_initialiser no_referent its_referent (behind s base v).context v.initialiser in
    let first = left (outside t) td ti rd ri n in
    kept type (at_number t.types v.declarator.node.id) _ _ (equal_kept type (at_number t.types v.declarator.node.id) (at_node t.types v.declarator.node.id type first.0.0))
    (λ u. kept (initial_cells (behind s base v) u v.initialiser) (initial_cells_known t u v.initialiser) _ _
    (initial_kept t (behind s base v) (knows_behind t s base v h) u v.initialiser (option_nodes_in t (behind s base v) v.initialiser (right (outside t) td ti rd ri n)))
    (λ cells. is_kept (Some (record { cells = cells; writable = true }))))

variables_kept : (t : Tables) (s : Scope) (base : Base) (vs : List VariableTree) → Knows t s
    → Stand (outside t) (of_variables declared_type its_type true s.context base vs) (of_variables no_referent its_referent true s.context base vs)
    → Keeps (file_variables_typed s base vs) (file_variables_known t vs)
variables_kept t s base [] h n = λ x e. e
variables_kept t s base (v ∷ vs) h n =
    let type = (variable_declared s.context base v).type in
    let after = behind s base v in
    let tv = of_declarator declared_type its_type s.context type v.declarator ++ of_option_initialiser declared_type its_type after.context v.initialiser in
    let rv = of_declarator no_referent its_referent s.context type v.declarator ++ of_option_initialiser no_referent its_referent after.context v.initialiser in
    let tr = of_variables declared_type its_type true after.context base vs in
    let rr = of_variables no_referent its_referent true after.context base vs in
    kept (file_variable_typed s base v) (variable_block_known t v) _ _ (variable_kept t s base v h (left (outside t) tv tr rv rr n))
    (λ now. kept (file_variables_typed after base vs) (file_variables_known t vs) (λ rest. Some (now ∷ rest)) (λ rest. Some (now ∷ rest))
    (variables_kept t after base vs (knows_behind t s base v h) (right (outside t) tv tr rv rr n)) (λ rest. is_kept (Some (now ∷ rest))))

-- ---- units

abbrev joined : TypedProgram → TypedProgram → Option TypedProgram
joined now rest = Some (record { functions = now.functions ++ rest.functions; blocks = now.blocks ++ rest.blocks })

-- a declaration without blocks
alone : (known : Option (List StaticBlock)) (o : Option TypedProgram) (fs : List Function) (p : TypedProgram) → (o >>= joined (record { functions = fs; blocks = [] })) ≡ Some p
    → ((q : TypedProgram) → o ≡ Some q → known ≡ Some q.blocks) → known ≡ Some p.blocks
alone known None fs p e h = nothing p e
alone known (Some q) fs p e h = h q refl ∙ ap (λ (p : TypedProgram). Some p.blocks) (same_Some (record { functions = fs ++ q.functions; blocks = q.blocks }) p e)

function_alone : (known : Option (List StaticBlock)) (fs : Option (List Function)) (o : Option TypedProgram) (p : TypedProgram) → (no_blocks fs >>= λ now. o >>= joined now) ≡ Some p
    → ((q : TypedProgram) → o ≡ Some q → known ≡ Some q.blocks) → known ≡ Some p.blocks
function_alone known None o p e h = nothing p e
function_alone known (Some fs) o p e h = alone known o fs p e h

beside : (known : Option (List StaticBlock)) (bs : List StaticBlock) (o : Option TypedProgram) (p : TypedProgram) → (o >>= joined (record { functions = []; blocks = bs })) ≡ Some p
    → ((q : TypedProgram) → o ≡ Some q → known ≡ Some q.blocks) → (known >>= λ rest. Some (bs ++ rest)) ≡ Some p.blocks
beside known bs None p e h = nothing p e
beside known bs (Some q) p e h =
    ap (λ o. o >>= λ rest. Some (bs ++ rest)) (h q refl) ∙ ap (λ (p : TypedProgram). Some p.blocks) (same_Some (record { functions = q.functions; blocks = bs ++ q.blocks }) p e)

variables_beside : (known : Option (List StaticBlock)) (typed now : Option (List StaticBlock)) (o : Option TypedProgram) (p : TypedProgram) → Keeps typed now
    → (no_functions typed >>= λ now. o >>= joined now) ≡ Some p → ((q : TypedProgram) → o ≡ Some q → known ≡ Some q.blocks)
    → (now >>= λ now. known >>= λ rest. Some (now ++ rest)) ≡ Some p.blocks
variables_beside known None now o p k e h = nothing p e
variables_beside known (Some bs) now o p k e h = ap (λ x. x >>= λ now. known >>= λ rest. Some (now ++ rest)) (k bs refl) ∙ beside known bs o p e h

knows : (t : Tables) (s : Scope) (c : Context) (ds : UnitTree) → GoesTo (context_after c ds) (context_with t.structs t.type_names) → t.statics ≡ s.statics → Knows t (within s c)
knows t s c ds g e = record { goes = further c (context_after c ds) (context_with t.structs t.type_names) (unit_goes c ds) g; statics = e }

blocks_same : (t : Tables) (s : Scope) → t.statics ≡ s.statics → (ds : UnitTree) (c : Context) → GoesTo (context_after c ds) (context_with t.structs t.type_names)
    → Stand (outside t) (of_declarations declared_type its_type c ds) (of_declarations no_referent its_referent c ds)
    → (p : TypedProgram) → declarations_typed (within s c) ds ≡ Some p → blocks_known t ds ≡ Some p.blocks
blocks_same t s st [] c g n p e = ap (λ (p : TypedProgram). Some p.blocks) (same_Some (record { functions = []; blocks = [] }) p e)
blocks_same t s st (structure d ∷ ds) c g n p e =
    let td = of_declaration declared_type its_type c (structure d) in
    let rd = of_declaration no_referent its_referent c (structure d) in
    let tr = of_declarations declared_type its_type (after_struct c d) ds in
    let rr = of_declarations no_referent its_referent (after_struct c d) ds in
    alone (blocks_known t ds) (declarations_typed (within s (after_struct c d)) ds) [] p e (blocks_same t s st ds (after_struct c d) g (right (outside t) td tr rd rr n))
blocks_same t s st (forward d ∷ ds) c g n p e =
    let td = of_declaration declared_type its_type c (forward d) in
    let rd = of_declaration no_referent its_referent c (forward d) in
    let tr = of_declarations declared_type its_type (with_tag c d.name) ds in
    let rr = of_declarations no_referent its_referent (with_tag c d.name) ds in
    alone (blocks_known t ds) (declarations_typed (within s (with_tag c d.name)) ds) [] p e (blocks_same t s st ds (with_tag c d.name) g (right (outside t) td tr rd rr n))
blocks_same t s st (typedef d ∷ ds) c g n p e =
    let td = of_declaration declared_type its_type c (typedef d) in
    let rd = of_declaration no_referent its_referent c (typedef d) in
    let tr = of_declarations declared_type its_type (after_typedef c d) ds in
    let rr = of_declarations no_referent its_referent (after_typedef c d) ds in
    alone (blocks_known t ds) (declarations_typed (within s (after_typedef c d)) ds) [] p e (blocks_same t s st ds (after_typedef c d) g (right (outside t) td tr rd rr n))
blocks_same t s st (function f ∷ ds) c g n p e =
    let td = of_declaration declared_type its_type c (function f) in
    let rd = of_declaration no_referent its_referent c (function f) in
    let tr = of_declarations declared_type its_type (after_function c f) ds in
    let rr = of_declarations no_referent its_referent (after_function c f) ds in
    function_alone (blocks_known t ds) (function_typed (within s c) f f.body) (declarations_typed (within s (after_function c f)) ds) p e
    (blocks_same t s st ds (after_function c f) g (right (outside t) td tr rd rr n))
blocks_same t s st (variables d ∷ ds) c g n p e =
    let after = after_variables true c d.base d.variables in
    let td = of_declaration declared_type its_type c (variables d) in
    let rd = of_declaration no_referent its_referent c (variables d) in
    let tr = of_declarations declared_type its_type after ds in
    let rr = of_declarations no_referent its_referent after ds in
    variables_beside (blocks_known t ds) (file_variables_typed (within s c) d.base d.variables) (file_variables_known t d.variables) (declarations_typed (within s after) ds) p
    (variables_kept t (within s c) d.base d.variables (knows t s c (variables d ∷ ds) g st) (left (outside t) td tr rd rr n)) e
    (blocks_same t s st ds after g (right (outside t) td tr rd rr n))

-- the blocks of the variables, and then those of the texts
with_texts : (unit : UnitTree) (known : Option (List StaticBlock)) (o : Option TypedProgram) → ((q : TypedProgram) → o ≡ Some q → known ≡ Some q.blocks) → (bs : List StaticBlock) → known ≡ Some bs
    → (p : TypedProgram) → (o >>= λ (u : TypedProgram). Some (record u { blocks = u.blocks ++ map text_block (literal_blocks unit) })) ≡ Some p → p.blocks ≡ bs ++ map text_block (literal_blocks unit)
with_texts unit known None h bs k p e = nothing p e
with_texts unit known (Some q) h bs k p e =
    sym (ap (λ (p : TypedProgram). p.blocks) (same_Some (record q { blocks = q.blocks ++ map text_block (literal_blocks unit) }) p e))
    ∙ ap (λ bs. bs ++ map text_block (literal_blocks unit)) (same_Some q.blocks bs (sym (h q refl) ∙ k))

pub blocks_typed : UnitBlocksAreTyped
blocks_typed unit n t h bs k p e =
    with_texts unit (blocks_known t unit) (declarations_typed (start_scope unit) unit)
    (blocks_same t (start_scope unit) (λ i. record { variables = h.variables i; texts = h.texts i }) unit start_context (start_goes unit t h)
    (numbered_types unit n t h, numbered_referents unit n t h)) bs k p e
