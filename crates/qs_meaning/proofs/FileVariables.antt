-- Where a variable of file scope breaks no rule, it has a block.
use Rattle.std.proofs.Common.{◌≡◌, ◌≤◌, ◌⊎◌, inl, inr, ℕ, suc, ◌+◌, Bool, true, false, ◌&&◌, ◌||◌, List, [], ◌∷◌, ◌++◌, Option, Some, None, is_some, refl, sym, ap, ◌∙◌, subst, arith, if◌then◌else◌}
use Rattle.std.proofs.lemmas.Bool.{and_from, or_cases}
use Rattle.std.specs.Cmp.{first_so, second_so}
use Rattle.qs_syntax_vocabulary.specs.declared.operators.UnaryOperator.TheVariants as unaries
use Rattle.qs_syntax.specs.declared.types.Base.{Base}
use Rattle.qs_syntax.specs.Trees.{ExprTree, expr, InitialiserTree, Initialisers, no_initialisers, initialiser_and, VariableTree}
use Rattle.qs_syntax.specs.Trees as trees
use Rattle.qs_memory.specs.Values.{null}
use Rattle.qs_memory.specs.Memory.{Cell, blank_cells}
use Rattle.qs_types.specs.Types.{TypeTree, int, unsigned, char, void, pointer, array, struct, is_integer, is_pointer, is_array, same_type, Structs}
use Rattle.qs_types.specs.Layout.{and_then, is_complete}
use Rattle.qs_types.specs.Conversions.{decayed}
use Rattle.qs_types.specs.Rules.{keeps, breaks_one, faults_of}
use Rattle.qs_types.specs.declared.rules.Rule.TheVariants as rules
use Rattle.qs_types.specs.Contexts.{Entity, local_variable, file_variable, function, given, Context, entity_of}
use Rattle.qs_types.specs.Expressions.{is_null_constant, is_assignable, unary_judged, Judged, type_of}
use Rattle.qs_types.specs.Constants.{is_built, value_of, constant_of}
use Rattle.qs_types.specs.ExpressionFaults.{whole, expr_faults}
use Rattle.qs_types.specs.Declarations.{text_of, initialisers_count, lengths_faults, length_by, variable_declared}
use Rattle.qs_types.specs.InitialiserRules.{part_type, holds_text, is_file_variable, names_file_variable, is_address, is_constant, fits_variable, fits_typed, takes_list, count_of_parts, element_fits, elements_fit, elements_typed, list_tests, initialiser_faults, elements_faults, is_typed, fits, initialiser_tests}
use Rattle.qs_types.specs.StatementRules.{after_variable, after_variables, again_tests, variable_tests, variable_faults, option_initialiser_faults, variables_faults}
use Rattle.qs_meaning.specs.Names.{Scope, within}
use Rattle.qs_meaning.specs.Blanks.{blank_of}
use Rattle.qs_meaning.specs.Initialisers.{part_offset, Piece, pieces, pieces_from}
use Rattle.qs_meaning.specs.InitialValues.{entity_pointer, named_pointer, address_constant, pointer_constant, piece_cells, pieces_over, written_over, initial_cells, variable_block}
use Rattle.qs_meaning.specs.Units.{file_variable_typed, file_variables_typed}
use Rattle.qs_meaning.specs.TypedLaws.{EntityTyped, IsFileScope}
use Rattle.qs_meaning.proofs.Options.{never, Known, known, onward, goes, went}
use Rattle.qs_meaning.proofs.CompleteTypes.{part_known, part_there, fits_takes, fits_count, blank_known}
use Rattle.qs_meaning.proofs.FaultlessExpressions.{HasTypes, none_left, none_right, unbroken, first_unbroken, second_unbroken, type_of_known}
use Rattle.qs_meaning.proofs.Bindings.{has_types}
use Rattle.qs_meaning.proofs.TypedExpressions.{unless}
use Rattle.qs_meaning.proofs.Bodies.{DeclaredAs, declared_known, lengths_typed, not_held_back}
use Rattle.qs_meaning.proofs.FunctionsTyped.{file_sound}

-- ---- constants

-- the value of a pointer is no integer
pointer_no_integer : (u : TypeTree) → is_pointer (decayed u) ≡ true → is_integer (decayed u) ≡ false
pointer_no_integer int e = never e
pointer_no_integer unsigned e = never e
pointer_no_integer char e = never e
pointer_no_integer void e = never e
pointer_no_integer (pointer u) e = refl
pointer_no_integer (array u n) e = refl
pointer_no_integer (struct k) e = never e

integer_itself : (u : TypeTree) → is_integer u ≡ true → is_integer (decayed u) ≡ true
integer_itself int e = refl
integer_itself unsigned e = refl
integer_itself char e = refl
integer_itself void e = never e
integer_itself (pointer u) e = never e
integer_itself (array u n) e = never e
integer_itself (struct k) e = never e

array_pointer : (u : TypeTree) → is_array u ≡ true → is_pointer (decayed u) ≡ true
array_pointer (array u n) e = refl
array_pointer int e = never e
array_pointer unsigned e = never e
array_pointer char e = never e
array_pointer void e = never e
array_pointer (pointer u) e = never e
array_pointer (struct k) e = never e

same_is_pointer : (t u : TypeTree) → is_pointer t ≡ true → same_type t u ≡ true → is_pointer u ≡ true
same_is_pointer (pointer t) (pointer u) e f = refl
same_is_pointer (pointer t) int e f = never f
same_is_pointer (pointer t) unsigned e f = never f
same_is_pointer (pointer t) char e f = never f
same_is_pointer (pointer t) void e f = never f
same_is_pointer (pointer t) (array u n) e f = never f
same_is_pointer (pointer t) (struct k) e f = never f
same_is_pointer int u e f = never e
same_is_pointer unsigned u e f = never e
same_is_pointer char u e f = never e
same_is_pointer void u e f = never e
same_is_pointer (array t n) u e f = never e
same_is_pointer (struct k) u e f = never e

not_both : {A : Type 0} (b : Bool) → b ≡ true → b ≡ false → A
not_both b e f = never (sym f ∙ e)

-- an integer constant has an integer type
constant_integer : (c : Context) (e : ExprTree) (u : TypeTree) → type_of c e ≡ Some u → is_some (constant_of c e) ≡ true → is_integer u ≡ true
constant_integer c e u t k = go (is_integer u) (subst (λ o. is_some (and_then o (λ t. if is_integer t && is_built c.type_names e then value_of c e else None)) ≡ true) t k)
  where
    go : (b : Bool) → is_some (if b && is_built c.type_names e then value_of c e else None) ≡ true → b ≡ true
    go true e = refl
    go false e = never e

-- a null constant is an integer constant
null_is_constant : (c : Context) (e : ExprTree) → is_null_constant e ≡ true → is_some (constant_of c e) ≡ true
null_is_constant c (expr node (trees.constant n true)) h = refl
null_is_constant c (expr node (trees.constant n false)) h = refl
null_is_constant c (expr node (trees.text bytes)) h = never h
null_is_constant c (expr node (trees.name x)) h = never h
null_is_constant c (expr node (trees.unary operator a)) h = never h
null_is_constant c (expr node (trees.step operator a)) h = never h
null_is_constant c (expr node (trees.cast n a)) h = never h
null_is_constant c (expr node (trees.sizeof_type n)) h = never h
null_is_constant c (expr node (trees.sizeof_expr a)) h = never h
null_is_constant c (expr node (trees.binary operator a b)) h = never h
null_is_constant c (expr node (trees.assign operator a b)) h = never h
null_is_constant c (expr node (trees.conditional d a b)) h = never h
null_is_constant c (expr node (trees.comma a b)) h = never h
null_is_constant c (expr node (trees.subscript a b)) h = never h
null_is_constant c (expr node (trees.member access a x)) h = never h
null_is_constant c (expr node (trees.call f es)) h = never h

-- an address: its type, after 6.3.2.1, is that of a pointer, and it has a pointer
pub record Addressing (s : Scope) (e : ExprTree) (u : TypeTree) : Type 0 where
  pub is_pointer : is_pointer (decayed u) ≡ true
  pub pointer : Known (address_constant s e)

file_pointer : (s : Scope) (o : Option Entity) → is_file_variable o ≡ true → Known (entity_pointer s o)
file_pointer s None h = never h
file_pointer s (Some (local_variable node t)) h = never h
file_pointer s (Some (file_variable node t)) h = record { value = _; is = refl }
file_pointer s (Some (function node o body)) h = never h
file_pointer s (Some (given o)) h = never h

named_file_pointer : (s : Scope) (a : ExprTree) → names_file_variable s.context a ≡ true → Known (named_pointer s a)
named_file_pointer s (expr node (trees.name x)) h = file_pointer s (entity_of s.context x) h
named_file_pointer s (expr node (trees.constant n b)) h = never h
named_file_pointer s (expr node (trees.text bytes)) h = never h
named_file_pointer s (expr node (trees.unary operator a)) h = never h
named_file_pointer s (expr node (trees.step operator a)) h = never h
named_file_pointer s (expr node (trees.cast n a)) h = never h
named_file_pointer s (expr node (trees.sizeof_type n)) h = never h
named_file_pointer s (expr node (trees.sizeof_expr a)) h = never h
named_file_pointer s (expr node (trees.binary operator a b)) h = never h
named_file_pointer s (expr node (trees.assign operator a b)) h = never h
named_file_pointer s (expr node (trees.conditional d a b)) h = never h
named_file_pointer s (expr node (trees.comma a b)) h = never h
named_file_pointer s (expr node (trees.subscript a b)) h = never h
named_file_pointer s (expr node (trees.member access a x)) h = never h
named_file_pointer s (expr node (trees.call f es)) h = never h

address_type : (c : Context) (node : _) (a : ExprTree) (u : TypeTree) → type_of c (expr node (trees.unary unaries.Address a)) ≡ Some u → is_pointer (decayed u) ≡ true
address_type c node a u e =
    let w = went (and_then (type_of c a) (λ t. Some (unary_judged c.structs unaries.Address a t (decayed t)))) _ u e in
    let v = went (type_of c a) (λ t. Some (unary_judged c.structs unaries.Address a t (decayed t))) w.value w.had in
    let n = unless w.value.tests w.value.type u w.gave in
    subst (λ z. is_pointer (decayed z) ≡ true) (ap (λ (j : Judged). j.type) (same_judged v.gave) ∙ n.type) refl
  where
    same_judged : {j k : Judged} → Some j ≡ Some k → j ≡ k
    same_judged e = cc

text_type : (bytes : List ℕ) (u : TypeTree) {n : ℕ} → Some (array char n) ≡ Some u → is_pointer (decayed u) ≡ true
text_type bytes u e = go (same_types e)
  where
    same_types : {t v : TypeTree} → Some t ≡ Some v → t ≡ v
    same_types e = cc

    go : {n : ℕ} → array char n ≡ u → is_pointer (decayed u) ≡ true
    go e = subst (λ z. is_pointer (decayed z) ≡ true) e refl

addressing : (s : Scope) (e : ExprTree) (u : TypeTree) → type_of s.context e ≡ Some u → (is_some (text_of e) || is_address s.context e u) ≡ true → Addressing s e u
addressing s (expr node (trees.text bytes)) u t h = record { is_pointer = text_type bytes u t; pointer = record { value = _; is = refl } }
addressing s (expr node (trees.name x)) u t h = record { is_pointer = array_pointer u (first_so _ _ h); pointer = file_pointer s (entity_of s.context x) (second_so (is_array u) _ h) }
addressing s (expr node (trees.unary unaries.Address a)) u t h = record { is_pointer = address_type s.context node a u t; pointer = named_file_pointer s a h }
addressing s (expr node (trees.unary unaries.Indirect a)) u t h = never h
addressing s (expr node (trees.unary unaries.Plus a)) u t h = never h
addressing s (expr node (trees.unary unaries.Minus a)) u t h = never h
addressing s (expr node (trees.unary unaries.Complement a)) u t h = never h
addressing s (expr node (trees.unary unaries.Not a)) u t h = never h
addressing s (expr node (trees.constant n b)) u t h = never h
addressing s (expr node (trees.step operator a)) u t h = never h
addressing s (expr node (trees.cast n a)) u t h = never h
addressing s (expr node (trees.sizeof_type n)) u t h = never h
addressing s (expr node (trees.sizeof_expr a)) u t h = never h
addressing s (expr node (trees.binary operator a b)) u t h = never h
addressing s (expr node (trees.assign operator a b)) u t h = never h
addressing s (expr node (trees.conditional d a b)) u t h = never h
addressing s (expr node (trees.comma a b)) u t h = never h
addressing s (expr node (trees.subscript a b)) u t h = never h
addressing s (expr node (trees.member access a x)) u t h = never h
addressing s (expr node (trees.call f es)) u t h = never h

-- an integer constant, or an address
constant_kind : (s : Scope) (e : ExprTree) (u : TypeTree) → type_of s.context e ≡ Some u → is_constant s.context e u ≡ true →
    (is_some (constant_of s.context e) ≡ true) ⊎ Addressing s e u
constant_kind s e u t h = go (or_cases (is_some (constant_of s.context e)) _ h)
  where
    rest : (is_null_constant e ≡ true) ⊎ ((is_some (text_of e) || is_address s.context e u) ≡ true) → (is_some (constant_of s.context e) ≡ true) ⊎ Addressing s e u
    rest (inl n) = inl (null_is_constant s.context e n)
    rest (inr a) = inr (addressing s e u t a)

    go : (is_some (constant_of s.context e) ≡ true) ⊎ ((is_null_constant e || (is_some (text_of e) || is_address s.context e u)) ≡ true) →
        (is_some (constant_of s.context e) ≡ true) ⊎ Addressing s e u
    go (inl k) = inl k
    go (inr r) = rest (or_cases (is_null_constant e) _ r)

integer_cells : (s : Scope) (t : TypeTree) (e : ExprTree) (u : TypeTree) → is_integer (decayed u) ≡ true → (is_some (constant_of s.context e) ≡ true) ⊎ Addressing s e u
    → Known (constant_of s.context e)
integer_cells s t e u i (inl k) = known _ k
integer_cells s t e u i (inr a) = not_both (is_integer (decayed u)) i (pointer_no_integer u a.is_pointer)

pointer_cells : (s : Scope) (e : ExprTree) (u : TypeTree) → type_of s.context e ≡ Some u → (is_pointer (decayed u) ≡ true) ⊎ (is_null_constant e ≡ true)
    → (is_some (constant_of s.context e) ≡ true) ⊎ Addressing s e u → Known (pointer_constant s e)
pointer_cells s e u t p k = go (is_null_constant e) refl p k
  where
    go : (b : Bool) → is_null_constant e ≡ b → (is_pointer (decayed u) ≡ true) ⊎ (is_null_constant e ≡ true) → (is_some (constant_of s.context e) ≡ true) ⊎ Addressing s e u
        → Known (if b then Some null else address_constant s e)
    go true n p k = record { value = _; is = refl }
    go false n (inr m) k = not_both (is_null_constant e) m n
    go false n (inl q) (inl k) = not_both (is_integer (decayed u)) (integer_itself u (constant_integer s.context e u t k)) (pointer_no_integer u q)
    go false n (inl q) (inr a) = a.pointer

without_second : (a b : Bool) → (a && b || false) ≡ true → (a ≡ true) × (b ≡ true)
without_second true true e = (refl, refl)
without_second true false e = never e
without_second false b e = never e

integer_operand : (v : Bool) → (v || false) ≡ true → v ≡ true
integer_operand true e = refl
integer_operand false e = e

-- an expression of type u that fits a scalar or an array at file scope
pub file_piece_known : (s : Scope) (t : TypeTree) (offset : ℕ) (e : ExprTree) (u : TypeTree) → type_of s.context e ≡ Some u → fits_variable true s.context t e u ≡ true
    → Known (piece_cells s (record { offset = offset; type = t; expression = e }))
file_piece_known s int offset e u t h =
    let p = without_second (is_assignable int e (decayed u)) (is_constant s.context e u) h in
    onward (constant_of s.context e) _ (integer_cells s int e u (integer_operand (is_integer (decayed u)) p.0) (constant_kind s e u t p.1)) (record { value = _; is = refl })
file_piece_known s unsigned offset e u t h =
    let p = without_second (is_assignable unsigned e (decayed u)) (is_constant s.context e u) h in
    onward (constant_of s.context e) _ (integer_cells s unsigned e u (integer_operand (is_integer (decayed u)) p.0) (constant_kind s e u t p.1))
    (record { value = _; is = refl })
file_piece_known s char offset e u t h =
    let p = without_second (is_assignable char e (decayed u)) (is_constant s.context e u) h in
    onward (constant_of s.context e) _ (integer_cells s char e u (integer_operand (is_integer (decayed u)) p.0) (constant_kind s e u t p.1)) (record { value = _; is = refl })
file_piece_known s void offset e u t h = never h
file_piece_known s (pointer w) offset e u t h =
    let p = without_second (is_assignable (pointer w) e (decayed u)) (is_constant s.context e u) h in
    onward (pointer_constant s e) _ (pointer_cells s e u t (kind (or_cases (same_type (pointer w) (decayed u)) (is_null_constant e) p.0)) (constant_kind s e u t p.1))
    (record { value = _; is = refl })
  where
    kind : (same_type (pointer w) (decayed u) ≡ true) ⊎ (is_null_constant e ≡ true) → (is_pointer (decayed u) ≡ true) ⊎ (is_null_constant e ≡ true)
    kind (inl f) = inl (same_is_pointer (pointer w) (decayed u) refl f)
    kind (inr n) = inr n
file_piece_known s (array w n) offset e u t h = onward (text_of e) _ (known _ (text_there w n (text_of e) (integer_operand (holds_text (array w n) (text_of e)) h)))
    (record { value = _; is = refl })
  where
    text_there : (t : TypeTree) (n : ℕ) (o : Option (List ℕ)) → holds_text (array t n) o ≡ true → is_some o ≡ true
    text_there char n None e = never e
    text_there char n (Some bytes) e = refl
    text_there int n o e = never e
    text_there unsigned n o e = never e
    text_there void n o e = never e
    text_there (pointer t) n o e = never e
    text_there (array t m) n o e = never e
    text_there (struct k) n o e = never e
file_piece_known s (struct k) offset e u t h = never h

-- ---- lists

module _ (s : Scope) (h : IsFileScope s.context) where
  abbrev structs : Structs
  structs = s.context.structs

  names_have_types : HasTypes s.context
  names_have_types = has_types (within s s.context) [] (file_sound s s.context [] h)

  abbrev AllCells : List Piece → Type 0
  AllCells [] = Unit {0}
  AllCells (p ∷ ps) = Known (piece_cells s p) × AllCells ps

  joined : (ps qs : List Piece) → AllCells ps → AllCells qs → AllCells (ps ++ qs)
  joined [] qs k l = l
  joined (p ∷ ps) qs k l = (k.0, joined ps qs k.1 l)

  over_known : (ps : List Piece) (cells : List Cell) → AllCells ps → Known (pieces_over s ps cells)
  over_known [] cells k = record { value = cells; is = refl }
  over_known (p ∷ ps) cells k = onward (piece_cells s p) _ k.0 (over_known ps (written_over cells p.offset k.0.value) k.1)

  record Celled (o : Option (List Piece)) : Type 0 where
    list : List Piece
    is : o ≡ Some list
    cells : AllCells list

  all_elements_typed : (is : Initialisers) (u : TypeTree) (i : ℕ) → elements_faults true s.context (Some u) i is ≡ [] → elements_typed s.context is ≡ true
  all_elements_typed no_initialisers u i f = refl
  all_elements_typed (initialiser_and (trees.value e) is) u i f =
      and_from _ _ (ap is_some (type_of_known s.context names_have_types e whole (none_left _ _ f)).is)
      (all_elements_typed is u (i + 1) (none_right (expr_faults s.context whole e) _ f))
  all_elements_typed (initialiser_and (trees.list node inner) is) u i f =
      all_elements_typed is u (i + 1) (none_right (initialiser_faults true s.context (part_type structs u i) (trees.list node inner)) _ f)

  elements_kept : (typed takes fits : Bool) → typed ≡ true → takes ≡ true → breaks_one (if typed && takes then keeps rules.InitialiserType fits else []) ≡ false → fits ≡ true
  elements_kept true true true e f k = refl
  elements_kept true true false e f k = never (sym k)
  elements_kept true false fits e f k = never f
  elements_kept false takes fits e f k = never e

  mutual
    initialiser_celled : (i : InitialiserTree) (u : TypeTree) (offset : ℕ) → is_complete structs u ≡ true → element_fits true s.context (Some u) i ≡ true
        → initialiser_faults true s.context (Some u) i ≡ [] → Celled (pieces structs u offset i)
    initialiser_celled (trees.value e) u offset complete fits f =
        let t = type_of_known s.context names_have_types e whole f in
        record {
          list = _;
          is = refl;
          cells = (
            file_piece_known s u offset e t.value t.is
                (subst (λ o. fits_typed o (fits_variable true s.context u e) ≡ true) t.is fits),
            tt,
          );
        }
    initialiser_celled (trees.list node is) u offset complete fits f =
        let inner = none_right (faults_of node.id (list_tests true s.context u is)) (elements_faults true s.context (Some u) 0 is) f in
        let tests = unbroken node.id (list_tests true s.context u is)
        (none_left (faults_of node.id (list_tests true s.context u is)) (elements_faults true s.context (Some u) 0 is) f) in
        elements_celled is u offset 0 complete (fits_count structs u is fits)
        (elements_kept (elements_typed s.context is) (takes_list u) (elements_fit true s.context (Some u) 0 is) (all_elements_typed is u 0 inner)
        (fits_takes structs u is fits) tests) inner

    elements_celled : (is : Initialisers) (u : TypeTree) (offset i : ℕ) → is_complete structs u ≡ true
        → i + initialisers_count is ≤ count_of_parts structs u → elements_fit true s.context (Some u) i is ≡ true
        → elements_faults true s.context (Some u) i is ≡ [] → Celled (pieces_from structs u offset i is)
    elements_celled no_initialisers u offset i complete room fits f = record { list = []; is = refl; cells = tt }
    elements_celled (initialiser_and first is) u offset i complete room fits f =
        let fits_first : element_fits true s.context (part_type structs u i) first ≡ true = first_so _ _ fits in
        let r : i + suc (initialisers_count is) ≤ count_of_parts structs u = room in
        let p = part_known structs h.laid_out h.members u i complete (part_there structs u i (omega arith)) in
        let now = initialiser_celled first p.type (offset + p.offset.value) p.complete
        (subst (λ o. element_fits true s.context o first ≡ true) p.is fits_first)
        (subst (λ o. initialiser_faults true s.context o first ≡ []) p.is (none_left _ _ f)) in
        let later = elements_celled is u offset (i + 1) complete (omega arith) (second_so (element_fits true s.context (part_type structs u i) first) _ fits)
        (none_right (initialiser_faults true s.context (part_type structs u i) first) _ f) in
        record {
          list = now.list ++ later.list;
          is = goes (part_type structs u i) p.type _ _ p.is
              (goes (part_offset structs u i) p.offset.value _ _ p.offset.is (goes (pieces structs p.type (offset + p.offset.value) first) now.list _ _ now.is
              (goes (pieces_from structs u offset (i + 1) is) later.list _ _ later.is refl)));
          cells = joined now.list later.list now.cells later.cells;
        }

  block_known : (t : TypeTree) (i : Option InitialiserTree) → is_complete structs t ≡ true → breaks_one (initialiser_tests true s.context (Some t) i) ≡ false
      → option_initialiser_faults true s.context (Some t) i ≡ [] → Known (variable_block s t i)
  block_known t None complete tests f =
      onward (initial_cells s t None) _ (onward (blank_of structs t) _ (blank_known structs h.laid_out h.members t complete) (record { value = _; is = refl }))
      (record { value = _; is = refl })
  block_known t (Some i) complete tests f =
      let b = blank_known structs h.laid_out h.members t complete in
      let ps = initialiser_celled i t 0 complete (fits_as_element i (kept_fit (is_typed s.context i) _ (has_type i f) tests)) f in
      onward (initial_cells s t (Some i)) _
      (onward (blank_of structs t) _ b (onward (pieces structs t 0 i) _ (record { value = ps.list; is = ps.is }) (over_known ps.list (blank_cells b.value) ps.cells)))
      (record { value = _; is = refl })
    where
      has_type : (i : InitialiserTree) → initialiser_faults true s.context (Some t) i ≡ [] → is_typed s.context i ≡ true
      has_type (trees.value e) f = ap is_some (type_of_known s.context names_have_types e whole f).is
      has_type (trees.list node is) f = refl

      kept_fit : (b fit : Bool) → b ≡ true → breaks_one (if b then keeps rules.InitialiserType fit else []) ≡ false → fit ≡ true
      kept_fit true true e f = refl
      kept_fit true false e f = never (sym f)
      kept_fit false fit e f = never e

      fits_as_element : (i : InitialiserTree) → fits true s.context t i ≡ true → element_fits true s.context (Some t) i ≡ true
      fits_as_element (trees.value e) k = k
      fits_as_element (trees.list node is) k = k

-- ---- variables

module _ (s₀ : Scope) where
  pub record Known_after (c : Context) (base : Base) (vs : List VariableTree) : Type 0 where
    pub blocks : Known (file_variables_typed (within s₀ c) base vs)
    pub scope : IsFileScope (after_variables true c base vs)

  pub file_variables_known : (vs : List VariableTree) (c : Context) (base : Base) → IsFileScope c → variables_faults true c base vs ≡ [] → Known_after c base vs
  file_variables_known [] c base h f = record { blocks = record { value = _; is = refl }; scope = h }
  file_variables_known (v ∷ vs) c base h faults =
      let after = after_variable true c base v in
      let tests = variable_tests true c after base v in
      let own = none_left (variable_faults true c after base v) (variables_faults true after base vs) faults in
      let parts = none_right (faults_of v.declarator.node.id tests)
      (lengths_faults c v.declarator.lengths.given ++ option_initialiser_faults true after (variable_declared c base v).type v.initialiser) own in
      let initialiser = none_right (lengths_faults c v.declarator.lengths.given)
      (option_initialiser_faults true after (variable_declared c base v).type v.initialiser) parts in
      let typed_lengths = lengths_typed c (has_types (within s₀ c) [] (file_sound s₀ c [] h)) v.declarator.lengths.given (none_left _ _ parts) in
      let whole_tests = ap (λ b. breaks_one (if b then [] else again_tests true c v ++
      ((variable_declared c base v).tests ++ initialiser_tests true after (variable_declared c base v).type v.initialiser)))
      (sym (not_held_back true after (variable_declared c base v).type v.initialiser initialiser))
      ∙ unbroken v.declarator.node.id tests (none_left (faults_of v.declarator.node.id tests) _ own) in
      let later_tests = second_unbroken (again_tests true c v) ((variable_declared c base v).tests ++ initialiser_tests true after
      (variable_declared c base v).type v.initialiser) whole_tests in
      let d = declared_known c base v.declarator (length_by v.initialiser) typed_lengths
      (first_unbroken (variable_declared c base v).tests (initialiser_tests true after (variable_declared c base v).type v.initialiser) later_tests) in
      let scope = scope_after c base v h d in
      let block = block_known (within s₀ after) scope d.type v.initialiser d.complete
      (subst (λ o. breaks_one (initialiser_tests true after o v.initialiser) ≡ false) d.is
      (second_unbroken (variable_declared c base v).tests (initialiser_tests true after (variable_declared c base v).type v.initialiser) later_tests))
      (subst (λ o. option_initialiser_faults true after o v.initialiser ≡ []) d.is initialiser) in
      let first : Known (file_variable_typed (within s₀ c) base v) = record { value = block.value; is = goes (variable_declared c base v).type d.type _ _ d.is block.is } in
      let rest = file_variables_known vs after base scope (none_right (variable_faults true c after base v) (variables_faults true after base vs) faults) in
      record {
        blocks = onward (file_variable_typed (within s₀ c) base v) _ first
            (onward (file_variables_typed (within s₀ after) base vs) _ rest.blocks (record { value = _; is = refl }));
        scope = rest.scope;
      }
    where
      scope_after : (c : Context) (base : Base) (v : VariableTree) → IsFileScope c → DeclaredAs c.structs (variable_declared c base v) → IsFileScope
          (after_variable true c base v)
      scope_after c base v h d = record {
        names = (subst (λ o. EntityTyped c.structs (file_variable v.declarator.node.id o)) (sym d.is) d.complete, h.names);
        members = h.members;
        laid_out = h.laid_out;
      }
