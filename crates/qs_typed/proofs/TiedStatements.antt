-- Where the definition gives a statement a typed tree, what is known by the numbers of its nodes gives the same.
use Rattle.std.proofs.Common.{◌≡◌, ℕ, ◌+◌, ◌*◌, List, [], ◌∷◌, ◌++◌, Option, Some, None, refl, ap, ◌∙◌, subst}
use Rattle.qs_memory.specs.Partial.{◌>>=◌}
use Rattle.qs_syntax.specs.declared.types.Base.{Base}
use Rattle.qs_syntax.specs.Trees.{ExprTree, InitialiserTree, Initialisers, no_initialisers, initialiser_and, VariableTree, StartTree, no_start, start_expression, start_declaration, StmtTree, Else, no_else, else_by}
use Rattle.qs_syntax.specs.Trees as trees
use Rattle.qs_types.specs.Types.{TypeTree, int, unsigned, char, void, pointer, array, struct, is_array, MemberTree, Structs}
use Rattle.qs_types.specs.Layout.{size_of, struct_of}
use Rattle.qs_types.specs.Constants.{value_of, constant_of}
use Rattle.qs_types.specs.Contexts.{context_with}
use Rattle.qs_types.specs.Declarations.{text_of, variable_declared}
use Rattle.qs_types.specs.InitialiserRules.{member_at, part_type}
use Rattle.qs_types.specs.StatementRules.{after_statement}
use Rattle.qs_meaning.specs.Typed.{Expr, member, object, copy, fill, in_order, evaluate, block, branch, switch, case_label, while_loop, do_loop, for_loop, return, stmt_and}
use Rattle.qs_meaning.specs.Conversions.{scalar_of, conversion}
use Rattle.qs_meaning.specs.Names.{Scope, within, local_lvalue}
use Rattle.qs_meaning.specs.Forms.{lvalue, TypedExpr, address_of, effect_of, effect_in_use, type_in_use, value_in_use}
use Rattle.qs_meaning.specs.Expressions.{typed, plain_form}
use Rattle.qs_meaning.specs.Blanks.{blank_of}
use Rattle.qs_meaning.specs.Initialisers.{part_offset, Piece, pieces, pieces_from, text_room, text_set, assigned_set, piece_set, pieces_set, filled, object_set, local_set}
use Rattle.qs_meaning.specs.Statements.{initialised, behind_variable, variable_typed, variables_typed, effect_typed, option_effect, condition_typed, option_condition, start_typed, return_typed, case_typed, inner, in_switch, loop_body, in_for, statement_typed, statements_typed, else_typed}
use Rattle.qs_typed_forms.specs.Between.{between}
use Rattle.qs_typed_nodes.specs.Known.{Known, at_number, known}
use Rattle.qs_typed_nodes.specs.KnownStatements.{text_set_known, assigned_set_known, piece_set_known, pieces_set_known, filled_known, object_set_known, local_set_known, initialised_known, variable_known, variables_known, effect_known, option_effect_known, condition_known, option_condition_known, start_known, return_known, promotion, case_known, statement_known, statements_known, else_known}
use Rattle.std.proofs.lemmas.Option.{same_Some}
use Rattle.qs_typed_nodes.specs.Agrees.{Keeps, Grown, Agrees, ExpressionAt, OptionAt, InitialiserAt, InitialisersAt, ResultIs, InitialAt, VariableAt, VariablesAt, StartAt, StatementAt, StatementsAt, ElseAt}
use Rattle.qs_typed_nodes.proofs.KeptAgreement.{kept, kept_by, is_kept, equal_kept, choice_kept}
use Rattle.qs_typed_nodes.proofs.KeptAgreement as options
use Rattle.qs_typed.proofs.UnitStructs.{size_kept, offset_kept, plain_kept}
use Rattle.qs_typed.proofs.ValuesKept.{constant_kept}
use Rattle.qs_typed.proofs.TiedExpressions.{typed_kept}

at_kept : (k : Known) (s : Scope) (e : ExprTree) → ExpressionAt k s e → Keeps (typed s e) (known k e)
at_kept k s e h = typed_kept k s h.0 h.1.0 e h.1.1

-- ---- the parts of an object

part_kept : (old new : Structs) → Grown old new → (t : TypeTree) (i : ℕ) → Keeps (part_type old t i) (part_type new t i)
part_kept old new g int i = λ x e. e
part_kept old new g unsigned i = λ x e. e
part_kept old new g char i = λ x e. e
part_kept old new g void i = λ x e. e
part_kept old new g (pointer t) i = λ x e. e
part_kept old new g (array t n) i = λ x e. e
part_kept old new g (struct k) i = go (struct_of old k) (g.members k)
  where
    go : (o : Option (List MemberTree)) → Keeps o (struct_of new k) → Keeps (member_at o i) (member_at (struct_of new k) i)
    go None h x e = options.nothing x e
    go (Some ms) h x e = ap (λ o. member_at o i) (h ms refl) ∙ e

place_kept : (old new : Structs) → Grown old new → (t : TypeTree) (i : ℕ) → Keeps (part_offset old t i) (part_offset new t i)
place_kept old new g int i = λ x e. e
place_kept old new g unsigned i = λ x e. e
place_kept old new g char i = λ x e. e
place_kept old new g void i = λ x e. e
place_kept old new g (pointer t) i = λ x e. e
place_kept old new g (array t n) i =
    kept (size_of old t) (size_of new t) (λ size. Some (size * i)) (λ size. Some (size * i)) (size_kept old new g t) (λ size. is_kept (Some (size * i)))
place_kept old new g (struct k) i = offset_kept old new g k i

mutual
  pub pieces_kept : (old new : Structs) → Grown old new → (t : TypeTree) (offset : ℕ) (i : InitialiserTree) → Keeps (pieces old t offset i) (pieces new t offset i)
  pieces_kept old new g t offset (trees.value e) = λ x e. e
  pieces_kept old new g t offset (trees.list node is) = from_kept old new g t offset 0 is

  from_kept : (old new : Structs) → Grown old new → (t : TypeTree) (offset i : ℕ) (is : Initialisers) → Keeps (pieces_from old t offset i is) (pieces_from new t offset i is)
  from_kept old new g t offset i no_initialisers = λ x e. e
  from_kept old new g t offset i (initialiser_and first rest) =
      kept (part_type old t i) (part_type new t i) _ _ (part_kept old new g t i)
      (λ u. kept (part_offset old t i) (part_offset new t i) _ _ (place_kept old new g t i)
      (λ at. kept (pieces old u (offset + at) first) (pieces new u (offset + at) first) _ _ (pieces_kept old new g u (offset + at) first)
      (λ now. kept (pieces_from old t offset (i + 1) rest) (pieces_from new t offset (i + 1) rest) (λ later. Some (now ++ later)) (λ later. Some (now ++ later))
      (from_kept old new g t offset (i + 1) rest) (λ later. is_kept (Some (now ++ later))))))

-- the expressions of pieces are those of the initialiser
abbrev PiecesAt : Known → Scope → List Piece → Type 0
PiecesAt k s [] = Unit {0}
PiecesAt k s (p ∷ ps) = ExpressionAt k s p.expression × PiecesAt k s ps

both_at : (k : Known) (s : Scope) (ps qs : List Piece) → PiecesAt k s ps → PiecesAt k s qs → PiecesAt k s (ps ++ qs)
both_at k s [] qs h t = t
both_at k s (p ∷ ps) qs h t = (h.0, both_at k s ps qs h.1 t)

first_at : (k : Known) (s : Scope) (structs : Structs) (t : TypeTree) (offset i : ℕ) (first : InitialiserTree) (rest : Initialisers)
    → ((u : TypeTree) (at : ℕ) (now : List Piece) → pieces structs u at first ≡ Some now → PiecesAt k s now) → ((later : List Piece) → pieces_from structs t offset (i + 1) rest ≡ Some later → PiecesAt k s later)
    → (ps : List Piece) (u : TypeTree) (at : ℕ) (now : Option (List Piece)) → pieces structs u at first ≡ now → (later : Option (List Piece)) → pieces_from structs t offset (i + 1) rest ≡ later
    → (now >>= λ now. later >>= λ later. Some (now ++ later)) ≡ Some ps → PiecesAt k s ps
first_at k s structs t offset i first rest h f ps u at None q later r e = options.nothing ps e
first_at k s structs t offset i first rest h f ps u at (Some now) q None r e = options.nothing ps e
first_at k s structs t offset i first rest h f ps u at (Some now) q (Some later) r e =
    subst (λ ps. PiecesAt k s ps) (same_Some (now ++ later) ps e) (both_at k s now later (h u at now q) (f later r))

list_at : (k : Known) (s : Scope) (structs : Structs) (t : TypeTree) (offset i : ℕ) (first : InitialiserTree) (rest : Initialisers)
    → ((u : TypeTree) (at : ℕ) (now : List Piece) → pieces structs u at first ≡ Some now → PiecesAt k s now) → ((later : List Piece) → pieces_from structs t offset (i + 1) rest ≡ Some later → PiecesAt k s later)
    → (ps : List Piece) (u : Option TypeTree) (at : Option ℕ)
    → (u >>= λ u. at >>= λ at. pieces structs u (offset + at) first >>= λ now. pieces_from structs t offset (i + 1) rest >>= λ later. Some (now ++ later)) ≡ Some ps → PiecesAt k s ps
list_at k s structs t offset i first rest h f ps None at e = options.nothing ps e
list_at k s structs t offset i first rest h f ps (Some u) None e = options.nothing ps e
list_at k s structs t offset i first rest h f ps (Some u) (Some at) e =
    first_at k s structs t offset i first rest h f ps u (offset + at) (pieces structs u (offset + at) first) refl (pieces_from structs t offset (i + 1) rest) refl e

mutual
  pieces_at : (k : Known) (s : Scope) (structs : Structs) (t : TypeTree) (offset : ℕ) (i : InitialiserTree) → InitialiserAt k s i → (ps : List Piece) → pieces structs t offset i ≡ Some ps
      → PiecesAt k s ps
  pieces_at k s structs t offset (trees.value e) h ps p = subst (λ ps. PiecesAt k s ps) (same_Some (record { offset = offset; type = t; expression = e } ∷ []) ps p) (h, tt)
  pieces_at k s structs t offset (trees.list node is) h ps p = from_at k s structs t offset 0 is h ps p

  from_at : (k : Known) (s : Scope) (structs : Structs) (t : TypeTree) (offset i : ℕ) (is : Initialisers) → InitialisersAt k s is → (ps : List Piece) → pieces_from structs t offset i is ≡ Some ps
      → PiecesAt k s ps
  from_at k s structs t offset i no_initialisers h ps p = subst (λ ps. PiecesAt k s ps) (same_Some [] ps p) tt
  from_at k s structs t offset i (initialiser_and first rest) h ps p =
      list_at k s structs t offset i first rest (λ u at now q. pieces_at k s structs u at first h.0 now q) (λ later r. from_at k s structs t offset (i + 1) rest h.1 later r) ps
      (part_type structs t i) (part_offset structs t i) p

-- ---- what initialises a local

text_set_kept : (k : Known) (s : Scope) (t : TypeTree) (to : Expr) (e : ExprTree) → ExpressionAt k s e → Keeps (text_set s t to e) (text_set_known k t to e)
text_set_kept k s t to e h =
    kept (text_of e) (text_of e) _ _ (is_kept (text_of e))
    (λ bytes. kept (typed s e) (known k e) _ _ (at_kept k s e h) (λ (a : TypedExpr). is_kept (address_of a.form >>= λ from. Some (copy (text_room t bytes) 1 to from))))

assigned_set_kept : (k : Known) (s : Scope) → Agrees k s → (part : TypedExpr) (e : ExprTree) → ExpressionAt k s e → Keeps (assigned_set s part e) (assigned_set_known k part e)
assigned_set_kept k s g part e h =
    kept (typed s e) (known k e) _ _ (at_kept k s e h)
    (λ a. kept (plain_form s.context.structs part a) (plain_form k.structs part a) (λ form. Some (effect_of part.type form)) (λ form. Some (effect_of part.type form))
    (plain_kept s.context.structs k.structs g.structs part a) (λ form. is_kept (Some (effect_of part.type form))))

piece_set_kept : (k : Known) (s : Scope) → Agrees k s → (base : Expr) (p : Piece) → ExpressionAt k s p.expression → Keeps (piece_set s base p) (piece_set_known k base p)
piece_set_kept k s g base p h =
    choice_kept (is_array p.type) _ _ _ _ (text_set_kept k s p.type (member p.offset base) p.expression h)
    (assigned_set_kept k s g (record { type = p.type; form = lvalue (object (member p.offset base)) }) p.expression h)

pieces_set_kept : (k : Known) (s : Scope) → Agrees k s → (base : Expr) (ps : List Piece) → PiecesAt k s ps → Keeps (pieces_set s base ps) (pieces_set_known k base ps)
pieces_set_kept k s g base [] h = λ x e. e
pieces_set_kept k s g base (p ∷ ps) h =
    kept (piece_set s base p) (piece_set_known k base p) _ _ (piece_set_kept k s g base p h.0)
    (λ now. kept (pieces_set s base ps) (pieces_set_known k base ps) (λ later. Some (in_order now later)) (λ later. Some (in_order now later))
    (pieces_set_kept k s g base ps h.1) (λ later. is_kept (Some (in_order now later))))

filled_kept : (k : Known) (s : Scope) → Agrees k s → (t : TypeTree) (base : Expr) (i : InitialiserTree) → InitialiserAt k s i → Keeps (filled s t base i) (filled_known k t base i)
filled_kept k s g t base i h =
    kept (blank_of s.context.structs t) (blank_of k.structs t) _ _ (g.structs.blanks t)
    (λ cells. kept_by (pieces s.context.structs t 0 i) (pieces k.structs t 0 i) _ _ (pieces_kept s.context.structs k.structs g.structs t 0 i)
    (λ ps p. kept (pieces_set s base ps) (pieces_set_known k base ps) (λ sets. Some (in_order (fill cells base) sets)) (λ sets. Some (in_order (fill cells base) sets))
    (pieces_set_kept k s g base ps (pieces_at k s s.context.structs t 0 i h ps p)) (λ sets. is_kept (Some (in_order (fill cells base) sets)))))

object_set_kept : (k : Known) (s : Scope) → Agrees k s → (a : TypedExpr) (i : InitialiserTree) → InitialiserAt k s i → Keeps (object_set s a i) (object_set_known k a i)
object_set_kept k s g a i h = kept (address_of a.form) (address_of a.form) _ _ (is_kept (address_of a.form)) (λ base. filled_kept k s g a.type base i h)

local_set_kept : (k : Known) (s : Scope) → Agrees k s → (a : TypedExpr) (i : InitialiserTree) → InitialiserAt k s i → Keeps (local_set s a i) (local_set_known k a i)
local_set_kept k s g a (trees.value e) h = choice_kept (is_array a.type) _ _ _ _ (object_set_kept k s g a (trees.value e) h) (assigned_set_kept k s g a e h)
local_set_kept k s g a (trees.list node is) h = object_set_kept k s g a (trees.list node is) h

initialised_kept : (k : Known) (s : Scope) (node : ℕ) (t : TypeTree) (i : Option InitialiserTree) → InitialAt k s i → Keeps (initialised s node t i) (initialised_known k node t i)
initialised_kept k s node t None h = λ x e. e
initialised_kept k s node t (Some i) h =
    λ x e. ap (λ l. local_set_known k (record { type = t; form = lvalue (local_lvalue l node) }) i) h.0.locals
    ∙ local_set_kept k s h.0 (record { type = t; form = lvalue (local_lvalue s.locals node) }) i h.1 x e

variable_kept : (k : Known) (s : Scope) (base : Base) (v : VariableTree) → VariableAt k s base v → Keeps (variable_typed s base v) (variable_known k v)
variable_kept k s base v h =
    kept (variable_declared s.context base v).type (at_number k.types v.declarator.node.id) _ _ (equal_kept (variable_declared s.context base v).type (at_number k.types v.declarator.node.id) h.0)
    (λ t. initialised_kept k (behind_variable s base v) v.declarator.node.id t v.initialiser h.1)

variables_kept : (k : Known) (s : Scope) (base : Base) (vs : List VariableTree) → VariablesAt k s base vs → Keeps (variables_typed s base vs) (variables_known k vs)
variables_kept k s base [] h = λ x e. e
variables_kept k s base (v ∷ vs) h =
    kept (variable_typed s base v) (variable_known k v) _ _ (variable_kept k s base v h.0)
    (λ now. kept (variables_typed (behind_variable s base v) base vs) (variables_known k vs) (λ later. Some (in_order now later)) (λ later. Some (in_order now later))
    (variables_kept k (behind_variable s base v) base vs h.1) (λ later. is_kept (Some (in_order now later))))

-- ---- expressions in statements

effect_kept : (k : Known) (s : Scope) (e : ExprTree) → ExpressionAt k s e → Keeps (effect_typed s e) (effect_known k e)
effect_kept k s e h = kept (typed s e) (known k e) (λ a. Some (effect_in_use a)) (λ a. Some (effect_in_use a)) (at_kept k s e h) (λ a. is_kept (Some (effect_in_use a)))

option_effect_kept : (k : Known) (s : Scope) (e : Option ExprTree) → OptionAt k s e → Keeps (option_effect s e) (option_effect_known k e)
option_effect_kept k s None h = λ x e. e
option_effect_kept k s (Some e) h = effect_kept k s e h

condition_kept : (k : Known) (s : Scope) (e : ExprTree) → ExpressionAt k s e → Keeps (condition_typed s e) (condition_known k e)
condition_kept k s e h = kept (typed s e) (known k e) (λ a. Some (value_in_use a)) (λ a. Some (value_in_use a)) (at_kept k s e h) (λ a. is_kept (Some (value_in_use a)))

option_condition_kept : (k : Known) (s : Scope) (e : Option ExprTree) → OptionAt k s e → Keeps (option_condition s e) (option_condition_known k e)
option_condition_kept k s None h = λ x e. e
option_condition_kept k s (Some e) h =
    kept (condition_typed s e) (condition_known k e) (λ c. Some (Some c)) (λ c. Some (Some c)) (condition_kept k s e h) (λ c. is_kept (Some (Some c)))

start_kept : (k : Known) (s : Scope) (start : StartTree) → StartAt k s start → Keeps (start_typed s start) (start_known k start)
start_kept k s no_start h = λ x e. e
start_kept k s (start_expression e) h = effect_kept k s e h
start_kept k s (start_declaration d) h = variables_kept k s d.base d.variables h

return_kept : (k : Known) (s : Scope) (e : Option ExprTree) → ResultIs k s.context → OptionAt k s e → Keeps (return_typed s e) (return_known k e)
return_kept k s None r h = λ x e. e
return_kept k s (Some e) r h = go s.context.result r
  where
    go : (o : Option TypeTree) → ((t : TypeTree) → o ≡ Some t → k.result ≡ scalar_of t)
        → Keeps (o >>= λ t. typed s e >>= λ a. Some (return (conversion (type_in_use a) t) (value_in_use a))) (return_known k (Some e))
    go None r = λ x p. options.nothing x p
    go (Some t) r =
        kept (typed s e) (known k e) (λ a. Some (return (conversion (type_in_use a) t) (value_in_use a))) (λ a. Some (return (between (scalar_of (type_in_use a)) k.result) (value_in_use a)))
        (at_kept k s e h)
        (λ a. equal_kept (Some (return (conversion (type_in_use a) t) (value_in_use a))) (Some (return (between (scalar_of (type_in_use a)) k.result) (value_in_use a)))
        (ap (λ c. Some (return (between (scalar_of (type_in_use a)) c) (value_in_use a))) (r t refl)))

case_kept : (k : Known) (s : Scope) → Agrees k s → (e : ExprTree) → Keeps (case_typed s e) (case_known k e)
case_kept k s g e =
    kept (constant_of s.context e) (value_of (context_with k.structs k.type_names) e) (λ n. Some (case_label n)) (λ n. Some (case_label n))
    (constant_kept s.context (context_with k.structs k.type_names) (record { layouts = g.structs.layouts; bases = g.bases }) e) (λ n. is_kept (Some (case_label n)))

-- ---- statements

mutual
  pub statement_kept : (k : Known) (s : Scope) (t : StmtTree) → StatementAt k s t → Keeps (statement_typed s t) (statement_known k t)
  statement_kept k s (trees.block ss) h = kept (statements_typed (inner s) ss) (statements_known k ss) (λ b. Some (block b)) (λ b. Some (block b)) (statements_kept k (inner s) ss h) (λ b. is_kept (Some (block b)))
  statement_kept k s (trees.declaration d) h =
      kept (variables_typed s d.base d.variables) (variables_known k d.variables) (λ a. Some (evaluate a)) (λ a. Some (evaluate a)) (variables_kept k s d.base d.variables h)
      (λ a. is_kept (Some (evaluate a)))
  statement_kept k s (trees.expression node e) h =
      kept (effect_typed s e) (effect_known k e) (λ a. Some (evaluate a)) (λ a. Some (evaluate a)) (effect_kept k s e h) (λ a. is_kept (Some (evaluate a)))
  statement_kept k s (trees.empty node) h = λ x e. e
  statement_kept k s (trees.branch node e t r) h =
      kept (condition_typed s e) (condition_known k e) _ _ (condition_kept k s e h.0)
      (λ c. kept (statement_typed (inner s) t) (statement_known k t) _ _ (statement_kept k (inner s) t h.1.0)
      (λ a. kept (else_typed s r) (else_known k r) (λ b. Some (branch c a b)) (λ b. Some (branch c a b)) (else_kept k s r h.1.1) (λ b. is_kept (Some (branch c a b)))))
  statement_kept k s (trees.switch node e ts) h =
      kept (typed s e) (known k e) _ _ (at_kept k s e h.0)
      (λ a. kept (statements_typed (in_switch s e) ts) (statements_known k ts) (λ b. Some (switch (promotion (type_in_use a)) (value_in_use a) b))
      (λ b. Some (switch (promotion (type_in_use a)) (value_in_use a) b)) (statements_kept k (in_switch s e) ts h.1)
      (λ b. is_kept (Some (switch (promotion (type_in_use a)) (value_in_use a) b))))
  statement_kept k s (trees.case_label node e) h = case_kept k s h e
  statement_kept k s (trees.default_label node) h = λ x e. e
  statement_kept k s (trees.while_loop node e t) h =
      kept (condition_typed s e) (condition_known k e) _ _ (condition_kept k s e h.0)
      (λ c. kept (statement_typed (loop_body s) t) (statement_known k t) (λ b. Some (while_loop c b)) (λ b. Some (while_loop c b)) (statement_kept k (loop_body s) t h.1)
      (λ b. is_kept (Some (while_loop c b))))
  statement_kept k s (trees.do_loop node t e) h =
      kept (statement_typed (loop_body s) t) (statement_known k t) _ _ (statement_kept k (loop_body s) t h.0)
      (λ b. kept (condition_typed s e) (condition_known k e) (λ c. Some (do_loop b c)) (λ c. Some (do_loop b c)) (condition_kept k s e h.1) (λ c. is_kept (Some (do_loop b c))))
  statement_kept k s (trees.for_loop node start e u t) h =
      kept (start_typed (inner s) start) (start_known k start) _ _ (start_kept k (inner s) start h.0)
      (λ a. kept (option_condition (in_for s start) e) (option_condition_known k e) _ _ (option_condition_kept k (in_for s start) e h.1.0)
      (λ c. kept (option_effect (in_for s start) u) (option_effect_known k u) _ _ (option_effect_kept k (in_for s start) u h.1.1.0)
      (λ b. kept (statement_typed (loop_body (in_for s start)) t) (statement_known k t) (λ d. Some (for_loop a c b d)) (λ d. Some (for_loop a c b d))
      (statement_kept k (loop_body (in_for s start)) t h.1.1.1) (λ d. is_kept (Some (for_loop a c b d))))))
  statement_kept k s (trees.break node) h = λ x e. e
  statement_kept k s (trees.continue node) h = λ x e. e
  statement_kept k s (trees.return node e) h = return_kept k s e h.0 h.1

  pub statements_kept : (k : Known) (s : Scope) (ss : trees.Stmts) → StatementsAt k s ss → Keeps (statements_typed s ss) (statements_known k ss)
  statements_kept k s trees.no_stmts h = λ x e. e
  statements_kept k s (trees.stmt_and t ts) h =
      kept (statement_typed s t) (statement_known k t) _ _ (statement_kept k s t h.0)
      (λ a. kept (statements_typed (within s (after_statement s.context t)) ts) (statements_known k ts) (λ b. Some (stmt_and a b)) (λ b. Some (stmt_and a b))
      (statements_kept k (within s (after_statement s.context t)) ts h.1) (λ b. is_kept (Some (stmt_and a b))))

  else_kept : (k : Known) (s : Scope) (r : Else) → ElseAt k s r → Keeps (else_typed s r) (else_known k r)
  else_kept k s no_else h = λ x e. e
  else_kept k s (else_by t) h = statement_kept k (inner s) t h
