-- The memory in which a run begins is sound.
use Rattle.std.proofs.Common.{◌≡◌, ◌≤◌, ◌<◌, ℕ, zero, suc, ◌+◌, ◌==◌, Bool, true, false, ◌&&◌, ◌||◌, List, [], ◌∷◌, ◌++◌, length, map, flat_map, take, drop, slice_index_or, Option, Some, None, is_some, refl, sym, ap, ◌∙◌, subst, arith, if◌then◌else◌}
use Rattle.std.specs.List.{list_all, slice_get}
use Rattle.std.proofs.lemmas.Bool.{eq-eqb, and_from, or_left, or_right}
use Rattle.std.proofs.lemmas.Bool.Decides.{nat_tests}
use Rattle.std.proofs.lemmas.List.{length-append, length-map}
use Rattle.std.proofs.lemmas.List.Folds.{list_all-append}
use Rattle.std.specs.Cmp.{first_so, second_so}
use Rattle.std.proofs.lemmas.Option.{same_Some}
use Rattle.qs_base.specs.Bytes.{same_bytes}
use Rattle.qs_syntax_vocabulary.specs.declared.operators.UnaryOperator.TheVariants as unaries
use Rattle.qs_syntax.specs.declared.types.Base.{Base}
use Rattle.qs_syntax.specs.Trees.{ExprTree, expr, InitialiserTree, Initialisers, no_initialisers, initialiser_and, VariableTree, DeclTree, structure, forward, function, variables, UnitTree, DeclaratorTree, StructTree, DefinedTree, of_struct, of_base, typedef}
use Rattle.qs_syntax.specs.Trees as trees
use Rattle.qs_syntax_vocabulary.specs.WellFormed.{is_byte}
use Rattle.qs_memory.specs.Partial.{◌>>=◌}
use Rattle.qs_memory.specs.Values.{Pointer, null, into, width}
use Rattle.qs_memory.specs.Memory.{Cell, unset, byte, Memory, block_at, bytes_of, parts_of, blank_cells}
use Rattle.qs_memory.specs.Soundness.{IsSoundPointer, IsSoundCell, IsSound}
use Rattle.qs_memory.proofs.Options.{followed}
use Rattle.qs_memory.proofs.CellLaws.{Each}
use Rattle.qs_memory.proofs.BlockLaws.{live_known}
use Rattle.qs_memory.proofs.SoundLaws.{sound_bytes, sound_parts, sound_blank, each_append}
use Rattle.qs_types.specs.Types.{TypeTree, int, unsigned, char, void, pointer, array, struct, MemberTree, is_pointer, is_array}
use Rattle.qs_types.specs.Layout.{with_members, layout_of, member_types, sized_layout}
use Rattle.qs_types.specs.Contexts.{Entity, local_variable, file_variable, function, given, Binding, Context, start_context, lookup, entity_of, tag_place, add_type, is_type_name}
use Rattle.qs_types.specs.Contexts as contexts
use Rattle.qs_types.specs.GivenFunctions.{Signature}
use Rattle.qs_types.specs.Expressions.{is_null_constant}
use Rattle.qs_types.specs.Constants.{constant_of}
use Rattle.qs_types.specs.Declarations.{text_of, variable_declared, type_name_declared}
use Rattle.qs_types.specs.InitialiserRules.{part_type}
use Rattle.qs_types.specs.StatementRules.{after_variable, after_variables}
use Rattle.qs_types.specs.Sites.{Site, declarator_sites, may_hold, initialiser_sites, elements_sites, option_initialiser_sites, variable_sites, variables_sites, declaration_sites, declarations_sites, unit_sites}
use Rattle.qs_types.specs.Placed.{is_one_of}
use Rattle.qs_types.specs.References.{TextBlock, expr_texts, site_texts, literal_blocks}
use Rattle.qs_types.specs.UnitRules.{with_tag, no_members, after_members, has_no_members, define_at, declared_function, after_declaration, with_new_tag, with_option_tag, option_place, with_base_tag, after_struct, after_defined, defined_type, after_type_name, after_type_names}
use Rattle.qs_meaning.specs.Typed.{StaticBlock, TypedProgram}
use Rattle.qs_meaning.specs.Conversions.{scalar_of}
use Rattle.qs_meaning.specs.Names.{Scope, within, place_among}
use Rattle.qs_meaning.specs.Blanks.{blank_of}
use Rattle.qs_meaning.specs.Initialisers.{part_offset, Piece, pieces, pieces_from}
use Rattle.qs_meaning.specs.InitialValues.{pointer_width, entity_pointer, named_pointer, address_constant, pointer_constant, constant_cells, text_cells, length_in, piece_cells, written_over, pieces_over, initial_cells, text_block}
use Rattle.qs_meaning.specs.Units.{file_variable_typed, file_variables_typed, function_typed, declaration_typed, declarations_typed, file_variables_in, start_scope, block_of, initial_memory}
use Rattle.qs_meaning.specs.InitialLaws.{consists_of_bytes, has_bytes, InitialMemoryIsSound}
use Rattle.qs_meaning.proofs.Options.{never, all_left, all_right, nothing}
use Rattle.qs_syntax.specs.declared.types.Base.TheVariants as bases

-- ---- numbers of nodes

-- a node that is among others has a place among them
pub placed_below : (node : ℕ) (nodes : List ℕ) → is_one_of node nodes ≡ true → place_among node nodes < length nodes
placed_below node [] e = never e
placed_below node (n ∷ nodes) e = go (n == node) (λ f. placed_below node nodes f) e
  where
    go : (b : Bool) → (is_one_of node nodes ≡ true → place_among node nodes < length nodes) → (b || is_one_of node nodes) ≡ true
        → (if b then 0 else place_among node nodes + 1) < suc (length nodes)
    go true later e = omega arith
    go false later e = let l = later e in omega arith

abbrev pub nodes_of : List TextBlock → List ℕ
nodes_of ts = map (λ (t : TextBlock). t.node) ts

pub in_front : (n : ℕ) (ts us : List TextBlock) → is_one_of n (nodes_of ts) ≡ true → is_one_of n (nodes_of (ts ++ us)) ≡ true
in_front n [] us e = never e
in_front n (t ∷ ts) us e = go (t.node == n) (in_front n ts us) e
  where
    go : (b : Bool) → (is_one_of n (nodes_of ts) ≡ true → is_one_of n (nodes_of (ts ++ us)) ≡ true) → (b || is_one_of n (nodes_of ts)) ≡ true
        → (b || is_one_of n (nodes_of (ts ++ us))) ≡ true
    go true later e = refl
    go false later e = later e

pub behind : (n : ℕ) (ts us : List TextBlock) → is_one_of n (nodes_of us) ≡ true → is_one_of n (nodes_of (ts ++ us)) ≡ true
behind n [] us e = e
behind n (t ∷ ts) us e = or_right (t.node == n) _ (behind n ts us e)

-- nodes are among themselves
among : (nodes all : List ℕ) → ((n : ℕ) → is_one_of n nodes ≡ true → is_one_of n all ≡ true) → list_all (λ n. is_one_of n all) nodes ≡ true
among [] all h = refl
among (n ∷ nodes) all h = and_from _ _ (h n (or_left (n == n) _ (eq-eqb n n refl))) (among nodes all (λ m e. h m (or_right (n == m) _ e)))

texts_among : (ts : List TextBlock) (all : List ℕ) → ((n : ℕ) → is_one_of n (nodes_of ts) ≡ true → is_one_of n all ≡ true)
    → list_all (λ (t : TextBlock). is_one_of t.node all) ts ≡ true
texts_among [] all h = refl
texts_among (t ∷ ts) all h =
    and_from _ _ (h t.node (or_left (t.node == t.node) _ (eq-eqb t.node t.node refl))) (texts_among ts all (λ m e. h m (or_right (t.node == m) _ e)))

-- ---- expressions whose texts consist of bytes and have blocks, where they don't only fill an array

abbrev has_blocks : (texts : List ℕ) → ExprTree → Bool
has_blocks texts e = list_all (λ (t : TextBlock). is_one_of t.node texts) (expr_texts e)

abbrev is_fine : (texts : List ℕ) → Site → Bool
is_fine texts s = has_bytes s && (s.fills_array || has_blocks texts s.expression)

fine_sites : (texts : List ℕ) (ss : List Site) → list_all has_bytes ss ≡ true → ((n : ℕ) → is_one_of n (nodes_of (flat_map site_texts ss)) ≡ true → is_one_of n texts ≡ true)
    → list_all (is_fine texts) ss ≡ true
fine_sites texts [] e h = refl
fine_sites texts (s ∷ ss) e h =
    and_from _ _ (and_from _ _ (first_so (has_bytes s) _ e) (go s.fills_array (λ n f. h n (in_front n (site_texts s) (flat_map site_texts ss) f))))
    (fine_sites texts ss (second_so (has_bytes s) _ e) (λ n f. h n (behind n (site_texts s) (flat_map site_texts ss) f)))
  where
    go : (b : Bool) → ((n : ℕ) → is_one_of n (nodes_of (if b then [] else expr_texts s.expression)) ≡ true → is_one_of n texts ≡ true)
        → (b || has_blocks texts s.expression) ≡ true
    go true h = refl
    go false h = texts_among (expr_texts s.expression) texts h

literal_bytes : (ss : List Site) → list_all has_bytes ss ≡ true → list_all consists_of_bytes (flat_map site_texts ss) ≡ true
literal_bytes [] e = refl
literal_bytes (s ∷ ss) e =
    list_all-append consists_of_bytes (site_texts s) (flat_map site_texts ss)
    ∙ and_from _ _ (go s.fills_array (first_so (has_bytes s) _ e)) (literal_bytes ss (second_so (has_bytes s) _ e))
  where
    go : (b : Bool) → has_bytes s ≡ true → list_all consists_of_bytes (if b then [] else expr_texts s.expression) ≡ true
    go true e = refl
    go false e = e

text_bytes : (e : ExprTree) (bytes : List ℕ) → text_of e ≡ Some bytes → list_all consists_of_bytes (expr_texts e) ≡ true → list_all is_byte bytes ≡ true
text_bytes (expr node (trees.text bs)) bytes h f = subst (λ z. list_all is_byte z ≡ true) (same_Some bs bytes h) (first_so _ _ f)
text_bytes (expr node (trees.constant n b)) bytes h f = nothing bytes h
text_bytes (expr node (trees.name x)) bytes h f = nothing bytes h
text_bytes (expr node (trees.unary operator a)) bytes h f = nothing bytes h
text_bytes (expr node (trees.step operator a)) bytes h f = nothing bytes h
text_bytes (expr node (trees.cast n a)) bytes h f = nothing bytes h
text_bytes (expr node (trees.sizeof_type n)) bytes h f = nothing bytes h
text_bytes (expr node (trees.sizeof_expr a)) bytes h f = nothing bytes h
text_bytes (expr node (trees.binary operator a b)) bytes h f = nothing bytes h
text_bytes (expr node (trees.assign operator a b)) bytes h f = nothing bytes h
text_bytes (expr node (trees.conditional d a b)) bytes h f = nothing bytes h
text_bytes (expr node (trees.comma a b)) bytes h f = nothing bytes h
text_bytes (expr node (trees.subscript a b)) bytes h f = nothing bytes h
text_bytes (expr node (trees.member access a x)) bytes h f = nothing bytes h
text_bytes (expr node (trees.call g es)) bytes h f = nothing bytes h

-- a pointer isn't filled by a text
pointer_not_filled : (t : TypeTree) (e : ExprTree) → is_pointer t ≡ true → may_hold (Some t) e ≡ false
pointer_not_filled (pointer t) e i = refl
pointer_not_filled int e i = never i
pointer_not_filled unsigned e i = never i
pointer_not_filled char e i = never i
pointer_not_filled void e i = never i
pointer_not_filled (array t n) e i = never i
pointer_not_filled (struct k) e i = never i

-- ---- names at file scope

abbrev entity_known : (nodes : List ℕ) → Entity → Bool
entity_known nodes (local_variable node t) = true
entity_known nodes (file_variable node t) = is_one_of node nodes
entity_known nodes (contexts.function node signature body) = true
entity_known nodes (given signature) = true

-- the variables that names stand for are among these
abbrev names_known : (nodes : List ℕ) → List Binding → Bool
names_known nodes bs = list_all (λ (b : Binding). entity_known nodes b.entity) bs

abbrev AreKnown : (nodes : List ℕ) → Context → Type 0
AreKnown nodes c = names_known nodes (c.inner ++ c.outer) ≡ true

looked_up : (nodes : List ℕ) (bs : List Binding) (x : List ℕ) (entity : Entity) → names_known nodes bs ≡ true → lookup x bs ≡ Some entity
    → entity_known nodes entity ≡ true
looked_up nodes [] x entity h e = nothing entity e
looked_up nodes (b ∷ bs) x entity h e = go (λ f. looked_up nodes bs x entity (second_so (entity_known nodes b.entity) _ h) f) (same_bytes b.name x) e
  where
    go : (lookup x bs ≡ Some entity → entity_known nodes entity ≡ true) → (c : Bool) → (if c then Some b.entity else lookup x bs) ≡ Some entity
        → entity_known nodes entity ≡ true
    go later true e = subst (λ z. entity_known nodes z ≡ true) (same_Some b.entity entity e) (first_so _ _ h)
    go later false e = later e

tag_known : (nodes : List ℕ) (c : Context) (tag : List ℕ) → AreKnown nodes c → AreKnown nodes (with_tag c tag)
tag_known nodes c tag h = go (is_some (tag_place c tag))
  where
    go : (b : Bool) → AreKnown nodes (if b then c else with_new_tag c tag)
    go true = h
    go false = h

option_known : (nodes : List ℕ) (c : Context) (tag : Option (List ℕ)) → AreKnown nodes c → AreKnown nodes (with_option_tag c tag)
option_known nodes c None h = h
option_known nodes c (Some tag) h = tag_known nodes c tag h

base_known : (nodes : List ℕ) (c : Context) (b : Base) → AreKnown nodes c → AreKnown nodes (with_base_tag c b)
base_known nodes c bases.Void h = h
base_known nodes c bases.Int h = h
base_known nodes c bases.Unsigned h = h
base_known nodes c bases.Char h = h
base_known nodes c (bases.Struct tag) h = tag_known nodes c tag h
base_known nodes c (bases.Named x) h = h

type_names_known : (nodes : List ℕ) (c : Context) (base : Option TypeTree) (ds : List DeclaratorTree) → AreKnown nodes c → AreKnown nodes (after_type_names c base ds)
type_names_known nodes c base [] h = h
type_names_known nodes c base (d ∷ ds) h = type_names_known nodes (after_type_name c base d) base ds (go (is_type_name c d.name))
  where
    go : (b : Bool) → AreKnown nodes (if b then c else record c { type_names = add_type c.type_names d.name (type_name_declared c base d).type })
    go true = h
    go false = h

define_known : (nodes : List ℕ) (c : Context) (ms : List MemberTree) (o : Option ℕ) → AreKnown nodes c → AreKnown nodes (define_at c ms o)
define_known nodes c ms None h = h
define_known nodes c ms (Some k) h = go (has_no_members (slice_get c.structs k))
  where
    go : (b : Bool) → AreKnown nodes (if b then record c { structs = with_members (is_some (sized_layout (layout_of c.structs) (member_types ms))) c.structs k ms } else c)
    go true = h
    go false = h

struct_known : (nodes : List ℕ) (c : Context) (s : StructTree) → AreKnown nodes c → AreKnown nodes (after_struct c s)
struct_known nodes c s h =
    define_known nodes (with_option_tag c s.name) (after_members (with_option_tag c s.name) no_members s.members).members (option_place c s.name) (option_known nodes c s.name h)

defined_known : (nodes : List ℕ) (c : Context) (d : DefinedTree) → AreKnown nodes c → AreKnown nodes (after_defined c d)
defined_known nodes c (of_struct s) h = struct_known nodes c s h
defined_known nodes c (of_base b) h = base_known nodes c b h

function_entity_known : (nodes : List ℕ) (o : Option Entity) (node : ℕ) (s : Option Signature) (b : Bool) → entity_known nodes (declared_function o node s b) ≡ true
function_entity_known nodes None node s b = refl
function_entity_known nodes (Some (local_variable n t)) node s b = refl
function_entity_known nodes (Some (file_variable n t)) node s b = refl
function_entity_known nodes (Some (contexts.function n r earlier)) node s b = refl
function_entity_known nodes (Some (given r)) node s b = refl

abbrev are_listed : (nodes : List ℕ) → List VariableTree → Bool
are_listed nodes vs = list_all (λ n. is_one_of n nodes) (map (λ (v : VariableTree). v.declarator.node.id) vs)

variables_known : (nodes : List ℕ) (vs : List VariableTree) (c : Context) (base : Base) → are_listed nodes vs ≡ true → AreKnown nodes c
    → AreKnown nodes (after_variables true c base vs)
variables_known nodes [] c base l h = h
variables_known nodes (v ∷ vs) c base l h =
    variables_known nodes vs (after_variable true c base v) base (second_so (is_one_of v.declarator.node.id nodes) _ l)
    (and_from (is_one_of v.declarator.node.id nodes) _ (first_so _ _ l) h)

declaration_known : (nodes : List ℕ) (d : DeclTree) (ds : UnitTree) (c : Context) → list_all (λ n. is_one_of n nodes) (file_variables_in (d ∷ ds)) ≡ true → AreKnown nodes c
    → AreKnown nodes (after_declaration c d)
declaration_known nodes (structure s) ds c l h = struct_known nodes c s h
declaration_known nodes (forward f) ds c l h = tag_known nodes c f.name h
declaration_known nodes (typedef t) ds c l h = type_names_known nodes (after_defined c t.defined) (defined_type c t.defined) t.names (defined_known nodes c t.defined h)
declaration_known nodes (function f) ds c l h = and_from _ _ (function_entity_known nodes _ _ _ _) h
declaration_known nodes (variables d) ds c l h =
    variables_known nodes d.variables c d.base
    (all_left (λ n. is_one_of n nodes) (map (λ (v : VariableTree). v.declarator.node.id) d.variables) (file_variables_in ds) l) h

-- ---- how many blocks there are

zero_plus : (n : ℕ) → 0 + n ≡ n
zero_plus n = omega arith

variables_count : (s : Scope) (vs : List VariableTree) (base : Base) (bs : List StaticBlock) → file_variables_typed s base vs ≡ Some bs → length bs ≡ length vs
variables_count s [] base bs h = subst (λ z. length z ≡ 0) (same_Some [] bs h) refl
variables_count s (v ∷ vs) base bs h =
    let a = followed (file_variable_typed s base v) _ bs h in
    let b = followed (file_variables_typed (within s (after_variable true s.context base v)) base vs) _ bs a.then in
    subst (λ z. length z ≡ suc (length vs)) (same_Some (a.value ∷ b.value) bs b.then) (ap suc (variables_count (within s (after_variable true s.context base v)) vs base b.value b.first))

pub declarations_count : (s : Scope) (ds : UnitTree) (u : TypedProgram) → declarations_typed s ds ≡ Some u → length u.blocks ≡ length (file_variables_in ds)
declarations_count s [] u h = subst (λ (z : TypedProgram). length z.blocks ≡ 0) (same_Some _ u h) refl
declarations_count s (d ∷ ds) u h =
    let a = followed (declaration_typed s d) _ u h in
    let b = followed (declarations_typed (within s (after_declaration s.context d)) ds) _ u a.then in
    subst (λ (z : TypedProgram). length z.blocks ≡ length (file_variables_in (d ∷ ds))) (same_Some _ u b.then)
    (length-append a.value.blocks b.value.blocks ∙ counted d a.value b.value a.first
    (declarations_count (within s (after_declaration s.context d)) ds b.value b.first))
  where
    counted : (d : DeclTree) (now rest : TypedProgram) → declaration_typed s d ≡ Some now → length rest.blocks ≡ length (file_variables_in ds)
        → length now.blocks + length rest.blocks ≡ length (file_variables_in (d ∷ ds))
    counted (structure x) now rest h e =
        subst (λ (z : TypedProgram). length z.blocks + length rest.blocks ≡ length (file_variables_in ds)) (same_Some _ now h) (zero_plus (length rest.blocks) ∙ e)
    counted (forward x) now rest h e =
        subst (λ (z : TypedProgram). length z.blocks + length rest.blocks ≡ length (file_variables_in ds)) (same_Some _ now h) (zero_plus (length rest.blocks) ∙ e)
    counted (typedef x) now rest h e =
        subst (λ (z : TypedProgram). length z.blocks + length rest.blocks ≡ length (file_variables_in ds)) (same_Some _ now h) (zero_plus (length rest.blocks) ∙ e)
    counted (function f) now rest h e =
        let a = followed (function_typed s f f.body) _ now h in
        subst (λ (z : TypedProgram). length z.blocks + length rest.blocks ≡ length (file_variables_in ds)) (same_Some _ now a.then) (zero_plus (length rest.blocks) ∙ e)
    counted (variables d) now rest h e =
        let a = followed (file_variables_typed s d.base d.variables) _ now h in
        subst (λ (z : TypedProgram). length z.blocks + length rest.blocks ≡ length (file_variables_in (variables d ∷ ds))) (same_Some _ now a.then)
        (together (length a.value) (length d.variables) (length rest.blocks) (length (file_variables_in ds)) (variables_count s d.variables d.base a.value a.first) e
        ∙ sym (length-append (map (λ (v : VariableTree). v.declarator.node.id) d.variables) (file_variables_in ds)
        ∙ ap (λ n. n + length (file_variables_in ds)) (length-map d.variables (λ (v : VariableTree). v.declarator.node.id))))
      where
        together : (i j k l : ℕ) → i ≡ j → k ≡ l → i + k ≡ j + l
        together i j k l e f = omega arith

-- ---- cells

-- blocks with sound cells
abbrev BlocksSound : Memory → List StaticBlock → Type 0
BlocksSound m [] = Unit {0}
BlocksSound m (b ∷ bs) = Each (IsSoundCell m) b.cells × BlocksSound m bs

blocks_joined : (m : Memory) (xs ys : List StaticBlock) → BlocksSound m xs → BlocksSound m ys → BlocksSound m (xs ++ ys)
blocks_joined m [] ys h k = k
blocks_joined m (x ∷ xs) ys h k = (h.0, blocks_joined m xs ys h.1 k)

module _ (m : Memory) where
  abbrev CellsSound : Option (List Cell) → Type 0
  CellsSound None = Unit {0}
  CellsSound (Some cells) = Each (IsSoundCell m) cells

  then_sound : {A : Type 0} (o : Option A) (next : A → Option (List Cell)) → ((x : A) → o ≡ Some x → CellsSound (next x)) → CellsSound (o >>= next)
  then_sound None next h = tt
  then_sound (Some x) next h = h x refl

  bytes_sound : (bs : List ℕ) → list_all is_byte bs ≡ true → Each (IsSoundCell m) (map byte bs)
  bytes_sound [] e = tt
  bytes_sound (b ∷ bs) e = (small b (first_so _ _ e), bytes_sound bs (second_so (is_byte b) _ e))
    where
      small : (b : ℕ) → is_byte b ≡ true → b < 256
      small b e = grind (arith, nat_tests)

  text_cells_sound : (bs : List ℕ) → list_all is_byte bs ≡ true → Each (IsSoundCell m) (text_cells bs)
  text_cells_sound bs e = each_append (IsSoundCell m) (map byte bs) (byte 0 ∷ []) (bytes_sound bs e) (omega arith, tt)

  taken : (n : ℕ) (cells : List Cell) → Each (IsSoundCell m) cells → Each (IsSoundCell m) (take n cells)
  taken zero cells h = tt
  taken (suc n) [] h = tt
  taken (suc n) (c ∷ cells) h = (h.0, taken n cells h.1)

  dropped : (n : ℕ) (cells : List Cell) → Each (IsSoundCell m) cells → Each (IsSoundCell m) (drop n cells)
  dropped zero cells h = h
  dropped (suc n) [] h = tt
  dropped (suc n) (c ∷ cells) h = dropped n cells h.1

  written_over_sound : (cells : List Cell) (at : ℕ) (new : List Cell) → Each (IsSoundCell m) cells → Each (IsSoundCell m) new
      → Each (IsSoundCell m) (written_over cells at new)
  written_over_sound cells at new h k =
      each_append (IsSoundCell m) (take at cells) (new ++ drop (at + length new) cells) (taken at cells h)
      (each_append (IsSoundCell m) new (drop (at + length new) cells) k (dropped (at + length new) cells h))

  texts_sound : (ts : List TextBlock) → list_all consists_of_bytes ts ≡ true → BlocksSound m (map text_block ts)
  texts_sound [] e = tt
  texts_sound (t ∷ ts) e = (text_cells_sound t.bytes (first_so _ _ e), texts_sound ts (second_so (consists_of_bytes t) _ e))

  -- ---- the variables and texts of a unit, in a memory that has as many blocks

  module _ (s₀ : Scope) (long : length s₀.statics.variables + length s₀.statics.texts ≤ length m) where
    abbrev nodes : List ℕ
    nodes = s₀.statics.variables

    abbrev texts : List ℕ
    texts = s₀.statics.texts

    abbrev PointerSound : Option Pointer → Type 0
    PointerSound None = Unit {0}
    PointerSound (Some p) = IsSoundPointer m p

    block_sound : (k : ℕ) → k < length nodes + length texts → IsSoundPointer m (into k 0)
    block_sound k h = record { made = let l = long in omega arith; in_range = λ live. least (block_at m k).size }
      where
        least : (n : ℕ) → 0 ≤ n
        least n = omega arith

    entity_sound : (c : Context) (o : Option Entity) → ((entity : Entity) → o ≡ Some entity → entity_known nodes entity ≡ true) → PointerSound (entity_pointer (within s₀ c) o)
    entity_sound c None h = tt
    entity_sound c (Some (local_variable node t)) h = tt
    entity_sound c (Some (file_variable node t)) h = let l = placed_below node nodes (h (file_variable node t) refl) in block_sound (place_among node nodes) (omega arith)
    entity_sound c (Some (contexts.function node signature body)) h = tt
    entity_sound c (Some (given signature)) h = tt

    name_sound : (c : Context) → AreKnown nodes c → (x : List ℕ) → PointerSound (entity_pointer (within s₀ c) (entity_of c x))
    name_sound c k x = entity_sound c (entity_of c x) (λ entity e. looked_up nodes (c.inner ++ c.outer) x entity k e)

    named_sound : (c : Context) → AreKnown nodes c → (a : ExprTree) → PointerSound (named_pointer (within s₀ c) a)
    named_sound c k (expr node (trees.name x)) = name_sound c k x
    named_sound c k (expr node (trees.constant n b)) = tt
    named_sound c k (expr node (trees.text bytes)) = tt
    named_sound c k (expr node (trees.unary operator a)) = tt
    named_sound c k (expr node (trees.step operator a)) = tt
    named_sound c k (expr node (trees.cast n a)) = tt
    named_sound c k (expr node (trees.sizeof_type n)) = tt
    named_sound c k (expr node (trees.sizeof_expr a)) = tt
    named_sound c k (expr node (trees.binary operator a b)) = tt
    named_sound c k (expr node (trees.assign operator a b)) = tt
    named_sound c k (expr node (trees.conditional d a b)) = tt
    named_sound c k (expr node (trees.comma a b)) = tt
    named_sound c k (expr node (trees.subscript a b)) = tt
    named_sound c k (expr node (trees.member access a x)) = tt
    named_sound c k (expr node (trees.call g es)) = tt

    address_sound : (c : Context) → AreKnown nodes c → (e : ExprTree) → has_blocks texts e ≡ true → PointerSound (address_constant (within s₀ c) e)
    address_sound c k (expr node (trees.text bytes)) h =
        let l = placed_below node.id texts (first_so _ _ h) in block_sound (length nodes + place_among node.id texts) (omega arith)
    address_sound c k (expr node (trees.name x)) h = name_sound c k x
    address_sound c k (expr node (trees.unary unaries.Address a)) h = named_sound c k a
    address_sound c k (expr node (trees.unary unaries.Indirect a)) h = tt
    address_sound c k (expr node (trees.unary unaries.Plus a)) h = tt
    address_sound c k (expr node (trees.unary unaries.Minus a)) h = tt
    address_sound c k (expr node (trees.unary unaries.Complement a)) h = tt
    address_sound c k (expr node (trees.unary unaries.Not a)) h = tt
    address_sound c k (expr node (trees.constant n b)) h = tt
    address_sound c k (expr node (trees.step operator a)) h = tt
    address_sound c k (expr node (trees.cast n a)) h = tt
    address_sound c k (expr node (trees.sizeof_type n)) h = tt
    address_sound c k (expr node (trees.sizeof_expr a)) h = tt
    address_sound c k (expr node (trees.binary operator a b)) h = tt
    address_sound c k (expr node (trees.assign operator a b)) h = tt
    address_sound c k (expr node (trees.conditional d a b)) h = tt
    address_sound c k (expr node (trees.comma a b)) h = tt
    address_sound c k (expr node (trees.subscript a b)) h = tt
    address_sound c k (expr node (trees.member access a x)) h = tt
    address_sound c k (expr node (trees.call g es)) h = tt

    pointer_sound : (c : Context) → AreKnown nodes c → (e : ExprTree) → has_blocks texts e ≡ true → PointerSound (pointer_constant (within s₀ c) e)
    pointer_sound c k e h = go (is_null_constant e)
      where
        go : (b : Bool) → PointerSound (if b then Some null else address_constant (within s₀ c) e)
        go true = tt
        go false = address_sound c k e h

    constant_sound : (c : Context) → AreKnown nodes c → (t : TypeTree) (e : ExprTree) → (is_pointer t ≡ true → has_blocks texts e ≡ true)
        → CellsSound (constant_cells (within s₀ c) t e)
    constant_sound c k t e h = go (is_pointer t) refl
      where
        four : 0 + pointer_width ≤ 4
        four = omega arith

        go : (b : Bool) → is_pointer t ≡ b
            → CellsSound (if b then (pointer_constant (within s₀ c) e >>= λ p. Some (parts_of p 0 pointer_width))
            else (constant_of c e >>= λ n. Some (bytes_of (width (scalar_of t)) n)))
        go true i = then_sound (pointer_constant (within s₀ c) e) _ (λ p j. sound_parts m p 0 pointer_width (subst PointerSound j (pointer_sound c k e (h i))) four)
        go false i = then_sound (constant_of c e) _ (λ n j. sound_bytes m (width (scalar_of t)) n)

    abbrev PieceFine : Context → Piece → Type 0
    PieceFine c p = is_fine texts (record { context = c; expression = p.expression; fills_array = may_hold (Some p.type) p.expression }) ≡ true

    piece_sound : (c : Context) → AreKnown nodes c → (p : Piece) → PieceFine c p → CellsSound (piece_cells (within s₀ c) p)
    piece_sound c k p h = go (is_array p.type)
      where
        bytes_fine : list_all consists_of_bytes (expr_texts p.expression) ≡ true
        bytes_fine = first_so _ _ h

        placed : is_pointer p.type ≡ true → has_blocks texts p.expression ≡ true
        placed i = subst (λ b. (b || has_blocks texts p.expression) ≡ true) (pointer_not_filled p.type p.expression i)
            (second_so (list_all consists_of_bytes (expr_texts p.expression)) _ h)

        go : (b : Bool) → CellsSound (if b then (text_of p.expression >>= λ bytes. Some (take (length_in p.type) (text_cells bytes)))
            else constant_cells (within s₀ c) p.type p.expression)
        go true = then_sound (text_of p.expression) _ (λ bytes j. taken (length_in p.type) (text_cells bytes)
            (text_cells_sound bytes (text_bytes p.expression bytes j bytes_fine)))
        go false = constant_sound c k p.type p.expression placed

    abbrev PiecesFine : Context → List Piece → Type 0
    PiecesFine c [] = Unit {0}
    PiecesFine c (p ∷ ps) = PieceFine c p × PiecesFine c ps

    pieces_joined : (c : Context) (ps qs : List Piece) → PiecesFine c ps → PiecesFine c qs → PiecesFine c (ps ++ qs)
    pieces_joined c [] qs h k = k
    pieces_joined c (p ∷ ps) qs h k = (h.0, pieces_joined c ps qs h.1 k)

    over_sound : (c : Context) → AreKnown nodes c → (ps : List Piece) (cells : List Cell) → PiecesFine c ps → Each (IsSoundCell m) cells
        → CellsSound (pieces_over (within s₀ c) ps cells)
    over_sound c k [] cells fine h = h
    over_sound c k (p ∷ ps) cells fine h =
        then_sound (piece_cells (within s₀ c) p) _ (λ new j. over_sound c k ps (written_over cells p.offset new) fine.1
        (written_over_sound cells p.offset new h (subst CellsSound j (piece_sound c k p fine.0))))

    mutual
      pieces_fine : (c : Context) (i : InitialiserTree) (t : TypeTree) (offset : ℕ) (ps : List Piece)
          → list_all (is_fine texts) (initialiser_sites true c (Some t) i) ≡ true → pieces c.structs t offset i ≡ Some ps → PiecesFine c ps
      pieces_fine c (trees.value e) t offset ps h j = subst (PiecesFine c) (same_Some _ ps j) (first_so _ _ h, tt)
      pieces_fine c (trees.list node is) t offset ps h j = pieces_from_fine c is t offset 0 ps h j

      pieces_from_fine : (c : Context) (is : Initialisers) (t : TypeTree) (offset i : ℕ) (ps : List Piece)
          → list_all (is_fine texts) (elements_sites true c (Some t) i is) ≡ true → pieces_from c.structs t offset i is ≡ Some ps → PiecesFine c ps
      pieces_from_fine c no_initialisers t offset i ps h j = subst (PiecesFine c) (same_Some [] ps j) tt
      pieces_from_fine c (initialiser_and first rest) t offset i ps h j =
          let u = followed (part_type c.structs t i) _ ps j in
          let at = followed (part_offset c.structs t i) _ ps u.then in
          let now = followed (pieces c.structs u.value (offset + at.value) first) _ ps at.then in
          let later = followed (pieces_from c.structs t offset (i + 1) rest) _ ps now.then in
          subst (PiecesFine c) (same_Some (now.value ++ later.value) ps later.then)
          (pieces_joined c now.value later.value
          (pieces_fine c first u.value (offset + at.value) now.value
          (subst (λ o. list_all (is_fine texts) (initialiser_sites true c o first) ≡ true) u.first
          (all_left (is_fine texts) (initialiser_sites true c (part_type c.structs t i) first) (elements_sites true c (Some t) (i + 1) rest) h)) now.first)
          (pieces_from_fine c rest t offset (i + 1) later.value
          (all_right (is_fine texts) (initialiser_sites true c (part_type c.structs t i) first) (elements_sites true c (Some t) (i + 1) rest) h) later.first))

    initial_sound : (c : Context) → AreKnown nodes c → (t : TypeTree) (i : Option InitialiserTree) → list_all (is_fine texts) (option_initialiser_sites true c (Some t) i) ≡ true
        → CellsSound (initial_cells (within s₀ c) t i)
    initial_sound c k t None h = then_sound (blank_of c.structs t) _ (λ b j. sound_blank m b)
    initial_sound c k t (Some i) h =
        then_sound (blank_of c.structs t) _ (λ b j. then_sound (pieces c.structs t 0 i) _ (λ ps l.
        over_sound c k ps (blank_cells b) (pieces_fine c i t 0 ps h l) (sound_blank m b)))

    variable_sound : (c : Context) (base : Base) (v : VariableTree) → AreKnown nodes (after_variable true c base v)
        → list_all (is_fine texts) (variable_sites true c (after_variable true c base v) base v) ≡ true
        → (b : StaticBlock) → file_variable_typed (within s₀ c) base v ≡ Some b → Each (IsSoundCell m) b.cells
    variable_sound c base v k h b j =
        let t = followed (variable_declared c base v).type _ b j in
        let cells = followed (initial_cells (within s₀ (after_variable true c base v)) t.value v.initialiser) _ b t.then in
        subst (λ (z : StaticBlock). Each (IsSoundCell m) z.cells) (same_Some _ b cells.then)
        (subst CellsSound cells.first (initial_sound (after_variable true c base v) k t.value v.initialiser
        (subst (λ o. list_all (is_fine texts) (option_initialiser_sites true (after_variable true c base v) o v.initialiser) ≡ true) t.first
        (all_right (is_fine texts) (declarator_sites c v.declarator)
        (option_initialiser_sites true (after_variable true c base v) (variable_declared c base v).type v.initialiser) h))))

    variables_sound : (vs : List VariableTree) (c : Context) (base : Base) → are_listed nodes vs ≡ true → AreKnown nodes c
        → list_all (is_fine texts) (variables_sites true c base vs) ≡ true
        → (bs : List StaticBlock) → file_variables_typed (within s₀ c) base vs ≡ Some bs → BlocksSound m bs
    variables_sound [] c base l k h bs j = subst (BlocksSound m) (same_Some [] bs j) tt
    variables_sound (v ∷ vs) c base l k h bs j =
        let after = after_variable true c base v in
        let here = variable_sites true c after base v in
        let rest = variables_sites true after base vs in
        let known : AreKnown nodes after = and_from (is_one_of v.declarator.node.id nodes) _ (first_so _ _ l) k in
        let a = followed (file_variable_typed (within s₀ c) base v) _ bs j in
        let b = followed (file_variables_typed (within s₀ after) base vs) _ bs a.then in
        subst (BlocksSound m) (same_Some (a.value ∷ b.value) bs b.then) (
          variable_sound c base v known (all_left (is_fine texts) here rest h) a.value a.first,
          variables_sound vs after base (second_so (is_one_of v.declarator.node.id nodes) _ l) known (all_right (is_fine texts) here rest h) b.value b.first,
        )

    declaration_sound : (d : DeclTree) (c : Context) → list_all (λ n. is_one_of n nodes) (file_variables_in (d ∷ [])) ≡ true → AreKnown nodes c
        → list_all (is_fine texts) (declaration_sites c d) ≡ true
        → (u : TypedProgram) → declaration_typed (within s₀ c) d ≡ Some u → BlocksSound m u.blocks
    declaration_sound (structure x) c l k h u j = subst (λ (z : TypedProgram). BlocksSound m z.blocks) (same_Some _ u j) tt
    declaration_sound (forward x) c l k h u j = subst (λ (z : TypedProgram). BlocksSound m z.blocks) (same_Some _ u j) tt
    declaration_sound (typedef x) c l k h u j = subst (λ (z : TypedProgram). BlocksSound m z.blocks) (same_Some _ u j) tt
    declaration_sound (function f) c l k h u j =
        let a = followed (function_typed (within s₀ c) f f.body) _ u j in
        subst (λ (z : TypedProgram). BlocksSound m z.blocks) (same_Some _ u a.then) tt
    declaration_sound (variables d) c l k h u j =
        let a = followed (file_variables_typed (within s₀ c) d.base d.variables) _ u j in
        subst (λ (z : TypedProgram). BlocksSound m z.blocks) (same_Some _ u a.then)
        (variables_sound d.variables c d.base (all_left (λ n. is_one_of n nodes) (map (λ (v : VariableTree). v.declarator.node.id) d.variables) [] l) k h a.value a.first)

    declarations_sound : (ds : UnitTree) (c : Context) → list_all (λ n. is_one_of n nodes) (file_variables_in ds) ≡ true → AreKnown nodes c
        → list_all (is_fine texts) (declarations_sites c ds) ≡ true
        → (u : TypedProgram) → declarations_typed (within s₀ c) ds ≡ Some u → BlocksSound m u.blocks
    declarations_sound [] c l k h u j = subst (λ (z : TypedProgram). BlocksSound m z.blocks) (same_Some _ u j) tt
    declarations_sound (d ∷ ds) c l k h u j =
        let after = after_declaration c d in
        let a = followed (declaration_typed (within s₀ c) d) _ u j in
        let b = followed (declarations_typed (within s₀ after) ds) _ u a.then in
        let parts = split d l in
        subst (λ (z : TypedProgram). BlocksSound m z.blocks) (same_Some _ u b.then)
        (blocks_joined m a.value.blocks b.value.blocks
        (declaration_sound d c parts.0 k (all_left (is_fine texts) (declaration_sites c d) (declarations_sites after ds) h) a.value a.first)
        (declarations_sound ds after parts.1 (declaration_known nodes d ds c l k)
        (all_right (is_fine texts) (declaration_sites c d) (declarations_sites after ds) h) b.value b.first))
      where
        listed : List ℕ → Bool
        listed ns = list_all (λ n. is_one_of n nodes) ns

        split : (d : DeclTree) → listed (file_variables_in (d ∷ ds)) ≡ true → (listed (file_variables_in (d ∷ [])) ≡ true) × (listed (file_variables_in ds) ≡ true)
        split (structure x) l = (refl, l)
        split (forward x) l = (refl, l)
        split (typedef x) l = (refl, l)
        split (function f) l = (refl, l)
        split (variables d) l =
            let ns = map (λ (v : VariableTree). v.declarator.node.id) d.variables in (
              list_all-append (λ n. is_one_of n nodes) ns [] ∙ and_from _ _ (all_left (λ n. is_one_of n nodes) ns (file_variables_in ds) l) refl,
              all_right (λ n. is_one_of n nodes) ns (file_variables_in ds) l,
            )

-- ---- the memory

at_index : (P : Cell → Type 0) (cells : List Cell) (i : ℕ) → Each P cells → i < length cells → P (slice_index_or cells i unset)
at_index P [] i each h = absurd (omega arith)
at_index P (c ∷ cells) zero each h = each.0
at_index P (c ∷ cells) (suc i) each h = at_index P cells i each.1 (omega arith)

blocks_at : (m : Memory) (bs : List StaticBlock) → BlocksSound m bs → (b offset : ℕ) → b < length bs → offset < (block_at (map block_of bs) b).size
    → IsSoundCell m ((block_at (map block_of bs) b).cells offset)
blocks_at m [] h b offset l o = absurd (omega arith)
blocks_at m (x ∷ xs) h zero offset l o = at_index (IsSoundCell m) x.cells offset h.0 o
blocks_at m (x ∷ xs) h (suc b) offset l o = blocks_at m xs h.1 b offset (omega arith) o

pub initial_memory_is_sound : InitialMemoryIsSound
initial_memory_is_sound unit u bytes typed =
    let d = followed (declarations_typed (start_scope unit) unit) _ u typed in
    subst (λ (z : TypedProgram). IsSound (initial_memory z)) (same_Some _ u d.then) (sound d.value d.first)
  where
    sound : (d : TypedProgram) → declarations_typed (start_scope unit) unit ≡ Some d → IsSound (map block_of (d.blocks ++ map text_block (literal_blocks unit)))
    sound d e = record {
      cells = λ block offset live h.
          blocks_at m blocks all block offset (let l = live_known m block live in let n = length-map blocks block_of in omega arith) h;
    }
      where
        blocks : List StaticBlock
        blocks = d.blocks ++ map text_block (literal_blocks unit)

        m : Memory
        m = map block_of blocks

        s₀ : Scope
        s₀ = start_scope unit

        count : length m ≡ length d.blocks + length (literal_blocks unit)
        count = length-map blocks block_of ∙ (length-append d.blocks (map text_block (literal_blocks unit))
            ∙ ap (λ n. length d.blocks + n) (length-map (literal_blocks unit) text_block))

        long : length s₀.statics.variables + length s₀.statics.texts ≤ length m
        long =
            let c = count in
            let v = declarations_count s₀ unit d e in
            let t = length-map (literal_blocks unit) (λ (t : TextBlock). t.node) in
            omega arith

        all : BlocksSound m blocks
        all = blocks_joined m d.blocks (map text_block (literal_blocks unit))
            (declarations_sound m s₀ long unit start_context (among (file_variables_in unit) (file_variables_in unit) (λ n f. f)) refl
            (fine_sites s₀.statics.texts (unit_sites unit) bytes (λ n f. f)) d e)
            (texts_sound m (literal_blocks unit) (literal_bytes (unit_sites unit) bytes))
