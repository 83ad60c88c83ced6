-- The blocks that are there when a run begins hold bytes and whole pointers, have the sizes that are counted of them, and none is larger
-- than a type may be.
use Rattle.std.proofs.Common.{◌≡◌, ℕ, ◌+◌, nat_le, Bool, true, false, List, [], ◌∷◌, ◌++◌, length, map, All, Option, Some, None, is_some, refl, sym, ap, ◌∙◌, subst, arith, if◌then◌else◌, le-leb}
use Rattle.std.specs.List.{list_all}
use Rattle.std.proofs.lemmas.List.{length-append, length-map, map-append}
use Rattle.std.proofs.lemmas.List.Elements.{All-nil, All-cons}
use Rattle.std.proofs.lemmas.Bool.{and_from}
use Rattle.std.specs.Cmp.{first_so, second_so}
use Rattle.std.proofs.lemmas.Option.{same_Some}
use Rattle.qs_syntax.specs.declared.types.Base.{Base}
use Rattle.qs_syntax.specs.Trees.{InitialiserTree, VariableTree, DeclTree, structure, forward, function, variables, UnitTree, typedef}
use Rattle.qs_syntax.specs.Trees as trees
use Rattle.qs_memory.specs.Memory.{Cell, byte, BlankTree, blank_cells}
use Rattle.qs_memory.specs.Sizes.{largest_size}
use Rattle.qs_memory.proofs.Options.{followed}
use Rattle.qs_types.specs.Types.{TypeTree, Structs}
use Rattle.qs_types.specs.Layout.{defined_structs}
use Rattle.qs_types.specs.Rules.{keeps, breaks_one, faults_of}
use Rattle.qs_types.specs.declared.rules.Rule.TheVariants as rules
use Rattle.qs_types.specs.Contexts.{Context, start_context}
use Rattle.qs_types.specs.ExpressionFaults.{whole}
use Rattle.qs_types.specs.Declarations.{lengths_faults, variable_declared}
use Rattle.qs_types.specs.InitialiserRules.{element_fits, initialiser_faults, is_typed, initialiser_tests}
use Rattle.qs_types.specs.InitialiserRules as initialising
use Rattle.qs_types.specs.StatementRules.{after_variable, after_variables, again_tests, variable_tests, variable_faults, option_initialiser_faults, variables_faults}
use Rattle.qs_types.specs.UnitRules.{after_declaration, declaration_faults, declarations_faults}
use Rattle.qs_types.specs.References.{TextBlock, literal_blocks}
use Rattle.qs_types.specs.Limits.{Block, type_size, variables_blocks, variable_blocks_from, data_blocks, IsWithinLimits}
use Rattle.qs_types.specs.Limits as counted
use Rattle.qs_types.specs.WellTyped.{WellTyped}
use Rattle.qs_meaning.specs.Typed.{StaticBlock, TypedProgram}
use Rattle.qs_meaning.specs.Names.{Scope, within}
use Rattle.qs_meaning.specs.Blanks.{blank_of}
use Rattle.qs_meaning.specs.Initialisers.{pieces}
use Rattle.qs_meaning.specs.InitialValues.{text_cells, initial_cells, variable_block, text_block}
use Rattle.qs_meaning.specs.Units.{function_typed, file_variable_typed, file_variables_typed, declaration_typed, declarations_typed, start_scope, typed_of}
use Rattle.qs_meaning.specs.Fits.{are_small}
use Rattle.qs_meaning.specs.FitLaws.{is_filled, variables_filled, declaration_filled, IsAsRead}
use Rattle.qs_meaning.specs.TypedLaws.{IsFileScope}
use Rattle.qs_meaning.specs.Whole.{AreWhole, TypedDataIsWhole}
use Rattle.qs_meaning.proofs.Options.{never, nothing}
use Rattle.qs_meaning.proofs.FaultlessExpressions.{HasTypes, none_left, none_right, unbroken, second_unbroken, type_of_known}
use Rattle.qs_meaning.proofs.Bindings.{has_types}
use Rattle.qs_meaning.proofs.Bodies.{not_held_back}
use Rattle.qs_meaning.proofs.FunctionsTyped.{file_sound}
use Rattle.qs_meaning.proofs.UnitsTyped.{start_known}
use Rattle.qs_meaning.proofs.FitTypes.{SmallTable, size_room, SmallNames}
use Rattle.qs_meaning.proofs.FitLeaves.{is_short}
use Rattle.qs_meaning.proofs.FitDeclarations.{SizedType, variable_small}
use Rattle.qs_meaning.proofs.DeclaredSizes.{declared_size}
use Rattle.qs_meaning.proofs.FitTables.{tag_after, struct_after, typedef_after}
use Rattle.qs_meaning.proofs.FitSignatures.{file_after, variable_after}
use Rattle.qs_meaning.proofs.FitSites.{literals_short}
use Rattle.qs_meaning.proofs.FitData.{shape_width, over_there, pieces_written}
use Rattle.qs_meaning.proofs.Shapes.{bytes, shape_of, Conforms, are_whole, conforms_length, blank_conforms, text_conforms, whole_part}
use Rattle.qs_meaning.proofs.FitLocals.{variables_named}

-- ---- blocks

-- a block of this size that holds whole cells, and isn't too large
pub record IsGood (size : ℕ) (b : StaticBlock) : Type 0 where
  pub whole : AreWhole b.cells
  pub small : nat_le (length b.cells) largest_size ≡ true
  pub exact : length b.cells ≡ size

abbrev pub AreGood : (sizes : List ℕ) → List StaticBlock → Type 0
AreGood [] [] = Unit {0}
AreGood [] (b ∷ bs) = ⊥
AreGood (n ∷ ns) [] = ⊥
AreGood (n ∷ ns) (b ∷ bs) = IsGood n b × AreGood ns bs

good_both : (ns ms : List ℕ) (xs ys : List StaticBlock) → AreGood ns xs → AreGood ms ys → AreGood (ns ++ ms) (xs ++ ys)
good_both [] ms [] ys h k = k
good_both [] ms (x ∷ xs) ys h k = absurd h
good_both (n ∷ ns) ms [] ys h k = absurd h
good_both (n ∷ ns) ms (x ∷ xs) ys h k = (h.0, good_both ns ms xs ys h.1 k)

all_whole : (ns : List ℕ) (bs : List StaticBlock) → AreGood ns bs → All (λ (b : StaticBlock). AreWhole b.cells) bs
all_whole [] [] h = All-nil (λ (b : StaticBlock). AreWhole b.cells)
all_whole [] (b ∷ bs) h = absurd h
all_whole (n ∷ ns) [] h = absurd h
all_whole (n ∷ ns) (b ∷ bs) h = All-cons (λ (b : StaticBlock). AreWhole b.cells) b bs h.0.whole (all_whole ns bs h.1)

all_small : (ns : List ℕ) (bs : List StaticBlock) → AreGood ns bs → are_small (map (λ (b : StaticBlock). length b.cells) bs) ≡ true
all_small [] [] h = refl
all_small [] (b ∷ bs) h = absurd h
all_small (n ∷ ns) [] h = absurd h
all_small (n ∷ ns) (b ∷ bs) h = and_from _ _ h.0.small (all_small ns bs h.1)

pub all_exact : (ns : List ℕ) (bs : List StaticBlock) → AreGood ns bs → map (λ (b : StaticBlock). length b.cells) bs ≡ ns
all_exact [] [] h = refl
all_exact [] (b ∷ bs) h = absurd h
all_exact (n ∷ ns) [] h = absurd h
all_exact (n ∷ ns) (b ∷ bs) h = ap (λ m. m ∷ map (λ (b : StaticBlock). length b.cells) bs) h.0.exact ∙ ap (λ ms. n ∷ ms) (all_exact ns bs h.1)

abbrev sizes_of : List Block → List ℕ
sizes_of bs = map (λ (b : Block). b.size) bs

-- ---- texts

texts_good : (ts : List TextBlock) → list_all is_short ts ≡ true → AreGood (sizes_of (map counted.text_block ts)) (map text_block ts)
texts_good [] e = tt
texts_good (t ∷ ts) e = (
  record {
    whole = are_whole (bytes (length t.bytes + 1)) (text_cells t.bytes) (text_conforms t.bytes);
    small = subst (λ n. nat_le n largest_size ≡ true) (sym (text_length t.bytes)) (first_so _ _ e);
    exact = text_length t.bytes;
  },
  texts_good ts (second_so (is_short t) _ e),
)
  where
    text_length : (bs : List ℕ) → length (text_cells bs) ≡ length bs + 1
    text_length bs = length-append (map byte bs) (byte 0 ∷ []) ∙ ap (λ n. n + 1) (length-map bs byte)

-- ---- variables

-- cells of the shape of the type's blank
record Shaped (structs : Structs) (t : TypeTree) (cells : List Cell) : Type 0 where
  blank : BlankTree
  is : blank_of structs t ≡ Some blank
  conforms : Conforms (shape_of blank) cells

module _ (s₀ : Scope) where
  block_good : (c : Context) → HasTypes c → SmallTable c.structs → (t : TypeTree) → (d : SizedType c.structs t) → (init : Option InitialiserTree) (b : StaticBlock)
      → breaks_one (initialiser_tests true c (Some t) init) ≡ false → option_initialiser_faults true c (Some t) init ≡ [] → variable_block (within s₀ c) t init ≡ Some b → IsGood d.size b
  block_good c has table t d init b tests faults q =
      let cells = followed (initial_cells (within s₀ c) t init) _ b q in
      subst (λ z. IsGood d.size z) (same_Some _ b cells.then) (good cells.value (go init tests faults cells.value cells.first))
    where
      good : (cells : List Cell) → Shaped c.structs t cells → IsGood d.size (record { cells = cells; writable = true })
      good cells h =
          let size = conforms_length (shape_of h.blank) cells h.conforms ∙ shape_width c.structs (defined_structs c.structs) t h.blank d.size h.is d.is in
          let most = (size_room c.structs table t d.small d.size d.is).most in
          record { whole = are_whole (shape_of h.blank) cells h.conforms; small = le-leb (length cells) largest_size (omega arith); exact = size }

      has_type : (i : InitialiserTree) → initialiser_faults true c (Some t) i ≡ [] → is_typed c i ≡ true
      has_type (trees.value e) f = ap is_some (type_of_known c has e whole f).is
      has_type (trees.list node is) f = refl

      kept_fit : (b fit : Bool) → b ≡ true → breaks_one (if b then keeps rules.InitialiserType fit else []) ≡ false → fit ≡ true
      kept_fit true true e f = refl
      kept_fit true false e f = never (sym f)
      kept_fit false fit e f = never e

      as_element : (i : InitialiserTree) → initialising.fits true c t i ≡ true → element_fits true c (Some t) i ≡ true
      as_element (trees.value e) k = k
      as_element (trees.list node is) k = k

      go : (init : Option InitialiserTree) → breaks_one (initialiser_tests true c (Some t) init) ≡ false → option_initialiser_faults true c (Some t) init ≡ [] → (cells : List Cell)
          → initial_cells (within s₀ c) t init ≡ Some cells → Shaped c.structs t cells
      go None tests faults cells q =
          let b = followed (blank_of c.structs t) _ cells q in
          record { blank = b.value; is = b.first; conforms = subst (λ z. Conforms (shape_of b.value) z) (same_Some _ cells b.then) (blank_conforms b.value) }
      go (Some i) tests faults cells q =
          let b = followed (blank_of c.structs t) _ cells q in
          let ps = followed (pieces c.structs t 0 i) _ cells b.then in
          let shape = shape_of b.value in
          record {
            blank = b.value;
            is = b.first;
            conforms = over_there (within s₀ c) has shape ps.value (blank_cells b.value) cells
                (pieces_written (within s₀ c) has shape i (defined_structs c.structs) t 0 b.value ps.value b.first (whole_part shape)
                (as_element i (kept_fit (is_typed c i) _ (has_type i faults) tests)) faults ps.first)
                (blank_conforms b.value) ps.then;
          }

  variables_good : (vs : List VariableTree) (c : Context) (base : Base) (bs : List StaticBlock) → IsFileScope c → SmallTable c.structs → SmallNames c.structs c.type_names → variables_faults true c base vs ≡ []
      → variables_filled vs ≡ true → file_variables_typed (within s₀ c) base vs ≡ Some bs → AreGood (sizes_of (variables_blocks c base vs)) bs
  variables_good [] c base bs h table named f filled q = subst (λ z. AreGood [] z) (same_Some [] bs q) tt
  variables_good (v ∷ vs) c base bs h table named f filled q =
      let after = after_variable true c base v in
      let now = followed (file_variable_typed (within s₀ c) base v) _ bs q in
      let later = followed (file_variables_typed (within s₀ after) base vs) _ bs now.then in
      let t = followed (variable_declared c base v).type _ now.value now.first in
      let own = none_left (variable_faults true c after base v) (variables_faults true after base vs) f in
      let tests = variable_tests true c after base v in
      let parts = none_right (faults_of v.declarator.node.id tests)
      (lengths_faults c v.declarator.lengths.given ++ option_initialiser_faults true after (variable_declared c base v).type v.initialiser) own in
      let initialiser = none_right (lengths_faults c v.declarator.lengths.given) (option_initialiser_faults true after (variable_declared c base v).type v.initialiser) parts in
      let whole_tests = ap (λ b. breaks_one (if b then [] else again_tests true c v ++
      ((variable_declared c base v).tests ++ initialiser_tests true after (variable_declared c base v).type v.initialiser)))
      (sym (not_held_back true after (variable_declared c base v).type v.initialiser initialiser))
      ∙ unbroken v.declarator.node.id tests (none_left (faults_of v.declarator.node.id tests) _ own) in
      let own_tests = second_unbroken (variable_declared c base v).tests (initialiser_tests true after (variable_declared c base v).type v.initialiser)
      (second_unbroken (again_tests true c v) ((variable_declared c base v).tests ++ initialiser_tests true after (variable_declared c base v).type v.initialiser) whole_tests) in
      let scope = variable_after s₀ c base v h own in
      let sized = variable_small c named base v t.value (first_so _ _ filled) t.first in
      let here = block_good after (has_types (within s₀ after) [] (file_sound s₀ after [] scope)) table t.value sized v.initialiser now.value
      (subst (λ o. breaks_one (initialiser_tests true after o v.initialiser) ≡ false) t.first own_tests)
      (subst (λ o. option_initialiser_faults true after o v.initialiser ≡ []) t.first initialiser) t.then in
      let counted_size = ap (type_size c.structs) t.first ∙ declared_size c.structs table t.value sized.small sized.size sized.is in
      subst (λ z. AreGood (sizes_of (variables_blocks c base (v ∷ vs))) z) (same_Some _ bs later.then) (
        subst (λ n. IsGood n now.value) (sym counted_size) here,
        variables_good vs after base later.value scope table named
            (none_right (variable_faults true c after base v) (variables_faults true after base vs) f) (second_so (is_filled v.initialiser) _ filled) later.first,
      )

  -- ---- declarations

  pub table_after : (d : DeclTree) (c : Context) → IsFileScope c → SmallTable c.structs → SmallNames c.structs c.type_names → declaration_faults c d ≡ [] → declaration_filled d ≡ true
      → SmallTable (after_declaration c d).structs
  table_after (structure t) c h table named f filled = (struct_after s₀ c t h table named filled f).table
  table_after (forward t) c h table named f filled = (tag_after c t.name h table).table
  table_after (typedef t) c h table named f filled = (typedef_after s₀ c t h table named filled f).table
  table_after (function g) c h table named f filled = table
  table_after (variables d) c h table named f filled = subst SmallTable (sym (same_structs d.variables c d.base)) table
    where
      same_structs : (vs : List VariableTree) (c : Context) (base : Base) → (after_variables true c base vs).structs ≡ c.structs
      same_structs [] c base = refl
      same_structs (v ∷ vs) c base = same_structs vs (after_variable true c base v) base

  pub named_after : (d : DeclTree) (c : Context) → IsFileScope c → SmallTable c.structs → SmallNames c.structs c.type_names → declaration_faults c d ≡ [] → declaration_filled d ≡ true
      → SmallNames (after_declaration c d).structs (after_declaration c d).type_names
  named_after (structure t) c h table named f filled = (struct_after s₀ c t h table named filled f).named named
  named_after (forward t) c h table named f filled = (tag_after c t.name h table).named named
  named_after (typedef t) c h table named f filled = (typedef_after s₀ c t h table named filled f).named named
  named_after (function g) c h table named f filled = named
  named_after (variables d) c h table named f filled = variables_named true d.base d.variables c named

  -- the sizes of the blocks that a declaration makes
  abbrev declared_sizes : Context → DeclTree → List ℕ
  declared_sizes c (structure t) = []
  declared_sizes c (forward t) = []
  declared_sizes c (typedef t) = []
  declared_sizes c (function g) = []
  declared_sizes c (variables d) = sizes_of (variables_blocks c d.base d.variables)

  sizes_joined : (d : DeclTree) (ds : UnitTree) (c : Context)
      → declared_sizes c d ++ sizes_of (variable_blocks_from (after_declaration c d) ds) ≡ sizes_of (variable_blocks_from c (d ∷ ds))
  sizes_joined (structure t) ds c = refl
  sizes_joined (forward t) ds c = refl
  sizes_joined (typedef t) ds c = refl
  sizes_joined (function g) ds c = refl
  sizes_joined (variables d) ds c = sym (map-append (λ (b : Block). b.size) (variables_blocks c d.base d.variables) (variable_blocks_from (after_declaration c (variables d)) ds))

  declaration_good : (d : DeclTree) (c : Context) (now : TypedProgram) → IsFileScope c → SmallTable c.structs → SmallNames c.structs c.type_names → declaration_faults c d ≡ [] → declaration_filled d ≡ true
      → declaration_typed (within s₀ c) d ≡ Some now → AreGood (declared_sizes c d) now.blocks
  declaration_good (structure t) c now h table named f filled q = subst (λ (z : TypedProgram). AreGood [] z.blocks) (same_Some _ now q) tt
  declaration_good (forward t) c now h table named f filled q = subst (λ (z : TypedProgram). AreGood [] z.blocks) (same_Some _ now q) tt
  declaration_good (typedef t) c now h table named f filled q = subst (λ (z : TypedProgram). AreGood [] z.blocks) (same_Some _ now q) tt
  declaration_good (function g) c now h table named f filled q =
      let fs = followed (function_typed (within s₀ c) g g.body) _ now q in subst (λ (z : TypedProgram). AreGood [] z.blocks) (same_Some _ now fs.then) tt
  declaration_good (variables d) c now h table named f filled q =
      let bs = followed (file_variables_typed (within s₀ c) d.base d.variables) _ now q in
      subst (λ (z : TypedProgram). AreGood (sizes_of (variables_blocks c d.base d.variables)) z.blocks) (same_Some _ now bs.then)
      (variables_good d.variables c d.base bs.value h table named f filled bs.first)

  declarations_good : (ds : UnitTree) (c : Context) (rest : TypedProgram) → IsFileScope c → SmallTable c.structs → SmallNames c.structs c.type_names → declarations_faults c ds ≡ [] → list_all declaration_filled ds ≡ true
      → declarations_typed (within s₀ c) ds ≡ Some rest → AreGood (sizes_of (variable_blocks_from c ds)) rest.blocks
  declarations_good [] c rest h table named f filled q = subst (λ (z : TypedProgram). AreGood [] z.blocks) (same_Some _ rest q) tt
  declarations_good (d ∷ ds) c rest h table named f filled q =
      let after = after_declaration c d in
      let now = followed (declaration_typed (within s₀ c) d) _ rest q in
      let later = followed (declarations_typed (within s₀ after) ds) _ rest now.then in
      let own = none_left (declaration_faults c d) (declarations_faults after ds) f in
      let all = good_both (declared_sizes c d) (sizes_of (variable_blocks_from after ds)) now.value.blocks later.value.blocks
      (declaration_good d c now.value h table named own (first_so _ _ filled) now.first)
      (declarations_good ds after later.value (file_after s₀ c d h own) (table_after d c h table named own (first_so _ _ filled)) (named_after d c h table named own (first_so _ _ filled))
      (none_right (declaration_faults c d) (declarations_faults after ds) f) (second_so (declaration_filled d) _ filled) later.first) in
      subst (λ (z : TypedProgram). AreGood (sizes_of (variable_blocks_from c (d ∷ ds))) z.blocks) (same_Some _ rest later.then)
      (subst (λ ns. AreGood ns (now.value.blocks ++ later.value.blocks)) (sizes_joined d ds c) all)

-- the table of a unit's structs is empty at its begin
pub start_small : SmallTable start_context.structs
start_small = record { members = λ k ms e. nothing ms e; sizes = λ k l e. nothing l e }

pub start_named : SmallNames start_context.structs start_context.type_names
start_named = record { each = λ x t e. nothing t e }

-- the blocks of a unit are as many bytes as are counted
pub typed_data_is_good : (unit : UnitTree) (u : TypedProgram) → IsAsRead unit → WellTyped unit → IsWithinLimits unit → typed_of unit ≡ Some u
    → AreGood (sizes_of (data_blocks unit)) u.blocks
typed_data_is_good unit u read well limits e =
    let d = followed (declarations_typed (start_scope unit) unit) _ u e in
    let blocks = variable_blocks_from start_context unit in
    let texts = map counted.text_block (literal_blocks unit) in
    let all = good_both (sizes_of blocks) (sizes_of texts) d.value.blocks (map text_block (literal_blocks unit))
    (declarations_good (start_scope unit) unit start_context d.value start_known start_small start_named well.keeps_rules read.lists d.first)
    (texts_good (literal_blocks unit) (literals_short unit limits.globals)) in
    subst (λ (z : TypedProgram). AreGood (sizes_of (data_blocks unit)) z.blocks) (same_Some _ u d.then)
    (subst (λ ns. AreGood ns (d.value.blocks ++ map text_block (literal_blocks unit))) (sym (map-append (λ (b : Block). b.size) blocks texts)) all)

pub typed_data_is_whole : TypedDataIsWhole
typed_data_is_whole unit u read well limits e =
    let good = typed_data_is_good unit u read well limits e in
    record { whole = all_whole (sizes_of (data_blocks unit)) u.blocks good; small = all_small (sizes_of (data_blocks unit)) u.blocks good }
