-- What initialises a local counts at most the nodes of the initialiser and one.
use Rattle.std.proofs.Common.{◌≡◌, ◌≤◌, ℕ, ◌+◌, Bool, true, false, ◌&&◌, ◌||◌, List, [], ◌∷◌, ◌++◌, Some, is_some, refl, sym, ap, subst, arith, if◌then◌else◌}
use Rattle.std.proofs.lemmas.Bool.{and_from}
use Rattle.std.specs.Cmp.{first_so, second_so}
use Rattle.std.proofs.lemmas.Option.{same_Some}
use Rattle.qs_syntax.specs.Trees.{ExprTree, InitialiserTree, Initialisers, no_initialisers, initialiser_and}
use Rattle.qs_syntax.specs.Trees as trees
use Rattle.qs_syntax.specs.Nodes.{expr_count, initialiser_count, initialisers_count}
use Rattle.qs_memory.proofs.Options.{followed}
use Rattle.qs_types.specs.Types.{TypeTree, int, unsigned, char, void, pointer, array, struct, is_array, is_struct, same_type, Structs}
use Rattle.qs_types.specs.Conversions.{decayed}
use Rattle.qs_types.specs.Rules.{keeps, breaks_one, faults_of}
use Rattle.qs_types.specs.declared.rules.Rule.TheVariants as rules
use Rattle.qs_types.specs.Contexts.{Context}
use Rattle.qs_types.specs.Expressions.{type_of, is_lvalue, is_assignable}
use Rattle.qs_types.specs.Declarations.{text_of}
use Rattle.qs_types.specs.InitialiserRules.{part_type, fits_variable, fits_typed, takes_list, element_fits, elements_fit, elements_typed, list_tests, is_typed, initialiser_tests, initialiser_faults, elements_faults}
use Rattle.qs_types.specs.InitialiserRules as initialising
use Rattle.qs_meaning.specs.Typed.{Expr, pointer_to, member, Lvalue, variable, object, Object, local, Effect}
use Rattle.qs_meaning.specs.Forms.{lvalue, TypedExpr, address_of}
use Rattle.qs_meaning.specs.Names.{Scope, local_lvalue, place_among}
use Rattle.qs_types.specs.Placed.{is_one_of}
use Rattle.qs_meaning.specs.Expressions.{typed, plain_form}
use Rattle.qs_meaning.specs.Blanks.{blank_of}
use Rattle.qs_meaning.specs.Initialisers.{part_offset, Piece, pieces, pieces_from, text_set, assigned_set, piece_set, pieces_set, object_set, local_set}
use Rattle.qs_meaning.proofs.Options.{never, nothing, Known}
use Rattle.qs_meaning.proofs.FaultlessExpressions.{none_left, none_right, unbroken}
use Rattle.qs_elaborate_laws.specs.Counts.{is_object, is_fixed, effect_nodes}
use Rattle.qs_elaborate_laws.specs.ExpressionCounts.{initialiser_expressions, initialisers_expressions}
use Rattle.qs_elaborate_laws.proofs.CountedLess.{effect_less}
use Rattle.qs_elaborate_laws.proofs.CountedTypes.{kept, typed_type, null_value}
use Rattle.qs_elaborate_laws.proofs.CountedForms.{address_counted, is_settled, is_declared, declared_settled, initial_counted}
use Rattle.qs_elaborate_laws.proofs.CountedExpressions.{expression_counted}

without_test : (a b : Bool) → ((a && true) || b) ≡ true → (a || b) ≡ true
without_test true b e = refl
without_test false b e = e

-- ---- pieces

-- the nodes of their expressions
abbrev piece_nodes : List Piece → ℕ
piece_nodes [] = 0
piece_nodes (p ∷ ps) = expr_count p.expression + piece_nodes ps

nodes_joined : (ps qs : List Piece) → piece_nodes (ps ++ qs) ≡ piece_nodes ps + piece_nodes qs
nodes_joined [] qs = omega arith
nodes_joined (p ∷ ps) qs = let e = nodes_joined ps qs in omega arith

mutual
  pieces_least : (structs : Structs) (init : InitialiserTree) (t : TypeTree) (offset : ℕ) (ps : List Piece) → pieces structs t offset init ≡ Some ps
      → piece_nodes ps ≤ initialiser_count init
  pieces_least structs (trees.value e) t offset ps q = subst (λ z. piece_nodes z ≤ expr_count e) (same_Some _ ps q) (omega arith)
  pieces_least structs (trees.list node is) t offset ps q = let h = elements_least structs is t offset 0 ps q in omega arith

  elements_least : (structs : Structs) (is : Initialisers) (t : TypeTree) (offset k : ℕ) (ps : List Piece) → pieces_from structs t offset k is ≡ Some ps
      → piece_nodes ps ≤ initialisers_count is
  elements_least structs no_initialisers t offset k ps q = subst (λ z. piece_nodes z ≤ 0) (same_Some _ ps q) (omega arith)
  elements_least structs (initialiser_and first is) t offset k ps q =
      let u = followed (part_type structs t k) _ ps q in
      let at = followed (part_offset structs t k) _ ps u.then in
      let now = followed (pieces structs u.value (offset + at.value) first) _ ps at.then in
      let later = followed (pieces_from structs t offset (k + 1) is) _ ps now.then in
      let h = pieces_least structs first u.value (offset + at.value) now.value now.first in
      let i = elements_least structs is t offset (k + 1) later.value later.first in
      let e = nodes_joined now.value later.value in
      subst (λ z. piece_nodes z ≤ initialiser_count first + initialisers_count is) (same_Some _ ps later.then) (omega arith)

mutual
  pieces_few : (structs : Structs) (init : InitialiserTree) (t : TypeTree) (offset : ℕ) (ps : List Piece) → pieces structs t offset init ≡ Some ps
      → piece_nodes ps ≤ initialiser_expressions init
  pieces_few structs (trees.value e) t offset ps q = subst (λ z. piece_nodes z ≤ expr_count e) (same_Some _ ps q) (omega arith)
  pieces_few structs (trees.list node is) t offset ps q = elements_few structs is t offset 0 ps q

  elements_few : (structs : Structs) (is : Initialisers) (t : TypeTree) (offset k : ℕ) (ps : List Piece) → pieces_from structs t offset k is ≡ Some ps
      → piece_nodes ps ≤ initialisers_expressions is
  elements_few structs no_initialisers t offset k ps q = subst (λ z. piece_nodes z ≤ 0) (same_Some _ ps q) (omega arith)
  elements_few structs (initialiser_and first is) t offset k ps q =
      let u = followed (part_type structs t k) _ ps q in
      let at = followed (part_offset structs t k) _ ps u.then in
      let now = followed (pieces structs u.value (offset + at.value) first) _ ps at.then in
      let later = followed (pieces_from structs t offset (k + 1) is) _ ps now.then in
      let h = pieces_few structs first u.value (offset + at.value) now.value now.first in
      let i = elements_few structs is t offset (k + 1) later.value later.first in
      let e = nodes_joined now.value later.value in
      subst (λ z. piece_nodes z ≤ initialiser_expressions first + initialisers_expressions is) (same_Some _ ps later.then) (omega arith)

module _ (s : Scope) where
  abbrev c : Context
  c = s.context

  abbrev structs : Structs
  structs = s.context.structs

  -- ---- an expression for an object

  -- the rule on initialisers holds of an expression for an object of this type
  abbrev Suits : TypeTree → ExprTree → Type 0
  Suits t e = (a : TypedExpr) → typed s e ≡ Some a → fits_variable false c t e a.type ≡ true

  assigns : (t : TypeTree) (e : ExprTree) (u : TypeTree) → fits_variable false c t e u ≡ true → is_array t ≡ false
      → (is_assignable t e (decayed u) || (is_struct t && (same_type t u && is_lvalue e))) ≡ true
  assigns int e u h a = without_test (is_assignable int e (decayed u)) false h
  assigns unsigned e u h a = without_test (is_assignable unsigned e (decayed u)) false h
  assigns char e u h a = without_test (is_assignable char e (decayed u)) false h
  assigns void e u h a = never h
  assigns (pointer t) e u h a = without_test (is_assignable (pointer t) e (decayed u)) false h
  assigns (array t n) e u h a = never (sym a)
  assigns (struct k) e u h a = h

  assigned_counted : (t : TypeTree) (l : Lvalue) (e : ExprTree) (set : Effect) → is_settled l ≡ true → Suits t e → is_array t ≡ false
      → assigned_set s (record { type = t; form = lvalue l }) e ≡ Some set → effect_nodes set 1 ≤ expr_count e
  assigned_counted t l e set settled suits no_array q =
      let a = followed (typed s e) _ set q in
      let f = followed (plain_form structs (record { type = t; form = lvalue l }) a.value) _ set a.then in
      subst (λ z. effect_nodes z 1 ≤ expr_count e) (same_Some _ set f.then)
      (initial_counted structs e t l a.value (expr_count e) f.value settled (expression_counted s e a.value a.first)
      (null_value c e a.value.type (typed_type s e a.value a.first)) (assigns t e a.value.type (suits a.value a.first) no_array) f.first)

  fixed_less : (b : Bool) (n m k : ℕ) → b ≡ true → n ≤ k → (if b then 0 else m) + n ≤ k
  fixed_less true n m k e h = omega arith
  fixed_less false n m k e h = never e

  text_counted : (t : TypeTree) (to : Expr) (e : ExprTree) (set : Effect) → is_fixed to ≡ true → text_set s t to e ≡ Some set → effect_nodes set 1 ≤ expr_count e
  text_counted t to e set fixed q =
      let bytes = followed (text_of e) _ set q in
      let a = followed (typed s e) _ set bytes.then in
      let from = followed (address_of a.value.form) _ set a.then in
      let h = address_counted (expr_count e) a.value.type a.value.form from.value (expression_counted s e a.value a.first) from.first in
      subst (λ z. effect_nodes z 1 ≤ expr_count e) (same_Some _ set from.then) (fixed_less (is_fixed to) _ _ _ fixed h)

  -- ---- pieces of an object

  abbrev AllSuit : List Piece → Type 0
  AllSuit [] = Unit {0}
  AllSuit (p ∷ ps) = Suits p.type p.expression × AllSuit ps

  suit_both : (ps qs : List Piece) → AllSuit ps → AllSuit qs → AllSuit (ps ++ qs)
  suit_both [] qs h k = k
  suit_both (p ∷ ps) qs h k = (h.0, suit_both ps qs h.1 k)

  piece_counted : (base : Expr) (p : Piece) (set : Effect) → is_object base ≡ true → Suits p.type p.expression → piece_set s base p ≡ Some set
      → effect_nodes set 1 ≤ expr_count p.expression
  piece_counted base p set fixed suits q = go (is_array p.type) refl q
    where
      go : (b : Bool) → is_array p.type ≡ b
          → (if b then text_set s p.type (member p.offset base) p.expression
          else assigned_set s (record { type = p.type; form = lvalue (object (member p.offset base)) }) p.expression) ≡ Some set
          → effect_nodes set 1 ≤ expr_count p.expression
      go true a q = text_counted p.type (member p.offset base) p.expression set fixed q
      go false a q = assigned_counted p.type (object (member p.offset base)) p.expression set fixed suits a q

  set_counted : (base : Expr) (ps : List Piece) (set : Effect) → is_object base ≡ true → AllSuit ps → pieces_set s base ps ≡ Some set → effect_nodes set 1 ≤ piece_nodes ps
  set_counted base [] set fixed h q = subst (λ z. effect_nodes z 1 ≤ 0) (same_Some _ set q) (omega arith)
  set_counted base (p ∷ ps) set fixed h q =
      let now = followed (piece_set s base p) _ set q in
      let later = followed (pieces_set s base ps) _ set now.then in
      let x = piece_counted base p now.value fixed h.0 now.first in
      let y = set_counted base ps later.value fixed h.1 later.first in
      subst (λ z. effect_nodes z 1 ≤ expr_count p.expression + piece_nodes ps) (same_Some _ set later.then) (omega arith)

  -- their expressions have typed trees
  abbrev AllTyped : List Piece → Type 0
  AllTyped [] = Unit {0}
  AllTyped (p ∷ ps) = Known (typed s p.expression) × AllTyped ps

  typed_left : (ps qs : List Piece) → AllTyped (ps ++ qs) → AllTyped ps
  typed_left [] qs h = tt
  typed_left (p ∷ ps) qs h = (h.0, typed_left ps qs h.1)

  typed_right : (ps qs : List Piece) → AllTyped (ps ++ qs) → AllTyped qs
  typed_right [] qs h = h
  typed_right (p ∷ ps) qs h = typed_right ps qs h.1

  piece_typed : (base : Expr) (p : Piece) (set : Effect) → piece_set s base p ≡ Some set → Known (typed s p.expression)
  piece_typed base p set q = go (is_array p.type) q
    where
      go : (b : Bool)
          → (if b then text_set s p.type (member p.offset base) p.expression
          else assigned_set s (record { type = p.type; form = lvalue (object (member p.offset base)) }) p.expression) ≡ Some set
          → Known (typed s p.expression)
      go true q =
          let bytes = followed (text_of p.expression) _ set q in
          let a = followed (typed s p.expression) _ set bytes.then in
          record { value = a.value; is = a.first }
      go false q = let a = followed (typed s p.expression) _ set q in record { value = a.value; is = a.first }

  all_typed : (base : Expr) (ps : List Piece) (set : Effect) → pieces_set s base ps ≡ Some set → AllTyped ps
  all_typed base [] set q = tt
  all_typed base (p ∷ ps) set q =
      let now = followed (piece_set s base p) _ set q in
      let later = followed (pieces_set s base ps) _ set now.then in
      (piece_typed base p now.value now.first, all_typed base ps later.value later.first)

  -- ---- lists

  suits : (t : TypeTree) (e : ExprTree) → fits_typed (type_of c e) (fits_variable false c t e) ≡ true → Suits t e
  suits t e h a q = subst (λ o. fits_typed o (fits_variable false c t e) ≡ true) (typed_type s e a q) h

  is_known : (e : ExprTree) → Known (typed s e) → is_some (type_of c e) ≡ true
  is_known e k = ap is_some (typed_type s e k.value k.is)

  elements_are_typed : (is : Initialisers) (t : TypeTree) (offset k : ℕ) (ps : List Piece) → pieces_from structs t offset k is ≡ Some ps → AllTyped ps → elements_typed c is ≡ true
  elements_are_typed no_initialisers t offset k ps q h = refl
  elements_are_typed (initialiser_and (trees.value e) is) t offset k ps q h =
      let u = followed (part_type structs t k) _ ps q in
      let at = followed (part_offset structs t k) _ ps u.then in
      let later = followed (pieces_from structs t offset (k + 1) is) _ ps at.then in
      let all = subst AllTyped (sym (same_Some _ ps later.then)) h in
      and_from _ _ (is_known e all.0) (elements_are_typed is t offset (k + 1) later.value later.first all.1)
  elements_are_typed (initialiser_and (trees.list node inner) is) t offset k ps q h =
      let u = followed (part_type structs t k) _ ps q in
      let at = followed (part_offset structs t k) _ ps u.then in
      let now = followed (pieces structs u.value (offset + at.value) (trees.list node inner)) _ ps at.then in
      let later = followed (pieces_from structs t offset (k + 1) is) _ ps now.then in
      let all = subst AllTyped (sym (same_Some _ ps later.then)) h in
      elements_are_typed is t offset (k + 1) later.value later.first (typed_right now.value later.value all)

  elements_kept : (typed takes fits : Bool) → typed ≡ true → takes ≡ true → breaks_one (if typed && takes then keeps rules.InitialiserType fits else []) ≡ false → fits ≡ true
  elements_kept true true fits e f h = kept fits h
  elements_kept true false fits e f h = never f
  elements_kept false takes fits e f h = never e

  mutual
    pieces_suit : (init : InitialiserTree) (t : TypeTree) (offset : ℕ) (ps : List Piece) → element_fits false c (Some t) init ≡ true → initialiser_faults false c (Some t) init ≡ []
        → pieces structs t offset init ≡ Some ps → AllTyped ps → AllSuit ps
    pieces_suit (trees.value e) t offset ps fit f q h = subst AllSuit (same_Some _ ps q) (suits t e fit, tt)
    pieces_suit (trees.list node is) t offset ps fit f q h =
        let inner = none_right (faults_of node.id (list_tests false c t is)) (elements_faults false c (Some t) 0 is) f in
        let tests = unbroken node.id (list_tests false c t is) (none_left (faults_of node.id (list_tests false c t is)) (elements_faults false c (Some t) 0 is) f) in
        elements_suit is t offset 0 ps
        (elements_kept (elements_typed c is) (takes_list t) (elements_fit false c (Some t) 0 is) (elements_are_typed is t offset 0 ps q h) (first_so _ _ fit) tests) inner q h

    elements_suit : (is : Initialisers) (t : TypeTree) (offset k : ℕ) (ps : List Piece) → elements_fit false c (Some t) k is ≡ true → elements_faults false c (Some t) k is ≡ []
        → pieces_from structs t offset k is ≡ Some ps → AllTyped ps → AllSuit ps
    elements_suit no_initialisers t offset k ps fit f q h = subst AllSuit (same_Some _ ps q) tt
    elements_suit (initialiser_and first is) t offset k ps fit f q h =
        let u = followed (part_type structs t k) _ ps q in
        let at = followed (part_offset structs t k) _ ps u.then in
        let now = followed (pieces structs u.value (offset + at.value) first) _ ps at.then in
        let later = followed (pieces_from structs t offset (k + 1) is) _ ps now.then in
        let all = subst AllTyped (sym (same_Some _ ps later.then)) h in
        let fit_first : element_fits false c (part_type structs t k) first ≡ true = first_so _ _ fit in
        let faults_first : initialiser_faults false c (part_type structs t k) first ≡ [] = none_left _ _ f in
        subst AllSuit (same_Some _ ps later.then) (suit_both now.value later.value
        (pieces_suit first u.value (offset + at.value) now.value
        (subst (λ o. element_fits false c o first ≡ true) u.first fit_first)
        (subst (λ o. initialiser_faults false c o first ≡ []) u.first faults_first) now.first (typed_left now.value later.value all))
        (elements_suit is t offset (k + 1) later.value (second_so (element_fits false c (part_type structs t k) first) _ fit)
        (none_right (initialiser_faults false c (part_type structs t k) first) _ f) later.first (typed_right now.value later.value all)))

  -- ---- locals

  fill_less : (b : Bool) (n m k : ℕ) → b ≡ true → n ≤ k → (1 + (if b then 0 else m)) + n ≤ 1 + k
  fill_less true n m k e h = omega arith
  fill_less false n m k e h = never e

  -- the list counts, or the declarator of an array that a text initialises
  object_counted : (t : TypeTree) (l : Lvalue) (init : InitialiserTree) (set : Effect) (n : ℕ) → is_declared l ≡ true → element_fits false c (Some t) init ≡ true
      → initialiser_faults false c (Some t) init ≡ [] → ((ps : List Piece) → pieces structs t 0 init ≡ Some ps → piece_nodes ps ≤ n)
      → object_set s (record { type = t; form = lvalue l }) init ≡ Some set → effect_nodes set 1 ≤ 1 + n
  object_counted t (variable x) init set n settled fit f least q = nothing set q
  object_counted t (object base) init set n settled fit f least q =
      let cells = followed (blank_of structs t) _ set q in
      let ps = followed (pieces structs t 0 init) _ set cells.then in
      let sets = followed (pieces_set s base ps.value) _ set ps.then in
      let suit = pieces_suit init t 0 ps.value fit f ps.first (all_typed base ps.value sets.value sets.first) in
      let h = set_counted base ps.value sets.value settled suit sets.first in
      let k = least ps.value ps.first in
      subst (λ z. effect_nodes z 1 ≤ 1 + n) (same_Some _ set sets.then) (fill_less (is_object base) _ _ n settled (omega arith))

  pub local_counted : (t : TypeTree) (l : Lvalue) (init : InitialiserTree) (set : Effect) → is_declared l ≡ true → element_fits false c (Some t) init ≡ true
      → initialiser_faults false c (Some t) init ≡ [] → local_set s (record { type = t; form = lvalue l }) init ≡ Some set → effect_nodes set 1 ≤ 1 + initialiser_count init
  local_counted t l (trees.list node is) set settled fit f q =
      let h = object_counted t l (trees.list node is) set (initialisers_count is) settled fit f (λ ps e. elements_least structs is t 0 0 ps e) q in
      omega arith
  local_counted t l (trees.value e) set settled fit f q = go (is_array t) refl q
    where
      go : (b : Bool) → is_array t ≡ b
          → (if b then object_set s (record { type = t; form = lvalue l }) (trees.value e) else assigned_set s (record { type = t; form = lvalue l }) e) ≡ Some set
          → effect_nodes set 1 ≤ 1 + expr_count e
      go true a q = object_counted t l (trees.value e) set (expr_count e) settled fit f (λ ps i. pieces_least structs (trees.value e) t 0 ps i) q
      go false a q = let h = assigned_counted t l e set (declared_settled l settled) (suits t e fit) a q in omega arith

  -- an expression that has a typed tree has a type
  pub local_typed : (t : TypeTree) (l : Lvalue) (init : InitialiserTree) (set : Effect) → local_set s (record { type = t; form = lvalue l }) init ≡ Some set → is_typed c init ≡ true
  local_typed t l (trees.list node is) set q = refl
  local_typed t l (trees.value e) set q = is_known e (go (is_array t) q)
    where
      one : Piece
      one = record { offset = 0; type = t; expression = e }

      in_array : (l : Lvalue) → object_set s (record { type = t; form = lvalue l }) (trees.value e) ≡ Some set → Known (typed s e)
      in_array (variable x) q = nothing set q
      in_array (object base) q =
          let cells = followed (blank_of structs t) _ set q in
          let sets = followed (pieces_set s base (one ∷ [])) _ set cells.then in
          (all_typed base (one ∷ []) sets.value sets.first).0

      go : (b : Bool)
          → (if b then object_set s (record { type = t; form = lvalue l }) (trees.value e) else assigned_set s (record { type = t; form = lvalue l }) e) ≡ Some set
          → Known (typed s e)
      go true q = in_array l q
      go false q = let a = followed (typed s e) _ set q in record { value = a.value; is = a.first }

  -- the expressions of a list, where its place counts nothing
  parts_set : (t : TypeTree) (o : Object) (init : InitialiserTree) (set : Effect) (n : ℕ) → element_fits false c (Some t) init ≡ true
      → initialiser_faults false c (Some t) init ≡ [] → ((ps : List Piece) → pieces structs t 0 init ≡ Some ps → piece_nodes ps ≤ n)
      → object_set s (record { type = t; form = lvalue (object (pointer_to o)) }) init ≡ Some set → effect_nodes set 0 ≤ n
  parts_set t o init set n fit f least q =
      let cells = followed (blank_of structs t) _ set q in
      let ps = followed (pieces structs t 0 init) _ set cells.then in
      let sets = followed (pieces_set s (pointer_to o) ps.value) _ set ps.then in
      let suit = pieces_suit init t 0 ps.value fit f ps.first (all_typed (pointer_to o) ps.value sets.value sets.first) in
      let h = set_counted (pointer_to o) ps.value sets.value refl suit sets.first in
      let i = effect_less sets.value in
      let k = least ps.value ps.first in
      subst (λ z. effect_nodes z 0 ≤ n) (same_Some _ set sets.then) (omega arith)

  placed_parts : (t : TypeTree) (o : Object) (init : InitialiserTree) (set : Effect) → element_fits false c (Some t) init ≡ true
      → initialiser_faults false c (Some t) init ≡ [] → local_set s (record { type = t; form = lvalue (object (pointer_to o)) }) init ≡ Some set
      → effect_nodes set 0 ≤ initialiser_expressions init
  placed_parts t o (trees.list node is) set fit f q = parts_set t o (trees.list node is) set (initialisers_expressions is) fit f (λ ps e. elements_few structs is t 0 0 ps e) q
  placed_parts t o (trees.value e) set fit f q = go (is_array t) refl q
    where
      go : (b : Bool) → is_array t ≡ b
          → (if b then object_set s (record { type = t; form = lvalue (object (pointer_to o)) }) (trees.value e)
          else assigned_set s (record { type = t; form = lvalue (object (pointer_to o)) }) e) ≡ Some set
          → effect_nodes set 0 ≤ expr_count e
      go true a q = parts_set t o (trees.value e) set (expr_count e) fit f (λ ps i. pieces_few structs (trees.value e) t 0 ps i) q
      go false a q = let h = assigned_counted t (object (pointer_to o)) e set refl (suits t e fit) a q in let i = effect_less set in omega arith

  plain_parts : (t : TypeTree) (x : ℕ) (init : InitialiserTree) (set : Effect) → element_fits false c (Some t) init ≡ true
      → local_set s (record { type = t; form = lvalue (variable x) }) init ≡ Some set → effect_nodes set 0 ≤ initialiser_expressions init
  plain_parts t x (trees.list node is) set fit q = nothing set q
  plain_parts t x (trees.value e) set fit q = go (is_array t) refl q
    where
      go : (b : Bool) → is_array t ≡ b
          → (if b then object_set s (record { type = t; form = lvalue (variable x) }) (trees.value e) else assigned_set s (record { type = t; form = lvalue (variable x) }) e) ≡ Some set
          → effect_nodes set 0 ≤ expr_count e
      go true a q = nothing set q
      go false a q = let h = assigned_counted t (variable x) e set refl (suits t e fit) a q in let i = effect_less set in omega arith

  -- of a local the expressions alone count
  pub local_parts : (t : TypeTree) (node : ℕ) (init : InitialiserTree) (set : Effect) → element_fits false c (Some t) init ≡ true
      → initialiser_faults false c (Some t) init ≡ [] → local_set s (record { type = t; form = lvalue (local_lvalue s.locals node) }) init ≡ Some set
      → effect_nodes set 0 ≤ initialiser_expressions init
  local_parts t node init set fit f q = go (is_one_of node s.locals.placed) q
    where
      go : (b : Bool)
          → local_set s (record { type = t; form = lvalue (if b then object (pointer_to (local (place_among node s.locals.placed))) else variable (place_among node s.locals.variables)) }) init ≡ Some set
          → effect_nodes set 0 ≤ initialiser_expressions init
      go true q = placed_parts t (local (place_among node s.locals.placed)) init set fit f q
      go false q = plain_parts t (place_among node s.locals.variables) init set fit q

-- the rule on initialisers
pub kept_fit : (c : Context) (t : TypeTree) (init : InitialiserTree) → is_typed c init ≡ true → breaks_one (initialiser_tests false c (Some t) (Some init)) ≡ false
    → element_fits false c (Some t) init ≡ true
kept_fit c t init typed tests = as_element init (go (is_typed c init) _ typed tests)
  where
    go : (b fit : Bool) → b ≡ true → breaks_one (if b then keeps rules.InitialiserType fit else []) ≡ false → fit ≡ true
    go true fit e f = kept fit f
    go false fit e f = never e

    as_element : (init : InitialiserTree) → initialising.fits false c t init ≡ true → element_fits false c (Some t) init ≡ true
    as_element (trees.value e) k = k
    as_element (trees.list node is) k = k
