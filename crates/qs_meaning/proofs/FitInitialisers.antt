-- What initialises a local fits.
use Rattle.std.proofs.Common.{◌≡◌, ◌≤◌, ℕ, ◌+◌, min, nat_le, Bool, true, false, ◌&&◌, ◌||◌, List, [], ◌∷◌, ◌++◌, length, Option, Some, None, is_some, refl, sym, ap, ◌∙◌, subst, arith, if◌then◌else◌, le-leb}
use Rattle.std.specs.List.{slice_get, list_all}
use Rattle.std.proofs.lemmas.Bool.Decides.{nat_tests}
use Rattle.std.proofs.lemmas.Bool.{and_from}
use Rattle.std.specs.Cmp.{first_so, second_so}
use Rattle.std.proofs.lemmas.Option.{same_Some}
use Rattle.qs_syntax.specs.Trees.{ExprTree, InitialiserTree, Initialisers, no_initialisers, initialiser_and}
use Rattle.qs_syntax.specs.Trees as trees
use Rattle.qs_memory.specs.Memory.{blank_cells}
use Rattle.qs_memory.specs.Sizes.{largest_size}
use Rattle.qs_memory.proofs.ScalarLaws.{same_as}
use Rattle.qs_memory.specs.declared.scalar.Scalar.TheVariants as scalars
use Rattle.qs_memory.proofs.Options.{followed}
use Rattle.qs_calls.specs.Starts.{Interface}
use Rattle.qs_types.specs.Types.{TypeTree, int, unsigned, char, void, pointer, array, struct, is_array, is_struct, same_type, Structs}
use Rattle.qs_types.specs.Layout.{size_of}
use Rattle.qs_types.specs.Conversions.{decayed}
use Rattle.qs_types.specs.Rules.{keeps, breaks_one, faults_of}
use Rattle.qs_types.specs.declared.rules.Rule.TheVariants as rules
use Rattle.qs_types.specs.Contexts.{Context}
use Rattle.qs_types.specs.Expressions.{type_of, is_lvalue, is_assignable}
use Rattle.qs_types.specs.ExpressionFaults.{whole, expr_faults}
use Rattle.qs_types.specs.Declarations.{text_of}
use Rattle.qs_types.specs.InitialiserRules.{part_type, fits_variable, fits_typed, takes_list, element_fits, elements_fit, elements_typed, list_tests, initialiser_faults, elements_faults}
use Rattle.qs_types.specs.References.{TextBlock}
use Rattle.qs_types.specs.Sites.{Site, initialiser_sites, elements_sites}
use Rattle.qs_meaning.specs.Typed.{Expr, pointer_to, member, Lvalue, variable, object, local, Function, Effect}
use Rattle.qs_meaning.specs.Conversions.{scalar_of}
use Rattle.qs_meaning.specs.Forms.{lvalue, TypedExpr, address_of}
use Rattle.qs_meaning.specs.Names.{Scope, text_object}
use Rattle.qs_meaning.specs.Expressions.{typed, plain_form}
use Rattle.qs_meaning.specs.Blanks.{blank_of}
use Rattle.qs_meaning.specs.Initialisers.{part_offset, Piece, pieces, pieces_from, text_room, text_set, assigned_set, piece_set, pieces_set, object_set, local_set}
use Rattle.qs_meaning.specs.Fits.{lvalue_fits, effect_fits, object_there, is_size, is_whole_local}
use Rattle.qs_meaning.proofs.Options.{never, nothing, all_left, all_right}
use Rattle.qs_meaning.proofs.CompleteTypes.{fits_takes}
use Rattle.qs_meaning.proofs.FaultlessExpressions.{HasTypes, none_left, none_right, unbroken, type_of_known}
use Rattle.qs_meaning.proofs.FitForms.{Has, address_there, pointer_object, effect_there, null_value}
use Rattle.qs_meaning.proofs.FitTypes.{is_small, size_room, array_length}
use Rattle.qs_meaning.proofs.FitLayouts.{part_fits, blank_size}
use Rattle.qs_meaning.proofs.FitLeaves.{is_sure, is_short}
use Rattle.qs_meaning.proofs.FitSmall.{Place}
use Rattle.qs_meaning.proofs.FitExpressions.{plain_there, typed_type, expression_there}

-- a local is a variable of its call, or a block that has the size of its type
pub data LocalPlace (structs : Structs) (g : Function) (t : TypeTree) : Lvalue → Type 0 where
  in_variable : (x : ℕ) → LocalPlace structs g t (variable x)
  in_block : (k : ℕ) → slice_get g.blocks k ≡ size_of structs t → LocalPlace structs g t (object (pointer_to (local k)))

-- an expression that isn't a text which only fills an array of file scope
abbrev pub site_sure : (called : List ℕ → Bool) → (there : TextBlock → Bool) → Site → Bool
site_sure called there s = s.fills_array || is_sure called there s.expression

with_true : (a b : Bool) → ((a && true) || b) ≡ true → (a || b) ≡ true
with_true true b e = refl
with_true false b e = e

module _ (i : Interface) (g : Function) (called : List ℕ → Bool) (there : TextBlock → Bool) (s : Scope) (place : Place i g called s s.context) (has : HasTypes s.context)
    (short : (t : TextBlock) → there t ≡ true → is_short t ≡ true)
    (blocks : (t : TextBlock) → there t ≡ true → object_there i g (text_object s.statics t.node) ≡ true) where
  abbrev c : Context
  c = s.context

  abbrev structs : Structs
  structs = s.context.structs

  -- ---- an expression for an object

  -- what is known of an expression that initialises an object of this type
  record Suits (t : TypeTree) (e : ExprTree) : Type 0 where
    sure : is_sure called there e ≡ true
    type : TypeTree
    is : type_of c e ≡ Some type
    fits : fits_variable false c t e type ≡ true

  same_typed : (e : ExprTree) (a : TypedExpr) (u : TypeTree) → type_of c e ≡ Some u → typed s e ≡ Some a → u ≡ a.type
  same_typed e a u p q = same_Some u a.type (sym p ∙ typed_type s e a q)

  assigns : (t : TypeTree) (e : ExprTree) (u : TypeTree) → fits_variable false c t e u ≡ true → is_array t ≡ false
      → (is_assignable t e (decayed u) || (is_struct t && (same_type t u && is_lvalue e))) ≡ true
  assigns int e u h a = with_true (is_assignable int e (decayed u)) false h
  assigns unsigned e u h a = with_true (is_assignable unsigned e (decayed u)) false h
  assigns char e u h a = with_true (is_assignable char e (decayed u)) false h
  assigns void e u h a = never h
  assigns (pointer t) e u h a = with_true (is_assignable (pointer t) e (decayed u)) false h
  assigns (array t n) e u h a = never (sym a)
  assigns (struct k) e u h a = h

  assigned_there : (t : TypeTree) (l : Lvalue) (e : ExprTree) (set : Effect) → lvalue_fits i g (scalar_of t) l ≡ true → Suits t e → is_array t ≡ false
      → assigned_set s (record { type = t; form = lvalue l }) e ≡ Some set → effect_fits i g set ≡ true
  assigned_there t l e set h x no_array q =
      let a = followed (typed s e) _ set q in
      let f = followed (plain_form structs (record { type = t; form = lvalue l }) a.value) _ set a.then in
      let fits = subst (λ z. fits_variable false c t e z ≡ true) (same_typed e a.value x.type x.is a.first) x.fits in
      subst (λ z. effect_fits i g z ≡ true) (same_Some _ set f.then)
      (effect_there i g t f.value (plain_there i g structs place.table e t (lvalue l) a.value f.value h
      (record { form = expression_there i g called there s place short blocks e a.value x.sure a.first; null = null_value s e a.value a.first })
      (assigns t e a.value.type fits no_array) f.first))

  text_most : (t : TypeTree) (n : ℕ) (bytes : List ℕ) → is_small structs (array t n) ≡ true → nat_le (text_room (array t n) bytes) largest_size ≡ true
  text_most t n bytes small = at_most n (length bytes + 1) (array_length structs place.table t n small)
    where
      least : (n m : ℕ) → min n m ≤ n
      least n m = grind arith

      at_most : (n m : ℕ) → n ≤ 16777216 → nat_le (min n m) largest_size ≡ true
      at_most n m h = let a = least n m in le-leb (min n m) largest_size (omega arith)

  text_there : (t : TypeTree) (n : ℕ) (to : Expr) (e : ExprTree) (set : Effect) → Has i g to scalars.Pointer → is_sure called there e ≡ true → is_small structs (array t n) ≡ true
      → text_set s (array t n) to e ≡ Some set → effect_fits i g set ≡ true
  text_there t n to e set h sure small q =
      let bytes = followed (text_of e) _ set q in
      let a = followed (typed s e) _ set bytes.then in
      let from = followed (address_of a.value.form) _ set a.then in
      let p = address_there i g a.value.type a.value.form from.value from.first (expression_there i g called there s place short blocks e a.value sure a.first) in
      subst (λ z. effect_fits i g z ≡ true) (same_Some _ set from.then)
      (and_from _ _ (and_from _ _ h.fits (same_as _ _ h.type)) (and_from _ _ (and_from _ _ p.fits (same_as _ _ p.type)) (text_most t n bytes.value small)))

  -- ---- pieces

  record PieceFits (p : Piece) : Type 0 where
    suits : Suits p.type p.expression
    small : is_small structs p.type ≡ true
    offset : nat_le p.offset largest_size ≡ true

  abbrev AllPieces : List Piece → Type 0
  AllPieces [] = Unit {0}
  AllPieces (p ∷ ps) = PieceFits p × AllPieces ps

  joined : (ps qs : List Piece) → AllPieces ps → AllPieces qs → AllPieces (ps ++ qs)
  joined [] qs h k = k
  joined (p ∷ ps) qs h k = (h.0, joined ps qs h.1 k)

  member_is : (offset : ℕ) (base : Expr) → Has i g base scalars.Pointer → nat_le offset largest_size ≡ true → Has i g (member offset base) scalars.Pointer
  member_is offset base h o = record { fits = and_from _ _ h.fits (and_from _ _ (same_as _ _ h.type) o); type = refl }

  piece_there : (base : Expr) (p : Piece) (set : Effect) → Has i g base scalars.Pointer → PieceFits p → piece_set s base p ≡ Some set → effect_fits i g set ≡ true
  piece_there base p set h x q = go (is_array p.type) refl q
    where
      to : Has i g (member p.offset base) scalars.Pointer
      to = member_is p.offset base h x.offset

      text : (t : TypeTree) → is_array t ≡ true → is_small structs t ≡ true → text_set s t (member p.offset base) p.expression ≡ Some set → effect_fits i g set ≡ true
      text (array t n) a small q = text_there t n (member p.offset base) p.expression set to x.suits.sure small q
      text int a small q = never a
      text unsigned a small q = never a
      text char a small q = never a
      text void a small q = never a
      text (pointer t) a small q = never a
      text (struct k) a small q = never a

      go : (b : Bool) → is_array p.type ≡ b
          → (if b then text_set s p.type (member p.offset base) p.expression
          else assigned_set s (record { type = p.type; form = lvalue (object (member p.offset base)) }) p.expression) ≡ Some set → effect_fits i g set ≡ true
      go true a q = text p.type a x.small q
      go false a q = assigned_there p.type (object (member p.offset base)) p.expression set (pointer_object i g (member p.offset base) (scalar_of p.type) to) x.suits a q

  pieces_there : (base : Expr) (ps : List Piece) (set : Effect) → Has i g base scalars.Pointer → AllPieces ps → pieces_set s base ps ≡ Some set → effect_fits i g set ≡ true
  pieces_there base [] set h x q = subst (λ z. effect_fits i g z ≡ true) (same_Some _ set q) refl
  pieces_there base (p ∷ ps) set h x q =
      let now = followed (piece_set s base p) _ set q in
      let later = followed (pieces_set s base ps) _ set now.then in
      subst (λ z. effect_fits i g z ≡ true) (same_Some _ set later.then) (and_from _ _ (piece_there base p now.value h x.0 now.first) (pieces_there base ps later.value h x.1 later.first))

  -- ---- lists

  suits : (t : TypeTree) (e : ExprTree) → is_sure called there e ≡ true → fits_typed (type_of c e) (fits_variable false c t e) ≡ true → Suits t e
  suits t e sure h = go (type_of c e) refl h
    where
      go : (o : Option TypeTree) → type_of c e ≡ o → fits_typed o (fits_variable false c t e) ≡ true → Suits t e
      go None p h = never h
      go (Some u) p h = record { sure = sure; type = u; is = p; fits = h }

  all_elements_typed : (is : Initialisers) (u : TypeTree) (k : ℕ) → elements_faults false c (Some u) k is ≡ [] → elements_typed c is ≡ true
  all_elements_typed no_initialisers u k h = refl
  all_elements_typed (initialiser_and (trees.value e) is) u k h =
      and_from _ _ (ap is_some (type_of_known c has e whole (none_left _ _ h)).is) (all_elements_typed is u (k + 1) (none_right (expr_faults c whole e) _ h))
  all_elements_typed (initialiser_and (trees.list node inner) is) u k h =
      all_elements_typed is u (k + 1) (none_right (initialiser_faults false c (part_type structs u k) (trees.list node inner)) _ h)

  elements_kept : (typed takes fits : Bool) → typed ≡ true → takes ≡ true → breaks_one (if typed && takes then keeps rules.InitialiserType fits else []) ≡ false → fits ≡ true
  elements_kept true true true e f h = refl
  elements_kept true true false e f h = never (sym h)
  elements_kept true false fits e f h = never f
  elements_kept false takes fits e f h = never e

  abbrev are_sure : List Site → Bool
  are_sure ss = list_all (site_sure called there) ss

  mutual
    pieces_suit : (init : InitialiserTree) (t : TypeTree) (offset n : ℕ) (ps : List Piece) → is_small structs t ≡ true → size_of structs t ≡ Some n → offset + n ≤ 16777216
        → element_fits false c (Some t) init ≡ true → initialiser_faults false c (Some t) init ≡ [] → are_sure (initialiser_sites false c (Some t) init) ≡ true
        → pieces structs t offset init ≡ Some ps → AllPieces ps
    pieces_suit (trees.value e) t offset n ps small size room fit f sure q =
        subst AllPieces (same_Some _ ps q) (record { suits = suits t e (first_so _ _ sure) fit; small = small; offset = le-leb offset largest_size (omega arith) }, tt)
    pieces_suit (trees.list node is) t offset n ps small size room fit f sure q =
        let inner = none_right (faults_of node.id (list_tests false c t is)) (elements_faults false c (Some t) 0 is) f in
        let tests = unbroken node.id (list_tests false c t is) (none_left (faults_of node.id (list_tests false c t is)) (elements_faults false c (Some t) 0 is) f) in
        elements_suit is t offset n 0 ps small size room
        (elements_kept (elements_typed c is) (takes_list t) (elements_fit false c (Some t) 0 is) (all_elements_typed is t 0 inner) (fits_takes structs t is fit) tests) inner sure q

    elements_suit : (is : Initialisers) (t : TypeTree) (offset n k : ℕ) (ps : List Piece) → is_small structs t ≡ true → size_of structs t ≡ Some n → offset + n ≤ 16777216
        → elements_fit false c (Some t) k is ≡ true → elements_faults false c (Some t) k is ≡ [] → are_sure (elements_sites false c (Some t) k is) ≡ true
        → pieces_from structs t offset k is ≡ Some ps → AllPieces ps
    elements_suit no_initialisers t offset n k ps small size room fit f sure q = subst AllPieces (same_Some _ ps q) tt
    elements_suit (initialiser_and first is) t offset n k ps small size room fit f sure q =
        let u = followed (part_type structs t k) _ ps q in
        let at = followed (part_offset structs t k) _ ps u.then in
        let now = followed (pieces structs u.value (offset + at.value) first) _ ps at.then in
        let later = followed (pieces_from structs t offset (k + 1) is) _ ps now.then in
        let p = part_fits structs place.table t u.value k at.value n small size u.first at.first in
        let fit_first : element_fits false c (part_type structs t k) first ≡ true = first_so _ _ fit in
        let within = p.within in
        subst AllPieces (same_Some _ ps later.then) (joined now.value later.value
        (pieces_suit first u.value (offset + at.value) p.size now.value p.small p.is (omega arith)
        (subst (λ o. element_fits false c o first ≡ true) u.first fit_first)
        (subst (λ o. initialiser_faults false c o first ≡ []) u.first (none_left _ _ f))
        (subst (λ o. are_sure (initialiser_sites false c o first) ≡ true) u.first
        (all_left (site_sure called there) (initialiser_sites false c (part_type structs t k) first) (elements_sites false c (Some t) (k + 1) is) sure)) now.first)
        (elements_suit is t offset n (k + 1) later.value small size room (second_so (element_fits false c (part_type structs t k) first) _ fit)
        (none_right (initialiser_faults false c (part_type structs t k) first) _ f)
        (all_right (site_sure called there) (initialiser_sites false c (part_type structs t k) first) (elements_sites false c (Some t) (k + 1) is) sure) later.first))

  -- ---- locals

  object_there_set : (t : TypeTree) (n : ℕ) (l : Lvalue) (init : InitialiserTree) (set : Effect) → lvalue_fits i g (scalar_of t) l ≡ true → LocalPlace structs g t l
      → is_small structs t ≡ true → size_of structs t ≡ Some n → element_fits false c (Some t) init ≡ true → initialiser_faults false c (Some t) init ≡ []
      → are_sure (initialiser_sites false c (Some t) init) ≡ true → object_set s (record { type = t; form = lvalue l }) init ≡ Some set → effect_fits i g set ≡ true
  object_there_set t n l init set h at small size fit f sure q =
      let base = followed (address_of (lvalue l)) _ set q in
      let b = followed (blank_of structs t) _ set base.then in
      let ps = followed (pieces structs t 0 init) _ set b.then in
      let sets = followed (pieces_set s base.value ps.value) _ set ps.then in
      let to = address_there i g t (lvalue l) base.value base.first h in
      let most = (size_room structs place.table t small n size).most in
      subst (λ z. effect_fits i g z ≡ true) (same_Some _ set sets.then)
      (and_from _ _ (and_from _ _ to.fits (whole_local l base.value at base.first (length (blank_cells b.value)) (ap Some (blank_size structs t b.value n b.first size))))
      (pieces_there base.value ps.value sets.value to (pieces_suit init t 0 n ps.value small size (omega arith) fit f sure ps.first) sets.first))
    where
      is_same : (m n : ℕ) → Some m ≡ Some n → is_size (Some n) m ≡ true
      is_same m n e = subst (λ o. is_size o m ≡ true) e (itself m)
        where
          itself : (m : ℕ) → is_size (Some m) m ≡ true
          itself m = grind (arith, nat_tests)

      whole_local : (l : Lvalue) (base : Expr) → LocalPlace structs g t l → address_of (lvalue l) ≡ Some base → (m : ℕ) → Some m ≡ Some n → is_whole_local g m base ≡ true
      whole_local _ base (in_variable x) e m p = nothing base e
      whole_local _ base (in_block k room) e m p =
          subst (λ z. is_whole_local g m z ≡ true) (same_Some _ base e) (subst (λ o. is_size o m ≡ true) (sym (room ∙ size)) (is_same m n p))

  pub local_there : (t : TypeTree) (n : ℕ) (l : Lvalue) (init : InitialiserTree) (set : Effect) → lvalue_fits i g (scalar_of t) l ≡ true → LocalPlace structs g t l
      → is_small structs t ≡ true → size_of structs t ≡ Some n → element_fits false c (Some t) init ≡ true → initialiser_faults false c (Some t) init ≡ []
      → are_sure (initialiser_sites false c (Some t) init) ≡ true → local_set s (record { type = t; form = lvalue l }) init ≡ Some set → effect_fits i g set ≡ true
  local_there t n l (trees.list node is) set h at small size fit f sure q = object_there_set t n l (trees.list node is) set h at small size fit f sure q
  local_there t n l (trees.value e) set h at small size fit f sure q = go (is_array t) refl q
    where
      go : (b : Bool) → is_array t ≡ b
          → (if b then object_set s (record { type = t; form = lvalue l }) (trees.value e) else assigned_set s (record { type = t; form = lvalue l }) e) ≡ Some set
          → effect_fits i g set ≡ true
      go true a q = object_there_set t n l (trees.value e) set h at small size fit f sure q
      go false a q = assigned_there t l e set h (suits t e (first_so _ _ sure) fit) a q
