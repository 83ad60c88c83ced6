-- Where an initialiser of a local breaks no rule, it has a typed tree.
use Rattle.std.proofs.Common.{◌≡◌, ◌≤◌, ℕ, suc, ◌+◌, Bool, true, false, ◌&&◌, ◌||◌, List, [], ◌∷◌, ◌++◌, Option, Some, None, is_some, refl, sym, ap, subst, arith, if◌then◌else◌}
use Rattle.std.specs.List.{list_all}
use Rattle.std.specs.Cmp.{first_so, second_so}
use Rattle.qs_syntax.specs.Trees.{ExprTree, expr, InitialiserTree, Initialisers, no_initialisers, initialiser_and}
use Rattle.qs_syntax.specs.Trees as trees
use Rattle.qs_types.specs.Types.{TypeTree, int, unsigned, char, void, pointer, array, struct, is_array, is_struct, is_scalar, same_type, Structs}
use Rattle.qs_types.specs.Layout.{is_complete}
use Rattle.qs_types.specs.Conversions.{decayed}
use Rattle.qs_types.specs.Rules.{keeps, breaks_one, faults_of}
use Rattle.qs_types.specs.declared.rules.Rule.TheVariants as rules
use Rattle.qs_types.specs.Expressions.{is_lvalue, is_assignable, type_of}
use Rattle.qs_types.specs.ExpressionFaults.{whole, expr_faults}
use Rattle.qs_types.specs.Declarations.{text_of, initialisers_count}
use Rattle.qs_types.specs.InitialiserRules.{part_type, holds_text, fits_variable, fits_typed, takes_list, count_of_parts, element_fits, elements_fit, elements_typed, list_tests, initialiser_faults, elements_faults, fits}
use Rattle.qs_types.specs.Placed.{addressed}
use Rattle.qs_types.specs.Sites.{Site, initialiser_sites, elements_sites}
use Rattle.qs_meaning.specs.Typed.{Expr, member, Lvalue, object}
use Rattle.qs_meaning.specs.Forms.{lvalue, address_in, address_of}
use Rattle.qs_meaning.specs.Names.{Scope}
use Rattle.qs_meaning.specs.Expressions.{typed, plain_form}
use Rattle.qs_meaning.specs.Blanks.{blank_of}
use Rattle.qs_meaning.specs.Initialisers.{part_offset, Piece, pieces, pieces_from, text_set, assigned_set, piece_set, pieces_set, object_set, local_set}
use Rattle.qs_meaning.proofs.Options.{never, all_left, all_right, Known, known, onward, goes}
use Rattle.qs_meaning.proofs.CompleteTypes.{part_known, part_there, fits_takes, fits_count, blank_known}
use Rattle.qs_meaning.proofs.FaultlessExpressions.{none_left, none_right, unbroken, type_of_known}
use Rattle.qs_meaning.proofs.TypedExpressions.{TypedBy, address_known, assigned_known}
use Rattle.qs_meaning.proofs.Bindings.{Sound, are_taken, has_types, Expressed, expressed}

abbrev pub sites_taken : (declared placed : List ℕ) → List Site → Bool
sites_taken declared placed sites = list_all (λ (x : Site). are_taken declared placed (addressed x.context x.expression)) sites

pub sites_left : (declared placed : List ℕ) (xs ys : List Site) → sites_taken declared placed (xs ++ ys) ≡ true → sites_taken declared placed xs ≡ true
sites_left declared placed xs ys e = all_left (λ (x : Site). are_taken declared placed (addressed x.context x.expression)) xs ys e

pub sites_right : (declared placed : List ℕ) (xs ys : List Site) → sites_taken declared placed (xs ++ ys) ≡ true → sites_taken declared placed ys ≡ true
sites_right declared placed xs ys e = all_right (λ (x : Site). are_taken declared placed (addressed x.context x.expression)) xs ys e

text_there : (t : TypeTree) (n : ℕ) (o : Option (List ℕ)) → holds_text (array t n) o ≡ true → is_some o ≡ true
text_there char n None e = never e
text_there char n (Some bytes) e = refl
text_there int n o e = never e
text_there unsigned n o e = never e
text_there void n o e = never e
text_there (pointer t) n o e = never e
text_there (array t m) n o e = never e
text_there (struct k) n o e = never e

-- a text is in memory
text_address : (s : Scope) (e : ExprTree) (u : TypeTree) (x : TypedBy s e u) → is_some (text_of e) ≡ true → Known (address_of x.form)
text_address s (expr node (trees.text bytes)) u x e = let p = x.place refl in address_known x.form p.at p.is (p.taken refl)
text_address s (expr node (trees.constant n b)) u x e = never e
text_address s (expr node (trees.name y)) u x e = never e
text_address s (expr node (trees.unary operator a)) u x e = never e
text_address s (expr node (trees.step operator a)) u x e = never e
text_address s (expr node (trees.cast n a)) u x e = never e
text_address s (expr node (trees.sizeof_type n)) u x e = never e
text_address s (expr node (trees.sizeof_expr a)) u x e = never e
text_address s (expr node (trees.binary operator a b)) u x e = never e
text_address s (expr node (trees.assign operator a b)) u x e = never e
text_address s (expr node (trees.conditional d a b)) u x e = never e
text_address s (expr node (trees.comma a b)) u x e = never e
text_address s (expr node (trees.subscript a b)) u x e = never e
text_address s (expr node (trees.member access a m)) u x e = never e
text_address s (expr node (trees.call f es)) u x e = never e

without_false : (b : Bool) → (b || false) ≡ true → b ≡ true
without_false true e = refl
without_false false e = e

with_true : (a b : Bool) → ((a && true) || b) ≡ true → (a || b) ≡ true
with_true true b e = refl
with_true false b e = e

module _ (s : Scope) (declared : List ℕ) (sound : Sound s declared) where
  abbrev structs : Structs
  structs = s.context.structs

  -- an expression of type u fits an object of type t that isn't an array
  not_array_known : (t : TypeTree) → is_complete structs t ≡ true → (l : Lvalue) → (is_scalar t ≡ false → Known (address_in l)) → (e : ExprTree)
      (x : Expressed s declared sound e)
      → fits_variable false s.context t e x.type ≡ true → is_array t ≡ false → Known (assigned_set s (record { type = t; form = lvalue l }) e)
  not_array_known t complete l large e x h no_array = onward (typed s e) _ (record { value = record { type = x.type; form = x.by.form }; is = x.by.is })
      (onward (plain_form structs (record { type = t; form = lvalue l }) (record { type = x.type; form = x.by.form })) _
      (assigned_known s e t x.type (lvalue l) x.by.form (record { value = l; is = refl }) (λ f. address_known (lvalue l) l refl (large f)) complete x.by.place
      (fits t h no_array))
      (record { value = _; is = refl }))
    where
      fits : (t : TypeTree) → fits_variable false s.context t e x.type ≡ true → is_array t ≡ false →
          (is_assignable t e (decayed x.type) || (is_struct t && (same_type t x.type && is_lvalue e))) ≡ true
      fits int h a = with_true (is_assignable int e (decayed x.type)) false h
      fits unsigned h a = with_true (is_assignable unsigned e (decayed x.type)) false h
      fits char h a = with_true (is_assignable char e (decayed x.type)) false h
      fits void h a = never h
      fits (pointer t) h a = with_true (is_assignable (pointer t) e (decayed x.type)) false h
      fits (array t n) h a = never (sym a)
      fits (struct k) h a = h

  text_known : (t : TypeTree) (n : ℕ) (to : Expr) (e : ExprTree) (x : Expressed s declared sound e) → fits_variable false s.context (array t n) e x.type ≡ true → Known
      (text_set s (array t n) to e)
  text_known t n to e x h =
      let there = text_there t n (text_of e) (without_false _ h) in
      onward (text_of e) _ (known _ there) (onward (typed s e) _ (record { value = record { type = x.type; form = x.by.form }; is = x.by.is })
      (onward (address_of x.by.form) _ (text_address s e x.type x.by there) (record { value = _; is = refl })))

  fitting : (t : TypeTree) (e : ExprTree) (x : Expressed s declared sound e) → fits_typed (type_of s.context e) (fits_variable false s.context t e) ≡ true
      → fits_variable false s.context t e x.type ≡ true
  fitting t e x h = subst (λ o. fits_typed o (fits_variable false s.context t e) ≡ true) x.is h

  -- an expression that initialises a part of an object
  piece_known : (base : Expr) (offset : ℕ) (t : TypeTree) → is_complete structs t ≡ true → (e : ExprTree) (x : Expressed s declared sound e)
      → fits_variable false s.context t e x.type ≡ true
      → Known (piece_set s base (record { offset = offset; type = t; expression = e }))
  piece_known base offset (array t n) complete e x h = text_known t n (member offset base) e x h
  piece_known base offset int complete e x h = not_array_known int complete (object (member offset base)) (λ _. record { value = _; is = refl }) e x h refl
  piece_known base offset unsigned complete e x h = not_array_known unsigned complete (object (member offset base)) (λ _. record { value = _; is = refl }) e x h refl
  piece_known base offset char complete e x h = not_array_known char complete (object (member offset base)) (λ _. record { value = _; is = refl }) e x h refl
  piece_known base offset void complete e x h = never complete
  piece_known base offset (pointer t) complete e x h = not_array_known (pointer t) complete (object (member offset base)) (λ _. record { value = _; is = refl }) e x h refl
  piece_known base offset (struct k) complete e x h = not_array_known (struct k) complete (object (member offset base)) (λ _. record { value = _; is = refl }) e x h refl

  -- ---- lists

  abbrev AllSet : (base : Expr) → List Piece → Type 0
  AllSet base [] = Unit {0}
  AllSet base (p ∷ ps) = Known (piece_set s base p) × AllSet base ps

  all_set : (base : Expr) (ps : List Piece) → AllSet base ps → Known (pieces_set s base ps)
  all_set base [] h = record { value = _; is = refl }
  all_set base (p ∷ ps) h = onward (piece_set s base p) _ h.0 (onward (pieces_set s base ps) _ (all_set base ps h.1) (record { value = _; is = refl }))

  joined : (base : Expr) (ps qs : List Piece) → AllSet base ps → AllSet base qs → AllSet base (ps ++ qs)
  joined base [] qs h k = k
  joined base (p ∷ ps) qs h k = (h.0, joined base ps qs h.1 k)

  record Pieced (base : Expr) (o : Option (List Piece)) : Type 0 where
    list : List Piece
    is : o ≡ Some list
    set : AllSet base list

  all_elements_typed : (is : Initialisers) (u : TypeTree) (i : ℕ) → elements_faults false s.context (Some u) i is ≡ [] → elements_typed s.context is ≡ true
  all_elements_typed no_initialisers u i h = refl
  all_elements_typed (initialiser_and (trees.value e) is) u i h =
      both _ _ (ap is_some (type_of_known s.context (has_types s declared sound) e whole (none_left _ _ h)).is)
      (all_elements_typed is u (i + 1) (none_right (expr_faults s.context whole e) _ h))
    where
      both : (x y : Bool) → x ≡ true → y ≡ true → (x && y) ≡ true
      both true y e f = f
      both false y e f = never e
  all_elements_typed (initialiser_and (trees.list node inner) is) u i h =
      all_elements_typed is u (i + 1) (none_right (initialiser_faults false s.context (part_type structs u i) (trees.list node inner)) _ h)

  -- a list that breaks no rule has elements that fit
  elements_kept : (typed takes fits : Bool) → typed ≡ true → takes ≡ true → breaks_one (if typed && takes then keeps rules.InitialiserType fits else []) ≡ false → fits ≡ true
  elements_kept true true true e f h = refl
  elements_kept true true false e f h = never (sym h)
  elements_kept true false fits e f h = never f
  elements_kept false takes fits e f h = never e

  mutual
    initialiser_pieced : (i : InitialiserTree) (base : Expr) (u : TypeTree) (offset : ℕ) → is_complete structs u ≡ true → element_fits false s.context (Some u) i ≡ true
        → initialiser_faults false s.context (Some u) i ≡ [] → sites_taken declared s.locals.placed (initialiser_sites false s.context (Some u) i) ≡ true
        → Pieced base (pieces structs u offset i)
    initialiser_pieced (trees.value e) base u offset complete fits h taken =
        let x = expressed s declared sound e whole h (first_so _ _ taken) in
        record { list = _; is = refl; set = (piece_known base offset u complete e x (fitting u e x fits), tt) }
    initialiser_pieced (trees.list node is) base u offset complete fits h taken =
        let inner = none_right (faults_of node.id (list_tests false s.context u is)) (elements_faults false s.context (Some u) 0 is) h in
        let tests = unbroken node.id (list_tests false s.context u is)
        (none_left (faults_of node.id (list_tests false s.context u is)) (elements_faults false s.context (Some u) 0 is) h) in
        elements_pieced is base u offset 0 complete (fits_count structs u is fits)
        (elements_kept (elements_typed s.context is) (takes_list u) (elements_fit false s.context (Some u) 0 is) (all_elements_typed is u 0 inner)
        (fits_takes structs u is fits) tests) inner taken

    elements_pieced : (is : Initialisers) (base : Expr) (u : TypeTree) (offset i : ℕ) → is_complete structs u ≡ true
        → i + initialisers_count is ≤ count_of_parts structs u → elements_fit false s.context (Some u) i is ≡ true
        → elements_faults false s.context (Some u) i is ≡ [] → sites_taken declared s.locals.placed (elements_sites false s.context (Some u) i is) ≡ true
        → Pieced base (pieces_from structs u offset i is)
    elements_pieced no_initialisers base u offset i complete room fits h taken = record { list = []; is = refl; set = tt }
    elements_pieced (initialiser_and first is) base u offset i complete room fits h taken =
        let fits_first : element_fits false s.context (part_type structs u i) first ≡ true = first_so _ _ fits in
        let r : i + suc (initialisers_count is) ≤ count_of_parts structs u = room in
        let p = part_known structs sound.laid_out sound.members u i complete (part_there structs u i (omega arith)) in
        let now = initialiser_pieced first base p.type (offset + p.offset.value) p.complete
        (subst (λ o. element_fits false s.context o first ≡ true) p.is fits_first)
        (subst (λ o. initialiser_faults false s.context o first ≡ []) p.is (none_left _ _ h))
        (subst (λ o. sites_taken declared s.locals.placed (initialiser_sites false s.context o first) ≡ true) p.is
        (sites_left declared s.locals.placed (initialiser_sites false s.context (part_type structs u i) first)
        (elements_sites false s.context (Some u) (i + 1) is) taken)) in
        let later = elements_pieced is base u offset (i + 1) complete (omega arith) (second_so (element_fits false s.context (part_type structs u i) first) _ fits)
        (none_right (initialiser_faults false s.context (part_type structs u i) first) _ h)
        (sites_right declared s.locals.placed (initialiser_sites false s.context (part_type structs u i) first)
        (elements_sites false s.context (Some u) (i + 1) is) taken) in
        record {
          list = now.list ++ later.list;
          is = goes (part_type structs u i) p.type _ _ p.is
              (goes (part_offset structs u i) p.offset.value _ _ p.offset.is (goes (pieces structs p.type (offset + p.offset.value) first) now.list _ _ now.is
              (goes (pieces_from structs u offset (i + 1) is) later.list _ _ later.is refl)));
          set = joined base now.list later.list now.set later.set;
        }

  -- ---- variables

  object_known : (t : TypeTree) (l : Lvalue) (i : InitialiserTree) → is_complete structs t ≡ true → Known (address_in l) → element_fits false s.context (Some t) i ≡ true
      → initialiser_faults false s.context (Some t) i ≡ [] → sites_taken declared s.locals.placed (initialiser_sites false s.context (Some t) i) ≡ true
      → Known (object_set s (record { type = t; form = lvalue l }) i)
  object_known t l i complete address fits h taken =
      let base = address_known (lvalue l) l refl address in
      let ps = initialiser_pieced i base.value t 0 complete fits h taken in
      onward (address_of (lvalue l)) _ base (onward (blank_of structs t) _ (blank_known structs sound.laid_out sound.members t complete)
      (onward (pieces structs t 0 i) _ (record { value = ps.list; is = ps.is })
      (onward (pieces_set s base.value ps.list) _ (all_set base.value ps.list ps.set) (record { value = _; is = refl }))))

  takes_list_large : (t : TypeTree) → takes_list t ≡ true → is_scalar t ≡ false
  takes_list_large (array t n) e = refl
  takes_list_large (struct k) e = refl
  takes_list_large int e = never e
  takes_list_large unsigned e = never e
  takes_list_large char e = never e
  takes_list_large void e = never e
  takes_list_large (pointer t) e = never e

  pub local_set_known : (t : TypeTree) (l : Lvalue) (i : InitialiserTree) → is_complete structs t ≡ true → (is_scalar t ≡ false → Known (address_in l))
      → fits false s.context t i ≡ true
      → initialiser_faults false s.context (Some t) i ≡ [] → sites_taken declared s.locals.placed (initialiser_sites false s.context (Some t) i) ≡ true
      → Known (local_set s (record { type = t; form = lvalue l }) i)
  local_set_known t l (trees.list node is) complete large fits h taken = object_known t l (trees.list node is) complete (large (takes_list_large t (fits_takes structs t is fits))) fits h taken
  local_set_known t l (trees.value e) complete large fits h taken = go t complete large fits h taken
    where
      go : (t : TypeTree) → is_complete structs t ≡ true → (is_scalar t ≡ false → Known (address_in l)) → fits_typed (type_of s.context e)
          (fits_variable false s.context t e) ≡ true
          → expr_faults s.context whole e ≡ [] → sites_taken declared s.locals.placed (initialiser_sites false s.context (Some t) (trees.value e)) ≡ true
          → Known (local_set s (record { type = t; form = lvalue l }) (trees.value e))
      go (array t n) complete large fits h taken = object_known (array t n) l (trees.value e) complete (large refl) fits h taken
      go int complete large fits h taken = let x = expressed s declared sound e whole h (first_so _ _ taken) in not_array_known int complete l large e x
          (fitting int e x fits) refl
      go unsigned complete large fits h taken = let x = expressed s declared sound e whole h (first_so _ _ taken) in not_array_known unsigned complete l large e x
          (fitting unsigned e x fits) refl
      go char complete large fits h taken = let x = expressed s declared sound e whole h (first_so _ _ taken) in not_array_known char complete l large e x
          (fitting char e x fits) refl
      go void complete large fits h taken = never complete
      go (pointer t) complete large fits h taken = let x = expressed s declared sound e whole h (first_so _ _ taken) in not_array_known (pointer t) complete l large e x
          (fitting (pointer t) e x fits) refl
      go (struct k) complete large fits h taken = let x = expressed s declared sound e whole h (first_so _ _ taken) in not_array_known (struct k) complete l large e x
          (fitting (struct k) e x fits) refl
