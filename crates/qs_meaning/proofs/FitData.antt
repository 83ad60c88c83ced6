-- The blocks that are there when a run begins have the shapes of their types.
use Rattle.std.proofs.Common.{◌≡◌, ◌≤◌, ◌<◌, ℕ, zero, suc, ◌+◌, ◌-◌, ◌*◌, nat_lt, Bool, true, false, ◌&&◌, ◌||◌, List, [], ◌∷◌, ◌++◌, length, Option, Some, None, is_some, refl, sym, ap, ◌∙◌, subst, arith, if◌then◌else◌}
use Rattle.std.specs.List.{slice_get}
use Rattle.std.proofs.lemmas.Bool.Decides.{nat_tests}
use Rattle.std.proofs.lemmas.Bool.{and_from}
use Rattle.std.specs.Cmp.{first_so, second_so}
use Rattle.std.proofs.lemmas.Option.{same_Some}
use Rattle.qs_syntax.specs.Trees.{ExprTree, InitialiserTree, Initialisers, no_initialisers, initialiser_and}
use Rattle.qs_syntax.specs.Trees as trees
use Rattle.qs_memory.specs.Memory.{Cell, BlankTree, zeros, joined, blank_cells}
use Rattle.qs_memory.proofs.Options.{followed}
use Rattle.qs_types.specs.declared.extent.Extent.{Extent}
use Rattle.qs_types.specs.Types.{TypeTree, int, unsigned, char, void, pointer, array, struct, MemberTree, Structs}
use Rattle.qs_types.specs.Layout.{and_then, StructLayout, extents_by, rounded_up, offsets_from, member_types, struct_of, layout_of, extent_of, size_of}
use Rattle.qs_types.specs.Rules.{keeps, breaks_one, faults_of}
use Rattle.qs_types.specs.declared.rules.Rule.TheVariants as rules
use Rattle.qs_types.specs.Contexts.{Context}
use Rattle.qs_types.specs.Expressions.{type_of}
use Rattle.qs_types.specs.ExpressionFaults.{whole, expr_faults}
use Rattle.qs_types.specs.Constants.{constant_of}
use Rattle.qs_types.specs.Declarations.{text_of}
use Rattle.qs_types.specs.InitialiserRules.{member_at, part_type, holds_text, fits_variable, fits_typed, takes_list, element_fits, elements_fit, elements_typed, list_tests, initialiser_faults, elements_faults}
use Rattle.qs_meaning.specs.Names.{Scope}
use Rattle.qs_meaning.specs.Blanks.{Blanks, blank_by, members_blank, blanks_within}
use Rattle.qs_meaning.specs.Initialisers.{part_offset, Piece, pieces, pieces_from}
use Rattle.qs_meaning.specs.InitialValues.{pointer_constant, text_cells, piece_cells, written_over, pieces_over}
use Rattle.qs_meaning.proofs.Options.{never, went}
use Rattle.qs_meaning.proofs.Options as options
use Rattle.qs_meaning.proofs.CompleteTypes.{fits_takes}
use Rattle.qs_meaning.proofs.FaultlessExpressions.{HasTypes, none_left, none_right, unbroken, type_of_known}
use Rattle.qs_meaning.proofs.FitTypes.{AllPositive, rounded_above}
use Rattle.qs_meaning.proofs.FitLayouts.{laid, blank_length, blanks_length}
use Rattle.qs_meaning.proofs.Shapes.{Slot, a_pointer, width, copies, bytes, shape_of, Conforms, none, with_pointer, conforms_length, blank_conforms, number_conforms, text_conforms, taken_bytes, Part, part_next, part_at, part_front, part_behind, part_copy, part_bytes, over_conforms}

-- ---- the shapes of parts

width_bytes : (n : ℕ) → width (bytes n) ≡ n
width_bytes zero = refl
width_bytes (suc n) = let e = width_bytes n in omega arith

module _ (structs : Structs) where
  -- a blank that is known where structs are in one another so deep
  abbrev pub BlankOf : (depth : ℕ) → TypeTree → BlankTree → Type 0
  BlankOf depth t b = blank_by (blanks_within depth structs) t ≡ Some b

  pub shape_width : (depth : ℕ) (t : TypeTree) (b : BlankTree) (n : ℕ) → BlankOf depth t b → size_of structs t ≡ Some n → width (shape_of b) ≡ n
  shape_width depth t b n p q =
      let w = went (extent_of structs t) (λ (e : Extent). Some e.size) n q in
      sym (conforms_length (shape_of b) (blank_cells b) (blank_conforms b))
      ∙ (blank_length structs (blanks_within depth structs) (blanks_length structs depth) t b w.value p w.had ∙ same_Some _ n w.gave)

  -- the member with this offset
  record MemberPart (blanks : Blanks) (whole : List Slot) (start offset : ℕ) (t : TypeTree) : Type 0 where
    blank : BlankTree
    is : blank_by blanks t ≡ Some blank
    at : ℕ
    stands : start + at ≡ offset
    part : Part whole at (shape_of blank)

  members_part : (depth : ℕ) (ms : List MemberTree) (es : List Extent) (start size : ℕ) (b : BlankTree) → AllPositive es → extents_by (layout_of structs) (member_types ms) ≡ Some es
      → members_blank structs (blanks_within depth structs) start size ms (offsets_from start es) ≡ Some b → (i : ℕ) (m : MemberTree) (o : ℕ) → slice_get ms i ≡ Some m
      → slice_get (offsets_from start es) i ≡ Some o → MemberPart (blanks_within depth structs) (shape_of b) start o m.type
  members_part depth [] es start size b pos p q i m o a c = options.nothing m a
  members_part depth (x ∷ ms) [] start size b pos p q i m o a c = options.nothing o c
  members_part depth (x ∷ ms) (e ∷ es) start size b pos p q i m o a c =
      let w = went (extent_of structs x.type) (λ y. and_then (extents_by (layout_of structs) (member_types ms)) (λ es. Some (y ∷ es))) (e ∷ es) p in
      let v = went (extents_by (layout_of structs) (member_types ms)) (λ es. Some (w.value ∷ es)) (e ∷ es) w.gave in
      let y = followed (blank_by (blanks_within depth structs) x.type) _ b q in
      let n = followed (size_of structs x.type) _ b y.then in
      let rest = followed (members_blank structs (blanks_within depth structs) (rounded_up start e.alignment + n.value) size ms (offsets_from (rounded_up start e.alignment + e.size) es)) _ b n.then in
      let head = heads w.value e v.value es (same_Some _ _ v.gave) in
      let size_is : e.size ≡ n.value = same_Some _ _ (sym (ap (λ o. and_then o (λ (e : Extent). Some e.size)) (w.had ∙ ap Some head.0)) ∙ n.first) in
      go i a c y.value y.first rest.value (same_Some _ b rest.then)
      (shape_width depth x.type y.value n.value y.first n.first ∙ sym size_is)
      (λ j m o a c. members_part depth ms es (rounded_up start e.alignment + e.size) size rest.value pos.1 (v.had ∙ ap Some head.1)
      (subst (λ z. members_blank structs (blanks_within depth structs) (rounded_up start e.alignment + z) size ms (offsets_from (rounded_up start e.alignment + e.size) es) ≡ Some rest.value)
      (sym size_is) rest.first) j m o a c)
    where
      heads : (x y : Extent) (xs ys : List Extent) → (x ∷ xs) ≡ (y ∷ ys) → (x ≡ y) × (xs ≡ ys)
      heads x y xs ys e = (cc, cc)

      first_place : (start offset n : ℕ) → start ≤ offset → n ≡ offset - start → start + (n + 0) ≡ offset
      first_place start offset n h e = omega arith

      later_place : (start offset n w size at o : ℕ) → start ≤ offset → n ≡ offset - start → w ≡ size → offset + size + at ≡ o → start + (n + (w + at)) ≡ o
      later_place start offset n w size at o h e f g = omega arith

      go : (i : ℕ) → slice_get (x ∷ ms) i ≡ Some m → slice_get (offsets_from start (e ∷ es)) i ≡ Some o → (first : BlankTree) → blank_by (blanks_within depth structs) x.type ≡ Some first
          → (rest : BlankTree) → joined (zeros (rounded_up start e.alignment - start)) (joined first rest) ≡ b → width (shape_of first) ≡ e.size
          → ((j : ℕ) (m : MemberTree) (o : ℕ) → slice_get ms j ≡ Some m → slice_get (offsets_from (rounded_up start e.alignment + e.size) es) j ≡ Some o
          → MemberPart (blanks_within depth structs) (shape_of rest) (rounded_up start e.alignment + e.size) o m.type)
          → MemberPart (blanks_within depth structs) (shape_of b) start o m.type
      go zero a c first f rest s wide later = record {
        blank = first;
        is = subst (λ (z : MemberTree). blank_by (blanks_within depth structs) z.type ≡ Some first) (same_Some _ m a) f;
        at = width (bytes (rounded_up start e.alignment - start)) + 0;
        stands = first_place start (rounded_up start e.alignment) (width (bytes (rounded_up start e.alignment - start))) (rounded_above start e.alignment pos.0)
            (width_bytes (rounded_up start e.alignment - start)) ∙ same_Some _ o c;
        part = subst (λ z. Part (shape_of z) (width (bytes (rounded_up start e.alignment - start)) + 0) (shape_of first)) s
            (part_behind (bytes (rounded_up start e.alignment - start)) (shape_of first ++ shape_of rest) (shape_of first) 0 (part_front (shape_of first) (shape_of rest)));
      }
      go (suc j) a c first f rest s wide later =
          let r = later j m o a c in
          record {
            blank = r.blank;
            is = r.is;
            at = width (bytes (rounded_up start e.alignment - start)) + (width (shape_of first) + r.at);
            stands = later_place start (rounded_up start e.alignment) (width (bytes (rounded_up start e.alignment - start))) (width (shape_of first)) e.size r.at o
                (rounded_above start e.alignment pos.0) (width_bytes (rounded_up start e.alignment - start)) wide r.stands;
            part = subst (λ z. Part (shape_of z) (width (bytes (rounded_up start e.alignment - start)) + (width (shape_of first) + r.at)) (shape_of r.blank)) s
                (part_behind (bytes (rounded_up start e.alignment - start)) (shape_of first ++ shape_of rest) (shape_of r.blank) (width (shape_of first) + r.at)
                (part_behind (shape_of first) (shape_of rest) (shape_of r.blank) r.at r.part));
          }

  record SubPart (whole : List Slot) (at : ℕ) (u : TypeTree) : Type 0 where
    depth : ℕ
    blank : BlankTree
    is : BlankOf depth u blank
    part : Part whole at (shape_of blank)

  zero_plus : {m n : ℕ} → 0 + m ≡ n → m ≡ n
  zero_plus h = omega arith

  struct_part : (depth k : ℕ) (u : TypeTree) (i at : ℕ) (b : BlankTree) → blanks_within depth structs k ≡ Some b → part_type structs (struct k) i ≡ Some u
      → part_offset structs (struct k) i ≡ Some at → SubPart (shape_of b) at u
  struct_part zero k u i at b p q r = options.nothing b p
  struct_part (suc depth) k u i at b p q r =
      let ms = followed (struct_of structs k) _ b p in
      let x = followed (layout_of structs k) _ b ms.then in
      let y = went (layout_of structs k) (λ (l : StructLayout). slice_get l.offsets i) at r in
      let l = laid structs k x.value x.first in
      let members = same_Some _ _ (sym l.of ∙ ms.first) in
      let m = went (slice_get l.members i) (λ (m : MemberTree). Some m.type) u (sym (ap (λ o. member_at o i) l.of) ∙ q) in
      let offsets : slice_get x.value.offsets i ≡ Some at = ap (λ (z : StructLayout). slice_get z.offsets i) (same_Some _ _ (sym x.first ∙ y.had)) ∙ y.gave in
      let part = members_part depth l.members l.extents 0 x.value.size b l.positive l.are
      (subst (λ (z : StructLayout). members_blank structs (blanks_within depth structs) 0 x.value.size l.members z.offsets ≡ Some b) (sym l.is)
      (subst (λ z. members_blank structs (blanks_within depth structs) 0 x.value.size z x.value.offsets ≡ Some b) (sym members) x.then))
      i m.value at m.had (subst (λ (z : StructLayout). slice_get z.offsets i ≡ Some at) (sym l.is) offsets) in
      record {
        depth = depth;
        blank = part.blank;
        is = subst (λ z. BlankOf depth z part.blank) (same_Some _ u m.gave) part.is;
        part = part_at (shape_of b) (shape_of part.blank) part.at at (zero_plus part.stands) part.part;
      }

  part_shape : (depth : ℕ) (t u : TypeTree) (i at : ℕ) (b : BlankTree) → BlankOf depth t b → part_type structs t i ≡ Some u → part_offset structs t i ≡ Some at
      → SubPart (shape_of b) at u
  part_shape depth (array t m) u i at b p q r =
      let c = followed (blank_by (blanks_within depth structs) t) _ b p in
      let size = followed (size_of structs t) _ at r in
      let there = chosen (nat_lt i m) refl q in
      record {
        depth = depth;
        blank = c.value;
        is = subst (λ z. BlankOf depth z c.value) there.1 c.first;
        part = subst (λ z. Part (shape_of z) at (shape_of c.value)) (same_Some _ b c.then)
            (part_at (copies m (shape_of c.value)) (shape_of c.value) (width (shape_of c.value) * i) at
            (ap (λ z. z * i) (shape_width depth t c.value size.value c.first size.first) ∙ same_Some _ at size.then) (part_copy m i (shape_of c.value) (below i m there.0)));
      }
    where
      below : (i m : ℕ) → nat_lt i m ≡ true → i < m
      below i m h = grind (arith, nat_tests)

      chosen : (b : Bool) → nat_lt i m ≡ b → (if b then Some t else None) ≡ Some u → (nat_lt i m ≡ true) × (t ≡ u)
      chosen true h e = (h, same_Some _ u e)
      chosen false h e = options.nothing u e
  part_shape depth (struct k) u i at b p q r = struct_part depth k u i at b p q r
  part_shape depth int u i at b p q r = options.nothing u q
  part_shape depth unsigned u i at b p q r = options.nothing u q
  part_shape depth char u i at b p q r = options.nothing u q
  part_shape depth void u i at b p q r = options.nothing u q
  part_shape depth (pointer t) u i at b p q r = options.nothing u q

-- ---- initial values

first_holds : (v : Bool) → (v || false) ≡ true → v ≡ true
first_holds true e = refl
first_holds false e = e

-- a text is for an array of `char`
text_array : (w : TypeTree) (n : ℕ) (o : Option (List ℕ)) → holds_text (array w n) o ≡ true → w ≡ char
text_array char n o e = refl
text_array int n o e = never e
text_array unsigned n o e = never e
text_array void n o e = never e
text_array (pointer t) n o e = never e
text_array (array t m) n o e = never e
text_array (struct k) n o e = never e

module _ (s : Scope) (has : HasTypes s.context) (shape : List Slot) where
  abbrev c : Context
  c = s.context

  abbrev structs : Structs
  structs = s.context.structs

  -- new cells of the shape of a part
  pub record Written (at : ℕ) (new : List Cell) : Type 0 where
    pub slots : List Slot
    pub part : Part shape at slots
    pub conforms : Conforms slots new

  written : (at : ℕ) (slots : List Slot) (new made : List Cell) → Some made ≡ Some new → Part shape at slots → Conforms slots made → Written at new
  written at slots new made e p h = record { slots = slots; part = p; conforms = subst (λ z. Conforms slots z) (same_Some made new e) h }

  blank_part : (at : ℕ) (b d : BlankTree) → Some d ≡ Some b → Part shape at (shape_of b) → Part shape at (shape_of d)
  blank_part at b d e p = subst (λ z. Part shape at (shape_of z)) (sym (same_Some d b e)) p

  value_written : (depth : ℕ) (t : TypeTree) (at : ℕ) (b : BlankTree) (e : ExprTree) (u : TypeTree) (new : List Cell) → BlankOf structs depth t b → Part shape at (shape_of b)
      → fits_variable true c t e u ≡ true → piece_cells s (record { offset = at; type = t; expression = e }) ≡ Some new → Written at new
  value_written depth int at b e u new p part fit q =
      let n = followed (constant_of c e) _ new q in written at (bytes 4) new _ n.then (blank_part at b _ p part) (number_conforms 4 n.value)
  value_written depth unsigned at b e u new p part fit q =
      let n = followed (constant_of c e) _ new q in written at (bytes 4) new _ n.then (blank_part at b _ p part) (number_conforms 4 n.value)
  value_written depth char at b e u new p part fit q =
      let n = followed (constant_of c e) _ new q in written at (bytes 1) new _ n.then (blank_part at b _ p part) (number_conforms 1 n.value)
  value_written depth void at b e u new p part fit q = options.nothing b p
  value_written depth (pointer t) at b e u new p part fit q =
      let n = followed (pointer_constant s e) _ new q in written at (copies 1 (a_pointer ∷ [])) new _ n.then (blank_part at b _ p part) (with_pointer n.value none)
  value_written depth (array w n) at b e u new p part fit q =
      let x = followed (text_of e) _ new q in
      let is_char = text_array w n (text_of e) (first_holds (holds_text (array w n) (text_of e)) fit) in
      let chars = blank_part at b _ (subst (λ z. BlankOf structs depth (array z n) b) is_char p) part in
      let taken = taken_bytes n (length x.value + 1) (text_cells x.value) (text_conforms x.value) in
      written at (bytes taken.count) new _ x.then
      (part_at shape (bytes taken.count) (at + 0) at (plus_zero at) (part_next shape (bytes n) (bytes taken.count) at 0 chars (part_bytes n taken.count taken.within))) taken.conforms
    where
      plus_zero : (n : ℕ) → n + 0 ≡ n
      plus_zero n = omega arith
  value_written depth (struct k) at b e u new p part fit q = never fit

  -- ---- pieces

  abbrev pub AllWritten : List Piece → Type 0
  AllWritten [] = Unit {0}
  AllWritten (p ∷ ps) = ((new : List Cell) → piece_cells s p ≡ Some new → Written p.offset new) × AllWritten ps

  joined_pieces : (ps qs : List Piece) → AllWritten ps → AllWritten qs → AllWritten (ps ++ qs)
  joined_pieces [] qs h k = k
  joined_pieces (p ∷ ps) qs h k = (h.0, joined_pieces ps qs h.1 k)

  pub over_there : (ps : List Piece) (cells out : List Cell) → AllWritten ps → Conforms shape cells → pieces_over s ps cells ≡ Some out → Conforms shape out
  over_there [] cells out h k q = subst (λ z. Conforms shape z) (same_Some cells out q) k
  over_there (p ∷ ps) cells out h k q =
      let new = followed (piece_cells s p) _ out q in
      let w = h.0 new.value new.first in
      over_there ps (written_over cells p.offset new.value) out h.1 (over_conforms shape w.slots p.offset cells new.value w.part k w.conforms) new.then

  fitting : (t : TypeTree) (e : ExprTree) → fits_typed (type_of c e) (fits_variable true c t e) ≡ true → (u : TypeTree) × (fits_variable true c t e u ≡ true)
  fitting t e h = go (type_of c e) h
    where
      go : (o : Option TypeTree) → fits_typed o (fits_variable true c t e) ≡ true → (u : TypeTree) × (fits_variable true c t e u ≡ true)
      go None h = never h
      go (Some u) h = (u, h)

  all_elements_typed : (is : Initialisers) (u : TypeTree) (k : ℕ) → elements_faults true c (Some u) k is ≡ [] → elements_typed c is ≡ true
  all_elements_typed no_initialisers u k h = refl
  all_elements_typed (initialiser_and (trees.value e) is) u k h =
      and_from _ _ (ap is_some (type_of_known c has e whole (none_left _ _ h)).is) (all_elements_typed is u (k + 1) (none_right (expr_faults c whole e) _ h))
  all_elements_typed (initialiser_and (trees.list node inner) is) u k h =
      all_elements_typed is u (k + 1) (none_right (initialiser_faults true c (part_type structs u k) (trees.list node inner)) _ h)

  elements_kept : (typed takes fits : Bool) → typed ≡ true → takes ≡ true → breaks_one (if typed && takes then keeps rules.InitialiserType fits else []) ≡ false → fits ≡ true
  elements_kept true true true e f h = refl
  elements_kept true true false e f h = never (sym h)
  elements_kept true false fits e f h = never f
  elements_kept false takes fits e f h = never e

  mutual
    pub pieces_written : (init : InitialiserTree) (depth : ℕ) (t : TypeTree) (at : ℕ) (b : BlankTree) (ps : List Piece) → BlankOf structs depth t b → Part shape at (shape_of b)
        → element_fits true c (Some t) init ≡ true → initialiser_faults true c (Some t) init ≡ [] → pieces structs t at init ≡ Some ps → AllWritten ps
    pieces_written (trees.value e) depth t at b ps p part fit f q =
        let x = fitting t e fit in
        subst AllWritten (same_Some _ ps q) ((λ new r. value_written depth t at b e x.0 new p part x.1 r), tt)
    pieces_written (trees.list node is) depth t at b ps p part fit f q =
        let inner = none_right (faults_of node.id (list_tests true c t is)) (elements_faults true c (Some t) 0 is) f in
        let tests = unbroken node.id (list_tests true c t is) (none_left (faults_of node.id (list_tests true c t is)) (elements_faults true c (Some t) 0 is) f) in
        elements_written is depth t at b 0 ps p part
        (elements_kept (elements_typed c is) (takes_list t) (elements_fit true c (Some t) 0 is) (all_elements_typed is t 0 inner) (fits_takes structs t is fit) tests) inner q

    elements_written : (is : Initialisers) (depth : ℕ) (t : TypeTree) (at : ℕ) (b : BlankTree) (k : ℕ) (ps : List Piece) → BlankOf structs depth t b → Part shape at (shape_of b)
        → elements_fit true c (Some t) k is ≡ true → elements_faults true c (Some t) k is ≡ [] → pieces_from structs t at k is ≡ Some ps → AllWritten ps
    elements_written no_initialisers depth t at b k ps p part fit f q = subst AllWritten (same_Some _ ps q) tt
    elements_written (initialiser_and first is) depth t at b k ps p part fit f q =
        let u = followed (part_type structs t k) _ ps q in
        let offset = followed (part_offset structs t k) _ ps u.then in
        let now = followed (pieces structs u.value (at + offset.value) first) _ ps offset.then in
        let later = followed (pieces_from structs t at (k + 1) is) _ ps now.then in
        let sub = part_shape structs depth t u.value k offset.value b p u.first offset.first in
        let fit_first : element_fits true c (part_type structs t k) first ≡ true = first_so _ _ fit in
        subst AllWritten (same_Some _ ps later.then) (joined_pieces now.value later.value
        (pieces_written first sub.depth u.value (at + offset.value) sub.blank now.value sub.is
        (part_next shape (shape_of b) (shape_of sub.blank) at offset.value part sub.part)
        (subst (λ o. element_fits true c o first ≡ true) u.first fit_first)
        (subst (λ o. initialiser_faults true c o first ≡ []) u.first (none_left _ _ f)) now.first)
        (elements_written is depth t at b (k + 1) later.value p part (second_so (element_fits true c (part_type structs t k) first) _ fit)
        (none_right (initialiser_faults true c (part_type structs t k) first) _ f) later.first))
