-- What is small stays so where structs are declared and defined.
use Rattle.std.proofs.Common.{◌≡◌, ◌≤◌, ◌⊎◌, inl, inr, ℕ, ◌+◌, nat_le, max, Bool, ◌||◌, true, false, ◌&&◌, List, [], ◌∷◌, ◌++◌, Option, Some, None, is_some, slice_set, refl, sym, ap, ◌∙◌, subst, arith, if◌then◌else◌, length}
use Rattle.std.specs.List.{list_all, slice_get}
use Rattle.std.proofs.lemmas.Bool.Decides.{nat_tests}
use Rattle.std.proofs.lemmas.List.Folds.{list_all-append}
use Rattle.std.proofs.lemmas.Bool.{and_from}
use Rattle.std.specs.Cmp.{first_so, second_so}
use Rattle.std.proofs.lemmas.Option.{same_Some}
use Rattle.qs_syntax.specs.declared.types.Base.{Base}
use Rattle.qs_syntax.specs.Trees.{DeclaratorTree, MembersTree, StructTree, DefinedTree, of_struct, of_base, TypedefTree}
use Rattle.qs_types.specs.declared.extent.Extent.{Extent}
use Rattle.qs_types.specs.Types.{TypeTree, int, unsigned, char, void, pointer, array, struct, MemberTree, Structs}
use Rattle.qs_types.specs.Types as types
use Rattle.qs_types.specs.Layout.{and_then, StructLayout, Layouts, array_extent, struct_extent, struct_layout, extents_by, extent_of, end_from, rounded_up, strictest, member_types, struct_of, defined_structs, layout_of, size_limit, extent_within, layout_within, sized_by, all_sized_by, sized_layout, is_sized, with_members}
use Rattle.qs_types.specs.Rules.{Test, test, breaks_one, faults_of}
use Rattle.qs_types.specs.declared.rules.Rule.TheVariants as rules
use Rattle.qs_types.specs.Contexts.{Context, tag_place, Tag, NamedType, named_in, type_in, add_type, is_type_name}
use Rattle.qs_types.specs.Declarations.{all_typed, Declared, declared, type_name_declared}
use Rattle.qs_types.specs.UnitRules.{with_tag, Before, no_members, has_room, option_extent, with_room_tests, member_declared, is_name_in, is_member, with_member, after_member, after_together, after_members, has_no_members, define_at, after_struct, member_tests, member_faults, together_faults, members_faults, struct_faults, with_new_tag, with_option_tag, option_place, is_option_defined, with_base_tag, after_defined, struct_at, defined_type, defined_faults, after_type_name, after_type_names, after_typedef, type_names_faults, typedef_faults}
use Rattle.qs_meaning.specs.FitLaws.{has_declarators, members_filled, defined_filled}
use Rattle.qs_meaning.specs.Names.{Scope, within}
use Rattle.qs_meaning.specs.TypedLaws.{IsFileScope}
use Rattle.qs_meaning.proofs.Options.{never, nothing, went, known}
use Rattle.qs_meaning.proofs.FaultlessExpressions.{none_left, none_right, unbroken, first_unbroken, second_unbroken}
use Rattle.qs_meaning.proofs.TypedExpressions.{kept}
use Rattle.qs_meaning.proofs.Bindings.{has_types}
use Rattle.qs_meaning.proofs.Bodies.{declared_known, lengths_typed}
use Rattle.qs_meaning.proofs.FunctionsTyped.{file_sound}
use Rattle.qs_meaning.proofs.StructTables.{GoesOn, Grown, extents_grow, layout_grows, some_grows, appended_back, appended_goes_on, set_keeps, IsNew, set_back, set_count, with_option_tag_known}
use Rattle.qs_meaning.proofs.FitTypes.{is_small, IsRoom, SmallTable, sized_is, room, extents_positive, layouts_positive, rounded_above, ends_behind, laid_as, SmallNames}
use Rattle.qs_meaning.proofs.FitLayouts.{laid}
use Rattle.qs_meaning.proofs.FitDeclarations.{declared_small, type_name_small}
use Rattle.qs_syntax.specs.declared.types.Base.TheVariants as bases
use Rattle.qs_base.specs.Bytes.{same_bytes}
use Rattle.qs_meaning.proofs.FitSmall.{SmallOption, base_small}

-- ---- types

sized_grows : (layouts more : Layouts) → Grown layouts more → (t : TypeTree) (e : Extent) → sized_by layouts t ≡ Some e → sized_by more t ≡ Some e
sized_grows layouts more g int e h = h
sized_grows layouts more g unsigned e h = h
sized_grows layouts more g char e h = h
sized_grows layouts more g void e h = nothing e h
sized_grows layouts more g (pointer t) e h = h
sized_grows layouts more g (array t n) e h =
    let w = went (sized_by layouts t) (λ (x : Extent). extent_within (array_extent x n)) e h in
    ap (λ o. and_then o (λ (x : Extent). extent_within (array_extent x n))) (sized_grows layouts more g t w.value w.had) ∙ w.gave
sized_grows layouts more g (struct k) e h =
    let w = went (layouts k) (λ (l : StructLayout). extent_within (struct_extent l)) e h in
    ap (λ o. and_then o (λ (l : StructLayout). extent_within (struct_extent l))) (g k w.value w.had) ∙ w.gave

small_grows : (structs more : Structs) → GoesOn structs more → (t : TypeTree) → is_small structs t ≡ true → is_small more t ≡ true
small_grows structs more g int h = h
small_grows structs more g unsigned h = h
small_grows structs more g char h = h
small_grows structs more g void h = h
small_grows structs more g (pointer t) h = small_grows structs more g t h
small_grows structs more g (array t n) h =
    and_from _ _ (and_from _ _ (first_so _ _ (first_so _ _ h))
    (some_grows (sized_by (layout_of structs) (array t n)) (sized_by (layout_of more) (array t n))
    (sized_grows (layout_of structs) (layout_of more) (layout_grows structs more g) (array t n)) (second_so (nat_le 1 n) _ (first_so _ _ h))))
    (small_grows structs more g t (second_so (nat_le 1 n && is_sized structs (array t n)) _ h))
small_grows structs more g (struct k) h = h

members_grow : (structs more : Structs) → GoesOn structs more → (ms : List MemberTree) → list_all (λ (m : MemberTree). is_small structs m.type) ms ≡ true
    → list_all (λ (m : MemberTree). is_small more m.type) ms ≡ true
members_grow structs more g [] h = refl
members_grow structs more g (m ∷ ms) h =
    and_from _ _ (small_grows structs more g m.type (first_so _ _ h)) (members_grow structs more g ms (second_so (is_small structs m.type) _ h))

-- a struct that had members before is as large as before
old_size : (structs more : Structs) → GoesOn structs more → SmallTable structs → (k : ℕ) (l : StructLayout) → is_some (layout_of structs k) ≡ true → layout_of more k ≡ Some l
    → IsRoom l.size
old_size structs more g table k l e p =
    let old = known (layout_of structs k) e in
    subst (λ (z : StructLayout). IsRoom z.size) (same_Some old.value l (sym (layout_grows structs more g k old.value old.is) ∙ p)) (table.sizes k old.value old.is)

-- ---- what is known behind a declaration of a struct

pub record After (c d : Context) : Type 0 where
  pub table : SmallTable d.structs
  pub grows : (t : TypeTree) → is_small c.structs t ≡ true → is_small d.structs t ≡ true
  pub inner : d.inner ≡ c.inner
  pub outer : d.outer ≡ c.outer
  pub jumps : (d.in_loop || d.in_switch) ≡ (c.in_loop || c.in_switch)
  pub named : SmallNames c.structs c.type_names → SmallNames d.structs d.type_names

unchanged_after : (c : Context) → SmallTable c.structs → After c c
unchanged_after c table = record { table = table; grows = λ t h. h; inner = refl; outer = refl; jumps = refl; named = λ n. n }

pub after_next : (c d e : Context) → After c d → After d e → After c e
after_next c d e h k = record {
  table = k.table;
  grows = λ t s. k.grows t (h.grows t s);
  inner = k.inner ∙ h.inner;
  outer = k.outer ∙ h.outer;
  jumps = k.jumps ∙ h.jumps;
  named = λ n. k.named (h.named n);
}

-- one more struct, with a tag or without
appended_after : (c : Context) (tags : List Tag) → IsFileScope c → SmallTable c.structs
    → After c (record c { structs = c.structs ++ None ∷ []; type_names = record c.type_names { tags = tags } })
appended_after c tags h table = record {
  table = record {
    members = λ k ms e. members_grow c.structs (c.structs ++ None ∷ []) g ms (table.members k ms (appended_back c.structs k ms e));
    sizes = size;
  };
  grows = small_grows c.structs (c.structs ++ None ∷ []) g;
  inner = refl;
  outer = refl;
  jumps = refl;
  named = λ n. record { each = λ x t e. small_grows c.structs (c.structs ++ None ∷ []) g t (n.each x t e) };
}
  where
    g : GoesOn c.structs (c.structs ++ None ∷ [])
    g = appended_goes_on c.structs

    size : (k : ℕ) (l : StructLayout) → layout_of (c.structs ++ None ∷ []) k ≡ Some l → IsRoom l.size
    size k l p =
        let a = laid_as (c.structs ++ None ∷ []) (defined_structs (c.structs ++ None ∷ [])) k l p in
        old_size c.structs (c.structs ++ None ∷ []) g table k l (h.laid_out k a.members (appended_back c.structs k a.members a.of)) p

pub tag_after : (c : Context) (tag : List ℕ) → IsFileScope c → SmallTable c.structs → After c (with_tag c tag)
tag_after c tag h table = go (is_some (tag_place c tag))
  where
    go : (b : Bool) → After c (if b then c else with_new_tag c tag)
    go true = unchanged_after c table
    go false = appended_after c (c.type_names.tags ++ record { name = tag; place = length c.structs } ∷ []) h table

option_after : (c : Context) (tag : Option (List ℕ)) → IsFileScope c → SmallTable c.structs → After c (with_option_tag c tag)
option_after c None h table = appended_after c c.type_names.tags h table
option_after c (Some tag) h table = tag_after c tag h table

-- ---- the members of a struct

all_sized_is : (layouts : Layouts) (ts : List TypeTree) (es : List Extent) → all_sized_by layouts ts ≡ Some es → extents_by layouts ts ≡ Some es
all_sized_is layouts [] es p = p
all_sized_is layouts (t ∷ ts) es p =
    let w = went (sized_by layouts t) (λ e. and_then (all_sized_by layouts ts) (λ es. Some (e ∷ es))) es p in
    let v = went (all_sized_by layouts ts) (λ es. Some (w.value ∷ es)) es w.gave in
    ap (λ o. and_then o (λ e. and_then (extents_by layouts ts) (λ es. Some (e ∷ es)))) (sized_is layouts t w.value w.had)
    ∙ (ap (λ o. and_then o (λ es. Some (w.value ∷ es))) (all_sized_is layouts ts v.value v.had) ∙ v.gave)

abbrev has_members : List MemberTree → Bool
has_members [] = false
has_members (m ∷ ms) = true

-- the extents of members that are small leave no room for nothing
extents_room : (structs : Structs) → SmallTable structs → (ms : List MemberTree) (es : List Extent) → has_members ms ≡ true
    → list_all (λ (m : MemberTree). is_small structs m.type) ms ≡ true → extents_by (layout_of structs) (member_types ms) ≡ Some es → 1 ≤ end_from 0 es
extents_room structs table [] es has small p = never has
extents_room structs table (m ∷ ms) es has small p =
    let w = went (extent_of structs m.type) (λ e. and_then (extents_by (layout_of structs) (member_types ms)) (λ es. Some (e ∷ es))) es p in
    let v = went (extents_by (layout_of structs) (member_types ms)) (λ es. Some (w.value ∷ es)) es w.gave in
    let first = (room structs table m.type (first_so _ _ small) w.value w.had).least in
    let positive = extents_positive (layout_of structs) (layouts_positive (defined_structs structs) structs) (member_types ms) v.value v.had in
    let behind = ends_behind v.value (rounded_up 0 w.value.alignment + w.value.size) positive in
    subst (λ z. 1 ≤ end_from 0 z) (same_Some _ es v.gave) (omega arith)

greater : (a b : ℕ) → 1 ≤ b → 1 ≤ max a b
greater a b h = grind arith

strict_positive : (es : List Extent) → 1 ≤ strictest es
strict_positive [] = omega arith
strict_positive (e ∷ es) = greater e.alignment (strictest es) (strict_positive es)

layout_most : (l m : StructLayout) → layout_within l ≡ Some m → l.size ≤ 16777216
layout_most l m p = go (nat_le l.size size_limit) refl p
  where
    at_most : (n : ℕ) → nat_le n size_limit ≡ true → n ≤ 16777216
    at_most n h = grind (arith, nat_tests)

    go : (b : Bool) → nat_le l.size size_limit ≡ b → (if b then Some l else None) ≡ Some m → l.size ≤ 16777216
    go true h q = at_most l.size h
    go false h q = nothing m q

module _ (c : Context) (h : IsFileScope c) (table : SmallTable c.structs) (k : ℕ) (new : List MemberTree) (free : struct_of c.structs k ≡ None)
    (sized : is_some (sized_layout (layout_of c.structs) (member_types new)) ≡ true)
    (has : has_members new ≡ true) (small : list_all (λ (m : MemberTree). is_small c.structs m.type) new ≡ true) where
  abbrev more : Structs
  more = slice_set c.structs k (Some new)

  goes_on : GoesOn c.structs more
  goes_on = record { keeps = set_keeps c.structs k new free; count = set_count c.structs k new free }

  new_size : (j : ℕ) (l : StructLayout) (ms : List MemberTree) → new ≡ ms → struct_of more j ≡ Some ms → layout_of more j ≡ Some l → IsRoom l.size
  new_size j l ms is of p =
      let s = known (sized_layout (layout_of c.structs) (member_types new)) sized in
      let w = went (all_sized_by (layout_of c.structs) (member_types new)) (λ es. layout_within (struct_layout es)) s.value s.is in
      let old = all_sized_is (layout_of c.structs) (member_types new) w.value w.had in
      let grown = extents_grow (layout_of c.structs) (layout_of more) (layout_grows c.structs more goes_on) (member_types new) w.value old in
      let a = laid more j l p in
      let extents = same_Some _ _ (sym a.are ∙ (ap (λ z. extents_by (layout_of more) (member_types z)) (same_Some _ _ (sym a.of ∙ of) ∙ sym is) ∙ grown)) in
      let layout = ap struct_layout (sym extents) ∙ a.is in
      let least = extents_room c.structs table new w.value has small old in
      let above = rounded_above (end_from 0 w.value) (strictest w.value) (strict_positive w.value) in
      subst (λ (z : StructLayout). IsRoom z.size) layout (record { least = omega arith; most = layout_most (struct_layout w.value) s.value w.gave })

  defined_after : After c (record c { structs = slice_set c.structs k (Some new) })
  defined_after = record {
    table = record {
      members = λ j ms e. members_of j ms (set_back c.structs k new free j ms e);
      sizes = λ j l p. let a = laid_as more (defined_structs more) j l p in size j l p a.members a.of (set_back c.structs k new free j a.members a.of);
    };
    grows = small_grows c.structs more goes_on;
    inner = refl;
    outer = refl;
    jumps = refl;
    named = λ n. record { each = λ x t e. small_grows c.structs more goes_on t (n.each x t e) };
  }
    where
      members_of : (j : ℕ) (ms : List MemberTree) → (struct_of c.structs j ≡ Some ms) ⊎ IsNew c.structs k new ms → list_all (λ (m : MemberTree). is_small more m.type) ms ≡ true
      members_of j ms (inl e) = members_grow c.structs more goes_on ms (table.members j ms e)
      members_of j ms (inr f) = subst (λ z. list_all (λ (m : MemberTree). is_small more m.type) z ≡ true) f.is (members_grow c.structs more goes_on new small)

      size : (j : ℕ) (l : StructLayout) → layout_of more j ≡ Some l → (ms : List MemberTree) → struct_of more j ≡ Some ms
          → (struct_of c.structs j ≡ Some ms) ⊎ IsNew c.structs k new ms → IsRoom l.size
      size j l p ms of (inl e) = old_size c.structs more goes_on table j l (h.laid_out j ms e) p
      size j l p ms of (inr f) = new_size j l ms f.is of p

define_after : (c : Context) → IsFileScope c → SmallTable c.structs → (new : List MemberTree) (o : Option ℕ) → has_members new ≡ true
    → list_all (λ (m : MemberTree). is_small c.structs m.type) new ≡ true → After c (define_at c new o)
define_after c h table new None has small = unchanged_after c table
define_after c h table new (Some k) has small = given_members (has_no_members (slice_get c.structs k)) refl
  where
    without : (o : Option types.StructTree) → has_no_members o ≡ true → and_then o (λ s. s) ≡ None
    without None e = never e
    without (Some None) e = refl
    without (Some (Some ms)) e = never e

    sized : (b : Bool) → is_some (sized_layout (layout_of c.structs) (member_types new)) ≡ b → struct_of c.structs k ≡ None
        → After c (record c { structs = with_members b c.structs k new })
    sized false e n = record { table = table; grows = λ t h. h; inner = refl; outer = refl; jumps = refl; named = λ n. n }
    sized true e n = defined_after c h table k new n e has small

    given_members : (b : Bool) → has_no_members (slice_get c.structs k) ≡ b
        → After c (if b then record c { structs = with_members (is_some (sized_layout (layout_of c.structs) (member_types new))) c.structs k new } else c)
    given_members true e = sized (is_some (sized_layout (layout_of c.structs) (member_types new))) refl (without (slice_get c.structs k) e)
    given_members false e = unchanged_after c table

-- ---- the members that a declaration gives

module _ (c : Context) (named : SmallNames c.structs c.type_names) where
  abbrev AllSmall : List MemberTree → Type 0
  AllSmall ms = list_all (λ (m : MemberTree). is_small c.structs m.type) ms ≡ true

  room_type : (end : ℕ) (d : Declared) (t : TypeTree) → (with_room_tests c end d).type ≡ Some t → d.type ≡ Some t
  room_type end d t e = go (has_room end (option_extent c.structs d.type)) e
    where
      go : (b : Bool) → (if b then d.type else None) ≡ Some t → d.type ≡ Some t
      go true e = e
      go false e = nothing t e

  member_is_small : (end : ℕ) (base : Base) (d : DeclaratorTree) (t : TypeTree) → (member_declared c end base d).type ≡ Some t → is_small c.structs t ≡ true
  member_is_small end base d t e = (declared_small c named base d None t (λ n p. nothing n p) (room_type end (declared c base d None) t e)).small

  with_member_small : (before : Before) (x : List ℕ) (o : Option TypeTree) → ((t : TypeTree) → o ≡ Some t → is_small c.structs t ≡ true) → AllSmall before.members
      → AllSmall (with_member c.structs before x o).members
  with_member_small before x None small h = h
  with_member_small before x (Some t) small h = go (is_member x before.members)
    where
      go : (b : Bool) → AllSmall (if b then before.members else before.members ++ record { name = x; type = t } ∷ [])
      go true = h
      go false = list_all-append (λ (m : MemberTree). is_small c.structs m.type) before.members (record { name = x; type = t } ∷ []) ∙ and_from _ _ h (and_from _ _ (small t refl) refl)

  together_small : (before : Before) (base : Base) (ds : List DeclaratorTree) → AllSmall before.members → AllSmall (after_together c before base ds).members
  together_small before base [] h = h
  together_small before base (d ∷ ds) h =
      together_small (after_member c before base d) base ds
      (with_member_small before d.name (member_declared c before.end base d).type (member_is_small before.end base d) h)

  members_small : (before : Before) (ms : List MembersTree) → AllSmall before.members → AllSmall (after_members c before ms).members
  members_small before [] h = h
  members_small before (m ∷ ms) h = members_small (after_together c before m.base m.declarators) ms (together_small before m.base m.declarators h)

  -- ---- there is one

  with_member_any : (before : Before) (x : List ℕ) (o : Option TypeTree) → has_members before.members ≡ true → has_members (with_member c.structs before x o).members ≡ true
  with_member_any before x None h = h
  with_member_any before x (Some t) h = go (is_member x before.members)
    where
      longer : (ms : List MemberTree) (m : MemberTree) → has_members (ms ++ m ∷ []) ≡ true
      longer [] m = refl
      longer (x ∷ ms) m = refl

      go : (b : Bool) → has_members (if b then before.members else before.members ++ record { name = x; type = t } ∷ []) ≡ true
      go true = h
      go false = longer before.members (record { name = x; type = t })

  together_any : (before : Before) (base : Base) (ds : List DeclaratorTree) → has_members before.members ≡ true → has_members (after_together c before base ds).members ≡ true
  together_any before base [] h = h
  together_any before base (d ∷ ds) h =
      together_any (after_member c before base d) base ds (with_member_any before d.name (member_declared c before.end base d).type h)

  members_any : (before : Before) (ms : List MembersTree) → has_members before.members ≡ true → has_members (after_members c before ms).members ≡ true
  members_any before [] h = h
  members_any before (m ∷ ms) h = members_any (after_together c before m.base m.declarators) ms (together_any before m.base m.declarators h)

  first_any : IsFileScope c → (s : Scope) → (base : Base) (d : DeclaratorTree) → member_faults c no_members base d ≡ []
      → has_members (after_member c no_members base d).members ≡ true
  first_any h s base d f =
      let typed = lengths_typed c (has_types (within s c) [] (file_sound s c [] h)) d.lengths.given (none_right (faults_of d.node.id (member_tests c no_members base d)) _ f) in
      let tests = tests_in (all_typed c d.lengths.given) _ typed (unbroken d.node.id (member_tests c no_members base d) (none_left (faults_of d.node.id (member_tests c no_members base d)) _ f)) in
      let own = first_unbroken (member_declared c 0 base d).tests (test rules.MemberTwice (is_name_in d.name [])) tests in
      let known_type = declared_known c base d None typed (first_unbroken (declared c base d None).tests _ own) in
      let fits = kept (has_room 0 (option_extent c.structs (declared c base d None).type)) (second_unbroken (declared c base d None).tests _ own) in
      any known_type.type (ap (λ b. if b then (declared c base d None).type else None) fits ∙ known_type.is)
    where
      tests_in : (b : Bool) (ts : List Test) → b ≡ true → breaks_one (if b then ts else []) ≡ false → breaks_one ts ≡ false
      tests_in true ts e h = h
      tests_in false ts e h = never e

      any : (t : TypeTree) → (member_declared c 0 base d).type ≡ Some t → has_members (after_member c no_members base d).members ≡ true
      any t e = subst (λ o. has_members (with_member c.structs no_members d.name o).members ≡ true) (sym e) refl

  struct_any : IsFileScope c → (s : Scope) → (ms : List MembersTree) → members_filled ms ≡ true → members_faults c no_members ms ≡ []
      → has_members (after_members c no_members ms).members ≡ true
  struct_any h s [] filled f = never filled
  struct_any h s (m ∷ ms) filled f = members_any (after_together c no_members m.base m.declarators) ms (group m.declarators filled (none_left _ _ f))
    where
      group : (ds : List DeclaratorTree) → has_declarators ds ≡ true → together_faults c no_members m.base ds ≡ [] → has_members (after_together c no_members m.base ds).members ≡ true
      group [] e f = never e
      group (d ∷ ds) e f = together_any (after_member c no_members m.base d) m.base ds (first_any h s m.base d (none_left _ _ f))

pub struct_after : (s₀ : Scope) (c : Context) (s : StructTree) → IsFileScope c → SmallTable c.structs → SmallNames c.structs c.type_names → members_filled s.members ≡ true
    → struct_faults c s ≡ [] → After c (after_struct c s)
struct_after s₀ c s h table named filled f =
    let opened = with_option_tag c s.name in
    let tagged = option_after c s.name h table in
    let scope = with_option_tag_known c s.name h in
    let faults = none_right (faults_of s.node.id (test rules.UnknownTag (is_option_defined c s.name))) (members_faults opened no_members s.members) f in
    let small = tagged.named named in
    after_next c opened (after_struct c s) tagged
    (define_after opened scope tagged.table (after_members opened no_members s.members).members (option_place c s.name)
    (struct_any opened small scope s₀ s.members filled faults) (members_small opened small no_members s.members refl))

-- ---- names of types

base_after : (c : Context) (b : Base) → IsFileScope c → SmallTable c.structs → After c (with_base_tag c b)
base_after c bases.Void h table = unchanged_after c table
base_after c bases.Int h table = unchanged_after c table
base_after c bases.Unsigned h table = unchanged_after c table
base_after c bases.Char h table = unchanged_after c table
base_after c (bases.Struct tag) h table = tag_after c tag h table
base_after c (bases.Named x) h table = unchanged_after c table

defined_after_all : (s₀ : Scope) (c : Context) (d : DefinedTree) → IsFileScope c → SmallTable c.structs → SmallNames c.structs c.type_names → defined_filled d ≡ true
    → defined_faults c d ≡ [] → After c (after_defined c d)
defined_after_all s₀ c (of_struct s) h table named filled f = struct_after s₀ c s h table named filled f
defined_after_all s₀ c (of_base b) h table named filled f = base_after c b h table

-- the type that gets names is small
defined_small : (c : Context) (d : DefinedTree) → SmallNames (after_defined c d).structs (after_defined c d).type_names
    → SmallOption (after_defined c d).structs (defined_type c d)
defined_small c (of_struct s) named = go (option_place c s.name)
  where
    go : (o : Option ℕ) → SmallOption (after_struct c s).structs (struct_at o)
    go None = tt
    go (Some k) = refl
defined_small c (of_base b) named = base_small (with_base_tag c b).structs (with_base_tag c b).type_names named b

-- a name is one of those before, or the new one
appended_named : (x y : List ℕ) (t : Option TypeTree) (ns : List NamedType) (u : TypeTree)
    → and_then (named_in y (ns ++ record { name = x; type = t } ∷ [])) (λ t. t) ≡ Some u → (and_then (named_in y ns) (λ t. t) ≡ Some u) ⊎ (t ≡ Some u)
appended_named x y t [] u e = go (same_bytes x y) e
  where
    go : (b : Bool) → and_then (if b then Some t else None) (λ t. t) ≡ Some u → (None ≡ Some u) ⊎ (t ≡ Some u)
    go true e = inr e
    go false e = inl e
appended_named x y t (n ∷ ns) u e = go (same_bytes n.name y) (appended_named x y t ns u) e
  where
    go : (b : Bool) → (and_then (named_in y (ns ++ record { name = x; type = t } ∷ [])) (λ t. t) ≡ Some u → (and_then (named_in y ns) (λ t. t) ≡ Some u) ⊎ (t ≡ Some u))
        → and_then (if b then Some n.type else named_in y (ns ++ record { name = x; type = t } ∷ [])) (λ t. t) ≡ Some u
        → (and_then (if b then Some n.type else named_in y ns) (λ t. t) ≡ Some u) ⊎ (t ≡ Some u)
    go true later e = inl e
    go false later e = later e

type_name_after : (c : Context) (base : Option TypeTree) (d : DeclaratorTree) → SmallTable c.structs → SmallOption c.structs base → After c (after_type_name c base d)
type_name_after c base d table small = go (is_type_name c d.name)
  where
    go : (b : Bool) → After c (if b then c else record c { type_names = add_type c.type_names d.name (type_name_declared c base d).type })
    go true = unchanged_after c table
    go false = record {
      table = table;
      grows = λ t h. h;
      inner = refl;
      outer = refl;
      jumps = refl;
      named = λ n. record { each = λ x t e. either n x t (appended_named d.name x (type_name_declared c base d).type c.type_names.types t e) };
    }
      where
        either : SmallNames c.structs c.type_names → (x : List ℕ) (t : TypeTree) → (type_in x c.type_names ≡ Some t) ⊎ ((type_name_declared c base d).type ≡ Some t)
            → is_small c.structs t ≡ true
        either n x t (inl e) = n.each x t e
        either n x t (inr e) = type_name_small c base d t small e

same_structs_named : (c : Context) (base : Option TypeTree) (d : DeclaratorTree) → (after_type_name c base d).structs ≡ c.structs
same_structs_named c base d = go (is_type_name c d.name)
  where
    go : (b : Bool) → (if b then c else record c { type_names = add_type c.type_names d.name (type_name_declared c base d).type }).structs ≡ c.structs
    go true = refl
    go false = refl

type_names_after : (c : Context) (base : Option TypeTree) (ds : List DeclaratorTree) → SmallTable c.structs → SmallOption c.structs base → After c (after_type_names c base ds)
type_names_after c base [] table small = unchanged_after c table
type_names_after c base (d ∷ ds) table small =
    let one = type_name_after c base d table small in
    after_next c (after_type_name c base d) (after_type_names (after_type_name c base d) base ds) one
    (type_names_after (after_type_name c base d) base ds one.table (subst (λ z. SmallOption z base) (sym (same_structs_named c base d)) small))

pub typedef_after : (s₀ : Scope) (c : Context) (t : TypedefTree) → IsFileScope c → SmallTable c.structs → SmallNames c.structs c.type_names → defined_filled t.defined ≡ true
    → typedef_faults c t ≡ [] → After c (after_typedef c t)
typedef_after s₀ c t h table named filled f =
    let next = after_defined c t.defined in
    let first = defined_after_all s₀ c t.defined h table named filled (none_left (defined_faults c t.defined) (type_names_faults next (defined_type c t.defined) t.names) f) in
    after_next c next (after_typedef c t) first
    (type_names_after next (defined_type c t.defined) t.names first.table (defined_small c t.defined (first.named named)))
