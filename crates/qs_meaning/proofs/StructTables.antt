-- What is known at file scope goes on holding where structs are declared and defined.
use Rattle.std.proofs.Common.{◌≡◌, ◌≤◌, ◌⊎◌, inl, inr, ℕ, zero, suc, Bool, true, false, ◌&&◌, List, [], ◌∷◌, ◌++◌, Option, Some, None, is_some, slice_set, refl, sym, ap, ◌∙◌, subst, arith, if◌then◌else◌, length}
use Rattle.std.specs.List.{list_all, slice_get}
use Rattle.std.specs.Cmp.{first_so, second_so}
use Rattle.std.proofs.lemmas.Option.{same_Some}
use Rattle.qs_syntax.specs.Trees.{StructTree, DeclaratorTree, DefinedTree, of_struct, of_base, TypedefTree}
use Rattle.qs_types.specs.declared.extent.Extent.{Extent}
use Rattle.qs_types.specs.Types.{TypeTree, int, unsigned, char, void, pointer, array, struct, MemberTree, Structs}
use Rattle.qs_types.specs.Types as types
use Rattle.qs_types.specs.Layout.{and_then, StructLayout, Layouts, array_extent, struct_extent, struct_layout, extent_by, extents_by, member_types, struct_of, members_layout, layouts_within, defined_structs, layout_of, is_complete, sized_by, all_sized_by, layout_within, sized_layout, with_members}
use Rattle.qs_types.specs.Contexts.{Entity, local_variable, file_variable, function, given, Binding, Context, tag_place, TypeNames, add_tag, add_type, is_type_name}
use Rattle.qs_types.specs.UnitRules.{with_tag, no_members, after_members, has_no_members, define_at, after_struct, with_new_tag, with_option_tag, option_place, with_base_tag, after_defined, defined_type, after_type_name, after_type_names, after_typedef}
use Rattle.qs_meaning.specs.TypedLaws.{EntityTyped, AllTyped, IsFileScope}
use Rattle.qs_meaning.proofs.Options.{never, nothing, known, went}
use Rattle.qs_meaning.proofs.Bodies.{sized_extent}
use Rattle.qs_syntax.specs.declared.types.Base.{Base}
use Rattle.qs_syntax.specs.declared.types.Base.TheVariants as bases
use Rattle.qs_types.specs.Declarations.{type_name_declared}

-- ---- a table that goes on: structs that have members keep them

pub record GoesOn (structs more : Structs) : Type 0 where
  pub keeps : (k : ℕ) (ms : List MemberTree) → struct_of structs k ≡ Some ms → struct_of more k ≡ Some ms
  pub count : defined_structs structs ≤ defined_structs more

abbrev pub Grown : Layouts → Layouts → Type 0
Grown layouts more = (k : ℕ) (l : StructLayout) → layouts k ≡ Some l → more k ≡ Some l

pub extent_grows : (layouts more : Layouts) → Grown layouts more → (t : TypeTree) (e : Extent) → extent_by layouts t ≡ Some e → extent_by more t ≡ Some e
extent_grows layouts more g int e h = h
extent_grows layouts more g unsigned e h = h
extent_grows layouts more g char e h = h
extent_grows layouts more g void e h = nothing e h
extent_grows layouts more g (pointer t) e h = h
extent_grows layouts more g (array t n) e h =
    let w = went (extent_by layouts t) (λ (x : Extent). Some (array_extent x n)) e h in
    ap (λ o. and_then o (λ (x : Extent). Some (array_extent x n))) (extent_grows layouts more g t w.value w.had) ∙ w.gave
extent_grows layouts more g (struct k) e h =
    let w = went (layouts k) (λ (l : StructLayout). Some (struct_extent l)) e h in
    ap (λ o. and_then o (λ (l : StructLayout). Some (struct_extent l))) (g k w.value w.had) ∙ w.gave

pub extents_grow : (layouts more : Layouts) → Grown layouts more → (ts : List TypeTree) (es : List Extent) → extents_by layouts ts ≡ Some es → extents_by more ts ≡ Some es
extents_grow layouts more g [] es h = h
extents_grow layouts more g (t ∷ ts) es h =
    let w = went (extent_by layouts t) (λ e. and_then (extents_by layouts ts) (λ es. Some (e ∷ es))) es h in
    let v = went (extents_by layouts ts) (λ es. Some (w.value ∷ es)) es w.gave in
    ap (λ o. and_then o (λ e. and_then (extents_by more ts) (λ es. Some (e ∷ es)))) (extent_grows layouts more g t w.value w.had)
    ∙ ap (λ o. and_then o (λ es. Some (w.value ∷ es))) (extents_grow layouts more g ts v.value v.had) ∙ v.gave

pub layouts_grow : (structs more : Structs) → GoesOn structs more → (d e : ℕ) → d ≤ e → Grown (layouts_within d structs) (layouts_within e more)
layouts_grow structs more g zero e le k l h = nothing l h
layouts_grow structs more g (suc d) zero le k l h = absurd (omega arith)
layouts_grow structs more g (suc d) (suc e) le k l h =
    let w = went (struct_of structs k) (members_layout (layouts_within d structs)) l h in
    let v = went (extents_by (layouts_within d structs) (member_types w.value)) (λ es. Some (struct_layout es)) l w.gave in
    ap (λ o. and_then o (members_layout (layouts_within e more))) (g.keeps k w.value w.had)
    ∙ ap (λ o. and_then o (λ es. Some (struct_layout es))) (extents_grow (layouts_within d structs) (layouts_within e more) (layouts_grow structs more g d e (omega arith))
    (member_types w.value) v.value v.had)
    ∙ v.gave

pub layout_grows : (structs more : Structs) → GoesOn structs more → Grown (layout_of structs) (layout_of more)
layout_grows structs more g = layouts_grow structs more g (defined_structs structs) (defined_structs more) g.count

pub some_grows : {A : Type 0} (o p : Option A) → ((x : A) → o ≡ Some x → p ≡ Some x) → is_some o ≡ true → is_some p ≡ true
some_grows o p g e = let k = known o e in ap is_some (g k.value k.is)

pub complete_grows : (structs more : Structs) → GoesOn structs more → (t : TypeTree) → is_complete structs t ≡ true → is_complete more t ≡ true
complete_grows structs more g t e =
    some_grows (extent_by (layout_of structs) t) (extent_by (layout_of more) t) (extent_grows (layout_of structs) (layout_of more) (layout_grows structs more g) t) e

members_grow : (structs more : Structs) → GoesOn structs more → (ms : List MemberTree) → list_all (λ m. is_complete structs m.type) ms ≡ true → list_all
    (λ m. is_complete more m.type) ms ≡ true
members_grow structs more g [] e = refl
members_grow structs more g (m ∷ ms) e = both _ _ (complete_grows structs more g m.type (first_so _ _ e)) (members_grow structs more g ms (second_so (is_complete structs m.type) _ e))
  where
    both : (x y : Bool) → x ≡ true → y ≡ true → (x && y) ≡ true
    both true y e f = f
    both false y e f = never e

entity_grows : (structs more : Structs) → GoesOn structs more → (entity : Entity) → EntityTyped structs entity → EntityTyped more entity
entity_grows structs more g (local_variable node t) h = absurd h
entity_grows structs more g (file_variable node None) h = absurd h
entity_grows structs more g (file_variable node (Some t)) h = complete_grows structs more g t h
entity_grows structs more g (function node None body) h = absurd h
entity_grows structs more g (function node (Some signature) body) h = tt
entity_grows structs more g (given signature) h = tt

names_grow : (structs more : Structs) → GoesOn structs more → (bs : List Binding) → AllTyped structs bs → AllTyped more bs
names_grow structs more g [] h = tt
names_grow structs more g (b ∷ bs) h = (entity_grows structs more g b.entity h.0, names_grow structs more g bs h.1)

-- ---- a tag that is new

pub appended_keeps : (structs : Structs) (k : ℕ) (ms : List MemberTree) → struct_of structs k ≡ Some ms → struct_of (structs ++ None ∷ []) k ≡ Some ms
appended_keeps [] k ms e = nothing ms e
appended_keeps (x ∷ xs) zero ms e = e
appended_keeps (x ∷ xs) (suc k) ms e = appended_keeps xs k ms e

pub appended_back : (structs : Structs) (k : ℕ) (ms : List MemberTree) → struct_of (structs ++ None ∷ []) k ≡ Some ms → struct_of structs k ≡ Some ms
appended_back [] zero ms e = nothing ms e
appended_back [] (suc k) ms e = nothing ms e
appended_back (x ∷ xs) zero ms e = e
appended_back (x ∷ xs) (suc k) ms e = appended_back xs k ms e

appended_count : (structs : Structs) → defined_structs (structs ++ None ∷ []) ≡ defined_structs structs
appended_count [] = refl
appended_count (None ∷ xs) = appended_count xs
appended_count (Some ms ∷ xs) = ap suc (appended_count xs)

pub appended_goes_on : (structs : Structs) → GoesOn structs (structs ++ None ∷ [])
appended_goes_on structs = record { keeps = appended_keeps structs; count = let e = appended_count structs in omega arith }

appended_scope : (c : Context) (names : TypeNames) → IsFileScope c → IsFileScope (record c { structs = c.structs ++ None ∷ []; type_names = names })
appended_scope c names h = record {
  names = names_grow c.structs (c.structs ++ None ∷ []) g (c.inner ++ c.outer) h.names;
  members = λ k ms e. members_grow c.structs (c.structs ++ None ∷ []) g ms (h.members k ms (appended_back c.structs k ms e));
  laid_out = λ k ms e. some_grows (layout_of c.structs k) (layout_of (c.structs ++ None ∷ []) k) (λ l f. layout_grows c.structs (c.structs ++ None ∷ []) g k l f)
      (h.laid_out k ms (appended_back c.structs k ms e));
}
  where
    g : GoesOn c.structs (c.structs ++ None ∷ [])
    g = appended_goes_on c.structs

pub with_tag_known : (c : Context) (tag : List ℕ) → IsFileScope c → IsFileScope (with_tag c tag)
with_tag_known c tag h = go (is_some (tag_place c tag))
  where
    go : (b : Bool) → IsFileScope (if b then c else with_new_tag c tag)
    go true = h
    go false = appended_scope c (add_tag c.type_names tag (length c.structs)) h

pub with_option_tag_known : (c : Context) (tag : Option (List ℕ)) → IsFileScope c → IsFileScope (with_option_tag c tag)
with_option_tag_known c None h = appended_scope c c.type_names h
with_option_tag_known c (Some tag) h = with_tag_known c tag h

-- ---- a struct that gets members

pub set_keeps : (structs : Structs) (k : ℕ) (new : List MemberTree) → struct_of structs k ≡ None → (j : ℕ) (ms : List MemberTree) → struct_of structs j ≡ Some ms → struct_of
    (slice_set structs k (Some new)) j ≡ Some ms
set_keeps [] k new n j ms e = nothing ms e
set_keeps (x ∷ xs) zero new n zero ms e = nothing ms (sym n ∙ e)
set_keeps (x ∷ xs) zero new n (suc j) ms e = e
set_keeps (x ∷ xs) (suc k) new n zero ms e = e
set_keeps (x ∷ xs) (suc k) new n (suc j) ms e = set_keeps xs k new n j ms e

-- what has members then had them, or is the struct that got them
pub record IsNew (structs : Structs) (k : ℕ) (new ms : List MemberTree) : Type 0 where
  pub is : new ≡ ms
  pub count : defined_structs (slice_set structs k (Some new)) ≡ suc (defined_structs structs)

first_count : (x : types.StructTree) (xs : Structs) (new : List MemberTree) → x ≡ None → defined_structs (Some new ∷ xs) ≡ suc (defined_structs (x ∷ xs))
first_count None xs new n = refl
first_count (Some ms) xs new n = nothing ms (sym n)

later_count : (x : types.StructTree) (xs ys : Structs) → defined_structs ys ≡ suc (defined_structs xs) → defined_structs (x ∷ ys) ≡ suc (defined_structs (x ∷ xs))
later_count None xs ys e = e
later_count (Some ms) xs ys e = ap suc e

pub set_back : (structs : Structs) (k : ℕ) (new : List MemberTree) → struct_of structs k ≡ None → (j : ℕ) (ms : List MemberTree) → struct_of
    (slice_set structs k (Some new)) j ≡ Some ms
    → (struct_of structs j ≡ Some ms) ⊎ IsNew structs k new ms
set_back [] k new n j ms e = nothing ms e
set_back (x ∷ xs) zero new n zero ms e = inr (record { is = same_Some new ms e; count = first_count x xs new n })
set_back (x ∷ xs) zero new n (suc j) ms e = inl e
set_back (x ∷ xs) (suc k) new n zero ms e = inl e
set_back (x ∷ xs) (suc k) new n (suc j) ms e = go (set_back xs k new n j ms e)
  where
    go : (struct_of xs j ≡ Some ms) ⊎ IsNew xs k new ms → (struct_of xs j ≡ Some ms) ⊎ IsNew (x ∷ xs) (suc k) new ms
    go (inl f) = inl f
    go (inr f) = inr (record { is = f.is; count = later_count x xs (slice_set xs k (Some new)) f.count })

count_both : (x : types.StructTree) (xs ys : Structs) → defined_structs xs ≤ defined_structs ys → defined_structs (x ∷ xs) ≤ defined_structs (x ∷ ys)
count_both None xs ys e = e
count_both (Some ms) xs ys e = let f = e in omega arith

pub set_count : (structs : Structs) (k : ℕ) (new : List MemberTree) → struct_of structs k ≡ None → defined_structs structs ≤ defined_structs (slice_set structs k (Some new))
set_count [] k new n = omega arith
set_count (x ∷ xs) zero new n = let e = first_count x xs new n in omega arith
set_count (x ∷ xs) (suc k) new n = count_both x xs (slice_set xs k (Some new)) (set_count xs k new n)

all_extents : (layouts more : Layouts) → Grown layouts more → (ts : List TypeTree) → is_some (all_sized_by layouts ts) ≡ true → is_some (extents_by more ts) ≡ true
all_extents layouts more g [] e = refl
all_extents layouts more g (t ∷ ts) e = go (λ f. all_extents layouts more g ts f) (sized_by layouts t) refl e
  where
    joins : (o : Option Extent) (p : Option (List Extent)) → is_some o ≡ true → is_some p ≡ true → is_some (and_then o (λ e. and_then p (λ es. Some (e ∷ es)))) ≡ true
    joins None p a b = never a
    joins (Some x) None a b = never b
    joins (Some x) (Some xs) a b = refl

    rest : (x : Extent) (o : Option (List Extent)) → is_some (and_then o (λ es. Some (x ∷ es))) ≡ true → is_some o ≡ true
    rest x None e = never e
    rest x (Some es) e = refl

    go : (is_some (all_sized_by layouts ts) ≡ true → is_some (extents_by more ts) ≡ true)
        → (o : Option Extent) → sized_by layouts t ≡ o → is_some (and_then o (λ e. and_then (all_sized_by layouts ts) (λ es. Some (e ∷ es)))) ≡ true → is_some
        (extents_by more (t ∷ ts)) ≡ true
    go later None s e = never e
    go later (Some x) s e =
        joins (extent_by more t) (extents_by more ts) (some_grows (extent_by layouts t) (extent_by more t) (extent_grows layouts more g t)
        (sized_extent layouts t (ap is_some s)))
        (later (rest x (all_sized_by layouts ts) e))

sized_members : (structs : Structs) (ms : List MemberTree) → is_some (all_sized_by (layout_of structs) (member_types ms)) ≡ true → list_all
    (λ m. is_complete structs m.type) ms ≡ true
sized_members structs [] e = refl
sized_members structs (m ∷ ms) e = go (λ f. sized_members structs ms f) (sized_by (layout_of structs) m.type) refl e
  where
    both : (x y : Bool) → x ≡ true → y ≡ true → (x && y) ≡ true
    both true y e f = f
    both false y e f = never e

    rest : (x : Extent) (o : Option (List Extent)) → is_some (and_then o (λ es. Some (x ∷ es))) ≡ true → is_some o ≡ true
    rest x None e = never e
    rest x (Some es) e = refl

    go : (is_some (all_sized_by (layout_of structs) (member_types ms)) ≡ true → list_all (λ m. is_complete structs m.type) ms ≡ true)
        → (o : Option Extent) → sized_by (layout_of structs) m.type ≡ o → is_some
        (and_then o (λ e. and_then (all_sized_by (layout_of structs) (member_types ms)) (λ es. Some (e ∷ es)))) ≡ true
        → (is_complete structs m.type && list_all (λ m. is_complete structs m.type) ms) ≡ true
    go later None s e = never e
    go later (Some x) s e = both _ _ (sized_extent (layout_of structs) m.type (ap is_some s)) (later (rest x (all_sized_by (layout_of structs) (member_types ms)) e))

-- a struct without members gets members that have sizes
set_known : (c : Context) (k : ℕ) (new : List MemberTree) → IsFileScope c → struct_of c.structs k ≡ None → is_some (all_sized_by (layout_of c.structs) (member_types new)) ≡ true
    → IsFileScope (record c { structs = slice_set c.structs k (Some new) })
set_known c k new h n sized = record {
  names = names_grow c.structs more g (c.inner ++ c.outer) h.names;
  members = λ j ms e. members_here j ms (set_back c.structs k new n j ms e);
  laid_out = λ j ms e. laid_out_here j ms e (set_back c.structs k new n j ms e);
}
  where
    more : Structs
    more = slice_set c.structs k (Some new)

    g : GoesOn c.structs more
    g = record { keeps = set_keeps c.structs k new n; count = set_count c.structs k new n }

    members_here : (j : ℕ) (ms : List MemberTree) → (struct_of c.structs j ≡ Some ms) ⊎ IsNew c.structs k new ms → list_all (λ m. is_complete more m.type) ms ≡ true
    members_here j ms (inl e) = members_grow c.structs more g ms (h.members j ms e)
    members_here j ms (inr f) = subst (λ z. list_all (λ m. is_complete more m.type) z ≡ true) f.is (members_grow c.structs more g new (sized_members c.structs new sized))

    within : (j : ℕ) (ms : List MemberTree) → struct_of more j ≡ Some ms → new ≡ ms → is_some (layouts_within (suc (defined_structs c.structs)) more j) ≡ true
    within j ms e f =
        let extents = all_extents (layout_of c.structs) (layouts_within (defined_structs c.structs) more)
        (layouts_grow c.structs more g (defined_structs c.structs) (defined_structs c.structs) (omega arith)) (member_types new) sized in
        ap (λ o. is_some (and_then o (members_layout (layouts_within (defined_structs c.structs) more)))) (e ∙ ap Some (sym f)) ∙ laid
        (extents_by (layouts_within (defined_structs c.structs) more) (member_types new)) extents
      where
        laid : (o : Option (List Extent)) → is_some o ≡ true → is_some (and_then o (λ es. Some (struct_layout es))) ≡ true
        laid None e = never e
        laid (Some es) e = refl

    laid_out_here : (j : ℕ) (ms : List MemberTree) → struct_of more j ≡ Some ms → (struct_of c.structs j ≡ Some ms) ⊎ IsNew c.structs k new ms → is_some
        (layout_of more j) ≡ true
    laid_out_here j ms e (inl f) = some_grows (layout_of c.structs j) (layout_of more j) (λ l. layout_grows c.structs more g j l) (h.laid_out j ms f)
    laid_out_here j ms e (inr f) = subst (λ d. is_some (layouts_within d more j) ≡ true) (sym f.count) (within j ms e f.is)

-- ---- definitions of structs

-- a struct that is declared and has no members gets these
define_known : (c : Context) (new : List MemberTree) (o : Option ℕ) → IsFileScope c → IsFileScope (define_at c new o)
define_known c new None h = h
define_known c new (Some k) h = given_members (has_no_members (slice_get c.structs k)) refl
  where
    without : (o : Option types.StructTree) → has_no_members o ≡ true → and_then o (λ s. s) ≡ None
    without None e = never e
    without (Some None) e = refl
    without (Some (Some ms)) e = never e

    part : (o : Option (List Extent)) → is_some (and_then o (λ es. layout_within (struct_layout es))) ≡ true → is_some o ≡ true
    part None e = never e
    part (Some es) e = refl

    laid : (b : Bool) → is_some (sized_layout (layout_of c.structs) (member_types new)) ≡ b → struct_of c.structs k ≡ None
        → IsFileScope (record c { structs = with_members b c.structs k new })
    laid false e n = record { names = h.names; members = h.members; laid_out = h.laid_out }
    laid true e n = set_known c k new h n (part (all_sized_by (layout_of c.structs) (member_types new)) e)

    given_members : (b : Bool) → has_no_members (slice_get c.structs k) ≡ b
        → IsFileScope (if b then record c { structs = with_members (is_some (sized_layout (layout_of c.structs) (member_types new))) c.structs k new } else c)
    given_members true e = laid (is_some (sized_layout (layout_of c.structs) (member_types new))) refl (without (slice_get c.structs k) e)
    given_members false e = h

pub after_struct_known : (c : Context) (s : StructTree) → IsFileScope c → IsFileScope (after_struct c s)
after_struct_known c s h =
    define_known (with_option_tag c s.name) (after_members (with_option_tag c s.name) no_members s.members).members (option_place c s.name)
    (with_option_tag_known c s.name h)

-- ---- names of types

with_base_tag_known : (c : Context) (b : Base) → IsFileScope c → IsFileScope (with_base_tag c b)
with_base_tag_known c bases.Void h = h
with_base_tag_known c bases.Int h = h
with_base_tag_known c bases.Unsigned h = h
with_base_tag_known c bases.Char h = h
with_base_tag_known c (bases.Struct tag) h = with_tag_known c tag h
with_base_tag_known c (bases.Named x) h = h

pub after_defined_known : (c : Context) (d : DefinedTree) → IsFileScope c → IsFileScope (after_defined c d)
after_defined_known c (of_struct s) h = after_struct_known c s h
after_defined_known c (of_base b) h = with_base_tag_known c b h

type_names_known : (c : Context) (base : Option TypeTree) (ds : List DeclaratorTree) → IsFileScope c → IsFileScope (after_type_names c base ds)
type_names_known c base [] h = h
type_names_known c base (d ∷ ds) h = type_names_known (after_type_name c base d) base ds (go (is_type_name c d.name))
  where
    go : (b : Bool) → IsFileScope (if b then c else record c { type_names = add_type c.type_names d.name (type_name_declared c base d).type })
    go true = h
    go false = record { names = h.names; members = h.members; laid_out = h.laid_out }

pub after_typedef_known : (c : Context) (t : TypedefTree) → IsFileScope c → IsFileScope (after_typedef c t)
after_typedef_known c t h = type_names_known (after_defined c t.defined) (defined_type c t.defined) t.names (after_defined_known c t.defined h)
