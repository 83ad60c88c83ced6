-- What complete types have: sizes, operations on pointers to them, offsets of members, parts, blanks.
use Rattle.std.proofs.Common.{◌≡◌, ◌<◌, ◌≤◌, ◌⊎◌, inl, inr, ℕ, zero, suc, ◌+◌, Bool, true, false, ◌&&◌, ◌||◌, nat_lt, nat_le, List, [], ◌∷◌, Option, Some, None, is_some, length, refl, sym, ap, ◌∙◌, subst, arith, if◌then◌else◌}
use Rattle.std.specs.List.{slice_get, list_all}
use Rattle.std.proofs.lemmas.Bool.Decides.{nat_tests}
use Rattle.std.proofs.lemmas.Option.{slice_get-get_or, slice_get_within, same_Some}
use Rattle.std.specs.Cmp.{first_so, second_so}
use Rattle.std.proofs.lemmas.Bool.{or_cases}
use Rattle.qs_syntax.specs.Trees.{Initialisers}
use Rattle.qs_base.specs.Bytes.{same_bytes}
use Rattle.qs_memory.specs.Partial.{◌>>=◌}
use Rattle.qs_types.specs.declared.extent.Extent.{Extent}
use Rattle.qs_types.specs.Types.{TypeTree, int, unsigned, char, void, pointer, array, struct, MemberTree, Structs, is_integer, is_pointer, is_struct, is_scalar, same_type, referenced}
use Rattle.qs_types.specs.Layout.{and_then, StructLayout, Layouts, array_extent, struct_extent, extent_of, extents_by, extent_by, size_of, is_complete, offsets_from, rounded_up, struct_layout, member_types, struct_of, members_layout, layouts_within, defined_structs, layout_of, offset_of}
use Rattle.qs_types.specs.Expressions.{both_integers, is_object_pointer, may_add, may_subtract, member_in, member_type}
use Rattle.qs_types.specs.Declarations.{initialisers_count}
use Rattle.qs_types.specs.InitialiserRules.{member_at, part_type, takes_list, count_of_members, count_of_parts, list_fits}
use Rattle.qs_meaning.specs.Blanks.{Blanks, blank_by, members_blank, struct_blank, blanks_within, blank_of}
use Rattle.qs_meaning.specs.Initialisers.{part_offset}
use Rattle.qs_meaning.specs.Operations.{element_size, summed, subtracted}
use Rattle.qs_meaning.specs.Expressions.{member_number, member_offset}
use Rattle.qs_meaning.proofs.Options.{never, nothing, went, goes, Known, known, onward}

-- ---- types

pub integer_no_pointer : (t : TypeTree) → is_integer t ≡ true → is_pointer t ≡ false
integer_no_pointer int e = refl
integer_no_pointer unsigned e = refl
integer_no_pointer char e = refl
integer_no_pointer void e = refl
integer_no_pointer (pointer t) e = never e
integer_no_pointer (array t n) e = refl
integer_no_pointer (struct k) e = refl

pub struct_is_large : (t : TypeTree) → is_struct t ≡ true → is_scalar t ≡ false
struct_is_large int e = never e
struct_is_large unsigned e = never e
struct_is_large char e = never e
struct_is_large void e = never e
struct_is_large (pointer t) e = never e
struct_is_large (array t n) e = never e
struct_is_large (struct k) e = refl

pub same_is_struct : (t u : TypeTree) → is_struct t ≡ true → same_type t u ≡ true → is_struct u ≡ true
same_is_struct (struct k) (struct j) e f = refl
same_is_struct (struct k) int e f = never f
same_is_struct (struct k) unsigned e f = never f
same_is_struct (struct k) char e f = never f
same_is_struct (struct k) void e f = never f
same_is_struct (struct k) (pointer u) e f = never f
same_is_struct (struct k) (array u n) e f = never f
same_is_struct int u e f = never e
same_is_struct unsigned u e f = never e
same_is_struct char u e f = never e
same_is_struct void u e f = never e
same_is_struct (pointer t) u e f = never e
same_is_struct (array t n) u e f = never e

pub size_known : (structs : Structs) (t : TypeTree) → is_complete structs t ≡ true → Known (size_of structs t)
size_known structs t e = go (extent_of structs t) e
  where
    go : (o : Option Extent) → is_some o ≡ true → Known (and_then o (λ (x : Extent). Some x.size))
    go None e = never e
    go (Some x) e = record { value = x.size; is = refl }

-- ---- sums and differences (6.5.6)

-- which operand is a pointer, and that its elements have a size
data Summands (structs : Structs) (t u : TypeTree) : Type 0 where
  neither : is_pointer t ≡ false → is_pointer u ≡ false → Summands structs t u
  first : is_pointer t ≡ true → is_complete structs (referenced t) ≡ true → Summands structs t u
  second : is_pointer t ≡ false → is_pointer u ≡ true → is_complete structs (referenced u) ≡ true → Summands structs t u

summands : (structs : Structs) (t u : TypeTree) → may_add structs t u ≡ true → Summands structs t u
summands structs t u e = go (or_cases (both_integers t u) _ e)
  where
    pointers : ((is_object_pointer structs t && is_integer u) ≡ true) ⊎ ((is_integer t && is_object_pointer structs u) ≡ true) → Summands structs t u
    pointers (inl h) = first (first_so _ _ (first_so _ _ h)) (second_so (is_pointer t) _ (first_so _ _ h))
    pointers (inr h) = second (integer_no_pointer t (first_so _ _ h)) (first_so _ _ (second_so (is_integer t) _ h)) (second_so (is_pointer u) _ (second_so (is_integer t) _ h))

    go : (both_integers t u ≡ true) ⊎ (((is_object_pointer structs t && is_integer u) || (is_integer t && is_object_pointer structs u)) ≡ true) → Summands structs t u
    go (inl h) = neither (integer_no_pointer t (first_so _ _ h)) (integer_no_pointer u (second_so (is_integer t) _ h))
    go (inr h) = pointers (or_cases _ _ h)

chosen : {A : Type 0} (b : Bool) (x y : Option A) → b ≡ true → Known x → Known (if b then x else y)
chosen true x y e k = k
chosen false x y e k = never e

not_chosen : {A : Type 0} (b : Bool) (x y : Option A) → b ≡ false → Known y → Known (if b then x else y)
not_chosen true x y e k = never (sym e)
not_chosen false x y e k = k

pub summed_known : (structs : Structs) (t u : TypeTree) → may_add structs t u ≡ true → Known (summed structs t u)
summed_known structs t u e = go (summands structs t u e)
  where
    go : Summands structs t u → Known (summed structs t u)
    go (neither p q) = not_chosen (is_pointer t) _ _ p (not_chosen (is_pointer u) _ _ q (record { value = _; is = refl }))
    go (first p h) = chosen (is_pointer t) _ _ p (onward (element_size structs t) _ (size_known structs (referenced t) h) (record { value = _; is = refl }))
    go (second p q h) =
        not_chosen (is_pointer t) _ _ p (chosen (is_pointer u) _ _ q
        (onward (element_size structs u) _ (size_known structs (referenced u) h) (record { value = _; is = refl })))

decided : {A : Type 0} (b : Bool) (x y : Option A) → Known x → Known y → Known (if b then x else y)
decided true x y k h = k
decided false x y k h = h

pub subtracted_known : (structs : Structs) (t u : TypeTree) → may_subtract structs t u ≡ true → Known (subtracted structs t u)
subtracted_known structs t u e = go (or_cases (both_integers t u) _ e)
  where
    by_pointer : (is_object_pointer structs t && (is_integer u || same_type t u)) ≡ true → Known (subtracted structs t u)
    by_pointer h =
        let size = size_known structs (referenced t) (second_so (is_pointer t) _ (first_so _ _ h)) in
        decided (is_pointer u) _ _
        (onward (element_size structs t) _ size (record { value = _; is = refl }))
        (chosen (is_pointer t) _ _ (first_so _ _ (first_so _ _ h)) (onward (element_size structs t) _ size (record { value = _; is = refl })))

    go : (both_integers t u ≡ true) ⊎ ((is_object_pointer structs t && (is_integer u || same_type t u)) ≡ true) → Known (subtracted structs t u)
    go (inl h) = not_chosen (is_pointer u) _ _ (integer_no_pointer u (second_so (is_integer t) _ h))
        (not_chosen (is_pointer t) _ _ (integer_no_pointer t (first_so _ _ h)) (record { value = _; is = refl }))
    go (inr h) = by_pointer h

-- ---- members (6.5.2.3)

extents_count : (layouts : Layouts) (ts : List TypeTree) (es : List Extent) → extents_by layouts ts ≡ Some es → length es ≡ length ts
extents_count layouts [] es e = ap length (sym (same_Some _ _ e))
extents_count layouts (t ∷ ts) es e =
    let w = went (extent_by layouts t) (λ e. and_then (extents_by layouts ts) (λ es. Some (e ∷ es))) es e in
    let v = went (extents_by layouts ts) (λ es. Some (w.value ∷ es)) es w.gave in
    ap length (sym (same_Some _ _ v.gave)) ∙ ap suc (extents_count layouts ts v.value v.had)

offsets_count : (start : ℕ) (es : List Extent) → length (offsets_from start es) ≡ length es
offsets_count start [] = refl
offsets_count start (e ∷ es) = ap suc (offsets_count (rounded_up start e.alignment + e.size) es)

types_count : (ms : List MemberTree) → length (member_types ms) ≡ length ms
types_count [] = refl
types_count (m ∷ ms) = ap suc (types_count ms)

layout_count : (structs : Structs) (depth k : ℕ) (ms : List MemberTree) (l : StructLayout) → struct_of structs k ≡ Some ms → layouts_within depth structs k ≡ Some l
    → length l.offsets ≡ length ms
layout_count structs zero k ms l s e = nothing l e
layout_count structs (suc depth) k ms l s e =
    let w = went (struct_of structs k) (members_layout (layouts_within depth structs)) l e in
    let v = went (extents_by (layouts_within depth structs) (member_types w.value)) (λ es. Some (struct_layout es)) l w.gave in
    ap (λ (x : StructLayout). length x.offsets) (sym (same_Some _ _ v.gave))
    ∙ offsets_count 0 v.value ∙ extents_count (layouts_within depth structs) (member_types w.value) v.value v.had ∙ types_count w.value
    ∙ ap length (same_Some _ _ (sym w.had ∙ s))

-- a member has a number below the count of the members
record Numbered (k : ℕ) (x : List ℕ) (ms : List MemberTree) : Type 0 where
  number : ℕ
  is : member_number k x ms ≡ Some number
  below : number < k + length ms

numbered : (k : ℕ) (x : List ℕ) (ms : List MemberTree) → is_some (member_in x ms) ≡ true → Numbered k x ms
numbered k x [] e = never e
numbered k x (m ∷ ms) e = go (λ f. numbered (k + 1) x ms f) (same_bytes m.name x) refl e
  where
    go : (is_some (member_in x ms) ≡ true → Numbered (k + 1) x ms)
        → (b : Bool) → same_bytes m.name x ≡ b → is_some (if b then Some m.type else member_in x ms) ≡ true → Numbered k x (m ∷ ms)
    go later true h f = record { number = k; is = ap (λ b. if b then Some k else member_number (k + 1) x ms) h; below = omega arith }
    go later false h f =
        let n = later f in
        let below = n.below in
        record { number = n.number; is = ap (λ b. if b then Some k else member_number (k + 1) x ms) h ∙ n.is; below = omega arith }

within_count : (os : List ℕ) (i n : ℕ) → length os ≡ n → i < 0 + n → Known (slice_get os i)
within_count os i n e h =
    let below : i < length os = omega arith in
    record { value = _; is = slice_get-get_or os i 0 below }

-- whether structs that have members are laid out
abbrev pub LaidOut : Structs → Type 0
LaidOut structs = (k : ℕ) (ms : List MemberTree) → struct_of structs k ≡ Some ms → is_some (layout_of structs k) ≡ true

pub member_offset_known : (structs : Structs) → LaidOut structs → (t : TypeTree) (x : List ℕ) → is_some (member_type structs t x) ≡ true → Known (member_offset structs t x)
member_offset_known structs laid_out (struct k) x e = go (struct_of structs k) refl e
  where
    go : (o : Option (List MemberTree)) → struct_of structs k ≡ o → is_some (and_then o (member_in x)) ≡ true → Known
        (o >>= λ ms. member_number 0 x ms >>= offset_of structs k)
    go None s e = never e
    go (Some ms) s e =
        let l : Known (layout_of structs k) = known _ (laid_out k ms s) in
        let n = numbered 0 x ms e in
        let o = within_count l.value.offsets n.number (length ms) (layout_count structs (defined_structs structs) k ms l.value s l.is) n.below in
        record {
          value = o.value;
          is = goes (member_number 0 x ms) n.number (offset_of structs k) (Some o.value) n.is
              (ap (λ z. and_then z (λ (l : StructLayout). slice_get l.offsets n.number)) l.is ∙ o.is);
        }
member_offset_known structs laid_out int x e = never e
member_offset_known structs laid_out unsigned x e = never e
member_offset_known structs laid_out char x e = never e
member_offset_known structs laid_out void x e = never e
member_offset_known structs laid_out (pointer t) x e = never e
member_offset_known structs laid_out (array t n) x e = never e

pub has_members_is_large : (structs : Structs) (t : TypeTree) (x : List ℕ) → is_some (member_type structs t x) ≡ true → is_scalar t ≡ false
has_members_is_large structs (struct k) x e = refl
has_members_is_large structs int x e = never e
has_members_is_large structs unsigned x e = never e
has_members_is_large structs char x e = never e
has_members_is_large structs void x e = never e
has_members_is_large structs (pointer t) x e = never e
has_members_is_large structs (array t n) x e = never e

-- ---- the types of members

member_in_complete : (structs : Structs) (x : List ℕ) (ms : List MemberTree) (u : TypeTree) → list_all (λ m. is_complete structs m.type) ms ≡ true → member_in x ms ≡ Some u
    → is_complete structs u ≡ true
member_in_complete structs x [] u all e = nothing u e
member_in_complete structs x (m ∷ ms) u all e = go (λ f. member_in_complete structs x ms u (second_so (is_complete structs m.type) _ all) f) (same_bytes m.name x) e
  where
    go : (member_in x ms ≡ Some u → is_complete structs u ≡ true) → (b : Bool) → (if b then Some m.type else member_in x ms) ≡ Some u → is_complete structs u ≡ true
    go later true e = subst (λ z. is_complete structs z ≡ true) (same_Some _ _ e) (first_so _ _ all)
    go later false e = later e

-- whether the members of structs have complete types
abbrev pub MembersComplete : Structs → Type 0
MembersComplete structs = (k : ℕ) (ms : List MemberTree) → struct_of structs k ≡ Some ms → list_all (λ m. is_complete structs m.type) ms ≡ true

pub member_complete : (structs : Structs) → MembersComplete structs → (t u : TypeTree) (x : List ℕ) → member_type structs t x ≡ Some u → is_complete structs u ≡ true
member_complete structs members (struct k) u x e =
    let w = went (struct_of structs k) (member_in x) u e in
    member_in_complete structs x w.value u (members k w.value w.had) w.gave
member_complete structs members int u x e = nothing u e
member_complete structs members unsigned u x e = nothing u e
member_complete structs members char u x e = nothing u e
member_complete structs members void u x e = nothing u e
member_complete structs members (pointer t) u x e = nothing u e
member_complete structs members (array t n) u x e = nothing u e

member_at_complete : (structs : Structs) (ms : List MemberTree) (i : ℕ) (m : MemberTree) → list_all (λ m. is_complete structs m.type) ms ≡ true → slice_get ms i ≡ Some m
    → is_complete structs m.type ≡ true
member_at_complete structs [] i m all e = nothing m e
member_at_complete structs (x ∷ ms) zero m all e = subst (λ (z : MemberTree). is_complete structs z.type ≡ true) (same_Some _ _ e) (first_so _ _ all)
member_at_complete structs (x ∷ ms) (suc i) m all e = member_at_complete structs ms i m (second_so (is_complete structs x.type) _ all) e

-- ---- parts of an object (6.7.9p17)

pub record Part (structs : Structs) (t : TypeTree) (i : ℕ) : Type 0 where
  pub type : TypeTree
  pub is : part_type structs t i ≡ Some type
  pub complete : is_complete structs type ≡ true
  pub offset : Known (part_offset structs t i)

element_complete : (structs : Structs) (t : TypeTree) (n : ℕ) → is_complete structs (array t n) ≡ true → is_complete structs t ≡ true
element_complete structs t n e = go (extent_of structs t) e
  where
    go : (o : Option Extent) → is_some (and_then o (λ (x : Extent). Some (array_extent x n))) ≡ true → is_some o ≡ true
    go None e = never e
    go (Some x) e = refl

pub part_known : (structs : Structs) → LaidOut structs → MembersComplete structs → (t : TypeTree) (i : ℕ) → is_complete structs t ≡ true → is_some
    (part_type structs t i) ≡ true → Part structs t i
part_known structs laid_out members (array t n) i c e = go (nat_lt i n) refl e
  where
    go : (b : Bool) → nat_lt i n ≡ b → is_some (if b then Some t else None) ≡ true → Part structs (array t n) i
    go true h e =
        let d = element_complete structs t n c in
        record {
          type = t;
          is = ap (λ b. if b then Some t else None) h;
          complete = d;
          offset = onward (size_of structs t) _ (size_known structs t d)
              (record { value = _; is = refl });
        }
    go false h e = never e
part_known structs laid_out members (struct k) i c e = go (struct_of structs k) refl e
  where
    go : (o : Option (List MemberTree)) → struct_of structs k ≡ o → is_some (member_at o i) ≡ true → Part structs (struct k) i
    go None s e = never e
    go (Some ms) s e = at (slice_get ms i) refl e
      where
        at : (o : Option MemberTree) → slice_get ms i ≡ o → is_some (and_then o (λ (m : MemberTree). Some m.type)) ≡ true → Part structs (struct k) i
        at None h e = never e
        at (Some m) h e =
            let l : Known (layout_of structs k) = known _ (laid_out k ms s) in
            let o = within_count l.value.offsets i (length ms) (layout_count structs (defined_structs structs) k ms l.value s l.is) (below i ms m h) in
            record {
              type = m.type;
              is = ap (λ o. member_at o i) s ∙ ap (λ o. and_then o (λ (m : MemberTree). Some m.type)) h;
              complete = member_at_complete structs ms i m (members k ms s) h;
              offset = record { value = o.value; is = ap (λ z. and_then z (λ (l : StructLayout). slice_get l.offsets i)) l.is ∙ o.is };
            }
          where
            below : (i : ℕ) (ms : List MemberTree) (m : MemberTree) → slice_get ms i ≡ Some m → i < 0 + length ms
            below i ms m h = let b = slice_get_within ms i m h in omega arith
part_known structs laid_out members int i c e = never e
part_known structs laid_out members unsigned i c e = never e
part_known structs laid_out members char i c e = never e
part_known structs laid_out members void i c e = never e
part_known structs laid_out members (pointer t) i c e = never e

-- a number below the count of parts is that of a part
pub part_there : (structs : Structs) (t : TypeTree) (i : ℕ) → i < count_of_parts structs t → is_some (part_type structs t i) ≡ true
part_there structs (array t n) i h = ap (λ b. is_some (if b then Some t else None)) (is_below i n h)
  where
    is_below : (i n : ℕ) → i < n → nat_lt i n ≡ true
    is_below i n h = grind (arith, nat_tests)
part_there structs (struct k) i h = go (struct_of structs k) h
  where
    go : (o : Option (List MemberTree)) → i < count_of_members o → is_some (member_at o i) ≡ true
    go None h = absurd (omega arith)
    go (Some ms) h = ap (λ o. is_some (and_then o (λ (m : MemberTree). Some m.type))) (slice_get-get_or ms i (record { name = []; type = int }) h)
part_there structs int i h = absurd (omega arith)
part_there structs unsigned i h = absurd (omega arith)
part_there structs char i h = absurd (omega arith)
part_there structs void i h = absurd (omega arith)
part_there structs (pointer t) i h = absurd (omega arith)

-- a list that fits is for an object with parts, and has no more elements than those
pub fits_takes : (structs : Structs) (t : TypeTree) (is : Initialisers) → list_fits structs t is ≡ true → takes_list t ≡ true
fits_takes structs t is h = first_so (takes_list t) _ h

pub fits_count : (structs : Structs) (t : TypeTree) (is : Initialisers) → list_fits structs t is ≡ true → 0 + initialisers_count is ≤ count_of_parts structs t
fits_count structs t is h = at_most (initialisers_count is) (count_of_parts structs t) (second_so (takes_list t) _ h)
  where
    at_most : (m n : ℕ) → nat_le m n ≡ true → 0 + m ≤ n
    at_most m n h = grind (arith, nat_tests)

-- ---- blanks

module _ (structs : Structs) (laid_out : LaidOut structs) (members : MembersComplete structs) where
  blank_by_known : (layouts : Layouts) (blanks : Blanks) → ((k : ℕ) → is_some (layouts k) ≡ true → Known (blanks k)) → (t : TypeTree) → is_some (extent_by layouts t) ≡ true
      → Known (blank_by blanks t)
  blank_by_known layouts blanks h int e = record { value = _; is = refl }
  blank_by_known layouts blanks h unsigned e = record { value = _; is = refl }
  blank_by_known layouts blanks h char e = record { value = _; is = refl }
  blank_by_known layouts blanks h void e = never e
  blank_by_known layouts blanks h (pointer t) e = record { value = _; is = refl }
  blank_by_known layouts blanks h (array t n) e = onward (blank_by blanks t) _ (blank_by_known layouts blanks h t (part (extent_by layouts t) e))
      (record { value = _; is = refl })
    where
      part : (o : Option Extent) → is_some (and_then o (λ (x : Extent). Some (array_extent x n))) ≡ true → is_some o ≡ true
      part None e = never e
      part (Some x) e = refl
  blank_by_known layouts blanks h (struct k) e = h k (part (layouts k) e)
    where
      part : (o : Option StructLayout) → is_some (and_then o (λ (l : StructLayout). Some (struct_extent l))) ≡ true → is_some o ≡ true
      part None e = never e
      part (Some l) e = refl

  members_blank_known : (layouts : Layouts) (blanks : Blanks) → ((k : ℕ) → is_some (layouts k) ≡ true → Known (blanks k))
      → (at size : ℕ) (ms : List MemberTree) (offsets : List ℕ) (es : List Extent) → length offsets ≡ length ms → extents_by layouts (member_types ms) ≡ Some es
      → list_all (λ m. is_complete structs m.type) ms ≡ true → Known (members_blank structs blanks at size ms offsets)
  members_blank_known layouts blanks h at size [] offsets es n e all = record { value = _; is = refl }
  members_blank_known layouts blanks h at size (m ∷ ms) [] es n e all = absurd (omega arith)
  members_blank_known layouts blanks h at size (m ∷ ms) (offset ∷ offsets) es n e all =
      let w = went (extent_by layouts m.type) (λ e. and_then (extents_by layouts (member_types ms)) (λ es. Some (e ∷ es))) es e in
      let v = went (extents_by layouts (member_types ms)) (λ es. Some (w.value ∷ es)) es w.gave in
      let shorter : length offsets ≡ length ms = omega arith in
      let first = blank_by_known layouts blanks h m.type (ap is_some w.had) in
      let size_of_first = size_known structs m.type (first_so _ _ all) in
      onward (blank_by blanks m.type) _ first (onward (size_of structs m.type) _ size_of_first
      (onward (members_blank structs blanks (offset + size_of_first.value) size ms offsets) _
      (members_blank_known layouts blanks h (offset + size_of_first.value) size ms offsets v.value shorter v.had (second_so (is_complete structs m.type) _ all))
      (record { value = _; is = refl })))

  blanks_known : (depth k : ℕ) → is_some (layouts_within depth structs k) ≡ true → Known (blanks_within depth structs k)
  blanks_known zero k e = never e
  blanks_known (suc depth) k e =
      let l : Known (layouts_within (suc depth) structs k) = known _ e in
      let w = went (struct_of structs k) (members_layout (layouts_within depth structs)) l.value l.is in
      let v = went (extents_by (layouts_within depth structs) (member_types w.value)) (λ es. Some (struct_layout es)) l.value w.gave in
      let whole : Known (layout_of structs k) = known _ (laid_out k w.value w.had) in
      let count = layout_count structs (defined_structs structs) k w.value whole.value w.had whole.is in
      let ms : Known (struct_of structs k) = record { value = w.value; is = w.had } in
      onward (struct_of structs k) _ ms (onward (layout_of structs k) (struct_blank structs (blanks_within depth structs) w.value) whole
      (members_blank_known (layouts_within depth structs) (blanks_within depth structs)
      (blanks_known depth) 0 whole.value.size w.value whole.value.offsets v.value count v.had (members k w.value w.had)))

  pub blank_known : (t : TypeTree) → is_complete structs t ≡ true → Known (blank_of structs t)
  blank_known t c = blank_by_known (layout_of structs) (blanks_within (defined_structs structs) structs) (blanks_known (defined_structs structs)) t c
