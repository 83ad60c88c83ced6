-- What is known at file scope of structs and the names of types goes on to the end of a unit, and given functions stay.
use Rattle.std.proofs.Common.{◌≡◌, ℕ, ◌+◌, Bool, true, false, List, [], ◌∷◌, ◌++◌, Option, Some, None, is_some, refl, arith, if◌then◌else◌, length}
use Rattle.std.specs.List.{slice_get}
use Rattle.qs_base.specs.Bytes.{same_bytes}
use Rattle.qs_syntax.specs.declared.types.Base.{Base}
use Rattle.qs_syntax.specs.Trees.{VariableTree, StructTree, DeclTree, structure, forward, function, variables, UnitTree, DeclaratorTree, DefinedTree, of_struct, of_base, TypedefTree, typedef}
use Rattle.qs_types.specs.Types as types
use Rattle.qs_types.specs.Types.{MemberTree, Structs, TypeTree, struct}
use Rattle.qs_types.specs.Layout.{and_then, struct_of, layout_of, sized_layout, member_types, with_members}
use Rattle.qs_types.specs.Contexts.{Tag, NamedType, TypeNames, Context, add_tag, add_type, place_of, named_in, base_in, base_type, tag_place, is_type_name}
use Rattle.qs_types.specs.StatementRules.{after_variable, after_variables}
use Rattle.qs_types.specs.UnitRules.{with_tag, no_members, after_members, has_no_members, define_at, after_struct, after_declaration, context_after, with_new_tag, with_option_tag, option_place, with_base_tag, after_defined, defined_type, after_type_name, after_type_names, after_typedef}
use Rattle.qs_meaning.proofs.Options.{never}
use Rattle.qs_meaning.proofs.StructTables.{GoesOn, appended_goes_on, set_keeps, set_count}
use Rattle.qs_typed_nodes.specs.Agrees.{Keeps}
use Rattle.qs_typed_nodes.proofs.KeptAgreement.{nothing, then_kept, is_kept}
use Rattle.qs_typed.proofs.LaterStructs.{IsLater}
use Rattle.qs_syntax.specs.declared.types.Base.TheVariants as bases
use Rattle.qs_types.specs.Declarations.{type_name_declared}

-- structs that have members keep them, and names of types what they stand for
pub record GoesTo (c d : Context) : Type 0 where
  pub structs : IsLater c.structs d.structs
  pub bases : (b : Base) → Keeps (base_type c b) (base_type d b)

pub stays : (c : Context) → GoesTo c c
stays c = record { structs = record { members = λ k x e. e; many = omega arith }; bases = λ b x e. e }

pub further : (c d e : Context) → GoesTo c d → GoesTo d e → GoesTo c e
further c d e h g = record {
  structs = record { members = λ k x p. g.structs.members k x (h.structs.members k x p); many = let a = h.structs.many in let b = g.structs.many in omega arith };
  bases = λ b x p. g.bases b x (h.bases b x p);
}

as_later : (old new : Structs) → GoesOn old new → IsLater old new
as_later old new g = record { members = g.keeps; many = g.count }

-- ---- structs

place_more : (tag : List ℕ) (ts us : List Tag) → Keeps (place_of tag ts) (place_of tag (ts ++ us))
place_more tag [] us = λ x e. nothing x e
place_more tag (t ∷ ts) us = by (same_bytes t.name tag) (place_more tag ts us)
  where
    by : (b : Bool) → Keeps (place_of tag ts) (place_of tag (ts ++ us)) → Keeps (if b then Some t.place else place_of tag ts) (if b then Some t.place else place_of tag (ts ++ us))
    by true rest = λ x e. e
    by false rest = rest

named_more : (x : List ℕ) (ns ms : List NamedType) → Keeps (named_in x ns) (named_in x (ns ++ ms))
named_more x [] ms = λ y e. nothing y e
named_more x (n ∷ ns) ms = by (same_bytes n.name x) (named_more x ns ms)
  where
    by : (b : Bool) → Keeps (named_in x ns) (named_in x (ns ++ ms)) → Keeps (if b then Some n.type else named_in x ns) (if b then Some n.type else named_in x (ns ++ ms))
    by true rest = λ y e. e
    by false rest = rest

-- a tag more, and a type name more
tag_bases : (names : TypeNames) (tag : List ℕ) (place : ℕ) (b : Base) → Keeps (base_in names b) (base_in (add_tag names tag place) b)
tag_bases names tag place bases.Void = λ y e. e
tag_bases names tag place bases.Int = λ y e. e
tag_bases names tag place bases.Unsigned = λ y e. e
tag_bases names tag place bases.Char = λ y e. e
tag_bases names tag place (bases.Struct t) =
    then_kept (place_of t names.tags) (place_of t (add_tag names tag place).tags) (λ k. Some (struct k)) (λ k. Some (struct k)) (place_more t names.tags _) (λ k. is_kept (Some (struct k)))
tag_bases names tag place (bases.Named x) = λ y e. e

type_bases : (names : TypeNames) (x : List ℕ) (t : Option TypeTree) (b : Base) → Keeps (base_in names b) (base_in (add_type names x t) b)
type_bases names x t bases.Void = λ y e. e
type_bases names x t bases.Int = λ y e. e
type_bases names x t bases.Unsigned = λ y e. e
type_bases names x t bases.Char = λ y e. e
type_bases names x t (bases.Struct tag) = λ y e. e
type_bases names x t (bases.Named n) =
    then_kept (named_in n names.types) (named_in n (add_type names x t).types) (λ t. t) (λ t. t) (named_more n names.types _) (λ t. is_kept t)

tag_goes : (c : Context) (tag : List ℕ) → GoesTo c (with_tag c tag)
tag_goes c tag = by (is_some (tag_place c tag))
  where
    by : (b : Bool) → GoesTo c (if b then c else with_new_tag c tag)
    by true = stays c
    by false = record {
      structs = as_later c.structs (c.structs ++ None ∷ []) (appended_goes_on c.structs);
      bases = tag_bases c.type_names tag (length c.structs);
    }

option_goes : (c : Context) (tag : Option (List ℕ)) → GoesTo c (with_option_tag c tag)
option_goes c None = record { structs = as_later c.structs (c.structs ++ None ∷ []) (appended_goes_on c.structs); bases = λ b x e. e }
option_goes c (Some tag) = tag_goes c tag

define_goes : (c : Context) (new : List MemberTree) (o : Option ℕ) → GoesTo c (define_at c new o)
define_goes c new None = stays c
define_goes c new (Some k) = by (has_no_members (slice_get c.structs k)) refl
  where
    without : (o : Option types.StructTree) → has_no_members o ≡ true → and_then o (λ s. s) ≡ None
    without None e = refl
    without (Some None) e = refl
    without (Some (Some ms)) e = never e

    set : (may : Bool) → struct_of c.structs k ≡ None → GoesTo c (record c { structs = with_members may c.structs k new })
    set false n = record { structs = record { members = λ k x e. e; many = omega arith }; bases = λ b x e. e }
    set true n = record { structs = record { members = λ j ms e. set_keeps c.structs k new n j ms e; many = set_count c.structs k new n }; bases = λ b x e. e }

    by : (b : Bool) → has_no_members (slice_get c.structs k) ≡ b
        → GoesTo c (if b then record c { structs = with_members (is_some (sized_layout (layout_of c.structs) (member_types new))) c.structs k new } else c)
    by true e = set (is_some (sized_layout (layout_of c.structs) (member_types new))) (without (slice_get c.structs k) e)
    by false e = stays c

struct_goes : (c : Context) (s : StructTree) → GoesTo c (after_struct c s)
struct_goes c s =
    further c (with_option_tag c s.name) (after_struct c s) (option_goes c s.name)
    (define_goes (with_option_tag c s.name) (after_members (with_option_tag c s.name) no_members s.members).members (option_place c s.name))

-- ---- names of types

base_goes : (c : Context) (b : Base) → GoesTo c (with_base_tag c b)
base_goes c bases.Void = stays c
base_goes c bases.Int = stays c
base_goes c bases.Unsigned = stays c
base_goes c bases.Char = stays c
base_goes c (bases.Struct tag) = tag_goes c tag
base_goes c (bases.Named x) = stays c

defined_goes : (c : Context) (d : DefinedTree) → GoesTo c (after_defined c d)
defined_goes c (of_struct s) = struct_goes c s
defined_goes c (of_base b) = base_goes c b

type_name_goes : (c : Context) (base : Option TypeTree) (d : DeclaratorTree) → GoesTo c (after_type_name c base d)
type_name_goes c base d = by (is_type_name c d.name)
  where
    by : (b : Bool) → GoesTo c (if b then c else record c { type_names = add_type c.type_names d.name (type_name_declared c base d).type })
    by true = stays c
    by false = record { structs = record { members = λ k x e. e; many = omega arith }; bases = type_bases c.type_names d.name (type_name_declared c base d).type }

type_names_go : (c : Context) (base : Option TypeTree) (ds : List DeclaratorTree) → GoesTo c (after_type_names c base ds)
type_names_go c base [] = stays c
type_names_go c base (d ∷ ds) =
    further c (after_type_name c base d) (after_type_names (after_type_name c base d) base ds) (type_name_goes c base d) (type_names_go (after_type_name c base d) base ds)

typedef_goes : (c : Context) (t : TypedefTree) → GoesTo c (after_typedef c t)
typedef_goes c t = further c (after_defined c t.defined) (after_typedef c t) (defined_goes c t.defined) (type_names_go (after_defined c t.defined) (defined_type c t.defined) t.names)

-- ---- file scope

variables_go : (at_file_scope : Bool) (c : Context) (base : Base) (vs : List VariableTree) → GoesTo c (after_variables at_file_scope c base vs)
variables_go at_file_scope c base [] = stays c
variables_go at_file_scope c base (v ∷ vs) =
    let rest = variables_go at_file_scope (after_variable at_file_scope c base v) base vs in
    record { structs = record { members = rest.structs.members; many = rest.structs.many }; bases = rest.bases }

pub declaration_goes : (c : Context) (d : DeclTree) → GoesTo c (after_declaration c d)
declaration_goes c (structure s) = struct_goes c s
declaration_goes c (forward f) = tag_goes c f.name
declaration_goes c (typedef t) = typedef_goes c t
declaration_goes c (function f) = record { structs = record { members = λ k x e. e; many = omega arith }; bases = λ b x e. e }
declaration_goes c (variables d) = variables_go true c d.base d.variables

pub unit_goes : (c : Context) (ds : UnitTree) → GoesTo c (context_after c ds)
unit_goes c [] = stays c
unit_goes c (d ∷ ds) = further c (after_declaration c d) (context_after (after_declaration c d) ds) (declaration_goes c d) (unit_goes (after_declaration c d) ds)
