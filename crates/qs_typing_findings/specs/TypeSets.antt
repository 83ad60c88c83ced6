-- Types have a test of sameness that is exact, as names of types, blocks and texts have, so that an equation between them, or between lists
-- of them, has at most one proof.
use Rattle.std.proofs.Common.{◌≡◌, Bool, true, false, ◌&&◌, ◌==◌, List, Option, Some, None, refl, sym, ap, ◌∙◌}
use Rattle.std.proofs.Props.{props}
use Rattle.std.proofs.lemmas.Bool.Decides.{Decides-eqb}
use Rattle.std.specs.Cmp.{first_so, second_so}
use Rattle.std.specs.Cmp.Lexicographic.{bytes_decides}
use mathlib.Core.HLevel.{hedberg}
use Rattle.qs_base.specs.Bytes.{same_bytes}
use Rattle.qs_types.specs.Contexts.{Tag, NamedType}
use Rattle.qs_types.specs.Limits.{Block}
use Rattle.qs_types.specs.References.{TextBlock}
use Rattle.qs_types.specs.Types.{TypeTree, int, unsigned, char, void, pointer, array, struct, Structs, same_type}

same_self : (t : TypeTree) → same_type t t ≡ true
same_self int = refl
same_self unsigned = refl
same_self char = refl
same_self void = refl
same_self (pointer t) = same_self t
same_self (array t n) = ap (λ b. b && same_type t t) ((Decides-eqb n n).1 refl) ∙ same_self t
same_self (struct k) = (Decides-eqb k k).1 refl

same_is : (t u : TypeTree) → same_type t u ≡ true → t ≡ u
same_is int int h = refl
same_is unsigned unsigned h = refl
same_is char char h = refl
same_is void void h = refl
same_is (pointer t) (pointer u) h = ap pointer (same_is t u h)
same_is (array t n) (array u m) h =
    λ i. array (same_is t u (second_so (n == m) (same_type t u) h) i) ((Decides-eqb n m).0 (first_so (n == m) (same_type t u) h) i)
same_is (struct k) (struct j) h = ap struct ((Decides-eqb k j).0 h)
same_is _ _ h = absurd (cc)

type_decided : Discrete TypeTree
type_decided t u = by (same_type t u) refl
  where
    by : (b : Bool) → same_type t u ≡ b → Dec (t ≡ u)
    by true e = yes (same_is t u e)
    by false e = no (λ p. let differ : true ≡ false = sym (same_self t) ∙ ap (same_type t) p ∙ e in absurd (cc))

type_set : IsSet TypeTree
type_set = hedberg type_decided

pub types_prop : (ts us : List (Option TypeTree)) → IsProp (ts ≡ us)
types_prop ts us = hlevel (props, type_set)

pub structs_prop : (structs others : Structs) → IsProp (structs ≡ others)
structs_prop structs others = hlevel (props, type_set)

-- ---- the same of names of types

abbrev same_tag : Tag → Tag → Bool
same_tag a b = (a.place == b.place) && same_bytes a.name b.name

tag_self : (a : Tag) → same_tag a a ≡ true
tag_self a = ap (λ b. b && same_bytes a.name a.name) ((Decides-eqb a.place a.place).1 refl) ∙ (bytes_decides a.name a.name).1 refl

tag_is : (a b : Tag) → same_tag a b ≡ true → a ≡ b
tag_is a b h =
    let place = (Decides-eqb a.place b.place).0 (first_so (a.place == b.place) (same_bytes a.name b.name) h) in
    let name = (bytes_decides a.name b.name).0 (second_so (a.place == b.place) (same_bytes a.name b.name) h) in
    λ i. record { name = name i; place = place i }

tag_decided : Discrete Tag
tag_decided a b = by (same_tag a b) refl
  where
    by : (t : Bool) → same_tag a b ≡ t → Dec (a ≡ b)
    by true e = yes (tag_is a b e)
    by false e = no (λ p. let differ : true ≡ false = sym (tag_self a) ∙ ap (same_tag a) p ∙ e in absurd (cc))

tag_set : IsSet Tag
tag_set = hedberg tag_decided

pub tags_prop : (ts us : List Tag) → IsProp (ts ≡ us)
tags_prop ts us = hlevel (props, tag_set)

abbrev same_option : Option TypeTree → Option TypeTree → Bool
same_option None None = true
same_option None (Some u) = false
same_option (Some t) None = false
same_option (Some t) (Some u) = same_type t u

option_self : (o : Option TypeTree) → same_option o o ≡ true
option_self None = refl
option_self (Some t) = same_self t

option_is : (o p : Option TypeTree) → same_option o p ≡ true → o ≡ p
option_is None None h = refl
option_is None (Some u) h = absurd (cc)
option_is (Some t) None h = absurd (cc)
option_is (Some t) (Some u) h = ap Some (same_is t u h)

abbrev same_named : NamedType → NamedType → Bool
same_named a b = same_option a.type b.type && same_bytes a.name b.name

named_self : (a : NamedType) → same_named a a ≡ true
named_self a = ap (λ b. b && same_bytes a.name a.name) (option_self a.type) ∙ (bytes_decides a.name a.name).1 refl

named_is : (a b : NamedType) → same_named a b ≡ true → a ≡ b
named_is a b h =
    let type = option_is a.type b.type (first_so (same_option a.type b.type) (same_bytes a.name b.name) h) in
    let name = (bytes_decides a.name b.name).0 (second_so (same_option a.type b.type) (same_bytes a.name b.name) h) in
    λ i. record { name = name i; type = type i }

named_decided : Discrete NamedType
named_decided a b = by (same_named a b) refl
  where
    by : (t : Bool) → same_named a b ≡ t → Dec (a ≡ b)
    by true e = yes (named_is a b e)
    by false e = no (λ p. let differ : true ≡ false = sym (named_self a) ∙ ap (same_named a) p ∙ e in absurd (cc))

named_set : IsSet NamedType
named_set = hedberg named_decided

pub named_prop : (ns ms : List NamedType) → IsProp (ns ≡ ms)
named_prop ns ms = hlevel (props, named_set)

-- ---- the same of blocks

abbrev same_block : Block → Block → Bool
same_block a b = (a.node == b.node) && (a.size == b.size)

block_self : (a : Block) → same_block a a ≡ true
block_self a = ap (λ b. b && (a.size == a.size)) ((Decides-eqb a.node a.node).1 refl) ∙ (Decides-eqb a.size a.size).1 refl

block_is : (a b : Block) → same_block a b ≡ true → a ≡ b
block_is a b h =
    let node = (Decides-eqb a.node b.node).0 (first_so (a.node == b.node) (a.size == b.size) h) in
    let size = (Decides-eqb a.size b.size).0 (second_so (a.node == b.node) (a.size == b.size) h) in
    λ i. record { node = node i; size = size i }

block_decided : Discrete Block
block_decided a b = by (same_block a b) refl
  where
    by : (t : Bool) → same_block a b ≡ t → Dec (a ≡ b)
    by true e = yes (block_is a b e)
    by false e = no (λ p. let differ : true ≡ false = sym (block_self a) ∙ ap (same_block a) p ∙ e in absurd (cc))

block_set : IsSet Block
block_set = hedberg block_decided

pub blocks_prop : (bs cs : List Block) → IsProp (bs ≡ cs)
blocks_prop bs cs = hlevel (props, block_set)

-- ---- the same of texts

abbrev same_text : TextBlock → TextBlock → Bool
same_text a b = (a.node == b.node) && same_bytes a.bytes b.bytes

text_self : (a : TextBlock) → same_text a a ≡ true
text_self a = ap (λ b. b && same_bytes a.bytes a.bytes) ((Decides-eqb a.node a.node).1 refl) ∙ (bytes_decides a.bytes a.bytes).1 refl

text_is : (a b : TextBlock) → same_text a b ≡ true → a ≡ b
text_is a b h =
    let node = (Decides-eqb a.node b.node).0 (first_so (a.node == b.node) (same_bytes a.bytes b.bytes) h) in
    let bytes = (bytes_decides a.bytes b.bytes).0 (second_so (a.node == b.node) (same_bytes a.bytes b.bytes) h) in
    λ i. record { node = node i; bytes = bytes i }

text_decided : Discrete TextBlock
text_decided a b = by (same_text a b) refl
  where
    by : (t : Bool) → same_text a b ≡ t → Dec (a ≡ b)
    by true e = yes (text_is a b e)
    by false e = no (λ p. let differ : true ≡ false = sym (text_self a) ∙ ap (same_text a) p ∙ e in absurd (cc))

text_set : IsSet TextBlock
text_set = hedberg text_decided

pub texts_prop : (ts us : List TextBlock) → IsProp (ts ≡ us)
texts_prop ts us = hlevel (props, text_set)
