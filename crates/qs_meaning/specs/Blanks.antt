-- What an object holds where nothing else is given (C11 6.7.9p10, p21): integers 0, pointers null, padding bytes 0.
use Rattle.std.specs.Prelude.{ℕ, zero, suc, ◌+◌, ◌-◌, List, [], ◌∷◌, Option, Some, None}
use Rattle.qs_memory.specs.Partial.{◌>>=◌}
use Rattle.qs_memory.specs.Memory.{BlankTree, zeros, nulls, repeated, nothing, joined}
use Rattle.qs_types.specs.Types.{TypeTree, int, unsigned, char, void, pointer, array, struct, MemberTree, Structs}
use Rattle.qs_types.specs.Layout.{StructLayout, size_of, struct_of, layout_of, defined_structs}

-- the blanks of structs by their numbers, where they are known
abbrev pub Blanks : Type 0
Blanks = ℕ → Option BlankTree

abbrev pub blank_by : Blanks → TypeTree → Option BlankTree
blank_by blanks int = Some (zeros 4)
blank_by blanks unsigned = Some (zeros 4)
blank_by blanks char = Some (zeros 1)
blank_by blanks void = None
blank_by blanks (pointer t) = Some (nulls 1)
blank_by blanks (array t n) = blank_by blanks t >>= λ b. Some (repeated n b)
blank_by blanks (struct k) = blanks k

-- the members from this place on, each at its offset, with the padding before it, and then the padding at the end
abbrev pub members_blank : Structs → Blanks → (at size : ℕ) → List MemberTree → (offsets : List ℕ) → Option BlankTree
members_blank structs blanks at size [] offsets = Some (joined (zeros (size - at)) nothing)
members_blank structs blanks at size (m ∷ ms) [] = None
members_blank structs blanks at size (m ∷ ms) (offset ∷ offsets) =
    blank_by blanks m.type >>= λ b. size_of structs m.type >>= λ n. members_blank structs blanks (offset + n) size ms offsets >>= λ rest.
    Some (joined (zeros (offset - at)) (joined b rest))

abbrev pub struct_blank : Structs → Blanks → List MemberTree → StructLayout → Option BlankTree
struct_blank structs blanks ms layout = members_blank structs blanks 0 layout.size ms layout.offsets

-- structs that have structs in them at most this deep
abbrev pub blanks_within : (depth : ℕ) → Structs → Blanks
blanks_within zero structs k = None
blanks_within (suc depth) structs k = struct_of structs k >>= λ ms. layout_of structs k >>= struct_blank structs (blanks_within depth structs) ms

abbrev pub blank_of : Structs → TypeTree → Option BlankTree
blank_of structs t = blank_by (blanks_within (defined_structs structs) structs) t
