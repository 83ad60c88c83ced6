-- Conversions (C11 6.3) as far as types go.
use Rattle.std.specs.Prelude.{◌||◌, if◌then◌else◌}
use Rattle.qs_types.specs.Types.{TypeTree, int, unsigned, char, void, pointer, array, struct, same_type, is_pointer}

-- 6.3.2.1p3: an array turns into a pointer to its first element
abbrev pub decayed : TypeTree → TypeTree
decayed int = int
decayed unsigned = unsigned
decayed char = char
decayed void = void
decayed (pointer t) = pointer t
decayed (array t n) = pointer t
decayed (struct k) = struct k

-- 6.3.1.1p2: the integer promotions
abbrev pub promoted : TypeTree → TypeTree
promoted t = if same_type t unsigned then unsigned else int

-- 6.3.1.8: the usual arithmetic conversions
abbrev pub arithmetic : TypeTree → TypeTree → TypeTree
arithmetic t u = if same_type t unsigned || same_type u unsigned then unsigned else int

-- 6.5.15p5, p6: the type of `?:` by those of its branches; a null constant takes the type of the pointer beside it
abbrev pub common : TypeTree → TypeTree → TypeTree
common t u = if is_pointer t then t else if is_pointer u then u else arithmetic t u
