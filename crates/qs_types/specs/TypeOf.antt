-- The pure types that types in code stand for.
use Rattle.qs_types.specs.Types.{TypeTree, int, unsigned, char, void, pointer, array, struct}
use Rattle.qs_types.specs.declared.types.CType.{CType, CType-F, fold-CType}

abbrev pub type_step : CType-F TypeTree → TypeTree
type_step CType-F.Int = int
type_step CType-F.Unsigned = unsigned
type_step CType-F.Char = char
type_step CType-F.Void = void
type_step (CType-F.Pointer t) = pointer t.value
type_step (CType-F.Array t n) = array t.value n
type_step (CType-F.Struct k) = struct k

abbrev pub type_tree : CType → TypeTree
type_tree = fold-CType TypeTree type_step
