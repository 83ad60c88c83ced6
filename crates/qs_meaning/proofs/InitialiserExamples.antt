-- Blanks, initial cells and initialisers of locals, one for each form, computed from the definition.
use Rattle.std.proofs.Common.{◌≡◌, ℕ, true, false, List, [], ◌∷◌, ◌++◌, Option, Some, None, refl}
use Rattle.qs_syntax.specs.declared.types.Base.TheVariants as bases
use Rattle.qs_syntax.specs.Numbering.{numbered_unit}
use Rattle.qs_syntax.specs.Trees.{UnitTree, InitialiserTree}
use Rattle.qs_memory.specs.declared.scalar.Scalar.TheVariants.{Char, Int, Unsigned, Pointer}
use Rattle.qs_memory.specs.Partial.{◌>>=◌}
use Rattle.qs_memory.specs.Values.{null, into}
use Rattle.qs_memory.specs.Memory.{nothing as blank_nothing, Cell, byte, part, BlankTree, zeros, nulls, repeated, joined}
use Rattle.qs_types.specs.Types.{TypeTree, int, char, pointer, array, struct}
use Rattle.qs_meaning.specs.Typed.{unchanged, converted, Expr, constant, value, pointer_to, member, Effect, nothing, assign, set, copy, fill, in_order, variable, object, local, static, StaticBlock, TypedProgram}
use Rattle.qs_meaning.specs.Forms.{lvalue}
use Rattle.qs_meaning.specs.Blanks.{blank_of}
use Rattle.qs_meaning.specs.Initialisers.{local_set}
use Rattle.qs_meaning.specs.Units.{typed_of}
use Rattle.qs_meaning.proofs.Samples as c
use Rattle.qs_meaning.proofs.Samples.{number, numbers, valued, listed, global, one, many, open_length, struct_s, s_base, text, named, address, main_, eval}
use Rattle.qs_meaning.proofs.ExampleScopes.{structs, scope, u, v, text_at}

-- ---- blanks (6.7.9p10)

blank_pointers : blank_of structs (array (pointer int) 2) ≡ Some (repeated 2 (nulls 1))
blank_pointers = refl

-- the blank of struct s: char m, padding, int n
abbrev blank_s : BlankTree
blank_s = joined (zeros 0) (joined (zeros 1) (joined (zeros 3) (joined (zeros 4) (joined (zeros 0) blank_nothing))))

-- char m; int n; with the padding between them
blank_struct : blank_of structs (struct 0) ≡ Some blank_s
blank_struct = refl

-- ---- locals

abbrev set_of : Expr → TypeTree → InitialiserTree → Option Effect
set_of place t i = local_set scope (record { type = t; form = lvalue (object place) }) i

-- char c=u;
plain_scalar :
    local_set scope (record { type = char; form = lvalue (variable 0) }) (valued u)
    ≡ Some (assign (set Char (variable 0) (converted Unsigned Char) (value Unsigned (variable 2))))
plain_scalar = refl

-- int *p=0;
plain_null :
    local_set scope (record { type = pointer int; form = lvalue (variable 3) }) (valued (number 0))
    ≡ Some (assign (set Pointer (variable 3) (converted Int Pointer) (constant Int 0)))
plain_null = refl

-- struct s w=v;
whole_struct : set_of (pointer_to (local 3)) (struct 0) (valued v) ≡ Some (copy 8 4 (pointer_to (local 3)) (pointer_to (local 2)))
whole_struct = refl

abbrev first : Expr
first = pointer_to (local 3)

abbrev int_at : ℕ → ℕ → Effect
int_at offset n = assign (set Int (object (member offset first)) unchanged (constant Int n))

-- int w[3]={7,8};
list_of_array :
    set_of first (array int 3) (listed (numbers (7 ∷ 8 ∷ [])))
    ≡ Some (in_order (fill (repeated 3 (zeros 4)) first) (in_order (int_at 0 7) (in_order (int_at 4 8) nothing)))
list_of_array = refl

-- int w[2][2]={{7},{8,9}};
list_of_lists :
    set_of first (array (array int 2) 2) (listed (listed (numbers (7 ∷ [])) ∷ listed (numbers (8 ∷ 9 ∷ [])) ∷ []))
    ≡ Some (in_order (fill (repeated 2 (repeated 2 (zeros 4))) first) (in_order (int_at 0 7) (in_order (int_at 8 8) (in_order (int_at 12 9) nothing))))
list_of_lists = refl

-- struct s w={u,8};
list_of_struct :
    set_of first (struct 0) (listed (valued u ∷ valued (number 8) ∷ []))
    ≡ Some (in_order (fill blank_s first) (in_order (assign (set Char (object (member 0 first)) (converted Unsigned Char) (value Unsigned (variable 2)))) (in_order
    (int_at 4 8) nothing)))
list_of_struct = refl

-- struct s w[2]={v};
struct_in_list :
    set_of first (array (struct 0) 2) (listed (valued v ∷ []))
    ≡ Some (in_order (fill (repeated 2 blank_s) first) (in_order (copy 8 4 (member 0 first) (pointer_to (local 2))) nothing))
struct_in_list = refl

-- char w[4]="ab"; the second text of the unit
text_with_room :
    set_of first (array char 4) (valued (text_at 41 (97 ∷ 98 ∷ [])))
    ≡ Some (in_order (fill (repeated 4 (zeros 1)) first) (in_order (copy 3 1 (member 0 first) (pointer_to (static 3))) nothing))
text_with_room = refl

-- char w[2]="ab"; without the zero
text_without_zero :
    set_of first (array char 2) (valued (text_at 41 (97 ∷ 98 ∷ [])))
    ≡ Some (in_order (fill (repeated 2 (zeros 1)) first) (in_order (copy 2 1 (member 0 first) (pointer_to (static 3))) nothing))
text_without_zero = refl

-- char w[2][3]={"a","bc"};
texts_in_list :
    set_of first (array (array char 3) 2) (listed (valued (text_at 40 (97 ∷ [])) ∷ valued (text_at 41 (98 ∷ 99 ∷ [])) ∷ []))
    ≡ Some (in_order (fill (repeated 2 (repeated 3 (zeros 1))) first) (in_order (copy 2 1 (member 0 first) (pointer_to (static 2))) (in_order (copy 3 1 (member 3 first)
    (pointer_to (static 3))) nothing)))
texts_in_list = refl

-- ---- file scope: the cells of the blocks of a unit that has only variables

abbrev blocks_of : UnitTree → Option (List StaticBlock)
blocks_of unit = typed_of (numbered_unit unit) >>= λ (u : TypedProgram). Some u.blocks

abbrev writable : List Cell → StaticBlock
writable cells = record { cells = cells; writable = true }

abbrev constant_text : List Cell → StaticBlock
constant_text cells = record { cells = cells; writable = false }

abbrev null_cells : List Cell
null_cells = part null 0 ∷ part null 1 ∷ part null 2 ∷ part null 3 ∷ []

abbrev pointer_cells : ℕ → List Cell
pointer_cells k = part (into k 0) 0 ∷ part (into k 0) 1 ∷ part (into k 0) 2 ∷ part (into k 0) 3 ∷ []

-- int a; int *b;
without_initialisers :
    blocks_of (global bases.Int 0 97 one None ∷ global bases.Int 1 98 one None ∷ [])
    ≡ Some (writable (byte 0 ∷ byte 0 ∷ byte 0 ∷ byte 0 ∷ []) ∷ writable null_cells ∷ [])
without_initialisers = refl

-- int a=-2; char b=258;
converted_constants :
    blocks_of (global bases.Int 0 97 one (Some (valued (c.minus (number 2)))) ∷ global bases.Char 0 98 one (Some (valued (number 258))) ∷ [])
    ≡ Some (writable (byte 254 ∷ byte 255 ∷ byte 255 ∷ byte 255 ∷ []) ∷ writable (byte 2 ∷ []) ∷ [])
converted_constants = refl

-- struct s {char m;int n;}; struct s a={1,2};
struct_with_padding :
    blocks_of (struct_s ∷ global s_base 0 97 one (Some (listed (numbers (1 ∷ 2 ∷ [])))) ∷ [])
    ≡ Some (writable (byte 1 ∷ byte 0 ∷ byte 0 ∷ byte 0 ∷ byte 2 ∷ byte 0 ∷ byte 0 ∷ byte 0 ∷ []) ∷ [])
struct_with_padding = refl

-- char a[]="x"; char b[2]="x"; char c[1]="x";
arrays_of_texts :
    blocks_of (global bases.Char 0 97 open_length (Some (valued (text (120 ∷ [])))) ∷ global bases.Char 0 98 (many 2) (Some (valued (text (120 ∷ []))))
    ∷ global bases.Char 0 99 (many 1) (Some (valued (text (120 ∷ [])))) ∷ [])
    ≡ Some (writable (byte 120 ∷ byte 0 ∷ []) ∷ writable (byte 120 ∷ byte 0 ∷ []) ∷ writable (byte 120 ∷ []) ∷ [])
arrays_of_texts = refl

-- int a; int *b=&a; int *c=0;
addresses :
    blocks_of (global bases.Int 0 97 one None ∷ global bases.Int 1 98 one (Some (valued (address (named 97)))) ∷ global bases.Int 1 99 one (Some (valued (number 0)))
    ∷ [])
    ≡ Some (writable (byte 0 ∷ byte 0 ∷ byte 0 ∷ byte 0 ∷ []) ∷ writable (pointer_cells 0) ∷ writable null_cells ∷ [])
addresses = refl

-- char a[1]; char *b=a;
array_name :
    blocks_of (global bases.Char 0 97 (many 1) None ∷ global bases.Char 1 98 one (Some (valued (named 97))) ∷ [])
    ≡ Some (writable (byte 0 ∷ []) ∷ writable (pointer_cells 0) ∷ [])
array_name = refl

-- char *a[2]={"x","y"}; char b; the texts stand behind both variables
texts_behind_variables :
    blocks_of (global bases.Char 1 97 (many 2) (Some (listed (valued (text (120 ∷ [])) ∷ valued (text (121 ∷ [])) ∷ []))) ∷ global bases.Char 0 98 one None ∷ [])
    ≡ Some (writable (pointer_cells 2 ++ pointer_cells 3) ∷ writable (byte 0 ∷ []) ∷ constant_text (byte 120 ∷ byte 0 ∷ []) ∷ constant_text (byte 121 ∷ byte 0 ∷ []) ∷ [])
texts_behind_variables = refl

-- int a[2]={5}; int main(void){"z";}
text_of_a_body :
    blocks_of (global bases.Int 0 97 (many 2) (Some (listed (numbers (5 ∷ [])))) ∷ main_ (eval (text (122 ∷ [])) ∷ []) ∷ [])
    ≡ Some (writable (byte 5 ∷ byte 0 ∷ byte 0 ∷ byte 0 ∷ byte 0 ∷ byte 0 ∷ byte 0 ∷ byte 0 ∷ []) ∷ constant_text (byte 122 ∷ byte 0 ∷ []) ∷ [])
text_of_a_body = refl
