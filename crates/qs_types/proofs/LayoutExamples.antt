-- Layouts by hand: struct a { char c; int n; }; struct b; struct c { struct a x[3]; char t[5]; struct b *p; }; struct d {char t; unsigned char u;};
use Rattle.std.proofs.Common.{◌≡◌, true, false, [], ◌∷◌, Some, None, refl}
use Rattle.qs_types.specs.Types.{int, char, void, pointer, array, struct, Structs}
use Rattle.qs_types.specs.Layout.{size_of, alignment_of, offset_of, layout_of, is_complete, is_sized}

abbrev structs : Structs
structs =
    Some (record { name = 99 ∷ []; type = char } ∷ record { name = 110 ∷ []; type = int } ∷ [])
    ∷ None
    ∷ Some (
    record { name = 120 ∷ []; type = array (struct 0) 3 }
    ∷ record { name = 116 ∷ []; type = array char 5 }
    ∷ record { name = 112 ∷ []; type = pointer (struct 1) } ∷ [])
    ∷ Some (record { name = 116 ∷ []; type = char } ∷ record { name = 117 ∷ []; type = char } ∷ [])
    ∷ []

-- ---- scalars

int_size : size_of structs int ≡ Some 4
int_size = refl

char_size : size_of structs char ≡ Some 1
char_size = refl

pointer_size : size_of structs (pointer (struct 1)) ≡ Some 4
pointer_size = refl

void_size : size_of structs void ≡ None
void_size = refl

-- ---- arrays

array_size : size_of structs (array (array int 3) 2) ≡ Some 24
array_size = refl

array_alignment : alignment_of structs (array char 6) ≡ Some 1
array_alignment = refl

-- ---- structs: padding between members, padding at the end

padded : layout_of structs 0 ≡ Some (record { offsets = 0 ∷ 4 ∷ []; size = 8; alignment = 4 })
padded = refl

nested : layout_of structs 2 ≡ Some (record { offsets = 0 ∷ 24 ∷ 32 ∷ []; size = 36; alignment = 4 })
nested = refl

unpadded : layout_of structs 3 ≡ Some (record { offsets = 0 ∷ 1 ∷ []; size = 2; alignment = 1 })
unpadded = refl

second_member : offset_of structs 0 1 ≡ Some 4
second_member = refl

third_member : offset_of structs 2 2 ≡ Some 32
third_member = refl

-- ---- incomplete and large types

declared_only : is_complete structs (struct 1) ≡ false
declared_only = refl

array_of_declared : is_complete structs (array (struct 1) 2) ≡ false
array_of_declared = refl

largest : is_sized structs (array char 16777216) ≡ true
largest = refl

too_large : is_sized structs (array char 16777217) ≡ false
too_large = refl
