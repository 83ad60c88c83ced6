-- Conversions and operations of the typed tree take values of the types that they are for.
use Rattle.std.proofs.Common.{◌≡◌, ◌⊎◌, inl, inr, ℕ, Bool, true, false, ◌&&◌, ◌||◌, Some, refl, sym, ap, ◌∙◌, subst, if◌then◌else◌}
use Rattle.std.proofs.lemmas.Bool.{and_from, or_cases}
use Rattle.std.specs.Cmp.{first_so, second_so}
use Rattle.std.proofs.lemmas.Option.{same_Some}
use Rattle.qs_memory.specs.declared.scalar.Scalar.{Scalar}
use Rattle.qs_memory.specs.declared.scalar.Scalar.TheVariants as scalars
use Rattle.qs_memory.specs.declared.operation.Signedness.{Signedness}
use Rattle.qs_memory.specs.declared.operation.Signedness.TheVariants.{Signed, Unsigned}
use Rattle.qs_memory.specs.declared.operation.Direction.{Direction}
use Rattle.qs_memory.specs.declared.operation.Direction.TheVariants.{Up, Down}
use Rattle.qs_memory.specs.declared.operation.Arithmetic.{Arithmetic}
use Rattle.qs_memory.specs.declared.operation.Arithmetic.TheVariants as arithmetics
use Rattle.qs_memory.specs.declared.operation.Comparison.{Comparison}
use Rattle.qs_memory.specs.Operations.{integer_type, binary_type}
use Rattle.qs_memory.specs.Sizes.{is_element}
use Rattle.qs_memory.specs.Scalars.{same_scalar, is_promoted}
use Rattle.qs_memory.specs.Operands.{right_takes, binary_takes}
use Rattle.qs_memory.proofs.ScalarLaws.{scalar_same, same_self}
use Rattle.qs_memory.proofs.Options.{followed}
use Rattle.qs_types.specs.Types.{TypeTree, int, unsigned, char, void, pointer, array, struct, is_integer, is_pointer, is_scalar, referenced, same_type, Structs}
use Rattle.qs_types.specs.Layout.{size_of}
use Rattle.qs_types.specs.Conversions.{decayed, arithmetic, common}
use Rattle.qs_types.specs.Expressions.{both_integers, is_object_pointer, may_add, may_subtract, difference_type}
use Rattle.qs_meaning.specs.Typed.{unchanged, converted, as_written}
use Rattle.qs_meaning.specs.Conversions.{scalar_of, conversion}
use Rattle.qs_meaning.specs.Operations.{Operated, combined, shifted, compared, moved, moved_from_left, apart, summed, subtracted}
use Rattle.qs_meaning.specs.Fits.{type_after, converts, conversion_fits, takes_in_order, amount_type}
use Rattle.qs_meaning.proofs.Options.{never}

-- ---- tests

pub scalar_decayed : (t : TypeTree) → scalar_of (decayed t) ≡ scalar_of t
scalar_decayed int = refl
scalar_decayed unsigned = refl
scalar_decayed char = refl
scalar_decayed void = refl
scalar_decayed (pointer t) = refl
scalar_decayed (array t n) = refl
scalar_decayed (struct k) = refl

-- ---- types of integers and pointers

pub data Integer : TypeTree → Type 0 where
  an_int : Integer int
  an_unsigned : Integer unsigned
  a_char : Integer char

pub data Pointing : TypeTree → Type 0 where
  a_pointer : (t : TypeTree) → Pointing (pointer t)

pub integer : (t : TypeTree) → is_integer t ≡ true → Integer t
integer int e = an_int
integer unsigned e = an_unsigned
integer char e = a_char
integer void e = never e
integer (pointer t) e = never e
integer (array t n) e = never e
integer (struct k) e = never e

pub pointing : (t : TypeTree) → is_pointer t ≡ true → Pointing t
pointing int e = never e
pointing unsigned e = never e
pointing char e = never e
pointing void e = never e
pointing (pointer t) e = a_pointer t
pointing (array t n) e = never e
pointing (struct k) e = never e

pub scalar_kind : (t : TypeTree) → is_scalar t ≡ true → Integer t ⊎ Pointing t
scalar_kind t e = go (or_cases (is_integer t) _ e)
  where
    go : (is_integer t ≡ true) ⊎ (is_pointer t ≡ true) → Integer t ⊎ Pointing t
    go (inl h) = inl (integer t h)
    go (inr h) = inr (pointing t h)

pub same_pointing : (t u : TypeTree) → is_pointer t ≡ true → same_type t u ≡ true → Pointing u
same_pointing (pointer t) (pointer u) e f = a_pointer u
same_pointing (pointer t) int e f = never f
same_pointing (pointer t) unsigned e f = never f
same_pointing (pointer t) char e f = never f
same_pointing (pointer t) void e f = never f
same_pointing (pointer t) (array u n) e f = never f
same_pointing (pointer t) (struct k) e f = never f
same_pointing int u e f = never e
same_pointing unsigned u e f = never e
same_pointing char u e f = never e
same_pointing void u e f = never e
same_pointing (array t n) u e f = never e
same_pointing (struct k) u e f = never e

-- ---- conversions

-- whether a value of the one type, which may be a null constant, is converted to the other
abbrev pub may_convert : (from to : TypeTree) → (null : Bool) → Bool
may_convert t u null = same_scalar (scalar_of t) (scalar_of u) || converts (scalar_of t) (scalar_of u) null

pub conversion_taken : (t u : TypeTree) (null : Bool) → may_convert t u null ≡ true → conversion_fits (conversion t u) (scalar_of t) null ≡ true
conversion_taken t u null h = go (same_scalar (scalar_of t) (scalar_of u)) h
  where
    go : (b : Bool) → (b || converts (scalar_of t) (scalar_of u) null) ≡ true
        → conversion_fits (if b then unchanged else converted (scalar_of t) (scalar_of u)) (scalar_of t) null ≡ true
    go true h = refl
    go false h = and_from _ _ (same_self (scalar_of t)) h

pub conversion_type : (t u : TypeTree) → type_after (conversion t u) (scalar_of t) ≡ scalar_of u
conversion_type t u = go (same_scalar (scalar_of t) (scalar_of u)) refl
  where
    go : (b : Bool) → same_scalar (scalar_of t) (scalar_of u) ≡ b → type_after (if b then unchanged else converted (scalar_of t) (scalar_of u)) (scalar_of t) ≡ scalar_of u
    go true e = scalar_same _ _ e
    go false e = refl

pub integers_convert : {t u : TypeTree} (null : Bool) → Integer t → Integer u → may_convert t u null ≡ true
integers_convert null an_int an_int = refl
integers_convert null an_int an_unsigned = refl
integers_convert null an_int a_char = refl
integers_convert null an_unsigned an_int = refl
integers_convert null an_unsigned an_unsigned = refl
integers_convert null an_unsigned a_char = refl
integers_convert null a_char an_int = refl
integers_convert null a_char an_unsigned = refl
integers_convert null a_char a_char = refl

pub pointers_convert : {t u : TypeTree} (null : Bool) → Pointing t → Pointing u → may_convert t u null ≡ true
pointers_convert null (a_pointer t) (a_pointer u) = refl

pub null_converts : {t u : TypeTree} (null : Bool) → Integer t → Pointing u → null ≡ true → may_convert t u null ≡ true
null_converts null an_int (a_pointer u) e = e
null_converts null an_unsigned (a_pointer u) e = e
null_converts null a_char (a_pointer u) e = e

-- ---- operations

-- what an operation takes of values of these types, where they are null constants or not
pub record OperatedFits (o : Operated) (t u : TypeTree) (n m : Bool) : Type 0 where
  pub left : conversion_fits o.left (scalar_of t) n ≡ true
  pub right : conversion_fits o.right (scalar_of u) m ≡ true
  pub takes : takes_in_order o.order o.operation (type_after o.left (scalar_of t)) (type_after o.right (scalar_of u)) ≡ true
  pub type : binary_type o.operation ≡ scalar_of o.type

-- one that takes its operands as they are written, of which none need be a null constant
pub record PlainFits (o : Operated) (t u : TypeTree) : Type 0 where
  pub left : (n : Bool) → conversion_fits o.left (scalar_of t) n ≡ true
  pub right : (m : Bool) → conversion_fits o.right (scalar_of u) m ≡ true
  pub takes : binary_takes o.operation (type_after o.left (scalar_of t)) (type_after o.right (scalar_of u)) ≡ true
  pub order : o.order ≡ as_written
  pub type : binary_type o.operation ≡ scalar_of o.type

pub plain : (o : Operated) (t u : TypeTree) (n m : Bool) → PlainFits o t u → OperatedFits o t u n m
plain o t u n m p = record {
  left = p.left n;
  right = p.right m;
  takes = subst (λ z. takes_in_order z o.operation (type_after o.left (scalar_of t)) (type_after o.right (scalar_of u)) ≡ true) (sym p.order) p.takes;
  type = p.type;
}

promoted_type : (s : Signedness) → is_promoted (integer_type s) ≡ true
promoted_type Signed = refl
promoted_type Unsigned = refl

second_same : (op : Arithmetic) (s : Signedness) → right_takes op s (integer_type s) ≡ true
second_same arithmetics.Add s = same_self (integer_type s)
second_same arithmetics.Subtract s = same_self (integer_type s)
second_same arithmetics.Multiply s = same_self (integer_type s)
second_same arithmetics.Divide s = same_self (integer_type s)
second_same arithmetics.Remainder s = same_self (integer_type s)
second_same arithmetics.And s = same_self (integer_type s)
second_same arithmetics.Or s = same_self (integer_type s)
second_same arithmetics.Xor s = same_self (integer_type s)
second_same arithmetics.ShiftLeft s = promoted_type s
second_same arithmetics.ShiftRight s = promoted_type s

pub combined_fits : {t u : TypeTree} (op : Arithmetic) → Integer t → Integer u → PlainFits (combined op t u) t u
combined_fits op an_int an_int = record { left = λ n. refl; right = λ m. refl; takes = second_same op Signed; order = refl; type = refl }
combined_fits op an_int an_unsigned = record { left = λ n. refl; right = λ m. refl; takes = second_same op Unsigned; order = refl; type = refl }
combined_fits op an_int a_char = record { left = λ n. refl; right = λ m. refl; takes = second_same op Signed; order = refl; type = refl }
combined_fits op an_unsigned an_int = record { left = λ n. refl; right = λ m. refl; takes = second_same op Unsigned; order = refl; type = refl }
combined_fits op an_unsigned an_unsigned = record { left = λ n. refl; right = λ m. refl; takes = second_same op Unsigned; order = refl; type = refl }
combined_fits op an_unsigned a_char = record { left = λ n. refl; right = λ m. refl; takes = second_same op Unsigned; order = refl; type = refl }
combined_fits op a_char an_int = record { left = λ n. refl; right = λ m. refl; takes = second_same op Signed; order = refl; type = refl }
combined_fits op a_char an_unsigned = record { left = λ n. refl; right = λ m. refl; takes = second_same op Unsigned; order = refl; type = refl }
combined_fits op a_char a_char = record { left = λ n. refl; right = λ m. refl; takes = second_same op Signed; order = refl; type = refl }

-- whether an operation takes a promoted second operand
abbrev pub Shifts : Arithmetic → Type 0
Shifts op = (s : Signedness) (t : Scalar) → is_promoted t ≡ true → right_takes op s t ≡ true

pub shifted_fits : {t u : TypeTree} (op : Arithmetic) → Shifts op → Integer t → Integer u → PlainFits (shifted op t u) t u
shifted_fits op h an_int an_int = record { left = λ n. refl; right = λ m. refl; takes = h _ _ refl; order = refl; type = refl }
shifted_fits op h an_int an_unsigned = record { left = λ n. refl; right = λ m. refl; takes = h _ _ refl; order = refl; type = refl }
shifted_fits op h an_int a_char = record { left = λ n. refl; right = λ m. refl; takes = h _ _ refl; order = refl; type = refl }
shifted_fits op h an_unsigned an_int = record { left = λ n. refl; right = λ m. refl; takes = h _ _ refl; order = refl; type = refl }
shifted_fits op h an_unsigned an_unsigned = record { left = λ n. refl; right = λ m. refl; takes = h _ _ refl; order = refl; type = refl }
shifted_fits op h an_unsigned a_char = record { left = λ n. refl; right = λ m. refl; takes = h _ _ refl; order = refl; type = refl }
shifted_fits op h a_char an_int = record { left = λ n. refl; right = λ m. refl; takes = h _ _ refl; order = refl; type = refl }
shifted_fits op h a_char an_unsigned = record { left = λ n. refl; right = λ m. refl; takes = h _ _ refl; order = refl; type = refl }
shifted_fits op h a_char a_char = record { left = λ n. refl; right = λ m. refl; takes = h _ _ refl; order = refl; type = refl }

-- ---- two integers, two pointers, or a pointer and a null constant

pub data Alike : (t u : TypeTree) (n m : Bool) → Type 0 where
  integers : {t u : TypeTree} {n m : Bool} → Integer t → Integer u → Alike t u n m
  pointers : {t u : TypeTree} {n m : Bool} → Pointing t → Pointing u → Alike t u n m
  right_null : {t u : TypeTree} {n m : Bool} → Pointing t → Integer u → m ≡ true → Alike t u n m
  left_null : {t u : TypeTree} {n m : Bool} → Integer t → Pointing u → n ≡ true → Alike t u n m

pub compared_fits : {t u : TypeTree} {n m : Bool} (c : Comparison) → Alike t u n m → OperatedFits (compared c t u) t u n m
compared_fits c (integers an_int an_int) = record { left = refl; right = refl; takes = refl; type = refl }
compared_fits c (integers an_int an_unsigned) = record { left = refl; right = refl; takes = refl; type = refl }
compared_fits c (integers an_int a_char) = record { left = refl; right = refl; takes = refl; type = refl }
compared_fits c (integers an_unsigned an_int) = record { left = refl; right = refl; takes = refl; type = refl }
compared_fits c (integers an_unsigned an_unsigned) = record { left = refl; right = refl; takes = refl; type = refl }
compared_fits c (integers an_unsigned a_char) = record { left = refl; right = refl; takes = refl; type = refl }
compared_fits c (integers a_char an_int) = record { left = refl; right = refl; takes = refl; type = refl }
compared_fits c (integers a_char an_unsigned) = record { left = refl; right = refl; takes = refl; type = refl }
compared_fits c (integers a_char a_char) = record { left = refl; right = refl; takes = refl; type = refl }
compared_fits c (pointers (a_pointer a) (a_pointer b)) = record { left = refl; right = refl; takes = refl; type = refl }
compared_fits c (right_null (a_pointer a) an_int e) = record { left = refl; right = e; takes = refl; type = refl }
compared_fits c (right_null (a_pointer a) an_unsigned e) = record { left = refl; right = e; takes = refl; type = refl }
compared_fits c (right_null (a_pointer a) a_char e) = record { left = refl; right = e; takes = refl; type = refl }
compared_fits c (left_null an_int (a_pointer b) e) = record { left = e; right = refl; takes = refl; type = refl }
compared_fits c (left_null an_unsigned (a_pointer b) e) = record { left = e; right = refl; takes = refl; type = refl }
compared_fits c (left_null a_char (a_pointer b) e) = record { left = e; right = refl; takes = refl; type = refl }

-- both are converted to one type
pub record Shared (t u : TypeTree) (n m : Bool) : Type 0 where
  pub first : may_convert t (common t u) n ≡ true
  pub second : may_convert u (common t u) m ≡ true

pub shared : {t u : TypeTree} {n m : Bool} → Alike t u n m → Shared t u n m
shared (integers an_int an_int) = record { first = refl; second = refl }
shared (integers an_int an_unsigned) = record { first = refl; second = refl }
shared (integers an_int a_char) = record { first = refl; second = refl }
shared (integers an_unsigned an_int) = record { first = refl; second = refl }
shared (integers an_unsigned an_unsigned) = record { first = refl; second = refl }
shared (integers an_unsigned a_char) = record { first = refl; second = refl }
shared (integers a_char an_int) = record { first = refl; second = refl }
shared (integers a_char an_unsigned) = record { first = refl; second = refl }
shared (integers a_char a_char) = record { first = refl; second = refl }
shared (pointers (a_pointer a) (a_pointer b)) = record { first = refl; second = refl }
shared (right_null (a_pointer a) an_int e) = record { first = refl; second = e }
shared (right_null (a_pointer a) an_unsigned e) = record { first = refl; second = e }
shared (right_null (a_pointer a) a_char e) = record { first = refl; second = e }
shared (left_null an_int (a_pointer b) e) = record { first = e; second = refl }
shared (left_null an_unsigned (a_pointer b) e) = record { first = e; second = refl }
shared (left_null a_char (a_pointer b) e) = record { first = e; second = refl }

-- ---- sums and differences

moved_fits : {u : TypeTree} (d : Direction) (size : ℕ) (a : TypeTree) → Integer u → is_element size ≡ true → PlainFits (moved d size (pointer a) u) (pointer a) u
moved_fits d size a an_int e = record { left = λ n. refl; right = λ m. refl; takes = e; order = refl; type = refl }
moved_fits d size a an_unsigned e = record { left = λ n. refl; right = λ m. refl; takes = e; order = refl; type = refl }
moved_fits d size a a_char e = record { left = λ n. refl; right = λ m. refl; takes = e; order = refl; type = refl }

moved_left_fits : {t : TypeTree} {n m : Bool} (size : ℕ) (a : TypeTree) → Integer t → is_element size ≡ true → OperatedFits (moved_from_left size t (pointer a)) t (pointer a) n m
moved_left_fits size a an_int e = record { left = refl; right = refl; takes = e; type = refl }
moved_left_fits size a an_unsigned e = record { left = refl; right = refl; takes = e; type = refl }
moved_left_fits size a a_char e = record { left = refl; right = refl; takes = e; type = refl }

apart_fits : (size : ℕ) (a b : TypeTree) → is_element size ≡ true → PlainFits (apart size) (pointer a) (pointer b)
apart_fits size a b e = record { left = λ n. refl; right = λ m. refl; takes = e; order = refl; type = refl }

pub data Added (t u : TypeTree) : Type 0 where
  numbers : Integer t → Integer u → Added t u
  front : Pointing t → Integer u → Added t u
  back : Integer t → Pointing u → Added t u

pub added : (structs : Structs) (t u : TypeTree) → may_add structs t u ≡ true → Added t u
added structs t u e = go (or_cases (both_integers t u) _ e)
  where
    pointers : ((is_object_pointer structs t && is_integer u) ≡ true) ⊎ ((is_integer t && is_object_pointer structs u) ≡ true) → Added t u
    pointers (inl h) = front (pointing t (first_so _ _ (first_so _ _ h))) (integer u (second_so (is_object_pointer structs t) _ h))
    pointers (inr h) = back (integer t (first_so _ _ h)) (pointing u (first_so _ _ (second_so (is_integer t) _ h)))

    go : (both_integers t u ≡ true) ⊎ (((is_object_pointer structs t && is_integer u) || (is_integer t && is_object_pointer structs u)) ≡ true) → Added t u
    go (inl h) = numbers (integer t (first_so _ _ h)) (integer u (second_so (is_integer t) _ h))
    go (inr h) = pointers (or_cases _ _ h)

numbers_summed : {t u : TypeTree} (structs : Structs) → Integer t → Integer u → summed structs t u ≡ Some (combined arithmetics.Add t u)
numbers_summed structs an_int an_int = refl
numbers_summed structs an_int an_unsigned = refl
numbers_summed structs an_int a_char = refl
numbers_summed structs an_unsigned an_int = refl
numbers_summed structs an_unsigned an_unsigned = refl
numbers_summed structs an_unsigned a_char = refl
numbers_summed structs a_char an_int = refl
numbers_summed structs a_char an_unsigned = refl
numbers_summed structs a_char a_char = refl

numbers_subtracted : {t u : TypeTree} (structs : Structs) → Integer t → Integer u → subtracted structs t u ≡ Some (combined arithmetics.Subtract t u)
numbers_subtracted structs an_int an_int = refl
numbers_subtracted structs an_int an_unsigned = refl
numbers_subtracted structs an_int a_char = refl
numbers_subtracted structs an_unsigned an_int = refl
numbers_subtracted structs an_unsigned an_unsigned = refl
numbers_subtracted structs an_unsigned a_char = refl
numbers_subtracted structs a_char an_int = refl
numbers_subtracted structs a_char an_unsigned = refl
numbers_subtracted structs a_char a_char = refl

common_numbers : {t u : TypeTree} → Integer t → Integer u → common t u ≡ arithmetic t u
common_numbers an_int an_int = refl
common_numbers an_int an_unsigned = refl
common_numbers an_int a_char = refl
common_numbers an_unsigned an_int = refl
common_numbers an_unsigned an_unsigned = refl
common_numbers an_unsigned a_char = refl
common_numbers a_char an_int = refl
common_numbers a_char an_unsigned = refl
common_numbers a_char a_char = refl

difference_numbers : {t u : TypeTree} → Integer t → Integer u → difference_type t u ≡ arithmetic t u
difference_numbers an_int an_int = refl
difference_numbers an_int an_unsigned = refl
difference_numbers an_int a_char = refl
difference_numbers an_unsigned an_int = refl
difference_numbers an_unsigned an_unsigned = refl
difference_numbers an_unsigned a_char = refl
difference_numbers a_char an_int = refl
difference_numbers a_char an_unsigned = refl
difference_numbers a_char a_char = refl

-- the sizes of what a pointer leads to
abbrev pub Elements : Structs → TypeTree → Type 0
Elements structs t = (n : ℕ) → size_of structs (referenced t) ≡ Some n → is_element n ≡ true

-- an operation that fits, with the type that the typing rules give its result
pub record ResultFits (o : Operated) (t u : TypeTree) (n m : Bool) (gives : TypeTree) : Type 0 where
  pub fits : OperatedFits o t u n m
  pub result : scalar_of o.type ≡ scalar_of gives

summed_front : {u : TypeTree} (structs : Structs) (a : TypeTree) (o : Operated) (n m : Bool) → Integer u → Elements structs (pointer a) → summed structs (pointer a) u ≡ Some o
    → PlainFits o (pointer a) u × (o.type ≡ pointer a)
summed_front {u = u} structs a o n m j sizes e =
    let w = followed (size_of structs a) _ o e in
    subst (λ (z : Operated). PlainFits z (pointer a) u × (z.type ≡ pointer a)) (same_Some _ o w.then) (moved_fits Up w.value a j (sizes w.value w.first), refl)

summed_back : {t : TypeTree} (structs : Structs) (a : TypeTree) (o : Operated) (n m : Bool) → Integer t → Elements structs (pointer a) → summed structs t (pointer a) ≡ Some o
    → ResultFits o t (pointer a) n m (pointer a)
summed_back structs a o n m an_int sizes e =
    let w = followed (size_of structs a) _ o e in
    subst (λ (z : Operated). ResultFits z int (pointer a) n m (pointer a)) (same_Some _ o w.then) (record { fits = moved_left_fits w.value a an_int (sizes w.value w.first); result = refl })
summed_back structs a o n m an_unsigned sizes e =
    let w = followed (size_of structs a) _ o e in
    subst (λ (z : Operated). ResultFits z unsigned (pointer a) n m (pointer a)) (same_Some _ o w.then) (record { fits = moved_left_fits w.value a an_unsigned (sizes w.value w.first); result = refl })
summed_back structs a o n m a_char sizes e =
    let w = followed (size_of structs a) _ o e in
    subst (λ (z : Operated). ResultFits z char (pointer a) n m (pointer a)) (same_Some _ o w.then) (record { fits = moved_left_fits w.value a a_char (sizes w.value w.first); result = refl })

pub summed_fits : {t u : TypeTree} (structs : Structs) (o : Operated) (n m : Bool) → Added t u → Elements structs t → Elements structs u → summed structs t u ≡ Some o
    → ResultFits o t u n m (common t u)
summed_fits {t = t} {u = u} structs o n m (numbers i j) h k e =
    subst (λ (z : Operated). ResultFits z t u n m (common t u)) (same_Some _ o (sym (numbers_summed structs i j) ∙ e))
    (record { fits = plain _ t u n m (combined_fits arithmetics.Add i j); result = ap scalar_of (sym (common_numbers i j)) })
summed_fits {u = u} structs o n m (front (a_pointer a) j) h k e =
    let p = summed_front structs a o n m j h e in
    record { fits = plain o (pointer a) u n m p.0; result = ap scalar_of p.1 }
summed_fits structs o n m (back an_int (a_pointer a)) h k e = summed_back structs a o n m an_int k e
summed_fits structs o n m (back an_unsigned (a_pointer a)) h k e = summed_back structs a o n m an_unsigned k e
summed_fits structs o n m (back a_char (a_pointer a)) h k e = summed_back structs a o n m a_char k e

pub data Subtracted (t u : TypeTree) : Type 0 where
  two_numbers : Integer t → Integer u → Subtracted t u
  from_pointer : Pointing t → Integer u → Subtracted t u
  two_pointers : Pointing t → Pointing u → Subtracted t u

pub subtracts : (structs : Structs) (t u : TypeTree) → may_subtract structs t u ≡ true → Subtracted t u
subtracts structs t u e = go (or_cases (both_integers t u) _ e)
  where
    second : is_pointer t ≡ true → (is_integer u ≡ true) ⊎ (same_type t u ≡ true) → Subtracted t u
    second p (inl h) = from_pointer (pointing t p) (integer u h)
    second p (inr h) = two_pointers (pointing t p) (same_pointing t u p h)

    go : (both_integers t u ≡ true) ⊎ ((is_object_pointer structs t && (is_integer u || same_type t u)) ≡ true) → Subtracted t u
    go (inl h) = two_numbers (integer t (first_so _ _ h)) (integer u (second_so (is_integer t) _ h))
    go (inr h) = second (first_so _ _ (first_so _ _ h)) (or_cases (is_integer u) _ (second_so (is_object_pointer structs t) _ h))

subtracted_front : {u : TypeTree} (structs : Structs) (a : TypeTree) (o : Operated) → Integer u → Elements structs (pointer a) → subtracted structs (pointer a) u ≡ Some o
    → PlainFits o (pointer a) u × (o.type ≡ pointer a)
subtracted_front structs a o an_int sizes e =
    let w = followed (size_of structs a) _ o e in
    subst (λ (z : Operated). PlainFits z (pointer a) int × (z.type ≡ pointer a)) (same_Some _ o w.then) (moved_fits Down w.value a an_int (sizes w.value w.first), refl)
subtracted_front structs a o an_unsigned sizes e =
    let w = followed (size_of structs a) _ o e in
    subst (λ (z : Operated). PlainFits z (pointer a) unsigned × (z.type ≡ pointer a)) (same_Some _ o w.then) (moved_fits Down w.value a an_unsigned (sizes w.value w.first), refl)
subtracted_front structs a o a_char sizes e =
    let w = followed (size_of structs a) _ o e in
    subst (λ (z : Operated). PlainFits z (pointer a) char × (z.type ≡ pointer a)) (same_Some _ o w.then) (moved_fits Down w.value a a_char (sizes w.value w.first), refl)

difference_front : {u : TypeTree} (a : TypeTree) → Integer u → difference_type (pointer a) u ≡ pointer a
difference_front a an_int = refl
difference_front a an_unsigned = refl
difference_front a a_char = refl

pub subtracted_fits : {t u : TypeTree} (structs : Structs) (o : Operated) (n m : Bool) → Subtracted t u → Elements structs t → subtracted structs t u ≡ Some o
    → ResultFits o t u n m (difference_type t u)
subtracted_fits {t = t} {u = u} structs o n m (two_numbers i j) h e =
    subst (λ (z : Operated). ResultFits z t u n m (difference_type t u)) (same_Some _ o (sym (numbers_subtracted structs i j) ∙ e))
    (record { fits = plain _ t u n m (combined_fits arithmetics.Subtract i j); result = ap scalar_of (sym (difference_numbers i j)) })
subtracted_fits {u = u} structs o n m (from_pointer (a_pointer a) j) h e =
    let p = subtracted_front structs a o j h e in
    record { fits = plain o (pointer a) u n m p.0; result = ap scalar_of (p.1 ∙ sym (difference_front a j)) }
subtracted_fits structs o n m (two_pointers (a_pointer a) (a_pointer b)) h e =
    let w = followed (size_of structs a) _ o e in
    subst (λ (z : Operated). ResultFits z (pointer a) (pointer b) n m int) (same_Some _ o w.then)
    (record { fits = plain _ (pointer a) (pointer b) n m (apart_fits w.value a b (h w.value w.first)); result = refl })

-- ---- what is added to an object and subtracted from it (6.5.16.2, 6.5.2.4): the object is an integer or a pointer

-- such an operation, and its result back as a value of the object's type
pub record UpdateFits (o : Operated) (t u : TypeTree) : Type 0 where
  pub plain : PlainFits o t u
  pub back : may_convert o.type t false ≡ true

combined_back : {t u : TypeTree} (op : Arithmetic) → Integer t → Integer u → may_convert (combined op t u).type t false ≡ true
combined_back op an_int an_int = refl
combined_back op an_int an_unsigned = refl
combined_back op an_int a_char = refl
combined_back op an_unsigned an_int = refl
combined_back op an_unsigned an_unsigned = refl
combined_back op an_unsigned a_char = refl
combined_back op a_char an_int = refl
combined_back op a_char an_unsigned = refl
combined_back op a_char a_char = refl

pub combined_update : {t u : TypeTree} (op : Arithmetic) → Integer t → Integer u → UpdateFits (combined op t u) t u
combined_update op i j = record { plain = combined_fits op i j; back = combined_back op i j }

shifted_back : {t u : TypeTree} (op : Arithmetic) → Integer t → Integer u → may_convert (shifted op t u).type t false ≡ true
shifted_back op an_int an_int = refl
shifted_back op an_int an_unsigned = refl
shifted_back op an_int a_char = refl
shifted_back op an_unsigned an_int = refl
shifted_back op an_unsigned an_unsigned = refl
shifted_back op an_unsigned a_char = refl
shifted_back op a_char an_int = refl
shifted_back op a_char an_unsigned = refl
shifted_back op a_char a_char = refl

pub shifted_update : {t u : TypeTree} (op : Arithmetic) → Shifts op → Integer t → Integer u → UpdateFits (shifted op t u) t u
shifted_update op h i j = record { plain = shifted_fits op h i j; back = shifted_back op i j }

pointer_back : (o : Operated) (a : TypeTree) → o.type ≡ pointer a → may_convert o.type (pointer a) false ≡ true
pointer_back o a e = subst (λ z. may_convert z (pointer a) false ≡ true) (sym e) refl

pub summed_update : {t u : TypeTree} (structs : Structs) (o : Operated) → Integer t ⊎ Pointing t → Integer u → Elements structs t → summed structs t u ≡ Some o → UpdateFits o t u
summed_update {t = t} {u = u} structs o (inl i) j h e =
    subst (λ (z : Operated). UpdateFits z t u) (same_Some _ o (sym (numbers_summed structs i j) ∙ e)) (combined_update arithmetics.Add i j)
summed_update structs o (inr (a_pointer a)) j h e =
    let p = summed_front structs a o false false j h e in record { plain = p.0; back = pointer_back o a p.1 }

pub subtracted_update : {t u : TypeTree} (structs : Structs) (o : Operated) → Integer t ⊎ Pointing t → Integer u → Elements structs t → subtracted structs t u ≡ Some o
    → UpdateFits o t u
subtracted_update {t = t} {u = u} structs o (inl i) j h e =
    subst (λ (z : Operated). UpdateFits z t u) (same_Some _ o (sym (numbers_subtracted structs i j) ∙ e)) (combined_update arithmetics.Subtract i j)
subtracted_update structs o (inr (a_pointer a)) j h e =
    let p = subtracted_front structs a o j h e in record { plain = p.0; back = pointer_back o a p.1 }

-- the amount of a step is of the type that its operation takes
pub summed_amount : {t : TypeTree} (structs : Structs) (o : Operated) → Integer t ⊎ Pointing t → summed structs t int ≡ Some o → type_after o.right scalars.Int ≡ amount_type o.operation
summed_amount structs o (inl an_int) e = subst (λ (z : Operated). type_after z.right scalars.Int ≡ amount_type z.operation) (same_Some _ o e) refl
summed_amount structs o (inl an_unsigned) e = subst (λ (z : Operated). type_after z.right scalars.Int ≡ amount_type z.operation) (same_Some _ o e) refl
summed_amount structs o (inl a_char) e = subst (λ (z : Operated). type_after z.right scalars.Int ≡ amount_type z.operation) (same_Some _ o e) refl
summed_amount structs o (inr (a_pointer a)) e =
    let w = followed (size_of structs a) _ o e in
    subst (λ (z : Operated). type_after z.right scalars.Int ≡ amount_type z.operation) (same_Some _ o w.then) refl

pub subtracted_amount : {t : TypeTree} (structs : Structs) (o : Operated) → Integer t ⊎ Pointing t → subtracted structs t int ≡ Some o
    → type_after o.right scalars.Int ≡ amount_type o.operation
subtracted_amount structs o (inl an_int) e = subst (λ (z : Operated). type_after z.right scalars.Int ≡ amount_type z.operation) (same_Some _ o e) refl
subtracted_amount structs o (inl an_unsigned) e = subst (λ (z : Operated). type_after z.right scalars.Int ≡ amount_type z.operation) (same_Some _ o e) refl
subtracted_amount structs o (inl a_char) e = subst (λ (z : Operated). type_after z.right scalars.Int ≡ amount_type z.operation) (same_Some _ o e) refl
subtracted_amount structs o (inr (a_pointer a)) e =
    let w = followed (size_of structs a) _ o e in
    subst (λ (z : Operated). type_after z.right scalars.Int ≡ amount_type z.operation) (same_Some _ o w.then) refl
