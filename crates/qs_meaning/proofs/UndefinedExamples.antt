-- Where runs are undefined: for each of the nine cases sources that just aren't, sources that just are, and sources that are so only in one
-- order of their operands. Each is computed from the definition, from the tree of the source on.
use Rattle.std.proofs.Common.{◌≡◌, [], ◌∷◌, Some, None, refl}
use Rattle.qs_syntax.specs.declared.types.Base.TheVariants as bases
use Rattle.qs_syntax_vocabulary.specs.declared.operators.BinaryOperator.TheVariants.{Subtract, Divide, Remainder, ShiftLeft, ShiftRight, Less, Equal}
use Rattle.qs_syntax.specs.Trees.{ExprTree, DeclTree, UnitTree, StmtTree}
use Rattle.qs_events.specs.Events.{Calls, Returns}
use Rattle.qs_events.specs.BoundedRun.{Ended, Undefined}
use Rattle.qs_meaning.proofs.Samples.{number, natural, a, b, p, q, op, plus, set, minus, address, deref, at, dot, arrow, comma, cast, call, text, one, many, local, int_, pointer_, array_, s_base, struct_s, eval, return, block, when, parameter, defined, main_, valued}
use Rattle.qs_meaning.proofs.Outcomes.{outcome, of_main, ends, stuck}

-- ---- 1: a read meets a cell or a variable that is unset, or cells of another kind

-- int a; a=3; return a;
set_variable : of_main (int_ 97 ∷ eval (set a (number 3)) ∷ return a ∷ []) ≡ ends 3
set_variable = refl

-- int a; return a;
unset_variable : of_main (int_ 97 ∷ return a ∷ []) ≡ stuck
unset_variable = refl

-- int a; a;
unset_variable_discarded : of_main (int_ 97 ∷ eval a ∷ return (number 0) ∷ []) ≡ stuck
unset_variable_discarded = refl

-- int a; return (a=1)+a;
set_before_read : of_main (int_ 97 ∷ return (plus (set a (number 1)) a) ∷ []) ≡ ends 2
set_before_read = refl

-- int a; return a+(a=1);
read_before_set : of_main (int_ 97 ∷ return (plus a (set a (number 1))) ∷ []) ≡ stuck
read_before_set = refl

-- int a[2]; a[0]=1; return a[0];
set_cells : of_main (array_ 97 2 ∷ eval (set (at a (number 0)) (number 1)) ∷ return (at a (number 0)) ∷ []) ≡ ends 1
set_cells = refl

-- int a[2]; a[0]=1; return a[1];
unset_cells : of_main (array_ 97 2 ∷ eval (set (at a (number 0)) (number 1)) ∷ return (at a (number 1)) ∷ []) ≡ stuck
unset_cells = refl

-- int a; a=258; return *(char *)&a;
byte_of_int : of_main (int_ 97 ∷ eval (set a (number 258)) ∷ return (deref (cast bases.Char 1 (address a))) ∷ []) ≡ ends 2
byte_of_int = refl

-- int *p; p=0; return *(char *)&p;
byte_of_pointer : of_main (pointer_ 112 ∷ eval (set p (number 0)) ∷ return (deref (cast bases.Char 1 (address p))) ∷ []) ≡ stuck
byte_of_pointer = refl

-- int a; a=0; return *(int **)&a==0;
pointer_of_int : of_main (int_ 97 ∷ eval (set a (number 0)) ∷ return (op Equal (deref (cast bases.Int 2 (address a))) (number 0)) ∷ []) ≡ stuck
pointer_of_int = refl

-- struct s {char m;int n;}; int main(void){struct s a;struct s b;a.n=7;b=a;return b.n;}
copied_cells :
    outcome (struct_s ∷ main_ (local s_base 0 97 one None ∷ local s_base 0 98 one None ∷ eval (set (dot a 110) (number 7)) ∷ eval (set b a) ∷ return (dot b 110) ∷ [])
    ∷ [])
    ≡ ends 7
copied_cells = refl

-- the same with return b.m; an unset cell is copied as it is
copied_unset_cell :
    outcome (struct_s ∷ main_ (local s_base 0 97 one None ∷ local s_base 0 98 one None ∷ eval (set (dot a 110) (number 7)) ∷ eval (set b a) ∷ return (dot b 109) ∷ [])
    ∷ [])
    ≡ stuck
copied_unset_cell = refl

-- ---- 2: division or remainder by zero, and of the least int by -1

abbrev least : ExprTree
least = op Subtract (minus (number 2147483647)) (number 1)

-- return 7/2;
divided : of_main (return (op Divide (number 7) (number 2)) ∷ []) ≡ ends 3
divided = refl

-- return 7/0;
divided_by_zero : of_main (return (op Divide (number 7) (number 0)) ∷ []) ≡ stuck
divided_by_zero = refl

-- return 7%0u;
remainder_by_zero : of_main (return (op Remainder (number 7) (natural 0)) ∷ []) ≡ stuck
remainder_by_zero = refl

-- return (-2147483647-1)/1;
least_by_one : of_main (return (op Divide least (number 1)) ∷ []) ≡ ends 0
least_by_one = refl

-- return (-2147483647-1)/-1;
least_by_minus_one : of_main (return (op Divide least (minus (number 1))) ∷ []) ≡ stuck
least_by_minus_one = refl

-- return (-2147483647-1)%-1;
least_modulo_minus_one : of_main (return (op Remainder least (minus (number 1))) ∷ []) ≡ stuck
least_modulo_minus_one = refl

-- return (-2147483647-1)/4294967295u;
unsigned_by_greatest : of_main (return (op Divide least (natural 4294967295)) ∷ []) ≡ ends 0
unsigned_by_greatest = refl

-- int a; a=2; return 6/a+(a=0);
divided_before_zero : of_main (int_ 97 ∷ eval (set a (number 2)) ∷ return (plus (op Divide (number 6) a) (set a (number 0))) ∷ []) ≡ ends 3
divided_before_zero = refl

-- int a; a=2; return (a=0)+6/a;
divided_behind_zero : of_main (int_ 97 ∷ eval (set a (number 2)) ∷ return (plus (set a (number 0)) (op Divide (number 6) a)) ∷ []) ≡ stuck
divided_behind_zero = refl

-- ---- 3: a shift by 32 or more, read without a sign

-- return -1>>31;
shifted_by_31 : of_main (return (op ShiftRight (minus (number 1)) (number 31)) ∷ []) ≡ ends 255
shifted_by_31 = refl

-- return 1<<32;
shifted_by_32 : of_main (return (op ShiftLeft (number 1) (number 32)) ∷ []) ≡ stuck
shifted_by_32 = refl

-- return 1u>>-1;
shifted_by_minus_one : of_main (return (op ShiftRight (natural 1) (minus (number 1))) ∷ []) ≡ stuck
shifted_by_minus_one = refl

-- int a; a=3; return (1<<a)+(a=32);
shifted_before : of_main (int_ 97 ∷ eval (set a (number 3)) ∷ return (plus (op ShiftLeft (number 1) a) (set a (number 32))) ∷ []) ≡ ends 40
shifted_before = refl

-- int a; a=3; return (a=32)+(1<<a);
shifted_behind : of_main (int_ 97 ∷ eval (set a (number 3)) ∷ return (plus (set a (number 32)) (op ShiftLeft (number 1) a)) ∷ []) ≡ stuck
shifted_behind = refl

-- ---- 4: an access outside a live block or at no multiple of its width, and a write to a string literal

-- int a[2]; a[1]=5; return a[1];
last_element : of_main (array_ 97 2 ∷ eval (set (at a (number 1)) (number 5)) ∷ return (at a (number 1)) ∷ []) ≡ ends 5
last_element = refl

-- int a[2]; a[2]=5; return 0;
past_the_end : of_main (array_ 97 2 ∷ eval (set (at a (number 2)) (number 5)) ∷ return (number 0) ∷ []) ≡ stuck
past_the_end = refl

-- int *p; p=0; return *p;
through_null : of_main (pointer_ 112 ∷ eval (set p (number 0)) ∷ return (deref p) ∷ []) ≡ stuck
through_null = refl

-- char b[8]; *(int *)(b+4)=1; return b[4];
aligned_access :
    of_main (local bases.Char 0 98 (many 8) None ∷ eval (set (deref (cast bases.Int 1 (plus b (number 4)))) (number 1)) ∷ return (at b (number 4)) ∷ [])
    ≡ ends 1
aligned_access = refl

-- char b[8]; *(int *)(b+2)=1; return b[2];
misaligned_access :
    of_main (local bases.Char 0 98 (many 8) None ∷ eval (set (deref (cast bases.Int 1 (plus b (number 2)))) (number 1)) ∷ return (at b (number 2)) ∷ [])
    ≡ stuck
misaligned_access = refl

-- char b[3]="ab"; b[0]=99; return b[0];
array_of_text :
    of_main (local bases.Char 0 98 (many 3) (Some (valued (text (97 ∷ 98 ∷ [])))) ∷ eval (set (at b (number 0)) (number 99)) ∷ return (at b (number 0)) ∷ [])
    ≡ ends 99
array_of_text = refl

-- char *p; p="ab"; p[0]=99; return 0;
write_to_text : of_main (local bases.Char 1 112 one None ∷ eval (set p (text (97 ∷ 98 ∷ []))) ∷ eval (set (at p (number 0)) (number 99)) ∷ return (number 0) ∷ []) ≡ stuck
write_to_text = refl

-- char *p; p="ab"; return p[2];
read_of_text : of_main (local bases.Char 1 112 one None ∷ eval (set p (text (97 ∷ 98 ∷ []))) ∷ return (at p (number 2)) ∷ []) ≡ ends 0
read_of_text = refl

-- int *f(void){int a;a=1;return &a;}
abbrev f_local : DeclTree
f_local = defined bases.Int 1 (102 ∷ []) [] (int_ 97 ∷ eval (set a (number 1)) ∷ return (address a) ∷ [])

-- int main(void){int *p;p=f();p;return 0;}
released_pointer_copied :
    outcome (f_local ∷ main_ (pointer_ 112 ∷ eval (set p (call 102 [])) ∷ eval p ∷ return (number 0) ∷ []) ∷ [])
    ≡ Some (Ended (Calls 1 ∷ Calls 0 ∷ Returns 0 ∷ Returns 1 ∷ []) 0)
released_pointer_copied = refl

-- int main(void){return *f();}
released_block_read : outcome (f_local ∷ main_ (return (deref (call 102 [])) ∷ []) ∷ []) ≡ Some (Undefined (Calls 1 ∷ Calls 0 ∷ Returns 0 ∷ []))
released_block_read = refl

-- int a[2]; int b; b=2; a[b=1]=b; return a[1];
index_first : of_main (array_ 97 2 ∷ int_ 98 ∷ eval (set b (number 2)) ∷ eval (set (at a (set b (number 1))) b) ∷ return (at a (number 1)) ∷ []) ≡ ends 1
index_first = refl

-- int a[2]; int b; b=2; a[b]=(b=1); return a[1];
index_before_value : of_main (array_ 97 2 ∷ int_ 98 ∷ eval (set b (number 2)) ∷ eval (set (at a b) (set b (number 1))) ∷ return (at a (number 1)) ∷ []) ≡ stuck
index_before_value = refl

-- ---- 5: pointer arithmetic and members on Null and on released blocks, and out of a block

-- int a[2]; a+2; return 0;
to_the_end : of_main (array_ 97 2 ∷ eval (plus a (number 2)) ∷ return (number 0) ∷ []) ≡ ends 0
to_the_end = refl

-- int a[2]; a+3; return 0;
behind_the_end : of_main (array_ 97 2 ∷ eval (plus a (number 3)) ∷ return (number 0) ∷ []) ≡ stuck
behind_the_end = refl

-- int a[2]; a+2-2; return 0;
there_and_back : of_main (array_ 97 2 ∷ eval (op Subtract (plus a (number 2)) (number 2)) ∷ return (number 0) ∷ []) ≡ ends 0
there_and_back = refl

-- int a[2]; a-1; return 0;
before_the_start : of_main (array_ 97 2 ∷ eval (op Subtract a (number 1)) ∷ return (number 0) ∷ []) ≡ stuck
before_the_start = refl

-- int a[2]; a+2+4294967295u; return 0; an unsigned counts by its value
unsigned_elements : of_main (array_ 97 2 ∷ eval (plus (plus a (number 2)) (natural 4294967295)) ∷ return (number 0) ∷ []) ≡ stuck
unsigned_elements = refl

-- int a[2]; a+2+-1; return 0;
signed_elements : of_main (array_ 97 2 ∷ eval (plus (plus a (number 2)) (minus (number 1))) ∷ return (number 0) ∷ []) ≡ ends 0
signed_elements = refl

-- int *p; p=0; p+0; return 0;
null_moved : of_main (pointer_ 112 ∷ eval (set p (number 0)) ∷ eval (plus p (number 0)) ∷ return (number 0) ∷ []) ≡ stuck
null_moved = refl

-- int main(void){f()+0;return 0;}
released_moved : outcome (f_local ∷ main_ (eval (plus (call 102 []) (number 0)) ∷ return (number 0) ∷ []) ∷ []) ≡ Some (Undefined (Calls 1 ∷ Calls 0 ∷ Returns 0 ∷ []))
released_moved = refl

-- struct s {char m;int n;}; int main(void){struct s a;struct s *q;q=&a;&q->n;return 0;}
member_address :
    outcome (struct_s ∷ main_ (local s_base 0 97 one None ∷ local s_base 1 113 one None ∷ eval (set q (address a)) ∷ eval (address (arrow q 110)) ∷ return (number 0)
    ∷ []) ∷ [])
    ≡ ends 0
member_address = refl

-- the same with q=0; also the first member
null_member_address :
    outcome (struct_s ∷ main_ (local s_base 1 113 one None ∷ eval (set q (number 0)) ∷ eval (address (arrow q 109)) ∷ return (number 0) ∷ []) ∷ [])
    ≡ stuck
null_member_address = refl

-- int a[2]; int *p; p=0; (p=a,1)+p; return 0;
moved_behind_set : of_main (array_ 97 2 ∷ pointer_ 112 ∷ eval (set p (number 0)) ∷ eval (plus (comma (set p a) (number 1)) p) ∷ return (number 0) ∷ []) ≡ ends 0
moved_behind_set = refl

-- int a[2]; int *p; p=0; p+(p=a,1); return 0;
moved_before_set : of_main (array_ 97 2 ∷ pointer_ 112 ∷ eval (set p (number 0)) ∷ eval (plus p (comma (set p a) (number 1))) ∷ return (number 0) ∷ []) ≡ stuck
moved_before_set = refl

-- ---- 6: difference and order but in one live block, and a difference that is no multiple of the element

-- int a[2]; return (a+2)-a;
difference_of_elements : of_main (array_ 97 2 ∷ return (op Subtract (plus a (number 2)) a) ∷ []) ≡ ends 2
difference_of_elements = refl

-- int a[2]; return a<a+2;
order_of_elements : of_main (array_ 97 2 ∷ return (op Less a (plus a (number 2))) ∷ []) ≡ ends 1
order_of_elements = refl

-- int a[2]; int b[2]; return b-a;
difference_of_blocks : of_main (array_ 97 2 ∷ array_ 98 2 ∷ return (op Subtract b a) ∷ []) ≡ stuck
difference_of_blocks = refl

-- int a[2]; int b[2]; return a<b;
order_of_blocks : of_main (array_ 97 2 ∷ array_ 98 2 ∷ return (op Less a b) ∷ []) ≡ stuck
order_of_blocks = refl

-- int *p; p=0; return p-p;
difference_of_nulls : of_main (pointer_ 112 ∷ eval (set p (number 0)) ∷ return (op Subtract p p) ∷ []) ≡ stuck
difference_of_nulls = refl

-- char b[8]; return (int *)(b+4)-(int *)b;
whole_elements : of_main (local bases.Char 0 98 (many 8) None ∷ return (op Subtract (cast bases.Int 1 (plus b (number 4))) (cast bases.Int 1 b)) ∷ []) ≡ ends 1
whole_elements = refl

-- char b[8]; return (int *)(b+2)-(int *)b;
half_an_element : of_main (local bases.Char 0 98 (many 8) None ∷ return (op Subtract (cast bases.Int 1 (plus b (number 2))) (cast bases.Int 1 b)) ∷ []) ≡ stuck
half_an_element = refl

-- int a[2]; int b[2]; int *p; p=b; return (p=a)-p;
subtracted_behind_set : of_main (array_ 97 2 ∷ array_ 98 2 ∷ pointer_ 112 ∷ eval (set p b) ∷ return (op Subtract (set p a) p) ∷ []) ≡ ends 0
subtracted_behind_set = refl

-- int a[2]; int b[2]; int *p; p=b; return p-(p=a);
subtracted_before_set : of_main (array_ 97 2 ∷ array_ 98 2 ∷ pointer_ 112 ∷ eval (set p b) ∷ return (op Subtract p (set p a)) ∷ []) ≡ stuck
subtracted_before_set = refl

-- ---- 7: equality of pointers into different live blocks unless both are strictly inside; equality and truth of one into a released block

-- int a[2]; int b[2]; return a==b;
starts_of_blocks : of_main (array_ 97 2 ∷ array_ 98 2 ∷ return (op Equal a b) ∷ []) ≡ ends 0
starts_of_blocks = refl

-- int a[2]; int b[2]; return a+2==b;
end_and_start : of_main (array_ 97 2 ∷ array_ 98 2 ∷ return (op Equal (plus a (number 2)) b) ∷ []) ≡ stuck
end_and_start = refl

-- int a[2]; return a+2==a+2;
ends_of_one_block : of_main (array_ 97 2 ∷ return (op Equal (plus a (number 2)) (plus a (number 2))) ∷ []) ≡ ends 1
ends_of_one_block = refl

-- int a[2]; return a+2==0;
end_and_null : of_main (array_ 97 2 ∷ return (op Equal (plus a (number 2)) (number 0)) ∷ []) ≡ ends 0
end_and_null = refl

-- int main(void){return f()==0;}
released_and_null : outcome (f_local ∷ main_ (return (op Equal (call 102 []) (number 0)) ∷ []) ∷ []) ≡ Some (Undefined (Calls 1 ∷ Calls 0 ∷ Returns 0 ∷ []))
released_and_null = refl

-- int main(void){if(f())return 1;return 0;}
truth_of_released :
    outcome (f_local ∷ main_ (when (call 102 []) (return (number 1)) ∷ return (number 0) ∷ []) ∷ [])
    ≡ Some (Undefined (Calls 1 ∷ Calls 0 ∷ Returns 0 ∷ []))
truth_of_released = refl

-- int a[2]; if(a+2)return 1; return 0;
truth_of_end : of_main (array_ 97 2 ∷ when (plus a (number 2)) (return (number 1)) ∷ return (number 0) ∷ []) ≡ ends 1
truth_of_end = refl

-- int a[2]; int b[2]; int *p; p=a+2; return (p=b)==p;
equal_behind_set : of_main (array_ 97 2 ∷ array_ 98 2 ∷ pointer_ 112 ∷ eval (set p (plus a (number 2))) ∷ return (op Equal (set p b) p) ∷ []) ≡ ends 1
equal_behind_set = refl

-- int a[2]; int b[2]; int *p; p=a+2; return p==(p=b);
equal_before_set : of_main (array_ 97 2 ∷ array_ 98 2 ∷ pointer_ 112 ∷ eval (set p (plus a (number 2))) ∷ return (op Equal p (set p b)) ∷ []) ≡ stuck
equal_before_set = refl

-- ---- 8: a struct is copied between ranges that overlap and aren't equal

-- struct s {char m;int n;}; int main(void){int a[4];struct s *q; .. return 0;}, and (struct s *)e
abbrev over_ints : StmtTree → UnitTree
over_ints s = struct_s ∷ main_ (array_ 97 4 ∷ local s_base 1 113 one None ∷ eval (set (at a (number 0)) (number 1)) ∷ s ∷ return (number 0) ∷ []) ∷ []

abbrev as_s : ExprTree → ExprTree
as_s x = cast s_base 1 x

-- *(struct s *)(a+2)=*(struct s *)a;
disjoint_ranges : outcome (over_ints (eval (set (deref (as_s (plus a (number 2)))) (deref (as_s a))))) ≡ ends 0
disjoint_ranges = refl

-- *(struct s *)a=*(struct s *)a;
equal_ranges : outcome (over_ints (eval (set (deref (as_s a)) (deref (as_s a))))) ≡ ends 0
equal_ranges = refl

-- *(struct s *)(a+1)=*(struct s *)a;
overlapping_ranges : outcome (over_ints (eval (set (deref (as_s (plus a (number 1)))) (deref (as_s a))))) ≡ stuck
overlapping_ranges = refl

-- *(q=(struct s *)a)=*q;
copied_behind_set : outcome (over_ints (eval (set (deref (set q (as_s a))) (deref q)))) ≡ ends 0
copied_behind_set = refl

-- q=(struct s *)(a+1); *q=*(q=(struct s *)a);
copied_before_set :
    outcome (over_ints (block (eval (set q (as_s (plus a (number 1)))) ∷ eval (set (deref q) (deref (set q (as_s a)))) ∷ []))) ≡ stuck
copied_before_set = refl

-- ---- 9: a call whose result is used where the function ended without one

-- int f(int a){if(a)return 1;}
abbrev f_maybe : DeclTree
f_maybe = defined bases.Int 0 (102 ∷ []) (parameter bases.Int 0 97 ∷ []) (when a (return (number 1)) ∷ [])

-- int main(void){return f(1);}
result_returned : outcome (f_maybe ∷ main_ (return (call 102 (number 1 ∷ [])) ∷ []) ∷ []) ≡ Some (Ended (Calls 1 ∷ Calls 0 ∷ Returns 0 ∷ Returns 1 ∷ []) 1)
result_returned = refl

-- int main(void){return f(0);}
no_result_used : outcome (f_maybe ∷ main_ (return (call 102 (number 0 ∷ [])) ∷ []) ∷ []) ≡ Some (Undefined (Calls 1 ∷ Calls 0 ∷ Returns 0 ∷ []))
no_result_used = refl

-- int main(void){f(0);}
no_result_discarded : outcome (f_maybe ∷ main_ (eval (call 102 (number 0 ∷ [])) ∷ []) ∷ []) ≡ Some (Ended (Calls 1 ∷ Calls 0 ∷ Returns 0 ∷ Returns 1 ∷ []) 0)
no_result_discarded = refl

-- int main(void){int b;b=1;return f(b)+(b=0);}
result_before_set :
    outcome (f_maybe ∷ main_ (int_ 98 ∷ eval (set b (number 1)) ∷ return (plus (call 102 (b ∷ [])) (set b (number 0))) ∷ []) ∷ [])
    ≡ Some (Ended (Calls 1 ∷ Calls 0 ∷ Returns 0 ∷ Returns 1 ∷ []) 1)
result_before_set = refl

-- int main(void){int b;b=1;return (b=0)+f(b);}
result_behind_set :
    outcome (f_maybe ∷ main_ (int_ 98 ∷ eval (set b (number 1)) ∷ return (plus (set b (number 0)) (call 102 (b ∷ []))) ∷ []) ∷ [])
    ≡ Some (Undefined (Calls 1 ∷ Calls 0 ∷ Returns 0 ∷ []))
result_behind_set = refl
