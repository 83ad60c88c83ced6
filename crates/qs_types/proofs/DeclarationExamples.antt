-- For each rule on declarations and calls a unit that breaks it and one that just doesn't.
use Rattle.std.proofs.Common.{◌≡◌, [], ◌∷◌, Some, None, refl}
use Rattle.qs_syntax_vocabulary.specs.declared.operators.BinaryOperator.TheVariants as binaries
use Rattle.qs_syntax_vocabulary.specs.declared.operators.AssignmentOperator.TheVariants as assigns
use Rattle.qs_syntax.specs.declared.types.Base.TheVariants as bases
use Rattle.qs_syntax.specs.Trees.{unnumbered, structure, stmts_of}
use Rattle.qs_syntax.specs.Trees as trees
use Rattle.qs_types.specs.declared.rules.Rule.TheVariants as rules
use Rattle.qs_types.proofs.RuleTrees.{found, fault, e, number, a, call_f, one, many, some, declarator, global, local, listed, s_base, struct_s, forward_s, parameter, header, body, g, eval, f_name}

-- void g(void){int a;int a;}
declared_twice_broken : found (g (local bases.Int 0 97 one None ∷ local bases.Int 0 97 one None ∷ []) ∷ []) ≡ fault 2 rules.DeclaredTwice
declared_twice_broken = refl

-- void g(void){int a;{int a;}}
declared_twice_kept : found (g (local bases.Int 0 97 one None ∷ trees.block (stmts_of (local bases.Int 0 97 one None ∷ [])) ∷ []) ∷ []) ≡ []
declared_twice_kept = refl

-- int f(int);int f(char);
declared_twice_broken_2 : found (header bases.Int f_name (parameter bases.Int 0 (None) ∷ []) ∷ header bases.Int f_name (parameter bases.Char 0 (None) ∷ []) ∷ []) ≡ fault 2 rules.DeclaredTwice
declared_twice_broken_2 = refl

-- int f(int);int f(int);
declared_twice_kept_2 : found (header bases.Int f_name (parameter bases.Int 0 (None) ∷ []) ∷ header bases.Int f_name (parameter bases.Int 0 (None) ∷ []) ∷ []) ≡ []
declared_twice_kept_2 = refl

-- void g(void){a=1;}
unknown_variable_broken : found (g (eval (e (trees.assign assigns.Plain (a) (number 1))) ∷ []) ∷ []) ≡ fault 3 rules.UnknownVariable
unknown_variable_broken = refl

-- void g(void){int a;a=1;}
unknown_variable_kept : found (g (local bases.Int 0 97 one None ∷ eval (e (trees.assign assigns.Plain (a) (number 1))) ∷ []) ∷ []) ≡ []
unknown_variable_kept = refl

-- void g(void){f();}
unknown_function_broken : found (g (eval (call_f []) ∷ []) ∷ []) ≡ fault 2 rules.UnknownFunction
unknown_function_broken = refl

-- void f(void);void g(void){f();}
unknown_function_kept : found (header bases.Void f_name [] ∷ g (eval (call_f []) ∷ []) ∷ []) ≡ []
unknown_function_kept = refl

-- void f(void);void g(void){int f;f();}
unknown_function_broken_2 : found (header bases.Void f_name [] ∷ g (local bases.Int 0 102 one None ∷ eval (call_f []) ∷ []) ∷ []) ≡ fault 4 rules.UnknownFunction
unknown_function_broken_2 = refl

-- void f(int);void g(void){f();}
argument_count_broken : found (header bases.Void f_name (parameter bases.Int 0 (None) ∷ []) ∷ g (eval (call_f []) ∷ []) ∷ []) ≡ fault 4 rules.ArgumentCount
argument_count_broken = refl

-- void f(int *);void g(void){f(1);}
argument_type_broken : found (header bases.Void f_name (parameter bases.Int 1 (None) ∷ []) ∷ g (eval (call_f (number 1 ∷ [])) ∷ []) ∷ []) ≡ fault 4 rules.ArgumentType
argument_type_broken = refl

-- void f(int *);void g(void){f(0);}
argument_type_kept : found (header bases.Void f_name (parameter bases.Int 1 (None) ∷ []) ∷ g (eval (call_f (number 0 ∷ [])) ∷ []) ∷ []) ≡ []
argument_type_kept = refl

-- struct s *a;
unknown_tag_broken : found (global s_base 1 97 one None ∷ []) ≡ fault 0 rules.UnknownTag
unknown_tag_broken = refl

-- struct s;struct s *a;
unknown_tag_kept : found (forward_s ∷ global s_base 1 97 one None ∷ []) ≡ []
unknown_tag_kept = refl

-- struct s {int m;};struct s {int m;};
unknown_tag_broken_2 : found (struct_s ∷ struct_s ∷ []) ≡ fault 2 rules.UnknownTag
unknown_tag_broken_2 = refl

-- struct s;struct s a;
incomplete_type_broken : found (forward_s ∷ global s_base 0 97 one None ∷ []) ≡ fault 1 rules.IncompleteType
incomplete_type_broken = refl

-- struct s {int m;};struct s a;
incomplete_type_kept : found (struct_s ∷ global s_base 0 97 one None ∷ []) ≡ []
incomplete_type_kept = refl

-- void *a;
incomplete_type_broken_2 : found (global bases.Void 1 97 one None ∷ []) ≡ fault 0 rules.IncompleteType
incomplete_type_broken_2 = refl

-- struct s {int m,m;};
member_twice_broken : found (structure (record { node = unnumbered 0; name = Some (115 ∷ []); members = record { base = bases.Int; declarators = declarator 0 109 one ∷ declarator 0 109 one ∷ [] } ∷ [] }) ∷ []) ≡ fault 2 rules.MemberTwice
member_twice_broken = refl

-- struct s {int m,n;};
member_twice_kept : found (structure (record { node = unnumbered 0; name = Some (115 ∷ []); members = record { base = bases.Int; declarators = declarator 0 109 one ∷ declarator 0 110 one ∷ [] } ∷ [] }) ∷ []) ≡ []
member_twice_kept = refl

-- char a[1-1];
array_length_broken : found (global bases.Char 0 97 (many (e (trees.binary binaries.Subtract (number 1) (number 1)))) None ∷ []) ≡ fault 0 rules.ArrayLength
array_length_broken = refl

-- char a[3-2];
array_length_kept : found (global bases.Char 0 97 (many (e (trees.binary binaries.Subtract (number 3) (number 2)))) None ∷ []) ≡ []
array_length_kept = refl

-- int a[];
array_length_broken_2 : found (global bases.Int 0 97 some None ∷ []) ≡ fault 0 rules.ArrayLength
array_length_broken_2 = refl

-- int a[]={1};
array_length_kept_2 : found (global bases.Int 0 97 some (listed (trees.value (number 1) ∷ [])) ∷ []) ≡ []
array_length_kept_2 = refl

-- char a[16777217];
large_type_broken : found (global bases.Char 0 97 (many (number 16777217)) None ∷ []) ≡ fault 0 rules.LargeType
large_type_broken = refl

-- char a[16777216];
large_type_kept : found (global bases.Char 0 97 (many (number 16777216)) None ∷ []) ≡ []
large_type_kept = refl

-- struct s {int m;};void f(struct s);
signature_type_broken : found (struct_s ∷ header bases.Void f_name (parameter s_base 0 (None) ∷ []) ∷ []) ≡ fault 3 rules.SignatureType
signature_type_broken = refl

-- struct s {int m;};void f(struct s *);
signature_type_kept : found (struct_s ∷ header bases.Void f_name (parameter s_base 1 (None) ∷ []) ∷ []) ≡ []
signature_type_kept = refl

-- void f(int){}
signature_type_broken_2 : found (body bases.Void f_name (parameter bases.Int 0 (None) ∷ []) [] ∷ []) ≡ fault 1 rules.SignatureType
signature_type_broken_2 = refl

-- int main(char a){}
main_type_broken : found (body bases.Int (109 ∷ 97 ∷ 105 ∷ 110 ∷ []) (parameter bases.Char 0 (Some (97 ∷ [])) ∷ []) [] ∷ []) ≡ fault 0 rules.MainType
main_type_broken = refl

-- int main(unsigned a){}
main_type_kept : found (body bases.Int (109 ∷ 97 ∷ 105 ∷ 110 ∷ []) (parameter bases.Unsigned 0 (Some (97 ∷ [])) ∷ []) [] ∷ []) ≡ []
main_type_kept = refl
