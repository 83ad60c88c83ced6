-- What stands at the nodes of a unit: types, declared types and what names stand for; and which header is the latest of its name.
use Rattle.std.proofs.Common.{◌≡◌, List, [], ◌∷◌, Some, None, refl}
use Rattle.qs_syntax_vocabulary.specs.declared.operators.UnaryOperator.TheVariants as unaries
use Rattle.qs_syntax.specs.declared.types.Base.TheVariants as bases
use Rattle.qs_syntax.specs.Trees.{unnumbered, ExprTree, StmtTree, stmts_of, DeclTree, UnitTree}
use Rattle.qs_syntax.specs.Trees as trees
use Rattle.qs_syntax.specs.Numbering.{numbered_unit}
use Rattle.qs_types.specs.GivenFunctions.{putchar_name}
use Rattle.qs_types.specs.Types.{int, char, pointer, array}
use Rattle.qs_types.specs.declared.referent.Referent.TheVariants as referents
use Rattle.qs_typing_findings.specs.LatestHeaders.{latest, unit_headers}
use Rattle.qs_typing_findings.specs.NodeReferents.{unit_referents, unit_addressed}
use Rattle.qs_typing_findings.specs.NodeTypes.{unit_types}
use Rattle.qs_typing_findings.proofs.ExampleTrees.{e, number, a, one, many, global, local, f_name, header, body, call_f}

abbrev eval : ExprTree → StmtTree
eval v = trees.expression (unnumbered 0) v

-- void g(void) { .. }
abbrev g : List StmtTree → DeclTree
g ss = body bases.Void (103 ∷ []) ss

-- int a[3]
abbrev parameter : trees.ParameterTree
parameter = record { node = unnumbered 0; type_name = record { base = bases.Int; stars = 0 }; name = Some (97 ∷ []); lengths = many 3 }

-- void f(int a[3]) { .. }
abbrev with_parameter : List StmtTree → DeclTree
with_parameter ss = trees.function (record {
  node = unnumbered 0;
  result_type = record { base = bases.Void; stars = 0 };
  name = f_name;
  parameters = parameter ∷ [];
  body = Some (stmts_of ss);
})

-- char a[2];void f(int a[3]){a;}
abbrev arrays : UnitTree
arrays = numbered_unit (global bases.Char 97 (many 2) ∷ with_parameter (eval a ∷ []) ∷ [])

-- at the variable an array, at its length int, nothing at the header, at the parameter a pointer, and at the name too
types : unit_types arrays ≡ Some (array char 2) ∷ Some int ∷ None ∷ Some (pointer int) ∷ Some int ∷ None ∷ Some (pointer int) ∷ []
types = refl

-- the name stands for the parameter
names : unit_referents arrays ≡ None ∷ None ∷ None ∷ None ∷ None ∷ None ∷ Some (referents.Local 3) ∷ []
names = refl

-- int a;void g(void){a;}
file_name : unit_referents (numbered_unit (global bases.Int 97 one ∷ g (eval a ∷ []) ∷ [])) ≡ None ∷ None ∷ None ∷ Some (referents.File 0) ∷ []
file_name = refl

-- int a;void g(void){char a;a;}
hidden_name : unit_referents (numbered_unit (global bases.Int 97 one ∷ g (local bases.Char 97 one ∷ eval a ∷ []) ∷ [])) ≡ None ∷ None ∷ None ∷ None ∷ Some (referents.Local 2) ∷ []
hidden_name = refl

-- int a(void);void g(void){int a;a;}
hidden_function : unit_referents (numbered_unit (header bases.Int (97 ∷ []) [] ∷ g (local bases.Int 97 one ∷ eval a ∷ []) ∷ []))
    ≡ None ∷ None ∷ None ∷ None ∷ Some (referents.Local 2) ∷ []
hidden_function = refl

-- void a(void);void f(int a[3]){a;}
hidden_by_parameter : unit_referents (numbered_unit (header bases.Void (97 ∷ []) [] ∷ with_parameter (eval a ∷ []) ∷ []))
    ≡ None ∷ None ∷ None ∷ None ∷ None ∷ Some (referents.Local 2) ∷ []
hidden_by_parameter = refl

-- void g(void){int a;{char a;a;}a;}
inner_name : unit_referents (numbered_unit (g (local bases.Int 97 one ∷ trees.block (stmts_of (local bases.Char 97 one ∷ eval a ∷ [])) ∷ eval a ∷ []) ∷ []))
    ≡ None ∷ None ∷ None ∷ None ∷ Some (referents.Local 2) ∷ None ∷ Some (referents.Local 1) ∷ []
inner_name = refl

-- char a;void g(void){switch(a){int a;case 1:a;}}
abbrev switched : UnitTree
switched = numbered_unit (global bases.Char 97 one ∷ g (trees.switch (unnumbered 0) a (stmts_of (local bases.Int 97 one ∷ trees.case_label (unnumbered 0) (number 1) ∷ eval a ∷ [])) ∷ []) ∷ [])

-- nothing at the switch and its label; the name in its block stands for what is declared there
switched_types : unit_types switched ≡ Some char ∷ None ∷ None ∷ Some char ∷ Some int ∷ None ∷ Some int ∷ None ∷ Some int ∷ []
switched_types = refl

switched_names : unit_referents switched ≡ None ∷ None ∷ None ∷ Some (referents.File 0) ∷ None ∷ None ∷ None ∷ None ∷ Some (referents.Local 4) ∷ []
switched_names = refl

-- void g(void){putchar(1);}
given_name : unit_referents (numbered_unit (g (eval (e (trees.call putchar_name (trees.exprs_of (number 1 ∷ [])))) ∷ []) ∷ [])) ≡ None ∷ None ∷ Some referents.PutChar ∷ None ∷ []
given_name = refl

-- int putchar(int);void g(void){putchar(1);}
abbrev character : trees.ParameterTree
character = record { node = unnumbered 0; type_name = record { base = bases.Int; stars = 0 }; name = None; lengths = one }

-- the header declares again what is given
declared_name : unit_referents (numbered_unit (header bases.Int putchar_name (character ∷ []) ∷ g (eval (e (trees.call putchar_name (trees.exprs_of (number 1 ∷ [])))) ∷ []) ∷ []))
    ≡ None ∷ None ∷ None ∷ None ∷ Some referents.PutChar ∷ None ∷ []
declared_name = refl

-- void g(void){int a;&a;}
address : unit_addressed (numbered_unit (g (local bases.Int 97 one ∷ eval (e (trees.unary unaries.Address a)) ∷ []) ∷ [])) ≡ 1 ∷ []
address = refl

-- int f(void);int f(void){f();}int f(void);
abbrev headers : UnitTree
headers = numbered_unit (header bases.Int f_name [] ∷ body bases.Int f_name (call_f ∷ []) ∷ header bases.Int f_name [] ∷ [])

-- the call stands for the header before it that is the latest
called : unit_referents headers ≡ None ∷ None ∷ None ∷ Some (referents.Function 1) ∷ None ∷ []
called = refl

last_header : latest f_name (unit_headers headers) ≡ Some (record { name = f_name; node = 4; signature = Some (record { parameters = []; result = int }) })
last_header = refl
