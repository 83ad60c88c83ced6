-- Trees with 0 in place of each node's number and of its token's: what they say, wherever it stands.
use Rattle.qs_syntax.specs.Trees.{ExprTree, Exprs, LengthsTree, DeclaratorTree, InitialiserTree, Initialisers, VariableTree, DeclarationTree, ParameterTree, MembersTree, StartTree, StmtTree, Stmts, Else, DeclTree, UnitTree}
use Rattle.qs_syntax.specs.Numbering.{bare, relabel_expr, relabel_exprs, relabel_lengths, relabel_declarator, relabel_initialiser, relabel_initialisers, relabel_variable, relabel_declaration, relabel_parameter, relabel_members, relabel_start, relabel_stmt, relabel_stmts, relabel_else, relabel_decl, relabel_unit}

abbrev pub plain_expr : ExprTree → ExprTree
plain_expr e = relabel_expr bare 0 e

abbrev pub plain_exprs : Exprs → Exprs
plain_exprs es = relabel_exprs bare 0 es

abbrev pub plain_lengths : LengthsTree → LengthsTree
plain_lengths l = relabel_lengths bare 0 l

abbrev pub plain_declarator : DeclaratorTree → DeclaratorTree
plain_declarator d = relabel_declarator bare 0 d

abbrev pub plain_initialiser : InitialiserTree → InitialiserTree
plain_initialiser i = relabel_initialiser bare 0 i

abbrev pub plain_initialisers : Initialisers → Initialisers
plain_initialisers is = relabel_initialisers bare 0 is

abbrev pub plain_variable : VariableTree → VariableTree
plain_variable v = relabel_variable bare 0 v

abbrev pub plain_declaration : DeclarationTree → DeclarationTree
plain_declaration d = relabel_declaration bare 0 d

abbrev pub plain_parameter : ParameterTree → ParameterTree
plain_parameter p = relabel_parameter bare 0 p

abbrev pub plain_members : MembersTree → MembersTree
plain_members m = relabel_members bare 0 m

abbrev pub plain_start : StartTree → StartTree
plain_start a = relabel_start bare 0 a

abbrev pub plain_stmt : StmtTree → StmtTree
plain_stmt s = relabel_stmt bare 0 s

abbrev pub plain_stmts : Stmts → Stmts
plain_stmts ss = relabel_stmts bare 0 ss

abbrev pub plain_else : Else → Else
plain_else r = relabel_else bare 0 r

abbrev pub plain_decl : DeclTree → DeclTree
plain_decl d = relabel_decl bare 0 d

abbrev pub without_tokens : UnitTree → UnitTree
without_tokens ds = relabel_unit bare ds
