-- What stands at file scope with the names of the file as they are called in the program (C11 6.9).
use Rattle.std.specs.Prelude.{Option, Some, None}
use Rattle.qs_syntax.specs.Trees.{Stmts, StructTree, DefinedTree, of_struct, of_base, TypedefTree, FunctionTree, DeclTree, structure, forward, typedef, function, variables}
use Rattle.qs_link_names.specs.Linkage.{Internal, linked_name}
use Rattle.qs_link_names.specs.LinkedDeclarations.{linked_declarators, linked_groups, linked_outer_declaration, linked_parameters, behind_parameters}
use Rattle.qs_link_names.specs.LinkedStatements.{linked_stmts}

abbrev pub linked_struct : Internal → StructTree → StructTree
linked_struct own s = record { node = s.node; name = s.name; members = linked_groups own s.members }

abbrev pub linked_defined : Internal → DefinedTree → DefinedTree
linked_defined own (of_struct s) = of_struct (linked_struct own s)
linked_defined own (of_base b) = of_base b

abbrev pub linked_typedef : Internal → TypedefTree → TypedefTree
linked_typedef own t = record { defined = linked_defined own t.defined; names = linked_declarators own t.names }

abbrev pub linked_body : Internal → Option Stmts → Option Stmts
linked_body own None = None
linked_body own (Some ss) = Some (linked_stmts own ss)

-- a parameter hides a name in the body (6.2.1p4)
abbrev pub linked_function : Internal → FunctionTree → FunctionTree
linked_function own f = record {
  node = f.node;
  result_type = f.result_type;
  name = linked_name own f.name;
  parameters = linked_parameters own f.parameters;
  body = linked_body (behind_parameters own f.parameters) f.body;
}

abbrev pub linked_decl : Internal → DeclTree → DeclTree
linked_decl own (structure s) = structure (linked_struct own s)
linked_decl own (forward f) = forward f
linked_decl own (typedef t) = typedef (linked_typedef own t)
linked_decl own (function f) = function (linked_function own f)
linked_decl own (variables d) = variables (linked_outer_declaration own d)
