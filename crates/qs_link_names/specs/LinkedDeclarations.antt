-- Declarations of a file with its names as they are called in the program (C11 6.7).
use Rattle.std.specs.Prelude.{ℕ, List, [], ◌∷◌, map, Option, Some, None}
use Rattle.qs_syntax.specs.Trees.{LengthsTree, DeclaratorTree, InitialiserTree, value, list, Initialisers, no_initialisers, initialiser_and, VariableTree, DeclarationTree, ParameterTree, MembersTree}
use Rattle.qs_link_names.specs.Linkage.{Internal, linked_name, hiding}
use Rattle.qs_link_names.specs.LinkedExpressions.{linked_expr, linked_list}

abbrev pub linked_lengths : Internal → LengthsTree → LengthsTree
linked_lengths own l = record { is_open = l.is_open; given = linked_list own l.given }

-- a name without linkage (6.2.2p6): of a local, a member, a type
abbrev pub linked_declarator : Internal → DeclaratorTree → DeclaratorTree
linked_declarator own d = record { node = d.node; stars = d.stars; name = d.name; lengths = linked_lengths own d.lengths }

-- a name of file scope
abbrev pub linked_outer : Internal → DeclaratorTree → DeclaratorTree
linked_outer own d = record { node = d.node; stars = d.stars; name = linked_name own d.name; lengths = linked_lengths own d.lengths }

abbrev mutual
  pub linked_initialiser : Internal → InitialiserTree → InitialiserTree
  linked_initialiser own (value e) = value (linked_expr own e)
  linked_initialiser own (list node is) = list node (linked_initialisers own is)

  pub linked_initialisers : Internal → Initialisers → Initialisers
  linked_initialisers own no_initialisers = no_initialisers
  linked_initialisers own (initialiser_and i is) = initialiser_and (linked_initialiser own i) (linked_initialisers own is)

abbrev pub linked_setting : Internal → Option InitialiserTree → Option InitialiserTree
linked_setting own None = None
linked_setting own (Some i) = Some (linked_initialiser own i)

-- ---- at file scope

abbrev pub linked_outer_variable : Internal → VariableTree → VariableTree
linked_outer_variable own v = record { declarator = linked_outer own v.declarator; initialiser = linked_setting own v.initialiser }

abbrev pub linked_outer_declaration : Internal → DeclarationTree → DeclarationTree
linked_outer_declaration own d = record { base = d.base; variables = map (linked_outer_variable own) d.variables }

-- ---- in a block: the scope of a name begins behind its declarator (6.2.1p7)

abbrev pub behind_variable : Internal → VariableTree → Internal
behind_variable own v = hiding own v.declarator.name

abbrev pub behind_variables : Internal → List VariableTree → Internal
behind_variables own [] = own
behind_variables own (v ∷ vs) = behind_variables (behind_variable own v) vs

abbrev pub linked_variable : Internal → VariableTree → VariableTree
linked_variable own v = record { declarator = linked_declarator own v.declarator; initialiser = linked_setting (behind_variable own v) v.initialiser }

abbrev pub linked_variables : Internal → List VariableTree → List VariableTree
linked_variables own [] = []
linked_variables own (v ∷ vs) = linked_variable own v ∷ linked_variables (behind_variable own v) vs

abbrev pub linked_declaration : Internal → DeclarationTree → DeclarationTree
linked_declaration own d = record { base = d.base; variables = linked_variables own d.variables }

-- ---- parameters (6.7.6.3)

abbrev pub behind_name : Internal → Option (List ℕ) → Internal
behind_name own None = own
behind_name own (Some x) = hiding own x

abbrev pub behind_parameters : Internal → List ParameterTree → Internal
behind_parameters own [] = own
behind_parameters own (p ∷ ps) = behind_parameters (behind_name own p.name) ps

abbrev pub linked_parameter : Internal → ParameterTree → ParameterTree
linked_parameter own p = record { node = p.node; type_name = p.type_name; name = p.name; lengths = linked_lengths own p.lengths }

abbrev pub linked_parameters : Internal → List ParameterTree → List ParameterTree
linked_parameters own [] = []
linked_parameters own (p ∷ ps) = linked_parameter own p ∷ linked_parameters (behind_name own p.name) ps

-- ---- members and type names

abbrev pub linked_declarators : Internal → List DeclaratorTree → List DeclaratorTree
linked_declarators own ds = map (linked_declarator own) ds

abbrev pub linked_members : Internal → MembersTree → MembersTree
linked_members own m = record { base = m.base; declarators = linked_declarators own m.declarators }

abbrev pub linked_groups : Internal → List MembersTree → List MembersTree
linked_groups own ms = map (linked_members own) ms
