-- What has a reading as a unit is read so, and has no other reading.
use Rattle.std.proofs.Common.{◌≡◌, ℕ, zero, suc, ◌+◌, ◌<◌, ◌≤◌, max, List, [], ◌∷◌, ◌++◌, length, Result, Ok, Some, None, refl, sym, ap, ◌∙◌, append_assoc, append-nil, add-one, length-append, false, arith, subst}
use Rattle.std.proofs.lemmas.Bool.{or_parts}
use Rattle.qs_syntax_vocabulary.specs.declared.terminal.Terminal.{Terminal}
use Rattle.qs_syntax_vocabulary.specs.declared.terminal.Terminal.TheVariants.{Name, Keyword, Punctuator}
use Rattle.qs_base.specs.declared.keyword.Keyword.TheVariants as keywords
use Rattle.qs_syntax_vocabulary.specs.declared.punctuator.Punctuator as punctuator
use Rattle.qs_syntax_vocabulary.specs.declared.punctuator.Punctuator.TheVariants as punctuators
use Rattle.qs_syntax.specs.declared.types.Base.{Base}
use Rattle.qs_syntax.specs.Trees.{unnumbered, LengthsTree, DeclaratorTree, MembersTree, ParameterTree, VariableTree, Stmts, DeclTree, structure, forward, function, DefinedTree, of_base, of_struct, typedef}
use Rattle.qs_syntax.specs.Trees as trees
use Rattle.qs_syntax.specs.ReadsTypes.{ReadsConsts, no_const, a_const, ReadsPrefixes, no_prefix, a_const_prefix, a_static_prefix, ReadsBase, a_void, an_int, a_char, an_unsigned, an_unsigned_int, an_unsigned_char, a_signed, a_signed_int, a_struct, ReadsOuterType, an_outer_type, ReadsStars, no_star, a_star, Any, Plain, ReadsName, a_plain_name, a_name_of_a_type, a_named_type, ReadsType, a_type}
use Rattle.qs_syntax.specs.Reads.{place}
use Rattle.qs_syntax.specs.ReadsDeclarations.{no_length, a_length, ReadsLengths, are_given, first_open, ReadsDeclarator, a_declarator, ReadsVariable, an_unset_variable, a_set_variable, ReadsVariables, a_last_variable, a_variable, an_outer_declaration, ReadsAllMembers, ReadsHead}
use Rattle.qs_syntax.specs.ReadsStatements.{ReadsItems}
use Rattle.qs_syntax.specs.ReadsUnits.{ReadsExternal, a_struct_with_members, a_forward, a_header, a_definition, some_variables, ReadsUnit, a_last_external, an_external, a_plain_external, ReadsDefined, ReadsExternals, ReadsPlain, ReadsTypeNames, a_known_type, a_last_name, a_name_before, a_struct_with_tag, a_struct_without_tag, a_typedef}
use Rattle.qs_parser_grammar.specs.Heads.{starts, starts_with}
use Rattle.qs_parser_grammar.specs.Parse.{Stop, read_on, base, skip_consts, stars}
use Rattle.qs_parser_grammar.specs.ParseDeclarations.{skip_prefixes, outer_type, groups, head, declarator}
use Rattle.qs_parser_grammar.specs.ParseStatements.{is_named, body_of, typed, external, is_empty, externals, unit, in_marks, known_type, type_names, typedef_of, plain, defined}
use Rattle.qs_parser_grammar.proofs.TypesComplete.{goes_on_base, goes_on_type, finds_consts, finds_base, finds_stars, stars_go_on, finds_type}
use Rattle.qs_parser_grammar.proofs.DeclarationsComplete.{Items, one_more, from_zero, variables_no_type, finds_all_variables, declarator_no_type, finds_declarator}
use Rattle.qs_parser_grammar.proofs.DeclarationsMembersComplete.{finds_groups}
use Rattle.qs_parser_grammar.proofs.DeclarationsParametersComplete.{finds_head}
use Rattle.qs_parser_grammar.proofs.StatementsComplete.{finds_items}
use Rattle.qs_parser_grammar.proofs.UnitsSound.{outer_place}
use Rattle.qs_syntax_vocabulary.specs.Marks.{NameSet, marked}
use Rattle.qs_parser_grammar.proofs.MarkLaws.{as_many, finds_marked, marked_both, mark_keyword}

-- ---- types at file scope

-- what begins a base is no prefix
base_no_prefix : {f : List Terminal} {b : Base} → ReadsBase f b → (rest : List Terminal) → skip_prefixes (f ++ rest) ≡ f ++ rest
base_no_prefix (a_void at) rest = refl
base_no_prefix (an_int at) rest = refl
base_no_prefix (a_char at) rest = refl
base_no_prefix (an_unsigned at) rest = refl
base_no_prefix (an_unsigned_int at bt) rest = refl
base_no_prefix (an_unsigned_char at bt) rest = refl
base_no_prefix (a_signed at) rest = refl
base_no_prefix (a_signed_int at bt) rest = refl
base_no_prefix (a_struct at r) rest = refl
base_no_prefix (a_named_type at x) rest = refl

finds_prefixes : {f g : List Terminal} {b : Base} → ReadsPrefixes f → ReadsBase g b → (rest : List Terminal) → skip_prefixes (f ++ (g ++ rest)) ≡ g ++ rest
finds_prefixes no_prefix r rest = base_no_prefix r rest
finds_prefixes (a_const_prefix at p) r rest = finds_prefixes p r rest
finds_prefixes (a_static_prefix at p) r rest = finds_prefixes p r rest

consts_go_on : {f : List Terminal} → ReadsConsts f → (rest : List Terminal) → goes_on_base rest ≡ false → goes_on_base (f ++ rest) ≡ false
consts_go_on no_const rest e = e
consts_go_on (a_const at r) rest e = refl

outer_spelled : (xs ys zs rest : List Terminal) → (xs ++ (ys ++ zs)) ++ rest ≡ xs ++ (ys ++ (zs ++ rest))
outer_spelled xs ys zs rest = append_assoc xs (ys ++ zs) rest ∙ ap (λ l. xs ++ l) (append_assoc ys zs rest)

pub finds_outer_type : {f : List Terminal} {b : Base} → ReadsOuterType f b → (rest : List Terminal) → goes_on_type rest ≡ false → outer_type (f ++ rest) ≡ Ok (b, rest)
unfolding outer_type
finds_outer_type (an_outer_type {xs = xs} {ys = ys} {zs = zs} {base = b} p r d) rest e =
    let parts = or_parts (starts_with keywords.Const rest) (goes_on_base rest) e in
    let found : base (ys ++ (zs ++ rest)) ≡ Ok (b, zs ++ rest) = finds_base r (zs ++ rest) (consts_go_on d rest parts.1) in
    let behind : skip_consts (zs ++ rest) ≡ rest = finds_consts d rest parts.0 in
    rw (outer_spelled xs ys zs rest, finds_prefixes p r (zs ++ rest), found, behind) refl

-- ---- externals that begin with a type

-- a punctuator that stands behind no name of a struct
consts_start : {f : List Terminal} (k : punctuator.Punctuator) → ReadsConsts f → (rest : List Terminal) → starts k rest ≡ false → starts k (f ++ rest) ≡ false
consts_start k no_const rest e = e
consts_start k (a_const at r) rest e = refl

base_external : {f : List Terminal} {b : Base} (k : ℕ) → ReadsBase f b → (rest : List Terminal) → starts punctuators.OpenBrace rest ≡ false → starts punctuators.Semicolon rest ≡ false
    → plain k (f ++ rest) ≡ read_on (outer_type (f ++ rest)) (typed k (place (f ++ rest)))
unfolding plain
base_external k (a_void at) rest e d = refl
base_external k (an_int at) rest e d = refl
base_external k (a_char at) rest e d = refl
base_external k (an_unsigned at) rest e d = refl
base_external k (an_unsigned_int at bt) rest e d = refl
base_external k (an_unsigned_char at bt) rest e d = refl
base_external k (a_signed at) rest e d = refl
base_external k (a_signed_int at bt) rest e d = refl
base_external k (a_struct at (a_plain_name n x)) rest e d = rw (e, d) refl
base_external k (a_struct at (a_name_of_a_type n x)) rest e d = rw (e, d) refl
base_external k (a_named_type at x) rest e d = refl

outer_external : {f : List Terminal} {b : Base} (k : ℕ) → ReadsOuterType f b → (rest : List Terminal) → starts punctuators.OpenBrace rest ≡ false → starts punctuators.Semicolon rest ≡ false
    → plain k (f ++ rest) ≡ read_on (outer_type (f ++ rest)) (typed k (place (f ++ rest)))
unfolding plain
outer_external k (an_outer_type {ys = ys} {zs = zs} no_prefix r d) rest e f =
    rw (append_assoc ys zs rest) (base_external k r (zs ++ rest) (consts_start punctuators.OpenBrace d rest e) (consts_start punctuators.Semicolon d rest f))
outer_external k (an_outer_type (a_const_prefix at p) r d) rest e f = refl
outer_external k (an_outer_type (a_static_prefix at p) r d) rest e f = refl

-- behind the type of an external
finds_typed : {f : List Terminal} {b : Base} (k : ℕ) → ReadsOuterType f b → (rest : List Terminal) → starts punctuators.OpenBrace rest ≡ false → starts punctuators.Semicolon rest ≡ false → goes_on_type rest ≡ false
    → plain k (f ++ rest) ≡ typed k (place f) b rest
finds_typed {f} {b} k t rest e d stop = outer_external k t rest e d ∙ rw (finds_outer_type t rest stop, outer_place t rest) refl

-- stars and then a name are neither a brace nor a semicolon
stars_start : {f : List Terminal} {c : ℕ} (k : punctuator.Punctuator) → starts k (Punctuator 0 punctuators.Star ∷ []) ≡ false → ReadsStars f c → (at : ℕ) (x : List ℕ) (rest : List Terminal) → starts k (f ++ Name at x ∷ rest) ≡ false
stars_start k e no_star at x rest = refl
stars_start k e (a_star bt r s) at x rest = e

-- ---- variables are no function

lengths_no_parenthesis : {h : ℕ} {zs : List Terminal} {x : LengthsTree} → ReadsLengths h zs x → (rest : List Terminal) → starts punctuators.OpenParenthesis rest ≡ false → starts punctuators.OpenParenthesis (zs ++ rest) ≡ false
lengths_no_parenthesis (are_given no_length) rest e = e
lengths_no_parenthesis (are_given (a_length o c r s)) rest e = refl
lengths_no_parenthesis (first_open o c r) rest e = refl

-- how a declarator stands before what is no parenthesis
record Declares (ts : List Terminal) : Type 0 where
  no_function : is_named Plain punctuators.OpenParenthesis (stars ts).1 ≡ false
  no_brace : starts punctuators.OpenBrace ts ≡ false
  no_semicolon : starts punctuators.Semicolon ts ≡ false

declarator_declares : {h : ℕ} {ts : List Terminal} {d : DeclaratorTree} → ReadsDeclarator Plain h ts d → (rest : List Terminal) → starts punctuators.OpenParenthesis rest ≡ false → Declares (ts ++ rest)
declarator_declares (a_declarator {xs = xs} {ys = ys} s (a_plain_name at x) r) rest e = rw (append_assoc xs (Name at x ∷ ys) rest) (record {
  no_function = rw (finds_stars s (Name at x ∷ (ys ++ rest)) refl) (lengths_no_parenthesis r rest e);
  no_brace = stars_start punctuators.OpenBrace refl s at x (ys ++ rest);
  no_semicolon = stars_start punctuators.Semicolon refl s at x (ys ++ rest);
})

variable_declares : {h : ℕ} {ts : List Terminal} {v : VariableTree} → ReadsVariable h ts v → (rest : List Terminal) → starts punctuators.OpenParenthesis rest ≡ false → Declares (ts ++ rest)
variable_declares (an_unset_variable r) rest e = declarator_declares r rest e
variable_declares (a_set_variable {xs = xs} {ys = ys} at r s) rest e = rw (append_assoc xs (Punctuator at punctuators.Assign ∷ ys) rest) (declarator_declares r (Punctuator at punctuators.Assign ∷ (ys ++ rest)) refl)

variables_declare : {h : ℕ} {ts : List Terminal} {vs : List VariableTree} → ReadsVariables h ts vs → (rest : List Terminal) → starts punctuators.OpenParenthesis rest ≡ false → Declares (ts ++ rest)
variables_declare (a_last_variable r) rest e = variable_declares r rest e
variables_declare (a_variable {xs = xs} {ys = ys} at r s) rest e = rw (append_assoc xs (Punctuator at punctuators.Comma ∷ ys) rest) (variable_declares r (Punctuator at punctuators.Comma ∷ (ys ++ rest)) refl)

-- ---- externals

all_groups : {h : ℕ} {ts : List Terminal} {ms : List MembersTree} → ReadsAllMembers h ts ms → (k : ℕ) → h ≤ suc k → (c : ℕ) (rest : List Terminal)
    → groups k (length (ts ++ Punctuator c punctuators.CloseBrace ∷ rest)) [] 0 (ts ++ Punctuator c punctuators.CloseBrace ∷ rest) ≡ Items ms h rest
all_groups {h} {ts} {ms} r k le c rest = finds_groups r k (length (ts ++ Punctuator c punctuators.CloseBrace ∷ rest)) le (omega (arith, length-append ts (Punctuator c punctuators.CloseBrace ∷ rest))) [] 0 c rest ∙ ap (λ (j : ℕ). Items ms j rest) (from_zero h)

for_struct : {t : Terminal} {n : ℕ} {x : List ℕ} (k h : ℕ) (ts : List Terminal) (ms : List MembersTree) (at o c s : ℕ) → ReadsName Any t n x → ReadsAllMembers h ts ms → h ≤ suc k → (rest : List Terminal)
    → plain k ((Keyword at keywords.Struct ∷ t ∷ Punctuator o punctuators.OpenBrace ∷ (ts ++ Punctuator c punctuators.CloseBrace ∷ Punctuator s punctuators.Semicolon ∷ [])) ++ rest) ≡ Ok ((structure (record { node = unnumbered at; name = Some x; members = ms }), suc h), rest)
unfolding plain
for_struct k h ts ms at o c s (a_plain_name n x) r le rest = rw (append_assoc ts (Punctuator c punctuators.CloseBrace ∷ Punctuator s punctuators.Semicolon ∷ []) rest, all_groups r k le c (Punctuator s punctuators.Semicolon ∷ rest), add-one h) refl
for_struct k h ts ms at o c s (a_name_of_a_type n x) r le rest = rw (append_assoc ts (Punctuator c punctuators.CloseBrace ∷ Punctuator s punctuators.Semicolon ∷ []) rest, all_groups r k le c (Punctuator s punctuators.Semicolon ∷ rest), add-one h) refl

for_forward : {t : Terminal} {n : ℕ} {x : List ℕ} (k at s : ℕ) → ReadsName Any t n x → (rest : List Terminal) → plain k (Keyword at keywords.Struct ∷ t ∷ Punctuator s punctuators.Semicolon ∷ rest) ≡ Ok ((forward (record { node = unnumbered at; name = x }), 1), rest)
unfolding plain
for_forward k at s (a_plain_name n x) rest = refl
for_forward k at s (a_name_of_a_type n x) rest = refl

-- a type, stars, a name and a parenthesis begin a function
finds_function : {f ys : List Terminal} {b : Base} {m : ℕ} (k : ℕ) → ReadsOuterType f b → ReadsStars ys m → (n : ℕ) (x : List ℕ) (o : ℕ) (rest : List Terminal)
    → plain k (f ++ (ys ++ Name n x ∷ Punctuator o punctuators.OpenParenthesis ∷ rest)) ≡ read_on (head k rest) (body_of k (place f) b m x)
finds_function {f} {ys} {b} {m} k t s n x o rest =
    finds_typed k t (ys ++ Name n x ∷ Punctuator o punctuators.OpenParenthesis ∷ rest)
    (stars_start punctuators.OpenBrace refl s n x (Punctuator o punctuators.OpenParenthesis ∷ rest)) (stars_start punctuators.Semicolon refl s n x (Punctuator o punctuators.OpenParenthesis ∷ rest)) (stars_go_on s (Name n x ∷ Punctuator o punctuators.OpenParenthesis ∷ rest) refl)
    ∙ rw (finds_stars s (Name n x ∷ Punctuator o punctuators.OpenParenthesis ∷ rest) refl) refl

for_header : (k h m : ℕ) (xs ys zs : List Terminal) (b : Base) (ps : List ParameterTree) (n o c s : ℕ) (x : List ℕ) → ReadsOuterType xs b → ReadsStars ys m → ReadsHead h zs ps → h ≤ suc k → (rest : List Terminal)
    → plain k ((xs ++ (ys ++ Name n x ∷ Punctuator o punctuators.OpenParenthesis ∷ (zs ++ Punctuator c punctuators.CloseParenthesis ∷ Punctuator s punctuators.Semicolon ∷ []))) ++ rest)
    ≡ Ok ((function (record { node = unnumbered (place xs); result_type = record { base = b; stars = m }; name = x; parameters = ps; body = None }), suc h), rest)
for_header k h m xs ys zs b ps n o c s x t q r le rest =
    ap (plain k) (append_assoc xs (ys ++ Name n x ∷ Punctuator o punctuators.OpenParenthesis ∷ (zs ++ Punctuator c punctuators.CloseParenthesis ∷ Punctuator s punctuators.Semicolon ∷ [])) rest
    ∙ ap (λ l. xs ++ l) (append_assoc ys (Name n x ∷ Punctuator o punctuators.OpenParenthesis ∷ (zs ++ Punctuator c punctuators.CloseParenthesis ∷ Punctuator s punctuators.Semicolon ∷ [])) rest))
    ∙ finds_function k t q n x o ((zs ++ Punctuator c punctuators.CloseParenthesis ∷ Punctuator s punctuators.Semicolon ∷ []) ++ rest)
    ∙ rw (append_assoc zs (Punctuator c punctuators.CloseParenthesis ∷ Punctuator s punctuators.Semicolon ∷ []) rest, finds_head r k le c (Punctuator s punctuators.Semicolon ∷ rest), add-one h) refl

for_definition : (k h j m : ℕ) (xs ys zs ws : List Terminal) (b : Base) (ps : List ParameterTree) (ss : Stmts) (n o c i e : ℕ) (x : List ℕ) → ReadsOuterType xs b → ReadsStars ys m → ReadsHead h zs ps → h ≤ suc k → ReadsItems j ws ss → j ≤ k → (rest : List Terminal)
    → plain k ((xs ++ (ys ++ Name n x ∷ Punctuator o punctuators.OpenParenthesis ∷ (zs ++ Punctuator c punctuators.CloseParenthesis ∷ Punctuator i punctuators.OpenBrace ∷ (ws ++ Punctuator e punctuators.CloseBrace ∷ [])))) ++ rest)
    ≡ Ok ((function (record { node = unnumbered (place xs); result_type = record { base = b; stars = m }; name = x; parameters = ps; body = Some ss }), suc (max h (suc j))), rest)
for_definition k h j m xs ys zs ws b ps ss n o c i e x t q r le z low rest =
    let body = finds_items z k low e rest in
    ap (plain k) (append_assoc xs (ys ++ Name n x ∷ Punctuator o punctuators.OpenParenthesis ∷ (zs ++ Punctuator c punctuators.CloseParenthesis ∷ Punctuator i punctuators.OpenBrace ∷ (ws ++ Punctuator e punctuators.CloseBrace ∷ []))) rest
    ∙ ap (λ l. xs ++ l) (append_assoc ys (Name n x ∷ Punctuator o punctuators.OpenParenthesis ∷ (zs ++ Punctuator c punctuators.CloseParenthesis ∷ Punctuator i punctuators.OpenBrace ∷ (ws ++ Punctuator e punctuators.CloseBrace ∷ []))) rest))
    ∙ finds_function k t q n x o ((zs ++ Punctuator c punctuators.CloseParenthesis ∷ Punctuator i punctuators.OpenBrace ∷ (ws ++ Punctuator e punctuators.CloseBrace ∷ [])) ++ rest)
    ∙ rw (
      append_assoc zs (Punctuator c punctuators.CloseParenthesis ∷ Punctuator i punctuators.OpenBrace ∷ (ws ++ Punctuator e punctuators.CloseBrace ∷ [])) rest,
      append_assoc ws (Punctuator e punctuators.CloseBrace ∷ []) rest,
      finds_head r k le c (Punctuator i punctuators.OpenBrace ∷ (ws ++ Punctuator e punctuators.CloseBrace ∷ rest)),
      body.2,
      body.1,
      add-one j,
      add-one (max h (suc j)),
    ) refl

for_variables : (k h : ℕ) (xs ys : List Terminal) (b : Base) (vs : List VariableTree) (s : ℕ) → ReadsOuterType xs b → ReadsVariables h ys vs → h ≤ suc (suc k) → (rest : List Terminal)
    → plain k ((xs ++ (ys ++ Punctuator s punctuators.Semicolon ∷ [])) ++ rest) ≡ Ok ((trees.variables (record { base = b; variables = vs }), h), rest)
for_variables k h xs ys b vs s t r le rest =
    let declares = variables_declare r (Punctuator s punctuators.Semicolon ∷ rest) refl in
    ap (plain k) (append_assoc xs (ys ++ Punctuator s punctuators.Semicolon ∷ []) rest ∙ ap (λ l. xs ++ l) (append_assoc ys (Punctuator s punctuators.Semicolon ∷ []) rest))
    ∙ finds_typed k t (ys ++ Punctuator s punctuators.Semicolon ∷ rest) declares.no_brace declares.no_semicolon (variables_no_type r (Punctuator s punctuators.Semicolon ∷ rest))
    ∙ rw (declares.no_function, finds_all_variables r (k + 1) (omega arith) s rest) refl

pub finds_plain : {h : ℕ} {ts : List Terminal} {d : DeclTree} → ReadsPlain h ts d → (k : ℕ) → h ≤ suc (suc k) → (rest : List Terminal) → plain k (ts ++ rest) ≡ Ok ((d, h), rest)
finds_plain (a_struct_with_members {h = h} {ts = ts} {ms = ms} at o c s name r) k le rest = for_struct k h ts ms at o c s name r (omega arith) rest
finds_plain (a_forward at s name) k le rest = for_forward k at s name rest
finds_plain (a_header {h = h} {m = m} {xs = xs} {ys = ys} {zs = zs} {base = b} {ps = ps} n o c s x t q r) k le rest = for_header k h m xs ys zs b ps n o c s x t q r (omega arith) rest
finds_plain (a_definition {h = h} {k = j} {m = m} {xs = xs} {ys = ys} {zs = zs} {ws = ws} {base = b} {ps = ps} {ss = ss} n o c i e x t q r z) k le rest =
    for_definition k h j m xs ys zs ws b ps ss n o c i e x t q r (omega arith) z (omega arith) rest
finds_plain (some_variables (an_outer_declaration {h = h} {xs = xs} {ys = ys} {base = b} {vs = vs} s t r)) k le rest = for_variables k h xs ys b vs s t r le rest

-- an external takes a token at least
pub plain_takes : {h : ℕ} {ts : List Terminal} {d : DeclTree} → ReadsPlain h ts d → 0 < length ts
plain_takes (a_struct_with_members at o c s name r) = omega arith
plain_takes (a_forward at s name) = omega arith
plain_takes (a_header {xs = xs} {ys = ys} {zs = zs} n o c s x t q r) =
    omega (arith, length-append xs (ys ++ Name n x ∷ Punctuator o punctuators.OpenParenthesis ∷ (zs ++ Punctuator c punctuators.CloseParenthesis ∷ Punctuator s punctuators.Semicolon ∷ [])), length-append ys (Name n x ∷ Punctuator o punctuators.OpenParenthesis ∷ (zs ++ Punctuator c punctuators.CloseParenthesis ∷ Punctuator s punctuators.Semicolon ∷ [])))
plain_takes (a_definition {xs = xs} {ys = ys} {zs = zs} {ws = ws} n o c i e x t q r z) =
    omega (arith, length-append xs (ys ++ Name n x ∷ Punctuator o punctuators.OpenParenthesis ∷ (zs ++ Punctuator c punctuators.CloseParenthesis ∷ Punctuator i punctuators.OpenBrace ∷ (ws ++ Punctuator e punctuators.CloseBrace ∷ []))), length-append ys (Name n x ∷ Punctuator o punctuators.OpenParenthesis ∷ (zs ++ Punctuator c punctuators.CloseParenthesis ∷ Punctuator i punctuators.OpenBrace ∷ (ws ++ Punctuator e punctuators.CloseBrace ∷ []))))
plain_takes (some_variables (an_outer_declaration {xs = xs} {ys = ys} s t r)) = omega (arith, length-append xs (ys ++ Punctuator s punctuators.Semicolon ∷ []), length-append ys (Punctuator s punctuators.Semicolon ∷ []))

base_no_typedef : {f : List Terminal} {b : Base} → ReadsBase f b → (rest : List Terminal) → starts_with keywords.Typedef (f ++ rest) ≡ false
base_no_typedef (a_void at) rest = refl
base_no_typedef (an_int at) rest = refl
base_no_typedef (a_char at) rest = refl
base_no_typedef (an_unsigned at) rest = refl
base_no_typedef (an_unsigned_int at bt) rest = refl
base_no_typedef (an_unsigned_char at bt) rest = refl
base_no_typedef (a_signed at) rest = refl
base_no_typedef (a_signed_int at bt) rest = refl
base_no_typedef (a_struct at r) rest = refl
base_no_typedef (a_named_type at x) rest = refl

outer_no_typedef : {f : List Terminal} {b : Base} → ReadsOuterType f b → (rest : List Terminal) → starts_with keywords.Typedef (f ++ rest) ≡ false
outer_no_typedef (an_outer_type {ys = ys} {zs = zs} no_prefix r d) rest = rw (append_assoc ys zs rest) (base_no_typedef r (zs ++ rest))
outer_no_typedef (an_outer_type (a_const_prefix at p) r d) rest = refl
outer_no_typedef (an_outer_type (a_static_prefix at p) r d) rest = refl

-- ---- what a typedef gives names to

for_tag : {t : Terminal} {n : ℕ} {x : List ℕ} (k h : ℕ) (ts : List Terminal) (ms : List MembersTree) (at o c : ℕ) → ReadsName Any t n x → ReadsAllMembers h ts ms → h ≤ suc k → (rest : List Terminal)
    → defined k ((Keyword at keywords.Struct ∷ t ∷ Punctuator o punctuators.OpenBrace ∷ (ts ++ Punctuator c punctuators.CloseBrace ∷ [])) ++ rest) ≡ Ok ((of_struct (record { node = unnumbered at; name = Some x; members = ms }), suc h), rest)
unfolding defined
for_tag k h ts ms at o c (a_plain_name n x) r le rest = rw (append_assoc ts (Punctuator c punctuators.CloseBrace ∷ []) rest, all_groups r k le c rest, add-one h) refl
for_tag k h ts ms at o c (a_name_of_a_type n x) r le rest = rw (append_assoc ts (Punctuator c punctuators.CloseBrace ∷ []) rest, all_groups r k le c rest, add-one h) refl

for_no_tag : (k h : ℕ) (ts : List Terminal) (ms : List MembersTree) (at o c : ℕ) → ReadsAllMembers h ts ms → h ≤ suc k → (rest : List Terminal)
    → defined k ((Keyword at keywords.Struct ∷ Punctuator o punctuators.OpenBrace ∷ (ts ++ Punctuator c punctuators.CloseBrace ∷ [])) ++ rest) ≡ Ok ((of_struct (record { node = unnumbered at; name = None; members = ms }), suc h), rest)
unfolding defined
for_no_tag k h ts ms at o c r le rest = rw (append_assoc ts (Punctuator c punctuators.CloseBrace ∷ []) rest, all_groups r k le c rest, add-one h) refl

base_known : {f : List Terminal} {b : Base} (k : ℕ) → ReadsBase f b → (rest : List Terminal) → starts punctuators.OpenBrace rest ≡ false → defined k (f ++ rest) ≡ known_type (f ++ rest)
unfolding defined
base_known k (a_void at) rest e = refl
base_known k (an_int at) rest e = refl
base_known k (a_char at) rest e = refl
base_known k (an_unsigned at) rest e = refl
base_known k (an_unsigned_int at bt) rest e = refl
base_known k (an_unsigned_char at bt) rest e = refl
base_known k (a_signed at) rest e = refl
base_known k (a_signed_int at bt) rest e = refl
base_known k (a_struct at (a_plain_name n x)) rest e = rw e refl
base_known k (a_struct at (a_name_of_a_type n x)) rest e = rw e refl
base_known k (a_named_type at x) rest e = refl

type_known : {f : List Terminal} {b : Base} (k : ℕ) → ReadsType f b → (rest : List Terminal) → starts punctuators.OpenBrace rest ≡ false → defined k (f ++ rest) ≡ known_type (f ++ rest)
unfolding defined
type_known k (a_type {ys = ys} {zs = zs} no_const r d) rest e = rw (append_assoc ys zs rest) (base_known k r (zs ++ rest) (consts_start punctuators.OpenBrace d rest e))
type_known k (a_type (a_const at c) r d) rest e = refl

for_known : {f : List Terminal} {b : Base} (k : ℕ) → ReadsType f b → (rest : List Terminal) → starts punctuators.OpenBrace rest ≡ false → goes_on_type rest ≡ false → defined k (f ++ rest) ≡ Ok ((of_base b, 0), rest)
for_known k t rest e stop = type_known k t rest e ∙ rw (finds_type t rest stop) refl

pub finds_defined : {h : ℕ} {ts : List Terminal} {d : DefinedTree} → ReadsDefined h ts d → (k : ℕ) → h ≤ suc (suc k) → (rest : List Terminal) → starts punctuators.OpenBrace rest ≡ false → goes_on_type rest ≡ false
    → defined k (ts ++ rest) ≡ Ok ((d, h), rest)
finds_defined (a_struct_with_tag {h = h} {ts = ts} {ms = ms} at o c name r) k le rest e stop = for_tag k h ts ms at o c name r (omega arith) rest
finds_defined (a_struct_without_tag {h = h} {ts = ts} {ms = ms} at o c r) k le rest e stop = for_no_tag k h ts ms at o c r (omega arith) rest
finds_defined (a_known_type r) k le rest e stop = for_known k r rest e stop

-- ---- names of types

-- a declarator begins neither with a brace nor with what goes on with a type
record BeginsName (ts : List Terminal) : Type 0 where
  no_brace : starts punctuators.OpenBrace ts ≡ false
  no_type : goes_on_type ts ≡ false

any_name_start : {f : List Terminal} {c : ℕ} {t : Terminal} {at : ℕ} {x : List ℕ} → ReadsStars f c → ReadsName Any t at x → (rest : List Terminal) → starts punctuators.OpenBrace (f ++ t ∷ rest) ≡ false
any_name_start no_star (a_plain_name at x) rest = refl
any_name_start no_star (a_name_of_a_type at x) rest = refl
any_name_start (a_star bt r s) name rest = refl

declarator_begins : {h : ℕ} {ts : List Terminal} {d : DeclaratorTree} → ReadsDeclarator Any h ts d → (rest : List Terminal) → BeginsName (ts ++ rest)
declarator_begins (a_declarator {xs = xs} {ys = ys} {t = t} s name r) rest =
    record { no_brace = rw (append_assoc xs (t ∷ ys) rest) (any_name_start s name (ys ++ rest)); no_type = declarator_no_type (a_declarator s name r) rest }

type_names_begin : {set : NameSet} {h : ℕ} {ts : List Terminal} {ds : List DeclaratorTree} → ReadsTypeNames set h ts ds → (rest : List Terminal) → BeginsName (marked set (ts ++ rest))
type_names_begin {set} (a_last_name {ts = ts} r) rest = subst BeginsName (sym (marked_both set ts rest)) (declarator_begins r (marked set rest))
type_names_begin {set} (a_name_before {ys = ys} xs at r s) rest =
    subst BeginsName (sym (ap (marked set) (append_assoc xs (Punctuator at punctuators.Comma ∷ ys) rest) ∙ marked_both set xs (Punctuator at punctuators.Comma ∷ (ys ++ rest)))) (declarator_begins r (marked set (Punctuator at punctuators.Comma ∷ (ys ++ rest))))

-- the name, where the names are marked by the set
finds_type_name : {h : ℕ} {d : DeclaratorTree} (set : NameSet) (xs : List Terminal) → ReadsDeclarator Any h (marked set xs) d → (m : ℕ) → h ≤ m → (at : ℕ) (p : punctuator.Punctuator) (rest : List Terminal) → starts punctuators.OpenBracket (Punctuator at p ∷ []) ≡ false
    → in_marks set (declarator Any m) (xs ++ Punctuator at p ∷ rest) ≡ Ok ((d, h), Punctuator at p ∷ rest)
finds_type_name {h} {d} set xs r m le at p rest stop = finds_marked set (declarator Any m) xs (Punctuator at p ∷ rest) (d, h) (finds_declarator r m le (Punctuator at p ∷ marked set rest) stop)

finds_type_names : {set : NameSet} {h : ℕ} {ts : List Terminal} {ds : List DeclaratorTree} → ReadsTypeNames set h ts ds → (m n : ℕ) → h ≤ suc m → length ts < n → (done : List DeclaratorTree) (j s : ℕ) (rest : List Terminal)
    → type_names m set n done j (ts ++ Punctuator s punctuators.Semicolon ∷ rest) ≡ Items (done ++ ds) (max j h) rest
unfolding type_names
finds_type_names (a_last_name r) m zero le enough done j s rest = absurd (omega arith)
finds_type_names (a_last_name {set = set} {h = h} {ts = ts} {d = d} r) m (suc n) le enough done j s rest = rw (finds_type_name set ts r m (omega arith) s punctuators.Semicolon rest refl, add-one h) refl
finds_type_names (a_name_before xs at r q) m zero le enough done j s rest = absurd (omega arith)
finds_type_names (a_name_before {set = set} {h = h} {k = k} {ys = ys} {d = d} {ds = ds} xs at r q) m (suc n) le enough done j s rest =
    rw (append_assoc xs (Punctuator at punctuators.Comma ∷ ys) (Punctuator s punctuators.Semicolon ∷ rest), finds_type_name set xs r m (omega arith) at punctuators.Comma (ys ++ Punctuator s punctuators.Semicolon ∷ rest) refl, add-one h)
    (finds_type_names q m n (omega arith) (omega (arith, length-append xs (Punctuator at punctuators.Comma ∷ ys))) (done ++ d ∷ []) (max j (suc h)) s rest ∙ one_more done ds d j (suc h) k rest)

-- ---- externals with a set

for_typedef : {set : NameSet} {h k : ℕ} {ys : List Terminal} {what : DefinedTree} {ds : List DeclaratorTree} (xs : List Terminal) (at s : ℕ) → ReadsDefined h (marked set xs) what → ReadsTypeNames set k ys ds → (m : ℕ) → max h k ≤ suc (suc m) → (rest : List Terminal)
    → typedef_of m set (xs ++ (ys ++ Punctuator s punctuators.Semicolon ∷ rest)) ≡ Ok ((typedef (record { defined = what; names = ds }), max h k), rest)
for_typedef {set} {h} {k} {ys} {what} {ds} xs at s r q m le rest =
    let begins : BeginsName (marked set (ys ++ Punctuator s punctuators.Semicolon ∷ rest)) = type_names_begin q (Punctuator s punctuators.Semicolon ∷ rest) in
    let first : in_marks set (defined m) (xs ++ (ys ++ Punctuator s punctuators.Semicolon ∷ rest)) ≡ Ok ((what, h), ys ++ Punctuator s punctuators.Semicolon ∷ rest) =
    finds_marked set (defined m) xs (ys ++ Punctuator s punctuators.Semicolon ∷ rest) (what, h) (finds_defined r m (omega arith) (marked set (ys ++ Punctuator s punctuators.Semicolon ∷ rest)) begins.no_brace begins.no_type) in
    let names : type_names (m + 1) set (length (ys ++ Punctuator s punctuators.Semicolon ∷ rest)) [] 0 (ys ++ Punctuator s punctuators.Semicolon ∷ rest) ≡ Items ds k rest =
    finds_type_names q (m + 1) (length (ys ++ Punctuator s punctuators.Semicolon ∷ rest)) (omega arith) (omega (arith, length-append ys (Punctuator s punctuators.Semicolon ∷ rest))) [] 0 s rest ∙ ap (λ (j : ℕ). Items ds j rest) (from_zero k) in
    rw (first, names) refl

-- no external but a typedef begins with that keyword
not_typedef : {h : ℕ} {ts : List Terminal} {d : DeclTree} → ReadsPlain h ts d → starts_with keywords.Typedef ts ≡ false
not_typedef (a_struct_with_members at o c s name r) = refl
not_typedef (a_forward at s name) = refl
not_typedef (a_header {ys = ys} {zs = zs} n o c s x t q r) = outer_no_typedef t _
not_typedef (a_definition n o c i e x t q r z) = outer_no_typedef t _
not_typedef (some_variables (an_outer_declaration s t r)) = outer_no_typedef t _

pub finds_external : {set : NameSet} {h : ℕ} {ts : List Terminal} {d : DeclTree} → ReadsExternal set h ts d → (k : ℕ) → h ≤ suc (suc k) → (rest : List Terminal) → external k set (ts ++ rest) ≡ Ok ((d, h), rest)
unfolding external
finds_external (a_plain_external {set = set} {h = h} {ts = []} {d = d} r) k le rest = absurd (let some = plain_takes r in omega arith)
finds_external (a_plain_external {set = set} {h = h} {ts = t ∷ ts} {d = d} r) k le rest =
    let found : in_marks set (plain k) ((t ∷ ts) ++ rest) ≡ Ok ((d, h), rest) = finds_marked set (plain k) (t ∷ ts) rest (d, h) (finds_plain r k le (marked set rest)) in
    rw (sym (mark_keyword set keywords.Typedef t) ∙ not_typedef r) found
finds_external (a_typedef {set = set} {ys = ys} xs at s r q) k le rest =
    ap (typedef_of k set) (append_assoc xs (ys ++ Punctuator s punctuators.Semicolon ∷ []) rest ∙ ap (λ l. xs ++ l) (append_assoc ys (Punctuator s punctuators.Semicolon ∷ []) rest)) ∙ for_typedef xs at s r q k le rest

-- ---- units

pub external_takes : {set : NameSet} {h : ℕ} {ts : List Terminal} {d : DeclTree} → ReadsExternal set h ts d → 0 < length ts
external_takes {set} (a_plain_external {ts = ts} r) = let some = plain_takes r in omega (arith, as_many set ts)
external_takes (a_typedef xs at s r q) = omega arith

unit_takes : {set : NameSet} {h : ℕ} {ts : List Terminal} {ds : List DeclTree} → ReadsExternals set h ts ds → 0 < length ts
unit_takes (a_last_external r) = external_takes r
unit_takes (an_external {xs = xs} {ys = ys} r s) = let some = external_takes r in omega (arith, length-append xs ys)

not_empty : (ts : List Terminal) → 0 < length ts → is_empty ts ≡ false
not_empty [] lt = absurd (omega arith)
not_empty (t ∷ ts) lt = refl

finds_externals : {set : NameSet} {h : ℕ} {ts : List Terminal} {ds : List DeclTree} → ReadsExternals set h ts ds → (k n : ℕ) → h ≤ suc (suc k) → length ts ≤ n → (done : List DeclTree) (j : ℕ) → externals k set n done j ts ≡ Items (done ++ ds) (max j h) []
unfolding externals
finds_externals (a_last_external r) k zero le enough done j = let some = external_takes r in absurd (omega arith)
finds_externals (a_last_external {set = set} {h = h} {ts = ts} {d = d} r) k (suc n) le enough done j =
    let read : external k set ts ≡ Ok ((d, h), []) = ap (external k set) (sym (append-nil ts)) ∙ finds_external r k le [] in
    rw read refl
finds_externals (an_external {xs = xs} {ys = ys} r s) k zero le enough done j = let some = external_takes r in absurd (omega (arith, length-append xs ys))
finds_externals (an_external {h = h} {k = i} {xs = xs} {ys = ys} {d = d} {ds = ds} r s) k (suc n) le enough done j =
    let some = external_takes r in
    rw (finds_external r k (omega arith) ys, not_empty ys (unit_takes s))
    (finds_externals s k n (omega arith) (omega (arith, length-append xs ys)) (done ++ d ∷ []) (max j h) ∙ one_more done ds d j h i [])

pub finds_unit : (k h : ℕ) (ts : List Terminal) (ds : List DeclTree) → ReadsUnit h ts ds → h ≤ suc (suc k) → unit k ts ≡ Ok ((ds, h), [])
unfolding unit
finds_unit k h ts ds r le = finds_externals r k (length ts) le (omega arith) [] 0 ∙ ap (λ (j : ℕ). Items ds j []) (from_zero h)

same_answer : (x y : List DeclTree × ℕ) (r : Result ((List DeclTree × ℕ) × List Terminal) Stop) → r ≡ Ok (x, []) → r ≡ Ok (y, []) → x ≡ y
same_answer x y r p q = let pair : ◌≡◌ {A = (List DeclTree × ℕ) × List Terminal} (x, []) (y, []) = cc in ap (λ (p : (List DeclTree × ℕ) × List Terminal). p.0) pair

-- tokens are at most one unit
pub one_reading : (ts : List Terminal) (ds es : List DeclTree) (h k : ℕ) → ReadsUnit h ts ds → ReadsUnit k ts es → (ds ≡ es) × (h ≡ k)
one_reading ts ds es h k p q =
    let same : ◌≡◌ {A = List DeclTree × ℕ} (ds, h) (es, k) = same_answer (ds, h) (es, k) (unit (max h k) ts) (finds_unit (max h k) h ts ds p (omega arith)) (finds_unit (max h k) k ts es q (omega arith)) in
    (ap (λ (p : List DeclTree × ℕ). p.0) same, ap (λ (p : List DeclTree × ℕ). p.1) same)
