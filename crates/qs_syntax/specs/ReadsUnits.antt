-- How tokens are read as a unit (C11 6.9): one constructor for each production. The set of the names that are types' so far goes from
-- external to external; each name that a typedef declares is a type's from its end on. All else is read where the names are marked by
-- the set.
use Rattle.std.specs.Prelude.{ℕ, suc, max, List, [], ◌∷◌, ◌++◌, Some, None}
use Rattle.qs_syntax_vocabulary.specs.declared.terminal.Terminal.{Terminal}
use Rattle.qs_syntax_vocabulary.specs.declared.terminal.Terminal.TheVariants.{Name, Keyword, Punctuator}
use Rattle.qs_base.specs.declared.keyword.Keyword.TheVariants as keywords
use Rattle.qs_syntax_vocabulary.specs.declared.punctuator.Punctuator.TheVariants as punctuators
use Rattle.qs_syntax_vocabulary.specs.Marks.{NameSet, marked}
use Rattle.qs_syntax.specs.declared.types.Base.{Base}
use Rattle.qs_syntax.specs.Trees.{unnumbered, DeclaratorTree, MembersTree, ParameterTree, DeclarationTree, Stmts, DefinedTree, of_struct, of_base, DeclTree, structure, forward, typedef, function, variables}
use Rattle.qs_syntax.specs.ReadsTypes.{Any, ReadsName, ReadsType, ReadsOuterType, ReadsStars}
use Rattle.qs_syntax.specs.Reads.{place}
use Rattle.qs_syntax.specs.ReadsDeclarations.{ReadsDeclarator, ReadsAllMembers, ReadsHead, ReadsOuterDeclaration}
use Rattle.qs_syntax.specs.ReadsStatements.{ReadsItems}

-- ---- where names are marked

-- an external that declares no type names
pub data ReadsPlain : ℕ → List Terminal → DeclTree → Type 0 where
  -- "struct" ANYNAME "{" member { member } "}" ";"
  a_struct_with_members : {h n : ℕ} {t : Terminal} {ts : List Terminal} {x : List ℕ} {ms : List MembersTree} (at o c s : ℕ) → ReadsName Any t n x → ReadsAllMembers h ts ms
      → ReadsPlain (suc h) (Keyword at keywords.Struct ∷ t ∷ Punctuator o punctuators.OpenBrace ∷ (ts ++ Punctuator c punctuators.CloseBrace ∷ Punctuator s punctuators.Semicolon ∷ [])) (structure (record { node = unnumbered at; name = Some x; members = ms }))
  -- "struct" ANYNAME ";"
  a_forward : {n : ℕ} {t : Terminal} {x : List ℕ} (at s : ℕ) → ReadsName Any t n x → ReadsPlain 1 (Keyword at keywords.Struct ∷ t ∷ Punctuator s punctuators.Semicolon ∷ []) (forward (record { node = unnumbered at; name = x }))
  -- spec stars NAME "(" params ")" ";"
  a_header : {h m : ℕ} {xs ys zs : List Terminal} {base : Base} {ps : List ParameterTree} (n o c s : ℕ) (x : List ℕ) → ReadsOuterType xs base → ReadsStars ys m → ReadsHead h zs ps
      → ReadsPlain (suc h) (xs ++ (ys ++ Name n x ∷ Punctuator o punctuators.OpenParenthesis ∷ (zs ++ Punctuator c punctuators.CloseParenthesis ∷ Punctuator s punctuators.Semicolon ∷ [])))
      (function (record { node = unnumbered (place xs); result_type = record { base = base; stars = m }; name = x; parameters = ps; body = None }))
  -- spec stars NAME "(" params ")" block
  a_definition : {h k m : ℕ} {xs ys zs ws : List Terminal} {base : Base} {ps : List ParameterTree} {ss : Stmts} (n o c b e : ℕ) (x : List ℕ) → ReadsOuterType xs base → ReadsStars ys m → ReadsHead h zs ps → ReadsItems k ws ss
      → ReadsPlain (suc (max h (suc k))) (xs ++ (ys ++ Name n x ∷ Punctuator o punctuators.OpenParenthesis ∷ (zs ++ Punctuator c punctuators.CloseParenthesis ∷ Punctuator b punctuators.OpenBrace ∷ (ws ++ Punctuator e punctuators.CloseBrace ∷ []))))
      (function (record { node = unnumbered (place xs); result_type = record { base = base; stars = m }; name = x; parameters = ps; body = Some ss }))
  -- spec init { "," init } ";"
  some_variables : {h : ℕ} {ts : List Terminal} {d : DeclarationTree} → ReadsOuterDeclaration h ts d → ReadsPlain h ts (variables d)

-- sdef | lspec, where sdef = "struct" [ ANYNAME ] "{" member { member } "}"
pub data ReadsDefined : ℕ → List Terminal → DefinedTree → Type 0 where
  a_struct_with_tag : {h n : ℕ} {t : Terminal} {ts : List Terminal} {x : List ℕ} {ms : List MembersTree} (at o c : ℕ) → ReadsName Any t n x → ReadsAllMembers h ts ms
      → ReadsDefined (suc h) (Keyword at keywords.Struct ∷ t ∷ Punctuator o punctuators.OpenBrace ∷ (ts ++ Punctuator c punctuators.CloseBrace ∷ [])) (of_struct (record { node = unnumbered at; name = Some x; members = ms }))
  a_struct_without_tag : {h : ℕ} {ts : List Terminal} {ms : List MembersTree} (at o c : ℕ) → ReadsAllMembers h ts ms
      → ReadsDefined (suc h) (Keyword at keywords.Struct ∷ Punctuator o punctuators.OpenBrace ∷ (ts ++ Punctuator c punctuators.CloseBrace ∷ [])) (of_struct (record { node = unnumbered at; name = None; members = ms }))
  a_known_type : {ts : List Terminal} {base : Base} → ReadsType ts base → ReadsDefined 0 ts (of_base base)

-- ---- where a set says which names are types'

-- the set, with the names that these declare
abbrev pub with_names : NameSet → List DeclaratorTree → NameSet
with_names set [] = set
with_names set (d ∷ ds) = with_names (d.name ∷ set) ds

-- the set behind an external
abbrev pub names_behind : NameSet → DeclTree → NameSet
names_behind set (structure s) = set
names_behind set (forward f) = set
names_behind set (typedef t) = with_names set t.names
names_behind set (function f) = set
names_behind set (variables d) = set

-- tname { "," tname }, where tname = stars ANYNAME dims; each is a node, and adds its name to the set at its end
pub data ReadsTypeNames : NameSet → ℕ → List Terminal → List DeclaratorTree → Type 0 where
  a_last_name : {set : NameSet} {h : ℕ} {ts : List Terminal} {d : DeclaratorTree} → ReadsDeclarator Any h (marked set ts) d → ReadsTypeNames set (suc h) ts (d ∷ [])
  a_name_before : {set : NameSet} {h k : ℕ} {ys : List Terminal} {d : DeclaratorTree} {ds : List DeclaratorTree} (xs : List Terminal) (at : ℕ) → ReadsDeclarator Any h (marked set xs) d → ReadsTypeNames (d.name ∷ set) k ys ds
      → ReadsTypeNames set (max (suc h) k) (xs ++ Punctuator at punctuators.Comma ∷ ys) (d ∷ ds)

pub data ReadsExternal : NameSet → ℕ → List Terminal → DeclTree → Type 0 where
  a_plain_external : {set : NameSet} {h : ℕ} {ts : List Terminal} {d : DeclTree} → ReadsPlain h (marked set ts) d → ReadsExternal set h ts d
  -- "typedef" [ sdef | lspec ] tname { "," tname } ";", with exactly one of the two
  a_typedef : {set : NameSet} {h k : ℕ} {ys : List Terminal} {defined : DefinedTree} {ds : List DeclaratorTree} (xs : List Terminal) (at s : ℕ) → ReadsDefined h (marked set xs) defined → ReadsTypeNames set k ys ds
      → ReadsExternal set (max h k) (Keyword at keywords.Typedef ∷ (xs ++ (ys ++ Punctuator s punctuators.Semicolon ∷ []))) (typedef (record { defined = defined; names = ds }))

-- external { external }; the height of the highest
pub data ReadsExternals : NameSet → ℕ → List Terminal → List DeclTree → Type 0 where
  a_last_external : {set : NameSet} {h : ℕ} {ts : List Terminal} {d : DeclTree} → ReadsExternal set h ts d → ReadsExternals set h ts (d ∷ [])
  an_external : {set : NameSet} {h k : ℕ} {xs ys : List Terminal} {d : DeclTree} {ds : List DeclTree} → ReadsExternal set h xs d → ReadsExternals (names_behind set d) k ys ds → ReadsExternals set (max h k) (xs ++ ys) (d ∷ ds)

-- unit = external { external }, where no name is a type's before
abbrev pub ReadsUnit : ℕ → List Terminal → List DeclTree → Type 0
ReadsUnit = ReadsExternals []
