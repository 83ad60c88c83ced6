-- The names that well-formed tokens declare as types' aren't empty, so no set of them marks the empty name.
use Rattle.std.proofs.Common.{◌≡◌, ℕ, Bool, true, false, true≢false, cond, List, [], ◌∷◌, ◌++◌, refl, sym, ap, ◌∙◌}
use Rattle.std.specs.Prelude.{bytes_eq}
use Rattle.std.specs.List.{list_all}
use Rattle.std.proofs.lemmas.Bool.{and_parts, and_from, or_from}
use Rattle.qs_base.specs.Names.{is_name}
use Rattle.qs_syntax_vocabulary.specs.declared.terminal.Terminal.{Terminal}
use Rattle.qs_syntax_vocabulary.specs.declared.terminal.Terminal.TheVariants.{Name, TypeName, Keyword, Constant, Text, Punctuator}
use Rattle.qs_syntax_vocabulary.specs.declared.punctuator.Punctuator.TheVariants as punctuators
use Rattle.qs_syntax_vocabulary.specs.WellFormed.{is_well_formed}
use Rattle.qs_syntax_vocabulary.specs.Marks.{NameSet, is_in, mark, marked}
use Rattle.qs_syntax.specs.Trees.{DeclaratorTree, DeclTree}
use Rattle.qs_syntax.specs.ReadsTypes.{Names, Any, ReadsName, a_plain_name, a_name_of_a_type}
use Rattle.qs_syntax.specs.ReadsDeclarations.{ReadsDeclarator, a_declarator}
use Rattle.qs_syntax.specs.ReadsUnits.{ReadsPlain, a_struct_with_members, a_forward, a_header, a_definition, some_variables, ReadsExternal, a_plain_external, a_typedef, ReadsTypeNames, a_last_name, a_name_before, with_names, names_behind}

-- well-formed tokens are so in each part
pub formed_parts : (xs ys : List Terminal) → list_all is_well_formed (xs ++ ys) ≡ true → (list_all is_well_formed xs ≡ true) × (list_all is_well_formed ys ≡ true)
formed_parts [] ys e = (refl, e)
formed_parts (x ∷ xs) ys e =
    let parts = and_parts (is_well_formed x) (list_all is_well_formed (xs ++ ys)) e in
    let further = formed_parts xs ys parts.1 in
    (and_from (is_well_formed x) (list_all is_well_formed xs) parts.0 further.0, further.1)

mark_formed : (set : NameSet) (t : Terminal) → is_well_formed (mark set t) ≡ is_well_formed t
mark_formed set (Name at x) = by_case (is_in set x)
  where
    by_case : (b : Bool) → is_well_formed (cond b (TypeName at x) (Name at x)) ≡ is_name x
    by_case true = refl
    by_case false = refl
mark_formed set (TypeName at x) = by_case (is_in set x)
  where
    by_case : (b : Bool) → is_well_formed (cond b (TypeName at x) (Name at x)) ≡ is_name x
    by_case true = refl
    by_case false = refl
mark_formed set (Keyword at k) = refl
mark_formed set (Constant at n unsigned) = refl
mark_formed set (Text at bytes) = refl
mark_formed set (Punctuator at m) = refl

marked_formed : (set : NameSet) (ts : List Terminal) → list_all is_well_formed ts ≡ true → list_all is_well_formed (marked set ts) ≡ true
marked_formed set [] e = refl
marked_formed set (t ∷ ts) e =
    let parts = and_parts (is_well_formed t) (list_all is_well_formed ts) e in
    and_from (is_well_formed (mark set t)) (list_all is_well_formed (marked set ts)) (mark_formed set t ∙ parts.0) (marked_formed set ts parts.1)

some_name : (x : List ℕ) → is_name x ≡ true → bytes_eq [] x ≡ false
unfolding is_name
some_name [] e = absurd (true≢false (sym e))
some_name (b ∷ x) e = refl

name_formed : {names : Names} {t : Terminal} {at : ℕ} {x : List ℕ} → ReadsName names t at x → is_well_formed t ≡ true → is_name x ≡ true
name_formed (a_plain_name at x) e = e
name_formed (a_name_of_a_type at x) e = e

declared_formed : {names : Names} {h : ℕ} {ts : List Terminal} {d : DeclaratorTree} → ReadsDeclarator names h ts d → list_all is_well_formed ts ≡ true → is_name d.name ≡ true
declared_formed (a_declarator {xs = xs} {ys = ys} {t = t} s name r) e = name_formed name (and_parts (is_well_formed t) (list_all is_well_formed ys) (formed_parts xs (t ∷ ys) e).1).0

-- a declared name isn't empty
pub name_some : {h : ℕ} {d : DeclaratorTree} (set : NameSet) (ts : List Terminal) → ReadsDeclarator Any h (marked set ts) d → list_all is_well_formed ts ≡ true → bytes_eq [] d.name ≡ false
name_some {d = d} set ts r e = some_name d.name (declared_formed r (marked_formed set ts e))

names_none : {set : NameSet} {h : ℕ} {ts : List Terminal} {ds : List DeclaratorTree} → ReadsTypeNames set h ts ds → list_all is_well_formed ts ≡ true → is_in set [] ≡ false → is_in (with_names set ds) [] ≡ false
names_none {set} (a_last_name {ts = ts} {d = d} r) e none = or_from (bytes_eq [] d.name) (is_in set []) (name_some set ts r e) none
names_none {set} (a_name_before {ys = ys} {d = d} xs at r s) e none =
    let parts = formed_parts xs (Punctuator at punctuators.Comma ∷ ys) e in
    names_none s parts.1 (or_from (bytes_eq [] d.name) (is_in set []) (name_some set xs r parts.0) none)

-- a plain external declares no names of types
pub plain_names : {h : ℕ} {ts : List Terminal} {d : DeclTree} → ReadsPlain h ts d → (set : NameSet) → names_behind set d ≡ set
plain_names (a_struct_with_members at o c s name r) set = refl
plain_names (a_forward at s name) set = refl
plain_names (a_header n o c s x t q r) set = refl
plain_names (a_definition n o c b e x t q r z) set = refl
plain_names (some_variables r) set = refl

-- behind an external the empty name is no type's, as before it
pub still_none : {set : NameSet} {h : ℕ} {ts : List Terminal} {d : DeclTree} → ReadsExternal set h ts d → list_all is_well_formed ts ≡ true → is_in set [] ≡ false → is_in (names_behind set d) [] ≡ false
still_none {set} (a_plain_external r) e none = ap (λ s. is_in s []) (plain_names r set) ∙ none
still_none (a_typedef {ys = ys} xs at s r q) e none = names_none q (formed_parts ys (Punctuator s punctuators.Semicolon ∷ []) (formed_parts xs (ys ++ Punctuator s punctuators.Semicolon ∷ []) e).1).0 none
