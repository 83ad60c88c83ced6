-- The names of a unit's functions are tokens of its text, each of its own bytes.
use Rattle.std.proofs.Common.{◌≡◌, ℕ, ◌+◌, ◌-◌, ◌≤◌, Bool, true, false, if◌then◌else◌, List, [], ◌∷◌, ◌++◌, Option, Some, None, length, drop, All, refl, ap, sym, ◌∙◌, arith}
use Rattle.std.specs.Prelude.{sum_by}
use Rattle.std.proofs.lemmas.List.{length-take}
use Rattle.std.proofs.lemmas.List.Elements.{All-head, All-tail}
use Rattle.std.proofs.lemmas.List.Sums.{sum_by-cons, sum_by-append}
use Rattle.qs_syntax_vocabulary.specs.declared.terminal.Terminal.{Terminal}
use Rattle.qs_syntax_vocabulary.specs.declared.terminal.Terminal.TheVariants.{Name, TypeName, Keyword, Constant, Text, Punctuator}
use Rattle.qs_syntax_vocabulary.specs.declared.tokens.Token.{Token}
use Rattle.qs_syntax_vocabulary.specs.declared.tokens.TokenKind.{TokenKind}
use Rattle.qs_syntax_vocabulary.specs.declared.tokens.TokenKind.TheVariants as kinds
use Rattle.qs_syntax_vocabulary.specs.declared.punctuator.Punctuator.TheVariants as punctuators
use Rattle.qs_syntax.specs.Nodes.{all_count, decl_count, parameter_count}
use Rattle.qs_syntax.specs.Numbering.{Relabelling, relabel_all, relabel_decl, relabel_option, relabel_stmts, numbered}
use Rattle.qs_syntax_vocabulary.specs.Marks.{NameSet, is_in, mark, marked}
use Rattle.qs_syntax.specs.ReadsUnits.{ReadsPlain, a_struct_with_members, a_forward, a_header, a_definition, some_variables, ReadsExternal, a_plain_external, a_typedef, ReadsExternals, a_last_external, an_external}
use Rattle.qs_syntax.specs.Trees.{Stmts, DeclTree, structure, forward, function, variables, UnitTree, typedef}
use Rattle.qs_lexer.specs.Laws.{InOrder, IsTokenOf, spelling}
use Rattle.qs_lexer.specs.Terminals.{terminal, terminal_of, terminals}
use Rattle.qs_lexer.proofs.TokenLaws.{in_order, tokens_of}
use Rattle.qs_meaning.specs.Units.{name_with_body, functions_in}
use Rattle.qs_compile.specs.Names.{name_bytes_in, NamesAreOfTheText}

-- ---- the names among terminals, by their bytes

abbrev name_length : Terminal → ℕ
name_length (Name at x) = length x
name_length (TypeName at x) = length x
name_length (Keyword at k) = 0
name_length (Constant at n unsigned) = 0
name_length (Text at bytes) = 0
name_length (Punctuator at m) = 0

abbrev name_lengths : List Terminal → ℕ
name_lengths ts = sum_by name_length ts

with_first : (t : Terminal) (ts : List Terminal) → name_lengths (t ∷ ts) ≡ name_length t + name_lengths ts
with_first t ts = sum_by-cons name_length t ts

both : (xs ys : List Terminal) → name_lengths (xs ++ ys) ≡ name_lengths xs + name_lengths ys
both xs ys = sum_by-append name_length xs ys

-- ---- the names of a unit's functions are among them

-- the name of the function, where the declaration is one with a body
abbrev pub own_names : DeclTree → List (List ℕ)
own_names (structure s) = []
own_names (forward f) = []
own_names (typedef f) = []
own_names (function f) = name_with_body f.name f.body
own_names (variables d) = []

pub own_and_others : (d : DeclTree) (ds : UnitTree) → functions_in (d ∷ ds) ≡ own_names d ++ functions_in ds
own_and_others (structure s) ds = refl
own_and_others (forward f) ds = refl
own_and_others (typedef f) ds = refl
own_and_others (function f) ds = refl
own_and_others (variables d) ds = refl

-- whatever names are types'
marked_lengths : (set : NameSet) (ts : List Terminal) → name_lengths (marked set ts) ≡ name_lengths ts
marked_lengths set [] = refl
marked_lengths set (t ∷ ts) =
    let rest = marked_lengths set ts in
    let one = same t in
    let here = with_first t ts in
    let there = with_first (mark set t) (marked set ts) in
    omega (arith, rest, one, here, there)
  where
    named : (b : Bool) (at : ℕ) (x : List ℕ) → name_length (if b then TypeName at x else Name at x) ≡ length x
    named true at x = refl
    named false at x = refl

    same : (t : Terminal) → name_length (mark set t) ≡ name_length t
    same (Name at x) = named (is_in set x) at x
    same (TypeName at x) = named (is_in set x) at x
    same (Keyword at k) = refl
    same (Constant at n unsigned) = refl
    same (Text at bytes) = refl
    same (Punctuator at m) = refl

plain_read : {h : ℕ} {ts : List Terminal} {d : DeclTree} → ReadsPlain h ts d → sum_by length (own_names d) ≤ name_lengths ts
plain_read (a_struct_with_members at o c s x r) = omega arith
plain_read (a_forward at s x) = omega arith
plain_read (a_header n o c s x t m r) = omega arith
plain_read (a_definition {xs = xs} {ys = ys} {zs = zs} {ws = ws} n o c b e x t m r q) =
    let behind : List Terminal =
    Punctuator o punctuators.OpenParenthesis
    ∷ (zs ++ Punctuator c punctuators.CloseParenthesis ∷ Punctuator b punctuators.OpenBrace ∷ (ws ++ Punctuator e punctuators.CloseBrace ∷ [])) in
    let own = sum_by-cons length x [] in
    let before = both xs (ys ++ Name n x ∷ behind) in
    let stars = both ys (Name n x ∷ behind) in
    let name = with_first (Name n x) behind in
    omega (arith, own, before, stars, name)
plain_read (some_variables r) = omega arith

own_read : {set : NameSet} {h : ℕ} {ts : List Terminal} {d : DeclTree} → ReadsExternal set h ts d → sum_by length (own_names d) ≤ name_lengths ts
own_read (a_plain_external {set = set} {ts = ts} r) =
    let read = plain_read r in
    let same = marked_lengths set ts in
    omega (arith, read, same)
own_read (a_typedef xs at s defined names) = omega arith

pub names_read : {set : NameSet} {h : ℕ} {ts : List Terminal} {ds : List DeclTree} → ReadsExternals set h ts ds → name_bytes_in ds ≤ name_lengths ts
names_read (a_last_external {d = d} r) =
    let names = ap (sum_by length) (own_and_others d []) in
    let sum = sum_by-append length (own_names d) [] in
    let own = own_read r in
    omega (arith, names, sum, own)
names_read (an_external {xs = xs} {ys = ys} {d = d} {ds = ds} r s) =
    let names = ap (sum_by length) (own_and_others d ds) in
    let sum = sum_by-append length (own_names d) (functions_in ds) in
    let own = own_read r in
    let others = names_read s in
    let tokens = both xs ys in
    omega (arith, names, sum, own, others, tokens)

-- ---- the numbers of nodes don't matter

same_body : (f : Relabelling) (n : ℕ) (d : DeclTree) → own_names (relabel_decl f n d) ≡ own_names d
same_body f n (structure s) = refl
same_body f n (forward d) = refl
same_body f n (typedef d) = refl
same_body f n (function d) = by d.body
  where
    by : (o : Option Stmts) → name_with_body d.name (relabel_option (relabel_stmts f) (f.onward (f.onward n 1) (all_count parameter_count d.parameters)) o) ≡ name_with_body d.name o
    by None = refl
    by (Some body) = refl
same_body f n (variables d) = refl

same_names : (f : Relabelling) (n : ℕ) (ds : List DeclTree) → functions_in (relabel_all f decl_count (relabel_decl f) n ds) ≡ functions_in ds
same_names f n [] = refl
same_names f n (d ∷ ds) =
    own_and_others (relabel_decl f n d) _
    ∙ ap (λ (names : List (List ℕ)). names ++ functions_in (relabel_all f decl_count (relabel_decl f) (f.onward n (decl_count d)) ds)) (same_body f n d)
    ∙ ap (λ (names : List (List ℕ)). own_names d ++ names) (same_names f (f.onward n (decl_count d)) ds)
    ∙ sym (own_and_others d ds)

-- ---- tokens stand one behind the other

name_is_spelled : (at : ℕ) (bytes : List ℕ) (kind : TokenKind) → name_length (terminal_of at bytes kind) ≤ length bytes
name_is_spelled at bytes kinds.Name = omega arith
name_is_spelled at bytes (kinds.Keyword keyword) = omega arith
name_is_spelled at bytes (kinds.Number value unsigned) = omega arith
name_is_spelled at bytes (kinds.Character value) = omega arith
name_is_spelled at bytes kinds.Text = omega arith
name_is_spelled at bytes (kinds.Punctuator punctuator) = omega arith

names_between : (text : List ℕ) (from to at : ℕ) (tokens : List Token) → InOrder from tokens to → All (IsTokenOf text) tokens → from + name_lengths (terminals text at tokens) ≤ to
names_between text from to at [] order all = omega (arith, order)
names_between text from to at (t ∷ ts) order all =
    let sum = with_first (terminal text at t) (terminals text (at + 1) ts) in
    let own = name_is_spelled at (spelling text t) t.kind in
    let bytes = length-take (t.end - t.start) (drop t.start text) in
    let some = (All-head (IsTokenOf text) t ts all).some in
    let others = names_between text t.end to (at + 1) ts order.1 (All-tail (IsTokenOf text) t ts all) in
    let first : from ≤ t.start = order.0 in
    omega (arith, sum, own, bytes, some, others, first)

-- ---- a text

pub names_are_of_the_text : NamesAreOfTheText
names_are_of_the_text text tokens height unit are_tokens reads =
    let same = ap (sum_by length) (same_names numbered 0 unit) in
    let read = names_read reads in
    let within = names_between text 0 (length text) 0 tokens (in_order text tokens are_tokens) (tokens_of text tokens are_tokens) in
    omega (arith, same, read, within)
