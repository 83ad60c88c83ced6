-- The printed terminals of a unit that was read are read as that unit again, no higher.
use Rattle.std.proofs.Common.{◌≡◌, ℕ, suc, ◌+◌, List, [], ◌∷◌, ◌++◌, length, flat_map, Some, None, refl, sym, ap, subst, ◌∙◌, append-nil, arith}
use Rattle.std.specs.Prelude.{max}
use Rattle.qs_syntax_vocabulary.specs.declared.terminal.Terminal.{Terminal}
use Rattle.qs_syntax_vocabulary.specs.declared.terminal.Terminal.TheVariants.{Name, Punctuator}
use Rattle.qs_syntax_vocabulary.specs.declared.punctuator.Punctuator.TheVariants as punctuators
use Rattle.qs_syntax.specs.Trees.{unnumbered, DeclaratorTree, MembersTree, ParameterTree, Stmts, DefinedTree, of_struct, of_base, DeclTree, structure, forward, function, variables, typedef}
use Rattle.qs_syntax.specs.Reads.{place}
use Rattle.qs_syntax.specs.ReadsDeclarations.{ReadsAllMembers, ReadsDeclarator, ReadsHead, ReadsOuterDeclaration}
use Rattle.qs_syntax.specs.ReadsStatements.{ReadsItems}
use Rattle.qs_syntax.specs.ReadsTypes.{Any}
use Rattle.qs_syntax.specs.ReadsUnits.{ReadsPlain, a_struct_with_members, a_forward, a_header, a_definition, some_variables, ReadsDefined, a_struct_with_tag, a_struct_without_tag, a_known_type, with_names, names_behind, ReadsTypeNames, a_last_name, a_name_before, ReadsExternal, a_plain_external, a_typedef, ReadsExternals, a_last_external, an_external}
use Rattle.qs_syntax.specs.Nodes.{declarator_count, members_count, parameter_count}
use Rattle.qs_syntax.specs.Numbering.{bare, Relabelling, relabel_all, relabel_declarator, relabel_defined, relabel_members, relabel_parameter}
use Rattle.qs_print.specs.Laws.{renumbered}
use Rattle.qs_print.specs.Printed.{behind_commas, with_commas, in_parentheses, printed_base, printed_decl, printed_declaration, printed_declarator, printed_defined, printed_members, printed_parameters, printed_stars, printed_stmts, printed_unit}
use Rattle.qs_syntax.specs.WithoutTokens.{plain_decl, plain_declaration, plain_declarator, plain_stmts, without_tokens}
use Rattle.qs_syntax_vocabulary.specs.Marks.{NameSet}
use Rattle.qs_print.proofs.PrintedTerminals.{left, right}
use Rattle.qs_print.proofs.Rereading.{all_plain, fits, Fit, marked_fit, not_in, behind_it, any_name, Again, Reread, seen, renumbered_append, seen_append, closing, behind, enclosed, known_type, known_outer_type, type_reads, outer_type_reads, stars_read}
use Rattle.qs_print.proofs.RereadDeclarations.{all_members_law, declarator_law, head_law, outer_declaration_law}
use Rattle.qs_print.proofs.RereadStatements.{items_law}

module _ (set : NameSet) where
  abbrev at_head : (h n : ℕ) (ps : List ParameterTree) → Type 0
  at_head h n ps = Again ReadsHead (all_plain parameter_count (relabel_parameter bare)) h (seen set n (printed_parameters ps)) ps

  abbrev at_all_members : (h n : ℕ) (ms : List MembersTree) → Type 0
  at_all_members h n ms = Again ReadsAllMembers (all_plain members_count (relabel_members bare)) h (seen set n (flat_map printed_members ms)) ms

  abbrev at_items : (h n : ℕ) (ss : Stmts) → Type 0
  at_items h n ss = Again ReadsItems plain_stmts h (seen set n (printed_stmts ss)) ss

  plain_law : {h : ℕ} {ts : List Terminal} {d : DeclTree} → ReadsPlain h ts d → Fit set ts → Reread set ReadsPlain plain_decl h (printed_decl d) d
  plain_law (a_struct_with_members {h = h} {t = t} {ts = ts} {x = x} {ms = ms} at o c s named r) f = record {
    from = λ n.
        let close : List Terminal = Punctuator c punctuators.CloseBrace ∷ Punctuator s punctuators.Semicolon ∷ [] in
        let i : ℕ = n + 1 + 1 + 1 in
        let j : ℕ = i + length (flat_map printed_members ms) in
        let p : at_all_members h i ms = (all_members_law set r (left (fits set) ts close (behind_it set t (Punctuator o punctuators.OpenBrace ∷ (ts ++ close)) f))).from i in
        rw (closing set i punctuators.CloseBrace (flat_map printed_members ms) (Punctuator 0 punctuators.Semicolon ∷ []))
        (record { height = suc p.height; tree = structure (record { node = unnumbered n; name = Some x; members = p.tree }); reads = a_struct_with_members n (n + 1 + 1) j (j + 1) (any_name set (n + 1) x) p.reads; low = omega arith; same = rw p.same refl });
  }
  plain_law (a_forward {x = x} at s named) f = record {
    from = λ n.
        record { height = 1; tree = forward (record { node = unnumbered n; name = x }); reads = a_forward n (n + 1 + 1) (any_name set (n + 1) x); low = omega arith; same = refl };
  }
  plain_law (a_header {h = h} {m = count} {xs = xs} {ys = ys} {zs = zs} {base = base} {ps = ps} m o c s x t v r) f = record {
    from = λ n.
        let rest = right (fits set) ys _ (right (fits set) xs _ f) in
        let after : List Terminal = Punctuator c punctuators.CloseParenthesis ∷ Punctuator s punctuators.Semicolon ∷ [] in
        let inner : List Terminal = Punctuator o punctuators.OpenParenthesis ∷ (zs ++ after) in
        let inside = behind_it set (Name m x) inner rest in
        let i : ℕ = n + length (printed_base base) in
        let j : ℕ = i + length (printed_stars count) in
        let p : at_head h (j + 1 + 1) ps = (head_law set r (left (fits set) zs after inside)).from (j + 1 + 1) in
        rw (
          seen_append set n (printed_base base) (printed_stars count ++ Name 0 x ∷ (in_parentheses (printed_parameters ps) ++ Punctuator 0 punctuators.Semicolon ∷ [])),
          seen_append set i (printed_stars count) (Name 0 x ∷ (in_parentheses (printed_parameters ps) ++ Punctuator 0 punctuators.Semicolon ∷ [])),
          enclosed set (j + 1) (printed_parameters ps) (Punctuator 0 punctuators.Semicolon ∷ []),
          not_in set m x inner rest,
        )
        (record {
          height = suc p.height;
          tree = function (record { node = unnumbered (place (seen set n (printed_base base))); result_type = record { base = base; stars = count }; name = x; parameters = p.tree; body = None });
          reads = a_header j (j + 1) (j + 1 + 1 + length (printed_parameters ps)) (behind (j + 1) (printed_parameters ps)) x (outer_type_reads base (known_outer_type set t (left (fits set) xs _ f)) n) (stars_read set count i) p.reads;
          low = omega arith;
          same = rw p.same refl;
        });
  }
  plain_law (a_definition {h = h} {k = k} {m = count} {xs = xs} {ys = ys} {zs = zs} {ws = ws} {base = base} {ps = ps} {ss = ss} m o c b e x t v r w) f = record {
    from = λ n.
        let rest = right (fits set) ys _ (right (fits set) xs _ f) in
        let close : List Terminal = Punctuator e punctuators.CloseBrace ∷ [] in
        let after : List Terminal = Punctuator c punctuators.CloseParenthesis ∷ Punctuator b punctuators.OpenBrace ∷ (ws ++ close) in
        let inner : List Terminal = Punctuator o punctuators.OpenParenthesis ∷ (zs ++ after) in
        let inside = behind_it set (Name m x) inner rest in
        let i : ℕ = n + length (printed_base base) in
        let j : ℕ = i + length (printed_stars count) in
        let l : ℕ = behind (j + 1) (printed_parameters ps) in
        let p : at_head h (j + 1 + 1) ps = (head_law set r (left (fits set) zs after inside)).from (j + 1 + 1) in
        let q : at_items k (l + 1) ss = (items_law set w (left (fits set) ws close (right (fits set) zs after inside))).from (l + 1) in
        let body : List Terminal = Punctuator 0 punctuators.OpenBrace ∷ (printed_stmts ss ++ Punctuator 0 punctuators.CloseBrace ∷ []) in
        rw (
          seen_append set n (printed_base base) (printed_stars count ++ Name 0 x ∷ (in_parentheses (printed_parameters ps) ++ body)),
          seen_append set i (printed_stars count) (Name 0 x ∷ (in_parentheses (printed_parameters ps) ++ body)),
          enclosed set (j + 1) (printed_parameters ps) body,
          seen_append set (l + 1) (printed_stmts ss) (Punctuator 0 punctuators.CloseBrace ∷ []),
          not_in set m x inner rest,
        )
        (record {
          height = suc (max p.height (suc q.height));
          tree = function (record { node = unnumbered (place (seen set n (printed_base base))); result_type = record { base = base; stars = count }; name = x; parameters = p.tree; body = Some q.tree });
          reads = a_definition j (j + 1) (j + 1 + 1 + length (printed_parameters ps)) l (l + 1 + length (printed_stmts ss)) x (outer_type_reads base (known_outer_type set t (left (fits set) xs _ f)) n) (stars_read set count i) p.reads q.reads;
          low = omega arith;
          same = rw (p.same, q.same) refl;
        });
  }
  plain_law (some_variables {h = h} {d = d} r) f = record {
    from = λ n.
        let p : Again ReadsOuterDeclaration plain_declaration h (seen set n (printed_declaration d)) d = (outer_declaration_law set r f).from n in
        record { height = p.height; tree = variables p.tree; reads = some_variables p.reads; low = p.low; same = ap variables p.same };
  }

  defined_law : {h : ℕ} {ts : List Terminal} {d : DefinedTree} → ReadsDefined h ts d → Fit set ts → Reread set ReadsDefined (relabel_defined bare 0) h (printed_defined d) d
  defined_law (a_struct_with_tag {h = h} {t = t} {ts = ts} {x = x} {ms = ms} at o c named r) f = record {
    from = λ n.
        let close : List Terminal = Punctuator c punctuators.CloseBrace ∷ [] in
        let i : ℕ = n + 1 + 1 + 1 in
        let p : at_all_members h i ms = (all_members_law set r (left (fits set) ts close (behind_it set t (Punctuator o punctuators.OpenBrace ∷ (ts ++ close)) f))).from i in
        rw (seen_append set i (flat_map printed_members ms) (Punctuator 0 punctuators.CloseBrace ∷ []))
        (record { height = suc p.height; tree = of_struct (record { node = unnumbered n; name = Some x; members = p.tree }); reads = a_struct_with_tag n (n + 1 + 1) (i + length (flat_map printed_members ms)) (any_name set (n + 1) x) p.reads; low = omega arith; same = rw p.same refl });
  }
  defined_law (a_struct_without_tag {h = h} {ts = ts} {ms = ms} at o c r) f = record {
    from = λ n.
        let i : ℕ = n + 1 + 1 in
        let p : at_all_members h i ms = (all_members_law set r (left (fits set) ts _ f)).from i in
        rw (seen_append set i (flat_map printed_members ms) (Punctuator 0 punctuators.CloseBrace ∷ []))
        (record { height = suc p.height; tree = of_struct (record { node = unnumbered n; name = None; members = p.tree }); reads = a_struct_without_tag n (n + 1) (i + length (flat_map printed_members ms)) p.reads; low = omega arith; same = rw p.same refl });
  }
  defined_law (a_known_type {base = base} t) f = record {
    from = λ n. record { height = 0; tree = of_base base; reads = a_known_type (type_reads base (known_type set t f) n); low = omega arith; same = refl };
  }

-- ---- the names that are types' behind a tree are those behind it without the numbers

names_with : (f : Relabelling) (set : NameSet) (n : ℕ) (ds : List DeclaratorTree) → with_names set (relabel_all f declarator_count (relabel_declarator f) n ds) ≡ with_names set ds
names_with f set n [] = refl
names_with f set n (d ∷ ds) = names_with f (d.name ∷ set) (f.onward n (declarator_count d)) ds

names_of : (set : NameSet) (d : DeclTree) → names_behind set (plain_decl d) ≡ names_behind set d
names_of set (structure s) = refl
names_of set (forward d) = refl
names_of set (typedef t) = names_with bare set _ t.names
names_of set (function d) = refl
names_of set (variables d) = refl

same_names : (set : NameSet) (d e : DeclTree) → plain_decl d ≡ plain_decl e → names_behind set d ≡ names_behind set e
same_names set d e same = sym (names_of set d) ∙ ap (names_behind set) same ∙ names_of set e

-- ---- where a set says which names are types'

abbrev at_names : (set : NameSet) (h n : ℕ) (ds : List DeclaratorTree) → Type 0
at_names set h n ds = Again (ReadsTypeNames set) (all_plain declarator_count (relabel_declarator bare)) h (renumbered n (with_commas printed_declarator ds)) ds

some_names : {set : NameSet} {h : ℕ} {ts : List Terminal} {ds : List DeclaratorTree} → ReadsTypeNames set h ts ds → ds ≡ [] → ⊥
some_names (a_last_name r) e = cc
some_names (a_name_before xs at r s) e = cc

names_law : {set : NameSet} {h : ℕ} {ts : List Terminal} {ds : List DeclaratorTree} → ReadsTypeNames set h ts ds → (n : ℕ) → at_names set h n ds
names_law {set} (a_last_name {h = h} {ts = ts} {d = d} r) n =
    let p : Again (ReadsDeclarator Any) plain_declarator h (seen set n (printed_declarator d)) d = (declarator_law set r (marked_fit set ts)).from n in
    rw (append-nil (printed_declarator d)) (record { height = suc p.height; tree = p.tree ∷ []; reads = a_last_name {ts = renumbered n (printed_declarator d)} p.reads; low = omega arith; same = rw p.same refl })
names_law (a_name_before {ds = []} xs at r s) n = absurd (some_names s refl)
names_law {set} (a_name_before {h = h} {k = k} {d = d} {ds = e ∷ es} xs at r s) n =
    let m : ℕ = n + length (printed_declarator d) in
    let p : Again (ReadsDeclarator Any) plain_declarator h (seen set n (printed_declarator d)) d = (declarator_law set r (marked_fit set xs)).from n in
    let q : at_names (d.name ∷ set) k (m + 1) (e ∷ es) = names_law s (m + 1) in
    let name : p.tree.name ≡ d.name = ap (λ (c : DeclaratorTree). c.name) p.same in
    let further : ReadsTypeNames (p.tree.name ∷ set) q.height (renumbered (m + 1) (with_commas printed_declarator (e ∷ es))) q.tree = subst (λ x. ReadsTypeNames (x ∷ set) q.height (renumbered (m + 1) (with_commas printed_declarator (e ∷ es))) q.tree) (sym name) q.reads in
    rw (renumbered_append n (printed_declarator d) (behind_commas printed_declarator (e ∷ es)))
    (record { height = max (suc p.height) q.height; tree = p.tree ∷ q.tree; reads = a_name_before (renumbered n (printed_declarator d)) m p.reads further; low = omega arith; same = rw (p.same, q.same) refl })

abbrev at_external : (set : NameSet) (h n : ℕ) (d : DeclTree) → Type 0
at_external set h n d = Again (ReadsExternal set) plain_decl h (renumbered n (printed_decl d)) d

external_law : {set : NameSet} {h : ℕ} {ts : List Terminal} {d : DeclTree} → ReadsExternal set h ts d → (n : ℕ) → at_external set h n d
external_law {set} (a_plain_external {h = h} {ts = ts} {d = d} r) n =
    let p : Again ReadsPlain plain_decl h (seen set n (printed_decl d)) d = (plain_law set r (marked_fit set ts)).from n in
    record { height = p.height; tree = p.tree; reads = a_plain_external {ts = renumbered n (printed_decl d)} p.reads; low = p.low; same = p.same }
external_law {set} (a_typedef {h = h} {k = k} {defined = defined} {ds = ds} xs at s r names) n =
    let i : ℕ = n + 1 + length (printed_defined defined) in
    let p : Again ReadsDefined (relabel_defined bare 0) h (seen set (n + 1) (printed_defined defined)) defined = (defined_law set r (marked_fit set xs)).from (n + 1) in
    let q : at_names set k i ds = names_law names i in
    rw (renumbered_append (n + 1) (printed_defined defined) (with_commas printed_declarator ds ++ Punctuator 0 punctuators.Semicolon ∷ []), renumbered_append i (with_commas printed_declarator ds) (Punctuator 0 punctuators.Semicolon ∷ []))
    (record {
      height = max p.height q.height;
      tree = typedef (record { defined = p.tree; names = q.tree });
      reads = a_typedef (renumbered (n + 1) (printed_defined defined)) n (i + length (with_commas printed_declarator ds)) p.reads q.reads;
      low = omega arith;
      same = rw (p.same, q.same) refl;
    })

pub externals_law : {set : NameSet} {h : ℕ} {ts : List Terminal} {ds : List DeclTree} → ReadsExternals set h ts ds → (n : ℕ) → Again (ReadsExternals set) without_tokens h (renumbered n (printed_unit ds)) ds
externals_law {set} (a_last_external {h = h} {d = d} r) n =
    let p : at_external set h n d = external_law r n in
    rw (append-nil (printed_decl d)) (record { height = p.height; tree = p.tree ∷ []; reads = a_last_external p.reads; low = p.low; same = rw p.same refl })
externals_law {set} (an_external {h = h} {k = k} {d = d} {ds = ds} r s) n =
    let m : ℕ = n + length (printed_decl d) in
    let p : at_external set h n d = external_law r n in
    let q : Again (ReadsExternals (names_behind set d)) without_tokens k (renumbered m (printed_unit ds)) ds = externals_law s m in
    let further : ReadsExternals (names_behind set p.tree) q.height (renumbered m (printed_unit ds)) q.tree = subst (λ names. ReadsExternals names q.height (renumbered m (printed_unit ds)) q.tree) (sym (same_names set p.tree d p.same)) q.reads in
    rw (renumbered_append n (printed_decl d) (printed_unit ds))
    (record { height = max p.height q.height; tree = p.tree ∷ q.tree; reads = an_external p.reads further; low = omega arith; same = rw (p.same, q.same) refl })
