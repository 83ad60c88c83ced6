-- The printed terminals of declarations that were read are read as them again, no higher.
use Rattle.std.proofs.Common.{◌≡◌, inl, inr, ℕ, zero, suc, ◌+◌, Bool, true, false, ◌&&◌, List, [], ◌∷◌, ◌++◌, length, flat_map, Some, None, refl, ap, subst, append-nil, arith}
use Rattle.std.specs.Prelude.{max, ◌==◌}
use Rattle.std.proofs.lemmas.Bool.{cases_Bool}
use Rattle.qs_syntax_vocabulary.specs.declared.terminal.Terminal.{Terminal}
use Rattle.qs_syntax_vocabulary.specs.declared.terminal.Terminal.TheVariants.{Name, Keyword, Punctuator}
use Rattle.qs_base.specs.declared.keyword.Keyword.TheVariants as keywords
use Rattle.qs_syntax_vocabulary.specs.declared.punctuator.Punctuator.TheVariants as punctuators
use Rattle.qs_syntax.specs.declared.types.Base.{Base}
use Rattle.qs_syntax.specs.declared.types.Base.TheVariants as bases
use Rattle.qs_syntax.specs.ReadsTypes.{no_const, a_const, ReadsType, a_type}
use Rattle.qs_syntax.specs.Reads.{place}
use Rattle.qs_syntax.specs.Trees.{unnumbered, ExprTree, LengthsTree, DeclaratorTree, InitialiserTree, value, list, Initialisers, no_initialisers, initialiser_and, VariableTree, DeclarationTree, ParameterTree, MembersTree}
use Rattle.qs_syntax.specs.ReadsDeclarations.{ReadsGiven, no_length, a_length, ReadsLengths, are_given, first_open, ReadsDeclarator, a_declarator, ReadsInitialiser, a_value, a_list, ReadsInitialisers, a_last_initialiser, a_last_with_comma, an_initialiser, ReadsVariable, an_unset_variable, a_set_variable, ReadsVariables, a_last_variable, a_variable, ReadsDeclaration, a_declaration, ReadsOuterDeclaration, an_outer_declaration, ReadsDeclarators, a_last_member, a_member, ReadsMembers, a_group, ReadsAllMembers, a_last_group, a_further_group, ReadsParameter, a_named_parameter, an_unnamed_parameter, ReadsParameters, a_last_parameter, a_parameter, ReadsHead, no_parameter, a_void_head, some_parameters}
use Rattle.qs_syntax.specs.Nodes.{expr_count, variable_count, declarator_count, members_count, parameter_count}
use Rattle.qs_syntax.specs.Numbering.{bare, relabel_declarator, relabel_expr, relabel_members, relabel_parameter, relabel_variable}
use Rattle.qs_print.specs.Printed.{behind_commas, is_void, is_without_brackets, printed_base, printed_declaration, printed_declarator, printed_initialiser, printed_initialisers, printed_length, printed_lengths, printed_members, printed_parameter, printed_parameters, printed_part, printed_stars, printed_variable, with_commas, further_initialisers}
use Rattle.qs_syntax.specs.WithoutTokens.{plain_declaration, plain_declarator, plain_initialiser, plain_initialisers, plain_lengths, plain_members, plain_parameter, plain_variable}
use Rattle.qs_print.proofs.PrintedTerminals.{left, right}
use Rattle.qs_print.proofs.Rereading.{all_plain, fits, Fit, not_in, behind_it, any_of, name_is_no_keyword, Again, Reread, seen, seen_append, closing, KnownBase, known_type, known_outer_type, type_reads, outer_type_reads, stars_read}
use Rattle.qs_syntax_vocabulary.specs.Marks.{NameSet, is_in, name_token}
use Rattle.qs_syntax.specs.ReadsTypes.{Names, Plain, Any, ReadsName, a_plain_name, a_name_of_a_type}
use Rattle.qs_print.proofs.RereadExpressions.{at_part, law, part}

module _ (set : NameSet) where
  -- ---- lengths

  given_law : {h : ℕ} {ts : List Terminal} {es : List ExprTree} → ReadsGiven h ts es → Fit set ts → Reread set ReadsGiven (all_plain expr_count (relabel_expr bare)) h (flat_map printed_length es) es
  given_law no_length f = record { from = λ n. record { height = 0; tree = []; reads = no_length; low = omega arith; same = refl } }
  given_law (a_length {h = h} {k = k} {xs = xs} {e = e} {es = es} o c r s) f = record {
    from = λ n.
        let i : ℕ = n + 1 + length (printed_part 13 e) in
        let p : at_part set 13 h (n + 1) e = (part set 13 h e (law set r tt (left (fits set) xs _ f))).from (n + 1) in
        let q : Again ReadsGiven (all_plain expr_count (relabel_expr bare)) k (seen set (i + 1) (flat_map printed_length es)) es = (given_law s (right (fits set) xs _ f)).from (i + 1) in
        rw (closing set (n + 1) punctuators.CloseBracket (printed_part 13 e) (flat_map printed_length es))
        (record { height = max p.height q.height; tree = p.tree ∷ q.tree; reads = a_length n i p.reads q.reads; low = omega arith; same = rw (p.same, q.same) refl });
  }

  pub lengths_law : {h : ℕ} {ts : List Terminal} {l : LengthsTree} → ReadsLengths h ts l → Fit set ts → Reread set ReadsLengths plain_lengths h (printed_lengths l) l
  lengths_law (are_given {h = h} {es = es} r) f = record {
    from = λ n.
        let q : Again ReadsGiven (all_plain expr_count (relabel_expr bare)) h (seen set n (flat_map printed_length es)) es = (given_law r f).from n in
        record { height = q.height; tree = record { is_open = false; given = q.tree }; reads = are_given q.reads; low = q.low; same = rw q.same refl };
  }
  lengths_law (first_open {h = h} {es = es} o c r) f = record {
    from = λ n.
        let q : Again ReadsGiven (all_plain expr_count (relabel_expr bare)) h (seen set (n + 1 + 1) (flat_map printed_length es)) es = (given_law r f).from (n + 1 + 1) in
        record { height = q.height; tree = record { is_open = true; given = q.tree }; reads = first_open n (n + 1) q.reads; low = q.low; same = rw q.same refl };
  }

  abbrev at_lengths : (h n : ℕ) (l : LengthsTree) → Type 0
  at_lengths h n l = Again ReadsLengths plain_lengths h (seen set n (printed_lengths l)) l

  -- ---- declarators

  -- a name that is read is read where it is marked
  again_name : {names : Names} {t : Terminal} {at : ℕ} {x : List ℕ} (n : ℕ) → ReadsName names t at x → Fit set (t ∷ []) → ReadsName names (name_token set n x) n x
  again_name n (a_plain_name at x) f = rw (not_in set at x [] f) (a_plain_name n x)
  again_name n (a_name_of_a_type at x) f = any_of n x (is_in set x)

  pub declarator_law : {names : Names} {h : ℕ} {ts : List Terminal} {d : DeclaratorTree} → ReadsDeclarator names h ts d → Fit set ts → Reread set (ReadsDeclarator names) plain_declarator h (printed_declarator d) d
  declarator_law {names} (a_declarator {h = h} {n = count} {xs = xs} {ys = ys} {t = t} {x = x} {lengths = l} s named r) f = record {
    from = λ n.
        let m : ℕ = n + length (printed_stars count) in
        let rest : Fit set (t ∷ ys) = right (fits set) xs (t ∷ ys) f in
        let q : at_lengths h (m + 1) l = (lengths_law r (behind_it set t ys rest)).from (m + 1) in
        rw (seen_append set n (printed_stars count) (Name 0 x ∷ printed_lengths l))
        (record { height = q.height; tree = record { node = unnumbered m; stars = count; name = x; lengths = q.tree }; reads = a_declarator (stars_read set count n) (again_name m named (left (fits set) (t ∷ []) ys rest)) q.reads; low = q.low; same = rw q.same refl });
  }

  abbrev at_declarator : (names : Names) (h n : ℕ) (d : DeclaratorTree) → Type 0
  at_declarator names h n d = Again (ReadsDeclarator names) plain_declarator h (seen set n (printed_declarator d)) d

  -- ---- initialisers

  abbrev at_initialiser : (h n : ℕ) (i : InitialiserTree) → Type 0
  at_initialiser h n i = Again ReadsInitialiser plain_initialiser h (seen set n (printed_initialiser i)) i

  abbrev at_initialisers : (h n : ℕ) (is : Initialisers) → Type 0
  at_initialisers h n is = Again ReadsInitialisers plain_initialisers h (seen set n (printed_initialisers is)) is

  last_initialiser : (h n : ℕ) (i : InitialiserTree) → at_initialiser h n i → at_initialisers h n (initialiser_and i no_initialisers)
  last_initialiser h n i p =
      rw (append-nil (printed_initialiser i)) (record { height = p.height; tree = initialiser_and p.tree no_initialisers; reads = a_last_initialiser p.reads; low = p.low; same = rw p.same refl })

  some_initialisers : {h : ℕ} {ts : List Terminal} {is : Initialisers} → ReadsInitialisers h ts is → is ≡ no_initialisers → ⊥
  some_initialisers (a_last_initialiser r) e = cc
  some_initialisers (a_last_with_comma at r) e = cc
  some_initialisers (an_initialiser at r s) e = cc

  mutual
    pub initialiser_law : {h : ℕ} {ts : List Terminal} {i : InitialiserTree} → ReadsInitialiser h ts i → Fit set ts → Reread set ReadsInitialiser plain_initialiser h (printed_initialiser i) i
    initialiser_law (a_value {h = h} {e = e} r) f = record {
      from = λ n.
          let p : at_part set 14 h n e = (part set 14 h e (law set r tt f)).from n in
          record { height = p.height; tree = value p.tree; reads = a_value p.reads; low = p.low; same = ap value p.same };
    }
    initialiser_law (a_list {h = h} {ts = ts} {is = is} o c r) f = record {
      from = λ n.
          let p : at_initialisers h (n + 1) is = (initialisers_law r (left (fits set) ts _ f)).from (n + 1) in
          rw (seen_append set (n + 1) (printed_initialisers is) (Punctuator 0 punctuators.CloseBrace ∷ []))
          (record { height = suc p.height; tree = list (unnumbered n) p.tree; reads = a_list n (n + 1 + length (printed_initialisers is)) p.reads; low = omega arith; same = ap (list (unnumbered 0)) p.same });
    }

    initialisers_law : {h : ℕ} {ts : List Terminal} {is : Initialisers} → ReadsInitialisers h ts is → Fit set ts → Reread set ReadsInitialisers plain_initialisers h (printed_initialisers is) is
    initialisers_law (a_last_initialiser {h = h} {i = i} r) f = record { from = λ n. last_initialiser h n i ((initialiser_law r f).from n) }
    initialisers_law (a_last_with_comma {h = h} {ts = ts} {i = i} at r) f = record { from = λ n. last_initialiser h n i ((initialiser_law r (left (fits set) ts _ f)).from n) }
    initialisers_law (an_initialiser {is = no_initialisers} at r s) f = absurd (some_initialisers s refl)
    initialisers_law (an_initialiser {h = h} {k = k} {xs = xs} {i = i} {is = initialiser_and j js} at r s) f = record {
      from = λ n.
          let m : ℕ = n + length (printed_initialiser i) in
          let p : at_initialiser h n i = (initialiser_law r (left (fits set) xs _ f)).from n in
          let q : at_initialisers k (m + 1) (initialiser_and j js) = (initialisers_law s (right (fits set) xs _ f)).from (m + 1) in
          rw (seen_append set n (printed_initialiser i) (further_initialisers (initialiser_and j js)))
          (record { height = max p.height q.height; tree = initialiser_and p.tree q.tree; reads = an_initialiser m p.reads q.reads; low = omega arith; same = rw (p.same, q.same) refl });
    }

  -- ---- variables

  pub variable_law : {h : ℕ} {ts : List Terminal} {v : VariableTree} → ReadsVariable h ts v → Fit set ts → Reread set ReadsVariable plain_variable h (printed_variable v) v
  variable_law (an_unset_variable {h = h} {d = d} r) f = record {
    from = λ n.
        let p : at_declarator Plain h n d = (declarator_law r f).from n in
        rw (append-nil (printed_declarator d)) (record { height = suc p.height; tree = record { declarator = p.tree; initialiser = None }; reads = an_unset_variable p.reads; low = omega arith; same = rw p.same refl });
  }
  variable_law (a_set_variable {h = h} {k = k} {xs = xs} {d = d} {i = i} at r s) f = record {
    from = λ n.
        let m : ℕ = n + length (printed_declarator d) in
        let p : at_declarator Plain h n d = (declarator_law r (left (fits set) xs _ f)).from n in
        let q : at_initialiser k (m + 1) i = (initialiser_law s (right (fits set) xs _ f)).from (m + 1) in
        rw (seen_append set n (printed_declarator d) (Punctuator 0 punctuators.Assign ∷ printed_initialiser i))
        (record { height = suc (max p.height q.height); tree = record { declarator = p.tree; initialiser = Some q.tree }; reads = a_set_variable m p.reads q.reads; low = omega arith; same = rw (p.same, q.same) refl });
  }

  abbrev at_variable : (h n : ℕ) (v : VariableTree) → Type 0
  at_variable h n v = Again ReadsVariable plain_variable h (seen set n (printed_variable v)) v

  abbrev at_variables : (h n : ℕ) (vs : List VariableTree) → Type 0
  at_variables h n vs = Again ReadsVariables (all_plain variable_count (relabel_variable bare)) h (seen set n (with_commas printed_variable vs)) vs

  some_variables : {h : ℕ} {ts : List Terminal} {vs : List VariableTree} → ReadsVariables h ts vs → vs ≡ [] → ⊥
  some_variables (a_last_variable r) e = cc
  some_variables (a_variable at r s) e = cc

  pub variables_law : {h : ℕ} {ts : List Terminal} {vs : List VariableTree} → ReadsVariables h ts vs → Fit set ts → Reread set ReadsVariables (all_plain variable_count (relabel_variable bare)) h (with_commas printed_variable vs) vs
  variables_law (a_last_variable {h = h} {v = v} r) f = record {
    from = λ n.
        let p : at_variable h n v = (variable_law r f).from n in
        rw (append-nil (printed_variable v)) (record { height = p.height; tree = p.tree ∷ []; reads = a_last_variable p.reads; low = p.low; same = rw p.same refl });
  }
  variables_law (a_variable {vs = []} at r s) f = absurd (some_variables s refl)
  variables_law (a_variable {h = h} {k = k} {xs = xs} {v = v} {vs = w ∷ ws} at r s) f = record {
    from = λ n.
        let m : ℕ = n + length (printed_variable v) in
        let p : at_variable h n v = (variable_law r (left (fits set) xs _ f)).from n in
        let q : at_variables k (m + 1) (w ∷ ws) = (variables_law s (right (fits set) xs _ f)).from (m + 1) in
        rw (seen_append set n (printed_variable v) (behind_commas printed_variable (w ∷ ws)))
        (record { height = max p.height q.height; tree = p.tree ∷ q.tree; reads = a_variable m p.reads q.reads; low = omega arith; same = rw (p.same, q.same) refl });
  }

  pub declaration_law : {h : ℕ} {ts : List Terminal} {d : DeclarationTree} → ReadsDeclaration h ts d → Fit set ts → Reread set ReadsDeclaration plain_declaration h (printed_declaration d) d
  declaration_law (a_declaration {h = h} {xs = xs} {ys = ys} {base = base} {vs = vs} s t r) f = record {
    from = λ n.
        let m : ℕ = n + length (printed_base base) in
        let q : at_variables h m vs = (variables_law r (left (fits set) ys _ (right (fits set) xs _ f))).from m in
        rw (seen_append set n (printed_base base) (with_commas printed_variable vs ++ Punctuator 0 punctuators.Semicolon ∷ []), seen_append set m (with_commas printed_variable vs) (Punctuator 0 punctuators.Semicolon ∷ []))
        (record { height = q.height; tree = record { base = base; variables = q.tree }; reads = a_declaration (m + length (with_commas printed_variable vs)) (type_reads base (known_type set t (left (fits set) xs _ f)) n) q.reads; low = q.low; same = rw q.same refl });
  }

  pub outer_declaration_law : {h : ℕ} {ts : List Terminal} {d : DeclarationTree} → ReadsOuterDeclaration h ts d → Fit set ts → Reread set ReadsOuterDeclaration plain_declaration h (printed_declaration d) d
  outer_declaration_law (an_outer_declaration {h = h} {xs = xs} {ys = ys} {base = base} {vs = vs} s t r) f = record {
    from = λ n.
        let m : ℕ = n + length (printed_base base) in
        let q : at_variables h m vs = (variables_law r (left (fits set) ys _ (right (fits set) xs _ f))).from m in
        rw (seen_append set n (printed_base base) (with_commas printed_variable vs ++ Punctuator 0 punctuators.Semicolon ∷ []), seen_append set m (with_commas printed_variable vs) (Punctuator 0 punctuators.Semicolon ∷ []))
        (record { height = q.height; tree = record { base = base; variables = q.tree }; reads = an_outer_declaration (m + length (with_commas printed_variable vs)) (outer_type_reads base (known_outer_type set t (left (fits set) xs _ f)) n) q.reads; low = q.low; same = rw q.same refl });
  }

  -- ---- members

  abbrev at_declarators : (h n : ℕ) (ds : List DeclaratorTree) → Type 0
  at_declarators h n ds = Again ReadsDeclarators (all_plain declarator_count (relabel_declarator bare)) h (seen set n (with_commas printed_declarator ds)) ds

  some_declarators : {h : ℕ} {ts : List Terminal} {ds : List DeclaratorTree} → ReadsDeclarators h ts ds → ds ≡ [] → ⊥
  some_declarators (a_last_member r) e = cc
  some_declarators (a_member at r s) e = cc

  declarators_law : {h : ℕ} {ts : List Terminal} {ds : List DeclaratorTree} → ReadsDeclarators h ts ds → Fit set ts → Reread set ReadsDeclarators (all_plain declarator_count (relabel_declarator bare)) h (with_commas printed_declarator ds) ds
  declarators_law (a_last_member {h = h} {d = d} r) f = record {
    from = λ n.
        let p : at_declarator Any h n d = (declarator_law r f).from n in
        rw (append-nil (printed_declarator d)) (record { height = suc p.height; tree = p.tree ∷ []; reads = a_last_member p.reads; low = omega arith; same = rw p.same refl });
  }
  declarators_law (a_member {ds = []} at r s) f = absurd (some_declarators s refl)
  declarators_law (a_member {h = h} {k = k} {xs = xs} {d = d} {ds = e ∷ es} at r s) f = record {
    from = λ n.
        let m : ℕ = n + length (printed_declarator d) in
        let p : at_declarator Any h n d = (declarator_law r (left (fits set) xs _ f)).from n in
        let q : at_declarators k (m + 1) (e ∷ es) = (declarators_law s (right (fits set) xs _ f)).from (m + 1) in
        rw (seen_append set n (printed_declarator d) (behind_commas printed_declarator (e ∷ es)))
        (record { height = max (suc p.height) q.height; tree = p.tree ∷ q.tree; reads = a_member m p.reads q.reads; low = omega arith; same = rw (p.same, q.same) refl });
  }

  members_law : {h : ℕ} {ts : List Terminal} {m : MembersTree} → ReadsMembers h ts m → Fit set ts → Reread set ReadsMembers plain_members h (printed_members m) m
  members_law (a_group {h = h} {xs = xs} {ys = ys} {base = base} {ds = ds} s t r) f = record {
    from = λ n.
        let m : ℕ = n + length (printed_base base) in
        let q : at_declarators h m ds = (declarators_law r (left (fits set) ys _ (right (fits set) xs _ f))).from m in
        rw (seen_append set n (printed_base base) (with_commas printed_declarator ds ++ Punctuator 0 punctuators.Semicolon ∷ []), seen_append set m (with_commas printed_declarator ds) (Punctuator 0 punctuators.Semicolon ∷ []))
        (record { height = q.height; tree = record { base = base; declarators = q.tree }; reads = a_group (m + length (with_commas printed_declarator ds)) (type_reads base (known_type set t (left (fits set) xs _ f)) n) q.reads; low = q.low; same = rw q.same refl });
  }

  pub all_members_law : {h : ℕ} {ts : List Terminal} {ms : List MembersTree} → ReadsAllMembers h ts ms → Fit set ts → Reread set ReadsAllMembers (all_plain members_count (relabel_members bare)) h (flat_map printed_members ms) ms
  all_members_law (a_last_group {h = h} {m = m} r) f = record {
    from = λ n.
        let p : Again ReadsMembers plain_members h (seen set n (printed_members m)) m = (members_law r f).from n in
        rw (append-nil (printed_members m)) (record { height = p.height; tree = p.tree ∷ []; reads = a_last_group p.reads; low = p.low; same = rw p.same refl });
  }
  all_members_law (a_further_group {h = h} {k = k} {xs = xs} {m = m} {ms = ms} r s) f = record {
    from = λ n.
        let i : ℕ = n + length (printed_members m) in
        let p : Again ReadsMembers plain_members h (seen set n (printed_members m)) m = (members_law r (left (fits set) xs _ f)).from n in
        let q : Again ReadsAllMembers (all_plain members_count (relabel_members bare)) k (seen set i (flat_map printed_members ms)) ms = (all_members_law s (right (fits set) xs _ f)).from i in
        rw (seen_append set n (printed_members m) (flat_map printed_members ms))
        (record { height = max p.height q.height; tree = p.tree ∷ q.tree; reads = a_further_group p.reads q.reads; low = omega arith; same = rw (p.same, q.same) refl });
  }

  -- ---- parameters

  -- what isn't `void` alone is not the token `void`
  not_void : (base : Base) (count : ℕ) (first : Bool) (given : List ExprTree) (n i j : ℕ) → (is_void base && (count == 0 && is_without_brackets first given)) ≡ false
      → (at : ℕ) → seen set n (printed_base base) ++ (seen set i (printed_stars count) ++ seen set j (printed_lengths (record { is_open = first; given = given }))) ≡ Keyword at keywords.Void ∷ [] → ⊥
  not_void bases.Int count first given n i j f at e = cc
  not_void bases.Unsigned count first given n i j f at e = cc
  not_void bases.Char count first given n i j f at e = cc
  not_void (bases.Struct x) count first given n i j f at e = cc
  not_void (bases.Named x) count first given n i j f at e = name_is_no_keyword set n at keywords.Void x _ [] e
  not_void bases.Void (suc count) first given n i j f at e = cc
  not_void bases.Void zero true given n i j f at e = cc
  not_void bases.Void zero false [] n i j f at e = cc
  not_void bases.Void zero false (g ∷ gs) n i j f at e = cc

  const_type_reads : (base : Base) → KnownBase set base → (n : ℕ) → ReadsType (Keyword n keywords.Const ∷ seen set (n + 1) (printed_base base)) base
  const_type_reads base b n = subst (λ us. ReadsType (Keyword n keywords.Const ∷ us) base) (append-nil (seen set (n + 1) (printed_base base))) (a_type (a_const n no_const) (b.from (n + 1)) no_const)

  named_alone : (a b : Bool) → (a && (b && false)) ≡ false
  named_alone true true = refl
  named_alone true false = refl
  named_alone false b = refl

  abbrev at_parameter : (h n : ℕ) (p : ParameterTree) → Type 0
  at_parameter h n p = Again ReadsParameter plain_parameter h (seen set n (printed_parameter p)) p

  with_const : (h n at : ℕ) (base : Base) (count : ℕ) (l : LengthsTree) → KnownBase set base → Reread set ReadsLengths plain_lengths h (printed_lengths l) l
      → (is_void base && (count == 0 && is_without_brackets l.is_open l.given)) ≡ true
      → at_parameter (suc h) n (record { node = unnumbered at; type_name = record { base = base; stars = count }; name = None; lengths = l })
  with_const h n at base count l b r e =
      let i : ℕ = n + 1 + length (printed_base base) in
      let j : ℕ = i + length (printed_stars count) in
      let q : at_lengths h j l = r.from j in
      rw (e, seen_append set (n + 1) (printed_base base) (printed_stars count ++ printed_lengths l), seen_append set i (printed_stars count) (printed_lengths l))
      (record {
        height = suc q.height;
        tree = record { node = unnumbered n; type_name = record { base = base; stars = count }; name = None; lengths = q.tree };
        reads = an_unnamed_parameter (const_type_reads base b n) (stars_read set count i) q.reads (λ at f. cc);
        low = omega arith;
        same = rw q.same refl;
      })

  without_const : (h n at : ℕ) (base : Base) (count : ℕ) (l : LengthsTree) → KnownBase set base → Reread set ReadsLengths plain_lengths h (printed_lengths l) l
      → (is_void base && (count == 0 && is_without_brackets l.is_open l.given)) ≡ false
      → at_parameter (suc h) n (record { node = unnumbered at; type_name = record { base = base; stars = count }; name = None; lengths = l })
  without_const h n at base count l b r e =
      let i : ℕ = n + length (printed_base base) in
      let j : ℕ = i + length (printed_stars count) in
      let q : at_lengths h j l = r.from j in
      rw (e, seen_append set n (printed_base base) (printed_stars count ++ printed_lengths l), seen_append set i (printed_stars count) (printed_lengths l))
      (record {
        height = suc q.height;
        tree = record { node = unnumbered (place (seen set n (printed_base base))); type_name = record { base = base; stars = count }; name = None; lengths = q.tree };
        reads = an_unnamed_parameter (type_reads base b n) (stars_read set count i) q.reads (not_void base count l.is_open l.given n i j e);
        low = omega arith;
        same = rw q.same refl;
      })

  unnamed : (h n at : ℕ) (base : Base) (count : ℕ) (l : LengthsTree) → KnownBase set base → Reread set ReadsLengths plain_lengths h (printed_lengths l) l
      → at_parameter (suc h) n (record { node = unnumbered at; type_name = record { base = base; stars = count }; name = None; lengths = l })
  unnamed h n at base count l b r =
      elim (cases_Bool (is_void base && (count == 0 && is_without_brackets l.is_open l.given))) [
        | inl e ↦ with_const h n at base count l b r e
        | inr e ↦ without_const h n at base count l b r e
      ]

  named : (h n at : ℕ) (base : Base) (count : ℕ) (x : List ℕ) (l : LengthsTree) → KnownBase set base → is_in set x ≡ false → Reread set ReadsLengths plain_lengths h (printed_lengths l) l
      → at_parameter (suc h) n (record { node = unnumbered at; type_name = record { base = base; stars = count }; name = Some x; lengths = l })
  named h n at base count x l b out r =
      let i : ℕ = n + length (printed_base base) in
      let j : ℕ = i + length (printed_stars count) in
      let q : at_lengths h (j + 1) l = r.from (j + 1) in
      rw (named_alone (is_void base) (count == 0), seen_append set n (printed_base base) (printed_stars count ++ Name 0 x ∷ printed_lengths l), seen_append set i (printed_stars count) (Name 0 x ∷ printed_lengths l), out)
      (record { height = suc q.height; tree = record { node = unnumbered j; type_name = record { base = base; stars = count }; name = Some x; lengths = q.tree }; reads = a_named_parameter j x (type_reads base b n) (stars_read set count i) q.reads; low = omega arith; same = rw q.same refl })

  parameter_law : {h : ℕ} {ts : List Terminal} {p : ParameterTree} → ReadsParameter h ts p → Fit set ts → Reread set ReadsParameter plain_parameter h (printed_parameter p) p
  parameter_law (a_named_parameter {h = h} {n = count} {xs = xs} {ys = ys} {zs = zs} {base = base} {lengths = l} at x t s r) f =
      let rest = right (fits set) ys _ (right (fits set) xs _ f) in
      record { from = λ n. named h n at base count x l (known_type set t (left (fits set) xs _ f)) (not_in set at x zs rest) (lengths_law r (behind_it set (Name at x) zs rest)) }
  parameter_law (an_unnamed_parameter {h = h} {n = count} {xs = xs} {ys = ys} {base = base} {lengths = l} t s r w) f = record {
    from = λ n. unnamed h n (place xs) base count l (known_type set t (left (fits set) xs _ f)) (lengths_law r (right (fits set) ys _ (right (fits set) xs _ f)));
  }

  abbrev at_parameters : (h n : ℕ) (ps : List ParameterTree) → Type 0
  at_parameters h n ps = Again ReadsParameters (all_plain parameter_count (relabel_parameter bare)) h (seen set n (with_commas printed_parameter ps)) ps

  some_there : {h : ℕ} {ts : List Terminal} {ps : List ParameterTree} → ReadsParameters h ts ps → ps ≡ [] → ⊥
  some_there (a_last_parameter r) e = cc
  some_there (a_parameter at r s) e = cc

  parameters_law : {h : ℕ} {ts : List Terminal} {ps : List ParameterTree} → ReadsParameters h ts ps → Fit set ts → Reread set ReadsParameters (all_plain parameter_count (relabel_parameter bare)) h (with_commas printed_parameter ps) ps
  parameters_law (a_last_parameter {h = h} {p = a} r) f = record {
    from = λ n.
        let p : at_parameter h n a = (parameter_law r f).from n in
        rw (append-nil (printed_parameter a)) (record { height = p.height; tree = p.tree ∷ []; reads = a_last_parameter p.reads; low = p.low; same = rw p.same refl });
  }
  parameters_law (a_parameter {ps = []} at r s) f = absurd (some_there s refl)
  parameters_law (a_parameter {h = h} {k = k} {xs = xs} {p = a} {ps = b ∷ bs} at r s) f = record {
    from = λ n.
        let m : ℕ = n + length (printed_parameter a) in
        let p : at_parameter h n a = (parameter_law r (left (fits set) xs _ f)).from n in
        let q : at_parameters k (m + 1) (b ∷ bs) = (parameters_law s (right (fits set) xs _ f)).from (m + 1) in
        rw (seen_append set n (printed_parameter a) (behind_commas printed_parameter (b ∷ bs)))
        (record { height = max p.height q.height; tree = p.tree ∷ q.tree; reads = a_parameter m p.reads q.reads; low = omega arith; same = rw (p.same, q.same) refl });
  }

  pub head_law : {h : ℕ} {ts : List Terminal} {ps : List ParameterTree} → ReadsHead h ts ps → Fit set ts → Reread set ReadsHead (all_plain parameter_count (relabel_parameter bare)) h (printed_parameters ps) ps
  head_law no_parameter f = record { from = λ n. record { height = 0; tree = []; reads = a_void_head n; low = omega arith; same = refl } }
  head_law (a_void_head at) f = record { from = λ n. record { height = 0; tree = []; reads = a_void_head n; low = omega arith; same = refl } }
  head_law (some_parameters {ps = []} r) f = absurd (some_there r refl)
  head_law (some_parameters {h = h} {ps = a ∷ others} r) f = record {
    from = λ n.
        let p : at_parameters h n (a ∷ others) = (parameters_law r f).from n in
        record { height = p.height; tree = p.tree; reads = some_parameters p.reads; low = p.low; same = p.same };
  }
