-- The links of a unit: what is linked is a function, or a variable.
use Rattle.std.proofs.Common.{◌≡◌, ⊎_elim, ℕ, zero, suc, ◌+◌, ◌<◌, ◌≤◌, nat_eq, nat_lt, cond, Bool, true, false, List, [], ◌∷◌, ◌++◌, length, map, Option, Some, None, refl, sym, ap, ◌∙◌, subst, arith, length-append}
use Rattle.std.specs.Prelude.{position}
use Rattle.std.specs.List.{cons_option, position_or_len}
use Rattle.std.proofs.lemmas.Bool.{both_ways, and_parts, ltb-true}
use Rattle.std.proofs.lemmas.List.{length-map}
use Rattle.std.proofs.lemmas.Option.{same_Some}
use Rattle.qs_syntax.specs.declared.types.Base.{Base}
use Rattle.qs_syntax.specs.Trees.{VariableTree, FunctionTree, Stmts, DeclTree, structure, forward, typedef, function, variables, UnitTree}
use Rattle.qs_memory.proofs.Options.{followed}
use Rattle.qs_types.specs.Contexts.{Context, start_context}
use Rattle.qs_types.specs.References.{literal_blocks}
use Rattle.qs_types.specs.UnitRules.{after_declaration}
use Rattle.qs_types.specs.StatementRules.{after_variable}
use Rattle.qs_core.specs.CallGraph.{is_member}
use Rattle.qs_callgraph.proofs.MemberLaws.{member-filter, first_cases}
use Rattle.qs_meaning.specs.InitialValues.{text_block}
use Rattle.qs_meaning.specs.Names.{Scope, within}
use Rattle.qs_meaning.specs.Typed.{StaticBlock, TypedProgram}
use Rattle.qs_meaning.specs.Units.{function_typed, file_variable_typed, file_variables_typed, declaration_typed, declarations_typed, file_variables_in, start_scope, typed_of}
use Rattle.qs_isolation.specs.Links.{below, linked, places_among, body_named, declaration_named, functions_named, block_leads, links_of}
use Rattle.qs_isolation.specs.Touches.{Leads, no_link, one_more, Touches}

-- ---- numbers of lists

member_below : (count : ℕ) (ns : List ℕ) (m : ℕ) → is_member m (below count ns) ≡ true → m < count
member_below count ns m h = ltb-true m count (and_parts (nat_lt m count) (is_member m ns) (sym (member-filter (λ n. nat_lt n count) m ns) ∙ h)).0

-- lists whose numbers are all below this one
abbrev AreSmall : ℕ → List (List ℕ) → Type 0
AreSmall count ls = (n m : ℕ) → is_member m (linked ls n) ≡ true → m < count

no_lists : (count : ℕ) → AreSmall count []
no_lists count n m h = absurd (both_ways false refl h)

one_list : (count : ℕ) (ns : List ℕ) (ls : List (List ℕ)) → ((m : ℕ) → is_member m ns ≡ true → m < count) → AreSmall count ls → AreSmall count (ns ∷ ls)
one_list count ns ls h k zero m e = h m e
one_list count ns ls h k (suc n) m e = k n m e

more_lists : (count : ℕ) (ls bs : List (List ℕ)) → AreSmall count ls → AreSmall count bs → AreSmall count (ls ++ bs)
more_lists count [] bs h k = k
more_lists count (ns ∷ ls) bs h k = one_list count ns (ls ++ bs) (λ m. h 0 m) (more_lists count ls bs (λ n. h (suc n)) k)

mapped_small : {A : Type 0} (count : ℕ) (f : A → List ℕ) (xs : List A) → ((x : A) (m : ℕ) → is_member m (f x) ≡ true → m < count) → AreSmall count (map f xs)
mapped_small count f [] h = no_lists count
mapped_small count f (x ∷ xs) h = one_list count (f x) (map f xs) (h x) (mapped_small count f xs h)

-- ---- places

found_below : (b : Bool) (p n i : ℕ) → b ≡ nat_lt p n → cond b (Some p) None ≡ Some i → i < n
found_below true p n i is e = let same = same_Some p i e in subst (λ (k : ℕ). k < n) same (ltb-true p n (sym is))
found_below false p n i is e = absurd (none i e)
  where
    none : (i : ℕ) → None ≡ Some i → ⊥
    none i e = cc

position_below : (node : ℕ) (vs : List ℕ) (i : ℕ) → position (nat_eq node) vs ≡ Some i → i < length vs
position_below node vs i e = found_below (nat_lt (position_or_len (nat_eq node) vs) (length vs)) (position_or_len (nat_eq node) vs) (length vs) i refl e

places_small : (vs nodes : List ℕ) (m : ℕ) → is_member m (places_among vs nodes) ≡ true → m < length vs
places_small vs [] m h = absurd (both_ways false refl h)
places_small vs (node ∷ nodes) m h = by (position (nat_eq node) vs) refl h (places_small vs nodes m)
  where
    by : (o : Option ℕ) → position (nat_eq node) vs ≡ o → is_member m (cons_option o (places_among vs nodes)) ≡ true → (is_member m (places_among vs nodes) ≡ true → m < length vs)
        → m < length vs
    by None e k rest = rest k
    by (Some i) e k rest =
        ⊎_elim (λ (same : i ≡ m). subst (λ (j : ℕ). j < length vs) same (position_below node vs i e)) rest
        (first_cases m i (places_among vs nodes) k)

body_small : (vs : List ℕ) (c : Context) (f : FunctionTree) (body : Option Stmts) → AreSmall (length vs) (body_named vs c f body)
body_small vs c f None = no_lists (length vs)
body_small vs c f (Some body) = one_list (length vs) (places_among vs _) [] (places_small vs _) (no_lists (length vs))

declaration_small : (vs : List ℕ) (c : Context) (d : DeclTree) → AreSmall (length vs) (declaration_named vs c d)
declaration_small vs c (structure d) = no_lists (length vs)
declaration_small vs c (forward d) = no_lists (length vs)
declaration_small vs c (typedef d) = no_lists (length vs)
declaration_small vs c (function f) = body_small vs c f f.body
declaration_small vs c (variables d) = no_lists (length vs)

names_small : (vs : List ℕ) (c : Context) (ds : UnitTree) → AreSmall (length vs) (functions_named vs c ds)
names_small vs c [] = no_lists (length vs)
names_small vs c (d ∷ ds) = more_lists (length vs) (declaration_named vs c d) (functions_named vs (after_declaration c d) ds) (declaration_small vs c d) (names_small vs (after_declaration c d) ds)

-- ---- each variable has a block

variables_long : (s : Scope) (base : Base) (vs : List VariableTree) (bs : List StaticBlock) → file_variables_typed s base vs ≡ Some bs → length bs ≡ length vs
variables_long s base [] bs e = ap length (sym (same_Some [] bs e))
variables_long s base (v ∷ vs) bs e =
    let a = followed (file_variable_typed s base v) _ bs e in
    let b = followed (file_variables_typed (within s (after_variable true s.context base v)) base vs) _ bs a.then in
    ap length (sym (same_Some (a.value ∷ b.value) bs b.then)) ∙ ap suc (variables_long (within s (after_variable true s.context base v)) base vs b.value b.first)

declaration_long : (s : Scope) (d : DeclTree) (u : TypedProgram) → declaration_typed s d ≡ Some u → length u.blocks ≡ length (file_variables_in (d ∷ []))
declaration_long s (structure d) u e = ap (λ (p : TypedProgram). length p.blocks) (sym (same_Some _ u e))
declaration_long s (forward d) u e = ap (λ (p : TypedProgram). length p.blocks) (sym (same_Some _ u e))
declaration_long s (typedef d) u e = ap (λ (p : TypedProgram). length p.blocks) (sym (same_Some _ u e))
declaration_long s (function f) u e =
    let a = followed (function_typed s f f.body) _ u e in ap (λ (p : TypedProgram). length p.blocks) (sym (same_Some _ u a.then))
declaration_long s (variables d) u e =
    let a = followed (file_variables_typed s d.base d.variables) _ u e in
    let nodes = map (λ (v : VariableTree). v.declarator.node.id) d.variables in
    let more = length-append nodes [] in
    let long = length-map d.variables (λ (v : VariableTree). v.declarator.node.id) in
    let here = variables_long s d.base d.variables a.value a.first in
    ap (λ (p : TypedProgram). length p.blocks) (sym (same_Some _ u a.then)) ∙ omega (arith, more, long, here)

file_variables_more : (d : DeclTree) (ds : UnitTree) → length (file_variables_in (d ∷ ds)) ≡ length (file_variables_in (d ∷ [])) + length (file_variables_in ds)
file_variables_more (structure d) ds = omega arith
file_variables_more (forward d) ds = omega arith
file_variables_more (typedef d) ds = omega arith
file_variables_more (function f) ds = omega arith
file_variables_more (variables d) ds =
    let nodes = map (λ (v : VariableTree). v.declarator.node.id) d.variables in
    let whole = length-append nodes (file_variables_in ds) in
    let own = length-append nodes [] in
    omega (arith, whole, own)

pub declarations_long : (s : Scope) (ds : UnitTree) (u : TypedProgram) → declarations_typed s ds ≡ Some u → length u.blocks ≡ length (file_variables_in ds)
declarations_long s [] u e = ap (λ (p : TypedProgram). length p.blocks) (sym (same_Some _ u e))
declarations_long s (d ∷ ds) u e =
    let a = followed (declaration_typed s d) _ u e in
    let b = followed (declarations_typed (within s (after_declaration s.context d)) ds) _ u a.then in
    let own = declaration_long s d a.value a.first in
    let later = declarations_long (within s (after_declaration s.context d)) ds b.value b.first in
    let both = length-append a.value.blocks b.value.blocks in
    let whole = file_variables_more d ds in
    ap (λ (p : TypedProgram). length p.blocks) (sym (same_Some _ u b.then)) ∙ omega (arith, own, later, both, whole)

pub variables_have_blocks : (unit : UnitTree) (u : TypedProgram) → typed_of unit ≡ Some u → length (file_variables_in unit) ≤ length u.blocks
variables_have_blocks unit u e =
    let a = followed (declarations_typed (start_scope unit) unit) _ u e in
    let same : u.blocks ≡ a.value.blocks ++ map text_block (literal_blocks unit) = ap (λ (p : TypedProgram). p.blocks) (sym (same_Some _ u a.then)) in
    let long = ap length same in
    let both = length-append a.value.blocks (map text_block (literal_blocks unit)) in
    let own = declarations_long (start_scope unit) unit a.value a.first in
    omega (arith, long, both, own)

-- ---- the links of a unit

module _ (unit : UnitTree) (u : TypedProgram) (is : typed_of unit ≡ Some u) where
  abbrev count : ℕ
  count = length (file_variables_in unit)

  named_small : AreSmall count (links_of unit u).named
  named_small = names_small (file_variables_in unit) start_context unit

  led_small : AreSmall count (links_of unit u).led
  led_small = mapped_small count (block_leads count) u.blocks (λ b m h. member_below count _ m h)

  -- what is touched is a variable
  pub touched_is_variable : (task x : ℕ) → Touches (links_of unit u) task x → x < count
  touched_is_variable task x t = by x t.led
    where
      by : (y : ℕ) → Leads (links_of unit u).led t.named y → y < count
      by _ no_link = named_small t.function t.named t.has_name
      by _ (one_more n y l h) = led_small n y h
