-- One filling of given proofs is as good as another: they differ in the order of definitions and of entries alone.
use Rattle.std.proofs.Common.{arith, ◌≡◌, ℕ, ◌<◌, ◌≤◌, ◌==◌, ◌||◌, Bool, true, false, cond, if◌then◌else◌, List, [], ◌∷◌, ◌++◌, map, filter, length, Option, Some, None, ⊎_elim, refl, sym, ap, ◌∙◌, subst}
use Rattle.std.specs.Prelude.{Ok, option_map}
use Rattle.std.specs.List.{slice_get, find}
use Rattle.std.specs.Option.{option_or}
use Rattle.std.proofs.Math.Path.{fun_ext}
use Rattle.std.proofs.lemmas.Bool.{both_ways, false_from_ne_true, or_left, or_right, or_parts, cases_Bool, cases_lt, eqb-true}
use Rattle.std.proofs.lemmas.List.{append_assoc, append-nil}
use Rattle.std.proofs.lemmas.List.Folds.{list_any-append}
use Rattle.qs_base.specs.Results.{fault_or}
use Rattle.qs_assert.specs.declared.define.Define.{Define}
use Rattle.qs_assert.specs.Bounds.{same_name}
use Rattle.qs_assert.specs.Images.{assertion_image}
use Rattle.qs_assert.specs.Order.{names_known, is_among, order_fault_behind, IsInOrder}
use Rattle.qs_assert.specs.Trees.{AssertionTree, infinity}
use Rattle.qs_assert.proofs.SamenessLaws.{name_equal}
use Rattle.qs_core.specs.CallGraph.{called_by, is_member}
use Rattle.qs_core.specs.Fits.{unit_fits}
use Rattle.qs_core.specs.Trees as core
use Rattle.qs_core.specs.Trees.{CoreFunctionTree, CoreUnitTree}
use Rattle.qs_core.specs.FunctionNames.{function_name}
use Rattle.qs_entail.specs.Faults.{definition}
use Rattle.qs_triples.specs.Derivations.{EntryTree, ProofsTree, SpecTree, is_entry_of, entry_of, spec_of}
use Rattle.qs_triples.specs.Entries.{mentions_fault, order_told, entry_told, result_at_end, function_posts, scope_of, fault_in, fault_of_known, has_entry}
use Rattle.qs_triples.specs.Filled.{open_definition, pre_in, pre_of, path_pre, HasBoth, Filled}
use Rattle.qs_triples.specs.Mentions.{in_pre, in_post, first_other, as_plain}
use Rattle.qs_triples.specs.declared.resource.Resource.TheVariants.{Stack}
use Rattle.qs_triples.specs.Rules.{DerivFault, in_precondition, in_postcondition, pre}
use Rattle.qs_callgraph.specs.CallLists.{numbers}
use Rattle.qs_callgraph.specs.Orders.{CalleesFirst}
use Rattle.qs_callgraph.proofs.MemberLaws.{member_first, first_cases, none_passes}
use Rattle.qs_analyse.specs.Laws.{GivenAreDerived}
use Rattle.qs_analyse.proofs.AddedLaws.{same_pre}
use Rattle.qs_analyse.proofs.NameLaws.{one_name}
use Rattle.qs_analyse.proofs.OpenNames.{open_body}
use Rattle.qs_analyse.proofs.SettingLaws.{in_order, one_there}
use Rattle.qs_certify.specs.Certification.{AreAll}
use Rattle.qs_certify.specs.Laws.{OneFillingIsEnough}
use Rattle.qs_certify.proofs.SameVerdicts.{verdict_same, pre_same}

-- ---- lists of open functions with the same members

abbrev SameMembers : List ℕ → List ℕ → Type 0
SameMembers xs ys = (f : ℕ) → is_member f xs ≡ true → is_member f ys ≡ true

module _ (u : CoreUnitTree) where
  abbrev opens : List ℕ → List Define
  opens fs = map (open_definition u) fs

  -- which function has the name
  record IsNamed (fs : List ℕ) (n : List ℕ) : Type 0 where
    function : ℕ
    member : is_member function fs ≡ true
    same : same_name n (function_name u function) ≡ true

  named_in : (fs : List ℕ) (n : List ℕ) → is_among (opens fs) n ≡ true → IsNamed fs n
  named_in [] n h = absurd (both_ways false refl h)
  named_in (f ∷ fs) n h = by (same_name n (function_name u f)) refl h (named_in fs n)
    where
      by : (b : Bool) → same_name n (function_name u f) ≡ b → (b || is_among (opens fs) n) ≡ true → (is_among (opens fs) n ≡ true → IsNamed fs n) → IsNamed (f ∷ fs) n
      by true is h more = record { function = f; member = member_first f fs; same = is }
      by false is h more =
          let r = more h in
          record { function = r.function; member = or_right (f == r.function) (is_member r.function fs) r.member; same = r.same }

  among_named : (fs : List ℕ) (n : List ℕ) (f : ℕ) → is_member f fs ≡ true → same_name n (function_name u f) ≡ true → is_among (opens fs) n ≡ true
  among_named [] n f m h = absurd (both_ways false refl m)
  among_named (g ∷ fs) n f m h =
      ⊎_elim
      (λ (e : g ≡ f). or_left (same_name n (function_name u g)) (is_among (opens fs) n) (ap (λ (x : ℕ). same_name n (function_name u x)) e ∙ h))
      (λ (k : is_member f fs ≡ true). or_right (same_name n (function_name u g)) (is_among (opens fs) n) (among_named fs n f k h))
      (first_cases f g fs m)

  told_both : (a b : Bool) → (a ≡ true → b ≡ true) → (b ≡ true → a ≡ true) → a ≡ b
  told_both true b h k = sym (h refl)
  told_both false true h k = k refl
  told_both false false h k = refl

  among_same : (xs ys : List ℕ) → SameMembers xs ys → SameMembers ys xs → (n : List ℕ) → is_among (opens xs) n ≡ is_among (opens ys) n
  among_same xs ys to back n =
      told_both (is_among (opens xs) n) (is_among (opens ys) n)
      (λ h. let r = named_in xs n h in among_named ys n r.function (to r.function r.member) r.same)
      (λ h. let r = named_in ys n h in among_named xs n r.function (back r.function r.member) r.same)

  -- ---- what names are defined as

  abbrev AreWithin : List ℕ → Type 0
  AreWithin fs = (f : ℕ) → is_member f fs ≡ true → f < length u.functions

  module _ (fits : unit_fits u ≡ true) (ds : List Define) where
    -- the first definition of a name that an open function has is its own
    own : (fs : List ℕ) (n : List ℕ) (f : ℕ) → AreWithin fs → is_member f fs ≡ true → same_name n (function_name u f) ≡ true → definition (opens fs ++ ds) n ≡ Ok (open_body u f)
    own [] n f within m h = absurd (both_ways false refl m)
    own (g ∷ fs) n f within m h =
        by (same_name n (function_name u g)) refl (λ k. own fs n f (λ x l. within x (or_right (g == x) (is_member x fs) l)) k h)
      where
        behind : (g ≡ f → ⊥) → is_member f fs ≡ true
        behind d = ⊎_elim (λ (e : g ≡ f). absurd (d e)) (λ (k : is_member f fs ≡ true). k) (first_cases f g fs m)

        by : (b : Bool) → same_name n (function_name u g) ≡ b → (is_member f fs ≡ true → definition (opens fs ++ ds) n ≡ Ok (open_body u f)) → definition (opens (g ∷ fs) ++ ds) n ≡ Ok (open_body u f)
        by true is more =
            let same : same_name (function_name u g) (function_name u f) ≡ true = ap (λ (x : List ℕ). same_name x (function_name u f)) (sym (name_equal n (function_name u g) is)) ∙ h in
            let e : g ≡ f = one_name u g f fits (within g (member_first g fs)) (within f m) same in
            ap (λ (b : Bool). if b then Ok (open_body u g) else definition (opens fs ++ ds) n) is ∙ ap (λ (x : ℕ). Ok (open_body u x)) e
        by false is more =
            ap (λ (b : Bool). if b then Ok (open_body u g) else definition (opens fs ++ ds) n) is
            ∙ more (behind (λ e. both_ways (same_name n (function_name u g)) is (ap (λ (x : ℕ). same_name n (function_name u x)) e ∙ h)))

    not_own : (fs : List ℕ) (n : List ℕ) → is_among (opens fs) n ≡ false → definition (opens fs ++ ds) n ≡ definition ds n
    not_own [] n h = refl
    not_own (f ∷ fs) n h =
        let two = or_parts (same_name n (function_name u f)) (is_among (opens fs) n) h in
        ap (λ (b : Bool). if b then Ok (open_body u f) else definition (opens fs ++ ds) n) two.0 ∙ not_own fs n two.1

    defined_same : (xs ys : List ℕ) → AreWithin xs → AreWithin ys → SameMembers xs ys → SameMembers ys xs → (n : List ℕ) → definition (opens xs ++ ds) n ≡ definition (opens ys ++ ds) n
    defined_same xs ys wx wy to back n =
        ⊎_elim
        (λ (h : is_among (opens xs) n ≡ true).
        let r = named_in xs n h in own xs n r.function wx r.member r.same ∙ sym (own ys n r.function wy (to r.function r.member) r.same))
        (λ (h : is_among (opens xs) n ≡ false). not_own xs n h ∙ sym (not_own ys n (sym (among_same xs ys to back n) ∙ h)))
        (cases_Bool (is_among (opens xs) n))

  -- ---- definitions in order

  first_in_order : (xs ys before : List Define) → order_fault_behind (xs ++ ys) before ≡ None → order_fault_behind ys (before ++ xs) ≡ None
  first_in_order [] ys before h = ap (order_fault_behind ys) (append-nil before) ∙ h
  first_in_order (d ∷ xs) ys before h = by (names_known d.body (is_among before)) h (first_in_order xs ys (before ++ d ∷ []))
    where
      by : (b : Bool) → (if b then order_fault_behind (xs ++ ys) (before ++ d ∷ []) else Some (length before)) ≡ None
          → (order_fault_behind (xs ++ ys) (before ++ d ∷ []) ≡ None → order_fault_behind ys ((before ++ d ∷ []) ++ xs) ≡ None) → order_fault_behind ys (before ++ d ∷ xs) ≡ None
      by true h more = ap (order_fault_behind ys) (sym (append_assoc before (d ∷ []) xs)) ∙ more h
      by false h more = cc

  both_in_order : (xs ys before : List Define) → order_fault_behind xs before ≡ None → order_fault_behind ys (before ++ xs) ≡ None → order_fault_behind (xs ++ ys) before ≡ None
  both_in_order [] ys before h k = ap (order_fault_behind ys) (sym (append-nil before)) ∙ k
  both_in_order (d ∷ xs) ys before h k =
      by (names_known d.body (is_among before)) h (λ l. both_in_order xs ys (before ++ d ∷ []) l (ap (order_fault_behind ys) (append_assoc before (d ∷ []) xs) ∙ k))
    where
      by : (b : Bool) → (if b then order_fault_behind xs (before ++ d ∷ []) else Some (length before)) ≡ None
          → (order_fault_behind xs (before ++ d ∷ []) ≡ None → order_fault_behind (xs ++ ys) (before ++ d ∷ []) ≡ None) → (if b then order_fault_behind (xs ++ ys) (before ++ d ∷ []) else Some (length before)) ≡ None
      by true h more = more h
      by false h more = cc

  order_by_names : (ds a b : List Define) → ((n : List ℕ) → is_among a n ≡ is_among b n) → order_fault_behind ds a ≡ None → order_fault_behind ds b ≡ None
  order_by_names [] a b same h = refl
  order_by_names (d ∷ ds) a b same h =
      by (names_known d.body (is_among a)) refl h (order_by_names ds (a ++ d ∷ []) (b ++ d ∷ [])
      (λ n. list_any-append (λ (x : Define). same_name n x.name) a (d ∷ []) ∙ ap (λ (t : Bool). t || is_among (d ∷ []) n) (same n) ∙ sym (list_any-append (λ (x : Define). same_name n x.name) b (d ∷ []))))
    where
      by : (t : Bool) → names_known d.body (is_among a) ≡ t → (if t then order_fault_behind ds (a ++ d ∷ []) else Some (length a)) ≡ None
          → (order_fault_behind ds (a ++ d ∷ []) ≡ None → order_fault_behind ds (b ++ d ∷ []) ≡ None) → order_fault_behind (d ∷ ds) b ≡ None
      by true is h more =
          ap (λ (t : Bool). if t then order_fault_behind ds (b ++ d ∷ []) else Some (length b)) (ap (names_known d.body) (sym (fun_ext same)) ∙ is) ∙ more h
      by false is h more = cc

-- ---- two fillings

find_kept : (p q : EntryTree → Bool) (es : List EntryTree) → ((e : EntryTree) → p e ≡ true → q e ≡ true) → find p (filter q es) ≡ find p es
find_kept p q [] h = refl
find_kept p q (e ∷ es) h = by (q e) (p e) refl refl (find_kept p q es h)
  where
    by : (b c : Bool) → q e ≡ b → p e ≡ c → find p (filter q es) ≡ find p es → find p (cond b (e ∷ filter q es) (filter q es)) ≡ cond c (Some e) (find p es)
    by true c is has more = ap (λ (t : Bool). cond t (Some e) (find p (filter q es))) has ∙ ap (λ (o : Option EntryTree). cond c (Some e) o) more
    by false true is has more = absurd (both_ways (q e) is (h e has))
    by false false is has more = more

abbrev spec_pre : Option SpecTree → AssertionTree
spec_pre None = infinity
spec_pre (Some s) = s.pre

pre_by_spec : (o : Option EntryTree) → pre_in o ≡ spec_pre (option_map (λ (e : EntryTree). e.spec) o)
pre_by_spec None = refl
pre_by_spec (Some e) = refl

both_spec : (a : AssertionTree) (e : EntryTree) → HasBoth a e → e.spec ≡ record { pre = a; post = a }
both_spec a e h = λ i. record { pre = h.0 i; post = h.1 i }

module _ (u : CoreUnitTree) (fits : unit_fits u ≡ true) (given p q : ProofsTree) (a : Filled u given p) (b : Filled u given q) where
  given_entry : (r : ProofsTree) → Filled u given r → (f : ℕ) → has_entry given f ≡ true → entry_of r f ≡ entry_of given f
  given_entry r c f has =
      sym (find_kept (is_entry_of f) (λ (e : EntryTree). has_entry given e.function) r.functions (λ e h. ap (has_entry given) (eqb-true e.function f h) ∙ has)) ∙ ap (find (is_entry_of f)) c.kept

  abbrev IsSame : ℕ → Type 0
  IsSame f = spec_of p f ≡ spec_of q f

  of_given : (f : ℕ) → has_entry given f ≡ true → entry_of p f ≡ entry_of q f
  of_given f has = given_entry p a f has ∙ sym (given_entry q b f has)

  same_of_given : (f : ℕ) → has_entry given f ≡ true → IsSame f
  same_of_given f has = ap (option_map (λ (e : EntryTree). e.spec)) (of_given f has)

  to_other : SameMembers a.opened b.opened
  to_other f m = b.are_open.all_there f (a.are_open.open_ones f m)

  from_other : SameMembers b.opened a.opened
  from_other f m = a.are_open.all_there f (b.are_open.open_ones f m)

  pre_same_by : (f : ℕ) → IsSame f → pre_of p f ≡ pre_of q f
  pre_same_by f s = pre_by_spec (entry_of p f) ∙ ap spec_pre s ∙ sym (pre_by_spec (entry_of q f))

  -- a function without an entry of the file, whose callees have the same specifications
  same_one : (f : ℕ) → f < length u.functions → has_entry given f ≡ false → ((g : ℕ) → is_member g (called_by u f) ≡ true → IsSame g) → IsSame f
  same_one f within free callees =
      let d = one_there (is_entry_of f) p.functions (a.one f within free) in
      let e = one_there (is_entry_of f) q.functions (b.one f within free) in
      let pres : path_pre p (called_by u f) ≡ path_pre q (called_by u f) = same_pre p q (called_by u f) (λ g m. pre_same_by g (callees g m)) in
      let specs : d.0.spec ≡ e.0.spec = ⊎_elim
      (λ (m : is_member f a.opened ≡ true).
      both_spec _ d.0 (a.of_open f d.0 m d.1) ∙ sym (both_spec _ e.0 (b.of_open f e.0 (to_other f m) e.1)))
      (λ (m : is_member f a.opened ≡ false).
      both_spec _ d.0 (a.of_others f d.0 free m d.1)
      ∙ ap (λ (x : AssertionTree). record { pre = x; post = x }) pres
      ∙ sym (both_spec _ e.0 (b.of_others f e.0 free (false_from_ne_true (is_member f b.opened) (λ k. both_ways (is_member f a.opened) m (from_other f k))) e.1)))
      (cases_Bool (is_member f a.opened)) in
      ap (option_map (λ (x : EntryTree). x.spec)) d.1 ∙ ap Some specs ∙ sym (ap (option_map (λ (x : EntryTree). x.spec)) e.1)

  same_in_order :
      (earlier fs : List ℕ) → CalleesFirst (called_by u) (has_entry given) earlier fs → ((f : ℕ) → is_member f fs ≡ true → f < length u.functions)
      → ((f : ℕ) → is_member f fs ≡ true → has_entry given f ≡ false) → ((f : ℕ) → is_member f earlier ≡ true → IsSame f) → (f : ℕ) → is_member f fs ≡ true → IsSame f
  same_in_order earlier [] c within free known f m = absurd (both_ways false refl m)
  same_in_order earlier (g ∷ fs) c within free known f m =
      let here : IsSame g = same_one g (within g (member_first g fs)) (free g (member_first g fs)) (λ h k. ⊎_elim
      (λ (has : has_entry given h ≡ true). same_of_given h has)
      (λ (no : has_entry given h ≡ false). known h (c.1 h k no)) (cases_Bool (has_entry given h))) in
      ⊎_elim
      (λ (e : g ≡ f). subst IsSame e here)
      (λ (k : is_member f fs ≡ true). same_in_order (g ∷ earlier) fs c.2 (λ x n. within x (or_right (g == x) (is_member x fs) n)) (λ x n. free x (or_right (g == x) (is_member x fs) n))
      (λ x n. ⊎_elim (λ (e : g ≡ x). subst IsSame e here) (λ (n : is_member x earlier ≡ true). known x n) (first_cases x g earlier n)) f k)
      (first_cases f g fs m)

  -- a number without a function has no entry
  none_beyond : (r : ProofsTree) → Filled u given r → (f : ℕ) → (f < length u.functions → ⊥) → spec_of r f ≡ None
  none_beyond r c f late = by (entry_of r f) refl
    where
      by : (o : Option EntryTree) → entry_of r f ≡ o → option_map (λ (e : EntryTree). e.spec) o ≡ None
      by None is = refl
      by (Some e) is = absurd (late (c.known e f is))

  -- ---- the fault of an entry

  module _ (same : (f : ℕ) → IsSame f) (order : IsInOrder p.defines) where
    known_a : AreWithin u a.opened
    known_a f m = (a.are_open.open_ones f m).known

    known_b : AreWithin u b.opened
    known_b f m = (b.are_open.open_ones f m).known

    alike : (n : List ℕ) → definition p.defines n ≡ definition q.defines n
    alike n =
        ap (λ (ds : List Define). definition ds n) a.defines ∙ defined_same u fits given.defines a.opened b.opened known_a known_b to_other from_other n
        ∙ sym (ap (λ (ds : List Define). definition ds n) b.defines)

    other_order : IsInOrder q.defines
    other_order =
        let behind_a = first_in_order u (opens u a.opened) given.defines [] (ap (λ (ds : List Define). order_fault_behind ds []) (sym a.defines) ∙ order) in
        ap (λ (ds : List Define). order_fault_behind ds []) b.defines
        ∙ both_in_order u (opens u b.opened) given.defines [] (in_order u [] b.opened [] b.are_open.in_order (λ g m. absurd (both_ways false refl m)))
        (order_by_names u given.defines (opens u a.opened) (opens u b.opened) (among_same u a.opened b.opened to_other from_other) behind_a)

    body_same : (f : CoreFunctionTree) (e : EntryTree) → pre e.body (scope_of u p f) (core.seq f.body) (function_posts e.spec.post) ≡ pre e.body (scope_of u q f) (core.seq f.body) (function_posts e.spec.post)
    body_same f e =
        ap (λ (specs : ℕ → Option SpecTree). pre e.body (record { resource = Stack; function = f; functions = u.functions; specs = specs; defines = p.defines }) (core.seq f.body) (function_posts e.spec.post)) (fun_ext same)
        ∙ pre_same p.defines q.defines alike f u.functions (spec_of q) e.body (core.seq f.body) (function_posts e.spec.post)

    fault_same : (f : CoreFunctionTree) (e : EntryTree) → fault_in u p f e ≡ fault_in u q f e
    fault_same f e =
        λ i. option_or (order_told ((order ∙ sym other_order) i))
        (option_or (mentions_fault in_precondition (first_other f (in_pre f) e.spec.pre))
        (option_or (mentions_fault in_postcondition (first_other f (in_post f) e.spec.post))
        (option_or (mentions_fault in_postcondition (result_at_end f e.spec.post))
        (fault_or (λ (fault : DerivFault). fault) (body_same f e i)
        (λ x. entry_told (verdict_same p.defines q.defines alike [] e.spec.pre (assertion_image as_plain x) e.entry i))))))

    known_same : (o : Option CoreFunctionTree) (e : EntryTree) → fault_of_known u p o e ≡ fault_of_known u q o e
    known_same None e = refl
    known_same (Some f) e = fault_same f e

    pub derived_so : GivenAreDerived u given p → GivenAreDerived u given q
    derived_so derived f e within has is =
        sym (known_same (slice_get u.functions e.function) e) ∙ derived f e within has (of_given f has ∙ is)

    pub order_so : IsInOrder q.defines
    order_so = other_order

-- all have the same specifications, where what is filled has an order
all_same : (u : CoreUnitTree) (fits : unit_fits u ≡ true) (given p q : ProofsTree) (a : Filled u given p) (all : AreAll u given q) → (f : ℕ) → spec_of p f ≡ spec_of q f
all_same u fits given p q a all f =
    let order = all.filling.are.order in
    let fs = numbers all.filling.additions.functions.items in
    let free : (g : ℕ) → is_member g fs ≡ true → has_entry given g ≡ false = λ g m. none_passes (has_entry given) fs g order.none m in
    let in_fs = same_in_order u fits given p q a all.filled [] fs order.in_order order.known free (λ g m. absurd (both_ways false refl m)) in
    ⊎_elim
    (λ (has : has_entry given f ≡ true). same_of_given u fits given p q a all.filled f has)
    (λ (no : has_entry given f ≡ false). ⊎_elim
    (λ (b : f < length u.functions). in_fs f (order.all_there f b no))
    (λ (late : length u.functions ≤ f).
    none_beyond u fits given p q a all.filled p a f (λ b. omega (arith, b, late)) ∙ sym (none_beyond u fits given p q a all.filled q all.filled f (λ b. omega (arith, b, late))))
    (cases_lt f (length u.functions)))
    (cases_Bool (has_entry given f))

pub one_filling_is_enough : OneFillingIsEnough
one_filling_is_enough u given proofs fits none filled order derived = record {
  no_cycle = none;
  in_order = λ others all. order_so u fits given proofs others filled all.filled (all_same u fits given proofs others filled all) order;
  derived = λ others all. derived_so u fits given proofs others filled all.filled (all_same u fits given proofs others filled all) order derived;
}
