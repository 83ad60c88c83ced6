-- Flags for the functions that have an entry.
use Rattle.std.proofs.Common.{◌≡◌, ℕ, ◌<◌, ◌==◌, ◌||◌, Bool, true, false, List, [], ◌∷◌, length, replicate, sym, ap, ◌∙◌, subst, refl}
use Rattle.std.specs.List.{list_any}
use Rattle.std.proofs.lemmas.List.{get_or-replicate, length-replicate}
use Rattle.std.proofs.lemmas.Bool.{or_right}
use Rattle.qs_core.specs.CallGraph.{called_by, is_member}
use Rattle.qs_core.specs.Trees.{CoreUnitTree}
use Rattle.qs_triples.specs.Derivations.{EntryTree, is_entry_of}
use Rattle.qs_triples.specs.Entries.{has_entry}
use Rattle.qs_callgraph.specs.CallLists.{flag, marked, numbers}
use Rattle.qs_callgraph.specs.Opens.{AreOf}
use Rattle.qs_callgraph.specs.Orders.{CalleesFirst, DepthFirst, ended, passes, enters, IsDepthFirst, IsOrder, IsTrueCycle}
use Rattle.qs_callgraph.specs.declared.fault.CycleFault.{CycleFault}
use Rattle.qs_callgraph.specs.declared.fault.CycleFault.TheVariants.{NoMemory, Cycle}
use Rattle.qs_callgraph.proofs.MarkLaws.{flag-marked, length-marked}
use Rattle.qs_callgraph.proofs.MemberLaws.{below_member, member_first, none_pass, none_passes}
use Rattle.qs_callgraph.proofs.OrderLaws.{circle_known}
use Rattle.qs_callgraph.proofs.UnitCalls.{call_within}
use Rattle.qs_analyse.specs.Fillable.{entries_only, entry_functions}
use Rattle.qs_analyse.proofs.AddedLaws.{found}

any_entry : (es : List EntryTree) (f : ℕ) → list_any (is_entry_of f) es ≡ is_member f (entry_functions es)
any_entry [] f = refl
any_entry (e ∷ es) f = ap (λ (b : Bool). (e.function == f) || b) (any_entry es f)

pub entries_flagged :
    (u : CoreUnitTree) (es : List EntryTree) (flags : List Bool) → flags ≡ marked (entry_functions es) (replicate (length u.functions) false)
    → AreOf u (has_entry (entries_only es)) flags
entries_flagged u es flags is = record {
  as_many = ap length is ∙ length-marked (entry_functions es) (replicate (length u.functions) false) ∙ length-replicate (length u.functions) false;
  same = λ f b.
      ap (λ (marks : List Bool). flag marks f) is
      ∙ flag-marked (entry_functions es) (replicate (length u.functions) false) f (subst (λ (n : ℕ). f < n) (sym (length-replicate (length u.functions) false)) b)
      ∙ ap (λ (b : Bool). b || is_member f (entry_functions es)) (get_or-replicate (length u.functions) f false false b)
      ∙ sym (any_entry es f) ∙ sym (found (is_entry_of f) es);
}

module _ (u : CoreUnitTree) (test : ℕ → Bool) (flags : List Bool) (of : AreOf u test flags) where
  first_for : (earlier fs : List ℕ) → CalleesFirst (called_by u) (flag flags) earlier fs → CalleesFirst (called_by u) test earlier fs
  first_for earlier [] c = tt
  first_for earlier (f ∷ fs) c = (c.0, λ g m free. c.1 g m (of.same g (call_within u f g m) ∙ free), first_for (f ∷ earlier) fs c.2)

  pub order_for : (fs : List ℕ) → IsOrder u (flag flags) fs → IsOrder u test fs
  order_for fs o = record {
    known = o.known;
    none = none_pass test fs (λ f m. sym (of.same f (o.known f m)) ∙ none_passes (flag flags) fs f o.none m);
    all_there = λ f b free. o.all_there f b (of.same f b ∙ free);
    in_order = first_for [] fs o.in_order;
  }

  tested : (f : ℕ) (found : List ℕ) (b : Bool) → f < length u.functions → (flag flags f || is_member f found) ≡ b → (test f || is_member f found) ≡ b
  tested f found b within h = ap (λ (c : Bool). c || is_member f found) (sym (of.same f within)) ∙ h

  -- the search goes by the test, since it meets functions of the unit alone
  search_for :
      {found fs all : List ℕ} → ((f : ℕ) → is_member f fs ≡ true → f < length u.functions) → DepthFirst (called_by u) (flag flags) found fs all
      → DepthFirst (called_by u) test found fs all
  search_for within ended = ended
  search_for within (passes {f = f} {found = found} {fs = fs} h d) =
      passes (tested f found true (within f (member_first f fs)) h) (search_for (λ g m. within g (or_right (f == g) (is_member g fs) m)) d)
  search_for within (enters {f = f} {found = found} {fs = fs} h inner d) =
      enters (tested f found false (within f (member_first f fs)) h) (search_for (λ g m. call_within u f g m) inner)
      (search_for (λ g m. within g (or_right (f == g) (is_member g fs) m)) d)

  pub depth_first_for : (fs : List ℕ) → IsDepthFirst u (flag flags) fs → IsDepthFirst u test fs
  depth_first_for fs d = search_for (λ f m. below_member (length u.functions) f m) d

  pub cycle_for : (fault : CycleFault) → IsTrueCycle u (flag flags) fault → IsTrueCycle u test fault
  cycle_for NoMemory c = tt
  cycle_for (Cycle fs) c = record {
    circle = c.circle;
    none = none_pass test (numbers fs.items) (λ f m. sym (of.same f (circle_known u (numbers fs.items) f c.circle m)) ∙ none_passes (flag flags) (numbers fs.items) f c.none m);
  }
