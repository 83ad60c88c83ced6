-- Each entry that is added pays for its calls.
use Rattle.std.proofs.Common.{◌≡◌, ℕ, Bool, true, false, List, [], ⊎_elim, refl, sym, ap, ◌∙◌, subst}
use Rattle.std.specs.Prelude.{ℤ, if◌then◌else◌, Some}
use Rattle.std.specs.List.{list_any}
use Rattle.std.proofs.lemmas.Bool.{or_parts, cases_Bool}
use Rattle.qs_memory.specs.Values.{Value}
use Rattle.qs_events.specs.Weights.{Costs}
use Rattle.qs_assert.specs.declared.define.Define.{Define}
use Rattle.qs_assert.specs.declared.variable.Var.{Var}
use Rattle.qs_assert.specs.Trees.{AssertionTree, infinity}
use Rattle.qs_assert.specs.Values.{State, Extended, finite, or_infinite, plus, value}
use Rattle.qs_assert.specs.Variables.{variables}
use Rattle.qs_core.specs.CallGraph.{called_by, HasCall, IsOpen, first_call, is_member}
use Rattle.qs_core.specs.Fits.{unit_fits}
use Rattle.qs_core.specs.Trees.{CoreFunctionTree, CoreUnitTree}
use Rattle.qs_entail.specs.Meaning.{AtLeast}
use Rattle.qs_triples.specs.Derivations.{EntryTree, ProofsTree, entry_of}
use Rattle.qs_triples.specs.Entries.{IsPathEntry, PaysFor, has_entry}
use Rattle.qs_triples.specs.Filled.{for_calls, has_variables, is_infinity, is_useless, pre_in, pre_of, HasBoth, Filled}
use Rattle.qs_triples.specs.Valuations.{state_of, number_at, at_entry}
use Rattle.qs_triples.proofs.FunctionLaws.{entry_is_of}
use Rattle.qs_callgraph.proofs.MemberLaws.{none_passes}
use Rattle.qs_callgraph.proofs.UnitCalls.{calls_within, is_listed}
use Rattle.qs_analyse.specs.Laws.{FilledEntriesAreValid}
use Rattle.qs_analyse.proofs.NeedLaws.{calls_pay, calls_closed, no_variables}
use Rattle.qs_analyse.proofs.OpenNames.{by_name, open_body, names_are, costs_of_state}

-- what an open function calls is open
pub open_calls_open : (u : CoreUnitTree) (has_spec : ℕ → Bool) (f g : ℕ) → unit_fits u ≡ true → IsOpen u has_spec f → HasCall u f g → IsOpen u has_spec g
open_calls_open u has_spec f g fits o h = record { known = calls_within u f g fits h; none = λ k l. o.none k (first_call f g k h l) }

module _ (u : CoreUnitTree) (fits : unit_fits u ≡ true) (given proofs : ProofsTree) (filled : Filled u given proofs) where
  -- the value of an open function's name
  pub open_value :
      (cost : Costs) (numbers : Var → ℤ) (f : ℕ) → is_member f filled.opened ≡ true
      → value (by_name u f) (state_of cost proofs.defines numbers) ≡ value (open_body u f) (state_of cost proofs.defines numbers)
  open_value cost numbers f m =
      subst (λ (ds : List Define). value (by_name u f) (state_of cost ds numbers) ≡ value (open_body u f) (state_of cost ds numbers)) (sym filled.defines)
      (ap or_infinite (names_are u fits filled.opened given.defines cost numbers filled.are_open.in_order (λ g k. (filled.are_open.open_ones g k).known) f m))

  callee_open : (f g : ℕ) → is_member f filled.opened ≡ true → HasCall u f g → is_member g filled.opened ≡ true
  callee_open f g m h = filled.are_open.all_there g (open_calls_open u (has_entry given) f g fits (filled.are_open.open_ones f m) h)

  -- what pays at a state pays at the entry of the callee
  pays_at :
      (f : ℕ) (a need : AssertionTree) (g : ℕ) (cost : Costs) (function : CoreFunctionTree) (arguments : List Value)
      → AtLeast (value a (state_of cost proofs.defines (number_at function (at_entry function arguments))))
      (plus (finite ((state_of cost proofs.defines (number_at function (at_entry function arguments))).costs g)) (value need (state_of cost proofs.defines (number_at function (at_entry function arguments)))))
      → AtLeast (value a (state_of cost proofs.defines (number_at function (at_entry function arguments))))
      (plus (finite (cost g)) (value need (state_of cost proofs.defines (number_at function (at_entry function arguments)))))
  pays_at f a need g cost function arguments h =
      subst (λ (costs : ℕ → ℕ). AtLeast (value a (state_of cost proofs.defines (number_at function (at_entry function arguments))))
      (plus (finite (costs g)) (value need (state_of cost proofs.defines (number_at function (at_entry function arguments))))))
      (costs_of_state cost proofs.defines (number_at function (at_entry function arguments))) h

  open_pays : (f g : ℕ) → is_member f filled.opened ≡ true → HasCall u f g → PaysFor u proofs (by_name u f) g
  open_pays f g m h cost function d arguments here has =
      let s : State = state_of cost proofs.defines (number_at function (at_entry function arguments)) in
      let listed = is_listed u f g h (calls_within u f g fits h) in
      let need : d.spec.pre ≡ by_name u g = (filled.of_open g d (callee_open f g m h) has).0 in
      subst (λ (a : AssertionTree). AtLeast (value (by_name u f) s) (plus (finite (cost g)) (value a s))) (sym need)
      (pays_at f (by_name u f) (by_name u g) g cost function arguments
      (subst (λ (v : Extended). AtLeast v (plus (finite (s.costs g)) (value (by_name u g) s))) (sym (open_value cost (number_at function (at_entry function arguments)) f m))
      (calls_pay (by_name u) (called_by u f) s g listed)))

  finite_pays : (f g : ℕ) → HasCall u f g → PaysFor u proofs (for_calls (pre_of proofs) (called_by u f)) g
  finite_pays f g h cost function d arguments here has =
      let s : State = state_of cost proofs.defines (number_at function (at_entry function arguments)) in
      let listed = is_listed u f g h (calls_within u f g fits h) in
      subst (λ (a : AssertionTree). AtLeast (value (for_calls (pre_of proofs) (called_by u f)) s) (plus (finite (cost g)) (value a s))) (ap pre_in has)
      (pays_at f (for_calls (pre_of proofs) (called_by u f)) (pre_of proofs g) g cost function arguments
      (calls_pay (pre_of proofs) (called_by u f) s g listed))

  -- an entry whose precondition mentions no variable, and pays
  with_pre :
      (f : ℕ) (e : EntryTree) (a : AssertionTree) → entry_of proofs f ≡ Some e → HasBoth a e → variables a ≡ []
      → ((g : ℕ) → HasCall u f g → PaysFor u proofs a g) → IsPathEntry u proofs e
  with_pre f e a has both closed pays = record {
    balanced = both.1 ∙ sym both.0;
    closed = ap variables both.0 ∙ closed;
    pays = λ g h. subst (λ (b : AssertionTree). PaysFor u proofs b g) (sym both.0) (pays g (subst (λ (x : ℕ). HasCall u x g) (entry_is_of proofs f e has) h));
  }

  other_entry : (f : ℕ) (e : EntryTree) (b : Bool) → list_any (λ g. is_useless (pre_of proofs g)) (called_by u f) ≡ b → entry_of proofs f ≡ Some e
      → HasBoth (if b then infinity else for_calls (pre_of proofs) (called_by u f)) e → IsPathEntry u proofs e
  other_entry f e true useless has both = with_pre f e infinity has both refl (λ g h cost function d arguments here there. tt)
  other_entry f e false useless has both =
      with_pre f e (for_calls (pre_of proofs) (called_by u f)) has both
      (calls_closed (pre_of proofs) (called_by u f) (λ g m. no_variables (pre_of proofs g)
      (or_parts (has_variables (pre_of proofs g)) (is_infinity (pre_of proofs g)) (none_passes (λ g. is_useless (pre_of proofs g)) (called_by u f) g useless m)).0))
      (λ g h. finite_pays f g h)

  pub is_path : (f : ℕ) (e : EntryTree) → has_entry given f ≡ false → entry_of proofs f ≡ Some e → IsPathEntry u proofs e
  is_path f e free has =
      ⊎_elim
      (λ (m : is_member f filled.opened ≡ true). with_pre f e (by_name u f) has (filled.of_open f e m has) refl (λ g h. open_pays f g m h))
      (λ (m : is_member f filled.opened ≡ false).
      let both = filled.of_others f e free m has in
      other_entry f e (list_any (λ g. is_useless (pre_of proofs g)) (called_by u f)) refl has both)
      (cases_Bool (is_member f filled.opened))

pub filled_entries_are_valid : FilledEntriesAreValid
filled_entries_are_valid u given proofs f e fits filled free has = is_path u fits given proofs filled f e free has
