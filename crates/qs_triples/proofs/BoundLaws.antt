-- Derivations bound runs.
use Rattle.std.proofs.Common.{◌≡◌, ⊎_elim, ℕ, zero, suc, ◌+◌, ◌==◌, Bool, true, false, List, [], ◌∷◌, length, Option, Some, None, option_map, refl, sym, ap, ◌∙◌, subst}
use Rattle.std.specs.Prelude.{cond, filter}
use Rattle.std.specs.List.{slice_get, find, list_any}
use Rattle.std.proofs.lemmas.Option.{slice_get_within}
use Rattle.qs_events.specs.Weights.{Costs, run_weight_by}
use Rattle.qs_memory.specs.Values.{Value}
use Rattle.qs_calls.specs.World.{World, leaves}
use Rattle.qs_calls.specs.Starts.{MayStart}
use Rattle.qs_assert.specs.Trees.{AssertionTree}
use Rattle.qs_assert.specs.Values.{Extended, finite, plus, value}
use Rattle.qs_entail.specs.Meaning.{AtLeast}
use Rattle.qs_entail.proofs.Amounts.{at_least_itself}
use Rattle.qs_core.specs.Trees.{CoreFunctionTree, CoreUnitTree}
use Rattle.qs_core.specs.CallGraph.{callees_of}
use Rattle.qs_core.specs.Interfaces.{interface_of}
use Rattle.qs_core.specs.Units.{calls_within, core_run}
use Rattle.qs_core.specs.Fits.{unit_fits}
use Rattle.qs_triples.specs.declared.resource.Resource.{Resource}
use Rattle.qs_triples.specs.declared.resource.Resource.TheVariants.{Stack}
use Rattle.qs_triples.specs.Resources.{given_back, metric_of}
use Rattle.qs_triples.specs.Derivations.{SpecTree, EntryTree, ProofsTree, is_entry_of, entry_of, spec_of}
use Rattle.qs_triples.specs.Valuations.{number_at, at_entry, at_exit, entered, value_at_entry}
use Rattle.qs_triples.specs.Entries.{function_posts, AreClosed, IsDerived, IsPathEntry, IsValid, Covers}
use Rattle.qs_triples.specs.Laws.{DerivationsBoundRuns}
use Rattle.qs_triples.proofs.Bounds.{zero_below, at_top}
use Rattle.qs_triples.proofs.Names.{closed_value, seen, state_is}
use Rattle.qs_triples.proofs.RuleLaws.{at_valuation, KeepsSpec, AllKeepSpecs, AreEnough}
use Rattle.qs_triples.proofs.FunctionLaws.{entry_is_of, derived_parts, BodyFits, keeps_spec, derived_body}
use Rattle.qs_triples.proofs.PathLaws.{stmts_stay}

-- ---- entries

pub first_there : (es : List EntryTree) (g : ℕ) → length (filter (is_entry_of g) es) ≡ 1 → (e : EntryTree) × (find (is_entry_of g) es ≡ Some e)
first_there [] g h = cc
first_there (d ∷ es) g h = by (is_entry_of g d) refl (first_there es g)
  where
    by :
        (b : Bool) → is_entry_of g d ≡ b → (length (filter (is_entry_of g) es) ≡ 1 → (e : EntryTree) × (find (is_entry_of g) es ≡ Some e))
        → (e : EntryTree) × (find (is_entry_of g) (d ∷ es) ≡ Some e)
    by true is others = (d, ap (λ b. cond b (Some d) (find (is_entry_of g) es)) is)
    by false is others =
        let r = others (sym (ap (λ b. length (cond b (d ∷ filter (is_entry_of g) es) (filter (is_entry_of g) es))) is) ∙ h) in
        (r.0, ap (λ b. cond b (Some d) (find (is_entry_of g) es)) is ∙ r.1)

spec_there : (proofs : ProofsTree) (g : ℕ) (spec : SpecTree) → spec_of proofs g ≡ Some spec → (e : EntryTree) × ((entry_of proofs g ≡ Some e) × (e.spec ≡ spec))
spec_there proofs g spec h = by (entry_of proofs g) refl h
  where
    by : (o : Option EntryTree) → entry_of proofs g ≡ o → option_map (λ (e : EntryTree). e.spec) o ≡ Some spec → (e : EntryTree) × ((entry_of proofs g ≡ Some e) × (e.spec ≡ spec))
    by None is h = cc
    by (Some e) is h = (e, (is, some_spec e.spec spec h))
      where
        some_spec : (a b : SpecTree) → Some a ≡ Some b → a ≡ b
        some_spec a b h = cc

-- ---- all functions

-- The bodies of functions with an entry fit, where calls keep specifications. Then calls keep them at each depth, and the
-- entries bound runs.
module _
    (u : CoreUnitTree) (fits : unit_fits u ≡ true) (proofs : ProofsTree) (closed : AreClosed proofs.defines) (resource : Resource) (cost : Costs)
    (bodies : (turns depth : ℕ) → AllKeepSpecs resource cost u proofs.defines (spec_of proofs) (calls_within u turns depth)
    → (g : ℕ) (f : CoreFunctionTree) (e : EntryTree) → slice_get u.functions g ≡ Some f → entry_of proofs g ≡ Some e
    → BodyFits u fits proofs closed resource cost turns (calls_within u turns depth) f e.spec)
  where
    -- all functions keep their specifications, at each depth of calls
    all_keep : (turns depth : ℕ) → AllKeepSpecs resource cost u proofs.defines (spec_of proofs) (calls_within u turns depth)
    all_keep turns zero g f spec is has = λ x arguments k w may after. zero_below (at_valuation cost proofs.defines f (at_entry f arguments) spec.pre) (cost g + x)
    all_keep turns (suc depth) g f spec is has =
        let e = spec_there proofs g spec has in
        subst (λ (s : SpecTree). KeepsSpec resource cost u proofs.defines (calls_within u turns (suc depth)) g f s) e.1.1
        (keeps_spec u fits proofs closed resource cost turns depth g f e.0.spec is (bodies turns depth (all_keep turns depth) g f e.0 is e.1.0))

    pub root_is_bounded :
        (root : ℕ) (f : CoreFunctionTree) (e : EntryTree) (arguments : List Value) (w : World) → slice_get u.functions root ≡ Some f
        → entry_of proofs root ≡ Some e → MayStart (interface_of u) root arguments w → (n : ℕ)
        → AtLeast (plus (finite (cost root)) (value_at_entry cost proofs.defines f arguments e.spec.pre)) (finite (run_weight_by (metric_of resource cost) (core_run u root arguments w n)))
    root_is_bounded root f e arguments w is has may n =
        subst (λ (v : Extended). AtLeast (plus (finite (cost root)) v) (finite (run_weight_by (metric_of resource cost) (core_run u root arguments w n))))
        (ap (value e.spec.pre) (sym (state_is cost proofs.defines closed (number_at f (at_entry f arguments)))))
        (at_top (cost root) (run_weight_by (metric_of resource cost) (core_run u root arguments w n)) (at_valuation cost proofs.defines f (at_entry f arguments) e.spec.pre)
        (all_keep n n root f e.spec is (ap (option_map (λ (e : EntryTree). e.spec)) has) 0 arguments leaves w may
        (λ result z ret. zero_below _ (given_back resource cost root + 0))))

-- ---- on the stack

module _ (u : CoreUnitTree) (fits : unit_fits u ≡ true) (given proofs : ProofsTree) (covers : Covers u given proofs) (cost : Costs) where
  abbrev closed : AreClosed proofs.defines
  closed = covers.closed

  known : (g : ℕ) (f : CoreFunctionTree) → slice_get u.functions g ≡ Some f → (e : EntryTree) × (entry_of proofs g ≡ Some e)
  known g f is = first_there proofs.functions g (covers.one g (slice_get_within u.functions g f is))

  path_body :
      (turns depth : ℕ) → AllKeepSpecs Stack cost u proofs.defines (spec_of proofs) (calls_within u turns depth)
      → (f : CoreFunctionTree) (e : EntryTree) → slice_get u.functions e.function ≡ Some f → IsPathEntry u proofs e
      → BodyFits u fits proofs closed Stack cost turns (calls_within u turns depth) f e.spec
  path_body turns depth keep f e is path = record {
    need = λ arguments. e.spec.pre;
    enough = λ start arguments.
        subst (λ (post : AssertionTree). AreEnough u fits Stack cost proofs.defines closed f start (entered f arguments) turns (calls_within u turns depth) e.spec.pre f.body (function_posts post)) (sym path.balanced)
        (stmts_stay u fits cost proofs closed known turns depth keep f start (entered f arguments) e.spec.pre path.closed f.body
        (λ g calls fg d arguments here has.
        let paid = path.pays g (ap (λ (o : Option CoreFunctionTree). list_any (λ h. h == g) (callees_of o)) is ∙ calls) cost fg d arguments here has in
        let same = state_is cost proofs.defines closed (number_at fg (at_entry fg arguments)) in
        subst (λ s. AtLeast (value e.spec.pre s) (plus (finite (cost g)) (value d.spec.pre s))) same paid));
    least = λ arguments. at_least_itself (at_valuation cost proofs.defines f (at_entry f arguments) e.spec.pre);
    exits = λ v old result p q.
        ap (λ (a : AssertionTree). at_valuation cost proofs.defines f v a) path.balanced
        ∙ closed_value e.spec.pre (seen cost proofs.defines (number_at f v)) (number_at f v) (number_at f (at_exit old result)) path.closed
        ∙ sym (ap (λ (a : AssertionTree). at_valuation cost proofs.defines f (at_exit old result) a) path.balanced);
  }

  valid_body :
      (turns depth : ℕ) → AllKeepSpecs Stack cost u proofs.defines (spec_of proofs) (calls_within u turns depth)
      → (g : ℕ) (f : CoreFunctionTree) (e : EntryTree) → slice_get u.functions g ≡ Some f → entry_of proofs g ≡ Some e
      → BodyFits u fits proofs closed Stack cost turns (calls_within u turns depth) f e.spec
  valid_body turns depth keep g f e is has =
      let here : slice_get u.functions e.function ≡ Some f = ap (slice_get u.functions) (entry_is_of proofs g e has) ∙ is in
      ⊎_elim (λ (d : IsDerived u proofs e). derived_body u fits proofs closed Stack cost turns (calls_within u turns depth) f e keep (derived_parts u proofs f e here d))
      (λ (p : IsPathEntry u proofs e). path_body turns depth keep f e here p) (covers.valid g e (slice_get_within u.functions g f is) has)

pub derivations_bound_runs : DerivationsBoundRuns
derivations_bound_runs u given proofs root f e arguments w fits covers is has may cost n =
    root_is_bounded u fits proofs covers.closed Stack cost (valid_body u fits given proofs covers cost) root f e arguments w is has may n
