-- Valid entries bound the weight of every call, at each depth of calls.
use Rattle.std.proofs.Common.{◌≡◌, ℕ, suc, ◌+◌, ◌==◌, Bool, true, false, List, [], ◌∷◌, length, Option, Some, None, option_map, refl, sym, ap, ◌∙◌, subst, arith}
use Rattle.std.specs.Prelude.{cond}
use Rattle.std.specs.List.{slice_get, find}
use Rattle.std.proofs.lemmas.Option.{slice_get-map, same_Some}
use Rattle.std.proofs.lemmas.Bool.{eqb-true}
use Rattle.qs_memory.specs.Values.{Value}
use Rattle.qs_memory.specs.Memory.{Memory, make, release}
use Rattle.qs_memory.proofs.BlockLaws.{after_make, blocks_are_fresh}
use Rattle.qs_memory.proofs.SoundLaws.{soundness_is_kept}
use Rattle.qs_events.specs.Events.{Returns}
use Rattle.qs_events.specs.Runs.{emit, given}
use Rattle.qs_events.specs.Weights.{Costs, Metric, run_weight_by}
use Rattle.qs_calls.specs.World.{World, with_memory, Return, Environment}
use Rattle.qs_calls.specs.Calls.{CallsOf, activate}
use Rattle.qs_calls.specs.Starts.{Signature, Takes, IsReturn}
use Rattle.qs_calls.proofs.StartLaws.{are_of_later, ready_later}
use Rattle.qs_assert.specs.declared.define.Define.{Define}
use Rattle.qs_assert.specs.declared.variable.VarKind.{VarKind}
use Rattle.qs_assert.specs.declared.variable.VarKind.TheVariants as kinds
use Rattle.qs_assert.specs.declared.variable.Var.{Var}
use Rattle.qs_assert.specs.Images.{assertion_image}
use Rattle.qs_assert.specs.Order.{order_fault, IsInOrder}
use Rattle.qs_assert.specs.Trees.{AssertionTree}
use Rattle.qs_assert.specs.Values.{Extended, term_value, value}
use Rattle.qs_assert.proofs.Agreement.{value_agrees}
use Rattle.qs_assert.proofs.VariableLaws.{of_its_variables}
use Rattle.qs_entail.specs.Faults as certificates
use Rattle.qs_entail.specs.Meaning.{AtLeast}
use Rattle.qs_entail.specs.Verdicts.{verdict}
use Rattle.qs_core.specs.Trees as core
use Rattle.qs_core.specs.Trees.{CoreFunctionTree, CoreUnitTree}
use Rattle.qs_core.specs.Interfaces.{parameter_types, signature, interface_of}
use Rattle.qs_core.specs.Units.{frame_of, body_of, after_function, calls_within}
use Rattle.qs_core.specs.Fits.{unit_fits}
use Rattle.qs_core.proofs.FitLaws.{function_at_fits}
use Rattle.qs_triples.specs.declared.resource.Resource.{Resource}
use Rattle.qs_triples.specs.declared.resource.Resource.TheVariants.{Stack}
use Rattle.qs_triples.specs.Resources.{given_back, metric_of}
use Rattle.qs_triples.specs.Derivations.{SpecTree, EntryTree, ProofsTree, is_entry_of, entry_of, spec_of}
use Rattle.qs_triples.specs.Valuations.{Valuation, value_of, number_at, within, entered, at_entry, at_exit}
use Rattle.qs_triples.specs.Mentions.{in_pre, in_post, first_other, plain_kind, plain_variable, as_plain}
use Rattle.qs_triples.specs.Rules.{Place, in_precondition, in_postcondition, pre}
use Rattle.qs_triples.specs.Entries.{function_posts, scope_for, mentions_fault, order_told, entry_told, result_at_end, fault_in_for, fault_of_known_for, IsDerivedFor, IsDerived, AreClosed}
use Rattle.qs_triples.proofs.Answers.{Gives, or_none, fault_or_none}
use Rattle.qs_triples.proofs.Bounds.{IsBelow, below_more, below_at, returned, entering}
use Rattle.qs_triples.proofs.Names.{seen, shown}
use Rattle.qs_triples.proofs.ValuationLaws.{in_range, mentioned_alone}
use Rattle.qs_triples.proofs.MomentLaws.{entry_locals, entry_below, returned_later}
use Rattle.qs_triples.proofs.RuleLaws.{at_valuation, KeepsSpec, AllKeepSpecs, AreEnough, sound}

-- ---- entries

found_entry : (es : List EntryTree) (g : ℕ) (e : EntryTree) → find (is_entry_of g) es ≡ Some e → e.function ≡ g
found_entry [] g e h = cc
found_entry (d ∷ es) g e h = by (d.function == g) refl h (found_entry es g e)
  where
    by : (b : Bool) → (d.function == g) ≡ b → cond b (Some d) (find (is_entry_of g) es) ≡ Some e → (find (is_entry_of g) es ≡ Some e → e.function ≡ g) → e.function ≡ g
    by true same h others = sym (ap (λ (e : EntryTree). e.function) (same_Some d e h)) ∙ eqb-true d.function g same
    by false same h others = others h

pub entry_is_of : (proofs : ProofsTree) (g : ℕ) (e : EntryTree) → entry_of proofs g ≡ Some e → e.function ≡ g
entry_is_of proofs g e h = found_entry proofs.functions g e h

-- what a derived entry says
pub record DerivedParts (resource : Resource) (u : CoreUnitTree) (proofs : ProofsTree) (f : CoreFunctionTree) (e : EntryTree) : Type 0 where
  pub order : IsInOrder proofs.defines
  pub pre_mentions : first_other f (in_pre f) e.spec.pre ≡ None
  pub post_mentions : first_other f (in_post f) e.spec.post ≡ None
  pub need : AssertionTree
  pub gives : Gives (pre e.body (scope_for resource u proofs f) (core.seq f.body) (function_posts e.spec.post)) need
  pub entered : verdict [] proofs.defines e.spec.pre (assertion_image as_plain need) e.entry ≡ None

order_none : (o : Option ℕ) → order_told o ≡ None → o ≡ None
order_none None h = refl
order_none (Some d) h = cc

mention_none : (place : Place) (o : Option Var) → mentions_fault place o ≡ None → o ≡ None
mention_none place None h = refl
mention_none place (Some x) h = cc

entry_none : (o : Option certificates.CertFault) → entry_told o ≡ None → o ≡ None
entry_none None h = refl
entry_none (Some fault) h = cc

derived_in : (resource : Resource) (u : CoreUnitTree) (proofs : ProofsTree) (f : CoreFunctionTree) (e : EntryTree) → fault_in_for resource u proofs f e ≡ None → DerivedParts resource u proofs f e
derived_in resource u proofs f e h =
    let a = or_none (order_told (order_fault proofs.defines)) _ h in
    let b = or_none (mentions_fault in_precondition (first_other f (in_pre f) e.spec.pre)) _ a.1 in
    let c = or_none (mentions_fault in_postcondition (first_other f (in_post f) e.spec.post)) _ b.1 in
    let d = or_none (mentions_fault in_postcondition (result_at_end f e.spec.post)) _ c.1 in
    let i = fault_or_none (pre e.body (scope_for resource u proofs f) (core.seq f.body) (function_posts e.spec.post)) _ d.1 in
    record {
      order = order_none (order_fault proofs.defines) a.0;
      pre_mentions = mention_none in_precondition _ b.0;
      post_mentions = mention_none in_postcondition _ c.0;
      need = i.0;
      gives = i.1.0;
      entered = entry_none _ i.1.1;
    }

pub derived_parts_for : (resource : Resource) (u : CoreUnitTree) (proofs : ProofsTree) (f : CoreFunctionTree) (e : EntryTree) → slice_get u.functions e.function ≡ Some f → IsDerivedFor resource u proofs e → DerivedParts resource u proofs f e
derived_parts_for resource u proofs f e is h = derived_in resource u proofs f e (ap (λ (o : Option CoreFunctionTree). fault_of_known_for resource u proofs o e) (sym is) ∙ h)

-- on the stack
pub derived_parts : (u : CoreUnitTree) (proofs : ProofsTree) (f : CoreFunctionTree) (e : EntryTree) → slice_get u.functions e.function ≡ Some f → IsDerived u proofs e → DerivedParts Stack u proofs f e
derived_parts u proofs f e is h = derived_parts_for Stack u proofs f e is h

-- ---- calls

module _ (u : CoreUnitTree) (fits : unit_fits u ≡ true) (proofs : ProofsTree) (closed : AreClosed proofs.defines) (resource : Resource) (cost : Costs) where
  abbrev ds : List Define
  ds = proofs.defines

  abbrev metric : Metric
  metric = metric_of resource cost

  -- the body of a function, entered with these values, needs at most what its call may take
  pub record BodyFits (turns : ℕ) (calls : CallsOf) (f : CoreFunctionTree) (spec : SpecTree) : Type 0 where
    pub need : (arguments : List Value) → AssertionTree
    pub enough : (start : Memory) (arguments : List Value) → AreEnough u fits resource cost ds closed f start (entered f arguments) turns calls (need arguments) f.body (function_posts spec.post)
    pub least : (arguments : List Value) → AtLeast (at_valuation cost ds f (at_entry f arguments) spec.pre) (at_valuation cost ds f (at_entry f arguments) (need arguments))
    -- the postcondition speaks of the values at the entry and of the result alone
    pub exits :
        (v : Valuation) (old : Environment) (result : Option Value) → v.old ≡ old → v.result ≡ result
        → at_valuation cost ds f v spec.post ≡ at_valuation cost ds f (at_exit old result) spec.post

  -- a call one deeper keeps a specification whose body fits
  pub keeps_spec :
      (turns depth g : ℕ) (f : CoreFunctionTree) (spec : SpecTree) → slice_get u.functions g ≡ Some f
      → BodyFits turns (calls_within u turns depth) f spec → KeepsSpec resource cost u ds (calls_within u turns (suc depth)) g f spec
  keeps_spec turns depth g f spec is body x arguments k w may after =
      let known : slice_get (interface_of u).functions g ≡ Some (signature f) = slice_get-map signature u.functions g ∙ ap (option_map signature) is in
      let fit = function_at_fits u fits g f is in
      let first : ℕ = length w.memory in
      let m : Memory = make f.blocks w.memory in
      let on = after_make f.blocks w.memory in
      let count = (blocks_are_fresh f.blocks w.memory).count in
      let are = subst (λ (o : Option Signature). Takes w.memory o arguments) known may.takes in
      let at_call : Extended = at_valuation cost ds f (at_entry f arguments) spec.pre in
      let ret : Return = λ result z. emit (Returns g) (k result (with_memory z (release first z.memory))) in
      let returns : (v : Valuation) (result : Option Value) (z : World) → v.old ≡ entered f arguments → v.result ≡ result → IsReturn (interface_of u) f.result_type w.memory result z → IsBelow (run_weight_by metric (ret result z)) (at_valuation cost ds f v spec.post) x =
      λ v result z same_old same_result r.
      below_at _ x (sym (body.exits v (entered f arguments) result same_old same_result))
      (returned (given_back resource cost g) _ x (at_valuation cost ds f (at_exit (entered f arguments) result) spec.post) (after result (with_memory z (release first z.memory)) (returned_later u f.result_type w.memory first result z r))) in
      subst (λ (o : Option CoreFunctionTree). IsBelow (run_weight_by metric (given o (λ f. activate g (frame_of f) (body_of f (record { turns = turns; calls = calls_within u turns depth })) arguments k w))) at_call (cost g + x)) (sym is)
      (entering (cost g) _ x at_call
      (entry_below metric at_call x u f w.memory first arguments (with_memory w m) _ fit.parameters
      (are_of_later w.memory m (parameter_types f) arguments on are)
      (ready_later (interface_of u) w m may.ready on (soundness_is_kept.make f.blocks w.memory may.ready.sound))
      on (omega (arith, count))
      (λ z moment.
      below_more _ (at_valuation cost ds f (at_entry f arguments) (body.need arguments)) at_call x
      (body.enough w.memory arguments false false fit.body x (after_function ret)
      (record {
        next = λ l z moment. returns (within (entered f arguments) l) None z refl refl (record { typed = tt; ready = moment.range.ready; after = moment.after });
        on_break = λ never. cc;
        on_continue = λ never. cc;
        on_return = λ result z l r. returns (record { variables = l.variables; temporaries = l.temporaries; old = entered f arguments; result = result }) result z refl refl r;
      })
      (entry_locals first (entered f arguments)) z moment)
      (body.least arguments))))

  -- ---- derived entries

  plain_value : (f : CoreFunctionTree) (arguments : List Value) (x : Var) → term_value (as_plain x) (seen cost ds (number_at f (at_entry f arguments))) ≡ number_at f (at_entry f arguments) x
  plain_value f arguments x = by x.kind refl
    where
      by : (k : VarKind) → x.kind ≡ k → number_at f (at_entry f arguments) (plain_variable x) ≡ number_at f (at_entry f arguments) x
      by k is =
          ap (λ (k : VarKind). number_at f (at_entry f arguments) (record { kind = plain_kind k; number = x.number })) is
          ∙ same k
          ∙ ap (λ (k : VarKind). number_at f (at_entry f arguments) (record { kind = k; number = x.number })) (sym is)
        where
          same : (k : VarKind) → number_at f (at_entry f arguments) (record { kind = plain_kind k; number = x.number }) ≡ number_at f (at_entry f arguments) (record { kind = k; number = x.number })
          same (kinds.Plain i) = refl
          same (kinds.Temporary i) = refl
          same (kinds.Old i) = refl
          same kinds.Returned = refl

  plain_same : (f : CoreFunctionTree) (arguments : List Value) (a : AssertionTree) → value (assertion_image as_plain a) (seen cost ds (number_at f (at_entry f arguments))) ≡ value a (seen cost ds (number_at f (at_entry f arguments)))
  plain_same f arguments a =
      value_agrees as_plain a (seen cost ds (number_at f (at_entry f arguments)))
      ∙ of_its_variables a (seen cost ds (number_at f (at_entry f arguments))) (λ x. term_value (as_plain x) (seen cost ds (number_at f (at_entry f arguments)))) (number_at f (at_entry f arguments)) (λ x h. plain_value f arguments x)

  exit_values : (f : CoreFunctionTree) (k : VarKind) → in_post f k ≡ true → (v : Valuation) (old : Environment) (result : Option Value) → v.old ≡ old → v.result ≡ result → value_of k v ≡ value_of k (at_exit old result)
  exit_values f (kinds.Plain i) h v old result p q = cc
  exit_values f (kinds.Temporary i) h v old result p q = cc
  exit_values f (kinds.Old i) h v old result p q = ap (λ (e : Environment). e i) p
  exit_values f kinds.Returned h v old result p q = q

  pub derived_body : (turns : ℕ) (calls : CallsOf) (f : CoreFunctionTree) (e : EntryTree) → AllKeepSpecs resource cost u ds (spec_of proofs) calls → DerivedParts resource u proofs f e → BodyFits turns calls f e.spec
  derived_body turns calls f e keep d = record {
    need = λ arguments. d.need;
    enough = λ start arguments b c fit x k ready.
        sound u fits resource cost ds closed f start (entered f arguments) turns calls (spec_of proofs) keep d.order u.functions refl e.body (core.seq f.body) (function_posts e.spec.post) d.need d.gives b c fit x k ready;
    least = λ arguments.
        subst (λ (v : Extended). AtLeast (at_valuation cost ds f (at_entry f arguments) e.spec.pre) v) (plain_same f arguments d.need)
        (shown cost ds closed d.order e.spec.pre (assertion_image as_plain d.need) e.entry d.entered (number_at f (at_entry f arguments)) (in_range cost ds f (at_entry f arguments)));
    exits = λ v old result p q.
        mentioned_alone f (in_post f) e.spec.post cost ds v (at_exit old result) d.post_mentions (λ k h. exit_values f k h v old result p q);
  }
