-- What follows of the promises of calls of `calls`.
use Rattle.std.proofs.Common.{◌≡◌, ◌∙◌, ℕ, ◌≤◌, true, ℤ, List, Some, refl, sym, ap, subst, inl}
use Rattle.qs_syntax.specs.Trees.{UnitTree}
use Rattle.qs_calls.specs.World.{RootRun}
use Rattle.qs_events.specs.Runs.{events_of}
use Rattle.qs_events.specs.Weights.{run_count, calls_in}
use Rattle.qs_core.specs.Fits.{unit_fits}
use Rattle.qs_core.specs.Trees.{CoreUnitTree}
use Rattle.qs_core.specs.Units.{initial_memory}
use Rattle.qs_core.specs.Units as core_units
use Rattle.qs_meaning.specs.Runs.{main_run}
use Rattle.qs_meaning.specs.Typed.{TypedProgram}
use Rattle.qs_assert.specs.Values.{finite}
use Rattle.qs_entail.specs.Meaning.{AtLeast}
use Rattle.qs_triples.specs.Derivations.{EntryTree, entry_of}
use Rattle.qs_prooftext.proofs.ReadSound.{read_of_unit}
use Rattle.qs_certify.specs.Bound.{values_of}
use Rattle.qs_certify.proofs.GivenLaws.{of_unit_fillable}
use Rattle.qs_certify.proofs.MainLaws.{Main, main_there, main_may}
use Rattle.qs_certify.proofs.MetLaws.{some_entry}
use Rattle.qs_count.specs.Laws.{CountsCalls, cost_of_call}
use Rattle.qs_count.proofs.CountLaws.{entries_bound_calls, main_count_bounds_calls}
use Rattle.qs_ports.specs.StoreView.{StoreView}
use Rattle.qs_cli.specs.Commands.{CallsWords}
use Rattle.qs_driver_steps.specs.Devices.{DevicesView, streams_of}
use Rattle.qs_driver_steps.specs.Files.{IsUntouched}
use Rattle.qs_driver_steps.specs.Runs.{Passed, IsMade}
use Rattle.qs_driver_steps.specs.Steps.{End}
use Rattle.qs_driver_steps.proofs.RunsLaws.{HasEnded, has_ended}
use Rattle.qs_driver_steps.proofs.SharedLaws.{passed_untouched}
use Rattle.qs_driver_steps.proofs.StoreLaws.{both_untouched}
use Rattle.qs_driver_steps.proofs.ThenLaws.{passed_both}
use Rattle.qs_driver_session.specs.Due.{Due}
use Rattle.qs_driver_session.specs.Limits.{proof_limit}
use Rattle.qs_driver_session.specs.Names.{file_name}
use Rattle.qs_driver_session.specs.Origin.{origin}
use Rattle.qs_driver_session.specs.PlainWords.{IsDone}
use Rattle.qs_driver_session.specs.Statuses.{tool, number_of}
use Rattle.qs_driver_session.specs.declared.status.Status.{Status}
use Rattle.qs_driver_session.proofs.EndLaws.{HasCome, has_come}
use Rattle.qs_driver_session.proofs.FilesLaws.{was_read_as}
use Rattle.qs_driver_session.proofs.LaterLaws.{was_read_before}
use Rattle.qs_driver_session.proofs.SeenLaws.{no_ends}
use Rattle.qs_driver_proofs.proofs.SourceReads.{HasText, passed_text}
use Rattle.qs_driver_calls.specs.Calls.{names_of, of_unit, calls, order_of}
use Rattle.qs_driver_calls.specs.Laws.{CountedSource, IsCountedAs, CountsRuns, HasCount, HasCounted, CallsInPlainWords, CountsAreBounds}
use Rattle.qs_driver_calls.proofs.CallsSteps.{calls_good}
use Rattle.qs_driver_calls.proofs.Refusals.{accepted, refused}

-- ---- the bound of a source

module _ (text file : List ℕ) (s : CountedSource) (c : IsCountedAs text file s) where
  abbrev program : TypedProgram
  program = c.core_is.has_core.typed

  fits : unit_fits s.core ≡ true
  fits = subst (λ (u : CoreUnitTree). unit_fits u ≡ true) c.core_is.is c.core_is.has_core.fits

  -- main runs in the core as in the source's typed tree
  follows : (args : List ℤ) (input : List ℕ) (n : ℕ) → core_units.main_run s.core (values_of args) input n ≡ main_run program (values_of args) input n
  follows args input n =
      ap (λ (u : CoreUnitTree). core_units.main_run u (values_of args) input n) (sym c.core_is.is)
      ∙ c.core_is.has_core.main_follows (values_of args) input n

  counts_calls : CountsCalls s.core s.given
  counts_calls = record {
    fits = fits;
    closed = (of_unit_fillable s.core s.given (read_of_unit s.core file s.given c.by.reads)).closed;
    counted = c.by.all.counted;
  }

  main : Main s.core
  main = main_there s.core fits

  entry : (e : EntryTree) × (entry_of s.given s.core.main ≡ Some e)
  entry = some_entry (entry_of s.given s.core.main) (c.by.covered s.core.main (inl refl))

  counts_runs : CountsRuns s program
  counts_runs = record {
    main = main.function;
    is_main = main.is;
    entry = entry.0;
    stands = entry.1;
    bounds = λ cost args input n are bytes.
        subst (λ (r : RootRun). AtLeast (cost_of_call cost s.given s.core.main main.function entry.0 (values_of args)) (finite (run_count cost r)))
        (follows args input n)
        (entries_bound_calls s.core s.given s.core.main main.function entry.0 (values_of args) (record { memory = initial_memory s.core; input = input })
        counts_calls main.is entry.1 (main_may s.core fits args are input bytes) cost n);
    counts = λ args input count n are bytes is.
        subst (λ (r : RootRun). calls_in (events_of r) ≤ count) (follows args input n)
        (main_count_bounds_calls s.core s.given args count input n counts_calls c.by.covered are bytes is);
  }

  pub has_count : HasCount s
  has_count = record { program = program; tree = c.core_is.has_core.tree; counts = counts_runs }

-- ---- what was read

module _ (w : CallsWords) (v u : StoreView) (unit : UnitTree) (from : HasText v w.source unit) (before : IsUntouched v u) where
  -- the proof file, behind the source
  of_file : (x y : StoreView) (e : End tool) → Passed (of_unit w unit) u x e → IsMade e.output x y → IsUntouched v x → HasCounted w v y e.due
  of_file x y e (a, file, r, (b, core, k, (c, given, g, (d, t, h, (i, l, o, (j, m, z, (p, q, are, (f, is)))))))) made untouched =
      let source : CountedSource = record { unit = unit; core = core; given = given } in
      let counts : IsCountedAs from.text file source = record {
        typed_as = from.typed_as;
        core_is = k.finds.so;
        by = record { reads = g.finds.so; covered = h.finds.so; all = record { in_order = o.finds.so; counted = z.finds.so } };
      } in
      record {
        text = from.text;
        file = file;
        source = source;
        text_read = from.read_as;
        file_read = was_read_before before (was_read_as u w.proof proof_limit file r.finds);
        is = counts;
        bounded = has_count from.text file source counts;
        arguments = are.finds.so;
        untouched = both_untouched untouched (subst (λ (end : End tool). IsMade end.output x y) is made);
        is_due = ap (λ (end : End tool). end.due) is;
      }

has_counted : (w : CallsWords) (v x y : StoreView) (e : End tool) → Passed (calls w) v x e → IsMade e.output x y → HasCounted w v y e.due
has_counted w v x y e passed made =
    let both = passed_both (of_unit w) (origin w.source) v x e passed in
    of_file w v both.0 both.1 (passed_text w.source v both.0 both.1 both.2) (passed_untouched (origin w.source) v both.0 both.1 both.2)
    x y e both.3 made (passed_untouched (calls w) v x e passed)

pub counts_are_bounds : CountsAreBounds
counts_are_bounds w v x due runs is =
    let good = calls_good w in
    let h : HasEnded (calls w) v x due = has_ended no_ends (calls w) 1 good.lawful good.ordered (file_name (names_of w)) v x due runs (ap number_of is) in
    subst (λ (d : Due). HasCounted w v x d) (sym h.is_due) (has_counted w v h.passed_at x h.end h.passed h.made)

counts : (w : CallsWords) (v x : DevicesView) (status : Status) → HasCome (order_of w) v x status → IsDone (HasCounted w v.store x.store) (streams_of v) (streams_of x) status
counts w v x status h = record {
  due = h.ended.end.due;
  so = has_counted w v.store h.ended.passed_at x.store h.ended.end h.ended.passed h.ended.made;
  status_is = h.status_is;
  put = h.put;
}

-- ---- the promises

pub calls_in_plain_words : CallsInPlainWords
calls_in_plain_words w v x status p = record {
  counts = λ is. counts w v x status (has_come (order_of w) (calls_good w) v x status (ap number_of is) p.answers);
  accepts = λ n told h. accepted w v.store.files status h (p.comes n told);
  refuses = λ n told. refused w v.store.files status (p.exact n told) (p.comes n told);
}
