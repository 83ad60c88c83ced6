-- What is promised of `build`, from what is promised of each call.
use Rattle.std.proofs.Common.{◌≡◌, ◌≢◌, ◌⊎◌, ◌∙◌, ◌++◌, ℕ, ℤ, List, [], ◌∷◌, Option, None, IsTrue, refl, sym, ap, subst, inl, inr}
use Rattle.std.proofs.lemmas.List.{append-nil}
use Rattle.qs_assert.specs.declared.define.Amount.{Amount}
use Rattle.qs_certify.specs.Bound.{AreArguments}
use Rattle.qs_ports.specs.StoreView.{StoreView, Files}
use Rattle.qs_events.specs.BoundedRun.{BoundedRun, Ended, Undefined, Short, trace_of}
use Rattle.qs_events.specs.Events.{output_of}
use Rattle.qs_image.specs.Image.{Image}
use Rattle.qs_machine.specs.Arguments.{words_of}
use Rattle.qs_machine.specs.Run.{Outcome, Exited, Trapped, Going, machine, output_so_far}
use Rattle.qs_machine.specs.declared.answers.Cause.{Cause}
use Rattle.qs_emit.specs.Agree.{Agree, Begins, IsUndefinedWithin}
use Rattle.qs_report.specs.Lines.{bound_line}
use Rattle.qs_driver_steps.specs.Devices.{DevicesView, StreamsView, streams_of}
use Rattle.qs_driver_steps.specs.Pieces.{on_out, ArePut}
use Rattle.qs_driver_session.specs.Lines.{cost_lines}
use Rattle.qs_driver_session.specs.Faults.{shown_of}
use Rattle.qs_driver_session.specs.Due.{Due}
use Rattle.qs_driver_session.specs.Files.{CannotRead}
use Rattle.qs_driver_session.specs.Files as files
use Rattle.qs_driver_session.specs.Source.{LacksSource}
use Rattle.qs_driver_session.specs.Source as source
use Rattle.qs_driver_session.specs.Task.{Task, Answers}
use Rattle.qs_driver_session.specs.Promises.{Promises, NoneFailed, LacksMemory}
use Rattle.qs_driver_session.specs.declared.status.FileKind.{FileKind}
use Rattle.qs_driver_session.specs.declared.status.Status.{Status}
use Rattle.qs_driver_session.specs.declared.status.Status.TheVariants.{Done, SinkFailed, NoMemory}
use Rattle.qs_driver.specs.Asked.{Promises as PromisesOf}
use Rattle.qs_driver.specs.Bounds.{bound_by, costs_in, seen_runs, IsImageOf}
use Rattle.qs_driver.specs.Certified.{CertifyWords, CertifiedSource, AreAsBefore, LacksCertified, HoldsRightProofs}
use Rattle.qs_driver.specs.Certified as certified
use Rattle.qs_driver.specs.Made.{MakeWords, CannotMake}
use Rattle.qs_driver.specs.Made as made
use Rattle.qs_driver.specs.Tool.{task_of}
use Rattle.qs_driver.specs.commands.Build.{BuildWords, build_words, build, NamesDiffer, HasBuilt, IsDueToBuild, CannotBuild, IsGood}
use Rattle.qs_driver.specs.commands.Build as meant
use Rattle.qs_driver.specs.commands.Bound.{bound_words, bound, to_make, HasBound, IsDueToBound}
use Rattle.qs_driver.specs.commands.Bound as bound_meant
use Rattle.qs_driver.specs.Headline.{PrintsBound, BoundPrintsIt, IsDefined, EndsSo, ExitsSo, RunsAsSource, FromItsBound, HoldsItsImage, IsPlain, IsAccepted, BuildsAndAccepts, Headline}
use Rattle.qs_driver.proofs.BoundsLaws.{image_takes, core_is, built_from}
use Rattle.qs_driver.proofs.CostLines.{AreSmall, lines_tell_costs, costs_are_small}
use Rattle.qs_driver.proofs.ProvedReads.{HoldsSource}
use Rattle.qs_driver.proofs.OneSource.{source_held, one_held, held_before, names_of_one}

-- ---- a refusal is not done

unread_not_done : (v w : StoreView) (name : List ℕ) (kind : FileKind) (limit : ℕ) (status : Status) → CannotRead v w name kind limit status → status ≢ Done
unread_not_done v w name kind limit status (files.missing m e) done = cc
unread_not_done v w name kind limit status (files.unreadable f e) done = cc
unread_not_done v w name kind limit status (files.too_long l e) done = cc
unread_not_done v w name kind limit status (files.no_memory u e) done = cc

source_not_done : (v w : StoreView) (name : List ℕ) (status : Status) → LacksSource v w name status → status ≢ Done
source_not_done v w name status (source.unread u) done = unread_not_done v w name _ _ status u done
source_not_done v w name status (source.lex_fault fault pos u f e) done = cc
source_not_done v w name status (source.syntax_fault fault place u f e) done = cc
source_not_done v w name status (source.type_fault fault place u f e) done = cc
source_not_done v w name status (source.no_memory u e) done = cc

certified_not_done : (c : CertifyWords) (v w : StoreView) (status : Status) → LacksCertified c v w status → status ≢ Done
certified_not_done c v w status (certified.no_source l) done = source_not_done v w c.source status l done
certified_not_done c v w status (certified.unread_proof name comes u) done = unread_not_done v w name _ _ status u done
certified_not_done c v w status (certified.wrong_proofs told u r e) done = cc
certified_not_done c v w status (certified.no_memory u e) done = cc

cannot_not_done : (b : BuildWords) (v w : StoreView) (status : Status) → CannotBuild b v w status → status ≢ Done
cannot_not_done b v w status (meant.not_certified l) done = certified_not_done (meant.inputs b) v w status l done
cannot_not_done b v w status (meant.unwritable c e) done = cc
cannot_not_done b v w status (meant.no_memory u e) done = cc

made_not_done : (m : MakeWords) (v w : StoreView) (status : Status) → CannotMake m v w status → status ≢ Done
made_not_done m v w status (made.not_certified l) done = certified_not_done m.inputs v w status l done
made_not_done m v w status (made.count_differs parameters u c e) done = cc
made_not_done m v w status (made.misfit i u x e) done = cc
made_not_done m v w status (made.no_memory u e) done = cc

not_cut : (result : Status) → result ≡ Done → result ≡ SinkFailed → ⊥
not_cut result done e = cc

not_lacking : (result : Status) → result ≡ Done → result ≡ NoMemory → ⊥
not_lacking result done e = cc

-- ---- what was put

put_on_out : (text : List ℕ) (before after : StreamsView) → ArePut (on_out text ∷ []) before after → IsTrue after.out.told → after.out.written ≡ before.out.written ++ text
put_on_out text before after (between, put, e) =
    subst (λ (s : StreamsView). IsTrue s.out.told → s.out.written ≡ before.out.written ++ text) (sym e) put.happened.written

-- what was due was put, if the call ended well
record WasPut (t : Task) (before after : DevicesView) : Type 0 where
  due : Due
  is_due : t.IsDue before.store after.store due
  done : due.status ≡ Done
  put : ArePut due.pieces (streams_of before) (streams_of after)

was_put : (t : Task) (before after : DevicesView) (result : Status) → result ≡ Done → Answers t before after result ⊎ LacksMemory before after result → WasPut t before after
was_put t before after result done (inl a) = elim a.written [
  | inl p ↦ record { due = a.due; is_due = a.is_due; done = sym p.0 ∙ done; put = p.1 }
  | inr p ↦ absurd (not_cut result done p.0)
]
was_put t before after result done (inr l) = elim l.written [
  | inl p ↦ absurd (not_lacking result done p.0)
  | inr p ↦ absurd (not_cut result done p.0)
]

-- ---- the bound that is printed

module _ (c : CertifyWords) (f : Files) (s : CertifiedSource) (image : Image) (held : HoldsSource c f s) (is : IsImageOf s image) where
  small : (made : Image) → IsImageOf s made → AreSmall made.functions
  small made of = costs_are_small s.core made (built_from s.unit s.core made (core_is held.text held.file s held.is) of.compiled)

  -- what `bound` has found is the image's
  same_bound : (args : List ℤ) (v w : DevicesView) (due : Due) → IsTrue v.store.told → AreAsBefore c f v.store.files → (h : HasBound (bound_words c.source c.proof args) v.store w.store due) → ArePut due.pieces (streams_of v) (streams_of w) → PrintsBound s image args v w
  same_bound args v w due told same h put =
      let made = h.is_made in
      let there : HoldsSource c f made.source = held_before c f v.store.files made.source same (source_held c v.store made.source told made.makes.reads) in
      let one : made.source ≡ s = one_held c f made.source s there held in
      let bound_is : h.bound ≡ bound_by s (costs_in h.image.functions) args =
      made.is_bound ∙ ap (λ (x : CertifiedSource). bound_by x (costs_in h.image.functions) args) one in
      let text : List ℕ = cost_lines h.image.functions ++ bound_line (shown_of h.bound) in
      let text_is : text ≡ cost_lines h.image.functions ++ bound_line (shown_of (bound_by s (costs_in h.image.functions) args)) =
      ap (λ (bound : Amount). cost_lines h.image.functions ++ bound_line (shown_of bound)) bound_is in
      let was : ArePut (on_out text ∷ []) (streams_of v) (streams_of w) = subst (λ (d : Due). ArePut d.pieces (streams_of v) (streams_of w)) h.is_due put in
      record {
        arguments = subst (λ (x : CertifiedSource). AreArguments x.core args) one made.arguments;
        other = h.image;
        image_of = subst (λ (x : CertifiedSource). IsImageOf x h.image) one made.makes.image_of;
        printed = λ told_out. put_on_out text (streams_of v) (streams_of w) was told_out ∙ ap (λ (x : List ℕ). v.out.written ++ x) text_is;
        same = λ lines.
            ap (λ (cs : List ℕ). bound_by s cs args)
            (lines_tell_costs h.image.functions image.functions (small h.image (subst (λ (x : CertifiedSource). IsImageOf x h.image) one made.makes.image_of)) (small image is)
            (names_of_one c f made.source s h.image image there held made.makes.image_of is) lines);
      }

  due_bound : (args : List ℤ) (v w : DevicesView) (due : Due) → IsTrue v.store.told → AreAsBefore c f v.store.files → IsDueToBound (bound_words c.source c.proof args) v.store w.store due → due.status ≡ Done → ArePut due.pieces (streams_of v) (streams_of w) → PrintsBound s image args v w
  due_bound args v w due told same (bound_meant.bounded h) done put = same_bound args v w due told same h put
  due_bound args v w due told same (bound_meant.refused status cannot is_refusal) done put =
      absurd (made_not_done (to_make (bound_words c.source c.proof args)) v.store w.store status cannot (sym (ap (λ (x : Due). x.status) is_refusal) ∙ done))

  bound_prints_it : BoundPrintsIt c f s image
  bound_prints_it words args v w meant_is p told same =
      let q : Promises (bound (bound_words c.source c.proof args)) v w Done = subst (λ x. PromisesOf (task_of x) v w Done) meant_is p in
      let a = was_put (bound (bound_words c.source c.proof args)) v w Done refl q.answers in
      due_bound args v w a.due told same a.is_due a.done a.put

-- ---- while the source is defined

module _ (runs : ℕ → BoundedRun) (outcomes : ℕ → Outcome) (agree : Agree runs outcomes) (defined : IsDefined runs) where
  never_undefined : (n : ℕ) (output : List ℕ) → IsUndefinedWithin (runs n) output → ⊥
  never_undefined n output u = defined n u.trace u.undefined

  no_trap : (steps : ℕ) (cause : Cause) (pc : ℕ) (output : List ℕ) → outcomes steps ≡ Trapped cause pc output → ⊥
  no_trap steps cause pc output is = never_undefined steps output (agree.traps_only steps cause pc output is)

  exits_where_ended : (output : List ℕ) (status : ℕ) → EndsSo runs output status → ExitsSo outcomes output status
  exits_where_ended output status (n, h) =
      let (steps, exits) = agree.ends n h.trace status h.ended in
      (steps, exits ∙ ap (λ (o : List ℕ). Exited o status) h.same_output)

  ended_where_exits : (output : List ℕ) (status : ℕ) → ExitsSo outcomes output status → EndsSo runs output status
  ended_where_exits output status (steps, exits) = elim (agree.exits_only steps output status exits) [
    | inl ended ↦ (steps, ended)
    | inr u ↦ absurd (never_undefined steps output u)
  ]

  as_far : (n : ℕ) (run : BoundedRun) → runs n ≡ run → (steps : ℕ) × Begins (output_so_far (outcomes steps)) (output_of (trace_of run))
  as_far n (Ended trace status) is =
      let (steps, exits) = agree.ends n trace status is in
      (steps, ([], ap output_so_far exits ∙ sym (append-nil (output_of trace))))
  as_far n (Undefined trace) is = absurd (defined n trace is)
  as_far n (Short trace) is = agree.goes_on n trace (inl is)

  no_farther : (steps : ℕ) (outcome : Outcome) → outcomes steps ≡ outcome → Begins (output_of (trace_of (runs steps))) (output_so_far outcome)
  no_farther steps (Exited output status) is = elim (agree.exits_only steps output status is) [
    | inl ended ↦ ([], ap (λ (r : BoundedRun). output_of (trace_of r)) ended.ended ∙ ended.same_output ∙ sym (append-nil output))
    | inr u ↦ absurd (never_undefined steps output u)
  ]
  no_farther steps (Trapped cause pc output) is = absurd (no_trap steps cause pc output is)
  no_farther steps (Going output) is = elim (agree.goes_on_only steps output is) [
    | inl begins ↦ begins
    | inr u ↦ absurd (never_undefined steps output u)
  ]

  runs_as_source : RunsAsSource runs outcomes
  runs_as_source = record {
    never_traps = no_trap;
    ends = λ output status. (exits_where_ended output status, ended_where_exits output status);
    comes_as_far = λ n. as_far n (runs n) refl;
    comes_no_farther = λ steps. no_farther steps (outcomes steps) refl;
  }

-- ---- what was built

module _ (source : List ℕ) (proof : Option (List ℕ)) (out : List ℕ) (before after : DevicesView) where
  abbrev asked : BuildWords
  asked = build_words source proof out

  of_built : (due : Due) → HasBuilt asked before.store after.store due → ArePut due.pieces (streams_of before) (streams_of after) → HoldsItsImage source proof out before after
  of_built due h put =
      let of = h.has_image.image_of in
      let lines : List ℕ = cost_lines h.image.functions in
      let agrees_from : FromItsBound h.source of.compiled.program h.image Agree = λ args input bound size are is_input bound_is within most.
      of.agrees.agree args input bound size ((image_takes (meant.inputs asked) before.store h.source h.image h.has_image.reads of.compiled args).1 are) is_input bound_is within most in
      let was : ArePut (on_out lines ∷ []) (streams_of before) (streams_of after) = subst (λ (d : Due). ArePut d.pieces (streams_of before) (streams_of after)) h.is_due put in
      record {
        certified = h.source;
        reads = h.has_image.reads;
        image = h.image;
        bytes = h.bytes;
        is_image = h.has_image.is_image;
        written = h.stores.file;
        compiled = of.compiled;
        printed = put_on_out lines (streams_of before) (streams_of after) was;
        bound_printed = λ told. bound_prints_it (meant.inputs asked) before.store.files h.source h.image (source_held (meant.inputs asked) before.store h.source told h.has_image.reads) of;
        agrees = agrees_from;
        while_defined = λ args input bound size are is_input bound_is within most defined.
            runs_as_source (seen_runs of.compiled.program args input) (machine h.image size (words_of args) input) (agrees_from args input bound size are is_input bound_is within most) defined;
      }

  due_built : (due : Due) → IsDueToBuild asked before.store after.store due → due.status ≡ Done → ArePut due.pieces (streams_of before) (streams_of after) → HoldsItsImage source proof out before after
  due_built due (meant.built differ h) done put = of_built due h put
  due_built due (meant.named_twice twice u is) done put = absurd (let e = ap (λ (x : Due). x.status) is in cc)
  due_built due (meant.refused differ status c is) done put =
      absurd (cannot_not_done asked before.store after.store status c (sym (ap (λ (x : Due). x.status) is) ∙ done))

  -- ---- what is accepted

  plain_differ : proof ≡ None → source ≢ out → NamesDiffer asked
  plain_differ none differ (inl e) = differ e
  plain_differ none differ (inr e) = cc

  -- a source without recursion needs no proof file
  plain_good : IsPlain source proof out before → IsGood asked before.store
  plain_good p = record {
    differ = plain_differ p.no_proof p.differ;
    told = p.told;
    right = record {
      text = p.source_there.text;
      there = p.source_there.there;
      typed = p.source_there.typed;
      proofs = subst (λ (x : Option (List ℕ)). HoldsRightProofs before.store.files x p.source_there.typed.unit.trees) (sym p.no_proof) p.source_there.without_recursion;
    };
  }

  module _ (result : Status) (q : Promises (build asked) before after result) where
    built : result ≡ Done → HoldsItsImage source proof out before after
    built done = let a = was_put (build asked) before after result done q.answers in due_built a.due a.is_due a.done a.put

    accepts_good : NoneFailed before after → IsGood asked before.store → IsAccepted result
    accepts_good none good = elim (q.accepts none) [
      | inl accepts ↦ inl (accepts good)
      | inr e ↦ inr e
    ]

    builds : BuildsAndAccepts source proof out before after result
    builds = record {
      built = built;
      accepts_good = accepts_good;
      accepts_plain = λ none plain. accepts_good none (plain_good plain);
    }

pub headline : Headline
headline words source proof out before after result meant_is p =
    builds source proof out before after result (subst (λ c. PromisesOf (task_of c) before after result) meant_is p)
