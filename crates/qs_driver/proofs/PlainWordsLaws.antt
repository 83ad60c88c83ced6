-- The promises in plain words.
use Rattle.std.proofs.Common.{◌≡◌, ℕ, List, Option, Some, None, sym, ap, subst, inl, inr}
use Rattle.qs_cli.specs.Commands.{Command, meaning, Build, Check, Bound, Calls, Derive, Outline, Run, Exec, Sample, Elf, Unelf}
use Rattle.qs_core.specs.Trees.{CoreUnitTree}
use Rattle.qs_syntax.specs.Trees.{UnitTree}
use Rattle.qs_ports.specs.StoreView.{StoreView, Files}
use Rattle.qs_driver_steps.specs.Devices.{DevicesView, streams_of}
use Rattle.qs_driver_steps.specs.Files.{IsUntouched}
use Rattle.qs_driver_steps.specs.Promises as steps
use Rattle.qs_driver_steps.specs.Promises.{IsExact}
use Rattle.qs_driver_steps.specs.Runs.{Passed, IsMade}
use Rattle.qs_driver_steps.specs.Steps.{End, Comes, IsOf, end_status}
use Rattle.qs_driver_steps.proofs.RunsLaws.{HasEnded, has_ended}
use Rattle.qs_driver_steps.proofs.SharedLaws.{comes_later, stand_from, passed_untouched}
use Rattle.qs_driver_steps.proofs.StoreLaws.{both_untouched}
use Rattle.qs_driver_steps.proofs.ThenLaws.{passed_both}
use Rattle.qs_driver_session.specs.Due.{Due}
use Rattle.qs_driver_session.specs.Names.{file_name}
use Rattle.qs_driver_session.specs.Origin.{origin}
use Rattle.qs_driver_session.specs.PlainWords.{IsDone}
use Rattle.qs_driver_session.specs.Source.{HoldsText, IsTypedUnit, IsTypedAs, RefusesSource}
use Rattle.qs_driver_session.specs.Starting.{run_words}
use Rattle.qs_driver_session.specs.Statuses.{tool, number_of}
use Rattle.qs_driver_session.specs.declared.status.Status.{Status}
use Rattle.qs_driver_session.specs.declared.status.Status.TheVariants.{Done}
use Rattle.qs_driver_session.proofs.EndLaws.{HasCome, has_come}
use Rattle.qs_driver_session.proofs.OriginLaws.{origin_single}
use Rattle.qs_driver_session.proofs.OriginRefusals.{source_refused}
use Rattle.qs_driver_session.proofs.PlainWordsLaws.{run_in_plain_words, usage_in_plain_words}
use Rattle.qs_driver_session.proofs.SeenLaws.{no_ends}
use Rattle.qs_driver_elf.proofs.PlainWords.{elf_in_plain_words, unelf_in_plain_words}
use Rattle.qs_driver_calls.proofs.PlainWords.{calls_in_plain_words}
use Rattle.qs_driver.specs.Asked.{Promises}
use Rattle.qs_driver.specs.Certified.{CertifyWords, CertifiedSource, certify_words}
use Rattle.qs_driver.specs.PlainWords.{HasCoreUnit, HasOutline, IsOfOutline, KeepsOutline, HasChecked, IsOfCheck, KeepsCheck, CertifiedAreBounded, Keeps, PromisesInPlainWords}
use Rattle.qs_driver.specs.PlainWords as meant
use Rattle.qs_driver_proofs.specs.Steps.{IsCoreOf}
use Rattle.qs_driver.specs.Proved.{certified}
use Rattle.qs_driver.specs.Tool.{task_of}
use Rattle.qs_driver.specs.commands.Check as check
use Rattle.qs_driver.specs.commands.Check.{checked}
use Rattle.qs_driver.specs.commands.Outline as outline
use Rattle.qs_driver.specs.commands.Outline.{OutlineWords, outline_words, outline_unit}
use Rattle.qs_driver.proofs.BoundsLaws.{source_bounded}
use Rattle.qs_driver.proofs.OwnLaws.{source_own, certified_own}
use Rattle.qs_driver_proofs.proofs.SourceReads.{HasText, passed_text}
use Rattle.qs_driver.proofs.ProvedReads.{passed_certified}
use Rattle.qs_driver_proofs.proofs.SourceReads.{unit_leads}
use Rattle.qs_driver.proofs.ProvedRefusals.{right_comes, certified_refused}
use Rattle.qs_driver.proofs.rooms.Check.{check_good, check_ordered}
use Rattle.qs_driver.proofs.rooms.Outline.{outline_good, outline_ordered}

-- ---- `outline`

-- the text of the unit has this core
core_unit : (text : List ℕ) (unit : UnitTree) (core : CoreUnitTree) → IsTypedAs text unit → IsCoreOf unit core → HasCoreUnit text core
core_unit text unit core typed is =
    let there : IsCoreOf typed.typed.unit.trees core = subst (λ (u : UnitTree). IsCoreOf u core) (sym typed.trees_are) is in
    record { typed = typed.typed; has_core = there.has_core; is = there.is }

-- behind the source the end is that of its outline
outlines_unit : (o : OutlineWords) (v t u w : StoreView) (e : End tool) (unit : UnitTree) → HasText v o.source unit → IsUntouched v u → Passed (outline_unit unit) t u e → IsMade e.output u w → HasOutline o v w e.due
outlines_unit o v t u w e unit text before (a, core, c, (at, is)) made = record {
  unit = core;
  text = record { content = text.text; read_as = text.read_as; has = core_unit text.text unit core text.typed_as c.finds.so };
  untouched = both_untouched before (subst (λ (x : End tool). IsMade x.output u w) is made);
  is_due = ap (λ (x : End tool). x.due) is;
}

has_outline : (o : OutlineWords) (v u w : StoreView) (e : End tool) → Passed (outline.outline o) v u e → IsMade e.output u w → HasOutline o v w e.due
has_outline o v u w e passed made =
    let both = passed_both outline_unit (origin o.source) v u e passed in
    outlines_unit o v both.0 u w e both.1 (passed_text o.source v both.0 both.1 both.2) (passed_untouched (outline.outline o) v u e passed) both.3 made

outlines : (o : OutlineWords) (v w : DevicesView) (status : Status) → HasCome (outline.order_of o) v w status → IsDone (HasOutline o v.store w.store) (streams_of v) (streams_of w) status
outlines o v w status h = record {
  due = h.ended.end.due;
  so = has_outline o v.store h.ended.passed_at w.store h.ended.end h.ended.passed h.ended.made;
  status_is = h.status_is;
  put = h.put;
}

module _ (o : OutlineWords) (files : Files) (status : Status) where
  outlined : Comes end_status (outline.outline o) files status → HoldsText (files o.source) IsTypedUnit → status ≡ Done
  outlined comes h =
      let later : Comes end_status (outline_unit h.has.unit.trees) files status = comes_later end_status outline_unit (origin o.source) (origin_single o.source) files h.has.unit.trees status (unit_leads o.source files h.content h.holds h.has) comes in
      elim later [
        | inl (f, c, e) ↦ absurd c
        | inr (core, is, e) ↦ e
      ]

  outline_refused : Comes end_status (outline.outline o) files status → IsExact (outline.outline o) files status → RefusesSource (files o.source) status
  outline_refused comes exact = source_refused o.source outline_unit (λ unit. stand_from end_status (outline_unit unit) 7 (outline_ordered unit)) files status exact comes

unit_own : (unit : UnitTree) (status : Status) → IsOf end_status (outline_unit unit) status → IsOfOutline status
unit_own unit status (inl (f, c, e)) = absurd f
unit_own unit status (inr (core, is, e)) = subst IsOfOutline (sym e) meant.outline_done

outline_own : (o : OutlineWords) (status : Status) → IsOf end_status (outline.outline o) status → IsOfOutline status
outline_own o status h = elim (source_own status o.source outline_unit h) [
  | inl s ↦ meant.of_source s
  | inr (unit, rest) ↦ unit_own unit status rest
]

keeps_outline : (o : OutlineWords) (v w : DevicesView) (status : Status) → steps.Promises (outline.order_of o) v w status → KeepsOutline o v w status
keeps_outline o v w status p = record {
  outlines = λ is. outlines o v w status (has_come (outline.order_of o) (outline_good o) v w status (ap number_of is) p.answers);
  accepts = λ n told h. outlined o v.store.files status (p.comes n told) h;
  own = λ n. outline_own o status (p.own n);
  refuses = λ n told. outline_refused o v.store.files status (p.comes n told) (p.exact n told);
}

-- ---- `check`

-- the end of the command is that of a source whose runs are bounded
has_checked : (c : CertifyWords) (v u w : StoreView) (e : End tool) → Passed (check.check c) v u e → IsMade e.output u w → HasChecked c v w e.due
has_checked c v u w e passed made =
    let both = passed_both checked (certified c) v u e passed in
    let source : CertifiedSource = both.1 in
    let reads = passed_certified c v both.0 source both.2 in
    record {
      source = source;
      reads = reads;
      bounded = source_bounded c v source reads;
      untouched = both_untouched (passed_untouched (check.check c) v u e passed) (subst (λ (x : End tool). IsMade x.output u w) both.3.1 made);
      is_due = ap (λ (x : End tool). x.due) both.3.1;
    }

pub certified_are_bounded : CertifiedAreBounded
certified_are_bounded c v w due runs is =
    let good = check_good c in
    let h : HasEnded (check.check c) v w due = has_ended no_ends (check.check c) 1 good.lawful good.ordered (file_name (check.names_of c)) v w due runs (ap number_of is) in
    subst (λ (d : Due). HasChecked c v w d) (sym h.is_due) (has_checked c v h.passed_at w h.end h.passed h.made)

checks : (c : CertifyWords) (v w : DevicesView) (status : Status) → HasCome (check.order_of c) v w status → IsDone (HasChecked c v.store w.store) (streams_of v) (streams_of w) status
checks c v w status h = record {
  due = h.ended.end.due;
  so = has_checked c v.store h.ended.passed_at w.store h.ended.end h.ended.passed h.ended.made;
  status_is = h.status_is;
  put = h.put;
}

check_own : (c : CertifyWords) (status : Status) → IsOf end_status (check.check c) status → IsOfCheck status
check_own c status h = elim (certified_own status checked c h) [
  | inl r ↦ meant.of_certified r
  | inr (s, e) ↦ subst IsOfCheck (sym e) meant.check_done
]

keeps_check : (c : CertifyWords) (v w : DevicesView) (status : Status) → steps.Promises (check.order_of c) v w status → KeepsCheck c v w status
keeps_check c v w status p = record {
  checks = λ is. checks c v w status (has_come (check.order_of c) (check_good c) v w status (ap number_of is) p.answers);
  accepts = λ n told h. (right_comes c checked v.store.files status h (p.comes n told)).2;
  own = λ n. check_own c status (p.own n);
  refuses = λ n told. certified_refused c checked v.store.files status check_ordered (p.exact n told) (p.comes n told);
}

-- ---- a row for each command

pub keeps : (command : Option Command) (v w : DevicesView) (status : Status) → Promises (task_of command) v w status → Keeps command v w status
keeps None v w status p = usage_in_plain_words v w status p
keeps (Some (Build source proof out)) v w status p = tt
keeps (Some (Check source proof)) v w status p = keeps_check (certify_words source proof) v w status p
keeps (Some (Bound source proof args)) v w status p = tt
keeps (Some (Calls words)) v w status p = calls_in_plain_words words v w status p
keeps (Some (Derive source out)) v w status p = tt
keeps (Some (Outline source)) v w status p = keeps_outline (outline_words source) v w status p
keeps (Some (Run image stack args input most)) v w status p = run_in_plain_words (run_words image stack args input most) v w status p
keeps (Some (Exec source proof args input most)) v w status p = tt
keeps (Some (Sample count out)) v w status p = tt
keeps (Some (Elf words)) v w status p = elf_in_plain_words words v w status p
keeps (Some (Unelf words)) v w status p = unelf_in_plain_words words v w status p

pub promises_in_plain_words : PromisesInPlainWords
promises_in_plain_words words v w status p = keeps (meaning words) v w status p
