use Rattle.std.proofs.Common.{ℕ, Some, sym, ap, ◌∙◌, subst}
use Rattle.std.proofs.lemmas.Result.{IfOk-weaker, IfErr-weaker, MatchResult-from_both}
use Rattle.qs_elf.specs.declared.fault.ElfFault.TheVariants.{Length}
use Rattle.qs_elf.specs.Elf.{Parts, image_of, elf_bytes}
use Rattle.qs_elf.specs.Parts.{IsElfOf}
use Rattle.qs_elf.specs.Faults.{difference_from, image_fault}
use Rattle.qs_elf.proofs.ReadingLaws.{short, other_length, field, behind_fields, as_long, accepted, passes, only_memory}
use Rattle.qs_elf.proofs.reading.read.Goals as goal

pub returns-then-file-lt-HEAD_AT-clause-fault : goal.returns-then-file-lt-HEAD_AT-clause-fault
returns-then-file-lt-HEAD_AT-clause-fault c = λ other. short c.args.file.now c.if-file-lt-HEAD_AT.true

pub returns-then-file-end-clause-accepts : goal.returns-then-file-end-clause-accepts
returns-then-file-end-clause-accepts c =
    λ image is. absurd (c.if-file-end.true ((passes c.args.file.now image is).whole ∙ sym c.stated_end-end.ensures))

pub returns-then-file-end-clause-fault : goal.returns-then-file-end-clause-fault
returns-then-file-end-clause-fault c =
    λ other. other_length c.args.file.now c.if-file-lt-HEAD_AT.false (λ e. c.if-file-end.true (e ∙ sym c.stated_end-end.ensures))
    ∙ ap (λ (n : ℕ). Some (Length n)) (sym c.stated_end-end.ensures)

pub returns-in-Some-clause-accepts : goal.returns-in-Some-clause-accepts
returns-in-Some-clause-accepts c =
    λ image is.
    let file = c.args.file.now in
    let found = ap (λ (p : Parts). difference_from 0 file (elf_bytes p)) (sym c.parts_in-p.ensures) ∙ sym c.in_ok-at.ensures ∙ c.in-Some.is in
    let none = (passes file image is).fields in
    absurd cc

pub returns-in-Some-clause-fault : goal.returns-in-Some-clause-fault
returns-in-Some-clause-fault c =
    λ other.
    let file = c.args.file.now in
    let found = ap (λ (p : Parts). difference_from 0 file (elf_bytes p)) (sym c.parts_in-p.ensures) ∙ sym c.in_ok-at.ensures ∙ c.in-Some.is in
    field file c.in-Some.at c.if-file-lt-HEAD_AT.false (c.if-file-end.false ∙ c.stated_end-end.ensures) found

pub returns-clause-image : goal.returns-clause-image
returns-clause-image c =
    let file = c.args.file.now in
    let whole = c.if-file-end.false ∙ c.stated_end-end.ensures in
    let none = ap (λ (p : Parts). difference_from 0 file (elf_bytes p)) (sym c.parts_in-p.ensures) ∙ sym c.in_ok-at.ensures ∙ c.in_default.is in
    IfOk-weaker c.carried.result _ _
    (λ image both.
    subst (IsElfOf file) (sym (both.0 ∙ ap image_of c.parts_in-p.ensures))
    (accepted file whole (as_long file c.if-file-lt-HEAD_AT.false whole) none (ap image_fault (sym c.parts_in-p.ensures) ∙ both.1)))
    c.carried.ensures.image

pub returns-clause-accepts : goal.returns-clause-accepts
returns-clause-accepts c =
    λ image is.
    let passed = passes c.args.file.now image is in
    MatchResult-from_both c.carried.result _ _
    (IfOk-weaker c.carried.result _ _ (λ bytes both. both.0 ∙ ap image_of c.parts_in-p.ensures ∙ passed.same) c.carried.ensures.image)
    (IfErr-weaker c.carried.result _ _
    (λ fault halts. only_memory fault (λ other. let e = sym (ap image_fault c.parts_in-p.ensures ∙ passed.words) ∙ halts other in absurd cc))
    c.carried.ensures.fault)

pub returns-clause-fault : goal.returns-clause-fault
returns-clause-fault c =
    let file = c.args.file.now in
    let whole = c.if-file-end.false ∙ c.stated_end-end.ensures in
    let none = ap (λ (p : Parts). difference_from 0 file (elf_bytes p)) (sym c.parts_in-p.ensures) ∙ sym c.in_ok-at.ensures ∙ c.in_default.is in
    IfErr-weaker c.carried.result _ _
    (λ fault halts other. behind_fields file c.if-file-lt-HEAD_AT.false whole none ∙ ap image_fault (sym c.parts_in-p.ensures) ∙ halts other)
    c.carried.ensures.fault
