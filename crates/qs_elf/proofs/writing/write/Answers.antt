use Rattle.std.proofs.Common.{◌≤◌, List, ℕ, length, sym, ap, ◌∙◌, subst}
use Rattle.std.proofs.lemmas.Result.{IfOk-weaker}
use Rattle.qs_elf.specs.Elf.{most_file_bytes, elf_bytes}
use Rattle.qs_elf.specs.Framing.{IsSmall}
use Rattle.qs_elf.proofs.Laws.{small, within}
use Rattle.qs_elf.proofs.writing.write.Goals as goal

pub framed-requires : goal.framed-requires
framed-requires c = subst IsSmall (sym c.parts_of-p.ensures) (small c.args.image.now c.requires)

pub returns-clause-room : goal.returns-clause-room
returns-clause-room c =
    IfOk-weaker c.framed.result _ _
    (λ file e. subst (λ (xs : List ℕ). length xs ≤ most_file_bytes) (sym (e ∙ ap elf_bytes c.parts_of-p.ensures)) (within c.args.image.now c.requires))
    c.framed.ensures
