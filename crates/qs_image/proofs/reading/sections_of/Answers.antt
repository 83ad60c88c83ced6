use Rattle.std.proofs.Common.{sym, subst, ◌∙◌, ◌≤◌, length}
use Rattle.qs_image.specs.Image.{Image}
use Rattle.qs_image.proofs.Wholes.{header_fault, size_fault, part_fault, few, same_parts}
use Rattle.qs_image.proofs.reading.sections_of.Goals as goal

pub returns-in-Some : goal.returns-in-Some
returns-in-Some c = header_fault c.args.bytes.now c.in-Some.fault (sym c.header_fault.ensures ∙ c.in-Some.is)

pub returns-in-Some-size_fault : goal.returns-in-Some-size_fault
returns-in-Some-size_fault c = size_fault c.args.bytes.now c.in-Some-size_fault.fault (sym c.header_fault.ensures ∙ c.in_default.is) (sym c.size_fault.ensures ∙ c.in-Some-size_fault.is)

pub part_fault-requires-clause-code : goal.part_fault-requires-clause-code
part_fault-requires-clause-code c =
    subst (λ (image : Image). length image.code ≤ 262144) (sym c.of-sections.ensures.image)
    (few c.args.bytes.now (sym c.header_fault.ensures ∙ c.in_default.is) (sym c.size_fault.ensures ∙ c.in_default-size_fault.is)).0

pub part_fault-requires-clause-functions : goal.part_fault-requires-clause-functions
part_fault-requires-clause-functions c =
    subst (λ (image : Image). length image.functions ≤ 512) (sym c.of-sections.ensures.image)
    (few c.args.bytes.now (sym c.header_fault.ensures ∙ c.in_default.is) (sym c.size_fault.ensures ∙ c.in_default-size_fault.is)).1

pub returns-in-Some-part_fault : goal.returns-in-Some-part_fault
returns-in-Some-part_fault c =
    part_fault c.args.bytes.now (sym c.header_fault.ensures ∙ c.in_default.is) (sym c.size_fault.ensures ∙ c.in_default-size_fault.is)
    ∙ sym (same_parts c.of-sections.ensures.names c.of-sections.ensures.table c.of-sections.ensures.image)
    ∙ sym c.part_fault.ensures ∙ c.in-Some-part_fault.is

pub returns-in-None : goal.returns-in-None
returns-in-None c = (
  part_fault c.args.bytes.now (sym c.header_fault.ensures ∙ c.in_default.is) (sym c.size_fault.ensures ∙ c.in_default-size_fault.is)
      ∙ sym (same_parts c.of-sections.ensures.names c.of-sections.ensures.table c.of-sections.ensures.image)
      ∙ sym c.part_fault.ensures ∙ c.in-None.is,
  c.of-sections.ensures.image,
)
