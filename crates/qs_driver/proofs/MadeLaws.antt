-- How an image and main's bound are made of a source.
use Rattle.std.proofs.Common.{◌≡◌, ◌∙◌, ℕ, List, Result, Ok, Err, refl, ap, subst}
use Rattle.qs_syntax.specs.Trees.{UnitTree}
use Rattle.qs_typing_findings.specs.TypedOf.{typed_tree}
use Rattle.qs_core.specs.Trees.{CoreUnitTree}
use Rattle.qs_core.specs.UnitTrees.{unit_tree}
use Rattle.qs_triples.specs.Derivations.{ProofsTree}
use Rattle.qs_triples.specs.TreeOf.{proofs_tree}
use Rattle.qs_ports.specs.StoreView.{StoreView}
use Rattle.qs_image.specs.Image.{Image}
use Rattle.qs_machine.specs.Arguments.{AreArguments}
use Rattle.qs_compile.specs.Compiled.{IsImageOfSource}
use Rattle.qs_certify.specs.Bound.{main_bound}
use Rattle.qs_driver_session.specs.Arguments.{LacksWords}
use Rattle.qs_driver_session.specs.Arguments as arguments
use Rattle.qs_driver_session.specs.declared.status.Status.{Status}
use Rattle.qs_driver.specs.Bounds.{costs_in}
use Rattle.qs_driver.specs.Certified.{LacksCertified, HasCertified}
use Rattle.qs_driver.specs.Made.{MakeWords, ComesToImage, Makes, MakesCertified}
use Rattle.qs_driver.specs.Made as meant
use Rattle.qs_driver.specs.declared.certified.CertifiedUnit.{CertifiedUnit}
use Rattle.qs_driver.specs.declared.made.Made.{Made}
use Rattle.qs_driver.proofs.BoundsLaws.{is_compiled, source_image, image_takes, image_parameters, image_misfits}

pub not_certified : (m : MakeWords) (v w : StoreView) (status : Status) → LacksCertified m.inputs v w status → Makes m v w (Err status)
not_certified m v w status l = meant.not_certified l

comes_to_image : (m : MakeWords) (v w : StoreView) (c : CertifiedUnit) (image : Image) (h : HasCertified m.inputs v w c) → IsImageOfSource (typed_tree c.typed) image → ComesToImage m v h.source image
comes_to_image m v w c image h compiled = record {
  reads = h.reads;
  image_of = source_image m.inputs v h.source image h.reads (is_compiled h.source.unit image (subst (λ (unit : UnitTree). IsImageOfSource unit image) h.holds.unit compiled));
}

-- the arguments aren't main's
no_words : (m : MakeWords) (v w : StoreView) (c : CertifiedUnit) (image : Image) (status : Status) → HasCertified m.inputs v w c → IsImageOfSource (typed_tree c.typed) image → LacksWords image m.args status → Makes m v w (Err status)
no_words m v w c image status h compiled (arguments.count_differs ne e) =
    let i = (comes_to_image m v w c image h compiled).image_of.compiled in
    meant.count_differs image.parameters h.untouched (record {
      source = h.source;
      reads = h.reads;
      so = record { parameters_are = image_parameters m.inputs v h.source image h.reads i; differ = ne };
    }) e
no_words m v w c image status h compiled (arguments.misfit at count first e) =
    let i = (comes_to_image m v w c image h compiled).image_of.compiled in
    meant.misfit at h.untouched (record {
      source = h.source;
      reads = h.reads;
      so = image_misfits m.inputs v h.source image h.reads i m.args at count first;
    }) e
no_words m v w c image status h compiled (arguments.no_memory e) = meant.no_memory h.untouched e

-- the bound that the code has computed is that of what it holds
was_made : (m : MakeWords) (v w : StoreView) (c : CertifiedUnit) (made : Made) (costs : List ℕ) → HasCertified m.inputs v w c → IsImageOfSource (typed_tree c.typed) made.image → AreArguments made.image m.args → costs ≡ costs_in made.image.functions → made.bound ≡ main_bound (unit_tree c.core) (proofs_tree c.certified.proofs) costs m.args → Makes m v w (Ok made)
was_made m v w c made costs h compiled are costs_are is = record {
  untouched = h.untouched;
  is_made = record {
    source = h.source;
    makes = comes_to_image m v w c made.image h compiled;
    arguments = (image_takes m.inputs v h.source made.image h.reads (comes_to_image m v w c made.image h compiled).image_of.compiled m.args).0 are;
    is_bound =
        is ∙ ap (λ (cs : List ℕ). main_bound (unit_tree c.core) (proofs_tree c.certified.proofs) cs m.args) costs_are
        ∙ ap (λ (u : CoreUnitTree). main_bound u (proofs_tree c.certified.proofs) (costs_in made.image.functions) m.args) h.holds.core
        ∙ ap (λ (p : ProofsTree). main_bound h.source.core p (costs_in made.image.functions) m.args) h.holds.proofs;
  };
}

-- what is made of what was certified
pub made_or_not : (m : MakeWords) (v w : StoreView) (c : CertifiedUnit) (answer : Result Made Status) → HasCertified m.inputs v w c → MakesCertified c m.args answer → Makes m v w answer
made_or_not m v w c (Ok made) h k = was_made m v w c made (costs_in made.image.functions) h k.compiled k.arguments refl k.bound_is
made_or_not m v w c (Err status) h (meant.lacks_words image compiled lacks) = no_words m v w c image status h compiled lacks
made_or_not m v w c (Err status) h (meant.lacks_memory e) = meant.no_memory h.untouched e
