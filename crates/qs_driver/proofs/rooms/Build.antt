-- What `build` came to.
use Rattle.std.proofs.Common.{◌≢◌, ℕ, List, Some, Result, Ok, Err, refl, inl, inr, subst}
use Rattle.qs_typing_findings.specs.TypedOf.{typed_tree}
use Rattle.qs_ports.specs.StoreView.{StoreView, HasSameCounts, HasFailed}
use Rattle.qs_ports.specs.SinkView.{SinkView}
use Rattle.qs_ports.specs.Whole.{Stores, IsCutShort}
use Rattle.qs_ports.proofs.Wholes.{counts_more, failed_later}
use Rattle.qs_syntax.specs.Trees.{UnitTree}
use Rattle.qs_image.specs.Image.{Image, IsImage}
use Rattle.qs_compile.specs.Compiled.{IsCompiled, IsImageOfSource}
use Rattle.qs_driver_session.specs.Lines.{cost_lines}
use Rattle.qs_driver_session.specs.Faults.{status_line}
use Rattle.qs_driver_steps.specs.Devices.{streams, views_of}
use Rattle.qs_driver_session.specs.Due.{EndsWith, IsWritten}
use Rattle.qs_driver_session.specs.Task.{Answers}
use Rattle.qs_driver_session.specs.declared.status.Status.{Status}
use Rattle.qs_driver_session.specs.declared.status.Status.TheVariants.{Done, StoreFailed, NoMemory}
use Rattle.qs_driver_session.specs.declared.status.FileKind.TheVariants as kinds
use Rattle.qs_driver_session.proofs.LaterLaws.{keeps_then_holds, cut_short}
use Rattle.qs_driver_session.proofs.PieceLaws.{log_last, out_last}
use Rattle.qs_driver.specs.Certified.{LacksCertified, HasCertified}
use Rattle.qs_driver.specs.commands.Build.{BuildWords, NamesDiffer, names_of, inputs, build, due_of, HasImage, Builds}
use Rattle.qs_driver.specs.commands.Build as meant
use Rattle.qs_driver.specs.declared.certified.CertifiedUnit.{CertifiedUnit}
use Rattle.qs_driver.proofs.BoundsLaws.{is_compiled, source_image}

-- ---- the names

pub names_differ : (b : BuildWords) → b.source ≢ b.out → b.proof ≢ Some b.out → NamesDiffer b
names_differ b source proof twice = elim twice [
  | inl e ↦ source e
  | inr e ↦ proof e
]

-- ---- the work on the store

-- there is nothing certified to go on with
pub not_certified : (b : BuildWords) (v w : StoreView) (status : Status) → NamesDiffer b → LacksCertified (inputs b) v w status → Builds b v w (Err status)
not_certified b v w status differ l = meant.refused differ status (meant.not_certified l) refl

-- no memory was found after the source was certified
pub out_of_memory : (b : BuildWords) (v w : StoreView) (c : CertifiedUnit) → NamesDiffer b → HasCertified (inputs b) v w c → Builds b v w (Err NoMemory)
out_of_memory b v w c differ h = meant.refused differ NoMemory (meant.no_memory h.untouched refl) refl

-- the image that was compiled of what the code holds is one of the source
has_image : (b : BuildWords) {v u : StoreView} {c : CertifiedUnit} {image : Image} {bytes : List ℕ} (h : HasCertified (inputs b) v u c) → IsImageOfSource (typed_tree c.typed) image → IsImage bytes image → HasImage b v h.source image bytes
has_image b {c = c} {image = image} h compiled is = record {
  reads = h.reads;
  image_of = source_image (inputs b) _ h.source image h.reads (subst (λ (unit : UnitTree). IsCompiled unit image) h.holds.unit (is_compiled (typed_tree c.typed) image compiled));
  is_image = is;
}

pub was_built : (b : BuildWords) {v u w : StoreView} {c : CertifiedUnit} {image : Image} {bytes : List ℕ} → NamesDiffer b → HasCertified (inputs b) v u c → IsImageOfSource (typed_tree c.typed) image → IsImage bytes image → Stores u w b.out bytes × HasSameCounts u w → Builds b v w (Ok image)
was_built b {image = image} {bytes = bytes} differ h compiled is (stores, counts) = meant.built differ (record {
  source = h.source;
  image = image;
  bytes = bytes;
  has_image = has_image b h compiled is;
  stores = keeps_then_holds h.untouched.only_reads.keeps stores;
  counts = counts_more h.untouched.counts counts;
  is_due = refl;
})

pub not_written : (b : BuildWords) {v u w : StoreView} {c : CertifiedUnit} {image : Image} {bytes : List ℕ} → NamesDiffer b → HasCertified (inputs b) v u c → IsImageOfSource (typed_tree c.typed) image → IsImage bytes image → HasFailed u w × IsCutShort u w b.out bytes → Builds b v w (Err (StoreFailed kinds.Output))
not_written b {image = image} {bytes = bytes} differ h compiled is (failed, cut) = meant.refused differ (StoreFailed kinds.Output) (meant.unwritable (record {
  source = h.source;
  image = image;
  bytes = bytes;
  has_image = has_image b h compiled is;
  part = cut_short h.untouched.only_reads.keeps cut;
  failed = failed_later h.untouched.counts failed;
}) refl) refl

-- ---- what is put after that

pub costs_put : (b : BuildWords) (image : Image) (l v w : SinkView) (result : Status) → EndsWith (cost_lines image.functions) Done v w result → IsWritten (due_of b (Ok image)) (streams v l) (streams w l) result
costs_put b image l v w result h = out_last Done (cost_lines image.functions) l v w result h

pub fault_put : (b : BuildWords) (status : Status) (o v w : SinkView) (result : Status) → EndsWith (status_line (names_of b) status) status v w result → IsWritten (due_of b (Err status)) (streams o v) (streams o w) result
fault_put b status o v w result h = log_last status (status_line (names_of b) status) o v w result h

pub build_answers : (b : BuildWords) (s s' : StoreView) (o o' l l' : SinkView) (work : Result Image Status) (result : Status) → Builds b s s' work → IsWritten (due_of b work) (streams o l) (streams o' l') result → Answers (build b) (views_of s o l) (views_of s' o' l') result
build_answers b s s' o o' l l' work result d h = record { due = due_of b work; is_due = d; written = h }
