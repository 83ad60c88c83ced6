-- What parts of a step do.
use Rattle.std.proofs.Common.{◌≡◌, ℕ, ◌≤◌, ◌^◌, List, [], ◌∷◌, ◌++◌, length, Option, Some, None, refl, ap, sym, ◌∙◌}
use Rattle.std.proofs.Props.{props}
use Rattle.std.proofs.lemmas.List.{append-nil}
use Rattle.std.specs.Option.{option_map}
use Rattle.qs_isa.specs.declared.instruction.Instr.{Instr}
use Rattle.qs_isa.specs.Table.{decode_of}
use Rattle.qs_machine.specs.declared.answers.End.{End}
use Rattle.qs_image.specs.Image.{Image}
use Rattle.qs_machine.specs.declared.answers.StepResult.{StepResult as Answer}
use Rattle.qs_machine.specs.declared.answers.StepResult.TheVariants.{Going, Put, Exited, Trapped}
use Rattle.qs_machine.specs.declared.machine.Machine.{Machine}
use Rattle.qs_machine.specs.State.{State}
use Rattle.qs_machine.specs.Step.{Next, Exits, act, act_on, fetch, step_on, step}
use Rattle.qs_machine.specs.Standing.{IsLoaded, Stands, GoesOn, state_of, end_of, Did, ended}

-- a part that goes on does so from wherever the step began
pub did_next : (l m n : Machine) (image : Image) (size : ℕ) (input output : List ℕ) (t : State) (a : Answer) → end_of m ≡ end_of l → Did m n image size input (state_of m input output) (Next t) a → Did l n image size input (state_of l input output) (Next t) a
did_next l m n image size input output t Going is did = (did.0, did.1, did.2 ∙ is)
did_next l m n image size input output t (Put byte) is did = (did.0, did.1, did.2 ∙ is)
did_next l m n image size input output t (Exited status) is did = absurd (let e : Next t ≡ Exits status = did.0 in cc)
did_next l m n image size input output t (Trapped cause pc) is did = absurd (let e = did.0 in cc)

-- the fact that a machine carries has one proof
pub same_machine : (m : Machine) (fits : length m.instructions.items ≤ 2 ^ 18) → record m { code_fits = fits } ≡ m
same_machine m fits =
    let one : IsProp (length m.instructions.items ≤ 2 ^ 18) = hlevel props in
    ap (λ (p : length m.instructions.items ≤ 2 ^ 18). record m { code_fits = p }) (one fits m.code_fits)

-- ---- the whole step

acts : (image : Image) (size : ℕ) (s : State) (found : Option ℕ) (i : Instr) → Some (Some i) ≡ option_map decode_of found → step_on image size s found ≡ act image size s i
acts image size s None i e = cc
acts image size s (Some word) i e = let d : decode_of word ≡ Some i = cc in ap (act_on image size s) d

pub step-acts : (image : Image) (size : ℕ) (s : State) (i : Instr) → Some (Some i) ≡ option_map decode_of (fetch image s.pc) → step image size s ≡ act image size s i
step-acts image size s i e = acts image size s (fetch image s.pc) i e

-- a step that ends nothing, by what was put
pub goes_on : (m n : Machine) (image : Image) (size : ℕ) (input : List ℕ) (s : State) (bytes : List ℕ) → Stands m image size input s → step image size (state_of m input s.output) ≡ Next (state_of n input (s.output ++ bytes)) → IsLoaded n image size → end_of n ≡ end_of m → GoesOn n image size input s bytes
goes_on m n image size input s bytes stands is loaded same = record {
  next = state_of n input (s.output ++ bytes);
  step_is = ap (step image size) stands.at ∙ is;
  puts = refl;
  stands = record { loaded = loaded; at = refl; going = same ∙ stands.going };
}

pub goes : (m n : Machine) (image : Image) (size : ℕ) (input : List ℕ) (s : State) → Stands m image size input s → step image size (state_of m input s.output) ≡ Next (state_of n input s.output) → IsLoaded n image size → end_of n ≡ end_of m → GoesOn n image size input s []
goes m n image size input s stands is loaded same =
    goes_on m n image size input s [] stands (is ∙ ap (λ (output : List ℕ). Next (state_of n input output)) (sym (append-nil s.output))) loaded same

-- a machine that ended, and otherwise stayed as it was
pub ends : (m n : Machine) (e : End) (fits : length n.instructions.items ≤ 2 ^ 18) → n ≡ m → record n { ended = Some e; code_fits = fits } ≡ ended m e
ends m n e fits is = same_machine (ended n e) fits ∙ ap (λ (x : Machine). ended x e) is
