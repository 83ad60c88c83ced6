-- What is assembled lies as its items do.
use Rattle.std.proofs.Common.{◌≡◌, inl, inr, ℕ, suc, ◌+◌, ◌-◌, ◌*◌, ◌%◌, ◌^◌, true, false, Bool, List, [], ◌∷◌, ◌++◌, length, map, Option, Some, None, refl, sym, ap, subst, ◌∙◌, append_assoc, arith}
use Rattle.std.specs.Prelude.{◌==◌, if◌then◌else◌, unwrap_or}
use Rattle.std.specs.Option.{option_or}
use Rattle.std.proofs.lemmas.Bool.{eqb-true}
use Rattle.std.proofs.Math.Path.{fun_ext}
use Rattle.qs_base.specs.Words.{sub}
use Rattle.qs_isa.specs.declared.instruction.Instr.{Instr}
use Rattle.qs_isa.specs.declared.instruction.Instr.TheVariants as instructions
use Rattle.qs_isa.specs.declared.instruction.BranchKind.{BranchKind}
use Rattle.qs_isa.specs.Table.{decode_of}
use Rattle.qs_asm.specs.declared.item.Item.{Item}
use Rattle.qs_asm.specs.declared.sized_item.SizedItem.{SizedItem}
use Rattle.qs_asm.specs.declared.sized_item.SizedItem.TheVariants as sizes
use Rattle.qs_asm.specs.Items.{inverse, Lays}
use Rattle.qs_asm.specs.Sizing.{item_bytes, label_of, label_among, is_near, branch_distance, sized_items}
use Rattle.qs_asm.specs.Assembly.{Notes, AreLabels, is_reached, distance_to, jump_code, short_code, long_code, label_code, item_code, before, joined, code_from, assembled, label_offset, AreOffsets, HasWords, IsAssembly}
use Rattle.qs_asm.proofs.SizingLaws.{items_of, sized_keep}

-- ---- labels

-- the labels so far and those of the rest are all
pub record GivesLabels (labels : ℕ → Option ℕ) (from : ℕ) (rest items : List SizedItem) : Type 0 where
  pub each : (l : ℕ) → option_or (label_among from rest l) (labels l) ≡ label_among 0 items l

or_none : (a : Option ℕ) → option_or a None ≡ a
or_none None = refl
or_none (Some place) = refl

or_assoc : (a b c : Option ℕ) → option_or a (option_or b c) ≡ option_or (option_or a b) c
or_assoc None b c = refl
or_assoc (Some place) b c = refl

pub labels_start : (labels : ℕ → Option ℕ) (items : List SizedItem) → ((l : ℕ) → labels l ≡ None) → GivesLabels labels 0 items items
labels_start labels items none = record {
  each = λ l. ap (option_or (label_among 0 items l)) (none l) ∙ or_none (label_among 0 items l);
}

pub labels_go_on :
    (old new : ℕ → Option ℕ) (from : ℕ) (i : SizedItem) (rest items : List SizedItem)
    → Notes old new from i → GivesLabels old from (i ∷ rest) items → GivesLabels new (from + item_bytes i) rest items
labels_go_on old new from i rest items notes h = record {
  each = λ l.
      ap (option_or (label_among (from + item_bytes i) rest l)) (notes.each l)
      ∙ (or_assoc (label_among (from + item_bytes i) rest l) (label_of from i l) (old l) ∙ h.each l);
}

-- the labels of the sized items are the offsets
pub offsets_are :
    (labels : ℕ → Option ℕ) (items : List Item) (sized : List SizedItem)
    → AreLabels labels sized → sized ≡ sized_items items → AreOffsets labels items
offsets_are labels items sized are is = record { each = λ l. are.each l ∙ ap (λ s. label_among 0 s l) is }

-- ---- instructions

pub joined_before :
    (code new : List Instr) (a b : Option (List Instr)) → before code a ≡ Some new → before code (joined a b) ≡ before new b
joined_before code new None b h = absurd (cc)
joined_before code new (Some x) None h = refl
joined_before code new (Some x) (Some y) h =
    let e : code ++ x ≡ new = cc in
    ap Some (sym (append_assoc code x y) ∙ ap (λ z. z ++ y) e)

pub code_goes_on :
    (labels : ℕ → Option ℕ) (from : ℕ) (code new : List Instr) (i : SizedItem) (rest : List SizedItem)
    → before code (item_code labels from i) ≡ Some new
    → before code (code_from labels from (i ∷ rest)) ≡ before new (code_from labels (from + item_bytes i) rest)
code_goes_on labels from code new i rest h =
    joined_before code new (item_code labels from i) (code_from labels (from + item_bytes i) rest) h

-- ---- where it lies

abbrev pub HasCode : (at : ℕ → Option Instr) → (here : ℕ) → List Instr → Type 0
HasCode at here [] = Unit {0}
HasCode at here (i ∷ code) = (at here ≡ Some i) × HasCode at (here + 4) code

-- there is code, and it lies from an address to another
abbrev pub CodeLies : (at : ℕ → Option Instr) → (here to : ℕ) → Option (List Instr) → Type 0
CodeLies at here to None = ⊥
CodeLies at here to (Some code) = HasCode at here code × (here + 4 * length code ≡ to)

-- a distance stays the same where both ends move
moved : (start place from : ℕ) → sub (start + place) (start + from) ≡ sub place from
moved start place from =
    let e : (start + place) + 2 ^ 32 - (start + from) ≡ place + 2 ^ 32 - from = omega arith in
    ap (λ n. n % 2 ^ 32) e

module _ (at : ℕ → Option Instr) (to : ℕ) where
  plain_lies :
      (here : ℕ) (i : Instr) (rest : Option (List Instr))
      → CodeLies at here to (joined (Some (i ∷ [])) rest) → (at here ≡ Some i) × CodeLies at (here + 4) to rest
  plain_lies here i None h = absurd h
  plain_lies here i (Some code) h = (h.0.0, (h.0.1, omega (arith, h.1)))

  nothing_lies : (here : ℕ) (rest : Option (List Instr)) → CodeLies at here to (joined (Some []) rest) → CodeLies at here to rest
  nothing_lies here None h = h
  nothing_lies here (Some code) h = h

  label_by :
      (here from place : ℕ) (rest : Option (List Instr)) (same : Bool) → place == from ≡ same
      → CodeLies at here to (joined (if same then Some [] else None) rest) → (place ≡ from) × CodeLies at here to rest
  label_by here from place rest true e h = (eqb-true place from e, nothing_lies here rest h)
  label_by here from place rest false e h = absurd h

  label_lies :
      (here from : ℕ) (place : Option ℕ) (rest : Option (List Instr))
      → CodeLies at here to (joined (label_code from place) rest) → (unwrap_or place 0 ≡ from) × CodeLies at here to rest
  label_lies here from None rest h = absurd h
  label_lies here from (Some place) rest h = label_by here from place rest (place == from) refl h

  jump_by :
      (here from place rd : ℕ) (rest : Option (List Instr)) (reached : Bool)
      → CodeLies at here to (joined (jump_code rd (if reached then Some (sub place from) else None)) rest)
      → (at here ≡ Some (instructions.Jal rd (sub place from))) × CodeLies at (here + 4) to rest
  jump_by here from place rd rest true h = plain_lies here (instructions.Jal rd (sub place from)) rest h
  jump_by here from place rd rest false h = absurd h

  jump_lies :
      (start here from rd : ℕ) (place : Option ℕ) (rest : Option (List Instr)) → here ≡ start + from
      → CodeLies at here to (joined (jump_code rd (distance_to from place)) rest)
      → (at here ≡ Some (instructions.Jal rd (sub (start + unwrap_or place 0) here))) × CodeLies at (here + 4) to rest
  jump_lies start here from rd None rest e h = absurd h
  jump_lies start here from rd (Some place) rest e h =
      let j = jump_by here from place rd rest (is_reached (sub place from)) h in
      let d : sub (start + place) here ≡ sub place from = ap (sub (start + place)) e ∙ moved start place from in
      (j.0 ∙ ap (λ n. Some (instructions.Jal rd n)) (sym d), j.1)

  short_by :
      (here from place : ℕ) (kind : BranchKind) (a b : ℕ) (rest : Option (List Instr)) (near : Bool)
      → CodeLies at here to (joined (short_code kind a b (if near then Some (sub place from) else None)) rest)
      → (at here ≡ Some (instructions.Branch kind a b (sub place from))) × CodeLies at (here + 4) to rest
  short_by here from place kind a b rest true h = plain_lies here (instructions.Branch kind a b (sub place from)) rest h
  short_by here from place kind a b rest false h = absurd h

  short_lies :
      (start here from : ℕ) (kind : BranchKind) (a b : ℕ) (place : Option ℕ) (rest : Option (List Instr)) → here ≡ start + from
      → CodeLies at here to (joined (short_code kind a b (branch_distance from place)) rest)
      → (at here ≡ Some (instructions.Branch kind a b (sub (start + unwrap_or place 0) here))) × CodeLies at (here + 4) to rest
  short_lies start here from kind a b None rest e h = absurd h
  short_lies start here from kind a b (Some place) rest e h =
      let j = short_by here from place kind a b rest (is_near (sub place from)) h in
      let d : sub (start + place) here ≡ sub place from = ap (sub (start + place)) e ∙ moved start place from in
      (j.0 ∙ ap (λ n. Some (instructions.Branch kind a b n)) (sym d), j.1)

  long_by :
      (here : ℕ) (kind : BranchKind) (a b : ℕ) (distance : Option ℕ) (rest : Option (List Instr))
      → CodeLies at here to (joined (long_code kind a b distance) rest)
      → (at here ≡ Some (instructions.Branch (inverse kind) a b 8))
      × CodeLies at (here + 4) to (joined (jump_code 0 distance) rest)
  long_by here kind a b None rest h = absurd h
  long_by here kind a b (Some distance) None h = absurd h
  long_by here kind a b (Some distance) (Some code) h = (h.0.0, (h.0.1, omega (arith, h.1)))

  pub code_lies :
      (labels : ℕ → Option ℕ) (start here from : ℕ) (items : List SizedItem) → here ≡ start + from
      → CodeLies at here to (code_from labels from items)
      → Lays at (λ l. start + unwrap_or (labels l) 0) here (items_of items) to
  code_lies labels start here from [] e h = omega (arith, h.1)
  code_lies labels start here from (sizes.Plain i ∷ items) e h =
      let p = plain_lies here i (code_from labels (from + 4) items) h in
      (p.0, code_lies labels start (here + 4) (from + 4) items (omega arith) p.1)
  code_lies labels start here from (sizes.Label l ∷ items) e h =
      let p = label_lies here from (labels l) (code_from labels (from + 0) items) h in
      let there : start + unwrap_or (labels l) 0 ≡ here = ap (λ n. start + n) p.0 ∙ sym e in
      (there, code_lies labels start here (from + 0) items (omega arith) p.1)
  code_lies labels start here from (sizes.Jump rd l ∷ items) e h =
      let p = jump_lies start here from rd (labels l) (code_from labels (from + 4) items) e h in
      (p.0, code_lies labels start (here + 4) (from + 4) items (omega arith) p.1)
  code_lies labels start here from (sizes.Short kind a b l ∷ items) e h =
      let p = short_lies start here from kind a b (labels l) (code_from labels (from + 4) items) e h in
      inl (p.0, code_lies labels start (here + 4) (from + 4) items (omega arith) p.1)
  code_lies labels start here from (sizes.Long kind a b l ∷ items) e h =
      let p = long_by here kind a b (distance_to (from + 4) (labels l)) (code_from labels (from + 8) items) h in
      let far : here + 4 ≡ start + (from + 4) = omega arith in
      let j = jump_lies start (here + 4) (from + 4) 0 (labels l) (code_from labels (from + 8) items) far p.1 in
      let beside : (here + 4) + 4 ≡ here + 8 = omega arith in
      inr (p.0, (j.0, code_lies labels start (here + 8) (from + 8) items (omega arith) (subst (λ n. CodeLies at n to (code_from labels (from + 8) items)) beside j.1)))

-- ---- words

pub has_code :
    (at : ℕ → Option Instr) (here : ℕ) (words : List ℕ) (code : List Instr)
    → map decode_of words ≡ map Some code → HasWords at here words → HasCode at here code
has_code at here [] [] e h = h
has_code at here [] (i ∷ code) e h = absurd (cc)
has_code at here (w ∷ words) [] e h = absurd (cc)
has_code at here (w ∷ words) (i ∷ code) e h =
    let first : decode_of w ≡ Some i = cc in
    let others : map decode_of words ≡ map Some code = cc in
    (h.0 ∙ first, has_code at (here + 4) words code others h.1)

pub as_many : (words : List ℕ) (code : List Instr) → map decode_of words ≡ map Some code → length words ≡ length code
as_many [] [] e = refl
as_many [] (i ∷ code) e = absurd (cc)
as_many (w ∷ words) [] e = absurd (cc)
as_many (w ∷ words) (i ∷ code) e =
    let others : map decode_of words ≡ map Some code = cc in
    ap suc (as_many words code others)

pub assembly :
    (labels : ℕ → Option ℕ) (items : List Item) (code : List Instr) (words : List ℕ)
    → AreOffsets labels items → code_from labels 0 (sized_items items) ≡ Some code → map decode_of words ≡ map Some code
    → IsAssembly items words
assembly labels items code words offsets is decodes =
    let same : assembled items ≡ Some code = subst (λ f. code_from f 0 (sized_items items) ≡ Some code) (fun_ext offsets.each) is in
    record {
      code = code;
      is = same;
      decodes = decodes;
      lays = λ at start h.
          let there : HasCode at start code = has_code at start words code decodes h in
          let end : start + 4 * length code ≡ start + 4 * length words = ap (λ n. start + 4 * n) (sym (as_many words code decodes)) in
          let lies : CodeLies at start (start + 4 * length words) (Some code) = (there, end) in
          subst (λ is. Lays at (λ l. start + unwrap_or (label_offset items l) 0) start is (start + 4 * length words)) (sized_keep items)
          (code_lies at (start + 4 * length words) (label_offset items) start start 0 (sized_items items) (omega arith)
          (subst (λ c. CodeLies at start (start + 4 * length words) c) (sym same) lies));
    }

-- of the sized items
pub assembly_of :
    (labels : ℕ → Option ℕ) (items : List Item) (sized : List SizedItem) (code : List Instr) (words : List ℕ)
    → AreLabels labels sized → sized ≡ sized_items items → code_from labels 0 sized ≡ Some code → map decode_of words ≡ map Some code
    → IsAssembly items words
assembly_of labels items sized code words are is h decodes =
    assembly labels items code words (offsets_are labels items sized are is) (ap (code_from labels 0) (sym is) ∙ h) decodes

-- and none where there is none
pub no_assembly :
    (labels : ℕ → Option ℕ) (items : List Item) (sized : List SizedItem)
    → AreLabels labels sized → sized ≡ sized_items items → code_from labels 0 sized ≡ None → assembled items ≡ None
no_assembly labels items sized are is h =
    subst (λ f. code_from f 0 (sized_items items) ≡ None) (fun_ext (offsets_are labels items sized are is).each)
    (ap (code_from labels 0) (sym is) ∙ h)

pub ruleset label_steps = (labels_start, labels_go_on)

pub ruleset assembly_cases = (assembly_of, no_assembly)
