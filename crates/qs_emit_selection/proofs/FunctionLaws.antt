-- The steps of the loop over a function's code.
use Rattle.std.proofs.Common.{Bool, false, refl, arith, ◌≡◌, ◌++◌, ℕ, zero, suc, ◌+◌, ◌<◌, ◌≤◌, true, None, List, [], ◌∷◌, length, map, drop, get_or, ap, sym, ◌∙◌, subst, add-one, append_assoc}
use Rattle.std.proofs.Math.Seq.{drop-cons}
use Rattle.std.specs.List.{list_all}
use Rattle.qs_asm.specs.declared.item.Item.{Item}
use Rattle.qs_asm.specs.declared.item.Item.TheVariants.{Label}
use Rattle.qs_tac.specs.Trees.{InstructionTree, TacFunctionTree}
use Rattle.qs_tac.specs.TreeOf.{instruction_tree}
use Rattle.qs_tac.specs.Places.{PlacesTree}
use Rattle.qs_tac.specs.declared.instruction.Instruction.{Instruction}
use Rattle.qs_emit_selection.specs.Operands.{Context}
use Rattle.qs_emit_selection.specs.Emission.{Labels, is_end, items_at, body_items}
use Rattle.qs_emit_selection.specs.Limits.{passes_few, function_fault}
use Rattle.qs_emit_selection.proofs.LimitLaws.{is_free}
use Rattle.qs_emit_selection.proofs.FitLaws.{code_fits}

pub few_parameters : (f : TacFunctionTree) (p : PlacesTree) → function_fault f p ≡ None → length f.parameters ≤ 16
few_parameters f p h = (is_free f p h).parameters

pub code_passes_few : (f : TacFunctionTree) (p : PlacesTree) → function_fault f p ≡ None → list_all passes_few f.code ≡ true
code_passes_few f p h = (is_free f p h).code

pub next_instruction :
    (code now : List Instruction) (at : ℕ) (i : Instruction) → now ≡ code → i ≡ get_or now at i → at < length now
    → map instruction_tree (drop at code) ≡ instruction_tree i ∷ map instruction_tree (drop (at + 1) code)
next_instruction code now at i same is h =
    subst (λ (l : List Instruction). map instruction_tree (drop at l) ≡ instruction_tree i ∷ map instruction_tree (drop (at + 1) l)) same
    (ap (map instruction_tree) (drop-cons now at i h)
    ∙ (ap (λ j. instruction_tree j ∷ map instruction_tree (drop (suc at) now)) (sym is)
    ∙ ap (λ n. instruction_tree i ∷ map instruction_tree (drop n now)) (sym (add-one at))))

-- an instruction is the last one where nothing is left behind it
pub end_is : (code : List Instruction) (k : ℕ) (is_last : Bool) → (is_last ≡ true → length code ≤ k) → (length code ≤ k → is_last ≡ true) → is_last ≡ is_end (map instruction_tree (drop k code))
end_is code k is_last to from = by is_last code k to from
  where
    by : (b : Bool) (code : List Instruction) (k : ℕ) → (b ≡ true → length code ≤ k) → (length code ≤ k → b ≡ true) → b ≡ is_end (map instruction_tree (drop k code))
    by b [] zero to from = from (omega arith)
    by b [] (suc k) to from = from (omega arith)
    by true (i ∷ code) zero to from = absurd (let h = to refl in omega (arith, h))
    by false (i ∷ code) zero to from = refl
    by b (i ∷ code) (suc k) to from = by b code k (λ e. let h = to e in omega (arith, h)) (λ h. from (omega (arith, h)))

pub body_goes_on :
    (c : Context) (labels : Labels) (items labelled more whole : List Item) (k next label : ℕ) (is_last : Bool) (i : InstructionTree)
    (all rest : List InstructionTree)
    → all ≡ i ∷ rest → is_last ≡ is_end rest → next ≡ k + 1 → label ≡ labels.instruction k → labelled ≡ items ++ Label label ∷ []
    → more ≡ labelled ++ items_at c labels is_last i → items ++ body_items c labels k all ≡ whole
    → more ++ body_items c labels next rest ≡ whole
body_goes_on c labels items labelled more whole k next label is_last i all rest a last n is first second h =
    ap (λ l. l ++ body_items c labels next rest) (second ∙ ap (λ (b : Bool). labelled ++ items_at c labels b i) last)
    ∙ (append_assoc labelled (items_at c labels (is_end rest) i) (body_items c labels next rest)
    ∙ (ap (λ l. l ++ (items_at c labels (is_end rest) i ++ body_items c labels next rest)) first
    ∙ (append_assoc items (Label label ∷ []) (items_at c labels (is_end rest) i ++ body_items c labels next rest)
    ∙ (ap (λ m. items ++ (Label label ∷ (items_at c labels (is_end rest) i ++ body_items c labels m rest))) n
    ∙ (ap (λ l. items ++ (Label l ∷ (items_at c labels (is_end rest) i ++ body_items c labels (k + 1) rest))) is
    ∙ (ap (λ l. items ++ body_items c labels k l) (sym a) ∙ h))))))

pub ruleset code_facts = (code_passes_few, code_fits)
