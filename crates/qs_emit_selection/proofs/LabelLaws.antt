-- The labels of a unit count up, and each jump leads to one of them.
use Rattle.std.proofs.Common.{◌≡◌, Bool, false, Option, ℕ, zero, suc, ◌+◌, ◌<◌, ◌≤◌, true, List, [], ◌∷◌, ◌++◌, length, Some, None, refl, sym, ap, subst, ◌∙◌, arith, ltb-true}
use Rattle.std.specs.Prelude.{nat_lt, ◌&&◌, if◌then◌else◌, slice_index_or}
use Rattle.std.specs.List.{list_all, slice_get}
use Rattle.std.specs.Cmp.{first_so, second_so}
use Rattle.qs_memory.specs.declared.operation.Signedness.{Signedness}
use Rattle.qs_memory.specs.declared.operation.Signedness.TheVariants.{Signed, Unsigned}
use Rattle.qs_memory.specs.declared.operation.Comparison.{Comparison}
use Rattle.qs_memory.specs.declared.operation.Comparison.TheVariants as comparisons
use Rattle.qs_calls.specs.declared.callee.Callee.{Callee}
use Rattle.qs_calls.specs.declared.callee.Callee.TheVariants.{Function, PutChar, GetChar}
use Rattle.qs_isa.specs.EnvironmentCalls.{put_byte_call, take_byte_call}
use Rattle.qs_isa.specs.Registers.{x0, a0}
use Rattle.qs_isa.specs.declared.instruction.Instr.{Instr}
use Rattle.qs_isa.specs.declared.instruction.BranchKind.TheVariants.{Beq, Bne}
use Rattle.qs_asm.specs.declared.item.Item.{Item}
use Rattle.qs_asm.specs.declared.item.Item.TheVariants as items
use Rattle.qs_asm.specs.Items.{plain}
use Rattle.qs_asm.specs.Counting.{CountUp, LeadBelow}
use Rattle.qs_tac.specs.Trees.{InstructionTree, move, unary, binary, convert, address_of, load, store}
use Rattle.qs_tac.specs.Trees.{copy, fill, call, jump, branch, return, TacFunctionTree, TacUnitTree}
use Rattle.qs_tac.specs.Fits.{function_fits, instruction_fits, callee_fits, takes, taken_fits, operand_fits, condition_fits, unit_fits, parameter_fits, is_word, data_fits}
use Rattle.qs_tac.specs.Places.{PlacesTree, no_places}
use Rattle.qs_tac.specs.declared.operands.Operand.{Operand}
use Rattle.qs_tac.specs.declared.operands.Condition.{Condition}
use Rattle.qs_tac.specs.declared.operands.Condition.TheVariants.{NotZero, Zero, Compare, ComparePointers}
use Rattle.qs_emit_selection.specs.Operands.{Context, operand_register}
use Rattle.qs_emit_selection.specs.Emission.{Labels, result_into, returned, has_one_epilogue, epilogue, go_out, last_items, is_end, items_at, goes_to, environment, leave, compare_branch, branch_items, instruction_items, body_items, enter, function_items, first_label, labels_of, functions_items, unit_items}
use Rattle.qs_emit_selection.specs.Labels.{label_count, LabelsCountUp, UnitLabelsCountUp}

-- ---- tests

-- ---- lists of items

up_joined : (first middle end : ℕ) (a b : List Item) → CountUp first a middle → CountUp middle b end → CountUp first (a ++ b) end
up_joined first middle end [] b h k = subst (λ n. CountUp n b end) (sym h) k
up_joined first middle end (items.Plain i ∷ a) b h k = up_joined first middle end a b h k
up_joined first middle end (items.Label l ∷ a) b h k = (h.0, up_joined (first + 1) middle end a b h.1 k)
up_joined first middle end (items.Jump rd l ∷ a) b h k = up_joined first middle end a b h k
up_joined first middle end (items.Branch kind r s l ∷ a) b h k = up_joined first middle end a b h k

lead_joined : (end : ℕ) (a b : List Item) → LeadBelow end a → LeadBelow end b → LeadBelow end (a ++ b)
lead_joined end [] b h k = k
lead_joined end (items.Plain i ∷ a) b h k = lead_joined end a b h k
lead_joined end (items.Label l ∷ a) b h k = lead_joined end a b h k
lead_joined end (items.Jump rd l ∷ a) b h k = (h.0, lead_joined end a b h.1 k)
lead_joined end (items.Branch kind r s l ∷ a) b h k = (h.0, lead_joined end a b h.1 k)

up_plain : (first : ℕ) (code : List Instr) → CountUp first (plain code) first
up_plain first [] = refl
up_plain first (i ∷ code) = up_plain first code

lead_plain : (end : ℕ) (code : List Instr) → LeadBelow end (plain code)
lead_plain end [] = tt
lead_plain end (i ∷ code) = lead_plain end code

-- items without a label, which lead below
record Inside (first end : ℕ) (l : List Item) : Type 0 where
  up : CountUp first l first
  lead : LeadBelow end l

inside_plain : (first end : ℕ) (code : List Instr) → Inside first end (plain code)
inside_plain first end code = record { up = up_plain first code; lead = lead_plain end code }

inside_joined : (first end : ℕ) (a b : List Item) → Inside first end a → Inside first end b → Inside first end (a ++ b)
inside_joined first end a b h k = record { up = up_joined first first first a b h.up k.up; lead = lead_joined end a b h.lead k.lead }

inside_compare : (first end : ℕ) (op : Comparison) (s : Signedness) (r q label : ℕ) → label < end → Inside first end (compare_branch op s r q label ∷ [])
inside_compare first end comparisons.Less Signed r q label h = record { up = refl; lead = (h, tt) }
inside_compare first end comparisons.Less Unsigned r q label h = record { up = refl; lead = (h, tt) }
inside_compare first end comparisons.LessOrEqual Signed r q label h = record { up = refl; lead = (h, tt) }
inside_compare first end comparisons.LessOrEqual Unsigned r q label h = record { up = refl; lead = (h, tt) }
inside_compare first end comparisons.Greater Signed r q label h = record { up = refl; lead = (h, tt) }
inside_compare first end comparisons.Greater Unsigned r q label h = record { up = refl; lead = (h, tt) }
inside_compare first end comparisons.GreaterOrEqual Signed r q label h = record { up = refl; lead = (h, tt) }
inside_compare first end comparisons.GreaterOrEqual Unsigned r q label h = record { up = refl; lead = (h, tt) }
inside_compare first end comparisons.Equal s r q label h = record { up = refl; lead = (h, tt) }
inside_compare first end comparisons.NotEqual s r q label h = record { up = refl; lead = (h, tt) }

inside_branch : (c : Context) (first end : ℕ) (condition : Condition) (label : ℕ) → label < end → Inside first end (branch_items c condition label)
inside_branch c first end (NotZero o) label h =
    inside_joined first end _ (items.Branch Bne (operand_register c a0 o) x0 label ∷ []) (inside_plain first end _) (record { up = refl; lead = (h, tt) })
inside_branch c first end (Zero o) label h =
    inside_joined first end _ (items.Branch Beq (operand_register c a0 o) x0 label ∷ []) (inside_plain first end _) (record { up = refl; lead = (h, tt) })
inside_branch c first end (Compare op s x y) label h = inside_joined first end _ _ (inside_plain first end _) (inside_compare first end op s _ _ label h)
inside_branch c first end (ComparePointers op x y) label h = inside_joined first end _ _ (inside_plain first end _) (inside_compare first end op Unsigned _ _ label h)

-- ---- where functions begin

first_at_0 : (fs : List TacFunctionTree) → first_label fs 0 ≡ 0
first_at_0 [] = refl
first_at_0 (g ∷ fs) = refl

first_below : (fs : List TacFunctionTree) (f : ℕ) → f < length fs → first_label fs f < first_label fs (length fs)
first_below [] f h = absurd (omega (arith, h))
first_below (g ∷ fs) zero h = omega arith
first_below (g ∷ fs) (suc f) h = let less = first_below fs f (omega (arith, h)) in omega (arith, less)

known_function : (fs : List TacFunctionTree) (f : ℕ) (arguments : List Operand) → takes (slice_get fs f) arguments ≡ true → f < length fs
known_function [] f arguments h = absurd (cc)
known_function (g ∷ fs) zero arguments h = omega arith
known_function (g ∷ fs) (suc f) arguments h = let less = known_function fs f arguments h in omega (arith, less)

-- the functions from f on have their labels behind those before
abbrev GoesOn : TacUnitTree → (f : ℕ) → List TacFunctionTree → Type 0
GoesOn u f gs = (i : ℕ) → first_label u.functions (f + i) ≡ first_label u.functions f + first_label gs i

module _ (u : TacUnitTree) (ps : List PlacesTree) (data_at : ℕ → ℕ) where
  abbrev all : ℕ
  all = label_count u

  inside_callee : (labels : Labels) (first : ℕ) (f : Callee) (arguments : List Operand)
      → ((g : ℕ) → labels.function g ≡ first_label u.functions g) → callee_fits u f arguments ≡ true → Inside first all (goes_to labels f)
  inside_callee labels first (Function g) arguments same h =
      let known = known_function u.functions g.0 arguments h in
      let less = first_below u.functions g.0 known in
      let is = same g.0 in
      record { up = refl; lead = (omega (arith, less, is), tt) }
  inside_callee labels first PutChar arguments same h = inside_plain first all (environment put_byte_call)
  inside_callee labels first GetChar arguments same h = inside_plain first all (environment take_byte_call)

  module _ (c : Context) (labels : Labels) (own : ℕ) (same : (g : ℕ) → labels.function g ≡ first_label u.functions g)
      (is : (k : ℕ) → labels.instruction k ≡ own + k) (room : own + length c.function.code < all) where
    target_below : (to : ℕ) → nat_lt to (length c.function.code) ≡ true → labels.instruction to < all
    target_below to h =
        let less = ltb-true to (length c.function.code) h in
        let there = is to in
        omega (arith, less, there, room)

    inside : (first : ℕ) (i : InstructionTree) → instruction_fits u c.function i ≡ true → Inside first all (instruction_items c labels i)
    inside first (move x o) h = inside_plain first all _
    inside first (unary op x o) h = inside_plain first all _
    inside first (binary op x o p) h = inside_plain first all _
    inside first (convert s x o) h = inside_plain first all _
    inside first (address_of x p) h = inside_plain first all _
    inside first (load s x p) h = inside_plain first all _
    inside first (store s p o) h = inside_plain first all _
    inside first (copy size alignment p q) h = inside_plain first all _
    inside first (fill blank p) h = inside_plain first all _
    inside first (call x f arguments) h =
        let k = first_so _ (callee_fits u f arguments) (first_so (taken_fits c.function x && callee_fits u f arguments) (list_all (operand_fits u c.function) arguments) h) in
        let fits = second_so (taken_fits c.function x) (callee_fits u f arguments) (first_so (taken_fits c.function x && callee_fits u f arguments) (list_all (operand_fits u c.function) arguments) h) in
        inside_joined first all _ _ (inside_plain first all _)
        (inside_joined first all _ _ (inside_callee labels first f arguments same fits) (inside_plain first all _))
    inside first (jump to) h = record { up = refl; lead = (target_below to h, tt) }
    inside first (branch condition to) h =
        inside_branch c first all condition (labels.instruction to)
        (target_below to (second_so (condition_fits u c.function condition) (nat_lt to (length c.function.code)) h))
    inside first (return o) h = inside_joined first all (plain (result_into c o)) (go_out c labels) (inside_plain first all (result_into c o)) (out (has_one_epilogue c.function))
      where
        out : (b : Bool) → Inside first all (if b then items.Jump x0 (labels.instruction (length c.function.code)) ∷ [] else plain (leave c))
        out true = let there = is (length c.function.code) in record { up = refl; lead = (omega (arith, there, room), tt) }
        out false = inside_plain first all (leave c)

    inside_last : (first : ℕ) (i : InstructionTree) → instruction_fits u c.function i ≡ true → (o : Option (Option Operand)) → Inside first all (last_items c labels i o)
    inside_last first i h None = inside first i h
    inside_last first i h (Some o) = inside_plain first all (result_into c o)

    inside_at : (first : ℕ) (i : InstructionTree) → instruction_fits u c.function i ≡ true → (b : Bool) → Inside first all (items_at c labels b i)
    inside_at first i h true = inside_last first i h (returned i)
    inside_at first i h false = inside first i h

    body_up : (k : ℕ) (code : List InstructionTree) → list_all (instruction_fits u c.function) code ≡ true
        → CountUp (own + k) (body_items c labels k code) (own + k + length code + 1)
    body_up k [] h = (is k, subst (λ n. CountUp (own + k + 1) (plain (epilogue c)) n) (let e : own + k + 1 ≡ own + k + 0 + 1 = omega arith in e) (up_plain (own + k + 1) (epilogue c)))
    body_up k (i ∷ code) h =
        let next : own + k + 1 ≡ own + (k + 1) = omega arith in
        let end : own + (k + 1) + length code + 1 ≡ own + k + suc (length code) + 1 = omega arith in (
          is k,
          up_joined (own + k + 1) (own + k + 1) (own + k + suc (length code) + 1) (items_at c labels (is_end code) i) (body_items c labels (k + 1) code)
              ((inside_at (own + k + 1) i (first_so (instruction_fits u c.function i) (list_all (instruction_fits u c.function) code) h) (is_end code)).up)
              (subst (λ n. CountUp n (body_items c labels (k + 1) code) (own + k + suc (length code) + 1)) (sym next)
              (subst (λ n. CountUp (own + (k + 1)) (body_items c labels (k + 1) code) n) end
              (body_up (k + 1) code (second_so (instruction_fits u c.function i) (list_all (instruction_fits u c.function) code) h)))),
        )

    body_lead : (k : ℕ) (code : List InstructionTree) → list_all (instruction_fits u c.function) code ≡ true
        → LeadBelow all (body_items c labels k code)
    body_lead k [] h = lead_plain all (epilogue c)
    body_lead k (i ∷ code) h =
        lead_joined all (items_at c labels (is_end code) i) (body_items c labels (k + 1) code)
        ((inside_at 0 i (first_so (instruction_fits u c.function i) (list_all (instruction_fits u c.function) code) h) (is_end code)).lead)
        (body_lead (k + 1) code (second_so (instruction_fits u c.function i) (list_all (instruction_fits u c.function) code) h))

  -- ---- functions

  code_fits : (g : TacFunctionTree) → function_fits u g ≡ true → list_all (instruction_fits u g) g.code ≡ true
  code_fits g h = second_so (list_all (parameter_fits g) g.parameters && list_all is_word g.blocks) (list_all (instruction_fits u g) g.code) h

  function_up : (c : Context) (f : ℕ) → function_fits u c.function ≡ true → first_label u.functions f + length c.function.code + 2 ≤ all
      → CountUp (first_label u.functions f) (function_items c (labels_of u f) f) (first_label u.functions f + (length c.function.code + 2))
  function_up c f h room =
      let own = first_label u.functions f + 1 in
      let end : own + 0 + length c.function.code + 1 ≡ first_label u.functions f + (length c.function.code + 2) = omega arith in
      let at : own + 0 ≡ own = omega arith in (
        refl,
        up_joined own own (first_label u.functions f + (length c.function.code + 2)) (plain (enter c)) (body_items c (labels_of u f) 0 c.function.code)
            (up_plain own (enter c))
            (subst (λ n. CountUp own (body_items c (labels_of u f) 0 c.function.code) n) end
            (subst (λ n. CountUp n (body_items c (labels_of u f) 0 c.function.code) (own + 0 + length c.function.code + 1)) at
            (body_up c (labels_of u f) own (λ g. refl) (λ k. refl) (omega (arith, room)) 0 c.function.code (code_fits c.function h)))),
      )

  function_lead : (c : Context) (f : ℕ) → function_fits u c.function ≡ true → first_label u.functions f + length c.function.code + 2 ≤ all
      → LeadBelow all (function_items c (labels_of u f) f)
  function_lead c f h room =
      lead_joined all (plain (enter c)) (body_items c (labels_of u f) 0 c.function.code) (lead_plain all (enter c))
      (body_lead c (labels_of u f) (first_label u.functions f + 1) (λ g. refl) (λ k. refl) (omega (arith, room)) 0 c.function.code (code_fits c.function h))

  goes_on : (f : ℕ) (g : TacFunctionTree) (gs : List TacFunctionTree) → GoesOn u f (g ∷ gs) → GoesOn u (f + 1) gs
  goes_on f g gs h i =
      let one = h 1 in
      let more = h (suc i) in
      let none = first_at_0 gs in
      let at : f + 1 + i ≡ f + suc i = omega arith in
      ap (first_label u.functions) at ∙ omega (arith, one, more, none)

  next_label : (f : ℕ) (g : TacFunctionTree) (gs : List TacFunctionTree) → GoesOn u f (g ∷ gs)
      → first_label u.functions (f + 1) ≡ first_label u.functions f + (length g.code + 2)
  next_label f g gs h = let one = h 1 in let none = first_at_0 gs in omega (arith, one, none)

  -- the context of a function, as its items have it
  abbrev context : (f : ℕ) → TacFunctionTree → Context
  context f g = record { function = g; places = slice_index_or ps f no_places; data_at = data_at }

  functions_up : (f : ℕ) (gs : List TacFunctionTree) → GoesOn u f gs → list_all (function_fits u) gs ≡ true
      → first_label u.functions f + first_label gs (length gs) ≡ all
      → CountUp (first_label u.functions f) (functions_items u ps data_at f gs) all
  functions_up f [] on h end = omega (arith, end)
  functions_up f (g ∷ gs) on h end =
      let next = next_label f g gs on in
      let total : first_label (g ∷ gs) (length (g ∷ gs)) ≡ length g.code + 2 + first_label gs (length gs) = refl in
      up_joined (first_label u.functions f) (first_label u.functions (f + 1)) all (function_items (context f g) (labels_of u f) f) (functions_items u ps data_at (f + 1) gs)
      (subst (λ n. CountUp (first_label u.functions f) (function_items (context f g) (labels_of u f) f) n) (sym next)
      (function_up (context f g) f (first_so (function_fits u g) (list_all (function_fits u) gs) h) (omega (arith, end, total))))
      (functions_up (f + 1) gs (goes_on f g gs on) (second_so (function_fits u g) (list_all (function_fits u) gs) h) (omega (arith, end, total, next)))

  functions_lead : (f : ℕ) (gs : List TacFunctionTree) → GoesOn u f gs → list_all (function_fits u) gs ≡ true
      → first_label u.functions f + first_label gs (length gs) ≡ all
      → LeadBelow all (functions_items u ps data_at f gs)
  functions_lead f [] on h end = tt
  functions_lead f (g ∷ gs) on h end =
      let next = next_label f g gs on in
      let total : first_label (g ∷ gs) (length (g ∷ gs)) ≡ length g.code + 2 + first_label gs (length gs) = refl in
      lead_joined all (function_items (context f g) (labels_of u f) f) (functions_items u ps data_at (f + 1) gs)
      (function_lead (context f g) f (first_so (function_fits u g) (list_all (function_fits u) gs) h) (omega (arith, end, total)))
      (functions_lead (f + 1) gs (goes_on f g gs on) (second_so (function_fits u g) (list_all (function_fits u) gs) h) (omega (arith, end, total, next)))

  goes_on_from_0 : (i : ℕ) → first_label u.functions (0 + i) ≡ first_label u.functions 0 + first_label u.functions i
  goes_on_from_0 i =
      let at : 0 + i ≡ i = omega arith in
      let zero_is = first_at_0 u.functions in
      ap (first_label u.functions) at ∙ omega (arith, zero_is)

  labels_count_up : unit_fits u ≡ true → LabelsCountUp u ps data_at
  labels_count_up h =
      let both = first_so (list_all (function_fits u) u.functions && nat_lt u.main (length u.functions)) (list_all data_fits u.data_blocks) h in
      let fit = first_so (list_all (function_fits u) u.functions) (nat_lt u.main (length u.functions)) both in
      let main = ltb-true u.main (length u.functions) (second_so (list_all (function_fits u) u.functions) (nat_lt u.main (length u.functions)) both) in
      let less = first_below u.functions u.main main in
      let zero_is = first_at_0 u.functions in
      let on : GoesOn u 0 u.functions = λ i. goes_on_from_0 i in
      let end : first_label u.functions 0 + first_label u.functions (length u.functions) ≡ all = omega (arith, zero_is) in
      record {
        up = subst (λ n. CountUp n (unit_items u ps data_at) all) zero_is (functions_up 0 u.functions on fit end);
        lead = (less, functions_lead 0 u.functions on fit end);
      }

pub unit_labels_count_up : UnitLabelsCountUp
unit_labels_count_up u ps data_at h = labels_count_up u ps data_at h
