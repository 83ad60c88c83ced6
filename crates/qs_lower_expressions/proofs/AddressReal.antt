-- The code of addresses: members and elements, one behind another.
use Rattle.std.proofs.Common.{◌≡◌, ℕ, ◌+◌, Bool, true, false, if◌then◌else◌, List, Option, Some, None, refl, sym, ap, ◌∙◌, subst, arith}
use Rattle.qs_memory.specs.Partial.{◌>>=◌}
use Rattle.qs_memory.specs.Values.{Pointer, address, as_pointer}
use Rattle.qs_memory.specs.Memory.{Memory}
use Rattle.qs_memory.specs.Pointers.{member_of}
use Rattle.qs_memory.specs.declared.operation.Signedness.{Signedness}
use Rattle.qs_memory.specs.Operations.{apply_binary}
use Rattle.qs_calls.specs.World.{World, RootRun, Environment}
use Rattle.qs_core.specs.Trees.{CoreExprTree, CoreFunctionTree}
use Rattle.qs_core.specs.Expressions.{Locals, value}
use Rattle.qs_core.specs.Trees as core
use Rattle.qs_memory.specs.declared.operation.Direction.TheVariants.{Up}
use Rattle.qs_memory.specs.declared.operation.BinaryOperation.TheVariants as binaries
use Rattle.qs_tac.specs.Trees.{InstructionTree, address_of}
use Rattle.qs_tac.specs.Holders.{temporaries}
use Rattle.qs_tac.specs.Values.{operand, pointer, member_at, indexed}
use Rattle.qs_tac.specs.declared.operands.Index.{Index}
use Rattle.qs_tac.specs.Fits.{is_word}
use Rattle.qs_tac.specs.declared.operands.Operand.{Operand}
use Rattle.qs_lower_expressions.specs.Exits.{Exit}
use Rattle.qs_lower_expressions.specs.Operands.{gives_pointer}
use Rattle.qs_lower_expressions.specs.Expressions.{IndexCode, ExprCode, size_of, operand_of, own, based, index_at, address_at, further, behind_parts, indexed_by, by_address}
use Rattle.qs_lower_expressions.proofs.SizeLaws.{one_more, Sized, address_sized}
use Rattle.qs_lower_expressions.proofs.OperandLaws.{gives_pointer_is}
use Rattle.qs_lower_expressions.proofs.AddressLaws.{bind_some, bind_bind, bind_same, pointer_value, further_member, element_same}
use Rattle.qs_lower_expressions.proofs.RealisationLaws.{Model, Act, Stack, has_left, has_right, kept_all, kept_then, kept_below, Real, moment, IsCode, Agree, BaseReal, Goes}
use Rattle.qs_lower_expressions.proofs.ValueReal.{none_bind, no_pointer}
use Rattle.qs_lower_expressions.proofs.ValueReal as value_real

module _ (u : Model) (f : CoreFunctionTree) (code : List InstructionTree) (function : ℕ) (stack : Stack) (is_code : IsCode u f code function stack) where
  abbrev pub at_moment : (at first : ℕ) → Environment → Act
  at_moment at first e = moment u f code function stack at first e

  abbrev pub Makes : (d at first : ℕ) → Environment → World → RootRun → Type 0
  Makes d at first e w r = Real u d (at_moment at first e) w stack r

  abbrev pub Agrees : Locals → Environment → Type 0
  Agrees l e = Agree u f code function stack l e

  abbrev pub Ends : (d : ℕ) → Exit → (end first : ℕ) → Environment → World → RootRun → Type 0
  Ends d x end first e w r = Goes u f code function stack (λ c p. Makes c p first e w r) d x end

  abbrev pub AsBase : CoreExprTree → ExprCode → Type 0
  AsBase s c = BaseReal u f code function stack s c

  abbrev pub Correct : CoreExprTree → ExprCode → Type 0
  Correct s c = value_real.Correct u f code function stack is_code s c

  -- ---- addresses

  abbrev pub Pointed : ExprCode → (t i : ℕ) → Locals → Environment → Memory → Option Pointer
  Pointed p t i l e m = pointer temporaries (address_at p t) (at_moment i l.first_block e) m

  -- the pointer so many bytes behind another
  abbrev pub IsBehind : (s behind_it : CoreExprTree) → (bytes : ℕ) → Type 0
  IsBehind s r bytes =
      (at : ℕ) (l : Locals) (e : Environment) (m : Memory) → Agrees l e
      → (value r l m >>= as_pointer) ≡ ((value s l m >>= as_pointer) >>= λ q. member_of m q bytes)

  pub rebase :
      (s s2 : CoreExprTree) (bytes : ℕ) (p : ExprCode) (o : Option ℕ) (ix : Option IndexCode) → IsBehind s s2 bytes → AsBase s p
      → ((t i : ℕ) (l : Locals) (e : Environment) (m : Memory)
      → Pointed (record p { offset = o; index = ix }) t i l e m ≡ (Pointed p t i l e m >>= λ q. member_of m q bytes))
      → AsBase s2 (record p { offset = o; index = ix })
  rebase s s2 bytes p o ix is base shifts d t at l e w r le agree has none next =
      base d t at l e w r le agree has
      (λ h. none (is at l e w.memory agree ∙ none_bind _ _ h))
      (λ after kept same.
      next after kept
      (λ i later k.
      shifts t i l later w.memory ∙ ap (λ q. q >>= λ x. member_of w.memory x bytes) (same i later k) ∙ sym (is at l e w.memory agree)))

  -- the parts of an address
  abbrev pub parts : Operand → Option ℕ → Option Index → (i : ℕ) → Locals → Environment → Memory → Option Pointer
  parts o off ix i l e m =
      operand temporaries o (at_moment i l.first_block e)
      >>= λ v. as_pointer v >>= λ q. member_at m off q >>= λ r. indexed temporaries ix r (at_moment i l.first_block e) m

  pub offset_shifts :
      (p : ExprCode) (bytes : ℕ) → p.index ≡ None → (t i : ℕ) (l : Locals) (e : Environment) (m : Memory)
      → Pointed (record p { offset = Some (further p.offset bytes) }) t i l e m ≡ (Pointed p t i l e m >>= λ q. member_of m q bytes)
  offset_shifts p bytes none t i l e m =
      ap (λ ix. parts (p.base t) (Some (further p.offset bytes)) (index_at ix t) i l e m) none
      ∙ bind_same (operand temporaries (p.base t) (at_moment i l.first_block e)) _ _
      (λ v. bind_same (as_pointer v) _ _
      (λ q. bind_some (member_at m (Some (further p.offset bytes)) q) ∙ further_member m q p.offset bytes
      ∙ ap (λ o. o >>= λ r. member_of m r bytes) (sym (bind_some (member_at m p.offset q))))
      ∙ sym (bind_bind (as_pointer v) _ _))
      ∙ sym (bind_bind (operand temporaries (p.base t) (at_moment i l.first_block e)) _ _)
      ∙ ap (λ ix. parts (p.base t) p.offset (index_at ix t) i l e m >>= λ q. member_of m q bytes) (sym none)

  pub index_shifts :
      (p : ExprCode) (ix : IndexCode) (bytes : ℕ) → p.index ≡ Some ix → (t i : ℕ) (l : Locals) (e : Environment) (m : Memory)
      → Pointed (record p { index = Some (record ix { offset = Some (further ix.offset bytes) }) }) t i l e m
      ≡ (Pointed p t i l e m >>= λ q. member_of m q bytes)
  index_shifts p ix bytes is t i l e m =
      bind_same (operand temporaries (p.base t) (at_moment i l.first_block e)) _ _
      (λ v. bind_same (as_pointer v) _ _
      (λ q. bind_same (member_at m p.offset q) _ _
      (λ r. bind_same (operand temporaries (ix.count t) (at_moment i l.first_block e)) _ _
      (λ n. bind_same (apply_binary (binaries.Move Up ix.signedness ix.element) m (address r) n) _ _
      (λ x. bind_same (as_pointer x) _ _ (λ y. further_member m y ix.offset bytes)
      ∙ sym (bind_bind (as_pointer x) _ _))
      ∙ sym (bind_bind (apply_binary (binaries.Move Up ix.signedness ix.element) m (address r) n) _ _))
      ∙ sym (bind_bind (operand temporaries (ix.count t) (at_moment i l.first_block e)) _ _))
      ∙ sym (bind_bind (member_at m p.offset q) _ _))
      ∙ sym (bind_bind (as_pointer v) _ _))
      ∙ sym (bind_bind (operand temporaries (p.base t) (at_moment i l.first_block e)) _ _)
      ∙ ap (λ jx. parts (p.base t) p.offset (index_at jx t) i l e m >>= λ q. member_of m q bytes) (sym is)

  -- the pointer itself, with an offset
  pub plain_shifts :
      (p : ExprCode) (bytes : ℕ) (t i : ℕ) (l : Locals) (e : Environment) (m : Memory)
      → Pointed (record (based p) { offset = Some bytes }) t i l e m ≡ (Pointed (based p) t i l e m >>= λ q. member_of m q bytes)
  plain_shifts p bytes t i l e m =
      let same : 0 + bytes ≡ bytes = omega arith in
      subst (λ (n : ℕ). Pointed (record (based p) { offset = Some n }) t i l e m ≡ (Pointed (based p) t i l e m >>= λ q. member_of m q bytes)) same
      (offset_shifts (based p) bytes refl t i l e m)

  pub if_base : (s : CoreExprTree) (b : Bool) (p q : ExprCode) → AsBase s p → AsBase s q → AsBase s (if b then p else q)
  if_base s true p q h k = h
  if_base s false p q h k = k

  pub behind_base :
      (s s2 : CoreExprTree) (bytes : ℕ) (p : ExprCode) → IsBehind s s2 bytes → Correct s p → (o : Option IndexCode) → p.index ≡ o
      → AsBase s2 (behind_parts o p bytes)
  behind_base s s2 bytes p is h None none =
      if_base s2 (is_word (further p.offset bytes)) _ _
      (rebase s s2 bytes p (Some (further p.offset bytes)) p.index is h.base (λ t i l e m. offset_shifts p bytes none t i l e m))
      (rebase s s2 bytes (based p) (Some bytes) None is (value_real.base_from u f code function stack is_code s p (value_real.as_operand u f code function stack is_code s p h)) (λ t i l e m. plain_shifts p bytes t i l e m))
  behind_base s s2 bytes p is h (Some ix) some =
      if_base s2 (is_word (further ix.offset bytes)) _ _
      (rebase s s2 bytes p p.offset (Some (record ix { offset = Some (further ix.offset bytes) })) is h.base
      (λ t i l e m. index_shifts p ix bytes some t i l e m))
      (rebase s s2 bytes (based p) (Some bytes) None is (value_real.base_from u f code function stack is_code s p (value_real.as_operand u f code function stack is_code s p h)) (λ t i l e m. plain_shifts p bytes t i l e m))

  pub address_correct : (s : CoreExprTree) (p : ExprCode) → gives_pointer s ≡ true → Sized p → AsBase s p → Correct s (by_address p)
  address_correct s p is size base =
      let v = value_real.by_value_correct u f code function stack is_code s (p.base_size + 1) p.base_used _ (λ x t at. one_more _ _ _ (size.base t at))
      (λ d x t at l e w r le agree has none next.
      base d t at l e w r le agree (has_left code at (p.base_code t at) _ has)
      (λ k. none (pointer_value (value s l w.memory) (gives_pointer_is s is l w.memory) ∙ none_bind _ _ k))
      (λ after kept same.
      value_real.finish u f code function stack is_code (address_of x (address_at p t)) d x t p.base_size at l e after w r _ (value s l w.memory)
      (ap (λ o. o >>= λ q. Some (address q)) (same (at + p.base_size) after (kept_all (t + p.base_own) after))
      ∙ sym (pointer_value (value s l w.memory) (gives_pointer_is s is l w.memory)))
      (value_real.last_at u f code function stack is_code at p.base_size (p.base_code t at) _ (size.base t at) has)
      ((refl, λ g. refl), λ next. refl) kept none next)) in
      record { sized = address_sized p size; into = v.into; simple = v.simple; base = base; test = v.test; known = v.known }

  -- an element: the code of its count stands behind that of the base
  pub index_base :
      (a b : CoreExprTree) (s : Signedness) (element : ℕ) (p q : ExprCode) → p.index ≡ None → Sized p → AsBase a p → Correct b q
      → AsBase (core.binary (binaries.Move Up s element) a b) (indexed_by s element p q)
  index_base a b s element p q none size base h d t at l e w r le agree has fault next =
      base d t at l e w r le agree (has_left code at (p.base_code t at) _ has)
      (λ k. fault (element_same w.memory s element (value a l w.memory) (value b l w.memory) ∙ none_bind _ _ k))
      (λ after kept same.
      value_real.as_operand u f code function stack is_code b q h d (t + p.base_own) (at + p.base_size) l after w r (omega (arith, le)) (value_real.agree_kept u f code function stack is_code t l e after le agree kept)
      (has_right code at p.base_size (p.base_code t at) _ (size.base t at) has)
      (λ k. fault (element_same w.memory s element (value a l w.memory) (value b l w.memory)
      ∙ ap (λ y. (value a l w.memory >>= as_pointer) >>= λ r. y >>= λ n. apply_binary (binaries.Move Up s element) w.memory (address r) n >>= λ z. as_pointer z >>= λ x. Some x) k
      ∙ nothing (value a l w.memory >>= as_pointer)))
      (λ last kept_last second.
      value_real.moved u f code function stack is_code d (at + (p.base_size + size_of q)) (at + p.base_size + size_of q) l.first_block last w r (omega arith)
      (next last (kept_then t (t + p.base_own) e after last (omega arith) kept kept_last)
      (λ i later k.
      element_at i l later w.memory
      (ap (λ ix. parts (p.base t) p.offset (index_at ix t) i l later w.memory) (sym none)
      ∙ same i later (kept_then (t + p.base_own) (t + p.base_own + own q) after last later (omega arith) kept_last
      (kept_below (t + p.base_own + own q) (t + (p.base_own + own q)) last later (omega arith) k)))
      (second i later (kept_below (t + p.base_own + own q) (t + (p.base_own + own q)) last later (omega arith) k))
      ∙ sym (element_same w.memory s element (value a l w.memory) (value b l w.memory))))))
    where
      nothing : (o : Option Pointer) → (o >>= no_pointer) ≡ None
      nothing None = refl
      nothing (Some x) = refl

      element_at :
          (i : ℕ) (l : Locals) (later : Environment) (m : Memory) → parts (p.base t) p.offset None i l later m ≡ (value a l m >>= as_pointer)
          → operand temporaries (operand_of q (t + p.base_own)) (at_moment i l.first_block later) ≡ value b l m
          → parts (p.base t) p.offset (Some (record { count = operand_of q (t + p.base_own); signedness = s; element = element; offset = None })) i l later m
          ≡ ((value a l m >>= as_pointer) >>= λ r. value b l m >>= λ y. apply_binary (binaries.Move Up s element) m (address r) y >>= λ z. as_pointer z >>= λ x. Some x)
      element_at i l later m first second =
          bind_same (operand temporaries (p.base t) (at_moment i l.first_block later)) _ _
          (λ v. bind_same (as_pointer v) _ _
          (λ x. ap (λ o. o >>= λ y. indexed temporaries (Some (record { count = operand_of q (t + p.base_own); signedness = s; element = element; offset = None })) y (at_moment i l.first_block later) m)
          (sym (bind_some (member_at m p.offset x))))
          ∙ sym (bind_bind (as_pointer v) _ _))
          ∙ sym (bind_bind (operand temporaries (p.base t) (at_moment i l.first_block later)) _ _)
          ∙ ap (λ o. o >>= λ y. indexed temporaries (Some (record { count = operand_of q (t + p.base_own); signedness = s; element = element; offset = None })) y (at_moment i l.first_block later) m) first
          ∙ bind_same (value a l m >>= as_pointer) _ _
          (λ y. ap (λ o. o >>= λ n. apply_binary (binaries.Move Up s element) m (address y) n >>= λ z. as_pointer z >>= λ x. Some x) second)
