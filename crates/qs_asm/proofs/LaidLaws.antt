-- Where items lie.
use Rattle.std.proofs.Common.{◌≡◌, inl, inr, ℕ, ◌+◌, ◌*◌, ◌≤◌, List, [], ◌∷◌, ◌++◌, Option, refl, sym, subst, arith}
use Rattle.std.specs.Prelude.{◌↔◌, sum_by}
use Rattle.std.proofs.lemmas.List.Sums.{sum_by-cons}
use Rattle.qs_isa.specs.declared.instruction.Instr.{Instr}
use Rattle.qs_asm.specs.declared.item.Item.{Item}
use Rattle.qs_asm.specs.declared.item.Item.TheVariants.{Plain, Label, Jump, Branch}
use Rattle.qs_asm.specs.Items.{Lays, item_words}
use Rattle.qs_asm.specs.Laws.{TakesWords}

module _ (at : ℕ → Option Instr) (place : ℕ → ℕ) where
  pub record Split (from : ℕ) (a b : List Item) (to : ℕ) : Type 0 where
    pub middle : ℕ
    pub front : Lays at place from a middle
    pub back : Lays at place middle b to

  pub laid_split : (from : ℕ) (a b : List Item) (to : ℕ) → Lays at place from (a ++ b) to → Split from a b to
  laid_split from [] b to h = record { middle = from; front = refl; back = h }
  laid_split from (Plain i ∷ a) b to h =
      let s = laid_split (from + 4) a b to h.1 in
      record { middle = s.middle; front = (h.0, s.front); back = s.back }
  laid_split from (Label l ∷ a) b to h =
      let s = laid_split from a b to h.1 in
      record { middle = s.middle; front = (h.0, s.front); back = s.back }
  laid_split from (Jump rd l ∷ a) b to h =
      let s = laid_split (from + 4) a b to h.1 in
      record { middle = s.middle; front = (h.0, s.front); back = s.back }
  laid_split from (Branch kind x y l ∷ a) b to (inl h) =
      let s = laid_split (from + 4) a b to h.1 in
      record { middle = s.middle; front = inl (h.0, s.front); back = s.back }
  laid_split from (Branch kind x y l ∷ a) b to (inr h) =
      let s = laid_split (from + 8) a b to h.1.1 in
      record { middle = s.middle; front = inr (h.0, (h.1.0, s.front)); back = s.back }

  pub laid_join : (from : ℕ) (a b : List Item) (middle to : ℕ) → Lays at place from a middle → Lays at place middle b to → Lays at place from (a ++ b) to
  laid_join from [] b middle to h k = subst (λ (n : ℕ). Lays at place n b to) (sym h) k
  laid_join from (Plain i ∷ a) b middle to h k = (h.0, laid_join (from + 4) a b middle to h.1 k)
  laid_join from (Label l ∷ a) b middle to h k = (h.0, laid_join from a b middle to h.1 k)
  laid_join from (Jump rd l ∷ a) b middle to h k = (h.0, laid_join (from + 4) a b middle to h.1 k)
  laid_join from (Branch kind x y l ∷ a) b middle to (inl h) k = inl (h.0, laid_join (from + 4) a b middle to h.1 k)
  laid_join from (Branch kind x y l ∷ a) b middle to (inr h) k = inr (h.0, (h.1.0, laid_join (from + 8) a b middle to h.1.1 k))

  -- one item more
  further : (from n : ℕ) (item : Item) (items : List Item) (to : ℕ) → n ≤ 4 * item_words item → TakesWords (from + n) items to → TakesWords from (item ∷ items) to
  further from n item items to small r =
      let m : to ≤ from + n + 4 * sum_by item_words items = r.most in
      let o = r.on in
      let more : sum_by item_words (item ∷ items) ≡ item_words item + sum_by item_words items = sum_by-cons item_words item items in
      record { most = omega (arith, m, small, more); on = omega (arith, o) }

  pub takes_some : (from : ℕ) (items : List Item) (to : ℕ) → Lays at place from items to → TakesWords from items to
  takes_some from [] to h = record { most = omega (arith, h); on = omega (arith, h) }
  takes_some from (Plain i ∷ items) to h = further from 4 (Plain i) items to (omega arith) (takes_some (from + 4) items to h.1)
  takes_some from (Label l ∷ items) to h =
      let e : from + 0 ≡ from = omega arith in
      further from 0 (Label l) items to (omega arith) (subst (λ (n : ℕ). TakesWords n items to) (sym e) (takes_some from items to h.1))
  takes_some from (Jump rd l ∷ items) to h = further from 4 (Jump rd l) items to (omega arith) (takes_some (from + 4) items to h.1)
  takes_some from (Branch kind x y l ∷ items) to (inl h) =
      further from 4 (Branch kind x y l) items to (omega arith) (takes_some (from + 4) items to h.1)
  takes_some from (Branch kind x y l ∷ items) to (inr h) =
      further from 8 (Branch kind x y l) items to (omega arith) (takes_some (from + 8) items to h.1.1)

pub laid : (at : ℕ → Option Instr) (place : ℕ → ℕ) (from : ℕ) (a b : List Item) (to : ℕ) → Lays at place from (a ++ b) to ↔ ((middle : ℕ) × (Lays at place from a middle × Lays at place middle b to))
laid at place from a b to = (
  λ h. let s = laid_split at place from a b to h in (s.middle, (s.front, s.back)),
  λ h. laid_join at place from a b h.0 to h.1.0 h.1.1,
)

pub takes_words : (at : ℕ → Option Instr) (place : ℕ → ℕ) (from : ℕ) (items : List Item) (to : ℕ) → Lays at place from items to → TakesWords from items to
takes_words = takes_some
