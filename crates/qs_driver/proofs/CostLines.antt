-- Lines of costs tell the costs: records with the same names that have the same lines have the same costs.
use Rattle.std.proofs.Common.{◌≡◌, ℕ, zero, suc, ◌+◌, ◌<◌, ◌≤◌, ◌%◌, ◌^◌, List, [], ◌∷◌, ◌++◌, length, map, codes, decimal, refl, sym, ap, ◌∙◌, subst, arith}
use Rattle.std.proofs.lemmas.List.{append_assoc, append_cancel_left}
use Rattle.std.proofs.lemmas.Fmt.{decimal_by_steps, decimal_injective}
use Rattle.std.specs.Prelude.{slice_index_or}
use Rattle.qs_core.specs.Trees.{CoreUnitTree}
use Rattle.qs_image.specs.Image.{Image, FunctionRecord}
use Rattle.qs_emit.specs.Images.{no_record}
use Rattle.qs_emit.specs.Relation.{cost_at}
use Rattle.qs_compile.specs.Built.{IsBuiltFrom}
use Rattle.qs_compile.specs.Units.{linear}
use Rattle.qs_compile.proofs.SizeLaws.{function_count, small_frame}
use Rattle.qs_driver_session.specs.Lines.{cost_lines}
use Rattle.qs_driver.specs.Bounds.{costs_in}

-- ---- a number ends where its line does

-- none of these is a line feed, or another control character
abbrev AreGlyphs : List ℕ → Type 0
AreGlyphs [] = Unit {0}
AreGlyphs (c ∷ cs) = (10 < c) × AreGlyphs cs

glyphs_joined : (xs ys : List ℕ) → AreGlyphs xs → AreGlyphs ys → AreGlyphs (xs ++ ys)
glyphs_joined [] ys a b = b
glyphs_joined (x ∷ xs) ys a b = (a.0, glyphs_joined xs ys a.1 b)

digits_are_glyphs : (n : ℕ) → n < 2 ^ 64 → AreGlyphs (decimal n)
digits_are_glyphs =
    decimal_by_steps (λ m ds. AreGlyphs ds) (λ m small. (omega arith, tt))
    (λ m ds large before. glyphs_joined ds ((48 + m % 10) ∷ []) before (omega arith, tt))

-- what stands before the first line feed, and what stands behind it
cut_at_feed : (xs ys us vs : List ℕ) → AreGlyphs xs → AreGlyphs ys → xs ++ 10 ∷ us ≡ ys ++ 10 ∷ vs → (xs ≡ ys) × (us ≡ vs)
cut_at_feed [] [] us vs a b e = (refl, let rest : us ≡ vs = cc in rest)
cut_at_feed [] (y ∷ ys) us vs a b e = let here : 10 ≡ y = cc in let more : 10 < y = b.0 in absurd (omega (arith, here, more))
cut_at_feed (x ∷ xs) [] us vs a b e = let here : x ≡ 10 = cc in let more : 10 < x = a.0 in absurd (omega (arith, here, more))
cut_at_feed (x ∷ xs) (y ∷ ys) us vs a b e =
    let here : x ≡ y = cc in
    let rest : xs ++ 10 ∷ us ≡ ys ++ 10 ∷ vs = cc in
    let both = cut_at_feed xs ys us vs a.1 b.1 rest in
    (ap (λ (z : ℕ). z ∷ xs) here ∙ ap (λ (zs : List ℕ). y ∷ zs) both.0, both.1)

-- ---- lines

-- four parts and a line feed, and then the rest
parted : (p n s d rest : List ℕ) → (p ++ (n ++ (s ++ (d ++ 10 ∷ [])))) ++ rest ≡ p ++ (n ++ (s ++ (d ++ 10 ∷ rest)))
parted p n s d rest =
    append_assoc p (n ++ (s ++ (d ++ 10 ∷ []))) rest
    ∙ ap (λ (l : List ℕ). p ++ l)
    (append_assoc n (s ++ (d ++ 10 ∷ [])) rest
    ∙ ap (λ (l : List ℕ). n ++ l)
    (append_assoc s (d ++ 10 ∷ []) rest
    ∙ ap (λ (l : List ℕ). s ++ l) (append_assoc d (10 ∷ []) rest)))

-- two lines of the same name, with what follows each
behind_name : (p n s d e us vs : List ℕ) → (p ++ (n ++ (s ++ (d ++ 10 ∷ [])))) ++ us ≡ (p ++ (n ++ (s ++ (e ++ 10 ∷ [])))) ++ vs → d ++ 10 ∷ us ≡ e ++ 10 ∷ vs
behind_name p n s d e us vs same =
    append_cancel_left s (d ++ 10 ∷ us) (e ++ 10 ∷ vs)
    (append_cancel_left n (s ++ (d ++ 10 ∷ us)) (s ++ (e ++ 10 ∷ vs))
    (append_cancel_left p (n ++ (s ++ (d ++ 10 ∷ us))) (n ++ (s ++ (e ++ 10 ∷ vs)))
    (sym (parted p n s d us) ∙ same ∙ parted p n s e vs)))

abbrev names_in : List FunctionRecord → List (List ℕ)
names_in = map (λ (f : FunctionRecord). f.name)

abbrev pub AreSmall : List FunctionRecord → Type 0
AreSmall [] = Unit {0}
AreSmall (f ∷ fs) = (f.cost < 2 ^ 64) × AreSmall fs

pub lines_tell_costs : (fs gs : List FunctionRecord) → AreSmall fs → AreSmall gs → names_in fs ≡ names_in gs → cost_lines fs ≡ cost_lines gs → costs_in fs ≡ costs_in gs
lines_tell_costs [] [] a b names lines = refl
lines_tell_costs [] (g ∷ gs) a b names lines = cc
lines_tell_costs (f ∷ fs) [] a b names lines = cc
lines_tell_costs (f ∷ fs) (g ∷ gs) a b names lines =
    let name : f.name ≡ g.name = cc in
    let rest : names_in fs ≡ names_in gs = cc in
    let same = subst (λ (n : List ℕ). (codes "cost " ++ (n ++ (codes " " ++ (decimal f.cost ++ 10 ∷ [])))) ++ cost_lines fs ≡ cost_lines (g ∷ gs)) name lines in
    let digits = behind_name (codes "cost ") g.name (codes " ") (decimal f.cost) (decimal g.cost) (cost_lines fs) (cost_lines gs) same in
    let both = cut_at_feed (decimal f.cost) (decimal g.cost) (cost_lines fs) (cost_lines gs) (digits_are_glyphs f.cost a.0) (digits_are_glyphs g.cost b.0) digits in
    ap (λ (c : ℕ). c ∷ costs_in fs) (decimal_injective f.cost g.cost a.0 b.0 both.0)
    ∙ ap (λ (cs : List ℕ). g.cost ∷ cs) (lines_tell_costs fs gs a.1 b.1 rest both.1)

-- ---- costs of images

small_records : (fs : List FunctionRecord) → ((i : ℕ) → i < length fs → (slice_index_or fs i no_record).cost < 2 ^ 64) → AreSmall fs
small_records [] each = tt
small_records (f ∷ fs) each = (each zero (omega arith), small_records fs (λ i less. each (suc i) (omega (arith, less))))

-- those of an image that is built are costs of frames, which have a limit
pub costs_are_small : (u : CoreUnitTree) (image : Image) → IsBuiltFrom u image → AreSmall image.functions
costs_are_small u image built = small_records image.functions (λ i less.
    let records = built.code.count in
    let functions = function_count u in
    let cost = built.code.costs i (omega (arith, records, less)) in
    let most : cost_at (linear u) built.places i ≤ 2 ^ 28 = small_frame u built.places built.fits i (omega (arith, records, functions, less)) in
    omega (arith, cost, most))
