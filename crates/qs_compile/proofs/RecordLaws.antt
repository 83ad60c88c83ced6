-- The records of functions, by their numbers.
use Rattle.std.proofs.Common.{◌≡◌, ◌⊎◌, inl, inr, ℕ, ◌+◌, ◌<◌, ◌≤◌, List, [], ◌∷◌, ◌++◌, length, map, drop, append-nil, get_or, Option, Some, refl, sym, ap, ◌∙◌, arith}
use Rattle.std.specs.Prelude.{slice_index_or, unwrap_or}
use Rattle.std.proofs.Math.ListN.{drop_of_length-le}
use Rattle.std.proofs.lemmas.Bool.{cases_lt}
use Rattle.std.proofs.lemmas.List.{length-map, length-append, get_or-map, get_or_append_left, get_or_at}
use Rattle.qs_isa.specs.Addresses.{code_start}
use Rattle.qs_asm.specs.declared.item.Item.{Item}
use Rattle.qs_asm.specs.Assembly.{AreOffsets}
use Rattle.qs_core.specs.declared.units.CoreFunction.{CoreFunction}
use Rattle.qs_core.specs.TreeOf as core
use Rattle.qs_core.specs.Trees.{CoreFunctionTree}
use Rattle.qs_image.specs.Image.{FunctionRecord}
use Rattle.qs_tac.specs.Trees.{TacFunctionTree}
use Rattle.qs_tac.specs.Places.{PlacesTree, places_tree, no_places}
use Rattle.qs_tac.specs.TreeOf.{function_tree}
use Rattle.qs_tac.specs.declared.places.Places.{Places}
use Rattle.qs_tac.specs.declared.units.TacFunction.{TacFunction}
use Rattle.qs_frames.specs.Layout.{layout}
use Rattle.qs_emit_selection.specs.Emission.{first_label}
use Rattle.qs_emit.specs.Relation.{no_function}
use Rattle.qs_emit.specs.Images.{no_record}
use Rattle.qs_compile.specs.Records.{frame_bytes, AreAddresses, AreFrameCosts, AreRecords, HaveRecords}

pub have_records :
    (functions : List CoreFunctionTree) (linear : List TacFunctionTree) (places : List PlacesTree) (items : List Item) (labels : ℕ → Option ℕ)
    (addresses costs : List ℕ) (records : List FunctionRecord)
    → length linear ≡ length functions → AreOffsets labels items → AreAddresses labels linear addresses → AreFrameCosts linear places costs → AreRecords functions addresses costs records
    → HaveRecords functions linear places items records
have_records functions linear places items labels addresses costs records same offsets at take are =
    let count : length records ≡ length linear =
    sym (length-map records (λ (r : FunctionRecord). r.name)) ∙ ap length are.names ∙ length-map functions (λ (f : CoreFunctionTree). f.name) ∙ sym same in
    record {
      names = are.names;
      addresses = λ f lt.
          sym (get_or-map (λ (r : FunctionRecord). r.address) records f no_record 0 (omega (arith, lt, count)))
          ∙ ap (λ (l : List ℕ). slice_index_or l f 0) are.addresses ∙ at.each f lt
          ∙ ap (λ (o : Option ℕ). code_start + unwrap_or o 0) (offsets.each (first_label linear f));
      costs = λ f lt.
          sym (get_or-map (λ (r : FunctionRecord). r.cost) records f no_record 0 (omega (arith, lt, count)))
          ∙ ap (λ (l : List ℕ). slice_index_or l f 0) are.costs ∙ take.each f lt;
      counts = are.counts;
    }

-- ---- in code

pub frame_at :
    (functions : List TacFunction) (places : List Places) (f : ℕ) (g : TacFunction) (p : Places) → g ≡ get_or functions f g → p ≡ get_or places f p → f < length functions → f < length places
    → frame_bytes (map function_tree functions) (map places_tree places) f ≡ (layout (function_tree g) (places_tree p)).cost
frame_at functions places f g p is at lt within =
    ap (λ (x : TacFunctionTree). (layout x (slice_index_or (map places_tree places) f no_places)).cost) (get_or-map function_tree functions f g no_function lt ∙ ap function_tree (sym is))
    ∙ ap (λ (x : PlacesTree). (layout (function_tree g) x).cost) (get_or-map places_tree places f p no_places within ∙ ap places_tree (sym at))

-- a value more
pub each_more :
    (value : ℕ → ℕ) (all more : List ℕ) (x n : ℕ) → length all ≡ n → more ≡ all ++ x ∷ [] → x ≡ value n → ((k : ℕ) → k < n → slice_index_or all k 0 ≡ value k)
    → (length more ≡ n + 1) × ((k : ℕ) → k < n + 1 → slice_index_or more k 0 ≡ value k)
each_more value all more x n long is last each =
    let whole = ap length is in
    let parts = length-append all (x ∷ []) in
    (omega (arith, long, whole, parts), λ k lt. by k lt (cases_lt k n))
  where
    by : (k : ℕ) → k < n + 1 → (k < n) ⊎ (n ≤ k) → slice_index_or more k 0 ≡ value k
    by k lt (inl less) = ap (λ (l : List ℕ). slice_index_or l k 0) is ∙ get_or_append_left all (x ∷ []) 0 k (omega (arith, less, long)) ∙ each k less
    by k lt (inr enough) =
        let same : k ≡ n = omega (arith, lt, enough) in
        ap (λ (l : List ℕ). slice_index_or l k 0) is ∙ get_or_at all x [] 0 k (omega (arith, same, long)) ∙ last ∙ ap value (sym same)

pub all_done : (done whole : List ℕ) (n : ℕ) → length whole ≤ n → done ++ drop n whole ≡ whole → done ≡ whole
all_done done whole n le is = sym (append-nil done) ∙ sym (ap (λ (rest : List ℕ). done ++ rest) (drop_of_length-le whole le)) ∙ is

names_in_trees : (fs : List CoreFunction) → map (λ (f : CoreFunction). f.name) fs ≡ map (λ (g : CoreFunctionTree). g.name) (map core.function_tree fs)
names_in_trees [] = refl
names_in_trees (f ∷ fs) = ap (λ (names : List (List ℕ)). f.name ∷ names) (names_in_trees fs)

-- what the record of a function says of its parameters
abbrev pub said_parameters : CoreFunction → Option ℕ
said_parameters f = Some (length f.parameters.items)

counts_in_trees : (fs : List CoreFunction) → map said_parameters fs ≡ map (λ (g : CoreFunctionTree). Some (length g.parameters)) (map core.function_tree fs)
counts_in_trees [] = refl
counts_in_trees (f ∷ fs) =
    let first : said_parameters f ≡ Some (length (core.function_tree f).parameters) = ap Some (sym (length-map f.parameters.items core.parameter_tree)) in
    let rest = counts_in_trees fs in
    cc

mapped_done :
    {X : Type 0} (of : CoreFunction → X) (done : List X) (fs : List CoreFunction) (n : ℕ) → length fs ≤ n → done ++ map of (drop n fs) ≡ map of fs
    → done ≡ map of fs
mapped_done of done fs n le is =
    sym (append-nil done) ∙ sym (ap (λ (rest : List CoreFunction). done ++ map of rest) (drop_of_length-le fs le)) ∙ is

pub names_done :
    (done : List (List ℕ)) (fs : List CoreFunction) (n : ℕ) → length fs ≤ n
    → done ++ map (λ (f : CoreFunction). f.name) (drop n fs) ≡ map (λ (f : CoreFunction). f.name) fs
    → done ≡ map (λ (g : CoreFunctionTree). g.name) (map core.function_tree fs)
names_done done fs n le is = mapped_done (λ (f : CoreFunction). f.name) done fs n le is ∙ names_in_trees fs

pub counts_done :
    (done : List (Option ℕ)) (fs : List CoreFunction) (n : ℕ) → length fs ≤ n → done ++ map said_parameters (drop n fs) ≡ map said_parameters fs
    → done ≡ map (λ (g : CoreFunctionTree). Some (length g.parameters)) (map core.function_tree fs)
counts_done done fs n le is = mapped_done said_parameters done fs n le is ∙ counts_in_trees fs
