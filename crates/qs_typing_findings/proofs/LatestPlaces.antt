-- The places of declarations, the latest first, and what they stand for.
use Rattle.std.proofs.Common.{◌≡◌, ℕ, zero, suc, ◌+◌, ◌-◌, ◌<◌, ◌≤◌, Bool, true, false, List, [], ◌∷◌, ◌++◌, Option, Some, None, map, length, reverse, take, drop, get_or, refl, sym, ap, ◌∙◌, arith, if◌then◌else◌}
use Rattle.std.proofs.lemmas.List.{take-append-drop, reverse-append, length-reverse, get_or-reverse, map-append, length-append, length-take-le, take_all}
use Rattle.std.proofs.Math.Seq.{take-length}
use Rattle.qs_base.specs.Bytes.{same_bytes}
use Rattle.qs_types.specs.Contexts.{lookup}
use Rattle.qs_typing_findings.specs.declared.entity.Binding.{Binding}
use Rattle.qs_typing_findings.specs.EntityOf.{entity_tree}
use Rattle.qs_typing_findings.specs.Bindings.{binding_tree, newest_first, place_in}

-- ---- places

below_by : (x : List ℕ) (bs : List Binding) (i : ℕ) (t : Bool) → (place_in x bs ≡ Some i → i < length bs) → (if t then Some (length bs) else place_in x bs) ≡ Some i → i < suc (length bs)
below_by x bs i true h e = let q : length bs ≡ i = cc in omega arith
below_by x bs i false h e = let q : i < length bs = h e in omega arith

-- a place is one of the declarations
pub below : (x : List ℕ) (bs : List Binding) (i : ℕ) → place_in x bs ≡ Some i → i < length bs
below x [] i e = absurd (cc)
below x (b ∷ bs) i e = below_by x bs i (same_bytes b.name x) (below x bs i) e

there_by : (x : List ℕ) (b : Binding) (bs : List Binding) (i k : ℕ) (d : Binding) (t : Bool)
    → ((k : ℕ) → place_in x bs ≡ Some i → k + (i + 1) ≡ length bs → d ≡ get_or bs k d → lookup x (map binding_tree bs) ≡ Some (entity_tree d.entity))
    → (if t then Some (length bs) else place_in x bs) ≡ Some i → k + (i + 1) ≡ suc (length bs) → d ≡ get_or (b ∷ bs) k d
    → (if t then Some (entity_tree b.entity) else lookup x (map binding_tree bs)) ≡ Some (entity_tree d.entity)
there_by x b bs i zero d true h p e g = ap (λ (v : Binding). Some (entity_tree v.entity)) (sym g)
there_by x b bs i (suc k) d true h p e g = let q : length bs ≡ i = cc in absurd (omega arith)
there_by x b bs i zero d false h p e g = let q : i < length bs = below x bs i p in absurd (omega arith)
there_by x b bs i (suc k) d false h p e g = h k p (omega arith) g

there : (x : List ℕ) (bs : List Binding) (i k : ℕ) (d : Binding) → place_in x bs ≡ Some i → k + (i + 1) ≡ length bs → d ≡ get_or bs k d → lookup x (map binding_tree bs) ≡ Some (entity_tree d.entity)
there x [] i k d p e g = absurd (cc)
there x (b ∷ bs) i k d p e g = there_by x b bs i k d (same_bytes b.name x) (λ j. there x bs i j d) p e g

-- the declaration at the place of a name is what it stands for
pub stands_for : (x : List ℕ) (items : List Binding) (i : ℕ) (d : Binding) → Some i ≡ place_in x (newest_first items) → d ≡ get_or items i d → lookup x (map binding_tree (newest_first items)) ≡ Some (entity_tree d.entity)
stands_for x items i d p g =
    let low : i < length (reverse items) = below x (reverse items) i (sym p) in
    let n : length (reverse items) ≡ length items = length-reverse items in
    let k = length items - 1 - i in
    let back : length items - 1 - k ≡ i = omega arith in
    there x (reverse items) i k d (sym p) (omega arith) (g ∙ sym (get_or-reverse items k d (omega arith) ∙ ap (λ j. get_or items j d) back))

-- a place is within the declarations
pub within : (x : List ℕ) (items : List Binding) (i : ℕ) → Some i ≡ place_in x (newest_first items) → i < length items
within x items i p =
    let low : i < length (reverse items) = below x (reverse items) i (sym p) in
    let n : length (reverse items) ≡ length items = length-reverse items in
    omega arith

none_by : (x : List ℕ) (b : Binding) (bs : List Binding) (t : Bool) → (place_in x bs ≡ None → lookup x (map binding_tree bs) ≡ None) → (if t then Some (length bs) else place_in x bs) ≡ None → (if t then Some (entity_tree b.entity) else lookup x (map binding_tree bs)) ≡ None
none_by x b bs true h p = absurd (cc)
none_by x b bs false h p = h p

-- a name without a place stands for nothing
pub stands_for_nothing : (x : List ℕ) (bs : List Binding) → place_in x bs ≡ None → lookup x (map binding_tree bs) ≡ None
stands_for_nothing x [] p = refl
stands_for_nothing x (b ∷ bs) p = none_by x b bs (same_bytes b.name x) (stands_for_nothing x bs) p

-- ---- the innermost scope

here_by : (x : List ℕ) (a : Binding) (news bs : List Binding) (i : ℕ) (t : Bool) → (place_in x (news ++ bs) ≡ Some i → lookup x (map binding_tree news) ≡ lookup x (map binding_tree (news ++ bs)))
    → (if t then Some (length (news ++ bs)) else place_in x (news ++ bs)) ≡ Some i
    → (if t then Some (entity_tree a.entity) else lookup x (map binding_tree news)) ≡ (if t then Some (entity_tree a.entity) else lookup x (map binding_tree (news ++ bs)))
here_by x a news bs i true h p = refl
here_by x a news bs i false h p = h p

stands_here : (x : List ℕ) (news bs : List Binding) (i : ℕ) → length bs ≤ i → place_in x (news ++ bs) ≡ Some i → lookup x (map binding_tree news) ≡ lookup x (map binding_tree (news ++ bs))
stands_here x [] bs i h p = let low : i < length bs = below x bs i p in absurd (omega arith)
stands_here x (a ∷ news) bs i h p = here_by x a news bs i (same_bytes a.name x) (stands_here x news bs i h) p

not_here_by : (x : List ℕ) (a : Binding) (news bs : List Binding) (i : ℕ) (t : Bool) → i < length bs → (place_in x (news ++ bs) ≡ Some i → lookup x (map binding_tree news) ≡ None)
    → (if t then Some (length (news ++ bs)) else place_in x (news ++ bs)) ≡ Some i
    → (if t then Some (entity_tree a.entity) else lookup x (map binding_tree news)) ≡ None
not_here_by x a news bs i true low h p = let q : length (news ++ bs) ≡ i = cc in let n = length-append news bs in absurd (omega arith)
not_here_by x a news bs i false low h p = h p

not_here : (x : List ℕ) (news bs : List Binding) (i : ℕ) → i < length bs → place_in x (news ++ bs) ≡ Some i → lookup x (map binding_tree news) ≡ None
not_here x [] bs i low p = refl
not_here x (a ∷ news) bs i low p = not_here_by x a news bs i (same_bytes a.name x) low (not_here x news bs i low) p

nowhere_by : (x : List ℕ) (a : Binding) (news bs : List Binding) (t : Bool) → (place_in x (news ++ bs) ≡ None → lookup x (map binding_tree news) ≡ None)
    → (if t then Some (length (news ++ bs)) else place_in x (news ++ bs)) ≡ None
    → (if t then Some (entity_tree a.entity) else lookup x (map binding_tree news)) ≡ None
nowhere_by x a news bs true h p = absurd (cc)
nowhere_by x a news bs false h p = h p

nowhere : (x : List ℕ) (news bs : List Binding) → place_in x (news ++ bs) ≡ None → lookup x (map binding_tree news) ≡ None
nowhere x [] bs p = refl
nowhere x (a ∷ news) bs p = nowhere_by x a news bs (same_bytes a.name x) (nowhere x news bs) p

pub split : (items : List Binding) (n : ℕ) → newest_first items ≡ newest_first (drop n items) ++ newest_first (take n items)
split items n = ap reverse (sym (take-append-drop n items)) ∙ reverse-append (take n items) (drop n items)

-- the names of the innermost scope, and those around it, are all names
pub together : (items : List Binding) (n : ℕ) → map binding_tree (newest_first (drop n items)) ++ map binding_tree (newest_first (take n items)) ≡ map binding_tree (newest_first items)
together items n = sym (ap (map binding_tree) (split items n) ∙ map-append binding_tree (newest_first (drop n items)) (newest_first (take n items)))

-- what a name stands for in all scopes
pub found : (x : List ℕ) (items : List Binding) (n i : ℕ) (d : Binding) → Some i ≡ place_in x (newest_first items) → d ≡ get_or items i d
    → Some (entity_tree d.entity) ≡ lookup x (map binding_tree (newest_first (drop n items)) ++ map binding_tree (newest_first (take n items)))
found x items n i d p g = sym (ap (lookup x) (together items n) ∙ stands_for x items i d p g)

pub not_found : (x : List ℕ) (items : List Binding) (n : ℕ) → None ≡ place_in x (newest_first items)
    → None ≡ lookup x (map binding_tree (newest_first (drop n items)) ++ map binding_tree (newest_first (take n items)))
not_found x items n p = sym (ap (lookup x) (together items n) ∙ stands_for_nothing x (newest_first items) (sym p))

placed : (x : List ℕ) (items : List Binding) (n : ℕ) (o : Option ℕ) → o ≡ place_in x (newest_first items) → place_in x (newest_first (drop n items) ++ newest_first (take n items)) ≡ o
placed x items n o p = sym (ap (place_in x) (split items n)) ∙ sym p

length_of_outer : (items : List Binding) (n : ℕ) → n ≤ length items → length (newest_first (take n items)) ≡ n
length_of_outer items n h = length-reverse (take n items) ∙ length-take-le n items h

-- what it stands for in the innermost one
pub found_here : (x : List ℕ) (items : List Binding) (n i : ℕ) (d : Binding) → n ≤ length items → n ≤ i → Some i ≡ place_in x (newest_first items) → d ≡ get_or items i d
    → Some (entity_tree d.entity) ≡ lookup x (map binding_tree (newest_first (drop n items)))
found_here x items n i d h low p g =
    let m = length_of_outer items n h in
    sym (stands_here x (newest_first (drop n items)) (newest_first (take n items)) i (omega arith) (placed x items n (Some i) p)
    ∙ ap (λ l. lookup x (map binding_tree l)) (sym (split items n))
    ∙ stands_for x items i d p g)

pub found_outside : (x : List ℕ) (items : List Binding) (n i : ℕ) → n ≤ length items → i < n → Some i ≡ place_in x (newest_first items)
    → None ≡ lookup x (map binding_tree (newest_first (drop n items)))
found_outside x items n i h low p =
    let m = length_of_outer items n h in
    sym (not_here x (newest_first (drop n items)) (newest_first (take n items)) i (omega arith) (placed x items n (Some i) p))

pub found_nowhere : (x : List ℕ) (items : List Binding) (n : ℕ) → None ≡ place_in x (newest_first items) → None ≡ lookup x (map binding_tree (newest_first (drop n items)))
found_nowhere x items n p = sym (nowhere x (newest_first (drop n items)) (newest_first (take n items)) (placed x items n None p))

-- ---- scopes that begin and end

pub entered : (items : List Binding) (n len : ℕ) → len ≡ length items
    → map binding_tree (newest_first (take len items)) ≡ map binding_tree (newest_first (drop n items)) ++ map binding_tree (newest_first (take n items))
entered items n len e = ap (λ m. map binding_tree (newest_first (take m items))) e ∙ ap (λ l. map binding_tree (newest_first l)) (take-length items) ∙ sym (together items n)

-- where all of a scope is forgotten, those around it are left
pub left : (items before : List Binding) (n k : ℕ) → take n items ≡ take n before → length items ≤ n
    → map binding_tree (newest_first (drop k items)) ++ map binding_tree (newest_first (take k items)) ≡ map binding_tree (newest_first (take n before))
left items before n k e h = together items k ∙ ap (λ l. map binding_tree (newest_first l)) (sym (take_all n items h) ∙ e)
