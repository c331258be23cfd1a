-- Where the barriers of a unit's plain form stand within the limit, so do those of the unit without vectors.
use Rattle.std.proofs.Common.{◌≡◌, ℕ, zero, suc, ◌≤◌, nat_lt, List, [], ◌∷◌, length, Option, None, Some, Bool, true}
use Rattle.std.proofs.Common.{false, if◌then◌else◌, arith, refl, ap, sym, ◌∙◌, subst, slice_get, inl, inr, ◌⊎◌}
use Rattle.std.proofs.lemmas.Bool.Decides.{nat_tests}
use Rattle.std.specs.Str.{bytes_eq}
use Rattle.wg_num.specs.declared.types.Place.{Place}
use Rattle.cl_tree.specs.declared.tree.Form.TheVariants as forms
use Rattle.cl_tree.specs.Syntax.{Syntax, node, Forest, none, more}
use Rattle.cl_limits.specs.Heights.{functions_among, is_barrier, is_named, number_from, number_height}
use Rattle.cl_limits.specs.Heights.{called_height, height_of, function_height, height, full_height}
use Rattle.cl_limits.specs.Kernel.{at_limit}
use Rattle.cl_limits.specs.Judged.{sized_in}
use Rattle.cl_meaning.specs.Spelling.{name_in, intrinsic_in}
use Rattle.cl_meaning.specs.Declarations.{word_of, definitions_in}
use Rattle.cl_meaning.specs.Meant.{kernel_from}
use Rattle.cl_meaning.specs.declared.fault.Fault.TheVariants as faults
use Rattle.cl_check_sound.specs.Shape.{IsFunctionOf, IsPrototypeOf, IsDeclarationOf, AreItemsOf, IsUnitOf}
use Rattle.cl_short_vec.specs.Plain.{has_vectors}
use Rattle.cl_short_vec.specs.Kinds.{Names, no_names, later}
use Rattle.cl_short_vec.specs.Marks.{marked, marked_parts}
use Rattle.cl_short_vec.specs.Unit.{scalarised, all_scalarised, scalarised_of}
use Rattle.cl_short_vec_faults.specs.PlainForm.{plain_of, plains_of}
use Rattle.cl_short_vec_faults.proofs.FrontTrees.{prototype_form, items_define}
use Rattle.cl_short_vec_faults.proofs.PlainUnits.{plain_same}
use Rattle.cl_short_vec_faults.proofs.HeightsNodes.{through, same}
use Rattle.cl_short_vec_faults.proofs.HeightsPlain.{form_height, height_lower}

-- ---- functions

-- functions of the same names, each no higher than the other
abbrev pub FunctionsLower : List Syntax → List Syntax → Type 0
FunctionsLower [] [] = Unit {0}
FunctionsLower [] (t ∷ ts) = ⊥
FunctionsLower (s ∷ ss) [] = ⊥
FunctionsLower (s ∷ ss) (t ∷ ts) =
    (word_of s ≡ word_of t) × ((g : List ℕ → ℕ) → height_of g s ≤ height_of g t) × FunctionsLower ss ts

lengths_same : (ss ts : List Syntax) → FunctionsLower ss ts → length ss ≡ length ts
lengths_same [] [] h = refl
lengths_same [] (t ∷ ts) h = absurd h
lengths_same (s ∷ ss) [] h = absurd h
lengths_same (s ∷ ss) (t ∷ ts) h = ap suc (lengths_same ss ts h.2)

named_same : (name : List ℕ) (s t : Syntax) → word_of s ≡ word_of t → is_named name s ≡ is_named name t
named_same name (node form w f l ps) (node form' w' f' l' ps') e = ap (λ z. bytes_eq (name_in z) name) e

numbers_same : (name : List ℕ) (n : ℕ) (ss ts : List Syntax) → FunctionsLower ss ts →
    number_from name n ss ≡ number_from name n ts
numbers_same name n [] [] h = refl
numbers_same name n [] (t ∷ ts) h = absurd h
numbers_same name n (s ∷ ss) [] h = absurd h
numbers_same name n (s ∷ ss) (t ∷ ts) h =
    ap (λ z. if z then Some n else number_from name (suc n) ss) (named_same name s t h.0) ∙
    ap (λ z. if is_named name t then Some n else z) (numbers_same name (suc n) ss ts h.2)

number_lower : (g k : ℕ → ℕ) (o : Option ℕ) → ((f : ℕ) → g f ≤ k f) → number_height g o ≤ number_height k o
number_lower g k None h = same 0
number_lower g k (Some f) h = h f

called_lower : (g k : ℕ → ℕ) (ss ts : List Syntax) → FunctionsLower ss ts → ((f : ℕ) → g f ≤ k f) →
    (name : List ℕ) → called_height g ss name ≤ called_height k ts name
called_lower g k ss ts h e name = by (is_barrier (intrinsic_in name))
  where
    by : (b : Bool) → (if b then 1 else number_height g (number_from name 0 ss)) ≤
        (if b then 1 else number_height k (number_from name 0 ts))
    by true = same 1
    by false = subst (λ z. number_height g (number_from name 0 ss) ≤ number_height k z)
        (numbers_same name 0 ss ts h) (number_lower g k (number_from name 0 ss) e)

function_lower : (g k : List ℕ → ℕ) (ss ts : List Syntax) (f : ℕ) → FunctionsLower ss ts →
    ((name : List ℕ) → g name ≤ k name) → function_height g (slice_get ss f) ≤ function_height k (slice_get ts f)
function_lower g k [] [] f h e = same 0
function_lower g k [] (t ∷ ts) f h e = absurd h
function_lower g k (s ∷ ss) [] f h e = absurd h
function_lower g k (s ∷ ss) (t ∷ ts) zero h e =
    through (height_of g s) (height_of g t) (height_of k t) (h.1 g) (height_lower g k e t)
function_lower g k (s ∷ ss) (t ∷ ts) (suc f) h e = function_lower g k ss ts f h.2 e

all_lower : (n : ℕ) (ss ts : List Syntax) → FunctionsLower ss ts → (f : ℕ) → height n ss f ≤ height n ts f
unfolding height
all_lower zero ss ts h f = same 0
all_lower (suc n) ss ts h f =
    function_lower (called_height (height n ss) ss) (called_height (height n ts) ts) ss ts f h
    (called_lower (height n ss) (height n ts) ss ts h (all_lower n ss ts h))

full_lower : (ss ts : List Syntax) → FunctionsLower ss ts → (f : ℕ) → full_height ss f ≤ full_height ts f
full_lower ss ts h f = subst (λ z. height (length ss) ss f ≤ height z ts f) (lengths_same ss ts h)
    (all_lower (length ss) ss ts h f)

-- ---- the functions of a unit

function_item : (names : Names) (w : List ℕ) (f l : ℕ) (parts ps qs : Forest) →
    FunctionsLower (functions_among ps) (functions_among qs) →
    FunctionsLower (functions_among (more (scalarised (marked names (node forms.FunctionNode w f l parts))) ps))
    (functions_among (more (plain_of (node forms.FunctionNode w f l parts)) qs))
unfolding scalarised marked plain_of
function_item names w f l parts ps qs e =
    (refl, (λ g. form_height g names (node forms.FunctionNode w f l parts)), e)

declaration_item : (names : Names) (w : List ℕ) (f l : ℕ) (parts ps qs : Forest) →
    FunctionsLower (functions_among ps) (functions_among qs) →
    FunctionsLower (functions_among (more (scalarised (marked names (node forms.DeclareNode w f l parts))) ps))
    (functions_among (more (plain_of (node forms.DeclareNode w f l parts)) qs))
unfolding scalarised marked plain_of
declaration_item names w f l parts ps qs e = e

item_lower : (names : Names) (t : Syntax) (ps qs : Forest) →
    IsFunctionOf true t ⊎ (IsPrototypeOf true t ⊎ IsDeclarationOf true t) →
    FunctionsLower (functions_among ps) (functions_among qs) →
    FunctionsLower (functions_among (more (scalarised (marked names t)) ps)) (functions_among (more (plain_of t) qs))
item_lower names (node forms.FunctionNode w f l parts) ps qs (inl h) e = function_item names w f l parts ps qs e
item_lower names (node forms.PrototypeNode w f l parts) ps qs (inr (inl h)) e =
    let x = prototype_form names w f l parts h in
    subst (λ z. FunctionsLower (functions_among (more z ps))
    (functions_among (more (plain_of (node forms.PrototypeNode w f l parts)) qs))) (sym x.0)
    (subst (λ z. FunctionsLower (functions_among ps) (functions_among (more z qs))) (sym x.1) e)
item_lower names (node forms.DeclareNode w f l parts) ps qs (inr (inr h)) e =
    declaration_item names w f l parts ps qs e
item_lower names t ps qs (inl h) e = absurd h
item_lower names t ps qs (inr (inl h)) e = absurd h
item_lower names t ps qs (inr (inr h)) e = absurd h

items_lower : (all : Forest) (names : Names) (first : Bool) (ps : Forest) → AreItemsOf true ps →
    FunctionsLower (functions_among (all_scalarised (marked_parts forms.UnitNode all names first ps)))
    (functions_among (plains_of ps))
unfolding all_scalarised marked_parts plains_of
items_lower all names first none h = tt
items_lower all names first (more p ps) h =
    let n = later forms.UnitNode all names first p in
    item_lower names p (all_scalarised (marked_parts forms.UnitNode all n false ps)) (plains_of ps) h.0
    (items_lower all n false ps h.1)

-- ---- the limit

-- whether barriers stand too deep for the limit in the function of that number
abbrev is_deep : (functions : List Syntax) → (kernel : ℕ) → Bool
is_deep functions kernel = nat_lt 17 (full_height functions kernel)

-- what is looked at in a unit of those items
abbrev is_deep_in : List ℕ → Forest → Bool
is_deep_in kernel items = is_deep (functions_among items) (kernel_from kernel 0 (definitions_in items))

not_deep : (a b : ℕ) → a ≤ b → nat_lt 17 b ≡ false → nat_lt 17 a ≡ false
not_deep a b h e = grind (arith, nat_tests)

functions_shallow : (ss ts : List Syntax) (kernel : ℕ) → FunctionsLower ss ts → is_deep ts kernel ≡ false →
    is_deep ss kernel ≡ false
functions_shallow ss ts kernel h e =
    not_deep (full_height ss kernel) (full_height ts kernel) (full_lower ss ts h kernel) e

items_shallow : (kernel : List ℕ) (items : Forest) → AreItemsOf true items →
    is_deep_in kernel (plains_of items) ≡ false →
    is_deep_in kernel (all_scalarised (marked_parts forms.UnitNode items no_names true items)) ≡ false
items_shallow kernel items h e =
    let us = all_scalarised (marked_parts forms.UnitNode items no_names true items) in
    subst (λ z. is_deep (functions_among us) (kernel_from kernel 0 z) ≡ false)
    (sym (items_define items no_names true items h))
    (functions_shallow (functions_among us) (functions_among (plains_of items))
    (kernel_from kernel 0 (definitions_in (plains_of items))) (items_lower items no_names true items h) e)

-- the unit itself, where it has no vectors
unit_shallow : (places : List Place) (kernel : List ℕ) (w : List ℕ) (f l : ℕ) (items : Forest) → (b : Bool) →
    has_vectors (node forms.UnitNode w f l items) ≡ b → AreItemsOf true items →
    at_limit (sized_in places kernel (plain_of (node forms.UnitNode w f l items))) faults.BarriersTooDeep ≡ false →
    at_limit (sized_in places kernel (if b then scalarised (marked no_names (node forms.UnitNode w f l items))
    else node forms.UnitNode w f l items)) faults.BarriersTooDeep ≡ false
unfolding scalarised marked plain_of
unit_shallow places kernel w f l items true e h k = items_shallow kernel items h k
unit_shallow places kernel w f l items false e h k =
    subst (λ z. at_limit (sized_in places kernel z) faults.BarriersTooDeep ≡ false)
    (plain_same (node forms.UnitNode w f l items) e) k

-- where barriers stand within the limit in the plain form of a unit, they do in the unit without vectors
pub heights_follow : (places : List Place) (kernel : List ℕ) (unit : Syntax) → IsUnitOf true unit →
    at_limit (sized_in places kernel (plain_of unit)) faults.BarriersTooDeep ≡ false →
    at_limit (sized_in places kernel (scalarised_of unit)) faults.BarriersTooDeep ≡ false
heights_follow places kernel (node forms.UnitNode w f l items) h e =
    unit_shallow places kernel w f l items (has_vectors (node forms.UnitNode w f l items)) refl h e
heights_follow places kernel t h e = absurd h
