-- In front of a function's block the plain form and what stands for it without vectors are the same trees, but for the
-- expressions of attributes; and so the signatures are the same.
use Rattle.std.proofs.Common.{◌≡◌, ℕ, List, ◌∷◌, Bool, true, false, refl, ap, sym, ◌∙◌, inl, inr}
use Rattle.std.proofs.Common.{◌⊎◌}
use Rattle.cl_tree.specs.declared.tree.Form.{Form}
use Rattle.cl_tree.specs.declared.tree.Form.TheVariants as forms
use Rattle.cl_tree.specs.Syntax.{Syntax, node, Forest, none, more}
use Rattle.cl_meaning.specs.Environment.{Signature}
use Rattle.cl_meaning.specs.Declarations.{form_of, with_part, with_parts, signature_in, definitions_in}
use Rattle.cl_check_sound.specs.Shape.{IsResult, IsParam, AreParams, IsParams, IsHeadOf, IsBlockOf}
use Rattle.cl_check_sound.specs.Shape.{IsAnnouncement, IsDefinitionOf, BehindHeadsOf, IsDeclarationOf, IsFunctionOf}
use Rattle.cl_check_sound.specs.Shape.{IsPrototypeOf, AreItemsOf}
use Rattle.cl_short_vec.specs.declared.kinds.Kind.{Kind}
use Rattle.cl_short_vec.specs.Kinds.{Names, later}
use Rattle.cl_short_vec.specs.Marks.{mark, Marks, unmarked, marking, kind_at, marked, marked_parts}
use Rattle.cl_short_vec.specs.Scalar.{scalar, scalars}
use Rattle.cl_short_vec.specs.Unit.{scalarised, all_scalarised, declaration}
use Rattle.cl_short_vec_faults.specs.PlainForm.{plain_of, plains_of}
use Rattle.cl_short_vec_faults.proofs.ConstantsSame.{type_same}

-- ---- types, results and parameters

pub result_same : (names : Names) (t : Syntax) → IsResult t → scalarised (marked names t) ≡ plain_of t
unfolding scalarised scalar marked marked_parts plain_of plains_of
result_same names (node forms.ResultNode w f l none) h = refl
result_same names (node forms.ResultNode w f l (more t none)) h =
    ap (λ z. node forms.ResultNode w f l (more z none)) (type_same names t h)
result_same names t h = absurd h

param_same : (names : Names) (t : Syntax) → IsParam t → scalar (marked names t) ≡ plain_of t
unfolding scalar marked marked_parts plain_of plains_of
param_same names (node forms.ParamNode w f l (more t none)) h =
    ap (λ z. node forms.ParamNode w f l (more z none)) (type_same names t h)
param_same names (node forms.ParamNode w f l (more t (more (node forms.StarNode w' f' l' none) none))) h =
    ap (λ z. node forms.ParamNode w f l (more z (more (node forms.StarNode w' f' l' none) none))) (type_same names t h)
param_same names t h = absurd h

params_scalar : (w : List ℕ) (f l : ℕ) (ps : Forest) (k : Kind) (ms : Marks) →
    scalar (mark (node forms.ParamsNode w f l ps) k ms) ≡ node forms.ParamsNode w f l (scalars ms)
unfolding scalar scalars
params_scalar w f l ps k unmarked = refl
params_scalar w f l ps k (marking a unmarked) = refl
params_scalar w f l ps k (marking a (marking b unmarked)) = refl
params_scalar w f l ps k (marking a (marking b (marking c ms))) = refl

all_params_same : (names : Names) (all : Forest) (front : Bool) (ps : Forest) → AreParams ps →
    scalars (marked_parts forms.ParamsNode all names front ps) ≡ plains_of ps
unfolding scalars marked_parts plains_of
all_params_same names all front none h = refl
all_params_same names all front (more p ps) h =
    let n = later forms.ParamsNode all names front p in
    ap (λ z. more z (scalars (marked_parts forms.ParamsNode all n false ps))) (param_same names p h.0) ∙
    ap (λ z. more (plain_of p) z) (all_params_same n all false ps h.1)

pub params_same : (names : Names) (t : Syntax) → IsParams t → scalarised (marked names t) ≡ plain_of t
unfolding scalarised marked plain_of
params_same names (node forms.ParamsNode w f l ps) h =
    params_scalar w f l ps (kind_at (marked names (node forms.ParamsNode w f l ps)))
    (marked_parts forms.ParamsNode ps names true ps) ∙
    ap (λ z. node forms.ParamsNode w f l z) (all_params_same names ps true ps h)
params_same names t h = absurd h

-- ---- heads

pub bare_head : (names : Names) (w : List ℕ) (f l : ℕ) →
    (scalarised (marked names (node forms.HeadNode w f l none)) ≡ node forms.HeadNode w f l none) ×
    (plain_of (node forms.HeadNode w f l none) ≡ node forms.HeadNode w f l none)
unfolding scalarised scalar marked marked_parts plain_of plains_of
bare_head names w f l = (refl, refl)

attribute_scalar : (w : List ℕ) (f l : ℕ) (ps : Forest) (k : Kind) (ms : Marks) →
    scalar (mark (node forms.AttributeNode w f l ps) k ms) ≡ node forms.AttributeNode w f l (scalars ms)
unfolding scalar scalars
attribute_scalar w f l ps k unmarked = refl
attribute_scalar w f l ps k (marking a unmarked) = refl
attribute_scalar w f l ps k (marking a (marking b unmarked)) = refl
attribute_scalar w f l ps k (marking a (marking b (marking c ms))) = refl

abbrev pub attributed : List ℕ → (first last : ℕ) → List ℕ → (first last : ℕ) → Forest → Syntax
attributed w f l w' f' l' es = node forms.HeadNode w f l (more (node forms.AttributeNode w' f' l' es) none)

pub whole_head : (names : Names) (w w' : List ℕ) (f l f' l' : ℕ) (es : Forest) →
    (scalarised (marked names (attributed w f l w' f' l' es)) ≡
    attributed w f l w' f' l' (scalars (marked_parts forms.AttributeNode es names true es))) ×
    (plain_of (attributed w f l w' f' l' es) ≡ attributed w f l w' f' l' (plains_of es))
unfolding scalarised scalar marked marked_parts plain_of plains_of
whole_head names w w' f l f' l' es = (
  ap (λ z. node forms.HeadNode w f l (more z none))
      (attribute_scalar w' f' l' es (kind_at (marked names (node forms.AttributeNode w' f' l' es)))
      (marked_parts forms.AttributeNode es names true es)),
  refl,
)

-- ---- signatures

-- the same of what they say
abbrev pub SaysSame : Signature → Syntax → Syntax → Type 0
SaysSame g t u = with_part g (form_of t) t ≡ with_part g (form_of u) u

head_says : (names : Names) (g : Signature) (t : Syntax) → IsHeadOf true t →
    SaysSame g (scalarised (marked names t)) (plain_of t)
unfolding plain_of plains_of
head_says names g (node forms.HeadNode w f l none) h =
    ap (λ (z : Syntax). with_part g (form_of z) z) (bare_head names w f l).0
head_says names g (node forms.HeadNode w f l (more (node forms.AttributeNode w' f' l' es) none)) h =
    ap (λ (z : Syntax). with_part g (form_of z) z) (whole_head names w w' f l f' l' es).0
head_says names g t h = absurd h

result_says : (names : Names) (g : Signature) (t : Syntax) → IsResult t →
    SaysSame g (scalarised (marked names t)) (plain_of t)
result_says names g t h = ap (λ (z : Syntax). with_part g (form_of z) z) (result_same names t h)

params_say : (names : Names) (g : Signature) (t : Syntax) → IsParams t →
    SaysSame g (scalarised (marked names t)) (plain_of t)
params_say names g t h = ap (λ (z : Syntax). with_part g (form_of z) z) (params_same names t h)

block_says : (names : Names) (g : Signature) (t : Syntax) → IsBlockOf true t →
    SaysSame g (scalarised (marked names t)) (plain_of t)
unfolding scalarised marked plain_of
block_says names g (node forms.BlockNode w f l ps) h = refl
block_says names g t h = absurd h

definition_says : (form : Form) (all : Forest) (names : Names) (front : Bool) (g : Signature) (ps : Forest) →
    IsDefinitionOf true ps → with_parts g (all_scalarised (marked_parts form all names front ps)) ≡
    with_parts g (plains_of ps)
unfolding all_scalarised marked_parts plains_of
definition_says form all names front g (more r (more p (more b none))) h =
    let n = later form all names front r in
    let m = later form all n false p in
    let r' = scalarised (marked names r) in
    let p' = scalarised (marked n p) in
    let b' = scalarised (marked m b) in
    ap (λ z. with_parts z (more p' (more b' none))) (result_says names g r h.0) ∙
    ap (λ z. with_parts z (more b' none)) (params_say n (with_part g (form_of (plain_of r)) (plain_of r)) p h.1) ∙
    block_says m (with_part (with_part g (form_of (plain_of r)) (plain_of r)) (form_of (plain_of p)) (plain_of p)) b h.2
definition_says form all names front g none h = absurd h
definition_says form all names front g (more r none) h = absurd h
definition_says form all names front g (more r (more p none)) h = absurd h
definition_says form all names front g (more r (more p (more b (more c cs)))) h = absurd h

announcement_says : (form : Form) (all : Forest) (names : Names) (front : Bool) (g : Signature) (ps : Forest) →
    IsAnnouncement ps → with_parts g (all_scalarised (marked_parts form all names front ps)) ≡
    with_parts g (plains_of ps)
unfolding all_scalarised marked_parts plains_of
announcement_says form all names front g (more r (more p none)) h =
    let n = later form all names front r in
    let p' = scalarised (marked n p) in
    ap (λ z. with_parts z (more p' none)) (result_says names g r h.0) ∙
    params_say n (with_part g (form_of (plain_of r)) (plain_of r)) p h.1
announcement_says form all names front g none h = absurd h
announcement_says form all names front g (more r none) h = absurd h
announcement_says form all names front g (more r (more p (more b bs))) h = absurd h

-- behind heads
pub heads_say : (P : Forest → Type 0) (form : Form) (all : Forest) → ((names : Names) (front : Bool) (g : Signature)
    (ps : Forest) → P ps → with_parts g (all_scalarised (marked_parts form all names front ps)) ≡
    with_parts g (plains_of ps)) → (names : Names) (front : Bool) (g : Signature) (ps : Forest) →
    BehindHeadsOf true P ps → with_parts g (all_scalarised (marked_parts form all names front ps)) ≡
    with_parts g (plains_of ps)
unfolding all_scalarised marked_parts plains_of
heads_say P form all d names front g none h = absurd h
heads_say P form all d names front g (more (node head w f l qs) ps) (inl h) =
    let t = node head w f l qs in
    let n = later form all names front t in
    ap (λ z. with_parts z (all_scalarised (marked_parts form all n false ps))) (head_says names g t h.0) ∙
    heads_say P form all d n false (with_part g (form_of (plain_of t)) (plain_of t)) ps h.1
heads_say P form all d names front g (more (node head w f l qs) ps) (inr h) =
    d names front g (more (node head w f l qs) ps) h

pub function_says : (names : Names) (w : List ℕ) (all ps : Forest) → BehindHeadsOf true (IsDefinitionOf true) ps →
    signature_in w (all_scalarised (marked_parts forms.FunctionNode all names true ps)) ≡
    signature_in w (plains_of ps)
function_says names w all ps h = heads_say (IsDefinitionOf true) forms.FunctionNode all
    (λ n f g qs k. definition_says forms.FunctionNode all n f g qs k) names true _ ps h

pub prototype_says : (names : Names) (w : List ℕ) (all ps : Forest) → BehindHeadsOf true IsAnnouncement ps →
    signature_in w (all_scalarised (marked_parts forms.PrototypeNode all names true ps)) ≡
    signature_in w (plains_of ps)
prototype_says names w all ps h = heads_say IsAnnouncement forms.PrototypeNode all
    (λ n f g qs k. announcement_says forms.PrototypeNode all n f g qs k) names true _ ps h

-- ---- functions and prototypes

pub function_form : (names : Names) (w : List ℕ) (f l : ℕ) (parts : Forest) →
    (scalarised (marked names (node forms.FunctionNode w f l parts)) ≡
    node forms.FunctionNode w f l (all_scalarised (marked_parts forms.FunctionNode parts names true parts))) ×
    (plain_of (node forms.FunctionNode w f l parts) ≡ node forms.FunctionNode w f l (plains_of parts))
unfolding scalarised marked plain_of
function_form names w f l parts = (refl, refl)

prototype_scalar : (w : List ℕ) (f l : ℕ) (ps : Forest) (k : Kind) (ms : Marks) →
    scalar (mark (node forms.PrototypeNode w f l ps) k ms) ≡ node forms.PrototypeNode w f l (scalars ms)
unfolding scalar scalars
prototype_scalar w f l ps k unmarked = refl
prototype_scalar w f l ps k (marking a unmarked) = refl
prototype_scalar w f l ps k (marking a (marking b unmarked)) = refl
prototype_scalar w f l ps k (marking a (marking b (marking c ms))) = refl

-- what stands in front of a block is no statement
same_head : (names : Names) (t : Syntax) → IsHeadOf true t → scalar (marked names t) ≡ scalarised (marked names t)
unfolding scalarised marked
same_head names (node forms.HeadNode w f l ps) h = refl
same_head names t h = absurd h

same_result : (names : Names) (t : Syntax) → IsResult t → scalar (marked names t) ≡ scalarised (marked names t)
unfolding scalarised marked
same_result names (node forms.ResultNode w f l ps) h = refl
same_result names t h = absurd h

same_params : (names : Names) (t : Syntax) → IsParams t → scalar (marked names t) ≡ scalarised (marked names t)
unfolding scalarised marked
same_params names (node forms.ParamsNode w f l ps) h = refl
same_params names t h = absurd h

same_announced : (all : Forest) (names : Names) (front : Bool) (ps : Forest) → BehindHeadsOf true IsAnnouncement ps →
    scalars (marked_parts forms.PrototypeNode all names front ps) ≡
    all_scalarised (marked_parts forms.PrototypeNode all names front ps)
unfolding scalars all_scalarised marked_parts
same_announced all names front none h = absurd h
same_announced all names front (more (node head w f l qs) ps) (inl h) =
    let t = node head w f l qs in
    let ms = marked_parts forms.PrototypeNode all (later forms.PrototypeNode all names front t) false ps in
    ap (λ z. more z (scalars ms)) (same_head names t h.0) ∙
    ap (λ z. more (scalarised (marked names t)) z)
    (same_announced all (later forms.PrototypeNode all names front t) false ps h.1)
same_announced all names front (more (node head w f l qs) (more p none)) (inr h) =
    let r = node head w f l qs in
    let n = later forms.PrototypeNode all names front r in
    ap (λ z. more z (more (scalar (marked n p)) none)) (same_result names r h.0) ∙
    ap (λ z. more (scalarised (marked names r)) (more z none)) (same_params n p h.1)
same_announced all names front (more (node head w f l qs) none) (inr h) = absurd h
same_announced all names front (more (node head w f l qs) (more p (more b bs))) (inr h) = absurd h

pub prototype_form : (names : Names) (w : List ℕ) (f l : ℕ) (parts : Forest) →
    BehindHeadsOf true IsAnnouncement parts → (scalarised (marked names (node forms.PrototypeNode w f l parts)) ≡
    node forms.PrototypeNode w f l (all_scalarised (marked_parts forms.PrototypeNode parts names true parts))) ×
    (plain_of (node forms.PrototypeNode w f l parts) ≡ node forms.PrototypeNode w f l (plains_of parts))
unfolding scalarised marked plain_of
prototype_form names w f l parts h = (
  prototype_scalar w f l parts (kind_at (marked names (node forms.PrototypeNode w f l parts)))
      (marked_parts forms.PrototypeNode parts names true parts) ∙
      ap (λ z. node forms.PrototypeNode w f l z) (same_announced parts names true parts h),
  refl,
)

-- ---- the definitions of a unit

declaration_form : (names : Names) (w : List ℕ) (f l : ℕ) (parts : Forest) →
    (scalarised (marked names (node forms.DeclareNode w f l parts)) ≡
    node forms.DeclareNode w f l (declaration (marked_parts forms.DeclareNode parts names true parts))) ×
    (plain_of (node forms.DeclareNode w f l parts) ≡ node forms.DeclareNode w f l (plains_of parts))
unfolding scalarised marked plain_of
declaration_form names w f l parts = (refl, refl)

-- an item, in front of the same definitions
item_defines : (names : Names) (t : Syntax) (ps qs : Forest) →
    IsFunctionOf true t ⊎ (IsPrototypeOf true t ⊎ IsDeclarationOf true t) →
    definitions_in ps ≡ definitions_in qs →
    definitions_in (more (scalarised (marked names t)) ps) ≡ definitions_in (more (plain_of t) qs)
item_defines names (node forms.FunctionNode w f l parts) ps qs (inl h) e =
    let x = function_form names w f l parts in
    ap (λ z. definitions_in (more z ps)) x.0 ∙
    (ap (λ z. z ∷ definitions_in ps) (function_says names w parts parts h) ∙
    (ap (λ z. signature_in w (plains_of parts) ∷ z) e ∙
    ap (λ z. definitions_in (more z qs)) (sym x.1)))
item_defines names (node forms.PrototypeNode w f l parts) ps qs (inr (inl h)) e =
    let x = prototype_form names w f l parts h in
    ap (λ z. definitions_in (more z ps)) x.0 ∙ (e ∙ ap (λ z. definitions_in (more z qs)) (sym x.1))
item_defines names (node forms.DeclareNode w f l parts) ps qs (inr (inr h)) e =
    let x = declaration_form names w f l parts in
    ap (λ z. definitions_in (more z ps)) x.0 ∙ (e ∙ ap (λ z. definitions_in (more z qs)) (sym x.1))
item_defines names t ps qs (inl h) e = absurd h
item_defines names t ps qs (inr (inl h)) e = absurd h
item_defines names t ps qs (inr (inr h)) e = absurd h

pub items_define : (all : Forest) (names : Names) (front : Bool) (ps : Forest) → AreItemsOf true ps →
    definitions_in (all_scalarised (marked_parts forms.UnitNode all names front ps)) ≡ definitions_in (plains_of ps)
unfolding all_scalarised marked_parts plains_of
items_define all names front none h = refl
items_define all names front (more p ps) h =
    let n = later forms.UnitNode all names front p in
    item_defines names p (all_scalarised (marked_parts forms.UnitNode all n false ps)) (plains_of ps) h.0
    (items_define all n false ps h.1)
