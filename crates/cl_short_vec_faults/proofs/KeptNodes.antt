-- Nodes that are no expressions: what of them stays where their parts stay, and that nothing is refused in parts.
use Rattle.std.proofs.Common.{◌≡◌, ℕ, List, [], None, Bool, true, false, refl, ap, inl, inr}
use Rattle.std.proofs.Common.{if◌then◌else◌, ◌&&◌}
use Rattle.cl_tree.specs.declared.tree.Form.{Form}
use Rattle.cl_tree.specs.declared.tree.Form.TheVariants as forms
use Rattle.cl_tree.specs.Syntax.{Syntax, node, Forest, none, more}
use Rattle.cl_meaning.specs.Spelling.{is_set}
use Rattle.cl_meaning.specs.Kinds.{is_some}
use Rattle.cl_check_sound.specs.Shape.{IsExpressionOf, AreExpressionsOf, IsListOf, AreLengthsOf, IsDeclaratorOf}
use Rattle.cl_check_sound.specs.Shape.{AreDeclaratorsOf, IsDeclarationOf, IsResult, IsParam, AreParams, IsParams}
use Rattle.cl_check_sound.specs.Shape.{IsHeadOf, IsOptionalOf}
use Rattle.cl_short_vec.specs.declared.kinds.Kind.{Kind}
use Rattle.cl_short_vec.specs.declared.kinds.Kind.TheVariants.{Other}
use Rattle.cl_short_vec.specs.declared.roles.Declaration.{Declaration}
use Rattle.cl_short_vec.specs.declared.roles.Role.{Role}
use Rattle.cl_short_vec.specs.declared.roles.Role.TheVariants.{Free, Declared}
use Rattle.cl_short_vec.specs.Kinds.{Names, later, is_variable}
use Rattle.cl_short_vec.specs.Marks.{Mark, mark, Marks, unmarked, marking, kind_by, marked, marked_parts}
use Rattle.cl_short_vec.specs.Marks.{front_type}
use Rattle.cl_short_vec.specs.Roles.{role_of, initial_role, initial_at}
use Rattle.cl_short_vec.specs.Faults.{refusals, refusals_in, is_end}
use Rattle.cl_short_vec.specs.Scalar.{scalar, scalars}
use Rattle.cl_short_vec.specs.Unit.{scalarised}
use Rattle.cl_short_vec_faults.proofs.Refused.{none_of, node_none, parts_stay, free_apart}
use Rattle.cl_short_vec_faults.proofs.Refused as refused
use Rattle.cl_short_vec_faults.specs.Kept.{Stays, AllStay, StaysTree}
use Rattle.cl_short_vec_faults.proofs.KeptCounted.{node_stays}
use Rattle.cl_short_vec_faults.proofs.KeptExpressions.{type_stays, expression_stays}
use Rattle.cl_short_vec_faults.proofs.KeptStatements.{declaration_stays}

-- ---- nothing is refused in parts

abbrev pub EachNone : Role → Mark → Bool → Marks → Type 0
EachNone role whole front unmarked = Unit {0}
EachNone role whole front (marking p ps) =
    (refusals (role_of role whole front (is_end ps) p) p ≡ []) × EachNone role whole false ps

each_in : (role : Role) (whole : Mark) (front : Bool) (ms : Marks) → refusals_in role whole front ms ≡ [] →
    EachNone role whole front ms
unfolding refusals_in
each_in role whole front unmarked e = tt
each_in role whole front (marking p ps) e =
    let d = none_of (refusals (role_of role whole front (is_end ps) p) p) (refusals_in role whole false ps) e in
    (d.0, each_in role whole false ps d.1)

pub each_none : (role : Role) (t : Syntax) (k : Kind) (ms : Marks) → refusals role (mark t k ms) ≡ [] →
    EachNone role (mark t k ms) true ms
each_none role t k ms e = each_in role (mark t k ms) true ms (node_none role t k ms e).0

-- ---- expressions

pub free_stays : (names : Names) (t : Syntax) → IsExpressionOf true t → refusals Free (marked names t) ≡ [] →
    Stays (marked names t) (scalar (marked names t))
free_stays names t h r = expression_stays names Free t h r (free_apart t names h r)

pub all_free : (form : Form) (all : Forest) (names : Names) (front : Bool) (ps : Forest) → AreExpressionsOf true ps →
    refused.AllStay (marked_parts form all names front ps) →
    AllStay (marked_parts form all names front ps) (scalars (marked_parts form all names front ps))
unfolding marked_parts scalars
all_free form all names front none h st = tt
all_free form all names front (more a as') h st =
    (free_stays names a h.0 st.0, all_free form all (later form all names front a) false as' h.1 st.1)

-- no expression or one
pub optional_stays : (form : Form) (all : Forest) (names : Names) (ps : Forest) → IsOptionalOf true ps →
    refused.AllStay (marked_parts form all names true ps) →
    AllStay (marked_parts form all names true ps) (scalars (marked_parts form all names true ps))
unfolding marked_parts scalars
optional_stays form all names none h st = tt
optional_stays form all names (more a none) h st = (free_stays names a h st.0, tt)
optional_stays form all names (more a (more b bs)) h st = absurd h

-- ---- declarations

list_stays : (names : Names) (t : Syntax) → IsListOf true t → refusals Free (marked names t) ≡ [] →
    Stays (marked names t) (scalar (marked names t))
unfolding marked kind_by role_of
list_stays names (node forms.ListNode w f l ps) h r =
    let ms = marked_parts forms.ListNode ps names true ps in
    node_stays forms.ListNode w f l ps (Other true) ms refl (all_free forms.ListNode ps names true ps h
    (parts_stay Free (node forms.ListNode w f l ps) (Other true) ms (λ x y p. refl) r))
list_stays names t h r = absurd h

lengths_stay : (all : Forest) (names : Names) (front : Bool) (ps : Forest) → AreLengthsOf true ps →
    refused.AllStay (marked_parts forms.DeclaratorNode all names front ps) →
    AllStay (marked_parts forms.DeclaratorNode all names front ps)
    (scalars (marked_parts forms.DeclaratorNode all names front ps))
unfolding marked_parts scalars
lengths_stay all names front none h st = tt
lengths_stay all names front (more p none) (inl h) st = (free_stays names p h st.0, tt)
lengths_stay all names front (more p none) (inr h) st = (list_stays names p h st.0, tt)
lengths_stay all names front (more p (more q qs)) h st = (
  free_stays names p h.0 st.0,
  lengths_stay all (later forms.DeclaratorNode all names front p) false (more q qs) h.1 st.1,
)

declarator_parts : (w : List ℕ) (f l : ℕ) (names : Names) (all ps : Forest) →
    IsDeclaratorOf true (node forms.DeclaratorNode w f l ps) →
    refused.AllStay (marked_parts forms.DeclaratorNode all names true ps) →
    AllStay (marked_parts forms.DeclaratorNode all names true ps)
    (scalars (marked_parts forms.DeclaratorNode all names true ps))
unfolding marked_parts scalars marked scalar
declarator_parts w f l names all (more (node forms.StarNode w' f' l' none) ps) h st = (
  inl (
    refl,
    (
      none,
      refl,
      tt,
    ),
  ),
  lengths_stay all (later forms.DeclaratorNode all names true (node forms.StarNode w' f' l' none)) false ps h st.1,
)
declarator_parts w f l names all ps h st = lengths_stay all names true ps h st

-- the initialiser of what is no vector
initial_free : (d : Declaration) (variable back : Bool) → d.vector ≡ None →
    (if back then initial_role (Declared d) variable else Free) ≡ Free
initial_free d variable false e = refl
initial_free d false true e = refl
initial_free d true true e = ap (λ o. if is_some o then initial_at d.around else Free) e

declarator_stays : (names : Names) (d : Declaration) (t : Syntax) → IsDeclaratorOf true t → d.vector ≡ None →
    refusals (Declared d) (marked names t) ≡ [] → Stays (marked names t) (scalar (marked names t))
unfolding marked kind_by role_of
declarator_stays names d (node forms.DeclaratorNode w f l ps) h e r =
    let ms = marked_parts forms.DeclaratorNode ps names true ps in
    node_stays forms.DeclaratorNode w f l ps (Other true) ms refl (declarator_parts w f l names ps ps h
    (parts_stay (Declared d) (node forms.DeclaratorNode w f l ps) (Other true) ms
    (λ x y p. initial_free d (is_variable w ps) (y && is_set w) e) r))
declarator_stays names d t h e r = absurd h

declarators_stay : (role : Role) (w : List ℕ) (f l : ℕ) (qs : Forest) (k : Kind) (ms : Marks) (all : Forest)
    (names : Names) (ds : Forest) → front_type ms ≡ None → AreDeclaratorsOf true ds →
    EachNone role (mark (node forms.DeclareNode w f l qs) k ms) false
    (marked_parts forms.DeclareNode all names false ds) →
    AllStay (marked_parts forms.DeclareNode all names false ds)
    (scalars (marked_parts forms.DeclareNode all names false ds))
unfolding marked_parts scalars role_of
declarators_stay role w f l qs k ms all names none e h st = tt
declarators_stay role w f l qs k ms all names (more d ds) e h st = (
  declarator_stays names _ d h.0 e st.0,
  declarators_stay role w f l qs k ms all (later forms.DeclareNode all names false d) ds e h.1 st.1,
)

pub declaration_tree : (names : Names) (role : Role) (t : Syntax) → IsDeclarationOf true t →
    refusals role (marked names t) ≡ [] → StaysTree (marked names t) (scalarised (marked names t))
unfolding marked marked_parts kind_by scalars scalarised
declaration_tree names role (node forms.DeclareNode w f l (more ty ds)) h r =
    let ps = more ty ds in
    let t = node forms.DeclareNode w f l ps in
    let names' = later forms.DeclareNode ps names true ty in
    let ms = marked_parts forms.DeclareNode ps names' false ds in
    let all = marking (marked names ty) ms in
    declaration_stays t (marked names ty) ms (type_stays ty names h.0) (λ e. (
      type_stays ty names h.0,
      declarators_stay role w f l ps (Other true) all ps names' ds e h.1 (each_none role t (Other true) all r).1,
    ))
declaration_tree names role t h r = absurd h

-- ---- heads, results and parameters

star_stays : (names : Names) (w : List ℕ) (f l : ℕ) →
    Stays (marked names (node forms.StarNode w f l none)) (scalar (marked names (node forms.StarNode w f l none)))
unfolding marked marked_parts scalar
star_stays names w f l = inl (refl, (none, refl, tt))

pub result_stays : (names : Names) (t : Syntax) → IsResult t → Stays (marked names t) (scalar (marked names t))
unfolding marked marked_parts kind_by scalars
result_stays names (node forms.ResultNode w f l none) h =
    node_stays forms.ResultNode w f l none (Other true) unmarked refl tt
result_stays names (node forms.ResultNode w f l (more t none)) h =
    node_stays forms.ResultNode w f l (more t none) (Other true) (marking (marked names t) unmarked) refl
    (type_stays t names h, tt)
result_stays names t h = absurd h

param_stays : (names : Names) (t : Syntax) → IsParam t → Stays (marked names t) (scalar (marked names t))
unfolding marked_parts kind_by scalars marked scalar
param_stays names (node forms.ParamNode w f l (more t none)) h =
    inl (
      refl,
      (
        more (scalar (marked names t)) none,
        refl,
        (type_stays t names h, tt),
      ),
    )
param_stays names (node forms.ParamNode w f l (more t (more (node forms.StarNode w' f' l' none) none))) h =
    inl (
      refl,
      (
        more (scalar (marked names t)) (more (node forms.StarNode w' f' l' none) none),
        refl,
        (type_stays t names h, (inl (refl, (none, refl, tt)), tt)),
      ),
    )
param_stays names t h = absurd h

all_params : (all : Forest) (names : Names) (front : Bool) (ps : Forest) → AreParams ps →
    AllStay (marked_parts forms.ParamsNode all names front ps)
    (scalars (marked_parts forms.ParamsNode all names front ps))
unfolding marked_parts scalars
all_params all names front none h = tt
all_params all names front (more p ps) h =
    (param_stays names p h.0, all_params all (later forms.ParamsNode all names front p) false ps h.1)

pub params_stay : (names : Names) (t : Syntax) → IsParams t → Stays (marked names t) (scalar (marked names t))
unfolding marked kind_by
params_stay names (node forms.ParamsNode w f l ps) h = node_stays forms.ParamsNode w f l ps (Other true)
    (marked_parts forms.ParamsNode ps names true ps) refl (all_params ps names true ps h)
params_stay names t h = absurd h

attribute_stays : (names : Names) (w : List ℕ) (f l : ℕ) (ps : Forest) → AreExpressionsOf true ps →
    refusals Free (marked names (node forms.AttributeNode w f l ps)) ≡ [] →
    Stays (marked names (node forms.AttributeNode w f l ps))
    (scalar (marked names (node forms.AttributeNode w f l ps)))
unfolding marked kind_by role_of
attribute_stays names w f l ps h r =
    let ms = marked_parts forms.AttributeNode ps names true ps in
    node_stays forms.AttributeNode w f l ps (Other true) ms refl (all_free forms.AttributeNode ps names true ps h
    (parts_stay Free (node forms.AttributeNode w f l ps) (Other true) ms (λ x y p. refl) r))

pub head_stays : (names : Names) (t : Syntax) → IsHeadOf true t → refusals Free (marked names t) ≡ [] →
    Stays (marked names t) (scalar (marked names t))
unfolding marked marked_parts kind_by scalars role_of
head_stays names (node forms.HeadNode w f l none) h r =
    node_stays forms.HeadNode w f l none (Other true) unmarked refl tt
head_stays names (node forms.HeadNode w f l (more (node forms.AttributeNode w' f' l' ps) none)) h r =
    let q = node forms.AttributeNode w' f' l' ps in
    let t = node forms.HeadNode w f l (more q none) in
    let ms = marking (marked names q) unmarked in
    node_stays forms.HeadNode w f l (more q none) (Other true) ms refl
    (attribute_stays names w' f' l' ps h (parts_stay Free t (Other true) ms (λ x y p. refl) r).0, tt)
head_stays names t h r = absurd h
