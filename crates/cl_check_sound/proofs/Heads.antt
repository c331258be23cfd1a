-- What stands in front of a function's block: heads, a result and parameters.
use Rattle.std.proofs.Common.{◌≡◌, ℕ, suc, List, [], ◌∷◌, ◌++◌, length, append_assoc, Option, None, Some, Bool, true}
use Rattle.std.proofs.Common.{false, refl, ap, sym, ◌∙◌, subst, inl, slice_get}
use Rattle.cl_model.specs.declared.program.Root.TheVariants as roots
use Rattle.cl_model.specs.declared.program.VarKind.{VarKind}
use Rattle.cl_model.specs.declared.program.VarKind.TheVariants as var_kinds
use Rattle.cl_model.specs.Tree.{Function, Program}
use Rattle.cl_model.specs.Valid.{Scope, numbers_below}
use Rattle.cl_tree.specs.declared.tree.Form.TheVariants as forms
use Rattle.cl_tree.specs.Syntax.{Syntax, node, Forest, none, more, last_of}
use Rattle.cl_meaning.specs.Spelling.{name_in}
use Rattle.cl_meaning.specs.declared.types.Declared.{Declared}
use Rattle.cl_meaning.specs.declared.kind.Meaning.TheVariants as meanings
use Rattle.cl_meaning.specs.declared.kind.Parameter.{Parameter}
use Rattle.cl_meaning.specs.declared.kind.Parameter.TheVariants as parameters
use Rattle.cl_meaning.specs.declared.kind.Role.{Role}
use Rattle.cl_meaning.specs.declared.kind.Role.TheVariants as roles
use Rattle.cl_meaning.specs.Environment.{Env, Variable, place_of}
use Rattle.cl_meaning.specs.Declarations.{first_type, second_star, parameter_by, parameter_of, parameters_of}
use Rattle.cl_meaning.specs.Declarations.{with_parameter, pointed_space, parts_of}
use Rattle.cl_meaning.specs.Visible.{Before, inside, later, restored, left, closed, behind, behind_parts}
use Rattle.cl_meaning.specs.Faults.{Asked}
use Rattle.cl_check_sound.specs.Shape.{AreExpressions, IsHead, IsResult, IsParam, AreParams, IsParams}
use Rattle.cl_check_sound.specs.Sound.{SoundTree, SoundParts}
use Rattle.cl_check_sound.specs.Fits.{Holds}
use Rattle.cl_check_sound.proofs.Neutral.{closed_same, behind_type}
use Rattle.cl_check_sound.proofs.Typed.{type_declares}
use Rattle.cl_check_sound.proofs.Grown.{SameOuter, outer_same, outer_into, outer_then, outer_whole, is_deep, deep_outer}
use Rattle.cl_check_sound.proofs.Growth.{expression_leaves, star_leaves}
use Rattle.cl_check_sound.proofs.Facing.{At, at_variable}
use Rattle.cl_check_sound.proofs.Lining.{RootFits}

-- ---- heads and results

attribute_leaves : (env : Env) (front : Bool) (parts : Forest) → AreExpressions parts →
    behind_parts env forms.AttributeNode front parts ≡ env
unfolding behind_parts later
attribute_leaves env front none h = refl
attribute_leaves env front (more p ps) h =
    ap (λ z. behind_parts z forms.AttributeNode false ps) (expression_leaves env p h.0) ∙
    attribute_leaves env false ps h.1

attribute_node : (env : Env) (w : List ℕ) (f l : ℕ) (parts : Forest) → AreExpressions parts →
    behind env (node forms.AttributeNode w f l parts) ≡ env
unfolding behind left restored inside
attribute_node env w f l parts h = ap (λ z. closed env z) (attribute_leaves env true parts h) ∙ closed_same env

pub head_leaves : (env : Env) (t : Syntax) → IsHead t → behind env t ≡ env
unfolding behind behind_parts left restored inside later
head_leaves env (node forms.HeadNode w f l none) h = closed_same env
head_leaves env (node forms.HeadNode w f l (more (node forms.AttributeNode w' f' l' parts) none)) h =
    ap (λ z. closed env z) (attribute_node env w' f' l' parts h) ∙ closed_same env
head_leaves env t h = absurd h

pub result_leaves : (env : Env) (t : Syntax) → IsResult t → behind env t ≡ env
unfolding behind behind_parts left restored inside later
result_leaves env (node forms.ResultNode w f l none) h = closed_same env
result_leaves env (node forms.ResultNode w f l (more t none)) h =
    ap (λ z. closed env z) (behind_type env t h) ∙ closed_same env
result_leaves env t h = absurd h

-- ---- a parameter

abbrev pub ParamKind : ℕ → Parameter → VarKind → Type 0
ParamKind n (parameters.Number t) (var_kinds.Scalar u) = t ≡ u
ParamKind n (parameters.Pointer s e c) (var_kinds.Pointer s' e' r) = (s ≡ s') × (e ≡ e') × (r ≡ roots.Param n)
ParamKind n p v = ⊥

-- parameters from a number on
abbrev pub ParamKinds : ℕ → List Parameter → List Variable → Type 0
ParamKinds n [] [] = Unit {0}
ParamKinds n (p ∷ ps) (v ∷ vs) = ParamKind n p v.kind × ParamKinds (suc n) ps vs
ParamKinds n ps vs = ⊥

param_inner : (env : Env) (w : List ℕ) (f l : ℕ) (parts : Forest) → IsParam (node forms.ParamNode w f l parts) →
    behind_parts env forms.ParamNode true parts ≡ env
unfolding behind_parts later
param_inner env w f l (more t none) h = behind_type env t h
param_inner env w f l (more t (more (node forms.StarNode w' f' l' none) none)) h =
    star_leaves (behind env t) w' f' l' ∙ behind_type env t h
param_inner env w f l parts h = absurd h

pub param_leaves : (env : Env) (w : List ℕ) (f l : ℕ) (parts : Forest) → IsParam (node forms.ParamNode w f l parts) →
    behind env (node forms.ParamNode w f l parts) ≡ with_parameter env (name_in w) l (first_type parts)
    (second_star parts)
unfolding behind left restored inside
param_leaves env w f l parts h =
    ap (λ z. with_parameter (closed env z) (name_in w) l (first_type parts) (second_star parts))
    (param_inner env w f l parts h) ∙
    ap (λ z. with_parameter z (name_in w) l (first_type parts) (second_star parts)) (closed_same env)

param_type : (asked : Asked) (env : Env) (role : Role) (w : List ℕ) (f l : ℕ) (parts : Forest) →
    IsParam (node forms.ParamNode w f l parts) → SoundTree asked env role (node forms.ParamNode w f l parts) →
    (d : Declared) × (first_type parts ≡ Some d)
unfolding inside
param_type asked env role w f l (more t none) h s = type_declares asked env _ t h s.0.0
param_type asked env role w f l (more t (more (node forms.StarNode w' f' l' none) none)) h s =
    type_declares asked env _ t h s.0.0
param_type asked env role w f l parts h s = absurd h

-- what one more parameter adds
pub record OneParam (env later : Env) (p : Parameter) : Type 0 where
  pub frame : later ≡ record env { scopes = later.scopes; variables = later.variables }
  pub scopes : SameOuter env.scopes later.scopes
  pub variable : Variable
  pub variables : later.variables ≡ env.variables ++ variable ∷ []
  pub kind : ParamKind (length env.variables) p variable.kind
  pub at : (P : Program) (f : Function) (ms : List (List ℕ)) (scope : Scope) → is_deep env.scopes ≡ true →
      (Holds f (length env.variables) variable.kind × RootFits P f variable.kind) → At P f ms scope env →
      At P f ms (length env.variables ∷ scope) later

param_by : (env : Env) (name : List ℕ) (token : ℕ) (o : Option Declared) (d : Declared) (star : Option Bool) →
    o ≡ Some d → OneParam env (with_parameter env name token o star) (parameter_by o star)
param_by env name token o d star e =
    subst (λ z. OneParam env (with_parameter env name token z star) (parameter_by z star)) (sym e) (by star)
  where
    by : (s : Option Bool) → OneParam env (with_parameter env name token (Some d) s) (parameter_by (Some d) s)
    by None = record {
      frame = refl;
      scopes = outer_into env.scopes name _;
      variable = record { name = name; kind = var_kinds.Scalar d.of; place = place_of env token };
      variables = refl;
      kind = refl;
      at = λ P f ms scope dp h a. at_variable P f ms scope env name token (var_kinds.Scalar d.of)
          (meanings.Scalar d.of d.constant (length env.variables)) dp (λ q. h.0) (inl refl) a;
    }
    by (Some fixed) = record {
      frame = refl;
      scopes = outer_into env.scopes name _;
      variable = record {
        name = name;
        kind = var_kinds.Pointer (pointed_space d) d.of (roots.Param (length env.variables));
        place = place_of env token;
      };
      variables = refl;
      kind = (refl, refl, refl);
      at = λ P f ms scope dp h a. at_variable P f ms scope env name token
          (var_kinds.Pointer (pointed_space d) d.of (roots.Param (length env.variables)))
          (meanings.Pointer (pointed_space d) d.of d.constant (roots.Param (length env.variables)) fixed
          (length env.variables)) dp (λ q. h) (inl refl) a;
    }

one_param : (asked : Asked) (env : Env) (role : Role) (t : Syntax) → IsParam t → SoundTree asked env role t →
    OneParam env (behind env t) (parameter_of (parts_of t))
one_param asked env role (node forms.ParamNode w f l parts) h s =
    let d = param_type asked env role w f l parts h s in
    subst (λ z. OneParam env z (parameter_of parts)) (sym (param_leaves env w f l parts h))
    (param_by env (name_in w) l (first_type parts) d.0 (second_star parts) d.1)
one_param asked env role t h s = absurd h

-- ---- all parameters

pub record Params (env later : Env) (ps : List Parameter) : Type 0 where
  pub frame : later ≡ record env { scopes = later.scopes; variables = later.variables }
  pub scopes : SameOuter env.scopes later.scopes
  pub new : List Variable
  pub variables : later.variables ≡ env.variables ++ new
  pub kinds : ParamKinds (length env.variables) ps new
  -- where the variables are those of a function whose parameters are these, they are in scope and fit
  pub at : (P : Program) (f : Function) (ms : List (List ℕ)) → is_deep env.scopes ≡ true →
      ((n : ℕ) (v : Variable) → slice_get later.variables n ≡ Some v → Holds f n v.kind × RootFits P f v.kind) →
      At P f ms (numbers_below (length env.variables)) env → At P f ms (numbers_below (length later.variables)) later

at_end : {A : Type 0} (xs : List A) (x : A) (ys : List A) → slice_get ((xs ++ x ∷ []) ++ ys) (length xs) ≡ Some x
at_end [] x ys = refl
at_end (y ∷ xs) x ys = at_end xs x ys

length_more : {A : Type 0} (xs : List A) (x : A) → length (xs ++ x ∷ []) ≡ suc (length xs)
length_more [] x = refl
length_more (y ∷ xs) x = ap suc (length_more xs x)

append_nothing : {A : Type 0} (xs : List A) → xs ++ [] ≡ xs
append_nothing [] = refl
append_nothing (x ∷ xs) = ap (λ z. x ∷ z) (append_nothing xs)

no_params : (env : Env) → Params env env []
no_params env = record {
  frame = refl;
  scopes = outer_same env.scopes;
  new = [];
  variables = sym (append_nothing env.variables);
  kinds = tt;
  at = λ P f ms d h a. a;
}

params_more : (env mid later : Env) (p : Parameter) (ps : List Parameter) → OneParam env mid p → Params mid later ps →
    Params env later (p ∷ ps)
params_more env mid later p ps x y =
    let lm : length mid.variables ≡ suc (length env.variables) =
    ap length x.variables ∙ length_more env.variables x.variable in
    let whole : later.variables ≡ (env.variables ++ x.variable ∷ []) ++ y.new =
    y.variables ∙ ap (λ z. z ++ y.new) x.variables in
    record {
      frame = y.frame ∙ ap (λ (z : Env). record z { scopes = later.scopes; variables = later.variables }) x.frame;
      scopes = outer_then env.scopes mid.scopes later.scopes x.scopes y.scopes;
      new = x.variable ∷ y.new;
      variables = whole ∙ append_assoc env.variables (x.variable ∷ []) y.new;
      kinds = (x.kind, subst (λ z. ParamKinds z ps y.new) lm y.kinds);
      at = λ P f ms d h a.
          (let held = h (length env.variables) x.variable (ap (λ z. slice_get z (length env.variables)) whole ∙
          at_end env.variables x.variable y.new) in
          y.at P f ms (deep_outer env.scopes mid.scopes d x.scopes) h
          (subst (λ z. At P f ms z mid) (sym (ap numbers_below lm))
          (x.at P f ms (numbers_below (length env.variables)) d held a)));
    }

params_next : (env : Env) (front : Bool) (p : Syntax) (ps : Forest) →
    behind_parts env forms.ParamsNode front (more p ps) ≡ behind_parts (behind env p) forms.ParamsNode false ps
unfolding behind_parts later
params_next env front p ps = refl

params_sound : (asked : Asked) (env : Env) (b : Before) (p : Syntax) (ps : Forest) →
    SoundParts asked env forms.ParamsNode b (more p ps) → SoundTree asked env roles.Other p ×
    SoundParts asked (behind env p) forms.ParamsNode (Some (last_of p)) ps
unfolding later
params_sound asked env b p ps s = (s.0, s.1)

params_none : (env : Env) (front : Bool) → behind_parts env forms.ParamsNode front none ≡ env
unfolding behind_parts
params_none env front = refl

all_params : (asked : Asked) (env : Env) (b : Before) (front : Bool) (ps : Forest) → AreParams ps →
    SoundParts asked env forms.ParamsNode b ps →
    Params env (behind_parts env forms.ParamsNode front ps) (parameters_of ps)
all_params asked env b front none h s = subst (λ z. Params env z []) (sym (params_none env front)) (no_params env)
all_params asked env b front (more p ps) h s =
    let x = params_sound asked env b p ps s in
    subst (λ z. Params env z (parameters_of (more p ps))) (sym (params_next env front p ps))
    (params_more env (behind env p) (behind_parts (behind env p) forms.ParamsNode false ps)
    (parameter_of (parts_of p)) (parameters_of ps) (one_param asked env roles.Other p h.0 x.0)
    (all_params asked (behind env p) (Some (last_of p)) false ps h.1 x.1))

params_closed : (env : Env) (w : List ℕ) (f l : ℕ) (ps : Forest) →
    behind env (node forms.ParamsNode w f l ps) ≡ closed env (behind_parts env forms.ParamsNode true ps)
unfolding behind left restored inside
params_closed env w f l ps = refl

params_parts : (asked : Asked) (env : Env) (role : Role) (w : List ℕ) (f l : ℕ) (ps : Forest) →
    SoundTree asked env role (node forms.ParamsNode w f l ps) → SoundParts asked env forms.ParamsNode None ps
unfolding inside
params_parts asked env role w f l ps s = s.0

closed_params : (env inner : Env) (ps : List Parameter) → Params env inner ps → closed env inner ≡ inner
closed_params env inner ps x =
    ap (λ z. closed env z) x.frame
    ∙ (ap (λ z. record env { scopes = z; variables = inner.variables })
    (outer_whole env.scopes inner.scopes x.scopes) ∙ sym x.frame)

pub params_made : (asked : Asked) (env : Env) (role : Role) (t : Syntax) → IsParams t → SoundTree asked env role t →
    Params env (behind env t) (parameters_of (parts_of t))
params_made asked env role (node forms.ParamsNode w f l ps) h s =
    let x = all_params asked env None true ps h (params_parts asked env role w f l ps s) in
    subst (λ z. Params env z (parameters_of ps)) (sym (params_closed env w f l ps ∙
    closed_params env (behind_parts env forms.ParamsNode true ps) (parameters_of ps) x)) x
params_made asked env role t h s = absurd h
