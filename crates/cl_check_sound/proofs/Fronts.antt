-- Functions and prototypes: with what their blocks are looked at, and what they leave.
use Rattle.std.proofs.Common.{◌≡◌, ◌≢◌, ℕ, ◌+◌, ◌*◌, ◌≤◌, List, [], ◌∷◌, ◌++◌, length, take, Option, Some, Bool, true}
use Rattle.std.proofs.Common.{false, ◌||◌, refl, ap, sym, ◌∙◌, subst, inl, inr, arith, slice_get}
use Rattle.std.proofs.lemmas.Bool.{false≢true}
use Rattle.std.proofs.lemmas.Option.{none-some}
use Rattle.wg_num.specs.declared.types.Place.{Place}
use Rattle.cl_model.specs.Tree.{Function, Program}
use Rattle.cl_model.specs.Valid.{numbers_below}
use Rattle.cl_tree.specs.declared.tree.Form.TheVariants as forms
use Rattle.cl_tree.specs.Syntax.{Syntax, node, Forest, none, more, last_of}
use Rattle.cl_limits.specs.Limits.{count_nodes}
use Rattle.cl_limits.specs.Kernel.{block_nodes}
use Rattle.cl_meaning.specs.declared.types.Declared.{Declared}
use Rattle.cl_meaning.specs.declared.kind.Kind.{Kind}
use Rattle.cl_meaning.specs.declared.kind.Role.{Role}
use Rattle.cl_meaning.specs.declared.kind.Role.TheVariants as roles
use Rattle.cl_meaning.specs.declared.kind.Yield.{Yield}
use Rattle.cl_meaning.specs.declared.kind.Yield.TheVariants as yields
use Rattle.cl_meaning.specs.Environment.{Env, Scope, Variable, Owner, Signature, empty_scope}
use Rattle.cl_meaning.specs.Declarations.{yield_of, yield_by, is_kernel_head, parts_of, with_parts, parameters_of}
use Rattle.cl_meaning.specs.Visible.{Before, is_front, inside, later, behind, behind_parts, kind_of, in_owner}
use Rattle.cl_meaning.specs.Visible.{or_sizes, head_sizes, opened, named, own_scope}
use Rattle.cl_meaning.specs.Faults.{Asked}
use Rattle.cl_meaning.specs.Typed.{Piece}
use Rattle.cl_meaning.specs.Statements.{last_piece}
use Rattle.cl_meaning.specs.Meant.{MadeParts, with_piece, meant, parts_meant, make}
use Rattle.cl_check_sound.specs.Shape.{AreExpressions, IsBlock, IsHead, IsResult, IsParam, AreParams, IsParams}
use Rattle.cl_check_sound.specs.Shape.{IsDefinition, IsAnnouncement, BehindHeads}
use Rattle.cl_check_sound.specs.Sound.{SoundTree, SoundParts}
use Rattle.cl_check_sound.specs.Fits.{Holds}
use Rattle.cl_check_sound.proofs.Typed.{type_declares}
use Rattle.cl_check_sound.proofs.Plain.{parts_here}
use Rattle.cl_check_sound.proofs.Measure.{Weights}
use Rattle.cl_check_sound.proofs.Small.{held}
use Rattle.cl_check_sound.proofs.Holding.{extra, extras, extras_here, all_hold, type_sites}
use Rattle.cl_check_sound.proofs.Weighing.{free_of}
use Rattle.cl_check_sound.proofs.Grown.{SameOuter, outer_then, outer_closed, is_deep, deep_outer}
use Rattle.cl_check_sound.proofs.Declarators.{Leaves, expressions_neutral}
use Rattle.cl_check_sound.proofs.Facing.{At, at_later}
use Rattle.cl_check_sound.proofs.Lining.{RootFits}
use Rattle.cl_check_sound.proofs.Heads.{head_leaves, result_leaves, ParamKinds, params_made}
use Rattle.cl_check_sound.proofs.Owners.{deep_twice, outer_twice, OwnFits, at_own}

-- ---- the sites of what stands in front of a block

attribute_here : (env : Env) (front : Bool) (sites : List Place) (parts : Forest) → Leaves parts →
    parts_meant env forms.AttributeNode front sites parts ≡ parts_here env sites parts
unfolding parts_meant later
attribute_here env front sites none h = refl
attribute_here env front sites (more p ps) h =
    ap (λ z. with_piece (meant env sites p).piece (parts_meant z forms.AttributeNode false (meant env sites p).sites
    ps)) (h.0 env)
    ∙ ap (λ z. with_piece (meant env sites p).piece z) (attribute_here env false (meant env sites p).sites ps h.1)

attribute_extras : (m : Weights) (k : ℕ) (env : Env) (front : Bool) (parts : Forest) → Leaves parts →
    extras m k env forms.AttributeNode front parts ≡ extras_here m k env parts
unfolding later
attribute_extras m k env front none h = refl
attribute_extras m k env front (more p ps) h =
    ap (λ z. extra m k env p + extras m k z forms.AttributeNode false ps) (h.0 env) ∙
    ap (λ z. extra m k env p + z) (attribute_extras m k env false ps h.1)

attribute_sites : (env : Env) (sites : List Place) (w w' : List ℕ) (f l f' l' : ℕ) (parts : Forest) →
    AreExpressions parts →
    (meant env sites (node forms.HeadNode w f l (more (node forms.AttributeNode w' f' l' parts) none))).sites ≡
    (parts_here env sites parts).sites
unfolding meant parts_meant make inside
attribute_sites env sites w w' f l f' l' parts h =
    ap (λ (z : MadeParts). z.sites) (attribute_here env true sites parts (expressions_neutral parts h))

attribute_extra : (m : Weights) (k : ℕ) (env : Env) (w w' : List ℕ) (f l f' l' : ℕ) (parts : Forest) →
    AreExpressions parts → extra m k env
    (node forms.HeadNode w f l (more (node forms.AttributeNode w' f' l' parts) none)) ≡
    ((extras_here m k env parts + (0 + 16 * m.plain)) + 0) + (0 + 16 * m.plain)
unfolding inside
attribute_extra m k env w w' f l f' l' parts h =
    ap (λ z. ((z + (0 + 16 * m.plain)) + 0) + (0 + 16 * m.plain))
    (attribute_extras m k env true parts (expressions_neutral parts h))

head_none : (env : Env) (sites : List Place) (w : List ℕ) (f l : ℕ) →
    (meant env sites (node forms.HeadNode w f l none)).sites ≡ sites
unfolding meant parts_meant make
head_none env sites w f l = refl

head_weighs : (m : Weights) (k : ℕ) (env : Env) (sites : List Place) (t : Syntax) → IsHead t →
    ((x : ℕ) → m.named x ≡ 0) → env.owner.number ≡ k →
    held m (length sites) ≤ held m (length (meant env sites t).sites) + extra m k env t
head_weighs m k env sites (node forms.HeadNode w f l none) h z n = let e =
    ap (λ s. held m (length s)) (head_none env sites w f l) in omega arith
head_weighs m k env sites (node forms.HeadNode w f l (more (node forms.AttributeNode w' f' l' parts) none)) h z n =
    let e = ap (λ s. held m (length s)) (attribute_sites env sites w w' f l f' l' parts h) in
    let g = attribute_extra m k env w w' f l f' l' parts h in
    let x = all_hold m k env sites parts h (free_of m z env) n in
    omega arith
head_weighs m k env sites t h z n = absurd h

result_sites : (env : Env) (sites : List Place) (t : Syntax) → IsResult t → (meant env sites t).sites ≡ sites
unfolding meant parts_meant make inside
result_sites env sites (node forms.ResultNode w f l none) h = refl
result_sites env sites (node forms.ResultNode w f l (more t none)) h = type_sites env sites t h
result_sites env sites t h = absurd h

star_sites : (env : Env) (sites : List Place) (w : List ℕ) (f l : ℕ) →
    (meant env sites (node forms.StarNode w f l none)).sites ≡ sites
unfolding meant parts_meant make
star_sites env sites w f l = refl

param_sites : (env : Env) (sites : List Place) (t : Syntax) → IsParam t → (meant env sites t).sites ≡ sites
unfolding meant parts_meant make inside
param_sites env sites (node forms.ParamNode w f l (more t none)) h = type_sites env sites t h
param_sites env sites (node forms.ParamNode w f l (more t (more (node forms.StarNode w' f' l' none) none))) h =
    star_sites (later (behind env t) forms.ParamNode true t (kind_of env t)) (meant env sites t).sites w' f' l' ∙
    type_sites env sites t h
param_sites env sites t h = absurd h

all_param_sites : (env : Env) (front : Bool) (sites : List Place) (ps : Forest) → AreParams ps →
    (parts_meant env forms.ParamsNode front sites ps).sites ≡ sites
unfolding parts_meant
all_param_sites env front sites none h = refl
all_param_sites env front sites (more p ps) h =
    all_param_sites (later (behind env p) forms.ParamsNode front p (kind_of env p)) false (meant env sites p).sites ps
    h.1 ∙ param_sites env sites p h.0

params_sites : (env : Env) (sites : List Place) (t : Syntax) → IsParams t → (meant env sites t).sites ≡ sites
unfolding meant make inside
params_sites env sites (node forms.ParamsNode w f l ps) h = all_param_sites env true sites ps h
params_sites env sites t h = absurd h

-- ---- from part to part

-- behind a head, and behind a result
abbrev pub head_env : Env → Syntax → Env
head_env e t = in_owner e (record e.owner {
  kernel = e.owner.kernel || is_kernel_head t;
  sizes = or_sizes e.owner.sizes (head_sizes (parts_of t));
})

abbrev pub result_env : Env → Syntax → Env
result_env e t = in_owner e (record e.owner { result = yield_of (parts_of t) })

-- behind the name of a function, and behind that of a prototype
abbrev pub named_env : Env → Syntax → Env
named_env e t = named (result_env e t)

abbrev pub opened_env : Env → Syntax → Env
opened_env e t = opened (result_env e t)

abbrev pub params_env : Env → Syntax → Env
params_env e t = record (behind e t) { in_body = true }

-- a result is of the profile
result_inside : (asked : Asked) (env : Env) (role : Role) (t : Syntax) → IsResult t → SoundTree asked env role t →
    yield_of (parts_of t) ≢ yields.Outside
unfolding inside
result_inside asked env role (node forms.ResultNode w f l none) h s = λ e. apart e
  where
    is_outside : Yield → Bool
    is_outside yields.Outside = true
    is_outside y = false

    apart : yields.Nothing ≡ yields.Outside → ⊥
    apart e = false≢true (ap is_outside e)
result_inside asked env role (node forms.ResultNode w f l (more t none)) h s =
    let d = type_declares asked env _ t h s.0.0 in λ e. apart d.0 (sym (ap yield_by d.1) ∙ e)
  where
    is_outside : Yield → Bool
    is_outside yields.Outside = true
    is_outside y = false

    apart : (d : Declared) → yields.Number d.of ≡ yields.Outside → ⊥
    apart d e = false≢true (ap is_outside e)
result_inside asked env role t h s = absurd h

pub function_head : (e : Env) (front : Bool) (t : Syntax) (k : Option Kind) → IsHead t →
    later (behind e t) forms.FunctionNode front t k ≡ head_env e t
unfolding later
function_head e front (node forms.HeadNode w f l none) k h =
    ap (λ z. head_env z (node forms.HeadNode w f l none)) (head_leaves e (node forms.HeadNode w f l none) h)
function_head e front (node forms.HeadNode w f l (more (node forms.AttributeNode w' f' l' parts) none)) k h =
    ap (λ z. head_env z (node forms.HeadNode w f l (more (node forms.AttributeNode w' f' l' parts) none)))
    (head_leaves e (node forms.HeadNode w f l (more (node forms.AttributeNode w' f' l' parts) none)) h)
function_head e front t k h = absurd h

pub function_result : (e : Env) (front : Bool) (t : Syntax) (k : Option Kind) → IsResult t →
    later (behind e t) forms.FunctionNode front t k ≡ named_env e t
unfolding later
function_result e front (node forms.ResultNode w f l none) k h =
    ap (λ z. named_env z (node forms.ResultNode w f l none)) (result_leaves e (node forms.ResultNode w f l none) h)
function_result e front (node forms.ResultNode w f l (more t none)) k h =
    ap (λ z. named_env z (node forms.ResultNode w f l (more t none)))
    (result_leaves e (node forms.ResultNode w f l (more t none)) h)
function_result e front t k h = absurd h

pub function_params : (e : Env) (front : Bool) (t : Syntax) (k : Option Kind) → IsParams t →
    later (behind e t) forms.FunctionNode front t k ≡ params_env e t
unfolding later
function_params e front (node forms.ParamsNode w f l ps) k h = refl
function_params e front t k h = absurd h

prototype_head : (e : Env) (front : Bool) (t : Syntax) (k : Option Kind) → IsHead t →
    later (behind e t) forms.PrototypeNode front t k ≡ head_env e t
unfolding later
prototype_head e front (node forms.HeadNode w f l none) k h =
    ap (λ z. head_env z (node forms.HeadNode w f l none)) (head_leaves e (node forms.HeadNode w f l none) h)
prototype_head e front (node forms.HeadNode w f l (more (node forms.AttributeNode w' f' l' parts) none)) k h =
    ap (λ z. head_env z (node forms.HeadNode w f l (more (node forms.AttributeNode w' f' l' parts) none)))
    (head_leaves e (node forms.HeadNode w f l (more (node forms.AttributeNode w' f' l' parts) none)) h)
prototype_head e front t k h = absurd h

prototype_result : (e : Env) (front : Bool) (t : Syntax) (k : Option Kind) → IsResult t →
    later (behind e t) forms.PrototypeNode front t k ≡ opened_env e t
unfolding later
prototype_result e front (node forms.ResultNode w f l none) k h =
    ap (λ z. opened_env z (node forms.ResultNode w f l none)) (result_leaves e (node forms.ResultNode w f l none) h)
prototype_result e front (node forms.ResultNode w f l (more t none)) k h =
    ap (λ z. opened_env z (node forms.ResultNode w f l (more t none)))
    (result_leaves e (node forms.ResultNode w f l (more t none)) h)
prototype_result e front t k h = absurd h

prototype_params : (e : Env) (front : Bool) (t : Syntax) (k : Option Kind) → IsParams t →
    later (behind e t) forms.PrototypeNode front t k ≡ params_env e t
unfolding later
prototype_params e front (node forms.ParamsNode w f l ps) k h = refl
prototype_params e front t k h = absurd h

function_block : (e : Env) (front : Bool) (t : Syntax) (k : Option Kind) → IsBlock t →
    later (behind e t) forms.FunctionNode front t k ≡ behind e t
unfolding later
function_block e front (node forms.BlockNode w f l ps) k h = refl
function_block e front t k h = absurd h

-- what is visible behind the parameters of a function
pub record Entered (e eb : Env) (g : Signature) : Type 0 where
  pub frame : eb ≡ record e { scopes = eb.scopes; variables = eb.variables; owner = eb.owner; in_body = true }
  pub outer : (ts : List Scope) → SameOuter eb.scopes ts → take (length e.scopes) ts ≡ e.scopes
  pub deep : is_deep eb.scopes ≡ true
  pub new : List Variable
  pub variables : eb.variables ≡ e.variables ++ new
  pub kinds : ParamKinds (length e.variables) g.parameters new
  pub at : (P : Program) (f : Function) (ms : List (List ℕ)) → is_deep (opened e).scopes ≡ true → OwnFits P f ms e →
      ((n : ℕ) (v : Variable) → slice_get eb.variables n ≡ Some v → Holds f n v.kind × RootFits P f v.kind) →
      At P f ms (numbers_below (length e.variables)) e → At P f ms (numbers_below (length eb.variables)) eb
  pub number : eb.owner.number ≡ e.owner.number
  pub result : eb.owner.result ≡ g.result
  pub inside' : g.result ≢ yields.Outside

-- behind the result and the parameters
entered_by : (asked : Asked) (e : Env) (r p : Syntax) (name : List ℕ) (kernel : Bool) → IsResult r → IsParams p →
    SoundTree asked e roles.Other r → SoundTree asked (named_env e r) roles.Other p →
    Entered e (params_env (named_env e r) p) (record {
      name = name;
      kernel = kernel;
      result = yield_of (parts_of r);
      parameters = parameters_of (parts_of p);
    })
entered_by asked e r p name kernel hr hp sr sp =
    let e1 = result_env e r in
    let e2 = named_env e r in
    let own = own_scope e1 e1.owner.number (slice_get e1.functions e1.owner.number) in
    let deep2 : is_deep e2.scopes ≡ true = deep_twice e.scopes own empty_scope in
    let x = params_made asked e2 roles.Other p hp sp in
    record {
      frame = ap (λ (z : Env). record z { in_body = true }) x.frame ∙
          ap (λ (z : Owner). record e {
            scopes = (behind e2 p).scopes;
            variables = (behind e2 p).variables;
            owner = z;
            in_body = true;
          }) (sym (ap (λ (z : Env). z.owner) x.frame));
      outer = λ ts h. outer_twice e.scopes own empty_scope ts (outer_then e2.scopes (behind e2 p).scopes ts x.scopes h);
      deep = deep_outer e2.scopes (behind e2 p).scopes deep2 x.scopes;
      new = x.new;
      variables = x.variables;
      kinds = x.kinds;
      at = λ P f ms d own h a. at_later P f ms (numbers_below (length (behind e2 p).variables)) (behind e2 p)
          (params_env e2 p) refl refl (omega arith)
          (x.at P f ms deep2 h (at_own P f ms (numbers_below (length e.variables)) e1 d own
          (at_later P f ms (numbers_below (length e.variables)) e e1 refl refl (omega arith) a)));
      number = ap (λ (z : Env). z.owner.number) x.frame;
      result = ap (λ (z : Env). z.owner.result) x.frame;
      inside' = result_inside asked e roles.Other r hr sr;
    }

entered_head : (e eb : Env) (t : Syntax) (g : Signature) → Entered (head_env e t) eb g → Entered e eb g
entered_head e eb t g x = record {
  frame = x.frame;
  outer = x.outer;
  deep = x.deep;
  new = x.new;
  variables = x.variables;
  kinds = x.kinds;
  at = λ P f ms d own h a. x.at P f ms d own h (at_later P f ms (numbers_below (length e.variables)) e (head_env e t)
      refl refl (omega arith) a);
  number = x.number;
  result = x.result;
  inside' = x.inside';
}

-- ---- functions

-- the last of these parts is the block, and that is visible at it
abbrev pub Leads : Env → Bool → Forest → Env → Syntax → Type 0
Leads e front none eb block = ⊥
Leads e front (more b none) eb block = (e ≡ eb) × (b ≡ block)
Leads e front (more p (more q qs)) eb block =
    Leads (later (behind e p) forms.FunctionNode front p (kind_of e p)) false (more q qs) eb block

pub record Front (asked : Asked) (e : Env) (sites : List Place) (front : Bool) (g : Signature) (parts : Forest) : Type
    0 where
  pub eb : Env
  pub sb : List Place
  pub block : Syntax
  pub shape : IsBlock block
  pub sound : SoundTree asked eb roles.Other block
  pub entered : Entered e eb (with_parts g parts)
  pub kernel : e.owner.kernel ≡ g.kernel → eb.owner.kernel ≡ (with_parts g parts).kernel
  pub inner : behind_parts e forms.FunctionNode front parts ≡ behind eb block
  pub made : (parts_meant e forms.FunctionNode front sites parts).sites ≡ (meant eb sb block).sites
  pub last : last_piece (parts_meant e forms.FunctionNode front sites parts).pieces ≡ Some (meant eb sb block).piece
  pub weigh : (m : Weights) (k : ℕ) → ((x : ℕ) → m.named x ≡ 0) → e.owner.number ≡ k →
      held m (length sites) + extra m k eb block ≤ held m (length sb) + extras m k e forms.FunctionNode front parts
  pub nodes : block_nodes parts ≡ count_nodes block
  pub some : (t : Syntax) → block_nodes (more t parts) ≡ block_nodes parts
  pub leads : Leads e front parts eb block

-- the signature, from the parts behind the heads
signed : (g : Signature) (r p b : Syntax) → IsResult r → IsParams p → IsBlock b →
    with_parts g (more r (more p (more b none))) ≡ record g {
      result = yield_of (parts_of r);
      parameters = parameters_of (parts_of p);
    }
signed g (node forms.ResultNode w f l rs) (node forms.ParamsNode w' f' l' qs) (node forms.BlockNode w'' f'' l'' bs) hr
    hp hb = refl
signed g (node forms.ResultNode w f l rs) (node forms.ParamsNode w' f' l' qs) b hr hp hb = absurd hb
signed g (node forms.ResultNode w f l rs) p b hr hp hb = absurd hp
signed g r p b hr hp hb = absurd hr

parts_function : (e : Env) (front : Bool) (r p b : Syntax) → IsResult r → IsParams p → IsBlock b →
    behind_parts e forms.FunctionNode front (more r (more p (more b none))) ≡ behind (params_env (named_env e r) p) b
unfolding behind_parts
parts_function e front r p b hr hp hb =
    ap (λ z. behind_parts z forms.FunctionNode false (more p (more b none)))
    (function_result e front r (kind_of e r) hr)
    ∙ (ap (λ z. behind_parts z forms.FunctionNode false (more b none))
    (function_params (named_env e r) false p (kind_of (named_env e r) p) hp)
    ∙ function_block (params_env (named_env e r) p) false b (kind_of (params_env (named_env e r) p) b) hb)

abbrev three_pieces : Env → List Place → Syntax → Syntax → Syntax → MadeParts
three_pieces e sites r p b =
    let e1 = named_env e r in
    let e2 = params_env e1 p in
    let s1 = (meant e sites r).sites in
    let s2 = (meant e1 s1 p).sites in
    record {
      pieces = (meant e sites r).piece ∷ (meant e1 s1 p).piece ∷ (meant e2 s2 b).piece ∷ [];
      sites = (meant e2 s2 b).sites;
    }

meant_function : (e : Env) (front : Bool) (sites : List Place) (r p b : Syntax) → IsResult r → IsParams p →
    parts_meant e forms.FunctionNode front sites (more r (more p (more b none))) ≡ three_pieces e sites r p b
unfolding parts_meant
meant_function e front sites r p b hr hp =
    ap (λ z. with_piece (meant e sites r).piece (parts_meant z forms.FunctionNode false (meant e sites r).sites
    (more p (more b none)))) (function_result e front r (kind_of e r) hr)
    ∙ ap (λ z. with_piece (meant e sites r).piece (with_piece (meant (named_env e r) (meant e sites r).sites p).piece
    (parts_meant z forms.FunctionNode false (meant (named_env e r) (meant e sites r).sites p).sites
    (more b none)))) (function_params (named_env e r) false p (kind_of (named_env e r) p) hp)

extras_function : (m : Weights) (k : ℕ) (e : Env) (front : Bool) (r p b : Syntax) → IsResult r → IsParams p →
    extras m k e forms.FunctionNode front (more r (more p (more b none))) ≡ extra m k e r +
    (extra m k (named_env e r) p + (extra m k (params_env (named_env e r) p) b + 0))
extras_function m k e front r p b hr hp =
    ap (λ z. extra m k e r + extras m k z forms.FunctionNode false (more p (more b none)))
    (function_result e front r (kind_of e r) hr)
    ∙ ap (λ z. extra m k e r + (extra m k (named_env e r) p + extras m k z forms.FunctionNode false (more b none)))
    (function_params (named_env e r) false p (kind_of (named_env e r) p) hp)

pub sound_function : (asked : Asked) (e : Env) (b0 : Before) (r p b : Syntax) → IsResult r → IsParams p →
    SoundParts asked e forms.FunctionNode b0 (more r (more p (more b none))) → SoundTree asked e roles.Other r ×
    SoundTree asked (named_env e r) roles.Other p × SoundTree asked (params_env (named_env e r) p) roles.Other b
sound_function asked e b0 r p b hr hp s =
    let s1 = subst (λ z. SoundParts asked z forms.FunctionNode (Some (last_of r)) (more p (more b none)))
    (function_result e (is_front b0) r (kind_of e r) hr) s.1 in
    let s2 = subst (λ z. SoundParts asked z forms.FunctionNode (Some (last_of p)) (more b none))
    (function_params (named_env e r) false p (kind_of (named_env e r) p) hp) s1.1 in
    (s.0, s1.0, s2.0)

pub definition_front : (asked : Asked) (e : Env) (sites : List Place) (b0 : Before) (front : Bool) (g : Signature)
    (r p b : Syntax) → IsResult r → IsParams p → IsBlock b →
    SoundParts asked e forms.FunctionNode b0 (more r (more p (more b none))) →
    Front asked e sites front g (more r (more p (more b none)))
definition_front asked e sites b0 front g r p b hr hp hb s =
    let x = sound_function asked e b0 r p b hr hp s in
    let mm = meant_function e front sites r p b hr hp in
    let en = entered_by asked e r p g.name g.kernel hr hp x.0 x.1 in
    let sg = signed g r p b hr hp hb in
    record {
      eb = params_env (named_env e r) p;
      sb = (meant (named_env e r) (meant e sites r).sites p).sites;
      block = b;
      shape = hb;
      sound = x.2;
      entered = subst (λ z. Entered e (params_env (named_env e r) p) z) (sym sg) en;
      kernel = λ k. ap (λ (z : Env). z.owner.kernel) (params_made asked (named_env e r) roles.Other p hp x.1).frame ∙
          (k ∙ ap (λ (z : Signature). z.kernel) (sym sg));
      inner = parts_function e front r p b hr hp hb;
      made = ap (λ (z : MadeParts). z.sites) mm;
      last = ap (λ (z : MadeParts). last_piece z.pieces) mm;
      weigh = λ m k z n. (let a = ap (λ s. held m (length s)) (params_sites (named_env e r) (meant e sites r).sites p
          hp) in let c = ap (λ s. held m (length s)) (result_sites e sites r hr) in
          let d = extras_function m k e front r p b hr hp in omega arith);
      nodes = refl;
      some = λ t. refl;
      leads = (
        ap (λ z. later (behind z p) forms.FunctionNode false p (kind_of z p))
            (function_result e front r (kind_of e r) hr) ∙
            function_params (named_env e r) false p (kind_of (named_env e r) p) hp,
        refl,
      );
    }

-- its block stands behind the parameters
pub definition_block : (asked : Asked) (e : Env) (sites : List Place) (b0 : Before) (front : Bool) (g : Signature)
    (r p b : Syntax) (hr : IsResult r) (hp : IsParams p) (hb : IsBlock b)
    (s : SoundParts asked e forms.FunctionNode b0 (more r (more p (more b none)))) →
    ((definition_front asked e sites b0 front g r p b hr hp hb s).block ≡ b) ×
    ((definition_front asked e sites b0 front g r p b hr hp hb s).eb ≡ params_env (named_env e r) p)
unfolding definition_front
definition_block asked e sites b0 front g r p b hr hp hb s = (refl, refl)

-- behind a head
pub head_front : (asked : Asked) (e : Env) (sites : List Place) (front : Bool) (g : Signature) (w : List ℕ) (f l : ℕ)
    (hs ps : Forest) → IsHead (node forms.HeadNode w f l hs) →
    Front asked (head_env e (node forms.HeadNode w f l hs)) (meant e sites (node forms.HeadNode w f l hs)).sites false
    (record g { kernel = g.kernel || is_kernel_head (node forms.HeadNode w f l hs) }) ps →
    Front asked e sites front g (more (node forms.HeadNode w f l hs) ps)
unfolding behind_parts parts_meant
head_front asked e sites front g w f l hs ps h x =
    let t = node forms.HeadNode w f l hs in
    let hd = function_head e front t (kind_of e t) h in
    record {
      eb = x.eb;
      sb = x.sb;
      block = x.block;
      shape = x.shape;
      sound = x.sound;
      entered = entered_head e x.eb t (with_parts g (more t ps)) x.entered;
      kernel = λ k. x.kernel (ap (λ z. z || is_kernel_head t) k);
      inner = ap (λ z. behind_parts z forms.FunctionNode false ps) hd ∙ x.inner;
      made = ap (λ z. (parts_meant z forms.FunctionNode false (meant e sites t).sites ps).sites) hd ∙ x.made;
      last = last_behind (meant e sites t).piece
          (parts_meant (later (behind e t) forms.FunctionNode front t (kind_of e t)) forms.FunctionNode false
          (meant e sites t).sites ps).pieces (meant x.eb x.sb x.block).piece
          (ap (λ z. last_piece (parts_meant z forms.FunctionNode false (meant e sites t).sites ps).pieces) hd ∙ x.last);
      weigh = λ m k z n. (let a = x.weigh m k z n in let c = head_weighs m k e sites t h z n in
          let d = ap (λ y. extras m k y forms.FunctionNode false ps) hd in omega arith);
      nodes = x.some t ∙ x.nodes;
      some = λ u. refl;
      leads = leads_on ps x.leads;
    }
  where
    leads_on : (qs : Forest) → Leads (head_env e (node forms.HeadNode w f l hs)) false qs x.eb x.block →
        Leads e front (more (node forms.HeadNode w f l hs) qs) x.eb x.block
    leads_on none k = absurd k
    leads_on (more q qs) k =
        let t = node forms.HeadNode w f l hs in
        subst (λ z. Leads z false (more q qs) x.eb x.block) (sym (function_head e front t (kind_of e t) h)) k

    last_behind : (p : Piece) (ps : List Piece) (q : Piece) → last_piece ps ≡ Some q → last_piece (p ∷ ps) ≡ Some q
    last_behind p [] q e = absurd (none-some q e)
    last_behind p (r ∷ rs) q e = e

-- with the same block
pub head_block : (asked : Asked) (e : Env) (sites : List Place) (front : Bool) (g : Signature) (w : List ℕ) (f l : ℕ)
    (hs ps : Forest) (h : IsHead (node forms.HeadNode w f l hs))
    (x : Front asked (head_env e (node forms.HeadNode w f l hs)) (meant e sites (node forms.HeadNode w f l hs)).sites
    false (record g { kernel = g.kernel || is_kernel_head (node forms.HeadNode w f l hs) }) ps) →
    ((head_front asked e sites front g w f l hs ps h x).block ≡ x.block) ×
    ((head_front asked e sites front g w f l hs ps h x).eb ≡ x.eb)
unfolding head_front
head_block asked e sites front g w f l hs ps h x = (refl, refl)

pub function_front : (asked : Asked) (e : Env) (sites : List Place) (b0 : Before) (front : Bool) (g : Signature)
    (parts : Forest) → BehindHeads IsDefinition parts → SoundParts asked e forms.FunctionNode b0 parts →
    Front asked e sites front g parts
function_front asked e sites b0 front g none h s = absurd h
function_front asked e sites b0 front g (more (node forms.HeadNode w f l hs) ps) (inl h) s =
    let t = node forms.HeadNode w f l hs in
    head_front asked e sites front g w f l hs ps h.0
    (function_front asked (head_env e t) (meant e sites t).sites (Some (last_of t)) false
    (record g { kernel = g.kernel || is_kernel_head t }) ps h.1
    (subst (λ z. SoundParts asked z forms.FunctionNode (Some (last_of t)) ps)
    (function_head e (is_front b0) t (kind_of e t) h.0) s.1))
function_front asked e sites b0 front g (more (node form w f l hs) ps) (inl h) s = absurd h.0
function_front asked e sites b0 front g (more (node form w f l hs) (more p (more b none))) (inr h) s =
    definition_front asked e sites b0 front g (node form w f l hs) p b h.0 h.1 h.2 s
function_front asked e sites b0 front g (more (node form w f l hs) none) (inr h) s = absurd h
function_front asked e sites b0 front g (more (node form w f l hs) (more p none)) (inr h) s = absurd h
function_front asked e sites b0 front g (more (node form w f l hs) (more p (more b (more c cs)))) (inr h) s = absurd h

-- ---- prototypes

pub record Fore (asked : Asked) (e : Env) (sites : List Place) (front : Bool) (parts : Forest) : Type 0 where
  pub eb : Env
  pub frame : eb ≡ record e { scopes = eb.scopes; variables = eb.variables; owner = eb.owner; in_body = true }
  pub outer : take (length e.scopes) eb.scopes ≡ e.scopes
  pub inner : behind_parts e forms.PrototypeNode front parts ≡ eb
  pub weigh : (m : Weights) (k : ℕ) → ((x : ℕ) → m.named x ≡ 0) → e.owner.number ≡ k →
      held m (length sites) ≤ held m (length (parts_meant e forms.PrototypeNode front sites parts).sites) +
      extras m k e forms.PrototypeNode front parts

parts_prototype : (e : Env) (front : Bool) (r p : Syntax) → IsResult r → IsParams p →
    behind_parts e forms.PrototypeNode front (more r (more p none)) ≡ params_env (opened_env e r) p
unfolding behind_parts
parts_prototype e front r p hr hp =
    ap (λ z. behind_parts z forms.PrototypeNode false (more p none)) (prototype_result e front r (kind_of e r) hr)
    ∙ prototype_params (opened_env e r) false p (kind_of (opened_env e r) p) hp

sites_prototype : (e : Env) (front : Bool) (sites : List Place) (r p : Syntax) → IsResult r → IsParams p →
    (parts_meant e forms.PrototypeNode front sites (more r (more p none))).sites ≡ sites
unfolding parts_meant
sites_prototype e front sites r p hr hp =
    params_sites (later (behind e r) forms.PrototypeNode front r (kind_of e r)) (meant e sites r).sites p hp ∙
    result_sites e sites r hr

sound_prototype : (asked : Asked) (e : Env) (b0 : Before) (r p : Syntax) → IsResult r → IsParams p →
    SoundParts asked e forms.PrototypeNode b0 (more r (more p none)) → SoundTree asked e roles.Other r ×
    SoundTree asked (opened_env e r) roles.Other p
sound_prototype asked e b0 r p hr hp s =
    let s1 = subst (λ z. SoundParts asked z forms.PrototypeNode (Some (last_of r)) (more p none))
    (prototype_result e (is_front b0) r (kind_of e r) hr) s.1 in
    (s.0, s1.0)

head_fore : (asked : Asked) (e : Env) (sites : List Place) (front : Bool) (t : Syntax) (ps : Forest) → IsHead t →
    Fore asked (head_env e t) (meant e sites t).sites false ps → Fore asked e sites front (more t ps)
unfolding behind_parts parts_meant
head_fore asked e sites front t ps h x =
    let hd = prototype_head e front t (kind_of e t) h in
    record {
      eb = x.eb;
      frame = x.frame;
      outer = x.outer;
      inner = ap (λ z. behind_parts z forms.PrototypeNode false ps) hd ∙ x.inner;
      weigh = λ m k z n. (let a = x.weigh m k z n in let c = head_weighs m k e sites t h z n in
          let d = ap (λ y. extras m k y forms.PrototypeNode false ps) hd in
          let i = ap (λ y. held m (length (parts_meant y forms.PrototypeNode false (meant e sites t).sites
          ps).sites)) hd in omega arith);
    }

announcement_fore : (asked : Asked) (e : Env) (sites : List Place) (b0 : Before) (front : Bool) (r p : Syntax) →
    IsResult r → IsParams p → SoundParts asked e forms.PrototypeNode b0 (more r (more p none)) →
    Fore asked e sites front (more r (more p none))
announcement_fore asked e sites b0 front r p hr hp s =
    let e2 = opened_env e r in
    let x = params_made asked e2 roles.Other p hp (sound_prototype asked e b0 r p hr hp s).1 in
    record {
      eb = params_env e2 p;
      frame = ap (λ (z : Env). record z { in_body = true }) x.frame ∙
          ap (λ (z : Owner). record e {
            scopes = (behind e2 p).scopes;
            variables = (behind e2 p).variables;
            owner = z;
            in_body = true;
          }) (sym (ap (λ (z : Env). z.owner) x.frame));
      outer = outer_closed e.scopes empty_scope (behind e2 p).scopes x.scopes;
      inner = parts_prototype e front r p hr hp;
      weigh = λ m k z n. (let a = ap (λ s. held m (length s)) (sites_prototype e front sites r p hr hp) in omega arith);
    }

pub prototype_fore : (asked : Asked) (e : Env) (sites : List Place) (b0 : Before) (front : Bool) (parts : Forest) →
    BehindHeads IsAnnouncement parts → SoundParts asked e forms.PrototypeNode b0 parts → Fore asked e sites front parts
prototype_fore asked e sites b0 front none h s = absurd h
prototype_fore asked e sites b0 front (more (node form w f l hs) ps) (inl h) s =
    let t = node form w f l hs in
    head_fore asked e sites front t ps h.0 (prototype_fore asked (head_env e t) (meant e sites t).sites
    (Some (last_of t)) false ps h.1 (subst (λ z. SoundParts asked z forms.PrototypeNode (Some (last_of t)) ps)
    (prototype_head e (is_front b0) t (kind_of e t) h.0) s.1))
prototype_fore asked e sites b0 front (more (node form w f l hs) (more p none)) (inr h) s =
    announcement_fore asked e sites b0 front (node form w f l hs) p h.0 h.1 s
prototype_fore asked e sites b0 front (more (node form w f l hs) none) (inr h) s = absurd h
prototype_fore asked e sites b0 front (more (node form w f l hs) (more p (more b bs))) (inr h) s = absurd h
