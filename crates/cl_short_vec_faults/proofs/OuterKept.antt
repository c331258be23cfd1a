-- Behind any tree the scopes around it are as they were, but for the innermost one.
use Rattle.std.proofs.Common.{◌≡◌, ℕ, suc, List, [], ◌∷◌, ◌++◌, length, take, Option, None, Some, Bool}
use Rattle.std.proofs.Common.{true, false, nat_eq, if◌then◌else◌, refl, ap, sym, ◌∙◌, subst}
use Rattle.cl_tree.specs.declared.tree.Form.{Form}
use Rattle.cl_tree.specs.declared.tree.Form.TheVariants as forms
use Rattle.cl_tree.specs.Syntax.{Syntax, node, Forest, none, more}
use Rattle.cl_meaning.specs.Spelling.{name_in}
use Rattle.cl_meaning.specs.declared.types.Declared.{Declared}
use Rattle.cl_model.specs.declared.program.Space.{Space}
use Rattle.cl_model.specs.declared.program.Space.TheVariants as spaces
use Rattle.cl_meaning.specs.declared.kind.Kind.{Kind}
use Rattle.cl_meaning.specs.declared.kind.Meaning.{Meaning}
use Rattle.cl_meaning.specs.Environment.{Env, Scope, Array, Labels, at_unit, empty_scope, into_last}
use Rattle.cl_meaning.specs.Declarations.{Declarator, declarator_in, form_of, last_kind, with_declarator}
use Rattle.cl_meaning.specs.Declarations.{with_array, with_scalar, with_elements, with_parameter, kept_in}
use Rattle.cl_meaning.specs.Declarations.{dims_of, or_none, first_type, second_star}
use Rattle.cl_meaning.specs.Visible.{inside, later, behind, behind_parts, kinds_of, kind_of, left, restored}
use Rattle.cl_meaning.specs.Visible.{announced, behind_part, behind_prototype_part, behind_type, behind_value}
use Rattle.cl_meaning.specs.Visible.{with_own, with_prototype, opened, apart, named, behind_result, behind_label}
use Rattle.cl_meaning.specs.Visible.{defined_meaning, definition_of}
use Rattle.cl_check_sound.proofs.Grown.{SameOuter, outer_same, outer_then, outer_into, outer_closed, outer_whole}

-- the outer scopes are kept, and there may be more
abbrev pub OuterKept : List Scope → List Scope → Type 0
OuterKept ss ts = SameOuter ss (take (length ss) ts)

pub take_all : (ss : List Scope) → take (length ss) ss ≡ ss
take_all [] = refl
take_all (s ∷ ss) = ap (λ z. s ∷ z) (take_all ss)

take_front : (ss ts : List Scope) → take (length ss) (ss ++ ts) ≡ ss
take_front [] [] = refl
take_front [] (t ∷ ts) = refl
take_front (s ∷ ss) ts = ap (λ z. s ∷ z) (take_front ss ts)

pub kept_same : (ss : List Scope) → OuterKept ss ss
kept_same ss = subst (SameOuter ss) (sym (take_all ss)) (outer_same ss)

pub kept_more : (ss ts : List Scope) → OuterKept ss (ss ++ ts)
kept_more ss ts = subst (SameOuter ss) (sym (take_front ss ts)) (outer_same ss)

pub kept_outer : (ss ts : List Scope) → SameOuter ss ts → OuterKept ss ts
kept_outer ss ts h = subst (SameOuter ss) (sym (outer_whole ss ts h)) h

-- of so many scopes, and of fewer of them
take_less : (ss ts us : List Scope) → SameOuter ss (take (length ss) ts) →
    take (length ss) (take (length ts) us) ≡ take (length ss) us
take_less [] ts [] h = zero_take (take (length ts) [])
  where
    zero_take : (zs : List Scope) → take 0 zs ≡ []
    zero_take [] = refl
    zero_take (z ∷ zs) = refl
take_less [] ts (u ∷ us) h = zero_take (take (length ts) (u ∷ us))
  where
    zero_take : (zs : List Scope) → take 0 zs ≡ []
    zero_take [] = refl
    zero_take (z ∷ zs) = refl
take_less (s ∷ []) [] us h = absurd h
take_less (s ∷ []) (t ∷ ts) [] h = refl
take_less (s ∷ []) (t ∷ ts) (u ∷ us) h = ap (λ z. u ∷ z) (less_one (take (length ts) us) us)
  where
    less_one : (zs ys : List Scope) → take 0 zs ≡ take 0 ys
    less_one [] [] = refl
    less_one [] (y ∷ ys) = refl
    less_one (z ∷ zs) [] = refl
    less_one (z ∷ zs) (y ∷ ys) = refl
take_less (s ∷ (r ∷ rs)) [] us h = absurd h
take_less (s ∷ (r ∷ rs)) (t ∷ []) us h = absurd h
take_less (s ∷ (r ∷ rs)) (t ∷ (p ∷ ps)) [] h = refl
take_less (s ∷ (r ∷ rs)) (t ∷ (p ∷ ps)) (u ∷ us) h =
    ap (λ z. u ∷ z) (take_less (r ∷ rs) (p ∷ ps) us h.1)

outer_less : (ss ts us : List Scope) → SameOuter ss (take (length ss) ts) → SameOuter ts us →
    SameOuter (take (length ss) ts) (take (length ss) us)
outer_less [] [] [] h k = tt
outer_less [] (t ∷ []) (u ∷ []) h k = tt
outer_less [] (t ∷ (p ∷ ps)) (u ∷ (q ∷ qs)) h k = tt
outer_less (s ∷ []) [] us h k = absurd h
outer_less (s ∷ []) (t ∷ []) (u ∷ []) h k = tt
outer_less (s ∷ []) (t ∷ (p ∷ ps)) (u ∷ (q ∷ qs)) h k = tt
outer_less (s ∷ (r ∷ rs)) [] us h k = absurd h
outer_less (s ∷ (r ∷ rs)) (t ∷ []) us h k = absurd h
outer_less (s ∷ (r ∷ rs)) (t ∷ (p ∷ ps)) (u ∷ (q ∷ qs)) h k =
    (k.0, outer_less (r ∷ rs) (p ∷ ps) (q ∷ qs) h.1 k.1)
outer_less (s ∷ (r ∷ rs)) (t ∷ (p ∷ ps)) (u ∷ []) h k = absurd k
outer_less (s ∷ (r ∷ rs)) (t ∷ (p ∷ ps)) [] h k = absurd k
outer_less (s ∷ []) (t ∷ []) (u ∷ (q ∷ qs)) h k = absurd k
outer_less (s ∷ []) (t ∷ []) [] h k = absurd k
outer_less (s ∷ []) (t ∷ (p ∷ ps)) (u ∷ []) h k = absurd k
outer_less (s ∷ []) (t ∷ (p ∷ ps)) [] h k = absurd k
outer_less [] [] (u ∷ us) h k = absurd k
outer_less [] (t ∷ []) [] h k = absurd k
outer_less [] (t ∷ []) (u ∷ (q ∷ qs)) h k = absurd k
outer_less [] (t ∷ (p ∷ ps)) [] h k = absurd k
outer_less [] (t ∷ (p ∷ ps)) (u ∷ []) h k = absurd k

pub kept_then : (ss ts us : List Scope) → OuterKept ss ts → OuterKept ts us → OuterKept ss us
kept_then ss ts us h k = outer_then ss (take (length ss) ts) (take (length ss) us) h
    (subst (SameOuter (take (length ss) ts)) (take_less ss ts us h) (outer_less ss ts (take (length ts) us) h k))

-- ---- names that are declared

behind_array : (env : Env) (a : Array) (bytes : List ℕ) (m : Meaning) → SameOuter env.scopes
    (with_array env a bytes m).scopes
behind_array env a bytes m = by (at_unit env)
  where
    by : (b : Bool) → SameOuter env.scopes (if b
        then record env {
          tables = env.tables ++ record { array = a; bytes = bytes } ∷ [];
          scopes = into_last env.scopes a.name (record { meaning = m; firm = true });
        }
        else record env {
          arrays = env.arrays ++ a ∷ [];
          scopes = into_last env.scopes a.name (record { meaning = m; firm = true });
        }).scopes
    by true = outer_into env.scopes a.name _
    by false = outer_into env.scopes a.name _

behind_scalar : (env : Env) (d : Declared) (x : Declarator) (s : Space) → SameOuter env.scopes
    (with_scalar env d x s).scopes
behind_scalar env d x spaces.Private = outer_into env.scopes x.name _
behind_scalar env d x s = behind_array env _ _ _

unstarred_outer : (env : Env) (d : Declared) (x : Declarator) (b : Bool) →
    SameOuter env.scopes (if b then with_scalar env d x (kept_in env d) else
    with_elements env d x (kept_in env d) (or_none (dims_of x))).scopes
unstarred_outer env d x true = behind_scalar env d x (kept_in env d)
unstarred_outer env d x false = behind_array env _ _ _

declarator_outer : (env : Env) (o : Option Declared) (x : Declarator) (k : Option Kind) →
    SameOuter env.scopes (with_declarator env o x k).scopes
declarator_outer env None x k = outer_same env.scopes
declarator_outer env (Some d) x k = by x.star
  where
    by : (o : Option Bool) → SameOuter env.scopes (with_declarator env (Some d) (record x { star = o }) k).scopes
    by (Some fixed) = outer_into env.scopes x.name _
    by None = unstarred_outer env d (record x { star = None }) (nat_eq x.dimensions 0)

parameter_outer : (env : Env) (name : List ℕ) (token : ℕ) (o : Option Declared) (star : Option Bool) →
    SameOuter env.scopes (with_parameter env name token o star).scopes
parameter_outer env name token None star = outer_same env.scopes
parameter_outer env name token (Some d) None = outer_into env.scopes name _
parameter_outer env name token (Some d) (Some fixed) = outer_into env.scopes name _

-- ---- on the way in, from part to part and on the way out

opened_more : (env : Env) → OuterKept env.scopes (opened env).scopes
opened_more env = kept_more env.scopes (empty_scope ∷ [])

block_more : (env : Env) → OuterKept env.scopes (inside env forms.BlockNode []).scopes
unfolding inside
block_more env = by env.in_body
  where
    by : (b : Bool) →
        OuterKept env.scopes (if b then record env { in_body = false; labels = None } else opened (apart env)).scopes
    by true = kept_same env.scopes
    by false = kept_more env.scopes (empty_scope ∷ [])

inside_kept : (form : Form) (env : Env) (w : List ℕ) → OuterKept env.scopes (inside env form w).scopes
unfolding inside
inside_kept forms.BlockNode env w = block_more env
inside_kept forms.ForNode env w = kept_more env.scopes (empty_scope ∷ [])
inside_kept _ env w = kept_same env.scopes

part_kept : (form : Form) (env : Env) (p : Syntax) → OuterKept env.scopes (behind_part env form p).scopes
part_kept forms.ResultNode env p = kept_then env.scopes (with_own (behind_result env p)).scopes
    (named (behind_result env p)).scopes (kept_more env.scopes _) (kept_more (with_own (behind_result env p)).scopes _)
part_kept forms.HeadNode env p = kept_same env.scopes
part_kept forms.ParamsNode env p = kept_same env.scopes
part_kept _ env p = kept_same env.scopes

prototype_kept : (form : Form) (env : Env) (p : Syntax) →
    OuterKept env.scopes (behind_prototype_part env form p).scopes
prototype_kept forms.ResultNode env p = kept_more env.scopes (empty_scope ∷ [])
prototype_kept forms.HeadNode env p = kept_same env.scopes
prototype_kept forms.ParamsNode env p = kept_same env.scopes
prototype_kept _ env p = kept_same env.scopes

type_kept : (form : Form) (env : Env) (p : Syntax) → OuterKept env.scopes (behind_type env form p).scopes
type_kept forms.TypeNode env p = kept_same env.scopes
type_kept _ env p = kept_same env.scopes

value_kept : (o : Option Labels) (env : Env) (k : Option Kind) → OuterKept env.scopes (behind_value env o k).scopes
value_kept None env k = kept_same env.scopes
value_kept (Some l) env k = kept_same env.scopes

label_kept : (front : Bool) (env : Env) (p : Syntax) → OuterKept env.scopes (behind_label env front p).scopes
label_kept true env p = kept_same env.scopes
label_kept false env p = kept_same env.scopes

later_kept : (form : Form) (env : Env) (front : Bool) (p : Syntax) (k : Option Kind) →
    OuterKept env.scopes (later env form front p k).scopes
unfolding later
later_kept forms.FunctionNode env front p k = part_kept (form_of p) env p
later_kept forms.PrototypeNode env front p k = prototype_kept (form_of p) env p
later_kept forms.DeclareNode env front p k = type_kept (form_of p) env p
later_kept forms.SwitchNode env front p k = value_kept env.labels env k
later_kept forms.CaseNode env front p k = label_kept front env p
later_kept _ env front p k = kept_same env.scopes

restored_scopes : (form : Form) (env inner : Env) →
    (restored form env inner).scopes ≡ take (length env.scopes) inner.scopes
unfolding restored
restored_scopes forms.FunctionNode env inner = refl
restored_scopes forms.PrototypeNode env inner = refl
restored_scopes forms.BlockNode env inner = refl
restored_scopes forms.IfNode env inner = refl
restored_scopes forms.WhileNode env inner = refl
restored_scopes forms.DoNode env inner = refl
restored_scopes forms.ForNode env inner = refl
restored_scopes forms.SwitchNode env inner = refl
restored_scopes forms.CaseNode env inner = refl
restored_scopes forms.DefaultNode env inner = refl
restored_scopes _ env inner = refl

prototype_outer : (env : Env) (name : List ℕ) → SameOuter env.scopes (with_prototype env name).scopes
prototype_outer env name = by (announced env name)
  where
    by : (b : Bool) → SameOuter env.scopes (if b then record env {
      scopes = into_last env.scopes name (record { meaning = defined_meaning (definition_of env name); firm = false });
    } else env).scopes
    by true = outer_into env.scopes name _
    by false = outer_same env.scopes

left_outer : (form : Form) (env inner : Env) (w : List ℕ) (f l : ℕ) (parts : Forest) (ks : List (Option Kind)) →
    SameOuter env.scopes (left env inner form w f l parts ks).scopes
unfolding left
left_outer forms.FunctionNode env inner w f l parts ks = outer_into env.scopes (name_in w) _
left_outer forms.PrototypeNode env inner w f l parts ks = prototype_outer env (name_in w)
left_outer forms.ParamNode env inner w f l parts ks =
    parameter_outer env (name_in w) l (first_type parts) (second_star parts)
left_outer forms.DeclaratorNode env inner w f l parts ks =
    declarator_outer env env.declared (declarator_in w f parts) (last_kind ks)
left_outer forms.CaseNode env inner w f l parts ks = outer_same env.scopes
left_outer forms.DefaultNode env inner w f l parts ks = outer_same env.scopes
left_outer _ env inner w f l parts ks = outer_same env.scopes

-- ---- through a tree

mutual
  unfolding behind behind_parts

  -- behind a tree the outer scopes are as they were
  pub behind_outer : (t : Syntax) (env : Env) → SameOuter env.scopes (behind env t).scopes
  behind_outer (node form w f l parts) env =
      let inner = behind_parts (inside env form w) form true parts in
      let a = kept_then env.scopes (inside env form w).scopes inner.scopes (inside_kept form env w)
      (parts_kept parts form true (inside env form w)) in
      let b = subst (SameOuter env.scopes) (sym (restored_scopes form env inner)) a in
      outer_then env.scopes (restored form env inner).scopes
      (behind env (node form w f l parts)).scopes b
      (left_outer form (restored form env inner) inner w f l parts (kinds_of (inside env form w) form true parts))

  -- and behind some parts of one
  pub parts_kept : (parts : Forest) (form : Form) (front : Bool) (env : Env) →
      OuterKept env.scopes (behind_parts env form front parts).scopes
  parts_kept none form front env = kept_same env.scopes
  parts_kept (more p ps) form front env =
      let m = behind env p in
      let n = later m form front p (kind_of env p) in
      kept_then env.scopes n.scopes (behind_parts n form false ps).scopes
      (kept_then env.scopes m.scopes n.scopes (kept_outer env.scopes m.scopes (behind_outer p env))
      (later_kept form m front p (kind_of env p))) (parts_kept ps form false n)

-- in front of the scope that was opened
pub front_kept : (ss : List Scope) (e : Scope) (ts : List Scope) → OuterKept (ss ++ e ∷ []) ts →
    take (length ss) ts ≡ ss
front_kept ss e ts h = sym (take_less ss (ss ++ e ∷ []) ts (kept_more ss (e ∷ []))) ∙
    outer_closed ss e (take (length (ss ++ e ∷ [])) ts) h

-- there are as many scopes
pub outer_length : (ss ts : List Scope) → SameOuter ss ts → length ts ≡ length ss
outer_length [] [] h = refl
outer_length (s ∷ []) (t ∷ []) h = refl
outer_length (s ∷ (r ∷ rs)) (t ∷ (u ∷ us)) h = ap suc (outer_length (r ∷ rs) (u ∷ us) h.1)
outer_length [] (t ∷ ts) h = absurd h
outer_length (s ∷ []) [] h = absurd h
outer_length (s ∷ []) (t ∷ (u ∷ us)) h = absurd h
outer_length (s ∷ (r ∷ rs)) [] h = absurd h
outer_length (s ∷ (r ∷ rs)) (t ∷ []) h = absurd h
